use Rattle.std.proofs.Common.{◌≡◌, ◌&&◌, ◌∙◌, ap, sym, refl, Bool, true, false, is_some, Some, None}
use Rattle.std.specs.Prelude.{nat_lt, is_none}
use Rattle.std.specs.declared.option.Option.{Option}
use Rattle.std.specs.FinMap as finite
use Rattle.std.proofs.lemmas.Bool.{lt-ltb, le-ltb}
use Rattle.std.proofs.lemmas.Result.{on_ok_weaker}
use Rattle.clone_outside.specs.Disk.{with_removed}
use Rattle.clone_overlay.specs.Covers.{Cover, covers_of}
use Rattle.clone_overlay.specs.Images.{redo_space}
use Rattle.clone_outside.proofs.DiskCallLemmas.{takes_work}
use Rattle.clone_recover.proofs.Loops.{not_made, is_made}
use Rattle.clone_recover.proofs.writing.remove_if_gone.Goals as goal

not_none : (b : Bool) (o : Option Cover) → is_some o ≡ true → (b && is_none o) ≡ false
not_none b None is = cc
not_none true (Some cover) is = refl
not_none false (Some cover) is = refl

is_gone : (b : Bool) (o : Option Cover) → b ≡ true → is_some o ≡ false → (b && is_none o) ≡ true
is_gone b None low is = ap (λ (x : Bool). x && true) low
is_gone b (Some cover) low is = cc

pub returns-then-space-ge-REDO_SPACE-clause-removed : goal.returns-then-space-ge-REDO_SPACE-clause-removed
returns-then-space-ge-REDO_SPACE-clause-removed g c =
    let o = finite.get (covers_of c.args.sheets.now.entries) c.args.space in
    let told = (g.R.PageDisk.state c.args.disk.now).told in
    not_made told told (nat_lt c.args.space redo_space && is_none o) (λ m. with_removed m c.args.space) refl (ap (λ (b : Bool). b && is_none o) (le-ltb c.args.space redo_space c.if-space-ge-REDO_SPACE.true))

pub returns-then-has_sheet-clause-removed : goal.returns-then-has_sheet-clause-removed
returns-then-has_sheet-clause-removed g c =
    let o = finite.get (covers_of c.args.sheets.now.entries) c.args.space in
    let told = (g.R.PageDisk.state c.args.disk.now).told in
    not_made told told (nat_lt c.args.space redo_space && is_none o) (λ m. with_removed m c.args.space) refl (not_none (nat_lt c.args.space redo_space) o (sym c.has_sheet.ensures ∙ c.if-has_sheet.true))

pub returns-clause-removed : goal.returns-clause-removed
returns-clause-removed g c =
    let o = finite.get (covers_of c.args.sheets.now.entries) c.args.space in
    on_ok_weaker c.remove.result
    (λ made. is_made (g.R.PageDisk.state c.args.disk.now).told (g.R.PageDisk.state c.remove.new.self).told (nat_lt c.args.space redo_space && is_none o) (λ m. with_removed m c.args.space) made
    (is_gone (nat_lt c.args.space redo_space) o (lt-ltb c.args.space redo_space c.if-space-ge-REDO_SPACE.false) (sym c.has_sheet.ensures ∙ c.if-has_sheet.false)))
    c.remove.ensures.takes.done

pub returns-clause-works : goal.returns-clause-works
returns-clause-works g c = takes_work c.remove.result c.remove.ensures.takes

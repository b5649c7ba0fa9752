use Rattle.std.proofs.Common.{◌∙◌, ap, sym, is_some}
use Rattle.std.proofs.lemmas.Result.{on_ok_weaker}
use Rattle.clone_overlay.specs.Answers.{nowhere, within}
use Rattle.clone_overlay.specs.Covers.{covers_of}
use Rattle.clone_overlay.proofs.Entries.{get_cover, set_cover}
use Rattle.clone_overlay.proofs.overlay.fetch_in.Goals as goal

pub returns-in-Some-clause-ok : goal.returns-in-Some-clause-ok
returns-in-Some-clause-ok g c =
    let w = c.fetch.new.self in
    let there = c.in-Some.ensures.value in
    let set = set_cover c.args.sheets.now (c.get_mut.follows.lender w) c.args.space w ((c.get_mut.follows.holds w).3 (ap is_some (sym there))) in
    on_ok_weaker c.fetch.result (λ f. within c.in-Some.sheet.now w (get_cover c.args.sheets.now c.args.space ∙ sym there) f set) c.fetch.ensures.ok

pub returns-in-Some-clause-header : goal.returns-in-Some-clause-header
returns-in-Some-clause-header g c = λ e. record {
  cover = c.in-Some.sheet.now;
  there = get_cover c.args.sheets.now c.args.space ∙ sym c.in-Some.ensures.value;
  gives = c.fetch.ensures.header e;
}

pub returns-in-None-clause-ok : goal.returns-in-None-clause-ok
returns-in-None-clause-ok g c = nowhere (get_cover c.args.sheets.now c.args.space ∙ sym c.in-None.ensures.value) (ap (λ m. covers_of m.entries) c.get_mut.follows.holds-at-none)

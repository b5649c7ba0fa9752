use Rattle.std.proofs.Common.{◌∙◌, ap}
use Rattle.clone_mtr.specs.Effects.{effect}
use Rattle.clone_mtr.specs.References.{record_of}
use Rattle.clone_overlay.specs.Covers.{covers_of, with_leaf}
use Rattle.clone_overlay.proofs.Entries.{changed_cover, absent_cover}
use Rattle.clone_overlay.proofs.overlay.change_in.Goals as goal

pub returns-in-Some : goal.returns-in-Some
returns-in-Some c =
    let w = c.change.new.self in
    changed_cover c.args.sheets.now (c.get_mut.follows.lender w) c.args.space c.in-Some.sheet.now w (with_leaf c.args.number (effect c.args.lsn (record_of c.args.entry.now))) c.in-Some.ensures.value (c.get_mut.follows.holds w).3 c.change.ensures

pub returns-in_default : goal.returns-in_default
returns-in_default c = ap (λ m. covers_of m.entries) c.get_mut.follows.holds-at-none ∙ absent_cover c.args.sheets.now c.args.space (with_leaf c.args.number (effect c.args.lsn (record_of c.args.entry.now))) c.in_default.ensures.value

use Rattle.std.proofs.Common.{◌∙◌, ap}
use Rattle.clone_mtr.specs.Effects.{effect}
use Rattle.clone_mtr.specs.References.{record_of}
use Rattle.clone_overlay.specs.Covers.{leaves_of}
use Rattle.clone_overlay.proofs.Entries.{changed_leaf, absent_leaf}
use Rattle.clone_overlay.proofs.sheet.change_in.Goals as goal

pub returns-in-Some : goal.returns-in-Some
returns-in-Some c =
    let w = c.apply.new.page in
    changed_leaf c.args.leaves.now (c.get_mut.follows.lender w) c.args.number c.in-Some.page.now w (effect c.args.lsn (record_of c.args.entry.now)) c.in-Some.ensures.value (c.get_mut.follows.holds w).3 c.apply.ensures

pub returns-in_default : goal.returns-in_default
returns-in_default c = ap (λ m. leaves_of m.entries) c.get_mut.follows.holds-at-none ∙ absent_leaf c.args.leaves.now c.args.number (effect c.args.lsn (record_of c.args.entry.now)) c.in_default.ensures.value

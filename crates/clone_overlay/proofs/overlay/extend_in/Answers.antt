use Rattle.std.proofs.Common.{◌∙◌, ap}
use Rattle.clone_overlay.specs.Covers.{covers_of, stretched_to}
use Rattle.clone_overlay.proofs.Entries.{changed_cover, absent_cover}
use Rattle.clone_overlay.proofs.overlay.extend_in.Goals as goal

pub returns-in-Some : goal.returns-in-Some
returns-in-Some c =
    let w = c.extend.new.self in
    changed_cover c.args.sheets.now (c.get_mut.follows.lender w) c.args.space c.in-Some.sheet.now w (stretched_to c.args.count) c.in-Some.ensures.value (c.get_mut.follows.holds w).3 c.extend.ensures

pub returns-in_default : goal.returns-in_default
returns-in_default c = ap (λ m. covers_of m.entries) c.get_mut.follows.holds-at-none ∙ absent_cover c.args.sheets.now c.args.space (stretched_to c.args.count) c.in_default.ensures.value

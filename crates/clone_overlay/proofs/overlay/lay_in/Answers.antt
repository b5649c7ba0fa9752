use Rattle.std.proofs.Common.{◌∙◌, ap}
use Rattle.clone_page.specs.Bytes.{put_at}
use Rattle.clone_overlay.specs.Covers.{covers_of, with_leaf}
use Rattle.clone_overlay.proofs.Entries.{changed_cover, absent_cover}
use Rattle.clone_overlay.proofs.overlay.lay_in.Goals as goal

pub returns-in-Some : goal.returns-in-Some
returns-in-Some c =
    let w = c.lay.new.self in
    changed_cover c.args.sheets.now (c.get_mut.follows.lender w) c.args.space c.in-Some.sheet.now w (with_leaf c.args.number (put_at c.args.offset c.args.bytes.now)) c.in-Some.ensures.value (c.get_mut.follows.holds w).3 c.lay.ensures

pub returns-in_default : goal.returns-in_default
returns-in_default c = ap (λ m. covers_of m.entries) c.get_mut.follows.holds-at-none ∙ absent_cover c.args.sheets.now c.args.space (with_leaf c.args.number (put_at c.args.offset c.args.bytes.now)) c.in_default.ensures.value

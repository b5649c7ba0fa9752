use Rattle.std.proofs.Common.{take, get_or, sym, ap, ◌∙◌, arith}
use Rattle.std.specs.FinMap as finite
use Rattle.std.proofs.lemmas.List.{take_more}
use Rattle.clone_track.proofs.PageSets.{set_of, set_of-push}
use Rattle.clone_track.proofs.runs.Runs.of.Goals as goal

pub loop-page-preserved : goal.loop-page-preserved
loop-page-preserved c =
    let pages = c.args.pages.now in
    let i = c.loop-page.page-index in
    let page = get_or pages i (0, 0) in
    let noted =
    c.add.ensures.pages ∙ ap (λ set. finite.insert set page tt) (c.in_ok-reserve.ensures.pages ∙ c.loop-page.invariant.0) ∙ sym (set_of-push (take i pages) page)
    ∙ ap set_of (sym (take_more pages i (0, 0) c.loop-page-test.true)) in
    (noted, omega (arith, c.add.ensures.kept, c.in_ok-reserve.ensures.kept, c.loop-page.invariant.1))

use Rattle.std.proofs.Common.{◌≡◌, ◌<◌, ℕ, List, subst, sym, true}
use Rattle.std.specs.List.{AllByRecursion}
use Rattle.clone_model.specs.declared.line.TheConstants.{MOST_PAGES}
use Rattle.clone_page.specs.declared.pages.PageAt.{PageAt}
use Rattle.clone_recipient.specs.Expecting.{fits_redo}
use Rattle.clone_recipient.proofs.ExpectLemmas.{pages_below, pages_left, redo_fits, stage_fits}
use Rattle.clone_recipient.proofs.reception.Reception.accept.Goals as goal

pub take_stage-requires-clause-fits : goal.take_stage-requires-clause-fits
take_stage-requires-clause-fits g c = stage_fits c.args.self.now c.args.task c.args.frame _ _ c.in-Stage.is c.requires.expected

pub take_pages-requires-clause-left : goal.take_pages-requires-clause-left
take_pages-requires-clause-left g c = pages_left c.args.self.now c.args.task c.args.frame _ _ _ _ _ c.in-Pages.is c.requires.expected

pub take_pages-requires-clause-low : goal.take_pages-requires-clause-low
take_pages-requires-clause-low g c =
    subst (λ (ps : List PageAt). AllByRecursion (λ (p : PageAt). p.number < MOST_PAGES) ps) (sym c.as_slice.ensures.value)
    (pages_below c.args.self.now c.args.task c.args.frame _ _ _ _ _ c.in-Pages.is c.requires.expected)

pub take_redo-requires-clause-fits : goal.take_redo-requires-clause-fits
take_redo-requires-clause-fits g c =
    subst (λ (bs : List ℕ). fits_redo c.args.self.now c.in-Redo.chunk c.in-Redo.block c.in-Redo.from bs ≡ true) (sym c.as_slice-in-Redo.ensures.value)
    (redo_fits c.args.self.now c.args.task c.args.frame _ _ _ _ _ c.in-Redo.is c.requires.expected)

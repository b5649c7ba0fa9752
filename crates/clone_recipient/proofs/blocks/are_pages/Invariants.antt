use Rattle.std.proofs.Common.{◌≡◌, drop}
use Rattle.clone_recipient.specs.Expecting.{are_pages}
use Rattle.clone_recipient.proofs.blocks.are_pages.Given as goal

abbrev pub invariant-loop-page : goal.invariant-loop-page
invariant-loop-page l =
    are_pages l.least (drop l.page-index l.pages) ≡ are_pages 0 l.pages

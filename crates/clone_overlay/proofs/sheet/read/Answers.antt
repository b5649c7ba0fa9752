use Rattle.std.proofs.Common.{◌≡◌, ◌∙◌, true, false, sym}
use Rattle.clone_outside.proofs.DiskCallLemmas.{weaker}
use Rattle.clone_overlay.proofs.sheet.read.Goals as goal

pub returns-then-check-clause-page : goal.returns-then-check-clause-page
returns-then-check-clause-page g c = c.check.ensures.0 c.if-check.true

pub returns-else-check-clause-header : goal.returns-else-check-clause-header
returns-else-check-clause-header g c = λ _. record {
  page = c.read_page.new.into;
  given = c.in-Ok.ensures.quiet;
  against = λ is. let e : true ≡ false = sym (c.check.ensures.1 is) ∙ c.if-check.false in cc;
}

pub returns-then-check-clause-reads : goal.returns-then-check-clause-reads
returns-then-check-clause-reads g c = weaker c.read_page.ensures.reads (λ e. absurd (let same = e in cc))

pub returns-else-check-clause-reads : goal.returns-else-check-clause-reads
returns-else-check-clause-reads g c = weaker c.read_page.ensures.reads (λ e. absurd (let same = e in cc))

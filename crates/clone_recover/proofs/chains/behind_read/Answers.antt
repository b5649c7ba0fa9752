use Rattle.std.proofs.Common.{◌≡◌, ◌∙◌, true, false, sym}
use Rattle.clone_outside.proofs.DiskCallLemmas.{weaker}
use Rattle.clone_recover.proofs.chains.behind_read.Goals as goal

pub returns-then-check-clause-reads : goal.returns-then-check-clause-reads
returns-then-check-clause-reads g c = record { page = c.read_page.new.into; given = c.in-Ok.ensures.quiet; formed = c.check.ensures.0 c.if-check.true; is = c.next_page.ensures }

pub returns-else-check-clause-header : goal.returns-else-check-clause-header
returns-else-check-clause-header g c = λ _. record {
  page = c.read_page.new.into;
  given = c.in-Ok.ensures.quiet;
  against = λ is. let e : true ≡ false = sym (c.check.ensures.1 is) ∙ c.if-check.false in cc;
}

pub returns-then-check-clause-asks : goal.returns-then-check-clause-asks
returns-then-check-clause-asks g c = weaker c.read_page.ensures.reads (λ e. absurd (let same = e in cc))

pub returns-else-check-clause-asks : goal.returns-else-check-clause-asks
returns-else-check-clause-asks g c = weaker c.read_page.ensures.reads (λ e. absurd (let same = e in cc))

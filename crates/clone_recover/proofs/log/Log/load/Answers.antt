use Rattle.std.proofs.Common.{arith}
use Rattle.clone_recover.proofs.log.Log.load.Goals as goal

pub returns-clause-loads : goal.returns-clause-loads
returns-clause-loads g c = record {
  past = λ le. absurd (omega (arith, le, c.if-from-self.false, c.from.ensures));
  puts = λ lt. record {
    bytes = c.read_page.new.into;
    long = c.read_page.array_long;
    given = c.in_ok-read_page.ensures.quiet;
    is = c.put.ensures.value;
  };
}

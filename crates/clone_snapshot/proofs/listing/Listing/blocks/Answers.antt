use Rattle.std.proofs.Common.{arith}
use Rattle.clone_snapshot.specs.Snaps.{list_of}
use Rattle.clone_snapshot.proofs.CountLemmas.{few_blocks}
use Rattle.clone_snapshot.proofs.listing.Listing.blocks.Goals as goal

pub overflow_cast-result : goal.overflow_cast-result
overflow_cast-result c = omega (arith, c.count.ensures, few_blocks (list_of c.args.self.now) c.args.chunk)

pub returns-clause-few : goal.returns-clause-few
returns-clause-few c = omega (arith, c.count.ensures, few_blocks (list_of c.args.self.now) c.args.chunk)

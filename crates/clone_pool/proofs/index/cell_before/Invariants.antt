use Rattle.std.proofs.Common.{◌<◌, length}
use Rattle.clone_pool.specs.Index.{bucket_of, IsCellOf}
use Rattle.clone_pool.proofs.ChainLemmas.{way_left}
use Rattle.clone_pool.proofs.index.cell_before.Given as goal

abbrev pub invariant-loop-cell : goal.invariant-loop-cell
invariant-loop-cell l = record {
  within : l.cell < length l.cells;
  cell_of : IsCellOf (length l.names) l.names (bucket_of (length l.names) l.fn.name) l.at l.cell;
}

abbrev pub decreases-loop-cell : goal.decreases-loop-cell
decreases-loop-cell l = way_left (length l.names) l.at l.cell

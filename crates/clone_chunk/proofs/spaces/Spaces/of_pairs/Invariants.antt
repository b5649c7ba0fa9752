use Rattle.std.proofs.Common.{◌≡◌, take}
use Rattle.clone_chunk.specs.Plans.{sizes_of}
use Rattle.clone_chunk.proofs.spaces.Spaces.of_pairs.Given as goal

abbrev pub invariant-loop-space : goal.invariant-loop-space
invariant-loop-space l = l.list.items ≡ sizes_of (take l.space-index l.pairs)

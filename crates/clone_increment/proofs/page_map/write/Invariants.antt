use Rattle.clone_increment.proofs.LayLemmas.{Lays}
use Rattle.clone_increment.proofs.page_map.write.Given as goal

abbrev pub invariant-loop-place : goal.invariant-loop-place
invariant-loop-place l = Lays l.place-iterator l.slots l.others l.fn.slots

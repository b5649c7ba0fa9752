use Rattle.clone_marks.proofs.ForgetLemmas.{Forgets}
use Rattle.clone_marks.proofs.reporting.forget.Given as goal

abbrev pub invariant-loop-chunk : goal.invariant-loop-chunk
invariant-loop-chunk l = Forgets l.fn.kept l.initial.chunks l.more l.chunk-index l.chunks

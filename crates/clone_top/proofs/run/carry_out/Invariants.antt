use Rattle.std.proofs.Common.{◌≤◌}
use Rattle.clone_top.proofs.RunLemmas.{Sofar}
use Rattle.clone_top.proofs.run.carry_out.Given as goal

abbrev pub invariant-loop-line : goal.invariant-loop-line
invariant-loop-line g l = Sofar l.lines l.line-index l.fn.world l.world (g.K.Sink.taken l.fn.out) (g.K.Sink.taken l.out) × (g.K.Sink.failures l.fn.out ≤ g.K.Sink.failures l.out)

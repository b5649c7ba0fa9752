use Rattle.clone_core.proofs.RoundLemmas.{of_none, rounds_begin, rounds_ended, rounds_then}
use Rattle.clone_core.proofs.UntoldLemmas.{on_err}
use Rattle.clone_core.proofs.world.World.rounds.Goals as goal

pub loop-alloc-init : goal.loop-alloc-init
loop-alloc-init g c = rounds_begin c.args.self.now

pub returns-in_err-came-clause-err : goal.returns-in_err-came-clause-err
returns-in_err-came-clause-err g c = on_err c.from_residual.result _ (rounds_ended c.args.self.now c.loop-alloc.self _ c.loop-alloc.invariant c.in_err-came.ensures.err)

pub returns-in-Some-clause-made : goal.returns-in-Some-clause-made
returns-in-Some-clause-made g c = rounds_then c.args.self.now c.loop-alloc.self _ c.loop-alloc.invariant c.in_ok-came.ensures.made

pub loop-alloc-smaller : goal.loop-alloc-smaller
loop-alloc-smaller g c = of_none _ _ c.in_default.not-Some c.in_ok-came.ensures.left

pub loop-alloc-preserved : goal.loop-alloc-preserved
loop-alloc-preserved g c = rounds_then c.args.self.now c.loop-alloc.self _ c.loop-alloc.invariant c.in_ok-came.ensures.made

pub returns-clause-made : goal.returns-clause-made
returns-clause-made g c = c.loop-alloc.invariant

use Rattle.std.proofs.Common.{◌∙◌}
use Rattle.clone_turn.proofs.AdderLemmas.{made_one, answered_one}
use Rattle.clone_turn.proofs.adder.add_often.Goals as goal

pub loop-preserved : goal.loop-preserved
loop-preserved g c = (made_one _ _ _ _ _ _ _ c.call-answer.ensures c.loop.invariant.0, c.in_ok-push.ensures.items ∙ answered_one 0 _ _ _ c.loop.seat _ _ c.call-answer.ensures _ c.loop.invariant.1)

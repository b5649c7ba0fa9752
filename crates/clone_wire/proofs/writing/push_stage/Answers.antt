use Rattle.std.proofs.Common.{◌∙◌, append_assoc}
use Rattle.clone_wire.specs.Spelling.{plan_bytes}
use Rattle.std.proofs.lemmas.Result.{on_ok_weaker}
use Rattle.clone_wire.proofs.writing.push_stage.Goals as goal

pub returns-clause-text : goal.returns-clause-text
unfolding plan_bytes
returns-clause-text c = on_ok_weaker c.push_plan.result (λ written. rw c.in_ok-push_attempt.ensures.text at written ∙ simp append_assoc) c.push_plan.ensures.text

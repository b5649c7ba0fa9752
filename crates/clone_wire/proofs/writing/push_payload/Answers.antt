use Rattle.std.proofs.Common.{◌∙◌, append_assoc}
use Rattle.std.proofs.lemmas.Result.{on_ok_weaker}
use Rattle.clone_wire.proofs.writing.push_payload.Goals as goal

pub returns-in-Init-clause-text : goal.returns-in-Init-clause-text
returns-in-Init-clause-text c = rw c.in-Init.is (on_ok_weaker c.push_init.result (λ written. written ∙ simp append_assoc) c.push_init.ensures.text)

pub returns-in-Attach-clause-text : goal.returns-in-Attach-clause-text
returns-in-Attach-clause-text c = rw c.in-Attach.is (on_ok_weaker c.push_attach.result (λ written. written ∙ simp append_assoc) c.push_attach.ensures.text)

pub returns-in-Reinit-clause-text : goal.returns-in-Reinit-clause-text
returns-in-Reinit-clause-text c = rw c.in-Reinit.is (on_ok_weaker c.push_reinit.result (λ written. written ∙ simp append_assoc) c.push_reinit.ensures.text)

pub returns-in-Reinit2-clause-text : goal.returns-in-Reinit2-clause-text
returns-in-Reinit2-clause-text c = rw c.in-Reinit2.is (on_ok_weaker c.push_reinit2.result (λ written. written ∙ simp append_assoc) c.push_reinit2.ensures.text)

pub returns-in-Stage-clause-text : goal.returns-in-Stage-clause-text
returns-in-Stage-clause-text c = rw c.in-Stage.is (on_ok_weaker c.push_stage.result (λ written. written ∙ simp append_assoc) c.push_stage.ensures.text)

pub returns-in-End-clause-text : goal.returns-in-End-clause-text
returns-in-End-clause-text c = rw c.in-End.is (on_ok_weaker c.push_staged.result (λ written. written ∙ simp append_assoc) c.push_staged.ensures.text)

pub returns-in-Refused-clause-text : goal.returns-in-Refused-clause-text
returns-in-Refused-clause-text c = rw c.in-Refused.is (on_ok_weaker c.push_cause.result (λ written. written ∙ simp append_assoc) c.push_cause.ensures.text)

pub returns-in-Pages-clause-text : goal.returns-in-Pages-clause-text
returns-in-Pages-clause-text c = rw c.in-Pages.is (on_ok_weaker c.push_pages_block.result (λ written. written ∙ simp append_assoc) c.push_pages_block.ensures.text)

pub returns-in-Redo-clause-text : goal.returns-in-Redo-clause-text
returns-in-Redo-clause-text c = rw c.in-Redo.is (on_ok_weaker c.push_redo_block.result (λ written. written ∙ simp append_assoc) c.push_redo_block.ensures.text)

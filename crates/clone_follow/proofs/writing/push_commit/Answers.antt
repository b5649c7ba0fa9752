use Rattle.std.proofs.Common.{◌∙◌, append_assoc}
use Rattle.std.proofs.lemmas.Result.{on_ok_weaker}
use Rattle.clone_follow.proofs.writing.push_commit.Goals as goal

pub returns-clause-text : goal.returns-clause-text
returns-clause-text c = on_ok_weaker c.push_changes.result (λ written. rw (c.in_ok-push_u16.ensures, c.in_ok-push_u64.ensures.text, c.in_ok-push_u32.ensures.text, c.as_slice-changes.ensures) at written ∙ simp append_assoc) c.push_changes.ensures.text

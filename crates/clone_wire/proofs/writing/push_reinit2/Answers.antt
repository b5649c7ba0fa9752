use Rattle.std.proofs.Common.{◌∙◌, append_assoc}
use Rattle.std.proofs.lemmas.Result.{on_ok_weaker}
use Rattle.clone_wire.proofs.writing.push_reinit2.Goals as goal

pub returns-clause-text : goal.returns-clause-text
returns-clause-text c = on_ok_weaker c.push_listed.result (λ written. rw (c.in_ok-push_reinit.ensures.text, c.finished.ensures, c.partials.ensures.value) at written ∙ simp append_assoc) c.push_listed.ensures.text

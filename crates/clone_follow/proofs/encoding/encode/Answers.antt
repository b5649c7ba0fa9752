use Rattle.std.proofs.Common.{arith}
use Rattle.std.proofs.lemmas.Grind.{common_steps}
use Rattle.clone_follow.specs.Spelling.{spelling}
use Rattle.clone_follow.proofs.Decoding.{as_spelled}
use Rattle.clone_follow.proofs.encoding.encode.Goals as goal

pub returns-clause-text : goal.returns-clause-text
unfolding spelling
returns-clause-text c = grind (arith, common_steps)

pub returns-clause-spelled : goal.returns-clause-spelled
returns-clause-spelled c = as_spelled c.args.frame.now _ c.in_ok-push_payload.ensures.kept (returns-clause-text c)

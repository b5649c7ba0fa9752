use Rattle.clone_law.proofs.ExampleLemmas.{flushed, sent_redone, second_now}
use Rattle.clone_law.proofs.laws.flushed_example.Goals as goal

pub returns : goal.returns
returns c = record { run = flushed; sent = (sent_redone, second_now) }

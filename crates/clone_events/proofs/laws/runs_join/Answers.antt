use Rattle.clone_events.proofs.Common.{PlainEvent}
use Rattle.clone_events.proofs.RunLemmas.{Runs-append}
use Rattle.clone_events.proofs.laws.runs_join.Goals as goal

pub returns : goal.returns
returns c front back before behind s t u first second = Runs-append (λ d. d) PlainEvent s front back before behind t u first second

use Rattle.clone_machine.specs.declared.calls.JobAnswer.TheVariants as answer
use Rattle.clone_machine.specs.declared.calls.JobCall.TheVariants as call
use Rattle.clone_answering.proofs.AsideLemmas.{looks, one_call, upkeep_job, watch, writer}
use Rattle.clone_answering.proofs.laws.aside_laws.Goals as goal

pub returns-clause-writer : goal.returns-clause-writer
returns-clause-writer g c = writer

pub returns-clause-upkeep : goal.returns-clause-upkeep
returns-clause-upkeep g c = upkeep_job

pub returns-clause-looks : goal.returns-clause-looks
returns-clause-looks g c = looks

pub returns-clause-watch : goal.returns-clause-watch
returns-clause-watch g c = watch g.N.End.Link

pub returns-clause-halt : goal.returns-clause-halt
returns-clause-halt g c = λ number made. one_call number call.Halt answer.Halt made tt

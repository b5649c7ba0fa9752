use Rattle.std.proofs.Common.{◌∙◌, ℕ, ap, sym, subst, Option, Ok}
use Rattle.clone_plain.specs.declared.call.EngineAnswer.TheVariants as answers
use Rattle.clone_plain.specs.declared.call.EngineCall.TheVariants as call
use Rattle.clone_flush.specs.Calls.{State, checked}
use Rattle.clone_engine.specs.Acts as act
use Rattle.clone_engine.specs.Engine.{state_of}
use Rattle.clone_engine.specs.Over.{over}
use Rattle.clone_engine.proofs.SessionActs.{checks}
use Rattle.clone_engine.proofs.engine.Engine.checkpoint.Goals as goal

pub returns-clause-acts : goal.returns-clause-acts
returns-clause-acts c = λ disk is.
    let d = over c.args.self.now disk in
    let b = c.checkpoint in
    subst (λ (s : State). act.EngineActs call.Checkpoint (Ok (answers.Checkpoint b.result)) d (record d { engine = record d.engine { buffer = s.buffer; flights = s.flights } })) (sym (b.ensures.checked ∙ ap (λ (o : Option ℕ). checked b.result o (state_of d.engine)) c.kept_from.ensures))
    (checks d b.result is c.laws.ensures.buffer c.laws.ensures.pool b.ensures.reached)

use Rattle.std.proofs.Common.{[], ◌∷◌, refl, string_bytes, Ok}
use Rattle.clone_script.specs.declared.lines.Line.TheVariants as lines
use Rattle.clone_plain.specs.declared.call.EngineAnswer.TheVariants as answers
use Rattle.clone_plain.specs.declared.call.EngineCall.TheVariants as call
use Rattle.clone_events.specs.Events.{made}
use Rattle.clone_core.proofs.LineLemmas.{same_breaks, refusal_answers, drop_breaks}
use Rattle.clone_core.proofs.world.World.drop_line.Goals as goal

pub returns-in_err-text-clause-err : goal.returns-in_err-text-clause-err
returns-in_err-text-clause-err g c = same_breaks c.args.self.now (lines.Drop c.args.table) c.from_residual.result

pub returns-in_err-fault-clause-err : goal.returns-in_err-fault-clause-err
returns-in_err-fault-clause-err g c = same_breaks c.args.self.now (lines.Drop c.args.table) c.from_residual-in_err-fault.result

pub returns-in-Ok-clause-ok : goal.returns-in-Ok-clause-ok
returns-in-Ok-clause-ok g c = record { events = made (call.Drop c.args.table) (Ok answers.Drop) ∷ []; step = ((Ok answers.Drop, refl), (_, c.in-Ok.ensures, refl)); is = c.in_ok-text.ensures.ok }

pub returns-in-Err-clause-ok : goal.returns-in-Err-clause-ok
returns-in-Err-clause-ok g c = refusal_answers {X = Unit {0}} string_bytes c.args.self.now _ (lines.Drop c.args.table) (call.Drop c.args.table) (λ _. answers.Drop) _ c.drop_refused.result (λ es m. m) c.in-Err.ensures c.drop_refused.ensures.ok

pub returns-in-Err-clause-err : goal.returns-in-Err-clause-err
returns-in-Err-clause-err g c = drop_breaks {X = Unit {0}} c.args.self.now _ (lines.Drop c.args.table) c.args.table (λ _. answers.Drop) _ c.drop_refused.result c.in-Err.ensures c.drop_refused.ensures.err

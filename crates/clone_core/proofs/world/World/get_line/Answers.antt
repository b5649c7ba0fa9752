use Rattle.std.proofs.Common.{refl, ap, string_bytes, Ok}
use Rattle.clone_script.specs.declared.lines.Line.TheVariants as lines
use Rattle.clone_plain.specs.Answers.{value_answer}
use Rattle.clone_plain.specs.declared.call.EngineAnswer.TheVariants as answers
use Rattle.clone_plain.specs.declared.call.EngineCall.TheVariants as call
use Rattle.clone_events.specs.Events.{made}
use Rattle.clone_core.proofs.LineLemmas.{event_answers, stays_breaks, got_stays, refusal_answers, refusal_breaks, said_is}
use Rattle.clone_core.proofs.world.World.get_line.Goals as goal

pub returns-in-Ok-clause-ok : goal.returns-in-Ok-clause-ok
returns-in-Ok-clause-ok g c =
    event_answers string_bytes c.args.self.now _ (lines.Get c.args.trx c.args.table c.args.key) (made (call.Get c.args.trx c.args.table c.args.key) (Ok (answers.Get c.in-Ok.value))) c.value_shown.result (Ok (answers.Get c.in-Ok.value), refl) c.in-Ok.ensures (said_is string_bytes c.value_shown.result _ _ (ap value_answer c.as_ref.ensures.value) c.value_shown.ensures)

pub returns-in-Ok-clause-err : goal.returns-in-Ok-clause-err
returns-in-Ok-clause-err g c = stays_breaks c.args.self.now _ (lines.Get c.args.trx c.args.table c.args.key) c.value_shown.result (got_stays _ _ _ _ _ _ c.in-Ok.ensures)

pub returns-in-Err-clause-ok : goal.returns-in-Err-clause-ok
returns-in-Err-clause-ok g c = refusal_answers string_bytes c.args.self.now _ (lines.Get c.args.trx c.args.table c.args.key) (call.Get c.args.trx c.args.table c.args.key) (λ value. answers.Get value) _ c.refused.result (λ es m. m) c.in-Err.ensures c.refused.ensures

pub returns-in-Err-clause-err : goal.returns-in-Err-clause-err
returns-in-Err-clause-err g c = refusal_breaks c.args.self.now _ (lines.Get c.args.trx c.args.table c.args.key) (call.Get c.args.trx c.args.table c.args.key) (λ value. answers.Get value) _ c.refused.result (λ cause. tt) c.in-Err.ensures

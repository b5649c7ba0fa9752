use Rattle.std.proofs.Common.{string_bytes}
use Rattle.clone_script.specs.declared.lines.Line.TheVariants as lines
use Rattle.clone_plain.specs.declared.call.EngineAnswer.TheVariants as answers
use Rattle.clone_plain.specs.declared.call.EngineCall.TheVariants as call
use Rattle.clone_core.proofs.LineLemmas.{same_breaks, call_answers, call_breaks}
use Rattle.clone_core.proofs.world.World.delete_line.Goals as goal

pub returns-in_err-text-clause-err : goal.returns-in_err-text-clause-err
returns-in_err-text-clause-err g c = same_breaks c.args.self.now (lines.Delete c.args.trx c.args.table c.args.key) c.from_residual.result

pub returns-clause-ok : goal.returns-clause-ok
returns-clause-ok g c =
    call_answers string_bytes c.args.self.now _ (lines.Delete c.args.trx c.args.table c.args.key) (call.Delete c.args.trx c.args.table c.args.key) (λ _. answers.Delete) c.delete-called.result _ c.answered.result (λ es m. m) c.delete-called.ensures (λ x is happened. c.in_ok-text.ensures.ok) c.answered.ensures.ok

pub returns-clause-err : goal.returns-clause-err
returns-clause-err g c = call_breaks c.args.self.now _ (lines.Delete c.args.trx c.args.table c.args.key) (call.Delete c.args.trx c.args.table c.args.key) (λ _. answers.Delete) c.delete-called.result c.answered.result (λ cause. tt) c.delete-called.ensures c.answered.ensures.err

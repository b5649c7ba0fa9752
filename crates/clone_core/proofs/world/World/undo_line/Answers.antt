use Rattle.std.proofs.Common.{string_bytes}
use Rattle.clone_script.specs.declared.lines.Line.TheVariants as lines
use Rattle.clone_plain.specs.declared.call.EngineAnswer.TheVariants as answers
use Rattle.clone_plain.specs.declared.call.EngineCall.TheVariants as call
use Rattle.clone_core.proofs.LineLemmas.{same_breaks, call_answers, call_breaks, undo_told}
use Rattle.clone_core.proofs.world.World.undo_line.Goals as goal

pub returns-in_err-text-clause-err : goal.returns-in_err-text-clause-err
returns-in_err-text-clause-err g c = same_breaks c.args.self.now (lines.Undo c.args.trx) c.from_residual.result

pub returns-clause-ok : goal.returns-clause-ok
returns-clause-ok g c =
    call_answers string_bytes c.args.self.now _ (lines.Undo c.args.trx) (call.UndoOne c.args.trx) (λ undone. answers.UndoOne undone) c.undo_one-called.result _ c.answered.result (λ es m. m) c.undo_one-called.ensures (λ undone is happened. undo_told _ _ _ c.args.trx undone _ c.self.view_is c.in_ok-text.ensures happened) c.answered.ensures.ok

pub returns-clause-err : goal.returns-clause-err
returns-clause-err g c = call_breaks c.args.self.now _ (lines.Undo c.args.trx) (call.UndoOne c.args.trx) (λ undone. answers.UndoOne undone) c.undo_one-called.result c.answered.result (λ cause. tt) c.undo_one-called.ensures c.answered.ensures.err

use Rattle.std.proofs.Common.{string_bytes}
use Rattle.clone_script.specs.declared.lines.Line.TheVariants as lines
use Rattle.clone_core.proofs.LinesOfActs.{acts_breaks, acts_says, untold_breaks_off}
use Rattle.clone_core.proofs.world.World.task_line.Goals as goal

pub returns-in_err-answer-clause-err : goal.returns-in_err-answer-clause-err
returns-in_err-answer-clause-err g c = untold_breaks_off c.args.self.now _ (lines.Task c.args.task) (λ es m. m) c.from_residual.result c.in_err-answer.ensures.err

pub returns-clause-ok : goal.returns-clause-ok
returns-clause-ok g c = acts_says c.args.self.now _ (lines.Task c.args.task) (λ es m. m) string_bytes _ c.task_text.result c.in_ok-answer.ensures.acts c.task_text.ensures.says

pub returns-clause-err : goal.returns-clause-err
returns-clause-err g c = acts_breaks c.args.self.now _ (lines.Task c.args.task) (λ es m. m) _ c.task_text.result c.in_ok-answer.ensures.acts

use Rattle.std.proofs.Common.{◌≡◌, ◌<◌, Bool, ap, arith, subst, sym}
use Rattle.clone_core.specs.Idling.{TaskIdles}
use Rattle.clone_core.specs.Left.{TasksLeave}
use Rattle.clone_core.specs.Lines.{State}
use Rattle.clone_core.proofs.RoundLemmas.{task_done, task_untold}
use Rattle.clone_core.proofs.UntoldLemmas.{on_err}
use Rattle.clone_core.proofs.world.World.round_of_tasks.Goals as goal

pub returns-in_err-answer-clause-err : goal.returns-in_err-answer-clause-err
returns-in_err-answer-clause-err g c =
    let all : c.self.inside.terms.tasks ≡ c.args.self.now.tasks = ap (λ (s : State). s.tasks) c.self.view_is in
    let low : c.loop-task.task < c.args.self.now.tasks = omega (arith, c.loop-task-test.true, all) in
    on_err c.from_residual.result _ (task_untold c.args.self.now c.loop-task.self c.task.new.self c.loop-task.task c.args.self.now.tasks c.loop-task.has_moved low c.loop-task.invariant c.in_err-answer.ensures.err)

pub loop-task-preserved : goal.loop-task-preserved
loop-task-preserved g c =
    let u = c.loop-task.self in
    let t = c.task.new.self in
    task_done c.args.self.now u t c.loop-task.task _ c.loop-task.has_moved c.is_quiet.result c.loop-task.invariant c.in_ok-answer.ensures.acts
    (subst (λ (quiet : Bool). TasksLeave quiet u t) (sym c.is_quiet.ensures) c.in_ok-answer.ensures.left)
    (subst (λ (quiet : Bool). TaskIdles quiet c.loop-task.task u t) (sym c.is_quiet.ensures) c.in_ok-answer.ensures.idles)

use denote.Exit as Exit
use denote.Param.Send.{arg_send, copied_send, param_send}
use Rattle.clone_run.proofs.KindLemmas.{link_goes, name_row, net_goes}
use Rattle.clone_desk.proofs.DeskThreadLemmas.{desk_send}
use Rattle.std.proofs.Common.{◌∙◌, ◌+◌, ◌<◌, ◌≤◌, ap, sym, subst}
use Rattle.clone_run.specs.declared.outcome.Outcome.{Outcome}
use Rattle.clone_run.specs.Teams.{Team}
use Rattle.clone_task_jobs.specs.Serving.{ServesTask}
use Rattle.clone_run.specs.Kinds.{run_link}
use Rattle.clone_run.specs.Done.{kept_up_from, served_from}
use Rattle.clone_run.specs.Outcomes.{with_job}
use Rattle.clone_outside.specs.Causes.{Rose}
use Rattle.clone_run.proofs.OutcomeLemmas.{cloned_with, rose_from, thread_ending, unstarted_with}
use Rattle.clone_run.proofs.JobLemmas.{served_next, served_none}
use Rattle.clone_run.proofs.TeamLemmas.{same_done, serve_done}
use Rattle.clone_run.proofs.running.+serve_from.Goals as goal

pub returns-in-Ok-start_serve-clause-done : goal.returns-in-Ok-start_serve-clause-done
returns-in-Ok-start_serve-clause-done g t c = λ whole.
    serve_done _ (λ l. served_from l (c.args.task + 1)) c.args.team.now c.serve_job.new.self c.serve_from-others.new.team _ c.serve_from-others.result c.with.result
    c.in-Ok.job.server c.in-Ok.job.desk c.finish-seat.result.desk c.finish-seat.result.seat c.take_back.new.self c.take_back-in-Ok-start_serve.new.self c.args.task c.finish-seat.result.ending
    c.in-Ok.ensures.lent (c.serve_from-others.ensures.done (sym (ap (λ (x : Outcome). x.whole) c.with.ensures) ∙ whole)) c.team-in-Ok-start_serve.view_is
    (subst (λ n. ServesTask run_link n c.finish-seat.result.ending c.in-Ok.job.server.seat c.finish-seat.result.seat c.in-Ok.job.desk c.finish-seat.result.desk) c.in-Ok.ensures.task
    (subst (λ j. ServesTask run_link j.task c.finish-seat.result.ending j.server.seat c.finish-seat.result.seat j.desk c.finish-seat.result.desk) c.in-Ok-start_serve.ensures.ticket c.finish-seat.ensures.end))
    c.take_back.ensures c.take_back-in-Ok-start_serve.ensures (c.with.ensures ∙ ap (λ f. with_job c.serve_from-others.result f) c.of_ending.ensures)
    _ (served_next c.args.team.now.load c.args.task (subst (λ (x : Team _ _ _). c.args.task < x.load.tasks) c.team.view_is c.if-task-team.false))

pub returns-in-Ok-start_serve-clause-unstarted : goal.returns-in-Ok-start_serve-clause-unstarted
returns-in-Ok-start_serve-clause-unstarted g t c = unstarted_with c.serve_from-others.result c.with.result _ (c.with.ensures ∙ ap (λ f. with_job c.serve_from-others.result f) c.of_ending.ensures) c.serve_from-others.ensures.unstarted

pub returns-in-Ok-start_serve-clause-cloned : goal.returns-in-Ok-start_serve-clause-cloned
returns-in-Ok-start_serve-clause-cloned g t c = cloned_with c.serve_from-others.result c.with.result _ (c.with.ensures ∙ ap (λ f. with_job c.serve_from-others.result f) c.of_ending.ensures) c.serve_from-others.ensures.cloned

pub returns-in-Ok-start_serve-clause-thread : goal.returns-in-Ok-start_serve-clause-thread
returns-in-Ok-start_serve-clause-thread g t c = λ thread.
    subst (λ n. Rose c.args.crew.now n) (sym c.finish-seat.ensures.same)
    (rose_from _ _ _ c.in-Ok-start_serve.ensures.cause.later (c.serve_from-others.ensures.thread (thread_ending c.serve_from-others.result c.with.result _ (c.with.ensures ∙ ap (λ f. with_job c.serve_from-others.result f) c.of_ending.ensures) thread)))

pub serve_job-requires-send-N-End : goal.serve_job-requires-send-N-End
serve_job-requires-send-N-End g t c κs within = param_send _ _ (arg_send _ Exit.no _ (link_goes _ (copied_send _ _ c.requires-raw.1.1.1.1.1.1.1.0)))

pub fail-requires-send-N-End : goal.fail-requires-send-N-End
fail-requires-send-N-End g t c κs within = param_send _ _ (arg_send _ Exit.no _ (link_goes _ (copied_send _ _ c.requires-raw.1.1.1.1.1.1.1.0)))

pub fail-requires-in-Err-send-N-End : goal.fail-requires-in-Err-send-N-End
fail-requires-in-Err-send-N-End g t c κs within = param_send _ _ (arg_send _ Exit.no _ (link_goes _ (copied_send _ _ c.requires-raw.1.1.1.1.1.1.1.0)))

pub take_back-requires-in-Ok-start_serve-send-M-State : goal.take_back-requires-in-Ok-start_serve-send-M-State
take_back-requires-in-Ok-start_serve-send-M-State g t c κs within = param_send _ _ (arg_send _ Exit.no _ (desk_send _ _ name_row _ _ (net_goes _ (copied_send _ _ c.requires-raw.1.1.1.1.1.1.1.0)) (link_goes _ (copied_send _ _ c.requires-raw.1.1.1.1.1.1.1.0))))

pub returns-then-task-team-clause-done : goal.returns-then-task-team-clause-done
returns-then-task-team-clause-done g t c = λ whole.
    same_done _ c.args.team.now c.keep_up_from.new.team _ (kept_up_from c.args.team.now.load 0) c.keep_up_from.result
    (served_none c.args.team.now.load c.args.task (subst (λ (x : Team _ _ _). x.load.tasks ≤ c.args.task) c.team.view_is c.if-task-team.true))
    (c.keep_up_from.ensures.done whole)

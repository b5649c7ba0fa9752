use denote.Exit as Exit
use denote.Param.Send.{arg_send, copied_send, param_send}
use Rattle.clone_run.proofs.KindLemmas.{link_goes, name_row, net_goes}
use Rattle.clone_desk.proofs.DeskThreadLemmas.{desk_send}
use Rattle.std.proofs.Common.{◌∙◌, ◌+◌, ◌<◌, ◌≤◌, ap, sym, subst}
use Rattle.clone_run.specs.declared.outcome.Outcome.{Outcome}
use Rattle.clone_run.specs.Teams.{Team}
use Rattle.clone_task_jobs.specs.Fetching.{FetchesTask}
use Rattle.clone_run.specs.Kinds.{run_link}
use Rattle.clone_run.specs.Done.{Fetches, fetched_from}
use Rattle.clone_outside.specs.Causes.{Rose}
use Rattle.clone_run.proofs.OutcomeLemmas.{cloned_task, rose_from, thread_task, unstarted_task}
use Rattle.clone_run.proofs.JobLemmas.{last_next, last_none}
use Rattle.clone_run.proofs.TeamLemmas.{fetch_done, none_done}
use Rattle.clone_run.proofs.running.+fetch_from.Goals as goal

pub returns-then-task-team-clause-done : goal.returns-then-task-team-clause-done
returns-then-task-team-clause-done g t c = λ whole.
    none_done _ c.args.team.now _ c.of_none.result
    (last_none Fetches c.args.task c.args.team.now.load.tasks (subst (λ (x : Team _ _ _). x.load.tasks ≤ c.args.task) c.team.view_is c.if-task-team.true))
    c.of_none.ensures

pub returns-in-Ok-start_fetch-clause-done : goal.returns-in-Ok-start_fetch-clause-done
returns-in-Ok-start_fetch-clause-done g t c = λ whole.
    fetch_done _ (λ l. fetched_from l (c.args.task + 1)) c.args.team.now c.fetch_job.new.self c.fetch_from-others.new.team _ c.fetch_from-others.result c.with_task.result c.args.task
    c.in-Ok.job.fetcher c.finish-seat.result.seat c.in-Ok.job.desk c.finish-seat.result.desk c.in-Ok.job.watch c.finish-seat.result.watch
    c.take_back.new.self c.take_back-in-Ok-start_fetch.new.self c.take_back-in-Ok-start_fetch-2.new.self c.finish-seat.result.end
    c.in-Ok.ensures.lent (c.fetch_from-others.ensures.done (sym (ap (λ (x : Outcome). x.whole) c.with_task.ensures) ∙ whole)) c.team-in-Ok-start_fetch.view_is
    (subst (λ j. FetchesTask run_link j.fetcher c.finish-seat.result.seat j.desk c.finish-seat.result.desk j.watch c.finish-seat.result.watch c.finish-seat.result.end) c.in-Ok-start_fetch.ensures.ticket c.finish-seat.ensures.end)
    c.take_back.ensures c.take_back-in-Ok-start_fetch.ensures c.take_back-in-Ok-start_fetch-2.ensures c.with_task.ensures
    _ (last_next Fetches c.args.task c.args.team.now.load.tasks (subst (λ (x : Team _ _ _). c.args.task < x.load.tasks) c.team.view_is c.if-task-team.false))

pub returns-in-Ok-start_fetch-clause-unstarted : goal.returns-in-Ok-start_fetch-clause-unstarted
returns-in-Ok-start_fetch-clause-unstarted g t c = unstarted_task c.fetch_from-others.result c.with_task.result _ c.with_task.ensures c.fetch_from-others.ensures.unstarted

pub returns-in-Ok-start_fetch-clause-cloned : goal.returns-in-Ok-start_fetch-clause-cloned
returns-in-Ok-start_fetch-clause-cloned g t c = λ less. cloned_task c.fetch_from-others.result c.with_task.result _ c.with_task.ensures

pub returns-in-Ok-start_fetch-clause-thread : goal.returns-in-Ok-start_fetch-clause-thread
returns-in-Ok-start_fetch-clause-thread g t c = λ thread.
    subst (λ n. Rose c.args.crew.now n) (sym c.finish-seat.ensures.same)
    (rose_from _ _ _ c.in-Ok-start_fetch.ensures.cause.later (c.fetch_from-others.ensures.thread (thread_task c.fetch_from-others.result c.with_task.result _ c.with_task.ensures thread)))

pub fetch_job-requires-send-N-End : goal.fetch_job-requires-send-N-End
fetch_job-requires-send-N-End g t c κs within = param_send _ _ (arg_send _ Exit.no _ (link_goes _ (copied_send _ _ c.requires-raw.1.1.1.1.1.1.1.0)))

pub fail-requires-send-N-End : goal.fail-requires-send-N-End
fail-requires-send-N-End g t c κs within = param_send _ _ (arg_send _ Exit.no _ (link_goes _ (copied_send _ _ c.requires-raw.1.1.1.1.1.1.1.0)))

pub fail-requires-in-Err-send-N-End : goal.fail-requires-in-Err-send-N-End
fail-requires-in-Err-send-N-End g t c κs within = param_send _ _ (arg_send _ Exit.no _ (link_goes _ (copied_send _ _ c.requires-raw.1.1.1.1.1.1.1.0)))

pub take_back-requires-in-Ok-start_fetch-send-M-State : goal.take_back-requires-in-Ok-start_fetch-send-M-State
take_back-requires-in-Ok-start_fetch-send-M-State g t c κs within = param_send _ _ (arg_send _ Exit.no _ (desk_send _ _ name_row _ _ (net_goes _ (copied_send _ _ c.requires-raw.1.1.1.1.1.1.1.0)) (link_goes _ (copied_send _ _ c.requires-raw.1.1.1.1.1.1.1.0))))

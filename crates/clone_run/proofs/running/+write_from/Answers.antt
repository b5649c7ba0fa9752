use denote.Exit as Exit
use denote.Param.Send.{arg_send, copied_send, param_send}
use Rattle.clone_run.proofs.KindLemmas.{link_goes}
use Rattle.std.proofs.Common.{◌∙◌, ◌+◌, ◌<◌, ◌≤◌, ap, sym, subst}
use Rattle.std.specs.Arc.{arc_value}
use Rattle.clone_turn.specs.Worked.{Worked}
use Rattle.clone_run.specs.declared.outcome.Outcome.{Outcome}
use Rattle.clone_run.specs.Teams.{Team}
use Rattle.clone_writer.specs.Writers.{Writer, starting}
use Rattle.clone_jobs.specs.Said.{said_in}
use Rattle.clone_jobs.specs.Writing.{Writes}
use Rattle.clone_run.specs.Done.{fetched_from, written_from}
use Rattle.clone_run.specs.Outcomes.{with_job}
use Rattle.clone_outside.specs.Causes.{Rose}
use Rattle.clone_run.proofs.OutcomeLemmas.{cloned_with, rose_from, thread_writing, unstarted_with}
use Rattle.clone_run.proofs.JobLemmas.{written_next, written_none}
use Rattle.clone_run.proofs.TeamLemmas.{did_write, halt_done, same_done, write_done}
use Rattle.clone_run.proofs.running.+write_from.Goals as goal

pub returns-then-is_none-clause-done : goal.returns-then-is_none-clause-done
returns-then-is_none-clause-done g t c = λ whole.
    halt_done _ c.args.team.now c.fetch_from-outcome.new.team c.halt.new.self _ (fetched_from c.args.team.now.load 0) c.fetch_from-outcome.result
    (written_none c.args.team.now.load c.args.number (subst (λ (x : Team _ _ _). x.load.writers ≤ c.args.number) c.team.view_is c.if-number-team.true))
    (c.fetch_from-outcome.ensures.done whole) c.halt.ensures.halts

pub returns-in-Ok-start-clause-done : goal.returns-in-Ok-start-clause-done
returns-in-Ok-start-clause-done g t c = λ whole.
    write_done _ (λ l. written_from l (c.args.number + 1)) c.args.team.now c.writer_job.new.self c.write_from-others.new.team _ c.write_from-others.result c.with.result
    (arc_value c.in-Ok.job.cell) c.in-Ok.job.seat c.finish-seat.result.seat c.take_back.new.self c.args.number c.finish-seat.result.ending
    c.in-Ok.ensures.lent (c.write_from-others.ensures.done (sym (ap (λ (x : Outcome). x.whole) c.with.ensures) ∙ whole)) c.team-in-Ok-start.view_is
    (did_write _ _ _ _ _ _ _ _ _ _ _ c.in-Ok.ensures.load.0 c.in-Ok.ensures.number c.in-Ok.ensures.load.1 c.in-Ok.ensures.load.2
    (subst (λ j. Worked (λ made. (w : Writer) × Writes c.finish-seat.result.ending (starting j.seed j.number j.tables j.count) (said_in made) w) j.seat c.finish-seat.result.seat) c.in-Ok-start.ensures.ticket c.finish-seat.ensures.end))
    c.take_back.ensures (c.with.ensures ∙ ap (λ f. with_job c.write_from-others.result f) c.of_writing.ensures)
    _ (written_next c.args.team.now.load c.args.number (subst (λ (x : Team _ _ _). c.args.number < x.load.writers) c.team.view_is c.if-number-team.false))

pub returns-in-Ok-start-clause-unstarted : goal.returns-in-Ok-start-clause-unstarted
returns-in-Ok-start-clause-unstarted g t c = unstarted_with c.write_from-others.result c.with.result _ (c.with.ensures ∙ ap (λ f. with_job c.write_from-others.result f) c.of_writing.ensures) c.write_from-others.ensures.unstarted

pub returns-in-Ok-start-clause-cloned : goal.returns-in-Ok-start-clause-cloned
returns-in-Ok-start-clause-cloned g t c = cloned_with c.write_from-others.result c.with.result _ (c.with.ensures ∙ ap (λ f. with_job c.write_from-others.result f) c.of_writing.ensures) c.write_from-others.ensures.cloned

pub returns-in-Ok-start-clause-thread : goal.returns-in-Ok-start-clause-thread
returns-in-Ok-start-clause-thread g t c = λ thread.
    subst (λ n. Rose c.args.crew.now n) (sym c.finish-seat.ensures.same)
    (rose_from _ _ _ c.in-Ok-start.ensures.cause.later (c.write_from-others.ensures.thread (thread_writing c.write_from-others.result c.with.result _ (c.with.ensures ∙ ap (λ f. with_job c.write_from-others.result f) c.of_writing.ensures) thread)))

pub returns-else-is_none-clause-done : goal.returns-else-is_none-clause-done
returns-else-is_none-clause-done g t c = λ whole.
    same_done _ c.args.team.now c.fetch_from-outcome.new.team _ (fetched_from c.args.team.now.load 0) c.fetch_from-outcome.result
    (written_none c.args.team.now.load c.args.number (subst (λ (x : Team _ _ _). x.load.writers ≤ c.args.number) c.team.view_is c.if-number-team.true))
    (c.fetch_from-outcome.ensures.done whole)

pub halt-requires-send-N-End : goal.halt-requires-send-N-End
halt-requires-send-N-End g t c κs within = param_send _ _ (arg_send _ Exit.no _ (link_goes _ (copied_send _ _ c.requires-raw.1.1.1.1.1.1.1.0)))

pub writer_job-requires-send-N-End : goal.writer_job-requires-send-N-End
writer_job-requires-send-N-End g t c κs within = param_send _ _ (arg_send _ Exit.no _ (link_goes _ (copied_send _ _ c.requires-raw.1.1.1.1.1.1.1.0)))

pub fail-requires-send-N-End : goal.fail-requires-send-N-End
fail-requires-send-N-End g t c κs within = param_send _ _ (arg_send _ Exit.no _ (link_goes _ (copied_send _ _ c.requires-raw.1.1.1.1.1.1.1.0)))

pub fail-requires-in-Err-send-N-End : goal.fail-requires-in-Err-send-N-End
fail-requires-in-Err-send-N-End g t c κs within = param_send _ _ (arg_send _ Exit.no _ (link_goes _ (copied_send _ _ c.requires-raw.1.1.1.1.1.1.1.0)))

use denote.Exit as Exit
use denote.Param.Send.{arg_send, copied_send, param_send}
use Rattle.clone_run.proofs.KindLemmas.{link_goes}
use Rattle.std.proofs.Common.{◌∙◌, ◌+◌, ap, sym, subst}
use Rattle.std.specs.Arc.{arc_value}
use Rattle.clone_turn.specs.Worked.{Worked}
use Rattle.clone_run.specs.declared.outcome.Outcome.{Outcome}
use Rattle.clone_jobs.specs.Said.{said_in}
use Rattle.clone_jobs.specs.Upkeep.{IsUpkeep}
use Rattle.clone_run.specs.Done.{kept_up_from, written_from}
use Rattle.clone_run.specs.Outcomes.{with_job}
use Rattle.clone_outside.specs.Causes.{Rose}
use Rattle.clone_run.proofs.OutcomeLemmas.{cloned_with, rose_from, thread_ending, unstarted_with}
use Rattle.clone_run.proofs.JobLemmas.{kept_next, kept_none, upkeep_next, upkeep_none}
use Rattle.clone_run.proofs.TeamLemmas.{halt_done, keep_done}
use Rattle.clone_run.proofs.running.+keep_up_from.Goals as goal

pub returns-in_default-clause-done : goal.returns-in_default-clause-done
returns-in_default-clause-done g t c = λ whole.
    halt_done _ c.args.team.now c.write_from-outcome.new.team c.halt.new.self _ (written_from c.args.team.now.load 0) c.write_from-outcome.result
    (kept_none c.args.team.now.load c.args.number (upkeep_none c.args.number c.in_default.ensures.lookup.3))
    (c.write_from-outcome.ensures.done whole) c.halt.ensures.halts

pub returns-in-Ok-start-clause-done : goal.returns-in-Ok-start-clause-done
returns-in-Ok-start-clause-done g t c = λ whole.
    keep_done _ (λ l. kept_up_from l (c.args.number + 1)) c.args.team.now c.upkeep_job.new.self c.keep_up_from-others.new.team _ c.keep_up_from-others.result c.with.result
    (arc_value c.in-Ok.job.cell) c.in-Ok.job.seat c.finish-seat.result.seat c.take_back.new.self c.in-Some.upkeep.now c.finish-seat.result.ending
    c.in-Ok.ensures.lent (c.keep_up_from-others.ensures.done (sym (ap (λ (x : Outcome). x.whole) c.with.ensures) ∙ whole)) c.team.view_is
    (subst (λ w. Worked (λ made. IsUpkeep w c.finish-seat.result.ending (said_in made)) c.in-Ok.job.seat c.finish-seat.result.seat) c.in-Ok.ensures.work
    (subst (λ j. Worked (λ made. IsUpkeep j.upkeep c.finish-seat.result.ending (said_in made)) j.seat c.finish-seat.result.seat) c.in-Ok-start.ensures.ticket c.finish-seat.ensures.end))
    c.take_back.ensures (c.with.ensures ∙ ap (λ f. with_job c.keep_up_from-others.result f) c.of_ending.ensures)
    _ (kept_next c.args.team.now.load c.args.number c.in-Some.upkeep.now (upkeep_next c.args.number c.in-Some.upkeep.now c.in-Some.ensures.lookup.3.0 c.in-Some.ensures.lookup.1))

pub returns-in-Ok-start-clause-unstarted : goal.returns-in-Ok-start-clause-unstarted
returns-in-Ok-start-clause-unstarted g t c = unstarted_with c.keep_up_from-others.result c.with.result _ (c.with.ensures ∙ ap (λ f. with_job c.keep_up_from-others.result f) c.of_ending.ensures) c.keep_up_from-others.ensures.unstarted

pub returns-in-Ok-start-clause-cloned : goal.returns-in-Ok-start-clause-cloned
returns-in-Ok-start-clause-cloned g t c = cloned_with c.keep_up_from-others.result c.with.result _ (c.with.ensures ∙ ap (λ f. with_job c.keep_up_from-others.result f) c.of_ending.ensures) c.keep_up_from-others.ensures.cloned

pub returns-in-Ok-start-clause-thread : goal.returns-in-Ok-start-clause-thread
returns-in-Ok-start-clause-thread g t c = λ thread.
    subst (λ n. Rose c.args.crew.now n) (sym c.finish-seat.ensures.same)
    (rose_from _ _ _ c.in-Ok-start.ensures.cause.later (c.keep_up_from-others.ensures.thread (thread_ending c.keep_up_from-others.result c.with.result _ (c.with.ensures ∙ ap (λ f. with_job c.keep_up_from-others.result f) c.of_ending.ensures) thread)))

pub halt-requires-send-N-End : goal.halt-requires-send-N-End
halt-requires-send-N-End g t c κs within = param_send _ _ (arg_send _ Exit.no _ (link_goes _ (copied_send _ _ c.requires-raw.1.1.1.1.1.1.1.0)))

pub upkeep_job-requires-send-N-End : goal.upkeep_job-requires-send-N-End
upkeep_job-requires-send-N-End g t c κs within = param_send _ _ (arg_send _ Exit.no _ (link_goes _ (copied_send _ _ c.requires-raw.1.1.1.1.1.1.1.0)))

pub fail-requires-send-N-End : goal.fail-requires-send-N-End
fail-requires-send-N-End g t c κs within = param_send _ _ (arg_send _ Exit.no _ (link_goes _ (copied_send _ _ c.requires-raw.1.1.1.1.1.1.1.0)))

pub fail-requires-in-Err-send-N-End : goal.fail-requires-in-Err-send-N-End
fail-requires-in-Err-send-N-End g t c κs within = param_send _ _ (arg_send _ Exit.no _ (link_goes _ (copied_send _ _ c.requires-raw.1.1.1.1.1.1.1.0)))

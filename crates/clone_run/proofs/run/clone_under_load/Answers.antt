use denote.Exit as Exit
use denote.Param.Send.{arg_send, copied_send, param_send}
use Rattle.std.proofs.Common.{◌∙◌, IsSome, ap, arith, inl, inr, subst, sym}
use Rattle.clone_run.specs.declared.outcome.Outcome.{Outcome}
use Rattle.clone_run.specs.Outcomes.{IsUnstarted}
use Rattle.clone_run.proofs.KindLemmas.{link_goes, net_goes}
use Rattle.clone_run.proofs.OutcomeLemmas.{never, not_thread, not_without}
use Rattle.clone_run.proofs.RunLemmas.{ran_all}
use Rattle.clone_run.proofs.run.clone_under_load.Goals as goal

pub returns-in-Ok : goal.returns-in-Ok
returns-in-Ok g c =
    let same = c.take_apart.ensures.outcome in
    record {
      ran = ran_all _ _ _ c.args.load c.serve_from-outcome.result c.take_apart.result.outcome c.in-Ok.team c.serve_from-outcome.new.team _ _
          c.in-Ok.ensures.begun c.serve_from-outcome.ensures.done same c.take_apart.ensures.left;
      unstarted = λ part. inl (subst (λ (o : Outcome). IsUnstarted o.failure) (sym same) (c.serve_from-outcome.ensures.unstarted (sym (ap (λ (o : Outcome). o.whole) same) ∙ part)));
      cloned = λ none. subst (λ (o : Outcome). IsSome o.cloned) (sym same) (c.serve_from-outcome.ensures.cloned (sym (ap (λ (o : Outcome). o.failure) same) ∙ none));
      thread = λ thread. c.serve_from-outcome.ensures.thread (sym (ap (λ (o : Outcome). o.failure) same) ∙ thread);
      count = c.serve_from-outcome.ensures.count;
    }

pub returns-in-Err : goal.returns-in-Err
returns-in-Err g c =
    let given = c.in-Err.ensures.unbegun in
    record {
      ran = λ whole. absurd (never _ given.part whole);
      unstarted = λ part. inr given.why;
      cloned = λ none. absurd (not_without _ _ _ _ _ given.why none);
      thread = λ thread. absurd (not_thread _ _ _ _ _ given.why thread);
      count = omega arith;
    }

pub begin-requires-send-N : goal.begin-requires-send-N
begin-requires-send-N g c κs within = param_send _ _ (arg_send _ Exit.no _ (net_goes _ (copied_send _ _ c.type_bounds.send-H)))

pub begin-requires-send-N-End : goal.begin-requires-send-N-End
begin-requires-send-N-End g c κs within = param_send _ _ (arg_send _ Exit.no _ (link_goes _ (copied_send _ _ c.type_bounds.send-H)))

pub take_apart-requires-send-N : goal.take_apart-requires-send-N
take_apart-requires-send-N g c κs within = param_send _ _ (arg_send _ Exit.no _ (net_goes _ (copied_send _ _ c.type_bounds.send-H)))

pub take_apart-requires-send-N-End : goal.take_apart-requires-send-N-End
take_apart-requires-send-N-End g c κs within = param_send _ _ (arg_send _ Exit.no _ (link_goes _ (copied_send _ _ c.type_bounds.send-H)))

use Rattle.std.proofs.Common.{◌≡◌, ◌∙◌, List, Some, None, IfOk, refl, sym, ap, subst, string_bytes}
use Rattle.std.specs.List.{AllByRecursion}
use Rattle.clone_follow.specs.Binlog.{answer, IsShort}
use Rattle.clone_model.specs.declared.change.Commit.{Commit}
use Rattle.clone_events.specs.Events.{event_text}
use Rattle.clone_core.proofs.FollowLemmas.{came_event, exchange_breaks, exchange_said, exchange_says, exchange_stops, follower_there, unanswered}
use Rattle.clone_core.proofs.ReplicaLemmas.{replica_holds}
use Rattle.clone_core.proofs.world.World.exchange.Goals.{in-Some, in-None}
use Rattle.clone_core.proofs.world.World.exchange.Goals as goal

pub answer-requires : goal.answer-requires
answer-requires g c = record { few = subst (AllByRecursion IsShort) (sym (c.as_slice.ensures ∙ c.binlog.ensures)) c.self.invariant.short }

pub returns-in_err-frame-clause-err : goal.returns-in_err-frame-clause-err
returns-in_err-frame-clause-err g c = unanswered c.args.self.now c.args.want c.from_residual.result

pub exchange-requires : goal.exchange-requires
exchange-requires g c = follower_there _ c.args.self.now c.args.want c.self.view_is c.requires.at

pub invariant_of-self : goal.invariant_of-self
invariant_of-self g c = replica_holds _ c.exchange.new.self _ _ _ _ c.self.invariant

pub returns-in_err-took-clause-err : goal.returns-in_err-took-clause-err
returns-in_err-took-clause-err g c =
    let is = c.in_ok-frame.ensures ∙ ap (λ (b : List Commit). answer b c.args.want) (c.as_slice.ensures ∙ c.binlog.ensures) in
    exchange_stops _ c.args.self.now c.self.view_is refl c.args.want c.requires.at c.in_ok-frame.frame is c.in_err-took.field-0.0 c.exchange.new.self c.from_residual-in_err-took.result c.in_err-took.ensures

pub invariant_of-self-2 : goal.invariant_of-self-2
invariant_of-self-2 g c = replica_holds _ c.exchange.new.self _ _ _ _ c.self.invariant

pub returns-clause-ok : goal.returns-clause-ok
returns-clause-ok g c =
    let is = c.in_ok-frame.ensures ∙ ap (λ (b : List Commit). answer b c.args.want) (c.as_slice.ensures ∙ c.binlog.ensures) in
    let came = c.in_ok-took.field-0 in
    let says : IfOk c.match-branch-3.result (λ text. string_bytes text ≡ event_text (came_event c.args.want c.in_ok-frame.frame came)) = elim c.match-branch-3.branch [
      | in-Some w ↦ exchange_said string_bytes c.args.want c.in_ok-frame.frame came (Some w.in-Some.took) c.match-branch-3.result w.took_text.result w.in-Some.is w.result-is w.took_text.ensures
      | in-None w ↦ exchange_said string_bytes c.args.want c.in_ok-frame.frame came None c.match-branch-3.result w.format.result w.in-None.is w.result-is w.format.ensures.ok
    ] in
    exchange_says _ c.args.self.now c.self.view_is refl c.args.want c.requires.at c.in_ok-frame.frame is string_bytes came c.exchange.new.self c.match-branch-3.result c.in_ok-took.ensures says

pub returns-clause-err : goal.returns-clause-err
returns-clause-err g c =
    let is = c.in_ok-frame.ensures ∙ ap (λ (b : List Commit). answer b c.args.want) (c.as_slice.ensures ∙ c.binlog.ensures) in
    exchange_breaks _ c.args.self.now c.self.view_is refl c.args.want c.requires.at c.in_ok-frame.frame is c.in_ok-took.field-0 c.exchange.new.self c.match-branch-3.result c.in_ok-took.ensures

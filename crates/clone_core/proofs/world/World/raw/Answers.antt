use Rattle.std.proofs.Common.{◌∙◌, refl, sym, ap, subst}
use Rattle.clone_network.specs.Connections.{Connection, given_up, opened}
use Rattle.clone_core.specs.CloneEvents.{ServesSome}
use Rattle.clone_core.proofs.ServedLemmas.{ServedSo, served_all, served_begins, served_on, served_some}
use Rattle.clone_core.proofs.UntoldLemmas.{on_err}
use Rattle.clone_core.proofs.world.World.raw.Goals as goal

pub loop-connection-init : goal.loop-connection-init
loop-connection-init g c =
    let self = c.args.self.now in
    let bytes = c.args.bytes.now in
    subst (λ (at : Connection). ServedSo (given_up (opened bytes)) self at self)
    (sym (c.unread-connection.ensures ∙ ap (λ bytes. given_up (opened bytes)) c.in_ok-sent.ensures.items))
    (served_begins self (given_up (opened bytes)) refl refl tt (λ honest going. tt))

pub returns-in_err-how-clause-err : goal.returns-in_err-how-clause-err
returns-in_err-how-clause-err g c =
    on_err c.from_residual-in_err-how.result (ServesSome c.args.self.now _)
    (served_some (given_up (opened c.args.bytes.now)) c.args.self.now c.loop-connection.connection c.loop-connection.self _ c.loop-connection.invariant c.in_err-how.ensures.err)

pub returns-then-not-is_open-clause-ok : goal.returns-then-not-is_open-clause-ok
returns-then-not-is_open-clause-ok g c =
    served_all (given_up (opened c.args.bytes.now)) c.args.self.now c.loop-connection.connection c.loop-connection.self c.loop-connection.invariant _ _ c.in_ok-how.how c.in_ok-how.ensures.ok (sym c.is_open.ensures ∙ c.if-not-is_open.true)

pub loop-connection-preserved-else-not-is_open : goal.loop-connection-preserved-else-not-is_open
loop-connection-preserved-else-not-is_open g c =
    served_on (given_up (opened c.args.bytes.now)) c.args.self.now c.loop-connection.connection c.loop-connection.self c.loop-connection.invariant _ _ _ c.in_ok-how.ensures.ok (sym c.is_open.ensures ∙ c.if-not-is_open.false) c.stranger.ensures.left (c.stranger.ensures.between (sym c.is_open.ensures ∙ c.if-not-is_open.false)) c.stranger.ensures.other

pub loop-connection-preserved-else-not-is_open-2 : goal.loop-connection-preserved-else-not-is_open-2
loop-connection-preserved-else-not-is_open-2 g c =
    served_on (given_up (opened c.args.bytes.now)) c.args.self.now c.loop-connection.connection c.loop-connection.self c.loop-connection.invariant _ _ _ c.in_ok-how.ensures.ok (sym c.is_open.ensures ∙ c.if-not-is_open.false) c.stranger.ensures.left (c.stranger.ensures.between (sym c.is_open.ensures ∙ c.if-not-is_open.false)) c.stranger.ensures.other

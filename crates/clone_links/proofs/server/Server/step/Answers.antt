use Rattle.std.proofs.Common.{◌<◌, subst, sym}
use Rattle.clone_serve.proofs.StepLemmas.{FitsTurn, Rest, asks_left, begun_fits, gone_fits, gone_fewer, one_more, whole}
use Rattle.clone_links.specs.Calling.{Gives}
use Rattle.clone_links.proofs.server.Server.step.Goals as goal

pub loop-turn-init : goal.loop-turn-init
loop-turn-init g c = (
  begun_fits c.args.core.now c.begin_step-turn.new.self c.args.received.now.items c.begin_step-turn.new.received.items c.begin_step-turn.result c.begin_step-turn.ensures,
  λ b sent_new t says rest.
      whole Gives c.args.self.now b c.args.core.now c.begin_step-turn.new.self t c.begin_step-turn.result c.args.received.now.items c.begin_step-turn.new.received.items c.args.sent.now.items sent_new says
      c.begin_step-turn.ensures rest,
)

pub loop-turn-smaller : goal.loop-turn-smaller
loop-turn-smaller g c =
    let fits = subst (FitsTurn c.loop-turn.core) c.in-Ask.is c.loop-turn.invariant.0 in
    subst (λ y. asks_left c.go_on-turn.new.self c.go_on-turn.result < asks_left c.loop-turn.core y) (sym c.in-Ask.is)
    (gone_fewer c.loop-turn.core c.go_on-turn.new.self c.in-Ask.call c.answer-answer.result c.loop-turn.sent.items c.go_on-turn.new.sent.items c.go_on-turn.result fits c.go_on-turn.ensures)

pub loop-turn-preserved : goal.loop-turn-preserved
loop-turn-preserved g c =
    let fits = subst (FitsTurn c.loop-turn.core) c.in-Ask.is c.loop-turn.invariant.0 in (
      gone_fits c.loop-turn.core c.go_on-turn.new.self c.answer-answer.result c.loop-turn.sent.items c.go_on-turn.new.sent.items c.go_on-turn.result c.go_on-turn.ensures,
      λ b sent_new t says rest.
          c.loop-turn.invariant.1 b sent_new t says
          (subst (λ y. Rest Gives c.loop-turn.self b c.loop-turn.core y c.loop-turn.sent.items sent_new t says) (sym c.in-Ask.is)
          (one_more Gives c.loop-turn.self c.answer-answer.new.self b c.loop-turn.core c.go_on-turn.new.self t c.in-Ask.call c.answer-answer.result c.go_on-turn.result c.loop-turn.sent.items c.go_on-turn.new.sent.items sent_new says
          fits c.answer-answer.ensures.made c.go_on-turn.ensures rest)),
    )

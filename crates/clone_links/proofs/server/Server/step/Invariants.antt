use Rattle.std.proofs.Common.{ℕ, List}
use Rattle.clone_serve.specs.Stepping.{Steps}
use Rattle.clone_serve.specs.declared.doing.Doing.{Doing}
use Rattle.clone_serve.specs.declared.turn.ServeAnswer.{ServeAnswer}
use Rattle.clone_serve.proofs.StepLemmas.{FitsTurn, Rest, asks_left}
use Rattle.clone_links.specs.Calling.{Gives, Server}
use Rattle.clone_links.proofs.server.Server.step.Given as goal

abbrev pub decreases-loop-turn : goal.decreases-loop-turn
decreases-loop-turn g l = asks_left l.core l.turn

-- what is asked fits, and with the rest the step is whole
abbrev pub invariant-loop-turn : goal.invariant-loop-turn
invariant-loop-turn g l = FitsTurn l.core l.turn
    × ((b : Server) (sent_new : List ℕ) (t : Doing) (says : ServeAnswer) → Rest Gives l.self b l.core l.turn l.sent.items sent_new t says
    → Steps Gives l.fn.self b l.fn.core l.fn.received.items l.received.items l.fn.sent.items sent_new t says)

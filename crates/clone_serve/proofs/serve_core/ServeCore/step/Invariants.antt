use Rattle.std.proofs.Common.{ℕ, List}
use Rattle.clone_serve.specs.Stepping.{Steps}
use Rattle.clone_serve.specs.declared.doing.Doing.{Doing}
use Rattle.clone_serve.specs.declared.turn.ServeAnswer.{ServeAnswer}
use Rattle.clone_serve.proofs.StepLemmas.{FitsTurn, Rest, asks_left}
use Rattle.clone_serve.proofs.serve_core.ServeCore.step.Given as goal

abbrev pub decreases-loop-turn : goal.decreases-loop-turn
decreases-loop-turn g l = asks_left l.self l.turn

-- what is asked fits, and with the rest the step is whole
abbrev pub invariant-loop-turn : goal.invariant-loop-turn
invariant-loop-turn g l = FitsTurn l.self l.turn
    × ((b : g.row.A.Denot) (sent_new : List ℕ) (t : Doing) (says : ServeAnswer) → Rest {A = g.row.A.Denot} g.A.Answers.gives l.donor b l.self l.turn l.sent.items sent_new t says
    → Steps {A = g.row.A.Denot} g.A.Answers.gives l.fn.donor b l.fn.self l.fn.received.items l.received.items l.fn.sent.items sent_new t says)

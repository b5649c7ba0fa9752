use Rattle.clone_trx.proofs.Common.{[], ◌∷◌, ◌∙◌, ℕ, IfErr, List, Option, ap, arith, Call, HasCome, IsRefused, Way, walks}
use Rattle.clone_trx.proofs.HoldingLemmas.{refused_walk, walks_to}
use Rattle.clone_trx.proofs.WalkStepLemmas.{on_err}
use Rattle.clone_trx.proofs.held.Held.walk.Goals as goal

pub walk-requires-clause-loose : goal.walk-requires-clause-loose
walk-requires-clause-loose g c = λ at. omega (arith, c.requires.loose at)

pub returns-in_err-spot-clause-refused : goal.returns-in_err-spot-clause-refused
returns-in_err-spot-clause-refused g c =
    on_err (λ r. IfErr r (λ e. (call : Call) (rest : ℕ → Option ℕ → List ℕ → Way) → HasCome call [] (walks c.args.course rest) c.args.buffer.now → IsRefused call c.walk.new.buffer e)) c.from_residual.result c.in_err-spot.field-0.0 c.from_residual.ensures.1
    (λ call rest come. refused_walk call c.args.buffer.now c.walk.new.buffer c.args.course rest come c.in_err-spot.field-0.0 c.in_err-spot.ensures.walked)

pub returns-clause-frames : goal.returns-clause-frames
returns-clause-frames g c = c.push.ensures ∙ ap (λ (f : List ℕ). c.in_ok-spot.spot.at ∷ f) c.requires.none

pub returns-clause-comes : goal.returns-clause-comes
returns-clause-comes g c = λ call rest come.
    walks_to call c.args.buffer.now c.walk.new.buffer c.args.course rest come c.in_ok-spot.spot c.push.new.self (returns-clause-frames g c) c.in_ok-spot.ensures.walked

use Rattle.std.proofs.Common.{subst, sym}
use Rattle.clone_turn.specs.Runs.{end_of, entries}
use Rattle.clone_turn.proofs.CallLemmas.{fits_at, step_at, called}
use Rattle.clone_turn.proofs.raw.RawCell.call.Goals as goal

pub step-answer-requires : goal.step-answer-requires
step-answer-requires g c =
    let k = c.args.self.now.table.shared.key.value in
    fits_at _ k c.args.seat.now.seat.me c.take_up-state.new.seat.seat.me _ _ c.take_up-state.ensures.lifted g.M.Machine.fits g.met.M.Machine.still_fits _ c.requires.fits

pub put_home-requires-clause-step : goal.put_home-requires-clause-step
put_home-requires-clause-step g c κs within =
    let k = c.args.self.now.table.shared.key.value in
    let w = c.take_up-state.new.seat.seat.me in
    let S = g.M.Machine.steps in
    subst (λ a. S (end_of k (entries w.0.seen)) c.of-said.result.value a c.step-answer.new.state) (sym c.of-told.ensures)
    (subst (λ d. S (end_of k (entries w.0.seen)) d c.step-answer.result c.step-answer.new.state) (sym c.of-said.ensures)
    (step_at _ k c.args.seat.now.seat.me w _ _ c.take_up-state.ensures.lifted _ _ _ c.step-answer.ensures))

pub returns-clause-call : goal.returns-clause-call
returns-clause-call g c =
    let k = c.args.self.now.table.shared.key.value in
    called _ k c.args.seat.now.seat.me c.take_up-state.new.seat.seat.me _ _ c.take_up-state.ensures.lifted _ _ _ c.of-said.result c.of-told.result c.put_home.new.seat.seat.me c.requires.idle c.step-answer.ensures c.of-said.ensures c.of-told.ensures c.put_home.ensures.noted

use Rattle.std.proofs.Common.{◌∙◌, inl, subst, sym}
use Rattle.clone_turn.specs.Worked.{Worked}
use Rattle.clone_copying.specs.Calling.{IsOne}
use Rattle.clone_copying.proofs.CallingLemmas.{worked_one}
use Rattle.clone_copying.proofs.WatchLemmas.{halted_now, looks_now}
use Rattle.clone_copying.proofs.caller.Caller.is_halted.Goals as goal

pub returns-clause-looks : goal.returns-clause-looks
returns-clause-looks g c =
    let w = g.M.Watched in
    let asked = worked_one g.M.Machine.steps c.args.self.now c.call-answer.new.self c.halted_call.result c.call-answer.result c.call-answer.ensures in
    looks_now w.asks_halted w.asks_position w.is_halted w.position_of c.args.self.now c.call-answer.new.self c.halted_call.result c.call-answer.result (inl c.halted_call.ensures.call) asked

pub returns-clause-halted : goal.returns-clause-halted
returns-clause-halted g c = λ is.
    let w = g.M.Watched in
    let asked = worked_one g.M.Machine.steps c.args.self.now c.call-answer.new.self c.halted_call.result c.call-answer.result c.call-answer.ensures in
    halted_now w.asks_halted w.asks_position w.is_halted w.position_of c.args.self.now c.call-answer.new.self c.call-answer.result
    (subst (λ x. Worked (IsOne x c.call-answer.result) c.args.self.now c.call-answer.new.self) c.halted_call.ensures.call asked) (sym c.halted.ensures ∙ is)

use Rattle.std.proofs.Common.{◌∙◌, IsSome, inr, subst, sym}
use Rattle.std.proofs.lemmas.Bool.{false≢true}
use Rattle.clone_turn.specs.Worked.{Worked}
use Rattle.clone_copying.specs.Calling.{IsOne}
use Rattle.clone_copying.proofs.CallingLemmas.{step_made, worked_one}
use Rattle.clone_copying.proofs.WatchLemmas.{looked_now, looks_more, looks_now}
use Rattle.clone_copying.proofs.caller.Caller.look.Goals as goal

pub unreachable-requires : goal.unreachable-requires
unreachable-requires g c =
    let step = step_made g.M.Machine.steps c.is_halted.new.self c.call-answer.new.self c.position_call.result c.call-answer.result c.call-answer.ensures in
    let told = g.met.M.Watched.tells step.0 c.call-answer.result step.1 (subst (λ x. g.M.Machine.steps step.0 x c.call-answer.result step.1) c.position_call.ensures.call step.2) in
    false≢true (subst (λ o. IsSome o) (sym c.position.ensures ∙ c.in_default.is) told)

pub returns-clause-looks : goal.returns-clause-looks
returns-clause-looks g c =
    let w = g.M.Watched in
    let asked = worked_one g.M.Machine.steps c.is_halted.new.self c.call-answer.new.self c.position_call.result c.call-answer.result c.call-answer.ensures in
    looks_more w.asks_halted w.asks_position w.is_halted w.position_of c.args.self.now c.is_halted.new.self c.call-answer.new.self c.is_halted.ensures.looks
    (looks_now w.asks_halted w.asks_position w.is_halted w.position_of c.is_halted.new.self c.call-answer.new.self c.position_call.result c.call-answer.result (inr c.position_call.ensures.call) asked)

pub returns-clause-some : goal.returns-clause-some
returns-clause-some g c =
    let w = g.M.Watched in
    let asked = worked_one g.M.Machine.steps c.is_halted.new.self c.call-answer.new.self c.position_call.result c.call-answer.result c.call-answer.ensures in
    looked_now w.asks_halted w.asks_position w.is_halted w.position_of c.is_halted.new.self c.call-answer.new.self c.call-answer.result c.in-Some.position
    (subst (λ x. Worked (IsOne x c.call-answer.result) c.is_halted.new.self c.call-answer.new.self) c.position_call.ensures.call asked) (sym c.position.ensures ∙ c.in-Some.is)

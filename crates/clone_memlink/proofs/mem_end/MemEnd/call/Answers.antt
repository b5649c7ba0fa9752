use Rattle.std.proofs.Common.{rules, ◌++◌, ap, sym, ◌∙◌}
use Rattle.std.specs.Arc.{arc_value}
use Rattle.clone_turn.specs.Seats.{MakesCall}
use Rattle.clone_memlink.specs.Connections.{Steps}
use Rattle.clone_memlink.specs.Ends.{sent_of, received_of}
use Rattle.clone_memlink.specs.Held.{EndModel, sent_by, received_by}
use Rattle.clone_memlink.proofs.EndViewLemmas.{half_after, step_made, sent_more, received_more}
use Rattle.clone_memlink.proofs.mem_end.MemEnd.call.Goals as goal

pub invariant_of-self : goal.invariant_of-self
invariant_of-self g c =
    let cell = (arc_value c.self.inside.line).cell in
    let made : MakesCall Steps cell.first c.self.inside.seat c.args.call c.call.result c.call.new.seat = search rules in
    half_after _ _ _ _ _ _ made (c.requires ∙ sym (ap (λ (v : EndModel). v.side) c.self.view_is)) cell c.self.invariant

pub returns-clause-step : goal.returns-clause-step
returns-clause-step g c =
    let cell = (arc_value c.self.inside.line).cell in
    let made : MakesCall Steps cell.first c.self.inside.seat c.args.call c.call.result c.call.new.seat = search rules in
    step_made _ _ _ _ _ _ made (c.requires ∙ sym (ap (λ (v : EndModel). v.side) c.self.view_is))

pub returns-clause-sent : goal.returns-clause-sent
returns-clause-sent g c =
    let cell = (arc_value c.self.inside.line).cell in
    let made : MakesCall Steps cell.first c.self.inside.seat c.args.call c.call.result c.call.new.seat = search rules in
    sent_more _ _ _ _ _ _ made (c.requires ∙ sym (ap (λ (v : EndModel). v.side) c.self.view_is))
    ∙ ap (λ xs. xs ++ sent_of c.args.call c.call.result) (ap sent_by c.self.view_is)

pub returns-clause-received : goal.returns-clause-received
returns-clause-received g c =
    let cell = (arc_value c.self.inside.line).cell in
    let made : MakesCall Steps cell.first c.self.inside.seat c.args.call c.call.result c.call.new.seat = search rules in
    received_more _ _ _ _ _ _ made (c.requires ∙ sym (ap (λ (v : EndModel). v.side) c.self.view_is))
    ∙ ap (λ xs. xs ++ received_of c.args.call c.call.result) (ap received_by c.self.view_is)

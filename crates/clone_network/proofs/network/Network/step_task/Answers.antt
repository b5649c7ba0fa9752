use Rattle.std.proofs.Common.{◌≡◌, ◌∙◌, ◌<◌, length, Some, None, slice_get, sym, ap, arith}
use Rattle.std.proofs.lemmas.Option.{slice_get-get_or}
use Rattle.clone_network.specs.Connections.{Connection}
use Rattle.clone_network.specs.Networks.{Seat, apart, over}
use Rattle.clone_network.proofs.GivingLemmas.{its_own_some}
use Rattle.clone_network.proofs.network.Network.step_task.Goals as goal

pub returns-in-Some-clause-steps : goal.returns-in-Some-clause-steps
returns-in-Some-clause-steps g c =
    let cs = c.self.inside.connections.items in
    let seats = c.self.inside.seats.items in
    let seat : Seat = record { made = c.seat.inside.core; connection = c.seat.inside.connection } in
    let at = c.index_mut-connection.result.now in
    let number = c.in-Some.number in
    let within : c.args.task < length seats = omega (arith, c.if-task-len.false, c.len.ensures, c.self.inside.seats.ok.0) in
    let here : slice_get seats c.args.task ≡ Some seat = slice_get-get_or seats c.args.task _ within ∙ ap (λ (x : Seat). Some x) (sym c.index.ensures ∙ sym c.seat.view_is) in
    let below : number < length cs = its_own_some _ seats c.args.task seat number here c.in-Some.is c.self.invariant.0 in
    let there : slice_get cs number ≡ Some at = slice_get-get_or cs number at below ∙ ap (λ (x : Connection). Some x) (sym c.index_mut-connection.ensures.value) in
    rw (← c.self.view_is) (over seat number at c.fetch-answer.new.self c.fetch-answer.new.core here c.in-Some.is there c.fetch-answer.ensures.fetches (rw c.in-Some.is at c.settle.ensures))

pub returns-else-is_err-clause-steps : goal.returns-else-is_err-clause-steps
returns-else-is_err-clause-steps g c =
    let seats = c.self.inside.seats.items in
    let seat : Seat = c.index.result.now in
    let within : c.args.task < length seats = omega (arith, c.if-task-len.false, c.len.ensures, c.self.inside.seats.ok.0) in
    let here : slice_get seats c.args.task ≡ Some seat = slice_get-get_or seats c.args.task seat within ∙ ap (λ (x : Seat). Some x) (sym c.index.ensures) in
    let none : seat.connection ≡ None = ap (λ (s : Seat). s.connection) (sym c.seat.view_is) ∙ c.in-None.is in
    rw (← c.self.view_is) (apart seat _ _ here none (rw c.reserve.ensures.items at c.connect-answer.ensures.connects) c.settle-in-None.ensures)

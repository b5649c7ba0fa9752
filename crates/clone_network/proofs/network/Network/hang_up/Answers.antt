use Rattle.std.proofs.Common.{◌≡◌, ◌∙◌, ◌+◌, ◌<◌, None, arith, length, drop, set, get_or, sym, ap}
use Rattle.std.proofs.lemmas.Option.{slice_get-get_or}
use Rattle.clone_network.specs.Networks.{Network, Seat, all_given_up, given_up_at, vacated}
use Rattle.clone_network.proofs.GivingLemmas.{next_given, next_seat, one_more, length_vacated_to, vacated_to}
use Rattle.clone_network.proofs.network.Network.hang_up.Goals as goal

pub loop-task-preserved : goal.loop-task-preserved
loop-task-preserved c =
    let i = c.loop-task.task in
    let first = c.args.self.now.seats in
    let now : Network = c.loop-task.self in
    let none : Seat = record { made = None; connection = None } in
    let seats : length c.self.inside.seats.items ≡ length first = ap (λ (n : Network). length n.seats) c.self.view_is in
    let within : i < length first = omega (arith, c.loop-task-test.true, c.len-task-end.ensures, c.self.inside.seats.ok.0, seats) in
    let same : length now.seats ≡ length first = ap length c.loop-task.invariant.0 ∙ length_vacated_to i first in
    let seat = get_or now.seats i none in
    let gave = c.give_up.ensures seat (slice_get-get_or now.seats i none (omega (arith, within, same))) in
    let stands : seat ≡ get_or (vacated_to i first) i none = ap (λ seats. get_or seats i none) c.loop-task.invariant.0 in
    let own : seat ≡ get_or first i none = stands ∙ next_seat first i none within in (
      ap (λ (n : Network). n.seats) gave ∙ ap (λ seats. set seats i (vacated seat)) c.loop-task.invariant.0 ∙ ap (λ s. set (vacated_to i first) i (vacated s)) stands ∙ one_more first i none within,
      ap (λ (n : Network). all_given_up (drop (i + 1) first) n.connections) gave ∙ ap (λ (s : Seat). all_given_up (drop (i + 1) first) (given_up_at s.connection now.connections)) own ∙ sym (next_given first i none now.connections within) ∙ c.loop-task.invariant.1,
    )

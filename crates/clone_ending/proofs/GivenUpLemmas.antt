-- Where a connection is cut or given up no more is left of the connections.
use Rattle.std.proofs.Common.{ℕ, ◌≡◌, ◌<◌, ◌≤◌, Bool, true, false, cond, Option, None, Some, get_or, refl, ap, arith, inl, inr, if◌then◌else◌}
use Rattle.std.specs.Prelude.{is_some}
use Rattle.std.specs.List.{slice_get, sum_by}
use Rattle.std.proofs.lemmas.Bool.{cases_Bool}
use Rattle.std.proofs.lemmas.List.{length-take}
use Rattle.std.proofs.lemmas.List.Sums.{sum_by-set}
use Rattle.std.proofs.lemmas.Option.{get_or_from_slice_get, slice_get_within}
use Rattle.clone_network.specs.Connections.{Connection, cut_at, given_up, is_open}
use Rattle.clone_network.specs.Networks.{Network, Seat, given_up_at, gives_up, on_connected, vacated, with_connection}
use Rattle.clone_ending.specs.Unread.{donor_left, end_left, has_connection, seats_left}
use Rattle.clone_ending.proofs.UnreadLemmas.{end_most, found, total}

-- ---- a cut

cut_most : (to_donor to_task : ℕ) (at : Connection) → end_left (cut_at to_donor to_task at) ≤ end_left at
cut_most to_donor to_task at =
    elim (cases_Bool (is_open at)) [
      | inl opens ↦ end_most at (cut_at to_donor to_task at) opens (omega (arith, length-take to_donor at.to_donor))
      | inr closed ↦
          let none : end_left (cut_at to_donor to_task at) ≡ 0 = rw closed refl in
          omega (arith, none)
    ]

either_most : (held : Bool) (n m : Network) → donor_left m ≤ donor_left n → donor_left (if held then m else n) ≤ donor_left n
either_most true n m most = most
either_most false n m most = omega arith

pub cuts_most : (n : Network) (number to_donor to_task : ℕ) → donor_left (on_connected number (cut_at to_donor to_task) n) ≤ donor_left n
cuts_most n number to_donor to_task =
    elim (found (slice_get n.connections number)) [
      | inl none ↦ rw none (omega arith)
      | inr some ↦
          let at = some.0 in
          let new = with_connection number (cut_at to_donor to_task at) n in
          let most : donor_left new ≤ donor_left n = omega (arith, cut_most to_donor to_task at, total n number at (cut_at to_donor to_task at) some.1) in
          rw some.1 (either_most at.held n new most)
    ]

-- ---- a task gives its connection up

given_up_same : (connection : Option ℕ) (n : Network) → sum_by end_left (given_up_at connection n.connections) ≡ donor_left n
given_up_same None n = refl
given_up_same (Some number) n =
    elim (found (slice_get n.connections number)) [
      | inl none ↦ rw none refl
      | inr some ↦
          let at = some.0 in
          let all : donor_left (with_connection number (given_up at) n) ≡ donor_left n = omega (arith, total n number at (given_up at) some.1) in
          rw some.1 all
    ]

pub gives_up_same : (n : Network) (task : ℕ) (seat : Seat) → donor_left (gives_up task seat n) ≡ donor_left n
gives_up_same n task seat = given_up_same seat.connection n

pub gives_up_less : (n : Network) (task number : ℕ) (seat : Seat) → slice_get n.seats task ≡ Some seat → seat.connection ≡ Some number → seats_left (gives_up task seat n) < seats_left n
gives_up_less n task number seat here has =
    let f : Seat → ℕ = λ x. cond (has_connection x) 1 0 in
    let all = sum_by-set f n.seats task (vacated seat) seat (slice_get_within n.seats task seat here) in
    let was : f (get_or n.seats task seat) ≡ f seat = ap f (get_or_from_slice_get n.seats task seat seat here) in
    let one : f seat ≡ 1 = ap (λ (o : Option ℕ). cond (is_some o) 1 0) has in
    omega (arith, all, was, one)

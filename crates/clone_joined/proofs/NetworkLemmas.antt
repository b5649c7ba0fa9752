-- What holds of each connection of a network, while one of them changes, another comes, and all are
-- given up.
use Rattle.std.proofs.Common.{ℕ, zero, suc, ◌≡◌, ◌∷◌, [], List, Bool, true, false, if◌then◌else◌, Option, None, Some, set, slice_get, refl, subst}
use Rattle.std.specs.Option.{option_map_or}
use Rattle.std.specs.List.{AllByRecursion}
use Rattle.clone_network.specs.Connections.{Connection, given_up}
use Rattle.clone_network.specs.Networks.{Network, Seat, after_answer, all_given_up, given_up_at, on_connected, with_connection}
use Rattle.clone_fetch.specs.declared.answer.TaskAnswer.{TaskAnswer}
use Rattle.clone_fetch.specs.declared.answer.TaskAnswer.TheVariants as says

module _ (P : Connection → Type 0) where
  pub one_of : (cs : List Connection) (number : ℕ) (at : Connection) → slice_get cs number ≡ Some at → AllByRecursion P cs → P at
  one_of [] number at is all = absurd (cc)
  one_of (c ∷ cs) zero at is all = (let same : c ≡ at = cc in subst P same all.0)
  one_of (c ∷ cs) (suc number) at is all = one_of cs number at is all.1

  pub all_set : (cs : List Connection) (number : ℕ) (new : Connection) → P new → AllByRecursion P cs → AllByRecursion P (set cs number new)
  all_set [] number new is all = all
  all_set (c ∷ cs) zero new is all = (is, all.1)
  all_set (c ∷ cs) (suc number) new is all = (all.0, all_set cs number new is all.1)

  module _ (gives_up : (at : Connection) → P at → P (given_up at)) where
    given_up_one : (which : Option ℕ) (cs : List Connection) → AllByRecursion P cs → AllByRecursion P (given_up_at which cs)
    given_up_one None cs all = all
    given_up_one (Some number) cs all = by (slice_get cs number) refl
      where
        by : (found : Option Connection) → slice_get cs number ≡ found → AllByRecursion P (option_map_or (λ at. set cs number (given_up at)) found cs)
        by None is = all
        by (Some at) is = all_set cs number (given_up at) (gives_up at (one_of cs number at is all)) all

    given_up_all : (seats : List Seat) (cs : List Connection) → AllByRecursion P cs → AllByRecursion P (all_given_up seats cs)
    given_up_all [] cs all = all
    given_up_all (seat ∷ seats) cs all = given_up_all seats (given_up_at seat.connection cs) (given_up_one seat.connection cs all)

    -- a step of a task is over, and where it found a loss all are given up
    pub all_after : (answer : TaskAnswer) (n : Network) → AllByRecursion P n.connections → AllByRecursion P (after_answer answer n).connections
    all_after (says.Lost losses) n all = given_up_all n.seats n.connections all
    all_after other n all = all

  pub all_connected : (number : ℕ) (change : Connection → Connection) (n : Network) → ((at : Connection) → P at → P (change at)) → AllByRecursion P n.connections → AllByRecursion P (on_connected number change n).connections
  all_connected number change n changes all = by (slice_get n.connections number) refl
    where
      held : (at : Connection) → P at → (b : Bool) → AllByRecursion P (if b then with_connection number (change at) n else n).connections
      held at is true = all_set n.connections number (change at) (changes at is) all
      held at is false = all

      by : (found : Option Connection) → slice_get n.connections number ≡ found → AllByRecursion P (option_map_or (λ at. if at.held then with_connection number (change at) n else n) found n).connections
      by None is = all
      by (Some at) is = held at (one_of n.connections number at is all) at.held

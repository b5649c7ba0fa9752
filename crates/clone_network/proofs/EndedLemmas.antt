-- Connections of which none is open at the donor's end between two numbers, while one of them
-- changes or another comes.
use Rattle.std.proofs.Common.{ℕ, ◌≡◌, ◌≤◌, ◌++◌, ◌∷◌, [], List, Option, Some, None, false, Bool, refl, sym, ap, ◌∙◌, length, set, slice_get, inl, inr, arith}
use Rattle.std.specs.Option.{option_map_or}
use Rattle.std.proofs.lemmas.Bool.{cases_eq}
use Rattle.std.proofs.lemmas.List.{length-set}
use Rattle.std.proofs.lemmas.Option.{slice_get_within}
use Rattle.clone_base.proofs.MapEntries.{slice_get-pushed_front, slice_get-set_other, slice_get-set_same}
use Rattle.clone_network.specs.Connections.{Connection, given_up, is_open}
use Rattle.clone_network.specs.Networks.{AreEnded, Seat, all_given_up, given_up_at, is_open_at}

abbrev is_found_open : Option Connection → Bool
is_found_open found = option_map_or is_open found false

pub ended_set : (cs : List Connection) (n : ℕ) (at new : Connection) (low high : ℕ) → slice_get cs n ≡ Some at → (is_open at ≡ false → is_open new ≡ false) → AreEnded cs low high → AreEnded (set cs n new) low high
ended_set cs n at new low high here stays ended k above below =
    elim (cases_eq k n) [
      | inl same ↦
          let was : is_open at ≡ false = sym (ap is_found_open here) ∙ ap (λ i. is_open_at cs i) (sym same) ∙ ended k above below in
          ap (λ i. is_open_at (set cs n new) i) same ∙ ap is_found_open (slice_get-set_same cs n new (slice_get_within cs n at here)) ∙ stays was
      | inr other ↦ ap is_found_open (slice_get-set_other cs n k new other) ∙ ended k above below
    ]

pub ended_push : (cs : List Connection) (new : Connection) (low high : ℕ) → high ≤ length cs → AreEnded cs low high → AreEnded (cs ++ new ∷ []) low high
ended_push cs new low high within ended k above below =
    ap is_found_open (slice_get-pushed_front cs new k (omega (arith, below, within))) ∙ ended k above below

-- where one is given up, and where all are
pub length_given_up : (which : Option ℕ) (cs : List Connection) → length (given_up_at which cs) ≡ length cs
length_given_up None cs = refl
length_given_up (Some number) cs = by (slice_get cs number)
  where
    by : (found : Option Connection) → length (option_map_or (λ at. set cs number (given_up at)) found cs) ≡ length cs
    by None = refl
    by (Some at) = length-set cs number (given_up at)

ended_given_up : (which : Option ℕ) (cs : List Connection) (low high : ℕ) → AreEnded cs low high → AreEnded (given_up_at which cs) low high
ended_given_up None cs low high ended = ended
ended_given_up (Some number) cs low high ended = by (slice_get cs number) refl
  where
    by : (found : Option Connection) → slice_get cs number ≡ found → AreEnded (option_map_or (λ at. set cs number (given_up at)) found cs) low high
    by None is = ended
    by (Some at) is = ended_set cs number at (given_up at) low high is (λ was. was) ended

pub length_all_given_up : (seats : List Seat) (cs : List Connection) → length (all_given_up seats cs) ≡ length cs
length_all_given_up [] cs = refl
length_all_given_up (seat ∷ seats) cs =
    length_all_given_up seats (given_up_at seat.connection cs) ∙ length_given_up seat.connection cs

pub ended_all_given_up : (seats : List Seat) (cs : List Connection) (low high : ℕ) → AreEnded cs low high → AreEnded (all_given_up seats cs) low high
ended_all_given_up [] cs low high ended = ended
ended_all_given_up (seat ∷ seats) cs low high ended =
    ended_all_given_up seats (given_up_at seat.connection cs) low high (ended_given_up seat.connection cs low high ended)

-- Each task gives its connection up, one after the other.
use Rattle.std.proofs.Common.{ℕ, zero, suc, ◌≡◌, ◌+◌, ◌<◌, ◌≤◌, List, [], ◌∷◌, ◌++◌, Option, None, Some, IfSome, length, map, take, drop, set, get_or, slice_get, refl, ap, subst, arith}
use Rattle.std.proofs.lemmas.Option.{get_or_from_slice_get, slice_get_within}
use Rattle.std.specs.List.{AllByRecursion}
use Rattle.clone_network.specs.Connections.{Connection}
use Rattle.clone_network.specs.Networks.{HasIts, Seat, all_given_up, given_up_at, vacated}

-- so many of the first have given theirs up
abbrev pub vacated_to : ℕ → List Seat → List Seat
vacated_to i seats = map vacated (take i seats) ++ drop i seats

pub one_more : (seats : List Seat) (i : ℕ) (d : Seat) → i < length seats → set (vacated_to i seats) i (vacated (get_or (vacated_to i seats) i d)) ≡ vacated_to (i + 1) seats
one_more [] i d within = absurd (omega arith)
one_more (s ∷ seats) zero d within = refl
one_more (s ∷ seats) (suc i) d within = let e : suc i + 1 ≡ suc (i + 1) = omega arith in rw e (ap (λ rest. vacated s ∷ rest) (one_more seats i d (omega arith)))

pub length_vacated_to : (i : ℕ) (seats : List Seat) → length (vacated_to i seats) ≡ length seats
length_vacated_to i [] = by i
  where
    by : (i : ℕ) → length (vacated_to i []) ≡ 0
    by zero = refl
    by (suc i) = refl
length_vacated_to zero (s ∷ seats) = refl
length_vacated_to (suc i) (s ∷ seats) = ap suc (length_vacated_to i seats)

pub next_seat : (seats : List Seat) (i : ℕ) (d : Seat) → i < length seats → get_or (vacated_to i seats) i d ≡ get_or seats i d
next_seat [] i d within = absurd (omega arith)
next_seat (s ∷ seats) zero d within = refl
next_seat (s ∷ seats) (suc i) d within = next_seat seats i d (omega arith)

pub next_given : (seats : List Seat) (i : ℕ) (d : Seat) (cs : List Connection) → i < length seats → all_given_up (drop i seats) cs ≡ all_given_up (drop (i + 1) seats) (given_up_at (get_or seats i d).connection cs)
next_given [] i d cs within = absurd (omega arith)
next_given (s ∷ seats) zero d cs within = refl
next_given (s ∷ seats) (suc i) d cs within = let e : suc i + 1 ≡ suc (i + 1) = omega arith in rw e (next_given seats i d cs (omega arith))

pub its_own : (count : ℕ) (seats : List Seat) (i : ℕ) (d : Seat) → i < length seats → AllByRecursion (HasIts count) seats → HasIts count (get_or seats i d)
its_own count [] i d within all = absurd (omega arith)
its_own count (s ∷ seats) zero d within all = all.0
its_own count (s ∷ seats) (suc i) d within all = its_own count seats i d (omega arith) all.1

pub its_own_some : (count : ℕ) (seats : List Seat) (task : ℕ) (seat : Seat) (number : ℕ) → slice_get seats task ≡ Some seat → seat.connection ≡ Some number → AllByRecursion (HasIts count) seats → number < count
its_own_some count seats task seat number here is all =
    let within = slice_get_within seats task seat here in
    let own : HasIts count seat = subst (HasIts count) (get_or_from_slice_get seats task seat seat here) (its_own count seats task seat within all) in
    subst (λ (o : Option ℕ). IfSome o (λ n. n < count)) is own

pub all_vacated : (count : ℕ) (seats : List Seat) → AllByRecursion (HasIts count) (map vacated seats)
all_vacated count [] = tt
all_vacated count (s ∷ seats) = (tt, all_vacated count seats)

-- one more connection comes, and a task has another
pub all_set : (count : ℕ) (seats : List Seat) (i : ℕ) (new : Seat) → HasIts count new → AllByRecursion (HasIts count) seats → AllByRecursion (HasIts count) (set seats i new)
all_set count [] i new its all = all
all_set count (s ∷ seats) zero new its all = (its, all.1)
all_set count (s ∷ seats) (suc i) new its all = (all.0, all_set count seats i new its all.1)

pub all_counted : (low high : ℕ) (seats : List Seat) → low ≤ high → AllByRecursion (HasIts low) seats → AllByRecursion (HasIts high) seats
all_counted low high [] le all = tt
all_counted low high (s ∷ seats) le all = (its s.connection all.0, all_counted low high seats le all.1)
  where
    its : (c : Option ℕ) → IfSome c (λ number. number < low) → IfSome c (λ number. number < high)
    its None below = tt
    its (Some number) below = omega (arith, below, le)

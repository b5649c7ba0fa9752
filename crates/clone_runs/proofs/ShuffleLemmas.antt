-- Seats that are joined one after the other: the run is shuffled from their calls.
use Rattle.std.proofs.Common.{set, ◌≡◌, ◌<◌, ◌+◌, ◌⊎◌, ◌||◌, zero, suc, Bool, true, false, cond, List, [], ◌∷◌, Some, refl, sym, ap, ◌∙◌, subst, inl, inr, arith}
use Rattle.std.proofs.lemmas.Option.{same_Some}
use Rattle.clone_turn.specs.declared.view.Entry.{Entry}
use Rattle.clone_turn.specs.Runs.{Agree, calls, meld}
use Rattle.clone_turn.specs.Seats.{SeatModel}
use Rattle.clone_turn.specs.Joined.{Joins, parts_of}
use Rattle.clone_runs.specs.Shuffles.{IsShuffled}

module _ {X : Type 0} where
  head_same : {x y : X} {xs ys : List X} → x ∷ xs ≡ y ∷ ys → x ≡ y
  head_same is = cc

  tail_same : {x y : X} {xs ys : List X} → x ∷ xs ≡ y ∷ ys → xs ≡ ys
  tail_same is = cc

  -- shuffled from two lists
  abbrev Two : List X → List X → List X → Type 0
  Two xs ys [] = (xs ≡ []) × (ys ≡ [])
  Two xs ys (z ∷ zs) = ((rest : List X) × (xs ≡ z ∷ rest) × Two rest ys zs) ⊎ ((rest : List X) × (ys ≡ z ∷ rest) × Two xs rest zs)

  of_left : (xs : List X) → Two xs [] xs
  of_left [] = (refl, refl)
  of_left (x ∷ xs) = inl (xs, refl, of_left xs)

  of_right : (ys : List X) → Two [] ys ys
  of_right [] = (refl, refl)
  of_right (y ∷ ys) = inr (ys, refl, of_right ys)

  -- one list stands alone
  alone : (xs : List X) → IsShuffled (xs ∷ []) xs
  alone [] = (refl, tt)
  alone (x ∷ xs) = (0, xs, refl, alone xs)

  -- one of the parts is shuffled from two itself
  parted : (xs ys zs : List X) (parts : List (List X)) (run : List X) → Two xs ys zs → IsShuffled (zs ∷ parts) run → IsShuffled (xs ∷ ys ∷ parts) run
  parted xs ys [] parts [] two none = (two.0, (two.1, none.1))
  parted xs ys (z ∷ zs) parts [] two none = absurd cc
  parted xs ys [] parts (x ∷ run) two (zero, rest, first, later) = absurd cc
  parted xs ys (z ∷ zs) parts (x ∷ run) (inl two) (zero, rest, first, later) =
      let same : z ∷ zs ≡ x ∷ rest = same_Some _ _ first in
      (zero, two.0, ap Some two.1 ∙ ap (λ y. Some (y ∷ two.0)) (head_same same), parted two.0 ys zs parts run two.2 (subst (λ ws. IsShuffled (ws ∷ parts) run) (sym (tail_same same)) later))
  parted xs ys (z ∷ zs) parts (x ∷ run) (inr two) (zero, rest, first, later) =
      let same : z ∷ zs ≡ x ∷ rest = same_Some _ _ first in
      (suc zero, two.0, ap Some two.1 ∙ ap (λ y. Some (y ∷ two.0)) (head_same same), parted xs two.0 zs parts run two.2 (subst (λ ws. IsShuffled (ws ∷ parts) run) (sym (tail_same same)) later))
  parted xs ys zs parts (x ∷ run) two (suc i, rest, first, later) = (suc (suc i), rest, first, parted xs ys zs (set parts i rest) run two later)

module _ {S C A : Type 0} where
  melded : (xs ys : List (Entry S C A × Bool)) → Agree xs ys → Two (calls xs) (calls ys) (calls (meld xs ys))
  melded [] ys agree = of_right (calls ys)
  melded (x ∷ xs) [] agree = of_left (calls (x ∷ xs))
  melded (x ∷ xs) (y ∷ ys) agree = by x.1 y.1 agree.1 (melded xs ys agree.2)
    where
      by : (b c : Bool) → cond b 1 0 + cond c 1 0 < 2 → Two (calls xs) (calls ys) (calls (meld xs ys)) → Two (cond b (x.0 ∷ calls xs) (calls xs)) (cond c (y.0 ∷ calls ys) (calls ys)) (cond (b || c) (x.0 ∷ calls (meld xs ys)) (calls (meld xs ys)))
      by false false few two = two
      by true false few two = inl (calls xs, refl, two)
      by false true few two = inr (calls ys, ap (λ e. e ∷ calls ys) (sym agree.0), two)
      by true true few two = absurd (omega (arith, few))

  pub joins_shuffled : (v : SeatModel S C A) (ws : List (SeatModel S C A)) (u : SeatModel S C A) → Joins v ws u → IsShuffled (parts_of (v ∷ ws)) (calls u.seen)
  joins_shuffled v [] u joins = subst (λ (x : SeatModel S C A). IsShuffled (calls v.seen ∷ []) (calls x.seen)) (sym joins) (alone (calls v.seen))
  joins_shuffled v (w ∷ ws) u joins =
      let t = joins.0 in
      let two : Two (calls v.seen) (calls w.seen) (calls t.seen) = subst (λ (x : SeatModel S C A). Two (calls v.seen) (calls w.seen) (calls x.seen)) (sym joins.2) (melded v.seen w.seen joins.1) in
      parted (calls v.seen) (calls w.seen) (calls t.seen) (parts_of ws) (calls u.seen) two (joins_shuffled t ws u joins.3)

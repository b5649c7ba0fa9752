-- Lists that are shuffled from parts.
use Rattle.std.proofs.Common.{set, ◌≡◌, zero, suc, ℕ, List, [], ◌∷◌, ◌++◌, Some, refl, sym, ap, ◌∙◌, subst, inl, ◌⊎◌, ◌<◌, ◌+◌, ◌||◌, Bool, true, false, cond, inr, arith}
use Rattle.std.specs.List.{AllByRecursion, slice_get}
use Rattle.std.specs.List.Sorted.{IsPermutation}
use Rattle.std.proofs.lemmas.List.Sorted.{IsPermutation-refl, IsPermutation-trans, IsPermutation-append_right, IsPermutation-cons, IsPermutation-middle}
use Rattle.std.proofs.lemmas.Option.{same_Some}
use Rattle.clone_turn.specs.declared.view.Entry.{Entry}
use Rattle.clone_turn.specs.Runs.{Agree, calls, meld}
use Rattle.clone_turn.specs.Seats.{SeatModel, joined_seat}
use Rattle.clone_turn.specs.Parts.{IsMadeOf, IsSublist, all_of}
use Rattle.clone_turn.proofs.SublistLemmas.{sublist_more}
use Rattle.clone_runs.specs.Shuffles.{IsShuffled}

module _ {X : Type 0} where
  -- one list stands alone
  pub whole : (xs : List X) → IsShuffled (xs ∷ []) xs
  whole [] = (refl, tt)
  whole (x ∷ xs) = (0, xs, refl, whole xs)

  -- one after the other
  pub in_order : (xs ys : List X) → IsShuffled (xs ∷ ys ∷ []) (xs ++ ys)
  in_order [] [] = (refl, (refl, tt))
  in_order [] (y ∷ ys) = (1, ys, refl, in_order [] ys)
  in_order (x ∷ xs) ys = (0, xs, refl, in_order xs ys)

  -- a part that is empty may be left out
  pub without_none : (xs : List X) (parts : List (List X)) (run : List X) → xs ≡ [] → IsShuffled (xs ∷ parts) run → IsShuffled parts run
  without_none xs parts [] none made = made.1
  without_none xs parts (e ∷ run) none (zero, rest, first, later) = absurd (no_first xs e rest none (same_Some _ _ first))
    where
      no_first : (xs : List X) (e : X) (rest : List X) → xs ≡ [] → xs ≡ e ∷ rest → ⊥
      no_first xs e rest none some = cc
  without_none xs parts (e ∷ run) none (suc i, rest, first, later) = (i, rest, first, without_none xs (set parts i rest) run none later)

  all_both : (P : List X → Type 0) (xs ys : List (List X)) → AllByRecursion P xs → AllByRecursion P ys → AllByRecursion P (xs ++ ys)
  all_both P [] ys a b = b
  all_both P (x ∷ xs) ys a b = (a.0, all_both P xs ys a.1 b)

  get_before : (xs ys : List (List X)) (i : ℕ) (p : List X) → slice_get xs i ≡ Some p → slice_get (xs ++ ys) i ≡ Some p
  get_before [] ys i p found = absurd cc
  get_before (x ∷ xs) ys zero p found = found
  get_before (x ∷ xs) ys (suc i) p found = get_before xs ys i p found

  set_before : (xs ys : List (List X)) (i : ℕ) (p q : List X) → slice_get xs i ≡ Some p → set (xs ++ ys) i q ≡ set xs i q ++ ys
  set_before [] ys i p q found = absurd cc
  set_before (x ∷ xs) ys zero p q found = refl
  set_before (x ∷ xs) ys (suc i) p q found = ap (λ zs. x ∷ zs) (set_before xs ys i p q found)

  -- where a part is that is after these
  abbrev shift : List (List X) → ℕ → ℕ
  shift [] i = i
  shift (x ∷ xs) i = suc (shift xs i)

  get_after : (xs ys : List (List X)) (i : ℕ) (p : List X) → slice_get ys i ≡ Some p → slice_get (xs ++ ys) (shift xs i) ≡ Some p
  get_after [] ys i p found = found
  get_after (x ∷ xs) ys i p found = get_after xs ys i p found

  set_after : (xs ys : List (List X)) (i : ℕ) (q : List X) → set (xs ++ ys) (shift xs i) q ≡ xs ++ set ys i q
  set_after [] ys i q = refl
  set_after (x ∷ xs) ys i q = ap (λ zs. x ∷ zs) (set_after xs ys i q)

  -- where the first part is shuffled itself, its parts may stand in its place
  pub spliced : (xs ys : List (List X)) (b run : List X) → IsShuffled xs b → IsShuffled (b ∷ ys) run → IsShuffled (xs ++ ys) run
  spliced xs ys b [] inner outer = all_both (λ part. part ≡ []) xs ys (subst (IsShuffled xs) outer.0 inner) outer.1
  spliced xs ys b (e ∷ run) inner (zero, rest, first, later) =
      let f : IsShuffled xs (e ∷ rest) = subst (IsShuffled xs) (same_Some _ _ first) inner in (
        f.0,
        f.1,
        get_before xs ys f.0 (e ∷ f.1) f.2,
        subst (λ zs. IsShuffled zs run) (sym (set_before xs ys f.0 (e ∷ f.1) f.1 f.2)) (spliced (set xs f.0 f.1) ys rest run f.3 later),
      )
  spliced xs ys b (e ∷ run) inner (suc i, rest, first, later) = (
    shift xs i,
    rest,
    get_after xs ys i (e ∷ rest) first,
    subst (λ zs. IsShuffled zs run) (sym (set_after xs ys i rest)) (spliced xs (set ys i rest) b run inner later),
  )

  -- ---- a shuffled list is made of its parts

  none_of : (parts : List (List X)) → AllByRecursion (λ part. part ≡ []) parts → all_of parts ≡ []
  none_of [] none = refl
  none_of (p ∷ ps) none = ap (λ xs. xs ++ all_of ps) none.0 ∙ none_of ps none.1

  picked : (parts : List (List X)) (i : ℕ) (x : X) (rest : List X) → slice_get parts i ≡ Some (x ∷ rest) → IsPermutation (all_of parts) (x ∷ all_of (set parts i rest))
  picked [] i x rest found = absurd cc
  picked (p ∷ ps) zero x rest found = subst (λ q. IsPermutation (q ++ all_of ps) (x ∷ rest ++ all_of ps)) (sym (same_Some _ _ found)) (IsPermutation-refl (x ∷ rest ++ all_of ps))
  picked (p ∷ ps) (suc i) x rest found =
      IsPermutation-trans (p ++ all_of ps) (p ++ x ∷ all_of (set ps i rest)) (x ∷ p ++ all_of (set ps i rest))
      (IsPermutation-append_right p (all_of ps) (x ∷ all_of (set ps i rest)) (picked ps i x rest found)) (IsPermutation-middle p x (all_of (set ps i rest)))

  once_in : (parts : List (List X)) (run : List X) → IsShuffled parts run → IsPermutation (all_of parts) run
  once_in parts [] none = subst (λ xs. IsPermutation xs []) (sym (none_of parts none)) (IsPermutation-refl [])
  once_in parts (x ∷ run) (i, rest, found, later) =
      IsPermutation-trans (all_of parts) (x ∷ all_of (set parts i rest)) (x ∷ run) (picked parts i x rest found)
      (IsPermutation-cons x (all_of (set parts i rest)) run (once_in (set parts i rest) run later))

  each_more : (parts : List (List X)) (x : X) (run : List X) → AllByRecursion (λ part. IsSublist part run) parts → AllByRecursion (λ part. IsSublist part (x ∷ run)) parts
  each_more [] x run each = tt
  each_more (p ∷ ps) x run each = (sublist_more x p run each.0, each_more ps x run each.1)

  each_with : (parts : List (List X)) (i : ℕ) (x : X) (rest run : List X) → slice_get parts i ≡ Some (x ∷ rest) → AllByRecursion (λ part. IsSublist part run) (set parts i rest) → AllByRecursion (λ part. IsSublist part (x ∷ run)) parts
  each_with [] i x rest run found each = absurd cc
  each_with (p ∷ ps) zero x rest run found each = (subst (λ q. IsSublist q (x ∷ run)) (sym (same_Some _ _ found)) (inl (refl, each.0)), each_more ps x run each.1)
  each_with (p ∷ ps) (suc i) x rest run found each = (sublist_more x p run each.0, each_with ps i x rest run found each.1)

  all_none : (parts : List (List X)) → AllByRecursion (λ part. part ≡ []) parts → AllByRecursion (λ part. IsSublist part []) parts
  all_none [] none = tt
  all_none (p ∷ ps) none = (subst (λ q. IsSublist q []) (sym none.0) tt, all_none ps none.1)

  order_in : (parts : List (List X)) (run : List X) → IsShuffled parts run → AllByRecursion (λ part. IsSublist part run) parts
  order_in parts [] none = all_none parts none
  order_in parts (x ∷ run) (i, rest, found, later) = each_with parts i x rest run found (order_in (set parts i rest) run later)

  pub made_of : (parts : List (List X)) (run : List X) → IsShuffled parts run → IsMadeOf parts run
  made_of parts run shuffled = record { once = once_in parts run shuffled; order = order_in parts run shuffled }

-- ---- two seats that are joined

-- shuffled from two lists
abbrev Two : {X : Type 0} → List X → List X → List X → Type 0
Two xs ys [] = (xs ≡ []) × (ys ≡ [])
Two xs ys (z ∷ zs) = ((rest : List _) × (xs ≡ z ∷ rest) × Two rest ys zs) ⊎ ((rest : List _) × (ys ≡ z ∷ rest) × Two xs rest zs)

module _ {X : Type 0} where
  of_left : (xs : List X) → Two xs [] xs
  of_left [] = (refl, refl)
  of_left (x ∷ xs) = inl (xs, refl, of_left xs)

  of_right : (ys : List X) → Two [] ys ys
  of_right [] = (refl, refl)
  of_right (y ∷ ys) = inr (ys, refl, of_right ys)

  two_shuffled : (xs ys zs : List X) → Two xs ys zs → IsShuffled (xs ∷ ys ∷ []) zs
  two_shuffled xs ys [] two = (two.0, (two.1, tt))
  two_shuffled xs ys (z ∷ zs) (inl two) = (0, two.0, ap Some two.1, two_shuffled two.0 ys zs two.2)
  two_shuffled xs ys (z ∷ zs) (inr two) = (1, two.0, ap Some two.1, two_shuffled xs two.0 zs two.2)

module _ {S C A : Type 0} where
  melded : (xs ys : List (Entry S C A × Bool)) → Agree xs ys → Two (calls xs) (calls ys) (calls (meld xs ys))
  melded [] ys agree = of_right (calls ys)
  melded (x ∷ xs) [] agree = of_left (calls (x ∷ xs))
  melded (x ∷ xs) (y ∷ ys) agree = by x.1 y.1 agree.1 (melded xs ys agree.2)
    where
      by : (b c : Bool) → cond b 1 0 + cond c 1 0 < 2 → Two (calls xs) (calls ys) (calls (meld xs ys)) → Two (cond b (x.0 ∷ calls xs) (calls xs)) (cond c (y.0 ∷ calls ys) (calls ys)) (cond (b || c) (x.0 ∷ calls (meld xs ys)) (calls (meld xs ys)))
      by false false few two = two
      by true false few two = inl (calls xs, refl, two)
      by false true few two = inr (calls ys, ap (λ e. e ∷ calls ys) (sym agree.0), two)
      by true true few two = absurd (omega (arith, few))

  pub joined_shuffled : (v w u : SeatModel S C A) → Agree v.seen w.seen → u ≡ joined_seat v w → IsShuffled (calls v.seen ∷ calls w.seen ∷ []) (calls u.seen)
  joined_shuffled v w u agree is = subst (λ (x : SeatModel S C A). IsShuffled (calls v.seen ∷ calls w.seen ∷ []) (calls x.seen)) (sym is) (two_shuffled (calls v.seen) (calls w.seen) (calls (meld v.seen w.seen)) (melded v.seen w.seen agree))

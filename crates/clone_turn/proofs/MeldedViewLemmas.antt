-- What two seats have seen, laid over each other.
use Rattle.std.proofs.Common.{ℕ, zero, suc, ◌≡◌, ◌+◌, ◌<◌, inl, List, [], ◌∷◌, ◌++◌, refl, sym, ap, ◌∙◌, subst, true, false, Bool, cond, ◌||◌, arith}
use Rattle.std.specs.List.Sorted.{IsPermutation}
use Rattle.std.proofs.lemmas.List.{append-nil}
use Rattle.std.proofs.lemmas.List.Sorted.{IsPermutation-refl, IsPermutation-cons, IsPermutation-append_comm, IsPermutation-trans}
use mathlib.Core.List.{IsPrefix}
use Rattle.clone_turn.specs.declared.view.Entry.{Entry}
use Rattle.clone_turn.specs.Runs.{Agree, meld, entries, calls}
use Rattle.clone_turn.specs.Parts.{IsSublist}
use Rattle.clone_turn.specs.Rule.{made_at}
use Rattle.clone_turn.proofs.SublistLemmas.{sublist_more, sublist_same}

head_or : {X : Type 0} → X → List X → X
head_or d [] = d
head_or d (x ∷ xs) = x

tail_of : {X : Type 0} → List X → List X
tail_of [] = []
tail_of (x ∷ xs) = xs

heads : {X : Type 0} (x y : X) (xs ys : List X) → x ∷ xs ≡ y ∷ ys → x ≡ y
unfolding head_or
heads x y xs ys e = ap (λ l. head_or x l) e

tails : {X : Type 0} (x y : X) (xs ys : List X) → x ∷ xs ≡ y ∷ ys → xs ≡ ys
unfolding tail_of
tails x y xs ys e = ap (λ l. tail_of l) e

joined_bits : (a b : Bool) → cond a 1 0 + cond b 1 0 < 2 → ◌≡◌ {A = ℕ} (cond (a || b) 1 0) (cond a 1 0 + cond b 1 0)
joined_bits true true low = absurd (omega arith)
joined_bits true false low = refl
joined_bits false true low = refl
joined_bits false false low = refl

module _ {S C A : Type 0} where
  pub agrees : (xs ys : List (Entry S C A × Bool)) (r q : List (Entry S C A)) → entries xs ++ r ≡ entries ys ++ q → ((p : ℕ) → made_at xs p + made_at ys p < 2) → Agree xs ys
  agrees [] ys r q e low = tt
  agrees (x ∷ xs) [] r q e low = tt
  agrees (x ∷ xs) (y ∷ ys) r q e low = (heads _ _ _ _ e, low 0, agrees xs ys r q (tails _ _ _ _ e) (λ p. low (suc p)))

  pub meld_front : (xs ys : List (Entry S C A × Bool)) (r q : List (Entry S C A)) → entries xs ++ r ≡ entries ys ++ q → IsPrefix (entries (meld xs ys)) (entries xs ++ r)
  meld_front [] ys r q e = (q, sym e)
  meld_front (x ∷ xs) [] r q e = (r, refl)
  meld_front (x ∷ xs) (y ∷ ys) r q e = let more = meld_front xs ys r q (tails _ _ _ _ e) in (more.0, ap (λ es. x.0 ∷ es) more.1)

  -- each had seen a beginning of the whole
  pub meld_left : (xs ys : List (Entry S C A × Bool)) → IsPrefix (entries xs) (entries (meld xs ys))
  meld_left [] ys = (entries ys, refl)
  meld_left (x ∷ xs) [] = ([], append-nil _)
  meld_left (x ∷ xs) (y ∷ ys) = let more = meld_left xs ys in (more.0, ap (λ es. x.0 ∷ es) more.1)

  pub meld_right : (xs ys : List (Entry S C A × Bool)) → Agree xs ys → IsPrefix (entries ys) (entries (meld xs ys))
  meld_right [] ys agree = ([], append-nil _)
  meld_right (x ∷ xs) [] agree = (entries (x ∷ xs), refl)
  meld_right (x ∷ xs) (y ∷ ys) agree = let more = meld_right xs ys agree.2 in (more.0, ap (λ es. y.0 ∷ es) more.1 ∙ ap (λ z. z ∷ entries (meld xs ys)) (sym agree.0))

  -- the calls of both_views, each once
  pub meld_made : (xs ys : List (Entry S C A × Bool)) → Agree xs ys → (p : ℕ) → made_at (meld xs ys) p ≡ made_at xs p + made_at ys p
  meld_made [] ys agree p = omega arith
  meld_made (x ∷ xs) [] agree p = omega arith
  meld_made (x ∷ xs) (y ∷ ys) agree zero = joined_bits x.1 y.1 agree.1
  meld_made (x ∷ xs) (y ∷ ys) agree (suc p) = meld_made xs ys agree.2 p

  -- an own entry of either list is one of the whole
  own_front : (a b : Bool) (e f : Entry S C A) (ps qs rs : List (Entry S C A)) → cond a 1 0 + cond b 1 0 < 2 → e ≡ f → IsPermutation (ps ++ qs) rs
      → IsPermutation (cond a (e ∷ ps) ps ++ cond b (f ∷ qs) qs) (cond (a || b) (e ∷ rs) rs)
  own_front true true e f ps qs rs low same more = absurd (omega arith)
  own_front true false e f ps qs rs low same more = IsPermutation-cons e (ps ++ qs) rs more
  own_front false true e f ps qs rs low same more =
      let turned : IsPermutation (ps ++ f ∷ qs) (f ∷ qs ++ ps) = IsPermutation-append_comm ps (f ∷ qs) in
      let back : IsPermutation (f ∷ qs ++ ps) (f ∷ ps ++ qs) = IsPermutation-cons f (qs ++ ps) (ps ++ qs) (IsPermutation-append_comm qs ps) in
      let front : IsPermutation (f ∷ ps ++ qs) (e ∷ rs) = subst (λ g. IsPermutation (f ∷ ps ++ qs) (g ∷ rs)) (sym same) (IsPermutation-cons f (ps ++ qs) rs more) in
      IsPermutation-trans _ _ _ turned (IsPermutation-trans _ _ _ back front)
  own_front false false e f ps qs rs low same more = more

  -- the whole has the calls of both, each once
  pub calls-meld : (xs ys : List (Entry S C A × Bool)) → Agree xs ys → IsPermutation (calls xs ++ calls ys) (calls (meld xs ys))
  calls-meld [] ys agree = IsPermutation-refl (calls ys)
  calls-meld (x ∷ xs) [] agree = subst (λ es. IsPermutation es (calls (x ∷ xs))) (sym (append-nil (calls (x ∷ xs)))) (IsPermutation-refl (calls (x ∷ xs)))
  calls-meld (x ∷ xs) (y ∷ ys) agree = own_front x.1 y.1 x.0 y.0 (calls xs) (calls ys) (calls (meld xs ys)) agree.1 agree.0 (calls-meld xs ys agree.2)

module _ {S C A : Type 0} where
  own_within : (a b : Bool) (e : Entry S C A) (ps rs : List (Entry S C A)) → IsSublist ps rs → IsSublist (cond a (e ∷ ps) ps) (cond (a || b) (e ∷ rs) rs)
  own_within true b e ps rs within = inl (refl, within)
  own_within false true e ps rs within = sublist_more e ps rs within
  own_within false false e ps rs within = within

  other_within : (a b : Bool) (e f : Entry S C A) (qs rs : List (Entry S C A)) → e ≡ f → IsSublist qs rs → IsSublist (cond b (f ∷ qs) qs) (cond (a || b) (e ∷ rs) rs)
  other_within true true e f qs rs same within = inl (sym same, within)
  other_within true false e f qs rs same within = sublist_more e qs rs within
  other_within false true e f qs rs same within = inl (sym same, within)
  other_within false false e f qs rs same within = within

  -- the calls of each stand in the whole's in their order
  pub meld_within : (xs ys : List (Entry S C A × Bool)) → IsSublist (calls xs) (calls (meld xs ys))
  meld_within [] ys = tt
  meld_within (x ∷ xs) [] = sublist_same (calls (x ∷ xs))
  meld_within (x ∷ xs) (y ∷ ys) = own_within x.1 y.1 x.0 (calls xs) (calls (meld xs ys)) (meld_within xs ys)

  pub meld_within_other : (xs ys : List (Entry S C A × Bool)) → Agree xs ys → IsSublist (calls ys) (calls (meld xs ys))
  meld_within_other [] ys agree = sublist_same (calls ys)
  meld_within_other (x ∷ xs) [] agree = tt
  meld_within_other (x ∷ xs) (y ∷ ys) agree = other_within x.1 y.1 x.0 y.0 (calls ys) (calls (meld xs ys)) agree.0 (meld_within_other xs ys agree.2)

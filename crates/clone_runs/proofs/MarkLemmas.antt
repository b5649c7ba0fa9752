-- None that opens comes after one that leaves, in lists and in their parts.
use Rattle.std.proofs.Common.{ℕ, ◌≡◌, ◌≤◌, ◌<◌, inl, inr, Bool, true, false, cond, ◌||◌, List, [], ◌∷◌, ◌++◌, refl, sym, ap, ◌∙◌, subst, map, arith}
use Rattle.std.specs.List.{AllByRecursion}
use Rattle.clone_turn.specs.Parts.{IsMadeOf, IsSublist, all_of}
use Rattle.clone_turn.specs.Rule.{total}
use Rattle.clone_turn.proofs.EachLemmas.{each_append, each_map, each_sublist, each_together}
use Rattle.clone_turn.proofs.TotalLemmas.{total_append, total_moved}
use Rattle.clone_runs.specs.Marks.{Ascends, NoneAfter, NoneIn, either}

Bare : Bool → Type 0
Bare true = Unit {0}
Bare false = ⊥

pub not_both : {b : Bool} → b ≡ true → b ≡ false → ⊥
unfolding Bare
not_both t f = subst Bare (sym t ∙ f) tt

or_left : (a b : Bool) → (a || b) ≡ false → a ≡ false
or_left true b e = e
or_left false b e = refl

or_right : (a b : Bool) → (a || b) ≡ false → b ≡ false
or_right true b e = absurd (not_both refl e)
or_right false b e = e

or_none : (a b : Bool) → a ≡ false → b ≡ false → (a || b) ≡ false
or_none true b ea eb = ea
or_none false b ea eb = eb

zero_false : (b : Bool) → ◌≡◌ {A = ℕ} (cond b 1 0) 0 → b ≡ false
zero_false true e = absurd (omega arith)
zero_false false e = refl

module _ {X : Type 0} where
  abbrev Fails : (X → Bool) → X → Type 0
  Fails test x = test x ≡ false

  pub none_sublist : (test : X → Bool) (xs ys : List X) → IsSublist xs ys → NoneIn test ys → NoneIn test xs
  none_sublist test xs ys within none = each_sublist (Fails test) xs ys within none

  pub none_append : (test : X → Bool) (xs ys : List X) → NoneIn test xs → NoneIn test ys → NoneIn test (xs ++ ys)
  none_append test xs ys a b = each_append (Fails test) xs ys a b

  pub none_left : (opens leaves : X → Bool) (xs : List X) → NoneIn (either opens leaves) xs → NoneIn opens xs
  none_left opens leaves xs none = each_map (Fails (either opens leaves)) (Fails opens) (λ x. or_left (opens x) (leaves x)) xs none

  pub none_right : (opens leaves : X → Bool) (xs : List X) → NoneIn (either opens leaves) xs → NoneIn leaves xs
  none_right opens leaves xs none = each_map (Fails (either opens leaves)) (Fails leaves) (λ x. or_right (opens x) (leaves x)) xs none

  pub none_either : (opens leaves : X → Bool) (xs : List X) → NoneIn opens xs → NoneIn leaves xs → NoneIn (either opens leaves) xs
  none_either opens leaves [] a b = tt
  none_either opens leaves (x ∷ xs) a b = (or_none (opens x) (leaves x) a.0 b.0, none_either opens leaves xs a.1 b.1)

  module _ (opens leaves : X → Bool) where
    pub after_sublist : (xs ys : List X) → IsSublist xs ys → NoneAfter opens leaves ys → NoneAfter opens leaves xs
    after_sublist [] ys within none = tt
    after_sublist (x ∷ xs) [] within none = absurd within
    after_sublist (x ∷ xs) (y ∷ ys) (inl same) none =
        (λ left. none_sublist opens xs ys same.1 (none.0 (sym (ap leaves same.0) ∙ left)), after_sublist xs ys same.1 none.1)
    after_sublist (x ∷ xs) (y ∷ ys) (inr within) none = after_sublist (x ∷ xs) ys within none.1

    pub after_none : (xs : List X) → NoneIn opens xs → NoneAfter opens leaves xs
    after_none [] none = tt
    after_none (x ∷ xs) none = (λ left. none.1, after_none xs none.1)

    -- nothing that opens is added
    pub after_append : (xs ys : List X) → NoneAfter opens leaves xs → NoneIn opens ys → NoneAfter opens leaves (xs ++ ys)
    after_append [] ys a none = after_none ys none
    after_append (x ∷ xs) ys a none = (λ left. none_append opens xs ys (a.0 left) none, after_append xs ys a.1 none)

    -- nothing that leaves comes before
    pub after_quiet : (xs ys : List X) → NoneIn leaves xs → NoneAfter opens leaves ys → NoneAfter opens leaves (xs ++ ys)
    after_quiet [] ys none b = b
    after_quiet (x ∷ xs) ys none b = (λ left. absurd (not_both left none.0), after_quiet xs ys none.1 b)

    -- how many open or leave
    abbrev one_of : X → ℕ
    one_of x = cond (either opens leaves x) 1 0

    count_none : (xs : List X) → NoneIn (either opens leaves) xs → total one_of xs ≡ 0
    count_none [] none = refl
    count_none (x ∷ xs) none = let a : one_of x ≡ 0 = ap (λ b. cond b 1 0) none.0 in let b = count_none xs none.1 in omega arith

    none_count : (xs : List X) → total one_of xs ≡ 0 → NoneIn (either opens leaves) xs
    none_count [] e = tt
    none_count (x ∷ xs) e = (zero_false (either opens leaves x) (omega arith), none_count xs (omega arith))

    count_sublist : (xs ys : List X) → IsSublist xs ys → total one_of xs ≤ total one_of ys
    count_sublist [] ys within = omega arith
    count_sublist (x ∷ xs) [] within = absurd within
    count_sublist (x ∷ xs) (y ∷ ys) (inl same) = let a : one_of x ≡ one_of y = ap one_of same.0 in let b = count_sublist xs ys same.1 in omega arith
    count_sublist (x ∷ xs) (y ∷ ys) (inr within) = let b = count_sublist (x ∷ xs) ys within in omega arith

    -- where the part has all that open or leave, the whole is as the part is
    none_spread : (xs zs : List X) → IsSublist xs zs → total one_of zs ≤ total one_of xs → NoneIn opens xs → NoneIn opens zs
    none_spread [] zs within low none = none_left opens leaves zs (none_count zs (omega arith))
    none_spread (x ∷ xs) [] within low none = tt
    none_spread (x ∷ xs) (z ∷ zs) (inl same) low none =
        let a : one_of x ≡ one_of z = ap one_of same.0 in (sym (ap opens same.0) ∙ none.0, none_spread xs zs same.1 (omega arith) none.1)
    none_spread (x ∷ xs) (z ∷ zs) (inr within) low none =
        let more = count_sublist (x ∷ xs) zs within in
        let unmarked : either opens leaves z ≡ false = zero_false (either opens leaves z) (omega arith) in
        (or_left (opens z) (leaves z) unmarked, none_spread (x ∷ xs) zs within (omega arith) none)

    after_spread : (xs zs : List X) → IsSublist xs zs → total one_of zs ≤ total one_of xs → NoneAfter opens leaves xs → NoneAfter opens leaves zs
    after_spread [] zs within low none = after_none zs (none_left opens leaves zs (none_count zs (omega arith)))
    after_spread (x ∷ xs) [] within low none = tt
    after_spread (x ∷ xs) (z ∷ zs) (inl same) low none =
        let a : one_of x ≡ one_of z = ap one_of same.0 in
        (λ left. none_spread xs zs same.1 (omega arith) (none.0 (ap leaves same.0 ∙ left)), after_spread xs zs same.1 (omega arith) none.1)
    after_spread (x ∷ xs) (z ∷ zs) (inr within) low none =
        let more = count_sublist (x ∷ xs) zs within in
        let unmarked : either opens leaves z ≡ false = zero_false (either opens leaves z) (omega arith) in
        (λ left. absurd (not_both left (or_right (opens z) (leaves z) unmarked)), after_spread (x ∷ xs) zs within (omega arith) none)

    -- a run that is made of these calls and of others, which neither open nor leave
    pub after_run : (made run own : List X) (asides : List (List X)) → IsMadeOf (own ∷ made ∷ asides) run → NoneIn (either opens leaves) own
        → AllByRecursion (NoneIn (either opens leaves)) asides → NoneAfter opens leaves made → NoneAfter opens leaves run
    after_run made run own asides parts none quiet after =
        let all = total_moved one_of (own ++ (made ++ all_of asides)) run parts.once in
        let one = total_append one_of own (made ++ all_of asides) in
        let two = total_append one_of made (all_of asides) in
        let three = count_none own none in
        let four = count_none (all_of asides) (each_together (Fails (either opens leaves)) asides quiet) in
        after_spread made run parts.order.1.0 (omega arith) after

  -- what ascends
  pub ascends_sublist : (f : X → ℕ) (xs ys : List X) → IsSublist xs ys → Ascends f ys → Ascends f xs
  ascends_sublist f [] ys within up = tt
  ascends_sublist f (x ∷ xs) [] within up = absurd within
  ascends_sublist f (x ∷ xs) (y ∷ ys) (inl same) up =
      (subst (λ z. AllByRecursion (λ w. f z < f w) xs) (sym same.0) (each_sublist (λ w. f y < f w) xs ys same.1 up.0), ascends_sublist f xs ys same.1 up.1)
  ascends_sublist f (x ∷ xs) (y ∷ ys) (inr within) up = ascends_sublist f (x ∷ xs) ys within up.1

  above_places : (f : X → ℕ) (n : ℕ) (xs : List X) → AllByRecursion (λ m. n < m) (map f xs) → AllByRecursion (λ x. n < f x) xs
  above_places f n [] above = tt
  above_places f n (x ∷ xs) above = (above.0, above_places f n xs above.1)

  pub by_places : (f : X → ℕ) (xs : List X) → Ascends (λ m. m) (map f xs) → Ascends f xs
  by_places f [] up = tt
  by_places f (x ∷ xs) up = (above_places f (f x) xs up.0, by_places f xs up.1)

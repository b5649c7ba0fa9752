-- The parts of a run in another order.
use Rattle.std.proofs.Common.{◌≡◌, ◌∙◌, List, [], ◌∷◌, ◌++◌, refl, ap, sym, subst, append_assoc}
use Rattle.std.specs.List.{AllByRecursion, Contains}
use Rattle.std.specs.List.Sorted.{IsPermutation}
use Rattle.std.proofs.lemmas.List.{append-nil}
use Rattle.std.proofs.lemmas.List.Elements.{All-contains, All-contains_itself, Contains-append_left}
use Rattle.std.proofs.lemmas.List.Sorted.{IsPermutation-refl, IsPermutation-trans, IsPermutation-append_comm, IsPermutation-append_left, IsPermutation-append_right}
use Rattle.clone_turn.specs.Parts.{IsMadeOf, IsSublist, all_of}
use Rattle.clone_turn.proofs.EachLemmas.{all_of_each, each_append, each_left, each_map, each_of_all, each_right}

module _ {X : Type 0} where
  pub each_itself : (xs : List X) → AllByRecursion (Contains xs) xs
  each_itself xs = each_of_all (Contains xs) xs (All-contains_itself xs)

  pub each_member : (P : X → Type 0) (xs : List X) (x : X) → AllByRecursion P xs → Contains xs x → P x
  each_member P xs x each there = All-contains P xs x (all_of_each P xs each) there

module _ {X : Type 0} where
  all_append : (xs ys : List (List X)) → all_of (xs ++ ys) ≡ all_of xs ++ all_of ys
  all_append [] ys = refl
  all_append (x ∷ xs) ys = ap (λ zs. x ++ zs) (all_append xs ys) ∙ sym (append_assoc x (all_of xs) (all_of ys))

  -- the same parts, in another order
  pub record Regroups (xs ys : List (List X)) : Type 0 where
    pub once : IsPermutation (all_of ys) (all_of xs)
    pub each : AllByRecursion (Contains xs) ys

  pub regroups_none : Regroups [] []
  regroups_none = record { once = IsPermutation-refl []; each = tt }

  -- a fact of each of the one is one of each of the other
  pub regrouped : (P : List X → Type 0) (xs ys : List (List X)) → Regroups xs ys → AllByRecursion P xs → AllByRecursion P ys
  regrouped P xs ys same each = each_map (Contains xs) P (λ y there. each_member P xs y each there) ys same.each

  pub regroups_trans : (xs ys zs : List (List X)) → Regroups xs ys → Regroups ys zs → Regroups xs zs
  regroups_trans xs ys zs a b = record {
    once = IsPermutation-trans (all_of zs) (all_of ys) (all_of xs) b.once a.once;
    each = regrouped (Contains xs) ys zs b a.each;
  }

  -- one part more, at the end or first
  pub regroups_more : (xs ys : List (List X)) (z : List X) → Regroups xs ys → Regroups (xs ++ z ∷ []) (z ∷ ys)
  regroups_more xs ys z same =
      let all : all_of (xs ++ z ∷ []) ≡ all_of xs ++ z = all_append xs (z ∷ []) ∙ ap (λ zs. all_of xs ++ zs) (append-nil z) in
      record {
        once = subst (IsPermutation (z ++ all_of ys)) (sym all)
            (IsPermutation-trans (z ++ all_of ys) (z ++ all_of xs) (all_of xs ++ z) (IsPermutation-append_right z (all_of ys) (all_of xs) same.once) (IsPermutation-append_comm z (all_of xs)));
        each = (
          (each_right (Contains (xs ++ z ∷ [])) xs (z ∷ []) (each_itself (xs ++ z ∷ []))).0,
          each_map (Contains xs) (Contains (xs ++ z ∷ [])) (λ y there. Contains-append_left xs (z ∷ []) y there) ys same.each,
        );
      }

  -- the first part in the middle
  pub regroups_within : (xs ys : List (List X)) (z : List X) → Regroups (z ∷ xs ++ ys) (xs ++ z ∷ ys)
  regroups_within xs ys z =
      let mine : all_of (xs ++ z ∷ ys) ≡ (all_of xs ++ z) ++ all_of ys = all_append xs (z ∷ ys) ∙ sym (append_assoc (all_of xs) z (all_of ys)) in
      let its : (z ++ all_of xs) ++ all_of ys ≡ z ++ all_of (xs ++ ys) = append_assoc z (all_of xs) (all_of ys) ∙ ap (λ zs. z ++ zs) (sym (all_append xs ys)) in
      let P : List X → Type 0 = IsPermutation (all_of (xs ++ z ∷ ys)) in
      let all = each_itself (z ∷ xs ++ ys) in
      record {
        once = subst P its (subst (λ ws. IsPermutation ws ((z ++ all_of xs) ++ all_of ys)) (sym mine) (IsPermutation-append_left (all_of ys) (all_of xs ++ z) (z ++ all_of xs) (IsPermutation-append_comm (all_of xs) z)));
        each = each_append (Contains (z ∷ xs ++ ys)) xs (z ∷ ys) (each_left (Contains (z ∷ xs ++ ys)) xs ys all.1) (all.0, each_right (Contains (z ∷ xs ++ ys)) xs ys all.1);
      }

  -- a list that is made of the one is made of the other
  pub made_too : (xs ys : List (List X)) (run : List X) → Regroups xs ys → IsMadeOf xs run → IsMadeOf ys run
  made_too xs ys run same made = record {
    once = IsPermutation-trans (all_of ys) (all_of xs) run same.once made.once;
    order = regrouped (λ part. IsSublist part run) xs ys same made.order;
  }

-- A fact of each element of a list, and of those of its parts.
use Rattle.std.proofs.Common.{zero, suc, inl, inr, List, [], ◌∷◌, ◌++◌, sym, subst, arith}
use Rattle.std.specs.List.{All, AllByRecursion}
use Rattle.std.specs.List.Sorted.{IsPermutation}
use Rattle.std.proofs.lemmas.List.Sorted.{All-permutation, IsPermutation-sym}
use Rattle.clone_turn.specs.Parts.{IsMadeOf, IsSublist, all_of}

module _ {X : Type 0} (P : X → Type 0) where
  pub each_of_all : (xs : List X) → All P xs → AllByRecursion P xs
  each_of_all [] all = tt
  each_of_all (x ∷ xs) all = (all 0 x (omega arith), each_of_all xs (λ k d low. all (suc k) d (omega arith)))

  pub all_of_each : (xs : List X) → AllByRecursion P xs → All P xs
  all_of_each [] each k d low = absurd (omega arith)
  all_of_each (x ∷ xs) each zero d low = each.0
  all_of_each (x ∷ xs) each (suc k) d low = all_of_each xs each.1 k d (omega arith)

  pub each_moved : (xs ys : List X) → IsPermutation xs ys → AllByRecursion P xs → AllByRecursion P ys
  each_moved xs ys moved each = each_of_all ys (All-permutation P xs ys moved (all_of_each xs each))

  pub each_append : (xs ys : List X) → AllByRecursion P xs → AllByRecursion P ys → AllByRecursion P (xs ++ ys)
  each_append [] ys a b = b
  each_append (x ∷ xs) ys a b = (a.0, each_append xs ys a.1 b)

  pub each_left : (xs ys : List X) → AllByRecursion P (xs ++ ys) → AllByRecursion P xs
  each_left [] ys each = tt
  each_left (x ∷ xs) ys each = (each.0, each_left xs ys each.1)

  pub each_right : (xs ys : List X) → AllByRecursion P (xs ++ ys) → AllByRecursion P ys
  each_right [] ys each = each
  each_right (x ∷ xs) ys each = each_right xs ys each.1

  pub each_sublist : (xs ys : List X) → IsSublist xs ys → AllByRecursion P ys → AllByRecursion P xs
  each_sublist [] ys within each = tt
  each_sublist (x ∷ xs) [] within each = absurd within
  each_sublist (x ∷ xs) (y ∷ ys) (inl same) each = (subst P (sym same.0) each.0, each_sublist xs ys same.1 each.1)
  each_sublist (x ∷ xs) (y ∷ ys) (inr within) each = each_sublist (x ∷ xs) ys within each.1

  -- of each part, and of all parts one after the other
  pub each_together : (parts : List (List X)) → AllByRecursion (AllByRecursion P) parts → AllByRecursion P (all_of parts)
  each_together [] each = tt
  each_together (part ∷ parts) each = each_append part (all_of parts) each.0 (each_together parts each.1)

  pub each_apart : (parts : List (List X)) → AllByRecursion P (all_of parts) → AllByRecursion (AllByRecursion P) parts
  each_apart [] each = tt
  each_apart (part ∷ parts) each = (each_left part (all_of parts) each, each_apart parts (each_right part (all_of parts) each))

  -- of a list that is made of parts
  pub each_whole : (parts : List (List X)) (xs : List X) → IsMadeOf parts xs → AllByRecursion (AllByRecursion P) parts → AllByRecursion P xs
  each_whole parts xs made each = each_moved (all_of parts) xs made.once (each_together parts each)

  pub each_part : (parts : List (List X)) (xs : List X) → IsMadeOf parts xs → AllByRecursion P xs → AllByRecursion (AllByRecursion P) parts
  each_part parts xs made each = each_apart parts (each_moved xs (all_of parts) (IsPermutation-sym (all_of parts) xs made.once) each)

module _ {X : Type 0} (P Q : X → Type 0) where
  pub each_map : ((x : X) → P x → Q x) → (xs : List X) → AllByRecursion P xs → AllByRecursion Q xs
  each_map f [] each = tt
  each_map f (x ∷ xs) each = (f x each.0, each_map f xs each.1)

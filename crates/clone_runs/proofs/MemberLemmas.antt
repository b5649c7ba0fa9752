-- What holds of elements of lists, of their parts, and of what comes of them.
use Rattle.std.proofs.Common.{inl, inr, List, [], ◌∷◌, ◌++◌, map, refl, ap, flat_map}
use Rattle.std.specs.List.{AllByRecursion, Contains}
use Rattle.std.proofs.lemmas.List.Elements.{All-contains, All-contains_itself}
use Rattle.clone_turn.specs.Parts.{IsMadeOf, IsSublist}
use Rattle.clone_turn.proofs.EachLemmas.{all_of_each, each_append, each_left, each_map, each_of_all, each_part, each_right, each_whole}

module _ {X : Type 0} where
  pub each_member : (P : X → Type 0) (xs : List X) (x : X) → AllByRecursion P xs → Contains xs x → P x
  each_member P xs x each there = All-contains P xs x (all_of_each P xs each) there

  pub each_itself : (xs : List X) → AllByRecursion (Contains xs) xs
  each_itself xs = each_of_all (Contains xs) xs (All-contains_itself xs)

module _ {X : Type 0} where
  pub sublist_left : (xs ys : List X) → IsSublist xs (xs ++ ys)
  sublist_left [] ys = tt
  sublist_left (x ∷ xs) ys = inl (refl, sublist_left xs ys)

  -- a list that is made of parts has the elements of each of them, and no others
  pub to_job : (parts : List (List X)) (run part : List X) (e : X) → IsMadeOf parts run → Contains parts part → Contains part e → Contains run e
  to_job parts run part e made there its =
      each_member (Contains run) part e (each_member (AllByRecursion (Contains run)) parts part (each_part (Contains run) parts run made (each_itself run)) there) its

  abbrev InPart : List (List X) → X → Type 0
  InPart parts e = (part : List X) × Contains parts part × Contains part e

  pub from_jobs : (parts : List (List X)) (run : List X) (e : X) → IsMadeOf parts run → Contains run e → InPart parts e
  from_jobs parts run e made there =
      each_member (InPart parts) run e (each_whole (InPart parts) parts run made (each_map (Contains parts) (AllByRecursion (InPart parts)) (λ part is. each_map (Contains part) (InPart parts) (λ x its. (part, is, its)) part (each_itself part)) parts (each_itself parts))) there

module _ {X Y : Type 0} where
  pub each_flat : (f : X → List Y) (P : Y → Type 0) (xs : List X) → AllByRecursion (λ x. AllByRecursion P (f x)) xs → AllByRecursion P (flat_map f xs)
  each_flat f P [] each = tt
  each_flat f P (x ∷ xs) each = each_append P (f x) (flat_map f xs) each.0 (each_flat f P xs each.1)

  pub each_unflat : (f : X → List Y) (P : Y → Type 0) (xs : List X) → AllByRecursion P (flat_map f xs) → AllByRecursion (λ x. AllByRecursion P (f x)) xs
  each_unflat f P [] each = tt
  each_unflat f P (x ∷ xs) each = (each_left P (f x) (flat_map f xs) each, each_unflat f P xs (each_right P (f x) (flat_map f xs) each))

  pub each_mapped : (f : X → Y) (P : Y → Type 0) (xs : List X) → AllByRecursion (λ x. P (f x)) xs → AllByRecursion P (map f xs)
  each_mapped f P [] each = tt
  each_mapped f P (x ∷ xs) each = (each.0, each_mapped f P xs each.1)

  pub each_unmapped : (f : X → Y) (P : Y → Type 0) (xs : List X) → AllByRecursion P (map f xs) → AllByRecursion (λ x. P (f x)) xs
  each_unmapped f P [] each = tt
  each_unmapped f P (x ∷ xs) each = (each.0, each_unmapped f P xs each.1)

  pub sublist_map : (f : X → Y) (xs ys : List X) → IsSublist xs ys → IsSublist (map f xs) (map f ys)
  sublist_map f [] ys within = tt
  sublist_map f (x ∷ xs) [] within = absurd within
  sublist_map f (x ∷ xs) (y ∷ ys) (inl same) = inl (ap f same.0, sublist_map f xs ys same.1)
  sublist_map f (x ∷ xs) (y ∷ ys) (inr within) = inr (sublist_map f (x ∷ xs) ys within)

-- Lists that stand in other lists, in their order.
use Rattle.std.proofs.Common.{inl, inr, List, [], ◌∷◌, ◌++◌, refl, sym, ◌∙◌, subst, flat_map}
use Rattle.clone_turn.specs.Parts.{IsSublist}

module _ {X : Type 0} where
  pub sublist_same : (xs : List X) → IsSublist xs xs
  sublist_same [] = tt
  sublist_same (x ∷ xs) = inl (refl, sublist_same xs)

  -- where the whole has an element more at its front
  pub sublist_more : (y : X) (xs ys : List X) → IsSublist xs ys → IsSublist xs (y ∷ ys)
  sublist_more y [] ys within = tt
  sublist_more y (x ∷ xs) ys within = inr within

  -- and where it has several
  pub sublist_after : (ps xs ys : List X) → IsSublist xs ys → IsSublist xs (ps ++ ys)
  sublist_after [] xs ys within = within
  sublist_after (p ∷ ps) xs ys within = sublist_more p xs (ps ++ ys) (sublist_after ps xs ys within)

  pub sublist_trans : (xs ys zs : List X) → IsSublist xs ys → IsSublist ys zs → IsSublist xs zs
  sublist_trans [] ys zs a b = tt
  sublist_trans (x ∷ xs) [] zs a b = absurd a
  sublist_trans (x ∷ xs) (y ∷ ys) [] a b = absurd b
  sublist_trans (x ∷ xs) (y ∷ ys) (z ∷ zs) (inl a) (inl b) = inl (a.0 ∙ b.0, sublist_trans xs ys zs a.1 b.1)
  sublist_trans (x ∷ xs) (y ∷ ys) (z ∷ zs) (inr a) (inl b) = inr (sublist_trans (x ∷ xs) ys zs a b.1)
  sublist_trans (x ∷ xs) (y ∷ ys) (z ∷ zs) (inl a) (inr b) = inr (sublist_trans (x ∷ xs) (y ∷ ys) zs (inl a) b)
  sublist_trans (x ∷ xs) (y ∷ ys) (z ∷ zs) (inr a) (inr b) = inr (sublist_trans (x ∷ xs) (y ∷ ys) zs (inr a) b)

  -- a front, and then a part of the rest
  pub sublist_front : (fs rest xs ys : List X) → IsSublist xs ys → IsSublist (fs ++ xs) ((fs ++ rest) ++ ys)
  sublist_front [] rest xs ys within = sublist_after rest xs ys within
  sublist_front (f ∷ fs) rest xs ys within = inl (refl, sublist_front fs rest xs ys within)

  -- a part of one list, and then a part of another
  pub sublist_both : (ps xs ys : List X) → IsSublist xs ys → IsSublist (ps ++ xs) (ps ++ ys)
  sublist_both [] xs ys within = within
  sublist_both (p ∷ ps) xs ys within = inl (refl, sublist_both ps xs ys within)

module _ {X Y : Type 0} (f : X → List Y) where
  -- what comes of the elements of a part comes of those of the whole, in the same order
  pub sublist_flat : (xs ys : List X) → IsSublist xs ys → IsSublist (flat_map f xs) (flat_map f ys)
  sublist_flat [] ys within = tt
  sublist_flat (x ∷ xs) [] within = absurd within
  sublist_flat (x ∷ xs) (y ∷ ys) (inl same) =
      subst (λ z. IsSublist (f z ++ flat_map f xs) (f y ++ flat_map f ys)) (sym same.0) (sublist_both (f y) (flat_map f xs) (flat_map f ys) (sublist_flat xs ys same.1))
  sublist_flat (x ∷ xs) (y ∷ ys) (inr within) = sublist_after (f y) (flat_map f (x ∷ xs)) (flat_map f ys) (sublist_flat (x ∷ xs) ys within)

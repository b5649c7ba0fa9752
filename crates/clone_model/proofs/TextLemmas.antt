-- Texts that loops write piece by piece.
use Rattle.std.proofs.Common.{◌≡◌, ℕ, ◌+◌, ◌<◌, List, ◌++◌, length, get_or, drop, ap, sym, ◌∙◌, append_assoc}
use Rattle.std.proofs.lemmas.List.{drop_more}
use Rattle.std.specs.List.{flat_map}

-- one item more is written
pub wrote_item : {X : Type 0} (f : X → List ℕ) (old new whole : List ℕ) (xs : List X) (i : ℕ) (d : X) → i < length xs
    → old ++ flat_map f (drop i xs) ≡ whole → new ≡ old ++ f (get_or xs i d) → new ++ flat_map f (drop (i + 1) xs) ≡ whole
wrote_item f old new whole xs i d lt so_far one =
    ap (λ t. t ++ flat_map f (drop (i + 1) xs)) one ∙ append_assoc old _ _ ∙ ap (λ r. old ++ flat_map f r) (sym (drop_more xs i d lt)) ∙ so_far

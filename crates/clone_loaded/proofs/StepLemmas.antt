-- What holds of the entries of a legal run.
use Rattle.std.proofs.Common.{List, [], ◌∷◌, flat_map}
use Rattle.std.specs.List.{AllByRecursion}
use Rattle.clone_turn.specs.declared.view.Entry.{Entry}
use Rattle.clone_turn.specs.Runs.{IsLegalRun}
use Rattle.clone_turn.proofs.EachLemmas.{each_append, each_left, each_right}

module _ {S C A : Type 0} (steps : S → C → A → S → Type 0) where
  -- each is a step, from some state
  pub each_step : (first : S) (run : List (Entry S C A)) → IsLegalRun steps first run → AllByRecursion (λ (e : Entry S C A). (s : S) × steps s e.call e.answer e.after) run
  each_step first [] legal = tt
  each_step first (e ∷ run) legal = ((first, legal.0), each_step e.after run legal.1)

module _ {X Y : Type 0} (f : X → List Y) (P : Y → Type 0) where
  pub each_flat : (xs : List X) → AllByRecursion (λ x. AllByRecursion P (f x)) xs → AllByRecursion P (flat_map f xs)
  each_flat [] each = tt
  each_flat (x ∷ xs) each = each_append P (f x) (flat_map f xs) each.0 (each_flat xs each.1)

module _ {X Y : Type 0} (f : X → List Y) (P : Y → Type 0) where
  pub each_unflat : (xs : List X) → AllByRecursion P (flat_map f xs) → AllByRecursion (λ x. AllByRecursion P (f x)) xs
  each_unflat [] each = tt
  each_unflat (x ∷ xs) each = (each_left P (f x) (flat_map f xs) each, each_unflat xs (each_right P (f x) (flat_map f xs) each))

-- Ends that were lent one after the other, and the places at which they were.
use Rattle.std.proofs.Common.{◌≡◌, ◌==◌, ℕ, List, [], ◌∷◌, ◌++◌, map, Some, None, if◌then◌else◌, eq-eqb, refl, sym, ap, ap₂, ◌∙◌, subst}
use Rattle.std.proofs.lemmas.List.{map-append}
use Rattle.std.proofs.lemmas.Grind.{flat_map-append}
use Rattle.clone_outside.specs.declared.link.Side.{Side}
use Rattle.clone_outside.specs.declared.link.Side.TheVariants.{Donor}
use Rattle.clone_runs.specs.Desk.{handed, handed_by}
use Rattle.clone_desk.specs.Steps.{DeskEntry, act_in, act_of}
use Rattle.clone_desk.specs.declared.machine.DeskAnswer.TheVariants as answer
use Rattle.clone_desk.specs.declared.machine.DeskCall.TheVariants as call
use Rattle.clone_copying.specs.Calling.{IsOne}
use Rattle.clone_reading.specs.Lending.{Lent, Uses, lends, none, nothing}
use Rattle.clone_reading.specs.Passing.{Each}

module _ {N L : Type 0} where
  pub uses_append : (side : Side) (task : ℕ) (more : List (Lent L)) (next : List (DeskEntry N L)) → Uses side task more next → (lent : List (Lent L)) (asked : List (DeskEntry N L)) → Uses side task lent asked → Uses side task (lent ++ more) (asked ++ next)
  uses_append side task more next later lent asked nothing = later
  uses_append side task more next later lent asked (none ls e es called given uses) = none (ls ++ more) e (es ++ next) called given (uses_append side task more next later ls es uses)
  uses_append side task more next later lent asked (lends one ls e f es called given back kept uses) =
      lends one (ls ++ more) e f (es ++ next) called given back kept (uses_append side task more next later ls es uses)

  pub handed-append : (task : ℕ) (asked next : List (DeskEntry N L)) → handed task (map act_of (asked ++ next)) ≡ handed task (map act_of asked) ++ handed task (map act_of next)
  handed-append task asked next = ap (handed task) (map-append act_of asked next) ∙ flat_map-append (handed_by task) (map act_of asked) (map act_of next)

  -- no end waits
  pub uses_none : (task : ℕ) (asked : List (DeskEntry N L)) → IsOne (call.DonorEnd task) (answer.HandedOut None) asked → Uses Donor task [] asked
  uses_none task asked (e, is, called, given) = subst (λ es. Uses Donor task [] es) (sym is) (none [] e [] called given nothing)

  pub handed_none : (task : ℕ) (asked : List (DeskEntry N L)) → IsOne (call.DonorEnd task) (answer.HandedOut None) asked → handed task (map act_of asked) ≡ []
  handed_none task asked (e, is, called, given) = ap (λ es. handed task (map act_of es)) is ∙ ap₂ (λ c a. handed_by task (act_in c a) ++ []) called given

  -- an end is lent and comes back
  pub uses_one : (task : ℕ) (one : Lent L) (hand give : List (DeskEntry N L)) → IsOne (call.DonorEnd task) (answer.HandedOut (Some (one.place, one.taken))) hand → IsOne (call.GiveBack one.place Donor one.back) answer.Kept give
      → Uses Donor task (one ∷ []) (hand ++ give)
  uses_one task one hand give (e, is, called, given) (f, are, back, kept) =
      subst (λ es. Uses Donor task (one ∷ []) es) (sym (ap₂ (λ xs ys. xs ++ ys) is are)) (lends one [] e f [] called given back kept nothing)

  pub handed_one : (task : ℕ) (one : Lent L) (hand give : List (DeskEntry N L)) → IsOne (call.DonorEnd task) (answer.HandedOut (Some (one.place, one.taken))) hand → IsOne (call.GiveBack one.place Donor one.back) answer.Kept give
      → handed task (map act_of (hand ++ give)) ≡ one.place ∷ []
  handed_one task one hand give (e, is, called, given) (f, are, back, kept) =
      ap (λ es. handed task (map act_of es)) (ap₂ (λ xs ys. xs ++ ys) is are)
      ∙ (ap₂ (λ c a. handed_by task (act_in c a) ++ (handed_by task (act_of f) ++ [])) called given
      ∙ (ap₂ (λ c a. (if task == task then one.place ∷ [] else []) ++ (handed_by task (act_in c a) ++ [])) back kept
      ∙ ap (λ b. (if b then one.place ∷ [] else []) ++ []) (eq-eqb task task refl)))

module _ {A B : Type 0} (P : A → B → Type 0) where
  pub each_both : (xs zs : List A) (ys ws : List B) → Each P xs ys → Each P zs ws → Each P (xs ++ zs) (ys ++ ws)
  each_both [] zs [] ws a b = b
  each_both [] zs (y ∷ ys) ws a b = absurd a
  each_both (x ∷ xs) zs [] ws a b = absurd a
  each_both (x ∷ xs) zs (y ∷ ys) ws a b = (a.0, each_both xs zs ys ws a.1 b)

use Rattle.std.proofs.Common.{ℕ, zero, suc, ◌≡◌, ◌≤◌, List, [], ◌∷◌, refl, sym, ap, ◌∙◌, subst, Some, None, inl, arith}
use mathlib.Core.Option.{some}
use lib.ListN.{get_elem?}
use Rattle.std.proofs.Math.Option.{none-ne-some}
use Rattle.atomic_table.specs.Table.{opening}
use Rattle.clone_turn.specs.declared.view.View.{View}
use Rattle.clone_turn.proofs.Sums.{given_some}
use Rattle.clone_turn.specs.Rule.{Kept, Fits, Held, first_view}

module _ {S C A : Type 0} where
  only_one : (x v : View S C A) (i : ℕ) → get_elem? (x ∷ []) i ≡ some v → (v ≡ x) × (i ≡ 0)
  only_one x v zero e = (cc, refl)
  only_one x v (suc i) e = absurd (none-ne-some v e)

  starts : (first : S) → Fits first [] 0 (first_view {S = S} {C = C} {A = A} first)
  starts first = record {
    begins = λ f e. sym (given_some first f e);
    seen = ([], refl);
    joined = ([], refl);
    waits = λ t e. grind arith;
    lifted = λ e. grind arith;
    spent = λ e p. refl;
  }

  pub opened : (steps : S → C → A → S → Type 0) (value first : S) (slots : List (Held S C A)) → slots ≡ Some (first, None) ∷ [] → value ≡ first → Kept steps value (opening (0 ∷ 0 ∷ []) slots (first_view value))
  opened steps value first slots is same = (
    [],
    0,
    record {
      legal = tt;
      words = refl;
      behind = omega arith;
      room = omega arith;
      home = inl ((first, None), ap (λ xs. (opening (0 ∷ 0 ∷ []) xs (first_view {S = S} {C = C} {A = A} value)).homes) is, sym same);
      fits = λ i v at. subst (λ w. Fits value [] 0 w) (sym (only_one (first_view value) v i at).0) (starts value);
      alone = λ i j t v w a b c d. (only_one (first_view value) v i a).1 ∙ sym (only_one (first_view value) w j b).1;
      once = λ p. refl;
      whole = (0, (λ i v at. subst (λ w. w.halvings ≤ 0) (sym (only_one (first_view value) v i at).0) (omega arith)), refl);
    },
  )

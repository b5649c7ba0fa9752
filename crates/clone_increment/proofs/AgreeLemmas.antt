-- Maps that have what is wanted at the keys that are done.
use Rattle.std.proofs.Common.{◌≡◌, List, [], ◌∷◌, Bool, true, false, cond, ◌||◌, Some, None, refl, sym, ap, ◌∙◌}
use Rattle.std.specs.declared.option.Option.{Option}
use Rattle.std.specs.declared.cmp.Ordering.{Ordering}
use Rattle.std.specs.FinMap as finite
use Rattle.std.specs.FinMap.{IsAntisymmetric, get-insert}
use Rattle.std.specs.Cmp.{IsTotalOrder}
use Rattle.std.specs.List.{list_any}
use Rattle.std.specs.Ordering.{eq_by_cmp}
use Rattle.clone_base.proofs.MapEntries.{is_equal}
use Rattle.clone_increment.specs.Readings.{AgreesOn, all_joined, joined}

pub either : {X : Type 0} (b : Bool) (w : Option X) → w ≡ None → cond b w None ≡ w
either true w none = refl
either false w none = sym none

pub agrees-all : {K X : Type 0} {R : K → K → Ordering} (done : K → Bool) (wanted : K → Option X) (entries : finite.FinMap R X) → AgreesOn done wanted entries → ((q : K) → done q ≡ false → wanted q ≡ None)
    → (q : K) → finite.get entries q ≡ wanted q
agrees-all done wanted entries agrees rest q = agrees q ∙ at (done q) refl
  where
    at : (b : Bool) → done q ≡ b → cond b (wanted q) None ≡ wanted q
    at true is = refl
    at false is = sym (rest q is)

regrouped : (a b c : Bool) → (a || (b || c)) ≡ ((b || a) || c)
regrouped true true c = refl
regrouped true false c = refl
regrouped false true c = refl
regrouped false false c = refl

module _ {K X : Type 0} {R : K → K → Ordering} (o : IsTotalOrder R) (exact : IsAntisymmetric R) where
  -- one more key is done
  pub agrees-joined : (done : K → Bool) (wanted : K → Option X) (entries : finite.FinMap R X) (k : K) → AgreesOn done wanted entries
      → (q : K) → finite.get (joined entries k (wanted k)) q ≡ cond (eq_by_cmp R q k || done q) (wanted q) None
  agrees-joined done wanted entries k agrees q = at (wanted k) refl
    where
      skipped : (b : Bool) → (b ≡ true → wanted q ≡ None) → cond (done q) (wanted q) None ≡ cond (b || done q) (wanted q) None
      skipped true h = either (done q) (wanted q) (h refl)
      skipped false h = refl

      put : (b : Bool) (v : X) → (b ≡ true → wanted q ≡ Some v) → cond b (Some v) (finite.get entries q) ≡ cond (b || done q) (wanted q) None
      put true v h = sym (h refl)
      put false v h = agrees q

      at : (v : Option X) → wanted k ≡ v → finite.get (joined entries k v) q ≡ cond (eq_by_cmp R q k || done q) (wanted q) None
      at None is = agrees q ∙ skipped (eq_by_cmp R q k) (λ tie. ap wanted (exact q k (is_equal _ tie)) ∙ is)
      at (Some v) is = get-insert o entries k v q ∙ put (eq_by_cmp R q k) v (λ tie. ap wanted (exact q k (is_equal _ tie)) ∙ is)

  -- all of these keys are done
  pub agrees-all_joined : (wanted : K → Option X) (keys : List K) (done : K → Bool) (entries : finite.FinMap R X) → AgreesOn done wanted entries
      → (q : K) → finite.get (all_joined wanted entries keys) q ≡ cond (list_any (eq_by_cmp R q) keys || done q) (wanted q) None
  agrees-all_joined wanted [] done entries agrees q = agrees q
  agrees-all_joined wanted (k ∷ keys) done entries agrees q =
      agrees-all_joined wanted keys (λ p. eq_by_cmp R p k || done p) (joined entries k (wanted k)) (agrees-joined done wanted entries k agrees) q
      ∙ ap (λ (b : Bool). cond b (wanted q) None) (regrouped (list_any (eq_by_cmp R q) keys) (eq_by_cmp R q k) (done q))

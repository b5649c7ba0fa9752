-- A count that is given back.
use Rattle.std.proofs.Common.{◌≡◌, ℕ, Bool, true, false, cond, refl, sym, ap, ◌∙◌, Some, Option, nat_cmp, BTreeMap}
use Rattle.clone_core.proofs.Common.{get-insert, same_map, nat_cmp_total, eq_by_cmp_equiv, eq_by_cmp, exact_unsigned, is_equal, get_listed}
use Rattle.std.specs.FinMap as finite
use Rattle.std.specs.BTreeMap.{get, Updates}

chosen : (b : Bool) (was p : Option ℕ) (count : ℕ) → (b ≡ true → p ≡ was) → cond b was (cond b (Some count) p) ≡ p
chosen true was p count is = sym (is refl)
chosen false was p count is = refl

-- A map in which a key got a count, and then got back what it had before, is the map before.
pub restored : (m n : BTreeMap ℕ ℕ) (before : finite.FinMap nat_cmp ℕ) (k count : ℕ) (was : Option ℕ) → finite.get before k ≡ was → finite.from_entries {R = nat_cmp} m.entries ≡ finite.insert before k count → Updates nat_cmp m n k was → finite.from_entries {R = nat_cmp} n.entries ≡ before
restored m n before k count was had is wrote = same_map nat_cmp_total exact_unsigned _ _ (λ q.
    let b : Bool = eq_by_cmp nat_cmp q k in
    get_listed nat_cmp_total n q ∙ wrote.0 q ∙ ap (λ (c : Bool). cond c was (get nat_cmp m q)) ((eq_by_cmp_equiv nat_cmp_total).symm k q)
    ∙ ap (cond b was) (sym (get_listed nat_cmp_total m q) ∙ ap (λ (c : finite.FinMap nat_cmp ℕ). finite.get c q) is ∙ get-insert nat_cmp_total before k count q)
    ∙ chosen b was (finite.get before q) count (λ e. ap (finite.get before) (exact_unsigned q k (is_equal _ e)) ∙ had))

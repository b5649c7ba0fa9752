-- An ordered map as a finite map, in any exact order.
use Rattle.std.proofs.Common.{◌≡◌, ◌≢◌, ◌+◌, ◌-◌, ◌<◌, ◌≤◌, ◌⊎◌, ℕ, zero, suc, inl, inr, List, [], ◌∷◌, length, refl, sym, ap, ◌∙◌, cond, Bool, true, false, Some, None, arith}
use Rattle.std.specs.Prelude.{is_some}
use Rattle.std.specs.declared.option.Option.{Option}
use Rattle.std.specs.declared.cmp.Ordering.{Ordering}
use Rattle.std.specs.declared.cmp.Ordering.TheVariants.{Less}
use Rattle.std.specs.FinMap as finite
use Rattle.std.specs.FinMap.{IsAntisymmetric, nat_cmp-IsAntisymmetric, same_map, get-empty, get-insert, get-remove, get-from_entries, entries-insert, len-insert, len-remove, len-empty, len-entries}
use Rattle.std.specs.Cmp.{IsTotalOrder, eq_by_cmp_equiv, nat_cmp_total}
use Rattle.std.specs.FinMap.Entries.{by_order}
use Rattle.std.specs.Ordering.{nat_cmp, eq_by_cmp, is_eq}
use Rattle.std.specs.BTreeMap.{BTreeMap, get, Updates, is_at, IsOrdered}
use Rattle.std.specs.Map.{lookup, keys_of}
use Rattle.std.specs.List.{AllByRecursion}
use Rattle.std.specs.List.Sorted.{IsStrictlySortedBy}
use Rattle.std.proofs.lemmas.Bool.{cases_eq}
use Rattle.std.proofs.lemmas.Map.Keys.{sorted_head, sorted_tail}
use Rattle.clone_base.proofs.MapEntries.{is_equal, get-removed_same, get-removed_other}

found : {K X : Type 0} (R : K → K → Ordering) (q : K) (es : List (K × X)) → finite.find R q es ≡ lookup (is_at (R q)) es
found R q [] = refl
found R q (e ∷ es) = ap (cond (eq_by_cmp R q e.0) (Some e.1)) (found R q es)

not_found : {K X : Type 0} (R : K → K → Ordering) (k : K) (es : List (K × X)) → AllByRecursion (λ y. R k y ≡ Less) (keys_of es) → finite.find R k es ≡ None
not_found R k [] all = refl
not_found R k (e ∷ es) all = ap (λ r. cond (is_eq r) (Some e.1) (finite.find R k es)) all.0 ∙ not_found R k es all.1

nothing : {A : Type 0} (xs : List A) → length xs ≡ 0 → xs ≡ []
nothing [] e = refl
nothing (x ∷ xs) e = cc

put_first : {K X : Type 0} (R : K → K → Ordering) (k : K) (v : X) (es : List (K × X)) → AllByRecursion (λ y. R k y ≡ Less) (keys_of es) → finite.put R k v es ≡ (k, v) ∷ es
put_first R k v [] below = refl
put_first R k v (e ∷ es) below = ap (λ r. by_order r ((k, v) ∷ e ∷ es) ((e.0, v) ∷ es) (e ∷ finite.put R k v es)) below.0

module _ {K X : Type 0} {R : K → K → Ordering} (o : IsTotalOrder R) where
  -- what an ordered map has at a key
  pub get_listed : (m : BTreeMap K X) (q : K) → finite.get (finite.from_entries {R = R} m.entries) q ≡ get R m q
  get_listed m q = get-from_entries o m.entries q ∙ found R q m.entries

  -- how many entries it has
  len_sorted : (es : List (K × X)) → IsStrictlySortedBy R (keys_of es) → finite.len (finite.from_entries {R = R} es) ≡ length es
  len_sorted [] sorted = len-empty R X
  len_sorted (e ∷ es) sorted =
      len-insert o (finite.from_entries es) e.0 e.1
      ∙ ap (λ v. cond (is_some v) (finite.len (finite.from_entries {R = R} es)) (finite.len (finite.from_entries {R = R} es) + 1)) (get-from_entries o es e.0 ∙ not_found R e.0 es (sorted_head R e.0 (keys_of es) sorted))
      ∙ omega (arith, len_sorted es (sorted_tail R e.0 (keys_of es) sorted))

  pub len_listed : (m : BTreeMap K X) → IsOrdered R m → finite.len (finite.from_entries {R = R} m.entries) ≡ length m.entries
  len_listed m sorted = len_sorted m.entries sorted

  entries_sorted : (es : List (K × X)) → IsStrictlySortedBy R (keys_of es) → finite.entries (finite.from_entries {R = R} es) ≡ es
  entries_sorted [] sorted = nothing _ (sym (len-entries (finite.empty {X = X} {R = R})) ∙ len-empty R X)
  entries_sorted (e ∷ es) sorted =
      entries-insert o (finite.from_entries es) e.0 e.1 ∙ ap (finite.put R e.0 e.1) (entries_sorted es (sorted_tail R e.0 (keys_of es) sorted)) ∙ put_first R e.0 e.1 es (sorted_head R e.0 (keys_of es) sorted)

  -- its entries
  pub entries_listed : (m : BTreeMap K X) → IsOrdered R m → finite.entries (finite.from_entries {R = R} m.entries) ≡ m.entries
  entries_listed m sorted = entries_sorted m.entries sorted

  module _ (same : IsAntisymmetric R) where
    -- a key that got its value
    pub inserted : (m n : BTreeMap K X) (k : K) (v : X) → Updates R m n k (Some v) → finite.from_entries {R = R} n.entries ≡ finite.insert (finite.from_entries m.entries) k v
    inserted m n k v is =
        same_map o same _ _ (λ q. get_listed n q ∙ is.0 q ∙ ap (λ b. cond b (Some v) (get R m q)) ((eq_by_cmp_equiv o).symm k q) ∙ ap (cond (eq_by_cmp R q k) (Some v)) (sym (get_listed m q))
        ∙ sym (get-insert o (finite.from_entries m.entries) k v q))

    -- a key that is gone
    pub removed : (m n : BTreeMap K X) (k : K) → Updates R m n k None → finite.from_entries {R = R} n.entries ≡ finite.remove (finite.from_entries m.entries) k
    removed m n k is =
        same_map o same _ _ (λ q. get_listed n q ∙ is.0 q ∙ ap (λ b. cond b None (get R m q)) ((eq_by_cmp_equiv o).symm k q) ∙ ap (cond (eq_by_cmp R q k) None) (sym (get_listed m q))
        ∙ sym (get-remove o (finite.from_entries m.entries) k q))

    -- removal brings nothing in
    pub get-remove_some : (m : finite.FinMap R X) (k q : K) (v : X) → finite.get (finite.remove m k) q ≡ Some v → finite.get m q ≡ Some v
    get-remove_some m k q v e = at (eq_by_cmp R q k) (sym (get-remove o m k q) ∙ e)
      where
        at : (b : Bool) → cond b None (finite.get m q) ≡ Some v → finite.get m q ≡ Some v
        at true e = cc
        at false e = e

    -- a key that has this value already
    pub inserted_same : (m : finite.FinMap R X) (k : K) (v : X) → finite.get m k ≡ Some v → m ≡ finite.insert m k v
    inserted_same m k v has = same_map o same _ _ (λ q. sym (get-insert o m k v q ∙ chosen (eq_by_cmp R q k) (finite.get m q) (λ e. ap (finite.get m) (same q k (is_equal _ e)) ∙ has)))
      where
        chosen : (b : Bool) (p : Option X) → (b ≡ true → p ≡ Some v) → cond b (Some v) p ≡ p
        chosen true p h = sym (h refl)
        chosen false p h = refl

    -- a key that got a value, and then left
    pub removed_again : (m : finite.FinMap R X) (k : K) (v : X) → finite.get m k ≡ None → finite.remove (finite.insert m k v) k ≡ m
    removed_again m k v none = same_map o same _ _ (λ q. get-remove o (finite.insert m k v) k q ∙ ap (cond (eq_by_cmp R q k) None) (get-insert o m k v q) ∙ at (eq_by_cmp R q k) q (λ e. ap (finite.get m) (same q k (is_equal _ e)) ∙ none))
      where
        at : (b : Bool) (q : K) → (b ≡ true → finite.get m q ≡ None) → cond b None (cond b (Some v) (finite.get m q)) ≡ finite.get m q
        at true q h = sym (h refl)
        at false q h = refl

    -- a key that gets another value
    pub len-again : (m : finite.FinMap R X) (k : K) (v w : X) → finite.get m k ≡ Some v → finite.len (finite.insert m k w) ≡ finite.len m
    len-again m k v w has = len-insert o m k w ∙ ap (λ p. cond (is_some p) (finite.len m) (finite.len m + 1)) has

    -- a map has one entry more than without a key that it has
    pub len-without : (m : finite.FinMap R X) (k : K) (v : X) → finite.get m k ≡ Some v → finite.len m ≡ finite.len (finite.remove m k) + 1
    len-without m k v has =
        ap finite.len (inserted_same m k v has ∙ sym (same_map o same _ _ (λ q. get-insert o (finite.remove m k) k v q ∙ ap (cond (eq_by_cmp R q k) (Some v)) (get-remove o m k q) ∙ at (eq_by_cmp R q k) (finite.get m q) ∙ sym (get-insert o m k v q))))
        ∙ len-insert o (finite.remove m k) k v ∙ ap (λ p. cond (is_some p) (finite.len (finite.remove m k)) (finite.len (finite.remove m k) + 1)) (get-removed_same o same m k)
      where
        at : (b : Bool) (p : Option X) → cond b (Some v) (cond b None p) ≡ cond b (Some v) p
        at true p = refl
        at false p = refl

-- where each key is a number below a limit, there are no more entries than that
pub len-below : {X : Type 0} (n : ℕ) (m : finite.FinMap nat_cmp X) → ((k : ℕ) → is_some (finite.get m k) ≡ true → k < n) → finite.len m ≤ n
len-below {X} zero m low = omega (arith, ap finite.len nothing, len-empty nat_cmp X)
  where
    none : (k : ℕ) (o : Option X) → finite.get m k ≡ o → o ≡ None
    none k None is = refl
    none k (Some x) is = absurd (let below = low k (ap is_some is) in omega (arith, below))

    nothing : m ≡ finite.empty
    nothing = same_map nat_cmp_total nat_cmp-IsAntisymmetric m finite.empty (λ k. none k (finite.get m k) refl ∙ sym (get-empty nat_cmp k))
len-below {X} (suc n) m low =
    let fewer = len-below n (finite.remove m n) (λ k there. less k there (cases_eq k n)) in
    one_less (finite.contains_key m n) (len-remove nat_cmp_total m n) fewer
  where
    less : (k : ℕ) → is_some (finite.get (finite.remove m n) k) ≡ true → (k ≡ n) ⊎ (k ≢ n) → k < n
    less k there (inl same) = absurd (let none = ap is_some (ap (finite.get (finite.remove m n)) same ∙ get-removed_same nat_cmp_total nat_cmp-IsAntisymmetric m n) in let e = sym none ∙ there in cc)
    less k there (inr other) = let was = low k (ap is_some (sym (get-removed_other nat_cmp_total nat_cmp-IsAntisymmetric m n k other)) ∙ there) in omega (arith, was, other)

    one_less : (b : Bool) → finite.len (finite.remove m n) ≡ cond b (finite.len m - 1) (finite.len m) → finite.len (finite.remove m n) ≤ n → finite.len m ≤ suc n
    one_less true is le = omega (arith, is, le)
    one_less false is le = omega (arith, is, le)

-- Ordered maps of pages and of covers as finite maps, and what a change of one entry makes of them.
use Rattle.std.proofs.Common.{◌≡◌, ◌==◌, ℕ, List, refl, sym, ap, ◌∙◌, Bool, false, cond, Some, None, IsSome, is_some, inl, inr}
use Rattle.std.specs.Prelude.{option_map}
use Rattle.std.specs.declared.option.Option.{Option}
use Rattle.std.specs.FinMap as finite
use Rattle.std.specs.FinMap.{get-insert, get-remove}
use Rattle.std.specs.Cmp.{nat_cmp_total, unsigned_tied}
use Rattle.std.specs.Ordering.{nat_cmp, eq_by_cmp}
use Rattle.std.specs.BTreeMap.{BTreeMap, get, Updates}
use Rattle.std.proofs.lemmas.Bool.Decides.{eqb_tells}
use Rattle.std.proofs.lemmas.Map.Lookups.{exact_unsigned}
use Rattle.clone_base.proofs.OrderedMaps.{get_listed, inserted, removed}
use Rattle.clone_overlay.specs.Covers.{Cover, Overlay, leaves_of, covers_of, edited_there, leaf_edited, changed_there, with_cover}

turned : (a b : ℕ) → (a == b) ≡ (b == a)
turned a b =
    elim (eqb_tells a b) [
      | inl same ↦ elim (eqb_tells b a) [ inl back ↦ same.0 ∙ sym back.0 | inr not ↦ absurd (not.1 (sym same.1)) ]
      | inr other ↦ elim (eqb_tells b a) [ inl back ↦ absurd (other.1 (sym back.1)) | inr not ↦ other.0 ∙ sym not.0 ]
    ]

pub tied : (k q : ℕ) → eq_by_cmp nat_cmp q k ≡ (k == q)
tied k q = unsigned_tied q k ∙ turned q k

module _ {X : Type 0} where
  -- what a finite map has once an entry was set or taken away
  pub get_set : (m : finite.FinMap nat_cmp X) (k : ℕ) (x : X) (q : ℕ) → finite.get (finite.insert m k x) q ≡ cond (k == q) (Some x) (finite.get m q)
  get_set m k x q = get-insert nat_cmp_total m k x q ∙ ap (λ (b : Bool). cond b (Some x) (finite.get m q)) (tied k q)

  pub get_taken : (m : finite.FinMap nat_cmp X) (k q : ℕ) → finite.get (finite.remove m k) q ≡ cond (k == q) None (finite.get m q)
  get_taken m k q = get-remove nat_cmp_total m k q ∙ ap (λ (b : Bool). cond b None (finite.get m q)) (tied k q)

  pub get_here : (m : finite.FinMap nat_cmp X) (k : ℕ) (x : X) → finite.get (finite.insert m k x) k ≡ Some x
  get_here m k x = elim (eqb_tells k k) [
    | inl same ↦ get_set m k x k ∙ ap (λ (b : Bool). cond b (Some x) (finite.get m k)) same.0
    | inr not ↦ absurd (not.1 refl)
  ]

  pub get_there : (m : finite.FinMap nat_cmp X) (k : ℕ) (x : X) (q : ℕ) → (k == q) ≡ false → finite.get (finite.insert m k x) q ≡ finite.get m q
  get_there m k x q other = get_set m k x q ∙ ap (λ (b : Bool). cond b (Some x) (finite.get m q)) other

-- held pages

pub get_leaf : (m : BTreeMap ℕ (List ℕ)) (q : ℕ) → finite.get (leaves_of m.entries) q ≡ get nat_cmp m q
get_leaf m q = get_listed nat_cmp_total m q

pub set_leaf : (m n : BTreeMap ℕ (List ℕ)) (k : ℕ) (page : List ℕ) → Updates nat_cmp m n k (Some page) → leaves_of n.entries ≡ finite.insert (leaves_of m.entries) k page
set_leaf m n k page is = inserted nat_cmp_total exact_unsigned m n k page is

pub changed_leaf : (m n : BTreeMap ℕ (List ℕ)) (k : ℕ) (page new : List ℕ) (edit : List ℕ → List ℕ) → Some page ≡ get nat_cmp m k → (IsSome (get nat_cmp m k) → Updates nat_cmp m n k (Some new))
    → new ≡ edit page → leaves_of n.entries ≡ leaf_edited (leaves_of m.entries) k edit
changed_leaf m n k page new edit there is made =
    set_leaf m n k new (is (ap is_some (sym there))) ∙ ap (finite.insert (leaves_of m.entries) k) made ∙ sym (ap (edited_there (leaves_of m.entries) k edit) (get_leaf m k ∙ sym there))

pub absent_leaf : (m : BTreeMap ℕ (List ℕ)) (k : ℕ) (edit : List ℕ → List ℕ) → None ≡ get nat_cmp m k → leaves_of m.entries ≡ leaf_edited (leaves_of m.entries) k edit
absent_leaf m k edit none = sym (ap (edited_there (leaves_of m.entries) k edit) (get_leaf m k ∙ sym none))

-- covers

pub get_cover : (m : BTreeMap ℕ Cover) (q : ℕ) → finite.get (covers_of m.entries) q ≡ get nat_cmp m q
get_cover m q = get_listed nat_cmp_total m q

pub set_cover : (m n : BTreeMap ℕ Cover) (k : ℕ) (cover : Cover) → Updates nat_cmp m n k (Some cover) → covers_of n.entries ≡ finite.insert (covers_of m.entries) k cover
set_cover m n k cover is = inserted nat_cmp_total exact_unsigned m n k cover is

pub taken_cover : (m n : BTreeMap ℕ Cover) (k : ℕ) → Updates nat_cmp m n k None → covers_of n.entries ≡ finite.remove (covers_of m.entries) k
taken_cover m n k is = removed nat_cmp_total exact_unsigned m n k is

pub changed_cover : (m n : BTreeMap ℕ Cover) (k : ℕ) (cover new : Cover) (change : Cover → Cover) → Some cover ≡ get nat_cmp m k → (IsSome (get nat_cmp m k) → Updates nat_cmp m n k (Some new))
    → new ≡ change cover → covers_of n.entries ≡ with_cover (covers_of m.entries) k change
changed_cover m n k cover new change there is made =
    set_cover m n k new (is (ap is_some (sym there))) ∙ ap (finite.insert (covers_of m.entries) k) made ∙ sym (ap (changed_there (covers_of m.entries) k change) (get_cover m k ∙ sym there))

pub absent_cover : (m : BTreeMap ℕ Cover) (k : ℕ) (change : Cover → Cover) → None ≡ get nat_cmp m k → covers_of m.entries ≡ with_cover (covers_of m.entries) k change
absent_cover m k change none = sym (ap (changed_there (covers_of m.entries) k change) (get_cover m k ∙ sym none))

pub get_changed : (overlay : Overlay) (k : ℕ) (change : Cover → Cover) (q : ℕ) → finite.get (with_cover overlay k change) q ≡ cond (k == q) (option_map change (finite.get overlay k)) (finite.get overlay q)
get_changed overlay k change q = at (finite.get overlay k) refl
  where
    at : (o : Option Cover) → finite.get overlay k ≡ o → finite.get (with_cover overlay k change) q ≡ cond (k == q) (option_map change (finite.get overlay k)) (finite.get overlay q)
    at (Some cover) is =
        ap (λ (x : Option Cover). finite.get (changed_there overlay k change x) q) is ∙ get_set overlay k (change cover) q
        ∙ sym (ap (λ (x : Option Cover). cond (k == q) (option_map change x) (finite.get overlay q)) is)
    at None is =
        ap (λ (x : Option Cover). finite.get (changed_there overlay k change x) q) is
        ∙ elim (eqb_tells k q) [
          | inl same ↦ ap (finite.get overlay) (sym same.1) ∙ is ∙ sym (ap (λ (x : Option Cover). cond (k == q) (option_map change x) (finite.get overlay q)) is ∙ ap (λ (b : Bool). cond b None (finite.get overlay q)) same.0)
          | inr other ↦ sym (ap (λ (b : Bool). cond b (option_map change (finite.get overlay k)) (finite.get overlay q)) other.0)
        ]

-- How a page stands over a base once its cover has changed.
use Rattle.std.proofs.Common.{◌≡◌, ◌==◌, ◌<◌, ◌≤◌, ℕ, List, [], get_or, refl, sym, ap, ◌∙◌, arith, Bool, true, false, cond, Some, None, IsSome, inl, inr, ◌⊎◌, max}
use Rattle.std.specs.Prelude.{nat_lt, unwrap_or, IfSome, option_map}
use Rattle.std.specs.declared.option.Option.{Option}
use Rattle.std.specs.FinMap as finite
use Rattle.std.specs.FinMap.{get-empty}
use Rattle.std.specs.Ordering.{nat_cmp}
use Rattle.std.proofs.lemmas.Bool.{cases_lt, lt-ltb, le-ltb}
use Rattle.std.proofs.lemmas.Bool.Decides.{eqb_tells}
use Rattle.clone_page.specs.Header.{zero_page}
use Rattle.clone_image.specs.Redone.{Standing, no_space, past_end, stands, made, stretched}
use Rattle.clone_image.proofs.Standings.{edited_standing}
use Rattle.clone_overlay.specs.Covers.{Cover, holding, edited_there, with_leaf, stretched_to, unused}
use Rattle.clone_overlay.specs.Shown.{leaf_over, standing_over, Fits}
use Rattle.clone_overlay.proofs.Entries.{get_here, get_there}

same_either : (b : Bool) (p : Standing) → p ≡ cond b p p
same_either true p = refl
same_either false p = refl

-- the page stands as it is held
pub standing_held : (base : List (List ℕ)) (cover : Cover) (n : ℕ) (page : List ℕ) → n < cover.count → finite.get cover.leaves n ≡ Some page → standing_over base (Some cover) n ≡ stands page
standing_held base cover n page lt held =
    ap (λ (b : Bool). cond b (stands (leaf_over base cover n)) past_end) (lt-ltb n cover.count lt)
    ∙ ap (λ (o : Option (List ℕ)). stands (unwrap_or o (cond (nat_lt n cover.kept) (get_or base n []) zero_page))) held

pub standing_past : (base : List (List ℕ)) (cover : Cover) (n : ℕ) → cover.count ≤ n → standing_over base (Some cover) n ≡ past_end
standing_past base cover n le = ap (λ (b : Bool). cond b (stands (leaf_over base cover n)) past_end) (le-ltb n cover.count le)

-- the page stands as the base has it
pub standing_kept : (base : List (List ℕ)) (cover : Cover) (n : ℕ) → n < cover.count → n < cover.kept → finite.get cover.leaves n ≡ None → standing_over base (Some cover) n ≡ stands (get_or base n [])
standing_kept base cover n lt low free =
    ap (λ (b : Bool). cond b (stands (leaf_over base cover n)) past_end) (lt-ltb n cover.count lt)
    ∙ ap (λ (o : Option (List ℕ)). stands (unwrap_or o (cond (nat_lt n cover.kept) (get_or base n []) zero_page))) free
    ∙ ap (λ (b : Bool). stands (cond b (get_or base n []) zero_page)) (lt-ltb n cover.kept low)

-- another page's leaf was set
pub standing_other : (base : List (List ℕ)) (cover : Cover) (k n : ℕ) (page : List ℕ) → (k == n) ≡ false → standing_over base (Some (holding k page cover)) n ≡ standing_over base (Some cover) n
standing_other base cover k n page other =
    ap (λ (o : Option (List ℕ)). cond (nat_lt n cover.count) (stands (unwrap_or o (cond (nat_lt n cover.kept) (get_or base n []) zero_page))) past_end) (get_there cover.leaves k page n other)

-- a held page is edited
at_leaf : (base : List (List ℕ)) (cover : Cover) (k n : ℕ) (edit : List ℕ → List ℕ) (o : Option (List ℕ)) → finite.get cover.leaves k ≡ o → (k < cover.count → IsSome o)
    → standing_over base (Some (record { kept = cover.kept; count = cover.count; leaves = edited_there cover.leaves k edit o })) n
    ≡ cond (k == n) (edited_standing edit (standing_over base (Some cover) n)) (standing_over base (Some cover) n)
at_leaf base cover k n edit None is ready = elim (eqb_tells k n) [
  | inl same ↦ elim (cases_lt k cover.count) [
    | inl low ↦ absurd (let e : false ≡ true = ready low in cc)
    | inr high ↦
        let past = standing_past base cover n (omega (arith, high, same.1)) in
        past ∙ sym (ap (λ p. cond (k == n) (edited_standing edit p) p) past ∙ sym (same_either (k == n) past_end))
  ]
  | inr other ↦ sym (ap (λ (b : Bool). cond b (edited_standing edit (standing_over base (Some cover) n)) (standing_over base (Some cover) n)) other.0)
]
at_leaf base cover k n edit (Some page) is ready = elim (eqb_tells k n) [
  | inl same ↦ elim (cases_lt n cover.count) [
    | inl low ↦
        let held = standing_held base cover n page low (ap (finite.get cover.leaves) (sym same.1) ∙ is) in
        standing_held base (holding k (edit page) cover) n (edit page) low (ap (finite.get (finite.insert cover.leaves k (edit page))) (sym same.1) ∙ get_here cover.leaves k (edit page))
        ∙ sym (ap (λ (b : Bool). cond b (edited_standing edit (standing_over base (Some cover) n)) (standing_over base (Some cover) n)) same.0 ∙ ap (edited_standing edit) held)
    | inr high ↦
        standing_past base (holding k (edit page) cover) n high
        ∙ sym (ap (λ p. cond (k == n) (edited_standing edit p) p) (standing_past base cover n high) ∙ sym (same_either (k == n) past_end))
  ]
  | inr other ↦
      standing_other base cover k n (edit page) other.0
      ∙ sym (ap (λ (b : Bool). cond b (edited_standing edit (standing_over base (Some cover) n)) (standing_over base (Some cover) n)) other.0)
]

pub standing_edited : (base : List (List ℕ)) (o : Option Cover) (k n : ℕ) (edit : List ℕ → List ℕ) → IfSome o (λ cover. k < cover.count → IsSome (finite.get cover.leaves k))
    → standing_over base (option_map (with_leaf k edit) o) n ≡ cond (k == n) (edited_standing edit (standing_over base o n)) (standing_over base o n)
standing_edited base None k n edit ready = same_either (k == n) no_space
standing_edited base (Some cover) k n edit ready = at_leaf base cover k n edit (finite.get cover.leaves k) refl ready

-- pages of a new space
pub standing_unused : (base : List (List ℕ)) (count n : ℕ) → standing_over base (Some (unused count)) n ≡ made n count
standing_unused base count n =
    ap (λ (o : Option (List ℕ)). cond (nat_lt n count) (stands (unwrap_or o (cond (nat_lt n 0) (get_or base n []) zero_page))) past_end) (get-empty nat_cmp n)
    ∙ ap (λ (b : Bool). cond (nat_lt n count) (stands (cond b (get_or base n []) zero_page)) past_end) (le-ltb n 0 (omega arith))

-- a space that got longer
pub standing_stretched : (base : List (List ℕ)) (o : Option Cover) (count n : ℕ) → IfSome o (Fits base) → standing_over base (option_map (stretched_to count) o) n ≡ stretched n count (standing_over base o n)
standing_stretched base None count n fits = refl
standing_stretched base (Some cover) count n fits = elim (cases_lt n cover.count) [
  | inl low ↦
      ap (λ (b : Bool). cond b (stands (leaf_over base cover n)) past_end) (lt-ltb n (max cover.count count) (omega (arith, low)))
      ∙ sym (ap (λ (b : Bool). stretched n count (cond b (stands (leaf_over base cover n)) past_end)) (lt-ltb n cover.count low))
  | inr high ↦
      ap (λ (o : Option (List ℕ)). cond (nat_lt n (max cover.count count)) (stands (unwrap_or o (cond (nat_lt n cover.kept) (get_or base n []) zero_page))) past_end) (fits.within n high)
      ∙ ap (λ (b : Bool). cond (nat_lt n (max cover.count count)) (stands (cond b (get_or base n []) zero_page)) past_end) (le-ltb n cover.kept (omega (arith, high, fits.low)))
      ∙ ap (λ (b : Bool). cond b (stands zero_page) past_end) (longer (cases_lt n count) high)
      ∙ sym (ap (stretched n count) (standing_past base cover n high))
]
  where
    longer : (n < count) ⊎ (count ≤ n) → cover.count ≤ n → nat_lt n (max cover.count count) ≡ nat_lt n count
    longer (inl below) high = lt-ltb n (max cover.count count) (omega (arith, below)) ∙ sym (lt-ltb n count below)
    longer (inr past) high = le-ltb n (max cover.count count) (omega (arith, past, high)) ∙ sym (le-ltb n count past)

-- What still fits.

pub fits_leaf : (base : List (List ℕ)) (cover : Cover) (k : ℕ) (edit : List ℕ → List ℕ) → Fits base cover → Fits base (with_leaf k edit cover)
fits_leaf base cover k edit fits = record { kept = fits.kept; low = fits.low; within = λ n past. at n past (finite.get cover.leaves k) refl }
  where
    at : (n : ℕ) → cover.count ≤ n → (o : Option (List ℕ)) → finite.get cover.leaves k ≡ o → finite.get (edited_there cover.leaves k edit (finite.get cover.leaves k)) n ≡ None
    at n past None is = ap (λ (o : Option (List ℕ)). finite.get (edited_there cover.leaves k edit o) n) is ∙ fits.within n past
    at n past (Some page) is = ap (λ (o : Option (List ℕ)). finite.get (edited_there cover.leaves k edit o) n) is ∙ elim (eqb_tells k n) [
      | inl same ↦ absurd (let e : Some page ≡ None = sym is ∙ ap (finite.get cover.leaves) same.1 ∙ fits.within n past in cc)
      | inr other ↦ get_there cover.leaves k (edit page) n other.0 ∙ fits.within n past
    ]

pub fits_holding : (base : List (List ℕ)) (cover : Cover) (k : ℕ) (page : List ℕ) → k < cover.count → Fits base cover → Fits base (holding k page cover)
fits_holding base cover k page lt fits = record {
  kept = fits.kept;
  low = fits.low;
  within = λ n past. elim (eqb_tells k n) [
    | inl same ↦ absurd (omega (arith, lt, past, same.1))
    | inr other ↦ get_there cover.leaves k page n other.0 ∙ fits.within n past
  ];
}

pub fits_stretched : (base : List (List ℕ)) (cover : Cover) (count : ℕ) → Fits base cover → Fits base (stretched_to count cover)
fits_stretched base cover count fits = record { kept = fits.kept; low = omega (arith, fits.low); within = λ n past. fits.within n (omega (arith, past)) }

pub fits_unused : (base : List (List ℕ)) (count : ℕ) → Fits base (unused count)
fits_unused base count = record { kept = inl refl; low = omega arith; within = λ n past. get-empty nat_cmp n }

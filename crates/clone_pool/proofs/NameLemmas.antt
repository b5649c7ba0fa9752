-- The frame number of a name among names of which no two are the same.
use Rattle.std.proofs.Common.{◌≡◌, ◌≢◌, ◌<◌, ◌≤◌, ◌⊎◌, inl, inr, ◌==◌, ℕ, zero, suc, Bool, true, false, cond, [], ◌∷◌, length, get_or, set, Option, Some, None, option_map, refl, sym, ap, subst, ◌∙◌, arith}
use Rattle.std.proofs.lemmas.Bool.{cases_eq, cases_lt, eq-eqb, eqb-true, and_parts, and_from, false≢true}
use Rattle.std.proofs.lemmas.List.{get_or-set_same, get_or-set_other, get_or_past}
use Rattle.clone_pool.specs.declared.frame.PageName.{PageName}
use Rattle.clone_pool.specs.Index.{Names, is_name_of, frame_number_of}

abbrev pub name_at : Names → ℕ → Option PageName
name_at names at = get_or names at None

-- the first frame with the name is found
pub frame_number_found : (page : PageName) (names : Names) (at : ℕ) → at < length names → is_name_of page (name_at names at) ≡ true → ((i : ℕ) → i < at → is_name_of page (name_at names i) ≡ false) → frame_number_of page names ≡ Some at
frame_number_found page [] at low is before = absurd (omega arith)
frame_number_found page (n ∷ rest) zero low is before = ap (λ (t : Bool). cond t (Some 0) (option_map (λ (k : ℕ). suc k) (frame_number_of page rest))) is
frame_number_found page (n ∷ rest) (suc at) low is before =
    let tail : frame_number_of page rest ≡ Some at = frame_number_found page rest at (omega arith) is (λ i less. before (suc i) (omega arith)) in
    ap (λ (t : Bool). cond t (Some 0) (option_map (λ (k : ℕ). suc k) (frame_number_of page rest))) (before 0 (omega arith)) ∙ ap (λ (o : Option ℕ). option_map (λ (k : ℕ). suc k) o) tail

-- no frame is found where none has the name
pub frame_number_absent : (page : PageName) (names : Names) → ((i : ℕ) → i < length names → is_name_of page (name_at names i) ≡ false) → frame_number_of page names ≡ None
frame_number_absent page [] none = refl
frame_number_absent page (n ∷ rest) none =
    let tail : frame_number_of page rest ≡ None = frame_number_absent page rest (λ i less. none (suc i) (omega arith)) in
    ap (λ (t : Bool). cond t (Some 0) (option_map (λ (k : ℕ). suc k) (frame_number_of page rest))) (none 0 (omega arith)) ∙ ap (λ (o : Option ℕ). option_map (λ (k : ℕ). suc k) o) tail

-- a name that passes the test is the page's
pub named : (page : PageName) (n : Option PageName) → is_name_of page n ≡ true → n ≡ Some page
named page None is = absurd (false≢true is)
named page (Some name) is =
    let parts = and_parts (page.space == name.space) (page.number == name.number) is in
    let space : name.space ≡ page.space = sym (eqb-true page.space name.space parts.0) in
    let number : name.number ≡ page.number = sym (eqb-true page.number name.number parts.1) in
    λ i. Some (record { space = space i; number = number i })

-- what is found has the name
found_in : (page : PageName) (n : Option PageName) (rest : Names) (o : Option ℕ) (at : ℕ) (test : Bool) → is_name_of page n ≡ test → ((k : ℕ) → o ≡ Some k → (k < length rest) × (name_at rest k ≡ Some page)) → cond test (Some 0) (option_map (λ (k : ℕ). suc k) o) ≡ Some at → (at < length (n ∷ rest)) × (name_at (n ∷ rest) at ≡ Some page)
found_in page n rest o at true e tail is =
    let same : 0 ≡ at = cc in
    subst (λ (z : ℕ). (z < length (n ∷ rest)) × (name_at (n ∷ rest) z ≡ Some page)) same (omega arith, named page n e)
found_in page n rest None at false e tail is = absurd (cc)
found_in page n rest (Some k) at false e tail is =
    let same : suc k ≡ at = cc in
    let found = tail k refl in
    subst (λ (z : ℕ). (z < length (n ∷ rest)) × (name_at (n ∷ rest) z ≡ Some page)) same (omega (arith, found.0), found.1)

pub found_name : (page : PageName) (names : Names) (at : ℕ) → frame_number_of page names ≡ Some at → (at < length names) × (name_at names at ≡ Some page)
found_name page [] at is = absurd (cc)
found_name page (n ∷ rest) at is = found_in page n rest (frame_number_of page rest) at (is_name_of page n) refl (λ k. found_name page rest k) is

pub is_own_name : (page : PageName) → is_name_of page (Some page) ≡ true
is_own_name page = and_from (page.space == page.space) (page.number == page.number) (eq-eqb page.space page.space refl) (eq-eqb page.number page.number refl)

-- no two frames have one name
abbrev pub AreOnce : Names → Type 0
AreOnce names = (page : PageName) (i j : ℕ) → name_at names i ≡ Some page → name_at names j ≡ Some page → i ≡ j

pub name_within : (page : PageName) (names : Names) (at : ℕ) → name_at names at ≡ Some page → at < length names
name_within page names at is = by (cases_lt at (length names))
  where
    by : (at < length names) ⊎ (length names ≤ at) → at < length names
    by (inl low) = low
    by (inr past) = let none : name_at names at ≡ None = get_or_past names at None past in absurd (cc)

-- then a name is found at its frame
pub found_at : (names : Names) → AreOnce names → (page : PageName) (at : ℕ) → name_at names at ≡ Some page → frame_number_of page names ≡ Some at
found_at names once page at is = frame_number_found page names at (name_within page names at is) (subst (λ (n : Option PageName). is_name_of page n ≡ true) (sym is) (is_own_name page)) before
  where
    before : (i : ℕ) → i < at → is_name_of page (name_at names i) ≡ false
    before i less = by (is_name_of page (name_at names i)) refl
      where
        by : (t : Bool) → is_name_of page (name_at names i) ≡ t → t ≡ false
        by true e = let same : i ≡ at = once page i at (named page (name_at names i) e) is in absurd (omega (arith, same))
        by false e = refl

-- a frame takes a name that no other has, or none
pub once_set : (names : Names) (at : ℕ) (n : Option PageName) → at < length names → AreOnce names → ((page : PageName) → n ≡ Some page → frame_number_of page names ≡ None) → AreOnce (set names at n)
once_set names at n low once new page i j is js = by (cases_eq i at) (cases_eq j at)
  where
    here : (k : ℕ) → k ≡ at → name_at (set names at n) k ≡ n
    here k e = subst (λ (z : ℕ). name_at (set names at n) z ≡ n) (sym e) (get_or-set_same names at n None low)

    there : (k : ℕ) → k ≢ at → name_at (set names at n) k ≡ name_at names k
    there k other = get_or-set_other names at k n None other

    clash : (k : ℕ) → n ≡ Some page → name_at names k ≡ Some page → ⊥
    clash k is_new was = let none = new page is_new in let some = found_at names once page k was in let no : None ≡ Some k = sym none ∙ some in absurd (cc)

    by : (i ≡ at) ⊎ (i ≢ at) → (j ≡ at) ⊎ (j ≢ at) → i ≡ j
    by (inl a) (inl b) = a ∙ sym b
    by (inl a) (inr b) = absurd (clash j (sym (here i a) ∙ is) (sym (there j b) ∙ js))
    by (inr a) (inl b) = absurd (clash i (sym (here j b) ∙ js) (sym (there i a) ∙ is))
    by (inr a) (inr b) = once page i j (sym (there i a) ∙ is) (sym (there j b) ∙ js)

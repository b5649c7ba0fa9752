-- The pages after one of them was edited.
use Rattle.std.proofs.Common.{◌≡◌, ◌==◌, ◌&&◌, ℕ, Bool, true, false, cond, List, length, refl, sym, ap, ◌∙◌, inl, inr}
use Rattle.std.proofs.lemmas.Bool.{cases_eq}
use Rattle.std.proofs.lemmas.Bool.Decides.{eqb_tells}
use Rattle.clone_page.specs.Bytes.{part}
use Rattle.clone_undo.specs.Changes.{pages_after_edit, AreWhole}

hits : (a b : ℕ) → ((a == a) && (b == b)) ≡ true
hits a b =
    elim (eqb_tells a a) [
      | inl first ↦ elim (eqb_tells b b) [ inl second ↦ ap (λ t. t && (b == b)) first.0 ∙ second.0 | inr differ ↦ absurd (differ.1 refl) ]
      | inr differ ↦ absurd (differ.1 refl)
    ]

misses : (s space n number : ℕ) → (s ≡ space → n ≡ number → ⊥) → ((s == space) && (n == number)) ≡ false
misses s space n number other =
    elim (eqb_tells s space) [
      | inl first ↦ elim (eqb_tells n number) [ inl second ↦ absurd (other first.1 second.1) | inr differ ↦ ap (λ t. t && (n == number)) first.0 ∙ differ.0 ]
      | inr differ ↦ ap (λ t. t && (n == number)) differ.0
    ]

pub edit-same : (space number : ℕ) (edit : List ℕ → List ℕ) (pages : ℕ → ℕ → List ℕ) → pages_after_edit space number edit pages space number ≡ edit (pages space number)
edit-same space number edit pages = ap (λ (b : Bool). cond b (edit (pages space number)) (pages space number)) (hits space number)

pub edit-other : (space number s n : ℕ) (edit : List ℕ → List ℕ) (pages : ℕ → ℕ → List ℕ) → (s ≡ space → n ≡ number → ⊥) → pages_after_edit space number edit pages s n ≡ pages s n
edit-other space number s n edit pages other = ap (λ (b : Bool). cond b (edit (pages s n)) (pages s n)) (misses s space n number other)

-- what an edit of a page leaves, it leaves on each
pub edit-part : (a k number m : ℕ) (edit : List ℕ → List ℕ) (pages : ℕ → ℕ → List ℕ) → (m ≡ number → part a k (edit (pages 0 m)) ≡ part a k (pages 0 m)) → part a k (pages_after_edit 0 number edit pages 0 m) ≡ part a k (pages 0 m)
edit-part a k number m edit pages kept =
    elim (cases_eq m number) [
      | inl same ↦ ap (part a k) (ap (λ x. pages_after_edit 0 x edit pages 0 m) (sym same) ∙ edit-same 0 m edit pages) ∙ kept same
      | inr other ↦ ap (part a k) (edit-other 0 number 0 m edit pages (λ e n. other n))
    ]

-- an edit that leaves a page whole leaves the four pages whole
pub edit-whole : (s number : ℕ) (edit : List ℕ → List ℕ) (pages : ℕ → ℕ → List ℕ) → AreWhole s (pages 0) → (length (pages 0 number) ≡ 4096 → length (edit (pages 0 number)) ≡ 4096) → AreWhole s (pages_after_edit 0 number edit pages 0)
edit-whole s number edit pages whole kept = λ m low high.
    elim (cases_eq m number) [
      | inl same ↦ ap (λ x. length (pages_after_edit 0 number edit pages 0 x)) same ∙ ap length (edit-same 0 number edit pages) ∙ kept (ap (λ x. length (pages 0 x)) (sym same) ∙ whole m low high)
      | inr other ↦ ap length (edit-other 0 number 0 m edit pages (λ e n. other n)) ∙ whole m low high
    ]

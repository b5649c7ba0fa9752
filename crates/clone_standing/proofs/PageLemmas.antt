-- How pages stand once several were laid.
use Rattle.std.proofs.Common.{◌≡◌, ◌<◌, ◌⊎◌, ◌∙◌, ◌∷◌, ◌==◌, ◌&&◌, [], ℕ, Bool, true, false, cond, List, None, Some, refl, sym, ap, subst, inl, inr}
use Rattle.std.specs.declared.option.Option.{Option}
use Rattle.std.specs.Option.{option_or}
use Rattle.std.specs.List.{AllByRecursion}
use Rattle.std.proofs.lemmas.Bool.{and_parts, eqb-true, eq-eqb, true≢false}
use Rattle.clone_base.specs.declared.limits.TheConstants.{REDO_SPACE}
use Rattle.clone_outside.specs.Disk.{DiskImage, pages_in}
use Rattle.clone_image.specs.Redone.{Standing, stands, standing_of}
use Rattle.clone_law.specs.Touches.{Lax}
use Rattle.clone_overlay.specs.Images.{redo_space, image_of, IsQuiet}
use Rattle.clone_lay.specs.Laid.{PageAt, bytes_at, laid_page, laid_pages, last_bytes}
use Rattle.clone_standing.specs.Latest.{IsLow}
use Rattle.clone_standing.proofs.StandingLemmas.{IsShort, laid_beside_redo, laid_others, laid_quiet, laid_short, laid_there, lax_same, lax_trans}

pub or_none : {X : Type 0} (a b : Option X) → option_or a b ≡ None → (a ≡ None) × (b ≡ None)
or_none None b none = (refl, none)
or_none (Some x) b none = absurd (cc)

pub or_some : {X : Type 0} (a b : Option X) (x : X) → option_or a b ≡ Some x → (a ≡ Some x) ⊎ ((a ≡ None) × (b ≡ Some x))
or_some None b x some = inr (refl, some)
or_some (Some y) b x some = inl some

cond_none : (b : Bool) (bytes : List ℕ) → cond b (Some bytes) None ≡ None → b ≡ false
cond_none true bytes none = absurd (cc)
cond_none false bytes none = refl

cond_some : (b : Bool) (bytes found : List ℕ) → cond b (Some bytes) None ≡ Some found → (b ≡ true) × (bytes ≡ found)
cond_some true bytes found some = (refl, cc)
cond_some false bytes found some = absurd (cc)

-- a page that has another place
pub not_there : (s n : ℕ) (p : PageAt) → bytes_at s n p ≡ None → s ≡ p.space → n ≡ p.number → ⊥
not_there s n p none space number =
    true≢false (sym (ap (λ (x : Bool). x && p.number == n) (eq-eqb p.space s (sym space)) ∙ eq-eqb p.number n (sym number)) ∙ cond_none (p.space == s && p.number == n) p.bytes none)

pub there : (s n : ℕ) (p : PageAt) (bytes : List ℕ) → bytes_at s n p ≡ Some bytes → (p.space ≡ s) × (p.number ≡ n) × (p.bytes ≡ bytes)
there s n p bytes some =
    let both = cond_some (p.space == s && p.number == n) p.bytes bytes some in
    let parts = and_parts (p.space == s) (p.number == n) both.0 in
    (eqb-true p.space s parts.0, eqb-true p.number n parts.1, both.1)

abbrev pub at : DiskImage → ℕ → ℕ → Standing
at m s n = standing_of (image_of m) s n

-- what stands at a place at which nothing is laid only grows
pub pages_stay : (pages : List PageAt) (m : DiskImage) (s n : ℕ) → s < redo_space → last_bytes s n pages ≡ None → Lax (at (laid_pages pages m) s n) (at m s n)
pages_stay [] m s n low none = lax_same (at m s n)
pages_stay (p ∷ ps) m s n low none =
    let both = or_none (last_bytes s n ps) (bytes_at s n p) none in
    let next = laid_page p.space p.number p.bytes m in
    lax_trans (at (laid_pages ps next) s n) (at next s n) (at m s n) (pages_stay ps next s n low both.0) (laid_others m p.space p.number p.bytes s n low (not_there s n p both.1))

page_here : (p : PageAt) (m : DiskImage) (s n : ℕ) (bytes : List ℕ) → s < redo_space → (p.space ≡ s) × (p.number ≡ n) × (p.bytes ≡ bytes) → at (laid_page p.space p.number p.bytes m) s n ≡ stands bytes
page_here p m s n bytes low is =
    let next = laid_page p.space p.number p.bytes m in
    sym (ap (λ (x : ℕ). at next x n) is.0) ∙ sym (ap (λ (x : ℕ). at next p.space x) is.1)
    ∙ laid_there m p.space p.number p.bytes (subst (λ (x : ℕ). x < redo_space) (sym is.0) low) ∙ ap (λ (b : List ℕ). stands b) is.2

-- and what is laid last there stands there
pub pages_laid : (pages : List PageAt) (m : DiskImage) (s n : ℕ) (bytes : List ℕ) → s < redo_space → last_bytes s n pages ≡ Some bytes → at (laid_pages pages m) s n ≡ stands bytes
pages_laid [] m s n bytes low some = absurd (cc)
pages_laid (p ∷ ps) m s n bytes low some =
    let next = laid_page p.space p.number p.bytes m in
    elim (or_some (last_bytes s n ps) (bytes_at s n p) bytes some) [
      | inl later ↦ pages_laid ps next s n bytes low later
      | inr now ↦ subst (Lax (at (laid_pages ps next) s n)) (page_here p m s n bytes low (there s n p bytes now.1)) (pages_stay ps next s n low now.0)
    ]

-- a disk stays one that is short of system pages, and quiet, and its redo stays
pub pages_short : (pages : List PageAt) (m : DiskImage) → AllByRecursion IsLow pages → IsShort m → IsShort (laid_pages pages m)
pages_short [] m low short = short
pages_short (p ∷ ps) m low short = pages_short ps (laid_page p.space p.number p.bytes m) low.1 (laid_short m p.space p.number p.bytes low.0.1 short)

pub pages_quiet : (pages : List PageAt) (m : DiskImage) → IsQuiet m → IsQuiet (laid_pages pages m)
pages_quiet [] m quiet = quiet
pages_quiet (p ∷ ps) m quiet = pages_quiet ps (laid_page p.space p.number p.bytes m) (laid_quiet m p.space p.number p.bytes quiet)

pub pages_beside : (pages : List PageAt) (m : DiskImage) → AllByRecursion IsLow pages → pages_in (laid_pages pages m) REDO_SPACE ≡ pages_in m REDO_SPACE
pages_beside [] m low = refl
pages_beside (p ∷ ps) m low = pages_beside ps (laid_page p.space p.number p.bytes m) low.1 ∙ laid_beside_redo m p.space p.number p.bytes low.0.0

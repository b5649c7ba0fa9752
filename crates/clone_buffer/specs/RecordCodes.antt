-- Codes of records: a record is stored as one of five tuples.
use Rattle.std.specs.Prelude.{ℕ, Bool, true, false, ◌≡◌, ◌⊎◌, List, refl}
use Rattle.std.proofs.Common.{inl, inr}
use Rattle.std.specs.Coded.{Coded, code_by, coded×, coded⊎, coded_ℕ, coded_bool, coded_list}
use Rattle.clone_page.specs.declared.kind.PageKind.{PageKind}
use Rattle.clone_page.specs.declared.kind.PageKind.TheVariants.{System, Undo, Bucket, Overflow}
use Rattle.clone_mtr.specs.Patches.{Patched}
use Rattle.clone_mtr.specs.declared.record.Record.{Record}
use Rattle.clone_mtr.specs.declared.record.Record.TheVariants.{Init, Write, Extend, Create, Drop}

abbrev pub kind_bits : PageKind → Bool × Bool
kind_bits System = (false, false)
kind_bits Undo = (false, true)
kind_bits Bucket = (true, false)
kind_bits Overflow = (true, true)

abbrev pub kind_of_bits : Bool × Bool → PageKind
kind_of_bits (false, false) = System
kind_of_bits (false, true) = Undo
kind_of_bits (true, false) = Bucket
kind_of_bits (true, true) = Overflow

pub kind_back : (kind : PageKind) → kind_of_bits (kind_bits kind) ≡ kind
kind_back System = refl
kind_back Undo = refl
kind_back Bucket = refl
kind_back Overflow = refl

abbrev pub kind_code : Coded PageKind
kind_code = code_by (Bool × Bool) (coded× coded_bool coded_bool) kind_bits kind_of_bits kind_back

abbrev pub patch_code : Coded Patched
patch_code =
    code_by (ℕ × List ℕ) (coded× coded_ℕ (coded_list coded_ℕ)) (λ p. (p.offset, p.bytes))
    (λ p. record { offset = p.0; bytes = p.1 }) (λ _. refl)

-- the parts of a record
abbrev pub Parts : Type 0
Parts = (ℕ × (ℕ × PageKind)) ⊎ ((ℕ × (ℕ × Patched)) ⊎ ((ℕ × ℕ) ⊎ ((ℕ × ℕ) ⊎ ℕ)))

abbrev pub parts_of : Record → Parts
parts_of (Init space number kind) = inl (space, (number, kind))
parts_of (Write space number patch) = inr (inl (space, (number, patch)))
parts_of (Extend space pages) = inr (inr (inl (space, pages)))
parts_of (Create space pages) = inr (inr (inr (inl (space, pages))))
parts_of (Drop space) = inr (inr (inr (inr space)))

abbrev pub record_of : Parts → Record
record_of (inl p) = Init p.0 p.1.0 p.1.1
record_of (inr (inl p)) = Write p.0 p.1.0 p.1.1
record_of (inr (inr (inl p))) = Extend p.0 p.1
record_of (inr (inr (inr (inl p)))) = Create p.0 p.1
record_of (inr (inr (inr (inr space)))) = Drop space

pub record_back : (r : Record) → record_of (parts_of r) ≡ r
record_back (Init space number kind) = refl
record_back (Write space number patch) = refl
record_back (Extend space pages) = refl
record_back (Create space pages) = refl
record_back (Drop space) = refl

abbrev pub record_code : Coded Record
record_code =
    code_by Parts
    (coded⊎ (coded× coded_ℕ (coded× coded_ℕ kind_code))
    (coded⊎ (coded× coded_ℕ (coded× coded_ℕ patch_code))
    (coded⊎ (coded× coded_ℕ coded_ℕ) (coded⊎ (coded× coded_ℕ coded_ℕ) coded_ℕ))))
    parts_of record_of record_back

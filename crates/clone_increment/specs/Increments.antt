-- Increments, what they make of a copy, and two of them as one.
use Rattle.std.specs.Prelude.{ℕ, ◌≡◌, ◌≢◌, ◌&&◌, Result, Ok, Err, refl}
use Rattle.std.specs.Coded.{Coded, code_by, coded×, coded_ℕ}
use Rattle.std.specs.FinMap as finite
use Rattle.clone_base.specs.Counted.{Counted}
use Rattle.clone_increment.specs.Copies.{Copy, PagesByPlace, counts_code, is_within, laid, pages_code, page_at}
use Rattle.clone_increment.specs.declared.refusal.BackupRefusal.{BackupRefusal}
use Rattle.clone_increment.specs.declared.refusal.BackupRefusal.TheVariants as refusal

-- An increment that spans the numbers from its own up to the next: how many pages each space has at
-- its end, how many of the earlier pages stay in each space, and the pages that were written. None
-- stays in a space that was made.
pub record Delta : Type 0 where
  pub number : ℕ
  pub next : ℕ
  pub sizes : Counted
  pub stay : Counted
  pub pages : PagesByPlace

-- a copy, and the number of the increment that it takes next
pub record Full : Type 0 where
  pub copy : Copy
  pub next : ℕ

abbrev pub delta_code : Coded Delta
delta_code =
    code_by (ℕ × (ℕ × (Counted × (Counted × PagesByPlace))))
    (coded× coded_ℕ (coded× coded_ℕ (coded× counts_code (coded× counts_code pages_code))))
    (λ d. (d.number, (d.next, (d.sizes, (d.stay, d.pages)))))
    (λ p. record {
      number = p.0;
      next = p.1.0;
      sizes = p.1.1.0;
      stay = p.1.1.1.0;
      pages = p.1.1.1.1;
    }) (λ _. refl)

abbrev pub full_code : Coded Full
full_code =
    code_by (Counted × (PagesByPlace × ℕ)) (coded× counts_code (coded× pages_code coded_ℕ))
    (λ f. (f.copy.sizes, (f.copy.pages, f.next)))
    (λ p. record { copy = record { sizes = p.0; pages = p.1.0 }; next = p.1.1 }) (λ _. refl)

-- what an increment makes of a copy: its pages are laid over those that stay
abbrev pub applied : Copy → Delta → Copy
applied copy delta = record {
  sizes = delta.sizes;
  pages = laid delta.pages (finite.retain_keys copy.pages (is_within delta.stay));
}

-- An increment is applied where its number is the next one; another is out of turn. After a refusal
-- all is as before.
abbrev pub Applies : Full → Delta → Result (Unit {0}) BackupRefusal → Full → Type 0
Applies old delta (Ok done) new =
    (delta.number ≡ old.next) × (new ≡ record { copy = applied old.copy delta; next = delta.next })
Applies old delta (Err (refusal.OutOfTurn have got)) new =
    (delta.number ≢ old.next) × (have ≡ old.next) × (got ≡ delta.number) × (new ≡ old)
Applies old delta (Err refusal.NoMemory) new = (delta.number ≡ old.next) × (new ≡ old)
Applies old delta (Err refusal.NoFull) new = ⊥
Applies old delta (Err refusal.DiskFault) new = ⊥
Applies old delta (Err (refusal.OpenWrites count)) new = ⊥

-- Two increments as one: the pages of the second are laid over those of the first that stay, and
-- what stays through both stays.
pub record IsMerged (first second both : Delta) : Type 0 where
  pub number : both.number ≡ first.number
  pub next : both.next ≡ second.next
  pub sizes : both.sizes ≡ second.sizes
  pub stay : (place : ℕ × ℕ) → is_within both.stay place
      ≡ (is_within first.stay place && is_within second.stay place)
  pub pages : both.pages
      ≡ laid second.pages (finite.retain_keys first.pages (is_within second.stay))

-- Increments are merged where the second follows the first.
abbrev pub Merges : Delta → Delta → Result Delta BackupRefusal → Type 0
Merges first second (Ok both) = (second.number ≡ first.next) × IsMerged first second both
Merges first second (Err (refusal.OutOfTurn have got)) =
    (second.number ≢ first.next) × (have ≡ first.next) × (got ≡ second.number)
Merges first second (Err refusal.NoMemory) = second.number ≡ first.next
Merges first second (Err refusal.NoFull) = ⊥
Merges first second (Err refusal.DiskFault) = ⊥
Merges first second (Err (refusal.OpenWrites count)) = ⊥

-- the same sizes, and the same page at each place
pub record AreSame (a b : Copy) : Type 0 where
  pub sizes : a.sizes ≡ b.sizes
  pub pages : (place : ℕ × ℕ) → page_at a place ≡ page_at b place

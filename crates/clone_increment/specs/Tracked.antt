-- What is noted between two copies, and the increment that is taken of it.
use Rattle.std.specs.Prelude.{ℕ, ◌≡◌, ◌≢◌, ◌+◌, None, Some, IsSome, option_map, refl, if◌then◌else◌}
use Rattle.std.specs.declared.option.Option.{Option}
use Rattle.std.specs.Coded.{Coded, code_by, coded×, coded_ℕ, coded_option}
use Rattle.std.specs.FinMap as finite
use Rattle.std.specs.FinSet as set
use Rattle.std.specs.Ordering.{nat_cmp}
use Rattle.clone_model.specs.Keys.{row_cmp}
use Rattle.clone_outside.specs.Disk.{DiskImage, page_count}
use Rattle.clone_increment.specs.Copies.{IsBounded, bytes_at}
use Rattle.clone_increment.specs.Increments.{Delta}
use Rattle.clone_increment.specs.declared.refusal.BackupRefusal.{BackupRefusal}
use Rattle.clone_increment.specs.declared.refusal.BackupRefusal.TheVariants as refusal

-- the pages that were written and the spaces that were made
pub record Changed : Type 0 where
  pub written : set.FinSet row_cmp
  pub made : set.FinSet nat_cmp

-- what changed since the last copy, if there was one, and the number of the next increment
pub record Tracked : Type 0 where
  pub since : Option Changed
  pub number : ℕ

abbrev pub changed_code : Coded Changed
changed_code =
    code_by (set.FinSet row_cmp × set.FinSet nat_cmp)
    (coded× (set.code (coded× coded_ℕ coded_ℕ)) (set.code coded_ℕ)) (λ c. (c.written, c.made))
    (λ p. record { written = p.0; made = p.1 }) (λ _. refl)

abbrev pub tracked_code : Coded Tracked
tracked_code =
    code_by (Option Changed × ℕ) (coded× (coded_option changed_code) coded_ℕ)
    (λ t. (t.since, t.number)) (λ p. record { since = p.0; number = p.1 }) (λ _. refl)

-- nothing was written, and no space was made
abbrev pub no_changes : Changed
no_changes = record { written = set.empty; made = set.empty }

-- a page was written
abbrev pub with_written : Changed → ℕ × ℕ → Changed
with_written changed place = record changed { written = set.insert changed.written place }

-- a space was made
abbrev pub with_made : Changed → ℕ → Changed
with_made changed space = record changed { made = set.insert changed.made space }

-- a page was written, which is noted where a copy was made
abbrev pub noted : Tracked → ℕ × ℕ → Tracked
noted tracked place =
    record tracked { since = option_map (λ changed. with_written changed place) tracked.since }

-- a space was made, which is noted where a copy was made
abbrev pub noted_made : Tracked → ℕ → Tracked
noted_made tracked space =
    record tracked { since = option_map (λ changed. with_made changed space) tracked.since }

-- The increment of what changed, as the disk's image is now: the pages that were written and are
-- still there. None of the earlier pages stays in a space that was made.
pub record IsTaken (changed : Changed) (image : DiskImage) (delta : Delta) : Type 0 where
  pub sizes : (space : ℕ) → finite.get delta.sizes space ≡ page_count image space
  pub stay : (space : ℕ) → finite.get delta.stay space
      ≡ option_map (λ size. if set.contains changed.made space then 0 else size)
      (page_count image space)
  pub pages : (place : ℕ × ℕ) → finite.get delta.pages place
      ≡ (if set.contains changed.written place then bytes_at image place else None)

-- the same where a copy was made
abbrev pub IsTakenSince : Option Changed → DiskImage → Delta → Type 0
IsTakenSince None image delta = ⊥
IsTakenSince (Some changed) image delta = IsTaken changed image delta

-- why no full copy is made, where so many pages are being written
abbrev pub MayRefuseFull : ℕ → BackupRefusal → Type 0
MayRefuseFull writes (refusal.OpenWrites count) = (writes ≢ 0) × (count ≡ writes)
MayRefuseFull writes refusal.DiskFault = writes ≡ 0
MayRefuseFull writes refusal.NoMemory = writes ≡ 0
MayRefuseFull writes refusal.NoFull = ⊥
MayRefuseFull writes (refusal.OutOfTurn have got) = ⊥

-- why no increment is made. That pages are being written is said first.
abbrev pub MayRefuseIncrement : ℕ → Option Changed → BackupRefusal → Type 0
MayRefuseIncrement writes since (refusal.OpenWrites count) = (writes ≢ 0) × (count ≡ writes)
MayRefuseIncrement writes since refusal.NoFull = (writes ≡ 0) × (since ≡ None)
MayRefuseIncrement writes since refusal.DiskFault = (writes ≡ 0) × IsSome since
MayRefuseIncrement writes since refusal.NoMemory = (writes ≡ 0) × IsSome since
MayRefuseIncrement writes since (refusal.OutOfTurn have got) = ⊥

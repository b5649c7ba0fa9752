-- What is left of a disk where a call that changes one space failed.
use Rattle.std.proofs.Common.{◌≡◌, ℕ, List, refl, sym, subst, ◌∙◌, Option, None, Some, Result, Ok, Err, OnErr}
use Rattle.std.specs.Prelude.{IsErrOf, IsSomeAnd}
use Rattle.std.specs.FinMap as finite
use Rattle.clone_outside.specs.Disk.{DiskImage, Steps, Opens, IsSameBut, ChangesOnly, changed, with_page, with_pages, with_space, opened, edited}
use Rattle.clone_outside.specs.declared.Refusal.{Refusal}
use Rattle.clone_outside.specs.declared.Refusal.TheVariants.{Fault, NoMemory}
use Rattle.clone_outside.specs.declared.disk.Held.{Held}
use Rattle.clone_outside.proofs.SpaceLemmas.{get_there}

-- what is known of each error
pub failed : {T P : Type 0} (r : Result T Refusal) → (IsErrOf r Fault → P) → (IsErrOf r NoMemory → P) → OnErr r P
failed (Ok x) fault memory = tt
failed (Err Fault) fault memory = fault refl
failed (Err NoMemory) fault memory = memory refl

-- what is known of an answer that is an error
pub on_err_known : {T E P : Type 0} (r : Result T E) → P → OnErr r P
on_err_known (Ok x) known = tt
on_err_known (Err e) known = known

-- a space got its pages
pub space_changes : (s : ℕ) (pages : List Held) (m : DiskImage) → IsSameBut s m (with_space s pages m)
space_changes s pages m = record { mark = refl; others = λ q other. get_there m s q pages other }

-- the pages of a space were changed, if it is there
pub pages_change : (s : ℕ) (change : List Held → List Held) (m : DiskImage) → IsSameBut s m (record m { spaces = with_pages m.spaces s change })
pages_change s change m = at (finite.get m.spaces s)
  where
    at : (o : Option (List Held)) → IsSameBut s m (record m { spaces = changed m.spaces s change o })
    at None = record { mark = refl; others = λ q other. refl }
    at (Some pages) = space_changes s (change pages) m

module _ (s : ℕ) where
  pub changes_none : (told now : Option DiskImage) → now ≡ told → ChangesOnly s told now
  changes_none None now same = tt
  changes_none (Some m) now same = subst (λ (o : Option DiskImage). IsSomeAnd o (IsSameBut s m)) (sym same) (record { mark = refl; others = λ q other. refl })

  pub changes_by : (told now : Option DiskImage) (step : DiskImage → DiskImage) → ((m : DiskImage) → IsSameBut s m (step m)) → Steps told now step → ChangesOnly s told now
  changes_by None now step changes steps = tt
  changes_by (Some m) now step changes steps = subst (λ (o : Option DiskImage). IsSomeAnd o (IsSameBut s m)) (sym steps) (changes m)

  pub changes_then : (told mid now : Option DiskImage) → ChangesOnly s told mid → ChangesOnly s mid now → ChangesOnly s told now
  changes_then None mid now first second = tt
  changes_then (Some m) None now first second = absurd first
  changes_then (Some m) (Some k) None first second = second
  changes_then (Some m) (Some k) (Some n) first second = record { mark = second.mark ∙ first.mark; others = λ q other. second.others q other ∙ first.others q other }

  -- a page was written in part, and its write is open
  pub half_changes : {T : Type 0} (r : Result T Refusal) (told now : Option DiskImage) (n : ℕ) → (IsErrOf r Fault → Opens s n told now) → (IsErrOf r NoMemory → now ≡ told) → OnErr r (ChangesOnly s told now)
  half_changes r told now n fault memory =
      failed r
      (λ is. let opens = fault is in changes_by told now (λ m. with_page m s n (opened opens.0)) (pages_change s (edited n (opened opens.0))) opens.1)
      (λ is. changes_none told now (memory is))

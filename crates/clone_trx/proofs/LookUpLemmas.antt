-- A row is read: what there is against it, and the value that is found.
use Rattle.std.specs.FinMap as finite
use Rattle.clone_trx.proofs.Common.{◌≡◌, ◌%◌, ℕ, List, Option, Some, None, IsSome, refl, sym, ap, ◌∙◌, option_map, option_and_then, unwrap_or, same_Some, Commit, Image, page_of, Donor, row_locked, get_cause, Gets, own_value, value_of, held_value, page_number, IsKept}
use Rattle.clone_trx.proofs.CauseLemmas.{passed, trx_there, table_there, own_or_free}
use Rattle.clone_trx.proofs.KeySlotLemmas.{no_value, held_is, slot_there}
use Rattle.clone_trx.proofs.WalkedLemmas.{IsFoundSlot}

-- the page of a row's bucket, by its number in the space of its table
pub record Bucket (d : Donor) (table key number : ℕ) : Type 0 where
  pub count : ℕ
  pub there : finite.get d.tables table ≡ Some count
  pub is : number ≡ key % count

pub bucket : (d : Donor) (table key number : ℕ) → Some number ≡ option_map (λ count. key % count) (finite.get d.tables table) → Bucket d table key number
bucket d table key number is = at (finite.get d.tables table) refl is
  where
    at : (o : Option ℕ) → finite.get d.tables table ≡ o → Some number ≡ option_map (λ count. key % count) o → Bucket d table key number
    at None none same = absurd (let e = same in cc)
    at (Some count) some same = record { count = count; there = some; is = same_Some number (key % count) same }

pub number_is : (d : Donor) (table key number : ℕ) → Bucket d table key number → number ≡ page_number d table key
number_is d table key number b = b.is ∙ sym (ap (λ (o : Option ℕ). key % unwrap_or o 0) b.there)

module _ (d : Donor) (trx table key number : ℕ) (commit : Commit) (active : finite.get d.active trx ≡ Some commit) (b : Bucket d table key number) (free : row_locked d trx table key ≡ None) where
  pub no_cause : get_cause d trx table key ≡ None
  no_cause = passed (trx_there d trx commit active) ∙ passed (table_there d table b.count b.there) ∙ free

  -- the value that is found is the row's
  pub gets : (image : Image) (page : ℕ) (slot : Option ℕ) (row : List ℕ) (value : Option (List ℕ)) (kept : IsKept d image) → (IsSome (page_of image table page) → page_of image table page ≡ Some row) → IsFoundSlot d image table key b.count kept b.there page slot → value ≡ option_and_then (held_value row) slot → Gets d trx table key value
  gets image page slot row value kept shows found is =
      let own = own_value d trx commit (table, key) kept.sound.locked active (own_or_free trx (finite.get d.locks (table, key)) free) in
      record { commit = commit; was_active = active; is = is ∙ shown slot found ∙ own }
    where
      shown : (o : Option ℕ) → IsFoundSlot d image table key b.count kept b.there page o → option_and_then (held_value row) o ≡ value_of d table key
      shown None nowhere = sym (no_value d image table key kept nowhere)
      shown (Some slot_number) found = held_is d image table key kept page slot_number found row (shows (slot_there d image table key kept page slot_number found))

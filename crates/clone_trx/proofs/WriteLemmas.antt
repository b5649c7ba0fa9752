-- What a call has written, and what it leaves that was refused.
use Rattle.clone_trx.proofs.Common.{◌≡◌, ◌++◌, ◌∷◌, [], ℕ, true, false, List, sym, ap, subst, ◌∙◌, Option, None, Some, refl, IsTrue, OnOk, OnErr, is_some, Result, Ok, Err, is_err, Record, records_of_end, after_records, commit_records, position_record, Donor, IsKept, end_of, Buffered, image_of}
use Rattle.clone_law.specs.Since.{ends}
use Rattle.clone_buffer.specs.Writing as buffer
use Rattle.clone_buffer.proofs.WrittenLemmas.{replayed-push}

-- the image once a mini-transaction was written
pub written_image : (old new : Buffered) (records : List Record) → new ≡ buffer.written records old → image_of new ≡ after_records (end_of (ends old.log) records) (image_of old) records
written_image old new records is = ap image_of is ∙ replayed-push old.log records (end_of (ends old.log) records) refl

-- it keeps what the donor is, where the mini-transaction does so at any LSN
pub written_kept : (after : Donor) (old new : Buffered) (records : List Record) → new ≡ buffer.written records old → (IsTrue old.right → (lsn : ℕ) → IsKept after (after_records lsn (image_of old) records)) → IsTrue new.right → IsKept after (image_of new)
written_kept after old new records is keeps right =
    subst (IsKept after) (sym (written_image old new records is)) (keeps (subst IsTrue (ap (λ (b : Buffered). b.right) is) right) (end_of (ends old.log) records))

-- the records that are written
pub commit_written : (trx position : ℕ) (first second : Record) → first ∷ [] ≡ records_of_end trx → second ≡ position_record position → first ∷ second ∷ [] ≡ commit_records trx position
commit_written trx position first second one two = ap (λ (rs : List Record). rs ++ second ∷ []) one ∙ ap (λ (r : Record). records_of_end trx ++ r ∷ []) two

-- what a call leaves that was refused, or was not
pub refused : {T E P : Type 0} (r : Result T E) → is_err r ≡ true → OnErr r P → P
refused (Ok x) is p = absurd (let e = is in cc)
refused (Err x) is p = p

pub done : {T E P : Type 0} (r : Result T E) → is_err r ≡ false → OnOk r P → P
done (Ok x) is p = p
done (Err x) is p = absurd (let e = is in cc)

pub is_none : {X : Type 0} (o : Option X) → is_some o ≡ false → o ≡ None
is_none None is = refl
is_none (Some x) is = absurd (let e = is in cc)

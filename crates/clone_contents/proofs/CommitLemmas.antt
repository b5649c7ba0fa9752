-- A transaction commits, for the contents: it ends, and the position is written.
use Rattle.std.proofs.Common.{◌≡◌, ◌<◌, ◌^◌, ◌≤◌, ℕ, [], ◌∷◌, length, ap, ◌∙◌, arith, inr, Some}
use Rattle.clone_contents.proofs.Common.{big_bytes, length-bytes_high_first, position_at, field-put_at_same, dictionary-before, UndoSlot, records_of_end, Image, all_pages, after_records, Contents, contents_of, IsFormed, HasContents, commit_records, position_record, committed}
use Rattle.clone_contents.proofs.SystemLemmas.{system_long, system_written}
use Rattle.clone_space.specs.Writes.{WritesBefore}
use Rattle.clone_contents.proofs.UndoSlotLemmas.{end_is}

-- the position is written
pub position_written : (image : Image) (lsn position : ℕ) → IsFormed image → position < 2 ^ 64 → HasContents (after_records lsn image (position_record position ∷ [])) (record (contents_of image) { position = position })
position_written image lsn position formed fits =
    let piece = big_bytes 8 position in
    let eight : length piece ≡ 8 = length-bytes_high_first 8 position in
    let on : position_at ≤ length (all_pages image 0 0) = omega (arith, system_long image formed) in
    let writes : WritesBefore (record { offset = position_at; bytes = piece }) = record { allowed = (omega (arith, eight), inr (omega arith, omega (arith, eight))); before = omega (arith, eight) } in
    system_written image lsn position_at piece formed writes.allowed (contents_of image).dictionary position
    (dictionary-before lsn (record { offset = position_at; bytes = piece }) (all_pages image 0 0) writes (system_long image formed))
    (field-put_at_same position_at 8 position (all_pages image 0 0) on fits)

-- the transaction ends, and the position is written
pub commit_is : (image : Image) (lsn s position : ℕ) (slot : UndoSlot) → IsFormed image → s < 64 → (contents_of image).undo s ≡ Some slot → position < 2 ^ 64
    → HasContents (after_records lsn image (commit_records s position)) (committed s position (contents_of image))
commit_is image lsn s position slot formed small used fits =
    let ended = end_is image lsn s slot formed small used in
    let written = position_written (after_records lsn image (records_of_end s)) lsn position ended.0 fits in
    (written.0, written.1 ∙ ap (λ (c : Contents). record c { position = position }) ended.1)

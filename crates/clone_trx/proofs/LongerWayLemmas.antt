-- The way of a change that needs a new page: the dictionary is read, and a frame is taken.
use Rattle.std.specs.FinMap as finite
use Rattle.clone_space.specs.Entries.{Finds}
use Rattle.clone_trx.proofs.Common.{◌≡◌, ℕ, List, arith, sym, subst, Option, None, Some, IsTrue, unwrap_or, dictionary, entry_in, Buffered, image_of, past_count, replayed, Record, Image, page_of, contents_of, Donor, IsKept, TellsPages}
use Rattle.clone_trx.proofs.DictionaryLemmas.{tells_pages}

-- what is known of the image stays where the log stays
pub same_image : (P : Image → Type 0) (old new : Buffered) → new.log ≡ old.log → (IsTrue new.right → IsTrue old.right) → (IsTrue old.right → P (image_of old)) → IsTrue new.right → P (image_of new)
same_image P old new log before is right = subst (λ (ms : List (List Record)). P (replayed ms)) (sym log) (is (before right))

-- the page isn't there yet
pub new_absent : (image : Image) (table entry_number pages : ℕ) → TellsPages (contents_of image) table entry_number pages → page_of image table pages ≡ None
new_absent image table entry_number pages tells = past_count image table pages pages tells.1 pages (omega arith)

-- what the entry tells of the table's space
pub found_tells : (d : Donor) (image : Image) (table count entry_number : ℕ) (page : List ℕ) (found : Option ℕ) → IsKept d image → finite.get d.tables table ≡ Some count → page_of image 0 0 ≡ Some page → Finds table (dictionary page) found → entry_number ≡ unwrap_or found 0 → TellsPages (contents_of image) table entry_number (entry_in (dictionary page) entry_number).pages
found_tells d image table count entry_number page found kept there system finds is =
    subst (λ (p : ℕ). TellsPages (contents_of image) table p (entry_in (dictionary page) p).pages) (sym is) (tells_pages d image table count kept there page found system finds)

-- One page of a table is made or written, and its slots stay: all that changes of the contents is
-- the page behind it.
use Rattle.std.proofs.Common.{◌≡◌, ◌≢◌, ℕ, List, [], ◌∷◌, sym, ap, ◌∙◌, cond, Option, Some, None, unwrap_or, nat_lt}
use Rattle.clone_contents.proofs.Common.{AllByRecursion, field, position_at, dictionary, Record, slots, pages_after_record, Image, page_of, all_pages, after_records, EditsPages, records_counts, contents_of, IsFormed, HasContents}
use Rattle.clone_undo.proofs.Effects as undo
use Rattle.clone_contents.proofs.SameContents.{same_contents}
use Rattle.clone_contents.proofs.ImagePages.{page_kept, all_after}
use Rattle.clone_contents.proofs.FittingRecords.{FitsOn, all_edits, formed_after}
use Rattle.clone_contents.proofs.NextPages.{read_kept}
use Rattle.clone_contents.proofs.RowSlots.{slot_at}

pub record EditsTable (image : Image) (lsn : ℕ) (r : Record) (t n : ℕ) : Type 0 where
  pub formed : IsFormed image
  pub in_table : t ≢ 0
  pub page : List ℕ
  pub is_there : page_of image t n ≡ Some page
  pub fits : FitsOn r (all_pages image)
  pub others : (u m : ℕ) → (u ≡ t → m ≡ n → ⊥) → pages_after_record lsn r (all_pages image) u m ≡ all_pages image u m
  pub slots_stay : slots (pages_after_record lsn r (all_pages image) t n) ≡ slots (all_pages image t n)

module _ (image : Image) (lsn : ℕ) (r : Record) (t n : ℕ) (g : EditsTable image lsn r t n) where
  abbrev new : Image
  new = after_records lsn image (r ∷ [])

  edits : AllByRecursion EditsPages (r ∷ [])
  edits = all_edits lsn (r ∷ []) (all_pages image) (g.fits, tt)

  pub page_now : all_pages new t n ≡ pages_after_record lsn r (all_pages image) t n
  page_now = all_after lsn image (r ∷ []) t n g.page edits g.is_there

  pub all_kept : (u m : ℕ) → (u ≡ t → m ≡ n → ⊥) → all_pages new u m ≡ all_pages image u m
  all_kept u m apart = ap (λ (o : Option (List ℕ)). unwrap_or o []) (page_kept lsn image (r ∷ []) u m edits (g.others u m apart))

  system_page : (m : ℕ) → all_pages new 0 m ≡ all_pages image 0 m
  system_page m = all_kept 0 m (λ zero same. g.in_table (sym zero))

  slot_stays : (u m j : ℕ) → (contents_of new).slot u m j ≡ (contents_of image).slot u m j
  slot_stays u m j = slot_at image new u m j (read_kept slots image new t n (ap slots page_now ∙ g.slots_stay) (λ v k first apart. all_kept v k apart) u m)

  pub next_changes : (next : ℕ → ℕ → Option ℕ) → ((u m : ℕ) → (contents_of new).next u m ≡ next u m) → HasContents new (record (contents_of image) { next = next })
  next_changes next nexts = (
    formed_after lsn image (r ∷ []) g.formed (g.fits, tt),
    same_contents (contents_of new) (record (contents_of image) { next = next }) (ap dictionary (system_page 0)) (λ s. records_counts lsn image (r ∷ []) s edits) slot_stays nexts
        (λ s. ap (λ o. cond (nat_lt s 64) o None) (undo.own s (all_pages new 0) (all_pages image 0) (λ m from to. system_page m)))
        (ap (field position_at 8) (system_page 0)),
  )

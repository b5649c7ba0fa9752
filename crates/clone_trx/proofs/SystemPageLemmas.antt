-- The pages that calls read are there, where the image keeps what the donor is.
use Rattle.clone_undo.specs.Places.{header_page, record_page}
use Rattle.clone_trx.proofs.Common.{◌≡◌, ◌<◌, ℕ, sym, ap, subst, ◌∙◌, arith, Some, None, IsSome, is_some, List, false≢true, capacity, Image, page_of, IsFormed, system_size, page_there, TRANSACTION_LIMIT, Frame, Content, Unused, Fresh, Held, Loading, PageName, frame_at, name_in, Shown, Shows, Has}

pub system_there : (image : Image) (number : ℕ) → IsFormed image → number < system_size → IsSome (page_of image 0 number)
system_there image number formed low = ap is_some (page_there image 0 number (system_size, formed.size, low)).1

pub header_there : (image : Image) (trx : ℕ) → IsFormed image → trx < TRANSACTION_LIMIT → IsSome (page_of image 0 (header_page trx))
header_there image trx formed small = system_there image (header_page trx) formed (omega (arith, small))

pub record_there : (image : Image) (trx number : ℕ) → IsFormed image → trx < TRANSACTION_LIMIT → number < capacity → IsSome (page_of image 0 (record_page trx number))
record_there image trx number formed small low = system_there image (record_page trx number) formed (omega (arith, small, low))

-- the page in a frame is the one of the image, which is there
pub page_shown : (image : Image) (frames : List Frame) (page : PageName) (at : ℕ) → Shows image frames → Has page at frames → IsSome (page_of image page.space page.number) → page_of image page.space page.number ≡ Some (frame_at frames at).page
page_shown image frames page at shows has there = by (frame_at frames at).content has.holder.name (shows at)
  where
    by : (content : Content) → name_in content ≡ Some page → Shown image content (frame_at frames at).page → page_of image page.space page.number ≡ Some (frame_at frames at).page
    by Unused name shown = let none : None ≡ Some page = name in absurd (cc)
    by (Loading other) name shown = let none : None ≡ Some page = name in absurd (cc)
    by (Fresh other) name shown =
        let same : other ≡ page = cc in
        let gone : page_of image page.space page.number ≡ None = subst (λ (p : PageName). page_of image p.space p.number ≡ None) same shown.0 in
        absurd (false≢true (sym (ap is_some gone) ∙ there))
    by (Held other) name shown = let same : other ≡ page = cc in subst (λ (p : PageName). page_of image p.space p.number ≡ Some (frame_at frames at).page) same shown

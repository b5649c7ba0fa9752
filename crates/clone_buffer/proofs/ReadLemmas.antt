-- What was read of a page, and the pages whose write counts as open.
use Rattle.std.proofs.Common.{◌≡◌, ◌<◌, ◌^◌, ◌&&◌, inl, inr, ℕ, Bool, true, false, List, slice_get, refl, sym, ap, subst, ◌∙◌, arith, Option, Some, None, option_map, option_and_then, IsSome, IfSome, IsTrue, if◌then◌else◌}
use Rattle.clone_buffer.proofs.Common.{false≢true, true≢false, DiskImage, ForTold, GivesQuiet, replayed, stands, redone, ends, Frame, Flush, PageName, frame_at, name_of, is_fresh, holder, Buffered, IsBuffer, Beside, disk_standing, is_open, frame_in, frame_of, flight_of, IsKeptPage, IsKept}
use Rattle.std.specs.FinMap as finite
use Rattle.std.specs.List.{Contains}
use Rattle.clone_outside.specs.Disk as disk
use Rattle.clone_outside.specs.declared.disk.Held.{Held}
use Rattle.clone_image.specs.Image.{page_of}
use Rattle.clone_law.specs.Machine.{Stands}
use Rattle.clone_pool.specs.declared.frame.Flush.TheVariants as flush
use Rattle.clone_pool.specs.Frames.{counts_as_open, open_page}
use Rattle.clone_pool.specs.Pool.{AreOpenPages}
use Rattle.clone_buffer.specs.OnePage.{bytes_in, flush_in, standing_at, standing_in, engine_of}
use Rattle.clone_buffer.specs.Reading.{OthersAreClosed, IsLatest, ReadsLatest, FileReadAllowed}
use Rattle.clone_buffer.proofs.FrameLemmas.{holder_name}
use Rattle.clone_buffer.proofs.ShownLemmas.{stands_there, shown_held}
use Rattle.clone_buffer.proofs.PageLemmas.{on_disk, read_bytes, spaced}

-- The pages whose write counts as open.

open_is : (f : Frame) (page : PageName) → counts_as_open f.flush ≡ true → name_of f ≡ Some page → open_page f ≡ Some (page.space, page.number)
open_is f page counts name = λ i. if counts i then option_map (λ (n : PageName). (n.space, n.number)) (name i) else None

-- a page whose frame's write counts as open is listed
counted_listed : (frames : List Frame) (pages : List (ℕ × ℕ)) (page : PageName) → AreOpenPages frames pages → counts_as_open (flush_in (frame_of frames page.space page.number)) ≡ true → Contains pages (page.space, page.number)
counted_listed frames pages page listed counts = by (holder frames page) refl counts
  where
    old : (at : ℕ) → holder frames page ≡ Some at → (b : Bool) → counts_as_open (flush_in (if b then None else Some (frame_at frames at))) ≡ true → Contains pages (page.space, page.number)
    old at is true counts = absurd (false≢true counts)
    old at is false counts = (listed.exact (page.space, page.number)).1 (at, open_is (frame_at frames at) page counts (holder_name frames page at is).1)

    by : (o : Option ℕ) → holder frames page ≡ o → counts_as_open (flush_in (frame_in frames o)) ≡ true → Contains pages (page.space, page.number)
    by None is counts = absurd (false≢true counts)
    by (Some at) is counts = old at is (is_fresh (frame_at frames at).content) counts

not_true : (b : Bool) → (b ≡ true → ⊥) → b ≡ false
not_true true never = absurd (never refl)
not_true false never = refl

grounded : (f : Flush) (image : Option (List ℕ)) → counts_as_open f ≡ false → flight_of f image ≡ None
grounded flush.Idle image is = refl
grounded (flush.Begun later) image is = absurd (true≢false is)
grounded flush.Failed image is = refl

pub others_closed : (v : Buffered) (beside : Beside) (m : DiskImage) (pages : List (ℕ × ℕ)) → AreOpenPages v.pool.frames pages → IsKept v beside m → OthersAreClosed v beside m pages
others_closed v beside m pages listed k space number unlisted =
    let frame : Option Frame = frame_of v.pool.frames space number in
    let page : PageName = record { space = space; number = number } in
    let idle : counts_as_open (flush_in frame) ≡ false = not_true (counts_as_open (flush_in frame)) (λ counts. unlisted (counted_listed v.pool.frames pages page listed counts)) in
    record {
      closed = not_true (engine_of v beside m space number).writing (λ writing. true≢false (sym ((k.page space number).opened writing) ∙ idle));
      grounded = grounded (flush_in frame) (beside.image space number) idle;
    }

-- Reads.

there_is : {X : Type 0} (o : Option X) → IsSome o → (x : X) × (o ≡ Some x)
there_is None there = absurd (false≢true there)
there_is (Some x) there = (x, refl)

small : (v : Buffered) → IsBuffer v → ends v.log < 2 ^ 64
small v b = omega (arith, b.below)

shut : (b : Bool) → (b && true) ≡ false → b ≡ false
shut true is = absurd (true≢false is)
shut false is = refl

-- a page that is on the disk stands there with its bytes
standing : (m : DiskImage) (space number : ℕ) (held : Held) → disk.page_of m space number ≡ Some held → disk_standing m space number ≡ stands held.bytes
standing m space number held is = by (finite.get m.spaces space) is
  where
    by : (o : Option (List Held)) → option_and_then (λ pages. slice_get pages number) o ≡ Some held → standing_in o number ≡ stands held.bytes
    by None none = absurd (cc)
    by (Some pages) there = ap standing_at there

pub file_read_allowed : FileReadAllowed
file_read_allowed v beside m space number bytes b k has there quiet =
    let held = there_is (disk.page_of m space number) there in
    let said : held.0.writing ≡ false → bytes ≡ held.0.bytes = subst (λ (o : Option Held). IfSome o (λ h. h.writing ≡ false → bytes ≡ h.bytes)) held.1 quiet in (
      has,
      λ writing.
          let closed : is_open (disk.page_of m space number) ≡ false = shut (is_open (disk.page_of m space number)) (sym (ap (λ (x : Bool). is_open (disk.page_of m space number) && x) (spaced (redone space number v.log) has)) ∙ writing) in
          standing m space number held.0 held.1 ∙ ap stands (sym (said (sym (ap is_open held.1) ∙ closed))),
    )

-- a page that a frame has is the image's
pub frame_shows : (v : Buffered) (space number : ℕ) (bytes : List ℕ) → IsBuffer v → IsTrue v.right → bytes_in (frame_of v.pool.frames space number) ≡ Some bytes → page_of (replayed v.log) space number ≡ Some bytes
frame_shows v space number bytes b right is = by (holder v.pool.frames page) refl is
  where
    page : PageName
    page = record { space = space; number = number }

    old : (at : ℕ) → holder v.pool.frames page ≡ Some at → (fresh : Bool) → is_fresh (frame_at v.pool.frames at).content ≡ fresh → bytes_in (if fresh then None else Some (frame_at v.pool.frames at)) ≡ Some bytes → page_of (replayed v.log) space number ≡ Some bytes
    old at held true fresh none = absurd (cc)
    old at held false made is =
        let f : Frame = frame_at v.pool.frames at in
        shown_held (replayed v.log) f.page page f.content (b.shows right at) (holder_name v.pool.frames page at held).1 made ∙ is

    by : (o : Option ℕ) → holder v.pool.frames page ≡ o → bytes_in (frame_in v.pool.frames o) ≡ Some bytes → page_of (replayed v.log) space number ≡ Some bytes
    by None held none = absurd (cc)
    by (Some at) held is = old at held (is_fresh (frame_at v.pool.frames at).content) refl is

module _ (v : Buffered) (beside : Beside) (m : DiskImage) (space number : ℕ) (bytes : List ℕ) (b : IsBuffer v) (k : IsKept v beside m) where
  pub latest_framed : bytes_in (frame_of v.pool.frames space number) ≡ Some bytes → IsLatest v beside m space number bytes
  latest_framed is = record { page = frame_shows v space number bytes b k.right is; allowed = inl is }

  pub latest_read : frame_of v.pool.frames space number ≡ None → IsSome (page_of (replayed v.log) space number) → GivesQuiet m space number bytes → IsLatest v beside m space number bytes
  latest_read bare made quiet =
      let page = there_is (page_of (replayed v.log) space number) made in
      let stood : redone space number v.log ≡ stands page.0 = stands_there v.log space number page.0 (small v b) page.1 in
      let had : IsKeptPage v.log beside m space number None = subst (IsKeptPage v.log beside m space number) bare (k.page space number) in
      let same : bytes ≡ page.0 = read_bytes v.log beside m space number page.0 bytes had stood quiet in
      record {
        page = page.1 ∙ ap Some (sym same);
        allowed = inr (ap bytes_in bare, (on_disk v.log beside m space number page.0 had stood).0 ∙ ap stands (sym same), subst Stands (sym stood) tt);
      }

unframed : (frame : Option Frame) → bytes_in frame ≡ None → frame ≡ None
unframed None is = refl
unframed (Some f) is = absurd (cc)

-- a page without a frame, as the disk gives it
pub reads_latest : (v : Buffered) (told : Option DiskImage) (space number : ℕ) (bytes : List ℕ) → IsBuffer v → bytes_in (frame_of v.pool.frames space number) ≡ None → ForTold told (λ m. GivesQuiet m space number bytes) → ReadsLatest v told space number bytes
reads_latest v None space number bytes b bare quiet = tt
reads_latest v (Some m) space number bytes b bare quiet = λ beside k made. latest_read v beside m space number bytes b k (unframed (frame_of v.pool.frames space number) bare) made quiet

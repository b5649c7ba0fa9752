-- What a mini-transaction does to a buffer.
use Rattle.std.specs.Prelude.{ℕ, Bool, true, false, ◌≡◌, ◌≢◌, IsTrue, replicate, if◌then◌else◌, ◌≤◌, ◌<◌, ◌+◌, ◌++◌, List, [], ◌∷◌, length, None, Some, IsSome, IfSome, Result, Ok, Err, option_and_then}
use Rattle.std.specs.declared.option.Option.{Option}
use Rattle.std.specs.List.{AllByRecursion}
use Rattle.clone_mtr.specs.declared.record.Record.{Record}
use Rattle.clone_mtr.specs.Spelling.{spelling}
use Rattle.std.specs.FinMap as finite
use Rattle.clone_outside.specs.Disk as disk
use Rattle.clone_outside.specs.Disk.{DiskImage}
use Rattle.clone_page.specs.Header.{zero_page}
use Rattle.clone_mtr.specs.declared.record.Record.TheVariants.{Init, Write, Extend, Create, Drop}
use Rattle.clone_image.specs.Image.{Image, page_of, with_edit, extended, page_count, EditsPages}
use Rattle.clone_ring.specs.Window.{appended, end_of, free_in}
use Rattle.clone_ring.specs.declared.log_full.LogFull.{LogFull}
use Rattle.clone_pool.specs.declared.frame.Frame.{Frame}
use Rattle.clone_pool.specs.declared.frame.Content.TheVariants.{Fresh, Held}
use Rattle.clone_pool.specs.declared.frame.PageName.{PageName}
use Rattle.clone_pool.specs.Index.{is_name_of}
use Rattle.clone_pool.specs.Frames.{frame_at, holder, page_changed, changed}
use Rattle.clone_pool.specs.Pool.{Frames, with_frame}
use Rattle.clone_buffer.specs.Buffered.{Buffered, image_of}
use Rattle.clone_buffer.specs.OnePage.{Beside, after_create}

-- the frame of the page that the record names, if it has one
abbrev pub named_frame : List Frame → Record → Option ℕ
named_frame frames r = option_and_then (λ page. holder frames page) (page_changed r)

-- A record of the mini-transaction from start to end changes the page in its frame.
abbrev pub changed_at : Option ℕ → Record → ℕ → ℕ → Frames → Frames
changed_at None r start end v = v
changed_at (Some at) r start end v = with_frame at (λ f. changed r start end f) v

-- records in their order
abbrev pub after_records : List Record → ℕ → ℕ → Frames → Frames
after_records [] start end v = v
after_records (r ∷ rs) start end v =
    after_records rs start end (changed_at (named_frame v.frames r) r start end v)

-- the page that the record names has a frame
abbrev pub HasFrame : List Frame → Record → Type 0
HasFrame frames r = IfSome (page_changed r) (λ page. IsSome (holder frames page))

-- the page that the record names is there
abbrev pub IsOnPage : Image → Record → Type 0
IsOnPage image r = IfSome (page_changed r) (λ page. IsSome (page_of image page.space page.number))

-- a record names the page
abbrev pub any_names : PageName → List Record → Bool
any_names page [] = false
any_names page (r ∷ rs) = if is_name_of page (page_changed r) then true else any_names page rs

-- The space that a mini-transaction makes isn't there yet. Its other records change pages that are
-- there then, each in its frame. No frame holds a page of the space, and each new page of it that
-- has a frame is named.
pub record MakesSpace (v : Buffered) (space pages : ℕ) (rest : List Record) : Type 0 where
  pub absent : IsTrue v.right → finite.get (image_of v) space ≡ None
  pub edits : AllByRecursion EditsPages rest
  pub there : IsTrue v.right
      → AllByRecursion
      (IsOnPage (finite.insert (image_of v) space (replicate pages zero_page))) rest
  pub unheld : (at : ℕ) (name : PageName) → (frame_at v.pool.frames at).content ≡ Held name
      → name.space ≢ space
  pub framed : AllByRecursion (HasFrame v.pool.frames) rest
  pub named : (at : ℕ) (name : PageName) → (frame_at v.pool.frames at).content ≡ Fresh name
      → name.space ≡ space → name.number < pages → any_names name rest ≡ true

-- the first record makes a space
abbrev pub Creates : Buffered → List Record → Type 0
Creates v [] = ⊥
Creates v (Init space number kind ∷ rest) = ⊥
Creates v (Write space number patch ∷ rest) = ⊥
Creates v (Extend space pages ∷ rest) = ⊥
Creates v (Create space pages ∷ rest) = MakesSpace v space pages rest
Creates v (Drop space ∷ rest) = ⊥

-- A space that is there gets so many pages, if it has fewer. The records before that change pages
-- that are there, and those behind it pages that are there then. They change each new page, and
-- each page that they change has a frame.
pub record Lengthens (v : Buffered) (records : List Record) : Type 0 where
  pub front : List Record
  pub space : ℕ
  pub pages : ℕ
  pub rest : List Record
  pub is : records ≡ front ++ Extend space pages ∷ rest
  pub edits : AllByRecursion EditsPages front × AllByRecursion EditsPages rest
  pub framed : AllByRecursion (HasFrame v.pool.frames) records
  pub before : AllByRecursion (IsOnPage (image_of v)) front
  pub behind : AllByRecursion (IsOnPage (with_edit (image_of v) space (extended pages))) rest
  pub count : ℕ
  pub size : page_count (image_of v) space ≡ Some count
  pub named : (number : ℕ) → count ≤ number → number < pages
      → any_names (record { space = space; number = number }) rest ≡ true

-- the disk has the space that the records make, with quiet pages of zero bytes
abbrev pub HasMade : List Record → DiskImage → Type 0
HasMade [] m = ⊥
HasMade (Init space number kind ∷ rest) m = ⊥
HasMade (Write space number patch ∷ rest) m = ⊥
HasMade (Extend space pages ∷ rest) m = ⊥
HasMade (Create space pages ∷ rest) m =
    finite.get m.spaces space ≡ Some (replicate pages disk.zero_page)
HasMade (Drop space ∷ rest) m = ⊥

-- what is kept beside a buffer after the records have made their space
abbrev pub with_made : List Record → Beside → Beside
with_made (Create space pages ∷ rest) beside =
    record beside { copy = after_create space pages beside.copy }
with_made records beside = beside

-- The mini-transaction stands behind the log, in the ring too, and its records have changed the
-- frames of the pages that they name.
abbrev pub written : List Record → Buffered → Buffered
written records v = record {
  log = v.log ++ records ∷ [];
  right = v.right;
  ring = appended (spelling records) v.ring;
  pool = after_records records (end_of v.ring) (end_of v.ring + length (spelling records)) v.pool;
}

-- A mini-transaction was written, or there was no room in the ring, and nothing has changed.
abbrev pub Writes : List Record → Buffered → Buffered → Result ℕ LogFull → Type 0
Writes records old new (Ok end) =
    (length (spelling records) ≤ free_in old.ring) × (new ≡ written records old)
    × (end ≡ end_of new.ring)
Writes records old new (Err full) =
    (free_in old.ring < length (spelling records))
    × (full ≡ record { need = length (spelling records); free = free_in old.ring }) × (new ≡ old)

-- A mini-transaction in which records that change pages stand around one record of a space.
use Rattle.std.proofs.Common.{◌≡◌, ◌≢◌, ◌+◌, ◌==◌, ◌++◌, ◌⊎◌, inl, inr, ℕ, Bool, true, false, List, [], ◌∷◌, length, refl, sym, ap, subst, ◌∙◌, None, Option, option_and_then, IsSome, IsTrue, if◌then◌else◌}
use Rattle.clone_buffer.proofs.Common.{false≢true, true≢false, eqb-true, AllByRecursion, DiskImage, Record, spelling, Image, EditsPages, replayed, Standing, stands, redone, ends, touches, names, resets, passes_by, passes, edits, PageName, is_name_of, frame_at, holder, Frames, IsPool, Buffered, IsBuffer, Shows, Beside, after_records, HasFrame, any_names, written}
use Rattle.clone_image.specs.Image as image_is
use Rattle.clone_image.specs.Image.{page_of, after_record}
use Rattle.clone_image.specs.Replay.{end_of}
use Rattle.clone_law.specs.Touches.{Touch, touch, becomes, reaches, applied, Sound, Ordered}
use Rattle.clone_ring.specs.Window as ring
use Rattle.clone_pool.specs.Frames.{page_changed}
use Rattle.clone_buffer.specs.Writing.{changed_at}
use Rattle.clone_buffer.proofs.WriteLemmas.{step, Once, Ready, holder-after, name_at-after, shows_records, of_named, applied_passing, unnamed_all, passes_all, resets_none}
use Rattle.clone_buffer.proofs.WrittenLemmas.{replayed-push, KeptAt, passed, renewed_there}

-- Lists of records, one behind the other.

touches-append : (end space number : ℕ) (front back : List Record) → touches end space number (front ++ back) ≡ touches end space number front ++ touches end space number back
touches-append end space number [] back = refl
touches-append end space number (r ∷ front) back = ap (λ ts. touch end space number r ∷ ts) (touches-append end space number front back)

frames-append : (front back : List Record) (start end : ℕ) (v : Frames) → after_records (front ++ back) start end v ≡ after_records back start end (after_records front start end v)
frames-append [] back start end v = refl
frames-append (r ∷ front) back start end v = frames-append front back start end (step r start end v)

image-append : (front back : List Record) (end : ℕ) (image : Image) → image_is.after_records end image (front ++ back) ≡ image_is.after_records end (image_is.after_records end image front) back
image-append [] back end image = refl
image-append (r ∷ front) back end image = image-append front back end (after_record end image r)

-- a page that neither part names, or that one of them does
pub unnamed_apart : (page : PageName) (front back : List Record) → any_names page (front ++ back) ≡ false → (any_names page front ≡ false) × (any_names page back ≡ false)
unnamed_apart page [] back miss = (refl, miss)
unnamed_apart page (r ∷ front) back miss = by (is_name_of page (page_changed r)) (unnamed_apart page front back) miss
  where
    by : (t : Bool) → (any_names page (front ++ back) ≡ false → (any_names page front ≡ false) × (any_names page back ≡ false)) → (if t then true else any_names page (front ++ back)) ≡ false
        → ((if t then true else any_names page front) ≡ false) × (any_names page back ≡ false)
    by true rest miss = absurd (true≢false miss)
    by false rest miss = rest miss

pub named_apart : (page : PageName) (front back : List Record) → any_names page (front ++ back) ≡ true → (any_names page front ≡ true) ⊎ (any_names page back ≡ true)
named_apart page [] back hits = inr hits
named_apart page (r ∷ front) back hits = by (is_name_of page (page_changed r)) (named_apart page front back) hits
  where
    by : (t : Bool) → (any_names page (front ++ back) ≡ true → (any_names page front ≡ true) ⊎ (any_names page back ≡ true)) → (if t then true else any_names page (front ++ back)) ≡ true
        → ((if t then true else any_names page front) ≡ true) ⊎ (any_names page back ≡ true)
    by true rest hits = inl refl
    by false rest hits = rest hits

pub named_behind : (page : PageName) (front back : List Record) → any_names page back ≡ true → any_names page (front ++ back) ≡ true
named_behind page [] back hits = hits
named_behind page (r ∷ front) back hits = by (is_name_of page (page_changed r)) (named_behind page front back hits)
  where
    by : (t : Bool) → any_names page (front ++ back) ≡ true → (if t then true else any_names page (front ++ back)) ≡ true
    by true rest = refl
    by false rest = rest

-- What a page sees.

resets-append : (ts us : List Touch) → resets ts ≡ false → resets us ≡ false → resets (ts ++ us) ≡ false
resets-append [] us a b = b
resets-append (passes ∷ ts) us a b = resets-append ts us a b
resets-append (edits f ∷ ts) us a b = resets-append ts us a b
resets-append (becomes s ∷ ts) us a b = absurd (true≢false a)
resets-append (reaches s ∷ ts) us a b = resets-append ts us a b

-- what holds behind touches that pass by, holds with them
pub past : (P : List Touch → Type 0) → ((us : List Touch) → P us → P (passes ∷ us)) → (ts us : List Touch) → passes_by ts ≡ true → P us → P (ts ++ us)
past P on [] us passing p = p
past P on (passes ∷ ts) us passing p = on (ts ++ us) (past P on ts us passing p)
past P on (edits f ∷ ts) us passing p = absurd (false≢true passing)
past P on (becomes s ∷ ts) us passing p = absurd (false≢true passing)
past P on (reaches s ∷ ts) us passing p = absurd (false≢true passing)

-- nothing but the first touch counts
applied_first : (v : Standing) (x : Touch) (ts : List Touch) → names (x ∷ []) ≡ false → passes_by ts ≡ true → applied v (x ∷ ts) ≡ applied v (x ∷ [])
applied_first v passes ts unnamed passing = applied_passing v ts passing
applied_first v (edits f) ts unnamed passing = absurd (true≢false unnamed)
applied_first v (becomes s) ts unnamed passing = applied_passing s ts passing
applied_first v (reaches s) ts unnamed passing = applied_passing _ ts passing

-- edits meet a page that stands
pub edits_sound : (bytes : List ℕ) (ts : List Touch) → resets ts ≡ false → Sound (stands bytes) ts × Ordered ts
edits_sound bytes [] calm = (tt, tt)
edits_sound bytes (passes ∷ ts) calm = edits_sound bytes ts calm
edits_sound bytes (edits f ∷ ts) calm = ((edits_sound bytes ts calm).0, calm)
edits_sound bytes (becomes s ∷ ts) calm = absurd (true≢false calm)
edits_sound bytes (reaches s ∷ ts) calm = edits_sound bytes ts calm

-- another space
pub other_space : (space s : ℕ) → s ≢ space → (space == s) ≡ false
other_space space s other = by (space == s) refl
  where
    by : (t : Bool) → (space == s) ≡ t → t ≡ false
    by false is = refl
    by true is = absurd (other (sym (eqb-true space s is)))

-- What the frames show, where they are ready for the records behind that of the space.
module _ (v : Buffered) (front rest : List Record) (r : Record) where
  abbrev whole : List Record
  whole = front ++ r ∷ rest

  abbrev start : ℕ
  start = ring.end_of v.ring

  abbrev stop : ℕ
  stop = ring.end_of v.ring + length (spelling whole)

  -- the frames and the pages before the record of the space
  abbrev pub mid_frames : Frames
  mid_frames = after_records front start stop v.pool

  abbrev pub mid_image : Image
  mid_image = image_is.after_records stop (replayed v.log) front

  pub shows_around : IsPool v.pool → IsBuffer v → page_changed r ≡ None → AllByRecursion EditsPages rest
      → ((at : ℕ) → Ready (after_record stop mid_image r) rest (frame_at mid_frames.frames at).content (frame_at mid_frames.frames at).page)
      → Shows (replayed (v.log ++ whole ∷ [])) (written whole v).pool.frames
  shows_around p b unnamed only ready =
      subst (λ (i : Image). Shows i (written whole v).pool.frames) (sym (replayed-push v.log whole stop (ap (λ (n : ℕ). n + length (spelling whole)) b.end) ∙ image-append front (r ∷ rest) stop (replayed v.log)))
      (subst (λ (w : Frames). Shows last w.frames) (sym (frames-append front (r ∷ rest) start stop v.pool ∙ ap (after_records rest start stop) still)) (shows_records rest (after_record stop mid_image r) mid_frames start stop only once ready))
    where
      last : Image
      last = image_is.after_records stop (after_record stop mid_image r) rest

      still : step r start stop mid_frames ≡ mid_frames
      still = ap (λ (o : Option PageName). changed_at (option_and_then (λ page. holder mid_frames.frames page) o) r start stop mid_frames) unnamed

      once : Once mid_frames.frames
      once page at is = holder-after front start stop v.pool page ∙ p.once page at (sym (name_at-after front start stop v.pool at) ∙ is)

module _ (v : Buffered) (beside : Beside) (m : DiskImage) (front rest : List Record) (r : Record) (p : IsPool v.pool) (b : IsBuffer v) (after : IsBuffer (written (front ++ r ∷ rest) v)) (right : IsTrue v.right)
    (first : AllByRecursion EditsPages front) (last : AllByRecursion EditsPages rest) (framed : AllByRecursion (HasFrame v.pool.frames) (front ++ r ∷ rest)) where
  abbrev records : List Record
  records = front ++ r ∷ rest

  abbrev end : ℕ
  end = end_of (ends v.log) records

  -- what the page sees of the record of the space
  abbrev sees : ℕ → ℕ → Touch
  sees space number = touch end space number r

  -- what it sees of all records
  pub in_touches : (P : List Touch → Type 0) (space number : ℕ) → P (touches end space number front ++ sees space number ∷ touches end space number rest) → P (touches end space number records)
  in_touches P space number p = subst P (sym (touches-append end space number front (r ∷ rest))) p

  pub frame_there : (page : PageName) → any_names page records ≡ true → IsSome (holder v.pool.frames page)
  frame_there page hits = of_named (λ q. IsSome (holder v.pool.frames q)) page records hits framed

  -- a page that the record of the space leaves as it is
  pub other_page : (space number : ℕ) → resets (sees space number ∷ []) ≡ false → applied (redone space number v.log) (sees space number ∷ []) ≡ redone space number v.log
      → (any_names (record { space = space; number = number }) records ≡ true → IsSome (page_of (replayed v.log) space number)) → KeptAt v beside m space number → KeptAt (written records v) beside m space number
  other_page space number calm leaves on kept = by (any_names page records) refl
    where
      page : PageName
      page = record { space = space; number = number }

      by : (t : Bool) → any_names page records ≡ t → KeptAt (written records v) beside m space number
      by true hits =
          let behind = resets-append (sees space number ∷ []) (touches end space number rest) calm (resets_none end space number rest last) in
          renewed_there v beside m records p b after right space number hits (frame_there page hits) (in_touches (λ ts. resets ts ≡ false) space number (resets-append (touches end space number front) _ (resets_none end space number front first) behind)) (on hits) kept
      by false miss =
          let apart = unnamed_apart page front (r ∷ rest) miss in
          let behind = unnamed_apart page (r ∷ []) rest apart.1 in
          let one = applied_first (redone space number v.log) (sees space number) (touches end space number rest) (unnamed_all end space number (r ∷ []) behind.0) (passes_all end space number rest last behind.1) ∙ leaves in
          passed v beside m records p b after right space number miss
          (in_touches (λ ts. applied (redone space number v.log) ts ≡ redone space number v.log) space number (past (λ ts. applied (redone space number v.log) ts ≡ redone space number v.log) (λ ts is. is) (touches end space number front) _ (passes_all end space number front first apart.0) one)) kept

  -- a page of another space
  pub elsewhere : (space number : ℕ) → sees space number ≡ passes → (any_names (record { space = space; number = number }) records ≡ true → IsSome (page_of (replayed v.log) space number)) → KeptAt v beside m space number → KeptAt (written records v) beside m space number
  elsewhere space number is on kept = other_page space number (ap (λ (x : Touch). resets (x ∷ [])) is) (ap (λ (x : Touch). applied (redone space number v.log) (x ∷ [])) is) on kept

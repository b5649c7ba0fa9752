-- What the records of a mini-transaction do to the frames, and to the pages that they show.
use Rattle.std.proofs.Common.{◌≡◌, ◌<◌, ◌≤◌, ◌⊎◌, inl, inr, ◌&&◌, ◌==◌, ℕ, Bool, true, false, List, [], ◌∷◌, length, set, map, refl, sym, ap, subst, ◌∙◌, Option, Some, None, option_map, option_and_then, unwrap_or, IsSome, IfSome, if◌then◌else◌, get_or}
use Rattle.clone_buffer.proofs.Common.{Standing, cases_lt, false≢true, true≢false, and_parts, eqb-true, get_or-set_same, get_or-set_other, AllByRecursion, effect, Record, Image, EditsPages, zero_page, page_of-edited_same, touches, names, resets, passes_by, edits, passes, Frame, Content, Unused, Fresh, Loading, Flush, PageName, is_name_of, no_frame, frame_at, name_in, name_of, is_fresh, holder, noted, Frames, named, is_own_name, Shown, Shows, after_records, IsOnPage, any_names}
use Rattle.std.proofs.lemmas.List.{map-set, set_past, set-get_or}
use Rattle.std.proofs.Math.ListN.{get_or-map}
use Rattle.clone_mtr.specs.declared.record.Record.TheVariants as record_is
use Rattle.clone_image.specs.Image.{page_of, with_edit, edited, after_record}
use Rattle.clone_image.specs.Image as image_is
use Rattle.clone_undo.specs.Changes as undo
use Rattle.clone_image.specs.Redone as standing
use Rattle.clone_image.proofs.Pages.{records_pages}
use Rattle.clone_image.proofs.Images.{page_of-edited_other}
use Rattle.clone_law.specs.Touches.{Touch, becomes, reaches, applied}
use Rattle.clone_pool.specs.declared.frame.Content.TheVariants.{Held}
use Rattle.clone_pool.specs.declared.frame.Flush.TheVariants as flush
use Rattle.clone_pool.specs.Index.{frame_number_of}
use Rattle.clone_pool.specs.Frames.{page_changed, changed, made}
use Rattle.clone_buffer.specs.Writing.{named_frame, changed_at}
use Rattle.clone_buffer.proofs.FrameLemmas.{holder_name, no_name, some_name}
use Rattle.clone_buffer.proofs.ShownLemmas.{shown_named}

-- no page has two frames
abbrev pub Once : List Frame → Type 0
Once frames = (page : PageName) (at : ℕ) → name_of (frame_at frames at) ≡ Some page → holder frames page ≡ Some at

-- the frames after one record
abbrev pub step : Record → ℕ → ℕ → Frames → Frames
step r start end v = changed_at (named_frame v.frames r) r start end v

name_in-made : (content : Content) → name_in (made content) ≡ name_in content
name_in-made Unused = refl
name_in-made (Fresh name) = refl
name_in-made (Held name) = refl
name_in-made (Loading name) = refl

-- the names stay
names_at : (o : Option ℕ) (r : Record) (start end : ℕ) (v : Frames) → map name_of (changed_at o r start end v).frames ≡ map name_of v.frames
names_at None r start end v = refl
names_at (Some at) r start end v = by (cases_lt at (length v.frames))
  where
    f : Frame
    f = frame_at v.frames at

    by : (at < length v.frames) ⊎ (length v.frames ≤ at) → map name_of (set v.frames at (changed r start end f)) ≡ map name_of v.frames
    by (inl low) = map-set name_of v.frames at (changed r start end f) ∙ ap (set (map name_of v.frames) at) (name_in-made f.content ∙ sym (get_or-map name_of v.frames at no_frame)) ∙ set-get_or (map name_of v.frames) at None
    by (inr past) = ap (map name_of) (set_past v.frames at (changed r start end f) past)

pub holder-step : (r : Record) (start end : ℕ) (v : Frames) (page : PageName) → holder (step r start end v).frames page ≡ holder v.frames page
holder-step r start end v page = ap (frame_number_of page) (names_at (named_frame v.frames r) r start end v)

names-after : (rs : List Record) (start end : ℕ) (v : Frames) → map name_of (after_records rs start end v).frames ≡ map name_of v.frames
names-after [] start end v = refl
names-after (r ∷ rs) start end v = names-after rs start end (step r start end v) ∙ names_at (named_frame v.frames r) r start end v

pub holder-after : (rs : List Record) (start end : ℕ) (v : Frames) (page : PageName) → holder (after_records rs start end v).frames page ≡ holder v.frames page
holder-after rs start end v page = ap (frame_number_of page) (names-after rs start end v)

pub name_at-after : (rs : List Record) (start end : ℕ) (v : Frames) (b : ℕ) → name_of (frame_at (after_records rs start end v).frames b) ≡ name_of (frame_at v.frames b)
name_at-after rs start end v b = sym (get_or-map name_of (after_records rs start end v).frames b no_frame) ∙ ap (λ names. get_or names b None) (names-after rs start end v) ∙ get_or-map name_of v.frames b no_frame

-- What becomes of one frame.

-- the records that name the page change it
abbrev pub changed_by : PageName → List Record → ℕ → ℕ → Frame → Frame
changed_by page [] start end f = f
changed_by page (r ∷ rs) start end f = changed_by page rs start end (if is_name_of page (page_changed r) then changed r start end f else f)

frame-step : (r : Record) (start end : ℕ) (v : Frames) (page : PageName) (b : ℕ) → holder v.frames page ≡ Some b → frame_at (step r start end v).frames b ≡ (if is_name_of page (page_changed r) then changed r start end (frame_at v.frames b) else frame_at v.frames b)
frame-step r start end v page b held = by (page_changed r)
  where
    f : Frame
    f = frame_at v.frames b

    after : Option PageName → Frame
    after o = frame_at (changed_at (option_and_then (λ p. holder v.frames p) o) r start end v).frames b

    apart : (name : PageName) (o : Option ℕ) → holder v.frames name ≡ o → is_name_of page (Some name) ≡ false → frame_at (changed_at o r start end v).frames b ≡ f
    apart name None is miss = refl
    apart name (Some a) is miss =
        let other : b ≡ a → ⊥ = λ same.
        let x = (holder_name v.frames name a is).1 in
        let y = (holder_name v.frames page b held).1 in
        let z : Some name ≡ Some page = sym x ∙ sym (ap (λ (k : ℕ). name_of (frame_at v.frames k)) same) ∙ y in
        true≢false (sym (is_own_name page) ∙ sym (ap (is_name_of page) z) ∙ miss) in
        get_or-set_other v.frames a b (changed r start end (frame_at v.frames a)) no_frame other

    named_so : (name : PageName) (t : Bool) → is_name_of page (Some name) ≡ t → after (Some name) ≡ (if t then changed r start end f else f)
    named_so name true is =
        let same : name ≡ page = some_name name page (named page (Some name) is) in
        ap (λ (o : Option ℕ). frame_at (changed_at o r start end v).frames b) (ap (holder v.frames) same ∙ held) ∙ get_or-set_same v.frames b (changed r start end f) no_frame (holder_name v.frames page b held).0
    named_so name false is = apart name (holder v.frames name) refl is

    by : (o : Option PageName) → after o ≡ (if is_name_of page o then changed r start end f else f)
    by None = refl
    by (Some name) = named_so name (is_name_of page (Some name)) refl

pub frame-after : (rs : List Record) (start end : ℕ) (v : Frames) (page : PageName) (b : ℕ) → holder v.frames page ≡ Some b → frame_at (after_records rs start end v).frames b ≡ changed_by page rs start end (frame_at v.frames b)
frame-after [] start end v page b held = refl
frame-after (r ∷ rs) start end v page b held = frame-after rs start end (step r start end v) page b (holder-step r start end v page ∙ held) ∙ ap (changed_by page rs start end) (frame-step r start end v page b held)

-- a frame without a page stays
bare-step : (r : Record) (start end : ℕ) (v : Frames) (b : ℕ) → name_of (frame_at v.frames b) ≡ None → frame_at (step r start end v).frames b ≡ frame_at v.frames b
bare-step r start end v b none = by (page_changed r)
  where
    at : (name : PageName) (o : Option ℕ) → holder v.frames name ≡ o → frame_at (changed_at o r start end v).frames b ≡ frame_at v.frames b
    at name None is = refl
    at name (Some a) is =
        let other : b ≡ a → ⊥ = λ same. no_name name (sym none ∙ ap (λ (k : ℕ). name_of (frame_at v.frames k)) same ∙ (holder_name v.frames name a is).1) in
        get_or-set_other v.frames a b (changed r start end (frame_at v.frames a)) no_frame other

    by : (o : Option PageName) → frame_at (changed_at (option_and_then (λ p. holder v.frames p) o) r start end v).frames b ≡ frame_at v.frames b
    by None = refl
    by (Some name) = at name (holder v.frames name) refl

bare-after : (rs : List Record) (start end : ℕ) (v : Frames) (b : ℕ) → name_of (frame_at v.frames b) ≡ None → frame_at (after_records rs start end v).frames b ≡ frame_at v.frames b
bare-after [] start end v b none = refl
bare-after (r ∷ rs) start end v b none = let same = bare-step r start end v b none in bare-after rs start end (step r start end v) b (ap name_of same ∙ none) ∙ same

-- a frame that a mini-transaction has changed, which begins there, and what its page is then
abbrev pub dirtied : ℕ → List ℕ → Frame → Frame
dirtied start bytes f = record f { content = made f.content; page = bytes; oldest = Some (unwrap_or f.oldest start); flush = noted start f.flush }

made_twice : (content : Content) → made (made content) ≡ made content
made_twice Unused = refl
made_twice (Fresh name) = refl
made_twice (Held name) = refl
made_twice (Loading name) = refl

noted_twice : (start : ℕ) (f : Flush) → noted start (noted start f) ≡ noted start f
noted_twice start flush.Idle = refl
noted_twice start (flush.Begun later) = refl
noted_twice start flush.Failed = refl

dirtied_twice : (start : ℕ) (a b : List ℕ) (f : Frame) → dirtied start b (dirtied start a f) ≡ dirtied start b f
dirtied_twice start a b f = λ i. record (dirtied start b f) { content = made_twice f.content i; flush = noted_twice start f.flush i }

made_held : (content : Content) → is_fresh (made content) ≡ false
made_held Unused = refl
made_held (Fresh name) = refl
made_held (Held name) = refl
made_held (Loading name) = refl

-- a frame stays that no record names, and one that a record names is dirty since the mini-transaction, if it wasn't before
pub changed_is : (page : PageName) (rs : List Record) (start end : ℕ) (f : Frame)
    → (any_names page rs ≡ false → changed_by page rs start end f ≡ f) × (any_names page rs ≡ true → changed_by page rs start end f ≡ dirtied start (changed_by page rs start end f).page f)
changed_is page [] start end f = (λ _. refl, λ hits. absurd (false≢true hits))
changed_is page (r ∷ rs) start end f = by (is_name_of page (page_changed r)) (λ g. changed_is page rs start end g) (any_names page rs) refl
  where
    after : Frame → Frame
    after g = changed_by page rs start end g

    Rest : Type 0
    Rest = (g : Frame) → (any_names page rs ≡ false → after g ≡ g) × (any_names page rs ≡ true → after g ≡ dirtied start (after g).page g)

    by : (t : Bool) → Rest → (u : Bool) → any_names page rs ≡ u → ((if t then true else any_names page rs) ≡ false → after (if t then changed r start end f else f) ≡ f)
        × ((if t then true else any_names page rs) ≡ true → after (if t then changed r start end f else f) ≡ dirtied start (after (if t then changed r start end f else f)).page f)
    by false rest u is = rest f
    by true rest false is =
        let g : Frame = changed r start end f in
        let same : after g ≡ g = (rest g).0 is in
        (λ miss. absurd (true≢false miss), λ hits. same ∙ ap (λ bytes. dirtied start bytes f) (sym (ap (λ (h : Frame). h.page) same)))
    by true rest true is =
        let g : Frame = changed r start end f in
        (λ miss. absurd (true≢false miss), λ hits. (rest g).1 is ∙ dirtied_twice start (effect end r f.page) (after g).page f)

-- a frame that a record names isn't new any more, and has its page
pub named_held : (page : PageName) (rs : List Record) (start end : ℕ) (f : Frame) → any_names page rs ≡ true → (is_fresh (changed_by page rs start end f).content ≡ false) × (name_of (changed_by page rs start end f) ≡ name_of f)
named_held page rs start end f hits =
    let content : (changed_by page rs start end f).content ≡ made f.content = ap (λ (g : Frame). g.content) ((changed_is page rs start end f).1 hits) in
    (ap is_fresh content ∙ made_held f.content, ap name_in content ∙ name_in-made f.content)

-- so is one that wasn't new
pub stays_held : (page : PageName) (rs : List Record) (start end : ℕ) (f : Frame) → is_fresh f.content ≡ false → (is_fresh (changed_by page rs start end f).content ≡ false) × (name_of (changed_by page rs start end f) ≡ name_of f)
stays_held page rs start end f old = by (any_names page rs) refl
  where
    by : (t : Bool) → any_names page rs ≡ t → (is_fresh (changed_by page rs start end f).content ≡ false) × (name_of (changed_by page rs start end f) ≡ name_of f)
    by true hits = named_held page rs start end f hits
    by false miss = let same = (changed_is page rs start end f).0 miss in (ap (λ (g : Frame). is_fresh g.content) same ∙ old, ap name_of same)

-- What the frames show.

-- a record that changes a page edits it
record IsEdit (r : Record) : Type 0 where
  page : PageName
  named_is : page_changed r ≡ Some page
  edit_is : (end : ℕ) (image : Image) → after_record end image r ≡ with_edit image page.space (edited page.number (effect end r))

edit_of : (r : Record) → EditsPages r → IsEdit r
edit_of (record_is.Init space number kind) only = record { page = record { space = space; number = number }; named_is = refl; edit_is = λ end image. refl }
edit_of (record_is.Write space number patch) only = record { page = record { space = space; number = number }; named_is = refl; edit_is = λ end image. refl }
edit_of other only = absurd only

-- what a record makes of a page and of the frame that shows it
page-step : (image : Image) (r : Record) (start end : ℕ) (page : PageName) (f : Frame) → EditsPages r → page_of image page.space page.number ≡ Some f.page → page_of (after_record end image r) page.space page.number ≡ Some (if is_name_of page (page_changed r) then changed r start end f else f).page
page-step image r start end page f only is =
    let e = edit_of r only in
    ap (λ (i : Image). page_of i page.space page.number) (e.edit_is end image) ∙ by e.page (is_name_of page (Some e.page)) refl ∙ ap (λ (o : Option PageName). Some (if is_name_of page o then changed r start end f else f).page) (sym e.named_is)
  where
    after : PageName → Image
    after name = with_edit image name.space (edited name.number (effect end r))

    by : (name : PageName) (t : Bool) → is_name_of page (Some name) ≡ t → page_of (after name) page.space page.number ≡ Some (if is_name_of page (Some name) then changed r start end f else f).page
    by name true hits =
        let same : name ≡ page = some_name name page (named page (Some name) hits) in
        ap (λ (n : PageName). page_of (after n) page.space page.number) same ∙ page_of-edited_same image page.space page.number (effect end r) f.page is ∙ ap (λ (b : Bool). Some (if b then changed r start end f else f).page) (sym hits)
    by name false miss =
        page_of-edited_other image name.space name.number page.space page.number (effect end r) (λ e g. apart e g) ∙ is ∙ ap (λ (b : Bool). Some (if b then changed r start end f else f).page) (sym miss)
      where
        apart : page.space ≡ name.space → page.number ≡ name.number → ⊥
        apart e g = true≢false (sym (is_own_name page) ∙ (λ i. is_name_of page (Some (record { space = e i; number = g i }))) ∙ miss)

-- what records make of it
pub page-after : (rs : List Record) (image : Image) (start end : ℕ) (page : PageName) (f : Frame) → AllByRecursion EditsPages rs → page_of image page.space page.number ≡ Some f.page → page_of (image_is.after_records end image rs) page.space page.number ≡ Some (changed_by page rs start end f).page
page-after [] image start end page f only is = is
page-after (r ∷ rs) image start end page f only is =
    page-after rs (after_record end image r) start end page (if is_name_of page (page_changed r) then changed r start end f else f) only.1 (page-step image r start end page f only.0 is)

-- A frame is ready for records that start from an image: it shows its page there, and a new page that is there is named by one of them.
abbrev pub Ready : Image → List Record → Content → List ℕ → Type 0
Ready image rs Unused bytes = Unit {0}
Ready image rs (Fresh name) bytes = ((page_of image name.space name.number ≡ Some bytes) × (any_names name rs ≡ true)) ⊎ ((page_of image name.space name.number ≡ None) × ((any_names name rs ≡ false) × (bytes ≡ zero_page)))
Ready image rs (Held name) bytes = page_of image name.space name.number ≡ Some bytes
Ready image rs (Loading name) bytes = IsSome (page_of image name.space name.number)

-- records that name a page that isn't there leave it so
absent-after : (rs : List Record) (image : Image) (end : ℕ) (page : PageName) → AllByRecursion EditsPages rs → page_of image page.space page.number ≡ None → page_of (image_is.after_records end image rs) page.space page.number ≡ None
absent-after rs image end page only none = records_pages end image rs page.space page.number only ∙ ap (option_map (λ _. undo.after end rs (image_is.all_pages image) page.space page.number)) none

-- and a page that is there stays there
pub there-after : (rs : List Record) (image : Image) (end space number : ℕ) → AllByRecursion EditsPages rs → IsSome (page_of image space number) → IsSome (page_of (image_is.after_records end image rs) space number)
there-after rs image end space number only on = by (page_of image space number) on (records_pages end image rs space number only)
  where
    by : (o : Option (List ℕ)) → IsSome o → page_of (image_is.after_records end image rs) space number ≡ option_map (λ _. undo.after end rs (image_is.all_pages image) space number) o → IsSome (page_of (image_is.after_records end image rs) space number)
    by None on is = absurd (false≢true on)
    by (Some page) on is = subst IsSome (sym is) refl

module _ (rs : List Record) (image : Image) (v : Frames) (start end : ℕ) (only : AllByRecursion EditsPages rs) (once : Once v.frames) where
  abbrev last : Image
  last = image_is.after_records end image rs

  abbrev frame_then : ℕ → Frame
  frame_then b = frame_at (after_records rs start end v).frames b

  bare_then : (b : ℕ) (f : Frame) → frame_at v.frames b ≡ f → (content : Content) → f.content ≡ content → name_in content ≡ None → frame_then b ≡ f
  bare_then b f is content holds none = bare-after rs start end v b (ap name_of is ∙ ap name_in holds ∙ none) ∙ is

  -- a frame with a page
  shown_then : (b : ℕ) (f : Frame) → frame_at v.frames b ≡ f → (content : Content) → f.content ≡ content → Ready image rs content f.page → Shown last (frame_then b).content (frame_then b).page
  shown_then b f is Unused holds ready = subst (λ (g : Frame). Shown last g.content g.page) (sym (bare_then b f is Unused holds refl)) (subst (λ (c : Content). Shown last c f.page) (sym holds) tt)
  shown_then b f is (Loading name) holds ready = subst (λ (g : Frame). Shown last g.content g.page) (sym (bare_then b f is (Loading name) holds refl)) (subst (λ (c : Content). Shown last c f.page) (sym holds) (there-after rs image end name.space name.number only ready))
  shown_then b f is (Held name) holds ready =
      let named_so : name_of (frame_at v.frames b) ≡ Some name = ap name_of is ∙ ap name_in holds in
      let then_is : frame_then b ≡ changed_by name rs start end f = frame-after rs start end v name b (once name b named_so) ∙ ap (changed_by name rs start end) is in
      let kept = stays_held name rs start end f (ap is_fresh holds) in
      subst (λ (g : Frame). Shown last g.content g.page) (sym then_is) (shown_named last _ name (changed_by name rs start end f).content (kept.1 ∙ ap name_in holds) kept.0 (page-after rs image start end name f only ready))
  shown_then b f is (Fresh name) holds (inl ready) =
      let named_so : name_of (frame_at v.frames b) ≡ Some name = ap name_of is ∙ ap name_in holds in
      let then_is : frame_then b ≡ changed_by name rs start end f = frame-after rs start end v name b (once name b named_so) ∙ ap (changed_by name rs start end) is in
      let kept = named_held name rs start end f ready.1 in
      subst (λ (g : Frame). Shown last g.content g.page) (sym then_is) (shown_named last _ name (changed_by name rs start end f).content (kept.1 ∙ ap name_in holds) kept.0 (page-after rs image start end name f only ready.0))
  shown_then b f is (Fresh name) holds (inr ready) =
      let named_so : name_of (frame_at v.frames b) ≡ Some name = ap name_of is ∙ ap name_in holds in
      let then_is : frame_then b ≡ f = frame-after rs start end v name b (once name b named_so) ∙ ap (changed_by name rs start end) is ∙ (changed_is name rs start end f).0 ready.1.0 in
      subst (λ (g : Frame). Shown last g.content g.page) (sym then_is) (subst (λ (c : Content). Shown last c f.page) (sym holds) (absent-after rs image end name only ready.0, ready.1.1))

  -- the frames show the pages that the records leave
  pub shows_records : ((at : ℕ) → Ready image rs (frame_at v.frames at).content (frame_at v.frames at).page) → Shows last (after_records rs start end v).frames
  shows_records ready b = shown_then b (frame_at v.frames b) refl (frame_at v.frames b).content refl (ready b)

-- what holds of the page of each record holds of a page that one of them names
pub of_named : (P : PageName → Type 0) (page : PageName) (rs : List Record) → any_names page rs ≡ true → AllByRecursion (λ r. IfSome (page_changed r) P) rs → P page
of_named P page [] hits each = absurd (false≢true hits)
of_named P page (r ∷ rs) hits each = by (page_changed r) (is_name_of page (page_changed r)) refl hits each.0 (λ rest. of_named P page rs rest each.1)
  where
    by : (o : Option PageName) (t : Bool) → is_name_of page o ≡ t → (if t then true else any_names page rs) ≡ true → IfSome o P → (any_names page rs ≡ true → P page) → P page
    by None true is hits one rest = absurd (false≢true is)
    by (Some name) true is hits one rest = let same : name ≡ page = some_name name page (named page (Some name) is) in subst P same one
    by o false is hits one rest = rest hits

-- where each record is on a page that is there, frames that show their pages are ready
pub ready_there : (image : Image) (rs : List Record) (content : Content) (bytes : List ℕ) → AllByRecursion (IsOnPage image) rs → Shown image content bytes → Ready image rs content bytes
ready_there image rs Unused bytes on shown = tt
ready_there image rs (Held name) bytes on shown = shown
ready_there image rs (Loading name) bytes on shown = shown
ready_there image rs (Fresh name) bytes on shown = inr (shown.0, (by (any_names name rs) refl, shown.1))
  where
    by : (t : Bool) → any_names name rs ≡ t → any_names name rs ≡ false
    by false is = is
    by true is = absurd (false≢true (subst IsSome shown.0 (of_named (λ n. IsSome (page_of image n.space n.number)) name rs is on)))

-- What the log's law sees of the records.

not_named : (s n space number : ℕ) → is_name_of (record { space = space; number = number }) (Some (record { space = s; number = n })) ≡ false → ((s == space) && (n == number)) ≡ false
not_named s n space number miss = by ((s == space) && (n == number)) refl
  where
    by : (t : Bool) → ((s == space) && (n == number)) ≡ t → t ≡ false
    by false is = refl
    by true is =
        let parts = and_parts (s == space) (n == number) is in
        let e : s ≡ space = eqb-true s space parts.0 in
        let f : n ≡ number = eqb-true n number parts.1 in
        absurd (true≢false (sym (is_own_name (record { space = space; number = number })) ∙ (λ i. is_name_of (record { space = space; number = number }) (Some (record { space = sym e i; number = sym f i }))) ∙ miss))

misses : (t u : Bool) → (if t then true else u) ≡ false → (t ≡ false) × (u ≡ false)
misses true u is = absurd (true≢false is)
misses false u is = (refl, is)

if_named : (t : Bool) (x : Touch) (ts : List Touch) → names (x ∷ ts) ≡ false → names ts ≡ false → names ((if t then x else passes) ∷ ts) ≡ false
if_named true x ts here rest = here
if_named false x ts here rest = rest

-- records that don't name a page are no edits of it
pub unnamed_all : (end space number : ℕ) (rs : List Record) → any_names (record { space = space; number = number }) rs ≡ false → names (touches end space number rs) ≡ false
unnamed_all end space number [] miss = refl
unnamed_all end space number (r ∷ rs) miss =
    let apart = misses (is_name_of page (page_changed r)) (any_names page rs) miss in
    by r apart.0 (unnamed_all end space number rs apart.1)
  where
    page : PageName
    page = record { space = space; number = number }

    seen : List Touch
    seen = touches end space number rs

    by : (r : Record) → is_name_of page (page_changed r) ≡ false → names seen ≡ false → names (touches end space number (r ∷ rs)) ≡ false
    by (record_is.Init s n kind) miss rest = ap (λ (t : Bool). names ((if t then edits (effect end (record_is.Init s n kind)) else passes) ∷ seen)) (not_named s n space number miss) ∙ rest
    by (record_is.Write s n patch) miss rest = ap (λ (t : Bool). names ((if t then edits (effect end (record_is.Write s n patch)) else passes) ∷ seen)) (not_named s n space number miss) ∙ rest
    by (record_is.Extend s count) miss rest = if_named (s == space) (reaches (standing.made number count)) seen rest rest
    by (record_is.Create s count) miss rest = if_named (s == space) (becomes (standing.made number count)) seen rest rest
    by (record_is.Drop s) miss rest = if_named (s == space) (becomes standing.no_space) seen rest rest

-- where they change pages, they pass by
pub passes_all : (end space number : ℕ) (rs : List Record) → AllByRecursion EditsPages rs → any_names (record { space = space; number = number }) rs ≡ false → passes_by (touches end space number rs) ≡ true
passes_all end space number [] only miss = refl
passes_all end space number (r ∷ rs) only miss =
    let apart = misses (is_name_of page (page_changed r)) (any_names page rs) miss in
    by r only.0 apart.0 (passes_all end space number rs only.1 apart.1)
  where
    page : PageName
    page = record { space = space; number = number }

    seen : List Touch
    seen = touches end space number rs

    by : (r : Record) → EditsPages r → is_name_of page (page_changed r) ≡ false → passes_by seen ≡ true → passes_by (touches end space number (r ∷ rs)) ≡ true
    by (record_is.Init s n kind) one miss rest = ap (λ (t : Bool). passes_by ((if t then edits (effect end (record_is.Init s n kind)) else passes) ∷ seen)) (not_named s n space number miss) ∙ rest
    by (record_is.Write s n patch) one miss rest = ap (λ (t : Bool). passes_by ((if t then edits (effect end (record_is.Write s n patch)) else passes) ∷ seen)) (not_named s n space number miss) ∙ rest
    by other one miss rest = absurd one

resets_one : (end space number : ℕ) (rs : List Record) (t : Bool) (edit : List ℕ → List ℕ) → resets (touches end space number rs) ≡ false → resets ((if t then edits edit else passes) ∷ touches end space number rs) ≡ false
resets_one end space number rs true edit rest = rest
resets_one end space number rs false edit rest = rest

-- records that change pages make and drop no space
pub resets_none : (end space number : ℕ) (rs : List Record) → AllByRecursion EditsPages rs → resets (touches end space number rs) ≡ false
resets_none end space number [] only = refl
resets_none end space number (record_is.Init s n kind ∷ rs) only = resets_one end space number rs ((s == space) && (n == number)) (effect end (record_is.Init s n kind)) (resets_none end space number rs only.1)
resets_none end space number (record_is.Write s n patch ∷ rs) only = resets_one end space number rs ((s == space) && (n == number)) (effect end (record_is.Write s n patch)) (resets_none end space number rs only.1)
resets_none end space number (other ∷ rs) only = absurd only.0

-- records that pass by leave the page
pub applied_passing : (s : Standing) (ts : List Touch) → passes_by ts ≡ true → applied s ts ≡ s
applied_passing s [] passing = refl
applied_passing s (passes ∷ ts) passing = applied_passing s ts passing
applied_passing s (edits f ∷ ts) passing = absurd (false≢true passing)
applied_passing s (becomes t ∷ ts) passing = absurd (false≢true passing)
applied_passing s (reaches t ∷ ts) passing = absurd (false≢true passing)

-- A mini-transaction that makes a space longer, and changes its new pages.
use Rattle.std.proofs.Common.{◌≡◌, ◌≢◌, ◌<◌, ◌≤◌, ◌+◌, ◌==◌, ◌^◌, ◌⊎◌, inl, inr, ◌++◌, ℕ, Bool, true, false, List, [], ◌∷◌, length, refl, sym, ap, subst, ◌∙◌, arith, Option, Some, None, Result, IsSome, IsTrue, if◌then◌else◌}
use Rattle.clone_buffer.proofs.Common.{cases_eq, cases_lt, false≢true, AllByRecursion, DiskImage, zero_page, Record, spelling, Image, replayed, IsSpelled, Standing, past_end, stands, redone, HasSpace, ends, touches, resets, passes, free_in, LogFull, Content, Unused, Fresh, Loading, PageName, frame_at, Frames, IsPool, Buffered, IsBuffer, Shown, Shows, Beside, IsKept, HasFrame, any_names, written, Writes}
use Rattle.std.proofs.lemmas.Bool.{eq-eqb, lt-ltb, le-ltb}
use Rattle.clone_mtr.specs.declared.record.Record.TheVariants.{Extend}
use Rattle.clone_image.specs.Image.{page_of, page_count}
use Rattle.clone_image.specs.Replay.{end_of}
use Rattle.clone_image.specs.Redone.{made, standing_at}
use Rattle.clone_image.proofs.Pages.{records_counts}
use Rattle.clone_law.specs.Touches.{Touch, reaches, reached, applied, Sound, Ordered}
use Rattle.clone_ring.specs.Window as ring
use Rattle.clone_pool.specs.declared.frame.Content.TheVariants.{Held}
use Rattle.clone_buffer.specs.Keeping.{Stands}
use Rattle.clone_buffer.specs.Writing.{Lengthens}
use Rattle.clone_buffer.proofs.MoveLemmas.{stands_by}
use Rattle.clone_buffer.proofs.WriteLemmas.{Ready, of_named, passes_all, resets_none, there-after, shows_records, ready_there}
use Rattle.clone_buffer.proofs.WrittenLemmas.{KeptAt, small, renewed, stands_result, IsBuffer-written}
use Rattle.clone_buffer.proofs.ImageLemmas.{longer, New, new_or_not, past_count, below_count, longer_new, longer_same, standing_of_page}
use Rattle.clone_buffer.proofs.AroundLemmas.{past, edits_sound, other_space, named_apart, named_behind, mid_frames, mid_image, shows_around, in_touches, frame_there, other_page, elsewhere}

module _ (v : Buffered) (records : List Record) (l : Lengthens v records) (p : IsPool v.pool) (b : IsBuffer v) where
  abbrev image : Image
  image = replayed v.log

  abbrev r : Record
  r = Extend l.space l.pages

  abbrev all : List Record
  all = l.front ++ r ∷ l.rest

  abbrev stop : ℕ
  stop = ring.end_of v.ring + length (spelling all)

  abbrev mid : Image
  mid = mid_image v l.front l.rest r

  abbrev frames : Frames
  frames = mid_frames v l.front l.rest r

  abbrev IsNew : ℕ → ℕ → Type 0
  IsNew s n = New l.space l.count l.pages s n

  mid_size : page_count mid l.space ≡ Some l.count
  mid_size = records_counts stop image l.front l.space l.edits.0 ∙ l.size

  -- the records before leave the pages that are there
  mid_there : (s n : ℕ) → IsSome (page_of image s n) → IsSome (page_of mid s n)
  mid_there s n on = there-after l.front image stop s n l.edits.0 on

  -- a page that isn't new, and that a record behind names, was there
  was_there : (s n : ℕ) → (IsNew s n → ⊥) → any_names (record { space = s; number = n }) l.rest ≡ true → IsSome (page_of image s n)
  was_there s n old hits =
      subst IsSome (longer_same image l.space l.count l.pages l.size s n old) (of_named (λ q. IsSome (page_of (longer image l.space l.pages) q.space q.number)) (record { space = s; number = n }) l.rest hits l.behind)

  ready : (content : Content) (bytes : List ℕ) → Shown mid content bytes → Ready (longer mid l.space l.pages) l.rest content bytes
  ready Unused bytes shown = tt
  ready (Held name) bytes shown = by (new_or_not l.space l.count l.pages name.space name.number)
    where
      by : IsNew name.space name.number ⊎ (IsNew name.space name.number → ⊥) → Ready (longer mid l.space l.pages) l.rest (Held name) bytes
      by (inl new) =
          let none : page_of mid name.space name.number ≡ None = ap (λ (s : ℕ). page_of mid s name.number) new.0 ∙ past_count mid l.space l.count l.pages mid_size name.number new.1 in
          absurd (false≢true (subst IsSome (sym shown ∙ none) refl))
      by (inr old) = longer_same mid l.space l.count l.pages mid_size name.space name.number old ∙ shown
  ready (Loading name) bytes on = by (new_or_not l.space l.count l.pages name.space name.number)
    where
      by : IsNew name.space name.number ⊎ (IsNew name.space name.number → ⊥) → Ready (longer mid l.space l.pages) l.rest (Loading name) bytes
      by (inl new) =
          let none : page_of mid name.space name.number ≡ None = ap (λ (s : ℕ). page_of mid s name.number) new.0 ∙ past_count mid l.space l.count l.pages mid_size name.number new.1 in
          absurd (false≢true (subst IsSome none on))
      by (inr old) = subst IsSome (sym (longer_same mid l.space l.count l.pages mid_size name.space name.number old)) on
  ready (Fresh name) bytes shown = by (new_or_not l.space l.count l.pages name.space name.number)
    where
      unnamed : (t : Bool) → any_names name l.rest ≡ t → (IsNew name.space name.number → ⊥) → any_names name l.rest ≡ false
      unnamed false miss old = miss
      unnamed true hits old = absurd (false≢true (subst IsSome shown.0 (mid_there name.space name.number (was_there name.space name.number old hits))))

      by : IsNew name.space name.number ⊎ (IsNew name.space name.number → ⊥) → Ready (longer mid l.space l.pages) l.rest (Fresh name) bytes
      by (inl new) =
          inl (
            ap (λ (s : ℕ). page_of (longer mid l.space l.pages) s name.number) new.0 ∙ longer_new mid l.space l.count l.pages mid_size name.number new.1 new.2 ∙ ap Some (sym shown.1),
            subst (λ (s : ℕ). any_names (record { space = s; number = name.number }) l.rest ≡ true) (sym new.0) (l.named name.number new.1 new.2),
          )
      by (inr old) = inr (longer_same mid l.space l.count l.pages mid_size name.space name.number old ∙ shown.0, (unnamed (any_names name l.rest) refl old, shown.1))

  mid_shows : IsTrue v.right → Shows mid frames.frames
  mid_shows right = shows_records l.front image v.pool (ring.end_of v.ring) stop l.edits.0 p.once (λ at. ready_there image l.front (frame_at v.pool.frames at).content (frame_at v.pool.frames at).page l.before (b.shows right at))

  -- the frames show their pages
  shows_all : IsTrue v.right → Shows (replayed (v.log ++ all ∷ [])) (written all v).pool.frames
  shows_all right = shows_around v l.front l.rest r p b refl l.edits.1 (λ at. ready (frame_at frames.frames at).content (frame_at frames.frames at).page (mid_shows right at))

  pub shows_longer : IsTrue v.right → Shows (replayed (v.log ++ records ∷ [])) (written records v).pool.frames
  shows_longer right = subst (λ (rs : List Record). Shows (replayed (v.log ++ rs ∷ [])) (written rs v).pool.frames) (sym l.is) (shows_all right)

  module _ (beside : Beside) (m : DiskImage) (after : IsBuffer (written all v)) (k : IsKept v beside m) where
    framed : AllByRecursion (HasFrame v.pool.frames) all
    framed = subst (AllByRecursion (HasFrame v.pool.frames)) l.is l.framed

    abbrev end : ℕ
    end = end_of (ends v.log) all

    less : ends v.log + length (spelling all) < 2 ^ 64
    less = small v beside m all p b after k.right

    abbrev Kept : ℕ → ℕ → Type 0
    Kept s n = KeptAt (written all v) beside m s n

    -- how a page of the space stands
    stood : (n : ℕ) → redone l.space n v.log ≡ standing_at (page_of image l.space n)
    stood n = standing_of_page image l.space l.count l.pages l.size v.log n refl (omega (arith, less))

    -- what it sees of the record of the space
    stretch : (n : ℕ) → (if l.space == l.space then reaches (made n l.pages) else passes) ≡ reaches (made n l.pages)
    stretch n = ap (λ (t : Bool). if t then reaches (made n l.pages) else passes) (eq-eqb l.space l.space refl)

    -- a new page
    new_page : (n : ℕ) → l.count ≤ n → n < l.pages → Kept l.space n
    new_page n high low =
        let page : PageName = record { space = l.space; number = n } in
        let hits = named_behind page l.front (r ∷ l.rest) (l.named n high low) in
        let none = past_count image l.space l.count l.pages l.size n high in
        let out : redone l.space n v.log ≡ past_end = stood n ∙ ap standing_at none in
        let ts = touches end l.space n l.rest in
        let zero : reaches (made n l.pages) ≡ reaches (stands zero_page) = ap (λ (t : Bool). reaches (if t then stands zero_page else past_end)) (lt-ltb n l.pages low) in
        let edited = edits_sound zero_page ts (resets_none end l.space n l.rest l.edits.1) in
        let P : List Touch → Type 0 = λ us. Sound past_end us × Ordered us in
        let behind : P (touch_of n ∷ ts) = subst (λ (x : Touch). P (x ∷ ts)) (sym (stretch n ∙ zero)) edited in
        let both = in_touches v beside m l.front l.rest r p b after k.right l.edits.0 l.edits.1 framed P l.space n (past P (λ us q. q) (touches end l.space n l.front) _ (passes_all end l.space n l.front l.edits.0 (unnamed none (any_names page l.front) refl)) behind) in
        renewed v beside m all p b after k.right l.space n hits (frame_there v beside m l.front l.rest r p b after k.right l.edits.0 l.edits.1 framed page hits)
        (record { small = less; sound = subst (λ (s : Standing). Sound s (touches end l.space n all)) (sym out) both.0; ordered = both.1 }) (subst HasSpace (sym out) tt) (k.page l.space n)
      where
        touch_of : ℕ → Touch
        touch_of n = if l.space == l.space then reaches (made n l.pages) else passes

        unnamed : page_of image l.space n ≡ None → (t : Bool) → any_names (record { space = l.space; number = n }) l.front ≡ t → any_names (record { space = l.space; number = n }) l.front ≡ false
        unnamed none false miss = miss
        unnamed none true hits = absurd (false≢true (subst IsSome none (of_named (λ q. IsSome (page_of image q.space q.number)) (record { space = l.space; number = n }) l.front hits l.before)))

    -- a page that isn't new, and that a record names, was there
    was : (s n : ℕ) → (IsNew s n → ⊥) → any_names (record { space = s; number = n }) all ≡ true → IsSome (page_of image s n)
    was s n old hits = by (named_apart (record { space = s; number = n }) l.front (r ∷ l.rest) hits)
      where
        by : (any_names (record { space = s; number = n }) l.front ≡ true) ⊎ (any_names (record { space = s; number = n }) l.rest ≡ true) → IsSome (page_of image s n)
        by (inl hits) = of_named (λ q. IsSome (page_of image q.space q.number)) (record { space = s; number = n }) l.front hits l.before
        by (inr hits) = was_there s n old hits

    -- one that the space had, or that it hasn't still
    old_page : (n : ℕ) → (IsNew l.space n → ⊥) → Kept l.space n
    old_page n old =
        other_page v beside m l.front l.rest r p b after k.right l.edits.0 l.edits.1 framed l.space n (ap (λ (x : Touch). resets (x ∷ [])) (stretch n))
        (ap (λ (x : Touch). applied (redone l.space n v.log) (x ∷ [])) (stretch n) ∙ subst (λ (s : Standing). reached (made n l.pages) s ≡ s) (sym (stood n)) (stays (cases_lt n l.count) (cases_lt n l.pages)))
        (was l.space n old) (k.page l.space n)
      where
        there : (o : Option (List ℕ)) → IsSome o → reached (made n l.pages) (standing_at o) ≡ standing_at o
        there None on = absurd (false≢true on)
        there (Some page) on = refl

        past_it : (o : Option (List ℕ)) → reached past_end (standing_at o) ≡ standing_at o
        past_it None = refl
        past_it (Some page) = refl

        stays : (n < l.count) ⊎ (l.count ≤ n) → (n < l.pages) ⊎ (l.pages ≤ n) → reached (made n l.pages) (standing_at (page_of image l.space n)) ≡ standing_at (page_of image l.space n)
        stays (inl low) either = there (page_of image l.space n) (below_count image l.space l.count l.pages l.size n low)
        stays (inr high) (inl low) = absurd (old (refl, high, low))
        stays (inr high) (inr out) =
            subst (λ (s : Standing). reached s (standing_at (page_of image l.space n)) ≡ standing_at (page_of image l.space n)) (sym (ap (λ (t : Bool). if t then stands zero_page else past_end) (le-ltb n l.pages out))) (past_it (page_of image l.space n))

    kept_all : IsKept (written all v) beside m
    kept_all = record { right = k.right; page = λ s n. by s n (new_or_not l.space l.count l.pages s n) (cases_eq s l.space) }
      where
        by : (s n : ℕ) → IsNew s n ⊎ (IsNew s n → ⊥) → (s ≡ l.space) ⊎ (s ≢ l.space) → Kept s n
        by s n (inl new) either = subst (λ (x : ℕ). Kept x n) (sym new.0) (new_page n new.1 new.2)
        by s n (inr old) (inl same) = subst (λ (x : ℕ). Kept x n) (sym same) (old_page n (λ new. old (same, new.1, new.2)))
        by s n (inr old) (inr other) =
            elsewhere v beside m l.front l.rest r p b after k.right l.edits.0 l.edits.1 framed s n (ap (λ (t : Bool). if t then reaches (made n l.pages) else passes) (other_space l.space s other)) (was s n old) (k.page s n)

  pub kept_longer : IsSpelled records → length (spelling records) ≤ free_in v.ring → (beside : Beside) (m : DiskImage) → IsKept v beside m → IsKept (written records v) beside m
  kept_longer spelled room beside m k =
      let after = IsBuffer-written v all b (subst IsSpelled l.is spelled) (subst (λ (rs : List Record). length (spelling rs) ≤ free_in v.ring) l.is room) shows_all in
      subst (λ (rs : List Record). IsKept (written rs v) beside m) (sym l.is) (kept_all beside m after k)

-- a buffer over a disk stands after it
pub stands_longer : (v w : Buffered) (beside : Beside) (told : Option DiskImage) (records : List Record) (result : Result ℕ LogFull) → IsPool v.pool → IsBuffer v → IsSpelled records → (IsTrue v.right → Lengthens v records) → Writes records v w result → Stands v beside told → Stands w beside told
stands_longer v w beside told records result p b spelled lengthens writes st =
    stands_result v w beside told records result writes (λ room. stands_by v (written records v) beside told (λ m k. kept_longer v records (lengthens k.right) p b spelled room beside m k)) st

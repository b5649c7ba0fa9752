-- A mini-transaction that makes a space which the disk has already, with pages of zero bytes.
use Rattle.std.proofs.Common.{◌≡◌, ◌↔◌, ◌≢◌, ◌<◌, ◌≤◌, ◌+◌, ◌^◌, ◌&&◌, ◌==◌, ◌⊎◌, inl, inr, ◌++◌, ℕ, Bool, true, false, List, [], ◌∷◌, length, replicate, slice_get, nat_lt, refl, sym, ap, subst, ◌∙◌, arith, Option, Some, None, Result, Ok, Err, IfOk, option_and_then, unwrap_or, IsSome, IsTrue, if◌then◌else◌}
use Rattle.clone_buffer.proofs.Common.{page_of-made, Image, HasFrame, Shown, Shows, AllByRecursion, cases_eq, cases_lt, false≢true, get_or-replicate, length-replicate, DiskImage, ForTold, zero_page, Record, Standing, no_space, past_end, stands, redone, ends, Suits, PageEngine, Copy, Copies, rule_kept, Frame, Flush, frame_at, is_begun, holder, noted, Beside, frame_of, flight_of, disk_standing, is_open, has_space, engine_with, IsKeptPage, IsKept, Create, spelling, replayed, IsSpelled, replayed_is_redone, page_of-past, page_of-elsewhere, passes, touches, suits_unnamed, free_in, LogFull, Content, Unused, Fresh, Loading, IsPool, Buffered, IsBuffer, any_names, written, Writes, MakesSpace, Creates}
use Rattle.std.proofs.lemmas.Bool.{lt-ltb, ltb-true, ltb-false, eq-eqb, ne_eqb, eqb-true}
use Rattle.std.proofs.lemmas.Option.{slice_get-get_or, slice_get_past}
use Rattle.std.specs.FinMap as finite
use Rattle.clone_outside.specs.Disk as disk
use Rattle.clone_outside.specs.Disk.{page_of}
use Rattle.clone_outside.specs.declared.disk.Held as held
use Rattle.clone_image.specs.Redone.{made}
use Rattle.clone_law.specs.Machine.{Idle, Untracked, Tracked, Copied, Stopped, Created, Opened, NoFiles, created}
use Rattle.clone_pool.specs.declared.frame.Flush.TheVariants as flush
use Rattle.clone_buffer.specs.OnePage.{NoFilesOf, after_create, standing_at, standing_in}
use Rattle.clone_buffer.specs.Keeping.{Stands}
use Rattle.clone_buffer.proofs.FlushLemmas.{undisturbed}
use Rattle.clone_buffer.proofs.PageLemmas.{world, Ruled}
use Rattle.clone_image.specs.Image.{page_of as image_page}
use Rattle.clone_image.specs.Replay.{end_of}
use Rattle.clone_image.specs.Redone.{standing_in as image_standing}
use Rattle.clone_law.specs.Touches.{Touch, becomes, applied, Sound, Ordered}
use Rattle.clone_law.proofs.AppendLemmas.{appended}
use Rattle.clone_pool.specs.declared.frame.Content.TheVariants.{Held}
use Rattle.clone_buffer.specs.Writing.{HasMade, with_made}
use Rattle.clone_buffer.proofs.FrameLemmas.{some_of, clean_fresh}
use Rattle.clone_buffer.proofs.ShownLemmas.{fresh_absent, frame_of_absent}
use Rattle.clone_buffer.proofs.WriteLemmas.{Ready, of_named, applied_passing, unnamed_all, passes_all, resets_none}
use Rattle.clone_buffer.proofs.WrittenLemmas.{small, renewed_frame, frame_of-passed, IsBuffer-written}
use Rattle.clone_buffer.proofs.AroundLemmas.{other_space, edits_sound, shows_around, frame_there, elsewhere}

-- a page of such a space
zero_at : (number pages : ℕ) → number < pages → slice_get (replicate pages disk.zero_page) number ≡ Some disk.zero_page
zero_at number pages low = slice_get-get_or (replicate pages disk.zero_page) number disk.zero_page (omega (arith, low, length-replicate pages disk.zero_page)) ∙ ap Some (get_or-replicate pages number disk.zero_page disk.zero_page low)

-- What a clone has of a page after the space was made, and what is kept beside a buffer.

created_own : (space pages number : ℕ) (copies : Copies) → after_create space pages copies space number ≡ created (made number pages) (copies space number)
created_own space pages number copies = ap (λ (t : Bool). if t then created (made number pages) (copies space number) else copies space number) (eq-eqb space space refl)

created_other : (space pages s number : ℕ) (copies : Copies) → s ≢ space → after_create space pages copies s number ≡ copies s number
created_other space pages s number copies other = ap (λ (t : Bool). if t then created (made number pages) (copies s number) else copies s number) (ne_eqb s space other)

created_calm : (v : Standing) (copy : Copy) → NoFiles copy → created v copy ≡ copy
created_calm v Idle calm = refl
created_calm v (Untracked starts) calm = absurd calm
created_calm v Tracked calm = refl
created_calm v (Copied base starts) calm = refl
created_calm v (Stopped base log starts) calm = refl

-- where no clone is in the FILE COPY of the space, it has what it had
pub create_calm : (space pages : ℕ) (copies : Copies) → NoFilesOf space copies → after_create space pages copies ≡ copies
create_calm space pages copies calm = λ i. λ s number. by s number (s == space) refl i
  where
    by : (s number : ℕ) (t : Bool) → (s == space) ≡ t → (if t then created (made number pages) (copies s number) else copies s number) ≡ copies s number
    by s number true is = created_calm (made number pages) (copies s number) (subst (λ (x : ℕ). NoFiles (copies x number)) (sym (eqb-true s space is)) (calm number))
    by s number false is = refl

abbrev made_beside : ℕ → ℕ → Beside → Beside
made_beside space pages beside = record beside { copy = after_create space pages beside.copy }

module _ (log : List (List Record)) (beside : Beside) (m : DiskImage) (space number pages : ℕ) (records : List Record) (quiet : finite.get m.spaces space ≡ Some (replicate pages disk.zero_page)) where
  abbrev copy : Copy
  copy = beside.copy space number

  abbrev longer : List (List Record)
  longer = log ++ records ∷ []

  abbrev there : Option held.Held
  there = slice_get (replicate pages disk.zero_page) number

  -- the page as it stands on the disk
  found : (b : Bool) → nat_lt number pages ≡ b → (standing_in (Some (replicate pages disk.zero_page)) number ≡ (if b then stands zero_page else past_end)) × (is_open there ≡ false)
  found true is = let zero = zero_at number pages (ltb-true number pages is) in (ap standing_at zero, ap is_open zero)
  found false is = let none = slice_get_past (replicate pages disk.zero_page) number (omega (arith, ltb-false number pages is, length-replicate pages disk.zero_page)) in (ap standing_at none, ap is_open none)

  standing : disk_standing m space number ≡ made number pages
  standing = ap (λ (o : Option (List held.Held)). standing_in o number) quiet ∙ (found (nat_lt number pages) refl).0

  closed : (s : Standing) → false ≡ (is_open (page_of m space number) && has_space s)
  closed s = sym (ap (λ (b : Bool). b && has_space s) (ap (λ (o : Option (List held.Held)). is_open (option_and_then (λ ps. slice_get ps number) o)) quiet ∙ (found (nat_lt number pages) refl).1))

  -- a page without a frame
  pub created_page : Suits space number log records → redone space number longer ≡ made number pages → IsKeptPage log beside m space number None → IsKeptPage longer (made_beside space pages beside) m space number None
  created_page suits is k =
      let e : PageEngine = engine_with log beside m space number None in
      let on_disk : redone space number longer ≡ disk_standing m space number = is ∙ sym standing in
      let shut = closed (redone space number longer) in
      let new : record e { log = longer; disk = redone space number longer; writing = false } ≡ engine_with longer beside m space number None = λ i. record e { log = longer; disk = on_disk i; writing = shut i } in
      record {
        rule = subst (λ (c : Copy). Ruled space number c (engine_with longer (made_beside space pages beside) m space number None)) (ap (λ (v : Standing). created v copy) is ∙ sym (created_own space pages number beside.copy)) (subst (Ruled space number (created (redone space number longer) copy)) new (rule_kept space number (world copy e) (Created records) k.rule suits));
        dirty = λ t. absurd (false≢true (shut ∙ t));
        opened = λ t. absurd (false≢true (shut ∙ t));
        flights = k.flights;
      }

  -- a page whose frame the mini-transaction changes
  pub opened_page : (g : Frame) → number < pages → Suits space number log records → redone space number longer ≡ stands g.page → redone space number log ≡ no_space → g.oldest ≡ Some (ends log) → g.flush ≡ flush.Idle → IsKeptPage log beside m space number None → IsKeptPage longer (made_beside space pages beside) m space number (Some g)
  opened_page g low suits is absent oldest idle k =
      let e : PageEngine = engine_with log beside m space number None in
      let zero : made number pages ≡ stands zero_page = ap (λ (b : Bool). if b then stands zero_page else past_end) (lt-ltb number pages low) in
      let on_disk : stands zero_page ≡ disk_standing m space number = sym (standing ∙ zero) in
      let shut = closed (redone space number longer) in
      let grounded : None ≡ flight_of g.flush (beside.image space number) = sym (ap (λ (x : Flush). flight_of x (beside.image space number)) idle) in
      let new : record e { log = longer; disk = stands zero_page; writing = false; frame = Some g.page; oldest = Some (ends log); flight = None } ≡ engine_with longer beside m space number (Some g) =
      λ i. record e { log = longer; disk = on_disk i; writing = shut i; frame = Some g.page; oldest = sym oldest i; flight = grounded i } in
      record {
        rule = subst (λ (c : Copy). Ruled space number c (engine_with longer (made_beside space pages beside) m space number (Some g))) (ap (λ (v : Standing). created v copy) (sym zero) ∙ sym (created_own space pages number beside.copy)) (subst (Ruled space number (created (stands zero_page) copy)) new (rule_kept space number (world copy e) (Opened records g.page) k.rule (suits, is, absent)));
        dirty = λ t. absurd (false≢true (shut ∙ t));
        opened = λ t. absurd (false≢true (shut ∙ t));
        flights = subst (λ (x : Flush). IsTrue (is_begun x) ↔ IsSome (beside.image space number)) (sym idle) k.flights;
      }

-- What the frames show.

-- a frame is ready for the records behind
ready_made : (v : Buffered) (space pages : ℕ) (rest : List Record) (at : ℕ) (content : Content) (bytes : List ℕ) → MakesSpace v space pages rest → IsTrue v.right → (frame_at v.pool.frames at).content ≡ content → Shown (replayed v.log) content bytes
    → Ready (finite.insert (replayed v.log) space (replicate pages zero_page)) rest content bytes
ready_made v space pages rest at Unused bytes makes right is shown = tt
ready_made v space pages rest at (Held name) bytes makes right is shown = page_of-elsewhere (replayed v.log) space pages name.space name.number (makes.unheld at name is) ∙ shown
ready_made v space pages rest at (Loading name) bytes makes right is on = by (cases_eq name.space space)
  where
    by : (name.space ≡ space) ⊎ (name.space ≢ space) → Ready (finite.insert (replayed v.log) space (replicate pages zero_page)) rest (Loading name) bytes
    by (inl same) =
        let none = ap (λ (s : ℕ). image_page (replayed v.log) s name.number) same ∙ ap (λ (o : Option (List (List ℕ))). option_and_then (λ ps. slice_get ps name.number) o) (makes.absent right) in
        absurd (false≢true (subst IsSome none on))
    by (inr other) = subst IsSome (sym (page_of-elsewhere (replayed v.log) space pages name.space name.number other)) on
ready_made v space pages rest at (Fresh name) bytes makes right is shown = by (cases_eq name.space space) (cases_lt name.number pages)
  where
    made : Image
    made = finite.insert (replayed v.log) space (replicate pages zero_page)

    absent : image_page made name.space name.number ≡ None → Ready made rest (Fresh name) bytes
    absent none = inr (none, (unnamed (any_names name rest) refl, shown.1))
      where
        unnamed : (t : Bool) → any_names name rest ≡ t → any_names name rest ≡ false
        unnamed false miss = miss
        unnamed true hits = absurd (false≢true (subst IsSome none (of_named (λ n. IsSome (image_page made n.space n.number)) name rest hits (makes.there right))))

    by : (name.space ≡ space) ⊎ (name.space ≢ space) → (name.number < pages) ⊎ (pages ≤ name.number) → Ready made rest (Fresh name) bytes
    by (inl same) (inl low) = inl (ap (λ s. image_page made s name.number) same ∙ page_of-made (replayed v.log) space pages name.number low ∙ ap Some (sym shown.1), makes.named at name is same low)
    by (inl same) (inr past) = absent (ap (λ s. image_page made s name.number) same ∙ page_of-past (replayed v.log) space pages name.number past)
    by (inr other) either = absent (page_of-elsewhere (replayed v.log) space pages name.space name.number other ∙ shown.0)

pub shows_created : (v : Buffered) (records : List Record) → IsPool v.pool → IsBuffer v → Creates v records → IsTrue v.right → Shows (replayed (v.log ++ records ∷ [])) (written records v).pool.frames
shows_created v (Create space pages ∷ rest) p b makes right =
    shows_around v [] rest (Create space pages) p b refl makes.edits (λ at. ready_made v space pages rest at (frame_at v.pool.frames at).content (frame_at v.pool.frames at).page makes right refl (b.shows right at))
shows_created v other p b makes right = absurd makes

-- What the log's law sees of it.

no_space_there : (log : List (List Record)) (space number : ℕ) → ends log < 2 ^ 64 → finite.get (replayed log) space ≡ None → redone space number log ≡ no_space
no_space_there log space number small none = sym (replayed_is_redone log space number small) ∙ ap (λ (o : Option (List (List ℕ))). image_standing o number) none

module _ (v : Buffered) (beside : Beside) (m : DiskImage) (space pages : ℕ) (rest : List Record) (p : IsPool v.pool) (b : IsBuffer v) (after : IsBuffer (written (Create space pages ∷ rest) v)) (makes : MakesSpace v space pages rest)
    (quiet : finite.get m.spaces space ≡ Some (replicate pages disk.zero_page)) (k : IsKept v beside m) where
  abbrev records : List Record
  records = Create space pages ∷ rest

  abbrev end : ℕ
  end = end_of (ends v.log) records

  abbrev new : List Frame
  new = (written records v).pool.frames

  abbrev Kept : ℕ → ℕ → Type 0
  Kept s n = IsKeptPage (v.log ++ records ∷ []) (made_beside space pages beside) m s n (frame_of new s n)

  framed : AllByRecursion (HasFrame v.pool.frames) records
  framed = (tt, makes.framed)

  less : ends v.log + length (spelling records) < 2 ^ 64
  less = small v beside m records p b after k.right

  -- the pages that a record behind names are there then
  named_there : (s n : ℕ) → any_names (record { space = s; number = n }) records ≡ true → IsSome (image_page (finite.insert (replayed v.log) space (replicate pages zero_page)) s n)
  named_there s n hits = of_named (λ q. IsSome (image_page (finite.insert (replayed v.log) space (replicate pages zero_page)) q.space q.number)) (record { space = s; number = n }) rest hits (makes.there k.right)

  -- a page of another space
  other_page : (s n : ℕ) → s ≢ space → Kept s n
  other_page s n other = undisturbed (v.log ++ records ∷ []) beside (made_beside space pages beside) m m s n (frame_of new s n) refl (refl, created_other space pages s n beside.copy other) (refl, refl)
      (elsewhere v beside m [] rest (Create space pages) p b after k.right tt makes.edits framed s n (ap (λ (t : Bool). if t then becomes (made n pages) else passes) (other_space space s other))
      (λ hits. subst IsSome (page_of-elsewhere (replayed v.log) space pages s n other) (named_there s n hits)) (k.page s n))

  -- no frame has a page of the space but a new one
  nowhere : (n : ℕ) → image_page (replayed v.log) space n ≡ None
  nowhere n = ap (λ (o : Option (List (List ℕ))). option_and_then (λ ps. slice_get ps n) o) (makes.absent k.right)

  unframed : (n : ℕ) → frame_of v.pool.frames space n ≡ None
  unframed n = frame_of_absent (replayed v.log) v.pool.frames space n (b.shows k.right) (nowhere n)

  bare : (n : ℕ) → IsKeptPage v.log beside m space n None
  bare n = subst (IsKeptPage v.log beside m space n) (unframed n) (k.page space n)

  own : (space == space) ≡ true
  own = eq-eqb space space refl

  -- a page of the space
  new_page : (n : ℕ) (t : Bool) → any_names (record { space = space; number = n }) records ≡ t → Kept space n
  new_page n false miss =
      let ts = touches end space n rest in
      let suits = suits_unnamed space n v.log records less (unnamed_all end space n records miss) in
      let first = ap (λ (t : Bool). applied (redone space n v.log) ((if t then becomes (made n pages) else passes) ∷ ts)) own ∙ applied_passing (made n pages) ts (passes_all end space n rest makes.edits miss) in
      subst (IsKeptPage (v.log ++ records ∷ []) (made_beside space pages beside) m space n) (sym (frame_of-passed v beside m records p b after k.right space n miss ∙ unframed n))
      (created_page v.log beside m space n pages records quiet suits (appended space n v.log records (bare n).rule.engine.fits suits ∙ first) (bare n))
  new_page n true hits =
      let held = some_of (holder v.pool.frames (record { space = space; number = n })) (frame_there v beside m [] rest (Create space pages) p b after k.right tt makes.edits framed (record { space = space; number = n }) hits) in
      let idle = (p.frame held.0).fresh (fresh_absent (replayed v.log) v.pool.frames space n (b.shows k.right) (nowhere n) held.0 held.1) in
      let is = renewed_frame v beside m records p b after k.right space n held.0 held.1 hits in
      let low : n < pages = within (cases_lt n pages) (named_there space n hits) in
      let starts : (if space == space then becomes (made n pages) else passes) ≡ becomes (stands zero_page) = ap (λ (t : Bool). if t then becomes (made n pages) else passes) own ∙ ap (λ (t : Bool). becomes (if t then stands zero_page else past_end)) (lt-ltb n pages low) in
      let sound = subst (λ (x : Touch). Sound (redone space n v.log) (x ∷ touches end space n rest) × Ordered (x ∷ touches end space n rest)) (sym starts) (edits_sound zero_page (touches end space n rest) (resets_none end space n rest makes.edits)) in
      subst (IsKeptPage (v.log ++ records ∷ []) (made_beside space pages beside) m space n) (sym is.framed)
      (opened_page v.log beside m space n pages records quiet _ low (record { small = less; sound = sound.0; ordered = sound.1 }) is.page (no_space_there v.log space n (omega (arith, less)) (makes.absent k.right))
      (is.oldest ∙ ap (λ (o : Option ℕ). Some (unwrap_or o (ends v.log))) (clean_fresh (frame_at v.pool.frames held.0).oldest idle.1)) (is.flush ∙ ap (noted (ends v.log)) ((p.frame held.0).clean idle.1)) (bare n))
    where
      within : (n < pages) ⊎ (pages ≤ n) → IsSome (image_page (finite.insert (replayed v.log) space (replicate pages zero_page)) space n) → n < pages
      within (inl low) there = low
      within (inr past) there = absurd (false≢true (subst IsSome (page_of-past (replayed v.log) space pages n past) there))

  -- each page is kept
  pub kept_created : IsKept (written records v) (made_beside space pages beside) m
  kept_created = record { right = k.right; page = λ s n. by s n (cases_eq s space) }
    where
      by : (s n : ℕ) → (s ≡ space) ⊎ (s ≢ space) → Kept s n
      by s n (inl same) = subst (λ (x : ℕ). Kept x n) (sym same) (new_page n (any_names (record { space = space; number = n }) records) refl)
      by s n (inr other) = other_page s n other

-- a buffer is kept over a disk after a mini-transaction that makes a space
kept_by : (v : Buffered) (beside : Beside) (m : DiskImage) (records : List Record) → IsPool v.pool → IsBuffer v → IsSpelled records → Creates v records → length (spelling records) ≤ free_in v.ring → HasMade records m → IsKept v beside m → IsKept (written records v) (with_made records beside) m
kept_by v beside m (Create space count ∷ rest) p b spelled makes room on k =
    let records = Create space count ∷ rest in
    let after = IsBuffer-written v records b spelled room (λ t. shows_created v records p b makes t) in
    kept_created v beside m space count rest p b after makes on k
kept_by v beside m other p b spelled makes room on k = absurd makes

-- so a buffer stands after it, with what was made beside it
pub stands_created : (v w : Buffered) (rs : List Record) (result : Result ℕ LogFull) → IsPool v.pool → IsBuffer v → IsSpelled rs → (IsTrue v.right → Creates v rs) → Writes rs v w result
    → IfOk result (λ _. (beside : Beside) (told : Option DiskImage) → Stands v beside told → ForTold told (HasMade rs) → Stands w (with_made rs beside) told)
stands_created v w rs (Err full) p b spelled makes writes = tt
stands_created v w rs (Ok lsn) p b spelled makes writes = λ beside told st on. subst (λ (u : Buffered). Stands u (with_made rs beside) told) (sym writes.1) (by beside told st on)
  where
    by : (beside : Beside) (told : Option DiskImage) → Stands v beside told → ForTold told (HasMade rs) → Stands (written rs v) (with_made rs beside) told
    by beside None st on = tt
    by beside (Some m) k on = kept_by v beside m rs p b spelled (makes k.right) writes.0 on k

-- A file gets longer by zero pages, and a flush fails before any of the page is written.
use Rattle.std.proofs.Common.{◌≡◌, ◌<◌, ◌≤◌, ◌-◌, ◌⊎◌, inl, inr, ◌&&◌, ◌++◌, ℕ, Bool, true, false, List, length, replicate, slice_get, set, not, refl, sym, ap, subst, ◌∙◌, arith, Option, Some, None, option_and_then, IsSome}
use Rattle.clone_buffer.proofs.Common.{cases_eq, cases_lt, and_parts, false≢true, true≢false, length-append, length-replicate, get_or-replicate, zero_page, DiskImage, Record, past_end, stands, redone, PageEngine, rule_kept, Frame, Flush, frame_at, no_frame, is_begun, Frames, IsPool, with_frame, within, get_or-set_same, Beside, disk_standing, is_open, has_space, frame_of, flight_of, engine_with, IsKeptPage, IsKept}
use Rattle.std.proofs.lemmas.List.{set-set}
use Rattle.std.proofs.lemmas.Option.{slice_get_past, slice_get-get_or}
use Rattle.clone_base.proofs.Lists.{slice_get-append_left, slice_get-append_right}
use Rattle.std.specs.FinMap as finite
use Rattle.clone_image.proofs.Images.{get-put_same, get-put_other}
use Rattle.clone_outside.specs.Disk as disk
use Rattle.clone_outside.specs.Disk.{Spaces}
use Rattle.clone_outside.specs.declared.disk.Held.{Held}
use Rattle.clone_law.specs.Machine.{Lengthened}
use Rattle.clone_pool.specs.declared.frame.Flush.TheVariants as flush
use Rattle.clone_pool.specs.Frames.{is_dirty, begun, failed}
use Rattle.clone_buffer.specs.OnePage.{standing_at, standing_in}
use Rattle.clone_buffer.specs.Flushing.{FaultKeeps, LengthenKeeps}
use Rattle.clone_buffer.proofs.FlushLemmas.{undisturbed, changed_frame}
use Rattle.clone_buffer.proofs.PageLemmas.{world, Ruled}

-- A page of a list that is made longer is as before, or it is new.
longer_list : (pages n : ℕ) (ps : List Held) → (slice_get (disk.extended pages ps) n ≡ slice_get ps n) ⊎ ((slice_get ps n ≡ None) × (slice_get (disk.extended pages ps) n ≡ Some disk.zero_page))
longer_list pages n ps = by (cases_lt n (length ps)) (cases_lt n pages)
  where
    more : List Held
    more = replicate (pages - length ps) disk.zero_page

    by : (n < length ps) ⊎ (length ps ≤ n) → (n < pages) ⊎ (pages ≤ n) → (slice_get (ps ++ more) n ≡ slice_get ps n) ⊎ ((slice_get ps n ≡ None) × (slice_get (ps ++ more) n ≡ Some disk.zero_page))
    by (inl low) end = inl (slice_get-append_left ps more n low)
    by (inr high) (inl low) =
        inr (
          slice_get_past ps n high,
          slice_get-append_right ps more n (n - length ps) (omega (arith, high))
              ∙ slice_get-get_or more (n - length ps) disk.zero_page (omega (arith, high, low, length-replicate (pages - length ps) disk.zero_page))
              ∙ ap Some (get_or-replicate (pages - length ps) (n - length ps) disk.zero_page disk.zero_page (omega (arith, high, low))),
        )
    by (inr high) (inr out) = inl (slice_get_past (ps ++ more) n (omega (arith, high, out, length-append ps more, length-replicate (pages - length ps) disk.zero_page)) ∙ sym (slice_get_past ps n high))

module _ (m : DiskImage) (space pages : ℕ) where
  abbrev longer : DiskImage
  longer = disk.with_extended m space pages

  abbrev IsSame : ℕ → ℕ → Type 0
  IsSame s n = (disk.page_of longer s n ≡ disk.page_of m s n) × (disk_standing longer s n ≡ disk_standing m s n)

  -- a page that wasn't there is a zero page now
  pub record IsNew (s n : ℕ) : Type 0 where
    pub none : disk.page_of m s n ≡ None
    pub past : disk_standing m s n ≡ past_end
    pub there : disk.page_of longer s n ≡ Some disk.zero_page
    pub zero : disk_standing longer s n ≡ stands zero_page

  abbrev found : ℕ → Option (List Held) → Option Held
  found n o = option_and_then (λ ps. slice_get ps n) o

  pub longer_page : (s n : ℕ) → IsSame s n ⊎ IsNew s n
  longer_page s n = by (finite.get m.spaces space) refl (cases_eq s space)
    where
      by : (o : Option (List Held)) → finite.get m.spaces space ≡ o → (s ≡ space) ⊎ ((s ≡ space) → ⊥) → IsSame s n ⊎ IsNew s n
      by None got b = let same : longer.spaces ≡ m.spaces = ap (disk.changed m.spaces space (disk.extended pages)) got in inl (ap (λ (x : Spaces). disk.page_in x s n) same, ap (λ (x : Spaces). standing_in (finite.get x s) n) same)
      by (Some ps) got (inr other) =
          let same : finite.get longer.spaces s ≡ finite.get m.spaces s = ap (λ (o : Option (List Held)). finite.get (disk.changed m.spaces space (disk.extended pages) o) s) got ∙ get-put_other m.spaces space s (disk.extended pages ps) other in
          inl (ap (found n) same, ap (λ (o : Option (List Held)). standing_in o n) same)
      by (Some ps) got (inl own) = at (longer_list pages n ps)
        where
          was : finite.get m.spaces s ≡ Some ps
          was = ap (finite.get m.spaces) own ∙ got

          now : finite.get longer.spaces s ≡ Some (disk.extended pages ps)
          now = ap (finite.get longer.spaces) own ∙ ap (λ (o : Option (List Held)). finite.get (disk.changed m.spaces space (disk.extended pages) o) space) got ∙ get-put_same m.spaces space (disk.extended pages ps)

          standing : (d : DiskImage) (qs : List Held) → finite.get d.spaces s ≡ Some qs → disk_standing d s n ≡ standing_at (slice_get qs n)
          standing d qs is = ap (λ (o : Option (List Held)). standing_in o n) is

          at : (slice_get (disk.extended pages ps) n ≡ slice_get ps n) ⊎ ((slice_get ps n ≡ None) × (slice_get (disk.extended pages ps) n ≡ Some disk.zero_page)) → IsSame s n ⊎ IsNew s n
          at (inl same) = inl (ap (found n) now ∙ same ∙ sym (ap (found n) was), standing longer (disk.extended pages ps) now ∙ ap standing_at same ∙ sym (standing m ps was))
          at (inr new) = inr (record { none = ap (found n) was ∙ new.0; past = standing m ps was ∙ ap standing_at new.0; there = ap (found n) now ∙ new.1; zero = standing longer (disk.extended pages ps) now ∙ ap standing_at new.1 })

-- THE FILE OF A SPACE GETS LONGER
pub lengthen_keeps : LengthenKeeps
lengthen_keeps v beside m space pages k = record { right = k.right; page = λ s n. by s n (longer_page m space pages s n) }
  where
    m' : DiskImage
    m' = disk.with_extended m space pages

    by : (s n : ℕ) → IsSame m space pages s n ⊎ IsNew m space pages s n → IsKeptPage v.log beside m' s n (frame_of v.pool.frames s n)
    by s n (inl same) = undisturbed v.log beside beside m m' s n (frame_of v.pool.frames s n) refl (refl, refl) same (k.page s n)
    by s n (inr new) =
        let had = k.page s n in
        let e : PageEngine = engine_with v.log beside m s n (frame_of v.pool.frames s n) in
        let writes : Option Held → Bool = λ o. is_open o && has_space (redone s n v.log) in
        let same : writes (disk.page_of m s n) ≡ writes (disk.page_of m' s n) = ap writes new.none ∙ sym (ap writes new.there) in
        record {
          rule = subst (Ruled s n (beside.copy s n)) (λ i. record e { disk = sym new.zero i; writing = same i }) (rule_kept s n (world (beside.copy s n) e) Lengthened had.rule new.past);
          dirty = λ t. had.dirty (same ∙ t);
          opened = λ t. had.opened (same ∙ t);
          flights = had.flights;
        }

-- A FLUSH FAILS before any of the page is written.

-- a page whose flush hasn't begun isn't in flight
idle : (x : Flush) (image : Option (List ℕ)) → is_begun x ≡ false → flight_of x image ≡ None
idle flush.Idle image is = refl
idle (flush.Begun later) image is = absurd (true≢false is)
idle flush.Failed image is = refl

-- it counts as open then, and all else is as before
fault_page : (log : List (List Record)) (beside : Beside) (m : DiskImage) (s n : ℕ) (f : Frame) → is_begun f.flush ≡ false → IsKeptPage log beside m s n (Some f) → IsKeptPage log beside m s n (Some (failed (begun f)))
fault_page log beside m s n f quiet k = record {
  rule = subst (Ruled s n (beside.copy s n)) (λ i. record (engine_with log beside m s n (Some f)) { flight = idle f.flush (beside.image s n) quiet i }) k.rule;
  dirty = k.dirty;
  opened = λ t. refl;
  flights = (λ t. absurd (false≢true t), λ some. absurd (false≢true (sym quiet ∙ k.flights.1 some)));
}

pub fault_keeps : FaultKeeps
fault_keeps v beside m page at c d waits k =
    subst (λ (w : Frames). IsKept (record v { pool = w }) beside m) (sym twice)
    (changed_frame v page at (λ g. failed (begun g)) beside beside m m (record { old = c.old; new = subst IsPool twice d.new; name = c.name }) parts.0 refl refl (λ s n apart. ((refl, refl), (refl, refl)))
    (fault_page v.log beside m page.space page.number f (quiet (is_begun f.flush) parts.1)) k)
  where
    f : Frame
    f = frame_at v.pool.frames at

    parts : (is_dirty f ≡ true) × (not (is_begun f.flush) ≡ true)
    parts = and_parts _ _ waits

    quiet : (b : Bool) → not b ≡ true → b ≡ false
    quiet true is = absurd (false≢true is)
    quiet false is = refl

    low : at < length v.pool.frames
    low = within v.pool.frames at (subst IsSome (sym c.name) refl)

    twice : with_frame at failed (with_frame at begun v.pool) ≡ with_frame at (λ g. failed (begun g)) v.pool
    twice = λ i. record v.pool { frames = (ap (λ (g : Frame). set (set v.pool.frames at (begun f)) at (failed g)) (get_or-set_same v.pool.frames at (begun f) no_frame low) ∙ set-set v.pool.frames at (begun f) (failed (begun f))) i }

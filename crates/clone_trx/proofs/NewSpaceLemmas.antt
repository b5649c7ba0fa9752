-- A disk gets a space, or loses it, that the log doesn't have: a buffer that stood over the disk
-- stands.
use Rattle.std.proofs.Math.Bool.{and-false}
use Rattle.std.proofs.lemmas.Bool.{cases_eq}
use Rattle.std.specs.FinMap as finite
use Rattle.clone_outside.specs.Disk.{page_of, zero_page}
use Rattle.clone_outside.specs.declared.Refusal.{Refusal}
use Rattle.clone_outside.specs.declared.Refusal.TheVariants.{Fault, NoMemory}
use Rattle.clone_outside.specs.declared.disk.Held.{Held}
use Rattle.clone_mtr.specs.declared.record.Record.{Record}
use Rattle.clone_image.proofs.RedoLemmas.{replayed_is_redone}
use Rattle.clone_image.specs.Redone as image
use Rattle.clone_law.specs.Machine.{PageEngine, HasSpace}
use Rattle.clone_law.specs.Rule.{Rule, Bare}
use Rattle.clone_buffer.specs.Keeping.{IsKept}
use Rattle.clone_buffer.proofs.PageLemmas.{world, copy_stays}
use Rattle.clone_trx.proofs.Common.{◌≡◌, ◌≢◌, ◌&&◌, ◌⊎◌, inl, inr, ℕ, Bool, true, false, List, ◌∷◌, replicate, slice_get, refl, sym, ap, subst, ◌∙◌, arith, Option, Some, None, option_map, option_and_then, IsSome, IsTrue, false≢true, DiskImage, ForTold, Steps, IsBeforeOrAfter, with_created, with_removed, Create, get-put_same, get-put_other, Standing, no_space, redone, Frame, counts_as_open, Buffered, IsBuffer, image_of, Beside, engine_with, frame_of, bytes_in, oldest_in, flush_in, flight_of, standing_in, is_open, has_space, IsKeptPage, Stands, HasMade, nat_cmp_total, nat_cmp-IsAntisymmetric, get-removed_other, StaysStanding}

module _ (log : List (List Record)) (beside : Beside) (m n : DiskImage) (space number : ℕ) (frame : Option Frame) where
  -- a page of a space that the log doesn't have may stand on the disk in any way
  pub off_log : redone space number log ≡ no_space → IsKeptPage log beside m space number frame → IsKeptPage log beside n space number frame
  off_log none k = record {
    rule =
        let r = k.rule.engine in
        let e : PageEngine = engine_with log beside n space number frame in
        record {
          engine = record {
            fits = r.fits;
            framed = r.framed;
            quiet = λ _ has. absurd (subst HasSpace none has);
            flying = r.flying;
            order = r.order;
            bare = subst (λ (w : Bool). Bare (bytes_in frame) w (oldest_in frame) (flight_of (flush_in frame) (beside.image space number))) (shut m ∙ sym (shut n)) r.bare;
            low = r.low;
            aligned = r.aligned;
          };
          copy = copy_stays space number (engine_with log beside m space number frame) e.disk e.writing e.flight (beside.copy space number) (λ _. shut n) (λ grounded. grounded) k.rule.copy;
        };
    dirty = λ t. absurd (false≢true (sym (shut n) ∙ t));
    opened = λ t. absurd (false≢true (sym (shut n) ∙ t));
    flights = k.flights;
  }
    where
      shut : (d : DiskImage) → (is_open (page_of d space number) && has_space (redone space number log)) ≡ false
      shut d = ap (λ (s : Standing). is_open (page_of d space number) && has_space s) none ∙ and-false (is_open (page_of d space number))

  abbrev engine : Option (List Held) → PageEngine
  engine o = record {
    log = log;
    checkpoint = beside.checkpoint;
    disk = standing_in o number;
    writing = is_open (option_and_then (λ pages. slice_get pages number) o) && has_space (redone space number log);
    frame = bytes_in frame;
    oldest = oldest_in frame;
    flight = flight_of (flush_in frame) (beside.image space number);
  }

  -- a page of a space that stands as before
  same_space : finite.get n.spaces space ≡ finite.get m.spaces space → IsKeptPage log beside m space number frame → IsKeptPage log beside n space number frame
  same_space is k = record {
    rule = subst (λ (o : Option (List Held)). Rule space number (world (beside.copy space number) (engine o))) (sym is) k.rule;
    dirty = subst (λ (o : Option (List Held)). (engine o).writing ≡ true → IsSome (oldest_in frame)) (sym is) k.dirty;
    opened = subst (λ (o : Option (List Held)). (engine o).writing ≡ true → counts_as_open (flush_in frame) ≡ true) (sym is) k.opened;
    flights = k.flights;
  }

module _ (v : Buffered) (space : ℕ) (b : IsBuffer v) (absent : IsTrue v.right → finite.get (image_of v) space ≡ None) where
  -- no page of it is in the log
  off : (number : ℕ) → IsTrue v.right → redone space number v.log ≡ no_space
  off number right = let below = b.below in sym (replayed_is_redone v.log space number (omega (arith, below))) ∙ ap (λ (o : Option (List (List ℕ))). image.standing_in o number) (absent right)

  -- a disk that has the other spaces as before
  kept : (beside : Beside) (m n : DiskImage) → ((s : ℕ) → s ≢ space → finite.get n.spaces s ≡ finite.get m.spaces s) → IsKept v beside m → IsKept v beside n
  kept beside m n others k = record { right = k.right; page = λ s number. by s number (cases_eq s space) (k.page s number) }
    where
      by : (s number : ℕ) → (s ≡ space) ⊎ (s ≢ space) → IsKeptPage v.log beside m s number (frame_of v.pool.frames s number) → IsKeptPage v.log beside n s number (frame_of v.pool.frames s number)
      by s number (inl same) page = off_log v.log beside m n s number (frame_of v.pool.frames s number) (ap (λ (x : ℕ). redone x number v.log) same ∙ off number k.right) page
      by s number (inr other) page = same_space v.log beside m n s number (frame_of v.pool.frames s number) (others s other) page

  -- the disk has changed the space alone
  pub disk_changed : (step : DiskImage → DiskImage) → ((m : DiskImage) (s : ℕ) → s ≢ space → finite.get (step m).spaces s ≡ finite.get m.spaces s) → (before after : Option DiskImage) → Steps before after step → StaysStanding v v before after
  disk_changed step others before after is = λ beside st. subst (λ (t : Option DiskImage). Stands v beside t) (sym is) (by beside before st)
    where
      by : (beside : Beside) (t : Option DiskImage) → Stands v beside t → Stands v beside (option_map step t)
      by beside None st = tt
      by beside (Some m) k = kept beside m (step m) (others m) k

  -- it has removed the space, or it hasn't
  pub disk_removed : (before after : Option DiskImage) → IsBeforeOrAfter before after (λ m. with_removed m space) → StaysStanding v v before after
  disk_removed before after (inl same) = λ beside st. subst (λ (t : Option DiskImage). Stands v beside t) (sym same) st
  disk_removed before after (inr step) = disk_changed (λ m. with_removed m space) (λ m s other. get-removed_other nat_cmp_total nat_cmp-IsAntisymmetric m.spaces space s other) before after step

module _ (v : Buffered) (space count : ℕ) (b : IsBuffer v) (absent : IsTrue v.right → finite.get (image_of v) space ≡ None) where
  -- the disk has made the space
  pub disk_made : (before after : Option DiskImage) → Steps before after (λ m. with_created m space count) → StaysStanding v v before after
  disk_made before after step = disk_changed v space b absent (λ m. with_created m space count) (λ m s other. get-put_other m.spaces space s (replicate count zero_page) other) before after step

  -- or it has failed, and may have made the space or not
  pub disk_failed : (before after : Option DiskImage) (refusal : Refusal) → (refusal ≡ Fault → IsBeforeOrAfter before after (λ m. with_created m space count)) → (refusal ≡ NoMemory → after ≡ before) → StaysStanding v v before after
  disk_failed before after Fault fault memory = by (fault refl)
    where
      by : IsBeforeOrAfter before after (λ m. with_created m space count) → StaysStanding v v before after
      by (inl same) = λ beside st. subst (λ (t : Option DiskImage). Stands v beside t) (sym same) st
      by (inr step) = disk_made before after step
  disk_failed before after NoMemory fault memory = λ beside st. subst (λ (t : Option DiskImage). Stands v beside t) (sym (memory refl)) st

-- it has the space then
pub has_made : (before after : Option DiskImage) (table buckets : ℕ) (rest : List Record) → Steps before after (λ m. with_created m table buckets) → ForTold after (HasMade (Create table buckets ∷ rest))
has_made before after table buckets rest step = subst (λ (t : Option DiskImage). ForTold t (HasMade (Create table buckets ∷ rest))) (sym step) (by before)
  where
    by : (t : Option DiskImage) → ForTold (option_map (λ m. with_created m table buckets) t) (HasMade (Create table buckets ∷ rest))
    by None = tt
    by (Some m) = get-put_same m.spaces table (replicate buckets zero_page)

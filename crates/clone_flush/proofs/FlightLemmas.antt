-- The writes of pages that are under way: what each call leaves of how they stand to the disk.
use Rattle.std.proofs.Common.{◌≡◌, ◌≢◌, ◌≤◌, ◌<◌, ◌⊎◌, inl, inr, ℕ, Bool, true, false, List, length, take, drop, ◌++◌, refl, sym, ap, subst, ◌∙◌, arith, Option, Some, None, IsSome, option_map, nat_lt, nat_le, max, IfSome, ◌&&◌, if◌then◌else◌}
use Rattle.std.specs.FinMap as finite
use Rattle.std.proofs.Math.Nat.{le-min, min-le_left, min-eq_left, max-eq_left}
use Rattle.std.proofs.lemmas.Bool.{cases_lt, true≢false, lt-ltb, le-ltb, le-leb}
use Rattle.std.proofs.lemmas.List.{length-take-le}
use Rattle.std.proofs.Math.Seq.{take-append_seam}
use Rattle.clone_base.proofs.MapEntries.{get-set_same, get-set_other, get-removed_same, get-removed_other}
use Rattle.clone_model.proofs.RowMaps.{row_cmp_total, row_cmp_exact}
use Rattle.clone_outside.specs.Disk as disk
use Rattle.clone_outside.specs.Disk.{DiskImage, Steps, Opens, ForTold, half_written, rest_written, opened}
use Rattle.clone_outside.specs.declared.disk.Held.{Held}
use Rattle.clone_outside.specs.declared.disk.TheConstants.{HALF_PAGE}
use Rattle.clone_pool.specs.Frames.{frame_at, name_of, is_waiting, IsInFlight, begun, landed, failed}
use Rattle.clone_pool.specs.Pool.{IsPool}
use Rattle.clone_pool.specs.declared.frame.Frame.{Frame}
use Rattle.clone_pool.specs.declared.frame.PageName.{PageName}
use Rattle.clone_ring.specs.Window.{Window, end_of, raised}
use Rattle.clone_buffer.specs.Buffered.{Buffered, IsBuffer}
use Rattle.clone_buffer.specs.OnePage.{Beside, Copies}
use Rattle.clone_buffer.specs.Keeping.{IsKept}
use Rattle.clone_buffer.specs.Flushing.{with_image, with_begun, with_noted, with_change, Changes, IsReached}
use Rattle.clone_buffer.proofs.FlushLemmas.{each, image_this, image_other, this_page, other_page, begin_keeps, open_keeps, land_keeps, rest_lands, fail_keeps, checkpoint_keeps, at_most}
use Rattle.clone_flush.specs.Flights.{Flights, IsOnDisk, IsFlown, StandsFlown, beside_of, write_of}
use Rattle.clone_flush.specs.Calls.{with_write, without_write, new_write, floored, needed_from, nearest_in, settled}
use Rattle.clone_flush.specs.declared.flusher.PageWrite.{PageWrite}

abbrev image_in : Option PageWrite → Option (List ℕ)
image_in o = option_map (λ (w : PageWrite). w.image) o

-- What flushes keep of the writes, where one of them changes.
module _ (f : Flights) (page : PageName) where
  abbrev key : ℕ × ℕ
  key = (page.space, page.number)

  other_key : (s n : ℕ) → (page ≡ record { space = s; number = n } → ⊥) → (s, n) ≢ key
  other_key s n apart same = apart (λ i. record { space = (sym same i).0; number = (sym same i).1 })

  pub set_here : (w : PageWrite) → write_of (with_write page w f) page ≡ Some w
  set_here w = get-set_same row_cmp_total row_cmp_exact f.writes key w

  set_other : (w : PageWrite) (s n : ℕ) → (page ≡ record { space = s; number = n } → ⊥) → finite.get (with_write page w f).writes (s, n) ≡ finite.get f.writes (s, n)
  set_other w s n apart = get-set_other row_cmp_total row_cmp_exact f.writes key w (s, n) (other_key s n apart)

  gone_here : write_of (without_write page f) page ≡ None
  gone_here = get-removed_same row_cmp_total row_cmp_exact f.writes key

  gone_other : (s n : ℕ) → (page ≡ record { space = s; number = n } → ⊥) → finite.get (without_write page f).writes (s, n) ≡ finite.get f.writes (s, n)
  gone_other s n apart = get-removed_other row_cmp_total row_cmp_exact f.writes key (s, n) (other_key s n apart)

  module _ (copies : Copies) where
    pub image_put : (w : PageWrite) → with_begun page w.image (beside_of f copies) ≡ beside_of (with_write page w f) (with_noted page copies)
    image_put w = λ i. record {
      checkpoint = f.checkpoint;
      image = λ s n. each page (λ s n. (with_image page (Some w.image) (beside_of f copies)).image s n ≡ image_in (finite.get (with_write page w f).writes (s, n)))
          (image_this page (Some w.image) (beside_of f copies) ∙ sym (ap image_in (set_here w)))
          (λ s n apart. image_other page (Some w.image) (beside_of f copies) s n apart ∙ sym (ap image_in (set_other w s n apart))) s n i;
      copy = with_noted page copies;
    }

    pub image_gone : with_image page None (beside_of f copies) ≡ beside_of (without_write page f) copies
    image_gone = λ i. record {
      checkpoint = f.checkpoint;
      image = λ s n. each page (λ s n. (with_image page None (beside_of f copies)).image s n ≡ image_in (finite.get (without_write page f).writes (s, n)))
          (image_this page None (beside_of f copies) ∙ sym (ap image_in gone_here))
          (λ s n apart. image_other page None (beside_of f copies) s n apart ∙ sym (ap image_in (gone_other s n apart))) s n i;
      copy = copies;
    }

    pub image_kept : (w v : PageWrite) → write_of f page ≡ Some w → v.image ≡ w.image → beside_of f copies ≡ beside_of (with_write page v f) copies
    image_kept w v is same = λ i. record {
      checkpoint = f.checkpoint;
      image = λ s n. each page (λ s n. image_in (finite.get f.writes (s, n)) ≡ image_in (finite.get (with_write page v f).writes (s, n)))
          (ap image_in is ∙ ap (λ (x : List ℕ). Some x) (sym same) ∙ sym (ap image_in (set_here v)))
          (λ s n apart. sym (ap image_in (set_other v s n apart))) s n i;
      copy = copies;
    }

  abbrev AreThere : Flights → DiskImage → Type 0
  AreThere g m = (q : PageName) (w : PageWrite) → write_of g q ≡ Some w → IsOnDisk w (disk.page_of m q.space q.number)

  -- the page's write is there, and so are the others, where the disk has their pages as before
  set_there : (m m' : DiskImage) (v : PageWrite) → AreThere f m → IsOnDisk v (disk.page_of m' page.space page.number)
      → ((s n : ℕ) → (page ≡ record { space = s; number = n } → ⊥) → disk.page_of m' s n ≡ disk.page_of m s n) → AreThere (with_write page v f) m'
  set_there m m' v all this others q w is = each page (λ s n. finite.get (with_write page v f).writes (s, n) ≡ Some w → IsOnDisk w (disk.page_of m' s n))
      (λ e. let same : Some v ≡ Some w = sym (set_here v) ∙ e in let w_is : v ≡ w = cc in subst (λ (x : PageWrite). IsOnDisk x (disk.page_of m' page.space page.number)) w_is this)
      (λ s n apart e. subst (IsOnDisk w) (sym (others s n apart)) (all (record { space = s; number = n }) w (sym (set_other v s n apart) ∙ e))) q.space q.number is

  gone_there : (m m' : DiskImage) → AreThere f m → ((s n : ℕ) → (page ≡ record { space = s; number = n } → ⊥) → disk.page_of m' s n ≡ disk.page_of m s n) → AreThere (without_write page f) m'
  gone_there m m' all others q w is = each page (λ s n. finite.get (without_write page f).writes (s, n) ≡ Some w → IsOnDisk w (disk.page_of m' s n))
      (λ e. let none : None ≡ Some w = sym gone_here ∙ e in absurd (cc))
      (λ s n apart e. subst (IsOnDisk w) (sym (others s n apart)) (all (record { space = s; number = n }) w (sym (gone_other s n apart) ∙ e))) q.space q.number is

pub held_there : {X : Type 0} (o : Option X) → IsSome o → (x : X) × (o ≡ Some x)
held_there None there = absurd (cc)
held_there (Some x) there = (x, refl)

pub same_write : (o : Option PageWrite) (v w : PageWrite) → Some v ≡ o → o ≡ Some w → v ≡ w
same_write o v w a b = let both : Some v ≡ Some w = a ∙ b in cc

on_disk : (w : PageWrite) (o : Option Held) → IsOnDisk w o → (held : Held) × (o ≡ Some held) × (w.halved ≡ true → take HALF_PAGE held.bytes ≡ take HALF_PAGE w.image)
on_disk w None there = absurd there
on_disk w (Some held) there = (held, refl, there)

first_half : (xs ys : List ℕ) → HALF_PAGE ≤ length xs → take HALF_PAGE (take HALF_PAGE xs ++ ys) ≡ take HALF_PAGE xs
first_half xs ys low = subst (λ (n : ℕ). take n (take HALF_PAGE xs ++ ys) ≡ take HALF_PAGE xs) (length-take-le HALF_PAGE xs low) (take-append_seam (take HALF_PAGE xs) ys)

-- A flush of a page, step by step.
module _ (b : Buffered) (f : Flights) (copies : Copies) (m : DiskImage) (page : PageName) (at : ℕ) (k : IsFlown b f copies m) where
  abbrev written : (Held → Held) → DiskImage
  written edit = disk.with_page m page.space page.number edit

  others : (edit : Held → Held) (s n : ℕ) → (page ≡ record { space = s; number = n } → ⊥) → disk.page_of (written edit) s n ≡ disk.page_of m s n
  others edit s n apart = (other_page m page edit s n apart).0

  pub flown_begun : Changes b page at begun → is_waiting (frame_at b.pool.frames at) ≡ true → IsSome (disk.page_of m page.space page.number) → IsFlown (with_change at begun b) (with_write page (new_write at b) f) (with_noted page copies) m
  flown_begun c waits there =
      let held = held_there (disk.page_of m page.space page.number) there in
      record {
        kept = subst (λ (g : Beside). IsKept (with_change at begun b) g m) (image_put f page copies (new_write at b)) (begin_keeps b (beside_of f copies) m page at c waits k.kept);
        there = set_there f page m m (new_write at b) k.there (subst (IsOnDisk (new_write at b)) (sym held.1) (λ e. absurd (true≢false (sym e)))) (λ s n apart. refl);
        floor = k.floor;
      }

  -- where a write of the page is under way
  module _ (w : PageWrite) (is : write_of f page ≡ Some w) (p : IsPool b.pool) (name : name_of (frame_at b.pool.frames at) ≡ Some page) (flies : IsInFlight (frame_at b.pool.frames at)) where
    spot : (held : Held) × (disk.page_of m page.space page.number ≡ Some held) × (w.halved ≡ true → take HALF_PAGE held.bytes ≡ take HALF_PAGE w.image)
    spot = on_disk w (disk.page_of m page.space page.number) (k.there page w is)

    there : IsSome (disk.page_of m page.space page.number)
    there = subst IsSome (sym spot.1) refl

    pub flown_halved : HALF_PAGE ≤ length w.image → IsFlown b (with_write page (record w { halved = true }) f) copies (written (half_written w.image))
    flown_halved low =
        let v : PageWrite = record w { halved = true } in
        record {
          kept = subst (λ (g : Beside). IsKept b g (written (half_written w.image))) (image_kept f page copies w v is refl) (open_keeps b (beside_of f copies) m page at (half_written w.image) p name flies there (λ held. refl) k.kept);
          there = set_there f page m (written (half_written w.image)) v k.there (subst (IsOnDisk v) (sym (this_page m page (half_written w.image) spot.0 spot.1).0) (λ e. first_half w.image (drop HALF_PAGE spot.0.bytes) low)) (others (half_written w.image));
          floor = k.floor;
        }

    -- the disk has the page as it was when the flush began
    pub landed_there : w.halved ≡ true → disk.page_of (written (rest_written w.image)) page.space page.number ≡ Some (record { bytes = w.image; writing = false })
    landed_there half = (this_page m page (rest_written w.image) spot.0 spot.1).0 ∙ ap (λ (h : Held). Some h) (rest_lands w.image spot.0 (spot.2 half))

    pub flown_landed : w.halved ≡ true → Changes b page at landed → IsFlown (with_change at landed b) (without_write page f) copies (written (rest_written w.image))
    flown_landed half c = record {
      kept = subst (λ (g : Beside). IsKept (with_change at landed b) g (written (rest_written w.image))) (image_gone f page copies)
          (land_keeps b (beside_of f copies) m page at w.image spot.0 (rest_written w.image) c flies (ap image_in is) spot.1 (rest_lands w.image spot.0 (spot.2 half)) k.kept);
      there = gone_there f page m (written (rest_written w.image)) k.there (others (rest_written w.image));
      floor = k.floor;
    }

    pub flown_failed : (bytes : List ℕ) → Changes b page at failed → IsFlown (with_change at failed b) (without_write page f) copies (written (opened bytes))
    flown_failed bytes c = record {
      kept = subst (λ (g : Beside). IsKept (with_change at failed b) g (written (opened bytes))) (image_gone f page copies)
          (fail_keeps b (beside_of f copies) (written (opened bytes)) page at c flies (open_keeps b (beside_of f copies) m page at (opened bytes) p name flies there (λ held. refl) k.kept));
      there = gone_there f page m (written (opened bytes)) k.there (others (opened bytes));
      floor = k.floor;
    }

-- The log that isn't needed goes.

-- as far as an LSN, where that is within it
floored_to : (lsn : ℕ) (ring : Window) → ring.floor ≤ lsn → lsn ≤ end_of ring → (floored lsn ring).floor ≡ lsn
floored_to lsn ring low within = by (cases_lt ring.floor lsn)
  where
    by : (ring.floor < lsn) ⊎ (lsn ≤ ring.floor) → (floored lsn ring).floor ≡ lsn
    by (inl above) = ap (λ (b : Bool). (if b && nat_le lsn (end_of ring) then raised lsn ring else ring).floor) (lt-ltb ring.floor lsn above) ∙ ap (λ (b : Bool). (if b then raised lsn ring else ring).floor) (le-leb lsn (end_of ring) within)
    by (inr same) = ap (λ (b : Bool). (if b && nat_le lsn (end_of ring) then raised lsn ring else ring).floor) (le-ltb ring.floor lsn same) ∙ omega (arith, same, low)

-- and never above it
floored_below : (lsn bound : ℕ) (ring : Window) → ring.floor ≤ bound → lsn ≤ bound → (floored lsn ring).floor ≤ bound
floored_below lsn bound ring low below = by (nat_lt ring.floor lsn && nat_le lsn (end_of ring))
  where
    by : (b : Bool) → (if b then raised lsn ring else ring).floor ≤ bound
    by true = below
    by false = low

needed_below : (lsn : ℕ) (kept_from : Option ℕ) → needed_from lsn kept_from ≤ lsn
needed_below lsn None = omega (arith)
needed_below lsn (Some kept) = min-le_left lsn kept

needed_above : (floor lsn : ℕ) (kept_from : Option ℕ) → floor ≤ lsn → IfSome kept_from (λ kept. floor ≤ kept) → floor ≤ needed_from lsn kept_from
needed_above floor lsn None low kept = low
needed_above floor lsn (Some kept) low also = le-min low also

-- the checkpoint is within the log
flown_within : (b : Buffered) (f : Flights) (copies : Copies) (m : DiskImage) → IsBuffer b → IsFlown b f copies m → f.checkpoint ≤ end_of b.ring
flown_within b f copies m is k = omega (arith, at_most f.checkpoint b.log (k.kept.page 0 0).rule.engine.aligned, is.end)

flown_settled : (b : Buffered) (f : Flights) (copies : Copies) (m : DiskImage) (kept_from : Option ℕ) → IsFlown b f copies m → IsFlown (settled f.checkpoint kept_from b) f copies m
flown_settled b f copies m kept_from k = record {
  kept = record { right = k.kept.right; page = k.kept.page };
  there = k.there;
  floor = floored_below (needed_from f.checkpoint kept_from) f.checkpoint b.ring k.floor (needed_below f.checkpoint kept_from);
}

settled_to : (b : Buffered) (f : Flights) (copies : Copies) (m : DiskImage) (kept_from : Option ℕ) → IsBuffer b → IsFlown b f copies m → IfSome kept_from (λ kept. b.ring.floor ≤ kept) → (settled f.checkpoint kept_from b).ring.floor ≡ needed_from f.checkpoint kept_from
settled_to b f copies m kept_from is k kept =
    floored_to (needed_from f.checkpoint kept_from) b.ring (needed_above b.ring.floor f.checkpoint kept_from k.floor kept) (omega (arith, needed_below f.checkpoint kept_from, flown_within b f copies m is k))

-- A checkpoint.
flown_checked : (b : Buffered) (f : Flights) (copies : Copies) (m : DiskImage) (lsn : ℕ) → IsPool b.pool → IsReached b lsn → IsFlown b f copies m → IsFlown b (record f { checkpoint = lsn }) copies m
flown_checked b f copies m lsn p reached k =
    let all = checkpoint_keeps b (beside_of f copies) m lsn p reached k.kept in
    record { kept = record { right = all.2.right; page = all.2.page }; there = k.there; floor = omega (arith, k.floor, all.0) }

-- the checkpoint is its nearest LSN
nearest_is : (ring : Window) (lsn : ℕ) → ring.floor ≤ lsn → lsn ≤ end_of ring → nearest_in ring lsn ≡ lsn
nearest_is ring lsn low within = ap (λ (n : ℕ). max n ring.floor) (min-eq_left within) ∙ max-eq_left low

-- Where a disk tells what it holds.
module _ (b : Buffered) (f : Flights) (copies : Copies) where
  pub stands_checked : (told : Option DiskImage) (lsn : ℕ) → IsPool b.pool → IsReached b lsn → StandsFlown b f copies told → StandsFlown b (record f { checkpoint = lsn }) copies told
  stands_checked None lsn p reached st = tt
  stands_checked (Some m) lsn p reached k = flown_checked b f copies m lsn p reached k

  pub stands_settled : (told : Option DiskImage) (kept_from : Option ℕ) → StandsFlown b f copies told → StandsFlown (settled f.checkpoint kept_from b) f copies told
  stands_settled None kept_from st = tt
  stands_settled (Some m) kept_from k = flown_settled b f copies m kept_from k

  pub floor_settled : (told : Option DiskImage) (kept_from : Option ℕ) → IsBuffer b → StandsFlown b f copies told → IfSome kept_from (λ kept. b.ring.floor ≤ kept)
      → ForTold told (λ m. (settled f.checkpoint kept_from b).ring.floor ≡ needed_from f.checkpoint kept_from)
  floor_settled None kept_from is st kept = tt
  floor_settled (Some m) kept_from is k kept = settled_to b f copies m kept_from is k kept

  pub start_told : (told : Option DiskImage) → IsBuffer b → StandsFlown b f copies told → ForTold told (λ m. nearest_in b.ring f.checkpoint ≡ f.checkpoint)
  start_told None is st = tt
  start_told (Some m) is k = nearest_is b.ring f.checkpoint k.floor (flown_within b f copies m is k)

-- what holds of what is told, after a step
pub told_stepped : (P Q : DiskImage → Type 0) (before after : Option DiskImage) (step : DiskImage → DiskImage) → Steps before after step → ((m : DiskImage) → P m → Q (step m)) → ForTold before P → ForTold after Q
told_stepped P Q None after step is one had = subst (λ (t : Option DiskImage). ForTold t Q) (sym is) tt
told_stepped P Q (Some m) after step is one had = subst (λ (t : Option DiskImage). ForTold t Q) (sym is) (one m had)

-- where a change of the frame leaves the pool one
pub changes_at : (b n : Buffered) (page : PageName) (at : ℕ) (change : Frame → Frame) → IsPool b.pool → n ≡ with_change at change b → IsPool n.pool → name_of (frame_at b.pool.frames at) ≡ Some page → Changes b page at change
changes_at b n page at change p is q name = record { old = p; new = subst (λ (x : Buffered). IsPool x.pool) is q; name = name }

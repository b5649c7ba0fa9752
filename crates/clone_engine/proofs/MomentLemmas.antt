-- The redo that is archived, and what a donor was at the stop.
use Rattle.std.proofs.Common.{[], ◌≡◌, ◌<◌, ◌≤◌, ◌^◌, ◌++◌, ◌∷◌, ◌∙◌, ℕ, List, length, sym, ap, subst, arith, append_assoc, is_some, IsTrue, ◌+◌, ◌-◌, ◌&&◌, suc, Bool, true, false, take, drop, refl, inl, inr, Option, None, Some, if◌then◌else◌, zero, ◌⊎◌, cond, IsSome, option_map, option_and_then}
use Rattle.std.proofs.lemmas.List.{append-nil, length-append, length-take, length-drop, drop-drop, drop-append-le, take-append-le}
use Rattle.std.specs.List.{AllByRecursion}
use Rattle.clone_outside.specs.Disk.{ForTold, DiskImage}
use Rattle.clone_mtr.specs.declared.record.Record.{Record}
use Rattle.clone_mtr.specs.Spelling.{spelling, log_of}
use Rattle.clone_image.specs.Replay.{IsSpelled, replayed, first_lsn}
use Rattle.clone_image.proofs.Logs.{log_of-push, log_of-append}
use Rattle.clone_law.specs.Since.{ends, IsAt, Since, AllFit}
use Rattle.clone_contents.specs.Formed.{IsFormed}
use Rattle.clone_contents.specs.Placed.{WasPlaced, IsPlaced}
use Rattle.clone_contents.proofs.PlacedLemmas.{placed_longer}
use Rattle.clone_buffer.specs.Buffered.{IsBuffer, Buffered}
use Rattle.clone_buffer.specs.OnePage.{no_copies}
use Rattle.clone_flush.specs.Flights.{IsFlown}
use Rattle.clone_engine.specs.Engine.{Engine, IsEngine}
use Rattle.clone_engine.specs.Growth.{LogGoes}
use Rattle.clone_engine.proofs.ToldLemmas.{told_with, of_told}
use Rattle.std.specs.Prelude.{nat_lt, nat_le, unwrap_or, slice_get}
use Rattle.std.specs.Option.{ForSome}
use Rattle.std.proofs.lemmas.Bool.{and_parts, cases_lt, lt-ltb, le-ltb, ltb-true, leb-true}
use Rattle.clone_ring.specs.Window.{Window, end_of, raised}
use Rattle.clone_flush.specs.Calls.{needed_from, nearest_in, settled}
use Rattle.clone_archive.specs.Archived.{Archived, archived_of, begun, stopped, next_count, unless_reached, kept_from, end_in, copied}
use Rattle.clone_session.specs.Cloning.{Cloning, Session, IsCloning, IsInSession, IsInStage}
use Rattle.clone_session.specs.CloneCalls.{CanArchive, IsWithinRing, archived_on}
use Rattle.std.proofs.Math.Seq.{take-add, take-length, drop-append_seam}
use Rattle.clone_engine.specs.Archives.{IsOfLog}
use Rattle.clone_image.specs.Redone.{Standing, standing_in, standing_of}
use Rattle.clone_law.specs.Machine.{PageEngine, Stopped, Copy}
use Rattle.clone_law.specs.Rule.{CopyRule}
use Rattle.clone_law.specs.Starts.{IsStart, HasStart, Gives}
use Rattle.clone_law.proofs.EventLemmas.{since_lax}
use Rattle.std.specs.FinMap as finite
use Rattle.clone_base.proofs.Lists.{slice_get-some}
use Rattle.clone_outside.specs.Mark.{IsEnd}
use Rattle.clone_outside.specs.declared.mark.CloneEnd.{CloneEnd}
use Rattle.clone_image.specs.Image.{Image, page_of, page_count}
use Rattle.clone_contents.specs.Records.{system_size}
use Rattle.clone_overlay.specs.Images.{redo_space, image_of, bytes_of}
use Rattle.clone_overlay.proofs.Bases.{get_image}
use Rattle.clone_recover.specs.Reading.{redo_of}
use Rattle.clone_trx.specs.Sound.{IsKept}
use Rattle.clone_snapshot.specs.StageLists.{StageList, Files, Pages, Redo, Nothing}
use Rattle.clone_staged.specs.Staged.{IsStaged}
use Rattle.clone_staged.proofs.HeldCopies.{staged_holds}
use Rattle.clone_staged.proofs.PlacedPages.{may_start}
use Rattle.clone_engine.specs.Acts.{Act, Runs, after_act}
use Rattle.clone_engine.specs.Donor.{Donor, IsDonor, list_of}
use Rattle.clone_engine.specs.Laid.{HoldsMoment, IsComplete, IsLaid}
use Rattle.clone_engine.specs.Taken.{HasStopped, IsTaken, IsTakenBy, IsTakenIn, Taken}
use Rattle.clone_engine.proofs.TakenPages.{engine_at}

-- Each page stays at its place as the log grows.

last_part : {X : Type 0} (P : X → Type 0) (xs : List X) (x : X) → AllByRecursion P (xs ++ x ∷ []) → AllByRecursion P xs × P x
last_part P [] x all = (tt, all.0)
last_part P (y ∷ ys) x all = let parts = last_part P ys x all.1 in ((all.0, parts.0), parts.1)

-- each page was placed at each moment of the log
abbrev pub WerePlaced : List (List Record) → Type 0
WerePlaced log = (space number : ℕ) → WasPlaced space number log

-- a mini-transaction more, which leaves a formed image
placed_by : (log : List (List Record)) (records : List Record) → AllByRecursion IsSpelled (log ++ records ∷ []) → ends (log ++ records ∷ []) < 2 ^ 64 → IsFormed (replayed (log ++ records ∷ [])) → WerePlaced log → WerePlaced (log ++ records ∷ [])
placed_by log records spelled below formed were = λ space number.
    let parts = last_part IsSpelled log records spelled in
    placed_longer log records parts.0 parts.1 below formed space number (were space number)

-- what ends earlier ends below
ends_before : (log : List (List Record)) (records : List Record) → ends log ≤ ends (log ++ records ∷ [])
ends_before log records = omega (arith, ap length (log_of-push log records), length-append (log_of log) (spelling records))

module _ (s t : Engine) (is : IsEngine t) (b : IsBuffer t.buffer) where
  abbrev old : List (List Record)
  old = s.buffer.log

  low : ends t.buffer.log < 2 ^ 64
  low = omega (arith, b.below)

  formed : IsTrue t.buffer.right → IsFormed (replayed t.buffer.log)
  formed right = (is.keeps.kept right).formed

  pub grown : (records : List Record) → IsTrue t.buffer.right → t.buffer.log ≡ old ++ records ∷ [] → WerePlaced old → WerePlaced t.buffer.log
  grown records right log were =
      subst WerePlaced (sym log)
      (placed_by old records (subst (AllByRecursion IsSpelled) log b.spelled) (subst (λ (l : List (List Record)). ends l < 2 ^ 64) log low) (subst (λ (l : List (List Record)). IsFormed (replayed l)) log (formed right)) were)

  -- by two, of which the first leaves a formed image, too
  twice : (first second : List Record) → IsTrue t.buffer.right → t.buffer.log ≡ old ++ first ∷ second ∷ [] → IsFormed (replayed (old ++ first ∷ [])) → WerePlaced old → WerePlaced t.buffer.log
  twice first second right log between were =
      let mid : List (List Record) = old ++ first ∷ [] in
      let split : t.buffer.log ≡ mid ++ second ∷ [] = log ∙ sym (append_assoc old (first ∷ []) (second ∷ [])) in
      let spelled = subst (AllByRecursion IsSpelled) split b.spelled in
      let below = subst (λ (l : List (List Record)). ends l < 2 ^ 64) split low in
      subst WerePlaced (sym split)
      (placed_by mid second spelled below (subst (λ (l : List (List Record)). IsFormed (replayed l)) split (formed right))
      (placed_by old first (last_part IsSpelled mid second spelled).0 (omega (arith, below, ends_before mid second)) between were))

  grows : IsTrue t.buffer.right → LogGoes s t → WerePlaced old → WerePlaced t.buffer.log
  grows right goes were = by goes.log.more goes.log.few goes.log.is
    where
      by : (more : List (List Record)) → length more ≤ 2 → t.buffer.log ≡ old ++ more → WerePlaced t.buffer.log
      by [] few log = subst WerePlaced (sym (log ∙ append-nil old)) were
      by (x ∷ []) few log = grown x right log were
      by (x ∷ y ∷ []) few log = twice x y right log (goes.between x y log right) were
      by (x ∷ y ∷ z ∷ rest) few log = absurd (omega (arith, few))

  pub placed_on : is_some t.disk.told ≡ is_some s.disk.told → LogGoes s t → ForTold s.disk.told (λ m. WerePlaced old) → ForTold t.disk.told (λ m. WerePlaced t.buffer.log)
  placed_on tells log had = told_with (IsFlown t.buffer t.flights no_copies) (WerePlaced old) (WerePlaced t.buffer.log) s.disk.told t.disk.told tells (λ m flown were. grows flown.kept.right log were) is.stands had

-- The ring has what comes next for an archive, whatever happens to the ring and to the archive.

-- an LSN from the ring's floor to its end
abbrev pub IsInRing : Window → ℕ → Type 0
IsInRing ring lsn = (ring.floor ≤ lsn) × (lsn ≤ end_of ring)

-- archiving hasn't ended
abbrev IsLeft : Option ℕ → ℕ → Type 0
IsLeft stop archived = archived < unwrap_or stop (suc archived)

none_of : {X : Type 0} (x : X) → None ≡ Some x → ⊥
none_of x is = cc

kept_if : (stop : Option ℕ) (archived : ℕ) (P : ℕ → Type 0) → (IsLeft stop archived → P archived) → ForSome (unless_reached stop archived) P
kept_if None archived P left lsn is = let same : archived ≡ lsn = cc in subst P same (left (omega arith))
kept_if (Some end) archived P left lsn is =
    elim (cases_lt archived end) [
      | inl below ↦ let some : Some archived ≡ Some lsn = sym (ap (λ b. if b then Some archived else None) (lt-ltb archived end below)) ∙ is in
          let same : archived ≡ lsn = cc in subst P same (left below)
      | inr past ↦ absurd (none_of lsn (sym (ap (λ b. if b then Some archived else None) (le-ltb archived end past)) ∙ is))
    ]

kept_is : (stop : Option ℕ) (archived : ℕ) (P : ℕ → Type 0) → ForSome (unless_reached stop archived) P → IsLeft stop archived → P archived
kept_is None archived P kept left = kept archived refl
kept_is (Some end) archived P kept left = kept archived (ap (λ b. if b then Some archived else None) (lt-ltb archived end left))

still_left : (stop : Option ℕ) (archived more : ℕ) → archived ≤ more → IsLeft stop more → IsLeft stop archived
still_left None archived more le left = omega arith
still_left (Some end) archived more le left = omega (arith, le, left)

-- what the ring has for this archive
abbrev Reaches : Option Archived → Window → Type 0
Reaches archive ring = ForSome (kept_from archive) (IsInRing ring) × ForSome (end_in archive) (λ end. end ≤ end_of ring)

can : (c : Cloning) (archive : Option Archived) (ring : Window) → c.archive ≡ archive → Reaches archive ring → CanArchive c ring
can c archive ring is reaches =
    let own = subst (λ (o : Option Archived). Reaches o ring) (sym is) reaches in
    record { kept = own.0; within = own.1 }

reaches : (c : Cloning) (archive : Option Archived) (ring : Window) → c.archive ≡ archive → CanArchive c ring → Reaches archive ring
reaches c archive ring is can = subst (λ (o : Option Archived). Reaches o ring) is (can.kept, can.within)

pub can_same : (c new : Cloning) (ring : Window) → new.archive ≡ c.archive → CanArchive c ring → CanArchive new ring
can_same c new ring same is = can new c.archive ring same (is.kept, is.within)

-- The ring.

-- it ends no earlier, and what is kept is there still
pub can_later : (c : Cloning) (ring later : Window) → ForSome (kept_from c.archive) (λ lsn. later.floor ≤ lsn) → end_of ring ≤ end_of later → CanArchive c ring → CanArchive c later
can_later c ring later above longer can = record {
  kept = λ lsn is. (above lsn is, omega (arith, longer, (can.kept lsn is).1));
  within = λ end is. omega (arith, longer, can.within end is);
}

pub can_grown : (c : Cloning) (ring longer : Window) → longer.floor ≡ ring.floor → end_of ring ≤ end_of longer → CanArchive c ring → CanArchive c longer
can_grown c ring longer same grown can = can_later c ring longer (λ lsn is. omega (arith, same, (can.kept lsn is).0)) grown can

needed_low : (checkpoint : ℕ) (kept : Option ℕ) (lsn : ℕ) → kept ≡ Some lsn → needed_from checkpoint kept ≤ lsn
needed_low checkpoint None lsn is = absurd (none_of lsn is)
needed_low checkpoint (Some kept) lsn is = let same : kept ≡ lsn = cc in omega (arith, same)

-- The log below a checkpoint goes, up to what is kept.
pub can_settled : (c : Cloning) (checkpoint : ℕ) (b : Buffered) → CanArchive c b.ring → CanArchive c (settled checkpoint (kept_from c.archive) b).ring
can_settled c checkpoint b can = by (nat_lt ring.floor needed && nat_le needed (end_of ring)) refl
  where
    ring : Window
    ring = b.ring

    needed : ℕ
    needed = needed_from checkpoint (kept_from c.archive)

    by : (goes : Bool) → (nat_lt ring.floor needed && nat_le needed (end_of ring)) ≡ goes → CanArchive c (if goes then raised needed ring else ring)
    by false is = can
    by true is =
        let both = and_parts (nat_lt ring.floor needed) (nat_le needed (end_of ring)) is in
        can_later c ring (raised needed ring) (λ lsn some. needed_low checkpoint (kept_from c.archive) lsn some)
        (omega (arith, ltb-true ring.floor needed both.0, leb-true needed (end_of ring) both.1, length-drop (needed - ring.floor) ring.bytes)) can

-- The archive.

pub can_unarchived : (c : Cloning) (ring : Window) → c.archive ≡ None → CanArchive c ring
can_unarchived c ring is = can c None ring is (λ lsn some. absurd (none_of lsn some), λ end some. absurd (none_of end some))

-- it begins where the ring has the log
pub nearest_in_ring : (ring : Window) (lsn : ℕ) → IsInRing ring (nearest_in ring lsn)
nearest_in_ring ring lsn = (omega arith, omega arith)

pub can_begun : (c : Cloning) (base : ℕ) (ring : Window) → c.archive ≡ Some (begun base) → ring.floor ≤ base → base ≤ end_of ring → CanArchive c ring
can_begun c base ring is above within =
    can c (Some (begun base)) ring is (kept_if None (archived_of (begun base)) (IsInRing ring) (λ left. (omega (arith, above), omega (arith, within))), λ end some. absurd (none_of end some))

-- its end is fixed where the ring ends
pub can_stopped : (c new : Cloning) (a : Archived) (ring : Window) → c.archive ≡ Some a → a.stop ≡ None → new.archive ≡ Some (stopped (end_of ring) a) → CanArchive c ring → CanArchive new ring
can_stopped c new a ring stands unended is can_was =
    let had = reaches c (Some a) ring stands can_was in
    let kept = subst (λ (o : Option ℕ). ForSome (unless_reached o (archived_of a)) (IsInRing ring)) unended had.0 in
    can new (Some (stopped (end_of ring) a)) ring is (kept_if (Some (end_of ring)) (archived_of a) (IsInRing ring) (λ left. kept (archived_of a) refl), λ end some. omega (arith, same end some))
  where
    same : (end : ℕ) → Some (end_of ring) ≡ Some end → end ≡ end_of ring
    same end some = cc

-- more of the ring is archived

left_before : (stop : Option ℕ) (archived end : ℕ) → archived < unwrap_or stop end → IsLeft stop archived
left_before None archived end left = omega arith
left_before (Some stop) archived end left = left

end_within : (stop : Option ℕ) (end : ℕ) → ForSome stop (λ e. e ≤ end) → unwrap_or stop end ≤ end
end_within None end within = omega arith
end_within (Some stop) end within = within stop refl

module _ (c : Cloning) (a : Archived) (limit : ℕ) (ring : Window) (stands : c.archive ≡ Some a) (can_was : CanArchive c ring) where
  had : Reaches (Some a) ring
  had = reaches c (Some a) ring stands can_was

  -- the ring has the bytes that come next
  pub next_kept : 0 < next_count limit a ring → ring.floor ≤ archived_of a
  next_kept some = (kept_is a.stop (archived_of a) (IsInRing ring) had.0 (left_before a.stop (archived_of a) (end_of ring) (omega (arith, some)))).0

  pub next_within : archived_of a ≤ end_of ring → archived_of a + next_count limit a ring ≤ end_of ring
  next_within in_log = omega (arith, in_log, end_within a.stop (end_of ring) had.1)

  pub can_archived : (new : Cloning) → new.archive ≡ Some (archived_on limit ring a) → archived_of a ≤ end_of ring → CanArchive new ring
  can_archived new is in_log =
      let n = next_count limit a ring in
      let bytes = drop (archived_of a - ring.floor) ring.bytes in
      let size = length-append a.bytes (take n bytes) in
      let few = length-take n bytes in
      can new (Some (archived_on limit ring a)) ring is (
        kept_if a.stop (archived_of (archived_on limit ring a)) (IsInRing ring)
            (λ left. let low = kept_is a.stop (archived_of a) (IsInRing ring) had.0 (still_left a.stop (archived_of a) (archived_of (archived_on limit ring a)) (omega (arith, size)) left) in
            (omega (arith, low.0, size), omega (arith, size, few, next_within in_log))),
        had.1,
      )

-- a log ends no further than a ring's size behind what is archived
pub within_ring : (c : Cloning) (ring : Window) → c.ring ≡ ring.size → length ring.bytes ≤ ring.size → CanArchive c ring → IsWithinRing (end_of ring) c.ring c.archive
within_ring c ring size few can = by c.archive refl
  where
    by : (o : Option Archived) → c.archive ≡ o → IsWithinRing (end_of ring) c.ring o
    by None is = tt
    by (Some a) is = λ unended.
        let kept = (reaches c (Some a) ring is can).0 (archived_of a) (ap (λ stop. unless_reached stop (archived_of a)) unended) in
        (kept.1, omega (arith, kept.0, size, few))

-- What is archived of a log, whatever happens to the log and to the archive.

-- An archive begins, and its end is fixed.

pub of_begun : (log : List (List Record)) (base : ℕ) → first_lsn ≤ base → base ≤ ends log → IsOfLog log (begun base)
of_begun log base above within = record { start = above; within = omega (arith, within); bytes = refl }

-- the log of a buffer has begun where its ring does, or before
pub floor_above : (v : Buffered) → IsBuffer v → first_lsn ≤ v.ring.floor
floor_above v is = omega (arith, is.end, ap length is.bytes, length-drop (v.ring.floor - first_lsn) (log_of v.log))

pub of_stopped : (log : List (List Record)) (a : Archived) (end : ℕ) → IsOfLog log a → IsOfLog log (stopped end a)
of_stopped log a end is = record { start = is.start; within = is.within; bytes = is.bytes }

-- bytes of a log are those of a longer one
longer : (log rest : List (List Record)) (from count : ℕ) → from + count ≤ length (log_of log) → take count (drop from (log_of (log ++ rest))) ≡ take count (drop from (log_of log))
longer log rest from count within =
    let front : List ℕ = log_of log in
    ap (λ bytes. take count (drop from bytes)) (log_of-append log rest)
    ∙ ap (take count) (drop-append-le from front (log_of rest) (omega (arith, within)))
    ∙ take-append-le count (drop from front) (log_of rest) (omega (arith, within, length-drop from front))

-- THE LOG GROWS
pub of_grown : (log rest : List (List Record)) (a : Archived) → IsOfLog log a → IsOfLog (log ++ rest) a
of_grown log rest a is = record {
  start = is.start;
  within = omega (arith, is.within, ap length (log_of-append log rest), length-append (log_of log) (log_of rest));
  bytes = is.bytes ∙ sym (longer log rest (a.start - first_lsn) (length a.bytes) (omega (arith, is.start, is.within)));
}

-- MORE OF THE RING IS ARCHIVED

-- the bytes that come next
module _ (v : Buffered) (a : Archived) (n : ℕ) (buffer : IsBuffer v) (is : IsOfLog v.log a) (kept : 0 < n → v.ring.floor ≤ archived_of a) (within : archived_of a + n ≤ end_of v.ring) where
  abbrev rest : List ℕ
  rest = drop (a.start - first_lsn) (log_of v.log)

  abbrev piece : List ℕ
  piece = take n (drop (archived_of a - v.ring.floor) v.ring.bytes)

  held : length v.ring.bytes ≡ length (log_of v.log) - (v.ring.floor - first_lsn)
  held = ap length buffer.bytes ∙ length-drop (v.ring.floor - first_lsn) (log_of v.log)

  next : (count : ℕ) → (0 < count → v.ring.floor ≤ archived_of a) → take count (drop (archived_of a - v.ring.floor) v.ring.bytes) ≡ take count (drop (length a.bytes) rest)
  next zero kept = refl
  next (suc count) kept =
      let above : v.ring.floor ≤ archived_of a = kept (omega arith) in
      let offset : (v.ring.floor - first_lsn) + (archived_of a - v.ring.floor) ≡ (a.start - first_lsn) + length a.bytes = omega (arith, above, is.start, held, buffer.end) in
      ap (take (suc count))
      (ap (drop (archived_of a - v.ring.floor)) buffer.bytes
      ∙ drop-drop (archived_of a - v.ring.floor) (v.ring.floor - first_lsn) (log_of v.log)
      ∙ ap (λ from. drop from (log_of v.log)) offset
      ∙ sym (drop-drop (length a.bytes) (a.start - first_lsn) (log_of v.log)))

  size : length (a.bytes ++ piece) ≡ length a.bytes + n
  size = omega (arith, length-append a.bytes piece, ap length (next n kept), length-take n (drop (length a.bytes) rest), length-drop (length a.bytes) rest, length-drop (a.start - first_lsn) (log_of v.log), is.start, within, buffer.end)

  pub of_copied : IsOfLog v.log (copied n a v.ring)
  of_copied = record {
    start = is.start;
    within = omega (arith, size, within, buffer.end);
    bytes = ap (λ bytes. a.bytes ++ bytes) (next n kept)
        ∙ ap (λ bytes. bytes ++ take n (drop (length a.bytes) rest)) is.bytes
        ∙ sym (take-add (length a.bytes) n rest)
        ∙ ap (λ count. take count rest) (sym size);
  }

-- as much as is left, but no more than a limit
pub of_archived : (v : Buffered) (c : Cloning) (a : Archived) (limit : ℕ) → IsBuffer v → c.archive ≡ Some a → CanArchive c v.ring → IsOfLog v.log a → IsOfLog v.log (archived_on limit v.ring a)
of_archived v c a limit buffer stands can is = of_copied v a (next_count limit a v.ring) buffer is (next_kept c a limit v.ring stands can) (next_within c a limit v.ring stands can (omega (arith, is.within, buffer.end)))

-- ALL REDO OF A LOG IS ARCHIVED, from where one of its mini-transactions ends
pub redo_of_stop : (log rest : List (List Record)) (a : Archived) → IsOfLog (log ++ rest) a → archived_of a ≡ ends log → (at : IsAt a.start log) → a.bytes ≡ log_of at.behind
redo_of_stop log rest a is whole at =
    let front : List ℕ = log_of at.before in
    let back : List ℕ = log_of at.behind in
    let parts : log_of log ≡ front ++ back = ap log_of at.split ∙ log_of-append at.before at.behind in
    let long = length-append front back in
    let from : a.start - first_lsn ≡ length front = omega (arith, at.moment) in
    let count : length a.bytes ≡ length back = omega (arith, whole, at.moment, ap length parts, long) in
    is.bytes
    ∙ longer log rest (a.start - first_lsn) (length a.bytes) (omega (arith, is.start, whole))
    ∙ ap (λ bytes. take (length a.bytes) (drop (a.start - first_lsn) bytes)) parts
    ∙ (λ i. take (count i) (drop (from i) (front ++ back)))
    ∙ ap (take (length back)) (drop-append_seam front back)
    ∙ take-length back

-- From what redo of a page may start, from the stop on: from what the page was late enough.

module _ (space number : ℕ) (base : ℕ) (log : List (List Record)) where
  since_start : (starts : List Standing) (u : Standing) → AllByRecursion (λ s. Since space number base s log) starts → IsStart starts u → Since space number base u log
  since_start [] u all start = absurd start
  since_start (s ∷ starts) u all (inl lax) = since_lax space number base u s log lax all.0
  since_start (s ∷ starts) u all (inr later) = since_start starts u all.1 later

  -- with the log of then, in which a mini-transaction ends where the archive begins
  pub start_since : (e : PageEngine) (starts : List Standing) (u : Standing) → CopyRule space number e (Stopped base log starts) → HasStart (Stopped base log starts) u
      → AllFit space number log × IsAt base log × Since space number base u log
  start_since e starts u rule start = (rule.0, rule.1, since_start starts u rule.2 start)

-- What was taken over a run; and what is laid of it once the session has come to its stop is the donor as it was then.

-- what was taken goes on over a run
pub goes_on : (acts : List Act) (d t : Donor) (before taken : Taken) → IsTaken d before → Runs d before acts t taken → IsTaken t taken
goes_on [] d t before taken is run = subst (IsTaken t) run.1 (subst (λ (e : Donor). IsTaken e before) run.0 is)
goes_on (act ∷ acts) d t before taken is run = goes_on acts run.0 t (after_act act d run.0 before) taken (run.1.taken before is) run.2

-- an archive whose end is fixed stands only from the stop on
module _ (c : Cloning) (log : List (List Record)) (taken : Taken) (a : Archived) (stands : c.archive ≡ Some a) (end : ℕ) (ended : a.stop ≡ Some end) where
  in_stage : (s : Session) (l : StageList) → IsInStage c s l → IsTakenIn c log taken l → HasStopped c log taken a
  in_stage s (Files spaces) is are = let none : None ≡ Some a = sym is.unarchived ∙ stands in absurd (cc)
  in_stage s (Pages pages) is are = let same : is.archive ≡ a = cc in let none : None ≡ Some end = sym is.unended ∙ ap (λ (x : Archived). x.stop) same ∙ ended in absurd (cc)
  in_stage s (Redo start last) is has = has a stands
  in_stage s Nothing is has = has a stands

  in_session : (o : Option Session) → IsInSession c o → IsTakenBy c log taken (option_map (λ (s : Session). s.snap.list) o) → HasStopped c log taken a
  in_session None is idle = let none : None ≡ Some a = sym is.unarchived ∙ stands in absurd (cc)
  in_session (Some s) is are = in_stage s s.snap.list is.2 are

  pub has_stopped : IsCloning c → IsTakenBy c log taken (list_of c) → HasStopped c log taken a
  has_stopped is by = in_session c.session is.session by

-- Images.

-- a space has no page only past its end
none_past : (image : Image) (space number count : ℕ) → page_count image space ≡ Some count → page_of image space number ≡ None → count ≤ number
none_past image space number count size none = by (finite.get image space) refl (cases_lt number count)
  where
    by : (o : Option (List (List ℕ))) → finite.get image space ≡ o → (number < count) ⊎ (count ≤ number) → count ≤ number
    by o is (inr past) = past
    by None is (inl low) = let no : None ≡ Some count = sym (ap (option_map length) is) ∙ size in absurd (cc)
    by (Some pages) is (inl low) =
        let one : Some (length pages) ≡ Some count = sym (ap (option_map length) is) ∙ size in
        let long : length pages ≡ count = cc in
        let found = slice_get-some pages number (omega (arith, long, low)) in
        let no : None ≡ Some found.0 = sym none ∙ ap (λ (o : Option (List (List ℕ))). option_and_then (λ ps. slice_get ps number) o) is ∙ found.1 in
        absurd (cc)

-- the image of a disk has no space that is no table's
placed_past : (m : DiskImage) (space number : ℕ) → redo_space ≤ space → IsPlaced space number (standing_of (image_of m) space number)
placed_past m space number past =
    subst (λ (o : Option (List (List ℕ))). IsPlaced space number (standing_in o number))
    (sym (get_image m space ∙ ap (λ (b : Bool). cond b (option_map bytes_of (finite.get m.spaces space)) None) (le-ltb space redo_space past))) tt

-- What is laid on a disk of what was taken of a donor that has come to the stop.
module _ (t : Donor) (taken : Taken) (a : Archived) (m disk : DiskImage) (has : HasStopped t.cloning t.engine.buffer.log taken a) (laid : IsLaid taken a m) (flown : IsFlown t.engine.buffer t.engine.flights taken.copies disk)
    (redo : IsOfLog t.engine.buffer.log a) (whole : a.stop ≡ Some (archived_of a)) where
  abbrev log : List (List Record)
  log = has.at.buffer.log

  abbrev laid_at : ℕ → ℕ → Standing
  laid_at space number = standing_of (image_of m) space number

  rule : (space number : ℕ) → CopyRule space number (engine_at t.engine.buffer t.engine.flights disk space number) (Stopped a.start log (has.copies space number).0)
  rule space number = subst (CopyRule space number (engine_at t.engine.buffer t.engine.flights disk space number)) (has.copies space number).1 (flown.kept.page space number).rule.copy

  start : (space number : ℕ) → space < redo_space → AllFit space number log × IsAt a.start log × Since space number a.start (laid_at space number) log
  start space number low =
      let copies = has.copies space number in
      start_since space number a.start log (engine_at t.engine.buffer t.engine.flights disk space number) copies.0 (laid_at space number) (rule space number)
      (subst (λ (c : Copy). HasStart c (laid_at space number)) copies.1 (laid.starts space number low))

  from_start : (space number : ℕ) → space < redo_space → Gives space number a.start log (laid_at space number) × IsPlaced space number (laid_at space number)
  from_start space number low = let s = start space number low in may_start space number a.start (laid_at space number) log s.0 (has.placed space number) s.2

  abbrev begin : IsAt a.start log
  begin = (rule 0 0).1

  ended : archived_of a ≡ ends log
  ended = let one : Some (archived_of a) ≡ Some (ends log) = sym whole ∙ has.end in cc

  bytes : a.bytes ≡ log_of begin.behind
  bytes = redo_of_stop log has.rest a (subst (λ (l : List (List Record)). IsOfLog l a) has.grown redo) ended begin

  placed : (space number : ℕ) → (space < redo_space) ⊎ (redo_space ≤ space) → IsPlaced space number (laid_at space number)
  placed space number (inl low) = (from_start space number low).1
  placed space number (inr past) = placed_past m space number past

  kept : IsKept has.at.donor (replayed log)
  kept = has.engine.keeps.kept has.right

  staged : IsStaged a.start log m
  staged = record {
    begin = begin;
    gives = λ space number low. (from_start space number low).0;
    system = λ number none. laid.short number (let past = none_past (replayed log) 0 number system_size kept.formed.size none in omega (arith, past));
    placed = λ space number. placed space number (cases_lt space redo_space);
    redo = subst (λ (l : List ℕ). redo_of m (length l) ≡ l) bytes laid.redo;
    quiet = laid.quiet;
  }

  pub moment : (end : CloneEnd) → IsEnd end → end.checkpoint ≡ a.start → end.lsn ≡ archived_of a → end.position ≡ length has.at.donor.binlog → HoldsMoment taken end m
  moment end ranges checkpoint lsn position = record {
    at = has.at;
    stop = has.stop;
    commits = position;
    holds = staged_holds has.at.donor log end m kept (record { each = has.buffer.spelled; tables = has.engine.tables; stop = lsn ∙ ended }) ranges (subst (λ n. IsStaged n log m) (sym checkpoint) staged);
  }

told_disk : (told : Option DiskImage) → IsSome told → (m : DiskImage) × (told ≡ Some m)
told_disk None tells = absurd (cc)
told_disk (Some m) tells = (m, refl)

-- once the session has come to its stop
pub one_moment : (t : Donor) (taken : Taken) (end : CloneEnd) (m : DiskImage) → IsTaken t taken → IsDonor t → IsCloning t.cloning → IsSome t.engine.disk.told → IsEnd end → IsComplete t taken end m → HoldsMoment taken end m
one_moment t taken end m is donor cloning tells ranges done =
    let d = told_disk t.engine.disk.told tells in
    let a = done.archive in
    let has = has_stopped t.cloning t.engine.buffer.log taken a done.stands (archived_of a) done.whole cloning (of_told (λ _. IsTakenBy t.cloning t.engine.buffer.log taken (list_of t.cloning)) t.engine.disk.told d.0 d.1 is.stage) in
    moment t taken a m d.0 has done.laid (of_told (IsFlown t.engine.buffer t.engine.flights taken.copies) t.engine.disk.told d.0 d.1 is.stands) (donor.redo a done.stands) done.whole end ranges done.checkpoint done.lsn
    (done.position ∙ has.position done.stop done.last)

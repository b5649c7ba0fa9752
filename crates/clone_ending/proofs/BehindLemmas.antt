-- Redo that isn't archived yet, as a block of it is read, and that it is once so much was archived.
use Rattle.std.proofs.Common.{ℕ, ◌≡◌, ◌∙◌, ◌+◌, ◌-◌, ◌<◌, ◌≤◌, Bool, true, false, Option, None, Some, option_and_then, option_map, take, drop, unwrap_or, nat_lt, refl, ap, sym, subst, arith, inl, inr}
use Rattle.std.specs.Prelude.{◌&&◌, ◌==◌, is_some, not, slice_get, slice_index}
use Rattle.std.specs.Option.{option_or}
use Rattle.std.proofs.lemmas.Bool.{both_ways, ltb-true}
use Rattle.std.proofs.lemmas.List.{length-append, length-drop, length-take}
use Rattle.clone_base.specs.declared.limits.TheConstants.{LSN_LIMIT}
use Rattle.clone_ring.specs.Window.{Window, end_of}
use Rattle.clone_archive.specs.Archived.{Archived, archived_of, next_count}
use Rattle.clone_chunk.specs.Chunks.{is_kept}
use Rattle.clone_chunk.specs.declared.cause.CloneCause.{CloneCause}
use Rattle.clone_chunk.specs.declared.cause.CloneCause.TheVariants.{ArchiveBehind, NoSuchSession, NotClaimed, Stale, StageMismatch}
use Rattle.clone_snapshot.specs.Snaps.{IsInLog, IsSnap}
use Rattle.clone_snapshot.specs.StageLists as lists
use Rattle.clone_snapshot.specs.StageLists.{Part, PagePart, RedoPart, StageList, block_of}
use Rattle.clone_snapshot.proofs.EachBlock.{redo_alone, redo_between}
use Rattle.clone_session.specs.Cloning.{Cloning, CopiesRedo, IsCloning, IsInSession, IsInStage, Session}
use Rattle.clone_session.specs.CloneCalls.{archived_on}
use Rattle.clone_session.specs.CloneCauses.{archive_behind, block_cause, donor_stage, is_claimed, not_claimed, other_stage, session_of, stale, whether}
use Rattle.clone_session.specs.Effects.{Becomes}
use Rattle.clone_session.specs.declared.caller.Caller.{Caller}
use Rattle.clone_session.proofs.PartLemmas.{stands_as}
use Rattle.clone_engine.specs.Donor.{Donor, IsDonor}
use Rattle.clone_engine.proofs.MomentLemmas.{next_kept}
use Rattle.clone_ending.proofs.UnreadLemmas.{found}

-- WHERE REDO IS COPIED, archiving ends where the redo does.
pub record Ends (archive : Option Archived) (start end : ℕ) : Type 0 where
  pub ordered : start ≤ end
  pub a : Archived
  pub stands : archive ≡ Some a
  pub stop : a.stop ≡ Some end

abbrev pub ArchivesAll : Cloning → Type 0
ArchivesAll c = (s : Session) (start end : ℕ) → c.session ≡ Some s → s.snap.list ≡ lists.Redo start end → Ends c.archive start end

-- ---- a block's redo is behind

pub record IsBehind (c : Cloning) (caller : Caller) (chunk block : ℕ) (archived until : ℕ) : Type 0 where
  pub s : Session
  pub session : c.session ≡ Some s
  pub from : ℕ
  pub count : ℕ
  pub redo : block_of s.snap.list chunk block ≡ Some (RedoPart from count)
  pub a : Archived
  pub archive : c.archive ≡ Some a
  pub reached : archived ≡ archived_of a
  pub ends : until ≡ from + count
  pub low : archived_of a < from + count

abbrev is_late : CloneCause → Bool
is_late (ArchiveBehind archived until) = true
is_late other = false

-- it is no cause that comes first
past : (b : Bool) (cause : CloneCause) (rest : Option CloneCause) (archived until : ℕ) → is_late cause ≡ false → option_or (whether b cause) rest ≡ Some (ArchiveBehind archived until) → rest ≡ Some (ArchiveBehind archived until)
past true cause rest archived until early is =
    let same : cause ≡ ArchiveBehind archived until = cc in
    absurd (both_ways (is_late cause) early (ap is_late same))
past false cause rest archived until early is = is

abbrev Late : Option Archived → Option Part → ℕ → ℕ → Type 0
Late archive part archived until = archive_behind archive part ≡ Some (ArchiveBehind archived until)

late_in : (c : Cloning) (caller : Caller) (stage chunk block archived until : ℕ) → block_cause c caller stage chunk block ≡ Some (ArchiveBehind archived until)
    → (s : Session) × (session_of c caller.session ≡ Some s) × Late c.archive (block_of s.snap.list chunk block) archived until
late_in c caller stage chunk block archived until is =
    elim (found (session_of c caller.session)) [
      | inl none ↦
          let first : Some NoSuchSession ≡ Some (ArchiveBehind archived until) = rw none at is in
          let same : NoSuchSession ≡ ArchiveBehind archived until = cc in
          absurd (both_ways (is_late NoSuchSession) refl (ap is_late same))
      | inr some ↦
          let s = some.0 in
          let first : option_or (stale s caller.incarnation) (option_or (other_stage s stage) (option_or (not_claimed s caller.task chunk block) (archive_behind c.archive (block_of s.snap.list chunk block)))) ≡ Some (ArchiveBehind archived until) = rw some.1 at is in
          let second = past (nat_lt caller.incarnation s.incarnation) (Stale s.incarnation) _ archived until refl first in
          let third = past (not (stage == donor_stage s)) (StageMismatch (donor_stage s) stage) _ archived until refl second in
          let last = past (not (is_claimed caller.task (slice_get s.snap.chunks chunk) && is_some (block_of s.snap.list chunk block) && not (is_kept (slice_index s.snap.kept chunk) block))) NotClaimed _ archived until refl third in
          (s, some.1, last)
    ]

late_redo : (archive : Option Archived) (part : Option Part) (archived until : ℕ) → Late archive part archived until
    → (from : ℕ) × (count : ℕ) × (a : Archived) × (part ≡ Some (RedoPart from count)) × (archive ≡ Some a) × (archived ≡ archived_of a) × (until ≡ from + count) × (archived_of a < from + count)
late_redo archive None archived until late = absurd (cc)
late_redo archive (Some (PagePart pages)) archived until late = absurd (cc)
late_redo None (Some (RedoPart from count)) archived until late = absurd (cc)
late_redo (Some a) (Some (RedoPart from count)) archived until late = by (nat_lt (archived_of a) (from + count)) refl late
  where
    by : (b : Bool) → nat_lt (archived_of a) (from + count) ≡ b → whether b (ArchiveBehind (archived_of a) (from + count)) ≡ Some (ArchiveBehind archived until)
        → (f : ℕ) × (n : ℕ) × (x : Archived) × (Some (RedoPart from count) ≡ Some (RedoPart f n)) × (Some a ≡ Some x) × (archived ≡ archived_of x) × (until ≡ f + n) × (archived_of x < f + n)
    by true low is =
        let same : ArchiveBehind (archived_of a) (from + count) ≡ ArchiveBehind archived until = cc in
        let one : archived ≡ archived_of a = cc in
        let two : until ≡ from + count = cc in
        (from, count, a, refl, refl, one, two, ltb-true (archived_of a) (from + count) low)
    by false low is = absurd (cc)

pub behind_is : (c : Cloning) (caller : Caller) (stage chunk block archived until : ℕ) → block_cause c caller stage chunk block ≡ Some (ArchiveBehind archived until) → IsBehind c caller chunk block archived until
behind_is c caller stage chunk block archived until is =
    let late = late_in c caller stage chunk block archived until is in
    let redo = late_redo c.archive (block_of late.0.snap.list chunk block) archived until late.2 in
    record { s = late.0; session = stands_as c.session caller.session late.0 late.1; from = redo.0; count = redo.1; redo = redo.3; a = redo.2; archive = redo.4; reached = redo.5; ends = redo.6; low = redo.7 }

-- ---- once so much of it was archived

-- a session without its room
abbrev bare : Session → Session
bare s = record s { snap = record s.snap { room = 0 } }

bare_list : (x y : Session) → Some (bare x) ≡ Some (bare y) → x.snap.list ≡ y.snap.list
bare_list x y same = let one : bare x ≡ bare y = cc in ap (λ (s : Session). s.snap.list) one

module _ (d : Donor) (caller : Caller) (chunk block archived until : ℕ) (is : IsDonor d) (all : ArchivesAll d.cloning) (b : IsBehind d.cloning caller chunk block archived until) where
  abbrev ring : Window
  ring = d.engine.buffer.ring

  abbrev limit : ℕ
  limit = until - archived

  stage_redo : (start : ℕ) × (end : ℕ) × (b.s.snap.list ≡ lists.Redo start end)
  stage_redo = redo_alone b.s.snap.list chunk block b.from b.count b.redo

  ends : Ends d.cloning.archive stage_redo.0 stage_redo.1
  ends = all b.s stage_redo.0 stage_redo.1 b.session stage_redo.2

  inside : b.from + b.count ≤ stage_redo.1
  inside = (redo_between stage_redo.0 stage_redo.1 chunk block b.from b.count ends.ordered (subst (λ (l : StageList). block_of l chunk block ≡ Some (RedoPart b.from b.count)) stage_redo.2 b.redo)).1

  stop : b.a.stop ≡ Some stage_redo.1
  stop =
      let both : Some b.a ≡ Some ends.a = sym b.archive ∙ ends.stands in
      let same : b.a ≡ ends.a = cc in
      ap (λ (x : Archived). x.stop) same ∙ ends.stop

  within : stage_redo.1 ≤ end_of ring
  within = is.archives.within stage_redo.1 (ap (option_and_then (λ (x : Archived). x.stop)) b.archive ∙ stop)

  count_is : next_count limit b.a ring ≡ limit
  count_is =
      let end : unwrap_or b.a.stop (end_of ring) ≡ stage_redo.1 = ap (λ (o : Option ℕ). unwrap_or o (end_of ring)) stop in
      omega (arith, end, inside, b.reached, b.ends)

  -- what is archived then
  abbrev more : Archived
  more = archived_on limit ring b.a

  reaches : until ≤ archived_of more
  reaches =
      let bytes = drop (archived_of b.a - ring.floor) ring.bytes in
      let n = next_count limit b.a ring in
      let kept = next_kept d.cloning b.a limit ring b.archive is.archives (omega (arith, count_is, b.low, b.reached, b.ends)) in
      omega (arith, length-append b.a.bytes (take n bytes), length-take n bytes, length-drop (archived_of b.a - ring.floor) ring.bytes, count_is, b.low, b.reached, b.ends, within, inside, kept)

  -- its redo isn't behind any more
  pub none_behind : (c : Cloning) → Becomes c (record d.cloning { archive = Some more }) → (stage x y : ℕ) → block_cause c caller stage chunk block ≡ Some (ArchiveBehind x y) → ⊥
  none_behind c same stage x y is =
      let new = behind_is c caller stage chunk block x y is in
      let session : Some (bare new.s) ≡ Some (bare b.s) = sym (ap (option_map bare) new.session) ∙ ap (λ (o : Cloning). o.session) same ∙ ap (option_map bare) b.session in
      let list : new.s.snap.list ≡ b.s.snap.list = bare_list new.s b.s session in
      let both : Some (RedoPart new.from new.count) ≡ Some (RedoPart b.from b.count) = sym new.redo ∙ ap (λ (l : StageList). block_of l chunk block) list ∙ b.redo in
      let from : new.from ≡ b.from = cc in
      let count : new.count ≡ b.count = cc in
      let archives : Some new.a ≡ Some more = sym new.archive ∙ ap (λ (o : Cloning). o.archive) same in
      let one : new.a ≡ more = cc in
      absurd (omega (arith, new.low, from, count, ap archived_of one, reaches, b.ends))

-- ---- what every donor's session keeps

-- it does so still, in the same stage over the same archive
pub keeps_all : (c e : Cloning) → ArchivesAll c → e.archive ≡ c.archive → ((x : Session) → e.session ≡ Some x → (s : Session) × (c.session ≡ Some s) × (x.snap.list ≡ s.snap.list)) → ArchivesAll e
keeps_all c e all archive sessions x start end session list =
    let old = sessions x session in
    subst (λ (o : Option Archived). Ends o start end) (sym archive) (all old.0 start end old.1 (sym old.2 ∙ list))

pub archives_all : (c : Cloning) → IsCloning c → ((s : Session) → c.session ≡ Some s → IsSnap s.snap.list s.snap.chunks s.snap.room) → ArchivesAll c
archives_all c cloning snaps s start end session list =
    let copies : CopiesRedo c s.number start end = subst (IsInStage c s) list (subst (IsInSession c) session cloning.session).2 in
    let log : (start ≤ end) × (end < LSN_LIMIT) = subst IsInLog list (snaps s session).in_log in
    record { ordered = log.0; a = copies.archive; stands = copies.stands; stop = copies.ended }

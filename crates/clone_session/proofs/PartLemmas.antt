-- The parts that blocks are made of.
use Rattle.std.proofs.Common.{◌≡◌, ◌==◌, ◌≤◌, ◌<◌, ◌+◌, ◌∙◌, if◌then◌else◌, option_and_then, ℕ, List, Bool, true, false, nat_lt, refl, sym, subst, ap, arith, Option, Some, None}
use Rattle.std.specs.Option.{option_map_or, option_or}
use Rattle.std.proofs.lemmas.Bool.{ltb-false}
use Rattle.clone_base.specs.declared.limits.TheConstants.{LSN_LIMIT}
use Rattle.clone_archive.specs.Archived.{Archived, archived_of}
use Rattle.clone_snapshot.specs.Snaps.{IsInLog}
use Rattle.clone_snapshot.specs.StageLists.{StageList, Redo, Part, PagePart, RedoPart, block_of}
use Rattle.clone_snapshot.specs.declared.block.RedoBlock.{RedoBlock}
use Rattle.clone_snapshot.proofs.EachBlock.{redo_alone, redo_between}
use Rattle.clone_session.specs.Cloning.{Cloning, Session, CopiesRedo, IsInStage, IsInSession, IsCloning}
use Rattle.clone_session.specs.declared.caller.Caller.{Caller}
use Rattle.clone_chunk.specs.declared.cause.CloneCause.TheVariants.{NoSuchSession, ArchiveBehind}
use Rattle.clone_session.specs.CloneCauses.{archive_behind, behind, block_cause, not_claimed, other_stage, session_of, stale, whether}
use Rattle.clone_session.specs.declared.copying.BlockWork.{BlockWork}
use Rattle.clone_session.specs.declared.copying.BlockWork.TheVariants.{Pages as BlockPages, Redo as BlockRedo}
use Rattle.clone_session.specs.CloneCalls.{IsInArchive, IsThere, part_of}

-- a part that is neither of pages nor of redo isn't there
pub none_of : (o : Option Part) → ((pages : List (ℕ × ℕ)) → o ≡ Some (PagePart pages) → ⊥) → ((redo : RedoBlock) → o ≡ Some (RedoPart redo.from redo.length) → ⊥) → o ≡ None
none_of None pages redo = refl
none_of (Some (PagePart list)) pages redo = absurd (pages list refl)
none_of (Some (RedoPart from count)) pages redo = absurd (redo (record { from = from; length = count }) refl)

-- a block of redo lies in the log
pub in_log : (list : StageList) (chunk block from count : ℕ) → IsInLog list → block_of list chunk block ≡ Some (RedoPart from count) → from + count < LSN_LIMIT
in_log list chunk block from count log is =
    let (start, end, redo) = redo_alone list chunk block from count is in
    let range : (start ≤ end) × (end < LSN_LIMIT) = subst IsInLog redo log in
    let within = redo_between start end chunk block from count range.0 (subst (λ l. block_of l chunk block ≡ Some (RedoPart from count)) redo is) in
    omega (arith, range.1, within.1)

-- redo of which the archive isn't short is archived
not_behind : (a : Archived) (until : ℕ) → behind (Some a) until ≡ None → until ≤ archived_of a
not_behind a until fine = by (nat_lt (archived_of a) until) refl fine
  where
    by : (b : Bool) → nat_lt (archived_of a) until ≡ b → whether b (ArchiveBehind (archived_of a) until) ≡ None → until ≤ archived_of a
    by true is fine = absurd (cc)
    by false is fine = ltb-false (archived_of a) until is

-- where redo is copied, the archive has it from the same start on
copied_from : (c : Cloning) (s : Session) (start end : ℕ) → s.snap.list ≡ Redo start end → IsInSession c (Some s) → CopiesRedo c s.number start end
copied_from c s start end list in_session = subst (IsInStage c s) list in_session.2

pub is_kept : (c : Cloning) (s : Session) (chunk block : ℕ) (redo : RedoBlock) → IsCloning c → c.session ≡ Some s → IsInLog s.snap.list → block_of s.snap.list chunk block ≡ Some (RedoPart redo.from redo.length) → behind c.archive (redo.from + redo.length) ≡ None → IsInArchive c.archive redo
is_kept c s chunk block redo k stands log is fine =
    let (start, end, list) = redo_alone s.snap.list chunk block redo.from redo.length is in
    let range : (start ≤ end) × (end < LSN_LIMIT) = subst IsInLog list log in
    let within = redo_between start end chunk block redo.from redo.length range.0 (subst (λ l. block_of l chunk block ≡ Some (RedoPart redo.from redo.length)) list is) in
    let copies = copied_from c s start end list (subst (IsInSession c) stands k.session) in
    let reached = not_behind copies.archive (redo.from + redo.length) (sym (ap (λ (o : Option Archived). behind o (redo.from + redo.length)) copies.stands) ∙ fine) in
    subst (λ (o : Option Archived). IsInArchive o redo) (sym copies.stands) (omega (arith, copies.starts, within.0), reached)

-- a session that has a number is the one that stands
pub stands_as : (o : Option Session) (number : ℕ) (s : Session) → option_and_then (λ (t : Session). if t.number == number then Some t else None) o ≡ Some s → o ≡ Some s
stands_as None number s is = absurd (cc)
stands_as (Some t) number s is = by (t.number == number) refl is
  where
    by : (b : Bool) → (t.number == number) ≡ b → (if b then Some t else None) ≡ Some s → Some t ≡ Some s
    by true same is = is
    by false same is = absurd (cc)

-- there is nothing against a block
pub no_cause : (c : Cloning) (caller : Caller) (stage chunk block : ℕ) (s : Session) (part : Part) → session_of c caller.session ≡ Some s → stale s caller.incarnation ≡ None → other_stage s stage ≡ None
    → not_claimed s caller.task chunk block ≡ None → block_of s.snap.list chunk block ≡ Some part → archive_behind c.archive (Some part) ≡ None → block_cause c caller stage chunk block ≡ None
no_cause c caller stage chunk block s part stands fresh same claimed is archived =
    ap (λ (o : Option Session). option_map_or (λ s. option_or (stale s caller.incarnation) (option_or (other_stage s stage) (option_or (not_claimed s caller.task chunk block) (archive_behind c.archive (block_of s.snap.list chunk block))))) o (Some NoSuchSession)) stands
    ∙ (λ i. option_or (fresh i) (option_or (same i) (option_or (claimed i) (archive_behind c.archive (is i)))))
    ∙ archived

-- what is redo of a block is archived
pub is_there : (c : Cloning) (s : Session) (chunk block : ℕ) (work : BlockWork) → IsCloning c → c.session ≡ Some s → IsInLog s.snap.list → block_of s.snap.list chunk block ≡ Some (part_of work) → archive_behind c.archive (Some (part_of work)) ≡ None → IsThere c work
is_there c s chunk block (BlockPages pages) k stands log is fine = tt
is_there c s chunk block (BlockRedo redo) k stands log is fine = is_kept c s chunk block redo k stands log is fine

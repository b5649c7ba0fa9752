-- What holds of a clone holds with another state of its session, as long as that is in the same
-- stage.
use Rattle.std.proofs.Common.{◌≡◌, ◌≤◌, ◌∙◌, ◌==◌, if◌then◌else◌, ℕ, Bool, true, false, List, [], refl, sym, subst, ap, arith, length, replicate, Some}
use Rattle.std.specs.List.{All}
use Rattle.std.proofs.lemmas.List.{get_or_default}
use Rattle.std.proofs.lemmas.List.Elements.{All-replicate}
use Rattle.clone_base.specs.declared.limits.TheConstants.{SPACE_LIMIT}
use Rattle.clone_chunk.specs.Chunks.{within}
use Rattle.clone_chunk.specs.Partials.{mask_of}
use Rattle.clone_chunk.specs.declared.partials.PartialChunk.{PartialChunk}
use Rattle.clone_chunk.specs.declared.stage.Stage.TheVariants.{RedoCopy}
use Rattle.clone_snapshot.specs.Resets.{IsReset}
use Rattle.clone_snapshot.specs.StageLists.{StageList, Files, Pages, Redo, Nothing, block_count, stage_of}
use Rattle.clone_snapshot.proofs.ResetLemmas.{within_none}
use Rattle.clone_session.specs.CloneCalls.{of_stage}
use Rattle.clone_session.specs.CloneCauses.{donor_stage}
use Rattle.clone_session.specs.declared.limits.TheConstants.{VERSION}
use Rattle.clone_session.specs.Cloning.{Cloning, Session, CopiesRedo, IsInStage, IsInSession, IsOfVersion, IsCloning}

-- a clone with this session
abbrev pub with : Cloning → Session → Cloning
with c t = record c { session = Some t }

-- the copy of redo, of the session of this number
same_redo : (c : Cloning) (t : Session) (m n start end : ℕ) → n ≡ m → CopiesRedo c m start end → CopiesRedo (with c t) n start end
same_redo c t m n start end number redo = record {
  untracked = redo.untracked;
  archive = redo.archive;
  stands = redo.stands;
  starts = redo.starts;
  ended = redo.ended;
  last = redo.last;
  stopped = redo.stopped;
  own = redo.own ∙ sym number;
}

-- what a stage needs, where the session has as much room
same_stage : (c : Cloning) (s t : Session) (list : StageList) → t.number ≡ s.number → s.snap.room ≤ t.snap.room → IsInStage c s list → IsInStage (with c t) t list
same_stage c s t (Files spaces) number room files = record { tracked = files.tracked; unarchived = files.unarchived; few = files.few }
same_stage c s t (Pages pages) number room copies = record {
  untracked = copies.untracked;
  archive = copies.archive;
  stands = copies.stands;
  unended = copies.unended;
  below = copies.below;
  room_for = omega (arith, copies.room_for, room);
}
same_stage c s t (Redo start end) number room redo = same_redo c t s.number t.number start end number redo
same_stage c s t Nothing number room (start, end, redo) = (start, end, same_redo c t s.number t.number start end number redo)

-- the blocks that are kept are those of before, or none
pub same_blocks : (s t : Session) → t.version ≡ s.version → t.snap.kept ≡ s.snap.kept → IsOfVersion s → IsOfVersion t
same_blocks s t version kept is first = subst (All (λ mask. mask ≡ 0)) (sym kept) (is (sym version ∙ first))

pub no_blocks : (t : Session) (count : ℕ) → t.snap.kept ≡ replicate count 0 → IsOfVersion t
no_blocks t count none first = subst (All (λ mask. mask ≡ 0)) (sym none) (All-replicate (λ mask. mask ≡ 0) count 0 refl)

-- after a reset only those that a requester told
pub reset_blocks : (t : Session) (list : StageList) (bitmap : List ℕ) (partials : List PartialChunk) → IsReset list bitmap partials t.snap.chunks t.snap.kept → (t.version ≡ VERSION → partials ≡ []) → IsOfVersion t
reset_blocks t list bitmap partials reset none first k d inside =
    let mask = reset.mask k (omega (arith, reset.masks)) in
    get_or_default t.snap.kept k d 0 inside ∙ mask ∙ ap (λ (ps : List PartialChunk). within (mask_of ps k) (block_count list k)) (none first) ∙ within_none (block_count list k)

-- a requester that told none has none of another stage either
pub none_of_stage : (stage : ℕ) (s : Session) (partials : List PartialChunk) → partials ≡ [] → of_stage stage s partials ≡ []
none_of_stage stage s partials none = by (stage == donor_stage s)
  where
    by : (b : Bool) → (if b then partials else []) ≡ []
    by true = none
    by false = refl

few_created : (s t : Session) → t.created ≡ s.created → length s.created ≤ SPACE_LIMIT → length t.created ≤ SPACE_LIMIT
few_created s t same few = subst (λ (xs : List (ℕ × ℕ)). length xs ≤ SPACE_LIMIT) (sym same) few

pub restaged : (c : Cloning) (s t : Session) → IsCloning c → c.session ≡ Some s → t.number ≡ s.number → t.tasks ≡ s.tasks → t.created ≡ s.created → t.snap.list ≡ s.snap.list → s.snap.room ≤ t.snap.room → (IsOfVersion s → IsOfVersion t) → IsCloning (with c t)
restaged c s t k is number tasks created list room blocks =
    let old : IsInSession c (Some s) = subst (IsInSession c) is k.session in
    record {
      ring = k.ring;
      session = (
        omega (arith, tasks, old.0),
        omega (arith, tasks, old.1),
        subst (IsInStage (with c t) t) (sym list) (same_stage c s t s.snap.list number room old.2),
        few_created s t created old.3,
        blocks old.4,
      );
    }

-- redo is copied in its stage alone
redo_stage : (list : StageList) → stage_of list ≡ RedoCopy → (start : ℕ) × (end : ℕ) × (list ≡ Redo start end)
redo_stage (Files spaces) is = absurd (cc)
redo_stage (Pages pages) is = absurd (cc)
redo_stage (Redo start end) is = (start, end, refl)
redo_stage Nothing is = absurd (cc)

-- the copy of redo is over
pub redo_over : (c : Cloning) (s t : Session) → IsCloning c → c.session ≡ Some s → stage_of s.snap.list ≡ RedoCopy → t.number ≡ s.number → t.tasks ≡ s.tasks → t.created ≡ s.created → t.snap.list ≡ Nothing → IsOfVersion t → IsCloning (with c t)
redo_over c s t k is stage number tasks created list blocks =
    let old : IsInSession c (Some s) = subst (IsInSession c) is k.session in
    let (start, end, redo) = redo_stage s.snap.list stage in
    let copies : CopiesRedo c s.number start end = subst (IsInStage c s) redo old.2 in
    record {
      ring = k.ring;
      session = (
        omega (arith, tasks, old.0),
        omega (arith, tasks, old.1),
        subst (IsInStage (with c t) t) (sym list) (start, end, same_redo c t s.number t.number start end number copies),
        few_created s t created old.3,
        blocks,
      );
    }

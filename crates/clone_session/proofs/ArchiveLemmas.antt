-- What is archived: blocks of it lie in a log, and what holds of a clone holds once more is archived.
use Rattle.std.proofs.Common.{◌≡◌, ◌≤◌, ◌<◌, ◌+◌, ◌^◌, ◌∙◌, ℕ, refl, sym, ap, arith, Option, Some, None, option_map}
use Rattle.std.specs.Option.{ForSome}
use Rattle.clone_base.specs.declared.limits.TheConstants.{LSN_LIMIT}
use Rattle.clone_chunk.specs.declared.stage.Stage.TheVariants.{PageCopy}
use Rattle.clone_archive.specs.Archived.{Archived, IsArchived, archived_of}
use Rattle.clone_snapshot.specs.StageLists.{StageList, Files, Pages, Redo, Nothing, chunk_count, stage_of}
use Rattle.clone_snapshot.specs.declared.block.RedoBlock.{RedoBlock}
use Rattle.clone_session.specs.Cloning.{Cloning, Session, CopiesRedo, IsInStage, IsInSession, IsCloning, reach}
use Rattle.clone_session.specs.CloneCalls.{IsInArchive}

-- a block that is archived ends in a log
pub kept_below : (archive : Option Archived) (redo : RedoBlock) → IsInArchive archive redo → ForSome archive IsArchived → redo.from + redo.length < 2 ^ 64
kept_below None redo kept is = absurd kept
kept_below (Some a) redo kept is = omega (arith, kept.1, (is a refl).below)

-- what something of an archive is, and the archive
pub standing : {X : Type 0} (f : Archived → X) (archive : Option Archived) (x : X) → option_map f archive ≡ Some x → (a : Archived) × (archive ≡ Some a) × (f a ≡ x)
standing f None x is = absurd (cc)
standing f (Some a) x is = (a, refl, cc)

-- More is archived, which starts and ends where what was archived does.
module _ (c : Cloning) (a more : Archived) (stands : c.archive ≡ Some a) (start_is : more.start ≡ a.start) (stop_is : more.stop ≡ a.stop) (below : archived_of more < LSN_LIMIT) where
  abbrev pub on : Cloning
  on = record c { archive = Some more }

  same : (b : Archived) → c.archive ≡ Some b → a ≡ b
  same b is = let one : Some a ≡ Some b = sym stands ∙ is in cc

  redo : (number start end : ℕ) → CopiesRedo c number start end → CopiesRedo on number start end
  redo number start end r = record {
    untracked = r.untracked;
    archive = more;
    stands = refl;
    starts = start_is ∙ ap (λ (b : Archived). b.start) (same r.archive r.stands) ∙ r.starts;
    ended = stop_is ∙ ap (λ (b : Archived). b.stop) (same r.archive r.stands) ∙ r.ended;
    last = r.last;
    stopped = r.stopped;
    own = r.own;
  }

  -- there is room for a copy of redo that ends a ring's size later
  abbrev HasRoom : Session → Type 0
  HasRoom s = stage_of s.snap.list ≡ PageCopy → chunk_count (Redo more.start (reach c.ring more)) ≤ s.snap.room

  stage : (s : Session) (list : StageList) → (stage_of list ≡ PageCopy → chunk_count (Redo more.start (reach c.ring more)) ≤ s.snap.room) → IsInStage c s list → IsInStage on s list
  stage s (Files spaces) room files = let none : Some a ≡ None = sym stands ∙ files.unarchived in absurd (cc)
  stage s (Pages pages) room copies = record {
    untracked = copies.untracked;
    archive = more;
    stands = refl;
    unended = stop_is ∙ ap (λ (b : Archived). b.stop) (same copies.archive copies.stands) ∙ copies.unended;
    below = below;
    room_for = room refl;
  }
  stage s (Redo start end) room r = redo s.number start end r
  stage s Nothing room (start, end, r) = (start, end, redo s.number start end r)

  pub archives : IsCloning c → ((s : Session) → c.session ≡ Some s → HasRoom s) → IsCloning on
  archives k room = record { ring = k.ring; session = by c.session room k.session }
    where
      by : (o : Option Session) → ((s : Session) → o ≡ Some s → HasRoom s) → IsInSession c o → IsInSession on o
      by None room idle = let none : Some a ≡ None = sym stands ∙ idle.unarchived in absurd (cc)
      by (Some s) room in_session = (in_session.0, in_session.1, stage s s.snap.list (room s refl) in_session.2, in_session.3, in_session.4)

-- A donor's session after an acknowledgement by which it moves on to the next stage.
use Rattle.std.proofs.Common.{ℕ, suc, ◌≡◌, ◌∙◌, ◌<◌, ◌≤◌, List, [], Bool, false, if◌then◌else◌, Option, None, Some, option_and_then, option_map, refl, sym, ap, subst, arith}
use Rattle.std.specs.Prelude.{slice_get, slice_index, ◌==◌}
use Rattle.std.specs.Option.{option_map_or}
use Rattle.std.proofs.lemmas.Bool.{eq-eqb}
use Rattle.std.proofs.lemmas.Option.{slice_get_within}
use Rattle.clone_archive.specs.Archived.{Archived}
use Rattle.clone_chunk.specs.Chunks.{is_kept, left_of}
use Rattle.clone_chunk.specs.Stages.{stage_number}
use Rattle.clone_chunk.specs.declared.chunk.Chunk.{Chunk}
use Rattle.clone_chunk.specs.declared.chunk.Chunk.TheVariants as chunk
use Rattle.clone_marks.specs.Counts.{block_counts}
use Rattle.clone_marks.proofs.RunLemmas.{counts_at}
use Rattle.clone_snapshot.specs.StageLists as lists
use Rattle.clone_snapshot.specs.StageLists.{StageList, block_count, chunk_count}
use Rattle.clone_snapshot.specs.Snaps.{Snap}
use Rattle.clone_session.specs.Cloning.{Cloning, CopiesPages, IsCloning, IsInSession, IsInStage, Session}
use Rattle.clone_session.specs.CloneCauses.{donor_stage}
use Rattle.clone_session.specs.Effects.{Becomes, advanced, begun, created_since, files_ended, in_stage, stopped_at}
use Rattle.clone_session.specs.declared.ending.Moment.{Moment}
use Rattle.clone_snapshot.specs.Resets.{IsReset}
use Rattle.clone_tasks.specs.Tables.{incarnation_of}
use Rattle.clone_recipient.specs.Receptions.{Reception}
use Rattle.clone_rounds.specs.World.{Free, NoneLeft, World}
use Rattle.clone_view.specs.Donors.{IsSession, Owns}
use Rattle.clone_view.specs.Rows.{place_of}
use Rattle.clone_view.proofs.Rows.{place_small}
use Rattle.clone_view.specs.Tables.{phase_number}
use Rattle.clone_paired.specs.Own.{own_session}
use Rattle.clone_paired.specs.Seen.{AreUnsent}
use Rattle.clone_paired.specs.Sessions.{AreChunks, IsSessionOf}
use Rattle.clone_paired.proofs.DonorMovesBlocks.{Lacks, begun_reset, lacks, none_unfinished, reset_chunks}
use Rattle.clone_paired.proofs.DonorOthers.{becomes_own}
use Rattle.clone_paired.proofs.DonorReads.{bare}

-- a session of this number is the one that is had
pub own_here : (number : ℕ) (c : Cloning) (s : Session) → c.session ≡ Some s → s.number ≡ number → own_session number c ≡ Some (bare s)
own_here number c s is same =
    ap (λ (o : Option Session). option_and_then (λ (t : Session). if t.number == number then Some t else None) (option_map (λ (t : Session). record t { snap = record t.snap { room = 0 } }) o)) is
    ∙ ap (λ (b : Bool). if b then Some (bare s) else None) (eq-eqb s.number number same)

-- ---- where no block is left to be sent

module _ (s : Session) (incarnation : ℕ) (w : World) (of : IsSession incarnation s w) (chunks : AreChunks s.snap) (unsent : AreUnsent (Some s) w.sides.owner) (none : NoneLeft w.sides) where
  place_in : (i block : ℕ) → block < block_count s.snap.list i → place_of (block_counts s.snap.list) i block < w.sides.size w.sides.at
  place_in i block small =
      subst (λ (n : ℕ). place_of (block_counts s.snap.list) i block < n) (sym of.size)
      (place_small (block_counts s.snap.list) i block (subst (λ (n : ℕ). block < n) (sym (counts_at s.snap.list i)) small))

  -- a free chunk would have a free block
  free_not : (i : ℕ) → slice_get s.snap.chunks i ≡ Some chunk.Free → ⊥
  free_not i is =
      let below : i < chunk_count s.snap.list = subst (λ (n : ℕ). i < n) chunks.count (slice_get_within s.snap.chunks i chunk.Free is) in
      let l : Lacks (slice_index s.snap.kept i) (block_count s.snap.list i) = lacks (slice_index s.snap.kept i) (block_count s.snap.list i) (chunks.within i) (chunks.some i below (λ e. cc (is, e))) in
      (none (place_of (block_counts s.snap.list) i l.block) (place_in i l.block l.there)).0 (owned l.block l.there l.unkept)
    where
      owned : (block : ℕ) → block < block_count s.snap.list i → is_kept (slice_index s.snap.kept i) block ≡ false → w.sides.owner (place_of (block_counts s.snap.list) i block) ≡ Free
      owned block small unkept =
          subst (λ (o : Option Chunk). Owns false o (w.sides.owner (place_of (block_counts s.snap.list) i block))) is
          (subst (λ (b : Bool). Owns b (slice_get s.snap.chunks i) (w.sides.owner (place_of (block_counts s.snap.list) i block))) unkept (of.owner i block small))

  -- a claimed one would have one that is still to be sent
  claimed_not : (i task : ℕ) → slice_get s.snap.chunks i ≡ Some (chunk.Claimed task) → ⊥
  claimed_not i task is =
      let u = unsent i task is in
      (none (place_of (block_counts s.snap.list) i u.block) (place_in i u.block u.there)).1 task u.claimed

  finished_is : (i : ℕ) (c : Chunk) → slice_get s.snap.chunks i ≡ Some c → c ≡ chunk.Finished
  finished_is i chunk.Free is = absurd (free_not i is)
  finished_is i (chunk.Claimed task) is = absurd (claimed_not i task is)
  finished_is i chunk.Finished is = refl

  -- EACH CHUNK IS FINISHED.
  pub none_left : left_of s.snap.chunks ≡ 0
  none_left = none_unfinished s.snap.chunks finished_is

-- ---- the next stage

-- THE NEXT STAGE OF A SESSION has just begun.
pub record IsNextOf (s now : Session) : Type 0 where
  pub number : now.number ≡ s.number
  pub incarnation : now.incarnation ≡ s.incarnation
  pub tasks : now.tasks ≡ s.tasks
  pub version : now.version ≡ s.version
  pub list : StageList
  pub snap : now.snap ≡ begun list
  pub next : donor_stage now ≡ suc (donor_stage s)

-- the donor has come to it
pub record MovesOn (number : ℕ) (e : Cloning) (s : Session) : Type 0 where
  pub now : Session
  pub is : own_session number e ≡ Some now
  pub of : IsNextOf s now

module _ (number : ℕ) (at : Moment) (files : List (ℕ × ℕ)) (s : Session) (c e : Cloning) (there : c.session ≡ Some s) (own : s.number ≡ number) where
  begun_next : (like : Cloning) (x : Session) → like.session ≡ Some x → x.number ≡ number → Becomes e like → IsNextOf (bare s) (bare x) → MovesOn number e (bare s)
  begun_next like x is same becomes of = record { now = bare x; is = becomes_own number like e becomes ∙ own_here number like x is same; of = of }

  stands_in : IsCloning c → IsInStage c s s.snap.list
  stands_in cloning = (subst (IsInSession c) there cloning.session).2

  by_list : IsCloning c → (list : StageList) → s.snap.list ≡ list → donor_stage s ≤ 3 → Becomes e (advanced at files s list c) → MovesOn number e (bare s)
  by_list cloning (lists.Files spaces) is small becomes = begun_next (files_ended at (created_since spaces files) s c) _ refl own becomes (record { number = refl; incarnation = refl; tasks = refl; version = refl; list = _; snap = refl; next = sym (ap (λ (l : StageList). suc (stage_number (lists.stage_of l))) is) })
  by_list cloning (lists.Pages pages) is small becomes =
      let copies : CopiesPages c s.snap.room = subst (IsInStage c s) is (stands_in cloning) in
      begun_next (stopped_at at s copies.archive c) _ refl own (subst (λ (o : Option Archived). Becomes e (option_map_or (λ a. stopped_at at s a c) o c)) copies.stands becomes) (record { number = refl; incarnation = refl; tasks = refl; version = refl; list = _; snap = refl; next = sym (ap (λ (l : StageList). suc (stage_number (lists.stage_of l))) is) })
  by_list cloning (lists.Redo start end) is small becomes = begun_next (in_stage lists.Nothing s c) _ refl own becomes (record { number = refl; incarnation = refl; tasks = refl; version = refl; list = _; snap = refl; next = sym (ap (λ (l : StageList). suc (stage_number (lists.stage_of l))) is) })
  by_list cloning lists.Nothing is small becomes = absurd (let four : donor_stage s ≡ 4 = ap (λ (l : StageList). stage_number (lists.stage_of l)) is in omega (arith, four, small))

  -- AN ACKNOWLEDGEMENT of a stage in which something is copied moves it on.
  pub moves_on : IsCloning c → donor_stage s ≤ 3 → Becomes e (advanced at files s s.snap.list c) → MovesOn number e (bare s)
  moves_on cloning small becomes = by_list cloning s.snap.list refl small becomes

-- it is one of the recipient's, if the recipient is in the stage before
pub next_is : (r : Reception) (s now : Session) → IsNextOf s now → IsSessionOf r s → phase_number r.table.phase ≡ donor_stage s → IsSessionOf r now
next_is r s now of own level = record {
  number = of.number ∙ own.number;
  tasks = of.tasks ∙ own.tasks;
  version = of.version ∙ own.version;
  before = subst (λ (n : ℕ). n ≤ incarnation_of r.table) (sym of.incarnation) own.before;
  chunks = reset_chunks of.list [] [] now (ap (λ (x : Snap). x.list) of.snap) (subst (λ (x : Snap). IsReset of.list [] [] x.chunks x.kept) (sym of.snap) (begun_reset of.list));
  copies = λ same. absurd (omega (arith, same, level, of.next));
}

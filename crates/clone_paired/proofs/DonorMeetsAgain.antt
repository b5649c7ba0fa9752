-- REINIT and REINIT2: a donor goes on with the session of a clone, in its next incarnation.
use Rattle.std.proofs.Common.{ℕ, suc, ◌≡◌, ◌≢◌, ◌∙◌, ◌⊎◌, ◌+◌, ◌<◌, ◌≤◌, List, [], ◌∷◌, Bool, true, false, if◌then◌else◌, Option, None, Some, Ok, Err, length, nat_le, refl, sym, ap, subst, inl, inr, arith}
use Rattle.std.specs.Prelude.{not, ◌==◌, ◌&&◌, ◌||◌}
use Rattle.std.specs.List.{All}
use Rattle.std.specs.Option.{option_map_or, option_or}
use Rattle.std.proofs.lemmas.Bool.{eq-eqb, ne_eqb}
use Rattle.std.proofs.lemmas.List.{take_all}
use Rattle.clone_chunk.specs.Bitmaps.{Bits}
use Rattle.clone_chunk.specs.Chunks.{has_bit}
use Rattle.clone_chunk.specs.Partials.{Taken}
use Rattle.clone_chunk.specs.Stages.{copy_number, stage_number}
use Rattle.clone_chunk.specs.declared.cause.CloneCause.{CloneCause}
use Rattle.clone_chunk.specs.declared.cause.CloneCause.TheVariants.{NoSuchSession, StageMismatch, VersionMismatch}
use Rattle.clone_chunk.specs.declared.copy_stage.CopyStage.{CopyStage}
use Rattle.clone_chunk.specs.declared.copy_stage.CopyStage.TheVariants as copy
use Rattle.clone_chunk.specs.declared.partials.PartialChunk.{PartialChunk}
use Rattle.clone_chunk.specs.declared.partials.TheConstants.{MOST_PARTIAL}
use Rattle.clone_marks.specs.Blocks.{IsChunk, blocks_of, is_finished_at, partials_of}
use Rattle.clone_marks.specs.Counts.{block_counts}
use Rattle.clone_snapshot.specs.Resets.{IsReset}
use Rattle.clone_snapshot.specs.Snaps.{Snap}
use Rattle.clone_snapshot.specs.StageLists.{StageList, stage_of}
use Rattle.clone_session.specs.Cloning.{Cloning, Session}
use Rattle.clone_session.specs.CloneCalls.{Reinits, of_stage}
use Rattle.clone_session.specs.CloneCauses.{donor_stage, no_blocks, not_later, out_of_stage, reinit_blocks_cause, reinit_cause, session_of, whether}
use Rattle.clone_session.specs.Effects.{Becomes, rejoined}
use Rattle.clone_session.specs.declared.limits.TheConstants.{BLOCKS_VERSION}
use Rattle.clone_session.specs.declared.caller.Caller.{Caller}
use Rattle.clone_session.specs.declared.info.StageInfo.{StageInfo}
use Rattle.clone_session.specs.declared.refusal.CloneRefusal.TheVariants.{Because, NoMemory}
use Rattle.clone_wire.specs.declared.frame.Attempt.{Attempt}
use Rattle.clone_wire.specs.declared.frame.Frame.{Frame}
use Rattle.clone_wire.specs.declared.frame.Frame.TheVariants as frame
use Rattle.clone_calls.specs.declared.answer.DonorAnswer.{DonorAnswer}
use Rattle.clone_calls.specs.declared.answer.DonorAnswer.TheVariants as reply
use Rattle.clone_calls.specs.declared.call.DonorCall.TheVariants as call
use Rattle.clone_serve.specs.Following as following
use Rattle.clone_serve.specs.Telling.{stage_frame}
use Rattle.clone_serve.specs.declared.after.After.TheVariants.{Ends}
use Rattle.clone_serve.specs.declared.doing.Doing.{Doing}
use Rattle.clone_serve.specs.declared.doing.Doing.TheVariants as doing
use Rattle.clone_serve.specs.declared.turn.ServeAnswer.{ServeAnswer}
use Rattle.clone_serve.specs.declared.turn.ServeAnswer.TheVariants as says
use Rattle.clone_tasks.specs.Losing.{kept_in}
use Rattle.clone_tasks.specs.Sending.{Opens, Reattaches}
use Rattle.clone_tasks.specs.Tables.{Table, attempt_of, incarnation_of}
use Rattle.clone_tasks.specs.declared.standing.Phase.{Phase}
use Rattle.clone_tasks.specs.declared.standing.Phase.TheVariants.{Copying, Done, Opening}
use Rattle.clone_recipient.specs.Receptions.{Reception}
use Rattle.clone_engine.specs.Answering.{Answered}
use Rattle.clone_engine.specs.Donor.{Donor}
use Rattle.clone_rounds.specs.Steps.{kept_of}
use Rattle.clone_rounds.specs.World.{Free}
use Rattle.clone_view.specs.Donors.{AreOwned}
use Rattle.clone_view.specs.Rows.{places, taken_at}
use Rattle.clone_view.specs.Tables.{phase_number}
use Rattle.clone_paired.specs.Lines.{caller_of}
use Rattle.clone_paired.specs.Own.{own_session}
use Rattle.clone_paired.specs.Seen.{stage_at}
use Rattle.clone_paired.specs.Sessions.{Copies, IsSessionOf}
use Rattle.clone_paired.proofs.DonorMeets.{Renewed, Takes, ahead, level}
use Rattle.clone_paired.proofs.DonorMeetsMarks.{kept_owned}
use Rattle.clone_paired.proofs.DonorMovesBlocks.{free_owned, reset_chunks, reset_unclaimed}
use Rattle.clone_paired.proofs.DonorMovesOn.{own_here}
use Rattle.clone_paired.proofs.DonorOpens.{later_is}
use Rattle.clone_paired.proofs.DonorOthers.{becomes_own}
use Rattle.clone_paired.proofs.DonorReads.{Stands, bare}

-- ---- what the recipient shows of its stage

pub record Shows (t : Table) (stage : CopyStage) (bitmap : List ℕ) (partials : List PartialChunk) : Type 0 where
  pub phase : phase_number t.phase ≡ copy_number stage
  pub bits : (i : ℕ) → has_bit bitmap i ≡ is_finished_at t.marks i
  pub all : partials ≡ partials_of t.marks

no_partials : (partials : List PartialChunk) (n : ℕ) → n ≡ 0 → length partials ≤ n → [] ≡ partials
no_partials [] n is few = refl
no_partials (p ∷ partials) n is few = absurd (omega (arith, is, few))

module _ (t : Table) (few : length (partials_of t.marks) ≤ kept_in t.version) where
  -- REINIT
  pub record ShowsChunks (attempt : Attempt) (stage : CopyStage) (finished : Bits) : Type 0 where
    pub attempt_is : attempt ≡ attempt_of t
    pub shows : Shows t stage finished.bytes []

  chunks_by : (one : Bool) → (t.version == 1) ≡ one → (at : CopyStage) → t.phase ≡ Copying at → (attempt : Attempt) (stage : CopyStage) (finished : Bits) → Reattaches one at t (frame.Reinit attempt stage finished) → ShowsChunks attempt stage finished
  chunks_by true first at phase attempt stage finished (bits, is, shows) =
      let same : stage ≡ at = cc (is) in
      let own : finished ≡ bits = cc (is) in
      record { attempt_is = cc (is); shows = record { phase = ap phase_number phase ∙ ap copy_number (sym same); bits = λ i. ap (λ (b : Bits). has_bit b.bytes i) own ∙ shows.each i; all = no_partials (partials_of t.marks) (kept_in t.version) (ap (λ (b : Bool). if b then 0 else MOST_PARTIAL) first) few } }
  chunks_by false first at phase attempt stage finished is = absurd (cc (is.1))

  pub shows_chunks : (phase : Phase) → t.phase ≡ phase → (attempt : Attempt) (stage : CopyStage) (finished : Bits) → Opens phase t (frame.Reinit attempt stage finished) → ShowsChunks attempt stage finished
  shows_chunks Opening phase attempt stage finished is = absurd (cc (is))
  shows_chunks (Copying at) phase attempt stage finished is = chunks_by (t.version == 1) refl at phase attempt stage finished is
  shows_chunks Done phase attempt stage finished is = absurd (cc (is))

  -- REINIT2
  pub record ShowsBlocks (attempt : Attempt) (stage : CopyStage) (taken : Taken) : Type 0 where
    pub attempt_is : attempt ≡ attempt_of t
    pub second : (t.version == 1) ≡ false
    pub shows : Shows t stage taken.finished.bytes taken.partials

  blocks_by : (one : Bool) → (t.version == 1) ≡ one → (at : CopyStage) → t.phase ≡ Copying at → (attempt : Attempt) (stage : CopyStage) (taken : Taken) → Reattaches one at t (frame.Reinit2 attempt stage taken) → ShowsBlocks attempt stage taken
  blocks_by true second at phase attempt stage taken is = absurd (cc (is.1))
  blocks_by false second at phase attempt stage taken (shown, is, shows) =
      let same : stage ≡ at = cc (is) in
      let own : taken ≡ shown = cc (is) in
      let most : length (partials_of t.marks) ≤ MOST_PARTIAL = subst (λ (n : ℕ). length (partials_of t.marks) ≤ n) (ap (λ (b : Bool). if b then 0 else MOST_PARTIAL) second) few in
      record {
        attempt_is = cc (is);
        second = second;
        shows = record {
          phase = ap phase_number phase ∙ ap copy_number (sym same);
          bits = λ i. ap (λ (b : Taken). has_bit b.finished.bytes i) own ∙ shows.finished.each i;
          all = ap (λ (b : Taken). b.partials) own ∙ shows.partials ∙ take_all MOST_PARTIAL (partials_of t.marks) most;
        };
      }

  pub shows_blocks : (phase : Phase) → t.phase ≡ phase → (attempt : Attempt) (stage : CopyStage) (taken : Taken) → Opens phase t (frame.Reinit2 attempt stage taken) → ShowsBlocks attempt stage taken
  shows_blocks Opening phase attempt stage taken is = absurd (cc (is))
  shows_blocks (Copying at) phase attempt stage taken is = blocks_by (t.version == 1) refl at phase attempt stage taken is
  shows_blocks Done phase attempt stage taken is = absurd (cc (is))

-- ---- nothing is against it

pub in_stage : (s : Session) (stage : CopyStage) → (donor_stage s ≡ copy_number stage) ⊎ (donor_stage s ≡ suc (copy_number stage)) → out_of_stage s (copy_number stage) ≡ None
in_stage s stage which = ap (λ (b : Bool). whether (not b) (StageMismatch (donor_stage s) n)) (copy_within stage ((n == donor_stage s) || (n + 1 == donor_stage s)) ∙ by which)
  where
    n : ℕ
    n = copy_number stage

    copy_within : (at : CopyStage) (b : Bool) → (nat_le 1 (copy_number at) && nat_le (copy_number at) 3 && b) ≡ b
    copy_within copy.FileCopy b = refl
    copy_within copy.PageCopy b = refl
    copy_within copy.RedoCopy b = refl

    or_next : (a b : Bool) → b ≡ true → (a || b) ≡ true
    or_next true b is = refl
    or_next false b is = is

    by : (donor_stage s ≡ n) ⊎ (donor_stage s ≡ suc n) → ((n == donor_stage s) || (n + 1 == donor_stage s)) ≡ true
    by (inl same) = ap (λ (b : Bool). b || (n + 1 == donor_stage s)) (eq-eqb n (donor_stage s) (sym same))
    by (inr next) = or_next (n == donor_stage s) (n + 1 == donor_stage s) (eq-eqb (n + 1) (donor_stage s) (omega (arith, next)))

module _ (number incarnation task : ℕ) (c : Cloning) (full : Session) (found : session_of c number ≡ Some full) (less : full.incarnation < incarnation) (stage : CopyStage) (which : (donor_stage full ≡ copy_number stage) ⊎ (donor_stage full ≡ suc (copy_number stage))) where
  abbrev caller : Caller
  caller = record { session = number; incarnation = incarnation; task = task }

  pub reinit_fine : reinit_cause c caller (copy_number stage) ≡ None
  reinit_fine =
      ap (λ (o : Option Session). option_map_or (λ (s : Session). option_or (not_later s incarnation) (out_of_stage s (copy_number stage))) o (Some NoSuchSession)) found
      ∙ ap (λ (o : Option CloneCause). option_or o (out_of_stage full (copy_number stage))) (later_is full incarnation less)
      ∙ in_stage full stage which

  pub blocks_fine : (full.version == 1) ≡ false → reinit_blocks_cause c caller (copy_number stage) ≡ None
  blocks_fine second =
      ap (λ (o : Option Session). option_map_or (λ (s : Session). option_or (not_later s incarnation) (option_or (no_blocks s) (out_of_stage s (copy_number stage)))) o (Some NoSuchSession)) found
      ∙ ap (λ (o : Option CloneCause). option_or o (option_or (no_blocks full) (out_of_stage full (copy_number stage)))) (later_is full incarnation less)
      ∙ ap (λ (b : Bool). option_or (whether b (VersionMismatch BLOCKS_VERSION)) (out_of_stage full (copy_number stage))) second
      ∙ in_stage full stage which

-- ---- what the donor answers

pub record Rejoined (d t : Donor) (caller : Caller) (stage : ℕ) (bitmap : List ℕ) (partials : List PartialChunk) (next : Doing) (sends : Option Frame) : Type 0 where
  pub info : StageInfo
  pub does : Reinits caller stage bitmap partials d.cloning t.cloning info
  pub next_is : next ≡ doing.Ready caller
  pub sends_is : sends ≡ Some (stage_frame info)

module _ (d t : Donor) (caller : Caller) (stage : ℕ) (next : Doing) (sends : Option Frame) (spoke : ServeAnswer) (fit : spoke ≢ says.NoMemory) (given : DonorAnswer) (e : following.after (doing.Telling caller) given ≡ Some (Ends next sends spoke)) where
  pub rejoined_as : (finished : Bits) → reinit_cause d.cloning caller stage ≡ None → Answered (call.Reinit caller stage finished) given d t → Rejoined d t caller stage finished.bytes [] next sends
  rejoined_as finished fine did = by given e did
    where
      by : (given : DonorAnswer) → following.after (doing.Telling caller) given ≡ Some (Ends next sends spoke) → Answered (call.Reinit caller stage finished) given d t → Rejoined d t caller stage finished.bytes [] next sends
      by (reply.Reinit (Ok info)) is does = record { info = info; does = does.1.0; next_is = sym (cc (is)); sends_is = sym (cc (is)) }
      by (reply.Reinit (Err (Because why))) is does = absurd (cc (fine, does.0))
      by (reply.Reinit (Err NoMemory)) is does = absurd (fit (sym (cc (is))))
      by other is does = absurd does

  pub rejoined_blocks : (taken : Taken) → reinit_blocks_cause d.cloning caller stage ≡ None → Answered (call.ReinitBlocks caller stage taken) given d t → Rejoined d t caller stage taken.finished.bytes taken.partials next sends
  rejoined_blocks taken fine did = by given e did
    where
      by : (given : DonorAnswer) → following.after (doing.Telling caller) given ≡ Some (Ends next sends spoke) → Answered (call.ReinitBlocks caller stage taken) given d t → Rejoined d t caller stage taken.finished.bytes taken.partials next sends
      by (reply.ReinitBlocks (Ok info)) is does = record { info = info; does = does.1.0; next_is = sym (cc (is)); sends_is = sym (cc (is)) }
      by (reply.ReinitBlocks (Err (Because why))) is does = absurd (cc (fine, does.0))
      by (reply.ReinitBlocks (Err NoMemory)) is does = absurd (fit (sym (cc (is))))
      by other is does = absurd does

-- ---- the session goes on

module _ (r : Reception) (are : All IsChunk r.table.marks) (known : ℕ → List ℕ) (recipient : known (phase_number r.table.phase) ≡ blocks_of r.table.marks) (d t : Donor) (s : Session) (st : Stands r.table.session d.cloning s) (own : IsSessionOf r s) (counted : known (donor_stage s) ≡ block_counts s.snap.list) (stage : CopyStage) (bitmap : List ℕ) (partials : List PartialChunk) (shows : Shows r.table stage bitmap partials) (info : StageInfo) (does : Reinits (caller_of r.table 0) (copy_number stage) bitmap partials d.cloning t.cloning info) where
  abbrev full : Session
  full = st.full

  same : does.0 ≡ full
  same = cc (does.1, st.found)

  abbrev snap : Snap
  snap = does.2.0

  abbrev now : Session
  now = bare (record full { incarnation = incarnation_of r.table; snap = snap })

  is_now : own_session r.table.session t.cloning ≡ Some now
  is_now =
      let like : Cloning = rejoined (incarnation_of r.table) snap full d.cloning in
      let number : full.number ≡ r.table.session = sym (ap (λ (y : Session). y.number) st.is) ∙ own.number in
      becomes_own r.table.session like t.cloning (subst (λ (y : Session). Becomes t.cloning (rejoined (incarnation_of r.table) snap y d.cloning)) same does.2.3)
      ∙ own_here r.table.session like (record full { incarnation = incarnation_of r.table; snap = snap }) refl number

  list_is : snap.list ≡ s.snap.list
  list_is = does.2.1 ∙ ap (λ (y : Session). y.snap.list) same ∙ sym (ap (λ (y : Session). y.snap.list) st.is)

  -- it has what is of its stage
  reset : IsReset snap.list (of_stage (copy_number stage) full bitmap) (of_stage (copy_number stage) full partials) snap.chunks snap.kept
  reset = subst (λ (y : Session). IsReset snap.list (of_stage (copy_number stage) y bitmap) (of_stage (copy_number stage) y partials) snap.chunks snap.kept) same does.2.2

  stage_is : donor_stage now ≡ donor_stage s
  stage_is = ap (λ (l : StageList). stage_number (stage_of l)) list_is

  full_stage : donor_stage full ≡ donor_stage s
  full_stage = sym (ap donor_stage st.is)

  own_now : IsSessionOf r now
  own_now = record {
    number = sym (ap (λ (y : Session). y.number) st.is) ∙ own.number;
    tasks = sym (ap (λ (y : Session). y.tasks) st.is) ∙ own.tasks;
    version = sym (ap (λ (y : Session). y.version) st.is) ∙ own.version;
    before = omega arith;
    chunks = reset_chunks snap.list (of_stage (copy_number stage) full bitmap) (of_stage (copy_number stage) full partials) now refl reset;
    copies = λ e. subst (λ (l : StageList). Copies r.table.phase r l) (sym list_is) (own.copies (sym stage_is ∙ e));
  }

  level_owned : donor_stage s ≡ phase_number r.table.phase → (taken : ℕ → Bool) → ((place : ℕ) → place < places (block_counts now.snap.list) → taken place ≡ taken_at r.table.marks place) → AreOwned now (λ place. kept_of (taken place))
  level_owned e taken taken_is = kept_owned r.table.marks are now snap.list refl counts bitmap shows.bits partials shows.all reset_here taken taken_is
    where
      counts : blocks_of r.table.marks ≡ block_counts snap.list
      counts = sym recipient ∙ ap known (sym e) ∙ counted ∙ ap block_counts (sym list_is)

      here : (copy_number stage == donor_stage full) ≡ true
      here = eq-eqb (copy_number stage) (donor_stage full) (sym shows.phase ∙ sym e ∙ sym full_stage)

      reset_here : IsReset snap.list bitmap partials snap.chunks snap.kept
      reset_here = subst (λ (b : Bool). IsReset snap.list (if b then bitmap else []) (if b then partials else []) snap.chunks snap.kept) here reset

  ahead_owned : donor_stage s ≡ suc (phase_number r.table.phase) → AreOwned now (λ place. Free)
  ahead_owned e = free_owned snap.list now refl (subst (λ (b : Bool). IsReset snap.list (if b then bitmap else []) (if b then partials else []) snap.chunks snap.kept) there reset)
    where
      there : (copy_number stage == donor_stage full) ≡ false
      there = ne_eqb (copy_number stage) (donor_stage full) (λ one. omega (arith, one, shows.phase, e, full_stage))

  -- THE SESSION OF THE NEXT INCARNATION
  pub renewed_again : (session : Option Session) → session ≡ Some s → (donor_stage s ≡ phase_number r.table.phase) ⊎ (donor_stage s ≡ suc (phase_number r.table.phase)) → Renewed r known session t.cloning
  renewed_again session is which = record {
    now = now;
    is = is_now;
    of = record {
      own = own_now;
      incarnation = refl;
      unclaimed = reset_unclaimed snap.list (of_stage (copy_number stage) full bitmap) (of_stage (copy_number stage) full partials) now refl reset;
      extends = (omega (arith, before, stage_is), inl (ap block_counts list_is ∙ sym counted ∙ ap known (sym stage_is)));
      takes = by which;
    };
  }
    where
      before : stage_at session ≡ donor_stage s
      before = ap stage_at is

      some : 0 < copy_number stage
      some = at stage
        where
          at : (c : CopyStage) → 0 < copy_number c
          at copy.FileCopy = omega arith
          at copy.PageCopy = omega arith
          at copy.RedoCopy = omega arith

      by : (donor_stage s ≡ phase_number r.table.phase) ⊎ (donor_stage s ≡ suc (phase_number r.table.phase)) → Takes r (stage_at session) now
      by (inl e) = level (omega (arith, before, e, shows.phase, some)) (before ∙ e) (stage_is ∙ sym before) (level_owned e)
      by (inr e) = ahead (inl (before ∙ e)) (stage_is ∙ e) (ahead_owned e)

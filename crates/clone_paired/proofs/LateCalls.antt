-- A CALL of a caller of an earlier incarnation: it is refused once the donor has the present one, and until then it may change the session.
use Rattle.std.proofs.Common.{ℕ, suc, ◌≡◌, ◌≢◌, ◌∙◌, ◌⊎◌, ◌==◌, ◌<◌, ◌≤◌, List, [], Bool, true, false, if◌then◌else◌, Option, None, Some, Ok, Err, Result, option_and_then, option_map, refl, sym, ap, subst, inl, inr, arith}
use Rattle.std.specs.Bool.{⊤}
use Rattle.std.specs.Prelude.{nat_le, nat_lt, not, slice_get, slice_index, slice_set, ◌&&◌, ◌||◌}
use Rattle.std.specs.Option.{is_some, option_map_or, option_or}
use Rattle.std.proofs.lemmas.Bool.{eq-eqb, eqb-true, leb-false, ltb-false}
use Rattle.clone_archive.specs.Archived.{Archived}
use Rattle.clone_track.specs.TrackedPages.{listed}
use Rattle.clone_base.specs.declared.limits.TheConstants.{MOST_TASKS, PAGE_SIZE}
use Rattle.clone_chunk.specs.Chunks.{is_kept}
use Rattle.clone_chunk.specs.Stages.{stage_number}
use Rattle.clone_chunk.specs.declared.cause.CloneCause.{CloneCause}
use Rattle.clone_chunk.specs.declared.cause.CloneCause.TheVariants.{Busy, CompressionRefused, NoSuchSession, NotClaimed, PageSizeMismatch, Stale, TasksOutOfRange, VersionMismatch}
use Rattle.clone_chunk.specs.declared.chunk.Chunk.{Chunk}
use Rattle.clone_chunk.specs.declared.chunk.Chunk.TheVariants as chunk
use Rattle.clone_chunk.specs.declared.partials.PartialChunk.{PartialChunk}
use Rattle.clone_snapshot.specs.Snaps.{Snap}
use Rattle.clone_snapshot.specs.StageLists as lists
use Rattle.clone_snapshot.specs.StageLists.{StageList, block_of}
use Rattle.clone_session.specs.declared.caller.Caller.{Caller}
use Rattle.clone_session.specs.declared.caller.Hello.{Hello}
use Rattle.clone_session.specs.declared.ending.Moment.{Moment}
use Rattle.clone_session.specs.Cloning.{Cloning, Session}
use Rattle.clone_session.specs.CloneCalls.{Claims, Rejoins, of_stage}
use Rattle.clone_session.specs.CloneCauses.{donor_stage, hello_cause, is_claimed, is_version, no_blocks, not_claimed, not_later, on_session, other_stage, out_of_stage, session_of, stale, standing_cause, whether}
use Rattle.clone_session.specs.Effects.{Becomes, advanced, aside, begun, finished, opened, rejoined, stopped_at}
use Rattle.clone_calls.specs.declared.answer.DonorAnswer.{DonorAnswer}
use Rattle.clone_calls.specs.declared.answer.DonorAnswer.TheVariants as reply
use Rattle.clone_calls.specs.declared.call.DonorCall.{DonorCall}
use Rattle.clone_calls.specs.declared.call.DonorCall.TheVariants as call
use Rattle.clone_tasks.specs.Tables.{Table, incarnation_of}
use Rattle.clone_recipient.specs.Receptions.{Reception}
use Rattle.clone_network.specs.Networks.{Network}
use Rattle.clone_engine.specs.Answering.{Answered}
use Rattle.clone_engine.specs.Copying.{BeginsAs, moment_of}
use Rattle.clone_engine.specs.Donor.{Donor, known_files}
use Rattle.clone_view.specs.Tables.{phase_number}
use Rattle.clone_paired.specs.Own.{own_session}
use Rattle.clone_paired.specs.Paired.{IsTalking}
use Rattle.clone_paired.specs.Seen.{IsSeen, stage_at}
use Rattle.clone_paired.specs.Sessions.{AreChunks, IsSessionOf}
use Rattle.clone_paired.proofs.DonorEnding.{owned_bare}
use Rattle.clone_paired.proofs.DonorOthers.{becomes_own, call_own, gone_own, not_whether, or_first, or_second, refused_own, same_donor, same_own, unread_own}
use Rattle.clone_paired.proofs.DonorReads.{bare}
use Rattle.clone_paired.proofs.LateChunks.{begun_chunks, reset_chunks, set_chunks}
use Rattle.clone_paired.proofs.LateMoves.{IsBehind, phase_reached, seen_now}
use Rattle.clone_paired.proofs.LateReads.{IsOf}
use Rattle.clone_paired.proofs.LateSessions.{begins_on, own_of, stays_on}

-- WHO CALLS, where a session may change: an earlier incarnation of this clone. It doesn't acknowledge what the recipient didn't.
abbrev pub IsLateCall : Table → Bool → DonorCall → Type 0
IsLateCall t acknowledged (call.Init hello) = (hello.session ≡ t.session) × (hello.incarnation < incarnation_of t) × (hello.version ≡ t.version) × (hello.tasks ≡ t.count)
IsLateCall t acknowledged (call.Attach caller) = ⊤
IsLateCall t acknowledged (call.Reinit caller stage finished) = IsOf t caller
IsLateCall t acknowledged (call.ReinitBlocks caller stage taken) = IsOf t caller
IsLateCall t acknowledged (call.Kept caller stage chunk) = ⊤
IsLateCall t acknowledged (call.Execute caller stage) = ⊤
IsLateCall t acknowledged (call.Claim caller stage) = IsOf t caller
IsLateCall t acknowledged (call.ReadBlock caller stage chunk block) = IsOf t caller
IsLateCall t acknowledged (call.Ack caller stage floor) = IsOf t caller × ((stage < phase_number t.phase) ⊎ ((stage ≡ phase_number t.phase) × (acknowledged ≡ true)))
IsLateCall t acknowledged (call.Archive limit) = ⊤
IsLateCall t acknowledged other = ⊥

-- ---- what is against a call

quiet : (b : Bool) (cause : CloneCause) → whether b cause ≡ None → b ≡ false
quiet false cause is = refl
quiet true cause is = absurd (cc (is))

later_than : (s : Session) (incarnation : ℕ) → not_later s incarnation ≡ None → s.incarnation < incarnation
later_than s incarnation none = leb-false incarnation s.incarnation (quiet (nat_le incarnation s.incarnation) (Stale s.incarnation) none)

not_before : (s : Session) (incarnation : ℕ) → stale s incarnation ≡ None → s.incarnation ≤ incarnation
not_before s incarnation none = ltb-false incarnation s.incarnation (quiet (nat_lt incarnation s.incarnation) (Stale s.incarnation) none)

at_session : (c : Cloning) (asked : ℕ) (cause : Session → Option CloneCause) (s : Session) → session_of c asked ≡ Some s → on_session c asked cause ≡ None → cause s ≡ None
at_session c asked cause s found none = sym (ap (λ (o : Option Session). option_map_or cause o (Some NoSuchSession)) found) ∙ none

-- a chunk that a block is read of isn't finished
claimed_chunk : (s : Session) (task i block : ℕ) → not_claimed s task i block ≡ None → (old : Chunk) × (slice_get s.snap.chunks i ≡ Some old) × (old ≢ chunk.Finished)
claimed_chunk s task i block none = by (slice_get s.snap.chunks i) refl none
  where
    by : (o : Option Chunk) → slice_get s.snap.chunks i ≡ o → whether (not (is_claimed task o && is_some (block_of s.snap.list i block) && not (is_kept (slice_index s.snap.kept i) block))) NotClaimed ≡ None → (old : Chunk) × (slice_get s.snap.chunks i ≡ Some old) × (old ≢ chunk.Finished)
    by None is none = absurd (cc (none))
    by (Some chunk.Free) is none = (chunk.Free, is, λ e. cc (e))
    by (Some (chunk.Claimed j)) is none = (chunk.Claimed j, is, λ e. cc (e))
    by (Some chunk.Finished) is none = absurd (cc (none))

-- a session that has just begun
abbrev first_session : Hello → List (ℕ × ℕ) → Session
first_session hello files = record { number = hello.session; incarnation = hello.incarnation; tasks = hello.tasks; version = hello.version; snap = begun (lists.Files files); created = [] }

-- how much room there is says nothing of the chunks
bare_chunks : (snap : Snap) → AreChunks snap → AreChunks (record snap { room = 0 })
bare_chunks snap are = record { count = are.count; masks = are.masks; within = are.within; some = are.some }

own_some : (number : ℕ) (c : Cloning) (x : Session) → c.session ≡ Some x → x.number ≡ number → own_session number c ≡ Some (bare x)
own_some number c x here same =
    ap (λ (o : Option Session). option_and_then (λ (t : Session). if t.number == number then Some t else None) (option_map (λ (t : Session). record t { snap = record t.snap { room = 0 } }) o)) here
    ∙ ap (λ (b : Bool). if b then Some (record x { snap = record x.snap { room = 0 } }) else None) (eq-eqb x.number number same)

module _ (d t : Donor) (r : Reception) (n : Network) (talks : IsTalking (own_session r.table.session d.cloning) r n) where
  abbrev number : ℕ
  number = r.table.session

  abbrev session : Option Session
  session = own_session r.table.session d.cloning

  abbrev now : Option Session
  now = own_session r.table.session t.cloning

  -- THE CLONE TALKS ON, and where the donor has the present incarnation the session stays.
  abbrev pub GoesOn : Type 0
  GoesOn = IsTalking now r n × ((s : Session) → session ≡ Some s → s.incarnation ≡ incarnation_of r.table → now ≡ session)

  pub same_goes : now ≡ session → GoesOn
  same_goes is = (subst (λ (o : Option Session). IsTalking o r n) (sym is) talks, λ s there present. is)

  behind_goes : IsBehind session r → (x : Session) → now ≡ Some x → IsTalking (Some x) r n → GoesOn
  behind_goes behind x is on = (subst (λ (o : Option Session). IsTalking o r n) (sym is) on, λ s there present. absurd (never s there present))
    where
      never : (s : Session) → session ≡ Some s → s.incarnation ≡ incarnation_of r.table → ⊥
      never s there present =
          let less : s.incarnation < incarnation_of r.table = subst (λ (o : Option Session). IsBehind o r) there behind in
          omega (arith, less, present)

  -- ---- a session of this clone changes

  -- it stands
  module _ (s : Session) (found : session ≡ Some (bare s)) (behind : s.incarnation < incarnation_of r.table) where
    of : IsSessionOf r (bare s)
    of = own_of session r n talks (bare s) found

    is_behind : IsBehind session r
    is_behind = subst (λ (o : Option Session). IsBehind o r) (sym found) behind

    -- in its stage
    changes : (x : Session) → now ≡ Some (bare x) → x.number ≡ s.number → x.tasks ≡ s.tasks → x.version ≡ s.version → x.incarnation < incarnation_of r.table → x.snap.list ≡ s.snap.list → AreChunks (bare x).snap → GoesOn
    changes x is same tasks version before list chunks = behind_goes is_behind (bare x) is (stays_on session r n talks (bare s) found behind (bare x) same tasks version before list chunks)

    like : (c : Cloning) (x : Session) → c.session ≡ Some x → x.number ≡ s.number → Becomes t.cloning c → now ≡ Some (bare x)
    like c x here same becomes = becomes_own number c t.cloning becomes ∙ own_some number c x here (same ∙ of.number)

    -- a later incarnation
    renews : (incarnation : ℕ) (snap : Snap) → incarnation < incarnation_of r.table → snap.list ≡ s.snap.list → AreChunks snap → Becomes t.cloning (rejoined incarnation snap s d.cloning) → GoesOn
    renews incarnation snap before list are becomes =
        let x : Session = record s { incarnation = incarnation; snap = snap } in
        changes x (like (rejoined incarnation snap s d.cloning) x refl refl becomes) refl refl refl before list (bare_chunks snap are)

    -- a chunk has a new state
    sets : (i : ℕ) (old new : Chunk) → slice_get s.snap.chunks i ≡ Some old → old ≢ chunk.Finished → t.cloning ≡ record d.cloning { session = Some (record s { snap = record s.snap { chunks = slice_set s.snap.chunks i new } }) } → GoesOn
    sets i old new is undone becomes =
        let x : Session = record s { snap = record s.snap { chunks = slice_set s.snap.chunks i new } } in
        changes x (like (record d.cloning { session = Some x }) x refl refl (ap aside becomes)) refl refl refl behind refl (set_chunks (bare s).snap i old new of.chunks is undone)

    finishes : (last : Bool) (i : ℕ) (old : Chunk) → slice_get s.snap.chunks i ≡ Some old → old ≢ chunk.Finished → t.cloning ≡ (if last then finished i s d.cloning else d.cloning) → GoesOn
    finishes true i old is undone becomes = sets i old chunk.Finished is undone becomes
    finishes false i old is undone becomes = same_goes (same_own number d.cloning t.cloning becomes)

    -- ---- its stage is acknowledged

    module _ (level : stage_at session ≡ phase_number r.table.phase) (acknowledged : (counts : ℕ → List ℕ) (seen : IsSeen r.table session n talks.lines counts) → seen.rounds.sides.acknowledged ≡ true) where
      here : stage_at session ≡ donor_stage s
      here = ap stage_at found

      moves : (c : Cloning) (x : Session) (list : StageList) → c.session ≡ Some x → x.number ≡ s.number → x.tasks ≡ s.tasks → x.version ≡ s.version → x.incarnation ≡ s.incarnation → x.snap ≡ begun list → donor_stage x ≡ suc (donor_stage s) → Becomes t.cloning c → GoesOn
      moves c x list there same tasks version incarnation begins stage becomes =
          behind_goes is_behind (bare x) (like c x there same becomes)
          (begins_on session r n talks is_behind (bare x) (same ∙ of.number) (tasks ∙ of.tasks) (version ∙ of.version) (omega (arith, behind, incarnation)) list (ap (λ (snap : Snap). record snap { room = 0 }) begins) (stage ∙ ap suc (sym here)) level acknowledged)

      stops : (moment : Moment) (o : Option Archived) → donor_stage s ≡ 2 → Becomes t.cloning (option_map_or (λ a. stopped_at moment s a d.cloning) o d.cloning) → GoesOn
      stops moment None stage becomes = same_goes (becomes_own number d.cloning t.cloning becomes)
      stops moment (Some a) stage becomes = moves (stopped_at moment s a d.cloning) _ (lists.Redo a.start moment.end) refl refl refl refl refl refl (ap suc (sym stage)) becomes

      advances : (moment : Moment) (files : List (ℕ × ℕ)) (list : StageList) → s.snap.list ≡ list → Becomes t.cloning (advanced moment files s list d.cloning) → GoesOn
      advances moment files (lists.Files spaces) is becomes = moves (advanced moment files s (lists.Files spaces) d.cloning) _ (lists.Pages (listed d.cloning.tracking.pages)) refl refl refl refl refl refl (ap suc (sym (ap (λ (l : StageList). stage_number (lists.stage_of l)) is))) becomes
      advances moment files (lists.Pages pages) is becomes = stops moment d.cloning.archive (ap (λ (l : StageList). stage_number (lists.stage_of l)) is) becomes
      advances moment files (lists.Redo start end) is becomes = moves (advanced moment files s (lists.Redo start end) d.cloning) _ lists.Nothing refl refl refl refl refl refl (ap suc (sym (ap (λ (l : StageList). stage_number (lists.stage_of l)) is))) becomes
      advances moment files lists.Nothing is becomes = same_goes (becomes_own number d.cloning t.cloning becomes)

    acks : (stage : ℕ) (moment : Moment) (files : List (ℕ × ℕ)) → ((counts : ℕ → List ℕ) (seen : IsSeen r.table session n talks.lines counts) → (stage < phase_number r.table.phase) ⊎ ((stage ≡ phase_number r.table.phase) × (seen.rounds.sides.acknowledged ≡ true))) → (b : Bool) → (stage == donor_stage s) ≡ b → Becomes t.cloning (if b then advanced moment files s s.snap.list d.cloning else d.cloning) → GoesOn
    acks stage moment files late false is becomes = same_goes (becomes_own number d.cloning t.cloning becomes)
    acks stage moment files late true is becomes = advances (level (late talks.known (seen_now session r n talks))) (λ counts seen. was (late counts seen)) moment files s.snap.list refl becomes
      where
        there : stage_at session ≡ donor_stage s
        there = ap stage_at found

        not_less : stage < phase_number r.table.phase → ⊥
        not_less less = omega (arith, less, eqb-true stage (donor_stage s) is, there, phase_reached session r n talks)

        level : {acknowledged : Bool} → (stage < phase_number r.table.phase) ⊎ ((stage ≡ phase_number r.table.phase) × (acknowledged ≡ true)) → stage_at session ≡ phase_number r.table.phase
        level (inl less) = absurd (not_less less)
        level (inr same) = there ∙ sym (eqb-true stage (donor_stage s) is) ∙ same.0

        was : {acknowledged : Bool} → (stage < phase_number r.table.phase) ⊎ ((stage ≡ phase_number r.table.phase) × (acknowledged ≡ true)) → acknowledged ≡ true
        was (inl less) = absurd (not_less less)
        was (inr same) = same.1

  -- ---- the calls

  -- the session that a caller of this clone finds
  found_of : (asked : ℕ) (s : Session) → asked ≡ number → session_of d.cloning asked ≡ Some s → session ≡ Some (bare s)
  found_of asked s same found = owned_bare number d.cloning s (subst (λ (a : ℕ). session_of d.cloning a ≡ Some s) same found)

  rejoins : (caller : Caller) (stage : ℕ) (bitmap : List ℕ) (partials : List PartialChunk) (s : Session) → IsOf r.table caller → session_of d.cloning caller.session ≡ Some s → s.incarnation < caller.incarnation → Rejoins caller.incarnation stage bitmap partials s d.cloning t.cloning → GoesOn
  rejoins caller stage bitmap partials s of_late found less did =
      renews s (found_of caller.session s of_late.0 found) (omega (arith, less, of_late.1)) caller.incarnation did.0 of_late.1 did.1 (reset_chunks (of_stage stage s bitmap) (of_stage stage s partials) did.0 did.2) did.3

  claims : (caller : Caller) (stage : ℕ) (result : Result (Option ℕ) CloneCause) → IsOf r.table caller → Claims caller stage d.cloning t.cloning result → GoesOn
  claims caller stage (Ok None) of_late did = same_goes (same_own number d.cloning t.cloning did.2)
  claims caller stage (Ok (Some i)) of_late did =
      let s = did.1.0 in
      let fine = at_session d.cloning caller.session (λ s. option_or (stale s caller.incarnation) (other_stage s stage)) s did.1.1 did.0 in
      let first = not_before s caller.incarnation (or_first (stale s caller.incarnation) (other_stage s stage) fine) in
      sets s (found_of caller.session s of_late.0 did.1.1) (omega (arith, first, of_late.1)) i chunk.Free (chunk.Claimed caller.task) did.1.2.0.free (λ e. cc (e)) did.1.2.1
  claims caller stage (Err cause) of_late did = same_goes (same_own number d.cloning t.cloning did.1)

  -- a session begins, or begins again
  opens : (hello : Hello) → (hello.session ≡ number) × (hello.incarnation < incarnation_of r.table) × (hello.version ≡ r.table.version) × (hello.tasks ≡ r.table.count) → standing_cause d.cloning.session hello ≡ None → (o : Option Session) → d.cloning.session ≡ o → BeginsAs hello d t o → GoesOn
  opens hello late none None there (in_flight, pages, becomes) =
      behind_goes (subst (λ (o : Option Session). IsBehind o r) (sym gone) tt) (bare (first_session hello (known_files d.engine))) is
      (begins_on session r n talks (subst (λ (o : Option Session). IsBehind o r) (sym gone) tt) (bare (first_session hello (known_files d.engine))) late.0 late.3 late.2 late.1 (lists.Files (known_files d.engine)) refl (ap (λ (o : Option Session). suc (stage_at o)) (sym gone)) level was)
    where
      gone : session ≡ None
      gone = gone_own number d.cloning there

      is : now ≡ Some (bare (first_session hello (known_files d.engine)))
      is = becomes_own number (opened hello (known_files d.engine) in_flight d.cloning) t.cloning becomes ∙ own_some number (opened hello (known_files d.engine) in_flight d.cloning) (first_session hello (known_files d.engine)) refl late.0

      level : stage_at session ≡ phase_number r.table.phase
      level = omega (arith, phase_reached session r n talks, ap stage_at gone)

      was : (counts : ℕ → List ℕ) (seen : IsSeen r.table session n talks.lines counts) → seen.rounds.sides.acknowledged ≡ true
      was counts seen = seen.rule.sides.opening (seen.view.table.stage ∙ sym level ∙ ap stage_at gone)
  opens hello late none (Some s) there becomes =
      renews s here (omega (arith, less, late.1)) hello.incarnation (begun s.snap.list) late.1 refl (begun_chunks s.snap.list 0) becomes
    where
      fine : standing_cause (Some s) hello ≡ None
      fine = subst (λ (o : Option Session). standing_cause o hello ≡ None) there none

      own : (s.number == hello.session) ≡ true
      own = not_whether (s.number == hello.session) (Busy s.number) (or_first (whether (not (s.number == hello.session)) (Busy s.number)) _ fine)

      less : s.incarnation < hello.incarnation
      less = later_than s hello.incarnation (or_first (not_later s hello.incarnation) _ (or_second (whether (not (s.number == hello.session)) (Busy s.number)) _ fine))

      here : session ≡ Some (bare s)
      here = own_some number d.cloning s there (eqb-true s.number hello.session own ∙ late.0)

  standing : (hello : Hello) → hello_cause d.cloning hello ≡ None → standing_cause d.cloning.session hello ≡ None
  standing hello none =
      or_second (whether ((hello.tasks == 0) || nat_lt MOST_TASKS hello.tasks) (TasksOutOfRange hello.tasks)) (standing_cause d.cloning.session hello)
      (or_second (whether hello.compress CompressionRefused) _
      (or_second (whether (not (hello.page_size == PAGE_SIZE)) (PageSizeMismatch hello.page_size)) _
      (or_second (whether (not (is_version hello.version)) (VersionMismatch hello.version)) _ none)))

  -- SO DOES EACH CALL of an earlier incarnation.
  pub late_call : (asked : DonorCall) (given : DonorAnswer) → Answered asked given d t → ((counts : ℕ → List ℕ) (seen : IsSeen r.table session n talks.lines counts) → IsLateCall r.table seen.rounds.sides.acknowledged asked) → GoesOn
  late_call asked given did late = by asked given did (late talks.known (seen_now session r n talks)) late
    where
      by : (asked : DonorCall) (given : DonorAnswer) → Answered asked given d t → IsLateCall r.table (seen_now session r n talks).rounds.sides.acknowledged asked → ((counts : ℕ → List ℕ) (seen : IsSeen r.table session n talks.lines counts) → IsLateCall r.table seen.rounds.sides.acknowledged asked) → GoesOn
      by (call.Engine asked) given did is late = absurd is
      by (call.Exit caller) given did is late = absurd is
      by (call.Abandon asked) given did is late = absurd is
      by (call.Init hello) (reply.Init (Ok info)) did is late = opens hello is (standing hello did.0) d.cloning.session refl did.1.begins
      by (call.Init hello) (reply.Init (Err why)) did is late = same_goes (refused_own number d t _ why _ did)
      by (call.Attach caller) (reply.Attach result) did is late = same_goes (same_donor number d t did.1)
      by (call.Reinit caller stage finished) (reply.Reinit (Ok info)) did is late =
          let i = did.1.0 in
          let fine = at_session d.cloning caller.session (λ s. option_or (not_later s caller.incarnation) (out_of_stage s stage)) i.0 i.1 did.0 in
          rejoins caller stage _ _ i.0 is i.1 (later_than i.0 caller.incarnation (or_first (not_later i.0 caller.incarnation) _ fine)) i.2
      by (call.Reinit caller stage finished) (reply.Reinit (Err why)) did is late = same_goes (refused_own number d t _ why _ did)
      by (call.ReinitBlocks caller stage taken) (reply.ReinitBlocks (Ok info)) did is late =
          let i = did.1.0 in
          let fine = at_session d.cloning caller.session (λ s. option_or (not_later s caller.incarnation) (option_or (no_blocks s) (out_of_stage s stage))) i.0 i.1 did.0 in
          rejoins caller stage _ _ i.0 is i.1 (later_than i.0 caller.incarnation (or_first (not_later i.0 caller.incarnation) _ fine)) i.2
      by (call.ReinitBlocks caller stage taken) (reply.ReinitBlocks (Err why)) did is late = same_goes (refused_own number d t _ why _ did)
      by (call.Kept caller stage i) given did is late = same_goes (call_own number d t (call.Kept caller stage i) given tt did)
      by (call.Execute caller stage) given did is late = same_goes (call_own number d t (call.Execute caller stage) given tt did)
      by (call.Archive limit) given did is late = same_goes (call_own number d t (call.Archive limit) given tt did)
      by (call.Claim caller stage) (reply.Claim result) did is late = claims caller stage result is did.0
      by (call.ReadBlock caller stage i block) (reply.ReadBlock (Ok (read, last))) did is late =
          let g = did.1.answers in
          let fine = at_session d.cloning caller.session _ g.0 g.1 did.0 in
          let first = not_before g.0 caller.incarnation (or_first (stale g.0 caller.incarnation) _ fine) in
          let old = claimed_chunk g.0 caller.task i block (or_first (not_claimed g.0 caller.task i block) _ (or_second (other_stage g.0 stage) _ (or_second (stale g.0 caller.incarnation) _ fine))) in
          finishes g.0 (found_of caller.session g.0 is.0 g.1) (omega (arith, first, is.1)) last i old.0 old.1 old.2 g.2.1
      by (call.ReadBlock caller stage i block) (reply.ReadBlock (Err why)) did is late = same_goes (unread_own number d t caller stage i block why did)
      by (call.Ack caller stage floor) (reply.Ack (Ok info)) did is late =
          let a = did.1.acknowledges in
          let fine = at_session d.cloning caller.session _ a.0 a.1 did.0 in
          let first = not_before a.0 caller.incarnation (or_first (stale a.0 caller.incarnation) _ fine) in
          acks a.0 (found_of caller.session a.0 is.0.0 a.1) (omega (arith, first, is.0.1)) stage (moment_of d.engine) (known_files d.engine) (λ counts seen. (late counts seen).1) (stage == donor_stage a.0) refl a.2
      by (call.Ack caller stage floor) (reply.Ack (Err why)) did is late = same_goes (refused_own number d t _ why _ did)
      by asked given did is late = absurd did

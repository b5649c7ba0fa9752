-- INIT: a donor opens the session of a clone, or begins it again.
use Rattle.std.proofs.Common.{ℕ, suc, ◌≡◌, ◌≢◌, ◌∙◌, ◌⊎◌, ◌<◌, ◌≤◌, List, [], Bool, true, false, Option, None, Some, Ok, Err, nat_le, nat_lt, refl, sym, ap, subst, inl, inr, arith}
use Rattle.std.specs.Prelude.{not, ◌==◌, ◌||◌, IfSome}
use Rattle.std.specs.Option.{option_or}
use Rattle.std.proofs.lemmas.Bool.{both_ways, eq-eqb, false_from_ne_true, le-ltb, leb-true, ne_eqb}
use Rattle.clone_base.specs.declared.limits.TheConstants.{MOST_TASKS, PAGE_SIZE}
use Rattle.clone_chunk.specs.declared.cause.CloneCause.{CloneCause}
use Rattle.clone_chunk.specs.declared.cause.CloneCause.TheVariants.{Busy, CompressionRefused, PageSizeMismatch, Stale, StageMismatch, TasksOutOfRange, VersionMismatch}
use Rattle.clone_chunk.specs.declared.copy_stage.CopyStage.{CopyStage}
use Rattle.clone_marks.specs.Counts.{block_counts}
use Rattle.clone_snapshot.specs.Resets.{IsReset}
use Rattle.clone_snapshot.specs.Snaps.{Snap}
use Rattle.clone_snapshot.specs.StageLists as lists
use Rattle.clone_snapshot.specs.StageLists.{StageList}
use Rattle.clone_session.specs.Cloning.{Cloning, Session}
use Rattle.clone_session.specs.CloneCauses.{donor_stage, hello_cause, is_version, not_later, standing_cause, whether}
use Rattle.clone_session.specs.Effects.{Tells as TellsInfo, begun, opened, reopened}
use Rattle.clone_session.specs.declared.caller.Hello.{Hello}
use Rattle.clone_session.specs.declared.caller.Caller.{Caller}
use Rattle.clone_session.specs.declared.info.StageInfo.{StageInfo}
use Rattle.clone_session.specs.declared.refusal.CloneRefusal.TheVariants.{Because, NoMemory}
use Rattle.clone_wire.specs.declared.frame.Attempt.{Attempt}
use Rattle.clone_wire.specs.declared.frame.Frame.{Frame}
use Rattle.clone_wire.specs.declared.frame.Frame.TheVariants as frame
use Rattle.clone_calls.specs.declared.answer.DonorAnswer.{DonorAnswer}
use Rattle.clone_calls.specs.declared.answer.DonorAnswer.TheVariants as reply
use Rattle.clone_calls.specs.declared.call.DonorCall.TheVariants as call
use Rattle.clone_serve.specs.Commands.{hello_of}
use Rattle.clone_serve.specs.Following as following
use Rattle.clone_serve.specs.Telling.{stage_frame}
use Rattle.clone_serve.specs.declared.after.After.TheVariants.{Ends}
use Rattle.clone_serve.specs.declared.doing.Doing.{Doing}
use Rattle.clone_serve.specs.declared.doing.Doing.TheVariants as doing
use Rattle.clone_serve.specs.declared.turn.ServeAnswer.{ServeAnswer}
use Rattle.clone_serve.specs.declared.turn.ServeAnswer.TheVariants as says
use Rattle.clone_tasks.specs.Sending.{Opens, Reattaches}
use Rattle.clone_tasks.specs.Tables.{Table, attempt_of, incarnation_of}
use Rattle.clone_tasks.specs.declared.standing.Phase.{Phase}
use Rattle.clone_tasks.specs.declared.standing.Phase.TheVariants.{Copying, Done, Opening}
use Rattle.clone_recipient.specs.Receptions.{Reception}
use Rattle.clone_engine.specs.Answering.{Answered}
use Rattle.clone_engine.specs.Copying.{BeginsAs}
use Rattle.clone_engine.specs.Donor.{Donor, known_files}
use Rattle.clone_view.specs.Tables.{phase_number}
use Rattle.clone_paired.specs.Own.{own_session}
use Rattle.clone_paired.specs.Paired.{IsReception}
use Rattle.clone_paired.specs.Seen.{IsCounted, stage_at}
use Rattle.clone_paired.specs.Sessions.{IsSessionOf}
use Rattle.clone_paired.proofs.DonorMeets.{IsRenewed, Renewed, ahead}
use Rattle.clone_paired.proofs.DonorMoves.{Extends}
use Rattle.clone_paired.proofs.DonorMovesBlocks.{begun_reset, free_owned, reset_chunks, reset_unclaimed}
use Rattle.clone_paired.proofs.DonorMovesOn.{own_here}
use Rattle.clone_paired.proofs.DonorOthers.{becomes_own, gone_own}
use Rattle.clone_paired.proofs.DonorReads.{bare}

-- ---- the command is the one with which a clone begins

pub record IsOpening (t : Table) (attempt : Attempt) (version size : ℕ) (compressed : Bool) (count : ℕ) : Type 0 where
  pub phase : phase_number t.phase ≡ 0
  pub hello : hello_of attempt version size compressed count ≡ hello_of (attempt_of t) t.version PAGE_SIZE false t.count
  pub same : attempt ≡ attempt_of t

opening_by : (t : Table) (attempt : Attempt) (version size : ℕ) (compressed : Bool) (count : ℕ) → frame.Init attempt version size compressed count ≡ frame.Init (attempt_of t) t.version PAGE_SIZE false t.count → phase_number t.phase ≡ 0 → IsOpening t attempt version size compressed count
opening_by t attempt version size compressed count is phase =
    let a : attempt ≡ attempt_of t = cc (is) in
    let v : version ≡ t.version = cc (is) in
    let s : size ≡ PAGE_SIZE = cc (is) in
    let c : compressed ≡ false = cc (is) in
    let n : count ≡ t.count = cc (is) in
    record { phase = phase; hello = (λ i. hello_of (a i) (v i) (s i) (c i) (n i)); same = a }

not_again : (one : Bool) (stage : CopyStage) (t : Table) (attempt : Attempt) (version size : ℕ) (compressed : Bool) (count : ℕ) → Reattaches one stage t (frame.Init attempt version size compressed count) → ⊥
not_again true stage t attempt version size compressed count is = cc (is.1)
not_again false stage t attempt version size compressed count is = cc (is.1)

pub opening_is : (phase : Phase) (t : Table) (attempt : Attempt) (version size : ℕ) (compressed : Bool) (count : ℕ) → t.phase ≡ phase → phase_number t.phase < 4 → Opens phase t (frame.Init attempt version size compressed count) → IsOpening t attempt version size compressed count
opening_is Opening t attempt version size compressed count is small opens = opening_by t attempt version size compressed count opens (ap phase_number is)
opening_is (Copying stage) t attempt version size compressed count is small opens = absurd (not_again (t.version == 1) stage t attempt version size compressed count opens)
opening_is Done t attempt version size compressed count is small opens = absurd (let four : phase_number t.phase ≡ 4 = ap phase_number is in omega (arith, four, small))

-- ---- nothing is against it

version_is : (version : ℕ) → 1 ≤ version → version ≤ 2 → is_version version ≡ true
version_is version some few = by (version == 1) refl
  where
    by : (b : Bool) → (version == 1) ≡ b → (b || (version == 2)) ≡ true
    by true is = refl
    by false is = eq-eqb version 2 (two (λ one. both_ways (version == 1) is (eq-eqb version 1 one)))
      where
        two : version ≢ 1 → version ≡ 2
        two other = omega (arith, some, few, other)

tasks_are : (count : ℕ) → 1 ≤ count → count ≤ MOST_TASKS → ((count == 0) || nat_lt MOST_TASKS count) ≡ false
tasks_are count some few = by (count == 0) (nat_lt MOST_TASKS count) (ne_eqb count 0 (λ is. omega (arith, some, is))) (le-ltb MOST_TASKS count few)
  where
    by : (a b : Bool) → a ≡ false → b ≡ false → (a || b) ≡ false
    by true b is other = is
    by false b is other = other

pub later_is : (s : Session) (incarnation : ℕ) → s.incarnation < incarnation → not_later s incarnation ≡ None
later_is s incarnation less = ap (λ (b : Bool). whether b (Stale s.incarnation)) (false_from_ne_true (nat_le incarnation s.incarnation) (λ is. let most = leb-true incarnation s.incarnation is in omega (arith, most, less)))

module _ (r : Reception) (is : IsReception r) where
  abbrev pub hello : Hello
  hello = hello_of (attempt_of r.table) r.table.version PAGE_SIZE false r.table.count

  -- what stands of the clone
  abbrev pub MayBegin : Option Session → Type 0
  MayBegin o = IfSome o (λ s. (s.number ≡ r.table.session) × (s.incarnation < incarnation_of r.table) × (donor_stage s ≡ 1))

  stands_fine : (o : Option Session) → MayBegin o → standing_cause o hello ≡ None
  stands_fine None may = refl
  stands_fine (Some s) may =
      ap (λ (b : Bool). option_or (whether (not b) (Busy s.number)) (option_or (not_later s (incarnation_of r.table)) (whether (not (donor_stage s == 1)) (StageMismatch (donor_stage s) 1)))) (eq-eqb s.number r.table.session may.0)
      ∙ ap (λ (o : Option CloneCause). option_or o (whether (not (donor_stage s == 1)) (StageMismatch (donor_stage s) 1))) (later_is s (incarnation_of r.table) may.1)
      ∙ ap (λ (b : Bool). whether (not b) (StageMismatch (donor_stage s) 1)) (eq-eqb (donor_stage s) 1 may.2)

  -- of what the requester says of itself nothing is against it
  hello_stands : (c : Cloning) → hello_cause c hello ≡ standing_cause c.session hello
  hello_stands c =
      ap (λ (b : Bool). option_or (whether (not b) (VersionMismatch r.table.version)) (option_or (whether (not (PAGE_SIZE == PAGE_SIZE)) (PageSizeMismatch PAGE_SIZE)) (option_or (whether false CompressionRefused) (option_or (whether ((r.table.count == 0) || nat_lt MOST_TASKS r.table.count) (TasksOutOfRange r.table.count)) (standing_cause c.session hello))))) (version_is r.table.version is.table.first is.table.second)
      ∙ ap (λ (b : Bool). option_or (whether (not b) (PageSizeMismatch PAGE_SIZE)) (option_or (whether false CompressionRefused) (option_or (whether ((r.table.count == 0) || nat_lt MOST_TASKS r.table.count) (TasksOutOfRange r.table.count)) (standing_cause c.session hello)))) (eq-eqb PAGE_SIZE PAGE_SIZE refl)
      ∙ ap (λ (b : Bool). option_or (whether b (TasksOutOfRange r.table.count)) (standing_cause c.session hello)) (tasks_are r.table.count is.table.some is.table.few)

  pub hello_fine : (c : Cloning) → MayBegin c.session → hello_cause c hello ≡ None
  hello_fine c may = hello_stands c ∙ stands_fine c.session may

  -- where another session stands that is against it
  hello_busy : (c : Cloning) (s : Session) → c.session ≡ Some s → s.number ≢ r.table.session → hello_cause c hello ≡ Some (Busy s.number)
  hello_busy c s there other =
      hello_stands c ∙ ap (λ (o : Option Session). standing_cause o hello) there
      ∙ ap (λ (b : Bool). option_or (whether (not b) (Busy s.number)) (option_or (not_later s (incarnation_of r.table)) (whether (not (donor_stage s == 1)) (StageMismatch (donor_stage s) 1)))) (ne_eqb s.number r.table.session other)

  -- ---- what the donor answers

  pub record Opened (d t : Donor) (caller : Caller) (next : Doing) (sends : Option Frame) : Type 0 where
    pub begins : BeginsAs hello d t d.cloning.session
    pub info : StageInfo
    pub tells : TellsInfo t.cloning info
    pub next_is : next ≡ doing.Ready caller
    pub sends_is : sends ≡ Some (stage_frame info)

  pub opened_as : (d t : Donor) (caller : Caller) (next : Doing) (sends : Option Frame) (spoke : ServeAnswer) → hello_cause d.cloning hello ≡ None → spoke ≢ says.NoMemory → (given : DonorAnswer) → Answered (call.Init hello) given d t → following.after (doing.Telling caller) given ≡ Some (Ends next sends spoke) → Opened d t caller next sends
  opened_as d t caller next sends spoke fine fit (reply.Init (Ok info)) did e = record { begins = did.1.begins; info = info; tells = did.1.tells; next_is = sym (cc (e)); sends_is = sym (cc (e)) }
  opened_as d t caller next sends spoke fine fit (reply.Init (Err (Because why))) did e = absurd (cc (fine, did.0))
  opened_as d t caller next sends spoke fine fit (reply.Init (Err NoMemory)) did e = absurd (fit (sym (cc (e))))
  opened_as d t caller next sends spoke fine fit given did e = absurd did

  -- so it refuses where another session stands
  pub record Turned (d t : Donor) (next : Doing) (sends : Option Frame) : Type 0 where
    pub same : t ≡ d
    pub next_is : next ≡ doing.Over
    pub cause : CloneCause
    pub sends_is : sends ≡ Some (frame.Refused cause)

  pub turned_as : (d t : Donor) (caller : Caller) (next : Doing) (sends : Option Frame) (spoke : ServeAnswer) (s : Session) → d.cloning.session ≡ Some s → s.number ≢ r.table.session → spoke ≢ says.NoMemory → (given : DonorAnswer) → Answered (call.Init hello) given d t → following.after (doing.Telling caller) given ≡ Some (Ends next sends spoke) → Turned d t next sends
  turned_as d t caller next sends spoke s there other fit (reply.Init (Ok info)) did e = absurd (cc (hello_busy d.cloning s there other, did.0))
  turned_as d t caller next sends spoke s there other fit (reply.Init (Err (Because why))) did e = record { same = did.1; next_is = sym (cc (e)); cause = why; sends_is = sym (cc (e)) }
  turned_as d t caller next sends spoke s there other fit (reply.Init (Err NoMemory)) did e = absurd (fit (sym (cc (e))))
  turned_as d t caller next sends spoke s there other fit given did e = absurd did

  -- ---- the session that begins

  -- a stage that has just begun, of a session that may have been there
  begun_one : (known : ℕ → List ℕ) (session : Option Session) (now : Session) (list : StageList) → phase_number r.table.phase ≡ 0 → now.number ≡ r.table.session → now.incarnation ≡ incarnation_of r.table → now.tasks ≡ r.table.count → now.version ≡ r.table.version → now.snap ≡ begun list → donor_stage now ≡ 1 → (stage_at session ≡ 1) ⊎ (stage_at session ≡ 0) → (stage_at session ≡ 1 → block_counts now.snap.list ≡ known 1) → IsRenewed r known session now
  begun_one known session now list phase number incarnation tasks version snap one before counts = record {
    own = record { number = number; tasks = tasks; version = version; before = omega (arith, incarnation); chunks = reset_chunks list [] [] now list_is reset; copies = λ same. absurd (omega (arith, same, phase, one)) };
    incarnation = incarnation;
    unclaimed = reset_unclaimed list [] [] now list_is reset;
    extends = by before;
    takes = ahead (which before) (one ∙ ap suc (sym phase)) (free_owned list now list_is reset);
  }
    where
      list_is : now.snap.list ≡ list
      list_is = ap (λ (y : Snap). y.list) snap

      reset : IsReset list [] [] now.snap.chunks now.snap.kept
      reset = subst (λ (y : Snap). IsReset list [] [] y.chunks y.kept) (sym snap) (begun_reset list)

      by : (stage_at session ≡ 1) ⊎ (stage_at session ≡ 0) → Extends known (stage_at session) (phase_number r.table.phase) now
      by (inl there) = (omega (arith, there, one), inl (counts there ∙ ap known (sym one)))
      by (inr none) = (omega (arith, none, one), inr (omega (arith, none, one), λ same. omega (arith, same, phase, one)))

      which : (stage_at session ≡ 1) ⊎ (stage_at session ≡ 0) → (stage_at session ≡ suc (phase_number r.table.phase)) ⊎ ((stage_at session ≡ 0) × (phase_number r.table.phase ≡ 0))
      which (inl there) = inl (there ∙ ap suc (sym phase))
      which (inr none) = inr (none, phase)

  pub renewed_by : (known : ℕ → List ℕ) (d t : Donor) → phase_number r.table.phase ≡ 0 → IsCounted (own_session r.table.session d.cloning) known → IfSome (own_session r.table.session d.cloning) (IsSessionOf r) → (o : Option Session) → d.cloning.session ≡ o → MayBegin o → BeginsAs hello d t o → Renewed r known (own_session r.table.session d.cloning) t.cloning
  renewed_by known d t phase counted own None there may (in_flight, pages, becomes) =
      let session : own_session r.table.session d.cloning ≡ None = gone_own r.table.session d.cloning there in
      let like : Cloning = opened hello (known_files d.engine) in_flight d.cloning in
      record {
        now = _;
        is = becomes_own r.table.session like t.cloning becomes ∙ own_here r.table.session like _ refl refl;
        of = begun_one known (own_session r.table.session d.cloning) _ (lists.Files (known_files d.engine)) phase refl refl refl refl refl refl (inr (ap stage_at session)) (λ is. absurd (let none : stage_at (own_session r.table.session d.cloning) ≡ 0 = ap stage_at session in omega (arith, is, none)));
      }
  renewed_by known d t phase counted own (Some s) there may becomes =
      let session : own_session r.table.session d.cloning ≡ Some (bare s) = own_here r.table.session d.cloning s there may.0 in
      let like : Cloning = reopened hello s d.cloning in
      let of : IsSessionOf r (bare s) = subst (λ (o : Option Session). IfSome o (IsSessionOf r)) session own in
      let counts : known (donor_stage s) ≡ block_counts s.snap.list = subst (λ (o : Option Session). IsCounted o known) session counted in
      record {
        now = _;
        is = becomes_own r.table.session like t.cloning becomes ∙ own_here r.table.session like _ refl may.0;
        of = begun_one known (own_session r.table.session d.cloning) _ s.snap.list phase may.0 refl of.tasks of.version refl may.2 (inl (ap stage_at session ∙ may.2)) (λ is. sym counts ∙ ap known may.2);
      }

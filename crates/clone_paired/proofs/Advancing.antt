-- A task takes a STAGE that moves the recipient to another stage in which something is copied.
use Rattle.std.proofs.Common.{ℕ, suc, ◌≡◌, ◌≢◌, ◌∙◌, ◌⊎◌, ◌+◌, ◌≤◌, List, [], ◌∷◌, Bool, true, Option, None, Some, length, refl, sym, ap, subst, inl, inr, arith}
use Rattle.std.specs.Prelude.{slice_get, ◌==◌, IfSome}
use Rattle.std.specs.List.{AllByRecursion, All}
use Rattle.std.proofs.lemmas.Bool.{and_parts, cases_eq, eqb-true, ne_eqb}
use Rattle.clone_chunk.specs.Plans as plans
use Rattle.clone_chunk.specs.Stages.{stage_number}
use Rattle.clone_chunk.specs.declared.copy_stage.CopyStage.TheVariants as copy
use Rattle.clone_chunk.specs.declared.plan.StagePlan.{StagePlan}
use Rattle.clone_chunk.specs.declared.stage.Stage.{Stage}
use Rattle.clone_chunk.specs.declared.stage.Stage.TheVariants as stage
use Rattle.clone_marks.proofs.RunLemmas.{begun_blocks, none_taken}
use Rattle.clone_marks.specs.Blocks.{IsChunk, blocks_of}
use Rattle.clone_marks.specs.Counts.{block_counts, unmarked}
use Rattle.clone_marks.specs.declared.chunk_marks.ChunkMarks.{ChunkMarks}
use Rattle.clone_session.specs.Cloning.{Session}
use Rattle.clone_session.specs.declared.caller.Caller.{Caller}
use Rattle.clone_wire.specs.declared.frame.Attempt.{Attempt}
use Rattle.clone_wire.specs.declared.frame.Frame.{Frame}
use Rattle.clone_wire.specs.declared.frame.Frame.TheVariants as frame
use Rattle.clone_wire.specs.declared.frame.Side.TheVariants.{Answer as ofDonor}
use Rattle.clone_tasks.specs.Awaiting.{awaits_stage, is_opening, moves, moves_from}
use Rattle.clone_tasks.specs.Moves.{begins}
use Rattle.clone_tasks.specs.Rules.{sending_rule}
use Rattle.clone_tasks.specs.Sending.{IsFirst}
use Rattle.clone_tasks.specs.Tables.{MayStand, Table, attempt_of, incarnation_of, is_running, standing_of}
use Rattle.clone_tasks.specs.declared.rule.Rule.TheVariants.{Receive}
use Rattle.clone_tasks.specs.declared.standing.Phase.{Phase}
use Rattle.clone_tasks.specs.declared.standing.Phase.TheVariants.{Opening, Copying, Done}
use Rattle.clone_tasks.specs.declared.standing.Standing.{Standing}
use Rattle.clone_tasks.specs.declared.standing.Standing.TheVariants.{Apart, Joining, Ready, Fetching, Served, Acknowledging}
use Rattle.clone_recipient.specs.Receptions.{Reception}
use Rattle.clone_network.specs.Connections.{Connection}
use Rattle.clone_network.specs.Networks.{Network, with_connection}
use Rattle.clone_rounds.specs.Awaiting.{IsAnswered, IsAt, IsNext, MayJoin, TalkOf}
use Rattle.clone_rounds.specs.World.{Answer, Awaited, Block, Command, Core, End, ForEnd, ForFirst, ForStage, Nothing, Stage as StageAnswer, put}
use Rattle.clone_rounds.proofs.Talks.{heard_of, quiet_of}
use Rattle.clone_view.specs.Frames.{AreAnswers, AreCommands, answer_of}
use Rattle.clone_view.specs.Rows.{places}
use Rattle.clone_view.specs.Tables.{awaited_of, phase_number}
use Rattle.clone_view.specs.Views.{Follows, IsLine, IsSeat, Line, line_read, list_in}
use Rattle.clone_view.proofs.ViewSteps.{moved_stage}
use Rattle.clone_paired.specs.Lines.{Binds, IsLineOf, caller_of, connection_of}
use Rattle.clone_paired.specs.Paired.{IsReception, IsTalking}
use Rattle.clone_paired.specs.Seen.{IsCounted, IsSeen, stage_at}
use Rattle.clone_paired.specs.Sessions.{Copies, IsSessionOf}
use Rattle.clone_paired.specs.Speaking.{IsAsked, IsGiven}
use Rattle.clone_paired.specs.Unread.{Holds}
use Rattle.clone_paired.proofs.Marking.{IsPlain, at_stage}
use Rattle.clone_paired.proofs.Reading.{front, read_on, talks_read}
use Rattle.clone_paired.proofs.TaskSends.{IsOpening, opening_of}

-- ---- where no block lies unread

abbrev pub IsNoBlock : Frame → Type 0
IsNoBlock (frame.Pages attempt stage chunk block pages) = ⊥
IsNoBlock (frame.Redo attempt chunk block from bytes) = ⊥
IsNoBlock other = Unit {0}

module _ (r s : Reception) (session_is : s.table.session ≡ r.table.session) (losses_is : s.table.losses ≡ r.table.losses) (floor_is : s.table.floor ≡ r.table.floor) where
  attempt_is : attempt_of s.table ≡ attempt_of r.table
  attempt_is = ap (λ (n : ℕ). record { session = n; incarnation = s.table.losses + 1 }) session_is ∙ ap (λ (n : ℕ). record { session = r.table.session; incarnation = n + 1 }) losses_is

  caller_is : (j : ℕ) → caller_of r.table j ≡ caller_of s.table j
  caller_is j = ap (λ (a : Attempt). record { session = a.session; incarnation = a.incarnation; task = j }) (sym attempt_is)

  first_as : (j : ℕ) (f : Frame) → IsOpening f → IsPlain j f → IsFirst (j == 0) r.table j f → IsFirst (j == 0) s.table j f
  first_as j f opens plain is = by (cases_eq j 0)
    where
      by : (j ≡ 0) ⊎ (j ≢ 0) → IsFirst (j == 0) s.table j f
      by (inl zero_is) = absurd (plain zero_is opens)
      by (inr other) = subst (λ (b : Bool). IsFirst b s.table j f) (sym (ne_eqb j 0 other)) (subst (λ (b : Bool). IsFirst b r.table j f) (ne_eqb j 0 other) is ∙ ap (λ (a : Attempt). frame.Attach a j) (sym attempt_is))

  asked_as : (j : ℕ) (f : Frame) → IsPlain j f → IsAsked r.table j f → IsAsked s.table j f
  asked_as j (frame.Execute stage) plain is = tt
  asked_as j (frame.Ack copy.PageCopy given) plain is = floor_is ∙ is
  asked_as j (frame.Ack copy.FileCopy given) plain is = tt
  asked_as j (frame.Ack copy.RedoCopy given) plain is = tt
  asked_as j (frame.Init attempt version size compressed tasks) plain is = first_as j (frame.Init attempt version size compressed tasks) tt plain is
  asked_as j (frame.Attach attempt task) plain is = first_as j (frame.Attach attempt task) tt plain is
  asked_as j (frame.Reinit attempt stage finished) plain is = first_as j (frame.Reinit attempt stage finished) tt plain is
  asked_as j (frame.Reinit2 attempt stage taken) plain is = first_as j (frame.Reinit2 attempt stage taken) tt plain is
  asked_as j other plain is = absurd (never is)
    where
      never : IsFirst (j == 0) r.table j other → ⊥
      never h = opening_of (j == 0) r.table j other h

  given_as : (session : Option Session) (f : Frame) → IsNoBlock f → IsGiven session r f → IsGiven session s f
  given_as session (frame.Stage attempt plan) none is = (is.0 ∙ sym attempt_is, is.1, is.2, is.3)
  given_as session (frame.Pages attempt stage chunk block pages) none is = absurd none
  given_as session (frame.Redo attempt chunk block from bytes) none is = absurd none
  given_as session (frame.End attempt stage) none is = is ∙ sym attempt_is
  given_as session other none is = absurd is

  all_asked : (j : ℕ) (fs : List Frame) → AllByRecursion (IsPlain j) fs → AllByRecursion (IsAsked r.table j) fs → AllByRecursion (IsAsked s.table j) fs
  all_asked j [] plain are = tt
  all_asked j (f ∷ fs) plain are = (asked_as j f plain.0 are.0, all_asked j fs plain.1 are.1)

  all_given : (session : Option Session) (fs : List Frame) → AllByRecursion IsNoBlock fs → AllByRecursion (IsGiven session r) fs → AllByRecursion (IsGiven session s) fs
  all_given session [] none are = tt
  all_given session (f ∷ fs) none are = (given_as session f none.0 are.0, all_given session fs none.1 are.1)

  pub line_moved : (session : Option Session) (j : ℕ) (at : Connection) (l : Line) → AllByRecursion (IsPlain j) l.commands → AllByRecursion IsNoBlock l.answers → IsLineOf session r j at l → IsLineOf session s j at l
  line_moved session j at l plain none is = record { held = is.held; cut = is.cut; doing = is.doing; binds = subst (λ (c : Caller). Binds c l.doing) (caller_is j) is.binds; live = is.live; over = is.over; answers = is.answers; asked = all_asked j l.commands plain is.asked; given = all_given session l.answers none is.given }

-- ---- what the rounds say of it

some_stage : (at : Stage) → 1 ≤ stage_number at
some_stage stage.FileCopy = omega arith
some_stage stage.PageCopy = omega arith
some_stage stage.RedoCopy = omega arith
some_stage stage.Done = omega arith

opening_zero : (phase : Phase) → is_opening phase ≡ true → phase_number phase ≡ 0
opening_zero Opening is = refl
opening_zero (Copying stage) is = absurd (cc (is))
opening_zero Done is = absurd (cc (is))

-- a STAGE moves the recipient after INIT, or after an acknowledgement
moved_from : (standing : Standing) (phase : Phase) (k : ℕ) (marks : List ChunkMarks) → MayStand standing k marks → moves_from standing phase k ≡ true → ((k ≡ 0) × (awaited_of standing ≡ ForFirst) × (phase_number phase ≡ 0)) ⊎ ((k ≡ 0) × (awaited_of standing ≡ ForStage))
moved_from Apart phase k marks may is = absurd (cc (is))
moved_from Joining phase k marks may is = let parts = and_parts (k == 0) (is_opening phase) is in inl (eqb-true k 0 parts.0, refl, opening_zero phase parts.1)
moved_from Ready phase k marks may is = absurd (cc (is))
moved_from Fetching phase k marks may is = absurd (cc (is))
moved_from Served phase k marks may is = absurd (cc (is))
moved_from Acknowledging phase k marks may is = inr (may.0, refl)

stage_no_block : (counts : ℕ → List ℕ) (f : Frame) (n : ℕ) → answer_of counts f ≡ Some (StageAnswer n) → IsNoBlock f
stage_no_block counts (frame.Pages attempt stage chunk block pages) n is = cc (is)
stage_no_block counts (frame.Redo attempt chunk block from bytes) n is = cc (is)
stage_no_block counts other n is = tt

-- an answer that is awaited alone
alone_of : (Fits : ℕ → Type 0) (counts : ℕ → List ℕ) (f : Frame) (fs : List Frame) (a : Answer) (more : List Answer) (cut : Bool) (core : Core) → IsAnswered Fits (a ∷ more) cut core → AreAnswers counts (f ∷ fs) (a ∷ more) → AllByRecursion IsNoBlock (f ∷ fs)
alone_of Fits counts f fs (StageAnswer n) more cut core is are = (stage_no_block counts f n (cc (are)), subst (AllByRecursion IsNoBlock) (sym (empty fs more (cc (are)) is.1)) tt)
  where
    empty : (fs : List Frame) (more : List Answer) → AreAnswers counts fs more → more ≡ [] → fs ≡ []
    empty [] more are none = refl
    empty (x ∷ fs) more are none = absurd (cc (are, none))
alone_of Fits counts f fs (Block n b) more cut core is are = absurd is
alone_of Fits counts f fs (End n) more cut core is are = absurd is

module _ (session : Option Session) (r : Reception) (n : Network) (own : IsReception r) (tasks : length n.seats ≡ r.table.count) (running : is_running r.table ≡ true) (talks : IsTalking session r n) (k number : ℕ) (at : Connection) (l : Line) (has : connection_of n k ≡ Some number) (there : slice_get n.connections number ≡ Some at) (line : talks.lines k ≡ Some l) (of : IsLineOf session r k at l) (receives : sending_rule r.table k ≡ Receive) (got : Frame) (more : List Frame) (left : List ℕ) (unread : l.answers ≡ got ∷ more) (holds : Holds ofDonor at.cut more left) where
  module _ (attempt : Attempt) (plan : StagePlan) (got_is : got ≡ frame.Stage attempt plan) (awaited : awaits_stage r.table k (plans.stage_of plan) ≡ true) (moving : moves r.table k ≡ true) where
    first : IsSeen r.table session n talks.lines talks.known
    first = talks.rounds.seen talks.known (λ stage small. refl)

    abbrev reached : ℕ
    reached = stage_number (plans.stage_of plan)

    seat_is : (j : ℕ) (y : Line) → talks.lines j ≡ Some y → IsLine talks.known (list_in session) y (first.rounds.seats j)
    seat_is j y is = subst (λ (o : Option Line). IsSeat talks.known (list_in session) o (first.rounds.seats j)) is (first.view.seats j)

    how : ((k ≡ 0) × (awaited_of (standing_of r.table k) ≡ ForFirst) × (phase_number r.table.phase ≡ 0)) ⊎ ((k ≡ 0) × (awaited_of (standing_of r.table k) ≡ ForStage))
    how = moved_from (standing_of r.table k) r.table.phase k r.table.marks (own.standings.each k) moving

    waits : (first.rounds.seats k).awaits ≡ awaited_of (standing_of r.table k)
    waits = (first.view.table.seats k).awaits

    pub zero_is : k ≡ 0
    zero_is = by how
      where
        by : ((k ≡ 0) × (awaited_of (standing_of r.table k) ≡ ForFirst) × (phase_number r.table.phase ≡ 0)) ⊎ ((k ≡ 0) × (awaited_of (standing_of r.table k) ≡ ForStage)) → k ≡ 0
        by (inl h) = h.0
        by (inr h) = h.0

    -- the stage was acknowledged, so nobody awaits an END
    acknowledged : first.rounds.sides.acknowledged ≡ true
    acknowledged = by how
      where
        by : ((k ≡ 0) × (awaited_of (standing_of r.table k) ≡ ForFirst) × (phase_number r.table.phase ≡ 0)) ⊎ ((k ≡ 0) × (awaited_of (standing_of r.table k) ≡ ForStage)) → first.rounds.sides.acknowledged ≡ true
        by (inl h) = first.rule.sides.opening (first.view.table.stage ∙ h.2)
        by (inr h) = ((first.rule.seats k).may.acknowledges (waits ∙ h.1)).1

    no_blocks : (j : ℕ) (y : Line) → talks.lines j ≡ Some y → AllByRecursion IsNoBlock y.answers
    no_blocks j y is = by y.answers (first.rounds.seats j).answers refl (seat_is j y is).answers
      where
        by : (fs : List Frame) (as_seen : List Answer) → (first.rounds.seats j).answers ≡ as_seen → AreAnswers talks.known fs as_seen → AllByRecursion IsNoBlock fs
        by [] seen here are = tt
        by (f ∷ fs) [] here are = absurd (cc (are))
        by (f ∷ fs) (a ∷ rest) here are = waiting (first.rounds.seats j).awaits refl
          where
            waiting : (w : Awaited) → (first.rounds.seats j).awaits ≡ w → AllByRecursion IsNoBlock (f ∷ fs)
            waiting Nothing e = absurd (cc (sym here ∙ (quiet_of first.rounds.sides j (first.rounds.seats j) ((first.rule.seats j).talk (seat_is j y is).connected) e).1))
            waiting ForFirst e = alone_of (MayJoin first.rounds.sides.at j) talks.known f fs a rest (first.rounds.seats j).cut (first.rounds.seats j).core (heard_of first.rounds.sides j (first.rounds.seats j) ForFirst a rest ((first.rule.seats j).talk (seat_is j y is).connected) e here).1 are
            waiting ForEnd e = absurd ((first.rule.seats j).may.endless acknowledged e)
            waiting ForStage e = alone_of (IsNext first.rounds.sides.stage first.rounds.sides.at) talks.known f fs a rest (first.rounds.seats j).cut (first.rounds.seats j).core (heard_of first.rounds.sides j (first.rounds.seats j) ForStage a rest ((first.rule.seats j).talk (seat_is j y is).connected) e here).1 are

    -- what task k hears
    record HeardNow : Type 0 where
      rest : List Answer
      here : (first.rounds.seats k).answers ≡ StageAnswer reached ∷ rest

    heard_now : HeardNow
    heard_now = by (first.rounds.seats k).answers refl (subst (λ (f : List Frame). AreAnswers talks.known f (first.rounds.seats k).answers) (unread ∙ ap (λ (f : Frame). f ∷ more) got_is) (seat_is k l line).answers)
      where
        by : (seen : List Answer) → (first.rounds.seats k).answers ≡ seen → AreAnswers talks.known (frame.Stage attempt plan ∷ more) seen → HeardNow
        by [] here are = absurd (cc (are))
        by (a ∷ rest) here are = record { rest = rest; here = here ∙ ap (λ (x : Answer). x ∷ rest) same }
          where
            same : a ≡ StageAnswer reached
            same = cc (are)

    talk_now : TalkOf first.rounds.sides k (first.rounds.seats k)
    talk_now = (first.rule.seats k).talk (seat_is k l line).connected

    -- the donor is there, and it is the next stage
    record Comes : Type 0 where
      at_is : first.rounds.sides.at ≡ reached
      next : reached ≡ suc (phase_number r.table.phase)
      silent : (first.rounds.seats k).commands ≡ []

    comes : Comes
    comes = by how
      where
        first_next : IsAt first.rounds.sides.at first.rounds.sides.stage first.rounds.sides.acknowledged → reached ≡ first.rounds.sides.at → phase_number r.table.phase ≡ 0 → reached ≡ suc (phase_number r.table.phase)
        first_next (inl same) is none = let some = some_stage (plans.stage_of plan) in absurd (omega (arith, some, is, same, none, first.view.table.stage))
        first_next (inr next) is none = omega (arith, is, next.0, first.view.table.stage)

        by : ((k ≡ 0) × (awaited_of (standing_of r.table k) ≡ ForFirst) × (phase_number r.table.phase ≡ 0)) ⊎ ((k ≡ 0) × (awaited_of (standing_of r.table k) ≡ ForStage)) → Comes
        by (inl h) =
            let heard = heard_of first.rounds.sides k (first.rounds.seats k) ForFirst (StageAnswer reached) heard_now.rest talk_now (waits ∙ h.1) heard_now.here in
            record { at_is = sym (heard.1.0 h.0); next = first_next first.rule.sides.at (heard.1.0 h.0) h.2; silent = heard.0 }
        by (inr h) =
            let heard = heard_of first.rounds.sides k (first.rounds.seats k) ForStage (StageAnswer reached) heard_now.rest talk_now (waits ∙ h.1) heard_now.here in
            record { at_is = heard.1.0.1 ∙ sym heard.1.0.0; next = heard.1.0.0 ∙ ap suc first.view.table.stage; silent = heard.0 }

    plain : (j : ℕ) (y : Line) → talks.lines j ≡ Some y → AllByRecursion (IsPlain j) y.commands
    plain j y is = by (cases_eq j k)
      where
        others : j ≢ k → (fs : List Frame) → AllByRecursion (IsPlain j) fs
        others other [] = tt
        others other (f ∷ fs) = (λ z opens. other (z ∙ sym zero_is), others other fs)

        none : j ≡ k → (fs : List Frame) (cs : List Command) → (first.rounds.seats j).commands ≡ cs → AreCommands fs cs → AllByRecursion (IsPlain j) fs
        none same [] cs here are = tt
        none same (f ∷ fs) [] here are = absurd (cc (are))
        none same (f ∷ fs) (c ∷ cs) here are = absurd (cc (sym here ∙ ap (λ (i : ℕ). (first.rounds.seats i).commands) same ∙ comes.silent))

        by : (j ≡ k) ⊎ (j ≢ k) → AllByRecursion (IsPlain j) y.commands
        by (inl same) = none same y.commands (first.rounds.seats j).commands refl (seat_is j y is).commands
        by (inr other) = others other y.commands

    pub stage_is : stage_at session ≡ stage_number (plans.stage_of plan)
    stage_is = sym (at_stage (incarnation_of r.table) session first.rounds first.view.donor) ∙ comes.at_is

    -- THE RECIPIENT HAS MOVED to the stage, of whose chunks it knows how many blocks they have.
    pub move_read : (s : Reception) (phase : Phase) (counts_now : List ℕ) → s.table ≡ begins phase (unmarked counts_now) r.table → phase_number phase ≡ reached → All IsChunk s.table.marks → ((x : Session) → session ≡ Some x → block_counts x.snap.list ≡ counts_now) → ((x : Session) → session ≡ Some x → Copies s.table.phase s x.snap.list) → IsTalking session s (with_connection number (read_on at left) n)
    move_read s phase counts_now table_is phase_is chunks counted copies = talks_read session r n own tasks running talks k number at l has there line of receives got more left unread holds s session_is (ap (λ (t : Table). t.version) table_is) (ap (λ (t : Table). t.count) table_is) losses_is (λ j c y at_j of_j. line_moved r s session_is losses_is (ap (λ (t : Table). t.floor) table_is) session j c y (plain j y at_j) (no_blocks j y at_j) of_j) (own_now session refl talks.own) (λ joined. absurd (cc (joined, ap (λ (t : Table). t.joined) table_is))) recipient follows
      where
        session_is : s.table.session ≡ r.table.session
        session_is = ap (λ (t : Table). t.session) table_is

        losses_is : s.table.losses ≡ r.table.losses
        losses_is = ap (λ (t : Table). t.losses) table_is

        marks_are : s.table.marks ≡ unmarked counts_now
        marks_are = ap (λ (t : Table). t.marks) table_is

        now_is : phase_number s.table.phase ≡ reached
        now_is = ap (λ (t : Table). phase_number t.phase) table_is ∙ phase_is

        own_now : (o : Option Session) → session ≡ o → IfSome o (IsSessionOf r) → IfSome o (IsSessionOf s)
        own_now None e h = tt
        own_now (Some x) e h = record { number = h.number ∙ sym session_is; tasks = h.tasks ∙ sym (ap (λ (t : Table). t.count) table_is); version = h.version ∙ sym (ap (λ (t : Table). t.version) table_is); before = omega (arith, h.before, losses_is); chunks = h.chunks; copies = λ same. copies x e }

        -- there is a session, since the donor has come there
        known_now : (o : Option Session) → session ≡ o → stage_at o ≡ reached → IsCounted o talks.known → talks.known reached ≡ counts_now
        known_now None e at_is counted_is = let some = some_stage (plans.stage_of plan) in absurd (omega (arith, at_is, some))
        known_now (Some x) e at_is counted_is = ap talks.known (sym at_is) ∙ counted_is ∙ counted x e

        known_is : talks.known reached ≡ counts_now
        known_is = known_now session refl stage_is talks.rounds.donor

        recipient : talks.known (phase_number s.table.phase) ≡ blocks_of s.table.marks
        recipient = ap talks.known now_is ∙ known_is ∙ sym (begun_blocks counts_now) ∙ ap blocks_of (sym marks_are)

        follows : (counts : ℕ → List ℕ) (old : IsSeen r.table session n talks.lines counts) → ((stage : ℕ) → stage ≤ stage_at session → counts stage ≡ talks.known stage) → Follows counts s.table session (put talks.lines k (Some (line_read l more))) old.rounds
        follows counts old agrees =
            let next : suc old.rounds.sides.stage ≡ reached = ap suc old.view.table.stage ∙ sym comes.next in
            let size : old.rounds.sides.size (suc old.rounds.sides.stage) ≡ places (blocks_of (unmarked counts_now)) = old.sizes (suc old.rounds.sides.stage) ∙ ap places (ap counts next ∙ agrees reached (omega (arith, stage_is)) ∙ known_is ∙ sym (begun_blocks counts_now)) in
            let h = front session r n own tasks running talks k number at l has there line of receives got more left unread holds counts old in
            subst (λ (t : Table). Follows counts t session (put talks.lines k (Some (line_read l more))) old.rounds) (sym table_is) (moved_stage counts r.table session talks.lines old.rounds k l got more h (plans.stage_of plan) (ap (answer_of counts) got_is) awaited phase (unmarked counts_now) own.standings (phase_is ∙ comes.next) (subst (All IsChunk) marks_are chunks) size (none_taken counts_now) moving)

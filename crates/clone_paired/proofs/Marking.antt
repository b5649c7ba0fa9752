-- A task takes a block.
use Rattle.std.proofs.Common.{ℕ, ◌≡◌, ◌≢◌, ◌∙◌, ◌⊎◌, ◌<◌, ◌≤◌, List, [], ◌∷◌, Bool, true, false, Option, None, Some, length, refl, sym, ap, subst, inl, inr, arith}
use Rattle.std.specs.Prelude.{slice_get, slice_index, ◌==◌}
use Rattle.std.specs.List.{AllByRecursion, All}
use Rattle.std.proofs.lemmas.Bool.{and_parts, both_ways, cases_eq, eqb-true, ne_eqb}
use Rattle.clone_lay.specs.Sized.{PageCounts}
use Rattle.clone_chunk.specs.Stages.{copy_number, copying, stage_number}
use Rattle.clone_chunk.specs.declared.copy_stage.CopyStage.{CopyStage}
use Rattle.clone_chunk.specs.declared.copy_stage.CopyStage.TheVariants as copy
use Rattle.clone_chunk.specs.declared.stage.Stage.{Stage}
use Rattle.clone_marks.specs.Blocks.{IsChunk, blocks_of, is_left}
use Rattle.clone_marks.specs.declared.chunk_marks.ChunkMarks.{ChunkMarks}
use Rattle.clone_snapshot.specs.StageLists.{StageList}
use Rattle.clone_session.specs.Cloning.{Session}
use Rattle.clone_wire.specs.declared.frame.Frame.{Frame}
use Rattle.clone_wire.specs.declared.frame.Frame.TheVariants as frame
use Rattle.clone_wire.specs.declared.frame.Side.TheVariants.{Answer as ofDonor}
use Rattle.clone_wire.specs.declared.stage.PageStage.TheVariants as page
use Rattle.clone_tasks.specs.Awaiting.{awaits_block, awaits_end_of, is_in}
use Rattle.clone_tasks.specs.Rules.{sending_rule}
use Rattle.clone_tasks.specs.Sending.{IsFirst}
use Rattle.clone_tasks.specs.Tables.{Table, awaits_end, incarnation_of, is_running, standing_of}
use Rattle.clone_tasks.specs.declared.rule.Rule.TheVariants.{Receive}
use Rattle.clone_tasks.specs.declared.standing.Phase.{Phase}
use Rattle.clone_tasks.specs.declared.standing.Phase.TheVariants.{Opening, Copying, Done}
use Rattle.clone_tasks.specs.declared.standing.Standing.{Standing}
use Rattle.clone_tasks.specs.declared.standing.Standing.TheVariants.{Apart, Joining, Ready, Fetching, Served, Acknowledging}
use Rattle.clone_recipient.specs.Receptions.{Reception}
use Rattle.clone_recipient.specs.Taking.{HasMarked}
use Rattle.clone_network.specs.Connections.{Connection}
use Rattle.clone_network.specs.Networks.{Network, with_connection}
use Rattle.clone_rounds.specs.Awaiting.{IsAt, Rule}
use Rattle.clone_rounds.specs.World.{Block, Command, First, ForEnd, Seat, World, put}
use Rattle.clone_rounds.proofs.Fitting.{level_of}
use Rattle.clone_rounds.proofs.Talks.{asked_of}
use Rattle.clone_view.specs.Donors.{IsDonor}
use Rattle.clone_view.specs.Frames.{AreCommands, answer_of, command_of}
use Rattle.clone_view.specs.Rows.{place_of}
use Rattle.clone_view.specs.Tables.{awaited_of, phase_number}
use Rattle.clone_view.specs.Views.{Follows, IsLine, IsSeat, IsView, Line, line_read, list_in}
use Rattle.clone_view.proofs.ViewSteps.{took_block}
use Rattle.clone_paired.specs.Lines.{IsLineOf, connection_of}
use Rattle.clone_paired.specs.Paired.{IsReception, IsTalking}
use Rattle.clone_paired.specs.Seen.{IsSeen, stage_at}
use Rattle.clone_paired.specs.Sessions.{Copies, IsSessionOf}
use Rattle.clone_paired.specs.Speaking.{IsAsked, IsGiven}
use Rattle.clone_paired.specs.Unread.{Holds}
use Rattle.clone_paired.proofs.Reading.{front, read_on, talks_read}
use Rattle.clone_paired.proofs.Sends.{some_as}
use Rattle.clone_paired.proofs.TaskSends.{IsOpening, opening_of}
use Rattle.clone_paired.proofs.Transports.{all_as}

-- ---- other blocks are marked

abbrev pub marked : Reception → List ChunkMarks → PageCounts → Reception
marked r marks sizes = record r { table = record r.table { marks = marks }; sizes = sizes }

-- no first command of task 0 lies unread
abbrev pub IsPlain : ℕ → Frame → Type 0
IsPlain j f = j ≡ 0 → IsOpening f → ⊥

module _ (r : Reception) (marks : List ChunkMarks) (sizes : PageCounts) (blocks : blocks_of marks ≡ blocks_of r.table.marks) where
  abbrev s : Reception
  s = marked r marks sizes

  first_as : (j : ℕ) (f : Frame) → IsOpening f → IsPlain j f → IsFirst (j == 0) r.table j f → IsFirst (j == 0) s.table j f
  first_as j f opens plain is = by (cases_eq j 0)
    where
      by : (j ≡ 0) ⊎ (j ≢ 0) → IsFirst (j == 0) s.table j f
      by (inl zero_is) = absurd (plain zero_is opens)
      by (inr other) = subst (λ (b : Bool). IsFirst b s.table j f) (sym (ne_eqb j 0 other)) (subst (λ (b : Bool). IsFirst b r.table j f) (ne_eqb j 0 other) is)

  asked_as : (j : ℕ) (f : Frame) → IsPlain j f → IsAsked r.table j f → IsAsked s.table j f
  asked_as j (frame.Execute stage) plain is = tt
  asked_as j (frame.Ack copy.PageCopy given) plain is = is
  asked_as j (frame.Ack copy.FileCopy given) plain is = tt
  asked_as j (frame.Ack copy.RedoCopy given) plain is = tt
  asked_as j (frame.Init attempt version size compressed tasks) plain is = first_as j (frame.Init attempt version size compressed tasks) tt plain is
  asked_as j (frame.Attach attempt task) plain is = first_as j (frame.Attach attempt task) tt plain is
  asked_as j (frame.Reinit attempt stage finished) plain is = first_as j (frame.Reinit attempt stage finished) tt plain is
  asked_as j (frame.Reinit2 attempt stage taken) plain is = first_as j (frame.Reinit2 attempt stage taken) tt plain is
  asked_as j other plain is = absurd (never is)
    where
      never : IsFirst (j == 0) r.table j other → ⊥
      never h = opening_of (j == 0) r.table j other h

  given_as : (session : Option Session) (f : Frame) → IsGiven session r f → IsGiven session s f
  given_as session (frame.Stage attempt plan) is = is
  given_as session (frame.Pages attempt page.FileCopy chunk block pages) is = (is.0, subst (λ (c : List ℕ). block < slice_index c chunk) (sym blocks) is.1, is.2)
  given_as session (frame.Pages attempt page.PageCopy chunk block pages) is = (is.0, subst (λ (c : List ℕ). block < slice_index c chunk) (sym blocks) is.1, is.2)
  given_as session (frame.Redo attempt chunk block from bytes) is = (is.0, subst (λ (c : List ℕ). block < slice_index c chunk) (sym blocks) is.1, is.2)
  given_as session (frame.End attempt stage) is = is
  given_as session other is = absurd is

  all_asked : (j : ℕ) (fs : List Frame) → AllByRecursion (IsPlain j) fs → AllByRecursion (IsAsked r.table j) fs → AllByRecursion (IsAsked s.table j) fs
  all_asked j [] plain are = tt
  all_asked j (f ∷ fs) plain are = (asked_as j f plain.0 are.0, all_asked j fs plain.1 are.1)

  pub line_marked : (session : Option Session) (j : ℕ) (at : Connection) (l : Line) → AllByRecursion (IsPlain j) l.commands → IsLineOf session r j at l → IsLineOf session s j at l
  line_marked session j at l plain is = record { held = is.held; cut = is.cut; doing = is.doing; binds = is.binds; live = is.live; over = is.over; answers = is.answers; asked = all_asked j l.commands plain is.asked; given = all_as (given_as session) l.answers is.given }

  copies_as : (phase : Phase) (list : StageList) → Copies phase r list → Copies phase s list
  copies_as Opening list is = tt
  copies_as (Copying copy.FileCopy) list is = is
  copies_as (Copying copy.PageCopy) list is = is
  copies_as (Copying copy.RedoCopy) list is = is
  copies_as Done list is = tt

  pub session_marked : (x : Session) → IsSessionOf r x → IsSessionOf s x
  session_marked x is = record { number = is.number; tasks = is.tasks; version = is.version; before = is.before; chunks = is.chunks; copies = λ same. copies_as r.table.phase x.snap.list (is.copies same) }

-- ---- a task awaits an END

end_waits : (s : Standing) → awaits_end s ≡ true → awaited_of s ≡ ForEnd
end_waits Apart is = absurd (cc (is))
end_waits Joining is = absurd (cc (is))
end_waits Ready is = absurd (cc (is))
end_waits Fetching is = refl
end_waits Served is = absurd (cc (is))
end_waits Acknowledging is = absurd (cc (is))

copying_number : (stage : CopyStage) → stage_number (copying stage) ≡ copy_number stage
copying_number copy.FileCopy = refl
copying_number copy.PageCopy = refl
copying_number copy.RedoCopy = refl

in_stage : (phase : Phase) (at : Stage) → is_in phase at ≡ true → stage_number at ≡ phase_number phase
in_stage Opening at is = absurd (cc (is))
in_stage (Copying stage) at is = eqb-true (stage_number at) (stage_number (copying stage)) is ∙ copying_number stage
in_stage Done at is = absurd (cc (is))

opening_first : (f : Frame) → IsOpening f → command_of f ≡ Some First
opening_first (frame.Init attempt version size compressed tasks) opens = refl
opening_first (frame.Attach attempt task) opens = refl
opening_first (frame.Reinit attempt stage finished) opens = refl
opening_first (frame.Reinit2 attempt stage taken) opens = refl
opening_first other opens = absurd opens

pub at_stage : (incarnation : ℕ) (session : Option Session) (w : World) → IsDonor incarnation session w → w.sides.at ≡ stage_at session
at_stage incarnation None w d = d.1
at_stage incarnation (Some s) w d = d.at

-- the recipient's stage is none to which the donor hasn't come
pub stage_known : (counts : ℕ → List ℕ) (t : Table) (session : Option Session) (lines : ℕ → Option Line) (w : World) → IsView counts t session lines w → Rule w → phase_number t.phase ≤ stage_at session
stage_known counts t session lines w view rule = by rule.sides.at
  where
    at : w.sides.at ≡ stage_at session
    at = at_stage (incarnation_of t) session w view.donor

    by : IsAt w.sides.at w.sides.stage w.sides.acknowledged → phase_number t.phase ≤ stage_at session
    by (inl same) = omega (arith, at, same, view.table.stage)
    by (inr next) = omega (arith, at, next.0, view.table.stage)

module _ (session : Option Session) (r : Reception) (n : Network) (own : IsReception r) (tasks : length n.seats ≡ r.table.count) (running : is_running r.table ≡ true) (talks : IsTalking session r n) (k number : ℕ) (at : Connection) (l : Line) (has : connection_of n k ≡ Some number) (there : slice_get n.connections number ≡ Some at) (line : talks.lines k ≡ Some l) (of : IsLineOf session r k at l) (receives : sending_rule r.table k ≡ Receive) (got : Frame) (more : List Frame) (left : List ℕ) (unread : l.answers ≡ got ∷ more) (holds : Holds ofDonor at.cut more left) where
  first : IsSeen r.table session n talks.lines talks.known
  first = talks.rounds.seen talks.known (λ stage small. refl)

  seat_is : (j : ℕ) (y : Line) → talks.lines j ≡ Some y → IsLine talks.known (list_in session) y (first.rounds.seats j)
  seat_is j y is = subst (λ (o : Option Line). IsSeat talks.known (list_in session) o (first.rounds.seats j)) is (first.view.seats j)

  module _ (awaits : awaits_end (standing_of r.table k) ≡ true) where
    ends : (first.rounds.seats k).awaits ≡ ForEnd
    ends = (first.view.table.seats k).awaits ∙ end_waits (standing_of r.table k) awaits

    met : first.rounds.sides.met ≡ true
    met = (level_of first.rounds first.rule k (seat_is k l line).connected ends).0

    joined : r.table.joined ≡ false → ⊥
    joined none = by (cases_eq k 0)
      where
        unjoined : first.rounds.sides.joined ≡ false
        unjoined = first.view.table.joined ∙ none

        by : (k ≡ 0) ⊎ (k ≢ 0) → ⊥
        by (inl zero_is) = cc (ends, (first.rule.seats k).may.joins zero_is unjoined (seat_is k l line).connected)
        by (inr other) = both_ways (first.rounds.seats k).connected ((first.rule.seats k).may.follows other unjoined) (seat_is k l line).connected

    plain : (j : ℕ) (y : Line) → talks.lines j ≡ Some y → AllByRecursion (IsPlain j) y.commands
    plain j y is = by y.commands (first.rounds.seats j).commands refl (seat_is j y is).commands
      where
        own_seat : Seat
        own_seat = first.rounds.seats j

        one : (f : Frame) (fs : List Frame) (c : Command) (cs : List Command) → (first.rounds.seats j).commands ≡ c ∷ cs → AreCommands (f ∷ fs) (c ∷ cs) → AllByRecursion (IsPlain j) (f ∷ fs)
        one f fs c cs here are =
            let alone : cs ≡ [] = (asked_of first.rounds.sides j (first.rounds.seats j) c cs ((first.rule.seats j).talk (seat_is j y is).connected) here).0 in
            let none : fs ≡ [] = empty fs cs (cc (are)) alone in
            let never : IsPlain j f = λ zero_is opens. (
            let same : c ≡ First = cc (are, opening_first f opens) in
            both_ways first.rounds.sides.met ((first.rule.seats j).unmet zero_is (here ∙ ap (λ (x : Command). x ∷ cs) same ∙ ap (λ (x : List Command). First ∷ x) alone)).0 met) in
            (never, subst (AllByRecursion (IsPlain j)) (sym none) tt)
          where
            empty : (fs : List Frame) (cs : List Command) → AreCommands fs cs → cs ≡ [] → fs ≡ []
            empty [] cs are none = refl
            empty (x ∷ fs) cs are none = absurd (cc (are, none))

        by : (fs : List Frame) (cs : List Command) → (first.rounds.seats j).commands ≡ cs → AreCommands fs cs → AllByRecursion (IsPlain j) fs
        by [] cs here are = tt
        by (f ∷ fs) [] here are = absurd (cc (are))
        by (f ∷ fs) (c ∷ cs) here are = one f fs c cs here are

  -- THE BLOCK WAS TAKEN.
  pub block_read : (s : Reception) (stage : CopyStage) (chunk block : ℕ) → HasMarked chunk block r s → All IsChunk s.table.marks → ((counts : ℕ → List ℕ) → answer_of counts got ≡ Some (Block (copy_number stage) (place_of (counts (copy_number stage)) chunk block))) → awaits_block r.table k stage chunk block ≡ true → IsTalking session s (with_connection number (read_on at left) n)
  block_read s stage chunk block took chunks is awaits = subst (λ (x : Reception). IsTalking session x (with_connection number (read_on at left) n)) (sym s_is) (talks_read session r n own tasks running talks k number at l has there line of receives got more left unread holds now refl refl refl refl (λ j c y at_j of_j. line_marked r s.table.marks s.sizes took.table.blocks session j c y (plain ends_true j y at_j) of_j) (some_as (session_marked r s.table.marks s.sizes took.table.blocks) session talks.own) (λ none. absurd (joined ends_true none)) (talks.rounds.recipient ∙ sym took.table.blocks) follows)
    where
      now : Reception
      now = marked r s.table.marks s.sizes

      s_is : s ≡ marked r s.table.marks s.sizes
      s_is = took.else_same ∙ ap (λ (t : Table). record r { table = t; sizes = s.sizes }) took.table.else_same

      ends_parts : (awaits_end_of r.table k stage ≡ true) × (is_left r.table.marks chunk block ≡ true)
      ends_parts = and_parts (awaits_end_of r.table k stage) (is_left r.table.marks chunk block) awaits

      stage_parts : (awaits_end (standing_of r.table k) ≡ true) × (is_in r.table.phase (copying stage) ≡ true)
      stage_parts = and_parts (awaits_end (standing_of r.table k)) (is_in r.table.phase (copying stage)) ends_parts.0

      ends_true : awaits_end (standing_of r.table k) ≡ true
      ends_true = stage_parts.0

      stage_is : copy_number stage ≡ phase_number r.table.phase
      stage_is = sym (copying_number stage) ∙ in_stage r.table.phase (copying stage) stage_parts.1

      follows : (counts : ℕ → List ℕ) (old : IsSeen r.table session n talks.lines counts) → ((stage : ℕ) → stage ≤ stage_at session → counts stage ≡ talks.known stage) → Follows counts now.table session (put talks.lines k (Some (line_read l more))) old.rounds
      follows counts old agrees =
          let known : counts (copy_number stage) ≡ blocks_of r.table.marks = ap counts stage_is ∙ agrees (phase_number r.table.phase) (stage_known counts r.table session talks.lines old.rounds old.view old.rule) ∙ talks.rounds.recipient in
          subst (λ (t : Table). Follows counts t session (put talks.lines k (Some (line_read l more))) old.rounds) took.table.else_same (took_block counts r.table session talks.lines old.rounds k l got more (front session r n own tasks running talks k number at l has there line of receives got more left unread holds counts old) stage chunk block s.table (is counts ∙ ap (λ (c : List ℕ). Some (Block (copy_number stage) (place_of c chunk block))) known) awaits took.table chunks)

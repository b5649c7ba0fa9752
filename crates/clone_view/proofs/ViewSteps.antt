-- A task's step is a step of the rounds: of its frames too.
use Rattle.std.proofs.Common.{◌≡◌, ◌≢◌, ◌<◌, ◌≤◌, ◌+◌, ◌++◌, ℕ, zero, suc, Bool, true, false, List, [], ◌∷◌, Option, Some, None, map, length, refl, sym, ap, subst, ◌∙◌, arith, inl, inr, ◌⊎◌}
use Rattle.std.specs.Prelude.{◌==◌, ◌||◌, not, nat_lt, slice_index}
use Rattle.std.specs.List.{All}
use Rattle.std.proofs.lemmas.Bool.{cases_Bool, cases_eq, eqb-true, eq-eqb, ne_eqb, ltb-true, ltb-false, not-true, and_parts, and_from, or_cases}
use Rattle.clone_chunk.specs.Stages.{copy_number, stage_number, copying}
use Rattle.clone_chunk.specs.declared.stage.Stage.{Stage}
use Rattle.clone_chunk.specs.declared.copy_stage.CopyStage.{CopyStage}
use Rattle.clone_chunk.specs.declared.copy_stage.CopyStage.TheVariants as copy
use Rattle.clone_chunk.specs.declared.stage.Stage.TheVariants as stage
use Rattle.clone_marks.specs.declared.chunk_marks.ChunkMarks.{ChunkMarks}
use Rattle.clone_marks.specs.Blocks.{IsChunk, blocks_of, has_block, is_left, is_taken}
use Rattle.clone_marks.specs.Forgetting.{forgotten}
use Rattle.clone_snapshot.specs.StageLists.{StageList}
use Rattle.clone_session.specs.Cloning.{Session}
use Rattle.clone_tasks.specs.Awaiting.{is_same, is_in, next_stage, after_copy, fits_stage, awaits_stage, is_opening, moves_from, moves, awaits_end_of, awaits_block}
use Rattle.clone_tasks.specs.Losing.{after_loss, is_spent, kept_in}
use Rattle.clone_tasks.specs.Moves.{HasTaken, joined_by, begins, served}
use Rattle.clone_tasks.specs.Rules.{sending_rule}
use Rattle.clone_tasks.specs.Sending.{Reattaches, Opens, IsFirst, IsSent, after_sending}
use Rattle.clone_tasks.specs.Tables.{Table, standing_of, incarnation_of, is_running, awaits_end, MayStand, AreStandings}
use Rattle.clone_tasks.specs.declared.rule.Rule.{Rule}
use Rattle.clone_tasks.specs.declared.rule.Rule.TheVariants as rule
use Rattle.clone_tasks.specs.declared.standing.Phase.{Phase}
use Rattle.clone_tasks.specs.declared.standing.Phase.TheVariants.{Opening, Copying, Done}
use Rattle.clone_tasks.specs.declared.standing.Standing.{Standing}
use Rattle.clone_tasks.specs.declared.standing.Standing.TheVariants.{Apart, Joining, Ready, Fetching, Served, Acknowledging}
use Rattle.clone_wire.specs.declared.frame.Frame.{Frame}
use Rattle.clone_rounds.specs.World.{Command, First, Execute, Acknowledge, Answer, Stage as StageAnswer, Block, End, Awaited, ForFirst, ForEnd, ForStage, Seat, World, put, with_seat}
use Rattle.clone_rounds.specs.Idle.{Loses}
use Rattle.clone_rounds.specs.Steps.{sends, connecting, asking, acknowledging, takes_stage, takes_end, joining, unended, advancing, taking, losing, TaskStep, connects, executes, acknowledges, joins, opens, advances, attaches, takes_block, ends, loses, Hears}
use Rattle.clone_rounds.proofs.Puts.{put_same, put_other}
use Rattle.clone_view.specs.Rows.{places, place_of, taken_at}
use Rattle.clone_view.specs.Tables.{phase_number, awaited_of, IsTable}
use Rattle.clone_view.specs.Applying.{Receives, Applies}
use Rattle.clone_view.specs.Frames.{command_of, answer_of, AreCommands, AreAnswers}
use Rattle.clone_view.specs.Donors.{IsDonor}
use Rattle.clone_view.specs.Views.{Line, IsLine, IsSeat, list_in, IsView, HasFront, line_sent, line_read, Follows}
use Rattle.clone_view.proofs.Applying.{applies, copy_some}
use Rattle.clone_view.proofs.Rows.{taken_place, place_small}
use Rattle.clone_view.proofs.TableSteps.{table_connects, table_executes, table_acknowledges, table_joins, table_attaches, table_advances, table_takes, table_ends, table_loses, table_forgets}

-- ---- what a task's step leaves as it is

-- the donor
pub donor_as : (incarnation : ℕ) (session : Option Session) (w u : World) → u.sides.met ≡ w.sides.met → u.sides.at ≡ w.sides.at → u.sides.size ≡ w.sides.size → u.sides.owner ≡ w.sides.owner → IsDonor incarnation session w → IsDonor incarnation session u
donor_as incarnation None w u met at size owner d = (met ∙ d.0, at ∙ d.1)
donor_as incarnation (Some s) w u met at size owner d = record { met = met ∙ d.met; at = at ∙ d.at; size = rw (size, at) (d.size); owner = λ chunk block small. rw owner (d.owner chunk block small) }

-- the other seats
pub seats_put : (P : Option Line → Seat → Type 0) (lines : ℕ → Option Line) (seats : ℕ → Seat) (k : ℕ) (l : Option Line) (s : Seat) → ((j : ℕ) → P (lines j) (seats j)) → P l s → (j : ℕ) → P (put lines k l j) (put seats k s j)
seats_put P lines seats k l s all own j = at (cases_eq j k)
  where
    at : (j ≡ k) ⊎ (j ≢ k) → P (put lines k l j) (put seats k s j)
    at (inl e) = rw (ap (put lines k l) e ∙ put_same lines k l, ap (put seats k s) e ∙ put_same seats k s) own
    at (inr other) = rw (put_other lines k l j other, put_other seats k s j other) (all j)

-- ---- a frame is sent

pub map_more : {A B : Type 0} (f : A → B) (xs : List A) (x : A) → map f (xs ++ x ∷ []) ≡ map f xs ++ f x ∷ []
map_more f [] x = refl
map_more f (y ∷ xs) x = ap (λ zs. f y ∷ zs) (map_more f xs x)

commands_sent : (cut : Bool) (frames : List Frame) (commands : List Command) (next : Frame) (c : Command) → AreCommands frames commands → command_of next ≡ Some c → AreCommands (sends cut frames next) (sends cut commands c)
commands_sent true frames commands next c are is = are
commands_sent false frames commands next c are is = map_more command_of frames next ∙ rw (are, is) (sym (map_more (λ x. Some x) commands c))

first_is : (zero_is : Bool) (t : Table) (k : ℕ) (next : Frame) → IsFirst zero_is t k next → command_of next ≡ Some First
first_is true t k next h = at t.phase h
  where
    reattaches : (first : Bool) (stage : CopyStage) → Reattaches first stage t next → command_of next ≡ Some First
    reattaches true stage g = ap command_of g.1
    reattaches false stage g = ap command_of g.1

    at : (phase : Phase) → Opens phase t next → command_of next ≡ Some First
    at Opening g = ap command_of g
    at (Copying stage) g = reattaches (t.version == 1) stage g
    at Done g = ap command_of g
first_is false t k next h = ap command_of h

pub line_none : (counts : ℕ → List ℕ) (list : StageList) (l : Option Line) (s : Seat) → IsSeat counts list l s → s.connected ≡ false → l ≡ None
line_none counts list None s is c = refl
line_none counts list (Some l) s is c = cc (is.connected, c)

-- a connected task sends a command
line_asks : (counts : ℕ → List ℕ) (list : StageList) (l : Option Line) (s : Seat) (awaits : Awaited) (next : Frame) (c : Command) → IsSeat counts list l s → s.connected ≡ true → command_of next ≡ Some c → IsLine counts list (line_sent l next) (asking s awaits c)
line_asks counts list None s awaits next c is d e = cc (d, ap (λ x. x.connected) is)
line_asks counts list (Some l) s awaits next c is d e = record { connected = is.connected; cut = is.cut; commands = subst (λ b. AreCommands (sends l.cut l.commands next) (sends b s.commands c)) (sym is.cut) (commands_sent l.cut l.commands s.commands next c is.commands e); answers = is.answers; core = is.core }

module _ (counts : ℕ → List ℕ) (t : Table) (session : Option Session) (lines : ℕ → Option Line) (w : World) (v : IsView counts t session lines w) (running : is_running t ≡ true) (k : ℕ) (within : k < length t.standings) where
  pub sent : (which : Rule) → sending_rule t k ≡ which → (floor : ℕ) (next : Frame) → IsSent which t k floor next → (command_of next ≡ None → ⊥) → Follows counts (after_sending which t k floor) session (put lines k (Some (line_sent (lines k) next))) w
  sent which e floor next is command = go which is (subst (λ r. Applies r w k) e (applies t w k v.table running))
    where
      go : (r : Rule) → IsSent r t k floor next → Applies r w k → Follows counts (after_sending r t k floor) session (put lines k (Some (line_sent (lines k) next))) w
      go rule.Nothing s a = absurd s
      go rule.Stale s a = absurd s
      go rule.Receive s a = absurd s
      go rule.Complete s a = absurd (command (ap command_of s))
      go rule.Connect s a = (with_seat w k connecting, connects k a, record { table = table_connects t w k floor v.table within; donor = donor_as (incarnation_of t) session w (with_seat w k connecting) refl refl refl refl v.donor; seats = seats_put (IsSeat counts (list_in session)) lines w.seats k (Some (line_sent (lines k) next)) connecting v.seats (rw (line_none counts (list_in session) (lines k) (w.seats k) (v.seats k) a.absent) (record { connected = refl; cut = refl; commands = ap (λ c. c ∷ []) (first_is (k == 0) t k next s); answers = refl; core = refl })) })
      go (rule.Execute stage) s a = (with_seat w k (asking (w.seats k) ForEnd (Execute w.sides.stage)), executes k a.0, record { table = table_executes t w k floor stage v.table within a.0.linked.connected; donor = donor_as (incarnation_of t) session w (with_seat w k (asking (w.seats k) ForEnd (Execute w.sides.stage))) refl refl refl refl v.donor; seats = seats_put (IsSeat counts (list_in session)) lines w.seats k (Some (line_sent (lines k) next)) (asking (w.seats k) ForEnd (Execute w.sides.stage)) v.seats (line_asks counts (list_in session) (lines k) (w.seats k) ForEnd next (Execute w.sides.stage) (v.seats k) a.0.linked.connected (ap command_of s ∙ ap (λ n. Some (Execute n)) a.1)) })
      go (rule.Acknowledge stage) s a = (acknowledging w, acknowledges a.1, subst (λ i. IsView counts (after_sending (rule.Acknowledge stage) t i floor) session (put lines i (Some (line_sent (lines i) next))) (acknowledging w)) (sym a.0) (record { table = table_acknowledges t w floor stage v.table (subst (λ i. i < length t.standings) a.0 within) a.1.linked.connected; donor = donor_as (incarnation_of t) session w (acknowledging w) refl refl refl refl v.donor; seats = seats_put (IsSeat counts (list_in session)) lines w.seats 0 (Some (line_sent (lines 0) next)) (asking (w.seats 0) ForStage (Acknowledge w.sides.stage)) v.seats (line_asks counts (list_in session) (lines 0) (w.seats 0) ForStage next (Acknowledge w.sides.stage) (v.seats 0) a.1.linked.connected (ap command_of s ∙ ap (λ n. Some (Acknowledge n)) a.2)) }))

-- ---- a frame is taken

-- the frame at the front of what lies unread is this answer
pub record Front (counts : ℕ → List ℕ) (s : Seat) (got : Frame) (left : List Frame) : Type 0 where
  pub answer : Answer
  pub more : List Answer
  pub front : s.answers ≡ answer ∷ more
  pub is : answer_of counts got ≡ Some answer
  pub rest : AreAnswers counts left more

front_of : (counts : ℕ → List ℕ) (s : Seat) (got : Frame) (left : List Frame) → AreAnswers counts (got ∷ left) s.answers → Front counts s got left
front_of counts s got left are = at s.answers refl are
  where
    at : (answers : List Answer) → s.answers ≡ answers → AreAnswers counts (got ∷ left) answers → Front counts s got left
    at [] e h = cc (h)
    at (x ∷ more) e h = record { answer = x; more = more; front = e; is = cc (h); rest = cc (h) }

left_there : (marks : List ChunkMarks) (chunk block : ℕ) → is_left marks chunk block ≡ true → (block < slice_index (blocks_of marks) chunk) × (is_taken marks chunk block ≡ false)
left_there [] chunk block h = cc
left_there (c ∷ marks) zero block h =
    let parts : (nat_lt block c.blocks ≡ true) × (not (has_block block c) ≡ true) = and_parts (nat_lt block c.blocks) (not (has_block block c)) h in
    (ltb-true block c.blocks parts.0, not-true (has_block block c) parts.1)
left_there (c ∷ marks) (suc chunk) block h = left_there marks chunk block h

-- ---- which answers are awaited

copying_number : (stage : CopyStage) → stage_number (copying stage) ≡ copy_number stage
copying_number copy.FileCopy = refl
copying_number copy.PageCopy = refl
copying_number copy.RedoCopy = refl

after_number : (stage : CopyStage) → stage_number (after_copy stage) ≡ suc (copy_number stage)
after_number copy.FileCopy = refl
after_number copy.PageCopy = refl
after_number copy.RedoCopy = refl

fetching_is : (s : Standing) → awaits_end s ≡ true → s ≡ Fetching
fetching_is Apart h = cc
fetching_is Joining h = cc
fetching_is Ready h = cc
fetching_is Fetching h = refl
fetching_is Served h = cc
fetching_is Acknowledging h = cc

-- the recipient is in this stage
in_stage : (phase : Phase) (at : Stage) → is_in phase at ≡ true → stage_number at ≡ phase_number phase
in_stage Opening at h = cc
in_stage (Copying stage) at h = eqb-true (stage_number at) (stage_number (copying stage)) h ∙ copying_number stage
in_stage Done at h = cc

in_number : (phase : Phase) (stage : CopyStage) → is_in phase (copying stage) ≡ true → copy_number stage ≡ phase_number phase
in_number phase stage h = sym (copying_number stage) ∙ in_stage phase (copying stage) h

next_number : (phase : Phase) → phase_number phase < 4 → stage_number (next_stage phase) ≡ suc (phase_number phase)
next_number Opening h = omega arith
next_number (Copying stage) h = after_number stage
next_number Done h = absurd (omega (arith, h))

begun_number : (phase : Phase) → is_opening phase ≡ false → 0 < phase_number phase
begun_number Opening h = cc
begun_number (Copying stage) h = (copy_some stage).0
begun_number Done h = omega arith

opening_number : (phase : Phase) → is_opening phase ≡ true → phase_number phase ≡ 0
opening_number Opening h = refl
opening_number (Copying stage) h = cc
opening_number Done h = cc

phase_few : (phase : Phase) → phase_number phase ≤ 4
phase_few Opening = omega arith
phase_few (Copying stage) = let less : copy_number stage < 4 = (copy_some stage).1 in omega (arith, less)
phase_few Done = omega arith

-- a STAGE that leaves the recipient answers the first command
stays_is : (s : Standing) (phase : Phase) (k : ℕ) (at : Stage) → fits_stage s phase k at ≡ true → moves_from s phase k ≡ false → s ≡ Joining
stays_is Apart phase k at h m = cc
stays_is Joining phase k at h m = refl
stays_is Ready phase k at h m = cc
stays_is Fetching phase k at h m = cc
stays_is Served phase k at h m = cc
stays_is Acknowledging phase k at h m = cc

-- and is of the recipient's stage or the next one, where task 0 takes it
comes_back : (phase : Phase) (k : ℕ) (at : Stage) → k ≡ 0 → fits_stage Joining phase k at ≡ true → (stage_number at ≡ phase_number phase) ⊎ (stage_number at ≡ suc (phase_number phase))
comes_back phase k at z h = first (or_cases (not (k == 0) || is_same at (next_stage phase)) (is_in phase at) h)
  where
    next : (p : Phase) → stage_number at ≡ stage_number (next_stage p) → (stage_number at ≡ phase_number p) ⊎ (stage_number at ≡ suc (phase_number p))
    next Opening e = inr (e ∙ next_number Opening (omega arith))
    next (Copying stage) e = inr (e ∙ after_number stage)
    next Done e = inl e

    second : (not (k == 0) ≡ true) ⊎ (is_same at (next_stage phase) ≡ true) → (stage_number at ≡ phase_number phase) ⊎ (stage_number at ≡ suc (phase_number phase))
    second (inl g) = cc (not-true (k == 0) g, eq-eqb k 0 z)
    second (inr g) = next phase (eqb-true (stage_number at) (stage_number (next_stage phase)) g)

    first : ((not (k == 0) || is_same at (next_stage phase)) ≡ true) ⊎ (is_in phase at ≡ true) → (stage_number at ≡ phase_number phase) ⊎ (stage_number at ≡ suc (phase_number phase))
    first (inl g) = second (or_cases (not (k == 0)) (is_same at (next_stage phase)) g)
    first (inr g) = inl (in_stage phase at g)

-- a STAGE that moves the recipient answers INIT, or an acknowledgement
pub record AnswersInit (s : Standing) (phase : Phase) (k : ℕ) (at : Stage) : Type 0 where
  pub joining : s ≡ Joining
  pub first : k ≡ 0
  pub opening : is_opening phase ≡ true
  pub stage : stage_number at ≡ 1

pub record AnswersAck (s : Standing) (phase : Phase) (at : Stage) : Type 0 where
  pub acknowledging : s ≡ Acknowledging
  pub stage : stage_number at ≡ stage_number (next_stage phase)

moves_is : (s : Standing) (phase : Phase) (k : ℕ) (at : Stage) → fits_stage s phase k at ≡ true → moves_from s phase k ≡ true → AnswersInit s phase k at ⊎ AnswersAck s phase at
moves_is Apart phase k at h m = cc
moves_is Joining phase k at h m = inl (record { joining = refl; first = zero_is; opening = (and_parts (k == 0) (is_opening phase) m).1; stage = one (comes_back phase k at zero_is h) })
  where
    zero_is : k ≡ 0
    zero_is = eqb-true k 0 (and_parts (k == 0) (is_opening phase) m).0

    none : phase_number phase ≡ 0
    none = opening_number phase (and_parts (k == 0) (is_opening phase) m).1

    some : (x : Stage) → 0 < stage_number x
    some stage.FileCopy = omega arith
    some stage.PageCopy = omega arith
    some stage.RedoCopy = omega arith
    some stage.Done = omega arith

    one : (stage_number at ≡ phase_number phase) ⊎ (stage_number at ≡ suc (phase_number phase)) → stage_number at ≡ 1
    one (inl e) = let more : 0 < stage_number at = some at in absurd (omega (arith, e, none, more))
    one (inr e) = omega (arith, e, none)
moves_is Ready phase k at h m = cc
moves_is Fetching phase k at h m = cc
moves_is Served phase k at h m = cc
moves_is Acknowledging phase k at h m = inr (record { acknowledging = refl; stage = eqb-true (stage_number at) (stage_number (next_stage phase)) h })

unended_seat : (counts : ℕ → List ℕ) (list : StageList) (l : Option Line) (s : Seat) → IsSeat counts list l s → IsSeat counts list l (unended s)
unended_seat counts list None s is = ap unended is
unended_seat counts list (Some l) s is = record { connected = is.connected; cut = is.cut; commands = is.commands; answers = is.answers; core = is.core }

module _ (counts : ℕ → List ℕ) (t : Table) (session : Option Session) (lines : ℕ → Option Line) (w : World) (k : ℕ) (l : Line) (got : Frame) (left : List Frame) (h : HasFront counts t session lines w k l got left) where
  is_line : IsLine counts (list_in session) l (w.seats k)
  is_line = subst (λ x. IsSeat counts (list_in session) x (w.seats k)) h.line (h.view.seats k)

  read : Front counts (w.seats k) got left
  read = front_of counts (w.seats k) got left (subst (λ x. AreAnswers counts x (w.seats k).answers) h.unread is_line.answers)

  receives : Receives w k
  receives = subst (λ r. Applies r w k) h.receives (applies t w k h.view.table h.running)

  hears : (standing : Standing) (x : Answer) → standing_of t k ≡ standing → answer_of counts got ≡ Some x → Hears w k (awaited_of standing) x read.more
  hears standing x e is = record { linked = receives.linked; part = receives.part; awaited = (h.view.table.seats k).awaits ∙ ap awaited_of e; front = read.front ∙ ap (λ y. y ∷ read.more) same }
    where
      same : read.answer ≡ x
      same = cc (read.is, is)

  -- the line then, whatever else of the seat has changed
  line_left : (s : Seat) → s.connected ≡ true → s.cut ≡ (w.seats k).cut → s.commands ≡ (w.seats k).commands → s.answers ≡ read.more → s.core ≡ (w.seats k).core → IsLine counts (list_in session) (line_read l left) s
  line_left s c cut commands answers core = record { connected = c; cut = cut ∙ is_line.cut; commands = rw commands (is_line.commands); answers = rw answers (read.rest); core = is_line.core ∙ ap (λ x. Some x) (sym core) }

  view_seat : (t' : Table) (s : Seat) → incarnation_of t' ≡ incarnation_of t → s.connected ≡ true → s.cut ≡ (w.seats k).cut → s.commands ≡ (w.seats k).commands → s.answers ≡ read.more → s.core ≡ (w.seats k).core → IsTable t' (with_seat w k s) → IsView counts t' session (put lines k (Some (line_read l left))) (with_seat w k s)
  view_seat t' s same c cut commands answers core table = record { table = table; donor = rw same (donor_as (incarnation_of t) session w (with_seat w k s) refl refl refl refl h.view.donor); seats = seats_put (IsSeat counts (list_in session)) lines w.seats k (Some (line_read l left)) s h.view.seats (line_left s c cut commands answers core) }

  -- ---- an END

  pub took_end : (stage : CopyStage) → answer_of counts got ≡ Some (End (copy_number stage)) → awaits_end_of t k stage ≡ true → Follows counts (served t k) session (put lines k (Some (line_read l left))) w
  took_end stage is awaits = (with_seat w k (takes_end (w.seats k) read.more), ends k read.more (hears Fetching (End w.sides.stage) fetching (is ∙ ap (λ n. Some (End n)) number)), view_seat (served t k) (takes_end (w.seats k) read.more) refl is_line.connected refl refl refl refl (table_ends t w k read.more h.view.table h.within is_line.connected))
    where
      fetching : standing_of t k ≡ Fetching
      fetching = fetching_is (standing_of t k) (and_parts (awaits_end (standing_of t k)) (is_in t.phase (copying stage)) awaits).0

      number : copy_number stage ≡ w.sides.stage
      number = in_number t.phase stage (and_parts (awaits_end (standing_of t k)) (is_in t.phase (copying stage)) awaits).1 ∙ sym h.view.table.stage

  -- ---- a STAGE

  module _ (at : Stage) (is : answer_of counts got ≡ Some (StageAnswer (stage_number at))) (awaits : awaits_stage t k at ≡ true) where
    -- that leaves the recipient where it is
    pub took_stage : moves t k ≡ false → Follows counts (joined_by t k) session (put lines k (Some (line_read l left))) w
    took_stage stays = go (cases_eq k 0)
      where
        joining_is : standing_of t k ≡ Joining
        joining_is = stays_is (standing_of t k) t.phase k at awaits stays

        heard : Hears w k ForFirst (StageAnswer (stage_number at)) read.more
        heard = hears Joining (StageAnswer (stage_number at)) joining_is is

        begun : k ≡ 0 → 0 < w.sides.stage
        begun z = rw (h.view.table.stage) (begun_number t.phase (closed (cases_Bool (is_opening t.phase))))
          where
            closed : (is_opening t.phase ≡ true) ⊎ (is_opening t.phase ≡ false) → is_opening t.phase ≡ false
            closed (inl g) = cc (rw joining_is at stays, and_from (k == 0) (is_opening t.phase) (eq-eqb k 0 z) g)
            closed (inr g) = g

        stage_is : k ≡ 0 → (stage_number at ≡ w.sides.stage) ⊎ (stage_number at ≡ suc w.sides.stage)
        stage_is z = rw (h.view.table.stage) (comes_back t.phase k at z (rw joining_is at awaits))

        own : IsLine counts (list_in session) (line_read l left) (takes_stage (w.seats k) read.more)
        own = line_left (takes_stage (w.seats k) read.more) is_line.connected refl refl refl refl

        go : (k ≡ 0) ⊎ (k ≢ 0) → Follows counts (joined_by t k) session (put lines k (Some (line_read l left))) w
        go (inr other) = (with_seat w k (takes_stage (w.seats k) read.more), attaches k (stage_number at) read.more other heard, view_seat (joined_by t k) (takes_stage (w.seats k) read.more) refl is_line.connected refl refl refl refl (table_attaches t w k read.more h.view.table h.within other joining_is))
        go (inl z) = subst (λ i. Follows counts (joined_by t i) session (put lines i (Some (line_read l left))) w) (sym z) (joining w read.more, joins (stage_number at) read.more (subst (λ i. Hears w i ForFirst (StageAnswer (stage_number at)) read.more) z heard) (begun z) (stage_is z), record { table = table_joins t w read.more h.view.table (subst (λ i. i < length t.standings) z h.within) (subst (λ i. standing_of t i ≡ Joining) z joining_is); donor = donor_as (incarnation_of t) session w (joining w read.more) refl refl refl refl h.view.donor; seats = seats_put (IsSeat counts (list_in session)) lines w.seats 0 (Some (line_read l left)) (takes_stage (w.seats 0) read.more) h.view.seats (subst (λ i. IsLine counts (list_in session) (line_read l left) (takes_stage (w.seats i) read.more)) z own) })

    -- that moves it to a stage of which these are the chunks
    module _ (phase : Phase) (marks : List ChunkMarks) (standings : AreStandings t.standings t.marks) (next : phase_number phase ≡ suc (phase_number t.phase)) (chunks : All IsChunk marks) (size : w.sides.size (suc w.sides.stage) ≡ places (blocks_of marks)) (none : (chunk block : ℕ) → is_taken marks chunk block ≡ false) where
      moved_view : k ≡ 0 → IsView counts (begins phase marks t) session (put lines k (Some (line_read l left))) (advancing w read.more)
      moved_view z = subst (λ i. IsView counts (begins phase marks t) session (put lines i (Some (line_read l left))) (advancing w read.more)) (sym z) (record { table = table_advances t w phase marks read.more h.view.table (subst (λ i. i < length t.standings) z h.within) (subst (λ i. (w.seats i).connected ≡ true) z is_line.connected) next chunks size none; donor = donor_as (incarnation_of t) session w (advancing w read.more) refl refl refl refl h.view.donor; seats = seats_put (IsSeat counts (list_in session)) lines (λ j. unended (w.seats j)) 0 (Some (line_read l left)) (unended (takes_stage (w.seats 0) read.more)) (λ j. unended_seat counts (list_in session) (lines j) (w.seats j) (h.view.seats j)) (subst (λ i. IsLine counts (list_in session) (line_read l left) (unended (takes_stage (w.seats i) read.more))) z (line_left (unended (takes_stage (w.seats k) read.more)) is_line.connected refl refl refl refl)) })

      below : phase_number t.phase < 4
      below = let few : phase_number phase ≤ 4 = phase_few phase in omega (arith, next, few)

      pub moved_stage : moves t k ≡ true → Follows counts (begins phase marks t) session (put lines k (Some (line_read l left))) w
      moved_stage moving = go (moves_is (standing_of t k) t.phase k at awaits moving)
        where
          go : AnswersInit (standing_of t k) t.phase k at ⊎ AnswersAck (standing_of t k) t.phase at → Follows counts (begins phase marks t) session (put lines k (Some (line_read l left))) w
          go (inl a) = (advancing w read.more, opens read.more (subst (λ i. Hears w i ForFirst (StageAnswer 1) read.more) a.first (hears Joining (StageAnswer 1) a.joining (is ∙ ap (λ n. Some (StageAnswer n)) a.stage))) (h.view.table.stage ∙ opening_number t.phase a.opening), moved_view a.first)
          go (inr a) = (advancing w read.more, advances read.more (subst (λ i. Hears w i ForStage (StageAnswer (suc w.sides.stage)) read.more) zero_is (hears Acknowledging (StageAnswer (suc w.sides.stage)) a.acknowledging (is ∙ ap (λ n. Some (StageAnswer n)) number))) (subst (λ n. n < 4) (sym h.view.table.stage) below), moved_view zero_is)
            where
              zero_is : k ≡ 0
              zero_is = (subst (λ x. MayStand x k t.marks) a.acknowledging (standings.each k)).0

              number : stage_number at ≡ suc w.sides.stage
              number = a.stage ∙ next_number t.phase below ∙ ap suc (sym h.view.table.stage)

  -- ---- a block

  pub took_block : (stage : CopyStage) (chunk block : ℕ) (new : Table) → answer_of counts got ≡ Some (Block (copy_number stage) (place_of (blocks_of t.marks) chunk block)) → awaits_block t k stage chunk block ≡ true → HasTaken t chunk block new → All IsChunk new.marks → Follows counts new session (put lines k (Some (line_read l left))) w
  took_block stage chunk block new is awaits taken chunks = (taking w k place read.more, takes_block k place read.more (hears Fetching (Block w.sides.stage place) fetching (is ∙ ap (λ n. Some (Block n place)) number)) small untaken, record { table = table_takes t new w k chunk block read.more h.view.table taken there.0 chunks; donor = rw (ap incarnation_of taken.else_same) (donor_as (incarnation_of t) session w (taking w k place read.more) refl refl refl refl h.view.donor); seats = seats_put (IsSeat counts (list_in session)) lines w.seats k (Some (line_read l left)) (record (w.seats k) { answers = read.more }) h.view.seats (line_left (record (w.seats k) { answers = read.more }) is_line.connected refl refl refl refl) })
    where
      place : ℕ
      place = place_of (blocks_of t.marks) chunk block

      parts : (awaits_end_of t k stage ≡ true) × (is_left t.marks chunk block ≡ true)
      parts = and_parts (awaits_end_of t k stage) (is_left t.marks chunk block) awaits

      fetching : standing_of t k ≡ Fetching
      fetching = fetching_is (standing_of t k) (and_parts (awaits_end (standing_of t k)) (is_in t.phase (copying stage)) parts.0).0

      number : copy_number stage ≡ w.sides.stage
      number = in_number t.phase stage (and_parts (awaits_end (standing_of t k)) (is_in t.phase (copying stage)) parts.0).1 ∙ sym h.view.table.stage

      there : (block < slice_index (blocks_of t.marks) chunk) × (is_taken t.marks chunk block ≡ false)
      there = left_there t.marks chunk block parts.1

      small : place_of (blocks_of t.marks) chunk block < w.sides.size w.sides.stage
      small = subst (λ n. place_of (blocks_of t.marks) chunk block < n) (sym h.view.table.size) (place_small (blocks_of t.marks) chunk block there.0)

      untaken : w.sides.taken (place_of (blocks_of t.marks) chunk block) ≡ false
      untaken = h.view.table.taken (place_of (blocks_of t.marks) chunk block) small ∙ taken_place t.marks chunk block there.0 ∙ there.1

-- ---- A LOSS

lost_donor : (t : Table) (session : Option Session) (w u : World) → ((s : Session) → session ≡ Some s → s.incarnation ≤ incarnation_of t) → u.sides.met ≡ false → u.sides.at ≡ w.sides.at → u.sides.size ≡ w.sides.size → u.sides.owner ≡ w.sides.owner → IsDonor (incarnation_of t) session w → IsDonor (incarnation_of (after_loss t)) session u
lost_donor t None w u known met at size owner d = (met, at ∙ d.1)
lost_donor t (Some s) w u known met at size owner d = record { met = met ∙ sym (ne_eqb s.incarnation (incarnation_of (after_loss t)) (λ e. let most : s.incarnation ≤ t.losses + 1 = known s refl in omega (arith, e, most))); at = at ∙ d.at; size = rw (size, at) (d.size); owner = λ chunk block small. rw owner (d.owner chunk block small) }

pub found_loss : (counts : ℕ → List ℕ) (t : Table) (session : Option Session) (lines : ℕ → Option Line) (w : World) (k late : ℕ) (l : Line) → IsView counts t session lines w → is_running t ≡ true → sending_rule t k ≡ rule.Receive → lines k ≡ Some l → l.answers ≡ [] → l.cut ≡ true → is_spent (after_loss t) ≡ false → ((s : Session) → session ≡ Some s → s.incarnation ≤ incarnation_of t) → (u : World) × TaskStep w u × IsView counts (after_loss t) session (λ j. None) u × (u.late ≡ late)
found_loss counts t session lines w k late l v running rule_is line unread cut outlasts known = (losing w taken late, loses k lost few taken late (table_forgets t w v.table), record { table = table_loses t w late v.table; donor = lost_donor t session w (losing w taken late) known refl refl refl refl v.donor; seats = λ j. refl }, refl)
  where
    taken : ℕ → Bool
    taken = taken_at (forgotten (kept_in t.version) t.marks)

    is_line : IsLine counts (list_in session) l (w.seats k)
    is_line = subst (λ x. IsSeat counts (list_in session) x (w.seats k)) line (v.seats k)

    receives_now : Receives w k
    receives_now = subst (λ r. Applies r w k) rule_is (applies t w k v.table running)

    nothing_unread : (answers : List Answer) → AreAnswers counts [] answers → answers ≡ []
    nothing_unread [] e = refl
    nothing_unread (x ∷ more) e = cc

    lost : Loses w k
    lost = record { linked = receives_now.linked; part = receives_now.part; awaits = receives_now.awaits; none = nothing_unread (w.seats k).answers (subst (λ x. AreAnswers counts x (w.seats k).answers) unread is_line.answers); cut = is_line.cut ∙ cut }

    few : w.losses < w.limit
    few = let more : t.losses + 1 ≤ t.limit = ltb-false t.limit (t.losses + 1) outlasts in omega (arith, more, v.table.losses, v.table.limit)

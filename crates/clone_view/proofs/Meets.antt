-- A donor takes up an incarnation, or moves to the next stage: these are steps of the rounds.
use Rattle.std.proofs.Common.{◌≡◌, ◌≢◌, ◌<◌, ◌≤◌, ℕ, zero, suc, true, false, List, [], ◌∷◌, Option, Some, None, length, replicate, refl, sym, ap, subst, ◌∙◌, arith, inl, inr, ◌⊎◌}
use Rattle.std.specs.Prelude.{◌==◌, slice_get, slice_index}
use Rattle.std.proofs.lemmas.Bool.{cases_eq, cases_lt, eq-eqb}
use Rattle.std.proofs.lemmas.List.{get_or_past}
use Rattle.std.proofs.lemmas.Nat.Bits.{bit_at-zero}
use Rattle.clone_chunk.specs.Chunks.{is_kept}
use Rattle.clone_chunk.specs.Stages.{copy_number}
use Rattle.clone_chunk.specs.declared.chunk.Chunk.TheVariants as chunk
use Rattle.clone_snapshot.specs.StageLists.{StageList, block_count, chunk_count}
use Rattle.clone_marks.specs.Counts.{block_counts}
use Rattle.clone_marks.proofs.RunLemmas.{counts_at, counts_long}
use Rattle.clone_session.specs.Cloning.{Session}
use Rattle.clone_session.specs.CloneCauses.{donor_stage}
use Rattle.clone_session.specs.Effects.{begun}
use Rattle.clone_session.specs.declared.caller.Caller.{Caller}
use Rattle.clone_serve.specs.declared.doing.Doing.{Doing}
use Rattle.clone_serve.specs.declared.doing.Doing.TheVariants as doing
use Rattle.clone_serve.specs.declared.doing.Work.TheVariants.{Claim, Weigh, Read, Archive}
use Rattle.clone_tasks.specs.Tables.{Table, standing_of, incarnation_of}
use Rattle.clone_wire.specs.declared.frame.Frame.{Frame}
use Rattle.clone_rounds.specs.World.{First, New, Acknowledge, Stage as StageAnswer, Core, Ready, Serving, Owner, Free, Seat, World, NoneLeft, put, IsServing}
use Rattle.clone_rounds.specs.Awaiting.{Rule}
use Rattle.clone_rounds.specs.Steps.{answering, kept_of, meeting, agreeing, Reads, DonorStep, meets_here, meets_next, agrees}
use Rattle.clone_rounds.proofs.Fitting.{all_fit}
use Rattle.clone_rounds.proofs.Puts.{put_all, put_other}
use Rattle.clone_rounds.proofs.Talks.{idle_of, Unread, asked_of}
use Rattle.clone_view.specs.Rows.{places}
use Rattle.clone_view.specs.Tables.{IsStanding}
use Rattle.clone_view.specs.Frames.{command_of, answer_of, AreCommands}
use Rattle.clone_view.specs.Donors.{core_of, rest_at, Owns, AreOwned}
use Rattle.clone_view.specs.Views.{Line, IsLine, IsSeat, list_in, IsView, IsAt, line_answered, Leads}
use Rattle.clone_view.proofs.ViewSteps.{seats_put, line_none}
use Rattle.clone_view.proofs.DonorSteps.{one_command, answers_sent, own_line, reads_now}

-- task 0 is answered by a STAGE
line_told : (counts : ℕ → List ℕ) (list now : StageList) (l : Line) (s : Seat) (caller : Caller) (stage : ℕ) (next : Frame) → IsLine counts list l s → answer_of counts next ≡ Some (StageAnswer stage) → IsLine counts now (line_answered l (doing.Ready caller) next) (answering s stage)
line_told counts list now l s caller stage next is says = record { connected = is.connected; cut = is.cut; commands = refl; answers = rw (is.cut) (answers_sent counts l.cut l.answers s.answers next (StageAnswer stage) is.answers says); core = refl }

-- ---- INIT AND REINIT

met : (counts : ℕ → List ℕ) (t : Table) (session : Option Session) (s : Session) (lines : ℕ → Option Line) (w : World) (l : Line) (next : Frame) (caller : Caller) (owner : ℕ → Owner) → IsView counts t session lines w → Rule w → w.sides.met ≡ false → lines 0 ≡ Some l → DonorStep w (meeting w (donor_stage s) owner) → s.incarnation ≡ incarnation_of t → w.sides.size (donor_stage s) ≡ places (block_counts s.snap.list) → AreOwned s owner → answer_of counts next ≡ Some (StageAnswer (donor_stage s)) → Leads counts t s (put lines 0 (Some (line_answered l (doing.Ready caller) next))) w
met counts t session s lines w l next caller owner v r apart line step present size owned says = (meeting w (donor_stage s) owner, step, record { table = record { some = v.table.some; tasks = v.table.tasks; limit = v.table.limit; losses = v.table.losses; stage = v.table.stage; joined = v.table.joined; chunks = v.table.chunks; size = v.table.size; taken = v.table.taken; seats = put_all (λ j y. IsStanding (standing_of t j) y) w.seats 0 (answering (w.seats 0) (donor_stage s)) (λ j other. v.table.seats j) (record { connected = (v.table.seats 0).connected; awaits = (v.table.seats 0).awaits; ended = (v.table.seats 0).ended }) }; donor = record { met = sym (eq-eqb s.incarnation (incarnation_of t) present); at = refl; size = size; owner = owned }; seats = seats })
  where
    own : IsLine counts (list_in session) l (w.seats 0)
    own = subst (λ x. IsSeat counts (list_in session) x (w.seats 0)) line (v.seats 0)

    -- the others aren't connected yet
    other_seat : (j : ℕ) → j ≢ 0 → IsSeat counts s.snap.list (lines j) (w.seats j)
    other_seat j other = rw (line_none counts (list_in session) (lines j) (w.seats j) (v.seats j) away) ((r.seats j).absent away)
      where
        away : (w.seats j).connected ≡ false
        away = (r.seats j).may.follows other (r.sides.apart apart).0

    seats : (j : ℕ) → IsSeat counts s.snap.list (put lines 0 (Some (line_answered l (doing.Ready caller) next)) j) (put w.seats 0 (answering (w.seats 0) (donor_stage s)) j)
    seats j = at (cases_eq j 0)
      where
        at : (j ≡ 0) ⊎ (j ≢ 0) → IsSeat counts s.snap.list (put lines 0 (Some (line_answered l (doing.Ready caller) next)) j) (put w.seats 0 (answering (w.seats 0) (donor_stage s)) j)
        at (inl z) = subst (λ i. IsSeat counts s.snap.list (put lines 0 (Some (line_answered l (doing.Ready caller) next)) i) (put w.seats 0 (answering (w.seats 0) (donor_stage s)) i)) (sym z) (line_told counts (list_in session) s.snap.list l (w.seats 0) caller (donor_stage s) next own says)
        at (inr other) = rw (put_other lines 0 (Some (line_answered l (doing.Ready caller) next)) j other, put_other w.seats 0 (answering (w.seats 0) (donor_stage s)) j other) (other_seat j other)

-- the first command of task 0 is read
first_read : (counts : ℕ → List ℕ) (t : Table) (session : Option Session) (lines : ℕ → Option Line) (w : World) (l : Line) (command : Frame) → IsView counts t session lines w → lines 0 ≡ Some l → l.doing ≡ doing.New → l.commands ≡ command ∷ [] → command_of command ≡ Some First → Reads w 0 First New
first_read counts t session lines w l command v line new unread is = record { linked = record { task = rw (v.table.tasks) (v.table.some); connected = own.connected }; front = one_command command First (w.seats 0).commands (subst (λ x. AreCommands x (w.seats 0).commands) unread own.commands) is; core = core_new (subst (λ d. core_of (list_in session) d ≡ Some (w.seats 0).core) new own.core) }
  where
    own : IsLine counts (list_in session) l (w.seats 0)
    own = subst (λ x. IsSeat counts (list_in session) x (w.seats 0)) line (v.seats 0)

    core_new : Some New ≡ Some (w.seats 0).core → (w.seats 0).core ≡ New
    core_new e = cc

pub met_here : (counts : ℕ → List ℕ) (t : Table) (session : Option Session) (s : Session) (lines : ℕ → Option Line) (w : World) (l : Line) (command next : Frame) (caller : Caller) → IsView counts t session lines w → Rule w → w.sides.met ≡ false → lines 0 ≡ Some l → l.doing ≡ doing.New → l.commands ≡ command ∷ [] → command_of command ≡ Some First → s.incarnation ≡ incarnation_of t → w.sides.at ≡ w.sides.stage → 0 < w.sides.at → donor_stage s ≡ w.sides.at → w.sides.size (donor_stage s) ≡ places (block_counts s.snap.list) → AreOwned s (λ place. kept_of (w.sides.taken place)) → answer_of counts next ≡ Some (StageAnswer (donor_stage s)) → Leads counts t s (put lines 0 (Some (line_answered l (doing.Ready caller) next))) w
met_here counts t session s lines w l command next caller v r apart line new unread is present level some at size owned says = met counts t session s lines w l next caller (λ b. kept_of (w.sides.taken b)) v r apart line (subst (λ n. DonorStep w (meeting w n (λ b. kept_of (w.sides.taken b)))) (sym at) (meets_here (first_read counts t session lines w l command v line new unread is) apart level some)) present size owned says

pub met_next : (counts : ℕ → List ℕ) (t : Table) (session : Option Session) (s : Session) (lines : ℕ → Option Line) (w : World) (l : Line) (command next : Frame) (caller : Caller) → IsView counts t session lines w → Rule w → w.sides.met ≡ false → lines 0 ≡ Some l → l.doing ≡ doing.New → l.commands ≡ command ∷ [] → command_of command ≡ Some First → s.incarnation ≡ incarnation_of t → (w.sides.at ≡ suc w.sides.stage) ⊎ ((w.sides.at ≡ 0) × (w.sides.stage ≡ 0)) → donor_stage s ≡ suc w.sides.stage → w.sides.size (donor_stage s) ≡ places (block_counts s.snap.list) → AreOwned s (λ place. Free) → answer_of counts next ≡ Some (StageAnswer (donor_stage s)) → Leads counts t s (put lines 0 (Some (line_answered l (doing.Ready caller) next))) w
met_next counts t session s lines w l command next caller v r apart line new unread is present ahead at size owned says = met counts t session s lines w l next caller (λ b. Free) v r apart line (subst (λ n. DonorStep w (meeting w n (λ b. Free))) (sym at) (meets_next (first_read counts t session lines w l command v line new unread is) apart ahead)) present size owned says

-- ---- THE FIRST ACKNOWLEDGEMENT OF A STAGE

-- what is done on a line doesn't depend on the stage, unless an EXECUTE is served
core_moved : (list now : StageList) (d : Doing) (core : Core) → core_of list d ≡ Some core → (IsServing core → ⊥) → core_of now d ≡ Some core
core_moved list now doing.New core e idle = e
core_moved list now (doing.Ready caller) core e idle = e
core_moved list now (doing.Telling caller) core e idle = cc
core_moved list now (doing.Starting run) core e idle = cc
core_moved list now doing.Leaving core e idle = cc
core_moved list now (doing.Serving run Claim) core e idle = absurd (idle (serves core e))
  where
    serves : (x : Core) → Some (Serving (copy_number run.stage) []) ≡ Some x → IsServing x
    serves x f = let same : Serving (copy_number run.stage) [] ≡ x = cc in subst IsServing same tt
core_moved list now (doing.Serving run (Weigh chunk)) core e idle = cc
core_moved list now (doing.Serving run (Read place again)) core e idle = absurd (idle (serves core e))
  where
    serves : (x : Core) → Some (Serving (copy_number run.stage) (rest_at list place)) ≡ Some x → IsServing x
    serves x f = let same : Serving (copy_number run.stage) (rest_at list place) ≡ x = cc in subst IsServing same tt
core_moved list now (doing.Serving run (Archive place limit)) core e idle = cc
core_moved list now doing.Over core e idle = e

pub agreed : (counts : ℕ → List ℕ) (t : Table) (s now : Session) (lines : ℕ → Option Line) (w : World) (l : Line) (command next : Frame) (caller : Caller) → IsAt counts t s lines w 0 l (doing.Ready caller) (command ∷ []) → Rule w → command_of command ≡ Some (Acknowledge (donor_stage s)) → now.incarnation ≡ s.incarnation → donor_stage now ≡ suc (donor_stage s) → w.sides.size (donor_stage now) ≡ places (block_counts now.snap.list) → AreOwned now (λ place. Free) → answer_of counts next ≡ Some (StageAnswer (donor_stage now)) → Leads counts t now (put lines 0 (Some (line_answered l (doing.Ready caller) next))) w
agreed counts t s now lines w l command next caller h r is same ahead size owned says = (agreeing w, agrees (subst (λ n. Reads w 0 (Acknowledge n) Ready) (sym h.view.donor.at) reading) none_left, record { table = record { some = h.view.table.some; tasks = h.view.table.tasks; limit = h.view.table.limit; losses = h.view.table.losses; stage = h.view.table.stage; joined = h.view.table.joined; chunks = h.view.table.chunks; size = h.view.table.size; taken = h.view.table.taken; seats = put_all (λ j y. IsStanding (standing_of t j) y) w.seats 0 (answering (w.seats 0) (suc w.sides.at)) (λ j other. h.view.table.seats j) (record { connected = (h.view.table.seats 0).connected; awaits = (h.view.table.seats 0).awaits; ended = (h.view.table.seats 0).ended }) }; donor = record { met = h.view.donor.met ∙ ap (λ n. n == incarnation_of t) (sym same); at = at_is; size = rw at_is size; owner = owned }; seats = seats })
  where
    reading : Reads w 0 (Acknowledge (donor_stage s)) Ready
    reading = reads_now counts t s lines w 0 l (doing.Ready caller) (command ∷ []) h (doing.Ready caller) Ready command (Acknowledge (donor_stage s)) refl refl refl is

    at_is : suc w.sides.at ≡ donor_stage now
    at_is = ap suc h.view.donor.at ∙ sym ahead

    none_left : NoneLeft w.sides
    none_left = sent_all ((all_fit w r).commands 0 (Acknowledge (donor_stage s)) [] reading.front).0.2
      where
        sent_all : ((donor_stage s ≡ w.sides.at) × NoneLeft w.sides) ⊎ (suc (donor_stage s) ≡ w.sides.at) → NoneLeft w.sides
        sent_all (inl e) = e.1
        sent_all (inr e) = absurd (omega (arith, e, h.view.donor.at))

    asked : Unread w.sides (w.seats 0) (Acknowledge (donor_stage s)) []
    asked = asked_of w.sides 0 (w.seats 0) (Acknowledge (donor_stage s)) [] ((r.seats 0).talk reading.linked.connected) reading.front

    acknowledged : w.sides.acknowledged ≡ true
    acknowledged = ((r.seats 0).may.acknowledges asked.2.0).1

    other_seat : (j : ℕ) → IsSeat counts now.snap.list (lines j) (w.seats j)
    other_seat j = at (lines j) (h.view.seats j)
      where
        at : (x : Option Line) → IsSeat counts s.snap.list x (w.seats j) → IsSeat counts now.snap.list x (w.seats j)
        at None e = e
        at (Some x) e = record { connected = e.connected; cut = e.cut; commands = e.commands; answers = e.answers; core = core_moved s.snap.list now.snap.list x.doing (w.seats j).core e.core (idle_of w.sides j (w.seats j) ((r.seats j).talk e.connected) ((r.seats j).may.endless acknowledged)) }

    seats : (j : ℕ) → IsSeat counts now.snap.list (put lines 0 (Some (line_answered l (doing.Ready caller) next)) j) (put w.seats 0 (answering (w.seats 0) (suc w.sides.at)) j)
    seats = seats_put (IsSeat counts now.snap.list) lines w.seats 0 (Some (line_answered l (doing.Ready caller) next)) (answering (w.seats 0) (suc w.sides.at)) other_seat (line_told counts s.snap.list now.snap.list l (w.seats 0) caller (suc w.sides.at) next (own_line counts t s lines w 0 l (doing.Ready caller) (command ∷ []) h) (says ∙ ap (λ n. Some (StageAnswer n)) (sym at_is)))

-- ---- a stage of which nothing was sent yet

index_none : (n i : ℕ) → slice_index (replicate n 0) i ≡ 0
index_none zero i = refl
index_none (suc n) zero = refl
index_none (suc n) (suc i) = index_none n i

get_free : (n i : ℕ) → i < n → slice_get (replicate n chunk.Free) i ≡ Some chunk.Free
get_free zero i h = absurd (omega (arith, h))
get_free (suc n) zero h = refl
get_free (suc n) (suc i) h = get_free n i (omega (arith, h))

begun_owns : (list : StageList) (i block : ℕ) → block < block_count list i → Owns (is_kept (slice_index (begun list).kept i) block) (slice_get (begun list).chunks i) Free
begun_owns list i block small = rw (index_none (chunk_count list) i, get_free (chunk_count list) i within) (subst (λ b. Owns b (Some chunk.Free) Free) (sym unkept) refl)
  where
    unkept : is_kept 0 block ≡ false
    unkept = rw (bit_at-zero block) refl

    within : i < chunk_count list
    within = at (cases_lt i (chunk_count list))
      where
        at : (i < chunk_count list) ⊎ (chunk_count list ≤ i) → i < chunk_count list
        at (inl h) = h
        at (inr past) =
            let long : length (block_counts list) ≡ chunk_count list = counts_long list in
            let none : slice_index (block_counts list) i ≡ 0 = get_or_past (block_counts list) i 0 (omega (arith, long, past)) in
            let count : slice_index (block_counts list) i ≡ block_count list i = counts_at list i in
            absurd (omega (arith, none, count, small))

pub begun_owned : (s : Session) (list : StageList) → s.snap ≡ begun list → AreOwned s (λ place. Free)
begun_owned s list e i block small = subst (λ snap. Owns (is_kept (slice_index snap.kept i) block) (slice_get snap.chunks i) Free) (sym e) (begun_owns list i block (subst (λ snap. block < block_count snap.list i) e small))

-- A donor's step is a step of the rounds.
use Rattle.std.proofs.Common.{◌≡◌, ◌≢◌, ◌<◌, ℕ, suc, Bool, true, false, List, [], ◌∷◌, Option, Some, None, refl, sym, ap, subst, ◌∙◌, inl, inr}
use Rattle.std.specs.Prelude.{slice_get, slice_index, if◌then◌else◌}
use Rattle.std.specs.List.{All}
use Rattle.std.proofs.lemmas.Bool.{eq-eqb}
use Rattle.std.proofs.lemmas.List.Elements.{All-get_or}
use Rattle.std.proofs.lemmas.Option.{slice_get_within, get_or_from_slice_get}
use Rattle.clone_chunk.specs.Chunks.{IsTaken, is_kept}
use Rattle.clone_chunk.specs.Stages.{copy_number}
use Rattle.clone_chunk.specs.declared.chunk.Chunk.{Chunk}
use Rattle.clone_chunk.specs.declared.chunk.Chunk.TheVariants as chunk
use Rattle.clone_marks.specs.Counts.{block_counts}
use Rattle.clone_marks.proofs.RunLemmas.{counts_at}
use Rattle.clone_session.specs.Cloning.{Session}
use Rattle.clone_session.specs.CloneCauses.{donor_stage}
use Rattle.clone_session.specs.declared.caller.Caller.{Caller}
use Rattle.clone_serve.specs.declared.doing.Doing.{Doing}
use Rattle.clone_serve.specs.declared.doing.Doing.TheVariants as doing
use Rattle.clone_serve.specs.declared.doing.Execution.{Execution}
use Rattle.clone_serve.specs.declared.doing.Work.TheVariants.{Claim}
use Rattle.clone_tasks.specs.Tables.{Table, standing_of, incarnation_of}
use Rattle.clone_wire.specs.declared.frame.Frame.{Frame}
use Rattle.clone_rounds.specs.World.{Command, First, Execute, Acknowledge, Answer, Stage as StageAnswer, End, Core, New, Ready, Serving, Over, Free, Seat, World, IsLinked, put, with_seat, IsServing, IsLive}
use Rattle.clone_rounds.specs.Steps.{sends, after_call, answering, starting, end_sent, closing, Reads, DonorStep, welcomes, starts, repeats, finishes, fails, finds_loss}
use Rattle.clone_rounds.proofs.Puts.{put_all}
use Rattle.clone_view.specs.Tables.{IsStanding}
use Rattle.clone_view.specs.Frames.{command_of, answer_of, AreCommands, AreAnswers}
use Rattle.clone_view.specs.Donors.{core_of, MayOwn, Owns}
use Rattle.clone_view.specs.Views.{Line, IsLine, IsSeat, IsView, IsAt, line_answered, line_started, line_served, line_closed, line_over, Leads}
use Rattle.clone_view.proofs.Rows.{IsPlace, place_at}
use Rattle.clone_view.proofs.ViewSteps.{donor_as, seats_put, map_more}

-- ---- what lies unread

pub one_command : (command : Frame) (c : Command) (commands : List Command) → AreCommands (command ∷ []) commands → command_of command ≡ Some c → commands ≡ c ∷ []
one_command command c [] h e = cc (h)
one_command command c (x ∷ []) h e = cc (h, e)
one_command command c (x ∷ y ∷ more) h e = cc (h)

no_command : (commands : List Command) → AreCommands [] commands → commands ≡ []
no_command [] h = refl
no_command (x ∷ more) h = cc (h)

pub answers_sent : (counts : ℕ → List ℕ) (cut : Bool) (frames : List Frame) (answers : List Answer) (next : Frame) (x : Answer) → AreAnswers counts frames answers → answer_of counts next ≡ Some x → AreAnswers counts (sends cut frames next) (sends cut answers x)
answers_sent counts true frames answers next x are is = are
answers_sent counts false frames answers next x are is = map_more (answer_of counts) frames next ∙ rw (are, is) (sym (map_more (λ y. Some y) answers x))

chunk_taken : (chunks : List Chunk) (i : ℕ) (c : Chunk) → All IsTaken chunks → slice_get chunks i ≡ Some c → IsTaken c
chunk_taken chunks i c all at = subst IsTaken (get_or_from_slice_get chunks i c c at) (All-get_or IsTaken chunks i c (slice_get_within chunks i c at) all)

module _ (counts : ℕ → List ℕ) (t : Table) (s : Session) (lines : ℕ → Option Line) (w : World) (k : ℕ) (l : Line) (now : Doing) (unread : List Frame) (h : IsAt counts t s lines w k l now unread) where
  pub own_line : IsLine counts s.snap.list l (w.seats k)
  own_line = subst (λ x. IsSeat counts s.snap.list x (w.seats k)) h.line (h.view.seats k)

  pub linked : IsLinked w k
  linked = record { task = subst (λ n. k < n) (sym h.view.table.tasks) h.task; connected = own_line.connected }

  pub core_is : (d : Doing) (core : Core) → now ≡ d → core_of s.snap.list d ≡ Some core → (w.seats k).core ≡ core
  core_is d core e is =
      let own : core_of s.snap.list d ≡ Some (w.seats k).core = subst (λ x. core_of s.snap.list x ≡ Some (w.seats k).core) (h.doing ∙ e) own_line.core in
      cc (own, is)

  front_is : (command : Frame) (c : Command) → unread ≡ command ∷ [] → command_of command ≡ Some c → (w.seats k).commands ≡ c ∷ []
  front_is command c e is = one_command command c (w.seats k).commands (subst (λ x. AreCommands x (w.seats k).commands) (h.commands ∙ e) own_line.commands) is

  -- a command is carried out
  pub reads_now : (d : Doing) (core : Core) (command : Frame) (c : Command) → now ≡ d → core_of s.snap.list d ≡ Some core → unread ≡ command ∷ [] → command_of command ≡ Some c → Reads w k c core
  reads_now d core command c e is f says = record { linked = linked; front = front_is command c f says; core = core_is d core e is }

  -- the seat alone has changed, and not where the task stands
  leads : (x : Seat) (next : Line) → IsStanding (standing_of t k) x → IsLine counts s.snap.list next x → IsView counts t (Some s) (put lines k (Some next)) (with_seat w k x)
  leads x next is line = record { table = record { some = h.view.table.some; tasks = h.view.table.tasks; limit = h.view.table.limit; losses = h.view.table.losses; stage = h.view.table.stage; joined = h.view.table.joined; chunks = h.view.table.chunks; size = h.view.table.size; taken = h.view.table.taken; seats = put_all (λ j y. IsStanding (standing_of t j) y) w.seats k x (λ j other. h.view.table.seats j) is }; donor = donor_as (incarnation_of t) (Some s) w (with_seat w k x) refl refl refl refl h.view.donor; seats = seats_put (IsSeat counts s.snap.list) lines w.seats k (Some next) x h.view.seats line }

  pub standing : IsStanding (standing_of t k) (w.seats k)
  standing = h.view.table.seats k

  -- a STAGE is answered
  answered : (caller : Caller) (stage : ℕ) (next : Frame) → answer_of counts next ≡ Some (StageAnswer stage) → IsView counts t (Some s) (put lines k (Some (line_answered l (doing.Ready caller) next))) (with_seat w k (answering (w.seats k) stage))
  answered caller stage next is = leads (answering (w.seats k) stage) (line_answered l (doing.Ready caller) next) (record { connected = standing.connected; awaits = standing.awaits; ended = standing.ended }) (record { connected = own_line.connected; cut = own_line.cut; commands = refl; answers = rw (own_line.cut) (answers_sent counts l.cut l.answers (w.seats k).answers next (StageAnswer stage) own_line.answers is); core = refl })

  -- a disk fault
  pub closed : IsServing (w.seats k).core → Leads counts t s (put lines k (Some (line_closed l))) w
  closed serving = (with_seat w k (closing (w.seats k)), fails k (record { linked = linked; serving = serving }), leads (closing (w.seats k)) (line_closed l) (record { connected = standing.connected; awaits = standing.awaits; ended = standing.ended }) (record { connected = own_line.connected; cut = refl; commands = refl; answers = own_line.answers; core = refl }))

  -- ---- commands

  pub attached : (command next : Frame) (caller : Caller) → now ≡ doing.New → unread ≡ command ∷ [] → k ≢ 0 → command_of command ≡ Some First → s.incarnation ≡ incarnation_of t → answer_of counts next ≡ Some (StageAnswer (donor_stage s)) → Leads counts t s (put lines k (Some (line_answered l (doing.Ready caller) next))) w
  attached command next caller e f other is present says = (with_seat w k (answering (w.seats k) w.sides.at), welcomes k other (reads_now doing.New New command First e refl f is) (h.view.donor.met ∙ eq-eqb s.incarnation (incarnation_of t) present), answered caller w.sides.at next (says ∙ ap (λ n. Some (StageAnswer n)) (sym h.view.donor.at)))

  pub repeated : (command next : Frame) (caller : Caller) (stage : ℕ) → now ≡ doing.Ready caller → unread ≡ command ∷ [] → k ≡ 0 → command_of command ≡ Some (Acknowledge stage) → suc stage ≡ donor_stage s → answer_of counts next ≡ Some (StageAnswer (donor_stage s)) → Leads counts t s (put lines k (Some (line_answered l (doing.Ready caller) next))) w
  repeated command next caller stage e f zero_is is same says = (with_seat w k (answering (w.seats k) w.sides.at), subst (λ i. DonorStep w (with_seat w i (answering (w.seats i) w.sides.at))) (sym zero_is) (repeats stage (subst (λ i. Reads w i (Acknowledge stage) Ready) zero_is (reads_now (doing.Ready caller) Ready command (Acknowledge stage) e refl f is)) (same ∙ sym h.view.donor.at)), answered caller w.sides.at next (says ∙ ap (λ n. Some (StageAnswer n)) (sym h.view.donor.at)))

  pub started : (command : Frame) (caller : Caller) (run : Execution) → now ≡ doing.Ready caller → unread ≡ command ∷ [] → command_of command ≡ Some (Execute (copy_number run.stage)) → copy_number run.stage ≡ donor_stage s → Leads counts t s (put lines k (Some (line_started l (doing.Serving run Claim)))) w
  started command caller run e f is same = (with_seat w k (starting (w.seats k) w.sides.at), starts k (reads_now (doing.Ready caller) Ready command (Execute w.sides.at) e refl f (is ∙ ap (λ n. Some (Execute n)) at_is)), leads (starting (w.seats k) w.sides.at) (line_started l (doing.Serving run Claim)) (record { connected = standing.connected; awaits = standing.awaits; ended = standing.ended }) (record { connected = own_line.connected; cut = own_line.cut; commands = refl; answers = own_line.answers; core = ap (λ n. Some (Serving n [])) at_is }))
    where
      at_is : copy_number run.stage ≡ w.sides.at
      at_is = same ∙ sym h.view.donor.at

  -- ---- no chunk is free

  none_free : All IsTaken s.snap.chunks → (b : ℕ) → b < w.sides.size w.sides.at → w.sides.owner b ≢ Free
  none_free taken b small = at (is_kept (slice_index s.snap.kept p.chunk) p.block) (slice_get s.snap.chunks p.chunk) refl (subst (λ i. Owns (is_kept (slice_index s.snap.kept p.chunk) p.block) (slice_get s.snap.chunks p.chunk) (w.sides.owner i)) p.place (h.view.donor.owner p.chunk p.block (subst (λ n. p.block < n) (counts_at s.snap.list p.chunk) p.there)))
    where
      p : IsPlace (block_counts s.snap.list) b
      p = place_at (block_counts s.snap.list) b (subst (λ n. b < n) h.view.donor.size small)

      may : (c : Chunk) → IsTaken c → MayOwn c (w.sides.owner b) → w.sides.owner b ≢ Free
      may chunk.Free some o = absurd (some refl)
      may (chunk.Claimed task) some (inl o) = λ e. cc (o, e)
      may (chunk.Claimed task) some (inr o) = λ e. cc (o, e)
      may chunk.Finished some o = o

      at : (kept : Bool) (state : Option Chunk) → slice_get s.snap.chunks p.chunk ≡ state → Owns kept state (w.sides.owner b) → w.sides.owner b ≢ Free
      at true state e o = λ f. cc (o, f)
      at false None e o = absurd o
      at false (Some c) e o = may c (chunk_taken s.snap.chunks p.chunk c taken e) o

  pub served_out : (run : Execution) (next : Frame) → now ≡ doing.Serving run Claim → copy_number run.stage ≡ donor_stage s → All IsTaken s.snap.chunks → unread ≡ [] → answer_of counts next ≡ Some (End (donor_stage s)) → Leads counts t s (put lines k (Some (line_served l (doing.Ready run.caller) next))) w
  served_out run next e same taken none says = (with_seat w k (end_sent (w.seats k) w.sides.at), finishes k (record { linked = linked; core = core_is (doing.Serving run Claim) (Serving w.sides.at []) e (ap (λ n. Some (Serving n [])) (same ∙ sym h.view.donor.at)) }) (none_free taken), leads (end_sent (w.seats k) w.sides.at) (line_served l (doing.Ready run.caller) next) (record { connected = standing.connected; awaits = standing.awaits; ended = standing.ended }) (record { connected = own_line.connected; cut = own_line.cut; commands = own_line.commands; answers = rw (own_line.cut) (answers_sent counts l.cut l.answers (w.seats k).answers next (End w.sides.at) own_line.answers (says ∙ ap (λ n. Some (End n)) (sym h.view.donor.at))); core = rw (own_line.cut) (after l.cut) }))
    where
      after : (cut : Bool) → core_of s.snap.list (if cut then doing.Over else doing.Ready run.caller) ≡ Some (after_call cut Ready)
      after true = refl
      after false = refl

  -- ---- a loss

  pub found : IsLive (w.seats k).core → (IsServing (w.seats k).core → ⊥) → unread ≡ [] → l.cut ≡ true → Leads counts t s (put lines k (Some (line_over l))) w
  found live idle none cut = (with_seat w k (record (w.seats k) { core = Over }), finds_loss k (record { linked = linked; live = live; idle = idle; none = no_command (w.seats k).commands (subst (λ x. AreCommands x (w.seats k).commands) (h.commands ∙ none) own_line.commands); cut = own_line.cut ∙ cut }), leads (record (w.seats k) { core = Over }) (line_over l) (record { connected = standing.connected; awaits = standing.awaits; ended = standing.ended }) (record { connected = own_line.connected; cut = own_line.cut; commands = own_line.commands; answers = own_line.answers; core = refl }))

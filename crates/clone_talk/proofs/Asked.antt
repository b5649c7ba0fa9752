-- THE COMMANDS that lie unread on a clone's connections, while stages are copied: none is an INIT of another session.
use Rattle.std.proofs.Common.{ℕ, ◌≡◌, ◌∙◌, ◌==◌, ◌∷◌, List, Bool, true, false, Option, length, Some, refl, ap, subst}
use Rattle.std.specs.Prelude.{slice_get}
use Rattle.std.specs.List.{AllByRecursion}
use Rattle.clone_session.specs.Cloning.{Session}
use Rattle.clone_wire.specs.declared.frame.Frame.{Frame}
use Rattle.clone_wire.specs.declared.frame.Frame.TheVariants as frame
use Rattle.clone_wire.specs.declared.frame.Side.TheVariants.{Command as ofTask}
use Rattle.clone_tasks.specs.Sending.{IsFirst, Opens, Reattaches}
use Rattle.clone_tasks.specs.Tables.{Table, attempt_of}
use Rattle.clone_tasks.specs.declared.standing.Phase.{Phase}
use Rattle.clone_tasks.specs.declared.standing.Phase.TheVariants.{Copying, Done, Opening}
use Rattle.clone_chunk.specs.declared.copy_stage.CopyStage.{CopyStage}
use Rattle.clone_wire.specs.declared.frame.Attempt.{Attempt}
use Rattle.clone_recipient.specs.Receptions.{Reception}
use Rattle.clone_network.specs.Connections.{Connection, is_open}
use Rattle.clone_network.specs.Networks.{Network}
use Rattle.clone_paired.specs.Earlier.{IsPast, WasAsked}
use Rattle.clone_paired.specs.Lines.{connection_of}
use Rattle.clone_paired.specs.Paired.{IsTalking}
use Rattle.clone_paired.specs.Speaking.{IsAsked}
use Rattle.clone_paired.specs.Unread.{Holds}
use Rattle.clone_paired.proofs.DonorTurns.{first, there_at, x}
use Rattle.clone_paired.proofs.LateSteps.{Whose, its, nobody, whose}
use Rattle.clone_paired.proofs.Linked.{Linked}
use Rattle.clone_paired.proofs.UnreadLemmas.{Reads, holds_read}
use Rattle.clone_talk.proofs.Alone.{AsksOwn, InitsOwn}

-- whose session an INIT is of
abbrev session_in : Frame → ℕ
session_in (frame.Init attempt version size compressed tasks) = attempt.session
session_in other = 0

module _ (t : Table) (attempt : Attempt) (version size : ℕ) (compressed : Bool) (tasks : ℕ) where
  abbrev init : Frame
  init = frame.Init attempt version size compressed tasks

  again_not : (one : Bool) (stage : CopyStage) → Reattaches one stage t init → attempt.session ≡ t.session
  again_not true stage sent = absurd (let is : init ≡ frame.Reinit (attempt_of t) stage sent.0 = sent.1 in cc)
  again_not false stage sent = absurd (let is : init ≡ frame.Reinit2 (attempt_of t) stage sent.0 = sent.1 in cc)

  opens_own : (phase : Phase) → Opens phase t init → attempt.session ≡ t.session
  opens_own Opening sent = ap session_in sent
  opens_own (Copying stage) sent = again_not (t.version == 1) stage sent
  opens_own Done sent = ap session_in sent

  first_own : (zero : Bool) (task : ℕ) → IsFirst zero t task init → attempt.session ≡ t.session
  first_own true task sent = opens_own t.phase sent
  first_own false task sent = absurd (let is : init ≡ frame.Attach (attempt_of t) task = sent in cc)

-- in the present incarnation
asked_own : (t : Table) (task : ℕ) (command : Frame) → IsAsked t task command → InitsOwn t.session command
asked_own t task (frame.Init attempt version size compressed tasks) asked = first_own t attempt version size compressed tasks (task == 0) task asked
asked_own t task other asked = tt

-- and in an earlier one
was_own : (t : Table) (acknowledged : Bool) (command : Frame) → WasAsked t acknowledged command → InitsOwn t.session command
was_own t acknowledged (frame.Init attempt version size compressed tasks) was = was.0.0
was_own t acknowledged other was = tt

module _ (session : Option Session) (r : Reception) (n : Network) (tasks : length n.seats ≡ r.table.count) (talks : IsTalking session r n) (number : ℕ) (at : Connection) (there : slice_get n.connections number ≡ Some at) (live : is_open at ≡ true) where
  -- the command that is read
  read_own : (Is : Frame → Type 0) (frames : List Frame) → Holds ofTask at.cut frames at.to_donor → AllByRecursion Is frames → ((command : Frame) → Is command → InitsOwn r.table.session command) → AsksOwn r.table.session at
  read_own Is frames holds asked own command left of taken =
      let reads : Reads ofTask at.cut frames command left = holds_read ofTask at.cut frames at.to_donor left command holds of taken in
      let all : AllByRecursion Is (command ∷ reads.more) = subst (AllByRecursion Is) reads.are asked in
      own command all.0

  line_own : (k : ℕ) (has : connection_of n k ≡ Some number) → AsksOwn r.table.session at
  line_own k has = read_own (IsAsked r.table k) here.l.commands (subst (λ (c : Connection). Holds ofTask c.cut here.l.commands c.to_donor) same (here.of.live (ap is_open same ∙ live))) here.of.asked (asked_own r.table k)
    where
      here : Linked session r n talks.lines talks.known (first session r n tasks talks k number has).rounds k
      here = x session r n tasks talks k number has

      same : here.at ≡ at
      same = cc (there_at session r n tasks talks k number has, there)

  past_own : (acknowledged : Bool) → IsPast r.table acknowledged at → AsksOwn r.table.session at
  past_own acknowledged p = read_own (WasAsked r.table acknowledged) p.commands (p.live live) p.asked (was_own r.table acknowledged)

  -- ON EACH CONNECTION
  pub asks_own : AsksOwn r.table.session at
  asks_own = by (whose n number)
    where
      by : Whose n number → AsksOwn r.table.session at
      by (its k has) = line_own k has
      by (nobody away) = (let seen = talks.rounds.seen talks.known (λ stage small. refl) in past_own seen.rounds.sides.acknowledged (seen.past number at there away))

-- What holds of a connection holds still, where a recipient has changed.
use Rattle.std.proofs.Common.{ℕ, ◌≡◌, ◌∙◌, ◌⊎◌, ◌<◌, ◌≤◌, List, [], ◌∷◌, ◌++◌, Bool, true, false, Option, Some, sym, arith}
use Rattle.std.specs.Prelude.{◌==◌}
use Rattle.std.specs.List.{AllByRecursion}
use Rattle.clone_chunk.specs.Stages.{copy_number}
use Rattle.clone_chunk.specs.declared.copy_stage.CopyStage.{CopyStage}
use Rattle.clone_chunk.specs.declared.copy_stage.CopyStage.TheVariants as copy
use Rattle.clone_snapshot.specs.StageLists.{StageList}
use Rattle.clone_session.specs.Cloning.{Session}
use Rattle.clone_wire.specs.declared.frame.Attempt.{Attempt}
use Rattle.clone_wire.specs.declared.frame.Frame.{Frame}
use Rattle.clone_wire.specs.declared.frame.Frame.TheVariants as frame
use Rattle.clone_wire.specs.declared.stage.PageStage.TheVariants as page
use Rattle.clone_serve.specs.declared.doing.Doing.{Doing}
use Rattle.clone_serve.specs.declared.doing.Doing.TheVariants as doing
use Rattle.clone_tasks.specs.Sending.{IsFirst, Opens, Reattaches}
use Rattle.clone_tasks.specs.Tables.{Table, incarnation_of}
use Rattle.clone_tasks.specs.declared.standing.Phase.{Phase}
use Rattle.clone_tasks.specs.declared.standing.Phase.TheVariants.{Opening, Copying, Done}
use Rattle.clone_tasks.specs.declared.standing.Standing.{Standing}
use Rattle.clone_recipient.specs.Receptions.{Reception}
use Rattle.clone_network.specs.Connections.{Connection}
use Rattle.clone_view.specs.Tables.{phase_number}
use Rattle.clone_view.specs.Views.{Line}
use Rattle.clone_paired.specs.Earlier.{BindsEarlier, IsEarlier, IsPast, WasAsked}
use Rattle.clone_paired.specs.Lines.{Binds, IsLineOf, caller_of, doing_at}
use Rattle.clone_paired.specs.Sessions.{Copies, IsSessionOf}
use Rattle.clone_paired.specs.Speaking.{IsAsked, IsGiven}

pub all_as : {X : Type 0} {P Q : X → Type 0} → ((x : X) → P x → Q x) → (xs : List X) → AllByRecursion P xs → AllByRecursion Q xs
all_as so [] all = tt
all_as so (x ∷ xs) all = (so x all.0, all_as so xs all.1)

pub all_more : {X : Type 0} (P : X → Type 0) (xs : List X) (x : X) → AllByRecursion P xs → P x → AllByRecursion P (xs ++ x ∷ [])
all_more P [] x all own = (own, tt)
all_more P (y ∷ xs) x all own = (all.0, all_more P xs x all.1 own)

-- ---- connections of earlier incarnations

-- the stage was acknowledged
abbrev pub WasAcknowledged : ℕ → Bool → ℕ → Type 0
WasAcknowledged stage acknowledged x = (x < stage) ⊎ ((x ≡ stage) × (acknowledged ≡ true))

module _ (t u : Table) (a b : Bool) (session : u.session ≡ t.session) (version : u.version ≡ t.version) (count : u.count ≡ t.count) (losses : t.losses ≤ u.losses) (acks : (x : ℕ) → WasAcknowledged (phase_number t.phase) a x → WasAcknowledged (phase_number u.phase) b x) where
  later : (x : ℕ) → x < incarnation_of t → x < incarnation_of u
  later x less = omega (arith, less, losses)

  earlier_as : (attempt : Attempt) → IsEarlier t attempt → IsEarlier u attempt
  earlier_as attempt is = (is.0 ∙ sym session, later attempt.incarnation is.1)

  was_as : (f : Frame) → WasAsked t a f → WasAsked u b f
  was_as (frame.Init attempt v size compressed tasks) is = (earlier_as attempt is.0, is.1 ∙ sym version, is.2 ∙ sym count)
  was_as (frame.Attach attempt task) is = earlier_as attempt is
  was_as (frame.Reinit attempt stage finished) is = earlier_as attempt is
  was_as (frame.Reinit2 attempt stage taken) is = earlier_as attempt is
  was_as (frame.Execute stage) is = tt
  was_as (frame.Ack stage floor) is = acks (copy_number stage) is
  was_as other is = absurd is

  binds_as : (d : Doing) → BindsEarlier t d → BindsEarlier u d
  binds_as (doing.Ready caller) is = (is.0 ∙ sym session, later caller.incarnation is.1)
  binds_as (doing.Serving run work) is = (is.0 ∙ sym session, later run.caller.incarnation is.1)
  binds_as doing.New is = tt
  binds_as doing.Over is = tt
  binds_as other is = absurd is

  pub past_as : (at : Connection) → IsPast t a at → IsPast u b at
  past_as at is = record { held = is.held; binds = binds_as (doing_at at) is.binds; commands = is.commands; live = is.live; asked = all_as was_as is.commands is.asked }

-- ---- a task stands otherwise, and the floor may be known, and that task 0 joined

abbrev pub restood : Reception → List Standing → Option ℕ → Bool → Reception
restood r standings floor joined = record r { table = record r.table { standings = standings; floor = floor; joined = joined } }

module _ (r : Reception) (standings : List Standing) (floor : Option ℕ) (joined : Bool) (keeps : (kept : ℕ) → r.table.floor ≡ Some kept → floor ≡ Some kept) where
  abbrev s : Reception
  s = restood r standings floor joined

  reattaches_as : (first : Bool) (stage : CopyStage) (f : Frame) → Reattaches first stage r.table f → Reattaches first stage s.table f
  reattaches_as true stage f is = (is.0, is.1, record { chunks = is.2.chunks; each = is.2.each })
  reattaches_as false stage f is = (is.0, is.1, record { finished = record { chunks = is.2.finished.chunks; each = is.2.finished.each }; partials = is.2.partials })

  opens_as : (phase : Phase) (f : Frame) → Opens phase r.table f → Opens phase s.table f
  opens_as Opening f is = is
  opens_as (Copying stage) f is = reattaches_as (r.table.version == 1) stage f is
  opens_as Done f is = is

  first_as : (zero_is : Bool) (j : ℕ) (f : Frame) → IsFirst zero_is r.table j f → IsFirst zero_is s.table j f
  first_as true j f is = opens_as r.table.phase f is
  first_as false j f is = is

  pub asked_as : (j : ℕ) (f : Frame) → IsAsked r.table j f → IsAsked s.table j f
  asked_as j (frame.Execute stage) is = tt
  asked_as j (frame.Ack copy.PageCopy given) is = keeps given is
  asked_as j (frame.Ack copy.FileCopy given) is = tt
  asked_as j (frame.Ack copy.RedoCopy given) is = tt
  asked_as j other is = first_as (j == 0) j other is

  pub given_as : (session : Option Session) (f : Frame) → IsGiven session r f → IsGiven session s f
  given_as session (frame.Stage attempt plan) is = is
  given_as session (frame.Pages attempt page.FileCopy chunk block pages) is = is
  given_as session (frame.Pages attempt page.PageCopy chunk block pages) is = is
  given_as session (frame.Redo attempt chunk block from bytes) is = is
  given_as session (frame.End attempt stage) is = is
  given_as session other is = absurd is

  bound_as : (j : ℕ) (d : Doing) → Binds (caller_of r.table j) d → Binds (caller_of s.table j) d
  bound_as j d is = is

  pub line_as : (session : Option Session) (j : ℕ) (at : Connection) (l : Line) → IsLineOf session r j at l → IsLineOf session s j at l
  line_as session j at l is = record { held = is.held; cut = is.cut; doing = is.doing; binds = bound_as j l.doing is.binds; live = is.live; over = is.over; answers = is.answers; asked = all_as (asked_as j) l.commands is.asked; given = all_as (given_as session) l.answers is.given }

  copies_as : (phase : Phase) (list : StageList) → Copies phase r list → Copies phase s list
  copies_as Opening list is = tt
  copies_as (Copying copy.FileCopy) list is = is
  copies_as (Copying copy.PageCopy) list is = is
  copies_as (Copying copy.RedoCopy) list is = is
  copies_as Done list is = tt

  pub session_as : (x : Session) → IsSessionOf r x → IsSessionOf s x
  session_as x is = record { number = is.number; tasks = is.tasks; version = is.version; before = is.before; chunks = is.chunks; copies = λ same. copies_as r.table.phase x.snap.list (is.copies same) }

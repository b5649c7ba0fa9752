-- What a step of a task leads to, while the clone goes on: it goes on, or there was no memory, or the
-- clone has ended, complete or in some other way.
use Rattle.std.proofs.Common.{ℕ, ◌≡◌, ◌∙◌, ◌++◌, List, Bool, true, false, if◌then◌else◌, Option, None, Some, Ok, refl, sym, ap, subst}
use Rattle.std.specs.Bool.{⊤}
use Rattle.std.proofs.lemmas.Bool.{eq-eqb}
use Rattle.clone_outside.specs.Disk.{DiskImage, Steps}
use Rattle.clone_outside.specs.DiskCalls.{DiskState}
use Rattle.clone_outside.specs.declared.mark.CloneEnd as mark
use Rattle.clone_outside.specs.declared.mark.Mark.TheVariants as marks
use Rattle.clone_chunk.specs.declared.cause.CloneCause.{CloneCause}
use Rattle.clone_lay.specs.Marked.{marked}
use Rattle.clone_wire.specs.Spelling.{spelling}
use Rattle.clone_wire.specs.declared.frame.Frame.{Frame}
use Rattle.clone_wire.specs.declared.frame.Side.TheVariants.{Answer}
use Rattle.clone_stream.specs.Streams.{IsFrameOf}
use Rattle.clone_tasks.specs.Losing.{after_loss, counted_table, is_spent, loss_table}
use Rattle.clone_tasks.specs.Sending.{after_sending}
use Rattle.clone_tasks.specs.Tables.{Table, incarnation_of, is_done}
use Rattle.clone_tasks.specs.declared.end.CloneEnd.{CloneEnd}
use Rattle.clone_tasks.specs.declared.end.CloneEnd.TheVariants as end
use Rattle.clone_tasks.specs.declared.rule.Link.{Link}
use Rattle.clone_tasks.specs.declared.rule.Rule.{Rule}
use Rattle.clone_tasks.specs.declared.rule.Rule.TheVariants as rule
use Rattle.clone_recipient.specs.Expecting.{is_expected}
use Rattle.clone_recipient.specs.Receptions.{Reception}
use Rattle.clone_recipient.specs.Record.{IsRecordOf, items_of}
use Rattle.clone_recipient.specs.Showing.{IsEndOf}
use Rattle.clone_recipient.specs.Taking.{Takes}
use Rattle.clone_recipient.proofs.CountLemmas.{lost_counted, sent_counted}
use Rattle.clone_recipient.proofs.RecordLemmas.{record_loses, record_sends, record_takes}
use Rattle.clone_fetch.specs.Fetching as fetch
use Rattle.clone_fetch.specs.Fetching.{Breaks, Completes, PutsOut, Receives, Requester, StepsBy, TakesFrame, refusal_in, requester, with_loss, with_sent}
use Rattle.clone_fetch.specs.declared.answer.TaskAnswer.{TaskAnswer}
use Rattle.clone_fetch.specs.declared.answer.TaskAnswer.TheVariants as says
use Rattle.clone_sides.specs.Trace.{Entry}
use Rattle.clone_told.specs.Told.{IsOf, IsTold}
use Rattle.clone_told.proofs.ToldLemmas.{told_taken}
use Rattle.clone_joined.proofs.SentLemmas.{counted_session, sending_session}
use Rattle.clone_joined.proofs.TakenLemmas.{IsSame, expected_of, taken_same}
use Rattle.clone_held.specs.Held.{HasAccepted}
use Rattle.clone_held.proofs.TakenLemmas.{EndsBy, taken_counted, taken_ends}

-- ALL WAS COPIED of what was accepted, and then the disk was completed.
pub record HasCompleted (number : ℕ) (trace : List Entry) (s : Reception) (now : Option DiskImage) : Type 0 where
  pub was : Reception
  pub told : Option DiskImage
  pub accepted : HasAccepted number trace was told
  pub copied : is_done was.table.phase ≡ true
  pub last : mark.CloneEnd
  pub is : IsEndOf was last
  pub steps : Steps told now (marked (marks.Complete last))
  pub ended : s.table.ended ≡ Some (end.Complete was.lsn was.position)

-- an end of a clone that isn't complete
abbrev pub IsOther : CloneEnd → Type 0
IsOther (end.Complete lsn position) = ⊥
IsOther other = ⊤

pub data Course (number : ℕ) (trace : List Entry) (s : Reception) (now : Option DiskImage) (answer : TaskAnswer) : Type 0 where
  goes_on : s.table.ended ≡ None → HasAccepted number trace s now → Course number trace s now answer
  lacks : s.table.ended ≡ None → answer ≡ says.NoMemory → Course number trace s now answer
  over : (how : CloneEnd) → s.table.ended ≡ Some how → IsOther how → Course number trace s now answer
  whole : HasCompleted number trace s now → Course number trace s now answer

-- what is sent ends nothing
sending_ended : (t : Table) (task floor : ℕ) (which : Rule) → (after_sending which t task floor).ended ≡ t.ended
sending_ended t task floor rule.Nothing = refl
sending_ended t task floor rule.Stale = refl
sending_ended t task floor rule.Receive = refl
sending_ended t task floor rule.Connect = refl
sending_ended t task floor (rule.Acknowledge stage) = refl
sending_ended t task floor (rule.Execute stage) = refl
sending_ended t task floor rule.Complete = refl

-- a loss ends the clone where there were too many
counted_ended : (t : Table) (b : Bool) → is_spent t ≡ b → (counted_table t).ended ≡ (if b then Some (end.Spent t.losses) else t.ended)
counted_ended t true is = ap (λ (b : Bool). (if b then record t { ended = Some (end.Spent t.losses) } else t).ended) is
counted_ended t false is = ap (λ (b : Bool). (if b then record t { ended = Some (end.Spent t.losses) } else t).ended) is

module _ (number : ℕ) (trace : List Entry) (r : Reception) (before : DiskState) (k : HasAccepted number trace r before.told) (going : r.table.ended ≡ None) where
  abbrev Leads : Reception → DiskState → TaskAnswer → Type 0
  Leads s after answer = Course number trace s after.told answer

  -- the disk is as it was
  accepted_as : (s x : Reception) (after : DiskState) → s ≡ x → after ≡ before → HasAccepted number trace x before.told → HasAccepted number trace s after.told
  accepted_as s x after same disk has = subst (λ (e : DiskState). HasAccepted number trace s e.told) (sym disk) (subst (λ (y : Reception). HasAccepted number trace y before.told) (sym same) has)

  rests : (s : Reception) (after : DiskState) (answer : TaskAnswer) → s ≡ r → after ≡ before → Leads s after answer
  rests s after answer same disk = goes_on (ap (λ (x : Reception). x.table.ended) same ∙ going) (accepted_as s r after same disk k)

  lacking : (s x : Reception) (after : DiskState) (answer : TaskAnswer) → s ≡ x → x.table.ended ≡ r.table.ended → answer ≡ says.NoMemory → Leads s after answer
  lacking s x after answer same on heard = lacks (ap (λ (y : Reception). y.table.ended) same ∙ on ∙ going) heard

  ends : (s x : Reception) (after : DiskState) (answer : TaskAnswer) (how : CloneEnd) → s ≡ fetch.ended_as how x → IsOther how → Leads s after answer
  ends s x after answer how ended other = over how (ap (λ (y : Reception). y.table.ended) ended) other

  -- ---- a frame is put out
  sent : (which : Rule) (task floor : ℕ) → HasAccepted number trace (with_sent which task floor r) before.told
  sent which task floor = record {
    items = k.items;
    first = k.first;
    blank = k.blank;
    unfinished = k.unfinished;
    accepted = record_sends r which task floor k.items k.first before.told k.accepted;
    answered = k.answered;
    session = sending_session r.table task floor which ∙ k.session;
    bounded = k.bounded;
    counted = sent_counted {X = ℕ} {E = ℕ} (Ok 0) r (after_sending which r.table task floor) which task floor refl tt k.counted;
  }

  put_course : (which : Rule) (task floor : ℕ) (s : Reception) (after : DiskState) (old new : List ℕ) (answer : TaskAnswer) → PutsOut which task floor r s old new answer → after ≡ before → Leads s after answer
  put_course which task floor s after old new answer (fetch.puts next of is set put heard) disk =
      goes_on (ap (λ (x : Reception). x.table.ended) set ∙ sending_ended r.table task floor which ∙ going) (accepted_as s (with_sent which task floor r) after set disk (sent which task floor))
  put_course which task floor s after old new answer (fetch.no_frame same put heard) disk = lacking s r after answer same refl heard
  put_course which task floor s after old new answer (fetch.no_bytes set put heard) disk = lacking s (with_sent which task floor r) after answer set (sending_ended r.table task floor which) heard

  -- ---- an answer is awaited
  broken : (bytes : List ℕ) (s : Reception) (after : DiskState) (answer : TaskAnswer) → Breaks bytes r s answer → Leads s after answer
  broken bytes s after answer (fetch.breaks kept is ended heard) = ends s r after answer (end.Garbled kept) ended tt
  broken bytes s after answer (fetch.not_kept same heard) = lacking s r after answer same refl heard

  took : (task : ℕ) (got : Frame) (s : Reception) (after : DiskState) (answer : TaskAnswer) → IsFrameOf Answer got → (IsOf number got → IsTold number trace got) → is_expected r task got ≡ true → Takes got task r s before.told after.told → Leads s after answer
  took task got s after answer of told expected takes = by (refusal_in got) (taken_ends r s before.told after.told got task takes)
    where
      same : IsSame r s
      same = taken_same r got task s before.told after.told of.is takes

      by : (cause : Option CloneCause) → EndsBy cause r s → Leads s after answer
      by (Some cause) ended = over (end.Refused cause) ended tt
      by None ended = goes_on (ended ∙ going) (record {
        items = k.items ++ items_of r task got;
        first = k.first;
        blank = k.blank;
        unfinished = k.unfinished;
        accepted = record_takes r s task got k.items k.first before.told after.told k.counted expected takes k.accepted;
        answered = told_taken number trace r task got k.items k.answered (told (expected_of number r task got k.session expected));
        session = same.session ∙ k.session;
        bounded = same.bounded k.bounded;
        counted = taken_counted r s before.told after.told got task takes k.counted;
      })

  frame_course : (task : ℕ) (got : Frame) (s : Reception) (after : DiskState) (answer : TaskAnswer) → IsFrameOf Answer got → (IsOf number got → IsTold number trace got) → TakesFrame task got r s before after answer → Leads s after answer
  frame_course task got s after answer of told (fetch.accepts expected takes heard) = took task got s after answer of told expected takes
  frame_course task got s after answer of told (fetch.rejects other broke same) = broken (spelling got) s after answer broke
  frame_course task got s after answer of told (fetch.not_laid expected keeps ended heard) = ends s (record r { sizes = s.sizes }) after answer end.DiskFault ended tt
  frame_course task got s after answer of told (fetch.no_room expected keeps same heard) = lacking s (record r { sizes = s.sizes }) after answer same refl heard

  lost : HasAccepted number trace (with_loss r) before.told
  lost =
      let now : loss_table r.table (incarnation_of r.table) ≡ counted_table (after_loss r.table) =
      ap (λ (b : Bool). if b then counted_table (after_loss r.table) else r.table) (eq-eqb (incarnation_of r.table) (incarnation_of r.table) refl) in
      record {
        items = k.items;
        first = k.first;
        blank = k.blank;
        unfinished = k.unfinished;
        accepted = subst (λ (t : Table). IsRecordOf (record r { table = t }) k.items k.first before.told) now (record_loses r (incarnation_of r.table) k.items k.first before.told k.accepted);
        answered = k.answered;
        session = counted_session (after_loss r.table) ∙ k.session;
        bounded = k.bounded;
        counted = lost_counted r (counted_table (after_loss r.table)) (incarnation_of r.table) (sym now) k.counted;
      }

  loss_course : (s : Reception) (after : DiskState) (answer : TaskAnswer) → s ≡ with_loss r → after ≡ before → Leads s after answer
  loss_course s after answer is disk = by (is_spent (after_loss r.table)) refl
    where
      by : (b : Bool) → is_spent (after_loss r.table) ≡ b → Leads s after answer
      by true spent = over (end.Spent (after_loss r.table).losses) (ap (λ (x : Reception). x.table.ended) is ∙ counted_ended (after_loss r.table) true spent) tt
      by false left = goes_on (ap (λ (x : Reception). x.table.ended) is ∙ counted_ended (after_loss r.table) false left ∙ going) (accepted_as s (with_loss r) after is disk lost)

  -- the frame that is taken was told
  abbrev Hears : List ℕ → List ℕ → Type 0
  Hears received left = (got : Frame) → IsFrameOf Answer got → received ≡ spelling got ++ left → IsOf number got → IsTold number trace got

  receive_course : (task : ℕ) (at : Link) (s : Reception) (after : DiskState) (received left : List ℕ) (answer : TaskAnswer) → Hears received left → Receives task at r s before after received left answer → Leads s after answer
  receive_course task at s after received left answer hears (fetch.takes got of is takes) = frame_course task got s after answer of (hears got of is) takes
  receive_course task at s after received left answer hears (fetch.garbled none broke disk same) = broken received s after answer broke
  receive_course task at s after received left answer hears (fetch.loses is partial ended disk same heard) = loss_course s after answer ended disk
  receive_course task at s after received left answer hears (fetch.waits is partial same disk rest heard) = rests s after answer same disk
  receive_course task at s after received left answer hears (fetch.not_read same disk rest heard) = lacking s r after answer same refl heard

  -- ---- all was copied
  complete_course : (s : Reception) (after : DiskState) (old new : List ℕ) (answer : TaskAnswer) → is_done r.table.phase ≡ true → Completes r s before.told after.told old new answer → Leads s after answer
  complete_course s after old new answer done (fetch.completes last is steps ended put heard) =
      whole (record { was = r; told = before.told; accepted = k; copied = done; last = last; is = is; steps = steps; ended = ap (λ (x : Reception). x.table.ended) ended })
  complete_course s after old new answer done (fetch.not_completed last is steps ended put heard) = ends s r after answer end.DiskFault ended tt
  complete_course s after old new answer done (fetch.not_marked last is steps same put heard) = lacking s r after answer same refl heard
  complete_course s after old new answer done (fetch.not_left last is steps same put heard) = lacking s (record r { synced = true }) after answer same refl heard

  -- ---- by the rule
  pub step_course : (which : Rule) (at : Link) (task floor : ℕ) (s : Reception) (after : DiskState) (received left old new : List ℕ) (answer : TaskAnswer) → Hears received left → (which ≡ rule.Complete → is_done r.table.phase ≡ true)
      → StepsBy which at task floor (requester r before received old) (requester s after left new) answer → Leads s after answer
  step_course rule.Nothing at task floor s after received left old new answer hears done steps = rests s after answer (ap (λ (x : Requester). x.reception) steps.0) (ap (λ (x : Requester). x.disk) steps.0)
  step_course rule.Stale at task floor s after received left old new answer hears done steps = rests s after answer (ap (λ (x : Requester). x.reception) steps.0) (ap (λ (x : Requester). x.disk) steps.0)
  step_course rule.Connect at task floor s after received left old new answer hears done steps = put_course rule.Connect task floor s after old new answer steps.0 steps.1
  step_course (rule.Acknowledge stage) at task floor s after received left old new answer hears done steps = put_course (rule.Acknowledge stage) task floor s after old new answer steps.0 steps.1
  step_course (rule.Execute stage) at task floor s after received left old new answer hears done steps = put_course (rule.Execute stage) task floor s after old new answer steps.0 steps.1
  step_course rule.Receive at task floor s after received left old new answer hears done steps = receive_course task at s after received left answer hears steps.0
  step_course rule.Complete at task floor s after received left old new answer hears done steps = complete_course s after old new answer (done refl) steps.0

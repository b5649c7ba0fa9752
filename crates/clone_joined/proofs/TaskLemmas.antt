-- A step of a task by its rule: what the recipient accepted was answered, and what the task sends it
-- may ask.
use Rattle.std.proofs.Common.{ℕ, ◌≡◌, ◌∙◌, ◌<◌, ◌^◌, ◌++◌, ◌∷◌, [], List, Bool, true, false, if◌then◌else◌, Option, refl, sym, ap, subst}
use Rattle.std.specs.List.{AllByRecursion}
use Rattle.std.proofs.lemmas.Bool.{eq-eqb}
use Rattle.std.proofs.lemmas.List.{append-nil}
use Rattle.clone_outside.specs.Disk.{DiskImage}
use Rattle.clone_outside.specs.DiskCalls.{DiskState}
use Rattle.clone_accepted.specs.Answers.{Item}
use Rattle.clone_wire.specs.Spelling.{spelling}
use Rattle.clone_wire.specs.declared.frame.Frame.{Frame}
use Rattle.clone_wire.specs.declared.frame.Side.TheVariants.{Answer, Command}
use Rattle.clone_stream.specs.Streams.{AreFramesOf, IsFrameOf, spellings}
use Rattle.clone_tasks.specs.Losing.{after_loss, counted_table, loss_table}
use Rattle.clone_tasks.specs.Tables.{Table, incarnation_of, is_running}
use Rattle.clone_tasks.specs.declared.end.CloneEnd.{CloneEnd}
use Rattle.clone_tasks.specs.declared.rule.Link.{Link}
use Rattle.clone_tasks.specs.declared.rule.Rule.{Rule}
use Rattle.clone_tasks.specs.declared.rule.Rule.TheVariants as rule
use Rattle.clone_recipient.specs.Receptions.{AreCounted, Reception}
use Rattle.clone_recipient.specs.Expecting.{is_expected}
use Rattle.clone_recipient.specs.Record.{IsRecordOf, items_of}
use Rattle.clone_recipient.specs.Taking.{Takes}
use Rattle.clone_recipient.proofs.RecordLemmas.{record_loses, record_sends, record_takes}
use Rattle.clone_fetch.specs.Fetching as fetch
use Rattle.clone_fetch.specs.Fetching.{Breaks, Completes, PutsOut, Receives, Requester, StepsBy, TakesFrame, ended_as, with_loss, with_sent}
use Rattle.clone_fetch.specs.declared.answer.TaskAnswer.{TaskAnswer}
use Rattle.clone_fetch.specs.declared.answer.TaskAnswer.TheVariants as says
use Rattle.clone_sides.specs.Answered.{WereAnswered}
use Rattle.clone_sides.specs.Trace.{Entry}
use Rattle.clone_told.proofs.ToldLemmas.{told_taken}
use Rattle.clone_joined.specs.Carried.{Carries, MayAsk, WasSaid}
use Rattle.clone_joined.proofs.CarriedLemmas.{carries_read}
use Rattle.clone_joined.proofs.ConnectionLemmas.{KeepsFloor}
use Rattle.clone_joined.proofs.SentLemmas.{IsAsking, counted_floor, counted_session, sending_keeps, sending_session, sent_may}
use Rattle.clone_joined.proofs.TakenLemmas.{IsSame, expected_of, taken_same}

-- what is known of a recipient
pub record IsReceiver (number : ℕ) (trace : List Entry) (first : DiskImage) (r : Reception) (told : Option DiskImage) : Type 0 where
  pub items : List Item
  pub accepted : IsRecordOf r items first told
  pub answered : WereAnswered number trace items
  pub session : r.table.session ≡ number
  pub bounded : r.position < 2 ^ 64

-- these frames were put out, if any
pub record Puts (floor : Option ℕ) (old new : List ℕ) : Type 0 where
  pub frames : List Frame
  pub are : AreFramesOf Command frames
  pub may : AllByRecursion (MayAsk floor) frames
  pub is : new ≡ old ++ spellings frames

pub record TaskStep (number : ℕ) (trace : List Entry) (first : DiskImage) (whole : Bool) (old new : Requester) : Type 0 where
  pub receiver : IsReceiver number trace first new.reception new.disk.told
  pub floor : KeepsFloor old.reception.table.floor new.reception.table.floor
  pub left : Carries Answer (WasSaid number trace) whole new.received
  pub puts : Puts new.reception.table.floor old.sent new.sent

puts_nothing : (floor : Option ℕ) (old new : List ℕ) → new ≡ old → Puts floor old new
puts_nothing floor old new same = record { frames = []; are = tt; may = tt; is = same ∙ sym (append-nil old) }

-- ---- steps that end the clone, or for which there is no memory

-- the clone goes on, and there was memory
pub record GoesOn (s : Reception) (answer : TaskAnswer) : Type 0 where
  pub running : is_running s.table ≡ true
  pub memory : answer ≡ says.NoMemory → ⊥

not_ended : (s x : Reception) (answer : TaskAnswer) (how : CloneEnd) → GoesOn s answer → s ≡ ended_as how x → ⊥
not_ended s x answer how on is = (let wrong : true ≡ false = sym on.running ∙ ap (λ (y : Reception). is_running y.table) is in absurd (cc))

not_broken : (bytes : List ℕ) (old new : Reception) (answer : TaskAnswer) → GoesOn new answer → Breaks bytes old new answer → ⊥
not_broken bytes old new answer on (fetch.breaks kept is ended heard) = not_ended new old answer _ on ended
not_broken bytes old new answer on (fetch.not_kept same heard) = on.memory heard

not_complete : (old new : Reception) (told now : Option DiskImage) (sent put : List ℕ) (answer : TaskAnswer) → GoesOn new answer → Completes old new told now sent put answer → ⊥
not_complete old new told now sent put answer on (fetch.completes last is steps ended puts heard) = not_ended new (record old { synced = true }) answer _ on ended
not_complete old new told now sent put answer on (fetch.not_completed last is steps ended puts heard) = not_ended new old answer _ on ended
not_complete old new told now sent put answer on (fetch.not_marked last is steps same puts heard) = on.memory heard
not_complete old new told now sent put answer on (fetch.not_left last is steps same puts heard) = on.memory heard

module _ (number : ℕ) (trace : List Entry) (first : DiskImage) (whole : Bool) where
  abbrev Knows : Reception → Option DiskImage → Type 0
  Knows r told = IsReceiver number trace first r told

  abbrev Comes : List ℕ → Type 0
  Comes bytes = Carries Answer (WasSaid number trace) whole bytes

  abbrev Step : Requester → Requester → Type 0
  Step old new = TaskStep number trace first whole old new

  -- ---- a frame is put out
  sent_receiver : (which : Rule) (task floor : ℕ) (r : Reception) (told : Option DiskImage) → Knows r told → Knows (with_sent which task floor r) told
  sent_receiver which task floor r told k = record {
    items = k.items;
    accepted = record_sends r which task floor k.items first told k.accepted;
    answered = k.answered;
    session = sending_session r.table task floor which ∙ k.session;
    bounded = k.bounded;
  }

  sends_step : (which : Rule) (task floor : ℕ) (old new : Requester) (answer : TaskAnswer) → IsAsking which → Knows old.reception old.disk.told → Comes old.received → GoesOn new.reception answer
      → PutsOut which task floor old.reception new.reception old.sent new.sent answer → new.disk ≡ old.disk → new.received ≡ old.received → Step old new
  sends_step which task floor old new answer asking k comes on (fetch.puts next of is after put heard) disk received =
      let r : Reception = old.reception in
      let moved : Knows (with_sent which task floor r) new.disk.told = subst (λ (e : DiskState). Knows (with_sent which task floor r) e.told) (sym disk) (sent_receiver which task floor r old.disk.told k) in
      let same : (with_sent which task floor r).table.floor ≡ new.reception.table.floor = ap (λ (x : Reception). x.table.floor) (sym after) in
      record {
        receiver = subst (λ (x : Reception). Knows x new.disk.told) (sym after) moved;
        floor = subst (KeepsFloor r.table.floor) same (sending_keeps r.table task floor which);
        left = subst Comes (sym received) comes;
        puts = record {
          frames = next ∷ [];
          are = (of, tt);
          may = (subst (λ (o : Option ℕ). MayAsk o next) same (sent_may r.table task floor which next asking is), tt);
          is = put ∙ ap (λ l. old.sent ++ l) (sym (append-nil (spelling next)));
        };
      }
  sends_step which task floor old new answer asking k comes on (fetch.no_frame after put heard) disk received = absurd (on.memory heard)
  sends_step which task floor old new answer asking k comes on (fetch.no_bytes after put heard) disk received = absurd (on.memory heard)

  -- ---- an answer is awaited
  same_floor : (a b : Option ℕ) → b ≡ a → KeepsFloor a b
  same_floor a b same kept is = same ∙ is

  takes_receiver : (r s : Reception) (task : ℕ) (got : Frame) (told now : Option DiskImage) → Knows r told → AreCounted r.table.phase r → IsFrameOf Answer got → WasSaid number trace got → is_expected r task got ≡ true → Takes got task r s told now
      → Knows s now × KeepsFloor r.table.floor s.table.floor
  takes_receiver r s task got told now k counted of said expected takes =
      let same : IsSame r s = taken_same r got task s told now of.is takes in (
        record {
          items = k.items ++ items_of r task got;
          accepted = record_takes r s task got k.items first told now counted expected takes k.accepted;
          answered = told_taken number trace r task got k.items k.answered (said (expected_of number r task got k.session expected));
          session = same.session ∙ k.session;
          bounded = same.bounded k.bounded;
        },
        same_floor r.table.floor s.table.floor same.floor,
      )

  frame_receiver : (task : ℕ) (got : Frame) (r s : Reception) (before after : DiskState) (answer : TaskAnswer) → Knows r before.told → AreCounted r.table.phase r → GoesOn s answer → IsFrameOf Answer got → WasSaid number trace got → TakesFrame task got r s before after answer
      → Knows s after.told × KeepsFloor r.table.floor s.table.floor
  frame_receiver task got r s before after answer k counted on of said (fetch.accepts expected takes heard) = takes_receiver r s task got before.told after.told k counted of said expected takes
  frame_receiver task got r s before after answer k counted on of said (fetch.rejects other broke same) = absurd (not_broken (spelling got) r s answer on broke)
  frame_receiver task got r s before after answer k counted on of said (fetch.not_laid expected keeps ended heard) = absurd (not_ended s (record r { sizes = s.sizes }) answer _ on ended)
  frame_receiver task got r s before after answer k counted on of said (fetch.no_room expected keeps same heard) = absurd (on.memory heard)

  same_receiver : (r s : Reception) (before after : DiskState) → Knows r before.told → s ≡ r → after ≡ before → Knows s after.told × KeepsFloor r.table.floor s.table.floor
  same_receiver r s before after k same disk = (
    subst (λ (e : DiskState). Knows s e.told) (sym disk) (subst (λ (x : Reception). Knows x before.told) (sym same) k),
    same_floor r.table.floor s.table.floor (ap (λ (x : Reception). x.table.floor) same),
  )

  lost_record : (r : Reception) (items : List Item) (told : Option DiskImage) → IsRecordOf r items first told → IsRecordOf (with_loss r) items first told
  lost_record r items told is =
      let now : loss_table r.table (incarnation_of r.table) ≡ counted_table (after_loss r.table) =
      ap (λ (b : Bool). if b then counted_table (after_loss r.table) else r.table) (eq-eqb (incarnation_of r.table) (incarnation_of r.table) refl) in
      subst (λ (t : Table). IsRecordOf (record r { table = t }) items first told) now (record_loses r (incarnation_of r.table) items first told is)

  lost_receiver : (r s : Reception) (before after : DiskState) → Knows r before.told → s ≡ with_loss r → after ≡ before → Knows s after.told × KeepsFloor r.table.floor s.table.floor
  lost_receiver r s before after k lost disk =
      let now : Knows (with_loss r) before.told = record {
        items = k.items;
        accepted = lost_record r k.items before.told k.accepted;
        answered = k.answered;
        session = counted_session (after_loss r.table) ∙ k.session;
        bounded = k.bounded;
      } in (
        subst (λ (e : DiskState). Knows s e.told) (sym disk) (subst (λ (x : Reception). Knows x before.told) (sym lost) now),
        same_floor r.table.floor s.table.floor (ap (λ (x : Reception). x.table.floor) lost ∙ counted_floor (after_loss r.table)),
      )

  step_of : (old new : Requester) → Knows new.reception new.disk.told × KeepsFloor old.reception.table.floor new.reception.table.floor → Comes new.received → new.sent ≡ old.sent → Step old new
  step_of old new (k, floor) left sent = record { receiver = k; floor = floor; left = left; puts = puts_nothing new.reception.table.floor old.sent new.sent sent }

  receives_step : (task : ℕ) (at : Link) (old new : Requester) (answer : TaskAnswer) → Knows old.reception old.disk.told → AreCounted old.reception.table.phase old.reception → Comes old.received → GoesOn new.reception answer
      → Receives task at old.reception new.reception old.disk new.disk old.received new.received answer → new.sent ≡ old.sent → Step old new
  receives_step task at old new answer k counted comes on (fetch.takes got of is takes) sent =
      let read = carries_read Answer (WasSaid number trace) whole old.received new.received got comes of is in
      step_of old new (frame_receiver task got old.reception new.reception old.disk new.disk answer k counted on of read.is takes) read.rest sent
  receives_step task at old new answer k counted comes on (fetch.garbled lost broke disk left) sent = absurd (not_broken old.received old.reception new.reception answer on broke)
  receives_step task at old new answer k counted comes on (fetch.loses is partial lost disk left heard) sent =
      step_of old new (lost_receiver old.reception new.reception old.disk new.disk k lost disk) (subst Comes (sym left) comes) sent
  receives_step task at old new answer k counted comes on (fetch.waits is partial same disk left heard) sent =
      step_of old new (same_receiver old.reception new.reception old.disk new.disk k same disk) (subst Comes (sym left) comes) sent
  receives_step task at old new answer k counted comes on (fetch.not_read same disk left heard) sent = absurd (on.memory heard)

  -- ---- by the rule
  rests_step : (old new : Requester) → Knows old.reception old.disk.told → Comes old.received → new ≡ old → Step old new
  rests_step old new k comes same = subst (Step old) (sym same) (step_of old old (same_receiver old.reception old.reception old.disk old.disk k refl refl) comes refl)

  pub task_step : (which : Rule) (at : Link) (task floor : ℕ) (old new : Requester) (answer : TaskAnswer) → Knows old.reception old.disk.told → AreCounted old.reception.table.phase old.reception → Comes old.received → GoesOn new.reception answer
      → StepsBy which at task floor old new answer → Step old new
  task_step rule.Nothing at task floor old new answer k counted comes on steps = rests_step old new k comes steps.0
  task_step rule.Stale at task floor old new answer k counted comes on steps = rests_step old new k comes steps.0
  task_step rule.Connect at task floor old new answer k counted comes on steps = sends_step rule.Connect task floor old new answer tt k comes on steps.0 steps.1 steps.2
  task_step (rule.Acknowledge stage) at task floor old new answer k counted comes on steps = sends_step (rule.Acknowledge stage) task floor old new answer tt k comes on steps.0 steps.1 steps.2
  task_step (rule.Execute stage) at task floor old new answer k counted comes on steps = sends_step (rule.Execute stage) task floor old new answer tt k comes on steps.0 steps.1 steps.2
  task_step rule.Receive at task floor old new answer k counted comes on steps = receives_step task at old new answer k counted comes on steps.0 steps.1
  task_step rule.Complete at task floor old new answer k counted comes on steps = absurd (not_complete old.reception new.reception old.disk.told new.disk.told old.sent new.sent answer on steps.0)

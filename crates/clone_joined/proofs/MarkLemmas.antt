-- While the clone goes on the recipient's disk says so, and a step of a task that doesn't complete it
-- leaves its mark.
use Rattle.std.proofs.Common.{ℕ, ◌≡◌, ◌∙◌, ◌∷◌, [], List, Bool, true, false, Option, None, Some, option_map, refl, ap}
use Rattle.clone_outside.specs.Disk.{DiskImage, ForTold}
use Rattle.clone_outside.specs.DiskCalls.{DiskState}
use Rattle.clone_accepted.specs.Answers.{Answer, Item, Moves, PageBlock, RedoBlock, Stage, Takes as TakesItem, Told, ToldDone, ToldFiles, ToldPages, ToldRedo}
use Rattle.clone_accepted.specs.Disk.{distance_of, laid, with_answer, with_item, with_told}
use Rattle.clone_chunk.specs.declared.plan.StagePlan.{StagePlan}
use Rattle.clone_lay.specs.Laid.{laid_pages}
use Rattle.clone_lay.specs.Redo.{laid_redo}
use Rattle.clone_wire.specs.declared.frame.Frame.{Frame}
use Rattle.clone_wire.specs.declared.frame.Frame.TheVariants as frame
use Rattle.clone_tasks.specs.Awaiting.{moves}
use Rattle.clone_tasks.specs.declared.rule.Link.{Link}
use Rattle.clone_tasks.specs.declared.rule.Rule.{Rule}
use Rattle.clone_tasks.specs.declared.rule.Rule.TheVariants as rule
use Rattle.clone_recipient.specs.Receptions.{Reception}
use Rattle.clone_recipient.specs.Record.{IsRecordOf}
use Rattle.clone_recipient.specs.Taking.{KeepsMark, Takes, TakesStage, laid_at, told_by}
use Rattle.clone_recipient.proofs.MarkLemmas.{pages_mark, rooms_mark, step_mark}
use Rattle.clone_fetch.specs.Fetching as fetch
use Rattle.clone_fetch.specs.Fetching.{Completes, Receives, Requester, StepsBy, TakesFrame}
use Rattle.clone_fetch.specs.declared.answer.TaskAnswer.{TaskAnswer}
use Rattle.clone_network.specs.Networks.{Network}
use Rattle.clone_engine.specs.Donor.{Donor}
use Rattle.clone_session.specs.declared.info.Stop.{Stop}
use Rattle.clone_joined.specs.Joined.{IsInProgress, IsJoined}

-- ---- WHAT IS LAID leaves the mark

told_mark : (told : Told) (m : DiskImage) → (with_told told m).mark ≡ m.mark
told_mark (ToldFiles spaces) m = refl
told_mark (ToldPages count made) m = rooms_mark made m
told_mark (ToldRedo checkpoint lsn position) m = refl
told_mark ToldDone m = refl

answer_mark : (said : Answer) (m : DiskImage) → (with_answer said m).mark ≡ m.mark
answer_mark (Stage told) m = told_mark told m
answer_mark (PageBlock stage chunk block pages) m = pages_mark pages m
answer_mark (RedoBlock chunk block from bytes) m = refl

item_mark : (item : Item) (m : DiskImage) → (with_item item m).mark ≡ m.mark
item_mark (Moves told) m = told_mark told m
item_mark (TakesItem said) m = answer_mark said m

laid_mark : (items : List Item) (m : DiskImage) → (laid items m).mark ≡ m.mark
laid_mark [] m = refl
laid_mark (item ∷ items) m = laid_mark items (with_item item m) ∙ item_mark item m

-- THE DISK says that its copy is in progress.
record_mark : (number : ℕ) (r : Reception) (items : List Item) (first : DiskImage) (told : Option DiskImage) → IsInProgress number first → IsRecordOf r items first told → ForTold told (IsInProgress number)
record_mark number r items first told unfinished accepted = by told accepted.is.disk
  where
    by : (o : Option DiskImage) → ForTold o (λ m. m ≡ laid items first) → ForTold o (IsInProgress number)
    by None is = tt
    by (Some m) is = ap (λ (x : DiskImage). x.mark) is ∙ laid_mark items first ∙ unfinished

pub joined_marked : (number : ℕ) (stop : Option Stop) (d : Donor) (r : Reception) (told : Option DiskImage) (n : Network) → IsJoined number stop d r told n → ForTold told (IsInProgress number)
joined_marked number stop d r told n j = record_mark number r j.items j.first told j.unfinished j.accepted

-- ---- A STEP that doesn't complete the disk leaves the mark

same_mark : (told now : Option DiskImage) → now ≡ told → KeepsMark told now
same_mark told now same = ap (option_map (λ (m : DiskImage). m.mark)) same

disk_mark : (before after : DiskState) → after ≡ before → KeepsMark before.told after.told
disk_mark before after same = same_mark before.told after.told (ap (λ (e : DiskState). e.told) same)

stage_mark : (moved : Bool) (plan : StagePlan) (task : ℕ) (r s : Reception) (told now : Option DiskImage) → TakesStage moved plan task r s told now → KeepsMark told now
stage_mark true plan task r s told now takes = step_mark told now (with_told (told_by plan)) (told_mark (told_by plan)) takes.1
stage_mark false plan task r s told now takes = same_mark told now takes.1

takes_mark : (got : Frame) (task : ℕ) (r s : Reception) (told now : Option DiskImage) → Takes got task r s told now → KeepsMark told now
takes_mark (frame.Stage attempt plan) task r s told now takes = stage_mark (moves r.table task) plan task r s told now takes
takes_mark (frame.Pages attempt stage chunk block pages) task r s told now takes = step_mark told now (laid_pages (laid_at pages)) (pages_mark (laid_at pages)) takes.1
takes_mark (frame.Redo attempt chunk block from bytes) task r s told now takes = step_mark told now (laid_redo (distance_of chunk block) bytes) (λ m. refl) takes.1
takes_mark (frame.End attempt stage) task r s told now takes = same_mark told now takes.1
takes_mark (frame.Refused cause) task r s told now takes = same_mark told now takes.1
takes_mark other task r s told now takes = absurd takes

frame_mark : (task : ℕ) (got : Frame) (r s : Reception) (before after : DiskState) (answer : TaskAnswer) → TakesFrame task got r s before after answer → KeepsMark before.told after.told
frame_mark task got r s before after answer (fetch.accepts expected takes heard) = takes_mark got task r s before.told after.told takes
frame_mark task got r s before after answer (fetch.rejects other broke same) = disk_mark before after same
frame_mark task got r s before after answer (fetch.not_laid expected keeps ended heard) = keeps
frame_mark task got r s before after answer (fetch.no_room expected keeps same heard) = keeps

received_mark : (task : ℕ) (at : Link) (r s : Reception) (before after : DiskState) (received left : List ℕ) (answer : TaskAnswer) → Receives task at r s before after received left answer → KeepsMark before.told after.told
received_mark task at r s before after received left answer (fetch.takes got of is takes) = frame_mark task got r s before after answer takes
received_mark task at r s before after received left answer (fetch.garbled lost broke disk same) = disk_mark before after disk
received_mark task at r s before after received left answer (fetch.loses is partial lost disk same heard) = disk_mark before after disk
received_mark task at r s before after received left answer (fetch.waits is partial same disk rest heard) = disk_mark before after disk
received_mark task at r s before after received left answer (fetch.not_read same disk rest heard) = disk_mark before after disk

-- the mark stays, or the disk is to be completed
pub data Leaves (which : Rule) (old new : Requester) (answer : TaskAnswer) : Type 0 where
  staying : KeepsMark old.disk.told new.disk.told → Leaves which old new answer
  completing : which ≡ rule.Complete → Completes old.reception new.reception old.disk.told new.disk.told old.sent new.sent answer → Leaves which old new answer

sent_mark : (old new : Requester) → new.disk ≡ old.disk → KeepsMark old.disk.told new.disk.told
sent_mark old new same = disk_mark old.disk new.disk same

rest_mark : (old new : Requester) → new ≡ old → KeepsMark old.disk.told new.disk.told
rest_mark old new same = disk_mark old.disk new.disk (ap (λ (x : Requester). x.disk) same)

pub step_leaves : (which : Rule) (at : Link) (task floor : ℕ) (old new : Requester) (answer : TaskAnswer) → StepsBy which at task floor old new answer → Leaves which old new answer
step_leaves rule.Nothing at task floor old new answer steps = staying (rest_mark old new steps.0)
step_leaves rule.Stale at task floor old new answer steps = staying (rest_mark old new steps.0)
step_leaves rule.Connect at task floor old new answer steps = staying (sent_mark old new steps.1)
step_leaves (rule.Acknowledge stage) at task floor old new answer steps = staying (sent_mark old new steps.1)
step_leaves (rule.Execute stage) at task floor old new answer steps = staying (sent_mark old new steps.1)
step_leaves rule.Receive at task floor old new answer steps = staying (received_mark task at old.reception new.reception old.disk new.disk old.received new.received answer steps.0)
step_leaves rule.Complete at task floor old new answer steps = completing refl steps.0

-- a fact of the mark stays with it
pub marked_still : (number : ℕ) (told now : Option DiskImage) → KeepsMark told now → ForTold told (IsInProgress number) → ForTold now (IsInProgress number)
marked_still number told None keeps is = tt
marked_still number None (Some m) keeps is = absurd (cc)
marked_still number (Some was) (Some m) keeps is = let same : m.mark ≡ was.mark = cc in same ∙ is

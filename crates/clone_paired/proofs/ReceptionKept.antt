-- What a reception keeps by itself it keeps over each step of a task.
use Rattle.std.proofs.Common.{ℕ, ◌≡◌, ◌≢◌, ◌∙◌, ◌⊎◌, ◌+◌, ◌≤◌, List, [], Bool, true, false, if◌then◌else◌, Option, None, Some, length, replicate, refl, sym, ap, subst, inl, inr, arith}
use Rattle.std.specs.Prelude.{not, nat_lt, slice_set, is_none, ◌==◌, ◌&&◌, ◌||◌}
use Rattle.std.proofs.lemmas.Bool.{and_parts, eqb-true, ltb-false}
use Rattle.std.proofs.lemmas.List.{length-replicate}
use Rattle.clone_base.specs.declared.limits.TheConstants.{MOST_LOSSES, MOST_TASKS}
use Rattle.clone_outside.specs.Disk.{DiskImage}
use Rattle.clone_outside.specs.DiskCalls.{DiskState}
use Rattle.clone_chunk.specs.declared.copy_stage.CopyStage.{CopyStage}
use Rattle.clone_chunk.specs.declared.copy_stage.CopyStage.TheVariants as copy
use Rattle.clone_chunk.specs.declared.plan.StagePlan.{StagePlan}
use Rattle.clone_chunk.specs.declared.plan.StagePlan.TheVariants as plan
use Rattle.clone_marks.specs.Blocks.{all_finished, is_left}
use Rattle.clone_marks.specs.declared.chunk_marks.ChunkMarks.{ChunkMarks}
use Rattle.clone_marks.specs.Counts.{block_counts, counted_pages, pairs_of, unmarked}
use Rattle.clone_snapshot.specs.StageLists.{Files, Redo}
use Rattle.clone_wire.specs.Spelling.{spelling}
use Rattle.clone_wire.specs.declared.frame.Frame.{Frame}
use Rattle.clone_wire.specs.declared.frame.Frame.TheVariants as frame
use Rattle.clone_tasks.proofs.StandLemmas.{all_apart, all_begin, all_still, one_stands}
use Rattle.clone_tasks.specs.Awaiting.{awaits_block, awaits_end_of, is_present, moves}
use Rattle.clone_tasks.specs.Losing.{after_loss, counted_table, is_spent}
use Rattle.clone_tasks.specs.Rules.{acknowledges, asks, connecting, is_absent, is_stale, next_in, rule_at, rule_of, takes_part}
use Rattle.clone_tasks.specs.Sending.{kept_floor}
use Rattle.clone_tasks.specs.Tables.{AreStandings, IsBounded, IsTable, Table, any_awaits_end, awaits, incarnation_of, is_apart, is_done, is_running, standing_of}
use Rattle.clone_tasks.specs.declared.end.CloneEnd.{CloneEnd}
use Rattle.clone_tasks.specs.declared.end.CloneEnd.TheVariants as end
use Rattle.clone_tasks.specs.declared.rule.Link.{Link}
use Rattle.clone_tasks.specs.declared.rule.Link.TheVariants as link
use Rattle.clone_tasks.specs.declared.rule.Rule.{Rule as TaskRule}
use Rattle.clone_tasks.specs.declared.rule.Rule.TheVariants as rule
use Rattle.clone_tasks.specs.declared.standing.Phase.{Phase}
use Rattle.clone_tasks.specs.declared.standing.Phase.TheVariants.{Opening, Copying, Done}
use Rattle.clone_tasks.specs.declared.standing.Standing.{Standing}
use Rattle.clone_tasks.specs.declared.standing.Standing.TheVariants.{Acknowledging, Apart, Fetching, Joining, Ready, Served}
use Rattle.clone_recipient.specs.Expecting.{copied_in, fits_pages, fits_redo, is_expected}
use Rattle.clone_recipient.specs.Receptions.{AreCounted, Reception, begun}
use Rattle.clone_recipient.specs.Taking.{HasMarked, Takes, TakesStage, moved_by}
use Rattle.clone_fetch.specs.Fetching as fetch
use Rattle.clone_fetch.specs.Fetching.{Breaks, Completes, PutsOut, Receives, Requester, StepsBy, TakesFrame, ended_as, with_loss, with_sent}
use Rattle.clone_fetch.specs.declared.answer.TaskAnswer.{TaskAnswer}
use Rattle.clone_network.specs.Connections.{link_over}
use Rattle.clone_network.specs.Networks as network
use Rattle.clone_network.specs.Networks.{Network, StepsTask}
use Rattle.clone_paired.specs.Paired.{IsReception}

abbrev Keeps : Reception → Type 0
Keeps s = IsTable s.table.count s.table.version s.table.limit s.table.losses s.table.ended × AreStandings s.table.standings s.table.marks

-- ---- what a rule says

abbrev Says : Table → ℕ → TaskRule → Type 0
Says t task (rule.Acknowledge stage) = (task ≡ 0) × (all_finished t.marks ≡ true)
Says t task rule.Receive = is_running t ≡ true
Says t task other = Unit {0}

module _ (t : Table) (task : ℕ) where
  connecting_says : (b : Bool) → Says t task (if b then rule.Connect else rule.Nothing)
  connecting_says true = tt
  connecting_says false = tt

  asks_says : (stage : CopyStage) (b : Bool) → Says t task (if b then rule.Execute stage else rule.Nothing)
  asks_says stage true = tt
  asks_says stage false = tt

  ack_says : (standing : Standing) → acknowledges t task standing ≡ true → (task ≡ 0) × (all_finished t.marks ≡ true)
  ack_says standing is =
      let parts = and_parts (not (is_apart standing) && (task == 0) && all_finished t.marks) (not (any_awaits_end t)) is in
      let more = and_parts (not (is_apart standing) && (task == 0)) (all_finished t.marks) parts.0 in
      let zero = and_parts (not (is_apart standing)) (task == 0) more.0 in
      (eqb-true task 0 zero.1, more.1)

  copying_says : (stage : CopyStage) (standing : Standing) (b : Bool) → acknowledges t task standing ≡ b → Says t task (if b then rule.Acknowledge stage else (if asks t standing then rule.Execute stage else rule.Nothing))
  copying_says stage standing true is = ack_says standing is
  copying_says stage standing false is = asks_says stage (asks t standing)

  next_says : (phase : Phase) (standing : Standing) → Says t task (next_in phase t task standing)
  next_says Opening standing = tt
  next_says (Copying stage) standing = copying_says stage standing (acknowledges t task standing) refl
  next_says Done standing = tt

  waits_says : (b : Bool) → is_running t ≡ true → Says t task (if b then rule.Receive else next_in t.phase t task (standing_of t task))
  waits_says true running = running
  waits_says false running = next_says t.phase (standing_of t task)

  absent_says : (b : Bool) → is_running t ≡ true → Says t task (if b then connecting t task (standing_of t task) else (if awaits (standing_of t task) then rule.Receive else next_in t.phase t task (standing_of t task)))
  absent_says true running = connecting_says (is_apart (standing_of t task) && ((task == 0) || t.joined))
  absent_says false running = waits_says (awaits (standing_of t task)) running

  part_says : (at : Link) (b : Bool) → takes_part t task ≡ b → Says t task (if not b then rule.Nothing else (if is_absent at && not (is_done t.phase) then connecting t task (standing_of t task) else (if awaits (standing_of t task) then rule.Receive else next_in t.phase t task (standing_of t task))))
  part_says at false is = tt
  part_says at true is =
      let parts = and_parts (nat_lt task t.count && is_running t) (not (is_done t.phase) || (task == 0)) is in
      absent_says (is_absent at && not (is_done t.phase)) (and_parts (nat_lt task t.count) (is_running t) parts.0).1

  rule_says : (made : Option ℕ) (at : Link) → Says t task (rule_at made t task at)
  rule_says made at = by (is_stale made (incarnation_of t) at)
    where
      by : (b : Bool) → Says t task (if b then rule.Stale else rule_of t task at)
      by true = tt
      by false = part_says at (takes_part t task) refl

-- ---- the steps

module _ (r : Reception) (own : IsReception r) where
  as_is : (s : Reception) → s ≡ r → Keeps s
  as_is s is = subst Keeps (sym is) (own.table, own.standings)

  -- the clone has ended
  ended_table : (how : CloneEnd) → IsTable r.table.count r.table.version r.table.limit r.table.losses (Some how)
  ended_table how = record { some = own.table.some; few = own.table.few; first = own.table.first; second = own.table.second; bounded = own.table.bounded; counted = (own.table.counted.0, λ on. absurd (cc (on))) }

  ended_keeps : (s : Reception) (how : CloneEnd) (x : Reception) → x.table ≡ r.table → s ≡ ended_as how x → Keeps s
  ended_keeps s how x same is = subst Keeps (sym is) (subst (λ (t : Table). Keeps (record x { table = record t { ended = Some how } })) (sym same) (ended_table how, own.standings))

  sent_keeps : (which : TaskRule) (task floor : ℕ) → Says r.table task which → Keeps (with_sent which task floor r)
  sent_keeps rule.Connect task floor says = (own.table, one_stands r.table.standings task Joining r.table.marks own.standings tt)
  sent_keeps (rule.Execute stage) task floor says = (own.table, one_stands r.table.standings task Fetching r.table.marks own.standings tt)
  sent_keeps (rule.Acknowledge stage) task floor says = (own.table, one_stands r.table.standings task Acknowledging r.table.marks own.standings says)
  sent_keeps other task floor says = (own.table, own.standings)

  puts_keeps : (which : TaskRule) (task floor : ℕ) (s : Reception) (sent put : List ℕ) (answer : TaskAnswer) → Says r.table task which → PutsOut which task floor r s sent put answer → Keeps s
  puts_keeps which task floor s sent put answer says (fetch.puts next of is sets bytes heard) = subst Keeps (sym sets) (sent_keeps which task floor says)
  puts_keeps which task floor s sent put answer says (fetch.no_frame sets bytes heard) = as_is s sets
  puts_keeps which task floor s sent put answer says (fetch.no_bytes sets bytes heard) = subst Keeps (sym sets) (sent_keeps which task floor says)

  breaks_keeps : (bytes : List ℕ) (s : Reception) (answer : TaskAnswer) → Breaks bytes r s answer → Keeps s
  breaks_keeps bytes s answer (fetch.breaks kept is sets heard) = ended_keeps s (end.Garbled kept) r refl sets
  breaks_keeps bytes s answer (fetch.not_kept sets heard) = as_is s sets

  stage_keeps : (moved : Bool) (p : StagePlan) (task : ℕ) (s : Reception) (told now : Option DiskImage) → TakesStage moved p task r s told now → Keeps s
  stage_keeps false p task s told now takes = subst Keeps (sym takes.0) (own.table, one_stands r.table.standings task Ready r.table.marks own.standings tt)
  stage_keeps true p task s told now takes = subst Keeps (sym takes.0) (by p)
    where
      by : (p : StagePlan) → Keeps (record (moved_by p r) { sizes = s.sizes })
      by (plan.FileCopy chunks spaces) = (own.table, all_begin r.table.standings r.table.marks (unmarked (block_counts (Files (pairs_of spaces)))) own.standings)
      by (plan.PageCopy chunks position spaces) = (own.table, all_begin r.table.standings r.table.marks (unmarked (block_counts (counted_pages position))) own.standings)
      by (plan.RedoCopy chunks checkpoint lsn position) = (own.table, all_begin r.table.standings r.table.marks (unmarked (block_counts (Redo checkpoint lsn))) own.standings)
      by (plan.Done checkpoint lsn position) = (own.table, all_begin r.table.standings r.table.marks r.table.marks own.standings)

  block_keeps : (task chunk block : ℕ) (stage : CopyStage) (s : Reception) → awaits_block r.table task stage chunk block ≡ true → HasMarked chunk block r s → Keeps s
  block_keeps task chunk block stage s awaited took = subst (λ (t : Table). Keeps (record s { table = t })) (sym took.table.else_same) (own.table, all_still r.table.standings r.table.marks s.table.marks chunk block (and_parts (awaits_end_of r.table task stage) (is_left r.table.marks chunk block) awaited).1 own.standings)

  frame_keeps : (task : ℕ) (got : Frame) (s : Reception) (told now : Option DiskImage) → is_expected r task got ≡ true → Takes got task r s told now → Keeps s
  frame_keeps task (frame.Stage attempt p) s told now ok takes = stage_keeps (moves r.table task) p task s told now takes
  frame_keeps task (frame.Pages attempt stage chunk block pages) s told now ok takes = block_keeps task chunk block (copied_in stage) s (and_parts (is_present r.table attempt) (awaits_block r.table task (copied_in stage) chunk block) (and_parts (is_present r.table attempt && awaits_block r.table task (copied_in stage) chunk block) (fits_pages stage r chunk block pages) ok).0).1 takes.0
  frame_keeps task (frame.Redo attempt chunk block from bytes) s told now ok takes = block_keeps task chunk block copy.RedoCopy s (and_parts (is_present r.table attempt) (awaits_block r.table task copy.RedoCopy chunk block) (and_parts (is_present r.table attempt && awaits_block r.table task copy.RedoCopy chunk block) (fits_redo r chunk block from bytes) ok).0).1 takes.0
  frame_keeps task (frame.End attempt stage) s told now ok takes = subst Keeps (sym takes.0) (own.table, one_stands r.table.standings task Served r.table.marks own.standings tt)
  frame_keeps task (frame.Refused cause) s told now ok takes = ended_keeps s (end.Refused cause) r refl takes.0
  frame_keeps task other s told now ok takes = absurd takes

  takes_keeps : (task : ℕ) (got : Frame) (s : Reception) (before after : DiskState) (answer : TaskAnswer) → TakesFrame task got r s before after answer → Keeps s
  takes_keeps task got s before after answer (fetch.accepts ok takes heard) = frame_keeps task got s before.told after.told ok takes
  takes_keeps task got s before after answer (fetch.rejects ok broken same) = breaks_keeps (spelling got) s answer broken
  takes_keeps task got s before after answer (fetch.not_laid ok keeps sets heard) = ended_keeps s end.DiskFault (record r { sizes = s.sizes }) refl sets
  takes_keeps task got s before after answer (fetch.no_room ok keeps sets heard) = subst Keeps (sym sets) (own.table, own.standings)

  -- a loss: as many as the limit outlasts, or one more
  lost_keeps : is_running r.table ≡ true → Keeps (with_loss r)
  lost_keeps running = by (is_spent (after_loss r.table)) refl
    where
      most : r.table.losses ≤ r.table.limit
      most = own.table.counted.1 running

      apart : AreStandings (after_loss r.table).standings (after_loss r.table).marks
      apart = all_apart MOST_TASKS (after_loss r.table).marks

      by : (b : Bool) → is_spent (after_loss r.table) ≡ b → Keeps (record r { table = if b then record (after_loss r.table) { ended = Some (end.Spent (after_loss r.table).losses) } else after_loss r.table })
      by true is = (record { some = own.table.some; few = own.table.few; first = own.table.first; second = own.table.second; bounded = own.table.bounded; counted = (omega (arith, most), λ on. absurd (cc (on))) }, apart)
      by false is = (record { some = own.table.some; few = own.table.few; first = own.table.first; second = own.table.second; bounded = own.table.bounded; counted = (omega (arith, most), λ on. ltb-false r.table.limit (r.table.losses + 1) is) }, apart)

  receives_keeps : (task : ℕ) (at : Link) (s : Reception) (before after : DiskState) (received left : List ℕ) (answer : TaskAnswer) → is_running r.table ≡ true → Receives task at r s before after received left answer → Keeps s
  receives_keeps task at s before after received left answer running (fetch.takes got of is takes) = takes_keeps task got s before after answer takes
  receives_keeps task at s before after received left answer running (fetch.garbled lost broken same keeps) = breaks_keeps received s answer broken
  receives_keeps task at s before after received left answer running (fetch.loses lost part sets same keeps heard) = subst Keeps (sym sets) (lost_keeps running)
  receives_keeps task at s before after received left answer running (fetch.waits up part sets same keeps heard) = as_is s sets
  receives_keeps task at s before after received left answer running (fetch.not_read sets same keeps heard) = as_is s sets

  completes_keeps : (s : Reception) (told now : Option DiskImage) (sent put : List ℕ) (answer : TaskAnswer) → Completes r s told now sent put answer → Keeps s
  completes_keeps s told now sent put answer (fetch.completes last is steps sets bytes heard) = ended_keeps s (end.Complete r.lsn r.position) (record r { synced = true }) refl sets
  completes_keeps s told now sent put answer (fetch.not_completed last is steps sets bytes heard) = ended_keeps s end.DiskFault r refl sets
  completes_keeps s told now sent put answer (fetch.not_marked last is steps sets bytes heard) = as_is s sets
  completes_keeps s told now sent put answer (fetch.not_left last is steps sets bytes heard) = subst Keeps (sym sets) (own.table, own.standings)

steps_keeps : (which : TaskRule) (at : Link) (task floor : ℕ) (old new : Requester) (answer : TaskAnswer) → IsReception old.reception → Says old.reception.table task which → StepsBy which at task floor old new answer → Keeps new.reception
steps_keeps rule.Nothing at task floor old new answer own says s = as_is old.reception own new.reception (ap (λ (z : Requester). z.reception) s.0)
steps_keeps rule.Stale at task floor old new answer own says s = as_is old.reception own new.reception (ap (λ (z : Requester). z.reception) s.0)
steps_keeps rule.Connect at task floor old new answer own says s = puts_keeps old.reception own rule.Connect task floor new.reception old.sent new.sent answer says s.0
steps_keeps (rule.Acknowledge stage) at task floor old new answer own says s = puts_keeps old.reception own (rule.Acknowledge stage) task floor new.reception old.sent new.sent answer says s.0
steps_keeps (rule.Execute stage) at task floor old new answer own says s = puts_keeps old.reception own (rule.Execute stage) task floor new.reception old.sent new.sent answer says s.0
steps_keeps rule.Receive at task floor old new answer own says s = receives_keeps old.reception own task at new.reception old.disk new.disk old.received new.received answer says s.0
steps_keeps rule.Complete at task floor old new answer own says s = completes_keeps old.reception own new.reception old.disk.told new.disk.told old.sent new.sent answer s.0

keeps_step : (r s : Reception) (d e : DiskState) (n m : Network) (task floor : ℕ) (answer : TaskAnswer) → IsReception r → StepsTask task floor r s d e n m answer → Keeps s
keeps_step r s d e n m task floor answer own (network.over seat number at after made has is there f net) = steps_keeps (rule_at seat.made r.table task (link_over at)) (link_over at) task floor _ _ answer own (rule_says r.table task seat.made (link_over at)) f.steps
keeps_step r s d e n m task floor answer own (network.apart seat after connections has is c net) = steps_keeps (rule_at seat.made r.table task link.Absent) link.Absent task floor _ _ answer own (rule_says r.table task seat.made link.Absent) c.steps
keeps_step r s d e n m task floor answer own (network.absent none rests heard) = as_is r own s rests.reception
keeps_step r s d e n m task floor answer own (network.no_room rests heard) = as_is r own s rests.reception

-- A RECEPTION STAYS ONE, where its lists are bounded and counted.
pub reception_kept : (r s : Reception) (d e : DiskState) (n m : Network) (task floor : ℕ) (answer : TaskAnswer) → IsReception r → StepsTask task floor r s d e n m answer → IsBounded s.table → AreCounted s.table.phase s → IsReception s
reception_kept r s d e n m task floor answer own step bounded counted = let keeps = keeps_step r s d e n m task floor answer own step in record { table = keeps.0; standings = keeps.1; bounded = bounded; counted = counted }

pub reception_begins : (number count limit version : ℕ) → 1 ≤ count → count ≤ MOST_TASKS → 1 ≤ version → version ≤ 2 → limit ≤ MOST_LOSSES → IsReception (begun number count limit version)
reception_begins number count limit version some few first second bounded = record {
  table = record { some = some; few = few; first = first; second = second; bounded = bounded; counted = (omega arith, λ on. omega arith) };
  standings = all_apart MOST_TASKS [];
  bounded = record { places = length-replicate MOST_TASKS Apart; tasks = few; chunks = λ j d small. absurd (omega (arith, small)); few = omega arith };
  counted = tt;
}

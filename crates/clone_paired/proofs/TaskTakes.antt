-- A step by which a task takes an answer keeps the clone paired.
use Rattle.std.proofs.Common.{ℕ, ◌≡◌, ◌∙◌, ◌⊎◌, List, [], ◌∷◌, ◌++◌, Bool, true, false, if◌then◌else◌, Option, None, Some, get_or, length, map, set, refl, sym, ap, subst, inl, inr}
use Rattle.std.specs.Prelude.{not, ◌&&◌, IfSome}
use Rattle.std.proofs.lemmas.Bool.{and_parts}
use Rattle.clone_outside.specs.Disk.{DiskImage}
use Rattle.clone_outside.specs.DiskCalls.{DiskState}
use Rattle.clone_chunk.specs.Plans as plans
use Rattle.clone_chunk.specs.Stages.{stage_number}
use Rattle.clone_chunk.specs.declared.copy_stage.CopyStage.TheVariants as copy
use Rattle.clone_chunk.specs.declared.plan.StagePlan.{StagePlan}
use Rattle.clone_chunk.specs.declared.plan.StagePlan.TheVariants as plan
use Rattle.clone_marks.specs.Counts.{block_counts, counted_pages, pairs_of}
use Rattle.clone_snapshot.specs.StageLists.{Files, Redo}
use Rattle.clone_session.specs.Cloning.{Session}
use Rattle.clone_wire.specs.Spelling.{spelling}
use Rattle.clone_wire.specs.declared.frame.Attempt.{Attempt}
use Rattle.clone_wire.specs.declared.frame.Frame.{Frame}
use Rattle.clone_wire.specs.declared.frame.Frame.TheVariants as frame
use Rattle.clone_wire.specs.declared.frame.Side.TheVariants.{Answer as ofDonor}
use Rattle.clone_stream.specs.Streams.{IsFrameOf}
use Rattle.clone_tasks.specs.Awaiting.{awaits_block, awaits_end_of, awaits_stage, is_present, moves}
use Rattle.clone_tasks.specs.Losing.{after_loss, is_spent}
use Rattle.clone_tasks.specs.Rules.{rule_at, sending_rule}
use Rattle.clone_tasks.specs.Tables.{Table, awaits, incarnation_of, is_done, is_running, renewed, standing_of}
use Rattle.clone_tasks.specs.declared.end.CloneEnd.TheVariants as end
use Rattle.clone_tasks.specs.declared.rule.Link.{Link}
use Rattle.clone_tasks.specs.declared.rule.Link.TheVariants as link
use Rattle.clone_tasks.specs.declared.rule.Rule.{Rule as TaskRule}
use Rattle.clone_tasks.specs.declared.rule.Rule.TheVariants as rule
use Rattle.clone_tasks.specs.declared.standing.Phase.TheVariants.{Copying}
use Rattle.clone_tasks.specs.declared.standing.Standing.{Standing}
use Rattle.clone_tasks.specs.declared.standing.Standing.TheVariants.{Apart, Ready}
use Rattle.clone_recipient.specs.Expecting.{copied_in, fits, fits_pages, fits_redo, is_expected}
use Rattle.clone_recipient.specs.Receptions.{Reception}
use Rattle.clone_recipient.specs.declared.took.Took.{Took}
use Rattle.clone_recipient.specs.Taking.{Takes, TakesStage, moved_by}
use Rattle.clone_fetch.specs.Fetching as fetch
use Rattle.clone_fetch.specs.Fetching.{Breaks, Completes, PutsOut, Receives, Requester, StepsBy, TakesFrame, made_by, refusal_in, requester, says_of}
use Rattle.clone_fetch.specs.declared.answer.TaskAnswer.{TaskAnswer}
use Rattle.clone_fetch.specs.declared.answer.TaskAnswer.TheVariants as told
use Rattle.clone_network.specs.Connections.{Connection, link_over, sent_behind, unread_then}
use Rattle.clone_network.specs.Networks as network
use Rattle.clone_network.specs.Networks.{Fetches, Network, Seat, StepsTask, with_connection}
use Rattle.clone_network.proofs.CourseLemmas.{Terms, course}
use Rattle.clone_rounds.specs.World.{Block}
use Rattle.clone_view.specs.Rows.{place_of}
use Rattle.clone_paired.specs.Lines.{connection_of, made_of}
use Rattle.clone_paired.specs.Paired.{HasCopied, IsCopying, IsPaired, IsReception, IsTalking}
use Rattle.clone_paired.specs.Seen.{IsSeen, stage_at}
use Rattle.clone_paired.specs.Sessions.{Copies}
use Rattle.clone_paired.specs.Speaking.{IsGiven, Tells, TellsOf}
use Rattle.clone_paired.specs.Unread.{Holds}
use Rattle.clone_paired.proofs.Advancing.{move_read, stage_is, zero_is}
use Rattle.clone_paired.proofs.Expected.{copied_number, expected}
use Rattle.clone_paired.proofs.Linked.{Linked, Same, apart_is, same_connection}
use Rattle.clone_paired.proofs.Marking.{block_read}
use Rattle.clone_paired.proofs.PageCounts.{pages_counted}
use Rattle.clone_paired.proofs.QuietTasks.{rule_over}
use Rattle.clone_paired.proofs.Reading.{end_read, read_on, stage_read}
use Rattle.clone_paired.proofs.Lookups.{connection_is}
use Rattle.clone_paired.proofs.Stuck.{link_there}
use Rattle.clone_paired.proofs.TaskSends.{IsLast, last_apart, last_over, net_over, seats_long}
use Rattle.clone_paired.proofs.UnreadLemmas.{Reads, holds_none, holds_read}

if_any : {X : Type 0} (P : Type 0) (o : Option X) → P → IfSome o (λ x. P)
if_any P None p = tt
if_any P (Some x) p = p

ready_first : (standings : List Standing) → awaits (get_or (map renewed (set standings 0 Ready)) 0 Apart) ≡ false
ready_first [] = refl
ready_first (s ∷ standings) = refl

module _ (session : Option Session) (r s : Reception) (n : Network) (own : IsReception r) (own_s : IsReception s) (tasks : length n.seats ≡ r.table.count) (running : is_running r.table ≡ true) (going : is_done r.table.phase ≡ false) (talks : IsTalking session r n) (w : IsSeen r.table session n talks.lines talks.known) (k : ℕ) (x : Linked session r n talks.lines talks.known w.rounds k) (receives : sending_rule r.table k ≡ rule.Receive) (left : List ℕ) (more : List Frame) (holds : Holds ofDonor x.at.cut more left) (told_old now : Option DiskImage) where
  abbrev m : Network
  m = with_connection x.number (read_on x.at left) n

  abbrev Goes : Type 0
  Goes = IsCopying session s m ⊎ HasCopied s m

  talking : s.table.phase ≡ r.table.phase → IsTalking session s m → Goes
  talking same t = inl (record { going = ap is_done same ∙ going; talking = t })

  by_plan : (attempt : Attempt) (told_plan : StagePlan) (unread : x.l.answers ≡ frame.Stage attempt told_plan ∷ more) → awaits_stage r.table k (plans.stage_of told_plan) ≡ true → moves r.table k ≡ true → TellsOf session told_plan → s ≡ record (moved_by told_plan r) { sizes = s.sizes } → Goes
  by_plan attempt told_plan unread awaited moving tells is = at told_plan unread awaited tells is
    where
      reached : (p : StagePlan) (unread : x.l.answers ≡ frame.Stage attempt p ∷ more) → awaits_stage r.table k (plans.stage_of p) ≡ true → stage_at session ≡ stage_number (plans.stage_of p)
      reached p unread awaited = stage_is session r n own tasks running talks k x.number x.at x.l x.has x.there x.line x.of receives (frame.Stage attempt p) more left unread holds attempt p refl awaited moving

      told_of : (p : StagePlan) (unread : x.l.answers ≡ frame.Stage attempt p ∷ more) → awaits_stage r.table k (plans.stage_of p) ≡ true → TellsOf session p → (y : Session) → session ≡ Some y → Tells p y.snap.list
      told_of p unread awaited tells y e = (subst (λ (o : Option Session). TellsOf o p) e tells) (sym (reached p unread awaited) ∙ ap stage_at e)

      at : (p : StagePlan) (unread : x.l.answers ≡ frame.Stage attempt p ∷ more) → awaits_stage r.table k (plans.stage_of p) ≡ true → TellsOf session p → s ≡ record (moved_by p r) { sizes = s.sizes } → Goes
      at (plan.FileCopy chunks spaces) unread awaited tells is = inl (record {
        going = ap (λ (z : Reception). is_done z.table.phase) is;
        talking = move_read session r n own tasks running talks k x.number x.at x.l x.has x.there x.line x.of receives (frame.Stage attempt (plan.FileCopy chunks spaces)) more left unread holds attempt (plan.FileCopy chunks spaces) refl awaited moving s (Copying copy.FileCopy) (block_counts (Files (pairs_of spaces))) (ap (λ (z : Reception). z.table) is) refl own_s.bounded.chunks (λ y e. ap block_counts (told_of (plan.FileCopy chunks spaces) unread awaited tells y e)) (λ y e. subst (λ (z : Reception). Copies z.table.phase z y.snap.list) (sym is) (told_of (plan.FileCopy chunks spaces) unread awaited tells y e));
      })
      at (plan.PageCopy chunks position spaces) unread awaited tells is = inl (record {
        going = ap (λ (z : Reception). is_done z.table.phase) is;
        talking = move_read session r n own tasks running talks k x.number x.at x.l x.has x.there x.line x.of receives (frame.Stage attempt (plan.PageCopy chunks position spaces)) more left unread holds attempt (plan.PageCopy chunks position spaces) refl awaited moving s (Copying copy.PageCopy) (block_counts (counted_pages position)) (ap (λ (z : Reception). z.table) is) refl own_s.bounded.chunks (λ y e. counted y (told_of (plan.PageCopy chunks position spaces) unread awaited tells y e)) (λ y e. subst (λ (z : Reception). Copies z.table.phase z y.snap.list) (sym is) (told_of (plan.PageCopy chunks position spaces) unread awaited tells y e));
      })
        where
          counted : (y : Session) → Tells (plan.PageCopy chunks position spaces) y.snap.list → block_counts y.snap.list ≡ block_counts (counted_pages position)
          counted y (pages, list_is, long) = ap block_counts list_is ∙ pages_counted pages position long
      at (plan.RedoCopy chunks checkpoint lsn position) unread awaited tells is = inl (record {
        going = ap (λ (z : Reception). is_done z.table.phase) is;
        talking = move_read session r n own tasks running talks k x.number x.at x.l x.has x.there x.line x.of receives (frame.Stage attempt (plan.RedoCopy chunks checkpoint lsn position)) more left unread holds attempt (plan.RedoCopy chunks checkpoint lsn position) refl awaited moving s (Copying copy.RedoCopy) (block_counts (Redo checkpoint lsn)) (ap (λ (z : Reception). z.table) is) refl own_s.bounded.chunks (λ y e. ap block_counts (told_of (plan.RedoCopy chunks checkpoint lsn position) unread awaited tells y e)) (λ y e. subst (λ (z : Reception). Copies z.table.phase z y.snap.list) (sym is) (told_of (plan.RedoCopy chunks checkpoint lsn position) unread awaited tells y e));
      })
      at (plan.Done checkpoint lsn position) unread awaited tells is = inr (record {
        done = ap (λ (z : Reception). is_done z.table.phase) is;
        rests = ap (λ (z : Reception). awaits (standing_of z.table 0)) is ∙ ready_first r.table.standings;
        made = if_any (made_of n 0 ≡ Some (incarnation_of s.table)) (connection_of n 0) (ap (made_of n) (sym zero) ∙ x.made ∙ ap (λ (z : Reception). Some (incarnation_of z.table)) (sym is));
      })
        where
          zero : k ≡ 0
          zero = zero_is session r n own tasks running talks k x.number x.at x.l x.has x.there x.line x.of receives (frame.Stage attempt (plan.Done checkpoint lsn position)) more left unread holds attempt (plan.Done checkpoint lsn position) refl awaited moving

  by_stage : (attempt : Attempt) (told_plan : StagePlan) → x.l.answers ≡ frame.Stage attempt told_plan ∷ more → awaits_stage r.table k (plans.stage_of told_plan) ≡ true → TellsOf session told_plan → (moved : Bool) → moves r.table k ≡ moved → TakesStage moved told_plan k r s told_old now → Goes
  by_stage attempt told_plan unread awaited tells true moving takes = by_plan attempt told_plan unread awaited moving tells takes.0
  by_stage attempt told_plan unread awaited tells false stays takes = talking (ap (λ (z : Reception). z.table.phase) takes.0) (subst (λ (z : Reception). IsTalking session z m) (sym takes.0) (stage_read session r n own tasks running talks k x.number x.at x.l x.has x.there x.line x.of receives (frame.Stage attempt told_plan) more left unread holds attempt told_plan refl awaited stays))

  -- by the frame
  pub took_goes : (got : Frame) → x.l.answers ≡ got ∷ more → is_expected r k got ≡ true → IsGiven session r got → Takes got k r s told_old now → Goes
  took_goes (frame.Stage attempt told_plan) unread ok given takes = by_stage attempt told_plan unread (and_parts (is_present r.table attempt) (awaits_stage r.table k (plans.stage_of told_plan)) (and_parts (is_present r.table attempt && awaits_stage r.table k (plans.stage_of told_plan)) (fits told_plan) ok).0).1 given.2 (moves r.table k) refl takes
  took_goes (frame.Pages attempt stage chunk block pages) unread ok given takes = talking (ap (λ (t : Table). t.phase) takes.0.table.else_same) (block_read session r n own tasks running talks k x.number x.at x.l x.has x.there x.line x.of receives (frame.Pages attempt stage chunk block pages) more left unread holds s (copied_in stage) chunk block takes.0 own_s.bounded.chunks (λ counts. ap (λ (c : ℕ). Some (Block c (place_of (counts c) chunk block))) (sym (copied_number stage))) (and_parts (is_present r.table attempt) (awaits_block r.table k (copied_in stage) chunk block) (and_parts (is_present r.table attempt && awaits_block r.table k (copied_in stage) chunk block) (fits_pages stage r chunk block pages) ok).0).1)
  took_goes (frame.Redo attempt chunk block from bytes) unread ok given takes = talking (ap (λ (t : Table). t.phase) takes.0.table.else_same) (block_read session r n own tasks running talks k x.number x.at x.l x.has x.there x.line x.of receives (frame.Redo attempt chunk block from bytes) more left unread holds s copy.RedoCopy chunk block takes.0 own_s.bounded.chunks (λ counts. refl) (and_parts (is_present r.table attempt) (awaits_block r.table k copy.RedoCopy chunk block) (and_parts (is_present r.table attempt && awaits_block r.table k copy.RedoCopy chunk block) (fits_redo r chunk block from bytes) ok).0).1)
  took_goes (frame.End attempt stage) unread ok given takes = talking (ap (λ (z : Reception). z.table.phase) takes.0) (subst (λ (z : Reception). IsTalking session z m) (sym takes.0) (end_read session r n own tasks running talks k x.number x.at x.l x.has x.there x.line x.of receives (frame.End attempt stage) more left unread holds attempt stage refl (and_parts (is_present r.table attempt) (awaits_end_of r.table k stage) ok).1))
  took_goes got unread ok given takes = absurd given

-- ---- a step that takes an answer

abbrev IsTaking : TaskAnswer → Type 0
IsTaking (told.Took took) = Unit {0}
IsTaking other = ⊥

pub record HasTook (task : ℕ) (old new : Requester) : Type 0 where
  pub got : Frame
  pub of : IsFrameOf ofDonor got
  pub received : old.received ≡ spelling got ++ new.received
  pub ok : is_expected old.reception task got ≡ true
  pub takes : Takes got task old.reception new.reception old.disk.told new.disk.told
  pub sent : new.sent ≡ old.sent

other_way : {X : Type 0} (answer other : TaskAnswer) → IsTaking answer → answer ≡ other → (IsTaking other → ⊥) → X
other_way answer other takes is never = absurd (never (subst IsTaking is takes))

puts_other : {X : Type 0} (which : TaskRule) (task floor : ℕ) (old new : Reception) (sent put : List ℕ) (answer : TaskAnswer) → PutsOut which task floor old new sent put answer → IsTaking answer → X
puts_other which task floor old new sent put answer (fetch.puts next of is sets bytes says) takes = other_way answer _ takes says (λ q. q)
puts_other which task floor old new sent put answer (fetch.no_frame sets bytes says) takes = other_way answer _ takes says (λ q. q)
puts_other which task floor old new sent put answer (fetch.no_bytes sets bytes says) takes = other_way answer _ takes says (λ q. q)

breaks_other : {X : Type 0} (bytes : List ℕ) (old new : Reception) (answer : TaskAnswer) → Breaks bytes old new answer → IsTaking answer → X
breaks_other bytes old new answer (fetch.breaks kept is sets says) takes = other_way answer _ takes says (λ q. q)
breaks_other bytes old new answer (fetch.not_kept sets says) takes = other_way answer _ takes says (λ q. q)

completes_other : {X : Type 0} (old new : Reception) (told_old now : Option DiskImage) (sent put : List ℕ) (answer : TaskAnswer) → Completes old new told_old now sent put answer → IsTaking answer → X
completes_other old new told_old now sent put answer (fetch.completes last is steps sets bytes says) takes = other_way answer _ takes says (λ q. q)
completes_other old new told_old now sent put answer (fetch.not_completed last is steps sets bytes says) takes = other_way answer _ takes says (λ q. q)
completes_other old new told_old now sent put answer (fetch.not_marked last is steps sets bytes says) takes = other_way answer _ takes says (λ q. q)
completes_other old new told_old now sent put answer (fetch.not_left last is steps sets bytes says) takes = other_way answer _ takes says (λ q. q)

frame_took : (task : ℕ) (old new : Requester) (answer : TaskAnswer) (got : Frame) → IsFrameOf ofDonor got → old.received ≡ spelling got ++ new.received → new.sent ≡ old.sent → TakesFrame task got old.reception new.reception old.disk new.disk answer → IsTaking answer → HasTook task old new
frame_took task old new answer got of is sent (fetch.accepts ok takes says) taking = record { got = got; of = of; received = is; ok = ok; takes = takes; sent = sent }
frame_took task old new answer got of is sent (fetch.rejects ok broken same) taking = breaks_other (spelling got) old.reception new.reception answer broken taking
frame_took task old new answer got of is sent (fetch.not_laid ok keeps sets says) taking = other_way answer _ taking says (λ q. q)
frame_took task old new answer got of is sent (fetch.no_room ok keeps sets says) taking = other_way answer _ taking says (λ q. q)

receives_took : (task : ℕ) (at : Link) (old new : Requester) (answer : TaskAnswer) → Receives task at old.reception new.reception old.disk new.disk old.received new.received answer → new.sent ≡ old.sent → IsTaking answer → HasTook task old new
receives_took task at old new answer (fetch.takes got of is takes) sent taking = frame_took task old new answer got of is sent takes taking
receives_took task at old new answer (fetch.garbled lost broken same keeps) sent taking = breaks_other old.received old.reception new.reception answer broken taking
receives_took task at old new answer (fetch.loses lost part sets same keeps says) sent taking = other_way answer _ taking says (never (is_spent (after_loss old.reception.table)))
  where
    never : (b : Bool) → IsTaking (if b then told.Ended (end.Spent (after_loss old.reception.table).losses) else told.Lost (after_loss old.reception.table).losses) → ⊥
    never true q = q
    never false q = q
receives_took task at old new answer (fetch.waits up part sets same keeps says) sent taking = other_way answer _ taking says (λ q. q)
receives_took task at old new answer (fetch.not_read sets same keeps says) sent taking = other_way answer _ taking says (λ q. q)

steps_took : (which : TaskRule) (at : Link) (task floor : ℕ) (old new : Requester) (answer : TaskAnswer) → StepsBy which at task floor old new answer → IsTaking answer → (which ≡ rule.Receive) × HasTook task old new
steps_took rule.Nothing at task floor old new answer s taking = other_way answer _ taking s.1 (λ q. q)
steps_took rule.Stale at task floor old new answer s taking = other_way answer _ taking s.1 (λ q. q)
steps_took rule.Connect at task floor old new answer s taking = puts_other rule.Connect task floor old.reception new.reception old.sent new.sent answer s.0 taking
steps_took (rule.Acknowledge stage) at task floor old new answer s taking = puts_other (rule.Acknowledge stage) task floor old.reception new.reception old.sent new.sent answer s.0 taking
steps_took (rule.Execute stage) at task floor old new answer s taking = puts_other (rule.Execute stage) task floor old.reception new.reception old.sent new.sent answer s.0 taking
steps_took rule.Receive at task floor old new answer s taking = (refl, receives_took task at old new answer s.0 s.1 taking)
steps_took rule.Complete at task floor old new answer s taking = completes_other old.reception new.reception old.disk.told new.disk.told old.sent new.sent answer s.0 taking

-- nothing is sent by it
pub unsent_bytes : (at : Connection) (sent : List ℕ) → sent ≡ sent_behind (not at.cut) at.to_donor → unread_then (not at.cut) at.to_donor sent ≡ at.to_donor
unsent_bytes at sent is = by at.cut is
  where
    by : (cut : Bool) → sent ≡ sent_behind (not cut) at.to_donor → unread_then (not cut) at.to_donor sent ≡ at.to_donor
    by true is = refl
    by false is = is

-- no frame is at the front of no bytes
none_there : {task : ℕ} {r : Reception} {d : DiskState} {new : Requester} → HasTook task (requester r d [] []) new → ⊥
none_there {new = new} h = let read : Reads ofDonor false [] h.got new.received = holds_read ofDonor false [] [] new.received h.got (holds_none ofDonor false) h.of h.received in cc (read.are)

-- A STEP THAT TAKES AN ANSWER
pub takes_paired : (session : Option Session) (r s : Reception) (d e : DiskState) (n m : Network) (task floor : ℕ) (took : Took) → IsReception r → IsReception s → IsPaired session r n → is_running r.table ≡ true → StepsTask task floor r s d e n m (told.Took took) → IsPaired session s m
takes_paired session r s d e n m task floor took own own_s p running step = record { tasks = seats_long r s d e n m task floor (told.Took took) step ∙ p.tasks ∙ sym (ap (λ (t : Terms). t.count) (course r s d e n m task floor (told.Took took) step).terms); goes = by p.goes step }
  where
    by : IsCopying session r n ⊎ HasCopied r n → StepsTask task floor r s d e n m (told.Took took) → IsCopying session s m ⊎ HasCopied s m
    by (inl c) (network.over seat number at after made has is there f net) = subst (λ (z : Network). IsCopying session s z ⊎ HasCopied s z) (sym net_is) (took_goes session r s n own own_s p.tasks running c.going talks first task x (sym rule_is ∙ both.0) f.received read.more read.holds d.told e.told both.1.got read.are known.0 known.1 both.1.takes)
      where
        talks : IsTalking session r n
        talks = c.talking

        first : IsSeen r.table session n talks.lines talks.known
        first = talks.rounds.seen talks.known (λ stage small. refl)

        same_at : Same session r n talks.lines talks.known first.rounds talks.at first.view task seat at
        same_at = same_connection session r n talks.lines talks.known first.rounds talks.at first.view task seat number at has is there

        x : Linked session r n talks.lines talks.known first.rounds task
        x = same_at.x

        rule_is : rule_at seat.made r.table task (link_over at) ≡ sending_rule r.table task
        rule_is = rule_over r.table task (link_over at) seat.made same_at.made (link_there at) (apart_is session r n talks.lines talks.known first.rounds talks.at first.view task true x.seat.connected)

        both : (rule_at seat.made r.table task (link_over at) ≡ rule.Receive) × HasTook task (requester r d at.to_task (sent_behind (not at.cut) at.to_donor)) (requester s e f.received f.sent)
        both = steps_took (rule_at seat.made r.table task (link_over at)) (link_over at) task floor (requester r d at.to_task (sent_behind (not at.cut) at.to_donor)) (requester s e f.received f.sent) (told.Took took) f.steps tt

        bytes : x.at.to_task ≡ spelling both.1.got ++ f.received
        bytes = ap (λ (z : Connection). z.to_task) (sym same_at.at_is) ∙ both.1.received

        read : Reads ofDonor x.at.cut x.l.answers both.1.got f.received
        read = holds_read ofDonor x.at.cut x.l.answers x.at.to_task f.received both.1.got x.of.answers both.1.of bytes

        known : (is_expected r task both.1.got ≡ true) × IsGiven session r both.1.got
        known = expected session r n talks.lines talks.known first.rounds first.view first.rule c.going talks.rounds.recipient task x both.1.got read.more read.are

        made_is_own : made ≡ seat.made
        made_is_own = f.made_is ∙ ap (λ (w : TaskRule). made_by w (incarnation_of r.table) seat.made) both.0

        after_is : after ≡ read_on x.at f.received
        after_is = f.is ∙ ap (λ (b : List ℕ). record at { to_donor = b; to_task = f.received }) (unsent_bytes at f.sent both.1.sent) ∙ ap (λ (z : Connection). read_on z f.received) same_at.at_is

        number_is : number ≡ x.number
        number_is = cc (sym (connection_is n task seat has ∙ is) ∙ x.has)

        net_is : m ≡ with_connection x.number (read_on x.at f.received) n
        net_is = net ∙ net_over n task number seat made after has is made_is_own ∙ ap (λ (z : Connection). with_connection number z n) after_is ∙ ap (λ (i : ℕ). with_connection i (read_on x.at f.received) n) number_is
    by (inl c) (network.apart seat after connections has is f net) = absurd (none_there (steps_took (rule_at seat.made r.table task link.Absent) link.Absent task floor (requester r d [] []) (requester s e f.received f.sent) (told.Took took) f.steps tt).1)
    by (inr c) (network.over seat number at after made has is there f net) = absurd (subst IsLast (steps_took (rule_at seat.made r.table task (link_over at)) (link_over at) task floor (requester r d at.to_task (sent_behind (not at.cut) at.to_donor)) (requester s e f.received f.sent) (told.Took took) f.steps tt).0 (last_over r n own.table.some running c task seat has number (link_over at) is))
    by (inr c) (network.apart seat after connections has is f net) = absurd (subst IsLast (steps_took (rule_at seat.made r.table task link.Absent) link.Absent task floor (requester r d [] []) (requester s e f.received f.sent) (told.Took took) f.steps tt).0 (last_apart r n own.table.some running c task seat has))
    by goes (network.absent none rests heard) = absurd (cc (heard))
    by goes (network.no_room rests heard) = absurd (cc (heard))

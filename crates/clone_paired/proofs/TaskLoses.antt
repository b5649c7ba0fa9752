-- A step by which a task finds a loss, and one by which it does nothing, keep the clone paired; so
-- each step does that doesn't end it.
use Rattle.std.proofs.Common.{ℕ, ◌≡◌, ◌≢◌, ◌∙◌, ◌⊎◌, List, [], ◌∷◌, ◌++◌, Bool, true, false, if◌then◌else◌, Option, None, Some, length, set, refl, sym, ap, subst, inl, inr}
use Rattle.std.specs.Prelude.{slice_get, is_some, not}
use Rattle.std.proofs.lemmas.Bool.{both_ways}
use Rattle.clone_outside.specs.Disk.{DiskImage}
use Rattle.clone_outside.specs.DiskCalls.{DiskState}
use Rattle.clone_chunk.specs.declared.cause.CloneCause.{CloneCause}
use Rattle.clone_session.specs.Cloning.{Session}
use Rattle.clone_wire.specs.Answers.{BeginsNone}
use Rattle.clone_wire.specs.Spelling.{spelling}
use Rattle.clone_wire.specs.declared.frame.Frame.{Frame}
use Rattle.clone_wire.specs.declared.frame.Side.TheVariants.{Answer as ofDonor}
use Rattle.clone_tasks.specs.Losing.{after_loss, counted_table, is_spent}
use Rattle.clone_tasks.specs.Rules.{rule_at, sending_rule}
use Rattle.clone_tasks.specs.Tables.{Table, incarnation_of, is_running}
use Rattle.clone_tasks.specs.declared.end.CloneEnd.{CloneEnd}
use Rattle.clone_tasks.specs.declared.end.CloneEnd.TheVariants as end
use Rattle.clone_tasks.specs.declared.rule.Link.{Link}
use Rattle.clone_tasks.specs.declared.rule.Link.TheVariants as link
use Rattle.clone_tasks.specs.declared.rule.Rule.{Rule as TaskRule}
use Rattle.clone_tasks.specs.declared.rule.Rule.TheVariants as rule
use Rattle.clone_recipient.specs.Receptions.{Reception}
use Rattle.clone_fetch.specs.Fetching as fetch
use Rattle.clone_fetch.specs.Fetching.{Breaks, Completes, PutsOut, Receives, Requester, StepsBy, TakesFrame, made_by, refusal_in, requester, says_of, with_loss}
use Rattle.clone_fetch.specs.declared.answer.TaskAnswer.{TaskAnswer}
use Rattle.clone_fetch.specs.declared.answer.TaskAnswer.TheVariants as told
use Rattle.clone_network.specs.Connections.{Connection, link_over, opened, sent_behind, unread_then}
use Rattle.clone_network.specs.Networks as network
use Rattle.clone_network.specs.Networks.{Network, Seat, StepsTask, hung_up, with_connection}
use Rattle.clone_network.proofs.CourseLemmas.{Terms, course}
use Rattle.clone_paired.specs.Paired.{HasCopied, IsCopying, IsPaired, IsReception, IsTalking}
use Rattle.clone_paired.specs.Seen.{IsSeen}
use Rattle.clone_paired.proofs.Linked.{Linked, Same, apart_is, same_connection}
use Rattle.clone_paired.proofs.Losing.{talks_lost}
use Rattle.clone_paired.proofs.QuietTasks.{IsQuiet, breaks_loud, completes_loud, heard, loss_loud, puts_loud, rule_over, takes_loud}
use Rattle.clone_paired.proofs.Stuck.{link_lost, link_there}
use Rattle.clone_paired.proofs.TaskSends.{IsLast, last_apart, last_over, net_over, seats_long, sends_paired, set_same}
use Rattle.clone_paired.proofs.TaskTakes.{takes_paired, unsent_bytes}
use Rattle.clone_paired.proofs.UnreadLemmas.{holds_partial}

abbrev IsLosing : TaskAnswer → Type 0
IsLosing (told.Lost losses) = Unit {0}
IsLosing other = ⊥

pub record HasLost (at : Link) (old new : Requester) : Type 0 where
  pub lost : fetch.is_lost at ≡ true
  pub none : BeginsNone ofDonor old.received
  pub outlasts : is_spent (after_loss old.reception.table) ≡ false
  pub sets : new.reception ≡ with_loss old.reception
  pub received : new.received ≡ old.received
  pub sent : new.sent ≡ old.sent

other_way : {X : Type 0} (answer other : TaskAnswer) → IsLosing answer → answer ≡ other → (IsLosing other → ⊥) → X
other_way answer other loses is never = absurd (never (subst IsLosing is loses))

puts_other : {X : Type 0} (which : TaskRule) (task floor : ℕ) (old new : Reception) (sent put : List ℕ) (answer : TaskAnswer) → PutsOut which task floor old new sent put answer → IsLosing answer → X
puts_other which task floor old new sent put answer (fetch.puts next of is sets bytes says) loses = other_way answer _ loses says (λ q. q)
puts_other which task floor old new sent put answer (fetch.no_frame sets bytes says) loses = other_way answer _ loses says (λ q. q)
puts_other which task floor old new sent put answer (fetch.no_bytes sets bytes says) loses = other_way answer _ loses says (λ q. q)

breaks_other : {X : Type 0} (bytes : List ℕ) (old new : Reception) (answer : TaskAnswer) → Breaks bytes old new answer → IsLosing answer → X
breaks_other bytes old new answer (fetch.breaks kept is sets says) loses = other_way answer _ loses says (λ q. q)
breaks_other bytes old new answer (fetch.not_kept sets says) loses = other_way answer _ loses says (λ q. q)

completes_other : {X : Type 0} (old new : Reception) (told_old now : Option DiskImage) (sent put : List ℕ) (answer : TaskAnswer) → Completes old new told_old now sent put answer → IsLosing answer → X
completes_other old new told_old now sent put answer (fetch.completes last is steps sets bytes says) loses = other_way answer _ loses says (λ q. q)
completes_other old new told_old now sent put answer (fetch.not_completed last is steps sets bytes says) loses = other_way answer _ loses says (λ q. q)
completes_other old new told_old now sent put answer (fetch.not_marked last is steps sets bytes says) loses = other_way answer _ loses says (λ q. q)
completes_other old new told_old now sent put answer (fetch.not_left last is steps sets bytes says) loses = other_way answer _ loses says (λ q. q)

takes_other : {X : Type 0} (task : ℕ) (got : Frame) (old new : Reception) (before after : DiskState) (answer : TaskAnswer) → TakesFrame task got old new before after answer → IsLosing answer → X
takes_other task got old new before after answer (fetch.accepts is takes says) loses = other_way answer _ loses says (never (refusal_in got))
  where
    never : (cause : Option CloneCause) → IsLosing (says_of cause got) → ⊥
    never None q = q
    never (Some cause) q = q
takes_other task got old new before after answer (fetch.rejects is broken same) loses = breaks_other (spelling got) old new answer broken loses
takes_other task got old new before after answer (fetch.not_laid is keeps sets says) loses = other_way answer _ loses says (λ q. q)
takes_other task got old new before after answer (fetch.no_room is keeps sets says) loses = other_way answer _ loses says (λ q. q)

receives_lost : (task : ℕ) (at : Link) (old new : Requester) (answer : TaskAnswer) → Receives task at old.reception new.reception old.disk new.disk old.received new.received answer → new.sent ≡ old.sent → IsLosing answer → HasLost at old new
receives_lost task at old new answer (fetch.takes got of is takes) sent losing = takes_other task got old.reception new.reception old.disk new.disk answer takes losing
receives_lost task at old new answer (fetch.garbled lost broken same keeps) sent losing = breaks_other old.received old.reception new.reception answer broken losing
receives_lost task at old new answer (fetch.loses lost part sets same keeps says) sent losing = record { lost = lost; none = part.0; outlasts = by (is_spent (after_loss old.reception.table)) refl (subst IsLosing says losing); sets = sets; received = keeps; sent = sent }
  where
    by : (b : Bool) → is_spent (after_loss old.reception.table) ≡ b → IsLosing (if b then told.Ended (end.Spent (after_loss old.reception.table).losses) else told.Lost (after_loss old.reception.table).losses) → is_spent (after_loss old.reception.table) ≡ false
    by true is q = absurd q
    by false is q = is
receives_lost task at old new answer (fetch.waits up part sets same keeps says) sent losing = other_way answer _ losing says (λ q. q)
receives_lost task at old new answer (fetch.not_read sets same keeps says) sent losing = other_way answer _ losing says (λ q. q)

steps_lost : (which : TaskRule) (at : Link) (task floor : ℕ) (old new : Requester) (answer : TaskAnswer) → StepsBy which at task floor old new answer → IsLosing answer → (which ≡ rule.Receive) × HasLost at old new
steps_lost rule.Nothing at task floor old new answer s losing = other_way answer _ losing s.1 (λ q. q)
steps_lost rule.Stale at task floor old new answer s losing = other_way answer _ losing s.1 (λ q. q)
steps_lost rule.Connect at task floor old new answer s losing = puts_other rule.Connect task floor old.reception new.reception old.sent new.sent answer s.0 losing
steps_lost (rule.Acknowledge stage) at task floor old new answer s losing = puts_other (rule.Acknowledge stage) task floor old.reception new.reception old.sent new.sent answer s.0 losing
steps_lost (rule.Execute stage) at task floor old new answer s losing = puts_other (rule.Execute stage) task floor old.reception new.reception old.sent new.sent answer s.0 losing
steps_lost rule.Receive at task floor old new answer s losing = (refl, receives_lost task at old new answer s.0 s.1 losing)
steps_lost rule.Complete at task floor old new answer s losing = completes_other old.reception new.reception old.disk.told new.disk.told old.sent new.sent answer s.0 losing

counted_outlasts : (t : Table) → is_spent t ≡ false → counted_table t ≡ t
counted_outlasts t is = ap (λ (b : Bool). if b then record t { ended = Some (end.Spent t.losses) } else t) is

same_connections : (n : Network) (number : ℕ) (at : Connection) → slice_get n.connections number ≡ Some at → with_connection number at n ≡ n
same_connections n number at there = ap (λ (cs : List Connection). record n { connections = cs }) (set_same n.connections number at there)

-- a connection over which nothing was sent or read is as it was
same_after : (at after : Connection) (received sent : List ℕ) → after ≡ record at { to_donor = unread_then (not at.cut) at.to_donor sent; to_task = received } → received ≡ at.to_task → sent ≡ sent_behind (not at.cut) at.to_donor → after ≡ at
same_after at after received sent is read put = is ∙ ap (λ (b : List ℕ). record at { to_donor = b; to_task = received }) (unsent_bytes at sent put) ∙ ap (λ (b : List ℕ). record at { to_task = b }) read

-- A STEP THAT FINDS A LOSS
pub loses_paired : (session : Option Session) (r s : Reception) (d e : DiskState) (n m : Network) (task floor losses : ℕ) → IsReception r → IsPaired session r n → is_running r.table ≡ true → StepsTask task floor r s d e n m (told.Lost losses) → IsPaired session s m
loses_paired session r s d e n m task floor losses own p running step = record { tasks = seats_long r s d e n m task floor (told.Lost losses) step ∙ p.tasks ∙ sym (ap (λ (t : Terms). t.count) (course r s d e n m task floor (told.Lost losses) step).terms); goes = by p.goes step }
  where
    by : IsCopying session r n ⊎ HasCopied r n → StepsTask task floor r s d e n m (told.Lost losses) → IsCopying session s m ⊎ HasCopied s m
    by (inl c) (network.over seat number at after made has is there f net) = inl (subst (λ (z : Network). IsCopying session s z) (sym net_is) (subst (λ (z : Reception). IsCopying session z (hung_up n)) (sym s_is) (record { going = c.going; talking = talks_lost session r n own running talks task (sym rule_is ∙ both.0) both.1.outlasts first.rounds same_at.x (lost_line same_at.x same_at.at_is) })))
      where
        talks : IsTalking session r n
        talks = c.talking

        first : IsSeen r.table session n talks.lines talks.known
        first = talks.rounds.seen talks.known (λ stage small. refl)

        same_at : Same session r n talks.lines talks.known first.rounds talks.at first.view task seat at
        same_at = same_connection session r n talks.lines talks.known first.rounds talks.at first.view task seat number at has is there

        rule_is : rule_at seat.made r.table task (link_over at) ≡ sending_rule r.table task
        rule_is = rule_over r.table task (link_over at) seat.made same_at.made (link_there at) (apart_is session r n talks.lines talks.known first.rounds talks.at first.view task true same_at.x.seat.connected)

        both : (rule_at seat.made r.table task (link_over at) ≡ rule.Receive) × HasLost (link_over at) (requester r d at.to_task (sent_behind (not at.cut) at.to_donor)) (requester s e f.received f.sent)
        both = steps_lost (rule_at seat.made r.table task (link_over at)) (link_over at) task floor (requester r d at.to_task (sent_behind (not at.cut) at.to_donor)) (requester s e f.received f.sent) (told.Lost losses) f.steps tt

        s_is : s ≡ record r { table = after_loss r.table }
        s_is = both.1.sets ∙ ap (λ (t : Table). record r { table = t }) (counted_outlasts (after_loss r.table) both.1.outlasts)

        made_is_own : made ≡ seat.made
        made_is_own = f.made_is ∙ ap (λ (w : TaskRule). made_by w (incarnation_of r.table) seat.made) both.0

        net_is : m ≡ hung_up n
        net_is = net ∙ ap hung_up (net_over n task number seat made after has is made_is_own ∙ ap (λ (z : Connection). with_connection number z n) (same_after at after f.received f.sent f.is both.1.received both.1.sent) ∙ same_connections n number at there)

        lost_line : (y : Linked session r n talks.lines talks.known first.rounds task) → at ≡ y.at → (y.l.answers ≡ []) × (y.l.cut ≡ true)
        lost_line y at_is = (holds_partial ofDonor y.at.cut y.l.answers y.at.to_task y.of.answers (subst (λ (z : Connection). BeginsNone ofDonor z.to_task) at_is both.1.none), y.of.cut ∙ sym (link_lost y.at) ∙ ap (λ (z : Connection). fetch.is_lost (link_over z)) (sym at_is) ∙ both.1.lost)
    by (inl c) (network.apart seat after connections has is f net) = absurd (both_ways (fetch.is_lost link.Absent) refl (steps_lost (rule_at seat.made r.table task link.Absent) link.Absent task floor (requester r d [] []) (requester s e f.received f.sent) (told.Lost losses) f.steps tt).1.lost)
    by (inr c) (network.over seat number at after made has is there f net) = absurd (subst IsLast (steps_lost (rule_at seat.made r.table task (link_over at)) (link_over at) task floor (requester r d at.to_task (sent_behind (not at.cut) at.to_donor)) (requester s e f.received f.sent) (told.Lost losses) f.steps tt).0 (last_over r n own.table.some running c task seat has number (link_over at) is))
    by (inr c) (network.apart seat after connections has is f net) = absurd (subst IsLast (steps_lost (rule_at seat.made r.table task link.Absent) link.Absent task floor (requester r d [] []) (requester s e f.received f.sent) (told.Lost losses) f.steps tt).0 (last_apart r n own.table.some running c task seat has))
    by goes (network.absent none rests heard) = absurd (cc (heard))
    by goes (network.no_room rests heard) = absurd (cc (heard))

-- ---- a step that does nothing

pub record HasRested (old new : Requester) : Type 0 where
  pub reception : new.reception ≡ old.reception
  pub received : new.received ≡ old.received
  pub sent : new.sent ≡ old.sent

-- by such a rule no connection is made
abbrev Unmakes : TaskRule → Type 0
Unmakes which = (incarnation : ℕ) (made : Option ℕ) → made_by which incarnation made ≡ made

receives_rested : (task : ℕ) (at : Link) (old new : Requester) (answer : TaskAnswer) → Receives task at old.reception new.reception old.disk new.disk old.received new.received answer → new.sent ≡ old.sent → IsQuiet answer → HasRested old new
receives_rested task at old new answer (fetch.takes got of is takes) sent quiet = takes_loud task got old.reception new.reception old.disk new.disk answer takes quiet
receives_rested task at old new answer (fetch.garbled lost broken same keeps) sent quiet = breaks_loud old.received old.reception new.reception answer broken quiet
receives_rested task at old new answer (fetch.loses lost part sets same keeps says) sent quiet = heard answer _ quiet says (loss_loud (after_loss old.reception.table) (is_spent (after_loss old.reception.table)))
receives_rested task at old new answer (fetch.waits up part sets same keeps says) sent quiet = record { reception = sets; received = keeps; sent = sent }
receives_rested task at old new answer (fetch.not_read sets same keeps says) sent quiet = record { reception = sets; received = keeps; sent = sent }

same_rested : (old new : Requester) → new ≡ old → HasRested old new
same_rested old new is = record { reception = ap (λ (z : Requester). z.reception) is; received = ap (λ (z : Requester). z.received) is; sent = ap (λ (z : Requester). z.sent) is }

steps_rested : (which : TaskRule) (at : Link) (task floor : ℕ) (old new : Requester) (answer : TaskAnswer) → StepsBy which at task floor old new answer → IsQuiet answer → Unmakes which × HasRested old new
steps_rested rule.Nothing at task floor old new answer s quiet = (λ i m. refl, same_rested old new s.0)
steps_rested rule.Stale at task floor old new answer s quiet = (λ i m. refl, same_rested old new s.0)
steps_rested rule.Connect at task floor old new answer s quiet = puts_loud rule.Connect task floor old.reception new.reception old.sent new.sent answer s.0 quiet
steps_rested (rule.Acknowledge stage) at task floor old new answer s quiet = puts_loud (rule.Acknowledge stage) task floor old.reception new.reception old.sent new.sent answer s.0 quiet
steps_rested (rule.Execute stage) at task floor old new answer s quiet = puts_loud (rule.Execute stage) task floor old.reception new.reception old.sent new.sent answer s.0 quiet
steps_rested rule.Receive at task floor old new answer s quiet = (λ i m. refl, receives_rested task at old new answer s.0 s.1 quiet)
steps_rested rule.Complete at task floor old new answer s quiet = completes_loud old.reception new.reception old.disk.told new.disk.told old.sent new.sent answer s.0 quiet

quiet_sends : (answer : TaskAnswer) → IsQuiet answer → network.sends answer ≡ false
quiet_sends told.Idle quiet = refl
quiet_sends told.Stale quiet = refl
quiet_sends other quiet = absurd quiet

quiet_after : (answer : TaskAnswer) (n : Network) → IsQuiet answer → network.after_answer answer n ≡ n
quiet_after told.Idle n quiet = refl
quiet_after told.Stale n quiet = refl
quiet_after other n quiet = absurd quiet

-- A STEP THAT DOES NOTHING
pub rests_paired : (session : Option Session) (r s : Reception) (d e : DiskState) (n m : Network) (task floor : ℕ) (answer : TaskAnswer) → IsQuiet answer → IsPaired session r n → StepsTask task floor r s d e n m answer → IsPaired session s m
rests_paired session r s d e n m task floor answer quiet p (network.over seat number at after made has is there f net) =
    let both = steps_rested (rule_at seat.made r.table task (link_over at)) (link_over at) task floor (requester r d at.to_task (sent_behind (not at.cut) at.to_donor)) (requester s e f.received f.sent) answer f.steps quiet in
    let made_is_own : made ≡ seat.made = f.made_is ∙ both.0 (incarnation_of r.table) seat.made in
    let net_is : m ≡ n = net ∙ quiet_after answer (network.with_seat task (record { made = made; connection = Some number }) (with_connection number after n)) quiet ∙ net_over n task number seat made after has is made_is_own ∙ ap (λ (z : Connection). with_connection number z n) (same_after at after f.received f.sent f.is both.1.received both.1.sent) ∙ same_connections n number at there in
    subst (λ (z : Reception). IsPaired session z m) (sym both.1.reception) (subst (IsPaired session r) (sym net_is) p)
rests_paired session r s d e n m task floor answer quiet p (network.apart seat after connections has is c net) =
    let both = steps_rested (rule_at seat.made r.table task link.Absent) link.Absent task floor (requester r d [] []) (requester s e c.received c.sent) answer c.steps quiet in
    let after_is : after ≡ seat = c.is ∙ ap (λ (o : Option ℕ). record { made = o; connection = if network.sends answer then Some (length n.connections) else None }) (both.0 (incarnation_of r.table) seat.made) ∙ ap (λ (b : Bool). record { made = seat.made; connection = if b then Some (length n.connections) else None }) (quiet_sends answer quiet) ∙ ap (λ (o : Option ℕ). record { made = seat.made; connection = o }) (sym is) in
    let connections_are : connections ≡ n.connections = c.connections ∙ ap (λ (b : Bool). if b then n.connections ++ opened c.sent ∷ [] else n.connections) (quiet_sends answer quiet) in
    let net_is : m ≡ n = net ∙ quiet_after answer (network.with_seat task after (record n { connections = connections })) quiet ∙ ap (λ (z : Seat). network.with_seat task z (record n { connections = connections })) after_is ∙ ap (λ (cs : List Connection). record { connections = cs; seats = set n.seats task seat }) connections_are ∙ ap (λ (seats : List Seat). record n { seats = seats }) (set_same n.seats task seat has) in
    subst (λ (z : Reception). IsPaired session z m) (sym both.1.reception) (subst (IsPaired session r) (sym net_is) p)
rests_paired session r s d e n m task floor answer quiet p (network.absent none rests heard) = subst (λ (z : Reception). IsPaired session z m) (sym rests.reception) (subst (IsPaired session r) (sym rests.network) p)
rests_paired session r s d e n m task floor answer quiet p (network.no_room rests heard) = subst (λ (z : Reception). IsPaired session z m) (sym rests.reception) (subst (IsPaired session r) (sym rests.network) p)

-- EACH STEP OF A TASK keeps the clone paired, unless it ends it or there was no memory.
pub task_paired : (session : Option Session) (r s : Reception) (d e : DiskState) (n m : Network) (task floor : ℕ) (answer : TaskAnswer) → IsReception r → IsReception s → IsPaired session r n → is_running r.table ≡ true → StepsTask task floor r s d e n m answer → answer ≢ told.NoMemory → is_running s.table ≡ true → IsPaired session s m
task_paired session r s d e n m task floor told.Idle own own_s p running step room on = rests_paired session r s d e n m task floor told.Idle tt p step
task_paired session r s d e n m task floor told.Stale own own_s p running step room on = rests_paired session r s d e n m task floor told.Stale tt p step
task_paired session r s d e n m task floor (told.Sent code) own own_s p running step room on = sends_paired session r s d e n m task floor code own p running step
task_paired session r s d e n m task floor (told.Took took) own own_s p running step room on = takes_paired session r s d e n m task floor took own own_s p running step
task_paired session r s d e n m task floor (told.Lost losses) own own_s p running step room on = loses_paired session r s d e n m task floor losses own p running step
task_paired session r s d e n m task floor (told.Ended how) own own_s p running step room on = absurd (cc (on, ap (λ (o : Option CloneEnd). not (is_some o)) (course r s d e n m task floor (told.Ended how) step).ended))
task_paired session r s d e n m task floor told.NoMemory own own_s p running step room on = absurd (room refl)

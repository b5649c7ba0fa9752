-- A task's step ends the clone neither since it got what is garbled, nor since it was refused.
use Rattle.std.proofs.Common.{ℕ, ◌≡◌, ◌≢◌, ◌∙◌, ◌⊎◌, ◌≤◌, List, [], ◌++◌, Bool, true, false, if◌then◌else◌, Option, None, Some, refl, sym, ap, subst, inl, inr}
use Rattle.std.specs.Prelude.{slice_get, nat_lt, not, ◌&&◌, IfSome}
use Rattle.std.proofs.lemmas.Bool.{both_ways, cases_eq, ne_eqb}
use Rattle.clone_outside.specs.Disk.{DiskImage}
use Rattle.clone_outside.specs.DiskCalls.{DiskState}
use Rattle.clone_chunk.specs.declared.cause.CloneCause.{CloneCause}
use Rattle.clone_session.specs.Cloning.{Session}
use Rattle.clone_wire.specs.Answers.{IsLost}
use Rattle.clone_wire.specs.Spelling.{spelling}
use Rattle.clone_wire.specs.declared.frame.Frame.{Frame}
use Rattle.clone_wire.specs.declared.frame.Frame.TheVariants as frame
use Rattle.clone_wire.specs.declared.frame.Side.TheVariants.{Answer}
use Rattle.clone_stream.specs.Streams.{IsFrameOf}
use Rattle.clone_tasks.specs.Losing.{after_loss, is_spent}
use Rattle.clone_tasks.specs.Rules.{is_stale, rule_at, rule_of, takes_part}
use Rattle.clone_tasks.specs.Tables.{Table, incarnation_of, is_done, is_running}
use Rattle.clone_tasks.specs.declared.end.CloneEnd.{CloneEnd}
use Rattle.clone_tasks.specs.declared.end.CloneEnd.TheVariants as end
use Rattle.clone_tasks.specs.declared.rule.Link.{Link}
use Rattle.clone_tasks.specs.declared.rule.Link.TheVariants as link
use Rattle.clone_tasks.specs.declared.rule.Rule.{Rule as TaskRule}
use Rattle.clone_tasks.specs.declared.rule.Rule.TheVariants as rule
use Rattle.clone_recipient.specs.Expecting.{is_expected}
use Rattle.clone_recipient.specs.Receptions.{Reception}
use Rattle.clone_fetch.specs.Fetching as fetch
use Rattle.clone_fetch.specs.Fetching.{Breaks, Completes, PutsOut, Receives, Requester, StepsBy, TakesFrame, loss_says, refusal_in, requester, says_of}
use Rattle.clone_fetch.specs.declared.answer.TaskAnswer.{TaskAnswer}
use Rattle.clone_fetch.specs.declared.answer.TaskAnswer.TheVariants as told
use Rattle.clone_network.specs.Connections.{Connection, link_over, sent_behind}
use Rattle.clone_network.specs.Networks as network
use Rattle.clone_network.specs.Networks.{Network, StepsTask}
use Rattle.clone_paired.specs.Seen.{IsSeen}
use Rattle.clone_paired.specs.Unread.{Holds}
use Rattle.clone_paired.specs.Fair.{EndsFairly}
use Rattle.clone_paired.specs.Lines.{connection_of, made_of}
use Rattle.clone_paired.specs.Paired.{HasCopied, IsCopying, IsPaired, IsReception, IsTalking}
use Rattle.clone_paired.specs.Speaking.{IsGiven}
use Rattle.clone_paired.proofs.Expected.{expected}
use Rattle.clone_paired.proofs.Linked.{Same, same_connection}
use Rattle.clone_paired.proofs.Lookups.{connection_is, made_is}
use Rattle.clone_paired.proofs.QuietTasks.{complete_over, no_way}
use Rattle.clone_paired.proofs.UnreadLemmas.{Reads, holds_found, holds_none, holds_read}

-- an answer that ends the clone ends it fairly
abbrev pub IsFair : TaskAnswer → Type 0
IsFair (told.Ended how) = EndsFairly how
IsFair other = Unit {0}

fair : (answer other : TaskAnswer) → answer ≡ other → IsFair other → IsFair answer
fair answer other is f = subst IsFair (sym is) f

-- what the bytes are that a task receives: nothing of them is garbled, and each frame is expected
record AreFair (r : Reception) (task : ℕ) (received : List ℕ) : Type 0 where
  found : IsLost Answer received → ⊥
  each : (got : Frame) (left : List ℕ) → IsFrameOf Answer got → received ≡ spelling got ++ left → (is_expected r task got ≡ true) × (refusal_in got ≡ None)

takes_fair : (task : ℕ) (got : Frame) (old new : Reception) (before after : DiskState) (answer : TaskAnswer) → is_expected old task got ≡ true → refusal_in got ≡ None → TakesFrame task got old new before after answer → IsFair answer
takes_fair task got old new before after answer is none (fetch.accepts ok takes says) = fair answer (says_of (refusal_in got) got) says (subst (λ (c : Option CloneCause). IsFair (says_of c got)) (sym none) tt)
takes_fair task got old new before after answer is none (fetch.rejects not_ok broken same) = absurd (both_ways (is_expected old task got) not_ok is)
takes_fair task got old new before after answer is none (fetch.not_laid ok keeps sets says) = fair answer _ says tt
takes_fair task got old new before after answer is none (fetch.no_room ok keeps sets says) = fair answer _ says tt

loss_fair : (t : Table) (spent : Bool) → IsFair (if spent then told.Ended (end.Spent t.losses) else told.Lost t.losses)
loss_fair t true = tt
loss_fair t false = tt

receives_fair : (task : ℕ) (at : Link) (old new : Reception) (before after : DiskState) (received left : List ℕ) (answer : TaskAnswer) → AreFair old task received → Receives task at old new before after received left answer → IsFair answer
receives_fair task at old new before after received left answer are (fetch.takes got of is takes) = let each = are.each got left of is in takes_fair task got old new before after answer each.0 each.1 takes
receives_fair task at old new before after received left answer are (fetch.garbled lost broken same keeps) = absurd (are.found lost)
receives_fair task at old new before after received left answer are (fetch.loses lost part sets same keeps says) = fair answer _ says (loss_fair (after_loss old.table) (is_spent (after_loss old.table)))
receives_fair task at old new before after received left answer are (fetch.waits up part sets same keeps says) = fair answer _ says tt
receives_fair task at old new before after received left answer are (fetch.not_read sets same keeps says) = fair answer _ says tt

puts_fair : (which : TaskRule) (task floor : ℕ) (old new : Reception) (sent put : List ℕ) (answer : TaskAnswer) → PutsOut which task floor old new sent put answer → IsFair answer
puts_fair which task floor old new sent put answer (fetch.puts next of is sets bytes says) = fair answer _ says tt
puts_fair which task floor old new sent put answer (fetch.no_frame sets bytes says) = fair answer _ says tt
puts_fair which task floor old new sent put answer (fetch.no_bytes sets bytes says) = fair answer _ says tt

completes_fair : (old new : Reception) (told_old now : Option DiskImage) (sent put : List ℕ) (answer : TaskAnswer) → Completes old new told_old now sent put answer → IsFair answer
completes_fair old new told_old now sent put answer (fetch.completes last is steps sets bytes says) = fair answer _ says tt
completes_fair old new told_old now sent put answer (fetch.not_completed last is steps sets bytes says) = fair answer _ says tt
completes_fair old new told_old now sent put answer (fetch.not_marked last is steps sets bytes says) = fair answer _ says tt
completes_fair old new told_old now sent put answer (fetch.not_left last is steps sets bytes says) = fair answer _ says tt

steps_fair : (which : TaskRule) (at : Link) (task floor : ℕ) (old new : Requester) (answer : TaskAnswer) → (which ≡ rule.Receive → AreFair old.reception task old.received) → StepsBy which at task floor old new answer → IsFair answer
steps_fair rule.Nothing at task floor old new answer are s = fair answer _ s.1 tt
steps_fair rule.Stale at task floor old new answer are s = fair answer _ s.1 tt
steps_fair rule.Connect at task floor old new answer are s = puts_fair rule.Connect task floor old.reception new.reception old.sent new.sent answer s.0
steps_fair (rule.Acknowledge stage) at task floor old new answer are s = puts_fair (rule.Acknowledge stage) task floor old.reception new.reception old.sent new.sent answer s.0
steps_fair (rule.Execute stage) at task floor old new answer are s = puts_fair (rule.Execute stage) task floor old.reception new.reception old.sent new.sent answer s.0
steps_fair rule.Receive at task floor old new answer are s = receives_fair task at old.reception new.reception old.disk new.disk old.received new.received answer (are refl) s.0
steps_fair rule.Complete at task floor old new answer are s = completes_fair old.reception new.reception old.disk.told new.disk.told old.sent new.sent answer s.0

-- no bytes are fair
none_fair : (r : Reception) (task : ℕ) → AreFair r task []
none_fair r task = record {
  found = holds_found Answer false [] [] (holds_none Answer false);
  each = λ got left of is. let read : Reads Answer false [] got left = holds_read Answer false [] [] left got (holds_none Answer false) of is in absurd (cc (read.are));
}

given_speaks : (session : Option Session) (r : Reception) (got : Frame) → IsGiven session r got → refusal_in got ≡ None
given_speaks session r (frame.Refused cause) given = absurd given
given_speaks session r got given = refl

module _ (session : Option Session) (r s : Reception) (d e : DiskState) (n m : Network) (task floor : ℕ) (running : is_running r.table ≡ true) where
  copying_fair : (answer : TaskAnswer) → IsCopying session r n → StepsTask task floor r s d e n m answer → IsFair answer
  copying_fair answer c (network.over seat number at after made has is there f next) = steps_fair (rule_at seat.made r.table task (link_over at)) (link_over at) task floor (requester r d at.to_task (sent_behind (not at.cut) at.to_donor)) (requester s e f.received f.sent) answer (λ which. fair_bytes) f.steps
    where
      talks : IsTalking session r n
      talks = c.talking

      seen : IsSeen r.table session n talks.lines talks.known
      seen = talks.rounds.seen talks.known (λ stage small. refl)

      same : Same session r n talks.lines talks.known seen.rounds talks.at seen.view task seat at
      same = same_connection session r n talks.lines talks.known seen.rounds talks.at seen.view task seat number at has is there

      holds : Holds Answer at.cut same.x.l.answers at.to_task
      holds = subst (λ (x : Connection). Holds Answer x.cut same.x.l.answers x.to_task) (sym same.at_is) same.x.of.answers

      fair_bytes : AreFair r task at.to_task
      fair_bytes = record {
        found = holds_found Answer at.cut same.x.l.answers at.to_task holds;
        each = λ got left of bytes.
            let read : Reads Answer at.cut same.x.l.answers got left = holds_read Answer at.cut same.x.l.answers at.to_task left got holds of bytes in
            let known = expected session r n talks.lines talks.known seen.rounds seen.view seen.rule c.going talks.rounds.recipient task same.x got read.more read.are in
            (known.0, given_speaks session r got known.1);
      }
  copying_fair answer c (network.apart seat after connections has is f next) = steps_fair (rule_at seat.made r.table task link.Absent) link.Absent task floor (requester r d [] []) (requester s e f.received f.sent) answer (λ which. none_fair r task) f.steps
  copying_fair answer c (network.absent none same heard) = fair answer _ heard tt
  copying_fair answer c (network.no_room same heard) = fair answer _ heard tt

  -- once all was copied nobody receives anything
  quiet_rule : (at : Link) (made : Option ℕ) (stale : Bool) → is_stale made (incarnation_of r.table) at ≡ stale → takes_part r.table task ≡ false → rule_at made r.table task at ≡ rule.Receive → ⊥
  quiet_rule at made true is none receives = cc (sym (ap (λ (b : Bool). if b then rule.Stale else rule_of r.table task at) is) ∙ receives)
  quiet_rule at made false is none receives =
      let idle : rule_of r.table task at ≡ rule.Nothing = rw none refl in
      cc (sym (ap (λ (b : Bool). if b then rule.Stale else rule_of r.table task at) is ∙ idle) ∙ receives)

  no_part : is_done r.table.phase ≡ true → task ≢ 0 → takes_part r.table task ≡ false
  no_part done other = rw (done, ne_eqb task 0 other) (no_way (nat_lt task r.table.count && is_running r.table))

  copied_fair : (answer : TaskAnswer) → 1 ≤ r.table.count → HasCopied r n → StepsTask task floor r s d e n m answer → IsFair answer
  copied_fair answer some c (network.over seat number at after made has is there f next) = steps_fair (rule_at seat.made r.table task (link_over at)) (link_over at) task floor (requester r d at.to_task (sent_behind (not at.cut) at.to_donor)) (requester s e f.received f.sent) answer (λ which. absurd (never which (cases_eq task 0))) f.steps
    where
      own : (connection : Option ℕ) → connection ≡ Some number → IfSome connection (λ number. made_of n 0 ≡ Some (incarnation_of r.table)) → made_of n 0 ≡ Some (incarnation_of r.table)
      own None is made = absurd (cc (is))
      own (Some other) is made = made

      never : rule_at seat.made r.table task (link_over at) ≡ rule.Receive → (task ≡ 0) ⊎ (task ≢ 0) → ⊥
      never which (inr other) = quiet_rule (link_over at) seat.made (is_stale seat.made (incarnation_of r.table) (link_over at)) refl (no_part c.done other) which
      never which (inl first) =
          let here : slice_get n.seats 0 ≡ Some seat = ap (slice_get n.seats) (sym first) ∙ has in
          let made_own : seat.made ≡ Some (incarnation_of r.table) = sym (made_is n 0 seat here) ∙ own (connection_of n 0) (connection_is n 0 seat here ∙ is) c.made in
          cc (sym (complete_over r.table (link_over at) seat.made some running c.done c.rests made_own) ∙ ap (λ (t : ℕ). rule_at seat.made r.table t (link_over at)) (sym first) ∙ which)
  copied_fair answer some c (network.apart seat after connections has is f next) = steps_fair (rule_at seat.made r.table task link.Absent) link.Absent task floor (requester r d [] []) (requester s e f.received f.sent) answer (λ which. none_fair r task) f.steps
  copied_fair answer some c (network.absent none same heard) = fair answer _ heard tt
  copied_fair answer some c (network.no_room same heard) = fair answer _ heard tt

  -- HOWEVER the step ends the clone, it ends fairly.
  pub ends_fairly : (how : CloneEnd) → IsReception r → IsPaired session r n → StepsTask task floor r s d e n m (told.Ended how) → EndsFairly how
  ends_fairly how own paired step = by paired.goes
    where
      by : IsCopying session r n ⊎ HasCopied r n → IsFair (told.Ended how)
      by (inl copying) = copying_fair (told.Ended how) copying step
      by (inr copied) = copied_fair (told.Ended how) own.table.some copied step

-- By which rule a step ends the clone with all that was copied.
use Rattle.std.proofs.Common.{ℕ, ◌≡◌, ◌∙◌, ◌==◌, ◌&&◌, ◌||◌, List, Bool, true, false, if◌then◌else◌, Option, None, Some, refl, sym}
use Rattle.std.specs.Prelude.{not}
use Rattle.clone_outside.specs.DiskCalls.{DiskState}
use Rattle.clone_chunk.specs.declared.cause.CloneCause.{CloneCause}
use Rattle.clone_wire.specs.Spelling.{spelling}
use Rattle.clone_wire.specs.declared.frame.Frame.{Frame}
use Rattle.clone_tasks.specs.Losing.{after_loss, is_spent}
use Rattle.clone_tasks.specs.Rules.{acknowledges, asks, connecting, is_absent, is_stale, next_in, rule_at, rule_of, takes_part}
use Rattle.clone_tasks.specs.Tables.{Table, awaits, incarnation_of, is_apart, is_done, standing_of}
use Rattle.clone_tasks.specs.declared.end.CloneEnd.TheVariants as end
use Rattle.clone_tasks.specs.declared.rule.Link.{Link}
use Rattle.clone_tasks.specs.declared.rule.Rule.{Rule}
use Rattle.clone_tasks.specs.declared.rule.Rule.TheVariants as rule
use Rattle.clone_tasks.specs.declared.standing.Phase.{Phase}
use Rattle.clone_tasks.specs.declared.standing.Phase.TheVariants.{Opening, Copying, Done}
use Rattle.clone_tasks.specs.declared.standing.Standing.{Standing}
use Rattle.clone_recipient.specs.Receptions.{Reception}
use Rattle.clone_fetch.specs.Fetching as fetch
use Rattle.clone_fetch.specs.Fetching.{Breaks, Completes, PutsOut, Receives, Requester, StepsBy, TakesFrame}
use Rattle.clone_fetch.specs.declared.answer.TaskAnswer.{TaskAnswer}
use Rattle.clone_fetch.specs.declared.answer.TaskAnswer.TheVariants as says

-- ---- all was copied where the rule completes the disk

else_of : (b : Bool) (x y : Rule) → (x ≡ rule.Complete → ⊥) → (if b then x else y) ≡ rule.Complete → y ≡ rule.Complete
else_of true x y not_x is = absurd (not_x is)
else_of false x y not_x is = is

no_choice : (b : Bool) (x y : Rule) → (x ≡ rule.Complete → ⊥) → (y ≡ rule.Complete → ⊥) → (if b then x else y) ≡ rule.Complete → ⊥
no_choice b x y not_x not_y is = not_y (else_of b x y not_x is)

next_done : (phase : Phase) (t : Table) (task : ℕ) (standing : Standing) → next_in phase t task standing ≡ rule.Complete → is_done phase ≡ true
next_done Opening t task standing is = absurd (cc)
next_done (Copying stage) t task standing is =
    absurd (no_choice (acknowledges t task standing) (rule.Acknowledge stage) (if asks t standing then rule.Execute stage else rule.Nothing) (λ e. absurd (cc))
    (no_choice (asks t standing) (rule.Execute stage) rule.Nothing (λ e. absurd (cc)) (λ e. absurd (cc))) is)
next_done Done t task standing is = refl

pub done_of : (made : Option ℕ) (t : Table) (task : ℕ) (link : Link) → rule_at made t task link ≡ rule.Complete → is_done t.phase ≡ true
done_of made t task link is =
    let standing = standing_of t task in
    let next = next_in t.phase t task standing in
    let awaited = if awaits standing then rule.Receive else next in
    let connected = if is_absent link && not (is_done t.phase) then connecting t task standing else awaited in
    let by_rule : rule_of t task link ≡ rule.Complete = else_of (is_stale made (incarnation_of t) link) rule.Stale (rule_of t task link) (λ e. absurd (cc)) is in
    let part : connected ≡ rule.Complete = else_of (not (takes_part t task)) rule.Nothing connected (λ e. absurd (cc)) by_rule in
    let present : awaited ≡ rule.Complete = else_of (is_absent link && not (is_done t.phase)) (connecting t task standing) awaited (no_choice (is_apart standing && ((task == 0) || t.joined)) rule.Connect rule.Nothing (λ e. absurd (cc)) (λ e. absurd (cc))) part in
    next_done t.phase t task standing (else_of (awaits standing) rule.Receive next (λ e. absurd (cc)) present)

-- ---- no other rule ends the clone so

module _ (lsn position : ℕ) where
  abbrev pub complete : TaskAnswer
  complete = says.Ended (end.Complete lsn position)

  pub other : (answer x : TaskAnswer) → (x ≡ complete → ⊥) → answer ≡ complete → answer ≡ x → ⊥
  other answer x not_x is heard = not_x (sym heard ∙ is)

  not_put : (which : Rule) (task floor : ℕ) (old new : Reception) (sent put : List ℕ) (answer : TaskAnswer) → answer ≡ complete → PutsOut which task floor old new sent put answer → ⊥
  not_put which task floor old new sent put answer is (fetch.puts next of sent_is after bytes heard) = other answer _ (λ e. absurd (cc)) is heard
  not_put which task floor old new sent put answer is (fetch.no_frame after bytes heard) = other answer _ (λ e. absurd (cc)) is heard
  not_put which task floor old new sent put answer is (fetch.no_bytes after bytes heard) = other answer _ (λ e. absurd (cc)) is heard

  not_breaks : (bytes : List ℕ) (old new : Reception) (answer : TaskAnswer) → answer ≡ complete → Breaks bytes old new answer → ⊥
  not_breaks bytes old new answer is (fetch.breaks kept kept_is after heard) = other answer _ (λ e. absurd (cc)) is heard
  not_breaks bytes old new answer is (fetch.not_kept after heard) = other answer _ (λ e. absurd (cc)) is heard

  not_refused : (cause : Option CloneCause) (got : Frame) → fetch.says_of cause got ≡ complete → ⊥
  not_refused (Some cause) got is = absurd (cc)
  not_refused None got is = absurd (cc)

  not_frame : (task : ℕ) (got : Frame) (old new : Reception) (before after : DiskState) (answer : TaskAnswer) → answer ≡ complete → TakesFrame task got old new before after answer → ⊥
  not_frame task got old new before after answer is (fetch.accepts expected took heard) = other answer _ (not_refused (fetch.refusal_in got) got) is heard
  not_frame task got old new before after answer is (fetch.rejects unexpected broke same) = not_breaks (spelling got) old new answer is broke
  not_frame task got old new before after answer is (fetch.not_laid expected keeps ended heard) = other answer _ (λ e. absurd (cc)) is heard
  not_frame task got old new before after answer is (fetch.no_room expected keeps same heard) = other answer _ (λ e. absurd (cc)) is heard

  not_lost : (t : Table) → fetch.loss_says t ≡ complete → ⊥
  not_lost t is = by (is_spent t) is
    where
      by : (b : Bool) → (if b then says.Ended (end.Spent t.losses) else says.Lost t.losses) ≡ complete → ⊥
      by true e = absurd (cc)
      by false e = absurd (cc)

  not_received : (task : ℕ) (at : Link) (old new : Reception) (before after : DiskState) (received left : List ℕ) (answer : TaskAnswer) → answer ≡ complete → Receives task at old new before after received left answer → ⊥
  not_received task at old new before after received left answer is (fetch.takes got of front took) = not_frame task got old new before after answer is took
  not_received task at old new before after received left answer is (fetch.garbled lost broke disk same) = not_breaks received old new answer is broke
  not_received task at old new before after received left answer is (fetch.loses lost partial after_is disk same heard) = other answer _ (not_lost (after_loss old.table)) is heard
  not_received task at old new before after received left answer is (fetch.waits up partial after_is disk same heard) = other answer _ (λ e. absurd (cc)) is heard
  not_received task at old new before after received left answer is (fetch.not_read after_is disk same heard) = other answer _ (λ e. absurd (cc)) is heard

  abbrev pub IsEnding : Rule → Requester → Requester → TaskAnswer → Type 0
  IsEnding which old new answer = (which ≡ rule.Complete) × Completes old.reception new.reception old.disk.told new.disk.told old.sent new.sent answer

  pub ends_by : (which : Rule) (at : Link) (task floor : ℕ) (old new : Requester) (answer : TaskAnswer) → answer ≡ complete → StepsBy which at task floor old new answer → IsEnding which old new answer
  ends_by rule.Nothing at task floor old new answer is steps = absurd (other answer _ (λ e. absurd (cc)) is steps.1)
  ends_by rule.Stale at task floor old new answer is steps = absurd (other answer _ (λ e. absurd (cc)) is steps.1)
  ends_by rule.Connect at task floor old new answer is steps = absurd (not_put rule.Connect task floor old.reception new.reception old.sent new.sent answer is steps.0)
  ends_by (rule.Acknowledge stage) at task floor old new answer is steps = absurd (not_put (rule.Acknowledge stage) task floor old.reception new.reception old.sent new.sent answer is steps.0)
  ends_by (rule.Execute stage) at task floor old new answer is steps = absurd (not_put (rule.Execute stage) task floor old.reception new.reception old.sent new.sent answer is steps.0)
  ends_by rule.Receive at task floor old new answer is steps = absurd (not_received task at old.reception new.reception old.disk new.disk old.received new.received answer is steps.0)
  ends_by rule.Complete at task floor old new answer is steps = (refl, steps.0)

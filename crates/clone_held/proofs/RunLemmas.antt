-- A run of steps of tasks: what was accepted was answered while the clone goes on, and once it has
-- ended, or the copy was given up, nothing changes any more.
use Rattle.std.proofs.Common.{ℕ, ◌≡◌, ◌∙◌, ◌==◌, ◌&&◌, ◌||◌, ◌∷◌, [], List, Bool, true, false, not, nat_lt, if◌then◌else◌, Option, None, Some, refl, sym, ap, subst, flat_map, arith}
use Rattle.std.specs.Prelude.{is_none}
use Rattle.std.proofs.lemmas.Bool.{true≢false}
use Rattle.std.proofs.lemmas.List.Elements.{Contains-append_left, Contains-append_right}
use Rattle.clone_outside.specs.Disk.{DiskImage, ForTold, Steps as StepsDisk, blank}
use Rattle.clone_outside.specs.DiskCalls.{DiskState}
use Rattle.clone_outside.specs.declared.mark.Mark.TheVariants.{InProgress}
use Rattle.clone_lay.specs.Marked.{marked}
use Rattle.clone_turn.specs.Runs.{IsLegalRun, end_of}
use Rattle.clone_wire.specs.Spelling.{spelling}
use Rattle.clone_tasks.specs.Rules.{is_stale, rule_at, rule_of, takes_part}
use Rattle.clone_tasks.specs.Tables.{Table, incarnation_of, is_done, is_running}
use Rattle.clone_tasks.specs.declared.end.CloneEnd.{CloneEnd}
use Rattle.clone_tasks.specs.declared.end.CloneEnd.TheVariants as end
use Rattle.clone_tasks.specs.declared.rule.Link.{Link}
use Rattle.clone_tasks.specs.declared.rule.Rule.{Rule}
use Rattle.clone_tasks.specs.declared.rule.Rule.TheVariants as rule
use Rattle.clone_recipient.specs.Receptions.{Reception}
use Rattle.clone_recipient.proofs.RecordLemmas.{record_begins}
use Rattle.clone_fetch.specs.Fetching.{Requester, StepsBy, requester}
use Rattle.clone_fetch.specs.declared.answer.TaskAnswer.{TaskAnswer}
use Rattle.clone_fetching.specs.Recipients.{Follows, RecipientModel, RecipientSteps, Steps, lacks_memory, rule_in}
use Rattle.clone_fetching.specs.declared.machine.RecipientAnswer.{RecipientAnswer}
use Rattle.clone_fetching.specs.declared.machine.RecipientAnswer.TheVariants as answer
use Rattle.clone_fetching.specs.declared.machine.RecipientCall.{RecipientCall}
use Rattle.clone_fetching.specs.declared.machine.RecipientCall.TheVariants as call
use Rattle.clone_fetching.specs.declared.recipient.TaskStep.{TaskStep}
use Rattle.clone_fetching.specs.declared.recipient.TaskStepped.{TaskStepped}
use Rattle.clone_copying.specs.Calls.{RecipientEntry, taken_by}
use Rattle.clone_sides.specs.Trace.{Entry}
use Rattle.clone_joined.proofs.EndingLemmas.{done_of}
use Rattle.clone_reading.specs.Reading.{if_any, takes_in}
use Rattle.clone_held.specs.Held.{AreTold, HasAccepted, HasBegun}
use Rattle.clone_held.proofs.CourseLemmas.{Course, HasCompleted, IsOther, goes_on, lacks, over, step_course, whole}
use Rattle.clone_held.proofs.HeardLemmas.{heard_frame}

-- ---- A CLONE THAT HAS ENDED RESTS.

none_takes : (a b : Bool) → (a && false && b) ≡ false
none_takes true b = refl
none_takes false b = refl

no_part : (t : Table) (task : ℕ) → is_running t ≡ false → takes_part t task ≡ false
no_part t task ended =
    let rest : Bool = not (is_done t.phase) || (task == 0) in
    ap (λ (b : Bool). nat_lt task t.count && b && rest) ended ∙ none_takes (nat_lt task t.count) rest

chosen : (b : Bool) (x y : Rule) → b ≡ true → (if b then x else y) ≡ x
chosen b x y is = ap (λ (c : Bool). if c then x else y) is

ended_rests : (made : Option ℕ) (link : Link) (task floor : ℕ) (old new : Requester) (answer : TaskAnswer) → is_running old.reception.table ≡ false → StepsBy (rule_at made old.reception.table task link) link task floor old new answer → new ≡ old
ended_rests made link task floor old new answer ended steps = by (is_stale made (incarnation_of old.reception.table) link) steps
  where
    none : rule_of old.reception.table task link ≡ rule.Nothing
    none = chosen _ _ _ (ap not (no_part old.reception.table task ended))

    by : (stale : Bool) → StepsBy (if stale then rule.Stale else rule_of old.reception.table task link) link task floor old new answer → new ≡ old
    by true steps = steps.0
    by false steps = (subst (λ (which : Rule). StepsBy which link task floor old new answer) none steps).0

ended_both : (a : Option CloneEnd) (how : CloneEnd) → a ≡ Some how → a ≡ None → ⊥
ended_both a how some none = (let both : Some how ≡ None = sym some ∙ none in absurd cc)

no_end : (how : CloneEnd) (lsn position : ℕ) → IsOther how → how ≡ end.Complete lsn position → ⊥
no_end how lsn position other is = subst IsOther is other

-- ---- what is known along a run

module _ {R : Type 0} (state : R → DiskState) (number : ℕ) (trace : List Entry) where
  abbrev Has : RecipientModel R → Type 0
  Has s = HasAccepted number trace s.reception (state s.disk).told

  pub record Known (s : RecipientModel R) : Type 0 where
    pub accepted : s.given_up ≡ false → s.reception.table.ended ≡ None → Has s
    pub completed : (lsn position : ℕ) → s.reception.table.ended ≡ Some (end.Complete lsn position) → HasCompleted number trace s.reception (state s.disk).told

  -- by what a step of a clone that goes on has led to
  by_course : (t : RecipientModel R) (answer : TaskAnswer) → t.given_up ≡ lacks_memory answer → Course number trace t.reception (state t.disk).told answer → Known t
  by_course t answer up (goes_on none has) = record { accepted = λ stands goes. has; completed = λ lsn position is. absurd (ended_both t.reception.table.ended _ is none) }
  by_course t answer up (lacks none heard) = record {
    accepted = λ stands goes. absurd (true≢false (sym (up ∙ ap lacks_memory heard) ∙ stands));
    completed = λ lsn position is. absurd (ended_both t.reception.table.ended _ is none);
  }
  by_course t answer up (over how ended other) = record {
    accepted = λ stands goes. absurd (ended_both t.reception.table.ended how ended goes);
    completed = λ lsn position is. absurd (no_end how lsn position other (let both : Some how ≡ Some (end.Complete lsn position) = sym ended ∙ is in cc));
  }
  by_course t answer up (whole has) = record { accepted = λ stands goes. absurd (ended_both t.reception.table.ended _ has.ended goes); completed = λ lsn position is. has }

  -- a clone that has ended stays as it is
  stays : (s t : RecipientModel R) (how : CloneEnd) → s.reception.table.ended ≡ Some how → t.reception ≡ s.reception → state t.disk ≡ state s.disk → Known s → Known t
  stays s t how ended same disk k =
      let on : t.reception.table.ended ≡ s.reception.table.ended = ap (λ (x : Reception). x.table.ended) same in
      record {
        accepted = λ stands goes. absurd (ended_both t.reception.table.ended how (on ∙ ended) goes);
        completed = λ lsn position is. subst (λ (e : DiskState). HasCompleted number trace t.reception e.told) (sym disk) (subst (λ (x : Reception). HasCompleted number trace x (state s.disk).told) (sym same) (k.completed lsn position (sym on ∙ is)));
      }

  module _ (s : RecipientModel R) (c : TaskStep) (a : TaskStepped) (t : RecipientModel R) (k : Known s) where
    follows : s.given_up ≡ false → Follows state s c a t → AreTold number trace (if_any (taken_by (call.Step c) (answer.Stepped a))) → Known t
    follows stands f told = by s.reception.table.ended refl
      where
        by : (ended : Option CloneEnd) → s.reception.table.ended ≡ ended → Known t
        by None is =
            by_course t a.answer f.given_up (step_course number trace s.reception (state s.disk) (k.accepted stands is) is (rule_in s c) c.link c.task c.floor t.reception (state t.disk) c.received.items a.received.items c.sent.items a.sent.items a.answer
            (λ got of front. heard_frame number trace got c.received.items a.received.items told of front) (done_of c.core s.reception.table c.task c.link) f.steps)
        by (Some how) is =
            let same = ended_rests c.core c.link c.task c.floor (requester s.reception (state s.disk) c.received.items c.sent.items) (requester t.reception (state t.disk) a.received.items a.sent.items) a.answer (ap is_none is) f.steps in
            stays s t how is (ap (λ (x : Requester). x.reception) same) (ap (λ (x : Requester). x.disk) same) k

    stepped : Steps state s c a t → AreTold number trace (if_any (taken_by (call.Step c) (answer.Stepped a))) → Known t
    stepped steps told = by s.given_up refl
      where
        by : (given_up : Bool) → s.given_up ≡ given_up → Known t
        by true is = subst Known (sym (steps.1 is).same) k
        by false is = follows is (steps.0 is) told

  known_call : (s t : RecipientModel R) (asked : RecipientCall) (given : RecipientAnswer) → Known s → RecipientSteps state s asked given t → AreTold number trace (if_any (taken_by asked given)) → Known t
  known_call s t (call.Step c) (answer.Stepped a) k steps told = stepped s c a t k steps told
  known_call s t (call.Step c) (answer.Ended result) k steps told = absurd steps
  known_call s t call.Ended (answer.Stepped a) k steps told = absurd steps
  known_call s t call.Ended (answer.Ended result) k steps told = subst Known (sym steps.0) k

  pub known_run : (s : RecipientModel R) (run : List (RecipientEntry R)) → Known s → IsLegalRun (RecipientSteps state) s run → AreTold number trace (flat_map takes_in run) → Known (end_of s run)
  known_run s [] k legal told = k
  known_run s (e ∷ es) k legal told =
      known_run e.after es (known_call s e.after e.call e.answer k legal.0 (λ sent of there. told sent of (Contains-append_left (takes_in e) (flat_map takes_in es) (spelling sent) there))) legal.1
      (λ sent of there. told sent of (Contains-append_right (takes_in e) (flat_map takes_in es) (spelling sent) there))

  -- ---- and at its beginning

  begun_told : (told now : Option DiskImage) → ForTold told (λ m. m ≡ blank) → StepsDisk told now (marked (InProgress number)) → ForTold now (λ m. m ≡ marked (InProgress number) blank)
  begun_told None now is steps = subst (λ (o : Option DiskImage). ForTold o (λ m. m ≡ marked (InProgress number) blank)) (sym steps) tt
  begun_told (Some m) now is steps = subst (λ (o : Option DiskImage). ForTold o (λ m. m ≡ marked (InProgress number) blank)) (sym steps) (ap (marked (InProgress number)) is)

  pub known_begun : (s : RecipientModel R) → HasBegun state number s → Known s
  known_begun s b = record {
    accepted = λ stands goes. subst (λ (r : Reception). HasAccepted number trace r (state s.disk).told) (sym b.reception) (record {
      items = [];
      first = marked (InProgress number) blank;
      blank = refl;
      unfinished = refl;
      accepted = record_begins number b.count b.limit b.version (marked (InProgress number) blank) (state s.disk).told (begun_told b.before (state s.disk).told b.empty b.in_progress);
      answered = λ item (i, within, same). absurd (omega (arith, within));
      session = refl;
      bounded = omega arith;
      counted = tt;
    });
    completed = λ lsn position is. absurd (ended_both s.reception.table.ended _ is (ap (λ (r : Reception). r.table.ended) b.reception));
  }

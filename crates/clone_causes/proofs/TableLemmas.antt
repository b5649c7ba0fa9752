-- What the calls of a recipient change of its table, and of its disk's count of faults, over a legal run.
use Rattle.std.proofs.Common.{◌≡◌, ◌≤◌, ◌⊎◌, ◌∙◌, Bool, true, false, List, [], ◌∷◌, Some, Ok, inl, inr, refl, sym, ap, subst, arith, is_none}
use Rattle.std.specs.List.{AllByRecursion}
use Rattle.std.proofs.lemmas.Option.{same_Some}
use Rattle.clone_outside.specs.Causes.{Rose}
use Rattle.clone_outside.specs.DiskCalls.{DiskState}
use Rattle.clone_turn.specs.Runs.{IsLegalRun, end_of}
use Rattle.clone_tasks.specs.Tables.{Table, is_running}
use Rattle.clone_tasks.specs.declared.end.CloneEnd.{CloneEnd}
use Rattle.clone_tasks.specs.declared.end.CloneEnd.TheVariants as end
use Rattle.clone_fetch.specs.Fetching.{Requester, requester}
use Rattle.clone_fetch.specs.declared.answer.TaskAnswer.TheVariants as says
use Rattle.clone_fetching.specs.Recipients.{Follows, IsToldOf, RecipientModel, RecipientSteps, end_told, rule_in}
use Rattle.clone_fetching.specs.declared.clone_ended.CloneEnded.{CloneEnded}
use Rattle.clone_fetching.specs.declared.machine.RecipientAnswer.{RecipientAnswer}
use Rattle.clone_fetching.specs.declared.machine.RecipientAnswer.TheVariants as answer
use Rattle.clone_fetching.specs.declared.machine.RecipientCall.{RecipientCall}
use Rattle.clone_fetching.specs.declared.machine.RecipientCall.TheVariants as call
use Rattle.clone_fetching.specs.declared.recipient.TaskStep.{TaskStep}
use Rattle.clone_fetching.specs.declared.recipient.TaskStepped.{TaskStepped}
use Rattle.clone_copying.specs.Calls.{RecipientEntry}
use Rattle.clone_causes.proofs.CountLemmas.{later_on, rose_before, rose_behind}
use Rattle.clone_causes.proofs.StepLemmas.{Course, EndsNow, IsOver, course, still}

-- however the clone has ended, it had more losses than the limit if it was spent
abbrev pub IsCounted : Table → Type 0
IsCounted t = (how : CloneEnd) → t.ended ≡ Some how → IsOver how t.limit

ended_not : (t : Table) (how : CloneEnd) → t.ended ≡ Some how → is_running t ≡ false
ended_not t how is = ap is_none is

module _ {R : Type 0} (state : R → DiskState) where
  -- WHAT HOLDS FROM ONE STATE TO ANOTHER: a table that has ended stays, the count doesn't fall, and where the clone ended for a fault of the disk meanwhile it rose
  pub record Passed (s t : RecipientModel R) : Type 0 where
    pub stays : (how : CloneEnd) → s.reception.table.ended ≡ Some how → t.reception.table ≡ s.reception.table
    pub later : (state s.disk).failures ≤ (state t.disk).failures
    pub fault : t.reception.table.ended ≡ Some end.DiskFault → (s.reception.table.ended ≡ Some end.DiskFault) ⊎ Rose (state s.disk).failures (state t.disk).failures
    pub limit : t.reception.table.limit ≡ s.reception.table.limit
    pub counted : IsCounted s.reception.table → IsCounted t.reception.table

  passed_same : (s t : RecipientModel R) → t ≡ s → Passed s t
  passed_same s t same =
      let table : t.reception.table ≡ s.reception.table = ap (λ (x : RecipientModel R). x.reception.table) same in
      record {
        stays = λ how ended. table;
        later = omega (arith, ap (λ (x : RecipientModel R). (state x.disk).failures) same);
        fault = λ ended. inl (sym (ap (λ (x : Table). x.ended) table) ∙ ended);
        limit = ap (λ (x : Table). x.limit) table;
        counted = λ counted. subst IsCounted (sym table) counted;
      }

  passed_more : (s t u : RecipientModel R) → Passed s t → Passed t u → Passed s u
  passed_more s t u first second = record {
    stays = λ how ended.
        let same = first.stays how ended in
        second.stays how (ap (λ (x : Table). x.ended) same ∙ ended) ∙ same;
    later = later_on (state s.disk).failures (state t.disk).failures (state u.disk).failures first.later second.later;
    fault = λ ended. elim (second.fault ended) [
      | inl before ↦ elim (first.fault before) [
        | inl at_first ↦ inl at_first
        | inr rose ↦ inr (rose_before (state s.disk).failures (state t.disk).failures (state u.disk).failures rose second.later)
      ]
      | inr rose ↦ inr (rose_behind (state s.disk).failures (state t.disk).failures (state u.disk).failures first.later rose)
    ];
    limit = second.limit ∙ first.limit;
    counted = λ counted. second.counted (first.counted counted);
  }

  passed_step : (s : RecipientModel R) (c : TaskStep) (a : TaskStepped) (t : RecipientModel R) → Follows state s c a t → Passed s t
  passed_step s c a t follows =
      let r = s.reception in
      let old : Requester = requester r (state s.disk) c.received.items c.sent.items in
      let new : Requester = requester t.reception (state t.disk) a.received.items a.sent.items in
      let goes : Course r t.reception a.answer = course (rule_in s c) c.link c.task c.floor old new a.answer follows.steps in
      record {
        stays = λ how ended. ap (λ (x : Requester). x.reception.table) (still c.core c.link c.task c.floor old new a.answer (ended_not r.table how ended) follows.steps);
        later = follows.works.later;
        fault = λ ended. elim goes.ended [
          | inl same ↦ inl (sym same ∙ ended)
          | inr now ↦ inr (follows.works.fault (now.told ∙ ap (λ how. says.Ended how) (same_Some now.how end.DiskFault (sym now.is ∙ ended))))
        ];
        limit = goes.limit;
        counted = λ counted how ended. subst (IsOver how) (sym goes.limit) (by counted how ended goes.ended);
      }
    where
      by : IsCounted s.reception.table → (how : CloneEnd) → t.reception.table.ended ≡ Some how → (t.reception.table.ended ≡ s.reception.table.ended) ⊎ EndsNow s.reception t.reception a.answer → IsOver how s.reception.table.limit
      by counted how ended (inl same) = counted how (sym same ∙ ended)
      by counted how ended (inr now) = subst (λ (x : CloneEnd). IsOver x s.reception.table.limit) (same_Some now.how how (sym now.is ∙ ended)) now.over

  passed_call : (s : RecipientModel R) (c : RecipientCall) (a : RecipientAnswer) (t : RecipientModel R) → RecipientSteps state s c a t → Passed s t
  passed_call s (call.Step c) (answer.Stepped a) t steps = by s.given_up refl
    where
      by : (b : Bool) → s.given_up ≡ b → Passed s t
      by true is = passed_same s t (steps.1 is).same
      by false is = passed_step s c a t (steps.0 is)
  passed_call s (call.Step c) (answer.Ended told) t steps = absurd steps
  passed_call s call.Ended (answer.Stepped a) t steps = absurd steps
  passed_call s call.Ended (answer.Ended told) t steps = passed_same s t steps.0

  pub passed : (first : RecipientModel R) (run : List (RecipientEntry R)) → IsLegalRun (RecipientSteps state) first run → Passed first (end_of first run)
  passed first [] legal = passed_same first first refl
  passed first (e ∷ es) legal = passed_more first e.after (end_of e.after es) (passed_call first e.call e.answer e.after legal.0) (passed e.after es legal.1)

  -- ---- HOW THE CLONE ENDED, as it was told by some call, is told of the table at the end

  still_told : (s t : RecipientModel R) (how : CloneEnded) → Passed s t → IsToldOf s.reception.table (Some how) → IsToldOf t.reception.table (Some how)
  still_told s t how passes told = subst (λ (x : Table). IsToldOf x (Some how)) (sym (passes.stays (end_told how) (sym told.end))) told

  told_now : (first after last : RecipientModel R) (c : RecipientCall) (a : RecipientAnswer) (how : CloneEnded) → RecipientSteps state first c a after → Passed after last → c ≡ call.Ended → a ≡ answer.Ended (Ok (Some how)) → IsToldOf last.reception.table (Some how)
  told_now first after last c a how steps passes asked given =
      let asks : RecipientSteps state first call.Ended (answer.Ended (Ok (Some how))) after = subst (λ (x : RecipientAnswer). RecipientSteps state first call.Ended x after) given (subst (λ (x : RecipientCall). RecipientSteps state first x a after) asked steps) in
      still_told after last how passes (subst (λ (x : RecipientModel R). IsToldOf x.reception.table (Some how)) (sym asks.0) asks.1)

  pub each_told : (first : RecipientModel R) (run : List (RecipientEntry R)) → IsLegalRun (RecipientSteps state) first run
      → AllByRecursion (λ (e : RecipientEntry R). (how : CloneEnded) → e.call ≡ call.Ended → e.answer ≡ answer.Ended (Ok (Some how)) → IsToldOf (end_of first run).reception.table (Some how)) run
  each_told first [] legal = tt
  each_told first (e ∷ es) legal = (
    (λ how asked given. told_now first e.after (end_of e.after es) e.call e.answer how legal.0 (passed e.after es legal.1) asked given),
    each_told e.after es legal.1,
  )

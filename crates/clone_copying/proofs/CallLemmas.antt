-- The calls of a task, one after the other.
use Rattle.std.proofs.Common.{ℕ, ◌≡◌, ◌∙◌, List, [], ◌∷◌, ◌++◌, length, Option, Ok, Some, false, refl, ap, sym, subst, arith}
use Rattle.std.proofs.lemmas.Grind.{flat_map-append}
use Rattle.std.proofs.lemmas.List.{append-nil, append_assoc, length-append, nil_from_length}
use Rattle.clone_outside.specs.DiskCalls.{DiskState}
use Rattle.clone_turn.proofs.EachLemmas.{each_append}
use Rattle.clone_tasks.specs.declared.rule.Link.TheVariants.{Absent}
use Rattle.clone_fetch.specs.Fetching.{is_lost}
use Rattle.clone_fetching.specs.Recipients.{RecipientSteps}
use Rattle.clone_fetching.specs.declared.clone_ended.CloneEnded.{CloneEnded}
use Rattle.clone_fetching.specs.declared.machine.RecipientAnswer.{RecipientAnswer}
use Rattle.clone_fetching.specs.declared.machine.RecipientAnswer.TheVariants as answer
use Rattle.clone_fetching.specs.declared.machine.RecipientCall.{RecipientCall}
use Rattle.clone_fetching.specs.declared.machine.RecipientCall.TheVariants as call
use Rattle.clone_fetching.specs.declared.recipient.TaskStep.{TaskStep}
use Rattle.clone_fetching.specs.declared.recipient.TaskStepped.{TaskStepped}
use Rattle.clone_copying.specs.Calling.{IsAnswered, IsOne}
use Rattle.clone_copying.specs.Calls.{AreCalls, FindNoLoss, IsCallOf, IsStep, IsTold, RecipientEntry, core_after, finds_loss, put, put_by, taken, taken_by}
use Rattle.clone_copying.specs.Fetching.{AreApart, HasCause}
use Rattle.clone_copying.specs.Turning.{IsAsked, Waits}
use Rattle.clone_copying.specs.declared.fetch_end.FetchEnd.{FetchEnd}
use Rattle.clone_copying.specs.declared.fetch_end.FetchEnd.TheVariants as ending
use Rattle.clone_copying.proofs.ByteLemmas.{step_put, step_took}

module _ (task : ℕ) (P Q : ℕ → Type 0) where
  call_later : ((n : ℕ) → P n → Q n) → (core : Option ℕ) (c : RecipientCall) → IsCallOf task P core c → IsCallOf task Q core c
  call_later keeps core (call.Step c) is = (is.0, is.1, keeps c.floor is.2)
  call_later keeps core call.Ended is = tt

none_before : (xs ys : List ℕ) → xs ++ ys ≡ [] → xs ≡ []
none_before xs ys is = let both = length-append xs ys in let none = ap length is in nil_from_length xs (omega (arith, both, none))

pub apart_none : (R : Type 0) → AreApart {R = R} []
apart_none R = (refl, tt)

after_step : (core : Option ℕ) (c : TaskStep) (a : TaskStepped) (x : RecipientCall) (y : RecipientAnswer) → x ≡ call.Step c → y ≡ answer.Stepped a → a.core ≡ core_after x y core
after_step core c a x y x_is y_is = sym (ap (λ (z : RecipientCall). core_after z y core) x_is ∙ ap (λ (z : RecipientAnswer). core_after (call.Step c) z core) y_is)

module _ {R : Type 0} where
  pub taken_more : (xs ys : List (RecipientEntry R)) → taken (xs ++ ys) ≡ taken xs ++ taken ys
  taken_more xs ys = flat_map-append (λ (e : RecipientEntry R). taken_by e.call e.answer) xs ys

  pub put_more : (xs ys : List (RecipientEntry R)) → put (xs ++ ys) ≡ put xs ++ put ys
  put_more xs ys = flat_map-append (λ (e : RecipientEntry R). put_by e.call e.answer) xs ys

  -- ---- one call

  taken_one : (c : RecipientCall) (a : RecipientAnswer) (made : List (RecipientEntry R)) → IsOne c a made → taken made ≡ taken_by c a
  taken_one c a made one =
      ap (λ (es : List (RecipientEntry R)). taken es) one.1 ∙ (append-nil (taken_by one.0.call one.0.answer) ∙ (ap (λ (x : RecipientCall). taken_by x one.0.answer) one.2 ∙ ap (taken_by c) one.3))

  put_one : (c : RecipientCall) (a : RecipientAnswer) (made : List (RecipientEntry R)) → IsOne c a made → put made ≡ put_by c a
  put_one c a made one =
      ap (λ (es : List (RecipientEntry R)). put es) one.1 ∙ (append-nil (put_by one.0.call one.0.answer) ∙ (ap (λ (x : RecipientCall). put_by x one.0.answer) one.2 ∙ ap (put_by c) one.3))

  -- a call that is a step of the recipient is a step of the task
  pub is_step : (state : R → DiskState) (c : TaskStep) (a : TaskStepped) (made : List (RecipientEntry R)) → IsAnswered (RecipientSteps state) (call.Step c) (answer.Stepped a) made → IsStep c a made
  is_step state c a made (one, (s, t, steps)) = record {
    one = one;
    received = step_took state s c a t steps ∙ ap (λ xs. xs ++ a.received.items) (sym (taken_one (call.Step c) (answer.Stepped a) made one));
    sent = step_put state s c a t steps ∙ ap (λ xs. c.sent.items ++ xs) (sym (put_one (call.Step c) (answer.Stepped a) made one));
  }

  -- ---- calls of the task

  module _ (task : ℕ) (P Q : ℕ → Type 0) where
    pub calls_later : ((n : ℕ) → P n → Q n) → (core left : Option ℕ) (made : List (RecipientEntry R)) → AreCalls task P core made left → AreCalls task Q core made left
    calls_later keeps core left [] is = is
    calls_later keeps core left (e ∷ es) is = (call_later task P Q keeps core e.call is.0, calls_later keeps (core_after e.call e.answer core) left es is.1)

  module _ (task : ℕ) (P : ℕ → Type 0) where
    pub calls_more : (core mid left : Option ℕ) (xs ys : List (RecipientEntry R)) → AreCalls task P core xs mid → AreCalls task P mid ys left → AreCalls task P core (xs ++ ys) left
    calls_more core mid left [] ys a b = subst (λ c. AreCalls task P c ys left) a b
    calls_more core mid left (e ∷ es) ys a b = (a.0, calls_more (core_after e.call e.answer core) mid left es ys a.1 b)

    pub calls_step : (core left : Option ℕ) (c : TaskStep) (a : TaskStepped) (made : List (RecipientEntry R)) → IsOne (call.Step c) (answer.Stepped a) made → c.task ≡ task → c.core ≡ core → P c.floor → left ≡ a.core → AreCalls task P core made left
    calls_step core left c a made one task_is core_is looked left_is =
        subst (λ (es : List (RecipientEntry R)). AreCalls task P core es left) (sym one.1)
        (subst (IsCallOf task P core) (sym one.2) (task_is, core_is, looked), left_is ∙ after_step core c a one.0.call one.0.answer one.2 one.3)

    pub calls_asked : (core : Option ℕ) (made : List (RecipientEntry R)) → IsAsked made → AreCalls task P core made core
    calls_asked core made (told, one) =
        subst (λ (es : List (RecipientEntry R)). AreCalls task P core es core) (sym one.1)
        (subst (IsCallOf task P core) (sym one.2) tt, ap (λ (x : RecipientCall). core_after x one.0.answer core) (sym one.2))

  pub taken_asked : (made : List (RecipientEntry R)) → IsAsked made → taken made ≡ []
  taken_asked made (told, one) = taken_one call.Ended told made one

  pub put_asked : (made : List (RecipientEntry R)) → IsAsked made → put made ≡ []
  put_asked made (told, one) = put_one call.Ended told made one

  pub no_loss_asked : (made : List (RecipientEntry R)) → IsAsked made → FindNoLoss made
  no_loss_asked made (told, one) = subst (λ (es : List (RecipientEntry R)). FindNoLoss es) (sym one.1) (ap finds_loss one.2, tt)

  -- ---- without a connection

  pub apart_more : (xs ys : List (RecipientEntry R)) → AreApart xs → AreApart ys → AreApart (xs ++ ys)
  apart_more xs ys a b = (
    taken_more xs ys ∙ (ap (λ zs. zs ++ taken ys) a.0 ∙ b.0),
    each_append (λ (e : RecipientEntry R). finds_loss e.call ≡ false) xs ys a.1 b.1,
  )

  module _ (task : ℕ) (P Q : ℕ → Type 0) (keeps : (n : ℕ) → P n → Q n) where
    pub waits_more : (core mid left : Option ℕ) (xs ys : List (RecipientEntry R)) → Waits task P core xs mid → Waits task Q mid ys left → Waits task Q core (xs ++ ys) left
    waits_more core mid left xs ys a b = record {
      apart = apart_more xs ys a.apart b.apart;
      calls = calls_more task Q core mid left xs ys (calls_later task P Q keeps core mid xs a.calls) b.calls;
    }

    pub waits_later : (core left : Option ℕ) (made : List (RecipientEntry R)) → Waits task P core made left → Waits task Q core made left
    waits_later core left made waits = record { apart = waits.apart; calls = calls_later task P Q keeps core left made waits.calls }

  pub waits_none : (task : ℕ) (P : ℕ → Type 0) (core : Option ℕ) → Waits {R = R} task P core [] core
  waits_none task P core = record { apart = apart_none R; calls = refl }

  pub waits_asked : (task : ℕ) (P : ℕ → Type 0) (core : Option ℕ) (made : List (RecipientEntry R)) → IsAsked made → Waits task P core made core
  waits_asked task P core made asked = record {
    apart = (taken_asked made asked, no_loss_asked made asked);
    calls = calls_asked task P core made asked;
  }

  -- a step without a connection
  pub waits_step : (task : ℕ) (P : ℕ → Type 0) (core left : Option ℕ) (c : TaskStep) (a : TaskStepped) (made : List (RecipientEntry R)) → IsStep c a made → c.link ≡ Absent → c.received.items ≡ []
      → c.task ≡ task → c.core ≡ core → P c.floor → left ≡ a.core → Waits task P core made left
  waits_step task P core left c a made step absent none task_is core_is looked left_is = record {
    apart = (
      none_before (taken made) a.received.items (sym step.received ∙ none),
      subst (λ (es : List (RecipientEntry R)). FindNoLoss es) (sym step.one.1) (ap finds_loss step.one.2 ∙ ap is_lost absent, tt),
    );
    calls = calls_step task P core left c a made step.one task_is core_is looked left_is;
  }

  -- ---- why a fetch ended

  told_more : (how : CloneEnded) (xs ys : List (RecipientEntry R)) → IsTold how ys → IsTold how (xs ++ ys)
  told_more how xs ys (before, last, is, one) =
      (xs ++ before, last, ap (λ zs. xs ++ zs) is ∙ sym (append_assoc xs before last), one)

  pub told_one : (how : CloneEnded) (made : List (RecipientEntry R)) → IsOne call.Ended (answer.Ended (Ok (Some how))) made → IsTold how made
  told_one how made one = ([], made, refl, one)

  module _ (F G H I : Type 0) (f : F → G) (h : H → I) where
    pub cause_more : (why : FetchEnd) (xs ys : List (RecipientEntry R)) → HasCause F H why ys → HasCause G I why (xs ++ ys)
    cause_more (ending.Ended how) xs ys cause = told_more how xs ys cause
    cause_more ending.NetFault xs ys cause = f cause
    cause_more ending.Halted xs ys cause = h cause
    cause_more ending.NoMemory xs ys cause = tt

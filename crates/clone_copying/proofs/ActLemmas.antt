-- What a task did over an end, call after call.
use Rattle.std.proofs.Common.{inl, ℕ, ◌≡◌, ◌∙◌, Bool, true, false, List, [], ◌++◌, Option, refl, ap, sym, subst}
use Rattle.std.specs.List.{AllByRecursion}
use Rattle.std.proofs.lemmas.Bool.{false≢true}
use Rattle.std.proofs.lemmas.List.{append-nil, append_assoc}
use Rattle.clone_outside.specs.declared.link.Link.{Ghosts as Link}
use Rattle.clone_turn.proofs.EachLemmas.{each_append, each_map}
use Rattle.clone_fetch.specs.Fetching.{is_lost}
use Rattle.clone_fetching.specs.declared.recipient.TaskStep.{TaskStep}
use Rattle.clone_fetching.specs.declared.recipient.TaskStepped.{TaskStepped}
use Rattle.clone_copying.specs.Calls.{FindNoLoss, IsStep, RecipientEntry, finds_loss, put, taken}
use Rattle.clone_copying.specs.Passing.{Acts, GoesOn, HasFound, Passes, state_of}
use Rattle.clone_copying.specs.Turning.{IsAsked}
use Rattle.clone_copying.specs.declared.talk.Talk.{Talk}
use Rattle.clone_copying.proofs.CallLemmas.{calls_asked, calls_later, calls_more, calls_step, no_loss_asked, put_asked, put_more, taken_asked, taken_more}
use Rattle.clone_copying.proofs.PassingLemmas.{found_before, found_later, goes_more, goes_none, passes_more, takes_front}

lost_state : (lost : Bool) → is_lost (state_of lost) ≡ lost
lost_state true = refl
lost_state false = refl

module _ {L X : Type 0} (link : Link L X) where
  -- of the same bytes
  pub passes_as : (a : Talk L) (b : L) (t u p q : List ℕ) → u ≡ t → q ≡ p → Passes link a b t p → Passes link a b u q
  passes_as a b t u p q took put_out is =
      subst (λ zs. Passes link a b zs q) (sym took) (subst (λ zs. Passes link a b t zs) (sym put_out) is)

  pub goes_as : (a b : Talk L) (t u p q : List ℕ) → u ≡ t → q ≡ p → GoesOn link a b t p → GoesOn link a b u q
  goes_as a b t u p q took put_out is =
      subst (λ zs. GoesOn link a b zs q) (sym took) (subst (λ zs. GoesOn link a b t zs) (sym put_out) is)

  module _ {R : Type 0} where
    -- a loss that was found stays found
    abbrev Losses : Talk L → L → List (RecipientEntry R) → Type 0
    Losses a b made = AllByRecursion (λ (e : RecipientEntry R). finds_loss e.call ≡ true → HasFound link a b) made

    losses_more : (a b : Talk L) (c : L) (t p u q : List ℕ) (xs ys : List (RecipientEntry R)) → GoesOn link a b t p → Passes link b c u q → Losses a b.end xs → Losses b c ys → Losses a c (xs ++ ys)
    losses_more a b c t p u q xs ys goes more first next =
        each_append (λ (e : RecipientEntry R). finds_loss e.call ≡ true → HasFound link a c) xs ys
        (each_map (λ (e : RecipientEntry R). finds_loss e.call ≡ true → HasFound link a b.end) (λ (e : RecipientEntry R). finds_loss e.call ≡ true → HasFound link a c)
        (λ e found finds. found_later link a b.end c (found finds) more.later) xs first)
        (each_map (λ (e : RecipientEntry R). finds_loss e.call ≡ true → HasFound link b c) (λ (e : RecipientEntry R). finds_loss e.call ≡ true → HasFound link a c)
        (λ e found finds. found_before link a b c goes.lost goes.passes.later more.later (found finds)) ys next)

    losses_none : (a : Talk L) (b : L) (made : List (RecipientEntry R)) → FindNoLoss made → Losses a b made
    losses_none a b made none =
        each_map (λ (e : RecipientEntry R). finds_loss e.call ≡ false) (λ (e : RecipientEntry R). finds_loss e.call ≡ true → HasFound link a b)
        (λ e sound finds. absurd (false≢true (sym sound ∙ finds))) made none

    module _ (task : ℕ) (P Q : ℕ → Type 0) (keeps : (n : ℕ) → P n → Q n) where
      pub acts_later : (core left : Option ℕ) (first : List ℕ) (a : Talk L) (b : L) (made : List (RecipientEntry R)) → Acts link task P core first a b made left → Acts link task Q core first a b made left
      acts_later core left first a b made acts = record {
        passes = acts.passes;
        losses = acts.losses;
        calls = calls_later task P Q keeps core left made acts.calls;
      }

      -- what was done first, and what was done after it
      pub acts_more : (core mid left : Option ℕ) (first : List ℕ) (a b : Talk L) (c : L) (xs ys : List (RecipientEntry R)) → Acts link task P core first a b.end xs mid → GoesOn link a b (taken xs) (first ++ put xs)
          → Acts link task Q mid [] b c ys left → Acts link task Q core first a c (xs ++ ys) left
      acts_more core mid left first a b c xs ys acts goes more = record {
        passes = passes_as a c (taken xs ++ taken ys) (taken (xs ++ ys)) ((first ++ put xs) ++ put ys) (first ++ put (xs ++ ys))
            (taken_more xs ys) (ap (λ zs. first ++ zs) (put_more xs ys) ∙ sym (append_assoc first (put xs) (put ys)))
            (passes_more link a b c (taken xs) (taken ys) (first ++ put xs) (put ys) goes more.passes);
        losses = losses_more a b c (taken xs) (first ++ put xs) (taken ys) (put ys) xs ys goes more.passes acts.losses more.losses;
        calls = calls_more task Q core mid left xs ys (calls_later task P Q keeps core mid xs acts.calls) more.calls;
      }

    pub both_go : (a b c : Talk L) (xs ys : List (RecipientEntry R)) → GoesOn link a b (taken xs) (put xs) → GoesOn link b c (taken ys) (put ys) → GoesOn link a c (taken (xs ++ ys)) (put (xs ++ ys))
    both_go a b c xs ys goes more =
        goes_as a c (taken xs ++ taken ys) (taken (xs ++ ys)) (put xs ++ put ys) (put (xs ++ ys)) (taken_more xs ys) (put_more xs ys)
        (goes_more link a b c (taken xs) (taken ys) (put xs) (put ys) goes more)

    module _ (task : ℕ) (P : ℕ → Type 0) where
      -- no call was made
      pub acts_none : (core : Option ℕ) (first : List ℕ) (a : Talk L) (b : L) → Passes link a b [] first → Acts link {R = R} task P core first a b [] core
      acts_none core first a b passes = record {
        passes = passes_as a b [] [] first (first ++ []) refl (append-nil first) passes;
        losses = tt;
        calls = refl;
      }

      -- nothing but the clone's end was asked for
      pub acts_asked : (core : Option ℕ) (a : Talk L) (made : List (RecipientEntry R)) → IsAsked made → Acts link task P core [] a a.end made core
      acts_asked core a made asked = record {
        passes = passes_as a a.end [] (taken made) [] (put made) (taken_asked made asked) (put_asked made asked) (goes_none link a).passes;
        losses = losses_none a a.end made (no_loss_asked made asked);
        calls = calls_asked task P core made asked;
      }

    pub goes_asked : (a : Talk L) (made : List (RecipientEntry R)) → IsAsked made → GoesOn link a a (taken made) (put made)
    goes_asked a made asked = goes_as a a [] (taken made) [] (put made) (taken_asked made asked) (put_asked made asked) (goes_none link a)

    -- these bytes were sent first
    pub acts_sent : (task : ℕ) (P : ℕ → Type 0) (core left : Option ℕ) (first : List ℕ) (a b : Talk L) (c : L) (made : List (RecipientEntry R)) → GoesOn link a b [] first → Acts link task P core [] b c made left
        → Acts link task P core first a c made left
    acts_sent task P core left first a b c made goes acts =
        acts_more task P P (λ n p. p) core core left first a b c [] made (acts_none task P core first a b.end goes.passes)
        (goes_as a b [] [] first (first ++ []) refl (append-nil first) goes) acts

    -- ---- a step over the end, whose bytes are sent

    module _ (a b : Talk L) (c : TaskStep) (s : TaskStepped) (made : List (RecipientEntry R)) (step : IsStep c s made)
        (came : c.received.items ≡ a.left.items) (fresh : c.sent.items ≡ []) (same : b.end ≡ a.end) (sound : b.lost ≡ a.lost) (left_is : b.left.items ≡ s.received.items) where
      took : GoesOn link a b (taken made) []
      took = takes_front link a b (taken made) same sound (sym came ∙ (step.received ∙ ap (λ zs. taken made ++ zs) (sym left_is)))

      put_is : put made ≡ s.sent.items
      put_is = sym (step.sent ∙ ap (λ zs. zs ++ put made) fresh)

      pub step_acts : (task : ℕ) (P : ℕ → Type 0) (core left : Option ℕ) (n : L) → c.task ≡ task → c.core ≡ core → P c.floor → left ≡ s.core → c.link ≡ state_of a.lost → Passes link b n [] s.sent.items
          → Acts link task P core [] a n made left
      step_acts task P core left n task_is core_is looked left_core link_is passes = record {
        passes = passes_as a n (taken made ++ []) (taken made) s.sent.items (put made) (sym (append-nil (taken made))) put_is (passes_more link a b n (taken made) [] [] s.sent.items took passes);
        losses = subst (λ (es : List (RecipientEntry R)). Losses a n es) (sym step.one.1)
            ((λ finds. inl (sym (lost_state a.lost) ∙ (sym (ap is_lost link_is) ∙ (sym (ap finds_loss step.one.2) ∙ finds)))), tt);
        calls = calls_step task P core left c s made step.one task_is core_is looked left_core;
      }

      pub step_goes : (n : Talk L) → GoesOn link b n [] s.sent.items → GoesOn link a n (taken made) (put made)
      step_goes n goes =
          goes_as a n (taken made ++ []) (taken made) s.sent.items (put made) (sym (append-nil (taken made))) put_is (goes_more link a b n (taken made) [] [] s.sent.items took goes)

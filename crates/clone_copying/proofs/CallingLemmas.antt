-- What a seat did by one call.
use Rattle.std.proofs.Common.{◌≡◌, ◌∙◌, List, [], ◌∷◌, ◌++◌, true, Option, None, Some, refl, ap, sym, subst}
use Rattle.clone_turn.specs.declared.view.Entry.{Entry}
use Rattle.clone_turn.specs.Runs.{IsLegalRun, end_of, entries, others}
use Rattle.clone_turn.specs.Seats.{SeatModel}
use Rattle.clone_turn.specs.Worked.{Worked}
use Rattle.clone_turn.proofs.Entries.{end_of-append, entries-append, run_later}
use Rattle.clone_turn.proofs.WorkedLemmas.{makes_one}
use Rattle.clone_copying.specs.Calling.{Calls, FitsNow, IsAnswered, IsOne, IsSomeStep}

abbrev or_else : {S : Type 0} → Option S → S → S
or_else None other = other
or_else (Some x) other = x

module _ {S C A : Type 0} where
  pub worked_map : (P Q : List (Entry S C A) → Type 0) (v w : SeatModel S C A) → Worked P v w → ((made : List (Entry S C A)) → P made → Q made) → Worked Q v w
  worked_map P Q v w (made, makes, is) f = (made, makes, f made is)

  -- a fact of a call's answer, where the answer is known
  pub worked_call : (steps : S → C → A → S → Type 0) (v w : SeatModel S C A) (call : C) (answer : A) → Calls steps v call answer w → Worked (IsAnswered steps call answer) v w
  worked_call steps v w call answer (first, of, made) =
      let one = makes_one steps first v w call answer made in
      (one.0 ∷ [], one.1, ((one.0, refl, one.2.1, one.2.2), (one.2.0, one.0.after, one.2.3)))

  pub worked_one : (steps : S → C → A → S → Type 0) (v w : SeatModel S C A) (call : C) (answer : A) → Calls steps v call answer w → Worked (IsOne call answer) v w
  worked_one steps v w call answer called = worked_map (IsAnswered steps call answer) (IsOne call answer) v w (worked_call steps v w call answer called) (λ made is. is.0)

  -- the step that the call is
  pub step_made : (steps : S → C → A → S → Type 0) (v w : SeatModel S C A) (call : C) (answer : A) → Calls steps v call answer w → IsSomeStep steps call answer
  step_made steps v w call answer called = (worked_call steps v w call answer called).2.1

  -- some state and the one that the seat has seen since are a step
  pub last_step : (steps : S → C → A → S → Type 0) (v w : SeatModel S C A) (call : C) (answer : A) → Calls steps v call answer w → (first : S) → w.first ≡ Some first
      → (s : S) × steps s call answer (end_of first (entries w.seen))
  last_step steps v w call answer (first, of, made) now is =
      let rest = made.0 in
      let e = made.1 in
      let before = entries (v.seen ++ others rest) in
      let run : entries w.seen ≡ before ++ e ∷ [] = ap (λ (x : SeatModel S C A). entries x.seen) made.4 ∙ entries-append (v.seen ++ others rest) ((e, true) ∷ []) in
      let legal : IsLegalRun steps first (before ++ e ∷ []) = subst (λ es. IsLegalRun steps first es) run made.5 in
      let step : steps (end_of first before) e.call e.answer e.after = (run_later steps first before (e ∷ []) legal).0 in
      let after : end_of first (entries w.seen) ≡ e.after = ap (end_of first) run ∙ end_of-append first before (e ∷ []) in
      let same : now ≡ first = ap (λ (o : Option S). or_else o first) (sym is ∙ (ap (λ (x : SeatModel S C A). x.first) made.4 ∙ of)) in (
        end_of first before,
        subst (λ f. steps (end_of first before) call answer (end_of f (entries w.seen))) (sym same)
            (subst (λ t. steps (end_of first before) call answer t) (sym after)
            (subst (λ c. steps (end_of first before) c answer e.after) made.2 (subst (λ a. steps (end_of first before) e.call a e.after) made.3 step))),
      )

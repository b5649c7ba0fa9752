-- The calls of a job are turns, one after the other, and then its end.
use Rattle.std.proofs.Common.{◌≡◌, ◌∙◌, List, [], ◌∷◌, ◌++◌, true, false, refl, sym, ap, subst, None, Some, Result, Ok, Err, IfSome}
use Rattle.std.specs.Prelude.{⊤}
use Rattle.std.specs.declared.option.Option.{Option}
use Rattle.std.proofs.lemmas.List.{append-nil, append_assoc, map-append}
use Rattle.std.proofs.lemmas.List.Concat.{flat_map-append}
use Rattle.clone_turn.specs.Worked.{Worked}
use Rattle.clone_turn.proofs.WorkedLemmas.{makes_none, worked_more}
use Rattle.clone_calls.specs.declared.answer.DonorAnswer.{DonorAnswer}
use Rattle.clone_calls.specs.declared.answer.DonorAnswer.TheVariants as given
use Rattle.clone_plain.specs.declared.call.EngineAnswer.{EngineAnswer}
use Rattle.clone_plain.specs.declared.call.EngineCall.{EngineCall}
use Rattle.clone_plain.specs.declared.refusal.Cause.TheVariants.{DiskFault}
use Rattle.clone_plain.specs.declared.refusal.EngineRefusal.{EngineRefusal}
use Rattle.clone_plain.specs.declared.refusal.EngineRefusal.TheVariants.{Because, NoMemory}
use Rattle.clone_machine.specs.declared.calls.JobAnswer.{JobAnswer}
use Rattle.clone_machine.specs.declared.calls.JobAnswer.TheVariants as answer
use Rattle.clone_jobs.specs.Said.{JobSeat, Said, Says, engine, halting, said_by, said_in}
use Rattle.clone_jobs.specs.Turns.{EndsBy, GoesOn, HasTurns, IsJob, TakesTurn, earlier, in_turn, in_turns, stop_by, stop_in, stop_of}
use Rattle.clone_jobs.specs.declared.ending.Ending.{Ending}
use Rattle.clone_jobs.specs.declared.ending.Ending.TheVariants as ending

-- ---- what a seat said, in terms of what is said of it

pub said_none : (P : List Said → Type 0) (v : JobSeat) → P [] → Worked (λ made. P (said_in made)) v v
said_none P v p = ([], makes_none v, p)

pub said_as : (P : List Said → Type 0) (said : List Said) (v w : JobSeat) → Says said v w → P said → Worked (λ made. P (said_in made)) v w
said_as P said v w says p = (says.0, says.1, subst P (sym says.2) p)

pub said_more : (P Q R : List Said → Type 0) (u v w : JobSeat) → Worked (λ made. P (said_in made)) u v → Worked (λ made. Q (said_in made)) v w
    → ((xs ys : List Said) → P xs → Q ys → R (xs ++ ys)) → Worked (λ made. R (said_in made)) u w
said_more P Q R u v w a b both =
    worked_more (λ made. P (said_in made)) (λ made. Q (said_in made)) (λ made. R (said_in made)) u v w a b
    (λ xs ys p q. subst R (sym (map-append said_by xs ys)) (both (said_in xs) (said_in ys) p q))

pub none_is : {X : Type 0} (o : Option X) → ((x : X) → o ≡ Some x → ⊥) → o ≡ None
none_is None none = refl
none_is (Some x) none = absurd (none x refl)

-- ---- an answer ends a job for one of two causes

abbrev pub IsStop : Ending → Type 0
IsStop ending.Done = ⊥
IsStop ending.Halted = ⊥
IsStop ending.DiskFault = ⊤
IsStop ending.NoMemory = ⊤

stop_of_is : (result : Result EngineAnswer EngineRefusal) → IfSome (stop_of result) IsStop
stop_of_is (Ok told) = tt
stop_of_is (Err (Because cause)) = elim cause as (λ c. IfSome (stop_of (Err (Because c))) IsStop) [ DiskFault ↦ tt | _ ↦ tt ]
stop_of_is (Err NoMemory) = tt

stop_by_donor : (g : DonorAnswer) → IfSome (stop_by (answer.Donor g)) IsStop
stop_by_donor (given.Engine result) = stop_of_is result
stop_by_donor (given.Archive result) = elim result as (λ r. IfSome (stop_by (answer.Donor (given.Archive r))) IsStop) [ Ok n ↦ tt | Err e ↦ tt ]
stop_by_donor g = tt

stop_by_is : (a : JobAnswer) → IfSome (stop_by a) IsStop
stop_by_is answer.Halt = tt
stop_by_is (answer.Halted over) = tt
stop_by_is (answer.Look n) = tt
stop_by_is (answer.Donor g) = stop_by_donor g

earlier_is : (a b : Option Ending) → IfSome a IsStop → IfSome b IsStop → IfSome (earlier a b) IsStop
earlier_is None b x y = y
earlier_is (Some end) b x y = x

stop_in_is : (said : List Said) → IfSome (stop_in said) IsStop
stop_in_is [] = tt
stop_in_is (x ∷ said) = earlier_is (stop_by x.answer) (stop_in said) (stop_by_is x.answer) (stop_in_is said)

earlier_none : (end : Option Ending) → earlier end None ≡ end
earlier_none None = refl
earlier_none (Some end) = refl

-- of a turn of one call
pub stop_one : (c : EngineCall) (result : Result EngineAnswer EngineRefusal) → stop_in (engine c result ∷ []) ≡ stop_of result
stop_one c result = earlier_none (stop_of result)

-- ---- turns

module _ {S : Type 0} (IsTurn : S → List Said → S → Type 0) where
  goes_more : (s u t : S) (turns : List (List Said)) (turn : List Said) → GoesOn IsTurn s turns u → IsTurn u turn t → stop_in turn ≡ None
      → GoesOn IsTurn s (turns ++ turn ∷ []) t
  goes_more s u t [] turn is taken none = (t, subst (λ (x : S). IsTurn x turn t) is taken, none, refl)
  goes_more s u t (x ∷ xs) turn go taken none = (go.0, go.1, go.2, goes_more go.0 u t xs turn go.3 taken none)

  pub no_turns : (s : S) → HasTurns IsTurn s [] s
  no_turns s = ([], refl, refl)

  -- a seat that has said nothing
  pub seat_begins : (s : S) (u : JobSeat) → Worked (λ made. HasTurns IsTurn s (said_in made) s) u u
  seat_begins s u = said_none (λ said. HasTurns IsTurn s said s) u (no_turns s)

  module _ (IsDone : S → Type 0) where
    pub one_more : (s u t : S) (before said : List Said) → HasTurns IsTurn s before u → TakesTurn IsTurn IsDone None u said t → HasTurns IsTurn s (before ++ said) t
    one_more s u t before said has takes = (
      has.0 ++ takes.0 ∷ [],
      goes_more s u t has.0 takes.0 has.1 takes.1 takes.2,
      ap (λ xs. xs ++ said) has.2 ∙ (ap (λ xs. in_turns has.0 ++ xs) (takes.3 ∙ sym (append-nil (in_turn takes.0))) ∙ sym (flat_map-append in_turn has.0 (takes.0 ∷ []))),
    )

    pub the_end : (end : Ending) (s u t : S) (before said : List Said) → HasTurns IsTurn s before u → TakesTurn IsTurn IsDone (Some end) u said t → IsJob IsTurn IsDone end s (before ++ said) t
    the_end end s u t before said has takes = record { turns = before; last = said; between = u; go_on = has; ends = takes; all = refl }

    ends_by : (end : Ending) (s t : S) (turn : List Said) → IsStop end → IsTurn s turn t → stop_in turn ≡ Some end → EndsBy IsTurn IsDone end s (in_turn turn ++ halting ∷ []) t
    ends_by ending.Done s t turn stop taken is = absurd stop
    ends_by ending.Halted s t turn stop taken is = absurd stop
    ends_by ending.DiskFault s t turn stop taken is = (turn, taken, is, refl)
    ends_by ending.NoMemory s t turn stop taken is = (turn, taken, refl)

    -- a turn after which the job goes on
    pub goes_on : (s t : S) (turn : List Said) → IsTurn s turn t → stop_in turn ≡ None → TakesTurn IsTurn IsDone None s (in_turn turn) t
    goes_on s t turn taken none = (turn, taken, none, refl)

    -- one that ends it
    pub stops : (end : Ending) (s t : S) (turn : List Said) → IsTurn s turn t → stop_in turn ≡ Some end → TakesTurn IsTurn IsDone (Some end) s (in_turn turn ++ halting ∷ []) t
    stops end s t turn taken is = ends_by end s t turn (subst (λ o. IfSome o IsStop) is (stop_in_is turn)) taken is

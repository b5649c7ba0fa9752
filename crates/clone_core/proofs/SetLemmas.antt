-- What a `set` does, by what its calls answered.
use Rattle.std.proofs.Common.{◌≡◌, ℕ, ◌+◌, List, [], ◌∷◌, ◌++◌, length, refl, sym, ap, ◌∙◌, subst, Result, Ok, Err, IfOk, OnErr, MatchResult, IsErr, IsErrAnd, codes, decimal, inl}
use Rattle.std.specs.declared.alloc.AllocError.{AllocError}
use Rattle.clone_script.specs.declared.lines.Line.TheVariants as lines
use Rattle.clone_plain.specs.declared.refusal.Cause.{Cause}
use Rattle.clone_plain.specs.declared.refusal.Cause.TheVariants.{NoSuchTrx}
use Rattle.clone_plain.specs.declared.refusal.EngineRefusal.{EngineRefusal}
use Rattle.clone_plain.specs.declared.refusal.EngineRefusal.TheVariants.{Because, NoMemory}
use Rattle.clone_plain.specs.Answers.{Text}
use Rattle.clone_plain.specs.Donor.{Donor}
use Rattle.clone_plain.specs.declared.call.EngineAnswer.{EngineAnswer}
use Rattle.clone_plain.specs.declared.call.EngineAnswer.TheVariants as answers
use Rattle.clone_plain.specs.declared.call.EngineCall.{EngineCall}
use Rattle.clone_plain.specs.declared.call.EngineCall.TheVariants as call
use Rattle.clone_events.specs.World.{index_in}
use Rattle.clone_events.specs.Events.{Event, made, event_text, said, Happens, Events}
use Rattle.clone_events.specs.Runs.{MakesSet, not_begun, not_changed, set}
use Rattle.clone_events.specs.BreaksOff.{IsDone}
use Rattle.clone_core.specs.Steps.{SystemStep}
use Rattle.clone_core.specs.System.{donor_of}
use Rattle.clone_core.specs.Lines.{State, Answers, BreaksOff}
use Rattle.clone_core.specs.Called.{Called, SaysCause, RefusesSet, Sets}
use Rattle.clone_core.proofs.LineLemmas.{ChangesNothing, breaks_at_once, made_step, refused_stays}

pub is_done : (asked : EngineCall) (given : EngineAnswer) → IsDone (made asked (Ok given))
is_done asked given = (asked, given, refl)

pub said-last : (front : List Event) (e : Event) → said (front ++ e ∷ []) ≡ event_text e
said-last [] e = refl
said-last (x ∷ []) e = refl
said-last (x ∷ y ∷ front) e = said-last (y ∷ front) e

-- events in two parts
pub Events-split : (s : State) (xs ys : List Event) (t : State) → Events donor_of SystemStep s (xs ++ ys) t → (u : State) × Events donor_of SystemStep s xs u × Events donor_of SystemStep u ys t
Events-split s [] ys t is = (s, refl, is)
Events-split s (x ∷ xs) ys t is = let rest = Events-split is.0 xs ys t is.2 in (rest.0, (is.0, is.1, rest.1), rest.2)

-- the transaction of a `set` begins
abbrev Begun : State → ℕ → ℕ → State → Type 0
Begun s writer trx u = Happens donor_of SystemStep s (made (call.Begin writer (index_in s.begun writer)) (Ok (answers.Begin trx))) u

begin_refused : (s t : State) (writer table key : ℕ) (value : List ℕ) (refusal : EngineRefusal) → Called {X = ℕ} s (call.Begin writer (index_in s.begun writer)) (λ trx. answers.Begin trx) (Err refusal) t → Sets s writer table key value (Err refusal) t
begin_refused s t writer table key value (Because cause) is = record { front = []; asked = call.Begin writer (index_in s.begun writer); makes = not_begun cause refl; carried = tt; happened = (t, is, refl) }
begin_refused s t writer table key value NoMemory is = breaks_at_once s t (lines.Set writer table key value) is

put_refused : (s u t : State) (writer table key trx : ℕ) (value : List ℕ) (refusal : EngineRefusal) → Begun s writer trx u → Called {X = Unit {0}} u (call.Put trx table key value) (λ _. answers.Put) (Err refusal) t → Sets s writer table key value (Err refusal) t
put_refused s u t writer table key trx value (Because cause) begins is = record {
  front = made (call.Begin writer (index_in s.begun writer)) (Ok (answers.Begin trx)) ∷ [];
  asked = call.Put trx table key value;
  makes = not_changed trx cause refl;
  carried = (is_done _ _, tt);
  happened = (u, begins, (t, is, refl));
}
put_refused s u t writer table key trx value NoMemory begins is = record {
  front = made (call.Begin writer (index_in s.begun writer)) (Ok (answers.Begin trx)) ∷ [];
  next = made (call.Put trx table key value) (Err NoSuchTrx);
  rest = [];
  makes = not_changed trx NoSuchTrx refl;
  carried = (is_done _ _, tt);
  then = u;
  happened = (u, begins, refl);
  donor = is.donor;
  begun = is.begun;
  tells = is.tells;
  tasks = is.tasks;
  clone = inl is.clone;
}

-- its commits are those of before
same_binlog : (s u v : State) (writer table key trx : ℕ) (value : List ℕ) → Begun s writer trx u → Happens donor_of SystemStep u (made (call.Put trx table key value) (Ok answers.Put)) v → (donor_of v.donor).binlog ≡ (donor_of s.donor).binlog
same_binlog s u v writer table key trx value begins puts =
    ap (λ (d : Donor). d.binlog) (made_step u v _ _ puts).1.is ∙ ap (λ (d : Donor). d.binlog) (made_step s u _ _ begins).1.1

pub set_commits : (s u v t : State) (writer table key trx : ℕ) (value : List ℕ) (result : Result ℕ EngineRefusal) → Begun s writer trx u → Happens donor_of SystemStep u (made (call.Put trx table key value) (Ok answers.Put)) v
    → Called v (call.Commit trx) (λ position. answers.Commit position) result t → Sets s writer table key value result t
set_commits s u v t writer table key trx value (Ok position) begins puts is = record {
  events = made (call.Begin writer (index_in s.begun writer)) (Ok (answers.Begin trx)) ∷ made (call.Put trx table key value) (Ok answers.Put) ∷ made (call.Commit trx) (Ok (answers.Commit position)) ∷ [];
  makes = set trx (Ok (answers.Commit position)) refl;
  happened = (u, begins, (v, puts, (t, is, refl)));
  is = refl;
  count = (made_step v t _ _ is).1.count ∙ ap (λ b. length b + 1) (same_binlog s u v writer table key trx value begins puts);
}
set_commits s u v t writer table key trx value (Err (Because cause)) begins puts is = record {
  front = made (call.Begin writer (index_in s.begun writer)) (Ok (answers.Begin trx)) ∷ made (call.Put trx table key value) (Ok answers.Put) ∷ [];
  asked = call.Commit trx;
  makes = set trx (Err cause) refl;
  carried = (is_done _ _, (is_done _ _, tt));
  happened = (u, begins, (v, puts, (t, is, refl)));
}
set_commits s u v t writer table key trx value (Err NoMemory) begins puts is = record {
  front = made (call.Begin writer (index_in s.begun writer)) (Ok (answers.Begin trx)) ∷ made (call.Put trx table key value) (Ok answers.Put) ∷ [];
  next = made (call.Commit trx) (Err NoSuchTrx);
  rest = [];
  makes = set trx (Err NoSuchTrx) refl;
  carried = (is_done _ _, (is_done _ _, tt));
  then = v;
  happened = (u, begins, (v, puts, refl));
  donor = is.donor;
  begun = is.begun;
  tells = is.tells;
  tasks = is.tasks;
  clone = inl is.clone;
}

-- a refusal that is passed on
passed_on : (s t : State) (writer table key : ℕ) (value : List ℕ) (refusal : EngineRefusal) (result : Result ℕ EngineRefusal) → IsErrAnd result (λ e. e ≡ refusal) → Sets s writer table key value (Err refusal) t → Sets s writer table key value result t
passed_on s t writer table key value refusal (Ok x) is sets = absurd is
passed_on s t writer table key value refusal (Err e) is sets = let P : EngineRefusal → Type 0 = λ r. Sets s writer table key value (Err r) t in subst P (sym is) sets

pub set_not_begun : (s t : State) (writer table key : ℕ) (value : List ℕ) (refusal : EngineRefusal) (result : Result ℕ EngineRefusal) → Called {X = ℕ} s (call.Begin writer (index_in s.begun writer)) (λ trx. answers.Begin trx) (Err refusal) t
    → IsErrAnd result (λ e. e ≡ refusal) → Sets s writer table key value result t
set_not_begun s t writer table key value refusal result is passed = passed_on s t writer table key value refusal result passed (begin_refused s t writer table key value refusal is)

pub set_not_changed : (s u t : State) (writer table key trx : ℕ) (value : List ℕ) (refusal : EngineRefusal) (result : Result ℕ EngineRefusal) → Begun s writer trx u → Called {X = Unit {0}} u (call.Put trx table key value) (λ _. answers.Put) (Err refusal) t
    → IsErrAnd result (λ e. e ≡ refusal) → Sets s writer table key value result t
set_not_changed s u t writer table key trx value refusal result begins is passed = passed_on s t writer table key value refusal result passed (put_refused s u t writer table key trx value refusal begins is)

set_answer : (s t : State) (writer table key : ℕ) (value : List ℕ) (called : Result ℕ EngineRefusal) (text answer : Text) → Sets s writer table key value called t → text ≡ codes "committed " ++ decimal (length (donor_of s.donor).binlog + 1)
    → MatchResult called (λ _. answer ≡ text) (λ refusal. SaysCause refusal answer) → Answers s (lines.Set writer table key value) answer t
set_answer s t writer table key value (Ok position) text answer is told says =
    record { events = is.events; step = (is.makes, is.happened); is = says ∙ told ∙ ap (λ n. codes "committed " ++ decimal n) (sym is.count) ∙ sym is.is }
set_answer s t writer table key value (Err refusal) text answer is told says =
    let P : EngineRefusal → Type 0 = λ r. Sets s writer table key value (Err r) t in
    let at : RefusesSet s writer table key value says.cause t = subst P says.is is in
    record { events = at.front ++ made at.asked (Err says.cause) ∷ []; step = (at.makes, at.happened); is = says.same ∙ sym (said-last at.front (made at.asked (Err says.cause))) }

pub set_answers : {A : Type 0} (bytes : A → Text) (s t : State) (writer table key : ℕ) (value : List ℕ) (called : Result ℕ EngineRefusal) (text : Text) (result : Result A AllocError) → Sets s writer table key value called t → text ≡ codes "committed " ++ decimal (length (donor_of s.donor).binlog + 1)
    → IfOk result (λ a. MatchResult called (λ _. bytes a ≡ text) (λ refusal. SaysCause refusal (bytes a))) → IfOk result (λ a. Answers s (lines.Set writer table key value) (bytes a) t)
set_answers bytes s t writer table key value called text (Err e) is told says = tt
set_answers bytes s t writer table key value called text (Ok a) is told says = set_answer s t writer table key value called text (bytes a) is told says

-- the call of the last event, which is a call
abbrev call_in : Event → EngineCall
call_in (made asked answer) = asked
call_in e = call.End

abbrev last_call : List Event → EngineCall
last_call [] = call.End
last_call (e ∷ []) = call_in e
last_call (e ∷ f ∷ es) = last_call (f ∷ es)

last_pushed : (front : List Event) (e : Event) → last_call (front ++ e ∷ []) ≡ call_in e
last_pushed [] e = refl
last_pushed (x ∷ []) e = refl
last_pushed (x ∷ y ∷ front) e = last_pushed (y ∷ front) e

-- a `set` drops nothing
last_drops_none : (writer index table key : ℕ) (value : List ℕ) (events : List Event) (cause : Cause) → MakesSet writer index table key value events → ChangesNothing (last_call events) cause
last_drops_none writer index table key value events cause (not_begun why is) = subst (λ es. ChangesNothing (last_call es) cause) (sym is) tt
last_drops_none writer index table key value events cause (not_changed trx why is) = subst (λ es. ChangesNothing (last_call es) cause) (sym is) tt
last_drops_none writer index table key value events cause (set trx last is) = subst (λ es. ChangesNothing (last_call es) cause) (sym is) tt

set_nothing : (writer index table key : ℕ) (value : List ℕ) (front : List Event) (asked : EngineCall) (cause : Cause) → MakesSet writer index table key value (front ++ made asked (Err cause) ∷ []) → ChangesNothing asked cause
set_nothing writer index table key value front asked cause makes = subst (λ c. ChangesNothing c cause) (last_pushed front (made asked (Err cause))) (last_drops_none writer index table key value _ cause makes)

refused_breaks : (s t : State) (writer table key : ℕ) (value : List ℕ) (called : Result ℕ EngineRefusal) → Sets s writer table key value called t → IsErr called → BreaksOff s (lines.Set writer table key value) t
refused_breaks s t writer table key value (Ok position) is failed = absurd (let e = failed in cc)
refused_breaks s t writer table key value (Err (Because cause)) is failed =
    let last = made is.asked (Err cause) in
    let at = Events-split s is.front (last ∷ []) t is.happened in
    let P : State → Type 0 = λ w. Happens donor_of SystemStep at.0 last w in
    let stays = refused_stays at.0 t is.asked cause (set_nothing writer _ table key value is.front is.asked cause is.makes) (subst P at.2.2 at.2.1) in
    record { front = is.front; next = last; rest = []; makes = is.makes; carried = is.carried; then = at.0; happened = at.1; donor = stays.donor; begun = stays.begun; tells = stays.tells; tasks = stays.tasks; clone = inl stays.clone }
refused_breaks s t writer table key value (Err NoMemory) is failed = is

pub set_breaks : {A : Type 0} (s t : State) (writer table key : ℕ) (value : List ℕ) (called : Result ℕ EngineRefusal) (result : Result A AllocError) → Sets s writer table key value called t → OnErr result (IsErr called) → OnErr result (BreaksOff s (lines.Set writer table key value) t)
set_breaks s t writer table key value called (Ok a) is failed = tt
set_breaks s t writer table key value called (Err e) is failed = refused_breaks s t writer table key value called is failed

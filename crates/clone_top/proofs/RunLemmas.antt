-- How far a run has come: what was carried out, and what of its answers was written.
use Rattle.std.proofs.Common.{◌≡◌, ℕ, ◌+◌, ◌<◌, ◌≤◌, List, [], ◌∷◌, ◌++◌, length, take, get_or, slice_get, refl, sym, ap, ◌∙◌, subst, Some, None, Result, Ok, Err, OnOk, OnErr, IsErrOf, IsErrAnd, append_assoc}
use Rattle.std.proofs.lemmas.List.{take_more, append-nil, take_all}
use Rattle.std.proofs.Math.Seq.{take-length, take-append-add}
use Rattle.std.proofs.lemmas.Option.{slice_get-get_or}
use Rattle.std.specs.declared.option.Option.{Option}
use Rattle.clone_outside.specs.Bytes.{appended, TakesSome}
use Rattle.clone_outside.specs.Causes.{HasCause, Rose}
use Rattle.clone_outside.specs.declared.Refusal.{Refusal}
use Rattle.clone_outside.specs.declared.Refusal.TheVariants.{Fault, NoMemory}
use Rattle.clone_model.specs.Texts.{ended, binlog_text}
use Rattle.clone_script.specs.declared.lines.Line.{Line}
use Rattle.clone_events.specs.Events.{Event, said}
use Rattle.clone_events.specs.Runs.{output}
use Rattle.clone_events.proofs.RunLemmas.{output-push, Runs-push}
use Rattle.clone_core.specs.Steps.{SystemStep}
use Rattle.clone_core.specs.System.{donor_of}
use Rattle.clone_core.specs.Lines.{State, Runs}
use Rattle.clone_top.specs.Carrying.{Answered, AnsweredAll, AnsweredSome, Finished, StoppedAtLine, behind, behind_it, in_it, within}

pub nothing_taken : (old new : Option (List ℕ)) (text : List ℕ) → new ≡ old → TakesSome old new text
nothing_taken None new text same = (0, same)
nothing_taken (Some xs) new text same = (0, same ∙ ap Some (sym (append-nil xs)))

pub all_taken : (old new : Option (List ℕ)) (text : List ℕ) → new ≡ appended old text → TakesSome old new text
all_taken old new text is = (length text, is ∙ ap (appended old) (sym (take-length text)))

appended_twice : (old : Option (List ℕ)) (xs ys : List ℕ) → appended (appended old xs) ys ≡ appended old (xs ++ ys)
appended_twice None xs ys = refl
appended_twice (Some zs) xs ys = ap Some (append_assoc zs xs ys)

-- all of the front, and then some
some_behind : (old mid new : Option (List ℕ)) (xs ys : List ℕ) → mid ≡ appended old xs → TakesSome mid new ys → TakesSome old new (xs ++ ys)
some_behind old mid new xs ys front some = (
  length xs + some.0,
  some.1 ∙ ap (λ o. appended o (take some.0 ys)) front ∙ appended_twice old xs (take some.0 ys) ∙ ap (appended old) (sym (take-append-add xs ys some.0)),
)

-- the lines before i were carried out, and their answers were written
abbrev pub Sofar : List Line → ℕ → State → State → Option (List ℕ) → Option (List ℕ) → Type 0
Sofar lines i first world old now = AnsweredAll (take i lines) first world old now

pub begun : (lines : List Line) (first : State) (old : Option (List ℕ)) → Sofar lines 0 first first old old
begun lines first None = record { events = []; run = refl; out = refl }
begun lines first (Some xs) = record { events = []; run = refl; out = ap Some (sym (append-nil xs)) }

-- the lines before i and the line at i are those before i + 1
front : (lines : List Line) (i : ℕ) (l : Line) → l ≡ get_or lines i l → i < length lines → take i lines ++ l ∷ [] ≡ take (i + 1) lines
front lines i l at lt = ap (λ x. take i lines ++ x ∷ []) at ∙ sym (take_more lines i l lt)

-- one line more was carried out
carried_on : (lines : List Line) (i : ℕ) (l : Line) (first w u : State) (old now new : Option (List ℕ)) → l ≡ get_or lines i l → i < length lines → (far : Sofar lines i first w old now) → (next : Answered l w u now new)
    → Runs first (take (i + 1) lines) (far.events ++ next.step.events ∷ []) u
carried_on lines i l first w u old now new at lt far next =
    let P : List Line → Type 0 = λ ls. Runs first ls (far.events ++ next.step.events ∷ []) u in
    subst P (front lines i l at lt) (Runs-push donor_of SystemStep first (take i lines) far.events w l next.step.events u far.run next.step.step)

written_on : (events : List (List Event)) (es : List Event) (answer : List ℕ) (old now new : Option (List ℕ)) → answer ≡ said es → now ≡ appended old (output events) → new ≡ appended now (ended answer) → new ≡ appended old (output (events ++ es ∷ []))
written_on events es answer old now new is before next = next ∙ ap (λ o. appended o (ended answer)) before ∙ appended_twice old (output events) (ended answer) ∙ ap (λ a. appended old (output events ++ ended a)) is ∙ ap (appended old) (output-push events es)

pub one_more : (lines : List Line) (i : ℕ) (l : Line) (first w u : State) (old now new : Option (List ℕ)) → l ≡ get_or lines i l → i < length lines → Sofar lines i first w old now → Answered l w u now new → Sofar lines (i + 1) first u old new
one_more lines i l first w u old now new at lt far next =
    record { events = far.events ++ next.step.events ∷ []; run = carried_on lines i l first w u old now new at lt far next; out = written_on far.events next.step.events next.answer old now new next.step.is far.out next.out }

-- the line at i is there
there : (lines : List Line) (i : ℕ) (l : Line) → l ≡ get_or lines i l → i < length lines → slice_get lines i ≡ Some l
there lines i l at lt = slice_get-get_or lines i l lt ∙ ap (λ (x : Line). Some x) (sym at)

-- it stopped at line i
pub stopped : (lines : List Line) (i : ℕ) (l : Line) (first w u : State) (old now new : Option (List ℕ)) → l ≡ get_or lines i l → i < length lines → Sofar lines i first w old now → StoppedAtLine l w u now new → AnsweredSome lines first u old new
stopped lines i l first w u old now new at lt far (in_it off out) =
    record {
      events = far.events;
      final = w;
      count = i;
      run = far.run;
      leaves = within l (there lines i l at lt) off;
      out = all_taken old new (output far.events) (out ∙ far.out);
    }
stopped lines i l first w u old now new at lt far (behind_it answer step out) =
    let P : List ℕ → Type 0 = TakesSome old new in
    let next : Answered l w u now (appended now (ended answer)) = record { answer = answer; step = step; out = refl } in
    record {
      events = far.events ++ step.events ∷ [];
      final = u;
      count = i + 1;
      run = carried_on lines i l first w u old now _ at lt far next;
      leaves = behind refl;
      out = subst P (ap (λ a. output far.events ++ ended a) step.is ∙ output-push far.events step.events) (some_behind old now new (output far.events) (ended answer) far.out out);
    }

-- it went on to the end
pub at_end : (lines : List Line) (i : ℕ) (first w : State) (old now : Option (List ℕ)) → length lines ≤ i → Sofar lines i first w old now → AnsweredAll lines first w old now
at_end lines i first w old now le far = let P : List Line → Type 0 = λ ls. AnsweredAll ls first w old now in subst P (take_all i lines le) far

err_same : {U : Type 0} (x y : Refusal) → ◌≡◌ {A = Result U Refusal} (Err x) (Err y) → x ≡ y
err_same x y same = cc

-- a fault that is handed on has its cause
pub fault_kept : {T U : Type 0} (before now : ℕ) (refusal : Refusal) (answer : Result U Refusal) → HasCause {T = T} before now (Err refusal) → IsErrAnd answer (λ e. e ≡ refusal) → IsErrOf answer Fault → Rose before now
fault_kept before now refusal (Ok x) cause is fault = absurd is
fault_kept before now refusal (Err e) cause is fault = cause.fault (ap Err (sym is ∙ err_same e Fault fault))

-- memory that ran out is no fault
pub no_fault : {U : Type 0} (answer : Result U Refusal) → IsErrAnd answer (λ e. e ≡ NoMemory) → IsErrOf answer Fault → ⊥
no_fault (Ok x) is fault = absurd is
no_fault (Err e) is fault = let both = ap Err (sym is) ∙ fault in cc

pub on_err : {T E P : Type 0} (r : Result T E) → P → OnErr r P
on_err (Ok x) p = tt
on_err (Err e) p = p

-- the lines were carried out, and where the binlog was written, all is done
pub finished : {T E : Type 0} (r : Result T E) (lines : List Line) (first final : State) (out_old out_new binlog_old binlog_new : Option (List ℕ)) (text : List ℕ) → AnsweredAll lines first final out_old out_new → text ≡ binlog_text (donor_of final.donor).binlog
    → OnOk r (binlog_new ≡ appended binlog_old text) → OnOk r (Finished lines first final out_old out_new binlog_old binlog_new)
finished (Ok x) lines first final out_old out_new binlog_old binlog_new text answered is all = record { answered = answered; binlog = all ∙ ap (appended binlog_old) is }
finished (Err e) lines first final out_old out_new binlog_old binlog_new text answered is all = tt

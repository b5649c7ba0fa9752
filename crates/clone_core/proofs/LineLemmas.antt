-- What lines do, by what their calls answered.
use Rattle.std.proofs.Common.{◌≡◌, ◌≢◌, ℕ, List, [], ◌∷◌, ◌++◌, append-nil, refl, sym, ap, ◌∙◌, subst, Option, None, Bool, true, Result, Ok, Err, IfOk, OnErr, MatchResult, IsErr, inl, inr, nat_cmp}
use Rattle.std.specs.FinMap as finite
use Rattle.std.specs.declared.alloc.AllocError.{AllocError}
use Rattle.clone_script.specs.declared.lines.Line.{Line}
use Rattle.clone_script.specs.declared.lines.Line.TheVariants as lines
use Rattle.clone_plain.specs.declared.refusal.Cause.{Cause}
use Rattle.clone_plain.specs.declared.refusal.Cause.TheVariants.{NoSuchTrx, DiskFault}
use Rattle.clone_plain.specs.declared.refusal.EngineRefusal.{EngineRefusal}
use Rattle.clone_plain.specs.declared.refusal.EngineRefusal.TheVariants.{Because, NoMemory}
use Rattle.clone_plain.specs.Answers.{Text, answer_text, undone_answer}
use Rattle.clone_plain.specs.Calls.{AfterRefusal, PlainStep}
use Rattle.clone_plain.specs.declared.call.EngineAnswer.{EngineAnswer}
use Rattle.clone_plain.specs.declared.call.EngineAnswer.TheVariants as answers
use Rattle.clone_plain.specs.declared.call.EngineCall.{EngineCall}
use Rattle.clone_plain.specs.declared.call.EngineCall.TheVariants as call
use Rattle.clone_plain.specs.declared.refusal.Undone.{Undone}
use Rattle.clone_plain.specs.Donor.{Donor}
use Rattle.clone_plain.specs.Effects.{Undoes}
use Rattle.clone_events.specs.World.{Clone, index_in}
use Rattle.clone_events.specs.BreaksOff.{Becomes}
use Rattle.clone_events.specs.Events.{to_donor, to_recipient, Event, made, looked, archived, started, acts, sticks, incomplete, ordered, set_to_lose, unasked, event_text, counted, Clones, Happens, PlainEvent}
use Rattle.clone_outside.specs.declared.disk.DiskOrder.{DiskOrder}
use Rattle.clone_outside.specs.declared.disk.DiskOrder.TheVariants as orders
use Rattle.clone_events.specs.Runs.{Makes, MakesOne, MakesEvent, IsBy, GoesOn, Advances, Finishes, not_begun, all_clean, no_round, asks_nothing}
use Rattle.clone_core.specs.Steps.{SystemStep}
use Rattle.clone_core.specs.System.{donor_of}
use Rattle.clone_core.specs.Lines.{State, Answers, BreaksOff}
use Rattle.clone_core.specs.Called.{Stays, StaysUntold, Called, SaysCause, Notes}
use Rattle.clone_core.proofs.StepLemmas.{refines, refused_counts}

-- ---- one event

-- what a call does to the plain donor
pub made_step : (s t : State) (asked : EngineCall) (answer : Result EngineAnswer Cause) → Happens donor_of SystemStep s (made asked answer) t → PlainStep (donor_of s.donor) asked answer (donor_of t.donor)
made_step s t asked answer is = refines s.donor t.donor (made asked answer) is.step

pub same_stays : (s : State) → Stays s s
same_stays s = record { donor = refl; begun = refl; tells = refl; tasks = refl; clone = refl }

-- a refusal that changes nothing: any but that of a drop in which the disk failed
abbrev pub ChangesNothing : EngineCall → Cause → Type 0
ChangesNothing (call.Drop table) cause = cause ≡ DiskFault → ⊥
ChangesNothing asked cause = Unit {0}

stays_after : (d : Donor) (asked : EngineCall) (cause : Cause) (after : Donor) → ChangesNothing asked cause → AfterRefusal d asked cause after → after ≡ d
stays_after d (call.Drop table) DiskFault after nothing is = absurd (nothing refl)
stays_after d asked cause after nothing is = is

-- it leaves the donor and the writers' counts
pub refused_stays : (s t : State) (asked : EngineCall) (cause : Cause) → ChangesNothing asked cause → Happens donor_of SystemStep s (made asked (Err cause)) t → Stays s t
refused_stays s t asked cause nothing is = record { donor = stays_after (donor_of s.donor) asked cause (donor_of t.donor) nothing (made_step s t asked (Err cause) is).1; begun = is.begun ∙ refused_counts asked cause s.begun; tells = is.tells; tasks = is.tasks; clone = is.clone.is }

-- a line of one event
pub event_answers : {A : Type 0} (bytes : A → Text) (s t : State) (line : Line) (e : Event) (result : Result A AllocError) → Makes s.tasks (index_in s.begun) line (e ∷ []) → Happens donor_of SystemStep s e t → IfOk result (λ a. bytes a ≡ event_text e)
    → IfOk result (λ a. Answers s line (bytes a) t)
event_answers bytes s t line e (Err refusal) makes is says = tt
event_answers bytes s t line e (Ok a) makes is says = record { events = e ∷ []; step = (makes, (t, is, refl)); is = says }

-- ---- memory ran out

at_once : (s t : State) (line : Line) (next : Event) (rest : List Event) → Makes s.tasks (index_in s.begun) line (next ∷ rest) → Stays s t → BreaksOff s line t
at_once s t line next rest makes stays = record { front = []; next = next; rest = rest; makes = makes; carried = tt; then = s; happened = refl; donor = stays.donor; begun = stays.begun; tells = stays.tells; tasks = stays.tasks; clone = inl stays.clone }

whole_front : (s : State) (line : Line) (events : List Event) → Makes s.tasks (index_in s.begun) line events → Makes s.tasks (index_in s.begun) line (events ++ [])
whole_front s line events makes = subst (Makes s.tasks (index_in s.begun) line) (sym (append-nil events)) makes

-- in events of the clone, which happened untold
pub untold_breaks : (s t : State) (line : Line) (next : Event) (rest : List Event) → Makes s.tasks (index_in s.begun) line (next ∷ rest) → StaysUntold s (next ∷ rest) t → BreaksOff s line t
untold_breaks s t line next rest makes stays = record { front = []; next = next; rest = rest; makes = makes; carried = tt; then = s; happened = refl; donor = stays.donor; begun = stays.begun; tells = stays.tells; tasks = stays.tasks; clone = inr (next ∷ rest, [], whole_front s line (next ∷ rest) makes, stays.clone) }

call_at_once : (s t : State) (line : Line) (asked : EngineCall) → ((es : List Event) → MakesOne asked es → Makes s.tasks (index_in s.begun) line es) → Stays s t → BreaksOff s line t
call_at_once s t line asked makes stays = at_once s t line (made asked (Err NoSuchTrx)) [] (makes _ (Err NoSuchTrx, refl)) stays

acts_at_once : (s t : State) (line : Line) → ((es : List Event) → MakesEvent (IsBy line) es → Makes s.tasks (index_in s.begun) line es) → Stays s t → BreaksOff s line t
acts_at_once s t line makes stays = at_once s t line (acts line [] []) [] (makes _ (acts line [] [], refl, refl)) stays

-- no round, and nothing can be done
no_rounds : (tasks : ℕ) (Kind : Event → Type 0) → Kind sticks → GoesOn tasks Kind (sticks ∷ [])
no_rounds tasks Kind kind = record { rounds = []; last = sticks; are = no_round; kind = kind; is = refl }

-- before a call was carried out that does something to the plain donor
pub breaks_at_once : (s t : State) (line : Line) → Stays s t → BreaksOff s line t
breaks_at_once s t (lines.Create table buckets) stays = call_at_once s t _ (call.Create table buckets) (λ es m. m) stays
breaks_at_once s t (lines.Drop table) stays = call_at_once s t _ (call.Drop table) (λ es m. m) stays
breaks_at_once s t (lines.Begin writer) stays = call_at_once s t _ (call.Begin writer (index_in s.begun writer)) (λ es m. m) stays
breaks_at_once s t (lines.Put trx table key value) stays = call_at_once s t _ (call.Put trx table key value) (λ es m. m) stays
breaks_at_once s t (lines.Delete trx table key) stays = call_at_once s t _ (call.Delete trx table key) (λ es m. m) stays
breaks_at_once s t (lines.Get trx table key) stays = call_at_once s t _ (call.Get trx table key) (λ es m. m) stays
breaks_at_once s t (lines.Undo trx) stays = call_at_once s t _ (call.UndoOne trx) (λ es m. m) stays
breaks_at_once s t (lines.Commit trx) stays = call_at_once s t _ (call.Commit trx) (λ es m. m) stays
breaks_at_once s t (lines.Set writer table key value) stays = at_once s t (lines.Set writer table key value) (made (call.Begin writer (index_in s.begun writer)) (Err NoSuchTrx)) [] (not_begun NoSuchTrx refl) stays
breaks_at_once s t (lines.Flush space page) stays = call_at_once s t _ (call.FlushBegin space page) (λ es m. m) stays
breaks_at_once s t (lines.Half space page) stays = call_at_once s t _ (call.FlushHalf space page) (λ es m. m) stays
breaks_at_once s t (lines.Land space page) stays = call_at_once s t _ (call.FlushLand space page) (λ es m. m) stays
breaks_at_once s t lines.Clean stays = at_once s t lines.Clean _ _ (all_clean [] refl) stays
breaks_at_once s t lines.Checkpoint stays = call_at_once s t _ call.Checkpoint (λ es m. m) stays
breaks_at_once s t lines.Lsn stays = call_at_once s t _ call.End (λ es m. m) stays
breaks_at_once s t (lines.Tear byte) stays = at_once s t (lines.Tear byte) (ordered to_donor (orders.Tear byte)) [] refl stays
breaks_at_once s t (lines.FailDonor number) stays = at_once s t (lines.FailDonor number) (ordered to_donor (orders.FailAt number)) [] refl stays
breaks_at_once s t (lines.FailRecipient number) stays = at_once s t (lines.FailRecipient number) (ordered to_recipient (orders.FailAt number)) [] refl stays
breaks_at_once s t lines.Start stays = at_once s t lines.Start (started true) [] (started true, tt, refl) stays
breaks_at_once s t (lines.Task number) stays = acts_at_once s t (lines.Task number) (λ es m. m) stays
breaks_at_once s t (lines.Serve connection) stays = acts_at_once s t (lines.Serve connection) (λ es m. m) stays
breaks_at_once s t (lines.Cut connection near far) stays = acts_at_once s t (lines.Cut connection near far) (λ es m. m) stays
breaks_at_once s t lines.Status stays = acts_at_once s t lines.Status (λ es m. m) stays
breaks_at_once s t (lines.Raw bytes) stays = acts_at_once s t (lines.Raw bytes) (λ es m. m) stays
breaks_at_once s t (lines.Feed connection bytes) stays = acts_at_once s t (lines.Feed connection bytes) (λ es m. m) stays
breaks_at_once s t lines.Abandon stays = acts_at_once s t lines.Abandon (λ es m. m) stays
breaks_at_once s t lines.Advance stays = at_once s t lines.Advance sticks [] (no_rounds s.tasks Advances tt) stays
breaks_at_once s t lines.Finish stays = at_once s t lines.Finish sticks [] (no_rounds s.tasks Finishes tt) stays
breaks_at_once s t lines.Look stays = at_once s t lines.Look (looked 0) [] (looked 0, tt, refl) stays
breaks_at_once s t (lines.Archive bytes) stays = at_once s t (lines.Archive bytes) (archived bytes None) [] (archived bytes None, refl, refl) stays
breaks_at_once s t lines.Follow stays = at_once s t lines.Follow (unasked lines.Follow) [] (asks_nothing refl) stays
breaks_at_once s t lines.Lose stays = at_once s t lines.Lose set_to_lose [] refl stays
breaks_at_once s t (lines.Repeat number) stays = at_once s t (lines.Repeat number) (unasked (lines.Repeat number)) [] (unasked (lines.Repeat number), refl, refl) stays
breaks_at_once s t lines.Replica stays = at_once s t lines.Replica (unasked lines.Replica) [] (unasked lines.Replica, refl, refl) stays
breaks_at_once s t lines.Clone stays = at_once s t lines.Clone (started true) (sticks ∷ []) (started true, sticks ∷ [], tt, no_rounds s.tasks Finishes tt, refl) stays
breaks_at_once s t lines.Rows stays = at_once s t lines.Rows incomplete [] (incomplete, tt, refl) stays

-- whatever the result, an event of the clone happened untold
pub event_breaks : {A : Type 0} (s t : State) (line : Line) (e : Event) (result : Result A AllocError) → Makes s.tasks (index_in s.begun) line (e ∷ []) → StaysUntold s (e ∷ []) t → OnErr result (BreaksOff s line t)
event_breaks s t line e (Ok a) makes stays = tt
event_breaks s t line e (Err refusal) makes stays = untold_breaks s t line e [] makes stays

-- whatever the result, nothing of the plain donor has changed
pub stays_breaks : {A : Type 0} (s t : State) (line : Line) (result : Result A AllocError) → Stays s t → OnErr result (BreaksOff s line t)
stays_breaks s t line (Ok a) stays = tt
stays_breaks s t line (Err e) stays = breaks_at_once s t line stays

pub same_breaks : {A : Type 0} (s : State) (line : Line) (result : Result A AllocError) → OnErr result (BreaksOff s line s)
same_breaks s line result = stays_breaks s s line result (same_stays s)

-- nothing at all has changed where memory ran out
pub line_breaks : {A : Type 0} (s t : State) (line : Line) (result : Result A AllocError) → OnErr result (t ≡ s) → OnErr result (BreaksOff s line t)
line_breaks s t line (Ok a) same = tt
line_breaks s t line (Err e) same = let P : State → Type 0 = λ w. BreaksOff s line w in subst P (sym same) (breaks_at_once s s line (same_stays s))

-- ---- what happened to the clone, whether it is told or not

pub becomes_one : (d : Donor) (tells : Bool) (old new : Clone) (e : Event) → Clones d tells old e new → Becomes d tells old (e ∷ []) new
becomes_one d tells old new e clones = (record { now = clones.now; shows = clones.shows; is = refl }, clones.is)

-- an event that is no call leaves the plain donor and the indexes
abbrev pub IsNoCall : Event → Type 0
IsNoCall (made asked answer) = ⊥
IsNoCall e = Unit {0}

no_call_plain : (d after : Donor) (e : Event) → IsNoCall e → PlainEvent d e after → after ≡ d
no_call_plain d after (made asked answer) quiet is = absurd quiet
no_call_plain d after e quiet is = is

no_call_counts : (e : Event) (begun : finite.FinMap nat_cmp ℕ) → IsNoCall e → counted e begun ≡ begun
no_call_counts (made asked answer) begun quiet = absurd quiet
no_call_counts e begun quiet = refl

pub quiet_untold : (s t : State) (e : Event) → IsNoCall e → Happens donor_of SystemStep s e t → StaysUntold s (e ∷ []) t
quiet_untold s t e quiet is = record {
  donor = no_call_plain (donor_of s.donor) (donor_of t.donor) e quiet (refines s.donor t.donor e is.step);
  begun = is.begun ∙ no_call_counts e s.begun quiet;
  tells = is.tells;
  tasks = is.tasks;
  clone = becomes_one (donor_of s.donor) s.tells s.clone t.clone e is.clone;
}

-- ---- lines of one call

one_answers : {X : Type 0} (s t : State) (line : Line) (asked : EngineCall) (did : X → EngineAnswer) (called : Result X EngineRefusal) (text answer : Text) → ((es : List Event) → MakesOne asked es → Makes s.tasks (index_in s.begun) line es) → Called s asked did called t
    → ((x : X) → called ≡ Ok x → Happens donor_of SystemStep s (made asked (Ok (did x))) t → text ≡ answer_text (did x)) → MatchResult called (λ _. answer ≡ text) (λ refusal. SaysCause refusal answer) → Answers s line answer t
one_answers s t line asked did (Ok x) text answer makes is told says =
    record { events = made asked (Ok (did x)) ∷ []; step = (makes _ (Ok (did x), refl), (t, is, refl)); is = says ∙ told x refl is }
one_answers {X} s t line asked did (Err refusal) text answer makes is told says =
    let P : EngineRefusal → Type 0 = λ r. Called {X = X} s asked did (Err r) t in
    let at = subst P says.is is in
    record { events = made asked (Err says.cause) ∷ []; step = (makes _ (Err says.cause, refl), (t, at, refl)); is = says.same }

pub call_answers : {X A : Type 0} (bytes : A → Text) (s t : State) (line : Line) (asked : EngineCall) (did : X → EngineAnswer) (called : Result X EngineRefusal) (text : Text) (result : Result A AllocError) → ((es : List Event) → MakesOne asked es → Makes s.tasks (index_in s.begun) line es)
    → Called s asked did called t → ((x : X) → called ≡ Ok x → Happens donor_of SystemStep s (made asked (Ok (did x))) t → text ≡ answer_text (did x)) → IfOk result (λ a. MatchResult called (λ _. bytes a ≡ text) (λ refusal. SaysCause refusal (bytes a))) → IfOk result (λ a. Answers s line (bytes a) t)
call_answers bytes s t line asked did called text (Ok a) makes is told says = one_answers s t line asked did called text (bytes a) makes is told says
call_answers bytes s t line asked did called text (Err e) makes is told says = tt

-- a call that was refused, or for which there was no memory, leaves the plain donor
pub not_called : {X : Type 0} (s t : State) (asked : EngineCall) (did : X → EngineAnswer) (called : Result X EngineRefusal) → ((cause : Cause) → ChangesNothing asked cause) → Called s asked did called t → IsErr called → Stays s t
not_called s t asked did (Ok x) nothing is failed = absurd (let e = failed in cc)
not_called s t asked did (Err (Because cause)) nothing is failed = refused_stays s t asked cause (nothing cause) is
not_called s t asked did (Err NoMemory) nothing is failed = is

pub call_breaks : {X A : Type 0} (s t : State) (line : Line) (asked : EngineCall) (did : X → EngineAnswer) (called : Result X EngineRefusal) (result : Result A AllocError) → ((cause : Cause) → ChangesNothing asked cause) → Called s asked did called t → OnErr result (IsErr called) → OnErr result (BreaksOff s line t)
call_breaks s t line asked did called (Ok a) nothing is failed = tt
call_breaks s t line asked did called (Err e) nothing is failed = breaks_at_once s t line (not_called s t asked did called nothing is failed)

-- a call was refused, and its refusal is shown
pub refusal_answers : {X A : Type 0} (bytes : A → Text) (s t : State) (line : Line) (asked : EngineCall) (did : X → EngineAnswer) (refusal : EngineRefusal) (result : Result A AllocError) → ((es : List Event) → MakesOne asked es → Makes s.tasks (index_in s.begun) line es) → Called {X = X} s asked did (Err refusal) t
    → IfOk result (λ a. SaysCause refusal (bytes a)) → IfOk result (λ a. Answers s line (bytes a) t)
refusal_answers bytes s t line asked did refusal (Err e) makes is says = tt
refusal_answers {X} bytes s t line asked did refusal (Ok a) makes is says =
    let P : EngineRefusal → Type 0 = λ r. Called {X = X} s asked did (Err r) t in
    record { events = made asked (Err says.cause) ∷ []; step = (makes _ (Err says.cause, refl), (t, subst P says.is is, refl)); is = says.same }

pub refusal_breaks : {X A : Type 0} (s t : State) (line : Line) (asked : EngineCall) (did : X → EngineAnswer) (refusal : EngineRefusal) (result : Result A AllocError) → ((cause : Cause) → ChangesNothing asked cause) → Called {X = X} s asked did (Err refusal) t → OnErr result (BreaksOff s line t)
refusal_breaks {X} s t line asked did refusal result nothing is = stays_breaks s t line result (not_called {X = X} s t asked did (Err refusal) nothing is refl)

-- a drop was refused, and not because the disk failed
pub drop_breaks : {X A : Type 0} (s t : State) (line : Line) (table : ℕ) (did : X → EngineAnswer) (refusal : EngineRefusal) (result : Result A AllocError) → Called {X = X} s (call.Drop table) did (Err refusal) t → OnErr result (refusal ≢ Because DiskFault) → OnErr result (BreaksOff s line t)
drop_breaks s t line table did refusal (Ok a) is other = tt
drop_breaks s t line table did (Because cause) (Err e) is other = breaks_at_once s t line (refused_stays s t (call.Drop table) cause (λ fault. other (ap (λ (c : Cause). Because c) fault)) is)
drop_breaks s t line table did NoMemory (Err e) is other = breaks_at_once s t line is

-- a value that was got leaves the plain donor
pub got_stays : (s t : State) (trx table key : ℕ) (value : Option (List ℕ)) → Happens donor_of SystemStep s (made (call.Get trx table key) (Ok (answers.Get value))) t → Stays s t
got_stays s t trx table key value is = record { donor = (made_step s t _ _ is).1; begun = is.begun; tells = is.tells; tasks = is.tasks; clone = is.clone.is }

-- what is said is said in other words
pub said_is : {A : Type 0} (bytes : A → Text) (result : Result A AllocError) (text other : Text) → text ≡ other → IfOk result (λ a. bytes a ≡ text) → IfOk result (λ a. bytes a ≡ other)
said_is bytes (Err e) text other same says = tt
said_is bytes (Ok a) text other same says = says ∙ same

-- the text that was made before a change was taken back is right once it was
pub undo_told : (r s t : State) (trx : ℕ) (undone : Undone) (text : Text) → r ≡ s → ((u : Undone) (after : Donor) → Undoes (donor_of r.donor) trx u after → text ≡ undone_answer u) → Happens donor_of SystemStep s (made (call.UndoOne trx) (Ok (answers.UndoOne undone))) t → text ≡ undone_answer undone
undo_told r s t trx undone text same told is =
    let P : State → Type 0 = λ w. Undoes (donor_of w.donor) trx undone (donor_of t.donor) in
    told undone (donor_of t.donor) (subst P (sym same) (made_step s t _ _ is).1)

-- ---- an order

pub notes_answer : {A : Type 0} (bytes : A → Text) (s t : State) (line : Line) (e : Event) (result : Result A AllocError) → Makes s.tasks (index_in s.begun) line (e ∷ []) → IfOk result (λ a. Notes s e (bytes a) t) → IfOk result (λ a. Answers s line (bytes a) t)
notes_answer bytes s t line e (Err refusal) makes is = tt
notes_answer bytes s t line e (Ok a) makes is = record { events = e ∷ []; step = (makes, (t, is.happened, refl)); is = is.is }

-- the lines that give an order
pub tear_makes : (tasks : ℕ) (next : ℕ → ℕ) (line : Line) (byte : ℕ) → line ≡ lines.Tear byte → Makes tasks next line (ordered to_donor (orders.Tear byte) ∷ [])
tear_makes tasks next line byte is = let P : Line → Type 0 = λ l. Makes tasks next l (ordered to_donor (orders.Tear byte) ∷ []) in subst P (sym is) refl

pub fail_donor_makes : (tasks : ℕ) (next : ℕ → ℕ) (line : Line) (number : ℕ) (order : DiskOrder) → line ≡ lines.FailDonor number → order ≡ orders.FailAt number → Makes tasks next line (ordered to_donor order ∷ [])
fail_donor_makes tasks next line number order is same =
    let P : Line → Type 0 = λ l. Makes tasks next l (ordered to_donor order ∷ []) in
    subst P (sym is) (ap (λ (o : DiskOrder). ordered to_donor o ∷ []) same)

pub fail_recipient_makes : (tasks : ℕ) (next : ℕ → ℕ) (line : Line) (number : ℕ) (order : DiskOrder) → line ≡ lines.FailRecipient number → order ≡ orders.FailAt number → Makes tasks next line (ordered to_recipient order ∷ [])
fail_recipient_makes tasks next line number order is same =
    let P : Line → Type 0 = λ l. Makes tasks next l (ordered to_recipient order ∷ []) in
    subst P (sym is) (ap (λ (o : DiskOrder). ordered to_recipient o ∷ []) same)

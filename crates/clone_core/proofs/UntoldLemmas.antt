-- What a line leaves where memory ran out in it, and events of the clone had happened by then.
use Rattle.std.proofs.Common.{◌≡◌, ◌∙◌, List, [], ◌∷◌, ◌++◌, Bool, refl, sym, subst, append_assoc, append-nil, Result, Ok, Err, IfOk, OnErr, inr, ℕ}
use Rattle.std.specs.FinMap as finite
use Rattle.std.specs.List.{AllByRecursion}
use Rattle.std.specs.Ordering.{nat_cmp}
use Rattle.std.specs.declared.alloc.AllocError.{AllocError}
use Rattle.clone_script.specs.declared.lines.Line.{Line}
use Rattle.clone_plain.specs.Answers.{Text}
use Rattle.clone_plain.specs.Donor.{Donor}
use Rattle.clone_events.specs.World.{Clone, index_in}
use Rattle.clone_events.specs.BreaksOff.{Becomes}
use Rattle.clone_events.specs.Events.{Event, Clones, acts, started, unbegun, occupied, again, showed, opened_follower, sent, taken, lost, set_to_lose, repeated, clone_after, counted, event_text}
use Rattle.clone_events.specs.Runs as plain
use Rattle.clone_events.proofs.RunLemmas.{Events-append}
use Rattle.clone_core.specs.Called.{StaysUntold}
use Rattle.clone_core.specs.CloneEvents.{EndsUntold, Makes}
use Rattle.clone_core.specs.Lines.{Answers, BreaksOff, Events, Happens, State}
use Rattle.clone_core.specs.Steps.{SystemStep}
use Rattle.clone_core.specs.System.{donor_of}
use Rattle.clone_core.proofs.ActsLemmas.{IsOfClone, clone_keeps}

pub on_err : {X E : Type 0} (result : Result X E) (P : Type 0) → P → OnErr result P
on_err (Ok x) P is = tt
on_err (Err e) P is = is

-- ---- events that happened, as ones that weren't told

counted_kept : (e : Event) (begun : finite.FinMap nat_cmp ℕ) → IsOfClone e → counted e begun ≡ begun
counted_kept (acts by changes answer) begun of = refl
counted_kept (started alone) begun of = refl
counted_kept unbegun begun of = refl
counted_kept occupied begun of = refl
counted_kept (again wish answer) begun of = refl
counted_kept (showed rows) begun of = refl
counted_kept (opened_follower rows position) begun of = refl
counted_kept (sent want frame) begun of = refl
counted_kept (taken frame result) begun of = refl
counted_kept (lost position) begun of = refl
counted_kept set_to_lose begun of = refl
counted_kept (repeated number frame result) begun of = refl
counted_kept e begun of = absurd of

pub same_untold : (s : State) → StaysUntold s [] s
same_untold s = record { donor = refl; begun = refl; tells = refl; tasks = refl; clone = refl }

becomes_then : (d : Donor) (tells : Bool) (old : Clone) (xs : List Event) (mid : Clone) (ys : List Event) (new : Clone) → Becomes d tells old xs mid → Becomes d tells mid ys new → Becomes d tells old (xs ++ ys) new
becomes_then d tells old [] mid ys new first second = subst (λ (c : Clone). Becomes d tells c ys new) first second
becomes_then d tells old (e ∷ xs) mid ys new first second = (first.0, becomes_then d tells (clone_after e old) xs mid ys new first.1 second)

-- what a clone becomes is by what stays of the world
becomes_from : (s u : State) (old : Clone) (events : List Event) (new : Clone) → donor_of u.donor ≡ donor_of s.donor → u.tells ≡ s.tells → u.clone ≡ old → Becomes (donor_of u.donor) u.tells u.clone events new → Becomes (donor_of s.donor) s.tells old events new
becomes_from s u old events new donor tells clone is =
    subst (λ (c : Clone). Becomes (donor_of s.donor) s.tells c events new) clone
    (subst (λ (b : Bool). Becomes (donor_of s.donor) b u.clone events new) tells
    (subst (λ (d : Donor). Becomes d u.tells u.clone events new) donor is))

pub untold_then : (s u t : State) (xs ys : List Event) → StaysUntold s xs u → StaysUntold u ys t → StaysUntold s (xs ++ ys) t
untold_then s u t xs ys first second = record {
  donor = second.donor ∙ first.donor;
  begun = second.begun ∙ first.begun;
  tells = second.tells ∙ first.tells;
  tasks = second.tasks ∙ first.tasks;
  clone = becomes_then (donor_of s.donor) s.tells s.clone xs u.clone ys t.clone first.clone (becomes_from s u u.clone ys t.clone first.donor first.tells refl second.clone);
}

pub happened_untold : (s : State) (events : List Event) (t : State) → AllByRecursion IsOfClone events → Events s events t → StaysUntold s events t
happened_untold s [] t of is = subst (λ (w : State). StaysUntold s [] w) is (same_untold s)
happened_untold s (e ∷ events) t of (u, happens, more) =
    let rest : StaysUntold u events t = happened_untold u events t of.1 more in
    let same : donor_of u.donor ≡ donor_of s.donor = clone_keeps e s.donor u.donor of.0 happens.step in
    let clones : Clones (donor_of s.donor) s.tells s.clone e (clone_after e s.clone) = record { now = happens.clone.now; shows = happens.clone.shows; is = refl } in
    record {
      donor = rest.donor ∙ same;
      begun = rest.begun ∙ happens.begun ∙ counted_kept e s.begun of.0;
      tells = rest.tells ∙ happens.tells;
      tasks = rest.tasks ∙ happens.tasks;
      clone = (clones, becomes_from s u (clone_after e s.clone) events t.clone same happens.tells happens.clone.is rest.clone);
    }

-- ---- one after the other

pub all_append : (P : Event → Type 0) (xs ys : List Event) → AllByRecursion P xs → AllByRecursion P ys → AllByRecursion P (xs ++ ys)
all_append P [] ys first second = second
all_append P (x ∷ xs) ys first second = (first.0, all_append P xs ys first.1 second)

-- these are events of a clone
abbrev pub OfClone : (List Event → Type 0) → Type 0
OfClone Are = (events : List Event) → Are events → AllByRecursion IsOfClone events

-- these and then those are all of them
abbrev pub Join : (First Second Both : List Event → Type 0) → Type 0
Join First Second Both = (xs ys : List Event) → First xs → Second ys → Both (xs ++ ys)

pub makes_then : (First Second Both : List Event → Type 0) (s u t : State) → Join First Second Both → Makes First s u → Makes Second u t → Makes Both s t
makes_then First Second Both s u t join (xs, first, before) (ys, second, after) = (xs ++ ys, join xs ys first second, Events-append donor_of SystemStep s xs ys u t before after)

pub untold_behind : (First Second Both : List Event → Type 0) (s u t : State) → OfClone First → Join First Second Both → Makes First s u → EndsUntold Second u t → EndsUntold Both s t
untold_behind First Second Both s u t of join (xs, first, before) (front, rest, second, untold) = (
  xs ++ front,
  rest,
  subst Both (sym (append_assoc xs front rest)) (join xs (front ++ rest) first second),
  untold_then s u t xs front (happened_untold s xs u (of xs first) before) untold,
)

pub made_untold : (Are : List Event → Type 0) (s t : State) → OfClone Are → Makes Are s t → EndsUntold Are s t
made_untold Are s t of (events, are, happened) = (events, [], subst Are (sym (append-nil events)) are, happened_untold s events t (of events are) happened)

pub untold_as : (Are Other : List Event → Type 0) (s t : State) → ((events : List Event) → Are events → Other events) → EndsUntold Are s t → EndsUntold Other s t
untold_as Are Other s t so (front, rest, are, untold) = (front, rest, so (front ++ rest) are, untold)

pub makes_as : (Are Other : List Event → Type 0) (s t : State) → ((events : List Event) → Are events → Other events) → Makes Are s t → Makes Other s t
makes_as Are Other s t so (events, are, happened) = (events, so events are, happened)

-- the number of tasks stays
pub tasks_stay : (Are : List Event → Type 0) (s t : State) → OfClone Are → Makes Are s t → t.tasks ≡ s.tasks
tasks_stay Are s t of (events, are, happened) = (happened_untold s events t (of events are) happened).tasks

-- ---- lines

-- events of a line
abbrev pub AreOf : State → Line → List Event → Type 0
AreOf s line events = plain.Makes s.tasks (index_in s.begun) line events

-- Memory ran out in a line whose events are these and then a last part, which may be none.
pub untold_breaks : (Are : List Event → Type 0) (s t : State) (line : Line) (last : List Event) (next : Event) (rest : List Event) → AreOf s line (next ∷ rest) → ((events : List Event) → Are events → AreOf s line (events ++ last)) → EndsUntold Are s t → BreaksOff s line t
untold_breaks Are s t line last next rest some all (front, more, are, untold) = record {
  front = [];
  next = next;
  rest = rest;
  makes = some;
  carried = tt;
  then = s;
  happened = refl;
  donor = untold.donor;
  begun = untold.begun;
  tells = untold.tells;
  tasks = untold.tasks;
  clone = inr (front, more ++ last, subst (AreOf s line) (append_assoc front more last) (all (front ++ more) are), untold.clone);
}

-- ---- a line of one event

-- it answers what the event does
pub event_says : {A : Type 0} (bytes : A → Text) (s t : State) (line : Line) (e : Event) (result : Result A AllocError) → AreOf s line (e ∷ []) → Happens s e t → IfOk result (λ a. bytes a ≡ event_text e) → IfOk result (λ a. Answers s line (bytes a) t)
event_says bytes s t line e (Err refusal) of is says = tt
event_says bytes s t line e (Ok a) of is says = record { events = e ∷ []; step = (of, (t, is, refl)); is = says }

abbrev pub IsOne : Event → List Event → Type 0
IsOne e events = events ≡ e ∷ []

pub one_of_clone : (e : Event) → IsOfClone e → OfClone (IsOne e)
one_of_clone e of events is = subst (AllByRecursion IsOfClone) (sym is) (of, tt)

pub one_made : (s t : State) (e : Event) → Happens s e t → Makes (IsOne e) s t
one_made s t e is = (e ∷ [], refl, (t, is, refl))

-- memory ran out in it
pub one_breaks : {A : Type 0} (s t : State) (line : Line) (e : Event) (result : Result A AllocError) → AreOf s line (e ∷ []) → EndsUntold (IsOne e) s t → OnErr result (BreaksOff s line t)
one_breaks s t line e result of ends = on_err result (BreaksOff s line t) (untold_breaks (IsOne e) s t line [] e [] of (λ events is. subst (λ (es : List Event). AreOf s line (es ++ [])) (sym is) of) ends)

-- or after it
pub event_breaks_off : {A : Type 0} (s t : State) (line : Line) (e : Event) (result : Result A AllocError) → AreOf s line (e ∷ []) → IsOfClone e → Happens s e t → OnErr result (BreaksOff s line t)
event_breaks_off s t line e result makes of is = one_breaks s t line e result makes (made_untold (IsOne e) s t (one_of_clone e of) (one_made s t e is))

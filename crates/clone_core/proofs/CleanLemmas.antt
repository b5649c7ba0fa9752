-- What a `clean` does, page by page.
use Rattle.std.proofs.Common.{◌≡◌, ◌<◌, ◌+◌, ◌^◌, ℕ, List, [], ◌∷◌, ◌++◌, length, refl, sym, ap, ◌∙◌, subst, arith, append_assoc, length-append, Option, Some, None, Result, Ok, Err, IfOk, OnErr, IsErrAnd, codes, decimal, flat_map, inl}
use Rattle.std.proofs.lemmas.Grind.{flat_map-append}
use Rattle.std.specs.declared.alloc.AllocError.{AllocError}
use Rattle.std.specs.List.{AllByRecursion}
use Rattle.clone_script.specs.declared.lines.Line.TheVariants as lines
use Rattle.clone_pool.specs.declared.frame.Frame.{Frame}
use Rattle.clone_pool.specs.Frames.{frame_at}
use Rattle.clone_flush.specs.Calls as flushes
use Rattle.clone_plain.specs.declared.refusal.Cause.{Cause}
use Rattle.clone_plain.specs.declared.refusal.Cause.TheVariants as causes
use Rattle.clone_plain.specs.declared.refusal.EngineRefusal.{EngineRefusal}
use Rattle.clone_plain.specs.declared.refusal.EngineRefusal.TheVariants.{Because, NoMemory}
use Rattle.clone_plain.specs.Answers.{Text}
use Rattle.clone_plain.specs.declared.call.EngineAnswer.{EngineAnswer}
use Rattle.clone_plain.specs.declared.call.EngineAnswer.TheVariants as answers
use Rattle.clone_plain.specs.declared.call.EngineCall.{EngineCall}
use Rattle.clone_plain.specs.declared.call.EngineCall.TheVariants as call
use Rattle.clone_events.specs.Events.{Event, made, cleaned, Happens, Events}
use Rattle.clone_events.specs.Runs.{MakesClean, all_clean, not_flushed, flushed}
use Rattle.clone_events.specs.BreaksOff.{IsDone}
use Rattle.clone_events.proofs.RunLemmas.{Events-append}
use Rattle.clone_engine.specs.Engine.{Engine}
use Rattle.clone_core.specs.Steps.{SystemStep}
use Rattle.clone_core.specs.System.{donor_of}
use Rattle.clone_core.specs.Lines.{State, Answers, BreaksOff}
use Rattle.clone_core.specs.Called.{Called, SaysCause, CleansAll, StopsCleaning, Cleans}
use Rattle.clone_core.proofs.LineLemmas.{ChangesNothing, refused_stays}
use Rattle.clone_core.proofs.SetLemmas.{is_done, said-last, Events-split}
use Rattle.clone_core.proofs.WaitingLemmas.{waiting, waiting-le, waits_for, one_fewer}

abbrev pub frames_of : State → List Frame
frames_of s = s.donor.donor.engine.buffer.pool.frames

-- an event that is a call that was carried out
abbrev Did : State → EngineCall → EngineAnswer → State → Type 0
Did s asked given t = Happens donor_of SystemStep s (made asked (Ok given)) t

-- each of these pages was flushed, and there are not too many left
pub record Cleaning (s : State) (landed : ℕ) (u : State) : Type 0 where
  pub pages : List (ℕ × ℕ)
  pub count : landed ≡ length pages
  pub happened : Events donor_of SystemStep s (flat_map flushed pages) u
  pub few : landed + waiting (frames_of u) < 2 ^ 32

pub clean_begins : (s : State) → length (frames_of s) < 2 ^ 32 → Cleaning s 0 s
clean_begins s few = record { pages = []; count = refl; happened = refl; few = omega (arith, few, waiting-le (frames_of s)) }

-- ---- one page

-- one fewer page waits once a page was flushed
pub fewer_wait : (u v w x t : State) (space page : ℕ) → Did u call.OldestDirty (answers.OldestDirty (Some (space, page))) v → Did v (call.FlushBegin space page) answers.FlushBegin w → Did w (call.FlushHalf space page) answers.FlushHalf x → Did x (call.FlushLand space page) answers.FlushLand t → waiting (frames_of t) + 1 ≡ waiting (frames_of u)
fewer_wait u v w x t space page looks begins halves lands =
    let began = begins.step.0.does.steps.does.1 in
    let halved = halves.step.0.does.steps.does.1 in
    let landed = lands.step.0.does.steps.does.1 in
    one_fewer (frames_of u) (frames_of v) (frames_of w) (frames_of x) (frames_of t) began.0 landed.1 (record { space = space; number = page })
    (ap (λ (e : Engine). e.buffer.pool.frames) looks.step.0.does.steps.1)
    (ap (λ (s : flushes.State). s.buffer.pool.frames) began.2)
    (ap (λ (s : flushes.State). s.buffer.pool.frames) halved.3)
    (ap (λ (s : flushes.State). s.buffer.pool.frames) landed.3)
    began.1.dirty.holder.within began.1.dirty.holder.holder (waits_for (frame_at (frames_of v) began.0) began.1.dirty.dirty began.1.quiet) landed.2.holder.within landed.2.holder.holder

pub clean_goes : (s u v w x t : State) (landed space page : ℕ) → Cleaning s landed u → Did u call.OldestDirty (answers.OldestDirty (Some (space, page))) v → Did v (call.FlushBegin space page) answers.FlushBegin w → Did w (call.FlushHalf space page) answers.FlushHalf x → Did x (call.FlushLand space page) answers.FlushLand t → Cleaning s (landed + 1) t
clean_goes s u v w x t landed space page is looks begins halves lands =
    let P : List Event → Type 0 = λ es. Events donor_of SystemStep s es t in
    let whole : flat_map flushed (is.pages ++ (space, page) ∷ []) ≡ flat_map flushed is.pages ++ flushed (space, page) = flat_map-append flushed is.pages ((space, page) ∷ []) in
    record {
      pages = is.pages ++ (space, page) ∷ [];
      count = omega (arith, is.count, length-append is.pages ((space, page) ∷ []));
      happened = subst P (sym whole) (Events-append donor_of SystemStep s (flat_map flushed is.pages) (flushed (space, page)) u t is.happened (v, looks, (w, begins, (x, halves, (t, lands, refl)))));
      few = omega (arith, is.few, fewer_wait u v w x t space page looks begins halves lands);
    }

-- ---- the end

clean_ends : (s u t : State) (landed : ℕ) → Cleaning s landed u → Did u call.OldestDirty (answers.OldestDirty None) t → Cleans s (Ok landed) t
clean_ends s u t landed is looks = record {
  pages = is.pages;
  count = is.count;
  happened = Events-append donor_of SystemStep s (flat_map flushed is.pages) (made call.OldestDirty (Ok (answers.OldestDirty None)) ∷ []) u t is.happened (t, looks, refl);
}

-- there is no dirty page where none was found
pub no_page : (found : Option (ℕ × ℕ)) → ((page : ℕ × ℕ) → found ≡ Some page → ⊥) → found ≡ None
no_page None none = refl
no_page (Some page) none = absurd (none page refl)

pub clean_ended : (s u t : State) (landed : ℕ) (found : Option (ℕ × ℕ)) → found ≡ None → Cleaning s landed u → Did u call.OldestDirty (answers.OldestDirty found) t → Cleans s (Ok landed) t
clean_ended s u t landed found none is looks = let P : Option (ℕ × ℕ) → Type 0 = λ o. Did u call.OldestDirty (answers.OldestDirty o) t in clean_ends s u t landed is (subst P none looks)

pages_done : (pages : List (ℕ × ℕ)) (rest : List Event) → AllByRecursion IsDone rest → AllByRecursion IsDone (flat_map flushed pages ++ rest)
pages_done [] rest is = is
pages_done (page ∷ pages) rest is = (is_done _ _, (is_done _ _, (is_done _ _, (is_done _ _, pages_done pages rest is))))

front_done : (front rest : List Event) → AllByRecursion IsDone (front ++ rest) → AllByRecursion IsDone front
front_done [] rest is = tt
front_done (e ∷ front) rest is = (is.0, front_done front rest is.1)

flushed_done : (page : ℕ × ℕ) → AllByRecursion IsDone (flushed page)
flushed_done page = (is_done _ _, (is_done _ _, (is_done _ _, (is_done _ _, tt))))

-- the calls before one of the flush of a page
before_done : (pages : List (ℕ × ℕ)) (page : ℕ × ℕ) (front rest : List Event) (asked : EngineCall) (given : EngineAnswer) → flushed page ≡ front ++ made asked (Ok given) ∷ rest → AllByRecursion IsDone (flat_map flushed pages ++ front)
before_done pages page front rest asked given split = pages_done pages front (front_done front (made asked (Ok given) ∷ rest) (subst (AllByRecursion IsDone) split (flushed_done page)))

-- a call of a flush wasn't carried out
stops : (s u v t : State) (landed : ℕ) (page : ℕ × ℕ) (front rest : List Event) (asked : EngineCall) (given : EngineAnswer) (did : Unit {0} → EngineAnswer) (refusal : EngineRefusal) → Cleaning s landed u → flushed page ≡ front ++ made asked (Ok given) ∷ rest → Events donor_of SystemStep u front v
    → Called v asked did (Err refusal) t → Cleans s (Err refusal) t
stops s u v t landed page front rest asked given did (Because cause) is split before failed = record {
  pages = is.pages;
  page = page;
  front = front;
  rest = rest;
  asked = asked;
  given = given;
  split = split;
  happened = Events-append donor_of SystemStep s (flat_map flushed is.pages ++ front) (made asked (Err cause) ∷ []) v t (Events-append donor_of SystemStep s (flat_map flushed is.pages) front u v is.happened before) (t, failed, refl);
}
stops s u v t landed page front rest asked given did NoMemory is split before failed = record {
  front = flat_map flushed is.pages ++ front;
  next = made asked (Err causes.DiskFault);
  rest = [];
  makes = not_flushed is.pages page front rest asked given causes.DiskFault split refl;
  carried = before_done is.pages page front rest asked given split;
  then = v;
  happened = Events-append donor_of SystemStep s (flat_map flushed is.pages) front u v is.happened before;
  donor = failed.donor;
  begun = failed.begun;
  tells = failed.tells;
  tasks = failed.tasks;
  clone = inl failed.clone;
}

-- a refusal that is passed on
passed_on : (s t : State) (refusal : EngineRefusal) (result : Result ℕ EngineRefusal) → IsErrAnd result (λ e. e ≡ refusal) → Cleans s (Err refusal) t → Cleans s result t
passed_on s t refusal (Ok x) is cleans = absurd is
passed_on s t refusal (Err e) is cleans = let P : EngineRefusal → Type 0 = λ r. Cleans s (Err r) t in subst P (sym is) cleans

pub not_begun : (s u v t : State) (landed space page : ℕ) (refusal : EngineRefusal) (result : Result ℕ EngineRefusal) → Cleaning s landed u → Did u call.OldestDirty (answers.OldestDirty (Some (space, page))) v
    → Called {X = Unit {0}} v (call.FlushBegin space page) (λ _. answers.FlushBegin) (Err refusal) t → IsErrAnd result (λ e. e ≡ refusal) → Cleans s result t
not_begun s u v t landed space page refusal result is looks failed passed =
    passed_on s t refusal result passed (stops s u v t landed (space, page) (made call.OldestDirty (Ok (answers.OldestDirty (Some (space, page)))) ∷ []) _ (call.FlushBegin space page) answers.FlushBegin (λ _. answers.FlushBegin) refusal is refl (v, looks, refl) failed)

pub not_halved : (s u v w t : State) (landed space page : ℕ) (refusal : EngineRefusal) (result : Result ℕ EngineRefusal) → Cleaning s landed u → Did u call.OldestDirty (answers.OldestDirty (Some (space, page))) v → Did v (call.FlushBegin space page) answers.FlushBegin w
    → Called {X = Unit {0}} w (call.FlushHalf space page) (λ _. answers.FlushHalf) (Err refusal) t → IsErrAnd result (λ e. e ≡ refusal) → Cleans s result t
not_halved s u v w t landed space page refusal result is looks begins failed passed =
    passed_on s t refusal result passed (stops s u w t landed (space, page) (made call.OldestDirty (Ok (answers.OldestDirty (Some (space, page)))) ∷ made (call.FlushBegin space page) (Ok answers.FlushBegin) ∷ []) _ (call.FlushHalf space page) answers.FlushHalf (λ _. answers.FlushHalf) refusal is refl (v, looks, (w, begins, refl)) failed)

pub not_landed : (s u v w x t : State) (landed space page : ℕ) (refusal : EngineRefusal) (result : Result ℕ EngineRefusal) → Cleaning s landed u → Did u call.OldestDirty (answers.OldestDirty (Some (space, page))) v → Did v (call.FlushBegin space page) answers.FlushBegin w → Did w (call.FlushHalf space page) answers.FlushHalf x
    → Called {X = Unit {0}} x (call.FlushLand space page) (λ _. answers.FlushLand) (Err refusal) t → IsErrAnd result (λ e. e ≡ refusal) → Cleans s result t
not_landed s u v w x t landed space page refusal result is looks begins halves failed passed =
    passed_on s t refusal result passed (stops s u x t landed (space, page) (made call.OldestDirty (Ok (answers.OldestDirty (Some (space, page)))) ∷ made (call.FlushBegin space page) (Ok answers.FlushBegin) ∷ made (call.FlushHalf space page) (Ok answers.FlushHalf) ∷ []) [] (call.FlushLand space page) answers.FlushLand (λ _. answers.FlushLand) refusal is refl (v, looks, (w, begins, (x, halves, refl))) failed)

-- ---- the line

-- the events of a `clean` that landed all
whole_makes : (pages : List (ℕ × ℕ)) → MakesClean ((flat_map flushed pages ++ made call.OldestDirty (Ok (answers.OldestDirty None)) ∷ []) ++ cleaned (length pages) ∷ [])
whole_makes pages = all_clean pages (append_assoc (flat_map flushed pages) (made call.OldestDirty (Ok (answers.OldestDirty None)) ∷ []) (cleaned (length pages) ∷ []))

all_answers : (s t : State) (landed : ℕ) (text : Text) → CleansAll s landed t → text ≡ codes "cleaned " ++ decimal landed → Answers s lines.Clean text t
all_answers s t landed text is says =
    let front = flat_map flushed is.pages ++ made call.OldestDirty (Ok (answers.OldestDirty None)) ∷ [] in
    let last = cleaned (length is.pages) in
    let ends : Happens donor_of SystemStep t last t = record { step = refl; begun = refl; clone = record { now = tt; shows = tt; is = refl }; tells = refl; tasks = refl; sees = λ _. tt } in
    record {
      events = front ++ last ∷ [];
      step = (whole_makes is.pages, Events-append donor_of SystemStep s front (last ∷ []) t t is.happened (t, ends, refl));
      is = says ∙ ap (λ n. codes "cleaned " ++ decimal n) is.count ∙ sym (said-last front last);
    }

pub clean_answers : {A : Type 0} (bytes : A → Text) (s t : State) (landed : ℕ) (result : Result A AllocError) → Cleans s (Ok landed) t → IfOk result (λ a. bytes a ≡ codes "cleaned " ++ decimal landed) → IfOk result (λ a. Answers s lines.Clean (bytes a) t)
clean_answers bytes s t landed (Err e) is says = tt
clean_answers bytes s t landed (Ok a) is says = all_answers s t landed (bytes a) is says

pub clean_breaks : {A : Type 0} (s t : State) (landed : ℕ) (result : Result A AllocError) → Cleans s (Ok landed) t → OnErr result (BreaksOff s lines.Clean t)
clean_breaks s t landed (Ok a) is = tt
clean_breaks s t landed (Err e) is = record {
  front = flat_map flushed is.pages ++ made call.OldestDirty (Ok (answers.OldestDirty None)) ∷ [];
  next = cleaned (length is.pages);
  rest = [];
  makes = whole_makes is.pages;
  carried = pages_done is.pages (made call.OldestDirty (Ok (answers.OldestDirty None)) ∷ []) (is_done _ _, tt);
  then = t;
  happened = is.happened;
  donor = refl;
  begun = refl;
  tells = refl;
  tasks = refl;
  clone = inl refl;
}

refusal_answers : (s t : State) (refusal : EngineRefusal) (text : Text) → Cleans s (Err refusal) t → SaysCause refusal text → Answers s lines.Clean text t
refusal_answers s t refusal text is says =
    let P : EngineRefusal → Type 0 = λ r. Cleans s (Err r) t in
    let at : StopsCleaning s says.cause t = subst P says.is is in
    let last = made at.asked (Err says.cause) in
    record {
      events = flat_map flushed at.pages ++ at.front ++ last ∷ [];
      step = (not_flushed at.pages at.page at.front at.rest at.asked at.given says.cause at.split refl, at.happened);
      is = says.same ∙ sym (said-last (flat_map flushed at.pages ++ at.front) last);
    }

pub stop_answers : {A : Type 0} (bytes : A → Text) (s t : State) (refusal : EngineRefusal) (result : Result A AllocError) → Cleans s (Err refusal) t → IfOk result (λ a. SaysCause refusal (bytes a)) → IfOk result (λ a. Answers s lines.Clean (bytes a) t)
stop_answers bytes s t refusal (Err e) is says = tt
stop_answers bytes s t refusal (Ok a) is says = refusal_answers s t refusal (bytes a) is says

-- a call of a flush drops nothing
abbrev DropsNone : Event → Type 0
DropsNone (made asked (Ok given)) = (cause : Cause) → ChangesNothing asked cause
DropsNone e = Unit {0}

in_middle : (front rest : List Event) (e : Event) → AllByRecursion DropsNone (front ++ e ∷ rest) → DropsNone e
in_middle [] rest e all = all.0
in_middle (x ∷ front) rest e all = in_middle front rest e all.1

flush_nothing : (page : ℕ × ℕ) (front rest : List Event) (asked : EngineCall) (given : EngineAnswer) (cause : Cause) → flushed page ≡ front ++ made asked (Ok given) ∷ rest → ChangesNothing asked cause
flush_nothing page front rest asked given cause split =
    in_middle front rest (made asked (Ok given)) (subst (AllByRecursion DropsNone) split ((λ why. tt), ((λ why. tt), ((λ why. tt), ((λ why. tt), tt))))) cause

stopped_breaks : (s t : State) (refusal : EngineRefusal) → Cleans s (Err refusal) t → BreaksOff s lines.Clean t
stopped_breaks s t (Because cause) is =
    let last = made is.asked (Err cause) in
    let before = flat_map flushed is.pages ++ is.front in
    let at = Events-split s before (last ∷ []) t is.happened in
    let P : State → Type 0 = λ w. Happens donor_of SystemStep at.0 last w in
    let stays = refused_stays at.0 t is.asked cause (flush_nothing is.page is.front is.rest is.asked is.given cause is.split) (subst P at.2.2 at.2.1) in
    record {
      front = before;
      next = last;
      rest = [];
      makes = not_flushed is.pages is.page is.front is.rest is.asked is.given cause is.split refl;
      carried = before_done is.pages is.page is.front is.rest is.asked is.given is.split;
      then = at.0;
      happened = at.1;
      donor = stays.donor;
      begun = stays.begun;
      tells = stays.tells;
      tasks = stays.tasks;
      clone = inl stays.clone;
    }
stopped_breaks s t NoMemory is = is

pub stop_breaks : {A : Type 0} (s t : State) (refusal : EngineRefusal) (result : Result A AllocError) → Cleans s (Err refusal) t → OnErr result (BreaksOff s lines.Clean t)
stop_breaks s t refusal (Ok a) is = tt
stop_breaks s t refusal (Err e) is = stopped_breaks s t refusal is

-- The calls of the jobs that aren't writers' touch no transaction.
use Rattle.std.proofs.Common.{set, ◌≡◌, ◌∙◌, ◌⊎◌, ◌++◌, ℕ, zero, suc, Bool, true, false, List, [], ◌∷◌, Option, None, Some, refl, sym, ap, subst, inl, inr}
use Rattle.std.specs.Prelude.{⊤, slice_get}
use Rattle.std.specs.List.{AllByRecursion}
use Rattle.std.proofs.lemmas.List.{append_cancel_left}
use Rattle.std.proofs.lemmas.Option.{same_Some}
use Rattle.clone_outside.specs.declared.link.Link.{Ghosts as Link}
use Rattle.clone_turn.specs.Runs.{IsLegalRun, calls}
use Rattle.clone_turn.proofs.EachLemmas.{each_append, each_left, each_map, each_right}
use Rattle.clone_turn.proofs.WorkedLemmas.{makes_calls, makes_more}
use Rattle.clone_runs.specs.Shuffles.{IsShuffled}
use Rattle.clone_calls.specs.declared.call.DonorCall.{DonorCall}
use Rattle.clone_calls.specs.declared.call.DonorCall.TheVariants as asked
use Rattle.clone_plain.specs.declared.call.EngineCall.{EngineCall}
use Rattle.clone_machine.specs.Running.{JobEntry}
use Rattle.clone_machine.specs.Sharing.{SharedDonor, Steps}
use Rattle.clone_machine.specs.declared.calls.JobAnswer.{JobAnswer}
use Rattle.clone_machine.specs.declared.calls.JobAnswer.TheVariants as job_answer
use Rattle.clone_machine.specs.declared.calls.JobCall.{JobCall}
use Rattle.clone_machine.specs.declared.calls.JobCall.TheVariants as job
use Rattle.clone_copying.specs.Watching.{AreLooks}
use Rattle.clone_copying.specs.declared.fetch_end.FetchEnd.{FetchEnd}
use Rattle.clone_copying.specs.Calls.{RecipientEntry}
use Rattle.clone_desk.specs.Steps.{DeskEntry}
use Rattle.clone_links.specs.Calling.{IsOneCall, exchange_by, exchanges_in}
use Rattle.clone_links.specs.Serving.{IsServed}
use Rattle.clone_links.specs.declared.end.ServeEnd.{ServeEnd}
use Rattle.clone_jobs.specs.Said.{Said, said_by}
use Rattle.clone_jobs.specs.Written.{IsAside, engine_of}
use Rattle.clone_jobs.specs.declared.ending.Ending.{Ending}
use Rattle.clone_jobs.specs.declared.ending.Ending.TheVariants as ending
use Rattle.clone_serve.specs.Telling.{Exchange}
use Rattle.clone_task_jobs.specs.Fetching.{HaltsUnless, is_complete}
use Rattle.clone_task_jobs.specs.Serving.{AreTurns, EndsBy, IsService, IsServing, IsTurn, Service, idles, more, none, serves}
use Rattle.clone_run.specs.Done.{IsFetch}
use Rattle.clone_written.proofs.ServedLemmas.{AreOfClone, IsOfClone, carried_of_clone}

-- ---- a call of the donor has an answer of the donor

abbrev pub HasAnswer : JobCall → JobAnswer → Type 0
HasAnswer (job.Donor c) (job_answer.Donor a) = ⊤
HasAnswer (job.Donor c) a = ⊥
HasAnswer c a = ⊤

abbrev pub IsAnswered : JobEntry → Type 0
IsAnswered e = HasAnswer e.call e.answer

abbrev pub AreAnswered : List JobEntry → Type 0
AreAnswered made = AllByRecursion IsAnswered made

step_answered : (s : SharedDonor) (c : JobCall) (a : JobAnswer) (t : SharedDonor) → Steps s c a t → HasAnswer c a
step_answered s (job.Donor c) (job_answer.Donor a) t is = tt
step_answered s (job.Donor c) a t is = absurd is
step_answered s job.Halt a t is = tt
step_answered s job.Halted a t is = tt
step_answered s job.Look a t is = tt

pub legal_answered : (s : SharedDonor) (run : List JobEntry) → IsLegalRun Steps s run → AreAnswered run
legal_answered s [] legal = tt
legal_answered s (e ∷ run) legal = (step_answered s e.call e.answer e.after legal.0, legal_answered e.after run legal.1)

-- ---- a fact of each call of a run is one of each call of its parts

module _ {X : Type 0} (P : X → Type 0) where
  each_before : (i : ℕ) (parts : List (List X)) (x : X) (rest : List X) → slice_get parts i ≡ Some (x ∷ rest) → P x → AllByRecursion (AllByRecursion P) (set parts i rest) → AllByRecursion (AllByRecursion P) parts
  each_before i [] x rest first one each = tt
  each_before zero (part ∷ parts) x rest first one each = (subst (AllByRecursion P) (sym (same_Some part (x ∷ rest) first)) (one, each.0), each.1)
  each_before (suc i) (part ∷ parts) x rest first one each = (each.0, each_before i parts x rest first one each.1)

  pub each_shuffled : (parts : List (List X)) (run : List X) → IsShuffled parts run → AllByRecursion P run → AllByRecursion (AllByRecursion P) parts
  each_shuffled parts [] shuffled each = each_map (λ part. part ≡ []) (AllByRecursion P) (λ part empty. subst (AllByRecursion P) (sym empty) tt) parts shuffled
  each_shuffled parts (x ∷ run) (i, rest, first, later) each = each_before i parts x rest first each.0 (each_shuffled (set parts i rest) run later each.1)

module _ {X : Type 0} where
  -- a part without calls
  pub shuffled_with_none : (parts : List (List X)) (run : List X) → IsShuffled parts run → IsShuffled ([] ∷ parts) run
  shuffled_with_none parts [] shuffled = (refl, shuffled)
  shuffled_with_none parts (x ∷ run) (i, rest, first, later) = (suc i, rest, first, shuffled_with_none (set parts i rest) run later)

-- ---- calls that aren't the engine's

abbrev pub Aside : JobEntry → Type 0
Aside e = IsAside (said_by e)

abbrev pub AreAside : List JobEntry → Type 0
AreAside made = AllByRecursion Aside made

no_call : {c : EngineCall} → ◌≡◌ {A = Option EngineCall} None (Some c) → ⊥
no_call is = cc

none_aside : (x : Said) → engine_of x.call ≡ None → IsAside x
none_aside x is c names = absurd (no_call (sym is ∙ names))

pub one_aside : (made : List JobEntry) (c : JobCall) (a : JobAnswer) → IsOneCall c a made → engine_of c ≡ None → AreAside made
one_aside made c a (e, is, call, answer) other = subst AreAside (sym is) (none_aside (said_by e) (ap engine_of call ∙ other), tt)

-- the calls of the first and then those of the last
two_aside : (made first last : List JobEntry) → made ≡ first ++ last → (AreAnswered first → AreAside first) → (AreAnswered last → AreAside last) → AreAnswered made → AreAside made
two_aside made first last is a b answered =
    let all = subst AreAnswered is answered in
    subst AreAside (sym is) (each_append Aside first last (a (each_left IsAnswered first last all)) (b (each_right IsAnswered first last all)))

-- ---- a connection that is served

clone_aside : (c : DonorCall) → IsOfClone c → engine_of (job.Donor c) ≡ None
clone_aside (asked.Engine c) is = absurd is
clone_aside c is = refl

exchange_aside : (c : JobCall) (a : JobAnswer) → HasAnswer c a → AreOfClone (exchange_by c a) → IsAside (record { call = c; answer = a })
exchange_aside (job.Donor c) (job_answer.Donor a) answered of = none_aside (record { call = job.Donor c; answer = job_answer.Donor a }) (clone_aside c of.0)
exchange_aside (job.Donor c) a answered of = absurd answered
exchange_aside job.Halt a answered of = none_aside (record { call = job.Halt; answer = a }) refl
exchange_aside job.Halted a answered of = none_aside (record { call = job.Halted; answer = a }) refl
exchange_aside job.Look a answered of = none_aside (record { call = job.Look; answer = a }) refl

exchanges_aside : (made : List JobEntry) → AreAnswered made → AreOfClone (exchanges_in made) → AreAside made
exchanges_aside [] answered of = tt
exchanges_aside (e ∷ made) answered of = (
  exchange_aside e.call e.answer answered.0 (each_left (λ (x : Exchange). IsOfClone x.0) (exchange_by e.call e.answer) (exchanges_in made) of),
  exchanges_aside made answered.1 (each_right (λ (x : Exchange). IsOfClone x.0) (exchange_by e.call e.answer) (exchanges_in made) of),
)

served_aside : (end : ServeEnd) (r0 r1 s0 s1 : Option (List ℕ)) (made : List JobEntry) → IsServed end r0 r1 s0 s1 made → AreAnswered made → AreAside made
served_aside end r0 r1 s0 s1 made served answered = exchanges_aside made answered (subst AreOfClone (sym served.calls.are) (carried_of_clone end served.exchanges served.received served.sent served.carries))

module _ {N L X : Type 0} (link : Link L X) (task : ℕ) where
  service_aside : (s : Service L) (made : List JobEntry) (asks : List (DeskEntry N L)) → IsService link task s made asks → AreAnswered made → AreAside made
  service_aside s made asks is = two_aside made is.look is.calls is.made_is (λ answered. one_aside is.look job.Halted _ is.goes_on refl) (served_aside s.why _ _ _ _ is.calls is.serves)

  turn_aside : (made : List JobEntry) (asks : List (DeskEntry N L)) (done : List (Service L)) → IsTurn link task made asks done → AreAnswered made → AreAside made
  turn_aside made asks done (idles looks idle) answered = one_aside made job.Halted _ looks refl
  turn_aside made asks done (serves s service goes) answered = service_aside s made asks service answered

  turns_aside : (made : List JobEntry) (asks : List (DeskEntry N L)) (done : List (Service L)) → AreTurns link task made asks done → AreAnswered made → AreAside made
  turns_aside m a d none answered = tt
  turns_aside m a d (more made now asks next done one turns turn) answered =
      each_append Aside made now (turns_aside made asks done turns (each_left IsAnswered made now answered)) (turn_aside now next one turn (each_right IsAnswered made now answered))

  closing_aside : (s : Service L) (made calls halt : List JobEntry) (asks : List (DeskEntry N L)) → made ≡ calls ++ halt → IsService link task s calls asks → IsOneCall job.Halt job_answer.Halt halt → AreAnswered made → AreAside made
  closing_aside s made calls halt asks is service one = two_aside made calls halt is (service_aside s calls asks service) (λ answered. one_aside halt job.Halt _ one refl)

  end_aside : (why : Ending) (made : List JobEntry) (asks : List (DeskEntry N L)) (last : List (Service L)) → EndsBy link task why made asks last → AreAnswered made → AreAside made
  end_aside ending.Done made asks last is = absurd is
  end_aside ending.Halted made asks last is = λ answered. one_aside made job.Halted _ is.0 refl
  end_aside ending.DiskFault made asks last is = closing_aside is.0 made is.1 is.2 asks is.4 is.5 is.7
  end_aside ending.NoMemory made asks last is = closing_aside is.0 made is.1 is.2 asks is.4 is.5 is.7

  pub serving_aside : (why : Ending) (made : List JobEntry) (asks : List (DeskEntry N L)) (served : List (Service L)) → IsServing link task why made asks served → AreAnswered made → AreAside made
  serving_aside why made asks served is = two_aside made is.made_first is.made_last is.made_is (turns_aside is.made_first is.asked_first is.first is.turns) (end_aside why is.made_last is.asked_last is.last is.ends)

-- ---- a task that fetches

looks_aside : (made : List JobEntry) → AreLooks job.Halted job.Look made → AreAside made
looks_aside made looks = each_map _ Aside (λ e is. by e is) made looks
  where
    by : (e : JobEntry) → (e.call ≡ job.Halted) ⊎ (e.call ≡ job.Look) → Aside e
    by e (inl is) = none_aside (said_by e) (ap engine_of is)
    by e (inr is) = none_aside (said_by e) (ap engine_of is)

halts_aside : (complete : Bool) (made : List JobEntry) → HaltsUnless complete made → AreAside made
halts_aside true made is = subst AreAside (sym is) tt
halts_aside false made is = one_aside made job.Halt is.0 is.1 refl

module _ {N L X R : Type 0} (link : Link L X) where
  pub fetch_aside : (task : ℕ) (end : FetchEnd) (stepped : List (RecipientEntry R)) (asks : List (DeskEntry N L)) (watched : List JobEntry) → IsFetch link task end stepped asks watched → AreAside watched
  fetch_aside task end stepped asks watched fetch =
      let looks = fetch.does.looks in
      let halts = fetch.does.halts in
      let before = calls fetch.watch_old.seen in
      let both = makes_calls fetch.watch_old fetch.watch_new (looks.0 ++ halts.0) (makes_more fetch.watch_old fetch.does.looked fetch.watch_new looks.0 halts.0 looks.1 halts.1) in
      let same : watched ≡ looks.0 ++ halts.0 = append_cancel_left before watched (looks.0 ++ halts.0) (sym (makes_calls fetch.watch_old fetch.watch_new watched fetch.watches) ∙ both) in
      subst AreAside (sym same) (each_append Aside looks.0 halts.0 (looks_aside looks.0 looks.2) (halts_aside (is_complete end) halts.0 halts.2))

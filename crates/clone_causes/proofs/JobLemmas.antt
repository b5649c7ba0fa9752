-- Why a job ended for a fault of the donor's disk: one of its calls was answered by one. So whatever follows from each such answer follows from the end.
use Rattle.std.proofs.Common.{ℕ, ◌≡◌, ◌∙◌, List, [], ◌∷◌, ◌++◌, Option, None, Some, Result, Ok, Err, refl, sym, subst}
use Rattle.std.specs.List.{AllByRecursion}
use Rattle.std.proofs.lemmas.Option.{none-some}
use Rattle.clone_outside.specs.declared.link.Link.{Ghosts as Link}
use Rattle.clone_turn.proofs.EachLemmas.{each_append, each_left, each_right}
use Rattle.clone_plain.specs.declared.call.EngineAnswer.{EngineAnswer}
use Rattle.clone_plain.specs.declared.refusal.Cause.TheVariants.{DiskFault}
use Rattle.clone_plain.specs.declared.refusal.EngineRefusal.{EngineRefusal}
use Rattle.clone_plain.specs.declared.refusal.EngineRefusal.TheVariants.{Because, NoMemory}
use Rattle.clone_calls.specs.declared.answer.DonorAnswer.TheVariants as given
use Rattle.clone_serve.specs.Telling.{Exchange}
use Rattle.clone_machine.specs.Running.{JobEntry}
use Rattle.clone_machine.specs.declared.calls.JobAnswer.{JobAnswer}
use Rattle.clone_machine.specs.declared.calls.JobAnswer.TheVariants as answer
use Rattle.clone_machine.specs.declared.calls.JobCall.{JobCall}
use Rattle.clone_machine.specs.declared.calls.JobCall.TheVariants as call
use Rattle.clone_links.specs.Calling.{exchange_by, exchanges_in}
use Rattle.clone_links.specs.Ending.{EndsWith, IsCause, IsDiskFault}
use Rattle.clone_links.specs.declared.end.ServeEnd.{ServeEnd}
use Rattle.clone_links.specs.declared.end.ServeEnd.TheVariants as end
use Rattle.clone_desk.specs.Steps.{DeskEntry}
use Rattle.clone_jobs.specs.Said.{Said, halting, said_in}
use Rattle.clone_jobs.specs.Turns.{IsJob, earlier, in_turn, stop_by, stop_in, stop_of}
use Rattle.clone_jobs.specs.declared.ending.Ending.{Ending}
use Rattle.clone_jobs.specs.declared.ending.Ending.TheVariants as ending
use Rattle.clone_task_jobs.specs.Serving.{IsService, IsServing, Service, ending_of}
use Rattle.clone_causes.proofs.DonorLemmas.{DiskFails, DonorFails}

-- ---- AN ANSWER THAT ENDS A JOB for a fault is one

fails_of : (result : Result EngineAnswer EngineRefusal) → stop_of result ≡ Some ending.DiskFault → result ≡ Err (Because DiskFault)
fails_of (Ok told) is = absurd (none-some ending.DiskFault is)
fails_of (Err (Because DiskFault)) is = refl
fails_of (Err (Because cause)) is = absurd (none-some ending.DiskFault is)
fails_of (Err NoMemory) is = absurd cc

fails_by : (a : JobAnswer) → stop_by a ≡ Some ending.DiskFault → DiskFails a
fails_by (answer.Donor (given.Engine result)) is = fails_of result is
fails_by (answer.Donor (given.Archive (Err refused))) is = absurd cc
fails_by other is = absurd (none-some ending.DiskFault is)

-- what brings a job to such an end
cause_from : (why : ServeEnd) (exchanges : List Exchange) (made : List JobEntry) → ending_of why ≡ Some ending.DiskFault → IsCause why exchanges made → EndsWith IsDiskFault exchanges
cause_from end.DiskFault exchanges made is cause = cause
cause_from end.NoMemory exchanges made is cause = absurd cc
cause_from other exchanges made is cause = absurd (none-some ending.DiskFault is)

module _ (G : Type 0) where
  -- it follows from each of the calls whose answer tells of a fault
  abbrev FromSaid : List Said → Type 0
  FromSaid said = AllByRecursion (λ (x : Said). DiskFails x.answer → G) said

  abbrev pub FromMade : List JobEntry → Type 0
  FromMade made = AllByRecursion (λ (e : JobEntry). DiskFails e.answer → G) made

  said_from : (made : List JobEntry) → FromMade made → FromSaid (said_in made)
  said_from [] each = tt
  said_from (e ∷ es) each = (each.0, said_from es each.1)

  stopped : (turn : List Said) → FromSaid turn → stop_in turn ≡ Some ending.DiskFault → G
  stopped [] each is = absurd (none-some ending.DiskFault is)
  stopped (x ∷ xs) each is = by (stop_by x.answer) refl (λ more. stopped xs each.1 more) is
    where
      by : (o : Option Ending) → stop_by x.answer ≡ o → (stop_in xs ≡ Some ending.DiskFault → G) → earlier o (stop_in xs) ≡ Some ending.DiskFault → G
      by None own later stops = later stops
      by (Some e) own later stops = each.0 (fails_by x.answer (own ∙ stops))

  pub job_from : {S : Type 0} (IsTurn : S → List Said → S → Type 0) (IsDone : S → Type 0) (e : Ending) (s t : S) (made : List JobEntry) → e ≡ ending.DiskFault → IsJob IsTurn IsDone e s (said_in made) t → FromMade made → G
  job_from IsTurn IsDone e s t made is done each =
      let job : IsJob IsTurn IsDone ending.DiskFault s (said_in made) t = subst (λ (x : Ending). IsJob IsTurn IsDone x s (said_in made) t) is done in
      let ends = job.ends in
      let last : FromSaid job.last = each_right (λ (x : Said). DiskFails x.answer → G) job.turns job.last (subst FromSaid job.all (said_from made each)) in
      let turn : FromSaid (in_turn ends.0 ++ halting ∷ []) = subst FromSaid ends.3 last in
      stopped ends.0 (each_left (λ (x : Said). DiskFails x.answer → G) (in_turn ends.0) (halting ∷ []) turn).1 ends.2

  -- ---- a job that serves a task

  abbrev FromExchanges : List Exchange → Type 0
  FromExchanges exchanges = AllByRecursion (λ (x : Exchange). DonorFails x.1 → G) exchanges

  exchange_from : (c : JobCall) (a : JobAnswer) → (DiskFails a → G) → FromExchanges (exchange_by c a)
  exchange_from (call.Donor c) (answer.Donor a) from = (from, tt)
  exchange_from c a from = tt

  exchanges_from : (made : List JobEntry) → FromMade made → FromExchanges (exchanges_in made)
  exchanges_from [] each = tt
  exchanges_from (e ∷ es) each = each_append (λ (x : Exchange). DonorFails x.1 → G) (exchange_by e.call e.answer) (exchanges_in es) (exchange_from e.call e.answer each.0) (exchanges_from es each.1)

  module _ {N L X : Type 0} (link : Link L X) (task : ℕ) where
    service_from : (s : Service L) (made : List JobEntry) (asked : List (DeskEntry N L)) → IsService link task s made asked → ending_of s.why ≡ Some ending.DiskFault → FromMade made → G
    service_from s made asked is fault each =
        let serves = is.serves in
        let calls : FromMade is.calls = each_right (λ (e : JobEntry). DiskFails e.answer → G) is.look is.calls (subst FromMade is.made_is each) in
        let last = cause_from s.why serves.exchanges is.calls fault serves.cause in
        let from : FromExchanges serves.exchanges = subst FromExchanges serves.calls.are (exchanges_from is.calls calls) in
        (each_right (λ (x : Exchange). DonorFails x.1 → G) last.0 (last.1 ∷ []) (subst FromExchanges last.2 from)).0 (subst DonorFails (sym last.3) refl)

    pub serving_from : (e : Ending) (made : List JobEntry) (asked : List (DeskEntry N L)) (served : List (Service L)) → e ≡ ending.DiskFault → IsServing link task e made asked served → FromMade made → G
    serving_from e made asked served is done each =
        let job : IsServing link task ending.DiskFault made asked served = subst (λ (x : Ending). IsServing link task x made asked served) is done in
        let ends = job.ends in
        let last : FromMade job.made_last = each_right (λ (x : JobEntry). DiskFails x.answer → G) job.made_first job.made_last (subst FromMade job.made_is each) in
        let calls : FromMade ends.1 = each_left (λ (x : JobEntry). DiskFails x.answer → G) ends.1 ends.2 (subst FromMade ends.4 last) in
        service_from ends.0 ends.1 job.asked_last ends.5 ends.6 calls

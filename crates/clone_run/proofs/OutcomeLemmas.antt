-- Which failure counts, and what a run without one says.
use Rattle.std.proofs.Common.{ℕ, ◌≤◌, arith, inl, inr, ◌≡◌, ◌⊎◌, Bool, true, false, nat_lt, if◌then◌else◌, None, Some, IsSome, refl, ap, sym, subst, ◌∙◌}
use Rattle.std.specs.Prelude.{⊤}
use Rattle.std.specs.declared.option.Option.{Option}
use Rattle.clone_outside.specs.Causes.{Rose}
use Rattle.clone_outside.specs.DiskCalls.{DiskState}
use Rattle.clone_engine.specs.Donor.{Donor}
use Rattle.clone_copying.specs.declared.fetch_end.FetchEnd.{FetchEnd}
use Rattle.clone_copying.specs.declared.fetch_end.FetchEnd.TheVariants as fetch
use Rattle.clone_fetching.specs.declared.clone_ended.CloneEnded.TheVariants as ended
use Rattle.clone_jobs.specs.declared.ending.Ending.{Ending}
use Rattle.clone_jobs.specs.declared.ending.Ending.TheVariants as ending
use Rattle.clone_run.specs.declared.failure.Failure.{Failure}
use Rattle.clone_run.specs.declared.failure.Failure.TheVariants as failure
use Rattle.clone_run.specs.declared.outcome.Outcome.{Outcome}
use Rattle.clone_run.specs.Beginning.{Unbegun}
use Rattle.clone_run.specs.Outcomes.{IsUnstarted, completed, first_of, of_ending, of_fetch, of_unstarted, of_writing, rank, with_job, with_task}

-- no thread could be started
abbrev IsThread : Option Failure → Type 0
IsThread (Some failure.Thread) = ⊤
IsThread other = ⊥

-- there is no failure
abbrev IsNone' : Option Failure → Type 0
IsNone' None = ⊤
IsNone' (Some x) = ⊥

thread_is : (a : Option Failure) → IsThread a → a ≡ Some failure.Thread
thread_is None is = absurd is
thread_is (Some failure.Memory) is = absurd is
thread_is (Some failure.Thread) is = refl
thread_is (Some failure.Connection) is = absurd is
thread_is (Some failure.DonorDisk) is = absurd is
thread_is (Some failure.RecipientDisk) is = absurd is
thread_is (Some (failure.Garbled kept)) is = absurd is
thread_is (Some (failure.Refused cause)) is = absurd is
thread_is (Some (failure.Spent losses)) is = absurd is
thread_is (Some failure.NotEmpty) is = absurd is
thread_is (Some failure.Halted) is = absurd is

none_is : (a : Option Failure) → IsNone' a → a ≡ None
none_is None is = refl
none_is (Some x) is = absurd is

either_of : (P : Option Failure → Type 0) (c : Bool) (x y : Failure) → P (if c then Some x else Some y) → P (Some x) ⊎ P (Some y)
either_of P true x y p = inl p
either_of P false x y p = inr p

-- the one that counts is one of the two
one_of : (P : Option Failure → Type 0) (a b : Option Failure) → P (first_of a b) → P a ⊎ P b
one_of P None b p = inr p
one_of P (Some x) None p = inl p
one_of P (Some x) (Some y) p =
    elim (either_of P (nat_lt (rank y) (rank x)) y x p) [
      | inl q ↦ inr q
      | inr q ↦ inl q
    ]

-- where none counts there is none
none_first : (a b : Option Failure) → IsNone' (first_of a b) → IsNone' a × IsNone' b
none_first None b is = (tt, is)
none_first (Some x) None is = absurd is
none_first (Some x) (Some y) is =
    elim (either_of IsNone' (nat_lt (rank y) (rank x)) y x is) [
      | inl q ↦ absurd q
      | inr q ↦ absurd q
    ]

-- no failure but want of memory goes before one of a job that wasn't started
behind_thread : (y : Failure) → IsUnstarted (if nat_lt (rank y) 1 then Some y else Some failure.Thread)
behind_thread failure.Memory = tt
behind_thread failure.Thread = tt
behind_thread failure.Connection = tt
behind_thread failure.DonorDisk = tt
behind_thread failure.RecipientDisk = tt
behind_thread (failure.Garbled kept) = tt
behind_thread (failure.Refused cause) = tt
behind_thread (failure.Spent losses) = tt
behind_thread failure.NotEmpty = tt
behind_thread failure.Halted = tt

behind_memory : (y : Failure) → IsUnstarted (if nat_lt (rank y) 0 then Some y else Some failure.Memory)
behind_memory failure.Memory = tt
behind_memory failure.Thread = tt
behind_memory failure.Connection = tt
behind_memory failure.DonorDisk = tt
behind_memory failure.RecipientDisk = tt
behind_memory (failure.Garbled kept) = tt
behind_memory (failure.Refused cause) = tt
behind_memory (failure.Spent losses) = tt
behind_memory failure.NotEmpty = tt
behind_memory failure.Halted = tt

unstarted_first : (a b : Option Failure) → IsUnstarted a → IsUnstarted (first_of a b)
unstarted_first None b is = absurd is
unstarted_first (Some failure.Memory) None is = tt
unstarted_first (Some failure.Memory) (Some y) is = behind_memory y
unstarted_first (Some failure.Thread) None is = tt
unstarted_first (Some failure.Thread) (Some y) is = behind_thread y
unstarted_first (Some failure.Connection) b is = absurd is
unstarted_first (Some failure.DonorDisk) b is = absurd is
unstarted_first (Some failure.RecipientDisk) b is = absurd is
unstarted_first (Some (failure.Garbled kept)) b is = absurd is
unstarted_first (Some (failure.Refused cause)) b is = absurd is
unstarted_first (Some (failure.Spent losses)) b is = absurd is
unstarted_first (Some failure.NotEmpty) b is = absurd is
unstarted_first (Some failure.Halted) b is = absurd is

-- ---- no job's end tells of a thread

ending_not : (e : Ending) → IsThread (of_ending e) → ⊥
ending_not ending.Done is = is
ending_not ending.Halted is = is
ending_not ending.DiskFault is = is
ending_not ending.NoMemory is = is

writing_not : (e : Ending) → IsThread (of_writing e) → ⊥
writing_not ending.Done is = is
writing_not ending.Halted is = is
writing_not ending.DiskFault is = is
writing_not ending.NoMemory is = is

fetch_not : (e : FetchEnd) → IsThread (of_fetch e) → ⊥
fetch_not (fetch.Ended (ended.Complete lsn position floor)) is = is
fetch_not (fetch.Ended (ended.Spent losses)) is = is
fetch_not (fetch.Ended (ended.Garbled kept)) is = is
fetch_not (fetch.Ended (ended.Refused cause)) is = is
fetch_not (fetch.Ended ended.DiskFault) is = is
fetch_not fetch.NetFault is = is
fetch_not fetch.Halted is = is
fetch_not fetch.NoMemory is = is

-- a task that ended without a failure found the clone complete
completed_some : (e : FetchEnd) → IsNone' (of_fetch e) → IsSome (completed e)
completed_some (fetch.Ended (ended.Complete lsn position floor)) is = refl
completed_some (fetch.Ended (ended.Spent losses)) is = absurd is
completed_some (fetch.Ended (ended.Garbled kept)) is = absurd is
completed_some (fetch.Ended (ended.Refused cause)) is = absurd is
completed_some (fetch.Ended ended.DiskFault) is = absurd is
completed_some fetch.NetFault is = absurd is
completed_some fetch.Halted is = absurd is
completed_some fetch.NoMemory is = absurd is

-- ---- what comes of jobs, and of one more

module _ (o r : Outcome) (f : Option Failure) (is : r ≡ with_job o f) where
  failure_is : r.failure ≡ first_of o.failure f
  failure_is = ap (λ (x : Outcome). x.failure) is

  pub unstarted_with : (o.whole ≡ false → IsUnstarted o.failure) → r.whole ≡ false → IsUnstarted r.failure
  unstarted_with before part =
      subst IsUnstarted (sym failure_is) (unstarted_first o.failure f (before (sym (ap (λ (x : Outcome). x.whole) is) ∙ part)))

  pub cloned_with : (o.failure ≡ None → IsSome o.cloned) → r.failure ≡ None → IsSome r.cloned
  cloned_with before none =
      subst (λ (x : Outcome). IsSome x.cloned) (sym is)
      (before (none_is o.failure (none_first o.failure f (subst IsNone' failure_is (subst IsNone' (sym none) tt))).0))

  thread_with : (IsThread f → ⊥) → r.failure ≡ Some failure.Thread → o.failure ≡ Some failure.Thread
  thread_with not thread =
      elim (one_of IsThread o.failure f (subst IsThread failure_is (subst IsThread (sym thread) tt))) [
        | inl q ↦ thread_is o.failure q
        | inr q ↦ absurd (not q)
      ]

pub thread_ending : (o r : Outcome) (e : Ending) → r ≡ with_job o (of_ending e) → r.failure ≡ Some failure.Thread → o.failure ≡ Some failure.Thread
thread_ending o r e is = thread_with o r (of_ending e) is (ending_not e)

pub thread_writing : (o r : Outcome) (e : Ending) → r ≡ with_job o (of_writing e) → r.failure ≡ Some failure.Thread → o.failure ≡ Some failure.Thread
thread_writing o r e is = thread_with o r (of_writing e) is (writing_not e)

module _ (o r : Outcome) (e : FetchEnd) (is : r ≡ with_task o e) where
  task_failure_is : r.failure ≡ first_of o.failure (of_fetch e)
  task_failure_is = ap (λ (x : Outcome). x.failure) is

  pub unstarted_task : (o.whole ≡ false → IsUnstarted o.failure) → r.whole ≡ false → IsUnstarted r.failure
  unstarted_task before part =
      subst IsUnstarted (sym task_failure_is) (unstarted_first o.failure (of_fetch e) (before (sym (ap (λ (x : Outcome). x.whole) is) ∙ part)))

  pub cloned_task : r.failure ≡ None → IsSome r.cloned
  cloned_task none =
      subst (λ (x : Outcome). IsSome x.cloned) (sym is)
      (completed_some e (none_first o.failure (of_fetch e) (subst IsNone' task_failure_is (subst IsNone' (sym none) tt))).1)

  pub thread_task : r.failure ≡ Some failure.Thread → o.failure ≡ Some failure.Thread
  thread_task thread =
      elim (one_of IsThread o.failure (of_fetch e) (subst IsThread task_failure_is (subst IsThread (sym thread) tt))) [
        | inl q ↦ thread_is o.failure q
        | inr q ↦ absurd (fetch_not e q)
      ]

-- a count that rose since then rose since before
pub rose_from : (a b c : ℕ) → a ≤ b → Rose b c → Rose a c
rose_from a b c le rose = omega (arith, le, rose)

abbrev Holds : Bool → Type 0
Holds true = ⊤
Holds false = ⊥

pub never : (b : Bool) → b ≡ false → b ≡ true → ⊥
never b part whole = subst Holds part (subst Holds (sym whole) tt)

-- what isn't begun fails, and for no want of a thread
pub not_without : (f : Option Failure) (d t : Donor) (old new : DiskState) → Unbegun f d t old new → f ≡ None → ⊥
not_without f d t old new why none = subst (λ x. Unbegun x d t old new) none why

pub not_thread : (f : Option Failure) (d t : Donor) (old new : DiskState) → Unbegun f d t old new → f ≡ Some failure.Thread → ⊥
not_thread f d t old new why thread = subst (λ x. Unbegun x d t old new) thread why

-- The jobs of a run as the parts of its donor's run: those of writers, and the others.
use Rattle.std.proofs.Common.{◌≡◌, ◌≢◌, ◌∙◌, ◌++◌, ℕ, Bool, true, false, List, [], ◌∷◌, map, flat_map, Option, None, Some, if◌then◌else◌, refl, sym, ap, subst, append-nil}
use Rattle.std.specs.Prelude.{⊤, nat_lt}
use Rattle.std.specs.List.{AllByRecursion}
use Rattle.std.proofs.lemmas.List.{map-append}
use Rattle.std.proofs.lemmas.List.Concat.{flat_map-append}
use Rattle.clone_outside.specs.declared.link.Link.{Ghosts as Link}
use Rattle.clone_turn.proofs.EachLemmas.{each_append, each_left, each_right}
use Rattle.clone_machine.specs.Running.{JobEntry}
use Rattle.clone_machine.specs.declared.calls.JobAnswer.TheVariants as job_answer
use Rattle.clone_machine.specs.declared.calls.JobCall.TheVariants as job
use Rattle.clone_writer.specs.Writers.{Writer, asked, starting}
use Rattle.clone_jobs.specs.Said.{said_in}
use Rattle.clone_jobs.specs.Writing.{Writes}
use Rattle.clone_jobs.specs.Written.{AreApart, IsApart, IsPart, Other, Part, Written, made_by}
use Rattle.clone_jobs.specs.declared.ending.Ending.{Ending}
use Rattle.clone_jobs.specs.declared.ending.Ending.TheVariants as ending
use Rattle.clone_jobs.proofs.PartLemmas.{follows, upkeep_aside}
use Rattle.clone_run.specs.declared.failure.Failure.{Failure}
use Rattle.clone_run.specs.declared.load.Load.{Load}
use Rattle.clone_run.specs.declared.outcome.Outcome.{Outcome}
use Rattle.clone_run.specs.Done.{AreDone, Fetches, Job, Keeps, Serves, Writes', fetches, halts, keeps, nothing, serves, writes}
use Rattle.clone_run.specs.Outcomes.{first_of, of_ending, of_fetch, of_writing, rank}
use Rattle.clone_run.specs.Teams.{Parts}
use Rattle.clone_written.proofs.AsideLemmas.{AreAnswered, fetch_aside, one_aside, serving_aside}
use Rattle.clone_written.proofs.NumberLemmas.{AreDistinct, numbers_in, numbers_more}

-- the writer of a part, by its number
abbrev pub number_of : Part → List ℕ
number_of (Written w v made) = w.number ∷ []
number_of (Other made) = []

abbrev pub numbers_of : List Part → List ℕ
numbers_of parts = flat_map number_of parts

-- the writer is one of the load's, and had made nothing
abbrev pub IsOwn : Load → Part → Type 0
IsOwn load (Written w v made) = w ≡ starting load.seed w.number load.tables load.transactions
IsOwn load (Other made) = ⊤

-- it asks nothing more
abbrev pub IsWhole : Part → Type 0
IsWhole (Written w v made) = asked v ≡ None
IsWhole (Other made) = ⊤

-- ---- writers with different numbers are apart

pub apart_from : (w v : Writer) (made : List JobEntry) (parts : List Part) → AllByRecursion (λ n. w.number ≢ n) (numbers_of parts) → AllByRecursion (IsApart (Written w v made)) parts
apart_from w v made [] other = tt
apart_from w v made (Written x y more ∷ parts) other = (other.0, apart_from w v made parts other.1)
apart_from w v made (Other more ∷ parts) other = (tt, apart_from w v made parts other)

apart_aside : (made : List JobEntry) (parts : List Part) → AllByRecursion (IsApart (Other made)) parts
apart_aside made [] = tt
apart_aside made (Written x y more ∷ parts) = (tt, apart_aside made parts)
apart_aside made (Other more ∷ parts) = (tt, apart_aside made parts)

pub are_apart : (parts : List Part) → AreDistinct (numbers_of parts) → AreApart parts
are_apart [] distinct = tt
are_apart (Written w v made ∷ parts) distinct = (apart_from w v made parts distinct.0, are_apart parts distinct.1)
are_apart (Other made ∷ parts) distinct = (apart_aside made parts, are_apart parts distinct)

-- ---- the parts, job by job

-- WHAT JOBS DID, as parts. Where no failure came of them no writer asks more.
pub record Parted (load : Load) (jobs : List Job) (made : List (List JobEntry)) (failure : Option Failure) : Type 0 where
  pub parts : List Part
  pub made_is : map made_by parts ≡ made
  pub are : AllByRecursion IsPart parts
  pub own : AllByRecursion (IsOwn load) parts
  pub numbers : numbers_of parts ≡ numbers_in jobs
  pub whole : failure ≡ None → AllByRecursion IsWhole parts

-- one part more
parted_more : (load : Load) (jobs now : List Job) (made : List (List JobEntry)) (before after : Option Failure) (p : Part) → Parted load jobs made before → IsPart p → IsOwn load p → numbers_in now ≡ numbers_in jobs ++ (number_of p ++ [])
    → (after ≡ None → (before ≡ None) × IsWhole p) → Parted load now (made ++ made_by p ∷ []) after
parted_more load jobs now made before after p all is own numbers whole = record {
  parts = all.parts ++ p ∷ [];
  made_is = map-append made_by all.parts (p ∷ []) ∙ ap (λ ess. ess ++ made_by p ∷ []) all.made_is;
  are = each_append IsPart all.parts (p ∷ []) all.are (is, tt);
  own = each_append (IsOwn load) all.parts (p ∷ []) all.own (own, tt);
  numbers = flat_map-append number_of all.parts (p ∷ []) ∙ ap (λ ns. ns ++ (number_of p ++ [])) all.numbers ∙ sym numbers;
  whole = λ none. each_append IsWhole all.parts (p ∷ []) (all.whole (whole none).0) ((whole none).1, tt);
}

-- no failure came of two jobs where none came of either
none_first : (one other : Option Failure) → first_of one other ≡ None → (one ≡ None) × (other ≡ None)
none_first None other none = (refl, none)
none_first (Some one) None none = absurd cc
none_first (Some one) (Some other) none = by (nat_lt (rank other) (rank one)) none
  where
    by : (b : Bool) → (if b then Some other else Some one) ≡ None → (Some one ≡ None) × (Some other ≡ None)
    by true none = absurd cc
    by false none = absurd cc

-- a writer of which no failure came is done
written_whole : (end : Ending) (w v : Writer) (made : List JobEntry) → Writes end w (said_in made) v → of_writing end ≡ None → asked v ≡ None
written_whole ending.Done w v made is none = subst (λ (x : Writer). asked x ≡ None) (sym is.ends.2) is.ends.0
written_whole ending.Halted w v made is none = absurd cc
written_whole ending.DiskFault w v made is none = absurd cc
written_whole ending.NoMemory w v made is none = absurd cc

module _ {N L X R : Type 0} (link : Link L X) (load : Load) where
  pub parted : (jobs : List Job) (p : Parts N L R) (o : Outcome) → AreDone link load jobs p o → AllByRecursion AreAnswered p.donor → Parted load jobs p.donor o.failure
  parted js q r nothing answered = record { parts = []; made_is = refl; are = tt; own = tt; numbers = refl; whole = λ none. tt }
  parted js q r (halts jobs p o made done one) answered =
      parted_more load jobs jobs p.donor o.failure o.failure (Other made) (parted jobs p o done (each_left AreAnswered p.donor (made ∷ []) answered)) (one_aside made job.Halt job_answer.Halt one refl) tt (sym (append-nil (numbers_in jobs)))
      (λ none. (none, tt))
  parted js q r (serves jobs p o task end made asks served done is) answered =
      parted_more load jobs (jobs ++ Serves task ∷ []) p.donor o.failure (first_of o.failure (of_ending end)) (Other made) (parted jobs p o done (each_left AreAnswered p.donor (made ∷ []) answered))
      (serving_aside link task end made asks served is (each_right AreAnswered p.donor (made ∷ []) answered).0) tt (numbers_more jobs (Serves task)) (λ none. ((none_first o.failure (of_ending end) none).0, tt))
  parted js q r (keeps jobs p o work end made done is) answered =
      parted_more load jobs (jobs ++ Keeps work ∷ []) p.donor o.failure (first_of o.failure (of_ending end)) (Other made) (parted jobs p o done (each_left AreAnswered p.donor (made ∷ []) answered)) (upkeep_aside work end made is) tt (numbers_more jobs (Keeps work))
      (λ none. ((none_first o.failure (of_ending end) none).0, tt))
  parted js q r (writes jobs p o number end made w done is) answered =
      let from = starting load.seed number load.tables load.transactions in
      parted_more load jobs (jobs ++ Writes' number ∷ []) p.donor o.failure (first_of o.failure (of_writing end)) (Written from w made) (parted jobs p o done (each_left AreAnswered p.donor (made ∷ []) answered)) (follows end from w (said_in made) is) refl
      (numbers_more jobs (Writes' number)) (λ none. let both = none_first o.failure (of_writing end) none in (both.0, written_whole end from w made is both.1))
  parted js q r (fetches jobs p o task end stepped asks watched done is) answered =
      parted_more load jobs (jobs ++ Fetches task ∷ []) p.donor o.failure (first_of o.failure (of_fetch end)) (Other watched) (parted jobs p o done (each_left AreAnswered p.donor (watched ∷ []) answered)) (fetch_aside link task end stepped asks watched is) tt
      (numbers_more jobs (Fetches task)) (λ none. ((none_first o.failure (of_fetch end) none).0, tt))

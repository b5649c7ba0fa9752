-- What the jobs of a run did, as it is read: for each task what served it and what it took, and the
-- calls of all others.
use Rattle.std.proofs.Common.{◌≡◌, ◌≢◌, ◌∙◌, ℕ, List, [], ◌∷◌, ◌++◌, map, flat_map, refl, ap, sym, subst}
use Rattle.std.specs.List.{AllByRecursion}
use Rattle.std.specs.declared.option.Option.{Option}
use Rattle.clone_outside.specs.DiskCalls.{DiskState}
use Rattle.clone_outside.specs.declared.link.Link.{Ghosts as Link}
use Rattle.clone_turn.specs.Runs.{calls}
use Rattle.clone_turn.specs.Seats.{SeatModel}
use Rattle.clone_turn.specs.Worked.{Makes}
use Rattle.clone_turn.proofs.EachLemmas.{each_left, each_right}
use Rattle.clone_turn.proofs.WorkedLemmas.{makes_calls}
use Rattle.clone_runs.specs.Marks.{NoneIn, either}
use Rattle.clone_machine.specs.Running.{JobEntry}
use Rattle.clone_machine.specs.Watching.{position_of}
use Rattle.clone_machine.specs.declared.calls.JobAnswer.TheVariants as answer
use Rattle.clone_machine.specs.declared.calls.JobCall.TheVariants as call
use Rattle.clone_links.specs.Calling.{IsOneCall, JobSeat}
use Rattle.clone_desk.specs.Steps.{DeskEntry}
use Rattle.clone_copying.specs.Calls.{FetcherModel, RecipientEntry, RecipientSeat}
use Rattle.clone_copying.specs.Connecting.{Connects, DeskSeat}
use Rattle.clone_copying.specs.Fetching.{Fetches}
use Rattle.clone_copying.specs.Watching.{HasLooked}
use Rattle.clone_copying.specs.declared.fetch_end.FetchEnd.{FetchEnd}
use Rattle.clone_writer.specs.Writers.{Writer}
use Rattle.clone_jobs.specs.Said.{said_in}
use Rattle.clone_jobs.specs.Upkeep.{IsUpkeep}
use Rattle.clone_jobs.specs.Writing.{Writes}
use Rattle.clone_jobs.specs.declared.ending.Ending.{Ending}
use Rattle.clone_jobs.specs.declared.upkeep.Upkeep.{Upkeep}
use Rattle.clone_task_jobs.specs.Fetching.{FetchesTask}
use Rattle.clone_task_jobs.specs.Serving.{IsServing, Service}
use Rattle.clone_reading.specs.Lending.{Lent}
use Rattle.clone_reading.specs.Passing.{AnswersTask, TakesTask}
use Rattle.clone_reading.specs.Reading.{is_exit, is_init, puts_in}
use Rattle.clone_taking.specs.Taking.{IsStepOf}
use Rattle.clone_answering.specs.Answering.{ServesNothing, lent_of}
use Rattle.clone_run.specs.declared.load.Load.{Load}
use Rattle.clone_run.specs.declared.outcome.Outcome.{Outcome}
use Rattle.clone_run.specs.Done.{AreDone, IsFetch, Job, Keeps, Serves, Fetches as FetchJob, Writes' as WriteJob, nothing, halts, serves, keeps, writes, fetches}
use Rattle.clone_run.specs.Teams.{Parts, with_donor, with_fetched, with_served}
use Rattle.clone_loaded.proofs.NumberLemmas.{fetched_by, in_one, served_by, tasks_in}
use Rattle.clone_loaded.proofs.PartLemmas.{Regroups, regroups_more, regroups_none, regroups_trans, regroups_within}

-- the same calls by the same seat are one list
one_made : {S C A : Type 0} (v w : SeatModel S C A) (xs ys : List _) → Makes v xs w → Makes v ys w → xs ≡ ys
one_made v w xs ys a b = cancel (calls v.seen) xs ys (sym (makes_calls v w xs a) ∙ makes_calls v w ys b)
  where
    cancel : {X : Type 0} (zs xs ys : List X) → zs ++ xs ≡ zs ++ ys → xs ≡ ys
    cancel [] xs ys same = same
    cancel (z ∷ zs) xs ys same = cancel zs xs ys cc

module _ (N : Type 0) {L X R : Type 0} (link : Link L X) (state : R → DiskState) (number : ℕ) where
  -- the calls of a job that serves a task
  pub record ServePart : Type 0 where
    pub task : ℕ
    pub made : List JobEntry
    pub asked : List (DeskEntry N L)
    pub lent : List (Lent L)
    pub does : AnswersTask link number task made asked lent

  -- and of one that fetches for it
  pub record FetchPart : Type 0 where
    pub task : ℕ
    pub stepped : List (RecipientEntry R)
    pub asked : List (DeskEntry N L)
    pub lent : List (Lent L)
    pub does : TakesTask link task stepped asked lent
    pub alone : task ≢ 0 → NoneIn (either is_init is_exit) (flat_map puts_in stepped)

  -- the calls for each task, and those of the others
  pub record Collected (jobs : List Job) (p : Parts N L R) : Type 0 where
    pub serves_of : List ServePart
    pub fetches_of : List FetchPart
    pub asides : List (List JobEntry)
    pub quiet : AllByRecursion (ServesNothing number) asides
    pub donor : Regroups p.donor (map (λ (s : ServePart). s.made) serves_of ++ asides)
    pub recipient : Regroups p.recipient (map (λ (f : FetchPart). f.stepped) fetches_of)
    pub desk : Regroups p.desk (map (λ (f : FetchPart). f.asked) fetches_of ++ map (λ (s : ServePart). s.asked) serves_of)
    pub served : map (λ (s : ServePart). s.task) serves_of ≡ tasks_in served_by jobs
    pub fetched : map (λ (f : FetchPart). f.task) fetches_of ≡ tasks_in fetched_by jobs

  -- the calls of a job that serves nothing
  aside_more : (jobs more : List Job) (p : Parts N L R) (made : List JobEntry) → Collected jobs p → ServesNothing number made → tasks_in served_by more ≡ tasks_in served_by jobs → tasks_in fetched_by more ≡ tasks_in fetched_by jobs → Collected more (with_donor p made)
  aside_more jobs more p made c quiet no_serve no_fetch =
      let mine = map (λ (s : ServePart). s.made) c.serves_of in
      record {
        serves_of = c.serves_of;
        fetches_of = c.fetches_of;
        asides = made ∷ c.asides;
        quiet = (quiet, c.quiet);
        donor = regroups_trans (p.donor ++ made ∷ []) (made ∷ mine ++ c.asides) (mine ++ made ∷ c.asides) (regroups_more p.donor (mine ++ c.asides) made c.donor) (regroups_within mine c.asides made);
        recipient = c.recipient;
        desk = c.desk;
        served = c.served ∙ sym no_serve;
        fetched = c.fetched ∙ sym no_fetch;
      }

  serve_more : (jobs more : List Job) (p : Parts N L R) (s : ServePart) → Collected jobs p → tasks_in served_by more ≡ s.task ∷ tasks_in served_by jobs → tasks_in fetched_by more ≡ tasks_in fetched_by jobs → Collected more (with_served p s.made s.asked)
  serve_more jobs more p s c own no_fetch =
      let fs = map (λ (f : FetchPart). f.asked) c.fetches_of in
      let ss = map (λ (x : ServePart). x.asked) c.serves_of in
      record {
        serves_of = s ∷ c.serves_of;
        fetches_of = c.fetches_of;
        asides = c.asides;
        quiet = c.quiet;
        donor = regroups_more p.donor (map (λ (x : ServePart). x.made) c.serves_of ++ c.asides) s.made c.donor;
        recipient = c.recipient;
        desk = regroups_trans (p.desk ++ s.asked ∷ []) (s.asked ∷ fs ++ ss) (fs ++ s.asked ∷ ss) (regroups_more p.desk (fs ++ ss) s.asked c.desk) (regroups_within fs ss s.asked);
        served = ap (λ ts. s.task ∷ ts) c.served ∙ sym own;
        fetched = c.fetched ∙ sym no_fetch;
      }

  fetch_more : (jobs more : List Job) (p : Parts N L R) (f : FetchPart) (watched : List JobEntry) → Collected jobs p → ServesNothing number watched → tasks_in served_by more ≡ tasks_in served_by jobs → tasks_in fetched_by more ≡ f.task ∷ tasks_in fetched_by jobs
      → Collected more (with_fetched p f.stepped f.asked watched)
  fetch_more jobs more p f watched c quiet no_serve own =
      let mine = map (λ (s : ServePart). s.made) c.serves_of in
      record {
        serves_of = c.serves_of;
        fetches_of = f ∷ c.fetches_of;
        asides = watched ∷ c.asides;
        quiet = (quiet, c.quiet);
        donor = regroups_trans (p.donor ++ watched ∷ []) (watched ∷ mine ++ c.asides) (mine ++ watched ∷ c.asides) (regroups_more p.donor (mine ++ c.asides) watched c.donor) (regroups_within mine c.asides watched);
        recipient = regroups_more p.recipient (map (λ (x : FetchPart). x.stepped) c.fetches_of) f.stepped c.recipient;
        desk = regroups_more p.desk (map (λ (x : FetchPart). x.asked) c.fetches_of ++ map (λ (x : ServePart). x.asked) c.serves_of) f.asked c.desk;
        served = c.served ∙ sym no_serve;
        fetched = ap (λ ts. f.task ∷ ts) c.fetched ∙ sym own;
      }

  -- What is known of each kind of job.
  pub record Known : Type 0 where
    pub serving : (task : ℕ) (why : Ending) (made : List JobEntry) (asked : List (DeskEntry N L)) (served : List (Service L)) → IsServing link task why made asked served → AnswersTask link number task made asked (lent_of served)
    pub writer : (end : Ending) (w v : Writer) (made : List JobEntry) → Writes end w (said_in made) v → ServesNothing number made
    pub upkeep : (work : Upkeep) (end : Ending) (made : List JobEntry) → IsUpkeep work end (said_in made) → ServesNothing number made
    pub watch : (f : FetcherModel R) (seat : RecipientSeat R) (desk_old desk_new : DeskSeat N L) (watch_old watch_new : JobSeat) (end : FetchEnd) (watched : List JobEntry) → FetchesTask link f seat desk_old desk_new watch_old watch_new end
        → Makes watch_old watched watch_new → ServesNothing number watched
    pub halt : (made : List JobEntry) → IsOneCall call.Halt answer.Halt made → ServesNothing number made
    pub taking : (watch : JobSeat) (task : ℕ) (core left : Option ℕ) (ends : List (L × L)) (asked : List (DeskEntry N L)) (stepped : List (RecipientEntry R)) → Connects task ends asked
        → Fetches link task (HasLooked call.Look position_of watch) core ends stepped left → AllByRecursion (IsStepOf state) stepped → (lent : List (Lent L)) × TakesTask link task stepped asked lent
    pub alone : (watch : JobSeat) (task : ℕ) (core left : Option ℕ) (ends : List (L × L)) (stepped : List (RecipientEntry R)) → task ≢ 0
        → Fetches link task (HasLooked call.Look position_of watch) core ends stepped left → AllByRecursion (IsStepOf state) stepped → NoneIn (either is_init is_exit) (flat_map puts_in stepped)

  module _ (known : Known) where
    -- what a job that fetches did
    fetch_part : (task : ℕ) (end : FetchEnd) (stepped : List (RecipientEntry R)) (asked : List (DeskEntry N L)) (watched : List JobEntry) → IsFetch link task end stepped asked watched → AllByRecursion (IsStepOf state) stepped
        → (lent : List (Lent L)) × TakesTask link task stepped asked lent × (task ≢ 0 → NoneIn (either is_init is_exit) (flat_map puts_in stepped))
    fetch_part task end stepped asked watched is steps =
        let f = is.fetcher in
        let d = is.does in
        let task_is : f.task ≡ task = ap (λ (x : FetcherModel R). x.task) is.new in
        let asks : d.desk.0 ≡ asked = one_made is.desk_old is.desk_new d.desk.0 asked d.desk.1 is.asks in
        let made : d.fetches.0 ≡ stepped = one_made f.seat is.seat d.fetches.0 stepped d.fetches.1 is.steps in
        let connects : Connects task d.ends asked = subst (λ t. Connects t d.ends asked) task_is (subst (Connects f.task d.ends) asks d.desk.2) in
        let fetches : Fetches link task (HasLooked call.Look position_of d.looked) f.core d.ends stepped d.core =
        subst (λ t. Fetches link t (HasLooked call.Look position_of d.looked) f.core d.ends stepped d.core) task_is
        (subst (λ xs. Fetches link f.task (HasLooked call.Look position_of d.looked) f.core d.ends xs d.core) made d.fetches.2.0) in
        let takes = known.taking d.looked task f.core d.core d.ends asked stepped connects fetches steps in (
          takes.0,
          takes.1,
          λ other. known.alone d.looked task f.core d.core d.ends stepped other fetches steps,
        )

    pub collected : (load : Load) (jobs : List Job) (p : Parts N L R) (o : Outcome) → AreDone link load jobs p o → AllByRecursion (AllByRecursion (IsStepOf state)) p.recipient → Collected jobs p
    collected load js q r nothing steps = record {
      serves_of = [];
      fetches_of = [];
      asides = [];
      quiet = tt;
      donor = regroups_none;
      recipient = regroups_none;
      desk = regroups_none;
      served = refl;
      fetched = refl;
    }
    collected load js q r (halts jobs p o made done one) steps = aside_more jobs jobs p made (collected load jobs p o done steps) (known.halt made one) refl refl
    collected load js q r (serves jobs p o task end made asked served done is) steps =
        serve_more jobs (jobs ++ Serves task ∷ []) p (record { task = task; made = made; asked = asked; lent = lent_of served; does = known.serving task end made asked served is }) (collected load jobs p o done steps)
        (in_one served_by jobs (Serves task)) (in_one fetched_by jobs (Serves task))
    collected load js q r (keeps jobs p o work end made done is) steps =
        aside_more jobs (jobs ++ Keeps work ∷ []) p made (collected load jobs p o done steps) (known.upkeep work end made is) (in_one served_by jobs (Keeps work)) (in_one fetched_by jobs (Keeps work))
    collected load js q r (writes jobs p o n end made w done is) steps =
        aside_more jobs (jobs ++ WriteJob n ∷ []) p made (collected load jobs p o done steps) (known.writer end _ w made is) (in_one served_by jobs (WriteJob n)) (in_one fetched_by jobs (WriteJob n))
    collected load js q r (fetches jobs p o task end stepped asked watched done is) steps =
        let f = fetch_part task end stepped asked watched is (each_right (AllByRecursion (IsStepOf state)) p.recipient (stepped ∷ []) steps).0 in
        let before = collected load jobs p o done (each_left (AllByRecursion (IsStepOf state)) p.recipient (stepped ∷ []) steps) in
        let own : FetchPart = record { task = task; stepped = stepped; asked = asked; lent = f.0; does = f.1; alone = f.2 } in
        fetch_more jobs (jobs ++ FetchJob task ∷ []) p own watched before (known.watch is.fetcher is.seat is.desk_old is.desk_new is.watch_old is.watch_new end watched is.does is.watches)
        (in_one served_by jobs (FetchJob task)) (in_one fetched_by jobs (FetchJob task))

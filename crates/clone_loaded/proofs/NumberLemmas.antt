-- Which tasks the jobs of a run are of.
use Rattle.std.proofs.Common.{◌≡◌, ◌∙◌, ◌+◌, ◌-◌, ℕ, zero, suc, List, [], ◌∷◌, ◌++◌, refl, ap, append_assoc}
use Rattle.std.proofs.lemmas.List.{append-nil}
use Rattle.clone_run.specs.declared.load.Load.{Load}
use Rattle.clone_run.specs.Done.{Job, Fetches, Keeps, Serves, Writes', fetched_from, kept_up_from, last_first, served_from, upkeep_from, written_from}

abbrev pub served_by : Job → List ℕ
served_by (Serves task) = task ∷ []
served_by (Keeps work) = []
served_by (Writes' number) = []
served_by (Fetches task) = []

abbrev pub fetched_by : Job → List ℕ
fetched_by (Serves task) = []
fetched_by (Keeps work) = []
fetched_by (Writes' number) = []
fetched_by (Fetches task) = task ∷ []

-- the numbers of the jobs, those of the last job first
module _ (own : Job → List ℕ) where
  abbrev pub tasks_in : List Job → List ℕ
  tasks_in [] = []
  tasks_in (job ∷ jobs) = tasks_in jobs ++ own job

  pub in_more : (jobs more : List Job) → tasks_in (jobs ++ more) ≡ tasks_in more ++ tasks_in jobs
  in_more [] more = symmetric (append-nil (tasks_in more))
    where
      symmetric : {xs ys : List ℕ} → xs ≡ ys → ys ≡ xs
      symmetric is = cc
  in_more (job ∷ jobs) more = ap (λ ts. ts ++ own job) (in_more jobs more) ∙ append_assoc (tasks_in more) (tasks_in jobs) (own job)

  pub in_one : (jobs : List Job) (job : Job) → tasks_in (jobs ++ job ∷ []) ≡ own job ++ tasks_in jobs
  in_one jobs job = in_more jobs (job ∷ [])

  -- of jobs that have none
  none_last : (job : ℕ → Job) → ((n : ℕ) → own (job n) ≡ []) → (n first : ℕ) → tasks_in (last_first job n first) ≡ []
  none_last job none zero first = refl
  none_last job none (suc n) first = in_one (last_first job n (first + 1)) (job first) ∙ (ap (λ ts. ts ++ tasks_in (last_first job n (first + 1))) (none first) ∙ none_last job none n (first + 1))

-- so many numbers from this one on
abbrev pub numbered : ℕ → ℕ → List ℕ
numbered zero first = []
numbered (suc n) first = first ∷ numbered n (first + 1)

all_last : (own : Job → List ℕ) (job : ℕ → Job) → ((n : ℕ) → own (job n) ≡ n ∷ []) → (n first : ℕ) → tasks_in own (last_first job n first) ≡ numbered n first
all_last own job one zero first = refl
all_last own job one (suc n) first = in_one own (last_first job n (first + 1)) (job first) ∙ (ap (λ ts. ts ++ tasks_in own (last_first job n (first + 1))) (one first) ∙ ap (λ ts. first ∷ ts) (all_last own job one n (first + 1)))

module _ (load : Load) where
  -- of all jobs of a run
  pub all_served : tasks_in served_by (served_from load 0) ≡ numbered (load.tasks - 0) 0
  all_served =
      let own = served_by in
      let fetched : tasks_in own (fetched_from load 0) ≡ [] = none_last own Fetches (λ n. refl) (load.tasks - 0) 0 in
      let wrote : tasks_in own (last_first Writes' (load.writers - 0) 0) ≡ [] = none_last own Writes' (λ n. refl) (load.writers - 0) 0 in
      let written : tasks_in own (written_from load 0) ≡ [] = in_more own (fetched_from load 0) (last_first Writes' (load.writers - 0) 0) ∙ (ap (λ ts. ts ++ tasks_in own (fetched_from load 0)) wrote ∙ fetched) in
      let kept : tasks_in own (kept_up_from load 0) ≡ [] = in_more own (written_from load 0) (upkeep_from 0) ∙ written in
      in_more own (kept_up_from load 0) (last_first Serves (load.tasks - 0) 0)
      ∙ (ap (λ ts. tasks_in own (last_first Serves (load.tasks - 0) 0) ++ ts) kept ∙ (append-nil (tasks_in own (last_first Serves (load.tasks - 0) 0)) ∙ all_last own Serves (λ n. refl) (load.tasks - 0) 0))

  pub all_fetched : tasks_in fetched_by (served_from load 0) ≡ numbered (load.tasks - 0) 0
  all_fetched =
      let own = fetched_by in
      let serving : tasks_in own (last_first Serves (load.tasks - 0) 0) ≡ [] = none_last own Serves (λ n. refl) (load.tasks - 0) 0 in
      let wrote : tasks_in own (last_first Writes' (load.writers - 0) 0) ≡ [] = none_last own Writes' (λ n. refl) (load.writers - 0) 0 in
      let written : tasks_in own (written_from load 0) ≡ tasks_in own (fetched_from load 0) = in_more own (fetched_from load 0) (last_first Writes' (load.writers - 0) 0) ∙ ap (λ ts. ts ++ tasks_in own (fetched_from load 0)) wrote in
      let kept : tasks_in own (kept_up_from load 0) ≡ tasks_in own (fetched_from load 0) = in_more own (written_from load 0) (upkeep_from 0) ∙ written in
      in_more own (kept_up_from load 0) (last_first Serves (load.tasks - 0) 0)
      ∙ (ap (λ ts. ts ++ tasks_in own (kept_up_from load 0)) serving ∙ (kept ∙ all_last own Fetches (λ n. refl) (load.tasks - 0) 0))

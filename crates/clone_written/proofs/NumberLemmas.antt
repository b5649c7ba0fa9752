-- The numbers of the writers among jobs: those below the load's count, each once, the last first.
use Rattle.std.proofs.Common.{◌≡◌, ◌≢◌, ◌∙◌, ◌⊎◌, ◌≤◌, ◌<◌, ◌+◌, ◌-◌, ◌++◌, ℕ, zero, suc, List, [], ◌∷◌, flat_map, refl, sym, ap, subst, inl, inr, arith, append-nil}
use Rattle.std.specs.Prelude.{⊤}
use Rattle.std.specs.List.{AllByRecursion}
use Rattle.std.proofs.lemmas.Bool.{cases_eq}
use Rattle.std.proofs.lemmas.List.Concat.{flat_map-append}
use Rattle.clone_turn.proofs.EachLemmas.{each_append, each_left, each_map, each_right}
use Rattle.clone_run.specs.declared.load.Load.{Load}
use Rattle.clone_run.specs.Done.{Fetches, Job, Serves, Writes', fetched_from, kept_up_from, last_first, served_from, upkeep_from, written_from}

-- the number of a writer, if the job is one's
abbrev pub number_in : Job → List ℕ
number_in (Writes' number) = number ∷ []
number_in other = []

abbrev pub numbers_in : List Job → List ℕ
numbers_in jobs = flat_map number_in jobs

-- so many from this one on, the last first
abbrev pub last_numbers : ℕ → ℕ → List ℕ
last_numbers zero first = []
last_numbers (suc n) first = last_numbers n (first + 1) ++ first ∷ []

-- each is there once
abbrev pub AreDistinct : List ℕ → Type 0
AreDistinct [] = ⊤
AreDistinct (n ∷ ns) = AllByRecursion (λ m. n ≢ m) ns × AreDistinct ns

-- ---- the numbers among the jobs of a run

pub numbers_more : (jobs : List Job) (job : Job) → numbers_in (jobs ++ job ∷ []) ≡ numbers_in jobs ++ (number_in job ++ [])
numbers_more jobs job = flat_map-append number_in jobs (job ∷ [])

none_among : (job : ℕ → Job) → ((n : ℕ) → number_in (job n) ≡ []) → (n first : ℕ) → numbers_in (last_first job n first) ≡ []
none_among job none zero first = refl
none_among job none (suc n) first =
    numbers_more (last_first job n (first + 1)) (job first) ∙ ap (λ ns. ns ++ (number_in (job first) ++ [])) (none_among job none n (first + 1)) ∙ ap (λ ns. ns ++ []) (none first)

of_writers : (n first : ℕ) → numbers_in (last_first Writes' n first) ≡ last_numbers n first
of_writers zero first = refl
of_writers (suc n) first = numbers_more (last_first Writes' n (first + 1)) (Writes' first) ∙ ap (λ ns. ns ++ first ∷ []) (of_writers n (first + 1))

without_last : (xs ys : List Job) → numbers_in ys ≡ [] → numbers_in (xs ++ ys) ≡ numbers_in xs
without_last xs ys none = flat_map-append number_in xs ys ∙ ap (λ ns. numbers_in xs ++ ns) none ∙ append-nil (numbers_in xs)

without_first : (xs ys : List Job) → numbers_in xs ≡ [] → numbers_in (xs ++ ys) ≡ numbers_in ys
without_first xs ys none = flat_map-append number_in xs ys ∙ ap (λ ns. ns ++ numbers_in ys) none

pub numbers_of_run : (load : Load) → numbers_in (served_from load 0) ≡ last_numbers load.writers 0
numbers_of_run load =
    let all : load.writers - 0 ≡ load.writers = omega arith in
    without_last (kept_up_from load 0) (last_first Serves (load.tasks - 0) 0) (none_among Serves (λ n. refl) (load.tasks - 0) 0)
    ∙ without_last (written_from load 0) (upkeep_from 0) refl
    ∙ without_first (fetched_from load 0) (last_first Writes' (load.writers - 0) 0) (none_among Fetches (λ n. refl) (load.tasks - 0) 0)
    ∙ of_writers (load.writers - 0) 0
    ∙ ap (λ n. last_numbers n 0) all

-- ---- numbers from one on

pub numbers_within : (n first : ℕ) → AllByRecursion (λ k. (first ≤ k) × (k < first + n)) (last_numbers n first)
numbers_within zero first = tt
numbers_within (suc n) first =
    each_append (λ k. (first ≤ k) × (k < first + suc n)) (last_numbers n (first + 1)) (first ∷ [])
    (each_map (λ k. (first + 1 ≤ k) × (k < first + 1 + n)) (λ k. (first ≤ k) × (k < first + suc n)) (λ k low. (omega (arith, low.0), omega (arith, low.1))) (last_numbers n (first + 1)) (numbers_within n (first + 1)))
    ((omega arith, omega arith), tt)

distinct_more : (ns : List ℕ) (n : ℕ) → AreDistinct ns → AllByRecursion (λ m. m ≢ n) ns → AreDistinct (ns ++ n ∷ [])
distinct_more [] n distinct other = (tt, tt)
distinct_more (m ∷ ns) n distinct other = (each_append (λ k. m ≢ k) ns (n ∷ []) distinct.0 (other.0, tt), distinct_more ns n distinct.1 other.1)

pub numbers_distinct : (n first : ℕ) → AreDistinct (last_numbers n first)
numbers_distinct zero first = tt
numbers_distinct (suc n) first =
    distinct_more (last_numbers n (first + 1)) first (numbers_distinct n (first + 1))
    (each_map (λ k. (first + 1 ≤ k) × (k < first + 1 + n)) (λ k. k ≢ first) (λ k low same. omega (arith, low.0, same)) (last_numbers n (first + 1)) (numbers_within n (first + 1)))

-- what holds of each holds of every number from the first on
pub at_number : (P : ℕ → Type 0) (n first : ℕ) → AllByRecursion P (last_numbers n first) → (k : ℕ) → first ≤ k → k < first + n → P k
at_number P zero first all k low high = absurd (omega (arith, low, high))
at_number P (suc n) first all k low high =
    by (cases_eq k first) (λ other. at_number P n (first + 1) (each_left P (last_numbers n (first + 1)) (first ∷ []) all) k (omega (arith, low, other)) (omega (arith, high)))
  where
    by : (k ≡ first) ⊎ (k ≡ first → ⊥) → ((k ≡ first → ⊥) → P k) → P k
    by (inl same) later = subst P (sym same) (each_right P (last_numbers n (first + 1)) (first ∷ []) all).0
    by (inr other) later = later other

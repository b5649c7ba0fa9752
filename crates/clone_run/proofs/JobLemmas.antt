-- The jobs of a run from one on: the others, and then this one.
use Rattle.std.proofs.Common.{ℕ, zero, suc, ◌≡◌, ◌∙◌, ◌<◌, ◌≤◌, ◌+◌, ◌-◌, [], ◌∷◌, ◌++◌, refl, ap, sym, arith, append_assoc}
use Rattle.std.specs.Prelude.{get_or}
use Rattle.std.proofs.lemmas.List.{append-nil}
use Rattle.clone_jobs.specs.declared.upkeep.Upkeep.{Upkeep}
use Rattle.clone_jobs.specs.declared.upkeep.Upkeep.TheVariants as upkeep
use Rattle.clone_run.specs.declared.load.Load.{Load}
use Rattle.clone_run.specs.declared.running.TheConstants.{UPKEEP}
use Rattle.clone_run.specs.Done.{Job, Serves, Keeps, Writes', fetched_from, kept_up_from, last_first, served_from, upkeep_from, written_from}

next_of : (m n : ℕ) → m < n → n - m ≡ suc (n - (m + 1))
next_of m n less = omega arith

none_of : (m n : ℕ) → n ≤ m → n - m ≡ 0
none_of m n all = omega arith

pub last_next : (job : ℕ → Job) (m n : ℕ) → m < n → last_first job (n - m) m ≡ last_first job (n - (m + 1)) (m + 1) ++ job m ∷ []
last_next job m n less = ap (λ k. last_first job k m) (next_of m n less)

pub last_none : (job : ℕ → Job) (m n : ℕ) → n ≤ m → last_first job (n - m) m ≡ []
last_none job m n all = ap (λ k. last_first job k m) (none_of m n all)

pub written_next : (load : Load) (m : ℕ) → m < load.writers → written_from load m ≡ written_from load (m + 1) ++ Writes' m ∷ []
written_next load m less =
    ap (λ xs. fetched_from load 0 ++ xs) (last_next Writes' m load.writers less) ∙ sym (append_assoc (fetched_from load 0) (last_first Writes' (load.writers - (m + 1)) (m + 1)) (Writes' m ∷ []))

pub served_next : (load : Load) (m : ℕ) → m < load.tasks → served_from load m ≡ served_from load (m + 1) ++ Serves m ∷ []
served_next load m less =
    ap (λ xs. kept_up_from load 0 ++ xs) (last_next Serves m load.tasks less) ∙ sym (append_assoc (kept_up_from load 0) (last_first Serves (load.tasks - (m + 1)) (m + 1)) (Serves m ∷ []))

pub kept_next : (load : Load) (m : ℕ) (work : Upkeep) → upkeep_from m ≡ upkeep_from (m + 1) ++ Keeps work ∷ [] → kept_up_from load m ≡ kept_up_from load (m + 1) ++ Keeps work ∷ []
kept_next load m work is = ap (λ xs. written_from load 0 ++ xs) is ∙ sym (append_assoc (written_from load 0) (upkeep_from (m + 1)) (Keeps work ∷ []))

pub written_none : (load : Load) (m : ℕ) → load.writers ≤ m → written_from load m ≡ fetched_from load 0
written_none load m all = ap (λ xs. fetched_from load 0 ++ xs) (last_none Writes' m load.writers all) ∙ append-nil (fetched_from load 0)

pub served_none : (load : Load) (m : ℕ) → load.tasks ≤ m → served_from load m ≡ kept_up_from load 0
served_none load m all = ap (λ xs. kept_up_from load 0 ++ xs) (last_none Serves m load.tasks all) ∙ append-nil (kept_up_from load 0)

pub kept_none : (load : Load) (m : ℕ) → upkeep_from m ≡ [] → kept_up_from load m ≡ written_from load 0
kept_none load m none = ap (λ xs. written_from load 0 ++ xs) none ∙ append-nil (written_from load 0)

-- ---- what keeps the donor going

pub upkeep_next : (n : ℕ) (work : Upkeep) → n < 3 → work ≡ get_or UPKEEP n work → upkeep_from n ≡ upkeep_from (n + 1) ++ Keeps work ∷ []
upkeep_next zero work less is = ap (λ w. Keeps upkeep.Archiver ∷ Keeps upkeep.Checkpointer ∷ Keeps w ∷ []) (sym is)
upkeep_next (suc zero) work less is = ap (λ w. Keeps upkeep.Archiver ∷ Keeps w ∷ []) (sym is)
upkeep_next (suc (suc zero)) work less is = ap (λ w. Keeps w ∷ []) (sym is)
upkeep_next (suc (suc (suc n))) work less is = absurd (no n less)
  where
    no : (n : ℕ) → suc (suc (suc n)) < 3 → ⊥
    no n less = omega arith

pub upkeep_none : (n : ℕ) → 3 ≤ n → upkeep_from n ≡ []
upkeep_none zero all = absurd (no all)
  where
    no : 3 ≤ 0 → ⊥
    no all = omega arith
upkeep_none (suc zero) all = absurd (no all)
  where
    no : 3 ≤ 1 → ⊥
    no all = omega arith
upkeep_none (suc (suc zero)) all = absurd (no all)
  where
    no : 3 ≤ 2 → ⊥
    no all = omega arith
upkeep_none (suc (suc (suc n))) all = refl

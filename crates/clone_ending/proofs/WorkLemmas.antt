-- One table has less to do than another: in its stages, in its stage, or because its clone has ended.
use Rattle.std.proofs.Common.{ℕ, ◌≡◌, ◌+◌, ◌*◌, ◌<◌, ◌≤◌, true, false, List, [], ◌∷◌, length, get_or, set, map, refl, ap, arith, inl, inr}
use Rattle.std.specs.List.{sum_by}
use Rattle.std.proofs.Math.Nat.{mul-le-mul_right}
use Rattle.std.proofs.lemmas.Bool.{cases_Bool, both_ways, cases_lt}
use Rattle.std.proofs.lemmas.List.{get_or_past}
use Rattle.std.proofs.lemmas.List.Elements.{All-from_get_or}
use Rattle.std.proofs.lemmas.List.Sums.{sum_by-cons, sum_by-le, sum_by-set}
use Rattle.clone_tasks.specs.declared.standing.Phase.{Phase}
use Rattle.clone_tasks.specs.declared.standing.Phase.TheVariants.{Opening, Copying, Done}
use Rattle.clone_tasks.specs.declared.standing.Standing.{Standing}
use Rattle.clone_tasks.specs.declared.standing.Standing.TheVariants.{Apart, Joining, Ready, Fetching, Served, Acknowledging}
use Rattle.clone_tasks.specs.Tables.{IsBounded, Table, is_apart, is_running, renewed}
use Rattle.clone_ending.specs.Left.{a_stage, answer_left, left_in, rounds_left, stage_left, work_left}
use Rattle.clone_ending.proofs.BlockLemmas.{untaken_most}

-- ---- where each task stands

left_most : (phase : Phase) (s : Standing) → left_in phase s ≤ 5
left_most Opening Apart = omega arith
left_most Opening Joining = omega arith
left_most Opening Ready = omega arith
left_most Opening Fetching = omega arith
left_most Opening Served = omega arith
left_most Opening Acknowledging = omega arith
left_most (Copying stage) Apart = omega arith
left_most (Copying stage) Joining = omega arith
left_most (Copying stage) Ready = omega arith
left_most (Copying stage) Fetching = omega arith
left_most (Copying stage) Served = omega arith
left_most (Copying stage) Acknowledging = omega arith
left_most Done Apart = omega arith
left_most Done Joining = omega arith
left_most Done Ready = omega arith
left_most Done Fetching = omega arith
left_most Done Served = omega arith
left_most Done Acknowledging = omega arith

standings_most : (phase : Phase) (xs : List Standing) → sum_by (left_in phase) xs ≤ length xs * 5
standings_most phase xs = sum_by-le (left_in phase) 5 xs (All-from_get_or (λ s. left_in phase s ≤ 5) xs Apart (λ i within. left_most phase (get_or xs i Apart)))

pub set_less : (f : Standing → ℕ) (xs : List Standing) (task : ℕ) (new : Standing) → task < length xs → f new < f (get_or xs task Apart) → sum_by f (set xs task new) < sum_by f xs
set_less f xs task new within less = omega (arith, less, sum_by-set f xs task new Apart within)

-- a task that doesn't stand apart is there
pub is_there : (xs : List Standing) (task : ℕ) → is_apart (get_or xs task Apart) ≡ false → task < length xs
is_there xs task stands =
    elim (cases_lt task (length xs)) [
      | inl less ↦ less
      | inr past ↦ absurd (both_ways (is_apart (get_or xs task Apart)) stands (ap is_apart (get_or_past xs task Apart past)))
    ]

renewed_answer : (s : Standing) → answer_left (renewed s) ≡ answer_left s
renewed_answer Apart = refl
renewed_answer Joining = refl
renewed_answer Ready = refl
renewed_answer Fetching = refl
renewed_answer Served = refl
renewed_answer Acknowledging = refl

pub renewed_answers : (xs : List Standing) → sum_by answer_left (map renewed xs) ≡ sum_by answer_left xs
renewed_answers [] = refl
renewed_answers (s ∷ xs) =
    omega (arith, renewed_answer s, renewed_answers xs, sum_by-cons answer_left (renewed s) (map renewed xs), sum_by-cons answer_left s xs)

-- ---- all

stage_most : (t : Table) → IsBounded t → stage_left t < a_stage
stage_most t b =
    let places = b.places in
    let few = b.few in
    omega (arith, untaken_most t.marks b.chunks, standings_most t.phase t.standings)

some_left : (t : Table) → is_running t ≡ true → work_left t ≡ rounds_left t * a_stage + stage_left t + 1
some_left t running = rw running refl

none_left : (t : Table) → is_running t ≡ false → work_left t ≡ 0
none_left t ended = rw ended refl

pub weighs : (a b k x y : ℕ) → a < b → x < k → a * k + x < b * k + y
weighs a b k x y less within = omega (arith, within, mul-le-mul_right {m = a + 1} {n = b} k (omega arith))

pub ended_less : (old new : Table) → is_running old ≡ true → is_running new ≡ false → work_left new < work_left old
ended_less old new runs ended = omega (arith, some_left old runs, none_left new ended)

pub rounds_less : (old new : Table) → is_running old ≡ true → (is_running new ≡ true → rounds_left new < rounds_left old) → IsBounded new → work_left new < work_left old
rounds_less old new runs less b =
    elim (cases_Bool (is_running new)) [
      | inl on ↦ let more = weighs (rounds_left new) (rounds_left old) a_stage (stage_left new) (stage_left old) (less on) (stage_most new b) in omega (arith, some_left old runs, some_left new on, more)
      | inr ended ↦ ended_less old new runs ended
    ]

pub stage_less : (old new : Table) → is_running old ≡ true → rounds_left new ≡ rounds_left old → stage_left new < stage_left old → work_left new < work_left old
stage_less old new runs same less =
    elim (cases_Bool (is_running new)) [
      | inl on ↦ let all : rounds_left new * a_stage ≡ rounds_left old * a_stage = ap (λ n. n * a_stage) same in omega (arith, some_left old runs, some_left new on, all, less)
      | inr ended ↦ ended_less old new runs ended
    ]

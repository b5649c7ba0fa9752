-- Where tasks may stand: what each change of the table keeps of it.
use Rattle.std.proofs.Common.{ℕ, zero, suc, ◌≡◌, ◌<◌, true, false, List, [], ◌∷◌, length, get_or, set, map, replicate, refl, sym, subst, arith, inl, inr}
use Rattle.std.specs.Prelude.{nat_lt, not}
use Rattle.std.specs.List.{slice_index}
use Rattle.std.proofs.lemmas.Bool.{cases_eq, cases_lt, and_parts, not-true, ltb-true, both_ways, false≢true}
use Rattle.std.proofs.lemmas.List.{get_or-set_same, get_or-set_other, set_past}
use Rattle.clone_marks.specs.declared.chunk_marks.ChunkMarks.{ChunkMarks}
use Rattle.clone_marks.specs.Blocks.{has_block, is_left, is_taken, blocks_of, all_finished, AreAllTaken}
use Rattle.clone_marks.proofs.MarkLemmas.{finished_all_taken}
use Rattle.clone_tasks.specs.declared.standing.Standing.{Standing}
use Rattle.clone_tasks.specs.declared.standing.Standing.TheVariants.{Apart, Joining, Ready, Fetching, Served, Acknowledging}
use Rattle.clone_tasks.specs.Tables.{MayStand, AreStandings, renewed}

-- ---- one task, and all of them

pub one_stands : (standings : List Standing) (task : ℕ) (s : Standing) (marks : List ChunkMarks) → AreStandings standings marks → MayStand s task marks → AreStandings (set standings task s) marks
one_stands standings task s marks are may = record {
  each = λ k. elim (cases_eq k task) [
    | inl same ↦ elim (cases_lt task (length standings)) [
      | inl within ↦
          subst (λ (i : ℕ). MayStand (get_or (set standings task s) i Apart) i marks) (sym same) (subst (λ (x : Standing). MayStand x task marks) (sym (get_or-set_same standings task s Apart within)) may)
      | inr past ↦ subst (λ (xs : List Standing). MayStand (get_or xs k Apart) k marks) (sym (set_past standings task s past)) (are.each k)
    ]
    | inr other ↦ subst (λ (x : Standing). MayStand x k marks) (sym (get_or-set_other standings task k s Apart other)) (are.each k)
  ];
}

apart_at : (n task : ℕ) → get_or (replicate n Apart) task Apart ≡ Apart
apart_at zero task = refl
apart_at (suc n) zero = refl
apart_at (suc n) (suc task) = apart_at n task

pub all_apart : (n : ℕ) (marks : List ChunkMarks) → AreStandings (replicate n Apart) marks
all_apart n marks = record { each = λ task. subst (λ (s : Standing). MayStand s task marks) (sym (apart_at n task)) tt }

-- ---- the next stage

other_may : (s : Standing) (task : ℕ) (marks new : List ChunkMarks) → (task ≡ 0 → ⊥) → MayStand s task marks → MayStand (renewed s) task new
other_may Apart task marks new other may = tt
other_may Joining task marks new other may = tt
other_may Ready task marks new other may = tt
other_may Fetching task marks new other may = tt
other_may Served task marks new other may = tt
other_may Acknowledging task marks new other may = absurd (other may.0)

renewed_at : (standings : List Standing) (task : ℕ) → get_or (map renewed standings) task Apart ≡ renewed (get_or standings task Apart)
renewed_at [] task = refl
renewed_at (s ∷ standings) zero = refl
renewed_at (s ∷ standings) (suc task) = renewed_at standings task

first_may : (standings : List Standing) (new : List ChunkMarks) → MayStand (renewed (get_or (set standings 0 Ready) 0 Apart)) 0 new
first_may [] new = tt
first_may (s ∷ standings) new = tt

begun_may : (standings : List Standing) (marks new : List ChunkMarks) (task : ℕ) → AreStandings standings marks → MayStand (renewed (get_or (set standings 0 Ready) task Apart)) task new
begun_may standings marks new zero are = first_may standings new
begun_may standings marks new (suc task) are =
    let other : suc task ≡ 0 → ⊥ = λ e. omega (arith, e) in
    let may : MayStand (get_or (set standings 0 Ready) (suc task) Apart) (suc task) marks = subst (λ (x : Standing). MayStand x (suc task) marks) (sym (get_or-set_other standings 0 (suc task) Ready Apart other)) (are.each (suc task)) in
    other_may (get_or (set standings 0 Ready) (suc task) Apart) (suc task) marks new other may

pub all_begin : (standings : List Standing) (marks new : List ChunkMarks) → AreStandings standings marks → AreStandings (map renewed (set standings 0 Ready)) new
all_begin standings marks new are = record {
  each = λ task. subst (λ (x : Standing). MayStand x task new) (sym (renewed_at (set standings 0 Ready) task)) (begun_may standings marks new task are);
}

-- ---- a block that is left

not_taken : (marks : List ChunkMarks) (chunk block : ℕ) → is_left marks chunk block ≡ true → (block < slice_index (blocks_of marks) chunk) × (is_taken marks chunk block ≡ false)
not_taken [] chunk block left = absurd (false≢true left)
not_taken (c ∷ marks) zero block left =
    let parts = and_parts (nat_lt block c.blocks) (not (has_block block c)) left in
    (ltb-true block c.blocks parts.0, not-true (has_block block c) parts.1)
not_taken (c ∷ marks) (suc chunk) block left = not_taken marks chunk block left

left_unfinished : (marks : List ChunkMarks) (chunk block : ℕ) → is_left marks chunk block ≡ true → all_finished marks ≡ true → ⊥
left_unfinished marks chunk block left all =
    let none = not_taken marks chunk block left in
    both_ways (is_taken marks chunk block) none.1 (finished_all_taken marks all chunk block none.0)

still_may : (s : Standing) (task : ℕ) (marks new : List ChunkMarks) → (all_finished marks ≡ true → ⊥) → MayStand s task marks → MayStand s task new
still_may Apart task marks new unfinished may = tt
still_may Joining task marks new unfinished may = tt
still_may Ready task marks new unfinished may = tt
still_may Fetching task marks new unfinished may = tt
still_may Served task marks new unfinished may = tt
still_may Acknowledging task marks new unfinished may = absurd (unfinished may.1)

pub all_still : (standings : List Standing) (marks new : List ChunkMarks) (chunk block : ℕ) → is_left marks chunk block ≡ true → AreStandings standings marks → AreStandings standings new
all_still standings marks new chunk block left are =
    record { each = λ task. still_may (get_or standings task Apart) task marks new (left_unfinished marks chunk block left) (are.each task) }

-- ---- the STAGE of the next stage

pub acknowledged_taken : (s : Standing) (task : ℕ) (marks : List ChunkMarks) → s ≡ Acknowledging → MayStand s task marks → AreAllTaken marks
acknowledged_taken s task marks e may =
    let at : MayStand Acknowledging task marks = subst (λ (x : Standing). MayStand x task marks) e may in
    finished_all_taken marks at.1

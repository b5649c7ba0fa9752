-- The rule by which a task acts applies in the rounds.
use Rattle.std.proofs.Common.{◌≡◌, ◌≢◌, ◌<◌, ℕ, suc, Bool, true, false, List, [], ◌∷◌, get_or, refl, sym, ap, subst, ◌∙◌, arith, inl, inr, ◌⊎◌}
use Rattle.std.specs.Prelude.{nat_lt, ◌==◌, ◌&&◌, ◌||◌, not, if◌then◌else◌}
use Rattle.std.specs.List.{list_any}
use Rattle.std.proofs.lemmas.Bool.{cases_Bool, lt-ltb, ltb-true, eq-eqb, eqb-true, and_parts, or_cases, or_left, or_right, not-true, false_from_ne_true}
use Rattle.clone_chunk.specs.Stages.{copy_number}
use Rattle.clone_chunk.specs.declared.copy_stage.CopyStage.{CopyStage}
use Rattle.clone_chunk.specs.declared.copy_stage.CopyStage.TheVariants as copy
use Rattle.clone_marks.specs.Blocks.{all_finished}
use Rattle.clone_marks.proofs.MarkLemmas.{finished_all_taken, all_taken_finished}
use Rattle.clone_tasks.specs.declared.rule.Rule.{Rule}
use Rattle.clone_tasks.specs.declared.rule.Rule.TheVariants as rule
use Rattle.clone_tasks.specs.declared.standing.Phase.{Phase}
use Rattle.clone_tasks.specs.declared.standing.Phase.TheVariants.{Opening, Copying, Done}
use Rattle.clone_tasks.specs.declared.standing.Standing.{Standing}
use Rattle.clone_tasks.specs.declared.standing.Standing.TheVariants.{Apart, Joining, Ready, Fetching, Served, Acknowledging}
use Rattle.clone_tasks.specs.Rules.{is_absent, takes_part, connecting, acknowledges, asks, next_in, link_of, sending_rule}
use Rattle.clone_tasks.specs.Tables.{Table, standing_of, is_apart, is_ready, awaits, awaits_end, any_awaits_end, is_done, is_running}
use Rattle.clone_tasks.proofs.RuleLemmas.{nobody_awaits}
use Rattle.clone_rounds.specs.World.{Nothing, ForEnd, World, IsLinked, AllTaken}
use Rattle.clone_rounds.specs.Idle.{TakesPart, Connects, Completes, Acknowledges, Executes}
use Rattle.clone_view.specs.Tables.{phase_number, awaited_of, is_served, IsStanding, IsTable}
use Rattle.clone_view.specs.Applying.{Receives, Rests, Applies}
use Rattle.clone_view.proofs.Rows.{row_taken, taken_row}

-- ---- the rule, by whether the task has a part in the clone, the phase, and where the task stands

abbrev rule_by : Bool → Phase → Bool → Table → ℕ → Standing → Rule
rule_by part phase absent t k standing =
    if not part then rule.Nothing
    else (if absent && not (is_done phase) then connecting t k standing
    else (if awaits standing then rule.Receive
    else next_in phase t k standing))

link_absent : (standing : Standing) → is_absent (link_of standing) ≡ is_apart standing
link_absent Apart = refl
link_absent Joining = refl
link_absent Ready = refl
link_absent Fetching = refl
link_absent Served = refl
link_absent Acknowledging = refl

sending_by : (t : Table) (k : ℕ) → sending_rule t k ≡ rule_by (takes_part t k) t.phase (is_apart (standing_of t k)) t k (standing_of t k)
sending_by t k = ap (λ absent. rule_by (takes_part t k) t.phase absent t k (standing_of t k)) (link_absent (standing_of t k))

-- ---- who awaits an END

any_none : (standings : List Standing) → ((j : ℕ) → awaits_end (get_or standings j Apart) ≡ false) → list_any awaits_end standings ≡ false
any_none [] none = refl
any_none (s ∷ standings) none = rw (none 0) (any_none standings (λ j. none (suc j)))

ends_awaited : (s : Standing) → awaited_of s ≢ ForEnd → awaits_end s ≡ false
ends_awaited Apart h = refl
ends_awaited Joining h = refl
ends_awaited Ready h = refl
ends_awaited Fetching h = absurd (h refl)
ends_awaited Served h = refl
ends_awaited Acknowledging h = refl

awaited_ends : (s : Standing) → awaits_end s ≡ false → awaited_of s ≢ ForEnd
awaited_ends Apart h = λ e. cc
awaited_ends Joining h = λ e. cc
awaited_ends Ready h = λ e. cc
awaited_ends Fetching h = cc
awaited_ends Served h = λ e. cc
awaited_ends Acknowledging h = λ e. cc

-- ---- who took an END

ready_unserved : (s : Standing) → is_ready s ≡ true → is_served s ≡ false
ready_unserved Apart h = refl
ready_unserved Joining h = refl
ready_unserved Ready h = refl
ready_unserved Fetching h = refl
ready_unserved Served h = cc
ready_unserved Acknowledging h = refl

served_ready : (s : Standing) → awaited_of s ≡ Nothing → not (is_apart s) ≡ true → is_served s ≡ false → is_ready s ≡ true
served_ready Apart quiet there h = cc
served_ready Joining quiet there h = cc
served_ready Ready quiet there h = refl
served_ready Fetching quiet there h = cc
served_ready Served quiet there h = cc
served_ready Acknowledging quiet there h = cc

-- ---- stages

pub copy_some : (stage : CopyStage) → (0 < copy_number stage) × (copy_number stage < 4)
copy_some copy.FileCopy = (omega arith, omega arith)
copy_some copy.PageCopy = (omega arith, omega arith)
copy_some copy.RedoCopy = (omega arith, omega arith)

goes_on : (phase : Phase) (k : ℕ) → (phase_number phase < 4) ⊎ (k ≡ 0) → (not (is_done phase) || (k == 0)) ≡ true
goes_on Opening k h = refl
goes_on (Copying stage) k h = refl
goes_on Done k (inl h) = absurd (omega (arith, h))
goes_on Done k (inr z) = eq-eqb k 0 z

module _ (t : Table) (w : World) (v : IsTable t w) (running : is_running t ≡ true) (k : ℕ) where
  part_true : k < w.sides.tasks → TakesPart w k → takes_part t k ≡ true
  part_true small part = rw (lt-ltb k t.count (subst (λ n. k < n) v.tasks small), running, goes_on t.phase k (at part)) refl
    where
      at : (w.sides.stage < 4) ⊎ (k ≡ 0) → (phase_number t.phase < 4) ⊎ (k ≡ 0)
      at (inl h) = inl (subst (λ n. n < 4) v.stage h)
      at (inr z) = inr z

  -- a task that has no part in the clone
  out_rests : takes_part t k ≡ false → Rests w k
  out_rests out = record {
    connects = λ c. cc (out, part_true c.task (inl c.stage));
    receives = λ c. cc (out, part_true c.linked.task c.part);
    completes = λ z c. cc (out, part_true (rw (z, v.tasks) v.some) (inr z));
    acknowledges = λ z c. cc (out, part_true (rw z c.linked.task) (inr z));
    executes = λ c. cc (out, part_true c.linked.task (inl c.stage));
  }

  -- where the seat is so, by where the task stands
  seat_is : (standing : Standing) → standing_of t k ≡ standing → IsStanding standing (w.seats k)
  seat_is standing e = subst (λ x. IsStanding x (w.seats k)) e (v.seats k)

  quiet_rests : (standing : Standing) → standing_of t k ≡ standing → awaited_of standing ≡ Nothing → (Connects w k → ⊥) → (w.sides.stage ≡ 4 → ⊥) → (k ≡ 0 → Acknowledges w → ⊥) → (Executes w k → ⊥) → Rests w k
  quiet_rests standing e quiet connects going acknowledges executes = record {
    connects = connects;
    receives = λ c. c.awaits ((seat_is standing e).awaits ∙ quiet);
    completes = λ z c. going c.stage;
    acknowledges = acknowledges;
    executes = executes;
  }

  module _ (part : takes_part t k ≡ true) where
    small : k < w.sides.tasks
    small = subst (λ n. k < n) (sym v.tasks) (ltb-true k t.count (and_parts (nat_lt k t.count) (is_running t) (and_parts (nat_lt k t.count && is_running t) (not (is_done t.phase) || (k == 0)) part).0).0)

    -- ---- a task that stands apart

    apart_applies : standing_of t k ≡ Apart → phase_number t.phase < 4 → Applies (connecting t k Apart) w k
    apart_applies e stage = at (cases_Bool ((k == 0) || t.joined))
      where
        absent : (w.seats k).connected ≡ false
        absent = (seat_is Apart e).connected

        below : w.sides.stage < 4
        below = subst (λ n. n < 4) (sym v.stage) stage

        first : (k == 0) ≡ true ⊎ (t.joined ≡ true) → (k ≡ 0) ⊎ (w.sides.joined ≡ true)
        first (inl h) = inl (eqb-true k 0 h)
        first (inr h) = inr (v.joined ∙ h)

        never : ((k == 0) || t.joined) ≡ false → (k ≡ 0) ⊎ (w.sides.joined ≡ true) → ⊥
        never h (inl z) = cc (h, or_left (k == 0) t.joined (eq-eqb k 0 z))
        never h (inr j) = cc (h, or_right (k == 0) t.joined (sym v.joined ∙ j))

        at : ((k == 0) || t.joined) ≡ true ⊎ (((k == 0) || t.joined) ≡ false) → Applies (connecting t k Apart) w k
        at (inl h) = rw h (record { task = small; stage = below; absent = absent; first = first (or_cases (k == 0) t.joined h) })
        at (inr h) = rw h (quiet_rests Apart e refl (λ c. never h c.first) (λ g. omega (arith, g, below)) (λ z c. cc (absent, ap (λ j. (w.seats j).connected) z, c.linked.connected)) (λ c. cc (absent, c.linked.connected)))

    -- ---- a task that awaits an answer

    takes_part_in : TakesPart w k
    takes_part_in = at t.phase refl (and_parts (nat_lt k t.count && is_running t) (not (is_done t.phase) || (k == 0)) part).1
      where
        at : (phase : Phase) → t.phase ≡ phase → (not (is_done phase) || (k == 0)) ≡ true → (w.sides.stage < 4) ⊎ (k ≡ 0)
        at Opening e h = inl (rw (v.stage, e) (omega arith))
        at (Copying stage) e h = inl (rw (v.stage, e) (copy_some stage).1)
        at Done e h = inr (eqb-true k 0 h)

    receives : (standing : Standing) → standing_of t k ≡ standing → awaited_of standing ≢ Nothing → not (is_apart standing) ≡ true → Receives w k
    receives standing e some there = record { linked = record { task = small; connected = (seat_is standing e).connected ∙ there }; part = takes_part_in; awaits = λ n. some (sym (seat_is standing e).awaits ∙ n) }

    -- ---- a task that awaits nothing, in a stage

    module _ (stage : CopyStage) (f : t.phase ≡ Copying stage) (standing : Standing) (e : standing_of t k ≡ standing) (quiet : awaited_of standing ≡ Nothing) (there : not (is_apart standing) ≡ true) where
      number : copy_number stage ≡ w.sides.stage
      number = sym (v.stage ∙ ap phase_number f)

      begun : 0 < w.sides.stage
      begun = subst (λ n. 0 < n) number (copy_some stage).0

      below : w.sides.stage < 4
      below = subst (λ n. n < 4) number (copy_some stage).1

      linked : IsLinked w k
      linked = record { task = small; connected = (seat_is standing e).connected ∙ there }

      awaits_nothing : (w.seats k).awaits ≡ Nothing
      awaits_nothing = (seat_is standing e).awaits ∙ quiet

      all_taken : all_finished t.marks ≡ true → AllTaken w.sides
      all_taken h b less = v.taken b less ∙ row_taken t.marks (finished_all_taken t.marks h) b (subst (λ n. b < n) v.size less)

      finished : AllTaken w.sides → all_finished t.marks ≡ true
      finished all = all_taken_finished t.marks v.chunks (taken_row t.marks (λ b less. let small_too : b < w.sides.size w.sides.stage = subst (λ n. b < n) (sym v.size) less in sym (v.taken b small_too) ∙ all b small_too))

      nobody : any_awaits_end t ≡ false → (j : ℕ) → (w.seats j).awaits ≢ ForEnd
      nobody h j g = awaited_ends (standing_of t j) (nobody_awaits t j h) (sym (v.seats j).awaits ∙ g)

      none_awaits : ((j : ℕ) → (w.seats j).awaits ≢ ForEnd) → any_awaits_end t ≡ false
      none_awaits none = any_none t.standings (λ j. ends_awaited (standing_of t j) (λ g. none j ((v.seats j).awaits ∙ g)))

      -- the three parts of an acknowledgement
      may_acknowledge : acknowledges t k standing ≡ true → (k ≡ 0) × Acknowledges w
      may_acknowledge h =
          let last : (((not (is_apart standing) && (k == 0)) && all_finished t.marks) ≡ true) × (not (any_awaits_end t) ≡ true) = and_parts ((not (is_apart standing) && (k == 0)) && all_finished t.marks) (not (any_awaits_end t)) h in
          let mid : ((not (is_apart standing) && (k == 0)) ≡ true) × (all_finished t.marks ≡ true) = and_parts (not (is_apart standing) && (k == 0)) (all_finished t.marks) last.0 in
          let zero_is : k ≡ 0 = eqb-true k 0 (and_parts (not (is_apart standing)) (k == 0) mid.0).1 in
          (zero_is, record { linked = subst (IsLinked w) zero_is linked; begun = begun; stage = below; awaits = subst (λ j. (w.seats j).awaits ≡ Nothing) zero_is awaits_nothing; all = all_taken mid.1; nobody = nobody (not-true (any_awaits_end t) last.1) })

      must_acknowledge : k ≡ 0 → Acknowledges w → acknowledges t k standing ≡ true
      must_acknowledge z c = rw (there, eq-eqb k 0 z, finished c.all, none_awaits c.nobody) refl

      may_execute : asks t standing ≡ true → Executes w k
      may_execute h =
          let parts : (is_ready standing ≡ true) × (not (all_finished t.marks) ≡ true) = and_parts (is_ready standing) (not (all_finished t.marks)) h in
          record { linked = linked; begun = begun; stage = below; awaits = awaits_nothing; ended = (seat_is standing e).ended ∙ ready_unserved standing parts.0; left = λ all. cc (not-true (all_finished t.marks) parts.1, finished all) }

      must_execute : Executes w k → asks t standing ≡ true
      must_execute c = rw (served_ready standing quiet there (sym (seat_is standing e).ended ∙ c.ended), false_from_ne_true (all_finished t.marks) (λ h. c.left (all_taken h))) refl

      asks_applies : (acknowledges t k standing ≡ true → ⊥) → Applies (if asks t standing then rule.Execute stage else rule.Nothing) w k
      asks_applies never = at (cases_Bool (asks t standing))
        where
          at : (asks t standing ≡ true) ⊎ (asks t standing ≡ false) → Applies (if asks t standing then rule.Execute stage else rule.Nothing) w k
          at (inl h) = rw h (may_execute h, number)
          at (inr h) = rw h (quiet_rests standing e quiet (λ c. cc (c.absent, linked.connected)) (λ g. omega (arith, g, below)) (λ z c. never (must_acknowledge z c)) (λ c. cc (h, must_execute c)))

      copying_applies : Applies (next_in (Copying stage) t k standing) w k
      copying_applies = at (cases_Bool (acknowledges t k standing))
        where
          at : (acknowledges t k standing ≡ true) ⊎ (acknowledges t k standing ≡ false) → Applies (if acknowledges t k standing then rule.Acknowledge stage else (if asks t standing then rule.Execute stage else rule.Nothing)) w k
          at (inl h) = rw h ((may_acknowledge h).0, (may_acknowledge h).1, number)
          at (inr h) = rw h (asks_applies (λ g. cc (g, h)))

    -- ---- before the first stage, and after the last one

    opening_rests : (standing : Standing) → standing_of t k ≡ standing → awaited_of standing ≡ Nothing → not (is_apart standing) ≡ true → t.phase ≡ Opening → Rests w k
    opening_rests standing e quiet there f = quiet_rests standing e quiet (λ c. cc (c.absent, (seat_is standing e).connected, there)) (λ g. omega (arith, g, begun)) (λ z c. omega (arith, begun, c.begun)) (λ c. omega (arith, begun, c.begun))
      where
        begun : w.sides.stage ≡ 0
        begun = v.stage ∙ ap phase_number f

    done_completes : (standing : Standing) → standing_of t k ≡ standing → awaited_of standing ≡ Nothing → t.phase ≡ Done → (k ≡ 0) × Completes w
    done_completes standing e quiet f = (zero_is takes_part_in, record { stage = four; awaits = subst (λ j. (w.seats j).awaits ≡ Nothing) (zero_is takes_part_in) ((seat_is standing e).awaits ∙ quiet) })
      where
        four : w.sides.stage ≡ 4
        four = v.stage ∙ ap phase_number f

        zero_is : (w.sides.stage < 4) ⊎ (k ≡ 0) → k ≡ 0
        zero_is (inl h) = absurd (omega (arith, h, four))
        zero_is (inr z) = z

    going : (phase : Phase) (standing : Standing) → t.phase ≡ phase → standing_of t k ≡ standing → Applies (rule_by true phase (is_apart standing) t k standing) w k
    going Opening Apart f e = apart_applies e (rw f (omega arith))
    going Opening Joining f e = receives Joining e (λ g. cc) refl
    going Opening Ready f e = opening_rests Ready e refl refl f
    going Opening Fetching f e = receives Fetching e (λ g. cc) refl
    going Opening Served f e = opening_rests Served e refl refl f
    going Opening Acknowledging f e = receives Acknowledging e (λ g. cc) refl
    going (Copying stage) Apart f e = apart_applies e (rw f (copy_some stage).1)
    going (Copying stage) Joining f e = receives Joining e (λ g. cc) refl
    going (Copying stage) Ready f e = copying_applies stage f Ready e refl refl
    going (Copying stage) Fetching f e = receives Fetching e (λ g. cc) refl
    going (Copying stage) Served f e = copying_applies stage f Served e refl refl
    going (Copying stage) Acknowledging f e = receives Acknowledging e (λ g. cc) refl
    going Done Apart f e = done_completes Apart e refl f
    going Done Joining f e = receives Joining e (λ g. cc) refl
    going Done Ready f e = done_completes Ready e refl f
    going Done Fetching f e = receives Fetching e (λ g. cc) refl
    going Done Served f e = done_completes Served e refl f
    going Done Acknowledging f e = receives Acknowledging e (λ g. cc) refl

pub applies : (t : Table) (w : World) (k : ℕ) → IsTable t w → is_running t ≡ true → Applies (sending_rule t k) w k
applies t w k v running = subst (λ x. Applies x w k) (sym (sending_by t k)) (at (cases_Bool (takes_part t k)))
  where
    at : (takes_part t k ≡ true) ⊎ (takes_part t k ≡ false) → Applies (rule_by (takes_part t k) t.phase (is_apart (standing_of t k)) t k (standing_of t k)) w k
    at (inl part) = subst (λ b. Applies (rule_by b t.phase (is_apart (standing_of t k)) t k (standing_of t k)) w k) (sym part) (going t w v running k part t.phase (standing_of t k) refl refl)
    at (inr out) = subst (λ b. Applies (rule_by b t.phase (is_apart (standing_of t k)) t k (standing_of t k)) w k) (sym out) (out_rests t w v running k out)

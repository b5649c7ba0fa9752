-- The rule of a task, by the parts on which it rests.
use Rattle.std.proofs.Common.{ℕ, zero, suc, ◌≡◌, Bool, true, false, List, [], ◌∷◌, Option, get_or, refl, sym, ap, ◌∙◌, inl, inr}
use Rattle.std.specs.Prelude.{◌==◌, ◌&&◌, ◌||◌, not}
use Rattle.std.specs.List.{list_any}
use Rattle.std.proofs.lemmas.Bool.{cases_Bool, and_parts, or_parts, not-true, eqb-true}
use Rattle.clone_chunk.specs.declared.copy_stage.CopyStage.{CopyStage}
use Rattle.clone_marks.specs.Blocks.{all_finished}
use Rattle.clone_tasks.specs.declared.rule.Link.{Link}
use Rattle.clone_tasks.specs.declared.rule.Rule.{Rule}
use Rattle.clone_tasks.specs.declared.rule.Rule.TheVariants as rule
use Rattle.clone_tasks.specs.declared.standing.Phase.{Phase}
use Rattle.clone_tasks.specs.declared.standing.Phase.TheVariants.{Opening, Copying, Done}
use Rattle.clone_tasks.specs.declared.standing.Standing.{Standing}
use Rattle.clone_tasks.specs.declared.standing.Standing.TheVariants.{Apart, Joining, Ready, Fetching, Served, Acknowledging}
use Rattle.clone_tasks.specs.Rules.{is_absent, is_stale, takes_part, connecting, acknowledges, asks, next_in, rule_of, rule_at, link_of, sending_rule}
use Rattle.clone_tasks.specs.Sending.{sends}
use Rattle.clone_tasks.specs.Tables.{Table, standing_of, is_apart, awaits, awaits_end, any_awaits_end, is_done, incarnation_of}
use Rattle.std.specs.Prelude.{if◌then◌else◌}

-- whether the task takes part, the phase, and whether its connection is absent
abbrev rule_by : Bool → Phase → Bool → Table → ℕ → Standing → Rule
rule_by part phase absent t task standing =
    if not part then rule.Nothing
    else (if absent && not (is_done phase) then connecting t task standing
    else (if awaits standing then rule.Receive
    else next_in phase t task standing))

-- ---- where a rule sends, the table sends by the same

agree_by : (part : Bool) (phase : Phase) (absent : Bool) (t : Table) (task : ℕ) (standing : Standing) → sends (rule_by part phase absent t task standing) ≡ true → rule_by part phase (is_apart standing) t task standing ≡ rule_by part phase absent t task standing
agree_by false phase absent t task standing h = refl
agree_by true Done true t task Apart h = refl
agree_by true Done true t task Joining h = refl
agree_by true Done true t task Ready h = refl
agree_by true Done true t task Fetching h = refl
agree_by true Done true t task Served h = refl
agree_by true Done true t task Acknowledging h = refl
agree_by true Done false t task Apart h = refl
agree_by true Done false t task Joining h = refl
agree_by true Done false t task Ready h = refl
agree_by true Done false t task Fetching h = refl
agree_by true Done false t task Served h = refl
agree_by true Done false t task Acknowledging h = refl
agree_by true Opening true t task Apart h = refl
agree_by true Opening true t task Joining h = cc
agree_by true Opening true t task Ready h = cc
agree_by true Opening true t task Fetching h = cc
agree_by true Opening true t task Served h = cc
agree_by true Opening true t task Acknowledging h = cc
agree_by true Opening false t task Apart h = cc
agree_by true Opening false t task Joining h = refl
agree_by true Opening false t task Ready h = refl
agree_by true Opening false t task Fetching h = refl
agree_by true Opening false t task Served h = refl
agree_by true Opening false t task Acknowledging h = refl
agree_by true (Copying stage) true t task Apart h = refl
agree_by true (Copying stage) true t task Joining h = cc
agree_by true (Copying stage) true t task Ready h = cc
agree_by true (Copying stage) true t task Fetching h = cc
agree_by true (Copying stage) true t task Served h = cc
agree_by true (Copying stage) true t task Acknowledging h = cc
agree_by true (Copying stage) false t task Apart h = cc
agree_by true (Copying stage) false t task Joining h = refl
agree_by true (Copying stage) false t task Ready h = refl
agree_by true (Copying stage) false t task Fetching h = refl
agree_by true (Copying stage) false t task Served h = refl
agree_by true (Copying stage) false t task Acknowledging h = refl

link_absent : (standing : Standing) → is_absent (link_of standing) ≡ is_apart standing
link_absent Apart = refl
link_absent Joining = refl
link_absent Ready = refl
link_absent Fetching = refl
link_absent Served = refl
link_absent Acknowledging = refl

sending_by : (t : Table) (task : ℕ) → sending_rule t task ≡ rule_by (takes_part t task) t.phase (is_apart (standing_of t task)) t task (standing_of t task)
sending_by t task = ap (λ absent. rule_by (takes_part t task) t.phase absent t task (standing_of t task)) (link_absent (standing_of t task))

present : (stale : Bool) (which : Rule) → sends (if stale then rule.Stale else which) ≡ true → stale ≡ false
present true which h = cc
present false which h = refl

pub agrees : (made : Option ℕ) (t : Table) (task : ℕ) (link : Link) → sends (rule_at made t task link) ≡ true → sending_rule t task ≡ rule_at made t task link
agrees made t task link h =
    let stale = is_stale made (incarnation_of t) link in
    let fresh = present stale (rule_of t task link) h in
    let same : rule_at made t task link ≡ rule_of t task link = rw fresh refl in
    sending_by t task ∙ agree_by (takes_part t task) t.phase (is_absent link) t task (standing_of t task) (ap sends (sym same) ∙ h) ∙ sym same

-- ---- where a stage is acknowledged

next_acknowledges : (phase : Phase) (t : Table) (task : ℕ) (standing : Standing) (stage : CopyStage) → next_in phase t task standing ≡ rule.Acknowledge stage → acknowledges t task standing ≡ true
next_acknowledges Opening t task standing stage e = cc
next_acknowledges Done t task standing stage e = cc
next_acknowledges (Copying at) t task standing stage e =
    elim (cases_Bool (acknowledges t task standing)) [
      | inl holds ↦ holds
      | inr fails ↦ elim (cases_Bool (asks t standing)) [
        | inl ask ↦ let other : rule.Execute at ≡ rule.Acknowledge stage = rw (fails, ask) at e in cc
        | inr rest ↦ let other : rule.Nothing ≡ rule.Acknowledge stage = rw (fails, rest) at e in cc
      ]
    ]

connects_only : (t : Table) (task : ℕ) (standing : Standing) (stage : CopyStage) → connecting t task standing ≡ rule.Acknowledge stage → ⊥
connects_only t task standing stage e =
    elim (cases_Bool (is_apart standing && ((task == 0) || t.joined))) [
      | inl holds ↦ let other : rule.Connect ≡ rule.Acknowledge stage = rw holds at e in cc
      | inr fails ↦ let other : rule.Nothing ≡ rule.Acknowledge stage = rw fails at e in cc
    ]

acknowledges_by : (part : Bool) (phase : Phase) (absent : Bool) (t : Table) (task : ℕ) (standing : Standing) (stage : CopyStage) → rule_by part phase absent t task standing ≡ rule.Acknowledge stage → acknowledges t task standing ≡ true
acknowledges_by false phase absent t task standing stage e = cc
acknowledges_by true phase absent t task standing stage e =
    elim (cases_Bool (absent && not (is_done phase))) [
      | inl holds ↦ absurd (connects_only t task standing stage (rw holds at e))
      | inr fails ↦ elim (cases_Bool (awaits standing)) [
        | inl await ↦ let other : rule.Receive ≡ rule.Acknowledge stage = rw (fails, await) at e in cc
        | inr rest ↦ next_acknowledges phase t task standing stage (rw (fails, rest) at e)
      ]
    ]

-- task 0 does, each chunk is finished, and no task awaits an END
pub record Acknowledged (t : Table) (task : ℕ) : Type 0 where
  pub first : task ≡ 0
  pub finished : all_finished t.marks ≡ true
  pub nobody : any_awaits_end t ≡ false

pub acknowledged : (t : Table) (task : ℕ) (stage : CopyStage) → sending_rule t task ≡ rule.Acknowledge stage → Acknowledged t task
acknowledged t task stage e =
    let standing = standing_of t task in
    let all = acknowledges_by (takes_part t task) t.phase (is_apart standing) t task standing stage (sym (sending_by t task) ∙ e) in
    let last = and_parts (not (is_apart standing) && (task == 0) && all_finished t.marks) (not (any_awaits_end t)) all in
    let more = and_parts (not (is_apart standing) && (task == 0)) (all_finished t.marks) last.0 in
    record {
      first = eqb-true task 0 (and_parts (not (is_apart standing)) (task == 0) more.0).1;
      finished = more.1;
      nobody = not-true (any_awaits_end t) last.1;
    }

none_of : (standings : List Standing) (other : ℕ) → list_any awaits_end standings ≡ false → awaits_end (get_or standings other Apart) ≡ false
none_of [] other none = refl
none_of (s ∷ standings) zero none = (or_parts (awaits_end s) (list_any awaits_end standings) none).0
none_of (s ∷ standings) (suc other) none = none_of standings other (or_parts (awaits_end s) (list_any awaits_end standings) none).1

pub nobody_awaits : (t : Table) (other : ℕ) → any_awaits_end t ≡ false → awaits_end (standing_of t other) ≡ false
nobody_awaits t other none = none_of t.standings other none

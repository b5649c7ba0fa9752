-- What is known of a table where a rule applies to a task.
use Rattle.std.proofs.Common.{ℕ, ◌≡◌, ◌<◌, Bool, true, false, Option, refl, ap, inl, inr}
use Rattle.std.specs.Prelude.{◌==◌, ◌&&◌, ◌||◌, not, nat_lt}
use Rattle.std.proofs.lemmas.Bool.{cases_Bool, and_parts, eqb-true, ltb-true, not-true}
use Rattle.clone_marks.specs.Blocks.{all_finished}
use Rattle.clone_tasks.specs.declared.rule.Link.{Link}
use Rattle.clone_tasks.specs.declared.rule.Rule.{Rule}
use Rattle.clone_tasks.specs.declared.rule.Rule.TheVariants as rule
use Rattle.clone_tasks.specs.declared.standing.Phase.{Phase}
use Rattle.clone_tasks.specs.declared.standing.Phase.TheVariants.{Opening, Copying, Done}
use Rattle.clone_tasks.specs.Rules.{acknowledges, asks, connecting, is_absent, is_stale, next_in, rule_at, rule_of, takes_part}
use Rattle.clone_tasks.specs.Tables.{Table, any_awaits_end, awaits, incarnation_of, is_apart, is_done, is_ready, is_running, standing_of}

-- the task is there, the clone goes on, and once all was copied it is task 0
pub record HasPart (t : Table) (task : ℕ) : Type 0 where
  pub there : task < t.count
  pub runs : is_running t ≡ true
  pub first : is_done t.phase ≡ true → task ≡ 0

abbrev pub Applies : Rule → Table → ℕ → Type 0
Applies rule.Nothing t task = Unit {0}
Applies rule.Stale t task = Unit {0}
Applies rule.Connect t task = HasPart t task × (is_done t.phase ≡ false) × (is_apart (standing_of t task) ≡ true)
Applies rule.Receive t task = HasPart t task
Applies (rule.Acknowledge stage) t task = HasPart t task × (is_done t.phase ≡ false) × (is_apart (standing_of t task) ≡ false) × (awaits (standing_of t task) ≡ false)
Applies (rule.Execute stage) t task = HasPart t task × (is_done t.phase ≡ false) × (is_ready (standing_of t task) ≡ true)
Applies rule.Complete t task = HasPart t task

or_first : (a b : Bool) → (not a || b) ≡ true → a ≡ true → b ≡ true
or_first true b either holds = either
or_first false b either holds = absurd (cc)

has_part : (t : Table) (task : ℕ) → takes_part t task ≡ true → HasPart t task
has_part t task part =
    let both = and_parts (nat_lt task t.count && is_running t) (not (is_done t.phase) || (task == 0)) part in
    let two = and_parts (nat_lt task t.count) (is_running t) both.0 in
    record {
      there = ltb-true task t.count two.0;
      runs = two.1;
      first = λ done. eqb-true task 0 (or_first (is_done t.phase) (task == 0) both.1 done);
    }

connecting_applies : (t : Table) (task : ℕ) → HasPart t task → is_done t.phase ≡ false → Applies (connecting t task (standing_of t task)) t task
connecting_applies t task part on =
    elim (cases_Bool (is_apart (standing_of t task) && ((task == 0) || t.joined))) [
      | inl holds ↦ rw holds (part, on, (and_parts (is_apart (standing_of t task)) ((task == 0) || t.joined) holds).0)
      | inr fails ↦ rw fails tt
    ]

next_applies : (phase : Phase) (t : Table) (task : ℕ) → t.phase ≡ phase → HasPart t task → awaits (standing_of t task) ≡ false → Applies (next_in phase t task (standing_of t task)) t task
next_applies Opening t task is part rests = tt
next_applies Done t task is part rests = part
next_applies (Copying stage) t task is part rests =
    let standing = standing_of t task in
    let on : is_done t.phase ≡ false = ap is_done is in
    elim (cases_Bool (acknowledges t task standing)) [
      | inl holds ↦
          let last = and_parts (not (is_apart standing) && (task == 0) && all_finished t.marks) (not (any_awaits_end t)) holds in
          let more = and_parts (not (is_apart standing) && (task == 0)) (all_finished t.marks) last.0 in
          let stands = not-true (is_apart standing) (and_parts (not (is_apart standing)) (task == 0) more.0).0 in
          rw holds (part, on, stands, rests)
      | inr fails ↦ elim (cases_Bool (asks t standing)) [
        | inl ask ↦ rw (fails, ask) (part, on, (and_parts (is_ready standing) (not (all_finished t.marks)) ask).0)
        | inr rest ↦ rw (fails, rest) tt
      ]
    ]

rule_applies : (t : Table) (task : ℕ) (link : Link) → Applies (rule_of t task link) t task
rule_applies t task link =
    elim (cases_Bool (takes_part t task)) [
      | inr none ↦ rw none tt
      | inl takes ↦ elim (cases_Bool (is_absent link && not (is_done t.phase))) [
        | inl absent ↦ rw (takes, absent) (connecting_applies t task (has_part t task takes) (not-true (is_done t.phase) (and_parts (is_absent link) (not (is_done t.phase)) absent).1))
        | inr other ↦ elim (cases_Bool (awaits (standing_of t task))) [
          | inl await ↦ rw (takes, other, await) (has_part t task takes)
          | inr rests ↦ rw (takes, other, rests) (next_applies t.phase t task refl (has_part t task takes) rests)
        ]
      ]
    ]

pub applies : (made : Option ℕ) (t : Table) (task : ℕ) (link : Link) → Applies (rule_at made t task link) t task
applies made t task link =
    elim (cases_Bool (is_stale made (incarnation_of t) link)) [
      | inl stale ↦ rw stale tt
      | inr fresh ↦ rw fresh (rule_applies t task link)
    ]

-- WHAT A LOSS LEADS TO.
use Rattle.std.specs.Prelude.{ℕ, ◌+◌, ◌==◌, nat_lt, Bool, false, Some, replicate}
use Rattle.std.specs.Prelude.{if◌then◌else◌}
use Rattle.clone_chunk.specs.declared.partials.TheConstants.{MOST_PARTIAL}
use Rattle.clone_marks.specs.Forgetting.{forgotten}
use Rattle.clone_tasks.specs.declared.end.CloneEnd.TheVariants as end
use Rattle.clone_tasks.specs.declared.end.LossAnswer.{LossAnswer}
use Rattle.clone_tasks.specs.declared.end.LossAnswer.TheVariants as loss
use Rattle.clone_tasks.specs.declared.standing.Standing.TheVariants.{Apart}
use Rattle.clone_base.specs.declared.limits.TheConstants.{MOST_TASKS}
use Rattle.clone_tasks.specs.Tables.{Table, incarnation_of}

-- how many chunks that aren't finished keep their blocks
abbrev pub kept_in : ℕ → ℕ
kept_in version = if version == 1 then 0 else MOST_PARTIAL

-- the next incarnation
abbrev pub after_loss : Table → Table
after_loss t = record t {
  losses = t.losses + 1;
  joined = false;
  standings = replicate MOST_TASKS Apart;
  marks = forgotten (kept_in t.version) t.marks;
}

-- there were more losses than the limit
abbrev pub is_spent : Table → Bool
is_spent t = nat_lt t.limit t.losses

abbrev pub counted_answer : Table → LossAnswer
counted_answer t = if is_spent t then loss.Spent t.losses else loss.Again t.losses

abbrev pub counted_table : Table → Table
counted_table t = if is_spent t then record t { ended = Some (end.Spent t.losses) } else t

-- a loss of the present incarnation counts, and no other
abbrev pub loss_answer : Table → ℕ → LossAnswer
loss_answer t incarnation =
    if incarnation == incarnation_of t then counted_answer (after_loss t) else loss.Old

abbrev pub loss_table : Table → ℕ → Table
loss_table t incarnation =
    if incarnation == incarnation_of t then counted_table (after_loss t) else t

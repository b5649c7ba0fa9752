-- WHICH RULE of a task's step applies, in the rounds and in the table.
use Rattle.std.specs.Prelude.{ℕ, ◌≡◌, ◌≢◌}
use Rattle.clone_chunk.specs.Stages.{copy_number}
use Rattle.clone_tasks.specs.declared.rule.Rule.{Rule}
use Rattle.clone_tasks.specs.declared.rule.Rule.TheVariants as rule
use Rattle.clone_rounds.specs.World.{Nothing, World, IsLinked}
use Rattle.clone_rounds.specs.Idle.{TakesPart, Connects, Completes, Acknowledges, Executes}

-- an answer is awaited: a frame is taken, or a loss is found, or it isn't there yet
pub record Receives (w : World) (k : ℕ) : Type 0 where
  pub linked : IsLinked w k
  pub part : TakesPart w k
  pub awaits : (w.seats k).awaits ≢ Nothing

-- no rule applies
pub record Rests (w : World) (k : ℕ) : Type 0 where
  pub connects : Connects w k → ⊥
  pub receives : Receives w k → ⊥
  pub completes : k ≡ 0 → Completes w → ⊥
  pub acknowledges : k ≡ 0 → Acknowledges w → ⊥
  pub executes : Executes w k → ⊥

-- A RULE OF THE TABLE APPLIES in the rounds. There each connection is of the present incarnation.
abbrev pub Applies : Rule → World → ℕ → Type 0
Applies rule.Nothing w k = Rests w k
Applies rule.Stale w k = ⊥
Applies rule.Connect w k = Connects w k
Applies rule.Receive w k = Receives w k
Applies rule.Complete w k = (k ≡ 0) × Completes w
Applies (rule.Acknowledge stage) w k =
    (k ≡ 0) × Acknowledges w × (copy_number stage ≡ w.sides.stage)
Applies (rule.Execute stage) w k = Executes w k × (copy_number stage ≡ w.sides.stage)

-- What the steps of tasks and of the donor leave in the rounds.
use Rattle.std.proofs.Common.{ℕ, ◌≡◌, ◌⊎◌, ◌<◌, true, refl, inl, inr, arith}
use Rattle.clone_rounds.specs.World.{World}
use Rattle.clone_paired.proofs.Transports.{WasAcknowledged}
use Rattle.clone_rounds.specs.Steps.{TaskStep, connects, executes, acknowledges, joins, opens, advances, attaches, takes_block, ends, loses}
use Rattle.clone_rounds.specs.Steps.{DonorStep, meets_here, meets_next, welcomes, starts, agrees, repeats, claims, reads, finishes, fails, finds_loss, refuses, changes, moves}

-- in the same stage what was acknowledged stays so
abbrev pub KeepsAcks : World → World → Type 0
KeepsAcks w u =
    ((u.sides.stage ≡ w.sides.stage) × (w.sides.acknowledged ≡ true → u.sides.acknowledged ≡ true))
    ⊎ (w.sides.stage < u.sides.stage)

pub record KeepsSides (w u : World) : Type 0 where
  pub size : u.sides.size ≡ w.sides.size
  pub acks : KeepsAcks w u

pub record KeepsOwners (w u : World) : Type 0 where
  pub sides : KeepsSides w u
  pub owner : u.sides.owner ≡ w.sides.owner

-- what was acknowledged, by the stages that a recipient has before and after
pub acks_as : (w u : World) (p q : ℕ) → w.sides.stage ≡ p → u.sides.stage ≡ q → KeepsAcks w u → (x : ℕ) → WasAcknowledged p w.sides.acknowledged x → WasAcknowledged q u.sides.acknowledged x
acks_as w u p q old new (inl keeps) x (inl less) = inl (omega (arith, old, new, keeps.0, less))
acks_as w u p q old new (inl keeps) x (inr own) = inr (omega (arith, old, new, keeps.0, own.0), keeps.1 own.1)
acks_as w u p q old new (inr rises) x (inl less) = inl (omega (arith, old, new, rises, less))
acks_as w u p q old new (inr rises) x (inr own) = inl (omega (arith, old, new, rises, own.0))

pub task_keeps : (w u : World) → TaskStep w u → KeepsOwners w u
task_keeps w u (connects k c) = record { sides = record { size = refl; acks = inl (refl, λ h. h) }; owner = refl }
task_keeps w u (executes k c) = record { sides = record { size = refl; acks = inl (refl, λ h. h) }; owner = refl }
task_keeps w u (acknowledges c) = record { sides = record { size = refl; acks = inl (refl, λ h. refl) }; owner = refl }
task_keeps w u (joins stage more c d e) = record { sides = record { size = refl; acks = inl (refl, λ h. h) }; owner = refl }
task_keeps w u (opens more c d) = record { sides = record { size = refl; acks = inr (omega arith) }; owner = refl }
task_keeps w u (advances more c d) = record { sides = record { size = refl; acks = inr (omega arith) }; owner = refl }
task_keeps w u (attaches k stage more c d) = record { sides = record { size = refl; acks = inl (refl, λ h. h) }; owner = refl }
task_keeps w u (takes_block k b more c d e) = record { sides = record { size = refl; acks = inl (refl, λ h. h) }; owner = refl }
task_keeps w u (ends k more c) = record { sides = record { size = refl; acks = inl (refl, λ h. h) }; owner = refl }
task_keeps w u (loses k c d taken late e) = record { sides = record { size = refl; acks = inl (refl, λ h. h) }; owner = refl }

pub donor_keeps : (w u : World) → DonorStep w u → KeepsSides w u
donor_keeps w u (meets_here r met at some) = record { size = refl; acks = inl (refl, λ h. h) }
donor_keeps w u (meets_next r met at) = record { size = refl; acks = inl (refl, λ h. h) }
donor_keeps w u (welcomes k other r met) = record { size = refl; acks = inl (refl, λ h. h) }
donor_keeps w u (starts k r) = record { size = refl; acks = inl (refl, λ h. h) }
donor_keeps w u (agrees r none) = record { size = refl; acks = inl (refl, λ h. h) }
donor_keeps w u (repeats stage r is) = record { size = refl; acks = inl (refl, λ h. h) }
donor_keeps w u (claims k b bs s free) = record { size = refl; acks = inl (refl, λ h. h) }
donor_keeps w u (reads k b rest s small own) = record { size = refl; acks = inl (refl, λ h. h) }
donor_keeps w u (finishes k s none) = record { size = refl; acks = inl (refl, λ h. h) }
donor_keeps w u (fails k s) = record { size = refl; acks = inl (refl, λ h. h) }
donor_keeps w u (finds_loss k s) = record { size = refl; acks = inl (refl, λ h. h) }
donor_keeps w u (refuses late less) = record { size = refl; acks = inl (refl, λ h. h) }
donor_keeps w u (changes late owner less met) = record { size = refl; acks = inl (refl, λ h. h) }
donor_keeps w u (moves late owner less met ack at) = record { size = refl; acks = inl (refl, λ h. h) }

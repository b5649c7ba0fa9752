-- How much is left to do after several steps, by what each of them leaves.
use Rattle.std.proofs.Common.{◌≡◌, ◌∙◌, ◌||◌, not, Bool, true, false, refl, arith}
use Rattle.clone_core.specs.declared.rounds.Round.TheVariants as round
use Rattle.clone_core.specs.Left.{DonorLeaves, RoundLeaves, TasksLeave}
use Rattle.clone_core.specs.Lines.{State}

pub tasks_rest : (s : State) → TasksLeave true s s
tasks_rest s = (refl, refl)

pub donor_rests : (s : State) → DonorLeaves true s s
donor_rests s = (refl, omega arith)

-- ---- several steps, the last of which had nothing to do or did something

pub tasks_then : (moved quiet : Bool) (s u t : State) → TasksLeave (not moved) s u → TasksLeave quiet u t → TasksLeave (not (moved || not quiet)) s t
tasks_then true true s u t before now = omega (arith, before, now.0)
tasks_then true false s u t before now = omega (arith, before, now)
tasks_then false true s u t before now = (now.0 ∙ before.0, now.1 ∙ before.1)
tasks_then false false s u t before now = omega (arith, before.0, now)

pub donor_then : (moved quiet : Bool) (s u t : State) → DonorLeaves (not moved) s u → DonorLeaves quiet u t → DonorLeaves (not (moved || not quiet)) s t
donor_then true true s u t before now = (now.0 ∙ before.0, omega (arith, before.1, now.1))
donor_then true false s u t before now = (now.0 ∙ before.0, omega (arith, before.1, now.1))
donor_then false true s u t before now = (now.0 ∙ before.0, omega (arith, before.1, now.1))
donor_then false false s u t before now = (now.0 ∙ before.0, omega (arith, before.1, now.1))

-- ---- a round, in which a task did something, or the donor alone did

pub tasks_round : (by_tasks by_donor : Bool) (s u t : State) → by_tasks ≡ true → TasksLeave (not by_tasks) s u → DonorLeaves (not by_donor) u t → RoundLeaves round.Tasks s t
tasks_round true true s u t is tasks donor = omega (arith, tasks, donor.0)
tasks_round true false s u t is tasks donor = omega (arith, tasks, donor.0)
tasks_round false by_donor s u t is tasks donor = absurd (let e : false ≡ true = is in cc)

pub donor_round : (by_tasks by_donor : Bool) (s u t : State) → by_tasks ≡ false → by_donor ≡ true → TasksLeave (not by_tasks) s u → DonorLeaves (not by_donor) u t → RoundLeaves round.Donor s t
donor_round false true s u t quiet is tasks donor = (donor.0 ∙ tasks.0, omega (arith, tasks.1, donor.1))
donor_round false false s u t quiet is tasks donor = absurd (let e : false ≡ true = is in cc)
donor_round true by_donor s u t quiet is tasks donor = absurd (let e : true ≡ false = quiet in cc)

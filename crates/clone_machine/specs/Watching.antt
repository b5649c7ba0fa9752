-- What a watch is told by a donor that jobs share.
use Rattle.std.specs.Prelude.{ℕ, Bool, false, None, Some, IsSome, refl}
use Rattle.std.specs.declared.option.Option.{Option}
use Rattle.clone_machine.specs.declared.calls.JobAnswer.{JobAnswer}
use Rattle.clone_machine.specs.declared.calls.JobAnswer.TheVariants as answer
use Rattle.clone_machine.specs.declared.calls.JobCall.TheVariants as call
use Rattle.clone_machine.specs.Sharing.{SharedDonor, Steps}

abbrev pub is_halted : JobAnswer → Bool
is_halted (answer.Halted halted) = halted
is_halted other = false

abbrev pub position_of : JobAnswer → Option ℕ
position_of (answer.Look position) = Some position
position_of other = None

-- a look is answered by a position
pub tells : (s : SharedDonor) (a : JobAnswer) (t : SharedDonor) → Steps s call.Look a t
    → IsSome (position_of a)
tells s (answer.Look position) t is = refl
tells s answer.Halt t is = absurd is
tells s (answer.Halted halted) t is = absurd is
tells s (answer.Donor given) t is = absurd is

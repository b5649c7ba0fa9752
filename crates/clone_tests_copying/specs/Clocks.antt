-- What a clock answers.
use Rattle.std.specs.Prelude.{ℕ, Bool, false, refl, Some, None, IsSome, ⊤}
use Rattle.std.specs.declared.option.Option.{Option}
use Rattle.clone_tests_copying.specs.declared.clock.Clock.{Clock}
use Rattle.clone_tests_copying.specs.declared.clock.ClockAnswer.{ClockAnswer}
use Rattle.clone_tests_copying.specs.declared.clock.ClockAnswer.TheVariants as answer
use Rattle.clone_tests_copying.specs.declared.clock.ClockCall.{ClockCall}
use Rattle.clone_tests_copying.specs.declared.clock.ClockCall.TheVariants as call

-- a look is answered by a position, and the other call is not
abbrev pub ClockSteps : Clock → ClockCall → ClockAnswer → Clock → Type 0
ClockSteps s call.Look (answer.Position n) t = ⊤
ClockSteps s call.Look (answer.Halted is) t = ⊥
ClockSteps s call.IsHalted a t = ⊤

abbrev pub is_halted : ClockAnswer → Bool
is_halted (answer.Halted is) = is
is_halted (answer.Position n) = false

abbrev pub position_of : ClockAnswer → Option ℕ
position_of (answer.Position n) = Some n
position_of (answer.Halted is) = None

pub tells : (s : Clock) (a : ClockAnswer) (t : Clock) → ClockSteps s call.Look a t
    → IsSome (position_of a)
tells s (answer.Position n) t step = refl
tells s (answer.Halted is) t step = absurd step

-- Whether one of some numbers lies between two.
use Rattle.std.proofs.Common.{◌≡◌, ℕ, ◌-◌, ◌*◌, ◌/◌, ◌%◌, ◌<◌, ◌≤◌, min, true, ◌&&◌, leb, arith}
use Rattle.std.proofs.lemmas.Bool.Decides.{nat_tests}
use Rattle.std.proofs.Math.Nat.{div-mul-le_self, mod-eq-sub-div-mul, mul-le-mul_right, le-div_iff_mul-le, mul-mod_left}
use Rattle.clone_wire.specs.declared.numbers.Numbers.{Numbers}
use Rattle.clone_wire.specs.Choices.{has_between}
use Rattle.clone_wire.specs.Frames.{IsOneOf}
use Rattle.clone_wire.proofs.Spans.{IsTest}

both_tell : (a b c d : ℕ) → (leb a b && leb c d) ≡ true → (a ≤ b) × (c ≤ d)
both_tell a b c d e = grind (arith, nat_tests)

both_again : (a b c d : ℕ) → a ≤ b → c ≤ d → (leb a b && leb c d) ≡ true
both_again a b c d p q = grind (arith, nat_tests)

-- rounded down to whole steps
floor_is : (a s : ℕ) → a - a % s ≡ a / s * s
floor_is a s = let under = div-mul-le_self a s in let rest = mod-eq-sub-div-mul a s in omega arith

floor_mono : (a b s : ℕ) → 0 < s → a ≤ b → a - a % s ≤ b - b % s
floor_mono a b s some le =
    let under = div-mul-le_self a s in
    let fewer : a / s ≤ b / s = (le-div_iff_mul-le some).1 (omega arith) in
    rw (floor_is a s, floor_is b s) (mul-le-mul_right s fewer)

-- the greatest of the numbers up to the greater of the two
pub between_tells : (numbers : Numbers) (low high : ℕ) → 0 < numbers.step → has_between numbers low high ≡ true → (v : ℕ) × IsOneOf numbers v × (low ≤ v) × (v ≤ high)
between_tells numbers low high some e =
    let top = min numbers.most high in
    let gap = top - numbers.least in
    let v = top - gap % numbers.step in
    let told = both_tell numbers.least top low v e in
    let under : gap % numbers.step ≤ gap = (let rest = mod-eq-sub-div-mul gap numbers.step in omega arith) in
    let whole : v - numbers.least ≡ gap / numbers.step * numbers.step = (let floor = floor_is gap numbers.step in omega arith) in
    let one : IsOneOf numbers v = record {
      low = omega arith;
      high = omega arith;
      steps = rw whole (mul-mod_left (gap / numbers.step) numbers.step);
    } in
    (v, one, told.1, omega arith)

pub between_again : (numbers : Numbers) (v low high : ℕ) → 0 < numbers.step → IsOneOf numbers v → low ≤ v → v ≤ high → has_between numbers low high ≡ true
between_again numbers v low high some one above below =
    let top = min numbers.most high in
    let floor = floor_mono (v - numbers.least) (top - numbers.least) numbers.step some (omega (arith, one.high)) in
    let rest = one.steps in
    both_again numbers.least top low (top - (top - numbers.least) % numbers.step) (omega (arith, one.low, one.high)) (omega (arith, one.low, one.high))

pub numbers_test : (numbers : Numbers) → 0 < numbers.step → IsTest (IsOneOf numbers) (has_between numbers)
numbers_test numbers some = record { lets = λ x low high one p q. between_again numbers x low high some one p q; finds = λ low high p e. between_tells numbers low high some e }

-- The sides of frames, and the codes and the lengths that they have.
use Rattle.std.specs.Prelude.{ℕ, ◌≡◌, ◌≤◌, ◌-◌, ◌%◌, ◌==◌, if◌then◌else◌}
use Rattle.clone_wire.specs.declared.frame.Side.{Side}
use Rattle.clone_wire.specs.declared.frame.Side.TheVariants.{Command, Answer}
use Rattle.clone_wire.specs.declared.numbers.Numbers.{Numbers}
use Rattle.clone_base.specs.declared.limits.TheConstants.{SPACE_LIMIT, BLOCK_PAGES, BLOCK_BYTES}
use Rattle.clone_wire.specs.declared.limits.TheConstants.{MOST_BITMAP, MOST_TAKEN}
use Rattle.clone_wire.specs.declared.limits.TheConstants.{REINIT_FIELDS, REINIT2_FIELDS}
use Rattle.clone_wire.specs.declared.limits.TheConstants.{STAGE_FIELDS, PAGES_FIELDS, REDO_FIELDS}
use Rattle.clone_wire.specs.declared.limits.TheConstants.{SPACE_BYTES, PAGE_AT_BYTES}
use Rattle.clone_wire.specs.Choices.{between, only, listed}

-- the codes of a side's frames
abbrev pub codes : Side → Numbers
codes Command = between 1 7
codes Answer = between 16 20

-- The lengths that a payload may have, by the code: INIT, ATTACH, REINIT with a bitmap, EXECUTE,
-- ACK, EXIT, REINIT2 with a bitmap and partial chunks, STAGE with spaces, PAGES with pages, REDO
-- with redo, END, REFUSED.
abbrev pub lengths : ℕ → Numbers
lengths code =
    if code == 1 then only 20
    else (if code == 2 then only 13
    else (if code == 3 then listed REINIT_FIELDS 0 MOST_BITMAP 1
    else (if code == 4 then only 1
    else (if code == 5 then only 9
    else (if code == 6 then only 0
    else (if code == 7 then listed REINIT2_FIELDS 0 MOST_TAKEN 1
    else (if code == 16 then listed STAGE_FIELDS 0 SPACE_LIMIT SPACE_BYTES
    else (if code == 17 then listed PAGES_FIELDS 1 BLOCK_PAGES PAGE_AT_BYTES
    else (if code == 18 then listed REDO_FIELDS 1 BLOCK_BYTES 1
    else (if code == 19 then only 13
    else only 17))))))))))

-- one of the numbers
pub record IsOneOf (numbers : Numbers) (n : ℕ) : Type 0 where
  pub low : numbers.least ≤ n
  pub high : n ≤ numbers.most
  pub steps : (n - numbers.least) % numbers.step ≡ 0

-- a code and a length that go together
abbrev pub IsHead : ℕ → ℕ → Type 0
IsHead code long = IsOneOf (lengths code) long

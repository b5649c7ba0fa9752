-- What contracts see of counts: a map from numbers.
use Rattle.std.specs.Prelude.{ℕ, List}
use Rattle.std.specs.FinMap as finite
use Rattle.std.specs.Ordering.{nat_cmp}

-- from a number to how many there are of it
abbrev pub Counted : Type 0
Counted = finite.FinMap nat_cmp ℕ

-- the counts that an ordered map lists
abbrev pub counted_in : List (ℕ × ℕ) → Counted
counted_in entries = finite.from_entries entries

-- A row is named by its table and its key. Rows are in the order of their tables, and then of their
-- keys.
use Rattle.std.specs.Prelude.{ℕ}
use Rattle.std.specs.declared.cmp.Ordering.{Ordering}
use Rattle.std.specs.Ordering.{nat_cmp, ordering_then}

abbrev pub row_cmp : ℕ × ℕ → ℕ × ℕ → Ordering
row_cmp a b = ordering_then (nat_cmp a.0 b.0) (nat_cmp a.1 b.1)

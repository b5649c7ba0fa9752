-- How the writers' counts of a world are stored.
use Rattle.std.specs.Prelude.{ℕ}
use Rattle.std.specs.Coded.{Coded, coded_ℕ}
use Rattle.std.specs.FinMap as finite
use Rattle.std.specs.Ordering.{nat_cmp}

abbrev pub begun_code : Coded (finite.FinMap nat_cmp ℕ)
begun_code = finite.code coded_ℕ coded_ℕ

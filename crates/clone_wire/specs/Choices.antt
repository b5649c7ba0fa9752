-- The numbers that may stand in a field: the least, and each so many steps more, up to the most.
use Rattle.std.specs.Prelude.{ℕ, ◌+◌, ◌*◌, ◌-◌, ◌/◌, ◌%◌, min, Bool, nat_le, ◌&&◌, if◌then◌else◌}
use Rattle.clone_chunk.specs.declared.partials.TheConstants.{MOST_PARTIAL}
use Rattle.clone_wire.specs.declared.limits.TheConstants.{MOST_BITMAP, PARTIAL_BYTES}
use Rattle.clone_wire.specs.declared.numbers.Numbers.{Numbers}

abbrev pub in_steps : ℕ → ℕ → ℕ → Numbers
in_steps least most step = record { least = least; most = most; step = step }

abbrev pub between : ℕ → ℕ → Numbers
between least most = in_steps least most 1

abbrev pub only : ℕ → Numbers
only n = between n n

-- the lengths of so many bytes of fields and a list of items, from the least to the most of them
abbrev pub listed : ℕ → ℕ → ℕ → ℕ → Numbers
listed fields least most each = in_steps (fields + least * each) (fields + most * each) each

-- How many bytes a bitmap may have that fills so many bytes together with partial chunks: the rest
-- is whole chunks, and not too many.
abbrev pub bitmap_sizes : ℕ → Numbers
bitmap_sizes long =
    in_steps (long - PARTIAL_BYTES * min MOST_PARTIAL (long / PARTIAL_BYTES)) (min long MOST_BITMAP)
    PARTIAL_BYTES

-- all numbers up to the most where the frame has a value there, and else 0
abbrev pub any_if : Bool → ℕ → Numbers
any_if has most = between 0 (if has then most else 0)

-- whether one of the numbers lies from low to high
abbrev pub has_between : Numbers → ℕ → ℕ → Bool
has_between numbers low high =
    let top = min numbers.most high in
    nat_le numbers.least top && nat_le low (top - (top - numbers.least) % numbers.step)

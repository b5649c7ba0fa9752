-- What contracts see of a ring: the bytes of the log from its floor on.
use Rattle.std.specs.Prelude.{ℕ, ◌≡◌, ◌≤◌, ◌<◌, ◌+◌, ◌-◌, ◌++◌, min, List, [], length, drop, Result, Ok, Err, refl}
use Rattle.clone_base.specs.declared.limits.TheConstants.{FIRST_LSN, LSN_LIMIT}
use Rattle.clone_ring.specs.declared.log_full.LogFull.{LogFull}
use Rattle.std.specs.Coded.{Coded, code_by, coded×, coded_ℕ, coded_list}

-- the LSN of the first byte that is kept, the bytes from there to the log's end, and how many there
-- may be
pub record Window : Type 0 where
  pub floor : ℕ
  pub bytes : List ℕ
  pub size : ℕ

abbrev pub window_code : Coded Window
window_code =
    code_by (ℕ × (List ℕ × ℕ)) (coded× coded_ℕ (coded× (coded_list coded_ℕ) coded_ℕ))
    (λ w. (w.floor, (w.bytes, w.size)))
    (λ p. record { floor = p.0; bytes = p.1.0; size = p.1.1 }) (λ _. refl)

-- the LSN behind the last byte
abbrev pub end_of : Window → ℕ
end_of w = w.floor + length w.bytes

-- how many bytes may be appended: as many as there is room for, while the log's end stays below the
-- limit of LSNs
abbrev pub free_in : Window → ℕ
free_in w = min (w.size - length w.bytes) (LSN_LIMIT - 1 - end_of w)

-- the bytes below this LSN are gone
abbrev pub raised : ℕ → Window → Window
raised lsn w = record { floor = lsn; bytes = drop (lsn - w.floor) w.bytes; size = w.size }

-- these bytes stand behind the others
abbrev pub appended : List ℕ → Window → Window
appended bytes w = record { floor = w.floor; bytes = w.bytes ++ bytes; size = w.size }

-- an empty ring
abbrev pub empty : ℕ → Window
empty size = record { floor = FIRST_LSN; bytes = []; size = size }

-- Bytes were appended, or there were more than were free, and nothing has changed.
abbrev pub Appends : List ℕ → Window → Window → Result ℕ LogFull → Type 0
Appends bytes old new (Ok end) =
    (length bytes ≤ free_in old) × (new ≡ appended bytes old) × (end ≡ end_of new)
Appends bytes old new (Err full) =
    (free_in old < length bytes) × (full ≡ record { need = length bytes; free = free_in old })
    × (new ≡ old)

-- What contracts see of an archive: the bytes of the log that a session keeps.
use Rattle.std.specs.Prelude.{ℕ, ◌≡◌, ◌≤◌, ◌<◌, ◌+◌, ◌-◌, ◌++◌, min, refl}
use Rattle.std.specs.Prelude.{List, [], length, take, drop}
use Rattle.std.specs.Prelude.{Option, None, Some, unwrap_or, option_map, option_and_then}
use Rattle.std.specs.Prelude.{Result, Ok, Err, nat_lt, if◌then◌else◌}
use Rattle.std.specs.Option.{ForSome}
use Rattle.std.specs.Coded.{Coded, code_by, coded×, coded_ℕ, coded_list, coded_option}
use Rattle.clone_base.specs.declared.limits.TheConstants.{LSN_LIMIT}
use Rattle.clone_ring.specs.Window.{Window, end_of}
use Rattle.clone_archive.specs.declared.archive_behind.ArchiveBehind.{ArchiveBehind}

-- the LSN of the first byte that is kept, the bytes of the log from there on, and where archiving
-- ends, once that is fixed
pub record Archived : Type 0 where
  pub start : ℕ
  pub bytes : List ℕ
  pub stop : Option ℕ

abbrev pub archived_code : Coded Archived
archived_code =
    code_by (ℕ × (List ℕ × Option ℕ))
    (coded× coded_ℕ (coded× (coded_list coded_ℕ) (coded_option coded_ℕ)))
    (λ a. (a.start, (a.bytes, a.stop)))
    (λ p. record { start = p.0; bytes = p.1.0; stop = p.1.1 }) (λ _. refl)

-- the archived LSN: the one behind the last byte that is kept
abbrev pub archived_of : Archived → ℕ
archived_of a = a.start + length a.bytes

-- where archiving ends: at the fixed end, or at this end of the log
abbrev pub until : Archived → ℕ → ℕ
until a end = unwrap_or a.stop end

-- no bytes yet, from this LSN on
abbrev pub begun : ℕ → Archived
begun checkpoint = record { start = checkpoint; bytes = []; stop = None }

-- archiving ends here
abbrev pub stopped : ℕ → Archived → Archived
stopped end a = record { start = a.start; bytes = a.bytes; stop = Some end }

-- n more bytes of the ring behind the others
abbrev pub copied : ℕ → Archived → Window → Archived
copied n a ring = record {
  start = a.start;
  bytes = a.bytes ++ take n (drop (archived_of a - ring.floor) ring.bytes);
  stop = a.stop;
}

-- how many bytes of the ring come next: as many as are left up to where archiving ends, but no more
-- than the limit
abbrev pub next_count : ℕ → Archived → Window → ℕ
next_count limit a ring = min limit (until a (end_of ring) - archived_of a)

-- the archived LSN while archiving hasn't ended, since the ring's bytes are needed from there on
abbrev pub unless_reached : Option ℕ → ℕ → Option ℕ
unless_reached None archived = Some archived
unless_reached (Some end) archived = if nat_lt archived end then Some archived else None

-- from which LSN on the bytes of the ring are needed, if any are
abbrev pub kept_from : Option Archived → Option ℕ
kept_from None = None
kept_from (Some a) = unless_reached a.stop (archived_of a)

abbrev pub start_of : Option Archived → Option ℕ
start_of archive = option_map (λ a. a.start) archive

abbrev pub archived_in : Option Archived → Option ℕ
archived_in archive = option_map archived_of archive

-- the fixed end
abbrev pub end_in : Option Archived → Option ℕ
end_in archive = option_and_then (λ a. a.stop) archive

-- Bytes were read, or the archive has too few, and the slice is as it was.
abbrev pub Reads : ℕ → List ℕ → List ℕ → Archived → Result Unit ArchiveBehind → Type 0
Reads from old new a (Ok _) =
    (from + length old ≤ archived_of a) × (new ≡ take (length old) (drop (from - a.start) a.bytes))
Reads from old new a (Err behind) =
    (archived_of a < from + length old)
    × (behind ≡ record { archived = archived_of a; until = from + length old }) × (new ≡ old)

-- what every archive keeps: it ends below the limit of LSNs, and not past the fixed end
pub record IsArchived (a : Archived) : Type 0 where
  pub below : archived_of a < LSN_LIMIT
  pub before_end : ForSome a.stop (λ end. archived_of a ≤ end)
  pub end_below : ForSome a.stop (λ end. end < LSN_LIMIT)

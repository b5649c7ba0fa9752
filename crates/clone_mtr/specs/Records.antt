-- Which records and mini-transactions there are.
use Rattle.std.specs.Prelude.{◌<◌, ◌≤◌, ◌^◌, List, length}
use Rattle.std.specs.List.{AllByRecursion}
use Rattle.clone_page.specs.Header.{IsAllowed}
use Rattle.clone_mtr.specs.Patches.{AreBytes}
use Rattle.clone_mtr.specs.declared.record.Record.{Record}
use Rattle.clone_mtr.specs.declared.record.Record.TheVariants.{Init, Write, Extend, Create, Drop}

-- the numbers of a record are in their ranges, and a write lies within the bytes that a write may
-- name
abbrev pub IsRecord : Record → Type 0
IsRecord (Init space page kind) = (space < 2 ^ 32) × (page < 2 ^ 32)
IsRecord (Write space page patch) =
    (space < 2 ^ 32) × (page < 2 ^ 32) × IsAllowed patch.offset (length patch.bytes)
    × AreBytes patch.bytes
IsRecord (Extend space pages) = (space < 2 ^ 32) × (pages < 2 ^ 32)
IsRecord (Create space pages) = (space < 2 ^ 32) × (pages < 2 ^ 32)
IsRecord (Drop space) = space < 2 ^ 32

-- one record or more, each in its ranges
abbrev pub IsMtr : List Record → Type 0
IsMtr records = (1 ≤ length records) × AllByRecursion IsRecord records

-- The redo bytes of a disk, which are read from their front a mini-transaction at a time.
use Rattle.std.specs.Prelude.{ℕ, ◌≡◌, ◌<◌, ◌≤◌, ◌+◌, ◌-◌, ◌*◌, min, List, [], ◌++◌, length, take, drop, slice_range, get_or, unwrap_or, ⊤}
use Rattle.std.specs.declared.option.Option.{Option}
use Rattle.std.specs.List.{flat_map, AllByRecursion}
use Rattle.std.specs.FinMap as finite
use Rattle.clone_base.specs.declared.limits.TheConstants.{PAGE_SIZE}
use Rattle.clone_outside.specs.Disk.{DiskImage, ForTold, GivesQuiet}
use Rattle.clone_outside.specs.declared.mark.CloneEnd.{CloneEnd}
use Rattle.clone_mtr.specs.declared.record.Record.{Record}
use Rattle.clone_mtr.specs.declared.record.Record.TheVariants.{Init, Write, Extend, Create, Drop}
use Rattle.clone_mtr.specs.Spelling.{log_of, Spells}
use Rattle.clone_image.specs.Replay.{IsSpelled}
use Rattle.clone_overlay.specs.Images.{redo_space, bytes_of, IsQuiet}
use Rattle.clone_recover.specs.declared.log.Log.{Log}
use Rattle.clone_recover.specs.declared.refusal.Why.TheVariants as why
use Rattle.clone_recover.specs.declared.refusal.RecoverRefusal.{RecoverRefusal}
use Rattle.clone_recover.specs.declared.refusal.RecoverRefusal.TheVariants.{Incomplete, Damaged, DiskFault, NoMemory}

-- the space that a record names
abbrev pub named_space : Record → ℕ
named_space (Init space number kind) = space
named_space (Write space number patch) = space
named_space (Extend space count) = space
named_space (Create space count) = space
named_space (Drop space) = space

-- a record of a table or of the system space
abbrev pub IsOfTable : Record → Type 0
IsOfTable r = named_space r < redo_space

abbrev pub AreOfTables : List (List Record) → Type 0
AreOfTables mtrs = AllByRecursion (λ records. AllByRecursion IsOfTable records) mtrs

-- the pages of the redo's space
abbrev pub redo_pages : DiskImage → List (List ℕ)
redo_pages m = bytes_of (unwrap_or (finite.get m.spaces redo_space) [])

-- the bytes of pages, one page after the other
abbrev pub joined : List (List ℕ) → List ℕ
joined pages = flat_map (λ page. page) pages

-- so many redo bytes, from the front of the redo's pages
abbrev pub redo_of : DiskImage → ℕ → List ℕ
redo_of m count = take count (joined (redo_pages m))

-- how many redo bytes a clone has
abbrev pub redo_length : CloneEnd → ℕ
redo_length end = end.lsn - end.checkpoint

-- The first redo bytes of a disk, so many, are these mini-transactions, which name tables and the
-- system space alone.
pub record IsRedo (m : DiskImage) (total : ℕ) (mtrs : List (List Record)) : Type 0 where
  pub each : AllByRecursion IsSpelled mtrs
  pub tables : AreOfTables mtrs
  pub text : redo_of m total ≡ log_of mtrs
  pub whole : length (log_of mtrs) ≡ total

-- the first redo bytes of a disk, so many, are a log
abbrev pub HasRedo : DiskImage → ℕ → Type 0
HasRedo m total = (mtrs : List (List Record)) × IsRedo m total mtrs

-- how many bytes of a log were read, and how many it has
abbrev pub read_of : Log → ℕ
read_of log = log.at

abbrev pub total_of : Log → ℕ
total_of log = log.total

-- The page with the next byte is at hand, and the one behind it, as far as the log goes.
pub record IsAtHand (m : DiskImage) (log : Log) : Type 0 where
  pub available : log.available ≡ min log.total (PAGE_SIZE * length (redo_pages m))
  pub front : PAGE_SIZE * log.first < log.available
      → take PAGE_SIZE log.window ≡ get_or (redo_pages m) log.first []
  pub back : PAGE_SIZE * (log.first + 1) < log.available
      → drop PAGE_SIZE log.window ≡ get_or (redo_pages m) (log.first + 1) []
  pub long : (page : ℕ) → page < log.first + 2 → PAGE_SIZE * page < log.available
      → length (get_or (redo_pages m) page []) ≡ PAGE_SIZE

-- where the first page at hand begins
abbrev pub base_of : Log → ℕ
base_of log = PAGE_SIZE * log.first

-- the bytes at hand that weren't read
abbrev pub rest_of : Log → List ℕ
rest_of log = slice_range log.window (log.at - base_of log)
    (min (log.available - base_of log) (2 * PAGE_SIZE))

-- bytes are left of the log, and the first of them is on the first page at hand
pub record HasNext (log : Log) : Type 0 where
  pub near : read_of log ≤ base_of log + PAGE_SIZE
  pub some : read_of log < total_of log

-- This mini-transaction, of so many bytes, is next, and it names tables and the system space alone.
pub record IsAhead (log : Log) (next : List Record × ℕ) : Type 0 where
  pub spelled : Spells (take next.1 (rest_of log)) next.0
  pub within : next.1 ≤ length (rest_of log)
  pub tables : AllByRecursion IsOfTable next.0

-- the bytes of a page of the redo are put at an offset of the window
pub record Puts (told : Option DiskImage) (page to : ℕ) (old new : List ℕ) : Type 0 where
  pub bytes : List ℕ
  pub long : length bytes ≡ PAGE_SIZE
  pub given : ForTold told (λ m. GivesQuiet m redo_space page bytes)
  pub is : new ≡ take to old ++ (bytes ++ drop (to + PAGE_SIZE) old)

-- a page is read to an offset of the window, if the log has bytes on it
pub record Loads (told : Option DiskImage) (page to : ℕ) (old new : Log) : Type 0 where
  pub past : old.available ≤ PAGE_SIZE * page → new.window ≡ old.window
  pub puts : PAGE_SIZE * page < old.available → Puts told page to old.window new.window

-- these mini-transactions were read from the front of a disk's redo
pub record HasRead (m : DiskImage) (done : List (List Record)) (log : Log) : Type 0 where
  pub hand : IsAtHand m log
  pub each : AllByRecursion IsSpelled done
  pub tables : AreOfTables done
  pub text : redo_of m log.at ≡ log_of done
  pub long : length (log_of done) ≡ log.at

abbrev pub ReadsOn : Option DiskImage → List (List Record) → Log → Type 0
ReadsOn told done log = ForTold told (λ m. IsQuiet m → HasRead m done log)

-- what was read of a quiet disk stays so
abbrev pub KeepsOn : Option DiskImage → Log → Log → Type 0
KeepsOn told old new =
    ForTold told (λ m. IsQuiet m → (done : List (List Record)) → HasRead m done old
    → HasRead m done new)

-- the first redo bytes of a disk, so many, are no log, if that is what a refusal says
abbrev pub IsNoRedo : DiskImage → ℕ → RecoverRefusal → Type 0
IsNoRedo m total Incomplete = ⊥
IsNoRedo m total (Damaged space page why.Header) = ⊥
IsNoRedo m total (Damaged space page why.Redo) = (space ≡ redo_space) × (HasRedo m total → ⊥)
IsNoRedo m total (Damaged space page why.Dictionary) = ⊥
IsNoRedo m total (Damaged space page why.Undo) = ⊥
IsNoRedo m total (Damaged space page why.Chain) = ⊥
IsNoRedo m total DiskFault = ⊤
IsNoRedo m total NoMemory = ⊤

abbrev pub HasRedoOn : Option DiskImage → ℕ → Type 0
HasRedoOn told total = ForTold told (λ m. IsQuiet m → HasRedo m total)

abbrev pub IsNoRedoOn : Option DiskImage → ℕ → RecoverRefusal → Type 0
IsNoRedoOn told total refusal = ForTold told (λ m. IsQuiet m → IsNoRedo m total refusal)

-- a refusal that names the redo's space, or memory ran out
abbrev pub IsOfRedo : RecoverRefusal → Type 0
IsOfRedo Incomplete = ⊥
IsOfRedo (Damaged space page why.Header) = ⊥
IsOfRedo (Damaged space page why.Redo) = space ≡ redo_space
IsOfRedo (Damaged space page why.Dictionary) = ⊥
IsOfRedo (Damaged space page why.Undo) = ⊥
IsOfRedo (Damaged space page why.Chain) = ⊥
IsOfRedo DiskFault = ⊥
IsOfRedo NoMemory = ⊤

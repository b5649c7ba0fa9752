-- Why the plain donor refuses a call: the first cause that stands, in the order of each call, or
-- none.
use Rattle.std.specs.Prelude.{ℕ, ◌==◌, ◌&&◌, not, nat_lt, Bool, true, false, length, if◌then◌else◌, is_none, None, Some}
use Rattle.std.specs.declared.option.Option.{Option}
use Rattle.std.specs.Option.{option_or, option_map}
use Rattle.std.specs.List.{range_with_len, find, list_any}
use Rattle.std.specs.FinMap as finite
use Rattle.std.specs.Ordering.{nat_cmp}
use Rattle.clone_base.specs.declared.limits.TheConstants.{CHANGE_LIMIT, TABLE_LIMIT, TRANSACTION_LIMIT, VALUE_LIMIT}
use Rattle.clone_model.specs.declared.change.Commit.{Commit}
use Rattle.clone_plain.specs.declared.refusal.Cause.{Cause}
use Rattle.clone_plain.specs.declared.refusal.Cause.TheVariants.{NoSuchTrx, NoSuchTable, TableExists, RowLocked, ValueTooLong, UndoFull, TooManyTransactions, TooManyTables, TableInUse}
use Rattle.clone_plain.specs.Donor.{Donor, Locks, changes_of}

-- a cause where it stands
abbrev pub whether : Bool → Cause → Option Cause
whether true cause = Some cause
whether false cause = None

-- no open transaction has this number
abbrev pub no_trx : Donor → ℕ → Option Cause
no_trx d trx = whether (not (finite.contains_key d.active trx)) NoSuchTrx

-- no table has this number
abbrev pub no_table : Donor → ℕ → Option Cause
no_table d table = whether (not (finite.contains_key d.tables table)) NoSuchTable

-- the value has too many bytes
abbrev pub too_long : ℕ → Option Cause
too_long long = whether (nat_lt VALUE_LIMIT long) ValueTooLong

-- the transaction has as many changes as it may have
abbrev pub undo_full : Donor → ℕ → Option Cause
undo_full d trx = whether (length (changes_of d trx) == CHANGE_LIMIT) UndoFull

-- another transaction holds the row's lock
abbrev pub locked_by : ℕ → Option ℕ → Option Cause
locked_by trx None = None
locked_by trx (Some holder) = if holder == trx then None else Some (RowLocked holder)

abbrev pub row_locked : Donor → ℕ → ℕ → ℕ → Option Cause
row_locked d trx table key = locked_by trx (finite.get d.locks (table, key))

-- the least number below the limit of which no transaction is open, or none where each is taken
unfoldable pub least_unused : finite.FinMap nat_cmp Commit → Option ℕ
least_unused active =
    find (λ trx. not (finite.contains_key active trx)) (range_with_len 0 TRANSACTION_LIMIT)

-- whether a transaction holds the lock of a row of a table
abbrev pub holds_in : Locks → ℕ → ℕ → Bool
holds_in locks table trx =
    list_any (λ e. (e.0.0 == table) && (e.1 == trx)) (finite.entries locks)

-- the least transaction that holds the lock of a row of a table, or none
unfoldable pub least_holder : Locks → ℕ → Option ℕ
least_holder locks table = find (holds_in locks table) (range_with_len 0 TRANSACTION_LIMIT)

abbrev pub create_cause : Donor → ℕ → Option Cause
create_cause d table =
    option_or (whether (finite.contains_key d.tables table) TableExists)
    (whether (finite.len d.tables == TABLE_LIMIT) TooManyTables)

abbrev pub drop_cause : Donor → ℕ → Option Cause
drop_cause d table =
    option_or (no_table d table) (option_map TableInUse (least_holder d.locks table))

abbrev pub begin_cause : Donor → Option Cause
begin_cause d = whether (is_none (least_unused d.active)) TooManyTransactions

-- of a change whose value has so many bytes; a removal has none
abbrev pub change_cause : Donor → ℕ → ℕ → ℕ → ℕ → Option Cause
change_cause d trx table key long =
    option_or (no_trx d trx) (option_or (too_long long) (option_or (no_table d table)
    (option_or (undo_full d trx) (row_locked d trx table key))))

abbrev pub get_cause : Donor → ℕ → ℕ → ℕ → Option Cause
get_cause d trx table key =
    option_or (no_trx d trx) (option_or (no_table d table) (row_locked d trx table key))

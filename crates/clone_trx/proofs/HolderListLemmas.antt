-- Whether a transaction holds the lock of a row of a table, as its list of rows tells it.
use Rattle.std.proofs.Common.{eq-eqb}
use Rattle.std.proofs.lemmas.List.Folds.{Any-from_list_any, list_any-from_Any}
use Rattle.std.specs.FinMap as finite
use Rattle.clone_plain.proofs.HolderLemmas.{held_holds, holds_held}
use Rattle.clone_plain.specs.Causes.{least_holder}
use Rattle.clone_trx.proofs.Common.{◌≡◌, ◌<◌, ◌==◌, ◌∙◌, Some, ℕ, Bool, true, false, refl, sym, ap, arith, eqb-true, find, get_or, Vec, Global, true≢false, holds_in, list_any, range_with_len, Locks, Lists, list_at, AreListed, TRANSACTION_LIMIT}
use Rattle.clone_trx.proofs.LockListLemmas.{RowName, list_at_item}

pub list_holds : (h : Locks) (lists : Lists) (table trx : ℕ) → AreListed h lists → list_any (λ (row : RowName). row.0 == table) (list_at lists trx) ≡ holds_in h table trx
list_holds h lists table trx is = by (list_any is_of (list_at lists trx)) refl (holds_in h table trx) refl
  where
    is_of : RowName → Bool
    is_of row = row.0 == table

    by : (a : Bool) → list_any is_of (list_at lists trx) ≡ a → (b : Bool) → holds_in h table trx ≡ b → list_any is_of (list_at lists trx) ≡ holds_in h table trx
    by true own b holds =
        let on = Any-from_list_any is_of (list_at lists trx) own in
        let held : finite.get h on.1 ≡ Some trx = is.held trx on.1 (on.0, on.2, on.3) in
        let same : on.1 ≡ (table, on.1.1) = ap (λ (t : ℕ). (t, on.1.1)) (eqb-true on.1.0 table on.4) in
        own ∙ sym (held_holds h table on.1.1 trx (ap (finite.get h) (sym same) ∙ held))
    by false none false lacks = none ∙ sym lacks
    by false none true holds =
        let on = holds_held h table trx holds in
        let among = is.listed trx (table, on.0) on.1 in
        absurd (true≢false (sym (list_any-from_Any is_of (list_at lists trx) (among.0, (table, on.0), among.1, among.2, eq-eqb table table refl)) ∙ none))

-- what the list at the number of a transaction tells of the locks
pub list_tells : (h now : Locks) (lists : Lists) (table trx : ℕ) (rows : Vec RowName Global) (found : Bool) → AreListed h lists → h ≡ now → trx < TRANSACTION_LIMIT → rows ≡ get_or lists trx rows → found ≡ list_any (λ (row : RowName). row.0 == table) rows.items → found ≡ holds_in now table trx
list_tells h now lists table trx rows found is same low at tells =
    tells ∙ ap (list_any (λ (row : RowName). row.0 == table)) (list_at_item lists trx rows (omega (arith, low, is.count)) at) ∙ list_holds h lists table trx is ∙ ap (λ (m : Locks). holds_in m table trx) same

pub least_holder-found : (h : Locks) (table : ℕ) → least_holder h table ≡ find (holds_in h table) (range_with_len 0 TRANSACTION_LIMIT)
unfolding least_holder
least_holder-found h table = refl

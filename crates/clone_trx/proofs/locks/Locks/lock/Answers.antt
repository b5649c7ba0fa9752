use Rattle.std.proofs.Common.{length-set}
use Rattle.clone_trx.proofs.Common.{◌≡◌, ◌∙◌, ◌<◌, ◌++◌, ◌∷◌, [], sym, ap, subst, refl, arith, length, None, List, is_some, slice_set, row_cmp_total, row_cmp_exact, Locks, Lists, AreListed, holders_of, get_listed, inserted, inserted_same, none-some}
use Rattle.std.specs.FinMap as finite
use Rattle.clone_trx.proofs.LockListLemmas.{RowName, same_listed, more_listed, list_at_item, own_row}
use Rattle.clone_trx.proofs.WriteLemmas.{is_none}
use Rattle.clone_trx.proofs.locks.Locks.lock.Goals as goal

pub returns-then-contains_key-clause-ok : goal.returns-then-contains_key-clause-ok
returns-then-contains_key-clause-ok c =
    let row : RowName = (c.args.table, c.args.key) in
    let at = ap (λ (m : Locks). finite.get m row) (sym c.self.view_is) ∙ get_listed row_cmp_total c.self.inside.holders row in
    inserted_same row_cmp_total row_cmp_exact c.args.self.now row c.args.trx (own_row (finite.get c.args.self.now row) c.args.trx (ap is_some at ∙ sym c.contains_key.ensures ∙ c.if-contains_key.true) c.requires.free)

pub invariant_of-self : goal.invariant_of-self
invariant_of-self c =
    let h = holders_of c.self.inside.holders.entries in
    let lt : c.args.trx < length c.self.inside.rows.items = omega (arith, c.requires.open, c.self.invariant.count) in
    same_listed h h c.self.inside.rows.items c.args.trx c.reserve.new.self refl lt (c.in_err-reserve.ensures.items ∙ list_at_item c.self.inside.rows.items c.args.trx c.index_mut.result.now lt c.index_mut.ensures.value) c.self.invariant

pub returns-in_err-reserve-clause-without_memory : goal.returns-in_err-reserve-clause-without_memory
returns-in_err-reserve-clause-without_memory c =
    let row : RowName = (c.args.table, c.args.key) in
    let at = ap (λ (m : Locks). finite.get m row) (sym c.self.view_is) ∙ get_listed row_cmp_total c.self.inside.holders row in
    λ e. absurd (none-some c.args.trx (sym (is_none (finite.get c.args.self.now row) (ap is_some at ∙ sym c.contains_key.ensures ∙ c.if-contains_key.false)) ∙ e))

pub invariant_of-self-in_err-insert : goal.invariant_of-self-in_err-insert
invariant_of-self-in_err-insert c =
    let h = holders_of c.self.inside.holders.entries in
    let lt : c.args.trx < length c.self.inside.rows.items = omega (arith, c.requires.open, c.self.invariant.count) in
    same_listed h (holders_of c.insert.new.self.entries) c.self.inside.rows.items c.args.trx c.reserve.new.self (ap holders_of c.in_err-insert.ensures.err) lt
    (c.in_ok-reserve.ensures.items ∙ list_at_item c.self.inside.rows.items c.args.trx c.index_mut.result.now lt c.index_mut.ensures.value) c.self.invariant

pub returns-in_err-insert-clause-without_memory : goal.returns-in_err-insert-clause-without_memory
returns-in_err-insert-clause-without_memory c =
    let row : RowName = (c.args.table, c.args.key) in
    let at = ap (λ (m : Locks). finite.get m row) (sym c.self.view_is) ∙ get_listed row_cmp_total c.self.inside.holders row in
    λ e. absurd (none-some c.args.trx (sym (is_none (finite.get c.args.self.now row) (ap is_some at ∙ sym c.contains_key.ensures ∙ c.if-contains_key.false)) ∙ e))

pub invariant_of-self-2 : goal.invariant_of-self-2
invariant_of-self-2 c =
    let row : RowName = (c.args.table, c.args.key) in
    let h = holders_of c.self.inside.holders.entries in
    let lists : Lists = slice_set c.self.inside.rows.items c.args.trx c.reserve.new.self in
    let lt : c.args.trx < length c.self.inside.rows.items = omega (arith, c.requires.open, c.self.invariant.count) in
    let within : c.args.trx < length lists = omega (arith, lt, length-set c.self.inside.rows.items c.args.trx c.reserve.new.self) in
    let before : AreListed h lists =
    same_listed h h c.self.inside.rows.items c.args.trx c.reserve.new.self refl lt (c.in_ok-reserve.ensures.items ∙ list_at_item c.self.inside.rows.items c.args.trx c.index_mut.result.now lt c.index_mut.ensures.value) c.self.invariant in
    let free : finite.get h row ≡ None = is_none (finite.get h row) (ap is_some (get_listed row_cmp_total c.self.inside.holders row) ∙ sym c.contains_key.ensures ∙ c.if-contains_key.false) in
    subst (λ (m : Locks). AreListed m (slice_set lists c.args.trx c.push_reserved.new.self))
    (sym (inserted row_cmp_total row_cmp_exact c.self.inside.holders c.insert.new.self row c.args.trx c.in_ok-insert.ensures.updates))
    (more_listed h lists c.args.trx row c.push_reserved.new.self within free
    (c.push_reserved.ensures.items ∙ ap (λ (xs : List RowName). xs ++ row ∷ []) (list_at_item lists c.args.trx c.index_mut-2.result.now within c.index_mut-2.ensures.value))
    before)

pub returns-clause-ok : goal.returns-clause-ok
returns-clause-ok c =
    let row : RowName = (c.args.table, c.args.key) in
    inserted row_cmp_total row_cmp_exact c.self.inside.holders c.insert.new.self row c.args.trx c.in_ok-insert.ensures.updates ∙ ap (λ (m : Locks). finite.insert m row c.args.trx) c.self.view_is

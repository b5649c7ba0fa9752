use Rattle.std.specs.FinMap as finite
use Rattle.clone_trx.proofs.Common.{◌≡◌, ◌-◌, ◌%◌, [], ℕ, ap, sym, ◌∙◌, arith, Option, Some, unwrap_or, option_map, entry_on, IsEntry, UndoEntry, page_number, same_Some}
use Rattle.clone_trx.proofs.KeySlotLemmas.{in_ranges}
use Rattle.clone_trx.proofs.LastRecordLemmas.{IsOf, before_other}
use Rattle.clone_trx.proofs.LastUndoLemmas.{there}
use Rattle.clone_trx.proofs.transactions.Transactions.entry_of.Goals as goal
use Rattle.clone_trx.proofs.transactions.Transactions.entry_of.Goals.{in_default-last_record-via-in-Some-last_record+then-table+else-key, in_default-last_record-via-in-Some-last_record+else-table, in_default-last_record-via-in_default-last_record}

-- the number of the row's page
bucket : (key bucket : ℕ) (found : Option ℕ) (count : ℕ) → found ≡ Some count → Some bucket ≡ option_map (λ n. key % n) found → bucket ≡ key % unwrap_or found 0
bucket key n found count is told =
    same_Some n (key % count) (told ∙ ap (λ (o : Option ℕ). option_map (λ n. key % n) o) is) ∙ ap (λ (o : Option ℕ). key % unwrap_or o 0) (sym is)

pub new-requires : goal.new-requires
new-requires c =
    let d = c.args.self.now in
    let table = there (finite.get d.tables c.args.table) c.requires.table in
    let ranges = in_ranges d c.args.table c.args.key table.0 c.laws.ensures.safe.tables table.1 in
    let number = bucket c.args.key c.in-Some.bucket (finite.get d.tables c.args.table) table.0 table.1 c.in-Some.ensures.number in
    (ranges.0, ranges.1, omega (arith, ranges.2, number), omega arith)

pub returns-in_default-last_record : goal.returns-in_default-last_record
returns-in_default-last_record c =
    let d = c.args.self.now in
    let e : UndoEntry = entry_on (c.args.count - 1) c.args.page.now in
    let table = there (finite.get d.tables c.args.table) c.requires.table in
    let ranges = in_ranges d c.args.table c.args.key table.0 c.laws.ensures.safe.tables table.1 in
    let number : c.in-Some.bucket ≡ page_number d c.args.table c.args.key = bucket c.args.key c.in-Some.bucket (finite.get d.tables c.args.table) table.0 table.1 c.in-Some.ensures.number in
    let not : IsOf c.args.table c.args.key e → IsEntry e → ⊥ = λ o is. elim c.in_default-last_record.branch [
      | in_default-last_record-via-in-Some-last_record+then-table+else-key w ↦ w.if-key.false (w.key.ensures ∙ ap (λ (x : UndoEntry). x.key) w.in-Some-last_record.ensures.some ∙ o.key)
      | in_default-last_record-via-in-Some-last_record+else-table w ↦ w.if-table.false (w.table.ensures ∙ ap (λ (x : UndoEntry). x.table) w.in-Some-last_record.ensures.some ∙ o.table)
      | in_default-last_record-via-in_default-last_record w ↦ w.in_default-last_record.ensures.none is
    ] in
    c.new.ensures
    ∙ (λ i. record { table = c.args.table; page = number i; slot = 0; state = 2; key = c.args.key; value = [] })
    ∙ sym (before_other d c.args.table c.args.key e not ranges.0 ranges.1 c.ranges.key.fits)

use Rattle.std.specs.FinMap as finite
use Rattle.clone_trx.proofs.Common.{◌≡◌, ◌≤◌, ℕ, List, Some, sym, ap, subst, ◌∙◌, arith, IsTrue, Buffered, image_of, IsOnPage, written, is_new, system_page, HasRoom, page_in, AllByRecursion, Record, header_page, records_of_begin, after_records, page_of, all_pages-is, is_unused, len-below, Donor, begun, donor_of, IsKept, IsSafe}
use Rattle.clone_trx.proofs.ScanLemmas.{least_free_is}
use Rattle.clone_trx.proofs.SpellingLengths.{begin_written}
use Rattle.clone_trx.proofs.PlacedLemmas.{begin_there}
use Rattle.clone_trx.proofs.SystemPageLemmas.{header_there, page_shown}
use Rattle.clone_trx.proofs.SafeLemmas.{begun_safe}
use Rattle.clone_trx.proofs.KeptLemmas.{begin_keeps}
use Rattle.clone_trx.proofs.WriteLemmas.{written_kept}
use Rattle.clone_trx.proofs.transactions.Transactions.begin_held.Goals as goal

pub begin_records-records-requires : goal.begin_records-records-requires
begin_records-records-requires c = (least_free_is c.args.self.now c.args.trx c.requires.number).0

pub write_held-requires-clause-there : goal.write_held-requires-clause-there
write_held-requires-clause-there c = λ right.
    let page : List ℕ = page_in c.args.at c.args.buffer.now in
    let image = image_of c.args.buffer.now in
    let records = begin_written page c.frame.result.now c.args.trx c.args.writer c.args.index c.first_record.result c.begin_records-records.result c.records_from-records.result.now c.frame.ensures.bytes c.first_record.ensures c.begin_records-records.ensures c.records_from-records.ensures in
    let there = header_there image c.args.trx (c.requires.kept right).formed (least_free_is c.args.self.now c.args.trx c.requires.number).0 in
    subst (λ (rs : List Record). AllByRecursion (IsOnPage image) rs) (sym records) (begin_there image (is_new page) c.args.trx c.args.writer c.args.index there)

abbrev new : goal.After-array_drop-records-2 → Donor
new c = donor_of c.self.inside.tables c.begin.new.self c.self.inside.locks c.reserve.new.self.commits c.self.inside.drops.list

made : (c : goal.After-array_drop-records-2) → new c ≡ begun c.args.trx c.args.writer c.args.index c.args.self.now
made c =
    (λ i. donor_of c.self.inside.tables (c.in_ok-begin.ensures.ok i) c.self.inside.locks (c.in_ok-reserve.ensures.same i) c.self.inside.drops.list)
    ∙ ap (begun c.args.trx c.args.writer c.args.index) c.self.view_is

records : (c : goal.After-array_drop-records-2) → c.records_from-records.result.now ≡ records_of_begin (is_new (page_in c.args.at c.args.buffer.now)) c.args.trx c.args.writer c.args.index
records c = begin_written (page_in c.args.at c.args.buffer.now) c.frame.result.now c.args.trx c.args.writer c.args.index c.first_record.result c.begin_records-records.result c.records_from-records.result.now c.frame.ensures.bytes c.first_record.ensures c.begin_records-records.ensures c.records_from-records.ensures

pub invariant_of-self-2 : goal.invariant_of-self-2
invariant_of-self-2 c =
    let d = donor_of c.self.inside.tables c.self.inside.active c.self.inside.locks c.self.inside.binlog.commits c.self.inside.drops.list in
    let small = (least_free_is c.args.self.now c.args.trx c.requires.number).0 in
    let is : begun c.args.trx c.args.writer c.args.index d ≡ new c = ap (begun c.args.trx c.args.writer c.args.index) c.self.view_is ∙ sym (made c) in
    let safe : IsSafe (new c) = subst IsSafe is (begun_safe d c.args.trx c.args.writer c.args.index small c.self.invariant.0) in
    let few : finite.len c.begin.new.self ≤ 64 = len-below 64 c.begin.new.self safe.locked.few.numbers in
    (safe, omega (arith, few, c.in_ok-reserve.ensures.ok))

pub returns-clause-written : goal.returns-clause-written
returns-clause-written c =
    subst (λ (rs : List Record). HasRoom rs c.args.buffer.now × (c.write_held.new.buffer ≡ written rs c.args.buffer.now)) (records c) (c.in_ok-check_room.ensures.room, c.write_held.ensures.written)

pub returns-clause-kept : goal.returns-clause-kept
returns-clause-kept c =
    let d = c.args.self.now in
    let old : Buffered = c.args.buffer.now in
    let page : List ℕ = page_in c.args.at old in
    let header : ℕ = header_page c.args.trx in
    let small = (least_free_is d c.args.trx c.requires.number).0 in
    let keeps : IsTrue old.right → (lsn : ℕ) → IsKept (new c) (after_records lsn (image_of old) c.records_from-records.result.now) = λ right lsn.
    let kept = c.requires.kept right in
    let shown : page_of (image_of old) 0 header ≡ Some page = page_shown (image_of old) old.pool.frames (system_page header) c.args.at (c.laws.ensures.buffer.shows right) c.requires.held (header_there (image_of old) c.args.trx kept.formed small) in
    let unused : is_unused (image_of old) 0 header ≡ is_new page = ap is_new (all_pages-is (image_of old) 0 header page shown) in
    let P : Donor × List Record → Type 0 = λ p. IsKept p.0 (after_records lsn (image_of old) p.1) in
    subst P (λ i. (sym (made c) i, (ap (λ b. records_of_begin b c.args.trx c.args.writer c.args.index) unused ∙ sym (records c)) i))
    (begin_keeps lsn c.args.trx c.args.writer c.args.index d (image_of old) kept c.requires.number c.ranges.writer.fits c.ranges.index.fits)
    in
    written_kept (new c) old c.write_held.new.buffer c.records_from-records.result.now c.write_held.ensures.written keeps

use Rattle.clone_space.specs.Entries.{FindsFree}
use Rattle.clone_space.specs.Records.{entry_record}
use Rattle.clone_trx.proofs.Common.{◌≡◌, ◌<◌, ℕ, List, [], ◌∷◌, Some, Err, inl, unwrap_or, sym, ap, subst, ◌∙◌, arith, ForTold, Steps, with_created, dictionary, records_of_create, Buffered, image_of, Creates, HasMade, with_made, Stands, written, number_of_free_entry, system_page, HasRoom, page_in, Record, page_of, after_records, Donor, created, donor_of, IsKept, IsSafe}
use Rattle.clone_trx.proofs.SafeLemmas.{created_safe}
use Rattle.clone_trx.proofs.KeptLemmas.{create_keeps}
use Rattle.clone_trx.proofs.CreateLemmas.{may_create, no_space, creates, donor_again}
use Rattle.clone_trx.proofs.DictionaryLemmas.{entry_is, entry_low, has_free}
use Rattle.clone_trx.proofs.SystemPageLemmas.{system_there, page_shown}
use Rattle.clone_trx.proofs.NewSpaceLemmas.{disk_made, disk_failed, has_made}
use Rattle.clone_trx.proofs.WriteLemmas.{written_kept}
use Rattle.clone_trx.proofs.transactions.Transactions.create_held.Goals as goal

-- Where the disk fails, the donor is as before.

pub invariant_of-self-in-Err : goal.invariant_of-self-in-Err
invariant_of-self-in-Err g c =
    let s = c.self.inside in
    let safe : IsSafe c.args.self.now = subst IsSafe c.self.view_is c.self.invariant.0 in
    let may = may_create c.args.self.now c.args.table safe.tables.few c.requires.cause in
    let again = donor_again s.tables c.insert.new.self c.remove.new.self s.active s.locks s.binlog.commits s.drops.list c.args.self.now c.args.table c.args.buckets c.self.view_is may.0 c.in_ok-insert.ensures.ok c.remove.ensures in
    (subst IsSafe (sym again) safe, c.self.invariant.1)

pub returns-in-Err-clause-donor : goal.returns-in-Err-clause-donor
returns-in-Err-clause-donor g c =
    let s = c.self.inside in
    let safe : IsSafe c.args.self.now = subst IsSafe c.self.view_is c.self.invariant.0 in
    let may = may_create c.args.self.now c.args.table safe.tables.few c.requires.cause in
    donor_again s.tables c.insert.new.self c.remove.new.self s.active s.locks s.binlog.commits s.drops.list c.args.self.now c.args.table c.args.buckets c.self.view_is may.0 c.in_ok-insert.ensures.ok c.remove.ensures

pub returns-in-Err-clause-kept : goal.returns-in-Err-clause-kept
returns-in-Err-clause-kept g c = λ right.
    let s = c.self.inside in
    let safe : IsSafe c.args.self.now = subst IsSafe c.self.view_is c.self.invariant.0 in
    let may = may_create c.args.self.now c.args.table safe.tables.few c.requires.cause in
    let again = donor_again s.tables c.insert.new.self c.remove.new.self s.active s.locks s.binlog.commits s.drops.list c.args.self.now c.args.table c.args.buckets c.self.view_is may.0 c.in_ok-insert.ensures.ok c.remove.ensures in
    subst (λ (d : Donor). IsKept d (image_of c.args.buffer.now)) (sym again) (c.requires.kept right)

pub returns-in-Err-clause-stands : goal.returns-in-Err-clause-stands
returns-in-Err-clause-stands g c =
    let safe : IsSafe c.args.self.now = subst IsSafe c.self.view_is c.self.invariant.0 in
    let may = may_create c.args.self.now c.args.table safe.tables.few c.requires.cause in
    disk_failed c.args.buffer.now c.args.table c.args.buckets c.laws.ensures.buffer (λ right. no_space c.args.self.now (image_of c.args.buffer.now) c.args.table (c.requires.kept right) c.requires.table.0 may.0)
    (g.D.PageDisk.state c.args.disk.now).told (g.D.PageDisk.state c.create.new.self).told c.in-Err.refusal (λ is. c.in-Err.ensures.takes.failed (ap Err is)) (λ is. c.in-Err.ensures.takes.memory (ap Err is))

-- Else the table is made.

pub invariant_of-self-in_default : goal.invariant_of-self-in_default
invariant_of-self-in_default g c =
    let s = c.self.inside in
    let safe : IsSafe c.args.self.now = subst IsSafe c.self.view_is c.self.invariant.0 in
    let may = may_create c.args.self.now c.args.table safe.tables.few c.requires.cause in
    let made : donor_of c.insert.new.self s.active s.locks s.binlog.commits s.drops.list ≡ created c.args.table c.args.buckets c.args.self.now =
    ap (λ m. donor_of m s.active s.locks s.binlog.commits s.drops.list) c.in_ok-insert.ensures.ok ∙ ap (created c.args.table c.args.buckets) c.self.view_is in
    (subst IsSafe (sym made) (created_safe c.args.self.now c.args.table c.args.buckets safe may.0 may.1 c.requires.table.0 c.requires.table.1 c.requires.buckets.0 c.requires.buckets.1), c.self.invariant.1)

-- the records are those of the first free entry of the page that is held
records : (g : _) (c : goal.After-array_drop-records-2 g) → c.create_records-records.result ≡ records_of_create (number_of_free_entry (page_in c.args.at c.args.buffer.now)) c.args.table c.args.buckets
records g c =
    c.create_records-records.ensures
    ∙ ap (λ (n : ℕ). records_of_create n c.args.table c.args.buckets) (c.unwrap_or-entry_number.ensures ∙ entry_is 0 c.frame.result.now c.least_free.result c.least_free.ensures)
    ∙ ap (λ (page : List ℕ). records_of_create (number_of_free_entry page) c.args.table c.args.buckets) c.frame.ensures.bytes

pub create_records-records-requires : goal.create_records-records-requires
create_records-records-requires g c = subst (λ (n : ℕ). n < 62) (sym c.unwrap_or-entry_number.ensures) (entry_low 0 (dictionary c.frame.result.now) c.least_free.result c.least_free.ensures)

pub write_space_held-requires-clause-creates : goal.write_space_held-requires-clause-creates
write_space_held-requires-clause-creates g c = λ right.
    let d = c.args.self.now in
    let safe : IsSafe d = subst IsSafe c.self.view_is c.self.invariant.0 in
    let may = may_create d c.args.table safe.tables.few c.requires.cause in
    let records : List Record = records_of_create c.unwrap_or-entry_number.result c.args.table c.args.buckets in
    subst (λ (rs : List Record). Creates c.args.buffer.now rs) {x = records} (sym c.create_records-records.ensures)
    (creates d c.args.buffer.now c.args.table c.args.buckets c.laws.ensures.buffer (c.requires.kept right) c.requires.table.0 may.0 (c.args.at, c.requires.held) c.requires.fresh right c.unwrap_or-entry_number.result)

pub returns-clause-written : goal.returns-clause-written
returns-clause-written g c =
    inl (subst (λ (rs : List Record). HasRoom rs c.args.buffer.now × (c.write_space_held.new.buffer ≡ written rs c.args.buffer.now)) (records g c) (c.in_ok-check_room.ensures.room, c.write_space_held.ensures.written))

pub returns-clause-kept : goal.returns-clause-kept
returns-clause-kept g c =
    let s = c.self.inside in
    let d = c.args.self.now in
    let old : Buffered = c.args.buffer.now in
    let page : List ℕ = page_in c.args.at old in
    let safe : IsSafe d = subst IsSafe c.self.view_is c.self.invariant.0 in
    let may = may_create d c.args.table safe.tables.few c.requires.cause in
    let finds : FindsFree (dictionary page) c.least_free.result = subst (λ (p : List ℕ). FindsFree (dictionary p) c.least_free.result) c.frame.ensures.bytes c.least_free.ensures in
    let entry_number : ℕ = unwrap_or c.least_free.result 0 in
    let made : donor_of c.insert.new.self s.active s.locks s.binlog.commits s.drops.list ≡ created c.args.table c.args.buckets d =
    ap (λ m. donor_of m s.active s.locks s.binlog.commits s.drops.list) c.in_ok-insert.ensures.ok ∙ ap (created c.args.table c.args.buckets) c.self.view_is in
    let same : c.create_records-records.result ≡ records_of_create entry_number c.args.table c.args.buckets = c.create_records-records.ensures ∙ ap (λ (n : ℕ). records_of_create n c.args.table c.args.buckets) c.unwrap_or-entry_number.ensures in
    written_kept (donor_of c.insert.new.self s.active s.locks s.binlog.commits s.drops.list) old c.write_space_held.new.buffer c.create_records-records.result c.write_space_held.ensures.written
    (λ right lsn.
    let kept = c.requires.kept right in
    let shown : page_of (image_of old) 0 0 ≡ Some page = page_shown (image_of old) old.pool.frames (system_page 0) c.args.at (c.laws.ensures.buffer.shows right) c.requires.held (system_there (image_of old) 0 kept.formed (omega arith)) in
    let P : Donor × List Record → Type 0 = λ p. IsKept p.0 (after_records lsn (image_of old) p.1) in
    subst P (λ i. (sym made i, sym same i))
    (create_keeps lsn entry_number c.args.table c.args.buckets d (image_of old) kept (entry_low 0 (dictionary page) c.least_free.result finds) (has_free d (image_of old) page c.least_free.result kept shown may.1 finds) may.0 may.1 c.requires.table.0 c.requires.table.1 c.requires.buckets.0 c.requires.buckets.1))

pub returns-clause-stands : goal.returns-clause-stands
returns-clause-stands g c = λ beside st.
    let before = (g.D.PageDisk.state c.args.disk.now).told in
    let after = (g.D.PageDisk.state c.create.new.self).told in
    let safe : IsSafe c.args.self.now = subst IsSafe c.self.view_is c.self.invariant.0 in
    let may = may_create c.args.self.now c.args.table safe.tables.few c.requires.cause in
    let step : Steps before after (λ m. with_created m c.args.table c.args.buckets) = c.in_default.ensures.takes.done in
    let stood = disk_made c.args.buffer.now c.args.table c.args.buckets c.laws.ensures.buffer (λ right. no_space c.args.self.now (image_of c.args.buffer.now) c.args.table (c.requires.kept right) c.requires.table.0 may.0) before after step beside st in
    let made = has_made before after c.args.table c.args.buckets (entry_record (number_of_free_entry (page_in c.args.at c.args.buffer.now)) (record { table = c.args.table; buckets = c.args.buckets; pages = c.args.buckets }) ∷ []) step in
    subst (λ (rs : List Record). ForTold after (HasMade rs) → Stands c.write_space_held.new.buffer (with_made rs beside) after) (records g c) (c.write_space_held.ensures.stands beside after stood) made

use Rattle.std.specs.List.{AllByRecursion}
use Rattle.clone_row.specs.Slots as rows
use Rattle.clone_undo.specs.Places.{header_page, record_page}
use Rattle.clone_buffer.specs.Writing as buffer
use Rattle.clone_trx.proofs.Common.{◌≡◌, ◌≤◌, ◌==◌, ℕ, Bool, true, Err, List, Result, length, drop, refl, sym, ap, subst, ◌∙◌, arith, IsSome, is_some, EditsPages, Buffered, image_of, HasFrame, IsOnPage, row_page, system_page, EngineRefusal, Because, NoMemory, HasRoom, Writes, Record, UndoEntry, spelling, longest, records_of_change, after_records, page_of, IsKept}
use Rattle.clone_trx.proofs.CauseLemmas.{may_change}
use Rattle.clone_trx.proofs.ChangeLemmas.{short_value, made_kept}
use Rattle.clone_trx.proofs.KeySlotLemmas.{slot_there}
use Rattle.clone_trx.proofs.PlacedLemmas.{held_frame, change_framed, change_there, change_edits}
use Rattle.clone_trx.proofs.SpellingLengths.{change_from, some_change, short_change}
use Rattle.clone_trx.proofs.SystemPageLemmas.{header_there, record_there}
use Rattle.clone_trx.proofs.WalkStepLemmas.{on_err}
use Rattle.clone_trx.proofs.WriteLemmas.{written_kept}
use Rattle.clone_trx.proofs.transactions.Transactions.write_from.Goals as goal

pub records_from-records-requires : goal.records_from-records-requires
records_from-records-requires c =
    let target = c.args.target.now in
    let some = some_change true target.is_new c.args.trx target.count target.entry (rows.image c.args.change.key c.args.change.value) in
    omega (arith, some, ap length c.requires.records, c.requires.ready.from_low)

-- the records that are written
same : (first trx count : ℕ) (is_new : Bool) (entry : UndoEntry) (image : List ℕ) (records written : List Record) → first ≤ 1 → records ≡ records_of_change true is_new trx count entry image → written ≡ drop first records → records_of_change (first == 0) is_new trx count entry image ≡ written
same first trx count is_new entry image records written few are is = sym (is ∙ ap (drop first) are ∙ change_from first is_new trx count entry image few)

pub check_room-requires : goal.check_room-requires
check_room-requires c =
    let t = c.args.target.now in
    let is = same c.args.first c.args.trx t.count t.is_new t.entry (rows.image c.args.change.key c.args.change.value) c.args.records.now c.records_from-records.result.now c.requires.ready.from_low c.requires.records c.records_from-records.ensures in
    record { short = subst (λ (rs : List Record). length (spelling rs) ≤ longest) is (short_change (c.args.first == 0) t.is_new c.args.trx t.count t.entry (rows.image c.args.change.key c.args.change.value) c.value.ensures.short c.requires.image) }

pub write_held-requires : goal.write_held-requires
write_held-requires c =
    let d = c.args.self.now in
    let trx : ℕ = c.args.trx in
    let change = c.args.change in
    let t = c.args.target.now in
    let e : UndoEntry = t.entry in
    let r = c.requires.ready in
    let frames = c.args.buffer.now.pool.frames in
    let pages = image_of c.args.buffer.now in
    let made : Bool = c.args.first == 0 in
    let image : List ℕ = rows.image change.key change.value in
    let is = same c.args.first c.args.trx t.count t.is_new t.entry (rows.image c.args.change.key c.args.change.value) c.args.records.now c.records_from-records.result.now c.requires.ready.from_low c.requires.records c.records_from-records.ensures in
    record {
      some = subst (λ (rs : List Record). 1 ≤ length rs) is (some_change made t.is_new trx t.count e image);
      short = subst (λ (rs : List Record). length (spelling rs) ≤ longest) is (short_change made t.is_new trx t.count e image c.value.ensures.short c.requires.image);
      room = c.in_ok-check_room.ensures.room;
      edits = subst (AllByRecursion EditsPages) is (change_edits made t.is_new trx t.count e image);
      framed = subst (AllByRecursion (HasFrame frames)) is
          (change_framed frames made t.is_new trx t.count e image (held_frame frames (system_page (record_page trx t.count)) r.undo) (held_frame frames (system_page (header_page trx)) r.header) (held_frame frames (row_page e) r.row));
      there = λ right.
          let kept = c.requires.kept right in
          let may = may_change d trx change.table change.key c.requires.cause.0 kept.sound.locked c.requires.cause.1 in
          let small = kept.sound.locked.few.numbers trx (ap is_some may.was_active) in
          let row_there = subst (λ (t : ℕ). IsSome (page_of pages t e.page)) (sym r.target.table) (slot_there d pages change.table change.key kept e.page e.slot (r.target.row_slot right)) in
          subst (AllByRecursion (IsOnPage pages)) is
          (change_there pages made t.is_new trx t.count e image (record_there pages trx t.count kept.formed small (omega (arith, may.few, r.target.count))) (header_there pages trx kept.formed small) row_there);
    }

pub returns-in_err-check_room-clause-written : goal.returns-in_err-check_room-clause-written
returns-in_err-check_room-clause-written c =
    let t = c.args.target.now in
    let b : Buffered = c.args.buffer.now in
    let is = same c.args.first c.args.trx t.count t.is_new t.entry (rows.image c.args.change.key c.args.change.value) c.args.records.now c.records_from-records.result.now c.requires.ready.from_low c.requires.records c.records_from-records.ensures in
    let f = c.in_err-check_room.ensures.full in
    let because : c.in_err-check_room.field-0.0 ≡ Because f.0 = f.1 in
    on_err (λ (r : Result (Unit {0}) EngineRefusal). Writes (records_of_change (c.args.first == 0) t.is_new c.args.trx t.count t.entry (rows.image c.args.change.key c.args.change.value)) b b r) c.from_residual.result c.in_err-check_room.field-0.0 c.from_residual.ensures.1
    (subst (λ (p : EngineRefusal × List Record). Writes {X = Unit {0}} p.1 b b (Err p.0)) (λ i. (sym because i, sym is i)) (f.2, refl))

pub returns-in_err-note_change-clause-written : goal.returns-in_err-note_change-clause-written
returns-in_err-note_change-clause-written c =
    let t = c.args.target.now in
    let b : Buffered = c.args.buffer.now in
    let is = same c.args.first c.args.trx t.count t.is_new t.entry (rows.image c.args.change.key c.args.change.value) c.args.records.now c.records_from-records.result.now c.requires.ready.from_low c.requires.records c.records_from-records.ensures in
    on_err (λ (r : Result (Unit {0}) EngineRefusal). Writes (records_of_change (c.args.first == 0) t.is_new c.args.trx t.count t.entry (rows.image c.args.change.key c.args.change.value)) b b r) c.from_residual-in_err-note_change.result NoMemory c.from_residual-in_err-note_change.ensures.1
    (subst (λ (rs : List Record). HasRoom rs b × (b ≡ b)) (sym is) (c.in_ok-check_room.ensures.room, refl))

pub returns-clause-written : goal.returns-clause-written
returns-clause-written c =
    let t = c.args.target.now in
    let b = c.args.buffer.now in
    let is = same c.args.first c.args.trx t.count t.is_new t.entry (rows.image c.args.change.key c.args.change.value) c.args.records.now c.records_from-records.result.now c.requires.ready.from_low c.requires.records c.records_from-records.ensures in
    subst (λ (rs : List Record). HasRoom rs b × (c.write_held.new.buffer ≡ buffer.written rs b)) (sym is) (c.in_ok-check_room.ensures.room, c.write_held.ensures.written)

pub returns-clause-kept : goal.returns-clause-kept
returns-clause-kept c =
    let t = c.args.target.now in
    let d = c.args.self.now in
    let after = c.note_change.new.self in
    let b = c.args.buffer.now in
    let change = c.args.change in
    let is = same c.args.first c.args.trx t.count t.is_new t.entry (rows.image c.args.change.key c.args.change.value) c.args.records.now c.records_from-records.result.now c.requires.ready.from_low c.requires.records c.records_from-records.ensures in
    written_kept after b c.write_held.new.buffer c.records_from-records.result.now c.write_held.ensures.written
    (λ right lsn. subst (λ (rs : List Record). IsKept after (after_records lsn (image_of b) rs)) is (made_kept d after b c.args.trx change t.entry (c.args.first == 0) t.is_new t.count (record {
      right = right;
      kept = c.requires.kept right;
      may = may_change d c.args.trx change.table change.key c.requires.cause.0 (c.requires.kept right).sound.locked c.requires.cause.1;
      target = c.requires.ready.target;
      short = short_value change.key change.value c.requires.image;
      new = c.requires.ready.from_is right;
      made = c.in_ok-note_change.ensures.ok;
    }) lsn))

use Rattle.clone_trx.proofs.Common.{◌≡◌, ◌≤◌, ◌++◌, ◌∷◌, [], ◌∙◌, ℕ, List, IsTrue, sym, ap, subst, arith, Buffered, image_of, DropsSpace, without_pages, dropped, Record, after_records, Donor, donor_of, IsKept, IsSafe}
use Rattle.clone_trx.proofs.DropLemmas.{drops_space, is_above, is_there, space_gone}
use Rattle.clone_trx.proofs.DroppedDonorLemmas.{drop_keeps}
use Rattle.clone_trx.proofs.NewSpaceLemmas.{disk_removed}
use Rattle.clone_trx.proofs.SafeLemmas.{dropped_safe}
use Rattle.clone_trx.proofs.WriteLemmas.{written_kept}
use Rattle.clone_trx.proofs.transactions.Transactions.drop_held.Goals as goal

pub write_drop_held-requires-clause-drops : goal.write_drop_held-requires-clause-drops
write_drop_held-requires-clause-drops g c = λ right.
    let d = c.args.self.now in
    let there = is_there d c.args.table c.requires.cause in
    subst (λ (p : ℕ × List Record). DropsSpace c.args.buffer.now c.args.table p.0 p.1) (λ i. (sym c.min.ensures i, sym c.drop_records-records.ensures i))
    (drops_space d c.args.buffer.now c.args.entry_number c.args.table c.args.pages there.0 (c.requires.kept right) there.1 (c.requires.tells right) c.requires.held)

-- the donor has dropped the table
gone : (g : _) (c : goal.After-array_drop-records-2 g) → donor_of c.remove.new.self c.self.inside.active c.self.inside.locks c.self.inside.binlog.commits c.push_within.new.self.list ≡ dropped c.args.table c.args.self.now
gone g c =
    let s = c.self.inside in
    let drops = c.push_within.ensures.drops ∙ (λ i. c.reserve.ensures.same i ++ (c.len.ensures i, c.args.table) ∷ []) in
    (λ i. donor_of (c.remove.ensures i) s.active s.locks s.binlog.commits (drops i)) ∙ ap (dropped c.args.table) c.self.view_is

pub invariant_of-self-2 : goal.invariant_of-self-2
invariant_of-self-2 g c =
    (subst IsSafe (sym (gone g c)) (dropped_safe c.args.self.now c.args.table (subst IsSafe c.self.view_is c.self.invariant.0) c.requires.cause), c.self.invariant.1)

above : (g : _) (c : goal.After-array_drop-records-2 g) → 1 ≤ c.args.table
above g c = is_above c.args.self.now c.args.table (subst IsSafe c.self.view_is c.self.invariant.0) c.requires.cause

-- the image keeps that
keeps : (g : _) (c : goal.After-array_drop-records-2 g) → IsTrue c.write_drop_held.new.buffer.right → IsKept (dropped c.args.table c.args.self.now) (image_of c.write_drop_held.new.buffer)
keeps g c =
    let d = c.args.self.now in
    let old : Buffered = c.args.buffer.now in
    written_kept (dropped c.args.table d) (without_pages c.args.table c.min.result old) c.write_drop_held.new.buffer c.drop_records-records.result c.write_drop_held.ensures.written
    (λ right lsn. subst (λ (records : List Record). IsKept (dropped c.args.table d) (after_records lsn (image_of old) records)) (sym c.drop_records-records.ensures)
    (drop_keeps lsn c.args.entry_number c.args.table d (image_of old) (c.requires.kept right) (c.requires.tells right).0 (λ zero. omega (arith, zero, above g c)) c.requires.cause))

pub returns-clause-kept : goal.returns-clause-kept
returns-clause-kept g c = λ right. subst (λ (d : Donor). IsKept d (image_of c.write_drop_held.new.buffer)) (sym (gone g c)) (keeps g c right)

pub returns-clause-stands : goal.returns-clause-stands
returns-clause-stands g c = λ beside calm quiet st.
    let before = (g.D.PageDisk.state c.args.disk.now).told in
    let after = (g.D.PageDisk.state c.remove_file.new.disk).told in
    let new : Buffered = c.write_drop_held.new.buffer in
    disk_removed new c.args.table c.laws.ensures.buffer (space_gone c.args.self.now new c.args.table (above g c) (keeps g c)) before after c.remove_file.ensures.removed beside
    (c.write_drop_held.ensures.stands before beside calm quiet st)

use Rattle.std.specs.List.{AllByRecursion}
use Rattle.std.specs.FinMap as finite
use Rattle.clone_trx.proofs.Common.{◌≡◌, ◌+◌, ◌-◌, List, sym, ap, subst, ◌∙◌, arith, nat_cmp_total, exact_unsigned, len-again, Record, records_of_taking_back, Donor, TakesBack, donor_of, IsKept, IsLast, image_of, HasRoom}
use Rattle.clone_buffer.specs.Writing as buffer
use Rattle.clone_trx.proofs.LastUndoLemmas.{last_small, taken_back, taken_kept, row_there}
use Rattle.clone_trx.proofs.PlacedLemmas.{taking_back_there}
use Rattle.clone_trx.proofs.SafeLemmas.{taken_safe}
use Rattle.clone_trx.proofs.SystemPageLemmas.{header_there}
use Rattle.clone_trx.proofs.WriteLemmas.{written_kept}
use Rattle.clone_trx.proofs.transactions.Transactions.take_back.Goals as goal

pub take_back_records-records-requires-clause-slot : goal.take_back_records-records-requires-clause-slot
take_back_records-records-requires-clause-slot c = (last_small c.args.self.now c.args.trx c.args.count c.args.entry.now.table c.args.entry.now.key c.requires.last c.laws.ensures.safe.locked).2

pub take_back_records-records-requires-clause-count : goal.take_back_records-records-requires-clause-count
take_back_records-records-requires-clause-count c = (last_small c.args.self.now c.args.trx c.args.count c.args.entry.now.table c.args.entry.now.key c.requires.last c.laws.ensures.safe.locked).1

pub write_held-requires-clause-there : goal.write_held-requires-clause-there
write_held-requires-clause-there c = λ right.
    let image = image_of c.args.buffer.now in
    let e = c.args.entry.now in
    let d : Donor = donor_of c.self.inside.tables c.self.inside.active c.self.inside.locks c.self.inside.binlog.commits c.self.inside.drops.list in
    let kept : IsKept d image = subst (λ (d : Donor). IsKept d image) (sym c.self.view_is) (c.requires.kept right) in
    let last : IsLast d c.args.trx c.args.count e.table e.key = subst (λ (d : Donor). IsLast d c.args.trx c.args.count e.table e.key) (sym c.self.view_is) c.requires.last in
    let takes = taken_back d c.args.trx c.args.count e.table e.key c.pop.new.self c.pop.result last c.pop.ensures in
    let row = row_there d (record d { active = c.pop.new.self }) image c.args.trx (c.args.count - 1) e kept takes (c.requires.told right) in
    subst (AllByRecursion (buffer.IsOnPage image)) (sym c.take_back_records-records.ensures)
    (taking_back_there image c.args.trx c.args.count e row (header_there image c.args.trx kept.formed (last_small d c.args.trx c.args.count e.table e.key last c.self.invariant.0.locked).2))

made : (c : goal.After-array_drop-records-2) → TakesBack (donor_of c.self.inside.tables c.self.inside.active c.self.inside.locks c.self.inside.binlog.commits c.self.inside.drops.list) c.args.trx (c.args.count - 1)
    (donor_of c.self.inside.tables c.pop.new.self c.self.inside.locks c.self.inside.binlog.commits c.self.inside.drops.list)
made c =
    let e = c.args.entry.now in
    let d : Donor = donor_of c.self.inside.tables c.self.inside.active c.self.inside.locks c.self.inside.binlog.commits c.self.inside.drops.list in
    taken_back d c.args.trx c.args.count e.table e.key c.pop.new.self c.pop.result (subst (λ (d : Donor). IsLast d c.args.trx c.args.count e.table e.key) (sym c.self.view_is) c.requires.last) c.pop.ensures

pub invariant_of-self : goal.invariant_of-self
invariant_of-self c =
    let t = made c in
    let as_many : finite.len c.pop.new.self ≡ finite.len c.self.inside.active = ap (λ (d : Donor). finite.len d.active) t.is ∙ len-again nat_cmp_total exact_unsigned c.self.inside.active c.args.trx t.commit _ t.was_active in
    (taken_safe c.self.invariant.0 t, omega (arith, as_many, c.self.invariant.1))

pub returns-clause-written : goal.returns-clause-written
returns-clause-written c =
    let b = c.args.buffer.now in
    let same = c.take_back_records-records.ensures in
    (subst (λ (rs : List Record). HasRoom rs b) same c.in_ok-check_room.ensures.room, c.write_held.ensures.written ∙ ap (λ (rs : List Record). buffer.written rs b) same)

pub returns-clause-donor : goal.returns-clause-donor
returns-clause-donor c = subst (λ (d : Donor). TakesBack d c.args.trx (c.args.count - 1) (donor_of c.self.inside.tables c.pop.new.self c.self.inside.locks c.self.inside.binlog.commits c.self.inside.drops.list)) c.self.view_is (made c)

pub returns-clause-kept : goal.returns-clause-kept
returns-clause-kept c =
    let b = c.args.buffer.now in
    let e = c.args.entry.now in
    let d : Donor = donor_of c.self.inside.tables c.self.inside.active c.self.inside.locks c.self.inside.binlog.commits c.self.inside.drops.list in
    let after : Donor = donor_of c.self.inside.tables c.pop.new.self c.self.inside.locks c.self.inside.binlog.commits c.self.inside.drops.list in
    let some = (last_small c.args.self.now c.args.trx c.args.count e.table e.key c.requires.last c.laws.ensures.safe.locked).0 in
    let one : c.args.count ≡ c.args.count - 1 + 1 = omega (arith, some) in
    let same = c.take_back_records-records.ensures ∙ ap (λ n. records_of_taking_back c.args.trx n e) one in
    written_kept after b c.write_held.new.buffer (records_of_taking_back c.args.trx (c.args.count - 1 + 1) e) (c.write_held.ensures.written ∙ ap (λ (rs : List Record). buffer.written rs b) same)
    (λ right. taken_kept d after (image_of b) c.args.trx (c.args.count - 1) e (subst (λ (d : Donor). IsKept d (image_of b)) (sym c.self.view_is) (c.requires.kept right)) (made c) (c.requires.told right))

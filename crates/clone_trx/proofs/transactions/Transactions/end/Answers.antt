use Rattle.clone_trx.proofs.Common.{◌≡◌, List, sym, ap, subst, ◌∙◌, arith, None, IsSome, AllByRecursion, nat_cmp_total, exact_unsigned, len-without, Record, records_of_end, changes_of_active, Donor, Leaves, donor_of, IsKept, image_of, IsOnPage, last_change}
use Rattle.std.specs.FinMap as finite
use Rattle.clone_buffer.specs.Writing as buffer
use Rattle.clone_trx.proofs.KeptLemmas.{leave_keeps}
use Rattle.clone_trx.proofs.LastUndoLemmas.{none_last, there}
use Rattle.clone_trx.proofs.SafeLemmas.{left_safe}
use Rattle.clone_trx.proofs.SystemPageLemmas.{header_there}
use Rattle.clone_trx.proofs.WriteLemmas.{written_kept}
use Rattle.clone_trx.proofs.transactions.Transactions.end.Goals as goal

pub end_record-requires : goal.end_record-requires
end_record-requires c = c.laws.ensures.safe.locked.few.numbers c.args.trx c.requires.active

pub write_held-requires-clause-there : goal.write_held-requires-clause-there
write_held-requires-clause-there c = λ right.
    let image = image_of c.args.buffer.now in
    let small = c.laws.ensures.safe.locked.few.numbers c.args.trx c.requires.active in
    subst (λ (rs : List Record). AllByRecursion (IsOnPage image) rs) (sym c.end_record.ensures) (header_there image c.args.trx (c.requires.kept right).formed small, tt)

abbrev before : goal.After-array_drop-records-2 → Donor
before c = donor_of c.self.inside.tables c.self.inside.active c.self.inside.locks c.self.inside.binlog.commits c.self.inside.drops.list

abbrev after : goal.After-array_drop-records-2 → Donor
after c = donor_of c.self.inside.tables c.remove.new.self c.release.new.self c.self.inside.binlog.commits c.self.inside.drops.list

leaves : (c : goal.After-array_drop-records-2) → Leaves (before c) c.args.trx (after c)
leaves c =
    let active = there (finite.get c.self.inside.active c.args.trx) (subst (λ (d : Donor). IsSome (finite.get d.active c.args.trx)) (sym c.self.view_is) c.requires.active) in
    let nothing = subst (λ (d : Donor). last_change d c.args.trx ≡ None) (sym c.self.view_is) c.requires.nothing in
    record {
      commit = active.0;
      was_active = active.1;
      nothing = sym (changes_of_active (before c) c.args.trx active.0 active.1) ∙ none_last _ nothing;
      locks = c.release.new.self;
      released = c.release.ensures;
      is = λ i. donor_of c.self.inside.tables (c.remove.ensures.removed i) c.release.new.self c.self.inside.binlog.commits c.self.inside.drops.list;
    }

pub invariant_of-self : goal.invariant_of-self
invariant_of-self c =
    let l = leaves c in
    let fewer = len-without nat_cmp_total exact_unsigned c.self.inside.active c.args.trx l.commit l.was_active in
    (left_safe c.self.invariant.0 l, omega (arith, fewer, c.self.invariant.1, ap finite.len c.remove.ensures.removed))

pub returns-clause-donor : goal.returns-clause-donor
returns-clause-donor c = subst (λ (d : Donor). Leaves d c.args.trx (after c)) c.self.view_is (leaves c)

pub returns-clause-kept : goal.returns-clause-kept
returns-clause-kept c =
    let image = image_of c.args.buffer.now in
    written_kept (after c) c.args.buffer.now c.write_held.new.buffer (records_of_end c.args.trx) (c.write_held.ensures.written ∙ ap (λ (rs : List Record). buffer.written rs c.args.buffer.now) c.end_record.ensures)
    (λ right lsn. leave_keeps lsn c.args.trx (before c) (after c) image (subst (λ (d : Donor). IsKept d image) (sym c.self.view_is) (c.requires.kept right)) (leaves c))

use Rattle.clone_trx.proofs.Common.{◌≡◌, ◌<◌, ◌+◌, ◌∷◌, [], List, length, sym, ap, subst, ◌∙◌, arith, is_some, nat_cmp_total, exact_unsigned, len-without, Record, commit_records, TRANSACTION_LIMIT, Donor, Commits, donor_of, IsKept, image_of, HasRoom}
use Rattle.std.specs.FinMap as finite
use Rattle.std.specs.List.{AllByRecursion}
use Rattle.clone_buffer.specs.Writing as buffer
use Rattle.clone_trx.proofs.KeptLemmas.{commit_keeps}
use Rattle.clone_trx.proofs.PlacedLemmas.{commit_there}
use Rattle.clone_trx.proofs.SafeLemmas.{committed_safe}
use Rattle.clone_trx.proofs.SystemPageLemmas.{header_there, system_there}
use Rattle.clone_trx.proofs.WriteLemmas.{commit_written, written_kept}
use Rattle.clone_trx.proofs.transactions.Transactions.write_commit.Goals as goal

pub push_within-requires : goal.push_within-requires
push_within-requires c =
    let fewer = len-without nat_cmp_total exact_unsigned c.self.inside.active c.args.trx c.in-Some.commit (sym c.in-Some.ensures.was) in
    let room = c.self.invariant.1 in
    record { room = omega (arith, fewer, room) }

pub write_held-requires-clause-there : goal.write_held-requires-clause-there
write_held-requires-clause-there c = λ right.
    let image = image_of c.args.buffer.now in
    let formed = (c.requires.kept right).formed in
    let small : c.args.trx < TRANSACTION_LIMIT = c.self.invariant.0.locked.few.numbers c.args.trx (ap is_some (sym c.in-Some.ensures.was)) in
    let position = length c.as_slice.result.now + 1 in
    subst (AllByRecursion (buffer.IsOnPage image)) (sym (commit_written c.args.trx position c.end_record.result c.position.result c.end_record.ensures c.position.ensures))
    (commit_there image c.args.trx position (header_there image c.args.trx formed small) (system_there image 0 formed (omega arith)))

-- the records that are written
records_are : (c : goal.After-array_drop-records-2) → c.end_record.result ∷ c.position.result ∷ [] ≡ commit_records c.args.trx (length c.as_slice.result.now + 1)
records_are c = commit_written c.args.trx (length c.as_slice.result.now + 1) c.end_record.result c.position.result c.end_record.ensures c.position.ensures

abbrev before : goal.After-array_drop-records-2 → Donor
before c = donor_of c.self.inside.tables c.self.inside.active c.self.inside.locks c.self.inside.binlog.commits c.self.inside.drops.list

abbrev after : goal.After-array_drop-records-2 → Donor
after c = donor_of c.self.inside.tables c.remove.new.self c.release.new.self c.push_within.new.self.commits c.self.inside.drops.list

commits : (c : goal.After-array_drop-records-2) → Commits (before c) c.args.trx (length c.as_slice.result.now + 1) (after c)
commits c = record {
  commit = c.in-Some.commit;
  was_active = sym c.in-Some.ensures.was;
  locks = c.release.new.self;
  released = c.release.ensures;
  count = ap (λ xs. length xs + 1) c.as_slice.ensures;
  is = λ i. donor_of c.self.inside.tables (c.remove.ensures.removed i) c.release.new.self (c.push_within.ensures.commits i) c.self.inside.drops.list;
}

pub invariant_of-self : goal.invariant_of-self
invariant_of-self c =
    let fewer = len-without nat_cmp_total exact_unsigned c.self.inside.active c.args.trx c.in-Some.commit (sym c.in-Some.ensures.was) in
    let room = c.self.invariant.1 in
    let left = c.push_within.ensures.left in
    (committed_safe c.self.invariant.0 (commits c), omega (arith, fewer, room, left, ap finite.len c.remove.ensures.removed))

pub returns-clause-written : goal.returns-clause-written
returns-clause-written c =
    let b = c.args.buffer.now in
    let count : length c.as_slice.result.now + 1 ≡ length c.args.self.now.binlog + 1 = ap (λ xs. length xs + 1) c.as_slice.ensures ∙ ap (λ (d : Donor). length d.binlog + 1) c.self.view_is in
    let same = records_are c ∙ ap (commit_records c.args.trx) count in
    (subst (λ (rs : List Record). HasRoom rs b) same c.in_ok-check_room.ensures.room, c.write_held.ensures.written ∙ ap (λ (rs : List Record). buffer.written rs b) same)

pub returns-clause-donor : goal.returns-clause-donor
returns-clause-donor c = subst (λ (d : Donor). Commits d c.args.trx (length c.as_slice.result.now + 1) (after c)) c.self.view_is (commits c)

pub returns-clause-kept : goal.returns-clause-kept
returns-clause-kept c =
    let b = c.args.buffer.now in
    let position = length c.as_slice.result.now + 1 in
    written_kept (after c) b c.write_held.new.buffer (commit_records c.args.trx position) (c.write_held.ensures.written ∙ ap (λ (rs : List Record). buffer.written rs b) (records_are c))
    (λ right lsn. commit_keeps lsn c.args.trx position (before c) (after c) (image_of b) (subst (λ (d : Donor). IsKept d (image_of b)) (sym c.self.view_is) (c.requires.kept right)) (commits c) (omega arith))

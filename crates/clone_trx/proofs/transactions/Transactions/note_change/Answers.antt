use Rattle.clone_trx.proofs.Common.{◌≡◌, ◌≤◌, sym, ap, subst, ◌∙◌, arith, None, nat_cmp_total, exact_unsigned, len-again, change_cause, Donor, Changes, donor_of, IsSafe}
use Rattle.std.specs.FinMap as finite
use Rattle.clone_trx.proofs.CauseLemmas.{may_change}
use Rattle.clone_trx.proofs.ChangeLemmas.{left_again, made_change}
use Rattle.clone_trx.proofs.SafeLemmas.{changed_safe}
use Rattle.clone_trx.proofs.WriteLemmas.{refused, done}
use Rattle.clone_trx.proofs.transactions.Transactions.note_change.Goals as goal

-- The lock wanted memory, and the change was taken away again.

state_kept : (c : goal.After-pop) → donor_of c.self.inside.tables c.pop.new.self c.lock.new.self c.self.inside.binlog.commits c.self.inside.drops.list ≡ c.args.self.now
state_kept c =
    let old = c.self.inside in
    let d : Donor = donor_of old.tables old.active old.locks old.binlog.commits old.drops.list in
    let may = may_change d c.args.trx c.args.change.table c.args.change.key c.requires.cause.0 c.self.invariant.0.locked
    (subst (λ (t : Donor). change_cause t c.args.trx c.args.change.table c.args.change.key c.requires.cause.0 ≡ None) (sym c.self.view_is) c.requires.cause.1) in
    let active : c.pop.new.self ≡ old.active = left_again old.active c.push.new.self c.pop.new.self c.args.trx may.commit c.args.change c.pop.result may.was_active c.in_ok-push.ensures.ok c.pop.ensures in
    let locks : c.lock.new.self ≡ old.locks = refused c.lock.result (sym c.is_err.ensures.value ∙ c.if-is_err.true) c.lock.ensures.err in
    (λ i. donor_of old.tables (active i) (locks i) old.binlog.commits old.drops.list) ∙ c.self.view_is

pub invariant_of-self-then-is_err : goal.invariant_of-self-then-is_err
invariant_of-self-then-is_err c =
    let same = c.self.view_is ∙ sym (state_kept c) in
    (subst IsSafe same c.self.invariant.0, subst (λ (d : Donor). finite.len d.active ≤ c.self.inside.binlog.room) same c.self.invariant.1)

pub returns-then-is_err-clause-err : goal.returns-then-is_err-clause-err
returns-then-is_err-clause-err c = state_kept c

-- The change was made.

pub invariant_of-self-else-is_err : goal.invariant_of-self-else-is_err
invariant_of-self-else-is_err c =
    let d : Donor = donor_of c.self.inside.tables c.self.inside.active c.self.inside.locks c.self.inside.binlog.commits c.self.inside.drops.list in
    let may = may_change d c.args.trx c.args.change.table c.args.change.key c.requires.cause.0 c.self.invariant.0.locked
    (subst (λ (t : Donor). change_cause t c.args.trx c.args.change.table c.args.change.key c.requires.cause.0 ≡ None) (sym c.self.view_is) c.requires.cause.1) in
    let made = made_change d c.args.trx c.args.change c.push.new.self c.lock.new.self may c.in_ok-push.ensures.ok (done c.lock.result (sym c.is_err.ensures.value ∙ c.if-is_err.false) c.lock.ensures.ok) in
    let as_many : finite.len c.push.new.self ≡ finite.len c.self.inside.active = ap (λ (d : Donor). finite.len d.active) made.is ∙ len-again nat_cmp_total exact_unsigned c.self.inside.active c.args.trx may.commit _ may.was_active in
    (changed_safe c.self.invariant.0 made may.lock may.few, omega (arith, as_many, c.self.invariant.1))

pub returns-clause-ok : goal.returns-clause-ok
returns-clause-ok c =
    let old = c.self.inside in
    let before : Donor = donor_of old.tables old.active old.locks old.binlog.commits old.drops.list in
    let may = may_change before c.args.trx c.args.change.table c.args.change.key c.requires.cause.0 c.self.invariant.0.locked
    (subst (λ (t : Donor). change_cause t c.args.trx c.args.change.table c.args.change.key c.requires.cause.0 ≡ None) (sym c.self.view_is) c.requires.cause.1) in
    subst (λ (t : Donor). Changes t c.args.trx c.args.change (donor_of old.tables c.push.new.self c.lock.new.self old.binlog.commits old.drops.list)) c.self.view_is
    (made_change before c.args.trx c.args.change c.push.new.self c.lock.new.self may c.in_ok-push.ensures.ok (done c.lock.result (sym c.is_err.ensures.value ∙ c.if-is_err.false) c.lock.ensures.ok))

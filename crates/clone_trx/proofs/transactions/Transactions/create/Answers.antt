use Rattle.std.specs.FinMap as finite
use Rattle.clone_trx.proofs.Common.{◌≡◌, ◌≢◌, ℕ, None, sym, ap, subst, ◌∙◌, IsTrue, Buffered, image_of, records_of_create, create_way, number_of_free_entry, Goes, Makes, Carries, StaysCreating, page_in, Donor, created, IsKept, TABLE_LIMIT}
use Rattle.clone_trx.proofs.CreateLemmas.{no_cause, create_goes, create_answers, stays_creating}
use Rattle.clone_trx.proofs.PinLemmas.{loose_again, makes_pins}
use Rattle.clone_trx.proofs.WriteLemmas.{is_none}
use Rattle.clone_trx.proofs.transactions.Transactions.create.Goals as goal

goes : (g : _) (c : goal.After-release g) → Goes (create_way c.args.table c.args.buckets) c.args.buffer.now c.release.new.buffer c.create_held-created.result
goes g c =
    let d = c.args.self.now in
    let mid : Buffered = c.hold.new.buffer in
    let last : Buffered = c.create_held-created.new.buffer in
    create_goes d c.args.table c.args.buckets c.in_ok-at.at c.args.buffer.now mid last c.release.new.buffer c.create_held-created.result c.in_ok-at.ensures.held
    (subst (λ (p : ℕ × ℕ). Makes (records_of_create (number_of_free_entry (page_in c.in_ok-at.at mid)) p.0 p.1) mid last c.create_held-created.result) (λ i. (c.get-table.ensures.value i, c.get-buckets.ensures.value i)) c.create_held-created.ensures.written)
    c.release.ensures.is

pub returns-clause-answer : goal.returns-clause-answer
returns-clause-answer g c =
    let d = c.args.self.now in
    let none : finite.get d.tables c.args.table ≡ None =
    ap (λ (e : Donor). finite.get e.tables c.args.table) (sym c.self.view_is) ∙ ap (finite.get c.self.inside.tables) (sym c.get-table.ensures.value) ∙ sym c.get.ensures ∙ is_none c.get.result (sym c.is_some.ensures ∙ c.if-is_some.false) in
    let len : c.len.result ≡ finite.len d.tables = c.len.ensures ∙ ap (λ (e : Donor). finite.len e.tables) c.self.view_is in
    let other : finite.len d.tables ≢ TABLE_LIMIT = λ full. c.if-len-eq-TABLE_LIMIT.false (len ∙ full) in
    create_answers d c.create_held-created.new.self c.args.table c.args.buckets c.args.buffer.now c.release.new.buffer c.create_held-created.result (no_cause d c.args.table none other) (goes g c)
    (subst (λ (p : ℕ × ℕ). Carries d c.create_held-created.new.self c.create_held-created.result (λ _. c.create_held-created.new.self ≡ created p.0 p.1 d)) (λ i. (c.get-table.ensures.value i, c.get-buckets.ensures.value i)) c.create_held-created.ensures.donor)

pub returns-clause-kept : goal.returns-clause-kept
returns-clause-kept g c = record {
  loose = loose_again _ c.in_ok-at.at c.args.buffer.now c.hold.new.buffer c.create_held-created.new.buffer c.release.new.buffer c.in_ok-at.ensures.held (makes_pins (records_of_create (number_of_free_entry (page_in c.in_ok-at.at c.hold.new.buffer)) c.get-table.result c.get-buckets.result) c.hold.new.buffer c.create_held-created.new.buffer c.create_held-created.result c.create_held-created.ensures.written) c.release.ensures.is c.requires.kept.loose;
  kept = λ after. subst (λ (v : Buffered). IsKept c.create_held-created.new.self (image_of v)) (sym c.release.ensures.is) (c.create_held-created.ensures.kept (subst (λ (v : Buffered). IsTrue v.right) c.release.ensures.is after));
}

pub returns-clause-stands : goal.returns-clause-stands
returns-clause-stands g c =
    let before = (g.D.PageDisk.state c.args.disk.now).told in
    let between = (g.D.PageDisk.state c.hold.new.disk).told in
    let after = (g.D.PageDisk.state c.create_held-created.new.disk).told in
    let result = c.create_held-created.result in
    subst (λ (p : ℕ × ℕ). StaysCreating p.0 p.1 result c.args.buffer.now c.release.new.buffer before after) (λ i. (c.get-table.ensures.value i, c.get-buckets.ensures.value i))
    (stays_creating c.get-table.result c.get-buckets.result result c.args.buffer.now c.hold.new.buffer c.create_held-created.new.buffer c.release.new.buffer before between after c.hold.ensures.stands c.create_held-created.ensures.stands (c.release.ensures.stands after))

use Rattle.clone_undo.specs.Entries.{state_number, value_before}
use Rattle.clone_trx.proofs.Common.{◌≡◌, ◌<◌, ℕ, List, sym, ap, subst, ◌∙◌, arith, Some, IsTrue, IfSome, row_slot_count, Buffered, image_of, change_at, page_of, contents_of, IsRowSlot}
use Rattle.clone_trx.proofs.FoundSlotLemmas.{IsFound, is_found, held_page, target_found, row_page_is, way_is}
use Rattle.clone_trx.proofs.KeySlotLemmas.{slot_there}
use Rattle.clone_trx.proofs.transactions.Transactions.target_at.Goals as goal
use Rattle.clone_trx.proofs.transactions.Transactions.target_at.Goals.{After-kind}

-- the slot was found for the change
found : (c : After-kind) → IsFound c.args.self.now c.args.trx c.args.change.now c.frame-page.result.now c.args.spot.page c.args.slot c.kind.result c.count_of-count.result c.new.result
found c =
    let slot : ℕ = c.args.slot in
    let low : slot < row_slot_count = subst (λ o. IfSome o (λ slot_number. slot_number < row_slot_count)) c.requires.slot c.requires.spot.in_range.1 in
    is_found c.args.self.now c.args.trx c.args.change.now c.frame-page.result.now c.args.spot.page slot c.kind.result c.count_of-count.result (state_number c.before_on-before.result) (value_before c.before_on-before.result) c.new.result c.laws.ensures.safe c.requires.cause (c.requires.spot.in_range.0, low)
    c.new.ensures c.before_on-before.ensures.state c.before_on-before.ensures.value c.before_on-before.ensures.range (omega arith) c.kind.ensures c.count_of-count.ensures

pub returns-clause-target : goal.returns-clause-target
returns-clause-target c =
    let d = c.args.self.now in
    let change = c.args.change.now in
    let page : ℕ = c.args.spot.page in
    let b : Buffered = c.args.buffer.now in
    let row : List ℕ = c.frame-page.result.now in
    let row_slot : IsTrue b.right → IsRowSlot d (contents_of (image_of b)) change.table page c.args.slot change.key = λ right.
    subst (λ o. IfSome o (λ slot_number. IsRowSlot d (contents_of (image_of b)) change.table page slot_number change.key)) c.requires.slot (c.requires.spot.row_slot right) in
    let there : IsTrue b.right → page_of (image_of b) change.table page ≡ Some row = λ right.
    held_page b (record { space = change.table; number = page }) c.args.spot.at c.laws-2.ensures.buffer c.requires.spot.has right (slot_there d (image_of b) change.table change.key (c.requires.kept right) page c.args.slot (row_slot right)) ∙ ap (λ (p : List ℕ). Some p) (sym c.frame-page.ensures.bytes) in
    target_found d c.args.trx change row page c.args.slot c.kind.result c.count_of-count.result c.new.result (found (goal.at.returns-clause-target c).After-kind) b c.requires.kept there row_slot

pub returns-clause-row : goal.returns-clause-row
returns-clause-row c = row_page_is c.args.self.now c.args.trx c.args.change.now c.frame-page.result.now c.args.spot.page c.args.slot c.kind.result c.count_of-count.result c.new.result (found (goal.at.returns-clause-row c).After-kind)

pub returns-clause-way : goal.returns-clause-way
returns-clause-way c =
    let d = c.args.self.now in
    let change = c.args.change.now in
    way_is d c.args.trx change c.frame-page.result.now c.args.spot.page c.args.slot c.kind.result c.count_of-count.result c.new.result (found (goal.at.returns-clause-way c).After-kind) c.args.spot.slot c.requires.slot
    ∙ ap (λ (p : List ℕ). change_at d c.args.trx change c.args.spot.page c.args.spot.slot p) c.frame-page.ensures.bytes

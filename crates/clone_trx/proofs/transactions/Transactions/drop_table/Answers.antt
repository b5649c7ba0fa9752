use Rattle.clone_trx.proofs.Common.{◌≡◌, ◌∙◌, ℕ, List, sym, ap, subst, Some, IsTrue, arith, min, MOST_PAGES, records_of_drop, TableEntry, Buffered, image_of, Image, page_of, contents_of, IsKept, drop_way, TellsPages, Goes}
use Rattle.clone_trx.proofs.DropLemmas.{drop_goes, is_above, is_there, unpinned}
use Rattle.clone_trx.proofs.LongerWayLemmas.{found_tells, same_image}
use Rattle.clone_trx.proofs.FramePinLemmas.{SamePins}
use Rattle.clone_trx.proofs.PinLemmas.{drops_pins, loose_again}
use Rattle.clone_trx.proofs.transactions.Transactions.drop_table.Goals as goal
use Rattle.clone_trx.proofs.transactions.Transactions.drop_table.Goals.{After-drop_held-dropped}

pub drop_held-dropped-requires-clause-tells : goal.drop_held-dropped-requires-clause-tells
drop_held-dropped-requires-clause-tells g c = λ right.
    let d = c.args.self.now in
    let new : Buffered = c.hold.new.buffer in
    let image : Image = image_of new in
    let there = is_there d c.args.table c.requires.cause in
    let kept : IsKept d image = same_image (IsKept d) c.args.buffer.now new c.in_ok-at.ensures.log c.in_ok-at.ensures.before c.requires.kept.kept right in
    let system : page_of image 0 0 ≡ Some c.frame-page.result.now = c.in_ok-at.ensures.right right ∙ ap (λ (p : List ℕ). Some p) (sym c.frame-page.ensures.bytes) in
    subst (λ (e : TableEntry). TellsPages (contents_of image) c.args.table c.unwrap_or-entry_number.result e.pages) (sym c.entry_at-pages.ensures)
    (found_tells d image c.args.table there.0 c.unwrap_or-entry_number.result c.frame-page.result.now c.find.result kept there.1 system c.find.ensures c.unwrap_or-entry_number.ensures)

pub drop_held-dropped-requires-clause-unpinned : goal.drop_held-dropped-requires-clause-unpinned
drop_held-dropped-requires-clause-unpinned g c =
    unpinned c.args.table c.in_ok-at.at c.args.buffer.now c.hold.new.buffer (is_above c.args.self.now c.args.table c.laws.ensures.safe c.requires.cause) c.requires.kept.loose c.in_ok-at.ensures.held c.in_ok-at.ensures.has

pins : (g : _) (c : After-drop_held-dropped g) → SamePins c.hold.new.buffer.pool.frames c.drop_held-dropped.new.buffer.pool.frames
pins g c = drops_pins c.args.table (min c.entry_at-pages.result.pages MOST_PAGES) (records_of_drop c.unwrap_or-entry_number.result c.args.table) c.hold.new.buffer c.drop_held-dropped.new.buffer c.drop_held-dropped.result c.drop_held-dropped.ensures.way

pub release-requires : goal.release-requires
release-requires g c =
    omega (arith, c.in_ok-at.ensures.has.pinned, (pins g (goal.at.release-requires g c).After-drop_held-dropped).at c.in_ok-at.at)

goes : (g : _) (c : goal.After-release g) → Goes (drop_way c.args.table) c.args.buffer.now c.release.new.buffer c.drop_held-dropped.result
goes g c =
    drop_goes c.args.table c.in_ok-at.at c.unwrap_or-entry_number.result c.entry_at-pages.result.pages c.frame-page.result.now c.find.result c.args.buffer.now c.hold.new.buffer c.drop_held-dropped.new.buffer c.release.new.buffer c.drop_held-dropped.result
    c.in_ok-at.ensures.held c.frame-page.ensures.bytes c.find.ensures c.unwrap_or-entry_number.ensures (ap (λ (e : TableEntry). e.pages) c.entry_at-pages.ensures) c.drop_held-dropped.ensures.way c.release.ensures.is

pub returns-clause-way : goal.returns-clause-way
returns-clause-way g c = goes g c

pub returns-clause-kept : goal.returns-clause-kept
returns-clause-kept g c = record {
  loose = loose_again _ c.in_ok-at.at c.args.buffer.now c.hold.new.buffer c.drop_held-dropped.new.buffer c.release.new.buffer c.in_ok-at.ensures.held (pins g (goal.at.returns-clause-kept g c).After-drop_held-dropped) c.release.ensures.is c.requires.kept.loose;
  kept = λ after. subst (λ (v : Buffered). IsKept c.drop_held-dropped.new.self (image_of v)) (sym c.release.ensures.is) (c.drop_held-dropped.ensures.kept (subst (λ (v : Buffered). IsTrue v.right) c.release.ensures.is after));
}

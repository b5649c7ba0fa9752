use Rattle.std.proofs.Common.{rules}
use Rattle.clone_outside.proofs.DiskCallLemmas.{takes_work}
use Rattle.clone_ring.specs.Window.{end_of}
use Rattle.clone_buffer.proofs.SpaceLemmas.{create_calm}
use Rattle.clone_trx.proofs.Common.{◌≡◌, ◌+◌, ℕ, List, [], ◌∷◌, Option, slice_get, option_and_then, sym, ap, subst, ◌∙◌, length, nat_cmp, IsTrue, ForTold, Steps, with_created, System, Init, replayed, Buffered, image_of, at_rest, no_copies, Creates, HasMade, Stands, Copies, with_made, system_page, get-empty, Record, page_of, spelling, opening_records, system_size, Donor, no_donor, IsKept, AreLoose}
use Rattle.clone_trx.proofs.Common as common
use Rattle.clone_trx.proofs.KeptLemmas.{opening_keeps}
use Rattle.clone_trx.proofs.NewSpaceLemmas.{has_made}
use Rattle.clone_trx.proofs.OpenLemmas.{is_taken, left_loose, opened_frames, opens, stands_first}
use Rattle.clone_trx.proofs.FramePinLemmas.{SamePins, records_pins}
use Rattle.clone_trx.proofs.WriteLemmas.{written_kept}
use Rattle.clone_trx.proofs.opening.open.Goals as goal

pub fresh-requires-clause-absent : goal.fresh-requires-clause-absent
fresh-requires-clause-absent g c = λ _. ap (λ (log : List (List Record)). page_of (replayed log) 0 0) c.in_ok-buffer.ensures.log
    ∙ ap (λ (o : Option (List (List ℕ))). option_and_then (λ pages. slice_get pages 0) o) (get-empty nat_cmp 0)

pub write_space_held-requires-clause-creates : goal.write_space_held-requires-clause-creates
write_space_held-requires-clause-creates g c = λ right.
    let v : Buffered = c.fresh.new.self in
    let first : Buffered = c.in_ok-buffer.buffer in
    let none : v.log ≡ [] = ap (λ (b : Buffered). b.log) c.in-Ok-fresh.ensures.same ∙ c.in_ok-buffer.ensures.log in
    let taken = is_taken c.args.frames c.in-Ok-fresh.at (system_page 0) first.pool v.pool (ap (λ p. p.frames) c.in_ok-buffer.ensures.pool) c.in-Ok-fresh.ensures.answer in
    subst (λ (rs : List Record). Creates v rs) (sym c.opening.ensures) (opens v c.in-Ok-fresh.at c.laws.ensures.buffer none taken c.in-Ok-fresh.ensures.held right)

pub returns-clause-kept : goal.returns-clause-kept
returns-clause-kept g c =
    let v : Buffered = c.fresh.new.self in
    let w : Buffered = c.write_space_held.new.buffer in
    let first : Buffered = c.in_ok-buffer.buffer in
    let none : v.log ≡ [] = ap (λ (b : Buffered). b.log) c.in-Ok-fresh.ensures.same ∙ c.in_ok-buffer.ensures.log in
    let taken = is_taken c.args.frames c.in-Ok-fresh.at (system_page 0) first.pool v.pool (ap (λ p. p.frames) c.in_ok-buffer.ensures.pool) c.in-Ok-fresh.ensures.answer in
    let same : SamePins v.pool.frames w.pool.frames = subst (λ (b : Buffered). SamePins v.pool.frames b.pool.frames) (sym c.write_space_held.ensures.written)
    (records_pins c.opening.result (end_of v.ring) (end_of v.ring + length (spelling c.opening.result)) v.pool) in
    let kept : IsTrue w.right → IsKept no_donor (image_of w) = written_kept no_donor v w c.opening.result c.write_space_held.ensures.written
    (λ right lsn.
    let P : List (List Record) × List Record → Type 0 = λ p. IsKept no_donor (common.after_records lsn (replayed p.0) p.1) in
    subst P (λ i. (sym none i, sym c.opening.ensures i)) (opening_keeps lsn)) in
    record {
      loose = subst (λ (b : Buffered). AreLoose b.pool.frames) (sym c.unpin.ensures.unpinned) (left_loose (system_page 0) c.in-Ok-fresh.at v.pool w.pool taken same);
      kept = λ right. subst (λ (p : Donor × Buffered). IsKept p.0 (image_of p.1)) (λ i. (sym c.in_ok-transactions.ensures i, sym c.unpin.ensures.unpinned i))
          (kept (subst (λ (b : Buffered). IsTrue b.right) c.unpin.ensures.unpinned right));
    }

pub returns-clause-stands : goal.returns-clause-stands
returns-clause-stands g c = λ _.
    let before = (g.D.PageDisk.state c.args.disk.now).told in
    let after = (g.D.PageDisk.state c.create.new.self).told in
    let step : Steps before after (λ m. with_created m 0 system_size) = c.in-Ok.ensures.takes.done in
    let made = has_made before after 0 system_size (Init 0 0 System ∷ []) step in
    let first = c.in-Ok-fresh.ensures.stands at_rest after (stands_first c.in_ok-buffer.buffer after c.in_ok-buffer.ensures.log c.in_ok-buffer.ensures.stands) in
    let stood = subst (λ (rs : List Record). ForTold after (HasMade rs) → Stands c.write_space_held.new.buffer (with_made rs at_rest) after) c.opening.ensures (c.write_space_held.ensures.stands at_rest after first) made in
    c.unpin.ensures.stands at_rest after (subst (λ (copies : Copies). Stands c.write_space_held.new.buffer (record at_rest { copy = copies }) after) (create_calm 0 system_size no_copies (λ number. tt)) stood)

pub returns-clause-pool : goal.returns-clause-pool
returns-clause-pool g c =
    let v : Buffered = c.fresh.new.self in
    let w : Buffered = c.write_space_held.new.buffer in
    ap (λ (b : Buffered). length b.pool.frames) c.unpin.ensures.unpinned
    ∙ opened_frames c.args.frames c.in-Ok-fresh.at (end_of v.ring) (end_of v.ring + length (spelling c.opening.result)) (system_page 0) c.opening.result c.in_ok-buffer.buffer.pool v.pool w.pool (ap (λ p. p.frames) c.in_ok-buffer.ensures.pool) c.in-Ok-fresh.ensures.answer (ap (λ (b : Buffered). b.pool) c.write_space_held.ensures.written)

pub returns-clause-works : goal.returns-clause-works
returns-clause-works g c =
    let works = takes_work _ c.in-Ok.ensures.takes in
    record { tells = works.tells; orders = works.orders; later = works.later; fault = search rules }

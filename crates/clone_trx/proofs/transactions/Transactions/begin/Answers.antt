use Rattle.clone_trx.proofs.Common.{◌≡◌, ℕ, Some, sym, ap, subst, ◌∙◌, is_some, IsTrue, Buffered, image_of, begin_way, system_page, Goes, Holds, header_page, page_of, Donor, least_unused, IsKept}
use Rattle.clone_trx.proofs.ScanLemmas.{least_free_is}
use Rattle.clone_trx.proofs.SystemPageLemmas.{header_there}
use Rattle.clone_trx.proofs.BeginLemmas.{begin_goes, begin_answers}
use Rattle.clone_trx.proofs.PinLemmas.{loose_again, writes_pins}
use Rattle.clone_trx.proofs.transactions.Transactions.begin.Goals as goal

pub header_page-requires : goal.header_page-requires
header_page-requires g c =
    let least : least_unused c.args.self.now.active ≡ Some c.in-Some.trx = ap (λ (e : Donor). least_unused e.active) (sym c.self.view_is) ∙ sym c.least_free.ensures ∙ c.in-Some.is in
    (least_free_is c.args.self.now c.in-Some.trx least).0

pub hold-requires-clause-there : goal.hold-requires-clause-there
hold-requires-clause-there g c = λ right.
    let least : least_unused c.args.self.now.active ≡ Some c.in-Some.trx = ap (λ (e : Donor). least_unused e.active) (sym c.self.view_is) ∙ sym c.least_free.ensures ∙ c.in-Some.is in
    ap (λ (n : ℕ). is_some (page_of (image_of c.args.buffer.now) 0 n)) c.header_page.ensures
    ∙ header_there (image_of c.args.buffer.now) c.in-Some.trx (c.requires.kept.kept right).formed (least_free_is c.args.self.now c.in-Some.trx least).0

goes : (g : _) (c : goal.After-release g) → Goes (begin_way c.args.self.now c.args.writer c.args.index) c.args.buffer.now c.release.new.buffer c.begin_held-begun.result
goes g c =
    let least : least_unused c.args.self.now.active ≡ Some c.in-Some.trx = ap (λ (e : Donor). least_unused e.active) (sym c.self.view_is) ∙ sym c.least_free.ensures ∙ c.in-Some.is in
    let holds : Holds (system_page (header_page c.in-Some.trx)) c.in_ok-at.at c.args.buffer.now c.hold.new.buffer =
    subst (λ (n : ℕ). Holds (system_page n) c.in_ok-at.at c.args.buffer.now c.hold.new.buffer) c.header_page.ensures c.in_ok-at.ensures.held in
    begin_goes c.args.self.now c.in-Some.trx c.args.writer c.args.index least c.in_ok-at.at c.args.buffer.now c.hold.new.buffer c.begin_held-begun.new.buffer c.release.new.buffer c.begin_held-begun.result holds c.begin_held-begun.ensures.written c.release.ensures.is

pub returns-clause-answer : goal.returns-clause-answer
returns-clause-answer g c =
    let least : least_unused c.args.self.now.active ≡ Some c.in-Some.trx = ap (λ (e : Donor). least_unused e.active) (sym c.self.view_is) ∙ sym c.least_free.ensures ∙ c.in-Some.is in
    begin_answers c.args.self.now c.in-Some.trx c.args.writer c.args.index least c.begin_held-begun.new.self c.args.buffer.now c.release.new.buffer c.begin_held-begun.result (goes g c) c.begin_held-begun.ensures.donor

pub returns-clause-kept : goal.returns-clause-kept
returns-clause-kept g c = record {
  loose = loose_again _ c.in_ok-at.at c.args.buffer.now c.hold.new.buffer c.begin_held-begun.new.buffer c.release.new.buffer c.in_ok-at.ensures.held (writes_pins _ c.hold.new.buffer c.begin_held-begun.new.buffer c.begin_held-begun.result c.begin_held-begun.ensures.written) c.release.ensures.is c.requires.kept.loose;
  kept = λ after. subst (λ (v : Buffered). IsKept c.begin_held-begun.new.self (image_of v)) (sym c.release.ensures.is) (c.begin_held-begun.ensures.kept (subst (λ (v : Buffered). IsTrue v.right) c.release.ensures.is after));
}

-- The way of a transaction that begins.
use Rattle.clone_trx.proofs.Common.{◌≡◌, ℕ, Option, Some, Result, sym, ap, subst, unwrap_or, is_none, Buffered, begin_cause, Begins, EngineRefusal, TooManyTransactions, header_page, records_of_begin, Cause, Donor, least_unused, whether, begin_way, is_new, system_page, Way, reads, writes, Goes, Holds, Writes, Answers, Carries, let_go, page_in}
use Rattle.clone_trx.proofs.WayLemmas.{goes_on}

abbrev of : ℕ → ℕ → ℕ → Way
of trx writer index = reads (system_page (header_page trx)) (λ page. writes (records_of_begin (is_new page) trx writer index))

module _ (d : Donor) (trx writer index : ℕ) (least : least_unused d.active ≡ Some trx) where
  pub begin_goes : (at : ℕ) (old mid last new : Buffered) (result : Result ℕ EngineRefusal) → Holds (system_page (header_page trx)) at old mid → Writes (records_of_begin (is_new (page_in at mid)) trx writer index) mid last result → new ≡ let_go at last → Goes (begin_way d writer index) old new result
  begin_goes at old mid last new result holds wrote is =
      subst (λ (w : Way). Goes w old new result) (ap (λ (o : Option ℕ). of (unwrap_or o 0) writer index) (sym least))
      (goes_on (system_page (header_page trx)) (λ page. writes (records_of_begin (is_new page) trx writer index)) at old mid last new result holds wrote is)

  pub begin_answers : (after : Donor) (old new : Buffered) (result : Result ℕ EngineRefusal) → Goes (begin_way d writer index) old new result → Carries d after result (λ t. Begins d writer index t after)
      → Answers (begin_cause d) (begin_way d writer index) d after old new result (λ t. Begins d writer index t after)
  begin_answers after old new result goes does =
      subst (λ (o : Option Cause). Answers o (begin_way d writer index) d after old new result (λ t. Begins d writer index t after))
      (ap (λ (o : Option ℕ). whether (is_none o) TooManyTransactions) (sym least)) (goes, does)

use Rattle.std.proofs.Common.{◌≡◌, ℕ, true, ◌∙◌, ap, sym, Some, None, is_some}
use Rattle.std.specs.FinMap as finite
use Rattle.clone_base.proofs.OrderedMaps.{get_listed, inserted}
use Rattle.clone_model.proofs.RowMaps.{row_cmp_total, row_cmp_exact}
use Rattle.clone_flush.specs.Flights.{writes_of}
use Rattle.clone_flush.specs.declared.flusher.PageWrite.{PageWrite}
use Rattle.clone_flush.proofs.FlightLemmas.{same_write}
use Rattle.clone_flush.proofs.flusher.halve_in.Goals as goal

pub returns-in-Some : goal.returns-in-Some
returns-in-Some c =
    let m = c.args.writes.now in
    let key : ℕ × ℕ = (c.args.space, c.args.number) in
    let v : PageWrite = c.halve.new.self in
    λ w is.
    let same : c.in-Some.write.now ≡ w = same_write _ c.in-Some.write.now w (c.in-Some.ensures.value ∙ sym (get_listed row_cmp_total m key)) is in
    inserted row_cmp_total row_cmp_exact m (c.get_mut.follows.lender v) key v ((c.get_mut.follows.holds v).3 (ap is_some (sym c.in-Some.ensures.value)))
    ∙ ap (finite.insert (writes_of m.entries) key) (c.halve.ensures ∙ ap (λ (x : PageWrite). record x { halved = true }) same)

pub returns-in_default : goal.returns-in_default
returns-in_default c = λ w is.
    let none : None ≡ Some w = c.in_default.ensures.value ∙ sym (get_listed row_cmp_total c.args.writes.now (c.args.space, c.args.number)) ∙ is in
    absurd (cc)

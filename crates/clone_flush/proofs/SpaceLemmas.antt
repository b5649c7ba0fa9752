-- Whether a page of a space is among the pages that are on their way to the disk.
use Rattle.std.proofs.Common.{◌≡◌, ◌↔◌, ◌==◌, ◌∙◌, ℕ, List, true, refl, sym, ap, is_some, IsSome, eq-eqb, eqb-true}
use Rattle.std.specs.FinMap as finite
use Rattle.std.specs.List.{list_any, Contains}
use Rattle.std.specs.Ordering.{eq_by_cmp}
use Rattle.std.specs.Set.{is_member}
use Rattle.std.proofs.lemmas.Cmp.{eq_by_cmp_equiv}
use Rattle.std.proofs.lemmas.List.Folds.{Any-from_list_any, list_any-from_Any}
use Rattle.std.proofs.lemmas.Map.Views.{Contains-from_any, list_any-from_Contains}
use Rattle.clone_base.proofs.MapEntries.{is_equal}
use Rattle.clone_model.proofs.RowMaps.{row_cmp_total, row_cmp_exact}
use Rattle.clone_model.specs.Keys.{row_cmp}
use Rattle.clone_flush.specs.Flights.{Writes}

pub among : (pages : List (ℕ × ℕ)) (writes : Writes) (space : ℕ) → ((page : ℕ × ℕ) → is_some (finite.get writes page) ≡ is_member (eq_by_cmp row_cmp) pages page) → (list_any (λ page. page.0 == space) pages ≡ true) ↔ ((number : ℕ) × IsSome (finite.get writes (space, number)))
among pages writes space listed = (there, one)
  where
    there : list_any (λ (page : ℕ × ℕ). page.0 == space) pages ≡ true → (number : ℕ) × IsSome (finite.get writes (space, number))
    there any =
        let on = Any-from_list_any (λ (page : ℕ × ℕ). page.0 == space) pages any in
        let same : on.1 ≡ (space, on.1.1) = ap (λ (s : ℕ). (s, on.1.1)) (eqb-true on.1.0 space on.4) in
        (on.1.1, ap (λ (page : ℕ × ℕ). is_some (finite.get writes page)) (sym same) ∙ listed on.1 ∙ list_any-from_Contains (eq_by_cmp_equiv row_cmp_total) on.1 pages (on.0, on.2, on.3))

    one : ((number : ℕ) × IsSome (finite.get writes (space, number))) → list_any (λ (page : ℕ × ℕ). page.0 == space) pages ≡ true
    one has =
        let page : ℕ × ℕ = (space, has.0) in
        let on : Contains pages page = Contains-from_any (λ x y tied. row_cmp_exact x y (is_equal _ tied)) page pages (sym (listed page) ∙ has.1) in
        list_any-from_Any (λ (p : ℕ × ℕ). p.0 == space) pages (on.0, page, on.1, on.2, eq-eqb space space refl)

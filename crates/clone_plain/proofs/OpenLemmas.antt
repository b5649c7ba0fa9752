-- The open transactions stay few, with few changes each, when one is set, removed or loses its last change.
use Rattle.std.proofs.Common.{◌≡◌, ◌≢◌, ◌<◌, ◌≤◌, ℕ, length, refl, sym, ap, subst, ◌∙◌, inl, inr, Some, None, IsSome, is_some, Option}
use Rattle.clone_plain.proofs.Common.{nat_cmp-IsAntisymmetric, nat_cmp_total, cases_eq, same_Some, Commit, TRANSACTION_LIMIT, CHANGE_LIMIT, Opened, AreFew, get-set_same, get-set_other}
use Rattle.std.specs.FinMap as finite
use Rattle.clone_base.proofs.OrderedMaps.{get-remove_some}

some_there : {X : Type 0} (o : Option X) → IsSome o → (x : X) × (o ≡ Some x)
some_there None there = absurd cc
some_there (Some x) there = (x, refl)

pub few_inserted : (old new : Opened) (trx : ℕ) (commit : Commit) → AreFew old → new ≡ finite.insert old trx commit → trx < TRANSACTION_LIMIT → length commit.changes ≤ CHANGE_LIMIT → AreFew new
few_inserted old new trx commit before is number short = record {
  numbers = λ n there. elim (cases_eq n trx) [
    | inl same ↦ subst (λ m. m < TRANSACTION_LIMIT) (sym same) number
    | inr other ↦ before.numbers n (ap is_some (sym (kept n other)) ∙ there)
  ];
  few = λ n c at. elim (cases_eq n trx) [
    | inl same ↦ subst (λ (x : Commit). length x.changes ≤ CHANGE_LIMIT) (same_Some commit c (sym own ∙ ap (finite.get new) (sym same) ∙ at)) short
    | inr other ↦ before.few n c (sym (kept n other) ∙ at)
  ];
}
  where
    own : finite.get new trx ≡ Some commit
    own = ap (λ (o : Opened). finite.get o trx) is ∙ get-set_same nat_cmp_total nat_cmp-IsAntisymmetric old trx commit

    kept : (n : ℕ) → n ≢ trx → finite.get new n ≡ finite.get old n
    kept n other = ap (λ (o : Opened). finite.get o n) is ∙ get-set_other nat_cmp_total nat_cmp-IsAntisymmetric old trx commit n other

pub few_removed : (old new : Opened) (trx : ℕ) → AreFew old → new ≡ finite.remove old trx → AreFew new
few_removed old new trx before is = record {
  numbers = λ n there. let w = some_there (finite.get new n) there in before.numbers n (ap is_some (was n w.0 w.1));
  few = λ n c at. before.few n c (was n c at);
}
  where
    was : (n : ℕ) (c : Commit) → finite.get new n ≡ Some c → finite.get old n ≡ Some c
    was n c at = get-remove_some nat_cmp_total nat_cmp-IsAntisymmetric old trx n c (ap (λ (o : Opened). finite.get o n) (sym is) ∙ at)

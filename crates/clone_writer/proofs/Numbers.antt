-- Whose the open transactions and the commits are.
use Rattle.std.proofs.Common.{◌≡◌, ◌⊎◌, ◌∙◌, ◌++◌, ◌∷◌, [], ℕ, List, Some, None, Result, sym, ap, subst, inl, inr, Contains}
use Rattle.std.proofs.lemmas.List.Elements.{Contains-push_cases}
use Rattle.std.specs.FinMap as finite
use Rattle.clone_writer.proofs.Common.{nat_cmp-IsAntisymmetric, nat_cmp_total, cases_eq, same_Some, get-set_same, get-set_other, get-removed_same, get-removed_other, Commit, Donor, Opened, EngineAnswer, EngineCall, EngineRefusal, Leads, AreOf, BeginsFor}
use Rattle.clone_writer.proofs.Effects.{Effect, effect, leaves, opens, sets, closes}

none_is_some : (c : Commit) → None ≡ Some c → ⊥
none_is_some c is = cc

module _ (numbers : List ℕ) (d after : Donor) (all : AreOf numbers d) where
  done_same : after.binlog ≡ d.binlog → (c : Commit) → Contains after.binlog c → Contains numbers c.writer
  done_same binlog c there = all.done c (subst (λ (cs : List Commit). Contains cs c) binlog there)

  -- one transaction was set, and it is of one of the writers
  set_of : (trx : ℕ) (x : Commit) → Contains numbers x.writer → after.active ≡ finite.insert d.active trx x → after.binlog ≡ d.binlog → AreOf numbers after
  set_of trx x own active binlog = record {
    active = λ t c at. elim (cases_eq t trx) [
      | inl same ↦ subst (λ (y : Commit). Contains numbers y.writer) (same_Some x c (sym (get-set_same nat_cmp_total nat_cmp-IsAntisymmetric d.active trx x) ∙ ap (λ (a : Opened). finite.get a trx) (sym active) ∙ ap (finite.get after.active) (sym same) ∙ at)) own
      | inr other ↦ all.active t c (sym (get-set_other nat_cmp_total nat_cmp-IsAntisymmetric d.active trx x t other) ∙ ap (λ (a : Opened). finite.get a t) (sym active) ∙ at)
    ];
    done = done_same binlog;
  }

  by_effect : (asked : EngineCall) → BeginsFor numbers asked → Effect d asked after → AreOf numbers after
  by_effect asked own (leaves active binlog) = record {
    active = λ trx c at. all.active trx c (ap (λ (a : Opened). finite.get a trx) (sym active) ∙ at);
    done = done_same binlog;
  }
  by_effect asked own (opens writer index begins is) = set_of is.trx _ (subst (BeginsFor numbers) begins own) is.active is.binlog
  by_effect asked own (sets trx names is) = set_of trx _ (all.active trx is.old is.was) is.active is.binlog
  by_effect asked own (closes trx names is) = record {
    active = λ t c at. elim (cases_eq t trx) [
      | inl same ↦ absurd (none_is_some c (sym (get-removed_same nat_cmp_total nat_cmp-IsAntisymmetric d.active trx) ∙ ap (λ (a : Opened). finite.get a trx) (sym is.active) ∙ ap (finite.get after.active) (sym same) ∙ at))
      | inr other ↦ all.active t c (sym (get-removed_other nat_cmp_total nat_cmp-IsAntisymmetric d.active trx t other) ∙ ap (λ (a : Opened). finite.get a t) (sym is.active) ∙ at)
    ];
    done = of_both is.binlog;
  }
    where
      of_both : (after.binlog ≡ d.binlog) ⊎ (after.binlog ≡ d.binlog ++ is.old ∷ []) → (c : Commit) → Contains after.binlog c → Contains numbers c.writer
      of_both (inl binlog) c there = done_same binlog c there
      of_both (inr more) c there = elim (Contains-push_cases d.binlog is.old c (subst (λ (cs : List Commit). Contains cs c) more there)) [
        | inl old ↦ all.done c old
        | inr new ↦ subst (λ (x : Commit). Contains numbers x.writer) new (all.active trx is.old is.was)
      ]

  pub keeps_of : (asked : EngineCall) (given : Result EngineAnswer EngineRefusal) → BeginsFor numbers asked → Leads d asked given after → AreOf numbers after
  keeps_of asked given own is = by_effect asked own (effect d after asked given is)

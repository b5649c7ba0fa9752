-- What a call leaves of a writer whose transactions it has nothing to do with.
use Rattle.std.proofs.Common.{◌≡◌, ◌≢◌, ◌==◌, ◌⊎◌, ◌∙◌, ◌++◌, ◌∷◌, [], ℕ, List, Bool, true, false, not, cond, Option, Some, None, Result, refl, sym, ap, subst, inl, inr, is_some, find, IfSome}
use Rattle.std.proofs.lemmas.Bool.{true≢false}
use Rattle.std.specs.List.{range_with_len}
use Rattle.std.proofs.lemmas.List.Elements.{filter-append}
use Rattle.clone_base.specs.declared.limits.TheConstants.{TRANSACTION_LIMIT}
use Rattle.clone_plain.specs.Causes.{least_unused}
use Rattle.clone_writer.specs.Writers.{Writer}
use Rattle.std.specs.FinMap as finite
use Rattle.clone_writer.proofs.Common.{nat_cmp-IsAntisymmetric, nat_cmp_total, eq-eqb, ne_eqb, same_Some, get-set_other, get-removed_other, Commit, Donor, Opened, EngineAnswer, EngineCall, EngineRefusal, of_writer, trx_of, Leads, IsAt, Agree, IsOthers, Spares, Place, Before, Within, Undoing}
use Rattle.clone_writer.proofs.Effects.{Effect, effect, leaves, opens, sets, closes}

-- the commits of a writer once one more is made, by it or by another
pub more_own : (number : ℕ) (binlog : List Commit) (c : Commit) → c.writer ≡ number → of_writer number (binlog ++ c ∷ []) ≡ of_writer number binlog ++ c ∷ []
more_own number binlog c is = filter-append (λ (x : Commit). x.writer == number) binlog (c ∷ []) ∙ ap (λ (b : Bool). of_writer number binlog ++ cond b (c ∷ []) []) (eq-eqb c.writer number is)

append_none : {X : Type 0} (xs : List X) → xs ++ [] ≡ xs
append_none [] = refl
append_none (x ∷ xs) = ap (λ ys. x ∷ ys) (append_none xs)

more_other : (number : ℕ) (binlog : List Commit) (c : Commit) → c.writer ≢ number → of_writer number (binlog ++ c ∷ []) ≡ of_writer number binlog
more_other number binlog c other = filter-append (λ (x : Commit). x.writer == number) binlog (c ∷ []) ∙ ap (λ (b : Bool). of_writer number binlog ++ cond b (c ∷ []) []) (ne_eqb c.writer number other) ∙ append_none (of_writer number binlog)

-- a number that is unused names no open transaction
found_at : (P : ℕ → Bool) (y x : ℕ) (o : Option ℕ) → (o ≡ Some x → P x ≡ true) → (b : Bool) → P y ≡ b → cond b (Some y) o ≡ Some x → P x ≡ true
found_at P y x o later true holds at = ap P (sym (same_Some y x at)) ∙ holds
found_at P y x o later false fails at = later at

first_found : (P : ℕ → Bool) (xs : List ℕ) (x : ℕ) → find P xs ≡ Some x → P x ≡ true
first_found P [] x is = absurd cc
first_found P (y ∷ ys) x is = found_at P y x (find P ys) (first_found P ys x) (P y) refl is

taken : (active : Opened) (trx : ℕ) (c : Commit) → finite.get active trx ≡ Some c → not (finite.contains_key active trx) ≡ false
taken active trx c at = by (finite.get active trx) at
  where
    by : (o : Option Commit) → o ≡ Some c → not (is_some o) ≡ false
    by None is = absurd cc
    by (Some x) is = refl

apart_new : (active : Opened) (new trx : ℕ) (c : Commit) → least_unused active ≡ Some new → finite.get active trx ≡ Some c → trx ≢ new
unfolding least_unused
apart_new active new trx c least at same =
    true≢false (sym (first_found (λ t. not (finite.contains_key active t)) (range_with_len 0 TRANSACTION_LIMIT) new least) ∙ taken active new c (ap (finite.get active) (sym same) ∙ at))

-- the writer's commits are the same, and its open transactions stay
abbrev Spared : ℕ → Donor → Donor → Type 0
Spared number d after = (of_writer number after.binlog ≡ of_writer number d.binlog)
    × ((trx : ℕ) (c : Commit) → finite.get d.active trx ≡ Some c → c.writer ≡ number → finite.get after.active trx ≡ Some c)

spared : (number : ℕ) (d after : Donor) (asked : EngineCall) → Spares number d asked → Effect d asked after → Spared number d after
spared number d after asked spares (leaves active binlog) = (ap (of_writer number) binlog, λ trx c at own. ap (λ (a : Opened). finite.get a trx) active ∙ at)
spared number d after asked spares (opens writer index begins is) =
    (ap (of_writer number) is.binlog, λ t c at own. ap (λ (a : Opened). finite.get a t) is.active ∙ get-set_other nat_cmp_total nat_cmp-IsAntisymmetric d.active is.trx _ t (apart_new d.active is.trx t c is.unused at) ∙ at)
spared number d after asked spares (sets trx names is) =
    (ap (of_writer number) is.binlog, λ t c at own. ap (λ (a : Opened). finite.get a t) is.active ∙ get-set_other nat_cmp_total nat_cmp-IsAntisymmetric d.active trx _ t (others trx names t c at own) ∙ at)
  where
    others : (trx : ℕ) → trx_of asked ≡ Some trx → (t : ℕ) (c : Commit) → finite.get d.active t ≡ Some c → c.writer ≡ number → t ≢ trx
    others trx names t c at own same = subst (λ (o : Option ℕ). IfSome o (IsOthers number d)) names spares c (ap (finite.get d.active) (sym same) ∙ at) own
spared number d after asked spares (closes trx names is) =
    (of_both is.binlog, λ t c at own. ap (λ (a : Opened). finite.get a t) is.active ∙ get-removed_other nat_cmp_total nat_cmp-IsAntisymmetric d.active trx t (λ same. foreign c (ap (finite.get d.active) (sym same) ∙ at) own) ∙ at)
  where
    foreign : IsOthers number d trx
    foreign = subst (λ (o : Option ℕ). IfSome o (IsOthers number d)) names spares

    of_both : (after.binlog ≡ d.binlog) ⊎ (after.binlog ≡ d.binlog ++ is.old ∷ []) → of_writer number after.binlog ≡ of_writer number d.binlog
    of_both (inl same) = ap (of_writer number) same
    of_both (inr more) = ap (of_writer number) more ∙ more_other number d.binlog is.old (foreign is.old is.was)

pub keeps : (w : Writer) (d after : Donor) (asked : EngineCall) (given : Result EngineAnswer EngineRefusal) → Agree w d → Spares w.number d asked → Leads d asked given after → Agree w after
keeps w d after asked given agree spares is = record { commits = s.0 ∙ agree.commits; place = at_stays w.place agree.place }
  where
    s : Spared w.number d after
    s = spared w.number d after asked spares (effect d after asked given is)

    at_stays : (place : Place) → IsAt w place d → IsAt w place after
    at_stays Before is = tt
    at_stays (Within trx made) is = s.1 trx _ is refl
    at_stays (Undoing trx) is = (is.0, s.1 trx _ is.1 refl)

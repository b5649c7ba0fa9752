-- An ordered set as a finite set, in any exact order.
use Rattle.std.proofs.Common.{◌≡◌, Bool, true, false, cond, ◌||◌, refl, sym, ap, ◌∙◌}
use Rattle.std.specs.declared.cmp.Ordering.{Ordering}
use Rattle.std.specs.BTreeSet.{BTreeSet, Updates}
use Rattle.std.specs.Cmp.{IsTotalOrder, eq_by_cmp_equiv}
use Rattle.std.specs.FinSet as set
use Rattle.std.specs.FinSet.{IsAntisymmetric, contains-from_list, contains-insert, same_set}
use Rattle.std.specs.List.{list_any}
use Rattle.std.specs.Ordering.{eq_by_cmp}

either_of : (a b : Bool) → cond a true b ≡ (a || b)
either_of true b = refl
either_of false b = refl

module _ {K : Type 0} {R : K → K → Ordering} (o : IsTotalOrder R) (exact : IsAntisymmetric R) where
  -- an item that joined
  pub set_inserted : (old new : BTreeSet K) (k : K) → Updates R old new k true → set.from_list {R = R} new.keys ≡ set.insert (set.from_list old.keys) k
  set_inserted old new k is =
      same_set o exact (set.from_list new.keys) (set.insert (set.from_list old.keys) k) (λ q.
      contains-from_list o new.keys q ∙ is.0 q ∙ either_of (eq_by_cmp R k q) (list_any (eq_by_cmp R q) old.keys)
      ∙ ap (λ (b : Bool). b || list_any (eq_by_cmp R q) old.keys) ((eq_by_cmp_equiv o).symm k q)
      ∙ sym (contains-insert o (set.from_list old.keys) k q ∙ ap (λ (b : Bool). eq_by_cmp R q k || b) (contains-from_list o old.keys q)))

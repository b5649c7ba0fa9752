-- What an undo record puts back.
use Rattle.std.proofs.Common.{◌≡◌, ◌≤◌, ℕ, cond, List, length, sym, ap, subst, ◌∙◌, arith, inl, inr, Option, Some, None, IfSome, eq-eqb, ne_eqb}
use Rattle.clone_contents.proofs.Common.{UndoEntry, IsEntry, slot_before, told_value}
use Rattle.clone_row.specs.Slots as rows

told_some : (e : UndoEntry) → e.state ≡ 1 → told_value e ≡ Some e.value
told_some e is = ap (λ b. cond b (Some e.value) None) (eq-eqb e.state 1 is)

told_none : (e : UndoEntry) → e.state ≡ 2 → told_value e ≡ None
told_none e is = ap (λ b. cond b (Some e.value) None) (ne_eqb e.state 1 (λ one. omega (arith, is, one)))

-- the bytes are those of the slot of its key, with the value from before
pub slot_before-is : (e : UndoEntry) → IsEntry e → slot_before e ≡ rows.image e.key (told_value e)
slot_before-is e is =
    elim is.before [
      | inl present ↦ (λ i. slot_before (record e { state = present.0 i })) ∙ sym (ap (rows.image e.key) (told_some e present.0))
      | inr absent ↦ (λ i. slot_before (record e { state = absent.0 i; value = absent.1 i })) ∙ sym (ap (rows.image e.key) (told_none e absent.0))
    ]

pub told_short : (e : UndoEntry) → IsEntry e → IfSome (told_value e) (λ v. length v ≤ 64)
told_short e is =
    elim is.before [
      | inl present ↦ subst (λ (o : Option (List ℕ)). IfSome o (λ v. length v ≤ 64)) (sym (told_some e present.0)) present.1
      | inr absent ↦ subst (λ (o : Option (List ℕ)). IfSome o (λ v. length v ≤ 64)) (sym (told_none e absent.0)) tt
    ]

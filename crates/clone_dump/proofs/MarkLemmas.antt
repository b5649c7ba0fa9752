-- A recovered mark is no other one.
use Rattle.std.proofs.Common.{◌≡◌, List, ℕ, get_or, sym, ap, ◌∙◌, arith}
use Rattle.std.proofs.lemmas.Option.{same_Some}
use Rattle.clone_outside.specs.Disk.{DiskImage}
use Rattle.clone_outside.specs.Mark.{mark_bytes}
use Rattle.clone_outside.specs.declared.mark.CloneEnd.{CloneEnd}
use Rattle.clone_outside.specs.declared.mark.Mark.{Mark}
use Rattle.clone_outside.specs.declared.mark.Mark.TheVariants as mark
use Rattle.clone_recover.specs.Restores.{HasMark, HasRecovered, IsUnrecovered, incomplete, complete, unmarked, under_way, numbered, unplaced}

-- the ninth bytes of two marks that a disk has
one_kind : (m : DiskImage) (a b : Mark) → HasMark m a → HasMark m b → get_or (mark_bytes a) 8 0 ≡ get_or (mark_bytes b) 8 0
one_kind m a b first second = ap (λ (bytes : List ℕ). get_or bytes 8 0) (same_Some (mark_bytes a) (mark_bytes b) (sym first ∙ second))

pub not_unrecovered : (n : DiskImage) → HasRecovered n → IsUnrecovered n → ⊥
not_unrecovered n has (incomplete (unmarked none)) = none (mark.Recovered has.0) has.1 has.2
not_unrecovered n has (incomplete (under_way session is)) = let e : 3 ≡ 1 = one_kind n (mark.Recovered has.0) (mark.InProgress session) has.2 is in omega (arith, e)
not_unrecovered n has (incomplete (numbered end is)) = let e : 3 ≡ 1 = one_kind n (mark.Recovered has.0) (mark.Ending end) has.2 is in omega (arith, e)
not_unrecovered n has (incomplete (unplaced end is)) = let e : 3 ≡ 4 = one_kind n (mark.Recovered has.0) (mark.Staged end) has.2 is in omega (arith, e)
not_unrecovered n has (complete end is) = let e : 3 ≡ 2 = one_kind n (mark.Recovered has.0) (mark.Complete end) has.2 is in omega (arith, e)

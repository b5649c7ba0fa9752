-- Small facts of what an option holds, and of the pages of a space.
use Rattle.std.proofs.Common.{◌≡◌, ◌<◌, ◌∙◌, ℕ, Option, None, Some, IsSome, refl, sym, arith}
use Rattle.std.specs.List.{Contains}
use Rattle.std.proofs.lemmas.List.FromFn.{get_or-map-range_with_len, length-map-range_with_len}
use Rattle.clone_outside.specs.Disk.{DiskImage}
use Rattle.clone_snapshot.specs.StageLists.{pages_of_space}

pub told_disk : (told : Option DiskImage) → IsSome told → (m : DiskImage) × (told ≡ Some m)
told_disk None tells = absurd (cc)
told_disk (Some m) tells = (m, refl)

pub two_none : {X : Type 0} (o : Option X) (x : X) → o ≡ None → o ≡ Some x → ⊥
two_none o x none some = let both : None ≡ Some x = sym none ∙ some in cc

pub same_some : {X : Type 0} (o : Option X) (x y : X) → o ≡ Some x → o ≡ Some y → x ≡ y
same_some o x y is also = let both : Some x ≡ Some y = sym is ∙ also in cc

pub in_space : (space size number : ℕ) → number < size → Contains (pages_of_space (space, size)) (space, number)
in_space space size number low =
    let at : ℕ → ℕ × ℕ = λ n. (space, n) in
    (number, omega (arith, low, length-map-range_with_len at 0 size), get_or-map-range_with_len at 0 size number number (space, number) low (omega arith))

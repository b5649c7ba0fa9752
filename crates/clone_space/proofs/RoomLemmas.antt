-- Names that differ, each of them a key of a map, are no more than the map has keys. So a
-- dictionary that names fewer tables than it has entries has a free one.
use Rattle.std.proofs.Common.{◌≡◌, ◌≤◌, ◌<◌, ◌-◌, ℕ, zero, suc, Bool, true, false, cond, List, Option, Some, None, IsSome, is_some, arith, refl, sym, ap, ◌∙◌, inl, inr}
use Rattle.std.specs.FinMap as finite
use Rattle.std.specs.FinMap.{nat_cmp-IsAntisymmetric, empty_of_len, get-empty, len-remove}
use Rattle.std.specs.Cmp.{nat_cmp_total}
use Rattle.std.specs.Ordering.{nat_cmp}
use Rattle.std.proofs.lemmas.Bool.{cases_eq}
use Rattle.clone_base.proofs.MapEntries.{get-removed_other}
use Rattle.clone_space.specs.Entries.{dictionary, entry_in, FindsFree, AreOnce, AreAmong}

abbrev Tables : Type 0
Tables = finite.FinMap nat_cmp ℕ

-- a map with a key has one at least
some_keys : (m : Tables) (k : ℕ) → IsSome (finite.get m k) → 1 ≤ finite.len m
some_keys m k there =
    elim (cases_eq (finite.len m) 0) [
      | inl none ↦ absurd (let gone : is_some (finite.get m k) ≡ false = ap is_some (ap (λ (n : Tables). finite.get n k) (empty_of_len m none) ∙ get-empty nat_cmp k) in let no : false ≡ true = sym gone ∙ there in cc)
      | inr some ↦ omega arith
    ]

one_less : (m : Tables) (k : ℕ) → IsSome (finite.get m k) → finite.len (finite.remove m k) ≡ finite.len m - 1
one_less m k there = len-remove nat_cmp_total m k ∙ ap (λ (b : Bool). cond b (finite.len m - 1) (finite.len m)) there

pub at_most : (n : ℕ) (named : ℕ → ℕ) (m : Tables) → ((j : ℕ) → j < n → IsSome (finite.get m (named j))) → ((i j : ℕ) → i < n → j < n → named i ≡ named j → i ≡ j) → n ≤ finite.len m
at_most zero named m there once = omega arith
at_most (suc n) named m there once =
    let last : ℕ = named n in
    let held = there n (omega arith) in
    let rest = at_most n named (finite.remove m last)
    (λ j lt. ap is_some (get-removed_other nat_cmp_total nat_cmp-IsAntisymmetric m last (named j) (λ same. let e = once j n (omega arith) (omega arith) same in absurd (omega (arith, e, lt)))) ∙ there j (omega arith))
    (λ i j low small same. once i j (omega arith) (omega arith) same) in
    omega (arith, rest, one_less m last held, some_keys m last held)

pub room : (tables : Tables) (page : List ℕ) (found : Option ℕ) → AreOnce (dictionary page) → AreAmong tables (dictionary page) → finite.len tables < 62 → FindsFree (dictionary page) found → IsSome found
room tables page (Some j) once among few finds = refl
room tables page None once among few none =
    let many = at_most 62 (λ j. (entry_in (dictionary page) j).table) tables (λ j lt. among j (none j lt)) (λ i j low small same. once i j (none i low) same) in
    absurd (omega (arith, many, few))

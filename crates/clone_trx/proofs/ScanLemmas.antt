-- A scan of numbers in ascending order, for the first that passes.
use Rattle.clone_plain.specs.Causes.{least_unused}
use Rattle.clone_trx.proofs.Common.{◌≡◌, ℕ, zero, suc, ◌+◌, ◌-◌, ◌<◌, ◌≤◌, Bool, true, false, not, cond, refl, sym, ap, ◌∙◌, Option, Some, None, is_some, arith, find, range_with_len, same_Some, none-some, Donor, TRANSACTION_LIMIT, Opened}
use Rattle.std.specs.FinMap as finite

pub least_unused-found : (active : Opened) → least_unused active ≡ find (λ trx. not (finite.contains_key active trx)) (range_with_len 0 TRANSACTION_LIMIT)
unfolding least_unused
least_unused-found active = refl

pub find_skips : (P : ℕ → Bool) (t n : ℕ) → t < n → P t ≡ false → find P (range_with_len t (n - t)) ≡ find P (range_with_len (t + 1) (n - (t + 1)))
find_skips P t n lt fails =
    let more : n - t ≡ suc (n - (t + 1)) = omega arith in
    ap (λ k. find P (range_with_len t k)) more ∙ ap (λ b. cond b (Some t) (find P (range_with_len (t + 1) (n - (t + 1))))) fails

pub find_takes : (P : ℕ → Bool) (t n : ℕ) → t < n → P t ≡ true → find P (range_with_len t (n - t)) ≡ Some t
find_takes P t n lt passes =
    let more : n - t ≡ suc (n - (t + 1)) = omega arith in
    ap (λ k. find P (range_with_len t k)) more ∙ ap (λ b. cond b (Some t) (find P (range_with_len (t + 1) (n - (t + 1))))) passes

pub find_ends : (P : ℕ → Bool) (t n : ℕ) → n ≤ t → find P (range_with_len t (n - t)) ≡ None
find_ends P t n le =
    let none : n - t ≡ 0 = omega arith in
    ap (λ k. find P (range_with_len t k)) none

-- What is found is below the limit, and no transaction is open of that number.

found : (test : ℕ → Bool) (a n x : ℕ) → find test (range_with_len a n) ≡ Some x → (x < a + n) × (test x ≡ true)
found test a zero x is = absurd (none-some x is)
found test a (suc n) x is = at (test a) refl is (found test (a + 1) n x)
  where
    at : (b : Bool) → test a ≡ b → cond b (Some a) (find test (range_with_len (a + 1) n)) ≡ Some x → (find test (range_with_len (a + 1) n) ≡ Some x → (x < a + 1 + n) × (test x ≡ true)) → (x < a + suc n) × (test x ≡ true)
    at true passes here later = let same = same_Some a x here in (omega (arith, same), ap test (sym same) ∙ passes)
    at false passes behind later = let l = later behind in (omega (arith, l.0), l.1)

none_there : {X : Type 0} (o : Option X) → not (is_some o) ≡ true → o ≡ None
none_there None is = refl
none_there (Some x) is = absurd cc

pub least_free_is : (d : Donor) (trx : ℕ) → least_unused d.active ≡ Some trx → (trx < TRANSACTION_LIMIT) × (finite.get d.active trx ≡ None)
unfolding least_unused
least_free_is d trx is = let f = found (λ n. not (finite.contains_key d.active n)) 0 TRANSACTION_LIMIT trx is in (omega (arith, f.0), none_there (finite.get d.active trx) f.1)

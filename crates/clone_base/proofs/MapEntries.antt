-- Entries of finite maps, once one was set or removed, and the last element of a list.
use Rattle.std.proofs.Common.{set, ◌≡◌, ◌≢◌, ℕ, ◌<◌, ◌≤◌, ◌⊎◌, Bool, true, false, cond, List, [], ◌∷◌, ◌++◌, length, Option, Some, None, refl, sym, ap, ◌∙◌, inl, inr, arith, slice_get}
use Rattle.std.specs.declared.cmp.Ordering.{Ordering}
use Rattle.std.specs.declared.cmp.Ordering.TheVariants.{Less, Equal, Greater}
use Rattle.std.specs.FinMap as finite
use Rattle.std.specs.FinMap.{IsAntisymmetric, get-insert, get-remove}
use Rattle.std.specs.Cmp.{IsTotalOrder, eq_by_cmp_equiv}
use Rattle.std.specs.Ordering.{eq_by_cmp, is_eq}
use Rattle.std.proofs.lemmas.Bool.{cases_eq, cases_lt, false_from_ne_true}
use Rattle.std.proofs.lemmas.List.{get_or-set_same, get_or-set_other, length-set, get_or_append_left, get_or_push, length_push}
use Rattle.std.proofs.lemmas.Option.{slice_get_past, same_Some, slice_get_within, slice_get-get_or}

pub is_equal : (r : Ordering) → is_eq r ≡ true → r ≡ Equal
is_equal Less e = cc
is_equal Equal e = refl
is_equal Greater e = cc

module _ {K : Type 0} {R : K → K → Ordering} (o : IsTotalOrder R) (exact : IsAntisymmetric R) where
  pub ties : (k : K) → eq_by_cmp R k k ≡ true
  ties k = (eq_by_cmp_equiv o).refl k

  pub apart : (q k : K) → q ≢ k → eq_by_cmp R q k ≡ false
  apart q k other = false_from_ne_true (eq_by_cmp R q k) (λ e. other (exact q k (is_equal (R q k) e)))

module _ {K X : Type 0} {R : K → K → Ordering} (o : IsTotalOrder R) (exact : IsAntisymmetric R) where
  pub get-set_same : (m : finite.FinMap R X) (k : K) (x : X) → finite.get (finite.insert m k x) k ≡ Some x
  get-set_same m k x = get-insert o m k x k ∙ ap (λ (b : Bool). cond b (Some x) (finite.get m k)) (ties o exact k)

  pub get-set_other : (m : finite.FinMap R X) (k : K) (x : X) (q : K) → q ≢ k → finite.get (finite.insert m k x) q ≡ finite.get m q
  get-set_other m k x q other = get-insert o m k x q ∙ ap (λ (b : Bool). cond b (Some x) (finite.get m q)) (apart o exact q k other)

  pub get-removed_same : (m : finite.FinMap R X) (k : K) → finite.get (finite.remove m k) k ≡ None
  get-removed_same m k = get-remove o m k k ∙ ap (λ (b : Bool). cond b None (finite.get m k)) (ties o exact k)

  pub get-removed_other : (m : finite.FinMap R X) (k q : K) → q ≢ k → finite.get (finite.remove m k) q ≡ finite.get m q
  get-removed_other m k q other = get-remove o m k q ∙ ap (λ (b : Bool). cond b None (finite.get m q)) (apart o exact q k other)

pub cases_row : (row other : ℕ × ℕ) → (row ≡ other) ⊎ (row ≢ other)
cases_row row other = at (cases_eq row.0 other.0) (cases_eq row.1 other.1)
  where
    at : (row.0 ≡ other.0) ⊎ (row.0 ≢ other.0) → (row.1 ≡ other.1) ⊎ (row.1 ≢ other.1) → (row ≡ other) ⊎ (row ≢ other)
    at (inl a) (inl b) = inl (λ i. (a i, b i))
    at (inl a) (inr b) = inr (λ e. b (ap (λ (p : ℕ × ℕ). p.1) e))
    at (inr a) either = inr (λ e. a (ap (λ (p : ℕ × ℕ). p.0) e))

-- a row's lock is held by a transaction, or it isn't
pub cases_held : (o : Option ℕ) (trx : ℕ) → (o ≡ Some trx) ⊎ (o ≢ Some trx)
cases_held None trx = inr (λ e. cc)
cases_held (Some n) trx = at (cases_eq n trx)
  where
    at : (n ≡ trx) ⊎ (n ≢ trx) → (◌≡◌ {A = Option ℕ} (Some n) (Some trx)) ⊎ (◌≢◌ {A = Option ℕ} (Some n) (Some trx))
    at (inl e) = inl (ap (λ x. Some x) e)
    at (inr other) = inr (λ e. other (same_Some n trx e))

-- an element of a list behind which one more was put
pub slice_get-pushed_front : {X : Type 0} (xs : List X) (y : X) (i : ℕ) → i < length xs → slice_get (xs ++ y ∷ []) i ≡ slice_get xs i
slice_get-pushed_front xs y i low =
    slice_get-get_or (xs ++ y ∷ []) i y (omega (arith, low, length_push xs y)) ∙ ap (λ x. Some x) (get_or_append_left xs (y ∷ []) y i low) ∙ sym (slice_get-get_or xs i y low)

pub slice_get-pushed_last : {X : Type 0} (xs : List X) (y : X) (i : ℕ) → i ≡ length xs → slice_get (xs ++ y ∷ []) i ≡ Some y
slice_get-pushed_last xs y i is = slice_get-get_or (xs ++ y ∷ []) i y (omega (arith, is, length_push xs y)) ∙ ap (λ x. Some x) (get_or_push xs y y i (sym is))

-- it is one of those before, or the last
pub cases_pushed : {X : Type 0} (xs : List X) (y : X) (i : ℕ) (x : X) → slice_get (xs ++ y ∷ []) i ≡ Some x → ((i < length xs) × (slice_get xs i ≡ Some x)) ⊎ ((i ≡ length xs) × (x ≡ y))
cases_pushed {X} xs y i x is = at (cases_lt i (length xs))
  where
    within : i < length (xs ++ y ∷ [])
    within = slice_get_within (xs ++ y ∷ []) i x is

    at : (i < length xs) ⊎ (length xs ≤ i) → ((i < length xs) × (slice_get xs i ≡ Some x)) ⊎ ((i ≡ length xs) × (x ≡ y))
    at (inl low) = inl (low, sym (slice_get-pushed_front xs y i low) ∙ is)
    at (inr high) =
        let last : i ≡ length xs = omega (arith, high, within, length_push xs y) in
        inr (last, same_Some x y (sym is ∙ slice_get-pushed_last xs y i last))

-- an element of a list where one was set
pub slice_get-set_same : {X : Type 0} (xs : List X) (i : ℕ) (x : X) → i < length xs → slice_get (set xs i x) i ≡ Some x
slice_get-set_same xs i x low = slice_get-get_or (set xs i x) i x (omega (arith, low, length-set xs i x)) ∙ ap (λ y. Some y) (get_or-set_same xs i x x low)

pub slice_get-set_other : {X : Type 0} (xs : List X) (i j : ℕ) (x : X) → j ≢ i → slice_get (set xs i x) j ≡ slice_get xs j
slice_get-set_other xs i j x other = at (cases_lt j (length xs))
  where
    at : (j < length xs) ⊎ (length xs ≤ j) → slice_get (set xs i x) j ≡ slice_get xs j
    at (inl low) = slice_get-get_or (set xs i x) j x (omega (arith, low, length-set xs i x)) ∙ ap (λ y. Some y) (get_or-set_other xs i j x x other) ∙ sym (slice_get-get_or xs j x low)
    at (inr high) = slice_get_past (set xs i x) j (omega (arith, high, length-set xs i x)) ∙ sym (slice_get_past xs j high)

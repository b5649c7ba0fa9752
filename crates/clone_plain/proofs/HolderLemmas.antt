-- The least transaction that holds a lock in a table, said of the locks as a map.
use Rattle.std.proofs.Common.{◌≡◌, ◌≢◌, ◌==◌, ◌&&◌, ◌||◌, ◌⊎◌, ℕ, zero, suc, ◌+◌, ◌<◌, ◌≤◌, Bool, true, false, cond, T, List, [], ◌∷◌, Some, None, refl, sym, ap, ◌∙◌, inl, inr, arith, find}
use Rattle.clone_plain.proofs.Common.{none-some, same_Some, range_with_len, eq_by_cmp, TRANSACTION_LIMIT, row_cmp_total, row_cmp_exact, ties, apart}
use Rattle.std.proofs.lemmas.Bool.{and_parts, and_from, or_left, or_right, cases_lt, eq-eqb, eqb-true}
use Rattle.std.specs.declared.cmp.Ordering.{Ordering}
use Rattle.std.specs.declared.cmp.Ordering.TheVariants.{Less, Equal, Greater}
use Rattle.std.specs.Ordering.{is_eq, is_lt}
use Rattle.std.specs.List.{list_any}
use Rattle.std.specs.FinMap as finite
use Rattle.std.specs.FinMap.Entries.{below_all, is_sorted}
use Rattle.clone_base.proofs.MapEntries.{is_equal}
use Rattle.clone_model.specs.Keys.{row_cmp}
use Rattle.clone_plain.specs.Donor.{Locks}
use Rattle.clone_plain.specs.Causes.{holds_in, least_holder}

-- A scan of numbers in ascending order.

scan_none : (test : ℕ → Bool) (a n : ℕ) → find test (range_with_len a n) ≡ None → (x : ℕ) → a ≤ x → x < a + n → test x ≡ false
scan_none test a zero none x low high = absurd (omega (arith, low, high))
scan_none test a (suc n) none x low high = at (test a) refl none (cases_lt a x) (λ later above. scan_none test (a + 1) n later x (omega (arith, above)) (omega (arith, high)))
  where
    at : (b : Bool) → test a ≡ b → cond b (Some a) (find test (range_with_len (a + 1) n)) ≡ None → (a < x) ⊎ (x ≤ a) → (find test (range_with_len (a + 1) n) ≡ None → a < x → test x ≡ false) → test x ≡ false
    at true passes here either rest = absurd (none-some a (sym here))
    at false fails later (inl above) rest = rest later above
    at false fails later (inr below) rest = let same : x ≡ a = omega (arith, low, below) in ap test same ∙ fails

-- a number passes, and none from a on that is lesser
abbrev IsFirst : (ℕ → Bool) → ℕ → ℕ → Type 0
IsFirst test a x = (test x ≡ true) × ((y : ℕ) → a ≤ y → y < x → test y ≡ false)

scan_some : (test : ℕ → Bool) (a n x : ℕ) → find test (range_with_len a n) ≡ Some x → IsFirst test a x
scan_some test a zero x is = absurd (none-some x is)
scan_some test a (suc n) x is = at (test a) refl is (scan_some test (a + 1) n x)
  where
    before : test a ≡ false → IsFirst test (a + 1) x → (y : ℕ) → a ≤ y → y < x → (a < y) ⊎ (y ≤ a) → test y ≡ false
    before fails rest y low high (inl above) = rest.1 y (omega (arith, above)) high
    before fails rest y low high (inr below) = let same : y ≡ a = omega (arith, low, below) in ap test same ∙ fails

    at : (b : Bool) → test a ≡ b → cond b (Some a) (find test (range_with_len (a + 1) n)) ≡ Some x → (find test (range_with_len (a + 1) n) ≡ Some x → IsFirst test (a + 1) x) → IsFirst test a x
    at true passes here rest = let same = same_Some a x here in (ap test (sym same) ∙ passes, λ y low high. absurd (omega (arith, low, high, same)))
    at false fails later rest = let first = rest later in (first.0, λ y low high. before fails first y low high (cases_lt a y))

-- The entries of locks.

abbrev Entries : Type 0
Entries = List ((ℕ × ℕ) × ℕ)

-- whether an entry is a lock of the transaction in the table
abbrev is_hold : ℕ → ℕ → (ℕ × ℕ) × ℕ → Bool
is_hold table trx e = (e.0.0 == table) && (e.1 == trx)

found_holds : (table key trx : ℕ) (es : Entries) → finite.find row_cmp (table, key) es ≡ Some trx → list_any (is_hold table trx) es ≡ true
found_holds table key trx [] is = absurd (none-some trx is)
found_holds table key trx (e ∷ es) is = at (eq_by_cmp row_cmp (table, key) e.0) refl is (found_holds table key trx es)
  where
    at : (b : Bool) → eq_by_cmp row_cmp (table, key) e.0 ≡ b → cond b (Some e.1) (finite.find row_cmp (table, key) es) ≡ Some trx → (finite.find row_cmp (table, key) es ≡ Some trx → list_any (is_hold table trx) es ≡ true) → list_any (is_hold table trx) (e ∷ es) ≡ true
    at true tied here rest =
        let same : (table, key) ≡ e.0 = row_cmp_exact (table, key) e.0 (is_equal _ tied) in
        or_left _ _ (and_from _ _ (eq-eqb e.0.0 table (ap (λ (p : ℕ × ℕ). p.0) (sym same))) (eq-eqb e.1 trx (same_Some e.1 trx here)))
    at false other later rest = or_right _ _ (rest later)

parts : (b c : Bool) → T (b && c) → T b × T c
parts true c both = (tt, both)
parts false c both = absurd both

apart_below : (r : Ordering) → T (is_lt r) → is_eq r ≡ false
apart_below Less below = refl
apart_below Equal below = absurd below
apart_below Greater below = absurd below

-- nothing is found at a key below all others
found_below : (row : ℕ × ℕ) (es : Entries) → T (below_all row_cmp row es) → finite.find row_cmp row es ≡ None
found_below row [] below = refl
found_below row (e ∷ es) below =
    let split = parts (is_lt (row_cmp row e.0)) (below_all row_cmp row es) below in
    ap (λ (b : Bool). cond b (Some e.1) (finite.find row_cmp row es)) (apart_below (row_cmp row e.0) split.0) ∙ found_below row es split.1

holds_found : (table trx : ℕ) (es : Entries) → T (is_sorted row_cmp es) → list_any (is_hold table trx) es ≡ true → (key : ℕ) × (finite.find row_cmp (table, key) es ≡ Some trx)
holds_found table trx [] sorted is = absurd cc
holds_found table trx (e ∷ es) sorted is = at (is_hold table trx e) refl is (holds_found table trx es split.1)
  where
    split : T (below_all row_cmp e.0 es) × T (is_sorted row_cmp es)
    split = parts (below_all row_cmp e.0 es) (is_sorted row_cmp es) sorted

    at : (b : Bool) → is_hold table trx e ≡ b → (b || list_any (is_hold table trx) es) ≡ true → (list_any (is_hold table trx) es ≡ true → (key : ℕ) × (finite.find row_cmp (table, key) es ≡ Some trx)) → (key : ℕ) × (finite.find row_cmp (table, key) (e ∷ es) ≡ Some trx)
    at true holds here rest =
        let own = and_parts (e.0.0 == table) (e.1 == trx) holds in
        let same : (table, e.0.1) ≡ e.0 = ap (λ (t : ℕ). (t, e.0.1)) (sym (eqb-true e.0.0 table own.0)) in
        (e.0.1, ap (λ (b : Bool). cond b (Some e.1) (finite.find row_cmp (table, e.0.1) es)) (ap (λ row. eq_by_cmp row_cmp row e.0) same ∙ ties row_cmp_total row_cmp_exact e.0) ∙ ap (λ x. Some x) (eqb-true e.1 trx own.1))
    at false other later rest =
        let found = rest later in
        let row : ℕ × ℕ = (table, found.0) in
        let differs : row ≢ e.0 = λ same. none-some trx (sym (found_below e.0 es split.0) ∙ ap (λ r. finite.find row_cmp r es) (sym same) ∙ found.1) in
        (found.0, ap (λ (b : Bool). cond b (Some e.1) (finite.find row_cmp row es)) (apart row_cmp_total row_cmp_exact row e.0 differs) ∙ found.1)

pub held_holds : (locks : Locks) (table key trx : ℕ) → finite.get locks (table, key) ≡ Some trx → holds_in locks table trx ≡ true
held_holds locks table key trx held = found_holds table key trx (finite.entries locks) (sym (finite.get-entries locks (table, key)) ∙ held)

pub holds_held : (locks : Locks) (table trx : ℕ) → holds_in locks table trx ≡ true → (key : ℕ) × (finite.get locks (table, key) ≡ Some trx)
holds_held locks table trx holds = let found = holds_found table trx (finite.entries locks) (finite.entries_sorted locks) holds in (found.0, finite.get-entries locks (table, found.0) ∙ found.1)

-- a transaction that doesn't hold a lock in the table holds none of its rows'
not_held : (locks : Locks) (table key trx : ℕ) → holds_in locks table trx ≡ false → finite.get locks (table, key) ≢ Some trx
not_held locks table key trx none held = let is : true ≡ false = sym (held_holds locks table key trx held) ∙ none in cc

-- The least holder.

-- where there is none, no transaction below the limit holds a lock in the table
pub no_holder : (locks : Locks) (table : ℕ) → least_holder locks table ≡ None → (key trx : ℕ) → trx < TRANSACTION_LIMIT → finite.get locks (table, key) ≢ Some trx
unfolding least_holder
no_holder locks table none key trx low = not_held locks table key trx (scan_none (holds_in locks table) 0 TRANSACTION_LIMIT none trx (omega arith) (omega (arith, low)))

-- it holds the lock of a row of the table
pub holder_holds : (locks : Locks) (table trx : ℕ) → least_holder locks table ≡ Some trx → (key : ℕ) × (finite.get locks (table, key) ≡ Some trx)
unfolding least_holder
holder_holds locks table trx is = holds_held locks table trx (scan_some (holds_in locks table) 0 TRANSACTION_LIMIT trx is).0

-- and no lesser one does
pub holder_least : (locks : Locks) (table trx : ℕ) → least_holder locks table ≡ Some trx → (key lesser : ℕ) → lesser < trx → finite.get locks (table, key) ≢ Some lesser
unfolding least_holder
holder_least locks table trx is key lesser low = not_held locks table key lesser ((scan_some (holds_in locks table) 0 TRANSACTION_LIMIT trx is).1 lesser (omega arith) low)

-- Counts that are made from others, entry by entry, and entries of a list in order.
use Rattle.std.proofs.Common.{◌≡◌, ◌<◌, ◌≤◌, ◌+◌, ℕ, zero, suc, List, [], ◌∷◌, ◌++◌, length, get_or, take, drop, Bool, true, false, cond, T, ◌&&◌, ◌||◌, min, unwrap_or, option_map, Some, None, is_some, refl, sym, ap, subst, ◌∙◌, inl, inr, arith}
use Rattle.std.specs.Prelude.{nat_lt}
use Rattle.std.specs.Option.{option_map_or, option_or}
use Rattle.std.specs.declared.option.Option.{Option}
use Rattle.std.specs.declared.cmp.Ordering.{Ordering}
use Rattle.std.specs.declared.cmp.Ordering.TheVariants.{Less, Equal, Greater}
use Rattle.std.specs.FinMap as finite
use Rattle.std.specs.FinMap.{same_map, get-empty, get-insert, get-entries, entries_sorted}
use Rattle.std.specs.FinMap.Entries.{below_all, is_sorted}
use Rattle.std.specs.Cmp.{nat_cmp_total}
use Rattle.std.specs.Ordering.{nat_cmp, eq_by_cmp, is_eq, is_lt, ordering_reverse}
use Rattle.std.proofs.lemmas.Bool.{cases_lt, lt-ltb, le-ltb}
use Rattle.std.proofs.lemmas.List.{drop_all, take_more}
use Rattle.std.proofs.lemmas.Map.Lookups.{exact_unsigned}
use Rattle.clone_base.specs.Counted.{Counted}
use Rattle.clone_base.proofs.MapEntries.{is_equal, ties}
use Rattle.clone_increment.specs.Copies.{is_within}

first : (a b : Bool) → T (a && b) → T a
first true b h = tt
first false b h = h

second : (a b : Bool) → T (a && b) → T b
second true b h = h
second false b h = absurd h

less : (r : Ordering) → T (is_lt r) → r ≡ Less
less Less h = refl
less Equal h = absurd h
less Greater h = absurd h

or_none : {X : Type 0} (o : Option X) → option_or o None ≡ o
or_none None = refl
or_none (Some x) = refl

-- ---- counts by a list's entries

-- each entry joins with the count that is wanted for it
abbrev pub put_each : (ℕ → ℕ → ℕ) → Counted → List (ℕ × ℕ) → Counted
put_each f counts [] = counts
put_each f counts (e ∷ es) = put_each f (finite.insert counts e.0 (f e.0 e.1)) es

find_below : (k : ℕ) (es : List (ℕ × ℕ)) → T (below_all nat_cmp k es) → finite.find nat_cmp k es ≡ None
find_below k [] low = refl
find_below k (e ∷ es) low =
    ap (λ (r : Ordering). cond (is_eq r) (Some e.1) (finite.find nat_cmp k es)) (less (nat_cmp k e.0) (first (is_lt (nat_cmp k e.0)) (below_all nat_cmp k es) low))
    ∙ find_below k es (second (is_lt (nat_cmp k e.0)) (below_all nat_cmp k es) low)

get-put_each : (f : ℕ → ℕ → ℕ) (es : List (ℕ × ℕ)) (counts : Counted) (q : ℕ) → T (is_sorted nat_cmp es) → finite.get (put_each f counts es) q ≡ option_or (option_map (f q) (finite.find nat_cmp q es)) (finite.get counts q)
get-put_each f [] counts q sorted = refl
get-put_each f (e ∷ es) counts q sorted =
    get-put_each f es (finite.insert counts e.0 (f e.0 e.1)) q (second (below_all nat_cmp e.0 es) (is_sorted nat_cmp es) sorted)
    ∙ ap (option_or (option_map (f q) (finite.find nat_cmp q es))) (get-insert nat_cmp_total counts e.0 (f e.0 e.1) q)
    ∙ at (eq_by_cmp nat_cmp q e.0) (λ tie. exact_unsigned q e.0 (is_equal _ tie))
  where
    at : (b : Bool) → (b ≡ true → q ≡ e.0)
        → option_or (option_map (f q) (finite.find nat_cmp q es)) (cond b (Some (f e.0 e.1)) (finite.get counts q)) ≡ option_or (option_map (f q) (cond b (Some e.1) (finite.find nat_cmp q es))) (finite.get counts q)
    at true same =
        let low = first (below_all nat_cmp e.0 es) (is_sorted nat_cmp es) sorted in
        let none : finite.find nat_cmp q es ≡ None = ap (λ (k : ℕ). finite.find nat_cmp k es) (same refl) ∙ find_below e.0 es low in
        ap (λ (o : Option ℕ). option_or (option_map (f q) o) (Some (f e.0 e.1))) none ∙ ap (λ (k : ℕ). Some (f k e.1)) (sym (same refl))
    at false same = refl

-- all entries of a map have joined
pub counted : (f : ℕ → ℕ → ℕ) (counts made : Counted) (list rest : List (ℕ × ℕ)) → put_each f made rest ≡ put_each f finite.empty list → rest ≡ [] → list ≡ finite.entries counts
    → (q : ℕ) → finite.get made q ≡ option_map (f q) (finite.get counts q)
counted f counts made list rest all none is q =
    let whole : made ≡ put_each f finite.empty (finite.entries counts) = sym (ap (put_each f made) none) ∙ all ∙ ap (put_each f finite.empty) is in
    ap (λ (m : Counted). finite.get m q) whole ∙ get-put_each f (finite.entries counts) finite.empty q (entries_sorted counts)
    ∙ ap (option_or (option_map (f q) (finite.find nat_cmp q (finite.entries counts)))) (get-empty nat_cmp q)
    ∙ or_none (option_map (f q) (finite.find nat_cmp q (finite.entries counts))) ∙ ap (option_map (f q)) (sym (get-entries counts q))

same_count : (o : Option ℕ) → option_map (λ n. n) o ≡ o
same_count None = refl
same_count (Some n) = refl

pub counted_same : (counts made : Counted) (list rest : List (ℕ × ℕ)) → put_each (λ _ n. n) made rest ≡ put_each (λ _ n. n) finite.empty list → rest ≡ [] → list ≡ finite.entries counts → made ≡ counts
counted_same counts made list rest all none is =
    same_map nat_cmp_total exact_unsigned made counts (λ q. counted (λ _ n. n) counts made list rest all none is q ∙ same_count (finite.get counts q))

below_least : (n c d : ℕ) → nat_lt n (min c d) ≡ (nat_lt n d && nat_lt n c)
below_least n c d = elim (cases_lt n d) [
  | inl a ↦ elim (cases_lt n c) [
    | inl b ↦ lt-ltb n (min c d) (omega (arith, a, b)) ∙ sym (λ i. lt-ltb n d a i && lt-ltb n c b i)
    | inr b ↦ le-ltb n (min c d) (omega (arith, b)) ∙ sym (λ i. lt-ltb n d a i && le-ltb n c b i)
  ]
  | inr a ↦ le-ltb n (min c d) (omega (arith, a)) ∙ sym (ap (λ (b : Bool). b && nat_lt n c) (le-ltb n d a))
]

nothing_both : (b : Bool) → false ≡ (b && false)
nothing_both true = refl
nothing_both false = refl

within_both : (o p : Option ℕ) (n : ℕ) → option_map_or (λ count. nat_lt n count) (option_map (λ count. min count (unwrap_or o 0)) p) false ≡ (option_map_or (λ count. nat_lt n count) o false && option_map_or (λ count. nat_lt n count) p false)
within_both o None n = nothing_both (option_map_or (λ count. nat_lt n count) o false)
within_both None (Some c) n = le-ltb n (min c 0) (omega arith)
within_both (Some d) (Some c) n = below_least n c d

pub stays_by_both : (first second made : Counted) → ((q : ℕ) → finite.get made q ≡ option_map (λ count. min count (unwrap_or (finite.get first q) 0)) (finite.get second q))
    → (place : ℕ × ℕ) → is_within made place ≡ (is_within first place && is_within second place)
stays_by_both first second made is place =
    ap (λ (o : Option ℕ). option_map_or (λ count. nat_lt place.1 count) o false) (is place.0) ∙ within_both (finite.get first place.0) (finite.get second place.0) place.1

-- ---- the entry at an index of a list in order

apart : (k j : ℕ) → nat_cmp j k ≡ Less → eq_by_cmp nat_cmp k j ≡ false
apart k j low = ap is_eq (nat_cmp_total.antisymm k j ∙ ap ordering_reverse low)

below_at : (k : ℕ) (es : List (ℕ × ℕ)) (i : ℕ) (x : ℕ × ℕ) → T (below_all nat_cmp k es) → i < length es → x ≡ get_or es i x → nat_cmp k x.0 ≡ Less
below_at k [] i x below low is = absurd (omega (arith, low))
below_at k (e ∷ es) zero x below low is = ap (λ (y : ℕ × ℕ). nat_cmp k y.0) is ∙ less (nat_cmp k e.0) (first (is_lt (nat_cmp k e.0)) (below_all nat_cmp k es) below)
below_at k (e ∷ es) (suc i) x below low is = below_at k es i x (second (is_lt (nat_cmp k e.0)) (below_all nat_cmp k es) below) (omega (arith, low)) is

find_at : (es : List (ℕ × ℕ)) (i : ℕ) (x : ℕ × ℕ) → T (is_sorted nat_cmp es) → i < length es → x ≡ get_or es i x → finite.find nat_cmp x.0 es ≡ Some x.1
find_at [] i x sorted low is = absurd (omega (arith, low))
find_at (e ∷ es) zero x sorted low is =
    let P : ℕ × ℕ → Type 0 = λ y. finite.find nat_cmp y.0 (e ∷ es) ≡ Some y.1 in
    subst P (sym is) (ap (λ (b : Bool). cond b (Some e.1) (finite.find nat_cmp e.0 es)) (ties nat_cmp_total exact_unsigned e.0))
find_at (e ∷ es) (suc i) x sorted low is =
    ap (λ (b : Bool). cond b (Some e.1) (finite.find nat_cmp x.0 es)) (apart x.0 e.0 (below_at e.0 es i x (first (below_all nat_cmp e.0 es) (is_sorted nat_cmp es) sorted) (omega (arith, low)) is))
    ∙ find_at es i x (second (below_all nat_cmp e.0 es) (is_sorted nat_cmp es) sorted) (omega (arith, low)) is

pub get_at : (counts : Counted) (list : List (ℕ × ℕ)) (i : ℕ) (x : ℕ × ℕ) → list ≡ finite.entries counts → i < length list → x ≡ get_or list i x → finite.get counts x.0 ≡ Some x.1
get_at counts list i x same low is =
    let P : List (ℕ × ℕ) → Type 0 = λ es. finite.find nat_cmp x.0 es ≡ Some x.1 in
    let sorted = subst (λ (es : List (ℕ × ℕ)). T (is_sorted nat_cmp es)) (sym same) (entries_sorted counts) in
    get-entries counts x.0 ∙ subst P same (find_at list i x sorted low is)

-- whether a space is among the entries
abbrev pub is_named : List (ℕ × ℕ) → ℕ → Bool
is_named es q = is_some (finite.find nat_cmp q es)

some_or : (b : Bool) (n : ℕ) (o : Option ℕ) → is_some (cond b (Some n) o) ≡ (b || is_some o)
some_or true n o = refl
some_or false n o = refl

swapped : (a b c : Bool) → (a || (b || c)) ≡ (b || (a || c))
swapped true true c = refl
swapped true false c = refl
swapped false b c = refl

named-push : (es : List (ℕ × ℕ)) (e : ℕ × ℕ) (q : ℕ) → is_named (es ++ e ∷ []) q ≡ (eq_by_cmp nat_cmp q e.0 || is_named es q)
named-push [] e q = some_or (eq_by_cmp nat_cmp q e.0) e.1 None
named-push (f ∷ es) e q =
    some_or (eq_by_cmp nat_cmp q f.0) f.1 (finite.find nat_cmp q (es ++ e ∷ [])) ∙ ap (λ (b : Bool). eq_by_cmp nat_cmp q f.0 || b) (named-push es e q)
    ∙ swapped (eq_by_cmp nat_cmp q f.0) (eq_by_cmp nat_cmp q e.0) (is_named es q) ∙ ap (λ (b : Bool). eq_by_cmp nat_cmp q e.0 || b) (sym (some_or (eq_by_cmp nat_cmp q f.0) f.1 (finite.find nat_cmp q es)))

pub named-more : (es : List (ℕ × ℕ)) (i : ℕ) (x : ℕ × ℕ) (q : ℕ) → i < length es → x ≡ get_or es i x → is_named (take (i + 1) es) q ≡ (eq_by_cmp nat_cmp q x.0 || is_named (take i es) q)
named-more es i x q low is =
    ap (λ (l : List (ℕ × ℕ)). is_named l q) (take_more es i x low ∙ ap (λ (y : ℕ × ℕ). take i es ++ y ∷ []) (sym is)) ∙ named-push (take i es) x q

-- the item at an index below the length
pub same_at : (es : List (ℕ × ℕ)) (i : ℕ) (d e : ℕ × ℕ) → i < length es → get_or es i d ≡ get_or es i e
same_at [] i d e low = absurd (omega (arith, low))
same_at (x ∷ es) zero d e low = refl
same_at (x ∷ es) (suc i) d e low = same_at es i d e (omega (arith, low))

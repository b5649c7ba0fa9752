-- Lists of spaces and of pages that ascend, and how long they are.
use Rattle.std.proofs.Common.{ℕ, zero, suc, ◌≡◌, ◌⊎◌, ◌<◌, ◌≤◌, ◌+◌, ◌*◌, ◌==◌, ◌&&◌, List, [], ◌∷◌, Bool, true, false, cond, T, length, map, get_or, refl, sym, ap, subst, inl, inr, arith, nat_lt}
use Rattle.std.specs.List.{AllByRecursion, Contains, filter}
use Rattle.std.specs.FinMap as finite
use Rattle.std.specs.FinMap.Entries.{below_all}
use Rattle.std.specs.Ordering.{is_lt, nat_cmp, ordering_then}
use Rattle.std.specs.declared.cmp.Ordering.{Ordering}
use Rattle.std.specs.declared.cmp.Ordering.TheVariants.{Less, Equal, Greater}
use Rattle.std.proofs.lemmas.Bool.{cases_lt, cond_both, lt-ltb, ltb-true}
use Rattle.std.proofs.lemmas.Map.Lookups.{exact_unsigned}
use Rattle.clone_model.specs.Keys.{row_cmp}
use Rattle.clone_model.specs.declared.line.TheConstants.{MOST_PAGES}
use Rattle.clone_recipient.specs.declared.limits.TheConstants.{MOST_SPACE}
use Rattle.clone_paired.specs.Blocks.{AreSpaces, AscendFrom, at_place}
use Rattle.clone_paired.specs.Order.{SpacesAscend}

parts : (a b : Bool) → T (a && b) → T a × T b
parts true b both = (tt, both)
parts false b both = absurd both

less_nat : (a b : ℕ) → T (is_lt (nat_cmp a b)) → a < b
less_nat a b is = by (nat_lt a b) refl is
  where
    no : (tied : Bool) → T (is_lt (cond tied Equal Greater)) → ⊥
    no true is = is
    no false is = is

    by : (less : Bool) → nat_lt a b ≡ less → T (is_lt (cond less Less (cond (a == b) Equal Greater))) → a < b
    by true e is = ltb-true a b e
    by false e is = absurd (no (a == b) is)

-- ---- SPACES

lower : (a b : ℕ) (spaces : List (ℕ × ℕ)) → a ≤ b → SpacesAscend b spaces → SpacesAscend a spaces
lower a b [] less is = tt
lower a b (s ∷ spaces) less is = (omega (arith, less, is.0), is.1, is.2, is.3, is.4)

-- so do some of them
pub kept_ascend : (keep : ℕ × ℕ → Bool) (least : ℕ) (spaces : List (ℕ × ℕ)) → SpacesAscend least spaces → SpacesAscend least (filter keep spaces)
kept_ascend keep least [] is = tt
kept_ascend keep least (s ∷ spaces) is =
    let rest = kept_ascend keep (s.0 + 1) spaces is.4 in
    cond_both (keep s) (s ∷ filter keep spaces) (filter keep spaces) (SpacesAscend least) (λ _. (is.0, is.1, is.2, is.3, rest)) (λ _. lower least (s.0 + 1) (filter keep spaces) (omega (arith, is.0)) rest)

pub are_spaces : (least : ℕ) (spaces : List (ℕ × ℕ)) → SpacesAscend least spaces → AreSpaces spaces
are_spaces least [] is = tt
are_spaces least (s ∷ spaces) is = (is.1, is.3, are_spaces (s.0 + 1) spaces is.4)

-- a space that may be copied
abbrev pub MayBe : ℕ × ℕ → Type 0
MayBe space = (space.0 ≤ MOST_SPACE) × (1 ≤ space.1) × (space.1 ≤ MOST_PAGES)

spaces_above : (key : ℕ) (es : List (ℕ × ℕ)) → T (below_all nat_cmp key es) → AllByRecursion (λ e. key + 1 ≤ e.0) es
spaces_above key [] below = tt
spaces_above key (e ∷ es) below =
    let p = parts (is_lt (nat_cmp key e.0)) (below_all nat_cmp key es) below in
    let less = less_nat key e.0 p.0 in
    (omega (arith, less), spaces_above key es p.1)

sorted_ascend : (least : ℕ) (es : List (ℕ × ℕ)) → T (finite.is_sorted nat_cmp es) → AllByRecursion MayBe es → AllByRecursion (λ e. least ≤ e.0) es → SpacesAscend least es
sorted_ascend least [] sorted may above = tt
sorted_ascend least (e ∷ es) sorted may above =
    let p = parts (below_all nat_cmp e.0 es) (finite.is_sorted nat_cmp es) sorted in
    (above.0, may.0.0, may.0.1, may.0.2, sorted_ascend (e.0 + 1) es p.1 may.1 (spaces_above e.0 es p.0))

from_none : (es : List (ℕ × ℕ)) → AllByRecursion (λ e. 0 ≤ e.0) es
from_none [] = tt
from_none (e ∷ es) = (omega arith, from_none es)

pub spaces_ascend : (es : List (ℕ × ℕ)) → T (finite.is_sorted nat_cmp es) → AllByRecursion MayBe es → SpacesAscend 0 es
spaces_ascend es sorted may = sorted_ascend 0 es sorted may (from_none es)

-- ---- PAGES

-- a page that may be copied
abbrev pub MayStand : ℕ × ℕ → Type 0
MayStand page = (page.0 ≤ MOST_SPACE) × (page.1 < MOST_PAGES)

row_less : (p q : ℕ × ℕ) → T (is_lt (row_cmp p q)) → (p.0 < q.0) ⊎ ((p.0 ≡ q.0) × (p.1 < q.1))
row_less p q is = by (nat_cmp p.0 q.0) refl is
  where
    by : (o : Ordering) → nat_cmp p.0 q.0 ≡ o → T (is_lt (ordering_then o (nat_cmp p.1 q.1))) → (p.0 < q.0) ⊎ ((p.0 ≡ q.0) × (p.1 < q.1))
    by Less e is = inl (less_nat p.0 q.0 (subst (λ (o : Ordering). T (is_lt o)) (sym e) tt))
    by Equal e is = inr (exact_unsigned p.0 q.0 e, less_nat p.1 q.1 is)
    by Greater e is = absurd is

place_less : (p q : ℕ × ℕ) → p.1 < MOST_PAGES → (p.0 < q.0) ⊎ ((p.0 ≡ q.0) × (p.1 < q.1)) → at_place p + 1 ≤ at_place q
place_less p q low (inl less) = omega (arith, low, less)
place_less p q low (inr (same, less)) = omega (arith, same, less)

abbrev Noted : Type 0
Noted = List ((ℕ × ℕ) × Unit {0})

abbrev keys : Noted → List (ℕ × ℕ)
keys es = map (λ e. e.0) es

pages_above : (p : ℕ × ℕ) (es : Noted) → p.1 < MOST_PAGES → T (below_all row_cmp p es) → AllByRecursion (λ q. at_place p + 1 ≤ at_place q) (keys es)
pages_above p [] low below = tt
pages_above p (e ∷ es) low below =
    let q = parts (is_lt (row_cmp p e.0)) (below_all row_cmp p es) below in
    (place_less p e.0 low (row_less p e.0 q.0), pages_above p es low q.1)

sorted_pages : (least : ℕ) (es : Noted) → T (finite.is_sorted row_cmp es) → AllByRecursion MayStand (keys es) → AllByRecursion (λ q. least ≤ at_place q) (keys es) → AscendFrom least (keys es)
sorted_pages least [] sorted may above = tt
sorted_pages least (e ∷ es) sorted may above =
    let p = parts (below_all row_cmp e.0 es) (finite.is_sorted row_cmp es) sorted in
    (above.0, may.0.0, may.0.1, sorted_pages (at_place e.0 + 1) es p.1 may.1 (pages_above e.0 es may.0.1 p.0))

from_start : (pages : List (ℕ × ℕ)) → AllByRecursion (λ q. 0 ≤ at_place q) pages
from_start [] = tt
from_start (p ∷ pages) = (omega arith, from_start pages)

pub pages_ascend : (es : Noted) → T (finite.is_sorted row_cmp es) → AllByRecursion MayStand (keys es) → AscendFrom 0 (keys es)
pages_ascend es sorted may = sorted_pages 0 es sorted may (from_start (keys es))

-- ---- HOW MANY PAGES spaces have

-- a space is one of these
abbrev pub IsOf : ℕ → List (ℕ × ℕ) → Type 0
IsOf space [] = ⊥
IsOf space (s ∷ spaces) = (s.0 ≡ space) ⊎ IsOf space spaces

is_at : (es : List (ℕ × ℕ)) (k : ℕ) (e : ℕ × ℕ) → k < length es → get_or es k e ≡ e → IsOf e.0 es
is_at [] k e low is = absurd (omega (arith, low))
is_at (s ∷ es) zero e low is = inl (ap (λ (x : ℕ × ℕ). x.0) is)
is_at (s ∷ es) (suc k) e low is = inr (is_at es k e (omega (arith, low)) is)

pub is_of : (es : List (ℕ × ℕ)) (e : ℕ × ℕ) → Contains es e → IsOf e.0 es
is_of es e (k, low, is) = is_at es k e low is

abbrev one : Bool → ℕ
one true = 1
one false = 0

-- how many of them have a lower number
abbrev below : List (ℕ × ℕ) → ℕ → ℕ
below [] space = 0
below (s ∷ spaces) space = one (nat_lt s.0 space) + below spaces space

one_most : (b : Bool) → one b ≤ 1
one_most true = omega arith
one_most false = omega arith

below_most : (spaces : List (ℕ × ℕ)) (space : ℕ) → below spaces space ≤ length spaces
below_most [] space = omega arith
below_most (s ∷ spaces) space = let rest = below_most spaces space in let first = one_most (nat_lt s.0 space) in omega (arith, rest, first)

one_grows : (s a b : ℕ) → a ≤ b → one (nat_lt s a) ≤ one (nat_lt s b)
one_grows s a b less = by (nat_lt s a) refl
  where
    by : (c : Bool) → nat_lt s a ≡ c → one c ≤ one (nat_lt s b)
    by true e = let low = ltb-true s a e in let all = ap one (lt-ltb s b (omega (arith, low, less))) in omega (arith, all)
    by false e = omega arith

below_grows : (spaces : List (ℕ × ℕ)) (a b : ℕ) → a ≤ b → below spaces a ≤ below spaces b
below_grows [] a b less = omega arith
below_grows (s ∷ spaces) a b less = let rest = below_grows spaces a b less in let first = one_grows s.0 a b less in omega (arith, rest, first)

one_itself : (s a : ℕ) → s ≡ a → one (nat_lt s a) ≡ 0
one_itself s a same = by (nat_lt s a) refl
  where
    by : (c : Bool) → nat_lt s a ≡ c → one c ≡ 0
    by true e = let low = ltb-true s a e in absurd (omega (arith, low, same))
    by false e = refl

below_more : (spaces : List (ℕ × ℕ)) (a b : ℕ) → IsOf a spaces → a < b → below spaces a + 1 ≤ below spaces b
below_more [] a b is less = absurd is
below_more (s ∷ spaces) a b (inl same) less =
    let rest = below_grows spaces a b (omega (arith, less)) in
    let none = one_itself s.0 a same in
    let all = ap one (lt-ltb s.0 b (omega (arith, same, less))) in
    omega (arith, rest, none, all)
below_more (s ∷ spaces) a b (inr is) less =
    let rest = below_more spaces a b is less in
    let first = one_grows s.0 a b (omega (arith, less)) in
    omega (arith, rest, first)

-- a page's number among those of these spaces
abbrev rank : List (ℕ × ℕ) → ℕ × ℕ → ℕ
rank spaces page = MOST_PAGES * below spaces page.0 + page.1

rank_grows : (spaces : List (ℕ × ℕ)) (p q : ℕ × ℕ) → IsOf p.0 spaces → p.1 < MOST_PAGES → q.1 < MOST_PAGES → at_place p + 1 ≤ at_place q → rank spaces p + 1 ≤ rank spaces q
rank_grows spaces p q is low high less = by (cases_lt p.0 q.0)
  where
    by : (p.0 < q.0) ⊎ (q.0 ≤ p.0) → rank spaces p + 1 ≤ rank spaces q
    by (inl before) = let more = below_more spaces p.0 q.0 is before in omega (arith, more, low)
    by (inr back) =
        let same : p.0 ≤ q.0 = omega (arith, less, high) in
        let more = below_grows spaces p.0 q.0 same in
        omega (arith, more, less, back)

room : (spaces : List (ℕ × ℕ)) (p : ℕ × ℕ) (pages : List (ℕ × ℕ)) → p.1 < MOST_PAGES → IsOf p.0 spaces → AscendFrom (at_place p + 1) pages → AllByRecursion (λ q. IsOf q.0 spaces) pages → length pages + 1 + rank spaces p ≤ MOST_PAGES * length spaces
room spaces p [] low is ascend all =
    let more = below_more spaces p.0 (p.0 + 1) is (omega arith) in
    let most = below_most spaces (p.0 + 1) in
    omega (arith, more, most, low)
room spaces p (q ∷ pages) low is ascend all =
    let rest = room spaces q pages ascend.2 all.0 ascend.3 all.1 in
    let more = rank_grows spaces p q is low ascend.2 ascend.0 in
    omega (arith, rest, more)

-- no more than they have room for
pub few_pages : (spaces pages : List (ℕ × ℕ)) → AscendFrom 0 pages → AllByRecursion (λ q. IsOf q.0 spaces) pages → length pages ≤ MOST_PAGES * length spaces
few_pages spaces [] ascend all = omega arith
few_pages spaces (p ∷ pages) ascend all = let rest = room spaces p pages ascend.2 all.0 ascend.3 all.1 in omega (arith, rest)

-- The list of the pages whose write counts as open.
use Rattle.std.proofs.Common.{◌≡◌, ℕ, zero, suc, ◌+◌, ◌<◌, Bool, true, false, ◌||◌, List, [], ◌∷◌, length, get_or, Option, Some, None, option_map, if◌then◌else◌, refl, sym, ap, ◌∙◌, arith}
use Rattle.std.proofs.lemmas.Bool.{false≢true, true≢false, or_right}
use Rattle.std.proofs.lemmas.List.Sorted.{list_any-IsPermutation}
use Rattle.std.proofs.lemmas.Map.Keys.{IsDistinct-cons, IsDistinct-IsPermutation, apart_from_distinct, sorted_from_all_adjacent}
use Rattle.std.proofs.lemmas.Map.Lookups.{exact_pairs, exact_unsigned}
use Rattle.std.proofs.lemmas.Map.Views.{Contains-from_any, list_any-from_Contains}
use Rattle.std.specs.declared.cmp.Ordering.{Ordering}
use Rattle.std.specs.declared.cmp.Ordering.TheVariants.{Less, Equal, Greater}
use Rattle.std.specs.Cmp.{IsTotalOrder, IsEquivalence, then_total, on_total, nat_cmp_total, eq_by_cmp_equiv}
use Rattle.std.specs.List.{AllByRecursion, IsDistinct, filter_map, cons_option, list_any}
use Rattle.std.specs.List.Sorted.{IsPermutation, IsSorted, IsStrictlySortedBy}
use Rattle.std.specs.Ordering.{eq_by_cmp, nat_cmp, is_eq, is_lt, ordering_reverse}
use Rattle.clone_pool.specs.declared.frame.Frame.{Frame}
use Rattle.clone_pool.specs.declared.frame.PageName.{PageName}
use Rattle.clone_pool.specs.Frames.{frame_at, name_of, counts_as_open, open_page}
use Rattle.clone_pool.specs.Pool.{Frames, IsPool, page_cmp, AreOpenPages}

page_cmp_total : IsTotalOrder page_cmp
page_cmp_total = then_total (on_total (λ x. x.0) nat_cmp_total) (on_total (λ x. x.1) nat_cmp_total)

-- two pages are the same
abbrev same : ℕ × ℕ → ℕ × ℕ → Bool
same page other = eq_by_cmp page_cmp page other

laws : IsEquivalence same
laws = eq_by_cmp_equiv page_cmp_total

equal_is : (r : Ordering) → is_eq r ≡ true → r ≡ Equal
equal_is Less is = absurd (false≢true is)
equal_is Equal is = refl
equal_is Greater is = absurd (false≢true is)

equal : (page other : ℕ × ℕ) → same page other ≡ true → page ≡ other
equal page other is = exact_pairs nat_cmp nat_cmp exact_unsigned exact_unsigned page other (equal_is (page_cmp page other) is)

-- the pages, in the order of their frames
abbrev pub listed : List Frame → List (ℕ × ℕ)
listed frames = filter_map open_page frames

-- a frame that has this page
abbrev HasOpen : List Frame → ℕ × ℕ → Type 0
HasOpen frames page = (at : ℕ) × (open_page (frame_at frames at) ≡ Some page)

-- a page that is listed is that of a frame
first_or_later : (f : Frame) (fs : List Frame) (page : ℕ × ℕ) → (list_any (same page) (listed fs) ≡ true → HasOpen fs page) → (o : Option (ℕ × ℕ)) → open_page f ≡ o → list_any (same page) (cons_option o (listed fs)) ≡ true → HasOpen (f ∷ fs) page
first_or_later f fs page rest None has is = let found = rest is in (suc found.0, found.1)
first_or_later f fs page rest (Some other) has is = by (same page other) refl is
  where
    by : (b : Bool) → same page other ≡ b → (b || list_any (same page) (listed fs)) ≡ true → HasOpen (f ∷ fs) page
    by true e is = (0, has ∙ ap Some (sym (equal page other e)))
    by false e is = let found = rest is in (suc found.0, found.1)

from_listed : (frames : List Frame) (page : ℕ × ℕ) → list_any (same page) (listed frames) ≡ true → HasOpen frames page
from_listed [] page is = absurd (false≢true is)
from_listed (f ∷ fs) page is = first_or_later f fs page (from_listed fs page) (open_page f) refl is

-- and each such page is listed
behind : (page : ℕ × ℕ) (o : Option (ℕ × ℕ)) (rest : List (ℕ × ℕ)) → list_any (same page) rest ≡ true → list_any (same page) (cons_option o rest) ≡ true
behind page None rest is = is
behind page (Some other) rest is = or_right (same page other) (list_any (same page) rest) is

is_listed : (frames : List Frame) (at : ℕ) (page : ℕ × ℕ) → open_page (frame_at frames at) ≡ Some page → list_any (same page) (listed frames) ≡ true
is_listed [] at page is = absurd (cc)
is_listed (f ∷ fs) zero page is = ap (λ o. list_any (same page) (cons_option o (listed fs))) is ∙ ap (λ b. b || list_any (same page) (listed fs)) (laws.refl page)
is_listed (f ∷ fs) (suc at) page is = behind page (open_page f) (listed fs) (is_listed fs at page is)

-- no two frames have the same open page
abbrev AreApart : List Frame → Type 0
AreApart frames = (page : ℕ × ℕ) (i j : ℕ) → open_page (frame_at frames i) ≡ Some page → open_page (frame_at frames j) ≡ Some page → i ≡ j

none_same : (page : ℕ × ℕ) (pages : List (ℕ × ℕ)) → list_any (same page) pages ≡ false → AllByRecursion (λ other. same page other ≡ false) pages
none_same page [] is = tt
none_same page (other ∷ others) is = let apart = both_false (same page other) (list_any (same page) others) is in (apart.0, none_same page others apart.1)
  where
    both_false : (a b : Bool) → (a || b) ≡ false → (a ≡ false) × (b ≡ false)
    both_false true b is = absurd (true≢false is)
    both_false false b is = (refl, is)

-- then none is listed twice
one_more : (f : Frame) (fs : List Frame) → AreApart (f ∷ fs) → IsDistinct same (listed fs) → (o : Option (ℕ × ℕ)) → open_page f ≡ o → IsDistinct same (cons_option o (listed fs))
one_more f fs apart others None has = others
one_more f fs apart others (Some page) has = IsDistinct-cons same page (listed fs) (none_same page (listed fs) (unlisted (list_any (same page) (listed fs)) refl)) others
  where
    unlisted : (b : Bool) → list_any (same page) (listed fs) ≡ b → b ≡ false
    unlisted false is = refl
    unlisted true is =
        let found = from_listed fs page is in
        let one : 0 ≡ suc found.0 = apart page 0 (suc found.0) has found.1 in
        absurd (omega (arith, one))

distinct : (frames : List Frame) → AreApart frames → IsDistinct same (listed frames)
unfolding IsDistinct
distinct [] apart = tt
distinct (f ∷ fs) apart = one_more f fs apart (distinct fs (λ page i j is js. let one : suc i ≡ suc j = apart page (suc i) (suc j) is js in omega (arith, one))) (open_page f) refl

-- a page that is open has the frame's name
open_name : (f : Frame) (page : ℕ × ℕ) → open_page f ≡ Some page → name_of f ≡ Some (record { space = page.0; number = page.1 })
open_name f page is = by (counts_as_open f.flush) (name_of f) is
  where
    by : (b : Bool) (o : Option PageName) → (if b then option_map (λ (name : PageName). (name.space, name.number)) o else None) ≡ Some page → o ≡ Some (record { space = page.0; number = page.1 })
    by false o is = absurd (cc)
    by true None is = absurd (cc)
    by true (Some name) is = let both : (name.space, name.number) ≡ page = cc in λ i. Some (record { space = (both i).0; number = (both i).1 })

apart_in : (v : Frames) → IsPool v → AreApart v.frames
apart_in v p page i j is js =
    let name : PageName = record { space = page.0; number = page.1 } in
    let first = p.once name i (open_name (frame_at v.frames i) page is) in
    let second = p.once name j (open_name (frame_at v.frames j) page js) in
    cc

-- pages that don't fall, none of which is there twice, rise
rises : (pages : List (ℕ × ℕ)) → IsSorted page_cmp pages → IsDistinct same pages → IsStrictlySortedBy page_cmp pages
rises pages sorted apart = sorted_from_all_adjacent page_cmp_total pages (0, 0) next
  where
    less : (r s : Ordering) → r ≡ ordering_reverse s → is_lt s ≡ false → is_eq r ≡ false → r ≡ Less
    less Less s is up other = refl
    less Equal s is up other = absurd (true≢false other)
    less Greater Less is up other = absurd (true≢false up)
    less Greater Equal is up other = absurd (cc)
    less Greater Greater is up other = absurd (cc)

    next : (k : ℕ) → k + 1 < length pages → page_cmp (get_or pages k (0, 0)) (get_or pages (k + 1) (0, 0)) ≡ Less
    next k low = less (page_cmp (get_or pages k (0, 0)) (get_or pages (k + 1) (0, 0))) (page_cmp (get_or pages (k + 1) (0, 0)) (get_or pages k (0, 0))) (page_cmp_total.antisymm (get_or pages k (0, 0)) (get_or pages (k + 1) (0, 0)))
        (sorted k (0, 0) (omega arith) low) (apart_from_distinct same pages k (k + 1) (0, 0) apart (omega arith) low)

-- once they are sorted
pub open_pages : (v : Frames) → IsPool v → (pages : List (ℕ × ℕ)) → IsPermutation (listed v.frames) pages → IsSorted page_cmp pages → AreOpenPages v.frames pages
open_pages v p pages moved sorted = record {
  ascending = rises pages sorted (IsDistinct-IsPermutation same laws.symm (listed v.frames) pages moved (distinct v.frames (apart_in v p)));
  exact = λ page. (
    λ there. from_listed v.frames page (list_any-IsPermutation (same page) (listed v.frames) pages moved ∙ list_any-from_Contains laws page pages there),
    λ has. Contains-from_any equal page pages (sym (list_any-IsPermutation (same page) (listed v.frames) pages moved) ∙ is_listed v.frames has.0 page has.1),
  );
}

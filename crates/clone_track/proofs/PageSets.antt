-- The set of a list's pages, and what orders, repeats and one page more do to it.
use Rattle.std.proofs.Common.{◌==◌, ◌≡◌, ℕ, suc, ◌+◌, ◌≤◌, Bool, true, false, cond, ◌||◌, ◌&&◌, List, [], ◌∷◌, ◌++◌, map, length, Some, None, refl, sym, ap, ◌∙◌, arith}
use Rattle.std.specs.declared.option.Option.{Option}
use Rattle.std.specs.declared.cmp.Ordering.TheVariants.{Less}
use Rattle.std.specs.FinMap as finite
use Rattle.std.specs.FinMap.{put, same_map, get-empty, get-insert, entries-insert, len-empty, len-insert, len-entries}
use Rattle.std.specs.FinMap.Entries.{by_order}
use Rattle.std.specs.Cmp.{eq_by_cmp_equiv, both_ways, tied_then, unsigned_tied}
use Rattle.std.specs.List.{AllByRecursion, dedup, insert, list_any}
use Rattle.std.specs.List.Retain.{IsFiltered, DiffersFromLast}
use Rattle.std.specs.List.Sorted.{IsPermutation, IsSorted, IsStrictlySortedBy}
use Rattle.std.specs.Ordering.{eq_by_cmp, nat_cmp}
use Rattle.std.proofs.lemmas.List.{length-map}
use Rattle.std.proofs.lemmas.Bool.{or_right}
use Rattle.std.proofs.lemmas.List.Filters.{dedup_is}
use Rattle.std.proofs.lemmas.List.Folds.{list_any-append}
use Rattle.std.proofs.lemmas.List.Kept.{Contains-dedup, Contains-from_dedup, IsStrictlySortedBy-dedup}
use Rattle.std.proofs.lemmas.List.Sorted.{list_any-IsPermutation, IsPermutation-to_front, IsPermutation-append_right, IsPermutation-insert, IsPermutation-middle, IsPermutation-sym, IsPermutation-trans}
use Rattle.std.proofs.lemmas.Map.Keys.{sorted_head, sorted_tail}
use Rattle.std.proofs.lemmas.Map.Views.{Contains-from_any, list_any-from_Contains}
use Rattle.clone_base.proofs.MapEntries.{is_equal}
use Rattle.clone_model.specs.Keys.{row_cmp}
use Rattle.clone_model.proofs.RowMaps.{row_cmp_total, row_cmp_exact}
use Rattle.clone_track.specs.TrackedPages.{Pages, all_noted}

-- two pages are the same
abbrev same : ℕ × ℕ → ℕ × ℕ → Bool
same page other = eq_by_cmp row_cmp page other

equal : (page other : ℕ × ℕ) → same page other ≡ true → page ≡ other
equal page other e = row_cmp_exact page other (is_equal _ e)

-- the set of a list's pages
abbrev pub set_of : List (ℕ × ℕ) → Pages
set_of pages = all_noted pages finite.empty

either : (a b : Bool) (o : Option (Unit {0})) → o ≡ cond b (Some tt) None → cond a (Some tt) o ≡ cond (a || b) (Some tt) None
either true b o is = refl
either false b o is = is

get-set_of : (pages : List (ℕ × ℕ)) (page : ℕ × ℕ) → finite.get (set_of pages) page ≡ cond (list_any (same page) pages) (Some tt) None
get-set_of [] page = get-empty row_cmp page
get-set_of (first ∷ others) page =
    get-insert row_cmp_total (set_of others) first tt page ∙ either (same page first) (list_any (same page) others) (finite.get (set_of others) page) (get-set_of others page)

-- two lists with the same pages have the same set
same_pages : (pages others : List (ℕ × ℕ)) → ((page : ℕ × ℕ) → list_any (same page) pages ≡ list_any (same page) others) → set_of pages ≡ set_of others
same_pages pages others alike =
    same_map row_cmp_total row_cmp_exact (set_of pages) (set_of others)
    (λ page. get-set_of pages page ∙ ap (λ (b : Bool). cond b (Some tt) None) (alike page) ∙ sym (get-set_of others page))

pub set_of-permutation : (pages others : List (ℕ × ℕ)) → IsPermutation pages others → set_of pages ≡ set_of others
set_of-permutation pages others moved = same_pages pages others (λ page. list_any-IsPermutation (same page) pages others moved)

pub set_of-push : (pages : List (ℕ × ℕ)) (page : ℕ × ℕ) → set_of (pages ++ page ∷ []) ≡ finite.insert (set_of pages) page tt
set_of-push pages page = set_of-permutation (pages ++ page ∷ []) (page ∷ pages) (IsPermutation-to_front pages page)

absorbed : (a b : Bool) → (a ≡ true → b ≡ true) → b ≡ (a || b)
absorbed true b has = has refl
absorbed false b has = refl

-- a page that is there already
set_of-present : (pages : List (ℕ × ℕ)) (page : ℕ × ℕ) → list_any (same page) pages ≡ true → set_of pages ≡ finite.insert (set_of pages) page tt
set_of-present pages page there =
    same_pages pages (page ∷ pages) (λ other. absorbed (same other page) (list_any (same other) pages) (λ e. ap (λ p. list_any (same p) pages) (equal other page e) ∙ there))

-- a page that joins the pages behind others
pub set_of-insert : (front pages : List (ℕ × ℕ)) (index : ℕ) (page : ℕ × ℕ) → set_of (front ++ insert pages index page) ≡ finite.insert (set_of (front ++ pages)) page tt
set_of-insert front pages index page =
    let moved = IsPermutation-append_right front (page ∷ pages) (insert pages index page) (IsPermutation-insert pages index page) in
    set_of-permutation (front ++ insert pages index page) (page ∷ (front ++ pages))
    (IsPermutation-trans _ (front ++ page ∷ pages) _ (IsPermutation-sym _ _ moved) (IsPermutation-middle front page pages))

-- a page that is among the pages behind others
pub set_of-found : (front pages : List (ℕ × ℕ)) (page : ℕ × ℕ) → list_any (same page) pages ≡ true → set_of (front ++ pages) ≡ finite.insert (set_of (front ++ pages)) page tt
set_of-found front pages page there =
    set_of-present (front ++ pages) page (list_any-append (same page) front pages ∙ or_right (list_any (same page) front) (list_any (same page) pages) there)

pub set_of-dedup : (pages : List (ℕ × ℕ)) → set_of (dedup same pages) ≡ set_of pages
set_of-dedup pages =
    let laws = eq_by_cmp_equiv row_cmp_total in
    same_pages (dedup same pages) pages (λ page. both_ways _ _
    (λ kept. list_any-from_Contains laws page pages (Contains-from_dedup same pages page (Contains-from_any equal page (dedup same pages) kept)))
    (λ there. list_any-from_Contains laws page (dedup same pages) (Contains-dedup laws equal pages page (Contains-from_any equal page pages there))))

-- how many pages a set has
pub length-keys : (pages : Pages) → length (finite.keys pages) ≡ finite.len pages
length-keys pages = length-map (finite.entries pages) (λ entry. entry.0) ∙ sym (len-entries pages)

one_more : (b : Bool) (n m : ℕ) → n ≤ m → cond b n (n + 1) ≤ suc m
one_more true n m le = omega arith
one_more false n m le = omega arith

pub len-set_of : (pages : List (ℕ × ℕ)) → finite.len (set_of pages) ≤ length pages
len-set_of [] = omega (arith, len-empty row_cmp (Unit {0}))
len-set_of (page ∷ others) = rw (len-insert row_cmp_total (set_of others) page tt) (one_more (finite.contains_key (set_of others) page) (finite.len (set_of others)) (length others) (len-set_of others))

-- the entries of a list's pages
abbrev entries_of : List (ℕ × ℕ) → List ((ℕ × ℕ) × Unit {0})
entries_of pages = map (λ page. (page, tt)) pages

nothing : {X : Type 0} (xs : List X) → length xs ≡ 0 → xs ≡ []
nothing [] e = refl
nothing (x ∷ xs) e = cc

put_first : (page : ℕ × ℕ) (others : List (ℕ × ℕ)) → AllByRecursion (λ other. row_cmp page other ≡ Less) others → put row_cmp page tt (entries_of others) ≡ entries_of (page ∷ others)
put_first page [] below = refl
put_first page (other ∷ others) below =
    ap (λ r. by_order r (entries_of (page ∷ other ∷ others)) ((other, tt) ∷ entries_of others) ((other, tt) ∷ put row_cmp page tt (entries_of others))) below.0

entries-set_of : (pages : List (ℕ × ℕ)) → IsStrictlySortedBy row_cmp pages → finite.entries (set_of pages) ≡ entries_of pages
entries-set_of [] sorted = nothing _ (sym (len-entries (set_of [])) ∙ len-empty row_cmp (Unit {0}))
entries-set_of (page ∷ others) sorted =
    entries-insert row_cmp_total (set_of others) page tt
    ∙ ap (put row_cmp page tt) (entries-set_of others (sorted_tail row_cmp page others sorted))
    ∙ put_first page others (sorted_head row_cmp page others sorted)

firsts : (pages : List (ℕ × ℕ)) → map (λ entry. entry.0) (entries_of pages) ≡ pages
firsts [] = refl
firsts (page ∷ others) = ap (λ rest. page ∷ rest) (firsts others)

-- a list that ascends is that of its set
pub keys-set_of : (pages : List (ℕ × ℕ)) → IsStrictlySortedBy row_cmp pages → finite.keys (set_of pages) ≡ pages
keys-set_of pages sorted = ap (map (λ entry. entry.0)) (entries-set_of pages sorted) ∙ firsts pages

-- a pair's `==`
ties : (page other : ℕ × ℕ) → (page.0 == other.0 && page.1 == other.1) ≡ same page other
ties page other = (λ i. sym (unsigned_tied page.0 other.0) i && sym (unsigned_tied page.1 other.1) i) ∙ tied_then (nat_cmp page.0 other.0) (nat_cmp page.1 other.1)

-- what a sort leaves of a list, and then a removal of repeats
pub keys-sorted : (pages sorted out : List (ℕ × ℕ)) → IsPermutation pages sorted → IsSorted row_cmp sorted → IsFiltered (DiffersFromLast (λ page other. page.0 == other.0 && page.1 == other.1)) [] sorted out → out ≡ finite.keys (set_of pages)
keys-sorted pages sorted out moved ascends kept =
    let is : out ≡ dedup same sorted = dedup_is _ sorted out kept ∙ (λ i. dedup (λ page other. ties page other i) sorted) in
    let rises : IsStrictlySortedBy row_cmp (dedup same sorted) = IsStrictlySortedBy-dedup row_cmp_total (λ page other. refl) sorted ascends in
    is ∙ sym (keys-set_of (dedup same sorted) rises) ∙ ap (λ pages. finite.keys pages) (set_of-dedup sorted ∙ sym (set_of-permutation pages sorted moved))

-- Sorted runs of pages: a page that joins one at its index, and how many pages runs have.
use Rattle.std.proofs.Common.{true, ◌≡◌, ◌≢◌, ℕ, zero, suc, ◌+◌, ◌*◌, ◌<◌, ◌≤◌, List, [], ◌∷◌, ◌++◌, length, get_or, Err, vec_capacity, ap, ◌∙◌, arith, length-append, append-nil}
use Rattle.std.specs.declared.cmp.Ordering.TheVariants.{Less, Equal, Greater}
use Rattle.std.specs.Cmp.{tied_itself}
use Rattle.std.specs.List.{AllByRecursion, AllWithin, HoldsAt, insert, list_any}
use Rattle.std.specs.List.Sorted.{IsSorted, IsStrictlySortedBy, IsBinarySearchResult}
use Rattle.std.specs.Ordering.{eq_by_cmp, is_eq, is_lt, ordering_reverse}
use Rattle.std.proofs.lemmas.List.{length_push}
use Rattle.std.proofs.lemmas.List.Concat.{flat_map-append}
use Rattle.std.proofs.lemmas.List.Edits.{length-insert}
use Rattle.std.proofs.lemmas.List.Folds.{list_any_at}
use Rattle.std.proofs.lemmas.List.Sorted.{searchable_from_sorted}
use Rattle.std.proofs.lemmas.Map.Keys.{Less-from_sorted}
use Rattle.clone_base.proofs.Lists.{All-push}
use Rattle.clone_model.specs.Keys.{row_cmp}
use Rattle.clone_model.proofs.RowMaps.{row_cmp_total, row_cmp_exact}
use Rattle.clone_track.specs.SortedRuns.{Run, IsRun, IsRuns, joined}
use Rattle.clone_track.specs.declared.runs.TheConstants.{RUN_PAGES, RUN_LIMIT}

-- ---- a page at its index

flipped : (page other : ℕ × ℕ) → row_cmp page other ≡ Greater → row_cmp other page ≡ Less
flipped page other above = row_cmp_total.antisymm other page ∙ ap ordering_reverse above

all_above : (page : ℕ × ℕ) (run : List (ℕ × ℕ)) → AllWithin (λ other. row_cmp other page ≡ Greater) run 0 (length run) → AllByRecursion (λ other. row_cmp page other ≡ Less) run
all_above page [] above = tt
all_above page (first ∷ run) above = (flipped first page (above 0 first (omega arith) (omega arith)), all_above page run (λ k d low high. above (suc k) d (omega arith) (omega arith)))

All-insert : (P : ℕ × ℕ → Type 0) (run : List (ℕ × ℕ)) (index : ℕ) (page : ℕ × ℕ) → AllByRecursion P run → P page → AllByRecursion P (insert run index page)
All-insert P [] zero page all one = (one, tt)
All-insert P [] (suc index) page all one = (one, tt)
All-insert P (first ∷ run) zero page all one = (one, all)
All-insert P (first ∷ run) (suc index) page all one = (all.0, All-insert P run index page all.1 one)

sorted-insert : (run : List (ℕ × ℕ)) (index : ℕ) (page : ℕ × ℕ) → IsStrictlySortedBy row_cmp run → AllWithin (λ other. row_cmp other page ≡ Less) run 0 index → index ≤ length run
    → AllWithin (λ other. row_cmp other page ≡ Greater) run index (length run) → IsStrictlySortedBy row_cmp (insert run index page)
unfolding IsStrictlySortedBy
sorted-insert [] zero page sorted below within above = (tt, tt)
sorted-insert [] (suc index) page sorted below within above = absurd (omega arith)
sorted-insert (first ∷ run) zero page sorted below within above = (all_above page (first ∷ run) above, sorted)
sorted-insert (first ∷ run) (suc index) page sorted below within above = (
  All-insert (λ other. row_cmp first other ≡ Less) run index page sorted.0 (below 0 first (omega arith) (omega arith)),
  sorted-insert run index page sorted.1 (λ k d low high. below (suc k) d (omega arith) (omega arith)) (omega arith) (λ k d low high. above (suc k) d (omega arith) (omega arith)),
)

weakly : (run : List (ℕ × ℕ)) → IsStrictlySortedBy row_cmp run → IsSorted row_cmp run
weakly run sorted k d low high =
    ap is_lt (row_cmp_total.antisymm (get_or run (k + 1) d) (get_or run k d) ∙ ap ordering_reverse (Less-from_sorted row_cmp run k (k + 1) d sorted (omega arith) high))

-- the run after a search that didn't find the page
pub after_insert : (run next : Run) (index : ℕ) (page : ℕ × ℕ) → IsRun run → length run.items < RUN_PAGES → index ≤ length run.items
    → IsBinarySearchResult (λ other. row_cmp other page) run.items (Err index) → next.items ≡ insert run.items index page → IsRun next
after_insert run next index page is room within search items =
    let halves = search (searchable_from_sorted row_cmp_total (λ other. other) run.items page (weakly run.items is.sorted)) in
    record {
      sorted = rw items (sorted-insert run.items index page is.sorted halves.0 within halves.1);
      few = rw (items, length-insert) (omega arith);
    }

-- a search that found the page
pub found : (run : List (ℕ × ℕ)) (index : ℕ) (page : ℕ × ℕ) → index < length run → HoldsAt (λ other. row_cmp other page ≡ Equal) run index → list_any (eq_by_cmp row_cmp page) run ≡ true
found run index page within equal =
    list_any_at (eq_by_cmp row_cmp page) run index page within (ap (λ other. eq_by_cmp row_cmp page other) (row_cmp_exact _ _ (equal page)) ∙ ap is_eq (tied_itself row_cmp_total page))

-- ---- several runs

pub joined-push : (runs : List Run) (run : Run) → joined (runs ++ run ∷ []) ≡ joined runs ++ run.items
joined-push runs run = flat_map-append (λ (r : Run). r.items) runs (run ∷ []) ∙ ap (λ pages. joined runs ++ pages) (append-nil run.items)

pub length-joined : (runs : List Run) → AllByRecursion (λ run. length run.items ≡ RUN_PAGES) runs → length (joined runs) ≡ length runs * RUN_PAGES
length-joined [] all = omega arith
length-joined (run ∷ runs) all = omega (arith, length-append run.items (joined runs), all.0, length-joined runs all.1)

-- ---- the runs that are kept

pub empty_run : (run : Run) → run.items ≡ [] → IsRun run
unfolding IsStrictlySortedBy
empty_run run none = record { sorted = rw none tt; few = rw none (omega arith) }

pub no_runs : (earlier : List Run) (last list : Run) → earlier ≡ [] → last.items ≡ [] → RUN_PAGES ≤ vec_capacity last → list.items ≡ [] → RUN_PAGES ≤ vec_capacity list → IsRuns earlier last list
no_runs earlier last list none last_none last_room list_none list_room =
    record {
      earlier_runs = rw none tt;
      full = rw none tt;
      last_run = empty_run last last_none;
      last_room = last_room;
      few = rw none (omega arith);
      list_empty = list_none;
      list_room = rw none (omega arith);
    }

-- a run takes its place among the earlier ones, and another begins
pub next_run : (earlier more : List Run) (last next list wider : Run) → IsRuns earlier last list → more ≡ earlier ++ last ∷ [] → RUN_PAGES ≤ length last.items → length earlier + 1 ≢ RUN_LIMIT → next.items ≡ [] → RUN_PAGES ≤ vec_capacity next
    → wider.items ≡ [] → (length earlier + 2) * RUN_PAGES ≤ vec_capacity wider → IsRuns more next wider
next_run earlier more last next list wider runs is full below next_none next_room wider_none wider_room =
    let count : length more ≡ length earlier + 1 = ap length is ∙ length_push earlier last in
    record {
      earlier_runs = rw is (All-push IsRun earlier last runs.earlier_runs runs.last_run);
      full = rw is (All-push (λ run. length run.items ≡ RUN_PAGES) earlier last runs.full (omega (arith, full, runs.last_run.few)));
      last_run = empty_run next next_none;
      last_room = next_room;
      few = omega (arith, count, below, runs.few);
      list_empty = wider_none;
      list_room = omega (arith, count, wider_room);
    }

pub length-kept : (earlier : List Run) (last list : Run) → IsRuns earlier last list → length (joined earlier) + length last.items ≤ (length earlier + 1) * RUN_PAGES
length-kept earlier last list runs = omega (arith, length-joined earlier runs.full, runs.last_run.few)

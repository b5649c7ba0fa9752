-- The rows that are found are the rows of the image, and what shows them.
use Rattle.std.proofs.Common.{◌≡◌, ◌<◌, ℕ, List, inl, inr, refl, sym, ap, ◌∙◌, subst, Some, None, IsSome, IsSomeAnd, option_and_then, slice_get}
use Rattle.std.proofs.lemmas.Option.{none-some, option_and_then_some, slice_get_within}
use Rattle.std.specs.declared.option.Option.{Option}
use Rattle.std.specs.FinMap as finite
use Rattle.std.specs.FinMap.{same_map, get-empty}
use Rattle.clone_model.specs.Keys.{row_cmp}
use Rattle.clone_model.specs.History.{Row, Rows}
use Rattle.clone_model.proofs.RowMaps.{row_cmp_total, row_cmp_exact}
use Rattle.clone_page.specs.Dictionary.{Lists, entry_space}
use Rattle.clone_image.specs.Image.{Image, page_of}
use Rattle.clone_image.specs.Rows.{Pages, IsListed, HoldsRow, AreOnce, ShowsRows}
use Rattle.clone_image.specs.Added.{Adds, InPage, InPages, InTable, InTables}

-- what holds of the value that is there
value_there : {A : Type 0} (o : Option A) (P : A → Type 0) → IsSomeAnd o P → (x : A) × (o ≡ Some x) × P x
value_there None P h = absurd h
value_there (Some x) P h = (x, refl, h)

there_is : {A : Type 0} (o : Option A) (P : A → Type 0) (x : A) → o ≡ Some x → P x → IsSomeAnd o P
there_is o P x e h = subst (λ p. IsSomeAnd p P) (sym e) h

-- a row that is found in a table that is listed
row_in_table : (image : Image) (table : ℕ) (row : Row) → IsListed (page_of image) table → InTable image table row → HoldsRow (page_of image) row
row_in_table image table row listed is =
    let space = value_there (finite.get image table) (λ pages. InPages table pages row) is in
    let at = space.2 in
    let found = value_there (slice_get space.0 at.index) (λ page. InPage table page row) at.held in
    let inside = found.2.slots in
    record {
      listed = subst (IsListed (page_of image)) (sym inside.held.own) listed;
      number = at.index;
      page = found.0;
      found = ap (λ t. page_of image t at.index) inside.held.own ∙ ap (option_and_then (λ pages. slice_get pages at.index)) space.1 ∙ found.1;
      holds = found.2.kind;
      slot_number = inside.index;
      within = inside.within;
      held = inside.held.held;
    }

-- a row that the dictionary leads to
row_found : (image : Image) (system : List ℕ) (row : Row) → page_of image 0 0 ≡ Some system → InTables image system row → HoldsRow (page_of image) row
row_found image system row there is =
    row_in_table image (entry_space is.index system) row
    (there_is (page_of image 0 0) (λ page. Lists page (entry_space is.index system)) system there (record { entry_number = is.index; within = is.within; used = is.held.used; named = refl }))
    is.held.rows

-- the dictionary leads to each row
found_row : (image : Image) (system : List ℕ) (row : Row) → page_of image 0 0 ≡ Some system → HoldsRow (page_of image) row → InTables image system row
found_row image system row there is =
    let lists = subst (λ o. IsSomeAnd o (λ page. Lists page row.0)) there is.listed in
    record {
      index = lists.entry_number;
      within = lists.within;
      held = record {
        used = subst (λ t. 0 < t) (sym lists.named) lists.used;
        rows = subst (λ t. InTable image t row) (sym lists.named) in_table;
      };
    }
  where
    in_page : InPage row.0 is.page row
    in_page = record { kind = is.holds; slots = record { index = is.slot_number; within = is.within; held = record { own = refl; held = is.held } } }

    in_table : InTable image row.0 row
    in_table =
        option_and_then_some (λ pages. slice_get pages is.number) (finite.get image row.0) is.page is.found
        (λ pages has at. there_is (finite.get image row.0) (λ ps. InPages row.0 ps row) pages has (record {
          index = is.number;
          within = slice_get_within pages is.number is.page at;
          held = there_is (slice_get pages is.number) (λ page. InPage row.0 page row) is.page at in_page;
        }))

nothing_there : (t k : ℕ) (v : List ℕ) → finite.get (finite.empty {X = List ℕ} {R = row_cmp}) (t, k) ≡ Some v → ⊥
nothing_there t k v e = none-some v (sym (get-empty row_cmp (t, k)) ∙ e)

some_value : (o : Option (List ℕ)) → IsSome o → (v : List ℕ) × (o ≡ Some v)
some_value None some = cc
some_value (Some v) some = (v, refl)

-- what is sound and complete shows the rows
shows : (pages : Pages) (rows : Rows) → ((t k : ℕ) (v : List ℕ) → finite.get rows (t, k) ≡ Some v → HoldsRow pages (t, k, v))
    → ((t k : ℕ) (v : List ℕ) → HoldsRow pages (t, k, v) → IsSome (finite.get rows (t, k))) → ShowsRows pages rows
shows pages rows sound complete = record { sound = sound; complete = complete; all = λ once. record { here = λ t k v. here once t k v; there = sound } }
  where
    here : AreOnce pages → (t k : ℕ) (v : List ℕ) → HoldsRow pages (t, k, v) → finite.get rows (t, k) ≡ Some v
    here once t k v is =
        let found = some_value (finite.get rows (t, k)) (complete t k v is) in
        found.1 ∙ ap Some (once t k found.0 v (sound t k found.0 found.1) is)

-- what the dictionary leads to, added to nothing
pub shows_added : (image : Image) (system : List ℕ) (first rows : Rows) → Some system ≡ page_of image 0 0 → first ≡ finite.empty → Adds first rows (InTables image system) → ShowsRows (page_of image) rows
shows_added image system first rows there empty is =
    shows (page_of image) rows
    (λ t k v e. elim (is.sound t k v e) [
      | inl o ↦ absurd (nothing_there t k v (ap (λ m. finite.get m (t, k)) (sym empty) ∙ o))
      | inr f ↦ row_found image system (t, k, v) (sym there) f
    ])
    (λ t k v f. is.complete t k v (found_row image system (t, k, v) (sym there) f))

-- an image with no system page has no rows
pub shows_none : (image : Image) (rows : Rows) → None ≡ page_of image 0 0 → rows ≡ finite.empty → ShowsRows (page_of image) rows
shows_none image rows none empty =
    shows (page_of image) rows
    (λ t k v e. absurd (nothing_there t k v (ap (λ m. finite.get m (t, k)) (sym empty) ∙ e)))
    (λ t k v f. absurd (subst (λ o. IsSomeAnd o (λ page. Lists page t)) (sym none) f.listed))

same_value : (o p : Option (List ℕ)) → ((v : List ℕ) → o ≡ Some v → p ≡ Some v) → ((v : List ℕ) → p ≡ Some v → IsSome o) → o ≡ p
same_value (Some v) p to from = sym (to v refl)
same_value None None to from = refl
same_value None (Some v) to from = let some = from v refl in cc

-- Where the rows of the image are those of a map, what shows them is that map.
pub shown_map : (pages : Pages) (rows m : Rows) → ShowsRows pages rows
    → ((t k : ℕ) (v : List ℕ) → HoldsRow pages (t, k, v) → finite.get m (t, k) ≡ Some v)
    → ((t k : ℕ) (v : List ℕ) → finite.get m (t, k) ≡ Some v → HoldsRow pages (t, k, v))
    → rows ≡ m
shown_map pages rows m shows to from =
    same_map row_cmp_total row_cmp_exact rows m (λ q. same_value (finite.get rows q) (finite.get m q)
    (λ v e. to q.0 q.1 v (shows.sound q.0 q.1 v e))
    (λ v e. shows.complete q.0 q.1 v (from q.0 q.1 v e)))

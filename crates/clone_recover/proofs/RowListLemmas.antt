-- The rows of a disk's tables, page by page and table by table.
use Rattle.std.proofs.Common.{◌≡◌, ◌≢◌, ◌<◌, ◌≤◌, ◌+◌, ◌⊎◌, ℕ, List, [], ◌∷◌, length, get_or, refl, sym, ap, subst, ◌∙◌, arith, true, false, cond, Some, None, inl, inr}
use Rattle.std.specs.Prelude.{option_map, nat_lt, unwrap_or, IsSomeAnd, slice_get, option_and_then}
use Rattle.std.specs.declared.option.Option.{Option}
use Rattle.std.specs.FinMap as finite
use Rattle.std.specs.FinMap.{get-empty}
use Rattle.std.proofs.lemmas.Bool.{lt-ltb, le-ltb}
use Rattle.std.proofs.lemmas.List.{length-map, get_or_default}
use Rattle.std.proofs.lemmas.Option.{none-some, slice_get-get_or}
use Rattle.clone_model.specs.Keys.{row_cmp}
use Rattle.clone_model.specs.History.{Row, Rows, rows_in}
use Rattle.clone_page.specs.Dictionary.{entry_count, entry_space, Lists}
use Rattle.clone_outside.specs.Disk.{DiskImage, ForTold, GivesQuiet, page_count}
use Rattle.clone_outside.specs.declared.disk.Held.{Held}
use Rattle.clone_image.specs.Added.{Adds, Below, AtPage, AtEntry, InPage, InPages, InTable, InTables}
use Rattle.clone_image.specs.Image.{Image, page_of}
use Rattle.clone_image.specs.Rows.{ShowsRows}
use Rattle.clone_image.proofs.RowMapLemmas.{adds_nothing, adds_same, adds_none, adds_next, adds_page}
use Rattle.clone_image.proofs.ImageRowLemmas.{shows_added}
use Rattle.clone_overlay.specs.Images.{redo_space, image_of, pages_in, bytes_of, IsQuiet}
use Rattle.clone_overlay.proofs.Bases.{get_image, read_on}
use Rattle.clone_outside.specs.declared.mark.CloneEnd.{CloneEnd}
use Rattle.clone_outside.specs.declared.mark.Mark.{Mark}
use Rattle.clone_outside.specs.declared.mark.Mark.TheVariants as mark
use Rattle.clone_recover.specs.Listing.{AddsTable, AddsListed, InListed, ListsRowsOn}
use Rattle.clone_recover.specs.Restores.{IsMarkOf, IsRowsCause, incomplete, complete, unmarked, under_way, numbered, unplaced}
use Rattle.clone_recover.specs.declared.refusal.RecoverRefusal.TheVariants.{Incomplete}

-- The pages of a space.

low_space : (s : ℕ) → s < redo_space → nat_lt s redo_space ≡ true
low_space s lt = lt-ltb s redo_space lt

high_space : (s : ℕ) → redo_space ≤ s → nat_lt s redo_space ≡ false
high_space s le = le-ltb s redo_space le

get_low : (m : DiskImage) (s : ℕ) → s < redo_space → finite.get (image_of m) s ≡ option_map bytes_of (finite.get m.spaces s)
get_low m s lt = get_image m s ∙ ap (λ b. cond b (option_map bytes_of (finite.get m.spaces s)) None) (low_space s lt)

get_high : (m : DiskImage) (s : ℕ) → redo_space ≤ s → finite.get (image_of m) s ≡ None
get_high m s le = get_image m s ∙ ap (λ b. cond b (option_map bytes_of (finite.get m.spaces s)) None) (high_space s le)

-- how many pages there are
count_low : (m : DiskImage) (s : ℕ) (o : Option ℕ) → s < redo_space → o ≡ page_count m s → unwrap_or o 0 ≡ length (pages_in (image_of m) s)
count_low m s o lt is = ap (λ x. unwrap_or x 0) is ∙ at (finite.get m.spaces s) ∙ sym (ap (λ x. length (unwrap_or x [])) (get_low m s lt))
  where
    at : (x : Option (List Held)) → unwrap_or (option_map length x) 0 ≡ length (unwrap_or (option_map bytes_of x) [])
    at None = refl
    at (Some hs) = sym (length-map hs (λ (h : Held). h.bytes))

page_there : (image : Image) (n : ℕ) → n < length (pages_in image 0) → page_of image 0 n ≡ Some (get_or (pages_in image 0) n [])
page_there image n lt = at (finite.get image 0) lt
  where
    at : (o : Option (List (List ℕ))) → n < length (unwrap_or o []) → option_and_then (λ pages. slice_get pages n) o ≡ Some (get_or (unwrap_or o []) n [])
    at None lt = absurd (omega (arith, lt))
    at (Some pages) lt = slice_get-get_or pages n [] lt

-- The rows of a table, page by page.

-- those of the first pages of a table of a quiet disk are added
abbrev pub AddsPages : Option DiskImage → ℕ → ℕ → Rows → Rows → Type 0
AddsPages told table number old new = ForTold told (λ m. IsQuiet m → Adds old new (Below number (AtPage table (pages_in (image_of m) table))))

pub pages_begin : (told : Option DiskImage) (table : ℕ) (rows : Rows) → AddsPages told table 0 rows rows
pages_begin None table rows = tt
pages_begin (Some m) table rows = λ quiet. adds_none rows (AtPage table (pages_in (image_of m) table))

pub pages_go_on : (told counted now : Option DiskImage) (table number : ℕ) (count : Option ℕ) (first old new : Rows) (page : List ℕ) → counted ≡ told → now ≡ told → table < redo_space → number < unwrap_or count 0 → ForTold counted (λ m. count ≡ page_count m table)
    → ForTold now (λ m. GivesQuiet m table number page) → Adds old new (InPage table page) → AddsPages told table number first old → AddsPages told table (number + 1) first new
pages_go_on told counted now table number count first old new page same again low lt is gives adds before =
    at told (subst (λ t. ForTold t (λ m. count ≡ page_count m table)) same is) (subst (λ t. ForTold t (λ m. GivesQuiet m table number page)) again gives) before
  where
    at : (t : Option DiskImage) → ForTold t (λ m. count ≡ page_count m table) → ForTold t (λ m. GivesQuiet m table number page) → AddsPages t table number first old → AddsPages t table (number + 1) first new
    at None is gives before = tt
    at (Some m) is gives before = λ quiet.
        let pages : List (List ℕ) = pages_in (image_of m) table in
        let there : number < length pages = omega (arith, lt, count_low m table count low is) in
        adds_next first old new (AtPage table pages) number (before quiet) (adds_page old new table number pages page there (read_on m table number page quiet gives there ∙ get_or_default pages number [] page there) adds)

in_space : (o : Option (List (List ℕ))) (table number : ℕ) (old new : Rows) → number ≡ length (unwrap_or o []) → Adds old new (Below number (AtPage table (unwrap_or o []))) → Adds old new (λ row. IsSomeAnd o (λ pages. InPages table pages row))
in_space None table number old new is adds =
    adds_same old new (Below number (AtPage table [])) (λ row. ⊥) adds (λ row f. let low : f.index < number = f.within in absurd (omega (arith, low, is))) (λ row f. absurd f)
in_space (Some pages) table number old new is adds = subst (λ (n : ℕ). Adds old new (Below n (AtPage table pages))) is adds

pub pages_end : (told counted : Option DiskImage) (table number : ℕ) (count : Option ℕ) (old new : Rows) → counted ≡ told → table < redo_space → number ≡ unwrap_or count 0 → ForTold counted (λ m. count ≡ page_count m table) → AddsPages told table number old new → AddsTable told table old new
pages_end told counted table number count old new same low all is adds = at told (subst (λ t. ForTold t (λ m. count ≡ page_count m table)) same is) adds
  where
    at : (t : Option DiskImage) → ForTold t (λ m. count ≡ page_count m table) → AddsPages t table number old new → AddsTable t table old new
    at None is adds = tt
    at (Some m) is adds = λ quiet. in_space (finite.get (image_of m) table) table number old new (all ∙ count_low m table count low is) (adds quiet)

-- The rows of the tables, entry by entry.

-- those of the first entries of the dictionary are added
abbrev pub AddsEntries : Option DiskImage → ℕ → List ℕ → Rows → Rows → Type 0
AddsEntries told entry_number system old new = ForTold told (λ m. IsQuiet m → Adds old new (Below entry_number (AtEntry (image_of m) system)))

-- an entry that names a table
pub entries_go_on : (told now : Option DiskImage) (entry_number table : ℕ) (system : List ℕ) (first old new : Rows) → now ≡ told → table ≡ entry_space entry_number system → table ≢ 0 → AddsTable now table old new → AddsEntries told entry_number system first old
    → AddsEntries told (entry_number + 1) system first new
entries_go_on told now entry_number table system first old new same is used adds before = at told (subst (λ t. AddsTable t table old new) same adds) before
  where
    at : (t : Option DiskImage) → AddsTable t table old new → AddsEntries t entry_number system first old → AddsEntries t (entry_number + 1) system first new
    at None adds before = tt
    at (Some m) adds before = λ quiet.
        adds_next first old new (AtEntry (image_of m) system) entry_number (before quiet)
        (adds_same old new (InTable (image_of m) table) (AtEntry (image_of m) system entry_number) (adds quiet)
        (λ row f. record { used = subst (λ (t : ℕ). 0 < t) is (omega (arith, used)); rows = subst (λ (t : ℕ). InTable (image_of m) t row) is f })
        (λ row f. subst (λ (t : ℕ). InTable (image_of m) t row) (sym is) f.rows))

-- an entry that names none
pub entries_pass : (told : Option DiskImage) (entry_number table : ℕ) (system : List ℕ) (first old : Rows) → table ≡ entry_space entry_number system → (table ≡ 0) ⊎ (redo_space ≤ table) → AddsEntries told entry_number system first old → AddsEntries told (entry_number + 1) system first old
entries_pass None entry_number table system first old is none before = tt
entries_pass (Some m) entry_number table system first old is none before = λ quiet.
    adds_next first old old (AtEntry (image_of m) system) entry_number (before quiet) (adds_nothing old (AtEntry (image_of m) system entry_number) (λ row f. elim none [
      | inl free ↦ let used : 0 < entry_space entry_number system = f.used in absurd (omega (arith, used, is, free))
      | inr high ↦ absurd (subst (λ o. IsSomeAnd o (λ pages. InPages table pages row)) (get_high m table high) (subst (λ (t : ℕ). InTable (image_of m) t row) (sym is) f.rows))
    ]))

listed_in : (o : Option (List ℕ)) (image : Image) (system : List ℕ) (old new : Rows) → o ≡ Some system → Adds old new (InTables image system) → Adds old new (λ row. IsSomeAnd o (λ page. InTables image page row))
listed_in o image system old new is adds = subst (λ (x : Option (List ℕ)). Adds old new (λ row. IsSomeAnd x (λ page. InTables image page row))) (sym is) adds

pub entries_end : (told counted now : Option DiskImage) (entry_number : ℕ) (system : List ℕ) (count : Option ℕ) (old new : Rows) → counted ≡ told → now ≡ told → entry_number ≡ entry_count → 0 < unwrap_or count 0 → ForTold counted (λ m. count ≡ page_count m 0)
    → ForTold now (λ m. GivesQuiet m 0 0 system) → AddsEntries told entry_number system old new → AddsListed told old new
entries_end told counted now entry_number system count old new same again all some is gives adds =
    at told (subst (λ t. ForTold t (λ m. count ≡ page_count m 0)) same is) (subst (λ t. ForTold t (λ m. GivesQuiet m 0 0 system)) again gives) adds
  where
    at : (t : Option DiskImage) → ForTold t (λ m. count ≡ page_count m 0) → ForTold t (λ m. GivesQuiet m 0 0 system) → AddsEntries t entry_number system old new → AddsListed t old new
    at None is gives adds = tt
    at (Some m) is gives adds = λ quiet.
        let there : 0 < length (pages_in (image_of m) 0) = omega (arith, some, count_low m 0 count (omega arith) is) in
        listed_in (page_of (image_of m) 0 0) (image_of m) system old new (page_there (image_of m) 0 there ∙ ap Some (sym (read_on m 0 0 system quiet gives there)))
        (subst (λ (n : ℕ). Adds old new (Below n (AtEntry (image_of m) system))) all (adds quiet))

-- there is no system page
pub none_listed : (told : Option DiskImage) (count : Option ℕ) (rows : Rows) → unwrap_or count 0 ≡ 0 → ForTold told (λ m. count ≡ page_count m 0) → AddsListed told rows rows
none_listed None count rows none is = tt
none_listed (Some m) count rows none is = λ quiet.
    adds_nothing rows (InListed (image_of m)) (λ row f. nowhere (finite.get (image_of m) 0) row (sym (count_low m 0 count (omega arith) is) ∙ none) f)
  where
    nowhere : (o : Option (List (List ℕ))) (row : Row) → length (unwrap_or o []) ≡ 0 → IsSomeAnd (option_and_then (λ pages. slice_get pages 0) o) (λ system. InTables (image_of m) system row) → ⊥
    nowhere None row is f = f
    nowhere (Some []) row is f = f
    nowhere (Some (page ∷ pages)) row is f = absurd (omega (arith, is))

-- All rows.

pub shows_listed : (image : Image) (first rows : Rows) → first ≡ finite.empty → Adds first rows (InListed image) → ShowsRows (page_of image) rows
shows_listed image first rows empty adds = at (page_of image 0 0) refl adds
  where
    nothing : (t k : ℕ) (v : List ℕ) → finite.get first (t, k) ≡ Some v → ⊥
    nothing t k v is = none-some v (sym (get-empty row_cmp (t, k)) ∙ sym (ap (λ (r : Rows). finite.get r (t, k)) empty) ∙ is)

    at : (o : Option (List ℕ)) → page_of image 0 0 ≡ o → Adds first rows (λ row. IsSomeAnd o (λ system. InTables image system row)) → ShowsRows (page_of image) rows
    at (Some system) is adds = shows_added image system first rows (sym is) empty adds
    at None is adds = record {
      sound = λ t k v e. absurd (elim (adds.sound t k v e) [ inl old ↦ nothing t k v old | inr f ↦ f ]);
      complete = λ t k v f. absurd (subst (λ o. IsSomeAnd o (λ page. Lists page t)) is f.listed);
      all = λ once. record {
        here = λ t k v f. absurd (subst (λ o. IsSomeAnd o (λ page. Lists page t)) is f.listed);
        there = λ t k v e. absurd (elim (adds.sound t k v e) [ inl old ↦ nothing t k v old | inr f ↦ f ]);
      };
    }

pub lists_rows : (told now : Option DiskImage) (end : CloneEnd) (first rows : Rows) (list : List Row) → now ≡ told → ForTold told (λ m. IsMarkOf m (Some (mark.Recovered end))) → AddsListed now first rows → first ≡ finite.empty → list ≡ rows_in rows → ListsRowsOn told list
lists_rows told now end first rows list same marked adds empty is = at told marked (subst (λ t. AddsListed t first rows) same adds)
  where
    at : (t : Option DiskImage) → ForTold t (λ m. IsMarkOf m (Some (mark.Recovered end))) → AddsListed t first rows → ListsRowsOn t list
    at None marked adds = tt
    at (Some m) marked adds = record { mark = (end, marked); rows = λ quiet. (rows, shows_listed (image_of m) first rows empty (adds quiet), is) }

-- Refusals.

pub unrecovered : (told : Option DiskImage) (o : Option Mark) → ((end : CloneEnd) → o ≡ Some (mark.Recovered end) → ⊥) → ForTold told (λ m. IsMarkOf m o) → ForTold told (λ m. IsRowsCause m Incomplete)
unrecovered None o not is = tt
unrecovered (Some m) None not is = incomplete (unmarked is)
unrecovered (Some m) (Some (mark.InProgress session)) not is = incomplete (under_way session is)
unrecovered (Some m) (Some (mark.Ending end)) not is = incomplete (numbered end is)
unrecovered (Some m) (Some (mark.Staged end)) not is = incomplete (unplaced end is)
unrecovered (Some m) (Some (mark.Complete end)) not is = complete end is
unrecovered (Some m) (Some (mark.Recovered end)) not is = absurd (not end refl)

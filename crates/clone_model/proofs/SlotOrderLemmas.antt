-- The rows of slots that stand in order are those with a value, in that order.
use Rattle.std.proofs.Common.{◌≡◌, ℕ, List, [], ◌∷◌, ◌++◌, refl, sym, ap, ◌∙◌, cond, map, Some, None, option_map, length, append-nil}
use Rattle.std.specs.declared.option.Option.{Option}
use Rattle.std.specs.declared.cmp.Ordering.TheVariants.{Less}
use Rattle.std.specs.FinMap as finite
use Rattle.std.specs.FinMap.{put, same_map, get-empty, get-remove, entries-insert, len-empty, len-entries}
use Rattle.std.specs.FinMap.Entries.{by_order}
use Rattle.std.specs.List.{AllByRecursion, cons_option}
use Rattle.std.specs.List.Sorted.{IsStrictlySortedBy}
use Rattle.std.specs.Map.{keys_of}
use Rattle.std.specs.Ordering.{eq_by_cmp, is_eq}
use Rattle.std.proofs.lemmas.Map.Keys.{sorted_head, sorted_tail}
use Rattle.clone_model.specs.Keys.{row_cmp}
use Rattle.clone_model.specs.History.{Row, Rows, rows_in, set_or_remove}
use Rattle.clone_model.specs.Room.{kept}
use Rattle.clone_base.proofs.MapEntries.{is_equal}
use Rattle.clone_model.proofs.RowMaps.{row_cmp_total, row_cmp_exact, chosen_none, get-set_or_remove}

-- the slots with a value
abbrev pub present : List ((ℕ × ℕ) × Option (List ℕ)) → List ((ℕ × ℕ) × List ℕ)
present [] = []
present (e ∷ es) = cons_option (option_map (λ v. (e.0, v)) e.1) (present es)

-- the same as rows
abbrev pub present_rows : List ((ℕ × ℕ) × Option (List ℕ)) → List Row
present_rows es = map (λ entry. (entry.0.0, entry.0.1, entry.1)) (present es)

abbrev IsBelow : ℕ × ℕ → List ((ℕ × ℕ) × Option (List ℕ)) → Type 0
IsBelow k es = AllByRecursion (λ y. row_cmp k y ≡ Less) (keys_of es)

entries-empty : finite.entries (finite.empty {X = List ℕ} {R = row_cmp}) ≡ []
entries-empty = nothing (finite.entries (finite.empty {X = List ℕ} {R = row_cmp})) (sym (len-entries (finite.empty {X = List ℕ} {R = row_cmp})) ∙ len-empty row_cmp (List ℕ))
  where
    nothing : {A : Type 0} (xs : List A) → length xs ≡ 0 → xs ≡ []
    nothing [] e = refl
    nothing (x ∷ xs) e = cc

-- a row below all of the slots isn't among them
absent : (k : ℕ × ℕ) (es : List ((ℕ × ℕ) × Option (List ℕ))) → IsBelow k es → finite.get (kept es) k ≡ None
absent k [] below = get-empty row_cmp k
absent k (e ∷ es) below =
    get-set_or_remove (kept es) e.0 e.1 k ∙ ap (λ r. cond (is_eq r) e.1 (finite.get (kept es) k)) below.0 ∙ absent k es below.1

remove_absent : (rows : Rows) (k : ℕ × ℕ) → finite.get rows k ≡ None → finite.remove rows k ≡ rows
remove_absent rows k none =
    same_map row_cmp_total row_cmp_exact _ _ (λ q. get-remove row_cmp_total rows k q
    ∙ chosen_none (eq_by_cmp row_cmp q k) (finite.get rows q) (λ tie. ap (finite.get rows) (row_cmp_exact q k (is_equal _ tie)) ∙ none))

-- a row below all of the slots is put before them
put_first : (k : ℕ × ℕ) (v : List ℕ) (es : List ((ℕ × ℕ) × Option (List ℕ))) → IsBelow k es → put row_cmp k v (present es) ≡ (k, v) ∷ present es
put_first k v [] below = refl
put_first k v (e ∷ es) below = at_slot e.1 (put_first k v es below.1)
  where
    at_slot : (o : Option (List ℕ)) → put row_cmp k v (present es) ≡ (k, v) ∷ present es
        → put row_cmp k v (cons_option (option_map (λ w. (e.0, w)) o) (present es)) ≡ (k, v) ∷ cons_option (option_map (λ w. (e.0, w)) o) (present es)
    at_slot None rest = rest
    at_slot (Some w) rest = ap (λ r. by_order r ((k, v) ∷ (e.0, w) ∷ present es) ((e.0, v) ∷ present es) ((e.0, w) ∷ put row_cmp k v (present es))) below.0

with_first : (k : ℕ × ℕ) (o : Option (List ℕ)) (es : List ((ℕ × ℕ) × Option (List ℕ))) → IsBelow k es → finite.entries (kept es) ≡ present es
    → finite.entries (set_or_remove (kept es) k o) ≡ cons_option (option_map (λ v. (k, v)) o) (present es)
with_first k None es below rest = ap finite.entries (remove_absent (kept es) k (absent k es below)) ∙ rest
with_first k (Some v) es below rest = entries-insert row_cmp_total (kept es) k v ∙ ap (put row_cmp k v) rest ∙ put_first k v es below

entries-kept : (es : List ((ℕ × ℕ) × Option (List ℕ))) → IsStrictlySortedBy row_cmp (keys_of es) → finite.entries (kept es) ≡ present es
entries-kept [] sorted = entries-empty
entries-kept (e ∷ es) sorted =
    with_first e.0 e.1 es (sorted_head row_cmp e.0 (keys_of es) sorted) (entries-kept es (sorted_tail row_cmp e.0 (keys_of es) sorted))

-- the rows of slots in order
pub rows_in-kept : (es : List ((ℕ × ℕ) × Option (List ℕ))) → IsStrictlySortedBy row_cmp (keys_of es) → rows_in (kept es) ≡ present_rows es
rows_in-kept es sorted = ap (map (λ entry. (entry.0.0, entry.0.1, entry.1))) (entries-kept es sorted)

-- what was written when no slot is left
pub wrote_present : (out : List Row) (left all : List ((ℕ × ℕ) × Option (List ℕ))) → out ++ present_rows left ≡ present_rows all → left ≡ [] → IsStrictlySortedBy row_cmp (keys_of all) → out ≡ rows_in (kept all)
wrote_present out left all written none sorted =
    sym (append-nil out) ∙ ap (λ es. out ++ present_rows es) (sym none) ∙ written ∙ sym (rows_in-kept all sorted)

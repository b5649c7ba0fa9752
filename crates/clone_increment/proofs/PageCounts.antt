-- How many of the slots of a map hold a page.
use Rattle.std.proofs.Common.{◌≡◌, ◌+◌, ◌≤◌, ◌<◌, ℕ, List, [], ◌∷◌, length, map, Some, None, refl, sym, ap, ◌∙◌, arith}
use Rattle.std.specs.declared.option.Option.{Option}
use Rattle.std.specs.FinMap as finite
use Rattle.std.specs.FinMap.{len-entries}
use Rattle.std.specs.BTreeMap.{BTreeMap, values}
use Rattle.std.specs.List.Sorted.{IsStrictlySortedBy}
use Rattle.std.specs.Map.{keys_of}
use Rattle.std.proofs.lemmas.List.{length-map}
use Rattle.clone_model.specs.Keys.{row_cmp}
use Rattle.clone_model.specs.History.{Row, rows_in}
use Rattle.clone_model.specs.Room.{kept}
use Rattle.clone_model.proofs.SlotOrderLemmas.{present, rows_in-kept}
use Rattle.clone_increment.specs.Slots.{Slots}
use Rattle.clone_increment.proofs.LayLemmas.{Entries}

-- so many of them hold a page
abbrev pub filled_in : List (Option (List ℕ)) → ℕ
filled_in [] = 0
filled_in (None ∷ slots) = filled_in slots
filled_in (Some page ∷ slots) = filled_in slots + 1

pub at_most_all : (slots : List (Option (List ℕ))) → filled_in slots ≤ length slots
at_most_all [] = omega arith
at_most_all (None ∷ slots) = omega (arith, at_most_all slots)
at_most_all (Some page ∷ slots) = omega (arith, at_most_all slots)

filled_present : (es : Entries) → filled_in (map (λ e. e.1) es) ≡ length (present es)
filled_present [] = refl
filled_present (e ∷ es) = at e.1 (filled_present es)
  where
    at : (slot : Option (List ℕ)) → filled_in (map (λ e. e.1) es) ≡ length (present es) → filled_in (slot ∷ map (λ e. e.1) es) ≡ length (present ((e.0, slot) ∷ es))
    at None rest = rest
    at (Some page) rest = omega (arith, rest)

-- all of them were counted
pub counted_all : (slots : Slots) (count : ℕ) (left : List (Option (List ℕ))) → IsStrictlySortedBy row_cmp (keys_of slots.entries) → count + filled_in left ≡ filled_in (values slots) → left ≡ [] → count ≡ finite.len (kept slots.entries)
counted_all slots count left sorted so_far none =
    let row : (ℕ × ℕ) × List ℕ → Row = λ entry. (entry.0.0, entry.0.1, entry.1) in
    let all : count ≡ filled_in (values slots) = omega (arith, so_far, ap filled_in none) in
    all ∙ filled_present slots.entries ∙ sym (length-map (present slots.entries) row) ∙ sym (ap length (rows_in-kept slots.entries sorted))
    ∙ length-map (finite.entries (kept slots.entries)) row ∙ sym (len-entries (kept slots.entries))

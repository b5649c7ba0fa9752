-- Pages that are laid over others, by what stands at each place.
use Rattle.std.proofs.Common.{◌≡◌, ◌+◌, ◌-◌, ◌<◌, ◌≤◌, ◌⊎◌, ℕ, List, [], ◌∷◌, ◌++◌, length, take, drop, replicate, None, Some, refl, sym, ap, ◌∙◌, arith, inl, inr, slice_get}
use Rattle.std.proofs.lemmas.Bool.{cases_lt, cases_eq}
use Rattle.std.proofs.lemmas.List.{length-append, length-replicate, length-take-le, length-drop}
use Rattle.std.proofs.lemmas.Option.{slice_get_past}
use Rattle.clone_base.proofs.MapEntries.{slice_get-pushed_front, slice_get-pushed_last, slice_get-set_same, slice_get-set_other}
use Rattle.clone_outside.specs.Disk.{zero_page, extended, edited}
use Rattle.clone_outside.specs.declared.disk.Held.{Held}
use Rattle.clone_lay.specs.Laid.{laid_over}
use Rattle.clone_lay.proofs.IndexLemmas.{slice_get-append_left, slice_get-append_right, slice_get-take, slice_get-drop, slice_get-replicate, same_elements}

-- Pages behind which there are zero pages.

module _ (count : ℕ) (old : List Held) where
  pub length-extended : length (extended count old) ≡ length old + (count - length old)
  length-extended = length-append old (replicate (count - length old) zero_page) ∙ ap (λ (n : ℕ). length old + n) (length-replicate (count - length old) zero_page)

  pub extended_there : (i : ℕ) → i < length old → slice_get (extended count old) i ≡ slice_get old i
  extended_there i low = slice_get-append_left old (replicate (count - length old) zero_page) i low

  pub extended_zero : (i : ℕ) → length old ≤ i → i < count → slice_get (extended count old) i ≡ Some zero_page
  extended_zero i high low =
      slice_get-append_right old (replicate (count - length old) zero_page) i (i - length old) (omega arith)
      ∙ slice_get-replicate (count - length old) zero_page (i - length old) (omega arith)

  pub extended_past : (i : ℕ) → length old ≤ i → count ≤ i → slice_get (extended count old) i ≡ None
  extended_past i high past = slice_get_past (extended count old) i (omega (arith, length-extended))

-- Pages that are laid.

module _ (first : ℕ) (new old : List Held) where
  abbrev front : List Held
  front = take first (extended first old)

  length-front : length front ≡ first
  length-front = length-take-le first (extended first old) (omega (arith, length-extended first old))

  pub length-laid_over : length (laid_over first new old) ≡ first + length new + (length old - (first + length new))
  length-laid_over =
      omega (arith, length-append (front ++ new) (drop (first + length new) old), length-append front new, length-front, length-drop (first + length new) old)

  pub laid_before : (i : ℕ) → i < first → slice_get (laid_over first new old) i ≡ slice_get (extended first old) i
  laid_before i low =
      slice_get-append_left (front ++ new) (drop (first + length new) old) i (omega (arith, length-append front new, length-front))
      ∙ slice_get-append_left front new i (omega (arith, length-front)) ∙ slice_get-take first (extended first old) i low

  pub laid_here : (i k : ℕ) → first + k ≡ i → k < length new → slice_get (laid_over first new old) i ≡ slice_get new k
  laid_here i k is low =
      slice_get-append_left (front ++ new) (drop (first + length new) old) i (omega (arith, length-append front new, length-front))
      ∙ slice_get-append_right front new i k (omega (arith, length-front))

  pub laid_behind : (i : ℕ) → first + length new ≤ i → slice_get (laid_over first new old) i ≡ slice_get old i
  laid_behind i past =
      slice_get-append_right (front ++ new) (drop (first + length new) old) i (i - (first + length new)) (omega (arith, length-append front new, length-front))
      ∙ slice_get-drop (first + length new) old (i - (first + length new)) i (omega arith)

-- no page is laid
pub laid_none : (first : ℕ) (old : List Held) → first ≤ length old → laid_over first [] old ≡ old
laid_none first old within = same_elements (laid_over first [] old) old (λ i. at i (cases_lt i first))
  where
    at : (i : ℕ) → (i < first) ⊎ (first ≤ i) → slice_get (laid_over first [] old) i ≡ slice_get old i
    at i (inl low) = laid_before first [] old i low ∙ extended_there first old i (omega arith)
    at i (inr high) = laid_behind first [] old i (omega arith)

-- one page more is laid, where there is room for it
pub laid_next : (first n : ℕ) (new old : List Held) (page : Held) → first + length new ≡ n → n < length old → edited n (λ _. page) (laid_over first new old) ≡ laid_over first (new ++ page ∷ []) old
laid_next first n new old page is within =
    same_elements (edited n (λ _. page) before) after (λ i. at i (cases_eq i n) (cases_lt i n) (cases_lt i first))
  where
    before : List Held
    before = laid_over first new old

    more : List Held
    more = new ++ page ∷ []

    after : List Held
    after = laid_over first more old

    one_more : length more ≡ length new + 1
    one_more = length-append new (page ∷ [])

    at : (i : ℕ) → (i ≡ n) ⊎ (i ≡ n → ⊥) → (i < n) ⊎ (n ≤ i) → (i < first) ⊎ (first ≤ i) → slice_get (edited n (λ _. page) before) i ≡ slice_get after i
    at i (inl same) order side =
        ap (slice_get (edited n (λ _. page) before)) same
        ∙ slice_get-set_same before n page (omega (arith, length-laid_over first new old))
        ∙ sym (laid_here first more old i (length new) (omega arith) (omega (arith, one_more)) ∙ slice_get-pushed_last new page (length new) refl)
    at i (inr other) order (inl low) =
        slice_get-set_other before n i page other ∙ laid_before first new old i low ∙ sym (laid_before first more old i low)
    at i (inr other) (inl low) (inr high) =
        slice_get-set_other before n i page other ∙ laid_here first new old i (i - first) (omega arith) (omega arith)
        ∙ sym (laid_here first more old i (i - first) (omega arith) (omega (arith, one_more)) ∙ slice_get-pushed_front new page (i - first) (omega arith))
    at i (inr other) (inr past) (inr high) =
        slice_get-set_other before n i page other ∙ laid_behind first new old i (omega arith) ∙ sym (laid_behind first more old i (omega (arith, one_more)))

-- room that was made before doesn't show
pub laid_in_room : (first count : ℕ) (new old : List Held) → first + length new ≡ count → laid_over first new (extended count old) ≡ laid_over first new old
laid_in_room first count new old is =
    same_elements (laid_over first new roomy) (laid_over first new old) (λ i. at i (cases_lt i first) (cases_lt i count) (cases_lt i (length old)))
  where
    roomy : List Held
    roomy = extended count old

    at : (i : ℕ) → (i < first) ⊎ (first ≤ i) → (i < count) ⊎ (count ≤ i) → (i < length old) ⊎ (length old ≤ i) → slice_get (laid_over first new roomy) i ≡ slice_get (laid_over first new old) i
    at i (inl low) order (inl there) =
        laid_before first new roomy i low ∙ extended_there first roomy i (omega (arith, length-extended count old)) ∙ extended_there count old i there
        ∙ sym (laid_before first new old i low ∙ extended_there first old i there)
    at i (inl low) order (inr gone) =
        laid_before first new roomy i low ∙ extended_there first roomy i (omega (arith, length-extended count old)) ∙ extended_zero count old i gone (omega arith)
        ∙ sym (laid_before first new old i low ∙ extended_zero first old i gone low)
    at i (inr high) (inl low) side =
        laid_here first new roomy i (i - first) (omega arith) (omega arith) ∙ sym (laid_here first new old i (i - first) (omega arith) (omega arith))
    at i (inr high) (inr past) (inl there) =
        laid_behind first new roomy i (omega arith) ∙ extended_there count old i there ∙ sym (laid_behind first new old i (omega arith))
    at i (inr high) (inr past) (inr gone) =
        laid_behind first new roomy i (omega arith) ∙ extended_past count old i gone past ∙ sym (laid_behind first new old i (omega arith) ∙ slice_get_past old i gone)

-- How a page stands in an image once a record was applied to it.
use Rattle.std.proofs.Common.{◌≡◌, ◌<◌, ◌≤◌, ◌+◌, ◌-◌, ◌==◌, ◌&&◌, ℕ, Bool, true, false, cond, List, [], length, replicate, get_or, refl, sym, ap, ◌∙◌, arith, inl, inr, ◌⊎◌, Option, Some, None}
use Rattle.std.specs.Prelude.{slice_get, option_map}
use Rattle.std.specs.FinMap as finite
use Rattle.std.specs.FinMap.{get-insert, get-remove}
use Rattle.std.specs.Cmp.{nat_cmp_total, unsigned_tied}
use Rattle.std.specs.Ordering.{nat_cmp, eq_by_cmp}
use Rattle.std.proofs.lemmas.Bool.{cases_lt, lt-ltb, le-ltb}
use Rattle.std.proofs.lemmas.Bool.Decides.{eqb_tells}
use Rattle.std.proofs.lemmas.List.{length-set, length-append, length-replicate, get_or-replicate, get_or_append_left, get_or-append_right}
use Rattle.std.proofs.lemmas.Option.{slice_get-get_or, slice_get_past}
use Rattle.clone_page.specs.Header.{zero_page}
use Rattle.clone_mtr.specs.Effects.{effect}
use Rattle.clone_mtr.specs.declared.record.Record.{Record}
use Rattle.clone_mtr.specs.declared.record.Record.TheVariants.{Init, Write, Extend, Create, Drop}
use Rattle.clone_image.specs.Image.{Image, with_pages, with_edit, edited, extended, after_record}
use Rattle.clone_image.specs.Redone.{Standing, no_space, past_end, stands, made, stretched, standing_at, standing_in, standing_of}
use Rattle.clone_base.proofs.MapEntries.{slice_get-set_same, slice_get-set_other}

-- a page that stands is edited
abbrev pub edited_standing : (List ℕ → List ℕ) → Standing → Standing
edited_standing edit no_space = no_space
edited_standing edit past_end = past_end
edited_standing edit (stands page) = stands (edit page)

-- one record, whatever the page's LSN is
abbrev pub after_standing : ℕ → ℕ → ℕ → Standing → Record → Standing
after_standing end space number p (Init s n kind) = cond ((s == space) && (n == number)) (edited_standing (effect end (Init s n kind)) p) p
after_standing end space number p (Write s n patch) = cond ((s == space) && (n == number)) (edited_standing (effect end (Write s n patch)) p) p
after_standing end space number p (Extend s count) = cond (s == space) (stretched number count p) p
after_standing end space number p (Create s count) = cond (s == space) (made number count) p
after_standing end space number p (Drop s) = cond (s == space) no_space p

abbrev Space : Type 0
Space = Option (List (List ℕ))

chosen : (b : Bool) (x y : Space) (number : ℕ) → standing_in (cond b x y) number ≡ cond b (standing_in x number) (standing_in y number)
chosen true x y number = refl
chosen false x y number = refl

turned : (a b : ℕ) → (a == b) ≡ (b == a)
turned a b =
    elim (eqb_tells a b) [
      | inl same ↦ elim (eqb_tells b a) [ inl back ↦ same.0 ∙ sym back.0 | inr not ↦ absurd (not.1 (sym same.1)) ]
      | inr other ↦ elim (eqb_tells b a) [ inl back ↦ absurd (other.1 (sym back.1)) | inr not ↦ other.0 ∙ sym not.0 ]
    ]

tied : (s space : ℕ) → eq_by_cmp nat_cmp space s ≡ (s == space)
tied s space = unsigned_tied space s ∙ turned space s

-- a space that gets its pages
get_insert : (image : Image) (s space : ℕ) (pages : List (List ℕ)) → finite.get (finite.insert image s pages) space ≡ cond (s == space) (Some pages) (finite.get image space)
get_insert image s space pages = get-insert nat_cmp_total image s pages space ∙ ap (λ (b : Bool). cond b (Some pages) (finite.get image space)) (tied s space)

get_edit : (image : Image) (s space : ℕ) (edit : List (List ℕ) → List (List ℕ)) → finite.get (with_edit image s edit) space ≡ cond (s == space) (option_map edit (finite.get image space)) (finite.get image space)
get_edit image s space edit = at (finite.get image s) refl
  where
    Goal : Space → Type 0
    Goal o = finite.get (with_pages image s (option_map edit o)) space ≡ cond (s == space) (option_map edit (finite.get image space)) (finite.get image space)

    here : (o : Space) → finite.get image s ≡ o → finite.get (with_edit image s edit) space ≡ finite.get (with_pages image s (option_map edit o)) space
    here o is = ap (λ (x : Space). finite.get (with_pages image s (option_map edit x)) space) is

    at : (o : Space) → finite.get image s ≡ o → finite.get (with_edit image s edit) space ≡ cond (s == space) (option_map edit (finite.get image space)) (finite.get image space)
    at None is =
        elim (eqb_tells s space) [
          | inl same ↦
              let none : finite.get image space ≡ None = ap (finite.get image) (sym same.1) ∙ is in
              here None is ∙ none ∙ sym (ap (option_map edit) none) ∙ sym (ap (λ (b : Bool). cond b (option_map edit (finite.get image space)) (finite.get image space)) same.0)
          | inr other ↦ here None is ∙ sym (ap (λ (b : Bool). cond b (option_map edit (finite.get image space)) (finite.get image space)) other.0)
        ]
    at (Some pages) is =
        elim (eqb_tells s space) [
          | inl same ↦
              let some : finite.get image space ≡ Some pages = ap (finite.get image) (sym same.1) ∙ is in
              here (Some pages) is ∙ get_insert image s space (edit pages)
              ∙ ap (λ (b : Bool). cond b (Some (edit pages)) (finite.get image space)) same.0
              ∙ sym (ap (option_map edit) some) ∙ sym (ap (λ (b : Bool). cond b (option_map edit (finite.get image space)) (finite.get image space)) same.0)
          | inr other ↦
              here (Some pages) is ∙ get_insert image s space (edit pages)
              ∙ ap (λ (b : Bool). cond b (Some (edit pages)) (finite.get image space)) other.0
              ∙ sym (ap (λ (b : Bool). cond b (option_map edit (finite.get image space)) (finite.get image space)) other.0)
        ]

-- one page of a list is edited
at_edited : (n number : ℕ) (edit : List ℕ → List ℕ) (pages : List (List ℕ)) → standing_at (slice_get (edited n edit pages) number) ≡ cond (n == number) (edited_standing edit (standing_at (slice_get pages number))) (standing_at (slice_get pages number))
at_edited n number edit pages =
    elim (eqb_tells n number) [
      | inl same ↦
          ap (λ k. standing_at (slice_get (edited k edit pages) number)) same.1 ∙ own (cases_lt number (length pages))
          ∙ sym (ap (λ (b : Bool). cond b (edited_standing edit (standing_at (slice_get pages number))) (standing_at (slice_get pages number))) same.0)
      | inr other ↦
          ap standing_at (slice_get-set_other pages n number (edit (get_or pages n [])) (λ e. other.1 (sym e)))
          ∙ sym (ap (λ (b : Bool). cond b (edited_standing edit (standing_at (slice_get pages number))) (standing_at (slice_get pages number))) other.0)
    ]
  where
    own : (number < length pages) ⊎ (length pages ≤ number) → standing_at (slice_get (edited number edit pages) number) ≡ edited_standing edit (standing_at (slice_get pages number))
    own (inl low) =
        ap standing_at (slice_get-set_same pages number (edit (get_or pages number [])) low)
        ∙ sym (ap (λ o. edited_standing edit (standing_at o)) (slice_get-get_or pages number [] low))
    own (inr high) =
        ap standing_at (slice_get_past (edited number edit pages) number (omega (arith, high, length-set pages number (edit (get_or pages number [])))))
        ∙ sym (ap (λ o. edited_standing edit (standing_at o)) (slice_get_past pages number high))

in_edited : (b : Bool) (n number : ℕ) (edit : List ℕ → List ℕ) (o : Space) → standing_in (cond b (option_map (edited n edit) o) o) number ≡ cond (b && (n == number)) (edited_standing edit (standing_in o number)) (standing_in o number)
in_edited false n number edit o = refl
in_edited true n number edit None = same (n == number)
  where
    same : (b : Bool) → no_space ≡ cond b no_space no_space
    same true = refl
    same false = refl
in_edited true n number edit (Some pages) = at_edited n number edit pages

pub edited_is : (image : Image) (s n space number : ℕ) (edit : List ℕ → List ℕ) → standing_of (with_edit image s (edited n edit)) space number ≡ cond ((s == space) && (n == number)) (edited_standing edit (standing_of image space number)) (standing_of image space number)
edited_is image s n space number edit = ap (λ o. standing_in o number) (get_edit image s space (edited n edit)) ∙ in_edited (s == space) n number edit (finite.get image space)

-- zero pages
at_zeros : (count number : ℕ) → standing_at (slice_get (replicate count zero_page) number) ≡ made number count
at_zeros count number = at (cases_lt number count)
  where
    long : length (replicate count zero_page) ≡ count
    long = length-replicate count zero_page

    at : (number < count) ⊎ (count ≤ number) → standing_at (slice_get (replicate count zero_page) number) ≡ made number count
    at (inl low) =
        ap standing_at (slice_get-get_or (replicate count zero_page) number zero_page (omega (arith, low, long)) ∙ ap (λ p. Some p) (get_or-replicate count number zero_page zero_page low))
        ∙ sym (ap (λ (b : Bool). cond b (stands zero_page) past_end) (lt-ltb number count low))
    at (inr high) =
        ap standing_at (slice_get_past (replicate count zero_page) number (omega (arith, high, long)))
        ∙ sym (ap (λ (b : Bool). cond b (stands zero_page) past_end) (le-ltb number count high))

in_extended : (count number : ℕ) (o : Space) → standing_in (option_map (extended count) o) number ≡ stretched number count (standing_in o number)
in_extended count number None = refl
in_extended count number (Some pages) = at (cases_lt number (length pages))
  where
    more : List (List ℕ)
    more = replicate (count - length pages) zero_page

    long : length (extended count pages) ≡ length pages + (count - length pages)
    long = length-append pages more ∙ ap (λ n. length pages + n) (length-replicate (count - length pages) zero_page)

    new : length pages ≤ number → (number < count) ⊎ (count ≤ number) → standing_at (slice_get (extended count pages) number) ≡ made number count
    new past (inl low) =
        ap standing_at (slice_get-get_or (extended count pages) number zero_page (omega (arith, past, low, long))
        ∙ ap (λ p. Some p) (get_or-append_right pages more (length pages) number zero_page refl past ∙ get_or-replicate (count - length pages) (number - length pages) zero_page zero_page (omega (arith, past, low))))
        ∙ sym (ap (λ (b : Bool). cond b (stands zero_page) past_end) (lt-ltb number count low))
    new past (inr high) =
        ap standing_at (slice_get_past (extended count pages) number (omega (arith, past, high, long)))
        ∙ sym (ap (λ (b : Bool). cond b (stands zero_page) past_end) (le-ltb number count high))

    at : (number < length pages) ⊎ (length pages ≤ number) → standing_at (slice_get (extended count pages) number) ≡ stretched number count (standing_at (slice_get pages number))
    at (inl old) =
        ap standing_at (slice_get-get_or (extended count pages) number [] (omega (arith, old, long)) ∙ ap (λ p. Some p) (get_or_append_left pages more [] number old))
        ∙ sym (ap (λ o. stretched number count (standing_at o)) (slice_get-get_or pages number [] old))
    at (inr past) = new past (cases_lt number count) ∙ sym (ap (λ o. stretched number count (standing_at o)) (slice_get_past pages number past))

pub after_record-standing : (end : ℕ) (image : Image) (r : Record) (space number : ℕ) → standing_of (after_record end image r) space number ≡ after_standing end space number (standing_of image space number) r
after_record-standing end image (Init s n kind) space number = edited_is image s n space number (effect end (Init s n kind))
after_record-standing end image (Write s n patch) space number = edited_is image s n space number (effect end (Write s n patch))
after_record-standing end image (Extend s count) space number =
    ap (λ o. standing_in o number) (get_edit image s space (extended count)) ∙ chosen (s == space) (option_map (extended count) (finite.get image space)) (finite.get image space) number
    ∙ ap (λ x. cond (s == space) x (standing_of image space number)) (in_extended count number (finite.get image space))
after_record-standing end image (Create s count) space number =
    ap (λ o. standing_in o number) (get_insert image s space (replicate count zero_page)) ∙ chosen (s == space) (Some (replicate count zero_page)) (finite.get image space) number
    ∙ ap (λ x. cond (s == space) x (standing_of image space number)) (at_zeros count number)
after_record-standing end image (Drop s) space number =
    ap (λ o. standing_in o number) (get-remove nat_cmp_total image s space ∙ ap (λ (b : Bool). cond b None (finite.get image space)) (tied s space))
    ∙ chosen (s == space) None (finite.get image space) number

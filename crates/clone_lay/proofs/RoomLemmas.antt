-- Room that is made for a page doesn't show once the page is laid.
use Rattle.std.proofs.Common.{◌≡◌, ◌≢◌, ◌==◌, ◌&&◌, ◌||◌, ◌+◌, ◌<◌, ◌⊎◌, ℕ, Bool, true, false, cond, List, [], ◌∷◌, None, Some, IsSome, is_some, refl, sym, ap, ◌∙◌, subst, arith, inl, inr, slice_get}
use Rattle.std.specs.Prelude.{nat_lt, unwrap_or, option_and_then}
use Rattle.std.specs.Option.{option_or}
use Rattle.std.specs.declared.option.Option.{Option}
use Rattle.std.specs.FinMap as finite
use Rattle.std.specs.FinMap.{same_map}
use Rattle.std.specs.Cmp.{nat_cmp_total}
use Rattle.std.proofs.lemmas.Bool.{cases_eq, cases_lt, eqb-true, lt-ltb, ltb-true}
use Rattle.std.proofs.lemmas.Map.Lookups.{exact_unsigned}
use Rattle.clone_outside.specs.Disk.{DiskImage, extended, page_of, pages_in, whole}
use Rattle.clone_outside.specs.declared.disk.Held.{Held}
use Rattle.clone_lay.specs.Laid.{PageAt, bytes_at, laid_over, laid_page, laid_pages, last_bytes, reaches_past, standing, with_room}
use Rattle.clone_lay.proofs.PageLemmas.{page_in_pages, pages_mark, pages_place, room_place, standing_twice}
use Rattle.clone_lay.proofs.IndexLemmas.{same_elements}
use Rattle.clone_outside.proofs.SpaceLemmas.{get_here, get_there}

-- what a space has once pages were laid follows from what it had
laid_alike : (pages : List PageAt) (m n : DiskImage) (q : ℕ) → finite.get m.spaces q ≡ finite.get n.spaces q → finite.get (laid_pages pages m).spaces q ≡ finite.get (laid_pages pages n).spaces q
laid_alike [] m n q alike = alike
laid_alike (page ∷ pages) m n q alike =
    laid_alike pages (laid_page page.space page.number page.bytes m) (laid_page page.space page.number page.bytes n) q (at (cases_eq q page.space))
  where
    after : DiskImage → Option (List Held)
    after x = finite.get (laid_page page.space page.number page.bytes x).spaces q

    given : DiskImage → List Held
    given x = laid_over page.number (whole page.bytes ∷ []) (pages_in x page.space)

    at : (q ≡ page.space) ⊎ (q ≢ page.space) → after m ≡ after n
    at (inl same) =
        let was : finite.get m.spaces page.space ≡ finite.get n.spaces page.space = subst (λ (s : ℕ). finite.get m.spaces s ≡ finite.get n.spaces s) same alike in
        ap (finite.get (laid_page page.space page.number page.bytes m).spaces) same ∙ get_here m page.space (given m)
        ∙ ap (λ (o : Option (List Held)). Some (laid_over page.number (whole page.bytes ∷ []) (unwrap_or o []))) was
        ∙ sym (ap (finite.get (laid_page page.space page.number page.bytes n).spaces) same ∙ get_here n page.space (given n))
    at (inr other) = get_there m page.space q (given m) other ∙ alike ∙ sym (get_there n page.space q (given n) other)

module _ (space number : ℕ) where
  -- a page that was laid is behind each place before it
  reached : (pages : List PageAt) (k : ℕ) → IsSome (last_bytes space number pages) → k < number → reaches_past space k pages ≡ true
  reached [] k some low = absurd (cc)
  reached (page ∷ pages) k some low =
      at (last_bytes space number pages) refl (λ behind. reached pages k behind low) some
    where
      later : (b : Bool) → reaches_past space k pages ≡ true → (b || reaches_past space k pages) ≡ true
      later true is = refl
      later false is = is

      both : (x y : Bool) → IsSome (cond (x && y) (Some page.bytes) None) → (x ≡ true) × (y ≡ true)
      both true true some = (refl, refl)
      both true false some = absurd (cc)
      both false y some = absurd (cc)

      at : (o : Option (List ℕ)) → last_bytes space number pages ≡ o → (IsSome (last_bytes space number pages) → reaches_past space k pages ≡ true) → IsSome (option_or o (bytes_at space number page)) → reaches_past space k (page ∷ pages) ≡ true
      at (Some bytes) is rest some = later (page.space == space && nat_lt k page.number) (rest (ap is_some is))
      at None is rest some =
          let place = both (page.space == space) (page.number == number) some in
          let same : page.number ≡ number = eqb-true page.number number place.1 in
          ap (λ (b : Bool). (b && nat_lt k page.number) || reaches_past space k pages) place.0
          ∙ ap (λ (b : Bool). b || reaches_past space k pages) (lt-ltb k page.number (omega (arith, low, same)))

  module _ (pages : List PageAt) (laid : IsSome (last_bytes space number pages)) where
    -- what room adds at a place, the pages add there too
    added : (q k : ℕ) → last_bytes q k pages ≡ None → (space == q && nat_lt k (number + 1)) ≡ true → reaches_past q k pages ≡ true
    added q k none is = at (space == q) (nat_lt k (number + 1)) refl refl is
      where
        at : (x y : Bool) → (space == q) ≡ x → nat_lt k (number + 1) ≡ y → (x && y) ≡ true → reaches_past q k pages ≡ true
        at false y e f never = absurd (cc)
        at true false e f never = absurd (cc)
        at true true e f both =
            let same : space ≡ q = eqb-true space q e in
            let below : k < number + 1 = ltb-true k (number + 1) f in
            elim (cases_lt k number) [
              | inl low ↦ ap (λ (s : ℕ). reaches_past s k pages) (sym same) ∙ reached pages k laid low
              | inr high ↦ absurd (
                  let last : k ≡ number = omega (arith, below, high) in
                  let nothing : last_bytes space number pages ≡ None = ap (λ (s : ℕ). last_bytes s number pages) same ∙ ap (λ (n : ℕ). last_bytes q n pages) (sym last) ∙ none in
                  let gone = sym (ap is_some nothing) ∙ laid in
                  cc)
            ]

    place_unseen : (m : DiskImage) (q k : ℕ) → page_of (laid_pages pages (with_room space (number + 1) m)) q k ≡ page_of (laid_pages pages m) q k
    place_unseen m q k =
        pages_place (with_room space (number + 1) m) pages q k
        ∙ ap (λ (o : Option Held). standing (last_bytes q k pages) o (reaches_past q k pages)) (room_place m space (number + 1) q k)
        ∙ standing_twice None (last_bytes q k pages) (page_of m q k) (space == q && nat_lt k (number + 1)) (reaches_past q k pages)
        ∙ at (last_bytes q k pages) (space == q && nat_lt k (number + 1)) refl refl
        ∙ sym (pages_place m pages q k)
      where
        past : Bool
        past = reaches_past q k pages

        at : (o : Option (List ℕ)) (x : Bool) → last_bytes q k pages ≡ o → (space == q && nat_lt k (number + 1)) ≡ x → standing (option_or o None) (page_of m q k) (x || past) ≡ standing o (page_of m q k) past
        at (Some bytes) x e f = refl
        at None false e f = refl
        at None true e f = ap (standing None (page_of m q k)) (sym (added q k e f))

    -- the space of a page that was laid is there
    space_there : (m : DiskImage) → finite.get (laid_pages pages m).spaces space ≡ Some (pages_in (laid_pages pages m) space)
    space_there m = at (finite.get (laid_pages pages m).spaces space) (last_bytes space number pages) refl refl
      where
        at : (o : Option (List Held)) (b : Option (List ℕ)) → finite.get (laid_pages pages m).spaces space ≡ o → last_bytes space number pages ≡ b → o ≡ Some (unwrap_or o [])
        at (Some given) b e f = refl
        at None None e f = absurd (let gone = sym (ap is_some f) ∙ laid in cc)
        at None (Some bytes) e f =
            absurd (let found = sym (ap (option_and_then (λ ps. slice_get ps number)) e) ∙ pages_place m pages space number ∙ ap (λ (x : Option (List ℕ)). standing x (page_of m space number) (reaches_past space number pages)) f in cc)

    pub room_unseen : (m : DiskImage) → laid_pages pages (with_room space (number + 1) m) ≡ laid_pages pages m
    room_unseen m = λ i. record { spaces = spaces i; mark = marks i }
      where
        roomy : DiskImage
        roomy = with_room space (number + 1) m

        marks : (laid_pages pages roomy).mark ≡ (laid_pages pages m).mark
        marks = pages_mark roomy pages ∙ sym (pages_mark m pages)

        own : pages_in (laid_pages pages roomy) space ≡ pages_in (laid_pages pages m) space
        own = same_elements _ _ (λ k. sym (page_in_pages (finite.get (laid_pages pages roomy).spaces space) k) ∙ place_unseen m space k ∙ page_in_pages (finite.get (laid_pages pages m).spaces space) k)

        at : (q : ℕ) → (q ≡ space) ⊎ (q ≢ space) → finite.get (laid_pages pages roomy).spaces q ≡ finite.get (laid_pages pages m).spaces q
        at q (inl same) =
            ap (finite.get (laid_pages pages roomy).spaces) same ∙ space_there roomy ∙ ap (λ (ps : List Held). Some ps) own
            ∙ sym (ap (finite.get (laid_pages pages m).spaces) same ∙ space_there m)
        at q (inr other) = laid_alike pages roomy m q (get_there m space q (extended (number + 1) (pages_in m space)) other)

        spaces : (laid_pages pages roomy).spaces ≡ (laid_pages pages m).spaces
        spaces = same_map nat_cmp_total exact_unsigned _ _ (λ q. at q (cases_eq q space))

-- The files and the pages of an engine whose disk tells what it holds are some that may be copied.
use Rattle.std.proofs.Common.{ℕ, ◌≡◌, ◌≢◌, ◌∙◌, ◌⊎◌, ◌<◌, ◌≤◌, List, [], ◌∷◌, Option, None, Some, IsSome, IsTrue, length, refl, sym, ap, subst, inl, inr, arith}
use Rattle.std.specs.FinMap as finite
use Rattle.std.specs.List.{All, AllByRecursion}
use Rattle.std.proofs.lemmas.Bool.{cases_eq}
use Rattle.std.proofs.lemmas.List.Elements.{recursion_from_All}
use Rattle.clone_outside.specs.Disk.{DiskImage}
use Rattle.clone_image.specs.Image.{page_count, page_of}
use Rattle.clone_model.specs.declared.line.TheConstants.{MOST_PAGES}
use Rattle.clone_contents.specs.Records.{system_size}
use Rattle.clone_track.specs.TrackedPages.{Pages, listed}
use Rattle.clone_buffer.specs.Buffered.{image_of}
use Rattle.clone_buffer.specs.OnePage.{no_copies}
use Rattle.clone_flush.specs.Flights.{IsFlown}
use Rattle.clone_trx.specs.Sound.{IsKept}
use Rattle.clone_engine.specs.Donor.{ArePages, IsPageOf, NotesPages, known_files}
use Rattle.clone_engine.specs.Engine.{Engine, IsEngine}
use Rattle.clone_engine.proofs.EngineLemmas.{IsWithin, is_within}
use Rattle.clone_engine.proofs.TakenPages.{all_entries, has_entry, listed_pages}
use Rattle.clone_engine.proofs.ToldLemmas.{of_told}
use Rattle.clone_recipient.specs.declared.limits.TheConstants.{MOST_COPIED, MOST_SPACE}
use Rattle.clone_paired.specs.Blocks.{AscendFrom}
use Rattle.clone_paired.specs.Order.{SpacesAscend}
use Rattle.clone_paired.proofs.DonorPremisesOrder.{IsOf, MayBe, MayStand, few_pages, is_of, pages_ascend, spaces_ascend}

value_of : (a b : ℕ) → Some a ≡ Some b → a ≡ b
value_of a b is = cc (is)

-- a file is one of those that are listed
file_of : (o : Option ℕ) → IsSome o → (pages : ℕ) × (o ≡ Some pages)
file_of None some = absurd (cc (some))
file_of (Some pages) some = (pages, refl)

module _ (e : Engine) (is : IsEngine e) (m : DiskImage) (told : e.disk.told ≡ Some m) where
  right : IsTrue e.buffer.right
  right = (of_told (IsFlown e.buffer e.flights no_copies) e.disk.told m told is.stands).kept.right

  kept : IsKept e.donor (image_of e.buffer)
  kept = is.keeps.kept right

  space_most : (space : ℕ) → IsSome (finite.get e.flights.files space) → space ≤ MOST_SPACE
  space_most space known = by (cases_eq space 0)
    where
      table : (o : Option ℕ) → finite.get e.donor.tables space ≡ o → IsSome o → space ≤ MOST_SPACE
      table None is some = absurd (cc (some))
      table (Some count) is some = let most = (kept.sound.tables.sizes space count is).2 in omega (arith, most)

      by : (space ≡ 0) ⊎ (space ≢ 0) → space ≤ MOST_SPACE
      by (inl zero) = omega (arith, zero)
      by (inr other) = table (finite.get e.donor.tables space) refl (is.spaces.others space other known)

  page_known : (space number : ℕ) → IsPageOf e space number → IsSome (finite.get e.flights.files space) × (number < MOST_PAGES)
  page_known space number there = by (page_of (image_of e.buffer) space number) refl there
    where
      table : IsWithin (image_of e.buffer) space number → space ≢ 0 → (o : Option ℕ) → finite.get e.donor.tables space ≡ o → IsSome (finite.get e.flights.files space) × (number < MOST_PAGES)
      table within other None none = absurd (let no = sym (kept.sound.tables.spaces space other none) ∙ within.size in cc (no))
      table within other (Some count) some =
          let size = (kept.sound.tables.sizes space count some).0 in
          let same = value_of within.count size.pages (sym within.size ∙ size.size) in
          (is.spaces.tables space (subst IsSome (sym some) refl), omega (arith, within.low, same, size.most))

      of_space : IsWithin (image_of e.buffer) space number → (space ≡ 0) ⊎ (space ≢ 0) → IsSome (finite.get e.flights.files space) × (number < MOST_PAGES)
      of_space within (inl zero) =
          let same = value_of within.count system_size (sym within.size ∙ ap (page_count (image_of e.buffer)) zero ∙ kept.formed.size) in
          (subst (λ (s : ℕ). IsSome (finite.get e.flights.files s)) (sym zero) is.spaces.system, omega (arith, within.low, same))
      of_space within (inr other) = table within other (finite.get e.donor.tables space) refl

      by : (o : Option (List ℕ)) → page_of (image_of e.buffer) space number ≡ o → IsSome o → IsSome (finite.get e.flights.files space) × (number < MOST_PAGES)
      by None none some = absurd (cc (some))
      by (Some bytes) found some = of_space (is_within (image_of e.buffer) space number bytes found) (cases_eq space 0)

  -- THE FILES ascend.
  pub files_ascend : SpacesAscend 0 (known_files e)
  files_ascend = spaces_ascend (known_files e) (finite.entries_sorted e.flights.files) (recursion_from_All MayBe (known_files e) all)
    where
      all : All MayBe (known_files e)
      all = all_entries (λ space pages. MayBe (space, pages)) e.flights.files (λ space pages known. let size = is.spaces.sizes space pages known in (space_most space (subst IsSome (sym known) refl), size.0, size.1))

  -- THE PAGES that are noted ascend, and there are no more than 63 spaces have.
  of_known : (pages : List (ℕ × ℕ)) → ArePages e pages → AllByRecursion (λ q. IsOf q.0 (known_files e)) pages
  of_known [] all = tt
  of_known (p ∷ pages) all =
      let file = file_of (finite.get e.flights.files p.0) (page_known p.0 p.1 all.0).0 in
      (is_of (known_files e) (p.0, file.0) (has_entry e.flights.files p.0 file.0 file.1), of_known pages all.1)

  may_stand : (pages : List (ℕ × ℕ)) → ArePages e pages → AllByRecursion MayStand pages
  may_stand [] all = tt
  may_stand (p ∷ pages) all =
      let known = page_known p.0 p.1 all.0 in
      ((space_most p.0 known.0, known.1), may_stand pages all.1)

  few : length (known_files e) ≤ 63
  few = let count = is.spaces.count in let most = kept.sound.tables.few in omega (arith, count, most, finite.len-entries e.flights.files)

  noted_ascend : (pages : Option Pages) → ArePages e (listed pages) → AscendFrom 0 (listed pages)
  noted_ascend None all = tt
  noted_ascend (Some set) all = pages_ascend (finite.entries set) (finite.entries_sorted set) (may_stand (listed (Some set)) all)

  pub pages_listed : (pages : Option Pages) → NotesPages e pages → AscendFrom 0 (listed pages) × (length (listed pages) ≤ MOST_COPIED)
  pages_listed pages notes =
      let all = listed_pages e pages notes in
      let ascend = noted_ascend pages all in
      let most = few_pages (known_files e) (listed pages) ascend (of_known (listed pages) all) in
      (ascend, omega (arith, most, few))

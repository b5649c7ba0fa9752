-- A donor's pages are some that a recipient's disk may get, and so are its files.
use Rattle.std.proofs.Common.{◌≡◌, ◌≢◌, ◌<◌, ◌≤◌, ◌⊎◌, ◌∷◌, ◌∙◌, [], ℕ, List, Option, None, Some, IsSome, length, option_map, is_some, refl, ap, arith, inl, inr}
use Rattle.std.specs.Prelude.{not, option_and_then, slice_get}
use Rattle.std.specs.FinMap as finite
use Rattle.std.specs.List.{AllByRecursion}
use Rattle.std.proofs.lemmas.Bool.{cases_eq, cases_lt}
use Rattle.std.proofs.lemmas.List.Elements.{All-filter, recursion_from_All}
use Rattle.std.proofs.lemmas.Option.{slice_get_within}
use Rattle.clone_outside.specs.Disk.{DiskImage}
use Rattle.clone_contents.specs.Records.{system_size}
use Rattle.clone_image.specs.Image.{page_count}
use Rattle.clone_overlay.specs.Images.{redo_space}
use Rattle.clone_buffer.specs.Buffered.{image_of}
use Rattle.clone_buffer.specs.OnePage.{no_copies}
use Rattle.clone_flush.specs.Flights.{IsFlown}
use Rattle.clone_trx.specs.Sound.{IsKept}
use Rattle.clone_page.specs.declared.pages.PageAt.{PageAt}
use Rattle.clone_session.specs.Effects.{created_since, is_listed}
use Rattle.clone_engine.specs.Copying.{places_of}
use Rattle.clone_engine.specs.Donor.{IsPageOf, known_files}
use Rattle.clone_engine.specs.Engine.{Engine, IsEngine, IsInFile}
use Rattle.clone_engine.proofs.BlockLemmas.{OfImage}
use Rattle.clone_engine.proofs.TakenPages.{all_entries}
use Rattle.clone_engine.proofs.ToldLemmas.{of_told}
use Rattle.clone_standing.specs.Latest.{IsLow, IsLowRoom}
use Rattle.clone_sides.specs.Answered.{laid_at}

low_page : (pages : List (List ℕ)) (n : ℕ) (o : Option (List ℕ)) → slice_get pages n ≡ o → IsSome o → n < length pages
low_page pages n None is there = absurd (cc)
low_page pages n (Some bytes) is there = slice_get_within pages n bytes is

low_in : (o : Option (List (List ℕ))) (n count : ℕ) → IsSome (option_and_then (λ (pages : List (List ℕ)). slice_get pages n) o) → option_map length o ≡ Some count → n < count
low_in None n count there size = absurd (cc)
low_in (Some pages) n count there size =
    let long : length pages ≡ count = cc in
    omega (arith, long, low_page pages n (slice_get pages n) refl there)

no_count : (o : Option (List (List ℕ))) (n : ℕ) → IsSome (option_and_then (λ (pages : List (List ℕ)). slice_get pages n) o) → option_map length o ≡ None → ⊥
no_count None n there none = absurd (cc)
no_count (Some pages) n there none = absurd (cc)

module _ (e : Engine) (kept : IsKept e.donor (image_of e.buffer)) where
  table_low : (table : ℕ) (o : Option ℕ) → finite.get e.donor.tables table ≡ o → IsSome o → table < redo_space
  table_low table None none there = absurd (cc)
  table_low table (Some count) some there = let range = kept.sound.tables.sizes table count some in omega (arith, range.2)

  -- A PAGE OF THE IMAGE
  module _ (space number : ℕ) (own : IsPageOf e space number) where
    space_low : space < redo_space
    space_low = by (cases_eq space 0)
      where
        of_table : space ≢ 0 → (o : Option ℕ) → finite.get e.donor.tables space ≡ o → space < redo_space
        of_table other None none = absurd (no_count (finite.get (image_of e.buffer) space) number own (kept.sound.tables.spaces space other none))
        of_table other (Some count) some = table_low space (Some count) some refl

        by : (space ≡ 0) ⊎ (space ≢ 0) → space < redo_space
        by (inl system) = omega (arith, system)
        by (inr other) = of_table other (finite.get e.donor.tables space) refl

    number_low : space ≡ 0 → number < system_size
    number_low system = low_in (finite.get (image_of e.buffer) space) number system_size own (ap (page_count (image_of e.buffer)) system ∙ kept.formed.size)

  pub low_pages : (read : List PageAt) → AllByRecursion (OfImage e) (places_of read) → AllByRecursion IsLow (laid_at read)
  low_pages [] own = tt
  low_pages (p ∷ ps) own = ((space_low p.space p.number own.0, number_low p.space p.number own.0), low_pages ps own.1)

  -- THE FILES
  module _ (engine : IsEngine e) (within : (space number : ℕ) → IsInFile e space number → IsPageOf e space number) where
    file_low : (s pages : ℕ) → finite.get e.flights.files s ≡ Some pages → s < redo_space
    file_low s pages known = by (cases_eq s 0)
      where
        by : (s ≡ 0) ⊎ (s ≢ 0) → s < redo_space
        by (inl system) = omega (arith, system)
        by (inr other) = table_low s (finite.get e.donor.tables s) refl (engine.spaces.others s other (ap is_some known))

    file_short : (s pages : ℕ) → finite.get e.flights.files s ≡ Some pages → s ≡ 0 → pages ≤ system_size
    file_short s pages known system = by (cases_lt system_size pages)
      where
        by : (system_size < pages) ⊎ (pages ≤ system_size) → pages ≤ system_size
        by (inr few) = few
        by (inl more) = absurd (omega (arith, number_low s system_size (within s system_size (record { pages = pages; file = known; within = more })) system))

    files_low : (spaces : List (ℕ × ℕ)) → AllByRecursion IsLowRoom (created_since spaces (known_files e))
    files_low spaces =
        recursion_from_All IsLowRoom (created_since spaces (known_files e)) (All-filter (λ file. not (is_listed file.0 spaces)) IsLowRoom (known_files e)
        (all_entries (λ s pages. (s < redo_space) × (s ≡ 0 → pages ≤ system_size)) e.flights.files (λ s pages known. (file_low s pages known, file_short s pages known))))

-- where the disk tells what it holds
module _ (e : Engine) (engine : IsEngine e) (m : DiskImage) (told : e.disk.told ≡ Some m) where
  pub kept_there : IsKept e.donor (image_of e.buffer)
  kept_there = engine.keeps.kept (of_told (IsFlown e.buffer e.flights no_copies) e.disk.told m told engine.stands).kept.right

  pub within_there : (space number : ℕ) → IsInFile e space number → IsPageOf e space number
  within_there = of_told (λ _. (space number : ℕ) → IsInFile e space number → IsPageOf e space number) e.disk.told m told engine.within

  -- spaces that were made since these were listed
  pub made_low : (spaces : List (ℕ × ℕ)) → AllByRecursion IsLowRoom (created_since spaces (known_files e))
  made_low spaces = files_low e kept_there engine within_there spaces

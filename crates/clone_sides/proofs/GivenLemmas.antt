-- What a block that a donor gave says.
use Rattle.std.proofs.Common.{◌≡◌, ◌-◌, ◌∷◌, [], ◌∙◌, ◌==◌, ◌&&◌, inl, ℕ, List, Option, Some, get_or, length, map, refl, sym, ap, subst, arith}
use Rattle.std.specs.Prelude.{take, drop}
use Rattle.std.specs.List.{All, AllByRecursion, Contains, flat_map}
use Rattle.std.proofs.lemmas.List.{length-drop, length-take-le}
use Rattle.std.proofs.lemmas.List.Elements.{All-contains, All-from_recursion, All-nil, All-weaker, recursion_from_All}
use Rattle.clone_outside.specs.Disk.{DiskImage}
use Rattle.clone_archive.specs.Archived.{Archived}
use Rattle.clone_buffer.specs.OnePage.{Copies}
use Rattle.clone_image.specs.Redone.{stands}
use Rattle.clone_chunk.specs.Stages.{stage_number}
use Rattle.clone_lay.specs.Laid as lay
use Rattle.clone_page.specs.declared.pages.PageAt.{PageAt}
use Rattle.clone_snapshot.specs.StageLists as lists
use Rattle.clone_snapshot.specs.StageLists.{PagePart, RedoPart, StageList, all_pages, block_of, pages_of_space}
use Rattle.clone_snapshot.specs.declared.block.RedoBlock.{RedoBlock}
use Rattle.clone_snapshot.proofs.EachBlock.{block_sized, pages_listed, redo_alone}
use Rattle.clone_session.specs.CloneCalls.{IsInArchive, IsThere, part_of, redo_in}
use Rattle.clone_session.specs.declared.copying.BlockWork.{BlockWork}
use Rattle.clone_session.specs.declared.copying.BlockWork.TheVariants as work
use Rattle.clone_calls.specs.declared.block.Block.{Block}
use Rattle.clone_calls.specs.declared.block.Block.TheVariants as block
use Rattle.clone_engine.specs.Engine.{Engine, IsEngine}
use Rattle.clone_engine.specs.Copies.{PageRead, with_page, with_pages}
use Rattle.clone_engine.specs.Copying.{IsBlock, places_of, taken_from}
use Rattle.clone_engine.specs.Donor.{ArePages, CopiesOwn, Donor, IsDonor}
use Rattle.clone_engine.specs.Taken.{IsTakenIn, Taken}
use Rattle.clone_engine.proofs.BlockLemmas.{InFile, OfImage, files_own}
use Rattle.clone_engine.proofs.ToldLemmas.{of_told}
use Rattle.clone_sides.specs.Answered.{laid_at, said_of}
use Rattle.clone_sides.specs.Facts.{FactOf, FactPages, FactRedo, InLists, IsEarly, IsLate, IsPast, Keeps, Lists, places}
use Rattle.clone_sides.proofs.CountLemmas.{MayCount, files_may, page_counts, page_may, pages_keep, pages_may}
use Rattle.clone_sides.proofs.LowLemmas.{kept_there, low_pages, within_there}

module _ (e : Engine) (engine : IsEngine e) (m : DiskImage) (told : e.disk.told ≡ Some m) where
  listed_own : (l : StageList) → CopiesOwn e l → All (OfImage e) (all_pages l)
  listed_own (lists.Files spaces) own = All-weaker (InFile e) (OfImage e) (λ page is. within_there e engine m told page.0 page.1 is) (flat_map pages_of_space spaces) (files_own e spaces own)
  listed_own (lists.Pages list) own = All-from_recursion (OfImage e) list (of_told (λ _. ArePages e list) e.disk.told m told own)
  listed_own (lists.Redo start end) own = All-nil (OfImage e)
  listed_own lists.Nothing own = All-nil (OfImage e)

abbrev read_of : PageAt → PageRead
read_of p = ((p.space, p.number), p.page)

given_late : (read : List PageAt) (copies : Copies) → ((s n : ℕ) → MayCount (copies s n)) → AllByRecursion (IsLate (with_pages (map read_of read) copies)) (laid_at read)
given_late [] copies may = tt
given_late (p ∷ ps) copies may = (
  pages_keep (map read_of ps) (with_page (read_of p) copies) p.space p.number (stands p.page) (page_counts (read_of p) copies (may p.space p.number)),
  given_late ps (with_page (read_of p) copies) (λ s n. page_may ((s == p.space) && (n == p.number)) (copies s n) p.page (may s n)),
)

late_early : (l : Lists) (copies : Copies) (pages : List lay.PageAt) → AllByRecursion (IsLate copies) pages → AllByRecursion (IsEarly l copies) pages
late_early l copies [] late = tt
late_early l copies (p ∷ ps) late = (inl late.0, late_early l copies ps late.1)

same_places : (read : List PageAt) → places (laid_at read) ≡ places_of read
same_places [] = refl
same_places (p ∷ ps) = ap (λ (rest : List (ℕ × ℕ)). (p.space, p.number) ∷ rest) (same_places ps)

-- the list of a stage of this number
files_at : (list : StageList) → stage_number (lists.stage_of list) ≡ 1 → (spaces : List (ℕ × ℕ)) × (list ≡ lists.Files spaces)
files_at (lists.Files spaces) one = (spaces, refl)
files_at (lists.Pages pages) one = absurd (omega (arith, one))
files_at (lists.Redo start end) one = absurd (omega (arith, one))
files_at lists.Nothing one = absurd (omega (arith, one))

pages_at : (list : StageList) → stage_number (lists.stage_of list) ≡ 2 → (pages : List (ℕ × ℕ)) × (list ≡ lists.Pages pages)
pages_at (lists.Pages pages) two = (pages, refl)
pages_at (lists.Files spaces) two = absurd (omega (arith, two))
pages_at (lists.Redo start end) two = absurd (omega (arith, two))
pages_at lists.Nothing two = absurd (omega (arith, two))

-- a block of pages is of a list that has pages
pub some_pages : (list : StageList) (chunk number : ℕ) (pages : List (ℕ × ℕ)) → block_of list chunk number ≡ Some (PagePart pages) → all_pages list ≡ [] → ⊥
some_pages list chunk number pages made none =
    let sized = block_sized list chunk number (PagePart pages) made in
    let has = pages_listed list chunk number pages made 0 (0, 0) sized.0 in
    let no = subst (λ (ps : List (ℕ × ℕ)). Contains ps (get_or pages 0 (0, 0))) none has in
    omega (arith, no.1)

-- A BLOCK WAS GIVEN
module _ (v t : Donor) (taken : Taken) (l : Lists) (list : StageList) (created : List (ℕ × ℕ)) (number_of : ℕ) (e : Engine) (in_lists : InLists list created e l) (keeps : Keeps number_of v.cloning list) (donor : IsDonor v) (own : CopiesOwn v.engine list) (taken_in : IsTakenIn v.cloning v.engine.buffer.log taken list)
    (m : DiskImage) (told : v.engine.disk.told ≡ Some m) (archive : t.cloning.archive ≡ v.cloning.archive) (stage chunk number : ℕ) (at : stage ≡ stage_number (lists.stage_of list)) where
  may_count : (all_pages list ≡ [] → ⊥) → (x y : ℕ) → MayCount (taken.copies x y)
  may_count some = by list some keeps taken_in
    where
      by : (list : StageList) → (all_pages list ≡ [] → ⊥) → Keeps number_of v.cloning list → IsTakenIn v.cloning v.engine.buffer.log taken list → (x y : ℕ) → MayCount (taken.copies x y)
      by (lists.Files spaces) some keeps are = files_may v.cloning.tracking.pages taken.copies are
      by (lists.Pages pages) some (a, there, unended) are = pages_may a.start taken.copies (are a there)
      by (lists.Redo start end) some keeps are = absurd (some refl)
      by lists.Nothing some keeps are = absurd (some refl)

  abbrev New : Block → Taken
  New read = taken_from read taken

  says_pages : (pages : List (ℕ × ℕ)) (read : List PageAt) → block_of list chunk number ≡ Some (PagePart pages) → places_of read ≡ pages → FactPages list (New (block.Pages read)).copies l stage chunk number (laid_at read)
  says_pages pages read made places_are = record {
    low = low_pages v.engine (kept_there v.engine donor.engine m told) read
        (recursion_from_All (OfImage v.engine) (places_of read) (subst (All (OfImage v.engine)) (sym places_are) of_image));
    in_files = λ one. (let (spaces, is) = files_at list (sym at ∙ one) in
        let files : spaces ≡ l.files = (subst (λ (x : StageList). InLists x created e l) is in_lists).0 in
        (ap (λ (x : List (ℕ × ℕ)). block_of (lists.Files x) chunk number) (sym files) ∙ sym (ap (λ (x : StageList). block_of x chunk number) is) ∙ made_so, late_early l (New (block.Pages read)).copies (laid_at read) late));
    in_pages = λ two. (let (listed, is) = pages_at list (sym at ∙ two) in
        let are : listed ≡ l.pages = (subst (λ (x : StageList). InLists x created e l) is in_lists).0 in
        (subst IsPast (sym is) tt, ap (λ (x : List (ℕ × ℕ)). block_of (lists.Pages x) chunk number) (sym are) ∙ sym (ap (λ (x : StageList). block_of x chunk number) is) ∙ made_so, late));
  }
    where
      of_image : All (OfImage v.engine) pages
      of_image = All-weaker (Contains (all_pages list)) (OfImage v.engine) (λ page has. All-contains (OfImage v.engine) (all_pages list) page (listed_own v.engine donor.engine m told list own) has) pages (pages_listed list chunk number pages made)

      made_so : block_of list chunk number ≡ Some (PagePart (places (laid_at read)))
      made_so = made ∙ ap (λ (ps : List (ℕ × ℕ)). Some (PagePart ps)) (sym (same_places read ∙ places_are))

      late : AllByRecursion (IsLate (New (block.Pages read)).copies) (laid_at read)
      late = given_late read taken.copies (may_count (some_pages list chunk number pages made))

  says_redo : (redo : RedoBlock) (from : ℕ) (bytes : List ℕ) → block_of list chunk number ≡ Some (RedoPart redo.from redo.length) → IsInArchive v.cloning.archive redo → from ≡ redo.from → bytes ≡ redo_in v.cloning.archive redo → FactRedo t.cloning chunk number from bytes
  says_redo redo from bytes made there from_is bytes_are =
      let (start, end, is) = redo_alone list chunk number redo.from redo.length made in
      let range = subst (Keeps number_of v.cloning) is keeps in
      let a = range.archive in
      let inside : IsInArchive (Some a) redo = subst (λ (o : Option Archived). IsInArchive o redo) range.stands there in
      let are : bytes ≡ take redo.length (drop (redo.from - a.start) a.bytes) = bytes_are ∙ ap (λ (o : Option Archived). redo_in o redo) range.stands in
      let long : length bytes ≡ redo.length = ap length are ∙ length-take-le redo.length (drop (redo.from - a.start) a.bytes) (omega (arith, inside.0, inside.1, length-drop (redo.from - a.start) a.bytes)) in
      record {
        archive = a;
        stands = archive ∙ range.stands;
        end = end;
        ended = range.end;
        is =
            ap (λ (n : ℕ). block_of (lists.Redo n end) chunk number) range.start ∙ sym (ap (λ (x : StageList). block_of x chunk number) is) ∙ made
            ∙ ap (λ (n : ℕ). Some (RedoPart n redo.length)) (sym from_is) ∙ ap (λ (n : ℕ). Some (RedoPart from n)) (sym long);
        behind = omega (arith, inside.0, from_is);
        within = omega (arith, inside.1, from_is, long);
        bytes_are = are ∙ ap (λ (n : ℕ). take n (drop (redo.from - a.start) a.bytes)) (sym long) ∙ ap (λ (n : ℕ). take (length bytes) (drop (n - a.start) a.bytes)) (sym from_is);
      }

  pub says : (made : BlockWork) (read : Block) → block_of list chunk number ≡ Some (part_of made) → IsThere v.cloning made → IsBlock list v made read → FactOf number_of t.cloning list (New read).copies l (said_of stage chunk number read)
  says (work.Pages pages) (block.Pages read) made there is_block = says_pages pages read made is_block.0
  says (work.Pages pages) (block.Redo from bytes) made there is_block = absurd is_block
  says (work.Redo redo) (block.Pages read) made there is_block = absurd is_block
  says (work.Redo redo) (block.Redo from bytes) made there is_block = says_redo redo from bytes made there is_block.0 is_block.1

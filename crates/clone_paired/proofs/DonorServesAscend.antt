-- The blocks of a list ascend where the list does.
use Rattle.std.proofs.Common.{ℕ, zero, suc, ◌≡◌, ◌∙◌, ◌⊎◌, ◌<◌, ◌≤◌, ◌+◌, ◌*◌, ◌-◌, List, [], ◌∷◌, true, Option, None, Some, length, take, drop, refl, sym, subst, inl, inr, arith}
use Rattle.std.specs.Prelude.{slice_get}
use Rattle.std.specs.Bool.{⊤}
use Rattle.std.specs.Option.{option_map_or}
use Rattle.std.proofs.lemmas.Bool.{and_from, cases_lt, le-leb, lt-ltb}
use Rattle.std.proofs.lemmas.Option.{slice_get_past}
use Rattle.clone_base.proofs.Lists.{slice_get-append_left, slice_get-append_right}
use Rattle.clone_model.specs.declared.line.TheConstants.{MOST_PAGES}
use Rattle.clone_page.specs.declared.pages.PageAt.{PageAt}
use Rattle.clone_snapshot.specs.StageLists.{StageList, Files, Nothing, Pages, Redo, Part, PagePart, RedoPart, block_of, blocks_of, chunks_of, cut, pages_of_space, piece, run, size_of}
use Rattle.clone_snapshot.specs.declared.listing.Listing.TheVariants as code
use Rattle.clone_snapshot.proofs.EachBlock.{no_pages}
use Rattle.clone_snapshot.proofs.CutLemmas.{no_piece, piece_at}
use Rattle.clone_recipient.specs.Expecting.{are_pages, place_of}
use Rattle.clone_recipient.specs.declared.limits.TheConstants.{MOST_SPACE}
use Rattle.clone_engine.specs.Copying.{places_of}
use Rattle.clone_paired.specs.Blocks.{AreSpaces, AscendFrom, HasAscending, at_place}

lower : (a b : ℕ) (pages : List (ℕ × ℕ)) → a ≤ b → AscendFrom b pages → AscendFrom a pages
lower a b [] less is = tt
lower a b (p ∷ pages) less is = (omega (arith, less, is.0), is.1, is.2, is.3)

taken : (a n : ℕ) (pages : List (ℕ × ℕ)) → AscendFrom a pages → AscendFrom a (take n pages)
taken a zero pages is = tt
taken a (suc n) [] is = tt
taken a (suc n) (p ∷ pages) is = (is.0, is.1, is.2, taken (at_place p + 1) n pages is.3)

dropped : (a n : ℕ) (pages : List (ℕ × ℕ)) → AscendFrom a pages → AscendFrom a (drop n pages)
dropped a zero pages is = is
dropped a (suc n) [] is = tt
dropped a (suc n) (p ∷ pages) is = lower a (at_place p + 1) (drop n pages) (omega (arith, is.0)) (dropped (at_place p + 1) n pages is.3)

-- so a recipient takes them
are_so : (least : ℕ) (pages : List PageAt) → AscendFrom least (places_of pages) → are_pages least pages ≡ true
are_so least [] is = refl
are_so least (p ∷ pages) is = and_from _ _ (and_from _ _ (and_from _ _ (le-leb least (place_of p) is.0) (le-leb p.space MOST_SPACE is.1)) (lt-ltb p.number MOST_PAGES is.2)) (are_so (place_of p + 1) pages is.3)

abbrev IsSo : Part → Type 0
IsSo (PagePart pages) = AscendFrom 0 pages
IsSo other = ⊤

-- its pieces ascend too
cut_so : (size : ℕ) (part : Part) (i : ℕ) (piece_is : Part) → 0 < size → IsSo part → slice_get (cut size part) i ≡ Some piece_is → IsSo piece_is
cut_so size part i piece_is some so is = by (cases_lt (size * i) (size_of part))
  where
    piece_so : (whole : Part) → IsSo whole → IsSo (piece size whole i)
    piece_so (PagePart pages) all = taken 0 size (drop (size * i) pages) (dropped 0 (size * i) pages all)
    piece_so (RedoPart from count) all = tt

    by : (size * i < size_of part) ⊎ (size_of part ≤ size * i) → IsSo piece_is
    by (inl within) = let at = piece_at size part i some within in let same : piece size part i ≡ piece_is = cc (at, is) in subst IsSo same (piece_so part so)
    by (inr past) = let none = no_piece size part i some past in absurd (cc (none, is))

blocks_so : (chunk : Part) (block : ℕ) (part : Part) → IsSo chunk → slice_get (blocks_of chunk) block ≡ Some part → IsSo part
blocks_so (PagePart pages) block part so is = cut_so 8 (PagePart pages) block part (omega arith) so is
blocks_so (RedoPart from count) block part so is = cut_so 16384 (RedoPart from count) block part (omega arith) so is

-- a block of chunks that ascend
block_so : (list : StageList) → ((i : ℕ) (chunk : Part) → slice_get (chunks_of list) i ≡ Some chunk → IsSo chunk) → (chunk block : ℕ) (part : Part) → block_of list chunk block ≡ Some part → IsSo part
block_so list all chunk block part = by (slice_get (chunks_of list) chunk) (λ c is. all chunk c is)
  where
    by : (o : Option Part) → ((c : Part) → o ≡ Some c → IsSo c) → slice_get (option_map_or blocks_of o []) block ≡ Some part → IsSo part
    by None each is = let none = slice_get_past {X = Part} [] block (omega arith) in absurd (cc (none, is))
    by (Some c) each is = blocks_so c block part (each c refl) is

ascends_by : (list : StageList) → ((i : ℕ) (chunk : Part) → slice_get (chunks_of list) i ≡ Some chunk → IsSo chunk) → HasAscending list
ascends_by list all chunk block pages is = are_so 0 pages (block_so list all chunk block (PagePart (places_of pages)) is)

-- THE COPY OF PAGES: they ascend.
pub pages_ascend : (pages : List (ℕ × ℕ)) → AscendFrom 0 pages → HasAscending (Pages pages)
pages_ascend pages so = ascends_by (Pages pages) (λ i chunk is. cut_so 64 (PagePart pages) i chunk (omega arith) so is)

-- THE COPY OF FILES: each space has a number and so many pages.

run_so : (space first count : ℕ) → space ≤ MOST_SPACE → first + count ≤ MOST_PAGES → AscendFrom (MOST_PAGES * space + first) (run space first count)
run_so space first zero named few = tt
run_so space first (suc count) named few = (omega arith, named, omega (arith, few), lower (MOST_PAGES * space + first + 1) (MOST_PAGES * space + (first + 1)) (run space (first + 1) count) (omega arith) (run_so space (first + 1) count named (omega (arith, few))))

files_so : (spaces : List (ℕ × ℕ)) → AreSpaces spaces → (i : ℕ) (chunk : Part) → slice_get (chunks_of (Files spaces)) i ≡ Some chunk → IsSo chunk
files_so [] all i chunk is = let none = slice_get_past {X = Part} [] i (omega arith) in absurd (cc (none, is))
files_so (space ∷ spaces) all i chunk is = by (files_so spaces all.2) (cases_lt i (length (cut 64 (PagePart (pages_of_space space)))))
  where
    here : AscendFrom 0 (pages_of_space space)
    here = lower 0 (MOST_PAGES * space.0 + 0) (pages_of_space space) (omega arith) (run_so space.0 0 space.1 all.0 (omega (arith, all.1)))

    by : ((j : ℕ) (c : Part) → slice_get (chunks_of (Files spaces)) j ≡ Some c → IsSo c) → (i < length (cut 64 (PagePart (pages_of_space space)))) ⊎ (length (cut 64 (PagePart (pages_of_space space))) ≤ i) → IsSo chunk
    by later (inl less) = cut_so 64 (PagePart (pages_of_space space)) i chunk (omega arith) here (sym (slice_get-append_left (cut 64 (PagePart (pages_of_space space))) (chunks_of (Files spaces)) i less) ∙ is)
    by later (inr more) = later (i - length (cut 64 (PagePart (pages_of_space space)))) chunk (sym (slice_get-append_right (cut 64 (PagePart (pages_of_space space))) (chunks_of (Files spaces)) i (i - length (cut 64 (PagePart (pages_of_space space)))) (omega (arith, more))) ∙ is)

pub files_ascend : (spaces : List (ℕ × ℕ)) → AreSpaces spaces → HasAscending (Files spaces)
files_ascend spaces all = ascends_by (Files spaces) (files_so spaces all)

-- Redo has no pages.
pub redo_ascends : (start end : ℕ) → HasAscending (Redo start end)
redo_ascends start end chunk block pages is = absurd (no_pages (code.Redo start end) chunk block (places_of pages) (λ spaces e. cc (e)) (λ listed e. cc (e)) is)

pub none_ascend : HasAscending Nothing
none_ascend chunk block pages is = absurd (no_pages code.Nothing chunk block (places_of pages) (λ spaces e. cc (e)) (λ listed e. cc (e)) is)

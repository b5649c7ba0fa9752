-- What is known of answers that are expected.
use Rattle.std.proofs.Common.{◌≡◌, ◌≢◌, ◌∙◌, refl, ap, sym, ◌<◌, ◌≤◌, ◌+◌, ◌*◌, ◌&&◌, ◌∷◌, [], ℕ, suc, Bool, true, false, List, length, Option, option_map, None, Some, ◌==◌, eqb-true, arith}
use Rattle.std.specs.List.{AllByRecursion}
use Rattle.std.specs.Int.{div_ceil}
use Rattle.std.specs.Prelude.{nat_le, nat_lt}
use Rattle.std.proofs.lemmas.Bool.{leb-true, ltb-true}
use Rattle.std.proofs.lemmas.List.Sums.{sum_by-cons}
use Rattle.clone_base.specs.declared.limits.TheConstants.{LSN_LIMIT, SPACE_LIMIT}
use Rattle.clone_model.specs.declared.line.TheConstants.{MOST_PAGES}
use Rattle.clone_chunk.specs.declared.spaces.SpaceSize.{SpaceSize}
use Rattle.clone_snapshot.specs.StageLists.{Files, Redo, Part, PagePart, chunk_count}
use Rattle.clone_marks.specs.Counts.{pairs_of}
use Rattle.clone_page.specs.declared.pages.PageAt.{PageAt}
use Rattle.clone_chunk.specs.Plans as plans
use Rattle.clone_chunk.specs.declared.copy_stage.CopyStage.TheVariants.{RedoCopy}
use Rattle.clone_chunk.specs.declared.plan.StagePlan.{StagePlan}
use Rattle.clone_accepted.specs.Disk.{distance_of}
use Rattle.clone_marks.specs.Blocks.{is_left}
use Rattle.clone_wire.specs.declared.frame.Attempt.{Attempt}
use Rattle.clone_wire.specs.declared.frame.Frame.{Frame}
use Rattle.clone_wire.specs.declared.frame.Frame.TheVariants as frame
use Rattle.clone_wire.specs.declared.stage.PageStage.{PageStage}
use Rattle.clone_tasks.specs.Awaiting.{awaits_block, awaits_end_of, awaits_stage, is_present}
use Rattle.clone_recipient.specs.Receptions.{Reception}
use Rattle.clone_recipient.proofs.SizeLemmas.{redo_within}
use Rattle.clone_recipient.specs.declared.limits.TheConstants.{MOST_SPACE}
use Rattle.clone_recipient.specs.Expecting.{are_at, are_pages, are_pages_of, are_spaces, copied_in, fits, fits_block, fits_pages, fits_redo, is_at, is_expected, is_page, is_space, place_of, size_at}

-- lists of other lengths don't fit
pub at_long : (places : List (ℕ × ℕ)) (pages : List PageAt) → length places ≢ length pages → are_at places pages ≡ false
at_long [] [] other = absurd (other refl)
at_long [] (p ∷ pages) other = refl
at_long (a ∷ places) [] other = refl
at_long (a ∷ places) (p ∷ pages) other = false_behind (is_at a p) _ (at_long places pages (λ same. other (ap suc same)))
  where
    false_behind : (a b : Bool) → b ≡ false → (a && b) ≡ false
    false_behind true b is = is
    false_behind false b is = refl

-- the pages of a block that is found
pub places_at : (o : Option Part) (found : Option (List (ℕ × ℕ))) (places slice : List (ℕ × ℕ)) (pages : List PageAt) (answer : Bool) → option_map (λ ps. PagePart ps) found ≡ o → found ≡ Some places → slice ≡ places → answer ≡ are_at slice pages → answer ≡ are_pages_of o pages
places_at o found places slice pages answer has is same fits =
    fits ∙ ap (λ (ps : List (ℕ × ℕ)). are_at ps pages) same ∙ ap (λ (part : Option Part). are_pages_of part pages) (sym (ap (option_map (λ ps. PagePart ps)) is) ∙ has)

-- and what is in none
pub none_at : (o : Option Part) (found : Option (List (ℕ × ℕ))) (pages : List PageAt) → option_map (λ ps. PagePart ps) found ≡ o → found ≡ None → false ≡ are_pages_of o pages
none_at o found pages has none = ap (λ (part : Option Part). are_pages_of part pages) (sym (ap (option_map (λ ps. PagePart ps)) none) ∙ has)

-- ---- what is known of such lists

pub both : (a b : Bool) → (a && b) ≡ true → (a ≡ true) × (b ≡ true)
both true b is = (refl, is)
both false b is = absurd (let e = is in cc)

-- each has a number below the limit
pub pages_low : (least : ℕ) (pages : List PageAt) → are_pages least pages ≡ true → AllByRecursion (λ (p : PageAt). p.number < MOST_PAGES) pages
pages_low least [] are = tt
pages_low least (p ∷ pages) are =
    let is = both (is_page least p) (are_pages (place_of p + 1) pages) are in
    let low = both (nat_le least (place_of p) && nat_le p.space MOST_SPACE) (nat_lt p.number MOST_PAGES) is.0 in
    (ltb-true p.number MOST_PAGES low.1, pages_low (place_of p + 1) pages is.1)

-- spaces have few chunks
chunks_low : (least : ℕ) (spaces : List SpaceSize) → are_spaces least spaces ≡ true → chunk_count (Files (pairs_of spaces)) ≤ 1024 * length spaces
chunks_low least [] are = omega arith
chunks_low least (s ∷ spaces) are =
    let is = both (is_space least s) (are_spaces (s.space + 1) spaces) are in
    let high = both (nat_le least s.space && nat_le s.space MOST_SPACE && nat_le 1 s.pages) (nat_le s.pages MOST_PAGES) is.0 in
    let low : s.pages ≤ 65536 = leb-true s.pages MOST_PAGES high.1 in
    let here : div_ceil s.pages 64 ≤ 1024 = omega (arith, low) in
    let all : chunk_count (Files (pairs_of (s ∷ spaces))) ≡ div_ceil s.pages 64 + chunk_count (Files (pairs_of spaces)) = sum_by-cons (λ (space : ℕ × ℕ). div_ceil space.1 64) (s.space, s.pages) (pairs_of spaces) in
    omega (arith, here, chunks_low (s.space + 1) spaces is.1, all)

pub few_chunks : (spaces : List SpaceSize) → are_spaces 0 spaces ≡ true → length spaces ≤ SPACE_LIMIT → (chunk_count (Files (pairs_of spaces)) ≤ 8388608) × (chunk_count (Files (pairs_of spaces)) < 4294967296)
few_chunks spaces are few =
    let low = chunks_low 0 spaces are in
    let count : length spaces ≤ 63 = few in
    (omega (arith, low, count), omega (arith, low, count))

-- ---- what is known of an answer that is expected

pub stage_fits : (r : Reception) (task : ℕ) (f : Frame) (attempt : Attempt) (plan : StagePlan) → f ≡ frame.Stage attempt plan → is_expected r task f ≡ true → fits plan ≡ true
stage_fits r task f attempt plan is expected =
    (both (is_present r.table attempt && awaits_stage r.table task (plans.stage_of plan)) (fits plan) (sym (ap (is_expected r task) is) ∙ expected)).1

pages_fit : (r : Reception) (task : ℕ) (f : Frame) (attempt : Attempt) (stage : PageStage) (chunk block : ℕ) (pages : List PageAt) → f ≡ frame.Pages attempt stage chunk block pages → is_expected r task f ≡ true
    → (awaits_block r.table task (copied_in stage) chunk block ≡ true) × (fits_pages stage r chunk block pages ≡ true)
pages_fit r task f attempt stage chunk block pages is expected =
    let parts = both (is_present r.table attempt && awaits_block r.table task (copied_in stage) chunk block) (fits_pages stage r chunk block pages) (sym (ap (is_expected r task) is) ∙ expected) in
    ((both (is_present r.table attempt) (awaits_block r.table task (copied_in stage) chunk block) parts.0).1, parts.1)

pub pages_left : (r : Reception) (task : ℕ) (f : Frame) (attempt : Attempt) (stage : PageStage) (chunk block : ℕ) (pages : List PageAt) → f ≡ frame.Pages attempt stage chunk block pages → is_expected r task f ≡ true → is_left r.table.marks chunk block ≡ true
pages_left r task f attempt stage chunk block pages is expected =
    (both (awaits_end_of r.table task (copied_in stage)) (is_left r.table.marks chunk block) (pages_fit r task f attempt stage chunk block pages is expected).0).1

pub pages_below : (r : Reception) (task : ℕ) (f : Frame) (attempt : Attempt) (stage : PageStage) (chunk block : ℕ) (pages : List PageAt) → f ≡ frame.Pages attempt stage chunk block pages → is_expected r task f ≡ true → AllByRecursion (λ (p : PageAt). p.number < MOST_PAGES) pages
pages_below r task f attempt stage chunk block pages is expected =
    pages_low 0 pages (both (are_pages 0 pages) (fits_block stage r chunk block pages) (pages_fit r task f attempt stage chunk block pages is expected).1).0

redo_parts : (r : Reception) (task : ℕ) (f : Frame) (attempt : Attempt) (chunk block from : ℕ) (bytes : List ℕ) → f ≡ frame.Redo attempt chunk block from bytes → is_expected r task f ≡ true
    → (awaits_block r.table task RedoCopy chunk block ≡ true) × (fits_redo r chunk block from bytes ≡ true)
redo_parts r task f attempt chunk block from bytes is expected =
    let parts = both (is_present r.table attempt && awaits_block r.table task RedoCopy chunk block) (fits_redo r chunk block from bytes) (sym (ap (is_expected r task) is) ∙ expected) in
    ((both (is_present r.table attempt) (awaits_block r.table task RedoCopy chunk block) parts.0).1, parts.1)

pub redo_left : (r : Reception) (task : ℕ) (f : Frame) (attempt : Attempt) (chunk block from : ℕ) (bytes : List ℕ) → f ≡ frame.Redo attempt chunk block from bytes → is_expected r task f ≡ true → is_left r.table.marks chunk block ≡ true
redo_left r task f attempt chunk block from bytes is expected =
    (both (awaits_end_of r.table task RedoCopy) (is_left r.table.marks chunk block) (redo_parts r task f attempt chunk block from bytes is expected).0).1

pub redo_fits : (r : Reception) (task : ℕ) (f : Frame) (attempt : Attempt) (chunk block from : ℕ) (bytes : List ℕ) → f ≡ frame.Redo attempt chunk block from bytes → is_expected r task f ≡ true → fits_redo r chunk block from bytes ≡ true
redo_fits r task f attempt chunk block from bytes is expected = (redo_parts r task f attempt chunk block from bytes is expected).1

-- redo that fits ends below the limit of the log
pub redo_low : (r : Reception) (chunk block from : ℕ) (bytes : List ℕ) → fits_redo r chunk block from bytes ≡ true → 1 ≤ length bytes → r.checkpoint ≤ r.lsn → r.lsn < LSN_LIMIT → from + length bytes ≤ LSN_LIMIT
redo_low r chunk block from bytes fit some ordered within =
    let parts = both (from == r.checkpoint + distance_of chunk block) (length bytes == size_at (Redo r.checkpoint r.lsn) chunk block) fit in
    let place : from ≡ r.checkpoint + (65536 * chunk + 16384 * block) = eqb-true from (r.checkpoint + distance_of chunk block) parts.0 in
    let ends = redo_within r.checkpoint r.lsn chunk block (length bytes) some (eqb-true (length bytes) (size_at (Redo r.checkpoint r.lsn) chunk block) parts.1) ordered in
    omega (arith, place, ends, within)

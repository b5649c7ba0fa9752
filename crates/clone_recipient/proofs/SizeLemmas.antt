-- How many pages or bytes a block has.
use Rattle.std.proofs.Common.{◌≡◌, ◌∙◌, refl, ap, sym, [], ◌<◌, ◌≤◌, ◌+◌, ◌*◌, ◌-◌, ℕ, min, drop, replicate, arith, inl, inr}
use Rattle.std.specs.List.{slice_get}
use Rattle.std.specs.Option.{option_map_or}
use Rattle.std.proofs.lemmas.Bool.{cases_lt}
use Rattle.std.proofs.lemmas.List.{length-take, length-drop, length-replicate}
use Rattle.std.proofs.lemmas.Option.{slice_get_past}
use Rattle.clone_snapshot.specs.StageLists.{Redo, Part, PagePart, RedoPart, blocks_of, cut, piece, size_of}
use Rattle.clone_snapshot.proofs.CutLemmas.{no_piece, piece_at}
use Rattle.clone_marks.specs.Counts.{counted_pages}
use Rattle.clone_recipient.specs.Expecting.{size_at}

piece_size : (size : ℕ) (part : Part) (i : ℕ) → size_of (piece size part i) ≡ min size (size_of part - size * i)
piece_size size (PagePart pages) i = length-take size (drop (size * i) pages) ∙ ap (min size) (length-drop (size * i) pages)
piece_size size (RedoPart from count) i = refl

-- a piece of a part, 0 where there is none
cut_size : (size : ℕ) (part : Part) (i : ℕ) → 0 < size → option_map_or size_of (slice_get (cut size part) i) 0 ≡ min size (size_of part - size * i)
cut_size size part i some =
    elim (cases_lt (size * i) (size_of part)) [
      | inl within ↦ ap (λ o. option_map_or size_of o 0) (piece_at size part i some within) ∙ piece_size size part i
      | inr past ↦ let none : min size (size_of part - size * i) ≡ 0 = omega arith in ap (λ o. option_map_or size_of o 0) (no_piece size part i some past) ∙ sym none
    ]

pub pages_size : (pages chunk block : ℕ) → min 8 (min 64 (pages - 64 * chunk) - 8 * block) ≡ size_at (counted_pages pages) chunk block
pages_size pages chunk block =
    elim (cases_lt (64 * chunk) (size_of whole)) [
      | inl within ↦ sym (ap (λ o. option_map_or size_of (slice_get (option_map_or blocks_of o []) block) 0) (piece_at 64 whole chunk (omega arith) within) ∙ cut_size 8 (piece 64 whole chunk) block (omega arith) ∙ ap (λ n. min 8 (n - 8 * block)) (piece_size 64 whole chunk ∙ ap (λ n. min 64 (n - 64 * chunk)) long))
      | inr past ↦ let none : min 8 (min 64 (pages - 64 * chunk) - 8 * block) ≡ 0 = omega (arith, long, past) in
          none ∙ sym (ap (λ o. option_map_or size_of (slice_get (option_map_or blocks_of o []) block) 0) (no_piece 64 whole chunk (omega arith) past) ∙ ap (λ o. option_map_or size_of o 0) (slice_get_past {X = Part} [] block (omega arith)))
    ]
  where
    whole : Part
    whole = PagePart (replicate pages (0, 0))

    long : size_of whole ≡ pages
    long = length-replicate pages (0, 0)

pub redo_size : (start end chunk block : ℕ) → min 16384 (min 65536 (end - start - 65536 * chunk) - 16384 * block) ≡ size_at (Redo start end) chunk block
redo_size start end chunk block =
    elim (cases_lt (65536 * chunk) (end - start)) [
      | inl within ↦ sym (ap (λ o. option_map_or size_of (slice_get (option_map_or blocks_of o []) block) 0) (piece_at 65536 whole chunk (omega arith) within) ∙ cut_size 16384 (piece 65536 whole chunk) block (omega arith))
      | inr past ↦ let none : min 16384 (min 65536 (end - start - 65536 * chunk) - 16384 * block) ≡ 0 = omega (arith, past) in
          none ∙ sym (ap (λ o. option_map_or size_of (slice_get (option_map_or blocks_of o []) block) 0) (no_piece 65536 whole chunk (omega arith) past) ∙ ap (λ o. option_map_or size_of o 0) (slice_get_past {X = Part} [] block (omega arith)))
    ]
  where
    whole : Part
    whole = RedoPart start (end - start)

-- a block that has a byte ends within the redo
pub redo_within : (start end chunk block bytes : ℕ) → 1 ≤ bytes → bytes ≡ size_at (Redo start end) chunk block → start ≤ end → start + (65536 * chunk + 16384 * block) + bytes ≤ end
redo_within start end chunk block bytes some is ordered = omega (arith, some, is ∙ sym (redo_size start end chunk block), ordered)

-- The blocks of a redo, laid in any order, are its pages.
use Rattle.std.proofs.Common.{◌≡◌, ◌+◌, ◌-◌, ◌*◌, ◌/◌, ◌<◌, ◌≤◌, ◌⊎◌, ℕ, zero, suc, min, List, [], ◌∷◌, ◌++◌, length, get_or, take, drop, Some, refl, sym, ap, subst, ◌∙◌, arith, inl, inr, slice_get}
use Rattle.std.specs.Prelude.{All, Contains}
use Rattle.std.proofs.lemmas.Bool.{cases_lt}
use Rattle.std.proofs.lemmas.List.{drop-drop, drop-take, length-drop, length-take, take-take}
use Rattle.std.proofs.lemmas.List.FromFn.{get_or-map-range_with_len}
use Rattle.std.proofs.lemmas.Option.{slice_get-get_or, slice_get_past, slice_get_within}
use Rattle.clone_base.specs.declared.limits.TheConstants.{REDO_SPACE}
use Rattle.clone_outside.specs.Disk.{DiskImage, pages_in, whole, IsSameBut}
use Rattle.clone_outside.specs.declared.disk.Held.{Held}
use Rattle.clone_lay.specs.Laid.{laid_over}
use Rattle.clone_lay.specs.Redo.{filled, laid_blocks, laid_redo, pages_for, redo_block, redo_page, redo_pages}
use Rattle.clone_lay.proofs.LaidLemmas.{extended_there, laid_before, laid_behind, laid_here, length-laid_over}
use Rattle.clone_lay.proofs.IndexLemmas.{same_elements}
use Rattle.clone_lay.proofs.RedoLemmas.{length-redo_pages}
use Rattle.clone_outside.proofs.SpaceLemmas.{get_there, pages_here}

page_at : (redo : List ℕ) (i : ℕ) → i < pages_for (length redo) → slice_get (redo_pages redo) i ≡ Some (whole (redo_page redo i))
page_at redo i low =
    slice_get-get_or (redo_pages redo) i (whole []) (omega (arith, low, length-redo_pages redo))
    ∙ ap (λ (page : Held). Some page) (get_or-map-range_with_len (λ k. whole (redo_page redo k)) 0 (pages_for (length redo)) i i (whole []) low (omega arith))

module _ (redo : List ℕ) where
  abbrev count : ℕ
  count = pages_for (length redo)

  module _ (k : ℕ) where
    length-block : length (redo_block redo k) ≡ min 16384 (length redo - 16384 * k)
    length-block = length-take 16384 (drop (16384 * k) redo) ∙ ap (min 16384) (length-drop (16384 * k) redo)

    -- how many pages a block takes
    few_pages : 16384 * k < length redo → (4 * k + pages_for (length (redo_block redo k)) ≤ count) × (pages_for (length (redo_block redo k)) ≤ 4)
    few_pages within = (omega (arith, length-block, within), omega (arith, length-block, within))

    last_pages : (i : ℕ) → 16384 * k < length redo → 4 * k + pages_for (length (redo_block redo k)) ≤ i → i < 4 * k + 4 → count ≤ i
    last_pages i within past low = omega (arith, length-block, within, past, low)

    -- a page of a block is a page of the redo
    block_page : (j : ℕ) → j < 4 → redo_page (redo_block redo k) j ≡ redo_page redo (4 * k + j)
    block_page j low =
        let whole_block : 4096 * j + (16384 - 4096 * j) ≡ 16384 = omega (arith, low) in
        let there : 16384 * k + 4096 * j ≡ 4096 * (4 * k + j) = omega arith in
        ap (λ (xs : List ℕ). filled (take 4096 xs))
        (ap (λ (n : ℕ). drop (4096 * j) (take n (drop (16384 * k) redo))) (sym whole_block)
        ∙ drop-take (4096 * j) (16384 - 4096 * j) (drop (16384 * k) redo))
        ∙ ap filled
        (take-take 4096 (16384 - 4096 * j) (drop (4096 * j) (drop (16384 * k) redo)) (omega (arith, low))
        ∙ ap (take 4096) (drop-drop (4096 * j) (16384 * k) redo ∙ ap (λ (n : ℕ). drop n redo) there))

    -- one block is laid: its pages are the redo's, and all others stay
    abbrev laid : List Held → List Held
    laid old = laid_over (4 * k) (redo_pages (redo_block redo k)) old

    block_within : (old : List Held) → 16384 * k < length redo → length old ≤ count → length (laid old) ≤ count
    block_within old within few =
        let pages = few_pages within in
        omega (arith, length-laid_over (4 * k) (redo_pages (redo_block redo k)) old, length-redo_pages (redo_block redo k), pages.0, few)

    block_right : (old : List Held) (i : ℕ) → 16384 * k < length redo → i < count → ((4 * k ≤ i) × (i < 4 * k + 4)) ⊎ (slice_get old i ≡ slice_get (redo_pages redo) i) → slice_get (laid old) i ≡ slice_get (redo_pages redo) i
    block_right old i within low right = at (cases_lt i (4 * k)) (cases_lt i (4 * k + pages_for (length (redo_block redo k)))) right
      where
        new : List Held
        new = redo_pages (redo_block redo k)

        long : length new ≡ pages_for (length (redo_block redo k))
        long = length-redo_pages (redo_block redo k)

        at : (i < 4 * k) ⊎ (4 * k ≤ i) → (i < 4 * k + pages_for (length (redo_block redo k))) ⊎ (4 * k + pages_for (length (redo_block redo k)) ≤ i) → ((4 * k ≤ i) × (i < 4 * k + 4)) ⊎ (slice_get old i ≡ slice_get (redo_pages redo) i)
            → slice_get (laid old) i ≡ slice_get (redo_pages redo) i
        at (inl before) order (inl own) = absurd (omega (arith, before, own.0))
        at (inl before) order (inr same) =
            laid_before (4 * k) new old i before
            ∙ extended_there (4 * k) old i (slice_get_within old i (whole (redo_page redo i)) (same ∙ page_at redo i low)) ∙ same
        at (inr after) (inl here) either =
            let number : 4 * k + (i - 4 * k) ≡ i = omega (arith, after) in
            let inside : i - 4 * k < pages_for (length (redo_block redo k)) = omega (arith, after, here) in
            let pages = few_pages within in
            laid_here (4 * k) new old i (i - 4 * k) number (omega (arith, inside, long))
            ∙ page_at (redo_block redo k) (i - 4 * k) inside
            ∙ ap (λ (page : List ℕ). Some (whole page)) (block_page (i - 4 * k) (omega (arith, inside, pages.1)) ∙ ap (redo_page redo) number)
            ∙ sym (page_at redo i low)
        at (inr after) (inr past) (inl own) = absurd (let none = last_pages i within past own.1 in omega (arith, none, low))
        at (inr after) (inr past) (inr same) = laid_behind (4 * k) new old i (omega (arith, past, long)) ∙ same

  -- the pages of the redo's space once a block was laid
  block_pages : (m : DiskImage) (k : ℕ) → pages_in (laid_redo (16384 * k) (redo_block redo k) m) REDO_SPACE ≡ laid k (pages_in m REDO_SPACE)
  block_pages m k =
      let first : 16384 * k / 4096 ≡ 4 * k = omega arith in
      pages_here m REDO_SPACE (laid_over (16384 * k / 4096) (redo_pages (redo_block redo k)) (pages_in m REDO_SPACE))
      ∙ ap (λ (n : ℕ). laid_over n (redo_pages (redo_block redo k)) (pages_in m REDO_SPACE)) first

  abbrev after : List ℕ → DiskImage → List Held
  after ks m = pages_in (laid_blocks redo ks m) REDO_SPACE

  all_within : (ks : List ℕ) (m : DiskImage) → All (λ k. 16384 * k < length redo) ks → length (pages_in m REDO_SPACE) ≤ count → length (after ks m) ≤ count
  all_within [] m all few = few
  all_within (k ∷ ks) m all few =
      all_within ks (laid_redo (16384 * k) (redo_block redo k) m) (λ i d low. all (suc i) d (omega (arith, low)))
      (subst (λ (pages : List Held). length pages ≤ count) (sym (block_pages m k)) (block_within k (pages_in m REDO_SPACE) (all 0 0 (omega arith)) few))

  all_right : (ks : List ℕ) (m : DiskImage) (i : ℕ) → All (λ k. 16384 * k < length redo) ks → i < count
      → ((k : ℕ) × Contains ks k × (4 * k ≤ i) × (i < 4 * k + 4)) ⊎ (slice_get (pages_in m REDO_SPACE) i ≡ slice_get (redo_pages redo) i) → slice_get (after ks m) i ≡ slice_get (redo_pages redo) i
  all_right [] m i all low (inl own) = absurd (omega (arith, own.1.1))
  all_right [] m i all low (inr same) = same
  all_right (k ∷ ks) m i all low right = all_right ks (laid_redo (16384 * k) (redo_block redo k) m) i (λ j d less. all (suc j) d (omega (arith, less))) low (next right)
    where
      right_now : ((4 * k ≤ i) × (i < 4 * k + 4)) ⊎ (slice_get (pages_in m REDO_SPACE) i ≡ slice_get (redo_pages redo) i) → slice_get (pages_in (laid_redo (16384 * k) (redo_block redo k) m) REDO_SPACE) i ≡ slice_get (redo_pages redo) i
      right_now either = ap (λ (pages : List Held). slice_get pages i) (block_pages m k) ∙ block_right k (pages_in m REDO_SPACE) i (all 0 0 (omega arith)) low either

      found : (q : ℕ) → 4 * q ≤ i → i < 4 * q + 4 → (index : ℕ) → index < length (k ∷ ks) → get_or (k ∷ ks) index q ≡ q
          → ((q : ℕ) × Contains ks q × (4 * q ≤ i) × (i < 4 * q + 4)) ⊎ (slice_get (pages_in (laid_redo (16384 * k) (redo_block redo k) m) REDO_SPACE) i ≡ slice_get (redo_pages redo) i)
      found q high less zero within is = inr (right_now (inl (omega (arith, high, is), omega (arith, less, is))))
      found q high less (suc index) within is = inl (q, (index, omega (arith, within), is), high, less)

      next : ((q : ℕ) × Contains (k ∷ ks) q × (4 * q ≤ i) × (i < 4 * q + 4)) ⊎ (slice_get (pages_in m REDO_SPACE) i ≡ slice_get (redo_pages redo) i)
          → ((q : ℕ) × Contains ks q × (4 * q ≤ i) × (i < 4 * q + 4)) ⊎ (slice_get (pages_in (laid_redo (16384 * k) (redo_block redo k) m) REDO_SPACE) i ≡ slice_get (redo_pages redo) i)
      next (inr same) = inr (right_now (inr same))
      next (inl own) = found own.0 own.2 own.3 own.1.0 own.1.1 own.1.2

  -- all blocks were laid, over no pages
  pub blocks_are_pages : (ks : List ℕ) (m : DiskImage) → pages_in m REDO_SPACE ≡ [] → All (λ k. 16384 * k < length redo) ks → ((k : ℕ) → 16384 * k < length redo → Contains ks k) → after ks m ≡ redo_pages redo
  blocks_are_pages ks m blank all each = same_elements (after ks m) (redo_pages redo) (λ i. at i (cases_lt i count))
    where
      few : length (after ks m) ≤ count
      few = all_within ks m all (subst (λ (pages : List Held). length pages ≤ count) (sym blank) (omega arith))

      at : (i : ℕ) → (i < count) ⊎ (count ≤ i) → slice_get (after ks m) i ≡ slice_get (redo_pages redo) i
      at i (inl low) =
          all_right ks m i all low (inl (i / 4, each (i / 4) (omega (arith, low)), omega arith, omega arith))
      at i (inr past) = slice_get_past (after ks m) i (omega (arith, few, past)) ∙ sym (slice_get_past (redo_pages redo) i (omega (arith, past, length-redo_pages redo)))

-- all other spaces stay, and the mark does
pub blocks_change : (redo ks : List ℕ) (m : DiskImage) → IsSameBut REDO_SPACE m (laid_blocks redo ks m)
blocks_change redo [] m = record { mark = refl; others = λ s other. refl }
blocks_change redo (k ∷ ks) m =
    let rest = blocks_change redo ks (laid_redo (16384 * k) (redo_block redo k) m) in
    record { mark = rest.mark; others = λ s other. rest.others s other ∙ get_there m REDO_SPACE s _ other }

pub blocks_more : (redo ks : List ℕ) (last : ℕ) (m : DiskImage) → laid_blocks redo (ks ++ last ∷ []) m ≡ laid_redo (16384 * last) (redo_block redo last) (laid_blocks redo ks m)
blocks_more redo [] last m = refl
blocks_more redo (k ∷ ks) last m = blocks_more redo ks last (laid_redo (16384 * k) (redo_block redo k) m)

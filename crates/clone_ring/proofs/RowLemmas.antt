-- Blocks in a row: what a block holds of the bytes, and what is written into it.
use Rattle.std.proofs.Common.{◌≡◌, ◌⊎◌, ℕ, zero, suc, ◌+◌, ◌-◌, ◌*◌, ◌/◌, ◌%◌, ◌<◌, ◌≤◌, List, [], ◌∷◌, ◌++◌, length, min}
use Rattle.std.proofs.Common.{take, drop, set, arith, rules, ◌∙◌, ap, sym, refl, subst, inl, inr, Some}
use Rattle.std.proofs.Common.{append_assoc, append-nil, length-append, length-take, length-drop, length-set}
use Rattle.std.specs.Prelude.{slice_get, slice_index_or, vec_capacity}
use Rattle.std.specs.Vec.{with_items}
use Rattle.std.proofs.lemmas.Bool.{cases_lt, cases_eq}
use Rattle.std.proofs.lemmas.List.{take-append-le, drop-append-le, take_all, take_at, drop_all}
use Rattle.std.proofs.lemmas.List.{drop-drop, drop-take, take-take}
use Rattle.std.proofs.lemmas.List.Concat.{flat_map-append}
use Rattle.std.proofs.lemmas.List.{with_items_is}
use Rattle.std.proofs.lemmas.Option.{slice_get_within, slice_get_read, same_Some}
use Rattle.std.proofs.Math.Seq.{take-append-add, drop-append-add, drop-nil}
use Rattle.clone_base.proofs.MapEntries.{cases_pushed, slice_get-set_same, slice_get-set_other}
use borrow.Rule.Slice.PartMut.{put_mid, mid_of, same_len_mid}
use Rattle.clone_ring.proofs.PieceLemmas.{length-written}
use Rattle.clone_ring.specs.Row.{Block, IsRow, joined, part_of, written}
use Rattle.clone_ring.specs.declared.blocks.TheConstants.{RING_BLOCK}

-- each block has its part of the bytes
abbrev pub AreParts : List Block → Type 0
AreParts blocks = (i : ℕ) (block : Block) → slice_get blocks i ≡ Some block → block.items ≡ part_of (joined blocks) i

-- a first block with the rest of a row: it has no more bytes than a block may have, and none follow
-- if it isn't full
record IsFirst (block : Block) (others : List Block) : Type 0 where
  few : length block.items ≤ RING_BLOCK
  last : length block.items < RING_BLOCK → joined others ≡ []

no_bytes : (bytes : List ℕ) → length bytes ≤ 0 → bytes ≡ []
no_bytes [] none = refl
no_bytes (x ∷ xs) none = absurd (omega arith)

first_of : (block : Block) (others : List Block) → AreParts (block ∷ others) → IsFirst block others
first_of block others parts =
    let size = ap length (parts 0 block refl) in
    let whole = length-append block.items (joined others) in
    let cut = length-take RING_BLOCK (block.items ++ joined others) in
    record {
      few = omega (arith, size, whole, cut);
      last = λ short. no_bytes (joined others) (omega (arith, size, whole, cut, short));
    }

-- the parts of the blocks behind the first one
part_behind : (block : Block) (others : List Block) → IsFirst block others → (i : ℕ)
    → part_of (block.items ++ joined others) (suc i) ≡ part_of (joined others) i
part_behind block others first i =
    elim (cases_lt (length block.items) RING_BLOCK) [
      | inl short ↦ (let none = first.last short in
          let past : drop (RING_BLOCK * suc i) (block.items ++ joined others) ≡ [] =
          drop_all (RING_BLOCK * suc i) (block.items ++ joined others) (omega (arith, short, length-append block.items (joined others), ap length none)) in
          let here : drop (RING_BLOCK * i) (joined others) ≡ [] = ap (drop (RING_BLOCK * i)) none ∙ drop-nil _ in
          ap (take RING_BLOCK) (past ∙ sym here))
      | inr full ↦ (let offset : RING_BLOCK * suc i ≡ length block.items + RING_BLOCK * i = omega (arith, first.few) in
          ap (take RING_BLOCK) (ap (λ n. drop n (block.items ++ joined others)) offset ∙ drop-append-add block.items (joined others) (RING_BLOCK * i)))
    ]

others_of : (block : Block) (others : List Block) → AreParts (block ∷ others) → AreParts others
others_of block others parts i other is = parts (suc i) other is ∙ part_behind block others (first_of block others parts) i

first_part : (block : Block) (others : List Block) → IsFirst block others → block.items ≡ part_of (block.items ++ joined others) 0
first_part block others first =
    elim (cases_lt (length block.items) RING_BLOCK) [
      | inl short ↦ (let alone : block.items ++ joined others ≡ block.items = ap (λ ys. block.items ++ ys) (first.last short) ∙ append-nil block.items in
          sym (ap (take RING_BLOCK) alone ∙ take_all RING_BLOCK block.items first.few))
      | inr full ↦ (let whole : length block.items ≡ RING_BLOCK = omega (arith, first.few) in
          sym (take_at block.items (joined others) RING_BLOCK whole))
    ]

with_first : (block : Block) (others : List Block) → IsFirst block others → AreParts others → AreParts (block ∷ others)
with_first block others first parts zero other is = ap (λ (b : Block). b.items) (sym (same_Some block other is)) ∙ first_part block others first
with_first block others first parts (suc i) other is = parts i other is ∙ sym (part_behind block others first i)

-- bytes that end behind the first block fill it
full_of : (block : Block) (others : List Block) (at i : ℕ) → IsFirst block others → RING_BLOCK * suc i + at ≤ length (block.items ++ joined others)
    → length block.items ≡ RING_BLOCK
full_of block others at i first within =
    elim (cases_lt (length block.items) RING_BLOCK) [
      | inl short ↦ absurd (omega (arith, within, short, length-append block.items (joined others), ap length (first.last short)))
      | inr full ↦ omega (arith, first.few, full)
    ]

-- a place in the first block lies within its bytes, or right behind them
front_of : (block : Block) (others : List Block) (at : ℕ) (first : IsFirst block others) → RING_BLOCK * 0 + at ≤ length (block.items ++ joined others)
    → at < RING_BLOCK → at ≤ length block.items
front_of block others at first within room =
    elim (cases_lt (length block.items) RING_BLOCK) [
      | inl short ↦ omega (arith, within, length-append block.items (joined others), ap length (first.last short))
      | inr full ↦ omega (arith, full, room)
    ]

-- what is written into one block is written to the row
pub record IsWritten (blocks : List Block) (i : ℕ) (block' : Block) (at : ℕ) (new : List ℕ) : Type 0 where
  pub parts : AreParts (set blocks i block')
  pub bytes : joined (set blocks i block') ≡ written (RING_BLOCK * i + at) new (joined blocks)

written_in_first : (block : Block) (others : List Block) (at : ℕ) (new : List ℕ) → IsFirst block others
    → at ≤ length (block.items ++ joined others) → at + length new ≤ RING_BLOCK → 0 < length new
    → written at new block.items ++ joined others ≡ written at new (block.items ++ joined others)
written_in_first block others at new first within room some =
    elim (cases_lt (length block.items) RING_BLOCK) [
      | inl short ↦ (let none = first.last short in
          let alone : block.items ++ joined others ≡ block.items = ap (λ ys. block.items ++ ys) none ∙ append-nil block.items in
          ap (λ ys. written at new block.items ++ ys) none ∙ (append-nil (written at new block.items) ∙ ap (written at new) (sym alone)))
      | inr full ↦ (let rest = drop (at + length new) block.items in
          let front = take-append-le at block.items (joined others) (omega arith) in
          let back = drop-append-le (at + length new) block.items (joined others) (omega arith) in
          let outer = append_assoc (take at block.items) (new ++ rest) (joined others) in
          let inner = append_assoc new rest (joined others) in
          cc)
    ]

pub written_in : (blocks : List Block) (i : ℕ) (block block' : Block) (at : ℕ) (new : List ℕ) → AreParts blocks → slice_get blocks i ≡ Some block
    → RING_BLOCK * i + at ≤ length (joined blocks) → at + length new ≤ RING_BLOCK → 0 < length new
    → block'.items ≡ written at new block.items → IsWritten blocks i block' at new
written_in [] i block block' at new parts there within room some is = absurd (search rules)
written_in (first ∷ others) zero block block' at new parts there within room some is =
    let same = same_Some first block there in
    let here : RING_BLOCK * 0 + at ≡ at = omega arith in
    let was = first_of first others parts in
    let items : block'.items ≡ written at new first.items = is ∙ ap (λ (b : Block). written at new b.items) (sym same) in
    let front : at ≤ length first.items = front_of first others at was within (omega (arith, room, some)) in
    let size : length block'.items ≡ at + length new + (length first.items - (at + length new)) = ap length items ∙ length-written at new first.items front in
    let now : IsFirst block' others = record {
      few = omega (arith, was.few);
      last = λ short. was.last (omega (arith, size, short));
    } in
    record {
      parts = with_first block' others now (others_of first others parts);
      bytes = rw here (ap (λ ys. ys ++ joined others) items ∙ written_in_first first others at new was (omega (arith, within)) room some);
    }
written_in (first ∷ others) (suc i) block block' at new parts there within room some is =
    let was = first_of first others parts in
    let whole = length-append first.items (joined others) in
    let full : length first.items ≡ RING_BLOCK = full_of first others at i was within in
    let within' : RING_BLOCK * i + at ≤ length (joined others) = omega arith in
    let rest = written_in others i block block' at new (others_of first others parts) there within' room some is in
    let now : IsFirst first (set others i block') = record {
      few = was.few;
      last = λ short. absurd (omega (arith, full, short));
    } in
    let from : RING_BLOCK * suc i + at ≡ length first.items + (RING_BLOCK * i + at) = omega arith in
    let until : RING_BLOCK * suc i + at + length new ≡ length first.items + (RING_BLOCK * i + at + length new) = omega arith in
    let front = ap (λ n. take n (first.items ++ joined others)) from ∙ take-append-add first.items (joined others) (RING_BLOCK * i + at) in
    let back = ap (λ n. drop n (first.items ++ joined others)) until ∙ drop-append-add first.items (joined others) (RING_BLOCK * i + at + length new) in
    let outer = append_assoc first.items (take (RING_BLOCK * i + at) (joined others)) (new ++ drop (RING_BLOCK * i + at + length new) (joined others)) in
    let bytes = rest.bytes in
    record {
      parts = with_first first (set others i block') now rest.parts;
      bytes = cc;
    }

-- a block after one block was written: that block, or one from before
get_in_set : (blocks : List Block) (i j : ℕ) (new block : Block) → slice_get (set blocks i new) j ≡ Some block
    → ((j ≡ i) × (new ≡ block)) ⊎ (slice_get blocks j ≡ Some block)
get_in_set blocks i j new block is =
    elim (cases_eq j i) [
      | inl same ↦ (let low = slice_get_within (set blocks i new) j block is in
          let set_one = slice_get-set_same blocks i new (omega (arith, low, same, length-set blocks i new)) in
          inl (same, same_Some new block (sym set_one ∙ (ap (slice_get (set blocks i new)) (sym same) ∙ is))))
      | inr other ↦ inr (sym (slice_get-set_other blocks i j new other) ∙ is)
    ]

-- how many bytes a block has, and how many more it has room for
pub record HasPart (block : Block) (size len at : ℕ) : Type 0 where
  pub count : length block.items ≡ min RING_BLOCK (len - RING_BLOCK * (at / RING_BLOCK))
  pub room : min RING_BLOCK (size - RING_BLOCK * (at / RING_BLOCK)) ≤ vec_capacity block

pub part_at : (blocks : List Block) (size at : ℕ) (block : Block) → IsRow blocks size → slice_get blocks (at / RING_BLOCK) ≡ Some block
    → HasPart block size (length (joined blocks)) at
part_at blocks size at block row there =
    let offset = RING_BLOCK * (at / RING_BLOCK) in
    record {
      count = ap length (row.parts _ block there) ∙ (length-take RING_BLOCK (drop offset (joined blocks)) ∙ ap (min RING_BLOCK) (length-drop offset (joined blocks)));
      room = row.room (at / RING_BLOCK) block there;
    }

-- bytes that stand in one block are those of the row at their place
pub read_in_block : (blocks : List Block) (size at count : ℕ) (block : Block) → IsRow blocks size → slice_get blocks (at / RING_BLOCK) ≡ Some block
    → at % RING_BLOCK + count ≤ RING_BLOCK → take count (drop (at % RING_BLOCK) block.items) ≡ take count (drop at (joined blocks))
read_in_block blocks size at count block row there within =
    let from = at % RING_BLOCK in
    let offset = RING_BLOCK * (at / RING_BLOCK) in
    let behind = drop offset (joined blocks) in
    let split : RING_BLOCK ≡ from + (RING_BLOCK - from) = omega (arith, within) in
    let place : at ≡ offset + from = omega arith in
    ap (λ ys. take count (drop from ys)) (row.parts (at / RING_BLOCK) block there)
    ∙ (ap (λ n. take count (drop from (take n behind))) split
    ∙ (ap (take count) (drop-take from (RING_BLOCK - from) behind)
    ∙ (take-take count (RING_BLOCK - from) (drop from behind) (omega (arith, within))
    ∙ ap (take count) (drop-drop from offset (joined blocks) ∙ ap (λ n. drop n (joined blocks)) (sym place)))))

-- bytes that are written into one block are written to the row
pub record WritesRow (blocks blocks' : List Block) (size at : ℕ) (new : List ℕ) : Type 0 where
  pub row : IsRow blocks' size
  pub bytes : joined blocks' ≡ written at new (joined blocks)

pub written_row : (blocks : List Block) (size at : ℕ) (block block' : Block) (new : List ℕ) → IsRow blocks size → slice_get blocks (at / RING_BLOCK) ≡ Some block
    → at ≤ length (joined blocks) → at + length new ≤ size → at % RING_BLOCK + length new ≤ RING_BLOCK → 0 < length new
    → block'.items ≡ written (at % RING_BLOCK) new block.items → vec_capacity block ≤ vec_capacity block'
    → WritesRow blocks (set blocks (at / RING_BLOCK) block') size at new
written_row blocks size at block block' new row there within fits room some is more =
    let i = at / RING_BLOCK in
    let place : RING_BLOCK * i + at % RING_BLOCK ≡ at = omega arith in
    let done = written_in blocks i block block' (at % RING_BLOCK) new row.parts there (omega (arith, within)) room some is in
    let bytes : joined (set blocks i block') ≡ written at new (joined blocks) = rw place at done.bytes in
    let long = length-written at new (joined blocks) within in
    record {
      row = record {
        parts = done.parts;
        room = λ j other get.
            (elim (get_in_set blocks i j block' other get) [
              | inl same ↦ (let before = row.room i block there in
                  subst (λ (b : Block). min RING_BLOCK (size - RING_BLOCK * j) ≤ vec_capacity b) same.1 (rw same.0 (omega (arith, before, more))))
              | inr before ↦ row.room j other before
            ]);
        enough = rw length-set row.enough;
        held = omega (arith, ap length bytes, long, row.held, fits);
      };
      bytes = bytes;
    }

-- bytes copied over others of a block, and bytes put behind them
pub over_bytes : (at k : ℕ) (old new : List ℕ) → k ≡ length new → put_mid at k old new ≡ written at new old
over_bytes at k old new same = ap (λ ys. take at old ++ (new ++ ys)) (drop-drop k at old ∙ ap (λ n. drop (at + n) old) same)

pub behind_bytes : (at : ℕ) (old new : List ℕ) → length old ≡ at → old ++ new ≡ written at new old
behind_bytes at old new end =
    let all = take_all at old (omega (arith, end)) in
    let none = drop_all (at + length new) old (omega (arith, end)) in
    sym (ap (λ ys. ys ++ (new ++ drop (at + length new) old)) all ∙ ap (λ ys. old ++ ys) (ap (λ ys. new ++ ys) none ∙ append-nil new))

-- a row without bytes, and with one more block
pub record IsEmptyRow (blocks : List Block) (size : ℕ) : Type 0 where
  pub row : IsRow blocks size
  pub empty : joined blocks ≡ []

pub longer_row : (blocks longer : List Block) (made count : ℕ) (block : Block) → IsRow blocks made → joined blocks ≡ [] → made ≡ RING_BLOCK * length blocks
    → longer ≡ blocks ++ block ∷ [] → block.items ≡ [] → count ≤ RING_BLOCK → count ≤ vec_capacity block → IsEmptyRow longer (made + count)
longer_row blocks longer made count block row empty whole is none few room =
    let more = blocks ++ block ∷ [] in
    let still : joined more ≡ [] = flat_map-append (λ (b : Block). b.items) blocks (block ∷ []) ∙ (ap (λ ys. ys ++ (block.items ++ [])) empty ∙ (append-nil block.items ∙ none)) in
    let long = length-append blocks (block ∷ []) in
    let no_part : (bytes : List ℕ) → bytes ≡ [] → (j : ℕ) → part_of bytes j ≡ [] = λ bytes e j. ap (take RING_BLOCK) (ap (drop (RING_BLOCK * j)) e ∙ drop-nil _) in
    rw is
    (record {
      row = record {
        parts = λ j other get.
            (elim (cases_pushed blocks block j other get) [
              | inl before ↦ (row.parts j other before.1 ∙ (no_part (joined blocks) empty j ∙ sym (no_part (joined more) still j)))
              | inr last ↦ (ap (λ (b : Block). b.items) last.1 ∙ (none ∙ sym (no_part (joined more) still j)))
            ]);
        room = λ j other get.
            (elim (cases_pushed blocks block j other get) [
              | inl before ↦ (let had = row.room j other before.1 in omega (arith, before.0, had, whole))
              | inr last ↦ subst (λ (b : Block). min RING_BLOCK (made + count - RING_BLOCK * j) ≤ vec_capacity b) (sym last.1) (omega (arith, last.0, whole, room))
            ]);
        enough = omega (arith, long, whole, few);
        held = omega (arith, ap length still);
      };
      empty = still;
    })

-- the block in which a place of the row stands
pub block_at : (blocks : List Block) (size at : ℕ) (block : Block) → IsRow blocks size → at < size → block ≡ slice_index_or blocks (at / RING_BLOCK) block
    → slice_get blocks (at / RING_BLOCK) ≡ Some block
block_at blocks size at block row within is = slice_get_read blocks (length blocks) (at / RING_BLOCK) block refl (omega (arith, within, row.enough)) is

-- a block is written where it has bytes already
pub written_over : (blocks : List Block) (size at count k : ℕ) (block : Block) (old part bytes : List ℕ) → IsRow blocks size
    → block ≡ slice_index_or blocks (at / RING_BLOCK) block → old ≡ block.items → at ≤ length (joined blocks) → at + count ≤ size
    → at % RING_BLOCK + count ≤ length block.items → 0 < count → count ≤ length bytes → k ≡ count → part ≡ take count bytes
    → WritesRow blocks (set blocks (at / RING_BLOCK) (with_items block (put_mid (at % RING_BLOCK) k old part))) size at (take count bytes)
written_over blocks size at count k block old part bytes row is same within fits over some few k_is part_is =
    let from = at % RING_BLOCK in
    let there = block_at blocks size at block row (omega (arith, fits, some)) is in
    let has = part_at blocks size at block row there in
    let long : length (take count bytes) ≡ count = omega (arith, few, length-take count bytes) in
    let part_long : length part ≡ count = ap length part_is ∙ long in
    let mid : length part ≡ length (mid_of from k old) = omega (arith, part_long, k_is, ap length same, over, length-take k (drop from old), length-drop from old) in
    let kept = same_len_mid from k old part mid in
    let items = with_items_is block (put_mid from k old part) (omega (arith, kept, ap length same, block.ok.0)) in
    let new : (with_items block (put_mid from k old part)).items ≡ written from (take count bytes) block.items =
    items ∙ (over_bytes from k old part (omega (arith, part_long, k_is)) ∙ (ap (λ ys. written from ys old) part_is ∙ ap (written from (take count bytes)) same)) in
    written_row blocks size at block (with_items block (put_mid from k old part)) (take count bytes) row there within (omega (arith, long, fits)) (omega (arith, long, over, has.count)) (omega (arith, long, some)) new (omega arith)

-- a block is written where its bytes end
pub written_behind : (blocks : List Block) (size at count : ℕ) (block block' : Block) (bytes : List ℕ) → IsRow blocks size
    → slice_get blocks (at / RING_BLOCK) ≡ Some block → at ≤ length (joined blocks) → at + count ≤ size
    → length block.items ≤ at % RING_BLOCK → at % RING_BLOCK + count ≤ RING_BLOCK → 0 < count → count ≤ length bytes
    → block'.items ≡ block.items ++ take count bytes → vec_capacity block ≤ vec_capacity block'
    → WritesRow blocks (set blocks (at / RING_BLOCK) block') size at (take count bytes)
written_behind blocks size at count block block' bytes row there within fits end room some few items more =
    let from = at % RING_BLOCK in
    let has = part_at blocks size at block row there in
    let long : length (take count bytes) ≡ count = omega (arith, few, length-take count bytes) in
    let ends : length block.items ≡ from = omega (arith, has.count, end, within) in
    written_row blocks size at block block' (take count bytes) row there within (omega (arith, long, fits)) (omega (arith, long, room)) (omega (arith, long, some))
    (items ∙ behind_bytes from block.items (take count bytes) ends) more

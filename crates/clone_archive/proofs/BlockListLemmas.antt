-- The bytes in a list of blocks: how many there are, and what a read and a write of one block do.
use Rattle.std.proofs.Common.{◌≡◌, ℕ, suc, ◌+◌, ◌-◌, ◌*◌, ◌/◌, ◌%◌, ◌<◌, ◌≤◌, List, [], ◌∷◌, ◌++◌, length}
use Rattle.std.proofs.Common.{take, drop, get_or, set, arith, ◌∙◌, ap, sym, subst, append_assoc}
use Rattle.std.proofs.Common.{length-append, length-take, length-drop, length-set}
use Rattle.std.specs.Prelude.{Vec}
use Rattle.std.specs.declared.alloc.Global.{Global}
use Rattle.std.specs.List.{flat_map}
use Rattle.std.specs.Vec.{with_items}
use Rattle.std.proofs.lemmas.List.{take-append-le, take-take, drop-take, take-set, get_or-set_same, with_items_is}
use Rattle.std.proofs.lemmas.List.Elements.{All-set, All-get_or, All-push}
use Rattle.std.proofs.lemmas.List.Concat.{flat_map-append}
use Rattle.std.proofs.lemmas.Slice.{take-put_mid}
use borrow.Rule.Slice.PartMut.{put_mid, mid_of, same_len_mid}
use Rattle.clone_base.specs.declared.limits.TheConstants.{LSN_LIMIT}
use Rattle.clone_base.specs.declared.limits.TheConstants.{BLOCK_BYTES}
use Rattle.clone_archive.specs.BlockList.{BlockBytes, BlockList, AreBlocks, IsWhole, bytes_of, bytes_in, room_in}
use Rattle.clone_archive.proofs.JoinedListLemmas.{length-joined, drop-joined, take-joined}

-- there are as many bytes as the list counts
pub byte_count : (blocks : BlockList) (len : ℕ) → AreBlocks blocks len → length (bytes_in blocks len) ≡ len
byte_count blocks len are =
    let all = length-joined bytes_of BLOCK_BYTES blocks are.whole in
    omega (arith, length-take len (flat_map bytes_of blocks), are.held)

-- the list's bytes and its room, as contracts see them
pub block_counts : (blocks : BlockList) (len : ℕ) (seen : BlockBytes) → AreBlocks blocks len → record { bytes = bytes_in blocks len; room = room_in blocks } ≡ seen
    → (length seen.bytes ≡ len) × (seen.room ≡ room_in blocks)
block_counts blocks len seen is shown =
    (ap (λ (r : BlockBytes). length r.bytes) (sym shown) ∙ byte_count blocks len is, ap (λ (r : BlockBytes). r.room) (sym shown))

-- bytes that stand in one block are those of the list at their offset
pub read_in_block : (blocks : BlockList) (len from count : ℕ) (d : Vec ℕ Global) → AreBlocks blocks len
    → from + count ≤ len → from % BLOCK_BYTES + count ≤ BLOCK_BYTES → 0 < count
    → take count (drop (from % BLOCK_BYTES) (get_or blocks (from / BLOCK_BYTES) d).items) ≡ take count (drop from (bytes_in blocks len))
read_in_block blocks len from count d are within in_block some =
    let i = from / BLOCK_BYTES in
    let at = from % BLOCK_BYTES in
    let all = flat_map bytes_of blocks in
    let block = (get_or blocks i d).items in
    let there : i < length blocks = omega (arith, are.held) in
    let whole : length block ≡ BLOCK_BYTES = All-get_or IsWhole blocks i d there are.whole in
    let offset : from ≡ BLOCK_BYTES * i + at = omega arith in
    let held : len ≡ from + (len - from) = omega arith in
    let rest : drop from (take len all) ≡ take (len - from) (drop from all) = ap (λ n. drop from (take n all)) held ∙ drop-take from (len - from) all in
    let here : drop from all ≡ drop at block ++ flat_map bytes_of (drop (suc i) blocks) =
    ap (λ n. drop n all) offset ∙ drop-joined bytes_of BLOCK_BYTES blocks are.whole i at d there (omega arith) in
    sym
    (ap (take count) rest
    ∙ (take-take count (len - from) (drop from all) (omega arith)
    ∙ (ap (take count) here
    ∙ take-append-le count (drop at block) (flat_map bytes_of (drop (suc i) blocks)) (omega (arith, length-drop at block)))))

-- the list after bytes were put behind the others
pub record IsAppended (blocks blocks' : BlockList) (len count : ℕ) (new : List ℕ) : Type 0 where
  pub are : AreBlocks blocks' (len + count)
  pub bytes : bytes_in blocks' (len + count) ≡ bytes_in blocks len ++ new

-- a byte more that has room stands in a block that is there
pub last_block : (blocks : BlockList) (len count : ℕ) → len + count ≤ room_in blocks → 0 < count → len / BLOCK_BYTES < length blocks
last_block blocks len count room some = omega arith

-- a block of a list has its size
pub whole_block : (blocks : BlockList) (len i : ℕ) (block : Vec ℕ Global) → AreBlocks blocks len → i < length blocks → block ≡ get_or blocks i block → IsWhole block
whole_block blocks len i block are there is = subst IsWhole (sym is) (All-get_or IsWhole blocks i block there are.whole)

-- a block with bytes written into it
written_block : (block : Vec ℕ Global) (at count k : ℕ) (old new : List ℕ) → IsWhole block → old ≡ block.items → at + count ≤ BLOCK_BYTES
    → k ≡ count → length new ≡ length (mid_of at k old)
    → IsWhole (with_items block (put_mid at k old new)) × (take (at + count) (with_items block (put_mid at k old new)).items ≡ take at block.items ++ new)
written_block block at count k old new whole same within k_is part =
    let size = ap length same ∙ whole in
    let kept = same_len_mid at k old new part in
    let items = with_items_is block (put_mid at k old new) (omega (arith, block.ok.0)) in (
      ap length items ∙ (kept ∙ size),
      ap (take (at + count)) items
          ∙ (take-put_mid at k old new (at + count) (omega (arith, length-take k (drop at old), length-drop at old)) (omega arith) ∙ ap (λ ys. take at ys ++ new) same),
    )

-- bytes that are written behind the others, in one block, stand behind them in the list
pub appended_in_block : (blocks : BlockList) (len count k : ℕ) (block : Vec ℕ Global) (old new : List ℕ) → AreBlocks blocks len
    → len + count ≤ room_in blocks → len % BLOCK_BYTES + count ≤ BLOCK_BYTES → 0 < count
    → block ≡ get_or blocks (len / BLOCK_BYTES) block → old ≡ block.items → k ≡ count → length new ≡ length (mid_of (len % BLOCK_BYTES) k old)
    → IsAppended blocks (set blocks (len / BLOCK_BYTES) (with_items block (put_mid (len % BLOCK_BYTES) k old new))) len count new
appended_in_block blocks len count k block old new are room in_block some is same k_is part =
    let i = len / BLOCK_BYTES in
    let at = len % BLOCK_BYTES in
    let block' = with_items block (put_mid at k old new) in
    let blocks' = set blocks i block' in
    let there = last_block blocks len count room some in
    let written = written_block block at count k old new (whole_block blocks len i block are there is) same in_block k_is part in
    let whole = All-set IsWhole blocks i block' written.0 are.whole in
    let there' : i < length blocks' = rw length-set there in
    let end : len ≡ BLOCK_BYTES * i + at = omega arith in
    let end' : len + count ≡ BLOCK_BYTES * i + (at + count) = omega arith in
    let here : get_or blocks' i block ≡ block' = get_or-set_same blocks i block' block there in
    let before : take i blocks' ≡ take i blocks = take-set blocks i block' in
    let now = take-joined bytes_of BLOCK_BYTES blocks' whole i (at + count) block there' in_block in
    let was = take-joined bytes_of BLOCK_BYTES blocks are.whole i at block there (omega arith) in
    let joined = append_assoc (flat_map bytes_of (take i blocks)) (take at block.items) new in
    let front = written.1 in
    record {
      are = record {
        whole = whole;
        held = rw length-set room;
        small = rw length-set are.small;
      };
      bytes = cc;
    }

-- one more block adds room, and no bytes
pub added_block : (blocks : BlockList) (len : ℕ) (block : Vec ℕ Global) → AreBlocks blocks len → room_in blocks < LSN_LIMIT → IsWhole block
    → AreBlocks (blocks ++ block ∷ []) len × (bytes_in (blocks ++ block ∷ []) len ≡ bytes_in blocks len)
added_block blocks len block are below whole =
    let longer = length-append blocks (block ∷ []) in
    let all = length-joined bytes_of BLOCK_BYTES blocks are.whole in (
      record {
        whole = All-push IsWhole blocks block are.whole whole;
        held = omega (arith, are.held);
        small = omega (arith, are.held);
      },
      ap (take len) (flat_map-append bytes_of blocks (block ∷ []))
          ∙ take-append-le len (flat_map bytes_of blocks) (flat_map bytes_of (block ∷ [])) (omega (arith, are.held)),
    )

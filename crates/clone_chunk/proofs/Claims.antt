-- The search for the least free chunk, and what a claim and a finish leave.
use Rattle.std.proofs.Common.{◌≡◌, ◌≢◌, ℕ, ◌+◌, ◌-◌, ◌<◌, ◌≤◌, true, false, cond, ltb, List, Option, Some, None, length, drop, set, get_or, refl, sym, ap, ◌∙◌, subst, arith, inl, inr}
use Rattle.std.specs.List.{slice_get, position, position_or_len, All}
use Rattle.std.proofs.lemmas.Bool.{cases_eq, cases_lt, lt-ltb, le-ltb}
use Rattle.std.proofs.lemmas.List.{length-set}
use Rattle.std.proofs.lemmas.List.Sums.{sum_by-set, fails_before_first, passes_at_first}
use Rattle.std.proofs.lemmas.Option.{slice_get-get_or, slice_get_within, get_or_from_slice_get}
use Rattle.clone_chunk.specs.declared.chunk.Chunk.{Chunk}
use Rattle.clone_chunk.specs.declared.chunk.Chunk.TheVariants.{Free, Claimed, Finished}
use Rattle.clone_chunk.specs.Chunks.{is_free, is_unfinished, left_of, IsTaken, IsLeastFree, IsMap}
use Rattle.clone_chunk.proofs.Indexes.{slice_get-drop, slice_get-set_same, slice_get-set_other}

abbrev answer : Option ℕ → Option ℕ
answer x = x

free_is : (chunk : Chunk) → is_free chunk ≡ true → chunk ≡ Free
free_is Free e = refl
free_is (Claimed task) e = absurd (cc)
free_is Finished e = absurd (cc)

-- no chunk before the first free one is free
none_before : (states : List Chunk) (k : ℕ) → k < position_or_len is_free states → slice_get states k ≢ Some Free
none_before states k below free =
    let fails : is_free (get_or states k Free) ≡ false = fails_before_first is_free states k Free below in
    let same : get_or states k Free ≡ Free = get_or_from_slice_get states k Free Free free in
    (let wrong : is_free Free ≡ false = rw same at fails in cc)

found : (states : List Chunk) (n : ℕ) → position is_free states ≡ Some n → IsLeastFree states n
found states n e =
    let first = position_or_len is_free states in
    elim (cases_lt first (length states)) [
      | inl within ↦
          let test : ltb first (length states) ≡ true = lt-ltb _ _ within in
          let here : answer (Some first) ≡ answer (Some n) = rw test at e in
          let same : first ≡ n = cc in
          let free : get_or states first Free ≡ Free = free_is (get_or states first Free) (passes_at_first is_free states Free within) in
          subst (IsLeastFree states) same (record {
            free = slice_get-get_or states first Free within ∙ ap (λ c. Some c) free;
            least = none_before states;
          })
      | inr past ↦
          let test : ltb first (length states) ≡ false = le-ltb _ _ past in
          let none : answer None ≡ answer (Some n) = rw test at e in
          absurd (cc)
    ]

none_found : (states : List Chunk) → position is_free states ≡ None → (k : ℕ) → slice_get states k ≢ Some Free
none_found states e k free =
    let first = position_or_len is_free states in
    elim (cases_lt first (length states)) [
      | inl within ↦
          let test : ltb first (length states) ≡ true = lt-ltb _ _ within in
          let some : answer (Some first) ≡ answer None = rw test at e in
          cc
      | inr past ↦ none_before states k (let within : k < length states = slice_get_within states k Free free in omega arith) free
    ]

-- what the search finds behind the index that it has come to
pub found_least : (states : List Chunk) (searched ahead left : ℕ) → IsMap states searched left → position is_free (drop searched states) ≡ Some ahead → IsLeastFree states (searched + ahead)
found_least states searched ahead left map e =
    let behind = found (drop searched states) ahead e in
    record {
      free = sym (slice_get-drop searched states ahead) ∙ behind.free;
      least = λ before lt. elim (cases_lt before searched) [
        | inl early ↦ map.none_before before early
        | inr late ↦ λ free.
            let there : searched + (before - searched) ≡ before = omega arith in
            behind.least (before - searched) (omega arith) (slice_get-drop searched states (before - searched) ∙ ap (slice_get states) there ∙ free)
      ];
    }

pub found_none : (states : List Chunk) (searched left : ℕ) → IsMap states searched left → position is_free (drop searched states) ≡ None → (k : ℕ) → slice_get states k ≢ Some Free
found_none states searched left map e k =
    elim (cases_lt k searched) [
      | inl early ↦ map.none_before k early
      | inr late ↦ λ free.
          let there : searched + (k - searched) ≡ k = omega arith in
          none_found (drop searched states) e (k - searched) (slice_get-drop searched states (k - searched) ∙ ap (slice_get states) there ∙ free)
    ]

-- a chunk is free at its index exactly where the index holds a free chunk
pub all_taken : (states : List Chunk) → ((k : ℕ) → slice_get states k ≢ Some Free) → All IsTaken states
all_taken states none k d within free = none k (slice_get-get_or states k d within ∙ ap (λ c. Some c) free)

pub one_free : (states : List Chunk) (n : ℕ) → IsLeastFree states n → All IsTaken states → ⊥
one_free states n least all = all n Free (slice_get_within states n Free least.free) (get_or_from_slice_get states n Free Free least.free)

-- how a write changes how many are left
left_after : (states : List Chunk) (n : ℕ) (old new : Chunk) → slice_get states n ≡ Some old → left_of (set states n new) + cond (is_unfinished old) 1 0 ≡ left_of states + cond (is_unfinished new) 1 0
left_after states n old new there =
    let within = slice_get_within states n old there in
    let at : get_or states n old ≡ old = get_or_from_slice_get states n old old there in
    rw at at (sum_by-set (λ c. cond (is_unfinished c) 1 0) states n new old within)

-- the map after a claim of the least free chunk
pub after_claim : (states : List Chunk) (searched left n task : ℕ) → IsMap states searched left → IsLeastFree states n → IsMap (set states n (Claimed task)) (n + 1) left
after_claim states searched left n task map least =
    let within = slice_get_within states n Free least.free in
    let count = left_after states n Free (Claimed task) least.free in
    record {
      small = rw length-set map.small;
      far = rw length-set (omega arith);
      none_before = λ k below free. elim (cases_eq k n) [
        | inl same ↦ (let claimed : slice_get (set states n (Claimed task)) k ≡ Some (Claimed task) = rw same (slice_get-set_same states n (Claimed task) within) in absurd (cc))
        | inr other ↦ least.least k (omega arith) (sym (slice_get-set_other states n k (Claimed task) other) ∙ free)
      ];
      left_is = omega (arith, map.left_is, count);
    }

pub unfinished_is : (chunk : Chunk) → chunk ≢ Finished → is_unfinished chunk ≡ true
unfinished_is Free other = refl
unfinished_is (Claimed task) other = refl
unfinished_is Finished other = absurd (other refl)

-- the map after a chunk was finished that wasn't
pub after_settle : (states : List Chunk) (searched left n : ℕ) (old : Chunk) → IsMap states searched left → slice_get states n ≡ Some old → is_unfinished old ≡ true → (1 ≤ left) × IsMap (set states n Finished) searched (left - 1)
after_settle states searched left n old map there unfinished =
    let within = slice_get_within states n old there in
    let count = rw unfinished at (left_after states n old Finished there) in (
      omega (arith, map.left_is, count),
      record {
        small = rw length-set map.small;
        far = rw length-set map.far;
        none_before = λ k below free. elim (cases_eq k n) [
          | inl same ↦ (let done : slice_get (set states n Finished) k ≡ Some Finished = rw same (slice_get-set_same states n Finished within) in absurd (cc))
          | inr other ↦ map.none_before k below (sym (slice_get-set_other states n k Finished other) ∙ free)
        ];
        left_is = omega (arith, map.left_is, count);
      },
    )

-- the map after a search that found nothing
pub after_search : (states : List Chunk) (searched left : ℕ) → IsMap states searched left → position is_free (drop searched states) ≡ None → IsMap states (length states) left
after_search states searched left map e =
    record { small = map.small; far = omega arith; none_before = λ k below. found_none states searched left map e k; left_is = map.left_is }

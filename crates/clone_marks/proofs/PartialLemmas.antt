-- The partial chunks of a stage, and the first of them.
use Rattle.std.proofs.Common.{ℕ, suc, ◌≡◌, ◌+◌, ◌<◌, ◌≤◌, true, false, List, [], ◌∷◌, ◌++◌, Some, length, take, get_or, refl, sym, ap, ◌∙◌, subst, arith, inl, inr}
use Rattle.std.specs.List.{All, slice_get}
use Rattle.std.specs.Option.{option_map_or}
use Rattle.std.proofs.lemmas.Bool.{cases_Bool}
use Rattle.std.proofs.lemmas.List.{append-nil, append_assoc, length-append, length-take, length-take-le, take_all, take_more, take-append-le}
use Rattle.std.proofs.lemmas.List.Elements.{All-nil, All-cons, All-append, All-weaker, All-take}
use Rattle.std.proofs.lemmas.Option.{slice_get_within}
use Rattle.clone_chunk.specs.declared.partials.PartialChunk.{PartialChunk}
use Rattle.clone_chunk.specs.Chunks.{has_bit}
use Rattle.clone_chunk.specs.Partials.{IsAbove, AreUnset}
use Rattle.clone_marks.specs.declared.chunk_marks.ChunkMarks.{ChunkMarks}
use Rattle.clone_marks.specs.Blocks.{is_finished, is_finished_at, is_partial, partial_at, partials_from, partials_of}
use Rattle.clone_marks.proofs.ChunkLemmas.{partial_unfinished}

-- a partial chunk that is listed is one of the chunks, which are numbered from here on
pub record IsPartialAt (from : ℕ) (marks : List ChunkMarks) (p : PartialChunk) : Type 0 where
  pub index : ℕ
  pub mark : ChunkMarks
  pub place : p.chunk ≡ from + index
  pub there : slice_get marks index ≡ Some mark
  pub partial : is_partial mark ≡ true

later : (from : ℕ) (x : ChunkMarks) (marks : List ChunkMarks) (p : PartialChunk) → IsPartialAt (from + 1) marks p → IsPartialAt from (x ∷ marks) p
later from x marks p at = record { index = suc at.index; mark = at.mark; place = (let e = at.place in omega arith); there = at.there; partial = at.partial }

here : (from : ℕ) (x : ChunkMarks) (marks : List ChunkMarks) → All (IsPartialAt from (x ∷ marks)) (partial_at from x)
here from x marks =
    let P : PartialChunk → Type 0 = IsPartialAt from (x ∷ marks) in
    elim (cases_Bool (is_partial x)) [
      | inl holds ↦ rw holds (All-cons P (record { chunk = from; mask = x.taken }) [] (record { index = 0; mark = x; place = omega arith; there = refl; partial = holds }) (All-nil P))
      | inr fails ↦ rw fails (All-nil P)
    ]

partials_are : (from : ℕ) (marks : List ChunkMarks) → All (IsPartialAt from marks) (partials_from from marks)
partials_are from [] = All-nil (IsPartialAt from [])
partials_are from (x ∷ marks) =
    All-append (IsPartialAt from (x ∷ marks)) (partial_at from x) (partials_from (from + 1) marks) (here from x marks)
    (All-weaker (IsPartialAt (from + 1) marks) (IsPartialAt from (x ∷ marks)) (later from x marks) (partials_from (from + 1) marks) (partials_are (from + 1) marks))

-- ---- one more chunk

partials_push : (from : ℕ) (marks : List ChunkMarks) (c : ChunkMarks) → partials_from from (marks ++ c ∷ []) ≡ partials_from from marks ++ partial_at (from + length marks) c
partials_push from [] c = let e : from + 0 ≡ from = omega arith in rw e (append-nil (partial_at from c))
partials_push from (x ∷ marks) c =
    let e : from + 1 + length marks ≡ from + suc (length marks) = omega arith in
    ap (λ rest. partial_at from x ++ rest) (partials_push (from + 1) marks c) ∙ rw e (sym (append_assoc (partial_at from x) (partials_from (from + 1) marks) (partial_at (from + suc (length marks)) c)))

pub partials_more : (marks : List ChunkMarks) (c : ChunkMarks) (i : ℕ) → length marks ≡ i → partials_of (marks ++ c ∷ []) ≡ partials_of marks ++ partial_at i c
partials_more marks c i long = let e : 0 + length marks ≡ i = omega arith in partials_push 0 marks c ∙ ap (λ n. partials_of marks ++ partial_at n c) e

-- ---- the first of them

pub room_push : (n : ℕ) (ps : List PartialChunk) (p : PartialChunk) → length (take n ps) < n → take n (ps ++ p ∷ []) ≡ take n ps ++ p ∷ []
room_push n ps p room =
    let few : length ps < n = omega (arith, room, length-take n ps) in
    let long = length-append ps (p ∷ []) in
    take_all n (ps ++ p ∷ []) (omega (arith, few, long)) ∙ ap (λ xs. xs ++ p ∷ []) (sym (take_all n ps (omega arith)))

pub full_push : (n : ℕ) (ps qs : List PartialChunk) → length (take n ps) ≡ n → take n (ps ++ qs) ≡ take n ps
full_push n ps qs full = take-append-le n ps qs (omega (arith, full, length-take n ps))

pub first_above : (n : ℕ) (marks : List ChunkMarks) (i : ℕ) → length marks ≡ i → IsAbove (take n (partials_of marks)) i
first_above n marks i long =
    let P : PartialChunk → Type 0 = λ p. p.chunk < i in
    All-take P n (partials_of marks) (All-weaker (IsPartialAt 0 marks) P (λ p at.
    let place = at.place in
    let within = slice_get_within marks at.index at.mark at.there in omega arith) (partials_of marks) (partials_are 0 marks))

pub first_unset : (n : ℕ) (marks : List ChunkMarks) (bitmap : List ℕ) → ((i : ℕ) → has_bit bitmap i ≡ is_finished_at marks i) → AreUnset bitmap (take n (partials_of marks))
first_unset n marks bitmap bits =
    let P : PartialChunk → Type 0 = λ p. has_bit bitmap p.chunk ≡ false in
    All-take P n (partials_of marks) (All-weaker (IsPartialAt 0 marks) P (λ p at.
    let place : p.chunk ≡ at.index = at.place ∙ omega arith in
    ap (has_bit bitmap) place ∙ bits at.index ∙ ap (λ o. option_map_or is_finished o false) at.there ∙ partial_unfinished at.mark at.partial) (partials_of marks) (partials_are 0 marks))

-- ---- the walk over the chunks

seen : (marks : List ChunkMarks) (i : ℕ) (d : ChunkMarks) → i < length marks → partials_of (take (i + 1) marks) ≡ partials_of (take i marks) ++ partial_at i (get_or marks i d)
seen marks i d within =
    ap partials_of (take_more marks i d within) ∙ partials_more (take i marks) (get_or marks i d) i (length-take-le i marks (omega arith))

pub seen_partial : (n : ℕ) (marks : List ChunkMarks) (i : ℕ) (d : ChunkMarks) (old : List PartialChunk) → i < length marks → old ≡ take n (partials_of (take i marks)) → is_partial (get_or marks i d) ≡ true → length old < n → old ++ (record { chunk = i; mask = (get_or marks i d).taken }) ∷ [] ≡ take n (partials_of (take (i + 1) marks))
seen_partial n marks i d old within known partial room =
    let c = get_or marks i d in
    let p : PartialChunk = record { chunk = i; mask = c.taken } in
    let ps = partials_of (take i marks) in
    let one : partial_at i c ≡ p ∷ [] = rw partial refl in
    let short : length (take n ps) < n = rw (← known) room in
    ap (λ xs. xs ++ p ∷ []) known ∙ sym (room_push n ps p short) ∙ sym (ap (take n) (seen marks i d within ∙ ap (λ xs. ps ++ xs) one))

pub seen_other : (n : ℕ) (marks : List ChunkMarks) (i : ℕ) (d : ChunkMarks) (old : List PartialChunk) → i < length marks → old ≡ take n (partials_of (take i marks)) → is_partial (get_or marks i d) ≡ false → old ≡ take n (partials_of (take (i + 1) marks))
seen_other n marks i d old within known other =
    let ps = partials_of (take i marks) in
    let none : partial_at i (get_or marks i d) ≡ [] = rw other refl in
    known ∙ sym (ap (take n) (seen marks i d within ∙ ap (λ xs. ps ++ xs) none ∙ append-nil ps))

pub seen_full : (n : ℕ) (marks : List ChunkMarks) (i : ℕ) (d : ChunkMarks) (old : List PartialChunk) → i < length marks → old ≡ take n (partials_of (take i marks)) → length old ≡ n → old ≡ take n (partials_of (take (i + 1) marks))
seen_full n marks i d old within known full =
    let ps = partials_of (take i marks) in
    let long : length (take n ps) ≡ n = rw (← known) full in
    known ∙ sym (ap (take n) (seen marks i d within) ∙ full_push n ps (partial_at i (get_or marks i d)) long)

-- where the list isn't full there is room
pub seen_room : (n : ℕ) (marks : List ChunkMarks) (i : ℕ) (old : List PartialChunk) → old ≡ take n (partials_of (take i marks)) → (length old ≡ n → ⊥) → length old < n
seen_room n marks i old known some =
    let long = ap length known ∙ length-take n (partials_of (take i marks)) in
    omega (arith, long, some)

pub seen_above : (n : ℕ) (marks : List ChunkMarks) (i : ℕ) (old : List PartialChunk) → i ≤ length marks → old ≡ take n (partials_of (take i marks)) → IsAbove old i
seen_above n marks i old within known =
    let P : List PartialChunk → Type 0 = λ ps. IsAbove ps i in
    subst P (sym known) (first_above n (take i marks) i (length-take-le i marks within))

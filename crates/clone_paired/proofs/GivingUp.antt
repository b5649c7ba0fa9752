-- Where each task gives its connection up.
use Rattle.std.proofs.Common.{ℕ, zero, suc, ◌≡◌, ◌≢◌, ◌∙◌, ◌⊎◌, ◌≤◌, ◌+◌, ◌-◌, List, [], ◌∷◌, Bool, true, false, if◌then◌else◌, Option, None, Some, length, map, set, refl, sym, ap, inl, inr, arith, length-append}
use Rattle.std.specs.Prelude.{slice_get, option_map, ◌==◌, ◌||◌, ◌&&◌}
use Rattle.std.specs.Option.{option_and_then, option_map_or}
use Rattle.std.proofs.lemmas.Bool.{both_ways, cases_Bool, cases_eq, eq-eqb, eqb-true, ne_eqb}
use Rattle.std.proofs.lemmas.Option.{slice_get_within}
use Rattle.clone_base.proofs.MapEntries.{slice_get-set_other, slice_get-set_same}
use Rattle.clone_chunk.specs.declared.partials.PartialChunk.{PartialChunk}
use Rattle.clone_marks.specs.Blocks.{is_partial, partial_at, partials_from, partials_of}
use Rattle.clone_marks.specs.Forgetting.{emptied, forgotten, kept_after, left_of}
use Rattle.clone_marks.specs.declared.chunk_marks.ChunkMarks.{ChunkMarks}
use Rattle.clone_network.specs.Connections.{Connection, given_up}
use Rattle.clone_network.specs.Networks.{Seat, all_given_up, given_up_at, vacated}

-- ---- no more than so many chunks are partial after a loss

emptied_whole : (c : ChunkMarks) → is_partial (emptied c) ≡ false
emptied_whole c = refl

partial_none : (chunk : ℕ) (c : ChunkMarks) → is_partial c ≡ false → partial_at chunk c ≡ []
partial_none chunk c is = ap (λ (b : Bool). if b then (record { chunk = chunk; mask = c.taken }) ∷ [] else []) is

partial_one : (chunk : ℕ) (c : ChunkMarks) → length (partial_at chunk c) ≤ 1
partial_one chunk c = by (is_partial c)
  where
    by : (b : Bool) → length {A = PartialChunk} (if b then (record { chunk = chunk; mask = c.taken }) ∷ [] else []) ≤ 1
    by true = omega arith
    by false = omega arith

few_from : (kept chunk : ℕ) (marks : List ChunkMarks) → length (partials_from chunk (forgotten kept marks)) ≤ kept
few_from kept chunk [] = omega arith
few_from kept chunk (c ∷ marks) = by (few_from (kept_after kept c) (chunk + 1) marks) (cases_Bool (is_partial c)) (cases_eq kept 0)
  where
    by : length (partials_from (chunk + 1) (forgotten (kept_after kept c) marks)) ≤ kept_after kept c → (is_partial c ≡ true) ⊎ (is_partial c ≡ false) → (kept ≡ 0) ⊎ (kept ≢ 0) → length (partials_from chunk (forgotten kept (c ∷ marks))) ≤ kept
    by rest (inr whole) more =
        let left : left_of kept c ≡ c = ap (λ (b : Bool). if b && (kept == 0) then emptied c else c) whole in
        let after : kept_after kept c ≡ kept = ap (λ (b : Bool). if b then kept - 1 else kept) whole in
        let none : partial_at chunk (left_of kept c) ≡ [] = ap (partial_at chunk) left ∙ partial_none chunk c whole in
        omega (arith, rest, after, ap length none, length-append (partial_at chunk (left_of kept c)) (partials_from (chunk + 1) (forgotten (kept_after kept c) marks)))
    by rest (inl part) (inl none_left) =
        let left : left_of kept c ≡ emptied c = ap (λ (b : Bool). if b && (kept == 0) then emptied c else c) part ∙ ap (λ (b : Bool). if b then emptied c else c) (eq-eqb kept 0 none_left) in
        let after : kept_after kept c ≡ kept - 1 = ap (λ (b : Bool). if b then kept - 1 else kept) part in
        let none : partial_at chunk (left_of kept c) ≡ [] = ap (partial_at chunk) left ∙ partial_none chunk (emptied c) (emptied_whole c) in
        omega (arith, rest, after, none_left, ap length none, length-append (partial_at chunk (left_of kept c)) (partials_from (chunk + 1) (forgotten (kept_after kept c) marks)))
    by rest (inl part) (inr some) =
        let after : kept_after kept c ≡ kept - 1 = ap (λ (b : Bool). if b then kept - 1 else kept) part in
        let one = partial_one chunk (left_of kept c) in
        omega (arith, rest, after, some, one, length-append (partial_at chunk (left_of kept c)) (partials_from (chunk + 1) (forgotten (kept_after kept c) marks)))

pub forgotten_few : (kept : ℕ) (marks : List ChunkMarks) → length (partials_of (forgotten kept marks)) ≤ kept
forgotten_few kept marks = few_from kept 0 marks

-- ---- each task gives its connection up

abbrev pub has_it : Option ℕ → ℕ → Bool
has_it None number = false
has_it (Some own) number = own == number

abbrev pub has_seat : List Seat → ℕ → Bool
has_seat [] number = false
has_seat (seat ∷ seats) number = has_it seat.connection number || has_seat seats number

abbrev pub given_up_if : Bool → Connection → Connection
given_up_if b c = if b then given_up c else c

map_same : (o : Option Connection) → option_map (λ c. c) o ≡ o
map_same None = refl
map_same (Some c) = refl

map_twice : (a b : Bool) (o : Option Connection) → option_map (given_up_if b) (option_map (given_up_if a) o) ≡ option_map (given_up_if (a || b)) o
map_twice a b None = refl
map_twice true true (Some c) = refl
map_twice true false (Some c) = refl
map_twice false true (Some c) = refl
map_twice false false (Some c) = refl

one_given : (which : Option ℕ) (cs : List Connection) (number : ℕ) → slice_get (given_up_at which cs) number ≡ option_map (given_up_if (has_it which number)) (slice_get cs number)
one_given None cs number = sym (map_same (slice_get cs number))
one_given (Some own) cs number = by (slice_get cs own) refl
  where
    there : (at : Connection) → slice_get cs own ≡ Some at → (own ≡ number) ⊎ (own ≢ number) → slice_get (set cs own (given_up at)) number ≡ option_map (given_up_if (own == number)) (slice_get cs number)
    there at is (inl same) =
        let found : slice_get cs number ≡ Some at = ap (slice_get cs) (sym same) ∙ is in
        ap (slice_get (set cs own (given_up at))) (sym same) ∙ slice_get-set_same cs own (given_up at) (slice_get_within cs own at is) ∙ sym (ap (λ (b : Bool). option_map (given_up_if b) (slice_get cs number)) (eq-eqb own number same) ∙ ap (option_map (given_up_if true)) found)
    there at is (inr other) = slice_get-set_other cs own number (given_up at) (λ same. other (sym same)) ∙ sym (map_same (slice_get cs number)) ∙ sym (ap (λ (b : Bool). option_map (given_up_if b) (slice_get cs number)) (ne_eqb own number other))

    absent : slice_get cs own ≡ None → (own ≡ number) ⊎ (own ≢ number) → slice_get cs number ≡ option_map (given_up_if (own == number)) (slice_get cs number)
    absent is (inl same) = (
        let found : slice_get cs number ≡ None = ap (slice_get cs) (sym same) ∙ is in
        found ∙ sym (ap (option_map (given_up_if (own == number))) found))
    absent is (inr other) = sym (map_same (slice_get cs number)) ∙ sym (ap (λ (b : Bool). option_map (given_up_if b) (slice_get cs number)) (ne_eqb own number other))

    by : (found : Option Connection) → slice_get cs own ≡ found → slice_get (option_map_or (λ at. set cs own (given_up at)) found cs) number ≡ option_map (given_up_if (own == number)) (slice_get cs number)
    by None is = absent is (cases_eq own number)
    by (Some at) is = there at is (cases_eq own number)

pub all_given : (seats : List Seat) (cs : List Connection) (number : ℕ) → slice_get (all_given_up seats cs) number ≡ option_map (given_up_if (has_seat seats number)) (slice_get cs number)
all_given [] cs number = sym (map_same (slice_get cs number))
all_given (seat ∷ seats) cs number = all_given seats (given_up_at seat.connection cs) number ∙ ap (option_map (given_up_if (has_seat seats number))) (one_given seat.connection cs number) ∙ map_twice (has_it seat.connection number) (has_seat seats number) (slice_get cs number)

-- which task has a connection
abbrev pub had_by : List Seat → ℕ → Option ℕ
had_by seats j = option_and_then (λ (s : Seat). s.connection) (slice_get seats j)

it_is : (which : Option ℕ) (number : ℕ) → has_it which number ≡ true → which ≡ Some number
it_is None number is = absurd (cc (is))
it_is (Some own) number is = ap (λ x. Some x) (eqb-true own number is)

is_it : (which : Option ℕ) (number : ℕ) → which ≡ Some number → has_it which number ≡ true
is_it None number is = absurd (cc (is))
is_it (Some own) number is = eq-eqb own number (cc (is))

pub seat_has : (seats : List Seat) (number : ℕ) → has_seat seats number ≡ true → (j : ℕ) × (had_by seats j ≡ Some number)
seat_has [] number is = absurd (cc (is))
seat_has (seat ∷ seats) number is = by (seat_has seats number) (has_it seat.connection number) refl
  where
    by : (has_seat seats number ≡ true → (j : ℕ) × (had_by seats j ≡ Some number)) → (b : Bool) → has_it seat.connection number ≡ b → (j : ℕ) × (had_by (seat ∷ seats) j ≡ Some number)
    by again true own = (0, it_is seat.connection number own)
    by again false none = (let rest = again (sym (ap (λ (b : Bool). b || has_seat seats number) none) ∙ is) in (suc rest.0, rest.1))

pub seat_none : (seats : List Seat) (number : ℕ) → has_seat seats number ≡ false → (j : ℕ) → had_by seats j ≢ Some number
seat_none [] number none j has = cc (has)
seat_none (seat ∷ seats) number none zero has = both_ways (has_it seat.connection number) (first_none (has_it seat.connection number) (has_seat seats number) none) (is_it seat.connection number has)
  where
    first_none : (a b : Bool) → (a || b) ≡ false → a ≡ false
    first_none true b is = absurd (cc (is))
    first_none false b is = refl
seat_none (seat ∷ seats) number none (suc j) has = seat_none seats number (second_none (has_it seat.connection number) (has_seat seats number) none) j has
  where
    second_none : (a b : Bool) → (a || b) ≡ false → b ≡ false
    second_none true b is = absurd (cc (is))
    second_none false b is = is

-- and none has any more
pub vacated_none : (seats : List Seat) (j : ℕ) → had_by (map vacated seats) j ≡ None
vacated_none [] j = refl
vacated_none (seat ∷ seats) zero = refl
vacated_none (seat ∷ seats) (suc j) = vacated_none seats j

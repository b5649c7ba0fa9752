-- Runs of the machine that adds one.
use Rattle.std.proofs.Common.{ℕ, ◌≡◌, ◌+◌, ◌%◌, ◌^◌, ◌<◌, List, [], ◌∷◌, ◌++◌, length, map, refl, sym, ap, ◌∙◌, subst, arith}
use Rattle.std.specs.List.{range_with_len}
use Rattle.std.specs.List.Sorted.{IsPermutation}
use Rattle.std.proofs.lemmas.List.{append-nil, length-append, map-append}
use Rattle.std.proofs.lemmas.List.Sorted.{IsPermutation-map, length_permutation}
use Rattle.clone_turn.specs.declared.view.Entry.{Entry}
use Rattle.clone_turn.specs.Runs.{IsLegalRun, end_of, entries, calls}
use Rattle.clone_turn.specs.Seats.{SeatModel, CellModel, MakesCall, ClosesAt, HasWhole, first_seat, left_seat, right_seat, joined_seat}
use Rattle.clone_turn.specs.Adding.{Adds, HasMade, answers_of}
use Rattle.clone_turn.proofs.Halves.{halves}
use Rattle.clone_turn.proofs.OwnCalls.{calls_more}

abbrev Adding : Type 0
Adding = SeatModel ℕ (Unit {0}) ℕ

module _ (n first : ℕ) (call : Unit {0}) (answer : ℕ) (u v w : Adding) (made : MakesCall Adds first v call answer w) where
  calls_made : calls w.seen ≡ calls v.seen ++ made.1 ∷ []
  calls_made = ap (λ (x : Adding). calls x.seen) made.4 ∙ calls_more v.seen made.0 made.1

  pub made_one : HasMade n u v → HasMade (n + 1) u w
  made_one more = record {
    cell = ap (λ (x : Adding). x.cell) made.4 ∙ more.cell;
    first = ap (λ (x : Adding). x.first) made.4 ∙ more.first;
    count = ap length calls_made ∙ omega (arith, length-append (calls v.seen) (made.1 ∷ []), more.count);
    part = ap (λ (x : Adding). x.part) made.4 ∙ more.part;
    halvings = ap (λ (x : Adding). x.halvings) made.4 ∙ more.halvings;
  }

  pub answered_one : (answers : List ℕ) → answers ≡ answers_of v → answers ++ answer ∷ [] ≡ answers_of w
  answered_one answers same =
      ap (λ xs. xs ++ answer ∷ []) same
      ∙ (ap (λ a. answers_of v ++ a ∷ []) (sym made.3)
      ∙ sym (ap (λ es. map (λ (e : Entry ℕ (Unit {0}) ℕ). e.answer) es) calls_made ∙ map-append (λ (e : Entry ℕ (Unit {0}) ℕ). e.answer) (calls v.seen) (made.1 ∷ [])))

-- a run of adding ends at its length, and answers the numbers up to there
pub sum_of_run : (first : ℕ) (es : List (Entry ℕ (Unit {0}) ℕ)) → IsLegalRun Adds first es → first + length es < 2 ^ 64
    → (end_of first es ≡ first + length es) × (map (λ e. e.answer) es ≡ range_with_len (first + 1) (length es))
sum_of_run first [] legal low = (omega arith, refl)
sum_of_run first (e ∷ es) legal low =
    let after : e.after ≡ first + 1 = (let a : e.after ≡ (first + 1) % 2 ^ 64 = legal.0.0 in omega arith) in
    let more = sum_of_run e.after es legal.1 (omega arith) in
    (more.0 ∙ omega arith, ap (λ a. a ∷ map (λ (x : Entry ℕ (Unit {0}) ℕ). x.answer) es) (legal.0.1 ∙ after) ∙ ap (λ xs. (first + 1) ∷ xs) (more.1 ∙ ap (λ s. range_with_len (s + 1) (length es)) after))

-- n calls by each of the two halves of a seat that had made none
module _ (n sum : ℕ) (c : CellModel ℕ) (p l r one two all : Adding) (low : n < 2 ^ 62) (zero_first : c.first ≡ 0) (start : p ≡ first_seat c) (left_is : l ≡ left_seat p) (right_is : r ≡ right_seat p)
    (a : HasMade n l one) (b : HasMade n r two) (joined_is : all ≡ joined_seat one two) (both : IsPermutation (calls one.seen ++ calls two.seen) (calls all.seen)) (closed : ClosesAt Adds c.first all sum) where
  whole : HasWhole all
  whole =
      let l_is : l ≡ left_seat (first_seat c) = left_is ∙ ap left_seat start in
      let r_is : r ≡ right_seat (first_seat c) = right_is ∙ ap right_seat start in
      let pa : one.part ≡ 1 = a.part ∙ ap (λ (x : Adding). x.part) l_is in
      let pb : two.part ≡ 1 = b.part ∙ ap (λ (x : Adding). x.part) r_is in
      let ha : one.halvings ≡ 1 = a.halvings ∙ (ap (λ (x : Adding). x.halvings) l_is ∙ omega arith) in
      let hb : two.halvings ≡ 1 = b.halvings ∙ (ap (λ (x : Adding). x.halvings) r_is ∙ omega arith) in
      subst HasWhole (sym joined_is) (halves one.part one.halvings two.part two.halvings pa ha pb hb)

  abbrev run : List (Entry ℕ (Unit {0}) ℕ)
  run = entries all.seen ++ closed.0

  run_is : run ≡ calls all.seen
  run_is = let own = closed.3 whole in ap (λ xs. entries all.seen ++ xs) own.0 ∙ (append-nil (entries all.seen) ∙ sym own.1)

  long : length run ≡ n + n
  long = ap length run_is ∙ (length_permutation _ _ both ∙ omega (arith, length-append (calls one.seen) (calls two.seen), a.count, b.count))

  ends : (end_of c.first run ≡ c.first + length run) × (map (λ e. e.answer) run ≡ range_with_len (c.first + 1) (length run))
  ends = sum_of_run c.first run closed.1 (let x = long in omega arith)

  pub summed : sum ≡ n + n
  summed = closed.2 ∙ (ends.0 ∙ (let x = long in omega arith))

  pub answered : IsPermutation (answers_of one ++ answers_of two) (range_with_len 1 (n + n))
  answered =
      let f : Entry ℕ (Unit {0}) ℕ → ℕ = λ e. e.answer in
      let all_is : map f (calls all.seen) ≡ range_with_len 1 (n + n) =
      ap (λ es. map f es) (sym run_is) ∙ (ends.1 ∙ (ap (λ k. range_with_len (k + 1) (length run)) zero_first ∙ ap (λ k. range_with_len 1 k) long)) in
      subst (λ xs. IsPermutation xs (range_with_len 1 (n + n))) (map-append f (calls one.seen) (calls two.seen))
      (subst (λ xs. IsPermutation (map f (calls one.seen ++ calls two.seen)) xs) all_is (IsPermutation-map f _ _ both))

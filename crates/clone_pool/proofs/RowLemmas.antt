-- A frame leaves a row, or joins it.
use Rattle.std.proofs.Common.{◌≡◌, ◌≢◌, ◌<◌, ◌≤◌, ◌+◌, ◌-◌, ◌⊎◌, inl, inr, ℕ, Bool, eqb, true, false, replicate, List, [], length, set, get_or, refl, sym, ap, subst, ◌∙◌, arith, Result, Ok, Err, OnOk, OnErr, Option, Some, None, IsSome, OnSome}
use Rattle.std.specs.List.{insert, remove, list_any}
use Rattle.std.proofs.lemmas.Bool.{cases_eq, cases_lt, eqb-true, ne_eqb}
use Rattle.std.proofs.lemmas.List.{length-set, get_or-set_same, get_or-set_other, get_or_past, get_or_default, get_or_read, get_or-replicate, length-replicate}
use Rattle.std.proofs.lemmas.List.Folds.{Any-from_list_any}
use Rattle.std.proofs.lemmas.Map.Keys.{IsDistinct-from_apart}
use Rattle.std.proofs.lemmas.Map.Steps.{length-le_from_distinct_below}
use Rattle.std.proofs.lemmas.List.Edits.{length-insert, get_or-insert_below, get_or-insert_at, get_or-insert_above, length-remove, get_or-remove_below, get_or-remove_above}
use Rattle.clone_pool.specs.declared.tournament.Rank.{Rank}
use Rattle.clone_pool.specs.declared.tournament.TheConstants.{NO_NUMBER}
use Rattle.clone_pool.specs.Tournament.{rank_at, is_before, no_rank, IsFirst}
use Rattle.clone_pool.specs.Row.{IsRow, IsBetween, TakesPart, frame_in, rank_in}
use Rattle.clone_pool.proofs.RankLemmas.{rank_irrefl, rank_trans, rank_asym, less_number}

-- a frame that takes part is one of the frames
pub part_within : (ranks : List Rank) (at : ℕ) → TakesPart ranks at → at < length ranks
part_within ranks at part = by (cases_lt at (length ranks))
  where
    by : (at < length ranks) ⊎ (length ranks ≤ at) → at < length ranks
    by (inl low) = low
    by (inr past) =
        let is : rank_at ranks at ≡ no_rank = get_or_past ranks at no_rank past in
        absurd (let no : NO_NUMBER < NO_NUMBER = subst (λ (r : Rank). r.number < NO_NUMBER) is part in omega arith)

-- where an entry was, before the one at a place went
record Was (row : List ℕ) (place i : ℕ) : Type 0 where
  at : ℕ
  low : at < length row
  is : frame_in (remove row place) i ≡ frame_in row at
  side : ((i < place) × (at ≡ i)) ⊎ ((place ≤ i) × (at ≡ i + 1))

was : (row : List ℕ) (place i : ℕ) → place < length row → i < length (remove row place) → Was row place i
was row place i within low = by (cases_lt i place)
  where
    by : (i < place) ⊎ (place ≤ i) → Was row place i
    by (inl before) = record { at = i; low = omega (arith, within, before); is = get_or-remove_below row place 0 i before within; side = inl (before, refl) }
    by (inr behind) = record { at = i + 1; low = omega (arith, low, length-remove row place within); is = get_or-remove_above row place 0 i behind within; side = inr (behind, refl) }

was_other : (place i at : ℕ) → ((i < place) × (at ≡ i)) ⊎ ((place ≤ i) × (at ≡ i + 1)) → (at < place) ⊎ (place < at)
was_other place i at (inl s) = inl (omega (arith, s.0, s.1))
was_other place i at (inr s) = inr (omega (arith, s.0, s.1))

was_up : (place i j a b : ℕ) → i < j → ((i < place) × (a ≡ i)) ⊎ ((place ≤ i) × (a ≡ i + 1)) → ((j < place) × (b ≡ j)) ⊎ ((place ≤ j) × (b ≡ j + 1)) → a < b
was_up place i j a b less (inl s) (inl t) = omega (arith, s.1, t.1)
was_up place i j a b less (inl s) (inr t) = omega (arith, s.1, t.1)
was_up place i j a b less (inr s) (inl t) = absurd (omega (arith, s.0, t.0))
was_up place i j a b less (inr s) (inr t) = omega (arith, s.1, t.1)

module _ (ranks : List Rank) (row : List ℕ) (r : IsRow ranks row) (place at : ℕ) (within : place < length row) (is : frame_in row place ≡ at) where
  abbrev ranks' : List Rank
  ranks' = set ranks at no_rank

  abbrev row' : List ℕ
  row' = remove row place

  apart : (k : ℕ) → k < length row → (k < place) ⊎ (place < k) → frame_in row k ≢ at
  apart k low (inl before) = λ e. r.once k place before within (e ∙ sym is)
  apart k low (inr behind) = λ e. r.once place k behind low (is ∙ sym e)

  same_rank : (i : ℕ) (w : Was row place i) → rank_in ranks' row' i ≡ rank_in ranks row w.at
  same_rank i w = ap (rank_at ranks') w.is ∙ get_or-set_other ranks at (frame_in row w.at) no_rank no_rank (apart w.at w.low (was_other place i w.at w.side))

  pub left : IsRow (set ranks at no_rank) (remove row place)
  left = record {
    part = λ i low. let w = was row place i within low in subst (λ (x : Rank). x.number < NO_NUMBER) (sym (same_rank i w)) (r.part w.at w.low);
    there = λ b low part. by b low part (cases_eq b at);
    once = λ i j less low.
        let v = was row place i within (omega (arith, less, low)) in
        let w = was row place j within low in
        λ e. r.once v.at w.at (was_up place i j v.at w.at less v.side w.side) w.low (sym v.is ∙ e ∙ w.is);
    sorted = λ i j less low.
        let v = was row place i within (omega (arith, less, low)) in
        let w = was row place j within low in
        (λ k. is_before (same_rank j w k) (same_rank i v k)) ∙ r.sorted v.at w.at (was_up place i j v.at w.at less v.side w.side) w.low;
  }
    where
      long : length row' + 1 ≡ length row
      long = length-remove row place within

      found : (b i : ℕ) → i < length row → frame_in row i ≡ b → b ≢ at → (i < place) ⊎ (place ≤ i) → (j : ℕ) × (j < length row') × (frame_in row' j ≡ b)
      found b i low e other (inl before) = (i, omega (arith, before, within, long), get_or-remove_below row place 0 i before within ∙ e)
      found b i low e other (inr behind) =
          let less : place < i = more (cases_eq i place) in
          let at_end : (i - 1) + 1 ≡ i = omega (arith, less) in
          (i - 1, omega (arith, low, long, less), get_or-remove_above row place 0 (i - 1) (omega (arith, less)) within ∙ ap (frame_in row) at_end ∙ e)
        where
          more : (i ≡ place) ⊎ (i ≢ place) → place < i
          more (inl same) = absurd (other (sym e ∙ ap (frame_in row) same ∙ is))
          more (inr differs) = omega (arith, differs, behind)

      by : (b : ℕ) → b < length ranks' → TakesPart ranks' b → (b ≡ at) ⊎ (b ≢ at) → (j : ℕ) × (j < length row') × (frame_in row' j ≡ b)
      by b low part (inl same) =
          let none : rank_at ranks' b ≡ no_rank = ap (rank_at ranks') same ∙ get_or-set_same ranks at no_rank no_rank (omega (arith, low, same, length-set ranks at no_rank)) in
          absurd (let no : NO_NUMBER < NO_NUMBER = subst (λ (x : Rank). x.number < NO_NUMBER) none part in omega arith)
      by b low part (inr other) =
          let t = r.there b (omega (arith, low, length-set ranks at no_rank)) (subst (λ (x : Rank). x.number < NO_NUMBER) (get_or-set_other ranks at b no_rank no_rank other) part) in
          found b t.0 t.1 t.2 other (cases_lt t.0 place)

-- the frames in a row are no more than there are
pub few : (ranks : List Rank) (row : List ℕ) → IsRow ranks row → length row ≤ length ranks
few ranks row r = length-le_from_distinct_below row (length ranks) (IsDistinct-from_apart eqb row apart) below
  where
    apart : (i j d : ℕ) → i < j → j < length row → eqb (get_or row i d) (get_or row j d) ≡ false
    apart i j d less low = ne_eqb (get_or row i d) (get_or row j d) (λ e. r.once i j less low (get_or_default row i 0 d (omega (arith, less, low)) ∙ e ∙ get_or_default row j d 0 low))

    below : (q : ℕ) → list_any (eqb q) row ≡ true → q < length ranks
    below q any =
        let on = Any-from_list_any (eqb q) row any in
        let at : q ≡ on.1 = eqb-true q on.1 on.4 in
        let here : frame_in row on.0 ≡ on.1 = get_or_default row on.0 0 on.1 on.2 ∙ on.3 in
        subst (λ (n : ℕ). n < length ranks) (here ∙ sym at) (part_within ranks (frame_in row on.0) (r.part on.0 on.2))

-- where an entry came from, after another frame joined at a place
record Old (row : List ℕ) (place at i : ℕ) : Type 0 where
  from : ℕ
  low : from < length row
  is : frame_in (insert row place at) i ≡ frame_in row from
  side : ((from < place) × (i ≡ from)) ⊎ ((place ≤ from) × (i ≡ from + 1))

abbrev Came : List ℕ → ℕ → ℕ → ℕ → Type 0
Came row place at i = ((i ≡ place) × (frame_in (insert row place at) i ≡ at)) ⊎ Old row place at i

came : (row : List ℕ) (place at i : ℕ) → place ≤ length row → i < length (insert row place at) → Came row place at i
came row place at i within low = by (cases_lt i place) (cases_eq i place)
  where
    long : length (insert row place at) ≡ length row + 1
    long = length-insert row place at within

    by : (i < place) ⊎ (place ≤ i) → (i ≡ place) ⊎ (i ≢ place) → Came row place at i
    by (inl before) _ = inr (record { from = i; low = omega (arith, before, within); is = get_or-insert_below row place at 0 i before within; side = inl (before, refl) })
    by (inr behind) (inl same) = inl (same, ap (frame_in (insert row place at)) same ∙ get_or-insert_at row place at 0 within)
    by (inr behind) (inr other) =
        let back : i ≡ (i - 1) + 1 = omega (arith, behind, other) in
        inr (record { from = i - 1; low = omega (arith, low, long, behind, other); is = ap (frame_in (insert row place at)) back ∙ get_or-insert_above row place at 0 (i - 1) (omega (arith, behind, other)) within; side = inr (omega (arith, behind, other), back) })

old_up : (place i j a b : ℕ) → i < j → ((a < place) × (i ≡ a)) ⊎ ((place ≤ a) × (i ≡ a + 1)) → ((b < place) × (j ≡ b)) ⊎ ((place ≤ b) × (j ≡ b + 1)) → a < b
old_up place i j a b less (inl s) (inl t) = omega (arith, less, s.1, t.1)
old_up place i j a b less (inl s) (inr t) = omega (arith, s.0, t.0)
old_up place i j a b less (inr s) (inl t) = absurd (omega (arith, less, s.0, s.1, t.0, t.1))
old_up place i j a b less (inr s) (inr t) = omega (arith, less, s.1, t.1)

module _ (ranks : List Rank) (row : List ℕ) (r : IsRow ranks row) (place at : ℕ) (rank : Rank) (low_at : at < length ranks) (out : NO_NUMBER ≤ (rank_at ranks at).number) (part : rank.number < NO_NUMBER) (b : IsBetween ranks row rank place) where
  abbrev set_ranks : List Rank
  set_ranks = set ranks at rank

  abbrev longer : List ℕ
  longer = insert row place at

  not_there : (k : ℕ) → k < length row → frame_in row k ≢ at
  not_there k low = λ e. let takes : TakesPart ranks at = subst (TakesPart ranks) e (r.part k low) in omega (arith, takes, out)

  new_rank : (i : ℕ) → frame_in longer i ≡ at → rank_in set_ranks longer i ≡ rank
  new_rank i is = ap (rank_at set_ranks) is ∙ get_or-set_same ranks at rank no_rank low_at

  old_rank : (i : ℕ) (o : Old row place at i) → rank_in set_ranks longer i ≡ rank_in ranks row o.from
  old_rank i o = ap (rank_at set_ranks) o.is ∙ get_or-set_other ranks at (frame_in row o.from) rank no_rank (not_there o.from o.low)

  pub joined : IsRow (set ranks at rank) (insert row place at)
  joined = record {
    part = λ i low. part_of i (came row place at i b.within low);
    there = λ f low takes. there_of f low takes (cases_eq f at);
    once = λ i j less low. once_of i j less (came row place at i b.within (omega (arith, less, low))) (came row place at j b.within low);
    sorted = λ i j less low. sorted_of i j less (came row place at i b.within (omega (arith, less, low))) (came row place at j b.within low);
  }
    where
      part_of : (i : ℕ) → Came row place at i → TakesPart set_ranks (frame_in longer i)
      part_of i (inl new) = subst (λ (x : Rank). x.number < NO_NUMBER) (sym (new_rank i new.1)) part
      part_of i (inr o) = subst (λ (x : Rank). x.number < NO_NUMBER) (sym (old_rank i o)) (r.part o.from o.low)

      place_of : (f k : ℕ) → k < length row → frame_in row k ≡ f → (k < place) ⊎ (place ≤ k) → (i : ℕ) × (i < length longer) × (frame_in longer i ≡ f)
      place_of f k low is (inl before) = (k, omega (arith, low, length-insert row place at b.within), get_or-insert_below row place at 0 k before b.within ∙ is)
      place_of f k low is (inr behind) = (k + 1, omega (arith, low, length-insert row place at b.within), get_or-insert_above row place at 0 k behind b.within ∙ is)

      there_of : (f : ℕ) → f < length set_ranks → TakesPart set_ranks f → (f ≡ at) ⊎ (f ≢ at) → (i : ℕ) × (i < length longer) × (frame_in longer i ≡ f)
      there_of f low takes (inl same) = (place, omega (arith, b.within, length-insert row place at b.within), get_or-insert_at row place at 0 b.within ∙ sym same)
      there_of f low takes (inr other) =
          let t = r.there f (omega (arith, low, length-set ranks at rank)) (subst (λ (x : Rank). x.number < NO_NUMBER) (get_or-set_other ranks at f rank no_rank other) takes) in
          place_of f t.0 t.1 t.2 (cases_lt t.0 place)

      once_of : (i j : ℕ) → i < j → Came row place at i → Came row place at j → frame_in longer i ≢ frame_in longer j
      once_of i j less (inl v) (inl w) = absurd (omega (arith, less, v.0, w.0))
      once_of i j less (inl v) (inr w) = λ e. not_there w.from w.low (sym w.is ∙ sym e ∙ v.1)
      once_of i j less (inr v) (inl w) = λ e. not_there v.from v.low (sym v.is ∙ e ∙ w.1)
      once_of i j less (inr v) (inr w) = λ e. r.once v.from w.from (old_up place i j v.from w.from less v.side w.side) w.low (sym v.is ∙ e ∙ w.is)

      behind_place : (i k : ℕ) → place < i → ((k < place) × (i ≡ k)) ⊎ ((place ≤ k) × (i ≡ k + 1)) → place ≤ k
      behind_place i k less (inl s) = absurd (omega (arith, less, s.0, s.1))
      behind_place i k less (inr s) = s.0

      before_place : (i k : ℕ) → i < place → ((k < place) × (i ≡ k)) ⊎ ((place ≤ k) × (i ≡ k + 1)) → k < place
      before_place i k less (inl s) = s.0
      before_place i k less (inr s) = absurd (omega (arith, less, s.0, s.1))

      sorted_of : (i j : ℕ) → i < j → Came row place at i → Came row place at j → is_before (rank_in set_ranks longer j) (rank_in set_ranks longer i) ≡ false
      sorted_of i j less (inl v) (inl w) = absurd (omega (arith, less, v.0, w.0))
      sorted_of i j less (inl v) (inr w) = (λ k. is_before (old_rank j w k) (new_rank i v.1 k)) ∙ b.before w.from (behind_place j w.from (omega (arith, less, v.0)) w.side) w.low
      sorted_of i j less (inr v) (inl w) = (λ k. is_before (new_rank j w.1 k) (old_rank i v k)) ∙ b.behind v.from (before_place i v.from (omega (arith, less, w.0)) v.side)
      sorted_of i j less (inr v) (inr w) = (λ k. is_before (old_rank j w k) (old_rank i v k)) ∙ r.sorted v.from w.from (old_up place i j v.from w.from less v.side w.side) w.low

-- the first of a row goes before the others
pub first_of_row : (ranks : List Rank) (row : List ℕ) → IsRow ranks row → 0 < length row → IsFirst ranks (frame_in row 0)
first_of_row ranks row r some = record {
  within = part_within ranks (frame_in row 0) (r.part 0 some);
  part = r.part 0 some;
  first = λ other low. by other (cases_lt (rank_at ranks other).number NO_NUMBER) low;
}
  where
    later : (other i : ℕ) → i < length row → frame_in row i ≡ other → (i ≡ 0) ⊎ (i ≢ 0) → is_before (rank_at ranks other) (rank_in ranks row 0) ≡ false
    later other i low is (inl same) = ap (λ (f : ℕ). is_before (rank_at ranks f) (rank_in ranks row 0)) (sym is ∙ ap (frame_in row) same) ∙ rank_irrefl (rank_in ranks row 0)
    later other i low is (inr more) = ap (λ (f : ℕ). is_before (rank_at ranks f) (rank_in ranks row 0)) (sym is) ∙ r.sorted 0 i (omega (arith, more)) low

    by : (other : ℕ) → ((rank_at ranks other).number < NO_NUMBER) ⊎ (NO_NUMBER ≤ (rank_at ranks other).number) → other < length ranks → is_before (rank_at ranks other) (rank_in ranks row 0) ≡ false
    by other (inl takes) low = let t = r.there other low takes in later other t.0 t.1 t.2 (cases_eq t.0 0)
    by other (inr out) low = less_number (rank_in ranks row 0) (rank_at ranks other) (omega (arith, out, r.part 0 some))

-- where no frame takes part the row is empty
pub empty_row : (count : ℕ) → IsRow (replicate count no_rank) []
empty_row count = record {
  part = λ i low. absurd (omega (arith, low));
  there = λ at low takes. let is = get_or-replicate count at no_rank no_rank (omega (arith, low, length-replicate count no_rank)) in absurd (let no : NO_NUMBER < NO_NUMBER = subst (λ (r : Rank). r.number < NO_NUMBER) is takes in omega arith);
  once = λ i j less low. absurd (omega (arith, low));
  sorted = λ i j less low. absurd (omega (arith, low));
}

-- the place that a walk from the end stops at
pub between : (ranks : List Rank) (row : List ℕ) (rank : Rank) (place : ℕ) → IsRow ranks row → place ≤ length row → ((i : ℕ) → place ≤ i → i < length row → is_before rank (rank_in ranks row i) ≡ true) → (0 < place → is_before rank (rank_in ranks row (place - 1)) ≡ false) → IsBetween ranks row rank place
between ranks row rank place r within before stops = record {
  within = within;
  behind = λ i less. by i less (cases_eq i (place - 1));
  before = λ i high low. rank_asym (rank_in ranks row i) rank (before i high low);
}
  where
    by : (i : ℕ) → i < place → (i ≡ place - 1) ⊎ (i ≢ place - 1) → is_before rank (rank_in ranks row i) ≡ false
    by i less (inl same) = ap (λ (k : ℕ). is_before rank (rank_in ranks row k)) same ∙ stops (omega (arith, less))
    by i less (inr other) = rank_trans (rank_in ranks row i) (rank_in ranks row (place - 1)) rank (r.sorted i (place - 1) (omega (arith, less, other)) (omega (arith, less, within))) (stops (omega (arith, less)))

-- one place more of a walk from the end
pub one_more : (ranks : List Rank) (row : List ℕ) (rank : Rank) (place : ℕ) → ((i : ℕ) → place ≤ i → i < length row → is_before rank (rank_in ranks row i) ≡ true) → is_before rank (rank_in ranks row (place - 1)) ≡ true → (i : ℕ) → place - 1 ≤ i → i < length row → is_before rank (rank_in ranks row i) ≡ true
one_more ranks row rank place before test i high low = by (cases_eq i (place - 1))
  where
    by : (i ≡ place - 1) ⊎ (i ≢ place - 1) → is_before rank (rank_in ranks row i) ≡ true
    by (inl same) = ap (λ (k : ℕ). is_before rank (rank_in ranks row k)) same ∙ test
    by (inr other) = before i (omega (arith, high, other)) low

-- what holds where a call succeeds, and it can't fail
pub on_ok : {A B P Q : Type 0} (r : Result A B) → OnErr r Q → (Q → ⊥) → OnOk r P → P
on_ok (Ok x) err never ok = ok
on_ok (Err e) err never ok = absurd (never err)

-- the same of an option
pub on_some : {A P : Type 0} (o : Option A) → IsSome o → OnSome o P → P
on_some (Some x) some ok = ok
on_some None some ok = absurd (cc)

-- what a test of the rank of a frame in the row says
pub tested : (ranks : List Rank) (row : List ℕ) (rank : Rank) (place at : ℕ) (d : Rank) (answer : Bool) → place < length row → TakesPart ranks (frame_in row place) → at ≡ get_or row place at → answer ≡ is_before rank (get_or ranks at d) → is_before rank (rank_in ranks row place) ≡ answer
tested ranks row rank place at d answer low part is test =
    let read = get_or_read row place at low is 0 in
    let within = subst (λ n. n < length ranks) (sym read) (part_within ranks (frame_in row place) part) in
    ap (is_before rank) (ap (rank_at ranks) (sym read) ∙ get_or_default ranks at no_rank d within) ∙ sym test

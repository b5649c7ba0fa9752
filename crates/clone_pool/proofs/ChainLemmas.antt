-- A frame is taken out of its chain, and put into one.
use Rattle.std.proofs.Common.{◌≡◌, ◌≢◌, ◌<◌, ◌≤◌, ◌+◌, ◌-◌, ◌*◌, ◌⊎◌, inl, inr, ℕ, cond, nat_lt, List, length, get_or, set, Option, Some, None, option_map, sym, ap, subst, ◌∙◌, arith}
use Rattle.std.proofs.lemmas.Bool.{cases_eq, cases_lt}
use Rattle.std.proofs.lemmas.List.{length-set, get_or-set_same, get_or-set_other, get_or_past}
use Rattle.clone_pool.specs.declared.frame.PageName.{PageName}
use Rattle.clone_pool.specs.Index.{Names, bucket_of, bucket_at, IsNext, IsIndex, IsCellOf, LeadsTo}

abbrev cell_at : List ℕ → ℕ → ℕ
cell_at cells i = get_or cells i 0

one_of : (a b : ℕ) → Some a ≡ Some b → a ≡ b
one_of a b e = cc

bucket_within : (count : ℕ) (names : Names) (at b : ℕ) → bucket_at count names at ≡ Some b → at < length names
bucket_within count names at b is = by (cases_lt at (length names))
  where
    by : (at < length names) ⊎ (length names ≤ at) → at < length names
    by (inl low) = low
    by (inr past) = let none : bucket_at count names at ≡ None = ap (option_map (bucket_of count)) (get_or_past names at None past) in let no : None ≡ Some b = sym none ∙ is in absurd (cc)

module _ (count : ℕ) (names : Names) (cells : List ℕ) (x : IsIndex count names cells) (b : ℕ) (low_b : b ≤ count) (at : ℕ) (low : at < count) (cell : ℕ) (l : LeadsTo count names cells b at cell) where
  -- any other frame before this one in the bucket leads to one before it
  pub passes : (i : ℕ) → bucket_at count names i ≡ Some b → i < at → i ≢ cell → at ≤ cell_at cells i → ⊥
  passes i is less other reaches = by l.cell_of (cases_lt i cell)
    where
      by : IsCellOf count names b at cell → (i < cell) ⊎ (cell ≤ i) → ⊥
      by (inl e) which = (subst (λ (z : ℕ). IsNext count names b 0 (cell_at cells z)) (sym e) (x.first b low_b)).between i (omega arith) (omega (arith, less, l.reaches)) is
      by (inr s) (inl below) = (x.next i b is).between cell (omega (arith, below)) (omega (arith, s.0, reaches)) s.1
      by (inr s) (inr above) = (x.next cell b s.1).between i (omega (arith, above, other)) (omega (arith, less, l.reaches)) is

  -- and so does the bucket's cell, where it is another one
  pub head_passes : cell ≢ count + b → at ≤ cell_at cells (count + b) → ⊥
  head_passes other reaches = by l.cell_of
    where
      by : IsCellOf count names b at cell → ⊥
      by (inl e) = other e
      by (inr s) = (x.first b low_b).between cell (omega arith) (omega (arith, s.0, reaches)) s.1

  cell_within : IsCellOf count names b at cell → cell < 2 * count + 1
  cell_within (inl e) = omega (arith, e)
  cell_within (inr s) = omega (arith, s.0)

  not_at : IsCellOf count names b at cell → cell ≢ at
  not_at (inl e) same = omega (arith, e, same)
  not_at (inr s) same = omega (arith, s.0, same)

  -- the cell is no other bucket's
  other_head : (b' : ℕ) → b' ≢ b → IsCellOf count names b at cell → count + b' ≢ cell
  other_head b' other (inl e) same = other (omega (arith, e, same))
  other_head b' other (inr s) same = omega (arith, s.0, same)

  -- a frame that has the cell is in the bucket
  cell_bucket : (i b' : ℕ) → i < count → i ≡ cell → bucket_at count names i ≡ Some b' → IsCellOf count names b at cell → (b' ≡ b) × (i < at)
  cell_bucket i b' there same is (inl e) = absurd (omega (arith, e, same))
  cell_bucket i b' there same is (inr s) = (one_of b' b (sym is ∙ ap (bucket_at count names) same ∙ s.1), omega (arith, s.0, same))

  module _ (n : Option PageName) where
    abbrev new : ℕ → Option ℕ
    new i = bucket_at count (set names at n) i

    new_here : new at ≡ option_map (bucket_of count) n
    new_here = ap (option_map (bucket_of count)) (get_or-set_same names at n None (omega (arith, x.named)))

    new_other : (i : ℕ) → i ≢ at → new i ≡ bucket_at count names i
    new_other i other = ap (option_map (bucket_of count)) (get_or-set_other names at i n None other)

    -- what was next still is, where the frame is neither it nor before it in its bucket
    moved : (b' from next : ℕ) → IsNext count names b' from next → (from ≤ at → at < next → new at ≢ Some b') → next ≢ at → IsNext count (set names at n) b' from next
    moved b' from next old inside other = record {
      past = old.past;
      upto = old.upto;
      between = λ i above below. clear i above below (cases_eq i at);
      there = λ less. new_other next other ∙ old.there less;
    }
      where
        clear : (i : ℕ) → from ≤ i → i < next → (i ≡ at) ⊎ (i ≢ at) → new i ≢ Some b'
        clear i above below (inl e) is = inside (omega (arith, above, e)) (omega (arith, below, e)) (subst (λ (z : ℕ). new z ≡ Some b') e is)
        clear i above below (inr apart) is = old.between i above below (sym (new_other i apart) ∙ is)

  -- the frame is taken out of the chain
  pub unlinked : bucket_at count names at ≡ Some b → IsIndex count (set names at None) (set cells cell (cell_at cells at))
  unlinked is = record {
    few = x.few;
    named = length-set names at None ∙ x.named;
    long = length-set cells cell (cell_at cells at) ∙ x.long;
    first = λ b' low'. head b' low' (cases_eq (count + b') cell);
    next = λ i b' is'. link i b' is' (cases_eq i at) (cases_eq i cell);
  }
    where
      onward : IsNext count names b (at + 1) (cell_at cells at)
      onward = x.next at b is

      none : (b' : ℕ) → new None at ≢ Some b'
      none b' some = let no : None ≡ Some b' = sym (new_here None) ∙ some in absurd (cc)

      -- the cell leads to what the frame led to
      skips : (from : ℕ) → from ≤ at → IsNext count names b from (cell_at cells cell) → IsNext count (set names at None) b from (cell_at cells at)
      skips from le old = record {
        past = omega (arith, le, onward.past);
        upto = onward.upto;
        between = λ i above below. clear i above below (cases_eq i at) (cases_lt i at);
        there = λ less. new_other None (cell_at cells at) (λ e. omega (arith, onward.past, e)) ∙ onward.there less;
      }
        where
          clear : (i : ℕ) → from ≤ i → i < cell_at cells at → (i ≡ at) ⊎ (i ≢ at) → (i < at) ⊎ (at ≤ i) → new None i ≢ Some b
          clear i above below (inl e) which some = none b (subst (λ (z : ℕ). new None z ≡ Some b) e some)
          clear i above below (inr apart) (inl less) some = old.between i above (omega (arith, less, l.reaches)) (sym (new_other None i apart) ∙ some)
          clear i above below (inr apart) (inr more) some = onward.between i (omega (arith, more, apart)) below (sym (new_other None i apart) ∙ some)

      value : (i : ℕ) → i ≢ cell → cell_at (set cells cell (cell_at cells at)) i ≡ cell_at cells i
      value i apart = get_or-set_other cells cell i (cell_at cells at) 0 apart

      value_cell : cell_at (set cells cell (cell_at cells at)) cell ≡ cell_at cells at
      value_cell = get_or-set_same cells cell (cell_at cells at) 0 (omega (arith, x.long, cell_within l.cell_of))

      stays : (b' from i : ℕ) → IsNext count names b' from (cell_at cells i) → (b' ≡ b → cell_at cells i ≡ at → ⊥) → i ≢ cell → IsNext count (set names at None) b' from (cell_at (set cells cell (cell_at cells at)) i)
      stays b' from i old passed apart = subst (IsNext count (set names at None) b' from) (sym (value i apart)) (moved None b' from (cell_at cells i) old (λ above below. none b') (λ e. passed (one_of b' b (sym (old.there (omega (arith, low, e))) ∙ ap (bucket_at count names) e ∙ is)) e))

      at_cell : (from : ℕ) → from ≤ at → IsNext count names b from (cell_at cells cell) → (i : ℕ) → i ≡ cell → IsNext count (set names at None) b from (cell_at (set cells cell (cell_at cells at)) i)
      at_cell from le old i e = subst (λ (z : ℕ). IsNext count (set names at None) b from (cell_at (set cells cell (cell_at cells at)) z)) (sym e) (subst (IsNext count (set names at None) b from) (sym value_cell) (skips from le old))

      head : (b' : ℕ) → b' ≤ count → (count + b' ≡ cell) ⊎ (count + b' ≢ cell) → IsNext count (set names at None) b' 0 (cell_at (set cells cell (cell_at cells at)) (count + b'))
      head b' low' (inl e) = by (cases_eq b' b)
        where
          by : (b' ≡ b) ⊎ (b' ≢ b) → IsNext count (set names at None) b' 0 (cell_at (set cells cell (cell_at cells at)) (count + b'))
          by (inl same) = subst (λ (z : ℕ). IsNext count (set names at None) z 0 (cell_at (set cells cell (cell_at cells at)) (count + b'))) (sym same) (at_cell 0 (omega arith) (subst (λ (z : ℕ). IsNext count names b 0 (cell_at cells z)) (ap (λ (z : ℕ). count + z) (sym same) ∙ e) (x.first b low_b)) (count + b') e)
          by (inr other) = absurd (other_head b' other l.cell_of e)
      head b' low' (inr apart) = stays b' 0 (count + b') (x.first b' low') (λ same reaches. head_passes (λ e. apart (ap (λ (z : ℕ). count + z) same ∙ sym e)) (subst (λ (z : ℕ). at ≤ cell_at cells (count + z)) same (omega (arith, reaches)))) apart

      link : (i b' : ℕ) → new None i ≡ Some b' → (i ≡ at) ⊎ (i ≢ at) → (i ≡ cell) ⊎ (i ≢ cell) → IsNext count (set names at None) b' (i + 1) (cell_at (set cells cell (cell_at cells at)) i)
      link i b' is' (inl e) which = absurd (none b' (subst (λ (z : ℕ). new None z ≡ Some b') e is'))
      link i b' is' (inr other) (inl e) =
          let was : bucket_at count names i ≡ Some b' = sym (new_other None i other) ∙ is' in
          let facts = cell_bucket i b' (omega (arith, bucket_within count names i b' was, x.named)) e was l.cell_of in
          subst (λ (z : ℕ). IsNext count (set names at None) z (i + 1) (cell_at (set cells cell (cell_at cells at)) i)) (sym facts.0) (at_cell (i + 1) (omega (arith, facts.1)) (subst (λ (z : ℕ). IsNext count names b (i + 1) (cell_at cells z)) e (x.next i b (was ∙ ap (λ (z : ℕ). Some z) facts.0))) i e)
      link i b' is' (inr other) (inr apart) =
          let was : bucket_at count names i ≡ Some b' = sym (new_other None i other) ∙ is' in
          let old = x.next i b' was in
          stays b' (i + 1) i old (λ same reaches. passes i (was ∙ ap (λ (z : ℕ). Some z) same) (omega (arith, old.past, reaches)) apart (omega (arith, reaches))) apart

  -- the frame is put into the chain
  pub linked : (page : PageName) → bucket_of count page ≡ b → bucket_at count names at ≡ None → IsIndex count (set names at (Some page)) (set (set cells at (cell_at cells cell)) cell at)
  linked page is was_none = record {
    few = x.few;
    named = length-set names at (Some page) ∙ x.named;
    long = length-set (set cells at (cell_at cells cell)) cell at ∙ length-set cells at (cell_at cells cell) ∙ x.long;
    first = λ b' low'. head b' low' (cases_eq (count + b') cell);
    next = λ i b' is'. link i b' is' (cases_eq i at) (cases_eq i cell);
  }
    where
      this : new (Some page) at ≡ Some b
      this = new_here (Some page) ∙ ap (λ (z : ℕ). Some z) is

      value_cell : cell_at (set (set cells at (cell_at cells cell)) cell at) cell ≡ at
      value_cell = get_or-set_same (set cells at (cell_at cells cell)) cell at 0 (omega (arith, x.long, cell_within l.cell_of, length-set cells at (cell_at cells cell)))

      value_at : cell_at (set (set cells at (cell_at cells cell)) cell at) at ≡ cell_at cells cell
      value_at = get_or-set_other (set cells at (cell_at cells cell)) cell at at 0 (λ e. not_at l.cell_of (sym e)) ∙ get_or-set_same cells at (cell_at cells cell) 0 (omega (arith, x.long))

      value : (i : ℕ) → i ≢ cell → i ≢ at → cell_at (set (set cells at (cell_at cells cell)) cell at) i ≡ cell_at cells i
      value i apart other = get_or-set_other (set cells at (cell_at cells cell)) cell i at 0 apart ∙ get_or-set_other cells at i (cell_at cells cell) 0 other

      -- nothing leads to a frame without a name
      not_next : (b' from next : ℕ) → IsNext count names b' from next → next ≢ at
      not_next b' from next old e = let no : None ≡ Some b' = sym was_none ∙ ap (bucket_at count names) (sym e) ∙ old.there (omega (arith, low, e)) in absurd (cc)

      -- the cell leads to the frame
      ends : (from : ℕ) → from ≤ at → IsNext count names b from (cell_at cells cell) → IsNext count (set names at (Some page)) b from at
      ends from le old = record {
        past = le;
        upto = omega arith;
        between = λ i above below some. old.between i above (omega (arith, below, l.reaches)) (sym (new_other (Some page) i (λ e. omega (arith, below, e))) ∙ some);
        there = λ less. this;
      }

      -- and the frame to what the cell led to
      leads : (from : ℕ) → from ≤ at → IsNext count names b from (cell_at cells cell) → IsNext count (set names at (Some page)) b (at + 1) (cell_at cells cell)
      leads from le old = record {
        past = omega (arith, l.reaches, not_next b from (cell_at cells cell) old);
        upto = old.upto;
        between = λ i above below some. old.between i (omega (arith, le, above)) below (sym (new_other (Some page) i (λ e. omega (arith, above, e))) ∙ some);
        there = λ less. new_other (Some page) (cell_at cells cell) (not_next b from (cell_at cells cell) old) ∙ old.there less;
      }

      onward : IsCellOf count names b at cell → IsNext count (set names at (Some page)) b (at + 1) (cell_at cells cell)
      onward (inl e) = leads 0 (omega arith) (subst (λ (z : ℕ). IsNext count names b 0 (cell_at cells z)) (sym e) (x.first b low_b))
      onward (inr s) = leads (cell + 1) (omega (arith, s.0)) (x.next cell b s.1)

      stays : (b' from i : ℕ) → IsNext count names b' from (cell_at cells i) → (b' ≡ b → from ≤ at → at < cell_at cells i → ⊥) → i ≢ cell → i ≢ at → IsNext count (set names at (Some page)) b' from (cell_at (set (set cells at (cell_at cells cell)) cell at) i)
      stays b' from i old passed apart other = subst (IsNext count (set names at (Some page)) b' from) (sym (value i apart other)) (moved (Some page) b' from (cell_at cells i) old (λ above below some. passed (one_of b' b (sym some ∙ this)) above below) (not_next b' from (cell_at cells i) old))

      at_cell : (from : ℕ) → from ≤ at → IsNext count names b from (cell_at cells cell) → (i : ℕ) → i ≡ cell → IsNext count (set names at (Some page)) b from (cell_at (set (set cells at (cell_at cells cell)) cell at) i)
      at_cell from le old i e = subst (λ (z : ℕ). IsNext count (set names at (Some page)) b from (cell_at (set (set cells at (cell_at cells cell)) cell at) z)) (sym e) (subst (IsNext count (set names at (Some page)) b from) (sym value_cell) (ends from le old))

      head : (b' : ℕ) → b' ≤ count → (count + b' ≡ cell) ⊎ (count + b' ≢ cell) → IsNext count (set names at (Some page)) b' 0 (cell_at (set (set cells at (cell_at cells cell)) cell at) (count + b'))
      head b' low' (inl e) = by (cases_eq b' b)
        where
          by : (b' ≡ b) ⊎ (b' ≢ b) → IsNext count (set names at (Some page)) b' 0 (cell_at (set (set cells at (cell_at cells cell)) cell at) (count + b'))
          by (inl same) = subst (λ (z : ℕ). IsNext count (set names at (Some page)) z 0 (cell_at (set (set cells at (cell_at cells cell)) cell at) (count + b'))) (sym same) (at_cell 0 (omega arith) (subst (λ (z : ℕ). IsNext count names b 0 (cell_at cells z)) (ap (λ (z : ℕ). count + z) (sym same) ∙ e) (x.first b low_b)) (count + b') e)
          by (inr other) = absurd (other_head b' other l.cell_of e)
      head b' low' (inr apart) = stays b' 0 (count + b') (x.first b' low') (λ same above below. head_passes (λ e. apart (ap (λ (z : ℕ). count + z) same ∙ sym e)) (subst (λ (z : ℕ). at ≤ cell_at cells (count + z)) same (omega (arith, below)))) apart (λ e. omega (arith, low, e))

      link : (i b' : ℕ) → new (Some page) i ≡ Some b' → (i ≡ at) ⊎ (i ≢ at) → (i ≡ cell) ⊎ (i ≢ cell) → IsNext count (set names at (Some page)) b' (i + 1) (cell_at (set (set cells at (cell_at cells cell)) cell at) i)
      link i b' is' (inl e) which =
          let same : b ≡ b' = one_of b b' (sym this ∙ ap (new (Some page)) (sym e) ∙ is') in
          subst (λ (z : ℕ). IsNext count (set names at (Some page)) b' (z + 1) (cell_at (set (set cells at (cell_at cells cell)) cell at) z)) (sym e)
          (subst (λ (z : ℕ). IsNext count (set names at (Some page)) z (at + 1) (cell_at (set (set cells at (cell_at cells cell)) cell at) at)) same
          (subst (IsNext count (set names at (Some page)) b (at + 1)) (sym value_at) (onward l.cell_of)))
      link i b' is' (inr other) (inl e) =
          let was : bucket_at count names i ≡ Some b' = sym (new_other (Some page) i other) ∙ is' in
          let facts = cell_bucket i b' (omega (arith, bucket_within count names i b' was, x.named)) e was l.cell_of in
          subst (λ (z : ℕ). IsNext count (set names at (Some page)) z (i + 1) (cell_at (set (set cells at (cell_at cells cell)) cell at) i)) (sym facts.0) (at_cell (i + 1) (omega (arith, facts.1)) (subst (λ (z : ℕ). IsNext count names b (i + 1) (cell_at cells z)) e (x.next i b (was ∙ ap (λ (z : ℕ). Some z) facts.0))) i e)
      link i b' is' (inr other) (inr apart) =
          let was : bucket_at count names i ≡ Some b' = sym (new_other (Some page) i other) ∙ is' in
          stays b' (i + 1) i (x.next i b' was) (λ same above below. passes i (was ∙ ap (λ (z : ℕ). Some z) same) (omega (arith, above)) apart (omega (arith, below))) apart other

-- how far a cell is from a frame
abbrev pub way_left : ℕ → ℕ → ℕ → ℕ
way_left count at cell = cond (nat_lt cell count) (at - cell) (at + 1)

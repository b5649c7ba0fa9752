-- The commits of each writer, counted one commit after the other.
use Rattle.std.proofs.Common.{◌≡◌, ◌≢◌, ◌<◌, ◌≤◌, ◌+◌, ◌==◌, eqb, ◌⊎◌, inl, inr, ℕ, zero, suc, List, [], ◌++◌, true, false, cond, codes, length, get_or, take, set, map, ap, sym, refl, ◌∙◌, arith}
use Rattle.std.specs.List.{enumerate_from, flat_map, range_with_len}
use Rattle.std.proofs.lemmas.List.{get_or-set_same, get_or-set_other, length-set}
use Rattle.std.proofs.lemmas.List.FromFn.{get_or-map-range_with_len, length-map-range_with_len}
use Rattle.std.proofs.lemmas.List.Sums.{count_by-le-length, count_by_more_yes, count_by_more_no}
use Rattle.std.proofs.lemmas.Bool.{le-leb, lt-leb, ne_eqb}
use Rattle.std.proofs.lemmas.Bool.Decides.{eqb_tells}
use Rattle.std.proofs.lemmas.Grind.{get_or_default_zero, same_number_lists}
use Rattle.clone_model.specs.Texts.{ended}
use Rattle.clone_model.specs.declared.change.Commit.{Commit}
use Rattle.clone_summary.specs.Summary.{commits_of, floor_text}

-- the counts are those of the commits, by writer
pub record AreCounted (writers : ℕ) (commits : List Commit) (counts : List ℕ) : Type 0 where
  pub size : length counts ≡ writers
  pub each : (w : ℕ) → w < writers → get_or counts w 0 ≡ commits_of commits w

-- one commit more, of one of the writers
pub counted_own : (writers : ℕ) (commits : List Commit) (counts : List ℕ) (i : ℕ) (c : Commit) (n : ℕ) → i < length commits → c ≡ get_or commits i c → c.writer < writers
    → n ≡ get_or counts c.writer n → AreCounted writers (take i commits) counts → AreCounted writers (take (i + 1) commits) (set counts c.writer (n + 1))
counted_own writers commits counts i c n lt at own is are = record {
  size = length-set counts c.writer (n + 1) ∙ are.size;
  each = λ w within. each w within (eqb_tells c.writer w);
} where
  inside : c.writer < length counts
  inside = omega (arith, are.size, own)

  each : (w : ℕ) → w < writers → ((eqb c.writer w ≡ true) × (c.writer ≡ w)) ⊎ ((eqb c.writer w ≡ false) × (c.writer ≢ w)) → get_or (set counts c.writer (n + 1)) w 0 ≡ commits_of (take (i + 1) commits) w
  each w within (inl same) =
      let new = ap (λ k. get_or (set counts c.writer (n + 1)) k 0) (sym same.1) ∙ get_or-set_same counts c.writer (n + 1) 0 inside in
      let old = is ∙ get_or_default_zero counts c.writer n inside ∙ ap (λ k. get_or counts k 0) same.1 ∙ are.each w within in
      new ∙ ap (λ k. k + 1) old ∙ sym (count_by_more_yes (λ (x : Commit). x.writer == w) commits i c lt (ap (λ (x : Commit). x.writer == w) (sym at) ∙ same.0))
  each w within (inr other) =
      get_or-set_other counts c.writer w (n + 1) 0 (λ e. other.1 (sym e)) ∙ are.each w within
      ∙ sym (count_by_more_no (λ (x : Commit). x.writer == w) commits i c lt (ap (λ (x : Commit). x.writer == w) (sym at) ∙ other.0))

-- one of another
pub counted_other : (writers : ℕ) (commits : List Commit) (counts : List ℕ) (i : ℕ) (c : Commit) → i < length commits → c ≡ get_or commits i c → writers ≤ c.writer
    → AreCounted writers (take i commits) counts → AreCounted writers (take (i + 1) commits) counts
counted_other writers commits counts i c lt at other are = record {
  size = are.size;
  each = λ w within.
      let apart : c.writer ≡ w → ⊥ = λ e. omega (arith, e, other, within) in
      are.each w within ∙ sym (count_by_more_no (λ (x : Commit). x.writer == w) commits i c lt (ap (λ (x : Commit). x.writer == w) (sym at) ∙ ne_eqb c.writer w apart));
}

-- a count is no higher than the number of commits
pub few_counted : (writers : ℕ) (commits : List Commit) (counts : List ℕ) (w : ℕ) → w < writers → AreCounted writers commits counts → get_or counts w 0 ≤ length commits
few_counted writers commits counts w lt are =
    let most = count_by-le-length (λ (c : Commit). c.writer == w) commits in
    omega (arith, are.each w lt, most)

-- all commits are counted
pub all_counted : (writers : ℕ) (commits : List Commit) (counts : List ℕ) → AreCounted writers commits counts → counts ≡ map (commits_of commits) (range_with_len 0 writers)
all_counted writers commits counts are = same_number_lists counts (map (commits_of commits) (range_with_len 0 writers)) (are.size ∙ sym (length-map-range_with_len (commits_of commits) 0 writers))
    (λ k lt. let within : k < writers = omega (arith, are.size) in let e : 0 + k ≡ k = omega arith in are.each k within ∙ sym (get_or-map-range_with_len (commits_of commits) 0 writers k k 0 within e))

-- each count comes with its number
pub numbered : {X : Type 0} (f : ℕ → ℕ) (g : ℕ × ℕ → List X) (a n : ℕ) → flat_map g (enumerate_from a (map f (range_with_len a n))) ≡ flat_map (λ w. g (w, f w)) (range_with_len a n)
numbered f g a zero = refl
numbered f g a (suc n) = ap (λ r. g (a, f a) ++ r) (numbered f g (a + 1) n)

-- a clone has as many commits as the floor, or hasn't
pub floor_met : (position floor : ℕ) → floor ≤ position → floor_text position floor ≡ ended (codes "floor met")
floor_met position floor met = ap (λ b. cond b (ended (codes "floor met")) []) (le-leb floor position met)

pub floor_missed : (position floor : ℕ) → position < floor → floor_text position floor ≡ []
floor_missed position floor missed = ap (λ b. cond b (ended (codes "floor met")) []) (lt-leb floor position missed)

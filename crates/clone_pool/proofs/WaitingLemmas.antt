-- The first frame of a row that waits for its flush.
use Rattle.std.proofs.Common.{◌≡◌, ◌≢◌, ◌<◌, ◌≤◌, ◌⊎◌, inl, inr, ℕ, Bool, true, false, List, length, sym, ap, subst, ◌∙◌, arith}
use Rattle.std.proofs.lemmas.Bool.{cases_eq, cases_lt, false≢true}
use Rattle.clone_pool.specs.declared.frame.Frame.{Frame}
use Rattle.clone_pool.specs.declared.tournament.Rank.{Rank}
use Rattle.clone_pool.specs.Frames.{frame_at, is_waiting}
use Rattle.clone_pool.specs.Tournament.{rank_at, is_before}
use Rattle.clone_pool.specs.Row.{IsRow, IsFirstWaiting, frame_in, rank_in}
use Rattle.clone_pool.proofs.RankLemmas.{rank_irrefl}
use Rattle.clone_pool.proofs.RowLemmas.{part_within}

module _ (ranks : List Rank) (row : List ℕ) (r : IsRow ranks row) (frames : List Frame) where
  abbrev Waits : ℕ → Bool → Type 0
  Waits at b = is_waiting (frame_at frames at) ≡ b

  pub first_waits : (place : ℕ) → place < length row → ((i : ℕ) → i < place → Waits (frame_in row i) false) → Waits (frame_in row place) true → IsFirstWaiting ranks frames (frame_in row place)
  first_waits place low before waits = record {
    part = r.part place low;
    waits = waits;
    first = λ other part other_waits. let t = r.there other (part_within ranks other part) part in by other t.0 t.1 t.2 other_waits (cases_lt t.0 place) (cases_eq t.0 place);
  }
    where
      by : (other i : ℕ) → i < length row → frame_in row i ≡ other → Waits other true → (i < place) ⊎ (place ≤ i) → (i ≡ place) ⊎ (i ≢ place) → is_before (rank_at ranks other) (rank_in ranks row place) ≡ false
      by other i there is waits (inl less) _ = absurd (false≢true (sym (before i less) ∙ subst (λ (n : ℕ). Waits n true) (sym is) waits))
      by other i there is waits (inr high) (inl same) = ap (λ (n : ℕ). is_before (rank_at ranks n) (rank_in ranks row place)) (sym is ∙ ap (frame_in row) same) ∙ rank_irrefl (rank_in ranks row place)
      by other i there is waits (inr high) (inr apart) = ap (λ (n : ℕ). is_before (rank_at ranks n) (rank_in ranks row place)) (sym is) ∙ r.sorted place i (omega (arith, high, apart)) there

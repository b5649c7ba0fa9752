-- The shares of several seats add up to the whole, however they are split and joined.
use Rattle.std.proofs.Common.{ℕ, ◌≡◌, ◌+◌, ◌*◌, ◌-◌, ◌^◌, ◌<◌, ◌≤◌, max, List, [], ◌∷◌, refl, sym, ap, ◌∙◌, subst, arith}
use Rattle.std.specs.List.{AllByRecursion}
use Rattle.std.specs.List.Sorted.{IsPermutation}
use Rattle.std.proofs.lemmas.Nat.{pow-add, pow_pos}
use Rattle.clone_turn.specs.Rule.{total}
use Rattle.clone_turn.specs.Seats.{CellModel, SeatModel, HasWhole, first_seat, left_seat, right_seat, joined_seat}
use Rattle.clone_turn.specs.Shares.{ShareAll, share}
use Rattle.clone_turn.specs.Worked.{HaveWorked}
use Rattle.clone_turn.proofs.EachLemmas.{each_map, each_moved}
use Rattle.clone_turn.proofs.JoinLemmas.{raised}
use Rattle.clone_turn.proofs.TotalLemmas.{total_moved}

doubled : (p h k : ℕ) → h ≤ k → p * 2 ^ (k + 1 - h) ≡ 2 * (p * 2 ^ (k - h))
doubled p h k low =
    let e : 2 ^ (k + 1 - h) ≡ 2 ^ (k - h) * 2 ^ 1 = ap (λ n. 2 ^ n) (omega arith) ∙ pow-add 2 (k - h) 1 in
    ap (λ n. p * n) e ∙ omega arith

halved : (p h k : ℕ) → h ≤ k → p * 2 ^ (k + 1 - (h + 1)) ≡ p * 2 ^ (k - h)
halved p h k low = ap (λ n. p * 2 ^ n) (omega arith)

cancelled : (p q c : ℕ) → 0 < c → p * c ≡ q * c → p ≡ q
cancelled p q c pos e = grind arith

module _ {S C A : Type 0} where
  abbrev Low : ℕ → SeatModel S C A → Type 0
  Low k v = v.halvings ≤ k

  total_doubled : (k : ℕ) (vs : List (SeatModel S C A)) → AllByRecursion (Low k) vs → total (share (k + 1)) vs ≡ 2 * total (share k) vs
  total_doubled k [] low = refl
  total_doubled k (v ∷ vs) low = let a = doubled v.part v.halvings k low.0 in let b = total_doubled k vs low.1 in omega arith

  -- of a new cell
  pub first_shares : (c : CellModel S) (v : SeatModel S C A) → v ≡ first_seat c → ShareAll (v ∷ [])
  first_shares c v is = subst (λ (x : SeatModel S C A). ShareAll (x ∷ [])) (sym is) (0, (omega arith, tt), refl)

  -- one seat is split
  pub split_shares : (v l r : SeatModel S C A) (vs : List (SeatModel S C A)) → l ≡ left_seat v → r ≡ right_seat v → ShareAll (v ∷ vs) → ShareAll (l ∷ r ∷ vs)
  split_shares v l r vs left right all =
      let k = all.0 in
      let low = all.1 in
      let one : share (k + 1) (left_seat v) ≡ share k v = halved v.part v.halvings k low.0 in
      let two : share (k + 1) (right_seat v) ≡ share k v = halved v.part v.halvings k low.0 in
      let rest = total_doubled k vs low.1 in
      let power : 2 ^ (k + 1) ≡ 2 ^ k * 2 ^ 1 = pow-add 2 k 1 in
      let sum : share k v + total (share k) vs ≡ 2 ^ k = all.2 in
      let more : AllByRecursion (Low (k + 1)) vs = each_map (Low k) (Low (k + 1)) (λ x le. omega arith) vs low.1 in
      subst (λ (x : SeatModel S C A). ShareAll (x ∷ r ∷ vs)) (sym left)
      (subst (λ (x : SeatModel S C A). ShareAll (left_seat v ∷ x ∷ vs)) (sym right)
      (k + 1, (omega (arith, low.0), (omega (arith, low.0), more)), omega arith))

  -- in another order
  pub moved_shares : (vs ws : List (SeatModel S C A)) → IsPermutation vs ws → ShareAll vs → ShareAll ws
  moved_shares vs ws moved all =
      (all.0, each_moved (Low all.0) vs ws moved all.1, sym (total_moved (share all.0) vs ws moved) ∙ all.2)

  -- seats that have made calls have their shares
  worked_low : (k : ℕ) (vs ws : List (SeatModel S C A)) → HaveWorked vs ws → AllByRecursion (Low k) vs → AllByRecursion (Low k) ws
  worked_low k [] [] a low = tt
  worked_low k [] (w ∷ ws) a low = absurd a
  worked_low k (v ∷ vs) [] a low = absurd a
  worked_low k (v ∷ vs) (w ∷ ws) a low = (subst (Low k) (sym a.0.1.1) low.0, worked_low k vs ws a.1 low.1)

  worked_total : (k : ℕ) (vs ws : List (SeatModel S C A)) → HaveWorked vs ws → total (share k) ws ≡ total (share k) vs
  worked_total k [] [] a = refl
  worked_total k [] (w ∷ ws) a = absurd a
  worked_total k (v ∷ vs) [] a = absurd a
  worked_total k (v ∷ vs) (w ∷ ws) a =
      ap (λ (x : SeatModel S C A). share k x + total (share k) ws) a.0.1.1 ∙ ap (λ n. share k v + n) (worked_total k vs ws a.1)

  pub worked_shares : (vs ws : List (SeatModel S C A)) → HaveWorked vs ws → ShareAll vs → ShareAll ws
  worked_shares vs ws a all = (all.0, worked_low all.0 vs ws a all.1, worked_total all.0 vs ws a ∙ all.2)

  -- two are joined
  pub joined_shares : (v w u : SeatModel S C A) (vs : List (SeatModel S C A)) → u ≡ joined_seat v w → ShareAll (v ∷ w ∷ vs) → ShareAll (u ∷ vs)
  joined_shares v w u vs is all =
      let k = all.0 in
      let low = all.1.0 in
      let low_too = all.1.1.0 in
      let m = max v.halvings w.halvings in
      let a : (v.part * 2 ^ (m - v.halvings)) * 2 ^ (k - m) ≡ v.part * 2 ^ (k - v.halvings) = raised v.part v.halvings m k (omega arith) (omega arith) in
      let b : (w.part * 2 ^ (m - w.halvings)) * 2 ^ (k - m) ≡ w.part * 2 ^ (k - w.halvings) = raised w.part w.halvings m k (omega arith) (omega arith) in
      let sum : share k v + (share k w + total (share k) vs) ≡ 2 ^ k = all.2 in
      subst (λ (x : SeatModel S C A). ShareAll (x ∷ vs)) (sym is) (k, (omega arith, all.1.1.1), omega arith)

  -- where one seat is left, it has the whole
  pub only_share : (v : SeatModel S C A) → ShareAll (v ∷ []) → HasWhole v
  only_share v all =
      let k = all.0 in
      let h = v.halvings in
      let power : 2 ^ k ≡ 2 ^ h * 2 ^ (k - h) = ap (λ n. 2 ^ n) (let low = all.1.0 in omega arith) ∙ pow-add 2 h (k - h) in
      cancelled v.part (2 ^ h) (2 ^ (k - h)) (pow_pos (k - h)) (let sum = all.2 in omega arith)

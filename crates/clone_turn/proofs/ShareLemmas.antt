-- Shares: a view with the whole share is alone, halves and sums of shares.
use Rattle.std.proofs.Common.{ℕ, zero, suc, ◌≡◌, ◌≢◌, ◌*◌, ◌-◌, ◌^◌, ◌<◌, ◌≤◌, List, refl, sym, ap, ◌∙◌, suc-mul, arith}
use Rattle.std.proofs.lemmas.Nat.{pow_pos, pow-add}
use mathlib.Core.Option.{some}
use lib.ListN.{get_elem?}
use Rattle.atomic_table.specs.Table.{State}
use Rattle.clone_turn.specs.declared.view.Entry.{Entry}
use Rattle.clone_turn.specs.declared.view.View.{View}
use Rattle.clone_turn.specs.Rule.{HasRun, Held, IsWhole, made, stands, weight, total}
use Rattle.clone_turn.proofs.Sums.{total_rest, total_only}

part_zero : (a b : ℕ) → 0 < b → a * b ≡ 0 → a ≡ 0
part_zero zero b pos e = refl
part_zero (suc n) b pos e = absurd (omega (arith, suc-mul n b))

-- 2 ^ k by way of h
pub power_by : (h k : ℕ) → h ≤ k → 2 ^ h * 2 ^ (k - h) ≡ 2 ^ k
power_by h k le = sym (pow-add 2 h (k - h)) ∙ ap (λ n. 2 ^ n) (omega arith)

module _ {S C A : Type 0} where
  whole_weighs : (k : ℕ) (v : View S C A) → IsWhole v → v.halvings ≤ k → weight k v ≡ 2 ^ k
  whole_weighs k v whole le = ap (λ n. n * 2 ^ (k - v.halvings)) whole ∙ power_by v.halvings k le

  pub whole_alone : (steps : S → C → A → S → Type 0) (first : S) (s : State (Held S C A) (View S C A)) (run : List (Entry S C A)) (next : ℕ) → HasRun steps first s run next
      → (id : ℕ) (v : View S C A) → get_elem? s.views id ≡ some v → IsWhole v → (p : ℕ) → made v p ≡ stands run p
  whole_alone steps first s run next has id v at whole p =
      let k = has.whole.0 in
      let all : total (weight k) s.views ≡ weight k v = has.whole.2 ∙ sym (whole_weighs k v whole (has.whole.1 id v at)) in
      let none : (j : ℕ) (u : View S C A) → j ≢ id → get_elem? s.views j ≡ some u → made u p ≡ 0 = λ j u n there.
      (has.fits j u there).spent (part_zero u.part (2 ^ (k - u.halvings)) (pow_pos (k - u.halvings)) (total_rest (weight k) s.views id v at all j u n there)) p in
      sym (total_only (λ (x : View S C A). made x p) s.views id v at none) ∙ has.once p

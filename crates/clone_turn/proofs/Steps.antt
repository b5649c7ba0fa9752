-- One seat's step, which adds no entry, keeps the rule.
use Rattle.std.proofs.Common.{ℕ, zero, suc, ◌≡◌, ◌*◌, ◌-◌, ◌^◌, ◌<◌, ◌≤◌, ◌⊎◌, List, [], ◌∷◌, length, set, refl, sym, ap, ◌∙◌, subst, Some, inl, inr, arith}
use mathlib.Core.Option.{some, none, some-injective, some-ne-none}
use mathlib.Core.Option as maybe
use mathlib.Core.Logic.{dite}
use native.Mathlib.Decide.{ℕ_discrete}
use lib.ListN.{get_elem?}
use Rattle.atomic_table.specs.Table.{State}
use Rattle.atomic_table.proofs.Lists.{at_set, set_else}
use Rattle.clone_turn.specs.declared.view.Entry.{Entry}
use Rattle.clone_turn.specs.declared.view.View.{View}
use Rattle.clone_turn.specs.Runs.{end_of}
use Rattle.clone_turn.specs.Rule.{HasRun, Fits, Home, Alone, Whole, Held, made, weight}
use Rattle.clone_turn.proofs.Sums.{total_unchanged}

module _ {X : Type 0} where
  pub set_at : (l : List X) (i : ℕ) (v w : X) → get_elem? l i ≡ some v → get_elem? (set l i w) i ≡ some w
  set_at [] i v w e = absurd (some-ne-none v (sym e))
  set_at (x ∷ xs) zero v w e = refl
  set_at (x ∷ xs) (suc i) v w e = set_at xs i v w e

  pub same_at : (l : List X) (i j : ℕ) (v w : X) → get_elem? l i ≡ some v → get_elem? l j ≡ some w → i ≡ j → v ≡ w
  same_at l i j v w a b e = some-injective v w (sym a ∙ (ap (λ k. get_elem? l k) e ∙ b))

module _ {S C A : Type 0} where
  pub fits_more : (first : S) (run : List (Entry S C A)) (next more : ℕ) (v : View S C A) → next ≤ more → Fits first run next v → Fits first run more v
  fits_more first run next more v le fits = record {
    begins = fits.begins;
    seen = fits.seen;
    joined = fits.joined;
    waits = λ t e. let w = fits.waits t e in (w.0, omega arith);
    lifted = fits.lifted;
    spent = fits.spent;
  }

  pub home_kept : (value : S) (homes : List (maybe.Option (Held S C A))) (views : List (View S C A)) (id : ℕ) (v w : View S C A) → get_elem? views id ≡ some v → w.lifted ≡ v.lifted → Home value homes views → Home value homes (set views id w)
  home_kept value homes views id v w at same home = elim home [
    | inl here ↦ inl here
    | inr out ↦ dite (ℕ_discrete out.0 id)
        (λ e. inr (id, w, out.2, set_at views id v w at, same ∙ (ap (λ (x : View S C A). x.lifted) (same_at views id out.0 v out.1 at out.3 (sym e)) ∙ out.4)))
        (λ n. inr (out.0, out.1, out.2, set_else views id out.0 w n ∙ out.3, out.4))
  ]

  module _ (steps : S → C → A → S → Type 0) (first : S) (s : State (Held S C A) (View S C A)) (run : List (Entry S C A)) (next : ℕ) (has : HasRun steps first s run next) (id : ℕ) (v : View S C A) (at : get_elem? s.views id ≡ some v) where
    pub fits_set : (more : ℕ) (w : View S C A) → next ≤ more → Fits first run more w → (i : ℕ) (u : View S C A) → get_elem? (set s.views id w) i ≡ some u → Fits first run more u
    fits_set more w le fits i u here = elim (at_set s.views id i w u here) [
      | inl mine ↦ subst (λ x. Fits first run more x) mine.1 fits
      | inr other ↦ fits_more first run next more u le (has.fits i u other.1)
    ]

    -- a ticket that another view has
    apart : (w : View S C A) → ((t : ℕ) → w.ticket ≡ Some t → (v.ticket ≡ Some t) ⊎ (next ≤ t)) → (j t : ℕ) (u : View S C A) → get_elem? s.views j ≡ some u → w.ticket ≡ Some t → u.ticket ≡ Some t → id ≡ j
    apart w from j t u there mine its = elim (from t mine) [
      | inl old ↦ has.alone id j t v u at there old its
      | inr new ↦ let w : (length run ≤ t) × (t < next) = (has.fits j u there).waits t its in absurd (omega arith)
    ]

    pub alone_set : (w : View S C A) → ((t : ℕ) → w.ticket ≡ Some t → (v.ticket ≡ Some t) ⊎ (next ≤ t)) → Alone (set s.views id w)
    alone_set w from i j t a b ia jb ta tb = elim (at_set s.views id i w a ia) [
      | inl one ↦ elim (at_set s.views id j w b jb) [
        | inl two ↦ one.0 ∙ sym two.0
        | inr two ↦ one.0 ∙ apart w from j t b two.1 (ap (λ (x : View S C A). x.ticket) one.1 ∙ ta) tb
      ]
      | inr one ↦ elim (at_set s.views id j w b jb) [
        | inl two ↦ sym (two.0 ∙ apart w from i t a one.1 (ap (λ (x : View S C A). x.ticket) two.1 ∙ tb) ta)
        | inr two ↦ has.alone i j t a b one.1 two.1 ta tb
      ]
    ]

    pub whole_set : (w : View S C A) → w.part ≡ v.part → w.halvings ≡ v.halvings → Whole (set s.views id w)
    whole_set w part halvings =
        let k = has.whole.0 in (
          k,
          (λ i u here. elim (at_set s.views id i w u here) [
            | inl mine ↦ subst (λ (x : View S C A). x.halvings ≤ k) mine.1 (subst (λ n. n ≤ k) (sym halvings) (has.whole.1 id v at))
            | inr other ↦ has.whole.1 i u other.1
          ]),
          total_unchanged (weight k) s.views id v w at (ap (λ n. n * 2 ^ (k - w.halvings)) part ∙ ap (λ n. v.part * 2 ^ (k - n)) halvings) ∙ has.whole.2,
        )

    pub moved : (w : View S C A) (more : ℕ) (words : List ℕ) (homes : List (maybe.Option (Held S C A)))
        → next ≤ more → more < 18446744073709551616 → words ≡ more ∷ length run ∷ [] → Fits first run more w → ((t : ℕ) → w.ticket ≡ Some t → (v.ticket ≡ Some t) ⊎ (next ≤ t))
        → ((p : ℕ) → made w p ≡ made v p) → w.part ≡ v.part → w.halvings ≡ v.halvings → Home (end_of first run) homes (set s.views id w)
        → HasRun steps first record { words = words; homes = homes; views = set s.views id w } run more
    moved w more words homes le room is fits from same part halvings home = record {
      legal = has.legal;
      words = is;
      behind = let b = has.behind in omega arith;
      room = room;
      home = home;
      fits = fits_set more w le fits;
      alone = alone_set w from;
      once = λ p. total_unchanged (λ (x : View S C A). made x p) s.views id v w at (same p) ∙ has.once p;
      whole = whole_set w part halvings;
    }

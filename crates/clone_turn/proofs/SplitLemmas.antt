-- A split keeps the rule.
use Rattle.std.proofs.Common.{ℕ, suc, ◌≡◌, ◌+◌, ◌*◌, ◌-◌, ◌^◌, ◌≤◌, List, [], ◌∷◌, ◌++◌, set, refl, sym, ap, ◌∙◌, subst, inl, inr, arith}
use Rattle.std.proofs.lemmas.Nat.{pow-add}
use mathlib.Core.Option.{some}
use mathlib.Core.List.{IsPrefix}
use lib.ListN.{get_elem?}
use Rattle.atomic_table.specs.Table.{State, Splits}
use Rattle.atomic_table.proofs.Lists.{at_set, at_snoc, at_longer}
use Rattle.clone_turn.specs.declared.view.Entry.{Entry}
use Rattle.clone_turn.specs.declared.view.View.{View}
use Rattle.clone_turn.specs.Runs.{end_of, entries, others}
use Rattle.clone_turn.specs.Rule.{Kept, HasRun, Fits, Home, Alone, Held, left_view, right_view, made, made_at, weight, total}
use Rattle.clone_turn.proofs.Sums.{total_set, total_snoc}
use Rattle.clone_turn.proofs.Entries.{entries-others, made_at-others}
use Rattle.clone_turn.proofs.Steps.{fits_set, alone_set, home_kept}
use Rattle.clone_turn.proofs.ReleaseLemmas.{no_ticket}

-- twice the exponent's power
twice : (k h : ℕ) → h ≤ k → 2 ^ (k + 1 - h) ≡ 2 ^ (k - h) + 2 ^ (k - h)
twice k h le = ap (λ n. 2 ^ n) (omega arith) ∙ (pow-add 2 (k - h) 1 ∙ omega arith)

module _ {S C A : Type 0} where
  heavier : (k : ℕ) (vs : List (View S C A)) → ((i : ℕ) (v : View S C A) → get_elem? vs i ≡ some v → v.halvings ≤ k) → total (weight (k + 1)) vs ≡ total (weight k) vs + total (weight k) vs
  heavier k [] low = refl
  heavier k (v ∷ vs) low =
      let more = heavier k vs (λ i u e. low (suc i) u e) in
      let two : 2 ^ (k + 1 - v.halvings) ≡ 2 ^ (k - v.halvings) + 2 ^ (k - v.halvings) = twice k v.halvings (low 0 v refl) in
      let here : v.part * 2 ^ (k + 1 - v.halvings) ≡ v.part * 2 ^ (k - v.halvings) + v.part * 2 ^ (k - v.halvings) = ap (λ n. v.part * n) two ∙ omega arith in
      omega arith

  half : (k : ℕ) (v : View S C A) → weight (k + 1) (left_view v) ≡ weight k v
  half k v = ap (λ n. v.part * 2 ^ n) (omega arith)

  made_right : (v : View S C A) (p : ℕ) → made (right_view v) p ≡ 0
  made_right v p = let a : made_at (others (entries v.seen)) p ≡ 0 = made_at-others (entries v.seen) p in omega arith

  module _ (steps : S → C → A → S → Type 0) (first : S) (id : ℕ) (v : View S C A) (s : State (Held S C A) (View S C A)) (run : List (Entry S C A)) (next : ℕ) (has : HasRun steps first s run next) (at : get_elem? s.views id ≡ some v) where
    mine : Fits first run next v
    mine = has.fits id v at

    abbrev base : List (View S C A)
    base = set s.views id (left_view v)

    left_fits : Fits first run next (left_view v)
    left_fits = record { begins = mine.begins; seen = mine.seen; joined = mine.joined; waits = mine.waits; lifted = mine.lifted; spent = mine.spent }

    right_fits : Fits first run next (right_view v)
    right_fits = record {
      begins = mine.begins;
      seen = subst (λ es. IsPrefix es run) (sym (entries-others (entries v.seen))) mine.seen;
      joined = (run, refl);
      waits = λ t e. absurd (no_ticket t e);
      lifted = λ up. grind arith;
      spent = λ z p. made_right v p;
    }

    home_longer : Home (end_of first run) s.homes base → Home (end_of first run) s.homes (base ++ right_view v ∷ [])
    home_longer home = elim home [
      | inl here ↦ inl here
      | inr out ↦ inr (out.0, out.1, out.2, at_longer base (right_view v ∷ []) out.0 out.1 out.3, out.4)
    ]

    alone_base : Alone base
    alone_base = alone_set steps first s run next has id v at (left_view v) (λ t e. inl e)

    alone_more : Alone (base ++ right_view v ∷ [])
    alone_more i j t a b ia jb ta tb = elim (at_snoc base (right_view v) a i ia) [
      | inl one ↦ elim (at_snoc base (right_view v) b j jb) [
        | inl two ↦ alone_base i j t a b one two ta tb
        | inr two ↦ absurd (no_ticket t (ap (λ (x : View S C A). x.ticket) two ∙ tb))
      ]
      | inr one ↦ absurd (no_ticket t (ap (λ (x : View S C A). x.ticket) one ∙ ta))
    ]

    pub split_kept : HasRun steps first record { words = s.words; homes = s.homes; views = base ++ right_view v ∷ [] } run next
    split_kept = record {
      legal = has.legal;
      words = has.words;
      behind = has.behind;
      room = has.room;
      home = home_longer (home_kept _ s.homes s.views id v (left_view v) at refl has.home);
      fits = λ i u here. elim (at_snoc base (right_view v) u i here) [
        | inl old ↦ fits_set steps first s run next has id v at next (left_view v) (omega arith) left_fits i u old
        | inr new ↦ subst (λ x. Fits first run next x) new right_fits
      ];
      alone = alone_more;
      once = λ p.
          let a = total_snoc (λ (x : View S C A). made x p) base (right_view v) in
          let b : total (λ (x : View S C A). made x p) base + made v p ≡ total (λ (x : View S C A). made x p) s.views + made v p = total_set (λ (x : View S C A). made x p) s.views id v (left_view v) at in
          let c = made_right v p in let d = has.once p in omega arith;
      whole =
          let k = has.whole.0 in (
            k + 1,
            (λ i u here. elim (at_snoc base (right_view v) u i here) [
              | inl old ↦ elim (at_set s.views id i (left_view v) u old) [
                | inl it ↦ subst (λ (x : View S C A). x.halvings ≤ k + 1) it.1 (let l = has.whole.1 id v at in omega arith)
                | inr other ↦ let l = has.whole.1 i u other.1 in omega arith
              ]
              | inr new ↦ subst (λ (x : View S C A). x.halvings ≤ k + 1) new (let l = has.whole.1 id v at in omega arith)
            ]),
            (let a = total_snoc (weight (k + 1)) base (right_view v) in
                let b = total_set (weight (k + 1)) s.views id v (left_view v) at in
                let c = heavier k s.views has.whole.1 in
                let d = half k v in
                let e : weight (k + 1) v ≡ weight k v + weight k v = ap (λ n. v.part * n) (twice k v.halvings (has.whole.1 id v at)) ∙ omega arith in
                let f : weight (k + 1) (right_view v) ≡ weight k v = half k v in
                let g = has.whole.2 in
                let h : 2 ^ (k + 1) ≡ 2 ^ k + 2 ^ k = pow-add 2 k 1 ∙ omega arith in
                omega arith),
          );
    }

  pub may_split : (steps : S → C → A → S → Type 0) (first : S) (id : ℕ) (v : View S C A) → Splits (Kept steps first) id v (left_view v) (right_view v)
  may_split steps first id v s kept at = (kept.0, kept.1, split_kept steps first id v s kept.0 kept.1 kept.2 at)

-- A join keeps the rule.
use Rattle.std.proofs.Common.{ℕ, ◌≡◌, ◌+◌, ◌*◌, ◌-◌, ◌^◌, ◌<◌, ◌≤◌, max, List, [], set, refl, sym, ap, ◌∙◌, subst, Some, None, inl, inr, false, arith}
use Rattle.std.proofs.lemmas.Nat.{pow-add, pow_pos}
use mathlib.Core.Option.{some}
use lib.ListN.{get_elem?}
use Rattle.atomic_table.specs.Table.{State, Joins}
use Rattle.atomic_table.proofs.Lists.{at_set, set_else}
use Rattle.clone_turn.specs.declared.view.Entry.{Entry}
use Rattle.clone_turn.specs.declared.view.View.{View}
use Rattle.clone_turn.specs.Rule.{Kept, HasRun, Fits, Held, both_views, spent_view, part_of, made, made_at, weight, total}
use Rattle.clone_turn.proofs.Sums.{total_set, never}
use Rattle.clone_turn.proofs.Steps.{fits_set, home_kept}
use Rattle.clone_turn.proofs.ReleaseLemmas.{no_ticket}

-- a share at a larger exponent
pub raised : (a h m k : ℕ) → h ≤ m → m ≤ k → (a * 2 ^ (m - h)) * 2 ^ (k - m) ≡ a * 2 ^ (k - h)
raised a h m k low high =
    let p : 2 ^ (k - h) ≡ 2 ^ (m - h) * 2 ^ (k - m) = ap (λ n. 2 ^ n) (omega arith) ∙ pow-add 2 (m - h) (k - m) in
    sym (ap (λ n. a * n) p ∙ omega arith)

positive : (a b : ℕ) → 0 < a → 0 < b → 0 < a * b
positive a b pa pb = grind arith

module _ {S C A : Type 0} where
  added : (k : ℕ) (v w : View S C A) → v.halvings ≤ k → w.halvings ≤ k → weight k (both_views v w) ≡ weight k v + weight k w
  added k v w lv lw =
      let m = max v.halvings w.halvings in
      let a : (v.part * 2 ^ (m - v.halvings)) * 2 ^ (k - m) ≡ v.part * 2 ^ (k - v.halvings) = raised v.part v.halvings m k (omega arith) (omega arith) in
      let b : (w.part * 2 ^ (m - w.halvings)) * 2 ^ (k - m) ≡ w.part * 2 ^ (k - w.halvings) = raised w.part w.halvings m k (omega arith) (omega arith) in
      omega arith

  pub both_share : (v w : View S C A) → 0 < v.part → 0 < part_of v w
  both_share v w share = let p = positive v.part (2 ^ (max v.halvings w.halvings - v.halvings)) share (pow_pos (max v.halvings w.halvings - v.halvings)) in omega arith

  module _ (steps : S → C → A → S → Type 0) (first : S) (id : ℕ) (v : View S C A) (other : ℕ) (w : View S C A) (one : v.joined ≡ []) (two : w.joined ≡ []) (calm : v.ticket ≡ None) (down : v.lifted ≡ false) (down_too : w.lifted ≡ false) (share : 0 < v.part)
      (s : State (Held S C A) (View S C A)) (run : List (Entry S C A)) (next : ℕ) (has : HasRun steps first s run next) (at : get_elem? s.views id ≡ some v) (apart : ¬ (other ≡ id)) (there : get_elem? (set s.views id (both_views v w)) other ≡ some w) where
    abbrev base : List (View S C A)
    base = set s.views id (both_views v w)

    there_before : get_elem? s.views other ≡ some w
    there_before = sym (set_else s.views id other (both_views v w) apart) ∙ there

    mine : Fits first run next v
    mine = has.fits id v at

    its : Fits first run next w
    its = has.fits other w there_before

    both_fits : Fits first run next (both_views v w)
    both_fits = record {
      begins = mine.begins;
      seen = mine.seen;
      joined = its.seen;
      waits = mine.waits;
      lifted = mine.lifted;
      spent = λ z p. absurd (let b = both_share v w share in omega arith);
    }

    spent_fits : Fits first run next spent_view
    spent_fits = record {
      begins = λ f e. absurd (never f e);
      seen = (run, refl);
      joined = (run, refl);
      waits = λ t e. absurd (no_ticket t e);
      lifted = λ up. grind arith;
      spent = λ z p. refl;
    }

    -- a view of the new list that has a ticket is one of the old list, at the same index
    was : (i t : ℕ) (u : View S C A) → get_elem? (set base other spent_view) i ≡ some u → u.ticket ≡ Some t → get_elem? s.views i ≡ some u
    was i t u here ticket = elim (at_set base other i spent_view u here) [
      | inl it ↦ absurd (no_ticket t (ap (λ (x : View S C A). x.ticket) it.1 ∙ ticket))
      | inr else ↦ elim (at_set s.views id i (both_views v w) u else.1) [
        | inl it ↦ absurd (no_ticket t (sym calm ∙ (ap (λ (x : View S C A). x.ticket) it.1 ∙ ticket)))
        | inr old ↦ old.1
      ]
    ]

    pub join_kept : HasRun steps first record { words = s.words; homes = s.homes; views = set base other spent_view } run next
    join_kept = record {
      legal = has.legal;
      words = has.words;
      behind = has.behind;
      room = has.room;
      home = home_kept _ s.homes base other w spent_view there (sym down_too) (home_kept _ s.homes s.views id v (both_views v w) at refl has.home);
      fits = λ i u here. elim (at_set base other i spent_view u here) [
        | inl it ↦ subst (λ x. Fits first run next x) it.1 spent_fits
        | inr else ↦ fits_set steps first s run next has id v at next (both_views v w) (omega arith) both_fits i u else.1
      ];
      alone = λ i j t a b ia jb ta tb. has.alone i j t a b (was i t a ia ta) (was j t b jb tb) ta tb;
      once = λ p.
          let a : total (λ (x : View S C A). made x p) (set base other spent_view) + made w p ≡ total (λ (x : View S C A). made x p) base + 0 = total_set (λ (x : View S C A). made x p) base other w spent_view there in
          let b : total (λ (x : View S C A). made x p) base + made v p ≡ total (λ (x : View S C A). made x p) s.views + (made_at v.seen p + made_at w.seen p) = total_set (λ (x : View S C A). made x p) s.views id v (both_views v w) at in
          let c : made_at v.joined p ≡ 0 = ap (λ xs. made_at xs p) one in
          let d : made_at w.joined p ≡ 0 = ap (λ xs. made_at xs p) two in
          let e = has.once p in omega arith;
      whole =
          let k = has.whole.0 in
          let lv = has.whole.1 id v at in
          let lw = has.whole.1 other w there_before in (
            k,
            (λ i u here. elim (at_set base other i spent_view u here) [
              | inl it ↦ subst (λ (x : View S C A). x.halvings ≤ k) it.1 (omega arith)
              | inr else ↦ elim (at_set s.views id i (both_views v w) u else.1) [
                | inl it ↦ subst (λ (x : View S C A). x.halvings ≤ k) it.1 (omega arith)
                | inr old ↦ has.whole.1 i u old.1
              ]
            ]),
            (let a : total (weight k) (set base other spent_view) + weight k w ≡ total (weight k) base + 0 * 2 ^ (k - 0) = total_set (weight k) base other w spent_view there in
                let b = total_set (weight k) s.views id v (both_views v w) at in
                let c = added k v w lv lw in
                let d = has.whole.2 in
                omega arith),
          );
    }

  pub may_join : (steps : S → C → A → S → Type 0) (first : S) (id : ℕ) (v : View S C A) (other : ℕ) (w : View S C A) → v.joined ≡ [] → w.joined ≡ [] → v.ticket ≡ None → v.lifted ≡ false → w.lifted ≡ false → 0 < v.part → Joins (Kept steps first) id v other w (both_views v w) spent_view
  may_join steps first id v other w one two calm down down_too share s kept at apart there = (kept.0, kept.1, join_kept steps first id v other w one two calm down down_too share s kept.0 kept.1 kept.2 at apart there)

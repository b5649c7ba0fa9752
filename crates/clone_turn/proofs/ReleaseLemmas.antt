-- Release keeps the rule: the run has one more entry.
use Rattle.std.proofs.Common.{ℕ, ◌≡◌, ◌≢◌, ◌+◌, ◌<◌, List, [], ◌∷◌, ◌++◌, length, set, refl, sym, ap, ◌∙◌, subst, Some, None, inl, inr, true, false, Bool, arith}
use Rattle.std.proofs.lemmas.List.{append-nil, append_assoc, length-append}
use Rattle.std.specs.declared.option.Option.{Option}
use Rattle.std.specs.declared.snapshot.Snapshot.{Snapshot}
use mathlib.Core.Option.{some, none, some-injective, some-ne-none}
use mathlib.Core.Option as maybe
use mathlib.Core.List.{IsPrefix}
use lib.ListN.{get_elem?}
use Rattle.atomic_table.specs.Table.{State, Me, Allows, step, gives}
use Rattle.atomic_table.proofs.Lists.{at_set}
use Rattle.clone_turn.specs.declared.view.Entry.{Entry}
use Rattle.clone_turn.specs.declared.view.View.{View}
use Rattle.clone_turn.specs.Runs.{end_of, entries}
use Rattle.clone_turn.specs.Rule.{Kept, HasRun, Fits, Home, Held, Valued, Releases, with_note, note_of, made, made_at, stands}
use Rattle.clone_turn.proofs.Sums.{total_set}
use Rattle.clone_turn.proofs.Entries.{entries-append, made_at_own, end_of-append, run_snoc}
use Rattle.clone_turn.proofs.Steps.{whole_set, alone_set}
use Rattle.clone_turn.proofs.TurnLemmas.{given, clash}

pub no_ticket : (t : ℕ) → ◌≡◌ {A = Option ℕ} None (Some t) → ⊥
no_ticket t e = grind arith

module _ {S C A : Type 0} (steps : S → C → A → S → Type 0) (first : S) (slots id : ℕ) (me : Me (Held S C A) (View S C A)) (e : Entry S C A) (value : Valued S C A) where
  abbrev own : List (Entry S C A × Bool)
  own = (e, true) ∷ []

  module _ (s : State (Held S C A) (View S C A)) (run : List (Entry S C A)) (next : ℕ) (has : HasRun steps first s run next) (at : get_elem? s.views id ≡ some me.0) (up : me.0.lifted ≡ true) (value_is : value.0 ≡ e.after) where
    abbrev w : View S C A
    w = with_note me.0 own

    mine : Fits first run next me.0
    mine = has.fits id me.0 at

    its : me.0.ticket ≡ Some (length run)
    its = (mine.lifted up).0

    sees : entries me.0.seen ≡ run
    sees = (mine.lifted up).1

    sees_more : entries (me.0.seen ++ own) ≡ run ++ e ∷ []
    sees_more = entries-append me.0.seen own ∙ ap (λ es. es ++ e ∷ []) sees

    longer : length (run ++ e ∷ []) ≡ length run + 1
    longer = omega (arith, length-append run (e ∷ []))

    further : (xs : List (Entry S C A)) → IsPrefix xs run → IsPrefix xs (run ++ e ∷ [])
    further xs pre = (pre.0 ++ e ∷ [], sym (append_assoc xs pre.0 (e ∷ [])) ∙ ap (λ es. es ++ e ∷ []) pre.1)

    -- no other has this ticket
    not_ours : (i t : ℕ) (v : View S C A) → i ≢ id → get_elem? s.views i ≡ some v → v.ticket ≡ Some t → t ≢ length run
    not_ours i t v n there ticket same = n (has.alone i id t v me.0 there at ticket (its ∙ ap (λ k. Some k) (sym same)))

    other_fits : (i : ℕ) (v : View S C A) → i ≢ id → get_elem? s.views i ≡ some v → Fits first (run ++ e ∷ []) next v
    other_fits i v n there =
        let f = has.fits i v there in record {
          begins = f.begins;
          seen = further (entries v.seen) f.seen;
          joined = further (entries v.joined) f.joined;
          waits = λ t ticket. let b = f.waits t ticket in let c = not_ours i t v n there ticket in let l = longer in (omega arith, b.1);
          lifted = λ high. absurd (not_ours i (length run) v n there (f.lifted high).0 refl);
          spent = f.spent;
        }

    own_fits : 0 < me.0.part → Fits first (run ++ e ∷ []) next w
    own_fits share = record {
      begins = mine.begins;
      seen = ([], append-nil _ ∙ sees_more);
      joined = further (entries me.0.joined) mine.joined;
      waits = λ t ticket. grind arith;
      lifted = λ high. absurd (clash false high refl);
      spent = λ z p. absurd (omega arith);
    }

    made_once : (p : ℕ) → made w p + stands run p ≡ made me.0 p + stands (run ++ e ∷ []) p
    made_once p =
        let a : made_at (me.0.seen ++ own) p + stands run p ≡ made_at me.0.seen p + stands (run ++ e ∷ []) p = subst (λ es. made_at (me.0.seen ++ own) p + stands es p ≡ made_at me.0.seen p + stands (es ++ e ∷ []) p) sees (made_at_own me.0.seen e p) in
        omega arith

    pub released : 0 < me.0.part → steps (end_of first run) e.call e.answer e.after → (words : List ℕ) → words ≡ next ∷ (length run + 1) ∷ []
        → HasRun steps first record { words = words; homes = some (Some value) ∷ []; views = set s.views id w } (run ++ e ∷ []) next
    released share follows words is = record {
      legal = run_snoc steps first run e has.legal follows;
      words = is ∙ ap (λ n. next ∷ n ∷ []) (sym longer);
      behind = let b = (mine.waits (length run) its).1 in let l = longer in omega arith;
      room = has.room;
      home = inl (value, refl, value_is ∙ sym (end_of-append first run (e ∷ [])));
      fits = λ i v there. elim (at_set s.views id i w v there) [
        | inl here ↦ subst (λ x. Fits first (run ++ e ∷ []) next x) here.1 (own_fits share)
        | inr other ↦ other_fits i v other.0 other.1
      ];
      alone = alone_set steps first s run next has id me.0 at w (λ t ticket. absurd (no_ticket t ticket));
      once = λ p. let a = total_set (λ (x : View S C A). made x p) s.views id me.0 w at in let b = made_once p in let c = has.once p in omega arith;
      whole = whole_set steps first s run next has id me.0 at w refl refl;
    }

  -- the slot is the only one
  one_home : (final : S) (s : State (Held S C A) (View S C A)) (x : maybe.Option (Held S C A)) → Home final s.homes s.views → set s.homes 0 x ≡ x ∷ []
  one_home final s x home = elim home [
    | inl here ↦ ap (λ hs. set hs 0 x) here.1
    | inr out ↦ ap (λ hs. set hs 0 x) out.2
  ]

-- me is the seat as it holds the value, with the call and the answer
module _ {S C A : Type 0} (steps : S → C → A → S → Type 0) (first : S) (slots id : ℕ) (v : View S C A) (e : Entry S C A) (call : Snapshot C) (answer : Snapshot A) where
  abbrev pub full : Valued S C A
  full = (e.after, Some (call, answer))

  pub may_release : (t new : ℕ) → call.value ≡ e.call → answer.value ≡ e.answer → v.ticket ≡ Some t → v.lifted ≡ true → 0 < v.part → new ≡ t + 1 → steps (end_of first (entries v.seen)) e.call e.answer e.after
      → Allows (Kept steps first) slots id (v, (0, Some full) ∷ []) 1 (λ _. new) (λ _. Releases (step slots 1 new 0 none) (v, (0, Some full) ∷ []) new)
  may_release t new same_call same_answer ticket up share one follows s kept long at fits =
      let run = kept.0 in let next = kept.1 in let has = kept.2 in
      let m : Fits first run next v = has.fits id v at in
      let its : t ≡ length run = given _ _ (sym ticket ∙ (m.lifted up).0) in
      let entry : note_of (Some full) ≡ (e, true) ∷ [] = ap (λ c. (record { call = c; answer = answer.value; after = e.after }, true) ∷ []) same_call ∙ ap (λ a. (record { call = e.call; answer = a; after = e.after }, true) ∷ []) same_answer in
      let said : steps (end_of first run) e.call e.answer e.after = subst (λ es. steps (end_of first es) e.call e.answer e.after) (m.lifted up).1 follows in
      let words : set s.words 1 new ≡ next ∷ (length run + 1) ∷ [] = ap (λ ws. set ws 1 new) has.words ∙ ap (λ n. next ∷ n ∷ []) (omega arith) in
      let kept_on : HasRun steps first record { words = set s.words 1 new; homes = some (Some full) ∷ []; views = set s.views id (with_note v ((e, true) ∷ [])) } (run ++ e ∷ []) next = released steps first slots id (v, (0, Some full) ∷ []) e full s run next has at up refl share said (set s.words 1 new) words in (
        with_note v ((e, true) ∷ []),
        gives,
        tt,
        (run ++ e ∷ [], next, subst (λ hs. HasRun steps first record { words = set s.words 1 new; homes = hs; views = set s.views id (with_note v ((e, true) ∷ [])) } (run ++ e ∷ []) next) (sym (one_home steps first slots id (v, (0, Some full) ∷ []) e full (end_of first run) s (some (Some full)) has.home)) kept_on),
        ap (λ es. (with_note v es, [])) (sym entry),
      )

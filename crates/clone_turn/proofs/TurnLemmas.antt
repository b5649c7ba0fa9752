-- Draw, look and release keep the rule.
use Rattle.std.proofs.Common.{ℕ, ◌≡◌, ◌≢◌, ◌+◌, ◌<◌, List, [], ◌∷◌, ◌++◌, length, set, refl, sym, ap, ◌∙◌, subst, Some, inl, inr, true, false, Bool, ◌==◌, arith, MatchBool, slice_index}
use Rattle.std.proofs.lemmas.List.{append-nil}
use Rattle.std.proofs.lemmas.Bool.Decides.{nat_tests}
use Rattle.std.specs.declared.option.Option.{Option}
use mathlib.Core.Option.{some, none}
use mathlib.Core.Logic.{dite}
use native.Mathlib.Decide.{ℕ_discrete}
use lib.ListN.{get_elem?}
use prog.Atomic.{either}
use Rattle.atomic_table.specs.Table.{State, Me, Act, Allows, Valid, step, stepped, keeps, takes, carried_after}
use Rattle.clone_turn.specs.declared.view.Entry.{Entry}
use Rattle.clone_turn.specs.declared.view.View.{View}
use Rattle.clone_turn.specs.Runs.{end_of, entries, others, IsLegalRun}
use Rattle.clone_turn.specs.Rule.{Kept, HasRun, Fits, Held, Valued, Draws, Looks, with_ticket, with_state, made_at, stands}
use Rattle.clone_turn.proofs.Entries.{entries_seen, made_at_seen}
use Rattle.clone_turn.proofs.ShareLemmas.{whole_alone}
use Rattle.clone_turn.proofs.Steps.{moved, set_at, same_at, home_kept}

pub given : (a b : ℕ) → ◌≡◌ {A = Option ℕ} (Some a) (Some b) → a ≡ b
given a b e = grind arith

pub clash : (b : Bool) → b ≡ true → b ≡ false → ⊥
clash b up down = grind arith

module _ {S C A : Type 0} (steps : S → C → A → S → Type 0) (first : S) (slots id : ℕ) (me : Me (Held S C A) (View S C A)) where
  abbrev Drawn : State (Held S C A) (View S C A) → ℕ → ℕ → ℕ → Bool → Type 0
  Drawn s n old new b = (w : View S C A) × (a : Act (Held S C A)) × Valid s.homes me.1 a × Kept steps first (stepped s 0 (either b new n) id me.1 w a) × MatchBool b (◌≡◌ {A = Me (Held S C A) (View S C A)} (w, carried_after me.1 a) (with_ticket me.0 n, me.1)) (◌≡◌ {A = Me (Held S C A) (View S C A)} (w, carried_after me.1 a) me)

  module _ (s : State (Held S C A) (View S C A)) (run : List (Entry S C A)) (next : ℕ) (has : HasRun steps first s run next) (at : get_elem? s.views id ≡ some me.0) where
    found : slice_index s.words 0 ≡ next
    found = ap (λ ws. slice_index ws 0) has.words

    serving : slice_index s.words 1 ≡ length run
    serving = ap (λ ws. slice_index ws 1) has.words

    mine : Fits first run next me.0
    mine = has.fits id me.0 at

    draws : (old new : ℕ) → new ≡ old + 1 → new < 18446744073709551616 → me.0.lifted ≡ false → (b : Bool) → (slice_index s.words 0 == old) ≡ b → Drawn s (slice_index s.words 0) old new b
    draws old new one room down true is =
        let n : slice_index s.words 0 ≡ old = grind (arith, nat_tests) in
        let nx : next ≡ old = sym found ∙ n in
        let n' : slice_index s.words 0 ≡ next = found in (
          with_ticket me.0 (slice_index s.words 0),
          keeps,
          tt,
          (
            run,
            new,
            moved steps first s run next has id me.0 at (with_ticket me.0 (slice_index s.words 0)) new _ s.homes (omega arith) room (ap (λ ws. set ws 0 new) has.words)
                (record { begins = mine.begins; seen = mine.seen; joined = mine.joined; waits = λ t e. let k = given _ t e in let b = has.behind in omega arith; lifted = λ up. absurd (clash _ up down); spent = mine.spent })
                (λ t e. inr (let k = given _ t e in omega arith))
                (λ p. refl) refl refl
                (home_kept _ s.homes s.views id me.0 _ at refl has.home),
          ),
          refl,
        )
    draws old new one room down false is = (
      me.0,
      keeps,
      tt,
      (
        run,
        next,
        moved steps first s run next has id me.0 at me.0 next _ s.homes (omega arith) has.room (ap (λ ws. set ws 0 (slice_index s.words 0)) has.words ∙ ap (λ n. n ∷ length run ∷ []) found)
            mine (λ t e. inl e) (λ p. refl) refl refl (home_kept _ s.homes s.views id me.0 _ at refl has.home),
      ),
      refl,
    )

    -- where it is the seat's turn, the value is at home
    at_home : me.0.ticket ≡ Some (length run) → me.0.lifted ≡ false → (h : Valued S C A) × (s.homes ≡ some (Some h) ∷ []) × (h.0 ≡ end_of first run)
    at_home ticket down = elim has.home [
      | inl here ↦ here
      | inr out ↦ let there = has.fits out.0 out.1 out.3 in
          let same : id ≡ out.0 = has.alone id out.0 (length run) me.0 out.1 at out.3 ticket (there.lifted out.4).0 in
          let up : me.0.lifted ≡ true = ap (λ (x : View S C A). x.lifted) (same_at s.views id out.0 me.0 out.1 at out.3 same) ∙ out.4 in absurd (clash _ up down)
    ]

  pub may_draw : (old new : ℕ) → new ≡ old + 1 → new < 18446744073709551616 → me.0.lifted ≡ false
      → Allows (Kept steps first) slots id me 0 (λ n. either (n == old) new n) (Draws (step slots 0 old new none) me)
  may_draw old new one room down s kept long at fits = draws s kept.0 kept.1 kept.2 at old new one room down (slice_index s.words 0 == old) refl

  -- the seat's ticket is t
  abbrev Looked : State (Held S C A) (View S C A) → ℕ → Type 0
  Looked s n = (w : View S C A) × (a : Act (Held S C A)) × Valid s.homes me.1 a × Kept steps first (stepped s 1 n id me.1 w a) × Looks steps (step slots 1 0 0 none) me n (w, carried_after me.1 a)

  module _ (s : State (Held S C A) (View S C A)) (run : List (Entry S C A)) (next : ℕ) (has : HasRun steps first s run next) (at : get_elem? s.views id ≡ some me.0) (t : ℕ) (ticket : me.0.ticket ≡ Some t) (down : me.0.lifted ≡ false) where
    same_words : set s.words 1 (slice_index s.words 1) ≡ next ∷ length run ∷ []
    same_words = ap (λ ws. set ws 1 (slice_index s.words 1)) has.words ∙ ap (λ n. next ∷ n ∷ []) (serving s run next has at)

    turn_comes : t ≡ slice_index s.words 1 → Looked s (slice_index s.words 1)
    turn_comes e =
        let m : Fits first run next me.0 = mine s run next has at in
        let its : me.0.ticket ≡ Some (length run) = ticket ∙ ap (λ n. Some n) (e ∙ serving s run next has at) in
        let h = at_home s run next has at its down in
        let rest = m.seen.0 in
        let sees : entries (me.0.seen ++ others rest) ≡ run = entries_seen me.0.seen rest ∙ m.seen.1 in
        let w = with_state me.0 rest in (
          w,
          takes 0 (Some h.0),
          ap (λ hs. get_elem? hs 0) h.1,
          (
            run,
            next,
            moved steps first s run next has id me.0 at w next _ (set s.homes 0 none) (omega arith) has.room same_words
                (record { begins = m.begins; seen = ([], ap (λ es. es ++ []) sees ∙ append-nil run); joined = m.joined; waits = m.waits; lifted = λ up. (its, sees); spent = λ z p. ap (λ n. n + made_at me.0.joined p) (made_at_seen me.0.seen rest p) ∙ m.spent z p })
                (λ u g. inl g) (λ p. ap (λ n. n + made_at me.0.joined p) (made_at_seen me.0.seen rest p)) refl refl
                (inr (id, w, ap (λ hs. set hs 0 none) h.1, set_at s.views id me.0 w at, refl)),
          ),
          (
            (λ _. (rest, h.0, refl, λ f is. let fe = m.begins f is in (subst (λ es. IsLegalRun steps f es) (sym m.seen.1) (subst (λ k. IsLegalRun steps k run) (sym fe) has.legal), h.2 ∙ (ap (λ k. end_of k run) (sym fe) ∙ ap (λ es. end_of f es) (sym m.seen.1))), λ whole p. whole_alone steps first s run next has id me.0 at whole p ∙ ap (λ es. stands es p) (sym m.seen.1))),
            (λ no_turn. absurd (no_turn (ticket ∙ ap (λ n. Some n) e))),
          ),
        )

    not_yet : t ≢ slice_index s.words 1 → Looked s (slice_index s.words 1)
    not_yet n = (
      me.0,
      keeps,
      tt,
      (
        run,
        next,
        moved steps first s run next has id me.0 at me.0 next _ s.homes (omega arith) has.room same_words
            (mine s run next has at) (λ u g. inl g) (λ p. refl) refl refl (home_kept _ s.homes s.views id me.0 _ at refl has.home),
      ),
      ((λ its. absurd (n (given _ _ (sym ticket ∙ its)))), (λ _. refl)),
    )

  pub may_look : (t : ℕ) → me.0.ticket ≡ Some t → me.0.lifted ≡ false
      → Allows (Kept steps first) slots id me 1 (λ n. n) (Looks steps (step slots 1 0 0 none) me)
  may_look t ticket down s kept long at fits = dite (ℕ_discrete t (slice_index s.words 1)) (turn_comes s kept.0 kept.1 kept.2 at t ticket down) (not_yet s kept.0 kept.1 kept.2 at t ticket down)

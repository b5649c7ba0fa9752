-- The step after a join keeps the rule: it lays what two seats have seen over each other.
use Rattle.std.proofs.Common.{ℕ, zero, suc, ◌≡◌, ◌<◌, List, [], ◌∷◌, ◌++◌, length, set, refl, sym, ap, ◌∙◌, subst, inl, false, slice_index, arith}
use mathlib.Core.Option.{none}
use mathlib.Core.List.{IsPrefix}
use Rattle.atomic_table.specs.Table.{Me, Allows, step, keeps}
use Rattle.clone_turn.specs.declared.view.Entry.{Entry}
use Rattle.clone_turn.specs.declared.view.View.{View}
use Rattle.clone_turn.specs.Runs.{Agree, meld, entries}
use Rattle.clone_turn.specs.Rule.{Kept, HasRun, Fits, Held, Settles, made, stands}
use Rattle.clone_turn.proofs.MeldedViewLemmas.{agrees, meld_front, meld_made}
use Rattle.clone_turn.proofs.Sums.{total_part}
use Rattle.clone_turn.proofs.Steps.{moved, home_kept}
use Rattle.clone_turn.proofs.TurnLemmas.{clash}

module _ {S C A : Type 0} where
  one_each : (run : List (Entry S C A)) (p : ℕ) → stands run p < 2
  one_each [] p = omega arith
  one_each (e ∷ es) zero = omega arith
  one_each (e ∷ es) (suc p) = one_each es p

  pub may_settle : (steps : S → C → A → S → Type 0) (first : S) (slots id : ℕ) (me : Me (Held S C A) (View S C A)) → me.0.lifted ≡ false
      → Allows (Kept steps first) slots id me 0 (λ n. n) (Settles (step slots 0 0 0 none) me)
  may_settle steps first slots id me down s kept long at fits =
      let run = kept.0 in let next = kept.1 in
      let has : HasRun steps first s run next = kept.2 in
      let m : Fits first run next me.0 = has.fits id me.0 at in
      let v : View S C A = me.0 in
      let same : entries v.seen ++ m.seen.0 ≡ entries v.joined ++ m.joined.0 = m.seen.1 ∙ sym m.joined.1 in
      let agree : Agree v.seen v.joined = agrees v.seen v.joined m.seen.0 m.joined.0 same (λ p. let a = total_part (λ (x : View S C A). made x p) s.views id v at in let b = has.once p in let c = one_each run p in omega arith) in
      let w : View S C A = record v { seen = meld v.seen v.joined; joined = [] } in
      let once : (p : ℕ) → made w p ≡ made v p = λ p. (let a = meld_made v.seen v.joined agree p in omega arith) in
      let front : IsPrefix (entries w.seen) run = subst (λ es. IsPrefix (entries w.seen) es) m.seen.1 (meld_front v.seen v.joined m.seen.0 m.joined.0 same) in
      let words : set s.words 0 (slice_index s.words 0) ≡ next ∷ length run ∷ [] = ap (λ ws. set ws 0 (slice_index s.words 0)) has.words ∙ ap (λ n. n ∷ length run ∷ []) (ap (λ ws. slice_index ws 0) has.words) in (
        w,
        keeps,
        tt,
        (
          run,
          next,
          moved steps first s run next has id v at w next _ s.homes (omega arith) has.room words
              (record { begins = m.begins; seen = front; joined = (run, refl); waits = m.waits; lifted = λ up. absurd (clash _ up down); spent = λ z p. once p ∙ m.spent z p })
              (λ t g. inl g) once refl refl (home_kept _ s.homes s.views id v w at refl has.home),
        ),
        (agree, refl),
      )

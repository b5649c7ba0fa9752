-- Nothing that opens is put out after what leaves.
use Rattle.std.proofs.Common.{◌≡◌, Bool, true, false, List, [], ◌∷◌, ◌++◌, flat_map, refl}
use Rattle.clone_turn.specs.declared.view.Entry.{Entry}
use Rattle.clone_turn.specs.Runs.{IsLegalRun}
use Rattle.clone_turn.proofs.EachLemmas.{each_append}
use Rattle.clone_runs.specs.Keeping.{Keeps}
use Rattle.clone_runs.specs.Marks.{NoneAfter, NoneIn}

module _ {X : Type 0} (opens leaves : X → Bool) where
  after_none : (xs : List X) → NoneIn opens xs → NoneAfter opens leaves xs
  after_none [] none = tt
  after_none (x ∷ xs) none = ((λ left. none.1), after_none xs none.1)

  after_append : (xs ys : List X) → NoneAfter opens leaves xs → NoneIn opens ys → NoneAfter opens leaves (xs ++ ys)
  after_append [] ys after none = after_none ys none
  after_append (x ∷ xs) ys after none = ((λ left. each_append (λ y. opens y ≡ false) xs ys (after.0 left) none), after_append xs ys after.1 none)

  not_both : (b : Bool) → b ≡ true → b ≡ false → ⊥
  not_both b one other = cc

  after_quiet : (xs ys : List X) → NoneIn leaves xs → NoneAfter opens leaves ys → NoneAfter opens leaves (xs ++ ys)
  after_quiet [] ys quiet after = after
  after_quiet (x ∷ xs) ys quiet after = ((λ left. absurd (not_both (leaves x) left quiet.0)), after_quiet xs ys quiet.1 after)

module _ {S C A K : Type 0} (steps : S → C → A → S → Type 0) (puts : Entry S C A → List K) (opens leaves : K → Bool) (has_left : S → Bool) (keeps : Keeps steps puts opens leaves has_left) where
  none_any_more : (s : S) (run : List (Entry S C A)) → IsLegalRun steps s run → has_left s ≡ true → NoneIn opens (flat_map puts run)
  none_any_more s [] legal left = tt
  none_any_more s (e ∷ run) legal left =
      each_append (λ k. opens k ≡ false) (puts e) (flat_map puts run) (keeps.quiet s e legal.0 left) (none_any_more e.after run legal.1 (keeps.stays s e legal.0 left))

  pub kept_run : (s : S) (run : List (Entry S C A)) → IsLegalRun steps s run → NoneAfter opens leaves (flat_map puts run)
  kept_run s [] legal = tt
  kept_run s (e ∷ run) legal = by (has_left e.after) refl (kept_run e.after run legal.1)
    where
      by : (b : Bool) → has_left e.after ≡ b → NoneAfter opens leaves (flat_map puts run) → NoneAfter opens leaves (puts e ++ flat_map puts run)
      by true is later = after_append opens leaves (puts e) (flat_map puts run) (keeps.order s e legal.0) (none_any_more e.after run legal.1 is)
      by false is later = after_quiet opens leaves (puts e) (flat_map puts run) (keeps.marks s e legal.0 is) later

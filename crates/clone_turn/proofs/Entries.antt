-- Lists of entries, and whose they are.
use Rattle.std.proofs.Common.{ℕ, zero, suc, ◌≡◌, ◌+◌, List, [], ◌∷◌, ◌++◌, Bool, true, refl, ap, ◌∙◌}
use Rattle.clone_turn.specs.declared.view.Entry.{Entry}
use Rattle.clone_turn.specs.Runs.{entries, others, IsLegalRun, end_of}
use Rattle.clone_turn.specs.Rule.{made_at, stands}

module _ {S C A : Type 0} where
  pub entries-append : (xs ys : List (Entry S C A × Bool)) → entries (xs ++ ys) ≡ entries xs ++ entries ys
  entries-append [] ys = refl
  entries-append (x ∷ xs) ys = ap (λ es. x.0 ∷ es) (entries-append xs ys)

  pub entries-others : (es : List (Entry S C A)) → entries (others es) ≡ es
  entries-others [] = refl
  entries-others (e ∷ es) = ap (λ fs. e ∷ fs) (entries-others es)

  -- to see more
  pub entries_seen : (xs : List (Entry S C A × Bool)) (es : List (Entry S C A)) → entries (xs ++ others es) ≡ entries xs ++ es
  entries_seen xs es = entries-append xs (others es) ∙ ap (λ fs. entries xs ++ fs) (entries-others es)

  pub made_at-others : (es : List (Entry S C A)) (p : ℕ) → made_at (others es) p ≡ 0
  made_at-others [] p = refl
  made_at-others (e ∷ es) zero = refl
  made_at-others (e ∷ es) (suc p) = made_at-others es p

  pub made_at_seen : (xs : List (Entry S C A × Bool)) (es : List (Entry S C A)) (p : ℕ) → made_at (xs ++ others es) p ≡ made_at xs p
  made_at_seen [] es p = made_at-others es p
  made_at_seen (x ∷ xs) es zero = refl
  made_at_seen (x ∷ xs) es (suc p) = made_at_seen xs es p

  pub made_at_own : (xs : List (Entry S C A × Bool)) (e : Entry S C A) (p : ℕ) → made_at (xs ++ (e, true) ∷ []) p + stands (entries xs) p ≡ made_at xs p + stands (entries xs ++ e ∷ []) p
  made_at_own [] e zero = refl
  made_at_own [] e (suc p) = refl
  made_at_own (x ∷ xs) e zero = refl
  made_at_own (x ∷ xs) e (suc p) = made_at_own xs e p

  pub end_of-append : (first : S) (es fs : List (Entry S C A)) → end_of first (es ++ fs) ≡ end_of (end_of first es) fs
  end_of-append first [] fs = refl
  end_of-append first (e ∷ es) fs = end_of-append e.after es fs

  module _ (steps : S → C → A → S → Type 0) where
    pub run_snoc : (first : S) (es : List (Entry S C A)) (e : Entry S C A) → IsLegalRun steps first es → steps (end_of first es) e.call e.answer e.after → IsLegalRun steps first (es ++ e ∷ [])
    run_snoc first [] e legal step = (step, tt)
    run_snoc first (x ∷ xs) e legal step = (legal.0, run_snoc x.after xs e legal.1 step)

    pub run_later : (first : S) (es fs : List (Entry S C A)) → IsLegalRun steps first (es ++ fs) → IsLegalRun steps (end_of first es) fs
    run_later first [] fs legal = legal
    run_later first (e ∷ es) fs legal = run_later e.after es fs legal.1

-- Which of the entries that a seat has seen are its own.
use Rattle.std.proofs.Common.{◌≡◌, List, [], ◌∷◌, ◌++◌, refl, ap, ◌∙◌, true, false, Bool}
use Rattle.std.proofs.lemmas.List.{append-nil}
use Rattle.clone_turn.specs.declared.view.Entry.{Entry}
use Rattle.clone_turn.specs.Runs.{others, calls}

module _ {S C A : Type 0} where
  pub calls-append : (xs ys : List (Entry S C A × Bool)) → calls (xs ++ ys) ≡ calls xs ++ calls ys
  calls-append [] ys = refl
  calls-append ((e, true) ∷ xs) ys = ap (λ es. e ∷ es) (calls-append xs ys)
  calls-append ((e, false) ∷ xs) ys = calls-append xs ys

  pub calls-others : (es : List (Entry S C A)) → calls (others es) ≡ []
  calls-others [] = refl
  calls-others (e ∷ es) = calls-others es

  -- one call more
  pub calls_more : (xs : List (Entry S C A × Bool)) (rest : List (Entry S C A)) (e : Entry S C A) → calls ((xs ++ others rest) ++ (e, true) ∷ []) ≡ calls xs ++ e ∷ []
  calls_more xs rest e =
      calls-append (xs ++ others rest) ((e, true) ∷ []) ∙ ap (λ es. es ++ e ∷ []) (calls-append xs (others rest) ∙ (ap (λ es. calls xs ++ es) (calls-others rest) ∙ append-nil (calls xs)))

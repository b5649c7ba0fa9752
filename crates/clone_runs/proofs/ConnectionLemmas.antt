-- Connections that are served in the order in which they were made.
use Rattle.std.proofs.Common.{ℕ, ◌≡◌, ◌≤◌, ◌<◌, inl, inr, List, [], ◌∷◌, ◌++◌, sym, subst, arith}
use Rattle.std.specs.List.{AllByRecursion}
use Rattle.clone_turn.specs.Parts.{IsSublist}
use Rattle.clone_turn.proofs.EachLemmas.{each_append, each_left, each_map, each_right}
use Rattle.clone_turn.proofs.SublistLemmas.{sublist_after, sublist_front}
use Rattle.clone_runs.specs.Marks.{Ascends}
use Rattle.clone_runs.specs.Ends.{Passed}
use Rattle.clone_runs.specs.Connections.{AreInOrder, AreMatched, AreOf, IsOneOf, WasServed, answers_of, commands_of, place_of}

module _ {C X : Type 0} where
  pub in_sublist : (served made : List (Passed C X)) → AreInOrder served made → IsSublist (commands_of served) (commands_of made)
  in_sublist [] made order = tt
  in_sublist (d ∷ served) [] order = absurd order
  in_sublist (d ∷ served) (m ∷ made) (inl both) =
      subst (λ cs. IsSublist (d.commands ++ commands_of served) (cs ++ commands_of made)) both.0.commands.1
      (sublist_front d.commands both.0.commands.0 (commands_of served) (commands_of made) (in_sublist served made both.1))
  in_sublist (d ∷ served) (m ∷ made) (inr order) =
      sublist_after m.commands (d.commands ++ commands_of served) (commands_of made) (in_sublist (d ∷ served) made order)

  -- a connection that was made later has a greater place
  made_above : (n : ℕ) (d : Passed C X) (made : List (Passed C X)) → AllByRecursion (λ m. n < place_of m) made → IsOneOf made d → n < d.place
  made_above n d [] above one = absurd one
  made_above n d (m ∷ made) above (inl ends) = omega (arith, ends.place, above.0)
  made_above n d (m ∷ made) above (inr one) = made_above n d made above.1 one

  dropped : (m : Passed C X) (made served : List (Passed C X)) (n : ℕ) → m.place ≤ n → AllByRecursion (λ d. n < place_of d) served → AreOf served (m ∷ made) → AreOf served made
  dropped m made [] n low above of = tt
  dropped m made (d ∷ served) n low above (inl ends, of) = absurd (omega (arith, ends.place, above.0, low))
  dropped m made (d ∷ served) n low above (inr one, of) = (one, dropped m made served n low above.1 of)

  pub in_order : (served made : List (Passed C X)) → Ascends place_of served → Ascends place_of made → AreOf served made → AreInOrder served made
  in_order [] made up up_too of = tt
  in_order (d ∷ served) [] up up_too of = absurd of.0
  in_order (d ∷ served) (m ∷ made) up up_too (inl ends, of) =
      inl (ends, in_order served made up.1 up_too.1 (dropped m made served d.place (omega (arith, ends.place)) up.0 of))
  in_order (d ∷ served) (m ∷ made) up up_too (inr one, of) =
      let low = made_above m.place d made up_too.0 one in
      inr (in_order (d ∷ served) made up up_too.1 (one, dropped m made served d.place (omega (arith, low)) up.0 of))

  -- what holds of each command that a task put out holds of each that came
  came_one : (P : C → Type 0) (made : List (Passed C X)) (d : Passed C X) → AllByRecursion P (commands_of made) → IsOneOf made d → AllByRecursion P d.commands
  came_one P [] d each one = absurd one
  came_one P (m ∷ made) d each (inl ends) =
      each_left P d.commands ends.commands.0 (subst (AllByRecursion P) (sym ends.commands.1) (each_left P m.commands (commands_of made) each))
  came_one P (m ∷ made) d each (inr one) = came_one P made d (each_right P m.commands (commands_of made) each) one

  pub each_came : (P : C → Type 0) (made served : List (Passed C X)) → AllByRecursion P (commands_of made) → AreOf served made → AllByRecursion P (commands_of served)
  each_came P made [] each of = tt
  each_came P made (d ∷ served) each of = each_append P d.commands (commands_of served) (came_one P made d each of.0) (each_came P made served each of.1)

  -- and of each answer that the donor gave of each that was taken
  taken_one : (P : X → Type 0) (served : List (Passed C X)) (m : Passed C X) → AllByRecursion P (answers_of served) → WasServed served m → AllByRecursion P m.answers
  taken_one P [] m each none = subst (AllByRecursion P) (sym none) tt
  taken_one P (d ∷ served) m each (inl ends) =
      each_left P m.answers ends.answers.0 (subst (AllByRecursion P) (sym ends.answers.1) (each_left P d.answers (answers_of served) each))
  taken_one P (d ∷ served) m each (inr more) = taken_one P served m (each_right P d.answers (answers_of served) each) more

  pub each_taken : (P : X → Type 0) (served made : List (Passed C X)) → AllByRecursion P (answers_of served) → AllByRecursion (WasServed served) made → AllByRecursion P (answers_of made)
  each_taken P served [] each heard = tt
  each_taken P served (m ∷ made) each heard = each_append P m.answers (answers_of made) (taken_one P served m each heard.0) (each_taken P served made each heard.1)

  -- ends that are matched
  of_more : (m : Passed C X) (made served : List (Passed C X)) → AreOf served made → AreOf served (m ∷ made)
  of_more m made served of = each_map (IsOneOf made) (IsOneOf (m ∷ made)) (λ d one. inr one) served of

  pub matched_of : (served made : List (Passed C X)) → AreMatched served made → AreOf served made
  matched_of [] made matched = tt
  matched_of (d ∷ served) [] matched = absurd matched
  matched_of (d ∷ served) (m ∷ made) (inl both) = (inl both.0, of_more m made served (matched_of served made both.1))
  matched_of (d ∷ served) (m ∷ made) (inr rest) = of_more m made (d ∷ served) (matched_of (d ∷ served) made rest.1)

  silent : (served : List (Passed C X)) (m : Passed C X) → m.answers ≡ [] → WasServed served m
  silent [] m none = none
  silent (d ∷ served) m none = inr (silent served m none)

  pub matched_heard : (served made : List (Passed C X)) → AreMatched served made → AllByRecursion (WasServed served) made
  matched_heard [] [] matched = tt
  matched_heard (d ∷ served) [] matched = absurd matched
  matched_heard [] (m ∷ made) matched = (matched.0, matched_heard [] made matched.1)
  matched_heard (d ∷ served) (m ∷ made) (inl both) =
      (inl both.0, each_map (WasServed served) (WasServed (d ∷ served)) (λ n heard. inr heard) made (matched_heard served made both.1))
  matched_heard (d ∷ served) (m ∷ made) (inr rest) = (silent (d ∷ served) m rest.0, matched_heard (d ∷ served) made rest.1)

-- What passed over the connections of a task: what is known of all that one end put out is known of
-- what came at the other.
use Rattle.std.proofs.Common.{List, [], ◌∷◌, inl, inr, sym, subst}
use Rattle.std.specs.List.{AllByRecursion}
use mathlib.Core.List.{IsPrefix}
use Rattle.clone_turn.proofs.EachLemmas.{each_append, each_left, each_right}
use Rattle.clone_runs.specs.Ends.{Passed}
use Rattle.clone_runs.specs.Connections.{AreOf, IsOneOf, WasServed, answers_of, commands_of}

module _ {X : Type 0} (P : X → Type 0) where
  each_front : (xs ys : List X) → IsPrefix xs ys → AllByRecursion P ys → AllByRecursion P xs
  each_front xs ys front each = each_left P xs front.0 (subst (AllByRecursion P) (sym front.1) each)

module _ {C X : Type 0} where
  taken_at : (P : X → Type 0) (served : List (Passed C X)) (task : Passed C X) → AllByRecursion P (answers_of served) → WasServed served task → AllByRecursion P task.answers
  taken_at P [] task each none = subst (AllByRecursion P) (sym none) tt
  taken_at P (donor ∷ served) task each (inl ends) = each_front P task.answers donor.answers ends.answers (each_left P donor.answers (answers_of served) each)
  taken_at P (donor ∷ served) task each (inr later) = taken_at P served task (each_right P donor.answers (answers_of served) each) later

  -- of the answers
  pub each_taken : (P : X → Type 0) (served made : List (Passed C X)) → AllByRecursion P (answers_of served) → AllByRecursion (WasServed served) made → AllByRecursion P (answers_of made)
  each_taken P served [] each heard = tt
  each_taken P served (task ∷ made) each heard = each_append P task.answers (answers_of made) (taken_at P served task each heard.0) (each_taken P served made each heard.1)

  came_at : (P : C → Type 0) (made : List (Passed C X)) (donor : Passed C X) → AllByRecursion P (commands_of made) → IsOneOf made donor → AllByRecursion P donor.commands
  came_at P [] donor each is = absurd is
  came_at P (task ∷ made) donor each (inl ends) = each_front P donor.commands task.commands ends.commands (each_left P task.commands (commands_of made) each)
  came_at P (task ∷ made) donor each (inr later) = came_at P made donor (each_right P task.commands (commands_of made) each) later

  -- and of the commands
  pub each_came : (P : C → Type 0) (made served : List (Passed C X)) → AllByRecursion P (commands_of made) → AreOf served made → AllByRecursion P (commands_of served)
  each_came P made [] each are = tt
  each_came P made (donor ∷ served) each are = each_append P donor.commands (commands_of served) (came_at P made donor each are.0) (each_came P made served each are.1)

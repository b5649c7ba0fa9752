-- What the ends of a connection that is settled tell of each other.
use Rattle.std.proofs.Common.{ℕ, ◌≡◌, List, [], ◌∷◌, ◌++◌, length, take, drop, refl, sym, ap, ◌∙◌, subst, Some, None, arith}
use Rattle.std.specs.Prelude.{IsSome, IfSome}
use Rattle.std.specs.declared.option.Option.{Option}
use Rattle.std.proofs.lemmas.List.{take-append-drop}
use mathlib.Core.List.{IsPrefix}
use Rattle.clone_outside.specs.Bytes.{TakesSome, appended}
use Rattle.clone_outside.specs.Link.{IsUnused, ReceivedOf}
use Rattle.clone_runs.specs.Spellings.{AreToldFrom, spellings}
use Rattle.clone_runs.specs.Ends.{AreEnds, EndBytes, IsSettled, Passed, WereSent, WereTaken}
use Rattle.clone_runs.proofs.MarkLemmas.{not_both}
use Rattle.clone_runs.proofs.SpellingLemmas.{front}

-- of an end that was new
since_new : (old new : Option (List ℕ)) (bytes : List ℕ) → IsUnused old → new ≡ appended old bytes → IfSome new (λ now. now ≡ bytes)
since_new None new bytes unused is = subst (λ (o : Option (List ℕ)). IfSome o (λ now. now ≡ bytes)) (sym is) tt
since_new (Some []) new bytes unused is = subst (λ (o : Option (List ℕ)). IfSome o (λ now. now ≡ bytes)) (sym is) refl
since_new (Some (x ∷ xs)) new bytes unused is = absurd (omega (arith, unused))

for_told : (o : Option (List ℕ)) (P Q : List ℕ → Type 0) → ((bytes : List ℕ) → P bytes → Q bytes) → IfSome o P → IfSome o Q
for_told None P Q f p = tt
for_told (Some bytes) P Q f p = f bytes p

module _ {X : Type 0} (spelled : X → List ℕ) where
  pub sent : (old new : Option (List ℕ)) (xs : List X) → IsUnused old → TakesSome old new (spellings spelled xs) → WereSent spelled new xs
  sent old new xs unused takes =
      for_told new (λ now. now ≡ take takes.0 (spellings spelled xs)) (λ now. IsPrefix now (spellings spelled xs))
      (λ now is. (drop takes.0 (spellings spelled xs), ap (λ ys. ys ++ drop takes.0 (spellings spelled xs)) is ∙ take-append-drop takes.0 (spellings spelled xs)))
      (since_new old new (take takes.0 (spellings spelled xs)) unused takes.1)

  pub taken : (old new : Option (List ℕ)) (xs : List X) (rest : List ℕ) → IsUnused old → new ≡ appended old (spellings spelled xs ++ rest) → WereTaken spelled new xs
  taken old new xs rest unused is =
      for_told new (λ now. now ≡ spellings spelled xs ++ rest) (λ now. IsPrefix (spellings spelled xs) now) (λ now same. (rest, sym same))
      (since_new old new (spellings spelled xs ++ rest) unused is)

  -- the one end took the first of what was put out at the other
  passed : (received put_out : Option (List ℕ)) (got put : List X) → IsSome received → IsSome put_out → AreToldFrom spelled got put → WereTaken spelled received got → WereSent spelled put_out put → ReceivedOf received put_out → IsPrefix got put
  passed None put_out got put one two told a b of = absurd (not_both one refl)
  passed (Some mine) None got put one two told a b of = absurd (not_both two refl)
  passed (Some mine) (Some its) got put one two told a b of = front spelled got put mine its told a of b

pub ends : {C X : Type 0} (command : C → List ℕ) (answer : X → List ℕ) (at_donor at_task : EndBytes) (donor task : Passed C X) → IsSettled command answer at_donor at_task donor task → AreEnds donor task
ends command answer at_donor at_task donor task s = record {
  place = s.place;
  commands = passed command at_donor.received at_task.sent donor.commands task.commands s.told.0.received s.told.1.sent s.commands s.heard s.asked s.to_donor;
  answers = passed answer at_task.received at_donor.sent task.answers donor.answers s.told.1.received s.told.0.sent s.answers s.taken s.answered s.to_task;
}

none_before : {X : Type 0} (xs ys : List X) → xs ++ ys ≡ [] → xs ≡ []
none_before [] ys e = refl
none_before (x ∷ xs) ys e = absurd (let n = ap length e in omega arith)

pub unserved : {C X : Type 0} (donor task : Passed C X) → AreEnds donor task → donor.answers ≡ [] → task.answers ≡ []
unserved donor task ends none = none_before task.answers ends.answers.0 (ends.answers.1 ∙ none)

-- What a watch was answered, and still knows later.
use Rattle.std.proofs.Common.{inl, inr, ℕ, ◌≡◌, ◌⊎◌, Bool, true, List, [], ◌∷◌, ◌++◌, Option, Some, refl, sym, subst}
use Rattle.clone_turn.specs.declared.view.Entry.{Entry}
use Rattle.clone_turn.specs.Runs.{calls}
use Rattle.clone_turn.specs.Seats.{SeatModel}
use Rattle.clone_turn.specs.Worked.{Worked}
use Rattle.clone_turn.proofs.EachLemmas.{each_append}
use Rattle.clone_turn.proofs.WorkedLemmas.{makes_calls, worked_more}
use Rattle.clone_copying.specs.Calling.{IsOne}
use Rattle.clone_copying.specs.Watching.{AreLooks, HasLooked, IsAmong, WasHalted}
use Rattle.clone_copying.proofs.CallingLemmas.{worked_map}

module _ {S C A : Type 0} where
  among_left : (P : C → A → Type 0) (xs ys : List (Entry S C A)) → IsAmong P xs → IsAmong P (xs ++ ys)
  among_left P (e ∷ es) ys (inl here) = inl here
  among_left P (e ∷ es) ys (inr later) = inr (among_left P es ys later)
  among_left P [] ys none = absurd none

  among_right : (P : C → A → Type 0) (xs ys : List (Entry S C A)) → IsAmong P ys → IsAmong P (xs ++ ys)
  among_right P [] ys is = is
  among_right P (e ∷ es) ys is = inr (among_right P es ys is)

  among_one : (P : C → A → Type 0) (call : C) (answer : A) (made : List (Entry S C A)) → IsOne call answer made → P call answer → IsAmong P made
  among_one P call answer made one is =
      subst (IsAmong P) (sym one.1) (inl (subst (λ c. P c one.0.answer) (sym one.2) (subst (P call) (sym one.3) is)))

  -- what is among the calls stays among them, and so does what was among those made since
  among_later : (P : C → A → Type 0) (Q : List (Entry S C A) → Type 0) (v w : SeatModel S C A) → Worked Q v w → IsAmong P (calls v.seen) → IsAmong P (calls w.seen)
  among_later P Q v w worked is = subst (IsAmong P) (sym (makes_calls v w worked.0 worked.1)) (among_left P (calls v.seen) worked.0 is)

  among_now : (P : C → A → Type 0) (call : C) (answer : A) (v w : SeatModel S C A) → Worked (IsOne call answer) v w → P call answer → IsAmong P (calls w.seen)
  among_now P call answer v w worked is =
      subst (IsAmong P) (sym (makes_calls v w worked.0 worked.1)) (among_right P (calls v.seen) worked.0 (among_one P call answer worked.0 worked.2 is))

  module _ (halted look : C) (is_halted : A → Bool) (position_of : A → Option ℕ) where
    pub looked_later : (v w : SeatModel S C A) → Worked (AreLooks halted look) v w → (n : ℕ) → HasLooked look position_of v n → HasLooked look position_of w n
    looked_later v w worked n is = among_later (λ c a. (c ≡ look) × (position_of a ≡ Some n)) (AreLooks halted look) v w worked is

    pub looked_now : (v w : SeatModel S C A) (answer : A) (n : ℕ) → Worked (IsOne look answer) v w → position_of answer ≡ Some n → HasLooked look position_of w n
    looked_now v w answer n worked is = among_now (λ c a. (c ≡ look) × (position_of a ≡ Some n)) look answer v w worked (refl, is)

    pub halted_now : (v w : SeatModel S C A) (answer : A) → Worked (IsOne halted answer) v w → is_halted answer ≡ true → WasHalted halted is_halted w
    halted_now v w answer worked is = among_now (λ c a. (c ≡ halted) × (is_halted a ≡ true)) halted answer v w worked (refl, is)

    looks_one : (call : C) (answer : A) → (call ≡ halted) ⊎ (call ≡ look) → (made : List (Entry S C A)) → IsOne call answer made → AreLooks halted look made
    looks_one call answer either made one =
        subst (AreLooks halted look) (sym one.1) (subst (λ c. (c ≡ halted) ⊎ (c ≡ look)) (sym one.2) either, tt)

    pub looks_now : (v w : SeatModel S C A) (call : C) (answer : A) → (call ≡ halted) ⊎ (call ≡ look) → Worked (IsOne call answer) v w → Worked (AreLooks halted look) v w
    looks_now v w call answer either worked = worked_map (IsOne call answer) (AreLooks halted look) v w worked (looks_one call answer either)

    pub looks_more : (u v w : SeatModel S C A) → Worked (AreLooks halted look) u v → Worked (AreLooks halted look) v w → Worked (AreLooks halted look) u w
    looks_more u v w a b = worked_more (AreLooks halted look) (AreLooks halted look) (AreLooks halted look) u v w a b (each_append (λ (e : Entry S C A). (e.call ≡ halted) ⊎ (e.call ≡ look)))

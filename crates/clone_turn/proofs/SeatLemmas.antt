-- What a call and a join tell of views, told of seats.
use Rattle.std.proofs.Common.{◌≡◌, ◌∙◌, ◌++◌, ap, sym, subst}
use Rattle.std.specs.List.Sorted.{IsPermutation}
use mathlib.Core.List.{IsPrefix}
use Rattle.atomic_table.specs.Seated.{TableId}
use Rattle.clone_turn.specs.declared.view.View.{View}
use Rattle.clone_turn.specs.Runs.{Agree, entries, calls, meld}
use Rattle.clone_turn.specs.Parts.{IsSublist}
use Rattle.clone_turn.specs.Rule.{Calls, joined_view}
use Rattle.clone_turn.proofs.MeldedViewLemmas.{meld_left, meld_right, meld_within, meld_within_other, calls-meld}
use Rattle.clone_turn.specs.Seats.{SeatModel, seat_of, MakesCall}

module _ {S C A : Type 0} where
  pub called_seat : (steps : S → C → A → S → Type 0) (k first : S) (call : C) (answer : A) (id id' : TableId) (v w : View S C A) (p : SeatModel S C A)
      → k ≡ first → seat_of id v ≡ p → id' ≡ id → Calls steps k v call answer w → MakesCall steps first p call answer (seat_of id' w)
  called_seat steps k first call answer id id' v w p start is same made =
      subst (λ q. MakesCall steps first q call answer (seat_of id' w)) is
      (subst (λ f. MakesCall steps f (seat_of id v) call answer (seat_of id' w)) start
      (made.0, made.1, made.2, made.3, ap (λ i. seat_of i w) same ∙ ap (λ u. seat_of id u) made.4, made.5))

  pub joined_knows : (v w u : View S C A) (p q : SeatModel S C A) (i j : TableId) → seat_of i v ≡ p → seat_of j w ≡ q → Agree v.seen w.seen → u ≡ joined_view v w
      → IsPrefix (entries p.seen) (entries u.seen) × IsPrefix (entries q.seen) (entries u.seen) × IsPermutation (calls p.seen ++ calls q.seen) (calls u.seen)
      × IsSublist (calls p.seen) (calls u.seen) × IsSublist (calls q.seen) (calls u.seen)
  joined_knows v w u p q i j a b agree is =
      let one : v.seen ≡ p.seen = ap (λ (x : SeatModel S C A). x.seen) a in
      let two : w.seen ≡ q.seen = ap (λ (x : SeatModel S C A). x.seen) b in
      let all : meld p.seen q.seen ≡ u.seen = sym (ap (λ (x : View S C A). x.seen) is ∙ (ap (λ xs. meld xs w.seen) one ∙ ap (λ ys. meld p.seen ys) two)) in
      let agree' : Agree p.seen q.seen = subst (λ xs. Agree xs q.seen) one (subst (λ ys. Agree v.seen ys) two agree) in (
        subst (λ xs. IsPrefix (entries p.seen) (entries xs)) all (meld_left p.seen q.seen),
        subst (λ xs. IsPrefix (entries q.seen) (entries xs)) all (meld_right p.seen q.seen agree'),
        subst (λ xs. IsPermutation (calls p.seen ++ calls q.seen) (calls xs)) all (calls-meld p.seen q.seen agree'),
        subst (λ xs. IsSublist (calls p.seen) (calls xs)) all (meld_within p.seen q.seen),
        subst (λ xs. IsSublist (calls q.seen) (calls xs)) all (meld_within_other p.seen q.seen agree'),
      )

-- What a hub gathers, step by step.
use Rattle.std.proofs.Common.{◌≡◌, ◌∙◌, List, [], ◌∷◌, ◌++◌, refl, ap, sym, subst}
use Rattle.std.proofs.lemmas.List.{append-nil}
use Rattle.clone_turn.specs.declared.view.Entry.{Entry}
use Rattle.clone_turn.specs.Runs.{IsLegalRun, calls, end_of}
use Rattle.clone_turn.specs.Seats.{CellModel, ClosesAt, SeatModel, first_seat}
use Rattle.clone_turn.specs.Shares.{ShareAll}
use Rattle.clone_turn.specs.Worked.{HaveWorked, Makes}
use Rattle.clone_turn.proofs.JoinedSeatLemmas.{joined_run}
use Rattle.clone_turn.proofs.SeatShareLemmas.{first_shares, joined_shares, split_shares, worked_shares}
use Rattle.clone_turn.proofs.WorkedLemmas.{first_none, left_calls, makes_calls, makes_none, new_calls, right_none}
use Rattle.clone_runs.specs.Shuffles.{IsShuffled}
use Rattle.clone_hub.proofs.ShuffleLemmas.{in_order, joined_shuffled, spliced, whole, without_none}
use Rattle.clone_hub.specs.Gathering.{Gathers, HubModel, IsLent, IsTaken}

module _ {S C A : Type 0} where
  have_worked : (vs : List (SeatModel S C A)) → HaveWorked vs vs
  have_worked [] = tt
  have_worked (v ∷ vs) = (([], makes_none v, tt), have_worked vs)

  pub gathers_none : (h : HubModel S C A) → Gathers [] h h
  gathers_none h = record { same = refl; shares = λ vs all. all; made = whole (calls h.seat.seen) }

  pub gathers_own : (h g : HubModel S C A) (made : List (Entry S C A)) → g.cell ≡ h.cell → Makes h.seat made g.seat → Gathers (made ∷ []) h g
  gathers_own h g made same makes = record {
    same = same;
    shares = λ vs all. worked_shares (h.seat ∷ vs) (g.seat ∷ vs) ((made, makes, tt), have_worked vs) all;
    made = subst (λ es. IsShuffled (calls h.seat.seen ∷ made ∷ []) es) (sym (makes_calls h.seat g.seat made makes)) (in_order (calls h.seat.seen) made);
  }

  pub gathers_more : (h g k : HubModel S C A) (xs ys : List (List (Entry S C A))) → Gathers xs h g → Gathers ys g k → Gathers (xs ++ ys) h k
  gathers_more h g k xs ys a b = record {
    same = b.same ∙ a.same;
    shares = λ vs all. b.shares vs (a.shares vs all);
    made = spliced (calls h.seat.seen ∷ xs) ys (calls g.seat.seen) (calls k.seat.seen) a.made b.made;
  }

  pub gathers_one : (h g k t : HubModel S C A) (c : CellModel S) (r e : SeatModel S C A) (parts : List (List (Entry S C A))) (made : List (Entry S C A)) → IsLent h c r g → Gathers parts g k → Makes r made e
      → IsTaken k e t → Gathers (parts ++ made ∷ []) h t
  gathers_one h g k t c r e parts made lent meanwhile makes taken =
      let own : calls g.seat.seen ≡ calls h.seat.seen = left_calls h.seat g.seat lent.left in
      let other : calls e.seen ≡ made = new_calls r e made (right_none h.seat r lent.seat_is) makes in
      record {
        same = taken.same ∙ (meanwhile.same ∙ lent.same);
        shares = λ vs all.
            joined_shares k.seat e t.seat vs taken.joined
            (worked_shares (k.seat ∷ r ∷ vs) (k.seat ∷ e ∷ vs) (([], makes_none k.seat, tt), ((made, makes, tt), have_worked vs))
            (meanwhile.shares (r ∷ vs) (split_shares h.seat g.seat r vs lent.left lent.seat_is all)));
        made = spliced (calls h.seat.seen ∷ parts) (made ∷ []) (calls k.seat.seen) (calls t.seat.seen)
            (subst (λ es. IsShuffled (es ∷ parts) (calls k.seat.seen)) own meanwhile.made)
            (subst (λ es. IsShuffled (calls k.seat.seen ∷ es ∷ []) (calls t.seat.seen)) other
            (joined_shuffled k.seat e t.seat taken.agree taken.joined));
      }

  pub gathered_run : (steps : S → C → A → S → Type 0) (h g : HubModel S C A) (parts : List (List (Entry S C A))) (state : S) → h.seat ≡ first_seat h.cell → Gathers parts h g
      → ClosesAt steps h.cell.first g.seat state
      → IsLegalRun steps h.cell.first (calls g.seat.seen) × (state ≡ end_of h.cell.first (calls g.seat.seen)) × IsShuffled parts (calls g.seat.seen)
  gathered_run steps h g parts state first gathers closed =
      let all : ShareAll (g.seat ∷ []) = gathers.shares [] (first_shares h.cell h.seat first) in
      let run = joined_run steps h.cell.first g.seat [] g.seat g.seat [] state refl all (makes_none g.seat) closed in
      let whole = append-nil (calls g.seat.seen) in (
        subst (IsLegalRun steps h.cell.first) whole run.0,
        run.1 ∙ ap (end_of h.cell.first) whole,
        without_none (calls h.seat.seen) parts (calls g.seat.seen) (first_none h.cell h.seat first) gathers.made,
      )

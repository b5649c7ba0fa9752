-- Both ends of a connection joined: the run is made of the calls of both.
use Rattle.std.proofs.Common.{ℕ, ◌≡◌, List, [], ◌∷◌, ◌++◌, refl, sym, ap, ◌∙◌, subst, true, false, Bool, arith}
use Rattle.std.proofs.lemmas.List.{append-nil}
use Rattle.clone_outside.specs.declared.link.Side.{Side}
use Rattle.clone_outside.specs.declared.link.Side.TheVariants.{Donor, Requester}
use mathlib.Core.List.{IsPrefix}
use Rattle.clone_turn.specs.Runs.{Agree, IsLegalRun, entries, calls, meld}
use Rattle.clone_turn.specs.Seats.{CellModel, ClosesAt, HasWhole, joined_seat}
use Rattle.clone_memlink.specs.declared.connection.Connection.{Connection}
use Rattle.clone_memlink.specs.Connections.{Steps, other}
use Rattle.clone_memlink.specs.Ends.{LinkEntry, side_of, sent_of, received_of, where_same, sent_in, received_in}
use Rattle.clone_memlink.specs.Held.{EndModel, IsHalf, MadeBy, sent_by, received_by}
use Rattle.clone_turn.proofs.Halves.{halves}
use Rattle.clone_memlink.proofs.LinkRunLemmas.{honest}
use Rattle.clone_memlink.proofs.EndViewLemmas.{LinkSeat}

abbrev Seen : Type 0
Seen = List (LinkEntry × Bool)

agree_swap : (xs ys : Seen) → Agree xs ys → Agree ys xs
agree_swap [] [] agree = tt
agree_swap [] (y ∷ ys) agree = tt
agree_swap (x ∷ xs) [] agree = tt
agree_swap (x ∷ xs) (y ∷ ys) agree = (sym agree.0, omega (arith, agree.1), agree_swap xs ys agree.2)

-- the calls of both are the same, whichever is laid over the other
calls_swap : (xs ys : Seen) → Agree xs ys → calls (meld xs ys) ≡ calls (meld ys xs)
calls_swap [] [] agree = refl
calls_swap [] (y ∷ ys) agree = refl
calls_swap (x ∷ xs) [] agree = refl
calls_swap ((e, true) ∷ xs) ((d, true) ∷ ys) agree = ap (λ x. x ∷ calls (meld xs ys)) agree.0 ∙ ap (λ es. d ∷ es) (calls_swap xs ys agree.2)
calls_swap ((e, true) ∷ xs) ((d, false) ∷ ys) agree = ap (λ x. x ∷ calls (meld xs ys)) agree.0 ∙ ap (λ es. d ∷ es) (calls_swap xs ys agree.2)
calls_swap ((e, false) ∷ xs) ((d, true) ∷ ys) agree = ap (λ x. x ∷ calls (meld xs ys)) agree.0 ∙ ap (λ es. d ∷ es) (calls_swap xs ys agree.2)
calls_swap ((e, false) ∷ xs) ((d, false) ∷ ys) agree = calls_swap xs ys agree.2

where_other : (side : Side) (bytes : List ℕ) → where_same side (other side) bytes ≡ []
where_other Donor bytes = refl
where_other Requester bytes = refl

-- what a side's calls sent, with calls of the other side among them
skip_sent : (side : Side) (e : LinkEntry) (es : List LinkEntry) → side_of e.call ≡ other side → sent_in side (e ∷ es) ≡ sent_in side es
skip_sent side e es is =
    ap (λ xs. xs ++ sent_in side es) (ap (λ s. where_same side s (sent_of e.call e.answer)) is ∙ where_other side (sent_of e.call e.answer))

skip_received : (side : Side) (e : LinkEntry) (es : List LinkEntry) → side_of e.call ≡ other side → received_in side (e ∷ es) ≡ received_in side es
skip_received side e es is =
    ap (λ xs. xs ++ received_in side es) (ap (λ s. where_same side s (received_of e.call e.answer)) is ∙ where_other side (received_of e.call e.answer))

module _ (side : Side) where
  sent_of_none : (es : List LinkEntry) → MadeBy (other side) es → sent_in side es ≡ []
  sent_of_none [] made = refl
  sent_of_none (e ∷ es) made = skip_sent side e es made.0 ∙ sent_of_none es made.1

  received_of_none : (es : List LinkEntry) → MadeBy (other side) es → received_in side es ≡ []
  received_of_none [] made = refl
  received_of_none (e ∷ es) made = skip_received side e es made.0 ∙ received_of_none es made.1

  sent_alone : (xs ys : Seen) → Agree xs ys → MadeBy (other side) (calls ys) → sent_in side (calls (meld xs ys)) ≡ sent_in side (calls xs)
  sent_alone [] ys agree made = sent_of_none (calls ys) made
  sent_alone (x ∷ xs) [] agree made = refl
  sent_alone ((e, true) ∷ xs) ((d, true) ∷ ys) agree made = absurd (omega (arith, agree.1))
  sent_alone ((e, true) ∷ xs) ((d, false) ∷ ys) agree made = ap (λ bs. where_same side (side_of e.call) (sent_of e.call e.answer) ++ bs) (sent_alone xs ys agree.2 made)
  sent_alone ((e, false) ∷ xs) ((d, true) ∷ ys) agree made =
      skip_sent side e (calls (meld xs ys)) (ap (λ (x : LinkEntry). side_of x.call) agree.0 ∙ made.0) ∙ sent_alone xs ys agree.2 made.1
  sent_alone ((e, false) ∷ xs) ((d, false) ∷ ys) agree made = sent_alone xs ys agree.2 made

  received_alone : (xs ys : Seen) → Agree xs ys → MadeBy (other side) (calls ys) → received_in side (calls (meld xs ys)) ≡ received_in side (calls xs)
  received_alone [] ys agree made = received_of_none (calls ys) made
  received_alone (x ∷ xs) [] agree made = refl
  received_alone ((e, true) ∷ xs) ((d, true) ∷ ys) agree made = absurd (omega (arith, agree.1))
  received_alone ((e, true) ∷ xs) ((d, false) ∷ ys) agree made = ap (λ bs. where_same side (side_of e.call) (received_of e.call e.answer) ++ bs) (received_alone xs ys agree.2 made)
  received_alone ((e, false) ∷ xs) ((d, true) ∷ ys) agree made =
      skip_received side e (calls (meld xs ys)) (ap (λ (x : LinkEntry). side_of x.call) agree.0 ∙ made.0) ∙ received_alone xs ys agree.2 made.1
  received_alone ((e, false) ∷ xs) ((d, false) ∷ ys) agree made = received_alone xs ys agree.2 made

-- the donor's half and the requester's, joined and closed
module _ (cell : CellModel Connection) (p q all : LinkSeat) (last : Connection) (a : IsHalf cell Donor p) (b : IsHalf cell Requester q) (agree : Agree p.seen q.seen) (joined : all ≡ joined_seat p q)
    (closed : ClosesAt Steps cell.first all last) where
  whole : HasWhole all
  whole = subst HasWhole (sym joined) (halves p.part p.halvings q.part q.halvings a.half.0 a.half.1 b.half.0 b.half.1)

  -- the run is made of the calls of both
  legal : IsLegalRun Steps cell.first (calls (meld p.seen q.seen))
  legal =
      let own = closed.3 whole in
      let run : entries all.seen ++ closed.0 ≡ calls (meld p.seen q.seen) =
      ap (λ es. entries all.seen ++ es) own.0 ∙ (append-nil (entries all.seen) ∙ (sym own.1 ∙ ap (λ (x : LinkSeat). calls x.seen) joined)) in
      subst (IsLegalRun Steps cell.first) run closed.1

  swapped : calls (meld p.seen q.seen) ≡ calls (meld q.seen p.seen)
  swapped = calls_swap p.seen q.seen agree

  pub to_donor : IsPrefix (received_in Donor (calls p.seen)) (sent_in Requester (calls q.seen))
  to_donor =
      let sent : sent_in Requester (calls (meld p.seen q.seen)) ≡ sent_in Requester (calls q.seen) = ap (sent_in Requester) swapped ∙ sent_alone Requester q.seen p.seen (agree_swap p.seen q.seen agree) a.own in
      subst (λ xs. IsPrefix xs (sent_in Requester (calls q.seen))) (received_alone Donor p.seen q.seen agree b.own)
      (subst (λ ys. IsPrefix (received_in Donor (calls (meld p.seen q.seen))) ys) sent (honest cell.first (calls (meld p.seen q.seen)) legal Donor a.empty.0))

  pub to_requester : IsPrefix (received_in Requester (calls q.seen)) (sent_in Donor (calls p.seen))
  to_requester =
      let received : received_in Requester (calls (meld p.seen q.seen)) ≡ received_in Requester (calls q.seen) = ap (received_in Requester) swapped ∙ received_alone Requester q.seen p.seen (agree_swap p.seen q.seen agree) a.own in
      subst (λ xs. IsPrefix xs (sent_in Donor (calls p.seen))) received
      (subst (λ ys. IsPrefix (received_in Requester (calls (meld p.seen q.seen))) ys) (sent_alone Donor p.seen q.seen agree b.own) (honest cell.first (calls (meld p.seen q.seen)) legal Requester a.empty.1))

-- the same of the ends that were handed in
module _ (v w : EndModel) (p q : LinkSeat) (vp : v.seat ≡ p) (wq : w.seat ≡ q) (donor : v.side ≡ Donor) (requester : w.side ≡ Requester) where
  pub ends_to_donor : IsPrefix (received_in Donor (calls p.seen)) (sent_in Requester (calls q.seen)) → IsPrefix (received_by v) (sent_by w)
  ends_to_donor is =
      subst (λ s. IsPrefix (received_in s (calls v.seat.seen)) (sent_by w)) (sym donor) (subst (λ s. IsPrefix (received_in Donor (calls v.seat.seen)) (sent_in s (calls w.seat.seen))) (sym requester)
      (subst (λ (x : LinkSeat). IsPrefix (received_in Donor (calls x.seen)) (sent_in Requester (calls w.seat.seen))) (sym vp) (subst (λ (x : LinkSeat). IsPrefix (received_in Donor (calls p.seen)) (sent_in Requester (calls x.seen))) (sym wq) is)))

  pub ends_to_requester : IsPrefix (received_in Requester (calls q.seen)) (sent_in Donor (calls p.seen)) → IsPrefix (received_by w) (sent_by v)
  ends_to_requester is =
      subst (λ s. IsPrefix (received_in s (calls w.seat.seen)) (sent_by v)) (sym requester) (subst (λ s. IsPrefix (received_in Requester (calls w.seat.seen)) (sent_in s (calls v.seat.seen))) (sym donor)
      (subst (λ (x : LinkSeat). IsPrefix (received_in Requester (calls x.seen)) (sent_in Donor (calls v.seat.seen))) (sym wq) (subst (λ (x : LinkSeat). IsPrefix (received_in Requester (calls q.seen)) (sent_in Donor (calls x.seen))) (sym vp) is)))

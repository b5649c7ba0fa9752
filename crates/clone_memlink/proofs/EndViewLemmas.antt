-- What an end has seen more, and what it sent and received there by its own calls.
use Rattle.std.proofs.Common.{ℕ, ◌≡◌, ◌≤◌, ◌-◌, min, List, [], ◌∷◌, ◌++◌, length, take, refl, sym, ap, ◌∙◌, subst, true, Bool, Some, None, append_assoc, arith}
use Rattle.std.proofs.lemmas.List.{append-nil, length-take, take-take}
use Rattle.std.specs.declared.option.Option.{Option}
use Rattle.std.specs.Prelude.{Ok, Err}
use Rattle.clone_outside.specs.declared.link.Side.{Side}
use Rattle.clone_outside.specs.declared.link.Side.TheVariants.{Donor, Requester}
use Rattle.clone_outside.specs.declared.link.LinkRefusal.TheVariants as refused
use Rattle.clone_turn.specs.Runs.{IsLegalRun, end_of, entries, others, calls}
use Rattle.clone_turn.specs.Seats.{CellModel, SeatModel, MakesCall}
use Rattle.clone_turn.proofs.Entries.{entries-append, run_later}
use Rattle.clone_turn.proofs.OwnCalls.{calls-append, calls-others, calls_more}
use Rattle.clone_memlink.specs.declared.connection.Connection.{Connection}
use Rattle.clone_memlink.specs.declared.connection.LinkCall.{LinkCall}
use Rattle.clone_memlink.specs.declared.connection.LinkCall.TheVariants.{Send}
use Rattle.clone_memlink.specs.declared.connection.LinkAnswer.{LinkAnswer}
use Rattle.clone_memlink.specs.declared.connection.LinkAnswer.TheVariants.{Sent, Lost, NoMemory}
use Rattle.clone_memlink.specs.Ways.{room_for, up_to_cut}
use Rattle.clone_memlink.specs.Connections.{Steps, way_to, other}
use Rattle.clone_memlink.specs.Ends.{LinkEntry, side_of, sent_of, received_of, where_same, sent_in, received_in}
use Rattle.clone_memlink.specs.Held.{EndModel, IsHalf, MadeBy, Sees, EndsWith, SendsFront}

abbrev pub LinkSeat : Type 0
LinkSeat = SeatModel Connection LinkCall LinkAnswer

same_side : (side : Side) (xs : List ℕ) → where_same side side xs ≡ xs
same_side Donor xs = refl
same_side Requester xs = refl

pub sent_in-append : (side : Side) (es fs : List LinkEntry) → sent_in side (es ++ fs) ≡ sent_in side es ++ sent_in side fs
sent_in-append side [] fs = refl
sent_in-append side (e ∷ es) fs =
    let xs = where_same side (side_of e.call) (sent_of e.call e.answer) in
    ap (λ ys. xs ++ ys) (sent_in-append side es fs) ∙ sym (append_assoc xs (sent_in side es) (sent_in side fs))

pub received_in-append : (side : Side) (es fs : List LinkEntry) → received_in side (es ++ fs) ≡ received_in side es ++ received_in side fs
received_in-append side [] fs = refl
received_in-append side (e ∷ es) fs =
    let xs = where_same side (side_of e.call) (received_of e.call e.answer) in
    ap (λ ys. xs ++ ys) (received_in-append side es fs) ∙ sym (append_assoc xs (received_in side es) (received_in side fs))

made_by-append : (side : Side) (es : List LinkEntry) (e : LinkEntry) → MadeBy side es → side_of e.call ≡ side → MadeBy side (es ++ e ∷ [])
made_by-append side [] e made is = (is, tt)
made_by-append side (x ∷ xs) e made is = (made.0, made_by-append side xs e made.1 is)

-- a run that goes on
pub run_append : (first : Connection) (es fs : List LinkEntry) → IsLegalRun Steps first es → IsLegalRun Steps (end_of first es) fs → IsLegalRun Steps first (es ++ fs)
run_append first [] fs legal later = later
run_append first (e ∷ es) fs legal later = (legal.0, run_append e.after es fs legal.1 later)

one_sent : (e : LinkEntry) (side : Side) (call : LinkCall) (answer : LinkAnswer) → e.call ≡ call → e.answer ≡ answer → side_of call ≡ side → sent_in side (e ∷ []) ≡ sent_of call answer
one_sent e side call answer is_call is_answer mine =
    append-nil _
    ∙ (ap (λ c. where_same side (side_of c) (sent_of c e.answer)) is_call
    ∙ (ap (λ a. where_same side (side_of call) (sent_of call a)) is_answer
    ∙ (ap (λ s. where_same side s (sent_of call answer)) mine ∙ same_side side (sent_of call answer))))

one_received : (e : LinkEntry) (side : Side) (call : LinkCall) (answer : LinkAnswer) → e.call ≡ call → e.answer ≡ answer → side_of call ≡ side → received_in side (e ∷ []) ≡ received_of call answer
one_received e side call answer is_call is_answer mine =
    append-nil _
    ∙ (ap (λ c. where_same side (side_of c) (received_of c e.answer)) is_call
    ∙ (ap (λ a. where_same side (side_of call) (received_of call a)) is_answer
    ∙ (ap (λ s. where_same side s (received_of call answer)) mine ∙ same_side side (received_of call answer))))

-- one call of an end
module _ (first : Connection) (v w : LinkSeat) (side : Side) (call : LinkCall) (answer : LinkAnswer) (made : MakesCall Steps first v call answer w) (mine : side_of call ≡ side) where
  own : calls w.seen ≡ calls v.seen ++ made.1 ∷ []
  own = ap (λ (x : LinkSeat). calls x.seen) made.4 ∙ calls_more v.seen made.0 made.1

  pub sent_more : sent_in side (calls w.seen) ≡ sent_in side (calls v.seen) ++ sent_of call answer
  sent_more =
      ap (sent_in side) own ∙ (sent_in-append side (calls v.seen) (made.1 ∷ [])
      ∙ ap (λ xs. sent_in side (calls v.seen) ++ xs) (one_sent made.1 side call answer made.2 made.3 mine))

  pub received_more : received_in side (calls w.seen) ≡ received_in side (calls v.seen) ++ received_of call answer
  received_more =
      ap (received_in side) own ∙ (received_in-append side (calls v.seen) (made.1 ∷ [])
      ∙ ap (λ xs. received_in side (calls v.seen) ++ xs) (one_received made.1 side call answer made.2 made.3 mine))

  pub half_after : (cell : CellModel Connection) → IsHalf cell side v → IsHalf cell side w
  half_after cell half = record {
    of = (ap (λ (x : LinkSeat). x.cell) made.4 ∙ half.of.0, ap (λ (x : LinkSeat). x.first) made.4 ∙ half.of.1);
    empty = half.empty;
    half = (ap (λ (x : LinkSeat). x.part) made.4 ∙ half.half.0, ap (λ (x : LinkSeat). x.halvings) made.4 ∙ half.half.1);
    own = subst (MadeBy side) (sym own) (made_by-append side (calls v.seen) made.1 half.own (ap side_of made.2 ∙ mine));
  }

  -- the step that it was
  pub step_made : (s : Connection) × (t : Connection) × Steps s call answer t
  step_made =
      let before = v.seen ++ others made.0 in
      let all : entries w.seen ≡ entries before ++ made.1 ∷ [] = ap (λ (x : LinkSeat). entries x.seen) made.4 ∙ entries-append before ((made.1, true) ∷ []) in
      let last = run_later Steps first (entries before) (made.1 ∷ []) (subst (IsLegalRun Steps first) all made.5) in
      let s = end_of first (entries before) in
      (s, made.1.after, subst (λ a. Steps s call a made.1.after) made.3 (subst (λ c. Steps s c made.1.answer made.1.after) made.2 last.0))

  abbrev pub more : List (LinkEntry × Bool)
  more = others made.0 ++ (made.1, true) ∷ []

  grown : w ≡ record v { seen = v.seen ++ more }
  grown = made.4 ∙ ap (λ xs. record v { seen = xs }) (append_assoc v.seen (others made.0) ((made.1, true) ∷ []))

  legal_more : IsLegalRun Steps (end_of first (entries v.seen)) (entries more)
  legal_more =
      let all : entries w.seen ≡ entries v.seen ++ entries more = ap (λ (x : LinkSeat). entries x.seen) grown ∙ entries-append v.seen more in
      run_later Steps first (entries v.seen) (entries more) (subst (IsLegalRun Steps first) all made.5)

  own_more : calls more ≡ made.1 ∷ []
  own_more = calls-append (others made.0) ((made.1, true) ∷ []) ∙ ap (λ es. es ++ made.1 ∷ []) (calls-others made.0)

  pub ends_with : EndsWith answer more
  ends_with = (others made.0, made.1, refl, made.3)

  pub saw : (p q : EndModel) → p.name.first ≡ first → p.seat ≡ v → q.seat ≡ w → Sees p more q
  saw p q is a b = (
    b ∙ (grown ∙ ap (λ (x : LinkSeat). record x { seen = x.seen ++ more }) (sym a)),
    subst (λ (x : LinkSeat). IsLegalRun Steps (end_of p.name.first (entries x.seen)) (entries more)) (sym a) (subst (λ f. IsLegalRun Steps (end_of f (entries v.seen)) (entries more)) (sym is) legal_more),
  )

  pub sent_there : sent_in side (calls more) ≡ sent_of call answer
  sent_there = ap (sent_in side) own_more ∙ one_sent made.1 side call answer made.2 made.3 mine

  pub received_there : received_in side (calls more) ≡ received_of call answer
  received_there = ap (received_in side) own_more ∙ one_received made.1 side call answer made.2 made.3 mine

up_to_le : (left : Option ℕ) (n : ℕ) → up_to_cut left n ≤ n
up_to_le None n = omega arith
up_to_le (Some l) n = omega arith

-- one call of a send
module _ (v w : EndModel) (piece : List ℕ) where
  pub sends_one : (from : List ℕ) (m n : ℕ) → piece ≡ take m from → MakesCall Steps v.name.first v.seat (Send v.side piece) (Sent n) w.seat
      → (s : Connection) × (t : Connection) × Steps s (Send v.side piece) (Sent n) t → SendsFront v from (Ok n) w
  sends_one from m n is made step =
      let room : n ≡ room_for (way_to (other v.side) step.0) (length piece) = step.2.1 in
      let most = up_to_le (way_to (other v.side) step.0).left (min (length piece) (65536 - length (way_to (other v.side) step.0).waiting)) in
      let short : length piece ≤ m = subst (λ xs. length xs ≤ m) (sym is) (omega (arith, length-take m from)) in
      let low : n ≤ m = omega arith in (
        more v.name.first v.seat w.seat v.side (Send v.side piece) (Sent n) made refl,
        saw v.name.first v.seat w.seat v.side (Send v.side piece) (Sent n) made refl v w refl refl refl,
        tt,
        sent_there v.name.first v.seat w.seat v.side (Send v.side piece) (Sent n) made refl ∙ (ap (λ xs. take n xs) is ∙ take-take n m from low),
        received_there v.name.first v.seat w.seat v.side (Send v.side piece) (Sent n) made refl,
      )

  pub sends_lost : (from : List ℕ) → MakesCall Steps v.name.first v.seat (Send v.side piece) Lost w.seat → SendsFront v from (Err refused.Lost) w
  sends_lost from made = (
    more v.name.first v.seat w.seat v.side (Send v.side piece) Lost made refl,
    saw v.name.first v.seat w.seat v.side (Send v.side piece) Lost made refl v w refl refl refl,
    ends_with v.name.first v.seat w.seat v.side (Send v.side piece) Lost made refl,
    sent_there v.name.first v.seat w.seat v.side (Send v.side piece) Lost made refl,
    received_there v.name.first v.seat w.seat v.side (Send v.side piece) Lost made refl,
  )

  pub sends_no_memory : (from : List ℕ) → MakesCall Steps v.name.first v.seat (Send v.side piece) NoMemory w.seat → SendsFront v from (Err refused.NoMemory) w
  sends_no_memory from made = (
    more v.name.first v.seat w.seat v.side (Send v.side piece) NoMemory made refl,
    saw v.name.first v.seat w.seat v.side (Send v.side piece) NoMemory made refl v w refl refl refl,
    ends_with v.name.first v.seat w.seat v.side (Send v.side piece) NoMemory made refl,
    sent_there v.name.first v.seat w.seat v.side (Send v.side piece) NoMemory made refl,
    received_there v.name.first v.seat w.seat v.side (Send v.side piece) NoMemory made refl,
  )

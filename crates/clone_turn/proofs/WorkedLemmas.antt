-- What a seat did, call by call.
use Rattle.std.proofs.Common.{◌≡◌, ◌∙◌, List, [], ◌∷◌, ◌++◌, true, refl, ap, sym, subst}
use Rattle.std.proofs.lemmas.List.{append-nil, append_assoc}
use Rattle.clone_turn.specs.declared.view.Entry.{Entry}
use Rattle.clone_turn.specs.Runs.{IsLegalRun, end_of, entries, others, calls}
use Rattle.clone_turn.specs.Seats.{CellModel, IsOf, SeatModel, MakesCall, first_seat, left_seat, right_seat}
use Rattle.clone_turn.specs.Worked.{Makes, Worked}
use Rattle.clone_turn.proofs.OwnCalls.{calls-append, calls-others}
use Rattle.clone_turn.proofs.Entries.{entries-append, run_later}

module _ {S C A : Type 0} where
  pub makes_none : (v : SeatModel S C A) → Makes v [] v
  makes_none v = ([], ap (λ xs. record v { seen = xs }) (sym (append-nil v.seen)), refl)

  pub makes_more : (u v w : SeatModel S C A) (xs ys : List (Entry S C A)) → Makes u xs v → Makes v ys w → Makes u (xs ++ ys) w
  makes_more u v w xs ys a b = (
    a.0 ++ b.0,
    b.1 ∙ (ap (λ (x : SeatModel S C A). record x { seen = x.seen ++ b.0 }) a.1 ∙ ap (λ es. record u { seen = es }) (append_assoc u.seen a.0 b.0)),
    calls-append a.0 b.0 ∙ (ap (λ es. es ++ calls b.0) a.2 ∙ ap (λ es. xs ++ es) b.2),
  )

  -- one call, which is a step of the machine from some state
  abbrev pub IsStep : (S → C → A → S → Type 0) → C → A → Entry S C A → Type 0
  IsStep steps call answer e = (s : S) × (e.call ≡ call) × (e.answer ≡ answer) × steps s call answer e.after

  pub makes_one : (steps : S → C → A → S → Type 0) (first : S) (v w : SeatModel S C A) (call : C) (answer : A) → MakesCall steps first v call answer w
      → (e : Entry S C A) × Makes v (e ∷ []) w × IsStep steps call answer e
  makes_one steps first v w call answer made =
      let rest = made.0 in
      let e = made.1 in
      let before = entries (v.seen ++ others rest) in
      let own : calls (others rest ++ (e, true) ∷ []) ≡ e ∷ [] = calls-append (others rest) ((e, true) ∷ []) ∙ ap (λ es. es ++ e ∷ []) (calls-others rest) in
      let run : entries w.seen ≡ before ++ e ∷ [] = ap (λ (x : SeatModel S C A). entries x.seen) made.4 ∙ entries-append (v.seen ++ others rest) ((e, true) ∷ []) in
      let legal : IsLegalRun steps first (before ++ e ∷ []) = subst (λ es. IsLegalRun steps first es) run made.5 in
      let step : steps (end_of first before) e.call e.answer e.after = (run_later steps first before (e ∷ []) legal).0 in (
        e,
        (others rest ++ (e, true) ∷ [], made.4 ∙ ap (λ xs. record v { seen = xs }) (append_assoc v.seen (others rest) ((e, true) ∷ [])), own),
        (
          end_of first before,
          made.2,
          made.3,
          subst (λ c. steps (end_of first before) c answer e.after) made.2 (subst (λ a. steps (end_of first before) e.call a e.after) made.3 step),
        ),
      )

  pub makes_calls : (v w : SeatModel S C A) (made : List (Entry S C A)) → Makes v made w → calls w.seen ≡ calls v.seen ++ made
  makes_calls v w made a =
      ap (λ (x : SeatModel S C A). calls x.seen) a.1 ∙ (calls-append v.seen a.0 ∙ ap (λ es. calls v.seen ++ es) a.2)

  -- of the same cell
  pub makes_of : (c : CellModel S) (v w : SeatModel S C A) (made : List (Entry S C A)) → Makes v made w → IsOf c v → IsOf c w
  makes_of c v w made a of = subst (λ (x : SeatModel S C A). IsOf c x) (sym a.1) of

  -- a new seat has made no call
  pub first_none : (c : CellModel S) (v : SeatModel S C A) → v ≡ first_seat c → calls v.seen ≡ []
  first_none c v is = ap (λ (x : SeatModel S C A). calls x.seen) is

  pub right_none : (v w : SeatModel S C A) → w ≡ right_seat v → calls w.seen ≡ []
  right_none v w is = ap (λ (x : SeatModel S C A). calls x.seen) is ∙ calls-others (entries v.seen)

  -- one that was split has its calls
  pub left_calls : (v w : SeatModel S C A) → w ≡ left_seat v → calls w.seen ≡ calls v.seen
  left_calls v w is = ap (λ (x : SeatModel S C A). calls x.seen) is

  -- so what it did then are all its calls
  pub new_calls : (v w : SeatModel S C A) (made : List (Entry S C A)) → calls v.seen ≡ [] → Makes v made w → calls w.seen ≡ made
  new_calls v w made none a = makes_calls v w made a ∙ ap (λ es. es ++ made) none

  -- in terms of what is said of the calls
  pub worked_none : (P : List (Entry S C A) → Type 0) (v : SeatModel S C A) → P [] → Worked P v v
  worked_none P v p = ([], makes_none v, p)

  pub worked_one : (steps : S → C → A → S → Type 0) (first : S) (P : List (Entry S C A) → Type 0) (v w : SeatModel S C A) (call : C) (answer : A) → MakesCall steps first v call answer w
      → ((e : Entry S C A) → IsStep steps call answer e → P (e ∷ [])) → Worked P v w
  worked_one steps first P v w call answer made p = let one = makes_one steps first v w call answer made in (one.0 ∷ [], one.1, p one.0 one.2)

  pub worked_more : (P Q R : List (Entry S C A) → Type 0) (u v w : SeatModel S C A) → Worked P u v → Worked Q v w → ((xs ys : List (Entry S C A)) → P xs → Q ys → R (xs ++ ys)) → Worked R u w
  worked_more P Q R u v w a b both = (a.0 ++ b.0, makes_more u v w a.0 b.0 a.1 b.1, both a.0 b.0 a.2 b.2)

  pub worked_calls : (P : List (Entry S C A) → Type 0) (v w : SeatModel S C A) → calls v.seen ≡ [] → Worked P v w → P (calls w.seen)
  worked_calls P v w none a = subst P (sym (new_calls v w a.0 none a.1)) a.2

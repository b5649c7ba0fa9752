-- The rule of a cell: what holds of its words, its slot and the views of all its seats between any
-- two steps, and what each kind of step does to a seat's view.
use Rattle.std.specs.Prelude.{ℕ, zero, suc, ◌≡◌, ◌≢◌, ◌⊎◌, ◌<◌, ◌≤◌, ◌+◌, ◌*◌, ◌-◌, ◌^◌, ◌==◌, Bool, true, false, cond, max, List, [], ◌∷◌, ◌++◌, length, Some, None, MatchBool}
use Rattle.std.specs.declared.option.Option.{Option}
use Rattle.std.specs.declared.snapshot.Snapshot.{Snapshot}
use mathlib.Core.Option.{some, none}
use mathlib.Core.Option as maybe
use mathlib.Core.List.{IsPrefix}
use lib.ListN.{get_elem?}
use Rattle.atomic_table.specs.Table.{State, Me, Step}
use Rattle.clone_turn.specs.declared.view.Entry.{Entry}
use Rattle.clone_turn.specs.declared.view.View.{View}
use Rattle.clone_turn.specs.Runs.{end_of, IsLegalRun, entries, others, calls, meld, Agree}

-- the numbers of the elements, added up
abbrev pub total : {V : Type 0} → (V → ℕ) → List V → ℕ
total f [] = 0
total f (v ∷ vs) = f v + total f vs

-- the state, with the call that made it and its answer
abbrev pub Valued : Type 0 → Type 0 → Type 0 → Type 0
Valued S C A = S × Option (Snapshot C × Snapshot A)

-- what lies in the slot: nothing where a thread works on the state
abbrev pub Held : Type 0 → Type 0 → Type 0 → Type 0
Held S C A = Option (Valued S C A)

module _ {S C A : Type 0} where
  -- 1 where the entry at the index is the seat's own, and else 0
  abbrev pub made_at : List (Entry S C A × Bool) → ℕ → ℕ
  made_at [] p = 0
  made_at (x ∷ xs) zero = cond x.1 1 0
  made_at (x ∷ xs) (suc p) = made_at xs p

  -- 1 where the run has an entry at the index, and else 0
  abbrev pub stands : List (Entry S C A) → ℕ → ℕ
  stands [] p = 0
  stands (e ∷ es) zero = 1
  stands (e ∷ es) (suc p) = stands es p

  abbrev pub made : View S C A → ℕ → ℕ
  made v p = made_at v.seen p + made_at v.joined p

  -- a share, in units of 1 / 2 ^ k
  abbrev pub weight : ℕ → View S C A → ℕ
  weight k v = v.part * 2 ^ (k - v.halvings)

  -- the whole share
  abbrev pub IsWhole : View S C A → Type 0
  IsWhole v = v.part ≡ 2 ^ v.halvings

  -- A view knows the first state and beginnings of the run. Its ticket is not served before, and
  -- drawn. Where it has lifted the state it is its turn, and it has seen the run. Without a share
  -- it made nothing
  pub record Fits (first : S) (run : List (Entry S C A)) (next : ℕ) (v : View S C A) : Type 0 where
    pub begins : (f : S) → v.first ≡ Some f → f ≡ first
    pub seen : IsPrefix (entries v.seen) run
    pub joined : IsPrefix (entries v.joined) run
    pub waits : (t : ℕ) → v.ticket ≡ Some t → (length run ≤ t) × (t < next)
    pub lifted : v.lifted ≡ true → (v.ticket ≡ Some (length run)) × (entries v.seen ≡ run)
    pub spent : v.part ≡ 0 → (p : ℕ) → made v p ≡ 0

  -- the state is at home, or a seat has lifted it
  abbrev pub Home : S → List (maybe.Option (Held S C A)) → List (View S C A) → Type 0
  Home value homes views =
      ((h : Valued S C A) × (homes ≡ some (Some h) ∷ []) × (h.0 ≡ value))
      ⊎ ((i : ℕ) × (v : View S C A) × (homes ≡ none ∷ []) × (get_elem? views i ≡ some v)
      × (v.lifted ≡ true))

  -- no ticket was drawn twice
  abbrev pub Alone : List (View S C A) → Type 0
  Alone views =
      (i j t : ℕ) (v w : View S C A) → get_elem? views i ≡ some v → get_elem? views j ≡ some w
      → v.ticket ≡ Some t → w.ticket ≡ Some t → i ≡ j

  -- the shares add up to one
  abbrev pub Whole : List (View S C A) → Type 0
  Whole views =
      (k : ℕ) × ((i : ℕ) (v : View S C A) → get_elem? views i ≡ some v → v.halvings ≤ k)
      × (total (weight k) views ≡ 2 ^ k)

  -- There is one legal run. Word 0 is the next ticket, and word 1 the length of the run, which is
  -- the ticket that is served. Each entry is one seat's own
  pub record HasRun (steps : S → C → A → S → Type 0) (first : S)
      (s : State (Held S C A) (View S C A)) (run : List (Entry S C A)) (next : ℕ) : Type 0 where
    pub legal : IsLegalRun steps first run
    pub words : s.words ≡ next ∷ length run ∷ []
    pub behind : length run ≤ next
    pub room : next < 18446744073709551616
    pub home : Home (end_of first run) s.homes s.views
    pub fits : (i : ℕ) (v : View S C A) → get_elem? s.views i ≡ some v → Fits first run next v
    pub alone : Alone s.views
    pub once : (p : ℕ) → total (λ v. made v p) s.views ≡ stands run p
    pub whole : Whole s.views

  abbrev pub Kept : (S → C → A → S → Type 0) → S → State (Held S C A) (View S C A) → Type 0
  Kept steps first s = (run : List (Entry S C A)) × (next : ℕ) × HasRun steps first s run next

  -- it has seen and made nothing, and has the whole share
  abbrev pub first_view : S → View S C A
  first_view first =
      record {
        first = Some first;
        seen = [];
        joined = [];
        ticket = None;
        lifted = false;
        part = 1;
        halvings = 0;
      }

  abbrev pub with_ticket : View S C A → ℕ → View S C A
  with_ticket v t = record v { ticket = Some t }

  -- it has lifted the state, and has seen the rest of the run
  abbrev pub with_state : View S C A → List (Entry S C A) → View S C A
  with_state v rest = record v { seen = v.seen ++ others rest; lifted = true }

  -- its turn is over, and it has seen what was noted
  abbrev pub with_note : View S C A → List (Entry S C A × Bool) → View S C A
  with_note v more = record v { seen = v.seen ++ more; ticket = None; lifted = false }

  -- the entry that a state comes with, as the seat's own
  abbrev pub note_in : S → Option (Snapshot C × Snapshot A) → List (Entry S C A × Bool)
  note_in s None = []
  note_in s (Some y) = (record { call = y.0.value; answer = y.1.value; after = s }, true) ∷ []

  abbrev pub note_of : Held S C A → List (Entry S C A × Bool)
  note_of None = []
  note_of (Some x) = note_in x.0 x.1

  -- of what a seat holds
  abbrev pub notes : List (ℕ × Held S C A) → List (Entry S C A × Bool)
  notes [] = []
  notes (x ∷ xs) = note_of x.1

  -- between calls
  pub record Idle (first : S) (me : Me (Held S C A) (View S C A)) : Type 0 where
    pub empty : me.1 ≡ []
    pub begins : me.0.first ≡ Some first
    pub calm : me.0.ticket ≡ None
    pub down : me.0.lifted ≡ false
    pub alone : me.0.joined ≡ []
    pub share : 0 < me.0.part

  -- draw: where word 0 was the number expected, that is the seat's ticket
  abbrev pub Draws : Step (Held S C A) → Me (Held S C A) (View S C A) → ℕ
      → Me (Held S C A) (View S C A) → Type 0
  Draws st v n w = MatchBool (n == st.first) (w ≡ (with_ticket v.0 n, v.1)) (w ≡ v)

  -- the seat sees the rest of the run, and lifts the state; where it has the whole share, each
  -- entry is its own
  abbrev pub Lifts : (S → C → A → S → Type 0) → Me (Held S C A) (View S C A)
      → Me (Held S C A) (View S C A) → Type 0
  Lifts steps v w =
      (rest : List (Entry S C A)) × (h : Valued S C A)
      × (w ≡ (with_state v.0 rest, (0, Some h) ∷ v.1))
      × ((first : S) → v.0.first ≡ Some first
      → IsLegalRun steps first (entries v.0.seen ++ rest)
      × (h.0 ≡ end_of first (entries v.0.seen ++ rest)))
      × (IsWhole v.0 → (p : ℕ) → made v.0 p ≡ stands (entries v.0.seen ++ rest) p)

  -- look: where the number found is the seat's ticket, the seat lifts the state
  abbrev pub Looks : (S → C → A → S → Type 0) → Step (Held S C A) → Me (Held S C A) (View S C A) → ℕ
      → Me (Held S C A) (View S C A) → Type 0
  Looks steps st v n w = (v.0.ticket ≡ Some n → Lifts steps v w) × (v.0.ticket ≢ Some n → w ≡ v)

  -- release: the state goes home, and the seat has seen the entry that it comes with
  abbrev pub Releases : Step (Held S C A) → Me (Held S C A) (View S C A) → ℕ
      → Me (Held S C A) (View S C A) → Type 0
  Releases st v n w = w ≡ (with_note v.0 (notes v.1), [])

  -- one call: entries of others, and then its own
  abbrev pub Calls : (S → C → A → S → Type 0) → S → View S C A → C → A → View S C A → Type 0
  Calls steps first v call answer w =
      (rest : List (Entry S C A)) × (e : Entry S C A) × (e.call ≡ call) × (e.answer ≡ answer)
      × (w ≡ record v { seen = (v.seen ++ others rest) ++ (e, true) ∷ [] })
      × IsLegalRun steps first (entries w.seen)

  -- the seat has a ticket, has seen the run, and works on the state, which has left the slot
  abbrev pub Lifted : (S → C → A → S → Type 0) → S → Me (Held S C A) (View S C A) → S → ℕ
      → Me (Held S C A) (View S C A) → Type 0
  Lifted steps first v value t w =
      (rest : List (Entry S C A)) × (t < 18446744073709551615)
      × (w ≡ (with_state (with_ticket v.0 t) rest, (0, None) ∷ v.1))
      × IsLegalRun steps first (entries v.0.seen ++ rest)
      × (value ≡ end_of first (entries v.0.seen ++ rest))
      × (IsWhole v.0 → (p : ℕ) → made v.0 p ≡ stands (entries v.0.seen ++ rest) p)

  -- the end of the one legal run; where the seat has the whole share, the run has no entries but
  -- its own
  abbrev pub Closes : (S → C → A → S → Type 0) → S → View S C A → S → Type 0
  Closes steps first v value =
      (rest : List (Entry S C A)) × IsLegalRun steps first (entries v.seen ++ rest)
      × (value ≡ end_of first (entries v.seen ++ rest))
      × (IsWhole v → (rest ≡ []) × (calls v.seen ≡ entries v.seen))

  -- split: the one keeps what it has, with half of the share
  abbrev pub left_view : View S C A → View S C A
  left_view v = record v { halvings = v.halvings + 1 }

  -- the other has seen as much, has made nothing and has the other half
  abbrev pub right_view : View S C A → View S C A
  right_view v =
      record v {
        seen = others (entries v.seen);
        joined = [];
        ticket = None;
        lifted = false;
        halvings = v.halvings + 1;
      }

  -- the sum of the two shares, at the larger number of halvings
  abbrev pub part_of : View S C A → View S C A → ℕ
  part_of v w =
      v.part * 2 ^ (max v.halvings w.halvings - v.halvings)
      + w.part * 2 ^ (max v.halvings w.halvings - w.halvings)

  -- join: the one has both lists and both shares
  abbrev pub both_views : View S C A → View S C A → View S C A
  both_views v w =
      record v { joined = w.seen; part = part_of v w; halvings = max v.halvings w.halvings }

  -- the other has nothing
  abbrev pub spent_view : View S C A
  spent_view =
      record {
        first = None;
        seen = [];
        joined = [];
        ticket = None;
        lifted = false;
        part = 0;
        halvings = 0;
      }

  -- settle: both lists begin the one run, so they are laid over each other
  abbrev pub Settles : Step (Held S C A) → Me (Held S C A) (View S C A) → ℕ
      → Me (Held S C A) (View S C A) → Type 0
  Settles st v n w =
      Agree v.0.seen v.0.joined
      × (w ≡ (record v.0 { seen = meld v.0.seen v.0.joined; joined = [] }, v.1))

  abbrev pub joined_view : View S C A → View S C A → View S C A
  joined_view v w =
      record v {
        seen = meld v.seen w.seen;
        part = part_of v w;
        halvings = max v.halvings w.halvings;
      }

-- What the lines of a follower make happen.
use Rattle.std.proofs.Common.{◌≡◌, ◌∙◌, inl, inr, ℕ, List, [], ◌∷◌, ◌++◌, Bool, true, refl, sym, ap, subst, Option, None, Some, MatchOption, Result, Ok, Err, IfOk, OnErr, OnOk, IsSome, Vec, append-nil}
use Rattle.std.proofs.lemmas.Option.{same_Some}
use Rattle.std.specs.Option.{option_map}
use Rattle.std.specs.declared.alloc.Global.{Global}
use Rattle.std.specs.FinMap as finite
use Rattle.std.specs.List.{AllByRecursion}
use Rattle.std.specs.declared.alloc.AllocError.{AllocError}
use Rattle.clone_follow.specs.Binlog.{answer}
use Rattle.clone_follow.specs.Following.{Following, with_rows}
use Rattle.clone_follow.specs.declared.frame.FollowFrame.{FollowFrame}
use Rattle.clone_follow.specs.declared.frame.FollowFrame.TheVariants as frames
use Rattle.clone_follow.proofs.RowLists.{opens_again}
use Rattle.clone_model.specs.History.{Row, Rows, rows_in}
use Rattle.clone_plain.specs.Answers.{Text, rows_answer}
use Rattle.clone_plain.specs.Donor.{Donor}
use Rattle.clone_script.specs.declared.lines.Line.{Line}
use Rattle.clone_script.specs.declared.lines.Line.TheVariants as lines
use Rattle.clone_events.specs.Events.{Event, showed, opened_follower, sent, taken, lost, set_to_lose, repeated, replicated, unasked, event_text, said, took_text, idle, IsAt, IsComplete, AsksNothing, OpensFollower, ShowsRows}
use Rattle.clone_events.specs.Runs.{HidesRows, IsExchange, loses, comes, asks_nothing, asks, first_asks, hides}
use Rattle.clone_events.specs.World.{Clone, Progress, Replica, absent, copying, over, complete, broken, spent, garbled, refused}
use Rattle.clone_core.specs.Called.{StaysUntold}
use Rattle.clone_core.specs.CloneEvents.{EndsUntold, Makes}
use Rattle.clone_core.specs.Ending.{complete_in}
use Rattle.clone_core.specs.Following.{Exchanges, ExchangesIn, OpensIn, RepeatsSo, RowsOf, Took, with_replica, with_sent}
use Rattle.clone_core.specs.Lines.{State, Answers, BreaksOff, Happens}
use Rattle.clone_core.specs.Showing.{ShowsList}
use Rattle.clone_core.specs.System.{donor_of}
use Rattle.clone_core.proofs.ActsLemmas.{IsOfClone, clone_keeps}
use Rattle.clone_core.proofs.LineLemmas.{event_breaks, said_is, same_breaks}
use Rattle.clone_core.proofs.ReplicaLemmas.{IsOne, replica_happens}
use Rattle.clone_core.proofs.UntoldLemmas.{AreOf, OfClone, event_breaks_off, event_says, made_untold, on_err, same_untold, untold_behind, untold_breaks, happened_untold}

-- ---- whether a clone is complete

pub complete_is : (p : Progress) (position : ℕ) → complete_in p ≡ Some position → p ≡ over (complete position)
complete_is absent position is = absurd (let e : None ≡ Some position = is in cc)
complete_is copying position is = absurd (let e : None ≡ Some position = is in cc)
complete_is (over (complete n)) position is = let e : Some n ≡ Some position = is in cc
complete_is (over broken) position is = absurd (let e : None ≡ Some position = is in cc)
complete_is (over (spent losses)) position is = absurd (let e : None ≡ Some position = is in cc)
complete_is (over (garbled bytes)) position is = absurd (let e : None ≡ Some position = is in cc)
complete_is (over (refused words)) position is = absurd (let e : None ≡ Some position = is in cc)

pub never_complete : (p : Progress) → complete_in p ≡ None → IsComplete p → ⊥
never_complete (over (complete n)) is whole = let e : Some n ≡ None = is in cc
never_complete p is whole = whole

-- ---- an exchange

abbrev pub came_event : ℕ → FollowFrame → Option Took → Event
came_event want frame None = lost want
came_event want frame (Some result) = taken frame result

-- the answer was sent, and came or was lost
pub record IsMade (s : State) (want : ℕ) (frame : FollowFrame) (came : Option Took) (t : State) : Type 0 where
  pub mid : State
  pub is_sent : Happens s (sent want frame) mid
  pub is_come : Happens mid (came_event want frame came) t

exchange_of : (want : ℕ) (frame : FollowFrame) (came : Option Took) → IsExchange (sent want frame ∷ came_event want frame came ∷ [])
exchange_of want frame None = loses want frame refl
exchange_of want frame (Some result) = comes want frame result refl

module _ (s : State) (one : IsOne s) (want : ℕ) (at : IsAt s.clone.replica want) (frame : FollowFrame) (is_answer : frame ≡ answer (donor_of s.donor).binlog want) where
  abbrev Mid : State
  Mid = with_replica (with_sent frame s.clone.replica) s

  sends : Happens s (sent want frame) Mid
  sends = replica_happens s (sent want frame) (with_sent frame s.clone.replica) tt one refl is_answer at

  made : (came : Option Took) (new : Replica) → Exchanges s.clone.replica frame (Ok came) new → IsMade s want frame came (with_replica new s)
  made None new is = record { mid = Mid; is_sent = sends; is_come = replica_happens Mid (lost want) new tt refl is.1 tt (is.0, at) }
  made (Some result) new is = record { mid = Mid; is_sent = sends; is_come = replica_happens Mid (taken frame result) new tt refl is.2.is tt (is.0, is.1, is.2.takes) }

  -- memory ran out in it
  stopped : (e : AllocError) (new : Replica) → Exchanges s.clone.replica frame (Err e) new → EndsUntold IsExchange s (with_replica new s)
  stopped e new (inl same) =
      ([], sent want frame ∷ lost want ∷ [], loses want frame refl, record { donor = refl; begun = refl; tells = refl; tasks = refl; clone = ap (λ (r : Replica). record s.clone { replica = r }) same })
  stopped e new (inr is) =
      (sent want frame ∷ [], lost want ∷ [], loses want frame refl, subst (λ (r : Replica). StaysUntold s (sent want frame ∷ []) (with_replica r s)) (sym is) (happened_untold s (sent want frame ∷ []) Mid (tt, tt) (Mid, sends, refl)))

-- the events of an exchange that was made
made_events : (s : State) (want : ℕ) (frame : FollowFrame) (came : Option Took) (t : State) → IsMade s want frame came t → Makes IsExchange s t
made_events s want frame came t is = (sent want frame ∷ came_event want frame came ∷ [], exchange_of want frame came, (is.mid, is.is_sent, (t, is.is_come, refl)))

exchange_of_clone : OfClone IsExchange
exchange_of_clone events (loses want frame is) = subst (AllByRecursion IsOfClone) (sym is) (tt, (tt, tt))
exchange_of_clone events (comes want frame result is) = subst (AllByRecursion IsOfClone) (sym is) (tt, (tt, tt))

-- the same, in a world whose fields are those of another
module _ (r s : State) (is : r ≡ s) (one : IsOne r) (want : ℕ) (at : IsAt s.clone.replica want) (frame : FollowFrame) (is_answer : frame ≡ answer (donor_of r.donor).binlog want) where
  at_here : IsAt r.clone.replica want
  at_here = subst (λ (w : State). IsAt w.clone.replica want) (sym is) at

  made_so : (came : Option Took) (new : Replica) → Exchanges r.clone.replica frame (Ok came) new → IsMade s want frame came (with_replica new r)
  made_so came new exchanges = subst (λ (w : State). IsMade w want frame came (with_replica new r)) is (made r one want at_here frame is_answer came new exchanges)

  pub exchange_says : {A : Type 0} (bytes : A → Text) (came : Option Took) (new : Replica) (result : Result A AllocError) → Exchanges r.clone.replica frame (Ok came) new → IfOk result (λ a. bytes a ≡ event_text (came_event want frame came)) → IfOk result (λ a. ExchangesIn s (bytes a) (with_replica new r))
  exchange_says bytes came new (Err e) exchanges says = tt
  exchange_says bytes came new (Ok a) exchanges says =
      let so = made_so came new exchanges in
      record { events = sent want frame ∷ came_event want frame came ∷ []; exchange = exchange_of want frame came; happened = (so.mid, so.is_sent, (with_replica new r, so.is_come, refl)); is = says }

  pub exchange_breaks : {A : Type 0} (came : Option Took) (new : Replica) (result : Result A AllocError) → Exchanges r.clone.replica frame (Ok came) new → OnErr result (EndsUntold IsExchange s (with_replica new r))
  exchange_breaks came new result exchanges = on_err result (EndsUntold IsExchange s (with_replica new r)) (made_untold IsExchange s (with_replica new r) exchange_of_clone (made_events s want frame came (with_replica new r) (made_so came new exchanges)))

  pub exchange_stops : {A : Type 0} (e : AllocError) (new : Replica) (result : Result A AllocError) → Exchanges r.clone.replica frame (Err e) new → OnErr result (EndsUntold IsExchange s (with_replica new r))
  exchange_stops e new result exchanges =
      on_err result (EndsUntold IsExchange s (with_replica new r)) (subst (λ (w : State). EndsUntold IsExchange w (with_replica new r)) is (stopped r one want at_here frame is_answer e new exchanges))

-- its answer, by what came of it
pub exchange_said : {A : Type 0} (bytes : A → Text) (want : ℕ) (frame : FollowFrame) (came these : Option Took) (result said : Result A AllocError) → came ≡ these → result ≡ said → IfOk said (λ a. bytes a ≡ event_text (came_event want frame these)) → IfOk result (λ a. bytes a ≡ event_text (came_event want frame came))
exchange_said {A} bytes want frame came these result said is same says =
    subst (λ (o : Option Took). IfOk result (λ a. bytes a ≡ event_text (came_event want frame o))) (sym is)
    (subst (λ (r : Result A AllocError). IfOk r (λ a. bytes a ≡ event_text (came_event want frame these))) (sym same) says)

some_at : (o : Option Following) (want : ℕ) → MatchOption o ⊥ (λ f. want ≡ f.position) → IsSome o
some_at None want at = absurd at
some_at (Some f) want at = refl

-- the follower is there
pub follower_there : (r s : State) (want : ℕ) → r ≡ s → IsAt s.clone.replica want → IsSome r.clone.replica.follower
follower_there r s want is at = some_at r.clone.replica.follower want (subst (λ (w : State). IsAt w.clone.replica want) (sym is) at)

position_at : (o : Option Following) (want : ℕ) → option_map (λ (f : Following). f.position) o ≡ Some want → MatchOption o ⊥ (λ f. want ≡ f.position)
position_at None want is = absurd (let e : None ≡ Some want = is in cc)
position_at (Some f) want is = sym (same_Some f.position want is)

position_none : (o : Option Following) → option_map (λ (f : Following). f.position) o ≡ None → o ≡ None
position_none None is = refl
position_none (Some f) is = absurd (let e : Some f.position ≡ None = is in cc)

-- its position is this, or there is none
pub at_position : (r s : State) (result : Option ℕ) (want : ℕ) → r ≡ s → result ≡ option_map (λ (f : Following). f.position) r.clone.replica.follower → result ≡ Some want → IsAt s.clone.replica want
at_position r s result want is position some = subst (λ (w : State). IsAt w.clone.replica want) is (position_at r.clone.replica.follower want (sym position ∙ some))

pub no_follower : (r s : State) (result : Option ℕ) → r ≡ s → result ≡ option_map (λ (f : Following). f.position) r.clone.replica.follower → result ≡ None → s.clone.replica.follower ≡ None
no_follower r s result is position none = ap (λ (w : State). w.clone.replica.follower) (sym is) ∙ position_none r.clone.replica.follower (sym position ∙ none)

-- there was no memory for the answer
pub unanswered : {A : Type 0} (s : State) (want : ℕ) (result : Result A AllocError) → OnErr result (EndsUntold IsExchange s s)
unanswered s want result = on_err result (EndsUntold IsExchange s s) ([], sent want (frames.Current want) ∷ lost want ∷ [], loses want (frames.Current want) refl, same_untold s)

-- ---- a line that is one exchange

exchange_follows : (s : State) (events : List Event) → IsExchange events → AreOf s lines.Follow (events ++ [])
exchange_follows s events is = subst (AreOf s lines.Follow) (sym (append-nil events)) (asks is)

pub follow_answers : {A : Type 0} (bytes : A → Text) (s t : State) (result : Result A AllocError) → IfOk result (λ a. ExchangesIn s (bytes a) t) → IfOk result (λ a. Answers s lines.Follow (bytes a) t)
follow_answers bytes s t (Err e) is = tt
follow_answers bytes s t (Ok a) is = record { events = is.events; step = (asks is.exchange, is.happened); is = is.is }

pub follow_breaks : {A : Type 0} (s t : State) (result : Result A AllocError) → OnErr result (EndsUntold IsExchange s t) → OnErr result (BreaksOff s lines.Follow t)
follow_breaks s t (Ok a) is = tt
follow_breaks s t (Err e) is = untold_breaks IsExchange s t lines.Follow [] (unasked lines.Follow) [] (asks_nothing refl) (exchange_follows s) is

-- ---- a follower begins

-- the clone's rows were read, and a follower began with them
pub record Begins (s : State) (position : ℕ) (t : State) : Type 0 where
  pub rows : Rows
  pub mid : State
  pub is_read : Happens s (showed rows) mid
  pub is_open : Happens mid (opened_follower rows position) t

-- a read leaves the clone's rows what they are
rows_stay : (d e : Donor) (a b : Bool) (old new : Clone) (rows : Rows) → e ≡ d → b ≡ a → new ≡ record old { shown = true } → ShowsRows d a old rows → ShowsRows e b new rows
rows_stay d e a b old new rows donor tells clone is =
    subst (λ (x : Donor). ShowsRows x b new rows) (sym donor)
    (subst (λ (x : Bool). ShowsRows d x new rows) (sym tells)
    (subst (λ (x : Clone). ShowsRows d a x rows) (sym clone) (record { ended = is.ended; are = λ sure. is.are (record { told = sure.told; honest = sure.honest; steady = sure.steady }) })))

opens : (s u : State) (rows : Rows) (position : ℕ) → Happens s (showed rows) u → s.clone.progress ≡ over (complete position) → s.clone.replica.follower ≡ None → OpensFollower (donor_of u.donor) u.tells u.clone rows position
opens s u rows position is whole first = record {
  first = ap (λ (c : Clone). c.replica.follower) is.clone.is ∙ first;
  whole = ap (λ (c : Clone). c.progress) is.clone.is ∙ whole;
  rows_are = rows_stay (donor_of s.donor) (donor_of u.donor) s.tells u.tells s.clone u.clone rows (clone_keeps (showed rows) s.donor u.donor tt is.step) is.tells is.clone.is is.clone.shows;
}

pub begun_so : (s u t : State) (list : List Row) (position : ℕ) → ShowsList s list u → s.clone.progress ≡ over (complete position) → s.clone.replica.follower ≡ None → OpensIn u list position t → Begins s position t
begun_so s u t list position shows whole first opened = record {
  rows = shows.rows;
  mid = u;
  is_read = shows.happened;
  is_open = opened shows.rows shows.is (opens s u shows.rows position shows.happened whole first);
}

pub begun_at : (s t : State) (position : ℕ) → Begins s position t → IsAt t.clone.replica position
begun_at s t position is = subst (λ (c : Clone). IsAt c.replica position) (sym is.is_open.clone.is) refl

-- and asks at once
pub first_answers : {A : Type 0} (bytes : A → Text) (s u t : State) (position : ℕ) (result : Result A AllocError) → Begins s position u → IfOk result (λ a. ExchangesIn u (bytes a) t) → IfOk result (λ a. Answers s lines.Follow (bytes a) t)
first_answers bytes s u t position (Err e) begun is = tt
first_answers bytes s u t position (Ok a) begun is = record {
  events = showed begun.rows ∷ opened_follower begun.rows position ∷ is.events;
  step = (first_asks begun.rows position is.events is.exchange refl, (begun.mid, begun.is_read, (u, begun.is_open, is.happened)));
  is = is.is ∙ said_behind is.events is.exchange (showed begun.rows) (opened_follower begun.rows position);
}
  where
    said_behind : (events : List Event) → IsExchange events → (e f : Event) → said events ≡ said (e ∷ f ∷ events)
    said_behind [] (loses want frame none) e f = absurd (cc)
    said_behind [] (comes want frame result none) e f = absurd (cc)
    said_behind (x ∷ events) exchange e f = refl

-- the events of a first follow
abbrev IsFirst : ℕ → Rows → List Event → Type 0
IsFirst position rows events = (rest : List Event) × IsExchange rest × (events ≡ showed rows ∷ opened_follower rows position ∷ rest)

abbrev IsBegun : ℕ → Rows → List Event → Type 0
IsBegun position rows events = events ≡ showed rows ∷ opened_follower rows position ∷ []

first_breaks_off : (s t : State) (position : ℕ) (rows : Rows) → EndsUntold (IsFirst position rows) s t → BreaksOff s lines.Follow t
first_breaks_off s t position rows is =
    untold_breaks (IsFirst position rows) s t lines.Follow [] (unasked lines.Follow) [] (asks_nothing refl)
    (λ events first. subst (AreOf s lines.Follow) (sym (append-nil events)) (first_asks rows position first.0 first.1 first.2)) is

pub first_breaks : {A : Type 0} (s u t : State) (position : ℕ) (result : Result A AllocError) → Begins s position u → OnErr result (EndsUntold IsExchange u t) → OnErr result (BreaksOff s lines.Follow t)
first_breaks s u t position (Ok a) begun is = tt
first_breaks s u t position (Err e) begun is =
    first_breaks_off s t position begun.rows
    (untold_behind (IsBegun position begun.rows) IsExchange (IsFirst position begun.rows) s u t
    (λ events at. subst (AllByRecursion IsOfClone) (sym at) (tt, (tt, tt)))
    (λ xs ys at exchange. (ys, exchange, ap (λ (es : List Event). es ++ ys) at))
    (_, refl, (begun.mid, begun.is_read, (u, begun.is_open, refl))) is)

-- there was no memory for its rows
pub unopened : {A : Type 0} (s u : State) (list : List Row) (position : ℕ) (result : Result A AllocError) → ShowsList s list u → OnErr result (BreaksOff s lines.Follow u)
unopened s u list position result shows =
    on_err result (BreaksOff s lines.Follow u)
    (first_breaks_off s u position shows.rows (
      showed shows.rows ∷ [],
      opened_follower shows.rows position ∷ sent position (frames.Current position) ∷ lost position ∷ [],
      (sent position (frames.Current position) ∷ lost position ∷ [], loses position (frames.Current position) refl, refl),
      happened_untold s (showed shows.rows ∷ []) u (tt, tt) (u, shows.happened, refl),
    ))

-- what opens a follower, in a world whose fields are those of another
pub opens_in : (r s : State) (list : List Row) (position : ℕ) (new : Replica) → r ≡ s → IsOne r → new ≡ record r.clone.replica { follower = Some (record { rows = with_rows finite.empty list; position = position }) } → OpensIn s list position (with_replica new r)
opens_in r s list position new is one opened = subst (λ (w : State). OpensIn w list position (with_replica new r)) is (λ rows listed shows.
    replica_happens r (opened_follower rows position) new tt one
    (opened ∙ ap (λ (x : Rows). record r.clone.replica { follower = Some (record { rows = x; position = position }) }) (ap (with_rows finite.empty) listed ∙ opens_again rows)) tt shows)

same_world : (r s : State) (new : Replica) → r ≡ s → IsOne r → new ≡ r.clone.replica → with_replica new r ≡ s
same_world r s new is one same = ap (λ (x : Replica). with_replica x r) same ∙ ap (λ (x : Replica). record r { donor = record r.donor { replica = x } }) (sym one) ∙ is

pub opens_ok : {A : Type 0} (r s : State) (list : List Row) (position : ℕ) (new : Replica) (result : Result A AllocError) → r ≡ s → IsOne r → OnOk result (new ≡ record r.clone.replica { follower = Some (record { rows = with_rows finite.empty list; position = position }) }) → OnOk result (OpensIn s list position (with_replica new r))
opens_ok r s list position new (Ok a) is one opened = opens_in r s list position new is one opened
opens_ok r s list position new (Err e) is one opened = tt

pub opens_err : {A : Type 0} (r s : State) (new : Replica) (result : Result A AllocError) → r ≡ s → IsOne r → OnErr result (new ≡ r.clone.replica) → OnErr result (with_replica new r ≡ s)
opens_err r s new (Ok a) is one same = tt
opens_err r s new (Err e) is one same = same_world r s new is one same

-- ---- the next answer is to be lost

pub set_to_lose_happens : (r s : State) (new : Replica) → r ≡ s → IsOne r → new ≡ record r.clone.replica { losing = true } → Happens s set_to_lose (with_replica new r)
set_to_lose_happens r s new is one lost_next = subst (λ (w : State). Happens w set_to_lose (with_replica new r)) is (replica_happens r set_to_lose new tt one lost_next tt tt)

pub lose_says : (r s : State) (new : Replica) (text : Text) → r ≡ s → IsOne r → new ≡ record r.clone.replica { losing = true } → text ≡ event_text set_to_lose → Answers s lines.Lose text (with_replica new r)
lose_says r s new text is one lost_next says = record { events = set_to_lose ∷ []; step = (refl, (with_replica new r, set_to_lose_happens r s new is one lost_next, refl)); is = says }

-- ---- a commit comes again

pub repeat_happens : (r s : State) (number : ℕ) (result : Took) (new : Replica) → r ≡ s → IsOne r → (is : RepeatsSo r.clone.replica number (Ok (Some result)) new) → Happens s (repeated number is.0 result) (with_replica new r)
repeat_happens r s number result new is one (frame, numbered, took) = subst (λ (w : State). Happens w (repeated number frame result) (with_replica new r)) is (replica_happens r (repeated number frame result) new tt one took.is tt (numbered, took.takes))

-- nothing can be asked of the follower
pub asks_none : (s : State) (by : Line) → AsksNothing by s.clone → Happens s (unasked by) s
asks_none s by is = record { step = refl; begun = refl; clone = record { now = tt; shows = is; is = refl }; tells = refl; tasks = refl; sees = λ told. tt }

pub repeats_none : (r s : State) (number : ℕ) (new : Replica) → r ≡ s → IsOne r → RepeatsSo r.clone.replica number (Ok None) new → Happens s (unasked (lines.Repeat number)) (with_replica new r)
repeats_none r s number new is one (same, none) =
    subst (λ (w : State). Happens s (unasked (lines.Repeat number)) w) (sym (same_world r s new is one same))
    (asks_none s (lines.Repeat number) (subst (λ (w : State). AsksNothing (lines.Repeat number) w.clone) is none))

-- its answer, by what came of it
pub repeat_says : {A : Type 0} (bytes : A → Text) (r s : State) (number : ℕ) (took : Took) (new : Replica) (result : Result A AllocError) → r ≡ s → IsOne r → RepeatsSo r.clone.replica number (Ok (Some took)) new → IfOk result (λ a. bytes a ≡ took_text took) → IfOk result (λ a. Answers s (lines.Repeat number) (bytes a) (with_replica new r))
repeat_says bytes r s number took new result is one repeats says =
    event_says bytes s (with_replica new r) (lines.Repeat number) (repeated number repeats.0 took) result (repeated number repeats.0 took, refl, refl) (repeat_happens r s number took new is one repeats) says

pub repeat_breaks : {A : Type 0} (r s : State) (number : ℕ) (took : Took) (new : Replica) (result : Result A AllocError) → r ≡ s → IsOne r → RepeatsSo r.clone.replica number (Ok (Some took)) new → OnErr result (BreaksOff s (lines.Repeat number) (with_replica new r))
repeat_breaks r s number took new result is one repeats =
    event_breaks_off s (with_replica new r) (lines.Repeat number) (repeated number repeats.0 took) result (repeated number repeats.0 took, refl, refl) tt (repeat_happens r s number took new is one repeats)

pub repeat_idle : {A : Type 0} (bytes : A → Text) (r s : State) (number : ℕ) (new : Replica) (result : Result A AllocError) → r ≡ s → IsOne r → RepeatsSo r.clone.replica number (Ok None) new → IfOk result (λ a. bytes a ≡ idle) → IfOk result (λ a. Answers s (lines.Repeat number) (bytes a) (with_replica new r))
repeat_idle bytes r s number new result is one repeats says =
    event_says bytes s (with_replica new r) (lines.Repeat number) (unasked (lines.Repeat number)) result (unasked (lines.Repeat number), refl, refl) (repeats_none r s number new is one repeats) says

-- what a line says of it
abbrev pub RepeatSays : {A : Type 0} → (A → Text) → Option Took → Result A AllocError → Type 0
RepeatSays bytes (Some took) said = IfOk said (λ a. bytes a ≡ took_text took)
RepeatSays bytes None said = IfOk said (λ a. bytes a ≡ idle)

repeat_by : {A : Type 0} (bytes : A → Text) (r s : State) (number : ℕ) (came : Option Took) (new : Replica) (result : Result A AllocError) → r ≡ s → IsOne r → RepeatsSo r.clone.replica number (Ok came) new → RepeatSays bytes came result → IfOk result (λ a. Answers s (lines.Repeat number) (bytes a) (with_replica new r))
repeat_by bytes r s number (Some took) new result is one repeats says = repeat_says bytes r s number took new result is one repeats says
repeat_by bytes r s number None new result is one repeats says = repeat_idle bytes r s number new result is one repeats says

pub repeat_answers : {A : Type 0} (bytes : A → Text) (r s : State) (number : ℕ) (came these : Option Took) (new : Replica) (result said : Result A AllocError) → r ≡ s → IsOne r → RepeatsSo r.clone.replica number (Ok came) new → came ≡ these → result ≡ said → RepeatSays bytes these said → IfOk result (λ a. Answers s (lines.Repeat number) (bytes a) (with_replica new r))
repeat_answers {A} bytes r s number came these new result said is one repeats so same says =
    repeat_by bytes r s number came new result is one repeats (subst (λ (o : Option Took). RepeatSays bytes o result) (sym so) (subst (λ (x : Result A AllocError). RepeatSays bytes these x) (sym same) says))

-- nothing has changed
pub unrepeated : {A : Type 0} (r s : State) (line : Line) (new : Replica) (result : Result A AllocError) → r ≡ s → IsOne r → new ≡ r.clone.replica → OnErr result (BreaksOff s line (with_replica new r))
unrepeated r s line new result is one same = subst (λ (w : State). OnErr result (BreaksOff s line w)) (sym (same_world r s new is one same)) (same_breaks s line result)

-- ---- the follower's rows

-- the rows that are listed
pub listed_rows : (o : Option Following) (list : List Row) → MatchOption o ⊥ (λ f. list ≡ rows_in f.rows) → (rows : Rows) × (list ≡ rows_in rows) × MatchOption o ⊥ (λ f. rows ≡ f.rows)
listed_rows None list is = absurd is
listed_rows (Some f) list is = (f.rows, is, refl)

pub shows_replica : (s : State) (rows : Rows) → MatchOption s.clone.replica.follower ⊥ (λ f. rows ≡ f.rows) → Happens s (replicated rows) s
shows_replica s rows is = record { step = refl; begun = refl; clone = record { now = tt; shows = is; is = refl }; tells = refl; tasks = refl; sees = λ told. tt }

-- memory ran out after it
pub repeat_fails : {A : Type 0} (r s : State) (number : ℕ) (came : Option Took) (new : Replica) (result : Result A AllocError) → r ≡ s → IsOne r → RepeatsSo r.clone.replica number (Ok came) new → OnErr result (BreaksOff s (lines.Repeat number) (with_replica new r))
repeat_fails r s number (Some took) new result is one repeats = repeat_breaks r s number took new result is one repeats
repeat_fails r s number None new result is one (same, none) = unrepeated r s (lines.Repeat number) new result is one same

pub replica_says : {A : Type 0} (bytes : A → Text) (s : State) (list : List Row) (result : Result A AllocError) → MatchOption s.clone.replica.follower ⊥ (λ f. list ≡ rows_in f.rows) → IfOk result (λ a. bytes a ≡ rows_answer list) → IfOk result (λ a. Answers s lines.Replica (bytes a) s)
replica_says bytes s list result is says =
    let (rows, listed, own) = listed_rows s.clone.replica.follower list is in
    event_says bytes s s lines.Replica (replicated rows) result (replicated rows, tt, refl) (shows_replica s rows own) (said_is bytes result (rows_answer list) (rows_answer (rows_in rows)) (ap rows_answer listed) says)

pub replica_idle : {A : Type 0} (bytes : A → Text) (s : State) (result : Result A AllocError) → s.clone.replica.follower ≡ None → IfOk result (λ a. bytes a ≡ idle) → IfOk result (λ a. Answers s lines.Replica (bytes a) s)
replica_idle bytes s result none says = event_says bytes s s lines.Replica (unasked lines.Replica) result (unasked lines.Replica, refl, refl) (asks_none s lines.Replica none) says

abbrev pub ReplicaSays : {A : Type 0} → (A → Text) → Option (Vec Row Global) → Result A AllocError → Type 0
ReplicaSays bytes (Some rows) said = IfOk said (λ a. bytes a ≡ rows_answer rows.items)
ReplicaSays bytes None said = IfOk said (λ a. bytes a ≡ idle)

replica_by : {A : Type 0} (bytes : A → Text) (s : State) (o : Option (Vec Row Global)) (result : Result A AllocError) → RowsOf s.clone.replica o → ReplicaSays bytes o result → IfOk result (λ a. Answers s lines.Replica (bytes a) s)
replica_by bytes s (Some rows) result are says = replica_says bytes s rows.items result are says
replica_by bytes s None result none says = replica_idle bytes s result none says

pub replica_answers : {A : Type 0} (bytes : A → Text) (r s : State) (o these : Option (Vec Row Global)) (result said : Result A AllocError) → r ≡ s → RowsOf r.clone.replica o → o ≡ these → result ≡ said → ReplicaSays bytes these said → IfOk result (λ a. Answers s lines.Replica (bytes a) s)
replica_answers {A} bytes r s o these result said is are so same says =
    replica_by bytes s o result (subst (λ (w : State). RowsOf w.clone.replica o) is are) (subst (λ (x : Option (Vec Row Global)). ReplicaSays bytes x result) (sym so) (subst (λ (x : Result A AllocError). ReplicaSays bytes these x) (sym same) says))

pub follow_idle : {A : Type 0} (bytes : A → Text) (s : State) (result : Result A AllocError) → complete_in s.clone.progress ≡ None → IfOk result (λ a. bytes a ≡ idle) → IfOk result (λ a. Answers s lines.Follow (bytes a) s)
follow_idle bytes s result none says = event_says bytes s s lines.Follow (unasked lines.Follow) result (asks_nothing refl) (asks_none s lines.Follow (never_complete s.clone.progress none)) says

-- the clone's rows weren't read, and why is said
pub hides_says : {A : Type 0} (bytes : A → Text) (s t : State) (e : Event) (result : Result A AllocError) → HidesRows e → Happens s e t → IfOk result (λ a. bytes a ≡ event_text e) → IfOk result (λ a. Answers s lines.Follow (bytes a) t)
hides_says bytes s t e result kind is says = event_says bytes s t lines.Follow e result (hides e kind refl) is says

pub hides_breaks : {A : Type 0} (s t : State) (e : Event) (result : Result A AllocError) → HidesRows e → StaysUntold s (e ∷ []) t → OnErr result (BreaksOff s lines.Follow t)
hides_breaks s t e result kind stays = event_breaks s t lines.Follow e result (hides e kind refl) stays

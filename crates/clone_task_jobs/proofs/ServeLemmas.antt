-- What a job did that serves the connections of a task, turn after turn.
use Rattle.std.proofs.Common.{ℕ, ◌≡◌, ◌∙◌, List, [], ◌∷◌, ◌++◌, Bool, true, false, Option, None, Some, is_some, refl, ap, sym, subst}
use Rattle.std.proofs.lemmas.Bool.{false≢true}
use Rattle.clone_outside.specs.declared.link.Side.TheVariants.{Donor}
use Rattle.clone_outside.specs.declared.link.Link.{Ghosts as Link}
use Rattle.clone_turn.specs.Worked.{Makes, Worked}
use Rattle.clone_turn.proofs.WorkedLemmas.{makes_more, makes_none}
use Rattle.clone_desk.specs.Records.{IsNew}
use Rattle.clone_desk.specs.Steps.{DeskEntry}
use Rattle.clone_desk.specs.declared.machine.DeskAnswer.TheVariants as answer
use Rattle.clone_desk.specs.declared.machine.DeskCall.TheVariants as call
use Rattle.clone_copying.specs.Calling.{IsOne}
use Rattle.clone_copying.specs.Connecting.{DeskSeat}
use Rattle.clone_machine.specs.Running.{JobEntry}
use Rattle.clone_machine.specs.declared.calls.JobAnswer.TheVariants as job_answer
use Rattle.clone_machine.specs.declared.calls.JobCall.TheVariants as job
use Rattle.clone_links.specs.Calling.{IsOneCall, JobSeat, Server, Works}
use Rattle.clone_links.specs.Ending.{RoseIfLost}
use Rattle.clone_links.specs.Serving.{IsServed}
use Rattle.clone_links.specs.declared.end.ServeEnd.{ServeEnd}
use Rattle.clone_links.specs.declared.end.ServeEnd.TheVariants as end
use Rattle.clone_jobs.specs.declared.ending.Ending.{Ending}
use Rattle.clone_jobs.specs.declared.ending.Ending.TheVariants as ending
use Rattle.clone_task_jobs.specs.Serving.{AreTurns, BothWorked, EndsBy, GoesOn, IsHalted, IsService, IsServing, IsTurn, Service, TakesTurn, ending_of, idles, serves, none, more}

-- what a server did by its seat
pub worked_of : (P : List JobEntry → Type 0) (s t : Server) → Works P s t → Worked P s.seat t.seat
worked_of P s t (same, worked) = worked

-- a job neither is done nor is halted by the end of a connection
never_done : (why : ServeEnd) → ending_of why ≡ Some ending.Done → ⊥
never_done end.Exit same = cc
never_done end.Lost same = cc
never_done (end.Refused c) same = cc
never_done (end.Garbled k) same = cc
never_done end.DiskFault same = cc
never_done end.Halted same = cc
never_done end.NoMemory same = cc

never_halted : (why : ServeEnd) → ending_of why ≡ Some ending.Halted → ⊥
never_halted end.Exit same = cc
never_halted end.Lost same = cc
never_halted (end.Refused c) same = cc
never_halted (end.Garbled k) same = cc
never_halted end.DiskFault same = cc
never_halted end.Halted same = cc
never_halted end.NoMemory same = cc

-- ---- a turn

module _ {L X : Type 0} (link : Link L X) where
  -- what is known of an end that was served and closed
  pub record IsClosed (why : ServeEnd) (taken served back : L) : Type 0 where
    pub new : IsNew link (link.name taken) Donor taken
    pub name : ◌≡◌ (link.name served) (link.name taken)
    pub side : link.side served ≡ link.side taken
    pub lost : RoseIfLost why (link.failures taken) (link.failures served)
    pub received : link.received back ≡ link.received served
    pub sent : link.sent back ≡ link.sent served
    pub back_name : ◌≡◌ (link.name back) (link.name served)
    pub back_side : link.side back ≡ link.side served
    pub count : link.failures back ≡ link.failures served

  served_as : (why : ServeEnd) (taken served back : L) (calls : List JobEntry) → IsClosed why taken served back → IsServed why (link.received taken) (link.received served) (link.sent taken) (link.sent served) calls
      → IsServed why (link.received taken) (link.received back) (link.sent taken) (link.sent back) calls
  served_as why taken served back calls closed is =
      subst (λ r. IsServed why (link.received taken) r (link.sent taken) (link.sent back) calls) (sym closed.received)
      (subst (λ q. IsServed why (link.received taken) (link.received served) (link.sent taken) q calls) (sym closed.sent) is)

module _ {N L X : Type 0} (link : Link L X) where
  served_one : (task : ℕ) (s : Service L) (served : L) (look calls : List JobEntry) (hand give : List (DeskEntry N L)) → IsClosed link s.why s.taken served s.back → GoesOn look
      → IsServed s.why (link.received s.taken) (link.received s.back) (link.sent s.taken) (link.sent s.back) calls
      → IsOne (call.DonorEnd task) (answer.HandedOut (Some (s.place, s.taken))) hand → IsOne (call.GiveBack s.place Donor s.back) answer.Kept give → IsService link task s (look ++ calls) (hand ++ give)
  served_one task s served look calls hand give closed goes_on is handed given = record {
    look = look;
    calls = calls;
    made_is = refl;
    goes_on = goes_on;
    serves = is;
    hand = hand;
    give = give;
    asked_is = refl;
    handed = handed;
    given = given;
    new = closed.new;
    same = record { name_is = closed.back_name ∙ closed.name; side_is = closed.back_side ∙ (closed.side ∙ closed.new.is.side_is) };
    lost = subst (λ n. RoseIfLost s.why (link.failures s.taken) n) (sym closed.count) closed.lost;
  }

  -- the run is to end
  pub both_halted : (task : ℕ) (v w : JobSeat) (d : DeskSeat N L) → Worked IsHalted v w → BothWorked link (TakesTurn link task (Some ending.Halted)) v w d d
  both_halted task v w d (made, makes, is) = (made, [], [], makes, makes_none d, (is, refl, refl))

  -- no end waits
  pub both_idle : (task : ℕ) (v w : JobSeat) (d e : DeskSeat N L) → Worked GoesOn v w → Worked (IsOne (call.DonorEnd task) (answer.HandedOut None)) d e → BothWorked link (TakesTurn link task None) v w d e
  both_idle task v w d e (made, makes, goes) (asked, asks, empty) = (made, asked, [], makes, asks, idles goes empty)

  -- a connection is served
  pub record HasServed (task : ℕ) (s : Service L) (u w : JobSeat) (d f : DeskSeat N L) : Type 0 where
    pub made : List JobEntry
    pub asked : List (DeskEntry N L)
    pub makes : Makes u made w
    pub asks : Makes d asked f
    pub is : IsService link task s made asked

  pub has_served : (task : ℕ) (s : Service L) (served : L) (u v w : JobSeat) (d e f : DeskSeat N L) → IsClosed link s.why s.taken served s.back → Worked GoesOn u v
      → Worked (IsServed s.why (link.received s.taken) (link.received served) (link.sent s.taken) (link.sent served)) v w
      → Worked (IsOne (call.DonorEnd task) (answer.HandedOut (Some (s.place, s.taken)))) d e → Worked (IsOne (call.GiveBack s.place Donor s.back) answer.Kept) e f → HasServed task s u w d f
  has_served task s served u v w d e f closed (look, looks, goes) (calls, makes, is) (hand, hands, handed) (give, gives, given) = record {
    made = look ++ calls;
    asked = hand ++ give;
    makes = makes_more u v w look calls looks makes;
    asks = makes_more d e f hand give hands gives;
    is = served_one task s served look calls hand give closed goes (served_as link s.why s.taken served s.back calls closed is) handed given;
  }

  both_served : (task : ℕ) (s : Service L) (u w : JobSeat) (d f : DeskSeat N L) → HasServed task s u w d f → ending_of s.why ≡ None → BothWorked link (TakesTurn link task None) u w d f
  both_served task s u w d f did on = (did.made, did.asked, s ∷ [], did.makes, did.asks, serves s did.is on)

  ends_by : (task : ℕ) (how : Ending) (s : Service L) (made halt : List JobEntry) (asked : List (DeskEntry N L)) → IsService link task s made asked → ending_of s.why ≡ Some how → IsOneCall job.Halt job_answer.Halt halt
      → EndsBy link task how (made ++ halt) asked (s ∷ [])
  ends_by task ending.Done s made halt asked is same halts = absurd (never_done s.why same)
  ends_by task ending.Halted s made halt asked is same halts = absurd (never_halted s.why same)
  ends_by task ending.DiskFault s made halt asked is same halts = (s, made, halt, refl, refl, is, same, halts)
  ends_by task ending.NoMemory s made halt asked is same halts = (s, made, halt, refl, refl, is, same, halts)

  both_stopped : (task : ℕ) (s : Service L) (u w x : JobSeat) (d f : DeskSeat N L) (how : Ending) → HasServed task s u w d f → ending_of s.why ≡ Some how → Worked (IsOneCall job.Halt job_answer.Halt) w x
      → BothWorked link (TakesTurn link task (Some how)) u x d f
  both_stopped task s u w x d f how did same (halt, halts, is) =
      (did.made ++ halt, did.asked, s ∷ [], makes_more u w x did.made halt did.makes halts, did.asks, ends_by task how s did.made halt did.asked did.is same is)

  pub after_halt : (task : ℕ) (s : Service L) (u w x : JobSeat) (d f : DeskSeat N L) (o : Option Ending) → HasServed task s u w d f → is_some o ≡ true → o ≡ ending_of s.why → Worked (IsOneCall job.Halt job_answer.Halt) w x
      → BothWorked link (TakesTurn link task o) u x d f
  after_halt task s u w x d f None did there is halt = absurd (false≢true there)
  after_halt task s u w x d f (Some how) did there is halt = both_stopped task s u w x d f how did (sym is) halt

  pub after_none : (task : ℕ) (s : Service L) (u w x : JobSeat) (d f : DeskSeat N L) (o : Option Ending) → HasServed task s u w d f → is_some o ≡ false → o ≡ ending_of s.why → x ≡ w → BothWorked link (TakesTurn link task o) u x d f
  after_none task s u w x d f None did there is same = subst (λ (y : JobSeat). BothWorked link (TakesTurn link task None) u y d f) (sym same) (both_served task s u w d f did (sym is))
  after_none task s u w x d f (Some how) did there is same = absurd (false≢true (sym there))

  -- ---- turn after turn

  both_more : (P Q R : List JobEntry → List (DeskEntry N L) → List (Service L) → Type 0) (u v w : JobSeat) (d e f : DeskSeat N L) → BothWorked link P u v d e → BothWorked link Q v w e f
      → ((xs ys : List JobEntry) (os bs : List (DeskEntry N L)) (ss ts : List (Service L)) → P xs os ss → Q ys bs ts → R (xs ++ ys) (os ++ bs) (ss ++ ts)) → BothWorked link R u w d f
  both_more P Q R u v w d e f a b both = (
    a.0 ++ b.0,
    a.1 ++ b.1,
    a.2 ++ b.2,
    makes_more u v w a.0 b.0 a.3 b.3,
    makes_more d e f a.1 b.1 a.4 b.4,
    both a.0 b.0 a.1 b.1 a.2 b.2 a.5 b.5,
  )

  pub turns_none : (task : ℕ) (v : JobSeat) (d : DeskSeat N L) → BothWorked link (AreTurns link task) v v d d
  turns_none task v d = ([], [], [], makes_none v, makes_none d, none)

  pub turns_on : (task : ℕ) (u v w : JobSeat) (d e f : DeskSeat N L) → BothWorked link (AreTurns link task) u v d e → BothWorked link (TakesTurn link task None) v w e f → BothWorked link (AreTurns link task) u w d f
  turns_on task u v w d e f a b = both_more (AreTurns link task) (IsTurn link task) (AreTurns link task) u v w d e f a b (λ xs ys os bs ss ts turns turn. more xs ys os bs ss ts turns turn)

  pub turns_end : (task : ℕ) (how : Ending) (u v w : JobSeat) (d e f : DeskSeat N L) → BothWorked link (AreTurns link task) u v d e → BothWorked link (TakesTurn link task (Some how)) v w e f → BothWorked link (IsServing link task how) u w d f
  turns_end task how u v w d e f a b = both_more (AreTurns link task) (EndsBy link task how) (IsServing link task how) u v w d e f a b (λ xs ys os bs ss ts turns ended. record {
    made_first = xs;
    made_last = ys;
    asked_first = os;
    asked_last = bs;
    first = ss;
    last = ts;
    turns = turns;
    ends = ended;
    made_is = refl;
    asked_is = refl;
    served_is = refl;
  })

-- The events of rounds: one step after the other, and one round after the other.
use Rattle.std.proofs.Common.{◌≡◌, ◌≤◌, ◌<◌, ◌-◌, ◌^◌, ◌+◌, ◌∙◌, ◌||◌, ℕ, zero, suc, Bool, false, not, List, [], ◌∷◌, ◌++◌, Option, None, Some, refl, sym, subst, arith, append_assoc, append-nil}
use Rattle.std.specs.List.{AllByRecursion}
use Rattle.std.specs.Option.{IfNone, IfSome, option_map_or}
use Rattle.clone_script.specs.declared.lines.Line.{Line}
use Rattle.clone_script.specs.declared.lines.Line.TheVariants as lines
use Rattle.clone_events.specs.Events.{Event, acts}
use Rattle.clone_events.specs.Runs.{AreOfDonor, AreOfTasks, AreRounds, IsBy, IsRound, next_round, no_round}
use Rattle.clone_core.specs.CloneEvents.{Acts, ActsUntold, EndsUntold, Makes}
use Rattle.clone_core.specs.declared.rounds.Round.{Round}
use Rattle.clone_core.specs.declared.rounds.Round.TheVariants as rounds
use Rattle.clone_core.specs.Idling.{EndIdles, EndsIdle, TaskIdles, TasksIdle}
use Rattle.clone_core.specs.Quiet.{AreClosed}
use Rattle.clone_core.specs.Left.{DonorLeaves, RoundLeaves, TasksLeave, donor_left, tasks_left}
use Rattle.clone_core.specs.Lines.{State}
use Rattle.clone_core.proofs.ActsLemmas.{IsOfClone}
use Rattle.clone_core.proofs.LeftLemmas.{donor_rests, donor_then, tasks_rest, tasks_then}
use Rattle.clone_core.proofs.RoundsIdle.{ends_first, ends_next, tasks_first, tasks_next}
use Rattle.clone_core.proofs.UntoldLemmas.{Join, OfClone, all_append, makes_as, makes_then, tasks_stay, untold_as, untold_behind}

by_of_clone : (line : Line) (e : Event) → IsBy line e → IsOfClone e
by_of_clone line (acts by changes answer) is = tt
by_of_clone line e is = absurd is

-- ---- the steps of tasks

pub tasks_of_clone : (first count : ℕ) → OfClone (AreOfTasks first count)
tasks_of_clone first zero events are = subst (AllByRecursion IsOfClone) (sym are) tt
tasks_of_clone first (suc count) [] are = absurd are
tasks_of_clone first (suc count) (e ∷ events) are = (by_of_clone (lines.Task first) e are.0, tasks_of_clone (first + 1) count events are.1)

tasks_join : (first k from m n : ℕ) (xs ys : List Event) → from ≡ first + k → n ≡ k + m → AreOfTasks first k xs → AreOfTasks from m ys → AreOfTasks first n (xs ++ ys)
tasks_join first zero from m n xs ys next whole before after =
    let same : m ≡ n = omega (arith, whole) in
    let here : from ≡ first = omega (arith, next) in
    subst (λ (es : List Event). AreOfTasks first n (es ++ ys)) (sym before) (subst (λ (c : ℕ). AreOfTasks first c ys) same (subst (λ (f : ℕ). AreOfTasks f m ys) here after))
tasks_join first (suc k) from m n [] ys next whole before after = absurd before
tasks_join first (suc k) from m zero (e ∷ xs) ys next whole before after = absurd (omega (arith, whole))
tasks_join first (suc k) from m (suc n) (e ∷ xs) ys next whole before after = (before.0, tasks_join (first + 1) k from m n xs ys (omega (arith, next)) (omega (arith, whole)) before.1 after)

-- steps of these tasks that change nothing
quiet_tasks : (first count : ℕ) → (events : List Event) × AreOfTasks first count events
quiet_tasks first zero = ([], refl)
quiet_tasks first (suc count) = let rest = quiet_tasks (first + 1) count in (acts (lines.Task first) [] [] ∷ rest.0, (refl, rest.1))

-- so many tasks have each made a step, after which so much is left
pub record TasksDone (s : State) (count : ℕ) (moved : Bool) (u : State) : Type 0 where
  pub made : Makes (AreOfTasks 0 count) s u
  pub left : TasksLeave (not moved) s u
  pub idle : TasksIdle (not moved) count s u

pub tasks_begin : (s : State) → TasksDone s 0 false s
tasks_begin s = record { made = ([], refl, refl); left = tasks_rest s; idle = tasks_first s }

task_made : (s u t : State) (task : ℕ) (answer : List ℕ) → Makes (AreOfTasks 0 task) s u → Acts (lines.Task task) u answer t → Makes (AreOfTasks 0 (task + 1)) s t
task_made s u t task answer made (changes, happens) =
    makes_then (AreOfTasks 0 task) (AreOfTasks task 1) (AreOfTasks 0 (task + 1)) s u t (λ xs ys. tasks_join 0 task task 1 (task + 1) xs ys (omega arith) refl) made
    (acts (lines.Task task) changes answer ∷ [], (refl, refl), (t, happens, refl))

-- one more
pub task_done : (s u t : State) (task : ℕ) (answer : List ℕ) (moved quiet : Bool) → TasksDone s task moved u → Acts (lines.Task task) u answer t → TasksLeave quiet u t → TaskIdles quiet task u t → TasksDone s (task + 1) (moved || not quiet) t
task_done s u t task answer moved quiet done acted left idles = record { made = task_made s u t task answer done.made acted; left = tasks_then moved quiet s u t done.left left; idle = tasks_next moved quiet task s u t done.idle idles }

-- memory ran out in the step of this task, and the others would have changed nothing
pub task_untold : (s u t : State) (task count : ℕ) (moved : Bool) → task < count → TasksDone s task moved u → ActsUntold (lines.Task task) u t → EndsUntold (AreOfTasks 0 count) s t
task_untold s u t task count moved low done (changes, answer, untold) =
    let behind : ℕ = count - task - 1 in
    let rest = quiet_tasks (task + 1) behind in
    let one : suc behind ≡ count - task = omega (arith, low) in
    let events : List Event = acts (lines.Task task) changes answer ∷ rest.0 in
    let all : AreOfTasks task (count - task) events = subst (λ (n : ℕ). AreOfTasks task n events) one (refl, rest.1) in
    let whole : count ≡ task + (count - task) = omega (arith, low) in
    untold_behind (AreOfTasks 0 task) (AreOfTasks task (count - task)) (AreOfTasks 0 count) s u t (tasks_of_clone 0 task)
    (λ xs ys. tasks_join 0 task task (count - task) count xs ys (omega arith) whole) done.made
    (acts (lines.Task task) changes answer ∷ [], rest.0, all, untold)

-- ---- the steps of the donor

-- on connections between these numbers
abbrev pub AreUpTo : (least bound : ℕ) → List Event → Type 0
AreUpTo least bound [] = least ≤ bound
AreUpTo least bound (e ∷ events) = (connection : ℕ) × (least ≤ connection) × IsBy (lines.Serve connection) e × AreUpTo (connection + 1) bound events

pub donor_of_clone : (least : ℕ) → OfClone (AreOfDonor least)
donor_of_clone least [] are = tt
donor_of_clone least (e ∷ events) (connection, low, by, rest) = (by_of_clone (lines.Serve connection) e by, donor_of_clone (connection + 1) events rest)

up_to_donor : (least bound : ℕ) (events : List Event) → AreUpTo least bound events → AreOfDonor least events
up_to_donor least bound [] are = tt
up_to_donor least bound (e ∷ events) (connection, low, by, rest) = (connection, low, by, up_to_donor (connection + 1) bound events rest)

up_to_of_clone : (least bound : ℕ) → OfClone (AreUpTo least bound)
up_to_of_clone least bound events are = donor_of_clone least events (up_to_donor least bound events are)

-- one more, on a connection from the bound on
up_to_then : (least bound connection : ℕ) (xs : List Event) (e : Event) → bound ≤ connection → AreUpTo least bound xs → IsBy (lines.Serve connection) e → AreUpTo least (connection + 1) (xs ++ e ∷ [])
up_to_then least bound connection [] e low are by = (connection, omega (arith, low, are), by, omega arith)
up_to_then least bound connection (x ∷ xs) e low (at, from, is, rest) by = (at, from, is, up_to_then (at + 1) bound connection xs e low rest by)

-- the number of a connection
abbrev pub IsNumber : Option ℕ → Type 0
IsNumber next = IfSome next (λ number. number < 2 ^ 32)

-- the donor has made steps on connections before the next one, after which so much is left
pub record DonorDone (s : State) (next : Option ℕ) (moved : Bool) (u : State) : Type 0 where
  pub bound : ℕ
  pub low : IfSome next (λ connection. bound ≤ connection)
  pub range : IsNumber next
  pub made : Makes (AreUpTo 0 bound) s u
  pub left : DonorLeaves (not moved) s u
  pub idle : EndsIdle (not moved) next s u

pub donor_begins : (s : State) (next : Option ℕ) → IsNumber next → AreClosed 0 next s.donor.course → DonorDone s next false s
donor_begins s next range closed = record { bound = 0; low = all next; range = range; made = ([], omega arith, refl); left = donor_rests s; idle = ends_first s next closed }
  where
    all : (o : Option ℕ) → IfSome o (λ connection. 0 ≤ connection)
    all None = tt
    all (Some connection) = omega arith

serve_made : (s u t : State) (bound connection : ℕ) (answer : List ℕ) → bound ≤ connection → Makes (AreUpTo 0 bound) s u → Acts (lines.Serve connection) u answer t → Makes (AreUpTo 0 (connection + 1)) s t
serve_made s u t bound connection answer low made (changes, happens) =
    makes_then (AreUpTo 0 bound) (λ ys. (e : Event) × IsBy (lines.Serve connection) e × (ys ≡ e ∷ [])) (AreUpTo 0 (connection + 1)) s u t
    (λ xs ys before (e, by, is). subst (λ (es : List Event). AreUpTo 0 (connection + 1) (xs ++ es)) (sym is) (up_to_then 0 bound connection xs e low before by)) made
    (acts (lines.Serve connection) changes answer ∷ [], (acts (lines.Serve connection) changes answer, refl, refl), (t, happens, refl))

-- what is next is behind what was served
abbrev pub IsBehind : ℕ → Option ℕ → Type 0
IsBehind connection next = IfSome next (λ number. connection + 1 ≤ number)

-- one more
pub serve_done : (s u t : State) (connection : ℕ) (next : Option ℕ) (answer : List ℕ) (moved quiet : Bool) → DonorDone s (Some connection) moved u → IsBehind connection next → IsNumber next → Acts (lines.Serve connection) u answer t → DonorLeaves quiet u t → EndIdles quiet connection u t → AreClosed (connection + 1) next t.donor.course → DonorDone s next (moved || not quiet) t
serve_done s u t connection next answer moved quiet done behind range acted left idles closed = record {
  bound = connection + 1;
  low = behind;
  range = range;
  made = serve_made s u t done.bound connection answer done.low done.made acted;
  left = donor_then moved quiet s u t done.left left;
  idle = ends_next moved quiet connection next s u t done.idle idles closed;
}

pub donor_made : (s u : State) (next : Option ℕ) (moved : Bool) → DonorDone s next moved u → Makes (AreOfDonor 0) s u
donor_made s u next moved done = makes_as (AreUpTo 0 done.bound) (AreOfDonor 0) s u (up_to_donor 0 done.bound) done.made

-- memory ran out in the step on this connection
pub serve_untold : (s u t : State) (connection : ℕ) (moved : Bool) → DonorDone s (Some connection) moved u → ActsUntold (lines.Serve connection) u t → EndsUntold (AreOfDonor 0) s t
serve_untold s u t connection moved done (changes, answer, untold) =
    untold_behind (AreUpTo 0 done.bound) (λ ys. (e : Event) × IsBy (lines.Serve connection) e × (ys ≡ e ∷ [])) (AreOfDonor 0) s u t (up_to_of_clone 0 done.bound)
    (λ xs ys before (e, by, is). subst (λ (es : List Event). AreOfDonor 0 (xs ++ es)) (sym is) (up_to_donor 0 (connection + 1) (xs ++ e ∷ []) (up_to_then 0 done.bound connection xs e done.low before by))) done.made
    (acts (lines.Serve connection) changes answer ∷ [], [], (acts (lines.Serve connection) changes answer, refl, refl), untold)

-- how many numbers of connections are left
abbrev pub numbers_left : Option ℕ → ℕ
numbers_left next = option_map_or (λ connection. 2 ^ 32 - connection) next 0

pub fewer_numbers : (connection : ℕ) (next : Option ℕ) → connection < 2 ^ 32 → IsBehind connection next → numbers_left next < numbers_left (Some connection)
fewer_numbers connection None low behind = omega (arith, low)
fewer_numbers connection (Some number) low behind = omega (arith, low, behind)

-- ---- a round

pub round_of_clone : (tasks : ℕ) → OfClone (IsRound tasks)
round_of_clone tasks events is =
    subst (AllByRecursion IsOfClone) (sym is.split)
    (all_append IsOfClone is.by_tasks is.by_donor (tasks_of_clone 0 tasks is.by_tasks is.of_tasks) (donor_of_clone 0 is.by_donor is.of_donor))

round_joins : (tasks : ℕ) → Join (AreOfTasks 0 tasks) (AreOfDonor 0) (IsRound tasks)
round_joins tasks xs ys of_tasks of_donor = record { by_tasks = xs; by_donor = ys; split = refl; of_tasks = of_tasks; of_donor = of_donor }

pub round_made : (s u t : State) → Makes (AreOfTasks 0 s.tasks) s u → Makes (AreOfDonor 0) u t → Makes (IsRound s.tasks) s t
round_made s u t by_tasks by_donor = makes_then (AreOfTasks 0 s.tasks) (AreOfDonor 0) (IsRound s.tasks) s u t (round_joins s.tasks) by_tasks by_donor

pub tasks_ended : (s t : State) → EndsUntold (AreOfTasks 0 s.tasks) s t → EndsUntold (IsRound s.tasks) s t
tasks_ended s t ends = untold_as (AreOfTasks 0 s.tasks) (IsRound s.tasks) s t (λ events are. subst (IsRound s.tasks) (append-nil events) (round_joins s.tasks events [] are tt)) ends

pub donor_ended : (s u t : State) → Makes (AreOfTasks 0 s.tasks) s u → EndsUntold (AreOfDonor 0) u t → EndsUntold (IsRound s.tasks) s t
donor_ended s u t by_tasks ends = untold_behind (AreOfTasks 0 s.tasks) (AreOfDonor 0) (IsRound s.tasks) s u t (tasks_of_clone 0 s.tasks) (round_joins s.tasks) by_tasks ends

-- ---- rounds

pub rounds_of_clone : (tasks : ℕ) → OfClone (AreRounds tasks)
rounds_of_clone tasks events no_round = tt
rounds_of_clone tasks events (next_round round rest is more) = all_append IsOfClone round rest (round_of_clone tasks round is) (rounds_of_clone tasks rest more)

rounds_join : (tasks : ℕ) → Join (AreRounds tasks) (AreRounds tasks) (AreRounds tasks)
rounds_join tasks xs ys no_round after = after
rounds_join tasks xs ys (next_round round rest is more) after = subst (AreRounds tasks) (sym (append_assoc round rest ys)) (next_round round (rest ++ ys) is (rounds_join tasks rest ys more after))

one_round : (tasks : ℕ) (round : List Event) → IsRound tasks round → AreRounds tasks round
one_round tasks round is = subst (AreRounds tasks) (append-nil round) (next_round round [] is no_round)

-- rounds were made, one after the other
abbrev pub Rounds : State → State → Type 0
Rounds s u = Makes (AreRounds s.tasks) s u

pub rounds_begin : (s : State) → Rounds s s
rounds_begin s = ([], no_round, refl)

same_tasks : (s u : State) → Rounds s u → u.tasks ≡ s.tasks
same_tasks s u made = tasks_stay (AreRounds s.tasks) s u (rounds_of_clone s.tasks) made

pub rounds_then : (s u t : State) → Rounds s u → Rounds u t → Rounds s t
rounds_then s u t before after = makes_then (AreRounds s.tasks) (AreRounds s.tasks) (AreRounds s.tasks) s u t (rounds_join s.tasks) before (subst (λ (n : ℕ). Makes (AreRounds n) u t) (same_tasks s u before) after)

pub round_then : (s u t : State) → Rounds s u → Makes (IsRound u.tasks) u t → Rounds s t
round_then s u t before after = rounds_then s u t before (makes_as (IsRound u.tasks) (AreRounds u.tasks) u t (one_round u.tasks) after)

pub rounds_ended : (s u t : State) → Rounds s u → EndsUntold (AreRounds u.tasks) u t → EndsUntold (AreRounds s.tasks) s t
rounds_ended s u t before ends =
    untold_behind (AreRounds s.tasks) (AreRounds s.tasks) (AreRounds s.tasks) s u t (rounds_of_clone s.tasks) (rounds_join s.tasks) before (subst (λ (n : ℕ). EndsUntold (AreRounds n) u t) (same_tasks s u before) ends)

pub round_ended : (s u t : State) → Rounds s u → EndsUntold (IsRound u.tasks) u t → EndsUntold (AreRounds s.tasks) s t
round_ended s u t before ends = rounds_ended s u t before (untold_as (IsRound u.tasks) (AreRounds u.tasks) u t (one_round u.tasks) ends)

-- what holds of rounds that came to no end
pub of_none : {X : Type 0} (o : Option X) (P : Type 0) → ((x : X) → o ≡ Some x → ⊥) → IfNone o P → P
of_none None P none is = is
of_none (Some x) P none is = absurd (none x refl)

-- and of those that came to one
pub of_some : {X : Type 0} (o : Option X) (x : X) (P : X → Type 0) → o ≡ Some x → IfSome o P → P x
of_some None x P is holds = absurd (let e : None ≡ Some x = is in cc)
of_some (Some y) x P is holds = (let same : y ≡ x = cc in subst P same holds)

pub is_none : {X : Type 0} (o : Option X) → ((x : X) → o ≡ Some x → ⊥) → o ≡ None
is_none None none = refl
is_none (Some x) none = absurd (none x refl)

-- rounds were made in which no task did anything
pub record DonorRounds (s u : State) : Type 0 where
  pub made : Rounds s u
  pub left : tasks_left u ≡ tasks_left s

pub donor_rounds_begin : (s : State) → DonorRounds s s
donor_rounds_begin s = record { made = rounds_begin s; left = refl }

-- and one more, which wasn't idle and in which no task did anything
only_donor : (r : Round) (u t : State) → (r ≡ rounds.Idle → ⊥) → (r ≡ rounds.Tasks → ⊥) → RoundLeaves r u t → DonorLeaves false u t
only_donor rounds.Idle u t busy resting left = absurd (busy refl)
only_donor rounds.Donor u t busy resting left = left
only_donor rounds.Tasks u t busy resting left = absurd (resting refl)

pub donor_rounds_go : (r : Round) (s u t : State) → (r ≡ rounds.Idle → ⊥) → (r ≡ rounds.Tasks → ⊥) → DonorRounds s u → Makes (IsRound u.tasks) u t → RoundLeaves r u t → DonorRounds s t
donor_rounds_go r s u t busy resting before made left = record { made = round_then s u t before.made made; left = (only_donor r u t busy resting left).0 ∙ before.left }

pub donor_rounds_fewer : (r : Round) (u t : State) → (r ≡ rounds.Idle → ⊥) → (r ≡ rounds.Tasks → ⊥) → RoundLeaves r u t → donor_left t < donor_left u
donor_rounds_fewer r u t busy resting left = (only_donor r u t busy resting left).1

-- or one in which a task did something
pub tasks_fewer : (r : Round) (s u t : State) → r ≡ rounds.Tasks → DonorRounds s u → RoundLeaves r u t → tasks_left t < tasks_left s
tasks_fewer r s u t is before left =
    let fewer : tasks_left t < tasks_left u = subst (λ (x : Round). RoundLeaves x u t) is left in
    omega (arith, fewer, before.left)

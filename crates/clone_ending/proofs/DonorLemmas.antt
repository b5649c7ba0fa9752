-- A step of the donor leaves it less to do on its connections, or there was nothing to do.
use Rattle.std.proofs.Common.{ℕ, ◌≡◌, ◌≢◌, ◌∙◌, ◌+◌, ◌*◌, ◌^◌, ◌<◌, ◌≤◌, Bool, true, false, List, [], ◌∷◌, Option, Some, length, refl, ap, sym, subst, arith, inl, inr}
use Rattle.std.specs.Prelude.{count_by, not}
use Rattle.std.specs.List.{slice_get, sum_by}
use Rattle.std.specs.Option.{ForSome, option_map_or}
use Rattle.std.proofs.Math.Nat.{mul-le-mul_right}
use Rattle.std.proofs.lemmas.Bool.{and_parts, cases_Bool, not-true}
use Rattle.std.proofs.lemmas.List.{length-set}
use Rattle.std.proofs.lemmas.List.Sums.{count_by-le-length, sum_by-cons, sum_by-set}
use Rattle.std.proofs.lemmas.Option.{get_or_from_slice_get, slice_get_within}
use Rattle.clone_chunk.specs.Chunks.{is_free}
use Rattle.clone_session.specs.Cloning.{Session}
use Rattle.clone_serve.specs.Following.{call_in}
use Rattle.clone_serve.specs.Serving.{Begins, is_over}
use Rattle.clone_serve.specs.Stepping.{Goes}
use Rattle.clone_serve.specs.declared.doing.Doing.{Doing}
use Rattle.clone_serve.specs.declared.doing.Doing.TheVariants as doing
use Rattle.clone_serve.specs.declared.doing.Execution.{Execution}
use Rattle.clone_serve.specs.declared.doing.Work.{Work}
use Rattle.clone_serve.specs.declared.doing.Work.TheVariants as work
use Rattle.clone_serve.specs.declared.turn.ServeAnswer.{ServeAnswer}
use Rattle.clone_serve.specs.declared.turn.ServeAnswer.TheVariants as says
use Rattle.clone_serve.specs.declared.turn.ServeTurn.{ServeTurn}
use Rattle.clone_serve.specs.declared.turn.ServeTurn.TheVariants as turn
use Rattle.clone_network.specs.Connections.{Connection, RestsEnd, StepsBy, StepsEnd, finds_loss, is_open, is_serving, reaches_task, said_as, sent_behind}
use Rattle.clone_network.specs.Networks.{Network, StepsDonor, with_connection}
use Rattle.clone_network.specs.declared.donor_step.DonorStep.{DonorStep}
use Rattle.clone_network.specs.declared.donor_step.DonorStep.TheVariants as step
use Rattle.clone_engine.specs.Donor.{Donor}
use Rattle.clone_told.specs.Told.{gives}
use Rattle.clone_ending.specs.Service.{HasNumbers, a_chunk, donor_work, most_service, service_in, service_left, unclaimed, work_in}
use Rattle.clone_ending.specs.Unread.{donor_left, end_left}
use Rattle.clone_ending.proofs.ServiceLemmas.{Lowers, idles, left_of, lessens, plain, plain_most, serves_less}
use Rattle.clone_ending.proofs.Stepping.{at_end}
use Rattle.clone_ending.proofs.UnreadLemmas.{Begun, begins_begun, closes, doing_is, end_closed, end_read, found, lost_closed, over_closed, reads, steps_most, total, unread_is, waits}
use Rattle.clone_ending.proofs.WorkLemmas.{weighs}

-- ---- how much there is at most

work_most : (what : Work) → work_in what ≤ a_chunk
work_most work.Claim = omega arith
work_most (work.Weigh chunk) = omega arith
work_most (work.Read place true) = omega arith
work_most (work.Read place false) = omega arith
work_most (work.Archive place limit) = omega arith

service_most : (d : Doing) → service_in d ≤ a_chunk
service_most (doing.Serving run what) = work_most what
service_most other = omega arith

abbrev pub in_service : Connection → ℕ
in_service at = service_in at.doing

services_most : (connections : List Connection) → sum_by in_service connections ≤ length connections * a_chunk
services_most [] = omega arith
services_most (at ∷ rest) = omega (arith, sum_by-cons in_service at rest, services_most rest, service_most at.doing)

few_unclaimed : (d : Donor) → ForSome d.cloning.session HasNumbers → unclaimed d.cloning < 2 ^ 32
few_unclaimed d numbers =
    elim (found d.cloning.session) [
      | inl none ↦
          let all : unclaimed d.cloning ≡ 0 = ap (λ (o : Option Session). option_map_or (λ (s : Session). count_by is_free s.snap.chunks) o 0) none in
          omega (arith, all)
      | inr some ↦
          let s = some.0 in
          let all : unclaimed d.cloning ≡ count_by is_free s.snap.chunks = ap (λ (o : Option Session). option_map_or (λ (x : Session). count_by is_free x.snap.chunks) o 0) some.1 in
          let few : length s.snap.chunks < 2 ^ 32 = numbers s some.1 in
          omega (arith, all, few, count_by-le-length is_free s.snap.chunks)
    ]

service_few : (d : Donor) (n : Network) → ForSome d.cloning.session HasNumbers → service_left d n < most_service n
service_few d n numbers = omega (arith, few_unclaimed d numbers, services_most n.connections)

-- ---- all connections, when one has changed

service_total : (d t : Donor) (n : Network) (number : ℕ) (at after : Connection) → slice_get n.connections number ≡ Some at
    → service_left t (with_connection number after n) + left_of d (in_service at) ≡ service_left d n + left_of t (in_service after)
service_total d t n number at after here =
    let sum = sum_by-set in_service n.connections number after at (slice_get_within n.connections number at here) in
    omega (arith, sum, ap in_service (get_or_from_slice_get n.connections number at at here))

most_same : (n : Network) (number : ℕ) (after : Connection) → most_service (with_connection number after n) ≡ most_service n
most_same n number after = ap (λ (count : ℕ). (2 ^ 32 + count) * a_chunk) (length-set n.connections number after)

-- ---- a step of one end

-- WHAT COMES OF IT
pub data Came (d t : Donor) (at after : Connection) (answer : DonorStep) : Type 0 where
  fewer : end_left after < end_left at → Came d t at after answer
  lower : end_left after ≤ end_left at → left_of t (in_service after) < left_of d (in_service at) → Came d t at after answer
  rests : end_left after ≤ end_left at → left_of t (in_service after) ≤ left_of d (in_service at) → answer ≡ step.Served says.Idle → Came d t at after answer

free_none : (d : Doing) → is_serving d ≡ false → service_in d ≡ 0
free_none (doing.Serving run what) free = absurd (cc)
free_none other free = refl

pub serving_is : (d : Doing) → is_serving d ≡ true → (run : Execution) × (what : Work) × (d ≡ doing.Serving run what)
serving_is (doing.Serving run what) serving = (run, what, refl)
serving_is other serving = absurd (cc)

module _ (d t : Donor) (at after : Connection) (answer : DonorStep) (e : StepsEnd gives d t at after answer) where
  -- a loss is found, or the answer is what was served
  said : (given : ServeAnswer) → e.says ≡ given → finds_loss at e.says ≡ false → answer ≡ step.Served given
  said given is none = e.answers ∙ ap (λ (x : Bool). said_as x e.says) none ∙ ap step.Served is

  pub lost : finds_loss at e.says ≡ true → is_open after ≡ false
  lost loss = lost_closed after (ap (λ (x : Connection). x.found_lost) e.is ∙ loss)

  -- within an EXECUTE it goes from call to call
  pub goes_in : (run : Execution) (what : Work) → at.doing ≡ doing.Serving run what → Goes e.serves.steps.exchanges (doing.Serving run what) (turn.Ask (call_in run what)) (sent_behind (reaches_task at) at.to_task) e.serves.sent e.serves.doing e.says
  goes_in run what is =
      let s = e.serves.steps.is in
      let begins : Begins (doing.Serving run what) at.to_donor e.serves.left s.begun s.turn = subst (λ (x : Doing). Begins x at.to_donor e.serves.left s.begun s.turn) is s.begins in
      let asks = subst (λ (x : ServeTurn). Goes e.serves.steps.exchanges s.begun x (sent_behind (reaches_task at) at.to_task) e.serves.sent e.serves.doing e.says) begins.0 s.goes in
      subst (λ (x : Doing). Goes e.serves.steps.exchanges x (turn.Ask (call_in run what)) (sent_behind (reaches_task at) at.to_task) e.serves.sent e.serves.doing e.says) begins.2 asks

  pub in_execute : (run : Execution) (what : Work) → at.doing ≡ doing.Serving run what → Lowers (left_of d (plain what)) (left_of t (in_service after)) e.says
  in_execute run what is =
      let less = serves_less e.serves.steps.exchanges d t run what (sent_behind (reaches_task at) at.to_task) e.serves.sent e.serves.doing e.says (goes_in run what is) e.serves.steps.answers in
      subst (λ (x : Doing). Lowers (left_of d (plain what)) (left_of t (service_in x)) e.says) (sym (doing_is gives d t at after answer e)) less

  -- and before one
  out_of_execute : is_open at ≡ true → Begun at.to_donor e.serves.left e.serves.steps.is.begun e.serves.steps.is.turn → Came d t at after answer
  out_of_execute opens (reads less) = fewer (end_read at after opens (omega (arith, less, ap length (unread_is gives d t at after answer e))))
  out_of_execute opens (waits same is free) =
      let s = e.serves.steps.is in
      let end = at_end e.serves.steps.exchanges d t s.begun e.serves.doing s.turn (sent_behind (reaches_task at) at.to_task) e.serves.sent says.Idle e.says is s.goes e.serves.steps.answers in
      let none : in_service after ≡ 0 = free_none after.doing (ap is_serving (doing_is gives d t at after answer e ∙ end.1) ∙ free) in
      let kept : unclaimed t.cloning ≡ unclaimed d.cloning = ap (λ (x : Donor). unclaimed x.cloning) end.0 in
      elim (cases_Bool (finds_loss at e.says)) [
        | inl loss ↦ fewer (end_closed at after opens (lost loss))
        | inr no_loss ↦ rests (steps_most gives d t at after answer opens e) (omega (arith, none, kept)) (said says.Idle end.2 no_loss)
      ]
  out_of_execute opens (closes given same is over) =
      let s = e.serves.steps.is in
      let end = at_end e.serves.steps.exchanges d t s.begun e.serves.doing s.turn (sent_behind (reaches_task at) at.to_task) e.serves.sent given e.says is s.goes e.serves.steps.answers in
      fewer (end_closed at after opens (over_closed after (doing_is gives d t at after answer e ∙ end.1 ∙ over)))

  by_service : (run : Execution) (what : Work) → at.doing ≡ doing.Serving run what → is_open at ≡ true → Lowers (left_of d (plain what)) (left_of t (in_service after)) e.says → Came d t at after answer
  by_service run what is opens (lessens now) = lower (steps_most gives d t at after answer opens e) (omega (arith, now, plain_most what, ap service_in is))
  by_service run what is opens (idles now idle) =
      elim (cases_Bool (finds_loss at e.says)) [
        | inl loss ↦ fewer (end_closed at after opens (lost loss))
        | inr no_loss ↦ rests (steps_most gives d t at after answer opens e) (omega (arith, now, plain_most what, ap service_in is)) (said says.Idle idle no_loss)
      ]

  pub end_came : is_open at ≡ true → Came d t at after answer
  end_came opens =
      elim (cases_Bool (is_serving at.doing)) [
        | inl serving ↦
            let some = serving_is at.doing serving in
            by_service some.0 some.1 some.2 opens (in_execute some.0 some.1 some.2)
        | inr free ↦
            let s = e.serves.steps.is in
            let going = not-true (is_over at.doing) (and_parts (not at.found_lost) (not (is_over at.doing)) opens).1 in
            out_of_execute opens (begins_begun at.doing at.to_donor e.serves.left s.begun s.turn going free s.begins)
      ]

-- ---- a step on one of all connections

module _ (d t : Donor) (n m : Network) (number : ℕ) (answer : DonorStep) (numbers : ForSome t.cloning.session HasNumbers) where
  -- less is left, or there was nothing to do and no more is
  pub data Leaves : Type 0 where
    leaves_less : donor_work t m < donor_work d n → Leaves
    leaves_same : donor_work t m ≤ donor_work d n → answer ≡ step.Served says.Idle → Leaves

  module _ (at after : Connection) (here : slice_get n.connections number ≡ Some at) (is : m ≡ with_connection number after n) where
    ends : donor_left m + end_left at ≡ donor_left n + end_left after
    ends = ap (λ (x : Network). donor_left x + end_left at) is ∙ total n number at after here

    services : service_left t m + left_of d (in_service at) ≡ service_left d n + left_of t (in_service after)
    services = ap (λ (x : Network). service_left t x + left_of d (in_service at)) is ∙ service_total d t n number at after here

    bound : most_service m ≡ most_service n
    bound = ap most_service is ∙ most_same n number after

    all_is : donor_work t m ≡ donor_left m * most_service n + service_left t m
    all_is = ap (λ (most : ℕ). donor_left m * most + service_left t m) bound

    pub fewer_less : end_left after < end_left at → donor_work t m < donor_work d n
    fewer_less less =
        let few : service_left t m < most_service n = omega (arith, service_few t m numbers, bound) in
        let all = weighs (donor_left m) (donor_left n) (most_service n) (service_left t m) (service_left d n) (omega (arith, ends, less)) few in
        omega (arith, all_is, all)

    pub lower_less : end_left after ≤ end_left at → left_of t (in_service after) < left_of d (in_service at) → donor_work t m < donor_work d n
    lower_less most less =
        let unread = mul-le-mul_right {m = donor_left m} {n = donor_left n} (most_service n) (omega (arith, ends, most)) in
        omega (arith, all_is, unread, services, less)

    came_leaves : Came d t at after answer → Leaves
    came_leaves (fewer less) = leaves_less (fewer_less less)
    came_leaves (lower most less) = leaves_less (lower_less most less)
    came_leaves (rests most same idle) =
        let unread = mul-le-mul_right {m = donor_left m} {n = donor_left n} (most_service n) (omega (arith, ends, most)) in
        leaves_same (omega (arith, all_is, unread, services, same)) idle

  pub donor_leaves : StepsDonor gives d t number n m answer → Leaves
  donor_leaves steps =
      elim (found (slice_get n.connections number)) [
        | inl none ↦
            let same : (t ≡ d) × (m ≡ n) × (answer ≡ step.Served says.Idle) = rw none at steps in
            let all : donor_work t m ≡ donor_work d n = λ i. donor_work (same.0 i) (same.1 i) in
            leaves_same (omega (arith, all)) same.2
        | inr some ↦
            let at = some.0 in
            let taken : (after : Connection) × StepsBy (is_open at) gives d t at after answer × (m ≡ with_connection number after n) = rw some.1 at steps in
            elim (cases_Bool (is_open at)) [
              | inl opens ↦ came_leaves at taken.0 some.1 taken.2 (end_came d t at taken.0 answer (rw opens at taken.1) opens)
              | inr closed ↦
                  let r : RestsEnd d t at taken.0 answer = rw closed at taken.1 in
                  let end : end_left taken.0 ≡ end_left at = ap end_left r.is in
                  let handed : left_of t (in_service taken.0) ≡ left_of d (in_service at) = λ i. left_of (r.donor i) (in_service (r.is i)) in
                  came_leaves at taken.0 some.1 taken.2 (rests (omega (arith, end)) (omega (arith, handed)) r.answers)
            ]
      ]

  pub donor_busy : answer ≢ step.Served says.Idle → StepsDonor gives d t number n m answer → donor_work t m < donor_work d n
  donor_busy busy steps = by (donor_leaves steps)
    where
      by : Leaves → donor_work t m < donor_work d n
      by (leaves_less less) = less
      by (leaves_same same idle) = absurd (busy idle)

  pub donor_rests : StepsDonor gives d t number n m answer → donor_work t m ≤ donor_work d n
  donor_rests steps = by (donor_leaves steps)
    where
      by : Leaves → donor_work t m ≤ donor_work d n
      by (leaves_less less) = omega (arith, less)
      by (leaves_same same idle) = same

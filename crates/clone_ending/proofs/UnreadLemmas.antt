-- A step of the donor on one of its connections leaves less of them.
use Rattle.std.proofs.Common.{ℕ, ◌≡◌, ◌≢◌, ◌∙◌, ◌+◌, ◌<◌, ◌≤◌, Bool, true, false, List, [], ◌∷◌, ◌++◌, ◌⊎◌, Option, None, Some, length, refl, ap, sym, arith, inl, inr}
use Rattle.std.specs.Prelude.{◌&&◌, not}
use Rattle.std.specs.List.{slice_get}
use Rattle.std.proofs.lemmas.Bool.{and_parts, cases_Bool, not-true}
use Rattle.std.proofs.lemmas.List.{length-append}
use Rattle.std.proofs.lemmas.List.Sums.{sum_by-set}
use Rattle.std.proofs.lemmas.Option.{get_or_from_slice_get, slice_get_within}
use Rattle.clone_session.specs.declared.caller.Caller.{Caller}
use Rattle.byteorder.specs.Endian.{big_bytes}
use Rattle.byteorder.specs.Numbers.{length-bytes_high_first}
use Rattle.clone_wire.specs.Spelling.{code_of, payload, spelling}
use Rattle.clone_wire.specs.declared.frame.Frame.{Frame}
use Rattle.clone_calls.specs.declared.answer.DonorAnswer.{DonorAnswer}
use Rattle.clone_calls.specs.declared.call.DonorCall.{DonorCall}
use Rattle.clone_serve.specs.Serving.{Begins, TakesCommand, is_over}
use Rattle.clone_serve.specs.Stepping.{Goes}
use Rattle.clone_serve.specs.Telling.{Exchange}
use Rattle.clone_serve.specs.declared.doing.Doing.{Doing}
use Rattle.clone_serve.specs.declared.doing.Doing.TheVariants as doing
use Rattle.clone_serve.specs.declared.turn.ServeAnswer.{ServeAnswer}
use Rattle.clone_serve.specs.declared.turn.ServeAnswer.TheVariants as says
use Rattle.clone_serve.specs.declared.turn.ServeTurn.{ServeTurn}
use Rattle.clone_serve.specs.declared.turn.ServeTurn.TheVariants as turn
use Rattle.clone_network.specs.Connections.{Connection, RestsEnd, StepsBy, StepsEnd, finds_loss, is_open, is_serving, said_as}
use Rattle.clone_network.specs.Networks.{Network, StepsDonor, with_connection}
use Rattle.clone_network.specs.declared.donor_step.DonorStep.{DonorStep}
use Rattle.clone_network.specs.declared.donor_step.DonorStep.TheVariants as step
use Rattle.clone_ending.specs.Unread.{donor_left, end_left, is_serving_on}

-- a frame has bytes
spelling_some : (frame : Frame) → 1 ≤ length (spelling frame)
unfolding spelling
spelling_some frame = omega (arith, length-append (big_bytes 1 (code_of frame)) (big_bytes 4 (length (payload frame)) ++ payload frame), length-bytes_high_first 1 (code_of frame))

-- ---- how a step begins

pub data Begun (received left : List ℕ) (begun : Doing) (t : ServeTurn) : Type 0 where
  reads : length left < length received → Begun received left begun t
  waits : left ≡ received → t ≡ turn.Done says.Idle → is_serving begun ≡ false → Begun received left begun t
  closes : (answer : ServeAnswer) → left ≡ received → t ≡ turn.Done answer → begun ≡ doing.Over → Begun received left begun t

takes_begun : (bound : Option Caller) (received left : List ℕ) (d begun : Doing) (t : ServeTurn) → is_serving d ≡ false → TakesCommand bound received left d begun t → Begun received left begun t
takes_begun bound received left d begun (turn.Ask asked) free takes =
    reads (omega (arith, ap length takes.taken, length-append (spelling takes.command) left, spelling_some takes.command))
takes_begun bound received left d begun (turn.Done says.Idle) free takes = waits takes.2 refl (ap is_serving takes.3 ∙ free)
takes_begun bound received left d begun (turn.Done (says.Garbled kept)) free takes = closes (says.Garbled kept) takes.1 refl takes.2
takes_begun bound received left d begun (turn.Done says.NoMemory) free takes = closes says.NoMemory takes.0 refl takes.1
takes_begun bound received left d begun (turn.Done other) free takes = absurd takes

pub begins_begun : (d : Doing) (received left : List ℕ) (begun : Doing) (t : ServeTurn) → is_over d ≡ false → is_serving d ≡ false → Begins d received left begun t → Begun received left begun t
begins_begun doing.New received left begun t on free begins = takes_begun None received left doing.New begun t refl begins
begins_begun (doing.Ready caller) received left begun t on free begins = takes_begun (Some caller) received left (doing.Ready caller) begun t refl begins
begins_begun (doing.Serving run work) received left begun t on free begins = absurd (cc)
begins_begun doing.Over received left begun t on free begins = absurd (cc)
begins_begun (doing.Telling caller) received left begun t on free begins = waits begins.1 begins.0 (ap is_serving begins.2)
begins_begun (doing.Starting run) received left begun t on free begins = waits begins.1 begins.0 (ap is_serving begins.2)
begins_begun doing.Leaving received left begun t on free begins = waits begins.1 begins.0 (ap is_serving begins.2)

begun_most : (received left : List ℕ) (begun : Doing) (t : ServeTurn) → Begun received left begun t → length left ≤ length received
begun_most received left begun t (reads less) = omega (arith, less)
begun_most received left begun t (waits same is free) = omega (arith, ap length same)
begun_most received left begun t (closes answer same is over) = omega (arith, ap length same)

begins_most : (d : Doing) (received left : List ℕ) (begun : Doing) (t : ServeTurn) → Begins d received left begun t → length left ≤ length received
begins_most doing.New received left begun t begins = begun_most received left begun t (takes_begun None received left doing.New begun t refl begins)
begins_most (doing.Ready caller) received left begun t begins = begun_most received left begun t (takes_begun (Some caller) received left (doing.Ready caller) begun t refl begins)
begins_most (doing.Serving run work) received left begun t begins = omega (arith, ap length begins.1)
begins_most doing.Over received left begun t begins = omega (arith, ap length begins.1)
begins_most (doing.Telling caller) received left begun t begins = omega (arith, ap length begins.1)
begins_most (doing.Starting run) received left begun t begins = omega (arith, ap length begins.1)
begins_most doing.Leaving received left begun t begins = omega (arith, ap length begins.1)

answer_of : ServeAnswer → ServeTurn → ServeAnswer
answer_of other (turn.Ask asked) = other
answer_of other (turn.Done answer) = answer

-- a step that has its answer at once ends with it
pub at_once : (exchanges : List Exchange) (d : Doing) (t : ServeTurn) (given : ServeAnswer) (sent_old sent_new : List ℕ) (after : Doing) (answer : ServeAnswer) → t ≡ turn.Done given → Goes exchanges d t sent_old sent_new after answer → (answer ≡ given) × (after ≡ d)
at_once [] d t given sent_old sent_new after answer is goes =
    let same : turn.Done answer ≡ turn.Done given = sym goes.0 ∙ is in
    let answers : answer ≡ given = cc in (answers, goes.2)
at_once (exchange ∷ exchanges) d t given sent_old sent_new after answer is goes =
    let wrong : turn.Ask exchange.0 ≡ turn.Done given = sym goes.0 ∙ is in
    absurd (cc)

-- ---- the donor's end of a connection

open_left : (at : Connection) → is_open at ≡ true → end_left at ≡ length at.to_donor + 1
open_left at opens = rw opens refl

closed_left : (at : Connection) → is_open at ≡ false → end_left at ≡ 0
closed_left at closed = rw closed refl

pub end_most : (at after : Connection) → is_open at ≡ true → length after.to_donor ≤ length at.to_donor → end_left after ≤ end_left at
end_most at after opens most =
    elim (cases_Bool (is_open after)) [
      | inl on ↦ omega (arith, most, open_left at opens, open_left after on)
      | inr closed ↦ omega (arith, closed_left after closed)
    ]

pub end_read : (at after : Connection) → is_open at ≡ true → length after.to_donor < length at.to_donor → end_left after < end_left at
end_read at after opens less =
    elim (cases_Bool (is_open after)) [
      | inl on ↦ omega (arith, less, open_left at opens, open_left after on)
      | inr closed ↦ omega (arith, open_left at opens, closed_left after closed)
    ]

pub end_closed : (at after : Connection) → is_open at ≡ true → is_open after ≡ false → end_left after < end_left at
end_closed at after opens closed = omega (arith, open_left at opens, closed_left after closed)

pub lost_closed : (after : Connection) → after.found_lost ≡ true → is_open after ≡ false
lost_closed after lost = rw lost refl

and_false : (a : Bool) → (a && false) ≡ false
and_false true = refl
and_false false = refl

pub over_closed : (after : Connection) → after.doing ≡ doing.Over → is_open after ≡ false
over_closed after over = rw over (and_false (not after.found_lost))

pub found : {X : Type 0} (o : Option X) → (o ≡ None) ⊎ ((x : X) × (o ≡ Some x))
found None = inl refl
found (Some x) = inr (x, refl)

pub total : (n : Network) (number : ℕ) (at after : Connection) → slice_get n.connections number ≡ Some at → donor_left (with_connection number after n) + end_left at ≡ donor_left n + end_left after
total n number at after here =
    let sum = sum_by-set end_left n.connections number after at (slice_get_within n.connections number at here) in
    omega (arith, sum, ap end_left (get_or_from_slice_get n.connections number at at here))

module _ {A : Type 0} (gives : A → DonorCall → DonorAnswer → A → Type 0) (a b : A) where
  pub unread_is : (at after : Connection) (answer : DonorStep) → (e : StepsEnd gives a b at after answer) → after.to_donor ≡ e.serves.left
  unread_is at after answer e = ap (λ (x : Connection). x.to_donor) e.is ∙ ap (λ (x : Connection). x.to_donor) e.serves.is

  pub doing_is : (at after : Connection) (answer : DonorStep) → (e : StepsEnd gives a b at after answer) → after.doing ≡ e.serves.doing
  doing_is at after answer e = ap (λ (x : Connection). x.doing) e.is ∙ ap (λ (x : Connection). x.doing) e.serves.is

  pub steps_most : (at after : Connection) (answer : DonorStep) → is_open at ≡ true → StepsEnd gives a b at after answer → end_left after ≤ end_left at
  steps_most at after answer opens e =
      let s = e.serves.steps.is in
      let most = begins_most at.doing at.to_donor e.serves.left s.begun s.turn s.begins in
      end_most at after opens (omega (arith, most, ap length (unread_is at after answer e)))

  ends_less : (at after : Connection) (answer : DonorStep) → is_open at ≡ true → answer ≢ step.Served says.Idle → (e : StepsEnd gives a b at after answer)
      → Begun at.to_donor e.serves.left e.serves.steps.is.begun e.serves.steps.is.turn → end_left after < end_left at
  ends_less at after answer opens busy e (reads less) = end_read at after opens (omega (arith, less, ap length (unread_is at after answer e)))
  ends_less at after answer opens busy e (waits same is free) =
      let s = e.serves.steps.is in
      let idle = (at_once e.serves.steps.exchanges s.begun s.turn says.Idle _ _ e.serves.doing e.says is s.goes).0 in
      elim (cases_Bool (finds_loss at e.says)) [
        | inl lost ↦ end_closed at after opens (lost_closed after (ap (λ (x : Connection). x.found_lost) e.is ∙ lost))
        | inr none ↦ absurd (busy (e.answers ∙ ap (λ (x : Bool). said_as x e.says) none ∙ ap step.Served idle))
      ]
  ends_less at after answer opens busy e (closes given same is over) =
      let s = e.serves.steps.is in
      let now = (at_once e.serves.steps.exchanges s.begun s.turn given _ _ e.serves.doing e.says is s.goes).1 in
      end_closed at after opens (over_closed after (doing_is at after answer e ∙ now ∙ over))

  pub end_less : (at after : Connection) (answer : DonorStep) → is_serving at.doing ≡ false → answer ≢ step.Served says.Idle → StepsBy (is_open at) gives a b at after answer → end_left after < end_left at
  end_less at after answer free busy steps =
      elim (cases_Bool (is_open at)) [
        | inl opens ↦
            let e : StepsEnd gives a b at after answer = rw opens at steps in
            let s = e.serves.steps.is in
            let going = not-true (is_over at.doing) (and_parts (not at.found_lost) (not (is_over at.doing)) opens).1 in
            ends_less at after answer opens busy e (begins_begun at.doing at.to_donor e.serves.left s.begun s.turn going free s.begins)
        | inr closed ↦
            let r : RestsEnd a b at after answer = rw closed at steps in
            absurd (busy r.answers)
      ]

  end_keeps : (at after : Connection) (answer : DonorStep) → StepsBy (is_open at) gives a b at after answer → end_left after ≤ end_left at
  end_keeps at after answer steps =
      elim (cases_Bool (is_open at)) [
        | inl opens ↦ steps_most at after answer opens (rw opens at steps)
        | inr closed ↦
            let r : RestsEnd a b at after answer = rw closed at steps in
            omega (arith, ap end_left r.is)
      ]

  -- ---- all connections

  pub donor_less : (n m : Network) (number : ℕ) (answer : DonorStep) → is_serving_on n.connections number ≡ false → answer ≢ step.Served says.Idle → StepsDonor gives a b number n m answer → donor_left m < donor_left n
  donor_less n m number answer free busy steps =
      elim (found (slice_get n.connections number)) [
        | inl none ↦
            let same : (b ≡ a) × (m ≡ n) × (answer ≡ step.Served says.Idle) = rw none at steps in
            absurd (busy same.2)
        | inr some ↦
            let at = some.0 in
            let taken : (after : Connection) × StepsBy (is_open at) gives a b at after answer × (m ≡ with_connection number after n) = rw some.1 at steps in
            let rests : is_serving at.doing ≡ false = rw some.1 at free in
            let less = end_less at taken.0 answer rests busy taken.1 in
            omega (arith, less, total n number at taken.0 some.1, ap donor_left taken.2)
      ]

  pub donor_most : (n m : Network) (number : ℕ) (answer : DonorStep) → StepsDonor gives a b number n m answer → donor_left m ≤ donor_left n
  donor_most n m number answer steps =
      elim (found (slice_get n.connections number)) [
        | inl none ↦
            let same : (b ≡ a) × (m ≡ n) × (answer ≡ step.Served says.Idle) = rw none at steps in
            omega (arith, ap donor_left same.1)
        | inr some ↦
            let at = some.0 in
            let taken : (after : Connection) × StepsBy (is_open at) gives a b at after answer × (m ≡ with_connection number after n) = rw some.1 at steps in
            let most = end_keeps at taken.0 answer taken.1 in
            omega (arith, most, total n number at taken.0 some.1, ap donor_left taken.2)
      ]

  pub donor_seats : (n m : Network) (number : ℕ) (answer : DonorStep) → StepsDonor gives a b number n m answer → m.seats ≡ n.seats
  donor_seats n m number answer steps =
      elim (found (slice_get n.connections number)) [
        | inl none ↦
            let same : (b ≡ a) × (m ≡ n) × (answer ≡ step.Served says.Idle) = rw none at steps in
            ap (λ (x : Network). x.seats) same.1
        | inr some ↦
            let at = some.0 in
            let taken : (after : Connection) × StepsBy (is_open at) gives a b at after answer × (m ≡ with_connection number after n) = rw some.1 at steps in
            ap (λ (x : Network). x.seats) taken.2
      ]

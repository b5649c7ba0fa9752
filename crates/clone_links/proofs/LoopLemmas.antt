-- What a server did by its calls, from one place of the loop to the next.
use Rattle.std.proofs.Common.{◌≡◌, ◌≤◌, ℕ, Bool, true, List, [], ◌∷◌, ◌++◌, Result, OnOk, IfErr, refl, sym, subst}
use Rattle.std.proofs.lemmas.List.{append-nil}
use Rattle.std.proofs.lemmas.Result.{IfErr-weaker, on_ok_weaker}
use Rattle.clone_outside.specs.Bytes.{TakesSome, appended}
use Rattle.clone_turn.specs.Seats.{CellModel, IsOf, MakesCall}
use Rattle.clone_turn.proofs.WorkedLemmas.{makes_of, makes_one, worked_one}
use Rattle.clone_calls.specs.Answering.{IsAnswerTo}
use Rattle.clone_calls.specs.declared.answer.DonorAnswer.{DonorAnswer}
use Rattle.clone_calls.specs.declared.call.DonorCall.{DonorCall}
use Rattle.clone_serve.specs.Stepping.{IsCarriedOut, Steps}
use Rattle.clone_serve.specs.declared.doing.Doing.{Doing}
use Rattle.clone_serve.specs.declared.doing.Doing.TheVariants.{New}
use Rattle.clone_serve.specs.declared.turn.ServeAnswer.{ServeAnswer}
use Rattle.clone_machine.specs.Running.{JobEntry}
use Rattle.clone_machine.specs.Sharing as machine
use Rattle.clone_machine.specs.Sharing.{SharedDonor}
use Rattle.clone_machine.specs.declared.calls.JobAnswer.{JobAnswer}
use Rattle.clone_machine.specs.declared.calls.JobAnswer.TheVariants as job_answer
use Rattle.clone_machine.specs.declared.calls.JobCall.{JobCall}
use Rattle.clone_machine.specs.declared.calls.JobCall.TheVariants as job
use Rattle.clone_links.specs.Calling.{AreCalls, Gives, IsOneCall, JobSeat, Server, Works}
use Rattle.clone_links.specs.Ending.{EndsWith, IsHalt, IsOfLink, RoseIfLost}
use Rattle.clone_links.specs.Serving.{IsServed}
use Rattle.clone_links.specs.Turning.{IsLast, IsTurn, TakesIn}
use Rattle.clone_links.specs.declared.end.ServeEnd.{ServeEnd}
use Rattle.clone_links.specs.declared.end.ServeEnd.TheVariants.{Halted}
use Rattle.clone_links.proofs.CallLemmas.{all_given, exchange_made, halted_made, works_as, works_more, works_none}
use Rattle.clone_links.proofs.CauseLemmas.{IsEndOf, loss_later, step_cause, step_cause_in}
use Rattle.clone_links.proofs.TurnLemmas.{Told, aside_turn, comes_last, comes_turn, is_served, last_of, last_then, no_turn, step_last, step_turn, turn_then}

-- ---- one call

module _ (first : SharedDonor) (v w : JobSeat) (call : JobCall) (answer : JobAnswer) (made : MakesCall machine.Steps first v call answer w) where
  pub called : (s t : Server) → s.seat ≡ v → t.seat ≡ w → t.cell ≡ s.cell → Works (IsOneCall call answer) s t
  called s t before after same = (
    same,
    worked_one machine.Steps first (IsOneCall call answer) s.seat t.seat call answer
        (subst (λ (x : JobSeat). MakesCall machine.Steps first x call answer t.seat) (sym before) (subst (λ (x : JobSeat). MakesCall machine.Steps first v call answer x) (sym after) made))
        (λ e step. (e, refl, step.1, step.2)),
  )

  pub of_after : (cell : CellModel SharedDonor) → IsOf cell v → IsOf cell w
  of_after cell of = let one = makes_one machine.Steps first v w call answer made in makes_of cell v w (one.0 ∷ []) one.1 of

  pub step_made : (s : SharedDonor) × (t : SharedDonor) × machine.Steps s call answer t
  step_made = let one = makes_one machine.Steps first v w call answer made in (one.2.0, one.0.after, one.2.3)

-- one call of the donor
module _ (s t : Server) (asked : DonorCall) (given : DonorAnswer) (answer : JobAnswer) (is : answer ≡ job_answer.Donor given) (step : (x : SharedDonor) × (y : SharedDonor) × machine.Steps x (job.Donor asked) answer y) where
  pub asked_fits : IsAnswerTo asked given
  asked_fits = (subst (λ (a : JobAnswer). machine.Steps step.0 (job.Donor asked) a step.1) is step.2).answers

  pub asked_one : Works (IsOneCall (job.Donor asked) answer) s t → Gives s asked given t
  asked_one one =
      works_as (IsOneCall (job.Donor asked) answer) (AreCalls ((asked, given) ∷ [])) s t one
      (λ made is_one. exchange_made asked given made (subst (λ (a : JobAnswer). IsOneCall (job.Donor asked) a made) is is_one) asked_fits)

-- ---- a step, whose frames are sent

module _ (s t : Server) (d e : Doing) (left rest before bytes : List ℕ) (r0 r1 q0 q1 : Told) (says : ServeAnswer) (none : before ≡ []) (same : r1 ≡ r0) (steps : Steps Gives s t d left rest before bytes e says) where
  abbrev stepped : Steps Gives s t d left rest [] bytes e says
  stepped = subst (λ (l : List ℕ). Steps Gives s t d left rest l bytes e says) none steps

  pub step_turns : IsCarriedOut says → q1 ≡ appended q0 bytes → Works (IsTurn d e left rest r0 r1 q0 q1) s t
  step_turns carried all =
      subst (λ (r : Told). Works (IsTurn d e left rest r0 r q0 q1) s t) (sym same)
      (works_as (AreCalls stepped.exchanges) (IsTurn d e left rest r0 r0 q0 q1) s t (all_given s t stepped.exchanges stepped.answers)
      (λ made calls. step_turn d e left rest bytes r0 q0 q1 says stepped.exchanges stepped.is made calls carried all))

  pub step_lasts : (end : ServeEnd) → IsEndOf says end → TakesSome q0 q1 bytes → Works (IsLast end d left r0 r1 q0 q1) s t
  step_lasts end of some =
      subst (λ (r : Told). Works (IsLast end d left r0 r q0 q1) s t) (sym same)
      (works_as (AreCalls stepped.exchanges) (IsLast end d left r0 r0 q0 q1) s t (all_given s t stepped.exchanges stepped.answers)
      (λ made calls.
      step_last d e left rest bytes r0 q0 q1 says stepped.exchanges stepped.is end made calls
      (step_cause stepped.exchanges d e left rest [] bytes says stepped.is calls.answered end made of)
      (step_cause_in stepped.exchanges d e left rest [] bytes says stepped.is calls.answered end of) some))

-- ---- a turn

halt_last : (made : List JobEntry) → IsOneCall job.Halted (job_answer.Halted true) made → EndsWith IsHalt made
halt_last made one = ([], one.0, one.1, (one.2, one.3))

pub halted_lasts : (s t : Server) (halted : Bool) (d : Doing) (left : List ℕ) (r q : Told) → halted ≡ true → Works (IsOneCall job.Halted (job_answer.Halted halted)) s t → Works (IsLast Halted d left r r q q) s t
halted_lasts s t halted d left r q is a =
    works_as (IsOneCall job.Halted (job_answer.Halted true)) (IsLast Halted d left r r q q) s t (subst (λ (b : Bool). Works (IsOneCall job.Halted (job_answer.Halted b)) s t) is a)
    (λ made one. last_of Halted d d left left r r q q made (aside_turn d left r q made (halted_made true made one)) (halt_last made one) tt)

module _ (s t u : Server) (halted : Bool) (d : Doing) (l : List ℕ) (r0 r1 q0 q1 : Told) (a : Works (IsOneCall job.Halted (job_answer.Halted halted)) s t) where
  pub aside_then : (e : Doing) (m : List ℕ) → Works (IsTurn d e l m r0 r1 q0 q1) t u → Works (IsTurn d e l m r0 r1 q0 q1) s u
  aside_then e m b =
      works_more (IsOneCall job.Halted (job_answer.Halted halted)) (IsTurn d e l m r0 r1 q0 q1) (IsTurn d e l m r0 r1 q0 q1) s t u a b
      (λ xs ys one turn. turn_then d d e l l m r0 r0 r1 q0 q0 q1 xs ys (aside_turn d l r0 q0 xs (halted_made halted xs one)) turn)

  pub aside_last : (end : ServeEnd) → Works (IsLast end d l r0 r1 q0 q1) t u → Works (IsLast end d l r0 r1 q0 q1) s u
  aside_last end b =
      works_more (IsOneCall job.Halted (job_answer.Halted halted)) (IsLast end d l r0 r1 q0 q1) (IsLast end d l r0 r1 q0 q1) s t u a b
      (λ xs ys one last. last_then end d d l l r0 r0 r1 q0 q0 q1 xs ys (aside_turn d l r0 q0 xs (halted_made halted xs one)) last)

module _ (s t : Server) (d e : Doing) (l m came : List ℕ) (r0 r1 r2 q0 q1 q2 : Told) (a : Works (IsTurn d e l m r0 r1 q0 q1) s t) (new : r2 ≡ appended r1 came) (same : q2 ≡ q1) where
  pub then_comes : (rest : List ℕ) → rest ≡ m ++ came → Works (IsTurn d e l rest r0 r2 q0 q2) s t
  then_comes rest is =
      subst (λ (q : Told). Works (IsTurn d e l rest r0 r2 q0 q) s t) (sym same)
      (works_as (IsTurn d e l m r0 r1 q0 q1) (IsTurn d e l rest r0 r2 q0 q1) s t a
      (λ made turn. subst (IsTurn d e l rest r0 r2 q0 q1) (append-nil made) (turn_then d e e l m rest r0 r1 r2 q0 q1 q1 made [] turn (comes_turn e m came rest r1 r2 q1 new is))))

  pub then_ends : (end : ServeEnd) → IsOfLink end → Works (IsLast end d l r0 r2 q0 q2) s t
  then_ends end of =
      subst (λ (q : Told). Works (IsLast end d l r0 r2 q0 q) s t) (sym same)
      (works_as (IsTurn d e l m r0 r1 q0 q1) (IsLast end d l r0 r2 q0 q1) s t a
      (λ made turn. subst (IsLast end d l r0 r2 q0 q1) (append-nil made) (last_then end d e l m r0 r1 r2 q0 q1 q1 made [] turn (comes_last end e m came r1 r2 q1 of new))))

-- what is left of a turn is to take bytes in
module _ (s t u : Server) (halted : Bool) (d e : Doing) (l m rest : List ℕ) (r0 r1 r2 q0 q1 q2 : Told) (looks : Works (IsOneCall job.Halted (job_answer.Halted halted)) s t) (goes : Works (IsTurn d e l m r0 r1 q0 q1) t u) (result : Result (Unit {0}) ServeEnd) (takes : TakesIn r1 m result r2 rest) (same : q2 ≡ q1) where
  pub took_turns : OnOk result (Works (IsTurn d e l rest r0 r2 q0 q2) s u)
  took_turns =
      on_ok_weaker result (λ is. aside_then s t u halted d l r0 r2 q0 q2 looks e rest (then_comes t u d e l m takes.0 r0 r1 r2 q0 q1 q2 goes takes.1 same rest is)) takes.2

  pub took_lasts : IfErr result IsOfLink → IfErr result (λ (end : ServeEnd). Works (IsLast end d l r0 r2 q0 q2) s u)
  took_lasts of_link =
      IfErr-weaker result IsOfLink (λ (end : ServeEnd). Works (IsLast end d l r0 r2 q0 q2) s u)
      (λ end of. aside_last s t u halted d l r0 r2 q0 q2 looks end (then_ends t u d e l m takes.0 r0 r1 r2 q0 q1 q2 goes takes.1 same end of)) of_link

pub took_loss : (result : Result (Unit {0}) ServeEnd) (a b c : ℕ) → a ≤ b → IfErr result (λ (end : ServeEnd). RoseIfLost end b c) → IfErr result (λ (end : ServeEnd). RoseIfLost end a c)
took_loss result a b c low lost = IfErr-weaker result (λ (end : ServeEnd). RoseIfLost end b c) (λ (end : ServeEnd). RoseIfLost end a c) (λ end rose. loss_later end a b c low rose) lost

-- ---- the loop

pub begun : (s : Server) (d : Doing) (left : List ℕ) (r q : Told) → d ≡ New → left ≡ [] → Works (IsTurn New d [] left r r q q) s s
begun s d left r q new none =
    subst (λ (e : Doing). Works (IsTurn New e [] left r r q q) s s) (sym new)
    (subst (λ (l : List ℕ). Works (IsTurn New New [] l r r q q) s s) (sym none) (works_none (IsTurn New New [] [] r r q q) s (no_turn New [] r q)))

module _ (s t u : Server) (e : Doing) (m : List ℕ) (r0 r1 r2 q0 q1 q2 : Told) (a : Works (IsTurn New e [] m r0 r1 q0 q1) s t) where
  pub turns_on : (f : Doing) (n : List ℕ) → Works (IsTurn e f m n r1 r2 q1 q2) t u → Works (IsTurn New f [] n r0 r2 q0 q2) s u
  turns_on f n b =
      works_more (IsTurn New e [] m r0 r1 q0 q1) (IsTurn e f m n r1 r2 q1 q2) (IsTurn New f [] n r0 r2 q0 q2) s t u a b
      (λ xs ys turn next. turn_then New e f [] m n r0 r1 r2 q0 q1 q2 xs ys turn next)

  pub served_by : (end : ServeEnd) → Works (IsLast end e m r1 r2 q1 q2) t u → Works (IsServed end r0 r2 q0 q2) s u
  served_by end b =
      works_more (IsTurn New e [] m r0 r1 q0 q1) (IsLast end e m r1 r2 q1 q2) (IsServed end r0 r2 q0 q2) s t u a b
      (λ xs ys turn last. is_served end r0 r2 q0 q2 (xs ++ ys) (last_then end New e [] m r0 r1 r2 q0 q1 q2 xs ys turn last))

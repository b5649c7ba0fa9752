-- A STEP OF THE DONOR THAT FINDS NOTHING TO DO leaves it and its connections as they were.
use Rattle.std.proofs.Common.{ℕ, ◌≡◌, ◌∙◌, ◌∷◌, [], List, Bool, true, false, Option, Some, None, MatchOption, set, refl, ap, sym, subst, inl, inr}
use Rattle.std.specs.Prelude.{not, slice_get}
use Rattle.std.specs.List.{AllByRecursion}
use Rattle.std.specs.Option.{option_map_or}
use Rattle.std.proofs.lemmas.Bool.{and_parts, both_ways, cases_Bool, not-true}
use Rattle.std.proofs.lemmas.List.{set-get_or}
use Rattle.std.proofs.lemmas.Option.{get_or_from_slice_get}
use Rattle.clone_session.specs.declared.caller.Caller.{Caller}
use Rattle.clone_serve.specs.Serving.{Begins, TakesCommand, is_over}
use Rattle.clone_serve.specs.Stepping.{GivesAll, Goes}
use Rattle.clone_serve.specs.Telling.{Exchange}
use Rattle.clone_serve.specs.declared.doing.Doing.{Doing}
use Rattle.clone_serve.specs.declared.doing.Doing.TheVariants.{New, Ready, Serving, Over, Telling, Starting, Leaving}
use Rattle.clone_serve.specs.declared.doing.Execution.{Execution}
use Rattle.clone_serve.specs.declared.doing.Work.{Work}
use Rattle.clone_serve.specs.declared.doing.Work.TheVariants.{Archive, Claim, Read, Weigh}
use Rattle.clone_serve.specs.declared.turn.ServeAnswer.{ServeAnswer}
use Rattle.clone_serve.specs.declared.turn.ServeAnswer.TheVariants as says_as
use Rattle.clone_serve.specs.declared.turn.ServeTurn.{ServeTurn}
use Rattle.clone_serve.specs.declared.turn.ServeTurn.TheVariants.{Ask, Done}
use Rattle.clone_network.specs.Connections.{Connection, RestsEnd, StepsBy, StepsEnd, finds_loss, is_idle, is_open, is_serving, reaches_task, said_as, sent_behind, unread_then}
use Rattle.clone_network.specs.Networks.{Network, StepsDonor, is_open_at, with_connection}
use Rattle.clone_network.specs.declared.donor_step.DonorStep.TheVariants as step
use Rattle.clone_engine.specs.Donor.{Donor}
use Rattle.clone_told.specs.Told.{gives}
use Rattle.clone_ending.proofs.BusyLemmas.{Asked, IsSound, serves_busy}
use Rattle.clone_ending.proofs.DonorLemmas.{goes_in, serving_is}
use Rattle.clone_ending.proofs.Stepping.{at_end}
use Rattle.clone_joined.proofs.NetworkLemmas.{one_of}
use Rattle.clone_paired.specs.Quiet as paired
use Rattle.clone_paired.proofs.QuietEnds.{MayAwait, ask_does, command_does, done_ends}
use Rattle.clone_core.specs.Parts.{EndIsBetween, IsBetween}

-- ---- where no call is asked

record Unmoved (d t : Donor) (received left old new : List ℕ) (was now : Doing) : Type 0 where
  donor : t ≡ d
  unread : left ≡ received
  sent : new ≡ old
  doing : now ≡ was

sent_none : (exchanges : List Exchange) (d t : Doing) (given says : ServeAnswer) (old new : List ℕ) → Goes exchanges d (Done given) old new t says → new ≡ old
sent_none [] d t given says old new goes = goes.1
sent_none (exchange ∷ more) d t given says old new goes = absurd (let e : Done given ≡ Ask exchange.0 = goes.0 in cc)

ends_at_once : (exchanges : List Exchange) (d t : Donor) (received left old new : List ℕ) (was begun now : Doing) (given says : ServeAnswer) (turn : ServeTurn) → turn ≡ Done given → left ≡ received → begun ≡ was → Goes exchanges begun turn old new now says → GivesAll gives d exchanges t
    → Unmoved d t received left old new was now
ends_at_once exchanges d t received left old new was begun now given says turn is same still goes answers =
    let end = at_end exchanges d t begun now turn old new given says is goes answers in
    record {
      donor = end.0;
      unread = same;
      sent = sent_none exchanges begun now given says old new (subst (λ (x : ServeTurn). Goes exchanges begun x old new now says) is goes);
      doing = end.1 ∙ still;
    }

takes_idle : (bound : Option Caller) (exchanges : List Exchange) (d t : Donor) (received left old new : List ℕ) (was begun now : Doing) (turn : ServeTurn) → TakesCommand bound received left was begun turn → Goes exchanges begun turn old new now says_as.Idle → GivesAll gives d exchanges t
    → Unmoved d t received left old new was now
takes_idle bound exchanges d t received left old new was begun now (Ask asked) takes goes answers =
    absurd (ask_does exchanges begun asked old new now says_as.Idle (subst MayAwait takes.asks (command_does bound takes.command)) goes refl)
takes_idle bound exchanges d t received left old new was begun now (Done says_as.Idle) takes goes answers =
    ends_at_once exchanges d t received left old new was begun now says_as.Idle says_as.Idle (Done says_as.Idle) refl takes.2 takes.3 goes answers
takes_idle bound exchanges d t received left old new was begun now (Done (says_as.Garbled kept)) takes goes answers = absurd (cc (done_ends exchanges begun old new now (says_as.Garbled kept) says_as.Idle goes))
takes_idle bound exchanges d t received left old new was begun now (Done says_as.NoMemory) takes goes answers = absurd (cc (done_ends exchanges begun old new now says_as.NoMemory says_as.Idle goes))
takes_idle bound exchanges d t received left old new was begun now (Done other) takes goes answers = absurd takes

begins_idle : (was : Doing) (exchanges : List Exchange) (d t : Donor) (received left old new : List ℕ) (begun now : Doing) (turn : ServeTurn) → IsBetween was → is_serving was ≡ false → Begins was received left begun turn → Goes exchanges begun turn old new now says_as.Idle → GivesAll gives d exchanges t
    → Unmoved d t received left old new was now
begins_idle New exchanges d t received left old new begun now turn between free begins goes answers = takes_idle None exchanges d t received left old new New begun now turn begins goes answers
begins_idle (Ready caller) exchanges d t received left old new begun now turn between free begins goes answers = takes_idle (Some caller) exchanges d t received left old new (Ready caller) begun now turn begins goes answers
begins_idle (Serving run work) exchanges d t received left old new begun now turn between free begins goes answers = absurd (let e : true ≡ false = free in cc)
begins_idle Over exchanges d t received left old new begun now turn between free begins goes answers =
    ends_at_once exchanges d t received left old new Over begun now says_as.Idle says_as.Idle turn begins.0 begins.1 begins.2 goes answers
begins_idle (Telling caller) exchanges d t received left old new begun now turn between free begins goes answers = absurd between
begins_idle (Starting run) exchanges d t received left old new begun now turn between free begins goes answers = absurd between
begins_idle Leaving exchanges d t received left old new begun now turn between free begins goes answers = absurd between

-- ---- within an EXECUTE

asked_next : (d : Donor) (run : Execution) (work : Work) → IsBetween (Serving run work) → IsSound d → Asked d run work
asked_next d run Claim between sound = sound
asked_next d run (Read place false) between sound = sound
asked_next d run (Read place true) between sound = absurd between
asked_next d run (Weigh chunk) between sound = absurd between
asked_next d run (Archive place limit) between sound = absurd between

-- ---- ONE END

unread_same : (reaches : Bool) (unread sent : List ℕ) → sent ≡ sent_behind reaches unread → unread_then reaches unread sent ≡ unread
unread_same true unread sent same = same
unread_same false unread sent same = refl

module _ (d t : Donor) (at after : Connection) (sound : IsSound d) (between : IsBetween at.doing) (opens : is_open at ≡ true) (e : StepsEnd gives d t at after (step.Served says_as.Idle)) where
  abbrev steps : Type 0
  steps = Unmoved d t at.to_donor e.serves.left (sent_behind (reaches_task at) at.to_task) e.serves.sent at.doing e.serves.doing

  not_busy : e.says ≡ says_as.Idle → is_serving at.doing ≡ true → steps
  not_busy idle serving =
      let (run, work, is) = serving_is at.doing serving in
      let busy = serves_busy e.serves.steps.exchanges d t run work (sent_behind (reaches_task at) at.to_task) e.serves.sent e.serves.doing e.says (asked_next d run work (subst IsBetween is between) sound) (goes_in d t at after (step.Served says_as.Idle) e run work is) e.serves.steps.answers in
      absurd (both_ways (is_idle e.says) busy (ap is_idle idle))

  unmoved : e.says ≡ says_as.Idle → steps
  unmoved idle =
      elim (cases_Bool (is_serving at.doing)) [
        | inl serving ↦ not_busy idle serving
        | inr free ↦
            let s = e.serves.steps.is in
            begins_idle at.doing e.serves.steps.exchanges d t at.to_donor e.serves.left (sent_behind (reaches_task at) at.to_task) e.serves.sent s.begun e.serves.doing s.turn between free s.begins
            (subst (λ (x : ServeAnswer). Goes e.serves.steps.exchanges s.begun s.turn (sent_behind (reaches_task at) at.to_task) e.serves.sent e.serves.doing x) idle s.goes) e.serves.steps.answers
      ]

  kept : finds_loss at e.says ≡ false → steps → (t ≡ d) × (after ≡ at)
  kept none u =
      let task = unread_same (reaches_task at) at.to_task e.serves.sent u.sent in
      let found : finds_loss at e.says ≡ at.found_lost = none ∙ sym (not-true at.found_lost (and_parts (not at.found_lost) (not (is_over at.doing)) opens).0) in
      (u.donor, e.is ∙ ap (λ (x : Connection). record x { found_lost = finds_loss at e.says }) e.serves.is ∙ (λ i. record at { to_donor = u.unread i; to_task = task i; doing = u.doing i; found_lost = found i }))

  end_idle : (t ≡ d) × (after ≡ at)
  end_idle = by (finds_loss at e.says) refl e.answers
    where
      by : (lost : Bool) → finds_loss at e.says ≡ lost → step.Served says_as.Idle ≡ said_as lost e.says → (t ≡ d) × (after ≡ at)
      by true is said = absurd (cc (said))
      by false is said = (let idle : e.says ≡ says_as.Idle = cc (said) in kept is (unmoved idle))

-- ---- ALL OF THEM

-- what stands at a place is put there again
put_same : {X : Type 0} (xs : List X) (i : ℕ) (x y : X) → slice_get xs i ≡ Some x → y ≡ x → set xs i y ≡ xs
put_same xs i x y here same = ap (set xs i) (same ∙ sym (get_or_from_slice_get xs i x x here)) ∙ set-get_or xs i x

connection_same : (n : Network) (number : ℕ) (at after : Connection) → slice_get n.connections number ≡ Some at → after ≡ at → with_connection number after n ≡ n
connection_same n number at after here same = ap (λ (cs : List Connection). record n { connections = cs }) (put_same n.connections number at after here same)

pub donor_idle : (d t : Donor) (number : ℕ) (n m : Network) → IsSound d → AllByRecursion EndIsBetween n.connections → StepsDonor gives d t number n m (step.Served says_as.Idle) → (t ≡ d) × (m ≡ n)
donor_idle d t number n m sound ends steps = by (slice_get n.connections number) refl steps
  where
    one : (on : Bool) (at after : Connection) → is_open at ≡ on → EndIsBetween at → StepsBy on gives d t at after (step.Served says_as.Idle) → (t ≡ d) × (after ≡ at)
    one true at after opens between e = end_idle d t at after sound between opens e
    one false at after closed between rests = (rests.donor, rests.is)

    by : (o : Option Connection) → slice_get n.connections number ≡ o → MatchOption o ((t ≡ d) × (m ≡ n) × (step.Served says_as.Idle ≡ step.Served says_as.Idle)) (λ (at : Connection). (after : Connection) × StepsBy (is_open at) gives d t at after (step.Served says_as.Idle) × (m ≡ with_connection number after n)) → (t ≡ d) × (m ≡ n)
    by None is rests = (rests.0, rests.1)
    by (Some at) is (after, did, same) =
        let both = one (is_open at) at after refl (one_of EndIsBetween n.connections number at is ends) did in
        (both.0, same ∙ connection_same n number at after is both.1)

-- where the loop of an end has ended nothing is done
pub closed_rests : (d : Donor) (number : ℕ) (n : Network) → is_open_at n.connections number ≡ false → paired.EndRests gives d number n
closed_rests d number n closed = by (slice_get n.connections number) refl closed
  where
    rests : (at : Connection) → RestsEnd d d at at (step.Served says_as.Idle)
    rests at = record { donor = refl; is = refl; answers = refl }

    by : (o : Option Connection) → slice_get n.connections number ≡ o → option_map_or is_open o false ≡ false → MatchOption o ((d ≡ d) × (n ≡ n) × (step.Served says_as.Idle ≡ step.Served says_as.Idle)) (λ (at : Connection). (after : Connection) × StepsBy (is_open at) gives d d at after (step.Served says_as.Idle) × (n ≡ with_connection number after n))
    by None is none = (refl, refl, refl)
    by (Some at) is none = (at, subst (λ (b : Bool). StepsBy b gives d d at at (step.Served says_as.Idle)) (sym none) (rests at), sym (connection_same n number at at is refl))

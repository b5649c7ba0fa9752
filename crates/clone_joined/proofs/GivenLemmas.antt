-- The calls of a step are answered, one after the other: the run goes on, and each frame that tells
-- an answer says what was answered in it.
use Rattle.std.proofs.Common.{ℕ, zero, suc, ◌≡◌, ◌∙◌, ◌++◌, ◌∷◌, [], List, Option, None, Some, refl, sym, ap, subst, inl, inr, arith}
use Rattle.std.specs.List.{Contains}
use Rattle.std.specs.Option.{option_or}
use Rattle.std.proofs.lemmas.List.Elements.{Contains-append_cases}
use Rattle.clone_calls.specs.declared.answer.DonorAnswer.{DonorAnswer}
use Rattle.clone_calls.specs.declared.call.DonorCall.{DonorCall}
use Rattle.clone_session.specs.declared.info.Stop.{Stop}
use Rattle.clone_session.specs.Cloning.{Cloning}
use Rattle.clone_wire.specs.declared.frame.Frame.{Frame}
use Rattle.clone_serve.specs.Stepping.{GivesAll}
use Rattle.clone_serve.specs.Telling.{Exchange, frame_for, frames_for, frames_of}
use Rattle.clone_engine.specs.Acts.{Act, Calls, CloneActs, Orders}
use Rattle.clone_engine.specs.Answering.{Answered}
use Rattle.clone_engine.specs.Donor.{Donor}
use Rattle.clone_sides.specs.Moment.{own_stop}
use Rattle.clone_sides.specs.Trace.{Entry}
use Rattle.clone_sides.proofs.KeptLemmas.{block_leaves}
use Rattle.clone_sides.proofs.WayLemmas.{Acking, Giving, Leaving, Opening, Quiet, Telling, Way, went}
use Rattle.clone_told.specs.Told.{called, gives}
use Rattle.clone_told.proofs.ToldLemmas.{told_now}
use Rattle.clone_joined.specs.Carried.{WasSaid}
use Rattle.clone_joined.specs.Runs.{HasRun, stop_by}
use Rattle.clone_joined.proofs.AskedLemmas.{AreWithin, IsWithin, MayStep, within_may}
use Rattle.clone_joined.proofs.RunLemmas.{StaysSaid, call_may, run_on, said_on, stop_here}

-- A CALL WITHIN AN EXECUTE leaves the last stop.

abbrev IsWithinAct : Act → Type 0
IsWithinAct (Calls asked given) = IsWithin asked
IsWithinAct Orders = ⊥

pub within_stop : (asked : DonorCall) (given : DonorAnswer) (d t : Donor) → IsWithin asked → Answered asked given d t → t.cloning.stop ≡ d.cloning.stop
within_stop asked given d t within does = by (went d t (Calls asked given) does).way
  where
    by : Way (Calls asked given) d t → t.cloning.stop ≡ d.cloning.stop
    by (Quiet q) = q.leaves.stop
    by (Telling info q) = q.leaves.stop
    by (Opening hello info q) = ap (λ (c : Cloning). c.stop) q.becomes
    by (Giving caller stage chunk block read last q) = (block_leaves d.cloning t.cloning caller chunk block last q.gives.answers).0.stop
    by (Acking caller stage floor info q) = absurd (subst IsWithinAct q.is within)
    by (Leaving q) = ap (λ (c : Cloning). c.stop) q.becomes

pub all_within_stop : (exchanges : List Exchange) (d t : Donor) → AreWithin exchanges → GivesAll gives d exchanges t → t.cloning.stop ≡ d.cloning.stop
all_within_stop [] d t within is = ap (λ (x : Donor). x.cloning.stop) is
all_within_stop (x ∷ xs) d t within (mid, acts, rest) = all_within_stop xs mid t within.1 rest ∙ within_stop x.0 x.1 d mid within.0 acts.does

pub said_still : (number : ℕ) (trace on : List Entry) → StaysSaid number trace on → (sent : Frame) → WasSaid number trace sent → WasSaid number on sent
said_still number trace on still sent said own a has = still a (said own a has)

pub record RunsOn (number : ℕ) (floor : Option ℕ) (stop : Option Stop) (trace : List Entry) (exchanges : List Exchange) (t : Donor) : Type 0 where
  pub on : List Entry
  pub run : HasRun number floor stop on t
  pub still : StaysSaid number trace on
  pub told : (sent : Frame) → Contains (frames_for exchanges) sent → WasSaid number on sent

none_in : {X : Type 0} (P : Type 0) (x : X) → Contains [] x → P
none_in P x (i, within, is) = absurd (omega (arith, within))

only : {X : Type 0} (P : X → Type 0) (x y : X) → P x → Contains (x ∷ []) y → P y
only P x y is (zero, within, same) = subst P same is
only P x y is (suc i, within, same) = absurd (omega (arith, within))

module _ (number : ℕ) (floor : Option ℕ) where
  first_said : (stop : Option Stop) (trace : List Entry) (d mid : Donor) (x : Exchange) → HasRun number floor stop trace d → CloneActs x.0 x.1 d mid → (o : Option Frame) (sent : Frame) → frame_for x.0 x.1 ≡ o → Contains (frames_of o) sent → WasSaid number (trace ++ called x.0 x.1 mid ∷ []) sent
  first_said stop trace d mid x r acts None sent is has own = none_in _ sent has
  first_said stop trace d mid x r acts (Some one) sent is has own =
      (told_now number r.start trace x.0 x.1 mid sent r.runs (subst (λ (v : Donor). CloneActs x.0 x.1 v mid) (sym r.reaches) acts) (is ∙ ap (λ (f : Frame). Some f) (only (λ (f : Frame). one ≡ f) one sent refl has)) own).1

  -- the first of them was answered, and then the others
  then_on : (stop next : Option Stop) (trace : List Entry) (d mid t : Donor) (x : Exchange) (xs : List Exchange) → HasRun number floor stop trace d → CloneActs x.0 x.1 d mid → RunsOn number floor next (trace ++ called x.0 x.1 mid ∷ []) xs t → RunsOn number floor next trace (x ∷ xs) t
  then_on stop next trace d mid t x xs r acts later =
      let e : Entry = called x.0 x.1 mid in
      let first : (o : Option Frame) (sent : Frame) → frame_for x.0 x.1 ≡ o → Contains (frames_of o) sent → WasSaid number (trace ++ e ∷ []) sent = first_said stop trace d mid x r acts in
      record {
        on = later.on;
        run = later.run;
        still = λ said has. later.still said (said_on number trace e said has);
        told = λ sent has. elim (Contains-append_cases (frames_of (frame_for x.0 x.1)) (frames_for xs) sent has) [
          | inl now ↦ said_still number (trace ++ e ∷ []) later.on later.still sent (first (frame_for x.0 x.1) sent refl now)
          | inr after ↦ later.told sent after
        ];
      }

  within_on : (stop : Option Stop) (trace : List Entry) (d : Donor) (exchanges : List Exchange) (t : Donor) → HasRun number floor stop trace d → AreWithin exchanges → GivesAll gives d exchanges t → RunsOn number floor stop trace exchanges t
  within_on stop trace d [] t r within is = record {
    on = trace;
    run = subst (HasRun number floor stop trace) (sym is) r;
    still = λ said has. has;
    told = λ sent has. none_in _ sent has;
  }
  within_on stop trace d (x ∷ xs) t r within (mid, acts, rest) =
      let e : Entry = called x.0 x.1 mid in
      let same : stop_by number stop mid ≡ stop = ap (λ (last : Option Stop). option_or stop (own_stop number last)) (within_stop x.0 x.1 d mid within.0 acts.does) ∙ stop_here number floor stop trace d r in
      let run : HasRun number floor (stop_by number stop mid) (trace ++ e ∷ []) mid = run_on number floor stop trace d mid (Calls x.0 x.1) r acts (call_may number floor x.0 x.1 d mid acts.does (within_may floor x.0 within.0)) in
      then_on stop stop trace d mid t x xs r acts (within_on stop (trace ++ e ∷ []) mid xs t (subst (λ (s : Option Stop). HasRun number floor s (trace ++ e ∷ []) mid) same run) within.1 rest)

  -- A STEP'S CALLS were answered.
  pub step_on : (stop : Option Stop) (trace : List Entry) (d : Donor) (exchanges : List Exchange) (t : Donor) → HasRun number floor stop trace d → MayStep number floor d exchanges → GivesAll gives d exchanges t → RunsOn number floor (stop_by number stop t) trace exchanges t
  step_on stop trace d [] t r may is = record {
    on = trace;
    run = subst (λ (x : Donor). HasRun number floor (stop_by number stop x) trace x) (sym is) (subst (λ (s : Option Stop). HasRun number floor s trace d) (sym (stop_here number floor stop trace d r)) r);
    still = λ said has. has;
    told = λ sent has. none_in _ sent has;
  }
  step_on stop trace d (x ∷ xs) t r may (mid, acts, rest) =
      let e : Entry = called x.0 x.1 mid in
      let next : Option Stop = stop_by number stop mid in
      let run : HasRun number floor next (trace ++ e ∷ []) mid = run_on number floor stop trace d mid (Calls x.0 x.1) r acts (may.0 mid acts.does) in
      let all : RunsOn number floor next trace (x ∷ xs) t = then_on stop next trace d mid t x xs r acts (within_on next (trace ++ e ∷ []) mid xs t run may.1 rest) in
      let same : stop_by number stop t ≡ next = ap (λ (last : Option Stop). option_or stop (own_stop number last)) (all_within_stop xs mid t may.1 rest) in
      subst (λ (s : Option Stop). RunsOn number floor s trace (x ∷ xs) t) (sym same) all

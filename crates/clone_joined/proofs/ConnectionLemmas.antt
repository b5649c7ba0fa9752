-- A connection carries what it may, while the donor's end takes a step, the task takes one, it is
-- cut and it is given up.
use Rattle.std.proofs.Common.{ℕ, suc, ◌≡◌, ◌∙◌, ◌++◌, ◌∷◌, ◌&&◌, [], List, Bool, true, false, Option, Some, refl, sym, ap, subst, inl, inr, arith}
use Rattle.std.specs.Prelude.{not}
use Rattle.std.specs.List.{AllByRecursion, Contains}
use Rattle.std.proofs.lemmas.List.{append-nil}
use Rattle.clone_chunk.specs.declared.copy_stage.CopyStage.TheVariants as copy
use Rattle.clone_session.specs.declared.info.Stop.{Stop}
use Rattle.clone_wire.specs.declared.frame.Frame.{Frame}
use Rattle.clone_wire.specs.declared.frame.Frame.TheVariants as frame
use Rattle.clone_wire.specs.declared.frame.Side.{Side}
use Rattle.clone_wire.specs.declared.frame.Side.TheVariants.{Answer, Command}
use Rattle.clone_stream.specs.Streams.{AreFramesOf, spellings}
use Rattle.clone_serve.specs.Stepping.{Sends}
use Rattle.clone_serve.specs.Telling.{frames_for}
use Rattle.clone_serve.specs.declared.turn.ServeAnswer.{ServeAnswer}
use Rattle.clone_serve.proofs.StepLemmas.{begun_fits, goes_sends}
use Rattle.clone_network.specs.Connections.{Connection, StepsEnd, cut_at, finds_loss, given_up, reaches_task, sent_behind, unread_then}
use Rattle.clone_network.specs.declared.donor_step.DonorStep.{DonorStep}
use Rattle.clone_engine.specs.Donor.{Donor}
use Rattle.clone_sides.specs.Trace.{Entry}
use Rattle.clone_told.specs.Told.{gives}
use Rattle.clone_joined.specs.Carried.{Carries, IsCarried, MayAsk, WasSaid}
use Rattle.clone_joined.specs.Runs.{HasRun, stop_by}
use Rattle.clone_joined.proofs.AskedLemmas.{AsksAll, step_asks, step_may}
use Rattle.clone_joined.proofs.CarriedLemmas.{carries_as, carries_cut, carries_more, carries_none}
use Rattle.clone_joined.proofs.GivenLemmas.{RunsOn, said_still, step_on}
use Rattle.clone_joined.proofs.RunLemmas.{StaysSaid}

-- a floor that is known stays known
abbrev pub KeepsFloor : Option ℕ → Option ℕ → Type 0
KeepsFloor floor other = (kept : ℕ) → floor ≡ Some kept → other ≡ Some kept

pub may_as : (floor other : Option ℕ) → KeepsFloor floor other → (f : Frame) → MayAsk floor f → MayAsk other f
may_as floor other so frame.Exit may = absurd may
may_as floor other so (frame.Ack copy.PageCopy given) may = so given may
may_as floor other so f may = tt

pub carried_as : (number : ℕ) (floor other : Option ℕ) (trace on : List Entry) → KeepsFloor floor other → StaysSaid number trace on → (at : Connection) → IsCarried number floor trace at → IsCarried number other on at
carried_as number floor other trace on so still at c = record {
  to_task = carries_as Answer (WasSaid number trace) (WasSaid number on) (reaches_task at) at.to_task (said_still number trace on still) c.to_task;
  to_donor = carries_as Command (MayAsk floor) (MayAsk other) (not at.cut) at.to_donor (may_as floor other so) c.to_donor;
}

-- what is sent is put behind what isn't read, or reaches nobody
pub carries_sent : (side : Side) (Is : Frame → Type 0) (reaches : Bool) (unread sent : List ℕ) (frames : List Frame) → AreFramesOf side frames → AllByRecursion Is frames → sent ≡ sent_behind reaches unread ++ spellings frames → Carries side Is reaches unread → Carries side Is reaches (unread_then reaches unread sent)
carries_sent side Is true unread sent frames are each is c = subst (Carries side Is true) (sym is) (carries_more side Is unread frames c are each)
carries_sent side Is false unread sent frames are each is c = c

all_of : {X : Type 0} {P : X → Type 0} (xs : List X) → ((x : X) → Contains xs x → P x) → AllByRecursion P xs
all_of [] each = tt
all_of (x ∷ xs) each = (each x (0, omega arith, refl), all_of xs (λ y (i, within, is). each y (suc i, omega (arith, within), is)))

module _ (number : ℕ) (floor : Option ℕ) (trace : List Entry) where
  -- A STEP OF THE DONOR'S END
  pub record EndStep (stop : Option Stop) (t : Donor) (after : Connection) : Type 0 where
    pub on : List Entry
    pub run : HasRun number floor stop on t
    pub still : StaysSaid number trace on
    pub carried : IsCarried number floor on after

  pub end_step : (stop : Option Stop) (d t : Donor) (at after : Connection) (answer : DonorStep) → HasRun number floor stop trace d → IsCarried number floor trace at → StepsEnd gives d t at after answer → EndStep (stop_by number stop t) t after
  end_step stop d t at after answer r c e =
      let s = e.serves.steps in
      let reaches : Bool = reaches_task at in
      let old : List ℕ = sent_behind reaches at.to_task in
      let asks : AsksAll at.doing at.to_donor e.serves.left s.is.begun s.exchanges = step_asks s.exchanges at.doing e.serves.doing at.to_donor e.serves.left old e.serves.sent e.says s.is in
      let (may, rest) = step_may floor (not at.cut) number d at.doing s.is.begun at.to_donor e.serves.left s.exchanges c.to_donor asks in
      let more : RunsOn number floor (stop_by number stop t) trace s.exchanges t = step_on number floor stop trace d s.exchanges t r may s.answers in
      let sends : Sends (frames_for s.exchanges) old e.serves.sent e.says = goes_sends s.exchanges s.is.begun e.serves.doing s.is.turn old e.serves.sent e.says (begun_fits at.doing s.is.begun at.to_donor e.serves.left s.is.turn s.is.begins) s.is.goes in
      let unread : Carries Answer (WasSaid number more.on) reaches at.to_task = carries_as Answer (WasSaid number trace) (WasSaid number more.on) reaches at.to_task (said_still number trace more.on more.still) c.to_task in
      let each : AllByRecursion (WasSaid number more.on) (frames_for s.exchanges) = all_of (frames_for s.exchanges) more.told in
      let is : after ≡ record (record at { to_donor = e.serves.left; to_task = unread_then reaches at.to_task e.serves.sent; doing = e.serves.doing }) { found_lost = finds_loss at e.says } =
      e.is ∙ ap (λ (x : Connection). record x { found_lost = finds_loss at e.says }) e.serves.is in
      record {
        on = more.on;
        run = more.run;
        still = more.still;
        carried = subst (IsCarried number floor more.on) (sym is) (record {
          to_task = by (frames_for s.exchanges) reaches at.to_task e.serves.sent sends each unread;
          to_donor = rest;
        });
      }
    where
      by : {Is : Frame → Type 0} {says : ServeAnswer} (frames : List Frame) (reaches : Bool) (unread sent : List ℕ) → Sends frames (sent_behind reaches unread) sent says → AllByRecursion Is frames → Carries Answer Is reaches unread → Carries Answer Is reaches (unread_then reaches unread sent)
      by frames reaches unread sent (inl (are, is)) each c = carries_sent Answer _ reaches unread sent frames are each is c
      by frames reaches unread sent (inr (is, says)) each c = carries_sent Answer _ reaches unread sent [] tt tt (is ∙ sym (append-nil (sent_behind reaches unread))) c

  -- IT IS CUT, and given up
  pub carried_cut : (to_donor to_task : ℕ) (at : Connection) → IsCarried number floor trace at → IsCarried number floor trace (cut_at to_donor to_task at)
  carried_cut to_donor to_task at c = record {
    to_task = goes_as (reaches_task (cut_at to_donor to_task at)) (carries_cut Answer (WasSaid number trace) (reaches_task at) at.to_task to_task c.to_task) (no_reach at.held);
    to_donor = carries_cut Command (MayAsk floor) (not at.cut) at.to_donor to_donor c.to_donor;
  }
    where
      no_reach : (held : Bool) → (held && false) ≡ false
      no_reach true = refl
      no_reach false = refl

      goes_as : {bytes : List ℕ} (b : Bool) → Carries Answer (WasSaid number trace) false bytes → b ≡ false → Carries Answer (WasSaid number trace) b bytes
      goes_as {bytes = bytes} b c is = subst (λ (x : Bool). Carries Answer (WasSaid number trace) x bytes) (sym is) c

  pub carried_given_up : (at : Connection) → IsCarried number floor trace at → IsCarried number floor trace (given_up at)
  carried_given_up at c = record {
    to_task = carries_none Answer (WasSaid number trace) (reaches_task (given_up at));
    to_donor = c.to_donor;
  }

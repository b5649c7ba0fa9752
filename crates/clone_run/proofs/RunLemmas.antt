-- The three runs of a team whose cells are closed.
use Rattle.std.proofs.Common.{◌≡◌, ◌∙◌, List, true, Result, Ok, Err, IfOk, ap, sym, subst}
use Rattle.clone_outside.specs.DiskCalls.{DiskState}
use Rattle.clone_outside.specs.declared.link.Link.{Ghosts as Link}
use Rattle.clone_outside.specs.declared.link.Net.{Ghosts as Net}
use Rattle.clone_turn.specs.declared.view.Entry.{Entry}
use Rattle.clone_turn.specs.Seats.{ClosesAt}
use Rattle.clone_turn.specs.Runs.{IsLegalRun, calls, end_of}
use Rattle.clone_machine.specs.Sharing.{Steps}
use Rattle.clone_fetching.specs.Recipients.{RecipientSteps}
use Rattle.clone_desk.specs.Steps.{DeskSteps}
use Rattle.clone_hub.specs.Gathering.{Gathers, HubModel}
use Rattle.clone_hub.proofs.GatherLemmas.{gathered_run}
use Rattle.clone_run.specs.declared.load.Load.{Load}
use Rattle.clone_run.specs.declared.outcome.Outcome.{Outcome}
use Rattle.clone_run.specs.Closing.{Closes, IsAssembled, IsNewHub}
use Rattle.clone_run.specs.Done.{AreDone, DoneBy, served_from}
use Rattle.clone_run.specs.Ran.{HaveRun, IsRun, Shared}
use Rattle.clone_run.specs.Teams.{Team}

pub run_of : {S C A : Type 0} (steps : S → C → A → S → Type 0) (first last : S) (parts : List (List (Entry S C A))) (h g : HubModel S C A) → IsNewHub first h → Gathers parts h g
    → ClosesAt steps g.cell.first g.seat last → IsRun steps first parts last
run_of steps first last parts h g new gathers closes =
    let begin = new.first_is in
    let closed = subst (λ s. ClosesAt steps s g.seat last) (ap (λ c. c.first) gathers.same) closes in
    let run = gathered_run steps h g parts last new.whole gathers closed in
    record {
      run = calls g.seat.seen;
      legal = subst (λ s. IsLegalRun steps s (calls g.seat.seen)) begin run.0;
      end = subst (λ s. last ≡ end_of s (calls g.seat.seen)) begin run.1;
      made = run.2;
    }

module _ {N L X R : Type 0} (net : Net N L X) (link : Link L X) (state : R → DiskState) where
  pub closes_as : (v team : Team N L R) (t : Shared N L R) → v ≡ team → Closes net link state v t → Closes net link state team t
  closes_as v team t is closes = subst (λ (x : Team N L R). Closes net link state x t) is closes

  pub have_run : (load : Load) (o : Outcome) (s t : Shared N L R) (team end : Team N L R) → IsAssembled load s team → DoneBy link (served_from team.load 0) o team end → Closes net link state end t
      → HaveRun net link state load o s t
  have_run load o s t team end new done closes = record {
    parts = done.0;
    jobs = subst (λ l. AreDone link l (served_from l 0) done.0 o) new.load_is done.1;
    donor = run_of Steps s.donor t.donor done.0.donor team.donor end.donor new.donor done.2.donor closes.donor;
    recipient = run_of (RecipientSteps state) s.recipient t.recipient done.0.recipient team.recipient end.recipient new.recipient done.2.recipient closes.recipient;
    desk = run_of (DeskSteps net link) s.desk t.desk done.0.desk team.desk end.desk new.desk done.2.desk closes.desk;
  }

  -- all of a run, by what it began with, what its jobs did and what it left
  pub ran_all : (load : Load) (o r : Outcome) (team end : Team N L R) (B L' : Shared N L R → Type 0) → ((s : Shared N L R) × B s × IsAssembled load s team) → (o.whole ≡ true → DoneBy link (served_from team.load 0) o team end)
      → r ≡ o → ((t : Shared N L R) × Closes net link state end t × L' t) → r.whole ≡ true → (s : Shared N L R) × (t : Shared N L R) × B s × HaveRun net link state load r s t × L' t
  ran_all load o r team end B L' begun done is left whole = (
    begun.0,
    left.0,
    begun.1,
    subst (λ x. HaveRun net link state load x begun.0 left.0) (sym is) (have_run load o begun.0 left.0 team end begun.2 (done (sym (ap (λ (x : Outcome). x.whole) is) ∙ whole)) left.1),
    left.2,
  )

module _ {N L R E : Type 0} (B : Shared N L R → Type 0) where
  pub begun_as : (load : Load) (result : Result (Team N L R) E) (s : Shared N L R) → B s → IfOk result (IsAssembled load s) → IfOk result (λ team. (x : Shared N L R) × B x × IsAssembled load x team)
  begun_as load (Ok team) s begin is = (s, begin, is)
  begun_as load (Err e) s begin is = tt

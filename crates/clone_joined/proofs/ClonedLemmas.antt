-- The clone is complete: the session came to its stop, and the recipient's disk recovers to the
-- donor's history at the stop.
use Rattle.std.proofs.Common.{ℕ, ◌≡◌, ◌∙◌, ◌<◌, ◌^◌, ◌==◌, ◌∷◌, [], List, Bool, true, false, if◌then◌else◌, Option, None, Some, IsSome, is_some, refl, sym, ap, subst}
use Rattle.std.specs.Prelude.{not}
use Rattle.std.proofs.lemmas.Bool.{true≢false}
use Rattle.clone_outside.specs.Disk.{DiskImage, ForTold, Steps}
use Rattle.clone_outside.specs.DiskCalls.{DiskState}
use Rattle.clone_outside.specs.Mark.{IsEnd}
use Rattle.clone_outside.specs.declared.mark.CloneEnd as mark
use Rattle.clone_outside.specs.declared.mark.Mark.TheVariants as marks
use Rattle.clone_model.specs.History.{fold}
use Rattle.clone_plain.specs.Donor.{history}
use Rattle.clone_lay.specs.Marked.{marked}
use Rattle.clone_staged.specs.Holds.{HoldsCopy}
use Rattle.clone_accepted.specs.Disk.{laid}
use Rattle.clone_accepted.specs.Whole.{IsWhole}
use Rattle.clone_session.specs.declared.info.Stop.{Stop}
use Rattle.clone_tasks.specs.Rules.{rule_at}
use Rattle.clone_tasks.specs.Tables.{is_done}
use Rattle.clone_tasks.specs.declared.end.CloneEnd.TheVariants as end
use Rattle.clone_tasks.specs.declared.rule.Link.{Link}
use Rattle.clone_tasks.specs.declared.rule.Link.TheVariants.{Absent}
use Rattle.clone_recipient.specs.Receptions.{Reception}
use Rattle.clone_recipient.specs.Showing.{IsEndOf}
use Rattle.clone_recipient.proofs.RecordLemmas.{record_whole}
use Rattle.clone_fetch.specs.Fetching as fetch
use Rattle.clone_fetch.specs.Fetching.{Completes, StepsBy, requester}
use Rattle.clone_fetch.specs.declared.answer.TaskAnswer.{TaskAnswer}
use Rattle.clone_fetch.specs.declared.answer.TaskAnswer.TheVariants as says
use Rattle.clone_network.specs.Connections.{link_over, sent_behind}
use Rattle.clone_network.specs.Networks as network
use Rattle.clone_network.specs.Networks.{Network, StepsTask}
use Rattle.clone_engine.specs.Donor.{Donor}
use Rattle.clone_engine.specs.Engine.{Engine}
use Rattle.clone_sides.specs.Answered.{Again, Gone, IsOpenedOnce, Open, Phase, Unopened, phase_after}
use Rattle.clone_sides.specs.Moment.{HasGoneOn, HoldsStop, StopsAt, first_stop, own_stop}
use Rattle.clone_sides.specs.Trace.{Entry, Runs, end_of}
use Rattle.clone_sides.proofs.MoreLemmas.{gone_on}
use Rattle.clone_sides.proofs.NumberLemmas.{none_stands, position_told, stop_stands}
use Rattle.clone_sides.proofs.OptionLemmas.{two_none}
use Rattle.clone_sides.proofs.StopLemmas.{first_stops}
use Rattle.clone_sides.proofs.WalkLemmas.{moment}
use Rattle.clone_sides.proofs.WayLemmas.{went}
use Rattle.clone_joined.specs.Joined.{IsCloned, IsJoined}
use Rattle.clone_joined.specs.Runs.{HasFloor, HasRun, IsUnended}
use Rattle.clone_joined.proofs.EndingLemmas.{complete, done_of, ends_by, other}
use Rattle.clone_joined.proofs.RunLemmas.{Behind, run_as}

-- ---- of the donor's run

told_along : (d : Donor) (trace : List Entry) → Runs d trace → is_some (end_of d trace).engine.disk.told ≡ is_some d.engine.disk.told
told_along d [] run = refl
told_along d (e ∷ es) run = told_along e.after es run.1 ∙ (went d e.after e.act run.0.does).tells

owned : (number : ℕ) (found : Option Stop) (stop : Stop) → own_stop number found ≡ Some stop → found ≡ Some stop
owned number None stop is = absurd (cc)
owned number (Some x) stop is = by (x.session == number) is
  where
    by : (b : Bool) → (if b then Some x else None) ≡ Some stop → Some x ≡ Some stop
    by true is = is
    by false is = absurd (cc)

-- while the session lasts, its stop is the donor's last one
last_stop : (number : ℕ) (floor : Option ℕ) (stop : Option Stop) (trace : List Entry) (d : Donor) (run : HasRun number floor stop trace d) (first : Stop) → first_stop number trace ≡ Some first → d.cloning.stop ≡ Some first
last_stop number floor stop trace d run first is = by (phase_after number Unopened trace) refl run.unended
  where
    by : (phase : Phase) → phase_after number Unopened trace ≡ phase → IsUnended phase → d.cloning.stop ≡ Some first
    by Unopened phase un = absurd (two_none (first_stop number trace) first (none_stands number run.start trace run.fresh.session run.fresh.stop run.runs phase) is)
    by Open phase un =
        let stands = stop_stands number run.start trace run.fresh.session run.fresh.stop run.runs phase in
        owned number d.cloning.stop first (sym (ap (λ (x : Donor). own_stop number x.cloning.stop) run.reaches) ∙ sym stands ∙ is)
    by Gone phase un = absurd un
    by Again phase un = absurd un

-- ---- THE MOMENT

once : (phase : Phase) → IsUnended phase → phase ≡ Again → ⊥
once phase un is = subst IsUnended is un

module _ (number : ℕ) (stop : Option Stop) (d : Donor) (r : Reception) (told : Option DiskImage) (n : Network) (bounded : number < 2 ^ 64) (j : IsJoined number stop d r told n) where
  module _ (last : mark.CloneEnd) (is : IsEndOf r last) (done : is_done r.table.phase ≡ true) where
    whole : IsWhole j.items last.checkpoint last.lsn last.position
    whole =
        subst (λ (x : ℕ). IsWhole j.items x last.lsn last.position) (sym is.checkpoint)
        (subst (λ (x : ℕ). IsWhole j.items r.checkpoint x last.position) (sym is.lsn)
        (subst (λ (x : ℕ). IsWhole j.items r.checkpoint r.lsn x) (sym is.position) (record_whole r j.items j.first told j.accepted done)))

    is_end : IsEnd last
    is_end = (
      subst (λ (x : ℕ). x < 2 ^ 64) (sym (is.session ∙ j.session)) bounded,
      subst (λ (x : ℕ). x < 2 ^ 64) (sym is.position) j.bounded,
    )

    once_open : IsOpenedOnce number j.trace
    once_open = once (phase_after number Unopened j.trace) j.run.unended

    -- by a stop that is the session's first
    module _ (floor : Option ℕ) (now : Option DiskImage) (position : ℕ) (kept : floor ≡ r.table.floor) (same : position ≡ r.position) where
      abbrev Holds : Engine → Type 0
      Holds at = IsSome d.engine.disk.told → ForTold now (λ m. HoldsCopy m (fold (history at.donor)) position)

      at_stop : (at : Engine) (first : Stop) → StopsAt number j.run.start j.trace at first → last.position ≡ first.position → Holds at → IsCloned number stop d floor now position
      at_stop at first moment_is position_is holds =
          let run = run_as number r.table.floor floor stop j.trace d (λ k k_is. kept ∙ k_is) j.run in
          let here : position ≡ first.position = same ∙ sym is.position ∙ position_is in
          let known : stop ≡ Some first = sym j.run.first ∙ moment_is.first in
          record {
            trace = j.trace;
            run = run;
            at = at;
            first = first;
            is = known;
            moment = moment_is;
            position_is = here;
            reached = subst (HasFloor floor) (sym here) (subst (Behind floor) known run.behind);
            last = last_stop number r.table.floor stop j.trace d j.run first moment_is.first;
            gone_on = subst (λ (x : Donor). HasGoneOn first at.donor x.engine.donor) j.run.reaches (gone_on number j.run.start j.trace at first j.run.runs moment_is);
            holds = holds;
          }

      -- the donor's disk tells what it holds
      telling : IsSome d.engine.disk.told → Steps told now (marked (marks.Complete last)) → IsCloned number stop d floor now position
      telling tells steps =
          let first_tells : IsSome j.run.start.engine.disk.told = sym (told_along j.run.start j.trace j.run.runs) ∙ ap (λ (x : Donor). is_some x.engine.disk.told) j.run.reaches ∙ tells in
          let held : HoldsStop number j.run.start j.trace last (laid j.items j.first) =
          moment number j.run.start j.trace j.items last j.first j.run.fresh.taken j.run.fresh.session j.run.fresh.stop j.run.fresh.donor first_tells j.run.runs once_open j.accepted.is.turn j.answered whole is_end j.blank in
          at_stop held.at held.stop held.moment held.position
          (λ some. subst (λ (p : ℕ). ForTold now (λ m. HoldsCopy m (fold (history held.at.donor)) p)) (sym (same ∙ sym is.position)) (holds_now held told now j.accepted.is.disk steps))
        where
          holds_now : (held : HoldsStop number j.run.start j.trace last (laid j.items j.first)) (told now : Option DiskImage) → ForTold told (λ m. m ≡ laid j.items j.first) → Steps told now (marked (marks.Complete last)) → ForTold now (λ m. HoldsCopy m (fold (history held.at.donor)) last.position)
          holds_now held None now disk steps = subst (λ (o : Option DiskImage). ForTold o (λ m. HoldsCopy m (fold (history held.at.donor)) last.position)) (sym steps) tt
          holds_now held (Some m) now disk steps =
              subst (λ (o : Option DiskImage). ForTold o (λ m. HoldsCopy m (fold (history held.at.donor)) last.position)) (sym steps)
              (subst (λ (x : DiskImage). HoldsCopy (marked (marks.Complete last) x) (fold (history held.at.donor)) last.position) (sym disk) held.holds)

      -- it doesn't
      untold : is_some d.engine.disk.told ≡ false → IsCloned number stop d floor now position
      untold none =
          let (first, first_is, at_position) = position_told number j.run.start j.trace j.run.fresh.session j.run.fresh.stop j.run.runs j.items last.checkpoint last.lsn last.position once_open j.answered whole.redo in
          let (at, stops) = first_stops number j.run.start j.trace first j.run.fresh.stop j.run.runs first_is in
          at_stop at first stops (sym at_position) (λ some. absurd (true≢false (sym some ∙ none)))

      pub cloned : Steps told now (marked (marks.Complete last)) → IsCloned number stop d floor now position
      cloned steps = by (is_some d.engine.disk.told) refl
        where
          by : (b : Bool) → is_some d.engine.disk.told ≡ b → IsCloned number stop d floor now position
          by true is = telling is steps
          by false is = untold is

  -- where a step ended the clone so
  by_completing : (s : Reception) (now : Option DiskImage) (sent put : List ℕ) (answer : TaskAnswer) (lsn position : ℕ) → is_done r.table.phase ≡ true → answer ≡ complete lsn position → Completes r s told now sent put answer → IsCloned number stop d s.table.floor now position
  by_completing s now sent put answer lsn position done is (fetch.completes last end_is steps ended bytes heard) =
      let both : says.Ended (end.Complete lsn position) ≡ says.Ended (end.Complete r.lsn r.position) = sym is ∙ heard in
      let same : position ≡ r.position = cc in
      cloned last end_is done s.table.floor now position (ap (λ (x : Reception). x.table.floor) ended) same steps
  by_completing s now sent put answer lsn position done is (fetch.not_completed last end_is steps ended bytes heard) = absurd (other lsn position answer _ (λ e. absurd (cc)) is heard)
  by_completing s now sent put answer lsn position done is (fetch.not_marked last end_is steps ended bytes heard) = absurd (other lsn position answer _ (λ e. absurd (cc)) is heard)
  by_completing s now sent put answer lsn position done is (fetch.not_left last end_is steps ended bytes heard) = absurd (other lsn position answer _ (λ e. absurd (cc)) is heard)

  by_rule : (s : Reception) (disk after : DiskState) (same : disk.told ≡ told) (made : Option ℕ) (task floor : ℕ) (at : Link) (a b x y : List ℕ) (answer : TaskAnswer) (lsn position : ℕ) → answer ≡ complete lsn position
      → StepsBy (rule_at made r.table task at) at task floor (requester r disk a b) (requester s after x y) answer → IsCloned number stop d s.table.floor after.told position
  by_rule s disk after same made task floor at a b x y answer lsn position is steps =
      let (which, ends) = ends_by lsn position (rule_at made r.table task at) at task floor (requester r disk a b) (requester s after x y) answer is steps in
      by_completing s after.told b y answer lsn position (done_of made r.table task at which) is (subst (λ (o : Option DiskImage). Completes r s o after.told b y answer) same ends)

pub joined_completes : (number : ℕ) (stop : Option Stop) (d : Donor) (r s : Reception) (disk after : DiskState) (n m : Network) (task floor lsn position : ℕ) (answer : TaskAnswer) → number < 2 ^ 64 → IsJoined number stop d r disk.told n
    → StepsTask task floor r s disk after n m answer → answer ≡ says.Ended (end.Complete lsn position) → IsCloned number stop d s.table.floor after.told position
joined_completes number stop d r s disk after n m task floor lsn position answer bounded j (network.over seat connection at new made sits has here f is) ends =
    by_rule number stop d r disk.told n bounded j s disk after refl seat.made task floor (link_over at) at.to_task (sent_behind (not at.cut) at.to_donor) f.received f.sent answer lsn position ends f.steps
joined_completes number stop d r s disk after n m task floor lsn position answer bounded j (network.apart seat next connections sits none c is) ends =
    by_rule number stop d r disk.told n bounded j s disk after refl seat.made task floor Absent [] [] c.received c.sent answer lsn position ends c.steps
joined_completes number stop d r s disk after n m task floor lsn position answer bounded j (network.absent none rests idle) ends = absurd (other lsn position answer says.Idle (λ e. absurd (cc)) ends idle)
joined_completes number stop d r s disk after n m task floor lsn position answer bounded j (network.no_room rests heard) ends = absurd (other lsn position answer says.NoMemory (λ e. absurd (cc)) ends heard)

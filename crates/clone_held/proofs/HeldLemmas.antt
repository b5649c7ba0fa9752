-- The clone is complete: the recipient's disk recovers to the donor's history at the session's first
-- stop.
use Rattle.std.proofs.Common.{ℕ, ◌≡◌, ◌∙◌, ◌≤◌, ◌<◌, ◌^◌, ◌∷◌, [], List, Bool, true, false, Option, None, Some, IsSome, is_some, refl, sym, subst}
use Rattle.std.specs.Prelude.{Contains}
use Rattle.std.proofs.lemmas.Bool.{true≢false}
use Rattle.std.proofs.lemmas.List.Elements.{Contains-append_left, Contains-append_right, Contains-push}
use Rattle.clone_outside.specs.Disk.{DiskImage, ForTold, Steps}
use Rattle.clone_outside.specs.Mark.{IsEnd}
use Rattle.clone_outside.specs.declared.mark.Mark.TheVariants as marks
use Rattle.clone_model.specs.History.{fold}
use Rattle.clone_plain.specs.Donor.{history}
use Rattle.clone_lay.specs.Marked.{marked}
use Rattle.clone_staged.specs.Holds.{HoldsCopy}
use Rattle.clone_accepted.specs.Disk.{laid}
use Rattle.clone_accepted.specs.Whole.{IsWhole}
use Rattle.clone_session.specs.declared.info.Stop.{Stop}
use Rattle.clone_tasks.specs.declared.end.CloneEnd.TheVariants as end
use Rattle.clone_recipient.specs.Receptions.{Reception}
use Rattle.clone_recipient.proofs.RecordLemmas.{record_whole}
use Rattle.clone_engine.specs.Donor.{Donor}
use Rattle.clone_engine.specs.Engine.{Engine}
use Rattle.clone_sides.specs.Answered.{IsOpenedOnce}
use Rattle.clone_sides.specs.Moment.{HoldsStop, StopsAt}
use Rattle.clone_sides.specs.Trace.{Entry, Runs}
use Rattle.clone_sides.proofs.MoreLemmas.{gone_on}
use Rattle.clone_sides.proofs.NumberLemmas.{position_told}
use Rattle.clone_sides.proofs.StopLemmas.{first_stops}
use Rattle.clone_sides.proofs.WalkLemmas.{moment}
use Rattle.clone_joined.specs.Runs.{IsFresh}
use Rattle.clone_held.specs.Held.{AcknowledgedWith, HasAccepted, IsCompleteAt, IsHeldAt}
use Rattle.clone_held.proofs.CourseLemmas.{HasCompleted}

module _ (number lsn position floor : ℕ) (d : Donor) (trace : List Entry) (bounded : number < 2 ^ 64) (fresh : IsFresh number d) (runs : Runs d trace) (once : IsOpenedOnce number trace) (acked : AcknowledgedWith number floor trace) where
  -- the floor of the acknowledgement at which the session came to its stop
  floor_met : (at : Engine) (stop : Stop) → StopsAt number d trace at stop → floor ≤ stop.position
  floor_met at stop m =
      let a = m.acknowledges in
      let first : Contains (m.entry ∷ m.after) m.entry = Contains-append_left (m.entry ∷ []) m.after m.entry (Contains-push [] m.entry) in
      let there : Contains trace m.entry = subst (λ (es : List Entry). Contains es m.entry) (sym m.split) (Contains-append_right m.before (m.entry ∷ m.after) m.entry first) in
      subst (λ (given : ℕ). given ≤ stop.position) (acked m.entry a.caller a.floor a.info there a.is a.session) a.reached

  module _ (r : Reception) (now : Option DiskImage) (h : HasCompleted number trace r now) (lsn_is : h.was.lsn ≡ lsn) (position_is : h.was.position ≡ position) where
    abbrev k : HasAccepted number trace h.was h.told
    k = h.accepted

    here : h.last.position ≡ position
    here = h.is.position ∙ position_is

    all_there : IsWhole k.items h.last.checkpoint h.last.lsn h.last.position
    all_there =
        subst (λ (x : ℕ). IsWhole k.items x h.last.lsn h.last.position) (sym h.is.checkpoint)
        (subst (λ (x : ℕ). IsWhole k.items h.was.checkpoint x h.last.position) (sym h.is.lsn)
        (subst (λ (x : ℕ). IsWhole k.items h.was.checkpoint h.was.lsn x) (sym h.is.position) (record_whole h.was k.items k.first h.told k.accepted h.copied)))

    is_end : IsEnd h.last
    is_end = (
      subst (λ (x : ℕ). x < 2 ^ 64) (sym (h.is.session ∙ k.session)) bounded,
      subst (λ (x : ℕ). x < 2 ^ 64) (sym h.is.position) k.bounded,
    )

    -- what is so of the disk with the complete mark, where that is told
    for_marked : (P : DiskImage → Type 0) (told : Option DiskImage) → Steps told now (marked (marks.Complete h.last)) → ForTold told (λ m. P (marked (marks.Complete h.last) m)) → ForTold now P
    for_marked P None steps is = subst (λ (o : Option DiskImage). ForTold o P) (sym steps) tt
    for_marked P (Some m) steps is = subst (λ (o : Option DiskImage). ForTold o P) (sym steps) is

    says_complete : (told : Option DiskImage) → ForTold told (λ m. IsCompleteAt number lsn position (marked (marks.Complete h.last) m))
    says_complete None = tt
    says_complete (Some m) = record { end = h.last; session = h.is.session ∙ k.session; lsn_is = h.is.lsn ∙ lsn_is; position_is = here; mark = refl }

    abbrev Holds : Engine → Type 0
    Holds at = IsSome d.engine.disk.told → ForTold now (λ m. HoldsCopy m (fold (history at.donor)) position)

    at_stop : (at : Engine) (stop : Stop) → StopsAt number d trace at stop → h.last.position ≡ stop.position → Holds at → IsHeldAt number d trace lsn position floor now
    at_stop at stop is same holds =
        let stops : position ≡ stop.position = sym here ∙ same in
        record {
          at = at;
          stop = stop;
          moment = is;
          position_is = stops;
          reached = subst (λ (p : ℕ). floor ≤ p) (sym stops) (floor_met at stop is);
          gone_on = gone_on number d trace at stop runs is;
          complete = for_marked (IsCompleteAt number lsn position) h.told h.steps (says_complete h.told);
          holds = holds;
        }

    -- the donor's disk tells what it holds
    telling : IsSome d.engine.disk.told → IsHeldAt number d trace lsn position floor now
    telling tells =
        let held : HoldsStop number d trace h.last (laid k.items k.first) =
        moment number d trace k.items h.last k.first fresh.taken fresh.session fresh.stop fresh.donor tells runs once k.accepted.is.turn k.answered all_there is_end k.blank in
        at_stop held.at held.stop held.moment held.position
        (λ some. for_marked (λ m. HoldsCopy m (fold (history held.at.donor)) position) h.told h.steps (holds_now held h.told k.accepted.is.disk))
      where
        holds_now : (held : HoldsStop number d trace h.last (laid k.items k.first)) (told : Option DiskImage) → ForTold told (λ m. m ≡ laid k.items k.first) → ForTold told (λ m. HoldsCopy (marked (marks.Complete h.last) m) (fold (history held.at.donor)) position)
        holds_now held None disk = tt
        holds_now held (Some m) disk =
            subst (λ (x : DiskImage). HoldsCopy (marked (marks.Complete h.last) x) (fold (history held.at.donor)) position) (sym disk)
            (subst (λ (p : ℕ). HoldsCopy (marked (marks.Complete h.last) (laid k.items k.first)) (fold (history held.at.donor)) p) here held.holds)

    -- it doesn't
    untold : is_some d.engine.disk.told ≡ false → IsHeldAt number d trace lsn position floor now
    untold none =
        let (stop, stop_is, at_position) = position_told number d trace fresh.session fresh.stop runs k.items h.last.checkpoint h.last.lsn h.last.position once k.answered all_there.redo in
        let (at, stops) = first_stops number d trace stop fresh.stop runs stop_is in
        at_stop at stop stops (sym at_position) (λ some. absurd (true≢false (sym some ∙ none)))

    completed_holds : IsHeldAt number d trace lsn position floor now
    completed_holds = by (is_some d.engine.disk.told) refl
      where
        by : (b : Bool) → is_some d.engine.disk.told ≡ b → IsHeldAt number d trace lsn position floor now
        by true is = telling is
        by false is = untold is

  pub held : (r : Reception) (now : Option DiskImage) → HasCompleted number trace r now → r.table.ended ≡ Some (end.Complete lsn position) → IsHeldAt number d trace lsn position floor now
  held r now h ended =
      let both : Some (end.Complete h.was.lsn h.was.position) ≡ Some (end.Complete lsn position) = sym h.ended ∙ ended in
      let lsn_is : h.was.lsn ≡ lsn = cc in
      let position_is : h.was.position ≡ position = cc in
      completed_holds r now h lsn_is position_is

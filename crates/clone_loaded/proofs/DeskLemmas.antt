-- The ends that are at a desk are those of connections that its net made.
use Rattle.std.proofs.Common.{◌≡◌, ◌∙◌, ℕ, zero, suc, List, [], ◌∷◌, set, get_or, Ok, Err, Some, None, IfSome, ap, sym, subst}
use Rattle.std.specs.List.{AllByRecursion}
use Rattle.std.specs.declared.option.Option.{Option}
use Rattle.clone_outside.specs.declared.link.Side.{Side}
use Rattle.clone_outside.specs.declared.link.Side.TheVariants.{Donor, Requester}
use Rattle.clone_outside.specs.declared.link.Link.{Ghosts as Link}
use Rattle.clone_outside.specs.declared.link.Net.{Ghosts as Net}
use Rattle.clone_turn.specs.Runs.{IsLegalRun, end_of}
use Rattle.clone_turn.proofs.EachLemmas.{each_append, each_map}
use Rattle.clone_desk.specs.declared.machine.DeskAnswer.{DeskAnswer}
use Rattle.clone_desk.specs.declared.machine.DeskAnswer.TheVariants as answer
use Rattle.clone_desk.specs.declared.machine.DeskCall.{DeskCall}
use Rattle.clone_desk.specs.declared.machine.DeskCall.TheVariants as call
use Rattle.clone_desk.specs.declared.record.DonorEnd.{DonorEnd}
use Rattle.clone_desk.specs.declared.record.DonorEnd.TheVariants.{Waits, Out, Back}
use Rattle.clone_desk.specs.declared.record.Record.{Record}
use Rattle.clone_desk.specs.Desks.{DeskModel, IsNamed}
use Rattle.clone_desk.specs.Records.{HasEnds, IsDonorEnd, IsEnd, IsNew, handed_out, name_of, or_back, or_some, with_end}
use Rattle.clone_desk.specs.Settling.{donor_end}
use Rattle.clone_desk.specs.Steps.{Answers, CallFits, DeskEntry, DeskSteps}
use Rattle.clone_matched.specs.Telling.{Tells, TellsEnds}

module _ {X : Type 0} (P : X → Type 0) where
  -- one element of a list is changed
  set_each : (xs : List X) (place : ℕ) (there new : X) → get_or xs place there ≡ there → (P there → P new) → AllByRecursion P xs → AllByRecursion P (set xs place new)
  set_each [] place there new at keeps each = tt
  set_each (x ∷ xs) zero there new at keeps each = (keeps (subst P at each.0), each.1)
  set_each (x ∷ xs) (suc place) there new at keeps each = (each.0, set_each xs place there new at keeps each.1)

module _ {N L X : Type 0} (net : Net N L X) (link : Link L X) where
  -- the net made the connection, and its ends are the connection's
  abbrev IsKept : N → Record L → Type 0
  IsKept n r = net.made n (name_of link r) × HasEnds link r

  abbrev AreKept : DeskModel N L → Type 0
  AreKept s = AllByRecursion (IsKept s.net) s.records

  named_there : (rs : List (Record L)) (place : ℕ) (name : X) (there : Record L) → IsNamed link rs place name → get_or rs place there ≡ there → name ≡ name_of link there
  named_there [] place name there named at = absurd named
  named_there (r ∷ rs) zero name there named at = named ∙ ap (name_of link) at
  named_there (r ∷ rs) (suc place) name there named at = named_there rs place name there named at

  back_is : (name : X) (d : DonorEnd L) (end : L) → IsEnd link name Donor end → IsDonorEnd link name d → IsDonorEnd link name (or_back d end)
  back_is name (Waits e) end is was = was
  back_is name Out end is was = is
  back_is name (Back e) end is was = was

  some_is : (name : X) (r : Option L) (end : L) → IsEnd link name Requester end → IfSome r (IsEnd link name Requester) → IfSome (or_some r end) (IsEnd link name Requester)
  some_is name None end is was = is
  some_is name (Some e) end is was = was

  with_kept : (n : N) (side : Side) (end : L) (there : Record L) → link.name end ≡ name_of link there → link.side end ≡ side → IsKept n there → IsKept n (with_end side end there)
  with_kept n Donor end there name side kept = (kept.0, record { donor = back_is (name_of link there) there.donor end (record { name_is = name; side_is = side }) kept.1.donor; requester = kept.1.requester })
  with_kept n Requester end there name side kept = (kept.0, record { donor = kept.1.donor; requester = some_is (name_of link there) there.requester end (record { name_is = name; side_is = side }) kept.1.requester })

  kept_by : (s : DeskModel N L) (c : DeskCall L) (a : DeskAnswer L) (t : DeskModel N L) → CallFits link c s → Answers net link s c a t → AreKept s → AreKept t
  kept_by s (call.Pair task) (answer.Paired (Ok r)) t fits does kept =
      let m = does.made in
      let old = each_map (IsKept s.net) (IsKept t.net) (λ x k. (does.keeps (name_of link x) k.0, k.1)) s.records kept in
      let name : link.name m.about.value ≡ link.name r.1 = ap link.name m.named in
      let new : IsKept t.net (record { task = task; about = m.about; donor = Waits m.donor; requester = None }) = (
        subst (net.made t.net) (sym name) m.made,
        record { donor = subst (λ x. IsNew link x Donor m.donor) (sym name) m.donor_is; requester = tt },
      ) in
      subst (AllByRecursion (IsKept t.net)) (sym m.records) (each_append (IsKept t.net) s.records (record { task = task; about = m.about; donor = Waits m.donor; requester = None } ∷ []) old (new, tt))
  kept_by s (call.Pair task) (answer.Paired (Err e)) t fits does kept =
      subst (AllByRecursion (IsKept t.net)) (sym does.refused.records) (each_map (IsKept s.net) (IsKept t.net) (λ x k. (does.keeps (name_of link x) k.0, k.1)) s.records kept)
  kept_by s (call.Pair task) (answer.HandedOut result) t fits does kept = absurd does
  kept_by s (call.Pair task) answer.Kept t fits does kept = absurd does
  kept_by s (call.DonorEnd task) (answer.Paired result) t fits does kept = absurd does
  kept_by s (call.DonorEnd task) (answer.HandedOut (Some r)) t fits does kept =
      let P : N → Type 0 = λ n. AllByRecursion (IsKept n) (set s.records r.0 (handed_out does.there)) in
      subst (AllByRecursion (IsKept t.net)) (sym does.records)
      (subst P (sym does.net_is) (set_each (IsKept s.net) s.records r.0 does.there (handed_out does.there) does.at (λ k. (k.0, record { donor = tt; requester = k.1.requester })) kept))
  kept_by s (call.DonorEnd task) (answer.HandedOut None) t fits does kept = subst AreKept (sym does.1) kept
  kept_by s (call.DonorEnd task) answer.Kept t fits does kept = absurd does
  kept_by s (call.GiveBack place side end) (answer.Paired result) t fits does kept = absurd does
  kept_by s (call.GiveBack place side end) (answer.HandedOut result) t fits does kept = absurd does
  kept_by s (call.GiveBack place side end) answer.Kept t fits does kept =
      let P : N → Type 0 = λ n. AllByRecursion (IsKept n) (set s.records place (with_end side end does.there)) in
      let name = named_there s.records place (link.name end) does.there fits.0 does.at in
      subst (AllByRecursion (IsKept t.net)) (sym does.records)
      (subst P (sym does.net) (set_each (IsKept s.net) s.records place does.there (with_end side end does.there) does.at (λ k. with_kept s.net side end does.there name fits.1 k) kept))

  kept_at_end : (first : DeskModel N L) (run : List (DeskEntry N L)) → AreKept first → IsLegalRun (DeskSteps net link) first run → AreKept (end_of first run)
  kept_at_end first [] kept legal = kept
  kept_at_end first (e ∷ run) kept legal = kept_at_end e.after run (kept_by first e.call e.answer e.after legal.0.fits legal.0.does kept) legal.1

  donor_tells : (n : N) (name : X) (d : DonorEnd L) → ((e : L) → net.made n (link.name e) → Tells link e) → net.made n name → IsDonorEnd link name d → IfSome (donor_end d) (Tells link)
  donor_tells n name (Waits e) tells made is = tells e (subst (net.made n) (sym is.is.name_is) made)
  donor_tells n name Out tells made is = tt
  donor_tells n name (Back e) tells made is = tells e (subst (net.made n) (sym is.name_is) made)

  task_tells : (n : N) (name : X) (r : Option L) → ((e : L) → net.made n (link.name e) → Tells link e) → net.made n name → IfSome r (IsEnd link name Requester) → IfSome r (Tells link)
  task_tells n name None tells made is = tt
  task_tells n name (Some e) tells made is = tells e (subst (net.made n) (sym is.name_is) made)

  -- where each end of a connection that the net made tells its bytes, those at the desk do
  pub all_tell : (first : DeskModel N L) (run : List (DeskEntry N L)) → first.records ≡ [] → IsLegalRun (DeskSteps net link) first run → ((e : L) → net.made (end_of first run).net (link.name e) → Tells link e)
      → AllByRecursion (TellsEnds link) (end_of first run).records
  all_tell first run empty legal tells =
      let kept = kept_at_end first run (subst (AllByRecursion (IsKept first.net)) (sym empty) tt) legal in
      let n = (end_of first run).net in
      each_map (IsKept n) (TellsEnds link) (λ r k. (donor_tells n (name_of link r) r.donor tells k.0 k.1.donor, task_tells n (name_of link r) r.requester tells k.0 k.1.requester)) (end_of first run).records kept

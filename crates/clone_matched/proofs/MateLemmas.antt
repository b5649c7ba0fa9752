-- THE TWO ENDS OF A CONNECTION that was lent to a task and served for it, once the desk is settled.
use Rattle.std.proofs.Common.{ℕ, ◌≡◌, ◌≤◌, ◌⊎◌, List, [], map, length, refl, sym, ap, ◌∙◌, subst, Some, inl, inr, arith}
use Rattle.std.specs.Prelude.{IfSome}
use Rattle.std.specs.declared.option.Option.{Option}
use Rattle.std.specs.List.{AllByRecursion}
use Rattle.clone_outside.specs.Link.{IsUnused}
use Rattle.clone_outside.specs.declared.link.Side.{Side}
use Rattle.clone_outside.specs.declared.link.Side.TheVariants.{Donor, Requester}
use Rattle.clone_outside.specs.declared.link.Link.{Ghosts as Link}
use Rattle.clone_outside.specs.declared.link.Net.{Ghosts as Net}
use Rattle.clone_turn.specs.Parts.{IsMadeOf}
use Rattle.clone_turn.specs.Rule.{total}
use Rattle.clone_turn.specs.Runs.{IsLegalRun, end_of}
use Rattle.clone_turn.proofs.EachLemmas.{each_map}
use Rattle.clone_desk.specs.declared.record.Record.{Record}
use Rattle.clone_desk.specs.Desks.{DeskModel}
use Rattle.clone_desk.specs.Settling.{AreAlike, IsSettled, donor_end}
use Rattle.clone_desk.specs.Steps.{DeskEntry, DeskSteps}
use Rattle.clone_reading.specs.Lending.{Lent}
use Rattle.clone_matched.specs.Parts.{AreApart, DeskPart, UsesDesk, asked_of}
use Rattle.clone_matched.specs.Telling.{Tells, TellsEnds}
use Rattle.clone_matched.proofs.HasLemmas.{Has, has_both, has_one, has_to}
use Rattle.clone_matched.proofs.PlaceLemmas.{IsAt, at_each, at_low, at_one}
use Rattle.clone_matched.proofs.ChangeLemmas.{gives_at, lends_at}
use Rattle.clone_matched.proofs.OnceLemmas.{came_from, lent_once}
use Rattle.clone_matched.proofs.LentLemmas.{DonorsEnd, NeverServed, TaskEnd, donors_end, task_end}
use Rattle.clone_matched.proofs.PartLemmas.{LentTo, each_lent, lent_to, part_within, run_even, seats_one}

module _ {L X : Type 0} (link : Link L X) where
  -- THE TWO ENDS of one connection, as they came back
  pub record AreMates (at_donor at_task : Lent L) : Type 0 where
    pub place : at_donor.place ≡ at_task.place
    pub alike : AreAlike link at_donor.back at_task.back
    pub donor_tells : Tells link at_donor.back
    pub task_tells : Tells link at_task.back

  -- an end whose other was never handed out
  pub record IsAlone (at_task : Lent L) : Type 0 where
    pub other : L
    pub sent : IsUnused (link.sent other)
    pub received : IsUnused (link.received other)
    pub alike : AreAlike link other at_task.back
    pub other_tells : Tells link other
    pub tells : Tells link at_task.back

  -- of a record at which both ends are
  pub record HaveSettled (donor requester : L) : Type 0 where
    pub alike : AreAlike link donor requester
    pub donor_tells : Tells link donor
    pub requester_tells : Tells link requester

  have_settled : (r : Record L) (donor requester : L) → donor_end r.donor ≡ Some donor → r.requester ≡ Some requester → IsSettled link r → TellsEnds link r → HaveSettled donor requester
  have_settled r donor requester one two settled tells =
      let a : IfSome (donor_end r.donor) (λ d. IfSome (Some requester) (AreAlike link d)) = subst (λ (o : Option L). IfSome (donor_end r.donor) (λ d. IfSome o (AreAlike link d))) two settled in
      let b : IfSome (Some donor) (λ d. IfSome (Some requester) (AreAlike link d)) = subst (λ (o : Option L). IfSome o (λ d. IfSome (Some requester) (AreAlike link d))) one a in
      record {
        alike = b;
        donor_tells = subst (λ (o : Option L). IfSome o (Tells link)) one tells.0;
        requester_tells = subst (λ (o : Option L). IfSome o (Tells link)) two tells.1;
      }

  module _ (rs : List (Record L)) (settled : AllByRecursion (IsSettled link) rs) (tells : AllByRecursion (TellsEnds link) rs) where
    are_mates : (n t u : ℕ) (y x : Lent L) → DonorsEnd link rs t y.place y.back → TaskEnd link rs u x.place x.back n → y.place ≡ x.place → AreMates y x
    are_mates n t u y x mine its place =
        let one : its.its ≡ mine.its = at_one rs x.place its.its mine.its its.at (subst (λ k. IsAt rs k mine.its) place mine.at) in
        let donor : donor_end its.its.donor ≡ Some y.back = ap (λ (r : Record L). donor_end r.donor) one ∙ ap donor_end mine.donor in
        let have = have_settled its.its y.back x.back donor its.requester (at_each (IsSettled link) rs x.place its.its its.at settled) (at_each (TellsEnds link) rs x.place its.its its.at tells) in
        record { place = place; alike = have.alike; donor_tells = have.donor_tells; task_tells = have.requester_tells }

    is_alone : (n u : ℕ) (x : Lent L) (its : TaskEnd link rs u x.place x.back n) → NeverServed link its.its → IsAlone x
    is_alone n u x its never =
        let have = have_settled its.its never.end x.back (ap donor_end never.waits) its.requester (at_each (IsSettled link) rs x.place its.its its.at settled) (at_each (TellsEnds link) rs x.place its.its its.at tells) in
        record { other = never.end; sent = never.sent; received = never.received; alike = have.alike; other_tells = have.donor_tells; tells = have.requester_tells }

module _ {N L X : Type 0} (net : Net N L X) (link : Link L X) (first : DeskModel N L) (run : List (DeskEntry N L)) (parts : List (DeskPart N L)) where
  -- WHAT A RUN OF SEATS IS, with its connections settled
  pub record RunSettled : Type 0 where
    pub empty : first.records ≡ []
    pub legal : IsLegalRun (DeskSteps net link) first run
    pub made : IsMadeOf (map asked_of parts) run
    pub uses : AllByRecursion UsesDesk parts
    pub apart : AreApart parts
    pub settled : AllByRecursion (IsSettled link) (end_of first run).records
    pub tells : AllByRecursion (TellsEnds link) (end_of first run).records

  module _ (is : RunSettled) where
    abbrev Handed : ℕ → ℕ
    Handed place = total (lends_at Donor place) run

    -- each end comes back once
    back_once : (side : Side) (k : ℕ) → total (gives_at side k) run ≤ 1
    back_once side k = let same = run_even side k parts run is.made is.uses in let once = lent_once net link side k first run is.legal in omega (arith, same, once)

    abbrev AtTask : DeskPart N L → Lent L → Type 0
    AtTask q x = TaskEnd link (end_of first run).records q.task x.place x.back (Handed x.place)

    abbrev AtDonor : DeskPart N L → Lent L → Type 0
    AtDonor p y = DonorsEnd link (end_of first run).records p.task y.place y.back

    task_ends : (i : ℕ) (q : DeskPart N L) → IsAt parts i q → q.side ≡ Requester → AllByRecursion (AtTask q) q.lent
    task_ends i q at side =
        each_lent (AtTask q) run Requester q.task q.lent q.asked
        (λ x e f asks lends gives within. task_end link net first run e f q.task x.place x.taken x.back (Handed x.place) is.legal asks lends gives within (back_once Requester x.place) (omega arith))
        (subst (λ s. UsesDesk (record q { side = s })) side (at_each UsesDesk parts i q at is.uses)) (part_within parts run i q is.made at)

    donor_ends : (i : ℕ) (p : DeskPart N L) → IsAt parts i p → p.side ≡ Donor → AllByRecursion (AtDonor p) p.lent
    donor_ends i p at side =
        each_lent (AtDonor p) run Donor p.task p.lent p.asked
        (λ y e f asks lends gives within. donors_end link net first run e f p.task y.place y.taken y.back is.legal asks lends gives within (back_once Donor y.place) (lent_once net link Donor y.place first run is.legal))
        (subst (λ s. UsesDesk (record p { side = s })) side (at_each UsesDesk parts i p at is.uses)) (part_within parts run i p is.made at)

    -- the ends at a place are those of one task
    same_task : (n t u k : ℕ) (y x : Lent L) → DonorsEnd link (end_of first run).records t y.place y.back → TaskEnd link (end_of first run).records u x.place x.back n → y.place ≡ k → x.place ≡ k → u ≡ t
    same_task n t u k y x mine its here there =
        let one : its.its ≡ mine.its = at_one (end_of first run).records k its.its mine.its (subst (λ m. IsAt (end_of first run).records m its.its) there its.at) (subst (λ m. IsAt (end_of first run).records m mine.its) here mine.at) in
        sym its.task_is ∙ (ap (λ (r : Record L). r.task) one ∙ mine.task_is)

    module _ (i j : ℕ) (p q : DeskPart N L) (at_donor : IsAt parts i p) (at_task : IsAt parts j q) (donor : p.side ≡ Donor) (task : q.side ≡ Requester) (same : p.task ≡ q.task) where
      -- AN END THAT WAS SERVED is the other of one that the task made
      served_mate : (y : Lent L) → AtDonor p y → Has (AreMates link y) q.lent
      served_mate y mine =
          let came = came_from net link y.place first run is.legal (let none = ap length is.empty in omega (arith, none)) (at_low (end_of first run).records y.place mine.its mine.at) in
          let to : LentTo Requester y.place parts = lent_to Requester y.place parts run is.made is.uses came in
          let both : Has (λ x. AtTask to.seat x × (x.place ≡ y.place)) to.seat.lent = has_both (AtTask to.seat) (λ x. x.place ≡ y.place) to.seat.lent (task_ends to.number to.seat to.at to.side_is) to.lent in
          let some = has_one (λ x. AtTask to.seat x × (x.place ≡ y.place)) to.seat.lent both in
          let tasks : to.seat.task ≡ q.task = same_task (Handed some.0.place) p.task to.seat.task y.place y some.0 mine some.1.0 refl some.1.1 ∙ same in
          let seat : to.seat ≡ q = seats_one parts to.number j to.seat q is.apart to.at at_task (to.side_is ∙ sym task) tasks in
          subst (λ (s : DeskPart N L). Has (AreMates link y) s.lent) seat
          (has_to (λ x. AtTask to.seat x × (x.place ≡ y.place)) (AreMates link y)
          (λ x its. are_mates link (end_of first run).records is.settled is.tells (Handed x.place) p.task to.seat.task y x mine its.0 (sym its.1)) to.seat.lent both)

      -- AN END OF THE TASK was served, or its other was never handed out
      task_mate : (x : Lent L) → AtTask q x → Has (λ y. AreMates link y x) p.lent ⊎ IsAlone link x
      task_mate x its = by its.donor
        where
          by : NeverServed link its.its ⊎ (1 ≤ Handed x.place) → Has (λ y. AreMates link y x) p.lent ⊎ IsAlone link x
          by (inl never) = inr (is_alone link (end_of first run).records is.settled is.tells (Handed x.place) q.task x its never)
          by (inr handed) =
              let to : LentTo Donor x.place parts = lent_to Donor x.place parts run is.made is.uses handed in
              let both : Has (λ y. AtDonor to.seat y × (y.place ≡ x.place)) to.seat.lent = has_both (AtDonor to.seat) (λ y. y.place ≡ x.place) to.seat.lent (donor_ends to.number to.seat to.at to.side_is) to.lent in
              let some = has_one (λ y. AtDonor to.seat y × (y.place ≡ x.place)) to.seat.lent both in
              let tasks : to.seat.task ≡ p.task = sym (same_task (Handed x.place) to.seat.task q.task x.place some.0 x some.1.0 its some.1.1 refl) ∙ sym same in
              let seat : to.seat ≡ p = seats_one parts to.number i to.seat p is.apart to.at at_donor (to.side_is ∙ sym donor) tasks in
              inl (subst (λ (s : DeskPart N L). Has (λ y. AreMates link y x) s.lent) seat
              (has_to (λ y. AtDonor to.seat y × (y.place ≡ x.place)) (λ y. AreMates link y x)
              (λ y mine. are_mates link (end_of first run).records is.settled is.tells (Handed x.place) to.seat.task q.task y x mine.0 its mine.1) to.seat.lent both))

      pub all_served : AllByRecursion (λ y. Has (AreMates link y) q.lent) p.lent
      all_served = each_map (AtDonor p) (λ y. Has (AreMates link y) q.lent) served_mate p.lent (donor_ends i p at_donor donor)

      pub all_mates : AllByRecursion (λ x. Has (λ y. AreMates link y x) p.lent ⊎ IsAlone link x) q.lent
      all_mates = each_map (AtTask q) (λ x. Has (λ y. AreMates link y x) p.lent ⊎ IsAlone link x) task_mate q.lent (task_ends j q at_task task)

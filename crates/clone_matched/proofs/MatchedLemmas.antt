-- What passed at the two ends of a connection, as frames.
use Rattle.std.proofs.Common.{ℕ, ◌≡◌, ◌⊎◌, List, [], ◌∷◌, refl, sym, ◌∙◌, Some, None, inl, inr, arith}
use Rattle.std.specs.Prelude.{Contains}
use Rattle.std.specs.declared.option.Option.{Option}
use Rattle.std.specs.List.{AllByRecursion}
use Rattle.clone_outside.specs.Link.{IsUnused}
use Rattle.clone_outside.specs.declared.link.Side.TheVariants.{Donor, Requester}
use Rattle.clone_outside.specs.declared.link.Link.{Ghosts as Link}
use Rattle.clone_outside.specs.declared.link.Net.{Ghosts as Net}
use Rattle.clone_wire.specs.declared.frame.Side.{Side}
use Rattle.clone_wire.specs.declared.frame.Side.TheVariants.{Answer, Command}
use Rattle.clone_runs.specs.Spellings.{AreToldFrom}
use Rattle.clone_runs.specs.Ends.{AreEnds, EndBytes, IsSettled, WereSent, WereTaken}
use Rattle.clone_runs.specs.Connections.{AreOf, IsOneOf, WasServed}
use Rattle.clone_desk.specs.Desks.{DeskModel}
use Rattle.clone_desk.specs.Steps.{DeskEntry}
use Rattle.clone_reading.specs.Lending.{Lent}
use Rattle.clone_reading.specs.Passing.{Each, PassedBytes, PassedDonor, PassedTask}
use Rattle.clone_reading.specs.Reading.{AreSpelled, Bytes, as_they_are}
use Rattle.clone_matched.specs.Parts.{DeskPart}
use Rattle.clone_matched.specs.Telling.{bytes_at}
use Rattle.clone_matched.proofs.HasLemmas.{Has}
use Rattle.clone_matched.proofs.PartLemmas.{stands}
use Rattle.clone_matched.proofs.MateLemmas.{AreMates, IsAlone, RunSettled, all_mates, all_served}

-- an end at which nothing passed took and sent no frame
none_taken : (received : Option (List ℕ)) → WereTaken as_they_are received []
none_taken None = tt
none_taken (Some bytes) = (bytes, refl)

none_sent : (sent : Option (List ℕ)) → IsUnused sent → WereSent as_they_are sent []
none_sent None unused = tt
none_sent (Some []) unused = ([], refl)
none_sent (Some (x ∷ xs)) unused = absurd (omega (arith, unused))

-- what is known of frames
pub record FrameLaws : Type 0 where
  pub ends : (command answer : Bytes → List ℕ) (at_donor at_task : EndBytes) (donor task : PassedBytes) → IsSettled command answer at_donor at_task donor task → AreEnds donor task
  pub unserved : (donor task : PassedBytes) → AreEnds donor task → donor.answers ≡ [] → task.answers ≡ []
  pub apart : (side : Side) (xs ys : List Bytes) → AreSpelled side xs → AreSpelled side ys → AreToldFrom as_they_are xs ys

module _ (laws : FrameLaws) {L X : Type 0} (link : Link L X) where
  mates_end : (y x : Lent L) (d m : PassedBytes) → AreMates link y x → PassedDonor link y d → PassedTask link x m → AreEnds d m
  mates_end y x d m mates donor task = laws.ends as_they_are as_they_are (bytes_at link y.back) (bytes_at link x.back) d m record {
    place = donor.place ∙ (mates.place ∙ sym task.place);
    told = (mates.donor_tells, mates.task_tells);
    to_donor = mates.alike.to_donor;
    to_task = mates.alike.to_requester;
    asked = task.asked;
    heard = donor.heard;
    answered = donor.answered;
    taken = task.taken;
    commands = laws.apart Command d.commands m.commands donor.commands task.commands;
    answers = laws.apart Answer m.answers d.answers task.answers donor.answers;
  }

  -- no answer came from one that nobody served
  alone_none : (x : Lent L) (m : PassedBytes) → IsAlone link x → PassedTask link x m → m.answers ≡ []
  alone_none x m alone task =
      let quiet : PassedBytes = record { place = m.place; commands = []; answers = [] } in
      laws.unserved quiet m (laws.ends as_they_are as_they_are (bytes_at link alone.other) (bytes_at link x.back) quiet m record {
        place = refl;
        told = (alone.other_tells, alone.tells);
        to_donor = alone.alike.to_donor;
        to_task = alone.alike.to_requester;
        asked = task.asked;
        heard = none_taken (link.received alone.other);
        answered = none_sent (link.sent alone.other) alone.sent;
        taken = task.taken;
        commands = tt;
        answers = laws.apart Answer m.answers [] task.answers tt;
      }) refl

  one_of : (y : Lent L) (d : PassedBytes) (lent : List (Lent L)) (made : List PassedBytes) → PassedDonor link y d → Each (PassedTask link) lent made → Has (AreMates link y) lent → IsOneOf made d
  one_of y d [] made donor each has = absurd has
  one_of y d (x ∷ lent) [] donor each has = absurd each
  one_of y d (x ∷ lent) (m ∷ made) donor each (inl mates) = inl (mates_end y x d m mates donor each.0)
  one_of y d (x ∷ lent) (m ∷ made) donor each (inr has) = inr (one_of y d lent made donor each.1 has)

  are_of : (mine its : List (Lent L)) (served made : List PassedBytes) → Each (PassedDonor link) mine served → Each (PassedTask link) its made
      → AllByRecursion (λ y. Has (AreMates link y) its) mine → AreOf served made
  are_of [] its [] made donors tasks all = tt
  are_of [] its (d ∷ served) made donors tasks all = absurd donors
  are_of (y ∷ mine) its [] made donors tasks all = absurd donors
  are_of (y ∷ mine) its (d ∷ served) made donors tasks all = (one_of y d its made donors.0 tasks all.0, are_of mine its served made donors.1 tasks all.1)

  silent : (served : List PassedBytes) (m : PassedBytes) → m.answers ≡ [] → WasServed served m
  silent [] m none = none
  silent (d ∷ served) m none = inr (silent served m none)

  was_served : (x : Lent L) (m : PassedBytes) (lent : List (Lent L)) (served : List PassedBytes) → PassedTask link x m → Each (PassedDonor link) lent served → Has (λ y. AreMates link y x) lent
      → WasServed served m
  was_served x m [] served task each has = absurd has
  was_served x m (y ∷ lent) [] task each has = absurd each
  was_served x m (y ∷ lent) (d ∷ served) task each (inl mates) = inl (mates_end y x d m mates each.0 task)
  was_served x m (y ∷ lent) (d ∷ served) task each (inr has) = inr (was_served x m lent served task each.1 has)

  heard : (x : Lent L) (m : PassedBytes) (mine : List (Lent L)) (served : List PassedBytes) → PassedTask link x m → Each (PassedDonor link) mine served
      → Has (λ y. AreMates link y x) mine ⊎ IsAlone link x → WasServed served m
  heard x m mine served task donors (inl has) = was_served x m mine served task donors has
  heard x m mine served task donors (inr alone) = silent served m (alone_none x m alone task)

  all_heard : (mine its : List (Lent L)) (served made : List PassedBytes) → Each (PassedDonor link) mine served → Each (PassedTask link) its made
      → AllByRecursion (λ x. Has (λ y. AreMates link y x) mine ⊎ IsAlone link x) its → AllByRecursion (WasServed served) made
  all_heard mine [] served [] donors tasks all = tt
  all_heard mine [] served (m ∷ made) donors tasks all = absurd tasks
  all_heard mine (x ∷ its) served [] donors tasks all = absurd tasks
  all_heard mine (x ∷ its) served (m ∷ made) donors tasks all = (heard x m mine served tasks.0 donors all.0, all_heard mine its served made donors tasks.1 all.1)

  module _ {N : Type 0} (net : Net N L X) where
    pub matched : (first : DeskModel N L) (run : List (DeskEntry N L)) (parts : List (DeskPart N L)) → RunSettled net link first run parts → (p q : DeskPart N L) → Contains parts p → Contains parts q
        → p.side ≡ Donor → q.side ≡ Requester → p.task ≡ q.task → (at_donor at_task : List PassedBytes) → Each (PassedDonor link) p.lent at_donor → Each (PassedTask link) q.lent at_task
        → AreOf at_donor at_task × AllByRecursion (WasServed at_donor) at_task
    matched first run parts is p q has_p has_q donor task same at_donor at_task donors tasks =
        let one = stands parts p has_p in
        let two = stands parts q has_q in (
          are_of p.lent q.lent at_donor at_task donors tasks (all_served net link first run parts is one.0 two.0 p q one.1 two.1 donor task same),
          all_heard p.lent q.lent at_donor at_task donors tasks (all_mates net link first run parts is one.0 two.0 p q one.1 two.1 donor task same),
        )

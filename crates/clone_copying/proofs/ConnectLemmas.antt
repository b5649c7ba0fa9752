-- The connections of a task, one after the other.
use Rattle.std.proofs.Common.{ℕ, ◌≡◌, ◌∙◌, List, [], ◌∷◌, ◌++◌, Option, Result, Ok, Err, IfOk, refl, ap, sym, subst}
use Rattle.std.proofs.lemmas.List.{append-nil, append_assoc}
use Rattle.clone_outside.specs.declared.Refusal.{Refusal}
use Rattle.clone_outside.specs.declared.link.Side.TheVariants.{Requester}
use Rattle.clone_outside.specs.declared.link.Link.{Ghosts as Link}
use Rattle.clone_outside.specs.declared.link.Net.{Ghosts as Net}
use Rattle.clone_desk.specs.Records.{IsNew}
use Rattle.clone_desk.specs.Steps.{DeskEntry, DeskSteps}
use Rattle.clone_desk.specs.declared.machine.DeskAnswer.TheVariants as answer
use Rattle.clone_desk.specs.declared.machine.DeskCall.TheVariants as call
use Rattle.clone_desk.specs.Desks.{DeskModel, Fits, Makes}
use Rattle.clone_copying.specs.Calling.{Calls, IsOne}
use Rattle.clone_copying.specs.Connecting.{AreLent, Connects, DeskSeat, IsWelcome, Lends, none, refused}
use Rattle.clone_copying.proofs.CallingLemmas.{last_step, worked_call}

module _ {N L X : Type 0} (net : Net N L X) (link : Link L X) where
  -- an end that was just made is new
  pub made_new : (v w : DeskSeat N L) (task : ℕ) (result : Result (ℕ × L) Refusal) → Calls (DeskSteps net link) v (call.Pair task) (answer.Paired result) w → IfOk result (λ r. IsNew link (link.name r.1) Requester r.1)
  made_new v w task (Err e) called = tt
  made_new v w task (Ok r) called = (worked_call (DeskSteps net link) v w (call.Pair task) (answer.Paired (Ok r)) called).2.1.2.does.made.end_is

  -- an end that is made at a place fits it
  abbrev pub FitsMade : Type 0
  FitsMade = (s t : DeskModel N L) (task place : ℕ) (end e : L) → Makes net link s task place end t → ◌≡◌ (link.name e) (link.name end) → link.side e ≡ Requester → Fits link t place Requester e

  -- and so it is welcome there
  pub made_welcome : FitsMade → (v w : DeskSeat N L) (task : ℕ) (result : Result (ℕ × L) Refusal) → Calls (DeskSteps net link) v (call.Pair task) (answer.Paired result) w → IfOk result (λ r. IsWelcome link w r.0 r.1)
  made_welcome fits v w task (Err e) called = tt
  made_welcome fits v w task (Ok r) called = λ end name side first is.
      let step = last_step (DeskSteps net link) v w (call.Pair task) (answer.Paired (Ok r)) called first is in
      fits step.0 _ task r.0 r.1 end step.1.does.made name side

  -- no other answer comes
  pub never_handed : (v w : DeskSeat N L) (task : ℕ) (result : Option (ℕ × L)) → Calls (DeskSteps net link) v (call.Pair task) (answer.HandedOut result) w → ⊥
  never_handed v w task result called = (worked_call (DeskSteps net link) v w (call.Pair task) (answer.HandedOut result) called).2.1.2.does

  pub never_kept : (v w : DeskSeat N L) (task : ℕ) → Calls (DeskSteps net link) v (call.Pair task) answer.Kept w → ⊥
  never_kept v w task called = (worked_call (DeskSteps net link) v w (call.Pair task) answer.Kept called).2.1.2.does

  pub back_paired : (v w : DeskSeat N L) (place : ℕ) (end : L) (result : Result (ℕ × L) Refusal) → Calls (DeskSteps net link) v (call.GiveBack place Requester end) (answer.Paired result) w → ⊥
  back_paired v w place end result called = (worked_call (DeskSteps net link) v w (call.GiveBack place Requester end) (answer.Paired result) called).2.1.2.does

  pub back_handed : (v w : DeskSeat N L) (place : ℕ) (end : L) (result : Option (ℕ × L)) → Calls (DeskSteps net link) v (call.GiveBack place Requester end) (answer.HandedOut result) w → ⊥
  back_handed v w place end result called = (worked_call (DeskSteps net link) v w (call.GiveBack place Requester end) (answer.HandedOut result) called).2.1.2.does

module _ {N L : Type 0} where
  lends_one : (task : ℕ) (end : L × L) (made : List (DeskEntry N L)) → Lends task end made → AreLent task (end ∷ []) made
  lends_one task end made lends = (made, [], sym (append-nil made), lends, refl)

  pub lent_one : (task place : ℕ) (end back : L) (xs ys : List (DeskEntry N L)) → IsOne (call.Pair task) (answer.Paired (Ok (place, end))) xs → IsOne (call.GiveBack place Requester back) answer.Kept ys
      → AreLent task ((end, back) ∷ []) (xs ++ ys)
  lent_one task place end back xs ys pair kept = lends_one task (end, back) (xs ++ ys) (place, xs, ys, refl, pair, kept)

  pub lent_more : (task : ℕ) (ends more : List (L × L)) (xs ys : List (DeskEntry N L)) → AreLent task ends xs → AreLent task more ys → AreLent task (ends ++ more) (xs ++ ys)
  lent_more task [] more xs ys lent next = subst (λ (zs : List (DeskEntry N L)). AreLent task more (zs ++ ys)) (sym lent) next
  lent_more task (end ∷ ends) more xs ys lent next =
      (lent.0, lent.1 ++ ys, ap (λ zs. zs ++ ys) lent.2 ∙ append_assoc lent.0 lent.1 ys, lent.3, lent_more task ends more lent.1 ys lent.4 next)

  pub connects_more : (task : ℕ) (ends more : List (L × L)) (xs ys : List (DeskEntry N L)) → AreLent task ends xs → Connects task more ys → Connects task (ends ++ more) (xs ++ ys)
  connects_more task ends more xs ys lent next = record {
    lent = xs ++ next.lent;
    last = next.last;
    is = ap (λ zs. xs ++ zs) next.is ∙ sym (append_assoc xs next.lent next.last);
    ends_lent = lent_more task ends more xs next.lent lent next.ends_lent;
    no_more = next.no_more;
  }

  pub connects_lent : (task : ℕ) (ends : List (L × L)) (made : List (DeskEntry N L)) → AreLent task ends made → Connects task ends made
  connects_lent task ends made lent = record {
    lent = made;
    last = [];
    is = sym (append-nil made);
    ends_lent = lent;
    no_more = none refl;
  }

  pub connects_none : (task : ℕ) → Connects {N = N} {L = L} task [] []
  connects_none task = connects_lent task [] [] refl

  pub connects_refused : (task : ℕ) (cause : Refusal) (made : List (DeskEntry N L)) → IsOne (call.Pair task) (answer.Paired (Err cause)) made → Connects task [] made
  connects_refused task cause made one = record {
    lent = [];
    last = made;
    is = refl;
    ends_lent = refl;
    no_more = refused cause one;
  }

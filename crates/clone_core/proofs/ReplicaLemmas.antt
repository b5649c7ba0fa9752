-- What follows a clone becomes another, and all else of the world stays.
use Rattle.std.proofs.Common.{◌≡◌, ◌∙◌, ◌-◌, ◌<◌, ℕ, List, [], ◌∷◌, ◌++◌, length, length-append, arith, Bool, false, refl, sym, ap, subst, Option, None, Some, MatchOption, Ok, nat_cmp, slice_get, get_or}
use Rattle.std.proofs.lemmas.Option.{same_Some, slice_get-get_or}
use Rattle.std.specs.FinMap as finite
use Rattle.std.specs.Option.{option_map}
use Rattle.clone_follow.specs.Following.{Following, Takes}
use Rattle.clone_follow.specs.declared.frame.FollowFrame.{FollowFrame}
use Rattle.clone_follow.specs.declared.frame.FollowFrame.TheVariants as frames
use Rattle.clone_plain.specs.Donor.{Donor}
use Rattle.clone_events.specs.Events.{Event, made, opened_follower, sent, taken, lost, set_to_lose, repeated, clone_after, counted, follower_after, replica_after, sent_after, IsAmong, IsNow, Sees, Shows}
use Rattle.clone_events.specs.World.{Clone, Replica}
use Rattle.clone_core.specs.declared.world.Course.{Course}
use Rattle.clone_core.specs.declared.world.Course.TheVariants as course
use Rattle.clone_core.specs.Copied.{Holds, HoldsEnded, KnowsItsSizes, GoOnTalking, GoesOn, world_of}
use Rattle.clone_core.specs.Following.{Keeps, TakesFrame, Took, TookSo, with_replica, with_sent}
use Rattle.clone_core.specs.Lines.{State, Happens}
use Rattle.clone_core.specs.Steps.{SystemStep}
use Rattle.clone_core.specs.System.{System, donor_of}
use Rattle.clone_core.proofs.KeepLemmas.{for_told}

-- ---- what holds

module _ (s : System) (r : Replica) where
  abbrev Next : System
  Next = record s { replica = r }

  next_sizes : (way : Course) → KnowsItsSizes s way → KnowsItsSizes Next way
  next_sizes course.Absent is = tt
  next_sizes course.Unbegun is = tt
  next_sizes (course.Begun c) is = is

  next_goes : (way : Course) → GoesOn s way → GoesOn Next way
  next_goes course.Absent is = is
  next_goes course.Unbegun is = tt
  next_goes (course.Begun c) is = is

  next_talks : (way : Course) → GoOnTalking s way → GoOnTalking Next way
  next_talks course.Absent is = is
  next_talks course.Unbegun is = tt
  next_talks (course.Begun c) is = is

  pub replica_holds : (begun : finite.FinMap nat_cmp ℕ) (disturbed doubted shown : Bool) → Holds (world_of s begun disturbed doubted shown) → Holds (world_of Next begun disturbed doubted shown)
  replica_holds begun disturbed doubted shown holds = record {
    terms = holds.terms;
    parts = holds.parts;
    looked = holds.looked;
    short = holds.short;
    unstopped = holds.unstopped;
    sizes = next_sizes s.course holds.sizes;
    marked = holds.marked;
    goes_on = λ honest. next_goes s.course (holds.goes_on honest);
    talks = λ told honest. next_talks s.course (holds.talks told honest);
    steady = holds.steady;
    keeps = record {
      blank_before = holds.keeps.blank_before;
      commits = holds.keeps.commits;
      drops = holds.keeps.drops;
      holds = λ ended sure.
          for_told s.recipient.told (HoldsEnded (donor_of s) (world_of s begun disturbed doubted shown).clone) (HoldsEnded (donor_of s) (world_of Next begun disturbed doubted shown).clone)
          (λ m is. record { whole = is.whole; other = is.other; shown = is.shown }) (holds.keeps.holds ended (record { told = sure.told; honest = sure.honest; steady = sure.steady }));
    };
  }

-- ---- what happens

-- an event by which what follows the clone becomes another
abbrev pub IsOfReplica : Event → Type 0
IsOfReplica (opened_follower rows position) = Unit {0}
IsOfReplica (sent want frame) = Unit {0}
IsOfReplica (taken frame result) = Unit {0}
IsOfReplica (lost position) = Unit {0}
IsOfReplica set_to_lose = Unit {0}
IsOfReplica (repeated number frame result) = Unit {0}
IsOfReplica event = ⊥

steps_so : (e : Event) (s : System) (r : Replica) → IsOfReplica e → r ≡ replica_after e s.replica → SystemStep s e (record s { replica = r })
steps_so (opened_follower rows position) s r of is = ap (λ (x : Replica). record s { replica = x }) is
steps_so (sent want frame) s r of is = ap (λ (x : Replica). record s { replica = x }) is
steps_so (taken frame result) s r of is = ap (λ (x : Replica). record s { replica = x }) is
steps_so (lost position) s r of is = ap (λ (x : Replica). record s { replica = x }) is
steps_so set_to_lose s r of is = ap (λ (x : Replica). record s { replica = x }) is
steps_so (repeated number frame result) s r of is = ap (λ (x : Replica). record s { replica = x }) is
steps_so e s r of is = absurd of

becomes_so : (e : Event) (c : Clone) (r : Replica) → IsOfReplica e → r ≡ replica_after e c.replica → record c { replica = r } ≡ clone_after e c
becomes_so (opened_follower rows position) c r of is = ap (λ (x : Replica). record c { replica = x }) is
becomes_so (sent want frame) c r of is = ap (λ (x : Replica). record c { replica = x }) is
becomes_so (taken frame result) c r of is = ap (λ (x : Replica). record c { replica = x }) is
becomes_so (lost position) c r of is = ap (λ (x : Replica). record c { replica = x }) is
becomes_so set_to_lose c r of is = ap (λ (x : Replica). record c { replica = x }) is
becomes_so (repeated number frame result) c r of is = ap (λ (x : Replica). record c { replica = x }) is
becomes_so e c r of is = absurd of

counts_none : (e : Event) (begun : finite.FinMap nat_cmp ℕ) → IsOfReplica e → begun ≡ counted e begun
counts_none (made asked answer) begun of = absurd of
counts_none e begun of = refl

sees_none : (e : Event) (d : Donor) → IsOfReplica e → Sees d e
sees_none (made asked answer) d of = absurd of
sees_none e d of = tt

-- A world's system and its clone have the same replica.
abbrev pub IsOne : State → Type 0
IsOne s = s.donor.replica ≡ s.clone.replica

pub replica_happens : (s : State) (e : Event) (r : Replica) → IsOfReplica e → IsOne s → r ≡ replica_after e s.clone.replica → IsNow (donor_of s.donor) e → Shows (donor_of s.donor) s.tells s.clone e → Happens s e (with_replica r s)
replica_happens s e r of one is now shows = record {
  step = steps_so e s.donor r of (is ∙ ap (replica_after e) (sym one));
  begun = counts_none e s.begun of;
  clone = record { now = now; shows = shows; is = becomes_so e s.clone r of is };
  tells = refl;
  tasks = refl;
  sees = λ told. sees_none e (donor_of s.donor) of;
}

-- ---- an exchange

get_last : (xs : List FollowFrame) (x : FollowFrame) → slice_get (xs ++ x ∷ []) (length xs) ≡ Some x
get_last [] x = refl
get_last (y ∷ xs) x = get_last xs x

-- what was sent is among what was sent
pub among_sent : (frame : FollowFrame) (all : List FollowFrame) → IsAmong (sent_after frame all) frame
among_sent (frames.Commit position commit) all = (length all, get_last all (frames.Commit position commit))
among_sent (frames.Want position) all = tt
among_sent (frames.Current position) all = tt

-- the last of them is the frame
pub last_of : (all more : List FollowFrame) (frame found : FollowFrame) (count : ℕ) → more ≡ all ++ frame ∷ [] → count ≡ length more → found ≡ get_or more (count - 1) found → found ≡ frame
last_of all more frame found count is long at =
    let last : count - 1 ≡ length all = omega (arith, long, ap length is, length-append all (frame ∷ [])) in
    let within : count - 1 < length more = omega (arith, long, ap length is, length-append all (frame ∷ [])) in
    same_Some found frame (ap Some at ∙ sym (slice_get-get_or more (count - 1) found within) ∙ ap (slice_get more) last ∙ ap (λ (xs : List FollowFrame). slice_get xs (length all)) is ∙ get_last all frame)

-- what was kept, by what was given back
pub keeps_other : (old mid : Replica) (frame found : FollowFrame) (other : Option FollowFrame) → Keeps old frame (Ok other) mid → other ≡ Some found → (mid ≡ with_sent frame old) × (found ≡ frame)
keeps_other old mid frame found None keeps is = absurd (let e : None ≡ Some found = is in cc)
keeps_other old mid frame found (Some x) keeps is = (keeps.1, sym (same_Some x found is) ∙ keeps.0)

pub keeps_none : (old mid : Replica) (frame : FollowFrame) (other : Option FollowFrame) → Keeps old frame (Ok other) mid → other ≡ None → (mid ≡ with_sent frame old) × (mid.sent ≡ old.sent ++ frame ∷ [])
keeps_none old mid frame None keeps is = keeps
keeps_none old mid frame (Some x) keeps is = absurd (let e : Some x ≡ None = is in cc)

-- the follower took it
pub took_so : (old mid : Replica) (frame found : FollowFrame) (result : Took) (f g : Following) → mid ≡ with_sent frame old → found ≡ frame → mid.losing ≡ false → mid.follower ≡ Some f → TakesFrame f found (Ok result) g
    → (old.losing ≡ false) × IsAmong (with_sent frame old).sent frame × TookSo (with_sent frame old) frame result (record mid { follower = Some g })
took_so old mid frame found result f g is same losing follower takes =
    let there : (with_sent frame old).follower ≡ Some f = sym (ap (λ (r : Replica). r.follower) is) ∙ follower in
    let so : TakesFrame f frame (Ok result) g = subst (λ (x : FollowFrame). TakesFrame f x (Ok result) g) same takes in
    let now : Option Following → Type 0 = λ o. MatchOption o ⊥ (λ h. Takes h frame result (follower_after frame result h)) in (
      sym (ap (λ (r : Replica). r.losing) is) ∙ losing,
      among_sent frame old.sent,
      record {
        takes = subst now (sym there) (subst (λ (h : Following). Takes f frame result h) so.1 so.0);
        is = ap (λ (r : Replica). record r { follower = Some g }) is ∙ ap (λ (o : Option Following). record (with_sent frame old) { follower = o }) (ap Some so.1 ∙ sym (ap (option_map (follower_after frame result)) there));
      },
    )

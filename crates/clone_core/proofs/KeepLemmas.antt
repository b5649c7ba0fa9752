-- What is kept of a clone stays while the donor's history grows and the session comes to a stop.
use Rattle.std.proofs.Common.{◌≡◌, ◌≤◌, ◌∙◌, ℕ, List, Bool, false, length, refl, sym, ap, subst, arith, length-append, Option, Some, None, MatchOption, inl, inr}
use Rattle.std.specs.Option.{ForSome}
use Rattle.clone_outside.specs.Disk.{DiskImage, ForTold}
use Rattle.clone_model.specs.History.{Entry, fold}
use Rattle.clone_plain.specs.Donor.{Donor}
use Rattle.clone_staged.specs.Holds.{HoldsCopy}
use Rattle.clone_events.specs.World.{Stop, Clone, HasEnded, IsSure}
use Rattle.clone_events.proofs.BinlogLemmas.{Adds}
use Rattle.clone_events.proofs.StopLemmas.{before_stop-longer}
use Rattle.clone_events.specs.Events.{IsComplete}
use Rattle.clone_core.specs.Copied.{HoldsEnded, HoldsStop, KeepsClone}

pub for_told : (told : Option DiskImage) (P Q : DiskImage → Type 0) → ((m : DiskImage) → P m → Q m) → ForTold told P → ForTold told Q
for_told None P Q to is = tt
for_told (Some m) P Q to is = to m is

-- a stop within the history
abbrev pub AreWithin : Donor → Option Stop → Type 0
AreWithin d stop = ForSome stop (λ s. s.position ≤ length d.binlog) × ForSome stop (λ s. s.drops ≤ length d.drops)

-- a clone has come to its stop, or has the stop that it had
pub data StopsOn (old : Option Stop) : Option Stop → Type 0 where
  still : StopsOn old old
  first : (at : Stop) → old ≡ None → StopsOn old (Some at)

module _ (d e : Donor) (answered : List ℕ) (added : Adds d e answered) where
  pub commits_longer : (n : ℕ) → n ≤ length d.binlog → n ≤ length e.binlog
  commits_longer n low = omega (arith, low, ap length added.binlog, length-append d.binlog added.more)

  drops_longer : (n : ℕ) → n ≤ length d.drops → n ≤ length e.drops
  drops_longer n low = omega (arith, low, ap length added.drops, length-append d.drops added.gone)

  pub within_longer : (stop : Option Stop) → AreWithin d stop → AreWithin e stop
  within_longer stop is = (λ s at. commits_longer s.position (is.0 s at), λ s at. drops_longer s.drops (is.1 s at))

  stop_longer : (stop : Stop) (m : DiskImage) → stop.position ≤ length d.binlog → stop.drops ≤ length d.drops → HoldsStop d stop m → HoldsStop e stop m
  stop_longer stop m commits drops is =
      let P : List Entry → Type 0 = λ h. HoldsCopy m (fold h) stop.position in
      subst P (before_stop-longer stop d e answered (commits, drops) added) is

  same_stop : (stop : Option Stop) (m : DiskImage) → AreWithin d stop → MatchOption stop ⊥ (λ (s : Stop). HoldsStop d s m) → MatchOption stop ⊥ (λ (s : Stop). HoldsStop e s m)
  same_stop None m within is = is
  same_stop (Some stop) m within is = stop_longer stop m (within.0 stop refl) (within.1 stop refl) is

  stops_longer : (old new : Option Stop) (m : DiskImage) → StopsOn old new → AreWithin d old → MatchOption old ⊥ (λ (s : Stop). HoldsStop d s m) → MatchOption new ⊥ (λ (s : Stop). HoldsStop e s m)
  stops_longer old new m still within is = same_stop old m within is
  stops_longer old new m (first at none) within is = absurd (subst (λ (o : Option Stop). MatchOption o ⊥ (λ (s : Stop). HoldsStop d s m)) none is)

  -- a clone that has ended, which comes to its stop later only where it isn't complete
  ended_longer : (old new : Clone) (m : DiskImage) → new.progress ≡ old.progress → new.shown ≡ old.shown → StopsOn old.stop new.stop → AreWithin d old.stop → HoldsEnded d old m → HoldsEnded e new m
  ended_longer old new m progress shown on within is = record {
    whole = λ complete. stops_longer old.stop new.stop m on within (is.whole (subst IsComplete progress complete));
    other = elim is.other [
      | inl incomplete ↦ inl incomplete
      | inr held ↦ inr (stops_longer old.stop new.stop m on within held)
    ];
    shown = λ was. is.shown (sym shown ∙ was);
  }

  -- IT STAYS, where the new clone differs from the old one by what was looked up, by its floor, by
  -- the stop that it has come to or by having been disturbed.
  module _ (a b : Bool) (same : b ≡ a) (old new : Clone) (told : Option DiskImage) (progress : new.progress ≡ old.progress) (shown : new.shown ≡ old.shown) (doubted : new.doubted ≡ old.doubted)
      (honest : new.disturbed ≡ false → old.disturbed ≡ false) (on : StopsOn old.stop new.stop) where
    sure_before : IsSure b new → IsSure a old
    sure_before sure = record { told = sym same ∙ sure.told; honest = honest sure.honest; steady = sym doubted ∙ sure.steady }

    pub kept_longer : AreWithin e new.stop → KeepsClone d a old told → KeepsClone e b new told
    kept_longer within is = record {
      blank_before = λ none. is.blank_before (sym progress ∙ none);
      commits = within.0;
      drops = within.1;
      holds = λ ended sure. for_told told (HoldsEnded d old) (HoldsEnded e new) (λ m. ended_longer old new m progress shown on (is.commits, is.drops)) (is.holds (subst HasEnded progress ended) (sure_before sure));
    }

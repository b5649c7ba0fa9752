-- What is known of the connections that a desk had, once they are settled.
use Rattle.std.specs.Prelude.{ℕ, ◌+◌, ◌&&◌, if◌then◌else◌, List, [], ◌∷◌, Some, None, IfSome, is_some}
use Rattle.std.specs.declared.option.Option.{Option}
use Rattle.clone_outside.specs.Link.{ReceivedOf}
use Rattle.clone_outside.specs.declared.link.Link.{Ghosts as Link}
use Rattle.clone_desk.specs.declared.record.DonorEnd.{DonorEnd}
use Rattle.clone_desk.specs.declared.record.DonorEnd.TheVariants.{Waits, Out, Back}
use Rattle.clone_desk.specs.declared.record.Record.{Record}

module _ {L : Type 0} where
  -- the donor's end, if it is at the desk
  abbrev pub donor_end : DonorEnd L → Option L
  donor_end (Waits e) = Some e
  donor_end Out = None
  donor_end (Back e) = Some e

  -- one where both ends of the connection are at the desk, and else none
  abbrev pub paired_by : Record L → ℕ
  paired_by r = if is_some (donor_end r.donor) && is_some r.requester then 1 else 0

  -- how many connections have both ends at the desk
  abbrev pub paired_count : List (Record L) → ℕ
  paired_count [] = 0
  paired_count (r ∷ rs) = paired_by r + paired_count rs

module _ {L X : Type 0} (link : Link L X) where
  -- what each of the two received begins what the other sent
  pub record AreAlike (donor requester : L) : Type 0 where
    pub to_donor : ReceivedOf (link.received donor) (link.sent requester)
    pub to_requester : ReceivedOf (link.received requester) (link.sent donor)

  -- A CONNECTION WAS SETTLED, if both its ends were at the desk
  abbrev pub IsSettled : Record L → Type 0
  IsSettled r = IfSome (donor_end r.donor) (λ donor. IfSome r.requester (AreAlike donor))

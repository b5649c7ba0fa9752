-- A donor's end of a task's connection sends a frame within an EXECUTE: where the connection was cut, it reaches nobody,
-- and the loop ends.
use Rattle.std.proofs.Common.{ℕ, ◌≡◌, ◌∙◌, [], Bool, true, false, if◌then◌else◌, Some, length, refl, sym, ap, subst}
use Rattle.std.specs.Prelude.{not, ◌&&◌, ◌||◌}
use Rattle.clone_session.specs.Cloning.{Session}
use Rattle.clone_wire.specs.declared.frame.Frame.{Frame}
use Rattle.clone_wire.specs.declared.frame.Side.TheVariants.{Answer as ofDonor}
use Rattle.clone_stream.specs.Streams.{IsFrameOf}
use Rattle.clone_serve.specs.Serving.{is_over}
use Rattle.clone_serve.specs.declared.doing.Doing.{Doing}
use Rattle.clone_serve.specs.declared.doing.Doing.TheVariants as doing
use Rattle.clone_recipient.specs.Receptions.{Reception}
use Rattle.clone_network.specs.Connections.{Connection, is_open, reaches_task}
use Rattle.clone_network.specs.Networks.{Network}
use Rattle.clone_rounds.specs.Steps.{sends}
use Rattle.clone_view.specs.Views.{line_served}
use Rattle.clone_paired.specs.Lines.{Binds, IsLineOf, caller_of, connection_of, is_lost}
use Rattle.clone_paired.specs.Paired.{IsTalking}
use Rattle.clone_paired.specs.Speaking.{IsGiven}
use Rattle.clone_paired.specs.Unread.{Holds}
use Rattle.clone_paired.proofs.DonorAwaiting.{told_on}
use Rattle.clone_paired.proofs.DonorReads.{all_told, lost_live, told_some}
use Rattle.clone_paired.proofs.DonorTurns.{first, x}
use Rattle.clone_paired.proofs.Linked.{Linked}
use Rattle.clone_paired.proofs.Transports.{all_as}

-- ---- a connection whose loop ends where it was cut

cut_lost : (cut : Bool) → (cut || not (not cut && true)) ≡ cut
cut_lost true = refl
cut_lost false = refl

cut_doing : (cut : Bool) (next : Doing) → (if cut then doing.Over else next) ≡ (if (not cut && true) then next else doing.Over)
cut_doing true next = refl
cut_doing false next = refl

pub at_cut : (cut : Bool) (P : Doing → Type 0) (next : Doing) → P doing.Over → P next → P (if cut then doing.Over else next)
at_cut true P next over on = over
at_cut false P next over on = on

module _ (s now : Session) (r : Reception) (n : Network) (tasks : length n.seats ≡ r.table.count) (talks : IsTalking (Some s) r n) (k number : ℕ) (has : connection_of n k ≡ Some number) where
  abbrev here : Linked (Some s) r n talks.lines talks.known (first (Some s) r n tasks talks k number has).rounds k
  here = x (Some s) r n tasks talks k number has

  module _ (live : is_open here.at ≡ true) (idle : here.l.commands ≡ []) (told : Frame) (of_told : IsFrameOf ofDonor told) (next : Doing) (on : is_over next ≡ false) (binds : Binds (caller_of r.table k) next) (given : IsGiven (Some now) r told) (stays : (f : Frame) → IsGiven (Some s) r f → IsGiven (Some now) r f) where
    abbrev pub served_on : Connection
    served_on = record here.at {
      to_task = told_on (reaches_task here.at) (Some told) here.at.to_task;
      doing = next;
      found_lost = here.at.cut;
    }

    cut_is : here.l.cut ≡ here.at.cut
    cut_is = here.of.cut ∙ lost_live here.at live

    lost_new : is_lost served_on ≡ here.at.cut
    lost_new = ap (λ (b : Bool). here.at.cut || not (not here.at.cut && not b)) on ∙ cut_lost here.at.cut

    doing_new : (if here.l.cut then doing.Over else next) ≡ (if is_open served_on then next else doing.Over)
    doing_new = ap (λ (b : Bool). if b then doing.Over else next) cut_is ∙ cut_doing here.at.cut next ∙ sym (ap (λ (b : Bool). if (not here.at.cut && not b) then next else doing.Over) on)

    pub of_served : IsLineOf (Some now) r k served_on (line_served here.l next told)
    of_served = record {
      held = here.of.held;
      cut = cut_is ∙ sym lost_new;
      doing = doing_new;
      binds = at_cut here.l.cut (Binds (caller_of r.table k)) next tt binds;
      live = λ is. here.of.live live;
      over = λ is. idle;
      answers = subst (λ (c : Bool). Holds ofDonor here.at.cut (sends c here.l.answers told) served_on.to_task) (sym cut_is) (told_some here.at.cut here.at.held here.l.answers here.at.to_task told here.of.held of_told here.of.answers);
      asked = here.of.asked;
      given = all_told (IsGiven (Some now) r) here.l.cut here.l.answers told (all_as stays here.l.answers here.of.given) given;
    }

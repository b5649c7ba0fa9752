-- A donor's end of task 0's connection refuses the session, for another one stands.
use Rattle.std.proofs.Common.{ℕ, ◌≡◌, ◌∙◌, List, [], true, false, Option, Some, length, refl, sym, subst}
use Rattle.std.specs.Prelude.{IfSome}
use Rattle.clone_chunk.specs.declared.cause.CloneCause.{CloneCause}
use Rattle.clone_session.specs.Cloning.{Session}
use Rattle.clone_wire.specs.declared.frame.Frame.{Frame}
use Rattle.clone_wire.specs.declared.frame.Frame.TheVariants as frame
use Rattle.clone_wire.specs.declared.frame.Side.TheVariants.{Answer as ofDonor}
use Rattle.clone_serve.specs.Serving.{WasSent}
use Rattle.clone_serve.specs.declared.doing.Doing.{Doing}
use Rattle.clone_serve.specs.declared.doing.Doing.TheVariants as doing
use Rattle.clone_recipient.specs.Receptions.{Reception}
use Rattle.clone_network.specs.Connections.{Connection, is_open, reaches_task}
use Rattle.clone_network.specs.Networks.{Network, with_connection}
use Rattle.clone_engine.specs.Donor.{Donor}
use Rattle.clone_rounds.specs.Steps.{sends}
use Rattle.clone_paired.specs.Lines.{connection_of}
use Rattle.clone_paired.specs.Paired.{IsReception, IsTalking}
use Rattle.clone_paired.specs.Unread.{Holds}
use Rattle.clone_paired.proofs.DonorAwaiting.{told_on}
use Rattle.clone_paired.proofs.DonorMemory.{shut}
use Rattle.clone_paired.proofs.DonorMemoryTalks.{closed_talks}
use Rattle.clone_paired.proofs.DonorOpens.{Turned}
use Rattle.clone_paired.proofs.DonorReads.{told_some}
use Rattle.clone_paired.proofs.DonorTurns.{first, x}
use Rattle.clone_paired.proofs.Linked.{Linked}
use Rattle.clone_paired.proofs.UnreadLemmas.{holds_none}

-- no other session stands than that of this number
abbrev pub StandsAlone : ℕ → Donor → Type 0
StandsAlone number d = IfSome d.cloning.session (λ (s : Session). s.number ≡ number)

-- THE LOOP OF ITS END IS OVER, and the refusal lies unread, or reached nobody. But for that the
-- clone talks.
pub record Refuses (session : Option Session) (r : Reception) (n : Network) (number : ℕ) (d t : Donor) (after : Connection) : Type 0 where
  pub other : StandsAlone r.table.session d → ⊥
  pub same : t ≡ d
  pub over : is_open after ≡ false
  pub cause : CloneCause
  pub unread : Holds ofDonor after.cut (sends after.cut [] (frame.Refused cause)) after.to_task
  pub but : IsTalking session r (with_connection number (record after { to_task = [] }) n)

module _ (session : Option Session) (r : Reception) (n : Network) (tasks : length n.seats ≡ r.table.count) (talks : IsTalking session r n) (number : ℕ) (has : connection_of n 0 ≡ Some number) where
  abbrev here : Linked session r n talks.lines talks.known (first session r n tasks talks 0 number has).rounds 0
  here = x session r n tasks talks 0 number has

  module _ (live : is_open here.at ≡ true) (quiet : here.l.answers ≡ []) (left : List ℕ) (d t : Donor) (other : StandsAlone r.table.session d → ⊥) (own : IsReception r) (next : Doing) (sent : Option Frame) (was : WasSent sent) (turned : Turned r own d t next sent) where
    abbrev refused_at : Connection
    refused_at = record here.at { to_donor = left; to_task = told_on (reaches_task here.at) (Some (frame.Refused turned.cause)) here.at.to_task; doing = doing.Over }

    over : is_open refused_at ≡ false
    over = shut here.at.found_lost doing.Over refl

    refused : Refuses session r n number d t refused_at
    refused = record {
      other = other;
      same = turned.same;
      over = over;
      cause = turned.cause;
      unread = told_some here.at.cut here.at.held [] here.at.to_task (frame.Refused turned.cause) here.of.held (subst WasSent turned.sends_is was) (subst (λ (l : List Frame). Holds ofDonor here.at.cut l here.at.to_task) quiet here.of.answers);
      but = closed_talks session r n tasks talks 0 number has live (record refused_at { to_task = [] }) refl over [] here.l.answers refl (holds_none ofDonor here.at.cut);
    }

    pub refuses : (after : Connection) → after ≡ record here.at { to_donor = left; to_task = told_on (reaches_task here.at) sent here.at.to_task; doing = next } → Refuses session r n number d t after
    refuses after is = subst (Refuses session r n number d t) (sym (is ∙ (λ i. record here.at { to_donor = left; to_task = told_on (reaches_task here.at) (turned.sends_is i) here.at.to_task; doing = turned.next_is i }))) refused

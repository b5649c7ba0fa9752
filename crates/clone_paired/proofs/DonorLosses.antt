-- A donor's end of a task's connection finds a loss while it awaits a command.
use Rattle.std.proofs.Common.{ℕ, ◌≡◌, ◌≢◌, ◌∙◌, ◌⊎◌, List, [], ◌∷◌, Bool, true, false, if◌then◌else◌, Option, None, Some, length, refl, sym, ap, subst, inl, inr}
use Rattle.std.specs.Prelude.{slice_get, IfSome, not, ◌||◌}
use Rattle.std.proofs.lemmas.Bool.{both_ways}
use Rattle.clone_session.specs.Cloning.{Session}
use Rattle.clone_session.specs.declared.caller.Caller.{Caller}
use Rattle.clone_snapshot.specs.StageLists.{StageList}
use Rattle.clone_wire.specs.Answers.{BeginsNone}
use Rattle.clone_wire.specs.declared.frame.Frame.{Frame}
use Rattle.clone_wire.specs.declared.frame.Side.TheVariants.{Answer as ofDonor, Command as ofTask}
use Rattle.clone_serve.specs.declared.doing.Doing.{Doing}
use Rattle.clone_serve.specs.declared.doing.Doing.TheVariants as doing
use Rattle.clone_recipient.specs.Receptions.{Reception}
use Rattle.clone_network.specs.Connections.{Connection, is_open}
use Rattle.clone_network.specs.Networks.{Network, with_connection}
use Rattle.clone_rounds.specs.Steps.{finds_loss}
use Rattle.clone_rounds.specs.World.{Command, Core, New, Over, Ready, IsLive, IsServing, World}
use Rattle.clone_view.specs.Donors.{core_of}
use Rattle.clone_view.specs.Frames.{AreCommands, command_of}
use Rattle.clone_view.specs.Views.{Line, line_over, list_in}
use Rattle.clone_paired.specs.Lines.{IsLineOf, connection_of, is_lost}
use Rattle.clone_paired.specs.Paired.{IsTalking}
use Rattle.clone_paired.specs.Sessions.{HasComeTo}
use Rattle.clone_paired.specs.Unread.{Holds}
use Rattle.clone_paired.proofs.DonorAwaiting.{Bound}
use Rattle.clone_paired.proofs.DonorTurns.{Sees, Turns, first, turned_talks, x}
use Rattle.clone_paired.proofs.Linked.{Linked}
use Rattle.clone_paired.proofs.UnreadLemmas.{holds_partial}

pub for_some : {X : Type 0} (P : X → Type 0) → ((y : X) → P y) → (o : Option X) → IfSome o P
for_some P all None = tt
for_some P all (Some y) = all y

pub none_seen : (commands : List Command) → AreCommands [] commands → commands ≡ []
none_seen [] is = refl
none_seen (c ∷ more) is = absurd (cc (is))

-- it awaits a command in the rounds too
pub core_live : (list : StageList) (d : Doing) (bound : Option Caller) (core : Core) → Bound d bound → core_of list d ≡ Some core → IsLive core
core_live list doing.New bound core of is = let e : New ≡ core = cc (is) in subst IsLive e tt
core_live list (doing.Ready caller) bound core of is = let e : Ready ≡ core = cc (is) in subst IsLive e tt
core_live list other bound core of is = absurd of

pub core_free : (list : StageList) (d : Doing) (bound : Option Caller) (core : Core) → Bound d bound → core_of list d ≡ Some core → IsServing core → ⊥
core_free list doing.New bound core of is serves = let e : core ≡ New = cc (is) in subst IsServing e serves
core_free list (doing.Ready caller) bound core of is serves = let e : core ≡ Ready = cc (is) in subst IsServing e serves
core_free list other bound core of is serves = of

lost_cut : (cut held : Bool) → held ≡ true → (cut || not held) ≡ true → cut ≡ true
lost_cut true held is lost = refl
lost_cut false true is lost = absurd (cc (lost))
lost_cut false false is lost = absurd (cc (is))

module _ (session : Option Session) (r : Reception) (n : Network) (tasks : length n.seats ≡ r.table.count) (talks : IsTalking session r n) (k number : ℕ) (has : connection_of n k ≡ Some number) where
  abbrev here : Linked session r n talks.lines talks.known (first session r n tasks talks k number has).rounds k
  here = x session r n tasks talks k number has

  module _ (live : is_open here.at ≡ true) (bound : Option Caller) (of : Bound here.at.doing bound) where
    -- what its end does is what the line says
    pub doing_is : here.l.doing ≡ here.at.doing
    doing_is = here.of.doing ∙ ap (λ (b : Bool). if b then here.at.doing else doing.Over) live

    -- its end stops, where no command is unread any more and none comes
    module _ (cut_is : here.at.cut ≡ true) (unread : here.l.commands ≡ []) (new : Connection) (held : new.held ≡ here.at.held) (cut : new.cut ≡ here.at.cut) (to_task : new.to_task ≡ here.at.to_task) (shut : is_open new ≡ false) where
      line_cut : here.l.cut ≡ true
      line_cut = here.of.cut ∙ ap (λ (b : Bool). b || not (is_open here.at)) cut_is

      of_new : IsLineOf session r k new (line_over here.l)
      of_new = record {
        held = held ∙ here.of.held;
        cut = line_cut ∙ sym (ap (λ (b : Bool). b || not (is_open new)) (cut ∙ cut_is));
        doing = sym (ap (λ (b : Bool). if b then new.doing else doing.Over) shut);
        binds = tt;
        live = λ is. absurd (both_ways (is_open new) shut is);
        over = λ is. unread;
        answers = subst (λ (c : Bool). Holds ofDonor c here.l.answers new.to_task) (sym cut) (subst (Holds ofDonor here.at.cut here.l.answers) (sym to_task) here.of.answers);
        asked = here.of.asked;
        given = here.of.given;
      }

      turns : (counts : ℕ → List ℕ) (w : World) → Sees session r n tasks talks k number has counts w → Turns counts (list_in session) w k (line_over here.l)
      turns counts w s =
          let core : core_of (list_in session) here.at.doing ≡ Some (w.seats k).core = ap (core_of (list_in session)) (sym doing_is) ∙ s.line.core in
          record {
            seat = record (w.seats k) { core = Over };
            moves = inr (inl (finds_loss k (record {
              linked = s.linked;
              live = core_live (list_in session) here.at.doing bound (w.seats k).core of core;
              idle = core_free (list_in session) here.at.doing bound (w.seats k).core of core;
              none = none_seen (w.seats k).commands (subst (λ (f : List Frame). AreCommands f (w.seats k).commands) unread s.line.commands);
              cut = s.line.cut ∙ line_cut;
            })));
            connected = refl;
            awaits = refl;
            ended = refl;
            line = record { connected = s.line.connected; cut = s.line.cut; commands = s.line.commands; answers = s.line.answers; core = refl };
          }

      pub over_talks : IsTalking session r (with_connection number new n)
      over_talks = turned_talks session r n tasks talks k number has new (line_over here.l) turns of_new (for_some (λ (s : Session). HasComeTo s k doing.Over) (λ s. tt) session)

    -- it finds a loss
    pub lost_talks : BeginsNone ofTask here.at.to_donor → (here.at.cut || not here.at.held) ≡ true → IsTalking session r (with_connection number (record here.at { found_lost = true }) n)
    lost_talks none lost = over_talks (lost_cut here.at.cut here.at.held here.of.held lost) (holds_partial ofTask here.at.cut here.l.commands here.at.to_donor (here.of.live live) none) (record here.at { found_lost = true }) refl refl refl refl

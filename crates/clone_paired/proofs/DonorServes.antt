-- A DONOR'S END SERVES AN EXECUTE on a task's connection: what is known then, and what has to be shown of a step by which
-- its session may change.
use Rattle.std.proofs.Common.{ℕ, ◌≡◌, ◌≢◌, ◌∙◌, ◌<◌, ◌≤◌, List, [], ◌∷◌, Bool, true, if◌then◌else◌, Option, None, Some, length, refl, sym, ap, subst, arith}
use Rattle.std.specs.Prelude.{IfSome}
use Rattle.std.proofs.lemmas.Bool.{both_ways, eqb-true}
use Rattle.clone_chunk.specs.Stages.{copy_number, stage_number}
use Rattle.clone_snapshot.specs.StageLists.{StageList, stage_of}
use Rattle.clone_marks.specs.Counts.{block_counts}
use Rattle.clone_session.specs.Cloning.{Session}
use Rattle.clone_session.specs.CloneCauses.{donor_stage}
use Rattle.clone_wire.specs.declared.frame.Frame.{Frame}
use Rattle.clone_serve.specs.declared.doing.Doing.{Doing}
use Rattle.clone_serve.specs.declared.doing.Doing.TheVariants as doing
use Rattle.clone_serve.specs.declared.doing.Execution.{Execution}
use Rattle.clone_serve.specs.declared.doing.Work.{Work}
use Rattle.clone_tasks.specs.Tables.{incarnation_of}
use Rattle.clone_recipient.specs.Receptions.{Reception}
use Rattle.clone_network.specs.Connections.{Connection, is_open}
use Rattle.clone_network.specs.Networks.{Network, with_connection}
use Rattle.clone_rounds.specs.Awaiting.{IsLevel, Rule}
use Rattle.clone_rounds.specs.Fitting.{AreClaimed, IsPresent}
use Rattle.clone_rounds.specs.World.{Command, Serving as ServingCore, World, put}
use Rattle.clone_rounds.proofs.Fitting.{all_fit, level_of}
use Rattle.clone_rounds.proofs.Puts.{put_all}
use Rattle.clone_rounds.proofs.Talks.{InService, serving_of}
use Rattle.clone_view.specs.Donors.{IsDonor, IsSession, core_of}
use Rattle.clone_view.specs.Frames.{AreCommands}
use Rattle.clone_view.specs.Tables.{phase_number}
use Rattle.clone_view.specs.Views.{IsAt, IsView, Line, list_in}
use Rattle.clone_paired.specs.Lines.{Binds, IsLineOf, caller_of, connection_of}
use Rattle.clone_paired.specs.Paired.{IsTalking}
use Rattle.clone_paired.specs.Seen.{ArePast, AreUnsent, IsKnown, IsSeen, stage_at}
use Rattle.clone_paired.specs.Sessions.{HasComeTo, IsSessionOf}
use Rattle.clone_paired.proofs.Changing.{at_now, past_with}
use Rattle.clone_paired.proofs.DonorTurns.{Sees, first, sees, there_at, x}
use Rattle.clone_paired.proofs.Linked.{Linked}

-- no command is unread
pub no_frames : (frames : List Frame) (commands : List Command) → AreCommands frames commands → commands ≡ [] → frames ≡ []
no_frames [] commands are none = refl
no_frames (f ∷ more) [] are none = absurd (cc (are))
no_frames (f ∷ more) (c ∷ rest) are none = absurd (cc (none))

-- ---- the session is there

module _ (session : Option Session) (r : Reception) (n : Network) (tasks : length n.seats ≡ r.table.count) (talks : IsTalking session r n) (k number : ℕ) (has : connection_of n k ≡ Some number) where
  abbrev here : Linked session r n talks.lines talks.known (first session r n tasks talks k number has).rounds k
  here = x session r n tasks talks k number has

  -- what its end does is what the line says
  pub doing_here : is_open here.at ≡ true → here.l.doing ≡ here.at.doing
  doing_here live = here.of.doing ∙ ap (λ (b : Bool). if b then here.at.doing else doing.Over) live

  module _ (live : is_open here.at ≡ true) (run : Execution) (what : Work) (serving : here.at.doing ≡ doing.Serving run what) where
    pub doing_is : here.l.doing ≡ doing.Serving run what
    doing_is = doing_here live ∙ serving

    -- it is the task's
    pub caller_is : run.caller ≡ caller_of r.table k
    caller_is = subst (Binds (caller_of r.table k)) doing_is here.of.binds

    present_in : (w : World) (rest : List ℕ) → Sees session r n tasks talks k number has talks.known w → core_of (list_in session) (doing.Serving run what) ≡ Some (ServingCore (copy_number run.stage) rest) → IsPresent w.sides
    present_in w rest see core =
        let own : core_of (list_in session) (doing.Serving run what) ≡ Some (w.seats k).core = ap (core_of (list_in session)) (sym doing_is) ∙ see.line.core in
        let core_at : (w.seats k).core ≡ ServingCore (copy_number run.stage) rest = cc (own, core) in
        ((all_fit w see.rule).blocks k (copy_number run.stage) rest core_at).present

    there_by : (w : World) (o : Option Session) → IsDonor (incarnation_of r.table) o w → IsPresent w.sides → (s : Session) × (o ≡ Some s)
    there_by w None donor present = absurd (both_ways w.sides.met donor.0 present.0)
    there_by w (Some s) donor present = (s, refl)

    pub session_there : (rest : List ℕ) → core_of (list_in session) (doing.Serving run what) ≡ Some (ServingCore (copy_number run.stage) rest) → (s : Session) × (session ≡ Some s)
    session_there rest core =
        let see = sees session r n tasks talks k number has talks.known (first session r n tasks talks k number has) in
        there_by (first session r n tasks talks k number has).rounds session see.view.donor (present_in (first session r n tasks talks k number has).rounds rest see core)

-- ---- what is known then

module _ (s : Session) (r : Reception) (n : Network) (tasks : length n.seats ≡ r.table.count) (talks : IsTalking (Some s) r n) (k number : ℕ) (has : connection_of n k ≡ Some number) where
  abbrev own_line : Linked (Some s) r n talks.lines talks.known (first (Some s) r n tasks talks k number has).rounds k
  own_line = x (Some s) r n tasks talks k number has

  abbrev pub Seeing : (ℕ → List ℕ) → World → Type 0
  Seeing counts w = Sees (Some s) r n tasks talks k number has counts w

  module _ (live : is_open own_line.at ≡ true) (run : Execution) (what : Work) (serving : own_line.at.doing ≡ doing.Serving run what) where
    pub record IsIn (w : World) (rest : List ℕ) : Type 0 where
      pub core : (w.seats k).core ≡ ServingCore (copy_number run.stage) rest
      pub claims : AreClaimed w.sides k (copy_number run.stage) rest
      pub service : InService w.sides k (w.seats k) (copy_number run.stage) rest
      pub level : IsLevel w.sides
      pub stage : copy_number run.stage ≡ donor_stage s
      pub phase : donor_stage s ≡ phase_number r.table.phase
      pub present : s.incarnation ≡ incarnation_of r.table
      pub idle : own_line.l.commands ≡ []

    pub is_in : (counts : ℕ → List ℕ) (w : World) (rest : List ℕ) → Seeing counts w → core_of s.snap.list (doing.Serving run what) ≡ Some (ServingCore (copy_number run.stage) rest) → IsIn w rest
    is_in counts w rest see core =
        let own : core_of s.snap.list (doing.Serving run what) ≡ Some (w.seats k).core = ap (core_of s.snap.list) (sym (doing_is (Some s) r n tasks talks k number has live run what serving)) ∙ see.line.core in
        let core_at : (w.seats k).core ≡ ServingCore (copy_number run.stage) rest = cc (own, core) in
        let claims : AreClaimed w.sides k (copy_number run.stage) rest = (all_fit w see.rule).blocks k (copy_number run.stage) rest core_at in
        let service : InService w.sides k (w.seats k) (copy_number run.stage) rest = serving_of w.sides k (w.seats k) (copy_number run.stage) rest ((see.rule.seats k).talk see.line.connected) core_at in
        let level : IsLevel w.sides = level_of w see.rule k see.line.connected service.awaits in
        let donor : IsSession (incarnation_of r.table) s w = see.view.donor in
        record {
          core = core_at;
          claims = claims;
          service = service;
          level = level;
          stage = claims.stage_is ∙ donor.at;
          phase = sym donor.at ∙ level.1 ∙ see.view.table.stage;
          present = eqb-true s.incarnation (incarnation_of r.table) (sym donor.met ∙ level.0);
          idle = no_frames own_line.l.commands (w.seats k).commands see.line.commands service.commands;
        }

    -- the donor's side as the view has it
    pub at_here : (counts : ℕ → List ℕ) (w : World) → IsView counts r.table (Some s) talks.lines w → Seeing counts w → IsAt counts r.table s talks.lines w k own_line.l (doing.Serving run what) own_line.l.commands
    at_here counts w view see = record { view = view; task = subst (λ (c : ℕ). k < c) view.table.tasks see.linked.task; line = own_line.line; doing = doing_is (Some s) r n tasks talks k number has live run what serving; commands = refl }

  -- ---- A STEP, by which the session becomes this one, of the same stage

  module _ (now : Session) (list : now.snap.list ≡ s.snap.list) (new : Connection) (after : Line) where
    abbrev m : Network
    m = with_connection number new n

    stage_same : donor_stage now ≡ donor_stage s
    stage_same = ap (λ (l : StageList). stage_number (stage_of l)) list

    -- the rounds go on so
    pub record Goes (counts : ℕ → List ℕ) (w : World) : Type 0 where
      pub next : World
      pub rule : Rule next
      pub view : IsView counts r.table (Some now) (put talks.lines k (Some after)) next
      pub sizes : next.sides.size ≡ w.sides.size
      pub acknowledged : next.sides.acknowledged ≡ w.sides.acknowledged
      pub unsent : AreUnsent (Some now) next.sides.owner

    -- whatever the later stages have
    abbrev pub GoesOn : Type 0
    GoesOn = (counts : ℕ → List ℕ) (old : IsSeen r.table (Some s) n talks.lines counts) → counts (donor_stage s) ≡ block_counts s.snap.list → Goes counts old.rounds

    seen_now : GoesOn → (counts : ℕ → List ℕ) → ((stage : ℕ) → stage ≤ stage_at (Some now) → counts stage ≡ talks.known stage) → IsSeen r.table (Some now) m (put talks.lines k (Some after)) counts
    seen_now goes counts agrees =
        let old = talks.rounds.seen counts (λ stage small. agrees stage (omega (arith, small, stage_same))) in
        let g = goes counts old (agrees (donor_stage s) (omega (arith, stage_same)) ∙ talks.rounds.donor) in
        record {
          rounds = g.next;
          rule = g.rule;
          view = g.view;
          sizes = λ stage. ap (λ (f : ℕ → ℕ). f stage) g.sizes ∙ old.sizes stage;
          unsent = g.unsent;
          past = subst (λ (b : Bool). ArePast r.table b m) (sym g.acknowledged) (past_with (Some s) (Some now) r r n talks k number own_line.at new after has (there_at (Some s) r n tasks talks k number has) r.table old.rounds.sides.acknowledged old.past);
        }

    known_now : GoesOn → IsKnown r.table (Some now) m (put talks.lines k (Some after)) talks.known
    known_now goes = record {
      donor = subst (λ (l : StageList). talks.known (stage_number (stage_of l)) ≡ block_counts l) (sym list) talks.rounds.donor;
      recipient = talks.rounds.recipient;
      seen = seen_now goes;
    }

    pub goes_talks : GoesOn → IsSessionOf r now → ((j : ℕ) (c : Connection) (y : Line) → IsLineOf (Some s) r j c y → IsLineOf (Some now) r j c y) → ((j : ℕ) → j ≢ k → (d : Doing) → HasComeTo s j d → HasComeTo now j d) → IsLineOf (Some now) r k new after → HasComeTo now k after.doing → IsTalking (Some now) r m
    goes_talks goes own lines others of come = record {
      own = own;
      lines = put talks.lines k (Some after);
      at = at_now (Some s) (Some now) r r n talks k number own_line.at new after has (there_at (Some s) r n tasks talks k number has) refl (λ j c y other is. lines j c y) of;
      apart = talks.apart;
      come = put_all (λ j (y : Option Line). IfSome y (λ l. HasComeTo now j l.doing)) talks.lines k (Some after) (λ j other. come_at j other (talks.lines j) (talks.come j)) come;
      few = talks.few;
      known = talks.known;
      rounds = known_now goes;
    }
      where
        come_at : (j : ℕ) → j ≢ k → (o : Option Line) → IfSome o (λ (l : Line). HasComeTo s j l.doing) → IfSome o (λ (l : Line). HasComeTo now j l.doing)
        come_at j other None h = tt
        come_at j other (Some l) h = others j other l.doing h

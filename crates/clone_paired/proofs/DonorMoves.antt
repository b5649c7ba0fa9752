-- Task 0 is answered by a STAGE as the donor's session becomes another one: the rounds follow.
use Rattle.std.proofs.Common.{ℕ, ◌≡◌, ◌≢◌, ◌∙◌, ◌⊎◌, ◌<◌, ◌≤◌, List, [], ◌∷◌, Option, Some, length, refl, sym, ap, subst, inl, inr, arith}
use Rattle.std.specs.Prelude.{slice_get}
use Rattle.clone_chunk.specs.Stages.{copy_number}
use Rattle.clone_chunk.specs.declared.chunk.Chunk.TheVariants as chunk
use Rattle.clone_marks.specs.Counts.{block_counts}
use Rattle.clone_session.specs.Cloning.{Session}
use Rattle.clone_session.specs.CloneCauses.{donor_stage}
use Rattle.clone_serve.specs.declared.doing.Doing.{Doing}
use Rattle.clone_serve.specs.declared.doing.Doing.TheVariants as doing
use Rattle.clone_serve.specs.declared.doing.Work.TheVariants.{Archive, Claim, Read, Weigh}
use Rattle.clone_snapshot.specs.StageLists.{StageList}
use Rattle.clone_wire.specs.declared.frame.Frame.{Frame}
use Rattle.clone_recipient.specs.Receptions.{Reception}
use Rattle.clone_network.specs.Connections.{Connection}
use Rattle.clone_network.specs.Networks.{Network, with_connection}
use Rattle.clone_rounds.specs.World.{Answer, Core, IsServing, Serving, World, put}
use Rattle.clone_rounds.proofs.Moving.{kept}
use Rattle.clone_rounds.proofs.Puts.{put_all, put_same}
use Rattle.clone_view.specs.Donors.{core_of, rest_at}
use Rattle.clone_view.specs.Frames.{AreAnswers}
use Rattle.clone_view.specs.Rows.{places}
use Rattle.clone_view.specs.Tables.{phase_number}
use Rattle.clone_view.specs.Views.{Leads, Line}
use Rattle.clone_paired.specs.Lines.{IsLineOf, connection_of}
use Rattle.clone_paired.specs.Paired.{HaveCome, IsTalking}
use Rattle.clone_paired.specs.Seen.{ArePast, IsKnown, IsSeen, stage_at}
use Rattle.clone_paired.specs.Sessions.{HasComeTo, IsSessionOf}
use Rattle.clone_paired.proofs.Changing.{Stay, past_with, talks_on}
use Rattle.clone_paired.proofs.DonorTurns.{Sees, sees, there_at, x}
use Rattle.clone_paired.proofs.Keeping.{KeepsSides, acks_as, donor_keeps}
use Rattle.clone_paired.proofs.Transports.{past_as}

-- ---- a session

-- no chunk is claimed
abbrev pub AreUnclaimed : Session → Type 0
AreUnclaimed s = (i task : ℕ) → slice_get s.snap.chunks i ≢ Some (chunk.Claimed task)

-- THE STAGE TO WHICH A SESSION COMES is as it is known, or it is a new one.
abbrev pub Extends : (ℕ → List ℕ) → (before recipient : ℕ) → Session → Type 0
Extends known before recipient now =
    (before ≤ donor_stage now) × ((block_counts now.snap.list ≡ known (donor_stage now)) ⊎ ((before < donor_stage now) × (recipient ≢ donor_stage now)))

-- where no EXECUTE is served none has come to a block
pub come_idle : (list : StageList) (s : Session) (task : ℕ) (d : Doing) (core : Core) → core_of list d ≡ Some core → (IsServing core → ⊥) → HasComeTo s task d
come_idle list s task doing.New core is idle = tt
come_idle list s task (doing.Ready caller) core is idle = tt
come_idle list s task (doing.Telling caller) core is idle = tt
come_idle list s task (doing.Starting run) core is idle = tt
come_idle list s task doing.Leaving core is idle = tt
come_idle list s task doing.Over core is idle = tt
come_idle list s task (doing.Serving run Claim) core is idle = tt
come_idle list s task (doing.Serving run (Weigh i)) core is idle = tt
come_idle list s task (doing.Serving run (Archive place limit)) core is idle = tt
come_idle list s task (doing.Serving run (Read place again)) core is idle = absurd (idle (serves core is))
  where
    serves : (c : Core) → core_of list (doing.Serving run (Read place again)) ≡ Some c → IsServing c
    serves c same = let e : Serving (copy_number run.stage) (rest_at list place) ≡ c = cc (same) in subst IsServing e tt

-- no answer lies unread
pub none_answered : (counts : ℕ → List ℕ) (frames : List Frame) (answers : List Answer) → AreAnswers counts frames answers → answers ≡ [] → frames ≡ []
none_answered counts [] answers are none = refl
none_answered counts (f ∷ frames) [] are none = absurd (cc (are))
none_answered counts (f ∷ frames) (a ∷ answers) are none = absurd (cc (none))

-- ---- the rounds

module _ (session : Option Session) (now : Session) (r : Reception) (n : Network) (tasks : length n.seats ≡ r.table.count) (talks : IsTalking session r n) (k number : ℕ) (has : connection_of n k ≡ Some number) (new : Connection) (after : Line) where
  abbrev m : Network
  m = with_connection number new n

  -- how many blocks the stage has is known from now on
  abbrev known : ℕ → List ℕ
  known = put talks.known (donor_stage now) (block_counts now.snap.list)

  -- the rounds' step
  abbrev pub Moves : Type 0
  Moves = (counts : ℕ → List ℕ) (w : World) → Sees session r n tasks talks k number has counts w → w.sides.size (donor_stage now) ≡ places (block_counts now.snap.list) → Leads counts r.table now (put talks.lines k (Some after)) w

  module _ (unclaimed : AreUnclaimed now) (moves : Moves) where
    seen_moved : (counts : ℕ → List ℕ) → IsSeen r.table session n talks.lines counts → counts (donor_stage now) ≡ block_counts now.snap.list → IsSeen r.table (Some now) m (put talks.lines k (Some after)) counts
    seen_moved counts old here =
        let w = old.rounds in
        let l = moves counts w (sees session r n tasks talks k number has counts old) (old.sizes (donor_stage now) ∙ ap places here) in
        let keep : KeepsSides w l.0 = donor_keeps w l.0 l.1 in
        let acks = acks_as w l.0 (phase_number r.table.phase) (phase_number r.table.phase) old.view.table.stage l.2.table.stage keep.acks in
        let past : ArePast r.table l.0.sides.acknowledged n = λ other c is away. past_as r.table r.table w.sides.acknowledged l.0.sides.acknowledged refl refl refl (omega arith) acks c (old.past other c is away) in
        record {
          rounds = l.0;
          rule = kept w l.0 old.rule (inr (inl l.1));
          view = l.2;
          sizes = λ stage. ap (λ (f : ℕ → ℕ). f stage) keep.size ∙ old.sizes stage;
          unsent = λ i task is. absurd (unclaimed i task is);
          past = past_with session (Some now) r r n talks k number (x session r n tasks talks k number has).at new after has (there_at session r n tasks talks k number has) r.table l.0.sides.acknowledged past;
        }

    module _ (extends : Extends talks.known (stage_at session) (phase_number r.table.phase) now) where
      known_as : (stage : ℕ) → (stage ≤ stage_at session) ⊎ (stage ≡ phase_number r.table.phase) → known stage ≡ talks.known stage
      known_as stage which = put_all (λ j y. (j ≤ stage_at session) ⊎ (j ≡ phase_number r.table.phase) → y ≡ talks.known j) talks.known (donor_stage now) (block_counts now.snap.list) (λ j other w. refl) (at extends.1) stage which
        where
          at : (block_counts now.snap.list ≡ talks.known (donor_stage now)) ⊎ ((stage_at session < donor_stage now) × (phase_number r.table.phase ≢ donor_stage now)) → (donor_stage now ≤ stage_at session) ⊎ (donor_stage now ≡ phase_number r.table.phase) → block_counts now.snap.list ≡ talks.known (donor_stage now)
          at (inl same) w = same
          at (inr later) (inl small) = absurd (omega (arith, later.0, small))
          at (inr later) (inr one) = absurd (later.1 (sym one))

      known_here : known (donor_stage now) ≡ block_counts now.snap.list
      known_here = put_same talks.known (donor_stage now) (block_counts now.snap.list)

      known_now : IsKnown r.table (Some now) m (put talks.lines k (Some after)) known
      known_now = record {
        donor = known_here;
        recipient = known_as (phase_number r.table.phase) (inr refl) ∙ talks.rounds.recipient;
        seen = λ counts agrees. seen_moved counts (talks.rounds.seen counts (λ stage small. agrees stage (omega (arith, small, extends.0)) ∙ known_as stage (inl small))) (agrees (donor_stage now) (omega arith) ∙ known_here);
      }

      -- THE SESSION IS ANOTHER ONE, and its STAGE is sent.
      pub moved_talks : Stay session (Some now) r r n talks k number (x session r n tasks talks k number has).at new after has (there_at session r n tasks talks k number has) → IsSessionOf r now → IsLineOf (Some now) r k new after → HaveCome (Some now) talks.lines → HasComeTo now k after.doing → IsTalking (Some now) r m
      moved_talks stay own of come own_come = talks_on session (Some now) r r n talks k number (x session r n tasks talks k number has).at new after has (there_at session r n tasks talks k number has) refl stay own talks.few of come own_come known known_now

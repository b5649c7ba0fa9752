-- UNTIL THE DONOR HAS THE PRESENT INCARNATION its session may get other chunks or a later incarnation, or begin the next stage.
use Rattle.std.proofs.Common.{ℕ, suc, ◌≡◌, ◌∙◌, ◌<◌, List, true, Option, Some, sym, ap, subst, inr, arith}
use Rattle.std.specs.Prelude.{IfSome}
use Rattle.clone_chunk.specs.Stages.{stage_number}
use Rattle.clone_snapshot.specs.StageLists.{StageList, stage_of}
use Rattle.clone_marks.specs.Counts.{block_counts}
use Rattle.clone_session.specs.Cloning.{Session}
use Rattle.clone_session.specs.CloneCauses.{donor_stage}
use Rattle.clone_session.specs.Effects.{begun}
use Rattle.clone_tasks.specs.Tables.{incarnation_of}
use Rattle.clone_recipient.specs.Receptions.{Reception}
use Rattle.clone_network.specs.Networks.{Network}
use Rattle.clone_rounds.specs.Awaiting.{IsAt as IsInStep}
use Rattle.clone_view.specs.Tables.{phase_number}
use Rattle.clone_paired.specs.Paired.{IsTalking}
use Rattle.clone_paired.specs.Seen.{IsCounted, IsSeen, stage_at}
use Rattle.clone_paired.specs.Sessions.{AreChunks, Copies, IsSessionOf}
use Rattle.clone_paired.proofs.LateChunks.{begun_chunks}
use Rattle.clone_paired.proofs.LateMoves.{IsBehind, Moves, at_of, moved_talks}

module _ (session : Option Session) (r : Reception) (n : Network) (talks : IsTalking session r n) where
  -- the session that the donor has
  pub own_of : (s : Session) → session ≡ Some s → IsSessionOf r s
  own_of s is = subst (λ (o : Option Session). IfSome o (IsSessionOf r)) is talks.own

  -- IN ITS STAGE
  module _ (s : Session) (is : session ≡ Some s) (behind : s.incarnation < incarnation_of r.table) (now : Session) (number : now.number ≡ s.number) (tasks : now.tasks ≡ s.tasks) (version : now.version ≡ s.version) (before : now.incarnation < incarnation_of r.table) (list : now.snap.list ≡ s.snap.list) (chunks : AreChunks now.snap) where
    of : IsSessionOf r s
    of = own_of s is

    stage : donor_stage now ≡ donor_stage s
    stage = ap (λ (l : StageList). stage_number (stage_of l)) list

    here : stage_at session ≡ donor_stage s
    here = ap stage_at is

    counted : talks.known (donor_stage s) ≡ block_counts s.snap.list
    counted = subst (λ (o : Option Session). IsCounted o talks.known) is talks.rounds.donor

    moves : Moves session r n talks now
    moves = record {
      own = record {
        number = number ∙ of.number;
        tasks = tasks ∙ of.tasks;
        version = version ∙ of.version;
        before = omega (arith, before);
        chunks = chunks;
        copies = λ level. subst (Copies r.table.phase r) (sym list) (of.copies (sym stage ∙ level));
      };
      behind = before;
      later = omega (arith, stage, here);
      same = λ level. ap block_counts list ∙ sym counted ∙ ap talks.known (sym stage);
      step = λ counts seen. subst (λ (at : ℕ). IsInStep at seen.rounds.sides.stage seen.rounds.sides.acknowledged) (at_of (incarnation_of r.table) session seen.rounds seen.view.donor ∙ here ∙ sym stage) seen.rule.sides.at;
    }

    pub stays_on : IsTalking (Some now) r n
    stays_on = moved_talks session r n talks (subst (λ (o : Option Session). IsBehind o r) (sym is) behind) now moves

  -- IN THE NEXT STAGE, where the recipient's stage was acknowledged
  module _ (behind : IsBehind session r) (now : Session) (number : now.number ≡ r.table.session) (tasks : now.tasks ≡ r.table.count) (version : now.version ≡ r.table.version) (before : now.incarnation < incarnation_of r.table) (list : StageList) (begins : now.snap ≡ begun list) (stage : donor_stage now ≡ suc (stage_at session)) (level : stage_at session ≡ phase_number r.table.phase) (acknowledged : (counts : ℕ → List ℕ) (seen : IsSeen r.table session n talks.lines counts) → seen.rounds.sides.acknowledged ≡ true) where
    next_moves : Moves session r n talks now
    next_moves = record {
      own = record {
        number = number;
        tasks = tasks;
        version = version;
        before = omega (arith, before);
        chunks = subst AreChunks (sym begins) (begun_chunks list 0);
        copies = λ same. absurd (omega (arith, same, stage, level));
      };
      behind = before;
      later = omega (arith, stage);
      same = λ same. absurd (omega (arith, same, stage));
      step = λ counts seen. inr (stage ∙ ap suc (level ∙ sym seen.view.table.stage), acknowledged counts seen);
    }

    pub begins_on : IsTalking (Some now) r n
    begins_on = moved_talks session r n talks behind now next_moves

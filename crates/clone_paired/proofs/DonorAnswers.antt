-- A donor's end of a task's connection answers a command by its stage, which stays as it was.
use Rattle.std.proofs.Common.{ℕ, suc, ◌≡◌, ◌≢◌, ◌∙◌, ◌⊎◌, ◌<◌, ◌≤◌, List, [], ◌∷◌, Bool, true, false, if◌then◌else◌, Option, None, Some, length, refl, sym, ap, subst, inl, inr, arith}
use Rattle.std.specs.Prelude.{slice_get, IfSome, not, ◌||◌, ◌&&◌}
use Rattle.std.specs.List.{AllByRecursion}
use Rattle.clone_session.specs.Cloning.{Cloning, Session}
use Rattle.clone_session.specs.CloneCauses.{donor_stage}
use Rattle.clone_session.specs.declared.caller.Caller.{Caller}
use Rattle.clone_wire.specs.declared.frame.Frame.{Frame}
use Rattle.clone_wire.specs.declared.frame.Side.TheVariants.{Answer as ofDonor, Command as ofTask}
use Rattle.clone_stream.specs.Streams.{IsFrameOf}
use Rattle.clone_serve.specs.Serving.{is_over}
use Rattle.clone_serve.specs.declared.doing.Doing.{Doing}
use Rattle.clone_serve.specs.declared.doing.Doing.TheVariants as doing
use Rattle.clone_tasks.specs.Tables.{Table, incarnation_of}
use Rattle.clone_recipient.specs.Receptions.{Reception}
use Rattle.clone_network.specs.Connections.{Connection, is_open, reaches_task}
use Rattle.clone_network.specs.Networks.{Network, with_connection}
use Rattle.clone_rounds.specs.Steps.{DonorStep, answering, sends}
use Rattle.clone_rounds.specs.World.{Stage as StageAnswer, World, with_seat}
use Rattle.clone_view.specs.Frames.{AreAnswers, answer_of}
use Rattle.clone_view.specs.Views.{Line, line_answered, list_in}
use Rattle.clone_view.proofs.DonorSteps.{answers_sent}
use Rattle.clone_paired.specs.Lines.{IsLineOf, caller_of, connection_of}
use Rattle.clone_paired.specs.Paired.{IsTalking}
use Rattle.clone_paired.specs.Sessions.{HasComeTo}
use Rattle.clone_paired.specs.Speaking.{IsGiven}
use Rattle.clone_paired.specs.Unread.{Holds}
use Rattle.clone_paired.proofs.DonorAwaiting.{Bound, told_on}
use Rattle.clone_paired.proofs.DonorExecutes.{Present, present}
use Rattle.clone_paired.proofs.DonorReads.{Asks, HasRead, all_told, lost_live, told_some}
use Rattle.clone_paired.proofs.DonorLosses.{for_some}
use Rattle.clone_paired.proofs.DonorTurns.{Sees, Turns, first, turned_talks, x}
use Rattle.clone_paired.proofs.Linked.{Linked}

module _ (session : Option Session) (r : Reception) (n : Network) (tasks : length n.seats ≡ r.table.count) (talks : IsTalking session r n) (k number : ℕ) (has : connection_of n k ≡ Some number) where
  abbrev here : Linked session r n talks.lines talks.known (first session r n tasks talks k number has).rounds k
  here = x session r n tasks talks k number has

  -- the command was read, and this STAGE is sent
  module _ (live : is_open here.at ≡ true) (command : Frame) (left : List ℕ) (read : HasRead session r n tasks talks k number has command left) (caller : Caller) (caller_is : caller ≡ caller_of r.table k) (told : Frame) (of_told : IsFrameOf ofDonor told) where
    abbrev pub answered_on : Connection
    answered_on = record here.at {
      to_donor = left;
      to_task = told_on (reaches_task here.at) (Some told) here.at.to_task;
      doing = doing.Ready caller;
    }

    abbrev pub after : Line
    after = line_answered here.l (doing.Ready caller) told

    live_new : is_open answered_on ≡ true
    live_new = by here.at.found_lost live
      where
        by : (lost : Bool) → (not lost && not (is_over here.at.doing)) ≡ true → (not lost && true) ≡ true
        by false is = refl
        by true is = absurd (cc (is))

    cut_is : here.l.cut ≡ here.at.cut
    cut_is = here.of.cut ∙ lost_live here.at live

    -- the line, by whichever session what lies unread was given
    pub told_line : (now : Option Session) → AllByRecursion (IsGiven now r) here.l.answers → IsGiven now r told → IsLineOf now r k answered_on after
    told_line now all given = record {
      held = here.of.held;
      cut = cut_is ∙ sym (lost_live answered_on live_new);
      doing = sym (ap (λ (b : Bool). if b then doing.Ready caller else doing.Over) live_new);
      binds = caller_is;
      live = λ is. read.empty;
      over = λ is. refl;
      answers = subst (λ (c : Bool). Holds ofDonor here.at.cut (sends c here.l.answers told) answered_on.to_task) (sym cut_is) (told_some here.at.cut here.at.held here.l.answers here.at.to_task told here.of.held of_told here.of.answers);
      asked = tt;
      given = all_told (IsGiven now r) here.l.cut here.l.answers told all given;
    }

    module _ (given : IsGiven session r told) where
      of_new : IsLineOf session r k answered_on after
      of_new = told_line session here.of.given given

      -- the seat answers so, by a step of the rounds
      answered_turns : (stage : ℕ) (counts : ℕ → List ℕ) (w : World) → Sees session r n tasks talks k number has counts w → answer_of counts told ≡ Some (StageAnswer stage) → DonorStep w (with_seat w k (answering (w.seats k) stage)) → Turns counts (list_in session) w k after
      answered_turns stage counts w s says step_of = record {
        seat = answering (w.seats k) stage;
        moves = inr (inl step_of);
        connected = refl;
        awaits = refl;
        ended = refl;
        line = record {
          connected = s.line.connected;
          cut = s.line.cut;
          commands = refl;
          answers = subst (λ (c : Bool). AreAnswers counts (sends here.l.cut here.l.answers told) (sends c (w.seats k).answers (StageAnswer stage))) (sym s.line.cut) (answers_sent counts here.l.cut here.l.answers (w.seats k).answers told (StageAnswer stage) s.line.answers says);
          core = refl;
        };
      }

      pub answered_talks : (stage : ℕ) → ((counts : ℕ → List ℕ) → answer_of counts told ≡ Some (StageAnswer stage)) → ((counts : ℕ → List ℕ) (w : World) → Sees session r n tasks talks k number has counts w → DonorStep w (with_seat w k (answering (w.seats k) stage))) → IsTalking session r (with_connection number answered_on n)
      answered_talks stage says steps = turned_talks session r n tasks talks k number has answered_on after (λ counts w s. answered_turns stage counts w s (says counts) (steps counts w s)) of_new (for_some (λ (s : Session). HasComeTo s k (doing.Ready caller)) (λ s. tt) session)

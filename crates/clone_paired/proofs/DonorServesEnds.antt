-- A donor's end of a task's connection goes on within an EXECUTE, and leaves the session: the END is sent, the loop ends
-- by a fault of the disk or by a loss, or a block is to be read again.
use Rattle.std.proofs.Common.{ℕ, ◌≡◌, ◌∙◌, List, [], Bool, true, false, if◌then◌else◌, Option, Some, length, refl, sym, ap, subst, inl, inr}
use Rattle.std.specs.Prelude.{not, ◌||◌, ◌&&◌}
use Rattle.std.specs.List.{All}
use Rattle.std.proofs.lemmas.Bool.{both_ways}
use Rattle.clone_chunk.specs.Chunks.{IsTaken}
use Rattle.clone_chunk.specs.Stages.{copy_number}
use Rattle.clone_session.specs.Cloning.{Session}
use Rattle.clone_session.specs.declared.caller.Caller.{Caller}
use Rattle.clone_wire.specs.declared.frame.Frame.{Frame}
use Rattle.clone_wire.specs.declared.frame.Side.TheVariants.{Answer as ofDonor}
use Rattle.clone_stream.specs.Streams.{IsFrameOf}
use Rattle.clone_serve.specs.Serving.{is_over}
use Rattle.clone_serve.specs.Telling.{end_frame}
use Rattle.clone_serve.specs.declared.doing.Doing.{Doing}
use Rattle.clone_serve.specs.declared.doing.Doing.TheVariants as doing
use Rattle.clone_serve.specs.declared.doing.Execution.{Execution}
use Rattle.clone_serve.specs.declared.doing.Place.{Place}
use Rattle.clone_serve.specs.declared.doing.Work.{Work}
use Rattle.clone_serve.specs.declared.doing.Work.TheVariants.{Read}
use Rattle.clone_recipient.specs.Receptions.{Reception}
use Rattle.clone_network.specs.Connections.{Connection, is_open}
use Rattle.clone_network.specs.Networks.{Network, with_connection}
use Rattle.clone_rounds.specs.Steps.{after_call, closing, end_sent, fails, finishes, sends}
use Rattle.clone_rounds.specs.World.{End, IsServing, Ready, Serving as ServingCore, World}
use Rattle.clone_rounds.proofs.Puts.{put_all}
use Rattle.clone_view.specs.Donors.{IsSession, core_of}
use Rattle.clone_view.specs.Frames.{AreAnswers}
use Rattle.clone_view.specs.Views.{IsSeat, Line, line_closed, line_doing, line_served}
use Rattle.clone_view.proofs.DonorSteps.{answers_sent}
use Rattle.clone_paired.specs.Lines.{IsLineOf, caller_of, connection_of}
use Rattle.clone_paired.specs.Paired.{IsTalking}
use Rattle.clone_paired.specs.Sessions.{HasComeTo}
use Rattle.clone_paired.specs.Speaking.{IsGiven}
use Rattle.clone_paired.specs.Unread.{Holds}
use Rattle.clone_paired.proofs.DonorEnding.{blocks_taken, end_number}
use Rattle.clone_paired.proofs.DonorReads.{lost_live, unfound}
use Rattle.clone_paired.proofs.DonorSendsLine.{at_cut, of_served, served_on}
use Rattle.clone_paired.proofs.DonorServes.{GoesOn, IsIn, caller_is, doing_is, goes_talks, is_in}
use Rattle.clone_paired.proofs.DonorTurns.{Sees, Turns, come_same, first, sees, turned_talks, x}
use Rattle.clone_paired.proofs.Linked.{Linked}

module _ (s : Session) (r : Reception) (n : Network) (tasks : length n.seats ≡ r.table.count) (talks : IsTalking (Some s) r n) (k number : ℕ) (has : connection_of n k ≡ Some number) where
  abbrev here : Linked (Some s) r n talks.lines talks.known (first (Some s) r n tasks talks k number has).rounds k
  here = x (Some s) r n tasks talks k number has

  abbrev Seen : (ℕ → List ℕ) → World → Type 0
  Seen counts w = Sees (Some s) r n tasks talks k number has counts w

  module _ (live : is_open here.at ≡ true) (run : Execution) (what : Work) (serving : here.at.doing ≡ doing.Serving run what) (rest : List ℕ) (core : core_of s.snap.list (doing.Serving run what) ≡ Some (ServingCore (copy_number run.stage) rest)) where
    facts : (counts : ℕ → List ℕ) (w : World) → Seen counts w → IsIn s r n tasks talks k number has live run what serving w rest
    facts counts w see = is_in s r n tasks talks k number has live run what serving counts w rest see core

    pub known_facts : IsIn s r n tasks talks k number has live run what serving (first (Some s) r n tasks talks k number has).rounds rest
    known_facts = facts talks.known (first (Some s) r n tasks talks k number has).rounds (sees (Some s) r n tasks talks k number has talks.known (first (Some s) r n tasks talks k number has))

    -- ---- THE LOOP ENDS: by a fault of the disk, or since the connection was cut

    module _ (new : Connection) (held : new.held ≡ here.at.held) (cut : new.cut ≡ here.at.cut) (to_task : new.to_task ≡ here.at.to_task) (shut : is_open new ≡ false) where
      of_closed : IsLineOf (Some s) r k new (line_closed here.l)
      of_closed = record {
        held = held ∙ here.of.held;
        cut = sym (ap (λ (b : Bool). new.cut || not b) shut ∙ or_true new.cut);
        doing = sym (ap (λ (b : Bool). if b then new.doing else doing.Over) shut);
        binds = tt;
        live = λ is. absurd (both_ways (is_open new) shut is);
        over = λ is. refl;
        answers = subst (λ (c : Bool). Holds ofDonor c here.l.answers new.to_task) (sym cut) (subst (Holds ofDonor here.at.cut here.l.answers) (sym to_task) here.of.answers);
        asked = tt;
        given = here.of.given;
      }
        where
          or_true : (b : Bool) → (b || true) ≡ true
          or_true true = refl
          or_true false = refl

      closed_turns : (counts : ℕ → List ℕ) (w : World) → Seen counts w → Turns counts s.snap.list w k (line_closed here.l)
      closed_turns counts w see =
          let f = facts counts w see in
          record {
            seat = closing (w.seats k);
            moves = inr (inl (fails k (record { linked = see.linked; serving = subst IsServing (sym f.core) tt })));
            connected = refl;
            awaits = refl;
            ended = refl;
            line = record { connected = see.line.connected; cut = refl; commands = refl; answers = see.line.answers; core = refl };
          }

      pub closed_talks : IsTalking (Some s) r (with_connection number new n)
      closed_talks = turned_talks (Some s) r n tasks talks k number has new (line_closed here.l) closed_turns of_closed tt

    -- ---- THE END was sent, for each chunk is taken

    module _ (none : rest ≡ []) (taken : All IsTaken s.snap.chunks) (of_end : IsFrameOf ofDonor (end_frame run.caller (copy_number run.stage))) where
      abbrev told : Frame
      told = end_frame run.caller (copy_number run.stage)

      abbrev next : Doing
      next = doing.Ready run.caller

      pub caller : run.caller ≡ caller_of r.table k
      caller = caller_is (Some s) r n tasks talks k number has live run what serving

      pub given : IsGiven (Some s) r told
      given = ap (λ (c : Caller). record { session = c.session; incarnation = c.incarnation }) caller

      abbrev pub end_on : Connection
      end_on = served_on s s r n tasks talks k number has live known_facts.idle told of_end next refl caller given (λ f is. is)

      end_turns : (counts : ℕ → List ℕ) (w : World) → Seen counts w → Turns counts s.snap.list w k (line_served here.l next told)
      end_turns counts w see =
          let f = facts counts w see in
          let at_is : copy_number run.stage ≡ w.sides.at = f.claims.stage_is in
          let donor : IsSession _ s w = see.view.donor in
          record {
            seat = end_sent (w.seats k) w.sides.at;
            moves = inr (inl (finishes k (record { linked = see.linked; core = f.core ∙ (λ i. ServingCore (at_is i) (none i)) }) (blocks_taken s w donor.owner donor.size taken)));
            connected = refl;
            awaits = refl;
            ended = refl;
            line = record {
              connected = see.line.connected;
              cut = see.line.cut;
              commands = see.line.commands;
              answers = subst (λ (c : Bool). AreAnswers counts (sends here.l.cut here.l.answers told) (sends c (w.seats k).answers (End w.sides.at))) (sym see.line.cut) (answers_sent counts here.l.cut here.l.answers (w.seats k).answers told (End w.sides.at) see.line.answers (ap (λ (y : ℕ). Some (End y)) (end_number run.stage ∙ at_is)));
              core = subst (λ (c : Bool). core_of s.snap.list (if here.l.cut then doing.Over else next) ≡ Some (after_call c Ready)) (sym see.line.cut) (after_cut here.l.cut);
            };
          }
        where
          after_cut : (cut : Bool) → core_of s.snap.list (if cut then doing.Over else next) ≡ Some (after_call cut Ready)
          after_cut true = refl
          after_cut false = refl

      pub end_talks : IsTalking (Some s) r (with_connection number end_on n)
      end_talks = turned_talks (Some s) r n tasks talks k number has end_on (line_served here.l next told) end_turns (of_served s s r n tasks talks k number has live known_facts.idle told of_end next refl caller given (λ f is. is)) (at_cut here.l.cut (HasComeTo s k) next tt tt)

  -- ---- A BLOCK IS TO BE READ, again or not

  module _ (live : is_open here.at ≡ true) (run : Execution) (place : Place) (again now_again : Bool) (serving : here.at.doing ≡ doing.Serving run (Read place again)) where
    abbrev reading : Doing
    reading = doing.Serving run (Read place now_again)

    abbrev pub reading_on : Connection
    reading_on = record here.at { doing = reading }

    abbrev line_reading : Line
    line_reading = line_doing here.l reading

    was : here.l.doing ≡ doing.Serving run (Read place again)
    was = doing_is (Some s) r n tasks talks k number has live run (Read place again) serving

    live_reading : is_open reading_on ≡ true
    live_reading = ap (λ (b : Bool). not b && true) (unfound here.at.found_lost (is_over here.at.doing) live)

    of_reading : IsLineOf (Some s) r k reading_on line_reading
    of_reading = record {
      held = here.of.held;
      cut = here.of.cut ∙ lost_live here.at live ∙ sym (lost_live reading_on live_reading);
      doing = sym (ap (λ (b : Bool). if b then reading else doing.Over) live_reading);
      binds = caller_is (Some s) r n tasks talks k number has live run (Read place again) serving;
      live = λ is. here.of.live live;
      over = λ is. absurd (both_ways (is_open reading_on) is live_reading);
      answers = here.of.answers;
      asked = here.of.asked;
      given = here.of.given;
    }

    goes : GoesOn s r n tasks talks k number has s refl reading_on line_reading
    goes counts old counted =
        let w = old.rounds in
        let see : Seen counts w = sees (Some s) r n tasks talks k number has counts old in
        let core : core_of s.snap.list reading ≡ Some (w.seats k).core = ap (core_of s.snap.list) (sym was) ∙ see.line.core in
        record {
          next = w;
          rule = old.rule;
          view = record { table = old.view.table; donor = old.view.donor; seats = put_all (λ j (l : Option Line). IsSeat counts s.snap.list l (w.seats j)) talks.lines k (Some line_reading) (λ j other. old.view.seats j) (record { connected = see.line.connected; cut = see.line.cut; commands = see.line.commands; answers = see.line.answers; core = core }) };
          sizes = refl;
          acknowledged = refl;
          unsent = old.unsent;
        }

    come_reading : HasComeTo s k reading
    come_reading = subst (HasComeTo s k) was (come_same (Some s) r n tasks talks k number has)

    pub reading_talks : IsTalking (Some s) r (with_connection number reading_on n)
    reading_talks = goes_talks s r n tasks talks k number has s refl reading_on line_reading goes talks.own (λ j c l of. of) (λ j other d h. h) of_reading come_reading

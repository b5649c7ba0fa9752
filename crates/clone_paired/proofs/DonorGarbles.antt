-- A donor's end of a task's connection finds what it has got garbled only where that is less than a command, on a connection that was cut.
use Rattle.std.proofs.Common.{ℕ, ◌≡◌, ◌≢◌, ◌∙◌, ◌⊎◌, List, [], ◌∷◌, ◌++◌, Bool, true, false, if◌then◌else◌, Option, None, Some, append_assoc, length, refl, sym, ap, subst, inl, inr}
use Rattle.std.specs.Prelude.{slice_get, not, ◌&&◌}
use Rattle.std.specs.Option.{option_map_or}
use Rattle.std.proofs.lemmas.Bool.{both_ways}
use Rattle.clone_chunk.specs.Stages.{copy_number}
use Rattle.clone_snapshot.specs.StageLists.{StageList}
use Rattle.clone_session.specs.Cloning.{Session}
use Rattle.clone_wire.specs.Answers.{IsLost}
use Rattle.clone_session.specs.declared.caller.Caller.{Caller}
use Rattle.clone_wire.specs.Spelling.{code_of, spelling}
use Rattle.clone_wire.specs.declared.frame.Frame.{Frame}
use Rattle.clone_wire.specs.declared.frame.Frame.TheVariants as frame
use Rattle.clone_wire.specs.declared.frame.Side.TheVariants.{Command as ofTask}
use Rattle.clone_stream.specs.Streams.{spellings}
use Rattle.clone_serve.specs.Commands.{is_in_turn, is_out_of_turn}
use Rattle.clone_serve.specs.Serving.{IsGarbled}
use Rattle.clone_serve.specs.declared.doing.Doing.{Doing}
use Rattle.clone_serve.specs.declared.doing.Doing.TheVariants as doing
use Rattle.clone_recipient.specs.Receptions.{Reception}
use Rattle.clone_network.specs.Connections.{Connection, is_open}
use Rattle.clone_network.specs.Networks.{Network, with_connection}
use Rattle.clone_rounds.specs.Fitting.{IsInTurn, waiting_for}
use Rattle.clone_rounds.specs.World.{Acknowledge, Command, Core, Execute, First, New, Over, Ready, World}
use Rattle.clone_rounds.proofs.Fitting.{all_fit}
use Rattle.clone_view.specs.Donors.{core_of}
use Rattle.clone_view.specs.Frames.{AreCommands, command_of}
use Rattle.clone_view.specs.Views.{list_in}
use Rattle.clone_paired.specs.Lines.{connection_of}
use Rattle.clone_paired.specs.Paired.{IsTalking}
use Rattle.clone_paired.specs.Unread.{Holds}
use Rattle.clone_paired.proofs.DonorAwaiting.{Bound}
use Rattle.clone_paired.proofs.DonorLosses.{doing_is, over_talks}
use Rattle.clone_paired.proofs.DonorTurns.{Sees, first, sees, x}
use Rattle.clone_paired.proofs.Linked.{Linked}
use Rattle.clone_paired.proofs.UnreadLemmas.{holds_found}

pub first_code : (f : Frame) (rest : List ℕ) → slice_get (spelling f ++ rest) 0 ≡ Some (code_of f)
unfolding spelling
first_code frame.Exit rest = refl
first_code _ rest = refl

-- what the core of an end awaits
abbrev core_for : Option Caller → Core
core_for None = New
core_for (Some caller) = Ready

pub awaiting_core : (list : StageList) (d : Doing) (bound : Option Caller) (core : Core) → Bound d bound → core_of list d ≡ Some core → core ≡ core_for bound
awaiting_core list doing.New bound core of is = let e : New ≡ core = cc (is) in sym e ∙ sym (ap core_for of)
awaiting_core list (doing.Ready caller) bound core of is = let e : Ready ≡ core = cc (is) in sym e ∙ sym (ap core_for of)
awaiting_core list other bound core of is = absurd of

-- a first command isn't in turn later, and a later one not first
early : IsInTurn First Ready → ⊥
early (inl is) = cc (is)
early (inr is) = cc (is)

late : (c : Command) → waiting_for c ≡ Ready → IsInTurn c New → ⊥
late c waits (inl is) = cc (is, waits)
late c waits (inr is) = cc (is)

first_early : (c : Command) → Some First ≡ Some c → IsInTurn c Ready → ⊥
first_early c is turn = let e : First ≡ c = cc (is) in early (subst (λ (y : Command). IsInTurn y Ready) (sym e) turn)

-- a command that is in turn in the rounds is in turn
in_turn : (bound : Option Caller) (f : Frame) (c : Command) → command_of f ≡ Some c → IsInTurn c (core_for bound) → is_in_turn bound (code_of f) ≡ true
in_turn None (frame.Init attempt version size compressed tasks) c is turn = refl
in_turn None (frame.Attach attempt task) c is turn = refl
in_turn None (frame.Reinit attempt stage finished) c is turn = refl
in_turn None (frame.Reinit2 attempt stage taken) c is turn = refl
in_turn None (frame.Execute stage) c is turn = let e : Execute (copy_number stage) ≡ c = cc (is) in absurd (late c (sym (ap waiting_for e)) turn)
in_turn None (frame.Ack stage floor) c is turn = let e : Acknowledge (copy_number stage) ≡ c = cc (is) in absurd (late c (sym (ap waiting_for e)) turn)
in_turn (Some caller) (frame.Execute stage) c is turn = refl
in_turn (Some caller) (frame.Ack stage floor) c is turn = refl
in_turn (Some caller) (frame.Init attempt version size compressed tasks) c is turn = absurd (first_early c is turn)
in_turn (Some caller) (frame.Attach attempt task) c is turn = absurd (first_early c is turn)
in_turn (Some caller) (frame.Reinit attempt stage finished) c is turn = absurd (first_early c is turn)
in_turn (Some caller) (frame.Reinit2 attempt stage taken) c is turn = absurd (first_early c is turn)
in_turn bound other c is turn = absurd (cc (is))

module _ (session : Option Session) (r : Reception) (n : Network) (tasks : length n.seats ≡ r.table.count) (talks : IsTalking session r n) (k number : ℕ) (has : connection_of n k ≡ Some number) where
  abbrev here : Linked session r n talks.lines talks.known (first session r n tasks talks k number has).rounds k
  here = x session r n tasks talks k number has

  abbrev world : World
  world = (first session r n tasks talks k number has).rounds

  module _ (live : is_open here.at ≡ true) (bound : Option Caller) (of : Bound here.at.doing bound) where
    see : Sees session r n tasks talks k number has talks.known world
    see = sees session r n tasks talks k number has talks.known (first session r n tasks talks k number has)

    core_is : (world.seats k).core ≡ core_for bound
    core_is = awaiting_core (list_in session) here.at.doing bound (world.seats k).core of (ap (core_of (list_in session)) (sym (doing_is session r n tasks talks k number has live bound of)) ∙ see.line.core)

    -- a whole command is in turn
    whole_turn : (f : Frame) (more : List Frame) (seen : List Command) → here.l.commands ≡ f ∷ more → (world.seats k).commands ≡ seen → AreCommands (f ∷ more) seen → is_in_turn bound (code_of f) ≡ true
    whole_turn f more [] frames is are = absurd (cc (are))
    whole_turn f more (c ∷ rest) frames is are = in_turn bound f c (cc (are)) (subst (IsInTurn c) core_is ((all_fit world see.rule).commands k c rest is).1)

    out_of_turn : (frames : List Frame) → here.l.commands ≡ frames → Holds ofTask here.at.cut frames here.at.to_donor → is_out_of_turn bound here.at.to_donor ≡ true → (frames ≡ []) × (here.at.cut ≡ true)
    out_of_turn (f ∷ more) frames h out =
        let split : here.at.to_donor ≡ spelling f ++ (spellings more ++ h.rest) = h.is ∙ append_assoc (spelling f) (spellings more) h.rest in
        let code : slice_get here.at.to_donor 0 ≡ Some (code_of f) = ap (λ (l : List ℕ). slice_get l 0) split ∙ first_code f (spellings more ++ h.rest) in
        let turn : is_in_turn bound (code_of f) ≡ true = whole_turn f more (world.seats k).commands frames refl (subst (λ (l : List Frame). AreCommands l (world.seats k).commands) frames see.line.commands) in
        absurd (both_ways (is_out_of_turn bound here.at.to_donor) (ap (λ (o : Option ℕ). option_map_or (λ code. not (is_in_turn bound code)) o false) code ∙ ap not turn) out)
    out_of_turn [] frames h out = (refl, by here.at.cut refl)
      where
        by : (b : Bool) → here.at.cut ≡ b → b ≡ true
        by true is = refl
        by false is =
            let none : here.at.to_donor ≡ [] = h.is ∙ h.whole is in
            absurd (both_ways (is_out_of_turn bound here.at.to_donor) (ap (is_out_of_turn bound) none) out)

    pub garbled_talks : (kept : List ℕ) → IsGarbled bound here.at.to_donor kept → IsTalking session r (with_connection number (record here.at { doing = doing.Over }) n)
    garbled_talks kept wrong = by wrong.0
      where
        shut : is_open (record here.at { doing = doing.Over }) ≡ false
        shut = at here.at.found_lost
          where
            at : (lost : Bool) → (not lost && false) ≡ false
            at true = refl
            at false = refl

        by : (is_out_of_turn bound here.at.to_donor ≡ true) ⊎ IsLost ofTask here.at.to_donor → IsTalking session r (with_connection number (record here.at { doing = doing.Over }) n)
        by (inl out) =
            let both = out_of_turn here.l.commands refl (here.of.live live) out in
            over_talks session r n tasks talks k number has live bound of both.1 both.0 (record here.at { doing = doing.Over }) refl refl refl shut
        by (inr lost) = absurd (holds_found ofTask here.at.cut here.l.commands here.at.to_donor (here.of.live live) lost)

-- A donor's end of a task's connection reads a command: what is known of it.
use Rattle.std.proofs.Common.{ℕ, ◌≡◌, ◌≢◌, ◌∙◌, ◌⊎◌, ◌<◌, List, [], ◌∷◌, ◌++◌, Bool, true, false, if◌then◌else◌, Option, None, Some, option_and_then, option_map, length, refl, sym, ap, subst, inl, inr, arith}
use Rattle.std.specs.Prelude.{slice_get, IfSome, not, ◌||◌, ◌&&◌, ◌==◌}
use Rattle.std.specs.List.{AllByRecursion}
use Rattle.std.proofs.lemmas.Bool.{both_ways, eqb-true, eq-eqb}
use Rattle.clone_session.specs.Cloning.{Cloning, Session}
use Rattle.clone_session.specs.CloneCauses.{donor_stage, session_of}
use Rattle.clone_session.specs.declared.caller.Caller.{Caller}
use Rattle.clone_wire.specs.Spelling.{spelling}
use Rattle.clone_wire.specs.declared.frame.Frame.{Frame}
use Rattle.clone_wire.specs.declared.frame.Side.{Side}
use Rattle.clone_wire.specs.declared.frame.Side.TheVariants.{Answer as ofDonor, Command as ofTask}
use Rattle.clone_stream.specs.Streams.{IsFrameOf}
use Rattle.clone_serve.specs.Serving.{is_over}
use Rattle.clone_serve.specs.declared.doing.Doing.{Doing}
use Rattle.clone_serve.specs.declared.doing.Doing.TheVariants as doing
use Rattle.clone_tasks.specs.Tables.{Table, incarnation_of}
use Rattle.clone_recipient.specs.Receptions.{Reception}
use Rattle.clone_network.specs.Connections.{Connection, is_open, reaches_task}
use Rattle.clone_network.specs.Networks.{Network, with_connection}
use Rattle.clone_rounds.specs.Awaiting.{IsDue, Rule, TalkOf, Talks}
use Rattle.clone_rounds.specs.Fitting.{Accepts, IsPresent}
use Rattle.clone_rounds.specs.Steps.{sends}
use Rattle.clone_rounds.specs.World.{Command, Seat, World}
use Rattle.clone_rounds.proofs.Fitting.{all_fit}
use Rattle.clone_view.specs.Donors.{IsDonor}
use Rattle.clone_view.specs.Frames.{AreCommands, command_of}
use Rattle.clone_view.specs.Views.{IsLine, IsView, Line, list_in}
use Rattle.clone_paired.specs.Lines.{IsLineOf, caller_of, connection_of, doing_at, is_lost}
use Rattle.clone_paired.specs.Own.{own_session}
use Rattle.clone_paired.specs.Paired.{IsTalking}
use Rattle.clone_paired.specs.Speaking.{IsAsked, IsGiven}
use Rattle.clone_paired.specs.Unread.{Holds}
use Rattle.clone_paired.proofs.DonorAwaiting.{told_on}
use Rattle.clone_paired.proofs.DonorTurns.{Sees, first, sees, x}
use Rattle.clone_paired.proofs.Linked.{Linked}
use Rattle.clone_paired.proofs.UnreadLemmas.{Reads, holds_read, holds_sent}

-- ---- a session at a donor

abbrev pub bare : Session → Session
bare s = record s { snap = record s.snap { room = 0 } }

pub record Stands (number : ℕ) (c : Cloning) (s : Session) : Type 0 where
  pub full : Session
  pub found : session_of c number ≡ Some full
  pub there : c.session ≡ Some full
  pub is : s ≡ bare full

-- the session that it has is the one that stands
pub stands : (number : ℕ) (c : Cloning) (s : Session) → own_session number c ≡ Some s → Stands number c s
stands number c s own = by c.session refl own
  where
    at : (full : Session) → c.session ≡ Some full → (b : Bool) → (full.number == number) ≡ b → (if b then Some (bare full) else None) ≡ Some s → Stands number c s
    at full is true same own = record {
      full = full;
      found = ap (λ (o : Option Session). option_and_then (λ (t : Session). if t.number == number then Some t else None) o) is ∙ ap (λ (b : Bool). if b then Some full else None) same;
      there = is;
      is = sym (cc (own));
    }
    at full is false same own = absurd (cc (own))

    by : (o : Option Session) → c.session ≡ o → option_and_then (λ (t : Session). if t.number == number then Some t else None) (option_map (λ (t : Session). record t { snap = record t.snap { room = 0 } }) o) ≡ Some s → Stands number c s
    by None is own = absurd (cc (own))
    by (Some full) is own = at full is (full.number == number) refl own

-- ---- a connection whose end goes on

pub lost_live : (at : Connection) → is_open at ≡ true → is_lost at ≡ at.cut
lost_live at is = ap (λ b. at.cut || not b) is ∙ or_none at.cut
  where
    or_none : (a : Bool) → (a || false) ≡ a
    or_none true = refl
    or_none false = refl

pub unfound : (lost over : Bool) → (not lost && not over) ≡ true → lost ≡ false
unfound false over is = refl
unfound true over is = absurd (cc (is))

-- nothing is sent
pub told_none : (reaches : Bool) (unread : List ℕ) → told_on reaches None unread ≡ unread
told_none true unread = refl
told_none false unread = refl

-- an answer is sent, or reaches nobody
pub told_some : (cut held : Bool) (answers : List Frame) (unread : List ℕ) (next : Frame) → held ≡ true → IsFrameOf ofDonor next → Holds ofDonor cut answers unread → Holds ofDonor cut (sends cut answers next) (told_on (held && not cut) (Some next) unread)
told_some true true answers unread next is of h = h
told_some false true answers unread next is of h = holds_sent ofDonor answers unread next h of
told_some cut false answers unread next is of h = absurd (cc (is))

pub all_told : (P : Frame → Type 0) (cut : Bool) (answers : List Frame) (next : Frame) → AllByRecursion P answers → P next → AllByRecursion P (sends cut answers next)
all_told P true answers next all own = all
all_told P false answers next all own = more answers all
  where
    more : (xs : List Frame) → AllByRecursion P xs → AllByRecursion P (xs ++ next ∷ [])
    more [] all = (own, tt)
    more (y ∷ ys) all = (all.0, more ys all.1)

-- ---- a command at the front

-- the only command, and no answer is unread
pub record Asks (w : World) (k : ℕ) (c : Command) : Type 0 where
  pub front : (w.seats k).commands ≡ c ∷ []
  pub quiet : (w.seats k).answers ≡ []
  pub accepts : Accepts w.sides k c

asks_only : (w : World) (k : ℕ) (c : Command) (more : List Command) → Rule w → (w.seats k).connected ≡ true → (w.seats k).commands ≡ c ∷ more → Asks w k c × (more ≡ [])
asks_only w k c more rule connected is =
    let s = w.seats k in
    let talk : TalkOf w.sides k s = (rule.seats k).talk connected in
    let t = subst (λ (cs : List Command). Talks w.sides.stage w.sides.at k (IsDue w.sides k) cs s.awaits s.answers s.cut s.core) is talk in
    (record { front = is ∙ ap (λ (l : List Command). c ∷ l) t.0; quiet = t.1; accepts = ((all_fit w rule).commands k c more is).0 }, t.0)

front_seen : (command : Frame) (more : List Frame) (cs : List Command) (c : Command) → AreCommands (command ∷ more) cs → command_of command ≡ Some c → (rest : List Command) × (cs ≡ c ∷ rest) × AreCommands more rest
front_seen command more [] c are is = absurd (cc (are))
front_seen command more (d ∷ rest) c are is = (rest, cc (are, is), cc (are))

none_of : (more : List Frame) (rest : List Command) → AreCommands more rest → rest ≡ [] → more ≡ []
none_of [] rest are none = refl
none_of (f ∷ more) [] are none = absurd (cc (are))
none_of (f ∷ more) (c ∷ rest) are none = absurd (cc (none))

module _ (session : Option Session) (r : Reception) (n : Network) (tasks : length n.seats ≡ r.table.count) (talks : IsTalking session r n) (k number : ℕ) (has : connection_of n k ≡ Some number) where
  abbrev here : Linked session r n talks.lines talks.known (first session r n tasks talks k number has).rounds k
  here = x session r n tasks talks k number has

  -- THE COMMAND that its end has read, and these bytes are left
  pub record HasRead (command : Frame) (left : List ℕ) : Type 0 where
    pub is : here.l.commands ≡ command ∷ []
    pub asked : IsAsked r.table k command
    pub empty : Holds ofTask here.at.cut [] left
    pub sees : (counts : ℕ → List ℕ) (w : World) (c : Command) → Sees session r n tasks talks k number has counts w → command_of command ≡ Some c → Asks w k c

  pub has_read : is_open here.at ≡ true → (command : Frame) (left : List ℕ) (c : Command) → command_of command ≡ Some c → IsFrameOf ofTask command → here.at.to_donor ≡ spelling command ++ left → HasRead command left
  has_read live command left c is of taken = by (holds_read ofTask here.at.cut here.l.commands here.at.to_donor left command (here.of.live live) of taken)
    where
      s : Sees session r n tasks talks k number has talks.known (first session r n tasks talks k number has).rounds
      s = sees session r n tasks talks k number has talks.known (first session r n tasks talks k number has)

      by : Reads ofTask here.at.cut here.l.commands command left → HasRead command left
      by reads =
          let w = (first session r n tasks talks k number has).rounds in
          let seen = front_seen command reads.more (w.seats k).commands c (subst (λ (f : List Frame). AreCommands f (w.seats k).commands) reads.are s.line.commands) is in
          let one = asks_only w k c seen.0 s.rule s.line.connected seen.1 in
          let none : reads.more ≡ [] = none_of reads.more seen.0 seen.2 one.1 in
          let all : here.l.commands ≡ command ∷ [] = reads.are ∙ ap (λ (l : List Frame). command ∷ l) none in
          record {
            is = all;
            asked = (subst (AllByRecursion (IsAsked r.table k)) all here.of.asked).0;
            empty = subst (λ (f : List Frame). Holds ofTask here.at.cut f left) none reads.holds;
            sees = λ counts u d sees_it says.
                (let f = front_seen command [] (u.seats k).commands d (subst (λ (l : List Frame). AreCommands l (u.seats k).commands) all sees_it.line.commands) says in
                (asks_only u k d f.0 sees_it.rule sees_it.line.connected f.1).0);
          }

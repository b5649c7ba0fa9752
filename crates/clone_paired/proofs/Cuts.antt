-- A connection is cut.
use Rattle.std.proofs.Common.{ℕ, zero, suc, ◌≡◌, ◌≢◌, ◌∙◌, ◌⊎◌, ◌<◌, List, [], ◌∷◌, ◌++◌, Bool, true, false, if◌then◌else◌, Option, None, Some, length, map, take, refl, sym, ap, subst, inl, inr, arith}
use Rattle.std.specs.Prelude.{slice_get, IfSome}
use Rattle.std.specs.List.{AllByRecursion}
use Rattle.std.specs.Option.{option_and_then, option_map_or}
use Rattle.std.proofs.lemmas.Bool.{both_ways, cases_eq}
use Rattle.clone_session.specs.Cloning.{Session}
use Rattle.clone_wire.specs.declared.frame.Frame.{Frame}
use Rattle.clone_wire.specs.declared.frame.Side.TheVariants.{Answer as ofDonor, Command as ofTask}
use Rattle.clone_recipient.specs.Receptions.{Reception}
use Rattle.clone_network.specs.Connections.{Connection, cut_at, is_open}
use Rattle.clone_network.specs.Networks as network
use Rattle.clone_network.specs.Networks.{Network, on_connected, with_connection}
use Rattle.clone_rounds.specs.World.{IsLinked, put, with_seat}
use Rattle.clone_rounds.specs.Steps.{cut_to}
use Rattle.clone_rounds.proofs.Cutting.{keep_cuts}
use Rattle.clone_rounds.proofs.Puts.{find_below}
use Rattle.clone_view.specs.Frames.{AreAnswers, AreCommands, answer_of, command_of}
use Rattle.clone_view.specs.Views.{IsLine, IsSeat, Line, list_in}
use Rattle.clone_paired.specs.Lines.{IsLineOf, connection_of}
use Rattle.clone_paired.specs.Paired.{HasCopied, IsCopying, IsPaired, IsTalking}
use Rattle.clone_paired.specs.Seen.{IsSeen}
use Rattle.clone_paired.specs.Sessions.{HasComeTo}
use Rattle.clone_paired.specs.Speaking.{IsAsked, IsGiven}
use Rattle.clone_paired.specs.Unread.{Holds}
use Rattle.clone_paired.proofs.Changing.{past_with, talks_on, view_seat}
use Rattle.clone_paired.proofs.Linked.{Linked, linked_by}
use Rattle.clone_paired.proofs.UnreadLemmas.{Fronts, holds_cut}

pub all_front : {X : Type 0} (P : X → Type 0) (xs ys : List X) → AllByRecursion P (xs ++ ys) → AllByRecursion P xs
all_front P [] ys all = tt
all_front P (x ∷ xs) ys all = (all.0, all_front P xs ys all.1)

-- what is seen of a front is a front of what is seen
pub record Splits {A B : Type 0} (f : A → Option B) (front : List A) (seen : List B) : Type 0 where
  pub kept : List B
  pub lost : List B
  pub are : seen ≡ kept ++ lost
  pub of : map f front ≡ map Some kept

pub split_seen : {A B : Type 0} (f : A → Option B) (front lost : List A) (seen : List B) → map f (front ++ lost) ≡ map Some seen → Splits f front seen
split_seen f [] lost seen is = record { kept = []; lost = seen; are = refl; of = refl }
split_seen f (x ∷ front) lost [] is = absurd (cc (is))
split_seen f (x ∷ front) lost (y ∷ seen) is =
    let rest = split_seen f front lost seen (cc (is)) in
    record { kept = y ∷ rest.kept; lost = rest.lost; are = ap (λ l. y ∷ l) rest.are; of = cc (is, rest.of) }

-- a task that has a connection is one of those that there are
pub had_small : (seats : List network.Seat) (k number : ℕ) → option_and_then (λ (s : network.Seat). s.connection) (slice_get seats k) ≡ Some number → k < length seats
had_small [] k number is = absurd (cc (is))
had_small (s ∷ seats) zero number is = omega arith
had_small (s ∷ seats) (suc k) number is = let less = had_small seats k number is in omega (arith, less)

module _ (session : Option Session) (r : Reception) (n : Network) (tasks : length n.seats ≡ r.table.count) (talks : IsTalking session r n) (to_donor to_task : ℕ) where
  -- the commands that are left, if its end still reads any
  record Left (at : Connection) (commands : List Frame) : Type 0 where
    kept : List Frame
    lost : List Frame
    are : commands ≡ kept ++ lost
    live : is_open at ≡ true → Holds ofTask true kept (take to_donor at.to_donor)
    over : is_open at ≡ false → kept ≡ []

  left_of : (at : Connection) (k : ℕ) (l : Line) → IsLineOf session r k at l → (b : Bool) → is_open at ≡ b → Left at l.commands
  left_of at k l of true is =
      let f : Fronts ofTask l.commands (take to_donor at.to_donor) = holds_cut ofTask to_donor at.cut l.commands at.to_donor (of.live is) in
      record { kept = f.kept; lost = f.lost; are = f.are; live = λ e. f.holds; over = λ e. absurd (both_ways (is_open at) e is) }
  left_of at k l of false is = record { kept = []; lost = l.commands; are = refl; live = λ e. absurd (both_ways (is_open at) is e); over = λ e. refl }

  module _ (k number : ℕ) (has : connection_of n k ≡ Some number) where
    first : IsSeen r.table session n talks.lines talks.known
    first = talks.rounds.seen talks.known (λ stage small. refl)

    x : Linked session r n talks.lines talks.known first.rounds k
    x = linked_by session r n talks.lines talks.known first.rounds talks.at first.view k number has

    abbrev new : Connection
    new = cut_at to_donor to_task x.at

    commands : Left x.at x.l.commands
    commands = left_of x.at k x.l x.of (is_open x.at) refl

    answers : Fronts ofDonor x.l.answers (take to_task x.at.to_task)
    answers = holds_cut ofDonor to_task x.at.cut x.l.answers x.at.to_task x.of.answers

    abbrev after : Line
    after = record x.l { cut = true; commands = commands.kept; answers = answers.kept }

    line_cut : IsLineOf session r k new after
    line_cut = record {
      held = x.of.held;
      cut = refl;
      doing = x.of.doing;
      binds = x.of.binds;
      live = commands.live;
      over = commands.over;
      answers = answers.holds;
      asked = all_front (IsAsked r.table k) commands.kept commands.lost (subst (AllByRecursion (IsAsked r.table k)) commands.are x.of.asked);
      given = all_front (IsGiven session r) answers.kept answers.lost (subst (AllByRecursion (IsGiven session r)) answers.are x.of.given);
    }

    one : number ≡ x.number
    one = cc (has, x.has)

    there_at : slice_get n.connections number ≡ Some x.at
    there_at = ap (slice_get n.connections) one ∙ x.there

    abbrev m : Network
    m = with_connection number new n

    seen_cut : (counts : ℕ → List ℕ) → IsSeen r.table session n talks.lines counts → IsSeen r.table session m (put talks.lines k (Some after)) counts
    seen_cut counts old =
        let s = old.rounds.seats k in
        let line : IsLine counts (list_in session) x.l s = subst (λ (o : Option Line). IsSeat counts (list_in session) o s) x.line (old.view.seats k) in
        let cs : Splits command_of commands.kept s.commands = split_seen command_of commands.kept commands.lost s.commands (subst (λ (f : List Frame). AreCommands f s.commands) commands.are line.commands) in
        let given : Splits (answer_of counts) answers.kept s.answers = split_seen (answer_of counts) answers.kept answers.lost s.answers (subst (λ (f : List Frame). AreAnswers counts f s.answers) answers.are line.answers) in
        let linked : IsLinked old.rounds k = record { task = subst (λ (c : ℕ). k < c) (tasks ∙ sym old.view.table.tasks) (had_small n.seats k number has); connected = line.connected } in
        let standing = old.view.table.seats k in
        record {
          rounds = with_seat old.rounds k (cut_to s cs.kept given.kept);
          rule = keep_cuts old.rounds k cs.kept given.kept cs.lost given.lost old.rule linked cs.are given.are;
          view = view_seat counts r session talks.lines old.rounds k after (cut_to s cs.kept given.kept) old.view (record { connected = standing.connected; awaits = standing.awaits; ended = standing.ended }) (record { connected = line.connected; cut = refl; commands = cs.of; answers = given.of; core = line.core });
          sizes = old.sizes;
          unsent = old.unsent;
          past = past_with session session r r n talks k number x.at new after has there_at r.table old.rounds.sides.acknowledged old.past;
        }

    come_cut : IfSome session (λ (s : Session). HasComeTo s k x.l.doing)
    come_cut = subst (λ (o : Option Line). IfSome o (λ (l : Line). IfSome session (λ (s : Session). HasComeTo s k l.doing))) x.line (talks.come k)

    cut_talks : IsTalking session r m
    cut_talks = talks_on session session r r n talks k number x.at new after has there_at refl (λ j c y other line of. of) talks.own talks.few line_cut talks.come come_cut talks.known (record { donor = talks.rounds.donor; recipient = talks.rounds.recipient; seen = λ counts agrees. seen_cut counts (talks.rounds.seen counts agrees) })

  -- some task has the connection, or none has
  pub has_or : (number k : ℕ) → (connection_of n k ≡ Some number) ⊎ (connection_of n k ≢ Some number)
  has_or number k = by (connection_of n k) refl
    where
      by : (c : Option ℕ) → connection_of n k ≡ c → (connection_of n k ≡ Some number) ⊎ (connection_of n k ≢ Some number)
      by None is = inr (λ has. cc (is, has))
      by (Some own) is = at (cases_eq own number)
        where
          at : (own ≡ number) ⊎ (own ≢ number) → (connection_of n k ≡ Some number) ⊎ (connection_of n k ≢ Some number)
          at (inl same) = inl (is ∙ ap (λ x. Some x) same)
          at (inr other) = inr (λ has. other (cc (is, has)))

  cut_held : (number : ℕ) (at : Connection) → slice_get n.connections number ≡ Some at → at.held ≡ true → IsTalking session r (with_connection number (cut_at to_donor to_task at) n)
  cut_held number at there held = by (find_below (λ k. connection_of n k ≡ Some number) (has_or number) (length n.seats))
    where
      seen : IsSeen r.table session n talks.lines talks.known
      seen = talks.rounds.seen talks.known (λ stage small. refl)

      by : ((k : ℕ) × (k < length n.seats) × (connection_of n k ≡ Some number)) ⊎ ((k : ℕ) → k < length n.seats → connection_of n k ≡ Some number → ⊥) → IsTalking session r (with_connection number (cut_at to_donor to_task at) n)
      by (inl found) =
          let same : (x found.0 number found.2).at ≡ at = cc (there_of found.0 found.2, there) in
          subst (λ (c : Connection). IsTalking session r (with_connection number (cut_at to_donor to_task c) n)) same (cut_talks found.0 number found.2)
        where
          there_of : (k : ℕ) (has : connection_of n k ≡ Some number) → slice_get n.connections number ≡ Some (x k number has).at
          there_of k has = there_at k number has
      by (inr none) = absurd (both_ways at.held (seen.past number at there (λ task has. none task (had_small n.seats task number has) has)).held held)

pub cut_paired : (session : Option Session) (r : Reception) (n : Network) (connection to_donor to_task : ℕ) → IsPaired session r n → IsPaired session r (on_connected connection (cut_at to_donor to_task) n)
cut_paired session r n number to_donor to_task p = by (slice_get n.connections number) refl
  where
    goes : (at : Connection) → slice_get n.connections number ≡ Some at → at.held ≡ true → IsCopying session r n ⊎ HasCopied r n → IsCopying session r (with_connection number (cut_at to_donor to_task at) n) ⊎ HasCopied r (with_connection number (cut_at to_donor to_task at) n)
    goes at is held (inl c) = inl (record { going = c.going; talking = cut_held session r n p.tasks c.talking to_donor to_task number at is held })
    goes at is held (inr c) = inr (record { done = c.done; rests = c.rests; made = c.made })

    if_held : (at : Connection) → slice_get n.connections number ≡ Some at → (b : Bool) → at.held ≡ b → IsPaired session r (if b then with_connection number (cut_at to_donor to_task at) n else n)
    if_held at is false held = p
    if_held at is true held = record { tasks = p.tasks; goes = goes at is held p.goes }

    by : (found : Option Connection) → slice_get n.connections number ≡ found → IsPaired session r (option_map_or (λ at. if at.held then with_connection number (cut_at to_donor to_task at) n else n) found n)
    by None is = p
    by (Some at) is = if_held at is at.held refl

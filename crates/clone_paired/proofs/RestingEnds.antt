-- Where such an end is one of a task, or one of an earlier incarnation, the clone stays paired.
use Rattle.std.proofs.Common.{ℕ, ◌≡◌, ◌≢◌, ◌∙◌, ◌⊎◌, ◌<◌, List, [], Bool, true, false, if◌then◌else◌, Option, None, Some, length, refl, sym, ap, subst, inl, inr}
use Rattle.std.specs.Prelude.{slice_get, not, ◌||◌, ◌&&◌, MatchOption, IfSome}
use Rattle.std.proofs.lemmas.Bool.{cases_eq}
use Rattle.std.proofs.lemmas.Option.{slice_get_within}
use Rattle.clone_base.proofs.MapEntries.{slice_get-set_other, slice_get-set_same}
use Rattle.clone_snapshot.specs.StageLists.{StageList}
use Rattle.clone_session.specs.Cloning.{Session}
use Rattle.clone_wire.specs.Answers.{BeginsNone}
use Rattle.clone_wire.specs.declared.frame.Side.TheVariants.{Command as ofTask}
use Rattle.clone_calls.specs.declared.answer.DonorAnswer.{DonorAnswer}
use Rattle.clone_calls.specs.declared.call.DonorCall.{DonorCall}
use Rattle.clone_serve.specs.declared.doing.Doing.{Doing}
use Rattle.clone_serve.specs.declared.doing.Doing.TheVariants as doing
use Rattle.clone_serve.specs.Serving.{is_over}
use Rattle.clone_serve.specs.declared.turn.ServeAnswer.TheVariants as says
use Rattle.clone_tasks.specs.Tables.{Table}
use Rattle.clone_recipient.specs.Receptions.{Reception}
use Rattle.clone_network.specs.Connections.{Connection, StepsBy, is_open, is_serving}
use Rattle.clone_network.specs.Networks.{Network, StepsDonor, with_connection}
use Rattle.clone_network.specs.declared.donor_step.DonorStep.{DonorStep}
use Rattle.clone_network.specs.declared.donor_step.DonorStep.TheVariants as step
use Rattle.clone_rounds.specs.World.{Core, IsLive, IsServing, New, Over, Ready, Seat, put, with_seat}
use Rattle.clone_rounds.proofs.Serving.{keep_finds_loss}
use Rattle.clone_rounds.proofs.Puts.{find_below}
use Rattle.clone_view.specs.Donors.{core_of}
use Rattle.clone_view.specs.Views.{IsLine, IsSeat, Line, line_over, list_in}
use Rattle.clone_paired.specs.Earlier.{IsPast}
use Rattle.clone_paired.specs.Lines.{IsAt, IsLineOf, connection_of}
use Rattle.clone_paired.specs.Paired.{HasCopied, IsCopying, IsPaired, IsTalking}
use Rattle.clone_paired.specs.Quiet.{FindsNothing, ServesNone}
use Rattle.clone_paired.specs.Seen.{ArePast, IsSeen}
use Rattle.clone_paired.specs.Sessions.{HasComeTo}
use Rattle.clone_paired.proofs.Changing.{past_with, talks_on, view_seat}
use Rattle.clone_paired.proofs.Cuts.{had_small, has_or}
use Rattle.clone_paired.proofs.EndSteps.{end_rests}
use Rattle.clone_paired.proofs.Linked.{Linked, linked_by}
use Rattle.clone_paired.proofs.QuietEnds.{IsAwaiting}
use Rattle.clone_paired.proofs.Stuck.{no_commands}
use Rattle.clone_paired.proofs.TaskSends.{set_same}
use Rattle.clone_paired.proofs.UnreadLemmas.{holds_partial}

-- a core that awaits a command
abbrev IsIdleCore : Core → Type 0
IsIdleCore core = IsLive core × (IsServing core → ⊥)

idle_core : (list : StageList) (d : Doing) (core : Core) → core_of list d ≡ Some core → is_serving d ≡ false → (d ≡ doing.Over → ⊥) → IsAwaiting d × IsIdleCore core
idle_core list doing.New core is idle live = let same : New ≡ core = cc (is) in (tt, subst IsIdleCore same (tt, λ h. h))
idle_core list (doing.Ready caller) core is idle live = let same : Ready ≡ core = cc (is) in (tt, subst IsIdleCore same (tt, λ h. h))
idle_core list (doing.Telling caller) core is idle live = absurd (cc (is))
idle_core list (doing.Starting run) core is idle live = absurd (cc (is))
idle_core list doing.Leaving core is idle live = absurd (cc (is))
idle_core list (doing.Serving run work) core is idle live = absurd (cc (idle))
idle_core list doing.Over core is idle live = absurd (live refl)

-- ---- the loop of the end has ended

live_found : (at : Connection) → is_open at ≡ true → at.found_lost ≡ false
live_found at is = by at.found_lost is
  where
    by : (found : Bool) → (not found && not (is_over at.doing)) ≡ true → found ≡ false
    by true is = absurd (cc (is))
    by false is = refl

live_over : (at : Connection) → is_open at ≡ true → at.doing ≡ doing.Over → ⊥
live_over at is over = by at.found_lost (sym (ap (λ (d : Doing). not at.found_lost && not (is_over d)) over) ∙ is)
  where
    by : (found : Bool) → (not found && false) ≡ true → ⊥
    by true is = cc (is)
    by false is = cc (is)

-- a loss was found
abbrev found : Connection → Connection
found at = record at { found_lost = true }

past_found : (t : Table) (acknowledged : Bool) (at : Connection) → IsPast t acknowledged at → IsPast t acknowledged (found at)
past_found t acknowledged at is = record { held = is.held; binds = tt; commands = []; live = λ alive. absurd (cc (alive)); asked = tt }

or_cut : (cut held : Bool) → held ≡ true → (cut || not held) ≡ true → cut ≡ true
or_cut true held is lost = refl
or_cut false held is lost = cc (is, lost)

module _ (session : Option Session) (r : Reception) (n : Network) (tasks : length n.seats ≡ r.table.count) (talks : IsTalking session r n) (number : ℕ) (at : Connection) (there : slice_get n.connections number ≡ Some at) (alive : is_open at ≡ true) (idle : is_serving at.doing ≡ false) (none : (bound : Doing) → at.doing ≡ bound → IsAwaiting bound → BeginsNone ofTask at.to_donor) (lost : (at.cut || not at.held) ≡ true) where
  abbrev m : Network
  m = with_connection number (found at) n

  -- ---- the connection of a task
  module _ (k : ℕ) (has : connection_of n k ≡ Some number) where
    first : IsSeen r.table session n talks.lines talks.known
    first = talks.rounds.seen talks.known (λ stage small. refl)

    x : Linked session r n talks.lines talks.known first.rounds k
    x = linked_by session r n talks.lines talks.known first.rounds talks.at first.view k number has

    at_is : at ≡ x.at
    at_is =
        let one : number ≡ x.number = cc (has, x.has) in
        cc (there, ap (slice_get n.connections) one, x.there)

    of : IsLineOf session r k at x.l
    of = subst (λ (c : Connection). IsLineOf session r k c x.l) (sym at_is) x.of

    cut_is : at.cut ≡ true
    cut_is = or_cut at.cut at.held of.held lost

    doing_is : x.l.doing ≡ at.doing
    doing_is = of.doing ∙ ap (λ (b : Bool). if b then at.doing else doing.Over) alive

    core_at : (list : StageList) (core : Core) → core_of list x.l.doing ≡ Some core → IsAwaiting at.doing × IsIdleCore core
    core_at list core is = idle_core list at.doing core (ap (core_of list) (sym doing_is) ∙ is) idle (live_over at alive)

    silent : x.l.commands ≡ []
    silent = holds_partial ofTask at.cut x.l.commands at.to_donor (of.live alive) (none at.doing refl (core_at (list_in session) (first.rounds.seats k).core x.seat.core).0)

    abbrev after : Line
    after = line_over x.l

    line_found : IsLineOf session r k (found at) after
    line_found = record {
      held = of.held;
      cut = of.cut ∙ ap (λ (b : Bool). b || not (is_open at)) cut_is ∙ sym (ap (λ (b : Bool). b || not (is_open (found at))) cut_is);
      doing = refl;
      binds = tt;
      live = λ is. absurd (cc (is));
      over = λ is. silent;
      answers = of.answers;
      asked = of.asked;
      given = of.given;
    }

    seen_found : (counts : ℕ → List ℕ) → IsSeen r.table session n talks.lines counts → IsSeen r.table session m (put talks.lines k (Some after)) counts
    seen_found counts old =
        let s = old.rounds.seats k in
        let line : IsLine counts (list_in session) x.l s = subst (λ (o : Option Line). IsSeat counts (list_in session) o s) x.line (old.view.seats k) in
        let core = core_at (list_in session) s.core line.core in
        let standing = old.view.table.seats k in
        let over : Seat = record s { core = Over } in
        record {
          rounds = with_seat old.rounds k over;
          rule = keep_finds_loss old.rounds k old.rule (record { linked = record { task = subst (λ (c : ℕ). k < c) (tasks ∙ sym old.view.table.tasks) (had_small n.seats k number has); connected = line.connected }; live = core.1.0; idle = core.1.1; none = no_commands x.l.commands s.commands line.commands silent; cut = line.cut ∙ of.cut ∙ ap (λ (b : Bool). b || not (is_open at)) cut_is });
          view = view_seat counts r session talks.lines old.rounds k after over old.view (record { connected = standing.connected; awaits = standing.awaits; ended = standing.ended }) (record { connected = line.connected; cut = line.cut; commands = line.commands; answers = line.answers; core = refl });
          sizes = old.sizes;
          unsent = old.unsent;
          past = past_with session session r r n talks k number at (found at) after has there r.table old.rounds.sides.acknowledged old.past;
        }

    over_come : (o : Option Session) → IfSome o (λ (z : Session). HasComeTo z k doing.Over)
    over_come None = tt
    over_come (Some z) = tt

    talks_found : IsTalking session r m
    talks_found = talks_on session session r r n talks k number at (found at) after has there refl (λ j c y other line of_j. of_j) talks.own talks.few line_found talks.come (over_come session) talks.known (record { donor = talks.rounds.donor; recipient = talks.rounds.recipient; seen = λ counts agrees. seen_found counts (talks.rounds.seen counts agrees) })

  -- ---- one of an earlier incarnation
  module _ (nobody : (k : ℕ) → connection_of n k ≢ Some number) where
    at_past : (j : ℕ) (connection : Option ℕ) → connection_of n j ≡ connection → IsAt session r n j connection (talks.lines j) → IsAt session r m j connection (talks.lines j)
    at_past j None is h = h
    at_past j (Some own) is h = (h.0, (h.1.0, h.1.1, slice_get-set_other n.connections number own (found at) (λ same. nobody j (is ∙ ap (λ y. Some y) same)) ∙ h.1.2, h.1.3, h.1.4))

    all_past : (acknowledged : Bool) → ArePast r.table acknowledged n → ArePast r.table acknowledged m
    all_past acknowledged past other c is away = by (cases_eq other number)
      where
        by : (other ≡ number) ⊎ (other ≢ number) → IsPast r.table acknowledged c
        by (inl same) =
            let c_is : found at ≡ c = cc (sym (slice_get-set_same n.connections number (found at) (slice_get_within n.connections number at there)) ∙ ap (slice_get m.connections) (sym same) ∙ is) in
            subst (IsPast r.table acknowledged) c_is (past_found r.table acknowledged at (past number at there nobody))
        by (inr apart) = past other c (sym (slice_get-set_other n.connections number other (found at) apart) ∙ is) away

    talks_past : IsTalking session r m
    talks_past = record {
      own = talks.own;
      lines = talks.lines;
      at = λ j. at_past j (connection_of n j) refl (talks.at j);
      apart = talks.apart;
      come = talks.come;
      few = talks.few;
      known = talks.known;
      rounds = record { donor = talks.rounds.donor; recipient = talks.rounds.recipient; seen = λ counts agrees. (let old = talks.rounds.seen counts agrees in record { rounds = old.rounds; rule = old.rule; view = old.view; sizes = old.sizes; unsent = old.unsent; past = all_past old.rounds.sides.acknowledged old.past }) };
    }

  pub talks_rest : IsTalking session r m
  talks_rest = by (find_below (λ k. connection_of n k ≡ Some number) (has_or session r n tasks talks 0 0 number) (length n.seats))
    where
      by : ((k : ℕ) × (k < length n.seats) × (connection_of n k ≡ Some number)) ⊎ ((k : ℕ) → k < length n.seats → connection_of n k ≡ Some number → ⊥) → IsTalking session r m
      by (inl one) = talks_found one.0 one.2
      by (inr nobody) = talks_past (λ k has. nobody k (had_small n.seats k number has) has)

-- AN END THAT RESTS leaves donor and clone.
pub rests_paired : {A : Type 0} (gives : A → DonorCall → DonorAnswer → A → Type 0) (a b : A) (session : Option Session) (r : Reception) (n m : Network) (number : ℕ) (answer : DonorStep) → IsPaired session r n → ServesNone n number → FindsNothing answer → StepsDonor gives a b number n m answer → (b ≡ a) × IsPaired session r m
rests_paired gives a b session r n m number answer p serves nothing made = by (slice_get n.connections number) refl made
  where
    same : m ≡ n → IsPaired session r m
    same is = subst (IsPaired session r) (sym is) p

    goes : (at : Connection) → slice_get n.connections number ≡ Some at → is_open at ≡ true → ((bound : Doing) → at.doing ≡ bound → IsAwaiting bound → BeginsNone ofTask at.to_donor) → (lost : Bool) → (at.cut || not at.held) ≡ lost → IsCopying session r n ⊎ HasCopied r n → IsCopying session r (with_connection number (record at { found_lost = lost }) n) ⊎ HasCopied r (with_connection number (record at { found_lost = lost }) n)
    goes at there alive none lost is (inr c) = inr (record { done = c.done; rests = c.rests; made = c.made })
    goes at there alive none true is (inl c) = inl (record { going = c.going; talking = talks_rest session r n p.tasks c.talking number at there alive (serves at there) none is })
    goes at there alive none false is (inl c) =
        let at_is : record at { found_lost = false } ≡ at = ap (λ (b : Bool). record at { found_lost = b }) (sym (live_found at alive)) in
        let net_is : with_connection number (record at { found_lost = false }) n ≡ n = ap (λ (z : Connection). with_connection number z n) at_is ∙ ap (λ (cs : List Connection). record n { connections = cs }) (set_same n.connections number at there) in
        inl (subst (IsCopying session r) (sym net_is) c)

    ends : (at after : Connection) → slice_get n.connections number ≡ Some at → (alive : Bool) → is_open at ≡ alive → StepsBy alive gives a b at after answer → m ≡ with_connection number after n → (b ≡ a) × IsPaired session r m
    ends at after there false is rests net = (rests.donor, same (net ∙ ap (λ (z : Connection). with_connection number z n) rests.is ∙ ap (λ (cs : List Connection). record n { connections = cs }) (set_same n.connections number at there)))
    ends at after there true is e net =
        let so = end_rests gives a b at after answer (serves at there) nothing e in
        let net_is : m ≡ with_connection number (record at { found_lost = at.cut || not at.held }) n = net ∙ ap (λ (z : Connection). with_connection number z n) so.is in
        (so.donor, subst (IsPaired session r) (sym net_is) (record { tasks = p.tasks; goes = goes at there is so.none (at.cut || not at.held) refl p.goes }))

    by : (o : Option Connection) → slice_get n.connections number ≡ o → MatchOption o ((b ≡ a) × (m ≡ n) × (answer ≡ step.Served says.Idle)) (λ (at : Connection). (after : Connection) × StepsBy (is_open at) gives a b at after answer × (m ≡ with_connection number after n)) → (b ≡ a) × IsPaired session r m
    by None is s = (s.0, same s.1)
    by (Some at) is s = ends at s.0 is (is_open at) refl s.1 s.2

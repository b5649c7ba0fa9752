-- A step on a connection that no task has: those of the tasks stay.
use Rattle.std.proofs.Common.{ℕ, ◌≡◌, ◌≢◌, ◌∙◌, ◌⊎◌, ◌<◌, List, [], ◌∷◌, Bool, true, false, if◌then◌else◌, Option, None, Some, length, refl, sym, ap, subst, inl, inr, arith}
use Rattle.std.specs.Prelude.{slice_get, IfSome, not, ◌&&◌}
use Rattle.std.proofs.lemmas.Bool.{cases_eq}
use Rattle.std.proofs.lemmas.Option.{slice_get_within}
use Rattle.clone_base.proofs.MapEntries.{slice_get-set_other, slice_get-set_same}
use Rattle.clone_session.specs.Cloning.{Session}
use Rattle.clone_serve.specs.declared.doing.Doing.{Doing}
use Rattle.clone_serve.specs.declared.doing.Doing.TheVariants as doing
use Rattle.clone_tasks.specs.Tables.{Table, incarnation_of}
use Rattle.clone_recipient.specs.Receptions.{Reception}
use Rattle.clone_network.specs.Connections.{Connection, is_open}
use Rattle.clone_network.specs.Networks.{Network, with_connection}
use Rattle.clone_rounds.proofs.Puts.{find_below}
use Rattle.clone_view.specs.Views.{Line}
use Rattle.clone_paired.specs.Earlier.{BindsEarlier, IsPast}
use Rattle.clone_paired.specs.Lines.{IsAt, IsLineOf, connection_of}
use Rattle.clone_paired.specs.Paired.{HaveCome, IsTalking}
use Rattle.clone_paired.specs.Seen.{ArePast, IsKnown, IsSeen}
use Rattle.clone_paired.specs.Sessions.{IsSessionOf}
use Rattle.clone_paired.proofs.Cuts.{had_small}

-- some task has the connection, or none has
pub data Whose (n : Network) (number : ℕ) : Type 0 where
  its : (k : ℕ) → connection_of n k ≡ Some number → Whose n number
  nobody : ((k : ℕ) → connection_of n k ≢ Some number) → Whose n number

has_or : (n : Network) (number k : ℕ) → (connection_of n k ≡ Some number) ⊎ (connection_of n k ≢ Some number)
has_or n number k = by (connection_of n k) refl
  where
    at : (c : Option ℕ) (own : ℕ) → c ≡ Some own → (own ≡ number) ⊎ (own ≢ number) → (c ≡ Some number) ⊎ (c ≢ Some number)
    at c own is (inl same) = inl (is ∙ ap (λ x. Some x) same)
    at c own is (inr other) = inr (λ has. other (cc (is, has)))

    by : (c : Option ℕ) → connection_of n k ≡ c → (connection_of n k ≡ Some number) ⊎ (connection_of n k ≢ Some number)
    by None is = inr (λ has. cc (is, has))
    by (Some own) is = at (connection_of n k) own is (cases_eq own number)

pub whose : (n : Network) (number : ℕ) → Whose n number
whose n number = by (find_below (λ k. connection_of n k ≡ Some number) (has_or n number) (length n.seats))
  where
    by : ((k : ℕ) × (k < length n.seats) × (connection_of n k ≡ Some number)) ⊎ ((k : ℕ) → k < length n.seats → connection_of n k ≡ Some number → ⊥) → Whose n number
    by (inl found) = its found.0 found.2
    by (inr none) = nobody (λ k has. none k (had_small n.seats k number has) has)

module _ (session now : Option Session) (r : Reception) (n : Network) (talks : IsTalking session r n) (number : ℕ) (at new : Connection) (there : slice_get n.connections number ≡ Some at) (away : (k : ℕ) → connection_of n k ≢ Some number) where
  abbrev m : Network
  m = with_connection number new n

  -- the lines of tasks stay
  abbrev pub StayAll : Type 0
  StayAll = (j : ℕ) (c : Connection) (y : Line) → talks.lines j ≡ Some y → IsLineOf session r j c y → IsLineOf now r j c y

  at_still : StayAll → (task : ℕ) (connection : Option ℕ) → connection_of n task ≡ connection → IsAt session r n task connection (talks.lines task) → IsAt now r m task connection (talks.lines task)
  at_still stay task None is h = h
  at_still stay task (Some own) is h = (h.0, (h.1.0, h.1.1, slice_get-set_other n.connections number own new (λ same. away task (is ∙ ap (λ x. Some x) same)) ∙ h.1.2, h.1.3, stay task h.1.0 h.1.1 h.1.3 h.1.4))

  pub past_now : (t : Table) (before acknowledged : Bool) → (IsPast t before at → IsPast t acknowledged new) → ((c : Connection) → IsPast t before c → IsPast t acknowledged c) → ArePast t before n → ArePast t acknowledged m
  past_now t before acknowledged turns stays past other c is none = by (cases_eq other number)
    where
      by : (other ≡ number) ⊎ (other ≢ number) → IsPast t acknowledged c
      by (inl one) =
          let here : slice_get m.connections number ≡ Some new = slice_get-set_same n.connections number new (slice_get_within n.connections number at there) in
          let same : new ≡ c = cc (here, ap (slice_get m.connections) one, is) in
          subst (IsPast t acknowledged) same (turns (past number at there away))
      by (inr apart) = stays c (past other c (sym (slice_get-set_other n.connections number other new apart) ∙ is) none)

  pub late_on : StayAll → IfSome now (IsSessionOf r) → HaveCome now talks.lines → (known : ℕ → List ℕ) → IsKnown r.table now m talks.lines known → IsTalking now r m
  late_on stay own come known rounds = record {
    own = own;
    lines = talks.lines;
    at = λ task. at_still stay task (connection_of n task) refl (talks.at task);
    apart = talks.apart;
    come = come;
    few = talks.few;
    known = known;
    rounds = rounds;
  }

module _ (session : Option Session) (r : Reception) (n : Network) (talks : IsTalking session r n) (number : ℕ) (at new : Connection) (there : slice_get n.connections number ≡ Some at) (away : (k : ℕ) → connection_of n k ≢ Some number) where
  -- the session and the rounds are as they were
  pub late_same : ((acknowledged : Bool) → IsPast r.table acknowledged at → IsPast r.table acknowledged new) → IsTalking session r (with_connection number new n)
  late_same turns = late_on session session r n talks number at new there away (λ j c y line of. of) talks.own talks.come talks.known (record { donor = talks.rounds.donor; recipient = talks.rounds.recipient; seen = λ counts agrees. seen counts (talks.rounds.seen counts agrees) })
    where
      seen : (counts : ℕ → List ℕ) → IsSeen r.table session n talks.lines counts → IsSeen r.table session (with_connection number new n) talks.lines counts
      seen counts old = record {
        rounds = old.rounds;
        rule = old.rule;
        view = old.view;
        sizes = old.sizes;
        unsent = old.unsent;
        past = past_now session session r n talks number at new there away r.table old.rounds.sides.acknowledged old.rounds.sides.acknowledged (turns old.rounds.sides.acknowledged) (λ c p. p) old.past;
      }

pub binds_if : (t : Table) (d : Doing) (b : Bool) → BindsEarlier t d → BindsEarlier t (if b then d else doing.Over)
binds_if t d true binds = binds
binds_if t d false binds = tt

never_open : (lost : Bool) → (not lost && false) ≡ true → ⊥
never_open true is = absurd (cc (is))
never_open false is = absurd (cc (is))

-- its end found it lost, or is over
pub past_lost : (t : Table) (acknowledged : Bool) (at : Connection) → IsPast t acknowledged at → IsPast t acknowledged (record at { found_lost = true })
past_lost t acknowledged at p = record { held = p.held; binds = tt; commands = p.commands; live = λ is. absurd (cc (is)); asked = p.asked }

pub past_over : (t : Table) (acknowledged : Bool) (at : Connection) → IsPast t acknowledged at → IsPast t acknowledged (record at { doing = doing.Over })
past_over t acknowledged at p = record { held = p.held; binds = binds_if t doing.Over (is_open (record at { doing = doing.Over })) tt; commands = p.commands; live = λ is. absurd (never_open at.found_lost is); asked = p.asked }

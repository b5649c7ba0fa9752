-- A STEP OF THE DONOR'S END of a connection lets a clone talk on.
use Rattle.std.proofs.Common.{ℕ, ◌≡◌, ◌≢◌, ◌∙◌, ◌⊎◌, [], Bool, true, false, Option, None, Some, refl, sym, ap, subst, inl, inr}
use Rattle.std.specs.Prelude.{IfSome, MatchOption, slice_get}
use Rattle.std.proofs.lemmas.Bool.{both_ways}
use Rattle.clone_base.proofs.MapEntries.{slice_get-set_other, slice_get-set_same}
use Rattle.std.proofs.lemmas.Option.{slice_get_within}
use Rattle.clone_session.specs.Cloning.{Session}
use Rattle.clone_session.specs.Effects.{Tells}
use Rattle.clone_session.specs.declared.info.StageInfo.{StageInfo}
use Rattle.clone_serve.specs.declared.turn.ServeAnswer.TheVariants as says
use Rattle.clone_tasks.specs.Tables.{is_done}
use Rattle.clone_recipient.specs.Expecting.{fits}
use Rattle.clone_recipient.specs.Receptions.{Reception}
use Rattle.clone_network.specs.Connections.{Connection, StepsBy, is_open, is_serving}
use Rattle.clone_network.specs.Networks.{Network, StepsDonor, with_connection}
use Rattle.clone_network.specs.declared.donor_step.DonorStep.{DonorStep}
use Rattle.clone_network.specs.declared.donor_step.DonorStep.TheVariants.{Served}
use Rattle.clone_engine.specs.Donor.{Donor}
use Rattle.clone_told.specs.Told.{gives}
use Rattle.clone_paired.specs.Calm.{IsFree, IsInService}
use Rattle.clone_paired.specs.Lines.{connection_of}
use Rattle.clone_paired.specs.Order.{CopiesInOrder}
use Rattle.clone_paired.specs.Own.{own_session}
use Rattle.clone_paired.specs.Paired.{HasCopied, IsCopying, IsPaired, IsReception}
use Rattle.clone_paired.proofs.DonorMovesTask.{donor_tasks}
use Rattle.clone_paired.proofs.DonorPremisesFits.{blocks_in_order, told_fits}
use Rattle.clone_paired.proofs.DonorPremisesSteps.{step_ordered}
use Rattle.clone_paired.proofs.DonorServesAll.{donor_serves}
use Rattle.clone_paired.proofs.DonorTurns.{same_network}
use Rattle.clone_paired.proofs.LateEnds.{late_pairs}
use Rattle.clone_paired.proofs.LateSteps.{Whose, its, nobody, whose}
use Rattle.clone_talk.specs.Talking.{IsAlone, IsServer, IsTurnedAway, Stand, StaysAlone, Talks, paired, turned_away}
use Rattle.clone_talk.proofs.Alone.{end_alone}
use Rattle.clone_talk.proofs.Asked.{asks_own}
use Rattle.clone_talk.proofs.AwayDonor.{away_apart}
use Rattle.clone_talk.proofs.AwayRefused.{refused_turns}
use Rattle.clone_talk.proofs.Over.{IsWithin, end_within, over_step}

-- ---- the seats and the other connections stay

service_or_free : (n : Network) (number : ℕ) → IsInService n number ⊎ IsFree n number
service_or_free n number = by (slice_get n.connections number)
  where
    at : (serving : Bool) → (serving ≡ true) ⊎ (serving ≡ false)
    at true = inl refl
    at false = inr refl

    by : (o : Option Connection) → IfSome o (λ at. is_serving at.doing ≡ true) ⊎ IfSome o (λ at. is_serving at.doing ≡ false)
    by None = inl tt
    by (Some c) = at (is_serving c.doing)

module _ (d t : Donor) (n m : Network) (number : ℕ) (answer : DonorStep) (step : StepsDonor gives d t number n m answer) where
  -- the network then
  abbrev Becomes : Type 0
  Becomes = (m ≡ n) ⊎ ((after : Connection) × (m ≡ with_connection number after n))

  network_is : Becomes
  network_is = by (slice_get n.connections number) step
    where
      by : (o : Option Connection) → MatchOption o ((t ≡ d) × (m ≡ n) × (answer ≡ Served says.Idle)) (λ (at : Connection). (after : Connection) × StepsBy (is_open at) gives d t at after answer × (m ≡ with_connection number after n)) → Becomes
      by None rests = inl rests.1
      by (Some at) (after, e, is) = inr (after, is)

  seats_stay : (k : ℕ) → connection_of m k ≡ connection_of n k
  seats_stay k = by network_is
    where
      by : Becomes → connection_of m k ≡ connection_of n k
      by (inl same) = ap (λ (x : Network). connection_of x k) same
      by (inr (after, is)) = ap (λ (x : Network). connection_of x k) is

  others_stay : (other : ℕ) → other ≢ number → slice_get m.connections other ≡ slice_get n.connections other
  others_stay other apart = by network_is
    where
      by : Becomes → slice_get m.connections other ≡ slice_get n.connections other
      by (inl same) = ap (λ (x : Network). slice_get x.connections other) same
      by (inr (after, is)) = ap (λ (x : Network). slice_get x.connections other) is ∙ slice_get-set_other n.connections number other after apart

  -- once all was copied a clone stays so
  copied_stays : (session now : Option Session) (r : Reception) → IsPaired session r n → HasCopied r n → IsPaired now r m
  copied_stays session now r p c = by network_is
    where
      by : Becomes → IsPaired now r m
      by (inl same) = subst (IsPaired now r) (sym same) (record { tasks = p.tasks; goes = inr c })
      by (inr (after, is)) = subst (IsPaired now r) (sym is) (record { tasks = p.tasks; goes = inr (record { done = c.done; rests = c.rests; made = c.made }) })

-- one that is turned away, where nothing lies unread, is paired
unturned : (now : Option Session) (r : Reception) (m : Network) (number : ℕ) (at : Connection) → connection_of m 0 ≡ Some number → slice_get m.connections number ≡ Some (record at { to_task = [] }) → IsTurnedAway now r m → IsPaired now r m
unturned now r m number at has there w =
    let one : w.number ≡ number = cc (w.has, has) in
    let here : w.at ≡ record at { to_task = [] } = cc (ap (slice_get m.connections) (sym one) ∙ w.there, there) in
    let none : record w.at { to_task = [] } ≡ w.at = ap (λ (c : Connection). record c { to_task = [] }) here ∙ sym here in
    subst (IsPaired now r) (ap (λ (c : Connection). with_connection w.number c m) none ∙ same_network m w.number w.at w.there) w.but

module _ (alone : Bool) (d t : Donor) (r : Reception) (number : ℕ) (answer : DonorStep) (is : IsServer d) (is_then : IsServer t) (memory : answer ≢ Served says.NoMemory) (own : IsReception r) (order : CopiesInOrder d.cloning.session) (order_then : CopiesInOrder t.cloning.session) (floor : IsWithin r.table.floor d) (stays : alone ≡ true → StaysAlone r d) where
  abbrev session : Option Session
  session = own_session r.table.session d.cloning

  abbrev now : Option Session
  now = own_session r.table.session t.cloning

  -- what the donor tells then fits
  fit : (info : StageInfo) → Tells t.cloning info → fits info.plan ≡ true
  fit info tells = told_fits t info order_then is_then.snap tells

  module _ (n m : Network) (p : IsPaired session r n) (step : StepsDonor gives d t number n m answer) where
    -- outside an EXECUTE
    free_stands : (k : ℕ) → connection_of n k ≡ Some number → IsFree n number → (b : Bool) → alone ≡ b → Stand alone now r m
    free_stands k has free true on = by p.goes
      where
        by : IsCopying session r n ⊎ HasCopied r n → Stand alone now r m
        by (inl c) = paired (donor_tasks d t r n m k number answer p step free has (record { serves = record { reception = own; cloning = is.cloning; floor = floor; fit = fit }; alone = stays on c.going }) memory)
        by (inr c) = paired (copied_stays d t n m number answer step session now r p c)
    free_stands k has free false off = by (refused_turns d t r n m k number answer p step free has own is.cloning floor fit memory)
      where
        by : IsPaired now r m ⊎ IsTurnedAway now r m → Stand alone now r m
        by (inl q) = paired q
        by (inr w) = turned_away off w

    paired_stands : Stand alone now r m
    paired_stands = by (whose n number)
      where
        at : (k : ℕ) → connection_of n k ≡ Some number → IsInService n number ⊎ IsFree n number → Stand alone now r m
        at k has (inl serving) = paired (donor_serves d t r n m k number answer p step serving has (blocks_in_order r.table.session d order))
        at k has (inr free) = free_stands k has free alone refl

        by : Whose n number → Stand alone now r m
        by (its k has) = at k has (service_or_free n number)
        by (nobody away) = paired (late_pairs d t r n m number answer p step away)

  -- one that was turned away
  module _ (n m : Network) (off : alone ≡ false) (w : IsTurnedAway session r n) (step : StepsDonor gives d t number n m answer) where
    abbrev less : Network
    less = with_connection w.number (record w.at { to_task = [] }) n

    there : slice_get less.connections w.number ≡ Some (record w.at { to_task = [] })
    there = slice_get-set_same n.connections w.number (record w.at { to_task = [] }) (slice_get_within n.connections w.number w.at w.there)

    back : (m1 : Network) → StepsDonor gives d t number less m1 answer → w.number ≢ number → Stand alone now r m1 → IsPaired now r m1
    back m1 step1 other (paired q) = q
    back m1 step1 other (turned_away off1 w1) = unturned now r m1 w.number w.at (seats_stay d t less m1 number answer step1 0 ∙ w.has) (others_stay d t less m1 number answer step1 w.number other ∙ there) w1

    away_stands : Stand alone now r m
    away_stands = by (away_apart session r d t n m number answer w step)
      where
        by : ((t ≡ d) × (m ≡ n)) ⊎ ((m1 : Network) × StepsDonor gives d t number less m1 answer × (w.number ≢ number) × ((later : Option Session) → IsPaired later r m1 → IsTurnedAway later r m)) → Stand alone now r m
        by (inl (same, net)) =
            turned_away off (subst (λ (x : Donor). IsTurnedAway (own_session r.table.session x.cloning) r m) (sym same) (subst (IsTurnedAway session r) (sym net) w))
        by (inr (m1, step1, other, turns)) = turned_away off (turns now (back m1 step1 other (paired_stands less m1 w.but step1)))

  stands : (n m : Network) → Stand alone session r n → StepsDonor gives d t number n m answer → Stand alone now r m
  stands n m (paired p) step = paired_stands n m p step
  stands n m (turned_away off w) step = away_stands n m off w step

module _ (alone : Bool) (d t : Donor) (r : Reception) (n m : Network) (number : ℕ) (answer : DonorStep) (talks : Talks alone d r n) (step : StepsDonor gives d t number n m answer) where
  -- no session of another number has come to stand
  alone_then : alone ≡ true → StaysAlone r t
  alone_then on going = at talks.stand
    where
      copying : IsPaired (own_session r.table.session d.cloning) r n → IsCopying (own_session r.table.session d.cloning) r n ⊎ HasCopied r n → IsAlone r.table.session t
      copying p (inl c) =
          over_step (IsAlone r.table.session) d t n m number answer (talks.stays on going)
          (λ c_at after there live e. end_alone r.table.session c_at (asks_own (own_session r.table.session d.cloning) r n p.tasks c.talking number c_at there live) d t after answer e (talks.stays on going)) step
      copying p (inr c) = absurd (both_ways (is_done r.table.phase) going c.done)

      at : Stand alone (own_session r.table.session d.cloning) r n → IsAlone r.table.session t
      at (paired p) = copying p p.goes
      at (turned_away off w) = absurd (both_ways alone off on)

  pub goes_on : IsServer d → IsServer t → answer ≢ Served says.NoMemory → Talks alone t r m
  goes_on is is_then memory =
      let order_then : CopiesInOrder t.cloning.session = step_ordered d t is.donor is.told talks.order n m number answer step in
      record {
        reception = talks.reception;
        order = order_then;
        stays = alone_then;
        floor = over_step (IsWithin r.table.floor) d t n m number answer talks.floor (λ c_at after there live e. end_within r.table.floor d t c_at after answer e talks.floor) step;
        stand = stands alone d t r number answer is is_then memory talks.reception talks.order order_then talks.floor talks.stays n m talks.stand step;
      }

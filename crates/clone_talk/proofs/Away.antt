-- A clone that is turned away, while connections are cut.
use Rattle.std.proofs.Common.{ℕ, ◌≡◌, ◌≢◌, ◌∙◌, ◌⊎◌, Bool, true, false, if◌then◌else◌, Option, None, Some, List, [], take, refl, sym, ap, subst, inl, inr, arith}
use Rattle.std.specs.Prelude.{slice_get}
use Rattle.std.specs.List.{AllByRecursion}
use Rattle.std.specs.Option.{option_map_or}
use Rattle.std.proofs.lemmas.Bool.{cases_eq}
use Rattle.std.proofs.lemmas.List.{set-set, set_comm, take_all}
use Rattle.std.proofs.lemmas.Option.{slice_get_within}
use Rattle.clone_base.proofs.MapEntries.{slice_get-set_other, slice_get-set_same}
use Rattle.clone_session.specs.Cloning.{Session}
use Rattle.clone_wire.specs.declared.frame.Side.TheVariants.{Answer}
use Rattle.clone_recipient.specs.Receptions.{Reception}
use Rattle.clone_network.specs.Connections.{Connection, cut_at}
use Rattle.clone_network.specs.Networks.{Network, on_connected, with_connection}
use Rattle.clone_paired.specs.Paired.{IsPaired}
use Rattle.clone_paired.proofs.Cuts.{all_front, cut_paired}
use Rattle.clone_paired.proofs.UnreadLemmas.{Fronts, holds_cut}
use Rattle.clone_talk.specs.Talking.{IsRefusal, IsTurnedAway}

-- ---- two connections of a network

-- what lies unread for its task is taken away
abbrev pub emptied : Connection → Connection
emptied at = record at { to_task = [] }

pub with_both : (n : Network) (number other : ℕ) (at after : Connection) → other ≢ number → with_connection other after (with_connection number at n) ≡ with_connection number at (with_connection other after n)
with_both n number other at after apart = ap (λ (cs : List Connection). record n { connections = cs }) (set_comm n.connections number other at after (λ same. apart (sym same)))

pub with_last : (n : Network) (number : ℕ) (at after : Connection) → with_connection number after (with_connection number at n) ≡ with_connection number after n
with_last n number at after = ap (λ (cs : List Connection). record n { connections = cs }) (set-set n.connections number at after)

pub there_other : (n : Network) (number other : ℕ) (at : Connection) → other ≢ number → slice_get (with_connection number at n).connections other ≡ slice_get n.connections other
there_other n number other at apart = slice_get-set_other n.connections number other at apart

pub there_same : (n : Network) (number : ℕ) (at old : Connection) → slice_get n.connections number ≡ Some old → slice_get (with_connection number at n).connections number ≡ Some at
there_same n number at old there = slice_get-set_same n.connections number at (slice_get_within n.connections number old there)

on_held : (n : Network) (number : ℕ) (at : Connection) (change : Connection → Connection) → slice_get n.connections number ≡ Some at → at.held ≡ true → on_connected number change n ≡ with_connection number (change at) n
on_held n number at change there held = ap (λ (o : Option Connection). option_map_or (λ (c : Connection). if c.held then with_connection number (change c) n else n) o n) there ∙ ap (λ (b : Bool). if b then with_connection number (change at) n else n) held

-- ---- A CONNECTION IS CUT

module _ (session : Option Session) (r : Reception) (n : Network) (which to_donor to_task : ℕ) (w : IsTurnedAway session r n) where
  abbrev less : Network
  less = with_connection w.number (emptied w.at) n

  abbrev cut : Connection → Connection
  cut = cut_at to_donor to_task

  paired : IsPaired session r (on_connected which cut less)
  paired = cut_paired session r less which to_donor to_task w.but

  -- task 0's
  own : which ≡ w.number → w.at.held ≡ true → IsTurnedAway session r (with_connection w.number (cut w.at) n)
  own is held =
      let f : Fronts Answer w.frames (take to_task w.at.to_task) = holds_cut Answer to_task w.at.cut w.frames w.at.to_task w.unread in
      record {
        number = w.number;
        at = cut w.at;
        has = w.has;
        there = there_same n w.number (cut w.at) w.at w.there;
        over = w.over;
        frames = f.kept;
        refusals = all_front IsRefusal f.kept f.lost (subst (AllByRecursion IsRefusal) f.are w.refusals);
        unread = f.holds;
        but = subst (IsPaired session r) (ap (λ (i : ℕ). on_connected i cut less) is ∙ so) paired;
      }
    where
      so : on_connected w.number cut less ≡ with_connection w.number (emptied (cut w.at)) (with_connection w.number (cut w.at) n)
      so = on_held less w.number (emptied w.at) cut (there_same n w.number (emptied w.at) w.at w.there) held
          ∙ with_last n w.number (emptied w.at) (cut (emptied w.at))
          ∙ ap (λ (bytes : List ℕ). with_connection w.number (record (cut w.at) { to_task = bytes }) n) (take_all to_task [] (omega arith))
          ∙ sym (with_last n w.number (cut w.at) (emptied (cut w.at)))

  -- another one
  other : (at : Connection) → slice_get n.connections which ≡ Some at → at.held ≡ true → which ≢ w.number → IsTurnedAway session r (with_connection which (cut at) n)
  other at is held apart = record {
    number = w.number;
    at = w.at;
    has = w.has;
    there = there_other n which w.number (cut at) (λ same. apart (sym same)) ∙ w.there;
    over = w.over;
    frames = w.frames;
    refusals = w.refusals;
    unread = w.unread;
    but = subst (IsPaired session r) (on_held less which at cut (there_other n w.number which (emptied w.at) apart ∙ is) held ∙ with_both n w.number which (emptied w.at) (cut at) apart) paired;
  }

  if_held : (at : Connection) → slice_get n.connections which ≡ Some at → (held : Bool) → at.held ≡ held → IsTurnedAway session r (if held then with_connection which (cut at) n else n)
  if_held at is false held = w
  if_held at is true held = at_once (cases_eq which w.number)
    where
      at_once : (which ≡ w.number) ⊎ (which ≢ w.number) → IsTurnedAway session r (with_connection which (cut at) n)
      at_once (inl same) =
          let one : w.at ≡ at = cc (w.there, ap (slice_get n.connections) same, is) in
          subst (λ (i : ℕ). IsTurnedAway session r (with_connection i (cut at) n)) (sym same) (subst (λ (c : Connection). IsTurnedAway session r (with_connection w.number (cut c) n)) one (own same (subst (λ (c : Connection). c.held ≡ true) (sym one) held)))
      at_once (inr apart) = other at is held apart

  by : (found : Option Connection) → slice_get n.connections which ≡ found → IsTurnedAway session r (option_map_or (λ (at : Connection). if at.held then with_connection which (cut at) n else n) found n)
  by None is = w
  by (Some at) is = if_held at is at.held refl

  pub away_cuts : IsTurnedAway session r (on_connected which (cut_at to_donor to_task) n)
  away_cuts = by (slice_get n.connections which) refl

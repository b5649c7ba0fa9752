-- A clone that has just begun is paired with a donor that has no session of it.
use Rattle.std.proofs.Common.{ℕ, zero, suc, ◌≡◌, ◌≤◌, List, [], true, false, Option, None, get_or, replicate, refl, sym, ap, subst, inl, arith}
use Rattle.std.specs.Prelude.{slice_get}
use Rattle.std.specs.Option.{option_and_then}
use Rattle.std.proofs.lemmas.List.{length-replicate}
use Rattle.clone_base.specs.declared.limits.TheConstants.{MOST_TASKS}
use Rattle.clone_tasks.specs.Tables.{standing_of}
use Rattle.clone_tasks.specs.declared.standing.Standing.{Standing}
use Rattle.clone_tasks.specs.declared.standing.Standing.TheVariants.{Apart}
use Rattle.clone_recipient.specs.Receptions.{Reception, begun}
use Rattle.clone_network.specs.Networks as network
use Rattle.clone_network.specs.Networks.{Network, unconnected}
use Rattle.clone_rounds.specs.World.{Free, World, fresh}
use Rattle.clone_rounds.proofs.Moving.{starts_well}
use Rattle.clone_view.specs.Rows.{places}
use Rattle.clone_view.specs.Tables.{IsStanding}
use Rattle.clone_paired.specs.Lines.{IsAt}
use Rattle.clone_paired.specs.Paired.{IsPaired}
use Rattle.clone_paired.specs.Seen.{IsSeen}

apart_all : (n k : ℕ) → get_or (replicate n Apart) k Apart ≡ Apart
apart_all zero k = refl
apart_all (suc n) zero = refl
apart_all (suc n) (suc k) = apart_all n k

abbrev new_seat : network.Seat
new_seat = record { made = None; connection = None }

none_had : (count task : ℕ) → option_and_then (λ (s : network.Seat). s.connection) (slice_get (replicate count new_seat) task) ≡ None
none_had zero task = refl
none_had (suc count) zero = refl
none_had (suc count) (suc task) = none_had count task

module _ (number count limit version : ℕ) (some : 1 ≤ count) where
  abbrev r : Reception
  r = begun number count limit version

  abbrev n : Network
  n = unconnected count

  -- the rounds before the first step
  abbrev start : (ℕ → List ℕ) → World
  start counts = record {
    limit = limit;
    losses = 0;
    sides = record {
      tasks = count;
      size = λ stage. places (counts stage);
      stage = 0;
      taken = λ b. false;
      joined = false;
      acknowledged = true;
      met = false;
      at = 0;
      owner = λ b. Free;
    };
    seats = λ k. fresh;
    late = 0;
  }

  apart_at : (k : ℕ) → IsStanding (standing_of r.table k) fresh
  apart_at k = subst (λ (s : Standing). IsStanding s fresh) (sym (apart_all MOST_TASKS k)) (record { connected = refl; awaits = refl; ended = refl })

  seen : (counts : ℕ → List ℕ) → counts 0 ≡ [] → IsSeen r.table None n (λ k. None) counts
  seen counts empty = record {
    rounds = start counts;
    rule = starts_well (start counts) (record { tasks = omega (arith, some); empty = ap places empty; stage = refl; joined = refl; acknowledged = refl; met = refl; at = refl; seats = λ k. refl });
    view = record {
      table = record { some = some; tasks = refl; limit = refl; losses = refl; stage = refl; joined = refl; chunks = λ j d small. absurd (omega (arith, small)); size = ap places empty; taken = λ b small. refl; seats = apart_at };
      donor = (refl, refl);
      seats = λ k. refl;
    };
    sizes = λ stage. refl;
    unsent = tt;
    past = λ at c is away. absurd (cc (is));
  }

  pub begins_paired : IsPaired None r n
  begins_paired = record {
    tasks = length-replicate count new_seat;
    goes = inl (record {
      going = refl;
      talking = record {
        own = tt;
        lines = λ k. None;
        at = λ task. subst (λ (c : Option ℕ). IsAt None r n task c None) (sym (none_had count task)) refl;
        apart = λ j k at has also. absurd (cc (none_had count j, has));
        come = λ task. tt;
        few = λ joined. omega arith;
        known = λ stage. [];
        rounds = record { donor = tt; recipient = refl; seen = λ counts agrees. seen counts (agrees 0 (omega arith)) };
      };
    });
  }

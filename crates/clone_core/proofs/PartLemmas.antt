-- A CLONE STAYS ON ITS TERMS: what each step leaves of its tasks and connections.
use Rattle.std.proofs.Common.{ℕ, ◌≡◌, ◌∙◌, ◌≤◌, ◌+◌, ◌∷◌, ◌++◌, [], List, Bool, true, false, Option, Some, None, MatchOption, if◌then◌else◌, length, map, set, refl, ap, sym, subst, arith}
use Rattle.std.specs.Prelude.{is_none, slice_get, cond}
use Rattle.std.specs.List.{AllByRecursion}
use Rattle.std.specs.Option.{option_map_or}
use Rattle.std.proofs.lemmas.List.{length-append, length-map, length-replicate, length-set}
use Rattle.std.proofs.lemmas.List.Sums.{count_by-le-length, sum_by-set}
use Rattle.std.proofs.lemmas.Option.{get_or_from_slice_get, slice_get_within}
use Rattle.clone_base.specs.declared.limits.TheConstants.{MOST_TASKS}
use Rattle.clone_base.proofs.Lists.{All-push}
use Rattle.clone_script.specs.declared.terms.Terms.{Terms}
use Rattle.clone_outside.specs.DiskCalls.{DiskState}
use Rattle.clone_serve.specs.declared.turn.ServeAnswer.TheVariants as served
use Rattle.clone_tasks.specs.Tables.{Table}
use Rattle.clone_recipient.specs.Receptions.{Reception, begun}
use Rattle.clone_fetch.specs.declared.answer.TaskAnswer.{TaskAnswer}
use Rattle.clone_fetch.specs.declared.answer.TaskAnswer.TheVariants as told
use Rattle.clone_network.specs.Connections.{Connection, StepsBy, is_open, opened}
use Rattle.clone_network.specs.Networks as network
use Rattle.clone_network.specs.Networks.{Network, Seat, StepsDonor, StepsTask, after_answer, on_connected, sends, unconnected, vacated, with_connection, with_seat}
use Rattle.clone_network.specs.declared.donor_step.DonorStep.{DonorStep}
use Rattle.clone_network.specs.declared.donor_step.DonorStep.TheVariants as step
use Rattle.clone_network.proofs.CourseLemmas.{course, keeps_terms}
use Rattle.clone_network.proofs.EndedLemmas.{length_all_given_up}
use Rattle.clone_engine.specs.Donor.{Donor}
use Rattle.clone_told.specs.Told.{gives}
use Rattle.clone_joined.proofs.NetworkLemmas.{all_after, all_connected, all_set, one_of}
use Rattle.clone_core.specs.declared.world.Copying.{Copying}
use Rattle.clone_core.specs.Parts.{AreFew, EndIsBetween, IsOnTerms, vacant}
use Rattle.clone_core.proofs.EndLemmas.{end_between}
use Rattle.clone_core.proofs.LossLemmas.{Counts, task_counts}

abbrev pub copying : Reception → Network → Copying
copying r n = record { reception = r; network = n }

-- ---- as it begins

pub begins_on : (number : ℕ) (terms : Terms) → terms.tasks ≤ MOST_TASKS → IsOnTerms terms (copying (begun number terms.tasks terms.limit terms.version) (unconnected terms.tasks))
begins_on number terms some =
    let seats = (unconnected terms.tasks).seats in
    let long : length seats ≡ terms.tasks = length-replicate terms.tasks (record { made = None; connection = None }) in
    record {
      count = refl;
      limit = refl;
      seats = long;
      ends = tt;
      few = omega (arith, some, long, count_by-le-length (λ (s : Seat). is_none s.connection) seats);
    }

-- ---- where the network alone changes, and as many tasks have no connection

network_on : (terms : Terms) (r : Reception) (n m : Network) → length m.connections ≡ length n.connections → m.seats ≡ n.seats → AllByRecursion EndIsBetween m.connections → IsOnTerms terms (copying r n) → IsOnTerms terms (copying r m)
network_on terms r n m same seats ends on = record {
  count = on.count;
  limit = on.limit;
  seats = ap length seats ∙ on.seats;
  ends = ends;
  few = omega (arith, on.few, same, ap vacant seats);
}

-- A STEP OF THE DONOR on a connection
pub donor_on : (terms : Terms) (r : Reception) (d t : Donor) (number : ℕ) (n m : Network) (says : DonorStep) → StepsDonor gives d t number n m says → IsOnTerms terms (copying r n) → IsOnTerms terms (copying r m)
donor_on terms r d t number n m says steps on = by (slice_get n.connections number) refl steps
  where
    by : (o : Option Connection) → slice_get n.connections number ≡ o → MatchOption o ((t ≡ d) × (m ≡ n) × (says ≡ step.Served served.Idle)) (λ (at : Connection). (after : Connection) × StepsBy (is_open at) gives d t at after says × (m ≡ with_connection number after n)) → IsOnTerms terms (copying r m)
    by None is rests = subst (λ (x : Network). IsOnTerms terms (copying r x)) (sym rests.1) on
    by (Some at) is (after, did, same) =
        let ends = all_set EndIsBetween n.connections number after (end_between (is_open at) d t at after says did (one_of EndIsBetween n.connections number at is on.ends)) on.ends in
        subst (λ (x : Network). IsOnTerms terms (copying r x)) (sym same)
        (network_on terms r n (with_connection number after n) (length-set n.connections number after) refl ends on)

-- A CHANGE of a connection that its task has, as by a cut
pub connected_on : (terms : Terms) (r : Reception) (number : ℕ) (change : Connection → Connection) (n : Network) → ((at : Connection) → EndIsBetween at → EndIsBetween (change at)) → IsOnTerms terms (copying r n) → IsOnTerms terms (copying r (on_connected number change n))
connected_on terms r number change n keeps on = network_on terms r n (on_connected number change n) (long (slice_get n.connections number)) (seats (slice_get n.connections number)) (all_connected EndIsBetween number change n keeps on.ends) on
  where
    Changed : Option Connection → Network
    Changed o = option_map_or (λ at. if at.held then with_connection number (change at) n else n) o n

    held_long : (at : Connection) (b : Bool) → length (if b then with_connection number (change at) n else n).connections ≡ length n.connections
    held_long at true = length-set n.connections number (change at)
    held_long at false = refl

    long : (o : Option Connection) → length (Changed o).connections ≡ length n.connections
    long None = refl
    long (Some at) = held_long at at.held

    held_seats : (at : Connection) (b : Bool) → (if b then with_connection number (change at) n else n).seats ≡ n.seats
    held_seats at true = refl
    held_seats at false = refl

    seats : (o : Option Connection) → (Changed o).seats ≡ n.seats
    seats None = refl
    seats (Some at) = held_seats at at.held

-- ---- A STEP OF A TASK

abbrev counted : Bool → ℕ
counted none = cond none 1 0

abbrev one : Seat → ℕ
one seat = counted (is_none seat.connection)

vacant_set : (seats : List Seat) (task : ℕ) (old new : Seat) → slice_get seats task ≡ Some old → vacant (set seats task new) + one old ≡ vacant seats + one new
vacant_set seats task old new here =
    let sum = sum_by-set one seats task new old (slice_get_within seats task old here) in
    omega (arith, sum, ap one (get_or_from_slice_get seats task old old here))

-- what a network has after a step, before a loss is settled
record Parts (limit tasks losses : ℕ) (n : Network) : Type 0 where
  pub seats : length n.seats ≡ tasks
  pub ends : AllByRecursion EndIsBetween n.connections
  pub few : AreFew limit losses n

over_parts : (limit tasks losses : ℕ) (n : Network) (task number : ℕ) (seat next : Seat) (at after : Connection) → slice_get n.seats task ≡ Some seat → is_none seat.connection ≡ is_none next.connection → slice_get n.connections number ≡ Some at → after.doing ≡ at.doing → Parts limit tasks losses n
    → Parts limit tasks losses (with_seat task next (with_connection number after n))
over_parts limit tasks losses n task number seat next at after sits still here same parts = record {
  seats = length-set n.seats task next ∙ parts.seats;
  ends = all_set EndIsBetween n.connections number after (subst (λ d. EndIsBetween (record after { doing = d })) (sym same) (one_of EndIsBetween n.connections number at here parts.ends)) parts.ends;
  few = omega (arith, parts.few, length-set n.connections number after, vacant_set n.seats task seat next sits, ap counted still);
}

apart_parts : (limit tasks losses : ℕ) (n : Network) (task : ℕ) (seat next : Seat) (sent : List ℕ) (new : List Connection) (made : Option ℕ) (sent_one : Bool) → slice_get n.seats task ≡ Some seat → seat.connection ≡ None → new ≡ (if sent_one then n.connections ++ opened sent ∷ [] else n.connections)
    → next ≡ record { made = made; connection = if sent_one then Some (length n.connections) else None } → Parts limit tasks losses n → Parts limit tasks losses (with_seat task next (record n { connections = new }))
apart_parts limit tasks losses n task seat next sent new made true sits none is after parts = record {
  seats = length-set n.seats task next ∙ parts.seats;
  ends = subst (AllByRecursion EndIsBetween) (sym is) (All-push EndIsBetween n.connections (opened sent) parts.ends tt);
  few = omega (arith, parts.few, ap length is, length-append n.connections (opened sent ∷ []), vacant_set n.seats task seat next sits, ap (λ (o : Option ℕ). counted (is_none o)) none, ap one after);
}
apart_parts limit tasks losses n task seat next sent new made false sits none is after parts = record {
  seats = length-set n.seats task next ∙ parts.seats;
  ends = subst (AllByRecursion EndIsBetween) (sym is) parts.ends;
  few = omega (arith, parts.few, ap length is, vacant_set n.seats task seat next sits, ap (λ (o : Option ℕ). counted (is_none o)) none, ap one after);
}

-- a loss is settled, if there was one
settled : (limit tasks : ℕ) (n : Network) (answer : TaskAnswer) (t u : Table) → t.limit ≡ limit → tasks ≤ MOST_TASKS → Counts answer t u → Parts limit tasks t.losses n → Parts limit tasks u.losses (after_answer answer n)
settled limit tasks n (told.Lost losses) t u same some counts parts = record {
  seats = length-map n.seats vacated ∙ parts.seats;
  ends = all_after EndIsBetween (λ at is. is) (told.Lost losses) n parts.ends;
  few = omega (arith, parts.few, parts.seats, counts.0, counts.1, same, some, length_all_given_up n.seats n.connections, count_by-le-length (λ (s : Seat). is_none s.connection) (map vacated n.seats), length-map n.seats vacated);
}
settled limit tasks n told.Idle t u same some counts parts = record { seats = parts.seats; ends = parts.ends; few = omega (arith, parts.few, counts) }
settled limit tasks n told.Stale t u same some counts parts = record { seats = parts.seats; ends = parts.ends; few = omega (arith, parts.few, counts) }
settled limit tasks n (told.Sent code) t u same some counts parts = record { seats = parts.seats; ends = parts.ends; few = omega (arith, parts.few, counts) }
settled limit tasks n (told.Took took) t u same some counts parts = record { seats = parts.seats; ends = parts.ends; few = omega (arith, parts.few, counts) }
settled limit tasks n (told.Ended how) t u same some counts parts = record { seats = parts.seats; ends = parts.ends; few = omega (arith, parts.few, counts) }
settled limit tasks n told.NoMemory t u same some counts parts = record { seats = parts.seats; ends = parts.ends; few = omega (arith, parts.few, counts) }

module _ (terms : Terms) (r s : Reception) (d e : DiskState) (n m : Network) (task floor : ℕ) (answer : TaskAnswer) (some : terms.tasks ≤ MOST_TASKS) (on : IsOnTerms terms (copying r n)) where
  parts : Parts terms.limit terms.tasks r.table.losses n
  parts = record { seats = on.seats; ends = on.ends; few = on.few }

  task_parts : StepsTask task floor r s d e n m answer → Parts terms.limit terms.tasks s.table.losses m
  task_parts steps = by steps
    where
      counts : Counts answer r.table s.table
      counts = task_counts r s d e n m task floor answer steps

      settles : (x : Network) → m ≡ after_answer answer x → Parts terms.limit terms.tasks r.table.losses x → Parts terms.limit terms.tasks s.table.losses m
      settles x is now = subst (Parts terms.limit terms.tasks s.table.losses) (sym is) (settled terms.limit terms.tasks x answer r.table s.table on.limit some counts now)

      still : (a : TaskAnswer) → answer ≡ a → after_answer a n ≡ n → m ≡ n → Parts terms.limit terms.tasks s.table.losses m
      still a heard none same = settles n (same ∙ sym (ap (λ (x : TaskAnswer). after_answer x n) heard ∙ none)) parts

      by : StepsTask task floor r s d e n m answer → Parts terms.limit terms.tasks s.table.losses m
      by (network.over seat number at after made sits has here f is) =
          settles _ is (over_parts terms.limit terms.tasks r.table.losses n task number seat (record { made = made; connection = Some number }) at after sits (ap is_none has) here (ap (λ (x : Connection). x.doing) f.is) parts)
      by (network.apart seat after connections sits none c is) =
          settles _ is (apart_parts terms.limit terms.tasks r.table.losses n task seat after c.sent connections _ (sends answer) sits none c.connections c.is parts)
      by (network.absent none rests heard) = still told.Idle heard refl rests.network
      by (network.no_room rests heard) = still told.NoMemory heard refl rests.network

  pub task_on : StepsTask task floor r s d e n m answer → IsOnTerms terms (copying s m)
  task_on steps =
      let now = task_parts steps in
      let kept = keeps_terms r s (course r s d e n m task floor answer steps).terms in
      record { count = kept.count ∙ on.count; limit = kept.limit ∙ on.limit; seats = now.seats; ends = now.ends; few = now.few }

-- The record at the place of an end that was lent and given back, after the run.
use Rattle.std.proofs.Common.{ℕ, ◌≡◌, ◌≤◌, ◌&&◌, ◌==◌, ◌⊎◌, Bool, true, false, cond, List, [], ◌∷◌, map, refl, sym, ap, ◌∙◌, subst, Ok, Some, inl, inr, suc, eqb→eq, T, arith}
use Rattle.clone_outside.specs.Link.{IsUnused}
use Rattle.clone_outside.specs.declared.link.Side.TheVariants.{Donor, Requester}
use Rattle.clone_outside.specs.declared.link.Link.{Ghosts as Link}
use Rattle.clone_outside.specs.declared.link.Net.{Ghosts as Net}
use Rattle.clone_turn.specs.Parts.{IsSublist}
use Rattle.clone_turn.specs.Rule.{total}
use Rattle.clone_turn.specs.Runs.{IsLegalRun, end_of}
use Rattle.clone_runs.specs.Desk.{IsLeast, Waiting, waits_for}
use Rattle.clone_desk.specs.declared.machine.DeskAnswer.{DeskAnswer}
use Rattle.clone_desk.specs.declared.machine.DeskAnswer.TheVariants as answer
use Rattle.clone_desk.specs.declared.machine.DeskCall.{DeskCall}
use Rattle.clone_desk.specs.declared.machine.DeskCall.TheVariants as call
use Rattle.clone_desk.specs.declared.record.DonorEnd.TheVariants.{Waits, Back}
use Rattle.clone_desk.specs.declared.record.Record.{Record}
use Rattle.clone_desk.specs.Records.{does_wait, handed_out, waiting_of}
use Rattle.clone_desk.specs.Desks.{DeskModel, Gives, Makes}
use Rattle.clone_desk.specs.Steps.{DeskEntry, DeskSteps}
use Rattle.clone_matched.proofs.TotalLemmas.{none_or_some, total_none}
use Rattle.clone_matched.proofs.PlaceLemmas.{IsAt}
use Rattle.clone_matched.proofs.ChangeLemmas.{after_all, donor_back, gives_at, here, lends_at, lends_by, requester_back, task_stays, waits_on}
use Rattle.clone_matched.proofs.StepLemmas.{fresh, fresh_at, given_at, given_from}
use Rattle.clone_matched.proofs.OnceLemmas.{run_at}

module _ {L : Type 0} where
  -- the end at the least place that waits for a task is one of that task
  pub least_task : (task place : ℕ) (rs : List (Record L)) (after : List Waiting) (r : Record L) → IsLeast task (map waiting_of rs) place after → IsAt rs place r → r.task ≡ task
  least_task task place [] after r least at = absurd at
  least_task task place (x ∷ xs) after r least at = by (waits_for task (waiting_of x)) refl least at (λ p us more there. least_task task p xs us r more there)
    where
      both : (b c : Bool) → (b && c) ≡ true → b ≡ true
      both true c is = refl
      both false c is = is

      by : (b : Bool) → waits_for task (waiting_of x) ≡ b
          → cond b ((place ≡ 0) × (after ≡ record (waiting_of x) { waits = false } ∷ map waiting_of xs)) ((p : ℕ) × (us : List Waiting) × (place ≡ suc p) × (after ≡ waiting_of x ∷ us) × IsLeast task (map waiting_of xs) p us)
          → IsAt (x ∷ xs) place r → ((p : ℕ) (us : List Waiting) → IsLeast task (map waiting_of xs) p us → IsAt xs p r → r.task ≡ task) → r.task ≡ task
      by true waits is there rest =
          let one : x ≡ r = subst (λ n. IsAt (x ∷ xs) n r) is.0 there in
          sym (ap (λ (y : Record L). y.task) one) ∙ eqb→eq x.task task (subst T (sym (both (x.task == task) (does_wait x.donor) waits)) tt)
      by false waits is there rest = rest is.0 is.1 is.4 (subst (λ n. IsAt (x ∷ xs) n r) is.2 there)

module _ {L X : Type 0} (link : Link L X) where
  -- the donor's end waits still, as it was made
  pub record NeverServed (r : Record L) : Type 0 where
    pub end : L
    pub waits : r.donor ≡ Waits end
    pub sent : IsUnused (link.sent end)
    pub received : IsUnused (link.received end)

  -- AT A TASK'S PLACE the end came back, and the donor's waits, or one was handed out of those that were
  pub record TaskEnd (rs : List (Record L)) (task place : ℕ) (back : L) (handed : ℕ) : Type 0 where
    pub its : Record L
    pub at : IsAt rs place its
    pub task_is : its.task ≡ task
    pub requester : its.requester ≡ Some back
    pub donor : NeverServed its ⊎ (1 ≤ handed)

  -- AT A DONOR'S PLACE the end came back
  pub record DonorsEnd (rs : List (Record L)) (task place : ℕ) (back : L) : Type 0 where
    pub its : Record L
    pub at : IsAt rs place its
    pub task_is : its.task ≡ task
    pub donor : its.donor ≡ Back back

  module _ {N : Type 0} (net : Net N L X) where
    is_made : (s : DeskModel N L) (c : DeskCall L) (a : DeskAnswer L) (t : DeskModel N L) (task place : ℕ) (end : L) → DeskSteps net link s c a t → c ≡ call.Pair task → a ≡ answer.Paired (Ok (place, end))
        → Makes net link s task place end t
    is_made s c a t task place end step asks lends =
        let one : DeskSteps net link s (call.Pair task) a t = subst (λ d. DeskSteps net link s d a t) asks step in
        let two : DeskSteps net link s (call.Pair task) (answer.Paired (Ok (place, end))) t = subst (λ b. DeskSteps net link s (call.Pair task) b t) lends one in
        two.does.made

    is_given : (s : DeskModel N L) (c : DeskCall L) (a : DeskAnswer L) (t : DeskModel N L) (task place : ℕ) (end : L) → DeskSteps net link s c a t → c ≡ call.DonorEnd task → a ≡ answer.HandedOut (Some (place, end))
        → Gives net link s task place end t
    is_given s c a t task place end step asks lends =
        let one : DeskSteps net link s (call.DonorEnd task) a t = subst (λ d. DeskSteps net link s d a t) asks step in
        let two : DeskSteps net link s (call.DonorEnd task) (answer.HandedOut (Some (place, end))) t = subst (λ b. DeskSteps net link s (call.DonorEnd task) b t) lends one in
        two.does

    -- the donor's end of a record that was just made
    donor_now : (k n : ℕ) (es : List (DeskEntry N L)) (r : Record L) (end : L) → r.donor ≡ Waits end → IsUnused (link.sent end) → IsUnused (link.received end) → total (lends_at Donor k) es ≤ n
        → NeverServed (after_all k es r) ⊎ (1 ≤ n)
    donor_now k n es r end waits sent received low = by (none_or_some (total (lends_at Donor k) es))
      where
        by : (total (lends_at Donor k) es ≡ 0) ⊎ (1 ≤ total (lends_at Donor k) es) → NeverServed (after_all k es r) ⊎ (1 ≤ n)
        by (inl none) = inl record { end = end; waits = waits_on k end es r (total_none (lends_at Donor k) es none) waits; sent = sent; received = received }
        by (inr some) = inr (omega (arith, some, low))

    task_now : (s : DeskModel N L) (y : DeskEntry N L) (ys : List (DeskEntry N L)) (f : DeskEntry N L) (task place : ℕ) (taken back : L) (n : ℕ) → IsLegalRun (DeskSteps net link) y.after ys
        → Makes net link s task place taken y.after → f.call ≡ call.GiveBack place Requester back → IsSublist (f ∷ []) ys → total (gives_at Requester place) ys ≤ 1
        → total (lends_at Donor place) ys ≤ n → TaskEnd (end_of y.after ys).records task place back n
    task_now s y ys f task place taken back n legal made gives within few low =
        let new : Record L = fresh net link s task place taken y.after made in record {
          its = after_all place ys new;
          at = run_at net link place y.after ys new legal (fresh_at net link s task place taken y.after made);
          task_is = task_stays place task ys new refl;
          requester = requester_back place back f ys new gives within few refl;
          donor = donor_now place n ys new made.donor refl made.donor_is.sent made.donor_is.received low;
        }

    pub task_end : (s : DeskModel N L) (run : List (DeskEntry N L)) (e f : DeskEntry N L) (task place : ℕ) (taken back : L) (n : ℕ) → IsLegalRun (DeskSteps net link) s run
        → e.call ≡ call.Pair task → e.answer ≡ answer.Paired (Ok (place, taken)) → f.call ≡ call.GiveBack place Requester back → IsSublist (e ∷ f ∷ []) run
        → total (gives_at Requester place) run ≤ 1 → total (lends_at Donor place) run ≤ n → TaskEnd (end_of s run).records task place back n
    task_end s [] e f task place taken back n legal asks lends gives within few low = absurd within
    task_end s (y ∷ ys) e f task place taken back n legal asks lends gives (inl same) few low =
        let made = is_made s y.call y.answer y.after task place taken legal.0 (ap (λ (x : DeskEntry N L). x.call) (sym same.0) ∙ asks) (ap (λ (x : DeskEntry N L). x.answer) (sym same.0) ∙ lends) in
        task_now s y ys f task place taken back n legal.1 made gives same.1 (omega (arith, few)) (omega (arith, low))
    task_end s (y ∷ ys) e f task place taken back n legal asks lends gives (inr within) few low =
        task_end y.after ys e f task place taken back n legal.1 asks lends gives within (omega (arith, few)) (omega (arith, low))

    back_now : (s : DeskModel N L) (y : DeskEntry N L) (ys : List (DeskEntry N L)) (f : DeskEntry N L) (task place : ℕ) (taken back : L) → IsLegalRun (DeskSteps net link) y.after ys
        → Gives net link s task place taken y.after → f.call ≡ call.GiveBack place Donor back → IsSublist (f ∷ []) ys → total (gives_at Donor place) ys ≤ 1
        → total (lends_at Donor place) ys ≡ 0 → DonorsEnd (end_of y.after ys).records task place back
    back_now s y ys f task place taken back legal gave gives within few none =
        let new : Record L = handed_out gave.there in record {
          its = after_all place ys new;
          at = run_at net link place y.after ys new legal (given_at net link s task place taken y.after gave);
          task_is = task_stays place task ys new (least_task task place s.records _ gave.there gave.least (given_from net link s task place taken y.after gave));
          donor = donor_back place back f ys new gives within few (total_none (lends_at Donor place) ys none) refl;
        }

    pub donors_end : (s : DeskModel N L) (run : List (DeskEntry N L)) (e f : DeskEntry N L) (task place : ℕ) (taken back : L) → IsLegalRun (DeskSteps net link) s run
        → e.call ≡ call.DonorEnd task → e.answer ≡ answer.HandedOut (Some (place, taken)) → f.call ≡ call.GiveBack place Donor back → IsSublist (e ∷ f ∷ []) run
        → total (gives_at Donor place) run ≤ 1 → total (lends_at Donor place) run ≤ 1 → DonorsEnd (end_of s run).records task place back
    donors_end s [] e f task place taken back legal asks lends gives within few once = absurd within
    donors_end s (y ∷ ys) e f task place taken back legal asks lends gives (inl same) few once =
        let answered : y.answer ≡ answer.HandedOut (Some (place, taken)) = ap (λ (x : DeskEntry N L). x.answer) (sym same.0) ∙ lends in
        let gave = is_given s y.call y.answer y.after task place taken legal.0 (ap (λ (x : DeskEntry N L). x.call) (sym same.0) ∙ asks) answered in
        let one : lends_at Donor place y ≡ 1 = ap (lends_by Donor place) answered ∙ here place in
        back_now s y ys f task place taken back legal.1 gave gives same.1 (omega (arith, few)) (omega (arith, once, one))
    donors_end s (y ∷ ys) e f task place taken back legal asks lends gives (inr within) few once =
        donors_end y.after ys e f task place taken back legal.1 asks lends gives within (omega (arith, few)) (omega (arith, once))

-- A desk's steps, as the laws on the runs of a clone have them.
use Rattle.std.proofs.Common.{inl, inr, ℕ, zero, suc, ◌≡◌, ◌<◌, ◌≤◌, Bool, true, false, cond, List, [], ◌∷◌, ◌++◌, flat_map, length, map, set, get_or, refl, sym, ap, ◌∙◌, subst, Ok, Err, Some, None, position, arith}
use Rattle.std.specs.Prelude.{nat_lt}
use Rattle.std.specs.List.{position_or_len}
use Rattle.std.proofs.lemmas.Bool.{cases_lt, lt-ltb}
use Rattle.std.proofs.lemmas.List.{map-append, length-map}
use Rattle.std.proofs.lemmas.List.Concat.{flat_map_single}
use Rattle.std.proofs.lemmas.List.Sums.{fails_before_first}
use Rattle.clone_outside.specs.declared.link.Side.{Side}
use Rattle.clone_outside.specs.declared.link.Side.TheVariants.{Donor, Requester}
use Rattle.clone_outside.specs.declared.link.Link.{Ghosts as Link}
use Rattle.clone_outside.specs.declared.link.Net.{Ghosts as Net}
use Rattle.clone_turn.specs.Parts.{IsSublist}
use Rattle.clone_turn.specs.Runs.{IsLegalRun, end_of}
use Rattle.clone_runs.specs.Desk.{DeskAct, DeskDoes, DeskRuns, IsLeast, handed, itself, paired, waits_for}
use Rattle.clone_runs.specs.Marks.{Ascends, NoneIn}
use Rattle.clone_turn.proofs.SublistLemmas.{sublist_flat}
use Rattle.clone_desk.specs.declared.record.DonorEnd.{DonorEnd}
use Rattle.clone_desk.specs.declared.record.DonorEnd.TheVariants.{Waits, Out, Back}
use Rattle.clone_desk.specs.declared.record.Record.{Record}
use Rattle.clone_desk.specs.declared.machine.DeskCall.{DeskCall}
use Rattle.clone_desk.specs.declared.machine.DeskCall.TheVariants as call
use Rattle.clone_desk.specs.declared.machine.DeskAnswer.{DeskAnswer}
use Rattle.clone_desk.specs.declared.machine.DeskAnswer.TheVariants as answer
use Rattle.clone_desk.specs.Records.{does_wait, does_wait_for, handed_out, name_of, or_back, waiting_of, with_end}
use Rattle.clone_desk.specs.Desks.{DeskModel, Fits, Gives, IsNamed, Keeps, Makes, StayNamed, waiting}
use Rattle.clone_desk.proofs.RecordLemmas.{named_here, named_last, named_set}
use Rattle.clone_desk.specs.Steps.{CallFits, DeskEntry, DeskSteps, act_in, act_of}

not_found : (n m i : ℕ) (b : Bool) → nat_lt n m ≡ b → cond b (Some i) None ≡ None → m ≤ n
not_found n m i true is none = absurd cc
not_found n m i false is none = elim (cases_lt n m) [ inl lt ↦ absurd (let f : true ≡ false = sym (lt-ltb n m lt) ∙ is in cc) | inr le ↦ le ]

module _ {L : Type 0} where
  -- the first place that waits, which then waits no more
  pub least_at : (task : ℕ) (rs : List (Record L)) (i : ℕ) (there : Record L) → i < length rs → get_or rs i there ≡ there → does_wait_for task there ≡ true
      → ((k : ℕ) → k < i → does_wait_for task (get_or rs k there) ≡ false) → IsLeast task (map waiting_of rs) i (map waiting_of (set rs i (handed_out there)))
  least_at task [] i there low is waits none = absurd (omega arith)
  least_at task (r ∷ rs) zero there low is waits none =
      let here : waits_for task (waiting_of r) ≡ true = subst (λ x. waits_for task (waiting_of x) ≡ true) (sym is) waits in
      rw here (refl, ap (λ x. waiting_of (handed_out x) ∷ map waiting_of rs) (sym is))
  least_at task (r ∷ rs) (suc i) there low is waits none =
      rw (none 0 (omega arith)) (i, map waiting_of (set rs i (handed_out there)), refl, refl, least_at task rs i there (omega arith) is waits (λ k below. none (suc k) (omega arith)))

  none_in : (task : ℕ) (rs : List (Record L)) → ((k : ℕ) (d : Record L) → k < length rs → does_wait_for task (get_or rs k d) ≡ false) → NoneIn (waits_for task) (map waiting_of rs)
  none_in task [] fails = tt
  none_in task (r ∷ rs) fails = (fails 0 r (omega arith), none_in task rs (λ k d low. fails (suc k) d (omega arith)))

  -- where none was found, none waits
  pub none_waits : (task : ℕ) (rs : List (Record L)) → position (does_wait_for task) rs ≡ None → NoneIn (waits_for task) (map waiting_of rs)
  none_waits task rs none =
      let first = position_or_len (does_wait_for {L = L} task) rs in
      let high : length rs ≤ first = not_found first (length rs) first (nat_lt first (length rs)) refl none in
      none_in task rs (λ k d low. fails_before_first (does_wait_for task) rs k d (omega (arith, high, low)))

  same_waits : (d : DonorEnd L) (end : L) → does_wait (or_back d end) ≡ does_wait d
  same_waits (Waits e) end = refl
  same_waits Out end = refl
  same_waits (Back e) end = refl

  end_waits : (side : Side) (end : L) (r : Record L) → waiting_of (with_end side end r) ≡ waiting_of r
  end_waits Donor end r = ap (λ b. record { task = r.task; waits = b }) (same_waits r.donor end)
  end_waits Requester end r = refl

  same_waiting : (rs : List (Record L)) (i : ℕ) (there new : Record L) → get_or rs i there ≡ there → waiting_of new ≡ waiting_of there → map waiting_of (set rs i new) ≡ map waiting_of rs
  same_waiting [] zero there new is same = refl
  same_waiting [] (suc i) there new is same = refl
  same_waiting (r ∷ rs) zero there new is same = ap (λ w. w ∷ map waiting_of rs) (same ∙ ap waiting_of (sym is))
  same_waiting (r ∷ rs) (suc i) there new is same = ap (λ ws. waiting_of r ∷ ws) (same_waiting rs i there new is same)

module _ {N L X : Type 0} (net : Net N L X) (link : Link L X) where
  kept_does : (s : DeskModel N L) (place : ℕ) (side : Side) (end : L) (t : DeskModel N L) → Keeps s place side end t → waiting t ≡ waiting s
  kept_does s place side end t kept = ap (map waiting_of) kept.records ∙ same_waiting s.records place kept.there (with_end side end kept.there) kept.at (end_waits side end kept.there)

  step_does : (s : DeskModel N L) (c : DeskCall L) (a : DeskAnswer L) (t : DeskModel N L) → DeskSteps net link s c a t → DeskDoes (waiting s) (act_in c a) (waiting t)
  step_does s (call.Pair task) (answer.Paired (Ok r)) t p =
      let made = p.does.made in
      (made.place_is ∙ sym (length-map s.records waiting_of), ap (map waiting_of) made.records ∙ map-append waiting_of s.records _)
  step_does s (call.Pair task) (answer.Paired (Err e)) t p = ap (map waiting_of) p.does.refused.records
  step_does s (call.Pair task) (answer.HandedOut result) t p = absurd p.does
  step_does s (call.Pair task) answer.Kept t p = absurd p.does
  step_does s (call.DonorEnd task) (answer.Paired result) t p = absurd p.does
  step_does s (call.DonorEnd task) (answer.HandedOut (Some r)) t p = p.does.least
  step_does s (call.DonorEnd task) (answer.HandedOut None) t p = ap waiting p.does.1
  step_does s (call.DonorEnd task) answer.Kept t p = absurd p.does
  step_does s (call.GiveBack place side end) (answer.Paired result) t p = absurd p.does
  step_does s (call.GiveBack place side end) (answer.HandedOut result) t p = absurd p.does
  step_does s (call.GiveBack place side end) answer.Kept t p = kept_does s place side end t p.does

  runs : (s : DeskModel N L) (run : List (DeskEntry N L)) → IsLegalRun (DeskSteps net link) s run → DeskRuns (waiting s) (map act_of run)
  runs s [] legal = tt
  runs s (e ∷ es) legal = (waiting e.after, step_does s e.call e.answer e.after legal.0, runs e.after es legal.1)

  pub desk_runs : (s : DeskModel N L) (run : List (DeskEntry N L)) → s.records ≡ [] → IsLegalRun (DeskSteps net link) s run → DeskRuns [] (map act_of run)
  desk_runs s run empty legal = subst (λ ws. DeskRuns ws (map act_of run)) (ap (map waiting_of) empty) (runs s run legal)

  -- the acts of a part of the run are a part of its acts
  acts_within : (run part : List (DeskEntry N L)) → IsSublist part run → IsSublist (map act_of part) (map act_of run)
  acts_within run part within =
      subst (λ xs. IsSublist xs (map act_of run)) (flat_map_single act_of part)
      (subst (IsSublist (flat_map (λ e. act_of e ∷ []) part)) (flat_map_single act_of run) (sublist_flat (λ (e : DeskEntry N L). act_of e ∷ []) part run within))

  pub run_handed : ((task : ℕ) (acts part : List DeskAct) → DeskRuns [] acts → IsSublist part acts → Ascends itself (handed task part))
      → (s : DeskModel N L) (run part : List (DeskEntry N L)) (task : ℕ) → s.records ≡ [] → IsLegalRun (DeskSteps net link) s run → IsSublist part run → Ascends itself (handed task (map act_of part))
  run_handed law s run part task empty legal within = law task (map act_of run) (map act_of part) (desk_runs s run empty legal) (acts_within run part within)

  pub run_paired : ((task : ℕ) (acts part : List DeskAct) → DeskRuns [] acts → IsSublist part acts → Ascends itself (paired task part))
      → (s : DeskModel N L) (run part : List (DeskEntry N L)) (task : ℕ) → s.records ≡ [] → IsLegalRun (DeskSteps net link) s run → IsSublist part run → Ascends itself (paired task (map act_of part))
  run_paired law s run part task empty legal within = law task (map act_of run) (map act_of part) (desk_runs s run empty legal) (acts_within run part within)

  -- a call that fits a desk fits it after each step
  one_later : (d : DeskCall L) (s t : DeskModel N L) → StayNamed link s t → CallFits link d s → CallFits link d t
  one_later (call.Pair task) s t stay fits = tt
  one_later (call.DonorEnd task) s t stay fits = tt
  one_later (call.GiveBack place side end) s t stay fits = (stay place (link.name end) fits.0, fits.1)

  pub fits_later : (d : DeskCall L) (s : DeskModel N L) (run : List (DeskEntry N L)) → CallFits link d s → IsLegalRun (DeskSteps net link) s run → CallFits link d (end_of s run)
  fits_later d s [] fits legal = fits
  fits_later d s (e ∷ es) fits legal = fits_later d e.after es (one_later d s e.after legal.0.stay fits) legal.1

  -- an end that was handed out fits the desk that handed it out
  pub fits_paired : (s t : DeskModel N L) (task place : ℕ) (end e : L) → Makes net link s task place end t → link.name e ≡ link.name end → link.side e ≡ Requester
      → Fits link t place Requester e
  fits_paired s t task place end e made same side =
      let fresh : Record L = record { task = task; about = made.about; donor = Waits made.donor; requester = None } in
      let name : name_of link fresh ≡ link.name e = ap link.name made.named ∙ sym same in
      let last : IsNamed link (s.records ++ fresh ∷ []) place (name_of link fresh) = subst (λ k. IsNamed link (s.records ++ fresh ∷ []) k (name_of link fresh)) (sym made.place_is) (named_last link s.records fresh) in
      (subst (λ rs. IsNamed link rs place (link.name e)) (sym made.records) (subst (IsNamed link (s.records ++ fresh ∷ []) place) name last), side)

  pub fits_handed : (s t : DeskModel N L) (task place : ℕ) (end e : L) → Gives net link s task place end t → link.name e ≡ link.name end → link.side e ≡ Donor
      → Fits link t place Donor e
  fits_handed s t task place end e gave same side =
      let here : IsNamed link s.records place (name_of link gave.there) = named_here link s.records place gave.there gave.low gave.at in
      let after : IsNamed link (set s.records place (handed_out gave.there)) place (name_of link gave.there) = named_set link s.records place gave.there (handed_out gave.there) gave.at refl place (name_of link gave.there) here in
      (subst (λ rs. IsNamed link rs place (link.name e)) (sym gave.records) (subst (IsNamed link (set s.records place (handed_out gave.there)) place) (sym (same ∙ gave.end_is.is.name_is)) after), side)

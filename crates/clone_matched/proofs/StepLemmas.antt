-- What a step of a desk does to the record at a place, and which ends it lends.
use Rattle.std.proofs.Common.{ℕ, ◌≡◌, ◌≤◌, ◌+◌, ◌==◌, Bool, true, false, cond, ◌∷◌, [], ◌++◌, length, length-append, refl, sym, ap, ◌∙◌, subst, Ok, Err, Some, None, eqb→eq, T, arith}
use Rattle.std.proofs.lemmas.Bool.{eqb-false}
use Rattle.std.proofs.lemmas.List.{length-set}
use Rattle.clone_outside.specs.declared.Refusal.{Refusal}
use Rattle.clone_outside.specs.declared.link.Side.{Side}
use Rattle.clone_outside.specs.declared.link.Side.TheVariants.{Donor, Requester}
use Rattle.clone_outside.specs.declared.link.Link.{Ghosts as Link}
use Rattle.clone_outside.specs.declared.link.Net.{Ghosts as Net}
use Rattle.clone_desk.specs.declared.machine.DeskAnswer.{DeskAnswer}
use Rattle.clone_desk.specs.declared.machine.DeskAnswer.TheVariants as answer
use Rattle.clone_desk.specs.declared.machine.DeskCall.{DeskCall}
use Rattle.clone_desk.specs.declared.machine.DeskCall.TheVariants as call
use Rattle.clone_desk.specs.declared.record.DonorEnd.TheVariants.{Waits}
use Rattle.clone_desk.specs.declared.record.Record.{Record}
use Rattle.clone_desk.specs.Records.{does_wait, handed_out, with_end}
use Rattle.clone_desk.specs.Desks.{DeskModel, Gives, Keeps, Makes}
use Rattle.clone_desk.specs.Steps.{DeskSteps}
use Rattle.clone_matched.proofs.PlaceLemmas.{IsAt, at_changed, at_here, at_last, at_low, at_more, at_one, at_set}
use Rattle.clone_matched.proofs.ChangeLemmas.{IsSpent, changed, is_there, lends_by, no_one, one_if}

module _ {N L X : Type 0} (net : Net N L X) (link : Link L X) where
  -- the record of a connection that was made
  abbrev pub fresh : (s : DeskModel N L) (task place : ℕ) (end : L) (t : DeskModel N L) → Makes net link s task place end t → Record L
  fresh s task place end t made = record { task = task; about = made.about; donor = Waits made.donor; requester = None }

  pub fresh_at : (s : DeskModel N L) (task place : ℕ) (end : L) (t : DeskModel N L) (made : Makes net link s task place end t) → IsAt t.records place (fresh s task place end t made)
  fresh_at s task place end t made =
      subst (λ rs. IsAt rs place (fresh s task place end t made)) (sym made.records)
      (subst (λ k. IsAt (s.records ++ fresh s task place end t made ∷ []) k (fresh s task place end t made)) (sym made.place_is) (at_last s.records (fresh s task place end t made)))

  pub given_from : (s : DeskModel N L) (task place : ℕ) (end : L) (t : DeskModel N L) (gave : Gives net link s task place end t) → IsAt s.records place gave.there
  given_from s task place end t gave = at_here s.records place gave.there gave.low gave.at

  pub given_at : (s : DeskModel N L) (task place : ℕ) (end : L) (t : DeskModel N L) (gave : Gives net link s task place end t) → IsAt t.records place (handed_out gave.there)
  given_at s task place end t gave =
      subst (λ rs. IsAt rs place (handed_out gave.there)) (sym gave.records) (at_set s.records place gave.there (handed_out gave.there) (given_from s task place end t gave))

  module _ (s t : DeskModel N L) where
    -- the ways of a step
    step_ways : (P : DeskCall L → DeskAnswer L → Type 0) → ((task : ℕ) (x : ℕ × L) → Makes net link s task x.0 x.1 t → P (call.Pair task) (answer.Paired (Ok x)))
        → ((task : ℕ) (why : Refusal) → t.records ≡ s.records → P (call.Pair task) (answer.Paired (Err why)))
        → ((task : ℕ) (x : ℕ × L) → Gives net link s task x.0 x.1 t → P (call.DonorEnd task) (answer.HandedOut (Some x)))
        → ((task : ℕ) → t.records ≡ s.records → P (call.DonorEnd task) (answer.HandedOut None))
        → ((place : ℕ) (side : Side) (end : L) → Keeps s place side end t → P (call.GiveBack place side end) answer.Kept)
        → (c : DeskCall L) (a : DeskAnswer L) → DeskSteps net link s c a t → P c a
    step_ways P makes refuses gives none keeps (call.Pair task) (answer.Paired (Ok x)) step = makes task x step.does.made
    step_ways P makes refuses gives none keeps (call.Pair task) (answer.Paired (Err why)) step = refuses task why step.does.refused.records
    step_ways P makes refuses gives none keeps (call.Pair task) (answer.HandedOut result) step = absurd step.does
    step_ways P makes refuses gives none keeps (call.Pair task) answer.Kept step = absurd step.does
    step_ways P makes refuses gives none keeps (call.DonorEnd task) (answer.Paired result) step = absurd step.does
    step_ways P makes refuses gives none keeps (call.DonorEnd task) (answer.HandedOut (Some x)) step = gives task x step.does
    step_ways P makes refuses gives none keeps (call.DonorEnd task) (answer.HandedOut None) step = none task (ap (λ (m : DeskModel N L). m.records) step.does.1)
    step_ways P makes refuses gives none keeps (call.DonorEnd task) answer.Kept step = absurd step.does
    step_ways P makes refuses gives none keeps (call.GiveBack place side end) (answer.Paired result) step = absurd step.does
    step_ways P makes refuses gives none keeps (call.GiveBack place side end) (answer.HandedOut result) step = absurd step.does
    step_ways P makes refuses gives none keeps (call.GiveBack place side end) answer.Kept step = keeps place side end step.does

    -- the record that was there is there, as the call changed it
    pub step_at : (k : ℕ) (r : Record L) (c : DeskCall L) (a : DeskAnswer L) → DeskSteps net link s c a t → IsAt s.records k r → IsAt t.records k (changed k c a r)
    step_at k r c a step at =
        step_ways (λ d b. IsAt t.records k (changed k d b r))
        (λ task x made. subst (λ rs. IsAt rs k r) (sym made.records) (at_more s.records (fresh s task x.0 x.1 t made) k r at))
        (λ task why same. subst (λ rs. IsAt rs k r) (sym same) at)
        (λ task x gave. subst (λ rs. IsAt rs k (cond (x.0 == k) (handed_out r) r)) (sym gave.records) (at_changed handed_out s.records x.0 k r gave.there gave.at at))
        (λ task same. subst (λ rs. IsAt rs k r) (sym same) at)
        (λ place side end kept. subst (λ rs. IsAt rs k (cond (place == k) (with_end side end r) r)) (sym kept.records) (at_changed (with_end side end) s.records place k r kept.there kept.at at))
        c a step

    -- where an end was lent no more are lent
    abbrev pub IsLent : Side → ℕ → Type 0
    IsLent side k = (r : Record L) × IsAt t.records k r × IsSpent side r

    makes_spent : (k task : ℕ) (x : ℕ × L) → Makes net link s task x.0 x.1 t → one_if (x.0 == k) ≡ 1 → IsLent Requester k
    makes_spent k task x made one = (fresh s task x.0 x.1 t made, subst (λ n. IsAt t.records n (fresh s task x.0 x.1 t made)) (is_there x.0 k one) (fresh_at s task x.0 x.1 t made), tt)

    gives_spent : (k task : ℕ) (x : ℕ × L) → Gives net link s task x.0 x.1 t → one_if (x.0 == k) ≡ 1 → IsLent Donor k
    gives_spent k task x gave one = (handed_out gave.there, subst (λ n. IsAt t.records n (handed_out gave.there)) (is_there x.0 k one) (given_at s task x.0 x.1 t gave), refl)

    pub step_lends : (side : Side) (k : ℕ) (c : DeskCall L) (a : DeskAnswer L) → DeskSteps net link s c a t → lends_by side k a ≡ 1 → IsLent side k
    step_lends Donor k c a step =
        step_ways (λ d b. lends_by Donor k b ≡ 1 → IsLent Donor k)
        (λ task x made one. absurd (no_one one))
        (λ task why same one. absurd (no_one one))
        (λ task x gave one. gives_spent k task x gave one)
        (λ task same one. absurd (no_one one))
        (λ place side end kept one. absurd (no_one one))
        c a step
    step_lends Requester k c a step =
        step_ways (λ d b. lends_by Requester k b ≡ 1 → IsLent Requester k)
        (λ task x made one. makes_spent k task x made one)
        (λ task why same one. absurd (no_one one))
        (λ task x gave one. absurd (no_one one))
        (λ task same one. absurd (no_one one))
        (λ place side end kept one. absurd (no_one one))
        c a step

    module _ (k : ℕ) (r : Record L) (at : IsAt s.records k r) where
      makes_other : (task : ℕ) (x : ℕ × L) → Makes net link s task x.0 x.1 t → one_if (x.0 == k) ≡ 0
      makes_other task x made = by (x.0 == k) refl
        where
          by : (b : Bool) → (x.0 == k) ≡ b → one_if b ≡ 0
          by true same = absurd (let e : x.0 ≡ k = eqb→eq x.0 k (subst T (sym same) tt) in let low = at_low s.records k r at in let last = made.place_is in omega (arith, e, low, last))
          by false apart = refl

      gives_other : does_wait r.donor ≡ false → (task : ℕ) (x : ℕ × L) → Gives net link s task x.0 x.1 t → one_if (x.0 == k) ≡ 0
      gives_other spent task x gave = by (x.0 == k) refl
        where
          by : (b : Bool) → (x.0 == k) ≡ b → one_if b ≡ 0
          by true same = absurd (
              let e : x.0 ≡ k = eqb→eq x.0 k (subst T (sym same) tt) in
              let one : gave.there ≡ r = at_one s.records k gave.there r (subst (λ n. IsAt s.records n gave.there) e (given_from s task x.0 x.1 t gave)) at in
              let waits : does_wait gave.there.donor ≡ true = ap does_wait gave.waits in
              let not : does_wait gave.there.donor ≡ false = ap (λ (y : Record L). does_wait y.donor) one ∙ spent in
              let both : true ≡ false = sym waits ∙ not in cc
              )
          by false apart = refl

      pub step_spent : (side : Side) (c : DeskCall L) (a : DeskAnswer L) → DeskSteps net link s c a t → IsSpent side r → lends_by side k a ≡ 0
      step_spent Donor c a step spent =
          step_ways (λ d b. lends_by Donor k b ≡ 0) (λ task x made. refl) (λ task why same. refl) (λ task x gave. gives_other spent task x gave) (λ task same. refl) (λ place side end kept. refl) c a step
      step_spent Requester c a step spent =
          step_ways (λ d b. lends_by Requester k b ≡ 0) (λ task x made. makes_other task x made) (λ task why same. refl) (λ task x gave. refl) (λ task same. refl) (λ place side end kept. refl) c a step

    -- a place comes by a connection that is made
    makes_more : (k task : ℕ) (x : ℕ × L) → length s.records ≤ k → Makes net link s task x.0 x.1 t → one_if (x.0 == k) ≡ 0 → length t.records ≤ k
    makes_more k task x low made = by (x.0 == k) refl
      where
        long : length t.records ≤ length s.records + 1
        long = let all = ap length made.records in let more = length-append s.records (fresh s task x.0 x.1 t made ∷ []) in omega (arith, all, more)

        by : (b : Bool) → (x.0 == k) ≡ b → one_if b ≡ 0 → length t.records ≤ k
        by true same none = absurd (omega (arith, none))
        by false apart none = apart_low (eqb-false x.0 k apart)
          where
            apart_low : (x.0 ≡ k → ⊥) → length t.records ≤ k
            apart_low apart = let last = made.place_is in let more = long in omega (arith, low, apart, last, more)

    pub step_grows : (k : ℕ) (c : DeskCall L) (a : DeskAnswer L) → DeskSteps net link s c a t → length s.records ≤ k → lends_by Requester k a ≡ 0 → length t.records ≤ k
    step_grows k c a step low =
        step_ways (λ d b. lends_by Requester k b ≡ 0 → length t.records ≤ k)
        (λ task x made none. makes_more k task x low made none)
        (λ task why same none. let all = ap length same in omega (arith, all, low))
        (λ task x gave none. let all = ap length gave.records ∙ length-set s.records x.0 (handed_out gave.there) in omega (arith, all, low))
        (λ task same none. let all = ap length same in omega (arith, all, low))
        (λ place side end kept none. let all = ap length kept.records ∙ length-set s.records place (with_end side end kept.there) in omega (arith, all, low))
        c a step

-- The desk hands out the least place that waits.
use Rattle.std.proofs.Common.{ℕ, zero, suc, ◌≡◌, ◌+◌, ◌≤◌, ◌<◌, ◌==◌, ◌&&◌, Bool, true, false, cond, if◌then◌else◌, List, [], ◌∷◌, ◌++◌, length, length-append, refl, sym, ap, ◌∙◌, subst, eqb→eq, T, arith}
use Rattle.std.specs.List.{AllByRecursion}
use Rattle.clone_turn.specs.Parts.{IsSublist}
use Rattle.clone_turn.proofs.SublistLemmas.{sublist_flat}
use Rattle.clone_turn.proofs.EachLemmas.{each_map}
use Rattle.clone_runs.specs.Marks.{Ascends}
use Rattle.clone_runs.specs.Desk.{DeskAct, DeskRuns, IsLeast, Waiting, handed, handed_by, paired, paired_by, itself, waits_for, Pairs, HandsOut, Other}
use Rattle.clone_runs.proofs.MarkLemmas.{ascends_sublist, not_both}

-- of the first n none waits for the task
abbrev NoneWaits : ℕ → ℕ → List Waiting → Type 0
NoneWaits task n [] = Unit {0}
NoneWaits task zero (r ∷ rs) = Unit {0}
NoneWaits task (suc n) (r ∷ rs) = (waits_for task r ≡ false) × NoneWaits task n rs

none_first : (task : ℕ) (rs : List Waiting) → NoneWaits task 0 rs
none_first task [] = tt
none_first task (r ∷ rs) = tt

none_more : (task n : ℕ) (rs : List Waiting) (r : Waiting) → n ≤ length rs → NoneWaits task n rs → NoneWaits task n (rs ++ r ∷ [])
none_more task zero [] r low none = tt
none_more task (suc n) [] r low none = absurd (omega arith)
none_more task zero (x ∷ rs) r low none = tt
none_more task (suc n) (x ∷ rs) r low none = (none.0, none_more task n rs r (omega arith) none.1)

and_false : (a : Bool) → (a && false) ≡ false
and_false true = refl
and_false false = refl

still_none : (task t : ℕ) (r : Waiting) → waits_for task r ≡ false → waits_for task (record r { waits = false }) ≡ false
still_none task t r none = and_false (r.task == task)

-- to hand out to any task lets none wait more
none_still : (task t n : ℕ) (rs after : List Waiting) (place : ℕ) → IsLeast t rs place after → NoneWaits task n rs → NoneWaits task n after
none_still task t n [] after place hands none = absurd hands
none_still task t zero (r ∷ rs) after place hands none = none_first task after
none_still task t (suc n) (r ∷ rs) after place hands none = by (waits_for t r) hands (λ us p more. none_still task t n rs us p more none.1)
  where
    by : (b : Bool) → cond b ((place ≡ 0) × (after ≡ record r { waits = false } ∷ rs)) ((p : ℕ) × (us : List Waiting) × (place ≡ suc p) × (after ≡ r ∷ us) × IsLeast t rs p us)
        → ((us : List Waiting) (p : ℕ) → IsLeast t rs p us → NoneWaits task n us) → NoneWaits task (suc n) after
    by true is more = subst (NoneWaits task (suc n)) (sym is.1) (still_none task t r none.0, none.1)
    by false is more = subst (NoneWaits task (suc n)) (sym is.3) (none.0, more is.1 is.0 is.4)

-- the place is not among those where none waits, and none waits up to it afterwards
hand_out : (task n : ℕ) (rs after : List Waiting) (place : ℕ) → IsLeast task rs place after → NoneWaits task n rs
    → (n ≤ place) × NoneWaits task (suc place) after × (place < length rs) × (length after ≡ length rs)
hand_out task n [] after place hands none = absurd hands
hand_out task n (r ∷ rs) after place hands none = by (waits_for task r) refl hands n none (λ m us p out before. hand_out task m rs us p out before)
  where
    by : (b : Bool) → waits_for task r ≡ b → cond b ((place ≡ 0) × (after ≡ record r { waits = false } ∷ rs)) ((p : ℕ) × (us : List Waiting) × (place ≡ suc p) × (after ≡ r ∷ us) × IsLeast task rs p us)
        → (m : ℕ) → NoneWaits task m (r ∷ rs)
        → ((m : ℕ) (us : List Waiting) (p : ℕ) → IsLeast task rs p us → NoneWaits task m rs → (m ≤ p) × NoneWaits task (suc p) us × (p < length rs) × (length us ≡ length rs))
        → (m ≤ place) × NoneWaits task (suc place) after × (place < length (r ∷ rs)) × (length after ≡ length (r ∷ rs))
    by true w is (suc m) before rest = absurd (not_both w before.0)
    by true w is zero before rest = (
      omega arith,
      subst (λ k. NoneWaits task (suc k) after) (sym is.0) (subst (NoneWaits task 1) (sym is.1) (and_false (r.task == task), none_first task rs)),
      omega (arith, is.0),
      ap length is.1,
    )
    by false w is zero before rest =
        let more = rest 0 is.1 is.0 is.4 (none_first task rs) in (
          omega arith,
          subst (λ k. NoneWaits task (suc k) after) (sym is.2) (subst (NoneWaits task (suc (suc is.0))) (sym is.3) (w, more.1)),
          omega (arith, is.2, more.2),
          ap length is.3 ∙ ap suc more.3,
        )
    by false w is (suc m) before rest =
        let more = rest m is.1 is.0 is.4 before.1 in (
          omega (arith, is.2, more.0),
          subst (λ k. NoneWaits task (suc k) after) (sym is.2) (subst (NoneWaits task (suc (suc is.0))) (sym is.3) (w, more.1)),
          omega (arith, is.2, more.2),
          ap length is.3 ∙ ap suc more.3,
        )

hand_length : (task : ℕ) (rs after : List Waiting) (place : ℕ) → IsLeast task rs place after → length after ≡ length rs
hand_length task rs after place hands = (hand_out task 0 rs after place hands (none_first task rs)).3

-- all that will be handed out to the task is above
abbrev FromOn : ℕ → List ℕ → Type 0
FromOn n [] = Unit {0}
FromOn n (p ∷ ps) = (n ≤ p) × FromOn (p + 1) ps

from_above : (n : ℕ) (ps : List ℕ) → FromOn (n + 1) ps → AllByRecursion (λ p. n < itself p) ps
from_above n [] from = tt
from_above n (p ∷ ps) from = (omega (arith, from.0), each_map (λ q. p < itself q) (λ q. n < itself q) (λ q low. omega (arith, from.0)) ps (from_above p ps from.1))

from_ascends : (n : ℕ) (ps : List ℕ) → FromOn n ps → Ascends itself ps
from_ascends n [] from = tt
from_ascends n (p ∷ ps) from = (from_above p ps from.1, from_ascends (p + 1) ps from.1)

handed_from : (task n : ℕ) (rs : List Waiting) (acts : List DeskAct) → n ≤ length rs → NoneWaits task n rs → DeskRuns rs acts → FromOn n (handed task acts)
handed_from task n rs [] low none runs = tt
handed_from task n rs (Pairs t p ∷ acts) low none runs =
    let same = runs.1.1 in
    handed_from task n runs.0 acts
    (omega (arith, low, ap length same, length-append rs (record { task = t; waits = true } ∷ [])))
    (subst (NoneWaits task n) (sym same) (none_more task n rs _ low none)) runs.2
handed_from task n rs (HandsOut t p ∷ acts) low none runs = by (t == task) refl (λ m low' none'. handed_from task m runs.0 acts low' none' runs.2)
  where
    by : (b : Bool) → (t == task) ≡ b → ((m : ℕ) → m ≤ length runs.0 → NoneWaits task m runs.0 → FromOn m (handed task acts)) → FromOn n ((if b then p ∷ [] else []) ++ handed task acts)
    by true is rest =
        let hands : IsLeast task rs p runs.0 = subst (λ k. IsLeast k rs p runs.0) (eqb→eq t task (subst T (sym is) tt)) runs.1 in
        let out = hand_out task n rs runs.0 p hands none in
        (out.0, rest (p + 1) (omega (arith, out.2, out.3)) (subst (λ k. NoneWaits task k runs.0) (omega arith) out.1))
    by false is rest = rest n (omega (arith, low, hand_length t rs runs.0 p runs.1)) (none_still task t n rs runs.0 p runs.1 none)
handed_from task n rs (Other ∷ acts) low none runs =
    handed_from task n runs.0 acts (omega (arith, low, ap length runs.1)) (subst (NoneWaits task n) (sym runs.1) none) runs.2

from_more : (m n : ℕ) (ps : List ℕ) → m ≤ n → FromOn n ps → FromOn m ps
from_more m n [] low from = tt
from_more m n (p ∷ ps) low from = (omega (arith, low, from.0), from.1)

paired_from : (task : ℕ) (rs : List Waiting) (acts : List DeskAct) → DeskRuns rs acts → FromOn (length rs) (paired task acts)
paired_from task rs [] runs = tt
paired_from task rs (Pairs t p ∷ acts) runs =
    let long : length runs.0 ≡ length rs + 1 = ap length runs.1.1 ∙ length-append rs (record { task = t; waits = true } ∷ []) in
    let more = paired_from task runs.0 acts runs.2 in
    by long more (t == task)
  where
    by : length runs.0 ≡ length rs + 1 → FromOn (length runs.0) (paired task acts) → (b : Bool) → FromOn (length rs) ((if b then p ∷ [] else []) ++ paired task acts)
    by long more true = (omega (arith, runs.1.0), from_more (p + 1) (length runs.0) (paired task acts) (omega (arith, runs.1.0, long)) more)
    by long more false = from_more (length rs) (length runs.0) (paired task acts) (omega (arith, long)) more
paired_from task rs (HandsOut t p ∷ acts) runs =
    from_more (length rs) (length runs.0) (paired task acts) (omega (arith, hand_length t rs runs.0 p runs.1)) (paired_from task runs.0 acts runs.2)
paired_from task rs (Other ∷ acts) runs =
    from_more (length rs) (length runs.0) (paired task acts) (omega (arith, ap length runs.1)) (paired_from task runs.0 acts runs.2)

-- of a part of the acts, as one seat made them
pub handed_ascends : (task : ℕ) (acts part : List DeskAct) → DeskRuns [] acts → IsSublist part acts → Ascends itself (handed task part)
handed_ascends task acts part runs within =
    ascends_sublist itself _ _ (sublist_flat (handed_by task) part acts within) (from_ascends 0 (handed task acts) (handed_from task 0 [] acts (omega arith) tt runs))

pub paired_ascends : (task : ℕ) (acts part : List DeskAct) → DeskRuns [] acts → IsSublist part acts → Ascends itself (paired task part)
paired_ascends task acts part runs within =
    ascends_sublist itself _ _ (sublist_flat (paired_by task) part acts within) (from_ascends 0 (paired task acts) (paired_from task [] acts runs))

-- An end is lent once at a place, and a place comes by the connection that is made there.
use Rattle.std.proofs.Common.{ℕ, ◌≡◌, ◌≤◌, ◌<◌, ◌⊎◌, List, [], ◌∷◌, length, refl, inl, inr, arith}
use Rattle.clone_outside.specs.declared.link.Side.{Side}
use Rattle.clone_outside.specs.declared.link.Side.TheVariants.{Requester}
use Rattle.clone_outside.specs.declared.link.Link.{Ghosts as Link}
use Rattle.clone_outside.specs.declared.link.Net.{Ghosts as Net}
use Rattle.clone_turn.specs.Rule.{total}
use Rattle.clone_turn.specs.Runs.{IsLegalRun, end_of}
use Rattle.clone_desk.specs.declared.record.Record.{Record}
use Rattle.clone_desk.specs.Desks.{DeskModel}
use Rattle.clone_desk.specs.Steps.{DeskEntry, DeskSteps}
use Rattle.clone_matched.proofs.PlaceLemmas.{IsAt}
use Rattle.clone_matched.proofs.ChangeLemmas.{IsSpent, after_all, change, lends_at, lends_one, spent_stays}
use Rattle.clone_matched.proofs.StepLemmas.{step_at, step_grows, step_lends, step_spent}

module _ {N L X : Type 0} (net : Net N L X) (link : Link L X) where
  pub run_at : (k : ℕ) (s : DeskModel N L) (run : List (DeskEntry N L)) (r : Record L) → IsLegalRun (DeskSteps net link) s run → IsAt s.records k r
      → IsAt (end_of s run).records k (after_all k run r)
  run_at k s [] r legal at = at
  run_at k s (e ∷ es) r legal at = run_at k e.after es (change k e r) legal.1 (step_at net link s e.after k r e.call e.answer legal.0 at)

  none_more : (side : Side) (k : ℕ) (s : DeskModel N L) (run : List (DeskEntry N L)) (r : Record L) → IsLegalRun (DeskSteps net link) s run → IsAt s.records k r → IsSpent side r
      → total (lends_at side k) run ≡ 0
  none_more side k s [] r legal at spent = refl
  none_more side k s (e ∷ es) r legal at spent =
      let first = step_spent net link s e.after k r at side e.call e.answer legal.0 spent in
      let later = none_more side k e.after es (change k e r) legal.1 (step_at net link s e.after k r e.call e.answer legal.0 at) (spent_stays side k e.call e.answer r spent) in
      omega (arith, first, later)

  pub lent_once : (side : Side) (k : ℕ) (s : DeskModel N L) (run : List (DeskEntry N L)) → IsLegalRun (DeskSteps net link) s run → total (lends_at side k) run ≤ 1
  lent_once side k s [] legal = omega arith
  lent_once side k s (e ∷ es) legal = by (lends_one side k e.answer) (lent_once side k e.after es legal.1)
    where
      by : (lends_at side k e ≡ 0) ⊎ (lends_at side k e ≡ 1) → total (lends_at side k) es ≤ 1 → total (lends_at side k) (e ∷ es) ≤ 1
      by (inl none) more = omega (arith, none, more)
      by (inr one) more =
          let is = step_lends net link s e.after side k e.call e.answer legal.0 one in
          let later = none_more side k e.after es is.0 legal.1 is.1 is.2 in
          omega (arith, one, later)

  pub came_from : (k : ℕ) (s : DeskModel N L) (run : List (DeskEntry N L)) → IsLegalRun (DeskSteps net link) s run → length s.records ≤ k → k < length (end_of s run).records
      → 1 ≤ total (lends_at Requester k) run
  came_from k s [] legal high low = absurd (omega (arith, high, low))
  came_from k s (e ∷ es) legal high low = by (lends_one Requester k e.answer) (λ more. came_from k e.after es legal.1 more low)
    where
      by : (lends_at Requester k e ≡ 0) ⊎ (lends_at Requester k e ≡ 1) → (length e.after.records ≤ k → 1 ≤ total (lends_at Requester k) es) → 1 ≤ total (lends_at Requester k) (e ∷ es)
      by (inl none) rest = let more = rest (step_grows net link s e.after k e.call e.answer legal.0 high none) in omega (arith, more)
      by (inr one) rest = omega (arith, one)

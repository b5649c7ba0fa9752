-- The calls of seats: each end that is lent is given back, once.
use Rattle.std.proofs.Common.{ℕ, zero, suc, ◌≡◌, ◌≤◌, ◌+◌, ◌⊎◌, List, [], ◌∷◌, map, refl, sym, ap, ◌∙◌, inl, inr, arith}
use Rattle.std.specs.List.{AllByRecursion, Contains}
use Rattle.clone_outside.specs.declared.link.Side.{Side}
use Rattle.clone_outside.specs.declared.link.Side.TheVariants.{Donor, Requester}
use Rattle.clone_turn.specs.Parts.{IsMadeOf, IsSublist, all_of}
use Rattle.clone_turn.specs.Rule.{total}
use Rattle.clone_turn.proofs.SublistLemmas.{sublist_more, sublist_same, sublist_trans}
use Rattle.clone_turn.proofs.TotalLemmas.{total_append, total_moved}
use Rattle.clone_desk.specs.declared.machine.DeskAnswer.{DeskAnswer}
use Rattle.clone_desk.specs.declared.machine.DeskCall.TheVariants as call
use Rattle.clone_desk.specs.Steps.{DeskEntry}
use Rattle.clone_reading.specs.Lending.{IsNone, Lent, Uses, asking, lending, lends, none, nothing}
use Rattle.clone_matched.specs.Parts.{AreApart, DeskPart, IsApart, UsesDesk, asked_of}
use Rattle.clone_matched.proofs.HasLemmas.{Has}
use Rattle.clone_matched.proofs.PlaceLemmas.{IsAt, at_each, at_here}
use Rattle.clone_matched.proofs.ChangeLemmas.{gives_at, gives_by, is_there, lends_at, lends_by, lends_one, no_one}

asking_gives : (L : Type 0) (side : Side) (k : ℕ) (on : Side) (task : ℕ) → gives_by {L = L} side k (asking on task) ≡ 0
asking_gives L side k Donor task = refl
asking_gives L side k Requester task = refl

module _ {L : Type 0} where
  none_lends : (side : Side) (k : ℕ) (on : Side) (a : DeskAnswer L) → IsNone on a → lends_by side k a ≡ 0
  none_lends side k Donor a is = ap (lends_by side k) is
  none_lends side k Requester a is = ap (lends_by side k) is.1

  lending_gives : (side : Side) (k : ℕ) (on : Side) (place : ℕ) (end back : L) → lends_by side k (lending on place end) ≡ gives_by side k (call.GiveBack place on back)
  lending_gives Donor k Donor place end back = refl
  lending_gives Donor k Requester place end back = refl
  lending_gives Requester k Donor place end back = refl
  lending_gives Requester k Requester place end back = refl

  lending_at : (side : Side) (k : ℕ) (on : Side) (place : ℕ) (end : L) → lends_by side k (lending on place end) ≡ 1 → (on ≡ side) × (place ≡ k)
  lending_at Donor k Donor place end one = (refl, is_there place k one)
  lending_at Donor k Requester place end one = absurd (no_one one)
  lending_at Requester k Donor place end one = absurd (no_one one)
  lending_at Requester k Requester place end one = (refl, is_there place k one)

module _ {N L : Type 0} where
  -- as many come back as were lent
  uses_even : (side : Side) (k : ℕ) (on : Side) (task : ℕ) (lent : List (Lent L)) (asked : List (DeskEntry N L)) → Uses on task lent asked → total (gives_at side k) asked ≡ total (lends_at side k) asked
  uses_even side k on task _ _ nothing = refl
  uses_even side k on task _ _ (none lent e asked calls is uses) =
      let a : gives_at side k e ≡ 0 = ap (gives_by side k) calls ∙ asking_gives L side k on task in
      let b : lends_at side k e ≡ 0 = none_lends side k on e.answer is in
      let more = uses_even side k on task lent asked uses in omega (arith, a, b, more)
  uses_even side k on task _ _ (lends one lent e f asked calls is back kept uses) =
      let a : gives_at side k e ≡ 0 = ap (gives_by side k) calls ∙ asking_gives L side k on task in
      let b : lends_at side k e ≡ gives_at side k f = ap (lends_by side k) is ∙ (lending_gives side k on one.place one.taken one.back ∙ sym (ap (gives_by side k) back)) in
      let c : lends_at side k f ≡ 0 = ap (lends_by side k) kept in
      let more = uses_even side k on task lent asked uses in omega (arith, a, b, c, more)

  -- the end that was lent at the place
  uses_lent : (side : Side) (k : ℕ) (on : Side) (task : ℕ) (lent : List (Lent L)) (asked : List (DeskEntry N L)) → Uses on task lent asked → 1 ≤ total (lends_at side k) asked
      → (on ≡ side) × Has (λ (x : Lent L). x.place ≡ k) lent
  uses_lent side k on task _ _ nothing some = absurd (omega (arith, some))
  uses_lent side k on task _ _ (none lent e asked calls is uses) some =
      let b : lends_at side k e ≡ 0 = none_lends side k on e.answer is in uses_lent side k on task lent asked uses (omega (arith, some, b))
  uses_lent side k on task _ _ (lends one lent e f asked calls is back kept uses) some =
      by (lends_one side k e.answer) (λ more. uses_lent side k on task lent asked uses more)
    where
      by : (lends_at side k e ≡ 0) ⊎ (lends_at side k e ≡ 1) → (1 ≤ total (lends_at side k) asked → (on ≡ side) × Has (λ (x : Lent L). x.place ≡ k) lent)
          → (on ≡ side) × Has (λ (x : Lent L). x.place ≡ k) (one ∷ lent)
      by (inl idle) rest =
          let c : lends_at side k f ≡ 0 = ap (lends_by side k) kept in
          let more = rest (omega (arith, some, idle, c)) in (more.0, inr more.1)
      by (inr it) rest =
          let here = lending_at side k on one.place one.taken (sym (ap (lends_by side k) is) ∙ it) in (here.0, inl here.1)

  -- of each end the two calls
  pub each_lent : (P : Lent L → Type 0) (run : List (DeskEntry N L)) (on : Side) (task : ℕ) (lent : List (Lent L)) (asked : List (DeskEntry N L))
      → ((x : Lent L) (e f : DeskEntry N L) → e.call ≡ asking on task → e.answer ≡ lending on x.place x.taken → f.call ≡ call.GiveBack x.place on x.back → IsSublist (e ∷ f ∷ []) run → P x)
      → Uses on task lent asked → IsSublist asked run → AllByRecursion P lent
  each_lent P run on task _ _ is nothing within = tt
  each_lent P run on task _ _ is (none lent e asked calls given uses) within =
      each_lent P run on task lent asked is uses (sublist_trans asked (e ∷ asked) run (sublist_more e asked asked (sublist_same asked)) within)
  each_lent P run on task _ _ is (lends one lent e f asked calls given back kept uses) within = (
    is one e f calls given back (sublist_trans (e ∷ f ∷ []) (e ∷ f ∷ asked) run (inl (refl, inl (refl, tt))) within),
    each_lent P run on task lent asked is uses (sublist_trans asked (e ∷ f ∷ asked) run (sublist_more e asked (f ∷ asked) (sublist_more f asked asked (sublist_same asked))) within),
  )

  -- ---- OF ALL SEATS

  all_even : (side : Side) (k : ℕ) (parts : List (DeskPart N L)) → AllByRecursion UsesDesk parts → total (gives_at side k) (all_of (map asked_of parts)) ≡ total (lends_at side k) (all_of (map asked_of parts))
  all_even side k [] uses = refl
  all_even side k (p ∷ parts) uses =
      let one = uses_even side k p.side p.task p.lent p.asked uses.0 in
      let more = all_even side k parts uses.1 in
      let a = total_append (gives_at side k) p.asked (all_of (map asked_of parts)) in
      let b = total_append (lends_at side k) p.asked (all_of (map asked_of parts)) in
      omega (arith, one, more, a, b)

  pub run_even : (side : Side) (k : ℕ) (parts : List (DeskPart N L)) (run : List (DeskEntry N L)) → IsMadeOf (map asked_of parts) run → AllByRecursion UsesDesk parts
      → total (gives_at side k) run ≡ total (lends_at side k) run
  run_even side k parts run made uses =
      sym (total_moved (gives_at side k) (all_of (map asked_of parts)) run made.once) ∙ (all_even side k parts uses ∙ total_moved (lends_at side k) (all_of (map asked_of parts)) run made.once)

  -- the seat to which an end was lent at the place
  pub record LentTo (side : Side) (k : ℕ) (parts : List (DeskPart N L)) : Type 0 where
    pub seat : DeskPart N L
    pub number : ℕ
    pub at : IsAt parts number seat
    pub side_is : seat.side ≡ side
    pub lent : Has (λ (x : Lent L). x.place ≡ k) seat.lent

  lent_in : (side : Side) (k : ℕ) (parts : List (DeskPart N L)) → AllByRecursion UsesDesk parts → 1 ≤ total (lends_at side k) (all_of (map asked_of parts)) → LentTo side k parts
  lent_in side k [] uses some = absurd (omega (arith, some))
  lent_in side k (p ∷ parts) uses some = by (total (lends_at side k) p.asked) refl (λ more. lent_in side k parts uses.1 more)
    where
      sum : total (lends_at side k) (all_of (map asked_of (p ∷ parts))) ≡ total (lends_at side k) p.asked + total (lends_at side k) (all_of (map asked_of parts))
      sum = total_append (lends_at side k) p.asked (all_of (map asked_of parts))

      by : (n : ℕ) → total (lends_at side k) p.asked ≡ n → (1 ≤ total (lends_at side k) (all_of (map asked_of parts)) → LentTo side k parts) → LentTo side k (p ∷ parts)
      by zero idle rest = let found = rest (let both = sum in omega (arith, some, idle, both)) in
          record { seat = found.seat; number = suc found.number; at = found.at; side_is = found.side_is; lent = found.lent }
      by (suc n) its rest = let it = uses_lent side k p.side p.task p.lent p.asked uses.0 (omega (arith, its)) in
          record { seat = p; number = 0; at = refl; side_is = it.0; lent = it.1 }

  pub lent_to : (side : Side) (k : ℕ) (parts : List (DeskPart N L)) (run : List (DeskEntry N L)) → IsMadeOf (map asked_of parts) run → AllByRecursion UsesDesk parts
      → 1 ≤ total (lends_at side k) run → LentTo side k parts
  lent_to side k parts run made uses some =
      let same = total_moved (lends_at side k) (all_of (map asked_of parts)) run made.once in lent_in side k parts uses (omega (arith, some, same))

  -- a seat's calls are in the run, in their order
  within_run : (parts : List (DeskPart N L)) (run : List (DeskEntry N L)) → AllByRecursion (λ part. IsSublist part run) (map asked_of parts) → AllByRecursion (λ (p : DeskPart N L). IsSublist p.asked run) parts
  within_run [] run within = tt
  within_run (p ∷ parts) run within = (within.0, within_run parts run within.1)

  pub part_within : (parts : List (DeskPart N L)) (run : List (DeskEntry N L)) (i : ℕ) (p : DeskPart N L) → IsMadeOf (map asked_of parts) run → IsAt parts i p → IsSublist p.asked run
  part_within parts run i p made at = at_each (λ (q : DeskPart N L). IsSublist q.asked run) parts i p at (within_run parts run made.order)

  -- seats that are for one side of one task are one
  pub seats_one : (parts : List (DeskPart N L)) (i j : ℕ) (p q : DeskPart N L) → AreApart parts → IsAt parts i p → IsAt parts j q → p.side ≡ q.side → p.task ≡ q.task → p ≡ q
  seats_one [] i j p q apart at there side task = absurd at
  seats_one (x ∷ xs) zero zero p q apart at there side task = sym at ∙ there
  seats_one (x ∷ xs) zero (suc j) p q apart at there side task =
      absurd (at_each (IsApart x) xs j q there apart.0 (ap (λ (y : DeskPart N L). y.side) at ∙ side) (ap (λ (y : DeskPart N L). y.task) at ∙ task))
  seats_one (x ∷ xs) (suc i) zero p q apart at there side task =
      absurd (at_each (IsApart x) xs i p at apart.0 (ap (λ (y : DeskPart N L). y.side) there ∙ sym side) (ap (λ (y : DeskPart N L). y.task) there ∙ sym task))
  seats_one (x ∷ xs) (suc i) (suc j) p q apart at there side task = seats_one xs i j p q apart.1 at there side task

  pub stands : (parts : List (DeskPart N L)) (p : DeskPart N L) → Contains parts p → (i : ℕ) × IsAt parts i p
  stands parts p has = (has.0, at_here parts has.0 p has.1 has.2)

-- While a clone hasn't ended, some step isn't idle.
use Rattle.std.proofs.Common.{◌≡◌, ◌≢◌, ◌<◌, ◌≤◌, ℕ, Bool, true, false, List, [], ◌∷◌, refl, sym, ap, subst, arith, inl, inr, ◌⊎◌}
use Rattle.std.proofs.lemmas.Bool.{cases_Bool, true_from_ne_false}
use Rattle.clone_rounds.specs.World.{Command, First, Execute, Acknowledge, Answer, Awaited, Nothing, ForFirst, ForEnd, ForStage, Core, New, Ready, Owner, Free, Claimed, Sent, Kept, World, IsLinked, AllTaken, IsServing, IsLive}
use Rattle.clone_rounds.specs.Idle.{TakesPart, Gives, IsStuck}
use Rattle.clone_rounds.specs.Awaiting.{Waits, IsAsked, IsAnswered, MayJoin, IsNext, AreBlocks, IsServed, serving, served, lost, Talks, IsDue, IsAwaited, Belongs, IsLevel, NoneFree, IsTaken, IsAt, Rule}
use Rattle.clone_rounds.proofs.Puts.{find_below}
use Rattle.clone_rounds.proofs.Covers.{awaits_of}
use Rattle.clone_rounds.proofs.Fitting.{connected_of}

cases_awaits : (x : Awaited) → (x ≡ Nothing) ⊎ (x ≢ Nothing)
cases_awaits Nothing = inl refl
cases_awaits ForFirst = inr (λ e. cc)
cases_awaits ForEnd = inr (λ e. cc)
cases_awaits ForStage = inr (λ e. cc)

-- a frame is there, or none is and none will come

more_or : (answers : List Answer) (cut : Bool) → cut ≡ true → (answers ≢ []) ⊎ ((answers ≡ []) × (cut ≡ true))
more_or [] cut c = inr (refl, c)
more_or (x ∷ more) cut c = inl (λ e. cc)

answered_more : (Fits : ℕ → Type 0) (answers : List Answer) (cut : Bool) (core : Core) → IsAnswered Fits answers cut core → (answers ≢ []) ⊎ ((answers ≡ []) × (cut ≡ true))
answered_more Fits [] cut core t = inr (refl, t.0)
answered_more Fits (x ∷ more) cut core t = inl (λ e. cc)

ended_more : (stage : ℕ) (Due : ℕ → Type 0) (answers : List Answer) → AreBlocks stage Due true answers → answers ≢ []
ended_more stage Due [] h = λ e. cc
ended_more stage Due (x ∷ more) h = λ e. cc

waits_live : (waiting core : Core) (cut : Bool) → IsLive waiting → Waits waiting cut core → IsLive core ⊎ (cut ≡ true)
waits_live waiting core cut live (inl e) = inl (subst IsLive (sym e) live)
waits_live waiting core cut live (inr e) = inr e.0

asked_live : (stage : ℕ) (c : Command) (awaits : Awaited) (cut : Bool) (core : Core) → IsAsked stage c awaits cut core → IsLive core ⊎ (cut ≡ true)
asked_live stage First awaits cut core t = waits_live New core cut tt t.1
asked_live stage (Execute s) awaits cut core t = waits_live Ready core cut tt t.1
asked_live stage (Acknowledge s) awaits cut core t = waits_live Ready core cut tt t.1

below_four : (n : ℕ) → n ≤ 4 → (n < 4) ⊎ (n ≡ 4)
below_four n h = grind arith

cases_end : (x : Awaited) → (x ≡ ForEnd) ⊎ (x ≢ ForEnd)
cases_end Nothing = inr (λ e. cc)
cases_end ForFirst = inr (λ e. cc)
cases_end ForEnd = inl refl
cases_end ForStage = inr (λ e. cc)

module _ (G : Type 0) (w : World) (r : Rule w) (gives : Gives G w) where
  -- A TASK THAT AWAITS AN ANSWER, or the donor's side of its connection, has a step.
  busy : (k : ℕ) → TakesPart w k → (w.seats k).connected ≡ true → (w.seats k).awaits ≢ Nothing → G
  busy k part c awaits = at (w.seats k).commands (w.seats k).awaits refl awaits ((r.seats k).talk c)
    where
      linked : IsLinked w k
      linked = record { task = (r.seats k).may.task c; connected = c }

      moves : ((w.seats k).answers ≢ []) ⊎ (((w.seats k).answers ≡ []) × ((w.seats k).cut ≡ true)) → G
      moves (inl there) = gives.takes k (record { linked = linked; part = part; awaits = awaits; there = there })
      moves (inr none) = gives.loses k (record { linked = linked; part = part; awaits = awaits; none = none.0; cut = none.1 })

      asked : (w.seats k).commands ≢ [] → (w.seats k).answers ≡ [] → IsLive (w.seats k).core ⊎ ((w.seats k).cut ≡ true) → G
      asked there none (inl live) = gives.carries k (record { linked = linked; live = live; there = there })
      asked there none (inr cut) = moves (inr (none, cut))

      service : IsServed w.sides.stage (IsDue w.sides k) (w.seats k).answers (w.seats k).cut (w.seats k).core → G
      service (serving rest is distinct blocks) = gives.serves k (record { linked = linked; serving = subst IsServing (sym is) tt })
      service (served waits blocks) = moves (inl (ended_more w.sides.stage (IsDue w.sides k) (w.seats k).answers blocks))
      service (lost cut idle blocks) = moves (more_or (w.seats k).answers (w.seats k).cut cut)

      at : (commands : List Command) (x : Awaited) → (w.seats k).commands ≡ commands → x ≢ Nothing → Talks w.sides.stage w.sides.at k (IsDue w.sides k) commands x (w.seats k).answers (w.seats k).cut (w.seats k).core → G
      at [] Nothing e some t = absurd (some refl)
      at [] ForFirst e some t = moves (answered_more (MayJoin w.sides.at k) (w.seats k).answers (w.seats k).cut (w.seats k).core t)
      at [] ForEnd e some t = service t
      at [] ForStage e some t = moves (answered_more (IsNext w.sides.stage w.sides.at) (w.seats k).answers (w.seats k).cut (w.seats k).core t)
      at (x ∷ more) y e some t = asked (λ none. cc) t.1 (asked_live w.sides.stage x y (w.seats k).cut (w.seats k).core t.2)

  connected_end : (k : ℕ) → (w.seats k).awaits ≡ ForEnd → (w.seats k).connected ≡ true
  connected_end k e = connected_of w r k (λ f. cc (e, ap (λ s. s.awaits) f))

  -- then each block of the stage was taken, once task 0 took its END
  block_taken : IsLevel w.sides → ((k : ℕ) → (w.seats k).awaits ≢ ForEnd) → NoneFree w.sides → (b : ℕ) → b < w.sides.size w.sides.stage → (o : Owner) → w.sides.owner b ≡ o → w.sides.taken b ≡ true
  block_taken level none free b below o owner = at o owner (subst (λ x. IsTaken x (w.sides.taken b)) owner (r.sides.blocks level b below))
    where
      awaited : (k : ℕ) → Belongs k (w.sides.owner b) → w.sides.taken b ≡ true
      awaited k own = taken (((r.seats k).covered level).awaited b below own)
        where
          taken : (w.sides.taken b ≡ true) ⊎ IsAwaited (w.seats k) b → w.sides.taken b ≡ true
          taken (inl h) = h
          taken (inr h) = absurd (none k (awaits_of (w.seats k) b h))

      at : (x : Owner) → w.sides.owner b ≡ x → IsTaken x (w.sides.taken b) → w.sides.taken b ≡ true
      at Free e t = absurd (free b below e)
      at (Claimed k) e t = awaited k (subst (Belongs k) (sym e) refl)
      at (Sent k) e t = awaited k (subst (Belongs k) (sym e) refl)
      at Kept e t = t

  all_or : AllTaken w.sides ⊎ (AllTaken w.sides → ⊥)
  all_or = at (find_below (λ b. w.sides.taken b ≡ false) (λ b. is_false (w.sides.taken b)) (w.sides.size w.sides.stage))
    where
      is_false : (b : Bool) → (b ≡ false) ⊎ (b ≡ false → ⊥)
      is_false true = inr (λ e. cc)
      is_false false = inl refl

      at : ((b : ℕ) × (b < w.sides.size w.sides.stage) × (w.sides.taken b ≡ false)) ⊎ ((b : ℕ) → b < w.sides.size w.sides.stage → w.sides.taken b ≡ false → ⊥) → AllTaken w.sides ⊎ (AllTaken w.sides → ⊥)
      at (inl h) = inr (λ all. cc (all h.0 h.1, h.2))
      at (inr none) = inl (λ b small. true_from_ne_false (w.sides.taken b) (none b small))

  -- TASK 0 AWAITS NOTHING, and nobody awaits an END: the stage is acknowledged, or asked for.
  asks : w.sides.met ≡ true → IsLinked w 0 → (w.seats 0).awaits ≡ Nothing → w.sides.stage < 4 → ((k : ℕ) → (w.seats k).awaits ≢ ForEnd) → G
  asks met linked nothing below none = at all_or (cases_Bool (w.seats 0).ended) r.sides.at
    where
      joined : (w.sides.joined ≡ true) ⊎ (w.sides.joined ≡ false) → w.sides.joined ≡ true
      joined (inl h) = h
      joined (inr h) = cc (nothing, (r.seats 0).may.joins refl h linked.connected)

      begun : 0 < w.sides.stage
      begun = r.sides.joined (joined (cases_Bool w.sides.joined))

      at : AllTaken w.sides ⊎ (AllTaken w.sides → ⊥) → ((w.seats 0).ended ≡ true) ⊎ ((w.seats 0).ended ≡ false) → IsAt w.sides.at w.sides.stage w.sides.acknowledged → G
      at (inl all) ended place = gives.acknowledges (record { linked = linked; begun = begun; stage = below; awaits = nothing; all = all; nobody = none })
      at (inr left) ended (inr ahead) = absurd (left (r.sides.acknowledged ahead.1))
      at (inr left) (inl ended) (inl level) = absurd (left (λ b small. block_taken (met, level) none ((r.seats 0).ended (met, level) (inl ended)) b small (w.sides.owner b) refl))
      at (inr left) (inr never) (inl level) = gives.executes 0 (record { linked = linked; begun = begun; stage = below; awaits = nothing; ended = never; left = left })

  met_moves : w.sides.met ≡ true → G
  met_moves met = at (cases_awaits (w.seats 0).awaits)
    where
      linked : IsLinked w 0
      linked = record { task = r.sides.tasks; connected = (r.seats 0).may.meets refl met }

      nobody : ((k : ℕ) → k < w.sides.tasks → (w.seats k).awaits ≡ ForEnd → ⊥) → (k : ℕ) → (w.seats k).awaits ≢ ForEnd
      nobody none k e = none k ((r.seats k).may.task (connected_end k e)) e

      by_stage : (w.seats 0).awaits ≡ Nothing → (w.sides.stage < 4) ⊎ (w.sides.stage ≡ 4) → G
      by_stage nothing (inr done) = gives.completes (record { stage = done; awaits = nothing })
      by_stage nothing (inl below) = search (find_below (λ k. (w.seats k).awaits ≡ ForEnd) (λ k. cases_end (w.seats k).awaits) w.sides.tasks)
        where
          search : ((k : ℕ) × (k < w.sides.tasks) × ((w.seats k).awaits ≡ ForEnd)) ⊎ ((k : ℕ) → k < w.sides.tasks → (w.seats k).awaits ≡ ForEnd → ⊥) → G
          search (inl h) = busy h.0 (inl below) (connected_end h.0 h.2) (λ n. cc (n, h.2))
          search (inr none) = asks met linked nothing below (nobody none)

      at : ((w.seats 0).awaits ≡ Nothing) ⊎ ((w.seats 0).awaits ≢ Nothing) → G
      at (inl nothing) = by_stage nothing (below_four w.sides.stage r.sides.stage)
      at (inr awaits) = busy 0 (inr refl) linked.connected awaits

  apart_moves : w.sides.met ≡ false → (w.sides.joined ≡ false) × (w.sides.stage < 4) → G
  apart_moves met apart = at (cases_Bool (w.seats 0).connected)
    where
      at : ((w.seats 0).connected ≡ true) ⊎ ((w.seats 0).connected ≡ false) → G
      at (inl c) = busy 0 (inr refl) c (λ n. cc (n, (r.seats 0).may.joins refl apart.0 c))
      at (inr absent) = gives.connects 0 (record { task = r.sides.tasks; stage = apart.1; absent = absent; first = inl refl })

  pub applies : (w.sides.met ≡ true) ⊎ (w.sides.met ≡ false) → G
  applies (inl met) = met_moves met
  applies (inr met) = apart_moves met (r.sides.apart met)

pub never_stuck : (w : World) → Rule w → IsStuck w → ⊥
never_stuck w r stuck = applies ⊥ w r stuck (cases_Bool w.sides.met)

-- What connections of earlier incarnations bring about keeps the rule.
use Rattle.std.proofs.Common.{◌≡◌, ◌≢◌, ℕ, true, false, [], inl, inr, ◌⊎◌}
use Rattle.std.proofs.lemmas.Bool.{cases_eq}
use Rattle.clone_rounds.specs.World.{ForFirst, Owner, World}
use Rattle.clone_rounds.specs.Awaiting.{MayJoin, TalkOf, IsAt, SeatRule, SidesRule, Rule}
use Rattle.clone_rounds.proofs.Talks.{talks_any}
use Rattle.clone_rounds.proofs.Fitting.{present_of}

module _ (w : World) (at : ℕ) (owner : ℕ → Owner) (late : ℕ) (r : Rule w) (apart : w.sides.met ≡ false) where
  apart_seat : (k : ℕ) → SeatRule (record w.sides { at = at; owner = owner }) k (w.seats k)
  apart_seat k = record {
    may = own.may;
    absent = own.absent;
    talk = λ e. talk e;
    unheard = own.unheard;
    unmet = own.unmet;
    covered = λ l. cc (apart, l.0);
    ended = λ l. cc (apart, l.0);
  }
    where
      own : SeatRule w.sides k (w.seats k)
      own = r.seats k

      -- a task that is connected awaits the answer to its first command
      first : (w.seats k).connected ≡ true → (w.seats k).awaits ≢ ForFirst → ⊥
      first c more = cc (apart, (present_of w r k c more).0)

      talk : (w.seats k).connected ≡ true → TalkOf (record w.sides { at = at; owner = owner }) k (w.seats k)
      talk c = talks_any w.sides (record w.sides { at = at; owner = owner }) k (w.seats k) (λ e. first c (λ f. cc (e, f))) (λ e. first c (λ f. cc (e, f))) (silent (cases_eq k 0)) (own.talk c)
        where
          silent : (k ≡ 0) ⊎ (k ≢ 0) → ((x : ℕ) → MayJoin w.sides.at k x → MayJoin at k x) ⊎ ((w.seats k).answers ≡ [])
          silent (inl h) = inr (own.unheard h apart)
          silent (inr h) = inl (λ x g zero_is. absurd (h zero_is))

  apart_sides : IsAt at w.sides.stage w.sides.acknowledged → SidesRule (record w.sides { at = at; owner = owner })
  apart_sides step = record { tasks = r.sides.tasks; stage = r.sides.stage; acknowledged = r.sides.acknowledged; opening = r.sides.opening; at = step; apart = r.sides.apart; session = λ h. cc (apart, h); joined = r.sides.joined; blocks = λ l. cc (apart, l.0); next = λ h. cc (apart, h) }

  pub keep_late : IsAt at w.sides.stage w.sides.acknowledged → Rule (record w { late = late; sides = record w.sides { at = at; owner = owner } })
  keep_late step = record { sides = apart_sides step; seats = apart_seat }

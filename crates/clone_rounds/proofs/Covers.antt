-- The blocks of a task stay covered.
use Rattle.std.proofs.Common.{◌≡◌, ◌≢◌, ◌<◌, ℕ, Bool, true, inl, inr, ◌⊎◌}
use Rattle.clone_rounds.specs.World.{ForEnd, Owner, Claimed, Seat}
use Rattle.clone_rounds.specs.Awaiting.{Has, rest_of, IsAwaited, unsent, unread, missed, Belongs, IsCovered}

pub awaits_of : (s : Seat) (b : ℕ) → IsAwaited s b → s.awaits ≡ ForEnd
awaits_of s b (unsent e h) = e
awaits_of s b (unread e h) = e
awaits_of s b (missed e c h) = e

-- the blocks that belong to the task did so before, what was taken stays so, and what was awaited is
-- taken or awaited
pub covers : (size : ℕ) (t u : ℕ → Bool) (o p : ℕ → Owner) (k : ℕ) (old new : Seat) → IsCovered size t o k old → ((b : ℕ) → b < size → Belongs k (p b) → Belongs k (o b) ⊎ IsAwaited new b) → ((b : ℕ) → t b ≡ true → u b ≡ true) → ((b : ℕ) → IsAwaited old b → (u b ≡ true) ⊎ IsAwaited new b) → ((b : ℕ) → Has b (rest_of new.core) → (b < size) × (p b ≡ Claimed k)) → IsCovered size u p k new
covers size t u o p k old new c owned taken awaited rest = record { awaited = λ b small own. at b small (owned b small own); rest = rest }
  where
    held : (b : ℕ) → (t b ≡ true) ⊎ IsAwaited old b → (u b ≡ true) ⊎ IsAwaited new b
    held b (inl h) = inl (taken b h)
    held b (inr h) = awaited b h

    at : (b : ℕ) → b < size → Belongs k (o b) ⊎ IsAwaited new b → (u b ≡ true) ⊎ IsAwaited new b
    at b small (inl own) = held b (c.awaited b small own)
    at b small (inr h) = inr h

-- where the seat alone has changed, and no more is to be sent
pub covers_seat : (size : ℕ) (t : ℕ → Bool) (o : ℕ → Owner) (k : ℕ) (old new : Seat) → IsCovered size t o k old → ((b : ℕ) → IsAwaited old b → IsAwaited new b) → ((b : ℕ) → Has b (rest_of new.core) → Has b (rest_of old.core)) → IsCovered size t o k new
covers_seat size t o k old new c awaited rest = covers size t t o o k old new c (λ b small own. inl own) (λ b h. h) (λ b h. inr (awaited b h)) (λ b has. c.rest b (rest b has))

-- a task that awaits no END has taken its blocks, whatever becomes of its seat
pub covers_none : (size : ℕ) (t : ℕ → Bool) (o : ℕ → Owner) (k : ℕ) (old new : Seat) → IsCovered size t o k old → old.awaits ≢ ForEnd → ((b : ℕ) → Has b (rest_of new.core) → ⊥) → IsCovered size t o k new
covers_none size t o k old new c never none = covers_seat size t o k old new c (λ b h. absurd (never (awaits_of old b h))) (λ b has. absurd (none b has))

-- no block belongs to a task
pub covers_unowned : (size : ℕ) (t : ℕ → Bool) (o : ℕ → Owner) (k : ℕ) (new : Seat) → ((b : ℕ) → Belongs k (o b) → ⊥) → ((b : ℕ) → Has b (rest_of new.core) → ⊥) → IsCovered size t o k new
covers_unowned size t o k new never none = record { awaited = λ b small own. absurd (never b own); rest = λ b has. absurd (none b has) }

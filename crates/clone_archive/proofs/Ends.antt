-- Where archiving ends: the archived LSN isn't past it, and the ring has what is left up to there.
use Rattle.std.proofs.Common.{ℕ, ◌<◌, ◌≤◌, Option, None, Some, refl, ap, cond, arith}
use Rattle.std.specs.Prelude.{unwrap_or}
use Rattle.std.specs.Option.{ForSome}
use Rattle.std.proofs.lemmas.Bool.{lt-ltb}
use Rattle.clone_ring.specs.Window.{Window, end_of}
use Rattle.clone_archive.specs.Archived.{Archived, archived_of, until, unless_reached, kept_from, IsArchived}

-- the ring has the bytes from an LSN on, if they are needed
abbrev pub Keeps : Option ℕ → Window → Type 0
Keeps from ring = ForSome from (λ lsn. (ring.floor ≤ lsn) × (lsn ≤ end_of ring))

-- the archived LSN isn't past the end
archived_before_end : (stop : Option ℕ) (archived : ℕ) (ring : Window) → ForSome stop (λ e. archived ≤ e) → Keeps (unless_reached stop archived) ring
    → archived ≤ unwrap_or stop (end_of ring)
archived_before_end None archived ring before kept = (kept archived refl).1
archived_before_end (Some e) archived ring before kept = before e refl

-- where bytes are left, the ring has the next one
ring_has_next : (stop : Option ℕ) (archived : ℕ) (ring : Window) → Keeps (unless_reached stop archived) ring → archived < unwrap_or stop (end_of ring)
    → ring.floor ≤ archived
ring_has_next None archived ring kept left = (kept archived refl).0
ring_has_next (Some e) archived ring kept left = (kept archived (ap (λ b. cond b (Some archived) None) (lt-ltb archived e left))).0

-- archiving ends in the ring
end_in_ring : (stop : Option ℕ) (end : ℕ) → ForSome stop (λ e. e ≤ end) → unwrap_or stop end ≤ end
end_in_ring None end within = omega arith
end_in_ring (Some e) end within = within e refl

-- where the archived LSN, the end of archiving and the ring lie to each other
pub record LieInOrder (a : Archived) (ring : Window) : Type 0 where
  pub before : archived_of a ≤ until a (end_of ring)
  pub has_next : archived_of a < until a (end_of ring) → ring.floor ≤ archived_of a
  pub in_ring : until a (end_of ring) ≤ end_of ring

pub in_order : (a : Archived) (ring : Window) → IsArchived a → Keeps (kept_from (Some a)) ring → ForSome a.stop (λ e. e ≤ end_of ring) → LieInOrder a ring
in_order a ring sound kept within = record {
  before = archived_before_end a.stop (archived_of a) ring sound.before_end kept;
  has_next = ring_has_next a.stop (archived_of a) ring kept;
  in_ring = end_in_ring a.stop (end_of ring) within;
}

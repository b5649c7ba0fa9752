-- How large a donor's pool and its ring may be, and how large they are where nothing else is said.
use Rattle.std.specs.Prelude.{ℕ, ◌≤◌}
use Rattle.clone_model.specs.declared.config.TheConstants.{LEAST_POOL, MOST_POOL, USUAL_POOL, LEAST_RING, MOST_RING, USUAL_RING}
use Rattle.clone_model.specs.declared.config.Config.{Config}

-- so many frames may a pool have
abbrev pub IsPoolSize : ℕ → Type 0
IsPoolSize frames = (LEAST_POOL ≤ frames) × (frames ≤ MOST_POOL)

-- so many bytes may a ring have
abbrev pub IsRingSize : ℕ → Type 0
IsRingSize bytes = (LEAST_RING ≤ bytes) × (bytes ≤ MOST_RING)

abbrev pub IsConfig : Config → Type 0
IsConfig config = IsPoolSize config.pool × IsRingSize config.ring

abbrev pub usual : Config
usual = record { pool = USUAL_POOL; ring = USUAL_RING }

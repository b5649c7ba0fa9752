-- The desk, where the connections that tasks make wait to be served.
use Rattle.std.specs.Prelude.{ℕ, suc, ◌≡◌, ◌==◌, ◌&&◌, Bool, true, false, List, [], ◌∷◌, ◌++◌}
use Rattle.std.specs.Prelude.{length, flat_map, if◌then◌else◌, cond, ⊤}

-- a connection: the task that made it, and whether its donor's end waits to be handed out
pub record Waiting : Type 0 where
  pub task : ℕ
  pub waits : Bool

pub data DeskAct : Type 0 where
  Pairs : (task place : ℕ) → DeskAct
  HandsOut : (task place : ℕ) → DeskAct
  Other : DeskAct

abbrev pub waits_for : ℕ → Waiting → Bool
waits_for task r = (r.task == task) && r.waits

-- the least place at which an end waits for the task, and it waits no more
abbrev pub IsLeast : ℕ → List Waiting → ℕ → List Waiting → Type 0
IsLeast task [] place after = ⊥
IsLeast task (r ∷ rs) place after =
    cond (waits_for task r) ((place ≡ 0) × (after ≡ record r { waits = false } ∷ rs))
    ((p : ℕ) × (us : List Waiting) × (place ≡ suc p) × (after ≡ r ∷ us) × IsLeast task rs p us)

-- A CONNECTION is put behind all others when a task makes it, and is never removed.
abbrev pub DeskDoes : List Waiting → DeskAct → List Waiting → Type 0
DeskDoes rs (Pairs task place) after =
    (place ≡ length rs) × (after ≡ rs ++ record { task = task; waits = true } ∷ [])
DeskDoes rs (HandsOut task place) after = IsLeast task rs place after
DeskDoes rs Other after = after ≡ rs

abbrev pub DeskRuns : List Waiting → List DeskAct → Type 0
DeskRuns rs [] = ⊤
DeskRuns rs (a ∷ acts) = (after : List Waiting) × DeskDoes rs a after × DeskRuns after acts

-- the place that an act hands out to the task
abbrev pub handed_by : ℕ → DeskAct → List ℕ
handed_by task (Pairs t place) = []
handed_by task (HandsOut t place) = if t == task then place ∷ [] else []
handed_by task Other = []

-- the place of the connection that the task makes by it
abbrev pub paired_by : ℕ → DeskAct → List ℕ
paired_by task (Pairs t place) = if t == task then place ∷ [] else []
paired_by task (HandsOut t place) = []
paired_by task Other = []

-- the places that were handed out to the task, in their order
abbrev pub handed : ℕ → List DeskAct → List ℕ
handed task acts = flat_map (handed_by task) acts

-- the places of the connections that the task made, in their order
abbrev pub paired : ℕ → List DeskAct → List ℕ
paired task acts = flat_map (paired_by task) acts

-- of numbers that ascend as they are
abbrev pub itself : ℕ → ℕ
itself place = place

-- The runs of cells that were closed by the whole share, as those of a clone.
use Rattle.std.proofs.Common.{◌≡◌, List, [], ◌∷◌, ◌++◌, Bool, refl, subst, flat_map}
use Rattle.std.specs.List.{AllByRecursion}
use Rattle.clone_turn.specs.declared.view.Entry.{Entry}
use Rattle.clone_turn.specs.Runs.{IsLegalRun, calls, end_of}
use Rattle.clone_turn.specs.Seats.{ClosesAt, SeatModel}
use Rattle.clone_turn.specs.Parts.{IsMadeOf}
use Rattle.clone_turn.specs.Worked.{Makes}
use Rattle.clone_turn.specs.Shares.{ShareAll}
use Rattle.clone_turn.specs.Joined.{Joins, parts_of}
use Rattle.clone_turn.proofs.JoinedSeatLemmas.{joined_run, joins_parts}
use Rattle.clone_runs.specs.Marks.{NoneIn, either}
use Rattle.clone_runs.specs.Keeping.{Keeps}
use Rattle.clone_runs.specs.Clones.{IsFetchedBy, IsServedBy, Reading, Task, answered_of, stepped_of}
use Rattle.clone_runs.proofs.KeepingLemmas.{kept_run}

module _ {S C A : Type 0} (steps : S → C → A → S → Type 0) (first state : S) (v t u : SeatModel S C A) (ws : List (SeatModel S C A)) (last : List (Entry S C A))
    (joins : Joins v ws t) (all : ShareAll (v ∷ ws)) (more : Makes t last u) (closed : ClosesAt steps first u state) where
  -- the run ends at the state
  abbrev IsRun : List (Entry S C A) → Type 0
  IsRun run = IsLegalRun steps first run × (state ≡ end_of first run)

  is_run : IsRun (calls t.seen ++ last)
  is_run = joined_run steps first v ws t u last state joins all more closed

  made_of : (parts : List (List (Entry S C A))) → parts_of ws ≡ parts → IsMadeOf (calls v.seen ∷ parts) (calls t.seen)
  made_of parts are = subst (λ ps. IsMadeOf (calls v.seen ∷ ps) (calls t.seen)) are (joins_parts v ws t joins)

  pub served : {F G K X : Type 0} (r : Reading (Entry S C A) F G K X) (tasks : List (Task (Entry S C A) F K X)) (asides : List (List (Entry S C A)))
      → parts_of ws ≡ answered_of tasks ++ asides → NoneIn (either r.opens r.leaves) (calls v.seen) → AllByRecursion (NoneIn (either r.opens r.leaves)) asides → NoneIn r.opens last
      → (run : List (Entry S C A)) × IsRun run × IsServedBy r tasks run
  served r tasks asides are own others end = (
    calls t.seen ++ last,
    is_run,
    record { joined = calls t.seen; last = last; own = calls v.seen; asides = asides; is = refl; parts = made_of _ are; quiet = (own, others); end = end },
  )

  pub fetched : {E G K X : Type 0} (r : Reading E (Entry S C A) G K X) (tasks : List (Task E (Entry S C A) K X)) (has_left : S → Bool)
      → parts_of ws ≡ stepped_of tasks → flat_map r.takes (calls v.seen) ≡ [] → flat_map r.takes last ≡ [] → Keeps steps r.puts r.inits r.exits has_left
      → (run : List (Entry S C A)) × IsRun run × IsFetchedBy r tasks run
  fetched r tasks has_left are own end keeps = (
    calls t.seen ++ last,
    is_run,
    record { joined = calls t.seen; last = last; own = calls v.seen; is = refl; parts = made_of _ are; quiet = (own, end); once = kept_run steps r.puts r.inits r.exits has_left keeps first (calls t.seen ++ last) is_run.0 },
  )

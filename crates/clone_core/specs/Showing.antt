-- What comes of reading the rows of a recipient's disk.
use Rattle.std.specs.Prelude.{◌≡◌, [], ◌∷◌, List, Vec, Result, Ok, Err}
use Rattle.std.specs.declared.alloc.Global.{Global}
use Rattle.clone_model.specs.History.{Row, Rows, rows_in}
use Rattle.clone_recover.specs.declared.refusal.RecoverRefusal.{RecoverRefusal}
use Rattle.clone_recover.specs.declared.refusal.RecoverRefusal.TheVariants.{Incomplete, Damaged, DiskFault, NoMemory}
use Rattle.clone_events.specs.Events.{showed, incomplete, hidden, damaged}
use Rattle.clone_dump.specs.Shown.{why_text}
use Rattle.clone_core.specs.Lines.{State, Happens}
use Rattle.clone_core.specs.Called.{StaysUntold}

-- these rows are shown
pub record ShowsList (s : State) (list : List Row) (t : State) : Type 0 where
  pub rows : Rows
  pub is : list ≡ rows_in rows
  pub happened : Happens s (showed rows) t

-- rows, by what came of reading them
abbrev pub Reads : State → Result (Vec Row Global) RecoverRefusal → State → Type 0
Reads s (Ok list) t = ShowsList s list.items t
Reads s (Err Incomplete) t = Happens s incomplete t
Reads s (Err (Damaged space page why)) t =
    Happens s (damaged space page (why_text why)) t
Reads s (Err DiskFault) t = Happens s hidden t
Reads s (Err NoMemory) t = StaysUntold s (hidden ∷ []) t

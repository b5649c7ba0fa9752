-- What reading a script answers, and what reading a text of it answers.
use Rattle.std.specs.Prelude.{ℕ, ◌≡◌, List, Option, Some, IfSome, Result, Ok, Err, Bool, true, false, ⊤}
use Rattle.clone_script.specs.Lines.{line_text, IsInRange}
use Rattle.clone_script.specs.declared.lines.Line.{Line}
use Rattle.clone_script.specs.declared.lines.Line.TheVariants.{Create, Drop, Begin, Put, Delete, Get, Undo, Commit, Set, Clean, Checkpoint, Lsn, Start, Advance, Finish, Look, Status, Abandon, Task, Serve, Cut, Raw, Feed, Follow, Lose, Repeat, Replica, Clone, Rows}
use Rattle.clone_script.specs.Given.{Given}
use Rattle.clone_script.specs.Script.{IsScript, IsFirstBad, IsHeadInRange, Gives, GivesSize}
use Rattle.clone_script.specs.declared.head.HeadLine.{HeadLine}
use Rattle.clone_script.specs.declared.head.HeadLine.TheVariants.{Pool, Ring}
use Rattle.clone_script.specs.declared.read.Script.{Script}
use Rattle.clone_script.specs.declared.read.ReadRefusal.{ReadRefusal}
use Rattle.clone_script.specs.declared.read.ReadRefusal.TheVariants.{BadLine, NoMemory}

-- the script, or the number of its first bad line. Want of memory is free.
abbrev pub Reads : List ℕ → Result Script ReadRefusal → Type 0
Reads bytes (Ok script) = IsScript bytes script.config script.terms script.lines.items
Reads bytes (Err (BadLine number)) = IsFirstBad bytes number
Reads bytes (Err NoMemory) = ⊤

-- whether a text gives something behind others
abbrev pub Takes : Given → List ℕ → Given → Bool → Type 0
Takes before text after true = Gives before text after
Takes before text after false = (next : Given) → Gives before text next → ⊥

-- whether a head line may stand behind others
abbrev pub TakesSize : Given → HeadLine → Given → Bool → Type 0
TakesSize before h after true = GivesSize before h after
TakesSize before h after false = (next : Given) → GivesSize before h next → ⊥

-- what reading a text answers: something in its ranges that has this text, and nothing else is so
pub record Parses {X : Type 0} (InRange : X → Type 0) (text_of : X → List ℕ) (text : List ℕ)
    (result : Option X) : Type 0 where
  pub some : IfSome result (λ x. InRange x × (text ≡ text_of x))
  pub only : (x : X) → InRange x → text ≡ text_of x → result ≡ Some x

-- the same of a line
abbrev pub ParsesLine : List ℕ → Option Line → Type 0
ParsesLine text result = Parses IsInRange line_text text result

-- a line of the disk, of the log or of a clone, or one without fields
abbrev pub IsOfDisk : Line → Type 0
IsOfDisk (Create table buckets) = ⊥
IsOfDisk (Drop table) = ⊥
IsOfDisk (Begin writer) = ⊥
IsOfDisk (Put trx table key value) = ⊥
IsOfDisk (Delete trx table key) = ⊥
IsOfDisk (Get trx table key) = ⊥
IsOfDisk (Undo trx) = ⊥
IsOfDisk (Commit trx) = ⊥
IsOfDisk (Set writer table key value) = ⊥
IsOfDisk l = IsInRange l

-- a head line of the clone
abbrev pub IsOfClone : HeadLine → Type 0
IsOfClone (Pool frames) = ⊥
IsOfClone (Ring bytes) = ⊥
IsOfClone h = IsHeadInRange h

-- one of these lines without fields
abbrev pub IsBare : Line → Type 0
IsBare Clean = Unit {0}
IsBare Checkpoint = Unit {0}
IsBare Lsn = Unit {0}
IsBare Start = Unit {0}
IsBare Advance = Unit {0}
IsBare Finish = Unit {0}
IsBare Look = Unit {0}
IsBare Status = Unit {0}
IsBare Abandon = Unit {0}
IsBare Clone = Unit {0}
IsBare Rows = Unit {0}
IsBare l = ⊥

-- a line of a follower, or another one without fields
abbrev pub IsOfFollower : Line → Type 0
IsOfFollower (Repeat sent) = IsInRange (Repeat sent)
IsOfFollower Follow = Unit {0}
IsOfFollower Lose = Unit {0}
IsOfFollower Replica = Unit {0}
IsOfFollower l = IsBare l

-- a line of a connection, or that of a follower, or one without fields
abbrev pub IsOfConnection : Line → Type 0
IsOfConnection (Task task) = IsInRange (Task task)
IsOfConnection (Serve connection) = IsInRange (Serve connection)
IsOfConnection (Cut connection to_donor to_task) = IsInRange (Cut connection to_donor to_task)
IsOfConnection (Raw bytes) = IsInRange (Raw bytes)
IsOfConnection (Feed connection bytes) = IsInRange (Feed connection bytes)
IsOfConnection l = IsOfFollower l

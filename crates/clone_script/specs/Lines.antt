-- The lines of a script. Each line has exactly one text.
use Rattle.std.specs.Prelude.{ℕ, ◌<◌, ◌≤◌, ◌^◌, List, ◌++◌, length, codes}
use Rattle.std.specs.Fmt.{decimal}
use Rattle.clone_model.specs.Texts.{value_text}
use Rattle.clone_model.specs.Ranges.{IsTable, IsPageName, IsCall, IsScriptValue}
use Rattle.clone_base.specs.declared.limits.TheConstants.{MOST_TASKS}
use Rattle.clone_model.specs.Reading.{IsValue}
use Rattle.clone_model.specs.declared.line.TheConstants.{MOST_BUCKETS}
use Rattle.clone_script.specs.declared.lines.Line.{Line}
use Rattle.clone_script.specs.declared.lines.Line.TheVariants.{Create, Drop, Begin, Put, Delete, Get, Undo, Commit, Set, Flush, Half, Land, Clean, Checkpoint, Lsn, Tear, FailDonor, FailRecipient, Start, Task, Serve, Cut, Status, Raw, Feed, Abandon, Advance, Finish, Look, Archive, Follow, Lose, Repeat, Replica, Clone, Rows}

abbrev pub line_text : Line → List ℕ
line_text (Create table buckets) = codes "create " ++ decimal table ++ codes " " ++ decimal buckets
line_text (Drop table) = codes "drop " ++ decimal table
line_text (Begin writer) = codes "begin " ++ decimal writer
line_text (Put trx table key value) =
    codes "put " ++ decimal trx ++ codes " " ++ decimal table ++ codes " " ++ decimal key
    ++ codes " " ++ value_text value
line_text (Delete trx table key) =
    codes "del " ++ decimal trx ++ codes " " ++ decimal table ++ codes " " ++ decimal key
line_text (Get trx table key) =
    codes "get " ++ decimal trx ++ codes " " ++ decimal table ++ codes " " ++ decimal key
line_text (Undo trx) = codes "undo " ++ decimal trx
line_text (Commit trx) = codes "commit " ++ decimal trx
line_text (Set writer table key value) =
    codes "set " ++ decimal writer ++ codes " " ++ decimal table ++ codes " " ++ decimal key
    ++ codes " " ++ value_text value
line_text (Flush space page) = codes "flush " ++ decimal space ++ codes " " ++ decimal page
line_text (Half space page) = codes "half " ++ decimal space ++ codes " " ++ decimal page
line_text (Land space page) = codes "land " ++ decimal space ++ codes " " ++ decimal page
line_text Clean = codes "clean"
line_text Checkpoint = codes "checkpoint"
line_text Lsn = codes "lsn"
line_text (Tear byte) = codes "tear " ++ decimal byte
line_text (FailDonor call) = codes "fail donor " ++ decimal call
line_text (FailRecipient call) = codes "fail recipient " ++ decimal call
line_text Start = codes "start"
line_text (Task task) = codes "task " ++ decimal task
line_text (Serve connection) = codes "serve " ++ decimal connection
line_text (Cut connection to_donor to_task) =
    codes "cut " ++ decimal connection ++ codes " " ++ decimal to_donor ++ codes " "
    ++ decimal to_task
line_text Status = codes "status"
line_text (Raw bytes) = codes "raw " ++ value_text bytes
line_text (Feed connection bytes) =
    codes "feed " ++ decimal connection ++ codes " " ++ value_text bytes
line_text Abandon = codes "abandon"
line_text Advance = codes "advance"
line_text Finish = codes "finish"
line_text Look = codes "look"
line_text (Archive bytes) = codes "archive " ++ decimal bytes
line_text Follow = codes "follow"
line_text Lose = codes "lose"
line_text (Repeat sent) = codes "repeat " ++ decimal sent
line_text Replica = codes "replica"
line_text Clone = codes "clone"
line_text Rows = codes "rows"

-- one byte at least, and no more than a row's value has
abbrev pub AreSomeBytes : List ℕ → Type 0
AreSomeBytes bytes = (1 ≤ length bytes) × IsValue bytes

-- each number of the line is in its range, and so is its value
abbrev pub IsInRange : Line → Type 0
IsInRange (Create table buckets) = IsTable table × (1 ≤ buckets) × (buckets ≤ MOST_BUCKETS)
IsInRange (Drop table) = IsTable table
IsInRange (Begin writer) = writer < 2 ^ 32
IsInRange (Put trx table key value) =
    (trx < 2 ^ 32) × IsTable table × (key < 2 ^ 64) × IsScriptValue value
IsInRange (Delete trx table key) = (trx < 2 ^ 32) × IsTable table × (key < 2 ^ 64)
IsInRange (Get trx table key) = (trx < 2 ^ 32) × IsTable table × (key < 2 ^ 64)
IsInRange (Undo trx) = trx < 2 ^ 32
IsInRange (Commit trx) = trx < 2 ^ 32
IsInRange (Set writer table key value) =
    (writer < 2 ^ 32) × IsTable table × (key < 2 ^ 64) × IsScriptValue value
IsInRange (Flush space page) = IsPageName space page
IsInRange (Half space page) = IsPageName space page
IsInRange (Land space page) = IsPageName space page
IsInRange Clean = Unit {0}
IsInRange Checkpoint = Unit {0}
IsInRange Lsn = Unit {0}
IsInRange (Tear byte) = byte < 256
IsInRange (FailDonor call) = IsCall call
IsInRange (FailRecipient call) = IsCall call
IsInRange Start = Unit {0}
IsInRange (Task task) = task < MOST_TASKS
IsInRange (Serve connection) = connection < 2 ^ 32
IsInRange (Cut connection to_donor to_task) =
    (connection < 2 ^ 32) × (to_donor < 2 ^ 32) × (to_task < 2 ^ 32)
IsInRange Status = Unit {0}
IsInRange (Raw bytes) = AreSomeBytes bytes
IsInRange (Feed connection bytes) = (connection < 2 ^ 32) × AreSomeBytes bytes
IsInRange Abandon = Unit {0}
IsInRange Advance = Unit {0}
IsInRange Finish = Unit {0}
IsInRange Look = Unit {0}
IsInRange (Archive bytes) = bytes < 2 ^ 32
IsInRange Follow = Unit {0}
IsInRange Lose = Unit {0}
IsInRange (Repeat sent) = sent < 2 ^ 64
IsInRange Replica = Unit {0}
IsInRange Clone = Unit {0}
IsInRange Rows = Unit {0}

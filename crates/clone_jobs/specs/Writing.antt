-- THE WRITER: what it does in a turn.
use Rattle.std.specs.Prelude.{◌≡◌, List, [], ◌∷◌, None, Some, Result}
use Rattle.clone_plain.specs.declared.call.EngineAnswer.{EngineAnswer}
use Rattle.clone_plain.specs.declared.call.EngineCall.{EngineCall}
use Rattle.clone_plain.specs.declared.refusal.EngineRefusal.{EngineRefusal}
use Rattle.clone_writer.specs.Writers.{Writer, asked, told}
use Rattle.clone_jobs.specs.Said.{Said, engine}
use Rattle.clone_jobs.specs.Turns.{IsJob}
use Rattle.clone_jobs.specs.declared.ending.Ending.{Ending}

-- It makes the call that comes next, and goes on by the answer.
abbrev pub WriterTurn : Writer → List Said → Writer → Type 0
WriterTurn w said v =
    (call : EngineCall) × (result : Result EngineAnswer EngineRefusal) × (asked w ≡ Some call)
    × (said ≡ engine call result ∷ []) × (v ≡ told w result)

-- nothing comes next
abbrev pub HasWritten : Writer → Type 0
HasWritten w = asked w ≡ None

-- ALL CALLS OF A WRITER, up to where it has come
abbrev pub Writes : Ending → Writer → List Said → Writer → Type 0
Writes end w said v = IsJob WriterTurn HasWritten end w said v

-- WHAT WRITERS HAVE COMMITTED, when their calls stand among those of others in a run.
use Rattle.std.specs.Prelude.{ℕ, ◌≡◌, ◌≢◌, ◌⊎◌, List, [], ◌∷◌, map, Result, None, Some, ⊤}
use Rattle.std.specs.declared.option.Option.{Option}
use Rattle.std.specs.List.{AllByRecursion}
use Rattle.clone_calls.specs.declared.call.DonorCall.TheVariants as asked
use Rattle.clone_plain.specs.Donor.{Donor}
use Rattle.clone_plain.specs.declared.call.EngineAnswer.{EngineAnswer}
use Rattle.clone_plain.specs.declared.call.EngineCall.{EngineCall}
use Rattle.clone_plain.specs.declared.refusal.EngineRefusal.{EngineRefusal}
use Rattle.clone_machine.specs.Running.{JobEntry}
use Rattle.clone_machine.specs.Sharing.{SharedDonor}
use Rattle.clone_machine.specs.declared.calls.JobCall.{JobCall}
use Rattle.clone_machine.specs.declared.calls.JobCall.TheVariants as call
use Rattle.clone_writer.specs.Writers as writer
use Rattle.clone_writer.specs.Writers.{Writer, told}
use Rattle.clone_writer.specs.Writing.{Agree, Leads, trx_of}
use Rattle.clone_jobs.specs.Said.{Said, engine, said_by, said_in}

-- the donor's transactions and commits
abbrev pub plain : SharedDonor → Donor
plain s = s.donor.engine.donor

-- the call of the engine, if it is one
abbrev pub engine_of : JobCall → Option EngineCall
engine_of (call.Donor (asked.Engine c)) = Some c
engine_of other = None

-- A call of the engine leads the donor's transactions and commits. Any other leaves them.
abbrev pub Moves : Said → Donor → Donor → Type 0
Moves x d t =
    ((c : EngineCall) × (result : Result EngineAnswer EngineRefusal) × (x ≡ engine c result)
    × Leads d c result t)
    ⊎ ((engine_of x.call ≡ None) × (t.active ≡ d.active) × (t.binlog ≡ d.binlog))

abbrev pub AllMove : SharedDonor → List JobEntry → Type 0
AllMove s [] = ⊤
AllMove s (e ∷ run) = Moves (said_by e) (plain s) (plain e.after) × AllMove e.after run

-- The call changes no transaction that is open, and ends none.
abbrev pub IsAside : Said → Type 0
IsAside x = (c : EngineCall) → engine_of x.call ≡ Some c → trx_of c ≡ None

-- THE CALLS OF A WRITER: each is one of these, or what comes next.
abbrev pub Follows : Writer → List Said → Writer → Type 0
Follows w [] v = v ≡ w
Follows w (x ∷ said) v =
    (IsAside x × Follows w said v)
    ⊎ ((c : EngineCall) × (result : Result EngineAnswer EngineRefusal) × (writer.asked w ≡ Some c)
    × (x ≡ engine c result) × Follows (told w result) said v)

-- The calls of one seat: those of a writer, up to where it has come, or others.
pub data Part : Type 0 where
  Written : (from to : Writer) (made : List JobEntry) → Part
  Other : (made : List JobEntry) → Part

abbrev pub made_by : Part → List JobEntry
made_by (Written w v made) = made
made_by (Other made) = made

-- they are so
abbrev pub IsPart : Part → Type 0
IsPart (Written w v made) = Follows w (said_in made) v
IsPart (Other made) = AllByRecursion (λ e. IsAside (said_by e)) made

-- no two writers have one number
abbrev pub IsApart : Part → Part → Type 0
IsApart (Written w v made) (Written x y more) = w.number ≢ x.number
IsApart p q = ⊤

abbrev pub AreApart : List Part → Type 0
AreApart [] = ⊤
AreApart (p ∷ parts) = AllByRecursion (IsApart p) parts × AreApart parts

-- the writer agrees with the donor before its calls, and after them
abbrev pub Begins : Donor → Part → Type 0
Begins d (Written w v made) = Agree w d
Begins d (Other made) = ⊤

abbrev pub Ends : Donor → Part → Type 0
Ends d (Written w v made) = Agree v d
Ends d (Other made) = ⊤

-- A CLONE BY SEVERAL THREADS: what each task did by its own seats, and what was done in all.
use Rattle.std.specs.Prelude.{ℕ, ◌≡◌, Bool, List, [], ◌∷◌, ◌++◌, map, flat_map}
use Rattle.std.specs.List.{AllByRecursion}
use Rattle.clone_turn.specs.Parts.{IsMadeOf, IsSublist}
use Rattle.clone_runs.specs.Marks.{NoneAfter, NoneIn, either}
use Rattle.clone_runs.specs.Ends.{Passed}
use Rattle.clone_runs.specs.Connections.{AreOf, WasServed, answers_of, commands_of, place_of}
use Rattle.clone_runs.specs.Desk.{DeskAct, DeskRuns, handed, paired}
use Rattle.clone_runs.specs.Carried.{Carried}

-- HOW ENTRIES ARE READ, those of the donor, of the recipient and of the desk
pub record Reading (E F G C X : Type 0) : Type 0 where
  -- of a donor's: the answers that are sent, and whether it opens the session or ends it
  pub told : E → List X
  pub opens : E → Bool
  pub leaves : E → Bool
  -- of a recipient's: the commands that it puts out, and the answers that it takes
  pub puts : F → List C
  pub takes : F → List X
  pub act : G → DeskAct
  -- whether a command is INIT, or EXIT
  pub inits : C → Bool
  pub exits : C → Bool

-- ONE TASK: the calls of its own job at the recipient, those of the job that serves it at the
-- donor, and the connections, as the task made them and as they were served
pub record Task (E F C X : Type 0) : Type 0 where
  pub stepped : List F
  pub answered : List E
  pub made : List (Passed C X)
  pub served : List (Passed C X)

module _ {E F C X : Type 0} where
  -- the calls for each task, at the donor and at the recipient
  abbrev pub answered_of : List (Task E F C X) → List (List E)
  answered_of tasks = map (λ (t : Task E F C X). t.answered) tasks

  abbrev pub stepped_of : List (Task E F C X) → List (List F)
  stepped_of tasks = map (λ (t : Task E F C X). t.stepped) tasks

module _ {E F G C X : Type 0} (r : Reading E F G C X) where
  -- WHAT PASSED over a task's connections: the commands are some that the task put out, in their
  -- order, and the answers those that it took. The commands that came at the other ends were
  -- carried out by the calls at the donor, and the answers there are some of these calls'.
  pub record IsTask (t : Task E F C X) : Type 0 where
    pub put : IsSublist (commands_of t.made) (flat_map r.puts t.stepped)
    pub took : flat_map r.takes t.stepped ≡ answers_of t.made
    pub carried : Carried r.inits r.exits r.opens r.leaves (commands_of t.served) t.answered
    pub told : IsSublist (answers_of t.served) (flat_map r.told t.answered)
    pub ends : AreOf t.served t.made
    pub heard : AllByRecursion (WasServed t.served) t.made

  -- THE FIRST TASK opens the session and ends it: the others put out neither INIT nor EXIT. Its
  -- connections were handed out by the desk, to be served, as they were made there.
  pub record IsFirst (t : Task E F C X) (others : List (Task E F C X)) (desk : List G)
      : Type 0 where
    pub number : ℕ
    pub makes : List G
    pub serves : List G
    pub runs : DeskRuns [] (map r.act desk)
    pub makes_in : IsSublist makes desk
    pub serves_in : IsSublist serves desk
    pub made : IsSublist (map place_of t.made) (paired number (map r.act makes))
    pub served : IsSublist (map place_of t.served) (handed number (map r.act serves))
    pub alone : AllByRecursion (λ (u : Task E F C X).
        NoneIn (either r.inits r.exits) (flat_map r.puts u.stepped)) others

  -- THE DONOR'S RUN is made of the calls for the tasks and of others, which neither open the
  -- session nor end it, but for some last calls, which may end it.
  pub record IsServedBy (tasks : List (Task E F C X)) (run : List E) : Type 0 where
    pub joined : List E
    pub last : List E
    pub own : List E
    pub asides : List (List E)
    pub is : run ≡ joined ++ last
    pub parts : IsMadeOf (own ∷ answered_of tasks ++ asides) joined
    pub quiet : NoneIn (either r.opens r.leaves) own
        × AllByRecursion (NoneIn (either r.opens r.leaves)) asides
    pub end : NoneIn r.opens last

  -- THE RECIPIENT'S RUN is made of the steps of its tasks and of other calls, which take no answer.
  -- No INIT is put out after an EXIT.
  pub record IsFetchedBy (tasks : List (Task E F C X)) (run : List F) : Type 0 where
    pub joined : List F
    pub last : List F
    pub own : List F
    pub is : run ≡ joined ++ last
    pub parts : IsMadeOf (own ∷ stepped_of tasks) joined
    pub quiet : (flat_map r.takes own ≡ []) × (flat_map r.takes last ≡ [])
    pub once : NoneAfter r.inits r.exits (flat_map r.puts run)

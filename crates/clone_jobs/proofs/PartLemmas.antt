-- The calls of a writer's job are those of its writer, and the calls of other jobs touch no transaction.
use Rattle.std.proofs.Common.{◌≡◌, ◌∙◌, ◌⊎◌, ◌++◌, List, [], ◌∷◌, map, true, false, refl, sym, ap, subst, inl, inr, None, Some, Option, Result, Ok, Err, OnOk, OnErr, ℕ}
use Rattle.std.specs.Prelude.{⊤}
use Rattle.std.specs.List.{AllByRecursion}
use Rattle.std.specs.Option.{option_map_or}
use Rattle.std.proofs.lemmas.List.{append_assoc}
use Rattle.std.proofs.lemmas.Option.{same_Some}
use Rattle.clone_plain.specs.declared.call.EngineAnswer.{EngineAnswer}
use Rattle.clone_plain.specs.declared.refusal.EngineRefusal.{EngineRefusal}
use Rattle.clone_plain.specs.declared.call.EngineCall.{EngineCall}
use Rattle.clone_plain.specs.declared.call.EngineCall.TheVariants as asked
use Rattle.clone_machine.specs.Running.{JobEntry}
use Rattle.clone_writer.specs.Writers.{Writer}
use Rattle.clone_writer.specs.Writing.{trx_of}
use Rattle.clone_jobs.specs.Said.{Said, asking, engine, halting, said_by, said_in}
use Rattle.clone_jobs.specs.Turns.{EndsBy, GoesOn, in_turn, in_turns}
use Rattle.clone_jobs.specs.Upkeep.{AreMade, FlushesOldest, IsUpkeep, KeepsUp, NeverDone, UpkeepTurn, flush_of, page_in}
use Rattle.clone_jobs.specs.Writing.{HasWritten, WriterTurn, Writes}
use Rattle.clone_jobs.specs.Written.{Follows, IsAside, engine_of}
use Rattle.clone_jobs.specs.declared.ending.Ending.{Ending}
use Rattle.clone_jobs.specs.declared.ending.Ending.TheVariants as ending
use Rattle.clone_jobs.specs.declared.upkeep.Upkeep.{Upkeep}
use Rattle.clone_jobs.specs.declared.upkeep.Upkeep.TheVariants as upkeep

no_call : {c : EngineCall} → ◌≡◌ {A = Option EngineCall} None (Some c) → ⊥
no_call is = cc

-- ---- a writer

one_turn : (w u v : Writer) (turn more : List Said) → WriterTurn w turn u → Follows u more v → Follows w (in_turn turn ++ more) v
one_turn w u v turn more taken later =
    subst (λ said. Follows w (in_turn said ++ more) v) (sym taken.3)
    (inl (λ c is. absurd (no_call is), inr (taken.0, taken.1, taken.2, refl, subst (λ x. Follows x more v) taken.4 later)))

all_turns : (w u v : Writer) (turns : List (List Said)) (more : List Said) → GoesOn WriterTurn w turns u → Follows u more v → Follows w (in_turns turns ++ more) v
all_turns w u v [] more go later = subst (λ x. Follows x more v) go later
all_turns w u v (turn ∷ turns) more go later =
    subst (λ said. Follows w said v) (sym (append_assoc (in_turn turn) (in_turns turns) more))
    (one_turn w go.0 v turn (in_turns turns ++ more) go.1 (all_turns go.0 u v turns more go.3 later))

last_turn : (w v : Writer) (turn : List Said) → WriterTurn w turn v → Follows w (in_turn turn ++ halting ∷ []) v
last_turn w v turn taken = one_turn w v v turn (halting ∷ []) taken (inl (λ c is. absurd (no_call is), refl))

ended : (end : Ending) (w v : Writer) (said : List Said) → EndsBy WriterTurn HasWritten end w said v → Follows w said v
ended ending.Done w v said is = subst (λ xs. Follows w xs v) (sym is.1) is.2
ended ending.Halted w v said is = subst (λ xs. Follows w xs v) (sym is.0) (inl (λ c is. absurd (no_call is), is.1))
ended ending.DiskFault w v said is = subst (λ xs. Follows w xs v) (sym is.3) (last_turn w v is.0 is.1)
ended ending.NoMemory w v said is = subst (λ xs. Follows w xs v) (sym is.2) (last_turn w v is.0 is.1)

pub follows : (end : Ending) (w v : Writer) (said : List Said) → Writes end w said v → Follows w said v
follows end w v said is =
    subst (λ xs. Follows w xs v) (sym (is.all ∙ ap (λ xs. xs ++ is.last) is.go_on.2))
    (all_turns w is.between v is.go_on.0 is.last is.go_on.1 (ended end is.between v is.last is.ends))

-- ---- other jobs

aside_more : (xs ys : List Said) → AllByRecursion IsAside xs → AllByRecursion IsAside ys → AllByRecursion IsAside (xs ++ ys)
aside_more [] ys a b = b
aside_more (x ∷ xs) ys a b = (a.0, aside_more xs ys a.1 b)

-- the call is none of a transaction
abbrev AreAside : List EngineCall → Type 0
AreAside cs = AllByRecursion (λ c. trx_of c ≡ None) cs

engine_aside : (x : Said) (c : EngineCall) → engine_of x.call ≡ Some c → trx_of c ≡ None → IsAside x
engine_aside x c is none k names = subst (λ y. trx_of y ≡ None) (same_Some c k (sym is ∙ names)) none

made_aside : (cs : List EngineCall) (said : List Said) → AreAside cs → AreMade cs said → AllByRecursion IsAside said
made_aside [] said none made = subst (AllByRecursion IsAside) (sym made) tt
made_aside (c ∷ cs) [] none made = tt
made_aside (c ∷ cs) (x ∷ said) none made = (engine_aside x c (ap (λ (y : Said). engine_of y.call) made.1) none.0, by (made_aside cs said none.1) made.0 made.2 made.3)
  where
    by : (AreMade cs said → AllByRecursion IsAside said) → (result : Result EngineAnswer EngineRefusal) → OnOk result (AreMade cs said) → OnErr result (said ≡ []) → AllByRecursion IsAside said
    by all (Ok told) ok err = all ok
    by all (Err refusal) ok err = subst (AllByRecursion IsAside) (sym err) tt

flush_aside : (page : Option (ℕ × ℕ)) → AreAside (option_map_or flush_of page [])
flush_aside None = tt
flush_aside (Some page) = (refl, (refl, (refl, tt)))

turn_aside : (work : Upkeep) (said : List Said) → KeepsUp work said → AllByRecursion IsAside said
turn_aside upkeep.Flusher said is =
    subst (AllByRecursion IsAside) (sym is.2)
    (engine_aside (engine asked.OldestDirty is.0) asked.OldestDirty refl refl, made_aside (option_map_or flush_of (page_in is.0) []) is.1 (flush_aside (page_in is.0)) is.3)
turn_aside upkeep.Checkpointer said is = made_aside (asked.Checkpoint ∷ []) said (refl, tt) is
turn_aside upkeep.Archiver said is = subst (AllByRecursion IsAside) (sym is.1) (λ c names. absurd (no_call names), tt)

question_aside : (x : Said) → engine_of x.call ≡ None → IsAside x
question_aside x is c names = absurd (no_call (sym is ∙ names))

turns_aside : (work : Upkeep) (s t : ⊤) (turns : List (List Said)) → GoesOn (UpkeepTurn work) s turns t → AllByRecursion IsAside (in_turns turns)
turns_aside work s t [] go = tt
turns_aside work s t (turn ∷ turns) go =
    aside_more (in_turn turn) (in_turns turns) (question_aside (asking false) refl, turn_aside work turn go.1) (turns_aside work go.0 t turns go.3)

last_aside : (work : Upkeep) (turn : List Said) → KeepsUp work turn → AllByRecursion IsAside (in_turn turn ++ halting ∷ [])
last_aside work turn is = aside_more (in_turn turn) (halting ∷ []) (question_aside (asking false) refl, turn_aside work turn is) (question_aside halting refl, tt)

end_aside : (work : Upkeep) (end : Ending) (s t : ⊤) (said : List Said) → EndsBy (UpkeepTurn work) NeverDone end s said t → AllByRecursion IsAside said
end_aside work ending.Done s t said is = absurd is.0
end_aside work ending.Halted s t said is = subst (AllByRecursion IsAside) (sym is.0) (question_aside (asking true) refl, tt)
end_aside work ending.DiskFault s t said is = subst (AllByRecursion IsAside) (sym is.3) (last_aside work is.0 is.1)
end_aside work ending.NoMemory s t said is = subst (AllByRecursion IsAside) (sym is.2) (last_aside work is.0 is.1)

said_aside : (work : Upkeep) (end : Ending) (said : List Said) → IsUpkeep work end said → AllByRecursion IsAside said
said_aside work end said is =
    subst (AllByRecursion IsAside) (sym (is.all ∙ ap (λ xs. xs ++ is.last) is.go_on.2))
    (aside_more (in_turns is.go_on.0) is.last (turns_aside work tt is.between is.go_on.0 is.go_on.1) (end_aside work end is.between tt is.last is.ends))

of_entries : (made : List JobEntry) → AllByRecursion IsAside (said_in made) → AllByRecursion (λ e. IsAside (said_by e)) made
of_entries [] all = tt
of_entries (e ∷ made) all = (all.0, of_entries made all.1)

pub upkeep_aside : (work : Upkeep) (end : Ending) (made : List JobEntry) → IsUpkeep work end (said_in made) → AllByRecursion (λ e. IsAside (said_by e)) made
upkeep_aside work end made is = of_entries made (said_aside work end (said_in made) is)

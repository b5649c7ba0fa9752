-- Calls that serve nothing.
use Rattle.std.proofs.Common.{◌≡◌, ◌⊎◌, ℕ, Bool, true, false, List, [], ◌∷◌, ◌++◌, inl, inr, Ok, Err, Result, OnOk, OnErr, refl, sym, ap, ◌∙◌, subst}
use Rattle.std.specs.Prelude.{⊤}
use Rattle.std.specs.List.{AllByRecursion}
use Rattle.std.specs.Option.{option_map_or}
use Rattle.std.specs.declared.alloc.AllocError.{AllocError}
use Rattle.std.specs.declared.option.Option.{Option}
use Rattle.std.proofs.lemmas.List.{append_cancel_left}
use Rattle.clone_turn.specs.Runs.{calls}
use Rattle.clone_turn.specs.Seats.{SeatModel}
use Rattle.clone_turn.specs.Worked.{Makes}
use Rattle.clone_turn.specs.declared.view.Entry.{Entry}
use Rattle.clone_turn.proofs.EachLemmas.{each_append, each_map}
use Rattle.clone_turn.proofs.WorkedLemmas.{makes_calls, makes_more}
use Rattle.clone_runs.specs.Marks.{either}
use Rattle.clone_outside.specs.declared.link.Link.{Ghosts as Link}
use Rattle.clone_session.specs.declared.caller.Caller.{Caller}
use Rattle.clone_plain.specs.declared.call.EngineAnswer.{EngineAnswer}
use Rattle.clone_plain.specs.declared.call.EngineCall.{EngineCall}
use Rattle.clone_plain.specs.declared.call.EngineCall.TheVariants as asked
use Rattle.clone_plain.specs.declared.refusal.EngineRefusal.{EngineRefusal}
use Rattle.clone_calls.specs.declared.call.DonorCall.TheVariants as donor
use Rattle.clone_copying.specs.Calls.{FetcherModel, RecipientSeat}
use Rattle.clone_copying.specs.Connecting.{DeskSeat}
use Rattle.clone_copying.specs.Watching.{AreLooks}
use Rattle.clone_copying.specs.declared.fetch_end.FetchEnd.{FetchEnd}
use Rattle.clone_machine.specs.Running.{JobEntry}
use Rattle.clone_machine.specs.declared.calls.JobAnswer.{JobAnswer}
use Rattle.clone_machine.specs.declared.calls.JobCall.{JobCall}
use Rattle.clone_machine.specs.declared.calls.JobCall.TheVariants as call
use Rattle.clone_links.specs.Calling.{IsOneCall, JobSeat}
use Rattle.clone_writer.specs.Writers.{Writer}
use Rattle.clone_jobs.specs.Said.{Said, archiving, asking, engine, halting, said_in}
use Rattle.clone_jobs.specs.Turns.{EndsBy, GoesOn, IsJob, in_turn, in_turns}
use Rattle.clone_jobs.specs.Upkeep.{AreMade, IsUpkeep, KeepsUp, NeverDone, UpkeepTurn, flush_of, page_in}
use Rattle.clone_jobs.specs.Writing.{HasWritten, WriterTurn, Writes}
use Rattle.clone_jobs.specs.declared.ending.Ending.{Ending}
use Rattle.clone_jobs.specs.declared.ending.Ending.TheVariants as ending
use Rattle.clone_jobs.specs.declared.upkeep.Upkeep.{Upkeep}
use Rattle.clone_jobs.specs.declared.upkeep.Upkeep.TheVariants as upkeep
use Rattle.clone_task_jobs.specs.Fetching.{FetchesTask, HaltsUnless}
use Rattle.clone_reading.specs.Reading.{is_ending, is_opening, leaves_in, opens_in}
use Rattle.clone_answering.specs.Answering.{ServesNothing}
use Rattle.clone_answering.proofs.MarkLemmas.{or_none}
use Rattle.clone_answering.proofs.PassedLemmas.{each_of}

-- the call is none of the donor
abbrev pub IsOfRun : JobCall → Type 0
IsOfRun (call.Donor asked) = ⊥
IsOfRun other = ⊤

module _ (number : ℕ) where
  -- ---- one call

  -- it neither opens a session nor ends one, and acknowledges nothing
  pub record ServesNone (c : JobCall) (a : JobAnswer) : Type 0 where
    pub opened : is_opening number c a ≡ false
    pub left : is_ending c a ≡ false
    pub acknowledged : (caller : Caller) (floor : ℕ) → c ≡ call.Donor (donor.Ack caller 2 floor) → ⊥

  of_run : (c : JobCall) (a : JobAnswer) → IsOfRun c → ServesNone c a
  of_run (call.Donor asked) a is = absurd is
  of_run call.Halt a is = record { opened = refl; left = refl; acknowledged = λ caller floor same. cc }
  of_run call.Halted a is = record { opened = refl; left = refl; acknowledged = λ caller floor same. cc }
  of_run call.Look a is = record { opened = refl; left = refl; acknowledged = λ caller floor same. cc }

  all_serve_none : (made : List JobEntry) → AllByRecursion (λ (e : JobEntry). ServesNone e.call e.answer) made → ServesNothing number made
  all_serve_none made all = (
    each_map (λ (e : JobEntry). ServesNone e.call e.answer) (λ e. either (opens_in number) leaves_in e ≡ false) (λ e one. or_none (opens_in number e) (leaves_in e) one.opened one.left) made all,
    λ e caller floor given there called answered. absurd ((each_of (λ (f : JobEntry). ServesNone f.call f.answer) made e all there).acknowledged caller floor called),
  )

  pub one_call : (c : JobCall) (a : JobAnswer) (made : List JobEntry) → IsOfRun c → IsOneCall c a made → ServesNothing number made
  one_call c a made own (e, is, called, given) =
      all_serve_none made (subst (AllByRecursion (λ (f : JobEntry). ServesNone f.call f.answer)) (sym is) (subst (λ k. ServesNone k e.answer) (sym called) (of_run c e.answer own), tt))

  -- ---- the calls of jobs, turn by turn

  abbrev SaysNone : Said → Type 0
  SaysNone x = ServesNone x.call x.answer

  abbrev AllSayNone : List Said → Type 0
  AllSayNone said = AllByRecursion SaysNone said

  made_none : (made : List JobEntry) → AllSayNone (said_in made) → AllByRecursion (λ (e : JobEntry). ServesNone e.call e.answer) made
  made_none [] all = tt
  made_none (e ∷ made) all = (all.0, made_none made all.1)

  asks_none : (over : Bool) → SaysNone (asking over)
  asks_none over = of_run call.Halted _ tt

  halts_none : SaysNone halting
  halts_none = of_run call.Halt _ tt

  engine_none : (c : EngineCall) (result : Result EngineAnswer EngineRefusal) → SaysNone (engine c result)
  engine_none c result = record { opened = refl; left = refl; acknowledged = λ caller floor same. cc }

  archives_none : (limit : ℕ) (result : Result (Option ℕ) AllocError) → SaysNone (archiving limit result)
  archives_none limit result = record { opened = refl; left = refl; acknowledged = λ caller floor same. cc }

  module _ {S : Type 0} (IsTurn : S → List Said → S → Type 0) (each : (s t : S) (turn : List Said) → IsTurn s turn t → AllSayNone turn) where
    turns_none : (s t : S) (turns : List (List Said)) → GoesOn IsTurn s turns t → AllSayNone (in_turns turns)
    turns_none s t [] go = tt
    turns_none s t (turn ∷ turns) go = each_append SaysNone (in_turn turn) (in_turns turns) (asks_none false, each s go.0 turn go.1) (turns_none go.0 t turns go.3)

    last_none : (s t : S) (turn : List Said) → IsTurn s turn t → AllSayNone (in_turn turn ++ halting ∷ [])
    last_none s t turn is = each_append SaysNone (in_turn turn) (halting ∷ []) (asks_none false, each s t turn is) (halts_none, tt)

    module _ (IsDone : S → Type 0) where
      end_none : (end : Ending) (s t : S) (said : List Said) → EndsBy IsTurn IsDone end s said t → AllSayNone said
      end_none ending.Done s t said is = subst AllSayNone (sym is.1) tt
      end_none ending.Halted s t said is = subst AllSayNone (sym is.0) (asks_none true, tt)
      end_none ending.DiskFault s t said is = subst AllSayNone (sym is.3) (last_none s t is.0 is.1)
      end_none ending.NoMemory s t said is = subst AllSayNone (sym is.2) (last_none s t is.0 is.1)

      job_none : (end : Ending) (s t : S) (made : List JobEntry) → IsJob IsTurn IsDone end s (said_in made) t → ServesNothing number made
      job_none end s t made is =
          all_serve_none made
          (made_none made
          (subst AllSayNone (sym (is.all ∙ ap (λ xs. xs ++ is.last) is.go_on.2))
          (each_append SaysNone (in_turns is.go_on.0) is.last (turns_none s is.between is.go_on.0 is.go_on.1) (end_none end is.between t is.last is.ends))))

  pub writer : (end : Ending) (w v : Writer) (made : List JobEntry) → Writes end w (said_in made) v → ServesNothing number made
  writer end w v made is = job_none WriterTurn (λ u x turn taken. subst AllSayNone (sym taken.3) (engine_none taken.0 taken.1, tt)) HasWritten end w v made is

  calls_none : (cs : List EngineCall) (said : List Said) → AreMade cs said → AllSayNone said
  calls_none [] said made = subst AllSayNone (sym made) tt
  calls_none (c ∷ cs) [] made = tt
  calls_none (c ∷ cs) (x ∷ said) made = (subst SaysNone (sym made.1) (engine_none c made.0), by (calls_none cs said) made.0 made.2 made.3)
    where
      by : (AreMade cs said → AllSayNone said) → (result : Result EngineAnswer EngineRefusal) → OnOk result (AreMade cs said) → OnErr result (said ≡ []) → AllSayNone said
      by all (Ok told) ok err = all ok
      by all (Err refusal) ok err = subst AllSayNone (sym err) tt

  keeps_none : (work : Upkeep) (said : List Said) → KeepsUp work said → AllSayNone said
  keeps_none upkeep.Flusher said is = subst AllSayNone (sym is.2) (engine_none asked.OldestDirty is.0, calls_none (option_map_or flush_of (page_in is.0) []) is.1 is.3)
  keeps_none upkeep.Checkpointer said is = calls_none (asked.Checkpoint ∷ []) said is
  keeps_none upkeep.Archiver said is = subst AllSayNone (sym is.1) (archives_none _ is.0, tt)

  pub upkeep_job : (work : Upkeep) (end : Ending) (made : List JobEntry) → IsUpkeep work end (said_in made) → ServesNothing number made
  upkeep_job work end made is = job_none (UpkeepTurn work) (λ s t turn taken. keeps_none work turn taken) NeverDone end tt tt made is

  -- ---- the watch of a job that fetches

  look_none : (e : JobEntry) → (e.call ≡ call.Halted) ⊎ (e.call ≡ call.Look) → ServesNone e.call e.answer
  look_none e (inl is) = subst (λ c. ServesNone c e.answer) (sym is) (of_run call.Halted e.answer tt)
  look_none e (inr is) = subst (λ c. ServesNone c e.answer) (sym is) (of_run call.Look e.answer tt)

  end_halts : (complete : Bool) (last : List JobEntry) → HaltsUnless complete last → AllByRecursion (λ (e : JobEntry). ServesNone e.call e.answer) last
  end_halts true last is = subst (AllByRecursion (λ (e : JobEntry). ServesNone e.call e.answer)) (sym is) tt
  end_halts false last (a, (e, is, called, given)) =
      subst (AllByRecursion (λ (f : JobEntry). ServesNone f.call f.answer)) (sym is) (subst (λ c. ServesNone c e.answer) (sym called) (of_run call.Halt e.answer tt), tt)

  pub looks : (complete : Bool) (looked last : List JobEntry) → AreLooks call.Halted call.Look looked → HaltsUnless complete last → ServesNothing number (looked ++ last)
  looks complete looked last are halts =
      all_serve_none (looked ++ last)
      (each_append (λ (e : JobEntry). ServesNone e.call e.answer) looked last
      (each_map (λ (e : JobEntry). (e.call ≡ call.Halted) ⊎ (e.call ≡ call.Look)) (λ (e : JobEntry). ServesNone e.call e.answer) look_none looked are) (end_halts complete last halts))

-- the calls that a seat made between two moments are the only ones
one_made : {S C A : Type 0} (v w : SeatModel S C A) (xs ys : List (Entry S C A)) → Makes v xs w → Makes v ys w → xs ≡ ys
one_made v w xs ys a b = append_cancel_left (calls v.seen) xs ys (sym (makes_calls v w xs a) ∙ makes_calls v w ys b)

pub watch : {N L X R : Type 0} (link : Link L X) (number : ℕ) (f : FetcherModel R) (seat : RecipientSeat R) (desk_old desk_new : DeskSeat N L) (watch_old watch_new : JobSeat) (end : FetchEnd) (watched : List JobEntry)
    → FetchesTask link f seat desk_old desk_new watch_old watch_new end → Makes watch_old watched watch_new → ServesNothing number watched
watch link number f seat desk_old desk_new watch_old watch_new end watched job made =
    let all = makes_more watch_old job.looked watch_new job.looks.0 job.halts.0 job.looks.1 job.halts.1 in
    subst (ServesNothing number) (one_made watch_old watch_new (job.looks.0 ++ job.halts.0) watched all made) (looks number _ job.looks.0 job.halts.0 job.looks.2 job.halts.2)

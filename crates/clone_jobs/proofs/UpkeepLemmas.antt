-- What a flusher, a checkpointer and an archiver do in a turn.
use Rattle.std.proofs.Common.{◌≡◌, ◌∙◌, List, [], ◌∷◌, ◌++◌, Bool, false, true, ℕ, refl, sym, ap, subst, None, Some, Result, Ok, Err, OnOk, OnErr, is_err}
use Rattle.std.specs.Prelude.{⊤}
use Rattle.std.specs.Option.{option_map_or}
use Rattle.std.specs.declared.option.Option.{Option}
use Rattle.std.specs.declared.alloc.AllocError.{AllocError}
use Rattle.clone_turn.specs.Worked.{Worked}
use Rattle.clone_plain.specs.declared.call.EngineAnswer.{EngineAnswer}
use Rattle.clone_plain.specs.declared.call.EngineCall.{EngineCall}
use Rattle.clone_plain.specs.declared.call.EngineCall.TheVariants as asked
use Rattle.clone_plain.specs.declared.refusal.EngineRefusal.{EngineRefusal}
use Rattle.clone_jobs.specs.Said.{JobSeat, Said, Says, archiving, asking, engine, halting, said_in}
use Rattle.clone_jobs.specs.Turns.{HasTurns, TakesTurn, earlier, in_turn, stop_in, stop_of}
use Rattle.clone_jobs.specs.Upkeep.{AreMade, FlushesOldest, IsUpkeep, KeepsUp, NeverDone, UpkeepTurn, flush_of, page_in}
use Rattle.clone_jobs.specs.declared.ending.Ending.{Ending}
use Rattle.clone_jobs.specs.declared.ending.Ending.TheVariants as ending
use Rattle.clone_jobs.specs.declared.upkeep.Upkeep.{Upkeep}
use Rattle.clone_jobs.specs.declared.upkeep.Upkeep.TheVariants as upkeep
use Rattle.clone_jobs.specs.declared.upkeep.TheConstants.{ARCHIVED_AT_ONCE}
use Rattle.clone_jobs.proofs.CallLemmas.{asked_as}
use Rattle.clone_jobs.proofs.TurnLemmas.{goes_on, one_more, said_as, said_more, stop_one, stops, the_end}

-- the last call of the engine that was made
abbrev pub Did : List EngineCall → Option Ending → List Said → Type 0
Did cs stop said = AreMade cs said × (stop ≡ stop_in said)

-- a call after which none comes, since it was the last or it was refused
last_made : (c : EngineCall) (cs : List EngineCall) (result : Result EngineAnswer EngineRefusal) (stop : Option Ending) → OnOk result (cs ≡ []) → stop ≡ stop_of result → Did (c ∷ cs) stop (engine c result ∷ [])
last_made c cs (Ok told) stop last is = ((Ok told, refl, subst (λ xs. AreMade xs []) (sym last) refl, tt), is ∙ sym (stop_one c (Ok told)))
last_made c cs (Err refusal) stop last is = ((Err refusal, refl, tt, refl), is ∙ sym (stop_one c (Err refusal)))

pub last_ok : (result : Result EngineAnswer EngineRefusal) → OnOk result (◌≡◌ {A = List EngineCall} [] [])
last_ok (Ok told) = refl
last_ok (Err refusal) = tt

pub all_refused : (P : Type 0) (result : Result EngineAnswer EngineRefusal) → is_err result ≡ true → OnOk result P
all_refused P (Ok told) is = absurd cc
all_refused P (Err refusal) is = tt

-- a call that was carried out, and then the others
more_made : (c : EngineCall) (cs : List EngineCall) (result : Result EngineAnswer EngineRefusal) (stop : Option Ending) (more : List Said) → is_err result ≡ false → Did cs stop more → Did (c ∷ cs) stop (engine c result ∷ more)
more_made c cs (Ok told) stop more went did = ((Ok told, refl, did.0, tt), did.1)
more_made c cs (Err refusal) stop more went did = absurd cc

pub one_made : (u v : JobSeat) (c : EngineCall) (cs : List EngineCall) (result : Result EngineAnswer EngineRefusal) (stop : Option Ending) → OnOk result (cs ≡ []) → stop ≡ stop_of result → Says (engine c result ∷ []) u v
    → Worked (λ made. Did (c ∷ cs) stop (said_in made)) u v
one_made u v c cs result stop last is says = said_as (Did (c ∷ cs) stop) (engine c result ∷ []) u v says (last_made c cs result stop last is)

pub then_made : (u v w : JobSeat) (c : EngineCall) (cs : List EngineCall) (result : Result EngineAnswer EngineRefusal) (stop : Option Ending) → is_err result ≡ false → Says (engine c result ∷ []) u v
    → Worked (λ made. Did cs stop (said_in made)) v w → Worked (λ made. Did (c ∷ cs) stop (said_in made)) u w
then_made u v w c cs result stop went says later =
    said_more (λ said. said ≡ engine c result ∷ []) (Did cs stop) (Did (c ∷ cs) stop) u v w says later
    (λ xs ys one did. subst (λ zs. Did (c ∷ cs) stop (zs ++ ys)) (sym one) (more_made c cs result stop ys went did))

-- ---- the oldest page is flushed

abbrev pub Flushed : Option Ending → List Said → Type 0
Flushed stop said = FlushesOldest said × (stop ≡ stop_in said)

named_goes : (result : Result EngineAnswer EngineRefusal) (page : ℕ × ℕ) → page_in result ≡ Some page → (ys : List Said) → earlier (stop_of result) (stop_in ys) ≡ stop_in ys
named_goes (Ok did) page is ys = refl
named_goes (Err refusal) page is ys = absurd cc

pub named : (u v w : JobSeat) (page : ℕ × ℕ) (result : Result EngineAnswer EngineRefusal) (stop : Option Ending) → page_in result ≡ Some page → Says (engine asked.OldestDirty result ∷ []) u v
    → Worked (λ made. Did (flush_of page) stop (said_in made)) v w → Worked (λ made. Flushed stop (said_in made)) u w
named u v w page result stop is says later =
    said_more (λ said. said ≡ engine asked.OldestDirty result ∷ []) (Did (flush_of page) stop) (Flushed stop) u v w says later
    (λ xs ys one did. subst (λ zs. Flushed stop (zs ++ ys)) (sym one) (
      (result, ys, refl, subst (λ o. AreMade (option_map_or flush_of o []) ys) (sym is) did.0),
      did.1 ∙ sym (named_goes result page is ys),
    ))

-- none waits
pub unnamed : (u v : JobSeat) (result : Result EngineAnswer EngineRefusal) (stop : Option Ending) → page_in result ≡ None → stop ≡ stop_of result → Says (engine asked.OldestDirty result ∷ []) u v
    → Worked (λ made. Flushed stop (said_in made)) u v
unnamed u v result stop none is says =
    said_as (Flushed stop) (engine asked.OldestDirty result ∷ []) u v says
    ((result, [], refl, subst (λ o. AreMade (option_map_or flush_of o []) []) (sym none) refl), is ∙ sym (stop_one asked.OldestDirty result))

-- ---- redo is archived

abbrev pub Archived : Option Ending → List Said → Type 0
Archived stop said = KeepsUp upkeep.Archiver said × (stop ≡ stop_in said)

pub archived_ok : (u v : JobSeat) (result : Result (Option ℕ) AllocError) (reached : Option ℕ) → result ≡ Ok reached → Says (archiving ARCHIVED_AT_ONCE result ∷ []) u v → Worked (λ made. Archived None (said_in made)) u v
archived_ok u v result reached is says =
    said_as (Archived None) (archiving ARCHIVED_AT_ONCE result ∷ []) u v says
    ((result, refl), subst (λ r. None ≡ stop_in (archiving ARCHIVED_AT_ONCE r ∷ [])) (sym is) refl)

pub archived_no : (u v : JobSeat) (result : Result (Option ℕ) AllocError) (refused : AllocError) → result ≡ Err refused → Says (archiving ARCHIVED_AT_ONCE result ∷ []) u v
    → Worked (λ made. Archived (Some ending.NoMemory) (said_in made)) u v
archived_no u v result refused is says =
    said_as (Archived (Some ending.NoMemory)) (archiving ARCHIVED_AT_ONCE result ∷ []) u v says
    ((result, refl), subst (λ r. Some ending.NoMemory ≡ stop_in (archiving ARCHIVED_AT_ONCE r ∷ [])) (sym is) refl)

-- ---- a turn: the question, what is done, and where that ends the job, that the run is to end

abbrev pub Kept : Upkeep → Option Ending → List Said → Type 0
Kept work stop said = KeepsUp work said × (stop ≡ stop_in said)

abbrev pub Turned : Upkeep → Option Ending → List Said → Type 0
Turned work stop said = (turn : List Said) × KeepsUp work turn × (stop ≡ stop_in turn) × (said ≡ in_turn turn)

abbrev pub Takes : Upkeep → Option Ending → List Said → Type 0
Takes work stop said = TakesTurn (UpkeepTurn work) NeverDone stop tt said tt

pub turn_halted : (work : Upkeep) (u v : JobSeat) (over : Bool) → Says (asking over ∷ []) u v → over ≡ true → Worked (λ made. Takes work (Some ending.Halted) (said_in made)) u v
turn_halted work u v over asks is = said_as (Takes work (Some ending.Halted)) (asking true ∷ []) u v (asked_as over true u v is asks) (refl, refl)

pub turn_goes : (work : Upkeep) (u v w : JobSeat) (over : Bool) (stop : Option Ending) → Says (asking over ∷ []) u v → over ≡ false → Worked (λ made. Kept work stop (said_in made)) v w → stop ≡ None
    → Worked (λ made. Takes work None (said_in made)) u w
turn_goes work u v w over stop asks going did none =
    said_more (λ said. said ≡ asking false ∷ []) (Kept work stop) (Takes work None) u v w (asked_as over false u v going asks) did
    (λ xs ys one is. subst (λ zs. Takes work None (zs ++ ys)) (sym one) (goes_on (UpkeepTurn work) NeverDone tt tt ys is.0 (sym is.1 ∙ none)))

pub turn_stops : (work : Upkeep) (u v w x : JobSeat) (over : Bool) (stop : Option Ending) (end : Ending) → Says (asking over ∷ []) u v → over ≡ false → Worked (λ made. Kept work stop (said_in made)) v w → stop ≡ Some end → Says (halting ∷ []) w x
    → Worked (λ made. Takes work (Some end) (said_in made)) u x
turn_stops work u v w x over stop end asks going did some halts =
    said_more (Turned work stop) (λ said. said ≡ halting ∷ []) (Takes work (Some end)) u w x
    (said_more (λ said. said ≡ asking false ∷ []) (Kept work stop) (Turned work stop) u v w (asked_as over false u v going asks) did
    (λ xs ys one is. (ys, is.0, is.1, ap (λ zs. zs ++ ys) one))) halts
    (λ xs ys turned one. subst (λ zs. Takes work (Some end) (xs ++ zs)) (sym one)
    (subst (λ zs. Takes work (Some end) (zs ++ halting ∷ [])) (sym turned.3)
    (stops (UpkeepTurn work) NeverDone end tt tt turned.0 turned.1 (sym turned.2 ∙ some))))

-- ---- turn after turn

abbrev pub Turns : Upkeep → List Said → Type 0
Turns work said = HasTurns (UpkeepTurn work) tt said tt

pub loop_goes : (work : Upkeep) (u v w : JobSeat) (stop : Option Ending) → Worked (λ made. Turns work (said_in made)) u v → Worked (λ made. Takes work stop (said_in made)) v w → stop ≡ None
    → Worked (λ made. Turns work (said_in made)) u w
loop_goes work u v w stop before takes none =
    said_more (Turns work) (Takes work stop) (Turns work) u v w before takes
    (λ xs ys turns one. one_more (UpkeepTurn work) NeverDone tt tt tt xs ys turns (subst (λ o. Takes work o ys) none one))

pub loop_ends : (work : Upkeep) (u v w : JobSeat) (stop : Option Ending) (end : Ending) → Worked (λ made. Turns work (said_in made)) u v → Worked (λ made. Takes work stop (said_in made)) v w → stop ≡ Some end
    → Worked (λ made. IsUpkeep work end (said_in made)) u w
loop_ends work u v w stop end before takes some =
    said_more (Turns work) (Takes work stop) (IsUpkeep work end) u v w before takes
    (λ xs ys turns last. the_end (UpkeepTurn work) NeverDone end tt tt tt xs ys turns (subst (λ o. Takes work o ys) some last))

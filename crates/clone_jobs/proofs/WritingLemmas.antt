-- What a writer does in a turn.
use Rattle.std.proofs.Common.{◌≡◌, ◌∙◌, List, [], ◌∷◌, ◌++◌, Bool, false, true, refl, sym, ap, subst, inl, inr, ◌⊎◌, None, Some, Result}
use Rattle.std.specs.declared.option.Option.{Option}
use Rattle.std.proofs.lemmas.Option.{same_Some}
use Rattle.clone_turn.specs.Worked.{Worked}
use Rattle.clone_plain.specs.declared.call.EngineAnswer.{EngineAnswer}
use Rattle.clone_plain.specs.declared.call.EngineCall.{EngineCall}
use Rattle.clone_plain.specs.declared.refusal.EngineRefusal.{EngineRefusal}
use Rattle.clone_writer.specs.Writers.{Writer, asked, told}
use Rattle.clone_jobs.specs.Said.{JobSeat, Said, Says, asking, engine, halting, said_in}
use Rattle.clone_jobs.specs.Turns.{HasTurns, TakesTurn, in_turn, stop_of}
use Rattle.clone_jobs.specs.Writing.{HasWritten, WriterTurn, Writes}
use Rattle.clone_jobs.specs.declared.ending.Ending.{Ending}
use Rattle.clone_jobs.specs.declared.ending.Ending.TheVariants as ending
use Rattle.clone_jobs.proofs.CallLemmas.{asked_as}
use Rattle.clone_jobs.proofs.TurnLemmas.{goes_on, one_more, said_as, said_more, said_none, stop_one, stops, the_end}

-- what the writer does in a turn, up to where it has come
abbrev pub TakesTo : Option Ending → Writer → Writer → List Said → Type 0
TakesTo stop w v said = TakesTurn WriterTurn HasWritten stop w said v

-- and where that is known only while the job goes on
abbrev pub Took : Option Ending → Writer → Writer → List Said → Type 0
Took stop w new said = (v : Writer) × TakesTo stop w v said × (stop ≡ None → v ≡ new)

some_not : {end : Ending} → ◌≡◌ {A = Option Ending} (Some end) None → ⊥
some_not is = cc

pub write_done : (w : Writer) (u : JobSeat) → asked w ≡ None → Worked (λ made. Took (Some ending.Done) w w (said_in made)) u u
write_done w u none = said_none (Took (Some ending.Done) w w) u (w, (none, refl, refl), λ is. refl)

pub write_halted : (w : Writer) (u v : JobSeat) (over : Bool) → Says (asking over ∷ []) u v → over ≡ true → Worked (λ made. Took (Some ending.Halted) w w (said_in made)) u v
write_halted w u v over asks is = said_as (Took (Some ending.Halted) w w) (asking true ∷ []) u v (asked_as over true u v is asks) (w, (refl, refl), λ is. refl)

-- the call that comes next, and its answer
abbrev pub Asks : EngineCall → Result EngineAnswer EngineRefusal → List Said → Type 0
Asks c result said = said ≡ in_turn (engine c result ∷ [])

asks_next : (u v x : JobSeat) (over : Bool) (c : EngineCall) (result : Result EngineAnswer EngineRefusal) → Says (asking over ∷ []) u v → over ≡ false → Says (engine c result ∷ []) v x → Worked (λ made. Asks c result (said_in made)) u x
asks_next u v x over c result asks going says =
    said_more (λ said. said ≡ asking false ∷ []) (λ said. said ≡ engine c result ∷ []) (Asks c result) u v x (asked_as over false u v going asks) says
    (λ xs ys one two. ap (λ zs. zs ++ ys) one ∙ ap (λ zs. asking false ∷ zs) two)

-- what the answer makes of the job: there was no memory for it, or it ends it by itself
abbrev pub Heard : Option Ending → Result EngineAnswer EngineRefusal → Type 0
Heard stop result = (stop ≡ Some ending.NoMemory) ⊎ (stop ≡ stop_of result)

pub write_goes : (w new : Writer) (u v x : JobSeat) (over : Bool) (c : EngineCall) (result : Result EngineAnswer EngineRefusal) (stop : Option Ending) → asked w ≡ Some c → Says (asking over ∷ []) u v → over ≡ false → Says (engine c result ∷ []) v x
    → new ≡ told w result → Heard stop result → stop ≡ None → Worked (λ made. Took None w new (said_in made)) u x
write_goes w new u v x over c result stop next asks going says is heard none =
    said_as (Took None w new) (in_turn (engine c result ∷ [])) u x (asks_next u v x over c result asks going says)
    (told w result, goes_on WriterTurn HasWritten w (told w result) (engine c result ∷ []) (c, result, next, refl, refl) (stop_one c result ∙ by heard), λ _. sym is)
  where
    by : Heard stop result → stop_of result ≡ None
    by (inl memory) = absurd (some_not (sym memory ∙ none))
    by (inr stopped) = sym stopped ∙ none

pub write_stops : (w new : Writer) (u v x y : JobSeat) (over : Bool) (c : EngineCall) (result : Result EngineAnswer EngineRefusal) (stop : Option Ending) (end : Ending) → asked w ≡ Some c → Says (asking over ∷ []) u v → over ≡ false
    → Says (engine c result ∷ []) v x → Heard stop result → stop ≡ Some end → Says (halting ∷ []) x y → Worked (λ made. Took (Some end) w new (said_in made)) u y
write_stops w new u v x y over c result stop end next asks going says heard some halts =
    said_more (Asks c result) (λ said. said ≡ halting ∷ []) (Took (Some end) w new) u x y (asks_next u v x over c result asks going says) halts
    (λ xs ys one two. (
      told w result,
      subst (λ zs. TakesTo (Some end) w (told w result) (xs ++ zs)) (sym two) (subst (λ zs. TakesTo (Some end) w (told w result) (zs ++ halting ∷ [])) (sym one) (by heard)),
      λ none. absurd (some_not none),
    ))
  where
    by : Heard stop result → TakesTo (Some end) w (told w result) (in_turn (engine c result ∷ []) ++ halting ∷ [])
    by (inl memory) =
        subst (λ e. TakesTo (Some e) w (told w result) (in_turn (engine c result ∷ []) ++ halting ∷ [])) (same_Some ending.NoMemory end (sym memory ∙ some)) (engine c result ∷ [], (c, result, next, refl, refl), refl)
    by (inr stopped) = stops WriterTurn HasWritten end w (told w result) (engine c result ∷ []) (c, result, next, refl, refl) (stop_one c result ∙ (sym stopped ∙ some))

-- ---- turn after turn

pub loop_goes : (w v new : Writer) (u x y : JobSeat) (stop : Option Ending) → Worked (λ made. HasTurns WriterTurn w (said_in made) v) u x → Worked (λ made. Took stop v new (said_in made)) x y → stop ≡ None
    → Worked (λ made. HasTurns WriterTurn w (said_in made) new) u y
loop_goes w v new u x y stop before took none =
    said_more (λ said. HasTurns WriterTurn w said v) (Took stop v new) (λ said. HasTurns WriterTurn w said new) u x y before took
    (λ xs ys turns one. subst (λ z. HasTurns WriterTurn w (xs ++ ys) z) (one.2 none) (one_more WriterTurn HasWritten w v one.0 xs ys turns (subst (λ o. TakesTo o v one.0 ys) none one.1)))

pub loop_ends : (w v new : Writer) (u x y : JobSeat) (stop : Option Ending) (end : Ending) → Worked (λ made. HasTurns WriterTurn w (said_in made) v) u x → Worked (λ made. Took stop v new (said_in made)) x y → stop ≡ Some end
    → Worked (λ made. (z : Writer) × Writes end w (said_in made) z) u y
loop_ends w v new u x y stop end before took some =
    said_more (λ said. HasTurns WriterTurn w said v) (Took stop v new) (λ said. (z : Writer) × Writes end w said z) u x y before took
    (λ xs ys turns last. (last.0, the_end WriterTurn HasWritten end w v last.0 xs ys turns (subst (λ o. TakesTo o v last.0 ys) some last.1)))

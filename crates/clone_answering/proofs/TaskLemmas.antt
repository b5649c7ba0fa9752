-- What a job does that serves the connections of a task, connection after connection.
use Rattle.std.proofs.Common.{◌≡◌, ◌<◌, ◌^◌, ℕ, false, true, List, [], ◌∷◌, ◌++◌, map, Some, None, inl, inr, refl, sym, ap, ap₂, ◌∙◌, subst, append-nil, flat_map, arith, take-append-drop}
use Rattle.std.specs.Prelude.{IfSome, drop}
use Rattle.std.specs.List.{AllByRecursion, Contains}
use Rattle.std.specs.declared.option.Option.{Option}
use Rattle.std.proofs.lemmas.List.{map-append}
use Rattle.std.proofs.lemmas.List.Elements.{Contains-append_cases, Contains-append_left, Contains-append_right}
use Rattle.std.proofs.lemmas.Grind.{flat_map-append}
use mathlib.Core.List.{IsPrefix}
use Rattle.clone_outside.specs.Bytes.{TakesSome, appended}
use Rattle.clone_outside.specs.Link.{IsUnused}
use Rattle.clone_outside.specs.declared.link.Link.{Ghosts as Link}
use Rattle.clone_outside.specs.declared.link.Side.TheVariants.{Donor}
use Rattle.clone_turn.specs.Parts.{IsSublist}
use Rattle.clone_turn.proofs.EachLemmas.{each_append, each_map}
use Rattle.clone_turn.proofs.SublistLemmas.{sublist_after}
use Rattle.clone_runs.specs.Carried.{Carried}
use Rattle.clone_runs.specs.Connections.{answers_of, commands_of, place_of}
use Rattle.clone_runs.specs.Desk.{handed}
use Rattle.clone_runs.specs.Spellings as bytes
use Rattle.clone_chunk.specs.declared.copy_stage.CopyStage.TheVariants.{PageCopy}
use Rattle.clone_wire.specs.Spelling.{spelling}
use Rattle.clone_wire.specs.declared.frame.Frame.{Frame}
use Rattle.clone_wire.specs.declared.frame.Frame.TheVariants as frame
use Rattle.clone_wire.specs.declared.frame.Side.{Side}
use Rattle.clone_wire.specs.declared.frame.Side.TheVariants.{Answer, Command}
use Rattle.clone_stream.specs.Streams.{AreFramesOf, spellings}
use Rattle.clone_desk.specs.Steps.{DeskEntry, act_of}
use Rattle.clone_desk.specs.declared.machine.DeskAnswer.TheVariants as answer
use Rattle.clone_desk.specs.declared.machine.DeskCall.TheVariants as call
use Rattle.clone_copying.specs.Calling.{IsOne}
use Rattle.clone_machine.specs.Running.{JobEntry}
use Rattle.clone_machine.specs.declared.calls.JobAnswer.TheVariants as job_answer
use Rattle.clone_machine.specs.declared.calls.JobCall.TheVariants as job
use Rattle.clone_links.specs.Calling.{IsOneCall}
use Rattle.clone_jobs.specs.declared.ending.Ending.{Ending}
use Rattle.clone_jobs.specs.declared.ending.Ending.TheVariants as ending
use Rattle.clone_task_jobs.specs.Serving.{AreTurns, EndsBy, GoesOn, IsService, IsServing, IsTurn, Service, idles, more, none, serves}
use Rattle.clone_reading.specs.Lending.{Lent, Uses, nothing}
use Rattle.clone_reading.specs.Passing.{AnswersTask, AreAsked, IsToldBy, PassedBytes, PassedDonor}
use Rattle.clone_reading.specs.Reading.{AreSpelled, as_they_are, is_exit, is_init, leaves_in, opens_in, told_in}
use Rattle.clone_answering.specs.Answering.{ServesNothing, lent_by, lent_of}
use Rattle.clone_answering.proofs.MarkLemmas.{carried_append}
use Rattle.clone_answering.proofs.PassedLemmas.{passes}
use Rattle.clone_answering.proofs.LentLemmas.{each_both, handed-append, handed_none, handed_one, uses_append, uses_none, uses_one}
use Rattle.clone_answering.proofs.AsideLemmas.{one_call}

no_element : {X : Type 0} (x : X) → Contains [] x → ⊥
no_element x there = let low = there.1 in omega (arith, low)

-- ---- an end that was new

front_heard : (old new : Option (List ℕ)) (front rest : List ℕ) → IsUnused old → new ≡ appended old (front ++ rest) → IfSome new (λ now. IsPrefix front now)
front_heard None new front rest unused is = subst (λ (o : Option (List ℕ)). IfSome o (λ now. IsPrefix front now)) (sym is) tt
front_heard (Some []) new front rest unused is = subst (λ (o : Option (List ℕ)). IfSome o (λ now. IsPrefix front now)) (sym is) (rest, refl)
front_heard (Some (x ∷ xs)) new front rest unused is = absurd (omega (arith, unused))

front_sent : (old new : Option (List ℕ)) (whole : List ℕ) → IsUnused old → TakesSome old new whole → IfSome new (λ now. IsPrefix now whole)
front_sent None new whole unused takes = subst (λ (o : Option (List ℕ)). IfSome o (λ now. IsPrefix now whole)) (sym takes.1) tt
front_sent (Some []) new whole unused takes = subst (λ (o : Option (List ℕ)). IfSome o (λ now. IsPrefix now whole)) (sym takes.1) (drop takes.0 whole, take-append-drop takes.0 whole)
front_sent (Some (x ∷ xs)) new whole unused takes = absurd (omega (arith, unused))

-- frames, as their bytes
as_bytes : (frames : List Frame) → bytes.spellings as_they_are (map spelling frames) ≡ spellings frames
as_bytes [] = refl
as_bytes (f ∷ fs) = ap (λ l. spelling f ++ l) (as_bytes fs)

are_spelled : (side : Side) (frames : List Frame) → AreFramesOf side frames → AreSpelled side (map spelling frames)
are_spelled side [] are = tt
are_spelled side (f ∷ fs) are = ((f, are.0, refl), are_spelled side fs are.1)

-- ---- calls, and then others

sublists : {X : Type 0} (xs zs ys ws : List X) → IsSublist xs ys → IsSublist zs ws → IsSublist (xs ++ zs) (ys ++ ws)
sublists [] zs ys ws a b = sublist_after ys zs ws b
sublists (x ∷ xs) zs [] ws a b = absurd a
sublists (x ∷ xs) zs (y ∷ ys) ws (inl same) b = inl (same.0, sublists xs zs ys ws same.1 b)
sublists (x ∷ xs) zs (y ∷ ys) ws (inr within) b = inr (sublists (x ∷ xs) zs ys ws within b)

told_with : (made all : List JobEntry) (x : List ℕ) → (is : IsToldBy made x) → Contains all is.entry → IsToldBy all x
told_with made all x is there = record {
  entry = is.entry;
  asked = is.asked;
  given = is.given;
  sent = is.sent;
  is_made = there;
  call_is = is.call_is;
  answer_is = is.answer_is;
  tells = is.tells;
  is = is.is;
  spelled = is.spelled;
}

told_before : (made later : List JobEntry) (x : List ℕ) → IsToldBy made x → IsToldBy (made ++ later) x
told_before made later x is = told_with made (made ++ later) x is (Contains-append_left made later is.entry is.is_made)

told_after : (made later : List JobEntry) (x : List ℕ) → IsToldBy later x → IsToldBy (made ++ later) x
told_after made later x is = told_with later (made ++ later) x is (Contains-append_right made later is.entry is.is_made)

asked_both : (cs ds : List (List ℕ)) (made later : List JobEntry) → AreAsked cs made → AreAsked ds later → AreAsked (cs ++ ds) (made ++ later)
asked_both cs ds made later a b = λ e caller floor given there called answered. elim (Contains-append_cases made later e there) as (λ _. (floor < 2 ^ 64) × Contains (cs ++ ds) (spelling (frame.Ack PageCopy floor))) [
  | inl its ↦ (let known = a e caller floor given its called answered in (known.0, Contains-append_left cs ds (spelling (frame.Ack PageCopy floor)) known.1))
  | inr its ↦ (let known = b e caller floor given its called answered in (known.0, Contains-append_right cs ds (spelling (frame.Ack PageCopy floor)) known.1))
]

module _ {N L X : Type 0} (link : Link L X) (number task : ℕ) where
  abbrev Answers : List JobEntry → List (DeskEntry N L) → List (Lent L) → Type 0
  Answers made asked lent = AnswersTask link number task made asked lent

  both : (made later : List JobEntry) (asked next : List (DeskEntry N L)) (lent rest : List (Lent L)) → Answers made asked lent → Answers later next rest → Answers (made ++ later) (asked ++ next) (lent ++ rest)
  both made later asked next lent rest a b =
      let cs : commands_of (a.ends ++ b.ends) ≡ commands_of a.ends ++ commands_of b.ends = flat_map-append (λ (p : PassedBytes). p.commands) a.ends b.ends in
      let xs : answers_of (a.ends ++ b.ends) ≡ answers_of a.ends ++ answers_of b.ends = flat_map-append (λ (p : PassedBytes). p.answers) a.ends b.ends in
      record {
        ends = a.ends ++ b.ends;
        uses = uses_append Donor task rest next b.uses lent asked a.uses;
        each = each_both (PassedDonor link) lent rest a.ends b.ends a.each b.each;
        places = map-append place_of a.ends b.ends ∙ ap₂ (λ ps qs. ps ++ qs) a.places b.places ∙ sym (handed-append task asked next);
        carried = subst (λ ds. Carried is_init is_exit (opens_in number) leaves_in ds (made ++ later)) (sym cs)
            (carried_append is_init is_exit (opens_in number) leaves_in (commands_of a.ends) (commands_of b.ends) made later a.carried b.carried);
        told = subst (λ ys. IsSublist ys (flat_map told_in (made ++ later))) (sym xs)
            (subst (λ ys. IsSublist (answers_of a.ends ++ answers_of b.ends) ys) (sym (flat_map-append told_in made later)) (sublists (answers_of a.ends) (answers_of b.ends) (flat_map told_in made) (flat_map told_in later) a.told b.told));
        tells = subst (AllByRecursion (IsToldBy (made ++ later))) (sym xs)
            (each_append (IsToldBy (made ++ later)) (answers_of a.ends) (answers_of b.ends) (each_map (IsToldBy made) (IsToldBy (made ++ later)) (told_before made later) (answers_of a.ends) a.tells)
            (each_map (IsToldBy later) (IsToldBy (made ++ later)) (told_after made later) (answers_of b.ends) b.tells));
        acknowledged = subst (λ ds. AreAsked ds (made ++ later)) (sym cs) (asked_both (commands_of a.ends) (commands_of b.ends) made later a.acknowledged b.acknowledged);
      }

  -- ---- calls that serve nothing

  aside : (made : List JobEntry) → ServesNothing number made → Answers made [] []
  aside made quiet = record { ends = []; uses = nothing; each = tt; places = refl; carried = quiet.0; told = tt; tells = tt; acknowledged = quiet.1 }

  empty : Answers [] [] []
  empty = aside [] (tt, λ e caller floor given there called answered. absurd (no_element e there))

  -- no end waits
  idle : (made : List JobEntry) (asked : List (DeskEntry N L)) → GoesOn made → IsOne (call.DonorEnd task) (answer.HandedOut None) asked → Answers made asked []
  idle made asked goes waits =
      let quiet = one_call number job.Halted (job_answer.Halted false) made tt goes in
      record { ends = []; uses = uses_none task asked waits; each = tt; places = sym (handed_none task asked waits); carried = quiet.0; told = tt; tells = tt; acknowledged = quiet.1 }

  -- ---- a connection

  served : (s : Service L) (made : List JobEntry) (asked : List (DeskEntry N L)) → IsService link task s made asked → Answers made asked (lent_by s ∷ [])
  served s made asked is =
      let p = passes number s.why is.serves.exchanges is.calls is.serves.received is.serves.sent is.serves.calls is.serves.carries in
      let end : PassedBytes = record { place = s.place; commands = map spelling p.commands; answers = map spelling p.answers } in
      let one : Answers is.calls asked (lent_by s ∷ []) = record {
        ends = end ∷ [];
        uses = subst (λ es. Uses Donor task (lent_by s ∷ []) es) (sym is.asked_is) (uses_one task (lent_by s) is.hand is.give is.handed is.given);
        each = (
          record {
            place = refl;
            commands = are_spelled Command p.commands p.are_commands;
            answers = are_spelled Answer p.answers p.are_answers;
            heard = front_heard (link.received s.taken) (link.received s.back) (bytes.spellings as_they_are (map spelling p.commands)) p.rest is.new.received
                (is.serves.came ∙ ap (appended (link.received s.taken)) (p.heard ∙ ap (λ l. l ++ p.rest) (sym (as_bytes p.commands))));
            answered = front_sent (link.sent s.taken) (link.sent s.back) (bytes.spellings as_they_are (map spelling p.answers)) is.new.sent
                (subst (TakesSome (link.sent s.taken) (link.sent s.back)) (p.answered ∙ sym (as_bytes p.answers)) is.serves.put);
          },
          tt,
        );
        places = sym (ap (λ es. handed task (map act_of es)) is.asked_is ∙ handed_one task (lent_by s) is.hand is.give is.handed is.given);
        carried = subst (λ ds. Carried is_init is_exit (opens_in number) leaves_in ds is.calls) (sym (append-nil (map spelling p.commands))) p.carries;
        told = subst (λ xs. IsSublist xs (flat_map told_in is.calls)) (sym (append-nil (map spelling p.answers))) p.told;
        tells = subst (AllByRecursion (IsToldBy is.calls)) (sym (append-nil (map spelling p.answers))) p.tells;
        acknowledged = subst (λ ds. AreAsked ds is.calls) (sym (append-nil (map spelling p.commands))) p.acknowledged;
      } in
      subst (λ es. Answers es asked (lent_by s ∷ [])) (sym is.made_is) (both is.look is.calls [] asked [] (lent_by s ∷ []) (aside is.look (one_call number job.Halted (job_answer.Halted false) is.look tt is.goes_on)) one)

  -- ---- turn after turn

  turn : (made : List JobEntry) (asked : List (DeskEntry N L)) (done : List (Service L)) → IsTurn link task made asked done → Answers made asked (lent_of done)
  turn made asked done (idles goes waits) = idle made asked goes waits
  turn made asked done (serves s is on) = served s made asked is

  turns : (made : List JobEntry) (asked : List (DeskEntry N L)) (done : List (Service L)) → AreTurns link task made asked done → Answers made asked (lent_of done)
  turns made asked done none = empty
  turns made asked done (more xs ys os ps ss ts before is) =
      subst (λ ls. Answers (xs ++ ys) (os ++ ps) ls) (sym (map-append lent_by ss ts)) (both xs ys os ps (lent_of ss) (lent_of ts) (turns xs os ss before) (turn ys ps ts is))

  stopped : (s : Service L) (calls halt made : List JobEntry) (asked : List (DeskEntry N L)) (last : List (Service L)) → last ≡ s ∷ [] → made ≡ calls ++ halt → IsService link task s calls asked → IsOneCall job.Halt job_answer.Halt halt → Answers made asked (lent_of last)
  stopped s calls halt made asked last is all serving halts =
      subst (λ ts. Answers made asked (lent_of ts)) (sym is)
      (subst (λ es. Answers es asked (lent_by s ∷ [])) (sym all)
      (subst (λ ps. Answers (calls ++ halt) ps (lent_by s ∷ [])) (append-nil asked) (both calls halt asked [] (lent_by s ∷ []) [] (served s calls asked serving) (aside halt (one_call number job.Halt job_answer.Halt halt tt halts)))))

  ended : (why : Ending) (made : List JobEntry) (asked : List (DeskEntry N L)) (last : List (Service L)) → EndsBy link task why made asked last → Answers made asked (lent_of last)
  ended ending.Done made asked last is = absurd is
  ended ending.Halted made asked last is =
      subst (λ ts. Answers made asked (lent_of ts)) (sym is.2) (subst (λ ps. Answers made ps []) (sym is.1) (aside made (one_call number job.Halted (job_answer.Halted true) made tt is.0)))
  ended ending.DiskFault made asked last is = stopped is.0 is.1 is.2 made asked last is.3 is.4 is.5 is.7
  ended ending.NoMemory made asked last is = stopped is.0 is.1 is.2 made asked last is.3 is.4 is.5 is.7

  pub serving : (why : Ending) (made : List JobEntry) (asked : List (DeskEntry N L)) (done : List (Service L)) → IsServing link task why made asked done → Answers made asked (lent_of done)
  serving why made asked done is =
      let all = both is.made_first is.made_last is.asked_first is.asked_last (lent_of is.first) (lent_of is.last) (turns is.made_first is.asked_first is.first is.turns) (ended why is.made_last is.asked_last is.last is.ends) in
      let lent : lent_of is.first ++ lent_of is.last ≡ lent_of done = sym (ap lent_of is.served_is ∙ map-append lent_by is.first is.last) in
      subst (λ ls. Answers made asked ls) lent (subst (λ os. Answers made os (lent_of is.first ++ lent_of is.last)) (sym is.asked_is) (subst (λ es. Answers es (is.asked_first ++ is.asked_last) (lent_of is.first ++ lent_of is.last)) (sym is.made_is) all))

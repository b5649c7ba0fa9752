-- What passed over a connection that was served: the commands that were received, the calls that carried them out, and
-- the frames that tell their answers.
use Rattle.std.proofs.Common.{◌≡◌, ◌<◌, ◌^◌, ℕ, List, [], ◌∷◌, ◌++◌, map, Some, None, refl, sym, ap, ap₂, ◌∙◌, subst, append_assoc, flat_map, inl}
use Rattle.std.specs.List.{AllByRecursion, Contains}
use Rattle.std.specs.declared.option.Option.{Option}
use Rattle.std.proofs.lemmas.List.{map-append}
use Rattle.std.proofs.lemmas.List.Elements.{All-contains, Contains-append_left, Contains-append_right, Contains-push}
use Rattle.clone_turn.specs.Parts.{IsSublist}
use Rattle.clone_turn.proofs.EachLemmas.{all_of_each, each_append, each_left, each_map}
use Rattle.clone_runs.specs.Carried.{Carried}
use Rattle.clone_chunk.specs.declared.copy_stage.CopyStage.TheVariants.{PageCopy}
use Rattle.clone_session.specs.declared.caller.Caller.{Caller}
use Rattle.clone_wire.specs.Spelling.{spelling}
use Rattle.clone_wire.specs.declared.frame.Frame.{Frame}
use Rattle.clone_wire.specs.declared.frame.Frame.TheVariants as frame
use Rattle.clone_wire.specs.declared.frame.Side.TheVariants.{Answer, Command}
use Rattle.clone_stream.specs.Streams.{AreFramesOf, spellings}
use Rattle.clone_calls.specs.Answering.{IsAnswerTo}
use Rattle.clone_calls.specs.declared.answer.DonorAnswer.{DonorAnswer}
use Rattle.clone_calls.specs.declared.call.DonorCall.{DonorCall}
use Rattle.clone_calls.specs.declared.call.DonorCall.TheVariants as donor
use Rattle.clone_serve.specs.Runs.{Event, commands, commands_of, exchange_of, exchanges_of, serves}
use Rattle.clone_serve.specs.Telling.{Exchange, frame_for, frames_for, frames_of}
use Rattle.clone_serve.specs.declared.doing.Doing.TheVariants.{New}
use Rattle.clone_serve.proofs.ServedLemmas.{frames_are_answers}
use Rattle.clone_engine.specs.Acts.{Calls}
use Rattle.clone_sides.specs.Answered.{ends, opens}
use Rattle.clone_machine.specs.Running.{JobEntry}
use Rattle.clone_machine.specs.declared.calls.JobAnswer.{JobAnswer}
use Rattle.clone_machine.specs.declared.calls.JobAnswer.TheVariants as answer
use Rattle.clone_machine.specs.declared.calls.JobCall.{JobCall}
use Rattle.clone_machine.specs.declared.calls.JobCall.TheVariants as call
use Rattle.clone_links.specs.Calling.{AreAnswered, AreCalls, exchange_by, exchanges_in}
use Rattle.clone_links.specs.Serving.{Carries}
use Rattle.clone_links.specs.declared.end.ServeEnd.{ServeEnd}
use Rattle.clone_reading.specs.Passing.{AreAsked, IsToldBy}
use Rattle.clone_reading.specs.Reading.{Bytes, is_ending, is_exit, is_init, is_opening, leaves_in, opens_in, told_by, told_in}
use Rattle.clone_answering.proofs.MarkLemmas.{carried_after, carried_by, quiet_one}
use Rattle.clone_answering.proofs.EventLemmas.{IsEvent, commands-append, exchanges-append, frames-append, more, never_ends, never_opens, run_events, spellings-append}

module _ {X : Type 0} where
  pub each_of : (P : X → Type 0) (xs : List X) (x : X) → AllByRecursion P xs → Contains xs x → P x
  each_of P xs x each there = All-contains P xs x (all_of_each P xs each) there

  first_of_all : (x : X) (xs : List X) → Contains (x ∷ xs) x
  first_of_all x xs = Contains-append_left (x ∷ []) xs x (Contains-push [] x)

  later_of_all : (y : X) (xs : List X) (x : X) → Contains xs x → Contains (y ∷ xs) x
  later_of_all y xs x there = Contains-append_right (y ∷ []) xs x there

head_same : {X : Type 0} {x y : X} {xs ys : List X} → x ∷ xs ≡ y ∷ ys → x ≡ y
head_same is = cc

tail_same : {X : Type 0} {x y : X} {xs ys : List X} → x ∷ xs ≡ y ∷ ys → xs ≡ ys
tail_same is = cc

-- the commands of events, as bytes
abbrev pub bytes_of : List Event → List Bytes
bytes_of events = map spelling (commands_of events)

-- ---- the commands are carried out

module _ (number : ℕ) where
  abbrev pub AreCarried : List Bytes → List JobEntry → Type 0
  AreCarried cs made = Carried is_init is_exit (opens_in number) leaves_in cs made

  -- the entry is of this exchange
  record IsOf (e : JobEntry) (x : Exchange) : Type 0 where
    opens_as : opens_in number e ≡ opens number (Calls x.0 x.1)
    leaves_as : leaves_in e ≡ ends (Calls x.0 x.1)

  event_carried : (event : Event) (events : List Event) (e : JobEntry) (made : List JobEntry) → IsOf e (exchange_of event) → IsEvent event → IsAnswerTo (exchange_of event).0 (exchange_of event).1 → AreCarried (bytes_of events) made → AreCarried (bytes_of (event ∷ events)) (e ∷ made)
  event_carried (commands command x) events e made of is given carried =
      carried_by is_init is_exit (opens_in number) leaves_in (spelling command) (bytes_of events) e made
      (λ none. of.opens_as ∙ never_opens number x.0 x.1 given.kind (is.opened none)) (λ none. of.leaves_as ∙ never_ends x.0 x.1 given.kind (is.left none)) carried
  event_carried (serves x) events e made of is given carried =
      carried_after is_init is_exit (opens_in number) leaves_in (bytes_of events) (e ∷ []) made
      (quiet_one (opens_in number) leaves_in e (of.opens_as ∙ never_opens number x.0 x.1 given.kind is.opened) (of.leaves_as ∙ never_ends x.0 x.1 given.kind is.left)) carried

  -- calls that carry the commands of events out
  abbrev CarryAll : List JobEntry → List Event → Type 0
  CarryAll made events = AllByRecursion IsEvent events → AreAnswered (exchanges_of events) → exchanges_in made ≡ exchanges_of events → AreCarried (bytes_of events) made

  entry_carried : (e : JobEntry) (made : List JobEntry) → ((events : List Event) → CarryAll made events) → (c : JobCall) (a : JobAnswer) (events : List Event) → e.call ≡ c → e.answer ≡ a
      → AllByRecursion IsEvent events → AreAnswered (exchanges_of events) → exchange_by c a ++ exchanges_in made ≡ exchanges_of events → AreCarried (bytes_of events) (e ∷ made)
  entry_carried e made rest (call.Donor asked) (answer.Donor given) [] ec ea is answered same = absurd (cc (same))
  entry_carried e made rest (call.Donor asked) (answer.Donor given) (event ∷ events) ec ea is answered same =
      let first : (asked, given) ≡ exchange_of event = head_same same in
      let later : exchanges_in made ≡ exchanges_of events = tail_same same in
      let one : IsOf e (asked, given) = record { opens_as = ap₂ (λ c a. is_opening number c a) ec ea; leaves_as = ap₂ (λ c a. is_ending c a) ec ea } in
      event_carried event events e made (subst (IsOf e) first one) is.0 answered.0 (rest events is.1 answered.1 later)
  entry_carried e made rest c a events ec ea is answered same =
      carried_after is_init is_exit (opens_in number) leaves_in (bytes_of events) (e ∷ []) made
      (quiet_one (opens_in number) leaves_in e (ap₂ (λ c a. is_opening number c a) ec ea) (ap₂ (λ c a. is_ending c a) ec ea)) (rest events is answered same)

  carried : (made : List JobEntry) (events : List Event) → CarryAll made events
  carried [] [] = λ is answered same. tt
  carried [] (event ∷ events) = λ is answered same. absurd (cc (same))
  carried (e ∷ made) events = entry_carried e made (carried made) e.call e.answer events refl refl

-- ---- the frames that were sent tell answers

-- the exchange is one of the calls
record IsMade (made : List JobEntry) (x : Exchange) : Type 0 where
  entry : JobEntry
  there : Contains made entry
  call_is : entry.call ≡ call.Donor x.0
  answer_is : entry.answer ≡ answer.Donor x.1

later_made : (e : JobEntry) (made : List JobEntry) (x : Exchange) → IsMade made x → IsMade (e ∷ made) x
later_made e made x is = record { entry = is.entry; there = later_of_all e made is.entry is.there; call_is = is.call_is; answer_is = is.answer_is }

first_made : (e : JobEntry) (made : List JobEntry) (c : JobCall) (a : JobAnswer) → e.call ≡ c → e.answer ≡ a → AllByRecursion (IsMade (e ∷ made)) (exchange_by c a)
first_made e made (call.Donor asked) (answer.Donor given) ec ea = (record { entry = e; there = first_of_all e made; call_is = ec; answer_is = ea }, tt)
first_made e made c a ec ea = tt

all_made : (made : List JobEntry) → AllByRecursion (IsMade made) (exchanges_in made)
all_made [] = tt
all_made (e ∷ made) =
    each_append (IsMade (e ∷ made)) (exchange_by e.call e.answer) (exchanges_in made) (first_made e made e.call e.answer refl refl)
    (each_map (IsMade made) (IsMade (e ∷ made)) (later_made e made) (exchanges_in made) (all_made made))

all_told : (made : List JobEntry) (told : List Exchange) → AreFramesOf Answer (frames_for told) → AllByRecursion (IsMade made) told → AllByRecursion (IsToldBy made) (map spelling (frames_for told))
all_told made [] are each = tt
all_told made (x ∷ xs) are each = by (frame_for x.0 x.1) refl are (λ later. all_told made xs later each.1)
  where
    by : (o : Option Frame) → frame_for x.0 x.1 ≡ o → AreFramesOf Answer (frames_of o ++ frames_for xs) → (AreFramesOf Answer (frames_for xs) → AllByRecursion (IsToldBy made) (map spelling (frames_for xs)))
        → AllByRecursion (IsToldBy made) (map spelling (frames_of o ++ frames_for xs))
    by None is are rest = rest are
    by (Some f) is are rest = (
      record {
        entry = each.0.entry;
        asked = x.0;
        given = x.1;
        sent = f;
        is_made = each.0.there;
        call_is = each.0.call_is;
        answer_is = each.0.answer_is;
        tells = is;
        is = are.0;
        spelled = refl;
      },
      rest are.1,
    )

-- the bytes that tell the answers are the spellings of their frames
entry_told : (c : JobCall) (a : JobAnswer) (xs : List Exchange) (rest : List Bytes) → rest ≡ map spelling (frames_for xs) → told_by c a ++ rest ≡ map spelling (frames_for (exchange_by c a ++ xs))
entry_told (call.Donor asked) (answer.Donor given) xs rest is =
    ap (λ l. map spelling (frames_of (frame_for asked given)) ++ l) is ∙ sym (map-append spelling (frames_of (frame_for asked given)) (frames_for xs))
entry_told c a xs rest is = is

made_told : (made : List JobEntry) → flat_map told_in made ≡ map spelling (frames_for (exchanges_in made))
made_told [] = refl
made_told (e ∷ made) = entry_told e.call e.answer (exchanges_in made) (flat_map told_in made) (made_told made)

told-append : (xs ys : List Exchange) → frames_for (xs ++ ys) ≡ frames_for xs ++ frames_for ys
told-append [] ys = refl
told-append (x ∷ xs) ys = ap (λ l. frames_of (frame_for x.0 x.1) ++ l) (told-append xs ys) ∙ sym (append_assoc (frames_of (frame_for x.0 x.1)) (frames_for xs) (frames_for ys))

front_within : {X : Type 0} (xs ys : List X) → IsSublist xs (xs ++ ys)
front_within [] ys = tt
front_within (x ∷ xs) ys = inl (refl, front_within xs ys)

front_told : (made : List JobEntry) (told untold : List Exchange) → exchanges_in made ≡ told ++ untold → IsSublist (map spelling (frames_for told)) (flat_map told_in made)
front_told made told untold are =
    subst (IsSublist (map spelling (frames_for told)))
    (sym (made_told made ∙ ap (λ xs. map spelling (frames_for xs)) are ∙ ap (λ fs. map spelling fs) (told-append told untold) ∙ map-append spelling (frames_for told) (frames_for untold)))
    (front_within (map spelling (frames_for told)) (map spelling (frames_for untold)))

-- ---- what acknowledges the copy of pages is a command

-- the command that acknowledges it is there
abbrev IsAsked : List Bytes → DonorCall → Type 0
IsAsked cs asked = (caller : Caller) (floor : ℕ) → asked ≡ donor.Ack caller 2 floor → (floor < 2 ^ 64) × Contains cs (spelling (frame.Ack PageCopy floor))

asked_later : (event : Event) (events : List Event) (x : Exchange) → IsAsked (bytes_of events) x.0 → IsAsked (bytes_of (event ∷ events)) x.0
asked_later (commands command y) events x is = λ caller floor same. ((is caller floor same).0, later_of_all (spelling command) (bytes_of events) _ (is caller floor same).1)
asked_later (serves y) events x is = is

asked_first : (event : Event) (events : List Event) → IsEvent event → IsAsked (bytes_of (event ∷ events)) (exchange_of event).0
asked_first (commands command x) events is = λ caller floor same.
    let known = is.acknowledged caller floor same in
    (known.0, subst (λ f. Contains (spelling command ∷ bytes_of events) (spelling f)) known.1 (first_of_all (spelling command) (bytes_of events)))
asked_first (serves x) events is = λ caller floor same. absurd (is.acknowledged caller floor same)

all_asked : (events : List Event) → AllByRecursion IsEvent events → AllByRecursion (λ (x : Exchange). IsAsked (bytes_of events) x.0) (exchanges_of events)
all_asked [] is = tt
all_asked (event ∷ events) is = (
  asked_first event events is.0,
  each_map (λ (x : Exchange). IsAsked (bytes_of events) x.0) (λ (x : Exchange). IsAsked (bytes_of (event ∷ events)) x.0) (asked_later event events) (exchanges_of events) (all_asked events is.1),
)

-- the entry's exchange is among those of the calls
abbrev IsAmong : List Exchange → JobEntry → Type 0
IsAmong xs e = (asked : DonorCall) (given : DonorAnswer) → e.call ≡ call.Donor asked → e.answer ≡ answer.Donor given → Contains xs (asked, given)

first_among : (e : JobEntry) (xs : List Exchange) → IsAmong (exchange_by e.call e.answer ++ xs) e
first_among e xs = λ asked given ec ea. subst (λ ys. Contains (ys ++ xs) (asked, given)) (sym (ap₂ (λ c a. exchange_by c a) ec ea)) (first_of_all (asked, given) xs)

all_among : (made : List JobEntry) → AllByRecursion (IsAmong (exchanges_in made)) made
all_among [] = tt
all_among (e ∷ made) = (
  first_among e (exchanges_in made),
  each_map (IsAmong (exchanges_in made)) (IsAmong (exchanges_in (e ∷ made))) (λ f is asked given ec ea. Contains-append_right (exchange_by e.call e.answer) (exchanges_in made) (asked, given) (is asked given ec ea)) made (all_among made),
)

made_asked : (made : List JobEntry) (events : List Event) → AllByRecursion IsEvent events → exchanges_in made ≡ exchanges_of events → AreAsked (bytes_of events) made
made_asked made events is same = λ e caller floor given there ec ea.
    let among : Contains (exchanges_in made) (donor.Ack caller 2 floor, given) = each_of (IsAmong (exchanges_in made)) made e (all_among made) there _ given ec ea in
    each_of (λ (x : Exchange). IsAsked (bytes_of events) x.0) (exchanges_of events) (donor.Ack caller 2 floor, given) (all_asked events is) (subst (λ xs. Contains xs (donor.Ack caller 2 floor, given)) same among) caller floor refl

-- ---- all that passed

pub record Passes (number : ℕ) (made : List JobEntry) (received sent : List ℕ) : Type 0 where
  pub commands : List Frame
  pub answers : List Frame
  pub are_commands : AreFramesOf Command commands
  pub are_answers : AreFramesOf Answer answers
  pub rest : List ℕ
  pub heard : received ≡ spellings commands ++ rest
  pub answered : sent ≡ spellings answers
  pub carries : AreCarried number (map spelling commands) made
  pub told : IsSublist (map spelling answers) (flat_map told_in made)
  pub tells : AllByRecursion (IsToldBy made) (map spelling answers)
  pub acknowledged : AreAsked (map spelling commands) made

pub passes : (number : ℕ) (end : ServeEnd) (exchanges : List Exchange) (made : List JobEntry) (received sent : List ℕ) → AreCalls exchanges made → Carries end exchanges received sent → Passes number made received sent
passes number end exchanges made received sent calls c =
    let s = c.served in
    let last = more c.doing c.left c.untold c.last in
    let events = s.events ++ last.events in
    let is : AllByRecursion IsEvent events = each_append IsEvent s.events last.events (run_events New c.doing s.events s.frames s.commands s.run) last.is in
    let all : exchanges_in made ≡ c.told ++ c.untold = calls.are ∙ c.calls in
    let same : exchanges_in made ≡ exchanges_of events = all ∙ (ap₂ (λ xs ys. xs ++ ys) s.calls last.are ∙ sym (exchanges-append s.events last.events)) in
    let answered : AreAnswered (exchanges_of events) = subst AreAnswered (sym calls.are ∙ same) calls.answered in
    let frames : s.frames ≡ frames_for c.told = frames_are_answers New c.doing s.events s.frames s.run ∙ ap frames_for (sym s.calls) in
    let both : commands_of events ≡ commands_of s.events ++ commands_of last.events = commands-append s.events last.events in
    let each : AllByRecursion (IsMade made) c.told = each_left (IsMade made) c.told c.untold (subst (AllByRecursion (IsMade made)) all (all_made made)) in
    let are : AreFramesOf Answer (frames_for c.told) = subst (AreFramesOf Answer) frames s.answers in
    record {
      commands = commands_of events;
      answers = frames_for c.told;
      are_commands = subst (AreFramesOf Command) (sym both) (frames-append (commands_of s.events) (commands_of last.events) s.commands last.frames);
      are_answers = are;
      rest = last.rest;
      heard = s.taken ∙ ap (λ l. spellings (commands_of s.events) ++ l) last.taken ∙ sym (append_assoc (spellings (commands_of s.events)) (spellings (commands_of last.events)) last.rest)
          ∙ ap (λ l. l ++ last.rest) (sym (ap spellings both ∙ spellings-append (commands_of s.events) (commands_of last.events)));
      answered = s.told ∙ ap spellings frames;
      carries = carried number made events is answered same;
      told = front_told made c.told c.untold all;
      tells = all_told made c.told are each;
      acknowledged = made_asked made events is same;
    }

-- What an end has served goes on, and its frames tell the donor's answers.
use Rattle.std.proofs.Common.{◌≡◌, ℕ, List, [], ◌∷◌, ◌++◌, Some, None, refl, sym, ap, ap₂, subst, ◌∙◌, append_assoc, inl, inr}
use Rattle.std.proofs.lemmas.List.{append-nil}
use Rattle.std.proofs.lemmas.Option.{same_Some}
use Rattle.std.specs.declared.option.Option.{Option}
use Rattle.clone_session.specs.declared.caller.Caller.{Caller}
use Rattle.clone_wire.specs.Spelling.{spelling}
use Rattle.clone_wire.specs.declared.frame.Frame.{Frame}
use Rattle.clone_wire.specs.declared.frame.Side.{Side}
use Rattle.clone_wire.specs.declared.frame.Side.TheVariants.{Answer, Command}
use Rattle.clone_stream.specs.Streams.{AreFramesOf, spellings}
use Rattle.clone_calls.specs.declared.answer.DonorAnswer.{DonorAnswer}
use Rattle.clone_calls.specs.declared.call.DonorCall.{DonorCall}
use Rattle.clone_serve.specs.Following.{after, call_in}
use Rattle.clone_serve.specs.Runs.{Event, Makes, Runs, Served, asks, awaits_of, commands, commands_of, exchange_of, exchanges_of, serves}
use Rattle.clone_serve.specs.Serving.{Begins, Commands, Follows, GoesOn, TakesCommand, WasSent, doing_after, sends_of, turn_after, with_frame}
use Rattle.clone_serve.specs.Stepping.{Goes, IsCarriedOut, IsStep}
use Rattle.clone_serve.specs.Telling.{Exchange, frame_for, frames_for, frames_of}
use Rattle.clone_serve.specs.declared.after.After.{After}
use Rattle.clone_serve.specs.declared.after.After.TheVariants.{Asks, Ends}
use Rattle.clone_serve.specs.declared.doing.Doing.{Doing}
use Rattle.clone_serve.specs.declared.doing.Doing.TheVariants.{New, Ready, Serving}
use Rattle.clone_serve.specs.declared.turn.ServeAnswer.{ServeAnswer}
use Rattle.clone_serve.specs.declared.turn.ServeAnswer.TheVariants.{Garbled, Idle, NoMemory}
use Rattle.clone_serve.specs.declared.turn.ServeTurn.{ServeTurn}
use Rattle.clone_serve.specs.declared.turn.ServeTurn.TheVariants.{Ask, Done}
use Rattle.clone_serve.proofs.AnswerLemmas.{serving_fits}
use Rattle.clone_serve.proofs.CommandLemmas.{command_fits}
use Rattle.clone_serve.proofs.StepLemmas.{stops}

-- ---- lists that grow

-- a run goes on by an event
run_on : (d t : Doing) (events : List Event) (sent : List Frame) (event : Event) (next : After) → Runs d events sent t → Makes t event next
    → Runs d (events ++ event ∷ []) (sent ++ frames_of (sends_of next)) (doing_after next)
run_on d t [] sent event next run makes =
    (next, [], subst (λ s. Makes s event next) run.1 makes, ap (λ l. l ++ frames_of (sends_of next)) run.0 ∙ sym (append-nil (frames_of (sends_of next))), (refl, refl))
run_on d t (first ∷ events) sent event next run makes =
    let rest = run_on (doing_after run.0) t events run.1 event next run.4 makes in
    (run.0, run.1 ++ frames_of (sends_of next), run.2, ap (λ l. l ++ frames_of (sends_of next)) run.3 ∙ append_assoc (frames_of (sends_of run.0)) run.1 (frames_of (sends_of next)), rest)

spellings-append : (xs ys : List Frame) → spellings (xs ++ ys) ≡ spellings xs ++ spellings ys
spellings-append [] ys = refl
spellings-append (x ∷ xs) ys = ap (λ l. spelling x ++ l) (spellings-append xs ys) ∙ sym (append_assoc (spelling x) (spellings xs) (spellings ys))

commands-append : (xs ys : List Event) → commands_of (xs ++ ys) ≡ commands_of xs ++ commands_of ys
commands-append [] ys = refl
commands-append (commands f x ∷ xs) ys = ap (λ l. f ∷ l) (commands-append xs ys)
commands-append (serves x ∷ xs) ys = commands-append xs ys

exchanges-append : (xs ys : List Event) → exchanges_of (xs ++ ys) ≡ exchanges_of xs ++ exchanges_of ys
exchanges-append [] ys = refl
exchanges-append (x ∷ xs) ys = ap (λ l. exchange_of x ∷ l) (exchanges-append xs ys)

frames-append : (side : Side) (xs ys : List Frame) → AreFramesOf side xs → AreFramesOf side ys → AreFramesOf side (xs ++ ys)
frames-append side [] ys p q = q
frames-append side (x ∷ xs) ys p q = (p.0, frames-append side xs ys p.1 q)

of_donor : (sends : Option Frame) → WasSent sends → AreFramesOf Answer (frames_of sends)
of_donor None is = tt
of_donor (Some f) is = (is, tt)

told_on : (sends : Option Frame) (frames : List Frame) (sent : List ℕ) → sent ≡ spellings frames → with_frame sends sent ≡ spellings (frames ++ frames_of sends)
told_on None frames sent e = e ∙ ap spellings (sym (append-nil frames))
told_on (Some f) frames sent e = ap (λ l. l ++ spelling f) e ∙ sym (spellings-append frames (f ∷ []) ∙ ap (λ l. spellings frames ++ l) (append-nil (spelling f)))

-- ---- what an end has served

pub new : Served New [] [] [] []
new = record { events = []; frames = []; run = (refl, refl); calls = refl; commands = tt; answers = tt; taken = refl; told = refl }

pub comes : (d : Doing) (exchanges : List Exchange) (received left sent more : List ℕ) → Served d exchanges received left sent → Served d exchanges (received ++ more) (left ++ more) sent
comes d exchanges received left sent more s = record {
  events = s.events;
  frames = s.frames;
  run = s.run;
  calls = s.calls;
  commands = s.commands;
  answers = s.answers;
  told = s.told;
  taken = ap (λ l. l ++ more) s.taken ∙ append_assoc (spellings (commands_of s.events)) left more;
}

-- an event that takes these bytes of a command
serve_on : (d u : Doing) (exchanges : List Exchange) (received left after_left sent after_sent : List ℕ) (event : Event) (next : After) (turn : ServeTurn) → Served d exchanges received left sent → Makes d event next → AreFramesOf Command (commands_of (event ∷ []))
    → left ≡ spellings (commands_of (event ∷ [])) ++ after_left → Follows next sent after_sent u turn → Served u (exchanges ++ exchange_of event ∷ []) received after_left after_sent
serve_on d u exchanges received left after_left sent after_sent event next turn s makes is_command taken follows = record {
  events = s.events ++ event ∷ [];
  frames = s.frames ++ frames_of (sends_of next);
  run = subst (λ t. Runs New (s.events ++ event ∷ []) (s.frames ++ frames_of (sends_of next)) t) (sym follows.doing) (run_on New d s.events s.frames event next s.run makes);
  calls = ap (λ l. l ++ exchange_of event ∷ []) s.calls ∙ sym (exchanges-append s.events (event ∷ []));
  commands = subst (AreFramesOf Command) (sym (commands-append s.events (event ∷ []))) (frames-append Command (commands_of s.events) (commands_of (event ∷ [])) s.commands is_command);
  answers = frames-append Answer s.frames (frames_of (sends_of next)) s.answers (of_donor (sends_of next) follows.is);
  taken = s.taken ∙ ap (λ l. spellings (commands_of s.events) ++ l) taken ∙ sym (append_assoc (spellings (commands_of s.events)) (spellings (commands_of (event ∷ []))) after_left)
      ∙ ap (λ l. l ++ after_left) (sym (ap spellings (commands-append s.events (event ∷ [])) ∙ spellings-append (commands_of s.events) (commands_of (event ∷ []))));
  told = follows.sends ∙ told_on (sends_of next) s.frames sent s.told;
}

pub goes_on : (d u : Doing) (exchanges : List Exchange) (received left sent after_sent : List ℕ) (asked : DonorCall) (given : DonorAnswer) (next : After) (turn : ServeTurn) → Served d exchanges received left sent → asks d ≡ Some asked
    → after d given ≡ Some next → Follows next sent after_sent u turn → Served u (exchanges ++ (asked, given) ∷ []) received left after_sent
goes_on d u exchanges received left sent after_sent asked given next turn s is follows then =
    serve_on d u exchanges received left left sent after_sent (serves (asked, given)) next turn s (record { call = is; follows = follows }) tt refl then

command_on : (bound : Option Caller) (d t u : Doing) (exchanges : List Exchange) (received left after_left sent after_sent : List ℕ) (asked : DonorCall) (given : DonorAnswer) (next : After) (turn : ServeTurn) → awaits_of d ≡ Some bound → Served d exchanges received left sent
    → Commands bound left after_left t asked → after t given ≡ Some next → Follows next sent after_sent u turn → Served u (exchanges ++ (asked, given) ∷ []) received after_left after_sent
command_on bound d t u exchanges received left after_left sent after_sent asked given next turn awaits s c follows then =
    serve_on d u exchanges received left after_left sent after_sent (commands c.command (asked, given)) next turn s
    (record { bound = bound; awaits = awaits; meanwhile = t; call = c.asks; follows = follows }) (c.is, tt)
    (c.taken ∙ ap (λ l. l ++ after_left) (sym (append-nil (spelling c.command)))) then

same_ask : (a b : DonorCall) → Ask a ≡ Ask b → a ≡ b
same_ask a b e = cc

pub begins : (d t u : Doing) (exchanges : List Exchange) (received left after_left sent after_sent : List ℕ) (asked : DonorCall) (given : DonorAnswer) (next : After) (turn : ServeTurn) → Served d exchanges received left sent
    → Begins d left after_left t (Ask asked) → after t given ≡ Some next → Follows next sent after_sent u turn → Served u (exchanges ++ (asked, given) ∷ []) received after_left after_sent
begins New t u exchanges received left after_left sent after_sent asked given next turn s b follows then =
    command_on None New t u exchanges received left after_left sent after_sent asked given next turn refl s b follows then
begins (Ready caller) t u exchanges received left after_left sent after_sent asked given next turn s b follows then =
    command_on (Some caller) (Ready caller) t u exchanges received left after_left sent after_sent asked given next turn refl s b follows then
begins (Serving run work) t u exchanges received left after_left sent after_sent asked given next turn s b follows then =
    subst (λ l. Served u (exchanges ++ (asked, given) ∷ []) received l after_sent) (sym b.1)
    (goes_on (Serving run work) u exchanges received left sent after_sent asked given next turn s (ap (λ (c : DonorCall). Some c) (sym (same_ask asked (call_in run work) b.0))) (ap (λ x. after x given) (sym b.2) ∙ follows) then)
begins _ t u exchanges received left after_left sent after_sent asked given next turn s b follows then = absurd (cc (b.0))

pub asks_again : (next : After) (asked : DonorCall) → turn_after next ≡ Ask asked → asks (doing_after next) ≡ Some asked
asks_again (Asks run work) asked e = ap (λ (c : DonorCall). Some c) (same_ask (call_in run work) asked e)
asks_again (Ends doing sends says) asked e = absurd (cc (e))

-- ---- a whole step

same_left : (bound : Option Caller) (d t : Doing) (received left : List ℕ) (says : ServeAnswer) → TakesCommand bound received left d t (Done says) → IsCarriedOut says → (left ≡ received) × (t ≡ d)
same_left bound d t received left Idle takes is = (takes.2, takes.3)
same_left bound d t received left (Garbled kept) takes is = absurd is
same_left bound d t received left NoMemory takes is = absurd is
same_left bound d t received left _ takes is = absurd takes

-- a step that asks for nothing takes nothing
begins_same : (d t : Doing) (received left : List ℕ) (says : ServeAnswer) → Begins d received left t (Done says) → IsCarriedOut says → (left ≡ received) × (t ≡ d)
begins_same New t received left says b is = same_left None New t received left says b is
begins_same (Ready caller) t received left says b is = same_left (Some caller) (Ready caller) t received left says b is
begins_same (Serving run work) t received left says b is = absurd (cc (b.0))
begins_same _ t received left says b is = (b.1, b.2)

-- what asks again asks for what is done
abbrev AsksOn : Doing → ServeTurn → Type 0
AsksOn d turn = (asked : DonorCall) → turn ≡ Ask asked → asks d ≡ Some asked

follows_on : (next : After) (sent_old sent_new : List ℕ) (t : Doing) (turn : ServeTurn) → Follows next sent_old sent_new t turn → AsksOn t turn
follows_on next sent_old sent_new t turn follows asked e = ap asks follows.doing ∙ asks_again next asked (sym follows.turns ∙ e)

not_failed : {X : Type 0} (exchanges : List Exchange) (d t : Doing) (turn : ServeTurn) (sent_old sent_new : List ℕ) (says : ServeAnswer) → turn ≡ Done NoMemory → Goes exchanges d turn sent_old sent_new t says → IsCarriedOut says → X
not_failed exchanges d t turn sent_old sent_new says failed goes is = absurd (subst IsCarriedOut (stops exchanges d t turn sent_old sent_new NoMemory says failed goes).2 is)

-- an exchange, and the rest
exchange_serves : (x : Exchange) (xs before : List Exchange) (d e t : Doing) (turn : ServeTurn) (received left sent mid after_sent : List ℕ) (says : ServeAnswer)
    → ((next : After) → after d x.1 ≡ Some next → Follows next sent mid e turn → Served e (before ++ x ∷ []) received left mid)
    → (AsksOn e turn → Served e (before ++ x ∷ []) received left mid → Served t ((before ++ x ∷ []) ++ xs) received left after_sent)
    → GoesOn d x.1 sent mid e turn → Goes xs e turn mid after_sent t says → IsCarriedOut says → Served t (before ++ x ∷ xs) received left after_sent
exchange_serves x xs before d e t turn received left sent mid after_sent says one more (inl went) rest is =
    subst (λ l. Served t l received left after_sent) (append_assoc before (x ∷ []) xs) (more (follows_on went.0 sent mid e turn went.2) (one went.0 went.1 went.2))
exchange_serves x xs before d e t turn received left sent mid after_sent says one more (inr fails) rest is =
    not_failed xs e t turn mid after_sent says fails.says rest is

rest_serves : (exchanges before : List Exchange) (d t : Doing) (turn : ServeTurn) (received left sent after_sent : List ℕ) (says : ServeAnswer) → AsksOn d turn → Served d before received left sent
    → Goes exchanges d turn sent after_sent t says → IsCarriedOut says → Served t (before ++ exchanges) received left after_sent
rest_serves [] before d t turn received left sent after_sent says on s goes is =
    subst (λ xs. Served t xs received left after_sent) (sym (append-nil before)) (subst (λ x. Served x before received left after_sent) (sym goes.2) (subst (λ l. Served d before received left l) (sym goes.1) s))
rest_serves (x ∷ xs) before d t turn received left sent after_sent says on s goes is =
    exchange_serves x xs before d goes.1.0 t goes.1.2 received left sent goes.1.1 after_sent says
    (λ next follows then. goes_on d goes.1.0 before received left sent goes.1.1 x.0 x.1 next goes.1.2 s (on x.0 goes.0) follows then)
    (λ again one. rest_serves xs (before ++ x ∷ []) goes.1.0 t goes.1.2 received left goes.1.1 after_sent says again one goes.1.4 is)
    goes.1.3 goes.1.4 is

first_serves : (exchanges before : List Exchange) (d e t : Doing) (turn : ServeTurn) (received left after_left sent after_sent : List ℕ) (says : ServeAnswer) → Served d before received left sent
    → Begins d left after_left e turn → Goes exchanges e turn sent after_sent t says → IsCarriedOut says → Served t (before ++ exchanges) received after_left after_sent
first_serves [] before d e t turn received left after_left sent after_sent says s b goes is =
    let same = begins_same d e left after_left says (subst (Begins d left after_left e) goes.0 b) is in
    let moved : Served d before received after_left after_sent = subst (λ l. Served d before received l after_sent) (sym same.0) (subst (λ l. Served d before received left l) (sym goes.1) s) in
    subst (λ xs. Served t xs received after_left after_sent) (sym (append-nil before)) (subst (λ x. Served x before received after_left after_sent) (sym (goes.2 ∙ same.1)) moved)
first_serves (x ∷ xs) before d e t turn received left after_left sent after_sent says s b goes is =
    exchange_serves x xs before e goes.1.0 t goes.1.2 received after_left sent goes.1.1 after_sent says
    (λ next follows then. begins d e goes.1.0 before received left after_left sent goes.1.1 x.0 x.1 next goes.1.2 s (subst (Begins d left after_left e) goes.0 b) follows then)
    (λ again one. rest_serves xs (before ++ x ∷ []) goes.1.0 t goes.1.2 received after_left goes.1.1 after_sent says again one goes.1.4 is)
    goes.1.3 goes.1.4 is

pub step_serves : (before exchanges : List Exchange) (d t : Doing) (received left after_left sent after_sent : List ℕ) (says : ServeAnswer) → Served d before received left sent
    → IsStep exchanges d left after_left sent after_sent t says → IsCarriedOut says → Served t (before ++ exchanges) received after_left after_sent
step_serves before exchanges d t received left after_left sent after_sent says s step is =
    first_serves exchanges before d step.begun t step.turn received left after_left sent after_sent says s step.begins step.goes is

-- ---- the frames of a run

event_tells : (d : Doing) (event : Event) (next : After) → Makes d event next → sends_of next ≡ frame_for (exchange_of event).0 (exchange_of event).1
event_tells d (commands f x) next makes = ((command_fits makes.bound f (record { call = x.0; doing = makes.meanwhile }) makes.call).right x.1 next makes.follows).sends
event_tells (Serving run work) (serves x) next makes =
    ((serving_fits run work).right x.1 next makes.follows).sends ∙ ap (λ (c : DonorCall). frame_for c x.1) (same_Some (call_in run work) x.0 makes.call)
event_tells _ (serves x) next makes = absurd (cc (makes.call))

pub frames_are_answers : (d t : Doing) (events : List Event) (sent : List Frame) → Runs d events sent t → sent ≡ frames_for (exchanges_of events)
frames_are_answers d t [] sent run = run.0
frames_are_answers d t (event ∷ events) sent run =
    run.3 ∙ ap₂ (λ f l. frames_of f ++ l) (event_tells d event run.0 run.2) (frames_are_answers (doing_after run.0) t events run.1 run.4)

-- What a requester has fetched goes on by each step.
use Rattle.std.proofs.Common.{ℕ, ◌≡◌, ◌+◌, ◌≤◌, List, [], ◌∷◌, ◌++◌, length, refl, sym, ap, ◌∙◌, append_assoc, arith}
use Rattle.std.proofs.lemmas.List.{append-nil}
use Rattle.clone_wire.specs.declared.frame.Side.{Side}
use Rattle.clone_wire.specs.declared.frame.Side.TheVariants.{Answer, Command}
use Rattle.clone_wire.specs.declared.frame.Frame.{Frame}
use Rattle.clone_wire.specs.declared.frame.Frame.TheVariants.{Exit}
use Rattle.clone_wire.specs.Spelling.{spelling}
use Rattle.clone_stream.specs.Streams.{AreFramesOf, IsFrameOf, spellings}
use Rattle.clone_tasks.specs.declared.rule.Link.{Link}
use Rattle.clone_tasks.specs.declared.rule.Rule.{Rule}
use Rattle.clone_tasks.specs.declared.rule.Rule.TheVariants as rule
use Rattle.clone_fetch.specs.declared.answer.TaskAnswer.{TaskAnswer}
use Rattle.clone_fetch.specs.Fetching.{Completes, PutsOut, Receives, Requester, StepsBy}
use Rattle.clone_fetch.specs.Fetching.{puts, no_frame, no_bytes, takes, garbled, loses, waits, not_read, completes, not_completed, not_marked, not_left}
use Rattle.clone_fetch.specs.Fetched.{Fetched, GoesOn}

spellings_append : (xs ys : List Frame) → spellings (xs ++ ys) ≡ spellings xs ++ spellings ys
spellings_append [] ys = refl
spellings_append (x ∷ xs) ys = ap (λ l. spelling x ++ l) (spellings_append xs ys) ∙ sym (append_assoc (spelling x) (spellings xs) (spellings ys))

frames_append : (side : Side) (xs ys : List Frame) → AreFramesOf side xs → AreFramesOf side ys → AreFramesOf side (xs ++ ys)
frames_append side [] ys p q = q
frames_append side (x ∷ xs) ys p q = (p.0, frames_append side xs ys p.1 q)

pub begins : Fetched [] [] [] [] []
begins = record { answers = tt; commands = tt; took = refl; told = refl }

pub comes : (taken put : List Frame) (received left sent more : List ℕ) → Fetched taken put received left sent → Fetched taken put (received ++ more) (left ++ more) sent
comes taken put received left sent more f = record {
  answers = f.answers;
  commands = f.commands;
  told = f.told;
  took = ap (λ l. l ++ more) f.took ∙ append_assoc (spellings taken) left more;
}

goes_on : (taken put got out : List Frame) (received left after sent after_sent : List ℕ) → Fetched taken put received left sent → AreFramesOf Answer got → AreFramesOf Command out
    → left ≡ spellings got ++ after → after_sent ≡ sent ++ spellings out → length got + length out ≤ 1 → GoesOn taken put received after after_sent
goes_on taken put got out received left after sent after_sent f answers commands took told one = record {
  next_taken = got;
  next_put = out;
  one = one;
  fetched = record {
    answers = frames_append Answer taken got f.answers answers;
    commands = frames_append Command put out f.commands commands;
    took = f.took ∙ ap (λ l. spellings taken ++ l) took ∙ sym (append_assoc (spellings taken) (spellings got) after) ∙ ap (λ l. l ++ after) (sym (spellings_append taken got));
    told = told ∙ ap (λ l. l ++ spellings out) f.told ∙ sym (spellings_append put out);
  };
}

stays : (taken put : List Frame) (received left after sent after_sent : List ℕ) → Fetched taken put received left sent → after ≡ left → after_sent ≡ sent → GoesOn taken put received after after_sent
stays taken put received left after sent after_sent f took told = goes_on taken put [] [] received left after sent after_sent f tt tt (sym took) (told ∙ sym (append-nil sent)) (omega (arith))

takes_one : (taken put : List Frame) (got : Frame) (received left after sent after_sent : List ℕ) → Fetched taken put received left sent → IsFrameOf Answer got → left ≡ spelling got ++ after
    → after_sent ≡ sent → GoesOn taken put received after after_sent
takes_one taken put got received left after sent after_sent f is took told =
    goes_on taken put (got ∷ []) [] received left after sent after_sent f (is, tt) tt (took ∙ ap (λ l. l ++ after) (sym (append-nil (spelling got)))) (told ∙ sym (append-nil sent)) (omega (arith))

puts_one : (taken put : List Frame) (next : Frame) (received left after sent after_sent : List ℕ) → Fetched taken put received left sent → IsFrameOf Command next → after ≡ left
    → after_sent ≡ sent ++ spelling next → GoesOn taken put received after after_sent
puts_one taken put next received left after sent after_sent f is took told =
    goes_on taken put [] (next ∷ []) received left after sent after_sent f tt (is, tt) (sym took) (told ∙ ap (λ l. sent ++ l) (sym (append-nil (spelling next)))) (omega (arith))

by_sending : (taken put : List Frame) (received : List ℕ) (which : Rule) (task floor : ℕ) (old new : Requester) (answer : TaskAnswer) → Fetched taken put received old.received old.sent
    → PutsOut which task floor old.reception new.reception old.sent new.sent answer → new.received ≡ old.received → GoesOn taken put received new.received new.sent
by_sending taken put received which task floor old new answer f (puts next is sent table bytes says) same = puts_one taken put next received _ _ _ _ f is same bytes
by_sending taken put received which task floor old new answer f (no_frame table bytes says) same = stays taken put received _ _ _ _ f same bytes
by_sending taken put received which task floor old new answer f (no_bytes table bytes says) same = stays taken put received _ _ _ _ f same bytes

by_receiving : (taken put : List Frame) (received : List ℕ) (at : Link) (task : ℕ) (old new : Requester) (answer : TaskAnswer) → Fetched taken put received old.received old.sent
    → Receives task at old.reception new.reception old.disk new.disk old.received new.received answer → new.sent ≡ old.sent → GoesOn taken put received new.received new.sent
by_receiving taken put received at task old new answer f (takes got is left by) same = takes_one taken put got received _ _ _ _ f is left same
by_receiving taken put received at task old new answer f (garbled lost by disk left) same = stays taken put received _ _ _ _ f left same
by_receiving taken put received at task old new answer f (loses lost part table disk left says) same = stays taken put received _ _ _ _ f left same
by_receiving taken put received at task old new answer f (waits up part table disk left says) same = stays taken put received _ _ _ _ f left same
by_receiving taken put received at task old new answer f (not_read table disk left says) same = stays taken put received _ _ _ _ f left same

by_completing : (taken put : List Frame) (received : List ℕ) (old new : Requester) (answer : TaskAnswer) → Fetched taken put received old.received old.sent
    → Completes old.reception new.reception old.disk.told new.disk.told old.sent new.sent answer → new.received ≡ old.received → GoesOn taken put received new.received new.sent
by_completing taken put received old new answer f (completes last is mark table bytes says) same = puts_one taken put Exit received _ _ _ _ f (record { is = tt; sender = refl }) same bytes
by_completing taken put received old new answer f (not_completed last is mark table bytes says) same = stays taken put received _ _ _ _ f same bytes
by_completing taken put received old new answer f (not_marked last is mark table bytes says) same = stays taken put received _ _ _ _ f same bytes
by_completing taken put received old new answer f (not_left last is mark table bytes says) same = stays taken put received _ _ _ _ f same bytes

by_nothing : (taken put : List Frame) (received : List ℕ) (old new : Requester) → Fetched taken put received old.received old.sent → new ≡ old → GoesOn taken put received new.received new.sent
by_nothing taken put received old new f same = stays taken put received _ _ _ _ f (ap (λ (r : Requester). r.received) same) (ap (λ (r : Requester). r.sent) same)

pub steps : (taken put : List Frame) (received : List ℕ) (which : Rule) (at : Link) (task floor : ℕ) (old new : Requester) (answer : TaskAnswer) → Fetched taken put received old.received old.sent
    → StepsBy which at task floor old new answer → GoesOn taken put received new.received new.sent
steps taken put received rule.Nothing at task floor old new answer f s = by_nothing taken put received old new f s.0
steps taken put received rule.Stale at task floor old new answer f s = by_nothing taken put received old new f s.0
steps taken put received rule.Connect at task floor old new answer f s = by_sending taken put received rule.Connect task floor old new answer f s.0 s.2
steps taken put received (rule.Acknowledge stage) at task floor old new answer f s = by_sending taken put received (rule.Acknowledge stage) task floor old new answer f s.0 s.2
steps taken put received (rule.Execute stage) at task floor old new answer f s = by_sending taken put received (rule.Execute stage) task floor old new answer f s.0 s.2
steps taken put received rule.Receive at task floor old new answer f s = by_receiving taken put received at task old new answer f s.0 s.1
steps taken put received rule.Complete at task floor old new answer f s = by_completing taken put received old new answer f s.0 s.1

-- A line makes one event, or it is a `set`, or none of its events commits or begins, as those of
-- `clean` and of `clone`.
use Rattle.std.proofs.Common.{◌≡◌, ℕ, zero, suc, ◌+◌, List, [], ◌∷◌, ◌++◌, refl, sym, subst, ◌∙◌, append_assoc, None, Ok, Err, flat_map, nat_cmp}
use Rattle.clone_events.proofs.Common.{AllByRecursion, FinMap, Line, Cause, EngineCall, Event, made, acts, ordered, counted, committed_at, Makes, MakesOne, MakesSet, MakesClean, all_clean, not_flushed, flushed, Starts, Finishes, Advances, GoesOn, IsBy, AreOfTasks, AreOfDonor, IsRound, AreRounds, no_round, next_round, MakesClone, HidesRows, IsExchange, loses, comes, MakesFollow, asks_nothing, hides, asks, first_asks}
use Rattle.clone_plain.specs.declared.call.EngineCall.TheVariants as call
use Rattle.clone_script.specs.declared.lines.Line.TheVariants as lines

-- by an event nothing commits, and no transaction begins
pub record IsQuiet (e : Event) : Type 0 where
  pub commits : committed_at e ≡ None
  pub begins : (begun : FinMap nat_cmp ℕ) → counted e begun ≡ begun

pub data Shape (events : List Event) : Type 0 where
  one : (e : Event) → events ≡ e ∷ [] → Shape events
  sets : (writer index table key : ℕ) (value : List ℕ) → MakesSet writer index table key value events → Shape events
  quiet : AllByRecursion IsQuiet events → Shape events

is_quiet : (e : Event) → committed_at e ≡ None → ((begun : FinMap nat_cmp ℕ) → counted e begun ≡ begun) → IsQuiet e
is_quiet e commits begins = record { commits = commits; begins = begins }

flushed_quiet : (page : ℕ × ℕ) (rest : List Event) → AllByRecursion IsQuiet rest → AllByRecursion IsQuiet (flushed page ++ rest)
flushed_quiet page rest is =
    (is_quiet _ refl (λ begun. refl), (is_quiet _ refl (λ begun. refl), (is_quiet _ refl (λ begun. refl), (is_quiet _ refl (λ begun. refl), is))))

pages_quiet : (pages : List (ℕ × ℕ)) (rest : List Event) → AllByRecursion IsQuiet rest → AllByRecursion IsQuiet (flat_map flushed pages ++ rest)
pages_quiet [] rest is = is
pages_quiet (page ∷ pages) rest is = flushed_quiet page (flat_map flushed pages ++ rest) (pages_quiet pages rest is)

-- a front of events, and then one more
front_quiet : (front rest : List Event) (e : Event) → AllByRecursion IsQuiet (front ++ rest) → IsQuiet e → AllByRecursion IsQuiet (front ++ e ∷ [])
front_quiet [] rest e all is = (is, tt)
front_quiet (f ∷ front) rest e all is = (all.0, front_quiet front rest e all.1 is)

-- a call that is refused
refused_quiet : (asked : EngineCall) (cause : Cause) → IsQuiet (made asked (Err cause))
refused_quiet (call.Begin writer index) cause = is_quiet _ refl (λ begun. refl)
refused_quiet asked cause = is_quiet _ refl (λ begun. refl)

clean_quiet : (events : List Event) → MakesClean events → AllByRecursion IsQuiet events
clean_quiet events (all_clean pages is) = subst (AllByRecursion IsQuiet) (sym is) (pages_quiet pages _ (is_quiet _ refl (λ begun. refl), (is_quiet _ refl (λ begun. refl), tt)))
clean_quiet events (not_flushed pages page front rest asked given cause split is) =
    let last : Event = made asked (Err cause) in
    let all = subst (AllByRecursion IsQuiet) split (flushed_quiet page [] tt) in
    let front_last = front_quiet front (made asked (Ok given) ∷ rest) last all (refused_quiet asked cause) in
    subst (AllByRecursion IsQuiet) (sym (is ∙ append_assoc (flat_map flushed pages) front (last ∷ []))) (pages_quiet pages (front ++ last ∷ []) front_last)

call_shape : (asked : EngineCall) (events : List Event) → MakesOne asked events → Shape events
call_shape asked events is = one (made asked is.0) is.1

-- none of these is a call
starts_quiet : (e : Event) → Starts e → IsQuiet e
starts_quiet (made asked answer) is = absurd is
starts_quiet e is = is_quiet e refl (λ begun. refl)

finishes_quiet : (e : Event) → Finishes e → IsQuiet e
finishes_quiet (made asked answer) is = absurd is
finishes_quiet e is = is_quiet e refl (λ begun. refl)

advances_quiet : (e : Event) → Advances e → IsQuiet e
advances_quiet (made asked answer) is = absurd is
advances_quiet e is = is_quiet e refl (λ begun. refl)

-- nor are steps of tasks and of the donor
by_quiet : (line : Line) (e : Event) → IsBy line e → IsQuiet e
by_quiet line (acts by changes answer) is = is_quiet _ refl (λ begun. refl)
by_quiet line e is = absurd is

quiet_append : (xs ys : List Event) → AllByRecursion IsQuiet xs → AllByRecursion IsQuiet ys → AllByRecursion IsQuiet (xs ++ ys)
quiet_append [] ys first second = second
quiet_append (x ∷ xs) ys first second = (first.0, quiet_append xs ys first.1 second)

tasks_quiet : (first count : ℕ) (events : List Event) → AreOfTasks first count events → AllByRecursion IsQuiet events
tasks_quiet first zero events is = subst (AllByRecursion IsQuiet) (sym is) tt
tasks_quiet first (suc count) [] is = absurd is
tasks_quiet first (suc count) (e ∷ events) is = (by_quiet _ e is.0, tasks_quiet (first + 1) count events is.1)

donor_quiet : (least : ℕ) (events : List Event) → AreOfDonor least events → AllByRecursion IsQuiet events
donor_quiet least [] is = tt
donor_quiet least (e ∷ events) is = (by_quiet _ e is.2, donor_quiet (is.0 + 1) events is.3)

round_quiet : (tasks : ℕ) (events : List Event) → IsRound tasks events → AllByRecursion IsQuiet events
round_quiet tasks events is = subst (AllByRecursion IsQuiet) (sym is.split) (quiet_append is.by_tasks is.by_donor (tasks_quiet 0 tasks is.by_tasks is.of_tasks) (donor_quiet 0 is.by_donor is.of_donor))

rounds_quiet : (tasks : ℕ) (events : List Event) → AreRounds tasks events → AllByRecursion IsQuiet events
rounds_quiet tasks [] no_round = tt
rounds_quiet tasks events (next_round round rest is are) = quiet_append round rest (round_quiet tasks round is) (rounds_quiet tasks rest are)

goes_quiet : (tasks : ℕ) (Kind : Event → Type 0) (events : List Event) → ((e : Event) → Kind e → IsQuiet e) → GoesOn tasks Kind events → AllByRecursion IsQuiet events
goes_quiet tasks Kind events are is = subst (AllByRecursion IsQuiet) (sym is.is) (quiet_append is.rounds (is.last ∷ []) (rounds_quiet tasks is.rounds is.are) (are is.last is.kind, tt))

clone_quiet : (tasks : ℕ) (events : List Event) → MakesClone tasks events → AllByRecursion IsQuiet events
clone_quiet tasks events is = subst (AllByRecursion IsQuiet) (sym is.4) (starts_quiet is.0 is.2, goes_quiet tasks Finishes is.1 finishes_quiet is.3)

-- nor are those of a follower
hides_quiet : (e : Event) → HidesRows e → IsQuiet e
hides_quiet (made asked answer) is = absurd is
hides_quiet e is = is_quiet e refl (λ begun. refl)

exchange_quiet : (events : List Event) → IsExchange events → AllByRecursion IsQuiet events
exchange_quiet events (loses want frame is) = subst (AllByRecursion IsQuiet) (sym is) (is_quiet _ refl (λ begun. refl), (is_quiet _ refl (λ begun. refl), tt))
exchange_quiet events (comes want frame result is) = subst (AllByRecursion IsQuiet) (sym is) (is_quiet _ refl (λ begun. refl), (is_quiet _ refl (λ begun. refl), tt))

follow_quiet : (events : List Event) → MakesFollow events → AllByRecursion IsQuiet events
follow_quiet events (asks_nothing is) = subst (AllByRecursion IsQuiet) (sym is) (is_quiet _ refl (λ begun. refl), tt)
follow_quiet events (hides e kind is) = subst (AllByRecursion IsQuiet) (sym is) (hides_quiet e kind, tt)
follow_quiet events (asks is) = exchange_quiet events is
follow_quiet events (first_asks rows position rest exchange is) = subst (AllByRecursion IsQuiet) (sym is) (is_quiet _ refl (λ begun. refl), (is_quiet _ refl (λ begun. refl), exchange_quiet rest exchange))

pub shape : (tasks : ℕ) (next : ℕ → ℕ) (line : Line) (events : List Event) → Makes tasks next line events → Shape events
shape tasks next (lines.Create table buckets) events is = call_shape _ events is
shape tasks next (lines.Drop table) events is = call_shape _ events is
shape tasks next (lines.Begin writer) events is = call_shape _ events is
shape tasks next (lines.Put trx table key value) events is = call_shape _ events is
shape tasks next (lines.Delete trx table key) events is = call_shape _ events is
shape tasks next (lines.Get trx table key) events is = call_shape _ events is
shape tasks next (lines.Undo trx) events is = call_shape _ events is
shape tasks next (lines.Commit trx) events is = call_shape _ events is
shape tasks next (lines.Flush space page) events is = call_shape _ events is
shape tasks next (lines.Half space page) events is = call_shape _ events is
shape tasks next (lines.Land space page) events is = call_shape _ events is
shape tasks next lines.Checkpoint events is = call_shape _ events is
shape tasks next lines.Lsn events is = call_shape _ events is
shape tasks next (lines.Set writer table key value) events is = sets writer (next writer) table key value is
shape tasks next lines.Clean events is = quiet (clean_quiet events is)
shape tasks next (lines.Tear byte) events is = one (ordered _ _) is
shape tasks next (lines.FailDonor call) events is = one (ordered _ _) is
shape tasks next (lines.FailRecipient call) events is = one (ordered _ _) is
shape tasks next lines.Start events is = one is.0 is.2
shape tasks next (lines.Task task) events is = one is.0 is.2
shape tasks next (lines.Serve connection) events is = one is.0 is.2
shape tasks next (lines.Cut connection near far) events is = one is.0 is.2
shape tasks next lines.Status events is = one is.0 is.2
shape tasks next (lines.Raw bytes) events is = one is.0 is.2
shape tasks next (lines.Feed connection bytes) events is = one is.0 is.2
shape tasks next lines.Abandon events is = one is.0 is.2
shape tasks next lines.Advance events is = quiet (goes_quiet tasks Advances events advances_quiet is)
shape tasks next lines.Finish events is = quiet (goes_quiet tasks Finishes events finishes_quiet is)
shape tasks next lines.Look events is = one is.0 is.2
shape tasks next (lines.Archive bytes) events is = one is.0 is.2
shape tasks next lines.Follow events is = quiet (follow_quiet events is)
shape tasks next lines.Lose events is = one _ is
shape tasks next (lines.Repeat number) events is = one is.0 is.2
shape tasks next lines.Replica events is = one is.0 is.2
shape tasks next lines.Clone events is = quiet (clone_quiet tasks events is)
shape tasks next lines.Rows events is = one is.0 is.2

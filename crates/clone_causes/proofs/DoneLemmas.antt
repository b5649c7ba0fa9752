-- Which job brought the failure that counts, and what it was told: whatever follows from each call that may have brought it follows.
use Rattle.std.proofs.Common.{ℕ, ◌≡◌, ◌∙◌, Bool, true, false, nat_lt, if◌then◌else◌, List, [], ◌∷◌, ◌++◌, Option, None, Some, Ok, Err, refl, sym, ap, subst}
use Rattle.std.specs.List.{AllByRecursion}
use Rattle.std.proofs.lemmas.List.{append_cancel_left}
use Rattle.std.proofs.lemmas.Option.{none-some, same_Some}
use Rattle.clone_outside.specs.declared.Refusal.TheVariants.{Fault}
use Rattle.clone_outside.specs.declared.link.Link.{Ghosts as Link}
use Rattle.clone_turn.specs.declared.view.Entry.{Entry}
use Rattle.clone_turn.specs.Runs.{calls}
use Rattle.clone_turn.specs.Seats.{SeatModel}
use Rattle.clone_turn.specs.Worked.{Makes}
use Rattle.clone_turn.proofs.EachLemmas.{each_left, each_right}
use Rattle.clone_turn.proofs.WorkedLemmas.{makes_calls, new_calls}
use Rattle.clone_machine.specs.Running.{JobEntry}
use Rattle.clone_machine.specs.Watching.{is_halted}
use Rattle.clone_machine.specs.declared.calls.JobCall.TheVariants as job
use Rattle.clone_fetching.specs.declared.clone_ended.CloneEnded.{CloneEnded}
use Rattle.clone_fetching.specs.declared.clone_ended.CloneEnded.TheVariants as told
use Rattle.clone_fetching.specs.declared.machine.RecipientAnswer.TheVariants as answer
use Rattle.clone_fetching.specs.declared.machine.RecipientCall.TheVariants as call
use Rattle.clone_desk.specs.Steps.{DeskEntry}
use Rattle.clone_desk.specs.declared.machine.DeskAnswer.TheVariants as desk
use Rattle.clone_copying.specs.Calls.{IsTold, RecipientEntry}
use Rattle.clone_copying.specs.Connecting.{DeskSeat, WasRefused}
use Rattle.clone_copying.specs.Fetching.{HasCause}
use Rattle.clone_copying.specs.Watching.{WasHalted}
use Rattle.clone_copying.specs.declared.fetch_end.FetchEnd.{FetchEnd}
use Rattle.clone_copying.specs.declared.fetch_end.FetchEnd.TheVariants as fetch
use Rattle.clone_jobs.specs.Upkeep.{NeverDone, UpkeepTurn}
use Rattle.clone_jobs.specs.Writing.{HasWritten, WriterTurn}
use Rattle.clone_jobs.specs.declared.ending.Ending.{Ending}
use Rattle.clone_jobs.specs.declared.ending.Ending.TheVariants as ending
use Rattle.clone_writer.specs.Writers.{starting}
use Rattle.clone_run.specs.declared.failure.Failure.{Failure}
use Rattle.clone_run.specs.declared.failure.Failure.TheVariants as failure
use Rattle.clone_run.specs.declared.load.Load.{Load}
use Rattle.clone_run.specs.declared.outcome.Cloned.{Cloned}
use Rattle.clone_run.specs.declared.outcome.Outcome.{Outcome}
use Rattle.clone_run.specs.Outcomes.{completed, first_of, of_clone, of_ending, of_fetch, of_writing, rank}
use Rattle.clone_run.specs.Done.{AreDone, IsFetch, Job, fetches, halts, keeps, nothing, serves, writes}
use Rattle.clone_run.specs.Teams.{Parts}
use Rattle.clone_causes.specs.Causes.{IsOfClone}
use Rattle.clone_causes.proofs.JobLemmas.{FromMade, job_from, serving_from}

-- THE ONE THAT COUNTS is one of the two
of_two : (G : Type 0) (why : Failure) (a b : Option Failure) → first_of a b ≡ Some why → (a ≡ Some why → G) → (b ≡ Some why → G) → G
of_two G why None b is first second = second is
of_two G why (Some x) None is first second = first is
of_two G why (Some x) (Some y) is first second = by (nat_lt (rank y) (rank x)) is
  where
    by : (c : Bool) → (if c then Some y else Some x) ≡ Some why → G
    by true is = second is
    by false is = first is

-- ---- WHAT BRINGS A FAULT of the donor's disk, and what doesn't

fault_ending : (e : Ending) → of_ending e ≡ Some failure.DonorDisk → e ≡ ending.DiskFault
fault_ending ending.Done is = absurd (none-some failure.DonorDisk is)
fault_ending ending.Halted is = absurd (none-some failure.DonorDisk is)
fault_ending ending.DiskFault is = refl
fault_ending ending.NoMemory is = absurd cc

fault_writing : (e : Ending) → of_writing e ≡ Some failure.DonorDisk → e ≡ ending.DiskFault
fault_writing ending.Done is = absurd (none-some failure.DonorDisk is)
fault_writing ending.Halted is = absurd cc
fault_writing ending.DiskFault is = refl
fault_writing ending.NoMemory is = absurd cc

fault_fetch : (e : FetchEnd) → of_fetch e ≡ Some failure.DonorDisk → ⊥
fault_fetch (fetch.Ended (told.Complete lsn position floor)) is = none-some failure.DonorDisk is
fault_fetch (fetch.Ended (told.Spent losses)) is = cc
fault_fetch (fetch.Ended (told.Garbled kept)) is = cc
fault_fetch (fetch.Ended (told.Refused cause)) is = cc
fault_fetch (fetch.Ended told.DiskFault) is = cc
fault_fetch fetch.NetFault is = cc
fault_fetch fetch.Halted is = cc
fault_fetch fetch.NoMemory is = cc

-- ---- what brings a failure of the clone

abbrev OfClone : Option Failure → Type 0
OfClone None = ⊥
OfClone (Some why) = IsOfClone why

clone_ending : (e : Ending) → OfClone (of_ending e) → ⊥
clone_ending ending.Done of = of
clone_ending ending.Halted of = of
clone_ending ending.DiskFault of = of
clone_ending ending.NoMemory of = of

clone_writing : (e : Ending) → OfClone (of_writing e) → ⊥
clone_writing ending.Done of = of
clone_writing ending.Halted of = of
clone_writing ending.DiskFault of = of
clone_writing ending.NoMemory of = of

clone_fetch : (e : FetchEnd) → OfClone (of_fetch e) → (how : CloneEnded) × (e ≡ fetch.Ended how)
clone_fetch (fetch.Ended how) of = (how, refl)
clone_fetch fetch.NetFault of = absurd of
clone_fetch fetch.Halted of = absurd of
clone_fetch fetch.NoMemory of = absurd of

complete_fetch : (e : FetchEnd) (c : Cloned) → completed e ≡ Some c → e ≡ fetch.Ended (told.Complete c.lsn c.position c.floor)
complete_fetch (fetch.Ended (told.Complete lsn position floor)) c is =
    let found : Cloned = record { lsn = lsn; position = position; floor = floor } in
    ap (λ (x : Cloned). fetch.Ended (told.Complete x.lsn x.position x.floor)) (same_Some found c is)
complete_fetch other c is = absurd (none-some c is)

-- ---- and what brings a fault of the net

net_ending : (e : Ending) → of_ending e ≡ Some failure.Connection → ⊥
net_ending ending.Done is = none-some failure.Connection is
net_ending ending.Halted is = none-some failure.Connection is
net_ending ending.DiskFault is = cc
net_ending ending.NoMemory is = cc

net_writing : (e : Ending) → of_writing e ≡ Some failure.Connection → ⊥
net_writing ending.Done is = none-some failure.Connection is
net_writing ending.Halted is = cc
net_writing ending.DiskFault is = cc
net_writing ending.NoMemory is = cc

net_fetch : (e : FetchEnd) → of_fetch e ≡ Some failure.Connection → e ≡ fetch.NetFault
net_fetch (fetch.Ended (told.Complete lsn position floor)) is = absurd (none-some failure.Connection is)
net_fetch (fetch.Ended (told.Spent losses)) is = absurd cc
net_fetch (fetch.Ended (told.Garbled kept)) is = absurd cc
net_fetch (fetch.Ended (told.Refused cause)) is = absurd cc
net_fetch (fetch.Ended told.DiskFault) is = absurd cc
net_fetch fetch.NetFault is = refl
net_fetch fetch.Halted is = absurd cc
net_fetch fetch.NoMemory is = absurd cc

net_cause : {R : Type 0} (fault halted : Type 0) (e : FetchEnd) (made : List (RecipientEntry R)) → e ≡ fetch.NetFault → HasCause fault halted e made → fault
net_cause fault halted fetch.NetFault made is cause = cause
net_cause fault halted other made is cause = absurd cc

-- a seat made the same calls
made_same : {S C A : Type 0} (v w : SeatModel S C A) (xs ys : List (Entry S C A)) → Makes v xs w → Makes v ys w → xs ≡ ys
made_same v w xs ys a b = append_cancel_left (calls v.seen) xs ys (sym (makes_calls v w xs a) ∙ makes_calls v w ys b)

-- ---- WHAT FOLLOWS FROM EACH CALL

module _ {R : Type 0} (G : CloneEnded → Type 0) where
  -- from each that was told how the clone ended
  abbrev pub FromTold : List (RecipientEntry R) → Type 0
  FromTold made = AllByRecursion (λ (e : RecipientEntry R). (how : CloneEnded) → e.call ≡ call.Ended → e.answer ≡ answer.Ended (Ok (Some how)) → G how) made

  told_from : (how : CloneEnded) (made : List (RecipientEntry R)) → IsTold how made → FromTold made → G how
  told_from how made is each =
      let one = is.3 in
      let last : FromTold is.1 = each_right (λ (e : RecipientEntry R). (how : CloneEnded) → e.call ≡ call.Ended → e.answer ≡ answer.Ended (Ok (Some how)) → G how) is.0 is.1 (subst FromTold is.2 each) in
      (subst FromTold one.1 last).0 how one.2 one.3

module _ {N L : Type 0} (G : Type 0) where
  -- from each that was refused a connection by a fault
  abbrev pub FromRefused : List (DeskEntry N L) → Type 0
  FromRefused made = AllByRecursion (λ (e : DeskEntry N L). e.answer ≡ desk.Paired (Err Fault) → G) made

  refused_from : (task : ℕ) (old new : DeskSeat N L) (made : List (DeskEntry N L)) → calls old.seen ≡ [] → Makes old made new → WasRefused task new → FromRefused made → G
  refused_from task old new made anew makes was each =
      let one = was.3 in
      let all : FromRefused (was.0 ++ was.1) = subst FromRefused (sym (new_calls old new made anew makes) ∙ was.2) each in
      let last : FromRefused was.1 = each_right (λ (e : DeskEntry N L). e.answer ≡ desk.Paired (Err Fault) → G) was.0 was.1 all in
      (subst FromRefused one.1 last).0 one.3

-- how the clone ended, where that is the failure that counts
abbrev pub Found : (CloneEnded → Type 0) → Failure → Type 0
Found G why = (how : CloneEnded) × (of_clone how ≡ Some why) × G how

module _ {N L X R : Type 0} (link : Link L X) where
  fetch_told : (G : CloneEnded → Type 0) (task : ℕ) (e : FetchEnd) (how : CloneEnded) (stepped : List (RecipientEntry R)) (asked : List (DeskEntry N L)) (watched : List JobEntry) → e ≡ fetch.Ended how → IsFetch link task e stepped asked watched → FromTold G stepped → G how
  fetch_told G task e how stepped asked watched is done each =
      let f : IsFetch link task (fetch.Ended how) stepped asked watched = subst (λ (x : FetchEnd). IsFetch link task x stepped asked watched) is done in
      let worked = f.does.fetches in
      told_from G how worked.0 worked.2.1 (subst (FromTold {R = R} G) (made_same f.fetcher.seat f.seat stepped worked.0 f.steps worked.1) each)

  fetch_refused : (G : Type 0) (task : ℕ) (e : FetchEnd) (stepped : List (RecipientEntry R)) (asked : List (DeskEntry N L)) (watched : List JobEntry) → e ≡ fetch.NetFault → IsFetch link task e stepped asked watched → FromRefused G asked → G
  fetch_refused G task e stepped asked watched is f each =
      let worked = f.does.fetches in
      refused_from G f.fetcher.task f.desk_old f.desk_new asked f.fresh f.asks (net_cause (WasRefused f.fetcher.task f.desk_new) (WasHalted job.Halted is_halted f.does.looked) e worked.0 is worked.2.1) each

  -- ---- OF ALL JOBS

  module _ (load : Load) where
    pub donor_from : (G : Type 0) (jobs : List Job) (p : Parts N L R) (o : Outcome) → AreDone link load jobs p o → AllByRecursion (FromMade G) p.donor → o.failure ≡ Some failure.DonorDisk → G
    donor_from G jobs p o nothing each is = absurd (none-some failure.DonorDisk is)
    donor_from G jobs p o (halts js q r made done halt) each is = donor_from G js q r done (each_left (FromMade G) q.donor (made ∷ []) each) is
    donor_from G jobs p o (serves js q r task end made asked served done serving) each is =
        of_two G failure.DonorDisk r.failure (of_ending end) is (λ before. donor_from G js q r done (each_left (FromMade G) q.donor (made ∷ []) each) before)
        (λ now. serving_from G link task end made asked served (fault_ending end now) serving (each_right (FromMade G) q.donor (made ∷ []) each).0)
    donor_from G jobs p o (keeps js q r work end made done keeping) each is =
        of_two G failure.DonorDisk r.failure (of_ending end) is (λ before. donor_from G js q r done (each_left (FromMade G) q.donor (made ∷ []) each) before)
        (λ now. job_from G (UpkeepTurn work) NeverDone end tt tt made (fault_ending end now) keeping (each_right (FromMade G) q.donor (made ∷ []) each).0)
    donor_from G jobs p o (writes js q r number end made w done writing) each is =
        of_two G failure.DonorDisk r.failure (of_writing end) is (λ before. donor_from G js q r done (each_left (FromMade G) q.donor (made ∷ []) each) before)
        (λ now. job_from G WriterTurn HasWritten end (starting load.seed number load.tables load.transactions) w made (fault_writing end now) writing (each_right (FromMade G) q.donor (made ∷ []) each).0)
    donor_from G jobs p o (fetches js q r task end stepped asked watched done f) each is =
        of_two G failure.DonorDisk r.failure (of_fetch end) is (λ before. donor_from G js q r done (each_left (FromMade G) q.donor (watched ∷ []) each) before) (λ now. absurd (fault_fetch end now))

    pub clone_from : (G : CloneEnded → Type 0) (why : Failure) → IsOfClone why → (jobs : List Job) (p : Parts N L R) (o : Outcome) → AreDone link load jobs p o → AllByRecursion (FromTold {R = R} G) p.recipient → o.failure ≡ Some why → Found G why
    clone_from G why of jobs p o nothing each is = absurd (none-some why is)
    clone_from G why of jobs p o (halts js q r made done halt) each is = clone_from G why of js q r done each is
    clone_from G why of jobs p o (serves js q r task end made asked served done serving) each is =
        of_two (Found G why) why r.failure (of_ending end) is (λ before. clone_from G why of js q r done each before) (λ now. absurd (clone_ending end (subst OfClone (sym now) of)))
    clone_from G why of jobs p o (keeps js q r work end made done keeping) each is =
        of_two (Found G why) why r.failure (of_ending end) is (λ before. clone_from G why of js q r done each before) (λ now. absurd (clone_ending end (subst OfClone (sym now) of)))
    clone_from G why of jobs p o (writes js q r number end made w done writing) each is =
        of_two (Found G why) why r.failure (of_writing end) is (λ before. clone_from G why of js q r done each before) (λ now. absurd (clone_writing end (subst OfClone (sym now) of)))
    clone_from G why of jobs p o (fetches js q r task end stepped asked watched done f) each is =
        of_two (Found G why) why r.failure (of_fetch end) is (λ before. clone_from G why of js q r done (each_left (FromTold {R = R} G) q.recipient (stepped ∷ []) each) before)
        (λ now. let how = clone_fetch end (subst OfClone (sym now) of) in (
          how.0,
          sym (ap of_fetch how.1) ∙ now,
          fetch_told G task end how.0 stepped asked watched how.1 f (each_right (FromTold {R = R} G) q.recipient (stepped ∷ []) each).0,
        ))

    pub cloned_from : (G : CloneEnded → Type 0) (c : Cloned) (jobs : List Job) (p : Parts N L R) (o : Outcome) → AreDone link load jobs p o → AllByRecursion (FromTold {R = R} G) p.recipient → o.cloned ≡ Some c → G (told.Complete c.lsn c.position c.floor)
    cloned_from G c jobs p o nothing each is = absurd (none-some c is)
    cloned_from G c jobs p o (halts js q r made done halt) each is = cloned_from G c js q r done each is
    cloned_from G c jobs p o (serves js q r task end made asked served done serving) each is = cloned_from G c js q r done each is
    cloned_from G c jobs p o (keeps js q r work end made done keeping) each is = cloned_from G c js q r done each is
    cloned_from G c jobs p o (writes js q r number end made w done writing) each is = cloned_from G c js q r done each is
    cloned_from G c jobs p o (fetches js q r task end stepped asked watched done f) each is =
        fetch_told G task end (told.Complete c.lsn c.position c.floor) stepped asked watched (complete_fetch end c is) f (each_right (FromTold {R = R} G) q.recipient (stepped ∷ []) each).0

    pub net_from : (G : Type 0) (jobs : List Job) (p : Parts N L R) (o : Outcome) → AreDone link load jobs p o → AllByRecursion (FromRefused {N = N} {L = L} G) p.desk → o.failure ≡ Some failure.Connection → G
    net_from G jobs p o nothing each is = absurd (none-some failure.Connection is)
    net_from G jobs p o (halts js q r made done halt) each is = net_from G js q r done each is
    net_from G jobs p o (serves js q r task end made asked served done serving) each is =
        of_two G failure.Connection r.failure (of_ending end) is (λ before. net_from G js q r done (each_left (FromRefused {N = N} {L = L} G) q.desk (asked ∷ []) each) before) (λ now. absurd (net_ending end now))
    net_from G jobs p o (keeps js q r work end made done keeping) each is =
        of_two G failure.Connection r.failure (of_ending end) is (λ before. net_from G js q r done each before) (λ now. absurd (net_ending end now))
    net_from G jobs p o (writes js q r number end made w done writing) each is =
        of_two G failure.Connection r.failure (of_writing end) is (λ before. net_from G js q r done each before) (λ now. absurd (net_writing end now))
    net_from G jobs p o (fetches js q r task end stepped asked watched done f) each is =
        of_two G failure.Connection r.failure (of_fetch end) is (λ before. net_from G js q r done (each_left (FromRefused {N = N} {L = L} G) q.desk (asked ∷ []) each) before)
        (λ now. fetch_refused G task end stepped asked watched (net_fetch end now) f (each_right (FromRefused {N = N} {L = L} G) q.desk (asked ∷ []) each).0)

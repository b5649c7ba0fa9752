-- What a team has gathered once a job has ended, by what it had gathered before.
use Rattle.std.proofs.Common.{ℕ, ◌≡◌, ◌∙◌, List, [], ◌∷◌, ◌++◌, None, refl, ap, sym, subst}
use Rattle.std.proofs.lemmas.List.{append-nil}
use Rattle.clone_outside.specs.declared.link.Link.{Ghosts as Link}
use Rattle.clone_turn.specs.declared.view.Entry.{Entry}
use Rattle.clone_turn.specs.Seats.{CellModel, IsOf, MakesCall, SeatModel}
use Rattle.clone_turn.specs.Worked.{Makes, Worked}
use Rattle.clone_turn.proofs.WorkedLemmas.{makes_more, makes_of, makes_one, right_none}
use Rattle.clone_machine.specs.Running.{JobEntry}
use Rattle.clone_machine.specs.Sharing.{SharedDonor, Steps}
use Rattle.clone_machine.specs.declared.calls.JobAnswer.{JobAnswer}
use Rattle.clone_machine.specs.declared.calls.JobAnswer.TheVariants as job_answer
use Rattle.clone_machine.specs.declared.calls.JobCall.TheVariants as job
use Rattle.clone_links.specs.Calling.{IsOneCall, JobSeat, Server}
use Rattle.clone_fetching.specs.Recipients.{RecipientModel}
use Rattle.clone_desk.specs.Desks.{DeskModel}
use Rattle.clone_desk.specs.Steps.{DeskEntry}
use Rattle.clone_copying.specs.Calls.{FetcherModel, RecipientEntry, RecipientSeat}
use Rattle.clone_copying.specs.Connecting.{DeskSeat}
use Rattle.clone_copying.specs.declared.fetch_end.FetchEnd.{FetchEnd}
use Rattle.clone_writer.specs.Writers.{Writer, starting}
use Rattle.clone_jobs.specs.Said.{said_in}
use Rattle.clone_jobs.specs.Upkeep.{IsUpkeep}
use Rattle.clone_jobs.specs.Writing.{Writes}
use Rattle.clone_jobs.specs.declared.ending.Ending.{Ending}
use Rattle.clone_jobs.specs.declared.upkeep.Upkeep.{Upkeep}
use Rattle.clone_task_jobs.specs.Serving.{ServesTask}
use Rattle.clone_task_jobs.specs.Fetching.{FetchesTask}
use Rattle.clone_hub.specs.Gathering.{Gathers, IsLent, IsTaken}
use Rattle.clone_hub.proofs.GatherLemmas.{gathers_more, gathers_none, gathers_one, gathers_own}
use Rattle.clone_run.specs.declared.load.Load.{Load}
use Rattle.clone_run.specs.declared.outcome.Outcome.{Outcome}
use Rattle.clone_run.specs.Outcomes.{of_ending, of_none, of_writing, with_job, with_task}
use Rattle.clone_run.specs.Teams.{DeskHub, DonorHub, Gathered, Parts, RecipientHub, Team, no_parts, with_donor, with_fetched, with_served}
use Rattle.clone_run.specs.Lending.{DonorIsLent, FetchIsLent, IsSame, ServeIsLent}
use Rattle.clone_run.specs.Done.{AreDone, DoneBy, Job, Serves, Keeps, Writes', Fetches, nothing, halts, serves, keeps, writes, fetches}

-- a seat that was lent comes back to the cell of its hub
pub comes_back : {S C A : Type 0} (cell other : CellModel S) (r e : SeatModel S C A) (made : List (Entry S C A)) → IsOf cell r → Makes r made e → other ≡ cell → IsOf other e
comes_back cell other r e made of makes same = subst (λ c. IsOf c e) (sym same) (makes_of cell r e made makes of)

-- the answer to the call that lets the run end
pub halt_is : (a : JobAnswer) → ((s : SharedDonor) × (t : SharedDonor) × Steps s job.Halt a t) → a ≡ job_answer.Halt
halt_is job_answer.Halt is = refl
halt_is (job_answer.Halted over) is = absurd is.2
halt_is (job_answer.Look n) is = absurd is.2
halt_is (job_answer.Donor given) is = absurd is.2

pub halt_answered : (first : SharedDonor) (v w : JobSeat) (a : JobAnswer) → MakesCall Steps first v job.Halt a w → a ≡ job_answer.Halt
halt_answered first v w a made = let one = makes_one Steps first v w job.Halt a made in halt_is a (one.2.0, one.0.after, one.2.3)

module _ {N L R : Type 0} where
  pub halted : (s : Team N L R) (d : DonorHub) (a : JobAnswer) → d.cell ≡ s.donor.cell → MakesCall Steps s.donor.cell.first s.donor.seat job.Halt a d.seat
      → (made : List JobEntry) × IsOneCall job.Halt job_answer.Halt made × Gathered (with_donor no_parts made) s (record s { donor = d })
  halted s d a same made =
      let one = makes_one Steps s.donor.cell.first s.donor.seat d.seat job.Halt a made in
      let answer = halt_is a (one.2.0, one.0.after, one.2.3) in (
        one.0 ∷ [],
        (one.0, refl, one.2.1, one.2.2 ∙ answer),
        record { load = refl; donor = gathers_own s.donor d (one.0 ∷ []) same one.1; recipient = gathers_none s.recipient; desk = gathers_none s.desk },
      )

  pub halted_in : (s v : Team N L R) (d : DonorHub) (a : JobAnswer) → v ≡ s → d.cell ≡ v.donor.cell → MakesCall Steps v.donor.cell.first v.donor.seat job.Halt a d.seat
      → (made : List JobEntry) × IsOneCall job.Halt job_answer.Halt made × Gathered (with_donor no_parts made) s (record v { donor = d })
  halted_in s v d a is same made =
      subst (λ (x : Team N L R). (made : List JobEntry) × IsOneCall job.Halt job_answer.Halt made × Gathered (with_donor no_parts made) x (record v { donor = d })) is (halted v d a same made)

  -- the seats of a job that serves
  pub serve_lent : (s v : Team N L R) (server : Server) (desk desk_seat : DeskSeat N L) (cell : CellModel SharedDonor) (seat : JobSeat) (desk_cell : CellModel (DeskModel N L)) (d : DonorHub) (q : DeskHub N L)
      → v ≡ s → server ≡ record { cell = cell; seat = seat } → desk ≡ desk_seat → IsLent v.donor cell seat d → IsOf cell seat → IsLent v.desk desk_cell desk_seat q → IsOf desk_cell desk_seat
      → ServeIsLent s server desk (record v { donor = d; desk = q })
  serve_lent s v server desk desk_seat cell seat desk_cell d q is server_is desk_is lent of lent_desk of_desk =
      subst (λ (x : Team N L R). ServeIsLent x server desk (record v { donor = d; desk = q })) is
      (record {
        donor = subst (λ (x : Server). IsLent v.donor x.cell x.seat d) (sym server_is) lent;
        of = subst (λ (x : Server). IsOf v.donor.cell x.seat) (sym server_is) (subst (λ c. IsOf c seat) lent.cell_is of);
        desk_cell = desk_cell;
        desk = subst (λ x. IsLent v.desk desk_cell x q) (sym desk_is) lent_desk;
        of_desk = subst (λ x. IsOf v.desk.cell x) (sym desk_is) (subst (λ c. IsOf c desk_seat) lent_desk.cell_is of_desk);
        rest = refl;
      })

  -- those of a job that fetches
  pub fetch_lent : (s v : Team N L R) (task : ℕ) (f : FetcherModel R) (caller seat : RecipientSeat R) (desk desk_seat : DeskSeat N L) (watch watch_seat : JobSeat) (cell : CellModel (RecipientModel R)) (desk_cell : CellModel (DeskModel N L)) (watch_cell : CellModel SharedDonor)
      (h : RecipientHub R) (q : DeskHub N L) (d : DonorHub) → v ≡ s → f ≡ record { seat = caller; task = task; core = None; floor = 0 } → caller ≡ seat → desk ≡ desk_seat → watch ≡ watch_seat
      → IsLent v.recipient cell seat h → IsOf cell seat → IsLent v.desk desk_cell desk_seat q → IsOf desk_cell desk_seat → IsLent v.donor watch_cell watch_seat d → IsOf watch_cell watch_seat
      → FetchIsLent s task f desk watch (record v { donor = d; recipient = h; desk = q })
  fetch_lent s v task f caller seat desk desk_seat watch watch_seat cell desk_cell watch_cell h q d is new caller_is desk_is watch_is lent of lent_desk of_desk lent_watch of_watch =
      let seat_is : f.seat ≡ seat = ap (λ (x : FetcherModel R). x.seat) new ∙ caller_is in
      subst (λ (x : Team N L R). FetchIsLent x task f desk watch (record v { donor = d; recipient = h; desk = q })) is
      (record {
        new = new ∙ ap (λ (x : RecipientSeat R). record { seat = x; task = task; core = None; floor = 0 }) (sym (ap (λ (x : FetcherModel R). x.seat) new));
        recipient_cell = cell;
        recipient = subst (λ x. IsLent v.recipient cell x h) (sym seat_is) lent;
        of_recipient = subst (λ x. IsOf v.recipient.cell x) (sym seat_is) (subst (λ c. IsOf c seat) lent.cell_is of);
        desk_cell = desk_cell;
        desk = subst (λ x. IsLent v.desk desk_cell x q) (sym desk_is) lent_desk;
        of_desk = subst (λ x. IsOf v.desk.cell x) (sym desk_is) (subst (λ c. IsOf c desk_seat) lent_desk.cell_is of_desk);
        donor_cell = watch_cell;
        donor = subst (λ x. IsLent v.donor watch_cell x d) (sym watch_is) lent_watch;
        of_donor = subst (λ x. IsOf v.donor.cell x) (sym watch_is) (subst (λ c. IsOf c watch_seat) lent_watch.cell_is of_watch);
        load = refl;
      })

  pub gathered_none : (s : Team N L R) → Gathered no_parts s s
  gathered_none s = record { load = refl; donor = gathers_none s.donor; recipient = gathers_none s.recipient; desk = gathers_none s.desk }

  pub same_gathered : (p : Parts N L R) (s t : Team N L R) → Gathered p s t → IsSame s t
  same_gathered p s t g = record { load = g.load; donor = g.donor.same; recipient = g.recipient.same; desk = g.desk.same }

  pub same_more : (s t u : Team N L R) → IsSame s t → IsSame t u → IsSame s u
  same_more s t u a b = record { load = b.load ∙ a.load; donor = b.donor ∙ a.donor; recipient = b.recipient ∙ a.recipient; desk = b.desk ∙ a.desk }

  -- the run is to end
  pub gathered_halt : (p : Parts N L R) (s t u : Team N L R) (made : List JobEntry) → Gathered p s t → Gathered (with_donor no_parts made) t u → Gathered (with_donor p made) s u
  gathered_halt p s t u made done more = record {
    load = more.load ∙ done.load;
    donor = gathers_more s.donor t.donor u.donor p.donor (made ∷ []) done.donor more.donor;
    recipient = subst (λ ps. Gathers ps s.recipient u.recipient) (append-nil p.recipient) (gathers_more s.recipient t.recipient u.recipient p.recipient [] done.recipient more.recipient);
    desk = subst (λ ps. Gathers ps s.desk u.desk) (append-nil p.desk) (gathers_more s.desk t.desk u.desk p.desk [] done.desk more.desk);
  }

  -- a job at the donor
  pub gathered_donor : (p : Parts N L R) (s t k : Team N L R) (cell : CellModel SharedDonor) (r e : JobSeat) (made : List JobEntry) (d : DonorHub) → DonorIsLent s cell r t → Gathered p t k → Makes r made e → IsTaken k.donor e d
      → Gathered (with_donor p made) s (record k { donor = d })
  gathered_donor p s t k cell r e made d lent meanwhile makes taken = record {
    load = meanwhile.load ∙ ap (λ (x : Team N L R). x.load) lent.rest;
    donor = gathers_one s.donor t.donor k.donor d cell r e p.donor made lent.lent meanwhile.donor makes taken;
    recipient = subst (λ (h : RecipientHub R). Gathers p.recipient h k.recipient) (ap (λ (x : Team N L R). x.recipient) lent.rest) meanwhile.recipient;
    desk = subst (λ (h : DeskHub N L). Gathers p.desk h k.desk) (ap (λ (x : Team N L R). x.desk) lent.rest) meanwhile.desk;
  }

  -- a job at the donor and at the desk
  pub gathered_served : (p : Parts N L R) (s t k : Team N L R) (server : Server) (desk desk_end : DeskSeat N L) (e : JobSeat) (made : List JobEntry) (asked : List (DeskEntry N L)) (d : DonorHub) (q : DeskHub N L)
      → ServeIsLent s server desk t → Gathered p t k → Makes server.seat made e → Makes desk asked desk_end → IsTaken k.donor e d → IsTaken k.desk desk_end q
      → Gathered (with_served p made asked) s (record k { donor = d; desk = q })
  gathered_served p s t k server desk desk_end e made asked d q lent meanwhile makes asks taken taken_desk = record {
    load = meanwhile.load ∙ ap (λ (x : Team N L R). x.load) lent.rest;
    donor = gathers_one s.donor t.donor k.donor d server.cell server.seat e p.donor made lent.donor meanwhile.donor makes taken;
    recipient = subst (λ (h : RecipientHub R). Gathers p.recipient h k.recipient) (ap (λ (x : Team N L R). x.recipient) lent.rest) meanwhile.recipient;
    desk = gathers_one s.desk t.desk k.desk q lent.desk_cell desk desk_end p.desk asked lent.desk meanwhile.desk asks taken_desk;
  }

  -- a job at all three
  pub gathered_fetched : (p : Parts N L R) (s t k : Team N L R) (task : ℕ) (f : FetcherModel R) (seat : RecipientSeat R) (desk desk_end : DeskSeat N L) (watch watch_end : JobSeat)
      (stepped : List (RecipientEntry R)) (asked : List (DeskEntry N L)) (watched : List JobEntry) (h : RecipientHub R) (q : DeskHub N L) (d : DonorHub)
      → FetchIsLent s task f desk watch t → Gathered p t k → Makes f.seat stepped seat → Makes desk asked desk_end → Makes watch watched watch_end
      → IsTaken k.recipient seat h → IsTaken k.desk desk_end q → IsTaken k.donor watch_end d
      → Gathered (with_fetched p stepped asked watched) s (record k { donor = d; recipient = h; desk = q })
  gathered_fetched p s t k task f seat desk desk_end watch watch_end stepped asked watched h q d lent meanwhile steps asks watches taken taken_desk taken_watch = record {
    load = meanwhile.load ∙ lent.load;
    donor = gathers_one s.donor t.donor k.donor d lent.donor_cell watch watch_end p.donor watched lent.donor meanwhile.donor watches taken_watch;
    recipient = gathers_one s.recipient t.recipient k.recipient h lent.recipient_cell f.seat seat p.recipient stepped lent.recipient meanwhile.recipient steps taken;
    desk = gathers_one s.desk t.desk k.desk q lent.desk_cell desk desk_end p.desk asked lent.desk meanwhile.desk asks taken_desk;
  }

module _ {N L X R : Type 0} (link : Link L X) where
  same_load : (jobs : List Job) (p : Parts N L R) (o : Outcome) (a b : Load) → b ≡ a → AreDone link b jobs p o → AreDone link a jobs p o
  same_load jobs p o a b same done = subst (λ (l : Load). AreDone link l jobs p o) same done

  pub done_none : (s : Team N L R) → DoneBy link [] of_none s s
  done_none s = (no_parts, nothing, gathered_none s)

  pub done_halted : (jobs : List Job) (o : Outcome) (s t u : Team N L R) (made : List JobEntry) → DoneBy link jobs o s t → IsOneCall job.Halt job_answer.Halt made → Gathered (with_donor no_parts made) t u → DoneBy link jobs o s u
  done_halted jobs o s t u made done halt more = (with_donor done.0 made, halts jobs done.0 o made done.1 halt, gathered_halt done.0 s t u made done.2 more)

  pub done_kept : (jobs : List Job) (o : Outcome) (s t k : Team N L R) (cell : CellModel SharedDonor) (r e : JobSeat) (d : DonorHub) (work : Upkeep) (end : Ending) → DonorIsLent s cell r t → DoneBy link jobs o t k
      → Worked (λ made. IsUpkeep work end (said_in made)) r e → IsTaken k.donor e d → DoneBy link (jobs ++ Keeps work ∷ []) (with_job o (of_ending end)) s (record k { donor = d })
  done_kept jobs o s t k cell r e d work end lent done did taken = (
    with_donor done.0 did.0,
    keeps jobs done.0 o work end did.0 (same_load jobs done.0 o s.load t.load (ap (λ (x : Team N L R). x.load) lent.rest) done.1) did.2,
    gathered_donor done.0 s t k cell r e did.0 d lent done.2 did.1 taken,
  )

  pub done_written : (jobs : List Job) (o : Outcome) (s t k : Team N L R) (cell : CellModel SharedDonor) (r e : JobSeat) (d : DonorHub) (number : ℕ) (end : Ending) → DonorIsLent s cell r t → DoneBy link jobs o t k
      → Worked (λ made. (w : Writer) × Writes end (starting s.load.seed number s.load.tables s.load.transactions) (said_in made) w) r e → IsTaken k.donor e d
      → DoneBy link (jobs ++ Writes' number ∷ []) (with_job o (of_writing end)) s (record k { donor = d })
  done_written jobs o s t k cell r e d number end lent done did taken = (
    with_donor done.0 did.0,
    writes jobs done.0 o number end did.0 did.2.0 (same_load jobs done.0 o s.load t.load (ap (λ (x : Team N L R). x.load) lent.rest) done.1) did.2.1,
    gathered_donor done.0 s t k cell r e did.0 d lent done.2 did.1 taken,
  )

  pub done_served : (jobs : List Job) (o : Outcome) (s t k : Team N L R) (server : Server) (desk desk_end : DeskSeat N L) (e : JobSeat) (d : DonorHub) (q : DeskHub N L) (task : ℕ) (end : Ending)
      → ServeIsLent s server desk t → DoneBy link jobs o t k → ServesTask link task end server.seat e desk desk_end → IsTaken k.donor e d → IsTaken k.desk desk_end q
      → DoneBy link (jobs ++ Serves task ∷ []) (with_job o (of_ending end)) s (record k { donor = d; desk = q })
  done_served jobs o s t k server desk desk_end e d q task end lent done did taken taken_desk = (
    with_served done.0 did.0 did.1,
    serves jobs done.0 o task end did.0 did.1 did.2 (same_load jobs done.0 o s.load t.load (ap (λ (x : Team N L R). x.load) lent.rest) done.1) did.5,
    gathered_served done.0 s t k server desk desk_end e did.0 did.1 d q lent done.2 did.3 did.4 taken taken_desk,
  )

  pub done_fetched : (jobs : List Job) (o : Outcome) (s t k : Team N L R) (task : ℕ) (f : FetcherModel R) (seat : RecipientSeat R) (desk desk_end : DeskSeat N L) (watch watch_end : JobSeat)
      (h : RecipientHub R) (q : DeskHub N L) (d : DonorHub) (end : FetchEnd)
      → FetchIsLent s task f desk watch t → DoneBy link jobs o t k → FetchesTask link f seat desk desk_end watch watch_end end → IsTaken k.recipient seat h → IsTaken k.desk desk_end q → IsTaken k.donor watch_end d
      → DoneBy link (jobs ++ Fetches task ∷ []) (with_task o end) s (record k { donor = d; recipient = h; desk = q })
  done_fetched jobs o s t k task f seat desk desk_end watch watch_end h q d end lent done did taken taken_desk taken_watch =
      let watched : List JobEntry = did.looks.0 ++ did.halts.0 in
      let watches : Makes watch watched watch_end = makes_more watch did.looked watch_end did.looks.0 did.halts.0 did.looks.1 did.halts.1 in (
        with_fetched done.0 did.fetches.0 did.desk.0 watched,
        fetches jobs done.0 o task end did.fetches.0 did.desk.0 watched (same_load jobs done.0 o s.load t.load lent.load done.1) (record {
          fetcher = f;
          new = lent.new;
          seat = seat;
          desk_old = desk;
          desk_new = desk_end;
          fresh = right_none s.desk.seat desk lent.desk.seat_is;
          watch_old = watch;
          watch_new = watch_end;
          does = did;
          steps = did.fetches.1;
          asks = did.desk.1;
          watches = watches;
        }),
        gathered_fetched done.0 s t k task f seat desk desk_end watch watch_end did.fetches.0 did.desk.0 watched h q d lent done.2 did.fetches.1 did.desk.1 watches taken taken_desk taken_watch,
      )

  -- ---- a job and those after it, once all of them have come back

  done_as : (js xs : List Job) (o r : Outcome) (s t : Team N L R) → js ≡ xs → r ≡ o → DoneBy link xs o s t → DoneBy link js r s t
  done_as js xs o r s t same is done = subst (λ y. DoneBy link y r s t) (sym same) (subst (λ y. DoneBy link xs y s t) (sym is) done)

  others_as : (jobs : Load → List Job) (o : Outcome) (s t k v : Team N L R) → t.load ≡ s.load → v ≡ k → DoneBy link (jobs t.load) o t k → DoneBy link (jobs s.load) o t v
  others_as jobs o s t k v load is done = subst (λ (x : Team N L R). DoneBy link (jobs s.load) o t x) (sym is) (subst (λ (l : Load). DoneBy link (jobs l) o t k) load done)

  -- no job
  pub none_done : (s : Team N L R) (js : List Job) (r : Outcome) → js ≡ [] → r ≡ of_none → DoneBy link js r s s
  none_done s js r none is = done_as js [] of_none r s s none is (done_none s)

  -- the run is to end after these
  pub halt_done : (s k u : Team N L R) (js xs : List Job) (o : Outcome) → js ≡ xs → DoneBy link xs o s k → ((made : List JobEntry) × IsOneCall job.Halt job_answer.Halt made × Gathered (with_donor no_parts made) k u) → DoneBy link js o s u
  halt_done s k u js xs o same done halt = done_as js xs o o s u same refl (done_halted xs o s k u halt.0 done halt.1 halt.2)

  pub same_done : (s k : Team N L R) (js xs : List Job) (o : Outcome) → js ≡ xs → DoneBy link xs o s k → DoneBy link js o s k
  same_done s k js xs o same done = done_as js xs o o s k same refl done

  load_of : (s t : Team N L R) (d : DonorHub) → t ≡ record s { donor = d } → t.load ≡ s.load
  load_of s t d rest = ap (λ (x : Team N L R). x.load) rest

  pub keep_done : (jobs : Load → List Job) (s t k v : Team N L R) (o r : Outcome) (cell : CellModel SharedDonor) (seat e : JobSeat) (d : DonorHub) (work : Upkeep) (end : Ending)
      → DonorIsLent s cell seat t → DoneBy link (jobs t.load) o t k → v ≡ k → Worked (λ made. IsUpkeep work end (said_in made)) seat e → IsTaken v.donor e d → r ≡ with_job o (of_ending end)
      → (js : List Job) → js ≡ jobs s.load ++ Keeps work ∷ [] → DoneBy link js r s (record v { donor = d })
  keep_done jobs s t k v o r cell seat e d work end lent others is did taken result js same =
      done_as js (jobs s.load ++ Keeps work ∷ []) (with_job o (of_ending end)) r s (record v { donor = d }) same result
      (done_kept (jobs s.load) o s t v cell seat e d work end lent (others_as jobs o s t k v (load_of s t t.donor lent.rest) is others) did taken)

  pub write_done : (jobs : Load → List Job) (s t k v : Team N L R) (o r : Outcome) (cell : CellModel SharedDonor) (seat e : JobSeat) (d : DonorHub) (number : ℕ) (end : Ending)
      → DonorIsLent s cell seat t → DoneBy link (jobs t.load) o t k → v ≡ k
      → Worked (λ made. (w : Writer) × Writes end (starting s.load.seed number s.load.tables s.load.transactions) (said_in made) w) seat e → IsTaken v.donor e d → r ≡ with_job o (of_writing end)
      → (js : List Job) → js ≡ jobs s.load ++ Writes' number ∷ [] → DoneBy link js r s (record v { donor = d })
  write_done jobs s t k v o r cell seat e d number end lent others is did taken result js same =
      done_as js (jobs s.load ++ Writes' number ∷ []) (with_job o (of_writing end)) r s (record v { donor = d }) same result
      (done_written (jobs s.load) o s t v cell seat e d number end lent (others_as jobs o s t k v (load_of s t t.donor lent.rest) is others) did taken)

  pub serve_done : (jobs : Load → List Job) (s t k v : Team N L R) (o r : Outcome) (server : Server) (desk desk_end : DeskSeat N L) (e : JobSeat) (d : DonorHub) (q : DeskHub N L) (task : ℕ) (end : Ending)
      → ServeIsLent s server desk t → DoneBy link (jobs t.load) o t k → v ≡ k → ServesTask link task end server.seat e desk desk_end → IsTaken v.donor e d → IsTaken v.desk desk_end q → r ≡ with_job o (of_ending end)
      → (js : List Job) → js ≡ jobs s.load ++ Serves task ∷ [] → DoneBy link js r s (record v { donor = d; desk = q })
  serve_done jobs s t k v o r server desk desk_end e d q task end lent others is did taken taken_desk result js same =
      done_as js (jobs s.load ++ Serves task ∷ []) (with_job o (of_ending end)) r s (record v { donor = d; desk = q }) same result
      (done_served (jobs s.load) o s t v server desk desk_end e d q task end lent (others_as jobs o s t k v (ap (λ (x : Team N L R). x.load) lent.rest) is others) did taken taken_desk)

  pub fetch_done : (jobs : Load → List Job) (s t k v : Team N L R) (o r : Outcome) (task : ℕ) (f : FetcherModel R) (seat : RecipientSeat R) (desk desk_end : DeskSeat N L) (watch watch_end : JobSeat) (h : RecipientHub R) (q : DeskHub N L) (d : DonorHub) (end : FetchEnd)
      → FetchIsLent s task f desk watch t → DoneBy link (jobs t.load) o t k → v ≡ k → FetchesTask link f seat desk desk_end watch watch_end end → IsTaken v.recipient seat h → IsTaken v.desk desk_end q → IsTaken v.donor watch_end d → r ≡ with_task o end
      → (js : List Job) → js ≡ jobs s.load ++ Fetches task ∷ [] → DoneBy link js r s (record v { donor = d; recipient = h; desk = q })
  fetch_done jobs s t k v o r task f seat desk desk_end watch watch_end h q d end lent others is did taken taken_desk taken_watch result js same =
      done_as js (jobs s.load ++ Fetches task ∷ []) (with_task o end) r s (record v { donor = d; recipient = h; desk = q }) same result
      (done_fetched (jobs s.load) o s t v task f seat desk desk_end watch watch_end h q d end lent (others_as jobs o s t k v lent.load is others) did taken taken_desk taken_watch)

-- what a writer did, by the numbers that it was given
pub did_write : (end : Ending) (seed number tables count : ℕ) (seed' number' tables' count' : ℕ) (v w : JobSeat) → seed ≡ seed' → number ≡ number' → tables ≡ tables' → count ≡ count'
    → Worked (λ made. (x : Writer) × Writes end (starting seed number tables count) (said_in made) x) v w → Worked (λ made. (x : Writer) × Writes end (starting seed' number' tables' count') (said_in made) x) v w
did_write end seed number tables count seed' number' tables' count' v w a b c d did =
    subst (λ n. Worked (λ made. (x : Writer) × Writes end (starting seed' number' tables' n) (said_in made) x) v w) d
    (subst (λ n. Worked (λ made. (x : Writer) × Writes end (starting seed' number' n count) (said_in made) x) v w) c
    (subst (λ n. Worked (λ made. (x : Writer) × Writes end (starting seed' n tables count) (said_in made) x) v w) b
    (subst (λ n. Worked (λ made. (x : Writer) × Writes end (starting n number tables count) (said_in made) x) v w) a did)))

-- A stage is acknowledged: the session goes on to the next one, and the copy of pages ends at the
-- stop.
use Rattle.std.proofs.Common.{◌≡◌, ◌≤◌, ◌∙◌, ◌++◌, ◌∷◌, ◌==◌, [], ℕ, Bool, true, false, if◌then◌else◌, List, Option, None, Some, is_some, refl, sym, ap, subst, arith, inl, inr}
use Rattle.std.specs.List.{AllByRecursion, Contains}
use Rattle.std.specs.Option.{option_map_or}
use Rattle.std.proofs.lemmas.Bool.{eqb-true}
use Rattle.clone_law.specs.Since as since
use Rattle.clone_archive.specs.Archived.{Archived, archived_of}
use Rattle.clone_image.specs.Redone.{Standing}
use Rattle.clone_track.specs.TrackedPages.{listed}
use Rattle.clone_snapshot.specs.StageLists as lists
use Rattle.clone_snapshot.specs.StageLists.{StageList, stage_of}
use Rattle.clone_chunk.specs.Stages.{stage_number}
use Rattle.clone_accepted.specs.Answers.{Stage}
use Rattle.clone_standing.specs.Latest.{IsLowRoom}
use Rattle.clone_session.specs.declared.caller.Caller.{Caller}
use Rattle.clone_session.specs.declared.ending.Moment.{Moment}
use Rattle.clone_session.specs.declared.info.Stop.{Stop}
use Rattle.clone_session.specs.declared.info.StageInfo.{StageInfo}
use Rattle.clone_session.specs.Cloning.{Cloning, Session}
use Rattle.clone_session.specs.CloneCalls.{Acknowledges}
use Rattle.clone_session.specs.CloneCauses.{donor_stage}
use Rattle.clone_session.specs.Effects.{Becomes, advanced, created_since, files_ended, in_stage, position_of, stopped_at}
use Rattle.clone_session.proofs.PartLemmas.{stands_as}
use Rattle.clone_engine.specs.Engine.{Engine}
use Rattle.clone_engine.specs.Copying.{moment_of, taken_after, taken_over}
use Rattle.clone_engine.specs.Donor.{Donor, IsDonor, known_files, list_of}
use Rattle.clone_engine.specs.Taken.{HasStopped, IsTaken, IsTakenBy, IsTakenIn, Taken}
use Rattle.clone_engine.proofs.ToldLemmas.{of_told}
use Rattle.clone_sides.specs.Trace.{Entry, end_of}
use Rattle.clone_sides.specs.Answered.{answers, to_session, told_by}
use Rattle.clone_sides.specs.Facts.{CountsEarly, HasMoment, InLists, IsBefore, IsPast, Keeps, Kept, Knows, Lists, ComesTo, kept, kept_of}
use Rattle.clone_sides.specs.Moment.{StopsAt}
use Rattle.clone_sides.proofs.ActLemmas.{Next, taken_in, told, told_more}
use Rattle.clone_sides.proofs.CallLemmas.{Tells as SameTold}
use Rattle.clone_sides.proofs.CountLemmas.{over_counts, stop_counts}
use Rattle.clone_sides.proofs.KeptLemmas.{becomes_kept, grows_same, keeps_stays, leaves_becomes, list_kept, range_stays, redo_stays, same_kept}
use Rattle.clone_sides.proofs.KnownLemmas.{Goes, knows_goes, moments_stay, still_goes}
use Rattle.clone_sides.proofs.LowLemmas.{made_low}
use Rattle.clone_sides.proofs.OptionLemmas.{same_some, told_disk, two_none}
use Rattle.clone_sides.proofs.StopLemmas.{stops_here}
use Rattle.clone_sides.proofs.WayLemmas.{IsAcking}

no_page : (p : ℕ × ℕ) → Contains [] p → ⊥
no_page p (i, within, none) = omega (arith, within)

module _ (number : ℕ) (d : Donor) (done : List Entry) (v : Donor) (taken : Taken) (e : Entry) (l : Lists) (knows : Knows number (answers number done) v taken l) (moments : HasMoment number d done v taken) (donor : IsDonor e.after)
    (caller : Caller) (stage floor : ℕ) (info : StageInfo) (acking : IsAcking e.act v e.after caller stage floor info) (here : end_of d done ≡ v) where
  abbrev t : Donor
  t = e.after

  abbrev now : Moment
  now = moment_of v.engine

  abbrev files : List (ℕ × ℕ)
  files = known_files v.engine

  abbrev Acked : Taken → Type 0
  Acked news = Next number d done e (to_session number info.session (Stage (told_by info.plan))) news

  abbrev did : Acknowledges now files caller.session stage v.cloning t.cloning info
  did = acking.acks.acknowledges

  -- the session that is acknowledged is the open one
  abbrev s : Session
  s = did.0

  stands_here : v.cloning.session ≡ Some s
  stands_here = stands_as v.cloning.session caller.session s did.1

  kept_is : kept s ≡ (number, knows.list, knows.at.created)
  kept_is = same_kept v.cloning s (number, knows.list, knows.at.created) stands_here knows.at.session

  list_is : s.snap.list ≡ knows.list
  list_is = ap (λ (k : Kept). k.1) kept_is

  own_number : s.number ≡ number
  own_number = ap (λ (k : Kept). k.0) kept_is

  list_taken : IsTakenIn v.cloning v.engine.buffer.log taken knows.list
  list_taken = taken_in number d done v taken e l knows moments donor

  told_same : SameTold v.engine t.engine
  told_same = ap (λ (x : Engine). is_some x.disk.told) acking.acks.settles

  -- it changes nothing
  stays : Becomes t.cloning v.cloning → IsTaken t taken → Acked taken
  stays same is = told number d done v taken e l knows moments donor info (leaves_becomes v.cloning t.cloning same) (ap (λ (x : Engine). x.flights.files) acking.acks.settles) is told_same did.3

  -- the session's stage is over, and this one begins
  comes : (next : StageList) (m : Lists) (list : StageList) → knows.list ≡ list → ComesTo number t next m → (IsPast next → AllByRecursion IsLowRoom m.made) → (news : Taken) → Goes number v t list next taken news l m → IsTaken t news → HasMoment number d (done ++ e ∷ []) t news → Acked news
  comes next m list is at low news goes is_taken had = (
    m,
    knows_goes number (answers number done) (to_session number info.session (Stage (told_by info.plan))) v t taken news l m knows next (subst (λ (x : StageList). Goes number v t x next taken news l m) (sym is) goes) at is_taken donor (told_same ∙ knows.tells) low
        (told_more number d done v taken e l knows moments donor info news next m at did.3),
    had,
  )

  -- it stands there
  stands_at : (next : StageList) (created : List (ℕ × ℕ)) (m : Lists) → kept_of t.cloning ≡ Some (s.number, next, created) → InLists next created t.engine m → Keeps number t.cloning next → ComesTo number t next m
  stands_at next created m kept in_lists keeps = record { created = created; session = kept ∙ ap (λ (n : ℕ). Some (n, next, created)) own_number; in_lists = in_lists; keeps = keeps }

  -- THE COPY OF FILES is over.
  files_over_now : (spaces : List (ℕ × ℕ)) → knows.list ≡ lists.Files spaces → Becomes t.cloning (files_ended now (created_since spaces files) s v.cloning) → IsTaken t (taken_over v.engine (lists.Files spaces) taken) → Acked (taken_over v.engine (lists.Files spaces) taken)
  files_over_now spaces is becomes is_taken =
      let news = taken_over v.engine (lists.Files spaces) taken in
      let pages = listed v.cloning.tracking.pages in
      let created = created_since spaces files in
      let m : Lists = record l { pages = pages } in
      let in_lists : InLists (lists.Files spaces) knows.at.created v.engine l = subst (λ (x : StageList). InLists x knows.at.created v.engine l) is knows.at.in_lists in
      let unarchived : v.cloning.archive ≡ None = subst (Keeps number v.cloning) is knows.at.keeps in
      let made_is : created ≡ l.made = ap (λ (x : List (ℕ × ℕ)). created_since x files) in_lists.0 ∙ sym in_lists.2 in
      let (disk, there) = told_disk v.engine.disk.told knows.tells in
      let early : (x y : ℕ) (u : Standing) → CountsEarly l taken.copies x y u → CountsEarly m news.copies x y u = (λ x y u counts. elim counts [
        | inl c ↦ over_counts v.cloning.tracking.pages taken.copies now.checkpoint x y u (subst (IsTakenIn v.cloning v.engine.buffer.log taken) is list_taken) c
        | inr h ↦ absurd (no_page (x, y) (subst (λ (ps : List (ℕ × ℕ)). Contains ps (x, y)) in_lists.1 h))
      ]) in
      let goes : Goes number v t (lists.Files spaces) (lists.Pages pages) taken news l m = record {
        past = λ past. absurd past;
        before = λ soon. (tt, refl);
        files = refl;
        pages = λ past. absurd past;
        made = λ past. refl;
        bare = λ x y u bare. inr (record { any = bare.any; listed = bare.listed; made = bare.made }, early x y u);
        early = λ x y u has. early x y u;
        late = λ past. absurd past;
        range = λ x y z r. absurd (two_none v.cloning.archive r.archive unarchived r.stands);
        redo = λ chunk block from bytes f. absurd (two_none v.cloning.archive f.archive unarchived f.stands);
      } in
      comes (lists.Pages pages) m (lists.Files spaces) is
      (stands_at (lists.Pages pages) created m (becomes_kept t.cloning (files_ended now created s v.cloning) becomes) (refl, made_is) (record { start = now.checkpoint; bytes = []; stop = None }, ap (λ (c : Cloning). c.archive) becomes, refl))
      (λ past. subst (AllByRecursion IsLowRoom) made_is (made_low v.engine knows.donor.engine disk there spaces)) news goes is_taken
      (moments_stay number d done e v taken news refl (ap (λ (c : Cloning). c.stop) becomes) moments)

  -- THE STOP
  module _ (pages : List (ℕ × ℕ)) (is : knows.list ≡ lists.Pages pages) (own : stage ≡ stage_number (stage_of (lists.Pages pages))) (a : Archived) (stands : v.cloning.archive ≡ Some a) (unended : a.stop ≡ None)
      (became : Becomes t.cloning (stopped_at now s a v.cloning)) (is_taken : IsTaken t (taken_over v.engine (lists.Pages pages) taken)) where
    abbrev news : Taken
    news = taken_over v.engine (lists.Pages pages) taken

    abbrev next : StageList
    next = lists.Redo a.start now.end

    abbrev ended : Archived
    ended = record a { stop = Some now.end }

    abbrev stop : Stop
    stop = record { session = s.number; position = now.position; drops = now.drops }

    stopped : t.cloning.stop ≡ Some stop
    stopped = ap (λ (c : Cloning). c.stop) became

    archived : t.cloning.archive ≡ Some ended
    archived = ap (λ (c : Cloning). c.archive) became

    kept_now : kept_of t.cloning ≡ Some (s.number, next, s.created)
    kept_now = becomes_kept t.cloning (stopped_at now s a v.cloning) became

    moment : StopsAt number d (done ++ e ∷ []) v.engine stop
    moment = stops_here number d done v e here (moments.early (knows.unstopped (subst IsBefore (sym is) tt))).0 caller stage floor info acking pages (list_is ∙ is) (own ∙ sym (ap (λ (x : StageList). stage_number (stage_of x)) (list_is ∙ is))) own_number a became

    -- the archive doesn't reach past the end of the log
    within : archived_of a ≤ now.end
    within =
        let (disk, there) = told_disk t.engine.disk.told (told_same ∙ knows.tells) in
        let has : HasStopped t.cloning t.engine.buffer.log news ended = subst (IsTakenBy t.cloning t.engine.buffer.log news) (list_kept t.cloning (s.number, next, s.created) kept_now) (of_told (λ _. IsTakenBy t.cloning t.engine.buffer.log news (list_of t.cloning)) t.engine.disk.told disk there is_taken.stage) ended archived in
        let at_is : has.at ≡ v.engine = same_some news.stop has.at v.engine has.stop refl in
        let end_is : now.end ≡ since.ends v.engine.buffer.log = (let both : Some now.end ≡ Some (since.ends has.at.buffer.log) = has.end in cc) ∙ ap (λ (x : Engine). since.ends x.buffer.log) at_is in
        let of_log = knows.donor.redo a stands in
        omega (arith, of_log.within, end_is)

    not_ended : (b : Archived) → v.cloning.archive ≡ Some b → (end : ℕ) → b.stop ≡ Some end → ⊥
    not_ended b also end some = two_none a.stop end unended (ap (λ (x : Archived). x.stop) (same_some v.cloning.archive a b stands also) ∙ some)

    goes : Goes number v t (lists.Pages pages) next taken news l l
    goes =
        still_goes number v t (lists.Pages pages) next taken news l l.made (λ x y u. stop_counts v.engine.buffer.log (taken.copies x y) u) (λ past. tt) (λ soon. absurd soon) (λ past. refl) (λ x y u bare. bare)
        (λ x y z r. absurd (not_ended r.archive r.stands y r.end)) (λ chunk block from bytes f. absurd (not_ended f.archive f.stands f.end f.ended))

    stops_now : Acked news
    stops_now =
        comes next l (lists.Pages pages) is
        (stands_at next s.created l kept_now tt
        (record { archive = ended; stands = archived; start = refl; end = refl; within = within; last = stop; stop = stopped; own = own_number; commits = sym (ap position_of stopped) }))
        (λ past. knows.low (subst IsPast (sym is) tt)) news goes is_taken
        (record {
          late = λ at is_at. (let engine_is : v.engine ≡ at = same_some news.stop v.engine at refl is_at in (stop, stopped, subst (λ (x : Engine). StopsAt number d (done ++ e ∷ []) x stop) engine_is moment));
          early = λ none. absurd (two_none news.stop v.engine none refl);
        })

  -- THE COPY OF REDO is over.
  redo_over_now : (start end : ℕ) → knows.list ≡ lists.Redo start end → Becomes t.cloning (in_stage lists.Nothing s v.cloning) → IsTaken t taken → Acked taken
  redo_over_now start end is becomes is_taken =
      let archive = grows_same v.cloning.archive t.cloning.archive (ap (λ (c : Cloning). c.archive) becomes) in
      let stop : t.cloning.stop ≡ v.cloning.stop = ap (λ (c : Cloning). c.stop) becomes in
      let goes = still_goes number v t (lists.Redo start end) lists.Nothing taken taken l l.made (λ x y u counts. counts) (λ past. tt) (λ soon. absurd soon) (λ past. refl) (λ x y u bare. bare) (λ x y z. range_stays v.cloning t.cloning archive number x y z stop) (redo_stays v.cloning t.cloning archive) in
      comes lists.Nothing l (lists.Redo start end) is
      (stands_at lists.Nothing s.created l (becomes_kept t.cloning (in_stage lists.Nothing s v.cloning) becomes) tt (start, end, keeps_stays v.cloning t.cloning archive number (lists.Redo start end) stop (subst (Keeps number v.cloning) is knows.at.keeps)))
      (λ past. knows.low (subst IsPast (sym is) tt)) taken goes is_taken
      (moments_stay number d done e v taken taken refl stop moments)

  over : (list : StageList) → knows.list ≡ list → stage ≡ stage_number (stage_of list) → Becomes t.cloning (advanced now files s list v.cloning) → IsTaken t (taken_over v.engine list taken) → Acked (taken_over v.engine list taken)
  over (lists.Files spaces) is own became is_taken = files_over_now spaces is became is_taken
  over (lists.Pages pages) is own became is_taken =
      let (a, stands, unended) = subst (Keeps number v.cloning) is knows.at.keeps in
      stops_now pages is own a stands unended (subst (Becomes t.cloning) (ap (λ (o : Option Archived). option_map_or (λ a. stopped_at now s a v.cloning) o v.cloning) stands) became) is_taken
  over (lists.Redo start end) is own became is_taken = redo_over_now start end is became is_taken
  over lists.Nothing is own became is_taken = stays became is_taken

  pub acked : IsTaken t (taken_after v stage taken) → Acked (taken_after v stage taken)
  acked = subst (λ (news : Taken). IsTaken t news → Acked news) (sym taken_is) (by (stage == donor_stage s) refl did.2)
    where
      taken_is : taken_after v stage taken ≡ (if stage == donor_stage s then taken_over v.engine s.snap.list taken else taken)
      taken_is = ap (λ (o : Option Session). option_map_or (λ (x : Session). if stage == donor_stage x then taken_over v.engine x.snap.list taken else taken) o taken) stands_here

      by : (own : Bool) → (stage == donor_stage s) ≡ own → Becomes t.cloning (if own then advanced now files s s.snap.list v.cloning else v.cloning) → IsTaken t (if own then taken_over v.engine s.snap.list taken else taken) → Acked (if own then taken_over v.engine s.snap.list taken else taken)
      by true own became is_taken = over s.snap.list (sym list_is) (eqb-true stage (donor_stage s) own) became is_taken
      by false own became is_taken = stays became is_taken

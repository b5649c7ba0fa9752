-- A donor's whole run, act by act: what is known of the session of a number.
use Rattle.std.proofs.Common.{◌≡◌, ◌∙◌, ◌++◌, ◌⊎◌, ◌∷◌, ◌==◌, [], ℕ, Bool, true, false, if◌then◌else◌, List, Option, None, Some, IsSome, option_map, is_some, refl, sym, ap, subst, inl, inr, append_assoc}
use Rattle.std.specs.Prelude.{nat_le}
use Rattle.std.specs.FinMap as finite
use Rattle.std.specs.List.{Contains}
use Rattle.std.proofs.lemmas.Bool.{eqb-true, leb-false, true≢false, eq-eqb}
use Rattle.std.proofs.lemmas.List.{append-nil}
use Rattle.std.proofs.lemmas.List.Elements.{Contains-append_cases}
use Rattle.clone_outside.specs.Disk.{DiskImage}
use Rattle.clone_outside.specs.Mark.{IsEnd}
use Rattle.clone_outside.specs.declared.mark.CloneEnd.{CloneEnd}
use Rattle.clone_image.specs.Redone.{Standing as PageStanding, past_end}
use Rattle.clone_track.specs.TrackedPages.{Pages as Noted}
use Rattle.clone_law.specs.Machine.{Copy}
use Rattle.clone_snapshot.specs.StageLists as lists
use Rattle.clone_snapshot.specs.StageLists.{StageList, all_pages, pages_of_space}
use Rattle.clone_flush.specs.Flights.{ends_before}
use Rattle.clone_accepted.specs.Answers.{Answer, Item, Moves, Stage, ToldFiles, answer_in}
use Rattle.clone_accepted.specs.Disk.{laid}
use Rattle.clone_accepted.specs.Turns.{InTurn}
use Rattle.clone_accepted.specs.Whole.{IsWhole}
use Rattle.clone_standing.specs.Counting.{Counts}
use Rattle.clone_standing.proofs.PlaceLemmas.{in_joined}
use Rattle.clone_session.specs.declared.caller.Hello.{Hello}
use Rattle.clone_session.specs.declared.info.StageInfo.{StageInfo}
use Rattle.clone_session.specs.declared.info.Stop.{Stop}
use Rattle.clone_session.specs.Cloning.{Cloning, Session}
use Rattle.clone_session.specs.Effects.{created_since, left, opened, Tells as TellsInfo}
use Rattle.clone_session.proofs.PartLemmas.{stands_as}
use Rattle.clone_engine.specs.Engine.{Engine}
use Rattle.clone_engine.specs.Acts.{Act, Acts, after_act}
use Rattle.clone_engine.specs.Copies.{first_copies, first_copy, first_starts, is_noted}
use Rattle.clone_engine.specs.Copying.{taken_after, taken_at, taken_from}
use Rattle.clone_engine.specs.Donor.{Donor, IsDonor, known_files}
use Rattle.clone_engine.specs.Taken.{IsTaken, Taken, nothing}
use Rattle.clone_engine.proofs.TakenPages.{has_entry}
use Rattle.clone_sides.specs.Trace.{Entry, Runs, end_of}
use Rattle.clone_sides.specs.Answered.{Again, Gone, IsOpenedOnce, Phase, Open, Unopened, WereAnswered, answered_by, answers, ends, opens, phase_after, phase_with, said_of, to_session, told_by}
use Rattle.clone_sides.specs.Facts.{FactOf, HasStop, IsBare, Knows, Lists, ComesTo, Kept, kept, kept_of}
use Rattle.clone_sides.specs.Moment.{HoldsStop, first_stop, own_stop}
use Rattle.clone_sides.proofs.AckLemmas.{acked}
use Rattle.clone_sides.proofs.ActLemmas.{Next, Stays, given, no_more, quiet, told}
use Rattle.clone_sides.proofs.KeptLemmas.{becomes_kept, block_leaves, number_in, Leaves, number_stands, number_there, some_session}
use Rattle.clone_sides.proofs.KnownLemmas.{answers_more, is_answer, stop_stays, told_fact}
use Rattle.clone_sides.proofs.WayLemmas.{Acking, Giving, IsOpening, Leaving, Opening, Quiet, Telling, Way, Went, went, told_number}
use Rattle.clone_sides.proofs.OptionLemmas.{in_space, same_some, two_none}
use Rattle.clone_sides.proofs.StopLemmas.{Stopping, ack_leaves, end_more, none_more, stop_at}
use Rattle.clone_sides.proofs.WholeLemmas.{holds}

pub record Walked (number : ℕ) (d : Donor) (done : List Entry) (v : Donor) (taken : Taken) : Type 0 where
  pub here : end_of d done ≡ v
  pub is : IsTaken v taken
  pub donor : IsDonor v
  pub tells : IsSome v.engine.disk.told

-- it isn't open
abbrev pub IsAway : ℕ → Cloning → Type 0
IsAway number c = number_in c ≡ Some number → ⊥

-- nothing was answered to it, and it came to no stop
pub record IsUnopened (number : ℕ) (done : List Entry) (v : Donor) : Type 0 where
  pub none : IsAway number v.cloning
  pub unanswered : answers number done ≡ []
  pub first : first_stop number done ≡ None
  pub own : own_stop number v.cloning.stop ≡ None

-- what was known of it when it left
abbrev pub Stayed : ℕ → Donor → List Entry → Donor → Taken → Type 0
Stayed number d done v taken = (l : Lists) × Knows number (answers number done) v taken l × HasStop number d done v taken

-- how far the session has come, and what is known
abbrev pub Covers : ℕ → Donor → List Entry → Donor → Taken → Phase → Type 0
Covers number d done v taken Unopened = IsUnopened number done v
Covers number d done v taken Open = Stays number d done v taken
Covers number d done v taken Gone = IsAway number v.cloning × ((w : Donor) × (was : Taken) × Stayed number d done w was)
Covers number d done v taken Again = Unit {0}

-- A SESSION THAT ISN'T OPEN isn't answered.

away_kept : (number : ℕ) (c e : Cloning) → number_in e ≡ number_in c → IsAway number c → IsAway number e
away_kept number c e same away is = away (sym same ∙ is)

pub away_none : (number : ℕ) (c : Cloning) → kept_of c ≡ None → IsAway number c
away_none number c none is = two_none (number_in c) number (ap (option_map (λ (k : Kept). k.0)) none) is

-- the stop of another session is none of this one
other_stop : (number : ℕ) (stop : Stop) → (stop.session ≡ number → ⊥) → own_stop number (Some stop) ≡ None
other_stop number stop other = by (stop.session == number) refl
  where
    by : (b : Bool) → (stop.session == number) ≡ b → (if b then Some stop else None) ≡ None
    by true is = absurd (other (eqb-true stop.session number is))
    by false is = refl

none_to : (number session : ℕ) (answer : Answer) → (session ≡ number → ⊥) → to_session number session answer ≡ []
none_to number session answer other = by (session == number) refl
  where
    by : (b : Bool) → (session == number) ≡ b → (if b then answer ∷ [] else []) ≡ []
    by true is = absurd (other (eqb-true session number is))
    by false is = refl

module _ (number : ℕ) (v t : Donor) (away : IsAway number v.cloning) (a : Act) where
  abbrev IsOwnNone : Type 0
  IsOwnNone = own_stop number v.cloning.stop ≡ None → own_stop number t.cloning.stop ≡ None

  pub record Absent : Type 0 where
    pub silent : answered_by number a ≡ []
    pub away_still : IsAway number t.cloning
    pub own_still : own_stop number v.cloning.stop ≡ None → own_stop number t.cloning.stop ≡ None

  -- it is as before
  left_away : Leaves v.cloning t.cloning → IsAway number t.cloning × IsOwnNone
  left_away leaves = (away_kept number v.cloning t.cloning (ap (option_map (λ (k : Kept). k.0)) leaves.session) away, λ own. ap (own_stop number) leaves.stop ∙ own)

  -- what is told of a session that isn't this one
  told_away : (info : StageInfo) → TellsInfo t.cloning info → IsAway number t.cloning → to_session number info.session (Stage (told_by info.plan)) ≡ []
  told_away info tells gone = none_to number info.session (Stage (told_by info.plan)) (λ same. gone (told_number t.cloning info tells ∙ ap (λ (n : ℕ). Some n) same))

  -- another session may come to its stop
  acked_own : (s : Session) → v.cloning.session ≡ Some s → (stage : ℕ) → (t.cloning.stop ≡ v.cloning.stop) ⊎ Stopping v t s stage → IsOwnNone
  acked_own s there stage (inl same) own = ap (own_stop number) same ∙ own
  acked_own s there stage (inr stopping) own =
      ap (λ (c : Cloning). own_stop number c.stop) stopping.becomes
      ∙ other_stop number (stop_at v s) (λ same. away (number_there v.cloning s there ∙ ap (λ (n : ℕ). Some n) same))

  pub absent : opens number a ≡ false → Way a v t → Absent
  absent other (Quiet q) = (let left = left_away q.leaves in record { silent = q.silent number; away_still = left.0; own_still = left.1 })
  absent other (Telling info q) = (let left = left_away q.leaves in record { silent = q.says number ∙ told_away info q.tells left.0; away_still = left.0; own_still = left.1 })
  absent other (Opening hello info q) =
      let off : (info.session == number) ≡ false = ap (opens number) (sym q.is) ∙ other in
      record {
        silent = ap (answered_by number) q.is ∙ ap (λ (b : Bool). if b then Stage (told_by info.plan) ∷ [] else []) off;
        away_still = λ is. true≢false (sym (eq-eqb info.session number (same_some (number_in t.cloning) info.session number (told_number t.cloning info q.tells) is)) ∙ off);
        own_still = λ own. ap (λ (c : Cloning). own_stop number c.stop) q.becomes ∙ own;
      }
  absent other (Giving caller stage chunk block read last q) =
      let left = left_away (block_leaves v.cloning t.cloning caller chunk block last q.gives.answers).0 in
      record {
        silent = ap (answered_by number) q.is ∙ none_to number caller.session (said_of stage chunk block read) (λ same. away (number_stands v.cloning caller.session q.gives.session q.gives.stands ∙ ap (λ (n : ℕ). Some n) same));
        away_still = left.0;
        own_still = left.1;
      }
  absent other (Acking caller stage floor info q) =
      let did = q.acks.acknowledges in
      let left = ack_leaves v t caller stage info did in
      let gone = away_kept number v.cloning t.cloning left.number away in
      record { silent = ap (answered_by number) q.is ∙ told_away info did.3 gone; away_still = gone; own_still = acked_own did.0 (stands_as v.cloning.session caller.session did.0 did.1) stage left.stop }
  absent other (Leaving q) = record {
    silent = q.silent number;
    away_still = away_none number t.cloning (becomes_kept t.cloning (left v.cloning) q.becomes);
    own_still = λ own. ap (λ (c : Cloning). own_stop number c.stop) q.becomes ∙ own;
  }

-- A SESSION IS OPENED: each page of the donor's files is to be read, and of others what stands bare
-- counts.

module _ (e : Engine) (tracked : Option Noted) (made : List (ℕ × ℕ)) (s n : ℕ) (u : PageStanding) (bare : IsBare (record { files = known_files e; pages = []; made = made }) s n u) where
  abbrev Unread : Copy → Type 0
  Unread copy = Contains (all_pages (lists.Files (known_files e))) (s, n) ⊎ (Counts copy u ⊎ Contains {X = ℕ × ℕ} [] (s, n))

  first_unread : Unread (first_copies tracked e.flights.files s n)
  first_unread = by (is_noted tracked s n) (finite.get e.flights.files s) refl
    where
      file : (pages : ℕ) → finite.get e.flights.files s ≡ Some pages → (past : Bool) → nat_le pages n ≡ past → Unread (first_copy false (if past then past_end ∷ [] else []))
      file pages known true past = inr (inl (inr (inl (bare.listed pages (has_entry e.flights.files s pages known)))))
      file pages known false within = inl (in_joined pages_of_space (known_files e) (s, pages) (s, n) (has_entry e.flights.files s pages known) (in_space s pages n (leb-false pages n within)))

      by : (noted : Bool) (o : Option ℕ) → finite.get e.flights.files s ≡ o → Unread (first_copy noted (first_starts o n))
      by true o is = inr (inl (inl refl))
      by false None is = inr (inl (inr (inl bare.any)))
      by false (Some pages) is = file pages is (ends_before (Some pages) n) refl

module _ (number : ℕ) (d : Donor) (done : List Entry) (v : Donor) (taken : Taken) (walked : Walked number d done v taken) (e : Entry) (acts : Acts e.act v e.after) where
  abbrev t : Donor
  t = e.after

  abbrev more : List Entry
  more = done ++ e ∷ []

  abbrev news : Taken
  news = after_act e.act v t taken

  taken_now : IsTaken t news
  taken_now = acts.taken taken walked.is

  abbrev w : Went e.act v t
  w = went v t e.act acts.does

  -- what is known after an act that said this
  now : (said : List Answer) (after : Taken) → answered_by number e.act ≡ said → news ≡ after → Next number d done e said after → Stays number d more t news
  now said after is same (l, knows, moments) =
      subst (Stays number d more t) (sym same) (l, subst (λ (all : List Answer). Knows number all t after l) (sym (answers_more number done e ∙ ap (λ (x : List Answer). answers number done ++ x) is)) knows, moments)

  -- what was known stays so, while nothing is answered
  stays_known : answered_by number e.act ≡ [] → (x : Donor) (was : Taken) → Stayed number d done x was → Stayed number d more x was
  stays_known silent x was (l, knows, moments) = (
    l,
    subst (λ (all : List Answer). Knows number all x was l) (sym (answers_more number done e ∙ ap (λ (all : List Answer). answers number done ++ all) silent ∙ append-nil (answers number done))) knows,
    stop_stays number d done e x x was was refl refl moments,
  )

  -- THE SESSION IS OPENED
  opens_now : (hello : Hello) (info : StageInfo) → IsOpening e.act v t hello info → info.session ≡ number → IsUnopened number done v → Stays number d more t news
  opens_now hello info q own un =
      let said = to_session number info.session (Stage (told_by info.plan)) in
      let after = taken_at v t None taken in
      let list = lists.Files (known_files v.engine) in
      let l : Lists = record { files = known_files v.engine; pages = []; made = created_since (known_files v.engine) (known_files t.engine) } in
      let same : news ≡ after = ap (λ (a : Act). after_act a v t taken) q.is ∙ ap (λ (o : Option Session). taken_at v t o taken) q.none in
      let kept_now = becomes_kept t.cloning (opened hello (known_files v.engine) q.in_flight v.cloning) q.becomes in
      let asked : hello.session ≡ number = same_some (number_in t.cloning) hello.session info.session (ap (option_map (λ (k : Kept). k.0)) kept_now) (told_number t.cloning info q.tells) ∙ own in
      let at : ComesTo number t list l = record {
        created = [];
        session = kept_now ∙ ap (λ (n : ℕ). Some (n, list, [])) asked;
        in_lists = (refl, refl, refl);
        keeps = ap (λ (c : Cloning). c.archive) q.becomes;
      } in
      let stop : t.cloning.stop ≡ v.cloning.stop = ap (λ (c : Cloning). c.stop) q.becomes in
      let own_none : own_stop number t.cloning.stop ≡ None = ap (own_stop number) stop ∙ un.own in
      now said after (ap (answered_by number) q.is) same (
        l,
        record {
          list = list;
          at = at;
          is = subst (IsTaken t) same taken_now;
          donor = acts.donor;
          tells = ap (λ (x : Engine). is_some x.disk.told) q.same ∙ walked.tells;
          low = λ past. absurd past;
          unstopped = λ soon. refl;
          unread = first_unread v.engine t.cloning.tracking.pages l.made;
          facts = λ a has. elim (Contains-append_cases (answers number done) said a has) [
            | inl old ↦ no_more (FactOf number t.cloning list after.copies l) a (subst (λ (x : List Answer). Contains x a) un.unanswered old)
            | inr new ↦ subst (FactOf number t.cloning list after.copies l) (is_answer number info.session (Stage (told_by info.plan)) a new) (told_fact t number list l info at q.tells)
          ];
        },
        record { late = λ x stopped. absurd (let wrong : None ≡ Some x = stopped in cc); early = λ still. (none_more number done e un.first own_none, own_none) },
      )

  opened_by : IsUnopened number done v → opens number e.act ≡ true → Way e.act v t → Stays number d more t news
  opened_by un own (Quiet q) = absurd (true≢false (sym own ∙ q.neither.opens_none number))
  opened_by un own (Telling info q) =
      absurd (un.none (sym (ap (option_map (λ (k : Kept). k.0)) q.leaves.session) ∙ told_number t.cloning info q.tells ∙ ap (λ (n : ℕ). Some n) (q.opens_own number own)))
  opened_by un own (Opening hello info q) = opens_now hello info q (eqb-true info.session number (ap (opens number) (sym q.is) ∙ own)) un
  opened_by un own (Giving caller stage chunk block read last q) = absurd (true≢false (sym own ∙ ap (opens number) q.is))
  opened_by un own (Acking caller stage floor info q) = absurd (true≢false (sym own ∙ ap (opens number) q.is))
  opened_by un own (Leaving q) = absurd (true≢false (sym own ∙ q.opens_none number))

  -- ONE ACT, by how far the session had come
  unopened : IsUnopened number done v → (b : Bool) → opens number e.act ≡ b → Covers number d more t news (if b then Open else Unopened)
  unopened un true is = opened_by un is w.way
  unopened un false is =
      let away = absent number v t un.none e.act is w.way in
      let own = away.own_still un.own in
      record {
        none = away.away_still;
        unanswered = answers_more number done e ∙ ap (λ (x : List Answer). x ++ answered_by number e.act) un.unanswered ∙ away.silent;
        first = none_more number done e un.first own;
        own = own;
      }

  gone : Covers number d done v taken Gone → (b : Bool) → opens number e.act ≡ b → Covers number d more t news (if b then Again else Gone)
  gone known true is = tt
  gone (none, (x, was, known)) false is = (let away = absent number v t none e.act is w.way in (away.away_still, (x, was, stays_known away.silent x was known)))

  stands_by : Stays number d done v taken → ends e.act ≡ false → Way e.act v t → Stays number d more t news
  stands_by (l, knows, moments) still (Quiet q) = (let here = some_session v.cloning (number, knows.list, knows.at.created) knows.at.session in now [] news (q.silent number) refl (quiet number d done v taken e l knows moments acts.donor news q.leaves (q.follows here.0 here.1 taken) taken_now w.tells))
  stands_by (l, knows, moments) still (Telling info q) = now (to_session number info.session (Stage (told_by info.plan))) taken (q.says number) (q.news taken) (told number d done v taken e l knows moments acts.donor info q.leaves (ap (λ (x : Engine). x.flights.files) q.same) (subst (IsTaken t) (q.news taken) taken_now) w.tells q.tells)
  stands_by (l, knows, moments) still (Opening hello info q) = (let here = some_session v.cloning (number, knows.list, knows.at.created) knows.at.session in absurd (two_none v.cloning.session here.0 q.none here.1))
  stands_by (l, knows, moments) still (Giving caller stage chunk block read last q) =
      let same : news ≡ taken_from read taken = ap (λ (a : Act). after_act a v t taken) q.is in
      now (to_session number caller.session (said_of stage chunk block read)) (taken_from read taken) (ap (answered_by number) q.is) same (given number d done v taken e l knows moments acts.donor caller stage chunk block read last q (subst (IsTaken t) same taken_now) w.tells)
  stands_by (l, knows, moments) still (Acking caller stage floor info q) =
      let same : news ≡ taken_after v stage taken = ap (λ (a : Act). after_act a v t taken) q.is in
      now (to_session number info.session (Stage (told_by info.plan))) (taken_after v stage taken) (ap (answered_by number) q.is) same (acked number d done v taken e l knows moments acts.donor caller stage floor info q walked.here (subst (IsTaken t) same taken_now))
  stands_by known still (Leaving q) = absurd (true≢false (sym q.ends_it ∙ still))

  left_by : Stays number d done v taken → ends e.act ≡ true → Way e.act v t → Covers number d more t news Gone
  left_by known over (Quiet q) = absurd (true≢false (sym over ∙ q.neither.ends_none))
  left_by known over (Telling info q) = absurd (true≢false (sym over ∙ q.ends_none))
  left_by known over (Opening hello info q) = absurd (true≢false (sym over ∙ ap ends q.is))
  left_by known over (Giving caller stage chunk block read last q) = absurd (true≢false (sym over ∙ ap ends q.is))
  left_by known over (Acking caller stage floor info q) = absurd (true≢false (sym over ∙ ap ends q.is))
  left_by known over (Leaving q) = (away_none number t.cloning (becomes_kept t.cloning (left v.cloning) q.becomes), (v, taken, stays_known (q.silent number) v taken (known.0, known.1, known.2.late)))

  standing : Stays number d done v taken → (b : Bool) → ends e.act ≡ b → Covers number d more t news (if b then Gone else Open)
  standing known true is = left_by known is w.way
  standing known false is = stands_by known is w.way

  covers : (phase : Phase) → Covers number d done v taken phase → Covers number d more t news (phase_with number phase e.act)
  covers Unopened known = unopened known (opens number e.act) refl
  covers Open known = standing known (ends e.act) refl
  covers Gone known = gone known (opens number e.act) refl
  covers Again known = tt

  walked_on : end_of d more ≡ t → Walked number d more t news
  walked_on here = record { here = here; is = taken_now; donor = acts.donor; tells = w.tells ∙ walked.tells }

-- THE WHOLE RUN
pub record Walk (number : ℕ) (d : Donor) (trace : List Entry) (phase : Phase) : Type 0 where
  pub v : Donor
  pub taken : Taken
  pub covers_it : Covers number d trace v taken phase

walk : (number : ℕ) (d : Donor) (trace done : List Entry) (v : Donor) (taken : Taken) (phase : Phase) → Walked number d done v taken → Covers number d done v taken phase → Runs v trace → Walk number d (done ++ trace) (phase_after number phase trace)
walk number d [] done v taken phase walked known run = record { v = v; taken = taken; covers_it = subst (λ (x : List Entry). Covers number d x v taken phase) (sym (append-nil done)) known }
walk number d (e ∷ es) done v taken phase walked known run =
    subst (λ (x : List Entry). Walk number d x (phase_after number (phase_with number phase e.act) es)) (append_assoc done (e ∷ []) es)
    (walk number d es (done ++ e ∷ []) e.after (after_act e.act v e.after taken) (phase_with number phase e.act) (walked_on number d done v taken walked e run.0 (end_more d done e)) (covers number d done v taken walked e run.0 phase known) run.1)

-- THE LAW
pub moment : (number : ℕ) (d : Donor) (trace : List Entry) (items : List Item) (end : CloneEnd) (m : DiskImage) → IsTaken d nothing → d.cloning.session ≡ None → own_stop number d.cloning.stop ≡ None → IsDonor d → IsSome d.engine.disk.told → Runs d trace → IsOpenedOnce number trace
    → InTurn 0 items → WereAnswered number trace items → IsWhole items end.checkpoint end.lsn end.position → IsEnd end → m.spaces ≡ finite.empty → HoldsStop number d trace end (laid items m)
moment number d trace items end m is none unstopped donor tells run once turn answered whole ranges empty =
    let walked : Walked number d [] d nothing = record { here = refl; is = is; donor = donor; tells = tells } in
    let start : Covers number d [] d nothing Unopened = record { none = away_none number d.cloning (ap (option_map kept) none); unanswered = refl; first = refl; own = unstopped } in
    by (phase_after number Unopened trace) refl (walk number d trace [] d nothing Unopened walked start run)
  where
    known : (v : Donor) (taken : Taken) → Stayed number d trace v taken → HoldsStop number d trace end (laid items m)
    known v taken (l, knows, moments) = holds number (answers number trace) v taken l knows items answered turn end.checkpoint end.lsn end.position whole m empty d trace moments end ranges refl refl refl

    by : (phase : Phase) → phase_after number Unopened trace ≡ phase → Walk number d trace phase → HoldsStop number d trace end (laid items m)
    by Unopened is walked = absurd (no_more (λ a. ⊥) (answer_in (Moves (ToldFiles whole.spaces))) (subst (λ (x : List Answer). Contains x (answer_in (Moves (ToldFiles whole.spaces)))) walked.covers_it.unanswered (answered (Moves (ToldFiles whole.spaces)) whole.files)))
    by Open is walked = known walked.v walked.taken (walked.covers_it.0, walked.covers_it.1, walked.covers_it.2.late)
    by Gone is walked = known walked.covers_it.1.0 walked.covers_it.1.1 walked.covers_it.1.2
    by Again is walked = absurd (once is)

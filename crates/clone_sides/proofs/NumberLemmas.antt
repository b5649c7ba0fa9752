-- The position that was told of the copy of redo is that of the session's first stop. What the
-- donor's disk holds doesn't matter.
use Rattle.std.proofs.Common.{◌≡◌, ◌∙◌, ◌++◌, ◌⊎◌, ◌∷◌, ◌==◌, [], ℕ, Bool, true, false, if◌then◌else◌, List, Option, None, Some, option_map, refl, sym, ap, subst, inl, inr, append_assoc}
use Rattle.std.specs.List.{Contains}
use Rattle.std.specs.Option.{option_map_or, option_or}
use Rattle.std.proofs.lemmas.Bool.{eq-eqb, eqb-true, true≢false}
use Rattle.std.proofs.lemmas.List.{append-nil}
use Rattle.std.proofs.lemmas.List.Elements.{Contains-append_cases}
use Rattle.clone_archive.specs.Archived.{Archived}
use Rattle.clone_snapshot.specs.StageLists as lists
use Rattle.clone_snapshot.specs.StageLists.{StageList}
use Rattle.clone_accepted.specs.Answers.{Answer, Item, Moves, Stage, ToldRedo}
use Rattle.clone_calls.specs.declared.block.Block.{Block}
use Rattle.clone_calls.specs.declared.block.Block.TheVariants as block
use Rattle.clone_session.specs.declared.caller.Caller.{Caller}
use Rattle.clone_session.specs.declared.caller.Hello.{Hello}
use Rattle.clone_session.specs.declared.info.StageInfo.{StageInfo}
use Rattle.clone_session.specs.declared.info.Stop.{Stop}
use Rattle.clone_session.specs.Cloning.{Cloning, Session}
use Rattle.clone_session.specs.CloneCalls.{Acknowledges}
use Rattle.clone_session.specs.CloneCauses.{donor_stage}
use Rattle.clone_session.specs.Effects.{Becomes, Tells as TellsInfo, advanced, created_since, files_ended, in_stage, left, opened, plan_of, position_of, stopped_at}
use Rattle.clone_session.proofs.PartLemmas.{stands_as}
use Rattle.clone_engine.specs.Copying.{moment_of}
use Rattle.clone_engine.specs.Donor.{Donor, known_files}
use Rattle.clone_sides.specs.Trace.{Entry, Runs, end_of}
use Rattle.clone_sides.specs.Answered.{Again, Gone, IsOpenedOnce, Open, Phase, Unopened, WereAnswered, answered_by, answers, ends, opens, phase_after, phase_with, said_of, to_session, told_by}
use Rattle.clone_sides.specs.Facts.{IsBefore, Kept, kept, kept_of}
use Rattle.clone_sides.specs.Moment.{first_stop, own_stop}
use Rattle.clone_sides.proofs.ActLemmas.{no_more}
use Rattle.clone_sides.proofs.KeptLemmas.{Leaves, becomes_kept, block_leaves, number_in, same_kept, some_session}
use Rattle.clone_sides.proofs.KnownLemmas.{answers_more, is_answer}
use Rattle.clone_sides.proofs.OptionLemmas.{same_some, two_none}
use Rattle.clone_sides.proofs.StopLemmas.{first_more, none_more}
use Rattle.clone_sides.proofs.WalkLemmas.{IsAway, IsUnopened, absent, away_none}
use Rattle.clone_sides.proofs.WayLemmas.{Acking, Giving, IsAcking, IsOpening, Leaving, Opening, Quiet, Telling, Way, told_number, went}

-- the stop is past
abbrev IsLate : StageList → Type 0
IsLate (lists.Files spaces) = ⊥
IsLate (lists.Pages pages) = ⊥
IsLate (lists.Redo start end) = Unit {0}
IsLate lists.Nothing = Unit {0}

not_both : (list : StageList) → IsBefore list → IsLate list → ⊥
not_both (lists.Files spaces) soon late = late
not_both (lists.Pages pages) soon late = late
not_both (lists.Redo start end) soon late = soon
not_both lists.Nothing soon late = soon

-- the last stop is this session's
abbrev HasOwn : ℕ → Option Stop → Type 0
HasOwn number stop = (last : Stop) × (stop ≡ Some last) × (last.session ≡ number)

-- the first stop has this position
abbrev HasPosition : ℕ → List Entry → ℕ → Type 0
HasPosition number done position = (stop : Stop) × (first_stop number done ≡ Some stop) × (stop.position ≡ position)

-- each position that was told
abbrev AreTold : ℕ → List Entry → List Answer → Type 0
AreTold number done said = (x y z : ℕ) → Contains said (Stage (ToldRedo x y z)) → HasPosition number done z

pub record IsNumbered (number : ℕ) (done : List Entry) (v : Donor) : Type 0 where
  pub list : StageList
  pub created : List (ℕ × ℕ)
  pub session : kept_of v.cloning ≡ Some (number, list, created)
  pub current : first_stop number done ≡ own_stop number v.cloning.stop
  pub early : IsBefore list → own_stop number v.cloning.stop ≡ None
  pub late : IsLate list → HasOwn number v.cloning.stop
  pub told : AreTold number done (answers number done)

abbrev Covers : ℕ → List Entry → Donor → Phase → Type 0
Covers number done v Unopened = IsUnopened number done v
Covers number done v Open = IsNumbered number done v
Covers number done v Gone = IsAway number v.cloning × AreTold number done (answers number done)
Covers number done v Again = Unit {0}

-- WHAT BECOMES OF THE SESSION by an act: its stop stays, or it comes to its stop.
pub record Advances (number : ℕ) (v t : Donor) (list : StageList) : Type 0 where
  pub next : StageList
  pub created : List (ℕ × ℕ)
  pub session : kept_of t.cloning ≡ Some (number, next, created)
  pub stop : ((t.cloning.stop ≡ v.cloning.stop) × (IsBefore next → IsBefore list) × (IsLate next → IsLate list))
      ⊎ (IsBefore list × IsLate next × HasOwn number t.cloning.stop)

own_some : (number : ℕ) (stop : Option Stop) (last : Stop) → stop ≡ Some last → last.session ≡ number → own_stop number stop ≡ Some last
own_some number stop last is own = ap (own_stop number) is ∙ ap (λ (b : Bool). if b then Some last else None) (eq-eqb last.session number own)

or_same : (o : Option Stop) → option_or o o ≡ o
or_same None = refl
or_same (Some x) = refl

-- what is told of the copy of redo has the position of the last stop
redo_told : (c : Cloning) (s : Session) (list : StageList) (x y z : ℕ) → told_by (plan_of c s list) ≡ ToldRedo x y z → IsLate list × (position_of c.stop ≡ z)
redo_told c s (lists.Files spaces) x y z is = absurd (cc)
redo_told c s (lists.Pages pages) x y z is = absurd (cc)
redo_told c s (lists.Redo start end) x y z is = (tt, cc)
redo_told c s lists.Nothing x y z is = absurd (cc)

module _ (number : ℕ) (done : List Entry) (v : Donor) (e : Entry) where
  abbrev t : Donor
  t = e.after

  abbrev more : List Entry
  more = done ++ e ∷ []

  -- what was told stays so, and with it what is told now
  still : (z : ℕ) → HasPosition number done z → HasPosition number more z
  still z (stop, first, at) = (stop, first_more number done e ∙ ap (λ (o : Option Stop). option_or o (own_stop number t.cloning.stop)) first, at)

  told_more : (said : List Answer) → answered_by number e.act ≡ said → AreTold number done (answers number done) → AreTold number more said → AreTold number more (answers number more)
  told_more said is old new x y z has =
      elim (Contains-append_cases (answers number done) said (Stage (ToldRedo x y z)) (subst (λ (all : List Answer). Contains all (Stage (ToldRedo x y z))) (answers_more number done e ∙ ap (λ (a : List Answer). answers number done ++ a) is) has)) [
        | inl before ↦ still z (old x y z before)
        | inr now ↦ new x y z now
      ]

  none_told : AreTold number more []
  none_told x y z = no_more (λ a. HasPosition number more z) (Stage (ToldRedo x y z))

  -- a stage is told
  info_told : (next : StageList) (created : List (ℕ × ℕ)) → kept_of t.cloning ≡ Some (number, next, created) → first_stop number more ≡ own_stop number t.cloning.stop → (IsLate next → HasOwn number t.cloning.stop) → (info : StageInfo) → TellsInfo t.cloning info
      → AreTold number more (to_session number info.session (Stage (told_by info.plan)))
  info_told next created session current late info (s, there, is) x y z has =
      let said : Stage (told_by info.plan) ≡ Stage (ToldRedo x y z) = is_answer number info.session (Stage (told_by info.plan)) (Stage (ToldRedo x y z)) has in
      let plan : told_by info.plan ≡ ToldRedo x y z = cc in
      let redo = redo_told t.cloning s s.snap.list x y z (sym (ap (λ (i : StageInfo). told_by i.plan) is) ∙ plan) in
      let same : s.snap.list ≡ next = ap (λ (k : Kept). k.1) (same_kept t.cloning s (number, next, created) there session) in
      let (last, stop, own) = late (subst IsLate same redo.0) in
      (last, current ∙ own_some number t.cloning.stop last stop own, sym (ap position_of stop) ∙ redo.1)

  -- a block is no stage
  block_told : (session stage chunk n : ℕ) (read : Block) → AreTold number more (to_session number session (said_of stage chunk n read))
  block_told session stage chunk n read x y z has = absurd (by read (is_answer number session (said_of stage chunk n read) (Stage (ToldRedo x y z)) has))
    where
      by : (b : Block) → said_of stage chunk n b ≡ Stage (ToldRedo x y z) → ⊥
      by (block.Pages pages) is = absurd (cc)
      by (block.Redo from bytes) is = absurd (cc)

  -- AN OPEN SESSION goes on.
  module _ (k : IsNumbered number done v) where
    current_now : (a : Advances number v t k.list) → first_stop number more ≡ own_stop number t.cloning.stop
    current_now a = first_more number done e ∙ by a.stop
      where
        by : ((t.cloning.stop ≡ v.cloning.stop) × (IsBefore a.next → IsBefore k.list) × (IsLate a.next → IsLate k.list)) ⊎ (IsBefore k.list × IsLate a.next × HasOwn number t.cloning.stop)
            → option_or (first_stop number done) (own_stop number t.cloning.stop) ≡ own_stop number t.cloning.stop
        by (inl (same, soon, late)) =
            ap (λ (o : Option Stop). option_or o (own_stop number t.cloning.stop)) (k.current ∙ sym (ap (own_stop number) same)) ∙ or_same (own_stop number t.cloning.stop)
        by (inr (soon, late, own)) = ap (λ (o : Option Stop). option_or o (own_stop number t.cloning.stop)) (k.current ∙ k.early soon)

    early_now : (a : Advances number v t k.list) → IsBefore a.next → own_stop number t.cloning.stop ≡ None
    early_now a soon = by a.stop
      where
        by : ((t.cloning.stop ≡ v.cloning.stop) × (IsBefore a.next → IsBefore k.list) × (IsLate a.next → IsLate k.list)) ⊎ (IsBefore k.list × IsLate a.next × HasOwn number t.cloning.stop) → own_stop number t.cloning.stop ≡ None
        by (inl (same, was, late)) = ap (own_stop number) same ∙ k.early (was soon)
        by (inr (was, late, own)) = absurd (not_both a.next soon late)

    late_now : (a : Advances number v t k.list) → IsLate a.next → HasOwn number t.cloning.stop
    late_now a late = by a.stop
      where
        by : ((t.cloning.stop ≡ v.cloning.stop) × (IsBefore a.next → IsBefore k.list) × (IsLate a.next → IsLate k.list)) ⊎ (IsBefore k.list × IsLate a.next × HasOwn number t.cloning.stop) → HasOwn number t.cloning.stop
        by (inl (same, soon, was)) = subst (HasOwn number) (sym same) (k.late (was late))
        by (inr (soon, was, own)) = own

    goes_on : (a : Advances number v t k.list) (said : List Answer) → answered_by number e.act ≡ said → AreTold number more said → IsNumbered number more t
    goes_on a said is new = record {
      list = a.next;
      created = a.created;
      session = a.session;
      current = current_now a;
      early = early_now a;
      late = late_now a;
      told = told_more said is k.told new;
    }

    tells_on : (a : Advances number v t k.list) (info : StageInfo) → answered_by number e.act ≡ to_session number info.session (Stage (told_by info.plan)) → TellsInfo t.cloning info → IsNumbered number more t
    tells_on a info is tells = goes_on a (to_session number info.session (Stage (told_by info.plan))) is (info_told a.next a.created a.session (current_now a) (late_now a) info tells)

    stays : Leaves v.cloning t.cloning → Advances number v t k.list
    stays leaves = record { next = k.list; created = k.created; session = leaves.session ∙ k.session; stop = inl (leaves.stop, (λ soon. soon), λ late. late) }

    -- a stage is acknowledged
    module _ (caller : Caller) (stage floor : ℕ) (info : StageInfo) (acking : IsAcking e.act v t caller stage floor info) where
      abbrev did : Acknowledges (moment_of v.engine) (known_files v.engine) caller.session stage v.cloning t.cloning info
      did = acking.acks.acknowledges

      abbrev s : Session
      s = did.0

      kept_is : kept s ≡ (number, k.list, k.created)
      kept_is = same_kept v.cloning s (number, k.list, k.created) (stands_as v.cloning.session caller.session s did.1) k.session

      own_number : s.number ≡ number
      own_number = ap (λ (x : Kept). x.0) kept_is

      same_as : Becomes t.cloning v.cloning → Advances number v t k.list
      same_as becomes = record { next = k.list; created = k.created; session = becomes_kept t.cloning v.cloning becomes ∙ k.session; stop = inl (ap (λ (c : Cloning). c.stop) becomes, (λ soon. soon), λ late. late) }

      to : (next : StageList) (created : List (ℕ × ℕ)) → kept_of t.cloning ≡ Some (s.number, next, created) → kept_of t.cloning ≡ Some (number, next, created)
      to next created is = is ∙ ap (λ (n : ℕ). Some (n, next, created)) own_number

      by_list : (list : StageList) → list ≡ k.list → Becomes t.cloning (advanced (moment_of v.engine) (known_files v.engine) s list v.cloning) → Advances number v t k.list
      by_list (lists.Files spaces) is becomes =
          let over = files_ended (moment_of v.engine) (created_since spaces (known_files v.engine)) s v.cloning in
          record {
            next = _;
            created = _;
            session = to _ _ (becomes_kept t.cloning over becomes);
            stop = inl (ap (λ (c : Cloning). c.stop) becomes, (λ soon. subst IsBefore is tt), λ late. absurd late);
          }
      by_list (lists.Pages pages) is becomes = by v.cloning.archive becomes
        where
          by : (o : Option Archived) → Becomes t.cloning (option_map_or (λ a. stopped_at (moment_of v.engine) s a v.cloning) o v.cloning) → Advances number v t k.list
          by None same = same_as same
          by (Some a) stops = record {
            next = _;
            created = _;
            session = to _ _ (becomes_kept t.cloning (stopped_at (moment_of v.engine) s a v.cloning) stops);
            stop = inr (subst IsBefore is tt, tt, (_, ap (λ (c : Cloning). c.stop) stops, own_number));
          }
      by_list (lists.Redo start end) is becomes = record {
        next = lists.Nothing;
        created = _;
        session = to lists.Nothing _ (becomes_kept t.cloning (in_stage lists.Nothing s v.cloning) becomes);
        stop = inl (ap (λ (c : Cloning). c.stop) becomes, (λ soon. absurd soon), λ late. subst IsLate is tt);
      }
      by_list lists.Nothing is becomes = same_as becomes

      acknowledged : Advances number v t k.list
      acknowledged = by (stage == donor_stage s) did.2
        where
          by : (own : Bool) → Becomes t.cloning (if own then advanced (moment_of v.engine) (known_files v.engine) s s.snap.list v.cloning else v.cloning) → Advances number v t k.list
          by true becomes = by_list s.snap.list (ap (λ (x : Kept). x.1) kept_is) becomes
          by false becomes = same_as becomes

    stands_by : ends e.act ≡ false → Way e.act v t → IsNumbered number more t
    stands_by on (Quiet q) = goes_on (stays q.leaves) [] (q.silent number) none_told
    stands_by on (Telling info q) = tells_on (stays q.leaves) info (q.says number) q.tells
    stands_by on (Opening hello info q) = (let here = some_session v.cloning (number, k.list, k.created) k.session in absurd (two_none v.cloning.session here.0 q.none here.1))
    stands_by on (Giving caller stage chunk n read last q) =
        goes_on (stays (block_leaves v.cloning t.cloning caller chunk n last q.gives.answers).0) (to_session number caller.session (said_of stage chunk n read)) (ap (answered_by number) q.is) (block_told caller.session stage chunk n read)
    stands_by on (Acking caller stage floor info q) = tells_on (acknowledged caller stage floor info q) info (ap (answered_by number) q.is) q.acks.acknowledges.3
    stands_by on (Leaving q) = absurd (true≢false (sym q.ends_it ∙ on))

    left_by : ends e.act ≡ true → Way e.act v t → Covers number more t Gone
    left_by over (Quiet q) = absurd (true≢false (sym over ∙ q.neither.ends_none))
    left_by over (Telling info q) = absurd (true≢false (sym over ∙ q.ends_none))
    left_by over (Opening hello info q) = absurd (true≢false (sym over ∙ ap ends q.is))
    left_by over (Giving caller stage chunk n read last q) = absurd (true≢false (sym over ∙ ap ends q.is))
    left_by over (Acking caller stage floor info q) = absurd (true≢false (sym over ∙ ap ends q.is))
    left_by over (Leaving q) = (away_none number t.cloning (becomes_kept t.cloning (left v.cloning) q.becomes), told_more [] (q.silent number) k.told none_told)

    standing : Way e.act v t → (b : Bool) → ends e.act ≡ b → Covers number more t (if b then Gone else Open)
    standing way true is = left_by is way
    standing way false is = stands_by is way

  -- IT IS OPENED
  opens_now : (hello : Hello) (info : StageInfo) → IsOpening e.act v t hello info → info.session ≡ number → IsUnopened number done v → IsNumbered number more t
  opens_now hello info q own un =
      let kept_now = becomes_kept t.cloning (opened hello (known_files v.engine) q.in_flight v.cloning) q.becomes in
      let asked : hello.session ≡ number = same_some (number_in t.cloning) hello.session info.session (ap (option_map (λ (k : Kept). k.0)) kept_now) (told_number t.cloning info q.tells) ∙ own in
      let list = lists.Files (known_files v.engine) in
      let session : kept_of t.cloning ≡ Some (number, list, []) = kept_now ∙ ap (λ (n : ℕ). Some (n, list, [])) asked in
      let none : own_stop number t.cloning.stop ≡ None = ap (λ (c : Cloning). own_stop number c.stop) q.becomes ∙ un.own in
      let first : first_stop number more ≡ None = none_more number done e un.first none in
      record {
        list = list;
        created = [];
        session = session;
        current = first ∙ sym none;
        early = λ soon. none;
        late = λ late. absurd late;
        told = told_more (to_session number info.session (Stage (told_by info.plan))) (ap (answered_by number) q.is)
            (λ x y z has. no_more (λ a. HasPosition number done z) (Stage (ToldRedo x y z)) (subst (λ (all : List Answer). Contains all (Stage (ToldRedo x y z))) un.unanswered has))
            (info_told list [] session (first ∙ sym none) (λ late. absurd late) info q.tells);
      }

  opened_by : IsUnopened number done v → opens number e.act ≡ true → Way e.act v t → IsNumbered number more t
  opened_by un own (Quiet q) = absurd (true≢false (sym own ∙ q.neither.opens_none number))
  opened_by un own (Telling info q) = absurd (un.none (sym (ap (option_map (λ (k : Kept). k.0)) q.leaves.session) ∙ told_number t.cloning info q.tells ∙ ap (λ (n : ℕ). Some n) (q.opens_own number own)))
  opened_by un own (Opening hello info q) = opens_now hello info q (eqb-true info.session number (ap (opens number) (sym q.is) ∙ own)) un
  opened_by un own (Giving caller stage chunk n read last q) = absurd (true≢false (sym own ∙ ap (opens number) q.is))
  opened_by un own (Acking caller stage floor info q) = absurd (true≢false (sym own ∙ ap (opens number) q.is))
  opened_by un own (Leaving q) = absurd (true≢false (sym own ∙ q.opens_none number))

  unopened : Way e.act v t → IsUnopened number done v → (b : Bool) → opens number e.act ≡ b → Covers number more t (if b then Open else Unopened)
  unopened way un true is = opened_by un is way
  unopened way un false is =
      let away = absent number v t un.none e.act is way in
      let own = away.own_still un.own in
      record {
        none = away.away_still;
        unanswered = answers_more number done e ∙ ap (λ (x : List Answer). x ++ answered_by number e.act) un.unanswered ∙ away.silent;
        first = none_more number done e un.first own;
        own = own;
      }

  gone : Way e.act v t → Covers number done v Gone → (b : Bool) → opens number e.act ≡ b → Covers number more t (if b then Again else Gone)
  gone way known true is = tt
  gone way (none, told) false is = (let away = absent number v t none e.act is way in (away.away_still, told_more [] away.silent told none_told))

  covers : Way e.act v t → (phase : Phase) → Covers number done v phase → Covers number more t (phase_with number phase e.act)
  covers way Unopened known = unopened way known (opens number e.act) refl
  covers way Open known = standing known way (ends e.act) refl
  covers way Gone known = gone way known (opens number e.act) refl
  covers way Again known = tt

-- THE WHOLE RUN
covered : (number : ℕ) (trace done : List Entry) (v : Donor) (phase : Phase) → Covers number done v phase → Runs v trace → Covers number (done ++ trace) (end_of v trace) (phase_after number phase trace)
covered number [] done v phase known run = subst (λ (x : List Entry). Covers number x v phase) (sym (append-nil done)) known
covered number (e ∷ es) done v phase known run =
    let later : Phase = phase_with number phase e.act in
    subst (λ (x : List Entry). Covers number x (end_of e.after es) (phase_after number later es)) (append_assoc done (e ∷ []) es)
    (covered number es (done ++ e ∷ []) e.after later (covers number done v e (went v e.after e.act run.0.does).way phase known) run.1)

module _ (number : ℕ) (d : Donor) (trace : List Entry) (none : d.cloning.session ≡ None) (unstopped : own_stop number d.cloning.stop ≡ None) (run : Runs d trace) where
  all_covered : Covers number trace (end_of d trace) (phase_after number Unopened trace)
  all_covered = covered number trace [] d Unopened (record { none = away_none number d.cloning (ap (option_map kept) none); unanswered = refl; first = refl; own = unstopped }) run

  -- THE POSITION that was told
  pub position_told : (items : List Item) (checkpoint lsn position : ℕ) → IsOpenedOnce number trace → WereAnswered number trace items → Contains items (Moves (ToldRedo checkpoint lsn position)) → (stop : Stop) × (first_stop number trace ≡ Some stop) × (stop.position ≡ position)
  position_told items checkpoint lsn position once answered has = by (phase_after number Unopened trace) refl all_covered
    where
      said : Contains (answers number trace) (Stage (ToldRedo checkpoint lsn position))
      said = answered (Moves (ToldRedo checkpoint lsn position)) has

      by : (phase : Phase) → phase_after number Unopened trace ≡ phase → Covers number trace (end_of d trace) phase → HasPosition number trace position
      by Unopened is known = no_more (λ a. HasPosition number trace position) (Stage (ToldRedo checkpoint lsn position)) (subst (λ (all : List Answer). Contains all (Stage (ToldRedo checkpoint lsn position))) known.unanswered said)
      by Open is known = known.told checkpoint lsn position said
      by Gone is known = known.1 checkpoint lsn position said
      by Again is known = absurd (once is)

  -- THE STOP of a session that is open is the donor's last one.
  pub stop_stands : phase_after number Unopened trace ≡ Open → first_stop number trace ≡ own_stop number (end_of d trace).cloning.stop
  stop_stands is = (let known : IsNumbered number trace (end_of d trace) = subst (Covers number trace (end_of d trace)) is all_covered in known.current)

  pub none_stands : phase_after number Unopened trace ≡ Unopened → first_stop number trace ≡ None
  none_stands is = (let known : IsUnopened number trace (end_of d trace) = subst (Covers number trace (end_of d trace)) is all_covered in known.first)

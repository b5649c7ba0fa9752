-- What is known of an open session goes on over each act that leaves it where it is.
use Rattle.std.proofs.Common.{◌≡◌, ◌∙◌, ◌++◌, ◌∷◌, [], ℕ, Bool, List, Some, refl, sym, ap, subst, arith, inl, inr}
use Rattle.std.specs.List.{All, AllByRecursion, Contains}
use Rattle.clone_image.specs.Redone.{Standing}
use Rattle.clone_law.specs.Machine.{NoFiles}
use Rattle.clone_buffer.specs.OnePage.{NoFilesOf}
use Rattle.clone_snapshot.specs.StageLists as lists
use Rattle.clone_snapshot.specs.StageLists.{StageList}
use Rattle.clone_chunk.specs.Stages.{stage_number}
use Rattle.clone_accepted.specs.Answers.{Answer, Stage}
use Rattle.clone_standing.specs.Latest.{IsLowRoom}
use Rattle.clone_session.specs.declared.caller.Caller.{Caller}
use Rattle.clone_session.specs.declared.info.StageInfo.{StageInfo}
use Rattle.clone_session.specs.Cloning.{Session}
use Rattle.clone_session.specs.CloneCauses.{session_of}
use Rattle.clone_session.specs.Effects.{Tells as TellsInfo, created_since}
use Rattle.clone_session.proofs.PartLemmas.{stands_as}
use Rattle.clone_calls.specs.declared.block.Block.{Block}
use Rattle.clone_engine.specs.Engine.{Engine}
use Rattle.clone_engine.specs.Copying.{Gives, IsBlock, taken_from}
use Rattle.clone_engine.specs.Donor.{CopiesOwn, Donor, HasPages, IsDonor, known_files, list_of}
use Rattle.clone_engine.specs.Taken.{IsTaken, IsTakenBy, IsTakenIn, Taken}
use Rattle.clone_engine.proofs.BlockLemmas.{stage_is}
use Rattle.clone_engine.proofs.GoingLemmas.{same_files}
use Rattle.clone_engine.proofs.ToldLemmas.{of_told}
use Rattle.clone_sides.specs.Trace.{Entry}
use Rattle.clone_sides.specs.Answered.{answers, said_of, to_session, told_by}
use Rattle.clone_sides.specs.Facts.{FactOf, HasMoment, HasRange, InLists, IsBare, IsPast, Keeps, Kept, Knows, Lists, ComesTo}
use Rattle.clone_sides.proofs.CallLemmas.{Tells as SameTold, follows_same}
use Rattle.clone_sides.proofs.CountLemmas.{block_keeps, block_stop}
use Rattle.clone_sides.proofs.GivenLemmas.{says}
use Rattle.clone_sides.proofs.KeptLemmas.{Leaves, block_leaves, keeps_stays, list_kept, range_stays, redo_stays, same_kept}
use Rattle.clone_sides.proofs.KnownLemmas.{Goes, is_answer, knows_goes, moments_stay, still_goes, told_fact}
use Rattle.clone_sides.proofs.MadeLemmas.{Follows, Makes, Spares, bare_before, lists_by, makes_bare, makes_early, makes_late}
use Rattle.clone_sides.proofs.OptionLemmas.{told_disk}
use Rattle.clone_sides.proofs.WayLemmas.{IsGiving}

pub no_more : (P : Answer → Type 0) (a : Answer) → Contains [] a → P a
no_more P a (i, within, is) = absurd (omega (arith, within))

follows_stop : (d t : Donor) (taken news : Taken) → Follows d t taken news → news.stop ≡ taken.stop
follows_stop d t taken news (inl spares) = spares.stop
follows_stop d t taken news (inr makes) = ap (λ (k : Taken). k.stop) makes.is

-- THE PAGES go on where the session is left.
module _ (number : ℕ) (v t : Donor) (taken news : Taken) (l : Lists) (leaves : Leaves v.cloning t.cloning) where
  abbrev GoesTo : StageList → Lists → Type 0
  GoesTo list m = Goes number v t list list taken news l m

  abbrev range_goes : (x y z : ℕ) → HasRange number v.cloning x y z → HasRange number t.cloning x y z
  range_goes x y z = range_stays v.cloning t.cloning leaves.archive number x y z leaves.stop

  spared_goes : (list : StageList) (made : List (ℕ × ℕ)) → (IsPast list → made ≡ l.made) → ((s n : ℕ) (u : Standing) → IsBare (record l { made = made }) s n u → IsBare l s n u) → Spares v t taken news → GoesTo list (record l { made = made })
  spared_goes list made same bare spares =
      still_goes number v t list list taken news l made spares.counts (λ past. past) (λ soon. (soon, spares.stop)) same bare range_goes (redo_stays v.cloning t.cloning leaves.archive)

  makes_goes : (spaces : List (ℕ × ℕ)) → l.made ≡ created_since l.files (known_files v.engine) → All (HasPages v.engine.flights.files) l.files → IsTakenIn v.cloning v.engine.buffer.log taken (lists.Files spaces) → Makes v t taken news → GoesTo (lists.Files spaces) (lists_by t l)
  makes_goes spaces made own are makes = record {
    past = λ past. past;
    before = λ soon. (soon, ap (λ (k : Taken). k.stop) makes.is);
    files = refl;
    pages = λ past. refl;
    made = λ past. absurd past;
    bare = makes_bare v t taken news makes l own v.cloning.tracking.pages are made;
    early = makes_early v t taken news makes l own v.cloning.tracking.pages are;
    late = λ past. absurd past;
    range = range_goes;
    redo = redo_stays v.cloning t.cloning leaves.archive;
  }

  abbrev GoesIn : StageList → List (ℕ × ℕ) → Type 0
  GoesIn list created = (m : Lists) × InLists list created t.engine m × GoesTo list m

  -- once the copy of files is over, no page is in it
  late_goes : (list : StageList) (created : List (ℕ × ℕ)) → InLists list created t.engine l → ((s : ℕ) → NoFilesOf s taken.copies) → Follows v t taken news → GoesIn list created
  late_goes list created in_lists calm (inl spares) = (l, in_lists, spared_goes list l.made (λ past. refl) (λ s n u is. is) spares)
  late_goes list created in_lists calm (inr makes) = (l, in_lists, spared_goes list l.made (λ past. refl) (λ s n u is. is) (makes_late v t taken news makes (calm makes.table)))

  stays_goes : (list : StageList) (created : List (ℕ × ℕ)) → InLists list created v.engine l → Keeps number v.cloning list → CopiesOwn v.engine list → IsTakenIn v.cloning v.engine.buffer.log taken list → Follows v t taken news → GoesIn list created
  stays_goes (lists.Files spaces) created (is, none, made) keeps own are (inl spares) = (lists_by t l, (is, none, refl), spared_goes (lists.Files spaces) _ (λ past. absurd past) (bare_before v t spares.files l made) spares)
  stays_goes (lists.Files spaces) created (is, none, made) keeps own are (inr makes) = (lists_by t l, (is, none, refl), makes_goes spaces made (subst (All (HasPages v.engine.flights.files)) is own) are makes)
  stays_goes (lists.Pages pages) created in_lists (a, stands, unended) own are follows = late_goes (lists.Pages pages) created in_lists (λ s n. subst NoFiles (sym (are a stands s n).1) tt) follows
  stays_goes (lists.Redo start end) created in_lists range own are follows = late_goes (lists.Redo start end) created in_lists (λ s n. subst NoFiles (sym ((are range.archive range.stands).copies s n).1) tt) follows
  stays_goes lists.Nothing created in_lists (start, end, range) own are follows = late_goes lists.Nothing created in_lists (λ s n. subst NoFiles (sym ((are range.archive range.stands).copies s n).1) tt) follows

-- THE STATE of an open session
abbrev pub Stays : ℕ → Donor → List Entry → Donor → Taken → Type 0
Stays number d done v taken = (l : Lists) × Knows number (answers number done) v taken l × HasMoment number d done v taken

-- and what is known of it after one act more, which answered this
abbrev pub Next : ℕ → Donor → List Entry → Entry → List Answer → Taken → Type 0
Next number d done e more news = (m : Lists) × Knows number (answers number done ++ more) e.after news m × HasMoment number d (done ++ e ∷ []) e.after news

module _ (number : ℕ) (d : Donor) (done : List Entry) (v : Donor) (taken : Taken) (e : Entry) (l : Lists) (knows : Knows number (answers number done) v taken l) (moments : HasMoment number d done v taken) (donor : IsDonor e.after) where
  abbrev t : Donor
  t = e.after

  abbrev k : Kept
  k = (number, knows.list, knows.at.created)

  -- the session of a call is the open one
  pub same_list : (other : ℕ) (x : Session) → session_of v.cloning other ≡ Some x → x.snap.list ≡ knows.list
  same_list other x is = ap (λ (y : Kept). y.1) (same_kept v.cloning x k (stands_as v.cloning.session other x is) knows.at.session)

  pub taken_in : IsTakenIn v.cloning v.engine.buffer.log taken knows.list
  taken_in =
      let (m, told) = told_disk v.engine.disk.told knows.tells in
      subst (IsTakenBy v.cloning v.engine.buffer.log taken) (list_kept v.cloning k knows.at.session) (of_told (λ _. IsTakenBy v.cloning v.engine.buffer.log taken (list_of v.cloning)) v.engine.disk.told m told knows.is.stage)

  own : CopiesOwn v.engine knows.list
  own = knows.donor.own knows.list (list_kept v.cloning k knows.at.session)

  -- the session is left where it is
  pub goes_on : (more : List Answer) (news : Taken) → Leaves v.cloning t.cloning → Follows v t taken news → IsTaken t news → SameTold v.engine t.engine
      → ((m : Lists) → ComesTo number t knows.list m → (a : Answer) → Contains more a → FactOf number t.cloning knows.list news.copies m a) → Next number d done e more news
  goes_on more news leaves follows is tells new =
      let (m, in_lists, goes) = stays_goes number v t taken news l leaves knows.list knows.at.created knows.at.in_lists knows.at.keeps own taken_in follows in
      let at : ComesTo number t knows.list m = record {
        created = knows.at.created;
        session = leaves.session ∙ knows.at.session;
        in_lists = in_lists;
        keeps = keeps_stays v.cloning t.cloning leaves.archive number knows.list leaves.stop knows.at.keeps;
      } in (
        m,
        knows_goes number (answers number done) more v t taken news l m knows knows.list goes at is donor (tells ∙ knows.tells) (λ past. subst (AllByRecursion IsLowRoom) (sym (goes.made past)) (knows.low past)) (new m at),
        moments_stay number d done e v taken news (follows_stop v t taken news follows) leaves.stop moments,
      )

  -- nothing was answered
  pub quiet : (news : Taken) → Leaves v.cloning t.cloning → Follows v t taken news → IsTaken t news → SameTold v.engine t.engine → Next number d done e [] news
  quiet news leaves follows is tells = goes_on [] news leaves follows is tells (λ m at. no_more (λ a. FactOf number t.cloning knows.list news.copies m a))

  -- what is told fits
  pub told_more : (info : StageInfo) (news : Taken) (list : StageList) (m : Lists) → ComesTo number t list m → TellsInfo t.cloning info → (a : Answer) → Contains (to_session number info.session (Stage (told_by info.plan))) a → FactOf number t.cloning list news.copies m a
  told_more info news list m at tells a has =
      subst (FactOf number t.cloning list news.copies m) (is_answer number info.session (Stage (told_by info.plan)) a has) (told_fact t number list m info at tells)

  -- the stage was told
  pub told : (info : StageInfo) → Leaves v.cloning t.cloning → t.engine.flights.files ≡ v.engine.flights.files → IsTaken t taken → SameTold v.engine t.engine → TellsInfo t.cloning info → Next number d done e (to_session number info.session (Stage (told_by info.plan))) taken
  told info leaves files is tells info_is =
      goes_on (to_session number info.session (Stage (told_by info.plan))) taken leaves (follows_same v t taken files) is tells (λ m at. told_more info taken knows.list m at info_is)

  -- A BLOCK
  pub given : (caller : Caller) (stage chunk block : ℕ) (read : Block) (last : Bool) → IsGiving e.act v t caller stage chunk block read last → IsTaken t (taken_from read taken) → SameTold v.engine t.engine → Next number d done e (to_session number caller.session (said_of stage chunk block read)) (taken_from read taken)
  given caller stage chunk block read last giving is tells =
      goes_on (to_session number caller.session (said_of stage chunk block read)) (taken_from read taken) left.0
      (inl (record { stop = block_stop read taken; files = same_files v.engine.flights.files t.engine.flights.files (ap (λ (x : Engine). x.flights.files) g.visits.same); counts = block_keeps read taken })) is tells
      (λ m at a has. subst (FactOf number t.cloning knows.list (taken_from read taken).copies m) (is_answer number caller.session (said_of stage chunk block read) a has) (fact m at))
    where
      g : Gives caller chunk block v t read last
      g = giving.gives

      left : Leaves v.cloning t.cloning × (t.cloning.archive ≡ v.cloning.archive)
      left = block_leaves v.cloning t.cloning caller chunk block last g.answers

      list_is : g.session.snap.list ≡ knows.list
      list_is = same_list caller.session g.session g.stands

      at_stage : stage ≡ stage_number (lists.stage_of knows.list)
      at_stage = stage_is v.cloning caller stage chunk block g.session g.stands giving.none ∙ ap (λ (x : StageList). stage_number (lists.stage_of x)) list_is

      fact : (m : Lists) → ComesTo number t knows.list m → FactOf number t.cloning knows.list (taken_from read taken).copies m (said_of stage chunk block read)
      fact m at =
          let (disk, there) = told_disk v.engine.disk.told knows.tells in
          let made = ap (λ (x : StageList). lists.block_of x chunk block) (sym (same_list caller.session g.made_of.0.0 g.made_of.0.1)) ∙ g.made_of.0.2 in
          says v t taken m knows.list at.created number t.engine at.in_lists knows.at.keeps knows.donor own taken_in disk there left.1 stage chunk block at_stage g.work read
          made g.made_of.1 (subst (λ (x : StageList). IsBlock x v g.work read) list_is g.read)

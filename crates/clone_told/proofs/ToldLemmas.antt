-- What the frame says that tells an answer is what the answer says.
use Rattle.std.proofs.Common.{◌≡◌, ◌∙◌, ◌++◌, ◌∷◌, ◌&&◌, ◌⊎◌, [], ℕ, zero, suc, Bool, true, false, if◌then◌else◌, List, Option, None, Some, Result, Ok, Err, refl, sym, ap, subst, arith, inl, inr, append_assoc}
use Rattle.std.specs.Prelude.{not}
use Rattle.std.specs.List.{Contains}
use Rattle.std.proofs.lemmas.Bool.{eq-eqb}
use Rattle.std.proofs.lemmas.List.{append-nil}
use Rattle.std.proofs.lemmas.List.Elements.{Contains-append_cases, Contains-append_left, Contains-append_right}
use Rattle.clone_chunk.specs.Stages.{copy_number, stage_number}
use Rattle.clone_chunk.specs.declared.cause.CloneCause.{CloneCause}
use Rattle.clone_chunk.specs.declared.cause.CloneCause.TheVariants as cause
use Rattle.clone_chunk.specs.declared.plan.StagePlan.{StagePlan}
use Rattle.clone_chunk.specs.declared.plan.StagePlan.TheVariants.{FileCopy, PageCopy, RedoCopy, Done}
use Rattle.clone_snapshot.specs.StageLists as lists
use Rattle.clone_snapshot.specs.StageLists.{StageList, all_pages}
use Rattle.clone_accepted.specs.Answers.{Answer, Item, Moves, PageBlock, RedoBlock, Stage, Takes, answer_in}
use Rattle.clone_page.specs.declared.pages.PageAt.{PageAt}
use Rattle.clone_session.specs.declared.info.StageInfo.{StageInfo}
use Rattle.clone_session.specs.declared.refusal.CloneRefusal.{CloneRefusal}
use Rattle.clone_session.specs.declared.refusal.CloneRefusal.TheVariants.{Because, NoMemory}
use Rattle.clone_session.specs.declared.caller.Caller.{Caller}
use Rattle.clone_session.specs.declared.copying.BlockWork.{BlockWork}
use Rattle.clone_session.specs.declared.copying.BlockWork.TheVariants as work
use Rattle.clone_session.specs.Cloning.{Session}
use Rattle.clone_session.specs.CloneCauses.{session_of}
use Rattle.clone_session.specs.CloneCalls.{part_of}
use Rattle.clone_calls.specs.declared.answer.DonorAnswer.{DonorAnswer}
use Rattle.clone_calls.specs.declared.answer.DonorAnswer.TheVariants as answer
use Rattle.clone_calls.specs.declared.block.Block.{Block}
use Rattle.clone_calls.specs.declared.block.Block.TheVariants as block
use Rattle.clone_calls.specs.declared.block.BlockRefusal.{BlockRefusal}
use Rattle.clone_calls.specs.declared.block.BlockRefusal.TheVariants as unread
use Rattle.clone_calls.specs.declared.call.DonorCall.{DonorCall}
use Rattle.clone_calls.specs.declared.call.DonorCall.TheVariants as call
use Rattle.clone_wire.specs.Stages.{page_number, page_numbered}
use Rattle.clone_wire.specs.declared.stage.PageStage.{PageStage}
use Rattle.clone_wire.specs.declared.stage.PageStage.TheVariants as page
use Rattle.clone_wire.specs.declared.frame.Frame.{Frame}
use Rattle.clone_wire.specs.declared.frame.Frame.TheVariants as frame
use Rattle.clone_serve.specs.Stepping.{GivesAll}
use Rattle.clone_serve.specs.Telling.{Exchange, block_frame, block_told, claim_told, frame_for, frames_for, frames_of, if_refused, refusal_told, stage_frame, stage_told, unread_told}
use Rattle.clone_recipient.specs.Expecting.{copied_in}
use Rattle.clone_recipient.specs.Receptions.{Reception}
use Rattle.clone_recipient.specs.Record.{items_of, moved_to}
use Rattle.clone_recipient.specs.Taking as taking
use Rattle.clone_tasks.specs.Awaiting.{moves}
use Rattle.clone_tasks.specs.Tables.{is_done}
use Rattle.clone_engine.specs.Acts.{CloneActs}
use Rattle.clone_engine.specs.Copying.{Gives, IsBlock}
use Rattle.clone_engine.specs.Donor.{Donor}
use Rattle.clone_engine.proofs.BlockLemmas.{stage_is}
use Rattle.clone_sides.specs.Answered.{WereAnswered, answered_by, answers, block_said, laid_at, said_by, said_of, stage_said, to_session, told_by}
use Rattle.clone_sides.specs.Trace.{Entry, Runs, end_of}
use Rattle.clone_sides.proofs.GivenLemmas.{some_pages}
use Rattle.clone_sides.proofs.KnownLemmas.{answers_more}
use Rattle.clone_sides.proofs.MoreLemmas.{runs_more}
use Rattle.clone_sides.proofs.StopLemmas.{end_more}
use Rattle.clone_told.specs.Told.{GoesOnBy, IsOf, IsTold, called, gives, said_in}

none_in : {X : Type 0} (P : Type 0) (x : X) → Contains [] x → P
none_in P x (i, within, is) = absurd (omega (arith, within))

only : {X : Type 0} (P : X → Type 0) (x y : X) → P x → Contains (x ∷ []) y → P y
only P x y is (zero, within, same) = subst P same is
only P x y is (suc i, within, same) = absurd (omega (arith, within))

-- an answer to the session that is asked for
to_own : (number session : ℕ) (a : Answer) → session ≡ number → to_session number session a ≡ a ∷ []
to_own number session a own = ap (λ (b : Bool). if b then a ∷ [] else []) (eq-eqb session number own)

module _ (number : ℕ) where
  -- what a frame says is among these
  abbrev Says : Frame → List Answer → Type 0
  Says sent all = IsOf number sent → (a : Answer) → Contains (said_in sent) a → Contains all a

  by_frame : (one sent : Frame) (all : List Answer) → Some one ≡ Some sent → Says one all → Says sent all
  by_frame one sent all is says = let same : one ≡ sent = cc in subst (λ (f : Frame). Says f all) same says

  none_sent : (sent : Frame) (all : List Answer) → None ≡ Some sent → Says sent all
  none_sent sent all is = absurd (cc)

  refused_says : (why : CloneCause) (sent : Frame) (all : List Answer) → Some (frame.Refused why) ≡ Some sent → Says sent all
  refused_says why sent all is = by_frame (frame.Refused why) sent all is (λ own a. none_in (Contains all a) a)

  refusal_says : (why : CloneRefusal) (sent : Frame) (all : List Answer) → refusal_told why ≡ Some sent → Says sent all
  refusal_says (Because why) sent all is = refused_says why sent all is
  refusal_says NoMemory sent all is = none_sent sent all is

  stage_says : (told : Result StageInfo CloneRefusal) (sent : Frame) → stage_told told ≡ Some sent → Says sent (stage_said number told)
  stage_says (Ok info) sent is =
      by_frame (stage_frame info) sent (stage_said number (Ok info)) is
      (λ own a has. subst (λ (all : List Answer). Contains all a) (sym (to_own number info.session (Stage (told_by info.plan)) own)) has)
  stage_says (Err why) sent is = refusal_says why sent (stage_said number (Err why)) is

  if_says : {X : Type 0} (result : Result X CloneCause) (sent : Frame) (all : List Answer) → if_refused result ≡ Some sent → Says sent all
  if_says (Ok x) sent all is = none_sent sent all is
  if_says (Err why) sent all is = refused_says why sent all is

  claim_says : (asked : DonorCall) (found : Result (Option ℕ) CloneCause) (sent : Frame) (all : List Answer) → claim_told asked found ≡ Some sent → Says sent all
  claim_says (call.Claim caller stage) (Ok None) sent all is = by_frame _ sent all is (λ own a. none_in (Contains all a) a)
  claim_says asked (Ok found) sent all is = none_sent sent all is
  claim_says asked (Err why) sent all is = refused_says why sent all is

  unread_says : (why : BlockRefusal) (sent : Frame) (all : List Answer) → unread_told why ≡ Some sent → Says sent all
  unread_says (unread.Clone (Because (cause.ArchiveBehind archived until))) sent all is = none_sent sent all is
  unread_says (unread.Clone why) sent all is = refusal_says why sent all is
  unread_says (unread.Engine why) sent all is = none_sent sent all is

  -- A BLOCK: one of pages is of a stage that copies pages
  numbered_page : (stage : ℕ) → (stage ≡ 1) ⊎ (stage ≡ 2) → page_number (page_numbered stage) ≡ stage
  numbered_page stage (inl one) = ap (λ (n : ℕ). page_number (page_numbered n)) one ∙ sym one
  numbered_page stage (inr two) = ap (λ (n : ℕ). page_number (page_numbered n)) two ∙ sym two

  block_says : (caller : Caller) (stage chunk n : ℕ) (given : Block × Bool) (sent : Frame) → ((pages : List PageAt) → given.0 ≡ block.Pages pages → page_number (page_numbered stage) ≡ stage) → block_told (call.ReadBlock caller stage chunk n) (Ok given) ≡ Some sent → Says sent (block_said number (call.ReadBlock caller stage chunk n) (Ok given))
  block_says caller stage chunk n given sent at is =
      by_frame (block_frame caller stage chunk n given.0) sent (to_session number caller.session (said_of stage chunk n given.0)) is (by given.0 refl)
    where
      by : (b : Block) → given.0 ≡ b → Says (block_frame caller stage chunk n b) (to_session number caller.session (said_of stage chunk n b))
      by (block.Pages pages) same own a has =
          subst (λ (all : List Answer). Contains all a) (sym (to_own number caller.session (PageBlock stage chunk n (laid_at pages)) own))
          (subst (λ (k : ℕ). Contains (PageBlock k chunk n (laid_at pages) ∷ []) a) (at pages same) has)
      by (block.Redo from bytes) same own a has = subst (λ (all : List Answer). Contains all a) (sym (to_own number caller.session (RedoBlock chunk n from bytes) own)) has

  module _ (d t : Donor) where
    page_stage : (list : StageList) → (all_pages list ≡ [] → ⊥) → (stage_number (lists.stage_of list) ≡ 1) ⊎ (stage_number (lists.stage_of list) ≡ 2)
    page_stage (lists.Files spaces) some = inl refl
    page_stage (lists.Pages pages) some = inr refl
    page_stage (lists.Redo start end) some = absurd (some refl)
    page_stage lists.Nothing some = absurd (some refl)

    pages_at : (caller : Caller) (stage chunk n : ℕ) (read : Block) (last : Bool) → CloneActs (call.ReadBlock caller stage chunk n) (answer.ReadBlock (Ok (read, last))) d t → (pages : List PageAt) → read ≡ block.Pages pages → page_number (page_numbered stage) ≡ stage
    pages_at caller stage chunk n read last acts pages is =
        let g = acts.does.1 in
        let at = stage_is d.cloning caller stage chunk n g.session g.stands acts.does.0 in
        numbered_page stage (moved (page_stage g.session.snap.list (by g.work (subst (IsBlock g.session.snap.list d g.work) is g.read) (listed g.made_of.0.0 g.made_of.0.1 g.made_of.0.2))) at)
      where
        moved : {n : ℕ} → (n ≡ 1) ⊎ (n ≡ 2) → stage ≡ n → (stage ≡ 1) ⊎ (stage ≡ 2)
        moved (inl one) at = inl (at ∙ one)
        moved (inr two) at = inr (at ∙ two)

        g : Gives caller chunk n d t read last
        g = acts.does.1

        listed : (x : Session) → session_of d.cloning caller.session ≡ Some x → lists.block_of x.snap.list chunk n ≡ Some (part_of g.work) → lists.block_of g.session.snap.list chunk n ≡ Some (part_of g.work)
        listed x there made = (let both : Some x ≡ Some g.session = sym there ∙ g.stands in let same : x ≡ g.session = cc in subst (λ (y : Session). lists.block_of y.snap.list chunk n ≡ Some (part_of g.work)) same made)

        by : (w : BlockWork) → IsBlock g.session.snap.list d w (block.Pages pages) → lists.block_of g.session.snap.list chunk n ≡ Some (part_of w) → all_pages g.session.snap.list ≡ [] → ⊥
        by (work.Pages places) made there = some_pages g.session.snap.list chunk n places there
        by (work.Redo redo) made there = absurd made

    -- THE FRAME of an answer
    frame_says : (asked : DonorCall) (given : DonorAnswer) (sent : Frame) → CloneActs asked given d t → frame_for asked given ≡ Some sent → Says sent (said_by number asked given)
    frame_says asked (answer.Init told) sent acts is = stage_says told sent is
    frame_says asked (answer.Attach told) sent acts is = stage_says told sent is
    frame_says asked (answer.Reinit told) sent acts is = stage_says told sent is
    frame_says asked (answer.ReinitBlocks told) sent acts is = stage_says told sent is
    frame_says asked (answer.Ack told) sent acts is = stage_says told sent is
    frame_says asked (answer.Kept mask) sent acts is = if_says mask sent [] is
    frame_says asked (answer.Execute done) sent acts is = if_says done sent [] is
    frame_says asked (answer.Exit done) sent acts is = if_says done sent [] is
    frame_says asked (answer.Claim found) sent acts is = claim_says asked found sent [] is
    frame_says (call.ReadBlock caller stage chunk n) (answer.ReadBlock (Ok (read, last))) sent acts is = block_says caller stage chunk n (read, last) sent (pages_at caller stage chunk n read last acts) is
    frame_says (call.ReadBlock caller stage chunk n) (answer.ReadBlock (Err why)) sent acts is = unread_says why sent [] is
    frame_says asked (answer.ReadBlock read) sent acts is = absurd acts.does
    frame_says asked given sent acts is = none_sent sent (said_by number asked given) is

pub told_still : (number : ℕ) (trace : List Entry) (e : Entry) (sent : Frame) → IsTold number trace sent → IsTold number (trace ++ e ∷ []) sent
told_still number trace e sent told a has =
    subst (λ (all : List Answer). Contains all a) (sym (answers_more number trace e)) (Contains-append_left (answers number trace) (answered_by number e.act) a (told a has))

pub told_now : (number : ℕ) (d : Donor) (trace : List Entry) (asked : DonorCall) (given : DonorAnswer) (t : Donor) (sent : Frame) → Runs d trace → CloneActs asked given (end_of d trace) t → frame_for asked given ≡ Some sent → IsOf number sent
    → Runs d (trace ++ called asked given t ∷ []) × IsTold number (trace ++ called asked given t ∷ []) sent
told_now number d trace asked given t sent run acts is own = (
  runs_more d trace (called asked given t) run acts,
  λ a has. subst (λ (all : List Answer). Contains all a) (sym (answers_more number trace (called asked given t)))
      (Contains-append_right (answers number trace) (said_by number asked given) a (frame_says number (end_of d trace) t asked given sent acts is own a has)),
)

told_on : (number : ℕ) (trace more : List Entry) (sent : Frame) → IsTold number trace sent → IsTold number (trace ++ more) sent
told_on number trace [] sent told = subst (λ (run : List Entry). IsTold number run sent) (sym (append-nil trace)) told
told_on number trace (e ∷ es) sent told =
    subst (λ (run : List Entry). IsTold number run sent) (append_assoc trace (e ∷ []) es) (told_on number (trace ++ e ∷ []) es sent (told_still number trace e sent told))

first_told : (number : ℕ) (d : Donor) (trace : List Entry) (x : Exchange) (mid : Donor) (more : List Entry) → Runs d trace → CloneActs x.0 x.1 (end_of d trace) mid → (o : Option Frame) (sent : Frame) → frame_for x.0 x.1 ≡ o → Contains (frames_of o) sent → IsOf number sent → IsTold number ((trace ++ called x.0 x.1 mid ∷ []) ++ more) sent
first_told number d trace x mid more run acts None sent is has own = none_in _ sent has
first_told number d trace x mid more run acts (Some one) sent is has own =
    told_on number (trace ++ called x.0 x.1 mid ∷ []) more sent
    (told_now number d trace x.0 x.1 mid sent run acts (is ∙ ap (λ (f : Frame). Some f) (only (λ (f : Frame). one ≡ f) one sent refl has)) own).1

-- SEVERAL CALLS are answered, one after the other.
pub told_all : (number : ℕ) (d : Donor) (trace : List Entry) (exchanges : List Exchange) (t : Donor) → Runs d trace → GivesAll gives (end_of d trace) exchanges t → GoesOnBy number d trace exchanges t
told_all number d trace [] t run is = record {
  more = [];
  runs = subst (Runs d) (sym (append-nil trace)) run;
  reaches = ap (end_of d) (append-nil trace) ∙ sym is;
  told = λ sent has. none_in _ sent has;
}
told_all number d trace (x ∷ xs) t run (mid, acts, rest) =
    let e : Entry = called x.0 x.1 mid in
    let longer : List Entry = trace ++ e ∷ [] in
    let here : end_of d longer ≡ mid = end_more d trace e in
    let on : GoesOnBy number d longer xs t = told_all number d longer xs t (runs_more d trace e run acts) (subst (λ (u : Donor). GivesAll gives u xs t) (sym here) rest) in
    let whole : longer ++ on.more ≡ trace ++ e ∷ on.more = append_assoc trace (e ∷ []) on.more in
    let first : (o : Option Frame) (sent : Frame) → frame_for x.0 x.1 ≡ o → Contains (frames_of o) sent → IsOf number sent → IsTold number (longer ++ on.more) sent = first_told number d trace x mid on.more run acts in
    record {
      more = e ∷ on.more;
      runs = subst (Runs d) whole on.runs;
      reaches = sym (ap (end_of d) whole) ∙ on.reaches;
      told = λ sent has own. subst (λ (run : List Entry). IsTold number run sent) whole (elim (Contains-append_cases (frames_of (frame_for x.0 x.1)) (frames_for xs) sent has) [
        | inl now ↦ first (frame_for x.0 x.1) sent refl now own
        | inr later ↦ on.told sent later own
      ]);
    }

-- WHAT A RECIPIENT TAKES of a frame is what the frame says.

same_told : (plan : StagePlan) → taking.told_by plan ≡ told_by plan
same_told (FileCopy chunks spaces) = refl
same_told (PageCopy chunks position spaces) = refl
same_told (RedoCopy chunks checkpoint lsn position) = refl
same_told (Done checkpoint lsn position) = refl

same_stage : (stage : PageStage) → copy_number (copied_in stage) ≡ page_number stage
same_stage page.FileCopy = refl
same_stage page.PageCopy = refl

items_say : (r : Reception) (task : ℕ) (sent : Frame) (item : Item) → Contains (items_of r task sent) item → Contains (said_in sent) (answer_in item)
items_say r task (frame.Stage attempt plan) item has = by (moves r.table task && not (is_done r.table.phase)) has
  where
    by : (b : Bool) → Contains (moved_to b plan) item → Contains (Stage (told_by plan) ∷ []) (answer_in item)
    by true has = only (λ (i : Item). Contains (Stage (told_by plan) ∷ []) (answer_in i)) (Moves (taking.told_by plan)) item (0, omega arith, ap Stage (sym (same_told plan))) has
    by false has = none_in _ item has
items_say r task (frame.Pages attempt stage chunk n pages) item has =
    only (λ (i : Item). Contains (PageBlock (page_number stage) chunk n (laid_at pages) ∷ []) (answer_in i)) (Takes (PageBlock (copy_number (copied_in stage)) chunk n (taking.laid_at pages))) item (0, omega arith, ap (λ (k : ℕ). PageBlock k chunk n (laid_at pages)) (sym (same_stage stage))) has
items_say r task (frame.Redo attempt chunk n from bytes) item has =
    only (λ (i : Item). Contains (RedoBlock chunk n from bytes ∷ []) (answer_in i)) (Takes (RedoBlock chunk n from bytes)) item (0, omega arith, refl) has
items_say r task sent item has = none_in _ item has

pub told_taken : (number : ℕ) (trace : List Entry) (r : Reception) (task : ℕ) (sent : Frame) (items : List Item) → WereAnswered number trace items → IsTold number trace sent → WereAnswered number trace (items ++ items_of r task sent)
told_taken number trace r task sent items answered told item has = elim (Contains-append_cases items (items_of r task sent) item has) [
  | inl old ↦ answered item old
  | inr new ↦ told (answer_in item) (items_say r task sent item new)
]

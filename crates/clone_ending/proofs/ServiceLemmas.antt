-- A step within an EXECUTE leaves less of it and of the chunks that nobody has claimed, unless there was nothing to do.
use Rattle.std.proofs.Common.{ℕ, ◌≡◌, ◌+◌, ◌*◌, ◌/◌, ◌^◌, ◌<◌, ◌≤◌, Bool, true, false, List, None, Some, option_map, Ok, Err, refl, ap, subst, arith, min, if◌then◌else◌, nat_lt}
use Rattle.std.specs.Int.{trailing_ones, w8}
use Rattle.std.proofs.lemmas.Option.{slice_get_within}
use Rattle.clone_chunk.specs.declared.cause.CloneCause.TheVariants.{ArchiveBehind}
use Rattle.clone_chunk.specs.declared.masks.TheConstants.{CHUNK_BLOCKS}
use Rattle.clone_chunk.specs.Stages.{copy_number}
use Rattle.clone_snapshot.specs.StageLists.{blocks_at}
use Rattle.clone_snapshot.proofs.CountLemmas.{few_blocks}
use Rattle.clone_session.specs.CloneCalls.{Claims, archived_on, part_of}
use Rattle.clone_session.specs.declared.refusal.CloneRefusal.TheVariants.{Because, NoMemory}
use Rattle.clone_calls.specs.Answering.{archive_in, block_in, claim_in, kept_in}
use Rattle.clone_calls.specs.declared.answer.DonorAnswer.{DonorAnswer}
use Rattle.clone_calls.specs.declared.answer.DonorAnswer.TheVariants as answer
use Rattle.clone_calls.specs.declared.block.Block.{Block}
use Rattle.clone_calls.specs.declared.block.BlockRefusal.{BlockRefusal}
use Rattle.clone_calls.specs.declared.block.BlockRefusal.TheVariants as unread
use Rattle.clone_calls.specs.declared.call.DonorCall.TheVariants as call
use Rattle.clone_plain.specs.declared.refusal.EngineRefusal.TheVariants as engine
use Rattle.clone_serve.specs.Following as following
use Rattle.clone_serve.specs.Following.{archived, call_in, claimed, next_block, read, weighed, work_after}
use Rattle.clone_serve.specs.Stepping.{GivesAll, Goes}
use Rattle.clone_serve.specs.Telling.{Exchange}
use Rattle.clone_serve.specs.declared.after.After.{After}
use Rattle.clone_serve.specs.declared.doing.Doing.{Doing}
use Rattle.clone_serve.specs.declared.doing.Doing.TheVariants.{Serving}
use Rattle.clone_serve.specs.declared.doing.Execution.{Execution}
use Rattle.clone_serve.specs.declared.doing.Place.{Place}
use Rattle.clone_serve.specs.declared.doing.Work.{Work}
use Rattle.clone_serve.specs.declared.doing.Work.TheVariants.{Archive, Claim, Read, Weigh}
use Rattle.clone_serve.specs.declared.turn.ServeAnswer.{ServeAnswer}
use Rattle.clone_serve.specs.declared.turn.ServeAnswer.TheVariants as says
use Rattle.clone_serve.specs.declared.turn.ServeTurn.TheVariants.{Ask}
use Rattle.clone_engine.specs.Answering.{Answered}
use Rattle.clone_engine.specs.Copying.{Gives, RefusesBlock}
use Rattle.clone_engine.specs.Donor.{Donor}
use Rattle.clone_told.specs.Told.{gives}
use Rattle.clone_ending.specs.Service.{a_chunk, blocks_from, service_in, unclaimed, work_in}
use Rattle.clone_ending.proofs.Stepping.{Comes, Hands, goes_so}
use Rattle.clone_ending.proofs.UnclaimedLemmas.{becomes_same, claimed_less, finished_most}

-- what is left of a chunk, however often a block of it is read
abbrev pub plain : Work → ℕ
plain Claim = 1
plain (Weigh chunk) = CHUNK_BLOCKS + 2
plain (Read place again) = blocks_from place + 2
plain (Archive place limit) = blocks_from place + 2

abbrev pub left_of : Donor → ℕ → ℕ
left_of d more = unclaimed d.cloning * a_chunk + more

-- IT HAS LESS LEFT, or there was nothing to do.
pub data Lowers (limit now : ℕ) (given : ServeAnswer) : Type 0 where
  lessens : now < limit → Lowers limit now given
  idles : now ≤ limit → given ≡ says.Idle → Lowers limit now given

-- the next block is none before
next_most : (kept from : ℕ) → from ≤ next_block kept from
unfolding next_block
next_most kept from = by (nat_lt from 8)
  where
    by : (b : Bool) → from ≤ (if b then from + trailing_ones w8 (kept / 2 ^ from) else from)
    by true = omega arith
    by false = omega arith

-- a claim takes one of the chunks that nobody has claimed
claim_less : (d u : Donor) (run : Execution) (chunk : ℕ) → Claims run.caller (copy_number run.stage) d.cloning u.cloning (Ok (Some chunk)) → unclaimed u.cloning + 1 ≤ unclaimed d.cloning
claim_less d u run chunk claims =
    let s = claims.1 in
    omega (arith, ap unclaimed s.2.1, claimed_less d.cloning run.caller.session run.caller.task chunk s.0 s.1 s.2.0.free)

plain_some : (work : Work) → 1 ≤ plain work
plain_some Claim = omega arith
plain_some (Weigh chunk) = omega arith
plain_some (Read place again) = omega arith
plain_some (Archive place limit) = omega arith

pub plain_most : (work : Work) → plain work ≤ work_in work
plain_most Claim = omega arith
plain_most (Weigh chunk) = omega arith
plain_most (Read place true) = omega arith
plain_most (Read place false) = omega arith
plain_most (Archive place limit) = omega arith

-- ---- no call within an EXECUTE frees a chunk

module _ (d u : Donor) (run : Execution) where
  abbrev Most : Type 0
  Most = unclaimed u.cloning ≤ unclaimed d.cloning

  same_most : u ≡ d → Most
  same_most same = omega (arith, ap (λ (x : Donor). unclaimed x.cloning) same)

  cloning_most : u.cloning ≡ d.cloning → Most
  cloning_most same = omega (arith, ap unclaimed same)

  claim_most : (given : DonorAnswer) → Answered (call.Claim run.caller (copy_number run.stage)) given d u → Most
  claim_most (answer.Claim (Ok None)) answered = cloning_most answered.0.2
  claim_most (answer.Claim (Ok (Some chunk))) answered = omega (arith, claim_less d u run chunk answered.0)
  claim_most (answer.Claim (Err why)) answered = cloning_most answered.0.1
  claim_most other answered = absurd answered

  weigh_most : (chunk : ℕ) (given : DonorAnswer) → Answered (call.Kept run.caller (copy_number run.stage) chunk) given d u → Most
  weigh_most chunk (answer.Kept (Ok kept)) answered = same_most answered.1.1
  weigh_most chunk (answer.Kept (Err why)) answered = same_most answered.1
  weigh_most chunk other answered = absurd answered

  refuse_most : (place : Place) (why : BlockRefusal) → RefusesBlock run.caller (copy_number run.stage) place.chunk place.block d u why → Most
  refuse_most place (unread.Clone (Because why)) refused = same_most refused.1
  refuse_most place (unread.Clone NoMemory) refused = cloning_most refused.1
  refuse_most place (unread.Engine (engine.Because why)) refused = cloning_most refused.3
  refuse_most place (unread.Engine engine.NoMemory) refused = absurd refused

  read_most : (place : Place) (given : DonorAnswer) → Answered (call.ReadBlock run.caller (copy_number run.stage) place.chunk place.block) given d u → Most
  read_most place (answer.ReadBlock (Ok given)) answered =
      let s = answered.1.answers in
      omega (arith, ap unclaimed s.2.1, finished_most d.cloning run.caller.session place.chunk s.0 given.1 s.1)
  read_most place (answer.ReadBlock (Err why)) answered = refuse_most place why answered
  read_most place other answered = absurd answered

  archive_most : (limit : ℕ) (given : DonorAnswer) → Answered (call.Archive limit) given d u → Most
  archive_most limit (answer.Archive (Ok None)) answered = cloning_most answered.0.1
  archive_most limit (answer.Archive (Ok (Some lsn))) answered =
      let more = record d.cloning { archive = Some (archived_on limit d.engine.buffer.ring answered.0.0) } in
      omega (arith, becomes_same u.cloning more answered.0.2)
  archive_most limit (answer.Archive (Err e)) answered = omega (arith, becomes_same u.cloning d.cloning answered.0)
  archive_most limit other answered = absurd answered

  call_most : (work : Work) (given : DonorAnswer) → Answered (call_in run work) given d u → Most
  call_most Claim given answered = claim_most given answered
  call_most (Weigh chunk) given answered = weigh_most chunk given answered
  call_most (Read place again) given answered = read_most place given answered
  call_most (Archive place limit) given answered = archive_most limit given answered

-- ---- the calls

-- a block that was read is one of its chunk
block_there : (d u : Donor) (run : Execution) (place : Place) (block : Block) (last : Bool) → Gives run.caller place.chunk place.block d u block last → place.block < CHUNK_BLOCKS
block_there d u run place block last gives =
    let made = gives.made_of.0 in
    let list = made.0.snap.list in
    omega (arith, few_blocks list place.chunk, slice_get_within (blocks_at list place.chunk) place.block (part_of gives.work) made.2)

-- what is left once it was sent
after_less : (run : Execution) (place : Place) (last : Bool) → place.block < CHUNK_BLOCKS → service_in (Serving run (work_after place last)) < blocks_from place + 2
after_less run place true there = omega arith
after_less run place false there = omega (arith, there, next_most place.kept (min (place.block + 1) 255))

module _ (limit : ℕ) where
  abbrev Before : Donor → Execution → Work → Type 0
  Before d run work = left_of d (plain work) ≤ limit

  abbrev Then : Donor → Doing → ServeAnswer → Type 0
  Then u doing says = Lowers limit (left_of u (service_in doing)) says

  module _ (d u : Donor) (run : Execution) (most : unclaimed u.cloning ≤ unclaimed d.cloning) where
    abbrev Next : After → Type 0
    Next next = Comes Before Then u next

    ends : (work : Work) (says : ServeAnswer) → Before d run work → Lowers limit (left_of u 0) says
    ends work says before = lessens (omega (arith, before, most, plain_some work))

    claims : (given : DonorAnswer) (next : After) → Before d run Claim → Answered (call.Claim run.caller (copy_number run.stage)) given d u → option_map (claimed run) (claim_in given) ≡ Some next → Next next
    claims (answer.Claim (Ok (Some chunk))) next before answered is =
        let same : claimed run (Ok (Some chunk)) ≡ next = cc in
        subst Next same (omega (arith, before, claim_less d u run chunk answered.0))
    claims (answer.Claim (Ok None)) next before answered is =
        let same : claimed run (Ok None) ≡ next = cc in
        subst Next same (ends Claim says.SentEnd before)
    claims (answer.Claim (Err why)) next before answered is =
        let same : claimed run (Err why) ≡ next = cc in
        subst Next same (ends Claim (says.Refused why) before)
    claims other next before answered is = absurd answered

    weighs : (chunk : ℕ) (given : DonorAnswer) (next : After) → Before d run (Weigh chunk) → Answered (call.Kept run.caller (copy_number run.stage) chunk) given d u → option_map (weighed run chunk) (kept_in given) ≡ Some next → Next next
    weighs chunk (answer.Kept (Ok kept)) next before answered is =
        let same : weighed run chunk (Ok kept) ≡ next = cc in
        subst Next same (omega (arith, before, most))
    weighs chunk (answer.Kept (Err why)) next before answered is =
        let same : weighed run chunk (Err why) ≡ next = cc in
        subst Next same (ends (Weigh chunk) (says.Refused why) before)
    weighs chunk other next before answered is = absurd answered

    archives : (place : Place) (up : ℕ) (given : DonorAnswer) (next : After) → Before d run (Archive place up) → Answered (call.Archive up) given d u → option_map (archived run place) (archive_in given) ≡ Some next → Next next
    archives place up (answer.Archive (Ok reached)) next before answered is =
        let same : archived run place (Ok reached) ≡ next = cc in
        subst Next same (omega (arith, before, most))
    archives place up (answer.Archive (Err e)) next before answered is =
        let same : archived run place (Err e) ≡ next = cc in
        subst Next same (ends (Archive place up) says.NoMemory before)
    archives place up other next before answered is = absurd answered

    -- a block isn't read
    refuses : (place : Place) (again : Bool) (why : BlockRefusal) → Before d run (Read place again) → RefusesBlock run.caller (copy_number run.stage) place.chunk place.block d u why → Next (read run place again (Err why))
    refuses place true (unread.Clone (Because (ArchiveBehind reached until))) before refused = idles (omega (arith, before, most)) refl
    refuses place false (unread.Clone (Because (ArchiveBehind reached until))) before refused = omega (arith, before, most)
    refuses place again (unread.Clone (Because why)) before refused = ends (Read place again) (says.Refused why) before
    refuses place again (unread.Clone NoMemory) before refused = ends (Read place again) says.NoMemory before
    refuses place again (unread.Engine why) before refused = ends (Read place again) says.DiskFault before

    reads : (place : Place) (again : Bool) (given : DonorAnswer) (next : After) → Before d run (Read place again) → Answered (call.ReadBlock run.caller (copy_number run.stage) place.chunk place.block) given d u → option_map (read run place again) (block_in given) ≡ Some next → Next next
    reads place again (answer.ReadBlock (Ok given)) next before answered is =
        let same : read run place again (Ok given) ≡ next = cc in
        subst Next same (lessens (omega (arith, before, most, after_less run place given.1 (block_there d u run place given.0 given.1 answered.1))))
    reads place again (answer.ReadBlock (Err why)) next before answered is =
        let same : read run place again (Err why) ≡ next = cc in
        subst Next same (refuses place again why before answered)
    reads place again other next before answered is = absurd answered

    hands_next : (work : Work) (given : DonorAnswer) (next : After) → Before d run work → Answered (call_in run work) given d u → following.after (Serving run work) given ≡ Some next → Next next
    hands_next Claim given next before answered is = claims given next before answered is
    hands_next (Weigh chunk) given next before answered is = weighs chunk given next before answered is
    hands_next (Read place again) given next before answered is = reads place again given next before answered is
    hands_next (Archive place up) given next before answered is = archives place up given next before answered is

  hands : Hands Before Then
  hands = record {
    next = λ d u run work given next before acts is. hands_next d u run (call_most d u run work given acts.does) work given next before acts.does is;
    fails = λ d u run work given before acts. ends d u run (call_most d u run work given acts.does) work says.NoMemory before;
  }

-- A STEP within an EXECUTE
pub serves_less : (exchanges : List Exchange) (d t : Donor) (run : Execution) (work : Work) (so sn : List ℕ) (after : Doing) (says : ServeAnswer) → Goes exchanges (Serving run work) (Ask (call_in run work)) so sn after says → GivesAll gives d exchanges t
    → Lowers (left_of d (plain work)) (left_of t (service_in after)) says
serves_less exchanges d t run work so sn after says goes answers =
    goes_so (Before (left_of d (plain work))) (Then (left_of d (plain work))) (hands (left_of d (plain work))) exchanges t after says sn d run work so (omega arith) goes answers

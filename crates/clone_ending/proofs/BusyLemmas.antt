-- A step within an EXECUTE isn't idle: what was behind is archived, and read then.
use Rattle.std.proofs.Common.{ℕ, ◌≡◌, ◌∙◌, ◌-◌, ◌==◌, if◌then◌else◌, option_and_then, Bool, true, false, List, None, Some, option_map, Ok, Err, refl, ap, sym, subst}
use Rattle.std.specs.Prelude.{slice_set}
use Rattle.clone_chunk.specs.Stages.{copy_number}
use Rattle.clone_chunk.specs.declared.chunk.Chunk.TheVariants.{Claimed}
use Rattle.clone_chunk.specs.declared.cause.CloneCause.TheVariants.{ArchiveBehind}
use Rattle.clone_session.specs.Cloning.{Cloning, Session}
use Rattle.clone_session.specs.CloneCalls.{archived_on}
use Rattle.clone_session.specs.CloneCauses.{block_cause}
use Rattle.clone_session.specs.Effects.{Becomes, aside, claimed as with_claimed}
use Rattle.clone_session.specs.declared.refusal.CloneRefusal.TheVariants.{Because, NoMemory}
use Rattle.clone_session.proofs.PartLemmas.{stands_as}
use Rattle.clone_calls.specs.Answering.{archive_in, block_in, claim_in, kept_in}
use Rattle.clone_calls.specs.declared.answer.DonorAnswer.{DonorAnswer}
use Rattle.clone_calls.specs.declared.answer.DonorAnswer.TheVariants as answer
use Rattle.clone_calls.specs.declared.block.Block.{Block}
use Rattle.clone_calls.specs.declared.block.Block.TheVariants as block
use Rattle.clone_calls.specs.declared.block.BlockRefusal.{BlockRefusal}
use Rattle.clone_calls.specs.declared.block.BlockRefusal.TheVariants as unread
use Rattle.clone_calls.specs.declared.call.DonorCall.TheVariants as call
use Rattle.clone_serve.specs.Following as following
use Rattle.clone_serve.specs.Following.{archived, call_in, claimed, read, says_sent, weighed}
use Rattle.clone_serve.specs.Stepping.{GivesAll, Goes}
use Rattle.clone_serve.specs.Telling.{Exchange}
use Rattle.clone_serve.specs.declared.after.After.{After}
use Rattle.clone_serve.specs.declared.doing.Doing.{Doing}
use Rattle.clone_serve.specs.declared.doing.Doing.TheVariants.{Serving}
use Rattle.clone_serve.specs.declared.doing.Execution.{Execution}
use Rattle.clone_serve.specs.declared.doing.Place.{Place}
use Rattle.clone_serve.specs.declared.doing.Work.{Work}
use Rattle.clone_serve.specs.declared.doing.Work.TheVariants.{Archive, Claim, Read, Weigh}
use Rattle.clone_serve.specs.declared.turn.ServeAnswer.{ServeAnswer}
use Rattle.clone_serve.specs.declared.turn.ServeTurn.TheVariants.{Ask}
use Rattle.clone_network.specs.Connections.{is_idle}
use Rattle.clone_engine.specs.Answering.{Answered}
use Rattle.clone_engine.specs.Copying.{RefusesBlock}
use Rattle.clone_engine.specs.Donor.{Donor, IsDonor}
use Rattle.clone_told.specs.Told.{gives}
use Rattle.clone_ending.proofs.BehindLemmas.{ArchivesAll, IsBehind, behind_is, keeps_all, none_behind}
use Rattle.clone_ending.proofs.Stepping.{Comes, Hands, goes_so}

pub record IsSound (d : Donor) : Type 0 where
  pub donor : IsDonor d
  pub archives : ArchivesAll d.cloning

-- what is known as a call is asked: as redo is archived, that it was behind, and then that it isn't
abbrev pub Asked : Donor → Execution → Work → Type 0
Asked d run Claim = IsSound d
Asked d run (Weigh chunk) = IsSound d
Asked d run (Read place false) = IsSound d
Asked d run (Read place true) = (archived until : ℕ) → block_cause d.cloning run.caller (copy_number run.stage) place.chunk place.block ≡ Some (ArchiveBehind archived until) → ⊥
Asked d run (Archive place limit) = IsSound d × ((archived : ℕ) × (until : ℕ) × (limit ≡ until - archived) × IsBehind d.cloning run.caller place.chunk place.block archived until)

abbrev pub Busy : Donor → Doing → ServeAnswer → Type 0
Busy u doing says = is_idle says ≡ false

sent_busy : (chunk number : ℕ) (b : Block) → is_idle (says_sent chunk number b) ≡ false
sent_busy chunk number (block.Pages pages) = refl
sent_busy chunk number (block.Redo from bytes) = refl

module _ (d u : Donor) (run : Execution) (is : IsDonor u) where
  abbrev Next : After → Type 0
  Next next = Comes Asked Busy u next

  same_sound : u ≡ d → IsSound d → IsSound u
  same_sound same sound = subst IsSound (sym same) sound

  claim_sound : (task chunk number : ℕ) (s : Session) → option_and_then (λ (x : Session). if x.number == number then Some x else None) d.cloning.session ≡ Some s → u.cloning ≡ with_claimed task chunk s d.cloning → IsSound d → IsSound u
  claim_sound task chunk number s stands is_so sound = record {
    donor = is;
    archives = keeps_all d.cloning u.cloning sound.archives (ap (λ (c : Cloning). c.archive) is_so) (λ x session.
        let both : Some x ≡ (with_claimed task chunk s d.cloning).session = sym session ∙ ap (λ (c : Cloning). c.session) is_so in
        let same : x ≡ record s { snap = record s.snap { chunks = slice_set s.snap.chunks chunk (Claimed task) } } = cc in
        (s, stands_as d.cloning.session number s stands, ap (λ (y : Session). y.snap.list) same));
  }

  claims : (given : DonorAnswer) (next : After) → Asked d run Claim → Answered (call.Claim run.caller (copy_number run.stage)) given d u → option_map (claimed run) (claim_in given) ≡ Some next → Next next
  claims (answer.Claim (Ok (Some chunk))) next sound answered is =
      let same : claimed run (Ok (Some chunk)) ≡ next = cc in
      let s = answered.0.1 in
      subst Next same (claim_sound run.caller.task chunk run.caller.session s.0 s.1 s.2.1 sound)
  claims (answer.Claim (Ok None)) next sound answered is =
      let same : claimed run (Ok None) ≡ next = cc in
      subst Next same refl
  claims (answer.Claim (Err why)) next sound answered is =
      let same : claimed run (Err why) ≡ next = cc in
      subst Next same refl
  claims other next sound answered is = absurd answered

  weighs : (chunk : ℕ) (given : DonorAnswer) (next : After) → Asked d run (Weigh chunk) → Answered (call.Kept run.caller (copy_number run.stage) chunk) given d u → option_map (weighed run chunk) (kept_in given) ≡ Some next → Next next
  weighs chunk (answer.Kept (Ok kept)) next sound answered is =
      let same : weighed run chunk (Ok kept) ≡ next = cc in
      subst Next same (same_sound answered.1.1 sound)
  weighs chunk (answer.Kept (Err why)) next sound answered is =
      let same : weighed run chunk (Err why) ≡ next = cc in
      subst Next same refl
  weighs chunk other next sound answered is = absurd answered

  archives : (place : Place) (limit : ℕ) (given : DonorAnswer) (next : After) → Asked d run (Archive place limit) → Answered (call.Archive limit) given d u → option_map (archived run place) (archive_in given) ≡ Some next → Next next
  archives place limit (answer.Archive (Ok None)) next asked answered is =
      let wrong : None ≡ Some asked.1.3.a = sym answered.0.0 ∙ asked.1.3.archive in
      absurd (cc)
  archives place limit (answer.Archive (Ok (Some lsn))) next asked answered is =
      let same : archived run place (Ok (Some lsn)) ≡ next = cc in
      let (before, until, limit_is, behind) = asked.1 in
      let ring = d.engine.buffer.ring in
      let both : Some answered.0.0 ≡ Some behind.a = sym answered.0.1 ∙ behind.archive in
      let one : answered.0.0 ≡ behind.a = cc in
      let more : Becomes u.cloning (record d.cloning { archive = Some (archived_on (until - before) ring behind.a) }) = answered.0.2 ∙ (λ i. aside (record d.cloning { archive = Some (archived_on (limit_is i) ring (one i)) })) in
      subst Next same (none_behind d run.caller place.chunk place.block before until asked.0.donor asked.0.archives behind u.cloning more (copy_number run.stage))
  archives place limit (answer.Archive (Err e)) next asked answered is =
      let same : archived run place (Err e) ≡ next = cc in
      subst Next same refl
  archives place limit other next asked answered is = absurd answered

  -- a block isn't read
  refuses : (place : Place) (again : Bool) (why : BlockRefusal) → Asked d run (Read place again) → RefusesBlock run.caller (copy_number run.stage) place.chunk place.block d u why → Next (read run place again (Err why))
  refuses place true (unread.Clone (Because (ArchiveBehind reached until))) asked refused = absurd (asked reached until refused.0)
  refuses place false (unread.Clone (Because (ArchiveBehind reached until))) sound refused =
      let behind = behind_is d.cloning run.caller (copy_number run.stage) place.chunk place.block reached until refused.0 in
      subst (λ (x : Donor). Asked x run (Archive place (until - reached))) (sym refused.1) (sound, (reached, until, refl, behind))
  refuses place again (unread.Clone (Because why)) asked refused = refl
  refuses place again (unread.Clone NoMemory) asked refused = refl
  refuses place again (unread.Engine why) asked refused = refl

  reads : (place : Place) (again : Bool) (given : DonorAnswer) (next : After) → Asked d run (Read place again) → Answered (call.ReadBlock run.caller (copy_number run.stage) place.chunk place.block) given d u → option_map (read run place again) (block_in given) ≡ Some next → Next next
  reads place again (answer.ReadBlock (Ok given)) next asked answered is =
      let same : read run place again (Ok given) ≡ next = cc in
      subst Next same (sent_busy place.chunk place.block given.0)
  reads place again (answer.ReadBlock (Err why)) next asked answered is =
      let same : read run place again (Err why) ≡ next = cc in
      subst Next same (refuses place again why asked answered)
  reads place again other next asked answered is = absurd answered

  hands_next : (work : Work) (given : DonorAnswer) (next : After) → Asked d run work → Answered (call_in run work) given d u → following.after (Serving run work) given ≡ Some next → Next next
  hands_next Claim given next asked answered is = claims given next asked answered is
  hands_next (Weigh chunk) given next asked answered is = weighs chunk given next asked answered is
  hands_next (Read place again) given next asked answered is = reads place again given next asked answered is
  hands_next (Archive place limit) given next asked answered is = archives place limit given next asked answered is

hands : Hands Asked Busy
hands = record {
  next = λ d u run work given next asked acts is. hands_next d u run acts.donor work given next asked acts.does is;
  fails = λ d u run work given asked acts. refl;
}

-- A STEP within an EXECUTE
pub serves_busy : (exchanges : List Exchange) (d t : Donor) (run : Execution) (work : Work) (so sn : List ℕ) (after : Doing) (says : ServeAnswer) → Asked d run work → Goes exchanges (Serving run work) (Ask (call_in run work)) so sn after says → GivesAll gives d exchanges t
    → is_idle says ≡ false
serves_busy exchanges d t run work so sn after says asked goes answers = goes_so Asked Busy hands exchanges t after says sn d run work so asked goes answers

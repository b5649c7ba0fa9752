-- A donor's end of a task's connection sends the END of an EXECUTE.
use Rattle.std.proofs.Common.{ℕ, suc, ◌≡◌, ◌≢◌, ◌∙◌, ◌⊎◌, ◌<◌, List, [], ◌∷◌, ◌++◌, Bool, true, false, if◌then◌else◌, Option, None, Some, Ok, Err, Result, option_map, length, refl, sym, ap, subst, inl, inr, arith}
use Rattle.std.specs.Bool.{⊤}
use Rattle.std.specs.Prelude.{slice_get, slice_index, not, ◌==◌, ◌&&◌, ◌||◌, IfSome}
use Rattle.std.specs.List.{All}
use Rattle.std.specs.declared.alloc.AllocError.{AllocError}
use Rattle.std.proofs.lemmas.Bool.{both_ways}
use Rattle.std.proofs.lemmas.List.Elements.{All-get_or}
use Rattle.std.proofs.lemmas.Option.{slice_get_within, get_or_from_slice_get}
use Rattle.clone_chunk.specs.Chunks.{IsTaken, is_kept}
use Rattle.clone_chunk.specs.Stages.{copy_number, copy_numbered}
use Rattle.clone_chunk.specs.declared.cause.CloneCause.{CloneCause}
use Rattle.clone_chunk.specs.declared.cause.CloneCause.TheVariants.{ArchiveBehind}
use Rattle.clone_chunk.specs.declared.chunk.Chunk.{Chunk}
use Rattle.clone_chunk.specs.declared.chunk.Chunk.TheVariants as chunk
use Rattle.clone_chunk.specs.declared.copy_stage.CopyStage.{CopyStage}
use Rattle.clone_chunk.specs.declared.copy_stage.CopyStage.TheVariants as copy
use Rattle.clone_marks.specs.Counts.{block_counts}
use Rattle.clone_marks.proofs.RunLemmas.{counts_at}
use Rattle.clone_session.specs.Cloning.{Session}
use Rattle.clone_session.specs.CloneCauses.{donor_stage}
use Rattle.clone_session.specs.declared.refusal.CloneRefusal.{CloneRefusal}
use Rattle.clone_session.specs.declared.refusal.CloneRefusal.TheVariants.{Because, NoMemory}
use Rattle.clone_calls.specs.Answering.{archive_in, block_in, kept_in}
use Rattle.clone_calls.specs.declared.answer.DonorAnswer.{DonorAnswer}
use Rattle.clone_calls.specs.declared.block.Block.{Block}
use Rattle.clone_calls.specs.declared.block.Block.TheVariants as block
use Rattle.clone_calls.specs.declared.block.BlockRefusal.{BlockRefusal}
use Rattle.clone_calls.specs.declared.block.BlockRefusal.TheVariants as unread
use Rattle.clone_serve.specs.Following.{archived, call_in, read, says_sent, weighed}
use Rattle.clone_serve.specs.Following as following
use Rattle.clone_serve.specs.declared.after.After.{After}
use Rattle.clone_serve.specs.declared.after.After.TheVariants.{Asks, Ends}
use Rattle.clone_serve.specs.declared.doing.Doing.{Doing}
use Rattle.clone_serve.specs.declared.doing.Execution.{Execution}
use Rattle.clone_serve.specs.declared.doing.Place.{Place}
use Rattle.clone_serve.specs.declared.doing.Work.{Work}
use Rattle.clone_serve.specs.declared.doing.Work.TheVariants.{Archive, Claim, Read, Weigh}
use Rattle.clone_serve.specs.declared.turn.ServeAnswer.{ServeAnswer}
use Rattle.clone_serve.specs.declared.turn.ServeAnswer.TheVariants as says
use Rattle.clone_engine.specs.Donor.{Donor}
use Rattle.clone_ending.proofs.Stepping.{Comes, Hands, goes_so}
use Rattle.clone_session.specs.CloneCauses.{session_of}
use Rattle.clone_wire.specs.Spelling.{spelling}
use Rattle.clone_wire.specs.declared.frame.Side.TheVariants.{Answer as ofDonor}
use Rattle.clone_stream.specs.Streams.{IsFrameOf}
use Rattle.clone_calls.specs.declared.answer.DonorAnswer.TheVariants as reply
use Rattle.clone_calls.specs.declared.call.DonorCall.{DonorCall}
use Rattle.clone_calls.specs.declared.call.DonorCall.TheVariants as call
use Rattle.clone_serve.specs.Serving.{Follows, GoesOn, WasSent, doing_after, sends_of, turn_after, with_frame}
use Rattle.clone_serve.specs.Stepping.{GivesAll, Goes}
use Rattle.clone_serve.specs.Telling.{Exchange, end_frame}
use Rattle.clone_serve.specs.declared.doing.Doing.TheVariants as doing
use Rattle.clone_serve.specs.declared.turn.ServeTurn.{ServeTurn}
use Rattle.clone_serve.specs.declared.turn.ServeTurn.TheVariants.{Ask, Done}
use Rattle.clone_engine.specs.Answering.{Answered}
use Rattle.clone_told.specs.Told.{gives}

-- ---- once a chunk was claimed no END is sent by the same step

abbrev pub NotClaiming : Donor → Execution → Work → Type 0
NotClaiming d run Claim = ⊥
NotClaiming d run (Weigh chunk) = ⊤
NotClaiming d run (Read place again) = ⊤
NotClaiming d run (Archive place limit) = ⊤

abbrev pub NoEnd : Donor → Doing → ServeAnswer → Type 0
NoEnd d doing spoke = spoke ≢ says.SentEnd

abbrev Next : Donor → After → Type 0
Next u next = Comes NotClaiming NoEnd u next

abbrev NextOf : Donor → Option After → Type 0
NextOf u None = ⊤
NextOf u (Some next) = Next u next

weighed_next : (u : Donor) (run : Execution) (chunk : ℕ) (kept : Option (Result ℕ CloneCause)) → NextOf u (option_map (weighed run chunk) kept)
weighed_next u run chunk None = tt
weighed_next u run chunk (Some (Ok kept)) = tt
weighed_next u run chunk (Some (Err why)) = λ is. cc (is)

sent_next : (chunk number : ℕ) (b : Block) → says_sent chunk number b ≢ says.SentEnd
sent_next chunk number (block.Pages pages) = λ is. cc (is)
sent_next chunk number (block.Redo from bytes) = λ is. cc (is)

unread_next : (u : Donor) (run : Execution) (place : Place) (again : Bool) (why : BlockRefusal) → Next u (read run place again (Err why))
unread_next u run place true (unread.Clone (Because (ArchiveBehind reached until))) = λ is. cc (is)
unread_next u run place false (unread.Clone (Because (ArchiveBehind reached until))) = tt
unread_next u run place again (unread.Clone (Because other)) = λ is. cc (is)
unread_next u run place again (unread.Clone NoMemory) = λ is. cc (is)
unread_next u run place again (unread.Engine why) = λ is. cc (is)

read_next : (u : Donor) (run : Execution) (place : Place) (again : Bool) (got : Option (Result (Block × Bool) BlockRefusal)) → NextOf u (option_map (read run place again) got)
read_next u run place again None = tt
read_next u run place again (Some (Ok got)) = sent_next place.chunk place.block got.0
read_next u run place again (Some (Err why)) = unread_next u run place again why

archived_next : (u : Donor) (run : Execution) (place : Place) (done : Option (Result (Option ℕ) AllocError)) → NextOf u (option_map (archived run place) done)
archived_next u run place None = tt
archived_next u run place (Some (Ok reached)) = tt
archived_next u run place (Some (Err e)) = λ is. cc (is)

work_next : (u : Donor) (run : Execution) (what : Work) (given : DonorAnswer) → NotClaiming u run what → NextOf u (following.work_done run what given)
work_next u run Claim given before = absurd before
work_next u run (Weigh chunk) given before = weighed_next u run chunk (kept_in given)
work_next u run (Read place again) given before = read_next u run place again (block_in given)
work_next u run (Archive place limit) given before = archived_next u run place (archive_in given)

not_of : (d u : Donor) (run : Execution) (what : Work) → NotClaiming d run what → NotClaiming u run what
not_of d u run Claim before = before
not_of d u run (Weigh chunk) before = tt
not_of d u run (Read place again) before = tt
not_of d u run (Archive place limit) before = tt

pub no_end : Hands NotClaiming NoEnd
no_end = record {
  next = λ d u run what given next before acts is. subst (NextOf u) is (work_next u run what given (not_of d u run what before));
  fails = λ d u run what given before acts. λ is. cc (is);
}

-- ---- the step asked for a chunk, and none was free

pub record NoneFree (d t : Donor) (run : Execution) (old new : List ℕ) (after : Doing) : Type 0 where
  pub same : t ≡ d
  pub taken : (s : Session) × (session_of d.cloning run.caller.session ≡ Some s) × All IsTaken s.snap.chunks
  pub doing : after ≡ doing.Ready run.caller
  pub sent : new ≡ old ++ spelling (end_frame run.caller (copy_number run.stage))
  pub was : IsFrameOf ofDonor (end_frame run.caller (copy_number run.stage))

same_donor : (d u : Donor) → u.cloning ≡ d.cloning → u.engine ≡ d.engine → u ≡ d
same_donor d u cloning engine = (λ i. record { engine = engine i; cloning = cloning i })

module _ (d t : Donor) (run : Execution) (old new : List ℕ) (after : Doing) where
  abbrev asked : DonorCall
  asked = call.Claim run.caller (copy_number run.stage)

  at_end_of : (u : Donor) (xs : List Exchange) (mid : Doing) (turn : ServeTurn) (sent : List ℕ) (given : ServeAnswer) → turn ≡ Done given → Goes xs mid turn sent new after says.SentEnd → GivesAll gives u xs t → (t ≡ u) × (after ≡ mid) × (given ≡ says.SentEnd) × (new ≡ sent)
  at_end_of u [] mid turn sent given is goes gave = (gave, goes.2, cc (goes.0, is), goes.1)
  at_end_of u (x ∷ xs) mid turn sent given is goes gave = absurd (cc (goes.0, is))

  by_answer : (u : Donor) (given : DonorAnswer) (next : After) (xs : List Exchange) (mid : Doing) (turn : ServeTurn) (sent : List ℕ) → Answered asked given d u → following.after (doing.Serving run Claim) given ≡ Some next → Follows next old sent mid turn → Goes xs mid turn sent new after says.SentEnd → GivesAll gives u xs t → NoneFree d t run old new after
  by_answer u (reply.Claim (Ok (Some chunk))) next xs mid turn sent did is f goes gave =
      let e : Asks run (Weigh chunk) ≡ next = cc (is) in
      let turns : turn ≡ Ask (call_in run (Weigh chunk)) = f.turns ∙ sym (ap turn_after e) in
      let mid_is : mid ≡ doing.Serving run (Weigh chunk) = f.doing ∙ sym (ap doing_after e) in
      let on : Goes xs (doing.Serving run (Weigh chunk)) (Ask (call_in run (Weigh chunk))) sent new after says.SentEnd = subst (λ (y : Doing). Goes xs y (Ask (call_in run (Weigh chunk))) sent new after says.SentEnd) mid_is (subst (λ (y : ServeTurn). Goes xs mid y sent new after says.SentEnd) turns goes) in
      absurd (goes_so NotClaiming NoEnd no_end xs t after says.SentEnd new u run (Weigh chunk) sent tt on gave refl)
  by_answer u (reply.Claim (Ok None)) next xs mid turn sent did is f goes gave =
      let frame_is = end_frame run.caller (copy_number run.stage) in
      let e : Ends (doing.Ready run.caller) (Some frame_is) says.SentEnd ≡ next = cc (is) in
      let l = at_end_of u xs mid turn sent says.SentEnd (f.turns ∙ sym (ap turn_after e)) goes gave in
      record {
        same = l.0 ∙ same_donor d u did.0.2 did.1;
        taken = did.0.1;
        doing = l.1 ∙ f.doing ∙ sym (ap doing_after e);
        sent = l.3 ∙ f.sends ∙ sym (ap (λ (y : After). with_frame (sends_of y) old) e);
        was = subst (λ (y : After). WasSent (sends_of y)) (sym e) f.is;
      }
  by_answer u (reply.Claim (Err why)) next xs mid turn sent did is f goes gave =
      let e : following.refusing why ≡ next = cc (is) in
      let l = at_end_of u xs mid turn sent (says.Refused why) (f.turns ∙ sym (ap turn_after e)) goes gave in
      absurd (cc (l.2))
  by_answer u given next xs mid turn sent did is f goes gave = absurd did

  pub none_free : (exchanges : List Exchange) → Goes exchanges (doing.Serving run Claim) (Ask asked) old new after says.SentEnd → GivesAll gives d exchanges t → NoneFree d t run old new after
  none_free [] goes gave = absurd (cc (goes.0))
  none_free (x ∷ xs) (ask, (mid, sent, turn, on, rest)) (u, gave, more) = by on
    where
      first : asked ≡ x.0
      first = cc (ask)

      by : GoesOn (doing.Serving run Claim) x.1 old sent mid turn → NoneFree d t run old new after
      by (inl (next, is, f)) = by_answer u x.1 next xs mid turn sent (subst (λ (q : DonorCall). Answered q x.1 d u) (sym first) gave.does) is f rest more
      by (inr fails) = absurd (let l = at_end_of u xs mid turn sent says.NoMemory fails.says rest more in cc (l.2))

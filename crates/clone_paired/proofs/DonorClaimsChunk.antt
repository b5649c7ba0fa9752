-- THE SESSION WITH ANOTHER STATE OF ONE CHUNK, which was free or the task's, and what that leaves.
use Rattle.std.proofs.Common.{ℕ, ◌≡◌, ◌≢◌, ◌∙◌, ◌⊎◌, ◌<◌, ◌≤◌, ◌+◌, ◌-◌, ◌^◌, ◌%◌, true, false, Some, refl, ap, subst, inl, inr, arith}
use Rattle.std.specs.Bool.{⊤}
use Rattle.std.specs.Prelude.{slice_get, slice_index, slice_set}
use Rattle.std.proofs.Math.Nat.{mod-eq_of_lt}
use Rattle.std.proofs.Math.Pow.{pow_mono}
use Rattle.std.proofs.lemmas.Bool.{both_ways, cases_eq, cases_lt, eq-eqb, eqb-true}
use Rattle.std.proofs.lemmas.List.{length-set}
use Rattle.std.proofs.lemmas.Nat.{pow_pos}
use Rattle.std.proofs.lemmas.Option.{slice_get_within}
use Rattle.clone_base.proofs.MapEntries.{slice_get-set_other, slice_get-set_same}
use Rattle.clone_chunk.specs.Chunks.{is_kept, is_whole}
use Rattle.clone_chunk.specs.declared.chunk.Chunk.{Chunk}
use Rattle.clone_chunk.specs.declared.chunk.Chunk.TheVariants as chunk
use Rattle.clone_snapshot.specs.StageLists.{block_count, chunk_count}
use Rattle.clone_snapshot.proofs.CountLemmas.{few_blocks}
use Rattle.clone_marks.proofs.ChunkLemmas.{has_finished}
use Rattle.clone_session.specs.Cloning.{Session}
use Rattle.clone_wire.specs.declared.frame.Frame.{Frame}
use Rattle.clone_wire.specs.declared.frame.Frame.TheVariants as frame
use Rattle.clone_serve.specs.Following.{next_block}
use Rattle.clone_serve.specs.declared.doing.Doing.{Doing}
use Rattle.clone_serve.specs.declared.doing.Doing.TheVariants as doing
use Rattle.clone_serve.specs.declared.doing.Work.TheVariants.{Archive, Claim, Read, Weigh}
use Rattle.clone_recipient.specs.Receptions.{Reception}
use Rattle.clone_network.specs.Connections.{Connection}
use Rattle.clone_view.specs.Donors.{ByChunk}
use Rattle.clone_view.specs.Views.{Line}
use Rattle.clone_view.proofs.Going.{next_is}
use Rattle.clone_paired.specs.Lines.{IsLineOf}
use Rattle.clone_paired.specs.Sessions.{AreChunks, HasComeTo, IsSessionOf}
use Rattle.clone_paired.specs.Speaking.{IsGiven}
use Rattle.clone_paired.proofs.Transports.{all_as}

abbrev pub with_state : ℕ → Chunk → Session → Session
with_state i state s = record s { snap = record s.snap { chunks = slice_set s.snap.chunks i state } }

-- the task may change such a chunk
abbrev pub IsOpenTo : ℕ → Chunk → Type 0
IsOpenTo k chunk.Free = ⊤
IsOpenTo k (chunk.Claimed task) = task ≡ k
IsOpenTo k chunk.Finished = ⊥

unfinished : (k : ℕ) (old : Chunk) → IsOpenTo k old → old ≢ chunk.Finished
unfinished k old opens is = subst (IsOpenTo k) is opens

module _ (s : Session) (i k : ℕ) (state old : Chunk) (there : slice_get s.snap.chunks i ≡ Some old) (opens : IsOpenTo k old) where
  abbrev pub now : Session
  now = with_state i state s

  pub state_here : slice_get now.snap.chunks i ≡ Some state
  state_here = slice_get-set_same s.snap.chunks i state (slice_get_within s.snap.chunks i old there)

  pub state_others : (j : ℕ) → j ≢ i → slice_get now.snap.chunks j ≡ slice_get s.snap.chunks j
  state_others j other = slice_get-set_other s.snap.chunks i j state other

  pub by_chunk : ByChunk s now i
  by_chunk = record { incarnation = refl; list = refl; kept = refl; others = state_others }

  chunks_now : AreChunks s.snap → AreChunks now.snap
  chunks_now c = record { count = length-set s.snap.chunks i state ∙ c.count; masks = c.masks; within = c.within; some = λ j small apart. by j small apart (cases_eq j i) }
    where
      by : (j : ℕ) → j < chunk_count s.snap.list → slice_get now.snap.chunks j ≢ Some chunk.Finished → (j ≡ i) ⊎ (j ≢ i) → is_whole (slice_index s.snap.kept j) (block_count s.snap.list j) ≡ false
      by j small apart (inl one) = c.some j small (λ is. unfinished k old opens (cc (ap (slice_get s.snap.chunks) one, is, there)))
      by j small apart (inr other) = c.some j small (λ is. apart (state_others j other ∙ is))

  pub session_now : (r : Reception) → IsSessionOf r s → IsSessionOf r now
  session_now r own = record { number = own.number; tasks = own.tasks; version = own.version; before = own.before; chunks = chunks_now own.chunks; copies = own.copies }

  pub given_now : (r : Reception) (f : Frame) → IsGiven (Some s) r f → IsGiven (Some now) r f
  given_now r (frame.Stage attempt plan) is = is
  given_now r (frame.Pages attempt stage chunk block pages) is = is
  given_now r (frame.Redo attempt chunk block from bytes) is = is
  given_now r (frame.End attempt stage) is = is
  given_now r other is = absurd is

  pub line_now : (r : Reception) (j : ℕ) (at : Connection) (l : Line) → IsLineOf (Some s) r j at l → IsLineOf (Some now) r j at l
  line_now r j at l of = record { held = of.held; cut = of.cut; doing = of.doing; binds = of.binds; live = of.live; over = of.over; answers = of.answers; asked = of.asked; given = all_as (given_now r) l.answers of.given }

  pub come_now : (j : ℕ) → j ≢ k → (d : Doing) → HasComeTo s j d → HasComeTo now j d
  come_now j other (doing.Serving run (Read place again)) is = record { kept = is.kept; block = is.block; unkept = is.unkept; claimed = state_others place.chunk apart ∙ is.claimed }
    where
      theirs : place.chunk ≡ i → old ≡ chunk.Claimed j
      theirs one = cc (ap (slice_get s.snap.chunks) one, is.claimed, there)

      apart : place.chunk ≢ i
      apart one = other (subst (IsOpenTo k) (theirs one) opens)
  come_now j other (doing.Serving run Claim) is = tt
  come_now j other (doing.Serving run (Weigh chunk)) is = tt
  come_now j other (doing.Serving run (Archive place limit)) is = tt
  come_now j other doing.New is = tt
  come_now j other (doing.Ready caller) is = tt
  come_now j other (doing.Telling caller) is = tt
  come_now j other (doing.Starting run) is = tt
  come_now j other doing.Leaving is = tt
  come_now j other doing.Over is = tt

-- ---- THE KEPT BLOCKS of a chunk that isn't finished

pub record HasMore (s : Session) (i : ℕ) : Type 0 where
  pub few : slice_index s.snap.kept i < 255
  pub short : block_count s.snap.list i ≤ 8
  pub first : next_block (slice_index s.snap.kept i) 0 < block_count s.snap.list i

whole_of : (mask count : ℕ) → mask < 2 ^ count → ((block : ℕ) → block < count → is_kept mask block ≡ true) → mask ≡ 2 ^ count - 1
whole_of mask count within all = eqb-true mask (2 ^ count - 1) (has_finished (record { blocks = count; taken = mask }) within all)

not_whole : (mask count : ℕ) → mask < 2 ^ count → is_whole mask count ≡ false → mask ≢ 2 ^ count - 1
not_whole mask count within some is = both_ways (is_whole mask count) some (eq-eqb (mask % 2 ^ count + 1) (2 ^ count) (let power = pow_pos count in let low : mask % 2 ^ count ≡ mask = mod-eq_of_lt within in omega (arith, is, low, power)))

small_power : (count : ℕ) → count ≤ 8 → 2 ^ count ≤ 256
small_power count short = pow_mono short

pub has_more : (s : Session) (i : ℕ) (old : Chunk) → AreChunks s.snap → slice_get s.snap.chunks i ≡ Some old → old ≢ chunk.Finished → HasMore s i
has_more s i old c there opens = record { few = few; short = few_blocks s.snap.list i; first = by (cases_lt (next_block mask 0) count) }
  where
    mask : ℕ
    mask = slice_index s.snap.kept i

    count : ℕ
    count = block_count s.snap.list i

    apart : slice_index s.snap.kept i ≢ 2 ^ block_count s.snap.list i - 1
    apart = not_whole (slice_index s.snap.kept i) (block_count s.snap.list i) (c.within i) (c.some i (let less = slice_get_within s.snap.chunks i old there in omega (arith, less, c.count)) (λ is. opens (cc (is, there))))

    few : slice_index s.snap.kept i < 255
    few = omega (arith, apart, c.within i, small_power (block_count s.snap.list i) (few_blocks s.snap.list i))

    by : (next_block (slice_index s.snap.kept i) 0 < block_count s.snap.list i) ⊎ (block_count s.snap.list i ≤ next_block (slice_index s.snap.kept i) 0) → next_block (slice_index s.snap.kept i) 0 < block_count s.snap.list i
    by (inl less) = less
    by (inr past) = absurd (apart (whole_of (slice_index s.snap.kept i) (block_count s.snap.list i) (c.within i) (λ block small. (next_is (slice_index s.snap.kept i) 0 few).1 block (omega arith) (omega (arith, small, past)))))

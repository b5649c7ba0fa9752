-- A donor's end of a task's connection goes on within an EXECUTE: which session it has, and what it may be refused.
use Rattle.std.proofs.Common.{ℕ, ◌≡◌, ◌∙◌, ◌+◌, Bool, true, false, if◌then◌else◌, Option, None, Some, option_and_then, option_map, refl, sym, ap, subst}
use Rattle.std.specs.Prelude.{slice_get, slice_index, not, ◌==◌, ◌&&◌, is_some, nat_lt}
use Rattle.std.specs.Option.{option_map_or, option_or}
use Rattle.std.proofs.lemmas.Bool.{eq-eqb}
use Rattle.clone_chunk.specs.Chunks.{is_kept}
use Rattle.clone_chunk.specs.declared.cause.CloneCause.{CloneCause}
use Rattle.clone_chunk.specs.declared.cause.CloneCause.TheVariants.{ArchiveBehind, NoSuchSession, NotClaimed}
use Rattle.clone_chunk.specs.declared.chunk.Chunk.{Chunk}
use Rattle.clone_chunk.specs.declared.chunk.Chunk.TheVariants as chunk
use Rattle.clone_archive.specs.Archived.{Archived, archived_of}
use Rattle.clone_snapshot.specs.StageLists.{Part, PagePart, RedoPart, block_of}
use Rattle.clone_session.specs.Cloning.{Cloning, Session}
use Rattle.clone_session.specs.CloneCauses.{archive_behind, block_cause, donor_stage, is_claimed, kept_cause, not_claimed, other_stage, session_of, stale, unclaimed, whether}
use Rattle.clone_session.specs.declared.caller.Caller.{Caller}
use Rattle.clone_serve.specs.declared.doing.Place.{Place}
use Rattle.clone_sides.proofs.KeptLemmas.{number_is}
use Rattle.clone_paired.specs.Own.{own_session}
use Rattle.clone_paired.specs.Sessions.{IsPlaceOf}
use Rattle.clone_paired.proofs.DonorClaimsChunk.{with_state}
use Rattle.clone_paired.proofs.DonorExecutes.{not_stale, same_stage}
use Rattle.clone_paired.proofs.DonorReads.{Stands, bare}

-- ---- the session after a call

pub own_there : (number : ℕ) (c : Cloning) (full : Session) → c.session ≡ Some full → full.number ≡ number → own_session number c ≡ Some (bare full)
own_there number c full there same =
    ap (λ (o : Option Session). option_and_then (λ (t : Session). if t.number == number then Some t else None) (option_map bare o)) there
    ∙ ap (λ (b : Bool). if b then Some (bare full) else None) (eq-eqb full.number number same)

module _ (number : ℕ) (c : Cloning) (s : Session) (st : Stands number c s) where
  abbrev full : Session
  full = st.full

  -- a call of it finds it
  pub found_full : (asked : ℕ) → asked ≡ number → (f : Session) → session_of c asked ≡ Some f → f ≡ st.full
  found_full asked same f found =
      let both : Some f ≡ Some st.full = sym found ∙ ap (session_of c) same ∙ st.found in
      cc (both)

  -- what holds of the one that was found holds of it
  pub like_full : (P : Session → Type 0) (asked : ℕ) → asked ≡ number → (f : Session) → session_of c asked ≡ Some f → P (bare f) → P s
  like_full P asked same f found holds = subst P (ap bare (found_full asked same f found) ∙ sym st.is) holds

  -- a chunk of it has another state
  pub own_state : (u : Cloning) (i : ℕ) (state : Chunk) → u.session ≡ Some (with_state i state st.full) → own_session number u ≡ Some (with_state i state s)
  own_state u i state is = own_there number u (with_state i state st.full) is (number_is c number st.full st.found) ∙ ap (λ (y : Session). Some (with_state i state y)) (sym st.is)

  -- ---- nothing is against a call

  module _ (incarnation task stage : ℕ) (present : s.incarnation ≡ incarnation) (same : stage ≡ donor_stage s) where
    abbrev caller : Caller
    caller = record { session = number; incarnation = incarnation; task = task }

    fresh : stale st.full incarnation ≡ None
    fresh = not_stale st.full incarnation (sym (ap (λ (y : Session). y.incarnation) st.is) ∙ present)

    of_stage : other_stage st.full stage ≡ None
    of_stage = same_stage st.full stage (same ∙ ap donor_stage st.is)

    is_own : (i : ℕ) → slice_get s.snap.chunks i ≡ Some (chunk.Claimed task) → is_claimed task (slice_get st.full.snap.chunks i) ≡ true
    is_own i claims = ap (is_claimed task) (ap (λ (y : Session). slice_get y.snap.chunks i) (sym st.is) ∙ claims) ∙ eq-eqb task task refl

    pub kept_fine : (i : ℕ) → slice_get s.snap.chunks i ≡ Some (chunk.Claimed task) → kept_cause c caller stage i ≡ None
    kept_fine i claims =
        ap (λ (o : Option Session). option_map_or (λ (y : Session). option_or (stale y incarnation) (option_or (other_stage y stage) (unclaimed y task i))) o (Some NoSuchSession)) st.found
        ∙ ap (λ (o : Option CloneCause). option_or o (option_or (other_stage st.full stage) (unclaimed st.full task i))) fresh
        ∙ ap (λ (o : Option CloneCause). option_or o (unclaimed st.full task i)) of_stage
        ∙ ap (λ (b : Bool). whether (not b) NotClaimed) (is_own i claims)

    -- a block is refused only since its redo isn't archived yet
    pub block_fine : (place : Place) (part : Part) → IsPlaceOf s task place → block_of s.snap.list place.chunk place.block ≡ Some part → block_cause c caller stage place.chunk place.block ≡ archive_behind c.archive (block_of st.full.snap.list place.chunk place.block)
    block_fine place part own there =
        ap (λ (o : Option Session). option_map_or (λ (y : Session). option_or (stale y incarnation) (option_or (other_stage y stage) (option_or (not_claimed y task place.chunk place.block) (archive_behind c.archive (block_of y.snap.list place.chunk place.block))))) o (Some NoSuchSession)) st.found
        ∙ ap (λ (o : Option CloneCause). option_or o (option_or (other_stage st.full stage) (option_or (not_claimed st.full task place.chunk place.block) (archive_behind c.archive (block_of st.full.snap.list place.chunk place.block))))) fresh
        ∙ ap (λ (o : Option CloneCause). option_or o (option_or (not_claimed st.full task place.chunk place.block) (archive_behind c.archive (block_of st.full.snap.list place.chunk place.block)))) of_stage
        ∙ ap (λ (o : Option CloneCause). option_or o (archive_behind c.archive (block_of st.full.snap.list place.chunk place.block))) mine
      where
        has : is_some (block_of st.full.snap.list place.chunk place.block) ≡ true
        has = ap (λ (y : Session). is_some (block_of y.snap.list place.chunk place.block)) (sym st.is) ∙ ap (λ (o : Option Part). is_some o) there

        left : is_kept (slice_index st.full.snap.kept place.chunk) place.block ≡ false
        left = ap (λ (y : Session). is_kept (slice_index y.snap.kept place.chunk) place.block) (sym st.is) ∙ ap (λ (z : ℕ). is_kept z place.block) (sym own.kept) ∙ own.unkept

        mine : not_claimed st.full task place.chunk place.block ≡ None
        mine = (λ i. whether (not (is_own place.chunk own.claimed i && has i && not (left i))) NotClaimed)

-- such a refusal says nothing else
pub only_behind : (a : Option Archived) (o : Option Part) (cause : CloneCause) → archive_behind a o ≡ Some cause → (archived : ℕ) × (until : ℕ) × (cause ≡ ArchiveBehind archived until)
only_behind a None cause is = absurd (cc (is))
only_behind a (Some (PagePart pages)) cause is = absurd (cc (is))
only_behind None (Some (RedoPart from count)) cause is = absurd (cc (is))
only_behind (Some y) (Some (RedoPart from count)) cause is = by (nat_lt (archived_of y) (from + count)) is
  where
    by : (b : Bool) → whether b (ArchiveBehind (archived_of y) (from + count)) ≡ Some cause → (archived : ℕ) × (until : ℕ) × (cause ≡ ArchiveBehind archived until)
    by true is = (archived_of y, from + count, sym (cc (is)))
    by false is = absurd (cc (is))

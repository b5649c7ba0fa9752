-- How many chunks nobody has claimed, when one is claimed or finished.
use Rattle.std.proofs.Common.{ℕ, zero, suc, ◌≡◌, ◌∙◌, ◌+◌, ◌≤◌, Bool, true, false, cond, get_or, set, List, [], ◌∷◌, Option, None, Some, option_map, refl, ap, sym, arith, if◌then◌else◌}
use Rattle.std.specs.Prelude.{count_by}
use Rattle.std.specs.List.{slice_get}
use Rattle.std.specs.Option.{option_map_or}
use Rattle.std.proofs.lemmas.List.Sums.{sum_by-cons, sum_by-set}
use Rattle.std.proofs.lemmas.Option.{get_or_from_slice_get, slice_get_within}
use Rattle.clone_chunk.specs.Chunks.{is_free}
use Rattle.clone_chunk.specs.declared.chunk.Chunk.{Chunk}
use Rattle.clone_chunk.specs.declared.chunk.Chunk.TheVariants.{Claimed, Finished, Free}
use Rattle.clone_session.specs.Cloning.{Cloning, Session}
use Rattle.clone_session.specs.CloneCauses.{session_of}
use Rattle.clone_session.specs.Effects.{Becomes, claimed, finished}
use Rattle.clone_session.proofs.PartLemmas.{stands_as}
use Rattle.clone_ending.specs.Service.{unclaimed}

-- one chunk counts so
abbrev counts : Chunk → ℕ
counts chunk = cond (is_free chunk) 1 0

-- a chunk that isn't free in the place of another makes no more of them free
set_most : (chunks : List Chunk) (i : ℕ) (new : Chunk) → counts new ≡ 0 → count_by is_free (set chunks i new) ≤ count_by is_free chunks
set_most [] i new none = omega arith
set_most (chunk ∷ chunks) zero new none = omega (arith, none, sum_by-cons counts new chunks, sum_by-cons counts chunk chunks)
set_most (chunk ∷ chunks) (suc i) new none = omega (arith, set_most chunks i new none, sum_by-cons counts chunk (set chunks i new), sum_by-cons counts chunk chunks)

-- and in the place of a free one, fewer
set_less : (chunks : List Chunk) (i : ℕ) (new : Chunk) → counts new ≡ 0 → slice_get chunks i ≡ Some Free → count_by is_free (set chunks i new) + 1 ≤ count_by is_free chunks
set_less chunks i new none here =
    let all = sum_by-set counts chunks i new Free (slice_get_within chunks i Free here) in
    let was : counts (get_or chunks i Free) ≡ 1 = ap counts (get_or_from_slice_get chunks i Free Free here) in
    omega (arith, all, was, none)

-- ---- of a session

-- as many as of the session that stands
unclaimed_in : (c : Cloning) (number : ℕ) (s : Session) → session_of c number ≡ Some s → unclaimed c ≡ count_by is_free s.snap.chunks
unclaimed_in c number s stands = ap (λ (o : Option Session). option_map_or (λ (x : Session). count_by is_free x.snap.chunks) o 0) (stands_as c.session number s stands)

pub claimed_less : (c : Cloning) (number task chunk : ℕ) (s : Session) → session_of c number ≡ Some s → slice_get s.snap.chunks chunk ≡ Some Free → unclaimed (claimed task chunk s c) + 1 ≤ unclaimed c
claimed_less c number task chunk s stands here = omega (arith, unclaimed_in c number s stands, set_less s.snap.chunks chunk (Claimed task) refl here)

pub finished_most : (c : Cloning) (number chunk : ℕ) (s : Session) (last : Bool) → session_of c number ≡ Some s → unclaimed (if last then finished chunk s c else c) ≤ unclaimed c
finished_most c number chunk s true stands = omega (arith, unclaimed_in c number s stands, set_most s.snap.chunks chunk Finished refl)
finished_most c number chunk s false stands = omega arith

-- ---- the room that is kept for them doesn't matter

-- a session without its room
abbrev bare : Session → Session
bare s = record s { snap = record s.snap { room = 0 } }

bare_same : (o : Option Session) → option_map_or (λ (s : Session). count_by is_free s.snap.chunks) (option_map bare o) 0 ≡ option_map_or (λ (s : Session). count_by is_free s.snap.chunks) o 0
bare_same None = refl
bare_same (Some s) = refl

pub becomes_same : (new old : Cloning) → Becomes new old → unclaimed new ≡ unclaimed old
becomes_same new old same = sym (bare_same new.session) ∙ ap unclaimed same ∙ bare_same old.session

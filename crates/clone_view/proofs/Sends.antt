-- A chunk is claimed, and a block is sent: these are steps of the rounds.
use Rattle.std.proofs.Common.{◌≡◌, ◌≢◌, ◌<◌, ◌≤◌, ◌+◌, ◌-◌, ℕ, zero, suc, Bool, true, false, List, [], ◌∷◌, Option, Some, refl, sym, ap, subst, ◌∙◌, arith, inl, inr, ◌⊎◌}
use Rattle.std.specs.Prelude.{◌==◌, slice_get, slice_index, if◌then◌else◌}
use Rattle.std.proofs.lemmas.Bool.{cases_eq}
use Rattle.clone_chunk.specs.Chunks.{is_kept}
use Rattle.clone_chunk.specs.Stages.{copy_number}
use Rattle.clone_chunk.specs.declared.chunk.Chunk.{Chunk}
use Rattle.clone_chunk.specs.declared.chunk.Chunk.TheVariants as chunk
use Rattle.clone_snapshot.specs.StageLists.{block_count}
use Rattle.clone_marks.specs.Counts.{block_counts}
use Rattle.clone_marks.proofs.RunLemmas.{counts_at}
use Rattle.clone_session.specs.Cloning.{Session}
use Rattle.clone_session.specs.CloneCauses.{donor_stage}
use Rattle.clone_serve.specs.declared.doing.Doing.{Doing}
use Rattle.clone_serve.specs.declared.doing.Doing.TheVariants as doing
use Rattle.clone_serve.specs.declared.doing.Execution.{Execution}
use Rattle.clone_serve.specs.declared.doing.Place.{Place}
use Rattle.clone_serve.specs.declared.doing.Work.TheVariants.{Claim, Read}
use Rattle.clone_tasks.specs.Tables.{Table, standing_of, incarnation_of}
use Rattle.clone_wire.specs.declared.frame.Frame.{Frame}
use Rattle.clone_rounds.specs.World.{Block, Serving, Owner, Free, Claimed, Sent, Sides, World, put}
use Rattle.clone_rounds.specs.Awaiting.{Has, Rule}
use Rattle.clone_rounds.specs.Steps.{after_call, claimed, claiming, block_sent, sending, AreFree, DonorStep, claims, reads}
use Rattle.clone_rounds.proofs.Claiming.{has_or, claimed_in, claimed_out}
use Rattle.clone_rounds.proofs.Puts.{put_all, put_cases}
use Rattle.clone_rounds.proofs.Fitting.{all_fit}
use Rattle.clone_view.specs.Rows.{place_of, left_from}
use Rattle.clone_view.specs.Tables.{IsStanding}
use Rattle.clone_view.specs.Frames.{answer_of}
use Rattle.clone_view.specs.Donors.{core_of, rest_at, Owns, AreOwned, IsSession, ByChunk}
use Rattle.clone_view.specs.Views.{Line, IsLine, IsSeat, IsView, IsAt, line_served, line_doing, Leads}
use Rattle.clone_view.proofs.Rows.{place_small}
use Rattle.clone_view.proofs.ViewSteps.{seats_put}
use Rattle.clone_view.proofs.DonorSteps.{answers_sent, own_line, linked, core_is}

-- ---- places

pub place_from : (counts : List ℕ) (c d : ℕ) → place_of counts c d ≡ place_of counts c 0 + d
place_from [] c d = omega arith
place_from (n ∷ counts) zero d = omega arith
place_from (n ∷ counts) (suc c) d = let rest : place_of counts c d ≡ place_of counts c 0 + d = place_from counts c d in omega (arith, rest)

pub place_same : (counts : List ℕ) (c d e f : ℕ) → d < slice_index counts c → f < slice_index counts e → place_of counts c d ≡ place_of counts e f → (c ≡ e) × (d ≡ f)
place_same [] c d e f h g same = absurd (omega (arith, h))
place_same (n ∷ counts) zero d zero f h g same = (refl, same)
place_same (n ∷ counts) zero d (suc e) f h g same = let less : d < n = h in absurd (omega (arith, less, same))
place_same (n ∷ counts) (suc c) d zero f h g same = let less : f < n = g in absurd (omega (arith, less, same))
place_same (n ∷ counts) (suc c) d (suc e) f h g same = let rest : (c ≡ e) × (d ≡ f) = place_same counts c d e f h g (omega (arith, same)) in (ap suc rest.0, rest.1)

-- ---- the blocks of a chunk that aren't kept

pub record IsLeft (first kept from count x : ℕ) : Type 0 where
  pub block : ℕ
  pub low : from ≤ block
  pub high : block < from + count
  pub place : x ≡ first + block
  pub unkept : is_kept kept block ≡ false

pub has_from : (first kept from count x : ℕ) → Has x (left_from first kept from count) → IsLeft first kept from count x
has_from first kept from zero x h = absurd h
has_from first kept from (suc count) x h = at (λ g. has_from first kept (from + 1) count x g) (is_kept kept from) refl h
  where
    wider : IsLeft first kept (from + 1) count x → IsLeft first kept from (suc count) x
    wider l = record { block = l.block; low = (let low : from + 1 ≤ l.block = l.low in omega (arith, low)); high = (let high : l.block < from + 1 + count = l.high in omega (arith, high)); place = l.place; unkept = l.unkept }

    at : (Has x (left_from first kept (from + 1) count) → IsLeft first kept (from + 1) count x) → (keeps : Bool) → is_kept kept from ≡ keeps → Has x (if keeps then left_from first kept (from + 1) count else ((first + from) ∷ left_from first kept (from + 1) count)) → IsLeft first kept from (suc count) x
    at again true e g = wider (again g)
    at again false e (inl g) = record { block = from; low = omega arith; high = omega arith; place = g; unkept = e }
    at again false e (inr g) = wider (again g)

pub in_from : (first kept from count block : ℕ) → from ≤ block → block < from + count → is_kept kept block ≡ false → Has (first + block) (left_from first kept from count)
in_from first kept from zero block low high unkept = absurd (omega (arith, low, high))
in_from first kept from (suc count) block low high unkept = at (λ h. in_from first kept (from + 1) count block h (omega (arith, high)) unkept) (is_kept kept from) refl (cases_eq block from)
  where
    at : (from + 1 ≤ block → Has (first + block) (left_from first kept (from + 1) count)) → (keeps : Bool) → is_kept kept from ≡ keeps → (block ≡ from) ⊎ (block ≢ from) → Has (first + block) (if keeps then left_from first kept (from + 1) count else ((first + from) ∷ left_from first kept (from + 1) count))
    at again true e (inl same) = cc (e, ap (is_kept kept) same, unkept)
    at again true e (inr other) = again (omega (arith, low, other))
    at again false e (inl same) = inl (ap (λ b. first + b) same)
    at again false e (inr other) = inr (again (omega (arith, low, other)))

free_from : (a : Sides) (first kept from count : ℕ) → ((b : ℕ) → from ≤ b → b < from + count → is_kept kept b ≡ false → (first + b < a.size a.at) × (a.owner (first + b) ≡ Free)) → AreFree a (left_from first kept from count)
free_from a first kept from zero each = tt
free_from a first kept from (suc count) each = at (free_from a first kept (from + 1) count (λ b low high u. each b (omega (arith, low)) (omega (arith, high)) u)) (is_kept kept from) refl
  where
    once : Has (first + from) (left_from first kept (from + 1) count) → ⊥
    once h = let l : IsLeft first kept (from + 1) count (first + from) = has_from first kept (from + 1) count (first + from) h in let low : from + 1 ≤ l.block = l.low in let place : first + from ≡ first + l.block = l.place in omega (arith, low, place)

    at : AreFree a (left_from first kept (from + 1) count) → (keeps : Bool) → is_kept kept from ≡ keeps → AreFree a (if keeps then left_from first kept (from + 1) count else ((first + from) ∷ left_from first kept (from + 1) count))
    at rest true e = rest
    at rest false e = ((each from (omega arith) (omega arith) e).0, (each from (omega arith) (omega arith) e).1, once, rest)

session_by : (t : Table) (s now : Session) (w u : World) (i : ℕ) → IsSession (incarnation_of t) s w → ByChunk s now i → donor_stage now ≡ donor_stage s → u.sides.met ≡ w.sides.met → u.sides.at ≡ w.sides.at → u.sides.size ≡ w.sides.size → AreOwned now u.sides.owner → IsSession (incarnation_of t) now u
session_by t s now w u i d by same met at size owner = record { met = met ∙ d.met ∙ ap (λ n. n == incarnation_of t) (sym by.incarnation); at = at ∙ d.at ∙ sym same; size = rw (size, at, by.list) (d.size); owner = owner }

-- ---- A BLOCK IS SENT

module _ (counts : ℕ → List ℕ) (t : Table) (s now : Session) (lines : ℕ → Option Line) (w : World) (k : ℕ) (l : Line) (run : Execution) (place : Place) (again : Bool) (unread : List Frame) (h : IsAt counts t s lines w k l (doing.Serving run (Read place again)) unread) (r : Rule w) (same : copy_number run.stage ≡ donor_stage s) (unkept : is_kept place.kept place.block ≡ false) (tied : place.kept ≡ slice_index s.snap.kept place.chunk) (there : place.block < block_count s.snap.list place.chunk) (mine : slice_get s.snap.chunks place.chunk ≡ Some (chunk.Claimed k)) (by : ByChunk s now place.chunk) (stage_is : donor_stage now ≡ donor_stage s) where
  -- the block's place, and those that are left then
  sent_at : ℕ
  sent_at = place_of (block_counts s.snap.list) place.chunk 0 + place.block

  left : List ℕ
  left = left_from (place_of (block_counts s.snap.list) place.chunk 0) place.kept (place.block + 1) (block_count s.snap.list place.chunk - place.block - 1)

  rest_is : rest_at s.snap.list place ≡ (place_of (block_counts s.snap.list) place.chunk 0 + place.block) ∷ left_from (place_of (block_counts s.snap.list) place.chunk 0) place.kept (place.block + 1) (block_count s.snap.list place.chunk - place.block - 1)
  rest_is = at (block_count s.snap.list place.chunk - place.block) (omega (arith, there))
    where
      at : (n : ℕ) → n ≡ suc (block_count s.snap.list place.chunk - place.block - 1) → left_from (place_of (block_counts s.snap.list) place.chunk 0) place.kept place.block n ≡ (place_of (block_counts s.snap.list) place.chunk 0 + place.block) ∷ left_from (place_of (block_counts s.snap.list) place.chunk 0) place.kept (place.block + 1) (block_count s.snap.list place.chunk - place.block - 1)
      at n e = ap (left_from (place_of (block_counts s.snap.list) place.chunk 0) place.kept place.block) e ∙ rw unkept refl

  starts_at : place_of (block_counts s.snap.list) place.chunk place.block ≡ place_of (block_counts s.snap.list) place.chunk 0 + place.block
  starts_at = place_from (block_counts s.snap.list) place.chunk place.block

  core_now : (w.seats k).core ≡ Serving w.sides.at ((place_of (block_counts s.snap.list) place.chunk 0 + place.block) ∷ left_from (place_of (block_counts s.snap.list) place.chunk 0) place.kept (place.block + 1) (block_count s.snap.list place.chunk - place.block - 1))
  core_now = core_is counts t s lines w k l (doing.Serving run (Read place again)) unread h (doing.Serving run (Read place again)) (Serving w.sides.at ((place_of (block_counts s.snap.list) place.chunk 0 + place.block) ∷ left_from (place_of (block_counts s.snap.list) place.chunk 0) place.kept (place.block + 1) (block_count s.snap.list place.chunk - place.block - 1))) refl (ap (λ n. Some (Serving n (rest_at s.snap.list place))) (same ∙ sym h.view.donor.at) ∙ ap (λ xs. Some (Serving w.sides.at xs)) rest_is)

  module _ (done : (slice_get now.snap.chunks place.chunk ≡ Some (chunk.Claimed k)) ⊎ (slice_get now.snap.chunks place.chunk ≡ Some chunk.Finished)) where
    -- the chunk's blocks, whose they were
    sent_owned : (i j : ℕ) → j < block_count s.snap.list i → Owns (is_kept (slice_index s.snap.kept i) j) (slice_get now.snap.chunks i) (put w.sides.owner (place_of (block_counts s.snap.list) place.chunk 0 + place.block) (Sent k) (place_of (block_counts s.snap.list) i j))
    sent_owned i j small = at (put_cases w.sides.owner (place_of (block_counts s.snap.list) place.chunk 0 + place.block) (Sent k) (place_of (block_counts s.snap.list) i j))
      where
        within : (c d : ℕ) → d < block_count s.snap.list c → d < slice_index (block_counts s.snap.list) c
        within c d less = subst (λ n. d < n) (sym (counts_at s.snap.list c)) less

        here : (state : Option Chunk) → (state ≡ Some (chunk.Claimed k)) ⊎ (state ≡ Some chunk.Finished) → Owns false state (Sent k)
        here state (inl e) = subst (λ x. Owns false x (Sent k)) (sym e) (inr refl)
        here state (inr e) = subst (λ x. Owns false x (Sent k)) (sym e) (λ f. cc)

        theirs : (keeps : Bool) (state : Option Chunk) (o : Owner) → (state ≡ Some (chunk.Claimed k)) ⊎ (state ≡ Some chunk.Finished) → Owns keeps (Some (chunk.Claimed k)) o → Owns keeps state o
        theirs true state o d own = own
        theirs false state o (inl e) own = subst (λ x. Owns false x o) (sym e) own
        theirs false state o (inr e) (inl own) = subst (λ x. Owns false x o) (sym e) (λ f. cc (f, own))
        theirs false state o (inr e) (inr own) = subst (λ x. Owns false x o) (sym e) (λ f. cc (f, own))

        old : (i ≡ place.chunk) ⊎ (i ≢ place.chunk) → Owns (is_kept (slice_index s.snap.kept i) j) (slice_get now.snap.chunks i) (w.sides.owner (place_of (block_counts s.snap.list) i j))
        old (inl e) = theirs (is_kept (slice_index s.snap.kept i) j) (slice_get now.snap.chunks i) (w.sides.owner (place_of (block_counts s.snap.list) i j)) (subst (λ c. (slice_get now.snap.chunks c ≡ Some (chunk.Claimed k)) ⊎ (slice_get now.snap.chunks c ≡ Some chunk.Finished)) (sym e) done) (subst (λ x. Owns (is_kept (slice_index s.snap.kept i) j) x (w.sides.owner (place_of (block_counts s.snap.list) i j))) (ap (slice_get s.snap.chunks) e ∙ mine) (h.view.donor.owner i j small))
        old (inr other) = subst (λ x. Owns (is_kept (slice_index s.snap.kept i) j) x (w.sides.owner (place_of (block_counts s.snap.list) i j))) (sym (by.others i other)) (h.view.donor.owner i j small)

        at : ((place_of (block_counts s.snap.list) i j ≡ place_of (block_counts s.snap.list) place.chunk 0 + place.block) × (put w.sides.owner (place_of (block_counts s.snap.list) place.chunk 0 + place.block) (Sent k) (place_of (block_counts s.snap.list) i j) ≡ Sent k)) ⊎ ((place_of (block_counts s.snap.list) i j ≢ place_of (block_counts s.snap.list) place.chunk 0 + place.block) × (put w.sides.owner (place_of (block_counts s.snap.list) place.chunk 0 + place.block) (Sent k) (place_of (block_counts s.snap.list) i j) ≡ w.sides.owner (place_of (block_counts s.snap.list) i j))) → Owns (is_kept (slice_index s.snap.kept i) j) (slice_get now.snap.chunks i) (put w.sides.owner (place_of (block_counts s.snap.list) place.chunk 0 + place.block) (Sent k) (place_of (block_counts s.snap.list) i j))
        at (inl e) =
            let one : (i ≡ place.chunk) × (j ≡ place.block) = place_same (block_counts s.snap.list) i j place.chunk place.block (within i j small) (within place.chunk place.block there) (e.0 ∙ sym starts_at) in
            let free : is_kept (slice_index s.snap.kept i) j ≡ false = ap (λ c. is_kept (slice_index s.snap.kept c) j) one.0 ∙ ap (is_kept (slice_index s.snap.kept place.chunk)) one.1 ∙ ap (λ m. is_kept m place.block) (sym tied) ∙ unkept in
            subst (Owns (is_kept (slice_index s.snap.kept i) j) (slice_get now.snap.chunks i)) (sym e.1) (subst (λ b. Owns b (slice_get now.snap.chunks i) (Sent k)) (sym free) (here (slice_get now.snap.chunks i) (subst (λ c. (slice_get now.snap.chunks c ≡ Some (chunk.Claimed k)) ⊎ (slice_get now.snap.chunks c ≡ Some chunk.Finished)) (sym one.0) done)))
        at (inr e) = subst (Owns (is_kept (slice_index s.snap.kept i) j) (slice_get now.snap.chunks i)) (sym e.1) (old (cases_eq i place.chunk))

    small : (place_of (block_counts s.snap.list) place.chunk 0 + place.block < w.sides.size w.sides.at) × (w.sides.owner (place_of (block_counts s.snap.list) place.chunk 0 + place.block) ≡ Claimed k)
    small = ((all_fit w r).blocks k w.sides.at ((place_of (block_counts s.snap.list) place.chunk 0 + place.block) ∷ left_from (place_of (block_counts s.snap.list) place.chunk 0) place.kept (place.block + 1) (block_count s.snap.list place.chunk - place.block - 1)) core_now).each (place_of (block_counts s.snap.list) place.chunk 0 + place.block) (inl refl)

    pub block_step : DonorStep w (sending w k w.sides.at (place_of (block_counts s.snap.list) place.chunk 0 + place.block) (left_from (place_of (block_counts s.snap.list) place.chunk 0) place.kept (place.block + 1) (block_count s.snap.list place.chunk - place.block - 1)))
    block_step = reads k (place_of (block_counts s.snap.list) place.chunk 0 + place.block) (left_from (place_of (block_counts s.snap.list) place.chunk 0) place.kept (place.block + 1) (block_count s.snap.list place.chunk - place.block - 1)) (record { linked = linked counts t s lines w k l (doing.Serving run (Read place again)) unread h; core = core_now }) small.0 small.1

    pub block_view : (next : Doing) (frame : Frame) → core_of now.snap.list next ≡ Some (Serving (donor_stage s) (left_from (place_of (block_counts s.snap.list) place.chunk 0) place.kept (place.block + 1) (block_count s.snap.list place.chunk - place.block - 1))) → answer_of counts frame ≡ Some (Block (donor_stage s) (place_of (block_counts s.snap.list) place.chunk place.block)) → IsView counts t (Some now) (put lines k (Some (line_served l next frame))) (sending w k w.sides.at (place_of (block_counts s.snap.list) place.chunk 0 + place.block) (left_from (place_of (block_counts s.snap.list) place.chunk 0) place.kept (place.block + 1) (block_count s.snap.list place.chunk - place.block - 1)))
    block_view next frame goes says = record { table = record { some = h.view.table.some; tasks = h.view.table.tasks; limit = h.view.table.limit; losses = h.view.table.losses; stage = h.view.table.stage; joined = h.view.table.joined; chunks = h.view.table.chunks; size = h.view.table.size; taken = h.view.table.taken; seats = put_all (λ j y. IsStanding (standing_of t j) y) w.seats k (block_sent (w.seats k) w.sides.at b rest) (λ j other. h.view.table.seats j) (record { connected = (h.view.table.seats k).connected; awaits = (h.view.table.seats k).awaits; ended = (h.view.table.seats k).ended }) }; donor = session_by t s now w (sending w k w.sides.at b rest) place.chunk h.view.donor by stage_is refl refl refl (λ i j less. rw (by.list, by.kept) (sent_owned i j (subst (λ x. j < block_count x i) by.list less))); seats = seats_put (IsSeat counts now.snap.list) lines w.seats k (Some (line_served l next frame)) (block_sent (w.seats k) w.sides.at b rest) (λ j. subst (λ x. IsSeat counts x (lines j) (w.seats j)) (sym by.list) (h.view.seats j)) line }
      where
        b : ℕ
        b = place_of (block_counts s.snap.list) place.chunk 0 + place.block

        rest : List ℕ
        rest = left_from (place_of (block_counts s.snap.list) place.chunk 0) place.kept (place.block + 1) (block_count s.snap.list place.chunk - place.block - 1)

        own : IsLine counts s.snap.list l (w.seats k)
        own = own_line counts t s lines w k l (doing.Serving run (Read place again)) unread h

        after : (cut : Bool) → core_of now.snap.list (if cut then doing.Over else next) ≡ Some (after_call cut (Serving w.sides.at (left_from (place_of (block_counts s.snap.list) place.chunk 0) place.kept (place.block + 1) (block_count s.snap.list place.chunk - place.block - 1))))
        after true = refl
        after false = goes ∙ ap (λ n. Some (Serving n (left_from (place_of (block_counts s.snap.list) place.chunk 0) place.kept (place.block + 1) (block_count s.snap.list place.chunk - place.block - 1)))) (sym h.view.donor.at)

        line : IsLine counts now.snap.list (line_served l next frame) (block_sent (w.seats k) w.sides.at (place_of (block_counts s.snap.list) place.chunk 0 + place.block) (left_from (place_of (block_counts s.snap.list) place.chunk 0) place.kept (place.block + 1) (block_count s.snap.list place.chunk - place.block - 1)))
        line = record { connected = own.connected; cut = own.cut; commands = own.commands; answers = rw (own.cut) (answers_sent counts l.cut l.answers (w.seats k).answers frame (Block w.sides.at (place_of (block_counts s.snap.list) place.chunk 0 + place.block)) own.answers (says ∙ ap (λ n. Some (Block n (place_of (block_counts s.snap.list) place.chunk place.block))) (sym h.view.donor.at) ∙ ap (λ p. Some (Block w.sides.at p)) starts_at)); core = rw (own.cut) (after l.cut) }

    pub block_read : (next : Doing) (frame : Frame) → core_of now.snap.list next ≡ Some (Serving (donor_stage s) (left_from (place_of (block_counts s.snap.list) place.chunk 0) place.kept (place.block + 1) (block_count s.snap.list place.chunk - place.block - 1))) → answer_of counts frame ≡ Some (Block (donor_stage s) (place_of (block_counts s.snap.list) place.chunk place.block)) → Leads counts t now (put lines k (Some (line_served l next frame))) w
    block_read next frame goes says = (sending w k w.sides.at (place_of (block_counts s.snap.list) place.chunk 0 + place.block) (left_from (place_of (block_counts s.snap.list) place.chunk 0) place.kept (place.block + 1) (block_count s.snap.list place.chunk - place.block - 1)), block_step, block_view next frame goes says)

-- ---- A CHUNK IS CLAIMED

module _ (counts : ℕ → List ℕ) (t : Table) (s now : Session) (lines : ℕ → Option Line) (w : World) (k : ℕ) (l : Line) (run : Execution) (unread : List Frame) (h : IsAt counts t s lines w k l (doing.Serving run Claim) unread) (same : copy_number run.stage ≡ donor_stage s) (i : ℕ) (free : slice_get s.snap.chunks i ≡ Some chunk.Free) (by : ByChunk s now i) (stage_is : donor_stage now ≡ donor_stage s) (took : slice_get now.snap.chunks i ≡ Some (chunk.Claimed k)) (b : ℕ) (bs : List ℕ) (some : left_from (place_of (block_counts s.snap.list) i 0) (slice_index s.snap.kept i) 0 (block_count s.snap.list i) ≡ b ∷ bs) where
  within_of : (c d : ℕ) → d < block_count s.snap.list c → d < slice_index (block_counts s.snap.list) c
  within_of c d less = subst (λ n. d < n) (sym (counts_at s.snap.list c)) less

  is_free : AreFree w.sides (b ∷ bs)
  is_free = subst (AreFree w.sides) some (free_from w.sides (place_of (block_counts s.snap.list) i 0) (slice_index s.snap.kept i) 0 (block_count s.snap.list i) each)
    where
      each : (d : ℕ) → 0 ≤ d → d < 0 + block_count s.snap.list i → is_kept (slice_index s.snap.kept i) d ≡ false → (place_of (block_counts s.snap.list) i 0 + d < w.sides.size w.sides.at) × (w.sides.owner (place_of (block_counts s.snap.list) i 0 + d) ≡ Free)
      each d low high unkept =
          let less : d < block_count s.snap.list i = omega (arith, high) in
          let owns : Owns (is_kept (slice_index s.snap.kept i) d) (slice_get s.snap.chunks i) (w.sides.owner (place_of (block_counts s.snap.list) i d)) = h.view.donor.owner i d less in
          let plain : Owns false (Some chunk.Free) (w.sides.owner (place_of (block_counts s.snap.list) i d)) = subst (λ x. Owns false x (w.sides.owner (place_of (block_counts s.snap.list) i d))) free (subst (λ x. Owns x (slice_get s.snap.chunks i) (w.sides.owner (place_of (block_counts s.snap.list) i d))) unkept owns) in
          (rw (← place_from (block_counts s.snap.list) i d, h.view.donor.size) (place_small (block_counts s.snap.list) i d (within_of i d less)), ap w.sides.owner (sym (place_from (block_counts s.snap.list) i d)) ∙ plain)

  claimed_owned : (c d : ℕ) → d < block_count s.snap.list c → Owns (is_kept (slice_index s.snap.kept c) d) (slice_get now.snap.chunks c) (claimed w.sides.owner k (b ∷ bs) (place_of (block_counts s.snap.list) c d))
  claimed_owned c d small = at (has_or (place_of (block_counts s.snap.list) c d) (b ∷ bs))
    where
      of_chunk : Has (place_of (block_counts s.snap.list) c d) (b ∷ bs) → (c ≡ i) × (is_kept (slice_index s.snap.kept i) d ≡ false)
      of_chunk g =
          let x : IsLeft (place_of (block_counts s.snap.list) i 0) (slice_index s.snap.kept i) 0 (block_count s.snap.list i) (place_of (block_counts s.snap.list) c d) = has_from (place_of (block_counts s.snap.list) i 0) (slice_index s.snap.kept i) 0 (block_count s.snap.list i) (place_of (block_counts s.snap.list) c d) (subst (Has (place_of (block_counts s.snap.list) c d)) (sym some) g) in
          let high : x.block < 0 + block_count s.snap.list i = x.high in
          let one : (c ≡ i) × (d ≡ x.block) = place_same (block_counts s.snap.list) c d i x.block (within_of c d small) (within_of i x.block (omega (arith, high))) (x.place ∙ sym (place_from (block_counts s.snap.list) i x.block)) in
          (one.0, ap (is_kept (slice_index s.snap.kept i)) one.1 ∙ x.unkept)

      kept_still : (Has (place_of (block_counts s.snap.list) c d) (b ∷ bs) → ⊥) → (c ≡ i) → (keeps : Bool) → is_kept (slice_index s.snap.kept c) d ≡ keeps → Owns keeps (slice_get s.snap.chunks c) (w.sides.owner (place_of (block_counts s.snap.list) c d)) → Owns keeps (slice_get now.snap.chunks c) (w.sides.owner (place_of (block_counts s.snap.list) c d))
      kept_still never e true f own = own
      kept_still never e false f own = absurd (never (subst (λ x. Has (place_of (block_counts s.snap.list) x d) (b ∷ bs)) (sym e) (subst (λ x. Has x (b ∷ bs)) (sym (place_from (block_counts s.snap.list) i d)) (subst (Has (place_of (block_counts s.snap.list) i 0 + d)) some (in_from (place_of (block_counts s.snap.list) i 0) (slice_index s.snap.kept i) 0 (block_count s.snap.list i) d (omega arith) (less e) (ap (λ x. is_kept (slice_index s.snap.kept x) d) (sym e) ∙ f))))))
        where
          less : c ≡ i → d < 0 + block_count s.snap.list i
          less g = let here : d < block_count s.snap.list i = subst (λ x. d < block_count s.snap.list x) g small in omega (arith, here)

      others : (Has (place_of (block_counts s.snap.list) c d) (b ∷ bs) → ⊥) → (c ≡ i) ⊎ (c ≢ i) → Owns (is_kept (slice_index s.snap.kept c) d) (slice_get now.snap.chunks c) (w.sides.owner (place_of (block_counts s.snap.list) c d))
      others never (inl e) = kept_still never e (is_kept (slice_index s.snap.kept c) d) refl (h.view.donor.owner c d small)
      others never (inr other) = subst (λ x. Owns (is_kept (slice_index s.snap.kept c) d) x (w.sides.owner (place_of (block_counts s.snap.list) c d))) (sym (by.others c other)) (h.view.donor.owner c d small)

      at : Has (place_of (block_counts s.snap.list) c d) (b ∷ bs) ⊎ (Has (place_of (block_counts s.snap.list) c d) (b ∷ bs) → ⊥) → Owns (is_kept (slice_index s.snap.kept c) d) (slice_get now.snap.chunks c) (claimed w.sides.owner k (b ∷ bs) (place_of (block_counts s.snap.list) c d))
      at (inl g) =
          let one : (c ≡ i) × (is_kept (slice_index s.snap.kept i) d ≡ false) = of_chunk g in
          subst (Owns (is_kept (slice_index s.snap.kept c) d) (slice_get now.snap.chunks c)) (sym (claimed_in w.sides.owner k (b ∷ bs) (place_of (block_counts s.snap.list) c d) g)) (subst (λ x. Owns x (slice_get now.snap.chunks c) (Claimed k)) (sym (ap (λ x. is_kept (slice_index s.snap.kept x) d) one.0 ∙ one.1)) (subst (λ x. Owns false x (Claimed k)) (sym (ap (slice_get now.snap.chunks) one.0 ∙ took)) (inl refl)))
      at (inr never) = subst (Owns (is_kept (slice_index s.snap.kept c) d) (slice_get now.snap.chunks c)) (sym (claimed_out w.sides.owner k (b ∷ bs) (place_of (block_counts s.snap.list) c d) never)) (others never (cases_eq c i))

  pub claim_step : DonorStep w (claiming w k w.sides.at (b ∷ bs))
  claim_step = claims k b bs (record { linked = linked counts t s lines w k l (doing.Serving run Claim) unread h; core = core_is counts t s lines w k l (doing.Serving run Claim) unread h (doing.Serving run Claim) (Serving w.sides.at []) refl (ap (λ n. Some (Serving n [])) (same ∙ sym h.view.donor.at)) }) is_free

  pub claim_view : (next : Doing) → core_of now.snap.list next ≡ Some (Serving (donor_stage s) (b ∷ bs)) → IsView counts t (Some now) (put lines k (Some (line_doing l next))) (claiming w k w.sides.at (b ∷ bs))
  claim_view next goes = record { table = record { some = h.view.table.some; tasks = h.view.table.tasks; limit = h.view.table.limit; losses = h.view.table.losses; stage = h.view.table.stage; joined = h.view.table.joined; chunks = h.view.table.chunks; size = h.view.table.size; taken = h.view.table.taken; seats = put_all (λ j y. IsStanding (standing_of t j) y) w.seats k (record (w.seats k) { core = Serving w.sides.at (b ∷ bs) }) (λ j other. h.view.table.seats j) (record { connected = (h.view.table.seats k).connected; awaits = (h.view.table.seats k).awaits; ended = (h.view.table.seats k).ended }) }; donor = session_by t s now w (claiming w k w.sides.at (b ∷ bs)) i h.view.donor by stage_is refl refl refl (λ c d less. rw (by.list, by.kept) (claimed_owned c d (subst (λ x. d < block_count x c) by.list less))); seats = seats_put (IsSeat counts now.snap.list) lines w.seats k (Some (line_doing l next)) (record (w.seats k) { core = Serving w.sides.at (b ∷ bs) }) (λ j. subst (λ x. IsSeat counts x (lines j) (w.seats j)) (sym by.list) (h.view.seats j)) (record { connected = own.connected; cut = own.cut; commands = own.commands; answers = own.answers; core = goes ∙ ap (λ n. Some (Serving n (b ∷ bs))) (sym h.view.donor.at) }) }
    where
      own : IsLine counts s.snap.list l (w.seats k)
      own = own_line counts t s lines w k l (doing.Serving run Claim) unread h

  pub chunk_claimed : (next : Doing) → core_of now.snap.list next ≡ Some (Serving (donor_stage s) (b ∷ bs)) → Leads counts t now (put lines k (Some (line_doing l next))) w
  chunk_claimed next goes = (claiming w k w.sides.at (b ∷ bs), claim_step, claim_view next goes)

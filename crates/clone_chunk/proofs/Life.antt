-- No chunk is claimed twice in a life.
use Rattle.std.proofs.Common.{◌≡◌, ◌≢◌, ℕ, zero, suc, ◌<◌, List, [], ◌∷◌, Some, length, set, get_or, sym, ap, ◌∙◌, arith, inl, inr}
use Rattle.std.specs.List.{slice_get, AllPairs}
use Rattle.std.proofs.lemmas.Bool.{cases_eq}
use Rattle.std.proofs.lemmas.List.{length-set}
use Rattle.std.proofs.lemmas.Option.{slice_get_within}
use Rattle.clone_chunk.specs.declared.chunk.Chunk.{Chunk}
use Rattle.clone_chunk.specs.declared.chunk.Chunk.TheVariants.{Free, Claimed, Finished}
use Rattle.clone_chunk.specs.Lives.{Event, claims, finishes, IsLife, claims_of}
use Rattle.clone_chunk.proofs.Indexes.{slice_get-set_same, slice_get-set_other}

-- a chunk that was written isn't free, and the others are as they were
stays_taken : (states : List Chunk) (n k : ℕ) (new : Chunk) → new ≢ Free → slice_get states k ≢ Some Free → slice_get (set states n new) k ≢ Some Free
stays_taken states n k new taken before free =
    elim (cases_eq k n) [
      | inl same ↦
          let within : n < length states = rw length-set at (slice_get_within (set states n new) n Free (rw same at free)) in
          let written : slice_get (set states n new) k ≡ Some new = rw same (slice_get-set_same states n new within) in
          taken (let both = sym written ∙ free in cc)
      | inr other ↦ before (sym (slice_get-set_other states n k new other) ∙ free)
    ]

-- a chunk that isn't free is never claimed
never_claimed : (states : List Chunk) (events : List Event) (k : ℕ) → IsLife states events → slice_get states k ≢ Some Free → (i d : ℕ) → i < length (claims_of events) → get_or (claims_of events) i d ≢ k
never_claimed states [] k life taken i d within = absurd (omega arith)
never_claimed states (claims task n ∷ events) k life taken zero d within = λ same. taken (ap (slice_get states) (sym same) ∙ life.0.free)
never_claimed states (claims task n ∷ events) k life taken (suc i) d within =
    never_claimed (set states n (Claimed task)) events k life.1 (stays_taken states n k (Claimed task) (λ e. cc) taken) i d (omega arith)
never_claimed states (finishes task n ∷ events) k life taken i d within =
    never_claimed (set states n Finished) events k life.1 (stays_taken states n k Finished (λ e. cc) taken) i d within

pub claimed_once : (states : List Chunk) (events : List Event) → IsLife states events → AllPairs (λ m n. m ≢ n) (claims_of events)
claimed_once states [] life i j d lt within = absurd (omega arith)
claimed_once states (claims task n ∷ events) life zero zero d lt within = absurd (omega arith)
claimed_once states (claims task n ∷ events) life zero (suc j) d lt within =
    let there = slice_get_within states n Free life.0.free in
    let claimed : slice_get (set states n (Claimed task)) n ≡ Some (Claimed task) = slice_get-set_same states n (Claimed task) there in
    λ same. never_claimed (set states n (Claimed task)) events n life.1 (λ free. cc) j d (omega arith) (sym same)
claimed_once states (claims task n ∷ events) life (suc i) zero d lt within = absurd (omega arith)
claimed_once states (claims task n ∷ events) life (suc i) (suc j) d lt within = claimed_once (set states n (Claimed task)) events life.1 i j d (omega arith) (omega arith)
claimed_once states (finishes task n ∷ events) life i j d lt within = claimed_once (set states n Finished) events life.1 i j d lt within

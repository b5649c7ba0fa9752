-- What the orders of a pool say of its frames.
use Rattle.std.proofs.Common.{◌≡◌, ◌<◌, ◌≤◌, ◌==◌, ℕ, Bool, true, false, cond, not, List, length, map, refl, ap, subst, ◌∙◌, arith, Option, Some, None, IfSome, is_some, sym, unwrap_or}
use Rattle.std.proofs.lemmas.Bool.{and_parts, false≢true}
use Rattle.std.proofs.lemmas.List.{length-map, get_or-map}
use Rattle.clone_pool.specs.declared.frame.Frame.{Frame}
use Rattle.clone_pool.specs.declared.frame.PageName.{PageName}
use Rattle.clone_pool.specs.declared.orders.Orders.{Orders}
use Rattle.clone_pool.specs.declared.tournament.Rank.{Rank}
use Rattle.clone_pool.specs.declared.tournament.TheConstants.{NO_NUMBER}
use Rattle.clone_pool.specs.Frames.{name_of, HoldsPage, no_frame, frame_at, may_go, is_dirty, is_waiting, is_begun}
use Rattle.clone_pool.specs.Orders.{use_rank, age_rank, no_name}
use Rattle.clone_pool.specs.Pool.{Frames, IsKept, IsVictim, AreKept, AreClean, IsOldest, AreNotWaiting, IsNextToFlush}
use Rattle.clone_pool.specs.Tournament.{IsFirst, HasNoRank, rank_at, no_rank, is_before}
use Rattle.clone_pool.specs.Row.{IsFirstWaiting, TakesPart}
use Rattle.clone_pool.proofs.RankLemmas.{number_le}
use Rattle.clone_pool.proofs.RowLemmas.{part_within}

-- the rank of a frame
rank_is : (rank : Frame → Rank) (frames : List Frame) (ranks : List Rank) (at : ℕ) → ranks ≡ map rank frames → at < length frames → rank_at ranks at ≡ rank (frame_at frames at)
rank_is rank frames ranks at is low = ap (λ (rs : List Rank). rank_at rs at) is ∙ get_or-map rank frames at no_frame no_rank low

as_many : (rank : Frame → Rank) (frames : List Frame) (ranks : List Rank) → ranks ≡ map rank frames → length ranks ≡ length frames
as_many rank frames ranks is = ap length is ∙ length-map frames rank

-- a rank of a frame that takes part only where a test passes
passed : (test : Bool) (r : Rank) → (cond test r no_rank).number < NO_NUMBER → test ≡ true
passed true r low = refl
passed false r low = absurd (omega arith)

failed_test : (test : Bool) (r : Rank) → (test ≡ true → r.number < NO_NUMBER) → NO_NUMBER ≤ (cond test r no_rank).number → test ≡ false
failed_test true r low le = let small = low refl in absurd (omega arith)
failed_test false r low le = refl

dated : (o : Option ℕ) → is_some o ≡ true → unwrap_or o 0 < NO_NUMBER → unwrap_or o NO_NUMBER < NO_NUMBER
dated None is low = absurd (false≢true is)
dated (Some x) is low = low

undated : (o : Option ℕ) → unwrap_or o 0 < NO_NUMBER → NO_NUMBER ≤ unwrap_or o NO_NUMBER → is_some o ≡ false
undated None low le = refl
undated (Some x) low le = absurd (omega arith)

later : (o : Option ℕ) (lsn : ℕ) → lsn ≤ unwrap_or o NO_NUMBER → lsn ≤ unwrap_or o lsn
later None lsn le = omega arith
later (Some x) lsn le = le

module _ (v : Frames) (orders : Orders) (k : IsKept v orders) where
  abbrev f_at : ℕ → Frame
  f_at at = frame_at v.frames at

  going_is : orders.going ≡ map use_rank v.frames
  going_is = ap (λ (o : Orders). o.going) k.orders_is

  dirty_is : orders.dirty ≡ map age_rank v.frames
  dirty_is = ap (λ (o : Orders). o.dirty) k.orders_is

  pub dirty_long : length orders.dirty ≡ length v.frames
  dirty_long = as_many age_rank v.frames orders.dirty dirty_is

  pub none_may_go : HasNoRank orders.going → AreKept v.frames
  none_may_go none at low =
      let is = rank_is use_rank v.frames orders.going at going_is low in
      failed_test (may_go (f_at at)) (record { number = (f_at at).last_use; name = no_name }) (λ may. omega (arith, (k.pool.frame at).use_is, k.pool.uses))
      (subst (λ (r : Rank). NO_NUMBER ≤ r.number) is (none at (omega (arith, low, as_many use_rank v.frames orders.going going_is))))

  pub is_victim : (at : ℕ) → IsFirst orders.going at → IsVictim v.frames at
  is_victim at l = record {
    within = low;
    free = free;
    least = λ other there may.
        let first = number_le (rank_at orders.going at) (rank_at orders.going other) (l.first other (omega (arith, there, long))) in
        let other_is : (rank_at orders.going other).number ≡ (f_at other).last_use = ap (λ (r : Rank). r.number) (rank_is use_rank v.frames orders.going other going_is there) ∙ ap (λ (b : Bool). (cond b (record { number = (f_at other).last_use; name = no_name }) no_rank).number) may in
        let this_is : (rank_at orders.going at).number ≡ (f_at at).last_use = ap (λ (r : Rank). r.number) is ∙ ap (λ (b : Bool). (cond b (record { number = (f_at at).last_use; name = no_name }) no_rank).number) free in
        omega (arith, first, other_is, this_is);
  }
    where
      long : length orders.going ≡ length v.frames
      long = as_many use_rank v.frames orders.going going_is

      low : at < length v.frames
      low = omega (arith, l.within, long)

      is : rank_at orders.going at ≡ use_rank (f_at at)
      is = rank_is use_rank v.frames orders.going at going_is low

      free : may_go (f_at at) ≡ true
      free = passed (may_go (f_at at)) (record { number = (f_at at).last_use; name = no_name }) (subst (λ (r : Rank). r.number < NO_NUMBER) is l.part)

  pub none_dirty : HasNoRank orders.dirty → AreClean v.frames
  none_dirty none at low =
      undated (f_at at).oldest (k.pool.frame at).oldest_is
      (subst (λ (r : Rank). NO_NUMBER ≤ r.number) (rank_is age_rank v.frames orders.dirty at dirty_is low) (none at (omega (arith, low, as_many age_rank v.frames orders.dirty dirty_is))))

  pub dirty_within : (at : ℕ) → IsFirst orders.dirty at → at < length v.frames
  dirty_within at l = omega (arith, l.within, as_many age_rank v.frames orders.dirty dirty_is)

  pub is_oldest : (at : ℕ) → IsFirst orders.dirty at → (o : Option ℕ) → (f_at at).oldest ≡ o → IfSome o (IsOldest v.frames)
  is_oldest at l None is = tt
  is_oldest at l (Some lsn) is = record {
    at = at;
    within = dirty_within at l;
    dirty = is;
    least = λ other there.
        let first = number_le (rank_at orders.dirty at) (rank_at orders.dirty other) (l.first other (omega (arith, there, as_many age_rank v.frames orders.dirty dirty_is))) in
        let other_is : (rank_at orders.dirty other).number ≡ unwrap_or (f_at other).oldest NO_NUMBER = ap (λ (r : Rank). r.number) (rank_is age_rank v.frames orders.dirty other dirty_is there) in
        let this_is : (rank_at orders.dirty at).number ≡ lsn = ap (λ (r : Rank). r.number) (rank_is age_rank v.frames orders.dirty at dirty_is (dirty_within at l)) ∙ ap (λ (o : Option ℕ). unwrap_or o NO_NUMBER) is in
        later (f_at other).oldest lsn (omega (arith, first, other_is, this_is));
  }

  -- a page that waits has a date
  waits_dated : (at : ℕ) → is_waiting (f_at at) ≡ true → (age_rank (f_at at)).number < NO_NUMBER
  waits_dated at waits = dated (f_at at).oldest (and_parts (is_dirty (f_at at)) (not (is_begun (f_at at).flush)) waits).0 (k.pool.frame at).oldest_is

  -- and a frame that waits holds a page
  pub waits_holds : (at : ℕ) → is_waiting (f_at at) ≡ true → HoldsPage (f_at at)
  waits_holds at waits = by (name_of (f_at at)) refl
    where
      dirty : is_dirty (f_at at) ≡ true
      dirty = (and_parts (is_dirty (f_at at)) (not (is_begun (f_at at).flush)) waits).0

      by : (o : Option PageName) → name_of (f_at at) ≡ o → is_some o ≡ true
      by (Some name) e = refl
      by None e =
          let clean : not (is_dirty (f_at at)) ≡ true = (and_parts ((f_at at).pins == 0) (not (is_dirty (f_at at))) ((k.pool.frame at).unused e).0).1 in
          absurd (false≢true (sym (ap not dirty) ∙ clean))

  -- so does its place among the dirty ones
  waits_there : (at : ℕ) → at < length v.frames → is_waiting (f_at at) ≡ true → TakesPart orders.dirty at
  waits_there at low waits = subst (λ (r : Rank). r.number < NO_NUMBER) (sym (rank_is age_rank v.frames orders.dirty at dirty_is low)) (waits_dated at waits)

  pub none_waiting : ((at : ℕ) → TakesPart orders.dirty at → is_waiting (f_at at) ≡ false) → AreNotWaiting v.frames
  none_waiting none at low = by (is_waiting (f_at at)) refl
    where
      by : (b : Bool) → is_waiting (f_at at) ≡ b → is_waiting (f_at at) ≡ false
      by false e = e
      by true e = none at (waits_there at low e)

  pub is_next : (at : ℕ) → IsFirstWaiting orders.dirty v.frames at → IsNextToFlush v.frames at
  is_next at l = record { within = low; waits = l.waits; first = λ other there waits. subst (λ (r : Rank). is_before r (age_rank (f_at at)) ≡ false) (age other there) (subst (λ (r : Rank). is_before (rank_at orders.dirty other) r ≡ false) (age at low) (l.first other (waits_there other there waits) waits)) }
    where
      low : at < length v.frames
      low = let there = part_within orders.dirty at l.part in omega (arith, there, dirty_long)

      age : (b : ℕ) → b < length v.frames → rank_at orders.dirty b ≡ age_rank (f_at b)
      age b there = rank_is age_rank v.frames orders.dirty b dirty_is there

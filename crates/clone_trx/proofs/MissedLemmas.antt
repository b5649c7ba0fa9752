-- A call that ends with a fault of the disk has missed a page, which can have a frame.
use Rattle.std.proofs.lemmas.Bool.{cases_eq, cases_lt, eqb-true}
use Rattle.std.proofs.Math.ListN.{get_or-map}
use Rattle.clone_pool.specs.declared.pool.FetchRefusal.TheVariants as fetch
use Rattle.clone_pool.specs.Pool as pool
use Rattle.clone_pool.proofs.ClaimLemmas.{none_found, holder_name, loader_name, left_holds_none, left_loading}
use Rattle.clone_pool.proofs.FrameLemmas.{going_parts}
use Rattle.clone_mtr.specs.declared.record.Record.{Record}
use Rattle.clone_trx.proofs.Common.{◌≡◌, ◌≢◌, ◌<◌, ◌≤◌, ◌-◌, ◌==◌, ◌&&◌, ◌⊎◌, inl, inr, ℕ, zero, suc, Bool, true, false, not, List, [], ◌∷◌, length, map, refl, sym, ap, subst, ◌∙◌, arith, Option, Some, None, option_map, cond, IsSome, IsOk, Result, Ok, Err, MatchOption, and_parts, cond_both, false≢true, get_or-set_same, get_or-set_other, length-set, set_past, Content, Unused, Fresh, Held, Loading, Frame, PageName, FetchRefusal, Names, is_name_of, frame_number_of, no_frame, frame_at, name_of, loading_in, loading_of, holder, loader, is_dirty, is_fresh, is_free, is_loading, may_go, left_in, emptied, unpinned, Frames, Fetches, IsVictim, HasVictim, used, with_frame, name_at, is_own_name, Buffered, Cause, DiskFault, EngineRefusal, Because, NoMemory, Course, Spot, Way, reads, walks, stops, writes, freshens, lengthens, makes, drops, ends, Goes, Writes, Misses, Walks, misses, finds, keeps, passes, returns, arrives, cause_of, chain_page, let_go, let_go_kept, page_in, held}
use Rattle.clone_trx.specs.Missed.{IsMissed, HasMissed, AsksForPages}

-- WHERE NO FRAME IS FOUND none has the page.
absent_name : (page : PageName) (names : Names) → frame_number_of page names ≡ None → (at : ℕ) → is_name_of page (name_at names at) ≡ true → ⊥
absent_name page [] none at is = false≢true is
absent_name page (name ∷ rest) none at is = by (λ absent k found. absent_name page rest absent k found) (is_name_of page name) refl none at is
  where
    later : (o : Option ℕ) → option_map (λ (k : ℕ). suc k) o ≡ None → o ≡ None
    later None e = refl
    later (Some k) e = absurd (cc)

    by : (frame_number_of page rest ≡ None → (k : ℕ) → is_name_of page (name_at rest k) ≡ true → ⊥) → (t : Bool) → is_name_of page name ≡ t → cond t (Some 0) (option_map (λ (k : ℕ). suc k) (frame_number_of page rest)) ≡ None → (at : ℕ) → is_name_of page (name_at (name ∷ rest) at) ≡ true → ⊥
    by behind true e none at is = absurd (cc)
    by behind false e none zero is = false≢true (sym e ∙ is)
    by behind false e none (suc at) is = behind (later (frame_number_of page rest) none) at is

nowhere : (page : PageName) (names : Names) → frame_number_of page names ≡ None → (at : ℕ) → name_at names at ≡ Some page → ⊥
nowhere page names none at is = absent_name page names none at (ap (is_name_of page) is ∙ is_own_name page)

not_held : (frames : List Frame) (page : PageName) → holder frames page ≡ None → (at : ℕ) → name_of (frame_at frames at) ≡ Some page → ⊥
not_held frames page none at is = nowhere page (map name_of frames) none at (get_or-map name_of frames at no_frame ∙ is)

no_holder : (frames : List Frame) (page : PageName) → ((at : ℕ) → name_of (frame_at frames at) ≡ Some page → ⊥) → holder frames page ≡ None
no_holder frames page none = none_found (holder frames page) (λ at found. none at (holder_name frames page at found))

has_loader : (frames : List Frame) (page : PageName) (at : ℕ) → loading_of (frame_at frames at) ≡ Some page → IsSome (loader frames page)
has_loader frames page at is = by (loader frames page) refl
  where
    by : (o : Option ℕ) → loader frames page ≡ o → IsSome o
    by None none = absurd (nowhere page (map loading_of frames) none at (get_or-map loading_of frames at no_frame ∙ is))
    by (Some own) some = refl

no_name : (page : PageName) → None ≡ Some page → ⊥
no_name page is = cc

-- A PAGE THAT IS MISSED.
module _ (page : PageName) (old new : Frames) (none : holder old.frames page ≡ None) (at : ℕ) (for : pool.IsFrameFor page old.frames at) (e : pool.Empties page at old new) where
  abbrev f : Frame
  f = frame_at old.frames at

  here : frame_at new.frames at ≡ emptied e.bytes f
  here = ap (λ (fs : List Frame). frame_at fs at) e.frames ∙ get_or-set_same old.frames at (emptied e.bytes f) no_frame for.within

  other : (k : ℕ) → k ≢ at → frame_at new.frames k ≡ frame_at old.frames k
  other k apart = ap (λ (fs : List Frame). frame_at fs k) e.frames ∙ get_or-set_other old.frames at k (emptied e.bytes f) no_frame apart

  nobody : (k : ℕ) → name_of (frame_at new.frames k) ≡ Some page → ⊥
  nobody k name = by (cases_eq k at)
    where
      by : (k ≡ at) ⊎ (k ≢ at) → ⊥
      by (inl same) = no_name page (sym (left_holds_none f.content) ∙ ap name_of (sym here) ∙ ap (λ (x : ℕ). name_of (frame_at new.frames x)) (sym same) ∙ name)
      by (inr apart) = not_held old.frames page none k (ap name_of (sym (other k apart)) ∙ name)

  left_going : (c : Content) → is_loading c ≡ false → is_loading (left_in c) ≡ false
  left_going Unused is = refl
  left_going (Fresh name) is = refl
  left_going (Held name) is = refl
  left_going (Loading name) is = is

  can_have : IsSome (loader new.frames page) ⊎ HasVictim new.frames
  can_have = by (loader old.frames page) refl for.which
    where
      by : (o : Option ℕ) → loader old.frames page ≡ o → MatchOption o (IsVictim old.frames at) (λ own. at ≡ own) → IsSome (loader new.frames page) ⊎ HasVictim new.frames
      by None is victim =
          let loose = left_going f.content (going_parts f victim.free).1 in
          let goes : may_go (emptied e.bytes f) ≡ true = λ i. is_free_is i && not (loose i) in
          inr (at, omega (arith, for.within, ap length e.frames, length-set old.frames at (emptied e.bytes f)), ap may_go here ∙ goes)
        where
          is_free_is : is_free f ≡ true
          is_free_is = for.free
      by (Some own) is same =
          let loading = loader_name old.frames page at (is ∙ ap Some (sym same)) in
          inl (has_loader new.frames page at (ap loading_of here ∙ ap loading_in (left_loading f.content page loading) ∙ loading))

  is_missed : IsMissed page new
  is_missed = record { missed = e.missed; absent = no_holder new.frames page nobody; room = can_have }

missed_by : (page : PageName) (old new : Frames) → Fetches page old new (Err fetch.DiskFault) → IsMissed page new
missed_by page old new fetched = by (holder old.frames page) refl fetched
  where
    by : (o : Option ℕ) → holder old.frames page ≡ o → MatchOption o (pool.Misses page old new (Err fetch.DiskFault)) (λ at. (◌≡◌ {A = Result ℕ FetchRefusal} (Err fetch.DiskFault) (Ok at)) × (new ≡ used at old)) → IsMissed page new
    by None none m = is_missed page old new none m.0 m.1.0 m.1.1
    by (Some at) some m = absurd (let e = m.0 in cc)

-- ONE PIN LESS changes nothing of that.
record Stays (page : PageName) (f g : Frame) : Type 0 where
  name : name_of g ≡ Some page → name_of f ≡ Some page
  loading : loading_of f ≡ Some page → loading_of g ≡ Some page
  goes : may_go f ≡ true → may_go g ≡ true

unpinned_stays : (page : PageName) (f : Frame) → Stays page f (unpinned f)
unpinned_stays page f = cond_both (is_fresh f.content && (f.pins == 1)) (record f { content = Unused; pins = 0; last_use = 0 }) (record f { pins = f.pins - 1 }) (Stays page f) last fewer
  where
    pinless : may_go f ≡ true → f.pins ≡ 0
    pinless may = eqb-true f.pins 0 (and_parts (f.pins == 0) (not (is_dirty f)) (going_parts f may).0).0

    fresh_loads : (c : Content) → is_fresh c ≡ true → loading_in c ≡ Some page → ⊥
    fresh_loads Unused fresh is = false≢true fresh
    fresh_loads (Fresh name) fresh is = no_name page is
    fresh_loads (Held name) fresh is = false≢true fresh
    fresh_loads (Loading name) fresh is = false≢true fresh

    last : (is_fresh f.content && (f.pins == 1)) ≡ true → Stays page f (record f { content = Unused; pins = 0; last_use = 0 })
    last is =
        let parts = and_parts (is_fresh f.content) (f.pins == 1) is in
        record {
          name = λ name. absurd (no_name page name);
          loading = λ loading. absurd (fresh_loads f.content parts.0 loading);
          goes = λ may. let one = eqb-true f.pins 1 parts.1 in let none = pinless may in absurd (omega (arith, one, none));
        }

    fewer : (is_fresh f.content && (f.pins == 1)) ≡ false → Stays page f (record f { pins = f.pins - 1 })
    fewer is = record {
      name = λ name. name;
      loading = λ loading. loading;
      goes = λ may. let same : f.pins - 1 ≡ f.pins = omega (arith, pinless may) in ap (λ (n : ℕ). may_go (record f { pins = n })) same ∙ may;
    }

module _ (page : PageName) (at : ℕ) (v : Frames) (m : IsMissed page v) where
  abbrev less : Frames
  less = with_frame at unpinned v

  each : (k : ℕ) → Stays page (frame_at v.frames k) (frame_at less.frames k)
  each k = by (cases_eq k at) (cases_lt at (length v.frames))
    where
      f : Frame
      f = frame_at v.frames at

      same : (x : Frame) → Stays page x x
      same x = record { name = λ is. is; loading = λ is. is; goes = λ is. is }

      by : (k ≡ at) ⊎ (k ≢ at) → (at < length v.frames) ⊎ (length v.frames ≤ at) → Stays page (frame_at v.frames k) (frame_at less.frames k)
      by (inr apart) either = subst (Stays page (frame_at v.frames k)) (sym (get_or-set_other v.frames at k (unpinned f) no_frame apart)) (same (frame_at v.frames k))
      by (inl is) (inl low) = subst (λ (x : ℕ). Stays page (frame_at v.frames x) (frame_at less.frames x)) (sym is) (subst (Stays page f) (sym (get_or-set_same v.frames at (unpinned f) no_frame low)) (unpinned_stays page f))
      by (inl is) (inr past) = subst (λ (fs : List Frame). Stays page (frame_at v.frames k) (frame_at fs k)) (sym (set_past v.frames at (unpinned f) past)) (same (frame_at v.frames k))

  still_missed : IsMissed page less
  still_missed = record { missed = m.missed; absent = no_holder less.frames page (λ k name. not_held v.frames page m.absent k ((each k).name name)); room = by m.room }
    where
      loads : (o : Option ℕ) → loader v.frames page ≡ o → IsSome o → IsSome (loader less.frames page)
      loads None is some = absurd (false≢true some)
      loads (Some own) is some = has_loader less.frames page own ((each own).loading (loader_name v.frames page own is))

      by : IsSome (loader v.frames page) ⊎ HasVictim v.frames → IsSome (loader less.frames page) ⊎ HasVictim less.frames
      by (inl some) = inl (loads (loader v.frames page) refl some)
      by (inr room) = inr (room.0, omega (arith, room.1, length-set v.frames at (unpinned (frame_at v.frames at))), (each room.0).goes room.2)

pub missed_let_go : (at : ℕ) (old new : Buffered) → new ≡ let_go at old → HasMissed old.pool → HasMissed new.pool
missed_let_go at old new is m = subst (λ (b : Buffered). HasMissed b.pool) (sym is) (m.0, still_missed m.0 at old.pool m.1)

missed_kept : (kept : Option Spot) (old new : Buffered) → new ≡ let_go_kept kept old → HasMissed old.pool → HasMissed new.pool
missed_kept None old new is m = subst (λ (b : Buffered). HasMissed b.pool) (sym is) m
missed_kept (Some spot) old new is m = missed_let_go spot.at old new is m

-- A CALL THAT ENDS WITH A FAULT
one_cause : {X : Type 0} (result : Result X EngineRefusal) (a b : Cause) → result ≡ Err (Because a) → result ≡ Err (Because b) → a ≡ b
one_cause result a b x y = cc

is_fault : (refusal : FetchRefusal) → cause_of refusal ≡ DiskFault → refusal ≡ fetch.DiskFault
is_fault (fetch.PoolFull frames) is = absurd (cc)
is_fault fetch.DiskFault is = refl

missed_cause : (page : PageName) (cause : Cause) (old new : Buffered) → Misses page cause old new → cause ≡ DiskFault → HasMissed new.pool
missed_cause page cause old new m is =
    let fault = is_fault m.refusal (sym m.is ∙ is) in
    (page, missed_by page old.pool new.pool (subst (λ (r : FetchRefusal). Fetches page old.pool new.pool (Err r)) fault m.fetched))

missed_walk : (course : Course) (left page : ℕ) (kept : Option Spot) (old new : Buffered) (result : Result Spot EngineRefusal) → Walks course left page kept old new result → result ≡ Err (Because DiskFault) → HasMissed new.pool
missed_walk course l p k o n r (misses left page kept old mid new refusal m is) fault =
    let cause : m.0 ≡ DiskFault = one_cause {X = Spot} (Err refusal) m.0 DiskFault (ap (λ (e : EngineRefusal). Err e) m.1) fault in
    missed_kept kept mid new is (missed_cause (chain_page course page) m.0 old mid m.2 cause)
missed_walk course l p k o n r (finds left page at slot kept old mid new h found is) fault = absurd (cc)
missed_walk course l p k o n r (keeps left page at slot next old mid new result x room on rest) fault = missed_walk course (left - 1) next _ mid new result rest fault
missed_walk course l p k o n r (passes left page at next kept old mid passed new result x room on is rest) fault = missed_walk course (left - 1) next kept passed new result rest fault
missed_walk course l p k o n r (returns left page at spot old mid new x on is) fault = absurd (cc)
missed_walk course l p k o n r (arrives left page at slot old new x room on) fault = absurd (cc)

no_fault : {X : Type 0} (records : List Record) (old new : Buffered) (result : Result X EngineRefusal) → Writes records old new result → result ≡ Err (Because DiskFault) → ⊥
no_fault records old new (Ok x) w fault = cc
no_fault records old new (Err (Because cause)) w fault = let is = w.0.is in cc
no_fault records old new (Err NoMemory) w fault = cc

-- its page is the one that was missed last, and can have a frame
pub missed_goes : {X : Type 0} (way : Way) → AsksForPages way → (old new : Buffered) (result : Result X EngineRefusal) → Goes way old new result → result ≡ Err (Because DiskFault) → HasMissed new.pool
missed_goes (reads page rest) asks old new result (inl m) fault = missed_cause page m.0 old new m.2 (one_cause result m.0 DiskFault m.1 fault)
missed_goes (reads page rest) asks old new result (inr x) fault = missed_let_go x.0 x.2 new x.5 (missed_goes (rest (page_in x.0 x.1)) (asks (page_in x.0 x.1)) (held x.0 x.1) x.2 result x.4 fault)
missed_goes (walks course rest) asks old new result (inl m) fault = missed_walk course _ course.first None old new _ m.2 (ap (λ (c : Cause). Err (Because c)) (one_cause result m.0 DiskFault m.1 fault))
missed_goes (walks course rest) asks old new result (inr x) fault =
    let page = page_in x.0.at x.1 in
    missed_let_go x.0.at x.2 new x.5 (missed_goes (rest x.0.page x.0.slot page) (asks x.0.page x.0.slot page) x.1 x.2 result x.4 fault)
missed_goes (freshens page rest) asks old new result (inl m) fault = absurd (let cause = one_cause result m.0 DiskFault m.1 fault in let is = m.2.is in cc)
missed_goes (freshens page rest) asks old new result (inr x) fault = missed_let_go x.0 x.2 new x.5 (missed_goes rest asks x.1 x.2 result x.4 fault)
missed_goes (lengthens records rest) asks old new result (inl m) fault = absurd (let cause = one_cause result m.0 DiskFault m.1 fault in let is = m.2.is in cc)
missed_goes (lengthens records rest) asks old new result (inr x) fault = missed_goes rest asks _ new result x.1 fault
missed_goes (stops cause) asks old new result x fault = absurd (asks (one_cause result cause DiskFault x.0 fault))
missed_goes (writes records) asks old new result x fault = absurd (no_fault records old new result x fault)
missed_goes (makes records) asks old new result x fault = absurd asks
missed_goes (drops space pages records) asks old new result x fault = absurd asks
missed_goes ends asks old new result x fault = absurd (false≢true (subst IsOk fault x.0))

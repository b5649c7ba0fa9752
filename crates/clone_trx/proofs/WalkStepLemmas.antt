-- One page of a walk: what was found on it, and how the walk goes on.
use Rattle.std.proofs.lemmas.Bool.{cases_eq}
use Rattle.std.specs.List.{AllByRecursion}
use Rattle.clone_trx.specs.declared.walk.Step.TheVariants.{Ends, GoesOn}
use Rattle.std.specs.List.{IsDistinct}
use Rattle.clone_trx.proofs.Common.{◌≡◌, ◌≢◌, ◌<◌, ◌≤◌, ◌+◌, ◌&&◌, ◌==◌, ◌⊎◌, inl, inr, ℕ, Bool, true, false, List, [], ◌∷◌, sym, ap, subst, ◌∙◌, arith, Option, Some, None, IsTrue, IfSome, IsErrAnd, Result, Ok, Err, is_some, false≢true, IsChain, replayed, next_on, Frame, PageName, frame_at, Buffered, image_of, EngineRefusal, Course, Spot, same_Some, none-some, slots, Finds, Record, Contents, contents_of, HasPage, Has, HasChain, Follows, IsKeptHeld, MayGoOn, FindsRoom, FindsWanted, Holds, Lacks, finds, keeps, passes, returns, arrives, chain_page, let_go, let_go_kept, onward, page_in}
use Rattle.clone_trx.proofs.FramePinLemmas.{pins}
use Rattle.clone_trx.proofs.HeldPageLemmas.{pin_at, pin_here, pin_apart, held_log, held_right, held_pins, released_pins}
use Rattle.clone_trx.proofs.WalkLemmas.{onward_is, kept_pins, pin_of}

-- each page that is held stays so while its frame is pinned
abbrev pub StayHeld : Buffered → Buffered → Type 0
StayHeld old new = (page : PageName) (other : ℕ) → Has page other old.pool.frames → 0 < (frame_at new.pool.frames other).pins → Has page other new.pool.frames

-- a refusal that was handed on
pub on_err : {Y : Type 0} (P : Result Y EngineRefusal → Type 0) (result : Result Y EngineRefusal) (e : EngineRefusal) → IsErrAnd result (λ y. y ≡ e) → P (Err e) → P result
on_err P (Ok y) e is has = absurd is
on_err P (Err refusal) e is has = subst (λ (r : EngineRefusal). P (Err r)) (sym is) has

pub same_err : {X Y : Type 0} {e r : EngineRefusal} → ◌≡◌ {A = Result X EngineRefusal} (Err e) (Err r) → ◌≡◌ {A = Result Y EngineRefusal} (Err e) (Err r)
same_err {X} {Y} {e} {r} is = let same : e ≡ r = cc in ap (λ (x : EngineRefusal). Err x) same

-- what was kept is pinned
pub kept_pinned : (course : Course) (kept : Option Spot) (frames : List Frame) → IsKeptHeld course kept frames → IfSome kept (λ spot. 0 < (frame_at frames spot.at).pins)
kept_pinned course None frames held = tt
kept_pinned course (Some spot) frames held = held.pinned

-- no second page is kept
pub room_kept : (course : Course) (spot : Spot) (page : List ℕ) (found : Option ℕ) → FindsRoom course (Some spot) page found → found ≡ None
room_kept course spot page found room = at course.for_room room
  where
    at : (b : Bool) → FindsWanted (b && false) page found → found ≡ None
    at true none = none
    at false none = none

-- one pin is one
pub pin_low : (at other : ℕ) → pin_at at other ≤ 1
pin_low at other = by (cases_eq other at)
  where
    by : (other ≡ at) ⊎ (other ≢ at) → pin_at at other ≤ 1
    by (inl is) = omega (arith, ap (pin_at at) is, pin_here at)
    by (inr apart) = omega (arith, pin_apart at other apart)

-- a frame that is pinned has that pin
pin_had : (frames : List Frame) (at other : ℕ) → 0 < pins frames at → pin_at at other ≤ pins frames other
pin_had frames at other some = by (cases_eq other at)
  where
    by : (other ≡ at) ⊎ (other ≢ at) → pin_at at other ≤ pins frames other
    by (inl is) = omega (arith, some, ap (pin_at at) is, pin_here at, ap (pins frames) is)
    by (inr apart) = omega (arith, pin_apart at other apart)

pub kept_had : (course : Course) (kept : Option Spot) (frames : List Frame) → IsKeptHeld course kept frames → (other : ℕ) → pin_of kept other ≤ pins frames other
kept_had course None frames held other = omega arith
kept_had course (Some spot) frames held other = pin_had frames spot.at other held.pinned

-- the chain behind its first page
next_chain : (c : Contents) (t page next : ℕ) → HasChain c t page → c.next t page ≡ Some next → HasChain c t next
unfolding IsDistinct
next_chain c t page next chain is = at chain.behind chain.chain chain.there chain.once
  where
    at : (pages : List ℕ) → IsChain (c.next t) page pages → AllByRecursion (HasPage c t) (page ∷ pages) → IsDistinct (λ (p q : ℕ). p == q) (page ∷ pages) → HasChain c t next
    at [] none there once = absurd (none-some next (sym none ∙ is))
    at (q ∷ rest) linked there once = subst (HasChain c t) (same_Some q next (sym linked.0 ∙ is)) (record { behind = rest; chain = linked.1; there = there.1; once = once.1 })

module _ (course : Course) (left page at : ℕ) (kept : Option Spot) (first mid : Buffered) (used : 1 ≤ course.table) (may : MayGoOn course page kept first) (h : Holds (chain_page course page) at first mid) (has : Has (chain_page course page) at mid.pool.frames) (held : IsKeptHeld course kept mid.pool.frames) where
  abbrev bytes : List ℕ
  bytes = page_in at mid

  more : (other : ℕ) → pins mid.pool.frames other ≡ pins first.pool.frames other + pin_at at other
  more = held_pins (chain_page course page) at first mid h

  chain_on : (next : ℕ) → onward left bytes ≡ Some next → IsTrue mid.right → HasChain (contents_of (image_of mid)) course.table next
  chain_on next on right =
      let both = held_right (chain_page course page) at first mid h right in
      let is = next_on (image_of first) course.table page bytes (λ zero. omega (arith, zero, used)) both.1 ∙ (onward_is left next bytes on).0 in
      subst (λ (log : List (List Record)). HasChain (contents_of (replayed log)) course.table next) (sym (held_log (chain_page course page) at first mid h)) (next_chain (contents_of (image_of first)) course.table page next (may.chain both.0) is)

  pub found_here : (new : Buffered) (slot : ℕ) → StayHeld mid new → Finds course.key (slots bytes) (Some slot) → new ≡ let_go_kept kept mid → Follows course left page kept first new (Ends (record { page = page; at = at; slot = Some slot }))
  found_here new slot stay found is =
      let less = kept_pins kept mid new is (kept_had course kept mid.pool.frames held) at in
      (finds left page at slot kept first mid new h found is, stay (chain_page course page) at has (omega (arith, less, more at, pin_here at, kept_had course kept first.pool.frames may.held at)))

  module _ (lacks : Finds course.key (slots bytes) None) where
    x : Lacks course page at first mid
    x = record { holds = h; lacks = lacks }

    pub passes_here : (next : ℕ) (new : Buffered) → StayHeld mid new → FindsRoom course kept bytes None → onward left bytes ≡ Some next → new ≡ let_go at mid → Follows course left page kept first new (GoesOn next kept)
    passes_here next new stay room on is = (
      (onward_is left next bytes on).1,
      record { pins = λ other. omega (arith, same other, may.pins other); held = kept_still kept may.held held; chain = λ right. subst (λ (b : Buffered). HasChain (contents_of (image_of b)) course.table next) (sym is) (chain_on next on (subst (λ (b : Buffered). IsTrue b.right) is right)) },
      λ last result walked. passes left page at next kept first mid new last result x room on is walked,
    )
      where
        same : (other : ℕ) → pins new.pool.frames other ≡ pins first.pool.frames other
        same other = omega (arith, more other, released_pins at mid new is has.pinned other)

        kept_still : (k : Option Spot) → IsKeptHeld course k first.pool.frames → IsKeptHeld course k mid.pool.frames → IsKeptHeld course k new.pool.frames
        kept_still None was now = tt
        kept_still (Some spot) was now = stay (chain_page course spot.page) spot.at now (omega (arith, was.pinned, same spot.at))

-- the page is kept
pub keeps_here : (course : Course) (left page at : ℕ) (kept : Option Spot) (first mid : Buffered) → 1 ≤ course.table → MayGoOn course page kept first → Holds (chain_page course page) at first mid → Has (chain_page course page) at mid.pool.frames → Finds course.key (slots (page_in at mid)) None → (next : ℕ) (slot : Option ℕ)
    → FindsRoom course kept (page_in at mid) slot → is_some slot ≡ true → onward left (page_in at mid) ≡ Some next → Follows course left page kept first mid (GoesOn next (Some (record { page = page; at = at; slot = slot })))
keeps_here course left page at kept first mid used may h has lacks next None room some on = absurd (false≢true some)
keeps_here course left page at (Some spot) first mid used may h has lacks next (Some slot_number) room some on = absurd (none-some slot_number (sym (room_kept course spot (page_in at mid) (Some slot_number) room)))
keeps_here course left page at None first mid used may h has lacks next (Some slot_number) room some on = (
  (onward_is left next (page_in at mid) on).1,
  record { pins = λ other. omega (arith, held_pins (chain_page course page) at first mid h other, may.pins other, pin_low at other); held = has; chain = chain_on course left page at None first mid used may h has tt next on },
  λ last result walked. keeps left page at slot_number next first mid last result (record { holds = h; lacks = lacks }) room on walked,
)

-- The chain ends.

-- one page was kept
pub returns_here : (course : Course) (left page at : ℕ) (kept : Option Spot) (spot : Spot) (first mid new : Buffered) → kept ≡ Some spot → MayGoOn course page kept first → Holds (chain_page course page) at first mid → Has (chain_page course page) at mid.pool.frames → IsKeptHeld course kept mid.pool.frames → StayHeld mid new
    → Finds course.key (slots (page_in at mid)) None → onward left (page_in at mid) ≡ None → new ≡ let_go at mid → Follows course left page kept first new (Ends spot)
returns_here course left page at None spot first mid new some may h has held stay lacks on is = absurd (none-some spot some)
returns_here course left page at (Some one) spot first mid new some may h has held stay lacks on is =
    let less = released_pins at mid new is has.pinned one.at in
    subst (λ (s : Spot). Follows course left page (Some one) first new (Ends s)) (same_Some one spot some)
    (returns left page at one first mid new (record { holds = h; lacks = lacks }) on is, stay (chain_page course one.page) one.at held (omega (arith, less, held_pins (chain_page course page) at first mid h one.at, may.held.pinned)))

-- none was
pub ends_here : (course : Course) (left page at : ℕ) (kept : Option Spot) (first mid : Buffered) → kept ≡ None → Holds (chain_page course page) at first mid → Has (chain_page course page) at mid.pool.frames → Finds course.key (slots (page_in at mid)) None → (slot : Option ℕ) → FindsRoom course kept (page_in at mid) slot → onward left (page_in at mid) ≡ None
    → Follows course left page kept first mid (Ends (record { page = page; at = at; slot = slot }))
ends_here course left page at (Some one) first mid none h has lacks slot room on = absurd (none-some one (sym none))
ends_here course left page at None first mid none h has lacks slot room on = (arrives left page at slot first mid (record { holds = h; lacks = lacks }) room on, has)

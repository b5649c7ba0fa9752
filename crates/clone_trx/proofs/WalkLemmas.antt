-- What a walk leaves: the log, and the pins but for that of the page that it came to.
use Rattle.clone_trx.proofs.Common.{◌≡◌, ◌<◌, ◌≤◌, ◌+◌, ◌-◌, ◌&&◌, ℕ, Bool, true, false, List, refl, sym, ap, subst, ◌∙◌, arith, Option, Some, None, IsTrue, IfSome, IfOk, Result, Ok, Err, is_some, not, if◌then◌else◌, nat_lt, option_and_then, and_parts, and_from, ltb-true, lt-ltb, cond-true, MOST_PAGES, row_slot_count, behind, PageName, Buffered, EngineRefusal, Course, Spot, same_Some, none-some, slots, FindsFree, IsInRange, FindsRoom, FindsWanted, Holds, MissesBy, Walks, misses, finds, keeps, passes, returns, arrives, chain_page, let_go, let_go_kept, onward, page_in}
use Rattle.clone_trx.proofs.HeldPageLemmas.{pin_at, pin_here, held_log, held_pins, released_pins}
use Rattle.clone_trx.proofs.FramePinLemmas.{pins, fetch_pins}

-- A page that a walk goes on to.

-- it is the one behind
pub onward_is : (left next : ℕ) (page : List ℕ) → onward left page ≡ Some next → (behind page ≡ Some next) × (0 < left) × (next < MOST_PAGES)
onward_is left next page is = at (behind page) refl is
  where
    may : ℕ → Bool
    may n = nat_lt 0 left && nat_lt n MOST_PAGES

    one : (n : ℕ) (b : Bool) → may n ≡ b → (if b then Some n else None) ≡ Some next → (n ≡ next) × (0 < left) × (next < MOST_PAGES)
    one n true may_on same =
        let parts = and_parts (nat_lt 0 left) (nat_lt n MOST_PAGES) may_on in
        let n_is : n ≡ next = same_Some n next same in
        (n_is, ltb-true 0 left parts.0, subst (λ (m : ℕ). m < MOST_PAGES) n_is (ltb-true n MOST_PAGES parts.1))
    one n false other same = absurd (none-some next same)

    at : (o : Option ℕ) → behind page ≡ o → option_and_then (λ n. if may n then Some n else None) o ≡ Some next → (behind page ≡ Some next) × (0 < left) × (next < MOST_PAGES)
    at None none same = absurd (none-some next same)
    at (Some n) some same = let both = one n (may n) refl same in (some ∙ ap (λ (m : ℕ). Some m) both.0, both.1, both.2)

-- where there is none, the chain is at its end, or no more pages may be walked
pub onward_none : (left next : ℕ) (page : List ℕ) → onward left page ≡ None → behind page ≡ Some next → 0 < left → next < MOST_PAGES → ⊥
onward_none left next page none is some low =
    let both = and_from (nat_lt 0 left) (nat_lt next MOST_PAGES) (lt-ltb 0 left some) (lt-ltb next MOST_PAGES low) in
    let on : onward left page ≡ Some next =
    ap (λ (o : Option ℕ). option_and_then (λ n. if nat_lt 0 left && nat_lt n MOST_PAGES then Some n else None) o) is ∙ cond-true (nat_lt 0 left && nat_lt next MOST_PAGES) (Some next) None both in
    none-some next (sym none ∙ on)

-- the slot that a walk takes for a key was never used
pub room_free : (course : Course) (kept : Option Spot) (page : List ℕ) (found : Option ℕ) (slot_number : ℕ) → FindsRoom course kept page found → found ≡ Some slot_number → FindsFree (slots page) (Some slot_number)
room_free course kept page found slot_number room is = at (course.for_room && not (is_some kept)) room
  where
    at : (b : Bool) → FindsWanted b page found → FindsFree (slots page) (Some slot_number)
    at true free = subst (FindsFree (slots page)) is free
    at false none = absurd (none-some slot_number (sym none ∙ is))

-- the log and the ring stay, and nothing that was wrong is right
pub record Stays (old new : Buffered) : Type 0 where
  pub log : new.log ≡ old.log
  pub ring : new.ring ≡ old.ring
  pub before : IsTrue new.right → IsTrue old.right

and_then : {a b c : Buffered} → Stays a b → Stays b c → Stays a c
and_then one two = record { log = two.log ∙ one.log; ring = two.ring ∙ one.ring; before = λ right. one.before (two.before right) }

pub held_stays : (page : PageName) (at : ℕ) (old new : Buffered) → Holds page at old new → Stays old new
held_stays page at old new h = record {
  log = held_log page at old new h;
  ring = ap (λ (b : Buffered). b.ring) h.is ∙ h.brings.ring;
  before = λ right. (h.brings.right.0 (subst (λ (b : Buffered). IsTrue b.right) h.is right)).0;
}

pub released_stays : (at : ℕ) (old new : Buffered) → new ≡ let_go at old → Stays old new
released_stays at old new is = record { log = ap (λ (b : Buffered). b.log) is; ring = ap (λ (b : Buffered). b.ring) is; before = subst (λ (b : Buffered). IsTrue b.right) is }

pub kept_stays : (kept : Option Spot) (old new : Buffered) → new ≡ let_go_kept kept old → Stays old new
kept_stays None old new is = record { log = ap (λ (b : Buffered). b.log) is; ring = ap (λ (b : Buffered). b.ring) is; before = subst (λ (b : Buffered). IsTrue b.right) is }
kept_stays (Some spot) old new is = released_stays spot.at old new is

pub missed_stays : (page : PageName) (refusal : EngineRefusal) (old new : Buffered) → MissesBy page refusal old new → Stays old new
missed_stays page refusal old new m = record { log = ap (λ (b : Buffered). b.log) m.2.same; ring = ap (λ (b : Buffered). b.ring) m.2.same; before = subst (λ (b : Buffered). IsTrue b.right) m.2.same }

pub walk_stays : (course : Course) (left page : ℕ) (kept : Option Spot) (old new : Buffered) (result : Result Spot EngineRefusal) → Walks course left page kept old new result → Stays old new
walk_stays course l p k o n r (misses left page kept old mid new refusal m is) = and_then (missed_stays (chain_page course page) refusal old mid m) (kept_stays kept mid new is)
walk_stays course l p k o n r (finds left page at slot kept old mid new h found is) = and_then (held_stays (chain_page course page) at old mid h) (kept_stays kept mid new is)
walk_stays course l p k o n r (keeps left page at slot next old mid new result x room on rest) = and_then (held_stays (chain_page course page) at old mid x.holds) (walk_stays course (left - 1) next _ mid new result rest)
walk_stays course l p k o n r (passes left page at next kept old mid passed new result x room on is rest) =
    and_then (held_stays (chain_page course page) at old mid x.holds) (and_then (released_stays at mid passed is) (walk_stays course (left - 1) next kept passed new result rest))
walk_stays course l p k o n r (returns left page at spot old mid new x on is) = and_then (held_stays (chain_page course page) at old mid x.holds) (released_stays at mid new is)
walk_stays course l p k o n r (arrives left page at slot old new x room on) = held_stays (chain_page course page) at old new x.holds

-- Pins.

-- the pin of the page that stays pinned
abbrev pub pin_of : Option Spot → ℕ → ℕ
pin_of None other = 0
pin_of (Some spot) other = pin_at spot.at other

-- the spot that a walk came to
abbrev pub spot_in : Result Spot EngineRefusal → Option Spot
spot_in (Ok spot) = Some spot
spot_in (Err refusal) = None

-- a page that isn't brought
pub missed_pins : (page : PageName) (refusal : EngineRefusal) (old new : Buffered) → MissesBy page refusal old new → (other : ℕ) → pins new.pool.frames other ≡ pins old.pool.frames other
missed_pins page refusal old new m = (fetch_pins page old.pool new.pool (Err m.2.refusal) m.2.fetched).at

-- what was kept is let go
pub kept_pins : (kept : Option Spot) (old new : Buffered) → new ≡ let_go_kept kept old → ((other : ℕ) → pin_of kept other ≤ pins old.pool.frames other) → (other : ℕ) → pins new.pool.frames other + pin_of kept other ≡ pins old.pool.frames other
kept_pins None old new is had other = omega (arith, ap (λ (b : Buffered). pins b.pool.frames other) is)
kept_pins (Some spot) old new is had other = released_pins spot.at old new is (omega (arith, had spot.at, pin_here spot.at)) other

pub walk_pins : (course : Course) (left page : ℕ) (kept : Option Spot) (old new : Buffered) (result : Result Spot EngineRefusal) → Walks course left page kept old new result → (base : ℕ → ℕ) → ((other : ℕ) → pins old.pool.frames other ≡ base other + pin_of kept other)
    → (other : ℕ) → pins new.pool.frames other ≡ base other + pin_of (spot_in result) other
walk_pins course l p k o n r (misses left page kept old mid new refusal m is) base had other =
    let same = missed_pins (chain_page course page) refusal old mid m in
    omega (arith, kept_pins kept mid new is (λ x. omega (arith, same x, had x)) other, same other, had other)
walk_pins course l p k o n r (finds left page at slot kept old mid new h found is) base had other =
    let more = held_pins (chain_page course page) at old mid h in
    omega (arith, kept_pins kept mid new is (λ x. omega (arith, more x, had x)) other, more other, had other)
walk_pins course l p k o n r (keeps left page at slot next old mid new result x room on rest) base had other =
    let more = held_pins (chain_page course page) at old mid x.holds in
    walk_pins course (left - 1) next _ mid new result rest base (λ y. omega (arith, more y, had y)) other
walk_pins course l p k o n r (passes left page at next kept old mid passed new result x room on is rest) base had other =
    let more = held_pins (chain_page course page) at old mid x.holds in
    let less = released_pins at mid passed is (omega (arith, more at, pin_here at)) in
    walk_pins course (left - 1) next kept passed new result rest base (λ y. omega (arith, more y, less y, had y)) other
walk_pins course l p k o n r (returns left page at spot old mid new x on is) base had other =
    let more = held_pins (chain_page course page) at old mid x.holds in
    omega (arith, more other, released_pins at mid new is (omega (arith, more at, pin_here at)) other, had other)
walk_pins course l p k o n r (arrives left page at slot old new x room on) base had other = omega (arith, held_pins (chain_page course page) at old new x.holds other, had other)

-- a walk is refused since a page isn't brought
abbrev pub Missed : Result Spot EngineRefusal → Type 0
Missed (Ok spot) = Unit {0}
Missed (Err refusal) = (page : PageName) × (old : Buffered) × (new : Buffered) × MissesBy page refusal old new

pub walk_missed : (course : Course) (left page : ℕ) (kept : Option Spot) (old new : Buffered) (result : Result Spot EngineRefusal) → Walks course left page kept old new result → Missed result
walk_missed course l p k o n r (misses left page kept old mid new refusal m is) = (chain_page course page, old, mid, m)
walk_missed course l p k o n r (finds left page at slot kept old mid new h found is) = tt
walk_missed course l p k o n r (keeps left page at slot next old mid new result x room on rest) = walk_missed course (left - 1) next _ mid new result rest
walk_missed course l p k o n r (passes left page at next kept old mid passed new result x room on is rest) = walk_missed course (left - 1) next kept passed new result rest
walk_missed course l p k o n r (returns left page at spot old mid new x on is) = tt
walk_missed course l p k o n r (arrives left page at slot old new x room on) = tt

-- the slot that was found is one of the page
found_low : (found : Option ℕ) → ((slot_number : ℕ) → found ≡ Some slot_number → slot_number < row_slot_count) → IfSome found (λ slot_number. slot_number < row_slot_count)
found_low None low = tt
found_low (Some slot_number) low = low slot_number refl

-- the numbers of the spot that a walk comes to are in their ranges
pub walk_range : (course : Course) (left page : ℕ) (kept : Option Spot) (old new : Buffered) (result : Result Spot EngineRefusal) → Walks course left page kept old new result → page < MOST_PAGES → IfSome kept IsInRange → IfOk result IsInRange
walk_range course l p k o n r (misses left page kept old mid new refusal m is) low had = tt
walk_range course l p k o n r (finds left page at slot kept old mid new h found is) low had = (low, found.0)
walk_range course l p k o n r (keeps left page at slot next old mid new result x room on rest) low had =
    walk_range course (left - 1) next _ mid new result rest (onward_is left next (page_in at mid) on).2 (low, (room_free course None (page_in at mid) (Some slot) slot room refl).0)
walk_range course l p k o n r (passes left page at next kept old mid passed new result x room on is rest) low had = walk_range course (left - 1) next kept passed new result rest (onward_is left next (page_in at mid) on).2 had
walk_range course l p k o n r (returns left page at spot old mid new x on is) low had = had
walk_range course l p k o n r (arrives left page at slot old new x room on) low had = (low, found_low slot (λ slot_number is. (room_free course None (page_in at new) slot slot_number room is).0))

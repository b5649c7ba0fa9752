-- What is known of a page that is held, and what becomes of the pins.
use Rattle.std.proofs.lemmas.Bool.{cases_eq, eqb-true}
use Rattle.clone_trx.proofs.Common.{◌≡◌, ◌≢◌, ◌<◌, ◌+◌, ◌-◌, ◌&&◌, ◌==◌, ◌⊎◌, inl, inr, ℕ, true, List, length, set, refl, sym, ap, subst, ◌∙◌, arith, Option, Some, None, IsTrue, MatchOption, Result, Ok, not, and_parts, cond_both, cond-true, cond-false, eq-eqb, get_or-set_same, get_or-set_other, Frame, Unused, PageName, FetchRefusal, no_frame, frame_at, holder, is_dirty, is_fresh, is_free, name_of, next_use, freshened, pinned, touched, unpinned, Frames, IsPool, TakesFrame, used, with_frame, holder_is, holder_name, Buffered, image_of, page_of, Has, Holds, Takes, held, let_go, page_in}
use Rattle.clone_trx.proofs.CauseLemmas.{not_equal}
use Rattle.clone_trx.proofs.FramePinLemmas.{pins, set_pins, fetch_pins, fetch_within, let_go_pins, pinned_within}
pub use Rattle.clone_trx.specs.Holding.{pin_at}

pub pin_here : (at : ℕ) → pin_at at at ≡ 1
pin_here at = cond-true (at == at) 1 0 (eq-eqb at at refl)

pub pin_apart : (at other : ℕ) → other ≢ at → pin_at at other ≡ 0
pin_apart at other apart = cond-false (at == other) 1 0 (not_equal at other (λ same. apart (sym same)))

module _ (page : PageName) (at : ℕ) (old new : Buffered) (h : Holds page at old new) where
  low : at < length h.next.pool.frames
  low = fetch_within page old.pool h.next.pool at h.brings.fetched

  pub held_bytes : page_in at new ≡ page_in at h.next
  held_bytes = ap (λ (b : Buffered). page_in at b) h.is ∙ ap (λ (f : Frame). f.page) (get_or-set_same h.next.pool.frames at (pinned (frame_at h.next.pool.frames at)) no_frame low)

  pub held_log : new.log ≡ old.log
  held_log = ap (λ (b : Buffered). b.log) h.is ∙ h.brings.log

  pub held_right : IsTrue new.right → IsTrue old.right × (page_of (image_of old) page.space page.number ≡ Some (page_in at new))
  held_right right =
      let both = h.brings.right.0 (subst (λ (b : Buffered). IsTrue b.right) h.is right) in
      (both.0, both.1 ∙ ap (λ (p : List ℕ). Some p) (sym held_bytes))

  -- the frame has a pin more, and no other
  pub held_pins : (other : ℕ) → pins new.pool.frames other ≡ pins old.pool.frames other + pin_at at other
  held_pins other = by (cases_eq other at)
    where
      more : (n : ℕ) → pins new.pool.frames n ≡ pins (held at h.next).pool.frames n
      more n = ap (λ (b : Buffered). pins b.pool.frames n) h.is

      fetched : (n : ℕ) → pins h.next.pool.frames n ≡ pins old.pool.frames n
      fetched = (fetch_pins page old.pool h.next.pool (Ok at) h.brings.fetched).at

      here : pins (held at h.next).pool.frames at ≡ pins h.next.pool.frames at + 1
      here = ap (λ (f : Frame). f.pins) (get_or-set_same h.next.pool.frames at (pinned (frame_at h.next.pool.frames at)) no_frame low)

      by : (other ≡ at) ⊎ (other ≢ at) → pins new.pool.frames other ≡ pins old.pool.frames other + pin_at at other
      by (inl is) = subst (λ (n : ℕ). pins new.pool.frames n ≡ pins old.pool.frames n + pin_at at n) (sym is) (omega (arith, more at, here, fetched at, pin_here at))
      by (inr apart) =
          let there : pins (held at h.next).pool.frames other ≡ pins h.next.pool.frames other =
          ap (λ (f : Frame). f.pins) (get_or-set_other h.next.pool.frames at other (pinned (frame_at h.next.pool.frames at)) no_frame apart) in
          omega (arith, more other, there, fetched other, pin_apart at other apart)

-- A frame that is taken for a new page.

-- a frame that is neither pinned nor dirty has no pin
loose : (f : Frame) → is_free f ≡ true → f.pins ≡ 0
loose f free = eqb-true f.pins 0 (and_parts (f.pins == 0) (not (is_dirty f)) free).0

-- a frame that has become another one, and the others
set_to : (frames : List Frame) (at : ℕ) (f : Frame) → at < length frames → f.pins ≡ pins frames at + 1 → (other : ℕ) → (other ≡ at) ⊎ (other ≢ at) → pins (set frames at f) other ≡ pins frames other + pin_at at other
set_to frames at f low is other (inl same) =
    subst (λ (n : ℕ). pins (set frames at f) n ≡ pins frames n + pin_at at n) (sym same) (omega (arith, ap (λ (g : Frame). g.pins) (get_or-set_same frames at f no_frame low), is, pin_here at))
set_to frames at f low is other (inr apart) = omega (arith, ap (λ (g : Frame). g.pins) (get_or-set_other frames at other f no_frame apart), pin_apart at other apart)

pub taken_pins : (page : PageName) (at : ℕ) (old new : Buffered) → Takes page at old new → (other : ℕ) → pins new.pool.frames other ≡ pins old.pool.frames other + pin_at at other
taken_pins page at old new t other = by (holder old.pool.frames page) refl t.taken
  where
    v : Frames
    v = old.pool

    by : (o : Option ℕ) → holder v.frames page ≡ o → MatchOption o (TakesFrame page v new.pool (Ok at)) (λ b. (◌≡◌ {A = Result ℕ FetchRefusal} (Ok at) (Ok b)) × (new.pool ≡ used b (with_frame b pinned v))) → pins new.pool.frames other ≡ pins v.frames other + pin_at at other
    by None none m =
        let f : Frame = freshened page (next_use v.uses) (frame_at v.frames at) in
        ap (λ (w : Frames). pins w.frames other) m.1 ∙ set_to v.frames at f m.0.within (omega (arith, loose (frame_at v.frames at) m.0.free)) other (cases_eq other at)
    by (Some b) is hit =
        let here : at ≡ b = let e = hit.0 in cc in
        let low = (holder_name v.frames page b is).0 in
        let mid : Frames = with_frame b pinned v in
        let one = set_to v.frames b (pinned (frame_at v.frames b)) low refl other (cases_eq other b) in
        let two = (set_pins mid.frames b (touched (next_use mid.uses) (frame_at mid.frames b)) refl).at other in
        ap (λ (w : Frames). pins w.frames other) hit.1 ∙ two ∙ one ∙ ap (λ (n : ℕ). pins v.frames other + pin_at n other) (sym here)

-- A page that is let go.

-- the frame that is let go, and the others
module _ (at : ℕ) (old new : Buffered) (is : new ≡ let_go at old) (some : 0 < pins old.pool.frames at) where
  abbrev f : Frame
  f = frame_at old.pool.frames at

  one_more : f.pins ≡ f.pins - 1 + 1
  one_more = omega (arith, some)

  frame_here : frame_at new.pool.frames at ≡ unpinned f
  frame_here = ap (λ (b : Buffered). frame_at b.pool.frames at) is ∙ get_or-set_same old.pool.frames at (unpinned f) no_frame (pinned_within old.pool.frames at (f.pins - 1) one_more)

  frame_apart : (other : ℕ) → other ≢ at → frame_at new.pool.frames other ≡ frame_at old.pool.frames other
  frame_apart other apart = ap (λ (b : Buffered). frame_at b.pool.frames other) is ∙ get_or-set_other old.pool.frames at other (unpinned f) no_frame apart

  -- the frame has a pin less, and no other
  pub released_pins : (other : ℕ) → pins new.pool.frames other + pin_at at other ≡ pins old.pool.frames other
  released_pins other = by (cases_eq other at)
    where
      by : (other ≡ at) ⊎ (other ≢ at) → pins new.pool.frames other + pin_at at other ≡ pins old.pool.frames other
      by (inl here) = subst (λ (n : ℕ). pins new.pool.frames n + pin_at at n ≡ pins old.pool.frames n) (sym here)
          (omega (arith, ap (λ (g : Frame). g.pins) frame_here, let_go_pins f (f.pins - 1) one_more, some, pin_here at))
      by (inr apart) = omega (arith, ap (λ (g : Frame). g.pins) (frame_apart other apart), pin_apart at other apart)

  unpinned_name : 0 < (unpinned f).pins → name_of (unpinned f) ≡ name_of f
  unpinned_name = cond_both (is_fresh f.content && (f.pins == 1)) (record f { content = Unused; pins = 0; last_use = 0 }) (record f { pins = f.pins - 1 }) (λ (g : Frame). 0 < g.pins → name_of g ≡ name_of f) (λ is more. absurd (omega (arith, more))) (λ is more. refl)

  same_name : (other : ℕ) → (other ≡ at) ⊎ (other ≢ at) → 0 < pins new.pool.frames other → name_of (frame_at new.pool.frames other) ≡ name_of (frame_at old.pool.frames other)
  same_name other (inl here) more = subst (λ (n : ℕ). name_of (frame_at new.pool.frames n) ≡ name_of (frame_at old.pool.frames n)) (sym here)
      (ap name_of frame_here ∙ unpinned_name (omega (arith, subst (λ (n : ℕ). 0 < pins new.pool.frames n) here more, ap (λ (g : Frame). g.pins) frame_here)))
  same_name other (inr apart) more = ap name_of (frame_apart other apart)

  -- a page that was held is, if its frame is pinned still
  pub released_has : (page : PageName) (b : ℕ) → IsPool new.pool → Has page b old.pool.frames → 0 < pins new.pool.frames b → Has page b new.pool.frames
  released_has page b pool has more = record { holder = holder_is new.pool pool page b (pool.once page b (same_name b (cases_eq b at) more ∙ has.holder.name)); pinned = more }

-- A page that is held stays held, while other pages are brought into frames and pinned.
use Rattle.std.proofs.lemmas.Bool.{cases_eq}
use Rattle.clone_buffer.proofs.WriteLemmas.{name_at-after}
use Rattle.clone_buffer.specs.Writing.{after_records}
use Rattle.clone_mtr.specs.declared.record.Record.{Record}
use Rattle.clone_trx.proofs.Common.{◌≡◌, ◌≢◌, ◌<◌, ◌&&◌, not, ◌⊎◌, inl, inr, ℕ, Bool, false, List, length, sym, ap, subst, ◌∙◌, arith, get_or-set_same, get_or-set_other, Frame, PageName, no_frame, frame_at, name_of, is_free, is_dirty, pinned, Frames, IsPool, IsHolder, KeepsInUse, with_frame, holder_is, Buffered, held, Has}
use Rattle.clone_trx.proofs.CauseLemmas.{not_equal}
use Rattle.clone_trx.proofs.FramePinLemmas.{pins, records_pins}

-- each pinned frame keeps its page, and stays pinned
abbrev pub KeepsPinned : List Frame → List Frame → Type 0
KeepsPinned old new = (at : ℕ) → 0 < (frame_at old at).pins → (name_of (frame_at new at) ≡ name_of (frame_at old at)) × (0 < (frame_at new at).pins)

pub keeps_has : (old new : Frames) (page : PageName) (at : ℕ) → IsPool new → KeepsPinned old.frames new.frames → Has page at old.frames → Has page at new.frames
keeps_has old new page at q keeps has =
    let k = keeps at has.pinned in
    record { holder = holder_is new q page at (q.once page at (k.0 ∙ has.holder.name)); pinned = k.1 }

-- a frame that is pinned isn't free
stays : (f : Frame) → 0 < f.pins → is_free f ≡ false
stays f some = ap (λ (b : Bool). b && not (is_dirty f)) (not_equal f.pins 0 (λ none. omega (arith, some, none)))

pub fetch_keeps : (old new : List Frame) → KeepsInUse old new → KeepsPinned old new
fetch_keeps old new keeps at some =
    let is = keeps at (stays (frame_at old at) some) in
    (ap name_of is, omega (arith, some, ap (λ (f : Frame). f.pins) is))

-- a frame gets a pin more
pub pin_keeps : (v : Frames) (at : ℕ) → at < length v.frames → KeepsPinned v.frames (with_frame at pinned v).frames
pin_keeps v at low other some = by (cases_eq other at)
  where
    here : frame_at (with_frame at pinned v).frames at ≡ pinned (frame_at v.frames at)
    here = get_or-set_same v.frames at (pinned (frame_at v.frames at)) no_frame low

    by : (other ≡ at) ⊎ (other ≢ at) → (name_of (frame_at (with_frame at pinned v).frames other) ≡ name_of (frame_at v.frames other)) × (0 < (frame_at (with_frame at pinned v).frames other).pins)
    by (inl is) = subst (λ (x : ℕ). (name_of (frame_at (with_frame at pinned v).frames x) ≡ name_of (frame_at v.frames x)) × (0 < (frame_at (with_frame at pinned v).frames x).pins)) (sym is) (ap name_of here, omega (arith, ap (λ (f : Frame). f.pins) here))
    by (inr apart) =
        let same = get_or-set_other v.frames at other (pinned (frame_at v.frames at)) no_frame apart in
        (ap name_of same, omega (arith, some, ap (λ (f : Frame). f.pins) same))

-- the frame that is pinned holds its page
pub pinned_has : (v : Frames) (page : PageName) (at : ℕ) → IsPool (with_frame at pinned v) → IsHolder page v.frames at → Has page at (with_frame at pinned v).frames
pinned_has v page at q h =
    let here = get_or-set_same v.frames at (pinned (frame_at v.frames at)) no_frame h.within in
    record { holder = holder_is (with_frame at pinned v) q page at (q.once page at (ap name_of here ∙ h.name)); pinned = omega (arith, ap (λ (f : Frame). f.pins) here) }

-- so is each that was held before
pub still_has : (old next new : Buffered) (at : ℕ) → KeepsInUse old.pool.frames next.pool.frames → at < length next.pool.frames → new ≡ held at next → IsPool next.pool → IsPool new.pool → (page : PageName) (b : ℕ) → Has page b old.pool.frames → Has page b new.pool.frames
still_has old next new at keeps low is p q page b has =
    subst (λ (v : Buffered). Has page b v.pool.frames) (sym is)
    (keeps_has next.pool (held at next).pool page b (subst (λ (v : Buffered). IsPool v.pool) is q) (pin_keeps next.pool at low)
    (keeps_has old.pool next.pool page b p (fetch_keeps old.pool.frames next.pool.frames keeps) has))

-- records leave it where it is
pub records_has : (records : List Record) (start end : ℕ) (old new : Frames) → new ≡ after_records records start end old → IsPool new → (page : PageName) (at : ℕ) → Has page at old.frames → Has page at new.frames
records_has records start end old new is q page at has =
    keeps_has old new page at q
    (λ b some. (
      ap (λ (v : Frames). name_of (frame_at v.frames b)) is ∙ name_at-after records start end old b,
      omega (arith, some, (records_pins records start end old).at b, ap (λ (v : Frames). pins v.frames b) is),
    ))
    has

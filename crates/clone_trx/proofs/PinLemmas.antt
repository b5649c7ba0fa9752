-- What a call writes leaves each frame as many pins as it had.
use Rattle.clone_mtr.specs.declared.record.Record.{Record}
use Rattle.clone_trx.proofs.Common.{◌≡◌, ◌<◌, inl, inr, ℕ, List, ap, arith, Ok, Err, Result, PageName, Buffered, given_up, written, EngineRefusal, Because, NoMemory, AreLoose, Holds, Writes, WritesWithout, Makes, Drops, let_go}
use Rattle.clone_trx.proofs.FramePinLemmas.{SamePins, pins, trans, same, records_pins, given_pins}
use Rattle.clone_trx.proofs.HeldPageLemmas.{pin_here, held_pins, released_pins}

-- what a mini-transaction leaves, or a refusal
pub writes_pins : {X : Type 0} (records : List Record) (old new : Buffered) (result : Result X EngineRefusal) → Writes records old new result → SamePins old.pool.frames new.pool.frames
writes_pins records old new (Ok x) w = trans (records_pins records _ _ old.pool) (same (ap (λ (b : Buffered). b.pool.frames) w.1))
writes_pins records old new (Err (Because cause)) w = same (ap (λ (b : Buffered). b.pool.frames) w.1)
writes_pins records old new (Err NoMemory) w = same (ap (λ (b : Buffered). b.pool.frames) w.1)

-- what the drop of a space leaves
without_pins : (space pages : ℕ) (records : List Record) (old new : Buffered) → WritesWithout space pages records old new → SamePins old.pool.frames new.pool.frames
without_pins space pages records old new w = trans (given_pins space pages old.pool) (trans (records_pins records _ _ (given_up space pages old.pool)) (same (ap (λ (b : Buffered). b.pool.frames) w.1)))

pub drops_pins : {X : Type 0} (space pages : ℕ) (records : List Record) (old new : Buffered) (result : Result X EngineRefusal) → Drops space pages records old new result → SamePins old.pool.frames new.pool.frames
drops_pins space pages records old new (Ok x) w = without_pins space pages records old new w
drops_pins space pages records old new (Err (Because cause)) (inl full) = same (ap (λ (b : Buffered). b.pool.frames) full.1)
drops_pins space pages records old new (Err (Because cause)) (inr failed) = without_pins space pages records old new failed.1
drops_pins space pages records old new (Err NoMemory) w = same (ap (λ (b : Buffered). b.pool.frames) w.1)

-- what the making of a space leaves
pub makes_pins : {X : Type 0} (records : List Record) (old new : Buffered) (result : Result X EngineRefusal) → Makes records old new result → SamePins old.pool.frames new.pool.frames
makes_pins records old new result (inl written) = writes_pins records old new result written
makes_pins records old new result (inr failed) = same (ap (λ (b : Buffered). b.pool.frames) failed.2)

-- a page that was held is let go behind that, and no frame is pinned any more
pub loose_again : (page : PageName) (at : ℕ) (old mid last new : Buffered) → Holds page at old mid → SamePins mid.pool.frames last.pool.frames → new ≡ let_go at last → AreLoose old.pool.frames → AreLoose new.pool.frames
loose_again page at old mid last new holds same is loose other =
    let more = held_pins page at old mid holds in
    let some : 0 < pins last.pool.frames at = omega (arith, more at, same.at at, pin_here at) in
    omega (arith, more other, same.at other, released_pins at last new is some other, loose other)

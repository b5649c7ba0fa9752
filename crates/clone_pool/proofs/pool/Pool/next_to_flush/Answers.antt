use Rattle.std.proofs.Common.{◌≡◌, ℕ, List, false, length, subst, sym, ap, ◌∙◌}
use Rattle.clone_pool.specs.declared.frame.Frame.{Frame}
use Rattle.clone_pool.specs.Frames.{frame_at, is_waiting, HoldsPage}
use Rattle.clone_pool.specs.Pool.{Frames, AreNotWaiting, IsNextToFlush}
use Rattle.clone_pool.specs.Row.{IsFirstWaiting, TakesPart}
use Rattle.clone_pool.proofs.OrderLemmas.{dirty_long, is_next, waits_holds, none_waiting}
use Rattle.clone_pool.proofs.pool.Pool.next_to_flush.Goals as goal

pub first_waiting-requires : goal.first_waiting-requires
first_waiting-requires c = dirty_long _ _ c.self.invariant ∙ sym (ap length c.deref.ensures.value)

pub returns-in-Some-clause-some : goal.returns-in-Some-clause-some
returns-in-Some-clause-some c =
    let first = subst (λ (fs : List Frame). IsFirstWaiting c.self.inside.orders.dirty fs c.in-Some.at) c.deref.ensures.value c.in-Some.ensures.some in
    subst (λ (v : Frames). IsNextToFlush v.frames c.in-Some.at) c.self.view_is (is_next _ _ c.self.invariant c.in-Some.at first)

pub returns-in-Some-clause-held : goal.returns-in-Some-clause-held
returns-in-Some-clause-held c =
    let first = subst (λ (fs : List Frame). IsFirstWaiting c.self.inside.orders.dirty fs c.in-Some.at) c.deref.ensures.value c.in-Some.ensures.some in
    subst (λ (v : Frames). HoldsPage (frame_at v.frames c.in-Some.at)) c.self.view_is (waits_holds _ _ c.self.invariant c.in-Some.at (is_next _ _ c.self.invariant c.in-Some.at first).waits)

pub returns-in-None-clause-none : goal.returns-in-None-clause-none
returns-in-None-clause-none c =
    let none = subst (λ (fs : List Frame). (at : ℕ) → TakesPart c.self.inside.orders.dirty at → is_waiting (frame_at fs at) ≡ false) c.deref.ensures.value c.in-None.ensures.none in
    subst (λ (v : Frames). AreNotWaiting v.frames) c.self.view_is (none_waiting _ _ c.self.invariant none)

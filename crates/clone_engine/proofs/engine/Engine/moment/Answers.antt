use Rattle.std.proofs.Common.{◌≤◌, ◌+◌, ◌∙◌, ℕ, length, sym, ap, subst, arith}
use Rattle.clone_ring.specs.Window.{Window, end_of}
use Rattle.clone_session.specs.CloneCalls.{IsWithinRing}
use Rattle.clone_engine.proofs.MomentLemmas.{within_ring}
use Rattle.clone_engine.proofs.engine.Engine.moment.Goals as goal

pub returns-clause-is : goal.returns-clause-is
returns-clause-is c =
    let e = c.args.self.now in
    let buffer = c.laws.ensures.buffer in
    let room = subst (λ (w : Window). length w.bytes + c.free.result ≤ w.size) c.ring.ensures c.free.ensures.room in
    record {
      checkpoint = omega (arith, c.start_within.ensures.below, buffer.end, buffer.below);
      end = c.end.ensures.below;
      within = subst (λ (n : ℕ). IsWithinRing n e.cloning.ring e.cloning.archive) (sym (c.end.ensures.value ∙ ap end_of c.ring-2.ensures))
          (within_ring e.cloning e.buffer.ring c.requires.ring (omega (arith, room)) c.requires.archives);
    }

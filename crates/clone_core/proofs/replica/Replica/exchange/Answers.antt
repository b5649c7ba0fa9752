use Rattle.std.proofs.Common.{◌∙◌, ap}
use Rattle.clone_events.specs.World.{Replica}
use Rattle.clone_core.proofs.ReplicaLemmas.{keeps_none, keeps_other, last_of, took_so}
use Rattle.clone_core.proofs.replica.Replica.exchange.Goals.{in-Some-other+in_ok-took-in-Some-other, in-None+in_ok-took-in-None}
use Rattle.clone_core.proofs.replica.Replica.exchange.Goals as goal

pub returns : goal.returns
returns c = elim c.match-other-3.branch [
  | in-Some-other+in_ok-took-in-Some-other w ↦
      (let kept = keeps_other c.args.self.now c.keep.new.self c.args.frame w.in-Some-other.frame c.in_ok-other.other c.in_ok-other.ensures w.in-Some-other.is in
      rw (w.took-is, w.self-inside-is) (took_so c.args.self.now _ c.args.frame w.in-Some-other.frame w.in_ok-took-in-Some-other.took c.in-Some.follower _ (c.self.view_is ∙ kept.0) kept.1 c.if-self.false c.in-Some.is w.in_ok-took-in-Some-other.ensures))
  | in-None+in_ok-took-in-None w ↦
      (let kept = keeps_none c.args.self.now c.keep.new.self c.args.frame c.in_ok-other.other c.in_ok-other.ensures w.in-None.is in
      let same = last_of c.args.self.now.sent c.self.inside.sent.items c.args.frame w.index.result.now w.len.result (ap (λ (r : Replica). r.sent) c.self.view_is ∙ kept.1) (w.len.ensures ∙ c.self.inside.sent.ok.0) w.index.ensures in
      rw (w.took-is, w.self-inside-is) (took_so c.args.self.now _ c.args.frame w.index.result.now w.in_ok-took-in-None.took c.in-Some.follower _ (c.self.view_is ∙ kept.0) same c.if-self.false c.in-Some.is w.in_ok-took-in-None.ensures))
]

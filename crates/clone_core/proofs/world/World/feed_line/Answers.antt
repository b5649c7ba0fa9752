use Rattle.std.proofs.Common.{subst, Bool, codes, if◌then◌else◌, string_bytes}
use Rattle.clone_script.specs.declared.lines.Line.TheVariants as lines
use Rattle.clone_core.specs.CloneEvents.{Acts}
use Rattle.clone_core.proofs.LineLemmas.{line_breaks}
use Rattle.clone_core.proofs.LinesOfActs.{acts_breaks, acts_says}
use Rattle.clone_core.proofs.UntoldLemmas.{on_err}
use Rattle.clone_core.proofs.world.World.feed_line.Goals as goal

pub returns-in_err-feed-clause-err : goal.returns-in_err-feed-clause-err
returns-in_err-feed-clause-err g c = line_breaks c.args.self.now _ (lines.Feed c.args.connection c.args.bytes.now) c.from_residual.result (on_err c.from_residual.result _ c.in_err-feed.ensures.err)

pub returns-then-not-branch-clause-ok : goal.returns-then-not-branch-clause-ok
returns-then-not-branch-clause-ok g c = acts_says c.args.self.now c.feed.new.self (lines.Feed c.args.connection c.args.bytes.now) (λ es m. m) string_bytes (codes "idle") c.from_str.result (subst (λ (b : Bool). Acts (lines.Feed c.args.connection c.args.bytes.now) c.args.self.now (if b then codes "noted" else codes "idle") c.feed.new.self) c.if-not-branch.true c.in_ok-feed.ensures.acts) c.from_str.ensures.ok

pub returns-then-not-branch-clause-err : goal.returns-then-not-branch-clause-err
returns-then-not-branch-clause-err g c = acts_breaks c.args.self.now c.feed.new.self (lines.Feed c.args.connection c.args.bytes.now) (λ es m. m) _ c.from_str.result c.in_ok-feed.ensures.acts

pub returns-clause-ok : goal.returns-clause-ok
returns-clause-ok g c = acts_says c.args.self.now c.feed.new.self (lines.Feed c.args.connection c.args.bytes.now) (λ es m. m) string_bytes (codes "noted") c.from_str-2.result (subst (λ (b : Bool). Acts (lines.Feed c.args.connection c.args.bytes.now) c.args.self.now (if b then codes "noted" else codes "idle") c.feed.new.self) c.if-not-branch.false c.in_ok-feed.ensures.acts) c.from_str-2.ensures.ok

pub returns-clause-err : goal.returns-clause-err
returns-clause-err g c = acts_breaks c.args.self.now c.feed.new.self (lines.Feed c.args.connection c.args.bytes.now) (λ es m. m) _ c.from_str-2.result c.in_ok-feed.ensures.acts

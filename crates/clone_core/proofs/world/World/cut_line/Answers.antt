use Rattle.std.proofs.Common.{subst, Bool, codes, if◌then◌else◌, string_bytes}
use Rattle.clone_script.specs.declared.lines.Line.TheVariants as lines
use Rattle.clone_core.specs.CloneEvents.{Acts}
use Rattle.clone_core.proofs.LinesOfActs.{acts_breaks, acts_says}
use Rattle.clone_core.proofs.world.World.cut_line.Goals as goal

pub returns-then-not-cut-clause-ok : goal.returns-then-not-cut-clause-ok
returns-then-not-cut-clause-ok g c = acts_says c.args.self.now c.cut.new.self (lines.Cut c.args.connection c.args.to_donor c.args.to_task) (λ es m. m) string_bytes (codes "idle") c.from_str.result (subst (λ (b : Bool). Acts (lines.Cut c.args.connection c.args.to_donor c.args.to_task) c.args.self.now (if b then codes "cut" else codes "idle") c.cut.new.self) c.if-not-cut.true c.cut.ensures) c.from_str.ensures.ok

pub returns-then-not-cut-clause-err : goal.returns-then-not-cut-clause-err
returns-then-not-cut-clause-err g c = acts_breaks c.args.self.now c.cut.new.self (lines.Cut c.args.connection c.args.to_donor c.args.to_task) (λ es m. m) _ c.from_str.result c.cut.ensures

pub returns-clause-ok : goal.returns-clause-ok
returns-clause-ok g c = acts_says c.args.self.now c.cut.new.self (lines.Cut c.args.connection c.args.to_donor c.args.to_task) (λ es m. m) string_bytes (codes "cut") c.from_str-2.result (subst (λ (b : Bool). Acts (lines.Cut c.args.connection c.args.to_donor c.args.to_task) c.args.self.now (if b then codes "cut" else codes "idle") c.cut.new.self) c.if-not-cut.false c.cut.ensures) c.from_str-2.ensures.ok

pub returns-clause-err : goal.returns-clause-err
returns-clause-err g c = acts_breaks c.args.self.now c.cut.new.self (lines.Cut c.args.connection c.args.to_donor c.args.to_task) (λ es m. m) _ c.from_str-2.result c.cut.ensures

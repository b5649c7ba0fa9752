use Rattle.std.proofs.Common.{refl, string_bytes}
use Rattle.clone_script.specs.declared.lines.Line.TheVariants as lines
use Rattle.clone_events.specs.Events.{looked}
use Rattle.clone_core.proofs.LineLemmas.{event_answers, event_breaks, quiet_untold}
use Rattle.clone_core.proofs.ShowingLemmas.{look_holds, looks}
use Rattle.clone_core.proofs.world.World.look_line.Goals as goal

pub invariant_of-self : goal.invariant_of-self
invariant_of-self g c = look_holds _ c.look-position.result _ _ _ _ c.look-position.ensures c.self.invariant

pub returns-clause-ok : goal.returns-clause-ok
returns-clause-ok g c = event_answers string_bytes c.args.self.now _ lines.Look (looked c.look-position.result) c.format.result (looked c.look-position.result, tt, refl) (looks _ c.look-position.result _ _ _ _ _ c.self.view_is c.look-position.ensures) c.format.ensures.ok

pub returns-clause-err : goal.returns-clause-err
returns-clause-err g c = event_breaks c.args.self.now _ lines.Look (looked c.look-position.result) c.format.result (looked c.look-position.result, tt, refl) (quiet_untold _ _ (looked c.look-position.result) tt (looks _ c.look-position.result _ _ _ _ _ c.self.view_is c.look-position.ensures))

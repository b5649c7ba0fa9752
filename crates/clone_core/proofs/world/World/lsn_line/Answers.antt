use Rattle.std.proofs.Common.{refl, string_bytes, Ok}
use Rattle.clone_script.specs.declared.lines.Line.TheVariants as lines
use Rattle.clone_plain.specs.declared.call.EngineAnswer.TheVariants as answers
use Rattle.clone_plain.specs.declared.call.EngineCall.TheVariants as call
use Rattle.clone_events.specs.Events.{made}
use Rattle.clone_core.proofs.LineLemmas.{event_answers, stays_breaks, made_step}
use Rattle.clone_core.proofs.world.World.lsn_line.Goals as goal

pub returns-clause-ok : goal.returns-clause-ok
returns-clause-ok g c = event_answers string_bytes c.args.self.now _ lines.Lsn (made call.End (Ok (answers.End c.end-lsn.result))) c.format.result (Ok (answers.End c.end-lsn.result), refl) c.end-lsn.ensures c.format.ensures.ok

pub returns-clause-err : goal.returns-clause-err
returns-clause-err g c = stays_breaks c.args.self.now _ lines.Lsn c.format.result (record { donor = (made_step _ _ _ _ c.end-lsn.ensures).1; begun = c.end-lsn.ensures.begun; tells = c.end-lsn.ensures.tells; tasks = c.end-lsn.ensures.tasks; clone = c.end-lsn.ensures.clone.is })

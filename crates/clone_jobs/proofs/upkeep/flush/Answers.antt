use Rattle.std.proofs.Common.{◌∙◌, [], ◌∷◌, sym}
use Rattle.clone_plain.specs.declared.call.EngineCall.TheVariants as asked
use Rattle.clone_jobs.proofs.UpkeepLemmas.{all_refused, last_ok, one_made, then_made}
use Rattle.clone_jobs.proofs.upkeep.flush.Goals as goal

pub returns-then-is_err-clause-made : goal.returns-then-is_err-clause-made
returns-then-is_err-clause-made g c =
    let s = c.args.space in
    let p = c.args.page in
    one_made c.args.seat.now c.engine-begun.new.seat (asked.FlushBegin s p) (asked.FlushHalf s p ∷ asked.FlushLand s p ∷ [])
    c.engine-begun.result c.stop_of.result (all_refused _ c.engine-begun.result (sym c.is_err.ensures.value ∙ c.if-is_err.true)) c.stop_of.ensures c.engine-begun.ensures.said

pub returns-then-is_err-2-clause-made : goal.returns-then-is_err-2-clause-made
returns-then-is_err-2-clause-made g c =
    let s = c.args.space in
    let p = c.args.page in
    then_made c.args.seat.now c.engine-begun.new.seat c.engine-half.new.seat (asked.FlushBegin s p) (asked.FlushHalf s p ∷ asked.FlushLand s p ∷ [])
    c.engine-begun.result c.stop_of-then-is_err-2.result (sym c.is_err.ensures.value ∙ c.if-is_err.false) c.engine-begun.ensures.said
    (one_made c.engine-begun.new.seat c.engine-half.new.seat (asked.FlushHalf s p) (asked.FlushLand s p ∷ [])
    c.engine-half.result c.stop_of-then-is_err-2.result (all_refused _ c.engine-half.result (sym c.is_err-2.ensures.value ∙ c.if-is_err-2.true)) c.stop_of-then-is_err-2.ensures c.engine-half.ensures.said)

pub returns-clause-made : goal.returns-clause-made
returns-clause-made g c =
    let s = c.args.space in
    let p = c.args.page in
    then_made c.args.seat.now c.engine-begun.new.seat c.engine.new.seat (asked.FlushBegin s p) (asked.FlushHalf s p ∷ asked.FlushLand s p ∷ [])
    c.engine-begun.result c.stop_of-2.result (sym c.is_err.ensures.value ∙ c.if-is_err.false) c.engine-begun.ensures.said
    (then_made c.engine-begun.new.seat c.engine-half.new.seat c.engine.new.seat (asked.FlushHalf s p) (asked.FlushLand s p ∷ [])
    c.engine-half.result c.stop_of-2.result (sym c.is_err-2.ensures.value ∙ c.if-is_err-2.false) c.engine-half.ensures.said
    (one_made c.engine-half.new.seat c.engine.new.seat (asked.FlushLand s p) []
    c.engine.result c.stop_of-2.result (last_ok c.engine.result) c.stop_of-2.ensures c.engine.ensures.said))

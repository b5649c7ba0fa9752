use Rattle.std.proofs.Common.{refl}
use Rattle.std.proofs.lemmas.Result.{err_from_is_err_and}
use Rattle.clone_plain.specs.declared.call.EngineCall.TheVariants as call
use Rattle.clone_run.proofs.TableLemmas.{refused_last, refused_more, refused_one, set_more, set_one}
use Rattle.clone_run.proofs.tables.flush.Goals as goal

-- src/tables.rt:105:5
pub returns-in_err-flush_begin-clause-sets_up : goal.returns-in_err-flush_begin-clause-sets_up
returns-in_err-flush_begin-clause-sets_up g c = set_one _ _ (call.FlushBegin _ _) _ refl c.flush_begin.ensures.acts

pub returns-in_err-flush_begin-clause-refused : goal.returns-in_err-flush_begin-clause-refused
returns-in_err-flush_begin-clause-refused g c =
    let e = err_from_is_err_and c.from_residual.result c.from_residual.ensures.1 in
    rw (e.1, e.2) (refused_one _ _ (call.FlushBegin _ _) _ c.in_err-flush_begin.ensures.acts)

-- src/tables.rt:106:5
pub returns-in_err-flush_half-clause-sets_up : goal.returns-in_err-flush_half-clause-sets_up
returns-in_err-flush_half-clause-sets_up g c = set_more _ _ _ (set_one _ _ (call.FlushBegin _ _) _ refl c.flush_begin.ensures.acts) (set_one _ _ (call.FlushHalf _ _) _ refl c.flush_half.ensures.acts)

pub returns-in_err-flush_half-clause-refused : goal.returns-in_err-flush_half-clause-refused
returns-in_err-flush_half-clause-refused g c =
    let e = err_from_is_err_and c.from_residual-in_err-flush_half.result c.from_residual-in_err-flush_half.ensures.1 in
    rw (e.1, e.2)
    (refused_more _ _ _ _ (set_one _ _ (call.FlushBegin _ _) _ refl c.flush_begin.ensures.acts) (refused_one _ _ (call.FlushHalf _ _) _ c.in_err-flush_half.ensures.acts))

-- src/tables.rt:101:1
pub returns-clause-sets_up : goal.returns-clause-sets_up
returns-clause-sets_up g c = set_more _ _ _ (set_more _ _ _ (set_one _ _ (call.FlushBegin _ _) _ refl c.flush_begin.ensures.acts) (set_one _ _ (call.FlushHalf _ _) _ refl c.flush_half.ensures.acts)) (set_one _ _ (call.FlushLand _ _) _ refl c.flush_land.ensures.acts)

pub returns-clause-refused : goal.returns-clause-refused
returns-clause-refused g c =
    refused_last _ _ _ (call.FlushLand _ _) c.flush_land.result _ (set_more _ _ _ (set_one _ _ (call.FlushBegin _ _) _ refl c.flush_begin.ensures.acts) (set_one _ _ (call.FlushHalf _ _) _ refl c.flush_half.ensures.acts)) c.flush_land.ensures.acts

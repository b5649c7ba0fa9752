use denote.Exit as Exit
use denote.Param.Send.{param_send, param_sync, arg_send}
use Rattle.clone_jobs.proofs.JobThreadLemmas.{end_send, one_send, upkeep_job_send}
use Rattle.clone_jobs.proofs.upkeep.UpkeepJob.start.Goals as goal

pub start-requires-send-F : goal.start-requires-send-F
start-requires-send-F g c κs within =
    param_send _ _ (arg_send _ Exit.no _ (one_send _ _
    (upkeep_job_send _ _ (param_send _ _ c.type_bounds.send-D) _ _ (param_send _ _ c.type_bounds.send-G) (param_sync _ _ c.type_bounds.sync-G) (param_send _ _ c.type_bounds.send-H))))

pub start-requires-send-J-End : goal.start-requires-send-J-End
start-requires-send-J-End g c κs within = param_send _ _ (arg_send _ Exit.no _ (end_send _ _ (param_send _ _ c.type_bounds.send-D)))

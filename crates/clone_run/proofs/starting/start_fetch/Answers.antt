use denote.Exit as Exit
use denote.Param.Send.{param_send, param_sync, copied_send, arg_send}
use Rattle.clone_jobs.proofs.JobThreadLemmas.{one_send}
use Rattle.clone_task_jobs.proofs.TaskThreadLemmas.{fetch_end_send, fetch_job_send}
use Rattle.clone_run.proofs.KindLemmas.{disk_ghosts, disk_goes, link_goes, name_row, net_goes}
use Rattle.clone_run.proofs.starting.start_fetch.Goals as goal

pub start-requires-send-F : goal.start-requires-send-F
start-requires-send-F g c κs within =
    param_send _ _ (arg_send _ Exit.no _ (one_send _ _
    (fetch_job_send _ _ _ name_row disk_ghosts _ _ disk_goes (net_goes _ (copied_send _ _ c.type_bounds.send-H)) (link_goes _ (copied_send _ _ c.type_bounds.send-H)) _ _ (param_send _ _ c.type_bounds.send-G) (param_sync _ _ c.type_bounds.sync-G) (copied_send _ _ c.type_bounds.send-H) _ disk_ghosts disk_goes)))

pub start-requires-send-J-End : goal.start-requires-send-J-End
start-requires-send-J-End g c κs within =
    param_send _ _ (arg_send _ Exit.no _ (fetch_end_send _ _ _ name_row disk_ghosts _ _ disk_goes (net_goes _ (copied_send _ _ c.type_bounds.send-H)) (link_goes _ (copied_send _ _ c.type_bounds.send-H)) _ disk_ghosts disk_goes))

use denote.Exit as Exit
use denote.Param.Send.{param_send, param_sync, copied_send, arg_send}
use Rattle.clone_jobs.proofs.JobThreadLemmas.{one_send}
use Rattle.clone_task_jobs.proofs.TaskThreadLemmas.{serve_end_send, serve_job_send}
use Rattle.std.proofs.Common.{subst, sym}
use Rattle.clone_task_jobs.specs.Serving.{ServesTask}
use Rattle.clone_run.specs.Kinds.{run_link}
use Rattle.clone_run.proofs.KindLemmas.{disk_goes, link_goes, name_row, net_goes}
use Rattle.clone_run.proofs.starting.start_serve.Goals as goal

pub start-requires-send-F : goal.start-requires-send-F
start-requires-send-F g c κs within =
    param_send _ _ (arg_send _ Exit.no _ (one_send _ _
    (serve_job_send _ _ _ name_row _ _ _ disk_goes (net_goes _ (copied_send _ _ c.type_bounds.send-H)) (link_goes _ (copied_send _ _ c.type_bounds.send-H)) _ _ (param_send _ _ c.type_bounds.send-G) (param_sync _ _ c.type_bounds.sync-G) (copied_send _ _ c.type_bounds.send-H))))

pub start-requires-send-J-End : goal.start-requires-send-J-End
start-requires-send-J-End g c κs within =
    param_send _ _ (arg_send _ Exit.no _ (serve_end_send _ _ _ name_row _ _ _ disk_goes (net_goes _ (copied_send _ _ c.type_bounds.send-H)) (link_goes _ (copied_send _ _ c.type_bounds.send-H))))

pub start-requires-clause-ends : goal.start-requires-clause-ends
start-requires-clause-ends g c κs within = λ end ends.
    subst (λ j. ServesTask run_link j.task end.ending j.server.seat end.seat j.desk end.desk) (sym c.of-about.ensures) ends

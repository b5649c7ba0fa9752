use denote.Exit as Exit
use denote.Param.Send.{param_send, copied_send, arg_send}
use Rattle.clone_run.proofs.KindLemmas.{link_goes}
use Rattle.clone_run.proofs.starting.fn.start_serve.start.Goals as goal

pub run-requires-send-N-End : goal.run-requires-send-N-End
run-requires-send-N-End g c κs within = param_send _ _ (arg_send _ Exit.no _ (link_goes _ (copied_send _ _ c.requires-raw.1.1.1.0)))

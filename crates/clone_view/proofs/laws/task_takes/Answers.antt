use Rattle.clone_view.proofs.ViewSteps.{took_stage, moved_stage, took_block, took_end}
use Rattle.clone_view.proofs.laws.task_takes.Goals as goal

pub returns : goal.returns
returns c = record { stage = λ counts t session lines w k l got left at h is awaits stays. took_stage counts t session lines w k l got left h at is awaits stays; moves = λ counts t session lines w k l got left at h is awaits phase marks standings next chunks size none moving. moved_stage counts t session lines w k l got left h at is awaits phase marks standings next chunks size none moving; block = λ counts t session lines w k l got left h stage chunk block new is awaits taken chunks. took_block counts t session lines w k l got left h stage chunk block new is awaits taken chunks; end = λ counts t session lines w k l got left h stage is awaits. took_end counts t session lines w k l got left h stage is awaits }

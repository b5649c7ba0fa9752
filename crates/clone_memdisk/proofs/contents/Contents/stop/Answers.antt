use Rattle.clone_memdisk.proofs.ContainedLemmas.{kept_stopped}
use Rattle.clone_memdisk.proofs.contents.Contents.stop.Goals as goal

pub invariant_of-self-2 : goal.invariant_of-self-2
invariant_of-self-2 c = kept_stopped c.in_ok-image.image c.in-Some.recording c.end.new.self c.args.choice c.len.result c.in_ok-image.ensures c.in_ok-end.ensures.ok c.in_ok-end.ensures.room c.len.ensures.len

pub returns-clause-tied : goal.returns-clause-tied
returns-clause-tied c = (kept_stopped c.in_ok-image.image c.in-Some.recording c.end.new.self c.args.choice c.len.result c.in_ok-image.ensures c.in_ok-end.ensures.ok c.in_ok-end.ensures.room c.len.ensures.len).makes

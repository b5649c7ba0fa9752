use Rattle.std.proofs.Common.{◌∙◌, sym, ap, option_map}
use Rattle.clone_session.specs.CloneCalls.{part_of}
use Rattle.clone_session.proofs.PartLemmas.{none_of, in_log}
use Rattle.clone_session.proofs.copying.block_work.Goals as goal

pub returns-in-Some-clause-work : goal.returns-in-Some-clause-work
returns-in-Some-clause-work c = sym ((c.page_block.ensures c.in-Some.pages).0 c.in-Some.is)

pub returns-in_err-redo-clause-work : goal.returns-in_err-redo-clause-work
returns-in_err-redo-clause-work c =
    ap (option_map part_of) c.from_residual.ensures
    ∙ sym (none_of _ (λ pages is. let there = sym c.in_default.is ∙ (c.page_block.ensures pages).1 is in absurd (cc)) (λ redo is. let there = sym c.in_err-redo.was ∙ (c.redo_block.ensures redo).1 is in absurd (cc)))

pub returns-clause-work : goal.returns-clause-work
returns-clause-work c = sym ((c.redo_block.ensures c.in_ok-redo.redo).0 c.in_ok-redo.was)

pub returns-clause-in_log : goal.returns-clause-in_log
returns-clause-in_log c =
    in_log c.args.snapshot.now.list c.args.chunk c.args.block c.in_ok-redo.redo.from c.in_ok-redo.redo.length c.laws.ensures.in_log ((c.redo_block.ensures c.in_ok-redo.redo).0 c.in_ok-redo.was)

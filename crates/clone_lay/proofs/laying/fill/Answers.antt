use Rattle.std.proofs.Common.{◌++◌, ◌∙◌, length, drop, replicate, ap}
use Rattle.std.proofs.lemmas.List.{drop-replicate}
use Rattle.clone_lay.proofs.laying.fill.Goals as goal

pub returns : goal.returns
returns c =
    let bytes = c.args.bytes.now in
    ap (λ xs. xs ++ drop (length bytes) (replicate 4096 0)) c.copy_from_slice.ensures.after
    ∙ ap (λ ys. bytes ++ ys) (drop-replicate (length bytes) 4096 0)

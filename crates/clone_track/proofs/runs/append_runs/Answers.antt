use Rattle.std.proofs.Common.{◌≡◌, ◌+◌, ◌∷◌, drop, length, sym, ap, ◌∙◌, arith, length-append}
use Rattle.std.proofs.lemmas.List.{drop_more}
use Rattle.clone_track.specs.SortedRuns.{joined}
use Rattle.clone_track.proofs.runs.append_runs.Goals as goal

pub append-requires : goal.append-requires
append-requires c =
    let list = c.loop-run.list in
    let runs = c.args.runs.now in
    let i = c.loop-run.run-index in
    let run = c.run-item.result in
    let cut : drop i runs ≡ run ∷ drop (i + 1) runs = drop_more runs i run c.loop-run-test.true ∙ ap (λ r. r ∷ drop (i + 1) runs) (sym c.run-item.is) in
    omega (
      arith,
      ap length c.loop-run.invariant.0,
      c.loop-run.invariant.1,
      ap (λ rs. length (joined rs)) cut,
      length-append list.items (joined (drop i runs)),
      length-append run.items (joined (drop (i + 1) runs)),
      length-append c.args.list.now.items (joined runs),
      list.ok.0,
      c.args.list.now.ok.0,
      c.requires,
      ap length c.deref.ensures.value,
    )

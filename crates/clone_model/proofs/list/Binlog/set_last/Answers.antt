use Rattle.std.proofs.Common.{◌≡◌, ℕ, ◌+◌, ◌-◌, List, [], ◌∷◌, ◌++◌, length, take, slice_set, ap, ◌∙◌, suc, arith}
use Rattle.std.proofs.lemmas.List.{set_split, drop_all}
use Rattle.clone_model.proofs.list.Binlog.set_last.Goals as goal

-- an item in place of the last one
set-last : {X : Type 0} (xs : List X) (i : ℕ) (x : X) → length xs ≡ i + 1 → slice_set xs i x ≡ take i xs ++ x ∷ []
set-last xs i x e = set_split xs i x (omega (arith, e)) ∙ ap (λ ys. take i xs ++ x ∷ ys) (drop_all (suc i) xs (omega (arith, e)))

pub returns : goal.returns
returns c =
    let same : c.self.inside.list.items ≡ c.args.self.now.commits = ap (λ binlog. binlog.commits) c.self.view_is in
    let count : c.len-last.result ≡ length c.self.inside.list.items = c.len-last.ensures ∙ c.self.inside.list.ok.0 in
    record { value = rw (count, same) (set-last c.args.self.now.commits (length c.args.self.now.commits - 1) c.args.commit (omega (arith, c.requires.some))) }

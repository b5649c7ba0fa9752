use Rattle.std.proofs.Common.{rules, ◌≡◌, ◌++◌, take, drop, sym, ap, ◌∙◌}
use Rattle.std.proofs.lemmas.List.{take-append-drop, drop-drop}
use Rattle.clone_memlink.proofs.way.Way.receive.Goals as goal

pub returns-clause-bytes : goal.returns-clause-bytes
returns-clause-bytes c =
    let xs = c.self.inside.bytes.items in
    let piece : c.new-piece.result ≡ take c.min-n.result (drop c.self.inside.at xs) = search rules in
    ap (λ w. w.waiting) (sym c.self.view_is)
    ∙ (sym (take-append-drop c.min-n.result (drop c.self.inside.at xs))
    ∙ (ap (λ ys. ys ++ drop c.min-n.result (drop c.self.inside.at xs)) (sym piece)
    ∙ ap (λ ys. c.new-piece.result ++ ys) (drop-drop c.min-n.result c.self.inside.at xs)))

-- Redo makes no page of which the log says that it lies past the end of its space, if it wasn't there before.
use Rattle.std.proofs.Common.{ℕ, Bool, List, [], ◌∷◌, sym, subst, Option}
use Rattle.clone_mtr.specs.declared.record.Record.{Record}
use Rattle.clone_image.specs.Redone.{Standing, no_space, past_end, stands, Redoing, redone_from}
use Rattle.clone_law.specs.Touches.{Touch, passes, edits, becomes, reaches, Step, steps, edited_on, reached, touched, all_touched, fresh, after, runs}
use Rattle.clone_law.proofs.RedoLemmas.{by_steps}
use Rattle.clone_law.proofs.TouchLemmas.{IsNothing}

-- the first isn't there where the second lies past the end
abbrev pub IsWithin : Standing → Standing → Type 0
IsWithin u no_space = Unit {0}
IsWithin u past_end = IsNothing u
IsWithin u (stands page) = Unit {0}

itself_within : (v : Standing) → IsWithin v v
itself_within no_space = tt
itself_within past_end = tt
itself_within (stands page) = tt

pub nothing_within : (u v : Standing) → IsNothing u → IsWithin u v
nothing_within u no_space none = tt
nothing_within u past_end none = none
nothing_within u (stands page) none = tt

edited_within : (end : ℕ) (f : List ℕ → List ℕ) (a b : Option Bool) (u v : Standing) → IsWithin u v → IsWithin (edited_on end f a u).standing (edited_on end f b v).standing
edited_within end f a b u no_space is = tt
edited_within end f a b u (stands page) is = tt
edited_within end f a b no_space past_end is = tt
edited_within end f a b past_end past_end is = tt
edited_within end f a b (stands page) past_end is = absurd is

reached_within : (s u v : Standing) → IsWithin u v → IsWithin (reached s u) (reached s v)
reached_within s u no_space is = tt
reached_within s u (stands page) is = tt
reached_within s no_space past_end is = nothing_within no_space s tt
reached_within s past_end past_end is = itself_within s
reached_within s (stands page) past_end is = absurd is

touched_within : (end : ℕ) (t : Touch) (p q : Redoing) → IsWithin p.standing q.standing → IsWithin (touched end t p).standing (touched end t q).standing
touched_within end passes p q is = is
touched_within end (edits f) p q is = edited_within end f p.counts q.counts p.standing q.standing is
touched_within end (becomes s) p q is = itself_within s
touched_within end (reaches s) p q is = reached_within s p.standing q.standing is

all_within : (end : ℕ) (ts : List Touch) (p q : Redoing) → IsWithin p.standing q.standing → IsWithin (all_touched end p ts).standing (all_touched end q ts).standing
all_within end [] p q is = is
all_within end (t ∷ ts) p q is = all_within end ts (touched end t p) (touched end t q) (touched_within end t p q is)

runs_within : (ss : List Step) (u v : Standing) → IsWithin u v → IsWithin (runs u ss) (runs v ss)
runs_within [] u v is = is
runs_within (s ∷ ss) u v is = runs_within ss (after s u) (after s v) (all_within s.end s.touches (fresh u) (fresh v) is)

pub redone_within : (start space number : ℕ) (u v : Standing) (log : List (List Record)) → IsWithin u v → IsWithin (redone_from start space number u log) (redone_from start space number v log)
redone_within start space number u v log is =
    let ss : List Step = steps start space number log in
    subst (λ (x : Standing). IsWithin x (redone_from start space number v log)) (sym (by_steps start space number u log))
    (subst (λ (x : Standing). IsWithin (runs u ss) x) (sym (by_steps start space number v log)) (runs_within ss u v is))

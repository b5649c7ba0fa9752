-- Commands that are carried out, and whether their calls open a session after one that ends it.
use Rattle.std.proofs.Common.{◌≡◌, Bool, true, false, List, [], ◌∷◌, ◌++◌, refl, sym, subst}
use Rattle.clone_runs.specs.Marks.{NoneAfter, NoneIn, either}
use Rattle.clone_runs.specs.Carried.{Carried}
use Rattle.clone_runs.proofs.MarkLemmas.{after_none, after_quiet, none_append, none_either, none_left, none_right, not_both}

module _ {C E : Type 0} (inits exits : C → Bool) (opens leaves : E → Bool) where
  carried_opens : (cs : List C) (es : List E) → NoneIn inits cs → Carried inits exits opens leaves cs es → NoneIn opens es
  carried_opens [] es none carried = none_left opens leaves es carried
  carried_opens (c ∷ cs) es none carried =
      subst (NoneIn opens) (sym carried.2) (none_append opens carried.0 carried.1 (carried.3.opened none.0) (carried_opens cs carried.1 none.1 carried.4))

  carried_leaves : (cs : List C) (es : List E) → NoneIn exits cs → Carried inits exits opens leaves cs es → NoneIn leaves es
  carried_leaves [] es none carried = none_right opens leaves es carried
  carried_leaves (c ∷ cs) es none carried =
      subst (NoneIn leaves) (sym carried.2) (none_append leaves carried.0 carried.1 (carried.3.left none.0) (carried_leaves cs carried.1 none.1 carried.4))

  -- without INIT and EXIT
  pub carried_quiet : (cs : List C) (es : List E) → NoneIn inits cs → NoneIn exits cs → Carried inits exits opens leaves cs es → NoneIn (either opens leaves) es
  carried_quiet cs es a b carried = none_either opens leaves es (carried_opens cs es a carried) (carried_leaves cs es b carried)

  no_init : ((c : C) → inits c ≡ true → exits c ≡ false) → (c : C) (b : Bool) → inits c ≡ b → exits c ≡ true → inits c ≡ false
  no_init apart c true is left = absurd (not_both left (apart c is))
  no_init apart c false is left = is

  pub carried_after : ((c : C) → inits c ≡ true → exits c ≡ false) → (cs : List C) (es : List E) → NoneAfter inits exits cs → Carried inits exits opens leaves cs es → NoneAfter opens leaves es
  carried_after apart [] es none carried = after_none opens leaves es (none_left opens leaves es carried)
  carried_after apart (c ∷ cs) es none carried =
      subst (NoneAfter opens leaves) (sym carried.2) (by (exits c) refl (carried_after apart cs carried.1 none.1 carried.4))
    where
      by : (b : Bool) → exits c ≡ b → NoneAfter opens leaves carried.1 → NoneAfter opens leaves (carried.0 ++ carried.1)
      by true is rest =
          after_none opens leaves (carried.0 ++ carried.1)
          (none_append opens carried.0 carried.1 (carried.3.opened (no_init apart c (inits c) refl is)) (carried_opens cs carried.1 (none.0 is) carried.4))
      by false is rest = after_quiet opens leaves carried.0 carried.1 (carried.3.left is) rest

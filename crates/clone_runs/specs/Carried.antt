-- The calls at the donor by which commands are carried out.
use Rattle.std.specs.Prelude.{◌≡◌, Bool, false, List, [], ◌∷◌, ◌++◌}
use Rattle.clone_runs.specs.Marks.{NoneIn, either}

module _ {C E : Type 0} (inits exits : C → Bool) (opens leaves : E → Bool) where
  -- INIT alone opens a session, and EXIT alone ends one
  pub record Carries (c : C) (es : List E) : Type 0 where
    pub opened : inits c ≡ false → NoneIn opens es
    pub left : exits c ≡ false → NoneIn leaves es

  -- The calls for each command, one command after the other. Those that belong to none, as those
  -- that ask whether to go on, neither open a session nor end one.
  abbrev pub Carried : List C → List E → Type 0
  Carried [] es = NoneIn (either opens leaves) es
  Carried (c ∷ cs) es =
      (now : List E) × (later : List E) × (es ≡ now ++ later) × Carries c now × Carried cs later

-- A donor's legal run: what was done, one after the other, each with the donor after it.
use Rattle.std.specs.Prelude.{List, [], ◌∷◌}
use Rattle.clone_engine.specs.Acts.{Act, Acts}
use Rattle.clone_engine.specs.Donor.{Donor}

-- an act, with the donor after it
pub record Entry : Type 0 where
  pub act : Act
  pub after : Donor

-- A LEGAL RUN
abbrev pub Runs : Donor → List Entry → Type 0
Runs d [] = Unit {0}
Runs d (e ∷ es) = Acts e.act d e.after × Runs e.after es

abbrev pub end_of : Donor → List Entry → Donor
end_of d [] = d
end_of d (e ∷ es) = end_of e.after es

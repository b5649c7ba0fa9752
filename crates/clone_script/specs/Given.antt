-- What the texts of a script have given.
use Rattle.std.specs.Prelude.{ℕ, ◌≤◌, List, [], ◌∷◌, ◌++◌, Option, None, Some}
use Rattle.std.specs.Option.{unwrap_or}
use Rattle.clone_base.specs.declared.limits.TheConstants.{MOST_LOSSES, MOST_TASKS}
use Rattle.clone_model.specs.Config.{usual}
use Rattle.clone_model.specs.declared.config.Config.{Config}
use Rattle.clone_script.specs.declared.lines.Line.{Line}
use Rattle.clone_script.specs.declared.terms.Terms.{Terms}
use Rattle.clone_script.specs.declared.terms.TheConstants.{USUAL_LIMIT, USUAL_TASKS}
use Rattle.clone_script.specs.declared.terms.TheConstants.{USUAL_VERSION}

pub record Given : Type 0 where
  -- the size of the pool and that of the ring, if a text gave it
  pub pool : Option ℕ
  pub ring : Option ℕ
  -- the version of the wire, the number of tasks and that of losses, if a text gave it
  pub version : Option ℕ
  pub tasks : Option ℕ
  pub limit : Option ℕ
  -- the lines in order
  pub lines : List Line

abbrev pub nothing : Given
nothing = record {
  pool = None;
  ring = None;
  version = None;
  tasks = None;
  limit = None;
  lines = [];
}

abbrev pub with_pool : Given → ℕ → Given
with_pool given frames = record given { pool = Some frames }

abbrev pub with_ring : Given → ℕ → Given
with_ring given bytes = record given { ring = Some bytes }

abbrev pub with_line : Given → Line → Given
with_line given l = record given { lines = given.lines ++ l ∷ [] }

-- a size that isn't given is the usual one
abbrev pub config_of : Given → Config
config_of given =
    record { pool = unwrap_or given.pool usual.pool; ring = unwrap_or given.ring usual.ring }

-- the version of the wire is 1 or 2
abbrev pub IsVersion : ℕ → Type 0
IsVersion version = (1 ≤ version) × (version ≤ 2)

abbrev pub IsTaskCount : ℕ → Type 0
IsTaskCount tasks = (1 ≤ tasks) × (tasks ≤ MOST_TASKS)

abbrev pub IsLimit : ℕ → Type 0
IsLimit losses = losses ≤ MOST_LOSSES

-- how a clone is taken, where what isn't given is as usual
abbrev pub terms_of : Given → Terms
terms_of given = record {
  version = unwrap_or given.version USUAL_VERSION;
  tasks = unwrap_or given.tasks USUAL_TASKS;
  limit = unwrap_or given.limit USUAL_LIMIT;
}

-- each of its numbers is in its range
pub record IsTerms (terms : Terms) : Type 0 where
  pub version : IsVersion terms.version
  pub tasks : IsTaskCount terms.tasks
  pub limit : IsLimit terms.limit

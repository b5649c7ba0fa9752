-- WHERE NO CLONE IS UNDER WAY there is no task and no connection, and nothing happens.
use Rattle.std.proofs.Common.{◌≡◌, ◌∷◌, [], List, refl}
use Rattle.clone_plain.specs.Answers.{Text}
use Rattle.clone_script.specs.declared.lines.Line.{Line}
use Rattle.clone_events.specs.Events.{Change, acts, idle}
use Rattle.clone_core.specs.declared.world.Copying.{Copying}
use Rattle.clone_core.specs.declared.world.Course.{Course}
use Rattle.clone_core.specs.declared.world.Course.TheVariants as course
use Rattle.clone_core.specs.Acting.{ActsStep, OnCopying}
use Rattle.clone_core.specs.CloneEvents.{ActsUntold, EndsUntold}
use Rattle.clone_core.specs.Lines.{State, Happens}
use Rattle.clone_core.specs.System.{System}
use Rattle.clone_core.proofs.UntoldLemmas.{IsOne}

-- a step that changes nothing
pub acts_nothing : (s : State) (line : Line) (text : Text) → ActsStep line s.donor s.donor [] text → Happens s (acts line [] text) s
acts_nothing s line text step = record {
  step = step;
  begun = refl;
  clone = record { now = tt; shows = (tt, tt, λ told. tt); is = refl };
  tells = refl;
  tasks = refl;
  sees = λ told. tt;
}

pub nobody : (Does : Copying → System → System → List Change → Text → Type 0) (c : Course) (s : System) → ((k : Copying) → c ≡ course.Begun k → ⊥) → OnCopying Does c s s [] idle
nobody Does course.Absent s none = record { same = refl; none = refl; is = refl }
nobody Does course.Unbegun s none = record { same = refl; none = refl; is = refl }
nobody Does (course.Begun k) s none = absurd (none k refl)

-- what was done untold is one event of the line
pub one_untold : (line : Line) (s t : State) → ActsUntold line s t → (text : Text) × (changes : List Change) × EndsUntold (IsOne (acts line changes text)) s t
one_untold line s t (changes, text, stays) = (text, changes, (acts line changes text ∷ [], [], refl, stays))

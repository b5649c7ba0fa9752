-- What a machine never puts out any more, once it has put out something else.
use Rattle.std.specs.Prelude.{◌≡◌, Bool, true, false, List}
use Rattle.clone_turn.specs.declared.view.Entry.{Entry}
use Rattle.clone_runs.specs.Marks.{NoneAfter, NoneIn}

-- A test of the state is passed once a step has put out something that leaves. No step undoes that,
-- and none puts out anything that opens from then on.
pub record Keeps {S C A K : Type 0} (steps : S → C → A → S → Type 0)
    (puts : Entry S C A → List K) (opens leaves : K → Bool) (has_left : S → Bool) : Type 0 where
  pub marks : (s : S) (e : Entry S C A) → steps s e.call e.answer e.after
      → has_left e.after ≡ false → NoneIn leaves (puts e)
  pub stays : (s : S) (e : Entry S C A) → steps s e.call e.answer e.after
      → has_left s ≡ true → has_left e.after ≡ true
  pub quiet : (s : S) (e : Entry S C A) → steps s e.call e.answer e.after
      → has_left s ≡ true → NoneIn opens (puts e)
  -- of what one step puts out
  pub order : (s : S) (e : Entry S C A) → steps s e.call e.answer e.after
      → NoneAfter opens leaves (puts e)

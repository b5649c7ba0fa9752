-- Runs join, and so do events and what they write.
use Rattle.std.proofs.Common.{◌≡◌, List, [], ◌∷◌, ◌++◌, refl, sym, ap, ◌∙◌, subst, append_assoc, append-nil, flat_map}
use Rattle.clone_events.proofs.Common.{Line, Donor, World, Event, said, Events, LineStep, Runs, output}
use Rattle.clone_model.specs.Texts.{ended}

module _ {D : Type 0} (plain : D → Donor) (Step : D → Event → D → Type 0) where
  pub Events-append : (s : World D) (xs ys : List Event) (t u : World D) → Events plain Step s xs t → Events plain Step t ys u → Events plain Step s (xs ++ ys) u
  Events-append s [] ys t u first second = let P : World D → Type 0 = λ w. Events plain Step w ys u in subst P (sym first) second
  Events-append s (x ∷ xs) ys t u first second = (first.0, first.1, Events-append first.0 xs ys t u first.2 second)

  pub Runs-append : (s : World D) (front back : List Line) (before behind : List (List Event)) (t u : World D) → Runs plain Step s front before t → Runs plain Step t back behind u → Runs plain Step s (front ++ back) (before ++ behind) u
  Runs-append s [] back [] behind t u first second = let P : World D → Type 0 = λ w. Runs plain Step w back behind u in subst P (sym first) second
  Runs-append s [] back (es ∷ before) behind t u first second = absurd first
  Runs-append s (l ∷ front) back [] behind t u first second = absurd first
  Runs-append s (l ∷ front) back (es ∷ before) behind t u first second = (first.0, first.1, Runs-append first.0 front back before behind t u first.2 second)

  -- one more line
  pub Runs-push : (s : World D) (lines : List Line) (events : List (List Event)) (t : World D) (l : Line) (es : List Event) (u : World D) → Runs plain Step s lines events t → LineStep plain Step t l es u
      → Runs plain Step s (lines ++ l ∷ []) (events ++ es ∷ []) u
  Runs-push s lines events t l es u run step = Runs-append s lines (l ∷ []) events (es ∷ []) t u run (u, step, refl)

  -- the events of a run, one after the other
  pub Runs-Events : (s : World D) (lines : List Line) (events : List (List Event)) (t : World D) → Runs plain Step s lines events t → Events plain Step s (flat_map (λ es. es) events) t
  Runs-Events s [] [] t run = run
  Runs-Events s [] (es ∷ more) t run = absurd run
  Runs-Events s (l ∷ lines) [] t run = absurd run
  Runs-Events s (l ∷ lines) (es ∷ more) t run = Events-append s es (flat_map (λ es. es) more) run.0 t run.1.1 (Runs-Events run.0 lines more t run.2)

  -- whether the disks tell what they hold stays
  pub Events-tells : (s : World D) (es : List Event) (t : World D) → Events plain Step s es t → t.tells ≡ s.tells
  Events-tells s [] t is = ap (λ (w : World D). w.tells) (sym is)
  Events-tells s (e ∷ es) t is = Events-tells is.0 es t is.2 ∙ is.1.tells

  pub Runs-tells : (s : World D) (lines : List Line) (events : List (List Event)) (t : World D) → Runs plain Step s lines events t → t.tells ≡ s.tells
  Runs-tells s lines events t run = Events-tells s (flat_map (λ es. es) events) t (Runs-Events s lines events t run)

  -- and so does the number of tasks
  Events-tasks : (s : World D) (es : List Event) (t : World D) → Events plain Step s es t → t.tasks ≡ s.tasks
  Events-tasks s [] t is = ap (λ (w : World D). w.tasks) (sym is)
  Events-tasks s (e ∷ es) t is = Events-tasks is.0 es t is.2 ∙ is.1.tasks

  pub Runs-tasks : (s : World D) (lines : List Line) (events : List (List Event)) (t : World D) → Runs plain Step s lines events t → t.tasks ≡ s.tasks
  Runs-tasks s lines events t run = Events-tasks s (flat_map (λ es. es) events) t (Runs-Events s lines events t run)

pub output-push : (events : List (List Event)) (es : List Event) → output events ++ ended (said es) ≡ output (events ++ es ∷ [])
output-push [] es = sym (append-nil (ended (said es)))
output-push (x ∷ more) es = append_assoc (ended (said x)) (output more) (ended (said es)) ∙ ap (λ xs. ended (said x) ++ xs) (output-push more es)

-- A run in which no call opens the session after one that ends it.
use Rattle.std.proofs.Common.{◌≡◌, ◌⊎◌, inl, inr, Bool, true, false, List, [], ◌∷◌, refl, sym, ◌∙◌, subst}
use Rattle.clone_runs.specs.Marks.{NoneAfter, NoneIn}
use Rattle.clone_runs.specs.Phases.{Phase, Unopened, Open, Gone, Again, IsOpenedOnce, phase_after}

NotAgain : Phase → Type 0
NotAgain Unopened = Unit {0}
NotAgain Open = Unit {0}
NotAgain Gone = Unit {0}
NotAgain Again = ⊥

module _ {X : Type 0} (opens leaves : X → Bool) where
  abbrev reached : Phase → List X → Phase
  reached phase run = phase_after opens leaves phase run

  gone_stays : (run : List X) → NoneIn opens run → reached Gone run ≡ Gone
  gone_stays [] none = refl
  gone_stays (e ∷ es) none = rw none.0 (gone_stays es none.1)

  open_on : (run : List X) → NoneAfter opens leaves run → (reached Open run ≡ Open) ⊎ (reached Open run ≡ Gone)
  open_on [] none = inl refl
  open_on (e ∷ es) none = by (leaves e) refl (open_on es none.1)
    where
      by : (b : Bool) → leaves e ≡ b → (reached Open es ≡ Open) ⊎ (reached Open es ≡ Gone) → (reached Open (e ∷ es) ≡ Open) ⊎ (reached Open (e ∷ es) ≡ Gone)
      by true is more = rw is (inr (gone_stays es (none.0 is)))
      by false is more = rw is more

  unopened_on : (run : List X) → NoneAfter opens leaves run → (reached Unopened run ≡ Unopened) ⊎ ((reached Unopened run ≡ Open) ⊎ (reached Unopened run ≡ Gone))
  unopened_on [] none = inl refl
  unopened_on (e ∷ es) none = by (opens e) refl (unopened_on es none.1)
    where
      by : (b : Bool) → opens e ≡ b → (reached Unopened es ≡ Unopened) ⊎ ((reached Unopened es ≡ Open) ⊎ (reached Unopened es ≡ Gone)) → (reached Unopened (e ∷ es) ≡ Unopened) ⊎ ((reached Unopened (e ∷ es) ≡ Open) ⊎ (reached Unopened (e ∷ es) ≡ Gone))
      by true is more = rw is (inr (open_on es none.1))
      by false is more = rw is more

  pub once : (run : List X) → NoneAfter opens leaves run → IsOpenedOnce opens leaves run
  unfolding NotAgain
  once run none again = by (unopened_on run none)
    where
      by : (reached Unopened run ≡ Unopened) ⊎ ((reached Unopened run ≡ Open) ⊎ (reached Unopened run ≡ Gone)) → ⊥
      by (inl is) = subst NotAgain (sym is ∙ again) tt
      by (inr (inl is)) = subst NotAgain (sym is ∙ again) tt
      by (inr (inr is)) = subst NotAgain (sym is ∙ again) tt

-- What was done so far, and what a further turn adds to it.
use Rattle.std.proofs.Common.{ℕ, ◌≡◌, ◌∙◌, List, [], ◌++◌, Option, Some, None, IfSome, refl, ap, sym, subst}
use Rattle.clone_outside.specs.declared.link.Link.{Ghosts as Link}
use Rattle.clone_turn.specs.Worked.{Worked}
use Rattle.clone_turn.proofs.WorkedLemmas.{worked_more}
use Rattle.clone_copying.specs.Calls.{AreCalls, FetcherModel, RecipientEntry, Works, put, taken}
use Rattle.clone_copying.specs.Connecting.{AreLent, Connects, DeskSeat, WasRefused}
use Rattle.clone_copying.specs.Fetching.{AreOver, Fetches, HasCause}
use Rattle.clone_copying.specs.Passing.{Acts, GoesOn}
use Rattle.clone_copying.specs.Turning.{Because, IsTurn, Waits}
use Rattle.clone_copying.specs.declared.fetch_end.FetchEnd.{FetchEnd}
use Rattle.clone_copying.specs.declared.talk.Talk.{Talk}
use Rattle.clone_copying.specs.declared.turn.Turn.{Turn}
use Rattle.clone_copying.proofs.CallLemmas.{cause_more, put_more, waits_more}
use Rattle.clone_copying.proofs.CallingLemmas.{worked_map}
use Rattle.clone_copying.proofs.ConnectLemmas.{connects_more, lent_more}
use Rattle.clone_copying.proofs.FetchLemmas.{fetches_more, over_more}
use Rattle.clone_copying.proofs.TurnLemmas.{because_more, turn_after, works_as, works_more}

module _ {R : Type 0} (P Q : ℕ → Type 0) (keeps : (n : ℕ) → P n → Q n) (H : Type 0) (u v w : FetcherModel R) where
  -- ---- without a connection

  abbrev pub HasOpened : (sent : List ℕ) → List (RecipientEntry R) → Type 0
  HasOpened sent made = Waits u.task P u.core made v.core × (sent ≡ put made)

  abbrev pub WaitsOn : (s t : List ℕ) → Turn → List (RecipientEntry R) → Type 0
  WaitsOn s t result made = Waits v.task Q v.core made w.core × (t ≡ s ++ put made) × Because H result made

  abbrev pub HasWaited : (sent : List ℕ) → Turn → List (RecipientEntry R) → Type 0
  HasWaited sent result made = Waits u.task Q u.core made w.core × (sent ≡ put made) × Because H result made

  pub opens_more : (s t : List ℕ) (result : Turn) → Works (HasOpened s) u v → Works (WaitsOn s t result) v w → Works (HasWaited t result) u w
  opens_more s t result a b =
      works_more (HasOpened s) (WaitsOn s t result) (HasWaited t result) u v w a b
      (λ xs ys x y. (
        waits_more u.task P Q keeps u.core v.core w.core xs ys x.0 (subst (λ k. Waits k Q v.core ys w.core) a.0 y.0),
        y.1 ∙ (ap (λ zs. zs ++ put ys) x.1 ∙ sym (put_more xs ys)),
        because_more H H (λ h. h) result xs ys y.2,
      ))

  -- ---- over an end

  module _ {L X : Type 0} (link : Link L X) (a b c : Talk L) (result : Turn) where
    abbrev pub HasActed : List (RecipientEntry R) → Type 0
    HasActed made = Acts link u.task P u.core [] a b.end made v.core × GoesOn link a b (taken made) (put made)

    pub turns_more : Works HasActed u v → Works (λ made. IsTurn link v.task Q v.core H b c result made w.core) v w → Works (λ made. IsTurn link u.task Q u.core H a c result made w.core) u w
    turns_more x y =
        works_more HasActed (λ made. IsTurn link v.task Q v.core H b c result made w.core) (λ made. IsTurn link u.task Q u.core H a c result made w.core) u v w x y
        (λ xs ys acted turned.
        turn_after link u.task P Q keeps u.core v.core w.core H a b c result xs ys acted.0 acted.1
        (subst (λ k. IsTurn link k Q v.core H b c result ys w.core) x.0 turned))

  -- ---- over connections

  module _ {L X : Type 0} (link : Link L X) (F G : Type 0) (f : F → G) (I : Type 0) (h : H → I) (ends more : List (L × L)) (result : Option FetchEnd) where
    abbrev pub HasFetched : List (RecipientEntry R) → Type 0
    HasFetched made = AreOver link ends made × AreCalls u.task P u.core made v.core

    abbrev pub FetchesOne : List (RecipientEntry R) → Type 0
    FetchesOne made =
        Fetches link v.task Q v.core more made w.core × (result ≡ None → AreOver link more made)
        × IfSome result (λ why. HasCause F H why made)

    abbrev pub FetchesAll : List (RecipientEntry R) → Type 0
    FetchesAll made =
        Fetches link u.task Q u.core (ends ++ more) made w.core × (result ≡ None → AreOver link (ends ++ more) made)
        × IfSome result (λ why. HasCause G I why made)

    some_cause : (r : Option FetchEnd) (xs ys : List (RecipientEntry R)) → IfSome r (λ why. HasCause F H why ys) → IfSome r (λ why. HasCause G I why (xs ++ ys))
    some_cause None xs ys cause = tt
    some_cause (Some why) xs ys cause = cause_more F G H I f h why xs ys cause

    pub fetches_one_more : Works HasFetched u v → Works FetchesOne v w → Works FetchesAll u w
    fetches_one_more x y =
        works_more HasFetched FetchesOne FetchesAll u v w x y
        (λ xs ys before now. (
          fetches_more link u.task P Q keeps u.core v.core w.core ends more xs ys before.0 before.1 (subst (λ k. Fetches link k Q v.core more ys w.core) x.0 now.0),
          λ on. over_more link ends more xs ys before.0 (now.1 on),
          some_cause result xs ys now.2,
        ))

module _ {N L : Type 0} (task : ℕ) (ends more : List (L × L)) (C : Type 0) (d e f : DeskSeat N L) where
  pub desk_more : Worked (AreLent task ends) d e → Worked (λ made. Connects task more made × (C → AreLent task more made)) e f
      → Worked (λ made. Connects task (ends ++ more) made × (C → AreLent task (ends ++ more) made)) d f
  desk_more a b =
      worked_more (AreLent task ends) (λ made. Connects task more made × (C → AreLent task more made)) (λ made. Connects task (ends ++ more) made × (C → AreLent task (ends ++ more) made)) d e f a b
      (λ xs ys lent next. (connects_more task ends more xs ys lent next.0, λ on. lent_more task ends more xs ys lent (next.1 on)))

module _ {N L X R : Type 0} (link : Link L X) (P Q : ℕ → Type 0) (keeps : (n : ℕ) → P n → Q n) (H : Type 0) (u v w : FetcherModel R) (d e f : DeskSeat N L) where
  -- some connections are over
  abbrev pub WereOver : Type 0
  WereOver =
      (ends : List (L × L)) × Worked (AreLent u.task ends) d e
      × Works (λ made. AreOver link ends made × AreCalls u.task P u.core made v.core) u v

  -- one more was made, or none
  abbrev pub MakesOne : Option FetchEnd → Type 0
  MakesOne result =
      (ends : List (L × L)) × Worked (λ made. Connects v.task ends made × (result ≡ None → AreLent v.task ends made)) e f
      × Works (λ made. Fetches link v.task Q v.core ends made w.core × (result ≡ None → AreOver link ends made) × IfSome result (λ why. HasCause (WasRefused v.task f) H why made)) v w

  module _ (before : WereOver) where
    same_task : v.task ≡ u.task
    same_task = before.2.0

    lent : (result : Option FetchEnd) (once : MakesOne result) → Worked (λ made. Connects u.task (before.0 ++ once.0) made × (result ≡ None → AreLent u.task (before.0 ++ once.0) made)) d f
    lent result once =
        desk_more u.task before.0 once.0 (result ≡ None) d e f before.1
        (subst (λ k. Worked (λ made. Connects k once.0 made × (result ≡ None → AreLent k once.0 made)) e f) same_task once.1)

    fetched : (result : Option FetchEnd) (once : MakesOne result) → Works (FetchesAll P Q keeps H u v w link (WasRefused v.task f) (WasRefused u.task f) (subst (λ k. WasRefused k f) same_task) H (λ h. h) before.0 once.0 result) u w
    fetched result once =
        fetches_one_more P Q keeps H u v w link (WasRefused v.task f) (WasRefused u.task f) (subst (λ k. WasRefused k f) same_task) H (λ h. h) before.0 once.0 result before.2 once.2

    -- the task goes on
    pub over_too : MakesOne None → (ends : List (L × L)) × Worked (AreLent u.task ends) d f × Works (λ made. AreOver link ends made × AreCalls u.task Q u.core made w.core) u w
    over_too once =
        let ends = before.0 ++ once.0 in (
          ends,
          worked_map (λ made. Connects u.task ends made × (◌≡◌ {A = Option FetchEnd} None None → AreLent u.task ends made)) (AreLent u.task ends) d f (lent None once) (λ made is. is.1 refl),
          works_as (FetchesAll P Q keeps H u v w link (WasRefused v.task f) (WasRefused u.task f) (subst (λ k. WasRefused k f) same_task) H (λ h. h) before.0 once.0 None) (λ made. AreOver link ends made × AreCalls u.task Q u.core made w.core) u w (fetched None once)
              (λ made is. (is.1 refl, is.0.calls)),
        )

    -- or its fetch ends
    pub fetch_ends : (why : FetchEnd) → MakesOne (Some why) → (ends : List (L × L)) × Worked (Connects u.task ends) d f × Works (λ made. Fetches link u.task Q u.core ends made w.core × HasCause (WasRefused u.task f) H why made) u w
    fetch_ends why once =
        let ends = before.0 ++ once.0 in (
          ends,
          worked_map (λ made. Connects u.task ends made × (Some why ≡ None → AreLent u.task ends made)) (Connects u.task ends) d f (lent (Some why) once) (λ made is. is.0),
          works_as (FetchesAll P Q keeps H u v w link (WasRefused v.task f) (WasRefused u.task f) (subst (λ k. WasRefused k f) same_task) H (λ h. h) before.0 once.0 (Some why)) (λ made. Fetches link u.task Q u.core ends made w.core × HasCause (WasRefused u.task f) H why made) u w
              (fetched (Some why) once) (λ made is. (is.0, is.2)),
        )

-- What a task did by one connection, or by none.
use Rattle.std.proofs.Common.{ℕ, ◌≡◌, List, [], ◌∷◌, ◌++◌, false, Option, Some, None, Ok, Err, IfSome, refl, sym, subst}
use Rattle.clone_outside.specs.Link.{IsUnused}
use Rattle.clone_outside.specs.declared.Refusal.{Refusal}
use Rattle.clone_outside.specs.declared.Refusal.TheVariants as refusal
use Rattle.clone_outside.specs.declared.link.Link.{Ghosts as Link}
use Rattle.clone_outside.specs.declared.link.Side.TheVariants.{Requester}
use Rattle.clone_turn.specs.Runs.{calls}
use Rattle.clone_turn.specs.Worked.{Worked}
use Rattle.clone_turn.proofs.WorkedLemmas.{makes_calls, makes_none, worked_more, worked_none}
use Rattle.clone_desk.specs.declared.machine.DeskAnswer.TheVariants as answer
use Rattle.clone_desk.specs.declared.machine.DeskCall.TheVariants as call
use Rattle.clone_copying.specs.Calling.{IsOne}
use Rattle.clone_copying.specs.Calls.{FetcherModel, RecipientEntry, Works, put}
use Rattle.clone_copying.specs.Connecting.{AreLent, Connects, DeskSeat, WasRefused}
use Rattle.clone_copying.specs.Fetching.{AreOver, Fetches, HasCause, refused_as}
use Rattle.clone_copying.specs.Passing.{Acts, Stays}
use Rattle.clone_copying.specs.Turning.{Waits}
use Rattle.clone_copying.specs.declared.fetch_end.FetchEnd.{FetchEnd}
use Rattle.clone_copying.specs.declared.fetch_end.FetchEnd.TheVariants as ending
use Rattle.clone_copying.specs.declared.talk.Talk.{Talk}
use Rattle.clone_copying.proofs.CallLemmas.{calls_later, calls_more, cause_more, waits_none}
use Rattle.clone_copying.proofs.CallingLemmas.{worked_map}
use Rattle.clone_copying.proofs.ConnectLemmas.{connects_lent, connects_none, connects_refused, lent_one}
use Rattle.clone_copying.proofs.FetchLemmas.{fetches_apart, fetches_over, over_one, passed_over}
use Rattle.clone_copying.proofs.TurnLemmas.{works_as, works_more, works_none}

abbrev IsNo : {A : Type 0} → Option A → Type 0
IsNo None = Unit
IsNo (Some x) = ⊥

pub never_none : {A : Type 0} (x : A) → Some x ≡ None → ⊥
never_none x is = subst IsNo (sym is) tt

-- ---- at the desk

module _ {N L : Type 0} (task : ℕ) (C : Type 0) where
  pub desk_once : (place : ℕ) (end back : L) (d e f : DeskSeat N L) → Worked (IsOne (call.Pair task) (answer.Paired (Ok (place, end)))) d e
      → Worked (IsOne (call.GiveBack place Requester back) answer.Kept) e f
      → Worked (λ made. Connects task ((end, back) ∷ []) made × (C → AreLent task ((end, back) ∷ []) made)) d f
  desk_once place end back d e f pair kept =
      worked_more (IsOne (call.Pair task) (answer.Paired (Ok (place, end)))) (IsOne (call.GiveBack place Requester back) answer.Kept)
      (λ made. Connects task ((end, back) ∷ []) made × (C → AreLent task ((end, back) ∷ []) made)) d e f pair kept
      (λ xs ys one other.
      let lent = lent_one task place end back xs ys one other in
      (connects_lent task ((end, back) ∷ []) (xs ++ ys) lent, λ on. lent))

  pub desk_refused : (cause : Refusal) (d e : DeskSeat N L) → (C → ⊥) → Worked (IsOne (call.Pair task) (answer.Paired (Err cause))) d e
      → Worked (λ made. Connects task [] made × (C → AreLent task [] made)) d e
  desk_refused cause d e never pair =
      worked_map (IsOne (call.Pair task) (answer.Paired (Err cause))) (λ made. Connects task [] made × (C → AreLent task [] made)) d e pair
      (λ made one. (connects_refused task cause made one, λ on. absurd (never on)))

  pub desk_none : (d : DeskSeat N L) → Worked (λ made. Connects task [] made × (C → AreLent task [] made)) d d
  desk_none d = ([], makes_none d, (connects_none task, λ on. refl))

-- a refused connection is the cause of the end that it brings
pub refused_cause : {N L R : Type 0} (H : Type 0) (task : ℕ) (cause : Refusal) (d e : DeskSeat N L) (made : List (RecipientEntry R)) → Worked (IsOne (call.Pair task) (answer.Paired (Err cause))) d e
    → HasCause (WasRefused task e) H (refused_as cause) made
refused_cause H task refusal.Fault d e made pair = (calls d.seen, pair.0, makes_calls d e pair.0 pair.1, pair.2)
refused_cause H task refusal.NoMemory d e made pair = tt

-- ---- at the recipient

module _ {L X R : Type 0} (link : Link L X) (F H : Type 0) where
  abbrev pub FetchedSo : FetcherModel R → FetcherModel R → (ℕ → Type 0) → List (L × L) → Option FetchEnd → List (RecipientEntry R) → Type 0
  FetchedSo u w P ends result made =
      Fetches link u.task P u.core ends made w.core × (result ≡ None → AreOver link ends made)
      × IfSome result (λ why. HasCause F H why made)

  -- without a connection, and none was asked for
  pub ends_before : (u v : FetcherModel R) (P : ℕ → Type 0) (why : FetchEnd) (O : List (RecipientEntry R) → Type 0) → Works (λ made. Waits u.task P u.core made v.core × O made × HasCause ⊥ H why made) u v
      → Works (FetchedSo u v P [] (Some why)) u v
  ends_before u v P why O works =
      works_as (λ made. Waits u.task P u.core made v.core × O made × HasCause ⊥ H why made) (FetchedSo u v P [] (Some why)) u v works
      (λ made is. (fetches_apart link u.task P u.core v.core made is.0, λ on. absurd (never_none why on), cause_more ⊥ F H H (λ never. absurd never) (λ h. h) why [] made is.2))

  -- without a connection, since none was got
  pub ends_refused : (u v : FetcherModel R) (P : ℕ → Type 0) (why : FetchEnd) (O : List (RecipientEntry R) → Type 0) → Works (λ made. Waits u.task P u.core made v.core × O made) u v
      → ((made : List (RecipientEntry R)) → HasCause F H why made) → Works (FetchedSo u v P [] (Some why)) u v
  ends_refused u v P why O works cause =
      works_as (λ made. Waits u.task P u.core made v.core × O made) (FetchedSo u v P [] (Some why)) u v works
      (λ made is. (fetches_apart link u.task P u.core v.core made is.0, λ on. absurd (never_none why on), cause made))

  some_cause : (G : Type 0) (result : Option FetchEnd) (xs ys : List (RecipientEntry R)) → IfSome result (λ why. HasCause ⊥ G why ys) → (G → H) → IfSome result (λ why. HasCause F H why (xs ++ ys))
  some_cause G None xs ys cause h = tt
  some_cause G (Some why) xs ys cause h = cause_more ⊥ F G H (λ never. absurd never) h why xs ys cause

  -- over one connection
  module _ (u v w : FetcherModel R) (P Q : ℕ → Type 0) (keeps : (n : ℕ) → P n → Q n) (talk : Talk L) (last closed : L) (first : List ℕ) (none : talk.left.items ≡ []) (sound : talk.lost ≡ false)
      (sent : IsUnused (link.sent talk.end)) (received : IsUnused (link.received talk.end)) (stays : Stays link last closed) (G : Type 0) (h : G → H) (result : Option FetchEnd) where
    abbrev pub OpensSo : List (RecipientEntry R) → Type 0
    OpensSo made = Waits u.task P u.core made v.core × (put made ≡ first)

    abbrev pub ActsSo : List (RecipientEntry R) → Type 0
    ActsSo made = Acts link v.task Q v.core first talk last made w.core × IfSome result (λ why. HasCause ⊥ G why made)

    pub fetched_once : Works OpensSo u v → Works ActsSo v w → Works (FetchedSo u w Q ((talk.end, closed) ∷ []) result) u w
    fetched_once opens acts =
        works_more OpensSo ActsSo (FetchedSo u w Q ((talk.end, closed) ∷ []) result) u v w opens acts
        (λ xs ys opened acted.
        let acts_now : Acts link u.task Q v.core first talk last ys w.core = subst (λ k. Acts link k Q v.core first talk last ys w.core) opens.0 acted.0 in
        let passed = passed_over link talk last closed first xs ys opened.0.apart opened.1 none sound stays u.task Q v.core w.core sent received acts_now in
        let over = over_one link talk.end closed (xs ++ ys) passed in (
          fetches_over link u.task Q u.core w.core ((talk.end, closed) ∷ []) (xs ++ ys) over
              (calls_more u.task Q u.core v.core w.core xs ys (calls_later u.task P Q keeps u.core v.core xs opened.0.calls) acts_now.calls),
          λ on. over,
          some_cause G result xs ys acted.1 h,
        ))

-- the run was halted before
pub halts_first : {N L X R : Type 0} (link : Link L X) (F H : Type 0) (P : ℕ → Type 0) (v w : FetcherModel R) (d : DeskSeat N L) → w ≡ v → H
    → (ends : List (L × L)) × Worked (Connects v.task ends) d d × Works (λ made. Fetches link v.task P v.core ends made w.core × HasCause F H ending.Halted made) v w
halts_first link F H P v w d same halted =
    subst (λ (z : FetcherModel _). (ends : List _) × Worked (Connects v.task ends) d d × Works (λ made. Fetches link v.task P v.core ends made z.core × HasCause F H ending.Halted made) v z) (sym same) (
      [],
      worked_none (Connects v.task []) d (connects_none v.task),
      works_none (λ made. Fetches link v.task P v.core [] made v.core × HasCause F H ending.Halted made) v v refl refl (fetches_apart link v.task P v.core v.core [] (waits_none v.task P v.core), halted),
    )

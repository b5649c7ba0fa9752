-- What a stop leaves, from call to call.
use Rattle.std.proofs.Common.{◌≡◌, ◌≢◌, inl, inr, List, [], ◌∷◌, ◌++◌, refl, sym, ap, ◌∙◌, subst, Some, None}
use Rattle.std.specs.List.{AllByRecursion}
use Rattle.std.specs.Prelude.{Result, Ok, Err, OnOk, OnErr}
use Rattle.std.specs.declared.option.Option.{Option}
use Rattle.std.proofs.lemmas.List.{append_assoc}
use Rattle.clone_outside.specs.Disk.{DiskImage}
use Rattle.clone_outside.specs.DiskCalls.{DiskState, IsSettled, IsGiven, Orders, Syncs, with_order}
use Rattle.clone_outside.specs.Stops.{DiskChange, Moment, Moments, all_moments, noted, settled, then_at, MayLeave, Torn, Leaves, LeavesSince, Keeps, Notes, Settles, ForMoments, IsClosed, Stays}
use Rattle.clone_outside.specs.declared.Refusal.{Refusal}
use Rattle.clone_outside.specs.declared.disk.DiskOrder.{DiskOrder}
use Rattle.clone_outside.specs.declared.disk.DiskOrder.TheVariants.{FailAt, Tear, Stop, Again}

abbrev Relation : Type 1
Relation = DiskImage → DiskImage → Type 0

-- what a relation has to have
pub record IsPreorder (R : DiskImage → DiskImage → Type 0) : Type 0 where
  pub itself : (m : DiskImage) → R m m
  pub then : (a b c : DiskImage) → R a b → R b c → R a c

module _ (R : DiskImage → DiskImage → Type 0) (order : IsPreorder R) where
  pub leaves_same : (a : Moment) → Leaves R a a
  leaves_same a c left = (c, left, order.itself c)

  pub leaves_then : (a b c : Moment) → Leaves R a b → Leaves R b c → Leaves R a c
  leaves_then a b c first second image left =
      let mid = second image left in
      let start = first mid.0 mid.1 in
      (start.0, start.1, order.then start.0 mid.0 image start.2 mid.2)

  -- one change more
  pub leaves_noted : (a : Moment) (x : DiskChange) (ms : Moments) → ms.now ≡ a → ((d c : DiskImage) → MayLeave a d → Torn x d c → R d c) → Leaves R a (noted x ms).now
  leaves_noted a x ms is torn c left =
      let from = subst (λ (m : Moment). MayLeave m left.0) is left.1 in
      elim (left.2) [
        | inl e ↦ (left.0, from, subst (λ (m : DiskImage). R left.0 m) (sym e) (order.itself left.0))
        | inr t ↦ (left.0, from, torn left.0 c from t)
      ]

  -- all that is held stays
  pub leaves_settled : (a : Moment) (m : DiskImage) → MayLeave a m → Leaves R a (settled m)
  leaves_settled a m held c left = (c, subst (MayLeave a) (sym left) held, order.itself c)

  pub since_same : (ms : Moments) → LeavesSince R ms ms
  since_same ms = record { since = []; are = refl; each = tt; now = leaves_same ms.now }

  both : (a b : Moment) (xs ys : List Moment) → Leaves R a b → AllByRecursion (Leaves R b) xs → AllByRecursion (Leaves R a) ys → AllByRecursion (Leaves R a) (xs ++ ys)
  both a b [] ys first new old = old
  both a b (x ∷ xs) ys first new old = (leaves_then a b x first new.0, both a b xs ys first new.1 old)

  pub since_then : (a b c : Moments) → LeavesSince R a b → LeavesSince R b c → LeavesSince R a c
  since_then a b c first second = record {
    since = second.since ++ first.since;
    are = second.are ∙ ap (λ (xs : List Moment). second.since ++ xs) first.are ∙ sym (append_assoc second.since first.since (all_moments a));
    each = both a.now b.now second.since first.since first.now second.each first.each;
    now = leaves_then a.now b.now c.now first.now second.now;
  }

  since_at : (ms : Moments) (next : Moment) → Leaves R ms.now next → LeavesSince R ms (then_at next ms)
  since_at ms next leaves = record { since = next ∷ []; are = refl; each = (leaves, tt); now = leaves }

  pub keeps_same : (old new : Option Moments) → new ≡ old → Keeps R old new
  keeps_same None new is = is
  keeps_same (Some ms) new is = (ms, is, since_same ms)

  pub keeps_then : (a b c : Option Moments) → Keeps R a b → Keeps R b c → Keeps R a c
  keeps_then None b c first second = subst (λ (o : Option Moments). Keeps R o c) first second
  keeps_then (Some a) b c first second =
      let next = subst (λ (o : Option Moments). Keeps R o c) first.1 second in
      (next.0, next.1, since_then a first.0 next.0 first.2 next.2)

  pub keeps_noted : (old new : Option Moments) (x : DiskChange) → Notes old new x → ForMoments old (λ ms. (d c : DiskImage) → MayLeave ms.now d → Torn x d c → R d c) → Keeps R old new
  keeps_noted old new x (inl same) torn = keeps_same old new same
  keeps_noted None new x (inr more) torn = more
  keeps_noted (Some ms) new x (inr more) torn = (noted x ms, more, since_at ms (noted x ms).now (leaves_noted ms.now x ms refl torn))

  pub keeps_settled : {T : Type 0} (result : Result T Refusal) (old new : DiskState) → IsSettled result old new → Keeps R old.stops new.stops
  keeps_settled (Err e) old new is = keeps_same old.stops new.stops is
  keeps_settled (Ok x) old new is = at old.stops is
    where
      at : (o : Option Moments) → Settles old.told o new.stops → Keeps R o new.stops
      at None is = is
      at (Some ms) (m, tells, (image, closes, left, goes)) = (then_at (settled image) ms, goes, since_at ms (settled image) (leaves_settled ms.now image left))

-- an order that isn't to go on after a stop changes nothing but the orders
pub orders_given : {X E : Type 0} (order : DiskOrder) (old new : DiskState) (r : Result X E) → order ≢ Again → OnOk r (IsGiven order old new) → OnErr r (new ≡ old) → Orders order old new r
orders_given order old new (Err e) other given refused = refused
orders_given (FailAt call) old new (Ok x) other given refused = given
orders_given (Tear byte) old new (Ok x) other given refused = given
orders_given (Stop calls choice) old new (Ok x) other given refused = given
orders_given Again old new (Ok x) other given refused = absurd (other refl)

-- a disk that does nothing on orders
pub given_noted : (order : DiskOrder) (old new : DiskState) → new ≡ with_order order old → IsGiven order old new
given_noted (FailAt call) old new is = is
given_noted (Tear byte) old new is = is
given_noted (Stop calls choice) old new is = is
given_noted Again old new is = inl is

module _ (R : DiskImage → DiskImage → Type 0) (order : IsPreorder R) where
  -- a change that does R whatever it meets
  pub keeps_change : (old new : Option Moments) (x : DiskChange) → Notes old new x → ((d c : DiskImage) → Torn x d c → R d c) → Keeps R old new
  keeps_change old new x notes does = keeps_noted R order old new x notes (at old)
    where
      at : (o : Option Moments) → ForMoments o (λ ms. (d c : DiskImage) → MayLeave ms.now d → Torn x d c → R d c)
      at None = tt
      at (Some ms) = λ d c left torn. does d c torn

module _ (R S : DiskImage → DiskImage → Type 0) where
  all_from : (a : Moment) (ws : List Moment) → ((d c : DiskImage) → MayLeave a d → R d c → S d c) → AllByRecursion (Leaves R a) ws → AllByRecursion (Leaves S a) ws
  all_from a [] does all = tt
  all_from a (w ∷ ws) does all = ((λ c left. let from = all.0 c left in (from.0, from.1, does from.0 c from.1 from.2)), all_from a ws does all.1)

  -- a relation by another, from what the disk was at the start
  pub keeps_from : (old new : Option Moments) → Keeps R old new → ForMoments old (λ ms. (d c : DiskImage) → MayLeave ms.now d → R d c → S d c) → Keeps S old new
  keeps_from None new keeps does = keeps
  keeps_from (Some ms) new (next, is, leaves) does = (
    next,
    is,
    record {
      since = leaves.since;
      are = leaves.are;
      each = all_from ms.now leaves.since does leaves.each;
      now = λ c left. let from = leaves.now c left in (from.0, from.1, does from.0 c from.1 from.2);
    },
  )

  pub keeps_weaker : (old new : Option Moments) → Keeps R old new → ((d c : DiskImage) → R d c → S d c) → Keeps S old new
  keeps_weaker old new keeps does = keeps_from old new keeps (at old)
    where
      at : (o : Option Moments) → ForMoments o (λ ms. (d c : DiskImage) → MayLeave ms.now d → R d c → S d c)
      at None = tt
      at (Some ms) = λ d c left is. does d c is

-- A disk of which all stays.

pub stays_settled : (told now : Option DiskImage) (old new : Option Moments) → now ≡ told → Settles told old new → Stays now new
stays_settled told now None new same is = subst (λ (o : Option Moments). Stays now o) (sym is) tt
stays_settled told now (Some ms) new same (m, tells, (image, closes, left, goes)) = subst (λ (o : Option Moments). Stays now o) (sym goes) (m, same ∙ tells, (image, closes, refl))

-- after a sync that was answered Ok
pub stays_synced : {T : Type 0} (result : Result T Refusal) (old new : DiskState) → Syncs old new result → OnOk result (Stays new.told new.stops)
stays_synced (Err e) old new is = tt
stays_synced (Ok x) old new is = stays_settled old.told new.told old.stops new.stops is.told is.stops

-- what a stop may leave of it is known
pub stays_from : (R S : DiskImage → DiskImage → Type 0) (told : Option DiskImage) (old : Option Moments) → Stays told old → ((m image c : DiskImage) → told ≡ Some m → IsClosed m image → R image c → S image c)
    → ForMoments old (λ ms. (d c : DiskImage) → MayLeave ms.now d → R d c → S d c)
stays_from R S told None stays does = tt
stays_from R S told (Some ms) (m, tells, (image, closes, is)) does = λ d c left r.
    let same : d ≡ image = subst (λ (a : Moment). MayLeave a d) is left in
    subst (λ (x : DiskImage). S x c) (sym same) (does m image c tells closes (subst (λ (x : DiskImage). R x c) same r))

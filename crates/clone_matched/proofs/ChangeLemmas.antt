-- What the calls of a desk do to one record, in their order.
use Rattle.std.proofs.Common.{ℕ, ◌≡◌, ◌≤◌, ◌==◌, ◌⊎◌, Bool, true, false, cond, List, [], ◌∷◌, refl, sym, ap, ◌∙◌, subst, Ok, Err, Some, None, inl, inr, eqb→eq, T, arith}
use Rattle.std.specs.List.{AllByRecursion}
use Rattle.std.proofs.lemmas.Bool.{eq-eqb}
use Rattle.clone_outside.specs.declared.link.Side.{Side}
use Rattle.clone_outside.specs.declared.link.Side.TheVariants.{Donor, Requester}
use Rattle.clone_turn.specs.Parts.{IsSublist}
use Rattle.clone_turn.specs.Rule.{total}
use Rattle.clone_desk.specs.declared.machine.DeskAnswer.{DeskAnswer}
use Rattle.clone_desk.specs.declared.machine.DeskAnswer.TheVariants as answer
use Rattle.clone_desk.specs.declared.machine.DeskCall.{DeskCall}
use Rattle.clone_desk.specs.declared.machine.DeskCall.TheVariants as call
use Rattle.clone_desk.specs.declared.record.DonorEnd.{DonorEnd}
use Rattle.clone_desk.specs.declared.record.DonorEnd.TheVariants.{Waits, Out, Back}
use Rattle.clone_desk.specs.declared.record.Record.{Record}
use Rattle.clone_desk.specs.Records.{does_wait, handed_out, or_back, or_some, with_end}
use Rattle.clone_desk.specs.Steps.{DeskEntry}
use Rattle.clone_matched.proofs.TotalLemmas.{total_sublist}

-- one where it is so
abbrev pub one_if : Bool → ℕ
one_if true = 1
one_if false = 0

pub no_one : ◌≡◌ {A = ℕ} 0 1 → ⊥
no_one one = omega (arith, one)

pub here : (k : ℕ) → one_if (k == k) ≡ 1
here k = ap one_if (eq-eqb k k refl)

pub is_there : (p k : ℕ) → one_if (p == k) ≡ 1 → p ≡ k
is_there p k one = by (p == k) refl one
  where
    by : (b : Bool) → (p == k) ≡ b → one_if b ≡ 1 → p ≡ k
    by true same one = eqb→eq p k (subst T (sym same) tt)
    by false apart one = absurd (no_one one)

bit : (p k : ℕ) → (one_if (p == k) ≡ 0) ⊎ (one_if (p == k) ≡ 1)
bit p k = by (p == k)
  where
    by : (b : Bool) → (one_if b ≡ 0) ⊎ (one_if b ≡ 1)
    by true = inr refl
    by false = inl refl

module _ {L : Type 0} where
  -- how many ends of the side the answer lends at the place: one, or none
  abbrev pub lends_by : Side → ℕ → DeskAnswer L → ℕ
  lends_by side k (answer.HandedOut None) = 0
  lends_by Donor k (answer.HandedOut (Some x)) = one_if (x.0 == k)
  lends_by Requester k (answer.HandedOut (Some x)) = 0
  lends_by side k (answer.Paired (Err why)) = 0
  lends_by Donor k (answer.Paired (Ok x)) = 0
  lends_by Requester k (answer.Paired (Ok x)) = one_if (x.0 == k)
  lends_by side k answer.Kept = 0

  -- how many the call gives back there
  abbrev pub gives_by : Side → ℕ → DeskCall L → ℕ
  gives_by side k (call.Pair task) = 0
  gives_by side k (call.DonorEnd task) = 0
  gives_by Donor k (call.GiveBack place Donor end) = one_if (place == k)
  gives_by Donor k (call.GiveBack place Requester end) = 0
  gives_by Requester k (call.GiveBack place Donor end) = 0
  gives_by Requester k (call.GiveBack place Requester end) = one_if (place == k)

  pub lends_one : (side : Side) (k : ℕ) (a : DeskAnswer L) → (lends_by side k a ≡ 0) ⊎ (lends_by side k a ≡ 1)
  lends_one side k (answer.HandedOut None) = inl refl
  lends_one Donor k (answer.HandedOut (Some x)) = bit x.0 k
  lends_one Requester k (answer.HandedOut (Some x)) = inl refl
  lends_one side k (answer.Paired (Err why)) = inl refl
  lends_one Donor k (answer.Paired (Ok x)) = inl refl
  lends_one Requester k (answer.Paired (Ok x)) = bit x.0 k
  lends_one side k answer.Kept = inl refl

  pub gives_here : (side : Side) (k : ℕ) (end : L) → gives_by side k (call.GiveBack k side end) ≡ 1
  gives_here Donor k end = here k
  gives_here Requester k end = here k

  -- the record at the place after the call
  abbrev pub changed : ℕ → DeskCall L → DeskAnswer L → Record L → Record L
  changed k (call.Pair task) a r = r
  changed k (call.DonorEnd task) (answer.HandedOut (Some x)) r = cond (x.0 == k) (handed_out r) r
  changed k (call.DonorEnd task) (answer.HandedOut None) r = r
  changed k (call.DonorEnd task) (answer.Paired result) r = r
  changed k (call.DonorEnd task) answer.Kept r = r
  changed k (call.GiveBack place side end) a r = cond (place == k) (with_end side end r) r

  pub changed_here : (side : Side) (k : ℕ) (end : L) (a : DeskAnswer L) (r : Record L) → changed k (call.GiveBack k side end) a r ≡ with_end side end r
  changed_here side k end a r = ap (λ b. cond b (with_end side end r) r) (eq-eqb k k refl)

  either : (P : Record L → Type 0) (b : Bool) (r new : Record L) → P r → (one_if b ≡ 1 → P new) → P (cond b new r)
  either P true r new was is = is refl
  either P false r new was is = was

  -- it is as it was, or was handed out, or got an end back
  pub changed_by : (P : Record L → Type 0) (k : ℕ) (c : DeskCall L) (a : DeskAnswer L) (r : Record L) → P r → (lends_by Donor k a ≡ 1 → P (handed_out r))
      → ((side : Side) (end : L) → gives_by side k c ≡ 1 → P (with_end side end r)) → P (changed k c a r)
  changed_by P k (call.Pair task) a r was out back = was
  changed_by P k (call.DonorEnd task) (answer.HandedOut (Some x)) r was out back = either P (x.0 == k) r (handed_out r) was out
  changed_by P k (call.DonorEnd task) (answer.HandedOut None) r was out back = was
  changed_by P k (call.DonorEnd task) (answer.Paired result) r was out back = was
  changed_by P k (call.DonorEnd task) answer.Kept r was out back = was
  changed_by P k (call.GiveBack place Donor end) a r was out back = either P (place == k) r (with_end Donor end r) was (back Donor end)
  changed_by P k (call.GiveBack place Requester end) a r was out back = either P (place == k) r (with_end Requester end r) was (back Requester end)

module _ {N L : Type 0} where
  abbrev pub lends_at : Side → ℕ → DeskEntry N L → ℕ
  lends_at side k e = lends_by side k e.answer

  abbrev pub gives_at : Side → ℕ → DeskEntry N L → ℕ
  gives_at side k e = gives_by side k e.call

  abbrev pub change : ℕ → DeskEntry N L → Record L → Record L
  change k e r = changed k e.call e.answer r

  -- after all of the calls
  abbrev pub after_all : ℕ → List (DeskEntry N L) → Record L → Record L
  after_all k [] r = r
  after_all k (e ∷ es) r = after_all k es (change k e r)

  pub after_keeps : (k : ℕ) (P : Record L → Type 0) (Fine : DeskEntry N L → Type 0) → ((e : DeskEntry N L) (r : Record L) → Fine e → P r → P (change k e r))
      → (es : List (DeskEntry N L)) (r : Record L) → AllByRecursion Fine es → P r → P (after_all k es r)
  after_keeps k P Fine keeps [] r fine is = is
  after_keeps k P Fine keeps (e ∷ es) r fine is = after_keeps k P Fine keeps es (change k e r) fine.1 (keeps e r fine.0 is)

  -- AN END COMES BACK once, so it is the one that the record gets
  module _ (k : ℕ) (side : Side) (end : L) (Before After : Record L → Type 0) (Fine : DeskEntry N L → Type 0)
      (stays : (e : DeskEntry N L) (r : Record L) → Fine e → gives_at side k e ≡ 0 → Before r → Before (change k e r))
      (turns : (r : Record L) → Before r → After (with_end side end r))
      (lasts : (e : DeskEntry N L) (r : Record L) → Fine e → After r → After (change k e r)) where
    comes_back : (f : DeskEntry N L) (es : List (DeskEntry N L)) (r : Record L) → f.call ≡ call.GiveBack k side end → IsSublist (f ∷ []) es → total (gives_at side k) es ≤ 1
        → AllByRecursion Fine es → Before r → After (after_all k es r)
    comes_back f [] r gives within few fine is = absurd within
    comes_back f (e ∷ es) r gives (inl same) few fine is =
        let called : e.call ≡ call.GiveBack k side end = ap (λ (x : DeskEntry N L). x.call) (sym same.0) ∙ gives in
        let new : change k e r ≡ with_end side end r = ap (λ c. changed k c e.answer r) called ∙ changed_here side k end e.answer r in
        after_keeps k After Fine lasts es (change k e r) fine.1 (subst After (sym new) (turns r is))
    comes_back f (e ∷ es) r gives (inr within) few fine is =
        let one : gives_at side k f ≡ 1 = ap (gives_by side k) gives ∙ gives_here side k end in
        let low = total_sublist (gives_at side k) (f ∷ []) es within in
        comes_back f es (change k e r) gives within (omega (arith, few)) fine.1 (stays e r fine.0 (omega (arith, few, one, low)) is)

  any_call : (es : List (DeskEntry N L)) → AllByRecursion (λ e. Unit {0}) es
  any_call [] = tt
  any_call (e ∷ es) = (tt, any_call es)

  -- the task stays
  pub task_stays : (k t : ℕ) (es : List (DeskEntry N L)) (r : Record L) → r.task ≡ t → (after_all k es r).task ≡ t
  task_stays k t es r is = after_keeps k (λ x. x.task ≡ t) (λ e. Unit {0}) keeps es r (any_call es) is
    where
      back : (x : Record L) (side : Side) (end : L) → x.task ≡ t → (with_end side end x).task ≡ t
      back x Donor end is = is
      back x Requester end is = is

      keeps : (e : DeskEntry N L) (x : Record L) → Unit {0} → x.task ≡ t → (change k e x).task ≡ t
      keeps e x fine is = changed_by (λ y. y.task ≡ t) k e.call e.answer x is (λ one. is) (λ side end one. back x side end is)

  -- THE REQUESTER'S END
  pub requester_back : (k : ℕ) (end : L) (f : DeskEntry N L) (es : List (DeskEntry N L)) (r : Record L) → f.call ≡ call.GiveBack k Requester end → IsSublist (f ∷ []) es
      → total (gives_at Requester k) es ≤ 1 → r.requester ≡ None → (after_all k es r).requester ≡ Some end
  requester_back k end f es r gives within few none =
      comes_back k Requester end (λ x. x.requester ≡ None) (λ x. x.requester ≡ Some end) (λ e. Unit {0}) stays (λ x is. ap (λ o. or_some o end) is) lasts f es r gives within few (any_call es) none
    where
      no_back : (c : DeskCall L) (x : Record L) (side : Side) (other : L) → gives_by Requester k c ≡ 0 → x.requester ≡ None → gives_by side k c ≡ 1 → (with_end side other x).requester ≡ None
      no_back c x Donor other idle is one = is
      no_back c x Requester other idle is one = absurd (no_one (sym idle ∙ one))

      stays : (e : DeskEntry N L) (x : Record L) → Unit {0} → gives_at Requester k e ≡ 0 → x.requester ≡ None → (change k e x).requester ≡ None
      stays e x fine idle is = changed_by (λ y. y.requester ≡ None) k e.call e.answer x is (λ one. is) (λ side other one. no_back e.call x side other idle is one)

      kept : (x : Record L) (side : Side) (other : L) → x.requester ≡ Some end → (with_end side other x).requester ≡ Some end
      kept x Donor other is = is
      kept x Requester other is = ap (λ o. or_some o other) is

      lasts : (e : DeskEntry N L) (x : Record L) → Unit {0} → x.requester ≡ Some end → (change k e x).requester ≡ Some end
      lasts e x fine is = changed_by (λ y. y.requester ≡ Some end) k e.call e.answer x is (λ one. is) (λ side other one. kept x side other is)

  -- THE DONOR'S END, where none is handed out any more
  abbrev pub HandsNone : ℕ → DeskEntry N L → Type 0
  HandsNone k e = lends_at Donor k e ≡ 0

  pub donor_back : (k : ℕ) (end : L) (f : DeskEntry N L) (es : List (DeskEntry N L)) (r : Record L) → f.call ≡ call.GiveBack k Donor end → IsSublist (f ∷ []) es
      → total (gives_at Donor k) es ≤ 1 → AllByRecursion (HandsNone k) es → r.donor ≡ Out → (after_all k es r).donor ≡ Back end
  donor_back k end f es r gives within few hands out =
      comes_back k Donor end (λ x. x.donor ≡ Out) (λ x. x.donor ≡ Back end) (HandsNone k) stays (λ x is. ap (λ d. or_back d end) is) lasts f es r gives within few hands out
    where
      no_back : (c : DeskCall L) (x : Record L) (side : Side) (other : L) → gives_by Donor k c ≡ 0 → x.donor ≡ Out → gives_by side k c ≡ 1 → (with_end side other x).donor ≡ Out
      no_back c x Donor other idle is one = absurd (no_one (sym idle ∙ one))
      no_back c x Requester other idle is one = is

      stays : (e : DeskEntry N L) (x : Record L) → HandsNone k e → gives_at Donor k e ≡ 0 → x.donor ≡ Out → (change k e x).donor ≡ Out
      stays e x fine idle is = changed_by (λ y. y.donor ≡ Out) k e.call e.answer x is (λ one. refl) (λ side other one. no_back e.call x side other idle is one)

      kept : (x : Record L) (side : Side) (other : L) → x.donor ≡ Back end → (with_end side other x).donor ≡ Back end
      kept x Donor other is = ap (λ d. or_back d other) is
      kept x Requester other is = is

      lasts : (e : DeskEntry N L) (x : Record L) → HandsNone k e → x.donor ≡ Back end → (change k e x).donor ≡ Back end
      lasts e x fine is = changed_by (λ y. y.donor ≡ Back end) k e.call e.answer x is (λ one. absurd (no_one (sym fine ∙ one))) (λ side other one. kept x side other is)

  -- an end that waits, and is never handed out
  pub waits_on : (k : ℕ) (end : L) (es : List (DeskEntry N L)) (r : Record L) → AllByRecursion (HandsNone k) es → r.donor ≡ Waits end → (after_all k es r).donor ≡ Waits end
  waits_on k end es r hands is = after_keeps k (λ x. x.donor ≡ Waits end) (HandsNone k) keeps es r hands is
    where
      back : (x : Record L) (side : Side) (other : L) → x.donor ≡ Waits end → (with_end side other x).donor ≡ Waits end
      back x Donor other is = ap (λ d. or_back d other) is
      back x Requester other is = is

      keeps : (e : DeskEntry N L) (x : Record L) → HandsNone k e → x.donor ≡ Waits end → (change k e x).donor ≡ Waits end
      keeps e x fine is = changed_by (λ y. y.donor ≡ Waits end) k e.call e.answer x is (λ one. absurd (no_one (sym fine ∙ one))) (λ side other one. back x side other is)

-- ---- A RECORD AT WHICH NO MORE ENDS OF THE SIDE ARE LENT

module _ {L : Type 0} where
  abbrev pub IsSpent : Side → Record L → Type 0
  IsSpent Donor r = does_wait r.donor ≡ false
  IsSpent Requester r = Unit {0}

  or_waits : (d : DonorEnd L) (end : L) → does_wait d ≡ false → does_wait (or_back d end) ≡ false
  or_waits (Waits e) end is = is
  or_waits Out end is = refl
  or_waits (Back e) end is = refl

  pub spent_stays : (side : Side) (k : ℕ) (c : DeskCall L) (a : DeskAnswer L) (r : Record L) → IsSpent side r → IsSpent side (changed k c a r)
  spent_stays Donor k c a r is = changed_by (IsSpent Donor) k c a r is (λ one. refl) (λ side end one. back side end)
    where
      back : (side : Side) (end : L) → does_wait (with_end side end r).donor ≡ false
      back Donor end = or_waits r.donor end is
      back Requester end = is
  spent_stays Requester k c a r is = tt

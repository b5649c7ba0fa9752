-- A call of the donor by its step: what it makes happen in a world.
use Rattle.std.proofs.Common.{◌≡◌, ℕ, ◌+◌, ◌&&◌, List, Bool, true, false, refl, sym, ap, ◌∙◌, subst, Option, Some, None, is_some, IsTrue, Result, Ok, Err, nat_cmp}
use Rattle.std.specs.FinMap as finite
use Rattle.clone_outside.specs.Disk.{DiskImage, ForTold}
use Rattle.clone_plain.specs.declared.refusal.EngineRefusal.{EngineRefusal}
use Rattle.clone_plain.specs.declared.refusal.EngineRefusal.TheVariants.{Because, NoMemory}
use Rattle.clone_plain.specs.Effects.{Gets}
use Rattle.clone_plain.specs.declared.call.EngineAnswer.{EngineAnswer}
use Rattle.clone_plain.specs.declared.call.EngineAnswer.TheVariants as answers
use Rattle.clone_plain.specs.declared.call.EngineCall.{EngineCall}
use Rattle.clone_plain.specs.declared.call.EngineCall.TheVariants as call
use Rattle.clone_events.specs.World.{index_in}
use Rattle.clone_events.specs.Events.{made, counted, Sees}
use Rattle.clone_engine.specs.Acts.{EngineActs}
use Rattle.clone_engine.specs.Donor as staged
use Rattle.clone_engine.specs.Engine.{Engine, IsEngine}
use Rattle.clone_engine.specs.Steps.{answer_of}
use Rattle.clone_core.specs.System.{donor_of, tell}
use Rattle.clone_core.specs.Lines.{State}
use Rattle.clone_core.specs.Called.{Stays, Called}
use Rattle.clone_core.proofs.StepLemmas.{transacted, answered_visits, answered_wants, refused_counts, refused_sees}

-- ---- facts that stand where something is told

pub told_is : (told : Option DiskImage) (P : DiskImage → Type 0) → is_some told ≡ true → ForTold told P → (m : DiskImage) × (told ≡ Some m) × P m
told_is None P there is = absurd (let e : false ≡ true = there in cc)
told_is (Some m) P there is = (m, refl, is)

pub both_left : (a b : Bool) → (a && b) ≡ true → a ≡ true
both_left true b is = refl
both_left false b is = is

pub both_right : (a b : Bool) → (a && b) ≡ true → b ≡ true
both_right true b is = is
both_right false b is = absurd (let e : false ≡ true = is in cc)

-- where the disk tells what it holds, what was read was right
pub right_of : (e : Engine) → IsEngine e → is_some e.disk.told ≡ true → IsTrue e.buffer.right
right_of e is there = let at = told_is e.disk.told _ there is.stands in at.2.kept.right

-- ---- a call in a world: r is the world before it, as its fields are

-- the donor has become this one, and the writers' counts these
abbrev pub with_donor : State → staged.Donor → finite.FinMap nat_cmp ℕ → State
with_donor s d counts = record s {
  donor = record s.donor { donor = d };
  begun = counts;
  tells = is_some d.engine.disk.told && is_some s.donor.recipient.told;
}

-- the fields tell of the donor what it is
abbrev pub IsShown : State → Type 0
IsShown r = r.tells ≡ tell r.donor

pub same_tells : (r : State) (t : staged.Donor) → IsShown r → is_some t.engine.disk.told ≡ is_some r.donor.donor.engine.disk.told → (is_some t.engine.disk.told && is_some r.donor.recipient.told) ≡ r.tells
same_tells r t is same = ap (λ b. b && is_some r.donor.recipient.told) same ∙ sym is

happens : {X : Type 0} (r : State) (t : staged.Donor) (counts : finite.FinMap nat_cmp ℕ) (asked : EngineCall) (did : X → EngineAnswer) (result : Result X EngineRefusal) → IsShown r → ((x : X) → result ≡ Ok x → counts ≡ counted (made asked (Ok (did x))) r.begun)
    → ((refusal : EngineRefusal) → result ≡ Err refusal → counts ≡ r.begun) → ((x : X) → result ≡ Ok x → r.tells ≡ true → Sees (donor_of r.donor) (made asked (Ok (did x)))) → EngineActs asked (answer_of did result) r.donor.donor t
    → Called r asked did result (with_donor r t counts)
happens r t counts asked did (Ok x) shown grown kept sees is = record {
  step = (is, refl);
  begun = grown x refl;
  clone = record { now = tt; shows = tt; is = refl };
  tells = same_tells r t shown (answered_visits asked r.donor.donor t _ is.does).tells;
  tasks = refl;
  sees = sees x refl;
}
happens r t counts asked did (Err (Because cause)) shown grown kept sees is = record {
  step = (is, refl);
  begun = kept (Because cause) refl ∙ sym (refused_counts asked cause r.begun);
  clone = record { now = tt; shows = tt; is = refl };
  tells = same_tells r t shown (answered_visits asked r.donor.donor t _ is.does).tells;
  tasks = refl;
  sees = λ told. refused_sees asked cause (donor_of r.donor);
}
happens r t counts asked did (Err NoMemory) shown grown kept sees is = record { donor = answered_wants asked r.donor.donor t is.does; begun = kept NoMemory refl; tells = same_tells r t shown (answered_visits asked r.donor.donor t _ is.does).tells; tasks = refl; clone = refl }

-- no writer is counted
pub called : {X : Type 0} (r s : State) (t : staged.Donor) (asked : EngineCall) (did : X → EngineAnswer) (result : Result X EngineRefusal) → r ≡ s → IsShown r → ((x : X) → counted (made asked (Ok (did x))) r.begun ≡ r.begun)
    → ((x : X) → result ≡ Ok x → r.tells ≡ true → Sees (donor_of r.donor) (made asked (Ok (did x)))) → EngineActs asked (answer_of did result) r.donor.donor t → Called s asked did result (with_donor r t r.begun)
called r s t asked did result is shown uncounted sees given =
    let P : State → Type 0 = λ w. Called w asked did result (with_donor r t r.begun) in
    subst P is (happens r t r.begun asked did result shown (λ x _. sym (uncounted x)) (λ _ _. refl) sees given)

-- the same where the number of a table is what its type holds
pub called_on : {X : Type 0} (r s : State) (t : staged.Donor) (asked : ℕ → EngineCall) (did : X → EngineAnswer) (result : Result X EngineRefusal) (number table : ℕ) → number ≡ table → r ≡ s → IsShown r → ((x : X) → counted (made (asked number) (Ok (did x))) r.begun ≡ r.begun)
    → ((x : X) → result ≡ Ok x → r.tells ≡ true → Sees (donor_of r.donor) (made (asked number) (Ok (did x)))) → EngineActs (asked number) (answer_of did result) r.donor.donor t → Called s (asked table) did result (with_donor r t r.begun)
called_on r s t asked did result number table named is shown uncounted sees given =
    let P : ℕ → Type 0 = λ n. Called s (asked n) did result (with_donor r t r.begun) in
    subst P named (called r s t (asked number) did result is shown uncounted sees given)

same_ok : {a b : Option (List ℕ)} → ◌≡◌ {A = Result (Option (List ℕ)) EngineRefusal} (Ok a) (Ok b) → a ≡ b
same_ok e = cc

-- the value that was got is the row's, where the disk tells what it holds
pub got : (d t : staged.Donor) (recipient : Bool) (trx table key : ℕ) (result : Result (Option (List ℕ)) EngineRefusal) → IsEngine t.engine → EngineActs (call.Get trx table key) (answer_of (λ value. answers.Get value) result) d t
    → (value : Option (List ℕ)) → result ≡ Ok value → (is_some d.engine.disk.told && recipient) ≡ true → Gets d.engine.donor trx table key value
got d t recipient trx table key (Err refusal) engine given value is told = absurd (let e = is in cc)
got d t recipient trx table key (Ok v) engine given value is told =
    let right = right_of t.engine engine ((answered_visits (call.Get trx table key) d t _ given.does).tells ∙ both_left _ recipient told) in
    let P : Option (List ℕ) → Type 0 = λ o. Gets d.engine.donor trx table key o in
    subst P (same_ok is) ((transacted _ d.engine t.engine _ given.does.steps).1.sees right)

-- a transaction began, and was counted; or none did, and none was
pub begun_called : (r s : State) (t : staged.Donor) (counts : finite.FinMap nat_cmp ℕ) (writer index : ℕ) (result : Result ℕ EngineRefusal) → r ≡ s → IsShown r → index ≡ index_in r.begun writer
    → ((trx : ℕ) → result ≡ Ok trx → counts ≡ finite.insert r.begun writer (index_in r.begun writer + 1)) → ((refusal : EngineRefusal) → result ≡ Err refusal → counts ≡ r.begun)
    → EngineActs (call.Begin writer index) (answer_of (λ trx. answers.Begin trx) result) r.donor.donor t
    → Called s (call.Begin writer (index_in s.begun writer)) (λ trx. answers.Begin trx) result (with_donor r t counts)
begun_called r s t counts writer index result is shown at grown kept given =
    let P : State → Type 0 = λ w. Called w (call.Begin writer (index_in w.begun writer)) (λ trx. answers.Begin trx) result (with_donor r t counts) in
    let Q : ℕ → Type 0 = λ n. Called r (call.Begin writer n) (λ trx. answers.Begin trx) result (with_donor r t counts) in
    subst P is (subst Q at (happens r t counts (call.Begin writer index) (λ trx. answers.Begin trx) result shown grown kept (λ _ _ _. tt) given))

-- memory ran out before the donor was asked
pub not_counted : (r s t : State) → r ≡ s → t ≡ r → Stays s t
not_counted r s t is same =
    let whole = same ∙ is in
    record { donor = ap (λ (w : State). donor_of w.donor) whole; begun = ap (λ (w : State). w.begun) whole; tells = ap (λ (w : State). w.tells) whole; tasks = ap (λ (w : State). w.tasks) whole; clone = ap (λ (w : State). w.clone) whole }

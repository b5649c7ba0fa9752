-- How a writer stays in agreement with the donor by what it asks itself.
use Rattle.std.proofs.Common.{◌≡◌, ◌+◌, ◌==◌, ◌∙◌, ◌++◌, ◌∷◌, [], ℕ, zero, suc, List, Bool, true, false, cond, Option, Some, None, Result, Ok, Err, refl, sym, ap, subst, take, slice_get, arith}
use Rattle.clone_plain.specs.declared.call.EngineAnswer.TheVariants as answers
use Rattle.clone_plain.specs.declared.refusal.Cause.TheVariants.{RowLocked}
use Rattle.clone_plain.specs.declared.refusal.EngineRefusal.TheVariants.{Because}
use Rattle.clone_workload.specs.Transactions.{stream}
use Rattle.clone_writer.specs.Writers.{Writer, asked, asked_at, at, changes_of, next_of, after_next, setting, told, told_at}
use Rattle.std.specs.FinMap as finite
use Rattle.clone_writer.proofs.Common.{nat_cmp-IsAntisymmetric, nat_cmp_total, same_Some, get-set_same, Change, Commit, Donor, Opened, EngineAnswer, EngineCall, EngineRefusal, Left, Ended, Changes, Commits, TakesBack, with_change, of_writer, IsAt, Leads, Agree, Place, Before, Within, Undoing}
use Rattle.clone_writer.proofs.Sparing.{more_own}

take_next : {X : Type 0} (xs : List X) (k : ℕ) (x : X) → slice_get xs k ≡ Some x → take k xs ++ x ∷ [] ≡ take (suc k) xs
take_next [] k x at = absurd cc
take_next (y ∷ ys) zero x at = (let same : y ≡ x = cc in ap (λ z. z ∷ []) (sym same))
take_next (y ∷ ys) (suc k) x at = ap (λ zs. y ∷ zs) (take_next ys k x at)

take_past : {X : Type 0} (xs : List X) (k : ℕ) → slice_get xs k ≡ None → take k xs ≡ xs
take_past [] zero at = refl
take_past [] (suc k) at = refl
take_past (y ∷ ys) zero at = absurd cc
take_past (y ∷ ys) (suc k) at = ap (λ zs. y ∷ zs) (take_past ys k at)

module _ (w : Writer) (d after : Donor) where
  -- nothing of transactions and commits has changed
  stays : (place : Place) → Agree (at place w) d → after.active ≡ d.active → after.binlog ≡ d.binlog → Agree (at place w) after
  stays place agree active binlog = record {
    commits = ap (of_writer w.number) binlog ∙ agree.commits;
    place = subst (λ (a : Opened). IsAt (at place w) place (record after { active = a })) (sym active) (as_at place agree.place);
  }
    where
      as_at : (p : Place) → IsAt (at place w) p d → IsAt (at place w) p (record after { active = d.active })
      as_at Before is = tt
      as_at (Within trx made) is = is
      as_at (Undoing trx) is = is

  -- a change is made
  changed : (trx made : ℕ) (change : Change) → slice_get (changes_of w) made ≡ Some change → Agree (at (Within trx made) w) d → Changes d trx change after → Agree (at (Within trx (made + 1)) w) after
  changed trx made change here agree is =
      let old : is.commit ≡ record { writer = w.number; index = w.index; changes = take made (changes_of w) } = same_Some is.commit _ (sym is.was_active ∙ agree.place) in
      record {
        commits = ap (λ (e : Donor). of_writer w.number e.binlog) is.is ∙ agree.commits;
        place =
            ap (λ (e : Donor). finite.get e.active trx) is.is ∙ get-set_same nat_cmp_total nat_cmp-IsAntisymmetric d.active trx (with_change change is.commit)
            ∙ ap (λ (c : Commit). Some (with_change change c)) old
            ∙ ap (λ (cs : List Change). Some (record { writer = w.number; index = w.index; changes = cs })) (take_next (changes_of w) made change here ∙ ap (λ n. take n (changes_of w)) (let on : suc made ≡ made + 1 = omega arith in on));
      }

  sets : (trx made : ℕ) (change : Change) (value : Option (List ℕ)) → change.value ≡ value → slice_get (changes_of w) made ≡ Some change → Agree (at (Within trx made) w) d → (given : EngineAnswer) → Leads d (setting trx change.table change.key value) (Ok given) after → Agree (at (Within trx (made + 1)) w) after
  sets trx made change (Some value) has here agree answers.Put is = changed trx made change here agree (subst (λ (o : Option (List ℕ)). Changes d trx (record change { value = o }) after) (sym has) is)
  sets trx made change (Some value) has here agree did is = absurd is
  sets trx made change None has here agree answers.Delete is = changed trx made change here agree (subst (λ (o : Option (List ℕ)). Changes d trx (record change { value = o }) after) (sym has) is)
  sets trx made change None has here agree did is = absurd is

  -- all is committed
  commits : (trx made position : ℕ) → slice_get (changes_of w) made ≡ None → Agree (at (Within trx made) w) d → Commits d trx position after → Agree (record w { index = w.index + 1; place = Before }) after
  commits trx made position past agree is =
      let old : is.commit ≡ record { writer = w.number; index = w.index; changes = changes_of w } =
      same_Some is.commit _ (sym is.was_active ∙ agree.place) ∙ ap (λ (cs : List Change). record { writer = w.number; index = w.index; changes = cs }) (take_past (changes_of w) made past) in
      record {
        commits =
            ap (λ (e : Donor). of_writer w.number e.binlog) is.is ∙ more_own w.number d.binlog is.commit (ap (λ (c : Commit). c.writer) old)
            ∙ ap (λ (cs : List Commit). cs ++ is.commit ∷ []) agree.commits ∙ ap (λ (c : Commit). stream w.seed w.number w.index w.tables ++ c ∷ []) old
            ∙ ap (λ n. stream w.seed w.number n w.tables) (let next : suc w.index ≡ w.index + 1 = omega arith in next);
        place = tt;
      }

  within : (trx made : ℕ) (next : Option Change) → slice_get (changes_of w) made ≡ next → Agree (at (Within trx made) w) d → (given : Result EngineAnswer EngineRefusal)
      → Leads d (next_of trx next) given after → Agree (after_next (at (Within trx made) w) trx made next given) after
  within trx made (Some change) here agree (Ok given) is = sets trx made change change.value refl here agree given is
  within trx made (Some change) here agree (Err (Because (RowLocked holder))) is = (let s = stays (Within trx made) agree is.0 is.1 in record { commits = s.commits; place = (take made (changes_of w), s.place) })
  within trx made (Some change) here agree (Err refusal) is = stays (Within trx made) agree is.0 is.1
  within trx made None here agree (Ok (answers.Commit position)) is = commits trx made position here agree is
  within trx made None here agree (Ok did) is = absurd is
  within trx made None here agree (Err refusal) is = stays (Within trx made) agree is.0 is.1

  undone : (trx left : ℕ) → Agree (at (Undoing trx) w) d → TakesBack d trx left after → Agree (at (Undoing trx) w) after
  undone trx left agree is =
      let old : is.commit ≡ record { writer = w.number; index = w.index; changes = agree.place.0 } = same_Some is.commit _ (sym is.was_active ∙ agree.place.1) in
      record {
        commits = ap (λ (e : Donor). of_writer w.number e.binlog) is.is ∙ agree.commits;
        place = (
          is.front,
          ap (λ (e : Donor). finite.get e.active trx) is.is ∙ get-set_same nat_cmp_total nat_cmp-IsAntisymmetric d.active trx (record is.commit { changes = is.front })
              ∙ ap (λ (c : Commit). Some (record c { changes = is.front })) old,
        );
      }

  own_at : (place : Place) → Agree (at place w) d → (given : Result EngineAnswer EngineRefusal) → Leads d (asked_at (at place w) place) given after → Agree (told_at (at place w) place given) after
  own_at Before agree (Ok (answers.Begin trx)) is = record {
    commits = ap (λ (e : Donor). of_writer w.number e.binlog) is.1 ∙ agree.commits;
    place = ap (λ (e : Donor). finite.get e.active trx) is.1 ∙ get-set_same nat_cmp_total nat_cmp-IsAntisymmetric d.active trx (record { writer = w.number; index = w.index; changes = [] });
  }
  own_at Before agree (Ok did) is = absurd is
  own_at Before agree (Err refusal) is = stays Before agree is.0 is.1
  own_at (Within trx made) agree given is = within trx made (slice_get (changes_of w) made) refl agree given is
  own_at (Undoing trx) agree (Ok (answers.UndoOne (Left left))) is = undone trx left agree is
  own_at (Undoing trx) agree (Ok (answers.UndoOne Ended)) is = record { commits = ap (λ (e : Donor). of_writer w.number e.binlog) is.is ∙ agree.commits; place = tt }
  own_at (Undoing trx) agree (Ok did) is = absurd is
  own_at (Undoing trx) agree (Err refusal) is = stays (Undoing trx) agree is.0 is.1

pub own : (w : Writer) (d after : Donor) (made : EngineCall) (given : Result EngineAnswer EngineRefusal) → Agree w d → asked w ≡ Some made → Leads d made given after → Agree (told w given) after
own w d after made given agree asks is = by (w.index == w.count) refl asks
  where
    by : (b : Bool) → (w.index == w.count) ≡ b → cond b None (Some (asked_at w w.place)) ≡ Some made → Agree (told w given) after
    by true ends at = absurd cc
    by false goes at =
        subst (λ (b : Bool). Agree (cond b w (told_at w w.place given)) after) (sym goes)
        (own_at w d after w.place agree given (subst (λ (c : EngineCall). Leads d c given after) (sym (same_Some _ made at)) is))

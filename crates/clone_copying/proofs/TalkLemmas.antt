-- What one call of an end lets pass.
use Rattle.std.proofs.Common.{inl, inr, ℕ, ◌≡◌, ◌∙◌, ◌≤◌, true, false, List, [], ◌++◌, Option, Result, Ok, Err, IsErr, IsOk, take, refl, ap, sym, subst, arith}
use Rattle.std.proofs.lemmas.Bool.{false≢true}
use Rattle.std.proofs.lemmas.List.{append-nil}
use Rattle.clone_outside.specs.Bytes.{TakesSome, appended}
use Rattle.clone_outside.specs.Causes.{Rose}
use Rattle.clone_outside.specs.Link.{LossRose, Receives, RefusalRose}
use Rattle.clone_outside.specs.declared.link.Link.{Ghosts as Link}
use Rattle.clone_outside.specs.declared.link.LinkRefusal.{LinkRefusal}
use Rattle.clone_outside.specs.declared.link.LinkRefusal.TheVariants as refused
use Rattle.clone_outside.specs.declared.link.Received.{Received}
use Rattle.clone_outside.specs.declared.link.Received.TheVariants as got
use Rattle.clone_copying.specs.Passing.{GoesOn, Passes}
use Rattle.clone_copying.specs.declared.talk.Talk.{Talk}
use Rattle.clone_copying.proofs.PassingLemmas.{appended_none}

-- a loss that is answered rose
pub send_rose : (before now : ℕ) (result : Result (Unit {0}) LinkRefusal) (why : LinkRefusal) → result ≡ Err why → why ≡ refused.Lost → RefusalRose before now result → Rose before now
send_rose before now result why is lost rose = subst (RefusalRose before now) (is ∙ ap Err lost) rose

pub receive_rose : (before now : ℕ) (result : Result Received LinkRefusal) → result ≡ Err refused.Lost → LossRose before now result → Rose before now
receive_rose before now result is rose = subst (LossRose before now) is rose

pub loss_rose : (before now : ℕ) (result : Result Received LinkRefusal) → result ≡ Ok got.Lost → LossRose before now result → Rose before now
loss_rose before now result is rose = subst (LossRose before now) is rose

-- what a receive gave
module _ (old new : Option (List ℕ)) (result : Result Received LinkRefusal) where
  pub received_bytes : (what : Received) (n : ℕ) (into : List ℕ) → result ≡ Ok what → what ≡ got.Bytes n → Receives old new result into → new ≡ appended old (take n into)
  received_bytes what n into is bytes receives = (subst (λ r. Receives old new r into) (is ∙ ap Ok bytes) receives).1

  pub received_nothing : (what : Received) (into : List ℕ) → result ≡ Ok what → what ≡ got.Nothing → Receives old new result into → new ≡ old
  received_nothing what into is nothing receives = subst (λ r. Receives old new r into) (is ∙ ap Ok nothing) receives

  pub received_lost : (into : List ℕ) → result ≡ Ok got.Lost → Receives old new result into → new ≡ old
  received_lost into is receives = subst (λ r. Receives old new r into) is receives

  pub received_error : (into : List ℕ) (why : LinkRefusal) → result ≡ Err why → Receives old new result into → new ≡ old
  received_error into why is receives = subst (λ r. Receives old new r into) is receives

-- what fails doesn't succeed
pub never_both : {T E : Type 0} (result : Result T E) → IsErr result → IsOk result → ⊥
never_both (Ok x) err ok = false≢true err
never_both (Err e) err ok = false≢true ok

module _ {L X : Type 0} (link : Link L X) where
  -- the same connection
  pub record Same (old new : L) : Type 0 where
    pub name : link.name new ≡ link.name old
    pub side : link.side new ≡ link.side old
    pub opened : link.is_open new ≡ link.is_open old
    pub later : link.failures old ≤ link.failures new

  -- nothing is sent over a lost connection, and where there is nothing to be sent
  pub sends_none : (a : Talk L) (bytes : List ℕ) → (a.lost ≡ false → bytes ≡ []) → GoesOn link a a [] bytes
  sends_none a bytes none = record {
    passes = record {
      name = refl;
      side = refl;
      opened = refl;
      some = (0, sym (appended_none (link.sent a.end)));
      none = λ lost. refl;
      came = [];
      received = sym (appended_none (link.received a.end));
      rest = a.left.items;
      takes = append-nil a.left.items;
      later = omega arith;
    };
    left = refl;
    all = λ sound. (sound, sym (ap (appended (link.sent a.end)) (none sound) ∙ appended_none (link.sent a.end)));
    lost = λ was. inl was;
  }

  module _ (a : Talk L) (new : L) (sound : a.lost ≡ false) (same : Same a.end new) where
    pub sends : (bytes : List ℕ) → TakesSome (link.sent a.end) (link.sent new) bytes → link.received new ≡ link.received a.end → Passes link a new [] bytes
    sends bytes some received = record {
      name = same.name;
      side = same.side;
      opened = same.opened;
      some = some;
      none = λ lost. absurd (false≢true (sym sound ∙ lost));
      came = [];
      received = received ∙ sym (appended_none (link.received a.end));
      rest = a.left.items;
      takes = append-nil a.left.items;
      later = same.later;
    }

    pub receives : (came : List ℕ) → link.received new ≡ appended (link.received a.end) came → link.sent new ≡ link.sent a.end → Passes link a new [] []
    receives came received sent = record {
      name = same.name;
      side = same.side;
      opened = same.opened;
      some = (0, sent ∙ sym (appended_none (link.sent a.end)));
      none = λ lost. sent;
      came = came;
      received = received;
      rest = a.left.items ++ came;
      takes = refl;
      later = same.later;
    }

  module _ (a b : Talk L) (sound : a.lost ≡ false) (same : Same a.end b.end) where
    pub sends_on : (bytes : List ℕ) → TakesSome (link.sent a.end) (link.sent b.end) bytes → link.received b.end ≡ link.received a.end → b.left.items ≡ a.left.items
        → (b.lost ≡ false → link.sent b.end ≡ appended (link.sent a.end) bytes) → (b.lost ≡ true → Rose (link.failures a.end) (link.failures b.end)) → GoesOn link a b [] bytes
    unfolding sends
    sends_on bytes some received left all rose = record {
      passes = sends a b.end sound same bytes some received;
      left = sym left;
      all = λ on. (sound, all on);
      lost = λ lost. inr (rose lost);
    }

    pub receives_on : (came : List ℕ) → link.received b.end ≡ appended (link.received a.end) came → link.sent b.end ≡ link.sent a.end → b.left.items ≡ a.left.items ++ came
        → (b.lost ≡ true → Rose (link.failures a.end) (link.failures b.end)) → GoesOn link a b [] []
    unfolding receives
    receives_on came received sent left rose = record {
      passes = receives a b.end sound same came received sent;
      left = sym left;
      all = λ on. (sound, sent ∙ sym (appended_none (link.sent a.end)));
      lost = λ lost. inr (rose lost);
    }

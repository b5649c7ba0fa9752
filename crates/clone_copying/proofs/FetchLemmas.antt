-- What a task did over its connections, one after the other.
use Rattle.std.proofs.Common.{inl, inr, ℕ, ◌≡◌, ◌∙◌, true, false, List, [], ◌∷◌, ◌++◌, Option, refl, ap, sym, subst}
use Rattle.std.proofs.lemmas.Bool.{false≢true}
use Rattle.std.proofs.lemmas.List.{append-nil, append_assoc}
use Rattle.clone_outside.specs.Bytes.{TakesSome, appended}
use Rattle.clone_outside.specs.Causes.{Rose}
use Rattle.clone_outside.specs.Link.{IsUnused}
use Rattle.clone_outside.specs.declared.link.Link.{Ghosts as Link}
use Rattle.clone_turn.proofs.EachLemmas.{each_append, each_map}
use Rattle.clone_copying.specs.Calls.{AreCalls, RecipientEntry, finds_loss, put, taken}
use Rattle.clone_copying.specs.Fetching.{AreApart, AreOver, Fetches, PassedOver}
use Rattle.clone_copying.specs.Passing.{Acts, HasFound, Passes, Stays}
use Rattle.clone_copying.specs.Turning.{Waits}
use Rattle.clone_copying.specs.declared.talk.Talk.{Talk}
use Rattle.clone_copying.proofs.CallLemmas.{apart_none, calls_later, calls_more, put_more, taken_more}
use Rattle.clone_copying.proofs.ActLemmas.{passes_as}

module _ {L X R : Type 0} (link : Link L X) where
  -- over a connection: the first command was put out before, and nothing else passed
  module _ (talk : Talk L) (last closed : L) (first : List ℕ) (xs ys : List (RecipientEntry R)) (apart : AreApart xs) (put_out : put xs ≡ first)
      (none : talk.left.items ≡ []) (sound : talk.lost ≡ false) (stays : Stays link last closed) where
    passes_all : Passes link talk last (taken ys) (first ++ put ys) → Passes link talk last (taken (xs ++ ys)) (put (xs ++ ys))
    passes_all passes =
        passes_as link talk last (taken ys) (taken (xs ++ ys)) (first ++ put ys) (put (xs ++ ys))
        (taken_more xs ys ∙ ap (λ zs. zs ++ taken ys) apart.0) (put_more xs ys ∙ ap (λ zs. zs ++ put ys) put_out) passes

    rose : (e : RecipientEntry R) → (finds_loss e.call ≡ true → HasFound link talk last) → finds_loss e.call ≡ true → Rose (link.failures talk.end) (link.failures closed)
    rose e found finds = elim (found finds) [
      | inl lost ↦ absurd (false≢true (sym sound ∙ lost))
      | inr more ↦ subst (Rose (link.failures talk.end)) (sym stays.failures) more
    ]

    pub passed_over : (task : ℕ) (P : ℕ → Type 0) (core left : Option ℕ) → IsUnused (link.sent talk.end) → IsUnused (link.received talk.end) → Acts link task P core first talk last ys left
        → PassedOver link talk.end closed (xs ++ ys)
    passed_over task P core left sent received acts =
        let passes = passes_all acts.passes in record {
          name = stays.name ∙ passes.name;
          unused = (sent, received);
          sent = subst (λ o. TakesSome (link.sent talk.end) o (put (xs ++ ys))) (sym stays.sent) passes.some;
          rest = passes.rest;
          received = stays.received ∙ (passes.received ∙ ap (appended (link.received talk.end)) (ap (λ zs. zs ++ passes.came) (sym none) ∙ passes.takes));
          losses = each_append (λ (e : RecipientEntry R). finds_loss e.call ≡ true → Rose (link.failures talk.end) (link.failures closed)) xs ys
              (each_map (λ (e : RecipientEntry R). finds_loss e.call ≡ false) (λ (e : RecipientEntry R). finds_loss e.call ≡ true → Rose (link.failures talk.end) (link.failures closed))
              (λ e no finds. absurd (false≢true (sym no ∙ finds))) xs apart.1)
              (each_map (λ (e : RecipientEntry R). finds_loss e.call ≡ true → HasFound link talk last) (λ (e : RecipientEntry R). finds_loss e.call ≡ true → Rose (link.failures talk.end) (link.failures closed))
              rose ys acts.losses);
        }

  pub over_one : (first last : L) (made : List (RecipientEntry R)) → PassedOver link first last made → AreOver link ((first, last) ∷ []) made
  over_one first last made passed = (made, [], sym (append-nil made), passed, refl)

  -- over some connections, and over others after them
  pub over_more : (ends more : List (L × L)) (xs ys : List (RecipientEntry R)) → AreOver link ends xs → AreOver link more ys → AreOver link (ends ++ more) (xs ++ ys)
  over_more [] more xs ys over next = subst (λ (zs : List (RecipientEntry R)). AreOver link more (zs ++ ys)) (sym over) next
  over_more (end ∷ ends) more xs ys over next =
      (over.0, over.1 ++ ys, ap (λ zs. zs ++ ys) over.2 ∙ append_assoc over.0 over.1 ys, over.3, over_more ends more over.1 ys over.4 next)

  module _ (task : ℕ) where
    pub fetches_apart : (P : ℕ → Type 0) (core left : Option ℕ) (made : List (RecipientEntry R)) → Waits task P core made left → Fetches link task P core [] made left
    fetches_apart P core left made waits = record {
      over = [];
      last = made;
      is = refl;
      passed = refl;
      apart = waits.apart;
      calls = waits.calls;
    }

    pub fetches_over : (P : ℕ → Type 0) (core left : Option ℕ) (ends : List (L × L)) (made : List (RecipientEntry R)) → AreOver link ends made → AreCalls task P core made left → Fetches link task P core ends made left
    fetches_over P core left ends made over calls = record {
      over = made;
      last = [];
      is = sym (append-nil made);
      passed = over;
      apart = apart_none R;
      calls = calls;
    }

    -- over some connections, and then over others
    pub fetches_more : (P Q : ℕ → Type 0) → ((n : ℕ) → P n → Q n) → (core mid left : Option ℕ) (ends more : List (L × L)) (xs ys : List (RecipientEntry R)) → AreOver link ends xs → AreCalls task P core xs mid
        → Fetches link task Q mid more ys left → Fetches link task Q core (ends ++ more) (xs ++ ys) left
    fetches_more P Q keeps core mid left ends more xs ys over calls next = record {
      over = xs ++ next.over;
      last = next.last;
      is = ap (λ zs. xs ++ zs) next.is ∙ sym (append_assoc xs next.over next.last);
      passed = over_more ends more xs next.over over next.passed;
      apart = next.apart;
      calls = calls_more task Q core mid left xs ys (calls_later task P Q keeps core mid xs calls) next.calls;
    }

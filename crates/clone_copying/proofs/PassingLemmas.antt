-- What passed over an end, piece after piece.
use Rattle.std.proofs.Common.{inl, inr, ℕ, ◌≡◌, ◌∙◌, ◌+◌, ◌≤◌, Bool, true, false, List, [], ◌++◌, length, take, Option, Some, None, refl, ap, sym, subst, arith}
use Rattle.std.proofs.lemmas.Bool.{cases_lt, false≢true}
use Rattle.std.proofs.lemmas.List.{append-nil, append_assoc, take-append-le, take_all}
use Rattle.std.proofs.Math.Seq.{take-append-add, take-append_seam}
use Rattle.clone_outside.specs.Bytes.{TakesSome, appended}
use Rattle.clone_outside.specs.Causes.{Rose}
use Rattle.clone_outside.specs.declared.link.Link.{Ghosts as Link}
use Rattle.clone_copying.specs.Passing.{GoesOn, HasFound, Passes}
use Rattle.clone_copying.specs.declared.talk.Talk.{Talk}

pub appended_twice : (o : Option (List ℕ)) (xs ys : List ℕ) → appended (appended o xs) ys ≡ appended o (xs ++ ys)
appended_twice None xs ys = refl
appended_twice (Some zs) xs ys = ap Some (append_assoc zs xs ys)

pub appended_none : (o : Option (List ℕ)) → appended o [] ≡ o
appended_none None = refl
appended_none (Some zs) = ap Some (append-nil zs)

-- some of the bytes are some of more
some_first : (a b : Option (List ℕ)) (xs ys : List ℕ) → TakesSome a b xs → TakesSome a b (xs ++ ys)
some_first a b xs ys (n, is) = elim (cases_lt (length xs) n) [
  | inl lt ↦ (length xs, is ∙ ap (appended a) (take_all n xs (omega (arith, lt)) ∙ sym (take-append_seam xs ys)))
  | inr le ↦ (n, is ∙ ap (appended a) (sym (take-append-le n xs ys le)))
]

-- all of the first bytes, and some of the next
some_next : (a b c : Option (List ℕ)) (xs ys : List ℕ) → b ≡ appended a xs → TakesSome b c ys → TakesSome a c (xs ++ ys)
some_next a b c xs ys all (n, is) =
    (length xs + n, is ∙ (ap (λ o. appended o (take n ys)) all ∙ (appended_twice a xs (take n ys) ∙ ap (appended a) (sym (take-append-add xs ys n)))))

rose_left : (a b c : ℕ) → Rose a b → b ≤ c → Rose a c
rose_left a b c rose le = omega (arith, rose, le)

pub rose_right : (a b c : ℕ) → a ≤ b → Rose b c → Rose a c
rose_right a b c le rose = omega (arith, le, rose)

module _ {L X : Type 0} (link : Link L X) where
  pub found_later : (a : Talk L) (b c : L) → HasFound link a b → link.failures b ≤ link.failures c → HasFound link a c
  found_later a b c (inl lost) le = inl lost
  found_later a b c (inr rose) le = inr (rose_left _ _ _ rose le)

  pub found_before : (a b : Talk L) (c : L) → (b.lost ≡ true → HasFound link a b.end) → link.failures a.end ≤ link.failures b.end → link.failures b.end ≤ link.failures c → HasFound link b c → HasFound link a c
  found_before a b c known first next (inl lost) = found_later a b.end c (known lost) next
  found_before a b c known first next (inr rose) = inr (rose_right _ _ _ first rose)

  module _ (a b : Talk L) (c : L) (t u p q : List ℕ) (goes : GoesOn link a b t p) (more : Passes link b c u q) where
    sent_some : (lost : Bool) → b.lost ≡ lost → TakesSome (link.sent a.end) (link.sent c) (p ++ q)
    sent_some false is = some_next (link.sent a.end) (link.sent b.end) (link.sent c) p q (goes.all is).1 more.some
    sent_some true is =
        subst (λ o. TakesSome (link.sent a.end) o (p ++ q)) (sym (more.none is)) (some_first (link.sent a.end) (link.sent b.end) p q goes.passes.some)

    still_lost : (lost : Bool) → b.lost ≡ lost → a.lost ≡ true → b.lost ≡ true
    still_lost true is was = is
    still_lost false is was = absurd (false≢true (sym (goes.all is).0 ∙ was))

    -- what passed first, and what passed after it
    pub passes_more : Passes link a c (t ++ u) (p ++ q)
    passes_more =
        let first = goes.passes in record {
          name = more.name ∙ first.name;
          side = more.side ∙ first.side;
          opened = more.opened ∙ first.opened;
          some = sent_some b.lost refl;
          none = λ lost. more.none (still_lost b.lost refl lost) ∙ first.none lost;
          came = first.came ++ more.came;
          received = more.received ∙ (ap (λ o. appended o more.came) first.received ∙ appended_twice (link.received a.end) first.came more.came);
          rest = more.rest;
          takes = sym (append_assoc a.left.items first.came more.came)
              ∙ (ap (λ zs. zs ++ more.came) (first.takes ∙ ap (λ zs. t ++ zs) goes.left)
              ∙ (append_assoc t b.left.items more.came
              ∙ (ap (λ zs. t ++ zs) more.takes ∙ sym (append_assoc t u more.rest))));
          later = omega (arith, first.later, more.later);
        }

  pub goes_more : (a b c : Talk L) (t u p q : List ℕ) → GoesOn link a b t p → GoesOn link b c u q → GoesOn link a c (t ++ u) (p ++ q)
  unfolding passes_more
  goes_more a b c t u p q first next = record {
    passes = passes_more a b c.end t u p q first next.passes;
    left = next.left;
    all = λ sound.
        let known = next.all sound in
        let earlier = first.all known.0 in
        (earlier.0, known.1 ∙ (ap (λ o. appended o q) earlier.1 ∙ appended_twice (link.sent a.end) p q));
    lost = λ lost. found_before a b c.end first.lost first.passes.later next.passes.later (next.lost lost);
  }

  -- the end stays, and these bytes are taken from the front of what came
  pub takes_front : (a b : Talk L) (t : List ℕ) → b.end ≡ a.end → b.lost ≡ a.lost → a.left.items ≡ t ++ b.left.items → GoesOn link a b t []
  takes_front a b t same lost front = record {
    passes = record {
      name = ap link.name same;
      side = ap link.side same;
      opened = ap link.is_open same;
      some = (0, ap link.sent same ∙ sym (appended_none (link.sent a.end)));
      none = λ was. ap link.sent same;
      came = [];
      received = ap link.received same ∙ sym (appended_none (link.received a.end));
      rest = b.left.items;
      takes = append-nil a.left.items ∙ front;
      later = let e = ap link.failures same in omega (arith, e);
    };
    left = refl;
    all = λ sound. (sym lost ∙ sound, ap link.sent same ∙ sym (appended_none (link.sent a.end)));
    lost = λ was. inl (sym lost ∙ was);
  }

  pub goes_none : (a : Talk L) → GoesOn link a a [] []
  goes_none a = takes_front a a [] refl refl refl

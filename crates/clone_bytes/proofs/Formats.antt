-- The laws hold of what is made of formats for which they hold.
use Rattle.std.proofs.Common.{◌≡◌, ℕ, zero, suc, ◌+◌, ◌<◌, ◌⊎◌, Bool, true, false, cond, List, [], ◌∷◌, ◌++◌, length, Result, Ok, Err, refl, sym, ap, subst, ◌∙◌, append_assoc, arith, inl, inr}
use Rattle.std.specs.List.{flat_map, AllByRecursion}
use Rattle.std.proofs.lemmas.List.{length-append, nil_from_length}
use Rattle.clone_bytes.specs.Fields.{IsBytes}
use Rattle.clone_bytes.specs.Formats.{Format, nothing, led, followed, seen, made, tested, chosen, choose, list, Refusals, Begun, IsFormat}
use Rattle.clone_bytes.proofs.Numbers.{IsBytes-append, IsBytes-back}
use Rattle.clone_bytes.proofs.Answers.{same_ok, same_err, not_both, bind, bind_ok, bind_err, either_way}

pub nothing_laws : {E A : Type 0} {refusals : Refusals E} {at : ℕ} (x : A) → IsFormat refusals at (nothing x)
nothing_laws x = record {
  one = (x, refl);
  fit = λ y has i. omega arith;
  back = λ y rest has. ap (λ z. Ok (z, rest)) has;
  from = λ bytes y rest fit e. (let same = same_ok refl e in (ap (λ p. p.0) same, ap (λ p. p.1) same));
  opens = λ bytes fit e. absurd (not_both refl e);
  stays = λ bytes more e fit other h. absurd (not_both refl h);
}

-- a key, and what follows it
pub led_laws : {E K A : Type 0} {refusals : Refusals E} {at : ℕ} {f : Format E K} {g : K → Format E A} (key : A → K) → IsFormat refusals at f → ((k : K) → f.Has k → IsFormat refusals (at + length (f.text k)) (g k))
    → ((k : K) (x : A) → f.Has k → (g k).Has x → key x ≡ k) → IsFormat refusals at (led f g key)
led_laws {E = E} {K = K} {A = A} {refusals = refusals} {at = at} {f = f} {g = g} key first second keyed =
    let step : K × List ℕ → Result (A × List ℕ) E = λ k. (g k.0).read k.1 in
    let spelled : (k : K) (x : A) → f.Has k → (g k).Has x → (led f g key).Has x × ((led f g key).text x ≡ f.text k ++ (g k).text x) =
    λ k x p q. subst (λ (j : K). (f.Has j × (g j).Has x) × (f.text j ++ (g j).text x ≡ f.text k ++ (g k).text x)) (sym (keyed k x p q)) ((p, q), refl) in
    record {
      one = (let k = first.one in let x = (second k.0 k.1).one in (x.0, (spelled k.0 x.0 k.1 x.1).0));
      fit = λ x has. IsBytes-append (f.text (key x)) ((g (key x)).text x) (first.fit (key x) has.0) ((second (key x) has.0).fit x has.1);
      back = λ x rest has. ap (led f g key).read (append_assoc (f.text (key x)) ((g (key x)).text x) rest) ∙ bind step (first.back (key x) ((g (key x)).text x ++ rest) has.0) ∙ (second (key x) has.0).back x rest has.1;
      from = λ bytes x rest fit e. (let a = bind_ok (f.read bytes) step (x, rest) e in
          let p = first.from bytes a.0.0 a.0.1 fit a.1 in
          let left : IsBytes a.0.1 = IsBytes-back (f.text a.0.0) a.0.1 (subst IsBytes p.1 fit) in
          let q = (second a.0.0 p.0).from a.0.1 x rest left a.2 in
          let s = spelled a.0.0 x p.0 q.0 in
          (s.0, p.1 ∙ ap (λ t. f.text a.0.0 ++ t) q.1 ∙ sym (append_assoc (f.text a.0.0) ((g a.0.0).text x) rest) ∙ ap (λ t. t ++ rest) (sym s.1)));
      opens = λ bytes fit e. elim (bind_err (f.read bytes) step refusals.short e) [
        | inl short ↦
            let k = first.opens bytes fit short in
            let x = (second k.value k.has).one in
            let s = spelled k.value x.0 k.has x.1 in
            record {
              value = x.0;
              more = k.more ++ (g k.value).text x.0;
              has = s.0;
              some = omega (arith, k.some, length-append k.more ((g k.value).text x.0));
              parts = sym (append_assoc bytes k.more ((g k.value).text x.0)) ∙ ap (λ t. t ++ (g k.value).text x.0) k.parts ∙ sym s.1;
            }
        | inr a ↦
            let p = first.from bytes a.0.0 a.0.1 fit a.1 in
            let left : IsBytes a.0.1 = IsBytes-back (f.text a.0.0) a.0.1 (subst IsBytes p.1 fit) in
            let x = (second a.0.0 p.0).opens a.0.1 left a.2 in
            let s = spelled a.0.0 x.value p.0 x.has in
            record {
              value = x.value;
              more = x.more;
              has = s.0;
              some = x.some;
              parts = ap (λ t. t ++ x.more) p.1 ∙ append_assoc (f.text a.0.0) a.0.1 x.more ∙ ap (λ t. f.text a.0.0 ++ t) x.parts ∙ sym s.1;
            }
      ];
      stays = λ bytes more e fit other h. elim (bind_err (f.read bytes) step e h) [
        | inl failed ↦ (let p = first.stays bytes more e fit other failed in (bind step p.0, p.1))
        | inr a ↦
            let p = first.from bytes a.0.0 a.0.1 fit a.1 in
            let left : IsBytes a.0.1 = IsBytes-back (f.text a.0.0) a.0.1 (subst IsBytes p.1 fit) in
            let q = (second a.0.0 p.0).stays a.0.1 more e left other a.2 in
            let whole : bytes ++ more ≡ f.text a.0.0 ++ (a.0.1 ++ more) = ap (λ t. t ++ more) p.1 ∙ append_assoc (f.text a.0.0) a.0.1 more in
            (ap (led f g key).read whole ∙ bind step (first.back a.0.0 (a.0.1 ++ more) p.0) ∙ q.0, omega (arith, q.1, ap length p.1, length-append (f.text a.0.0) a.0.1))
      ];
    }

-- what is made of each value
pub seen_laws : {E A B : Type 0} {refusals : Refusals E} {at : ℕ} {f : Format E A} (Has : B → Type 0) (text : B → List ℕ) (make : A → B) → IsFormat refusals at f → ((x : A) → f.Has x → Has (make x) × (text (make x) ≡ f.text x))
    → ((y : B) → Has y → (x : A) × f.Has x × (make x ≡ y)) → IsFormat refusals at (seen Has text make f)
seen_laws {E = E} {A = A} {B = B} {f = f} Has text make laws sound onto =
    let step : A × List ℕ → Result (B × List ℕ) E = λ x. Ok (make x.0, x.1) in
    let spelled : (y : B) (has : Has y) → text y ≡ f.text (onto y has).0 = λ y has. (let x = onto y has in ap text (sym x.2) ∙ (sound x.0 x.1).1) in
    record {
      one = (let x = laws.one in (make x.0, (sound x.0 x.1).0));
      fit = λ y has. subst IsBytes (sym (spelled y has)) (laws.fit (onto y has).0 (onto y has).1);
      back = λ y rest has. (let x = onto y has in bind step (ap (λ t. f.read (t ++ rest)) (spelled y has) ∙ laws.back x.0 rest x.1) ∙ ap (λ z. Ok (z, rest)) x.2);
      from = λ bytes y rest fit e. (let a = bind_ok (f.read bytes) step (y, rest) e in
          let p = laws.from bytes a.0.0 a.0.1 fit a.1 in
          let s = sound a.0.0 p.0 in
          let same = same_ok refl a.2 in
          let value : make a.0.0 ≡ y = ap (λ q. q.0) same in
          (subst Has value s.0, p.1 ∙ ap (λ t. t ++ a.0.1) (sym s.1 ∙ ap text value) ∙ ap (λ t. text y ++ t) (ap (λ q. q.1) same)));
      opens = λ bytes fit e. elim (bind_err (f.read bytes) step _ e) [
        | inl short ↦ (let x = laws.opens bytes fit short in let s = sound x.value x.has in record { value = make x.value; more = x.more; has = s.0; some = x.some; parts = x.parts ∙ sym s.1 })
        | inr a ↦ absurd (not_both refl a.2)
      ];
      stays = λ bytes more e fit other h. elim (bind_err (f.read bytes) step e h) [
        | inl failed ↦ (let p = laws.stays bytes more e fit other failed in (bind step p.0, p.1))
        | inr a ↦ absurd (not_both refl a.2)
      ];
    }

pub made_laws : {E A B : Type 0} {refusals : Refusals E} {at : ℕ} {f : Format E A} (text : B → List ℕ) (make : A → B) → IsFormat refusals at f → ((x : A) → f.Has x → text (make x) ≡ f.text x) → IsFormat refusals at (made text make f)
made_laws {A = A} {f = f} text make laws spelled = seen_laws (λ y. (x : A) × f.Has x × (make x ≡ y)) text make laws (λ x has. ((x, has, refl), spelled x has)) (λ y has. has)

-- the same values, spelled and read the same, in other words
pub worded : {E A : Type 0} {refusals : Refusals E} {at : ℕ} (f g : Format E A) → IsFormat refusals at f → ((bytes : List ℕ) → g.read bytes ≡ f.read bytes) → ((x : A) → f.Has x → g.Has x × (g.text x ≡ f.text x)) → ((x : A) → g.Has x → f.Has x)
    → IsFormat refusals at g
worded f g laws reads into onto = record {
  one = (let x = laws.one in (x.0, (into x.0 x.1).0));
  fit = λ x has. subst IsBytes (sym (into x (onto x has)).1) (laws.fit x (onto x has));
  back = λ x rest has. ap (λ t. g.read (t ++ rest)) (into x (onto x has)).1 ∙ reads _ ∙ laws.back x rest (onto x has);
  from = λ bytes x rest fit e. (let p = laws.from bytes x rest fit (sym (reads bytes) ∙ e) in let s = into x p.0 in (s.0, p.1 ∙ ap (λ t. t ++ rest) (sym s.1)));
  opens = λ bytes fit e. (let x = laws.opens bytes fit (sym (reads bytes) ∙ e) in let s = into x.value x.has in record { value = x.value; more = x.more; has = s.0; some = x.some; parts = x.parts ∙ sym s.1 });
  stays = λ bytes more e fit other h. (let p = laws.stays bytes more e fit other (sym (reads bytes) ∙ h) in (reads (bytes ++ more) ∙ p.0, p.1));
}

-- one value, and then another
pub followed_laws : {E A B : Type 0} {refusals : Refusals E} {at : ℕ} {f : Format E A} {g : A → Format E B} → IsFormat refusals at f → ((x : A) → f.Has x → IsFormat refusals (at + length (f.text x)) (g x)) → IsFormat refusals at (followed f g)
followed_laws {E = E} {A = A} {B = B} {f = f} {g = g} first second =
    let Led : A → A × B → Type 0 = λ x p. (x ≡ p.0) × (g x).Has p.1 in
    let part : A → Format E (A × B) = λ x. seen (Led x) (λ p. (g x).text p.1) (λ y. (x, y)) (g x) in
    worded (led f part (λ p. p.0)) (followed f g)
    (led_laws (λ p. p.0) first (λ x has. seen_laws (Led x) (λ p. (g x).text p.1) (λ y. (x, y)) (second x has) (λ y p. ((refl, p), refl)) (λ p q. (p.1, q.1, ap (λ z. (z, p.1)) q.0))) (λ x p has q. sym q.0))
    (λ bytes. refl) (λ p has. ((has.0, has.1.1), refl)) (λ p has. (has.0, (refl, has.1)))

-- which of two it is
pub which : {A : Type 0} (b : Bool) (P Q : A → Type 0) (x : A) → chosen b P Q x → ((b ≡ true) × P x) ⊎ ((b ≡ false) × Q x)
which true P Q x p = inl (refl, p)
which false P Q x q = inr (refl, q)

pub choose_laws : {E A : Type 0} {refusals : Refusals E} {at : ℕ} {f g : Format E A} (b : Bool) → (b ≡ true → IsFormat refusals at f) → (b ≡ false → IsFormat refusals at g) → IsFormat refusals at (choose b f g)
choose_laws true p q = p refl
choose_laws false p q = q refl

-- The test looks at whole values, and what begins one that is there begins one that passes.
pub tested_laws : {E A : Type 0} {refusals : Refusals E} {at : ℕ} {f : Format E A} (test : A → Bool) (cause : E) → IsFormat refusals at f → (x : A) × (tested test cause f).Has x
    → ((bytes : List ℕ) → IsBytes bytes → Begun f bytes → Begun (tested test cause f) bytes) → (cause ≡ refusals.short → ⊥) → ((x : A) → f.Has x → test x ≡ false → refusals.place cause < at + length (f.text x)) → IsFormat refusals at (tested test cause f)
tested_laws {E = E} {A = A} {refusals = refusals} {at = at} {f = f} test cause laws one filled other named =
    let step : A × List ℕ → Result (A × List ℕ) E = λ x. cond (test x.0) (Ok (x.0, x.1)) (Err cause) in
    record {
      one = one;
      fit = λ x has. laws.fit x has.0;
      back = λ x rest has. bind step (laws.back x rest has.0) ∙ rw has.1 refl;
      from = λ bytes x rest fit e. (let a = bind_ok (f.read bytes) step (x, rest) e in elim (either_way (test a.0.0) _ _ (Ok (x, rest)) a.2) [
        | inr h ↦ absurd (not_both refl (sym h.1))
        | inl h ↦
            let same = same_ok refl h.1 in
            let p = laws.from bytes x rest fit (a.1 ∙ ap (λ y. Ok y) same) in
            ((p.0, ap (λ y. test y.0) (sym same) ∙ h.0), p.1)
      ]);
      opens = λ bytes fit e. elim (bind_err (f.read bytes) step refusals.short e) [
        | inl short ↦ filled bytes fit (laws.opens bytes fit short)
        | inr a ↦ elim (either_way (test a.0.0) _ _ (Err refusals.short) a.2) [ inl h ↦ absurd (not_both refl h.1) | inr h ↦ absurd (other (same_err refl h.1)) ]
      ];
      stays = λ bytes more e fit not_short h. elim (bind_err (f.read bytes) step e h) [
        | inl failed ↦ (let p = laws.stays bytes more e fit not_short failed in (bind step p.0, p.1))
        | inr a ↦ elim (either_way (test a.0.0) _ _ (Err e) a.2) [
          | inl g ↦ absurd (not_both refl g.1)
          | inr g ↦
              let p = laws.from bytes a.0.0 a.0.1 fit a.1 in
              let whole : bytes ++ more ≡ f.text a.0.0 ++ (a.0.1 ++ more) = ap (λ t. t ++ more) p.1 ∙ append_assoc (f.text a.0.0) a.0.1 more in
              (ap (tested test cause f).read whole ∙ bind step (laws.back a.0.0 (a.0.1 ++ more) p.0) ∙ rw g.0 g.1, subst (λ d. refusals.place d < at + length bytes) (same_err refl g.1) (omega (arith, named a.0.0 p.0 g.0, ap length p.1, length-append (f.text a.0.0) a.0.1)))
        ]
      ];
    }

-- ---- lists

abbrev key_of : {A : Type 0} → A → List A → A
key_of z [] = z
key_of z (x ∷ xs) = x

abbrev rest_of : {A : Type 0} → List A → List A
rest_of [] = []
rest_of (x ∷ xs) = xs

-- a list has a first element, and the others
abbrev HasFirst : {A : Type 0} → (A → Type 0) → A → ℕ → A → List A → Type 0
HasFirst Has z n x ys = (key_of z ys ≡ x) × Has x × (length ys ≡ suc n) × AllByRecursion Has ys

list_onto : {A : Type 0} (Has : A → Type 0) (z : A) (n : ℕ) (x : A) (ys : List A) → HasFirst Has z n x ys → (xs : List A) × ((length xs ≡ n) × AllByRecursion Has xs) × (x ∷ xs ≡ ys)
list_onto Has z n x [] p = absurd (omega (arith, p.2))
list_onto Has z n x (y ∷ ys) p = (ys, (omega (arith, p.2), p.3.1), ap (λ k. k ∷ ys) (sym p.0))

list_into : {A : Type 0} (Has : A → Type 0) (text : A → List ℕ) (z : A) (n : ℕ) (ys : List A) → Has (key_of z ys) × HasFirst Has z n (key_of z ys) ys
    → ((length ys ≡ suc n) × AllByRecursion Has ys) × (flat_map text ys ≡ text (key_of z ys) ++ flat_map text (rest_of ys))
list_into Has text z n [] p = absurd (omega (arith, p.1.2))
list_into Has text z n (y ∷ ys) p = ((p.1.2, p.1.3), refl)

list_has : {A : Type 0} (Has : A → Type 0) (z : A) (n : ℕ) (ys : List A) → (length ys ≡ suc n) × AllByRecursion Has ys → Has (key_of z ys) × HasFirst Has z n (key_of z ys) ys
list_has Has z n [] p = absurd (omega (arith, p.0))
list_has Has z n (y ∷ ys) p = (p.1.0, (refl, p.1.0, p.0, p.1))

pub list_laws : {E A : Type 0} {refusals : Refusals E} {f : Format E A} → ((p : ℕ) → IsFormat refusals p f) → (n at : ℕ) → IsFormat refusals at (list f n)
list_laws {E = E} {A = A} {refusals = refusals} {f = f} items zero at =
    let none : List A = [] in
    worded (nothing none) (list f 0) (nothing_laws none) (λ bytes. refl) (λ xs e. subst (λ (ys : List A). ((length ys ≡ 0) × AllByRecursion f.Has ys) × (flat_map f.text ys ≡ [])) e ((refl, tt), refl)) (λ xs has. sym (nil_from_length xs has.0))
list_laws {E = E} {A = A} {refusals = refusals} {f = f} items (suc n) at =
    let z = (items at).one.0 in
    let Has : A → List A → Type 0 = HasFirst f.Has z n in
    let text : List A → List ℕ = λ ys. flat_map f.text (rest_of ys) in
    let part : A → Format E (List A) = λ x. seen (Has x) text (λ xs. x ∷ xs) (list f n) in
    worded (led f part (key_of z)) (list f (suc n))
    (led_laws (key_of z) (items at) (λ x has. seen_laws (Has x) text (λ xs. x ∷ xs) (list_laws items n (at + length (f.text x))) (λ xs p. ((refl, has, ap suc p.0, (has, p.1)), refl)) (list_onto f.Has z n x)) (λ x ys has p. p.0))
    (λ bytes. refl) (list_into f.Has f.text z n) (list_has f.Has z n)

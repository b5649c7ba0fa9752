-- The order of ranks is total.
use Rattle.std.proofs.Common.{◌≡◌, ◌≢◌, ◌<◌, ◌≤◌, ◌⊎◌, inl, inr, ◌==◌, ℕ, Bool, true, false, cond, nat_lt, refl, sym, ap, ◌∙◌, arith}
use Rattle.std.proofs.lemmas.Bool.{cases_eq, eq-eqb, ne_eqb, ltb-true, ltb-false, le-ltb}
use Rattle.clone_pool.specs.declared.tournament.Rank.{Rank}
use Rattle.clone_pool.specs.Tournament.{is_before, name_is_before, first_of}

-- the lesser of two numbers goes first, and of two equal ones the test decides
abbrev lex : ℕ → ℕ → Bool → Bool
lex x y test = cond (x == y) test (nat_lt x y)

not_before : (x y : ℕ) (test : Bool) → lex y x test ≡ false → (x < y) ⊎ ((x ≡ y) × (test ≡ false))
not_before x y test is = by (cases_eq y x)
  where
    by : (y ≡ x) ⊎ (y ≢ x) → (x < y) ⊎ ((x ≡ y) × (test ≡ false))
    by (inl same) = inr (sym same, sym (ap (λ (t : Bool). cond t test (nat_lt y x)) (eq-eqb y x same)) ∙ is)
    by (inr other) = let le : x ≤ y = ltb-false y x (sym (ap (λ (t : Bool). cond t test (nat_lt y x)) (ne_eqb y x other)) ∙ is) in inl (omega (arith, le, other))

after : (x y : ℕ) (test : Bool) → (x < y) ⊎ ((x ≡ y) × (test ≡ false)) → lex y x test ≡ false
after x y test (inl less) = let other : y ≢ x = λ e. omega (arith, less, e) in ap (λ (t : Bool). cond t test (nat_lt y x)) (ne_eqb y x other) ∙ le-ltb y x (omega arith)
after x y test (inr same) = ap (λ (t : Bool). cond t test (nat_lt y x)) (eq-eqb y x (sym same.0)) ∙ same.1

lex_trans : (x y z : ℕ) (p q r : Bool) → (p ≡ false → q ≡ false → r ≡ false) → lex y x p ≡ false → lex z y q ≡ false → lex z x r ≡ false
lex_trans x y z p q r rest xy yz = after x z r (by (not_before x y p xy) (not_before y z q yz))
  where
    by : (x < y) ⊎ ((x ≡ y) × (p ≡ false)) → (y < z) ⊎ ((y ≡ z) × (q ≡ false)) → (x < z) ⊎ ((x ≡ z) × (r ≡ false))
    by (inl a) (inl b) = inl (omega arith)
    by (inl a) (inr b) = inl (omega (arith, b.0))
    by (inr a) (inl b) = inl (omega (arith, a.0))
    by (inr a) (inr b) = inr (a.0 ∙ b.0, rest a.1 b.1)

lex_asym : (x y : ℕ) (p q : Bool) → (p ≡ true → q ≡ false) → lex y x p ≡ true → lex x y q ≡ false
lex_asym x y p q rest is = by (cases_eq y x)
  where
    by : (y ≡ x) ⊎ (y ≢ x) → lex x y q ≡ false
    by (inl same) = after y x q (inr (same, rest (sym (ap (λ (t : Bool). cond t p (nat_lt y x)) (eq-eqb y x same)) ∙ is)))
    by (inr other) = after y x q (inl (ltb-true y x (sym (ap (λ (t : Bool). cond t p (nat_lt y x)) (ne_eqb y x other)) ∙ is)))

pub rank_trans : (a b c : Rank) → is_before b a ≡ false → is_before c b ≡ false → is_before c a ≡ false
rank_trans a b c =
    lex_trans a.number b.number c.number (name_is_before b.name a.name) (name_is_before c.name b.name) (name_is_before c.name a.name)
    (lex_trans a.name.space b.name.space c.name.space (nat_lt b.name.number a.name.number) (nat_lt c.name.number b.name.number) (nat_lt c.name.number a.name.number)
    (λ p q. le-ltb c.name.number a.name.number (omega (arith, ltb-false b.name.number a.name.number p, ltb-false c.name.number b.name.number q))))

pub rank_asym : (a b : Rank) → is_before b a ≡ true → is_before a b ≡ false
rank_asym a b =
    lex_asym a.number b.number (name_is_before b.name a.name) (name_is_before a.name b.name)
    (lex_asym a.name.space b.name.space (nat_lt b.name.number a.name.number) (nat_lt a.name.number b.name.number)
    (λ p. le-ltb a.name.number b.name.number (omega (arith, ltb-true b.name.number a.name.number p))))

pub rank_irrefl : (a : Rank) → is_before a a ≡ false
rank_irrefl a = after a.number a.number (name_is_before a.name a.name) (inr (refl, after a.name.space a.name.space (nat_lt a.name.number a.name.number) (inr (refl, le-ltb a.name.number a.name.number (omega arith)))))

-- the winner's number is no greater
pub number_le : (a b : Rank) → is_before b a ≡ false → a.number ≤ b.number
number_le a b is = by (not_before a.number b.number (name_is_before b.name a.name) is)
  where
    by : (a.number < b.number) ⊎ ((a.number ≡ b.number) × (name_is_before b.name a.name ≡ false)) → a.number ≤ b.number
    by (inl less) = omega arith
    by (inr same) = omega (arith, same.0)

-- neither of two goes before the winner of their match
pub left_after : (a b : Rank) → is_before a (first_of a b) ≡ false
left_after a b = by (is_before b a) refl
  where
    by : (t : Bool) → is_before b a ≡ t → is_before a (cond t b a) ≡ false
    by true e = rank_asym a b e
    by false e = rank_irrefl a

pub right_after : (a b : Rank) → is_before b (first_of a b) ≡ false
right_after a b = by (is_before b a) refl
  where
    by : (t : Bool) → is_before b a ≡ t → is_before b (cond t b a) ≡ false
    by true e = rank_irrefl b
    by false e = e

pub first_of_same : (a : Rank) → first_of a a ≡ a
first_of_same a = by (is_before a a)
  where
    by : (t : Bool) → cond t a a ≡ a
    by true = refl
    by false = refl

-- a lesser number goes before
pub less_number : (a b : Rank) → a.number < b.number → is_before b a ≡ false
less_number a b less = after a.number b.number (name_is_before b.name a.name) (inl less)

-- Formats: which values there are, how each is spelled, and how it is read from the front of bytes.
-- Reading answers a value and the bytes after it, or a refusal of type E, whichever a crate has.
use Rattle.std.specs.Prelude.{ℕ, zero, suc, ◌≡◌, ◌+◌, ◌-◌, ◌*◌, ◌^◌, ◌<◌, ◌≤◌, Bool, true, false, List}
use Rattle.std.specs.Prelude.{[], ◌∷◌, ◌++◌, length, take, drop, nat_lt, if◌then◌else◌, Result, Ok, Err}
use Rattle.std.specs.List.{flat_map, AllByRecursion}
use Rattle.byteorder.specs.Endian.{big_bytes, big_number}
use Rattle.clone_bytes.specs.Fields.{IsBytes}

pub record Format (E A : Type 0) : Type 1 where
  pub Has : A → Type 0
  pub text : A → List ℕ
  pub read : List ℕ → Result (A × List ℕ) E

infixl 10 ◌>>=◌
abbrev pub ◌>>=◌ : {E A B : Type 0} → Result A E → (A → Result B E) → Result B E
(Ok x) >>= f = f x
(Err e) >>= f = Err e

-- ---- fields; short says that the bytes end too early

abbrev pub byte_at : {E : Type 0} → E → List ℕ → Result (ℕ × List ℕ) E
byte_at short [] = Err short
byte_at short (byte ∷ bytes) = Ok (byte, bytes)

abbrev pub number_at : {E : Type 0} → E → ℕ → List ℕ → Result (ℕ × List ℕ) E
number_at short n bytes =
    if nat_lt (length bytes) n then Err short else Ok (big_number n bytes, drop n bytes)

abbrev pub run_at : {E : Type 0} → E → ℕ → List ℕ → Result (List ℕ × List ℕ) E
run_at short n bytes =
    if nat_lt (length bytes) n then Err short else Ok (take n bytes, drop n bytes)

-- a number of n bytes
abbrev pub number : {E : Type 0} → E → ℕ → Format E ℕ
number short n = record { Has = λ x. x < 256 ^ n; text = big_bytes n; read = number_at short n }

-- so many bytes
abbrev pub run : {E : Type 0} → E → ℕ → Format E (List ℕ)
run short n =
    record { Has = λ x. (length x ≡ n) × IsBytes x; text = λ x. x; read = run_at short n }

-- A judge is told the least and the greatest number that begins with the bytes so far, and refuses
-- where none between them is wanted. It is asked at each byte, so a refusal comes at its first.
abbrev pub Judge : Type 0 → Type 0
Judge E = ℕ → ℕ → Result (Unit {0}) E

abbrev pub least_of : ℕ → ℕ → ℕ
least_of w front = front * 256 ^ w

abbrev pub most_of : ℕ → ℕ → ℕ
most_of w front = front * 256 ^ w + (256 ^ w - 1)

abbrev pub judged_at : {E : Type 0} → E → Judge E → ℕ → ℕ → List ℕ → Result (ℕ × List ℕ) E
judged_at short judge front zero bytes = Ok (front, bytes)
judged_at short judge front (suc w) bytes =
    byte_at short bytes >>= λ byte.
    judge (least_of w (front * 256 + byte.0)) (most_of w (front * 256 + byte.0)) >>= λ one.
    judged_at short judge (front * 256 + byte.0) w byte.1

-- a number of n bytes that is wanted
abbrev pub judged : {E : Type 0} → E → (ℕ → Type 0) → Judge E → ℕ → Format E ℕ
judged short Wanted judge n =
    record { Has = Wanted; text = big_bytes n; read = judged_at short judge 0 n }

-- a code of one byte that a judge lets pass
abbrev pub code_at : {E : Type 0} → E → (ℕ → Result (Unit {0}) E) → List ℕ → Result (ℕ × List ℕ) E
code_at short judge bytes =
    byte_at short bytes >>= λ byte. judge byte.0 >>= λ one. Ok (byte.0, byte.1)

abbrev pub code : {E : Type 0} → E → (ℕ → Result (Unit {0}) E) → Format E ℕ
code short judge = record {
  Has = λ x. (x < 256) × (judge x ≡ Ok tt);
  text = λ x. x ∷ [];
  read = code_at short judge;
}

-- a number of two bytes that is wanted
abbrev pub two_at : {E : Type 0} → E → Judge E → List ℕ → Result (ℕ × List ℕ) E
two_at short judge bytes =
    byte_at short bytes >>= λ high.
    judge (high.0 * 256) (high.0 * 256 + 255) >>= λ some.
    byte_at short high.1 >>= λ low.
    judge (high.0 * 256 + low.0) (high.0 * 256 + low.0) >>= λ one.
    Ok (high.0 * 256 + low.0, low.1)

abbrev pub two : {E : Type 0} → E → (ℕ → Type 0) → Judge E → Format E ℕ
two short Wanted judge = record { Has = Wanted; text = big_bytes 2; read = two_at short judge }

-- ---- what is made of them

abbrev pub chosen : {A : Type 0} → Bool → (A → Type 0) → (A → Type 0) → A → Type 0
chosen true P Q = P
chosen false P Q = Q

-- nothing, which stands for this value
abbrev pub nothing : {E A : Type 0} → A → Format E A
nothing x = record { Has = λ y. x ≡ y; text = λ y. []; read = λ bytes. Ok (x, bytes) }

-- a key of the value, and what follows a key so
abbrev pub led : {E K A : Type 0} → Format E K → (K → Format E A) → (A → K) → Format E A
led f g key = record {
  Has = λ x. f.Has (key x) × (g (key x)).Has x;
  text = λ x. f.text (key x) ++ (g (key x)).text x;
  read = λ bytes. f.read bytes >>= λ k. (g k.0).read k.1;
}

-- one value, and then another that may hang on the first, as bytes on their number
abbrev pub followed : {E A B : Type 0} → Format E A → (A → Format E B) → Format E (A × B)
followed f g = record {
  Has = λ p. f.Has p.0 × (g p.0).Has p.1;
  text = λ p. f.text p.0 ++ (g p.0).text p.1;
  read = λ bytes. f.read bytes >>= λ x. (g x.0).read x.1 >>= λ y. Ok ((x.0, y.0), y.1);
}

infixr 20 ◌&◌
abbrev pub ◌&◌ : {E A B : Type 0} → Format E A → Format E B → Format E (A × B)
f & g = followed f (λ x. g)

-- what is made of each value
abbrev pub seen : {E A B : Type 0} → (B → Type 0) → (B → List ℕ) → (A → B) → Format E A
    → Format E B
seen Has text make f =
    record { Has = Has; text = text; read = λ bytes. f.read bytes >>= λ x. Ok (make x.0, x.1) }

-- one of two
abbrev pub choose : {E A : Type 0} → Bool → Format E A → Format E A → Format E A
choose b f g = record {
  Has = chosen b f.Has g.Has;
  text = λ x. if b then f.text x else g.text x;
  read = λ bytes. if b then f.read bytes else g.read bytes;
}

-- what is made of each value, and so spelled
abbrev pub made : {E A B : Type 0} → (B → List ℕ) → (A → B) → Format E A → Format E B
made {A = A} text make f = seen (λ y. (x : A) × f.Has x × (make x ≡ y)) text make f

-- the values that pass a test, at whose end the others are refused for a cause
abbrev pub tested : {E A : Type 0} → (A → Bool) → E → Format E A → Format E A
tested test cause f = record {
  Has = λ x. f.Has x × (test x ≡ true);
  text = f.text;
  read = λ bytes. f.read bytes >>= λ x. if test x.0 then Ok (x.0, x.1) else Err cause;
}

-- so many, one after the other
abbrev pub list_at : {E A : Type 0} → (List ℕ → Result (A × List ℕ) E) → ℕ → List ℕ
    → Result (List A × List ℕ) E
list_at item zero bytes = Ok ([], bytes)
list_at item (suc n) bytes =
    item bytes >>= λ first. list_at item n first.1 >>= λ more. Ok (first.0 ∷ more.0, more.1)

abbrev pub list : {E A : Type 0} → Format E A → ℕ → Format E (List A)
list f n = record {
  Has = λ xs. (length xs ≡ n) × AllByRecursion f.Has xs;
  text = flat_map f.text;
  read = list_at f.read n;
}

-- ---- laws

-- the refusal that says that the bytes end, and which byte each other one names
pub record Refusals (E : Type 0) : Type 0 where
  pub short : E
  pub place : E → ℕ

-- further bytes, at least one, make the spelling of a value
pub record Begun {E A : Type 0} (format : Format E A) (bytes : List ℕ) : Type 0 where
  pub value : A
  pub more : List ℕ
  pub has : format.Has value
  pub some : 1 ≤ length more
  pub parts : bytes ++ more ≡ format.text value

-- What holds of a format that begins at an offset. There is a value, and spellings are bytes. What
-- is written is read back, whatever follows; what is read is the spelling, and what follows. The
-- bytes end too early only where further ones make a spelling. Each other refusal stays, whatever
-- follows, and names a byte that is there.
pub record IsFormat {E A : Type 0} (refusals : Refusals E) (at : ℕ) (format : Format E A)
    : Type 0 where
  pub one : (x : A) × format.Has x
  pub fit : (x : A) → format.Has x → IsBytes (format.text x)
  pub back : (x : A) (rest : List ℕ) → format.Has x
      → format.read (format.text x ++ rest) ≡ Ok (x, rest)
  pub from : (bytes : List ℕ) (x : A) (rest : List ℕ) → IsBytes bytes
      → format.read bytes ≡ Ok (x, rest) → format.Has x × (bytes ≡ format.text x ++ rest)
  pub opens : (bytes : List ℕ) → IsBytes bytes → format.read bytes ≡ Err refusals.short
      → Begun format bytes
  pub stays : (bytes more : List ℕ) (e : E) → IsBytes bytes → (e ≡ refusals.short → ⊥)
      → format.read bytes ≡ Err e
      → (format.read (bytes ++ more) ≡ Err e) × (refusals.place e < at + length bytes)

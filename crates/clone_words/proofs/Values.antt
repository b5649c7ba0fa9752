-- How the values of options are read.
use Rattle.std.proofs.Common.{◌≡◌, ◌∙◌, ◌≤◌, ℕ, refl, sym, ap, List, Option, Some, None, Result, Ok, Err, codes, Bool, true, false, IsTrue, ◌↔◌, unwrap_or}
use Rattle.std.specs.Prelude.{find, option_and_then, option_map, slice_get}
use Rattle.std.specs.Str.{bytes_eq}
use Rattle.std.proofs.lemmas.Slice.Eq.{bytes_eq-Decides}
use Rattle.std.specs.Str.Parse.{ParsesUnsigned, ParsesBool, digits_value, without_leading_plus}
use Rattle.clap.specs.Matches.{ReadsOne}
use Rattle.clap.specs.Values.{IsUnsignedIn, read_as}
use Rattle.clap.specs.Walk.{Row, Text, first_of, one_of, row_text}
use Rattle.clone_words.specs.Commands.{AreFound, IsFound, IsGiven, IsReadable, IsReadableText, number}
use Rattle.clone_words.specs.Options as options
use Rattle.clone_words.proofs.Rows.{some_is}

-- a text in a range is read as its number
number_is : {E : Type 0} (G : List ℕ → Result ℕ E → Type 0) (least most : ℕ) (text : Text) (r : Option ℕ) → ReadsOne G text r
    → ((u : List ℕ) (x : Result ℕ E) → G u x → ParsesUnsigned 64 10 u x) → IsUnsignedIn least most text
    → r ≡ Some (digits_value 10 (without_leading_plus text))
number_is G least most text (Some v) reads only passes = ap Some (only text (Ok v) reads).1
number_is G least most text None reads only passes = absurd (only text (Err reads.0) reads.1 (passes.0, passes.1))

pub number_read : {E : Type 0} (G : List ℕ → Result ℕ E → Type 0) (name : Text) (rows : List Row) (r : Option ℕ)
    → ((u : List ℕ) (x : Result ℕ E) → G u x → ParsesUnsigned 64 10 u x)
    → ((text : Text) → one_of name rows ≡ Some text → ReadsOne G text r) → IsReadable name rows → r ≡ number name rows
number_read G name rows r only reads is =
    number_is G is.least is.most is.text r (reads is.text is.found) only is.passes
    ∙ sym (ap (option_map (λ text. digits_value 10 (without_leading_plus text))) is.found)

last : {A : Type 0} {B Q : A → Type 0} (p : (a : A) × B a × Q a) → Q p.0
last p = p.2

-- a number that was found can be read
pub readable : (name : Text) (least most : ℕ) (rows : List Row) → IsFound rows (options.number name least most) → IsReadable name rows
readable name least most rows f = record {
  least = least;
  most = most;
  text = f.0;
  found = f.1;
  passes = last {B = λ text. one_of name rows ≡ Some text} {Q = IsUnsignedIn least most} f;
}

-- it has a number
pub number_some : (name : Text) (rows : List Row) → IsReadable name rows → number name rows ≡ None → ⊥
number_some name rows is e =
    let same = ap (option_map (λ text. digits_value 10 (without_leading_plus text))) is.found in cc

-- an option that has a value has a text
pub text_of : (name : Text) (rows : List Row) (text : Text) → one_of name rows ≡ Some text
    → (given : Text) × (first_of name rows ≡ Some given)
text_of name rows text e = go (find (λ r. bytes_eq r.id name) rows) e
  where
    first : (r : Row) (o : Option Text) → option_map (read_as r.reading) o ≡ Some text → (given : Text) × (o ≡ Some given)
    first r None u = cc
    first r (Some given) u = (given, refl)

    go : (o : Option Row) → option_and_then row_text o ≡ Some text
        → (given : Text) × (option_and_then (λ r. slice_get r.values 0) o ≡ Some given)
    go None u = cc
    go (Some r) u = first r (slice_get r.values 0) u

-- so has the directory where it is required
pub directory_text : (rows : List Row) → AreFound options.directory_options rows → IsReadableText (codes "dir") rows
unfolding AreFound
directory_text rows found = text_of (codes "dir") rows (found.0 refl).0 (found.0 refl).1

-- the number of an option is in the range that it passed
pub in_range : (name : Text) (least most n : ℕ) (rows : List Row) → IsFound rows (options.number name least most)
    → Some n ≡ number name rows → (least ≤ n) × (n ≤ most)
in_range name least most n rows f e =
    let same : n ≡ digits_value 10 (without_leading_plus f.0) =
    some_is _ _ (e ∙ ap (option_map (λ text. digits_value 10 (without_leading_plus text))) f.1) in
    let passes : IsUnsignedIn least most f.0 = last {B = λ text. one_of name rows ≡ Some text} {Q = IsUnsignedIn least most} f in
    rw same (passes.2, passes.3)

pub differ : (a b : Text) → bytes_eq a b ≡ false → a ≡ b → ⊥
differ a b e same = let equal = (bytes_eq-Decides a b).1 same in cc

-- a flag is read as true where it is given
pub flag_read : (E : Type 0) (name : Text) (rows : List Row) (r : Option Bool)
    → (one_of name rows ≡ None → r ≡ None)
    → ((text : Text) → one_of name rows ≡ Some text → ReadsOne {T = Bool} {E = E} ParsesBool text r)
    → IsTrue (unwrap_or r false) ↔ IsGiven name rows
flag_read E name rows r none reads = (λ is. back (one_of name rows) refl r none reads is, λ given. there r (reads (codes "true") given))
  where
    back : (o : Option Text) → one_of name rows ≡ o → (r : Option Bool) → (one_of name rows ≡ None → r ≡ None)
        → ((text : Text) → one_of name rows ≡ Some text → ReadsOne {T = Bool} {E = E} ParsesBool text r)
        → IsTrue (unwrap_or r false) → IsGiven name rows
    back None e (Some b) none reads is = let bad = none e in cc
    back None e None none reads is = cc
    back (Some text) e (Some true) none reads is = e ∙ ap Some (reads text e)
    back (Some text) e (Some false) none reads is = cc
    back (Some text) e None none reads is = cc

    there : (r : Option Bool) → ReadsOne {T = Bool} {E = E} ParsesBool (codes "true") r → IsTrue (unwrap_or r false)
    there (Some true) h = refl
    there (Some false) h = absurd (differ (codes "true") (codes "false") refl h)
    there None h = absurd (h.1.0 refl)

-- What the texts that were read so far have given.
use Rattle.std.proofs.Common.{◌≡◌, ℕ, ◌+◌, ◌<◌, ◌≤◌, List, [], ◌∷◌, ◌++◌, length, refl, sym, ap, ◌∙◌, subst, arith, append_assoc, length-append}
use Rattle.clone_script.specs.Given.{Given, nothing}
use Rattle.clone_script.specs.Script.{texts_of, Gives, Give}

-- the texts before the rest give this
pub record HasRead (bytes : List ℕ) (given : Given) (number : ℕ) (rest : List ℕ) : Type 0 where
  pub front : List (List ℕ)
  pub split : texts_of bytes ≡ front ++ texts_of rest
  pub count : number ≡ length front
  pub good : Give nothing front given
  pub within : number + length rest ≤ length bytes

Give-more : (front : List (List ℕ)) (text : List ℕ) (first before after : Given) → Give first front before → Gives before text after → Give first (front ++ text ∷ []) after
Give-more [] text first before after e g = (after, subst (λ b. Gives b text after) e g, refl)
Give-more (t ∷ front) text first before after h g = (h.0, h.1, Give-more front text h.0 before after h.2 g)

-- one text more
pub HasRead-more : (bytes text rest behind : List ℕ) (before after : Given) (number : ℕ) → HasRead bytes before number rest → texts_of rest ≡ text ∷ texts_of behind → length behind < length rest
    → Gives before text after → HasRead bytes after (number + 1) behind
HasRead-more bytes text rest behind before after number h e shorter g =
    record {
      front = h.front ++ text ∷ [];
      split = h.split ∙ ap (λ texts. h.front ++ texts) e ∙ sym (append_assoc h.front (text ∷ []) (texts_of behind));
      count = omega (arith, length-append h.front (text ∷ []), h.count);
      good = Give-more h.front text nothing before after h.good g;
      within = omega (arith, h.within);
    }

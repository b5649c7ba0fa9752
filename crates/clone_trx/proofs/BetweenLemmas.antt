-- Where a call writes two mini-transactions, the image between them keeps what the donor was.
use Rattle.std.proofs.lemmas.List.{append_assoc}
use Rattle.clone_trx.proofs.Common.{◌≡◌, ◌++◌, ◌∷◌, [], List, length, take, sym, ap, subst, ◌∙◌, arith, IsTrue, Result, Ok, Err, length-append, replayed, Buffered, image_of, written, EngineRefusal, Because, NoMemory, Donor, IsKept, Record, take-append_seam, KeptBetween, Writes}

-- a list that one more makes end in two
one_less : {X : Type 0} (xs ys : List X) (x a b : X) → xs ++ x ∷ [] ≡ ys ++ a ∷ b ∷ [] → xs ≡ ys ++ a ∷ []
one_less xs ys x a b is =
    let whole : xs ++ x ∷ [] ≡ (ys ++ a ∷ []) ++ b ∷ [] = is ∙ sym (append_assoc ys (a ∷ []) (b ∷ [])) in
    let one = length-append xs (x ∷ []) in
    let two = length-append (ys ++ a ∷ []) (b ∷ []) in
    let long : length xs ≡ length (ys ++ a ∷ []) = omega (arith, ap length whole, one, two) in
    sym (take-append_seam xs (x ∷ [])) ∙ (λ i. take (long i) (whole i)) ∙ take-append_seam (ys ++ a ∷ []) (b ∷ [])

-- nothing was written
pub between_none : (d : Donor) (b : Buffered) → KeptBetween d b b
between_none d b first second is right = let long = length-append b.log (first ∷ second ∷ []) in absurd (omega (arith, ap length is, long))

-- nothing more was written
pub between_still : (d : Donor) (start old new : Buffered) → new.log ≡ old.log → (IsTrue new.right → IsTrue old.right) → KeptBetween d start old → KeptBetween d start new
between_still d start old new same before kept first second is right = kept first second (sym same ∙ is) (before right)

-- a mini-transaction more was written
pub between_written : (d : Donor) (start old new : Buffered) (records : List Record) → new ≡ written records old → (IsTrue old.right → IsKept d (image_of old)) → KeptBetween d start new
between_written d start old new records is kept first second log right =
    let more : old.log ≡ start.log ++ first ∷ [] = one_less old.log start.log records first second (sym (ap (λ (b : Buffered). b.log) is) ∙ log) in
    subst (λ (ms : List (List Record)). IsKept d (replayed ms)) more (kept (subst (λ (b : Buffered). IsTrue b.right) is right))

-- or none, where the call was refused
pub between_writes : {X : Type 0} (d : Donor) (start old new : Buffered) (records : List Record) (result : Result X EngineRefusal) → Writes records old new result → (IsTrue old.right → IsKept d (image_of old)) → KeptBetween d start old → KeptBetween d start new
between_writes d start old new records (Ok x) w kept between = between_written d start old new records w.1 kept
between_writes d start old new records (Err (Because cause)) w kept between = subst (KeptBetween d start) (sym w.1) between
between_writes d start old new records (Err NoMemory) w kept between = subst (KeptBetween d start) (sym w.1) between

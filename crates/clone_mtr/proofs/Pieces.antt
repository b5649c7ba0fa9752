-- Pieces that are put one behind the other.
use Rattle.std.proofs.Common.{◌≡◌, ℕ, suc, ◌+◌, ◌<◌, ◌≤◌, List, [], ◌∷◌, ◌++◌, length, take, drop, get_or, refl, sym, ap, ◌∙◌, append_assoc, drop-cons, add-one, arith}
use Rattle.std.proofs.Math.ListN.{drop_of_length-le}
use Rattle.std.proofs.Math.Seq.{drop-append-add}
use Rattle.std.proofs.lemmas.List.{drop-drop, take_at, length-append, length-take}
use Rattle.clone_page.specs.Bytes.{put_at}
use Rattle.clone_mtr.specs.Spelling.{record_spelling, spelling}
use Rattle.clone_mtr.specs.declared.record.Record.{Record}

-- a piece behind another is one piece
pub put_at-then : (at : ℕ) (x y bytes : List ℕ) → at + length x ≤ length bytes → put_at (at + length x) y (put_at at x bytes) ≡ put_at at (x ++ y) bytes
put_at-then at x y bytes fits =
    let front = take at bytes ++ x in
    let rest = drop (at + length x) bytes in
    let long : length front ≡ at + length x = length-append (take at bytes) x ∙ omega (arith, length-take at bytes) in
    let whole : put_at at x bytes ≡ front ++ rest = sym (append_assoc (take at bytes) x rest) in
    let taken : take (at + length x) (front ++ rest) ≡ front = take_at front rest (at + length x) long in
    let left : drop (at + length x + length y) (front ++ rest) ≡ drop (length y) rest =
    ap (λ n. drop (n + length y) (front ++ rest)) (sym long) ∙ drop-append-add front rest (length y) in
    let far : drop (length y) rest ≡ drop (at + length (x ++ y)) bytes =
    drop-drop (length y) (at + length x) bytes ∙ ap (λ n. drop n bytes) (omega (arith, length-append x y)) in
    rw (whole, taken, left, far, append_assoc (take at bytes) x, append_assoc x y) refl

-- the second of two pieces was put
pub two_pieces : (at behind : ℕ) (x y old middle new : List ℕ) → at + length x ≤ length old → behind ≡ at + length x → middle ≡ put_at at x old → new ≡ put_at behind y middle → new ≡ put_at at (x ++ y) old
two_pieces at behind x y old middle new fits far first second = second ∙ rw (far, first) (put_at-then at x y old fits)

-- one record more was put
pub more_laid : (at behind i : ℕ) (entries : List Record) (entry : Record) (into new old : List ℕ) → i < length entries → entry ≡ get_or entries i entry → length (spelling entries) ≤ length into
    → behind ≡ at + length (record_spelling entry) → new ≡ put_at at (record_spelling entry) into
    → at + length (spelling (drop i entries)) ≡ length (spelling entries) → put_at at (spelling (drop i entries)) into ≡ put_at 0 (spelling entries) old
    → (behind + length (spelling (drop (i + 1) entries)) ≡ length (spelling entries)) × (put_at behind (spelling (drop (i + 1) entries)) new ≡ put_at 0 (spelling entries) old)
more_laid at behind i entries entry into new old within item room far laid long text =
    let more = spelling (drop (i + 1) entries) in
    let split : drop i entries ≡ entry ∷ drop (i + 1) entries = rw add-one (drop-cons entries i entry within ∙ ap (λ r. r ∷ drop (suc i) entries) (sym item)) in
    let whole : spelling (drop i entries) ≡ record_spelling entry ++ more = ap spelling split in
    let lengths : length (spelling (drop i entries)) ≡ length (record_spelling entry) + length more = ap length whole ∙ length-append (record_spelling entry) more in
    (omega arith, two_pieces at behind (record_spelling entry) more into new (put_at behind more new) (omega arith) far laid refl ∙ ap (λ t. put_at at t into) (sym whole) ∙ text)

-- the end mark is all that is left
pub all_laid : (at i : ℕ) (entries : List Record) (into old : List ℕ) → length entries ≤ i → put_at at (spelling (drop i entries)) into ≡ put_at 0 (spelling entries) old → put_at at (6 ∷ []) into ≡ put_at 0 (spelling entries) old
all_laid at i entries into old past text = ap (λ rs. put_at at (spelling rs) into) (sym (drop_of_length-le entries past)) ∙ text

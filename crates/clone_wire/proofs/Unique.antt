-- No spelling begins another, and one answer fits the bytes.
use Rattle.std.proofs.Common.{◌≡◌, ℕ, ◌≤◌, ◌⊎◌, List, ◌++◌, length, take, drop, Result, Ok, Err, refl, sym, ap, ◌∙◌, arith, inl, inr}
use Rattle.std.proofs.lemmas.List.{length-drop, take-append-drop}
use Rattle.clone_bytes.specs.Fields.{IsBytes}
use Rattle.clone_bytes.proofs.Answers.{same_ok, same_err, not_both}
use Rattle.clone_bytes.proofs.FirstBytes.{unique, front_short}
use Rattle.clone_wire.specs.declared.frame.Side.{Side}
use Rattle.clone_wire.specs.declared.frame.Frame.{Frame}
use Rattle.clone_wire.specs.declared.fault.Fault.TheVariants as fault
use Rattle.clone_wire.specs.declared.fault.WireRefusal.{WireRefusal}
use Rattle.clone_wire.specs.declared.fault.WireRefusal.TheVariants.{NotYet, Garbled, NoMemory}
use Rattle.clone_wire.specs.Spelling.{spelling}
use Rattle.clone_wire.specs.Reading.{frame_at}
use Rattle.clone_wire.specs.Answers.{Spells, IsFront, Needs, Decodes}
use Rattle.clone_wire.proofs.FrameSpellings.{frame_laws}
use Rattle.clone_wire.proofs.Decoding.{decides, only_spelling, head_is, head_whole}

pub one_spelling : (side : Side) (a b x y : List ℕ) (m n : Frame) → Spells side a m → Spells side b n → a ++ x ≡ b ++ y → (a ≡ b) × (m ≡ n)
one_spelling side a b x y m n p q e =
    let is = only_spelling side a m p in
    let its = only_spelling side b n q in
    let same = unique (frame_laws side) m n x y (is.0, is.1) (its.0, its.1) (ap (λ t. t ++ x) (sym is.2) ∙ e ∙ ap (λ t. t ++ y) its.2) in
    (is.2 ∙ ap spelling same.0 ∙ sym its.2, same.0)

-- ---- what an answer tells of reading

found_is : (side : Side) (bytes : List ℕ) (frame : Frame) (n : ℕ) → Spells side (take n bytes) frame → frame_at side bytes ≡ Ok (frame, drop n bytes)
found_is side bytes frame n spelled =
    let is = only_spelling side (take n bytes) frame spelled in
    ap (frame_at side) (sym (take-append-drop n bytes) ∙ ap (λ t. t ++ drop n bytes) is.2) ∙ (frame_laws side).back frame (drop n bytes) (is.0, is.1)

front_is_short : (side : Side) (bytes : List ℕ) (long : ℕ) → IsFront side bytes long → frame_at side bytes ≡ Err fault.Short
front_is_short side bytes long front =
    let is = only_spelling side (bytes ++ front.more) front.frame front.spelled in
    front_short (frame_laws side) decides bytes (record { value = front.frame; more = front.more; has = (is.0, is.1); some = front.some; parts = is.2 })

needs_short : (side : Side) (bytes : List ℕ) (need : ℕ) → Needs side bytes need → frame_at side bytes ≡ Err fault.Short
needs_short side bytes need (inl known) = front_is_short side bytes need known.1
needs_short side bytes need (inr few) = front_is_short side bytes few.2.0 few.2.1

same_need : (side : Side) (bytes : List ℕ) (m n : ℕ) → IsBytes bytes → Needs side bytes m → Needs side bytes n → m ≡ n
same_need side bytes m n fit (inl p) (inl q) =
    let h = head_whole side bytes p.1.more p.1.frame p.0 p.1.spelled in
    let a = (head_is side bytes p.1.more h.0.0 h.0.1 p.1.frame fit h.1 p.1.spelled) in
    let b = (head_is side bytes q.1.more h.0.0 h.0.1 q.1.frame fit h.1 q.1.spelled) in
    sym p.1.whole ∙ a ∙ sym b ∙ q.1.whole
same_need side bytes m n fit (inl p) (inr q) = absurd (let enough = p.0 in let few = q.0 in omega arith)
same_need side bytes m n fit (inr p) (inl q) = absurd (let enough = q.0 in let few = p.0 in omega arith)
same_need side bytes m n fit (inr p) (inr q) = p.1 ∙ sym q.1

same_found : (side : Side) (bytes : List ℕ) (p q : Frame × ℕ) → Spells side (take p.1 bytes) p.0 × (p.1 ≤ length bytes) → Spells side (take q.1 bytes) q.0 × (q.1 ≤ length bytes) → p ≡ q
same_found side bytes p q a b =
    let same = same_ok (found_is side bytes p.0 p.1 a.0) (found_is side bytes q.0 q.1 b.0) in
    let left = ap length (ap (λ (r : Frame × List ℕ). r.1) same) in
    let count : p.1 ≡ q.1 = omega (arith, a.1, b.1, length-drop p.1 bytes, length-drop q.1 bytes) in
    ap (λ (frame : Frame). (frame, p.1)) (ap (λ (r : Frame × List ℕ). r.0) same) ∙ ap (λ (n : ℕ). (q.0, n)) count

pub one_answer : (side : Side) (bytes : List ℕ) (a b : Result (Frame × ℕ) WireRefusal) → IsBytes bytes → Decodes side bytes a → Decodes side bytes b → (a ≡ b) ⊎ ((a ≡ Err NoMemory) ⊎ (b ≡ Err NoMemory))
one_answer side bytes (Ok p) (Ok q) fit a b = inl (ap (λ r. Ok r) (same_found side bytes p q a b))
one_answer side bytes (Ok p) (Err (NotYet n)) fit a b = absurd (not_both (found_is side bytes p.0 p.1 a.0) (needs_short side bytes n b.1))
one_answer side bytes (Ok p) (Err (Garbled n)) fit a b = absurd (not_both (found_is side bytes p.0 p.1 a.0) b.1.stops)
one_answer side bytes (Err (NotYet m)) (Ok q) fit a b = absurd (not_both (found_is side bytes q.0 q.1 b.0) (needs_short side bytes m a.1))
one_answer side bytes (Err (NotYet m)) (Err (NotYet n)) fit a b = inl (ap (λ k. Err (NotYet k)) (same_need side bytes m n fit a.1 b.1))
one_answer side bytes (Err (NotYet m)) (Err (Garbled n)) fit a b = absurd (let wrong = same_err (needs_short side bytes m a.1) b.1.stops in cc)
one_answer side bytes (Err (Garbled m)) (Ok q) fit a b = absurd (not_both (found_is side bytes q.0 q.1 b.0) a.1.stops)
one_answer side bytes (Err (Garbled m)) (Err (NotYet n)) fit a b = absurd (let wrong = same_err (needs_short side bytes n b.1) a.1.stops in cc)
one_answer side bytes (Err (Garbled m)) (Err (Garbled n)) fit a b = inl (let same = same_err a.1.stops b.1.stops in let offsets : m ≡ n = cc in ap (λ k. Err (Garbled k)) offsets)
one_answer side bytes (Err NoMemory) b fit p q = inr (inl refl)
one_answer side bytes (Ok p) (Err NoMemory) fit a b = inr (inr refl)
one_answer side bytes (Err (NotYet m)) (Err NoMemory) fit a b = inr (inr refl)
one_answer side bytes (Err (Garbled m)) (Err NoMemory) fit a b = inr (inr refl)

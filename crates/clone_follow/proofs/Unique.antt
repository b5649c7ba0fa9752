-- No spelling begins another, and one answer fits the bytes.
use Rattle.std.proofs.Common.{◌≡◌, ℕ, ◌≤◌, ◌⊎◌, List, ◌++◌, length, take, drop, Result, Ok, Err, refl, sym, ap, ◌∙◌, arith, inl, inr}
use Rattle.std.proofs.lemmas.List.{length-drop, take-append-drop}
use Rattle.clone_bytes.specs.Fields.{IsBytes}
use Rattle.clone_bytes.proofs.Answers.{same_ok, same_err, not_both}
use Rattle.clone_bytes.proofs.FirstBytes.{unique, front_short}
use Rattle.clone_follow.specs.declared.frame.FollowFrame.{FollowFrame}
use Rattle.clone_follow.specs.declared.fault.Fault.TheVariants as fault
use Rattle.clone_follow.specs.declared.fault.FrameRefusal.{FrameRefusal}
use Rattle.clone_follow.specs.declared.fault.FrameRefusal.TheVariants.{NotYet, Garbled, NoMemory}
use Rattle.clone_follow.specs.Spelling.{spelling}
use Rattle.clone_follow.specs.Reading.{frame_at}
use Rattle.clone_follow.specs.Answers.{Spells, IsFront, Needs, Decodes}
use Rattle.clone_follow.proofs.FrameFormats.{frame_laws}
use Rattle.clone_follow.proofs.Decoding.{decides, only_spelling, head_is, head_whole}

pub one_spelling : (a b x y : List ℕ) (m n : FollowFrame) → Spells a m → Spells b n → a ++ x ≡ b ++ y → (a ≡ b) × (m ≡ n)
one_spelling a b x y m n p q e =
    let is = only_spelling a m p in
    let its = only_spelling b n q in
    let same = unique frame_laws m n x y is.0 its.0 (ap (λ t. t ++ x) (sym is.1) ∙ e ∙ ap (λ t. t ++ y) its.1) in
    (is.1 ∙ ap spelling same.0 ∙ sym its.1, same.0)

-- ---- what an answer tells of reading

found_is : (bytes : List ℕ) (frame : FollowFrame) (n : ℕ) → Spells (take n bytes) frame → frame_at bytes ≡ Ok (frame, drop n bytes)
found_is bytes frame n spelled =
    let is = only_spelling (take n bytes) frame spelled in
    ap frame_at (sym (take-append-drop n bytes) ∙ ap (λ t. t ++ drop n bytes) is.1) ∙ frame_laws.back frame (drop n bytes) is.0

front_is_short : (bytes : List ℕ) (long : ℕ) → IsFront bytes long → frame_at bytes ≡ Err fault.Short
front_is_short bytes long front =
    let is = only_spelling (bytes ++ front.more) front.frame front.spelled in
    front_short frame_laws decides bytes (record { value = front.frame; more = front.more; has = is.0; some = front.some; parts = is.1 })

needs_short : (bytes : List ℕ) (need : ℕ) → Needs bytes need → frame_at bytes ≡ Err fault.Short
needs_short bytes need (inl known) = front_is_short bytes need known.1
needs_short bytes need (inr few) = front_is_short bytes few.2.0 few.2.1

same_need : (bytes : List ℕ) (m n : ℕ) → IsBytes bytes → Needs bytes m → Needs bytes n → m ≡ n
same_need bytes m n fit (inl p) (inl q) =
    let h = head_whole bytes p.1.more p.1.frame p.0 p.1.spelled in
    let a = (head_is bytes p.1.more h.0.0 h.0.1 p.1.frame fit h.1 p.1.spelled) in
    let b = (head_is bytes q.1.more h.0.0 h.0.1 q.1.frame fit h.1 q.1.spelled) in
    sym p.1.whole ∙ a ∙ sym b ∙ q.1.whole
same_need bytes m n fit (inl p) (inr q) = absurd (let enough = p.0 in let few = q.0 in omega arith)
same_need bytes m n fit (inr p) (inl q) = absurd (let enough = q.0 in let few = p.0 in omega arith)
same_need bytes m n fit (inr p) (inr q) = p.1 ∙ sym q.1

same_found : (bytes : List ℕ) (p q : FollowFrame × ℕ) → Spells (take p.1 bytes) p.0 × (p.1 ≤ length bytes) → Spells (take q.1 bytes) q.0 × (q.1 ≤ length bytes) → p ≡ q
same_found bytes p q a b =
    let same = same_ok (found_is bytes p.0 p.1 a.0) (found_is bytes q.0 q.1 b.0) in
    let left = ap length (ap (λ (r : FollowFrame × List ℕ). r.1) same) in
    let count : p.1 ≡ q.1 = omega (arith, a.1, b.1, length-drop p.1 bytes, length-drop q.1 bytes) in
    ap (λ (frame : FollowFrame). (frame, p.1)) (ap (λ (r : FollowFrame × List ℕ). r.0) same) ∙ ap (λ (n : ℕ). (q.0, n)) count

pub one_answer : (bytes : List ℕ) (a b : Result (FollowFrame × ℕ) FrameRefusal) → IsBytes bytes → Decodes bytes a → Decodes bytes b → (a ≡ b) ⊎ ((a ≡ Err NoMemory) ⊎ (b ≡ Err NoMemory))
one_answer bytes (Ok p) (Ok q) fit a b = inl (ap (λ r. Ok r) (same_found bytes p q a b))
one_answer bytes (Ok p) (Err (NotYet n)) fit a b = absurd (not_both (found_is bytes p.0 p.1 a.0) (needs_short bytes n b.1))
one_answer bytes (Ok p) (Err (Garbled n)) fit a b = absurd (not_both (found_is bytes p.0 p.1 a.0) b.1.stops)
one_answer bytes (Err (NotYet m)) (Ok q) fit a b = absurd (not_both (found_is bytes q.0 q.1 b.0) (needs_short bytes m a.1))
one_answer bytes (Err (NotYet m)) (Err (NotYet n)) fit a b = inl (ap (λ k. Err (NotYet k)) (same_need bytes m n fit a.1 b.1))
one_answer bytes (Err (NotYet m)) (Err (Garbled n)) fit a b = absurd (let wrong = same_err (needs_short bytes m a.1) b.1.stops in cc)
one_answer bytes (Err (Garbled m)) (Ok q) fit a b = absurd (not_both (found_is bytes q.0 q.1 b.0) a.1.stops)
one_answer bytes (Err (Garbled m)) (Err (NotYet n)) fit a b = absurd (let wrong = same_err (needs_short bytes n b.1) a.1.stops in cc)
one_answer bytes (Err (Garbled m)) (Err (Garbled n)) fit a b = inl (let same = same_err a.1.stops b.1.stops in let offsets : m ≡ n = cc in ap (λ k. Err (Garbled k)) offsets)
one_answer bytes (Err NoMemory) b fit p q = inr (inl refl)
one_answer bytes (Ok p) (Err NoMemory) fit a b = inr (inr refl)
one_answer bytes (Err (NotYet m)) (Err NoMemory) fit a b = inr (inr refl)
one_answer bytes (Err (Garbled m)) (Err NoMemory) fit a b = inr (inr refl)

-- What reading a frame gives is what the decoder has to answer.
use Rattle.std.proofs.Common.{◌≡◌, ℕ, ◌+◌, ◌<◌, ◌≤◌, List, [], ◌++◌, length, take, drop, Ok, Err, refl, sym, ap, subst, ◌∙◌, append_assoc, arith, inl, inr}
use Rattle.std.proofs.lemmas.List.{append-nil, length-append, take_at}
use Rattle.clone_bytes.specs.Fields.{IsBytes}
use Rattle.clone_bytes.specs.Formats.{◌>>=◌, Begun}
use Rattle.clone_bytes.proofs.Numbers.{IsBytes-front}
use Rattle.clone_bytes.proofs.Answers.{outcome, not_both}
use Rattle.clone_bytes.proofs.FirstBytes.{Decides, unique, none_yet, none_ever, first_byte}
use Rattle.clone_follow.specs.declared.frame.FollowFrame.{FollowFrame}
use Rattle.clone_follow.specs.declared.fault.Fault.{Fault}
use Rattle.clone_follow.specs.declared.fault.Fault.TheVariants.{Short, Garbled, NoMemory}
use Rattle.clone_follow.specs.Ranges.{IsFrame}
use Rattle.clone_follow.specs.Spelling.{code_of, payload, spelling}
use Rattle.clone_follow.specs.Reading.{Fails, refusals, head, head_at, payload_at, frame_at}
use Rattle.clone_follow.specs.Answers.{Spells, BeginsNone, IsFront, IsLost, StopsAt, Decodes, refusal_of}
use Rattle.clone_follow.proofs.FrameFormats.{head_laws, spelled_frame, frame_laws, has_head}

pub decides : Decides refusals
decides Short = inl refl
decides (Garbled at) = inr (λ e. cc)
decides NoMemory = inr (λ e. cc)

-- ---- spellings

pub spells_back : (frame : FollowFrame) → IsFrame frame → Spells (spelling frame) frame
spells_back frame is = record { bytes_fit = frame_laws.fit frame is; fields = ap frame_at (sym (append-nil (spelling frame))) ∙ frame_laws.back frame [] is }

pub only_spelling : (bytes : List ℕ) (frame : FollowFrame) → Spells bytes frame → IsFrame frame × (bytes ≡ spelling frame)
only_spelling bytes frame spelled = let p = frame_laws.from bytes frame [] spelled.bytes_fit spelled.fields in (p.0, p.1 ∙ append-nil (spelling frame))

pub as_spelled : (frame : FollowFrame) (text : List ℕ) → IsFrame frame → text ≡ spelling frame → Spells text frame
as_spelled frame text is e = subst (λ t. Spells t frame) (sym e) (spells_back frame is)

-- ---- the head of a frame

spelling_long : (frame : FollowFrame) → length (spelling frame) ≡ 5 + length (payload frame)
unfolding spelling
spelling_long frame = omega arith

-- the head that was read is that of the frame at the front, which may not be whole yet
pub head_tells : (bytes more : List ℕ) (h : ℕ × ℕ) (rest : List ℕ) (frame : FollowFrame) (left : List ℕ) → IsBytes bytes → head_at bytes ≡ Ok (h, rest) → IsFrame frame → bytes ++ more ≡ spelling frame ++ left
    → h ≡ (code_of frame, length (payload frame))
unfolding head_at spelling
head_tells bytes more h rest frame left fit read is parts =
    let p = head_laws.from bytes h rest fit read in
    let k : ℕ × ℕ = (code_of frame, length (payload frame)) in
    (unique head_laws h k (rest ++ more) (payload frame ++ left) p.0 (has_head frame is) (sym (append_assoc ((head).text h) rest more) ∙ ap (λ t. t ++ more) (sym p.1) ∙ parts ∙ simp append_assoc)).0

pub head_is : (bytes more : List ℕ) (h : ℕ × ℕ) (rest : List ℕ) (frame : FollowFrame) → IsBytes bytes → head_at bytes ≡ Ok (h, rest) → Spells (bytes ++ more) frame → length (bytes ++ more) ≡ 5 + h.1
head_is bytes more h rest frame fit read spelled =
    let is = only_spelling (bytes ++ more) frame spelled in
    let same = head_tells bytes more h rest frame [] fit read is.0 (is.1 ∙ sym (append-nil (spelling frame))) in
    ap length is.1 ∙ spelling_long frame ∙ ap (λ (k : ℕ × ℕ). 5 + k.1) (sym same)

-- a head is read from five bytes, and is short only with fewer
pub head_long : (bytes : List ℕ) (h : ℕ × ℕ) (rest : List ℕ) → IsBytes bytes → head_at bytes ≡ Ok (h, rest) → (5 ≤ length bytes) × (rest ≡ drop 5 bytes)
unfolding head_at
head_long bytes h rest fit read =
    let p = head_laws.from bytes h rest fit read in
    (omega (arith, ap length p.1), sym (ap (drop 5) p.1))

head_short : (bytes : List ℕ) → IsBytes bytes → head_at bytes ≡ Err Short → length bytes < 5
unfolding head_at
head_short bytes fit short = let x = head_laws.opens bytes fit short in omega (arith, x.some, ap length x.parts, length-append bytes x.more)

-- a head and then a payload, or a fault in one of them
pub in_both : (bytes : List ℕ) (h : ℕ × ℕ) (rest : List ℕ) → head_at bytes ≡ Ok (h, rest) → frame_at bytes ≡ payload_at h.0 h.1 rest
unfolding frame_at head_at payload_at
in_both bytes h rest e = ap (λ r. r >>= λ x. payload_at x.0.0 x.0.1 x.1) e

pub in_head : (bytes : List ℕ) (fault : Fault) → head_at bytes ≡ Err fault → frame_at bytes ≡ Err fault
unfolding frame_at head_at payload_at
in_head bytes fault e = ap (λ r. r >>= λ x. payload_at x.0.0 x.0.1 x.1) e

head_stays : (bytes more : List ℕ) (e : Fault) → IsBytes bytes → (e ≡ Short → ⊥) → head_at bytes ≡ Err e → head_at (bytes ++ more) ≡ Err e
unfolding head_at
head_stays bytes more e fit other failed = (head_laws.stays bytes more e fit other failed).0

-- what was read is at the front
pub found : (bytes : List ℕ) (h : ℕ × ℕ) (rest : List ℕ) (frame : FollowFrame) (left : List ℕ) → IsBytes bytes → head_at bytes ≡ Ok (h, rest) → payload_at h.0 h.1 rest ≡ Ok (frame, left)
    → Spells (take (5 + h.1) bytes) frame × (5 + h.1 ≤ length bytes)
found bytes h rest frame left fit read payload =
    let p = frame_laws.from bytes frame left fit (in_both bytes h rest read ∙ payload) in
    let spelled = spells_back frame p.0 in
    let same = head_tells bytes [] h rest frame left fit read p.0 (append-nil bytes ∙ p.1) in
    let long : length (spelling frame) ≡ 5 + h.1 = spelling_long frame ∙ ap (λ (k : ℕ × ℕ). 5 + k.1) (sym same) in
    let text : take (5 + h.1) bytes ≡ spelling frame = ap (take (5 + h.1)) p.1 ∙ take_at (spelling frame) left (5 + h.1) long in
    (subst (λ t. Spells t frame) (sym text) spelled, omega (arith, ap length p.1, length-append (spelling frame) left))

-- where a frame begins with five bytes its head is read
pub head_whole : (bytes more : List ℕ) (frame : FollowFrame) → 5 ≤ length bytes → Spells (bytes ++ more) frame → (x : (ℕ × ℕ) × List ℕ) × (head_at bytes ≡ Ok (x.0, x.1))
head_whole bytes more frame enough spelled =
    let fit : IsBytes bytes = IsBytes-front bytes more spelled.bytes_fit in
    elim (outcome (head_at bytes)) [
      | inl read ↦ read
      | inr failed ↦ elim (decides failed.0) [
        | inl short ↦ absurd (omega (arith, head_short bytes fit (failed.1 ∙ ap (λ e. Err e) short)))
        | inr other ↦ absurd (not_both spelled.fields (in_head (bytes ++ more) failed.0 (head_stays bytes more failed.0 fit other failed.1)))
      ]
    ]

-- ---- refusals

-- where reading stops no frame begins
pub none_begins : (bytes : List ℕ) (fault : Fault) → frame_at bytes ≡ Err fault → BeginsNone bytes
none_begins bytes fault e front rest frame parts spelled =
    let is = only_spelling front frame spelled in
    none_yet frame_laws bytes rest fault frame e is.0 (parts ∙ ap (λ t. t ++ rest) is.1)

lost : (bytes : List ℕ) (at : ℕ) → IsBytes bytes → frame_at bytes ≡ Err (Garbled at) → IsLost bytes
lost bytes at fit e more more_fit front rest frame parts spelled =
    let is = only_spelling front frame spelled in
    none_ever frame_laws bytes more rest (Garbled at) frame fit (λ d. cc) e is.0 (parts ∙ ap (λ t. t ++ rest) is.1)

-- a front of a spelling
some_front : (bytes : List ℕ) → Begun spelled_frame bytes → (long : ℕ) × IsFront bytes long
some_front bytes x = (length (bytes ++ x.more), record { more = x.more; frame = x.value; some = x.some; spelled = subst (λ t. Spells t x.value) (sym x.parts) (spells_back x.value x.has); whole = refl })

garbled : (bytes : List ℕ) (at : ℕ) → IsBytes bytes → frame_at bytes ≡ Err (Garbled at) → IsLost bytes × StopsAt bytes at
garbled bytes at fit e =
    let turn = first_byte frame_laws decides bytes (Garbled at) fit (λ d. cc) e in
    (lost bytes at fit e, record { within = omega (arith, turn.place, turn.within); before = some_front (take at bytes) turn.named; stops = e })

-- the answer where the head or the payload isn't read
pub head_failed : (bytes : List ℕ) (fault : Fault) → IsBytes bytes → Fails fault (head_at bytes) → Decodes bytes (Err (refusal_of fault 5))
head_failed bytes NoMemory fit failed = tt
head_failed bytes Short fit failed =
    let whole = in_head bytes Short failed in
    (none_begins bytes Short whole, inr (head_short bytes fit failed, refl, some_front bytes (frame_laws.opens bytes fit whole)))
head_failed bytes (Garbled at) fit failed = garbled bytes at fit (in_head bytes (Garbled at) failed)

pub payload_failed : (bytes : List ℕ) (h : ℕ × ℕ) (rest : List ℕ) (fault : Fault) → IsBytes bytes → head_at bytes ≡ Ok (h, rest) → Fails fault (payload_at h.0 h.1 rest)
    → Decodes bytes (Err (refusal_of fault (5 + h.1)))
payload_failed bytes h rest NoMemory fit read failed = tt
payload_failed bytes h rest Short fit read failed =
    let whole = in_both bytes h rest read ∙ failed in
    let front = some_front bytes (frame_laws.opens bytes fit whole) in
    let long = (head_is bytes front.1.more h rest front.1.frame fit read front.1.spelled) in
    (none_begins bytes Short whole, inl ((head_long bytes h rest fit read).0, subst (IsFront bytes) (sym front.1.whole ∙ long) front.1))
payload_failed bytes h rest (Garbled at) fit read failed = garbled bytes at fit (in_both bytes h rest read ∙ failed)

-- What reading a frame gives is what the decoder has to answer.
use Rattle.std.proofs.Common.{◌≡◌, ℕ, ◌+◌, ◌<◌, ◌≤◌, List, [], ◌++◌, length, take, drop, Ok, Err, refl, sym, ap, subst, ◌∙◌, append_assoc, arith, inl, inr}
use Rattle.std.proofs.lemmas.List.{append-nil, length-append, take_at}
use Rattle.clone_bytes.specs.Fields.{IsBytes}
use Rattle.clone_bytes.specs.Formats.{◌>>=◌, Begun}
use Rattle.clone_bytes.proofs.Numbers.{IsBytes-front}
use Rattle.clone_bytes.proofs.Answers.{outcome, not_both}
use Rattle.clone_bytes.proofs.FirstBytes.{Decides, unique, none_yet, none_ever, first_byte}
use Rattle.clone_wire.specs.declared.frame.Side.{Side}
use Rattle.clone_wire.specs.declared.frame.Frame.{Frame}
use Rattle.clone_wire.specs.declared.fault.Fault.{Fault}
use Rattle.clone_wire.specs.declared.fault.Fault.TheVariants.{Short, Garbled, NoMemory}
use Rattle.clone_wire.specs.Ranges.{IsFrame}
use Rattle.clone_wire.specs.Spelling.{side_of, code_of, payload, spelling}
use Rattle.clone_wire.specs.Reading.{Fails, refusals, head, head_at, payload_at, frame_at}
use Rattle.clone_wire.specs.Answers.{Spells, BeginsNone, IsFront, IsLost, StopsAt, Decodes, refusal_of}
use Rattle.clone_wire.proofs.FrameFormats.{head_laws}
use Rattle.clone_wire.proofs.FrameSpellings.{spelled_frame, frame_laws, has_head}

pub decides : Decides refusals
decides Short = inl refl
decides (Garbled at) = inr (λ e. cc)
decides NoMemory = inr (λ e. cc)

-- ---- spellings

pub spells_back : (side : Side) (frame : Frame) → IsFrame frame → side ≡ side_of frame → Spells side (spelling frame) frame
spells_back side frame is its = record { bytes_fit = (frame_laws side).fit frame (is, its); fields = ap (frame_at side) (sym (append-nil (spelling frame))) ∙ (frame_laws side).back frame [] (is, its) }

pub only_spelling : (side : Side) (bytes : List ℕ) (frame : Frame) → Spells side bytes frame → IsFrame frame × (side ≡ side_of frame) × (bytes ≡ spelling frame)
only_spelling side bytes frame spelled = let p = (frame_laws side).from bytes frame [] spelled.bytes_fit spelled.fields in (p.0.0, p.0.1, p.1 ∙ append-nil (spelling frame))

pub as_spelled : (frame : Frame) (text : List ℕ) → IsFrame frame → text ≡ spelling frame → Spells (side_of frame) text frame
as_spelled frame text is e = subst (λ t. Spells (side_of frame) t frame) (sym e) (spells_back (side_of frame) frame is refl)

-- ---- the head of a frame

spelling_long : (frame : Frame) → length (spelling frame) ≡ 5 + length (payload frame)
unfolding spelling
spelling_long frame = omega arith

-- the head that was read is that of the frame at the front, which may not be whole yet
pub head_tells : (side : Side) (bytes more : List ℕ) (h : ℕ × ℕ) (rest : List ℕ) (frame : Frame) (left : List ℕ) → IsBytes bytes → head_at side bytes ≡ Ok (h, rest) → IsFrame frame × (side ≡ side_of frame) → bytes ++ more ≡ spelling frame ++ left
    → h ≡ (code_of frame, length (payload frame))
unfolding head_at spelling
head_tells side bytes more h rest frame left fit read is parts =
    let p = (head_laws side).from bytes h rest fit read in
    let k : ℕ × ℕ = (code_of frame, length (payload frame)) in
    let its : (head side).Has k = subst (λ s. (head s).Has k) (sym is.1) (has_head frame is.0) in
    (unique (head_laws side) h k (rest ++ more) (payload frame ++ left) p.0 its (sym (append_assoc ((head side).text h) rest more) ∙ ap (λ t. t ++ more) (sym p.1) ∙ parts ∙ simp append_assoc)).0

pub head_is : (side : Side) (bytes more : List ℕ) (h : ℕ × ℕ) (rest : List ℕ) (frame : Frame) → IsBytes bytes → head_at side bytes ≡ Ok (h, rest) → Spells side (bytes ++ more) frame → length (bytes ++ more) ≡ 5 + h.1
head_is side bytes more h rest frame fit read spelled =
    let is = only_spelling side (bytes ++ more) frame spelled in
    let same = head_tells side bytes more h rest frame [] fit read (is.0, is.1) (is.2 ∙ sym (append-nil (spelling frame))) in
    ap length is.2 ∙ spelling_long frame ∙ ap (λ (k : ℕ × ℕ). 5 + k.1) (sym same)

-- a head is read from five bytes, and is short only with fewer
pub head_long : (side : Side) (bytes : List ℕ) (h : ℕ × ℕ) (rest : List ℕ) → IsBytes bytes → head_at side bytes ≡ Ok (h, rest) → (5 ≤ length bytes) × (rest ≡ drop 5 bytes)
unfolding head_at
head_long side bytes h rest fit read =
    let p = (head_laws side).from bytes h rest fit read in
    (omega (arith, ap length p.1), sym (ap (drop 5) p.1))

head_short : (side : Side) (bytes : List ℕ) → IsBytes bytes → head_at side bytes ≡ Err Short → length bytes < 5
unfolding head_at
head_short side bytes fit short = let x = (head_laws side).opens bytes fit short in omega (arith, x.some, ap length x.parts, length-append bytes x.more)

-- a head and then a payload, or a fault in one of them
pub in_both : (side : Side) (bytes : List ℕ) (h : ℕ × ℕ) (rest : List ℕ) → head_at side bytes ≡ Ok (h, rest) → frame_at side bytes ≡ payload_at h.0 h.1 rest
unfolding frame_at head_at payload_at
in_both side bytes h rest e = ap (λ r. r >>= λ x. payload_at x.0.0 x.0.1 x.1) e

pub in_head : (side : Side) (bytes : List ℕ) (fault : Fault) → head_at side bytes ≡ Err fault → frame_at side bytes ≡ Err fault
unfolding frame_at head_at payload_at
in_head side bytes fault e = ap (λ r. r >>= λ x. payload_at x.0.0 x.0.1 x.1) e

head_stays : (side : Side) (bytes more : List ℕ) (e : Fault) → IsBytes bytes → (e ≡ Short → ⊥) → head_at side bytes ≡ Err e → head_at side (bytes ++ more) ≡ Err e
unfolding head_at
head_stays side bytes more e fit other failed = ((head_laws side).stays bytes more e fit other failed).0

-- what was read is at the front
pub found : (side : Side) (bytes : List ℕ) (h : ℕ × ℕ) (rest : List ℕ) (frame : Frame) (left : List ℕ) → IsBytes bytes → head_at side bytes ≡ Ok (h, rest) → payload_at h.0 h.1 rest ≡ Ok (frame, left)
    → Spells side (take (5 + h.1) bytes) frame × (5 + h.1 ≤ length bytes)
found side bytes h rest frame left fit head payload =
    let p = (frame_laws side).from bytes frame left fit (in_both side bytes h rest head ∙ payload) in
    let spelled = spells_back side frame p.0.0 p.0.1 in
    let same = head_tells side bytes [] h rest frame left fit head p.0 (append-nil bytes ∙ p.1) in
    let long : length (spelling frame) ≡ 5 + h.1 = spelling_long frame ∙ ap (λ (k : ℕ × ℕ). 5 + k.1) (sym same) in
    let text : take (5 + h.1) bytes ≡ spelling frame = ap (take (5 + h.1)) p.1 ∙ take_at (spelling frame) left (5 + h.1) long in
    (subst (λ t. Spells side t frame) (sym text) spelled, omega (arith, ap length p.1, length-append (spelling frame) left))

-- where a frame begins with five bytes its head is read
pub head_whole : (side : Side) (bytes more : List ℕ) (frame : Frame) → 5 ≤ length bytes → Spells side (bytes ++ more) frame → (x : (ℕ × ℕ) × List ℕ) × (head_at side bytes ≡ Ok (x.0, x.1))
head_whole side bytes more frame enough spelled =
    let fit : IsBytes bytes = IsBytes-front bytes more spelled.bytes_fit in
    elim (outcome (head_at side bytes)) [
      | inl read ↦ read
      | inr failed ↦ elim (decides failed.0) [
        | inl short ↦ absurd (omega (arith, head_short side bytes fit (failed.1 ∙ ap (λ e. Err e) short)))
        | inr other ↦ absurd (not_both spelled.fields (in_head side (bytes ++ more) failed.0 (head_stays side bytes more failed.0 fit other failed.1)))
      ]
    ]

-- ---- refusals

-- where reading stops no frame begins
pub none_begins : (side : Side) (bytes : List ℕ) (fault : Fault) → frame_at side bytes ≡ Err fault → BeginsNone side bytes
none_begins side bytes fault e front rest frame parts spelled =
    let is = only_spelling side front frame spelled in
    none_yet (frame_laws side) bytes rest fault frame e (is.0, is.1) (parts ∙ ap (λ t. t ++ rest) is.2)

lost : (side : Side) (bytes : List ℕ) (at : ℕ) → IsBytes bytes → frame_at side bytes ≡ Err (Garbled at) → IsLost side bytes
lost side bytes at fit e more more_fit front rest frame parts spelled =
    let is = only_spelling side front frame spelled in
    none_ever (frame_laws side) bytes more rest (Garbled at) frame fit (λ d. cc) e (is.0, is.1) (parts ∙ ap (λ t. t ++ rest) is.2)

-- a front of a spelling
some_front : (side : Side) (bytes : List ℕ) → Begun (spelled_frame side) bytes → (long : ℕ) × IsFront side bytes long
some_front side bytes x = (length (bytes ++ x.more), record { more = x.more; frame = x.value; some = x.some; spelled = subst (λ t. Spells side t x.value) (sym x.parts) (spells_back side x.value x.has.0 x.has.1); whole = refl })

garbled : (side : Side) (bytes : List ℕ) (at : ℕ) → IsBytes bytes → frame_at side bytes ≡ Err (Garbled at) → IsLost side bytes × StopsAt side bytes at
garbled side bytes at fit e =
    let turn = first_byte (frame_laws side) decides bytes (Garbled at) fit (λ d. cc) e in
    (lost side bytes at fit e, record { within = omega (arith, turn.place, turn.within); before = some_front side (take at bytes) turn.named; stops = e })

-- the answer where the head or the payload isn't read
pub head_failed : (side : Side) (bytes : List ℕ) (fault : Fault) → IsBytes bytes → Fails fault (head_at side bytes) → Decodes side bytes (Err (refusal_of fault 5))
head_failed side bytes NoMemory fit failed = tt
head_failed side bytes Short fit failed =
    let whole = in_head side bytes Short failed in
    (none_begins side bytes Short whole, inr (head_short side bytes fit failed, refl, some_front side bytes ((frame_laws side).opens bytes fit whole)))
head_failed side bytes (Garbled at) fit failed = garbled side bytes at fit (in_head side bytes (Garbled at) failed)

pub payload_failed : (side : Side) (bytes : List ℕ) (h : ℕ × ℕ) (rest : List ℕ) (fault : Fault) → IsBytes bytes → head_at side bytes ≡ Ok (h, rest) → Fails fault (payload_at h.0 h.1 rest)
    → Decodes side bytes (Err (refusal_of fault (5 + h.1)))
payload_failed side bytes h rest NoMemory fit head failed = tt
payload_failed side bytes h rest Short fit head failed =
    let whole = in_both side bytes h rest head ∙ failed in
    let front = some_front side bytes ((frame_laws side).opens bytes fit whole) in
    let long = (head_is side bytes front.1.more h rest front.1.frame fit head front.1.spelled) in
    (none_begins side bytes Short whole, inl ((head_long side bytes h rest fit head).0, subst (IsFront side bytes) (sym front.1.whole ∙ long) front.1))
payload_failed side bytes h rest (Garbled at) fit head failed = garbled side bytes at fit (in_both side bytes h rest head ∙ failed)

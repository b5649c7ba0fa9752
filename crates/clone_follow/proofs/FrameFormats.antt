-- Frames are formats, each by its code and its length.
use Rattle.std.proofs.Common.{◌≡◌, ℕ, ◌+◌, ◌-◌, ◌==◌, Bool, true, false, cond, List, ◌++◌, length, refl, sym, ap, subst, ◌∙◌, append_assoc, arith, inl, inr}
use Rattle.std.specs.List.{flat_map}
use Rattle.std.proofs.lemmas.Bool.{cases_lt, eqb-true, eqb-false}
use Rattle.byteorder.specs.Endian.{big_bytes}
use Rattle.clone_bytes.specs.Formats.{Format, IsFormat}
use Rattle.clone_bytes.proofs.Formats.{led_laws, followed_laws, made_laws, choose_laws, worded, which}
use Rattle.clone_model.specs.declared.change.Commit.{Commit}
use Rattle.clone_follow.specs.declared.fault.Fault.{Fault}
use Rattle.clone_follow.specs.declared.frame.FollowFrame.{FollowFrame}
use Rattle.clone_follow.specs.declared.frame.FollowFrame.TheVariants as kind
use Rattle.clone_follow.specs.Choices.{IsOneOf, IsHead, between, only, counts, lengths}
use Rattle.clone_follow.specs.Ranges.{IsFrame}
use Rattle.clone_follow.specs.Spelling.{change_bytes, code_of, payload, spelling}
use Rattle.clone_follow.specs.Reading.{refusals, want, commit, current, counted, payload_of, head, frame, frame_at}
use Rattle.clone_follow.proofs.FieldFormats.{IsChoice, words, number_in_laws, range_choice, in_range, only_one}
use Rattle.clone_follow.proofs.ChangeFormats.{changes_fill, counted_laws}

-- ---- payloads

want_laws : IsFormat refusals 5 want
want_laws = made_laws payload kind.Want (words 8) (λ x has. refl)

current_laws : IsFormat refusals 5 current
current_laws = made_laws payload kind.Current (words 8) (λ x has. refl)

-- some number of changes fills the length of a COMMIT
pub counts_choice : (long : ℕ) → IsOneOf (lengths 33) long → IsChoice 2 (counts (long - 22))
counts_choice long one = elim (cases_lt long 36) [
  | inl less ↦ (let none : long ≡ 22 = one.gap less in range_choice 2 _ _ (omega arith) (omega arith))
  | inr some ↦ (let most = one.high in range_choice 2 _ _ (omega arith) (omega arith))
]

commit_laws : (long : ℕ) → IsOneOf (lengths 33) long → IsFormat refusals 5 (commit long)
commit_laws long one =
    made_laws payload _ (followed_laws (words 8) (λ position p. followed_laws (words 4) (λ writer w. followed_laws (words 8) (λ index i. counted_laws (long - 22) _ (counts_choice long one) (omega arith)))))
    (λ x has. (let count : length x.1.1.1.1 ≡ x.1.1.1.0 = has.1.1.1.1.count in rw count refl))

-- ---- a payload by its code

known : (code k long : ℕ) → (code == k) ≡ true → IsHead code long → IsHead k long
known code k long e head = subst (λ c. IsHead c long) (eqb-true code k e) head

payload_laws : (code long : ℕ) → IsHead code long → IsFormat refusals 5 (payload_of code long)
payload_laws code long head =
    choose_laws (code == 32) (λ e. want_laws) (λ not32. choose_laws (code == 33) (λ e. commit_laws long (known code 33 long e head)) (λ not33. current_laws))

same_text : (b : Bool) {t s u : List ℕ} → t ≡ u → s ≡ u → cond b t s ≡ u
same_text true p q = p
same_text false p q = q

payload_text : (code long : ℕ) (x : FollowFrame) → (payload_of code long).text x ≡ payload x
payload_text code long x = same_text (code == 32) refl (same_text (code == 33) refl refl)

-- ---- the head

pub lengths_choice : (code : ℕ) → IsChoice 4 (lengths code)
lengths_choice code = by (code == 33)
  where
    by : (b : Bool) → IsChoice 4 (cond b (record { least = 22; next = 36; most = 12502 }) (only 8))
    by true = record { order = record { low = omega arith; high = omega arith }; within = omega arith }
    by false = range_choice 4 8 8 (omega arith) (omega arith)

pub head_laws : IsFormat refusals 0 head
head_laws = followed_laws (number_in_laws 0 1 0 (between 32 34) (range_choice 1 32 34 (omega arith) (omega arith)) (omega arith)) (λ code one. number_in_laws 1 4 _ (lengths code) (lengths_choice code) (omega arith))

-- ---- what was read is a frame of its code and its length

abbrev Sound : ℕ → ℕ → FollowFrame → Type 0
Sound code long x = (code_of x ≡ code) × (length (payload x) ≡ long) × IsFrame x

framed_sound : {A : Type 0} {Has : A → Type 0} {make : A → FollowFrame} (code long k : ℕ) (x : FollowFrame) → (code == k) ≡ true → ((a : A) → Has a → Sound k long (make a)) → (a : A) × Has a × (make a ≡ x) → Sound code long x
framed_sound {make = make} code long k x e sound has = subst (λ c. Sound c long x) (sym (eqb-true code k e)) (subst (Sound k long) has.2 (sound has.0 has.1))

-- COMMIT has 22 bytes before its changes
commit_long : (position : ℕ) (c : Commit) → length (payload (kind.Commit position c)) ≡ 22 + length (flat_map change_bytes c.changes)
commit_long position c = omega arith

short_length : (long : ℕ) → IsOneOf (only 8) long → 8 ≡ long
short_length long one = omega (arith, one.low, one.high)

sound : (code long : ℕ) (x : FollowFrame) → IsOneOf (between 32 34) code → IsHead code long → (payload_of code long).Has x → Sound code long x
sound code long x one head has =
    elim (which (code == 32) _ _ x has) [
      | inl p ↦ framed_sound code long 32 x p.0 (λ a h. (refl, short_length long (known code 32 long p.0 head), h)) p.1
      | inr a ↦ elim (which (code == 33) _ _ x a.1) [
        | inl p ↦
            let l = known code 33 long p.0 head in
            framed_sound code long 33 x p.0 (λ a h. (let filling = h.1.1.1.1 in let count = h.1.1.1.0 in let high = count.high in let number = filling.count in (refl, omega (arith, filling.fill, l.low), (h.0, record { writer = h.1.0; index = h.1.1.0; few = omega arith; changes = filling.are })))) p.1
        | inr b ↦
            let last : code ≡ 34 = omega (arith, one.low, one.high, eqb-false code 32 a.0, eqb-false code 33 b.0) in
            let l : IsOneOf (only 8) long = rw last at head in
            subst (λ c. Sound c long x) (sym last) (subst (Sound 34 long) b.1.2 (refl, short_length long l, b.1.1))
      ]
    ]

-- ---- each frame has a code and a length

has_fields : (x : FollowFrame) → IsFrame x → (payload_of (code_of x) (length (payload x))).Has x
has_fields (kind.Want position) is = (position, is, refl)
has_fields (kind.Current position) is = (position, is, refl)
has_fields (kind.Commit position c) is =
    let filled = length (flat_map change_bytes c.changes) in
    let fill = changes_fill c.changes is.1.changes in
    let count : IsOneOf (counts filled) (length c.changes) = in_range _ _ (length c.changes) (omega (arith, fill.high)) (omega (arith, fill.low, is.1.few)) in
    let size : filled ≡ length (payload (kind.Commit position c)) - 22 = omega (arith, commit_long position c) in
    ((position, (c.writer, (c.index, (length c.changes, c.changes)))), (is.0, (is.1.writer, (is.1.index, subst (λ n. (counted n).Has (length c.changes, c.changes)) size (count, record { count = refl; fill = refl; are = is.1.changes })))), refl)

pub has_head : (x : FollowFrame) → IsFrame x → (head).Has (code_of x, length (payload x))
has_head (kind.Want position) is = (in_range 32 34 32 (omega arith) (omega arith), only_one 8)
has_head (kind.Current position) is = (in_range 32 34 34 (omega arith) (omega arith), only_one 8)
has_head (kind.Commit position c) is =
    let fill = changes_fill c.changes is.1.changes in
    let long = commit_long position c in
    let few = is.1.few in (
      in_range 32 34 33 (omega arith) (omega arith),
      record {
        low = omega arith;
        high = omega (arith, fill.high);
        gap = λ less. (let none : length c.changes ≡ 0 = omega (arith, fill.low) in omega (arith, fill.high));
      },
    )

-- ---- frames

-- a frame, in the words of its spelling
abbrev pub spelled_frame : Format Fault FollowFrame
spelled_frame = record { Has = IsFrame; text = spelling; read = frame_at }

frame_is : (x : FollowFrame) → (frame).Has x → IsFrame x × (spelling x ≡ (frame).text x)
unfolding spelling
frame_is x has =
    let s = sound (code_of x) (length (payload x)) x has.0.0 has.0.1 has.1 in
    (s.2, sym (append_assoc (big_bytes 1 (code_of x)) (big_bytes 4 (length (payload x))) (payload x)) ∙ ap (λ t. (big_bytes 1 (code_of x) ++ big_bytes 4 (length (payload x))) ++ t) (sym (payload_text (code_of x) (length (payload x)) x)))

pub frame_laws : IsFormat refusals 0 spelled_frame
unfolding frame_at
frame_laws =
    worded frame spelled_frame (led_laws (λ x. (code_of x, length (payload x))) head_laws (λ h has. payload_laws h.0 h.1 has.1) keyed)
    (λ bytes. refl) frame_is (λ x has. (has_head x has, has_fields x has))
  where
    keyed : (h : ℕ × ℕ) (x : FollowFrame) → (head).Has h → (payload_of h.0 h.1).Has x → (code_of x, length (payload x)) ≡ h
    keyed h x p q = let s = sound h.0 h.1 x p.0 p.1 q in ap (λ c. (c, length (payload x))) s.0 ∙ ap (λ n. (h.0, n)) s.1

-- What lies unread, while a frame more is sent, the next one is read and the connection is cut.
use Rattle.std.proofs.Common.{ℕ, ◌≡◌, ◌∙◌, ◌≤◌, ◌-◌, zero, suc, List, [], ◌∷◌, ◌++◌, Bool, true, false, take, drop, length, refl, sym, ap, subst, append_assoc, inl, inr, arith, length-append, length-drop}
use Rattle.std.proofs.lemmas.Bool.{cases_lt}
use Rattle.std.proofs.lemmas.List.{append-nil, take-append-drop, take-append-le, take_all}
use Rattle.clone_bytes.specs.Fields.{IsBytes}
use Rattle.clone_bytes.proofs.Numbers.{IsBytes-back}
use Rattle.clone_chunk.specs.declared.copy_stage.CopyStage.TheVariants.{FileCopy}
use Rattle.clone_wire.specs.Answers.{BeginsNone, IsLost}
use Rattle.byteorder.specs.Endian.{big_bytes}
use Rattle.clone_wire.specs.Spelling.{code_of, payload, spelling}
use Rattle.clone_wire.specs.declared.frame.Frame.{Frame}
use Rattle.clone_wire.specs.declared.frame.Frame.TheVariants as frame
use Rattle.clone_wire.specs.declared.frame.Side.{Side}
use Rattle.clone_wire.specs.declared.frame.Side.TheVariants.{Answer, Command}
use Rattle.clone_stream.specs.Streams.{AreFramesOf, IsFrameOf, IsPartOf, spellings}
use Rattle.clone_stream.proofs.Orders.{same_front, spells}
use Rattle.clone_paired.specs.Unread.{Holds}

spellings_append : (xs ys : List Frame) → spellings (xs ++ ys) ≡ spellings xs ++ spellings ys
spellings_append [] ys = refl
spellings_append (x ∷ xs) ys = ap (λ l. spelling x ++ l) (spellings_append xs ys) ∙ sym (append_assoc (spelling x) (spellings xs) (spellings ys))

frames_append : (side : Side) (xs ys : List Frame) → AreFramesOf side xs → AreFramesOf side ys → AreFramesOf side (xs ++ ys)
frames_append side [] ys are more = more
frames_append side (x ∷ xs) ys are more = (are.0, frames_append side xs ys are.1 more)

spelling_some : (f : Frame) → 1 ≤ length (spelling f)
unfolding spelling
spelling_some f = omega (arith, length-append (big_bytes 1 (code_of f)) (big_bytes 4 (length (payload f)) ++ payload f))

-- beyond the first list
take_past : (n : ℕ) (xs ys : List ℕ) → length xs ≤ n → take n (xs ++ ys) ≡ xs ++ take (n - length xs) ys
take_past n [] ys enough = let same : n ≡ n - 0 = omega arith in ap (λ m. take m ys) same
take_past zero (x ∷ xs) ys enough = absurd (omega (arith, enough))
take_past (suc n) (x ∷ xs) ys enough =
    let same : suc n - length (x ∷ xs) ≡ n - length xs = omega arith in
    ap (λ l. x ∷ l) (take_past n xs ys (omega (arith, enough))) ∙ ap (λ m. x ∷ xs ++ take m ys) (sym same)

module _ (side : Side) where
  pub holds_none : (cut : Bool) → Holds side cut [] []
  holds_none cut = record { are = tt; next = []; would = tt; rest = []; part = refl; whole = λ _. refl; is = refl }

  -- whole frames, and nothing of another
  pub holds_all : (cut : Bool) (frames : List Frame) → AreFramesOf side frames → Holds side cut frames (spellings frames)
  holds_all cut frames are = record { are = are; next = []; would = tt; rest = []; part = refl; whole = λ _. refl; is = sym (append-nil (spellings frames)) }

  -- a frame more is sent
  pub holds_sent : (frames : List Frame) (bytes : List ℕ) (more : Frame) → Holds side false frames bytes → IsFrameOf side more → Holds side false (frames ++ more ∷ []) (bytes ++ spelling more)
  holds_sent frames bytes more h of =
      let all : spellings (frames ++ more ∷ []) ≡ bytes ++ spelling more =
      spellings_append frames (more ∷ []) ∙ ap (λ l. spellings frames ++ l) (append-nil (spelling more)) ∙ ap (λ l. l ++ spelling more) (sym (append-nil (spellings frames)) ∙ ap (λ l. spellings frames ++ l) (sym (h.whole refl)) ∙ sym h.is) in
      subst (Holds side false (frames ++ more ∷ [])) all (holds_all false (frames ++ more ∷ []) (frames_append side frames (more ∷ []) h.are (of, tt)))

  -- the next frame is read, and these are left
  pub record Reads (cut : Bool) (frames : List Frame) (read : Frame) (left : List ℕ) : Type 0 where
    pub more : List Frame
    pub are : frames ≡ read ∷ more
    pub holds : Holds side cut more left

  -- less than one frame doesn't begin with one
  part_short : (next : List Frame) (rest : List ℕ) (read : Frame) (left : List ℕ) → AreFramesOf side next → IsPartOf rest next → IsFrameOf side read → rest ≡ spelling read ++ left → 1 ≤ length (spelling read) → ⊥
  part_short [] rest read left would part of is some = let none = ap (length {A = ℕ}) (sym is ∙ part) in omega (arith, some, none, length-append (spelling read) left)
  part_short (f ∷ next) rest read left would part of is some =
      let all : spelling read ++ (left ++ part.0) ≡ spelling f ++ [] = sym (append_assoc (spelling read) left part.0) ∙ ap (λ l. l ++ part.0) (sym is) ∙ part.2 ∙ sym (append-nil (spelling f)) in
      let empty : length (left ++ part.0) ≡ 0 = ap (length {A = ℕ}) (same_front side read f (left ++ part.0) [] of would.0 all).1 in
      omega (arith, part.1, empty, length-append left part.0)

  pub holds_read : (cut : Bool) (frames : List Frame) (bytes left : List ℕ) (read : Frame) → Holds side cut frames bytes → IsFrameOf side read → bytes ≡ spelling read ++ left → Reads cut frames read left
  holds_read cut [] bytes left read h of is = absurd (part_short h.next h.rest read left h.would h.part of (sym h.is ∙ is) (spelling_some read))
  holds_read cut (f ∷ frames) bytes left read h of is =
      let all : spelling read ++ left ≡ spelling f ++ (spellings frames ++ h.rest) = sym is ∙ h.is ∙ append_assoc (spelling f) (spellings frames) h.rest in
      let same = same_front side read f left (spellings frames ++ h.rest) of h.are.0 all in
      record {
        more = frames;
        are = ap (λ x. x ∷ frames) (sym same.0);
        holds = record { are = h.are.1; next = h.next; would = h.would; rest = h.rest; part = h.part; whole = h.whole; is = same.1 };
      }

  -- where no frame begins, there is none
  pub holds_partial : (cut : Bool) (frames : List Frame) (bytes : List ℕ) → Holds side cut frames bytes → BeginsNone side bytes → frames ≡ []
  holds_partial cut [] bytes h none = refl
  holds_partial cut (f ∷ frames) bytes h none = absurd (none (spelling f) (spellings frames ++ h.rest) f (h.is ∙ append_assoc (spelling f) (spellings frames) h.rest) (spells side f h.are.0))

  -- a frame begins, or further bytes make one
  one_of : (side : Side) → (f : Frame) × IsFrameOf side f
  one_of Command = (frame.Exit, record { is = tt; sender = refl })
  one_of Answer = (frame.End (record { session = 0; incarnation = 0 }) FileCopy, record { is = (omega arith, omega arith); sender = refl })

  pub holds_found : (cut : Bool) (frames : List Frame) (bytes : List ℕ) → Holds side cut frames bytes → IsLost side bytes → ⊥
  holds_found cut (f ∷ frames) bytes h lost = absurd (lost [] (λ i. omega arith) (spelling f) (spellings frames ++ h.rest) f (append-nil bytes ∙ h.is ∙ append_assoc (spelling f) (spellings frames) h.rest) (spells side f h.are.0))
  holds_found cut [] bytes h lost = by h.next h.would h.part
    where
      by : (next : List Frame) → AreFramesOf side next → IsPartOf h.rest next → ⊥
      by [] would part =
          let f = one_of side in
          let s = spells side f.0 f.1 in
          lost (spelling f.0) s.bytes_fit (spelling f.0) [] f.0 (ap (λ l. l ++ spelling f.0) (h.is ∙ part) ∙ sym (append-nil (spelling f.0))) s
      by (f ∷ next) would part =
          let s = spells side f would.0 in
          lost part.0 (IsBytes-back h.rest part.0 (subst IsBytes (sym part.2) s.bytes_fit)) (spelling f) [] f (ap (λ l. l ++ part.0) h.is ∙ part.2 ∙ sym (append-nil (spelling f))) s

  -- ---- it is cut

  -- these of the frames are left
  pub record Fronts (frames : List Frame) (bytes : List ℕ) : Type 0 where
    pub kept : List Frame
    pub lost : List Frame
    pub are : frames ≡ kept ++ lost
    pub holds : Holds side true kept bytes

  part_cut : (n : ℕ) (next : List Frame) (rest : List ℕ) → IsPartOf rest next → IsPartOf (take n rest) next
  part_cut n [] rest part = ap (take n) part ∙ take_all n [] (omega arith)
  part_cut n (f ∷ next) rest part = (drop n rest ++ part.0, omega (arith, part.1, length-append (drop n rest) part.0), sym (append_assoc (take n rest) (drop n rest) part.0) ∙ ap (λ l. l ++ part.0) (take-append-drop n rest) ∙ part.2)

  pub holds_cut : (n : ℕ) (cut : Bool) (frames : List Frame) (bytes : List ℕ) → Holds side cut frames bytes → Fronts frames (take n bytes)
  holds_cut n cut [] bytes h = record {
    kept = [];
    lost = [];
    are = refl;
    holds = record { are = tt; next = h.next; would = h.would; rest = take n h.rest; part = part_cut n h.next h.rest h.part; whole = λ is. absurd (cc); is = ap (take n) h.is };
  }
  holds_cut n cut (f ∷ frames) bytes h = elim (cases_lt n (length (spelling f))) [
    | inl short ↦ record {
      kept = [];
      lost = f ∷ frames;
      are = refl;
      holds = record { are = tt; next = f ∷ []; would = (h.are.0, tt); rest = take n (spelling f); part = (drop n (spelling f), omega (arith, short, length-drop n (spelling f)), take-append-drop n (spelling f)); whole = λ is. absurd (cc); is = ap (take n) split ∙ take-append-le n (spelling f) (spellings frames ++ h.rest) (omega (arith, short)) };
    }
    | inr past ↦ (
        let rest : Holds side cut frames (spellings frames ++ h.rest) = record { are = h.are.1; next = h.next; would = h.would; rest = h.rest; part = h.part; whole = h.whole; is = refl } in
        let more = holds_cut (n - length (spelling f)) cut frames (spellings frames ++ h.rest) rest in
        record {
          kept = f ∷ more.kept;
          lost = more.lost;
          are = ap (λ l. f ∷ l) more.are;
          holds = record { are = (h.are.0, more.holds.are); next = more.holds.next; would = more.holds.would; rest = more.holds.rest; part = more.holds.part; whole = more.holds.whole; is = ap (take n) split ∙ take_past n (spelling f) (spellings frames ++ h.rest) past ∙ ap (λ l. spelling f ++ l) more.holds.is ∙ sym (append_assoc (spelling f) (spellings more.kept) more.holds.rest) };
        })
  ]
    where
      split : bytes ≡ spelling f ++ (spellings frames ++ h.rest)
      split = h.is ∙ append_assoc (spelling f) (spellings frames) h.rest

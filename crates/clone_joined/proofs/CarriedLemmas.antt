-- What is on its way one way: more is sent, the next frame is read, and the connection is cut.
use Rattle.std.proofs.Common.{ℕ, ◌≡◌, ◌∙◌, List, [], ◌∷◌, ◌++◌, Bool, true, false, take, drop, refl, sym, ap, subst, append_assoc}
use Rattle.std.specs.List.{AllByRecursion}
use Rattle.std.proofs.lemmas.List.{append-nil, append_cancel_left, take-append-drop}
use Rattle.clone_wire.specs.Spelling.{spelling}
use Rattle.clone_wire.specs.declared.frame.Frame.{Frame}
use Rattle.clone_wire.specs.declared.frame.Side.{Side}
use Rattle.clone_stream.specs.Streams.{AreFramesOf, IsFrameOf, IsTakenOf, spellings}
use Rattle.clone_stream.proofs.Orders as orders
use Rattle.clone_joined.specs.Carried.{Carries}

pub all_as : {X : Type 0} {P Q : X → Type 0} → ((x : X) → P x → Q x) → (xs : List X) → AllByRecursion P xs → AllByRecursion Q xs
all_as so [] all = tt
all_as so (x ∷ xs) all = (so x all.0, all_as so xs all.1)

pub all_append : {X : Type 0} (P : X → Type 0) (xs ys : List X) → AllByRecursion P xs → AllByRecursion P ys → AllByRecursion P (xs ++ ys)
all_append P [] ys all more = more
all_append P (x ∷ xs) ys all more = (all.0, all_append P xs ys all.1 more)

spellings_append : (xs ys : List Frame) → spellings (xs ++ ys) ≡ spellings xs ++ spellings ys
spellings_append [] ys = refl
spellings_append (x ∷ xs) ys = ap (λ l. spelling x ++ l) (spellings_append xs ys) ∙ sym (append_assoc (spelling x) (spellings xs) (spellings ys))

frames_append : (side : Side) (xs ys : List Frame) → AreFramesOf side xs → AreFramesOf side ys → AreFramesOf side (xs ++ ys)
frames_append side [] ys are more = more
frames_append side (x ∷ xs) ys are more = (are.0, frames_append side xs ys are.1 more)

module _ (side : Side) where
  pub carries_none : (Is : Frame → Type 0) (whole : Bool) → Carries side Is whole []
  carries_none Is whole = record { frames = []; are = tt; each = tt; front = ([], refl); all = λ _. refl }

  pub carries_as : (Is Are : Frame → Type 0) (whole : Bool) (bytes : List ℕ) → ((x : Frame) → Is x → Are x) → Carries side Is whole bytes → Carries side Are whole bytes
  carries_as Is Are whole bytes so c = record { frames = c.frames; are = c.are; each = all_as so c.frames c.each; front = c.front; all = c.all }

  -- all of these are sent
  pub carries_all : (Is : Frame → Type 0) (whole : Bool) (frames : List Frame) → AreFramesOf side frames → AllByRecursion Is frames → Carries side Is whole (spellings frames)
  carries_all Is whole frames are each = record { frames = frames; are = are; each = each; front = ([], append-nil (spellings frames)); all = λ _. refl }

  pub carries_more : (Is : Frame → Type 0) (bytes : List ℕ) (more : List Frame) → Carries side Is true bytes → AreFramesOf side more → AllByRecursion Is more → Carries side Is true (bytes ++ spellings more)
  carries_more Is bytes more c are each =
      let same : spellings (c.frames ++ more) ≡ bytes ++ spellings more = spellings_append c.frames more ∙ ap (λ l. l ++ spellings more) (sym (c.all refl)) in
      subst (Carries side Is true) same (carries_all Is true (c.frames ++ more) (frames_append side c.frames more c.are are) (all_append Is c.frames more c.each each))

  pub carries_cut : (Is : Frame → Type 0) (whole : Bool) (bytes : List ℕ) (kept : ℕ) → Carries side Is whole bytes → Carries side Is false (take kept bytes)
  carries_cut Is whole bytes kept c = record {
    frames = c.frames;
    are = c.are;
    each = c.each;
    front = (drop kept bytes ++ c.front.0, sym (append_assoc (take kept bytes) (drop kept bytes) c.front.0) ∙ ap (λ l. l ++ c.front.0) (take-append-drop kept bytes) ∙ c.front.1);
    all = λ is. absurd (cc);
  }

  -- the next frame is read
  pub record Reads (Is : Frame → Type 0) (whole : Bool) (read : Frame) (left : List ℕ) : Type 0 where
    pub is : Is read
    pub rest : Carries side Is whole left

  pub carries_read : (Is : Frame → Type 0) (whole : Bool) (bytes left : List ℕ) (read : Frame) → Carries side Is whole bytes → IsFrameOf side read → bytes ≡ spelling read ++ left → Reads Is whole read left
  carries_read Is whole bytes left read c of is =
      let one : spellings (read ∷ []) ++ left ≡ bytes = ap (λ l. l ++ left) (append-nil (spelling read)) ∙ sym is in
      let taken : IsTakenOf c.frames (read ∷ []) left = orders.in_order side c.frames (read ∷ []) left c.are (of, tt) (c.front.0, ap (λ l. l ++ c.front.0) one ∙ c.front.1) in
      let are : AreFramesOf side (read ∷ taken.next) = subst (AreFramesOf side) taken.order c.are in
      let each : AllByRecursion Is (read ∷ taken.next) = subst (AllByRecursion Is) taken.order c.each in
      record {
        is = each.0;
        rest = record {
          frames = taken.next;
          are = are.1;
          each = each.1;
          front = taken.front;
          all = λ goes. append_cancel_left (spelling read) left (spellings taken.next) (sym is ∙ c.all goes ∙ ap spellings taken.order);
        };
      }

-- What the calls of a run sent is what they received, and what is still on the way.
use Rattle.std.proofs.Common.{ℕ, ◌≡◌, List, [], ◌∷◌, ◌++◌, take, refl, sym, ap, ◌∙◌, append_assoc}
use Rattle.std.proofs.lemmas.List.{append-nil}
use Rattle.clone_turn.specs.Runs.{IsLegalRun, end_of}
use Rattle.clone_outside.specs.declared.link.Side.{Side}
use Rattle.clone_outside.specs.declared.link.Side.TheVariants.{Donor, Requester}
use Rattle.clone_memlink.specs.declared.connection.Connection.{Connection}
use Rattle.clone_memlink.specs.declared.connection.LinkCall.{LinkCall}
use Rattle.clone_memlink.specs.declared.connection.LinkCall.TheVariants.{Send, Receive, Close}
use Rattle.clone_memlink.specs.declared.connection.LinkAnswer.{LinkAnswer}
use Rattle.clone_memlink.specs.declared.connection.LinkAnswer.TheVariants.{Sent, Bytes, Nothing, Lost, Closed, NoMemory}
use Rattle.clone_memlink.specs.Ways.{WayModel, with_bytes}
use Rattle.clone_memlink.specs.Connections.{Sends, Receives, Gives, Steps, IsLost, way_to, with_way, with_closed, other}
use Rattle.clone_memlink.specs.Ends.{LinkEntry, count_of, bytes_of, side_of, sent_of, received_of, where_same, sent_in, received_in, CarriesAll, IsHonest}

way_set : (side : Side) (s : Connection) (w : WayModel) → way_to side (with_way side s w) ≡ w
way_set Donor s w = refl
way_set Requester s w = refl

way_else : (side : Side) (s : Connection) (w : WayModel) → way_to (other side) (with_way side s w) ≡ way_to (other side) s
way_else Donor s w = refl
way_else Requester s w = refl

way_from : (side : Side) (s : Connection) (w : WayModel) → way_to side (with_way (other side) s w) ≡ way_to side s
way_from Donor s w = refl
way_from Requester s w = refl

abbrev waiting : Side → Connection → List ℕ
waiting side s = (way_to side s).waiting

-- a send puts its bytes behind those that wait for the other end, and leaves the other way
abbrev Puts : Side → Connection → List ℕ → Connection → Type 0
Puts side s bytes t = (waiting (other side) t ≡ waiting (other side) s ++ bytes) × (waiting side t ≡ waiting side s)

puts_none : (side : Side) (s t : Connection) → t ≡ s → Puts side s [] t
puts_none side s t same = (ap (λ x. waiting (other side) x) same ∙ sym (append-nil (waiting (other side) s)), ap (λ x. waiting side x) same)

puts : (side : Side) (s : Connection) (bytes : List ℕ) (answer : LinkAnswer) (t : Connection) → Sends side s bytes answer t → Puts side s (take (count_of answer) bytes) t
puts side s bytes (Sent n) t does =
    let w = with_bytes (way_to (other side) s) (take n bytes) in (
      ap (λ x. waiting (other side) x) does.2 ∙ ap (λ x. x.waiting) (way_set (other side) s w),
      ap (λ x. waiting side x) does.2 ∙ ap (λ x. x.waiting) (way_from side s w),
    )
puts side s bytes Lost t does = puts_none side s t does.1
puts side s bytes NoMemory t does = puts_none side s t does
puts side s bytes (Bytes xs) t does = absurd does
puts side s bytes Nothing t does = absurd does
puts side s bytes Closed t does = absurd does

-- a receive takes its bytes from the front of those that wait for its end, and leaves the other way
gives : (w : WayModel) (most : ℕ) (lost : Type 0) (answer : LinkAnswer) (v : WayModel) → Gives w most lost answer v → w.waiting ≡ bytes_of answer ++ v.waiting
gives w most lost (Bytes xs) v does = does.1
gives w most lost Nothing v does = ap (λ x. x.waiting) (sym does.2)
gives w most lost Lost v does = ap (λ x. x.waiting) (sym does.2)
gives w most lost (Sent n) v does = absurd does
gives w most lost Closed v does = absurd does
gives w most lost NoMemory v does = absurd does

takes : (side : Side) (s : Connection) (most : ℕ) (answer : LinkAnswer) (t : Connection) → Receives side s most answer t
    → (waiting side s ≡ bytes_of answer ++ waiting side t) × (waiting (other side) t ≡ waiting (other side) s)
takes side s most answer t does = (
  gives (way_to side s) most (IsLost side s) answer (way_to side t) does.0,
  ap (λ x. waiting (other side) x) does.1 ∙ ap (λ x. x.waiting) (way_else side s (way_to side t)),
)

closes : (side end : Side) (s : Connection) (answer : LinkAnswer) (t : Connection) → (answer ≡ Closed) × (t ≡ with_closed end s)
    → waiting side s ++ where_same (other side) end [] ≡ where_same side end [] ++ waiting side t
closes Donor Donor s answer t does = append-nil (waiting Donor s) ∙ sym (ap (λ x. waiting Donor x) does.1)
closes Donor Requester s answer t does = append-nil (waiting Donor s) ∙ sym (ap (λ x. waiting Donor x) does.1)
closes Requester Donor s answer t does = append-nil (waiting Requester s) ∙ sym (ap (λ x. waiting Requester x) does.1)
closes Requester Requester s answer t does = append-nil (waiting Requester s) ∙ sym (ap (λ x. waiting Requester x) does.1)

-- one call: what waited for an end, and then what the other end sent, is what the end received and what then waits
abbrev Carries : Side → Connection → LinkCall → LinkAnswer → Connection → Type 0
Carries side s call answer t =
    waiting side s ++ where_same (other side) (side_of call) (sent_of call answer) ≡ where_same side (side_of call) (received_of call answer) ++ waiting side t

carries : (side : Side) (s : Connection) (call : LinkCall) (answer : LinkAnswer) (t : Connection) → Steps s call answer t → Carries side s call answer t
carries Donor s (Send Requester bytes) answer t does = sym (puts Requester s bytes answer t does).0
carries Requester s (Send Donor bytes) answer t does = sym (puts Donor s bytes answer t does).0
carries Donor s (Send Donor bytes) answer t does = append-nil (waiting Donor s) ∙ sym (puts Donor s bytes answer t does).1
carries Requester s (Send Requester bytes) answer t does = append-nil (waiting Requester s) ∙ sym (puts Requester s bytes answer t does).1
carries Donor s (Receive Donor most) answer t does = append-nil (waiting Donor s) ∙ (takes Donor s most answer t does).0
carries Requester s (Receive Requester most) answer t does = append-nil (waiting Requester s) ∙ (takes Requester s most answer t does).0
carries Donor s (Receive Requester most) answer t does = append-nil (waiting Donor s) ∙ sym (takes Requester s most answer t does).1
carries Requester s (Receive Donor most) answer t does = append-nil (waiting Requester s) ∙ sym (takes Donor s most answer t does).1
carries Donor s (Close end) answer t does = closes Donor end s answer t does
carries Requester s (Close end) answer t does = closes Requester end s answer t does

pub carries_all : (first : Connection) (run : List LinkEntry) → IsLegalRun Steps first run → CarriesAll first run
carries_all first [] legal side = append-nil (waiting side first)
carries_all first (e ∷ es) legal side =
    let sent = where_same (other side) (side_of e.call) (sent_of e.call e.answer) in
    let got = where_same side (side_of e.call) (received_of e.call e.answer) in
    let later = sent_in (other side) es in
    sym (append_assoc (waiting side first) sent later)
    ∙ (ap (λ xs. xs ++ later) (carries side first e.call e.answer e.after legal.0)
    ∙ (append_assoc got (waiting side e.after) later
    ∙ (ap (λ xs. got ++ xs) (carries_all e.after es legal.1 side)
    ∙ sym (append_assoc got (received_in side es) (waiting side (end_of e.after es))))))

pub honest : (first : Connection) (run : List LinkEntry) → IsLegalRun Steps first run → IsHonest first run
honest first run legal side empty =
    (waiting side (end_of first run), sym (carries_all first run legal side) ∙ ap (λ xs. xs ++ sent_in (other side) run) empty)

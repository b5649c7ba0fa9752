-- The faults of a desk's net, over each call of the desk, by its answer.
use Rattle.std.proofs.Common.{ℕ, ◌≡◌, Option, None, Some, Result, Err, ap}
use Rattle.clone_outside.specs.declared.Refusal.{Refusal}
use Rattle.clone_outside.specs.declared.Refusal.TheVariants.{Fault}
use Rattle.clone_outside.specs.declared.link.Link.{Ghosts as Link}
use Rattle.clone_outside.specs.declared.link.Net.{Ghosts as Net}
use Rattle.clone_desk.specs.Desks.{DeskModel, HandsOut}
use Rattle.clone_desk.specs.Steps.{DeskSteps}
use Rattle.clone_desk.specs.declared.machine.DeskAnswer.{DeskAnswer}
use Rattle.clone_desk.specs.declared.machine.DeskAnswer.TheVariants as answer
use Rattle.clone_desk.specs.declared.machine.DeskCall.{DeskCall}
use Rattle.clone_desk.specs.declared.machine.DeskCall.TheVariants as call
use Rattle.clone_causes.proofs.CountLemmas.{Counts, counts_same}

-- a pair was refused for a fault
abbrev pub NetFails : {L : Type 0} → DeskAnswer L → Type 0
NetFails a = a ≡ answer.Paired (Err Fault)

module _ {N L X : Type 0} (net : Net N L X) (link : Link L X) where
  rests : (a : DeskAnswer L) (s t : DeskModel N L) → t.net ≡ s.net → (NetFails a → ⊥) → Counts (NetFails a) (net.failures s.net) (net.failures t.net)
  rests a s t same never = counts_same (NetFails a) (net.failures s.net) (net.failures t.net) (ap (λ n. net.failures n) same) never

  hands : (s t : DeskModel N L) (task : ℕ) (result : Option (ℕ × L)) → HandsOut net link s task result t → t.net ≡ s.net
  hands s t task (Some r) is = is.net_is
  hands s t task None is = ap (λ (x : DeskModel N L). x.net) is.1

  pub net_counts : (s : DeskModel N L) (c : DeskCall L) (a : DeskAnswer L) (t : DeskModel N L) → DeskSteps net link s c a t → Counts (NetFails a) (net.failures s.net) (net.failures t.net)
  net_counts s (call.Pair task) (answer.Paired result) t is = record {
    later = is.does.cause.later;
    fault = λ fails. is.does.cause.fault (same_result result (Err Fault) fails);
  }
    where
      same_result : (x y : Result (ℕ × L) Refusal) → ◌≡◌ {A = DeskAnswer L} (answer.Paired x) (answer.Paired y) → x ≡ y
      same_result x y same = cc
  net_counts s (call.Pair task) (answer.HandedOut result) t is = absurd is.does
  net_counts s (call.Pair task) answer.Kept t is = absurd is.does
  net_counts s (call.DonorEnd task) (answer.HandedOut result) t is = rests (answer.HandedOut result) s t (hands s t task result is.does) (λ fails. cc)
  net_counts s (call.DonorEnd task) (answer.Paired result) t is = absurd is.does
  net_counts s (call.DonorEnd task) answer.Kept t is = absurd is.does
  net_counts s (call.GiveBack place side end) answer.Kept t is = rests answer.Kept s t is.does.net (λ fails. cc)
  net_counts s (call.GiveBack place side end) (answer.Paired result) t is = absurd is.does
  net_counts s (call.GiveBack place side end) (answer.HandedOut result) t is = absurd is.does

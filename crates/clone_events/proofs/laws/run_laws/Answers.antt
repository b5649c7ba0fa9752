use Rattle.std.proofs.Common.{refl}
use Rattle.clone_events.proofs.Common.{PlainEvent, no_donor, all_events, opened}
use Rattle.clone_events.proofs.BinlogLemmas.{events_add, events_drop, are_commits, are_drops}
use Rattle.clone_events.proofs.FollowerLemmas.{followed_run}
use Rattle.clone_events.proofs.ReachedLemmas.{Runs-IsWithin}
use Rattle.clone_events.proofs.RunLemmas.{Runs-Events, Runs-tasks, Runs-tells}
use Rattle.clone_events.proofs.SetLemmas.{are_sets}
use Rattle.clone_events.proofs.StopLemmas.{shows_stop}
use Rattle.clone_events.proofs.laws.run_laws.Goals as goal

pub returns-clause-commits : goal.returns-clause-commits
returns-clause-commits c lines events t tasks tells run = are_commits no_donor t.donor (all_events events) refl (events_add (λ d. d) PlainEvent (λ d e event step. step) (opened no_donor tasks tells) (all_events events) t (Runs-Events (λ d. d) PlainEvent (opened no_donor tasks tells) lines events t run))

pub returns-clause-drops : goal.returns-clause-drops
returns-clause-drops c lines events t tasks tells run = are_drops no_donor t.donor (all_events events) refl refl (events_drop (λ d. d) PlainEvent (λ d e event step. step) (opened no_donor tasks tells) (all_events events) t (Runs-Events (λ d. d) PlainEvent (opened no_donor tasks tells) lines events t run))

pub returns-clause-sets : goal.returns-clause-sets
returns-clause-sets c lines events t tasks tells run = are_sets (λ d. d) PlainEvent (λ d e event step. step) (opened no_donor tasks tells) lines events t run

pub returns-clause-stop : goal.returns-clause-stop
returns-clause-stop c lines events t tasks tells run = shows_stop (λ d. d) PlainEvent (λ d e event step. step) (opened no_donor tasks tells) (all_events events) t tt (Runs-Events (λ d. d) PlainEvent (opened no_donor tasks tells) lines events t run)

pub returns-clause-followers : goal.returns-clause-followers
returns-clause-followers c lines events t tasks tells run = (followed_run tasks tells (all_events events) t (Runs-Events (λ d. d) PlainEvent (opened no_donor tasks tells) lines events t run)).0

pub returns-clause-follows : goal.returns-clause-follows
returns-clause-follows c lines events t tasks tells run = (followed_run tasks tells (all_events events) t (Runs-Events (λ d. d) PlainEvent (opened no_donor tasks tells) lines events t run)).1

pub returns-clause-within : goal.returns-clause-within
returns-clause-within c lines events t n tasks tells run le = Runs-IsWithin (λ d. d) PlainEvent (λ d e event step. step) no_donor refl tasks tells lines events t n run le

pub returns-clause-tells : goal.returns-clause-tells
returns-clause-tells c lines events t tasks tells run = Runs-tells (λ d. d) PlainEvent (opened no_donor tasks tells) lines events t run

pub returns-clause-tasks : goal.returns-clause-tasks
returns-clause-tasks c lines events t tasks tells run = Runs-tasks (λ d. d) PlainEvent (opened no_donor tasks tells) lines events t run

-- What is told of an end of a connection of a run, which is in memory or over a socket.
use Rattle.std.specs.Prelude.{ℕ, Some, None}
use Rattle.clone_outside.specs.declared.link.Link.{Ghosts as Link}
use Rattle.clone_turn.specs.Seats.{CellModel}
use Rattle.clone_memlink.specs.declared.connection.Connection.{Connection}
use Rattle.clone_memlink.specs.Held.{EndModel, received_by, sent_by}
use Rattle.clone_real.specs.Kinds.{end_name, of_end}
use Rattle.clone_real.specs.Sockets.{SocketEndModel}
use Rattle.clone_real.specs.declared.any_net.AnyEnd.{AnyEnd}
use Rattle.clone_real.specs.declared.any_net.AnyName.{AnyName}

-- An end in memory tells all that it sent and received; one over a socket doesn't.
abbrev pub run_link : Link (AnyEnd EndModel SocketEndModel) (AnyName (CellModel Connection) ℕ)
run_link = record {
  name = end_name (λ e. e.name) (λ e. e.number);
  side = of_end (λ e. e.side) (λ e. e.side);
  is_open = of_end (λ e. e.is_open) (λ e. e.is_open);
  sent = of_end (λ e. Some (sent_by e)) (λ e. None);
  received = of_end (λ e. Some (received_by e)) (λ e. None);
  failures = of_end (λ e. e.faults) (λ e. e.faults);
}

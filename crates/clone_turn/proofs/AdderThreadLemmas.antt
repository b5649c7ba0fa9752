-- The seat of a machine that adds one may go to another thread, and its cell is shared.
use denote.Builtin.{u64, unit}
use denote.Param.Send.{IsSend, IsSync, sendable}
use Rattle.clone_turn.specs.contracts.cell.Seat as Seat
use Rattle.clone_turn.specs.contracts.cell.TurnCell as Cell
use Rattle.clone_turn.specs.contracts.adder.Adder as adder
use Rattle.clone_turn.specs.contracts.adder.AdderMachine.TheImpl.{ghosts}
use Rattle.clone_turn.proofs.SeatThreadLemmas.{seat_send, cell_sync}

pub number_send : IsSend u64
number_send = search sendable

pub adder_seat : IsSend (Seat.the_row adder.the_row u64 unit u64 unit ghosts)
adder_seat = seat_send adder.the_row u64 unit u64 unit number_send ghosts

pub adder_cell : IsSync (Cell.the_row adder.the_row u64 unit u64 unit ghosts)
adder_cell = cell_sync adder.the_row u64 unit u64 unit ghosts number_send

-- An end of a connection over sockets may go to another thread.
use denote.Builtin.{u64}
use denote.Param.Send.{IsSend, struct_send, recorded_send, view_send, sendable}
use denote.Struct.Declared.{shape}
use Rattle.std.specs.contracts.net.TcpStream as Stream
use Rattle.std.proofs.net.tcp.TcpStream.TheSendSync.{the_send as stream_send}
use Rattle.std.proofs.option.Option.TheSendSync.{the_field_send as option_send}
use Rattle.clone_outside.proofs.link.Side.TheSendSync.{the_field_send as side_send}
use Rattle.clone_real.specs.contracts.socket_end.SocketEnd as End
use Rattle.clone_real.specs.contracts.socket_end.SocketEnd.TheInside as EndInside

end_inside_send : IsSend EndInside.the_row
end_inside_send =
    let long : IsSend u64 = search sendable in
    recorded_send EndInside.the_field.row _ _ EndInside.the_type.to_one (struct_send (shape EndInside.the_type) (option_send Stream.the_row stream_send, (long, (side_send, (long, tt)))))

pub socket_end_send : IsSend End.the_row
socket_end_send = view_send _ _ _ _ _ end_inside_send

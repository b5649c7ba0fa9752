-- The disks and the connections of a run may go to other threads.
use denote.RattleType.{RattleType}
use denote.Param.Send.{IsSend}
use denote.Struct.Field.{u64-field, unit-field}
use Rattle.clone_outside.specs.declared.disk.PageDisk.{Ghosts as Disk}
use Rattle.clone_memdisk.specs.contracts.mem_disk.MemDiskPageDisk.TheImpl as MemDiskImpl
use Rattle.clone_real.specs.contracts.any_disk.AnyDiskPageDisk.TheImpl as DiskImpl
use Rattle.clone_real.specs.contracts.file_disk.FileDiskPageDisk.TheImpl as FileDiskImpl
use Rattle.clone_turn.specs.contracts.cell.TurnCell as Cell
use Rattle.clone_memlink.specs.contracts.connection.Connection as Connection
use Rattle.clone_memlink.specs.contracts.connection.LinkAnswer as LinkAnswer
use Rattle.clone_memlink.specs.contracts.connection.LinkCall as LinkCall
use Rattle.clone_memlink.specs.contracts.connection.LinkMachine as LinkMachine
use Rattle.clone_memlink.specs.contracts.connection.LinkMachineMachine.TheImpl as LinkImpl
use Rattle.clone_real.specs.contracts.any_net.AnyName as AnyName
use Rattle.clone_memdisk.specs.contracts.mem_disk.MemDisk as MemDisk
use Rattle.clone_memdisk.proofs.mem_disk.MemDisk.TheSendSync.{the_send as mem_disk_send}
use Rattle.clone_memlink.specs.contracts.mem_end.MemEnd as MemEnd
use Rattle.clone_memlink.specs.contracts.mem_net.MemNet as MemNet
use Rattle.clone_memlink.proofs.EndThreadLemmas.{end_send}
use Rattle.clone_memlink.proofs.NetThreadLemmas.{net_send}
use Rattle.clone_real.specs.contracts.any_disk.AnyDisk as AnyDisk
use Rattle.clone_real.specs.contracts.any_net.AnyEnd as AnyEnd
use Rattle.clone_real.specs.contracts.any_net.AnyNet as AnyNet
use Rattle.clone_real.specs.contracts.file_disk.FileDisk as FileDisk
use Rattle.clone_real.specs.contracts.socket_end.SocketEnd as SocketEnd
use Rattle.clone_real.specs.contracts.socket_net.SocketNet as SocketNet
use Rattle.clone_real.proofs.SocketThreadLemmas.{socket_end_send}
use Rattle.clone_real.proofs.file_disk.FileDisk.TheSendSync.{the_send as file_disk_send}
use Rattle.clone_real.proofs.socket_net.SocketNet.TheSendSync.{the_send as socket_net_send}
use Rattle.clone_real.proofs.any_disk.AnyDisk.TheSendSync.{the_send as any_disk_send}
use Rattle.clone_real.proofs.any_net.AnyEnd.TheSendSync.{the_send as any_end_send}
use Rattle.clone_real.proofs.any_net.AnyNet.TheSendSync.{the_send as any_net_send}

-- what names a connection of a run
abbrev pub name_row : RattleType
name_row = AnyName.the_row (Cell.the_row LinkMachine.the_row Connection.the_row LinkCall.the_row LinkAnswer.the_row unit-field.row LinkImpl.ghosts) u64-field.row

-- what a disk of a run tells
abbrev pub disk_ghosts : Disk (AnyDisk.the_row MemDisk.the_row FileDisk.the_row).Denot
disk_ghosts = DiskImpl.ghosts MemDisk.the_row FileDisk.the_row MemDiskImpl.ghosts DiskImpl.no_dict FileDiskImpl.ghosts DiskImpl.no_dict

pub disk_goes : IsSend (AnyDisk.the_row MemDisk.the_row FileDisk.the_row)
disk_goes = any_disk_send _ _ mem_disk_send file_disk_send

module _ (H : RattleType) (h : IsSend H) where
  pub link_goes : IsSend (AnyEnd.the_row (MemEnd.the_row H) SocketEnd.the_row)
  link_goes = any_end_send _ _ (end_send H h) socket_end_send

  pub net_goes : IsSend (AnyNet.the_row (MemNet.the_row H) SocketNet.the_row)
  net_goes = any_net_send _ _ (net_send H h) socket_net_send

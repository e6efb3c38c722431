use denote.Param.Send.{sendable}
use Rattle.usb_turn_cases.proofs.Crossing.{host_sync}
use Rattle.usb_turn_cases.proofs.many.run_all.Goals as goal

pub map_vec-requires-sync-F : goal.map_vec-requires-sync-F
map_vec-requires-sync-F g c κs within = search (sendable, host_sync) depth 40

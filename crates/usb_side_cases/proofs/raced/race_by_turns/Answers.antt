use denote.Param.Send.{sendable}
use Rattle.usb_turn_host.proofs.Crossing.{pass_send, hub_send, server_send, host_sync}
use Rattle.usb_side_cases.proofs.raced.race_by_turns.Goals as goal

pub race_in_threads-requires-send-H-Server : goal.race_in_threads-requires-send-H-Server
race_in_threads-requires-send-H-Server g c κs within = search (sendable, server_send) depth 40

pub race_in_threads-requires-send-H-Pass : goal.race_in_threads-requires-send-H-Pass
race_in_threads-requires-send-H-Pass g c κs within = search (sendable, pass_send) depth 40

pub race_in_threads-requires-send-H-Hub : goal.race_in_threads-requires-send-H-Hub
race_in_threads-requires-send-H-Hub g c κs within = search (sendable, hub_send) depth 40

pub race_in_threads-requires-sync-H : goal.race_in_threads-requires-sync-H
race_in_threads-requires-sync-H g c κs within = search (sendable, host_sync) depth 40

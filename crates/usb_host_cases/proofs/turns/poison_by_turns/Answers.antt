use denote.Param.Send.{sendable}
use Rattle.usb_turn_host.proofs.Crossing.{pass_send, hub_send, server_send, host_sync}
use Rattle.usb_host_cases.proofs.turns.poison_by_turns.Goals as goal

pub poison_in_threads-requires-send-H-Server : goal.poison_in_threads-requires-send-H-Server
poison_in_threads-requires-send-H-Server g c κs within = search (sendable, server_send) depth 40

pub poison_in_threads-requires-send-H-Pass : goal.poison_in_threads-requires-send-H-Pass
poison_in_threads-requires-send-H-Pass g c κs within = search (sendable, pass_send) depth 40

pub poison_in_threads-requires-send-H-Hub : goal.poison_in_threads-requires-send-H-Hub
poison_in_threads-requires-send-H-Hub g c κs within = search (sendable, hub_send) depth 40

pub poison_in_threads-requires-sync-H : goal.poison_in_threads-requires-sync-H
poison_in_threads-requires-sync-H g c κs within = search (sendable, host_sync) depth 40

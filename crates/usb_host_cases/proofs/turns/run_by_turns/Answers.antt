use denote.Param.Send.{sendable}
use Rattle.usb_turn_host.proofs.Crossing.{pass_send, hub_send, server_send, host_sync}
use Rattle.usb_host_cases.proofs.turns.run_by_turns.Goals as goal

pub opened_and_closed-requires-send-H-Server : goal.opened_and_closed-requires-send-H-Server
opened_and_closed-requires-send-H-Server g c κs within = search (sendable, server_send) depth 40

pub opened_and_closed-requires-send-H-Pass : goal.opened_and_closed-requires-send-H-Pass
opened_and_closed-requires-send-H-Pass g c κs within = search (sendable, pass_send) depth 40

pub opened_and_closed-requires-send-H-Hub : goal.opened_and_closed-requires-send-H-Hub
opened_and_closed-requires-send-H-Hub g c κs within = search (sendable, hub_send) depth 40

pub opened_and_closed-requires-sync-H : goal.opened_and_closed-requires-sync-H
opened_and_closed-requires-sync-H g c κs within = search (sendable, host_sync) depth 40

use denote.Param.Send.{sendable}
use Rattle.usb_turn_host.proofs.Crossing.{pass_send, hub_send, server_send, host_sync}
use Rattle.usb_host_cases.proofs.turns.kills_by_turns.Goals as goal

pub open_two-requires-send-H-Server : goal.open_two-requires-send-H-Server
open_two-requires-send-H-Server g c κs within = search (sendable, server_send) depth 40

pub open_two-requires-send-H-Pass : goal.open_two-requires-send-H-Pass
open_two-requires-send-H-Pass g c κs within = search (sendable, pass_send) depth 40

pub open_two-requires-send-H-Hub : goal.open_two-requires-send-H-Hub
open_two-requires-send-H-Hub g c κs within = search (sendable, hub_send) depth 40

pub kill_and_meet-first-requires-send-H-Pass : goal.kill_and_meet-first-requires-send-H-Pass
kill_and_meet-first-requires-send-H-Pass g c κs within = search (sendable, pass_send) depth 40

pub kill_and_meet-first-requires-send-H-Hub : goal.kill_and_meet-first-requires-send-H-Hub
kill_and_meet-first-requires-send-H-Hub g c κs within = search (sendable, hub_send) depth 40

pub kill_and_meet-first-requires-sync-H : goal.kill_and_meet-first-requires-sync-H
kill_and_meet-first-requires-sync-H g c κs within = search (sendable, host_sync) depth 40

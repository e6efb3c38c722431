use denote.Param.Send.{sendable}
use Rattle.usb_turn_cases.proofs.Crossing.{pass_send, host_sync}
use Rattle.usb_turn_cases.proofs.two.run_both.Goals as goal

pub join-requires-send-F : goal.join-requires-send-F
join-requires-send-F g c κs within = search (sendable, pass_send, host_sync) depth 40

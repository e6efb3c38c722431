use Rattle.std.proofs.Common.{ℕ, ◌≡◌, ◌<◌, ◌≤◌, true}
use Rattle.std.specs.List.{range_with_len}
use Rattle.usb_types.specs.declared.urb.Flag.TheVariants as flag
use Rattle.usb_machine.specs.Parts.{held_of}
use Rattle.usb_machine.specs.Calls.{unflag_entries}
use Rattle.usb_machine.specs.Fresh.{Grown}
use Rattle.usb_machine.specs.Tokens.{IsWholeHub}
use Rattle.usb_seat.proofs.downs.bring_up_hub.Given as goal

abbrev pub invariant-loop-u : goal.invariant-loop-u
invariant-loop-u g l =
    let known = g.H.Host.known in let own = g.H.Hub.Token.own in let hub = g.H.Hub.HubToken in
    g.H.Host.is_of l.host (own l.hub)
    × IsWholeHub (g.H.Host.machine l.host) (known (own l.hub)) (hub.flags l.hub) (hub.has_room l.hub)
    × Grown (known (own l.fn.hub)) (known (own l.hub)) (unflag_entries (known (own l.fn.hub)).number flag.Down (range_with_len 0 l.u))
    × ((v : ℕ) → l.u ≤ v → v < l.urbs → (held_of (known (own l.hub)).mine v).flags.down ≡ true)

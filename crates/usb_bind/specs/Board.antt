-- A board: the devices, their first endpoints in the host, and which driver has which interface.
use Rattle.std.specs.Prelude.{◌≡◌, ◌<◌, ◌≤◌, ◌*◌, ◌^◌, ℕ, Bool, true, false, not, ◌&&◌, ◌||◌, ◌==◌, List, [], ◌∷◌, ◌++◌, filter, All, AllPairs, Option, Some, None, is_some, length, slice_get, find, fold, replicate, option_and_then, option_map}
use Rattle.std.specs.Option.{option_map_or, option_flatten}
use Rattle.usb_types.specs.declared.urb.UrbId.{UrbId}
use Rattle.usb_types.specs.declared.urb.Role.{Role}
use Rattle.usb_types.specs.declared.urb.Role.TheVariants.{In, Note, Read0, Read1, Write, Ctl}
use Rattle.usb_desc.specs.declared.tree.Alt.{Alt}
use Rattle.usb_ctrl.specs.declared.enumerator.Attached.{Attached}
use Rattle.usb_bind.specs.declared.row.Driver.{Driver}
use Rattle.usb_bind.specs.declared.row.Driver.TheVariants.{Keyboard, Acm, Printer}
use Rattle.usb_bind.specs.declared.bound.Bound.{Bound}
use Rattle.usb_bind.specs.declared.fault.ClaimFault.{ClaimFault}
use Rattle.usb_bind.specs.declared.fault.ClaimFault.TheVariants.{Busy, Missing}
use Rattle.usb_bind.specs.Interfaces.{interface_at}
use Rattle.usb_bind.specs.Pool.{Homes, released}

-- what contracts see of a board; bindings are in the order in which they were made
pub record BoardValue : Type 0 where
  pub devices : List (Option Attached)
  pub firsts : List ℕ
  pub bindings : List Bound

-- the device with a number, where it was enumerated
abbrev pub attached_at : BoardValue → ℕ → Option Attached
attached_at board device = option_flatten (slice_get board.devices device)

-- an interface of a device
abbrev pub alt_at : BoardValue → ℕ → ℕ → Option Alt
alt_at board device interface =
    option_and_then (λ (a : Attached). interface_at a.config interface) (attached_at board device)

abbrev pub is_there : BoardValue → ℕ → ℕ → Bool
is_there board device interface = is_some (alt_at board device interface)

-- whether a binding has an interface of a device, as its own or as its other one
abbrev pub has_interface : ℕ → ℕ → Bound → Bool
has_interface device interface b =
    b.device == device && (b.interface == interface || option_map_or (λ n. n == interface) b.other false)

-- the driver that has an interface
abbrev pub holder_of : BoardValue → ℕ → ℕ → Option Driver
holder_of board device interface =
    option_map (λ (b : Bound). b.driver) (find (has_interface device interface) board.bindings)

abbrev pub with_binding : BoardValue → Bound → BoardValue
with_binding board b = record board { bindings = board.bindings ++ b ∷ [] }

-- no URBs
abbrev pub no_urbs : List (Option UrbId)
no_urbs = replicate 5 None

-- a driver claims an interface, without URBs of its own
abbrev pub claim_of : Driver → ℕ → ℕ → Bound
claim_of by device interface =
    record { driver = by; device = device; interface = interface; other = None; urbs = no_urbs }

-- the fault of a claim of an interface that is there or isn't, by the driver that has it
abbrev pub fault_where : Bool → Option Driver → Option ClaimFault
fault_where false holder = Some Missing
fault_where true holder = option_map Busy holder

abbrev pub claim_fault : BoardValue → ℕ → ℕ → Option ClaimFault
claim_fault board device interface = fault_where (is_there board device interface) (holder_of board device interface)

-- two bindings have no interface in common
abbrev pub IsApart : Bound → Bound → Type 0
IsApart a b = (device interface : ℕ) → has_interface device interface a ≡ true → has_interface device interface b ≡ true → ⊥

-- each interface that a binding has is there
abbrev pub AreThere : BoardValue → Bound → Type 0
AreThere board b = (interface : ℕ) → has_interface b.device interface b ≡ true → is_there board b.device interface ≡ true

-- the first endpoints are low numbers, each interface of a binding is there, no two bindings share one, and there is room
-- for a binding of each
pub record HoldsBindings (board : BoardValue) (capacity : ℕ) : Type 0 where
  pub firsts : length board.firsts ≡ length board.devices
  pub low : All (λ first. first < 2 ^ 31) board.firsts
  pub room : length board.devices * 256 ≤ capacity
  pub there : All (AreThere board) board.bindings
  pub bytes : All (λ (b : Bound). b.interface < 256) board.bindings
  pub apart : AllPairs IsApart board.bindings

-- a binding may join: its interfaces are there, and no binding has them
pub record MayJoin (board : BoardValue) (b : Bound) : Type 0 where
  pub there : AreThere board b
  pub own : holder_of board b.device b.interface ≡ None
  pub other : option_and_then (λ n. holder_of board b.device n) b.other ≡ None

-- the URB of a binding for a purpose
abbrev pub urb_at : Bound → ℕ → Option UrbId
urb_at b n = option_flatten (slice_get b.urbs n)

abbrev pub acm_urb : Bound → Role → Option UrbId
acm_urb b In = None
acm_urb b Note = urb_at b 0
acm_urb b Read0 = urb_at b 1
acm_urb b Read1 = urb_at b 2
acm_urb b Write = urb_at b 3
acm_urb b Ctl = urb_at b 4

abbrev pub keyboard_urb : Bound → Role → Option UrbId
keyboard_urb b In = urb_at b 0
keyboard_urb b Ctl = urb_at b 1
keyboard_urb b role = None

abbrev pub printer_urb : Bound → Role → Option UrbId
printer_urb b Write = urb_at b 0
printer_urb b Ctl = urb_at b 1
printer_urb b role = None

abbrev pub urb_by : Driver → Bound → Role → Option UrbId
urb_by Keyboard b role = keyboard_urb b role
urb_by Acm b role = acm_urb b role
urb_by Printer b role = printer_urb b role

abbrev pub urb_of_role : Bound → Role → Option UrbId
urb_of_role b role = urb_by b.driver b role

-- a binding is named by its own interface
abbrev pub is_binding_of : ℕ → ℕ → Bound → Bool
is_binding_of device interface b = b.device == device && b.interface == interface

-- a binding is undone: its interfaces are free, and its URBs are released
abbrev pub without : BoardValue → Bound → BoardValue
without board b = record board { bindings = filter (λ other. not (is_binding_of b.device b.interface other)) board.bindings }

abbrev pub released_one : Homes → Option UrbId → Homes
released_one pool slot = option_map_or (λ (u : UrbId). released pool u.0) slot pool

abbrev pub released_all : Homes → List (Option UrbId) → Homes
released_all pool urbs = fold released_one pool urbs

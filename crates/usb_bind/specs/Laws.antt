-- Definitions that the laws of matching, pool and board use.
use Rattle.std.specs.Prelude.{◌≡◌, ◌≢◌, ◌≤◌, ℕ, true, List, length, All, AllPairs, Option, Some, None, slice_index, filter_map, flat_map, option_map}
use Rattle.usb_types.specs.declared.urb.UrbId.{UrbId}
use Rattle.usb_desc.specs.declared.tree.Alt.{Alt}
use Rattle.usb_ctrl.specs.declared.enumerator.Attached.{Attached}
use Rattle.usb_bind.specs.declared.row.IdRow.{IdRow}
use Rattle.usb_bind.specs.declared.bound.Bound.{Bound}
use Rattle.usb_bind.specs.Matching.{first_match}
use Rattle.usb_bind.specs.Interfaces.{interface_at}
use Rattle.usb_bind.specs.Needs.{Need, needed, other_of, roles_of}
use Rattle.usb_bind.specs.Pool.{Homes, spare_in, is_out}
use Rattle.usb_bind.specs.Board.{BoardValue, attached_at, holder_of}
use Rattle.usb_bind.specs.Probe.{other_holder, homes_of, all_next}

-- what holds where a probe binds an interface: it is there and free, the first row that matches has this driver, nothing
-- that the driver needs is missing, the other interface is free too, and enough URBs are spare
pub record Binds (board : BoardValue) (pool : Homes) (rows : List IdRow) (device interface : ℕ) (b : Bound) : Type 0 where
  pub attached : Attached
  pub alt : Alt
  pub row : IdRow
  pub needs : List Need
  pub device_there : attached_at board device ≡ Some attached
  pub interface_there : interface_at attached.config interface ≡ Some alt
  pub free : holder_of board device interface ≡ None
  pub matched : first_match rows attached.device alt ≡ Some row
  pub nothing_missing : needed row.driver attached.config alt ≡ Some needs
  pub other_free : other_holder board device b.other ≡ None
  pub enough : length (roles_of row.driver) ≤ spare_in pool
  pub of_driver : b.driver ≡ row.driver
  pub of_device : b.device ≡ device
  pub of_interface : b.interface ≡ interface
  pub of_other : b.other ≡ other_of row.driver attached.config alt
  pub of_urbs : b.urbs ≡ all_next pool (homes_of (slice_index board.firsts device) needs)

-- the numbers of the URBs in these slots
abbrev pub numbers_in : List (Option UrbId) → List ℕ
numbers_in slots = filter_map (option_map (λ (u : UrbId). u.0)) slots

-- the numbers of all URBs that bindings have
abbrev pub numbers_of : List Bound → List ℕ
numbers_of bindings = flat_map (λ (b : Bound). numbers_in b.urbs) bindings

-- each URB of a binding is out in the pool, and no URB occurs twice
pub record Agrees (bindings : List Bound) (pool : Homes) : Type 0 where
  pub out : All (λ n. is_out pool n ≡ true) (numbers_of bindings)
  pub apart : AllPairs (λ m n. m ≢ n) (numbers_of bindings)

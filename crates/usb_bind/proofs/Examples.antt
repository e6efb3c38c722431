-- Examples that the checker computes: a modem's configuration, its binding, and refusals.
use Rattle.std.proofs.Common.{◌≡◌, ℕ, List, [], ◌∷◌, ◌++◌, map, Some, None, Ok, Err, refl}
use Rattle.usb_types.specs.declared.urb.Role.TheVariants.{Note, Read0, Read1, Write, Ctl}
use Rattle.usb_desc.specs.declared.tree.ConfigTree.{ConfigTree}
use Rattle.usb_desc.specs.declared.tree.Alt.{Alt}
use Rattle.usb_desc.specs.declared.tree.End.{End}
use Rattle.usb_desc.specs.declared.device.DeviceDesc.{DeviceDesc}
use Rattle.usb_desc.specs.Read.{tree_of}
use Rattle.usb_bind.specs.declared.row.Driver.TheVariants.{Keyboard, Acm, Printer}
use Rattle.usb_bind.specs.declared.bound.Bound.{Bound}
use Rattle.usb_bind.specs.declared.fault.ProbeFault.TheVariants.{Busy, NoDriver, OtherBusy, Full}
use Rattle.usb_bind.specs.Profile.{profile_rows}
use Rattle.usb_bind.specs.Interfaces.{interfaces_of, host_ends, place_of}
use Rattle.usb_bind.specs.Needs.{data_interface, needed, read_size}
use Rattle.usb_bind.specs.Pool.{Homes, urb}
use Rattle.usb_bind.specs.Board.{BoardValue, with_binding, claim_of, released_all}
use Rattle.usb_bind.specs.Probe.{probed, pool_after}

abbrev an_end : ℕ → ℕ → ℕ → ℕ → End
an_end address attributes size interval =
    record { address = address; attributes = attributes; max_packet = size; interval = interval; tail = []; extras = [] }

abbrev setting : ℕ → ℕ → ℕ → ℕ → ℕ → List ℕ → List End → Alt
setting number said class subclass protocol extras ends = record {
  number = number;
  setting = 0;
  said = said;
  class = class;
  subclass = subclass;
  protocol = protocol;
  text = 0;
  tail = [];
  extras = extras;
  ends = ends;
}

-- header, call management, control management, and a union of 0 and 1
abbrev modem_extras : List ℕ
modem_extras = 5 ∷ 36 ∷ 0 ∷ 16 ∷ 1 ∷ 5 ∷ 36 ∷ 1 ∷ 0 ∷ 1 ∷ 4 ∷ 36 ∷ 2 ∷ 2 ∷ 5 ∷ 36 ∷ 6 ∷ 0 ∷ 1 ∷ []

abbrev calls : Alt
calls = setting 0 1 2 2 1 modem_extras (an_end 130 3 8 16 ∷ [])

abbrev bulk : Alt
bulk = setting 1 2 10 0 0 [] (an_end 1 2 64 0 ∷ an_end 129 2 64 0 ∷ [])

abbrev modem : ConfigTree
modem = record { said = 2; value = 1; text = 0; attributes = 128; power = 50; tail = []; extras = []; alts = calls ∷ bulk ∷ [] }

-- the bytes of the configuration, a descriptor a line
abbrev modem_bytes : List ℕ
modem_bytes =
    (9 ∷ 2 ∷ 67 ∷ 0 ∷ 2 ∷ 1 ∷ 0 ∷ 128 ∷ 50 ∷ [])
    ++ (9 ∷ 4 ∷ 0 ∷ 0 ∷ 1 ∷ 2 ∷ 2 ∷ 1 ∷ 0 ∷ [])
    ++ modem_extras
    ++ (7 ∷ 5 ∷ 130 ∷ 3 ∷ 8 ∷ 0 ∷ 16 ∷ [])
    ++ (9 ∷ 4 ∷ 1 ∷ 0 ∷ 2 ∷ 10 ∷ 0 ∷ 0 ∷ 0 ∷ [])
    ++ (7 ∷ 5 ∷ 1 ∷ 2 ∷ 64 ∷ 0 ∷ 0 ∷ [])
    ++ (7 ∷ 5 ∷ 129 ∷ 2 ∷ 64 ∷ 0 ∷ 0 ∷ [])

modem_read : tree_of modem_bytes ≡ Ok modem
modem_read = refl

modem_interfaces : interfaces_of modem ≡ calls ∷ bulk ∷ []
modem_interfaces = refl

modem_ends : map (λ (e : End). e.address) (host_ends modem) ≡ 130 ∷ 1 ∷ 129 ∷ []
modem_ends = refl

modem_place : place_of modem 129 ≡ Some 2
modem_place = refl

-- the union's byte 3 names the interface itself, and byte 4 the other one
modem_data : data_interface calls ≡ 1
modem_data = refl

-- without a union it is the next number
next_data : data_interface (setting 4 1 2 2 1 [] []) ≡ 5
next_data = refl

-- a union in an endpoint's extras counts too
end_data : data_interface (setting 4 1 2 2 1 [] (record { address = 130; attributes = 3; max_packet = 8; interval = 16; tail = []; extras = 5 ∷ 36 ∷ 6 ∷ 4 ∷ 2 ∷ [] } ∷ [])) ≡ 2
end_data = refl

modem_needs : needed Acm modem calls
    ≡ Some (record { role = Note; place = Some 0 } ∷ record { role = Read0; place = Some 2 } ∷ record { role = Read1; place = Some 2 }
    ∷ record { role = Write; place = Some 1 } ∷ record { role = Ctl; place = None } ∷ [])
modem_needs = refl

modem_sizes : map (read_size Acm modem calls) (Note ∷ Read0 ∷ Read1 ∷ Write ∷ []) ≡ Some 8 ∷ Some 128 ∷ Some 128 ∷ None ∷ []
modem_sizes = refl

-- a packet size of 0 in the low 11 bits is no endpoint
no_packets : needed Keyboard modem (setting 2 1 3 1 1 [] (an_end 131 3 0x800 10 ∷ [])) ≡ None
no_packets = refl

-- a second setting 0 of a number is no interface, and neither is a number that has other settings alone
abbrev odd : ConfigTree
odd = record {
  said = 2;
  value = 1;
  text = 0;
  attributes = 128;
  power = 50;
  tail = [];
  extras = [];
  alts = record (setting 0 0 10 0 0 [] []) { setting = 1 } ∷ calls ∷ bulk ∷ setting 1 1 8 0 0 [] (an_end 5 2 64 0 ∷ []) ∷ [];
}

odd_interfaces : interfaces_of odd ≡ calls ∷ bulk ∷ []
odd_interfaces = refl

abbrev modem_device : DeviceDesc
modem_device = record {
  usb = 0x200;
  class = 2;
  subclass = 0;
  protocol = 0;
  max0 = 64;
  vendor = 0x1209;
  product = 1;
  release = 0x100;
  texts = 0 ∷ 0 ∷ 0 ∷ [];
  configs = 1;
}

-- one modem, whose endpoint 00 is number 3 in the host
abbrev board : BoardValue
board = record {
  devices = Some (record { address = 1; device = modem_device; config = modem }) ∷ [];
  firsts = 3 ∷ [];
  bindings = [];
}

-- URB 1 is out
abbrev pool : Homes
pool = None ∷ Some 0 ∷ None ∷ None ∷ None ∷ None ∷ []

abbrev modem_bound : Bound
modem_bound = record {
  driver = Acm;
  device = 0;
  interface = 0;
  other = Some 1;
  urbs = Some (urb 0) ∷ Some (urb 2) ∷ Some (urb 3) ∷ Some (urb 4) ∷ Some (urb 5) ∷ [];
}

modem_probed : probed board pool profile_rows 0 0 ≡ Ok modem_bound
modem_probed = refl

modem_pool : pool_after board pool profile_rows 0 0 ≡ Some 4 ∷ Some 0 ∷ Some 6 ∷ Some 6 ∷ Some 5 ∷ Some 3 ∷ []
modem_pool = refl

modem_cancelled : released_all (pool_after board pool profile_rows 0 0) modem_bound.urbs ≡ pool
modem_cancelled = refl

-- the data interface by itself has no driver, and after the probe it is busy
data_alone : probed board pool profile_rows 0 1 ≡ Err NoDriver
data_alone = refl

data_busy : probed (with_binding board modem_bound) pool profile_rows 0 1 ≡ Err (Busy Acm)
data_busy = refl

-- where the data interface is taken that is reported, and not that the pool is full
other_first : probed (with_binding board (claim_of Printer 0 1)) [] profile_rows 0 0 ≡ Err (OtherBusy Printer)
other_first = refl

one_short : probed board (None ∷ None ∷ None ∷ None ∷ Some 7 ∷ []) profile_rows 0 0 ≡ Err (Full 5 4)
one_short = refl

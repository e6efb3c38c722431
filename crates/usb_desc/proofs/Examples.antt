-- Examples that the checker computes: a modem's configuration of 67 bytes, a device, and each fault.
use Rattle.std.proofs.Common.{◌≡◌, ℕ, Bool, true, false, ltb, List, [], ◌∷◌, ◌++◌, length, take, Some, None, Ok, refl}
use Rattle.std.specs.Prelude.{◌&&◌}
use Rattle.std.specs.List.{concat, list_all, AllByRecursion}
use Rattle.std.proofs.lemmas.Bool.{ltb-true}
use Rattle.usb_desc.specs.declared.tree.ConfigTree.{ConfigTree}
use Rattle.usb_desc.specs.declared.tree.End.{End}
use Rattle.usb_desc.specs.declared.device.DeviceDesc.{DeviceDesc}
use Rattle.usb_desc.specs.declared.fault.DescFault.TheVariants.{Short, BadLength, BadType, TotalLength, EndpointWithoutInterface, TwiceEndpoint}
use Rattle.usb_desc.specs.Spell.{spell}
use Rattle.usb_desc.specs.Good.{IsByte, IsGood}
use Rattle.usb_desc.specs.Read.{tree_of, first_fault}
use Rattle.usb_desc.specs.Device.{spell_device, device_of, first_device_fault}
use Rattle.usb_desc.proofs.Found.{tree_found}

both : (a b : Bool) → (a && b) ≡ true → (a ≡ true) × (b ≡ true)
both true b h = (refl, h)
both false b h = absurd cc

-- the modem's descriptors, one a line
abbrev modem_pieces : List (List ℕ)
modem_pieces =
    (9 ∷ 2 ∷ 67 ∷ 0 ∷ 2 ∷ 1 ∷ 0 ∷ 128 ∷ 50 ∷ [])
    ∷ (9 ∷ 4 ∷ 0 ∷ 0 ∷ 1 ∷ 2 ∷ 2 ∷ 1 ∷ 0 ∷ [])
    ∷ (5 ∷ 36 ∷ 0 ∷ 16 ∷ 1 ∷ [])
    ∷ (5 ∷ 36 ∷ 1 ∷ 0 ∷ 1 ∷ [])
    ∷ (4 ∷ 36 ∷ 2 ∷ 2 ∷ [])
    ∷ (5 ∷ 36 ∷ 6 ∷ 0 ∷ 1 ∷ [])
    ∷ (7 ∷ 5 ∷ 130 ∷ 3 ∷ 8 ∷ 0 ∷ 16 ∷ [])
    ∷ (9 ∷ 4 ∷ 1 ∷ 0 ∷ 2 ∷ 10 ∷ 0 ∷ 0 ∷ 0 ∷ [])
    ∷ (7 ∷ 5 ∷ 1 ∷ 2 ∷ 64 ∷ 0 ∷ 0 ∷ [])
    ∷ (7 ∷ 5 ∷ 129 ∷ 2 ∷ 64 ∷ 0 ∷ 0 ∷ [])
    ∷ []

abbrev modem_bytes : List ℕ
modem_bytes = concat modem_pieces

-- the extras of its first setting
abbrev modem_extras : List ℕ
modem_extras = 5 ∷ 36 ∷ 0 ∷ 16 ∷ 1 ∷ 5 ∷ 36 ∷ 1 ∷ 0 ∷ 1 ∷ 4 ∷ 36 ∷ 2 ∷ 2 ∷ 5 ∷ 36 ∷ 6 ∷ 0 ∷ 1 ∷ []

abbrev modem_end : ℕ → ℕ → ℕ → ℕ → End
modem_end address attributes size interval =
    record { address = address; attributes = attributes; max_packet = size; interval = interval; tail = []; extras = [] }

abbrev modem : ConfigTree
modem = record {
  said = 2;
  value = 1;
  text = 0;
  attributes = 128;
  power = 50;
  tail = [];
  extras = [];
  alts = record {
    number = 0;
    setting = 0;
    said = 1;
    class = 2;
    subclass = 2;
    protocol = 1;
    text = 0;
    tail = [];
    extras = modem_extras;
    ends = modem_end 130 3 8 16 ∷ [];
  }
      ∷ record {
        number = 1;
        setting = 0;
        said = 2;
        class = 10;
        subclass = 0;
        protocol = 0;
        text = 0;
        tail = [];
        extras = [];
        ends = modem_end 1 2 64 0 ∷ modem_end 129 2 64 0 ∷ [];
      }
      ∷ [];
}

modem_length : length modem_bytes ≡ 67
modem_length = refl

modem_spelled : spell modem ≡ modem_bytes
modem_spelled = refl

modem_read : tree_of modem_bytes ≡ Ok modem
modem_read = refl

all_bytes : (bytes : List ℕ) → list_all (λ b. ltb b 256) bytes ≡ true → AllByRecursion IsByte bytes
all_bytes [] h = tt
all_bytes (b ∷ bytes) h = let e = both (ltb b 256) (list_all (λ c. ltb c 256) bytes) h in (ltb-true b 256 e.0, all_bytes bytes e.1)

modem_good : IsGood modem
modem_good = let found = tree_found modem_bytes modem (all_bytes modem_bytes refl) modem_read in found.0

-- a byte less, a byte more
modem_cut : first_fault (take 66 modem_bytes) ≡ Some (TotalLength 67 66)
modem_cut = refl

modem_longer : first_fault (modem_bytes ++ 2 ∷ []) ≡ Some (TotalLength 67 68)
modem_longer = refl

-- a configuration's own descriptor, with this total length
abbrev own : ℕ → List ℕ
own n = 9 ∷ 2 ∷ n ∷ 0 ∷ 1 ∷ 1 ∷ 0 ∷ 128 ∷ 50 ∷ []

abbrev setting : List ℕ
setting = 9 ∷ 4 ∷ 0 ∷ 0 ∷ 1 ∷ 3 ∷ 1 ∷ 1 ∷ 0 ∷ []

abbrev end : ℕ → List ℕ
end address = 7 ∷ 5 ∷ address ∷ 3 ∷ 8 ∷ 0 ∷ 10 ∷ []

nothing_is_short : first_fault [] ≡ Some (Short 0)
nothing_is_short = refl

first_is_short : first_fault (take 8 (own 9)) ≡ Some (Short 8)
first_is_short = refl

first_is_low : first_fault (8 ∷ 4 ∷ 0 ∷ 0 ∷ 0 ∷ 0 ∷ 0 ∷ 0 ∷ []) ≡ Some (BadLength 0)
first_is_low = refl

first_is_other : first_fault (end 129) ≡ Some (BadType 0)
first_is_other = refl

later_is_short : first_fault (own 12 ++ 5 ∷ 36 ∷ 0 ∷ []) ≡ Some (Short 9)
later_is_short = refl

later_is_low : first_fault (own 15 ++ 6 ∷ 5 ∷ 129 ∷ 3 ∷ 8 ∷ 0 ∷ []) ≡ Some (BadLength 9)
later_is_low = refl

end_comes_first : first_fault (own 16 ++ end 129) ≡ Some (EndpointWithoutInterface 9)
end_comes_first = refl

address_stands_twice : first_fault (own 32 ++ setting ++ end 129 ++ end 129) ≡ Some (TwiceEndpoint 25)
address_stands_twice = refl

address_in_each_setting : first_fault (own 41 ++ setting ++ end 129 ++ setting ++ end 129) ≡ None
address_in_each_setting = refl

-- a keyboard's device descriptor
abbrev keyboard_bytes : List ℕ
keyboard_bytes = 18 ∷ 1 ∷ 0 ∷ 2 ∷ 0 ∷ 0 ∷ 0 ∷ 64 ∷ 9 ∷ 18 ∷ 1 ∷ 0 ∷ 52 ∷ 1 ∷ 1 ∷ 2 ∷ 0 ∷ 1 ∷ []

abbrev keyboard : DeviceDesc
keyboard = record {
  usb = 512;
  class = 0;
  subclass = 0;
  protocol = 0;
  max0 = 64;
  vendor = 4617;
  product = 1;
  release = 308;
  texts = 1 ∷ 2 ∷ 0 ∷ [];
  configs = 1;
}

keyboard_spelled : spell_device keyboard ≡ keyboard_bytes
keyboard_spelled = refl

keyboard_read : device_of keyboard_bytes ≡ Ok keyboard
keyboard_read = refl

keyboard_longer : first_device_fault (keyboard_bytes ++ 0 ∷ []) ≡ Some (BadLength 18)
keyboard_longer = refl

keyboard_cut : first_device_fault (take 17 keyboard_bytes) ≡ Some (Short 17)
keyboard_cut = refl

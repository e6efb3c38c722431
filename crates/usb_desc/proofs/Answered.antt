-- What reading answers, by the definitions.
use Rattle.std.proofs.Common.{◌≡◌, ℕ, ◌⊎◌, inl, inr, List, Some, Result, Ok, Err, refl, sym, ap, ◌∙◌}
use Rattle.std.specs.Prelude.{IfOk, IfErr}
use Rattle.std.specs.List.{AllByRecursion}
use Rattle.usb_desc.specs.declared.tree.ConfigTree.{ConfigTree}
use Rattle.usb_desc.specs.declared.device.DeviceDesc.{DeviceDesc}
use Rattle.usb_desc.specs.declared.fault.DescFault.{DescFault}
use Rattle.usb_desc.specs.declared.fault.DescFault.TheVariants.{Short, BadLength, BadType, TotalLength, EndpointWithoutInterface, TwiceEndpoint, Limit, Memory}
use Rattle.usb_desc.specs.Cut.{Fails, Gives}
use Rattle.usb_desc.specs.Spell.{spell}
use Rattle.usb_desc.specs.Good.{IsByte, IsGood}
use Rattle.usb_desc.specs.Read.{tree_of, fault_in, first_fault}
use Rattle.usb_desc.specs.Device.{spell_device, IsGoodDevice, device_of, first_device_fault}
use Rattle.usb_desc.proofs.Found.{tree_found}
use Rattle.usb_desc.proofs.Whole.{tree_again}
use Rattle.usb_desc.proofs.Devices.{device_found}

abbrev same : ConfigTree → ConfigTree
same t = t

-- a fault that was answered is the one that reading has, or want of memory
failed : {Y : Type 0} (f : DescFault) (read : Result Y DescFault) → Fails f read → (read ≡ Err f) ⊎ (f ≡ Memory)
failed (Short at) read h = inl h
failed (BadLength at) read h = inl h
failed (BadType at) read h = inl h
failed (TotalLength said found) read h = inl h
failed (EndpointWithoutInterface at) read h = inl h
failed (TwiceEndpoint at) read h = inl h
failed (Limit at) read h = inl h
failed Memory read h = inr refl

no_fault : (f : DescFault) (t : ConfigTree) (read : Result ConfigTree DescFault) → read ≡ Ok t → (read ≡ Err f) ⊎ (f ≡ Memory) → f ≡ Memory
no_fault f t read e (inl h) = absurd cc
no_fault f t read e (inr h) = h

pub config_found : (bytes : List ℕ) (r : Result ConfigTree DescFault) → AllByRecursion IsByte bytes → Gives same r (tree_of bytes)
    → IfOk r (λ t. IsGood t × (spell t ≡ bytes))
config_found bytes (Ok t) fits g = tree_found bytes t fits g
config_found bytes (Err f) fits g = tt

pub config_only : (bytes : List ℕ) (r : Result ConfigTree DescFault) → Gives same r (tree_of bytes) → (t : ConfigTree) → IsGood t → spell t ≡ bytes
    → (r ≡ Ok t) ⊎ (r ≡ Err Memory)
config_only bytes (Ok u) g t good e = inl (sym g ∙ ap tree_of (sym e) ∙ tree_again t good)
config_only bytes (Err f) g t good e =
    let read : tree_of bytes ≡ Ok t = ap tree_of (sym e) ∙ tree_again t good in
    inr (ap (λ (x : DescFault). Err x) (no_fault f t (tree_of bytes) read (failed f (tree_of bytes) g)))

pub config_fault : (bytes : List ℕ) (r : Result ConfigTree DescFault) → Gives same r (tree_of bytes)
    → IfErr r (λ f. (first_fault bytes ≡ Some f) ⊎ (f ≡ Memory))
config_fault bytes (Ok t) g = tt
config_fault bytes (Err f) g =
    elim (failed f (tree_of bytes) g) as (λ _. (first_fault bytes ≡ Some f) ⊎ (f ≡ Memory)) [ inl h ↦ inl (ap fault_in h) | inr h ↦ inr h ]

pub device_is_found : (bytes : List ℕ) (r : Result DeviceDesc DescFault) → AllByRecursion IsByte bytes → r ≡ device_of bytes
    → IfOk r (λ d. IsGoodDevice d × (spell_device d ≡ bytes))
device_is_found bytes (Ok d) fits g = device_found bytes d fits (sym g)
device_is_found bytes (Err f) fits g = tt

pub device_fault : (bytes : List ℕ) (r : Result DeviceDesc DescFault) → r ≡ device_of bytes → IfErr r (λ f. first_device_fault bytes ≡ Some f)
device_fault bytes (Ok d) g = tt
device_fault bytes (Err f) g = ap fault_in (sym g)

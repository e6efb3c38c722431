-- An enumeration after one answer more.
use Rattle.std.proofs.Common.{ℕ, ◌≡◌, ◌+◌, ◌<◌, ◌≤◌, false, eqb, Some, None, Result, Ok, Err, List, [], ◌∷◌, ◌++◌, length, take, refl, sym, ap, ◌∙◌, subst, arith}
use Rattle.std.specs.Prelude.{bytes_eq, OnOk}
use Rattle.std.specs.Result.{result_map_both}
use Rattle.usb_types.specs.declared.errno.Code.{Code}
use Rattle.usb_types.specs.declared.errno.Code.TheVariants.{Zero, Fault}
use Rattle.usb_desc.specs.declared.fault.DescFault.TheVariants.{Short}
use Rattle.usb_desc.specs.Device.{device_of}
use Rattle.usb_desc.specs.Read.{tree_of}
use Rattle.usb_ctrl.specs.declared.setup.Setup.{Setup}
use Rattle.usb_ctrl.specs.declared.fault.EnumFault.{EnumFault}
use Rattle.usb_ctrl.specs.declared.fault.EnumFault.TheVariants.{Status, Descriptor, Changed, Memory}
use Rattle.usb_ctrl.specs.declared.stage.Stage.{Stage}
use Rattle.usb_ctrl.specs.declared.stage.Stage.TheVariants.{Fresh, Begun, Addressed, Described, Measured, Known, Done, Failed}
use Rattle.usb_ctrl.specs.Requests.{asks}
use Rattle.usb_ctrl.specs.declared.enumerator.Attached.{Attached}
use Rattle.usb_ctrl.specs.Enumeration.{heard, said, unchanged, fault_of, reached, end_of, IsTurn}
use Rattle.usb_xfer.specs.declared.script.DeviceScript.{DeviceScript}
use Rattle.usb_device.specs.Device.{Call, reply_to}
use Rattle.usb_prepare.specs.Enumerated.{said_at, after, enumerated, attached_in, IsFound}
use Rattle.usb_prepare.specs.Prepared.{requests_heard}
use Rattle.usb_prepare.specs.Probing.{asking}
use Rattle.usb_prepare.specs.Requests.{answer_to, left_of, is_failed, is_memory, IsOwn, IsAt, GoesOn}
use Rattle.usb_prepare.proofs.Sound.{ok_in, then_in, known_in, measured_in}
use Rattle.usb_prepare.proofs.Steps.{told, goes_on, ends, requests_more, fits_room, fault_ends, fresh_at}

-- whatever is answered, a good answer leaves one request less
record IsLess (top : ℕ) (next : Stage) : Type 0 where
  pub less : left_of next < top
  pub live : is_failed next ≡ false

said_less : (stage next : Stage) (reply : List ℕ) → 0 < left_of stage → said stage reply ≡ Ok next → IsLess (left_of stage) next
said_less Fresh next reply l is = subst (IsLess 6) (ok_in (eqb (length reply) 8) (Begun (take 8 reply)) next (Descriptor (Short (length reply))) is) record { less = omega arith; live = refl }
said_less (Begun head) next reply l is = let same : Addressed head ≡ next = cc in subst (IsLess 5) same record { less = omega arith; live = refl }
said_less (Addressed head) next reply l is =
    let read = then_in (unchanged head (take 8 reply)) (result_map_both (λ d. d) fault_of (device_of reply)) next is in
    subst (IsLess 4) (ok_in (bytes_eq (take 8 reply) head) (Described read.0) next (Changed head (take 8 reply)) read.2) record { less = omega arith; live = refl }
said_less (Described device) next reply l is = subst (IsLess 3) (measured_in device reply next is).1 record { less = omega arith; live = refl }
said_less (Measured device total) next reply l is = subst (IsLess 2) (known_in device (tree_of reply) next is).2 record { less = omega arith; live = refl }
said_less (Known device c) next reply l is = let same : Done device c ≡ next = cc in subst (IsLess 1) same record { less = omega arith; live = refl }
said_less (Done device c) next reply l is = absurd (omega arith)
said_less Failed next reply l is = absurd (omega arith)

heard_less : (address : ℕ) (stage next : Stage) (reply : List ℕ) (code : Code) → 0 < left_of stage → heard address stage reply code ≡ Ok next → IsLess (left_of stage) next
heard_less address stage next reply Zero l is = said_less stage next reply l is
heard_less address stage next reply (Fault errno) l is = cc

pub asked_left : (address : ℕ) (stage : Stage) (setup : Setup) → asks address stage ≡ Some setup → 0 < left_of stage
asked_left address Fresh setup is = omega arith
asked_left address (Begun head) setup is = omega arith
asked_left address (Addressed head) setup is = omega arith
asked_left address (Described device) setup is = omega arith
asked_left address (Measured device total) setup is = omega arith
asked_left address (Known device config) setup is = omega arith
asked_left address (Done device config) setup is = cc
asked_left address Failed setup is = cc

module _ (address : ℕ) (before next : Stage) (setup : Setup) (reply : List ℕ) (code : Code) (asked : asks address before ≡ Some setup) where
  pub turn_less : (r : Result (Unit {0}) EnumFault) → IsTurn (heard address before reply code) before next r → OnOk r (left_of next < left_of before)
  turn_less (Ok done) turn = (heard_less address before next reply code (asked_left address before setup asked) turn).less
  turn_less (Err fault) turn = tt

  pub turn_live : (r : Result (Unit {0}) EnumFault) → IsTurn (heard address before reply code) before next r → OnOk r (is_failed next ≡ false)
  turn_live (Ok done) turn = (heard_less address before next reply code (asked_left address before setup asked) turn).live
  turn_live (Err fault) turn = tt

module _ (script : DeviceScript) (own : IsOwn script) (address k : ℕ) (some : 1 ≤ address) (fits : address < 128) (before : Stage) (calls : List Call) (setup : Setup) (at : IsAt script address k before calls) (asked : asks address before ≡ Some setup) where
  abbrev due : Result Stage EnumFault
  due = heard address before (said_at script before).reply (said_at script before).code

  pub answered : answer_to setup (reply_to script calls (asking setup)) ≡ said_at script before
  answered = told script address own.other own.config some fits k before calls setup at asked

  pub answer_fits : length (answer_to setup (reply_to script calls (asking setup))).reply ≤ 65535
  answer_fits = let most = fits_room script before own.config in let same = ap (λ a. length a.reply) answered in omega arith

  goes_by : (r : Result (Unit {0}) EnumFault) (next : Stage) → IsTurn due before next r → GoesOn script address k next (calls ++ asking setup ∷ []) r
  goes_by (Ok done) next turn = goes_on script address own.other own.config some fits k before calls setup at asked next turn
  goes_by (Err Memory) next turn = tt
  goes_by (Err (Status request errno)) next turn = (ends script address own.other own.config some fits k before calls setup at asked (Status request errno) turn.0, requests_more script address own.other own.config some fits k before calls setup at asked)
  goes_by (Err (Descriptor fault)) next turn = (ends script address own.other own.config some fits k before calls setup at asked (Descriptor fault) turn.0, requests_more script address own.other own.config some fits k before calls setup at asked)
  goes_by (Err (Changed old new)) next turn = (ends script address own.other own.config some fits k before calls setup at asked (Changed old new) turn.0, requests_more script address own.other own.config some fits k before calls setup at asked)

  -- the enumerator took the bytes and the code that the device answered
  pub goes : (r : Result (Unit {0}) EnumFault) (next : Stage) (reply : List ℕ) (code : Code) → reply ≡ (answer_to setup (reply_to script calls (asking setup))).reply → code ≡ (answer_to setup (reply_to script calls (asking setup))).code
      → IsTurn (heard address before reply code) before next r → GoesOn script address k next (calls ++ asking setup ∷ []) r
  goes r next reply code b c turn = goes_by r next (subst (λ due. IsTurn due before next r) ((λ i. heard address before ((b ∙ ap (λ a. a.reply) answered) i) ((c ∙ ap (λ a. a.code) answered) i))) turn)

-- before the first request
pub start : (script : DeviceScript) (address : ℕ) (stage : Stage) → Fresh ≡ stage → IsAt script address 0 stage []
start script address stage same = subst (λ s. IsAt script address 0 s []) same (fresh_at script address)

first_stage : (address : ℕ) (stage : Stage) → reached address [] ≡ Ok stage → Fresh ≡ stage
first_stage address stage is = cc

pub started : (script : DeviceScript) (address : ℕ) (stage : Stage) → reached address [] ≡ Ok stage → IsAt script address 0 stage []
started script address stage is = start script address stage (first_stage address stage is)

fault_of_goes : (script : DeviceScript) (address k : ℕ) (stage : Stage) (calls : List Call) (fault : EnumFault) → is_memory fault ≡ false → GoesOn script address k stage calls (Err fault)
    → (after script address (k + 1) ≡ Err fault) × (calls ≡ requests_heard script address (k + 1))
fault_of_goes script address k stage calls (Status request errno) other goes = goes
fault_of_goes script address k stage calls (Descriptor fault) other goes = goes
fault_of_goes script address k stage calls (Changed old new) other goes = goes
fault_of_goes script address k stage calls Memory other goes = cc

-- a fault that ends an enumeration
pub fault_found : (script : DeviceScript) (address k : ℕ) (stage : Stage) (calls : List Call) (fault : EnumFault) (answer : Result Attached EnumFault) → k + 1 ≤ 6 → GoesOn script address k stage calls (Err fault)
    → answer ≡ Err fault → is_memory fault ≡ false → IsFound address (enumerated script address) answer
unfolding enumerated
fault_found script address k stage calls fault answer l goes same other =
    subst (IsFound address (after script address 6)) (sym same) (fault_ends script address fault (k + 1) l (fault_of_goes script address k stage calls fault other goes).0).0

pub fault_heard : (script : DeviceScript) (address k : ℕ) (stage : Stage) (calls : List Call) (fault : EnumFault) → k + 1 ≤ 6 → GoesOn script address k stage calls (Err fault)
    → is_memory fault ≡ false → calls ≡ requests_heard script address 6
fault_heard script address k stage calls fault l goes other =
    let g = fault_of_goes script address k stage calls fault other goes in
    g.1 ∙ (fault_ends script address fault (k + 1) l g.0).1

-- nothing is asked after the last request
none_left : (address : ℕ) (stage : Stage) → asks address stage ≡ None → left_of stage ≡ 0
none_left address Fresh is = cc
none_left address (Begun head) is = cc
none_left address (Addressed head) is = cc
none_left address (Described device) is = cc
none_left address (Measured device total) is = cc
none_left address (Known device config) is = cc
none_left address (Done device config) is = refl
none_left address Failed is = refl

all_asked : (script : DeviceScript) (address k : ℕ) (stage : Stage) (calls : List Call) → IsAt script address k stage calls → asks address stage ≡ None → k ≡ 6
all_asked script address k stage calls at is = let none = none_left address stage is in let place = at.place in omega arith

pub end_found : (script : DeviceScript) (address k : ℕ) (stage : Stage) (calls : List Call) (a : Attached) → IsAt script address k stage calls → asks address stage ≡ None → end_of address stage ≡ Some a
    → IsFound address (enumerated script address) (Ok a)
unfolding enumerated
end_found script address k stage calls a at is end =
    ap (attached_in address) (ap (after script address) (sym (all_asked script address k stage calls at is)) ∙ at.so_far) ∙ end

pub end_heard : (script : DeviceScript) (address k : ℕ) (stage : Stage) (calls : List Call) → IsAt script address k stage calls → asks address stage ≡ None → calls ≡ requests_heard script address 6
end_heard script address k stage calls at is = at.requests ∙ ap (requests_heard script address) (all_asked script address k stage calls at is)

-- where nothing is asked any more and nothing failed, the device is there
pub is_done : (address : ℕ) (stage : Stage) → asks address stage ≡ None → is_failed stage ≡ false → end_of address stage ≡ None → ⊥
is_done address Fresh is live none = cc
is_done address (Begun head) is live none = cc
is_done address (Addressed head) is live none = cc
is_done address (Described device) is live none = cc
is_done address (Measured device total) is live none = cc
is_done address (Known device config) is live none = cc
is_done address (Done device config) is live none = cc
is_done address Failed is live none = cc

-- nothing failed before the first request
pub first_live : (address : ℕ) (stage : Stage) → reached address [] ≡ Ok stage → is_failed stage ≡ false
first_live address stage is = subst (λ s. is_failed s ≡ false) (first_stage address stage is) refl

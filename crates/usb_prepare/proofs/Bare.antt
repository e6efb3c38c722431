-- The requests of an enumeration and of a probe: all are asked at 00, and none sets an endpoint's halt.
use Rattle.std.proofs.Common.{ℕ, zero, suc, ◌≡◌, ◌≢◌, Bool, true, false, cond, eqb, Option, None, Some, Result, Ok, Err, List, [], ◌∷◌, ◌++◌, map, refl, sym, ap, ◌∙◌, ne_eqb}
use Rattle.std.specs.List.{All, AllByRecursion, filter}
use Rattle.std.proofs.lemmas.List.Elements.{All-nil, All-cons, All-head, All-tail, All-push, All-append, All-weaker}
use Rattle.usb_desc.specs.declared.tree.Alt.{Alt}
use Rattle.usb_ctrl.specs.declared.setup.Setup.{Setup}
use Rattle.usb_ctrl.specs.declared.enumerator.Attached.{Attached}
use Rattle.usb_ctrl.specs.declared.fault.EnumFault.{EnumFault}
use Rattle.usb_ctrl.specs.declared.stage.Stage.{Stage}
use Rattle.usb_ctrl.specs.declared.stage.Stage.TheVariants.{Fresh, Begun, Addressed, Described, Measured, Known, Done, Failed}
use Rattle.usb_ctrl.specs.Requests.{asks}
use Rattle.usb_xfer.specs.Replies.{Ask}
use Rattle.usb_xfer.specs.declared.script.DeviceScript.{DeviceScript}
use Rattle.usb_device.specs.Device.{Call, questions_at, reply_to}
use Rattle.usb_device.specs.Laws.{sets_halt, NoneHalts}
use Rattle.usb_bind.specs.declared.row.Driver.{Driver}
use Rattle.usb_bind.specs.declared.row.Driver.TheVariants.{Keyboard, Acm, Printer}
use Rattle.usb_bind.specs.declared.bound.Bound.{Bound}
use Rattle.usb_bind.specs.declared.fault.ProbeFault.{ProbeFault}
use Rattle.usb_bind.specs.Interfaces.{interfaces_of}
use Rattle.usb_bind.specs.Pool.{Homes}
use Rattle.usb_bind.specs.Profile.{profile_rows}
use Rattle.usb_bind.specs.Board.{with_binding}
use Rattle.usb_bind.specs.Probe.{probed, pool_after}
use Rattle.usb_scene.specs.declared.scene.SceneDevice.{SceneDevice}
use Rattle.usb_scene.specs.WellFormed.{is_raw}
use Rattle.usb_prepare.specs.declared.found.Probe.TheVariants as probe
use Rattle.usb_prepare.specs.Enumerated.{after}
use Rattle.usb_prepare.specs.Ends.{address_of}
use Rattle.usb_prepare.specs.Probing.{requests_of, asking, ends_probe, Asked, ask_each, id_told, Probing, settled, probed_by, with_probe}
use Rattle.usb_prepare.specs.Prepared.{request_in, request_at, requests_heard, enumeration_of, probed_device}
use Rattle.usb_prepare.proofs.Lists.{fold_keeps}

-- a request that sets no halt
abbrev IsBare : Setup → Type 0
IsBare setup = sets_halt (Ask setup []) ≡ false

abbrev IsBareCall : Call → Type 0
IsBareCall c = (c.address ≡ 0) × (sets_halt c.question ≡ false)

abbrev pub AreBare : List Call → Type 0
AreBare calls = All IsBareCall calls

one_bare : (setup : Setup) → IsBare setup → AreBare (asking setup ∷ [])
one_bare setup is = All-cons IsBareCall (asking setup) [] (refl, is) (All-nil IsBareCall)

-- an enumeration
stage_bare : (address : ℕ) (stage : Stage) → AreBare (request_in (asks address stage))
stage_bare address Fresh = one_bare _ refl
stage_bare address (Begun head) = one_bare _ refl
stage_bare address (Addressed head) = one_bare _ refl
stage_bare address (Described device) = one_bare _ refl
stage_bare address (Measured device total) = one_bare _ refl
stage_bare address (Known device config) = one_bare _ refl
stage_bare address (Done device config) = All-nil IsBareCall
stage_bare address Failed = All-nil IsBareCall

next_bare : (address : ℕ) (r : Result Stage EnumFault) → AreBare (request_at address r)
next_bare address (Ok stage) = stage_bare address stage
next_bare address (Err fault) = All-nil IsBareCall

requests_bare : (script : DeviceScript) (address n : ℕ) → AreBare (requests_heard script address n)
requests_bare script address zero = All-nil IsBareCall
requests_bare script address (suc n) =
    All-append IsBareCall (requests_heard script address n) (request_at address (after script address n)) (requests_bare script address n) (next_bare address (after script address n))

pub enumeration_bare : (d : ℕ) (device : SceneDevice) → AreBare (enumeration_of d device)
enumeration_bare d device = go (is_raw device.script.kind)
  where
    go : (raw : Bool) → AreBare (cond raw [] (requests_heard device.script (address_of d) 6))
    go true = All-nil IsBareCall
    go false = requests_bare device.script (address_of d) 6

-- a probe
driver_bare : (driver : Driver) (i : ℕ) → AllByRecursion IsBare (requests_of driver i)
driver_bare Keyboard i = (refl, (refl, tt))
driver_bare Acm i = tt
driver_bare Printer i = (refl, tt)

each_bare : (script : DeviceScript) (calls : List Call) (setups : List Setup) → AreBare calls → AllByRecursion IsBare setups → AreBare (ask_each script calls setups).calls
each_bare script calls [] is all = is
each_bare script calls (setup ∷ setups) is all = go (ends_probe (reply_to script calls (asking setup))) (each_bare script (calls ++ asking setup ∷ []) setups more all.1)
  where
    more : AreBare (calls ++ asking setup ∷ [])
    more = All-push IsBareCall calls (asking setup) is (refl, all.0)

    go : (ends : Bool) → AreBare (ask_each script (calls ++ asking setup ∷ []) setups).calls
        → AreBare (cond ends (record { calls = calls ++ asking setup ∷ []; answered = false }) (ask_each script (calls ++ asking setup ∷ []) setups)).calls
    go true rest = more
    go false rest = rest

settled_bare : (p : Probing) (b : Bound) (pool : Homes) (asked : Asked) (id : List ℕ) → AreBare asked.calls → AreBare (settled p b pool asked id).calls
settled_bare p b pool asked id is = go asked.answered
  where
    same : Probing
    same = record p { calls = asked.calls; probes = p.probes ++ probe.Cancelled ∷ [] }

    more : Probing
    more = record { board = with_binding p.board b; pool = pool; calls = asked.calls; probes = p.probes ++ probe.Bound ∷ []; ids = p.ids ++ id ∷ [] }

    go : (x : Bool) → AreBare (cond x more same).calls
    go true = is
    go false = is

probe_bare : (script : DeviceScript) (d : ℕ) (p : Probing) (alt : Alt) → AreBare p.calls → AreBare (with_probe script d p alt).calls
probe_bare script d p alt is = go (probed p.board p.pool profile_rows d alt.number)
  where
    pool : Homes
    pool = pool_after p.board p.pool profile_rows d alt.number

    go : (r : Result Bound ProbeFault) → AreBare (probed_by script p pool r).calls
    go (Ok b) = settled_bare p b pool (ask_each script p.calls (requests_of b.driver b.interface)) (id_told script p.calls b) (each_bare script p.calls (requests_of b.driver b.interface) is (driver_bare b.driver b.interface))
    go (Err fault) = is

pub device_bare : (d : ℕ) (script : DeviceScript) (o : Option Attached) (p : Probing) → AreBare p.calls → AreBare (probed_device d script o p).calls
device_bare d script None p is = is
device_bare d script (Some a) p is = fold_keeps (λ (p : Probing). AreBare p.calls) (with_probe script d) (probe_bare script d) p (interfaces_of a.config) is

-- what such calls leave of a device
pub bare_elsewhere : (calls : List Call) → AreBare calls → (address : ℕ) → address ≢ 0 → questions_at address calls ≡ []
bare_elsewhere [] is address off = refl
bare_elsewhere (c ∷ calls) is address off =
    let here = (All-head IsBareCall c calls is).0 in
    ap (λ b. map (λ (c : Call). c.question) (cond b (c ∷ filter (λ (c : Call). eqb c.address address) calls) (filter (λ (c : Call). eqb c.address address) calls))) (ne_eqb c.address address (λ e. off (sym e ∙ here)))
    ∙ bare_elsewhere calls (All-tail IsBareCall c calls is) address off

pub bare_halts : (calls : List Call) → AreBare calls → NoneHalts calls
bare_halts calls is = All-weaker IsBareCall (λ (c : Call). sets_halt c.question ≡ false) (λ c one. one.1) calls is

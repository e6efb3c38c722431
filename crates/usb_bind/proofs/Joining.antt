-- What a probe plans may join the board.
use Rattle.std.proofs.Common.{◌≡◌, ℕ, Bool, true, false, cond, List, [], ◌∷◌, Option, Some, None, Ok, inl, inr, refl, sym, ap, ◌∙◌}
use Rattle.std.specs.Prelude.{◌&&◌, ◌==◌, find, is_some, option_map, option_and_then}
use Rattle.std.proofs.lemmas.Bool.{and_parts, eqb-true}
use Rattle.usb_types.specs.declared.urb.UrbId.{UrbId}
use Rattle.usb_desc.specs.declared.tree.ConfigTree.{ConfigTree}
use Rattle.usb_desc.specs.declared.tree.Alt.{Alt}
use Rattle.usb_ctrl.specs.declared.enumerator.Attached.{Attached}
use Rattle.usb_bind.specs.declared.row.Driver.{Driver}
use Rattle.usb_bind.specs.declared.row.Driver.TheVariants.{Keyboard, Acm, Printer}
use Rattle.usb_bind.specs.declared.row.IdRow.{IdRow}
use Rattle.usb_bind.specs.declared.bound.Bound.{Bound}
use Rattle.usb_bind.specs.declared.plan.Plan.{Plan}
use Rattle.usb_bind.specs.Interfaces.{interface_at}
use Rattle.usb_bind.specs.Needs.{data_interface, data_of, other_of}
use Rattle.usb_bind.specs.Board.{BoardValue, attached_at, is_there, AreThere, MayJoin}
use Rattle.usb_bind.specs.Probe.{other_holder, planned}
use Rattle.usb_bind.proofs.Bindings.{has_cases}
use Rattle.usb_bind.proofs.Placed.{data_there}
use Rattle.usb_bind.proofs.Probing.{planned_says}

-- an interface that is found is there
there_from : (board : BoardValue) (device interface : ℕ) (a : Attached) (alt : Alt) → attached_at board device ≡ Some a
    → interface_at a.config interface ≡ Some alt → is_there board device interface ≡ true
there_from board device interface a alt attached found =
    ap (λ o. is_some (option_and_then (λ (a : Attached). interface_at a.config interface) o)) attached ∙ ap is_some found

-- an interface that is found has its number
passes_by : (test : Alt → Bool) (b : Alt) (alts : List Alt) (a : Alt) (t : Bool) → test b ≡ t → cond t (Some b) (find test alts) ≡ Some a
    → (find test alts ≡ Some a → test a ≡ true) → test a ≡ true
passes_by test b alts a true is h rest = let same : b ≡ a = cc in ap test (sym same) ∙ is
passes_by test b alts a false is h rest = rest h

alt_passes : (test : Alt → Bool) (alts : List Alt) (a : Alt) → find test alts ≡ Some a → test a ≡ true
alt_passes test [] a h = absurd cc
alt_passes test (b ∷ alts) a h = passes_by test b alts a (test b) refl h (alt_passes test alts a)

number_is : (config : ConfigTree) (number : ℕ) (a : Alt) → interface_at config number ≡ Some a → a.number ≡ number
number_is config number a h =
    eqb-true a.number number (and_parts (a.setting == 0) (a.number == number) (alt_passes (λ (a : Alt). a.setting == 0 && a.number == number) config.alts a h)).1

data_is : (config : ConfigTree) (alt : Alt) (n : ℕ) (o : Option Alt) → data_of config alt ≡ o → option_map (λ (a : Alt). a.number) o ≡ Some n
    → (d : Alt) × (interface_at config n ≡ Some d)
data_is config alt n None is h = absurd cc
data_is config alt n (Some d) is h =
    let there = data_there config alt d (data_interface alt == alt.number) is in
    let same : d.number ≡ n = cc in
    (d, ap (interface_at config) (sym same ∙ number_is config (data_interface alt) d there) ∙ there)

other_there : (driver : Driver) (config : ConfigTree) (alt : Alt) (n : ℕ) → other_of driver config alt ≡ Some n → (d : Alt) × (interface_at config n ≡ Some d)
other_there Keyboard config alt n h = absurd cc
other_there Acm config alt n h = data_is config alt n (data_of config alt) refl h
other_there Printer config alt n h = absurd cc

pub plan_may_join : (board : BoardValue) (spare : ℕ) (rows : List IdRow) (device interface : ℕ) (plan : Plan) (urbs : List (Option UrbId))
    → planned board spare rows device interface ≡ Ok plan
    → MayJoin board (record { driver = plan.driver; device = device; interface = interface; other = plan.other; urbs = urbs })
plan_may_join board spare rows device interface plan urbs h =
    let says = planned_says board spare rows device interface plan h in
    let b : Bound = record { driver = plan.driver; device = device; interface = interface; other = plan.other; urbs = urbs } in
    let other : plan.other ≡ other_of says.row.driver says.attached.config says.alt = ap (λ (p : Plan). p.other) says.is in
    let there : AreThere board b = λ i has.
    elim (has_cases device i b has).1 [
      | inl own ↦ ap (is_there board device) (sym own) ∙ there_from board device interface says.attached says.alt says.device_there says.interface_there
      | inr is ↦ let found = other_there says.row.driver says.attached.config says.alt i (sym other ∙ is) in
          there_from board device i says.attached found.0 says.device_there found.1
    ] in
    record { there = there; own = says.free; other = ap (other_holder board device) other ∙ says.other_free }

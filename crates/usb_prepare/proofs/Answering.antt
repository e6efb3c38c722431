-- The requests of a probe, one after another.
use Rattle.std.proofs.Common.{ℕ, ◌≡◌, Bool, true, false, not, cond, Option, Some, List, [], ◌∷◌, ◌++◌, take, refl, sym, ap, ◌∙◌, subst}
use Rattle.usb_ctrl.specs.declared.setup.Setup.{Setup}
use Rattle.usb_xfer.specs.Direction.{goes_in}
use Rattle.usb_xfer.specs.Replies.{Reply, Ask, control_heard, HearsControl}
use Rattle.usb_xfer.specs.declared.script.What.TheVariants.{Ack, Nak, Stall, Error, Packet}
use Rattle.usb_xfer.specs.declared.device.CtrlReply.{CtrlReply}
use Rattle.usb_device.specs.declared.scripted.Scripted.{Scripted}
use Rattle.usb_device.specs.Device.{reply_to, Stands}
use Rattle.usb_device.specs.Replied.{Replied}
use Rattle.usb_bind.specs.declared.row.Driver.{Driver}
use Rattle.usb_bind.specs.declared.row.Driver.TheVariants.{Keyboard, Acm, Printer}
use Rattle.usb_prepare.specs.Probing.{to_interface, id_request, requests_of, asking, ends_probe, Asked, ask_each, goes_on, Asks, AsksEach, TellsId}

-- the host hears whether the probe goes on
goes_heard : (b : Bool) (n : ℕ) (r : Reply) → not (ends_probe r) ≡ goes_on (control_heard b n r)
goes_heard true n Ack = refl
goes_heard true n Nak = refl
goes_heard true n Stall = refl
goes_heard true n Error = refl
goes_heard true n (Packet bytes) = refl
goes_heard false n Ack = refl
goes_heard false n Nak = refl
goes_heard false n Stall = refl
goes_heard false n Error = refl
goes_heard false n (Packet bytes) = refl

pub asks : (old new : Scripted) (setup : Setup) (r : Reply) (room after : List ℕ) (told : CtrlReply) (goes : Bool) → Replied old 0 (Ask setup []) r new → HearsControl setup [] r room after told → goes ≡ goes_on told
    → Asks old setup goes new
asks old new setup r room after told goes replied hears is script calls stands =
    (ap (λ x. not (ends_probe x)) (sym (replied.due script calls stands)) ∙ (goes_heard (goes_in setup.kind) 0 r ∙ (ap goes_on (sym hears.heard) ∙ sym is)), replied.heard script calls stands)

goes_false : (b : Bool) → not b ≡ true → b ≡ false
goes_false true e = sym e
goes_false false e = refl

goes_true : (b : Bool) → not b ≡ false → b ≡ true
goes_true true e = refl
goes_true false e = sym e

module _ (old mid : Scripted) (setup : Setup) (setups : List Setup) where
  -- the first request ends the probe
  pub first_ends : Asks old setup false mid → AsksEach old (setup ∷ setups) false mid
  first_ends asked script calls stands =
      let one = asked script calls stands in
      let ends = goes_true (ends_probe (reply_to script calls (asking setup))) one.0 in
      let is : ask_each script calls (setup ∷ setups) ≡ record { calls = calls ++ asking setup ∷ []; answered = false } =
      ap (λ b. cond b (record { calls = calls ++ asking setup ∷ []; answered = false }) (ask_each script (calls ++ asking setup ∷ []) setups)) ends in
      (ap (λ (a : Asked). a.answered) is, subst (Stands mid script) (sym (ap (λ (a : Asked). a.calls) is)) one.1)

  -- or the others are asked
  pub first_passes : (new : Scripted) (answered : Bool) → Asks old setup true mid → AsksEach mid setups answered new → AsksEach old (setup ∷ setups) answered new
  first_passes new answered asked others script calls stands =
      let one = asked script calls stands in
      let goes = goes_false (ends_probe (reply_to script calls (asking setup))) one.0 in
      let is : ask_each script calls (setup ∷ setups) ≡ ask_each script (calls ++ asking setup ∷ []) setups =
      ap (λ b. cond b (record { calls = calls ++ asking setup ∷ []; answered = false }) (ask_each script (calls ++ asking setup ∷ []) setups)) goes in
      let rest = others script (calls ++ asking setup ∷ []) one.1 in
      (ap (λ (a : Asked). a.answered) is ∙ rest.0, subst (Stands new script) (sym (ap (λ (a : Asked). a.calls) is)) rest.1)

pub none_asked : (device : Scripted) → AsksEach device [] true device
none_asked device script calls stands = (refl, stands)

-- one request alone
pub one_asked : (old new : Scripted) (setup : Setup) (answered : Bool) → Asks old setup answered new → AsksEach old (setup ∷ []) answered new
one_asked old new setup true asked = first_passes old new setup [] new true asked (none_asked new)
one_asked old new setup false asked = first_ends old new setup [] asked

-- the requests of a keyboard's probe
module _ (old mid : Scripted) (i : ℕ) where
  pub keyboard_ends : (a : Setup) (b : Bool) → a ≡ to_interface 0x21 0x0B 0 i 0 → Asks old a b mid → b ≡ false → AsksEach old (requests_of Keyboard i) b mid
  keyboard_ends a b first asked ends =
      subst (λ c. AsksEach old (requests_of Keyboard i) c mid) (sym ends)
      (first_ends old mid (to_interface 0x21 0x0B 0 i 0) (to_interface 0x21 0x0A 0 i 0 ∷ []) (subst (λ s. Asks old s false mid) first (subst (λ c. Asks old a c mid) ends asked)))

  pub keyboard_both : (new : Scripted) (a e : Setup) (b c : Bool) → a ≡ to_interface 0x21 0x0B 0 i 0 → e ≡ to_interface 0x21 0x0A 0 i 0 → Asks old a b mid → b ≡ true → Asks mid e c new → AsksEach old (requests_of Keyboard i) c new
  keyboard_both new a e b c first second asked passes others =
      first_passes old mid (to_interface 0x21 0x0B 0 i 0) (to_interface 0x21 0x0A 0 i 0 ∷ []) new c
      (subst (λ s. Asks old s true mid) first (subst (λ c. Asks old a c mid) passes asked))
      (one_asked mid new (to_interface 0x21 0x0A 0 i 0) c (subst (λ s. Asks mid s c new) second others))

module _ (old new : Scripted) (driver : Driver) (i : ℕ) where
  pub keyboard_asked : (b c : Bool) → driver ≡ Keyboard → AsksEach old (requests_of Keyboard i) b new → b ≡ c → AsksEach old (requests_of driver i) c new
  keyboard_asked b c is asked same = subst (λ d. AsksEach old (requests_of d i) c new) (sym is) (subst (λ x. AsksEach old (requests_of Keyboard i) x new) same asked)

  pub acm_asked : driver ≡ Acm → AsksEach old (requests_of driver i) true old
  acm_asked is = subst (λ d. AsksEach old (requests_of d i) true old) (sym is) (none_asked old)

  pub printer_asked : (b : Bool) → driver ≡ Printer → Asks old (id_request i) b new → AsksEach old (requests_of driver i) b new
  printer_asked b is asked = subst (λ d. AsksEach old (requests_of d i) b new) (sym is) (one_asked old new (id_request i) b asked)

-- the id that a driver is given
none_taken : (room : List ℕ) → take 0 room ≡ []
none_taken [] = refl
none_taken (x ∷ room) = refl

module _ (old : Scripted) (driver : Driver) (i : ℕ) (room : List ℕ) where
  pub keyboard_tells : driver ≡ Keyboard → TellsId old driver i (Some 0) room
  keyboard_tells is = subst (λ d. TellsId old d i (Some 0) room) (sym is) (λ script calls stands fits. none_taken room)

  pub acm_tells : driver ≡ Acm → TellsId old driver i (Some 0) room
  acm_tells is = subst (λ d. TellsId old d i (Some 0) room) (sym is) (λ script calls stands fits. none_taken room)

  pub printer_tells : (count : Option ℕ) → driver ≡ Printer → TellsId old Printer i count room → TellsId old driver i count room
  printer_tells count is tells = subst (λ d. TellsId old d i count room) (sym is) tells

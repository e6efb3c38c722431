use Rattle.std.proofs.Common.{ℕ, ◌≡◌, ◌∙◌, Option, Some, None, Result, Ok, Err, [], ◌∷◌, ◌++◌, refl, sym, subst, arith, false, IfOk}
use Rattle.usb_ctrl.specs.declared.fault.EnumFault.{EnumFault}
use Rattle.usb_ctrl.specs.declared.enumerator.Attached.{Attached}
use Rattle.usb_device.specs.Device.{Stands}
use Rattle.std.specs.Option.{ok_or}
use Rattle.usb_ctrl.specs.Requests.{asks}
use Rattle.usb_ctrl.specs.Enumeration.{end_of}
use Rattle.usb_prepare.specs.Probing.{asking}
use Rattle.usb_prepare.specs.Requests.{is_memory, IsAt, GoesOn}
use Rattle.usb_prepare.proofs.Turns.{first_live, started, asked_left, fault_found, fault_heard, end_found, end_heard}
use Rattle.usb_prepare.proofs.enumeration.enumerate.Goals as goal

pub loop-setup-init : goal.loop-setup-init
loop-setup-init c = record {
  address_so = c.new-enumerator.ensures.address;
  room_so = refl;
  live_so = first_live c.args.address c.new-enumerator.result.stage c.new-enumerator.ensures.answers;
  at = λ script stands own. (0, [], stands, started script c.args.address c.new-enumerator.result.stage c.new-enumerator.ensures.answers);
}

if_ok : {X E : Type 0} (P Q : X → Type 0) (r : Result X E) → ((x : X) → P x → Q x) → IfOk r P → IfOk r Q
if_ok P Q (Ok x) f is = f x is
if_ok P Q (Err e) f is = is

ok_some : {X E : Type 0} (o : Option X) (e : E) (x : X) → ok_or o e ≡ Ok x → o ≡ Some x
ok_some None e x is = cc
ok_some (Some y) e x is = cc

pub returns-in-Err-clause-found : goal.returns-in-Err-clause-found
returns-in-Err-clause-found c = if_ok _ _ c.ended.result
    (λ (told : Result Attached EnumFault) (is : (told ≡ Err c.in-Err.fault) × (is_memory c.in-Err.fault ≡ false)) script stands own.
    let at = c.loop-setup.invariant.at script stands own in
    let so = c.loop-setup.invariant.address_so in
    let here = subst (λ (a : ℕ). IsAt script a at.0 c.loop-setup.enumerator.stage at.1) (sym so) at.3 in
    let more = asked_left c.loop-setup.enumerator.address c.loop-setup.enumerator.stage c.in-Some.setup (sym c.next.ensures ∙ c.in-Some.is) in
    let place = at.3.place in
    let goes = c.ask_next.ensures.goes script at.1 at.0 at.2 own here in
    fault_found script c.args.address at.0 c.ask_next.new.enumerator.stage (at.1 ++ asking c.in-Some.setup ∷ []) c.in-Err.fault told (omega arith)
    (subst (λ (a : ℕ). GoesOn script a at.0 c.ask_next.new.enumerator.stage (at.1 ++ asking c.in-Some.setup ∷ []) (Err c.in-Err.fault)) so (subst (GoesOn script c.loop-setup.enumerator.address at.0 c.ask_next.new.enumerator.stage (at.1 ++ asking c.in-Some.setup ∷ [])) c.in-Err.is goes)) is.0 is.1)
    c.ended.ensures

pub returns-in-Err-clause-heard : goal.returns-in-Err-clause-heard
returns-in-Err-clause-heard c = if_ok _ _ c.ended.result
    (λ (told : Result Attached EnumFault) (is : (told ≡ Err c.in-Err.fault) × (is_memory c.in-Err.fault ≡ false)) script stands own.
    let at = c.loop-setup.invariant.at script stands own in
    let so = c.loop-setup.invariant.address_so in
    let here = subst (λ (a : ℕ). IsAt script a at.0 c.loop-setup.enumerator.stage at.1) (sym so) at.3 in
    let more = asked_left c.loop-setup.enumerator.address c.loop-setup.enumerator.stage c.in-Some.setup (sym c.next.ensures ∙ c.in-Some.is) in
    let place = at.3.place in
    let goes = c.ask_next.ensures.goes script at.1 at.0 at.2 own here in
    let all = fault_heard script c.args.address at.0 c.ask_next.new.enumerator.stage (at.1 ++ asking c.in-Some.setup ∷ []) c.in-Err.fault (omega arith)
    (subst (λ (a : ℕ). GoesOn script a at.0 c.ask_next.new.enumerator.stage (at.1 ++ asking c.in-Some.setup ∷ []) (Err c.in-Err.fault)) so (subst (GoesOn script c.loop-setup.enumerator.address at.0 c.ask_next.new.enumerator.stage (at.1 ++ asking c.in-Some.setup ∷ [])) c.in-Err.is goes)) is.1 in
    subst (Stands c.ask_next.new.device script) all (c.ask_next.ensures.heard script at.1 at.2))
    c.ended.ensures

pub returns-clause-found : goal.returns-clause-found
returns-clause-found c script stands own =
    let at = c.loop-setup.invariant.at script stands own in
    let so = c.loop-setup.invariant.address_so in
    let none = sym c.next.ensures ∙ c.in_default.is in
    let end = ok_some (end_of c.loop-setup.enumerator.address c.loop-setup.enumerator.stage) _ c.in-Ok.attached (sym c.finish.ensures ∙ c.in-Ok.is) in
    end_found script c.args.address at.0 c.loop-setup.enumerator.stage at.1 c.in-Ok.attached at.3
    (subst (λ (a : ℕ). asks a c.loop-setup.enumerator.stage ≡ None) so none)
    (subst (λ (a : ℕ). end_of a c.loop-setup.enumerator.stage ≡ Some c.in-Ok.attached) so end)

pub returns-clause-heard : goal.returns-clause-heard
returns-clause-heard c script stands own =
    let at = c.loop-setup.invariant.at script stands own in
    let so = c.loop-setup.invariant.address_so in
    let none = sym c.next.ensures ∙ c.in_default.is in
    subst (Stands c.loop-setup.device script) (end_heard script c.args.address at.0 c.loop-setup.enumerator.stage at.1 at.3 (subst (λ (a : ℕ). asks a c.loop-setup.enumerator.stage ≡ None) so none)) at.2

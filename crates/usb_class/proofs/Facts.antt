-- What the run of a scene needs to know of drivers: when a transfer goes again, with which window, and which URB has which purpose.
use Rattle.std.proofs.Common.{ℕ, ◌≡◌, ◌+◌, ◌<◌, ◌≤◌, true≢false, Bool, true, false, cond, eqb, Option, Some, None, List, [], ◌∷◌, length, refl, sym, ap, subst, arith}
use Rattle.std.specs.Prelude.{◌*◌, find, option_map, option_and_then}
use Rattle.std.specs.Option.{option_map_or}
use Rattle.std.proofs.lemmas.Nat.{mod_below}
use Rattle.std.proofs.lemmas.Bool.{eqb-true, eqb-false}
use Rattle.usb_types.specs.declared.errno.Errno.TheVariants.{EPROTO, EOVERFLOW}
use Rattle.usb_types.specs.declared.errno.Code.{Code}
use Rattle.usb_types.specs.declared.errno.Code.TheVariants.{Zero, Fault}
use Rattle.usb_types.specs.declared.urb.Why.{Why}
use Rattle.usb_types.specs.declared.urb.Why.TheVariants.{Unlink, Kill, Shutdown}
use Rattle.usb_types.specs.declared.urb.UrbId.{UrbId}
use Rattle.usb_types.specs.declared.urb.Role.{Role}
use Rattle.usb_types.specs.declared.urb.Role.TheVariants.{In, Note, Read0, Read1, Write, Ctl}
use Rattle.usb_types.specs.declared.urb.Action.{Action}
use Rattle.usb_types.specs.declared.urb.Action.TheVariants.{Rest, Again, Ask}
use Rattle.usb_types.specs.Codes.{errno_of}
use Rattle.usb_machine.specs.declared.transfer.Transfer.{Transfer}
use Rattle.usb_machine.specs.Shapes.{HasWindow}
use Rattle.usb_machine.specs.Completion.{Completion, after_window, read_again}
use Rattle.usb_desc.specs.declared.tree.ConfigTree.{ConfigTree}
use Rattle.usb_desc.specs.declared.tree.Alt.{Alt}
use Rattle.usb_desc.specs.declared.tree.End.{End}
use Rattle.usb_ctrl.specs.declared.enumerator.Attached.{Attached}
use Rattle.usb_bind.specs.declared.row.Driver.{Driver}
use Rattle.usb_bind.specs.declared.row.Driver.TheVariants.{Keyboard, Acm, Printer}
use Rattle.usb_bind.specs.declared.bound.Bound.{Bound}
use Rattle.usb_bind.specs.Board.{BoardValue, attached_at, urb_by, urb_of_role}
use Rattle.usb_bind.specs.Interfaces.{interface_at, packet_size}
use Rattle.usb_bind.specs.Needs.{end_for, read_size}
use Rattle.usb_class.specs.declared.class_core.Core.{Core}
use Rattle.usb_class.specs.declared.class_core.Core.TheVariants.{Keyboard as KeyboardCore, Acm as AcmCore, Printer as PrinterCore}
use Rattle.usb_printer.specs.Jobs.{first_window, is_unlink}
use Rattle.usb_printer.specs.Requests.{question_of}
use Rattle.usb_class.specs.Origin.{Origin}
use Rattle.usb_class.specs.Questions.{question_by}
use Rattle.usb_scene.specs.declared.operation.InterfaceOp.{InterfaceOp}
use Rattle.usb_scene.specs.declared.operation.InterfaceOp.TheVariants as op
use Rattle.usb_class.specs.InterfaceOps.{role_for, setup_for}
use Rattle.usb_class.specs.Roles.{all_roles, has_for, role_in, kept_size}
use Rattle.usb_class.specs.Handler.{action_of, window_by, goes_on, is_ctl}
use Rattle.usb_class.specs.Core.{IsCore, IsOfDriver, CanComplete}

abbrev pub is_write : Role → Bool
is_write Write = true
is_write role = false

parts : (t : Transfer) (from len : ℕ) → Again 0 (length t.buf) ≡ Again from len → (from ≡ 0) × (len ≡ length t.buf)
parts t from len is = (cc, cc)

-- a read goes again from the start of its buffer, with all of it
goes_again_whole : (status : Code) (t : Transfer) (from len : ℕ) → read_again status t ≡ Again from len → (from ≡ 0) × (len ≡ length t.buf) × (goes_on status ≡ true)
goes_again_whole Zero t from len is = let p = parts t from len is in (p.0, p.1, refl)
goes_again_whole (Fault EPROTO) t from len is = let p = parts t from len is in (p.0, p.1, refl)
goes_again_whole (Fault EOVERFLOW) t from len is = let p = parts t from len is in (p.0, p.1, refl)
goes_again_whole status t from len is = absurd cc

pub again_reads : (driver : Driver) (role : Role) (status : Code) (t : Transfer) (from len : ℕ) → action_of driver role status t ≡ Again from len → is_write role ≡ false
    → (from ≡ 0) × (len ≡ length t.buf) × (goes_on status ≡ true)
again_reads driver Write status t from len is off = absurd (true≢false off)
again_reads Keyboard In status t from len is off = goes_again_whole status t from len is
again_reads Acm Note status t from len is off = goes_again_whole status t from len is
again_reads Acm Read0 status t from len is off = goes_again_whole status t from len is
again_reads Acm Read1 status t from len is off = goes_again_whole status t from len is
again_reads Keyboard Ctl status t from len is off = absurd cc
again_reads Acm Ctl status t from len is off = absurd cc
again_reads Printer Ctl status t from len is off = absurd cc
again_reads driver role status t from len is off = absurd cc

-- a job goes on after its window, with some of what is left
job_again : (t : Transfer) (from len : ℕ) (b : Bool) → eqb (after_window t) 0 ≡ b → cond b Rest (Again (t.from + t.len) (first_window (after_window t))) ≡ Again from len
    → (from ≡ t.from + t.len) × (from + len ≤ length t.buf) × (0 < len)
job_again t from len true e is = absurd cc
job_again t from len false e is =
    let start : t.from + t.len ≡ from = cc in
    let size : first_window (after_window t) ≡ len = cc in
    let some = eqb-false (after_window t) 0 e in
    let more : 0 < after_window t = grind arith in
    (sym start, omega arith, omega arith)

pub again_writes : (driver : Driver) (status : Code) (t : Transfer) (from len : ℕ) → action_of driver Write status t ≡ Again from len
    → (from ≡ t.from + t.len) × (from + len ≤ length t.buf) × (0 < len)
again_writes Printer Zero t from len is = job_again t from len (eqb (after_window t) 0) refl is
again_writes Printer (Fault c) t from len is = go (is_unlink c) is
  where
    go : (b : Bool) → cond b Rest Ask ≡ Again from len → (from ≡ t.from + t.len) × (from + len ≤ length t.buf) × (0 < len)
    go true e = absurd cc
    go false e = absurd cc
again_writes driver status t from len is = absurd cc

-- what goes again is none of endpoint zero
pub again_packets : (driver : Driver) (role : Role) (status : Code) (t : Transfer) (from len : ℕ) → action_of driver role status t ≡ Again from len → is_ctl role ≡ false
again_packets driver In status t from len is = refl
again_packets driver Note status t from len is = refl
again_packets driver Read0 status t from len is = refl
again_packets driver Read1 status t from len is = refl
again_packets driver Write status t from len is = refl
again_packets Keyboard Ctl status t from len is = absurd cc
again_packets Acm Ctl status t from len is = absurd cc
again_packets Printer Ctl status t from len is = absurd cc

-- the window that it then has lies in the buffer
pub again_within : (driver : Driver) (role : Role) (status : Code) (t : Transfer) (from len : ℕ) → action_of driver role status t ≡ Again from len → (b : Bool) → is_write role ≡ b → from + len ≤ length t.buf
again_within driver Write status t from len is true e = (again_writes driver status t from len is).1
again_within driver role status t from len is true e = absurd (true≢false (sym e))
again_within driver role status t from len is false e = let p = again_reads driver role status t from len is e in let start = p.0 in let all = p.1 in omega arith

-- the window that a driver asks for lies in the buffer
pub window_kept : (driver : Driver) (role : Role) (status : Code) (t : Transfer) → HasWindow t → HasWindow (window_by (action_of driver role status t) t)
window_kept driver role status t has = go (action_of driver role status t) refl
  where
    go : (action : Action) → action_of driver role status t ≡ action → HasWindow (window_by action t)
    go Rest e = record { window = has.window; buffer = has.buffer; within = grind arith }
    go Ask e = record { window = has.window; buffer = has.buffer; within = grind arith }
    go (Again from len) e = record { window = again_within driver role status t from len e (is_write role) refl; buffer = has.buffer; within = grind arith }

read_asks : {X : Type 0} (status : Code) (t : Transfer) → read_again status t ≡ Ask → X
read_asks Zero t is = absurd cc
read_asks (Fault EPROTO) t is = absurd cc
read_asks (Fault EOVERFLOW) t is = absurd cc
read_asks status t is = absurd cc

-- only a printer's driver asks, after a job
pub asks_by : (driver : Driver) (role : Role) (status : Code) (t : Transfer) → action_of driver role status t ≡ Ask → (driver ≡ Printer) × (role ≡ Write)
asks_by Printer Write status t is = (refl, refl)
asks_by Printer In status t is = absurd cc
asks_by Printer Note status t is = absurd cc
asks_by Printer Read0 status t is = absurd cc
asks_by Printer Read1 status t is = absurd cc
asks_by Printer Ctl status t is = absurd cc
asks_by Keyboard In status t is = read_asks status t is
asks_by Acm Note status t is = read_asks status t is
asks_by Acm Read0 status t is = read_asks status t is
asks_by Acm Read1 status t is = read_asks status t is
asks_by driver role status t is = absurd cc

-- what was unlinked rests
pub unlinked_rests : (driver : Driver) (role : Role) (why : Why) (t : Transfer) → action_of driver role (Fault (errno_of why)) t ≡ Rest
unlinked_rests Keyboard In Unlink t = refl
unlinked_rests Keyboard In Kill t = refl
unlinked_rests Keyboard In Shutdown t = refl
unlinked_rests Acm Note Unlink t = refl
unlinked_rests Acm Note Kill t = refl
unlinked_rests Acm Note Shutdown t = refl
unlinked_rests Acm Read0 Unlink t = refl
unlinked_rests Acm Read0 Kill t = refl
unlinked_rests Acm Read0 Shutdown t = refl
unlinked_rests Acm Read1 Unlink t = refl
unlinked_rests Acm Read1 Kill t = refl
unlinked_rests Acm Read1 Shutdown t = refl
unlinked_rests Printer Write Unlink t = refl
unlinked_rests Printer Write Kill t = refl
unlinked_rests Printer Write Shutdown t = refl
unlinked_rests Keyboard Note why t = refl
unlinked_rests Keyboard Read0 why t = refl
unlinked_rests Keyboard Read1 why t = refl
unlinked_rests Keyboard Write why t = refl
unlinked_rests Keyboard Ctl why t = refl
unlinked_rests Acm In why t = refl
unlinked_rests Acm Write why t = refl
unlinked_rests Acm Ctl why t = refl
unlinked_rests Printer In why t = refl
unlinked_rests Printer Note why t = refl
unlinked_rests Printer Read0 why t = refl
unlinked_rests Printer Read1 why t = refl
unlinked_rests Printer Ctl why t = refl

-- a read is short: a packet has fewer than 2,048 bytes
packet_few : (e : End) → packet_size e < 2048
packet_few e = mod_below e.max_packet 2048 (omega arith)

end_few : (f : End → ℕ) (n : ℕ) → ((e : End) → f e < 4096) → (o : Option End) → option_map f o ≡ Some n → n < 4096
end_few f n few None is = cc
end_few f n few (Some e) is = let same : f e ≡ n = cc in subst (λ (m : ℕ). m < 4096) same (few e)

read_few : (driver : Driver) (config : ConfigTree) (alt : Alt) (role : Role) (n : ℕ) → read_size driver config alt role ≡ Some n → n < 4096
read_few driver config alt In n is = let same : 8 ≡ n = cc in omega arith
read_few driver config alt Note n is = end_few packet_size n (λ e. let l = packet_few e in omega arith) (end_for driver config alt Note) is
read_few driver config alt Read0 n is = end_few (λ e. 2 * packet_size e) n (λ e. let l = packet_few e in omega arith) (end_for driver config alt Read0) is
read_few driver config alt Read1 n is = end_few (λ e. 2 * packet_size e) n (λ e. let l = packet_few e in omega arith) (end_for driver config alt Read1) is
read_few driver config alt Write n is = cc
read_few driver config alt Ctl n is = cc

pub kept_few : (board : BoardValue) (b : Bound) (role : Role) (n : ℕ) → kept_size board b role ≡ Some n → n < 4096
kept_few board b role n is = go (attached_at board b.device) is
  where
    at : (config : ConfigTree) (alt : Option Alt) → option_and_then (λ (alt : Alt). read_size b.driver config alt role) alt ≡ Some n → n < 4096
    at config None is = cc
    at config (Some alt) is = read_few b.driver config alt role n is

    go : (a : Option Attached) → option_and_then (λ (a : Attached). option_and_then (λ (alt : Alt). read_size b.driver a.config alt role) (interface_at a.config b.interface)) a ≡ Some n → n < 4096
    go None is = cc
    go (Some a) is = at a.config (interface_at a.config b.interface) is

-- what is found passes the test
passes : {X : Type 0} (p : X → Bool) (xs : List X) (x : X) → find p xs ≡ Some x → p x ≡ true
passes p [] x is = absurd cc
passes p (y ∷ xs) x is = go (p y) refl is (passes p xs x)
  where
    go : (b : Bool) → p y ≡ b → cond b (Some y) (find p xs) ≡ Some x → (find p xs ≡ Some x → p x ≡ true) → p x ≡ true
    go true e f rest = let same : y ≡ x = cc in subst (λ z. p z ≡ true) same e
    go false e f rest = rest f

it_has : (u : ℕ) (o : Option UrbId) → option_map_or (λ (urb : UrbId). eqb urb.0 u) o false ≡ true → o ≡ Some (record { 0 = u })
it_has u None is = absurd cc
it_has u (Some urb) is = let same : urb.0 ≡ u = eqb-true urb.0 u is in ap (λ (n : ℕ). Some (id n)) same
  where
    id : ℕ → UrbId
    id n = record { 0 = n }

-- the binding has the URB for the purpose that is found
pub role_has : (u : ℕ) (b : Bound) (role : Role) → role_in u b ≡ Some role → urb_of_role b role ≡ Some (record { 0 = u })
role_has u b role is = it_has u (urb_of_role b role) (passes (has_for u b) all_roles role is)

-- a driver has an URB only for its own purposes
urb_of_driver : (driver : Driver) (b : Bound) (role : Role) (urb : UrbId) → urb_by driver b role ≡ Some urb → IsOfDriver driver role
urb_of_driver Keyboard b In urb is = tt
urb_of_driver Keyboard b Ctl urb is = tt
urb_of_driver Acm b Note urb is = tt
urb_of_driver Acm b Read0 urb is = tt
urb_of_driver Acm b Read1 urb is = tt
urb_of_driver Acm b Write urb is = tt
urb_of_driver Acm b Ctl urb is = tt
urb_of_driver Printer b Write urb is = tt
urb_of_driver Printer b Ctl urb is = tt
urb_of_driver driver b role urb is = absurd cc

pub role_is_of_driver : (u : ℕ) (b : Bound) (role : Role) → role_in u b ≡ Some role → IsOfDriver b.driver role
role_is_of_driver u b role is = urb_of_driver b.driver b role (record { 0 = u }) (role_has u b role is)

-- an URB of the driver may come back to the driver's core
pub can_complete : (driver : Driver) (o : Origin) (done : List Completion) (core : Core) (role : Role) → IsCore driver o done core → IsOfDriver driver role → CanComplete core role
can_complete Keyboard o done (KeyboardCore kept) role is of = of
can_complete Acm o done (AcmCore kept) role is of = of
can_complete Printer o done (PrinterCore kept) role is of = of
can_complete driver o done core role is of = absurd is

-- what a call sends on the URB for a purpose: a request of the class on endpoint zero, and else no setup packet
abbrev pub IsRequest : Role → Option (List ℕ) → Type 0
IsRequest Ctl setup = (kind : ℕ) × (rest : List ℕ) × (setup ≡ Some (kind ∷ rest)) × (eqb kind 2 ≡ false)
IsRequest role setup = setup ≡ None

pub call_request : (asked : InterfaceOp) (driver : Driver) (r : Role) (i : ℕ) → role_for asked driver ≡ Some r → IsRequest r (setup_for asked i)
call_request (op.Led lights) Keyboard r i is = let same : Ctl ≡ r = cc in subst (λ r. IsRequest r (setup_for (op.Led lights) i)) same (0x21, _, refl, refl)
call_request op.Write Acm r i is = let same : Write ≡ r = cc in subst (λ r. IsRequest r (setup_for op.Write i)) same refl
call_request (op.Coding rate stop parity bits) Acm r i is = let same : Ctl ≡ r = cc in subst (λ r. IsRequest r (setup_for (op.Coding rate stop parity bits) i)) same (0x21, _, refl, refl)
call_request (op.Control lines) Acm r i is = let same : Ctl ≡ r = cc in subst (λ r. IsRequest r (setup_for (op.Control lines) i)) same (0x21, _, refl, refl)
call_request (op.SendBreak ms) Acm r i is = let same : Ctl ≡ r = cc in subst (λ r. IsRequest r (setup_for (op.SendBreak ms) i)) same (0x21, _, refl, refl)
call_request op.Print Printer r i is = let same : Write ≡ r = cc in subst (λ r. IsRequest r (setup_for op.Print i)) same refl
call_request op.Status Printer r i is = let same : Ctl ≡ r = cc in subst (λ r. IsRequest r (setup_for op.Status i)) same (0xA1, _, refl, refl)
call_request op.SoftReset Printer r i is = let same : Ctl ≡ r = cc in subst (λ r. IsRequest r (setup_for op.SoftReset i)) same (0x21, _, refl, refl)
call_request _ _ r i is = absurd cc

-- a driver's question: a printer's, with its window, of which nothing is moved, and after which nothing stands
pub record IsAskable (driver : Driver) (t : Transfer) : Type 0 where
  pub printer : driver ≡ Printer
  pub window : HasWindow t
  pub unmoved : t.actual ≡ 0
  pub request : IsRequest Ctl t.setup
  pub all : length t.buf ≡ t.from + t.len

pub question_is : (number interface : ℕ) (t : Transfer) → question_of number interface ≡ t → IsAskable Printer t
question_is number interface t is = subst (IsAskable Printer) is record {
  printer = refl;
  window = record { window = omega arith; buffer = omega arith; within = omega arith };
  unmoved = refl;
  request = (0xA1, _, refl, refl);
  all = refl;
}

pub question_askable : (driver : Driver) (o : Origin) (t : Transfer) → question_by driver o ≡ Some t → IsAskable driver t
question_askable Printer o t is = question_is o.number o.interface t cc
question_askable Keyboard o t is = cc
question_askable Acm o t is = cc

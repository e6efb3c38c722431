-- What moving the first pending transfer of an endpoint leaves of the agreement.
use Rattle.std.proofs.Common.{ℕ, zero, suc, ◌≡◌, ◌≢◌, ◌<◌, ◌⊎◌, Bool, true, false, cond, eqb, Option, Some, None, List, [], ◌∷◌, ◌++◌, length, length-set, refl, sym, ap, ◌∙◌, subst, arith}
use Rattle.std.specs.Prelude.{slice_set, All, Contains}
use Rattle.std.proofs.lemmas.List.Elements.{All-tail, All-cons}
use Rattle.usb_types.specs.declared.errno.Code.{Code}
use Rattle.usb_machine.specs.declared.layout.Shape.{Shape}
use Rattle.usb_machine.specs.declared.transfer.Transfer.{Transfer}
use Rattle.std.proofs.lemmas.Grind.{common_steps}
use Rattle.usb_types.specs.declared.errno.Errno.{Errno}
use Rattle.usb_types.specs.declared.errno.Errno.TheVariants.{EMSGSIZE, EINVAL}
use Rattle.usb_xfer.proofs.Windows.{moved_window}
use Rattle.usb_machine.specs.Shapes.{HasWindow, setup_fault, else_fault, lacks_service, shape_fault}
use Rattle.usb_xfer.specs.Replies.{Question, Reply}
use Rattle.usb_xfer.specs.declared.packet.Step.{Step}
use Rattle.usb_xfer.specs.declared.packet.Step.TheVariants.{More, Waiting, Ended}
use Rattle.usb_xfer.specs.Moved.{moved_state, state_by, IsOpen}
use Rattle.usb_xfer.specs.On.{Stops}
use Rattle.usb_serve.specs.declared.controller.Held.{Held}
use Rattle.usb_serve.specs.declared.controller.Controller.{Controller}
use Rattle.usb_serve.specs.Knows.{Knows, SamePending, Keeps, FinishesNone, FinishesOnly, Leaves}
use Rattle.usb_serve.specs.Held.{urbs_in, with_held, IsHeld, IsOpenHeld, IsNew, after_first, CleanIsOpen, Agrees}
use Rattle.usb_serve.specs.Serving.{code_of, Moves}
use Rattle.usb_serve.proofs.Agreeing.{each_kept, held_kept, new_kept, all_later, row_urbs, agrees_set}
use Rattle.usb_serve.proofs.Looks.{keeps_then}
use Rattle.usb_serve.proofs.Moving.{moved_number}

open_state : (c : Option Code) (b : Bool) → Waiting ≡ state_by c b → c ≡ None
open_state (Some c) b is = cc
open_state None b is = refl

-- a transfer that waits is open
pub waits_open : (shape : Shape) (t : Transfer) (replies : List Reply) → Waiting ≡ moved_state shape t replies → IsOpen shape t replies
waits_open shape t replies is = open_state _ _ is

-- a step that ended nothing and does not go on waits
pub step_waits : (s : Step) → s ≢ More → code_of s ≡ None → s ≡ Waiting
step_waits More off is = absurd (off refl)
step_waits Waiting off is = refl
step_waits (Ended code) off is = cc

pub step_ended : (s : Step) (code : Code) → code_of s ≡ Some code → s ≡ Ended code
step_ended More code is = cc
step_ended Waiting code is = cc
step_ended (Ended c) code is = let same : c ≡ code = cc in ap Ended same

-- the window of a held transfer lies in its buffer
pub held_window : (k : Knows) (shape : Shape) (h : Held) → IsHeld k shape h → HasWindow h.transfer
held_window k shape h q = subst HasWindow (sym q.moved_so) (moved_window shape q.start q.before q.window)

-- an endpoint that takes a transfer takes packets of a byte or more
pub accepted_size : (shape : Shape) (t : Transfer) → shape_fault shape t ≡ None → 0 < shape.max
accepted_size shape t is = go (setup_fault shape.kind t.setup t.len) (eqb shape.max 0) refl is
  where
    go : (o : Option Errno) (b : Bool) → eqb shape.max 0 ≡ b → else_fault o (cond b (Some EMSGSIZE) (cond (lacks_service shape.kind shape.interval) (Some EINVAL) None)) ≡ None → 0 < shape.max
    go (Some errno) b e f = cc
    go None true e f = cc
    go None false e f = let off : shape.max ≢ 0 = grind (arith, common_steps) in omega arith

module _ {D : Type 0} (replies : D → ℕ → Question → Reply → D → Type 0) (k : Knows) (c : Controller D) (a : Agrees k c) (e : ℕ) (step : Step) (v : Moves replies e c.devices.items c.ends.items step) (o : CleanIsOpen k v.row) where
  pub first_held : IsOpenHeld k v.row.shape v.first
  first_held = o.open_so v.first v.others v.clean v.held

  -- the URB is the first that is pending at its endpoint
  pub first_pending : k.pending e ≡ v.first.urb.0 ∷ urbs_in v.others
  first_pending = sym (row_urbs k k c c a e v.row v.at) ∙ ap urbs_in v.held

  pub among : Contains (k.pending e) v.first.urb.0
  among = subst (λ (us : List ℕ). Contains us v.first.urb.0) (sym first_pending) (zero, omega arith, refl)

  stops : Stops v.row.shape first_held.0.start first_held.0.before v.more v.now step
  stops = v.runs.stops first_held.0.start first_held.0.before first_held.0.window first_held.1 first_held.0.moved_so

  -- the number of what was taken
  pub same_number : (start : Transfer) × k.was_sent v.first.urb.0 start × (v.now.number ≡ start.number)
  same_number = (first_held.0.start, first_held.0.sent, ap (λ (t : Transfer). t.number) stops.transfer ∙ moved_number v.row.shape first_held.0.start (first_held.0.before ++ v.more))

  pub waits_on : step ≡ Waiting → IsOpen v.row.shape first_held.0.start (first_held.0.before ++ v.more)
  waits_on is = waits_open v.row.shape first_held.0.start (first_held.0.before ++ v.more) (sym is ∙ stops.state)

  module _ (new : Knows) (d : Controller D) (whole : new.is_whole) (keeps : Keeps k new) (none : FinishesNone k new) (devices : d.devices.items ≡ slice_set c.devices.items v.row.shape.device v.after) where
    count : length d.devices.items ≡ length c.devices.items
    count = ap length devices ∙ length-set c.devices.items v.row.shape.device v.after

    others_kept : ((u : ℕ) → Contains (urbs_in v.others) u → Contains (new.pending e) u) → All (IsHeld new v.row.shape) v.others
    others_kept still = each_kept (IsHeld k v.row.shape) (IsHeld new v.row.shape) v.others (All-tail (IsHeld k v.row.shape) v.first v.others (subst (All (IsHeld k v.row.shape)) v.held (a.holds.each e v.row v.at)))
        (λ h in_ q. held_kept k new v.row.shape e h keeps none (subst (λ (us : List ℕ). Contains us h.urb.0) (sym first_pending) (let r = in_ in (suc r.0, (let m = r.1 in omega arith), r.2))) (still h.urb.0 in_) q)

    -- the others are as they were taken
    others_new : ((u : ℕ) → Contains (urbs_in v.others) u → Contains (new.pending e) u) → All (IsNew new) v.others
    others_new still = each_kept (IsNew k) (IsNew new) v.others (subst (λ (l : List Held). All (IsNew k) (after_first l)) v.held (a.holds.fresh e v.row v.at))
        (λ h in_ q. new_kept k new e h keeps (subst (λ (us : List ℕ). Contains us h.urb.0) (sym first_pending) (let r = in_ in (suc r.0, (let m = r.1 in omega arith), r.2))) (still h.urb.0 in_) q)

    -- what was moved is pending as before
    pub agrees_moved : (asleep : Bool) → SamePending k new → d.ends.items ≡ slice_set c.ends.items e (record (with_held (record v.first { transfer = v.now } ∷ v.others) v.row) { asleep = asleep })
        → IsOpen v.row.shape first_held.0.start (first_held.0.before ++ v.more) ⊎ new.is_marked v.first.urb.0 → Agrees new d
    agrees_moved asleep same ends going = agrees_set k new c d a whole keeps none e v.row (record (with_held (record v.first { transfer = v.now } ∷ v.others) v.row) { asleep = asleep }) v.at count ends refl refl
        (let l = (a.layout.each e v.row v.at).3 in let n = ap length v.held in omega arith) (sym first_pending ∙ sym (same e)) (λ f off. same f)
        (All-cons (IsHeld new v.row.shape) (record v.first { transfer = v.now }) v.others now_held (others_kept still)) (others_new still)
      where
        still : (u : ℕ) → Contains (urbs_in v.others) u → Contains (new.pending e) u
        still u in_ = subst (λ (us : List ℕ). Contains us u) (sym (same e ∙ first_pending)) (suc in_.0, (let m = in_.1 in omega arith), in_.2)

        now_held : IsHeld new v.row.shape (record v.first { transfer = v.now })
        now_held = let q = first_held.0 in let is = subst (λ (us : List ℕ). Contains us v.first.urb.0) (sym (same e)) among in record {
          start = q.start;
          sent = keeps.sent e v.first.urb.0 q.start among is q.sent;
          window = q.window;
          fits = q.fits;
          before = q.before ++ v.more;
          moved_so = stops.transfer;
          going = going;
          whole = stops.whole;
          unfinished = λ f. q.unfinished (none.none e v.first.urb.0 among is f);
        }

    -- what was given back is pending no more
    pub agrees_left : d.ends.items ≡ slice_set c.ends.items e (with_held v.others v.row) → new.pending e ≡ urbs_in v.others → ((f : ℕ) → f ≢ e → new.pending f ≡ k.pending f) → Agrees new d
    agrees_left ends here elsewhere = agrees_set k new c d a whole keeps none e v.row (with_held v.others v.row) v.at count ends refl refl
        (let l = (a.layout.each e v.row v.at).3 in let n = ap length v.held in omega arith) (sym here) elsewhere (others_kept still) (all_later (IsNew new) v.others (others_new still))
      where
        still : (u : ℕ) → Contains (urbs_in v.others) u → Contains (new.pending e) u
        still u in_ = subst (λ (us : List ℕ). Contains us u) (sym here) in_

  -- a finish and a giveback together
  module _ (mid new : Knows) (same : SamePending k mid) (keeps : Keeps k mid) (only : FinishesOnly v.first.urb.0 k mid) (leaves : Leaves mid new v.first.urb.0) (then_keeps : Keeps mid new) (none : FinishesNone mid new) where
    pub both_keep : Keeps k new
    both_keep = keeps_then k mid new same keeps then_keeps

    pub both_none : FinishesNone k new
    both_none = record {
      none = λ f u was is finished. (let there = subst (λ (us : List ℕ). Contains us u) (sym (same f)) was in
          only.none_else f u (λ q. leaves.gone f (subst (λ w. Contains (new.pending f) w) q is)) was there (none.none f u there is finished));
    }

    pub left_here : new.pending e ≡ urbs_in v.others
    left_here = leaves.here e [] (urbs_in v.others) (same e ∙ first_pending)

    pub left_elsewhere : (f : ℕ) → f ≢ e → new.pending f ≡ k.pending f
    left_elsewhere f off = leaves.elsewhere e f (subst (λ (us : List ℕ). Contains us v.first.urb.0) (sym (same e)) among) off ∙ same f

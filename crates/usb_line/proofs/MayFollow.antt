-- Where each kind of entry may follow a history of a scene.
use Rattle.std.proofs.Common.{ℕ, ◌≡◌, ◌+◌, ◌<◌, true, false, ◌&&◌, cond, Option, Some, None, List, [], ◌∷◌, ◌++◌, length, refl, sym, ap, ◌∙◌, subst, arith, eq-eqb}
use Rattle.std.specs.Prelude.{slice_get}
use Rattle.usb_types.specs.declared.errno.Code.{Code}
use Rattle.usb_types.specs.declared.errno.Code.TheVariants.{Zero}
use Rattle.usb_types.specs.declared.urb.Why.{Why}
use Rattle.usb_types.specs.declared.urb.Flag.{Flag as FlagName}
use Rattle.usb_machine.specs.declared.entry.TheConstants.{SERVER, HUB}
use Rattle.usb_machine.specs.declared.event.Event.TheVariants.{Submit, Link, Take, Finish, Give, Rest, End, Reject, Withdraw, Quiet, Claim, Flag, Unflag}
use Rattle.usb_machine.specs.declared.event.Answer.TheVariants.{Nothing, Code as Status, Truth, Urb, Number}
use Rattle.usb_machine.specs.declared.state.Mark.TheVariants.{Clear}
use Rattle.usb_machine.specs.declared.transfer.Transfer.{Transfer}
use Rattle.usb_machine.specs.declared.entry.Entry.{Entry}
use Rattle.usb_machine.specs.State.{refusal, unlinking, is_clear, status_of, first_of, has_flag}
use Rattle.usb_machine.specs.History.{HasHome, state_of, line_of, pending_of}
use Rattle.usb_machine.specs.Parts.{part_of, owes, held_of, keeps}
use Rattle.usb_machine.specs.Shapes.{HasWindow, Accepts}
use Rattle.usb_machine.specs.Legal.{IsFirst, times, Follows}
use Rattle.usb_machine.specs.Calls.{entry, plain_entry, mark_entry}
use Rattle.usb_machine.proofs.Steps.{owes_own}
use Rattle.usb_scene.specs.declared.scene.Scene.{Scene}
use Rattle.usb_prepare.specs.Layout.{home}
use Rattle.usb_trace.specs.Plan.{machine_of}

-- an URB first in the list stands in it
pub once : (u : ℕ) (us others : List ℕ) → us ≡ u ∷ others → 0 < times u us
once u us others e = subst (λ (l : List ℕ). 0 < times u l) (sym e) (subst (λ b. 0 < cond b 1 0 + times u others) (sym (eq-eqb u u refl)) (omega arith))

module _ (s : Scene) (h : List Entry) where
  -- the server takes the first URB of the line
  pub take_follows : (e u : ℕ) (us : List ℕ) → line_of (machine_of s) h e ≡ u ∷ us
      → Follows (machine_of s) h (entry SERVER (Take e) (Urb record { 0 = u }) None)
  take_follows e u us is = record {
    pass = omega arith;
    may = (refl, subst (λ (l : List ℕ). 0 < length l) (sym is) (omega arith));
    answers = ap first_of (sym is);
    carries = refl;
  }

  -- the server finishes the first pending URB, which no mark stands on
  pub finish_follows : (u : ℕ) (others : List ℕ) (code : Code) → pending_of (machine_of s) h (home s u) ≡ u ∷ others → (state_of h u).mark ≡ Clear
      → Follows (machine_of s) h (entry SERVER (Finish record { 0 = u } code) (Truth true) None)
  finish_follows u others code first mark = record {
    pass = omega arith;
    may = (refl, subst (IsFirst u) (sym first) refl);
    answers = ap Truth (sym (ap is_clear mark));
    carries = refl;
  }

  -- the server gives a pending URB back, with the status that its mark stands for
  pub give_follows : (u : ℕ) (status : Code) → 0 < times u (pending_of (machine_of s) h (home s u)) → is_clear (state_of h u).mark ≡ false
      → status ≡ status_of (state_of h u).mark → Follows (machine_of s) h (entry SERVER (Give record { 0 = u }) (Status status) None)
  give_follows u status among marked is = record { pass = omega arith; may = (refl, among, marked); answers = ap Status is; carries = refl }

  -- while its handler runs, a transfer rests with the URB
  pub rest_follows : (u : ℕ) (t : Transfer) → HasWindow t → 0 < (state_of h u).handlers
      → Follows (machine_of s) h (entry SERVER (Rest record { 0 = u } t.number) Nothing (Some t))
  rest_follows u t window run = record { pass = omega arith; may = (refl, run); answers = refl; carries = (refl, window) }

  pub end_follows : (u : ℕ) → 0 < (state_of h u).handlers → Follows (machine_of s) h (plain_entry SERVER (End record { 0 = u }))
  end_follows u run = record { pass = omega arith; may = (refl, run); answers = refl; carries = refl }

  module _ (p u : ℕ) (there : p < 2 + (length s.threads + 3)) where
    -- a submit of a transfer that the home takes is answered by the gate
    pub submit_follows : (t : Transfer) → HasHome (machine_of s) u → HasWindow t → t.actual ≡ 0
        → Accepts (slice_get (machine_of s).layout.shapes (home s u)) t
        → Follows (machine_of s) h (entry p (Submit record { 0 = u } t.number) (Status (refusal (state_of h u))) (Some t))
    submit_follows t has window fresh accepts = record { pass = there; may = has; answers = refl; carries = (refl, window, fresh, accepts) }

    -- a pass links the URB whose Link it owes
    pub link_follows : owes (part_of h p) u ≡ true → Follows (machine_of s) h (plain_entry p (Link record { 0 = u }))
    link_follows owed = record { pass = there; may = owed; answers = refl; carries = refl }

    pub mark_follows : (why : Why) → Follows (machine_of s) h (mark_entry p why u (unlinking (state_of h u)))
    mark_follows why = record { pass = there; may = tt; answers = refl; carries = refl }

    pub reject_follows : Follows (machine_of s) h (plain_entry p (Reject record { 0 = u }))
    reject_follows = record { pass = there; may = tt; answers = refl; carries = refl }

    -- a pass withdraws a reject that it holds
    pub withdraw_follows : 0 < (held_of (part_of h p) u).rejects → Follows (machine_of s) h (plain_entry p (Withdraw record { 0 = u }))
    withdraw_follows held = record { pass = there; may = held; answers = refl; carries = refl }

    pub quiet_follows : (state_of h u).queued ≡ false → (state_of h u).handlers ≡ 0 → Follows (machine_of s) h (plain_entry p (Quiet record { 0 = u }))
    quiet_follows queued run = record { pass = there; may = (queued, run); answers = refl; carries = refl }

    -- a pass claims what rests with an URB that it keeps quiet
    pub claim_follows : keeps (part_of h p) u ≡ true → Follows (machine_of s) h (entry p (Claim record { 0 = u }) (Number (state_of h u).rest) None)
    claim_follows kept = record { pass = there; may = kept; answers = refl; carries = refl }

  -- the hub sets a flag that does not stand, and unsets one that does
  pub flag_follows : (u : ℕ) (f : FlagName) → has_flag f (state_of h u).flags ≡ false → Follows (machine_of s) h (plain_entry HUB (Flag record { 0 = u } f))
  flag_follows u f off = record { pass = omega arith; may = (refl, off); answers = refl; carries = refl }

  pub unflag_follows : (u : ℕ) (f : FlagName) → has_flag f (state_of h u).flags ≡ true → Follows (machine_of s) h (plain_entry HUB (Unflag record { 0 = u } f))
  unflag_follows u f on = record { pass = omega arith; may = (refl, on); answers = refl; carries = refl }

-- an accepted submit owes its Link
pub submit_owes : (h : List Entry) (p u number : ℕ) (t : Option Transfer) → owes (part_of (h ++ entry p (Submit record { 0 = u } number) (Status Zero) t ∷ []) p) u ≡ true
submit_owes h p u number t = owes_own h (entry p (Submit record { 0 = u } number) (Status Zero) t) u ∙ ap (λ b. cond (b && true) true (owes (part_of h p) u)) (eq-eqb u u refl)

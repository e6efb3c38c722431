-- What is left when a pass submitted an URB.
use Rattle.std.proofs.Common.{ℕ, ◌≡◌, ◌≢◌, ◌+◌, ◌<◌, Bool, true, false, ◌&&◌, cond, eqb, Option, Some, None, List, [], ◌∷◌, ◌++◌, length, fold, refl, ap, ◌∙◌}
use Rattle.std.specs.Prelude.{slice_get}
use Rattle.std.proofs.lemmas.List.Sums.{fold-append}
use Rattle.usb_types.specs.declared.errno.Code.{Code}
use Rattle.usb_types.specs.declared.errno.Code.TheVariants.{Zero, Fault}
use Rattle.usb_machine.specs.declared.event.Event.TheVariants.{Submit}
use Rattle.usb_machine.specs.declared.event.Answer.TheVariants.{Code as Status}
use Rattle.usb_machine.specs.declared.state.Mark.TheVariants.{Clear}
use Rattle.usb_machine.specs.declared.transfer.Transfer.{Transfer}
use Rattle.usb_machine.specs.declared.entry.Entry.{Entry}
use Rattle.usb_machine.specs.declared.state.UrbState.{UrbState}
use Rattle.usb_machine.specs.State.{refusal, is_zero}
use Rattle.usb_machine.specs.Shapes.{HasWindow, Accepts}
use Rattle.usb_machine.specs.History.{Machine, HasHome, home_of, state_of, line_of, line_after, pending_of, pending_after, sent_of, sent_after}
use Rattle.usb_machine.specs.Parts.{owes, owes_after}
use Rattle.usb_machine.specs.Legal.{Follows}
use Rattle.usb_machine.specs.Calls.{entry, submit_entries}
use Rattle.usb_scene.specs.declared.scene.Scene.{Scene}
use Rattle.usb_prepare.specs.Layout.{home}
use Rattle.usb_trace.specs.Plan.{machine_of}
use Rattle.usb_trace.proofs.Entries.{AreOf, AreAbout, change, own_state, other_state, AllFollow}
use Rattle.usb_line.proofs.MayFollow.{submit_follows, link_follows, submit_owes}

module _ (p u : ℕ) (t : Transfer) where
  pub submit_about : (c : Code) → AreAbout u (submit_entries p u t c)
  submit_about Zero = (tt, refl, (tt, refl, tt))
  submit_about (Fault e) = (tt, refl, tt)

  pub submit_pass : (c : Code) → AreOf p (submit_entries p u t c)
  submit_pass Zero = (refl, (refl, tt))
  submit_pass (Fault e) = (refl, tt)

  -- the Link that an accepted submit owes is made
  pub submit_owes_none : (m : List Entry) (v : ℕ) (c : Code) → owes m v ≡ false → owes (m ++ submit_entries p u t c) v ≡ false
  submit_owes_none m v c none = fold-append (λ b x. owes_after v b x.event x.answer) false m (submit_entries p u t c)
      ∙ (ap (λ b. fold (λ b x. owes_after v b x.event x.answer) b (submit_entries p u t c)) none ∙ go c (eqb u v) refl)
    where
      go : (c : Code) (w : Bool) → eqb u v ≡ w → fold (λ b x. owes_after v b x.event x.answer) false (submit_entries p u t c) ≡ false
      go Zero true is = ap (λ b. cond b false (cond (b && true) true false)) is
      go Zero false is = ap (λ b. cond b false (cond (b && true) true false)) is
      go (Fault e) true is = ap (λ b. cond (b && false) true false) is
      go (Fault e) false is = ap (λ b. cond (b && false) true false) is

  module _ (h : List Entry) (c : Code) where
    submit_change : (c : Code) (t0 : UrbState) → change t0 (submit_entries p u t c) ≡ cond (is_zero c) (record t0 { queued = true; mark = Clear }) t0
    submit_change Zero t0 = refl
    submit_change (Fault e) t0 = refl

    -- where it is accepted, the URB is queued
    pub submit_state : state_of (h ++ submit_entries p u t c) u ≡ cond (is_zero c) (record (state_of h u) { queued = true; mark = Clear }) (state_of h u)
    submit_state = own_state u h (submit_entries p u t c) (submit_about c) ∙ submit_change c (state_of h u)

    pub submit_other : (v : ℕ) → v ≢ u → state_of (h ++ submit_entries p u t c) v ≡ state_of h v
    submit_other v off = other_state u h (submit_entries p u t c) (submit_about c) v off

    -- and stands last in its line
    pub submit_line : (g : Machine) (e : ℕ) → line_of g (h ++ submit_entries p u t c) e ≡ cond (is_zero c && eqb (home_of g u) e) (line_of g h e ++ u ∷ []) (line_of g h e)
    submit_line g e = fold-append (λ us x. line_after g e us x.event) [] h (submit_entries p u t c) ∙ go c
      where
        go : (c : Code) → fold (λ us x. line_after g e us x.event) (line_of g h e) (submit_entries p u t c) ≡ cond (is_zero c && eqb (home_of g u) e) (line_of g h e ++ u ∷ []) (line_of g h e)
        go Zero = refl
        go (Fault x) = refl

    pub submit_pending : (g : Machine) (e : ℕ) → pending_of g (h ++ submit_entries p u t c) e ≡ pending_of g h e
    submit_pending g e = fold-append (λ us x. pending_after g e us x.event x.answer) [] h (submit_entries p u t c) ∙ go c
      where
        go : (c : Code) → fold (λ us x. pending_after g e us x.event x.answer) (pending_of g h e) (submit_entries p u t c) ≡ pending_of g h e
        go Zero = refl
        go (Fault x) = refl

    -- and its transfer is what was sent last
    pub submit_sent : (v : ℕ) → sent_of (h ++ submit_entries p u t c) v ≡ cond (eqb u v && is_zero c) (Some t) (sent_of h v)
    submit_sent v = fold-append (λ (t : Option Transfer) x. sent_after v t x.event x.answer x.carried) None h (submit_entries p u t c) ∙ go c (eqb u v) refl
      where
        go : (c : Code) (w : Bool) → eqb u v ≡ w → fold (λ (t : Option Transfer) x. sent_after v t x.event x.answer x.carried) (sent_of h v) (submit_entries p u t c) ≡ cond (w && is_zero c) (Some t) (sent_of h v)
        go Zero true is = ap (λ b. cond b (Some t) (sent_of h v)) is
        go Zero false is = ap (λ b. cond b (Some t) (sent_of h v)) is
        go (Fault x) true is = ap (λ b. cond b (sent_of h v) (sent_of h v)) is
        go (Fault x) false is = ap (λ b. cond b (sent_of h v) (sent_of h v)) is

-- a submit of a transfer that the home takes, answered by the gate
pub submit_follow : (s : Scene) (h : List Entry) (p u : ℕ) (t : Transfer) → p < 2 + (length s.threads + 3) → HasHome (machine_of s) u → HasWindow t → t.actual ≡ 0
    → Accepts (slice_get (machine_of s).layout.shapes (home s u)) t → AllFollow (machine_of s) h (submit_entries p u t (refusal (state_of h u)))
submit_follow s h p u t there has window fresh accepts = go (refusal (state_of h u)) (submit_follows s h p u there t has window fresh accepts)
  where
    go : (c : Code) → Follows (machine_of s) h (entry p (Submit record { 0 = u } t.number) (Status c) (Some t)) → AllFollow (machine_of s) h (submit_entries p u t c)
    go (Fault e) f = (f, tt)
    go Zero f = (f, (link_follows s (h ++ entry p (Submit record { 0 = u } t.number) (Status Zero) (Some t) ∷ []) p u there (submit_owes h p u t.number (Some t)), tt))

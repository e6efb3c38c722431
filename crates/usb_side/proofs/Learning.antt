-- What stays of the replies so far while the server's pass learns more, and over a wake.
use Rattle.std.proofs.Common.{◌≡◌, ℕ, List, [], refl, ap, ◌∙◌, map}
use Rattle.std.specs.Prelude.{Option, Result}
use Rattle.usb_types.specs.declared.urb.UrbId.{UrbId}
use Rattle.usb_types.specs.declared.urb.Action.{Action}
use Rattle.usb_types.specs.declared.errno.Code.{Code}
use Rattle.usb_types.specs.declared.outside.Memory.{Memory}
use Rattle.usb_machine.specs.declared.transfer.Transfer.{Transfer}
use Rattle.usb_machine.specs.declared.entry.TheConstants.{SERVER}
use Rattle.usb_machine.specs.declared.entry.Entry.{Entry}
use Rattle.usb_machine.specs.History.{Machine}
use Rattle.usb_machine.specs.Fresh.{Known, Grown, Sound, Looked}
use Rattle.usb_machine.specs.Tokens.{first_of}
use Rattle.usb_machine.proofs.Over.{AllAre, sent_over}
use Rattle.usb_xfer.specs.Replies.{Reply}
use Rattle.usb_serve.specs.declared.controller.EndRow.{EndRow}
use Rattle.usb_serve.specs.declared.controller.Controller.{Controller}
use Rattle.usb_serve.specs.Held.{Agrees, awake, urbs_in}
use Rattle.usb_serve.specs.SoFar.{IsSoFar}
use Rattle.usb_serve.proofs.Awake.{held_awake}
use Rattle.usb_side.specs.Side.{side_knows}
use Rattle.usb_serve.specs.declared.handler.Outcome.{Outcome}
use Rattle.usb_side.specs.Went.{first_sent, sent_with}
use Rattle.usb_side.specs.Handled.{Came}
use Rattle.usb_side.proofs.Handling.{came_more}
use Rattle.usb_side.proofs.Knowing.{queued}
use Rattle.usb_side.proofs.Rows.{first_at, first_pending}
use Rattle.usb_side.proofs.Replying.{first_stays}
use Rattle.usb_side.proofs.Staying.{IsHandlers, gives_none, agrees_over, so_over}

module _ {D : Type 0} (g : Machine) (p q : Known) (server : p.number ≡ SERVER) (sound : Sound g p) (c : Controller D) (m : ℕ) (P : Type 0) (X : ℕ → Type 0) (a : Agrees (side_knows g p m P X) c) where
  -- over a handler's entries, what was sent with each first URB stays
  pub first_over : Sound g q → (more : List Entry) → Grown p q more → AllAre IsHandlers more → (e : ℕ) → first_sent q.seen c.ends.items e ≡ first_sent p.seen c.ends.items e
  first_over now more grown all e = first_stays p.seen q.seen (first_at c.ends.items e) (first_at c.ends.items e) refl
      (λ u is. (sent_over g p q server sound now more grown u.0 (gives_none u.0 more all) (queued g p server sound e u.0 (first_pending (side_knows g p m P X) c.ends.items a.holds e u is))).0)

  -- and all of it where the pass makes no entry
  pub learned : Looked g p q → (n : ℕ) (Q : Type 0) (Y : ℕ → Type 0) → Q → (so : ℕ → List Reply) → IsSoFar (side_knows g p m P X) so c.ends.items
      → Agrees (side_knows g q n Q Y) c × IsSoFar (side_knows g q n Q Y) so c.ends.items × ((e : ℕ) → first_sent q.seen c.ends.items e ≡ first_sent p.seen c.ends.items e)
  learned l n Q Y whole so s = (agrees_over g p q server sound l.sound [] l.grown tt m n P Q X Y c whole a, so_over g p q server sound l.sound [] l.grown tt m n P Q X Y c so a s, first_over l.sound [] l.grown tt)

-- a wake changes no first URB
pub first_awake : (seen : List Entry) (xs now : List EndRow) → now ≡ map awake xs → (e : ℕ) → first_sent seen now e ≡ first_sent seen xs e
first_awake seen xs now is e = ap (λ ends. first_sent seen ends e) is ∙ ap (λ hs. sent_with seen (first_of (urbs_in hs))) (held_awake xs e)

-- over a completion, what was sent with each first URB stays
pub came_first : {K D : Type 0} (g : Machine) (completes : K → UrbId → Code → Transfer → Result Action Memory → K → Type 0) (asks : K → Option (UrbId × Transfer) → K → Type 0) (unasks : K → Transfer → K → Type 0) (p q : Known) (u : UrbId) (code : Code) (t : Transfer) (h : K) (r : Result Outcome Memory) (k : K) (c : Controller D)
    → p.number ≡ SERVER → Sound g p → Came g completes asks unasks p q u code t h r k → (n : ℕ) (P : Type 0) (X : ℕ → Type 0) → Agrees (side_knows g p n P X) c → (e : ℕ) → first_sent q.seen c.ends.items e ≡ first_sent p.seen c.ends.items e
came_first g completes asks unasks p q u code t h r k c server sound came n P X a =
    let w = came_more g completes asks unasks p q u code t h r k came in first_over g p q server sound c n P X a w.3 w.0 w.1 w.2

-- A submit leaves what the hub holds.
use Rattle.std.proofs.Common.{◌≡◌, ℕ, Bool, true, false, cond, eqb, fold, List, ◌++◌, Option, Some, None, Result, refl, ap, ◌∙◌, append-nil}
use Rattle.std.proofs.lemmas.List.Sums.{fold-append}
use Rattle.usb_types.specs.declared.errno.Errno.{Errno}
use Rattle.usb_types.specs.declared.errno.Code.{Code}
use Rattle.usb_types.specs.declared.errno.Code.TheVariants.{Zero, Fault}
use Rattle.usb_machine.specs.declared.transfer.Transfer.{Transfer}
use Rattle.usb_machine.specs.declared.entry.Entry.{Entry}
use Rattle.usb_machine.specs.declared.pass_row.Held.{Held}
use Rattle.usb_machine.specs.History.{Machine, is_of}
use Rattle.usb_machine.specs.Parts.{held_of, held_after, nothing_held}
use Rattle.usb_machine.specs.Calls.{submit_entries}
use Rattle.usb_machine.specs.declared.host_answers.Refused.{Refused}
use Rattle.usb_machine.specs.Fresh.{Known}
use Rattle.usb_machine.specs.HostCalls.{Submitted, answer_of_submit}

same : (b : Bool) (d : Held) → cond b d d ≡ d
same true d = refl
same false d = refl

held_submit : (m : List Entry) (n u v : ℕ) (t : Transfer) (c : Code) → held_of (m ++ submit_entries n u t c) v ≡ held_of m v
held_submit m n u v t c = fold-append (λ d x. cond (is_of v x.event) (held_after d x.event) d) nothing_held m (submit_entries n u t c) ∙ go c (held_of m v)
  where
    go : (c : Code) (d : Held) → fold (λ d x. cond (is_of v x.event) (held_after d x.event) d) d (submit_entries n u t c) ≡ d
    go Zero d = ap (λ k. cond (eqb u v) k k) (same (eqb u v) d) ∙ same (eqb u v) d
    go (Fault e) d = same (eqb u v) d

module _ {A : Type 0} (g : Machine) (p q : Known) (u : ℕ) (t : Transfer) where
  pub submitted_number : (fault : Option Errno) (r : Result A Refused) → Submitted g p q u t fault r → q.number ≡ p.number
  submitted_number (Some e) r s = s.1.grown.number
  submitted_number None r s = s.grown.number

  pub submitted_held : (fault : Option Errno) (r : Result A Refused) → Submitted g p q u t fault r → (v : ℕ) → held_of q.mine v ≡ held_of p.mine v
  submitted_held (Some e) r s v = ap (λ m. held_of m v) (s.1.grown.mine ∙ append-nil p.mine)
  submitted_held None r s v = ap (λ m. held_of m v) s.grown.mine ∙ held_submit p.mine p.number u v t (answer_of_submit r)

-- The gate accepted main's reads, since nothing came before them.
use Rattle.std.proofs.Common.{ℕ, ◌≡◌, cond, Option, Some, None, List, [], ◌∷◌, ◌++◌, refl, sym, ap, ◌∙◌}
use Rattle.usb_types.specs.declared.errno.Errno.{Errno}
use Rattle.usb_types.specs.declared.errno.Code.{Code}
use Rattle.usb_types.specs.declared.errno.Code.TheVariants.{Zero}
use Rattle.usb_machine.specs.declared.event.Event.TheVariants.{Submit, Link}
use Rattle.usb_machine.specs.declared.event.Answer.TheVariants.{Code as Status}
use Rattle.usb_machine.specs.declared.transfer.Transfer.{Transfer}
use Rattle.usb_machine.specs.declared.entry.Entry.{Entry}
use Rattle.usb_machine.specs.Shapes.{shape_fault}
use Rattle.usb_machine.specs.State.{refusal, is_zero}
use Rattle.usb_machine.specs.History.{state_of}
use Rattle.usb_machine.specs.Legal.{IsLegal}
use Rattle.usb_machine.specs.Calls.{entry, plain_entry, submit_entries}
use Rattle.usb_machine.proofs.Prefixes.{legal_beginning, follows_before}
use Rattle.usb_scene.specs.declared.scene.Scene.{Scene}
use Rattle.usb_prepare.specs.Ends.{shape_at}
use Rattle.usb_prepare.specs.Layout.{home}
use Rattle.usb_trace.specs.Plan.{machine_of, read_of, main_pass}
use Rattle.usb_trace.specs.Run.{submit_of, read_entries_by}
use Rattle.usb_line.proofs.ReadsFollow.{reads, reads-push, reads_gate}
use Rattle.usb_threads.specs.MainPass.{read_answered, HasRead, none, one}

module _ (s : Scene) where
  -- the answer of a submit that stands after a history is what the gate says there
  answered : (xs : List Entry) (n : ℕ) (t : Transfer) (a : Code) → IsLegal (machine_of s) (xs ++ submit_entries (main_pass s) n t a) → a ≡ refusal (state_of xs n)
  answered xs n t a legal = codes (follows_before (machine_of s) xs (entry (main_pass s) (Submit record { 0 = n } t.number) (Status a) (Some t)) (cond (is_zero a) (plain_entry (main_pass s) (Link record { 0 = n }) ∷ []) []) legal).answers
    where
      codes : Status a ≡ Status (refusal (state_of xs n)) → a ≡ refusal (state_of xs n)
      codes e = cc

  accepted : (xs : List Entry) (n : ℕ) (o : Option Transfer) (a : Code) → xs ≡ reads s n → IsLegal (machine_of s) (xs ++ read_answered s n o a) → read_answered s n o a ≡ read_entries_by s n o
  accepted xs n None a is legal = refl
  accepted xs n (Some t) a is legal = go (shape_fault (shape_at s (home s n)) t) legal
    where
      go : (fault : Option Errno) → IsLegal (machine_of s) (xs ++ submit_of fault (main_pass s) n t a) → submit_of fault (main_pass s) n t a ≡ submit_of fault (main_pass s) n t Zero
      go (Some e) legal = refl
      go None legal = ap (λ c. submit_entries (main_pass s) n t c) (answered xs n t a legal ∙ (ap (λ h. refusal (state_of h n)) is ∙ reads_gate s n))

  pub reads_accepted : (n : ℕ) (xs : List Entry) → HasRead s n xs → IsLegal (machine_of s) xs → xs ≡ reads s n
  reads_accepted _ _ none legal = refl
  reads_accepted _ _ (one n xs a before) legal =
      let old : xs ≡ reads s n = reads_accepted n xs before (legal_beginning (machine_of s) xs (xs ++ read_answered s n (read_of s n) a) legal (read_answered s n (read_of s n) a, refl)) in
      (λ i. old i ++ accepted xs n (read_of s n) a old legal i) ∙ sym (reads-push s n)

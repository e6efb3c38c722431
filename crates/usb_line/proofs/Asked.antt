-- What an endpoint was asked, as the run goes on.
use Rattle.std.proofs.Common.{ℕ, ◌≡◌, Option, Some, None, List, [], ◌∷◌, ◌++◌, length, refl, sym, ap, ◌∙◌, append-nil}
use Rattle.std.specs.Prelude.{slice_get, option_and_then}
use Rattle.usb_machine.specs.declared.transfer.Transfer.{Transfer}
use Rattle.usb_machine.specs.History.{pending_of, sent_of}
use Rattle.usb_xfer.specs.Replies.{Reply}
use Rattle.usb_scene.specs.declared.scene.Scene.{Scene}
use Rattle.usb_trace.specs.Plan.{machine_of}
use Rattle.usb_trace.specs.Run.{asked_of}
use Rattle.usb_line.specs.Line.{Progress, asked_so_far}
use Rattle.usb_trace.specs.Due.{asks}
use Rattle.usb_line.specs.Shows.{first_sent, asked_by, asked_now}

module _ (s : Scene) (f : Progress) (e : ℕ) where
  -- an endpoint without replies since was asked by its givebacks alone
  pub asked_idle : f.so_far e ≡ [] → asked_now s f e ≡ asked_of s e f.rounds
  asked_idle none = go (first_sent s f e)
    where
      go : (o : Option Transfer) → asked_by s f e o ≡ asked_of s e f.rounds
      go None = refl
      go (Some t) = ap (λ (l : List Reply). asked_of s e f.rounds ++ asks s e t (length l)) none ∙ append-nil (asked_of s e f.rounds)

  pub asked_first : (u : ℕ) (others : List ℕ) (t : Transfer) → pending_of (machine_of s) f.history e ≡ u ∷ others → sent_of f.history u ≡ Some t → asked_now s f e ≡ asked_so_far s f e t
  asked_first u others t first sent = ap (asked_by s f e) (ap (λ us. option_and_then (sent_of f.history) (slice_get us 0)) first ∙ sent)

-- a progress with the same givebacks and replies at an endpoint, where the same transfer is first, if there is one
pub asked_same : (s : Scene) (f k : Progress) (e : ℕ) → asked_of s e k.rounds ≡ asked_of s e f.rounds → k.so_far e ≡ f.so_far e → (pending_of (machine_of s) f.history e ≡ [] → f.so_far e ≡ [])
    → ((u : ℕ) (others : List ℕ) → pending_of (machine_of s) f.history e ≡ u ∷ others
    → (more : List ℕ) × (pending_of (machine_of s) k.history e ≡ u ∷ more) × (sent_of k.history u ≡ sent_of f.history u)) → asked_now s k e ≡ asked_now s f e
asked_same s f k e rounds so none first = go (pending_of (machine_of s) f.history e) refl
  where
    by_one : (o : Option Transfer) → asked_by s k e o ≡ asked_by s f e o
    by_one None = rounds
    by_one (Some t) = (λ i. rounds i ++ asks s e t (length (so i)))

    go : (us : List ℕ) → pending_of (machine_of s) f.history e ≡ us → asked_now s k e ≡ asked_now s f e
    go [] is = asked_idle s k e (so ∙ none is) ∙ (rounds ∙ sym (asked_idle s f e (none is)))
    go (u ∷ us) is =
        let r = first u us is in
        let sent : first_sent s k e ≡ first_sent s f e = ap (λ l. option_and_then (sent_of k.history) (slice_get l 0)) r.1
        ∙ (r.2 ∙ ap (λ l. option_and_then (sent_of f.history) (slice_get l 0)) (sym is)) in
        by_one (first_sent s k e) ∙ ap (asked_by s f e) sent

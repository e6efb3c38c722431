-- What main holds and has claimed while it closes.
use Rattle.std.proofs.Common.{ℕ, ◌≡◌, ◌+◌, ◌≤◌, cond, eqb, Option, Some, None, List, [], ◌∷◌, ◌++◌, sym, ap, ◌∙◌, subst, arith, append_assoc, append-nil, ne_eqb}
use Rattle.usb_types.specs.declared.errno.Errno.{Errno}
use Rattle.usb_types.specs.declared.errno.Code.{Code}
use Rattle.usb_types.specs.declared.errno.Code.TheVariants.{Zero, Fault}
use Rattle.usb_machine.specs.declared.event.Event.TheVariants.{Reject, Quiet}
use Rattle.usb_machine.specs.declared.transfer.Transfer.{Transfer}
use Rattle.usb_machine.specs.declared.entry.Entry.{Entry}
use Rattle.usb_machine.specs.Shapes.{shape_fault}
use Rattle.usb_machine.specs.Parts.{held_of}
use Rattle.usb_machine.specs.Fresh.{Known, Sound, Looked}
use Rattle.usb_machine.specs.Calls.{plain_entry, kill_entries}
use Rattle.usb_scene.specs.declared.scene.Scene.{Scene}
use Rattle.usb_prepare.specs.Ends.{shape_at}
use Rattle.usb_prepare.specs.Layout.{home}
use Rattle.usb_trace.specs.Plan.{machine_of, read_of, main_pass}
use Rattle.usb_trace.specs.Claims.{claimed_by}
use Rattle.usb_trace.specs.Run.{submit_of, seen_quiet}
use Rattle.usb_trace.proofs.Claims.{AreNoClaim, AreNoClaim-append}
use Rattle.usb_line.proofs.Held.{AreNoReject, AreNoReject-append, rejects_at, no_reject, one_reject}
use Rattle.usb_line.proofs.Effects.{kill_effect}
use Rattle.usb_threads.specs.Passes.{WentOn}
use Rattle.usb_threads.specs.MainPass.{HasRead, none, one, read_answered}
use Rattle.usb_threads.specs.Calm.{IsCalm}
use Rattle.usb_threads.proofs.CallsMade.{submit_no_claim}
use Rattle.usb_threads.proofs.Ongoing.{claims_stay, claims_none}

submit_no_reject : (fault : Option Errno) (p u : ℕ) (t : Transfer) (c : Code) → AreNoReject (submit_of fault p u t c)
submit_no_reject (Some e) p u t c = tt
submit_no_reject None p u t Zero = (tt, (tt, tt))
submit_no_reject None p u t (Fault e) = (tt, tt)

module _ (s : Scene) where
  reads_no_reject : (n : ℕ) (xs : List Entry) → HasRead s n xs → AreNoReject xs
  reads_no_reject _ _ none = tt
  reads_no_reject _ _ (one n xs a before) = AreNoReject-append xs (read_answered s n (read_of s n) a) (reads_no_reject n xs before) (go (read_of s n))
    where
      go : (o : Option Transfer) → AreNoReject (read_answered s n o a)
      go None = tt
      go (Some t) = submit_no_reject (shape_fault (shape_at s (home s n)) t) (main_pass s) n t a

  reads_no_claim : (n : ℕ) (xs : List Entry) → HasRead s n xs → AreNoClaim xs
  reads_no_claim _ _ none = tt
  reads_no_claim _ _ (one n xs a before) = AreNoClaim-append xs (read_answered s n (read_of s n) a) (reads_no_claim n xs before) (go (read_of s n))
    where
      go : (o : Option Transfer) → AreNoClaim (read_answered s n o a)
      go None = tt
      go (Some t) = submit_no_claim (shape_fault (shape_at s (home s n)) t) (main_pass s) n t a

  -- after its reads main holds nothing, and has claimed nothing
  pub calm_reads : (p q : Known) (n : ℕ) (more : List Entry) → p.mine ≡ [] → WentOn (machine_of s) p q more → HasRead s n more → IsCalm q
  calm_reads p q n more new went reads = let mine : q.mine ≡ more = went.grown.mine ∙ ap (λ m. m ++ more) new in record {
    holds = λ u. ap (rejects_at u) mine ∙ no_reject u [] more (reads_no_reject n more reads);
    claims = claims_none (machine_of s) q went.sound (subst AreNoClaim (sym mine) (reads_no_claim n more reads));
  }

  pub calm_same : (p q : Known) → Sound (machine_of s) p → IsCalm p → Looked (machine_of s) p q → IsCalm q
  calm_same p q sound old looked = record {
    holds = λ u. ap (rejects_at u) (looked.grown.mine ∙ append-nil p.mine) ∙ old.holds u;
    claims = ap (λ n. claimed_by n q.seen) looked.grown.number ∙ (claims_stay (machine_of s) p q [] sound (record { grown = looked.grown; sound = looked.sound }) tt ∙ old.claims);
  }

  abbrev pub HoldsNone : Known → Type 0
  HoldsNone p = (u : ℕ) → (held_of p.mine u).rejects ≡ 0

  pub calm_kill : (p q : Known) (u : ℕ) (a : Code) (rest : Option ℕ) → HoldsNone p → WentOn (machine_of s) p q (kill_entries p.number u a rest) → HoldsNone q
  calm_kill p q u a rest old went v = ap (rejects_at v) went.grown.mine ∙ (kill_effect p.mine v p.number u a rest ∙ old v)

  -- those that it has not seen quiet yet it holds no reject on
  abbrev pub HoldsNoneFrom : ℕ → Known → Type 0
  HoldsNoneFrom n p = (u : ℕ) → n ≤ u → (held_of p.mine u).rejects ≡ 0

  pub calm_seen : (p q : Known) (n : ℕ) → HoldsNoneFrom n p → WentOn (machine_of s) p q (seen_quiet p.number n) → HoldsNoneFrom (n + 1) q
  calm_seen p q n old went v l =
      let reject = plain_entry p.number (Reject record { 0 = n }) in let quiet = plain_entry p.number (Quiet record { 0 = n }) in
      let up = one_reject v p.mine p.number n in
      let off : cond {A = ℕ} (eqb n v) 1 0 ≡ 0 = ap (λ b. cond {A = ℕ} b 1 0) (ne_eqb n v (λ e. absurd (omega arith))) in
      let before : rejects_at v p.mine ≡ 0 = old v (omega arith) in
      ap (rejects_at v) (went.grown.mine ∙ sym (append_assoc p.mine (reject ∷ []) (quiet ∷ []))) ∙ (no_reject v (p.mine ++ reject ∷ []) (quiet ∷ []) (tt, tt) ∙ omega arith)

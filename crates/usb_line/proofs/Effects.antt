-- What a call's entries change in what its pass holds.
use Rattle.std.proofs.Common.{ℕ, ◌≡◌, ◌+◌, ◌-◌, ◌<◌, Bool, true, false, cond, eqb, Option, Some, None, List, [], ◌∷◌, ◌++◌, length, map, refl, sym, ap, ◌∙◌, arith, append_assoc, append-nil}
use Rattle.usb_types.specs.declared.errno.Errno.{Errno}
use Rattle.usb_types.specs.declared.errno.Code.{Code}
use Rattle.usb_types.specs.declared.errno.Code.TheVariants.{Zero, Fault}
use Rattle.usb_types.specs.declared.urb.Why.TheVariants.{Shutdown}
use Rattle.usb_types.specs.declared.urb.Flag.TheVariants as flag
use Rattle.usb_machine.specs.declared.event.Event.TheVariants.{Reject, Withdraw, Flag}
use Rattle.usb_machine.specs.declared.transfer.Transfer.{Transfer}
use Rattle.usb_machine.specs.declared.entry.Entry.{Entry}
use Rattle.usb_machine.specs.Calls.{plain_entry, poison_entries, kill_entries, marks_of, claims_of}
use Rattle.usb_scene.specs.declared.scene.Scene.{Scene}
use Rattle.usb_prepare.specs.Layout.{urb_count}
use Rattle.usb_trace.specs.declared.rows.HostCall.{HostCall}
use Rattle.usb_trace.specs.declared.rows.HostCall.TheVariants as host_call
use Rattle.usb_trace.specs.declared.rows.CallAnswer.{CallAnswer}
use Rattle.usb_trace.specs.declared.rows.CallAnswer.TheVariants as told
use Rattle.usb_trace.specs.Plan.{fresh, submit_fault}
use Rattle.usb_trace.specs.Run.{urbs_of, CallRecord, submit_of, killed_by, host_call_entries, IsAnswered, down_after}
use Rattle.usb_trace.specs.Claims.{numbers_of}
use Rattle.usb_trace.proofs.Entries.{AreOf, AreOf-append}
use Rattle.usb_trace.proofs.Stills.{flags_pass, unflags_pass, marks_pass}
use Rattle.usb_line.proofs.Submits.{submit_pass}
use Rattle.usb_line.proofs.Held.{AreNoReject, AreNoFlag, AreNoReject-append, rejects_at, down_at, no_reject, no_flag, one_reject, one_withdrawal, all_flags, all_unflags, marks_no_reject, marks_no_flag, claims_no_reject, claims_no_flag, claims_pass, flags_no_reject, unflags_no_reject}
use Rattle.usb_line.proofs.HostCalls.{raises, withdraws}

module _ (p u : ℕ) (t : Transfer) where
  submit_no_reject : (o : Option Errno) (c : Code) → AreNoReject (submit_of o p u t c)
  submit_no_reject (Some e) c = tt
  submit_no_reject None Zero = (tt, (tt, tt))
  submit_no_reject None (Fault e) = (tt, tt)

  pub submit_no_flag : (o : Option Errno) (c : Code) → AreNoFlag (submit_of o p u t c)
  submit_no_flag (Some e) c = tt
  submit_no_flag None Zero = (tt, (tt, tt))
  submit_no_flag None (Fault e) = (tt, tt)

  submit_of_pass : (o : Option Errno) (c : Code) → AreOf p (submit_of o p u t c)
  submit_of_pass (Some e) c = tt
  submit_of_pass None c = submit_pass p u t c

module _ (m : List Entry) (v : ℕ) where
  abbrev held : List Entry → ℕ
  held k = rejects_at v k

  none_effect : (xs : List Entry) → AreNoReject xs → held (m ++ xs) + 0 ≡ held m + 0
  none_effect xs is = let a = no_reject v m xs is in omega arith

  module _ (p u : ℕ) where
    poison_effect : (a : Code) (n : Option ℕ) → held (m ++ poison_entries p u a n) + 0 ≡ held m + cond (eqb u v) 1 0
    poison_effect a n =
        let up = one_reject v m p u in
        let on : held (m ++ poison_entries p u a n) ≡ held (m ++ plain_entry p (Reject record { 0 = u }) ∷ [])
        = ap held (sym (append_assoc m (plain_entry p (Reject record { 0 = u }) ∷ []) _)) ∙ no_reject v (m ++ plain_entry p (Reject record { 0 = u }) ∷ []) _ (tt, (tt, (tt, tt))) in omega arith

    withdraw_effect : (cond {A = ℕ} (eqb u v) 1 0 ≡ 1 → 0 < held m) → held (m ++ plain_entry p (Withdraw record { 0 = u }) ∷ []) + cond (eqb u v) 1 0 ≡ held m + 0
    withdraw_effect backed = let down = one_withdrawal v m p u in go (eqb u v) backed down
      where
        go : (b : Bool) → (cond {A = ℕ} b 1 0 ≡ 1 → 0 < held m) → held (m ++ plain_entry p (Withdraw record { 0 = u }) ∷ []) ≡ held m - cond b 1 0 → held (m ++ plain_entry p (Withdraw record { 0 = u }) ∷ []) + cond b 1 0 ≡ held m + 0
        go true backed down = let some = backed refl in omega arith
        go false backed down = omega arith

  -- a kill holds nothing afterwards that it did not hold before
  pub kill_effect : (p u : ℕ) (a : Code) (n : Option ℕ) → held (m ++ kill_entries p u a n) ≡ held m
  kill_effect p u a n =
      let up = poison_effect p u a n in
      let down = one_withdrawal v (m ++ poison_entries p u a n) p u in
      let split : held (m ++ kill_entries p u a n) ≡ held ((m ++ poison_entries p u a n) ++ plain_entry p (Withdraw record { 0 = u }) ∷ []) = ap held (sym (append_assoc m (poison_entries p u a n) (plain_entry p (Withdraw record { 0 = u }) ∷ []))) in
      omega arith

module _ (s : Scene) (p : ℕ) (d : CallRecord) (m : List Entry) (v : ℕ) where
  abbrev entries : HostCall → CallAnswer → List Entry
  entries dd a = host_call_entries s p d.call dd a d.marks (numbers_of d.rests) d.down

  -- a call's entries raise and withdraw rejects as its host_call says
  pub rejects_effect : (dd : HostCall) (a : CallAnswer) → IsAnswered s d dd a → (withdraws v dd ≡ 1 → 0 < rejects_at v m) → rejects_at v (m ++ entries dd a) + withdraws v dd ≡ rejects_at v m + raises v dd
  rejects_effect (host_call.Submit u) (told.Code c) is backed = none_effect m v _ (submit_no_reject p u (fresh s u d.call) (submit_fault s u d.call) c)
  rejects_effect (host_call.Unlink u) (told.Code c) is backed = none_effect m v _ (tt, tt)
  rejects_effect (host_call.Kill u) (told.Buffer n) is backed = go d.marks is.0
    where
      go : (marks : List Code) → length marks ≡ 1 → rejects_at v (m ++ killed_by (λ a. kill_entries p u a n) marks) + 0 ≡ rejects_at v m + 0
      go [] l = absurd (omega arith)
      go (a ∷ more) l = let e = kill_effect m v p u a n in omega arith
  rejects_effect (host_call.Poison u) (told.Buffer n) is backed = go d.marks is.0
    where
      go : (marks : List Code) → length marks ≡ 1 → rejects_at v (m ++ killed_by (λ a. poison_entries p u a n) marks) + 0 ≡ rejects_at v m + cond (eqb u v) 1 0
      go [] l = absurd (omega arith)
      go (a ∷ more) l = poison_effect m v p u a n
  rejects_effect (host_call.Unpoison u) told.Done is backed = withdraw_effect m v p u backed
  rejects_effect (host_call.Block u) told.Done is backed = let e = one_reject v m p u in omega arith
  rejects_effect (host_call.Unblock u) told.Done is backed = withdraw_effect m v p u backed
  rejects_effect host_call.Serve a is backed = none_effect m v [] tt
  rejects_effect host_call.Absent a is backed = none_effect m v [] tt
  rejects_effect host_call.Down told.Done is backed = none_effect m v _
      (AreNoReject-append (map (λ u. plain_entry p (Flag record { 0 = u } flag.Down)) (urbs_of s) ++ marks_of p Shutdown (urbs_of s) d.marks) (claims_of p (urbs_of s) (numbers_of d.rests))
      (AreNoReject-append (map (λ u. plain_entry p (Flag record { 0 = u } flag.Down)) (urbs_of s)) (marks_of p Shutdown (urbs_of s) d.marks) (flags_no_reject p (urbs_of s)) (marks_no_reject p Shutdown (urbs_of s) d.marks))
      (claims_no_reject p (urbs_of s) (numbers_of d.rests)))
  rejects_effect host_call.Down (told.Code c) is backed = none_effect m v [] tt
  rejects_effect host_call.Down told.Nothing is backed = none_effect m v [] tt
  rejects_effect host_call.Down (told.Buffer n) is backed = none_effect m v [] tt
  rejects_effect host_call.Up told.Done is backed = go d.down
    where
      go : (b : Bool) → rejects_at v (m ++ host_call_entries s p d.call host_call.Up told.Done d.marks (numbers_of d.rests) b) + 0 ≡ rejects_at v m + 0
      go true = none_effect m v _ (unflags_no_reject p (urbs_of s))
      go false = none_effect m v [] tt
  rejects_effect (host_call.Unpoison u) told.Nothing is backed = cc
  rejects_effect (host_call.Unpoison u) (told.Code c) is backed = cc
  rejects_effect (host_call.Unpoison u) (told.Buffer n) is backed = cc
  rejects_effect (host_call.Block u) told.Nothing is backed = cc
  rejects_effect (host_call.Block u) (told.Code c) is backed = cc
  rejects_effect (host_call.Block u) (told.Buffer n) is backed = cc
  rejects_effect (host_call.Unblock u) told.Nothing is backed = cc
  rejects_effect (host_call.Unblock u) (told.Code c) is backed = cc
  rejects_effect (host_call.Unblock u) (told.Buffer n) is backed = cc
  rejects_effect host_call.Up told.Nothing is backed = cc
  rejects_effect host_call.Up (told.Code c) is backed = cc
  rejects_effect host_call.Up (told.Buffer n) is backed = cc
  rejects_effect _ _ is backed = absurd is

  same_down : (xs : List Entry) → AreNoFlag xs → down_at v m ≡ d.down → down_at v (m ++ xs) ≡ d.down
  same_down xs is e = ap (λ f. f.down) (no_flag v m xs is) ∙ e

  -- and they leave the flag that says whether the host is down
  pub down_effect : v < urb_count s → (dd : HostCall) (a : CallAnswer) → IsAnswered s d dd a → down_at v m ≡ d.down → down_at v (m ++ entries dd a) ≡ down_after d.down dd a
  down_effect near (host_call.Submit u) (told.Code c) is e = same_down _ (submit_no_flag p u (fresh s u d.call) (submit_fault s u d.call) c) e
  down_effect near (host_call.Unlink u) (told.Code c) is e = same_down _ (tt, tt) e
  down_effect near (host_call.Kill u) (told.Buffer n) is e = same_down _ (go d.marks) e
    where
      go : (marks : List Code) → AreNoFlag (killed_by (λ a. kill_entries p u a n) marks)
      go [] = tt
      go (a ∷ more) = (tt, (tt, (tt, (tt, (tt, tt)))))
  down_effect near (host_call.Poison u) (told.Buffer n) is e = same_down _ (go d.marks) e
    where
      go : (marks : List Code) → AreNoFlag (killed_by (λ a. poison_entries p u a n) marks)
      go [] = tt
      go (a ∷ more) = (tt, (tt, (tt, (tt, tt))))
  down_effect near (host_call.Unpoison u) told.Done is e = same_down _ (tt, tt) e
  down_effect near (host_call.Block u) told.Done is e = same_down _ (tt, tt) e
  down_effect near (host_call.Unblock u) told.Done is e = same_down _ (tt, tt) e
  down_effect near host_call.Serve a is e = same_down [] tt e
  down_effect near host_call.Absent a is e = same_down [] tt e
  down_effect near host_call.Down told.Done is e =
      let flags = map (λ u. plain_entry p (Flag record { 0 = u } flag.Down)) (urbs_of s) in let marks = marks_of p Shutdown (urbs_of s) d.marks in let claims = claims_of p (urbs_of s) (numbers_of d.rests) in
      ap (down_at v) (sym (append_assoc m (flags ++ marks) claims)) ∙ (ap (λ f. f.down) (no_flag v (m ++ (flags ++ marks)) claims (claims_no_flag p (urbs_of s) (numbers_of d.rests)))
      ∙ (ap (down_at v) (sym (append_assoc m flags marks)) ∙ (ap (λ f. f.down) (no_flag v (m ++ flags) marks (marks_no_flag p Shutdown (urbs_of s) d.marks)) ∙ all_flags v m p (urb_count s) near)))
  down_effect near host_call.Down (told.Code c) is e = same_down [] tt e
  down_effect near host_call.Down told.Nothing is e = same_down [] tt e
  down_effect near host_call.Down (told.Buffer n) is e = same_down [] tt e
  down_effect near host_call.Up told.Done is e = go d.down e
    where
      go : (b : Bool) → down_at v m ≡ b → down_at v (m ++ host_call_entries s p d.call host_call.Up told.Done d.marks (numbers_of d.rests) b) ≡ false
      go true e = all_unflags v m p (urb_count s) near
      go false e = ap (down_at v) (append-nil m) ∙ e
  down_effect near (host_call.Unpoison u) told.Nothing is e = cc
  down_effect near (host_call.Unpoison u) (told.Code c) is e = cc
  down_effect near (host_call.Unpoison u) (told.Buffer n) is e = cc
  down_effect near (host_call.Block u) told.Nothing is e = cc
  down_effect near (host_call.Block u) (told.Code c) is e = cc
  down_effect near (host_call.Block u) (told.Buffer n) is e = cc
  down_effect near (host_call.Unblock u) told.Nothing is e = cc
  down_effect near (host_call.Unblock u) (told.Code c) is e = cc
  down_effect near (host_call.Unblock u) (told.Buffer n) is e = cc
  down_effect near host_call.Up told.Nothing is e = cc
  down_effect near host_call.Up (told.Code c) is e = cc
  down_effect near host_call.Up (told.Buffer n) is e = cc
  down_effect near _ _ is e = absurd is

-- the entries of a call are its pass's own
pub entries_pass : (s : Scene) (p : ℕ) (d : CallRecord) (dd : HostCall) (a : CallAnswer) → IsAnswered s d dd a → AreOf p (host_call_entries s p d.call dd a d.marks (numbers_of d.rests) d.down)
entries_pass s p d (host_call.Submit u) (told.Code c) is = submit_of_pass p u (fresh s u d.call) (submit_fault s u d.call) c
entries_pass s p d (host_call.Unlink u) (told.Code c) is = (refl, tt)
entries_pass s p d (host_call.Kill u) (told.Buffer n) is = go d.marks
  where
    go : (marks : List Code) → AreOf p (killed_by (λ a. kill_entries p u a n) marks)
    go [] = tt
    go (a ∷ more) = (refl, (refl, (refl, (refl, (refl, tt)))))
entries_pass s p d (host_call.Poison u) (told.Buffer n) is = go d.marks
  where
    go : (marks : List Code) → AreOf p (killed_by (λ a. poison_entries p u a n) marks)
    go [] = tt
    go (a ∷ more) = (refl, (refl, (refl, (refl, tt))))
entries_pass s p d (host_call.Unpoison u) told.Done is = (refl, tt)
entries_pass s p d (host_call.Block u) told.Done is = (refl, tt)
entries_pass s p d (host_call.Unblock u) told.Done is = (refl, tt)
entries_pass s p d host_call.Serve a is = tt
entries_pass s p d host_call.Absent a is = tt
entries_pass s p d host_call.Down told.Done is =
    AreOf-append p (map (λ u. plain_entry p (Flag record { 0 = u } flag.Down)) (urbs_of s) ++ marks_of p Shutdown (urbs_of s) d.marks) (claims_of p (urbs_of s) (numbers_of d.rests))
    (AreOf-append p (map (λ u. plain_entry p (Flag record { 0 = u } flag.Down)) (urbs_of s)) (marks_of p Shutdown (urbs_of s) d.marks) (flags_pass p flag.Down (urbs_of s)) (marks_pass p Shutdown (urbs_of s) d.marks))
    (claims_pass p (urbs_of s) (numbers_of d.rests))
entries_pass s p d host_call.Down (told.Code c) is = tt
entries_pass s p d host_call.Down told.Nothing is = tt
entries_pass s p d host_call.Down (told.Buffer n) is = tt
entries_pass s p d host_call.Up told.Done is = go d.down
  where
    go : (b : Bool) → AreOf p (host_call_entries s p d.call host_call.Up told.Done d.marks (numbers_of d.rests) b)
    go true = unflags_pass p flag.Down (urbs_of s)
    go false = tt
entries_pass s p d (host_call.Unpoison u) told.Nothing is = tt
entries_pass s p d (host_call.Unpoison u) (told.Code c) is = tt
entries_pass s p d (host_call.Unpoison u) (told.Buffer n) is = tt
entries_pass s p d (host_call.Block u) told.Nothing is = tt
entries_pass s p d (host_call.Block u) (told.Code c) is = tt
entries_pass s p d (host_call.Block u) (told.Buffer n) is = tt
entries_pass s p d (host_call.Unblock u) told.Nothing is = tt
entries_pass s p d (host_call.Unblock u) (told.Code c) is = tt
entries_pass s p d (host_call.Unblock u) (told.Buffer n) is = tt
entries_pass s p d host_call.Up told.Nothing is = tt
entries_pass s p d host_call.Up (told.Code c) is = tt
entries_pass s p d host_call.Up (told.Buffer n) is = tt
entries_pass s p d _ _ is = absurd is

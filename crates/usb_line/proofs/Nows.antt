-- Calls that answer at once.
use Rattle.std.proofs.Common.{ℕ, ◌≡◌, ◌+◌, ◌<◌, Bool, true, false, cond, eqb, Option, Some, None, List, [], ◌++◌, length, map, refl, sym, ap, ◌∙◌, subst, append-nil, eq-eqb}
use Rattle.std.specs.List.{zip}
use Rattle.usb_types.specs.declared.errno.Errno.{Errno}
use Rattle.usb_types.specs.declared.errno.Errno.TheVariants.{ESHUTDOWN}
use Rattle.usb_types.specs.declared.errno.Code.{Code}
use Rattle.usb_types.specs.declared.errno.Code.TheVariants.{Fault}
use Rattle.usb_types.specs.declared.urb.Why.TheVariants.{Unlink}
use Rattle.usb_types.specs.declared.urb.Flag.TheVariants as flag
use Rattle.usb_machine.specs.declared.entry.TheConstants.{HUB}
use Rattle.usb_machine.specs.declared.event.Event.TheVariants.{Unflag}
use Rattle.usb_machine.specs.declared.entry.Entry.{Entry}
use Rattle.usb_machine.specs.declared.state.Flags.{Flags}
use Rattle.usb_machine.specs.declared.state.UrbState.{UrbState}
use Rattle.usb_machine.specs.State.{refusal}
use Rattle.usb_machine.specs.History.{state_of}
use Rattle.usb_machine.specs.Parts.{part_of}
use Rattle.usb_machine.specs.Legal.{IsLegal}
use Rattle.usb_machine.specs.Calls.{plain_entry}
use Rattle.usb_machine.proofs.Held.{flags_are_held}
use Rattle.usb_scene.specs.declared.scene.Scene.{Scene}
use Rattle.usb_scene.specs.declared.scene.Call.{Call}
use Rattle.usb_scene.specs.WellFormed.{IsCall, IsWellFormed}
use Rattle.usb_prepare.specs.Layout.{urb_count}
use Rattle.usb_trace.specs.declared.rows.HostCall.{HostCall}
use Rattle.usb_trace.specs.declared.rows.HostCall.TheVariants as host_call
use Rattle.usb_trace.specs.declared.rows.CallAnswer.{CallAnswer}
use Rattle.usb_trace.specs.declared.rows.CallAnswer.TheVariants as told
use Rattle.usb_trace.specs.Plan.{machine_of, fresh, submit_fault, pass_of, host_call_of}
use Rattle.usb_trace.specs.Run.{urbs_of, CallRecord, submit_of, host_call_entries, call_entries, claimed_urbs, claims_in, IsShapeAnswer, IsDownAnswer, IsAnswered}
use Rattle.usb_trace.specs.Claims.{claimed_by}
use Rattle.usb_line.specs.Line.{Progress, adds, call_record, submit_answer, answer_now}
use Rattle.usb_trace.proofs.Entries.{AllFollow, grows}
use Rattle.usb_trace.proofs.Claims.{claimed_same}
use Rattle.usb_line.proofs.MayFollow.{mark_follows, reject_follows, withdraw_follows, unflag_follows}
use Rattle.usb_trace.specs.Devices.{IsApt}
use Rattle.usb_trace.proofs.Homes.{has_home, home_takes, fresh_window}
use Rattle.usb_line.proofs.OnInterface.{fresh_apt}
use Rattle.usb_line.proofs.Submits.{submit_follow}
use Rattle.usb_trace.proofs.Stills.{unflags_still}
use Rattle.usb_line.proofs.Each.{each_follow}
use Rattle.usb_line.proofs.Held.{rejects_at, down_at}
use Rattle.usb_line.proofs.HostCalls.{withdraws, is_hubs, IsThere, host_call_there}
use Rattle.usb_line.proofs.Effects.{entries_pass}
use Rattle.usb_line.proofs.Serving.{AreBare, stills_bare, submit_bare, Serves}
use Rattle.usb_line.proofs.Passes.{not_server, is_pass}
use Rattle.usb_line.proofs.Makings.{IsMadeBy, made_entries}
use Rattle.usb_line.proofs.Longer.{IsLonger, longer_by}
use Rattle.usb_line.proofs.Claiming.{now_no_claim}

-- what a call needs of the run before it
pub record CanCall (s : Scene) (f : Progress) (i : ℕ) (c : Call) : Type 0 where
  pub serves : Serves s f
  pub near : i < length s.threads
  pub is : IsCall s c
  pub backed : (v : ℕ) → withdraws v (host_call_of s c) ≡ 1 → 0 < rejects_at v (part_of f.history (pass_of s i))
  pub hub : is_hubs (host_call_of s c) ≡ true → pass_of s i ≡ HUB
  pub flags : (v : ℕ) → v < urb_count s → down_at v (part_of f.history HUB) ≡ f.down

-- what a call did: the entries of its pass, an answer of its kind, and what it claimed
pub record IsCalled (s : Scene) (f : Progress) (i : ℕ) (d : CallRecord) (m : Progress) : Type 0 where
  pub made : IsMadeBy s f (pass_of s i) (call_entries s d) m
  pub answered : IsAnswered s d (host_call_of s d.call) d.answer
  pub longer : IsLonger f m
  pub each : length d.rests ≡ length (claimed_urbs s (host_call_of s d.call) d.answer)
  pub claims : claimed_by (pass_of s i) m.history ≡ claimed_by (pass_of s i) f.history ++ claims_in s d

-- the URB's flag is the hub's
pub state_down : (s : Scene) (h : List Entry) (u : ℕ) (b : Bool) → IsLegal (machine_of s) h → down_at u (part_of h HUB) ≡ b → (state_of h u).flags.down ≡ b
state_down s h u b legal e = sym (ap (λ (f : Flags). f.down) (flags_are_held (machine_of s) u h legal)) ∙ e

module _ (s : Scene) (good : IsWellFormed s) (f : Progress) (i : ℕ) (c : Call) (can : CanCall s f i c) where
  abbrev p : ℕ
  p = pass_of s i

  abbrev h : List Entry
  h = f.history

  there : p < 2 + (length s.threads + 3)
  there = is_pass s i can.near

  abbrev made : CallAnswer → CallRecord
  made a = call_record f i c a [] []

  abbrev entries : HostCall → CallAnswer → Bool → List Entry
  entries dd a b = host_call_entries s p c dd a [] [] b

  submit_now : (u : ℕ) → u < urb_count s → AllFollow (machine_of s) h (submit_of (submit_fault s u c) p u (fresh s u c) (submit_answer (submit_fault s u c) (refusal (state_of h u))))
  submit_now u near = go (submit_fault s u c) refl
    where
      go : (o : Option Errno) → submit_fault s u c ≡ o → AllFollow (machine_of s) h (submit_of o p u (fresh s u c) (submit_answer o (refusal (state_of h u))))
      go (Some e) is = tt
      go None is = submit_follow s h p u (fresh s u c) there (has_home s good u near) (fresh_window s good u c can.is.bytes) refl (home_takes s good u near c is)

  submit_told : (u : ℕ) → IsShapeAnswer (submit_fault s u c) (submit_answer (submit_fault s u c) (refusal (state_of h u)))
  submit_told u = go (submit_fault s u c)
    where
      go : (o : Option Errno) → IsShapeAnswer o (submit_answer o (refusal (state_of h u)))
      go None = tt
      go (Some e) = refl

  withdraw_now : (u : ℕ) → (cond {A = ℕ} (eqb u u) 1 0 ≡ 1 → 0 < rejects_at u (part_of h p)) → AllFollow (machine_of s) h (entries (host_call.Unblock u) told.Done f.down)
  withdraw_now u backed = (withdraw_follows s h p u there (backed (ap (λ b. cond {A = ℕ} b 1 0) (eq-eqb u u refl))), tt)

  up_now : p ≡ HUB → (b : Bool) → f.down ≡ b → AllFollow (machine_of s) h (entries host_call.Up told.Done b)
  up_now hub false is = tt
  up_now hub true is = subst (λ p. AllFollow (machine_of s) h (map (λ u. plain_entry p (Unflag record { 0 = u } flag.Down)) (urbs_of s))) (sym hub)
      (each_follow (λ u. plain_entry HUB (Unflag record { 0 = u } flag.Down)) (λ u. (tt, refl)) h (machine_of s) (urb_count s)
      (λ u l k same. unflag_follows s k u flag.Down (ap (λ (t : UrbState). t.flags.down) same ∙ state_down s h u true can.serves.legal (can.flags u l ∙ is))))

  -- the answers' premise, by host_call
  abbrev IsBacked : HostCall → Type 0
  IsBacked dd = (v : ℕ) → withdraws v dd ≡ 1 → 0 < rejects_at v (part_of h p)

  told_of : (a b : CallAnswer) → Some a ≡ Some b → a ≡ b
  told_of a b e = cc

  now_follow : (dd : HostCall) (a : CallAnswer) → answer_now s f c dd ≡ Some a → IsThere s dd → IsBacked dd → (is_hubs dd ≡ true → p ≡ HUB) → AllFollow (machine_of s) h (entries dd a f.down)
  now_follow (host_call.Submit u) a e near backed hub = subst (λ a. AllFollow (machine_of s) h (entries (host_call.Submit u) a f.down)) (told_of _ a e) (submit_now u near)
  now_follow (host_call.Unlink u) a e near backed hub = subst (λ a. AllFollow (machine_of s) h (entries (host_call.Unlink u) a f.down)) (told_of _ a e) (mark_follows s h p u there Unlink, tt)
  now_follow (host_call.Unpoison u) a e near backed hub = subst (λ a. AllFollow (machine_of s) h (entries (host_call.Unpoison u) a f.down)) (told_of _ a e) (withdraw_now u (backed u))
  now_follow (host_call.Block u) a e near backed hub = subst (λ a. AllFollow (machine_of s) h (entries (host_call.Block u) a f.down)) (told_of _ a e) (reject_follows s h p u there, tt)
  now_follow (host_call.Unblock u) a e near backed hub = subst (λ a. AllFollow (machine_of s) h (entries (host_call.Unblock u) a f.down)) (told_of _ a e) (withdraw_now u (backed u))
  now_follow host_call.Down a e near backed hub = go f.down e
    where
      go : (b : Bool) → cond b (Some (told.Code (Fault ESHUTDOWN))) None ≡ Some a → AllFollow (machine_of s) h (entries host_call.Down a f.down)
      go true e = subst (λ a. AllFollow (machine_of s) h (entries host_call.Down a f.down)) (told_of _ a e) tt
      go false e = cc
  now_follow host_call.Up a e near backed hub = subst (λ a. AllFollow (machine_of s) h (entries host_call.Up a f.down)) (told_of _ a e) (up_now (hub refl) f.down refl)
  now_follow (host_call.Kill u) a e near backed hub = cc
  now_follow (host_call.Poison u) a e near backed hub = cc
  now_follow host_call.Serve a e near backed hub = cc
  now_follow host_call.Absent a e near backed hub = subst (λ a. AllFollow (machine_of s) h (entries host_call.Absent a f.down)) (told_of _ a e) tt
  now_follow host_call.Other a e near backed hub = cc

  submit_now_bare : (u : ℕ) → (o : Option Errno) → (o ≡ None → IsApt s u (fresh s u c)) → (code : Code) → AreBare s (submit_of o p u (fresh s u c) code)
  submit_now_bare u (Some e) apt code = tt
  submit_now_bare u None apt code = submit_bare s p u (fresh s u c) code (apt refl).bare

  up_bare : (b : Bool) → AreBare s (entries host_call.Up told.Done b)
  up_bare false = tt
  up_bare true = stills_bare s _ (unflags_still p flag.Down (urbs_of s))

  now_bare : (dd : HostCall) (a : CallAnswer) → answer_now s f c dd ≡ Some a → host_call_of s c ≡ dd → AreBare s (entries dd a f.down)
  now_bare (host_call.Submit u) a e is = subst (λ a. AreBare s (entries (host_call.Submit u) a f.down)) (told_of _ a e) (submit_now_bare u (submit_fault s u c) (fresh_apt s good u c can.is is) _)
  now_bare (host_call.Unlink u) a e near = subst (λ a. AreBare s (entries (host_call.Unlink u) a f.down)) (told_of _ a e) (tt, tt)
  now_bare (host_call.Unpoison u) a e near = subst (λ a. AreBare s (entries (host_call.Unpoison u) a f.down)) (told_of _ a e) (tt, tt)
  now_bare (host_call.Block u) a e near = subst (λ a. AreBare s (entries (host_call.Block u) a f.down)) (told_of _ a e) (tt, tt)
  now_bare (host_call.Unblock u) a e near = subst (λ a. AreBare s (entries (host_call.Unblock u) a f.down)) (told_of _ a e) (tt, tt)
  now_bare host_call.Down a e near = go f.down e
    where
      go : (b : Bool) → cond b (Some (told.Code (Fault ESHUTDOWN))) None ≡ Some a → AreBare s (entries host_call.Down a f.down)
      go true e = subst (λ a. AreBare s (entries host_call.Down a f.down)) (told_of _ a e) tt
      go false e = cc
  now_bare host_call.Up a e near = subst (λ a. AreBare s (entries host_call.Up a f.down)) (told_of _ a e) (up_bare f.down)
  now_bare (host_call.Kill u) a e near = cc
  now_bare (host_call.Poison u) a e near = cc
  now_bare host_call.Serve a e near = cc
  now_bare host_call.Absent a e near = subst (λ a. AreBare s (entries host_call.Absent a f.down)) (told_of _ a e) tt
  now_bare host_call.Other a e near = cc

  now_answered : (dd : HostCall) (a : CallAnswer) → answer_now s f c dd ≡ Some a → IsAnswered s (made a) dd a
  now_answered (host_call.Submit u) a e = subst (λ a. IsAnswered s (made a) (host_call.Submit u) a) (told_of _ a e) (submit_told u)
  now_answered (host_call.Unlink u) a e = subst (λ a. IsAnswered s (made a) (host_call.Unlink u) a) (told_of _ a e) tt
  now_answered (host_call.Unpoison u) a e = sym (told_of _ a e)
  now_answered (host_call.Block u) a e = sym (told_of _ a e)
  now_answered (host_call.Unblock u) a e = sym (told_of _ a e)
  now_answered host_call.Down a e = go f.down e
    where
      go : (b : Bool) → cond b (Some (told.Code (Fault ESHUTDOWN))) None ≡ Some a → IsDownAnswer b a × (a ≡ told.Done → (length (made a).marks ≡ urb_count s) × (length (made a).rests ≡ urb_count s))
      go true e = (sym (told_of _ a e), λ d. (let x = told_of _ a e ∙ d in cc))
      go false e = cc
  now_answered host_call.Up a e = sym (told_of _ a e)
  now_answered (host_call.Kill u) a e = cc
  now_answered (host_call.Poison u) a e = cc
  now_answered host_call.Serve a e = cc
  now_answered host_call.Absent a e = sym (told_of _ a e)
  now_answered host_call.Other a e = cc

  now_claims : (dd : HostCall) (a : CallAnswer) → answer_now s f c dd ≡ Some a → claimed_urbs s dd a ≡ []
  now_claims host_call.Down a e = go f.down e
    where
      go : (b : Bool) → cond b (Some (told.Code (Fault ESHUTDOWN))) None ≡ Some a → claimed_urbs s host_call.Down a ≡ []
      go true e = subst (λ a. claimed_urbs s host_call.Down a ≡ []) (told_of _ a e) refl
      go false e = cc
  now_claims (host_call.Kill u) a e = cc
  now_claims (host_call.Poison u) a e = cc
  now_claims _ a e = refl

  -- a call that answers at once
  pub now_called : (a : CallAnswer) → answer_now s f c (host_call_of s c) ≡ Some a → IsCalled s f i (made a) (adds f (call_entries s (made a)))
  now_called a e = let answered = now_answered (host_call_of s c) a e in record {
    made = made_entries s f p (call_entries s (made a)) (not_server s i) (entries_pass s p (made a) (host_call_of s c) a answered)
        (now_follow (host_call_of s c) a e (host_call_there s good c can.is) can.backed can.hub) (now_bare (host_call_of s c) a e refl) can.serves;
    answered = answered;
    longer = longer_by f (call_entries s (made a));
    each = ap length (sym (now_claims (host_call_of s c) a e));
    claims =
        claimed_same p h (h ++ call_entries s (made a)) (call_entries s (made a)) (call_entries s (made a)) refl
        (grows p h (call_entries s (made a)) (entries_pass s p (made a) (host_call_of s c) a answered)) (now_no_claim p s c (host_call_of s c) a f.down)
        ∙ (sym (append-nil (claimed_by p h)) ∙ ap (λ us. claimed_by p h ++ zip us []) (sym (now_claims (host_call_of s c) a e)));
  }

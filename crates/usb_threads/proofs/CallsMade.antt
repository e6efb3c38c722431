-- What each call of a script did.
use Rattle.std.proofs.Common.{ℕ, ◌≡◌, ◌<◌, inl, inr, arith, Bool, true, false, Option, Some, None, List, [], ◌∷◌, ◌++◌, length, map, refl, sym, ap, ◌∙◌, subst, append-nil}
use Rattle.std.specs.List.{zip}
use Rattle.std.proofs.lemmas.Option.{slice_get_within}
use Rattle.usb_types.specs.declared.errno.Errno.{Errno}
use Rattle.usb_types.specs.declared.errno.Errno.TheVariants.{ENODEV, ESHUTDOWN}
use Rattle.usb_types.specs.declared.errno.Code.{Code}
use Rattle.usb_types.specs.declared.errno.Code.TheVariants.{Zero, Fault}
use Rattle.usb_types.specs.declared.urb.Flag.{Flag as FlagName}
use Rattle.usb_types.specs.declared.urb.Flag.TheVariants as flag
use Rattle.usb_machine.specs.declared.entry.TheConstants.{HUB}
use Rattle.usb_machine.specs.declared.transfer.Transfer.{Transfer}
use Rattle.usb_machine.specs.declared.entry.Entry.{Entry}
use Rattle.usb_machine.specs.Parts.{held_of}
use Rattle.usb_machine.specs.History.{Machine}
use Rattle.usb_machine.specs.Fresh.{Known, Sound}
use Rattle.usb_machine.specs.HostCalls.{number_of}
use Rattle.usb_machine.specs.Calls.{unlink_entries, block_entries, unblock_entries, kill_entries, poison_entries, flush_entries, unflag_entries}
use Rattle.usb_scene.specs.declared.scene.Scene.{Scene}
use Rattle.usb_scene.specs.declared.scene.Call.{Call}
use Rattle.usb_scene.specs.WellFormed.{IsWellFormed, IsCall}
use Rattle.usb_prepare.specs.Layout.{urb_count}
use Rattle.usb_prepare.proofs.Below.{length-below}
use Rattle.usb_trace.specs.declared.rows.HostCall.{HostCall}
use Rattle.usb_trace.specs.declared.rows.HostCall.TheVariants as host_call
use Rattle.usb_trace.specs.declared.rows.CallAnswer.{CallAnswer}
use Rattle.usb_trace.specs.declared.rows.CallAnswer.TheVariants as told
use Rattle.usb_trace.specs.Plan.{machine_of, fresh, submit_fault, pass_of, host_call_of}
use Rattle.usb_trace.specs.Claims.{claimed_by, numbers_of}
use Rattle.usb_trace.specs.Run.{CallRecord, urbs_of, submit_of, host_call_entries, claimed_urbs, IsShapeAnswer, IsDownAnswer, IsAnswered}
use Rattle.usb_trace.proofs.Claims.{AreNoClaim}
use Rattle.usb_line.proofs.HostCalls.{IsThere, host_call_there}
use Rattle.usb_threads.specs.Passes.{WentOn}
use Rattle.usb_threads.specs.NextCall.{MayCall, MayGoOn}
use Rattle.usb_threads.specs.Calling.{HasCalled}
use Rattle.usb_threads.proofs.Going.{may_go_on}
use Rattle.usb_threads.proofs.Ongoing.{went_nothing, claims_stay}

-- a submit claims nothing, nor do flags that are taken off
pub submit_no_claim : (fault : Option Errno) (p u : ℕ) (t : Transfer) (a : Code) → AreNoClaim (submit_of fault p u t a)
submit_no_claim (Some e) p u t a = tt
submit_no_claim None p u t Zero = (tt, (tt, tt))
submit_no_claim None p u t (Fault e) = (tt, tt)

unflag_no_claim : (p : ℕ) (f : FlagName) (us : List ℕ) → AreNoClaim (unflag_entries p f us)
unflag_no_claim p f [] = tt
unflag_no_claim p f (u ∷ us) = (tt, unflag_no_claim p f us)

module _ (s : Scene) (p q : Known) (i : ℕ) (c : Call) (down : Bool) (sound : Sound (machine_of s) p) (may : MayCall s p i c down) where
  abbrev g : Machine
  g = machine_of s

  abbrev n : ℕ
  n = pass_of s i

  abbrev did : CallAnswer → List Code → List (Option Transfer) → CallRecord
  did a marks rests = record { thread = i; call = c; answer = a; marks = marks; rests = rests; down = down }

  -- the entries of a pass are those of its thread
  numbered : (f : ℕ → List Entry) → WentOn g p q (f p.number) → WentOn g p q (f n)
  numbered f went = subst (λ k. WentOn g p q (f k)) may.number went

  called : (dd : HostCall) (a : CallAnswer) (marks : List Code) (rests : List (Option Transfer)) → host_call_of s c ≡ dd → IsAnswered s (did a marks rests) dd a → length rests ≡ length (claimed_urbs s dd a)
      → WentOn g p q (host_call_entries s n c dd a marks (numbers_of rests) down) → claimed_by p.number q.seen ≡ claimed_by p.number p.seen ++ zip (claimed_urbs s dd a) rests → HasCalled s p q i c down a
  called dd a marks rests is answered each went claims = record {
    did = did a marks rests;
    thread = refl;
    call = refl;
    told = refl;
    found = refl;
    made = record {
      thread = slice_get_within s.threads i may.thread may.at;
      answered = subst (λ dd. IsAnswered s (did a marks rests) dd a) (sym is) answered;
      claims = subst (λ dd. length rests ≡ length (claimed_urbs s dd a)) (sym is) each;
    };
    went = subst (λ dd. WentOn g p q (host_call_entries s n c dd a marks (numbers_of rests) down)) (sym is) went;
    claims = subst (λ dd. claimed_by p.number q.seen ≡ claimed_by p.number p.seen ++ zip (claimed_urbs s dd a) rests) (sym is) claims;
  }

  -- a call that claims nothing
  plain : (dd : HostCall) (a : CallAnswer) → host_call_of s c ≡ dd → IsAnswered s (did a [] []) dd a → claimed_urbs s dd a ≡ [] → AreNoClaim (host_call_entries s n c dd a [] [] down)
      → WentOn g p q (host_call_entries s n c dd a [] [] down) → HasCalled s p q i c down a
  plain dd a is answered none no_claim went = called dd a [] [] is answered (ap (λ (l : List ℕ). length l) (sym none)) went
      (claims_stay g p q (host_call_entries s n c dd a [] [] down) sound went no_claim ∙ (sym (append-nil (claimed_by p.number p.seen)) ∙ ap (λ us. claimed_by p.number p.seen ++ zip us []) (sym none)))

  pub submit_called : (u : ℕ) (a : Code) → host_call_of s c ≡ host_call.Submit u → IsShapeAnswer (submit_fault s u c) a → WentOn g p q (submit_of (submit_fault s u c) p.number u (fresh s u c) a) → HasCalled s p q i c down (told.Code a)
  submit_called u a is answer went = plain (host_call.Submit u) (told.Code a) is answer refl (submit_no_claim (submit_fault s u c) n u (fresh s u c) a) (numbered (λ k. submit_of (submit_fault s u c) k u (fresh s u c) a) went)

  pub unlink_called : (u : ℕ) (a : Code) → host_call_of s c ≡ host_call.Unlink u → WentOn g p q (unlink_entries p.number u a) → HasCalled s p q i c down (told.Code a)
  unlink_called u a is went = plain (host_call.Unlink u) (told.Code a) is tt refl (tt, tt) (numbered (λ k. unlink_entries k u a) went)

  -- a kill or a poison claimed what rested
  abbrev Claimed : ℕ → Option Transfer → Type 0
  Claimed u rest = claimed_by p.number q.seen ≡ claimed_by p.number p.seen ++ (u, rest) ∷ []

  pub kill_called : (u : ℕ) (a : Code) (rest : Option Transfer) (number : Option ℕ) → host_call_of s c ≡ host_call.Kill u → number ≡ number_of rest → WentOn g p q (kill_entries p.number u a number) → Claimed u rest
      → HasCalled s p q i c down (told.Buffer number)
  kill_called u a rest number is same went claims =
      called (host_call.Kill u) (told.Buffer number) (a ∷ []) (rest ∷ []) is (refl, ap (λ k. k ∷ []) (sym same)) refl (numbered (λ k. kill_entries k u a number) went) claims

  pub poison_called : (u : ℕ) (a : Code) (rest : Option Transfer) (number : Option ℕ) → host_call_of s c ≡ host_call.Poison u → number ≡ number_of rest → WentOn g p q (poison_entries p.number u a number) → Claimed u rest
      → HasCalled s p q i c down (told.Buffer number)
  poison_called u a rest number is same went claims =
      called (host_call.Poison u) (told.Buffer number) (a ∷ []) (rest ∷ []) is (refl, ap (λ k. k ∷ []) (sym same)) refl (numbered (λ k. poison_entries k u a number) went) claims

  pub unpoison_called : (u : ℕ) → host_call_of s c ≡ host_call.Unpoison u → WentOn g p q (unblock_entries p.number u) → HasCalled s p q i c down told.Done
  unpoison_called u is went = plain (host_call.Unpoison u) told.Done is refl refl (tt, tt) (numbered (λ k. unblock_entries k u) went)

  pub unblock_called : (u : ℕ) → host_call_of s c ≡ host_call.Unblock u → WentOn g p q (unblock_entries p.number u) → HasCalled s p q i c down told.Done
  unblock_called u is went = plain (host_call.Unblock u) told.Done is refl refl (tt, tt) (numbered (λ k. unblock_entries k u) went)

  pub block_called : (u : ℕ) → host_call_of s c ≡ host_call.Block u → WentOn g p q (block_entries p.number u) → HasCalled s p q i c down told.Done
  block_called u is went = plain (host_call.Block u) told.Done is refl refl (tt, tt) (numbered (λ k. block_entries k u) went)

  pub down_called : (marks : List Code) (rests : List (Option Transfer)) → host_call_of s c ≡ host_call.Down → down ≡ false → length marks ≡ urb_count s → length rests ≡ urb_count s
      → WentOn g p q (flush_entries p.number flag.Down (urbs_of s) marks (numbers_of rests)) → claimed_by p.number q.seen ≡ claimed_by p.number p.seen ++ zip (urbs_of s) rests → HasCalled s p q i c down told.Done
  down_called marks rests is up all each went claims =
      called host_call.Down told.Done marks rests is (answer down up, λ e. (all, each)) (each ∙ sym (length-below (urb_count s))) (numbered (λ k. flush_entries k flag.Down (urbs_of s) marks (numbers_of rests)) went) claims
    where
      answer : (b : Bool) → b ≡ false → IsDownAnswer b told.Done
      answer false e = refl
      answer true e = absurd (cc (e))

  pub up_called : host_call_of s c ≡ host_call.Up → down ≡ true → WentOn g p q (unflag_entries p.number flag.Down (urbs_of s)) → HasCalled s p q i c down told.Done
  up_called is was went = plain host_call.Up told.Done is refl refl
      (subst (λ b. AreNoClaim (host_call_entries s n c host_call.Up told.Done [] [] b)) (sym was) (unflag_no_claim n flag.Down (urbs_of s)))
      (subst (λ b. WentOn g p q (host_call_entries s n c host_call.Up told.Done [] [] b)) (sym was) (numbered (λ k. unflag_entries k flag.Down (urbs_of s)) went))

-- calls that make nothing
module _ (s : Scene) (p : Known) (i : ℕ) (c : Call) (down : Bool) (sound : Sound (machine_of s) p) (may : MayCall s p i c down) where
  nothing : WentOn (machine_of s) p p []
  nothing = went_nothing (machine_of s) p sound

  pub serve_called : host_call_of s c ≡ host_call.Serve → HasCalled s p p i c down told.Nothing
  serve_called is = plain s p p i c down sound may host_call.Serve told.Nothing is refl refl tt nothing

  pub absent_called : host_call_of s c ≡ host_call.Absent → HasCalled s p p i c down (told.Code (Fault ENODEV))
  absent_called is = plain s p p i c down sound may host_call.Absent (told.Code (Fault ENODEV)) is refl refl tt nothing

  pub down_refused : host_call_of s c ≡ host_call.Down → down ≡ true → HasCalled s p p i c down (told.Code (Fault ESHUTDOWN))
  down_refused is was = plain s p p i c down sound may host_call.Down (told.Code (Fault ESHUTDOWN)) is (answer down was, λ e. absurd (cc (e))) refl tt nothing
    where
      answer : (b : Bool) → b ≡ true → IsDownAnswer b (told.Code (Fault ESHUTDOWN))
      answer true e = refl
      answer false e = absurd (cc (e))

  pub up_refused : host_call_of s c ≡ host_call.Up → down ≡ false → HasCalled s p p i c down told.Done
  up_refused is was = plain s p p i c down sound may host_call.Up told.Done is refl refl
      (subst (λ b. AreNoClaim (host_call_entries s (pass_of s i) c host_call.Up told.Done [] [] b)) (sym was) tt)
      (subst (λ b. WentOn (machine_of s) p p (host_call_entries s (pass_of s i) c host_call.Up told.Done [] [] b)) (sym was) nothing)

-- what a call may count on
module _ (s : Scene) (good : IsWellFormed s) (p : Known) (i : ℕ) (c : Call) (down : Bool) (may : MayCall s p i c down) where
  goes : MayGoOn s p c down
  goes = may_go_on s good i may.thread may.at p c down may refl

  pub is_call : IsCall s c
  is_call = goes.is

  pub there : (dd : HostCall) → host_call_of s c ≡ dd → IsThere s dd
  there dd is = subst (IsThere s) is (host_call_there s good c goes.is)

  pub few : (u : ℕ) → (held_of p.mine u).rejects < 255
  few u = let f = goes.few u in omega arith

  pub held_unpoison : (u : ℕ) → host_call_of s c ≡ host_call.Unpoison u → 0 < (held_of p.mine u).rejects
  held_unpoison u is = goes.backed u (inl is)

  pub held_unblock : (u : ℕ) → host_call_of s c ≡ host_call.Unblock u → 0 < (held_of p.mine u).rejects
  held_unblock u is = goes.backed u (inr is)

  pub hub_down : host_call_of s c ≡ host_call.Down → p.number ≡ HUB
  hub_down is = goes.hub (inl is)

  pub hub_up : host_call_of s c ≡ host_call.Up → p.number ≡ HUB
  hub_up is = goes.hub (inr is)

  pub flags : p.number ≡ HUB → (b : Bool) → down ≡ b → (u : ℕ) → u < urb_count s → (held_of p.mine u).flags.down ≡ b
  flags own b is u near = goes.flags own u near ∙ is

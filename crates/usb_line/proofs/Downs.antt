-- Taking the host down: all URBs are flagged and marked, and then each is waited for and claimed.
use Rattle.std.proofs.Common.{ℕ, zero, suc, ◌≡◌, ◌≢◌, ◌+◌, ◌<◌, true, false, cond, eqb, Option, List, [], ◌∷◌, ◌++◌, length, map, refl, sym, ap, ◌∙◌, subst, arith, append_assoc, length-append, eq-eqb, ne_eqb}
use Rattle.std.specs.List.{zip}
use Rattle.std.proofs.lemmas.List.{length-map}
use mathlib.Core.Logic.{dite}
use native.Mathlib.Decide.{ℕ_discrete}
use Rattle.usb_types.specs.declared.errno.Code.{Code}
use Rattle.usb_types.specs.declared.urb.Why.TheVariants.{Shutdown}
use Rattle.usb_types.specs.declared.urb.Flag.TheVariants as flag
use Rattle.usb_machine.specs.declared.entry.TheConstants.{SERVER, HUB}
use Rattle.usb_machine.specs.declared.event.Event.TheVariants.{Flag}
use Rattle.usb_machine.specs.declared.transfer.Transfer.{Transfer}
use Rattle.usb_machine.specs.declared.entry.Entry.{Entry}
use Rattle.usb_machine.specs.declared.state.UrbState.{UrbState}
use Rattle.usb_machine.specs.State.{unlinking}
use Rattle.usb_machine.specs.History.{state_of}
use Rattle.usb_machine.specs.Parts.{part_of, held_of}
use Rattle.usb_machine.specs.Legal.{times, Follows}
use Rattle.usb_machine.specs.Calls.{plain_entry, mark_entry, marks_of, claims_of, claim_entries}
use Rattle.usb_machine.specs.HostCalls.{number_of}
use Rattle.usb_scene.specs.declared.scene.Scene.{Scene}
use Rattle.usb_scene.specs.WellFormed.{IsWellFormed}
use Rattle.usb_scene.specs.declared.scene.Call.{Call}
use Rattle.usb_prepare.specs.Layout.{urb_count}
use Rattle.usb_trace.specs.declared.rows.HostCall.TheVariants as host_call
use Rattle.usb_trace.specs.declared.rows.CallAnswer.TheVariants as told
use Rattle.usb_trace.specs.Plan.{machine_of, pass_of, host_call_of}
use Rattle.usb_prepare.specs.Below.{below}
use Rattle.usb_trace.specs.Claims.{claimed_by, numbers_of}
use Rattle.usb_trace.specs.Run.{urbs_of, CallRecord, host_call_entries, claimed_urbs, IsDownAnswer, IsAnswered}
use Rattle.usb_line.specs.Line.{Progress, adds, call_record, all_flagged, shut_marks, shutting, ClaimsEach, none, one, shut_down}
use Rattle.usb_trace.proofs.Entries.{AllFollow}
use Rattle.usb_trace.proofs.Claims.{AreNoClaim-append}
use Rattle.usb_line.proofs.MayFollow.{mark_follows, flag_follows}
use Rattle.usb_trace.proofs.Stills.{flags_still, flags_pass, marks_still, marks_pass}
use Rattle.usb_line.proofs.Each.{marks_by, each_follow}
use Rattle.usb_line.proofs.Held.{down_at, no_flag, all_flags, marks_no_flag, claims_no_flag, holds_down}
use Rattle.usb_line.proofs.HostCalls.{is_hubs}
use Rattle.usb_line.proofs.Marked.{times-append}
use Rattle.usb_line.proofs.Serving.{stills_bare, Serves}
use Rattle.usb_line.proofs.Waits.{wait_serves, wait_turned, wait_quiet}
use Rattle.usb_line.proofs.Passes.{not_server, is_pass}
use Rattle.usb_line.proofs.Makings.{IsMadeBy, made_none, made_entries, made_on, made_turned, claim_follow}
use Rattle.usb_line.proofs.Longer.{IsLonger, longer_on, longer_by, makes_longer}
use Rattle.usb_line.proofs.Claiming.{numbers-push, claims_length, claims_claim, claims_grown, flags_no_claim, marks_no_claim}
use Rattle.usb_line.proofs.Nows.{CanCall, IsCalled, state_down}

pub length-below : (n : ℕ) → length (below n) ≡ n
length-below zero = refl
length-below (suc n) = let a = length-below n in let b = length-append (below n) (n ∷ []) in omega arith

pub in_below : (n v : ℕ) → 0 < times v (below n) → v < n
in_below zero v l = absurd (omega arith)
in_below (suc n) v l = dite (ℕ_discrete n v) (λ is. omega arith)
    (λ other. let a = times-append v (below n) (n ∷ []) in let none : cond {A = ℕ} (eqb n v) 1 0 ≡ 0 = ap (λ b. cond {A = ℕ} b 1 0) (ne_eqb n v other) in
    let rest = in_below n v (omega arith) in omega arith)

pub all_below : (n v : ℕ) → v < n → 0 < times v (below n)
all_below zero v l = absurd (omega arith)
all_below (suc n) v l = let a = times-append v (below n) (n ∷ []) in dite (ℕ_discrete n v)
    (λ is. let one : cond {A = ℕ} (eqb n v) 1 0 ≡ 1 = ap (λ b. cond {A = ℕ} b 1 0) (eq-eqb n v is) in omega arith)
    (λ off. let r = all_below n v (omega arith) in omega arith)

module _ (s : Scene) (p : ℕ) (off : p ≢ SERVER) (there : p < 2 + (length s.threads + 3)) (f : Progress) where
  claims-push : (us : List ℕ) (rests : List (Option ℕ)) (u : ℕ) (rest : Option ℕ) → length rests ≡ length us → claims_of p (us ++ u ∷ []) (rests ++ rest ∷ []) ≡ claims_of p us rests ++ claim_entries p u rest
  claims-push [] [] u rest e = refl
  claims-push [] (r ∷ rests) u rest e = absurd (omega arith)
  claims-push (v ∷ us) [] u rest e = absurd (omega arith)
  claims-push (v ∷ us) (r ∷ rests) u rest e = ap (λ l. claim_entries p v r ++ l) (claims-push us rests u rest (omega arith))

  -- each of these URBs is waited for and claimed under the hub's flag
  claims_made : IsWellFormed s → (us : List ℕ) (rests : List (Option Transfer)) (m : Progress) → ClaimsEach s p f us rests m → ((v : ℕ) → 0 < times v us → down_at v (part_of f.history p) ≡ true) → Serves s f
      → IsMadeBy s f p (claims_of p us (numbers_of rests)) m
  claims_made good _ _ _ none flagged old = made_none s f p old
  claims_made good _ _ _ (one us rests u m k before waits) flagged old =
      let made = claims_made good us rests m before (λ v l. flagged v (let a = times-append v us (u ∷ []) in omega arith)) old in
      let here : 0 < times u (us ++ u ∷ []) = let a = times-append u us (u ∷ []) in let b : cond {A = ℕ} (eqb u u) 1 0 ≡ 1 = ap (λ b. cond {A = ℕ} b 1 0) (eq-eqb u u refl) in omega arith in
      let waited = made_turned s f m k p (claims_of p us (numbers_of rests)) off made (wait_serves s good u m k waits made.serves) (wait_turned s u m k waits) in
      let quiet = wait_quiet s u m k waits in
      let down : down_at u (part_of k.history p) ≡ true
      = ap (down_at u) waited.own ∙ (ap (λ f. f.down) (no_flag u (part_of f.history p) (claims_of p us (numbers_of rests)) (claims_no_flag p us (numbers_of rests))) ∙ flagged u here) in
      subst (λ xs. IsMadeBy s f p xs (adds k (claim_entries p u (state_of k.history u).rest))) (sym (ap (claims_of p (us ++ u ∷ [])) (numbers-push (machine_of s) rests k.history u waited.serves.legal)
      ∙ claims-push us (numbers_of rests) u (state_of k.history u).rest (length-map rests number_of ∙ claims_length s p off f us rests m before)))
      (made_on s f k (adds k (claim_entries p u (state_of k.history u).rest)) p (claims_of p us (numbers_of rests)) (claim_entries p u (state_of k.history u).rest) waited
      (made_entries s k p (claim_entries p u (state_of k.history u).rest) off (refl, (refl, tt))
      (claim_follow s p u there k.history quiet.0 quiet.1 (holds_down (held_of (part_of k.history p) u) down)) (tt, (tt, tt)) waited.serves))

module _ (s : Scene) (good : IsWellFormed s) (f : Progress) (i : ℕ) (c : Call) (can : CanCall s f i c) (is : host_call_of s c ≡ host_call.Down) (up : f.down ≡ false) where
  abbrev p : ℕ
  p = pass_of s i

  hub : p ≡ HUB
  hub = can.hub (ap is_hubs is)

  abbrev flags : List Entry
  flags = map (λ u. plain_entry p (Flag record { 0 = u } flag.Down)) (urbs_of s)

  flags_follow : AllFollow (machine_of s) f.history flags
  flags_follow = subst (λ p. AllFollow (machine_of s) f.history (map (λ u. plain_entry p (Flag record { 0 = u } flag.Down)) (urbs_of s))) (sym hub)
      (each_follow (λ u. plain_entry HUB (Flag record { 0 = u } flag.Down)) (λ u. (tt, refl)) f.history (machine_of s) (urb_count s)
      (λ u l k same. flag_follows s k u flag.Down (ap (λ (t : UrbState). t.flags.down) same ∙ state_down s f.history u false can.serves.legal (can.flags u l ∙ up))))

  flagged : IsMadeBy s f p flags (all_flagged s p f)
  flagged = made_entries s f p flags (not_server s i) (flags_pass p flag.Down (urbs_of s)) flags_follow (stills_bare s flags (flags_still p flag.Down (urbs_of s))) can.serves

  abbrev at_flags : List Entry
  at_flags = (all_flagged s p f).history

  abbrev answer : ℕ → Code
  answer u = unlinking (state_of at_flags u)

  abbrev marks : List Entry
  marks = marks_of p Shutdown (urbs_of s) (shut_marks s p f)

  marks_follow : AllFollow (machine_of s) at_flags marks
  marks_follow = subst (AllFollow (machine_of s) at_flags) (sym (marks_by p Shutdown answer (urbs_of s)))
      (each_follow (λ u. mark_entry p Shutdown u (answer u)) (λ u. (tt, refl)) at_flags (machine_of s) (urb_count s)
      (λ u l k same. subst (λ (a : Code). Follows (machine_of s) k (mark_entry p Shutdown u a)) (ap unlinking same) (mark_follows s k p u (is_pass s i can.near) Shutdown)))

  shut : IsMadeBy s f p (flags ++ marks) (shutting s p f)
  shut = made_on s f (all_flagged s p f) (shutting s p f) p flags marks flagged
      (made_entries s (all_flagged s p f) p marks (not_server s i) (marks_pass p Shutdown (urbs_of s) (shut_marks s p f)) marks_follow
      (stills_bare s marks (marks_still p Shutdown (urbs_of s) (shut_marks s p f))) flagged.serves)

  shut_longer : IsLonger f (shutting s p f)
  shut_longer = longer_on f (all_flagged s p f) (shutting s p f) (longer_by f flags) (longer_by (all_flagged s p f) marks)

  all_down : (v : ℕ) → 0 < times v (urbs_of s) → down_at v (part_of (shutting s p f).history p) ≡ true
  all_down v l = ap (down_at v) (shut.own ∙ sym (append_assoc (part_of f.history p) flags marks))
      ∙ (ap (λ f. f.down) (no_flag v (part_of f.history p ++ flags) marks (marks_no_flag p Shutdown (urbs_of s) (shut_marks s p f)))
      ∙ all_flags v (part_of f.history p) p (urb_count s) (in_below (urb_count s) v l))

  module _ (rests : List (Option Transfer)) (m : Progress) (claims : ClaimsEach s p (shutting s p f) (urbs_of s) rests m) where
    abbrev made : CallRecord
    made = call_record f i c told.Done (shut_marks s p f) rests

    -- the host is taken down
    pub down_called : IsCalled s f i made m
    down_called = record {
      made = subst (λ dd. IsMadeBy s f p (host_call_entries s p c dd told.Done (shut_marks s p f) (numbers_of rests) f.down) m) (sym is)
          (made_on s f (shutting s p f) m p (flags ++ marks) (claims_of p (urbs_of s) (numbers_of rests)) shut
          (claims_made s p (not_server s i) (is_pass s i can.near) (shutting s p f) good (urbs_of s) rests m claims all_down shut.serves));
      answered = subst (λ dd. IsAnswered s made dd told.Done) (sym is) (
        subst (λ b. IsDownAnswer b told.Done) (sym up) refl,
        λ _. (
          length-map (urbs_of s) answer ∙ length-below (urb_count s),
          claims_length s p (not_server s i) (shutting s p f) (urbs_of s) rests m claims ∙ length-below (urb_count s),
        ),
      );
      longer = makes_longer s f i c made m (shut_down rests m is up claims);
      each = subst (λ dd. length rests ≡ length (claimed_urbs s dd told.Done)) (sym is) (claims_length s p (not_server s i) (shutting s p f) (urbs_of s) rests m claims);
      claims = subst (λ dd. claimed_by p m.history ≡ claimed_by p f.history ++ zip (claimed_urbs s dd told.Done) rests) (sym is)
          (claims_claim s p (not_server s i) (shutting s p f) (urbs_of s) rests m claims
          ∙ ap (λ l. l ++ zip (urbs_of s) rests) (claims_grown f (shutting s p f) p shut_longer (flags ++ marks) shut.own (AreNoClaim-append flags marks (flags_no_claim p flag.Down (urbs_of s)) (marks_no_claim p Shutdown (urbs_of s) (shut_marks s p f)))));
    }

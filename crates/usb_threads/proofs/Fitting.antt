-- What a handler sends again its URB's home takes: where it is apt, and in a legal history.
use Rattle.std.proofs.Common.{ℕ, ◌≡◌, ◌<◌, ◌≤◌, Bool, true, false, not, cond, eqb, Option, Some, None, List, [], ◌∷◌, ◌++◌, map, refl, sym, ap, ◌∙◌, subst, arith, append-nil}
use Rattle.std.specs.Prelude.{slice_get, filter}
use Rattle.std.specs.List.{flat_map}
use Rattle.usb_types.specs.declared.errno.Code.{Code}
use Rattle.usb_types.specs.declared.errno.Code.TheVariants.{Zero, Fault}
use Rattle.usb_types.specs.declared.errno.Errno.{Errno}
use Rattle.usb_machine.specs.declared.entry.TheConstants.{SERVER}
use Rattle.usb_machine.specs.declared.event.Event.{Event}
use Rattle.usb_machine.specs.declared.event.Event.TheVariants.{Give, End}
use Rattle.usb_machine.specs.declared.event.Answer.{Answer}
use Rattle.usb_machine.specs.declared.layout.Shape.{Shape}
use Rattle.usb_machine.specs.declared.transfer.Transfer.{Transfer}
use Rattle.usb_machine.specs.declared.entry.Entry.{Entry}
use Rattle.usb_machine.specs.Shapes.{HasWindow, shape_fault, Accepts}
use Rattle.usb_machine.specs.State.{is_zero}
use Rattle.usb_machine.specs.History.{Machine, Episode, ended_by, episodes_of, state_of, pending_of, home_of, HasHome}
use Rattle.usb_machine.specs.Parts.{part_of}
use Rattle.usb_machine.specs.Legal.{times, May, Carries, IsLegal, empty, longer}
use Rattle.usb_machine.specs.Laws.{bit}
use Rattle.usb_machine.specs.Calls.{plain_entry}
use Rattle.usb_machine.proofs.Places.{placed}
use Rattle.usb_machine.proofs.Rooms.{queued_has_home, home_below}
use Rattle.usb_machine.proofs.Sent.{IsSent, queued_is_sent}
use Rattle.usb_scene.specs.declared.scene.Scene.{Scene}
use Rattle.usb_scene.specs.WellFormed.{IsWellFormed}
use Rattle.usb_prepare.specs.Ends.{shapes_of, shape_at}
use Rattle.usb_prepare.specs.Layout.{home, urb_count}
use Rattle.usb_trace.specs.declared.rows.Outcome.{Outcome}
use Rattle.usb_trace.specs.declared.rows.Outcome.TheVariants as outcome
use Rattle.usb_trace.specs.Plan.{machine_of, owner_of, question_at}
use Rattle.usb_trace.specs.Run.{Giveback, is_aside, submit_of, rest_entry, given_entries, handled_by, handler_entries, giveback_entries, moved_in, resent, episode_of}
use Rattle.usb_trace.proofs.Episodes.{episodes-append}
use Rattle.usb_trace.proofs.Homes.{home_shape}
use Rattle.usb_trace.specs.Devices.{IsApt}
use Rattle.usb_line.proofs.Lines.{in_pending_once}
use Rattle.usb_line.proofs.Resending.{moved_fits}
use Rattle.usb_threads.specs.Serving.{of_givebacks, completed_by, completion_entries, served_entries}
use Rattle.usb_threads.proofs.Sending.{EndEach}

module _ (s : Scene) where
  -- where the home takes what goes again, a handler adds what the run says
  same_completed : (u : ℕ) (back again : Transfer) (o : Outcome) → shape_fault (shape_at s (home s u)) again ≡ None → completed_by s u back again (question_at s u) o ≡ handled_by s u back again (question_at s u) o
  same_completed u back again outcome.Rest takes = refl
  same_completed u back again (outcome.Again c) takes =
      ap (λ (fault : Option Errno). submit_of fault SERVER u again c ++ cond (is_zero c) [] (rest_entry SERVER u again ∷ [])) takes
  same_completed u back again (outcome.Asked c) takes = refl

  pub same_served : (r : Giveback) → shape_fault (shape_at s (home s r.urb)) (resent s r) ≡ None → served_entries s r ≡ giveback_entries s r
  same_served r takes = ap (λ (l : List Entry). given_entries r.urb r.status r.finished ++ (l ++ plain_entry SERVER (End record { 0 = r.urb }) ∷ []))
      (same_completed r.urb (moved_in s r) (resent s r) r.outcome takes)

-- each of these episodes was of an URB that was sent with a transfer that its home takes
module _ (g : Machine) where
  abbrev pub EndSent : List Episode → Type 0
  EndSent [] = Unit {0}
  EndSent (e ∷ es) = IsSent g e.urb e.transfer × HasHome g e.urb × EndSent es

  EndSent-append : (es ds : List Episode) → EndSent es → EndSent ds → EndSent (es ++ ds)
  EndSent-append [] ds a b = b
  EndSent-append (e ∷ es) ds a b = (a.0, a.1, EndSent-append es ds a.2 b)

  pending_queued : (h : List Entry) → IsLegal g h → (u : ℕ) → 0 < times u (pending_of g h (home_of g u)) → (state_of h u).queued ≡ true
  pending_queued h legal u some = go (state_of h u).queued refl
    where
      go : (b : Bool) → (state_of h u).queued ≡ b → (state_of h u).queued ≡ true
      go true is = is
      go false is = let a = in_pending_once g h (home_of g u) u (placed g u h legal) in let z = ap bit is in absurd (omega arith)

  ended_sent : (h : List Entry) → IsLegal g h → (p : ℕ) (e : Event) (a : Answer) → May g h p e → EndSent (ended_by h e a)
  ended_sent h legal p (Give u) a may = let queued = pending_queued h legal u.0 may.1 in (queued_is_sent g u.0 h legal queued, queued_has_home g u.0 h legal queued, tt)
  ended_sent h legal p _ a may = tt

  pub ends_sent : (h : List Entry) → IsLegal g h → EndSent (episodes_of h)
  ends_sent _ empty = tt
  ends_sent _ (longer h x legal f) = subst EndSent (sym (episodes-append [] h (x ∷ []) ∙ ap (λ l. episodes_of h ++ l) (append-nil (ended_by h x.event x.answer))))
      (EndSent-append (episodes_of h) (ended_by h x.event x.answer) (ends_sent h legal) (ended_sent h legal x.pass x.event x.answer f.may))

module _ (s : Scene) (good : IsWellFormed s) where
  home_fault : (u : ℕ) → u < urb_count s → (t : Transfer) → Accepts (slice_get (shapes_of s) (home s u)) t → shape_fault (shape_at s (home s u)) t ≡ None
  home_fault u near t takes = subst (λ (o : Option Shape). Accepts o t) (home_shape s good u near) takes

  -- what was sent is apt and was taken, and so is taken what goes again of it
  again_fits : (r : Giveback) → IsApt s r.urb r.sent → IsSent (machine_of s) r.urb (Some r.sent) → shape_fault (shape_at s (home s r.urb)) (resent s r) ≡ None
  again_fits r apt sent =
      let same : sent.transfer ≡ r.sent = cc (sent.is) in
      let taken : Accepts (slice_get (shapes_of s) (home s r.urb)) r.sent = subst (Accepts (slice_get (shapes_of s) (home s r.urb))) same sent.taken in
      home_fault r.urb apt.near (resent s r)
      (moved_fits (owner_of s r.urb) (slice_get (shapes_of s) (home s r.urb)) (shape_at s (home s r.urb)) r.sent r.replies r.status taken apt.bare (subst HasWindow same sent.window)).1

  pub fits_apt : (rounds : List Giveback) → EndEach s (map episode_of rounds) → EndSent (machine_of s) (map episode_of rounds) → flat_map (served_entries s) rounds ≡ flat_map (giveback_entries s) rounds
  fits_apt [] apt sent = refl
  fits_apt (r ∷ rounds) apt sent = let one = same_served s r (again_fits r apt.0 sent.0) in let rest = fits_apt rounds apt.1 sent.2 in λ i. one i ++ rest i

-- what each entry of a legal history carries it may
module _ (g : Machine) where
  abbrev pub CarryEach : List Entry → Type 0
  CarryEach [] = Unit {0}
  CarryEach (x ∷ xs) = Carries g x.event x.carried × CarryEach xs

  CarryEach-append : (xs ys : List Entry) → CarryEach xs → CarryEach ys → CarryEach (xs ++ ys)
  CarryEach-append [] ys a b = b
  CarryEach-append (x ∷ xs) ys a b = (a.0, CarryEach-append xs ys a.1 b)

  carry_before : (xs ys : List Entry) → CarryEach (xs ++ ys) → CarryEach xs
  carry_before [] ys a = tt
  carry_before (x ∷ xs) ys a = (a.0, carry_before xs ys a.1)

  carry_behind : (xs ys : List Entry) → CarryEach (xs ++ ys) → CarryEach ys
  carry_behind [] ys a = a
  carry_behind (x ∷ xs) ys a = carry_behind xs ys a.1

  legal_carries : (h : List Entry) → IsLegal g h → CarryEach h
  legal_carries _ empty = tt
  legal_carries _ (longer h x legal f) = CarryEach-append h (x ∷ []) (legal_carries h legal) (f.carries, tt)

  -- and so does each of a pass, and of some of them
  part_carries : (p : ℕ) (xs : List Entry) → CarryEach xs → CarryEach (part_of xs p)
  part_carries p [] each = tt
  part_carries p (x ∷ xs) each = go (eqb x.pass p) (part_carries p xs each.1)
    where
      go : (b : Bool) → CarryEach (part_of xs p) → CarryEach (cond b (x ∷ part_of xs p) (part_of xs p))
      go true rest = (each.0, rest)
      go false rest = rest

  kept_carry : (keeps : Entry → Bool) (xs : List Entry) → CarryEach xs → CarryEach (filter keeps xs)
  kept_carry keeps [] each = tt
  kept_carry keeps (x ∷ xs) each = go (keeps x) (kept_carry keeps xs each.1)
    where
      go : (b : Bool) → CarryEach (filter keeps xs) → CarryEach (cond b (x ∷ filter keeps xs) (filter keeps xs))
      go true rest = (each.0, rest)
      go false rest = rest

  -- the givebacks of a pass carry what they may
  pub givebacks_carry : (h : List Entry) → IsLegal g h → (p : ℕ) → CarryEach (of_givebacks (part_of h p))
  givebacks_carry h legal p = kept_carry (λ x. not (is_aside x.event x.answer)) (part_of h p) (part_carries p h (legal_carries h legal))

module _ (s : Scene) (good : IsWellFormed s) where
  abbrev g : Machine
  g = machine_of s

  -- a handler whose entries stand in a legal history sent again what its URB's home takes
  carried_again : (u : ℕ) → u < urb_count s → (back again : Transfer) (o : Outcome) → CarryEach g (handled_by s u back again (question_at s u) o) → completed_by s u back again (question_at s u) o ≡ handled_by s u back again (question_at s u) o
  carried_again u near back again outcome.Rest each = refl
  carried_again u near back again (outcome.Again c) each = same_completed s u back again (outcome.Again c) (home_fault s good u near again each.0.3)
  carried_again u near back again (outcome.Asked c) each = refl

  pub fits_legal : (rounds : List Giveback) → EndSent g (map episode_of rounds) → CarryEach g (flat_map (giveback_entries s) rounds) → flat_map (served_entries s) rounds ≡ flat_map (giveback_entries s) rounds
  fits_legal [] near each = refl
  fits_legal (r ∷ rounds) near each =
      let given = given_entries r.urb r.status r.finished in
      let own = carry_before g (giveback_entries s r) (flat_map (giveback_entries s) rounds) each in
      let done = handled_by s r.urb (moved_in s r) (resent s r) (question_at s r.urb) r.outcome in
      let handled = carry_before g done (plain_entry SERVER (End record { 0 = r.urb }) ∷ []) (carry_behind g given (handler_entries s r) own) in
      let one = carried_again r.urb (home_below g r.urb near.1) (moved_in s r) (resent s r) r.outcome handled in
      let rest = fits_legal rounds near.2 (carry_behind g (giveback_entries s r) (flat_map (giveback_entries s) rounds) each) in
      λ i. (given ++ (one i ++ plain_entry SERVER (End record { 0 = r.urb }) ∷ [])) ++ rest i

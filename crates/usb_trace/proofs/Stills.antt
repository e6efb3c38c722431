-- Entries that move no URB: no line, no pending list and nothing that was sent changes.
use Rattle.std.proofs.Common.{ℕ, ◌≡◌, false, fold, Option, None, List, [], ◌∷◌, ◌++◌, map, refl, ap, ◌∙◌}
use Rattle.std.proofs.lemmas.List.Sums.{fold-append}
use Rattle.usb_types.specs.declared.errno.Code.{Code}
use Rattle.usb_types.specs.declared.urb.Why.{Why}
use Rattle.usb_types.specs.declared.urb.Flag.{Flag as FlagName}
use Rattle.usb_machine.specs.declared.event.Event.{Event}
use Rattle.usb_machine.specs.declared.event.Event.TheVariants.{Submit, Link, Take, Finish, Give, Rest, End, Flag, Unflag}
use Rattle.usb_machine.specs.declared.event.Answer.{Answer}
use Rattle.usb_machine.specs.declared.transfer.Transfer.{Transfer}
use Rattle.usb_machine.specs.declared.entry.Entry.{Entry}
use Rattle.usb_machine.specs.History.{Machine, line_of, line_after, pending_of, pending_after, sent_of, sent_after}
use Rattle.usb_machine.specs.Parts.{owes, owes_after}
use Rattle.usb_machine.specs.Calls.{plain_entry, marks_of}
use Rattle.usb_trace.proofs.Entries.{AreOf}

-- the event neither queues an URB nor moves it between lists, and it ends no handler and marks nothing as finished
abbrev pub IsStill : Event → Type 0
IsStill (Submit u n) = ⊥
IsStill (Link u) = ⊥
IsStill (Take e) = ⊥
IsStill (Finish u c) = ⊥
IsStill (Give u) = ⊥
IsStill (Rest u n) = ⊥
IsStill (End u) = ⊥
IsStill _ = Unit {0}

abbrev pub AreStill : List Entry → Type 0
AreStill [] = Unit {0}
AreStill (x ∷ xs) = IsStill x.event × AreStill xs

pub AreStill-append : (xs ys : List Entry) → AreStill xs → AreStill ys → AreStill (xs ++ ys)
AreStill-append [] ys a b = b
AreStill-append (x ∷ xs) ys a b = (a.0, AreStill-append xs ys a.1 b)

still_line : (g : Machine) (e : ℕ) (us : List ℕ) (event : Event) → IsStill event → line_after g e us event ≡ us
still_line g e us (Submit u n) is = refl
still_line g e us (Link u) is = absurd is
still_line g e us (Take d) is = absurd is
still_line g e us _ is = refl

still_pending : (g : Machine) (e : ℕ) (us : List ℕ) (event : Event) (a : Answer) → IsStill event → pending_after g e us event a ≡ us
still_pending g e us (Take d) a is = absurd is
still_pending g e us (Give u) a is = absurd is
still_pending g e us _ a is = refl

still_sent : (v : ℕ) (t : Option Transfer) (event : Event) (a : Answer) (c : Option Transfer) → IsStill event → sent_after v t event a c ≡ t
still_sent v t (Submit u n) a c is = absurd is
still_sent v t _ a c is = refl

still_owes : (v : ℕ) (event : Event) (a : Answer) → IsStill event → owes_after v false event a ≡ false
still_owes v (Submit u n) a is = absurd is
still_owes v (Link u) a is = absurd is
still_owes v _ a is = refl

module _ (h xs : List Entry) (is : AreStill xs) where
  pub stills_line : (g : Machine) (e : ℕ) → line_of g (h ++ xs) e ≡ line_of g h e
  stills_line g e = fold-append (λ us x. line_after g e us x.event) [] h xs ∙ go xs is (line_of g h e)
    where
      go : (xs : List Entry) → AreStill xs → (us : List ℕ) → fold (λ us x. line_after g e us x.event) us xs ≡ us
      go [] is us = refl
      go (x ∷ xs) is us = ap (λ l. fold (λ us x. line_after g e us x.event) l xs) (still_line g e us x.event is.0) ∙ go xs is.1 us

  pub stills_pending : (g : Machine) (e : ℕ) → pending_of g (h ++ xs) e ≡ pending_of g h e
  stills_pending g e = fold-append (λ us x. pending_after g e us x.event x.answer) [] h xs ∙ go xs is (pending_of g h e)
    where
      go : (xs : List Entry) → AreStill xs → (us : List ℕ) → fold (λ us x. pending_after g e us x.event x.answer) us xs ≡ us
      go [] is us = refl
      go (x ∷ xs) is us = ap (λ l. fold (λ us x. pending_after g e us x.event x.answer) l xs) (still_pending g e us x.event x.answer is.0) ∙ go xs is.1 us

  pub stills_sent : (v : ℕ) → sent_of (h ++ xs) v ≡ sent_of h v
  stills_sent v = fold-append (λ (t : Option Transfer) x. sent_after v t x.event x.answer x.carried) None h xs ∙ go xs is (sent_of h v)
    where
      go : (xs : List Entry) → AreStill xs → (t : Option Transfer) → fold (λ (t : Option Transfer) x. sent_after v t x.event x.answer x.carried) t xs ≡ t
      go [] is t = refl
      go (x ∷ xs) is t = ap (λ (l : Option Transfer). fold (λ (t : Option Transfer) x. sent_after v t x.event x.answer x.carried) l xs) (still_sent v t x.event x.answer x.carried is.0) ∙ go xs is.1 t

  pub stills_owe : (v : ℕ) → owes h v ≡ false → owes (h ++ xs) v ≡ false
  stills_owe v none = fold-append (λ b x. owes_after v b x.event x.answer) false h xs ∙ (ap (λ b. fold (λ b x. owes_after v b x.event x.answer) b xs) none ∙ go xs is)
    where
      go : (xs : List Entry) → AreStill xs → fold (λ b x. owes_after v b x.event x.answer) false xs ≡ false
      go [] is = refl
      go (x ∷ xs) is = ap (λ b. fold (λ b x. owes_after v b x.event x.answer) b xs) (still_owes v x.event x.answer is.0) ∙ go xs is.1

-- flags, marks and claims of some URBs
module _ (p : ℕ) where
  pub flags_still : (f : FlagName) (us : List ℕ) → AreStill (map (λ u. plain_entry p (Flag record { 0 = u } f)) us)
  flags_still f [] = tt
  flags_still f (u ∷ us) = (tt, flags_still f us)

  pub flags_pass : (f : FlagName) (us : List ℕ) → AreOf p (map (λ u. plain_entry p (Flag record { 0 = u } f)) us)
  flags_pass f [] = tt
  flags_pass f (u ∷ us) = (refl, flags_pass f us)

  pub unflags_still : (f : FlagName) (us : List ℕ) → AreStill (map (λ u. plain_entry p (Unflag record { 0 = u } f)) us)
  unflags_still f [] = tt
  unflags_still f (u ∷ us) = (tt, unflags_still f us)

  pub unflags_pass : (f : FlagName) (us : List ℕ) → AreOf p (map (λ u. plain_entry p (Unflag record { 0 = u } f)) us)
  unflags_pass f [] = tt
  unflags_pass f (u ∷ us) = (refl, unflags_pass f us)

  pub marks_still : (why : Why) (us : List ℕ) (answers : List Code) → AreStill (marks_of p why us answers)
  marks_still why [] answers = tt
  marks_still why (u ∷ us) [] = tt
  marks_still why (u ∷ us) (a ∷ answers) = (tt, marks_still why us answers)

  pub marks_pass : (why : Why) (us : List ℕ) (answers : List Code) → AreOf p (marks_of p why us answers)
  marks_pass why [] answers = tt
  marks_pass why (u ∷ us) [] = tt
  marks_pass why (u ∷ us) (a ∷ answers) = (refl, marks_pass why us answers)

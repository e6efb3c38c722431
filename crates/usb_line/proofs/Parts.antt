-- Of the entries of givebacks, those of the controller and those of the handlers.
use Rattle.std.proofs.Common.{◌≡◌, Bool, true, false, ◌&&◌, not, cond, List, [], ◌∷◌, ◌++◌, refl, sym, ap, ◌∙◌, append-nil, true≢false}
use Rattle.std.specs.Prelude.{ℕ, filter}
use Rattle.std.specs.List.{flat_map}
use Rattle.std.proofs.lemmas.List.Elements.{filter-append}
use Rattle.std.proofs.lemmas.List.Concat.{flat_map-cons}
use Rattle.usb_types.specs.declared.errno.Code.{Code}
use Rattle.usb_types.specs.declared.errno.Code.TheVariants.{Zero, Fault}
use Rattle.usb_machine.specs.declared.entry.TheConstants.{SERVER}
use Rattle.usb_machine.specs.declared.entry.Entry.{Entry}
use Rattle.usb_machine.specs.declared.event.Event.{Event}
use Rattle.usb_machine.specs.declared.event.Event.TheVariants.{Take, Finish}
use Rattle.usb_machine.specs.declared.event.Answer.{Answer}
use Rattle.usb_machine.specs.declared.transfer.Transfer.{Transfer}
use Rattle.usb_machine.specs.Calls.{submit_entries}
use Rattle.usb_scene.specs.declared.scene.Scene.{Scene}
use Rattle.usb_trace.specs.declared.rows.Outcome.{Outcome}
use Rattle.usb_trace.specs.declared.rows.Outcome.TheVariants as outcome
use Rattle.usb_trace.specs.Plan.{question_at}
use Rattle.usb_trace.specs.Run.{Giveback, is_aside, is_handlers, moved_in, resent, handled_by, handler_entries, given_entries, giveback_entries}
use Rattle.usb_trace.proofs.AskedEach.{asked_each}

filter_and : (p q : Entry → Bool) (xs : List Entry) → filter (λ x. p x && q x) xs ≡ filter q (filter p xs)
filter_and p q [] = refl
filter_and p q (x ∷ xs) = go (p x) (filter_and p q xs)
  where
    go : (b : Bool) → filter (λ y. p y && q y) xs ≡ filter q (filter p xs)
        → cond (b && q x) (x ∷ filter (λ y. p y && q y) xs) (filter (λ y. p y && q y) xs) ≡ filter q (cond b (x ∷ filter p xs) (filter p xs))
    go true rest = ap (λ l. cond (q x) (x ∷ l) l) rest
    go false rest = rest

filter_within : (p q : Entry → Bool) → ((x : Entry) → q x ≡ true → p x ≡ true) → (xs : List Entry) → filter q xs ≡ filter q (filter p xs)
filter_within p q within [] = refl
filter_within p q within (x ∷ xs) = go (p x) refl (filter_within p q within xs)
  where
    off : p x ≡ false → (b : Bool) → q x ≡ b → q x ≡ false
    off is true e = absurd (true≢false (sym (within x e) ∙ is))
    off is false e = e

    go : (b : Bool) → p x ≡ b → filter q xs ≡ filter q (filter p xs)
        → cond (q x) (x ∷ filter q xs) (filter q xs) ≡ filter q (cond b (x ∷ filter p xs) (filter p xs))
    go true is rest = ap (λ l. cond (q x) (x ∷ l) l) rest
    go false is rest = ap (λ b. cond b (x ∷ filter q xs) (filter q xs)) (off is (q x) refl) ∙ rest

-- entries of handlers alone
abbrev AllHandle : List Entry → Type 0
AllHandle [] = Unit {0}
AllHandle (x ∷ xs) = (is_handlers x.event ≡ true) × AllHandle xs

AllHandle-append : (xs ys : List Entry) → AllHandle xs → AllHandle ys → AllHandle (xs ++ ys)
AllHandle-append [] ys a b = b
AllHandle-append (x ∷ xs) ys a b = (a.0, AllHandle-append xs ys a.1 b)

keeps : (xs : List Entry) → AllHandle xs → filter (λ x. is_handlers x.event) xs ≡ xs
keeps [] all = refl
keeps (x ∷ xs) all = ap (λ b. cond b (x ∷ filter (λ x. is_handlers x.event) xs) (filter (λ x. is_handlers x.event) xs)) all.0 ∙ ap (λ l. x ∷ l) (keeps xs all.1)

drops : (xs : List Entry) → AllHandle xs → filter (λ x. not (is_handlers x.event)) xs ≡ []
drops [] all = refl
drops (x ∷ xs) all = ap (λ b. cond (not b) (x ∷ filter (λ x. not (is_handlers x.event)) xs) (filter (λ x. not (is_handlers x.event)) xs)) all.0 ∙ drops xs all.1

submit_handles : (p u : ℕ) (t : Transfer) (c : Code) → AllHandle (submit_entries p u t c)
submit_handles p u t Zero = (refl, (refl, tt))
submit_handles p u t (Fault e) = (refl, tt)

handle : (s : Scene) (r : Giveback) → AllHandle (handler_entries s r)
handle s r = AllHandle-append (handled_by s r.urb (moved_in s r) (resent s r) (question_at s r.urb) r.outcome) _ (go r.outcome) (refl, tt)
  where
    go : (o : Outcome) → AllHandle (handled_by s r.urb (moved_in s r) (resent s r) (question_at s r.urb) o)
    go outcome.Rest = (refl, tt)
    go (outcome.Again Zero) = (refl, (refl, tt))
    go (outcome.Again (Fault e)) = (refl, (refl, tt))
    go (outcome.Asked c) = (refl, asked_each s AllHandle (question_at s r.urb) c tt (λ a is none. submit_handles SERVER a.urb a.transfer c))

none_given : (u : ℕ) (status : Code) (b : Bool) → filter (λ x. is_handlers x.event) (given_entries u status b) ≡ []
none_given u status true = refl
none_given u status false = refl

all_given : (u : ℕ) (status : Code) (b : Bool) → filter (λ x. not (is_handlers x.event)) (given_entries u status b) ≡ given_entries u status b
all_given u status true = refl
all_given u status false = refl

of_rounds : (q : Entry → Bool) (f g : Giveback → List Entry) → ((r : Giveback) → filter q (f r) ≡ g r) → (rounds : List Giveback) → filter q (flat_map f rounds) ≡ flat_map g rounds
of_rounds q f g each [] = refl
of_rounds q f g each (r ∷ rounds) = ap (filter q) (flat_map-cons f r rounds)
    ∙ (filter-append q (f r) (flat_map f rounds)
    ∙ ((λ i. each r i ++ of_rounds q f g each rounds i) ∙ sym (flat_map-cons g r rounds)))

is_no_aside : (e : Event) (a : Answer) → is_handlers e ≡ true → not (is_aside e a) ≡ true
is_no_aside (Take e) a is = absurd (true≢false (sym is))
is_no_aside (Finish u c) a is = absurd (true≢false (sym is))
is_no_aside _ a is = refl

module _ (s : Scene) (xs : List Entry) (rounds : List Giveback) (all : filter (λ x. not (is_aside x.event x.answer)) xs ≡ flat_map (giveback_entries s) rounds) where
  pub of_controller : filter (λ x. not (is_aside x.event x.answer) && not (is_handlers x.event)) xs ≡ flat_map (λ r. given_entries r.urb r.status r.finished) rounds
  of_controller = filter_and (λ x. not (is_aside x.event x.answer)) (λ x. not (is_handlers x.event)) xs
      ∙ (ap (filter (λ x. not (is_handlers x.event))) all
      ∙ of_rounds (λ x. not (is_handlers x.event)) (giveback_entries s) (λ r. given_entries r.urb r.status r.finished) one rounds)
    where
      one : (r : Giveback) → filter (λ x. not (is_handlers x.event)) (giveback_entries s r) ≡ given_entries r.urb r.status r.finished
      one r = filter-append (λ x. not (is_handlers x.event)) (given_entries r.urb r.status r.finished) (handler_entries s r)
          ∙ ((λ i. all_given r.urb r.status r.finished i ++ drops (handler_entries s r) (handle s r) i) ∙ append-nil (given_entries r.urb r.status r.finished))

  pub of_handlers : filter (λ x. is_handlers x.event) xs ≡ flat_map (handler_entries s) rounds
  of_handlers = filter_within (λ x. not (is_aside x.event x.answer)) (λ x. is_handlers x.event) (λ x is. is_no_aside x.event x.answer is) xs
      ∙ (ap (filter (λ x. is_handlers x.event)) all
      ∙ of_rounds (λ x. is_handlers x.event) (giveback_entries s) (handler_entries s) one rounds)
    where
      one : (r : Giveback) → filter (λ x. is_handlers x.event) (giveback_entries s r) ≡ handler_entries s r
      one r = filter-append (λ x. is_handlers x.event) (given_entries r.urb r.status r.finished) (handler_entries s r)
          ∙ (λ i. none_given r.urb r.status r.finished i ++ keeps (handler_entries s r) (handle s r) i)

-- One more step of a list of steps.
use Rattle.std.proofs.Common.{◌≡◌, ℕ, zero, suc, ◌+◌, ◌<◌, List, [], ◌∷◌, ◌++◌, map, length, take, drop, get_or, sym, refl, ap, ◌∙◌, subst, arith, Option, length-append}
use Rattle.std.proofs.lemmas.List.{take_more, map-append, length-map}
use Rattle.std.specs.List.{take-map}
use Rattle.usb_machine.specs.declared.event.Event.{Event}
use Rattle.usb_machine.specs.declared.event.Event.TheVariants.{Take}
use Rattle.usb_machine.specs.declared.event.Answer.{Answer}
use Rattle.usb_machine.specs.declared.transfer.Transfer.{Transfer}
use Rattle.usb_machine.specs.declared.entry.Entry.{Entry}
use Rattle.usb_machine.specs.declared.replays.Step.{Step}
use Rattle.usb_machine.specs.declared.plain.Plain.{Plain}
use Rattle.usb_machine.specs.State.{answer_of}
use Rattle.usb_machine.specs.History.{Machine, state_of, line_of}
use Rattle.usb_machine.specs.Legal.{urb_of, end_of, Carries, Follows, IsLegal, empty, longer}
use Rattle.usb_machine.specs.Plain.{IsInside, Stands}
use Rattle.usb_machine.specs.Replay.{StepFits, IsAnswer, MakesStep, entries, CarryAll, IsWithin, step_of, CanReplay, answers_in}
use Rattle.usb_machine.proofs.Prefixes.{legal_before, follows_before}

abbrev carried_in : List Entry → List (Option Transfer)
carried_in h = map (λ x. x.carried) h

-- a history is made of its steps, answers and what it carries
entries_of : (h : List Entry) → entries (map step_of h) (answers_in h) (carried_in h) ≡ h
entries_of [] = refl
entries_of (x ∷ h) = ap (λ l. x ∷ l) (entries_of h)

carry_more : (g : Machine) (steps : List Step) (cs : List (Option Transfer)) (s : Step) (c : Option Transfer) → CarryAll g steps cs → Carries g s.event c → CarryAll g (steps ++ s ∷ []) (cs ++ c ∷ [])
carry_more g [] [] s c all one = (one, tt)
carry_more g [] (d ∷ cs) s c all one = absurd all
carry_more g (t ∷ steps) [] s c all one = absurd all
carry_more g (t ∷ steps) (d ∷ cs) s c all one = (all.0, carry_more g steps cs s c all.1 one)

carries_of : (g : Machine) (h : List Entry) → IsLegal g h → CarryAll g (map step_of h) (carried_in h)
carries_of g _ empty = tt
carries_of g _ (longer h x legal f) =
    let old = carries_of g h legal in let both = carry_more g (map step_of h) (carried_in h) (step_of x) x.carried old f.carries in
    subst (λ cs. CarryAll g (map step_of (h ++ x ∷ [])) cs) (sym (map-append (λ (y : Entry). y.carried) h (x ∷ [])))
    (subst (λ l. CarryAll g l (carried_in h ++ x.carried ∷ [])) (sym (map-append step_of h (x ∷ []))) both)

-- what one step more carries is the last
record Parts (g : Machine) (steps : List Step) (s : Step) (carried : List (Option Transfer)) : Type 0 where
  first : List (Option Transfer)
  last : Option Transfer
  is : carried ≡ first ++ last ∷ []
  all : CarryAll g steps first
  one : Carries g s.event last

split : (g : Machine) (steps : List Step) (s : Step) (carried : List (Option Transfer)) → CarryAll g (steps ++ s ∷ []) carried → Parts g steps s carried
split g [] s [] k = absurd k
split g [] s (c ∷ []) k = record { first = []; last = c; is = refl; all = tt; one = k.0 }
split g [] s (c ∷ (d ∷ cs)) k = absurd k.1
split g (t ∷ steps) s [] k = absurd k
split g (t ∷ steps) s (c ∷ cs) k = let p = split g steps s cs k.1 in record { first = c ∷ p.first; last = p.last; is = ap (λ l. c ∷ l) p.is; all = (k.0, p.all); one = p.one }

entries-snoc : (g : Machine) (steps : List Step) (answers : List Answer) (cs : List (Option Transfer)) (s : Step) (a : Answer) (c : Option Transfer) → length answers ≡ length steps → CarryAll g steps cs
    → entries (steps ++ s ∷ []) (answers ++ a ∷ []) (cs ++ c ∷ []) ≡ entries steps answers cs ++ record { pass = s.pass; event = s.event; answer = a; carried = c } ∷ []
entries-snoc g [] [] [] s a c l k = refl
entries-snoc g [] [] (d ∷ cs) s a c l k = absurd k
entries-snoc g [] (b ∷ answers) cs s a c l k = absurd (omega arith)
entries-snoc g (t ∷ steps) [] cs s a c l k = absurd (omega arith)
entries-snoc g (t ∷ steps) (b ∷ answers) [] s a c l k = absurd k
entries-snoc g (t ∷ steps) (b ∷ answers) (d ∷ cs) s a c l k = ap (λ h. record { pass = t.pass; event = t.event; answer = b; carried = d } ∷ h) (entries-snoc g steps answers cs s a c (omega arith) k.1)

-- an entry of a history, between what is before it and what follows it
at_index : (h : List Entry) (i : ℕ) → i < length h → (x : Entry) × (h ≡ take i h ++ x ∷ drop (suc i) h) × (take (i + 1) h ≡ take i h ++ x ∷ [])
at_index [] i l = absurd (omega arith)
at_index (y ∷ h) zero l = (y, refl, refl)
at_index (y ∷ h) (suc i) l = let m = at_index h i (omega arith) in
    (m.0, ap (λ l. y ∷ l) m.1, ap (λ k. take k (y ∷ h)) (let e : suc i + 1 ≡ suc (i + 1) = omega arith in e) ∙ ap (λ l. y ∷ l) m.2)

is_inside : (plain : Plain) (g : Machine) (h : List Entry) → Stands plain g h → (e : Event) → IsWithin g e → IsInside plain e
is_inside plain g h s (Take d) w = subst (λ n. d < n) (sym s.ends) w
is_inside plain g h s e w = subst (λ n. urb_of e < n) (sym s.urbs) w

module _ (g : Machine) (steps : List Step) (answers : List Answer) (plain : Plain) (i : ℕ) (each : length answers ≡ length (take i steps))
    (stands : (cs : List (Option Transfer)) → CarryAll g (take i steps) cs → Stands plain g (entries (take i steps) answers cs)) (d : Step) (l : i < length steps) where
  -- the step at the index
  abbrev pub s : Step
  s = get_or steps i d

  more : take (i + 1) steps ≡ take i steps ++ s ∷ []
  more = take_more steps i d l

  pub each_more : (a : Answer) → length (answers ++ a ∷ []) ≡ length (take (i + 1) steps)
  each_more a = length-append answers (a ∷ []) ∙ (ap (λ n. n + 1) each ∙ (sym (length-append (take i steps) (s ∷ [])) ∙ ap length (sym more)))

  pub stands_more : (now : Plain) (a : Answer) → ((k : Machine) (h : List Entry) → Stands plain k h → StepFits plain k h s)
      → MakesStep plain now s a
      → (cs : List (Option Transfer)) → CarryAll g (take (i + 1) steps) cs → Stands now g (entries (take (i + 1) steps) (answers ++ a ∷ []) cs)
  stands_more now a fits stepped cs k =
      let p = split g (take i steps) s cs (subst (λ l. CarryAll g l cs) more k) in let h = entries (take i steps) answers p.first in
      let old = stands p.first p.all in let f = (fits g h old).fits in
      let new = stepped.makes g h p.last old record { pass = f.0; may = f.2; room = f.3; carries = p.one } in
      subst (λ l. Stands now g (entries l (answers ++ a ∷ []) cs)) (sym more) (subst (λ k. Stands now g (entries (take i steps ++ s ∷ []) (answers ++ a ∷ []) k)) (sym p.is)
      (subst (Stands now g) (sym (entries-snoc g (take i steps) answers p.first s a p.last each p.all)) new))

  module _ (h : List Entry) (can : CanReplay g h steps) (known : answers ≡ answers_in (take i h)) where
    made : map step_of (take i h) ≡ take i steps
    made = sym (take-map step_of i h) ∙ ap (take i) can.made

    long : i < length h
    long = let same : length h ≡ length steps = sym (length-map h step_of) ∙ ap length can.made in omega arith

    entry : (x : Entry) × (h ≡ take i h ++ x ∷ drop (suc i) h) × (take (i + 1) h ≡ take i h ++ x ∷ [])
    entry = at_index h i long

    whole : IsLegal g (take i h ++ entry.0 ∷ drop (suc i) h)
    whole = subst (IsLegal g) entry.1 can.legal

    pub here : Stands plain g (take i h)
    here = let legal = legal_before g (take i h) entry.0 (drop (suc i) h) whole in
        let all : CarryAll g (take i steps) (carried_in (take i h)) = subst (λ l. CarryAll g l (carried_in (take i h))) made (carries_of g (take i h) legal) in
        let same : entries (take i steps) answers (carried_in (take i h)) ≡ take i h = ap (λ l. entries l answers (carried_in (take i h))) (sym made) ∙ (ap (λ l. entries (map step_of (take i h)) l (carried_in (take i h))) known ∙ entries_of (take i h)) in
        subst (Stands plain g) same (stands (carried_in (take i h)) all)

    is_step : step_of entry.0 ≡ s
    is_step = let at : take (i + 1) steps ≡ take i steps ++ step_of entry.0 ∷ [] = ap (take (i + 1)) (sym can.made) ∙ (take-map step_of (i + 1) h ∙ (ap (map step_of) entry.2 ∙ (map-append step_of (take i h) (entry.0 ∷ []) ∙ ap (λ l. l ++ step_of entry.0 ∷ []) made))) in
        last (take i steps) (sym at ∙ more)
      where
        last : (ts : List Step) → ts ++ step_of entry.0 ∷ [] ≡ ts ++ s ∷ [] → step_of entry.0 ≡ s
        last [] e = cc (e)
        last (t ∷ ts) e = last ts (cc (e))

    follows : Follows g (take i h) entry.0
    follows = follows_before g (take i h) entry.0 (drop (suc i) h) whole

    pub fits_here : StepFits plain g (take i h) s
    fits_here = let w = can.within (take i h) entry.0 (drop (suc i) h) entry.1 in subst (StepFits plain g (take i h)) is_step
        (record { fits = (follows.pass, is_inside plain g (take i h) here entry.0.event w.0, follows.may, w.1) })

    pub answers_more : (a : Answer) → IsAnswer plain s a → answers ++ a ∷ [] ≡ answers_in (take (i + 1) h)
    answers_more a said = let is : a ≡ entry.0.answer = said.answers g (take i h) here ∙ (ap (λ (t : Step). answer_of t.event (state_of (take i h) (urb_of t.event)) (line_of g (take i h) (end_of t.event))) (sym is_step) ∙ sym follows.answers) in
        ap (λ l. l ++ a ∷ []) known ∙ (ap (λ b. answers_in (take i h) ++ b ∷ []) is ∙ (sym (map-append (λ (y : Entry). y.answer) (take i h) (entry.0 ∷ [])) ∙ ap answers_in (sym entry.2)))

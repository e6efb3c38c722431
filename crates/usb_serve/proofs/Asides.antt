-- What the entries of turns, handlers and rounds leave: no Link is owed, and an URB that was rejected and unlinked stays so.
use Rattle.std.proofs.Common.{ℕ, zero, suc, ◌≡◌, ◌+◌, ◌<◌, Bool, true, false, cond, eqb, Some, List, [], ◌∷◌, ◌++◌, length, refl, sym, ap, ◌∙◌, subst, arith, eq-eqb, ne_eqb, true≢false, append_assoc, append-nil, Option, Result}
use Rattle.std.specs.Prelude.{◌&&◌}
use mathlib.Core.Logic.{dite}
use native.Mathlib.Decide.{ℕ_discrete}
use Rattle.usb_types.specs.declared.urb.UrbId.{UrbId}
use Rattle.usb_types.specs.declared.urb.Why.TheVariants.{Kill}
use Rattle.usb_types.specs.declared.errno.Code.{Code}
use Rattle.usb_types.specs.declared.errno.Code.TheVariants.{Zero, Fault}
use Rattle.usb_types.specs.declared.errno.Errno.TheVariants.{EBUSY, ENODEV, EPERM, ENOENT, ESHUTDOWN, EINPROGRESS, EIDRM}
use Rattle.usb_types.specs.declared.outside.Memory.{Memory}
use Rattle.usb_machine.specs.declared.entry.Entry.{Entry}
use Rattle.usb_machine.specs.declared.entry.TheConstants.{SERVER}
use Rattle.usb_machine.specs.declared.event.Event.{Event}
use Rattle.usb_machine.specs.declared.event.Event.TheVariants.{Submit, Link, Take, Mark, Finish, Give, Rest, End, Reject, Withdraw, Quiet, Claim, Flag, Unflag}
use Rattle.usb_machine.specs.declared.event.Answer.{Answer}
use Rattle.usb_machine.specs.declared.event.Answer.TheVariants.{Code as Status}
use Rattle.usb_machine.specs.declared.state.UrbState.{UrbState}
use Rattle.usb_machine.specs.declared.state.Mark.TheVariants.{Clear, Unlinked, Finished}
use Rattle.usb_machine.specs.declared.transfer.Transfer.{Transfer}
use Rattle.usb_machine.specs.State.{is_clear, refusal, unlinking, answer_of, is_zero, accepted, is_in_progress, unlinks, finishes, after}
use Rattle.usb_machine.specs.History.{Machine, state_of, line_of, is_of}
use Rattle.usb_machine.specs.Parts.{part_of, owes, owes_after}
use Rattle.usb_machine.specs.Legal.{IsLegal, Follows, urb_of, end_of}
use Rattle.usb_machine.specs.Calls.{entry, plain_entry, mark_entry, submit_entries}
use Rattle.usb_machine.proofs.Steps.{state_of-snoc, owes_own, owes_other}
use Rattle.usb_machine.proofs.PassRows.{is_of_other}
use Rattle.usb_machine.proofs.Prefixes.{follows_before, legal_beginning}
use Rattle.usb_serve.specs.declared.handler.Outcome.{Outcome}
use Rattle.usb_serve.specs.Handlers.{windowed}
use Rattle.usb_serve.specs.Bridge.{took, takes_of, takes_below}
use Rattle.usb_serve.specs.Growing.{HandlerAdds, rested, accepted as accepted_so, refused, unfit, asked, asked_refused, asked_unfit, lacking, TurnAdds, marked, ended, idle, Round, Rounds, IsCall, end_entry, rest_entry, finish_entry, give_entry}
use Rattle.usb_serve.specs.Growing as growing
use Rattle.usb_serve.specs.Solo.{stop_entries}

-- an event that neither submits nor links, and withdraws nothing
abbrev pub IsAside : Event → Type 0
IsAside (Submit u n) = ⊥
IsAside (Link u) = ⊥
IsAside (Withdraw u) = ⊥
IsAside event = Unit {0}

-- such events, and submits with their links
pub data Asides : List Entry → Type 0 where
  nothing : Asides []
  single : (x : Entry) → IsAside x.event → Asides (x ∷ [])
  submit : (p u : ℕ) (t : Transfer) (code : Code) → Asides (submit_entries p u t code)
  both : (es fs : List Entry) → Asides es → Asides fs → Asides (es ++ fs)

of_takes : (e : ℕ) (us : List ℕ) → Asides (takes_of e us)
of_takes e [] = nothing
of_takes e (u ∷ us) = both (took e u ∷ []) (takes_of e us) (single (took e u) tt) (of_takes e us)

of_below : (g : Machine) (h : List Entry) (n : ℕ) → Asides (takes_below g h n)
of_below g h zero = nothing
of_below g h (suc e) = both (takes_below g h e) (takes_of e (line_of g h e)) (of_below g h e) (of_takes e (line_of g h e))

pub of_turn : (g : Machine) (h : List Entry) (o : Option UrbId) (es : List Entry) → TurnAdds g h o es → Asides es
of_turn g h _ _ (marked u code) = both (takes_below g h (length g.layout.shapes)) (give_entry u code ∷ []) (of_below g h (length g.layout.shapes)) (single (give_entry u code) tt)
of_turn g h _ _ (ended u code status) = both (takes_below g h (length g.layout.shapes)) (finish_entry u code true ∷ give_entry u status ∷ []) (of_below g h (length g.layout.shapes))
    (both (finish_entry u code true ∷ []) (give_entry u status ∷ []) (single (finish_entry u code true) tt) (single (give_entry u status) tt))
of_turn g h _ _ (idle none) = of_below g h (length g.layout.shapes)

of_handler : (u : UrbId) (t : Transfer) (r : Result Outcome Memory) (es : List Entry) → HandlerAdds u t r es → Asides es
of_handler u t _ _ rested = single (rest_entry u t) tt
of_handler u t _ _ (accepted_so from len) = submit SERVER u.0 (windowed from len t) Zero
of_handler u t _ _ (refused from len errno) = both (submit_entries SERVER u.0 (windowed from len t) (Fault errno)) (rest_entry u (windowed from len t) ∷ []) (submit SERVER u.0 (windowed from len t) (Fault errno)) (single (rest_entry u (windowed from len t)) tt)
of_handler u t _ _ (unfit from len errno) = single (rest_entry u (windowed from len t)) tt
of_handler u t _ _ (asked v q) = both (rest_entry u t ∷ []) (submit_entries SERVER v.0 q Zero) (single (rest_entry u t) tt) (submit SERVER v.0 q Zero)
of_handler u t _ _ (asked_refused v q errno) = both (rest_entry u t ∷ []) (submit_entries SERVER v.0 q (Fault errno)) (single (rest_entry u t) tt) (submit SERVER v.0 q (Fault errno))
of_handler u t _ _ (asked_unfit errno) = single (rest_entry u t) tt
of_handler u t _ _ (lacking m) = single (rest_entry u t) tt

pub of_done : (u : UrbId) (t : Transfer) (r : Result Outcome Memory) (es : List Entry) → HandlerAdds u t r es → Asides (es ++ end_entry u ∷ [])
of_done u t r es h = both es (end_entry u ∷ []) (of_handler u t r es h) (single (end_entry u) tt)

of_round : (g : Machine) (h es : List Entry) → Round g h es → Asides es
of_round g h es r = subst Asides (sym r.is) (both r.given (r.done ++ end_entry r.urb ∷ []) (of_turn g h (Some r.urb) r.given r.turned) (of_done r.urb r.transfer r.came r.done r.handled))

pub of_rounds : (g : Machine) (h es : List Entry) → Rounds g h es → Asides es
of_rounds g h _ growing.none = nothing
of_rounds g h _ (growing.one es fs rounds r) = both es fs (of_rounds g h es rounds) (of_round g (h ++ es) fs r)

-- no pass owes a Link
abbrev pub OwesNone : List Entry → Type 0
OwesNone h = (p u : ℕ) → owes (part_of h p) u ≡ false

pub owes_one : (h : List Entry) (x : Entry) → ((u : ℕ) → owes_after u false x.event x.answer ≡ false) → OwesNone h → OwesNone (h ++ x ∷ [])
owes_one h x none links p u = dite (ℕ_discrete p x.pass)
    (λ same. ap (λ q. owes (part_of (h ++ x ∷ []) q) u) same ∙ (owes_own h x u ∙ (ap (λ b. owes_after u b x.event x.answer) (links x.pass u) ∙ none u)))
    (λ off. owes_other h x u p off ∙ links p u)

aside_owes : (event : Event) → IsAside event → (a : Answer) (u : ℕ) → owes_after u false event a ≡ false
aside_owes (Submit v n) is a u = absurd is
aside_owes (Link v) is a u = absurd is
aside_owes (Withdraw v) is a u = absurd is
aside_owes (Take e) is a u = refl
aside_owes (Mark v w) is a u = refl
aside_owes (Finish v c) is a u = refl
aside_owes (Give v) is a u = refl
aside_owes (Rest v n) is a u = refl
aside_owes (End v) is a u = refl
aside_owes (Reject v) is a u = refl
aside_owes (Quiet v) is a u = refl
aside_owes (Claim v) is a u = refl
aside_owes (Flag v f) is a u = refl
aside_owes (Unflag v f) is a u = refl

pub call_owes : (event : Event) → IsCall event → (a : Answer) (u : ℕ) → owes_after u false event a ≡ false
call_owes (Mark v w) is a u = refl
call_owes (Reject v) is a u = refl
call_owes (Withdraw v) is a u = refl
call_owes (Quiet v) is a u = refl
call_owes (Claim v) is a u = refl
call_owes (Flag v f) is a u = refl
call_owes (Unflag v f) is a u = refl
call_owes (Submit v n) is a u = absurd is
call_owes (Link v) is a u = absurd is
call_owes (Take e) is a u = absurd is
call_owes (Finish v c) is a u = absurd is
call_owes (Give v) is a u = absurd is
call_owes (Rest v n) is a u = absurd is
call_owes (End v) is a u = absurd is

pub owes_submit : (h : List Entry) (p u : ℕ) (t : Transfer) (code : Code) → OwesNone h → OwesNone (h ++ submit_entries p u t code)
owes_submit h p u t (Fault errno) links q v = owes_one h (entry p (Submit record { 0 = u } t.number) (Status (Fault errno)) (Some t)) (λ w. off (eqb u w)) links q v
  where
    off : (b : Bool) → cond (b && false) true false ≡ false
    off true = refl
    off false = refl
owes_submit h p u t Zero links q v = ap (λ k. owes (part_of k q) v) (sym (append_assoc h (x ∷ []) (l ∷ []))) ∙ dite (ℕ_discrete q p)
    (λ same. ap (λ r. owes (part_of ((h ++ x ∷ []) ++ l ∷ []) r) v) same ∙ (owes_own (h ++ x ∷ []) l v ∙ (ap (λ b. cond (eqb u v) false b) (owes_own h x v ∙ ap (λ b. cond (eqb u v && true) true b) (links p v)) ∙ go (eqb u v))))
    (λ off. owes_other (h ++ x ∷ []) l v q off ∙ (owes_other h x v q off ∙ links q v))
  where
    x : Entry
    x = entry p (Submit record { 0 = u } t.number) (Status Zero) (Some t)

    l : Entry
    l = plain_entry p (Link record { 0 = u })

    go : (b : Bool) → cond b false (cond (b && true) true false) ≡ false
    go true = refl
    go false = refl

pub owes_all : (h es : List Entry) → Asides es → OwesNone h → OwesNone (h ++ es)
owes_all h _ nothing links p u = ap (λ k. owes (part_of k p) u) (append-nil h) ∙ links p u
owes_all h _ (single x is) links p u = owes_one h x (λ v. aside_owes x.event is x.answer v) links p u
owes_all h _ (submit q v t code) links p u = owes_submit h q v t code links p u
owes_all h _ (both es fs a b) links p u = ap (λ k. owes (part_of k p) u) (sym (append_assoc h es fs)) ∙ owes_all (h ++ es) fs b (λ q v. owes_all h es a links q v) p u

-- an URB that refuses submits and, while it is queued, has a mark
pub record IsStopped (s : UrbState) : Type 0 where
  pub rejects : 0 < s.rejects
  pub marks : s.queued ≡ true → is_clear s.mark ≡ false

refuses : (s : UrbState) → 0 < s.rejects → is_zero (refusal s) ≡ false
refuses s l = go s.queued s.flags.gone (eqb 0 s.rejects) (ne_eqb 0 s.rejects (λ is. absurd (omega arith)))
  where
    go : (q gone b : Bool) → b ≡ false → is_zero (cond q (Fault EBUSY) (cond gone (Fault ENODEV) (cond b (cond s.flags.off (Fault ENOENT) (cond s.flags.down (Fault ESHUTDOWN) Zero)) (Fault EPERM)))) ≡ false
    go true gone b is = refl
    go false true b is = refl
    go false false true is = absurd (true≢false is)
    go false false false is = refl

-- an event that withdraws nothing
abbrev NoWithdraw : Event → Type 0
NoWithdraw (Withdraw u) = ⊥
NoWithdraw event = Unit {0}

stopped_after : (event : Event) → NoWithdraw event → (a : Answer) (s : UrbState) (us : List ℕ) → a ≡ answer_of event s us → IsStopped s → IsStopped (after event a s)
stopped_after (Submit v n) none_off a s us is st = subst (λ b. IsStopped (cond b (record s { queued = true; mark = Clear }) s)) (sym (ap accepted is ∙ refuses s st.rejects)) st
stopped_after (Mark v w) none_off a s us is st = go (unlinks a)
  where
    go : (b : Bool) → IsStopped (cond b (record s { mark = Unlinked w }) s)
    go true = record { rejects = st.rejects; marks = λ q. refl }
    go false = st
stopped_after (Finish v c) none_off a s us is st = go (finishes a)
  where
    go : (b : Bool) → IsStopped (cond b (record s { mark = Finished c }) s)
    go true = record { rejects = st.rejects; marks = λ q. refl }
    go false = st
stopped_after (Give v) none_off a s us is st = record { rejects = st.rejects; marks = λ q. absurd (true≢false (sym q)) }
stopped_after (Reject v) none_off a s us is st = record { rejects = (let r = st.rejects in omega arith); marks = st.marks }
stopped_after (Withdraw v) none_off a s us is st = absurd none_off
stopped_after (Link v) none_off a s us is st = st
stopped_after (Take e) none_off a s us is st = st
stopped_after (Quiet v) none_off a s us is st = st
stopped_after (Rest v n) none_off a s us is st = record { rejects = st.rejects; marks = st.marks }
stopped_after (End v) none_off a s us is st = record { rejects = st.rejects; marks = st.marks }
stopped_after (Claim v) none_off a s us is st = record { rejects = st.rejects; marks = st.marks }
stopped_after (Flag v f) none_off a s us is st = record { rejects = st.rejects; marks = st.marks }
stopped_after (Unflag v f) none_off a s us is st = record { rejects = st.rejects; marks = st.marks }

stopped_one : (g : Machine) (h : List Entry) (x : Entry) (u : ℕ) → Follows g h x → NoWithdraw x.event → IsStopped (state_of h u) → IsStopped (state_of (h ++ x ∷ []) u)
stopped_one g h x u f none_off st = subst IsStopped (sym (state_of-snoc h x u)) (go (is_of u x.event) refl)
  where
    go : (b : Bool) → is_of u x.event ≡ b → IsStopped (cond b (after x.event x.answer (state_of h u)) (state_of h u))
    go false is = st
    go true is = stopped_after x.event none_off x.answer (state_of h u) (line_of g h (end_of x.event)) (f.answers ∙ ap (λ v. answer_of x.event (state_of h v) (line_of g h (end_of x.event))) own) st
      where
        own : urb_of x.event ≡ u
        own = dite (ℕ_discrete u (urb_of x.event)) (λ same. sym same) (λ off. absurd (true≢false (sym is ∙ is_of_other u x.event off)))

aside_no : (event : Event) → IsAside event → NoWithdraw event
aside_no (Submit v n) is = tt
aside_no (Link v) is = tt
aside_no (Withdraw v) is = is
aside_no (Take e) is = tt
aside_no (Mark v w) is = tt
aside_no (Finish v c) is = tt
aside_no (Give v) is = tt
aside_no (Rest v n) is = tt
aside_no (End v) is = tt
aside_no (Reject v) is = tt
aside_no (Quiet v) is = tt
aside_no (Claim v) is = tt
aside_no (Flag v f) is = tt
aside_no (Unflag v f) is = tt

pub stopped_all : (g : Machine) (h es : List Entry) (u : ℕ) → Asides es → IsLegal g (h ++ es) → IsStopped (state_of h u) → IsStopped (state_of (h ++ es) u)
stopped_all g h _ u nothing legal st = subst (λ k. IsStopped (state_of k u)) (sym (append-nil h)) st
stopped_all g h _ u (single x is) legal st = stopped_one g h x u (follows_before g h x [] legal) (aside_no x.event is) st
stopped_all g h _ u (submit p v t (Fault errno)) legal st = let x = entry p (Submit record { 0 = v } t.number) (Status (Fault errno)) (Some t) in stopped_one g h x u (follows_before g h x [] legal) tt st
stopped_all g h _ u (submit p v t Zero) legal st =
    let x = entry p (Submit record { 0 = v } t.number) (Status Zero) (Some t) in let l = plain_entry p (Link record { 0 = v }) in
    let all = append_assoc h (x ∷ []) (l ∷ []) in
    subst (λ k. IsStopped (state_of k u)) all (stopped_one g (h ++ x ∷ []) l u (follows_before g (h ++ x ∷ []) l [] (subst (IsLegal g) (sym all) legal)) tt (stopped_one g h x u (follows_before g h x (l ∷ []) legal) tt st))
stopped_all g h _ u (both es fs a b) legal st =
    let all = append_assoc h es fs in
    subst (λ k. IsStopped (state_of k u)) all (stopped_all g (h ++ es) fs u b (subst (IsLegal g) (sym all) legal) (stopped_all g h es u a (legal_beginning g (h ++ es) (h ++ (es ++ fs)) legal (fs, all)) st))

unlinked_marks : (q c : Bool) → is_in_progress (cond q (cond c (Fault EINPROGRESS) (Fault EBUSY)) (Fault EIDRM)) ≡ false → q ≡ true → c ≡ false
unlinked_marks true true is e = absurd (true≢false is)
unlinked_marks true false is e = refl
unlinked_marks false c is e = absurd (true≢false (sym e))

-- who was rejected and then unlinked is stopped
pub stop_stops : (g : Machine) (h : List Entry) (p u : ℕ) (code : Code) → IsLegal g (h ++ stop_entries p u code) → IsStopped (state_of (h ++ stop_entries p u code) u)
stop_stops g h p u code legal = subst (λ k. IsStopped (state_of k u)) all (subst IsStopped (sym (state_of-snoc (h ++ x ∷ []) m u ∙ ap (λ b. cond b (cond (unlinks (Status code)) (record s { mark = Unlinked Kill }) s) s) (eq-eqb u u refl))) (go (is_in_progress code) refl))
  where
    x : Entry
    x = plain_entry p (Reject record { 0 = u })

    m : Entry
    m = mark_entry p Kill u code

    s : UrbState
    s = state_of (h ++ x ∷ []) u

    all : (h ++ x ∷ []) ++ m ∷ [] ≡ h ++ stop_entries p u code
    all = append_assoc h (x ∷ []) (m ∷ [])

    raised : 0 < s.rejects
    raised = let n : s.rejects ≡ (state_of h u).rejects + 1 = ap (λ (w : UrbState). w.rejects) (state_of-snoc h x u) ∙ ap (λ b. (cond b (record (state_of h u) { rejects = (state_of h u).rejects + 1 }) (state_of h u)).rejects) (eq-eqb u u refl) in omega arith

    answers : Status code ≡ Status (unlinking s)
    answers = (follows_before g (h ++ x ∷ []) m [] (subst (IsLegal g) (sym all) legal)).answers

    go : (b : Bool) → is_in_progress code ≡ b → IsStopped (cond b (record s { mark = Unlinked Kill }) s)
    go true is = record { rejects = raised; marks = λ q. refl }
    go false is = record { rejects = raised; marks = λ q. unlinked_marks s.queued (is_clear s.mark) (sym (ap unlinks answers) ∙ is) q }

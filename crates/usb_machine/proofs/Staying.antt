-- What the server has seen of an URB stays so while it makes no entry.
use Rattle.std.proofs.Common.{◌≡◌, ◌≢◌, ⊎_elim, ℕ, ◌<◌, Bool, true, false, cond, List, [], ◌∷◌, ◌++◌, length, sym, refl, ap, ◌∙◌, subst, arith, length-append}
use mathlib.Core.List.{IsPrefix}
use mathlib.Core.Logic.{dite}
use native.Mathlib.Decide.{ℕ_discrete}
use Rattle.usb_machine.specs.declared.event.Event.{Event}
use Rattle.usb_machine.specs.declared.event.Event.TheVariants.{Submit, Mark, Finish, Give, End}
use Rattle.usb_machine.specs.declared.event.Answer.{Answer}
use Rattle.usb_machine.specs.declared.entry.Entry.{Entry}
use Rattle.usb_machine.specs.declared.state.UrbState.{UrbState}
use Rattle.usb_machine.specs.State.{after, accepted, unlinks, finishes}
use Rattle.usb_machine.specs.History.{Machine, state_of, is_of}
use Rattle.usb_machine.specs.Parts.{part_of}
use Rattle.usb_machine.specs.Legal.{May, Follows, IsLegal, empty, longer}
use Rattle.usb_machine.specs.Tokens.{is_finished}
use Rattle.usb_machine.proofs.Server.{prefix_last, part_length}
use Rattle.usb_machine.proofs.Steps.{state_of-snoc, part_own, part_other}

-- what each entry of others keeps of an URB's state stays
pub stays : (g : Machine) (u : ℕ) (P : UrbState → Type 0) → ((h : List Entry) (x : Entry) → Follows g h x → 0 ≢ x.pass → P (state_of h u) → P (cond (is_of u x.event) (after x.event x.answer (state_of h u)) (state_of h u)))
    → (seen h : List Entry) → IsLegal g h → IsPrefix seen h → part_of seen 0 ≡ part_of h 0 → P (state_of seen u) → P (state_of h u)
stays g u P step seen _ empty p same m = subst (λ l. P (state_of l u)) (none seen p) m
  where
    none : (xs : List Entry) → IsPrefix xs [] → xs ≡ []
    none [] p = refl
    none (y ∷ xs) p = absurd (cc (p.1))
stays g u P step seen _ (longer h x legal f) p same m =
    ⊎_elim (λ e. subst (λ l. P (state_of l u)) e m)
    (λ (q : IsPrefix seen h). dite (ℕ_discrete 0 x.pass)
    (λ is. let short = part_length seen h 0 q in let long = ap length (same ∙ subst (λ k. part_of (h ++ x ∷ []) k ≡ part_of h k ++ x ∷ []) (sym is) (part_own h x)) in absurd (omega (arith, length-append (part_of h 0) (x ∷ []))))
    (λ other. subst P (sym (state_of-snoc h x u)) (step h x f other (stays g u P step seen h legal q (same ∙ part_other h x 0 other) m))))
    (prefix_last seen h x p)

if_either : (P : UrbState → Type 0) (b : Bool) (s t : UrbState) → P s → P t → P (cond b s t)
if_either P true s t a c = a
if_either P false s t a c = c

Runs : UrbState → Type 0
Runs s = 0 < s.handlers

runs_after : (e : Event) (a : Answer) (s : UrbState) → ((u : _) → e ≡ End u → ⊥) → Runs s → Runs (after e a s)
unfolding Runs
runs_after (Submit u n) a s off r = if_either Runs (accepted a) _ s r r
runs_after (Mark u w) a s off r = if_either Runs (unlinks a) _ s r r
runs_after (Finish u c) a s off r = if_either Runs (finishes a) _ s r r
runs_after (Give u) a s off r = omega arith
runs_after (End u) a s off r = absurd (off u refl)
runs_after _ a s off r = r

-- a handler runs until its End
pub runs_stay : (g : Machine) (u : ℕ) → g.bottom ≡ 0 → (seen h : List Entry) → IsLegal g h → IsPrefix seen h → part_of seen 0 ≡ part_of h 0 → 0 < (state_of seen u).handlers → 0 < (state_of h u).handlers
unfolding Runs
runs_stay g u bottom = stays g u Runs (λ h x f other r. if_either Runs (is_of u x.event) _ (state_of h u) (runs_after x.event x.answer (state_of h u) (λ v is. other (sym (ends h x f v is))) r) r)
  where
    ends : (h : List Entry) (x : Entry) → Follows g h x → (v : _) → x.event ≡ End v → x.pass ≡ 0
    ends h x f v is = (subst (May g h x.pass) is f.may).0 ∙ bottom

Open : UrbState → Type 0
Open s = is_finished s.mark ≡ false

open_after : (e : Event) (a : Answer) (s : UrbState) → ((u : _) (c : _) → e ≡ Finish u c → ⊥) → Open s → Open (after e a s)
unfolding Open
open_after (Submit u n) a s off r = if_either Open (accepted a) _ s refl r
open_after (Mark u w) a s off r = if_either Open (unlinks a) _ s refl r
open_after (Finish u c) a s off r = absurd (off u c refl)
open_after (Give u) a s off r = refl
open_after _ a s off r = r

-- an URB that the server has not finished stays so
pub open_stays : (g : Machine) (u : ℕ) (seen h : List Entry) → IsLegal g h → IsPrefix seen h → part_of seen 0 ≡ part_of h 0 → is_finished (state_of seen u).mark ≡ false → is_finished (state_of h u).mark ≡ false
unfolding Open
open_stays g u = stays g u Open (λ h x f other r. if_either Open (is_of u x.event) _ (state_of h u) (open_after x.event x.answer (state_of h u) (λ v c is. other (sym (ends h x f v c is))) r) r)
  where
    ends : (h : List Entry) (x : Entry) → Follows g h x → (v : _) (c : _) → x.event ≡ Finish v c → x.pass ≡ 0
    ends h x f v c is = (subst (May g h x.pass) is f.may).0

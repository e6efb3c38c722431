-- What is left when the server took all that stands in the lines.
use Rattle.std.proofs.Common.{ℕ, zero, suc, ◌≡◌, ◌≢◌, ◌<◌, ◌≤◌, cond, Option, None, List, [], ◌∷◌, ◌++◌, fold, refl, sym, ap, ◌∙◌, subst, arith, append_assoc, append-nil, eq-eqb, ne_eqb}
use Rattle.std.proofs.lemmas.List.Sums.{fold-append}
use mathlib.Core.Logic.{dite}
use native.Mathlib.Decide.{ℕ_discrete}
use Rattle.usb_machine.specs.declared.entry.TheConstants.{SERVER}
use Rattle.usb_machine.specs.declared.event.Event.TheVariants.{Take}
use Rattle.usb_machine.specs.declared.event.Answer.TheVariants.{Urb}
use Rattle.usb_machine.specs.declared.transfer.Transfer.{Transfer}
use Rattle.usb_machine.specs.declared.entry.Entry.{Entry}
use Rattle.usb_machine.specs.declared.state.UrbState.{UrbState}
use Rattle.usb_machine.specs.State.{opening}
use Rattle.usb_machine.specs.History.{Machine, state_of, after_entry, without_first, line_of, line_after, pending_of, pending_after, sent_of, sent_after}
use Rattle.usb_machine.specs.Calls.{entry}
use Rattle.usb_machine.proofs.Steps.{line_of-snoc}
use Rattle.usb_scene.specs.declared.scene.Scene.{Scene}
use Rattle.usb_trace.specs.Plan.{machine_of}
use Rattle.usb_line.specs.Line.{takes, takes_below}
use Rattle.usb_trace.proofs.Entries.{AreOf, AreOf-append, AllFollow, AllFollow-append}
use Rattle.usb_line.proofs.MayFollow.{take_follows}

abbrev pub took : ℕ → ℕ → Entry
took e u = entry SERVER (Take e) (Urb record { 0 = u }) None

pub takes_pass : (e : ℕ) (us : List ℕ) → AreOf SERVER (takes e us)
takes_pass e [] = tt
takes_pass e (u ∷ us) = (refl, takes_pass e us)

module _ (e : ℕ) where
  -- a Take leaves what stood after the line's first
  pub takes_rest : (g : Machine) (u : ℕ) (us : List ℕ) (h : List Entry) → line_of g h e ≡ u ∷ us → line_of g (h ++ took e u ∷ []) e ≡ us
  takes_rest g u us h is = line_of-snoc h (took e u) g e ∙ (ap (λ b. cond b (without_first (line_of g h e)) (line_of g h e)) (eq-eqb e e refl) ∙ ap without_first is)

  takes_follow : (s : Scene) (us : List ℕ) (h : List Entry) → line_of (machine_of s) h e ≡ us → AllFollow (machine_of s) h (takes e us)
  takes_follow s [] h is = tt
  takes_follow s (u ∷ us) h is = (
    take_follows s h e u us is,
    takes_follow s us (h ++ took e u ∷ []) (takes_rest (machine_of s) u us h is),
  )

  -- the line is empty
  takes_line : (g : Machine) (us : List ℕ) (h : List Entry) → line_of g h e ≡ us → line_of g (h ++ takes e us) e ≡ []
  takes_line g us h is = fold-append (λ us x. line_after g e us x.event) [] h (takes e us) ∙ (ap (λ l. fold (λ us x. line_after g e us x.event) l (takes e us)) is ∙ go us)
    where
      go : (us : List ℕ) → fold (λ us x. line_after g e us x.event) us (takes e us) ≡ []
      go [] = refl
      go (u ∷ us) = ap (λ b. fold (λ us x. line_after g e us x.event) (cond b us (u ∷ us)) (takes e us)) (eq-eqb e e refl) ∙ go us

  -- what stood in the line is pending, after what was
  takes_pending : (g : Machine) (us : List ℕ) (h : List Entry) → pending_of g (h ++ takes e us) e ≡ pending_of g h e ++ us
  takes_pending g us h = fold-append (λ us x. pending_after g e us x.event x.answer) [] h (takes e us) ∙ go us (pending_of g h e)
    where
      go : (us vs : List ℕ) → fold (λ us x. pending_after g e us x.event x.answer) vs (takes e us) ≡ vs ++ us
      go [] vs = sym (append-nil vs)
      go (u ∷ us) vs = ap (λ b. fold (λ us x. pending_after g e us x.event x.answer) (cond b (vs ++ u ∷ []) vs) (takes e us)) (eq-eqb e e refl)
          ∙ (go us (vs ++ u ∷ []) ∙ append_assoc vs (u ∷ []) us)

  -- no other endpoint's lists change
  takes_line_else : (g : Machine) (us : List ℕ) (h : List Entry) (d : ℕ) → d ≢ e → line_of g (h ++ takes e us) d ≡ line_of g h d
  takes_line_else g us h d off = fold-append (λ us x. line_after g d us x.event) [] h (takes e us) ∙ go us (line_of g h d)
    where
      go : (us vs : List ℕ) → fold (λ us x. line_after g d us x.event) vs (takes e us) ≡ vs
      go [] vs = refl
      go (u ∷ us) vs = ap (λ b. fold (λ us x. line_after g d us x.event) (cond b (without_first vs) vs) (takes e us)) (ne_eqb e d (λ i. off (sym i))) ∙ go us vs

  takes_pending_else : (g : Machine) (us : List ℕ) (h : List Entry) (d : ℕ) → d ≢ e → pending_of g (h ++ takes e us) d ≡ pending_of g h d
  takes_pending_else g us h d off = fold-append (λ us x. pending_after g d us x.event x.answer) [] h (takes e us) ∙ go us (pending_of g h d)
    where
      go : (us vs : List ℕ) → fold (λ us x. pending_after g d us x.event x.answer) vs (takes e us) ≡ vs
      go [] vs = refl
      go (u ∷ us) vs = ap (λ b. fold (λ us x. pending_after g d us x.event x.answer) (cond b (vs ++ u ∷ []) vs) (takes e us)) (ne_eqb e d (λ i. off (sym i))) ∙ go us vs

  takes_state : (h : List Entry) (us : List ℕ) (v : ℕ) → state_of (h ++ takes e us) v ≡ state_of h v
  takes_state h us v = fold-append (after_entry v) opening h (takes e us) ∙ go us (state_of h v)
    where
      go : (us : List ℕ) (t : UrbState) → fold (after_entry v) t (takes e us) ≡ t
      go [] t = refl
      go (u ∷ us) t = go us t

  takes_sent : (h : List Entry) (us : List ℕ) (v : ℕ) → sent_of (h ++ takes e us) v ≡ sent_of h v
  takes_sent h us v = fold-append (λ (t : Option Transfer) x. sent_after v t x.event x.answer x.carried) None h (takes e us) ∙ go us (sent_of h v)
    where
      go : (us : List ℕ) (t : Option Transfer) → fold (λ (t : Option Transfer) x. sent_after v t x.event x.answer x.carried) t (takes e us) ≡ t
      go [] t = refl
      go (u ∷ us) t = go us t

pub below_pass : (s : Scene) (h : List Entry) (n : ℕ) → AreOf SERVER (takes_below s h n)
below_pass s h zero = tt
below_pass s h (suc e) = AreOf-append SERVER (takes_below s h e) (takes e (line_of (machine_of s) h e)) (below_pass s h e) (takes_pass e (line_of (machine_of s) h e))

module _ (s : Scene) (h : List Entry) where
  -- the history when the lines of the endpoints below n were taken
  abbrev pub taken_below : ℕ → List Entry
  taken_below n = h ++ takes_below s h n

  abbrev line : ℕ → List ℕ
  line e = line_of (machine_of s) h e

  next : (e : ℕ) → taken_below (suc e) ≡ taken_below e ++ takes e (line e)
  next e = sym (append_assoc h (takes_below s h e) (takes e (line e)))

  pub below_state : (n v : ℕ) → state_of (taken_below n) v ≡ state_of h v
  below_state zero v = ap (λ l. state_of l v) (append-nil h)
  below_state (suc e) v = ap (λ l. state_of l v) (next e) ∙ (takes_state e (taken_below e) (line e) v ∙ below_state e v)

  pub below_sent : (n v : ℕ) → sent_of (taken_below n) v ≡ sent_of h v
  below_sent zero v = ap (λ l. sent_of l v) (append-nil h)
  below_sent (suc e) v = ap (λ l. sent_of l v) (next e) ∙ (takes_sent e (taken_below e) (line e) v ∙ below_sent e v)

  -- an endpoint from n on is as it was
  pub line_above : (n d : ℕ) → n ≤ d → line_of (machine_of s) (taken_below n) d ≡ line d
  line_above zero d l = ap (λ l. line_of (machine_of s) l d) (append-nil h)
  line_above (suc e) d l = ap (λ l. line_of (machine_of s) l d) (next e) ∙ (takes_line_else e (machine_of s) (line e) (taken_below e) d (λ i. omega arith) ∙ line_above e d (omega arith))

  pub pending_above : (n d : ℕ) → n ≤ d → pending_of (machine_of s) (taken_below n) d ≡ pending_of (machine_of s) h d
  pending_above zero d l = ap (λ l. pending_of (machine_of s) l d) (append-nil h)
  pending_above (suc e) d l = ap (λ l. pending_of (machine_of s) l d) (next e) ∙ (takes_pending_else e (machine_of s) (line e) (taken_below e) d (λ i. omega arith) ∙ pending_above e d (omega arith))

  -- an endpoint below n has an empty line, and what stood in it is pending
  pub line_below : (n d : ℕ) → d < n → line_of (machine_of s) (taken_below n) d ≡ []
  line_below zero d l = absurd (omega arith)
  line_below (suc e) d l = ap (λ l. line_of (machine_of s) l d) (next e) ∙ dite (ℕ_discrete d e)
      (λ is. subst (λ k. line_of (machine_of s) (taken_below e ++ takes e (line e)) k ≡ []) (sym is) (takes_line e (machine_of s) (line e) (taken_below e) (line_above e e (omega arith))))
      (λ off. takes_line_else e (machine_of s) (line e) (taken_below e) d off ∙ line_below e d (omega arith))

  pub pending_below : (n d : ℕ) → d < n → pending_of (machine_of s) (taken_below n) d ≡ pending_of (machine_of s) h d ++ line d
  pending_below zero d l = absurd (omega arith)
  pending_below (suc e) d l = ap (λ l. pending_of (machine_of s) l d) (next e) ∙ dite (ℕ_discrete d e)
      (λ is. subst (λ k. pending_of (machine_of s) (taken_below e ++ takes e (line e)) k ≡ pending_of (machine_of s) h k ++ line k) (sym is)
      (takes_pending e (machine_of s) (line e) (taken_below e) ∙ ap (λ l. l ++ line e) (pending_above e e (omega arith))))
      (λ off. takes_pending_else e (machine_of s) (line e) (taken_below e) d off ∙ pending_below e d (omega arith))

  pub below_follow : (n : ℕ) → AllFollow (machine_of s) h (takes_below s h n)
  below_follow zero = tt
  below_follow (suc e) = AllFollow-append (machine_of s) h (takes_below s h e) (takes e (line e)) (below_follow e) (takes_follow e s (line e) (taken_below e) (line_above e e (omega arith)))

-- A queued URB is owed a Link, or in its home's line, or pending there, in one of them and once; any other URB is nowhere.
use mathlib.Core.Logic.{dite}
use native.Mathlib.Decide.{ℕ_discrete}
use Rattle.usb_types.specs.declared.errno.Errno.TheVariants.{EBUSY}
use Rattle.std.proofs.Common.{◌≡◌, append-nil, ◌≢◌, ℕ, ◌+◌, ◌<◌, ◌≤◌, Bool, true, false, not, ◌&&◌, cond, eqb, List, [], ◌∷◌, ◌++◌, length, sym, refl, ap, ◌∙◌, subst, arith, eq-eqb, ne_eqb, true≢false}
use Rattle.usb_machine.specs.declared.event.Event.{Event}
use Rattle.usb_machine.specs.declared.event.Event.TheVariants.{Submit, Link, Take, Mark, Finish, Give, Rest, End, Reject, Withdraw, Quiet, Claim, Flag, Unflag}
use Rattle.usb_machine.specs.declared.event.Answer.{Answer}
use Rattle.usb_machine.specs.declared.event.Answer.TheVariants.{Code as Status}
use Rattle.usb_types.specs.declared.errno.Code.{Code}
use Rattle.usb_types.specs.declared.errno.Code.TheVariants.{Fault}
use Rattle.usb_machine.specs.declared.entry.Entry.{Entry}
use Rattle.usb_machine.specs.History.{Machine}
use Rattle.usb_machine.specs.declared.state.UrbState.{UrbState}
pub use Rattle.usb_machine.specs.Laws.{bit, owing, Placed}
use Rattle.usb_machine.specs.State.{after, is_zero, finishes, refusal, accepted, answer_of, first_of}
use Rattle.usb_machine.specs.History.{state_of, is_of, taken, home_of, line_of, line_after, pending_of, pending_after, without, without_first}
use Rattle.usb_machine.specs.Parts.{owes, owes_after, part_of}
use Rattle.usb_machine.specs.Legal.{times, May, IsLegal, empty, longer, urb_of, end_of}
use Rattle.usb_machine.proofs.Steps.{state_of-snoc, line_of-snoc, pending_of-snoc, owes_own, owes_other}
use Rattle.usb_machine.proofs.Totals.{total_one, part_of_total, total_none}

pub by_test : (a b : ℕ) (P : Bool → Type 0) → (a ≡ b → P true) → (a ≢ b → P false) → P (eqb a b)
by_test a b P y n = dite (ℕ_discrete a b) (λ e. subst P (sym (eq-eqb a b e)) (y e)) (λ ne. subst P (sym (ne_eqb a b ne)) (n ne))

bit_most : (b : Bool) → bit b ≤ 1
bit_most true = omega arith
bit_most false = omega arith

pub times-snoc : (u v : ℕ) (us : List ℕ) → times u (us ++ v ∷ []) ≡ times u us + bit (eqb v u)
times-snoc u v [] = omega arith
times-snoc u v (w ∷ us) = let a = times-snoc u v us in omega arith

pub times-without : (u : ℕ) (us : List ℕ) → times u (without u us) ≡ 0
times-without u [] = refl
times-without u (v ∷ us) = by_test v u (λ t. times u (cond (not t) (v ∷ without u us) (without u us)) ≡ 0) (λ _. times-without u us)
    (λ ne. let a = times-without u us in let b = ap bit (ne_eqb v u ne) in omega arith)

pub times-without_other : (u v : ℕ) (us : List ℕ) → v ≢ u → times u (without v us) ≡ times u us
times-without_other u v [] ne = refl
times-without_other u v (w ∷ us) ne = by_test w v (λ t. times u (cond (not t) (w ∷ without v us) (without v us)) ≡ times u (w ∷ us))
    (λ e. let a = times-without_other u v us ne in let b = ap bit (ne_eqb w u (λ i. ne (sym e ∙ i))) in omega arith)
    (λ _. let a = times-without_other u v us ne in omega arith)

module _ (g : Machine) (u : ℕ) (s : UrbState) (o : Bool) (ln pd : List ℕ) where
  -- the places of u and its queueing, before and after, one count for each
  abbrev Kept : Event → Answer → Type 0
  Kept e a = bit (owes_after u o e a) + times u (line_after g (home_of g u) ln e) + times u (pending_after g (home_of g u) pd e a) + bit s.queued
      ≡ bit o + times u ln + times u pd + bit (cond (is_of u e) (after e a s) s).queued

  -- what is known where an event comes
  abbrev Known : Event → Answer → Type 0
  Known (Submit v n) a = (v.0 ≡ u → a ≡ Status (refusal s))
  Known (Link v) a = (v.0 ≡ u → o ≡ true)
  Known (Take e) a = (e ≡ home_of g u → (0 < length ln) × (a ≡ first_of ln))
  Known (Give v) a = (v.0 ≡ u → 0 < times u pd)
  Known _ a = Unit {0}

  submit_here : (b : Bool) → (b ≡ true → s.queued ≡ false) → bit o + times u ln + times u pd ≤ bit s.queued → (now : UrbState) → now.queued ≡ true
      → bit (cond b true o) + times u ln + times u pd + bit s.queued ≡ bit o + times u ln + times u pd + bit (cond b now s).queued
  submit_here true q l now n = let j = ap bit (q refl) in let k = ap bit n in omega arith
  submit_here false q l now n = refl

  link_here : o ≡ true → (c : Bool) → c ≡ true → bit false + times u (cond c (ln ++ u ∷ []) ln) + times u pd + bit s.queued ≡ bit o + times u ln + times u pd + bit s.queued
  link_here e c i = let a = ap bit e in let b = ap (λ t. times u (cond t (ln ++ u ∷ []) ln)) i in let d = times-snoc u u ln in let f = ap bit (eq-eqb u u refl) in omega arith

  link_else : (v : ℕ) → v ≢ u → (c : Bool) → times u (cond c (ln ++ v ∷ []) ln) ≡ times u ln
  link_else v ne true = let d = times-snoc u v ln in let f = ap bit (ne_eqb v u ne) in omega arith
  link_else v ne false = refl

  take_here : (us : List ℕ) → 0 < length us → (a : Answer) → a ≡ first_of us → times u (without_first us) + times u (pd ++ taken a) ≡ times u us + times u pd
  take_here [] l a e = absurd (omega arith)
  take_here (v ∷ us) l a e = let d = times-snoc u v pd in let f = ap (λ b. times u (pd ++ taken b)) e in omega arith

  give_else : (v : ℕ) → v ≢ u → (c : Bool) → times u (cond c (without v pd) pd) ≡ times u pd
  give_else v ne true = times-without_other u v pd ne
  give_else v ne false = refl

  same_queue : (b : Bool) (now : UrbState) → now.queued ≡ s.queued → (cond b now s).queued ≡ s.queued
  same_queue true now e = e
  same_queue false now e = refl

  same_queue_of : (e : Event) (a : Answer) (b : Bool) → (after e a s).queued ≡ s.queued → bit o + times u ln + times u pd + bit s.queued ≡ bit o + times u ln + times u pd + bit (cond b (after e a s) s).queued
  same_queue_of e a b i = ap (λ q. bit o + times u ln + times u pd + bit q) (sym (same_queue b (after e a s) i))

  places_kept : (accepts : is_zero (refusal s) ≡ true → s.queued ≡ false) → bit o + times u ln + times u pd ≤ bit s.queued → (e : Event) (a : Answer) → Known e a → Kept e a
  places_kept q l (Submit v n) a k = by_test v.0 u (λ t. bit (cond (t && accepted a) true o) + times u ln + times u pd + bit s.queued ≡ bit o + times u ln + times u pd + bit (cond t (after (Submit v n) a s) s).queued)
      (λ is. submit_here (accepted a) (λ e. q (ap accepted (sym (k is)) ∙ e)) l _ refl) (λ _. refl)
  places_kept q l (Link v) a k = by_test v.0 u (λ t. bit (cond t false o) + times u (cond (eqb (home_of g v.0) (home_of g u)) (ln ++ v.0 ∷ []) ln) + times u pd + bit s.queued ≡ bit o + times u ln + times u pd + bit (cond t s s).queued)
      (λ is. subst (λ w. bit false + times u (cond (eqb (home_of g w) (home_of g u)) (ln ++ w ∷ []) ln) + times u pd + bit s.queued ≡ bit o + times u ln + times u pd + bit s.queued) (sym is) (link_here (k is) (eqb (home_of g u) (home_of g u)) (eq-eqb (home_of g u) (home_of g u) refl)))
      (λ ne. ap (λ w. bit o + w + times u pd + bit s.queued) (link_else v.0 ne (eqb (home_of g v.0) (home_of g u))))
  places_kept q l (Take e) a k = by_test e (home_of g u) (λ t. bit o + times u (cond t (without_first ln) ln) + times u (cond t (pd ++ taken a) pd) + bit s.queued ≡ bit o + times u ln + times u pd + bit s.queued)
      (λ is. let m = k is in let d = take_here ln m.0 a m.1 in omega arith) (λ _. refl)
  places_kept q l (Give v) a k = by_test v.0 u (λ t. bit o + times u ln + times u (cond (eqb (home_of g v.0) (home_of g u)) (without v.0 pd) pd) + bit s.queued ≡ bit o + times u ln + times u pd + bit (cond t (after (Give v) a s) s).queued)
      (λ is. let e : eqb (home_of g v.0) (home_of g u) ≡ true = eq-eqb _ _ (ap (home_of g) is) in let m = k is in
      let f : times u (cond (eqb (home_of g v.0) (home_of g u)) (without v.0 pd) pd) ≡ 0 = ap (λ c. times u (cond c (without v.0 pd) pd)) e ∙ (ap (λ w. times u (without w pd)) is ∙ times-without u pd) in
      let b = bit_most s.queued in omega arith)
      (λ ne. ap (λ w. bit o + times u ln + w + bit s.queued) (give_else v.0 ne (eqb (home_of g v.0) (home_of g u))))
  places_kept q l (Mark v w) a k = same_queue_of (Mark v w) a (eqb v.0 u) (same_queue _ _ refl)
  places_kept q l (Finish v c) a k = same_queue_of (Finish v c) a (eqb v.0 u) (same_queue (finishes a) _ refl)
  places_kept q l (Rest v n) a k = same_queue_of (Rest v n) a (eqb v.0 u) refl
  places_kept q l (End v) a k = same_queue_of (End v) a (eqb v.0 u) refl
  places_kept q l (Reject v) a k = same_queue_of (Reject v) a (eqb v.0 u) refl
  places_kept q l (Withdraw v) a k = same_queue_of (Withdraw v) a (eqb v.0 u) refl
  places_kept q l (Quiet v) a k = same_queue_of (Quiet v) a (eqb v.0 u) refl
  places_kept q l (Claim v) a k = same_queue_of (Claim v) a (eqb v.0 u) refl
  places_kept q l (Flag v f) a k = same_queue_of (Flag v f) a (eqb v.0 u) refl
  places_kept q l (Unflag v f) a k = same_queue_of (Unflag v f) a (eqb v.0 u) refl

-- an accepted Submit finds nothing in its way
pub accepts_queue : (s : UrbState) → is_zero (refusal s) ≡ true → s.queued ≡ false
accepts_queue s e = go s.queued _ e
  where
    go : (b : Bool) (c : Code) → is_zero (cond b (Fault EBUSY) c) ≡ true → b ≡ false
    go true c e = absurd (true≢false (sym e))
    go false c e = refl

module _ (g : Machine) (u d : ℕ) (other : d ≢ home_of g u) where
  line_elsewhere : (us : List ℕ) (e : Event) → times u us ≡ 0 → times u (line_after g d us e) ≡ 0
  line_elsewhere us (Link v) z = by_test (home_of g v.0) d (λ t. times u (cond t (us ++ v.0 ∷ []) us) ≡ 0)
      (λ is. let a = times-snoc u v.0 us in let b = ap bit (ne_eqb v.0 u (λ i. other (sym is ∙ ap (home_of g) i))) in omega arith) (λ _. z)
  line_elsewhere us (Take e) z = by_test e d (λ t. times u (cond t (without_first us) us) ≡ 0) (λ _. fewer us z) (λ _. z)
    where
      fewer : (us : List ℕ) → times u us ≡ 0 → times u (without_first us) ≡ 0
      fewer [] z = z
      fewer (w ∷ us) z = omega arith
  line_elsewhere us _ z = z

  pending_elsewhere : (us ln : List ℕ) (e : Event) (a : Answer) → times u us ≡ 0 → times u ln ≡ 0 → ((c : ℕ) → e ≡ Take c → c ≡ d → a ≡ first_of ln) → times u (pending_after g d us e a) ≡ 0
  pending_elsewhere us ln (Take e) a z y k = by_test e d (λ t. times u (cond t (us ++ taken a) us) ≡ 0) (λ is. subst (λ b. times u (us ++ taken b) ≡ 0) (sym (k e refl is)) (from ln y)) (λ _. z)
    where
      from : (ln : List ℕ) → times u ln ≡ 0 → times u (us ++ taken (first_of ln)) ≡ 0
      from [] y = ap (times u) (append-nil us) ∙ z
      from (v ∷ ln) y = let a = times-snoc u v us in omega arith
  pending_elsewhere us ln (Give v) a z y k = by_test (home_of g v.0) d (λ t. times u (cond t (without v.0 us) us) ≡ 0)
      (λ is. times-without_other u v.0 us (λ i. other (sym is ∙ ap (home_of g) i)) ∙ z) (λ _. z)
  pending_elsewhere us ln _ a z y k = z

known : (g : Machine) (h : List Entry) (x : Entry) (u : ℕ) (e : Event) (a : Answer) → May g h x.pass e → a ≡ answer_of e (state_of h (urb_of e)) (line_of g h (end_of e))
    → Known g u (state_of h u) (owes (part_of h x.pass) u) (line_of g h (home_of g u)) (pending_of g h (home_of g u)) e a
known g h x u (Submit v n) a m i = λ (is : v.0 ≡ u). i ∙ ap (λ w. Status (refusal (state_of h w))) is
known g h x u (Link v) a m i = λ (is : v.0 ≡ u). ap (owes (part_of h x.pass)) (sym is) ∙ m
known g h x u (Take e) a m i = λ (is : e ≡ home_of g u). (subst (λ w. 0 < length (line_of g h w)) is m.1, i ∙ ap (λ w. first_of (line_of g h w)) is)
known g h x u (Give v) a m i = λ (is : v.0 ≡ u). subst (λ w. 0 < times w (pending_of g h (home_of g w))) is m.1
known g h x u _ a m i = tt

known_line : (g : Machine) (h : List Entry) (d : ℕ) (e : Event) (a : Answer) → a ≡ answer_of e (state_of h (urb_of e)) (line_of g h (end_of e)) → (c : ℕ) → e ≡ Take c → c ≡ d → a ≡ first_of (line_of g h d)
known_line g h d e a i c is here = i ∙ ap (λ y. answer_of y (state_of h (urb_of y)) (line_of g h (end_of y))) is ∙ ap (λ w. first_of (line_of g h w)) here

pub placed : (g : Machine) (u : ℕ) (h : List Entry) → IsLegal g h → Placed g h u
placed g u _ empty = record { once = (let z = total_none g.passes in omega arith); line_else = λ e off. refl; pending_else = λ e off. refl }
placed g u _ (longer h x legal f) =
    let old = placed g u h legal in let hm = home_of g u in
    let most = part_of_total g.passes x.pass (λ p. bit (owes (part_of h p) u)) f.pass in
    let sums = total_one g.passes x.pass (λ p. bit (owes (part_of h p) u)) (λ p. bit (owes (part_of (h ++ x ∷ []) p) u)) f.pass (λ q off. ap bit (owes_other h x u q off)) in
    let own = ap bit (owes_own h x u) in
    let ln = ap (times u) (line_of-snoc h x g hm) in let pd = ap (times u) (pending_of-snoc h x g hm) in let st = ap (λ (s : UrbState). bit s.queued) (state_of-snoc h x u) in
    let before = old.once in
    let kept = places_kept g u (state_of h u) (owes (part_of h x.pass) u) (line_of g h hm) (pending_of g h hm) (accepts_queue (state_of h u)) (omega arith) x.event x.answer (known g h x u x.event x.answer f.may f.answers) in
    record {
      once = omega arith;
      line_else = λ e off. ap (times u) (line_of-snoc h x g e) ∙ line_elsewhere g u e off (line_of g h e) x.event (old.line_else e off);
      pending_else = λ e off. ap (times u) (pending_of-snoc h x g e) ∙ pending_elsewhere g u e off (pending_of g h e) (line_of g h e) x.event x.answer (old.pending_else e off) (old.line_else e off) (known_line g h e x.event x.answer f.answers);
    }

-- Entries after a history: those of one pass, those of one URB, and chains of which each may follow.
use Rattle.std.proofs.Common.{ℕ, ◌≡◌, ◌≢◌, true, false, cond, eqb, fold, List, [], ◌∷◌, ◌++◌, refl, sym, ap, ◌∙◌, subst, append_assoc, append-nil, eq-eqb, ne_eqb}
use Rattle.std.proofs.lemmas.List.Sums.{fold-append}
use Rattle.std.proofs.lemmas.List.Elements.{filter-append}
use Rattle.usb_machine.specs.declared.entry.Entry.{Entry}
use Rattle.usb_machine.specs.declared.state.UrbState.{UrbState}
use Rattle.usb_machine.specs.State.{opening, after}
use Rattle.usb_machine.specs.History.{Machine, state_of, after_entry, is_of}
use Rattle.usb_machine.specs.Parts.{part_of}
use Rattle.usb_machine.specs.Legal.{IsLegal, longer, Follows, urb_of}
use Rattle.usb_machine.specs.Plain.{IsOfUrb}
use Rattle.usb_machine.proofs.Stands.{is_of_own, is_of_other}

-- each of these entries is one of pass q
abbrev pub AreOf : ℕ → List Entry → Type 0
AreOf q [] = Unit {0}
AreOf q (x ∷ xs) = (x.pass ≡ q) × AreOf q xs

pub AreOf-append : (q : ℕ) (xs ys : List Entry) → AreOf q xs → AreOf q ys → AreOf q (xs ++ ys)
AreOf-append q [] ys is js = js
AreOf-append q (x ∷ xs) ys is js = (is.0, AreOf-append q xs ys is.1 js)

pub part_own : (q : ℕ) (xs : List Entry) → AreOf q xs → part_of xs q ≡ xs
part_own q [] is = refl
part_own q (x ∷ xs) is = ap (λ b. cond b (x ∷ part_of xs q) (part_of xs q)) (eq-eqb x.pass q is.0) ∙ ap (λ l. x ∷ l) (part_own q xs is.1)

pub part_other : (q p : ℕ) (xs : List Entry) → q ≢ p → AreOf q xs → part_of xs p ≡ []
part_other q p [] off is = refl
part_other q p (x ∷ xs) off is = ap (λ b. cond b (x ∷ part_of xs p) (part_of xs p)) (ne_eqb x.pass p (λ e. off (sym is.0 ∙ e))) ∙ part_other q p xs off is.1

module _ (q : ℕ) (h xs : List Entry) (is : AreOf q xs) where
  pub grows : part_of (h ++ xs) q ≡ part_of h q ++ xs
  grows = filter-append (λ x. eqb x.pass q) h xs ∙ ap (λ l. part_of h q ++ l) (part_own q xs is)

  pub stays : (p : ℕ) → q ≢ p → part_of (h ++ xs) p ≡ part_of h p
  stays p off = filter-append (λ x. eqb x.pass p) h xs ∙ (ap (λ l. part_of h p ++ l) (part_other q p xs off is) ∙ append-nil (part_of h p))

-- each of these entries is one of URB u
abbrev pub AreAbout : ℕ → List Entry → Type 0
AreAbout u [] = Unit {0}
AreAbout u (x ∷ xs) = IsOfUrb x.event × (urb_of x.event ≡ u) × AreAbout u xs

-- how entries of one URB change its state
abbrev pub change : UrbState → List Entry → UrbState
change t xs = fold (λ t x. after x.event x.answer t) t xs

changed : (u : ℕ) (xs : List Entry) (t : UrbState) → AreAbout u xs → fold (after_entry u) t xs ≡ change t xs
changed u [] t is = refl
changed u (x ∷ xs) t is = let own : is_of u x.event ≡ true = ap (λ w. is_of w x.event) (sym is.1) ∙ is_of_own x.event is.0 in
    ap (λ b. fold (after_entry u) (cond b (after x.event x.answer t) t) xs) own ∙ changed u xs (after x.event x.answer t) is.2

unchanged : (u v : ℕ) (xs : List Entry) (t : UrbState) → v ≢ u → AreAbout u xs → fold (after_entry v) t xs ≡ t
unchanged u v [] t off is = refl
unchanged u v (x ∷ xs) t off is = let other : is_of v x.event ≡ false = is_of_other v x.event (λ e. off (e ∙ is.1)) in
    ap (λ b. fold (after_entry v) (cond b (after x.event x.answer t) t) xs) other ∙ unchanged u v xs t off is.2

module _ (u : ℕ) (h xs : List Entry) (is : AreAbout u xs) where
  -- the state of their URB changes by these entries alone
  pub own_state : state_of (h ++ xs) u ≡ change (state_of h u) xs
  own_state = fold-append (after_entry u) opening h xs ∙ changed u xs (state_of h u) is

  -- and that of no other URB
  pub other_state : (v : ℕ) → v ≢ u → state_of (h ++ xs) v ≡ state_of h v
  other_state v off = fold-append (after_entry v) opening h xs ∙ unchanged u v xs (state_of h v) off is

-- each of these entries may follow the history and those before it
abbrev pub AllFollow : Machine → List Entry → List Entry → Type 0
AllFollow g h [] = Unit {0}
AllFollow g h (x ∷ xs) = Follows g h x × AllFollow g (h ++ x ∷ []) xs

pub legal_after : (g : Machine) (h xs : List Entry) → IsLegal g h → AllFollow g h xs → IsLegal g (h ++ xs)
legal_after g h [] legal f = subst (IsLegal g) (sym (append-nil h)) legal
legal_after g h (x ∷ xs) legal f = subst (IsLegal g) (append_assoc h (x ∷ []) xs) (legal_after g (h ++ x ∷ []) xs (longer h x legal f.0) f.1)

pub AllFollow-append : (g : Machine) (h xs ys : List Entry) → AllFollow g h xs → AllFollow g (h ++ xs) ys → AllFollow g h (xs ++ ys)
AllFollow-append g h [] ys f k = subst (λ l. AllFollow g l ys) (append-nil h) k
AllFollow-append g h (x ∷ xs) ys f k = (f.0, AllFollow-append g (h ++ x ∷ []) xs ys f.1 (subst (λ l. AllFollow g l ys) (sym (append_assoc h (x ∷ []) xs)) k))

-- The beginnings of a legal history are legal, and each entry follows what is before it.
use Rattle.std.proofs.Common.{◌≡◌, ⊎_elim, List, [], ◌∷◌, ◌++◌, sym, refl, subst, append_assoc}
use mathlib.Core.List.{IsPrefix}
use Rattle.usb_machine.specs.declared.entry.Entry.{Entry}
use Rattle.usb_machine.specs.History.{Machine}
use Rattle.usb_machine.specs.Legal.{Follows, IsLegal, empty, longer}
use Rattle.usb_machine.proofs.Server.{prefix_last}

-- two histories with one entry more that are the same
pub same_ends : (h k : List Entry) (x y : Entry) → h ++ x ∷ [] ≡ k ++ y ∷ [] → (h ≡ k) × (x ≡ y)
same_ends [] [] x y e = (refl, cc)
same_ends [] (z ∷ []) x y e = absurd (cc (e))
same_ends [] (z ∷ (w ∷ k)) x y e = absurd (cc (e))
same_ends (z ∷ []) [] x y e = absurd (cc (e))
same_ends (z ∷ (w ∷ h)) [] x y e = absurd (cc (e))
same_ends (z ∷ h) (w ∷ k) x y e = let first : z ≡ w = cc (e) in let rest : h ++ x ∷ [] ≡ k ++ y ∷ [] = cc (e) in let s = same_ends h k x y rest in (λ i. first i ∷ s.0 i, s.1)

pub legal_beginning : (g : Machine) (a h : List Entry) → IsLegal g h → IsPrefix a h → IsLegal g a
legal_beginning g [] _ empty p = empty
legal_beginning g (x ∷ a) _ empty p = absurd (cc (p.1))
legal_beginning g a _ (longer h x legal f) p = ⊎_elim (λ e. subst (IsLegal g) (sym e) (longer h x legal f)) (legal_beginning g a h legal) (prefix_last a h x p)

last_follows : (g : Machine) (l a : List Entry) (y : Entry) → IsLegal g l → l ≡ a ++ y ∷ [] → Follows g a y
last_follows g _ [] y empty e = absurd (cc (e))
last_follows g _ (z ∷ a) y empty e = absurd (cc (e))
last_follows g _ a y (longer h x legal f) e = let s = same_ends h a x y e in subst (λ b. Follows g b y) s.0 (subst (Follows g h) s.1 f)

-- an entry in the middle of a legal history
pub legal_before : (g : Machine) (a : List Entry) (y : Entry) (b : List Entry) → IsLegal g (a ++ y ∷ b) → IsLegal g a
legal_before g a y b legal = legal_beginning g a (a ++ y ∷ b) legal (y ∷ b, refl)

pub follows_before : (g : Machine) (a : List Entry) (y : Entry) (b : List Entry) → IsLegal g (a ++ y ∷ b) → Follows g a y
follows_before g a y b legal = last_follows g (a ++ y ∷ []) a y (legal_beginning g (a ++ y ∷ []) (a ++ y ∷ b) legal (b, append_assoc a (y ∷ []) b)) refl

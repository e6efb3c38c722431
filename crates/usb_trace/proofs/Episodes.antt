-- The episodes and the first-given URBs of a longer history.
use Rattle.std.proofs.Common.{◌≡◌, List, [], ◌∷◌, ◌++◌, refl, sym, ap, ◌∙◌, append_assoc, append-nil}
use Rattle.usb_machine.specs.declared.event.Event.{Event}
use Rattle.usb_machine.specs.declared.event.Event.TheVariants.{Give}
use Rattle.usb_machine.specs.declared.event.Answer.{Answer}
use Rattle.usb_machine.specs.declared.entry.Entry.{Entry}
use Rattle.usb_machine.specs.History.{Machine, ended_by, episodes_after, episodes_of}
use Rattle.usb_trace.specs.Run.{first_given, firsts_after, firsts_of}

-- the entries have no Give
abbrev pub IsNoGive : Event → Type 0
IsNoGive (Give u) = ⊥
IsNoGive _ = Unit {0}

abbrev pub HaveNoGive : List Entry → Type 0
HaveNoGive [] = Unit {0}
HaveNoGive (x ∷ xs) = IsNoGive x.event × HaveNoGive xs

pub episodes-append : (b h xs : List Entry) → episodes_after b (h ++ xs) ≡ episodes_after b h ++ episodes_after (b ++ h) xs
episodes-append b [] xs = ap (λ l. episodes_after l xs) (sym (append-nil b))
episodes-append b (x ∷ h) xs =
    ap (λ l. ended_by b x.event x.answer ++ l) (episodes-append (b ++ x ∷ []) h xs)
    ∙ (sym (append_assoc (ended_by b x.event x.answer) (episodes_after (b ++ x ∷ []) h) (episodes_after ((b ++ x ∷ []) ++ h) xs))
    ∙ ap (λ l. (ended_by b x.event x.answer ++ episodes_after (b ++ x ∷ []) h) ++ episodes_after l xs) (append_assoc b (x ∷ []) h))

no_end : (b : List Entry) (e : Event) (a : Answer) → IsNoGive e → ended_by b e a ≡ []
no_end b (Give u) a is = absurd is
no_end b _ a is = refl

no_ends : (b xs : List Entry) → HaveNoGive xs → episodes_after b xs ≡ []
no_ends b [] is = refl
no_ends b (x ∷ xs) is = ap (λ l. l ++ episodes_after (b ++ x ∷ []) xs) (no_end b x.event x.answer is.0) ∙ no_ends (b ++ x ∷ []) xs is.1

pub no_episode : (h xs : List Entry) → HaveNoGive xs → episodes_of (h ++ xs) ≡ episodes_of h
no_episode h xs is = episodes-append [] h xs ∙ (ap (λ l. episodes_of h ++ l) (no_ends h xs is) ∙ append-nil (episodes_of h))

module _ (g : Machine) where
  pub firsts-append : (b h xs : List Entry) → firsts_after g b (h ++ xs) ≡ firsts_after g b h ++ firsts_after g (b ++ h) xs
  firsts-append b [] xs = ap (λ l. firsts_after g l xs) (sym (append-nil b))
  firsts-append b (x ∷ h) xs =
      ap (λ l. first_given g b x.event ++ l) (firsts-append (b ++ x ∷ []) h xs)
      ∙ (sym (append_assoc (first_given g b x.event) (firsts_after g (b ++ x ∷ []) h) (firsts_after g ((b ++ x ∷ []) ++ h) xs))
      ∙ ap (λ l. (first_given g b x.event ++ firsts_after g (b ++ x ∷ []) h) ++ firsts_after g l xs) (append_assoc b (x ∷ []) h))

  no_first : (b : List Entry) (e : Event) → IsNoGive e → first_given g b e ≡ []
  no_first b (Give u) is = absurd is
  no_first b _ is = refl

  no_firsts : (b xs : List Entry) → HaveNoGive xs → firsts_after g b xs ≡ []
  no_firsts b [] is = refl
  no_firsts b (x ∷ xs) is = ap (λ l. l ++ firsts_after g (b ++ x ∷ []) xs) (no_first b x.event is.0) ∙ no_firsts (b ++ x ∷ []) xs is.1

  pub no_first_given : (h xs : List Entry) → HaveNoGive xs → firsts_of g (h ++ xs) ≡ firsts_of g h
  no_first_given h xs is = firsts-append [] h xs ∙ (ap (λ l. firsts_of g h ++ l) (no_firsts h xs is) ∙ append-nil (firsts_of g h))

-- The hub's token after a flag.
use Rattle.std.proofs.Common.{◌≡◌, ◌≢◌, ℕ, ◌<◌, ◌≤◌, Bool, true, false, cond, eqb, List, [], ◌∷◌, ◌++◌, length, get_or, set, sym, refl, ap, ◌∙◌, subst, arith, eqb-true, eq-eqb, length-set}
use Rattle.std.proofs.lemmas.List.{get_or-set_same, get_or-set_other}
use Rattle.usb_types.specs.declared.urb.Flag.{Flag as FlagName}
use Rattle.usb_machine.specs.declared.entry.TheConstants.{HUB}
use Rattle.usb_machine.specs.declared.entry.Entry.{Entry}
use Rattle.usb_machine.specs.declared.state.Flags.{Flags}
use Rattle.usb_machine.specs.declared.pass_row.Held.{Held}
use Rattle.usb_machine.specs.State.{has_flag, with_flag, no_flags}
use Rattle.usb_machine.specs.History.{Machine, state_of, is_of}
use Rattle.usb_machine.specs.Parts.{part_of, held_of, held_after}
use Rattle.usb_machine.proofs.Held.{flags_are_held}
use Rattle.usb_machine.proofs.Steps.{held_of-snoc}
use Rattle.usb_machine.specs.Fresh.{Known}
use Rattle.usb_machine.specs.HostCalls.{IsUrb}
use Rattle.usb_machine.specs.Tokens.{IsWholeHub}
use Rattle.usb_turn_host.specs.Turning.{IsLater}

-- the flags that stand are those that the hub stores
pub stored : (g : Machine) (p : Known) (u : ℕ) (f : FlagName) (b : Bool) (flags : Flags) → p.number ≡ HUB → flags ≡ (held_of p.mine u).flags → has_flag f flags ≡ b → (h : List Entry) → IsLater g p h → has_flag f (state_of h u).flags ≡ b
stored g p u f b flags hub is set h later =
    let own : part_of h HUB ≡ p.mine = subst (λ n. part_of h n ≡ p.mine) hub later.own in
    ap (has_flag f) (sym (flags_are_held g u h later.legal) ∙ (ap (λ m. (held_of m u).flags) own ∙ sym is)) ∙ set

differ : (a b : ℕ) → eqb a b ≡ false → b ≢ a
differ a b off e = let bad : true ≡ false = sym (eq-eqb a b (sym e)) ∙ off in absurd (cc)

set_if : (xs : List Flags) (u v : ℕ) (x : Flags) (b : Bool) → eqb u v ≡ b → u < length xs → get_or (set xs u x) v no_flags ≡ cond b x (get_or xs v no_flags)
set_if xs u v x true is lt = subst (λ k. get_or (set xs u x) k no_flags ≡ x) (eqb-true u v is) (get_or-set_same xs u x no_flags lt)
set_if xs u v x false is lt = get_or-set_other xs u v x no_flags (differ u v is)

-- where both change u's flags alike
both_if : (b : Bool) (f : FlagName) (v : Bool) (x : Flags) (y : Flags) (d e : Held) → (b ≡ true → x ≡ d.flags) → y ≡ d.flags → e.flags ≡ with_flag f v d.flags → cond b (with_flag f v x) y ≡ (cond b e d).flags
both_if true f v x y d e at is changed = ap (with_flag f v) (at refl) ∙ sym changed
both_if false f v x y d e at is changed = is

-- the token after an event of u that changes a flag
pub whole_set : (g : Machine) (p q : Known) (u : ℕ) (f : FlagName) (v : Bool) (x : Entry) (xs ys : List Flags)
    → ((w : ℕ) → is_of w x.event ≡ eqb u w) → ((d : Held) → (held_after d x.event).flags ≡ with_flag f v d.flags)
    → q.number ≡ p.number → q.mine ≡ p.mine ++ x ∷ [] → ys ≡ set xs u (with_flag f v (get_or xs u no_flags)) → IsUrb g u
    → IsWholeHub g p (λ w. get_or xs w no_flags) (λ m. length m.layout.homes ≤ length xs) → IsWholeHub g q (λ w. get_or ys w no_flags) (λ m. length m.layout.homes ≤ length ys)
whole_set g p q u f v x xs ys of_u changes number mine is within whole =
    let size : length ys ≡ length xs = ap length is ∙ length-set xs u (with_flag f v (get_or xs u no_flags)) in
    record {
      room = subst (λ n. length g.layout.homes ≤ n) (sym size) whole.room;
      number = number ∙ whole.number;
      flags_are = λ w lt.
          let d : Held = held_of p.mine w in
          ap (λ l. get_or l w no_flags) is
          ∙ (set_if xs u w (with_flag f v (get_or xs u no_flags)) (eqb u w) refl (lt-le u (length g.layout.homes) (length xs) within whole.room)
          ∙ (both_if (eqb u w) f v (get_or xs u no_flags) (get_or xs w no_flags) d (held_after d x.event) (λ same. ap (λ k. get_or xs k no_flags) (eqb-true u w same) ∙ whole.flags_are w lt) (whole.flags_are w lt) (changes d)
          ∙ sym (ap (λ m. (held_of m w).flags) mine ∙ (ap (λ (e : Held). e.flags) (held_of-snoc p.mine x w) ∙ ap (λ b. (cond b (held_after d x.event) d).flags) (of_u w)))));
    }
  where
    lt-le : (a b c : ℕ) → a < b → b ≤ c → a < c
    lt-le a b c h k = omega arith

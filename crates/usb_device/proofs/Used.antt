-- Items that one call more uses, and where the object's places are then.
use Rattle.std.proofs.Common.{ℕ, ◌≡◌, ◌≢◌, ◌+◌, ◌-◌, Bool, true, false, cond, eqb, Option, Some, List, [], ◌∷◌, ◌++◌, length, refl, sym, ap, ◌∙◌, subst, arith, ne_eqb}
use Rattle.std.specs.Prelude.{slice_get}
use Rattle.std.specs.Borrow.{Bor}
use Rattle.std.proofs.lemmas.Bool.{eqb-true}
use Rattle.usb_xfer.specs.Replies.{Reply}
use Rattle.usb_xfer.specs.declared.script.What.{What}
use Rattle.usb_xfer.specs.declared.script.Item.{Item}
use Rattle.usb_xfer.specs.declared.script.DeviceScript.{DeviceScript}
use Rattle.usb_device.specs.declared.place.Place.{Place}
use Rattle.usb_device.specs.declared.scripted.ScriptedEnd.{ScriptedEnd}
use Rattle.usb_device.specs.declared.scripted.Scripted.{Scripted}
use Rattle.usb_device.specs.Items.{reply_at, items_at}
use Rattle.usb_device.specs.Places.{coming, IsAfter}
use Rattle.usb_device.specs.Acks.{IsAcked}
use Rattle.usb_device.specs.Device.{Call, questions_at, is_raw, used_at, items_used, acked_at, AreAcked, Stands}
use Rattle.usb_device.specs.Said.{Uses}
use Rattle.usb_device.proofs.Lookups.{each_set}
use Rattle.usb_device.proofs.Calls.{questions-snoc_elsewhere, used-snoc_elsewhere}

pub after_same : (p : Place) (a : ℕ) (items : List Item) (n m : ℕ) → n ≡ m → IsAfter p a items n → IsAfter p a items m
after_same p a items n m e is = subst (IsAfter p a items) e is

-- the place after one item more
after_next : (p q : Place) (a : ℕ) (items : List Item) (n : ℕ) → ((last : Reply) (k : ℕ) → coming last q a k ≡ coming last p a (k + 1)) → IsAfter p a items n → IsAfter q a items (n + 1)
after_next p q a items n on is = record {
  next = λ last k. let more : n + (k + 1) ≡ n + 1 + k = omega arith in on last k ∙ (is.next last (k + 1) ∙ ap (reply_at last items) more);
}

-- what comes first
pub coming_first : (p : Place) (a : ℕ) (items : List Item) (n : ℕ) → IsAfter p a items n → (last : Reply) → coming last p a 0 ≡ reply_at last items n
coming_first p a items n is last = let none : n + 0 ≡ n = omega arith in is.next last 0 ∙ ap (reply_at last items) none

module _ (script : DeviceScript) (calls : List Call) where
  -- how many items of 00 were used
  abbrev pub used_00 : List Call → ℕ
  used_00 l = cond (is_raw script.kind) (length (questions_at 0 l)) (length (questions_at 0 l) - 6)

  -- the use of an address other than 00
  pub used_end : (l : List Call) (a : ℕ) → a ≢ 0 → items_used script l a ≡ used_at script l a
  used_end l a off = ap (λ b. cond b (used_00 l) (used_at script l a)) (ne_eqb a 0 off)

  -- a call elsewhere uses none of the items
  pub used_elsewhere : (c : Call) (a : ℕ) → c.address ≢ a → items_used script (calls ++ c ∷ []) a ≡ items_used script calls a
  used_elsewhere c a off = go (eqb a 0) refl
    where
      go : (b : Bool) → eqb a 0 ≡ b → items_used script (calls ++ c ∷ []) a ≡ items_used script calls a
      go true e =
          let zero_off : c.address ≢ 0 = λ z. off (z ∙ sym (eqb-true a 0 e)) in
          ap (λ b. cond b (used_00 (calls ++ c ∷ [])) (used_at script (calls ++ c ∷ []) a)) e
          ∙ (ap (λ q. cond (is_raw script.kind) (length q) (length q - 6)) (questions-snoc_elsewhere 0 calls c zero_off)
          ∙ ap (λ b. cond b (used_00 calls) (used_at script calls a)) (sym e))
      go false e =
          ap (λ b. cond b (used_00 (calls ++ c ∷ [])) (used_at script (calls ++ c ∷ []) a)) e
          ∙ (used-snoc_elsewhere script a calls c off ∙ ap (λ b. cond b (used_00 calls) (used_at script calls a)) (sym e))

  abbrev pub EndPlaced : List Call → ℕ → ScriptedEnd → Type 0
  EndPlaced l a end = IsAfter end.place a (items_at a script.answers) (items_used script l a)

  -- where no item was used, the places are right
  pub unused : (old new : Scripted) (c : Call) → Stands old script calls → new.ends.items ≡ old.ends.items → items_used script (calls ++ c ∷ []) c.address ≡ items_used script calls c.address
      → (a : ℕ) (end : ScriptedEnd) → slice_get new.ends.items a ≡ Some end → EndPlaced (calls ++ c ∷ []) a end
  unused old new c stands same here a end at = go (eqb c.address a) refl
    where
      before : EndPlaced calls a end
      before = stands.placed.places a end (ap (λ l. slice_get l a) (sym same) ∙ at)

      go : (b : Bool) → eqb c.address a ≡ b → EndPlaced (calls ++ c ∷ []) a end
      go true e = after_same end.place a (items_at a script.answers) (items_used script calls a) (items_used script (calls ++ c ∷ []) a)
          (subst (λ n. items_used script calls n ≡ items_used script (calls ++ c ∷ []) n) (eqb-true c.address a e) (sym here)) before
      go false e = after_same end.place a (items_at a script.answers) (items_used script calls a) (items_used script (calls ++ c ∷ []) a)
          (sym (used_elsewhere c a (λ q. absurd (false_true (sym e ∙ is_true q))))) before
        where
          false_true : false ≡ true → ⊥
          false_true z = cc

          is_true : c.address ≡ a → eqb c.address a ≡ true
          is_true q = grind arith

  -- and where one was used
  pub used : (old new : Scripted) (c : Call) (next : Option (Bor What)) → Stands old script calls → Uses old new c.address next → items_used script (calls ++ c ∷ []) c.address ≡ items_used script calls c.address + 1
      → (a : ℕ) (end : ScriptedEnd) → slice_get new.ends.items a ≡ Some end → EndPlaced (calls ++ c ∷ []) a end
  used old new c next stands uses one = each_set (EndPlaced calls) (EndPlaced (calls ++ c ∷ [])) old.ends.items new.ends.items c.address (record uses.end { place = uses.place }) uses.ends stands.placed.places
      (after_same uses.place c.address (items_at c.address script.answers) (items_used script calls c.address + 1) (items_used script (calls ++ c ∷ []) c.address) (sym one)
      (after_next uses.end.place uses.place c.address (items_at c.address script.answers) (items_used script calls c.address) uses.on (stands.placed.places c.address uses.end uses.there)))
      (λ a end off is. after_same end.place a (items_at a script.answers) (items_used script calls a) (items_used script (calls ++ c ∷ []) a) (sym (used_elsewhere c a (λ e. off (sym e)))) is)

  abbrev pub EndAcked : ℕ → ScriptedEnd → Type 0
  EndAcked a end = IsAcked end.acked (acked_at script calls a)

  -- a use acknowledges nothing
  pub used_acked : (old new : Scripted) (a : ℕ) (next : Option (Bor What)) → AreAcked old script calls → Uses old new a next → AreAcked new script calls
  used_acked old new a next acked uses = each_set EndAcked EndAcked old.ends.items new.ends.items a (record uses.end { place = uses.place }) uses.ends acked (acked a uses.end uses.there) (λ b end off is. is)

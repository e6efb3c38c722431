-- What the object replies to one call more, and where it is then.
use Rattle.std.proofs.Common.{ℕ, ◌≡◌, ◌≢◌, ◌+◌, ◌-◌, ◌<◌, ◌≤◌, Bool, true, false, cond, nat_lt, Option, List, [], ◌∷◌, ◌++◌, length, refl, sym, ap, ◌∙◌, arith, ne_eqb}
use Rattle.std.specs.Prelude.{slice_get}
use Rattle.std.specs.Borrow.{Bor}
use Rattle.std.proofs.lemmas.Grind.{common_steps}
use Rattle.usb_xfer.specs.Replies.{Reply, Question}
use Rattle.usb_xfer.specs.declared.script.What.{What}
use Rattle.usb_xfer.specs.declared.script.What.TheVariants.{Ack, Stall}
use Rattle.usb_xfer.specs.declared.script.DeviceScript.{DeviceScript}
use Rattle.usb_device.specs.declared.said.Said.{Said}
use Rattle.usb_device.specs.declared.said.Said.TheVariants.{Other, Rules}
use Rattle.usb_device.specs.declared.state.DeviceState.{DeviceState}
use Rattle.usb_device.specs.declared.scripted.Scripted.{Scripted}
use Rattle.usb_device.specs.Items.{reply_at, reply_of, items_at, script_at, last_at}
use Rattle.usb_device.specs.Places.{next_or}
use Rattle.usb_device.specs.Rules.{Ruled, is_halted}
use Rattle.usb_device.specs.Device.{Call, questions_at, is_raw, said_at_00, by_item, at_00, state_after, used_at, end_reply, reply_to, items_used, ArePlaced, AreAcked, Stands}
use Rattle.usb_device.specs.Said.{word_of, Uses, IsAsked}
use Rattle.usb_device.specs.Replied.{call_of}
use Rattle.usb_device.proofs.Calls.{count-snoc_here, questions-snoc_elsewhere, state-snoc_00, state-snoc_elsewhere, used-snoc_here, used-snoc_halted}
use Rattle.usb_device.proofs.Used.{coming_first, used_00, used_end, unused, used, used_acked}

below : (a b : ℕ) → a < b → nat_lt a b ≡ true
below a b l = grind (arith, common_steps)

not_below : (a b : ℕ) → b ≤ a → nat_lt a b ≡ false
not_below a b l = grind (arith, common_steps)

module _ (script : DeviceScript) (calls : List Call) where
  abbrev pub asked_00 : ℕ
  asked_00 = length (questions_at 0 calls)

  abbrev pub state : DeviceState
  state = state_after script calls

  abbrev free_of : ℕ → ℕ
  free_of n = cond (is_raw script.kind) 0 (6 - n)

  -- the rule at 00, for each kind
  at_raw : (q : Question) → is_raw script.kind ≡ true → at_00 script state asked_00 q ≡ record { reply = reply_of (script_at script 0) asked_00; state = state }
  at_raw q raw = ap (λ b. cond b (record { reply = reply_of (script_at script 0) asked_00; state = state }) (by_item (said_at_00 script asked_00) script state q)) raw

  pub at_other : (q : Question) → is_raw script.kind ≡ false → at_00 script state asked_00 q ≡ by_item (said_at_00 script asked_00) script state q
  at_other q other = ap (λ b. cond b (record { reply = reply_of (script_at script 0) asked_00; state = state }) (by_item (said_at_00 script asked_00) script state q)) other

  pub said_free : asked_00 < 6 → said_at_00 script asked_00 ≡ Ack
  said_free l = ap (λ b. cond b Ack (reply_at Ack (items_at 0 script.answers) (asked_00 - 6))) (below asked_00 6 l)

  said_item : 6 ≤ asked_00 → said_at_00 script asked_00 ≡ reply_at Ack (items_at 0 script.answers) (asked_00 - 6)
  said_item l = ap (λ b. cond b Ack (reply_at Ack (items_at 0 script.answers) (asked_00 - 6))) (not_below asked_00 6 l)

  -- a word at 00 that is the rule's
  word_00 : (new : Scripted) (q : Question) (said : Said) → new.script.now ≡ script → new.state ≡ state → ArePlaced new script (calls ++ call_of 0 q ∷ []) → AreAcked new script calls
      → word_of said script state q ≡ at_00 script state asked_00 q → IsAsked new script calls (call_of 0 q) said
  word_00 new q said of state_is placed acked word = record {
    of = of;
    state = state_is;
    placed = placed;
    acked = acked;
    reply = ap (λ (r : Ruled). r.reply) word;
    next = ap (λ (r : Ruled). r.state) word ∙ sym (state-snoc_00 script calls (call_of 0 q) refl);
  }

  -- one of the control transfers that use no item
  pub free_asked : (old new : Scripted) (q : Question) → Stands old script calls → 0 < old.free → new.script.now ≡ old.script.now → new.state ≡ old.state → new.ends.items ≡ old.ends.items → new.free ≡ old.free - 1
      → IsAsked new script calls (call_of 0 q) Rules
  free_asked old new q stands some of state_is ends free = go (is_raw script.kind) refl
    where
      go : (b : Bool) → is_raw script.kind ≡ b → IsAsked new script calls (call_of 0 q) Rules
      go true raw = let none : old.free ≡ 0 = stands.placed.free ∙ ap (λ b. cond b 0 (6 - asked_00)) raw in absurd (omega arith)
      go false other =
          let left : old.free ≡ 6 - asked_00 = stands.placed.free ∙ ap (λ b. cond b 0 (6 - asked_00)) other in
          let few : asked_00 < 6 = omega arith in
          let more = count-snoc_here 0 calls (call_of 0 q) refl in
          let fewer : new.free ≡ 6 - length (questions_at 0 (calls ++ call_of 0 q ∷ [])) = omega arith in
          let still : length (questions_at 0 (calls ++ call_of 0 q ∷ [])) - 6 ≡ asked_00 - 6 = omega arith in
          word_00 new q Rules (of ∙ stands.of) (state_is ∙ stands.state)
          record {
            free = fewer ∙ ap (λ b. cond b 0 (6 - length (questions_at 0 (calls ++ call_of 0 q ∷ [])))) (sym other);
            places = unused script calls old new (call_of 0 q) stands ends
                (ap (λ b. cond b (length (questions_at 0 (calls ++ call_of 0 q ∷ []))) (length (questions_at 0 (calls ++ call_of 0 q ∷ [])) - 6)) other
                ∙ (still ∙ ap (λ b. cond b asked_00 (asked_00 - 6)) (sym other)));
          }
          (λ a end at. stands.acked a end (ap (λ l. slice_get l a) (sym ends) ∙ at))
          (sym (at_other q other ∙ ap (λ r. by_item r script state q) (said_free few)))

  -- a call at 00 that uses an item
  item_00 : (old new : Scripted) (q : Question) (next : Option (Bor What)) (said : Said) → Stands old script calls → old.free ≡ 0 → Uses old new 0 next
      → used_00 script calls (calls ++ call_of 0 q ∷ []) ≡ used_00 script calls calls + 1 → free_of (length (questions_at 0 (calls ++ call_of 0 q ∷ []))) ≡ 0
      → word_of said script state q ≡ at_00 script state asked_00 q → IsAsked new script calls (call_of 0 q) said
  item_00 old new q next said stands none uses one still word = word_00 new q said (uses.of ∙ stands.of) (uses.state ∙ stands.state)
      record { free = uses.free ∙ (none ∙ sym still); places = used script calls old new (call_of 0 q) next stands uses one }
      (used_acked script calls old new 0 next stands.acked uses)
      word

  -- what comes at 00, with this reply after the last item
  comes_00 : (old new : Scripted) (next : Option (Bor What)) → Stands old script calls → Uses old new 0 next → (last : Reply) → next_or last next ≡ reply_at last (items_at 0 script.answers) (used_00 script calls calls)
  comes_00 old new next stands uses last = uses.item last ∙ coming_first uses.end.place 0 (items_at 0 script.answers) (used_00 script calls calls) (stands.placed.places 0 uses.end uses.there) last

  pub raw_asked : (old new : Scripted) (q : Question) (next : Option (Bor What)) (said : Said) → Stands old script calls → old.free ≡ 0 → is_raw script.kind ≡ true → Uses old new 0 next
      → word_of said script state q ≡ record { reply = next_or Stall next; state = state } → IsAsked new script calls (call_of 0 q) said
  raw_asked old new q next said stands none raw uses word =
      let more = count-snoc_here 0 calls (call_of 0 q) refl in
      let all : used_00 script calls calls ≡ asked_00 = ap (λ b. cond b asked_00 (asked_00 - 6)) raw in
      item_00 old new q next said stands none uses
      (ap (λ b. cond b (length (questions_at 0 (calls ++ call_of 0 q ∷ []))) (length (questions_at 0 (calls ++ call_of 0 q ∷ [])) - 6)) raw ∙ (more ∙ ap (λ n. n + 1) (sym all)))
      (ap (λ b. cond b 0 (6 - length (questions_at 0 (calls ++ call_of 0 q ∷ [])))) raw)
      (word ∙ (ap (λ (r : Reply). let x : Ruled = record { reply = r; state = state } in x) (comes_00 old new next stands uses Stall ∙ ap (reply_at Stall (items_at 0 script.answers)) all) ∙ sym (at_raw q raw)))

  pub other_asked : (old new : Scripted) (q : Question) (next : Option (Bor What)) (said : Said) → Stands old script calls → old.free ≡ 0 → is_raw script.kind ≡ false → Uses old new 0 next
      → word_of said script state q ≡ by_item (next_or Ack next) script state q → IsAsked new script calls (call_of 0 q) said
  other_asked old new q next said stands none other uses word =
      let more = count-snoc_here 0 calls (call_of 0 q) refl in
      let left : old.free ≡ 6 - asked_00 = stands.placed.free ∙ ap (λ b. cond b 0 (6 - asked_00)) other in
      let many : 6 ≤ asked_00 = omega arith in
      let all : used_00 script calls calls ≡ asked_00 - 6 = ap (λ b. cond b asked_00 (asked_00 - 6)) other in
      let next_use : length (questions_at 0 (calls ++ call_of 0 q ∷ [])) - 6 ≡ used_00 script calls calls + 1 = omega arith in
      let gone : 6 - length (questions_at 0 (calls ++ call_of 0 q ∷ [])) ≡ 0 = omega arith in
      item_00 old new q next said stands none uses
      (ap (λ b. cond b (length (questions_at 0 (calls ++ call_of 0 q ∷ []))) (length (questions_at 0 (calls ++ call_of 0 q ∷ [])) - 6)) other ∙ next_use)
      (ap (λ b. cond b 0 (6 - length (questions_at 0 (calls ++ call_of 0 q ∷ [])))) other ∙ gone)
      (word ∙ (ap (λ r. by_item r script state q) (comes_00 old new next stands uses Ack ∙ (ap (reply_at Ack (items_at 0 script.answers)) all ∙ sym (said_item many))) ∙ sym (at_other q other)))

  -- the reply at another address
  reply_end : (a : ℕ) (q : Question) → a ≢ 0 → reply_to script calls (call_of a q) ≡ end_reply script calls a
  reply_end a q off = ap (λ b. cond b (at_00 script state asked_00 q).reply (end_reply script calls a)) (ne_eqb a 0 off)

  same_free : (d : Scripted) (a : ℕ) (q : Question) → a ≢ 0 → d.free ≡ free_of asked_00 → d.free ≡ free_of (length (questions_at 0 (calls ++ call_of a q ∷ [])))
  same_free d a q off free = free ∙ ap (λ l. free_of (length l)) (sym (questions-snoc_elsewhere 0 calls (call_of a q) off))

  -- a halted address
  pub halted_asked : (old : Scripted) (a : ℕ) (q : Question) → a ≢ 0 → Stands old script calls → is_halted old.state a ≡ true → IsAsked old script calls (call_of a q) (Other Stall)
  halted_asked old a q off stands halt =
      let halted : is_halted state a ≡ true = ap (λ s. is_halted s a) (sym stands.state) ∙ halt in
      record {
        of = stands.of;
        state = stands.state;
        placed = record {
          free = same_free old a q off stands.placed.free;
          places = unused script calls old old (call_of a q) stands refl (used_end script calls (calls ++ call_of a q ∷ []) a off ∙ (used-snoc_halted script a calls (call_of a q) halted ∙ sym (used_end script calls calls a off)));
        };
        acked = stands.acked;
        reply = sym (reply_end a q off ∙ ap (λ b. cond b Stall (reply_of (script_at script a) (used_at script calls a))) halted);
        next = sym (state-snoc_elsewhere script calls (call_of a q) off);
      }

  -- and one that isn't
  pub end_asked : (old new : Scripted) (a : ℕ) (q : Question) (next : Option (Bor What)) (said : Said) → a ≢ 0 → Stands old script calls → is_halted old.state a ≡ false → Uses old new a next
      → word_of said script state q ≡ record { reply = next_or (last_at a) next; state = state } → IsAsked new script calls (call_of a q) said
  end_asked old new a q next said off stands halt uses word =
      let going : is_halted state a ≡ false = ap (λ s. is_halted s a) (sym stands.state) ∙ halt in
      let ends_use = used_end script calls calls a off in
      let comes : next_or (last_at a) next ≡ reply_of (script_at script a) (used_at script calls a) =
      uses.item (last_at a) ∙ (coming_first uses.end.place a (items_at a script.answers) (items_used script calls a) (stands.placed.places a uses.end uses.there) (last_at a)
      ∙ ap (reply_at (last_at a) (items_at a script.answers)) ends_use) in
      record {
        of = uses.of ∙ stands.of;
        state = uses.state ∙ stands.state;
        placed = record {
          free = uses.free ∙ same_free old a q off stands.placed.free;
          places = used script calls old new (call_of a q) next stands uses
              (used_end script calls (calls ++ call_of a q ∷ []) a off ∙ (used-snoc_here script a calls (call_of a q) refl going ∙ ap (λ n. n + 1) (sym ends_use)));
        };
        acked = used_acked script calls old new a next stands.acked uses;
        reply = ap (λ (r : Ruled). r.reply) word ∙ (comes ∙ sym (reply_end a q off ∙ ap (λ b. cond b Stall (reply_of (script_at script a) (used_at script calls a))) going));
        next = ap (λ (r : Ruled). r.state) word ∙ sym (state-snoc_elsewhere script calls (call_of a q) off);
      }

-- A call, from what the script replied to the reply that was due.
use Rattle.std.proofs.Common.{ℕ, ◌≡◌, ◌≢◌, inl, inr, ⊎_elim, Bool, true, false, eqb, Some, List, [], ◌∷◌, ◌++◌, refl, sym, ap, ◌∙◌, subst, arith, append-nil}
use Rattle.std.specs.Prelude.{slice_get, slice_set}
use Rattle.std.proofs.lemmas.Bool.{eqb-true}
use Rattle.usb_ctrl.specs.declared.setup.Setup.{Setup}
use Rattle.usb_xfer.specs.Replies.{Reply, Question, Fetch, Send, Ask, acked_by, out_heard}
use Rattle.usb_xfer.specs.declared.script.What.TheVariants.{Ack, Nak, Stall, Error, Packet}
use Rattle.usb_xfer.specs.declared.script.DeviceScript.{DeviceScript}
use Rattle.usb_device.specs.declared.acked.Acked.{Acked}
use Rattle.usb_device.specs.declared.said.Said.{Said}
use Rattle.usb_device.specs.declared.said.Said.TheVariants.{Item, Other, Rules}
use Rattle.usb_device.specs.declared.state.DeviceState.{DeviceState}
use Rattle.usb_device.specs.declared.scripted.ScriptedEnd.{ScriptedEnd}
use Rattle.usb_device.specs.declared.scripted.Scripted.{Scripted}
use Rattle.usb_device.specs.Acks.{is_taken, IsAcked}
use Rattle.usb_device.specs.Rules.{Ruled}
use Rattle.usb_device.specs.Device.{Call, state_after, reply_to, acked_at, AreAcked, Stands}
use Rattle.usb_device.specs.Left.{items_left}
use Rattle.usb_device.specs.Said.{word_of, packet_word, IsAsked, Spends}
use Rattle.usb_device.specs.Replied.{call_of, Replied}
use Rattle.usb_device.proofs.Lookups.{each_set}
use Rattle.usb_device.proofs.Used.{EndPlaced, EndAcked}
use Rattle.usb_device.proofs.Spending.{left_same, left_acked}
use Rattle.usb_device.proofs.Calls.{acked-snoc_here, acked-snoc_elsewhere}

-- whatever script and calls the object stands for, it replied this
abbrev pub Asks : Scripted → Scripted → ℕ → Question → Said → Type 0
Asks old new a q said = (script : DeviceScript) (calls : List Call) → Stands old script calls → IsAsked new script calls (call_of a q) said

-- where nothing is acknowledged, what is known of the acknowledged bytes stays
nothing_acked : (d : Scripted) (script : DeviceScript) (calls : List Call) (c : Call) → acked_by c.question (reply_to script calls c) ≡ [] → AreAcked d script calls → AreAcked d script (calls ++ c ∷ [])
nothing_acked d script calls c none acked a end at = go (eqb c.address a) refl
  where
    go : (b : Bool) → eqb c.address a ≡ b → IsAcked end.acked (acked_at script (calls ++ c ∷ []) a)
    go true e = subst (IsAcked end.acked) (sym (acked-snoc_here script a calls c (eqb-true c.address a e) ∙ (ap (λ l. acked_at script calls a ++ l) none ∙ append-nil (acked_at script calls a)))) (acked a end at)
    go false e = subst (IsAcked end.acked) (sym (acked-snoc_elsewhere script a calls c (λ q. off q e))) (acked a end at)
      where
        off : c.address ≡ a → eqb c.address a ≡ false → ⊥
        off q f = grind arith

-- the object with its state as the call leaves it has heard the call, where nothing was acknowledged
stands_now : (mid new : Scripted) (script : DeviceScript) (calls : List Call) (c : Call) (said : Said) → IsAsked mid script calls c said → new.script.now ≡ mid.script.now → new.free ≡ mid.free → new.ends.items ≡ mid.ends.items
    → new.state ≡ (word_of said script (state_after script calls) c.question).state → acked_by c.question (reply_to script calls c) ≡ [] → Stands new script (calls ++ c ∷ [])
stands_now mid new script calls c said asked of free ends state none = record {
  of = of ∙ asked.of;
  state = state ∙ asked.next;
  placed = record {
    free = free ∙ asked.placed.free;
    places = λ a end at. asked.placed.places a end (ap (λ l. slice_get l a) (sym ends) ∙ at);
  };
  acked = nothing_acked new script calls c none (λ a end at. asked.acked a end (ap (λ l. slice_get l a) (sym ends) ∙ at));
}

-- the rules leave a packet's state as it was, and refuse it
pub fetch_word : (said : Said) (script : DeviceScript) (state : DeviceState) → word_of said script state Fetch ≡ record { reply = packet_word said; state = state }
fetch_word (Item what) script state = refl
fetch_word (Other what) script state = refl
fetch_word Rules script state = refl

send_word : (said : Said) (script : DeviceScript) (state : DeviceState) (packet : List ℕ) → word_of said script state (Send packet) ≡ record { reply = packet_word said; state = state }
send_word (Item what) script state packet = refl
send_word (Other what) script state packet = refl
send_word Rules script state packet = refl

pub fetched : (old new : Scripted) (a : ℕ) (said : Said) → Asks old new a Fetch said → Spends old new a (packet_word said) → Replied old a Fetch (packet_word said) new
fetched old new a said asks spends = record {
  due = λ script calls stands. ap (λ (r : Ruled). r.reply) (sym (fetch_word said script (state_after script calls))) ∙ (asks script calls stands).reply;
  heard = λ script calls stands. let asked = asks script calls stands in
      stands_now new new script calls (call_of a Fetch) said asked refl refl refl (asked.state ∙ ap (λ (r : Ruled). r.state) (sym (fetch_word said script (state_after script calls)))) refl;
  left = spends.left;
  spent = spends.spent;
  rises = spends.rises;
  count = spends.count;
  counted = spends.counted;
}

send_due : (old mid : Scripted) (a : ℕ) (said : Said) (packet : List ℕ) → Asks old mid a (Send packet) said → (script : DeviceScript) (calls : List Call) → Stands old script calls → packet_word said ≡ reply_to script calls (call_of a (Send packet))
send_due old mid a said packet asks script calls stands = ap (λ (r : Ruled). r.reply) (sym (send_word said script (state_after script calls) packet)) ∙ (asks script calls stands).reply

-- what is no Ack acknowledges nothing
no_ack : (packet : List ℕ) (r : Reply) → r ≢ Ack → acked_by (Send packet) r ≡ []
no_ack packet Ack off = absurd (off refl)
no_ack packet Nak off = refl
no_ack packet Stall off = refl
no_ack packet Error off = refl
no_ack packet (Packet bytes) off = refl

-- the host hears an Ack where there is one
pub is_an_ack : (r : Reply) → is_taken (out_heard r) ≡ true → r ≡ Ack
is_an_ack Ack e = refl
is_an_ack Nak e = cc
is_an_ack Stall e = cc
is_an_ack Error e = cc
is_an_ack (Packet bytes) e = cc

pub is_no_ack : (r : Reply) → is_taken (out_heard r) ≡ false → r ≢ Ack
is_no_ack Ack e = λ z. cc
is_no_ack Nak e = λ z. cc
is_no_ack Stall e = λ z. cc
is_no_ack Error e = λ z. cc
is_no_ack (Packet bytes) e = λ z. cc

pub not_taken : (old new : Scripted) (a : ℕ) (packet : List ℕ) (said : Said) → Asks old new a (Send packet) said → Spends old new a (packet_word said) → packet_word said ≢ Ack → Replied old a (Send packet) (packet_word said) new
not_taken old new a packet said asks spends off = record {
  due = send_due old new a said packet asks;
  heard = λ script calls stands. let asked = asks script calls stands in
      stands_now new new script calls (call_of a (Send packet)) said asked refl refl refl (asked.state ∙ ap (λ (r : Ruled). r.state) (sym (send_word said script (state_after script calls) packet)))
      (no_ack packet (reply_to script calls (call_of a (Send packet))) (λ e. off (send_due old new a said packet asks script calls stands ∙ e)));
  left = spends.left;
  spent = spends.spent;
  rises = spends.rises;
  count = spends.count;
  counted = spends.counted;
}

-- an Ack acknowledges the packet
pub sent : (old mid new : Scripted) (a : ℕ) (packet : List ℕ) (said : Said) (end : ScriptedEnd) (acked : Acked) → Asks old mid a (Send packet) said → Spends old mid a (packet_word said) → packet_word said ≡ Ack
    → new.script.now ≡ mid.script.now → new.free ≡ mid.free → new.state ≡ mid.state → new.used ≡ mid.used → slice_get mid.ends.items a ≡ Some end → new.ends.items ≡ slice_set mid.ends.items a (record end { acked = acked })
    → ((before : List ℕ) → IsAcked end.acked before → IsAcked acked (before ++ packet)) → Replied old a (Send packet) (packet_word said) new
sent old mid new a packet said end acked asks spends ack of free state used there ends adds = record {
  due = send_due old mid a said packet asks;
  heard = λ script calls stands. go script calls stands (asks script calls stands);
  left = omega (arith, same_left, spends.left);
  spent = λ off is. omega (arith, same_left, spends.spent off is);
  rises = omega (arith, used, spends.rises);
  count = ⊎_elim (λ q. inl (used ∙ q)) (λ q. inr (used ∙ q)) spends.count;
  counted = λ off is. used ∙ spends.counted off is;
}
  where
    same_left : items_left new ≡ items_left mid
    same_left = left_acked mid new a end acked there ends

    go : (script : DeviceScript) (calls : List Call) → Stands old script calls → IsAsked mid script calls (call_of a (Send packet)) said → Stands new script (calls ++ call_of a (Send packet) ∷ [])
    go script calls stands asked =
        let c = call_of a (Send packet) in
        let more : acked_at script (calls ++ c ∷ []) a ≡ acked_at script calls a ++ packet =
        acked-snoc_here script a calls c refl ∙ ap (λ r. acked_at script calls a ++ acked_by (Send packet) r) (sym (send_due old mid a said packet asks script calls stands) ∙ ack) in
        record {
          of = of ∙ asked.of;
          state = state ∙ (asked.state ∙ (ap (λ (r : Ruled). r.state) (sym (send_word said script (state_after script calls) packet)) ∙ asked.next));
          placed = record {
            free = free ∙ asked.placed.free;
            places = each_set (EndPlaced script calls (calls ++ c ∷ [])) (EndPlaced script calls (calls ++ c ∷ [])) mid.ends.items new.ends.items a (record end { acked = acked }) ends asked.placed.places (asked.placed.places a end there) (λ b e off is. is);
          };
          acked = each_set (EndAcked script calls) (EndAcked script (calls ++ c ∷ [])) mid.ends.items new.ends.items a (record end { acked = acked }) ends asked.acked
              (subst (IsAcked acked) (sym more) (adds (acked_at script calls a) (asked.acked a end there)))
              (λ b e off is. subst (IsAcked e.acked) (sym (acked-snoc_elsewhere script b calls c (λ q. off (sym q)))) is);
        }

-- a control transfer acknowledges no packet
pub answered : (old mid new : Scripted) (setup : Setup) (out : List ℕ) (said : Said) → Asks old mid 0 (Ask setup out) said → Spends old mid 0 (packet_word said) → new.script.now ≡ mid.script.now → new.free ≡ mid.free → new.ends.items ≡ mid.ends.items → new.used ≡ mid.used
    → new.state ≡ (word_of said mid.script.now mid.state (Ask setup out)).state → Replied old 0 (Ask setup out) (word_of said mid.script.now mid.state (Ask setup out)).reply new
answered old mid new setup out said asks spends of free ends used state = record {
  due = λ script calls stands. let asked = asks script calls stands in ap (λ (r : Ruled). r.reply) (same script calls asked) ∙ asked.reply;
  heard = λ script calls stands. let asked = asks script calls stands in stands_now mid new script calls (call_of 0 (Ask setup out)) said asked of free ends (state ∙ ap (λ (r : Ruled). r.state) (same script calls asked)) refl;
  left = omega (arith, left_same mid new ends, spends.left);
  spent = λ off. absurd (off refl);
  rises = omega (arith, used, spends.rises);
  count = ⊎_elim (λ q. inl (used ∙ q)) (λ q. inr (used ∙ q)) spends.count;
  counted = λ off. absurd (off refl);
}
  where
    same : (script : DeviceScript) (calls : List Call) → IsAsked mid script calls (call_of 0 (Ask setup out)) said → word_of said mid.script.now mid.state (Ask setup out) ≡ word_of said script (state_after script calls) (Ask setup out)
    same script calls asked i = word_of said (asked.of i) (asked.state i) (Ask setup out)

-- The answers of a device: each may be said, and they are 64.
use Rattle.std.proofs.Common.{◌≡◌, ℕ, zero, suc, ◌+◌, ◌/◌, ◌<◌, ◌≤◌, Bool, true, false, cond, ◌==◌, nat_le, List, ◌∷◌, map, length, replicate, refl, arith, lit<, lit≤}
use Rattle.std.specs.List.{All, range_with_len}
use Rattle.std.proofs.lemmas.Bool.{le-leb, and_from}
use Rattle.std.proofs.lemmas.List.{length-replicate}
use Rattle.std.proofs.lemmas.List.Elements.{All-nil, All-cons, All-replicate}
use Rattle.std.proofs.lemmas.List.Sums.{sum_by-cons}
use Rattle.std.proofs.lemmas.Nat.{mod_below}
use Rattle.usb_text.specs.Written.{AreBytes}
use Rattle.usb_xfer.specs.declared.script.What.TheVariants.{Nak, Stall, Packet}
use Rattle.usb_xfer.specs.declared.script.Item.{Item}
use Rattle.usb_statement.specs.declared.keyword.Keyword.TheVariants as word
use Rattle.usb_statement.specs.declared.statement.Statement.TheVariants as say
use Rattle.usb_statement.specs.Statements.{is_empty}
use Rattle.usb_statement.specs.Items.{is_reply_at, are_items_of}
use Rattle.usb_statement.specs.Sayable.{IsSayableItem}
use Rattle.usb_scene.specs.WellFormed.{replies_of, all_replies}
use Rattle.usb_scene.specs.Rules.{SoFar, may_stand, names_stand}
use Rattle.usb_scene.specs.PrintedScene.{IsAllowed}
use Rattle.usb_generate.specs.Draws.{behind, draw}
use Rattle.usb_generate.specs.Generator.{item_place, item_at, items}

pub draw_below : (x k n : ℕ) → 0 < n → draw x k n < n
draw_below x k n h = mod_below (behind (suc k) x / 65536) n h

-- an answer that a line for the address 81 can say
pub record IsAnswer (item : Item) : Type 0 where
  pub sayable : IsSayableItem item
  pub fits : is_reply_at 129 item.what ≡ true
  pub once : item.times ≡ 1

packet_sayable : (n byte : ℕ) → n < 65 → byte < 256 → AreBytes (replicate n byte) × (length (replicate n byte) ≤ 1024)
packet_sayable n byte few low = (All-replicate (λ b. b < 256) n byte low, omega (arith, length-replicate n byte))

answer_by : (s t : Bool) (n byte : ℕ) → n < 65 → byte < 256 → IsAnswer (record { times = 1; what = cond s Nak (cond t Stall (Packet (replicate n byte))) })
answer_by true t n byte few low = record { sayable = record { some = lit≤ tt; most = lit≤ tt; packet = tt }; fits = refl; once = refl }
answer_by false true n byte few low = record { sayable = record { some = lit≤ tt; most = lit≤ tt; packet = tt }; fits = refl; once = refl }
answer_by false false n byte few low =
    record { sayable = record { some = lit≤ tt; most = lit≤ tt; packet = packet_sayable n byte few low }; fits = refl; once = refl }

pub item_is_answer : (x j : ℕ) → j < 256 → IsAnswer (item_at x j)
item_is_answer x j low =
    let t = draw x (item_place x j) 8 in
    answer_by (t == 0) (t == 1) (draw x (item_place x j + 1) 65) j (draw_below x (item_place x j + 1) 65 (lit< tt)) low

-- answers that a line for the address 81 can say
record AreAnswers (said : List Item) (n : ℕ) : Type 0 where
  each : All IsSayableItem said
  fit : are_items_of 129 said ≡ true
  replies : replies_of said ≡ n

answers_from : (x j n : ℕ) → j + n ≤ 256 → AreAnswers (map (item_at x) (range_with_len j n)) n
answers_from x j zero few = record { each = All-nil IsSayableItem; fit = refl; replies = refl }
answers_from x j (suc n) few =
    let here = item_is_answer x j (omega arith) in
    let others = map (item_at x) (range_with_len (j + 1) n) in
    let there = answers_from x (j + 1) n (omega arith) in
    let more : replies_of (item_at x j ∷ others) ≡ (item_at x j).times + replies_of others = sum_by-cons (λ (item : Item). item.times) (item_at x j) others in
    record {
      each = All-cons IsSayableItem (item_at x j) others here.sayable there.each;
      fit = and_from (is_reply_at 129 (item_at x j).what) (are_items_of 129 others) here.fits there.fit;
      replies = omega (arith, more, here.once, there.replies);
    }

are_answers : (x n : ℕ) → n ≤ 256 → AreAnswers (items x n) n
unfolding items
are_answers x n few = answers_from x 0 n (omega arith)

not_empty : (x n : ℕ) → is_empty (items x (suc n)) ≡ false
unfolding items
not_empty x n = refl

-- 64 answers for a line
pub record AreGiven (said : List Item) : Type 0 where
  pub some : is_empty said ≡ false
  pub each : All IsSayableItem said
  pub fit : are_items_of 129 said ≡ true
  pub replies : replies_of said ≡ 64

pub items_given : (x : ℕ) → AreGiven (items x 64)
items_given x =
    let a = are_answers x 64 (lit≤ tt) in
    record { some = not_empty x 63; each = a.each; fit = a.fit; replies = a.replies }

-- such answers may come where there is a device with this address, which has room for them
pub answer_allowed : (s : SoFar) (said : List Item) → AreGiven said → may_stand s.scene word.Answer ≡ true → names_stand s.scene (say.Answer 129 said) ≡ true
    → all_replies s.scene + 64 ≤ 65536 → IsAllowed s (say.Answer 129 said)
answer_allowed s said given place named few =
    let within : nat_le (all_replies s.scene + replies_of said) 65536 ≡ true = le-leb (all_replies s.scene + replies_of said) 65536 (omega (arith, given.replies)) in
    record {
      sayable = record { valid = refl; some = given.some; each = given.each; fit = given.fit };
      place = place;
      no_cause = simp (named, within);
    }

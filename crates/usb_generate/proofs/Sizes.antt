-- The text is short.
use Rattle.std.proofs.Common.{◌≡◌, ℕ, zero, suc, ◌+◌, ◌*◌, ◌<◌, ◌≤◌, Bool, true, false, cond, ◌==◌, nat_lt, nat_le, List, [], ◌∷◌, ◌++◌, map, length, replicate, decimal, None, refl, arith, lit<, lit≤}
use Rattle.std.specs.List.{flat_map, range_with_len}
use Rattle.std.specs.Fmt.{digits}
use Rattle.std.proofs.lemmas.Bool.{agree_below_at, leb-true}
use Rattle.std.proofs.lemmas.List.{length-append, length-replicate}
use Rattle.usb_text.specs.Print.{hex_pair}
use Rattle.usb_text.specs.Written.{spaced}
use Rattle.usb_xfer.specs.declared.script.What.TheVariants.{Nak, Stall, Packet}
use Rattle.usb_xfer.specs.declared.script.Item.{Item}
use Rattle.usb_statement.specs.declared.urb_name.UrbName.TheVariants.{Scripted}
use Rattle.usb_statement.specs.declared.keyword.UrbCall.TheVariants.{Unlink, Kill}
use Rattle.usb_statement.specs.declared.keyword.BareCall.TheVariants.{Serve}
use Rattle.usb_statement.specs.declared.statement.Statement.{Statement}
use Rattle.usb_statement.specs.declared.statement.Statement.TheVariants as say
use Rattle.usb_statement.specs.Printed.{what_text, item_text, line_said}
use Rattle.usb_scene.specs.PrintedScene.{printed, printed_text}
use Rattle.usb_generate.specs.Draws.{draw}
use Rattle.usb_generate.specs.Generator.{urb_name, item_place, item_at, items, call_place}
use Rattle.usb_generate.proofs.Answered.{draw_below}
use Rattle.usb_generate.proofs.Said.{call_line_at, call_lines, all_lines}

-- how many bytes a line has, with its line feed
abbrev line_length : Statement → ℕ
line_length said = length (spaced (line_said said)) + 1

abbrev text_length : List Statement → ℕ
text_length [] = 0
text_length (said ∷ others) = line_length said + text_length others

body_length : (statements : List Statement) → length (flat_map (λ line. spaced line.0 ++ 10 ∷ []) (map printed statements)) ≡ text_length statements
body_length [] = refl
body_length (said ∷ others) =
    let words = spaced (line_said said) in
    let rest = flat_map (λ line. spaced line.0 ++ 10 ∷ []) (map printed others) in
    let a : length ((words ++ 10 ∷ []) ++ rest) ≡ length (words ++ 10 ∷ []) + length rest = length-append (words ++ 10 ∷ []) rest in
    let b : length (words ++ 10 ∷ []) ≡ length words + 1 = length-append words (10 ∷ []) in
    omega (arith, a, b, body_length others)

abbrev words_length : List (List ℕ) → ℕ
words_length [] = 0
words_length (word ∷ others) = length word + 1 + words_length others

spaced_short : (texts : List (List ℕ)) → length (spaced texts) ≤ words_length texts
spaced_short [] = lit≤ tt
spaced_short (word ∷ []) = omega arith
spaced_short (word ∷ next ∷ others) = omega (arith, length-append word (32 ∷ spaced (next ∷ others)), spaced_short (next ∷ others))

pairs_length : (bytes : List ℕ) → length (flat_map hex_pair bytes) ≡ 2 * length bytes
pairs_length [] = refl
pairs_length (b ∷ bytes) = omega (arith, pairs_length bytes)

what_short : (s t : Bool) (n byte : ℕ) → n < 65 → length (what_text (cond s Nak (cond t Stall (Packet (replicate n byte))))) ≤ 130
what_short true t n byte few = lit≤ tt
what_short false true n byte few = lit≤ tt
what_short false false n byte few = omega (arith, pairs_length (replicate n byte), length-replicate n byte)

item_short : (x j : ℕ) → length (item_text (item_at x j)) ≤ 132
unfolding digits
item_short x j =
    let t = draw x (item_place x j) 8 in
    let n = draw x (item_place x j + 1) 65 in
    omega (arith, what_short (t == 0) (t == 1) n j (draw_below x (item_place x j + 1) 65 (lit< tt)))

items_short : (x j n : ℕ) → words_length (map item_text (map (item_at x) (range_with_len j n))) ≤ n * 133
items_short x j zero = lit≤ tt
items_short x j (suc n) = omega (arith, item_short x j, items_short x (j + 1) n)

answers_short : (x n : ℕ) → line_length (say.Answer 129 (items x n)) ≤ 11 + n * 133
unfolding items
answers_short x n =
    omega (arith, spaced_short (line_said (say.Answer 129 (map (item_at x) (range_with_len 0 n)))), items_short x 0 n)

-- a number below 16 has one digit or two
two_digits : (u : ℕ) → u < 16 → length (decimal u) ≤ 2
unfolding digits
two_digits u low = leb-true (length (decimal u)) 2 (agree_below_at (λ n. nat_le (length (decimal n)) 2) (λ n. true) 16 u refl low)

call_short_by : (s t f : Bool) (u : ℕ) → u < 16
    → line_length (cond s (say.Submit (Scripted (urb_name u)) None None) (cond t (say.OnUrb Unlink (Scripted (urb_name u))) (cond f (say.OnUrb Kill (Scripted (urb_name u))) (say.Alone Serve)))) ≤ 11
call_short_by true t f u low = omega (arith, two_digits u low)
call_short_by false true f u low = omega (arith, two_digits u low)
call_short_by false false true u low = omega (arith, two_digits u low)
call_short_by false false false u low = lit≤ tt

calls_short : (x i m : ℕ) → text_length (call_lines x i m) ≤ m * 11
unfolding call_lines
calls_short x i zero = lit≤ tt
calls_short x i (suc m) =
    let c = draw x (call_place x i) 8 in
    let u = draw x (call_place x i + 1) 16 in
    let here : line_length (call_line_at x i) ≤ 11 = call_short_by (nat_lt c 4) (c == 4) (c == 5) u (draw_below x (call_place x i + 1) 16 (lit< tt)) in
    omega (arith, here, calls_short x (i + 1) m)

lines_short : (a b c d : List Item) (calls : List Statement) (n m : ℕ) → line_length (say.Answer 129 a) ≤ n → line_length (say.Answer 129 b) ≤ n
    → line_length (say.Answer 129 c) ≤ n → line_length (say.Answer 129 d) ≤ n → text_length calls ≤ m
    → text_length (all_lines a b c d calls) ≤ 4 * n + m + 1000
unfolding digits
lines_short a b c d calls n m ha hb hc hd rest = omega arith

pub text_short : (v w x y z : ℕ) → length (printed_text (all_lines (items v 64) (items w 64) (items x 64) (items y 64) (call_lines z 0 2000))) ≤ 1048576
text_short v w x y z =
    let lines = all_lines (items v 64) (items w 64) (items x 64) (items y 64) (call_lines z 0 2000) in
    let short : text_length lines ≤ 4 * 8523 + 22000 + 1000 =
    lines_short (items v 64) (items w 64) (items x 64) (items y 64) (call_lines z 0 2000) 8523 22000
    (answers_short v 64) (answers_short w 64) (answers_short x 64) (answers_short y 64) (calls_short z 0 2000) in
    omega (arith, body_length lines)

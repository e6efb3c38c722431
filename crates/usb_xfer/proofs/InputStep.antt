-- One more reply of an IN endpoint.
use Rattle.std.proofs.Common.{ℕ, ◌≡◌, ◌+◌, ◌-◌, ◌≤◌, Bool, true, false, not, ◌&&◌, ◌||◌, cond, nat_le, nat_lt, if◌then◌else◌, Some, None, List, [], ◌∷◌, ◌++◌, length, take, drop, refl, sym, ap, ◌∙◌, subst, arith, append_assoc, append-nil, length-append}
use Rattle.std.specs.Prelude.{◌==◌}
use Rattle.std.specs.List.{flat_map}
use Rattle.std.proofs.lemmas.Grind.{common_steps, flat_map-append}
use Rattle.std.proofs.lemmas.List.{drop-drop, length-take-le}
use Rattle.std.proofs.Math.Seq.{take-append_seam, drop-append-add}
use Rattle.usb_types.specs.declared.errno.Errno.TheVariants.{EOVERFLOW, EREMOTEIO}
use Rattle.usb_types.specs.declared.errno.Code.{Code}
use Rattle.usb_types.specs.declared.errno.Code.TheVariants.{Zero, Fault}
use Rattle.usb_machine.specs.declared.layout.Shape.{Shape}
use Rattle.usb_machine.specs.declared.transfer.Transfer.{Transfer}
use Rattle.usb_machine.specs.Shapes.{HasWindow}
use Rattle.usb_xfer.specs.declared.script.What.TheVariants.{Ack, Nak, Stall, Error, Packet}
use Rattle.usb_xfer.specs.declared.packet.Step.TheVariants.{More, Ended}
use Rattle.usb_xfer.specs.Direction.{In, direction_of}
use Rattle.usb_xfer.specs.Replies.{Reply}
use Rattle.usb_xfer.specs.Input.{bytes_of, lengths, is_good, input_stops, input_code, good_bytes, with_bytes, input_moved, input_moves, input_step}
use Rattle.usb_xfer.specs.Moved.{stops_by, ending, is_nak, state_by, IsOpen}
use Rattle.usb_xfer.proofs.Ends.{goes_on, rest_open}

module _ (max len : ℕ) where
  abbrev taken : List Reply → Reply → List ℕ
  taken before r = if is_good max len before r then bytes_of r else []

  -- the good packets of a list with one reply more
  good-snoc : (b xs : List Reply) (r : Reply) → good_bytes max len b (xs ++ r ∷ []) ≡ good_bytes max len b xs ++ taken (b ++ xs) r
  good-snoc b [] r = append-nil (taken b r) ∙ ap (λ l. taken l r) (sym (append-nil b))
  good-snoc b (s ∷ xs) r =
      ap (λ l. taken b s ++ l) (good-snoc (b ++ s ∷ []) xs r)
      ∙ (sym (append_assoc (taken b s) (good_bytes max len (b ++ s ∷ []) xs) (taken ((b ++ s ∷ []) ++ xs) r))
      ∙ ap (λ l. (taken b s ++ good_bytes max len (b ++ s ∷ []) xs) ++ taken l r) (append_assoc b (s ∷ []) xs))

  first_true : (g x y : Bool) → (not g || x || y) ≡ false → g ≡ true
  first_true true x y e = refl
  first_true false x y e = cc

  -- before the end every packet is good
  all_good : (b : List Reply) (r : Reply) → input_stops max len b r ≡ false → taken b r ≡ bytes_of r
  all_good b Ack e = cc
  all_good b Nak e = refl
  all_good b Stall e = cc
  all_good b Error e = cc
  all_good b (Packet p) e = ap (λ t. cond t p []) (first_true (is_good max len b (Packet p)) (nat_lt (length p) max) (lengths b + length p == len) e)

  in_room : (b : List Reply) (r : Reply) → input_stops max len b r ≡ false → lengths b ≤ len → lengths b + length (bytes_of r) ≤ len
  in_room b Ack e l = cc
  in_room b Nak e l = omega arith
  in_room b Stall e l = cc
  in_room b Error e l = cc
  in_room b (Packet p) e l = let g = first_true (is_good max len b (Packet p)) (nat_lt (length p) max) (lengths b + length p == len) e in grind (arith, common_steps)

module _ (shape : Shape) (t : Transfer) (d : direction_of shape t ≡ In) where
  stays : (b : List Reply) (s : Reply) (xs : List Reply) → ending shape t b (s ∷ xs) ≡ None → input_stops shape.max t.len b s ≡ false
  stays b s xs e = subst (λ w. stops_by w shape.max t b s ≡ false) d (goes_on shape t b s xs e)

  open_good : (b xs : List Reply) → ending shape t b xs ≡ None → good_bytes shape.max t.len b xs ≡ flat_map bytes_of xs
  open_good b [] e = refl
  open_good b (s ∷ xs) e = (λ i. all_good shape.max t.len b s (stays b s xs e) i ++ open_good (b ++ s ∷ []) xs (rest_open shape t b s xs e) i)

  open_room : (b xs : List Reply) → ending shape t b xs ≡ None → lengths b ≤ t.len → lengths (b ++ xs) ≤ t.len
  open_room b [] e l = subst (λ z. lengths z ≤ t.len) (sym (append-nil b)) l
  open_room b (s ∷ xs) e l =
      let more : lengths (b ++ s ∷ []) ≡ lengths b + length (bytes_of s) = ap length (flat_map-append bytes_of b (s ∷ [])) ∙ (length-append (flat_map bytes_of b) (bytes_of s ++ []) ∙ ap (λ z. lengths b + length z) (append-nil (bytes_of s))) in
      let fits = in_room shape.max t.len b s (stays b s xs e) l in
      subst (λ z. lengths z ≤ t.len) (append_assoc b (s ∷ []) xs) (open_room (b ++ s ∷ []) xs (rest_open shape t b s xs e) (omega arith))

-- more bytes at the end of those that stand in a buffer
put_more : (buf g p : List ℕ) (from : ℕ) → from + length g + length p ≤ length buf
    → take (from + length g) (take from buf ++ g ++ drop (from + length g) buf) ++ p ++ drop (from + length g + length p) (take from buf ++ g ++ drop (from + length g) buf)
    ≡ take from buf ++ (g ++ p) ++ drop (from + length (g ++ p)) buf
put_more buf g p from l =
    let x = take from buf ++ g in let y = drop (from + length g) buf in
    let lx : length (take from buf ++ g) ≡ from + length g = length-append (take from buf) g ∙ ap (λ n. n + length g) (length-take-le from buf (omega arith)) in
    let front : take (from + length g) (x ++ y) ≡ x = subst (λ (n : ℕ). take n (x ++ y) ≡ x) lx (take-append_seam x y) in
    let back : drop (from + length g + length p) (x ++ y) ≡ drop (from + length g + length p) buf
    = subst (λ (n : ℕ). drop (n + length p) (x ++ y) ≡ drop (length p) y) lx (drop-append-add x y (length p)) ∙ drop-drop (length p) (from + length g) buf in
    let len : from + length g + length p ≡ from + length (g ++ p) = let a = length-append g p in omega arith in
    (λ i. front i ++ p ++ back i) ∙ (λ i. append_assoc (take from buf) g p i ++ drop (len i) buf)

packet_moves : (max : ℕ) (start : Transfer) (g p : List ℕ) → start.from + start.len ≤ length start.buf → length g ≤ start.len
    → input_moves max (Packet p) (with_bytes start g) ≡ with_bytes start (g ++ (if nat_le (length p) max && nat_le (length p) (start.len - length g) then p else []))
packet_moves max start g p w l = go (nat_le (length p) max && nat_le (length p) (start.len - length g)) refl
  where
    go : (t : Bool) → (nat_le (length p) max && nat_le (length p) (start.len - length g)) ≡ t
        → cond t (record start { buf = take (start.from + length g) (take start.from start.buf ++ g ++ drop (start.from + length g) start.buf) ++ p ++ drop (start.from + length g + length p) (take start.from start.buf ++ g ++ drop (start.from + length g) start.buf); actual = length g + length p }) (with_bytes start g)
        ≡ with_bytes start (g ++ cond t p [])
    go true e = let fits : start.from + length g + length p ≤ length start.buf = grind (arith, common_steps) in
        (λ i. record start { buf = put_more start.buf g p start.from fits i; actual = sym (length-append g p) i })
    go false e = ap (with_bytes start) (sym (append-nil g))

by_tests : (g s e : Bool) (c : Code) → cond g (cond (s || e) (Ended c) More) (Ended (Fault EOVERFLOW)) ≡ state_by (cond (not g || s || e) (Some (cond g c (Fault EOVERFLOW))) None) false
by_tests true true e c = refl
by_tests true false true c = refl
by_tests true false false c = refl
by_tests false s e c = refl

module _ (shape : Shape) (start : Transfer) (replies : List Reply) (d : direction_of shape start ≡ In) (w : HasWindow start) (e : IsOpen shape start replies) where
  abbrev max : ℕ
  max = shape.max

  abbrev good : List ℕ
  good = good_bytes max start.len [] replies

  all : good ≡ flat_map bytes_of replies
  all = open_good shape start d [] replies e

  so_many : length good ≡ lengths replies
  so_many = ap length all

  room : length good ≤ start.len
  room = let r = open_room shape start d [] replies e (omega arith) in omega (arith, so_many)

  none : (r : Reply) → taken max start.len replies r ≡ [] → input_moved max start replies ≡ input_moved max start (replies ++ r ∷ [])
  none r f = ap (with_bytes start) (sym (good-snoc max start.len [] replies r ∙ (ap (λ l. good ++ l) f ∙ append-nil good)))

  pub input_transfer : (r : Reply) → input_moves max r (input_moved max start replies) ≡ input_moved max start (replies ++ r ∷ [])
  input_transfer Ack = none Ack refl
  input_transfer Nak = none Nak refl
  input_transfer Stall = none Stall refl
  input_transfer Error = none Error refl
  input_transfer (Packet p) = packet_moves max start good p w.window room
      ∙ ap (with_bytes start) (ap (λ n. good ++ (if nat_le (length p) max && nat_le (length p) (start.len - n) then p else [])) so_many ∙ sym (good-snoc max start.len [] replies (Packet p)))

  pub input_state : (r : Reply) → input_step max r (input_moved max start replies)
      ≡ state_by (if input_stops max start.len replies r then Some (input_code max start.len start.short_not_ok replies r) else None) (is_nak r)
  input_state Ack = refl
  input_state Nak = refl
  input_state Stall = refl
  input_state Error = refl
  input_state (Packet p) =
      ap (λ n. if nat_le (length p) max && nat_le (length p) (start.len - n) then (if nat_lt (length p) max || (n + length p == start.len) then Ended (if start.short_not_ok && nat_lt (n + length p) start.len then Fault EREMOTEIO else Zero) else More) else Ended (Fault EOVERFLOW)) so_many
      ∙ by_tests (is_good max start.len replies (Packet p)) (nat_lt (length p) max) (lengths replies + length p == start.len) (if start.short_not_ok && nat_lt (lengths replies + length p) start.len then Fault EREMOTEIO else Zero)

use Rattle.std.proofs.Common.{rules, ℕ, zero, suc, ◌≡◌, ◌+◌, ◌-◌, ◌^◌, min, List, [], ◌∷◌, ◌++◌, length, take, refl, sym, ap, ◌∙◌, arith, length-append}
use Rattle.std.proofs.lemmas.Grind.{common_steps}
use Rattle.std.proofs.lemmas.Slice.{take-put_mid}
use borrow.Rule.Slice.PartMut.{put_mid}
use Rattle.usb_device.specs.declared.acked.Acked.{Acked}
use Rattle.usb_device.specs.Acks.{IsAcked}
use Rattle.usb_device.proofs.acked.Acked.add.Goals as goal

take_short : (k : ℕ) (l : List ℕ) → take (min (length l) k) l ≡ take k l
take_short k l = grind (arith, common_steps)

take_none : (l : List ℕ) → take 0 l ≡ []
take_none [] = refl
take_none (x ∷ l) = refl

first_more : (n : ℕ) (bytes more : List ℕ) → take n bytes ++ take (n - length (take n bytes)) more ≡ take n (bytes ++ more)
first_more zero bytes more = let none : zero - length (take zero bytes) ≡ 0 = omega arith in (λ i. take_none bytes i ++ take (none i) more) ∙ (take_none more ∙ sym (take_none (bytes ++ more)))
first_more (suc n) [] more = let all : suc n - 0 ≡ suc n = omega arith in ap (λ k. take k more) all
first_more (suc n) (b ∷ bytes) more = let same : suc n - suc (length (take n bytes)) ≡ n - length (take n bytes) = omega arith in
    ap (λ k. b ∷ (take n bytes ++ take k more)) same ∙ ap (λ l. b ∷ l) (first_more n bytes more)

room_left : (n : ℕ) (bytes : List ℕ) → n - length (take n bytes) ≡ n - min (length bytes) n
room_left n bytes = grind (arith, common_steps)

adds : (old : Acked) (bytes first : List ℕ) (count held more : ℕ) → held ≡ min old.count 64 → more ≡ min (length bytes) (64 - held) → count ≡ min (old.count + length bytes) (2 ^ 64 - 1)
    → take (held + more) first ≡ take held old.first ++ take more bytes → (before : List ℕ) → IsAcked old before → IsAcked record { count = count; first = first } (before ++ bytes)
adds old bytes first count held more is_held is_more counted copied before is =
    let l = length-append before bytes in
    let was = is.count in
    let all : min count 64 ≡ held + more = omega arith in
    let room : 64 - held ≡ 64 - min (length before) 64 = omega arith in
    record {
      count = omega arith;
      first = ap (λ k. take k first) all ∙ (copied ∙ ((λ i. take (is_held i) old.first ++ take (is_more i) bytes) ∙ ((λ i. is.first i ++ take_short (64 - held) bytes i)
          ∙ (ap (λ k. take 64 before ++ take k bytes) (room ∙ sym (room_left 64 before)) ∙ first_more 64 before bytes))));
    }

pub returns : goal.returns
returns c = λ before is.
    let old = c.args.self.now in
    let held = c.held-held.result in
    let more = c.min-more.result in
    let is_held = c.held-held.ensures in
    let is_more = c.min-more.ensures in
    let part : c.copy_from_slice.new.self ≡ take more c.args.bytes.now = grind (arith, common_steps, c.copy_from_slice.ensures.after) in
    let long : length c.copy_from_slice.new.self ≡ more = grind (arith, common_steps) in
    let room : length old.first ≡ 64 = search rules in
    adds old c.args.bytes.now (put_mid held (held + more - held) old.first c.copy_from_slice.new.self) c.saturating_add-self.result held more is_held is_more c.saturating_add-self.ensures
    (take-put_mid held (held + more - held) old.first c.copy_from_slice.new.self (held + more) (omega arith) (omega arith) ∙ ap (λ l. take held old.first ++ l) part)
    before is

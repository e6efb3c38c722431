use Rattle.std.proofs.Common.{ℕ, zero, suc, ◌≡◌, ◌+◌, ◌-◌, ◌^◌, min, List, [], ◌∷◌, ◌++◌, length, take, refl, sym, ap, ◌∙◌, arith, length-append}
use Rattle.std.specs.Prelude.{OnOk, Ok, Err, Result}
use Rattle.std.proofs.lemmas.Grind.{common_steps}
use Rattle.usb_types.specs.declared.outside.Memory.{Memory}
use Rattle.usb_trace.specs.declared.received.Received.{Received}
use Rattle.usb_trace.specs.GivebackRow.{Adds}
use Rattle.usb_trace.proofs.received.Received.add.Goals as goal

take_short : (k : ℕ) (l : List ℕ) → take (min k (length l)) l ≡ take k l
take_short k l = grind (arith, common_steps)

take_none : (l : List ℕ) → take 0 l ≡ []
take_none [] = refl
take_none (x ∷ l) = refl

first_more : (n : ℕ) (bytes more : List ℕ) → take n bytes ++ take (n - length (take n bytes)) more ≡ take n (bytes ++ more)
first_more zero bytes more = let none : zero - length (take zero bytes) ≡ 0 = omega arith in (λ i. take_none bytes i ++ take (none i) more) ∙ (take_none more ∙ sym (take_none (bytes ++ more)))
first_more (suc n) [] more = let all : suc n - 0 ≡ suc n = omega arith in ap (λ k. take k more) all
first_more (suc n) (b ∷ bytes) more = let same : suc n - suc (length (take n bytes)) ≡ n - length (take n bytes) = omega arith in
    ap (λ k. b ∷ (take n bytes ++ take k more)) same ∙ ap (λ l. b ∷ l) (first_more n bytes more)

adds : (old : Received) (more first : List ℕ) (count n : ℕ) → count ≡ min (old.count + length more) (2 ^ 64 - 1) → n ≡ min (64 - length old.first) (length more) → first ≡ old.first ++ take n more
    → Adds old record { count = count; first = first } more
adds old more first count n counted room longer bytes is = record {
  count = let a = is.count in let l = length-append bytes more in omega arith;
  first = longer ∙ (ap (λ k. old.first ++ take k more) room ∙ (ap (λ l. old.first ++ l) (take_short (64 - length old.first) more)
      ∙ ((λ i. is.first i ++ take (64 - length (is.first i)) more) ∙ first_more 64 bytes more)));
}

on_ok : {X : Type 0} (r : Result X Memory) (P Q : Type 0) → (P → Q) → OnOk r P → OnOk r Q
on_ok (Ok x) P Q f p = f p
on_ok (Err e) P Q f p = p

pub returns : goal.returns
returns c =
    let room = c.min.ensures ∙ (λ i. min ((c.saturating_sub-room.ensures ∙ ap (λ (l : List ℕ). 64 - length l) c.bytes.ensures) i) (length c.args.bytes.now)) in
    on_ok c.append.result _ _ (λ longer. adds c.args.self.now c.args.bytes.now c.append.new.self c.saturating_add-self.result c.min.result c.saturating_add-self.ensures room longer) c.append.ensures.ok

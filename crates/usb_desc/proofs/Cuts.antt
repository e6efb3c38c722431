-- What is known of a descriptor that is whole.
use Rattle.std.proofs.Common.{◌≡◌, ℕ, ◌≤◌, Bool, true, false, cond, eqb, ltb, List, length, get_or, take, drop, Result, Ok, Err, refl, ap, arith}
use Rattle.std.proofs.lemmas.Bool.{ltb-false}
use Rattle.usb_desc.specs.declared.fault.DescFault.{DescFault}
use Rattle.usb_desc.specs.declared.fault.DescFault.TheVariants.{Short, BadLength}
use Rattle.usb_desc.specs.Cut.{standard_length, cut}

-- a step that was passed, where the test would have been a fault
pub passed : {A : Type 0} (b : Bool) (f : DescFault) (r : Result A DescFault) (y : A) → cond b (Err f) r ≡ Ok y → (b ≡ false) × (r ≡ Ok y)
passed true f r y e = absurd cc
passed false f r y e = (refl, e)

-- a step that was passed, where its failing would have been a fault
pub held : {A : Type 0} (b : Bool) (f : DescFault) (r : Result A DescFault) (y : A) → cond b r (Err f) ≡ Ok y → (b ≡ true) × (r ≡ Ok y)
held true f r y e = (refl, e)
held false f r y e = absurd cc

two_either : (b : Bool) (m n : ℕ) → 2 ≤ m → 2 ≤ n → 2 ≤ cond b m n
two_either true m n h k = h
two_either false m n h k = k

-- each type has a header
pub standard_two : (kind : ℕ) → 2 ≤ standard_length kind
standard_two kind =
    two_either (eqb kind 1) _ _ (omega arith) (two_either (eqb kind 2) _ _ (omega arith) (two_either (eqb kind 4) _ _ (omega arith) (two_either (eqb kind 5) _ _ (omega arith) (omega arith))))

-- a descriptor that was cut off, and what follows it
pub record IsCut (bytes d behind : List ℕ) : Type 0 where
  pub header : 2 ≤ get_or bytes 0 0
  pub within : get_or bytes 0 0 ≤ length bytes
  pub long : standard_length (get_or bytes 1 0) ≤ get_or bytes 0 0
  pub piece : take (get_or bytes 0 0) bytes ≡ d
  pub rest : drop (get_or bytes 0 0) bytes ≡ behind

pub is_cut : (short at : ℕ) (bytes d behind : List ℕ) → cut short at bytes ≡ Ok (d, behind) → IsCut bytes d behind
is_cut short at bytes d behind e =
    let n = get_or bytes 0 0 in
    let s = standard_length (get_or bytes 1 0) in
    let last : Result (List ℕ × List ℕ) DescFault = Ok (take n bytes, drop n bytes) in
    let third : Result (List ℕ × List ℕ) DescFault = cond (ltb n s) (Err (BadLength at)) last in
    let second : Result (List ℕ × List ℕ) DescFault = cond (ltb (length bytes) n) (Err (Short short)) third in
    let a = passed (ltb (length bytes) 2) (Short short) second (d, behind) e in
    let b = passed (ltb (length bytes) n) (Short short) third (d, behind) a.1 in
    let c = passed (ltb n s) (BadLength at) last (d, behind) b.1 in
    let within : n ≤ length bytes = ltb-false _ _ b.0 in
    let long : s ≤ n = ltb-false _ _ c.0 in
    let two = standard_two (get_or bytes 1 0) in
    let both : (take n bytes, drop n bytes) ≡ (d, behind) = cc in
    record {
      header = omega arith;
      within = within;
      long = long;
      piece = ap (λ (p : List ℕ × List ℕ). p.0) both;
      rest = ap (λ (p : List ℕ × List ℕ). p.1) both;
    }

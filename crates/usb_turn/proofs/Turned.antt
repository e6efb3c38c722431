-- What `enter` and `leave` say, put together.
use Rattle.std.proofs.Common.{◌≡◌, false, ℕ, List, ◌++◌, ap, ◌∙◌}
use Rattle.usb_turn.specs.Rows.{Begins, part}
use Rattle.usb_turn.specs.Pass.{Pass, entered, left, Turned}

pub turned : {R : Type 0} (by : R → ℕ) (p q r : Pass R) (more : List R) → q ≡ entered p q.seen → Begins q.seen p.seen → r ≡ left q more → part by r.number r.seen ≡ r.mine → Turned by p r more
turned {R} by p q r more in_is begins out_is own =
    let table : r.table ≡ p.table = ap (λ (z : Pass R). z.table) out_is ∙ ap (λ (z : Pass R). z.table) in_is in
    let number : r.number ≡ p.number = ap (λ (z : Pass R). z.number) out_is ∙ ap (λ (z : Pass R). z.number) in_is in
    let has : r.has ≡ false = ap (λ (z : Pass R). z.has) out_is in
    let mine : q.mine ≡ p.mine = ap (λ (z : Pass R). z.mine) in_is in
    record {
      same = λ i. record { table = table i; number = number i; seen = r.seen; mine = r.mine; has = has i };
      between = begins.more;
      seen = ap (λ (z : Pass R). z.seen) out_is ∙ (λ i. begins.is i ++ more);
      mine = ap (λ (z : Pass R). z.mine) out_is ∙ (λ i. mine i ++ more);
      own = own;
    }

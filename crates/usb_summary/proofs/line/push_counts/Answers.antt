use Rattle.std.proofs.Common.{◌≡◌, ℕ, ◌++◌, List, OnOk, codes, decimal, append_assoc, subst, ap, ◌∙◌}
use Rattle.usb_summary.specs.declared.counts.Counts.{Counts}
use Rattle.usb_summary.specs.Counts.{counts_line}
use Rattle.usb_summary.proofs.line.push_counts.Goals as goal

-- the words and numbers one after another are the line
joined : (old : List ℕ) (number : ℕ) (counts : Counts)
    → old ++ (codes "gen " ++ decimal number) ++ (codes " calls 2000 accepted " ++ decimal counts.accepted) ++ (codes " refused " ++ decimal counts.refused)
    ++ (codes " given " ++ decimal counts.given) ++ (codes " bytes " ++ decimal counts.bytes) ++ codes "\n" ≡ old ++ counts_line number counts
joined old number counts = simp append_assoc

pub returns : goal.returns
returns c =
    let counts = c.args.counts in
    let more = λ (l : List ℕ) (t : List ℕ). l ++ t in
    let a = c.in_ok-push_count.ensures in
    let b = c.in_ok-push_count-2.ensures ∙ ap (λ l. more l (codes " calls 2000 accepted " ++ decimal counts.accepted)) a in
    let d = c.in_ok-push_count-3.ensures ∙ ap (λ l. more l (codes " refused " ++ decimal counts.refused)) b in
    let e = c.in_ok-push_count-4.ensures ∙ ap (λ l. more l (codes " given " ++ decimal counts.given)) d in
    let f = c.in_ok-push_count-5.ensures ∙ ap (λ l. more l (codes " bytes " ++ decimal counts.bytes)) e in
    subst (λ text. OnOk c.append.result (c.append.new.self ≡ text)) (ap (λ l. more l (codes "\n")) f ∙ joined c.args.report.now c.args.number counts) c.append.ensures.ok

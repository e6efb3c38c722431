use Rattle.std.proofs.Common.{ℕ, ◌≡◌, ◌∷◌, [], List, ◌++◌, OnOk, codes, decimal, append_assoc, subst, ap, ◌∙◌}
use Rattle.usb_text.specs.Print.{line}
use Rattle.usb_report.specs.Listing.{class_name, class_text, taken_text}
use Rattle.usb_report.proofs.listing.push_face.Goals as goal

one_line : (old number class triple taken : List ℕ)
    → old ++ codes "interface " ++ number ++ codes " " ++ class ++ codes " " ++ triple ++ codes " " ++ taken ++ codes "\n"
    ≡ old ++ line (codes "interface" ∷ number ∷ class ∷ triple ∷ taken ∷ [])
one_line old number class triple taken = simp append_assoc

pub returns : goal.returns
returns c =
    let face = c.args.face.now in let old = c.args.report.now in
    let number = decimal face.number in let class = class_name face.class in let triple = class_text face in let taken = taken_text face.taken in
    subst (λ text. OnOk c.push_face_taken.result (c.push_face_taken.new.report ≡ text))
    (ap (λ text. text ++ triple ++ codes " " ++ taken ++ codes "\n") (c.in_ok-push_face_name.ensures ∙ ap (λ text. text ++ number ++ codes " " ++ class ++ codes " ") c.in_ok-append.ensures.ok)
    ∙ one_line old number class triple taken)
    c.push_face_taken.ensures

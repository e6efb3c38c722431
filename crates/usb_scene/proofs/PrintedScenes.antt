-- A scene that is printed is read again.
use Rattle.std.proofs.Common.{◌≡◌, ℕ, ◌+◌, cond, List, [], ◌∷◌, map, Ok, Err, ap, ◌∙◌}
use Rattle.usb_scene.specs.declared.scene.Scene.{Scene}
use Rattle.usb_statement.specs.declared.statement.Statement.{Statement}
use Rattle.usb_scene.specs.declared.cause.Cause.TheVariants as cause
use Rattle.usb_statement.specs.Statements.{keyword_said, statement_of}
use Rattle.usb_statement.specs.Printed.{words_said}
use Rattle.usb_scene.specs.Rules.{SoFar}
use Rattle.usb_scene.specs.Growth.{grown_by, nothing_said}
use Rattle.usb_scene.specs.Read.{allowed, formed, in_place, scene_of}
use Rattle.usb_scene.specs.SceneLaws.{IsSaid, SaidInTurn}
use Rattle.usb_scene.specs.PrintedScene.{IsAllowed, AllowedInTurn, printed, printed_text}
use Rattle.usb_statement.proofs.BackLines.{back_keyword, back_words}
use Rattle.usb_statement.proofs.Ink.{line_is_words, line_is_plain}
use Rattle.usb_scene.proofs.Whole.{scene_of-text_of}

printed_is_said : (so_far : SoFar) (statement : Statement) → IsAllowed so_far statement → IsSaid so_far (printed statement)
printed_is_said so_far statement h =
    let first = ap (λ o. in_place so_far o (words_said statement)) (back_keyword (keyword_said statement)) in
    let place = ap (λ t. cond t (formed so_far (statement_of (keyword_said statement) (words_said statement))) (Err cause.Word)) h.place in
    let row = ap (formed so_far) (back_words statement h.sayable) in
    let good = ap (allowed statement) h.no_cause in
    record { texts = line_is_words statement h.sayable; plain = line_is_plain statement h.sayable; says = first ∙ place ∙ row ∙ good }

printed_in_turn : (so_far : SoFar) (n : ℕ) (statements : List Statement) (last : Scene) → AllowedInTurn so_far n statements last
    → SaidInTurn so_far n (map printed statements) last
printed_in_turn so_far n [] last h = h
printed_in_turn so_far n (statement ∷ statements) last h =
    (printed_is_said so_far statement h.0, printed_in_turn (grown_by so_far (n + 1) statement) (n + 1) statements last h.1)

pub scene_of-printed_text : (statements : List Statement) (scene : Scene) → AllowedInTurn nothing_said 1 statements scene → scene_of (printed_text statements) ≡ Ok scene
scene_of-printed_text statements scene h = scene_of-text_of (map printed statements) scene (printed_in_turn nothing_said 1 statements scene h)

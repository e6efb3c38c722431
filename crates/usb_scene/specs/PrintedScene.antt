-- The text of a scene that is printed from its statements.
use Rattle.std.specs.Prelude.{◌≡◌, ℕ, ◌+◌, true, List, [], ◌∷◌, map, None}
use Rattle.usb_scene.specs.declared.scene.Scene.{Scene}
use Rattle.usb_statement.specs.declared.statement.Statement.{Statement}
use Rattle.usb_statement.specs.Statements.{keyword_said}
use Rattle.usb_statement.specs.Sayable.{IsSayable}
use Rattle.usb_statement.specs.Printed.{line_said}
use Rattle.usb_scene.specs.Rules.{SoFar, may_stand, statement_cause}
use Rattle.usb_scene.specs.Growth.{grown_by}
use Rattle.usb_scene.specs.SceneLaws.{Said, text_of}

-- a statement that may come after what was read so far
pub record IsAllowed (so_far : SoFar) (statement : Statement) : Type 0 where
  pub sayable : IsSayable statement
  pub place : may_stand so_far.scene (keyword_said statement) ≡ true
  pub no_cause : statement_cause so_far statement ≡ None

-- statements after line n may come one after another, and the scene is this one after the last of them
abbrev pub AllowedInTurn : SoFar → ℕ → List Statement → Scene → Type 0
AllowedInTurn so_far n [] last = so_far.scene ≡ last
AllowedInTurn so_far n (statement ∷ statements) last =
    IsAllowed so_far statement × AllowedInTurn (grown_by so_far (n + 1) statement) (n + 1) statements last

abbrev pub printed : Statement → Said
printed statement = (line_said statement, statement)

-- the header, and a line for each statement
abbrev pub printed_text : List Statement → List ℕ
printed_text statements = text_of (map printed statements)

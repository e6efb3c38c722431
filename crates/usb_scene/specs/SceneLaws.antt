-- What reading means, apart from how it goes on from line to line, and the text of a scene's lines.
use Rattle.std.specs.Prelude.{◌≡◌, ℕ, ◌+◌, true, List, [], ◌∷◌, ◌++◌, length, max, codes, Some, None, Result, Ok, Err}
use Rattle.std.specs.List.{list_all, flat_map}
use Rattle.usb_text.specs.Lines.{raw_lines, without_return, is_plain}
use Rattle.usb_text.specs.Written.{AreWords, spaced}
use Rattle.usb_scene.specs.declared.scene.Scene.{Scene}
use Rattle.usb_statement.specs.declared.statement.Statement.{Statement}
use Rattle.usb_scene.specs.declared.cause.Cause.{Cause}
use Rattle.usb_scene.specs.declared.cause.Cause.TheVariants as cause
use Rattle.usb_statement.specs.Statements.{keyword_of}
use Rattle.usb_scene.specs.Rules.{SoFar}
use Rattle.usb_scene.specs.Growth.{grown_by}
use Rattle.usb_scene.specs.Read.{Reading, plain_read, line_words, in_place}

-- each of these lines, the first of them with the number after n, is good after those before it
abbrev pub AreGood : Reading → ℕ → List (List ℕ) → Reading → Type 0
AreGood reading n [] last = reading ≡ last
AreGood reading n (text ∷ texts) last =
    (next : Reading) × (plain_read reading (n + 1) (line_words (without_return text)) ≡ Ok next) × AreGood next (n + 1) texts last

-- all lines before line n are good, and there is this cause against line n
pub record IsFirstBad (bytes : List ℕ) (n : ℕ) (c : Cause) : Type 0 where
  pub before : List (List ℕ)
  pub text : List ℕ
  pub behind : List (List ℕ)
  pub reading : Reading
  pub split : raw_lines bytes ≡ before ++ text ∷ behind
  pub number : n ≡ length before + 1
  pub good : AreGood None 0 before reading
  pub bad : plain_read reading n (line_words (without_return text)) ≡ Err c

-- all lines are good, and none of them has words
pub record LacksHeader (bytes : List ℕ) (n : ℕ) : Type 0 where
  pub good : AreGood None 0 (raw_lines bytes) None
  pub number : n ≡ max (length (raw_lines bytes)) 1

-- all lines are good, the header is among them, and together they give this scene
pub record HasGoodLines (bytes : List ℕ) (scene : Scene) : Type 0 where
  pub so_far : SoFar
  pub good : AreGood None 0 (raw_lines bytes) (Some so_far)
  pub said : so_far.scene ≡ scene

-- a line of words, and its statement
abbrev pub Said : Type 0
Said = List (List ℕ) × Statement

-- the statement of these words after what was read so far, where there is no cause against it
abbrev pub said_by : SoFar → List (List ℕ) → Result Statement Cause
said_by so_far [] = Err cause.Form
said_by so_far (first ∷ rest) = in_place so_far (keyword_of first) rest

pub record IsSaid (so_far : SoFar) (line : Said) : Type 0 where
  pub texts : AreWords line.0
  pub plain : list_all is_plain (spaced line.0) ≡ true
  pub says : said_by so_far line.0 ≡ Ok line.1

-- lines after line n have these statements, one after another, and the scene is this one after the last of them
abbrev pub SaidInTurn : SoFar → ℕ → List Said → Scene → Type 0
SaidInTurn so_far n [] last = so_far.scene ≡ last
SaidInTurn so_far n (line ∷ lines) last = IsSaid so_far line × SaidInTurn (grown_by so_far (n + 1) line.1) (n + 1) lines last

-- the text of some lines, after the header
abbrev pub text_of : List Said → List ℕ
text_of lines = codes "scene 1\n" ++ flat_map (λ line. spaced line.0 ++ 10 ∷ []) lines

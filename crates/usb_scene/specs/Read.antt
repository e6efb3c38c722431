-- The scene that a text is, or its first bad line with the first cause against it.
use Rattle.std.specs.Prelude.{◌≡◌, ℕ, ◌+◌, max, Bool, false, ◌&&◌, if◌then◌else◌, List, [], ◌∷◌, Option, Some, None, codes, Result, Ok, Err}
use Rattle.std.specs.List.{list_all}
use Rattle.std.specs.Str.{bytes_eq}
use Rattle.usb_text.specs.Lines.{raw_lines, without_return, is_plain}
use Rattle.usb_text.specs.Words.{words}
use Rattle.usb_statement.specs.Statements.{keyword_of, statement_of}
use Rattle.usb_scene.specs.Rules.{SoFar, may_stand, statement_cause}
use Rattle.usb_scene.specs.Growth.{grown_by, nothing_said}
use Rattle.usb_scene.specs.declared.scene.Scene.{Scene}
use Rattle.usb_statement.specs.declared.statement.Statement.{Statement}
use Rattle.usb_statement.specs.declared.keyword.Keyword.{Keyword}
use Rattle.usb_scene.specs.declared.cause.Cause.{Cause}
use Rattle.usb_scene.specs.declared.cause.Cause.TheVariants as cause
use Rattle.usb_scene.specs.declared.read.LineFault.{LineFault}
use Rattle.usb_scene.specs.declared.read.LineFault.TheVariants as line
use Rattle.usb_scene.specs.declared.read.SceneFault.{SceneFault}
use Rattle.usb_scene.specs.declared.read.SceneFault.TheVariants as fault

-- a statement against which there is no cause
abbrev pub allowed : Statement → Option Cause → Result Statement Cause
allowed statement None = Ok statement
allowed statement (Some c) = Err c

-- a statement that fits its row
abbrev pub formed : SoFar → Option Statement → Result Statement Cause
formed so_far None = Err cause.Form
formed so_far (Some statement) = allowed statement (statement_cause so_far statement)

-- the statement on a line, whose first word is known and belongs in this place
abbrev pub in_place : SoFar → Option Keyword → List (List ℕ) → Result Statement Cause
in_place so_far None rest = Err cause.Word
in_place so_far (Some keyword) rest =
    if may_stand so_far.scene keyword then formed so_far (statement_of keyword rest) else Err cause.Word

-- what is read so far, once the header was read
abbrev pub Reading : Type 0
Reading = Option SoFar

abbrev pub is_header : List (List ℕ) → Bool
is_header (scene ∷ version ∷ []) = bytes_eq scene (codes "scene") && bytes_eq version (codes "1")
is_header _ = false

abbrev pub grown : SoFar → ℕ → Result Statement Cause → Result Reading Cause
grown so_far line (Ok statement) = Ok (Some (grown_by so_far line statement))
grown so_far line (Err c) = Err c

-- what is read so far, after a line of these words
abbrev pub words_read : Reading → ℕ → List (List ℕ) → Result Reading Cause
words_read reading line [] = Ok reading
words_read None line (first ∷ rest) = if is_header (first ∷ rest) then Ok (Some nothing_said) else Err cause.Header
words_read (Some so_far) line (first ∷ rest) = grown so_far line (in_place so_far (keyword_of first) rest)

-- the words of a line, where each of its bytes may stand in one
abbrev pub line_words : List ℕ → Option (List (List ℕ))
line_words line = if list_all is_plain line then Some (words line) else None

abbrev pub plain_read : Reading → ℕ → Option (List (List ℕ)) → Result Reading Cause
plain_read reading line None = Err cause.Byte
plain_read reading line (Some texts) = words_read reading line texts

-- at the end of the text the header must have been read
abbrev pub ended : Reading → ℕ → Result Scene (ℕ × Cause)
ended (Some so_far) line = Ok so_far.scene
ended None line = Err (max line 1, cause.Header)

-- a bad line ends the reading, and after a good one it goes on
abbrev pub then_on : (Reading → Result Scene (ℕ × Cause)) → ℕ → Result Reading Cause → Result Scene (ℕ × Cause)
then_on others line (Ok next) = others next
then_on others line (Err c) = Err (line, c)

-- what is read after line n: the first bad line and its cause, or the scene with all that the lines add
abbrev pub lines_read : Reading → ℕ → List (List ℕ) → Result Scene (ℕ × Cause)
lines_read reading n [] = ended reading n
lines_read reading n (text ∷ texts) =
    then_on (λ next. lines_read next (n + 1) texts) (n + 1) (plain_read reading (n + 1) (line_words (without_return text)))

-- the scene that the bytes are, or else the first bad line and its first cause
abbrev pub scene_of : List ℕ → Result Scene (ℕ × Cause)
scene_of bytes = lines_read None 0 (raw_lines bytes)

-- what was answered is what reading gives, unless memory ran out
abbrev pub LineGives : {X : Type 0} → Result X LineFault → Result X Cause → Type 0
LineGives (Ok x) read = read ≡ Ok x
LineGives (Err (line.Bad c)) read = read ≡ Err c
LineGives (Err line.Memory) read = Unit {0}

abbrev pub SceneGives : {X : Type 0} → Result X SceneFault → Result X (ℕ × Cause) → Type 0
SceneGives (Ok x) read = read ≡ Ok x
SceneGives (Err (fault.Bad n c)) read = read ≡ Err (n, c)
SceneGives (Err fault.Memory) read = Unit {0}

-- A text of lines that are good in turn is read as the scene of these lines.
use Rattle.std.proofs.Common.{◌≡◌, ℕ, ◌+◌, ◌-◌, ◌<◌, true, false, cond, eqb, List, [], ◌∷◌, ◌++◌, length, take, get_or, Some, None, Ok, zero, suc, refl, sym, ap, ◌∙◌, arith, append_assoc}
use Rattle.std.specs.List.{list_all, flat_map}
use Rattle.std.specs.Prelude.{codes}
use Rattle.std.proofs.lemmas.Bool.{and_parts, true≢false, ne_eqb}
use Rattle.usb_text.specs.Lines.{raw_lines, onto_first, without_return, is_plain}
use Rattle.usb_text.specs.Words.{is_blank, words}
use Rattle.usb_scene.specs.Rules.{SoFar}
use Rattle.usb_scene.specs.Growth.{grown_by, nothing_said}
use Rattle.usb_scene.specs.Read.{lines_read, plain_read, words_read, line_words, then_on, grown, scene_of}
use Rattle.usb_text.specs.Written.{spaced, AreWords}
use Rattle.usb_scene.specs.SceneLaws.{Said, said_by, SaidInTurn, text_of}
use Rattle.usb_scene.specs.declared.scene.Scene.{Scene}
use Rattle.usb_statement.specs.declared.statement.Statement.{Statement}
use Rattle.usb_text.proofs.Back.{words-spaced}

plain-feed : is_plain 10 ≡ false
unfolding is_plain
plain-feed = refl

plain-return : is_plain 13 ≡ false
unfolding is_plain
plain-return = refl

-- a plain byte ends no line
no_feed : (b : ℕ) → is_plain b ≡ true → eqb b 10 ≡ false
no_feed b h = ne_eqb b 10 (λ e. true≢false (sym h ∙ ap is_plain e ∙ plain-feed))

-- a line, its line feed, and what follows
raw_lines-line : (line rest : List ℕ) → list_all is_plain line ≡ true → raw_lines (line ++ 10 ∷ rest) ≡ line ∷ raw_lines rest
raw_lines-line [] rest h = refl
raw_lines-line (b ∷ line) rest h =
    let parts = and_parts (is_plain b) (list_all is_plain line) h in
    simp (no_feed b parts.0) (ap (onto_first b) (raw_lines-line line rest parts.1))

-- each byte of a plain line is plain
plain-at : (line : List ℕ) (i : ℕ) → list_all is_plain line ≡ true → i < length line → is_plain (get_or line i 0) ≡ true
plain-at [] i h l = absurd (omega arith)
plain-at (b ∷ line) zero h l = (and_parts (is_plain b) (list_all is_plain line) h).0
plain-at (b ∷ line) (suc i) h l = plain-at line i (and_parts (is_plain b) (list_all is_plain line) h).1 (omega arith)

-- the last byte of a plain line is no carriage return
no_return : (line : List ℕ) → list_all is_plain line ≡ true → eqb (get_or line (length line - 1) 0) 13 ≡ false
no_return [] h = refl
no_return (b ∷ line) h =
    let plain = plain-at (b ∷ line) (length (b ∷ line) - 1) h (omega arith) in
    ne_eqb (get_or (b ∷ line) (length (b ∷ line) - 1) 0) 13 (λ e. true≢false (sym plain ∙ ap is_plain e ∙ plain-return))

without_return-plain : (line : List ℕ) → list_all is_plain line ≡ true → without_return line ≡ line
without_return-plain line h = ap (λ t. cond t (take (length line - 1) line) line) (no_return line h)

-- the words of a line of words
line_words-spaced : (texts : List (List ℕ)) → AreWords texts → list_all is_plain (spaced texts) ≡ true → line_words (without_return (spaced texts)) ≡ Some texts
line_words-spaced texts h p =
    ap line_words (without_return-plain (spaced texts) p) ∙ ap (λ t. cond t (Some (words (spaced texts))) None) p ∙ ap Some (words-spaced texts h)

-- what is read so far, after a line
words_read-said : (so_far : SoFar) (n : ℕ) (texts : List (List ℕ)) (statement : Statement) → said_by so_far texts ≡ Ok statement
    → words_read (Some so_far) n texts ≡ Ok (Some (grown_by so_far n statement))
words_read-said so_far n [] statement h = cc
words_read-said so_far n (first ∷ rest) statement h = ap (grown so_far n) h

abbrev body : List Said → List ℕ
body lines = flat_map (λ line. spaced line.0 ++ 10 ∷ []) lines

lines_read-body : (so_far : SoFar) (n : ℕ) (lines : List Said) (last : Scene) → SaidInTurn so_far n lines last → lines_read (Some so_far) n (raw_lines (body lines)) ≡ Ok last
lines_read-body so_far n [] last h = ap (λ s. Ok s) h
lines_read-body so_far n (line ∷ lines) last h =
    let said = h.0 in
    let split : raw_lines (body (line ∷ lines)) ≡ spaced line.0 ∷ raw_lines (body lines) =
    ap raw_lines (append_assoc (spaced line.0) (10 ∷ []) (body lines)) ∙ raw_lines-line (spaced line.0) (body lines) said.plain in
    let read : plain_read (Some so_far) (n + 1) (line_words (without_return (spaced line.0))) ≡ Ok (Some (grown_by so_far (n + 1) line.1)) =
    ap (plain_read (Some so_far) (n + 1)) (line_words-spaced line.0 said.texts said.plain) ∙ words_read-said so_far (n + 1) line.0 line.1 said.says in
    ap (lines_read (Some so_far) n) split
    ∙ ap (then_on (λ next. lines_read next (n + 1) (raw_lines (body lines))) (n + 1)) read
    ∙ lines_read-body (grown_by so_far (n + 1) line.1) (n + 1) lines last h.1

header-plain : list_all is_plain (codes "scene 1") ≡ true
unfolding is_plain
header-plain = refl

header-words : line_words (without_return (codes "scene 1")) ≡ Some (codes "scene" ∷ codes "1" ∷ [])
unfolding is_plain is_blank
header-words = refl

pub scene_of-text_of : (lines : List Said) (scene : Scene) → SaidInTurn nothing_said 1 lines scene → scene_of (text_of lines) ≡ Ok scene
scene_of-text_of lines scene h =
    let read : plain_read None 1 (line_words (without_return (codes "scene 1"))) ≡ Ok (Some nothing_said) = ap (plain_read None 1) header-words in
    ap (lines_read None 0) (raw_lines-line (codes "scene 1") (body lines) header-plain)
    ∙ ap (then_on (λ next. lines_read next 1 (raw_lines (body lines))) 1) read
    ∙ lines_read-body nothing_said 1 lines scene h

-- A text without a bad line is read, and what is read has none.
use Rattle.std.proofs.Common.{◌≡◌, ℕ, ◌+◌, ◌⊎◌, List, [], ◌∷◌, ◌++◌, length, Some, None, Result, Ok, Err, refl, sym, ap, ◌∙◌, arith, append-nil, inl, inr}
use Rattle.usb_text.specs.Lines.{raw_lines, without_return}
use Rattle.usb_scene.specs.Rules.{SoFar}
use Rattle.usb_scene.specs.Read.{Reading, lines_read, plain_read, line_words, then_on, ended, scene_of}
use Rattle.usb_scene.specs.SceneLaws.{AreGood, IsFirstBad, LacksHeader, HasGoodLines}
use Rattle.usb_scene.specs.declared.scene.Scene.{Scene}
use Rattle.usb_scene.specs.declared.cause.Cause.{Cause}
use Rattle.usb_scene.specs.declared.cause.Cause.TheVariants as cause

-- after good lines the reading goes on
on_good : (start : Reading) (n m : ℕ) (before rest : List (List ℕ)) (reading : Reading) → AreGood start n before reading → m ≡ n + length before
    → lines_read start n (before ++ rest) ≡ lines_read reading m rest
on_good start n m [] rest reading h e =
    let same : n ≡ m = omega (arith, e) in
    ap (λ r. lines_read r n rest) h ∙ ap (λ k. lines_read reading k rest) same
on_good start n m (text ∷ before) rest reading h e =
    ap (then_on (λ r. lines_read r (n + 1) (before ++ rest)) (n + 1)) h.1 ∙ on_good h.0 (n + 1) m before rest reading h.2 (omega (arith, e))

-- after the last of them it ends
to_end : (start : Reading) (texts : List (List ℕ)) (reading : Reading) → AreGood start 0 texts reading → lines_read start 0 texts ≡ ended reading (length texts)
to_end start texts reading h = ap (lines_read start 0) (sym (append-nil texts)) ∙ on_good start 0 (length texts) texts [] reading h (omega arith)

bad_reported : (bytes : List ℕ) (n : ℕ) (c : Cause) → IsFirstBad bytes n c → scene_of bytes ≡ Err (n, c)
bad_reported bytes n c f =
    let k = length f.before in
    let bad : plain_read f.reading (k + 1) (line_words (without_return f.text)) ≡ Err c = ap (λ m. plain_read f.reading m (line_words (without_return f.text))) (sym f.number) ∙ f.bad in
    ap (lines_read None 0) f.split
    ∙ on_good None 0 k f.before (f.text ∷ f.behind) f.reading f.good (omega arith)
    ∙ ap (then_on (λ r. lines_read r (k + 1) f.behind) (k + 1)) bad
    ∙ ap (λ m. Err (m, c)) (sym f.number)

header_reported : (bytes : List ℕ) (n : ℕ) (c : Cause) → LacksHeader bytes n → c ≡ cause.Header → scene_of bytes ≡ Err (n, c)
header_reported bytes n c lacks why =
    to_end None (raw_lines bytes) None lacks.good ∙ ap (λ m. Err (m, cause.Header)) (sym lacks.number) ∙ ap (λ d. Err (n, d)) (sym why)

pub first_bad_reported : (bytes : List ℕ) (n : ℕ) (c : Cause) → IsFirstBad bytes n c ⊎ (LacksHeader bytes n × (c ≡ cause.Header)) → scene_of bytes ≡ Err (n, c)
first_bad_reported bytes n c h =
    elim h as (λ _. scene_of bytes ≡ Err (n, c)) [ inl f ↦ bad_reported bytes n c f | inr l ↦ header_reported bytes n c l.0 l.1 ]

pub good_lines_read : (bytes : List ℕ) (scene : Scene) → HasGoodLines bytes scene → scene_of bytes ≡ Ok scene
good_lines_read bytes scene h = to_end None (raw_lines bytes) (Some h.so_far) h.good ∙ ap (λ s. Ok s) h.said

record AllGood (start : Reading) (n : ℕ) (texts : List (List ℕ)) (scene : Scene) : Type 0 where
  so_far : SoFar
  good : AreGood start n texts (Some so_far)
  said : so_far.scene ≡ scene

good_end : (start : Reading) (n : ℕ) (scene : Scene) → ended start n ≡ Ok scene → AllGood start n [] scene
good_end (Some so_far) n scene h = record { so_far = so_far; good = refl; said = cc }
good_end None n scene h = cc

good_step : (start : Reading) (n : ℕ) (text : List ℕ) (texts : List (List ℕ)) (scene : Scene) (read : Result Reading Cause)
    → plain_read start (n + 1) (line_words (without_return text)) ≡ read
    → then_on (λ next. lines_read next (n + 1) texts) (n + 1) read ≡ Ok scene
    → ((next : Reading) → lines_read next (n + 1) texts ≡ Ok scene → AllGood next (n + 1) texts scene)
    → AllGood start n (text ∷ texts) scene
good_step start n text texts scene (Err d) e h ih = cc
good_step start n text texts scene (Ok next) e h ih =
    let rest = ih next h in
    record { so_far = rest.so_far; good = (next, e, rest.good); said = rest.said }

from_good : (start : Reading) (n : ℕ) (texts : List (List ℕ)) (scene : Scene) → lines_read start n texts ≡ Ok scene → AllGood start n texts scene
from_good start n [] scene h = good_end start n scene h
from_good start n (text ∷ texts) scene h =
    good_step start n text texts scene (plain_read start (n + 1) (line_words (without_return text))) refl h (λ next g. from_good next (n + 1) texts scene g)

pub read_lines_good : (bytes : List ℕ) (scene : Scene) → scene_of bytes ≡ Ok scene → HasGoodLines bytes scene
read_lines_good bytes scene h = let g = from_good None 0 (raw_lines bytes) scene h in record { so_far = g.so_far; good = g.good; said = g.said }

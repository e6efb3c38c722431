-- The line that is reported is the first bad one.
use Rattle.std.proofs.Common.{◌≡◌, ℕ, ◌+◌, ◌⊎◌, List, [], ◌∷◌, ◌++◌, length, max, Some, None, Result, Ok, Err, refl, sym, ap, ◌∙◌, arith, inl, inr}
use Rattle.usb_text.specs.Lines.{raw_lines, without_return}
use Rattle.usb_scene.specs.Read.{Reading, lines_read, plain_read, line_words, then_on, ended, scene_of}
use Rattle.usb_scene.specs.SceneLaws.{AreGood, IsFirstBad, LacksHeader}
use Rattle.usb_scene.specs.declared.scene.Scene.{Scene}
use Rattle.usb_scene.specs.declared.cause.Cause.{Cause}
use Rattle.usb_scene.specs.declared.cause.Cause.TheVariants as cause

-- as `IsFirstBad`, of lines after n others
record Bad (start : Reading) (n : ℕ) (texts : List (List ℕ)) (m : ℕ) (c : Cause) : Type 0 where
  before : List (List ℕ)
  text : List ℕ
  behind : List (List ℕ)
  reading : Reading
  split : texts ≡ before ++ text ∷ behind
  number : m ≡ n + length before + 1
  good : AreGood start n before reading
  bad : plain_read reading m (line_words (without_return text)) ≡ Err c

record NoHeader (start : Reading) (n : ℕ) (texts : List (List ℕ)) (m : ℕ) (c : Cause) : Type 0 where
  good : AreGood start n texts None
  number : m ≡ max (n + length texts) 1
  cause : c ≡ cause.Header

abbrev fault : ℕ × Cause → Result Scene (ℕ × Cause)
fault p = Err p

fault_parts : (a b : ℕ × Cause) → fault a ≡ fault b → (a.0 ≡ b.0) × (a.1 ≡ b.1)
fault_parts a b h = let e : a ≡ b = cc in (ap (λ (p : ℕ × Cause). p.0) e, ap (λ (p : ℕ × Cause). p.1) e)

at_end : (start : Reading) (n m : ℕ) (c : Cause) → ended start n ≡ Err (m, c) → NoHeader start n [] m c
at_end (Some scene) n m c h = cc
at_end None n m c h =
    let parts = fault_parts (max n 1, cause.Header) (m, c) h in
    record { good = refl; number = omega (arith, parts.0); cause = sym parts.1 }

step : (start : Reading) (n : ℕ) (text : List ℕ) (texts : List (List ℕ)) (m : ℕ) (c : Cause) (read : Result Reading Cause)
    → plain_read start (n + 1) (line_words (without_return text)) ≡ read
    → then_on (λ next. lines_read next (n + 1) texts) (n + 1) read ≡ Err (m, c)
    → ((next : Reading) → lines_read next (n + 1) texts ≡ Err (m, c) → Bad next (n + 1) texts m c ⊎ NoHeader next (n + 1) texts m c)
    → Bad start n (text ∷ texts) m c ⊎ NoHeader start n (text ∷ texts) m c
step start n text texts m c (Err d) e h ih =
    let parts = fault_parts (n + 1, d) (m, c) h in
    let same : n + 1 ≡ m = parts.0 in
    let why : d ≡ c = parts.1 in
    inl (record { before = []; text = text; behind = texts; reading = start; split = refl; number = omega arith; good = refl; bad = rw (← same) (e ∙ ap Err why) })
step start n text texts m c (Ok next) e h ih =
    elim (ih next h) as (λ _. Bad start n (text ∷ texts) m c ⊎ NoHeader start n (text ∷ texts) m c) [
      | inl b ↦ inl (record { before = text ∷ b.before; text = b.text; behind = b.behind; reading = b.reading; split = ap (λ xs. text ∷ xs) b.split; number = omega (arith, b.number); good = (next, e, b.good); bad = b.bad })
      | inr b ↦ inr (record { good = (next, e, b.good); number = omega (arith, b.number); cause = b.cause })
    ]

from_line : (start : Reading) (n : ℕ) (texts : List (List ℕ)) (m : ℕ) (c : Cause) → lines_read start n texts ≡ Err (m, c)
    → Bad start n texts m c ⊎ NoHeader start n texts m c
from_line start n [] m c h = inr (at_end start n m c h)
from_line start n (text ∷ texts) m c h =
    step start n text texts m c (plain_read start (n + 1) (line_words (without_return text))) refl h (λ next g. from_line next (n + 1) texts m c g)

pub first_bad_line : (bytes : List ℕ) (n : ℕ) (c : Cause) → scene_of bytes ≡ Err (n, c) → IsFirstBad bytes n c ⊎ (LacksHeader bytes n × (c ≡ cause.Header))
first_bad_line bytes n c h =
    elim (from_line None 0 (raw_lines bytes) n c h) as (λ _. IsFirstBad bytes n c ⊎ (LacksHeader bytes n × (c ≡ cause.Header))) [
      | inl b ↦ inl (record { before = b.before; text = b.text; behind = b.behind; reading = b.reading; split = b.split; number = omega (arith, b.number); good = b.good; bad = b.bad })
      | inr b ↦ inr (record { good = b.good; number = omega (arith, b.number) }, b.cause)
    ]

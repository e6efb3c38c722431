-- How a text splits at its first line, and a line at its first word.
use Rattle.std.proofs.Common.{◌≡◌, ℕ, ◌+◌, ◌<◌, ◌≤◌, Bool, true, false, not, cond, eqb, List, [], ◌∷◌, length, take, drop, suc, min, refl, sym, ap, ◌∙◌, arith, subst}
use Rattle.std.specs.List.{prefix_len}
use Rattle.std.proofs.lemmas.List.{drop_all, drop_min, length-drop}
use Rattle.usb_text.specs.Lines.{raw_lines, onto_first}
use Rattle.usb_text.specs.Words.{all_words, is_blank}

-- how many items pass the test, from the first on
abbrev run_len : (ℕ → Bool) → List ℕ → ℕ
run_len p [] = 0
run_len p (b ∷ bytes) = cond (p b) (suc (run_len p bytes)) 0

run_len-prefix_len : (p : ℕ → Bool) (bytes : List ℕ) → prefix_len p bytes ≡ run_len p bytes
run_len-prefix_len p [] = refl
run_len-prefix_len p (b ∷ bytes) =
    let rest = run_len-prefix_len p bytes in
    elim (p b) as (λ t. cond t (1 + prefix_len p bytes) 0 ≡ cond t (suc (run_len p bytes)) 0) [ true ↦ omega arith | false ↦ refl ]

abbrev is_no_feed : ℕ → Bool
is_no_feed b = not (eqb b 10)

-- the first line, and the lines after its line feed
raw_lines-first : (b : ℕ) (bytes : List ℕ) →
    raw_lines (b ∷ bytes) ≡ take (run_len is_no_feed (b ∷ bytes)) (b ∷ bytes) ∷ raw_lines (drop (suc (run_len is_no_feed (b ∷ bytes))) (b ∷ bytes))
raw_lines-first b [] = elim (eqb b 10) as (λ t. cond t ([] ∷ []) ((b ∷ []) ∷ []) ≡ take (cond (not t) 1 0) (b ∷ []) ∷ raw_lines (drop (suc (cond (not t) 1 0)) (b ∷ []))) [ true ↦ refl | false ↦ refl ]
raw_lines-first b (c ∷ bytes) =
    let rest = raw_lines-first c bytes in
    elim (eqb b 10) as (λ t. cond t ([] ∷ raw_lines (c ∷ bytes)) (onto_first b (raw_lines (c ∷ bytes))) ≡ take (cond (not t) (suc (run_len is_no_feed (c ∷ bytes))) 0) (b ∷ c ∷ bytes) ∷ raw_lines (drop (suc (cond (not t) (suc (run_len is_no_feed (c ∷ bytes))) 0)) (b ∷ c ∷ bytes)))
    [ true ↦ refl | false ↦ ap (onto_first b) rest ]

-- the same, of a text that is not empty, whose last line may lack the line feed
pub raw_lines_next : (bytes : List ℕ) (n m : ℕ) → 0 < length bytes → n ≡ prefix_len (λ b. not (eqb b 10)) bytes → m ≡ min (n + 1) (length bytes)
    → raw_lines bytes ≡ take n bytes ∷ raw_lines (drop m bytes)
raw_lines_next [] n m h e f = absurd (omega arith)
raw_lines_next (b ∷ bytes) n m h e f =
    let len : n ≡ run_len is_no_feed (b ∷ bytes) = e ∙ run_len-prefix_len is_no_feed (b ∷ bytes) in
    let more : n + 1 ≡ suc (run_len is_no_feed (b ∷ bytes)) = omega arith in
    rw (f, drop_min (n + 1) (b ∷ bytes), more, len) (raw_lines-first b bytes)

-- blanks before a word make no difference
all_words-gap : (line : List ℕ) → all_words line ≡ all_words (drop (run_len is_blank line) line)
all_words-gap [] = refl
all_words-gap (b ∷ line) =
    let rest = all_words-gap line in
    elim (is_blank b) as (λ t. is_blank b ≡ t → all_words (b ∷ line) ≡ all_words (drop (run_len is_blank (b ∷ line)) (b ∷ line)))
    [ true ↦ λ e. simp e rest | false ↦ λ e. simp e ] refl

abbrev is_inner : ℕ → Bool
is_inner b = not (is_blank b)

-- the first word of a line that begins with one
all_words-first : (b : ℕ) (line : List ℕ) → is_blank b ≡ false →
    all_words (b ∷ line) ≡ take (run_len is_inner (b ∷ line)) (b ∷ line) ∷ all_words (drop (run_len is_inner (b ∷ line)) (b ∷ line))
all_words-first b [] e = simp e
all_words-first b (c ∷ line) e =
    elim (is_blank c) as (λ t. is_blank c ≡ t → all_words (b ∷ c ∷ line) ≡ take (run_len is_inner (b ∷ c ∷ line)) (b ∷ c ∷ line) ∷ all_words (drop (run_len is_inner (b ∷ c ∷ line)) (b ∷ c ∷ line)))
    [ true ↦ λ f. simp (e, f) | false ↦ λ f. let rest = all_words-first c line f in simp (e, f) (ap (onto_first b) (simp f at rest)) ] refl

-- a line that is empty after its blanks has no word
pub all_words_none : (line : List ℕ) (gap : ℕ) → gap ≡ prefix_len is_blank line → length line ≤ gap → all_words line ≡ []
all_words_none line gap e h = all_words-gap line ∙ ap all_words (drop_all (run_len is_blank line) line (omega (arith, run_len-prefix_len is_blank line)))

-- what follows the blanks begins with no blank
begins-inner : (line : List ℕ) (b : ℕ) (rest : List ℕ) → drop (run_len is_blank line) line ≡ b ∷ rest → is_blank b ≡ false
begins-inner [] b rest e = cc
begins-inner (c ∷ line) b rest e =
    elim (is_blank c) as (λ t. is_blank c ≡ t → is_blank b ≡ false)
    [ true ↦ λ f. begins-inner line b rest (simp f at e) | false ↦ λ f. let g : c ∷ line ≡ b ∷ rest = simp f at e in let h : c ≡ b = cc in subst (λ x. is_blank x ≡ false) h f ] refl

at_word : (line : List ℕ) (len : ℕ) → 0 < length line → ((b : ℕ) (rest : List ℕ) → line ≡ b ∷ rest → is_blank b ≡ false)
    → len ≡ prefix_len is_inner line → all_words line ≡ take len line ∷ all_words (drop len line)
at_word [] len h g f = absurd (omega arith)
at_word (b ∷ rest) len h g f =
    let same : len ≡ run_len is_inner (b ∷ rest) = f ∙ run_len-prefix_len is_inner (b ∷ rest) in
    subst (λ (n : ℕ). all_words (b ∷ rest) ≡ take n (b ∷ rest) ∷ all_words (drop n (b ∷ rest))) (sym same) (all_words-first b rest (g b rest refl))

-- the first word of a line, and what follows it
pub all_words_next : (line : List ℕ) (gap len : ℕ) → gap ≡ prefix_len is_blank line → gap < length line
    → len ≡ prefix_len (λ b. not (is_blank b)) (drop gap line) → all_words line ≡ take len (drop gap line) ∷ all_words (drop len (drop gap line))
all_words_next line gap len e h f =
    let same : gap ≡ run_len is_blank line = e ∙ run_len-prefix_len is_blank line in
    let inner = λ (b : ℕ) (rest : List ℕ) (q : drop gap line ≡ b ∷ rest). begins-inner line b rest (ap (λ n. drop n line) (sym same) ∙ q) in
    all_words-gap line ∙ ap (λ n. all_words (drop n line)) (sym same) ∙ at_word (drop gap line) len (omega (arith, length-drop gap line)) inner f

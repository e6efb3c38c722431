-- What is read is good, and the bytes are its spelling.
use Rattle.std.proofs.Common.{◌≡◌, ℕ, zero, suc, ◌+◌, ◌-◌, ◌<◌, ◌≤◌, cond, eqb, List, [], ◌∷◌, ◌++◌, length, get_or, take, drop, Option, Some, None, Result, Ok, Err, refl, sym, ap, subst, ◌∙◌, append_assoc, arith}
use Rattle.std.specs.List.{AllByRecursion}
use Rattle.std.proofs.lemmas.List.{append-nil, take-append-drop, length-take-le, get_or-take, length-append}
use Rattle.std.proofs.lemmas.Bool.{eqb-true}
use Rattle.usb_desc.specs.declared.tree.ConfigTree.{ConfigTree}
use Rattle.usb_desc.specs.declared.fault.DescFault.{DescFault}
use Rattle.usb_desc.specs.declared.fault.DescFault.TheVariants.{BadType, TotalLength}
use Rattle.usb_desc.specs.Cut.{cut}
use Rattle.usb_desc.specs.Spell.{parts, written, size_of, spell}
use Rattle.usb_desc.specs.Good.{IsByte, IsSound, IsGood}
use Rattle.usb_desc.specs.Growth.{kind_of, word_at, tree_with, piece_fault}
use Rattle.usb_desc.specs.Read.{unless, then_on, grown, headed, read_on, config_of, begun, tree_of}
use Rattle.usb_desc.proofs.Words.{low_word, high_word, byte_at}
use Rattle.usb_desc.proofs.Cuts.{held, IsCut, is_cut}
use Rattle.usb_desc.proofs.Reading.{behind_head}
use Rattle.usb_desc.proofs.Parts.{IsWhole, long_as}
use Rattle.usb_desc.proofs.Bytes.{each_left, each_right}
use Rattle.usb_desc.proofs.Sound.{IsKept, is_kept, no_extras}

pub then_ok : {X Y : Type 0} (f : X → Result Y DescFault) (r : Result X DescFault) (y : Y) → then_on f r ≡ Ok y → (x : X) × (r ≡ Ok x) × (f x ≡ Ok y)
then_ok f (Ok x) y e = (x, refl, e)
then_ok f (Err g) y e = absurd cc

unless_ok : {X : Type 0} (x y : X) (fault : Option DescFault) → unless x fault ≡ Ok y → (fault ≡ None) × (x ≡ y)
unless_ok x y None e = (refl, cc)
unless_ok x y (Some f) e = absurd cc

-- a piece that was cut off is whole
whole_cut : (bytes d behind : List ℕ) → AllByRecursion IsByte bytes → IsCut bytes d behind → IsWhole d
whole_cut bytes d behind fits c =
    let n = get_or bytes 0 0 in
    let two = c.header in
    let size : length (take n bytes) ≡ n = length-take-le n bytes c.within in
    let head : get_or (take n bytes) 0 0 ≡ n = get_or-take n bytes 0 0 (omega arith) in
    let kind : get_or (take n bytes) 1 0 ≡ get_or bytes 1 0 = get_or-take n bytes 1 0 (omega arith) in
    let parted : AllByRecursion IsByte (take n bytes ++ drop n bytes) = subst (AllByRecursion IsByte) (sym (take-append-drop n bytes)) fits in
    subst IsWhole c.piece (record {
      header = omega arith;
      said = head ∙ sym size;
      long = rw (kind, size) c.long;
      bytes = each_left IsByte (take n bytes) (drop n bytes) parted;
    })

-- a descriptor that was read, and what follows it
pub record IsStep (tree next : ConfigTree) (b : ℕ) (bytes : List ℕ) : Type 0 where
  pub header : 2 ≤ b
  pub within : b ≤ length (b ∷ bytes)
  pub sound : IsSound tree → IsSound next
  pub behind : (n : ℕ) → written n next ++ drop (b - 1) bytes ≡ written n tree ++ b ∷ bytes

pub is_step : (at : ℕ) (tree next : ConfigTree) (b : ℕ) (bytes : List ℕ) → AllByRecursion IsByte (b ∷ bytes) → headed tree at (b ∷ bytes) ≡ Ok next → IsStep tree next b bytes
is_step at tree next b bytes fits e =
    let g = then_ok (λ (d : List ℕ × List ℕ). grown tree at d.0) (cut at at (b ∷ bytes)) next e in
    let d = g.0.0 in
    let c = is_cut at at (b ∷ bytes) d g.0.1 g.1 in
    let two : 2 ≤ b = c.header in
    let w = whole_cut (b ∷ bytes) d g.0.1 fits c in
    let u = unless_ok (tree_with tree d) next (piece_fault tree at d) g.2 in
    let kept : IsKept tree next d = subst (λ (x : ConfigTree). IsKept tree x d) u.1 (is_kept tree at d w u.0) in
    let seam : d ++ drop (b - 1) bytes ≡ b ∷ bytes =
    ap (λ (ys : List ℕ). ys ++ drop (b - 1) bytes) (sym c.piece) ∙ ap (λ (ys : List ℕ). take b (b ∷ bytes) ++ ys) (sym (behind_head b b bytes two)) ∙ take-append-drop b (b ∷ bytes) in
    record {
      header = two;
      within = c.within;
      sound = kept.sound;
      behind = λ n. ap (λ (ys : List ℕ). ys ++ drop (b - 1) bytes) (kept.behind n) ∙ append_assoc (written n tree) d (drop (b - 1) bytes)
          ∙ ap (λ (ys : List ℕ). written n tree ++ ys) seam;
    }

read_takes : (total inside : ℕ) (tree t : ConfigTree) (bytes : List ℕ) → AllByRecursion IsByte bytes → read_on total tree inside bytes ≡ Ok t → inside ≤ length bytes
    → IsSound tree → IsSound t × ((n : ℕ) → written n t ≡ written n tree ++ drop inside bytes)
read_takes total zero tree t [] fits e le s =
    let is : tree ≡ t = cc in
    (subst IsSound is s, λ n. ap (written n) (sym is) ∙ sym (append-nil (written n tree)))
read_takes total (suc inside) tree t [] fits e le s = absurd (omega arith)
read_takes total (suc inside) tree t (b ∷ bytes) fits e le s = read_takes total inside tree t bytes fits.1 e (omega arith) s
read_takes total zero tree t (b ∷ bytes) fits e le s =
    let at = total - length (b ∷ bytes) in
    let h = then_ok (λ (next : ConfigTree). read_on total next (b - 1) bytes) (headed tree at (b ∷ bytes)) t e in
    let step = is_step at tree h.0 b bytes fits h.1 in
    let two = step.header in
    let within = step.within in
    let r = read_takes total (b - 1) h.0 t bytes fits.1 h.2 (omega arith) (step.sound s) in
    (r.0, λ n. r.1 n ∙ step.behind n)

config_is_at : (d : List ℕ) → IsWhole d → kind_of d ≡ 2 → 9 ≤ length d → written (word_at d 2 3) (config_of d) ≡ d
config_is_at (n ∷ k ∷ a ∷ b ∷ e ∷ f ∷ g ∷ h ∷ i ∷ tail) w kind long =
    let fa : a < 256 = w.bytes.1.1.0 in
    let said : n ≡ 9 + length tail = omega (arith, w.said) in
    rw (low_word a b fa, high_word a b fa, append-nil tail)
    (ap (λ (x : ℕ). x ∷ 2 ∷ a ∷ b ∷ e ∷ f ∷ g ∷ h ∷ i ∷ tail) (sym said) ∙ ap (λ (x : ℕ). n ∷ x ∷ a ∷ b ∷ e ∷ f ∷ g ∷ h ∷ i ∷ tail) (sym kind))
config_is_at _ w kind long = absurd (omega arith)

config_is : (d : List ℕ) → IsWhole d → kind_of d ≡ 2 → written (word_at d 2 3) (config_of d) ≡ d
config_is d w kind = config_is_at d w kind (long_as d w 2 kind)

pub size_is : (n : ℕ) (c : ConfigTree) → length (written n c) ≡ size_of c
size_is n c = omega (arith, length-append c.tail (parts c))

-- the first descriptor of a configuration, and what follows it
pub record IsStart (bytes rest : List ℕ) (tree : ConfigTree) : Type 0 where
  pub seam : written (length bytes) tree ++ rest ≡ bytes
  pub sound : IsSound tree
  pub small : length bytes < 65536
  pub rest_fits : AllByRecursion IsByte rest

pub is_start : (bytes d rest : List ℕ) (tree : ConfigTree) → AllByRecursion IsByte bytes → cut (length bytes) 0 bytes ≡ Ok (d, rest) → begun (length bytes) d ≡ Ok tree
    → IsStart bytes rest tree
is_start bytes d rest tree fits first e =
    let total = length bytes in
    let c = is_cut total 0 bytes d rest first in
    let w = whole_cut bytes d rest fits c in
    let said = word_at d 2 3 in
    let own : Result ConfigTree DescFault = Ok (config_of d) in
    let counted : Result ConfigTree DescFault = cond (eqb said total) own (Err (TotalLength said total)) in
    let g = held (eqb (kind_of d) 2) (BadType 0) counted tree e in
    let h = held (eqb said total) (TotalLength said total) own tree g.1 in
    let kind : kind_of d ≡ 2 = eqb-true _ _ g.0 in
    let all : said ≡ total = eqb-true _ _ h.0 in
    let is : config_of d ≡ tree = cc in
    let seam : d ++ rest ≡ bytes = ap (λ (ys : List ℕ). ys ++ rest) (sym c.piece) ∙ ap (λ (ys : List ℕ). take (get_or bytes 0 0) bytes ++ ys) (sym c.rest) ∙ take-append-drop (get_or bytes 0 0) bytes in
    let head : written total tree ≡ d = ap (written total) (sym is) ∙ ap (λ (n : ℕ). written n (config_of d)) (sym all) ∙ config_is d w kind in
    let low_byte : get_or d 2 0 < 256 = byte_at d w.bytes 2 in
    let high_byte : get_or d 3 0 < 256 = byte_at d w.bytes 3 in
    record {
      seam = ap (λ (ys : List ℕ). ys ++ rest) head ∙ seam;
      sound = subst IsSound is (record { extras = no_extras; alts = tt; few = omega arith });
      small = omega arith;
      rest_fits = each_right IsByte d rest (subst (AllByRecursion IsByte) (sym seam) fits);
    }

pub tree_found : (bytes : List ℕ) (t : ConfigTree) → AllByRecursion IsByte bytes → tree_of bytes ≡ Ok t → IsGood t × (spell t ≡ bytes)
tree_found bytes t fits e =
    let total = length bytes in
    let a = then_ok (λ (first : List ℕ × List ℕ). then_on (λ tree. read_on total tree 0 first.1) (begun total first.0)) (cut total 0 bytes) t e in
    let rest = a.0.1 in
    let b = then_ok (λ (tree : ConfigTree). read_on total tree 0 rest) (begun total a.0.0) t a.2 in
    let start = is_start bytes a.0.0 rest b.0 fits a.1 b.1 in
    let small = start.small in
    let r = read_takes total 0 b.0 t rest start.rest_fits b.2 (omega arith) start.sound in
    let whole : written total t ≡ bytes = r.1 total ∙ start.seam in
    let size : size_of t ≡ total = sym (size_is total t) ∙ ap length whole in
    let spelled : spell t ≡ bytes = ap (λ (n : ℕ). written n t) size ∙ whole in (
      record {
        bytes = subst (AllByRecursion IsByte) (sym spelled) fits;
        total = omega arith;
        extras = r.0.extras;
        alts = r.0.alts;
        few = r.0.few;
      },
      spelled,
    )

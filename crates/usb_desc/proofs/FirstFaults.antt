-- The fault that reading reports is the first one.
use Rattle.std.proofs.Common.{◌≡◌, ℕ, zero, suc, ◌-◌, ◌<◌, ◌≤◌, ◌⊎◌, inl, inr, List, [], ◌∷◌, ◌++◌, length, drop, Some, None, Result, Ok, Err, refl, sym, ap, ◌∙◌, arith}
use Rattle.std.specs.List.{AllByRecursion}
use Rattle.usb_desc.specs.declared.tree.ConfigTree.{ConfigTree}
use Rattle.usb_desc.specs.declared.fault.DescFault.{DescFault}
use Rattle.usb_desc.specs.Cut.{cut}
use Rattle.usb_desc.specs.Spell.{written, spell}
use Rattle.usb_desc.specs.Good.{IsByte, IsSound, IsGood}
use Rattle.usb_desc.specs.Read.{then_on, headed, read_on, begun, tree_of, fault_in, first_fault}
use Rattle.usb_desc.specs.FirstFault.{GoesWrong, IsFirstFault}
use Rattle.usb_desc.proofs.Reading.{read_bad}
use Rattle.usb_desc.proofs.Whole.{tree_read}
use Rattle.usb_desc.proofs.Found.{is_step, is_start, tree_found}

then_err : {X Y : Type 0} (f : X → Result Y DescFault) (r : Result X DescFault) (fault : DescFault) → then_on f r ≡ Err fault
    → (r ≡ Err fault) ⊎ ((x : X) × (r ≡ Ok x) × (f x ≡ Err fault))
then_err f (Ok x) fault e = inr (x, refl, e)
then_err {X} f (Err g) fault e = let same : g ≡ fault = cc in inl (ap (λ (h : DescFault). Err h) same)

-- where the reading stops
record IsStop (total : ℕ) (tree : ConfigTree) (bytes : List ℕ) (fault : DescFault) : Type 0 where
  last : ConfigTree
  behind : List ℕ
  more : 0 < length behind
  before : (n : ℕ) → written n last ++ behind ≡ written n tree ++ bytes
  sound : IsSound last
  wrong : headed last (total - length behind) behind ≡ Err fault

read_stops : (total inside : ℕ) (tree : ConfigTree) (bytes : List ℕ) (fault : DescFault) → AllByRecursion IsByte bytes → read_on total tree inside bytes ≡ Err fault
    → inside ≤ length bytes → IsSound tree → IsStop total tree (drop inside bytes) fault
read_stops total zero tree [] fault fits e le s = absurd cc
read_stops total (suc inside) tree [] fault fits e le s = absurd cc
read_stops total (suc inside) tree (b ∷ bytes) fault fits e le s = read_stops total inside tree bytes fault fits.1 e (omega arith) s
read_stops total zero tree (b ∷ bytes) fault fits e le s =
    let at = total - length (b ∷ bytes) in
    elim (then_err (λ (next : ConfigTree). read_on total next (b - 1) bytes) (headed tree at (b ∷ bytes)) fault e) as (λ _. IsStop total tree (b ∷ bytes) fault) [
      | inl h ↦ record { last = tree; behind = b ∷ bytes; more = omega arith; before = λ n. refl; sound = s; wrong = h }
      | inr h ↦
          let step = is_step at tree h.0 b bytes fits h.1 in
          let two = step.header in
          let within = step.within in
          let stop = read_stops total (b - 1) h.0 bytes fault fits.1 h.2 (omega arith) (step.sound s) in
          record { last = stop.last; behind = stop.behind; more = stop.more; before = λ n. stop.before n ∙ step.behind n; sound = stop.sound; wrong = stop.wrong }
    ]

fault_is : {X : Type 0} (r : Result X DescFault) (fault : DescFault) → fault_in r ≡ Some fault → r ≡ Err fault
fault_is (Ok x) fault e = absurd cc
fault_is (Err g) fault e = let same : g ≡ fault = cc in ap (λ (h : DescFault). Err h) same

goes_wrong : (bytes d rest : List ℕ) (tree : ConfigTree) (fault : DescFault) → AllByRecursion IsByte bytes → cut (length bytes) 0 bytes ≡ Ok (d, rest)
    → begun (length bytes) d ≡ Ok tree → read_on (length bytes) tree 0 rest ≡ Err fault → GoesWrong bytes fault
goes_wrong bytes d rest tree fault fits first own e =
    let start = is_start bytes d rest tree fits first own in
    let stop = read_stops (length bytes) 0 tree rest fault start.rest_fits e (omega arith) start.sound in
    record { tree = stop.last; behind = stop.behind; more = stop.more; before = stop.before (length bytes) ∙ start.seam; sound = stop.sound; wrong = stop.wrong }

pub is_first : (bytes : List ℕ) (fault : DescFault) → AllByRecursion IsByte bytes → first_fault bytes ≡ Some fault → IsFirstFault bytes fault
is_first bytes fault fits e =
    let total = length bytes in
    elim (then_err (λ (first : List ℕ × List ℕ). then_on (λ (tree : ConfigTree). read_on total tree 0 first.1) (begun total first.0)) (cut total 0 bytes) fault (fault_is (tree_of bytes) fault e))
    as (λ _. IsFirstFault bytes fault) [
      | inl h ↦ inl (inl h)
      | inr h ↦ elim (then_err (λ (tree : ConfigTree). read_on total tree 0 h.0.1) (begun total h.0.0) fault h.2) as (λ _. IsFirstFault bytes fault) [
        | inl g ↦ inl (inr (h.0.0, h.0.1, h.1, g))
        | inr g ↦ inr (goes_wrong bytes h.0.0 h.0.1 g.0 fault fits h.1 g.1 g.2)
      ]
    ]

-- what is the first fault is reported
pub first_told : (bytes : List ℕ) (fault : DescFault) → IsFirstFault bytes fault → first_fault bytes ≡ Some fault
first_told bytes fault (inl (inl h)) =
    ap (λ (r : Result (List ℕ × List ℕ) DescFault). fault_in (then_on (λ (first : List ℕ × List ℕ). then_on (λ (tree : ConfigTree). read_on (length bytes) tree 0 first.1) (begun (length bytes) first.0)) r)) h
first_told bytes fault (inl (inr h)) =
    ap (λ (r : Result (List ℕ × List ℕ) DescFault). fault_in (then_on (λ (first : List ℕ × List ℕ). then_on (λ (tree : ConfigTree). read_on (length bytes) tree 0 first.1) (begun (length bytes) first.0)) r)) h.2
    ∙ ap (λ (r : Result ConfigTree DescFault). fault_in (then_on (λ (tree : ConfigTree). read_on (length bytes) tree 0 h.1) r)) h.3
first_told bytes fault (inr w) =
    let n = length bytes in
    let read : tree_of bytes ≡ Err fault =
    ap tree_of (sym w.before) ∙ tree_read n w.tree w.behind w.sound (ap length w.before) ∙ read_bad n (n - length w.behind) w.tree w.behind fault w.more refl w.wrong in
    ap fault_in read

no_fault : {X : Type 0} (r : Result X DescFault) → fault_in r ≡ None → (x : X) × (r ≡ Ok x)
no_fault (Ok x) e = (x, refl)
no_fault (Err f) e = absurd cc

-- bytes without fault are a configuration
pub is_configuration : (bytes : List ℕ) → AllByRecursion IsByte bytes → first_fault bytes ≡ None → (c : ConfigTree) × IsGood c × (spell c ≡ bytes)
is_configuration bytes fits e =
    let found = no_fault (tree_of bytes) e in
    let good = tree_found bytes found.0 fits found.1 in
    (found.0, good.0, good.1)

-- A whole configuration that is spelled is read.
use Rattle.std.proofs.Common.{◌≡◌, ◌≢◌, ℕ, ◌+◌, ◌-◌, ◌*◌, ◌<◌, ◌≤◌, Bool, true, false, cond, eqb, ltb, List, [], ◌∷◌, ◌++◌, length, Option, Some, None, Result, Ok, Err, refl, sym, ap, subst, ◌∙◌, append_assoc, arith}
use Rattle.std.specs.Prelude.{slice_get, ◌||◌}
use Rattle.std.specs.List.{AllByRecursion, flat_map}
use Rattle.std.proofs.lemmas.List.{append-nil, length-append, length_push}
use Rattle.std.proofs.lemmas.Bool.{lt-ltb, eqb-false}
use Rattle.usb_desc.specs.declared.tree.ConfigTree.{ConfigTree}
use Rattle.usb_desc.specs.declared.tree.Alt.{Alt}
use Rattle.usb_desc.specs.declared.tree.End.{End}
use Rattle.usb_desc.specs.declared.fault.DescFault.{DescFault}
use Rattle.usb_desc.specs.declared.fault.DescFault.TheVariants.{TotalLength, TwiceEndpoint, Limit}
use Rattle.usb_desc.specs.Cut.{cut}
use Rattle.usb_desc.specs.Spell.{low, high, end_bytes, alt_bytes, parts, size_of, written, spell}
use Rattle.usb_desc.specs.Good.{IsGoodEnd, AreDistinct, IsGoodAlt, IsSound, IsGood}
use Rattle.usb_desc.specs.Growth.{on_last, end_of, with_end, extended, last_alt, has_end, end_fault, piece_fault}
use Rattle.usb_desc.specs.Read.{then_on, read_on, begun, tree_of}
use Rattle.usb_desc.proofs.Words.{word_again}
use Rattle.usb_desc.proofs.Lasts.{on_last_push, alt_extended_push, extended_push}
use Rattle.usb_desc.proofs.Found.{size_is}
use Rattle.usb_desc.proofs.Again.{IsPiece, cut_again, read_piece, differ, extras_read}

-- ---- an endpoint

get_push : {X : Type 0} (xs : List X) (x : X) → slice_get (xs ++ x ∷ []) (length xs) ≡ Some x
get_push [] x = refl
get_push (a ∷ xs) x = get_push xs x

last_push : (xs : List Alt) (x : Alt) → last_alt (xs ++ x ∷ []) ≡ Some x
last_push xs x = ap (slice_get (xs ++ x ∷ [])) (let e = length_push xs x in let g : length (xs ++ x ∷ []) - 1 ≡ length xs = omega arith in g) ∙ get_push xs x

-- the endpoint's own descriptor
abbrev end_own : End → List ℕ
end_own e = (7 + length e.tail) ∷ 5 ∷ e.address ∷ e.attributes ∷ low e.max_packet ∷ high e.max_packet ∷ e.interval ∷ e.tail

abbrev end_bare : End → End
end_bare e = record e { extras = [] }

end_of_own : (e : End) → end_of (end_own e) ≡ end_bare e
end_of_own e = ap (λ (n : ℕ). record e { max_packet = n; extras = [] }) (word_again e.max_packet)

free_of_fault : (twice few : Bool) (f g : DescFault) → twice ≡ false → few ≡ true → cond twice (Some f) (cond few None (Some g)) ≡ None
free_of_fault true few f g et ef = absurd cc
free_of_fault false true f g et ef = refl
free_of_fault false false f g et ef = absurd cc

end_read : (total : ℕ) (c : ConfigTree) (before : List Alt) (a : Alt) (e : End) (rest : List ℕ) → IsGoodEnd e → has_end a.ends e.address ≡ false → length a.ends < 30
    → read_on total (record c { alts = before ++ a ∷ [] }) 0 (end_bytes e ++ rest) ≡ read_on total (record c { alts = before ++ with_end e a ∷ [] }) 0 rest
end_read total c before a e rest good new room =
    let tree : ConfigTree = record c { alts = before ++ a ∷ [] } in
    let with_bare : ConfigTree = record c { alts = before ++ with_end (end_bare e) a ∷ [] } in
    let own : IsPiece (end_own e) = record { header = omega arith; said = omega arith; long = omega arith } in
    let none : (at : ℕ) → piece_fault tree at (end_own e) ≡ None = λ at.
    ap (λ (last : Option Alt). end_fault last at e.address) (last_push before a)
    ∙ free_of_fault (has_end a.ends e.address) (ltb (length a.ends) 30) (TwiceEndpoint at) (Limit at) new (lt-ltb _ _ room) in
    let regrouped : end_bytes e ++ rest ≡ end_own e ++ (e.extras ++ rest) = append_assoc (end_own e) e.extras rest in
    let joined : record tree { alts = on_last (with_end (end_of (end_own e))) tree.alts } ≡ with_bare =
    ap (λ (f : End). record c { alts = on_last (with_end f) (before ++ a ∷ []) }) (end_of_own e)
    ∙ ap (λ (bs : List Alt). record c { alts = bs }) (on_last_push (with_end (end_bare e)) before a) in
    let filled : extended e.extras with_bare ≡ record c { alts = before ++ with_end e a ∷ [] } =
    extended_push e.extras with_bare before (with_end (end_bare e) a) refl
    ∙ ap (λ (b : Alt). record c { alts = before ++ b ∷ [] }) (alt_extended_push e.extras (with_end (end_bare e) a) a.ends (end_bare e) refl) in
    ap (read_on total tree 0) regrouped ∙ read_piece total tree (end_own e) (e.extras ++ rest) own none
    ∙ ap (λ (t : ConfigTree). read_on total t 0 (e.extras ++ rest)) joined
    ∙ extras_read total with_bare e.extras rest good
    ∙ ap (λ (t : ConfigTree). read_on total t 0 rest) filled

both_false : (a b : Bool) → a ≡ false → b ≡ false → (a || b) ≡ false
both_false true b ea eb = absurd cc
both_false false b ea eb = eb

each_middle : {X : Type 0} (P : X → Type 0) (xs : List X) (x : X) (ys : List X) → AllByRecursion P (xs ++ x ∷ ys) → P x
each_middle P [] x ys h = h.0
each_middle P (z ∷ xs) x ys h = each_middle P xs x ys h.1

-- an address that occurs once is new after those before it
is_new : (ends : List End) (e : End) (others : List End) → AreDistinct (ends ++ e ∷ others) → has_end ends e.address ≡ false
is_new [] e others h = refl
is_new (f ∷ ends) e others h =
    both_false (eqb f.address e.address) (has_end ends e.address)
    (differ f.address e.address (λ s. each_middle (λ (g : End). g.address ≢ f.address) ends e others h.0 (sym s)))
    (is_new ends e others h.1)

ends_read : (total : ℕ) (c : ConfigTree) (before : List Alt) (a : Alt) (ends : List End) (rest : List ℕ) → AllByRecursion IsGoodEnd ends
    → AreDistinct (a.ends ++ ends) → length (a.ends ++ ends) ≤ 30
    → read_on total (record c { alts = before ++ a ∷ [] }) 0 (flat_map end_bytes ends ++ rest) ≡ read_on total (record c { alts = before ++ record a { ends = a.ends ++ ends } ∷ [] }) 0 rest
ends_read total c before a [] rest good distinct few =
    ap (λ (es : List End). read_on total (record c { alts = before ++ record a { ends = es } ∷ [] }) 0 rest) (sym (append-nil a.ends))
ends_read total c before a (e ∷ ends) rest good distinct few =
    let regrouped : (a.ends ++ e ∷ []) ++ ends ≡ a.ends ++ e ∷ ends = append_assoc a.ends (e ∷ []) ends in
    let room : length a.ends < 30 = omega (arith, length-append a.ends (e ∷ ends)) in
    ap (read_on total (record c { alts = before ++ a ∷ [] }) 0) (append_assoc (end_bytes e) (flat_map end_bytes ends) rest)
    ∙ end_read total c before a e (flat_map end_bytes ends ++ rest) good.0 (is_new a.ends e ends distinct) room
    ∙ ends_read total c before (with_end e a) ends rest good.1 (subst AreDistinct (sym regrouped) distinct) (subst (λ (es : List End). length es ≤ 30) (sym regrouped) few)
    ∙ ap (λ (es : List End). read_on total (record c { alts = before ++ record a { ends = es } ∷ [] }) 0 rest) regrouped

-- ---- a setting

abbrev alt_own : Alt → List ℕ
alt_own a = (9 + length a.tail) ∷ 4 ∷ a.number ∷ a.setting ∷ a.said ∷ a.class ∷ a.subclass ∷ a.protocol ∷ a.text ∷ a.tail

abbrev alt_bare : Alt → Alt
alt_bare a = record a { extras = []; ends = [] }

within_limit : (b : Bool) (f : DescFault) → b ≡ true → cond b None (Some f) ≡ None
within_limit true f e = refl
within_limit false f e = absurd cc

alt_read : (total : ℕ) (c : ConfigTree) (before : List Alt) (a : Alt) (rest : List ℕ) → IsGoodAlt a → length before < 64
    → read_on total (record c { alts = before }) 0 (alt_bytes a ++ rest) ≡ read_on total (record c { alts = before ++ a ∷ [] }) 0 rest
alt_read total c before a rest good room =
    let tree : ConfigTree = record c { alts = before } in
    let with_bare : ConfigTree = record c { alts = before ++ alt_bare a ∷ [] } in
    let own : IsPiece (alt_own a) = record { header = omega arith; said = omega arith; long = omega arith } in
    let none : (at : ℕ) → piece_fault tree at (alt_own a) ≡ None = λ at. within_limit (ltb (length before) 64) (Limit at) (lt-ltb _ _ room) in
    let behind : List ℕ = flat_map end_bytes a.ends ++ rest in
    let regrouped : alt_bytes a ++ rest ≡ alt_own a ++ (a.extras ++ behind) =
    append_assoc (alt_own a ++ a.extras) (flat_map end_bytes a.ends) rest ∙ append_assoc (alt_own a) a.extras behind in
    let filled : extended a.extras with_bare ≡ record c { alts = before ++ record a { ends = [] } ∷ [] } = extended_push a.extras with_bare before (alt_bare a) refl in
    ap (read_on total tree 0) regrouped ∙ read_piece total tree (alt_own a) (a.extras ++ behind) own none
    ∙ extras_read total with_bare a.extras behind good.extras
    ∙ ap (λ (t : ConfigTree). read_on total t 0 behind) filled
    ∙ ends_read total c before (record a { ends = [] }) a.ends rest good.ends good.distinct good.few

alts_read : (total : ℕ) (c : ConfigTree) (before alts : List Alt) (rest : List ℕ) → AllByRecursion IsGoodAlt alts → length (before ++ alts) ≤ 64
    → read_on total (record c { alts = before }) 0 (flat_map alt_bytes alts ++ rest) ≡ read_on total (record c { alts = before ++ alts }) 0 rest
alts_read total c before [] rest good few = ap (λ (bs : List Alt). read_on total (record c { alts = bs }) 0 rest) (sym (append-nil before))
alts_read total c before (a ∷ alts) rest good few =
    let regrouped : (before ++ a ∷ []) ++ alts ≡ before ++ a ∷ alts = append_assoc before (a ∷ []) alts in
    let room : length before < 64 = omega (arith, length-append before (a ∷ alts)) in
    ap (read_on total (record c { alts = before }) 0) (append_assoc (alt_bytes a) (flat_map alt_bytes alts) rest)
    ∙ alt_read total c before a (flat_map alt_bytes alts ++ rest) good.0 room
    ∙ alts_read total c (before ++ a ∷ []) alts rest good.1 (subst (λ (bs : List Alt). length bs ≤ 64) (sym regrouped) few)
    ∙ ap (λ (bs : List Alt). read_on total (record c { alts = bs }) 0 rest) regrouped

-- ---- all of it

abbrev tree_own : ℕ → ConfigTree → List ℕ
tree_own n c = (9 + length c.tail) ∷ 2 ∷ low n ∷ high n ∷ c.said ∷ c.value ∷ c.text ∷ c.attributes ∷ c.power ∷ c.tail

abbrev tree_bare : ConfigTree → ConfigTree
tree_bare c = record c { extras = []; alts = [] }

counted_by : {X : Type 0} (b : Bool) (f : DescFault) (x : X) → b ≡ true → cond b (Ok x) (Err f) ≡ Ok x
counted_by true f x e = refl
counted_by false f x e = absurd cc

same_at : (a b : ℕ) (t : Bool) → eqb a b ≡ t → a ≡ b → t ≡ true
same_at a b true e s = refl
same_at a b false e s = absurd (eqb-false a b e s)

-- after what a sound configuration is spelled with, the reading goes on from it
pub tree_read : (n : ℕ) (c : ConfigTree) (rest : List ℕ) → IsSound c → length (written n c ++ rest) ≡ n → tree_of (written n c ++ rest) ≡ read_on n c 0 rest
tree_read n c rest sound size =
    let total = length (written n c ++ rest) in
    let own : IsPiece (tree_own n c) = record { header = omega arith; said = omega arith; long = omega arith } in
    let first : cut total 0 (written n c ++ rest) ≡ Ok (tree_own n c, parts c ++ rest) =
    ap (cut total 0) (append_assoc (tree_own n c) (parts c) rest) ∙ cut_again total 0 (tree_own n c) (parts c ++ rest) own in
    let said : low n + 256 * high n ≡ total = word_again n ∙ sym size in
    let own_tree : begun total (tree_own n c) ≡ Ok (tree_bare c) =
    counted_by (eqb (low n + 256 * high n) total) (TotalLength (low n + 256 * high n) total) (tree_bare c) (same_at (low n + 256 * high n) total (eqb (low n + 256 * high n) total) refl said) in
    let all : read_on total (tree_bare c) 0 (parts c ++ rest) ≡ read_on total c 0 rest =
    ap (read_on total (tree_bare c) 0) (append_assoc c.extras (flat_map alt_bytes c.alts) rest)
    ∙ extras_read total (tree_bare c) c.extras (flat_map alt_bytes c.alts ++ rest) sound.extras ∙ alts_read total c [] c.alts rest sound.alts sound.few in
    let go : List ℕ × List ℕ → Result ConfigTree DescFault = λ x. then_on (λ (tree : ConfigTree). read_on total tree 0 x.1) (begun total x.0) in
    ap (then_on go) first ∙ ap (then_on (λ (tree : ConfigTree). read_on total tree 0 (parts c ++ rest))) own_tree ∙ all
    ∙ ap (λ (k : ℕ). read_on k c 0 rest) size

pub tree_again : (c : ConfigTree) → IsGood c → tree_of (spell c) ≡ Ok c
tree_again c good =
    let n = size_of c in
    ap tree_of (sym (append-nil (spell c)))
    ∙ tree_read n c [] (record { extras = good.extras; alts = good.alts; few = good.few }) (ap length (append-nil (spell c)) ∙ size_is n c)

pub one_tree : (a b : ConfigTree) → IsGood a → IsGood b → spell a ≡ spell b → a ≡ b
one_tree a b good fine e =
    let both : Ok a ≡ Ok b = sym (tree_again a good) ∙ ap tree_of e ∙ tree_again b fine in
    cc

-- One row more: what the rack stands for, and what the pass of its caller knows.
use Rattle.std.proofs.Common.{◌≡◌, inr, ⊎_elim, ℕ, ◌+◌, ◌-◌, ◌<◌, ◌≤◌, Bool, true, false, not, ◌&&◌, is_some, Option, Some, None, cond, eqb, List, [], ◌∷◌, ◌++◌, append-nil, length, get_or, map, sym, refl, ap, ◌∙◌, subst, arith, eq-eqb, ne_eqb}
use Rattle.std.proofs.lemmas.List.{map-append, drop_at, length_push, length-set, get_or-set_same, get_or-set_other}
use Rattle.std.proofs.lemmas.List.Elements.{filter-append}
use Rattle.std.proofs.lemmas.Bool.{cases_eq, or_right}
use Rattle.usb_types.specs.declared.urb.UrbId.{UrbId}
use Rattle.usb_turn.specs.Rows.{Begins, part}
use Rattle.usb_turn.proofs.Rows.{part_between}
use Rattle.usb_turn.specs.Pass.{Pass, entered, left, AtMostOne}
use Rattle.usb_anchor.specs.declared.log.LogRow.{LogRow}
use Rattle.usb_anchor.specs.declared.log.TheConstants.{ADD}
use Rattle.usb_anchor.specs.Anchor.{Anchor, has, added, raised}
use Rattle.usb_anchor.specs.Log.{Size, IsLog, anchor_of, row}
use Rattle.usb_anchor.proofs.ByRows.{has_raised}
use Rattle.usb_anchor.specs.Core.{Core, size_of, CanCall, called, given, spent}
use Rattle.usb_anchors.specs.declared.rack.Rack.{Rack}
use Rattle.usb_anchors.specs.declared.rack.Plan.{Plan}
use Rattle.usb_anchor.specs.Rejects.{steps_at, rejects_of, raised_by, withdrawn_by, raises, withdraws}
use Rattle.usb_anchor.proofs.Counting.{steps-snoc}
use Rattle.usb_machine.specs.declared.event.Event.TheVariants.{Reject}
use Rattle.usb_machine.specs.declared.entry.Entry.{Entry}
use Rattle.usb_machine.specs.History.{Machine}
use Rattle.usb_machine.specs.Parts.{part_of}
use Rattle.usb_machine.specs.Calls.{plain_entry}
use Rattle.usb_machine.specs.Fresh.{Known, Grown, Sound, Begins as Beginning}
use Rattle.usb_cancel.specs.Reopening.{rejects_of as all_rejects, withdraws_of as all_withdraws}
use Rattle.usb_anchors.specs.Host.{entry_of, rejects_by, Sees}
use Rattle.usb_anchors.specs.Rack.{Stands, Fits, by_of, lasts, sized}
use Rattle.atomic_table.specs.Seated.{TableId}
use Rattle.usb_anchors.specs.Told.{IsCaller, Told}

pub last_is : (all rows : List LogRow) (x : LogRow) → all ≡ rows ++ x ∷ [] → lasts all ≡ x ∷ []
last_is all rows x e = ap lasts e ∙ drop_at rows (x ∷ []) (length (rows ++ x ∷ []) - 1) (let n = length_push rows x in omega arith)

-- one call less is left, and one row more is written
one_less : (lefts : List ℕ) (rows : List LogRow) (x : LogRow) (i : ℕ) → CanCall lefts x.by → get_or (spent x.by lefts) i 0 + length (part by_of i (rows ++ x ∷ [])) ≡ get_or lefts i 0 + length (part by_of i rows)
one_less lefts rows x i can =
    let parts : length (part by_of i (rows ++ x ∷ [])) ≡ length (part by_of i rows ++ part by_of i (x ∷ [])) = ap length (filter-append (λ (r : LogRow). eqb r.by i) rows (x ∷ [])) in
    ⊎_elim
    (λ e.
    let own : length (part by_of i (rows ++ x ∷ [])) ≡ length (part by_of i rows) + 1
    = parts ∙ (ap (λ c. length (part by_of i rows ++ cond c (x ∷ []) [])) (eq-eqb x.by i e) ∙ length_push (part by_of i rows) x) in
    let less : get_or (spent x.by lefts) i 0 ≡ get_or lefts i 0 - 1 = subst (λ (j : ℕ). get_or (spent x.by lefts) j 0 ≡ get_or lefts j 0 - 1) e (get_or-set_same lefts x.by (get_or lefts x.by 0 - 1) 0 can.0) in
    let some : 0 < get_or lefts i 0 = subst (λ (j : ℕ). 0 < get_or lefts j 0) e can.1 in omega arith)
    (λ ne.
    let same : length (part by_of i (rows ++ x ∷ [])) ≡ length (part by_of i rows)
    = parts ∙ (ap (λ c. length (part by_of i rows ++ cond c (x ∷ []) [])) (ne_eqb x.by i ne) ∙ ap length (append-nil (part by_of i rows))) in
    let kept : get_or (spent x.by lefts) i 0 ≡ get_or lefts i 0 = get_or-set_other lefts x.by i (get_or lefts x.by 0 - 1) 0 (λ e. ne (sym e)) in omega arith)
    (cases_eq x.by i)

-- the acts of a rack's pass in one call
pub record Acts (n : ℕ) (p q : Known) (urbs : ℕ) (x : LogRow) (rows : List LogRow) : Type 0 where
  pub number : q.number ≡ p.number
  pub mine : q.mine ≡ p.mine ++ map (entry_of n) (steps_at urbs x x.anchor rows)

-- first it meets the caller's pass, then it makes its acts, and last it is met
pub acts_of : (n : ℕ) (k0 k1 k2 k3 : Known) (acts : List Entry) (urbs : ℕ) (x : LogRow) (rows : List LogRow) → Grown k0 k1 [] → Grown k1 k2 acts → Grown k2 k3 [] → acts ≡ map (entry_of n) (steps_at urbs x x.anchor rows) → Acts n k0 k3 urbs x rows
acts_of n k0 k1 k2 k3 acts urbs x rows a b c e = record {
  number = c.number ∙ (b.number ∙ a.number);
  mine = c.mine ∙ (append-nil k2.mine ∙ (b.mine ∙ (ap (λ zs. zs ++ acts) (a.mine ∙ append-nil k0.mine) ∙ ap (λ zs. k0.mine ++ zs) e)));
}

more_rejects : (n urbs : ℕ) (p q : Known) (rows : List LogRow) (x : LogRow) → p.mine ≡ rejects_by n urbs rows → Acts n p q urbs x rows → q.mine ≡ rejects_by n urbs (rows ++ x ∷ [])
more_rejects n urbs p q rows x was a =
    a.mine ∙ (ap (λ zs. zs ++ map (entry_of n) (steps_at urbs x x.anchor rows)) was
    ∙ sym (ap (map (entry_of n)) (steps-snoc urbs [] rows x) ∙ map-append (entry_of n) (rejects_of urbs rows) (steps_at urbs x x.anchor rows)))

module _ {H P U : Type 0} (machine : H → Machine) (is_of : H → P → Type 0) (known : P → Known) (v w : Rack H P U) (rows : List LogRow) (x : LogRow) (told : List ℕ) (s : Stands machine is_of known v rows) (log : w.core ≡ called v.core x told) (plan : w.plan ≡ v.plan)
    (host : is_of w.plan.host.value w.pass) (legal : IsLog (size_of w.core) w.core.rows w.core.victims) (can : CanCall v.core.left x.by)
    (acts : Acts (known v.plan.first.value).number (known v.pass) (known w.pass) v.plan.urbs x rows) (room : w.raised.room ≡ v.raised.room) where
  rows_are : w.core.rows ≡ rows ++ x ∷ []
  rows_are = ap (λ (k : Core). k.rows) log ∙ ap (λ rs. rs ++ x ∷ []) s.rows_are

  same_size : size_of w.core ≡ sized w.plan
  same_size = ap size_of log ∙ ((λ i. record { anchors = v.core.anchors; urbs = v.core.urbs; callers = length-set v.core.left x.by (get_or v.core.left x.by 0 - 1) i })
      ∙ (s.size ∙ ap (λ (k : Plan H P). sized k) (sym plan)))

  pub grown : Stands machine is_of known w (rows ++ x ∷ [])
  grown = record {
    rows_are = rows_are;
    legal = subst (λ (g : Size). IsLog g (rows ++ x ∷ []) w.core.victims) same_size (subst (λ (rs : List LogRow). IsLog (size_of w.core) rs w.core.victims) rows_are legal);
    size = same_size;
    left = λ i l. ap (λ (k : Core). get_or k.left i 0 + length (part by_of i (rows ++ x ∷ []))) log
        ∙ (one_less v.core.left rows x i can ∙ (s.left i (subst (λ (k : Plan H P). i < length k.calls.value.items) plan l) ∙ ap (λ (k : Plan H P). get_or k.calls.value.items i 0) (sym plan)));
    host = host;
    number = acts.number ∙ (s.number ∙ ap (λ (k : Plan H P). (known k.first.value).number) (sym plan));
    rejects = subst (λ (k : Plan H P). (known w.pass).mine ≡ rejects_by (known k.first.value).number k.urbs (rows ++ x ∷ [])) (sym plan)
        (more_rejects (known v.plan.first.value).number v.plan.urbs (known v.pass) (known w.pass) rows x s.rejects acts);
    room = subst (λ (n : ℕ). w.plan.urbs ≤ n) (sym room) (subst (λ (k : Plan H P). k.urbs ≤ v.raised.room) (sym plan) s.room);
    fits = subst (λ (k : Plan H P). Fits k.anchors k.urbs (machine k.host.value)) (sym plan) s.fits;
  }

  pub newest_is : lasts w.core.rows ≡ x ∷ []
  newest_is = last_is w.core.rows rows x rows_are

  pub grown_newest : Stands machine is_of known w (rows ++ lasts w.core.rows)
  grown_newest = subst (λ more. Stands machine is_of known w (rows ++ more)) (sym newest_is) grown

abbrev pub told_by : (g : Size) (p q r : Pass LogRow) (x : LogRow) (more : List LogRow) (victims : List UrbId) → q ≡ entered p q.seen → Begins q.seen p.seen → r ≡ left q more → more ≡ x ∷ [] → IsLog g (q.seen ++ x ∷ []) victims → Told g p r x
told_by g p q r x more victims in_is begins out_is one legal =
    let seen : r.seen ≡ q.seen ++ x ∷ [] = ap (λ (z : Pass LogRow). z.seen) out_is ∙ ap (λ ys. q.seen ++ ys) one in
    record {
      before = q.seen;
      seen = seen;
      begins = begins;
      mine = ap (λ (z : Pass LogRow). z.mine) out_is ∙ (ap (λ ys. q.mine ++ ys) one ∙ ap (λ (z : Pass LogRow). z.mine ++ x ∷ []) in_is);
      victims = victims;
      legal = subst (λ rs. IsLog g rs victims) (sym seen) legal;
    }

pub at_most_one : (n : ℕ) (more : List LogRow) (x : LogRow) → more ≡ x ∷ [] → x.by ≡ n → AtMostOne by_of n more
at_most_one n more x e b = inr (x, e, b)

-- a caller with a call left has one in the core
pub may_call : {H P U : Type 0} (machine : H → Machine) (is_of : H → P → Type 0) (known : P → Known) (id : TableId) (plan : Plan H P) (p q : Pass LogRow) (lefts n : ℕ) (v : Rack H P U) → IsCaller id plan p lefts → 0 < lefts → q ≡ entered p q.seen → part by_of q.number q.seen ≡ q.mine
    → Stands machine is_of known v q.seen → v.plan ≡ plan → n ≡ q.number → CanCall v.core.left n
may_call {H} {P} {U} machine is_of known id plan p q lefts n v caller some in_is own s key n_is =
    let number : n ≡ p.number = n_is ∙ ap (λ (z : Pass LogRow). z.number) in_is in
    let calls : length v.core.left ≡ length plan.calls.value.items = ap (λ (g : Size). g.callers) s.size ∙ ap (λ (k : Plan H P). length k.calls.value.items) key in
    let low : n < length plan.calls.value.items = subst (λ (j : ℕ). j < length plan.calls.value.items) (sym number) caller.number in
    let lower : n < length v.plan.calls.value.items = subst (λ (k : Plan H P). n < length k.calls.value.items) (sym key) low in
    let mine : part by_of n q.seen ≡ p.mine = ap (λ j. part by_of j q.seen) n_is ∙ (own ∙ ap (λ (z : Pass LogRow). z.mine) in_is) in
    let count : length (part by_of n q.seen) ≡ length p.mine = ap length mine in
    let sums : get_or v.core.left n 0 + length (part by_of n q.seen) ≡ get_or plan.calls.value.items n 0 = s.left n lower ∙ ap (λ (k : Plan H P). get_or k.calls.value.items n 0) key in
    let was : lefts + length p.mine ≡ get_or plan.calls.value.items n 0 = caller.left_is ∙ ap (λ j. get_or plan.calls.value.items j 0) (sym number) in
    let low_left : n < length v.core.left = omega arith in
    let some_left : 0 < get_or v.core.left n 0 = omega arith in
    (low_left, some_left)

-- the log of the rack is one for the plan of the turns
pub legal_by : {H P U : Type 0} (machine : H → Machine) (is_of : H → P → Type 0) (known : P → Known) (w : Rack H P U) (plan : Plan H P) (rows : List LogRow) → Stands machine is_of known w rows → w.plan ≡ plan → IsLog (sized plan) rows w.core.victims
legal_by {H} {P} {U} machine is_of known w plan rows s e = subst (λ (k : Plan H P). IsLog (sized k) rows w.core.victims) e s.legal

pub numbered : (g : Size) (p r : Pass LogRow) (x : ℕ → LogRow) (n q : ℕ) → n ≡ q → q ≡ p.number → Told g p r (x n) → Told g p r (x p.number)
numbered g p r x n q e f t = subst (λ (k : ℕ). Told g p r (x k)) (e ∙ f) t

-- the same for a row of the server, which is no caller's
module _ {H P U : Type 0} (machine : H → Machine) (is_of : H → P → Type 0) (known : P → Known) (v w : Rack H P U) (rows : List LogRow) (x : LogRow) (s : Stands machine is_of known v rows) (log : w.core ≡ given v.core x) (plan : w.plan ≡ v.plan)
    (pass : w.pass ≡ v.pass) (legal : IsLog (size_of w.core) w.core.rows w.core.victims) (server : x.by ≡ length v.plan.calls.value.items) (none : steps_at v.plan.urbs x x.anchor rows ≡ []) (room : w.raised.room ≡ v.raised.room) where
  given_rows : w.core.rows ≡ rows ++ x ∷ []
  given_rows = ap (λ (k : Core). k.rows) log ∙ ap (λ rs. rs ++ x ∷ []) s.rows_are

  given_size : size_of w.core ≡ sized w.plan
  given_size = ap size_of log ∙ (s.size ∙ ap (λ (k : Plan H P). sized k) (sym plan))

  no_part : (i : ℕ) → i < length v.plan.calls.value.items → length (part by_of i (rows ++ x ∷ [])) ≡ length (part by_of i rows)
  no_part i l = ap length (filter-append (λ (r : LogRow). eqb r.by i) rows (x ∷ []))
      ∙ (ap (λ c. length (part by_of i rows ++ cond c (x ∷ []) [])) (ne_eqb x.by i (λ e. omega arith)) ∙ ap length (append-nil (part by_of i rows)))

  pub given_grown : Stands machine is_of known w (rows ++ x ∷ [])
  given_grown = record {
    rows_are = given_rows;
    legal = subst (λ (g : Size). IsLog g (rows ++ x ∷ []) w.core.victims) given_size (subst (λ (rs : List LogRow). IsLog (size_of w.core) rs w.core.victims) given_rows legal);
    size = given_size;
    left = λ i l.
        let low : i < length v.plan.calls.value.items = subst (λ (k : Plan H P). i < length k.calls.value.items) plan l in
        ap (λ (k : Core). get_or k.left i 0 + length (part by_of i (rows ++ x ∷ []))) log
        ∙ (ap (λ n. get_or v.core.left i 0 + n) (no_part i low) ∙ (s.left i low ∙ ap (λ (k : Plan H P). get_or k.calls.value.items i 0) (sym plan)));
    host = subst (λ (k : Plan H P). is_of k.host.value w.pass) (sym plan) (subst (λ (z : P). is_of v.plan.host.value z) (sym pass) s.host);
    number = ap (λ p. (known p).number) pass ∙ (s.number ∙ ap (λ (k : Plan H P). (known k.first.value).number) (sym plan));
    rejects = subst (λ (k : Plan H P). (known w.pass).mine ≡ rejects_by (known k.first.value).number k.urbs (rows ++ x ∷ [])) (sym plan)
        (more_rejects (known v.plan.first.value).number v.plan.urbs (known v.pass) (known w.pass) rows x s.rejects
        (record { number = ap (λ p. (known p).number) pass; mine = ap (λ p. (known p).mine) pass ∙ (sym (append-nil (known v.pass).mine) ∙ ap (λ xs. (known v.pass).mine ++ map (entry_of (known v.plan.first.value).number) xs) (sym none)) }));
    room = subst (λ (n : ℕ). w.plan.urbs ≤ n) (sym room) (subst (λ (k : Plan H P). k.urbs ≤ v.raised.room) (sym plan) s.room);
    fits = subst (λ (k : Plan H P). Fits k.anchors k.urbs (machine k.host.value)) (sym plan) s.fits;
  }

  pub given_newest : lasts w.core.rows ≡ x ∷ []
  given_newest = last_is w.core.rows rows x given_rows

  pub given_grown_newest : Stands machine is_of known w (rows ++ lasts w.core.rows)
  given_grown_newest = subst (λ more. Stands machine is_of known w (rows ++ more)) (sym given_newest) given_grown

beginning : (a b : List Entry) → Beginning a b → Begins a b
beginning a b z = record { more = z.more; is = z.is }

-- what the caller's pass of the host has seen: all that the anchors' pass had seen before the last meeting
pub sees : (g : Machine) (number urbs : ℕ) (p m k2 q k3 : Known) (rows : List LogRow) → Sound g p → Sound g q → Sound g k2 → Grown p m [] → Grown m q [] → Beginning k2.seen p.seen → Beginning q.seen k2.seen → k2.number ≡ number → Grown k2 k3 [] → k3.mine ≡ rejects_by number urbs rows → Sees number p q (rejects_by number urbs rows)
sees g number urbs p m k2 q k3 rows sp sq sk a b d e num last is =
    let mine : q.mine ≡ p.mine = b.mine ∙ (append-nil m.mine ∙ (a.mine ∙ append-nil p.mine)) in
    let same : q.number ≡ p.number = b.number ∙ a.number in
    record {
      upto = k2.seen;
      within = e;
      before = d;
      own = part_between (λ (x : Entry). x.pass) p.number q.seen k2.seen p.seen p.mine (beginning q.seen k2.seen e) (beginning k2.seen p.seen d) sp.own (ap (part_of q.seen) (sym same) ∙ (sq.own ∙ mine));
      rejects = ap (part_of k2.seen) (sym num) ∙ (sk.own ∙ (sym (last.mine ∙ append-nil k2.mine) ∙ is));
      number = same;
      mine = mine;
    }

-- a row that raises and withdraws nothing
pub no_steps : (n : ℕ) (x : LogRow) (rows : List LogRow) (o : Option ℕ) → ((s : Anchor) → raised_by x s ≡ []) → ((s : Anchor) → withdrawn_by n x s ≡ []) → steps_at n x o rows ≡ []
no_steps n x rows None r w = refl
no_steps n x rows (Some a) r w = ap (λ us. map (raises a) us ++ map (withdraws a) (withdrawn_by n x (anchor_of rows a))) (r (anchor_of rows a)) ∙ ap (λ us. map (withdraws a) us) (w (anchor_of rows a))

not_both : (h : Bool) → not h && h ≡ false
not_both true = refl
not_both false = refl

add_one : (n a u : ℕ) (h p : Bool) (busy : Option ℕ) (is : Bool) → is ≡ cond (is_some busy) h (cond p true h)
    → cond (not h && is) (plain_entry n (Reject record { 0 = u }) ∷ []) [] ≡ map (entry_of n) (map (raises a) (cond (p && not (is_some busy)) (cond (not h) (u ∷ []) []) []) ++ [])
add_one n a u h true None is e = ap (λ b. cond (not h && b) (plain_entry n (Reject record { 0 = u }) ∷ []) []) e ∙ elim h as (λ b. cond (not b && true) (plain_entry n (Reject record { 0 = u }) ∷ []) [] ≡ map (entry_of n) (map (raises a) (cond (not b) (u ∷ []) []) ++ [])) [ true ↦ refl | false ↦ refl ]
add_one n a u h false None is e = ap (λ b. cond (not h && b) (plain_entry n (Reject record { 0 = u }) ∷ []) []) e ∙ ap (λ b. cond b (plain_entry n (Reject record { 0 = u }) ∷ []) []) (not_both h)
add_one n a u h true (Some c) is e = ap (λ b. cond (not h && b) (plain_entry n (Reject record { 0 = u }) ∷ []) []) e ∙ ap (λ b. cond b (plain_entry n (Reject record { 0 = u }) ∷ []) []) (not_both h)
add_one n a u h false (Some c) is e = ap (λ b. cond (not h && b) (plain_entry n (Reject record { 0 = u }) ∷ []) []) e ∙ ap (λ b. cond b (plain_entry n (Reject record { 0 = u }) ∷ []) []) (not_both h)

held_added : (s : Anchor) (u : ℕ) (busy : Option ℕ) → has (cond (is_some busy) s (added u s)).held u ≡ cond (is_some busy) (has s.held u) (cond s.poisoned true (has s.held u))
held_added s u (Some c) = refl
held_added s u None = elim s.poisoned as (λ p. has (cond p (raised s.held u) s.held) u ≡ cond p true (has s.held u)) [ true ↦ has_raised s.held u u ∙ or_right (has s.held u) (eqb u u) (eq-eqb u u refl) | false ↦ refl ]

-- what an add raises
pub add_acts : (n urbs by a from : ℕ) (u : UrbId) (busy : Option ℕ) (rows : List LogRow) (was is : Bool) → was ≡ has (anchor_of rows a).held u.0 → is ≡ has (cond (is_some busy) (anchor_of rows a) (added u.0 (anchor_of rows a))).held u.0
    → cond (not was && is) (plain_entry n (Reject u) ∷ []) [] ≡ map (entry_of n) (steps_at urbs (row by ADD (Some a) (Some u) busy from 0) (Some a) rows)
add_acts n urbs by a from u busy rows was is e f =
    ap (λ b. cond (not b && is) (plain_entry n (Reject u) ∷ []) []) e ∙ add_one n a u.0 (has (anchor_of rows a).held u.0) (anchor_of rows a).poisoned busy is (f ∙ held_added (anchor_of rows a) u.0 busy)

-- what a list of URBs raises or withdraws
pub list_raises : (n a : ℕ) (us : List ℕ) → all_rejects n us ≡ map (entry_of n) (map (raises a) us ++ [])
list_raises n a [] = refl
list_raises n a (u ∷ us) = ap (λ xs. plain_entry n (Reject record { 0 = u }) ∷ xs) (list_raises n a us)

pub list_withdraws : (n a : ℕ) (us : List ℕ) → all_withdraws n us ≡ map (entry_of n) (map (withdraws a) us)
list_withdraws n a [] = refl
list_withdraws n a (u ∷ us) = ap (λ xs. entry_of n (withdraws a u) ∷ xs) (list_withdraws n a us)

use Rattle.std.proofs.Common.{rules, ◌≡◌, ◌<◌, ◌≤◌, ℕ, ◌+◌, Bool, true, false, eqb, List, length, get_or, set, length-set, sym, refl, ap, ◌∙◌, arith, add-one, eq-eqb, ne_eqb, Option, Some, None}
use Rattle.std.proofs.lemmas.List.{get_or-set_same, get_or-set_other, get_or_default}
use Rattle.std.proofs.lemmas.Option.{slice_get-get_or}
use mathlib.Core.Logic.{dite}
use native.Mathlib.Decide.{ℕ_discrete}
use Rattle.std.specs.Prelude.{Vec}
use Rattle.std.specs.declared.alloc.Global.{Global}
use Rattle.usb_machine.specs.Laws.{total, bit}
use Rattle.usb_machine.specs.Queues.{is_at}
use Rattle.usb_machine.proofs.Totals.{total_least}
use Rattle.usb_machine.proofs.queues.rooms.Goals as goal
use Rattle.usb_machine.proofs.queues.rooms.Goals.{in-Some, in_default}

-- whether URB u has the endpoint as its home, as a count
abbrev here : List (Option ℕ) → ℕ → ℕ → ℕ
here homes e u = bit (is_at e (get_or homes u None))

bit_most : (b : Bool) → bit b ≤ 1
bit_most true = omega arith
bit_most false = omega arith

one_more : (homes : List (Option ℕ)) (e i : ℕ) → total (i + 1) (here homes e) ≡ total i (here homes e) + here homes e i
one_more homes e i = ap (λ k. total k (here homes e)) (add-one i)

counted : (homes : List (Option ℕ)) (rows : List ℕ) (i d k e : ℕ) → get_or homes i None ≡ Some d → d < length rows → k ≡ get_or rows d k
    → get_or rows e 0 ≡ total i (here homes e) → get_or (set rows d (k + 1)) e 0 ≡ total (i + 1) (here homes e)
counted homes rows i d k e home low read known = let more = one_more homes e i in let at : here homes e i ≡ bit (eqb d e) = ap (λ o. bit (is_at e o)) home in
    dite (ℕ_discrete e d)
    (λ (same : e ≡ d). let one = ap bit (eq-eqb d e (sym same)) in let was = get_or_default rows d k 0 low in let old : get_or rows e 0 ≡ get_or rows d 0 = ap (λ w. get_or rows w 0) same in
    let now : get_or (set rows d (k + 1)) e 0 ≡ k + 1 = ap (λ w. get_or (set rows d (k + 1)) w 0) same ∙ get_or-set_same rows d (k + 1) 0 low in omega arith)
    (λ off. let none = ap bit (ne_eqb d e (λ i. off (sym i))) in let now = get_or-set_other rows d e (k + 1) 0 off in omega arith)

passed : (homes : List (Option ℕ)) (i e : ℕ) → get_or homes i None ≡ None → total (i + 1) (here homes e) ≡ total i (here homes e)
passed homes i e home = let more = one_more homes e i in let none : here homes e i ≡ 0 = ap (λ o. bit (is_at e o)) home in omega arith

none_of : (o : Option ℕ) → ((d : ℕ) → o ≡ Some d → ⊥) → o ≡ None
none_of None off = refl
none_of (Some d) off = absurd (off d refl)

pub overflow_add-index_mut : goal.overflow_add-index_mut
overflow_add-index_mut c =
    let low : c.in-Some.ep < c.args.ends = search rules in
    let known = c.loop-home.invariant.rooms c.in-Some.ep low in
    let same = get_or_default c.loop-home.rooms.items c.in-Some.ep c.index_mut.result.now 0 (omega arith) in
    let most = total_least c.loop-home.home-index (here c.args.homes.now c.in-Some.ep) (λ q. bit_most (is_at c.in-Some.ep (get_or c.args.homes.now q None))) in
    let read = c.index_mut.ensures.value in omega arith

pub loop-home-preserved : goal.loop-home-preserved
loop-home-preserved c = elim c.match-home.branch [
  | in-Some w ↦
      (let low : w.in-Some.ep < c.args.ends = search rules in let rows = ap (λ (v : Vec ℕ Global). v.items) w.rooms-is in record {
        ends = ap length rows ∙ (length-set c.loop-home.rooms.items w.in-Some.ep (w.index_mut.result.now + 1) ∙ c.loop-home.invariant.ends);
        rooms = λ e l. ap (λ xs. get_or xs e 0) rows ∙ counted c.args.homes.now c.loop-home.rooms.items c.loop-home.home-index w.in-Some.ep w.index_mut.result.now e w.in-Some.is (omega arith) w.index_mut.ensures.value (c.loop-home.invariant.rooms e l);
      })
  | in_default w ↦
      (let rows = ap (λ (v : Vec ℕ Global). v.items) w.rooms-is in record {
        ends = ap length rows ∙ c.loop-home.invariant.ends;
        rooms = λ e l. ap (λ xs. get_or xs e 0) rows ∙ (c.loop-home.invariant.rooms e l ∙ sym (passed c.args.homes.now c.loop-home.home-index e (none_of _ w.in_default.not-Some)));
      })
]

pub returns-clause-rooms : goal.returns-clause-rooms
returns-clause-rooms c e l =
    let all : c.loop-home.home-index ≡ length c.args.homes.now = omega arith in
    slice_get-get_or c.loop-home.rooms.items e 0 (omega arith) ∙ ap Some (c.loop-home.invariant.rooms e l ∙ ap (λ k. total k (here c.args.homes.now e)) all)

-- What the anchors' pass of a host holds on an URB: one reject for each anchor that holds one.
use Rattle.std.proofs.Common.{◌≡◌, ⊎_elim, ℕ, zero, suc, ◌+◌, ◌<◌, ◌≤◌, Bool, true, false, not, ◌&&◌, ◌||◌, cond, eqb, List, [], ◌∷◌, filter, fold, map, reverse, sym, refl, ap, ◌∙◌, subst, arith, eq-eqb}
use Rattle.std.specs.List.{All}
use Rattle.std.proofs.lemmas.Bool.{cases_eq, cases_lt, false≢true}
use Rattle.usb_types.specs.declared.urb.UrbId.{UrbId}
use Rattle.usb_machine.specs.declared.entry.Entry.{Entry}
use Rattle.usb_machine.specs.History.{Machine}
use Rattle.usb_machine.specs.Parts.{held_of}
use Rattle.usb_machine.specs.Fresh.{Known, Sound}
use Rattle.usb_machine.specs.Laws.{rejects, withdraws, rejects_after, withdraws_after}
use Rattle.usb_machine.proofs.Held.{rejects_are_counted}
use Rattle.usb_cancel.specs.Flushing.{ids, Has, AreApart}
use Rattle.usb_cancel.specs.Reopening.{MayRejectAll, AreRejected}
use Rattle.usb_anchor.specs.declared.log.LogRow.{LogRow}
use Rattle.usb_anchor.specs.Anchor.{Anchor, has}
use Rattle.usb_anchor.specs.Apart.{Apart}
use Rattle.usb_anchor.specs.Log.{Size, IsLog, anchor_of, list_of, named}
use Rattle.usb_anchor.specs.Rejects.{Step, raises as raise, withdraws as withdraw, rejects_of, unheld, numbers_below, bit, holders, raises_all, withdraws_all}
use Rattle.usb_anchor.proofs.Lists.{apart_push}
use Rattle.usb_anchor.proofs.Summing.{all_counted, holders_room}
use Rattle.usb_anchor.proofs.ByRows.{apart_lists, all_below}
use Rattle.usb_anchor.proofs.Members.{members, has_reverse}
use Rattle.usb_anchor.proofs.Counting.{has_filter, none_above, apart_reverse}
use Rattle.usb_anchors.specs.Host.{entry_of, rejects_by}

either : (b : Bool) (k : ℕ) → cond b (k + 1) k ≡ k + bit b
either true k = refl
either false k = omega arith

raised_from : (n u k : ℕ) (xs : List Step) → fold (λ m (x : Entry). rejects_after u m x.event) k (map (entry_of n) xs) ≡ k + raises_all u xs
raised_from n u k [] = omega arith
raised_from n u k (raise a v ∷ xs) = let z = raised_from n u (cond (eqb v u) (k + 1) k) xs in let e = either (eqb v u) k in omega arith
raised_from n u k (withdraw a v ∷ xs) = raised_from n u k xs

withdrawn_from : (n u k : ℕ) (xs : List Step) → fold (λ m (x : Entry). withdraws_after u m x.event) k (map (entry_of n) xs) ≡ k + withdraws_all u xs
withdrawn_from n u k [] = omega arith
withdrawn_from n u k (raise a v ∷ xs) = withdrawn_from n u k xs
withdrawn_from n u k (withdraw a v ∷ xs) = let z = withdrawn_from n u (cond (eqb v u) (k + 1) k) xs in let e = either (eqb v u) k in omega arith

pub held_is : (g : Machine) (s : Size) (k : Known) (n : ℕ) (rows : List LogRow) (victims : List UrbId) → IsLog s rows victims → Sound g k → k.mine ≡ rejects_by n s.urbs rows → (u : ℕ) → (held_of k.mine u).rejects ≡ holders s.anchors rows u
held_is g s k n rows victims log sound mine u =
    let counted : rejects k.mine u ≡ (held_of k.mine u).rejects + withdraws k.mine u
    = subst (λ m. rejects m u ≡ (held_of m u).rejects + withdraws m u) sound.own (rejects_are_counted g k.number u k.seen sound.legal) in
    let r : rejects k.mine u ≡ 0 + raises_all u (rejects_of s.urbs rows) = ap (λ m. rejects m u) mine ∙ raised_from n u 0 (rejects_of s.urbs rows) in
    let w : withdraws k.mine u ≡ 0 + withdraws_all u (rejects_of s.urbs rows) = ap (λ m. withdraws m u) mine ∙ withdrawn_from n u 0 (rejects_of s.urbs rows) in
    let all = all_counted s rows victims log u in omega arith

holders_some : (n : ℕ) (rows : List LogRow) (a u : ℕ) → a < n → has (anchor_of rows a).held u ≡ true → 0 < holders n rows u
holders_some zero rows a u l e = absurd (omega arith)
holders_some (suc n) rows a u l e = ⊎_elim
    (λ i. let z : bit (has (anchor_of rows n).held u) ≡ 1 = ap bit (ap (λ k. has (anchor_of rows k).held u) (sym i) ∙ e) in omega arith)
    (λ ne. let z = holders_some n rows a u (omega arith) e in omega arith) (cases_eq a n)

pub may_raise : (g : Machine) (s : Size) (k : Known) (n : ℕ) (rows : List LogRow) (victims : List UrbId) → IsLog s rows victims → Sound g k → k.mine ≡ rejects_by n s.urbs rows → (a u : ℕ) → a < s.anchors → s.anchors ≤ 255 → has (anchor_of rows a).held u ≡ false → (held_of k.mine u).rejects < 255
may_raise g s k n rows victims log sound mine a u l few e =
    let h = held_is g s k n rows victims log sound mine u in let r = holders_room s.anchors rows a u l e in omega arith

pub is_raised : (g : Machine) (s : Size) (k : Known) (n : ℕ) (rows : List LogRow) (victims : List UrbId) → IsLog s rows victims → Sound g k → k.mine ≡ rejects_by n s.urbs rows → (a u : ℕ) → a < s.anchors → has (anchor_of rows a).held u ≡ true → 0 < (held_of k.mine u).rejects
is_raised g s k n rows victims log sound mine a u l e =
    let h = held_is g s k n rows victims log sound mine u in let r = holders_some s.anchors rows a u l e in omega arith

-- a list's members, as a test and as a fact
pub has_of : (us : List ℕ) (v : ℕ) → Has us v → has us v ≡ true
has_of [] v h = absurd h
has_of (u ∷ us) v h = ⊎_elim (λ e. ap (λ b. b || has us v) (eq-eqb u v e)) (λ k. ap (λ b. eqb u v || b) (has_of us v k) ∙ always (eqb u v)) h where
  always : (b : Bool) → b || true ≡ true
  always true = refl
  always false = refl

pub are_apart : (us : List ℕ) → Apart us → AreApart us
are_apart [] a = tt
are_apart (u ∷ us) a = (λ h. false≢true (sym a.0 ∙ has_of us u h), are_apart us a.1)

pub ids_named : (us : List ℕ) → ids (map named us) ≡ us
ids_named [] = refl
ids_named (u ∷ us) = ap (λ xs. u ∷ xs) (ids_named us)

no_more : (b : Bool) → b && false ≡ false
no_more true = refl
no_more false = refl

apart_filter : (p : ℕ → Bool) (us : List ℕ) → Apart us → Apart (filter p us)
apart_filter p [] a = tt
apart_filter p (v ∷ us) a = elim (p v) as (λ c. Apart (cond c (v ∷ filter p us) (filter p us)))
    [ true ↦ (has_filter p us v ∙ (ap (λ b. p v && b) a.0 ∙ no_more (p v)), apart_filter p us a.1) | false ↦ apart_filter p us a.1 ]

apart_numbers : (n : ℕ) → Apart (numbers_below n)
apart_numbers zero = tt
apart_numbers (suc n) = apart_push (numbers_below n) n (apart_numbers n) (none_above n n (omega arith))

pub both : (a b : Bool) → a && b ≡ true → (a ≡ true) × (b ≡ true)
both true true e = (refl, refl)
both true false e = absurd (false≢true e)
both false b e = absurd (false≢true e)

pub negated : (b : Bool) → not b ≡ true → b ≡ false
negated true e = absurd (false≢true e)
negated false e = refl

-- what a poison raises
pub unheld_apart : (s : Anchor) → Apart s.list → Apart (unheld s (reverse s.list))
unheld_apart s a = apart_filter (λ v. not (has s.held v)) (reverse s.list) (apart_reverse s.list a)

pub unheld_is : (s : Anchor) (us : List ℕ) (v : ℕ) → has (unheld s us) v ≡ true → (has s.held v ≡ false) × (has us v ≡ true)
unheld_is s us v h = let t = both (not (has s.held v)) (has us v) (sym (has_filter (λ w. not (has s.held w)) us v) ∙ h) in (negated (has s.held v) t.0, t.1)

-- what an unpoison withdraws
pub held_apart : (s : Anchor) (n : ℕ) → Apart (filter (has s.held) (numbers_below n))
held_apart s n = apart_filter (has s.held) (numbers_below n) (apart_numbers n)

pub held_in : (s : Anchor) (n v : ℕ) → has (filter (has s.held) (numbers_below n)) v ≡ true → (has s.held v ≡ true) × (v < n)
held_in s n v h =
    let t = both (has s.held v) (has (numbers_below n) v) (sym (has_filter (has s.held) (numbers_below n) v) ∙ h) in
    (t.0, ⊎_elim (λ l. l) (λ l. absurd (false≢true (sym (none_above n v l) ∙ t.1))) (cases_lt v n))

in_list : (list : List UrbId) (us : List ℕ) (v : ℕ) → list ≡ map named us → Has (ids list) v → has us v ≡ true
in_list list us v e h = has_of us v (subst (λ l. Has l v) (ap ids e ∙ ids_named us) h)

list_apart : (list : List UrbId) (us : List ℕ) → list ≡ map named us → Apart us → AreApart (ids list)
list_apart list us e a = subst AreApart (sym (ap ids e ∙ ids_named us)) (are_apart us a)

pub list_urbs : (list : List UrbId) (us : List ℕ) (n m : ℕ) → list ≡ map named us → n ≤ m → ((v : ℕ) → has us v ≡ true → v < n) → All (λ (u : UrbId). u.0 < m) list
list_urbs list us n m e l f = subst (All (λ (u : UrbId). u.0 < m)) (sym e) (members us m (λ v h. let k = f v h in omega arith))

-- what a poison asks of the host
module _ (s : Size) (rows : List LogRow) (victims : List UrbId) (log : IsLog s rows victims) (a : ℕ) (list : List UrbId) (told : list ≡ map named (unheld (anchor_of rows a) (reverse (list_of rows a)))) where
  pub raise_urbs : (homes : ℕ) → s.urbs ≤ homes → All (λ (u : UrbId). u.0 < homes) list
  raise_urbs homes l = list_urbs list (unheld (anchor_of rows a) (reverse (list_of rows a))) s.urbs homes told l
      (λ v h. (all_below s rows victims log a).listed v (has_reverse (list_of rows a) v (unheld_is (anchor_of rows a) (reverse (list_of rows a)) v h).1))

  pub raise_apart : AreApart (ids list)
  raise_apart = list_apart list (unheld (anchor_of rows a) (reverse (list_of rows a))) told (unheld_apart (anchor_of rows a) (apart_lists s rows victims log a))

pub raise_room : (g : Machine) (s : Size) (k : Known) (n : ℕ) (rows : List LogRow) (victims : List UrbId) → IsLog s rows victims → Sound g k → k.mine ≡ rejects_by n s.urbs rows → (a : ℕ) → a < s.anchors → s.anchors ≤ 255
    → (list : List UrbId) → list ≡ map named (unheld (anchor_of rows a) (reverse (list_of rows a))) → MayRejectAll k.mine (ids list)
raise_room g s k n rows victims log sound mine a low few list told v h =
    may_raise g s k n rows victims log sound mine a v low few (unheld_is (anchor_of rows a) (reverse (list_of rows a)) v (in_list list (unheld (anchor_of rows a) (reverse (list_of rows a))) v told h)).0

-- what an unpoison asks of the host
module _ (s : Size) (rows : List LogRow) (a : ℕ) (list : List UrbId) (told : list ≡ map named (filter (has (anchor_of rows a).held) (numbers_below s.urbs))) where
  pub withdraw_urbs : (homes : ℕ) → s.urbs ≤ homes → All (λ (u : UrbId). u.0 < homes) list
  withdraw_urbs homes l = list_urbs list (filter (has (anchor_of rows a).held) (numbers_below s.urbs)) s.urbs homes told l (λ v h. (held_in (anchor_of rows a) s.urbs v h).1)

  pub withdraw_apart : AreApart (ids list)
  withdraw_apart = list_apart list (filter (has (anchor_of rows a).held) (numbers_below s.urbs)) told (held_apart (anchor_of rows a) s.urbs)

pub withdraw_some : (g : Machine) (s : Size) (k : Known) (n : ℕ) (rows : List LogRow) (victims : List UrbId) → IsLog s rows victims → Sound g k → k.mine ≡ rejects_by n s.urbs rows → (a : ℕ) → a < s.anchors
    → (list : List UrbId) → list ≡ map named (filter (has (anchor_of rows a).held) (numbers_below s.urbs)) → AreRejected k.mine (ids list)
withdraw_some g s k n rows victims log sound mine a low list told v h =
    is_raised g s k n rows victims log sound mine a v low (held_in (anchor_of rows a) s.urbs v (in_list list (filter (has (anchor_of rows a).held) (numbers_below s.urbs)) v told h)).0

-- A pass keeps an URB exactly where it holds the URB since before a Quiet of it, all the time.
use Rattle.std.proofs.Common.{◌≡◌, ◌⊎◌, inl, inr, ⊎_elim, ℕ, Bool, true, false, ◌&&◌, cond, List, [], ◌∷◌, ◌++◌, sym, refl, ap, ◌∙◌, subst, eqb-true, eq-eqb, true≢false, append_assoc, append-nil, ◌↔◌}
use Rattle.usb_types.specs.declared.urb.UrbId.{UrbId}
use Rattle.usb_machine.specs.declared.event.Event.{Event}
use Rattle.usb_machine.specs.declared.event.Event.TheVariants.{Withdraw, Quiet, Unflag}
use Rattle.usb_machine.specs.declared.entry.Entry.{Entry}
use Rattle.usb_machine.specs.History.{is_of}
use Rattle.usb_machine.specs.Parts.{holds_any, Held, held_of, held_after, keeps}
use Rattle.usb_machine.specs.Laws.{IsHeldThrough, IsHeldSinceQuiet}
use Rattle.usb_machine.proofs.Steps.{held_of-snoc, held_at}
use Rattle.usb_machine.proofs.Kept.{kept_holds, kept_before}
use Rattle.usb_machine.proofs.Prefixes.{same_ends}
use Rattle.usb_machine.proofs.Ends.{by_end}

module _ (u : ℕ) where
  through_more : (a xs : List Entry) (x : Entry) → IsHeldThrough u a xs → holds_any (held_of ((a ++ xs) ++ x ∷ []) u) ≡ true → IsHeldThrough u a (xs ++ x ∷ [])
  through_more a [] x old now = (old, subst (λ l. holds_any (held_of (l ++ x ∷ []) u) ≡ true) (append-nil a) now)
  through_more a (y ∷ xs) x old now = (old.0, through_more (a ++ y ∷ []) xs x old.1 (subst (λ l. holds_any (held_of (l ++ x ∷ []) u) ≡ true) (sym (append_assoc a (y ∷ []) xs)) now))

  through_end : (a xs : List Entry) → IsHeldThrough u a xs → holds_any (held_of (a ++ xs) u) ≡ true
  through_end a [] h = subst (λ l. holds_any (held_of l u) ≡ true) (sym (append-nil a)) h
  through_end a (x ∷ xs) h = subst (λ l. holds_any (held_of l u) ≡ true) (append_assoc a (x ∷ []) xs) (through_end (a ++ x ∷ []) xs h.1)

  through_less : (a xs : List Entry) (x : Entry) → IsHeldThrough u a (xs ++ x ∷ []) → IsHeldThrough u a xs
  through_less a [] x h = h.0
  through_less a (y ∷ xs) x h = (h.0, through_less (a ++ y ∷ []) xs x h.1)

  goes_on : (m : List Entry) (x : Entry) → IsHeldSinceQuiet m u → holds_any (held_of (m ++ x ∷ []) u) ≡ true → IsHeldSinceQuiet (m ++ x ∷ []) u
  goes_on m x o now = record {
    before = o.before;
    quiet = o.quiet;
    behind = o.behind ++ x ∷ [];
    parts = ap (λ xs. xs ++ x ∷ []) o.parts ∙ append_assoc o.before (o.quiet ∷ o.behind) (x ∷ []);
    sees = o.sees;
    held = through_more o.before (o.quiet ∷ o.behind) x o.held (subst (λ l. holds_any (held_of (l ++ x ∷ []) u) ≡ true) o.parts now);
  }

  forward : (m : List Entry) (x : Entry) → (keeps m u ≡ true → IsHeldSinceQuiet m u) → keeps (m ++ x ∷ []) u ≡ true → IsHeldSinceQuiet (m ++ x ∷ []) u
  forward m x old k = go (is_of u x.event) refl (sym (ap (λ (d : Held). d.kept) (held_of-snoc m x u)) ∙ k)
    where
      now : holds_any (held_of (m ++ x ∷ []) u) ≡ true
      now = kept_holds (m ++ x ∷ []) u k

      begin : (v : UrbId) → x.event ≡ Quiet v → is_of u x.event ≡ true → (held_after (held_of m u) x.event).kept ≡ true → IsHeldSinceQuiet (m ++ x ∷ []) u
      begin v e is kept = record {
        before = m;
        quiet = x;
        behind = [];
        parts = refl;
        sees = e ∙ ap (λ w. Quiet record { 0 = w }) (eqb-true v.0 u (ap (is_of u) (sym e) ∙ is));
        held = (subst (λ d. (held_after (held_of m u) d).kept ≡ true) e kept, now);
      }

      go : (b : Bool) → is_of u x.event ≡ b → (cond b (held_after (held_of m u) x.event) (held_of m u)).kept ≡ true → IsHeldSinceQuiet (m ++ x ∷ []) u
      go false is kept = goes_on m x (old kept) now
      go true is kept = ⊎_elim (λ was. goes_on m x (old was) now) (λ (q : (v : UrbId) × (x.event ≡ Quiet v)). begin q.0 q.1 is kept) (kept_before (held_of m u) x.event kept)

  still_kept : (d : Held) (e : Event) → d.kept ≡ true → holds_any d ≡ true → holds_any (held_after d e) ≡ true → (held_after d e).kept ≡ true
  still_kept d (Withdraw v) k was now = ap (λ b. b && holds_any (held_after d (Withdraw v))) k ∙ now
  still_kept d (Unflag v f) k was now = ap (λ b. b && holds_any (held_after d (Unflag v f))) k ∙ now
  still_kept d (Quiet v) k was now = was
  still_kept d _ k was now = k

  last : (xs : List Entry) → (xs ≡ []) ⊎ ((ys : List Entry) × (y : Entry) × (xs ≡ ys ++ y ∷ []))
  last [] = inl refl
  last (x ∷ xs) = ⊎_elim (λ e. inr ([], x, ap (λ l. x ∷ l) e)) (λ (q : (ys : List Entry) × (y : Entry) × (xs ≡ ys ++ y ∷ [])). inr (x ∷ q.0, q.1, ap (λ l. x ∷ l) q.2)) (last xs)

  backward : (m : List Entry) (x : Entry) → (IsHeldSinceQuiet m u → keeps m u ≡ true) → IsHeldSinceQuiet (m ++ x ∷ []) u → keeps (m ++ x ∷ []) u ≡ true
  backward m x old o = ap (λ (d : Held). d.kept) (held_of-snoc m x u) ∙ ⊎_elim at_quiet later (last o.behind)
    where
      at_quiet : o.behind ≡ [] → (held_at u (held_of m u) x).kept ≡ true
      at_quiet e =
          let s = same_ends m o.before x o.quiet (o.parts ∙ ap (λ l. o.before ++ o.quiet ∷ l) e) in
          let is : x.event ≡ Quiet record { 0 = u } = ap (λ (y : Entry). y.event) s.1 ∙ o.sees in
          ap (λ d. (cond (is_of u d) (held_after (held_of m u) d) (held_of m u)).kept) is ∙ (ap (λ b. (cond b (held_after (held_of m u) (Quiet record { 0 = u })) (held_of m u)).kept) (eq-eqb u u refl) ∙ (ap (λ l. holds_any (held_of l u)) s.0 ∙ o.held.0))

      later : ((ys : List Entry) × (y : Entry) × (o.behind ≡ ys ++ y ∷ [])) → (held_at u (held_of m u) x).kept ≡ true
      later q =
          let whole : m ++ x ∷ [] ≡ (o.before ++ o.quiet ∷ q.0) ++ q.1 ∷ [] = o.parts ∙ (ap (λ l. o.before ++ o.quiet ∷ l) q.2 ∙ sym (append_assoc o.before (o.quiet ∷ q.0) (q.1 ∷ []))) in
          let s = same_ends m (o.before ++ o.quiet ∷ q.0) x q.1 whole in
          let through = subst (λ l. IsHeldThrough u o.before (o.quiet ∷ l)) q.2 o.held in
          let less = through_less o.before (o.quiet ∷ q.0) q.1 through in
          let kept = old (record { before = o.before; quiet = o.quiet; behind = q.0; parts = s.0; sees = o.sees; held = less }) in
          let was : holds_any (held_of m u) ≡ true = ap (λ l. holds_any (held_of l u)) s.0 ∙ through_end o.before (o.quiet ∷ q.0) less in
          let now : holds_any (held_of (m ++ x ∷ []) u) ≡ true = ap (λ l. holds_any (held_of l u)) o.parts ∙ through_end o.before (o.quiet ∷ o.behind) o.held in
          go (is_of u x.event) kept was (sym (ap holds_any (held_of-snoc m x u)) ∙ now)
        where
          go : (b : Bool) → (held_of m u).kept ≡ true → holds_any (held_of m u) ≡ true → holds_any (cond b (held_after (held_of m u) x.event) (held_of m u)) ≡ true → (cond b (held_after (held_of m u) x.event) (held_of m u)).kept ≡ true
          go true k was now = still_kept (held_of m u) x.event k was now
          go false k was now = k

  none : IsHeldSinceQuiet [] u → ⊥
  none o = go o.before o.parts
    where
      go : (before : List Entry) → [] ≡ before ++ o.quiet ∷ o.behind → ⊥
      go [] e = absurd (cc (e))
      go (x ∷ before) e = absurd (cc (e))

  both : (m : List Entry) → (keeps m u ≡ true → IsHeldSinceQuiet m u) × (IsHeldSinceQuiet m u → keeps m u ≡ true)
  both = by_end (λ m. (keeps m u ≡ true → IsHeldSinceQuiet m u) × (IsHeldSinceQuiet m u → keeps m u ≡ true))
      ((λ k. absurd (true≢false (sym k)), λ o. absurd (none o)))
      (λ m x old. (forward m x old.0, backward m x old.1))

pub keeps_since_quiet : (m : List Entry) (u : ℕ) → (keeps m u ≡ true) ↔ IsHeldSinceQuiet m u
keeps_since_quiet m u = ((both u m).0, (both u m).1)

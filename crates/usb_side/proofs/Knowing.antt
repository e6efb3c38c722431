-- What a server's pass knows before a call and after it.
use Rattle.std.proofs.Common.{◌≡◌, ◌≢◌, ℕ, ◌<◌, Bool, true, false, List, [], ◌∷◌, ◌++◌, length, ⊎_elim, sym, refl, ap, ◌∙◌, subst, arith, true≢false, length-append, append-nil, fold}
use Rattle.std.specs.Prelude.{Contains}
use Rattle.std.proofs.lemmas.List.{append_cancel_right}
use Rattle.std.proofs.lemmas.List.Sums.{fold-append}
use mathlib.Core.List.{IsPrefix}
use Rattle.usb_machine.specs.declared.entry.TheConstants.{SERVER}
use Rattle.usb_machine.specs.declared.entry.Entry.{Entry}
use Rattle.usb_machine.specs.State.{is_clear}
use Rattle.usb_machine.specs.History.{Machine, home_of, state_of, pending_of, sent_of}
use Rattle.usb_machine.specs.Parts.{part_of}
use Rattle.usb_machine.specs.Legal.{IsLegal, Follows, IsFirst, times}
use Rattle.usb_machine.proofs.Rooms.{pending_is_queued, home_below, queued_has_home}
use Rattle.usb_machine.proofs.Steps.{part_own}
use Rattle.usb_machine.proofs.Prefixes.{follows_before, legal_before}
use Rattle.usb_machine.proofs.Server.{prefix_last, pending_own, mark_stands}
use Rattle.usb_machine.specs.Fresh.{Known, Sound, Fresh, Looked}
use Rattle.usb_machine.specs.HostCalls.{IsUrb}
use Rattle.usb_machine.specs.Tokens.{is_finished}
use Rattle.usb_machine.specs.Tokens as tokens
use Rattle.usb_serve.specs.Knows.{Keeps, FinishesNone, FinishesOnly}
use Rattle.usb_machine.proofs.AtHome.{times_contains, at_home}
use Rattle.usb_side.specs.Side.{side_knows}
use Rattle.usb_machine.proofs.Staying.{open_stays}
use Rattle.usb_machine.proofs.SentStands.{sent_later}

-- a legal history that begins with what the server's pass has seen, and has the pass's entries as the server's part
pub record IsLater (g : Machine) (p : Known) (h : List Entry) : Type 0 where
  pub legal : IsLegal g h
  pub begins : IsPrefix p.seen h
  pub own : part_of h 0 ≡ p.mine

last_is : (x last : Entry) (others : List Entry) → x ∷ [] ≡ others ++ last ∷ [] → x ≡ last
last_is x last others e = ap (fold (λ (_ y : Entry). y) x) e ∙ fold-append (λ (_ y : Entry). y) x others (last ∷ [])

-- what a call with one entry has seen: that entry, behind a later history
pub record Behind (g : Machine) (p q : Known) (x : Entry) : Type 0 where
  pub before : List Entry
  pub later : IsLater g p before
  pub seen : q.seen ≡ before ++ x ∷ []
  pub follows : Follows g before x
  pub mine : q.mine ≡ p.mine ++ x ∷ []

pub behind : (g : Machine) (p q : Known) (x : Entry) → p.number ≡ SERVER → part_of p.seen p.number ≡ p.mine → x.pass ≡ p.number → Fresh g p q (x ∷ []) → Behind g p q x
behind g p q x server old by f =
    let before : List Entry = f.ends.before in
    let seen : q.seen ≡ before ++ x ∷ [] = f.ends.ends ∙ ap (λ y. before ++ y ∷ []) (sym (last_is x f.ends.last f.ends.others f.ends.entries)) in
    let legal : IsLegal g (before ++ x ∷ []) = subst (IsLegal g) seen f.sound.legal in
    let all : part_of (before ++ x ∷ []) p.number ≡ p.mine ++ x ∷ [] = ap (part_of (before ++ x ∷ [])) (sym f.grown.number) ∙ (ap (λ h. part_of h q.number) (sym seen) ∙ (f.sound.own ∙ f.grown.mine)) in
    let mine : part_of before p.number ≡ p.mine = append_cancel_right (part_of before p.number) p.mine (x ∷ []) (subst (λ n. part_of before n ++ x ∷ [] ≡ part_of (before ++ x ∷ []) n) by (sym (part_own before x)) ∙ all) in
    let prefix : IsPrefix p.seen before = ⊎_elim
    (λ e. let bad : p.mine ≡ p.mine ++ x ∷ [] = sym old ∙ (ap (λ h. part_of h p.number) e ∙ all) in absurd (omega (arith, ap length bad, length-append p.mine (x ∷ []))))
    (λ r. r)
    (prefix_last p.seen before x (f.grown.begins.more, sym f.grown.begins.is ∙ seen)) in
    record {
      before = before;
      later = record { legal = legal_before g before x [] legal; begins = prefix; own = subst (λ n. part_of before n ≡ p.mine) server mine };
      seen = seen;
      follows = follows_before g before x [] legal;
      mine = f.grown.mine;
    }

-- what a look has seen is itself later
pub looked_later : (g : Machine) (p q : Known) → p.number ≡ SERVER → Looked g p q → IsLater g p q.seen
looked_later g p q server l = record {
  legal = l.sound.legal;
  begins = (l.grown.begins.more, sym l.grown.begins.is);
  own = subst (λ n. part_of q.seen n ≡ p.mine) (l.grown.number ∙ server) (l.sound.own ∙ (l.grown.mine ∙ append-nil p.mine));
}

module _ (g : Machine) (p : Known) (server : p.number ≡ SERVER) (sound : Sound g p) where
  own : part_of p.seen 0 ≡ p.mine
  own = subst (λ n. part_of p.seen n ≡ p.mine) server sound.own

  pub seen_pending : (e : ℕ) → pending_of g p.seen e ≡ pending_of g p.mine e
  seen_pending e = pending_own g e p.seen sound.legal ∙ ap (λ m. pending_of g m e) own

  pub among : (e v : ℕ) → Contains (pending_of g p.mine e) v → 0 < times v (pending_of g p.seen e)
  among e v c = subst (λ us. 0 < times v us) (sym (seen_pending e)) (times_contains (pending_of g p.mine e) v c)

  pub home : (e v : ℕ) → Contains (pending_of g p.mine e) v → e ≡ home_of g v
  home e v c = at_home g p.seen e v sound.legal (among e v c)

  pub queued : (e v : ℕ) → Contains (pending_of g p.mine e) v → (state_of p.seen v).queued ≡ true
  queued e v c = pending_is_queued g p.seen v sound.legal (subst (λ d. 0 < times v (pending_of g p.seen d)) (home e v c) (among e v c))

  -- what a call asks of an URB that is pending somewhere
  pub is_urb : (v : ℕ) → ((e : ℕ) × Contains (pending_of g p.mine e) v) → IsUrb g v
  is_urb v c = home_below g v (queued_has_home g v p.seen sound.legal (queued c.0 v c.1))

  pub is_pending : (v : ℕ) → ((e : ℕ) × Contains (pending_of g p.mine e) v) → tokens.IsPending g p v
  is_pending v c = subst (λ d. 0 < times v (pending_of g p.mine d)) (home c.0 v c.1) (times_contains (pending_of g p.mine c.0) v c.1)

  first_in : (u : ℕ) (others us : List ℕ) → us ≡ u ∷ others → Contains us u
  first_in u others us is = subst (λ (l : List ℕ). Contains l u) (sym is) (0, omega arith, refl)

  pub first_there : (u : ℕ) → ((e : ℕ) × (others : List ℕ) × (pending_of g p.mine e ≡ u ∷ others)) → (e : ℕ) × Contains (pending_of g p.mine e) u
  first_there u f = (f.0, first_in u f.1 (pending_of g p.mine f.0) f.2)

  pub is_first : (u : ℕ) → ((e : ℕ) × (others : List ℕ) × (pending_of g p.mine e ≡ u ∷ others)) → IsFirst u (pending_of g p.mine (home_of g u))
  is_first u f = subst (λ d. IsFirst u (pending_of g p.mine d)) (home f.0 u (first_in u f.1 (pending_of g p.mine f.0) f.2)) (subst (IsFirst u) (sym f.2) refl)

  module _ (h : List Entry) (later : IsLater g p h) where
    pub later_pending : (e : ℕ) → pending_of g h e ≡ pending_of g p.mine e
    later_pending e = pending_own g e h later.legal ∙ ap (λ m. pending_of g m e) later.own

    pub later_marked : (v : ℕ) → is_clear (state_of p.seen v).mark ≡ false → is_clear (state_of h v).mark ≡ false
    later_marked v = mark_stands g v p.seen h later.legal later.begins (own ∙ sym later.own)

    pub later_finished : (v : ℕ) → is_finished (state_of h v).mark ≡ true → is_finished (state_of p.seen v).mark ≡ true
    later_finished v after = go (is_finished (state_of p.seen v).mark) refl
      where
        go : (b : Bool) → is_finished (state_of p.seen v).mark ≡ b → b ≡ true
        go true is = refl
        go false is = absurd (true≢false (sym after ∙ open_stays g v p.seen h later.legal later.begins (own ∙ sym later.own) is))

    pub later_sent : (e v : ℕ) → Contains (pending_of g p.mine e) v → sent_of h v ≡ sent_of p.seen v
    later_sent e v c = sent_later g v p.seen h later.legal later.begins (own ∙ sym later.own) (queued e v c)

    -- what stays from p to q, by what stays from h to q
    module _ (q : Known) (m n : ℕ) (P Q : Type 0) (X Y : ℕ → Type 0) where
      pub keeps : ((e v : ℕ) → Contains (pending_of g p.mine e) v → Contains (pending_of g q.mine e) v → (sent_of q.seen v ≡ sent_of h v) × (is_clear (state_of h v).mark ≡ false → is_clear (state_of q.seen v).mark ≡ false))
          → Keeps (side_knows g p m P X) (side_knows g q n Q Y)
      keeps stay = record {
        layout = refl;
        sent = λ e v t a b is. (stay e v a b).0 ∙ (later_sent e v a ∙ is);
        marks = λ e v a b is. (stay e v a b).1 (later_marked v is);
      }

      pub none : ((e v : ℕ) → Contains (pending_of g p.mine e) v → Contains (pending_of g q.mine e) v → is_finished (state_of q.seen v).mark ≡ true → is_finished (state_of h v).mark ≡ true) → FinishesNone (side_knows g p m P X) (side_knows g q n Q Y)
      none stay = record { none = λ e v a b is. later_finished v (stay e v a b is) }

      pub only : (u : ℕ) → ((v : ℕ) → v ≢ u → is_finished (state_of q.seen v).mark ≡ true → is_finished (state_of h v).mark ≡ true) → FinishesOnly u (side_knows g p m P X) (side_knows g q n Q Y)
      only u stay = record { none_else = λ e v off a b is. later_finished v (stay v off is) }

-- How far the stops of some URBs are.
use Rattle.std.proofs.Common.{◌≡◌, ℕ, Bool, true, false, cond, eqb, List, [], ◌∷◌, ◌++◌, length, sym, refl, ap, ◌∙◌, subst, append_assoc, append-nil, arith}
use Rattle.std.proofs.lemmas.List.{length_push}
use Rattle.std.proofs.lemmas.List.Sums.{fold-append}
use Rattle.usb_types.specs.declared.errno.Code.{Code}
use Rattle.usb_types.specs.declared.urb.Why.TheVariants.{Kill}
use Rattle.usb_machine.specs.declared.event.Event.TheVariants.{Reject, Withdraw, Quiet, Mark}
use Rattle.usb_machine.specs.declared.entry.Entry.{Entry}
use Rattle.usb_machine.specs.declared.pass_row.Held.{Held}
use Rattle.usb_machine.specs.History.{is_of}
use Rattle.usb_machine.specs.Parts.{held_of, held_after, nothing_held}
use Rattle.usb_machine.specs.Fresh.{Known, Grown}
use Rattle.usb_machine.proofs.Growing.{grown_none, grown_more}
use Rattle.usb_cancel.specs.Stops.{stop_entries}
use Rattle.usb_anchors.specs.Stopped.{stops_of, Stopped}

-- the rest are still to be stopped
pub record Stopping (p q : Known) (all rest : List ℕ) : Type 0 where
  pub done : List ℕ
  pub answers : List Code
  pub each : length answers ≡ length done
  pub grown : Grown p q (stops_of p.number done answers)
  pub parts : done ++ rest ≡ all
  pub same : (v : ℕ) → (held_of q.mine v).rejects ≡ (held_of p.mine v).rejects

stops-snoc : (n : ℕ) (us : List ℕ) (bs : List Code) (u : ℕ) (a : Code) → length bs ≡ length us → stops_of n (us ++ u ∷ []) (bs ++ a ∷ []) ≡ stops_of n us bs ++ stop_entries n u a
stops-snoc n [] [] u a e = refl
stops-snoc n [] (b ∷ bs) u a e = absurd (omega arith)
stops-snoc n (v ∷ us) [] u a e = absurd (omega arith)
stops-snoc n (v ∷ us) (b ∷ bs) u a e = ap (λ xs. stop_entries n v b ++ xs) (stops-snoc n us bs u a (omega arith)) ∙ sym (append_assoc (stop_entries n v b) (stops_of n us bs) (stop_entries n u a))

-- a stop leaves what is held
stop_keeps : (m : List Entry) (n u v : ℕ) (a : Code) → (held_of (m ++ stop_entries n u a) v).rejects ≡ (held_of m v).rejects
stop_keeps m n u v a = ap (λ (d : Held). d.rejects) (fold-append (λ d (x : Entry). cond (is_of v x.event) (held_after d x.event) d) nothing_held m (stop_entries n u a)) ∙ go (eqb u v) (held_of m v)
  where
    one : Bool → Held → Held
    one b d = cond b (held_after d (Reject record { 0 = u })) d

    two : Bool → Held → Held
    two b d = cond b (held_after d (Mark record { 0 = u } Kill)) d

    three : Bool → Held → Held
    three b d = cond b (held_after d (Quiet record { 0 = u })) d

    four : Bool → Held → Held
    four b d = cond b (held_after d (Withdraw record { 0 = u })) d

    go : (b : Bool) (d : Held) → (four b (three b (two b (one b d)))).rejects ≡ d.rejects
    go true d = omega arith
    go false d = refl

pub stop_start : (p : Known) (all : List ℕ) → Stopping p p all all
stop_start p all = record { done = []; answers = []; each = refl; grown = grown_none p; parts = refl; same = λ v. refl }

pub stop_next : (p q r : Known) (all rest : List ℕ) (u : ℕ) (a : Code) → Stopping p q all (u ∷ rest) → Grown q r (stop_entries q.number u a) → Stopping p r all rest
stop_next p q r all rest u a l step =
    let own : Grown q r (stop_entries p.number u a) = subst (λ n. Grown q r (stop_entries n u a)) l.grown.number step in
    record {
      done = l.done ++ u ∷ [];
      answers = l.answers ++ a ∷ [];
      each = let x = length_push l.answers a in let y = length_push l.done u in let e = l.each in omega arith;
      grown = subst (Grown p r) (sym (stops-snoc p.number l.done l.answers u a l.each)) (grown_more p q r (stops_of p.number l.done l.answers) (stop_entries p.number u a) l.grown own);
      parts = append_assoc l.done (u ∷ []) rest ∙ l.parts;
      same = λ v. ap (λ m. (held_of m v).rejects) own.mine ∙ (stop_keeps q.mine p.number u v a ∙ l.same v);
    }

pub stop_end : (p q : Known) (all : List ℕ) → Stopping p q all [] → Stopped p q all
stop_end p q all l =
    let is : l.done ≡ all = sym (append-nil l.done) ∙ l.parts in
    record { answers = l.answers; each = l.each ∙ ap length is; grown = subst (λ us. Grown p q (stops_of p.number us l.answers)) is l.grown }

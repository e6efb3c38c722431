-- What a pass holds after more entries.
use Rattle.std.proofs.Common.{ℕ, zero, suc, ◌≡◌, ◌+◌, ◌-◌, ◌<◌, Bool, true, false, not, ◌||◌, cond, eqb, fold, Option, List, [], ◌∷◌, ◌++◌, map, refl, sym, ap, ◌∙◌, arith, append_assoc, eq-eqb, ne_eqb}
use Rattle.std.proofs.lemmas.List.Sums.{fold-append}
use Rattle.std.proofs.lemmas.List.{map-append}
use mathlib.Core.Logic.{dite}
use native.Mathlib.Decide.{ℕ_discrete}
use Rattle.usb_types.specs.declared.errno.Code.{Code}
use Rattle.usb_types.specs.declared.urb.Why.{Why}
use Rattle.usb_types.specs.declared.urb.Flag.TheVariants.{Down}
use Rattle.usb_machine.specs.declared.event.Event.{Event}
use Rattle.usb_machine.specs.declared.event.Event.TheVariants.{Reject, Withdraw, Quiet, Flag, Unflag}
use Rattle.usb_machine.specs.declared.entry.Entry.{Entry}
use Rattle.usb_machine.specs.History.{is_of}
use Rattle.usb_machine.specs.Parts.{nothing_held, held_of, held_after, holds_any, keeps}
use Rattle.usb_machine.specs.declared.pass_row.Held.{Held}
use Rattle.usb_machine.specs.Calls.{plain_entry, marks_of, claims_of}
use Rattle.usb_machine.proofs.Steps.{held_of-snoc}
use Rattle.usb_machine.proofs.Held.{SetsNoFlag, held_flags_stay}
use Rattle.usb_prepare.specs.Below.{below}
use Rattle.usb_trace.proofs.Entries.{AreOf}

abbrev pub held_step : ℕ → Held → Entry → Held
held_step v d x = cond (is_of v x.event) (held_after d x.event) d

pub held-append : (m xs : List Entry) (v : ℕ) → held_of (m ++ xs) v ≡ fold (held_step v) (held_of m v) xs
held-append m xs v = fold-append (held_step v) nothing_held m xs

-- the event raises and withdraws no reject
abbrev pub IsNoReject : Event → Type 0
IsNoReject (Reject u) = ⊥
IsNoReject (Withdraw u) = ⊥
IsNoReject _ = Unit {0}

abbrev pub AreNoReject : List Entry → Type 0
AreNoReject [] = Unit {0}
AreNoReject (x ∷ xs) = IsNoReject x.event × AreNoReject xs

-- the events set and unset no flag
abbrev pub AreNoFlag : List Entry → Type 0
AreNoFlag [] = Unit {0}
AreNoFlag (x ∷ xs) = SetsNoFlag x.event × AreNoFlag xs

pub AreNoReject-append : (xs ys : List Entry) → AreNoReject xs → AreNoReject ys → AreNoReject (xs ++ ys)
AreNoReject-append [] ys a b = b
AreNoReject-append (x ∷ xs) ys a b = (a.0, AreNoReject-append xs ys a.1 b)

pub AreNoFlag-append : (xs ys : List Entry) → AreNoFlag xs → AreNoFlag ys → AreNoFlag (xs ++ ys)
AreNoFlag-append [] ys a b = b
AreNoFlag-append (x ∷ xs) ys a b = (a.0, AreNoFlag-append xs ys a.1 b)

rejects_stay : (d : Held) (e : Event) → IsNoReject e → (held_after d e).rejects ≡ d.rejects
rejects_stay d (Reject u) is = absurd is
rejects_stay d (Withdraw u) is = absurd is
rejects_stay d _ is = refl

same_rejects : (b : Bool) (d k : Held) → k.rejects ≡ d.rejects → (cond b k d).rejects ≡ d.rejects
same_rejects true d k e = e
same_rejects false d k e = refl

same_flags : (b : Bool) (d k : Held) → k.flags ≡ d.flags → (cond b k d).flags ≡ d.flags
same_flags true d k e = e
same_flags false d k e = refl

module _ (v : ℕ) where
  -- the rejects that a pass with these entries holds on URB v, and whether it holds the host down there
  abbrev pub rejects_at : List Entry → ℕ
  rejects_at m = (held_of m v).rejects

  abbrev pub down_at : List Entry → Bool
  down_at m = (held_of m v).flags.down

  pub no_reject : (m xs : List Entry) → AreNoReject xs → rejects_at (m ++ xs) ≡ rejects_at m
  no_reject m xs is = ap (λ (d : Held). d.rejects) (held-append m xs v) ∙ go xs is (held_of m v)
    where
      go : (xs : List Entry) → AreNoReject xs → (d : Held) → (fold (held_step v) d xs).rejects ≡ d.rejects
      go [] is d = refl
      go (x ∷ xs) is d = go xs is.1 (held_step v d x) ∙ same_rejects (is_of v x.event) d (held_after d x.event) (rejects_stay d x.event is.0)

  pub no_flag : (m xs : List Entry) → AreNoFlag xs → (held_of (m ++ xs) v).flags ≡ (held_of m v).flags
  no_flag m xs is = ap (λ (d : Held). d.flags) (held-append m xs v) ∙ go xs is (held_of m v)
    where
      go : (xs : List Entry) → AreNoFlag xs → (d : Held) → (fold (held_step v) d xs).flags ≡ d.flags
      go [] is d = refl
      go (x ∷ xs) is d = go xs is.1 (held_step v d x) ∙ same_flags (is_of v x.event) d (held_after d x.event) (held_flags_stay x.event d is.0)

  module _ (m : List Entry) (p u : ℕ) where
    pub one_reject : rejects_at (m ++ plain_entry p (Reject record { 0 = u }) ∷ []) ≡ rejects_at m + cond (eqb u v) 1 0
    one_reject = ap (λ (d : Held). d.rejects) (held_of-snoc m (plain_entry p (Reject record { 0 = u })) v) ∙ go (eqb u v)
      where
        go : (b : Bool) → (cond b (held_after (held_of m v) (Reject record { 0 = u })) (held_of m v)).rejects ≡ rejects_at m + cond b 1 0
        go true = refl
        go false = omega arith

    pub one_withdrawal : rejects_at (m ++ plain_entry p (Withdraw record { 0 = u }) ∷ []) ≡ rejects_at m - cond (eqb u v) 1 0
    one_withdrawal = ap (λ (d : Held). d.rejects) (held_of-snoc m (plain_entry p (Withdraw record { 0 = u })) v) ∙ go (eqb u v)
      where
        go : (b : Bool) → (cond b (held_after (held_of m v) (Withdraw record { 0 = u })) (held_of m v)).rejects ≡ rejects_at m - cond b 1 0
        go true = refl
        go false = omega arith

    -- a flag, set or unset
    pub one_flag : down_at (m ++ plain_entry p (Flag record { 0 = u } Down) ∷ []) ≡ cond (eqb u v) true (down_at m)
    one_flag = ap (λ (d : Held). d.flags.down) (held_of-snoc m (plain_entry p (Flag record { 0 = u } Down)) v) ∙ go (eqb u v)
      where
        go : (b : Bool) → (cond b (held_after (held_of m v) (Flag record { 0 = u } Down)) (held_of m v)).flags.down ≡ cond b true (down_at m)
        go true = refl
        go false = refl

    pub one_unflag : down_at (m ++ plain_entry p (Unflag record { 0 = u } Down) ∷ []) ≡ cond (eqb u v) false (down_at m)
    one_unflag = ap (λ (d : Held). d.flags.down) (held_of-snoc m (plain_entry p (Unflag record { 0 = u } Down)) v) ∙ go (eqb u v)
      where
        go : (b : Bool) → (cond b (held_after (held_of m v) (Unflag record { 0 = u } Down)) (held_of m v)).flags.down ≡ cond b false (down_at m)
        go true = refl
        go false = refl

  module _ (m : List Entry) (p : ℕ) where
    -- all flagged, and all unflagged
    pub all_flags : (n : ℕ) → v < n → down_at (m ++ map (λ u. plain_entry p (Flag record { 0 = u } Down)) (below n)) ≡ true
    all_flags zero l = absurd (omega arith)
    all_flags (suc n) l =
        ap (λ k. down_at (m ++ k)) (map-append (λ (u : ℕ). plain_entry p (Flag record { 0 = u } Down)) (below n) (n ∷ []))
        ∙ (ap down_at (sym (append_assoc m (map (λ u. plain_entry p (Flag record { 0 = u } Down)) (below n)) (plain_entry p (Flag record { 0 = n } Down) ∷ [])))
        ∙ (one_flag (m ++ map (λ u. plain_entry p (Flag record { 0 = u } Down)) (below n)) p n
        ∙ dite (ℕ_discrete n v)
        (λ is. ap (λ b. cond b true (down_at (m ++ map (λ u. plain_entry p (Flag record { 0 = u } Down)) (below n)))) (eq-eqb n v is))
        (λ off. ap (λ b. cond b true (down_at (m ++ map (λ u. plain_entry p (Flag record { 0 = u } Down)) (below n)))) (ne_eqb n v off) ∙ all_flags n (omega arith))))

    pub all_unflags : (n : ℕ) → v < n → down_at (m ++ map (λ u. plain_entry p (Unflag record { 0 = u } Down)) (below n)) ≡ false
    all_unflags zero l = absurd (omega arith)
    all_unflags (suc n) l =
        ap (λ k. down_at (m ++ k)) (map-append (λ (u : ℕ). plain_entry p (Unflag record { 0 = u } Down)) (below n) (n ∷ []))
        ∙ (ap down_at (sym (append_assoc m (map (λ u. plain_entry p (Unflag record { 0 = u } Down)) (below n)) (plain_entry p (Unflag record { 0 = n } Down) ∷ [])))
        ∙ (one_unflag (m ++ map (λ u. plain_entry p (Unflag record { 0 = u } Down)) (below n)) p n
        ∙ dite (ℕ_discrete n v)
        (λ is. ap (λ b. cond b false (down_at (m ++ map (λ u. plain_entry p (Unflag record { 0 = u } Down)) (below n)))) (eq-eqb n v is))
        (λ off. ap (λ b. cond b false (down_at (m ++ map (λ u. plain_entry p (Unflag record { 0 = u } Down)) (below n)))) (ne_eqb n v off) ∙ all_unflags n (omega arith))))

-- a Quiet under a reject or a flag begins to keep the URB
pub quiet_keeps : (m : List Entry) (p u : ℕ) → holds_any (held_of m u) ≡ true → keeps (m ++ plain_entry p (Quiet record { 0 = u }) ∷ []) u ≡ true
quiet_keeps m p u holds = ap (λ (d : Held). d.kept) (held_of-snoc m (plain_entry p (Quiet record { 0 = u })) u)
    ∙ (ap (λ b. (cond b (record (held_of m u) { kept = holds_any (held_of m u) }) (held_of m u)).kept) (eq-eqb u u refl) ∙ holds)

pub holds_reject : (d : Held) → 0 < d.rejects → holds_any d ≡ true
holds_reject d l = ap (λ b. not b || (d.flags.gone || d.flags.off || d.flags.down)) (ne_eqb d.rejects 0 (λ i. omega arith))

pub holds_down : (d : Held) → d.flags.down ≡ true → holds_any d ≡ true
holds_down d e = ap (λ b. not (eqb d.rejects 0) || (d.flags.gone || d.flags.off || b)) e ∙ go (not (eqb d.rejects 0)) d.flags.gone d.flags.off
  where
    go : (a b c : Bool) → (a || (b || c || true)) ≡ true
    go true b c = refl
    go false true true = refl
    go false true false = refl
    go false false true = refl
    go false false false = refl

module _ (p : ℕ) where
  pub marks_no_reject : (why : Why) (us : List ℕ) (answers : List Code) → AreNoReject (marks_of p why us answers)
  marks_no_reject why [] answers = tt
  marks_no_reject why (u ∷ us) [] = tt
  marks_no_reject why (u ∷ us) (a ∷ answers) = (tt, marks_no_reject why us answers)

  pub marks_no_flag : (why : Why) (us : List ℕ) (answers : List Code) → AreNoFlag (marks_of p why us answers)
  marks_no_flag why [] answers = tt
  marks_no_flag why (u ∷ us) [] = tt
  marks_no_flag why (u ∷ us) (a ∷ answers) = (tt, marks_no_flag why us answers)

  pub claims_no_reject : (us : List ℕ) (rests : List (Option ℕ)) → AreNoReject (claims_of p us rests)
  claims_no_reject [] rests = tt
  claims_no_reject (u ∷ us) [] = tt
  claims_no_reject (u ∷ us) (rest ∷ rests) = (tt, (tt, claims_no_reject us rests))

  pub claims_no_flag : (us : List ℕ) (rests : List (Option ℕ)) → AreNoFlag (claims_of p us rests)
  claims_no_flag [] rests = tt
  claims_no_flag (u ∷ us) [] = tt
  claims_no_flag (u ∷ us) (rest ∷ rests) = (tt, (tt, claims_no_flag us rests))

  pub claims_pass : (us : List ℕ) (rests : List (Option ℕ)) → AreOf p (claims_of p us rests)
  claims_pass [] rests = tt
  claims_pass (u ∷ us) [] = tt
  claims_pass (u ∷ us) (rest ∷ rests) = (refl, (refl, claims_pass us rests))

  pub flags_no_reject : (us : List ℕ) → AreNoReject (map (λ u. plain_entry p (Flag record { 0 = u } Down)) us)
  flags_no_reject [] = tt
  flags_no_reject (u ∷ us) = (tt, flags_no_reject us)

  pub unflags_no_reject : (us : List ℕ) → AreNoReject (map (λ u. plain_entry p (Unflag record { 0 = u } Down)) us)
  unflags_no_reject [] = tt
  unflags_no_reject (u ∷ us) = (tt, unflags_no_reject us)

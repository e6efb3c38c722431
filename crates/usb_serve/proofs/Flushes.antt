-- How far a shutdown is: what is flagged and marked, and what is claimed.
use Rattle.std.proofs.Common.{ℕ, zero, suc, ◌≡◌, ◌≢◌, ◌+◌, ◌<◌, ◌≤◌, ◌⊎◌, inl, inr, ⊎_elim, Bool, true, false, not, ◌||◌, cond, eqb, map, Option, Some, None, List, [], ◌∷◌, ◌++◌, length, take, get_or, refl, sym, ap, ◌∙◌, subst, arith, eq-eqb, ne_eqb, true≢false, append_assoc, append-nil, length-append, Result, Ok}
use Rattle.std.specs.Prelude.{slice_get, option_map}
use Rattle.std.proofs.lemmas.Option.{slice_get-map, slice_get-get_or}
use Rattle.std.proofs.lemmas.List.{map-append, take_more, take_all, take-map}
use Rattle.std.proofs.lemmas.List.Elements.{filter-append}
use Rattle.usb_types.specs.declared.urb.UrbId.{UrbId}
use Rattle.usb_types.specs.declared.urb.Flag.{Flag as FlagName}
use Rattle.usb_types.specs.declared.urb.Flag.TheVariants.{Gone, Off, Down}
use Rattle.usb_types.specs.declared.urb.Why.TheVariants.{Shutdown}
use Rattle.usb_types.specs.declared.errno.Code.{Code}
use Rattle.usb_types.specs.declared.outside.Memory.{Memory}
use Rattle.usb_machine.specs.declared.entry.TheConstants.{HUB, SERVER}
use Rattle.usb_machine.specs.declared.entry.Entry.{Entry}
use Rattle.usb_machine.specs.declared.event.Event.TheVariants.{Quiet, Claim, Flag}
use Rattle.usb_machine.specs.declared.event.Answer.TheVariants.{Nothing, Number}
use Rattle.usb_machine.specs.declared.pass_row.Held.{Held}
use Rattle.usb_machine.specs.declared.state.Flags.{Flags}
use Rattle.usb_machine.specs.declared.state.UrbState.{UrbState}
use Rattle.usb_machine.specs.State.{has_flag, with_flag, after}
use Rattle.usb_machine.specs.History.{Machine, state_of}
use Rattle.usb_machine.specs.Parts.{part_of, held_of, holds_any, any_flag}
use Rattle.usb_machine.specs.Calls.{entry, plain_entry, mark_entry, marks_of, claim_entries, claims_of, flush_entries}
use Rattle.usb_machine.proofs.Steps.{state_of-snoc, held_own}
use Rattle.usb_serve.specs.declared.solo.Waited.{Waited}
use Rattle.usb_serve.specs.declared.solo.Waited.TheVariants as waited
use Rattle.usb_serve.specs.Growing.{Rounds}
use Rattle.usb_serve.specs.Flushing.{ids, Has, AreApart, MayFlush, flags_of, Settles, SettlesBy, none, one}
use Rattle.usb_serve.proofs.Stopping.{held_rounds, aside_rounds}

hub_calls : HUB ≢ SERVER
hub_calls is = absurd (omega arith)

abbrev pub flag_entry : FlagName → ℕ → Entry
flag_entry f u = plain_entry HUB (Flag record { 0 = u } f)

-- the first URBs of a list, and one more
pub has_at : (us : List UrbId) (i : ℕ) (d : UrbId) → i < length us → Has (ids us) (get_or us i d).0
has_at [] i d lt = absurd (omega arith)
has_at (u ∷ us) zero d lt = inl refl
has_at (u ∷ us) (suc i) d lt = inr (has_at us i d (omega arith))

pub apart_at : (us : List UrbId) (i : ℕ) (d : UrbId) → i < length us → AreApart (ids us) → Has (ids (take i us)) (get_or us i d).0 → ⊥
apart_at [] i d lt a has = absurd (omega arith)
apart_at (u ∷ us) zero d lt a has = has
apart_at (u ∷ us) (suc i) d lt a has = ⊎_elim (λ (e : u.0 ≡ (get_or us i d).0). a.0 (subst (Has (ids us)) (sym e) (has_at us i d (omega arith))))
    (λ (r : Has (ids (take i us)) (get_or us i d).0). apart_at us i d (omega arith) a.1 r) has

pub ids_more : (us : List UrbId) (i : ℕ) (d : UrbId) → i < length us → ids (take (i + 1) us) ≡ ids (take i us) ++ (get_or us i d).0 ∷ []
ids_more us i d lt = ap ids (take_more us i d lt) ∙ map-append (λ (u : UrbId). u.0) (take i us) (get_or us i d ∷ [])

pub ids_all : (us : List UrbId) (i : ℕ) → length us ≤ i → ids (take i us) ≡ ids us
ids_all us i le = ap ids (take_all i us le)

pub ids_take : (us : List UrbId) (i : ℕ) → ids (take i us) ≡ take i (ids us)
ids_take us i = sym (take-map (λ (u : UrbId). u.0) i us)

pub ids_at : (us : List UrbId) (i : ℕ) (d : UrbId) → i < length us → slice_get (ids us) i ≡ Some (get_or us i d).0
ids_at us i d lt = slice_get-map (λ (u : UrbId). u.0) us i ∙ ap (option_map (λ (u : UrbId). u.0)) (slice_get-get_or us i d lt)

-- one Flag more
pub flags_more : (h : List Entry) (f : FlagName) (us : List ℕ) (u : ℕ) → (h ++ flags_of f us) ++ flag_entry f u ∷ [] ≡ h ++ flags_of f (us ++ u ∷ [])
flags_more h f us u = append_assoc h (flags_of f us) (flag_entry f u ∷ []) ∙ ap (λ l. h ++ l) (sym (map-append (λ v. flag_entry f v) us (u ∷ [])))

-- who is not among them keeps its state
pub state_flags : (f : FlagName) (us : List ℕ) (h : List Entry) (v : ℕ) → (Has us v → ⊥) → state_of (h ++ flags_of f us) v ≡ state_of h v
state_flags f [] h v off = ap (λ k. state_of k v) (append-nil h)
state_flags f (u ∷ us) h v off = ap (λ k. state_of k v) (sym (append_assoc h (flag_entry f u ∷ []) (flags_of f us)))
    ∙ (state_flags f us (h ++ flag_entry f u ∷ []) v (λ r. off (inr r))
    ∙ (state_of-snoc h (flag_entry f u) v ∙ ap (λ b. cond b (after (Flag record { 0 = u } f) Nothing (state_of h v)) (state_of h v)) (ne_eqb u v (λ e. off (inl e)))))

pub still_unset : (g : Machine) (h : List Entry) (f : FlagName) (us : List UrbId) (i : ℕ) (d : UrbId) → i < length us → MayFlush g h f (ids us) → has_flag f (state_of (h ++ flags_of f (ids (take i us))) (get_or us i d).0).flags ≡ false
still_unset g h f us i d lt may =
    ap (λ (s : UrbState). has_flag f s.flags) (state_flags f (ids (take i us)) h (get_or us i d).0 (apart_at us i d lt may.apart)) ∙ may.unset (get_or us i d).0 (has_at us i d lt)

-- a flag that the hub has set stands
set_is : (f : FlagName) (x : Flags) → has_flag f (with_flag f true x) ≡ true
set_is Gone x = refl
set_is Off x = refl
set_is Down x = refl

has_if : (f : FlagName) (b : Bool) (d : Held) → has_flag f d.flags ≡ true → has_flag f (cond b (record d { flags = with_flag f true d.flags }) d).flags ≡ true
has_if f true d is = set_is f d.flags
has_if f false d is = is

flag_held : (f : FlagName) (h : List Entry) (u v : ℕ) → held_of (part_of (h ++ flag_entry f u ∷ []) HUB) v ≡ cond (eqb u v) (record (held_of (part_of h HUB) v) { flags = with_flag f true (held_of (part_of h HUB) v).flags }) (held_of (part_of h HUB) v)
flag_held f h u v = held_own h (flag_entry f u) v

still_set : (f : FlagName) (us : List ℕ) (h : List Entry) (v : ℕ) → has_flag f (held_of (part_of h HUB) v).flags ≡ true → has_flag f (held_of (part_of (h ++ flags_of f us) HUB) v).flags ≡ true
still_set f [] h v is = ap (λ k. has_flag f (held_of (part_of k HUB) v).flags) (append-nil h) ∙ is
still_set f (u ∷ us) h v is = ap (λ k. has_flag f (held_of (part_of k HUB) v).flags) (sym (append_assoc h (flag_entry f u ∷ []) (flags_of f us)))
    ∙ still_set f us (h ++ flag_entry f u ∷ []) v (ap (λ (d : Held). has_flag f d.flags) (flag_held f h u v) ∙ has_if f (eqb u v) (held_of (part_of h HUB) v) is)

set_all : (f : FlagName) (us : List ℕ) (h : List Entry) (v : ℕ) → Has us v → has_flag f (held_of (part_of (h ++ flags_of f us) HUB) v).flags ≡ true
set_all f [] h v has = absurd has
set_all f (u ∷ us) h v has = ap (λ k. has_flag f (held_of (part_of k HUB) v).flags) (sym (append_assoc h (flag_entry f u ∷ []) (flags_of f us))) ∙ ⊎_elim
    (λ (e : u ≡ v). still_set f us (h ++ flag_entry f u ∷ []) v (ap (λ (d : Held). has_flag f d.flags) (flag_held f h u v
    ∙ ap (λ b. cond b (record (held_of (part_of h HUB) v) { flags = with_flag f true (held_of (part_of h HUB) v).flags }) (held_of (part_of h HUB) v)) (eq-eqb u v e)) ∙ set_is f (held_of (part_of h HUB) v).flags))
    (λ (r : Has us v). set_all f us (h ++ flag_entry f u ∷ []) v r) has

some_gone : (a b c : Bool) → a ≡ true → (a || b || c) ≡ true
some_gone true b c is = refl
some_gone false b c is = absurd (true≢false (sym is))

some_off : (a b c : Bool) → b ≡ true → (a || b || c) ≡ true
some_off true true c is = refl
some_off false true c is = refl
some_off a false c is = absurd (true≢false (sym is))

some_down : (a b c : Bool) → c ≡ true → (a || b || c) ≡ true
some_down true true true is = refl
some_down true false true is = refl
some_down false true true is = refl
some_down false false true is = refl
some_down a b false is = absurd (true≢false (sym is))

any_has : (f : FlagName) (x : Flags) → has_flag f x ≡ true → any_flag x ≡ true
any_has Gone x is = some_gone x.gone x.off x.down is
any_has Off x is = some_off x.gone x.off x.down is
any_has Down x is = some_down x.gone x.off x.down is

or_right : (b c : Bool) → c ≡ true → (b || c) ≡ true
or_right true c is = refl
or_right false c is = is

pub holds_flag : (d : Held) → any_flag d.flags ≡ true → holds_any d ≡ true
holds_flag d is = or_right (not (eqb d.rejects 0)) (any_flag d.flags) is

either_same : (b : Bool) (d : Held) → cond b d d ≡ d
either_same true d = refl
either_same false d = refl

held_marks : (us : List ℕ) (answers : List Code) (h : List Entry) (v : ℕ) → held_of (part_of (h ++ marks_of HUB Shutdown us answers) HUB) v ≡ held_of (part_of h HUB) v
held_marks [] answers h v = ap (λ k. held_of (part_of k HUB) v) (append-nil h)
held_marks (u ∷ us) [] h v = ap (λ k. held_of (part_of k HUB) v) (append-nil h)
held_marks (u ∷ us) (a ∷ answers) h v = let x = mark_entry HUB Shutdown u a in
    ap (λ k. held_of (part_of k HUB) v) (sym (append_assoc h (x ∷ []) (marks_of HUB Shutdown us answers)))
    ∙ (held_marks us answers (h ++ x ∷ []) v ∙ (held_own h x v ∙ either_same (eqb u v) (held_of (part_of h HUB) v)))

-- what is flagged and marked is held by the hub
pub flagged_held : (f : FlagName) (us : List ℕ) (answers : List Code) (h : List Entry) (v : ℕ) → Has us v → any_flag (held_of (part_of ((h ++ flags_of f us) ++ marks_of HUB Shutdown us answers) HUB) v).flags ≡ true
flagged_held f us answers h v has = ap (λ (d : Held). any_flag d.flags) (held_marks us answers (h ++ flags_of f us) v) ∙ any_has f (held_of (part_of (h ++ flags_of f us) HUB) v).flags (set_all f us h v has)

-- one Mark more
marks_snoc : (us : List ℕ) (answers : List Code) (u : ℕ) (a : Code) → length answers ≡ length us → marks_of HUB Shutdown (us ++ u ∷ []) (answers ++ a ∷ []) ≡ marks_of HUB Shutdown us answers ++ mark_entry HUB Shutdown u a ∷ []
marks_snoc [] [] u a is = refl
marks_snoc [] (b ∷ answers) u a is = absurd (omega arith)
marks_snoc (v ∷ us) [] u a is = absurd (omega arith)
marks_snoc (v ∷ us) (b ∷ answers) u a is = ap (λ l. mark_entry HUB Shutdown v b ∷ l) (marks_snoc us answers u a (omega arith))

pub marks_more : (h : List Entry) (us : List ℕ) (answers : List Code) (u : ℕ) (a : Code) → length answers ≡ length us
    → (h ++ marks_of HUB Shutdown us answers) ++ mark_entry HUB Shutdown u a ∷ [] ≡ h ++ marks_of HUB Shutdown (us ++ u ∷ []) (answers ++ a ∷ [])
marks_more h us answers u a is = append_assoc h (marks_of HUB Shutdown us answers) (mark_entry HUB Shutdown u a ∷ []) ∙ ap (λ l. h ++ l) (sym (marks_snoc us answers u a is))

-- a claim leaves the flags
flags_claim : (k : List Entry) (u v : ℕ) (n : Option ℕ) → (held_of (part_of (k ++ claim_entries HUB u n) HUB) v).flags ≡ (held_of (part_of k HUB) v).flags
flags_claim k u v n =
    let q = plain_entry HUB (Quiet record { 0 = u }) in
    let c = entry HUB (Claim record { 0 = u }) (Number n) None in
    ap (λ l. (held_of (part_of l HUB) v).flags) (sym (append_assoc k (q ∷ []) (c ∷ [])))
    ∙ (ap (λ (d : Held). d.flags) (held_own (k ++ q ∷ []) c v ∙ either_same (eqb u v) (held_of (part_of (k ++ q ∷ []) HUB) v))
    ∙ (ap (λ (d : Held). d.flags) (held_own k q v) ∙ either (eqb u v) (held_of (part_of k HUB) v)))
  where
    either : (b : Bool) (d : Held) → (cond b (record d { kept = holds_any d }) d).flags ≡ d.flags
    either true d = refl
    either false d = refl

-- and so do the waits and claims of some URBs
pub flags_settled : (g : Machine) (h : List Entry) (us : List ℕ) (rests : List (Option ℕ)) (es : List Entry) (v : ℕ) → Settles g h us rests es → (held_of (part_of (h ++ es) HUB) v).flags ≡ (held_of (part_of h HUB) v).flags
flags_settled g h _ _ _ v none = ap (λ k. (held_of (part_of k HUB) v).flags) (append-nil h)
flags_settled g h _ _ _ v (one us rests es ws u rest settled rounds quiet is) =
    ap (λ k. (held_of (part_of k HUB) v).flags) (sym (append_assoc (h ++ es) ws (claim_entries HUB u rest) ∙ append_assoc h es (ws ++ claim_entries HUB u rest)))
    ∙ (flags_claim ((h ++ es) ++ ws) u v rest ∙ (ap (λ (d : Held). d.flags) (held_rounds HUB hub_calls g (h ++ es) ws v rounds) ∙ flags_settled g h us rests es v settled))

pub settled_holds : (g : Machine) (h : List Entry) (us : List ℕ) (rests : List (Option ℕ)) (es ws : List Entry) (v : ℕ) → Settles g h us rests es → any_flag (held_of (part_of h HUB) v).flags ≡ true
    → held_of (part_of ((h ++ es) ++ ws) HUB) v ≡ held_of (part_of (h ++ es) HUB) v → holds_any (held_of (part_of ((h ++ es) ++ ws) HUB) v) ≡ true
settled_holds g h us rests es ws v settled is same =
    holds_flag (held_of (part_of ((h ++ es) ++ ws) HUB) v) (ap any_flag (ap (λ (d : Held). d.flags) same ∙ flags_settled g h us rests es v settled) ∙ is)

pub hub_rounds : (g : Machine) (h ws : List Entry) (v : ℕ) → Rounds g h ws → held_of (part_of (h ++ ws) HUB) v ≡ held_of (part_of h HUB) v
hub_rounds g h ws v rounds = held_rounds HUB hub_calls g h ws v rounds

-- the hub's own entries
own_flags : (f : FlagName) (us : List ℕ) → part_of (flags_of f us) HUB ≡ flags_of f us
own_flags f [] = refl
own_flags f (u ∷ us) = ap (λ l. flag_entry f u ∷ l) (own_flags f us)

own_marks : (us : List ℕ) (answers : List Code) → part_of (marks_of HUB Shutdown us answers) HUB ≡ marks_of HUB Shutdown us answers
own_marks [] answers = refl
own_marks (u ∷ us) [] = refl
own_marks (u ∷ us) (a ∷ answers) = ap (λ l. mark_entry HUB Shutdown u a ∷ l) (own_marks us answers)

own_both : (xs ys : List Entry) → part_of (xs ++ ys) HUB ≡ part_of xs HUB ++ part_of ys HUB
own_both xs ys = filter-append (λ (x : Entry). eqb x.pass HUB) xs ys

claims_snoc : (us : List ℕ) (rests : List (Option ℕ)) (u : ℕ) (r : Option ℕ) → length rests ≡ length us → claims_of HUB (us ++ u ∷ []) (rests ++ r ∷ []) ≡ claims_of HUB us rests ++ claim_entries HUB u r
claims_snoc [] [] u r is = refl
claims_snoc [] (s ∷ rests) u r is = absurd (omega arith)
claims_snoc (v ∷ us) [] u r is = absurd (omega arith)
claims_snoc (v ∷ us) (s ∷ rests) u r is = ap (λ l. claim_entries HUB v s ++ l) (claims_snoc us rests u r (omega arith))

settled_long : (g : Machine) (h : List Entry) (us : List ℕ) (rests : List (Option ℕ)) (es : List Entry) → Settles g h us rests es → length rests ≡ length us
settled_long g h _ _ _ none = refl
settled_long g h _ _ _ (one us rests es ws u rest settled rounds quiet is) =
    let n = settled_long g h us rests es settled in let a = length-append us (u ∷ []) in let b = length-append rests (rest ∷ []) in omega arith

own_settled : (g : Machine) (h : List Entry) (us : List ℕ) (rests : List (Option ℕ)) (es : List Entry) → Settles g h us rests es → part_of es HUB ≡ claims_of HUB us rests
own_settled g h _ _ _ none = refl
own_settled g h _ _ _ (one us rests es ws u rest settled rounds quiet is) =
    own_both es (ws ++ claim_entries HUB u rest) ∙ (ap (λ l. l ++ part_of (ws ++ claim_entries HUB u rest) HUB) (own_settled g h us rests es settled)
    ∙ (ap (λ l. claims_of HUB us rests ++ l) (own_both ws (claim_entries HUB u rest) ∙ ap (λ l. l ++ claim_entries HUB u rest) (aside_rounds HUB hub_calls g (h ++ es) ws rounds))
    ∙ sym (claims_snoc us rests u rest (settled_long g h us rests es settled))))

pub own_flushed : (g : Machine) (k : List Entry) (f : FlagName) (us : List ℕ) (answers : List Code) (came : Result Waited Memory) (rests : List (Option ℕ)) (es : List Entry) → SettlesBy g k us came rests es → came ≡ Ok waited.Quiet
    → part_of ((flags_of f us ++ marks_of HUB Shutdown us answers) ++ es) HUB ≡ flush_entries HUB f us answers rests
own_flushed g k f us answers came rests es by is = own_both (flags_of f us ++ marks_of HUB Shutdown us answers) es
    ∙ (ap (λ l. l ++ part_of es HUB) (own_both (flags_of f us) (marks_of HUB Shutdown us answers) ∙ (ap (λ l. l ++ part_of (marks_of HUB Shutdown us answers) HUB) (own_flags f us) ∙ ap (λ l. flags_of f us ++ l) (own_marks us answers)))
    ∙ ap (λ l. (flags_of f us ++ marks_of HUB Shutdown us answers) ++ l) (own_settled g k us rests es (subst (λ c. SettlesBy g k us c rests es) is by)))

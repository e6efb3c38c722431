-- What the Claims of a history find, and when a pass claims nothing.
use Rattle.std.proofs.Common.{ℕ, ◌≡◌, Bool, true, false, cond, eqb, Option, Some, None, List, [], ◌∷◌, ◌++◌, refl, sym, ap, ◌∙◌, subst, append_assoc, append-nil, eq-eqb}
use Rattle.std.proofs.lemmas.List.{append_cancel_left}
use Rattle.std.proofs.lemmas.List.Elements.{filter-append}
use Rattle.usb_machine.specs.declared.event.Event.{Event}
use Rattle.usb_machine.specs.declared.event.Event.TheVariants.{Submit, Link, Take, Mark, Finish, Give, Rest, End, Reject, Withdraw, Quiet, Claim, Flag, Unflag}
use Rattle.usb_machine.specs.declared.event.Answer.{Answer}
use Rattle.usb_machine.specs.declared.transfer.Transfer.{Transfer}
use Rattle.usb_machine.specs.declared.entry.Entry.{Entry}
use Rattle.usb_machine.specs.declared.state.UrbState.{UrbState}
use Rattle.usb_machine.specs.State.{after, accepted, unlinks, finishes}
use Rattle.usb_machine.specs.History.{Machine, is_of, state_of}
use Rattle.usb_machine.specs.Parts.{part_of}
use Rattle.usb_machine.specs.Legal.{Carries, IsLegal, empty, longer}
use Rattle.usb_machine.specs.Calls.{plain_entry, claim_entries}
use Rattle.usb_machine.specs.HostCalls.{rested_of, rested_after, number_of}
use Rattle.usb_machine.proofs.Steps.{state_of-snoc}
use Rattle.usb_machine.proofs.Growing.{rested_of-snoc}
use Rattle.usb_trace.specs.Claims.{claim_at, claimed_after, claimed_by}

-- none of these entries is a Claim
abbrev pub IsNoClaim : Event → Type 0
IsNoClaim (Claim u) = ⊥
IsNoClaim _ = Unit {0}

abbrev pub AreNoClaim : List Entry → Type 0
AreNoClaim [] = Unit {0}
AreNoClaim (x ∷ xs) = IsNoClaim x.event × AreNoClaim xs

pub AreNoClaim-append : (xs ys : List Entry) → AreNoClaim xs → AreNoClaim ys → AreNoClaim (xs ++ ys)
AreNoClaim-append [] ys is js = js
AreNoClaim-append (x ∷ xs) ys is js = (is.0, AreNoClaim-append xs ys is.1 js)

none_at : (before : List Entry) (e : Event) → IsNoClaim e → claim_at before e ≡ []
none_at before (Claim u) is = absurd is
none_at before _ is = refl

head_none : (b : Bool) (before : List Entry) (x : Entry) (xs : List Entry) → AreNoClaim (cond b (x ∷ xs) xs) → cond b (claim_at before x.event) [] ≡ []
head_none true before x xs is = none_at before x.event is.0
head_none false before x xs is = refl

tail_none : (b : Bool) (x : Entry) (xs : List Entry) → AreNoClaim (cond b (x ∷ xs) xs) → AreNoClaim xs
tail_none true x xs is = is.1
tail_none false x xs is = is

-- a pass whose part has no Claim claims nothing
pub claimed_none : (p : ℕ) (before xs : List Entry) → AreNoClaim (part_of xs p) → claimed_after p before xs ≡ []
claimed_none p before [] is = refl
claimed_none p before (x ∷ xs) is =
    ap (λ l. l ++ claimed_after p (before ++ x ∷ []) xs) (head_none (eqb x.pass p) before x (part_of xs p) is)
    ∙ claimed_none p (before ++ x ∷ []) xs (tail_none (eqb x.pass p) x (part_of xs p) is)

pub claimed-append : (p : ℕ) (before xs ys : List Entry) → claimed_after p before (xs ++ ys) ≡ claimed_after p before xs ++ claimed_after p (before ++ xs) ys
claimed-append p before [] ys = ap (λ l. claimed_after p l ys) (sym (append-nil before))
claimed-append p before (x ∷ xs) ys =
    let first : List (ℕ × Option Transfer) = cond (eqb x.pass p) (claim_at before x.event) [] in
    let more : List (ℕ × Option Transfer) = claimed_after p (before ++ x ∷ []) xs in
    ap (λ l. first ++ l) (claimed-append p (before ++ x ∷ []) xs ys ∙ ap (λ l. more ++ claimed_after p l ys) (append_assoc before (x ∷ []) xs))
    ∙ sym (append_assoc first more (claimed_after p (before ++ x ∷ xs) ys))

-- where a pass's part grew by entries that claim nothing, it has claimed what it had
pub claimed_same : (p : ℕ) (h k ys xs : List Entry) → k ≡ h ++ ys → part_of k p ≡ part_of h p ++ xs → AreNoClaim xs → claimed_by p k ≡ claimed_by p h
claimed_same p h k ys xs is own none =
    let part : part_of ys p ≡ xs = append_cancel_left (part_of h p) (part_of ys p) xs (sym (filter-append (λ x. eqb x.pass p) h ys) ∙ (ap (λ l. part_of l p) (sym is) ∙ own)) in
    ap (claimed_by p) is ∙ (claimed-append p [] h ys
    ∙ (ap (λ l. claimed_by p h ++ l) (claimed_none p h ys (subst AreNoClaim (sym part) none)) ∙ append-nil (claimed_by p h)))

-- a Claim claims what rested with its URB
pub claimed_one : (p u : ℕ) (h : List Entry) (n : Option ℕ) → claimed_by p (h ++ claim_entries p u n) ≡ claimed_by p h ++ (u, rested_of h u) ∷ []
claimed_one p u h n =
    let quiet : Entry = plain_entry p (Quiet record { 0 = u }) in
    claimed-append p [] h (claim_entries p u n) ∙ ap (λ l. claimed_by p h ++ l)
    (ap (λ b. cond {A = List (ℕ × Option Transfer)} b [] [] ++ (cond {A = List (ℕ × Option Transfer)} b ((u, rested_of (h ++ quiet ∷ []) u) ∷ []) [] ++ [])) (eq-eqb p p refl)
    ∙ ap (λ t. (u, t) ∷ []) (rested_of-snoc h quiet u))

-- the number that the machine keeps of what rests is that of the transfer
other_rest : (b : Bool) (s t : UrbState) → t.rest ≡ s.rest → (cond b t s).rest ≡ s.rest
other_rest true s t e = e
other_rest false s t e = refl

rest_put : (b : Bool) (n : ℕ) (s : UrbState) (c t : Option Transfer) → Some n ≡ number_of c → s.rest ≡ number_of t → (cond b (record s { rest = Some n }) s).rest ≡ number_of (cond b c t)
rest_put true n s c t is e = is
rest_put false n s c t is e = e

rest_taken : (b : Bool) (s : UrbState) (t : Option Transfer) → s.rest ≡ number_of t → (cond b (record s { rest = None }) s).rest ≡ number_of (cond b None t)
rest_taken true s t e = refl
rest_taken false s t e = e

rest_carried : (g : Machine) (v n : ℕ) (c : Option Transfer) → Carries g (Rest record { 0 = v } n) c → Some n ≡ number_of c
rest_carried g v n None is = absurd is
rest_carried g v n (Some t) is = ap Some (sym is.0)

rest_after : (g : Machine) (u : ℕ) (e : Event) (a : Answer) (c : Option Transfer) (s : UrbState) (t : Option Transfer) → Carries g e c → s.rest ≡ number_of t
    → (cond (is_of u e) (after e a s) s).rest ≡ number_of (rested_after u t e c)
rest_after g u (Rest v n) a c s t carries is = rest_put (eqb v.0 u) n s c t (rest_carried g v.0 n c carries) is
rest_after g u (Claim v) a c s t carries is = rest_taken (eqb v.0 u) s t is
rest_after g u (Submit v n) a c s t carries is = other_rest (eqb v.0 u) s (after (Submit v n) a s) (other_rest (accepted a) s _ refl) ∙ is
rest_after g u (Mark v w) a c s t carries is = other_rest (eqb v.0 u) s (after (Mark v w) a s) (other_rest (unlinks a) s _ refl) ∙ is
rest_after g u (Finish v w) a c s t carries is = other_rest (eqb v.0 u) s (after (Finish v w) a s) (other_rest (finishes a) s _ refl) ∙ is
rest_after g u (Take e) a c s t carries is = is
rest_after g u (Link v) a c s t carries is = other_rest (eqb v.0 u) s _ refl ∙ is
rest_after g u (Give v) a c s t carries is = other_rest (eqb v.0 u) s _ refl ∙ is
rest_after g u (End v) a c s t carries is = other_rest (eqb v.0 u) s _ refl ∙ is
rest_after g u (Reject v) a c s t carries is = other_rest (eqb v.0 u) s _ refl ∙ is
rest_after g u (Withdraw v) a c s t carries is = other_rest (eqb v.0 u) s _ refl ∙ is
rest_after g u (Quiet v) a c s t carries is = other_rest (eqb v.0 u) s _ refl ∙ is
rest_after g u (Flag v f) a c s t carries is = other_rest (eqb v.0 u) s _ refl ∙ is
rest_after g u (Unflag v f) a c s t carries is = other_rest (eqb v.0 u) s _ refl ∙ is

pub rest_number : (g : Machine) (u : ℕ) (h : List Entry) → IsLegal g h → (state_of h u).rest ≡ number_of (rested_of h u)
rest_number g u _ empty = refl
rest_number g u _ (longer h x legal f) =
    ap (λ (s : UrbState). s.rest) (state_of-snoc h x u)
    ∙ (rest_after g u x.event x.answer x.carried (state_of h u) (rested_of h u) f.carries (rest_number g u h legal)
    ∙ ap number_of (sym (rested_of-snoc h x u)))

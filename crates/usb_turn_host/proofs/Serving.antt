-- The server's token after a Take and a Give.
use Rattle.std.proofs.Common.{◌≡◌, ◌≢◌, ℕ, ◌+◌, ◌<◌, ◌≤◌, Bool, true, false, cond, eqb, List, [], ◌∷◌, ◌++◌, length, get_or, set, slice_get, fold, Option, Some, None, sym, refl, ap, ◌∙◌, subst, arith, eqb-true, eq-eqb, length-set}
use Rattle.std.proofs.lemmas.Option.{slice_get-get_or}
use Rattle.std.proofs.lemmas.List.{append_cancel_right}
use Rattle.std.proofs.lemmas.List.Sums.{fold-append}
use Rattle.circular_buffer.specs.Buffer.{Buffer, buffer}
use Rattle.circular_buffer.proofs.Places.{slice_get-set_same, slice_get-set_other}
use Rattle.usb_types.specs.declared.errno.Code.{Code}
use Rattle.usb_types.specs.declared.urb.UrbId.{UrbId}
use Rattle.usb_machine.specs.declared.entry.Entry.{Entry}
use Rattle.usb_machine.specs.declared.event.Event.{Event}
use Rattle.usb_machine.specs.declared.event.Event.TheVariants.{Take, Give}
use Rattle.usb_machine.specs.declared.event.Answer.TheVariants.{Urb, Code as Status}
use Rattle.usb_machine.specs.History.{Machine, home_of, pending_of, without}
use Rattle.usb_machine.specs.Parts.{part_of}
use Rattle.usb_machine.specs.Legal.{IsLegal, Follows}
use Rattle.usb_machine.specs.Queues.{homed_at}
use Rattle.usb_machine.specs.Calls.{entry}
use Rattle.usb_machine.proofs.Rooms.{pending_has_room}
use Rattle.usb_machine.proofs.Server.{pending_own}
use Rattle.usb_machine.proofs.Server as server
use Rattle.usb_machine.proofs.Prefixes.{follows_before, legal_before}
use Rattle.usb_machine.proofs.Steps.{pending_of-snoc, part_own}
use Rattle.usb_machine.specs.Fresh.{Known, Fresh}
use Rattle.usb_machine.specs.Tokens.{IsWholeServer, gives_of, gives_after}
use Rattle.usb_turn_host.specs.Server.{pending_at, items_of, room_of, HasRooms}

last_is : (x last : Entry) (others : List Entry) → x ∷ [] ≡ others ++ last ∷ [] → x ≡ last
last_is x last others e = ap (fold (λ (_ y : Entry). y) x) e ∙ fold-append (λ (_ y : Entry). y) x others (last ∷ [])

-- a call's one entry stands behind a legal history of which the pass's own entries are its part
pub record Behind (g : Machine) (p q : Known) (x : Entry) : Type 0 where
  pub before : List Entry
  pub legal : IsLegal g before
  pub follows : Follows g before x
  pub own : part_of before p.number ≡ p.mine

pub behind : (g : Machine) (p q : Known) (x : Entry) → x.pass ≡ p.number → Fresh g p q (x ∷ []) → Behind g p q x
behind g p q x by f =
    let before : List Entry = f.ends.before in
    let seen : q.seen ≡ before ++ x ∷ [] = f.ends.ends ∙ ap (λ y. before ++ y ∷ []) (sym (last_is x f.ends.last f.ends.others f.ends.entries)) in
    let legal : IsLegal g (before ++ x ∷ []) = subst (IsLegal g) seen f.sound.legal in
    let own : part_of (before ++ x ∷ []) p.number ≡ p.mine ++ x ∷ [] = ap (part_of (before ++ x ∷ [])) (sym f.grown.number) ∙ (ap (λ h. part_of h q.number) (sym seen) ∙ (f.sound.own ∙ f.grown.mine)) in
    let mine : part_of before p.number ++ x ∷ [] ≡ p.mine ++ x ∷ [] = subst (λ n. part_of before n ++ x ∷ [] ≡ part_of (before ++ x ∷ []) n) by (sym (part_own before x)) ∙ own in
    record {
      before = before;
      legal = legal_before g before x [] legal;
      follows = follows_before g before x [] legal;
      own = append_cancel_right (part_of before p.number) p.mine (x ∷ []) mine;
    }

abbrev pub none_buffer : Buffer ℕ
none_buffer = buffer [] 0

differ : (a b : ℕ) → eqb a b ≡ false → b ≢ a
differ a b off e = let bad : true ≡ false = sym (eq-eqb a b (sym e)) ∙ off in absurd (cc)

get_if : (bs : List (Buffer ℕ)) (e d : ℕ) (b : Buffer ℕ) (t : Bool) → eqb e d ≡ t → e < length bs → slice_get (set bs e b) d ≡ cond t (Some b) (slice_get bs d)
get_if bs e d b true is lt = subst (λ k. slice_get (set bs e b) k ≡ Some b) (eqb-true e d is) (slice_get-set_same bs e b lt)
get_if bs e d b false is lt = slice_get-set_other bs e d b (differ e d is)

items_if : (t : Bool) (b : Buffer ℕ) (o : Option (Buffer ℕ)) → items_of (cond t (Some b) o) ≡ cond t b.items (items_of o)
items_if true b o = refl
items_if false b o = refl

cond_pair : (t : Bool) (e d : ℕ) (f : List ℕ → List ℕ) (xs ys : ℕ → List ℕ) → eqb e d ≡ t → xs d ≡ ys d → (t ≡ true → f (ys e) ≡ f (ys d)) → cond t (f (ys e)) (xs d) ≡ cond t (f (ys d)) (ys d)
cond_pair true e d f xs ys is same k = k refl
cond_pair false e d f xs ys is same k = same

room_if : (t : Bool) (b : Buffer ℕ) (o : Option (Buffer ℕ)) (n : ℕ) → (t ≡ true → n ≤ b.capacity) → n ≤ room_of o → n ≤ room_of (cond t (Some b) o)
room_if true b o n h k = h refl
room_if false b o n h k = k

module _ (g : Machine) (p q : Known) (e : ℕ) (bs cs : List (Buffer ℕ)) (f : List ℕ → List ℕ) (given given' : ℕ) where
  abbrev old : Buffer ℕ
  old = get_or bs e none_buffer

  pub there : HasRooms g bs → e < length g.layout.shapes → slice_get bs e ≡ Some old
  there room lt = slice_get-get_or bs e none_buffer (subst (λ n. e < n) (sym room.ends) lt)

  -- the token after an event that changes one endpoint's list by f
  pub changed : e < length g.layout.shapes → IsWholeServer g p (pending_at bs) given (λ m. HasRooms m bs) → q.number ≡ p.number → cs ≡ set bs e (buffer (f old.items) old.capacity)
      → ((d : ℕ) → pending_of g q.mine d ≡ cond (eqb e d) (f (pending_of g p.mine d)) (pending_of g p.mine d)) → (given ≡ gives_of p.mine → given' ≡ gives_of q.mine) → IsWholeServer g q (pending_at cs) given' (λ m. HasRooms m cs)
  changed lt whole number is after count =
      let at : slice_get bs e ≡ Some old = there whole.room lt in
      let nb : Buffer ℕ = buffer (f old.items) old.capacity in
      let inside : e < length bs = subst (λ n. e < n) (sym whole.room.ends) lt in
      record {
        number = number ∙ whole.number;
        given_are = count whole.given_are;
        bottom = whole.bottom;
        room = record {
          ends = ap length is ∙ (length-set bs e nb ∙ whole.room.ends);
          rooms = λ d l. subst (λ o. homed_at g.layout.homes d ≤ room_of o) (sym (ap (λ xs. slice_get xs d) is ∙ get_if bs e d nb (eqb e d) refl inside))
              (room_if (eqb e d) nb (slice_get bs d) (homed_at g.layout.homes d) (λ same. subst (λ k. homed_at g.layout.homes k ≤ old.capacity) (eqb-true e d same) (subst (λ o. homed_at g.layout.homes e ≤ room_of o) at (whole.room.rooms e lt))) (whole.room.rooms d l));
        };
        pending_are = λ d l.
            ap (λ xs. items_of (slice_get xs d)) is ∙ (ap items_of (get_if bs e d nb (eqb e d) refl inside) ∙ (items_if (eqb e d) nb (slice_get bs d)
            ∙ (ap (λ xs. cond (eqb e d) (f xs) (pending_at bs d)) (sym (ap items_of at) ∙ whole.pending_are e lt)
            ∙ (cond_pair (eqb e d) e d f (pending_at bs) (pending_of g p.mine) refl (whole.pending_are d l) (λ same. ap (λ k. f (pending_of g p.mine k)) (eqb-true e d same))
            ∙ sym (after d)))));
      }

-- one more was taken
pub whole_push : (g : Machine) (p q : Known) (e : ℕ) (u : UrbId) (bs cs : List (Buffer ℕ)) (given : ℕ) → Fresh g p q (entry p.number (Take e) (Urb u) None ∷ []) → e < length g.layout.shapes
    → IsWholeServer g p (pending_at bs) given (λ m. HasRooms m bs)
    → ((b : Buffer ℕ) → slice_get bs e ≡ Some b → length b.items < b.capacity → cs ≡ set bs e (buffer (b.items ++ u.0 ∷ []) b.capacity)) → IsWholeServer g q (pending_at cs) given (λ m. HasRooms m cs)
whole_push g p q e u bs cs given fresh lt whole put =
    let x : Entry = entry p.number (Take e) (Urb u) None in
    let b = behind g p q x refl fresh in
    let f : List ℕ → List ℕ = λ us. us ++ u.0 ∷ [] in
    let at = there g p q e bs cs f given given whole.room lt in
    let o : Buffer ℕ = get_or bs e none_buffer in
    let own : part_of b.before 0 ≡ p.mine = subst (λ n. part_of b.before n ≡ p.mine) whole.number b.own in
    let items : o.items ≡ pending_of g b.before e = sym (ap items_of at) ∙ (whole.pending_are e lt ∙ sym (pending_own g e b.before b.legal ∙ ap (λ m. pending_of g m e) own)) in
    let room : homed_at g.layout.homes e ≤ o.capacity = subst (λ z. homed_at g.layout.homes e ≤ room_of z) at (whole.room.rooms e lt) in
    let short = pending_has_room g b.before e b.legal b.follows.may.1 in
    let fits : length o.items < o.capacity = small (length o.items) (length (pending_of g b.before e)) (homed_at g.layout.homes e) o.capacity (ap length items) short room in
    changed g p q e bs cs f given given lt whole fresh.grown.number (put o at fits)
    (λ d. ap (λ m. pending_of g m d) fresh.grown.mine ∙ pending_of-snoc p.mine x g d)
    (λ is. is ∙ sym (ap gives_of fresh.grown.mine ∙ fold-append (λ n (y : Entry). gives_after n y.event) 0 p.mine (x ∷ [])))
  where
    small : (a b c d : ℕ) → a ≡ b → b < c → c ≤ d → a < d
    small a b c d h k l = omega arith

-- one was given back
pub whole_remove : (g : Machine) (p q : Known) (e : ℕ) (u : UrbId) (c : Code) (bs cs : List (Buffer ℕ)) (given : ℕ) → Fresh g p q (entry p.number (Give u) (Status c) None ∷ []) → home_of g u.0 ≡ e → e < length g.layout.shapes
    → IsWholeServer g p (pending_at bs) given (λ m. HasRooms m bs)
    → ((b : Buffer ℕ) → slice_get bs e ≡ Some b → cs ≡ set bs e (buffer (without u.0 b.items) b.capacity)) → IsWholeServer g q (pending_at cs) (given + 1) (λ m. HasRooms m cs)
whole_remove g p q e u c bs cs given fresh home lt whole put =
    let x : Entry = entry p.number (Give u) (Status c) None in
    let f : List ℕ → List ℕ = without u.0 in
    let at = there g p q e bs cs f given (given + 1) whole.room lt in
    changed g p q e bs cs f given (given + 1) lt whole fresh.grown.number (put (get_or bs e none_buffer) at)
    (λ d. ap (λ m. pending_of g m d) fresh.grown.mine ∙ (pending_of-snoc p.mine x g d ∙ ap (λ k. cond (eqb k d) (f (pending_of g p.mine d)) (pending_of g p.mine d)) home))
    (λ is. ap (λ n. n + 1) is ∙ sym (ap gives_of fresh.grown.mine ∙ fold-append (λ n (y : Entry). gives_after n y.event) 0 p.mine (x ∷ [])))

same_gives : (n : ℕ) (m : List Entry) → fold (λ k (x : Entry). server.give_after k x.event) n m ≡ fold (λ k (x : Entry). gives_after k x.event) n m
same_gives n [] = refl
same_gives n (x ∷ xs) = ap (λ k. fold (λ j (y : Entry). server.give_after j y.event) k xs) (same x.event) ∙ same_gives (gives_after n x.event) xs
  where
    same : (e : Event) → server.give_after n e ≡ gives_after n e
    same (Give u) = refl
    same _ = refl

pub gives_same : (m : List Entry) → server.gives_of m ≡ gives_of m
gives_same m = same_gives 0 m

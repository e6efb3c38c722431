-- What completing a giveback over a host's side does to the server's entries.
use Rattle.std.proofs.Common.{◌≡◌, ℕ, cond, Option, Some, None, Result, Ok, Err, List, [], ◌∷◌, ◌++◌, sym, refl, ap, ◌∙◌, subst, append_assoc, append-nil}
use Rattle.usb_types.specs.declared.urb.UrbId.{UrbId}
use Rattle.usb_types.specs.declared.urb.Action.{Action}
use Rattle.usb_types.specs.declared.urb.Action.TheVariants as action
use Rattle.usb_types.specs.declared.errno.Code.{Code}
use Rattle.usb_types.specs.declared.errno.Code.TheVariants.{Zero, Fault}
use Rattle.usb_types.specs.declared.errno.Errno.{Errno}
use Rattle.usb_types.specs.declared.outside.Memory.{Memory}
use Rattle.usb_machine.specs.declared.entry.TheConstants.{SERVER}
use Rattle.usb_machine.specs.declared.entry.Entry.{Entry}
use Rattle.usb_machine.specs.declared.event.Event.TheVariants.{Rest, End}
use Rattle.usb_machine.specs.declared.event.Answer.TheVariants.{Nothing}
use Rattle.usb_machine.specs.declared.transfer.Transfer.{Transfer}
use Rattle.usb_machine.specs.History.{Machine}
use Rattle.usb_machine.specs.Calls.{entry, plain_entry, submit_entries}
use Rattle.usb_machine.specs.Fresh.{Known, Grown, Sound, Fresh}
use Rattle.usb_machine.specs.HostCalls.{fault_at, shape_of}
use Rattle.usb_machine.proofs.Growing.{grown_more}
use Rattle.usb_serve.specs.declared.handler.Outcome.{Outcome}
use Rattle.usb_serve.specs.declared.handler.Outcome.TheVariants as outcome
use Rattle.usb_serve.specs.Handlers.{windowed, code_in}
use Rattle.usb_serve.specs.Completing.{Asks, Acts, Again, Completes}
use Rattle.usb_side.specs.Side.{SideRests, SideSubmits, SideEnds, SubmitsOr}
use Rattle.std.proofs.Common.{Bool, true, false}
use Rattle.usb_machine.specs.State.{is_zero}
use Rattle.usb_machine.specs.declared.event.Event.TheVariants.{Submit, Link}
use Rattle.usb_machine.specs.declared.event.Answer.TheVariants.{Code as Status}
use Rattle.usb_serve.specs.Held.{Agrees}
use Rattle.usb_serve.specs.declared.controller.Controller.{Controller}
use Rattle.usb_side.specs.Side.{side_knows}
use Rattle.usb_machine.proofs.Over.{AllAre, all_append}
use Rattle.usb_side.proofs.Staying.{IsHandlers, agrees_over, so_over}
use Rattle.usb_serve.specs.SoFar.{IsSoFar}
use Rattle.usb_xfer.specs.Replies.{Reply}
use Rattle.std.proofs.Common.{not}
use Rattle.std.proofs.lemmas.List.Elements.{filter-append}
use Rattle.usb_machine.specs.declared.event.Event.{Event}
use Rattle.usb_machine.specs.declared.event.Event.TheVariants.{Take, Finish, Give}
use Rattle.usb_machine.specs.declared.event.Answer.{Answer}
use Rattle.usb_xfer.specs.Moved.{moved}
use Rattle.usb_side.specs.Round.{GaveBack, is_aside, of_givebacks, given_entries}
use Rattle.usb_side.specs.Handled.{Gave, Handled, Handles, Came, IsFaultOf, SaysFaults, handled_by, submit_of, rest_entry, asked_entries}

submit_all : (fault : Option Errno) (u : ℕ) (t : Transfer) (a : Code) → AllAre IsHandlers (submit_of fault u t a)
submit_all (Some e) u t a = tt
submit_all None u t a = go (is_zero a)
  where
    go : (b : Bool) → AllAre IsHandlers (entry SERVER (Submit record { 0 = u } t.number) (Status a) (Some t) ∷ cond b (plain_entry SERVER (Link record { 0 = u }) ∷ []) [])
    go true = (tt, (tt, tt))
    go false = (tt, tt)

handled_all : (g : Machine) (u : ℕ) (back again : Transfer) (q : Option (UrbId × Transfer)) (o : Outcome) → AllAre IsHandlers (handled_by g u back again q o)
handled_all g u back again q outcome.Rested = (tt, tt)
handled_all g u back again q (outcome.Again a) = all_append IsHandlers (submit_of (fault_at (shape_of g u) again) u again a) (cond (is_zero a) [] (rest_entry u again ∷ [])) (submit_all (fault_at (shape_of g u) again) u again a) (go (is_zero a))
  where
    go : (b : Bool) → AllAre IsHandlers (cond b [] (rest_entry u again ∷ []))
    go true = tt
    go false = (tt, tt)
handled_all g u back again q (outcome.Asked a) = (tt, go q)
  where
    go : (q : Option (UrbId × Transfer)) → AllAre IsHandlers (asked_entries g q a)
    go None = tt
    go (Some q) = submit_all (fault_at (shape_of g q.0.0) q.1) q.0.0 q.1 a

module _ {X : Type 0} (machine_of : X → Machine) (here : X) where
  abbrev g : Machine
  g = machine_of here

  module _ {B : Type 0} (host : B → X) (known : B → Known) where
    abbrev machine : B → Machine
    machine s = machine_of (host s)

    -- the pass has number SERVER, and made these entries between two sides of the machine
    pub record Made (s t : B) (more : List Entry) : Type 0 where
      pub host_so : host t ≡ here
      pub machine_so : machine t ≡ g
      pub number : (known t).number ≡ SERVER
      pub grown : Grown (known s) (known t) more
      pub sound : Sound g (known t)

    then_so : (s t u : B) (xs ys : List Entry) → Made s t xs → Made t u ys → Made s u (xs ++ ys)
    then_so s t u xs ys a b = record { host_so = b.host_so; machine_so = b.machine_so; number = b.number; grown = grown_more (known s) (known t) (known u) xs ys a.grown b.grown; sound = b.sound }

    fresh_so : (s t : B) (more : ℕ → List Entry) → host s ≡ here → (known s).number ≡ SERVER → host t ≡ host s → Fresh (machine s) (known s) (known t) (more (known s).number) → Made s t (more SERVER)
    fresh_so s t more m n same f = record { host_so = same ∙ m; machine_so = ap machine_of (same ∙ m); number = f.grown.number ∙ n; grown = subst (λ k. Grown (known s) (known t) (more k)) n f.grown; sound = subst (λ k. Sound k (known t)) (ap machine_of m) f.sound }

    module _ (rests : B → UrbId → Transfer → B → Type 0) (submits : B → UrbId → Transfer → Option Errno → B → Type 0) (ends : B → UrbId → B → Type 0)
        (rest_is : (s : B) (u : UrbId) (t : Transfer) (z : B) → rests s u t z → SideRests machine_of (host s) (host z) (known s) (known z) u t)
        (submit_is : (s : B) (u : UrbId) (t : Transfer) (r : Option Errno) (z : B) → submits s u t r z → SideSubmits machine_of (host s) (host z) (known s) (known z) u t r)
        (end_is : (s : B) (u : UrbId) (z : B) → ends s u z → SideEnds machine_of (host s) (host z) (known s) (known z) u) where
      rested : (s : B) (u : UrbId) (t : Transfer) (z : B) → host s ≡ here → (known s).number ≡ SERVER → rests s u t z → Made s z (rest_entry u.0 t ∷ [])
      rested s u t z m n r = let k = rest_is s u t z r in fresh_so s z (λ n. entry n (Rest u t.number) Nothing (Some t) ∷ []) m n k.same k.fresh

      ended : (s : B) (u : UrbId) (z : B) → host s ≡ here → (known s).number ≡ SERVER → ends s u z → Made s z (plain_entry SERVER (End u) ∷ [])
      ended s u z m n e = let k = end_is s u z e in fresh_so s z (λ n. plain_entry n (End u) ∷ []) m n k.same k.fresh

      submitted : (s : B) (u : UrbId) (t : Transfer) (r : Option Errno) (z : B) → host s ≡ here → (known s).number ≡ SERVER → submits s u t r z
          → Made s z (submit_of (fault_at (shape_of g u.0) t) u.0 t (code_in r)) × IsFaultOf (fault_at (shape_of g u.0) t) (code_in r)
      submitted s u t r z m n k = let k = submit_is s u t r z k in
          subst (λ f. Made s z (submit_of (fault_at (shape_of f u.0) t) u.0 t (code_in r)) × IsFaultOf (fault_at (shape_of f u.0) t) (code_in r)) (ap machine_of m) (go (fault_at (shape_of (machine s) u.0) t) k.submitted)
        where
          go : (fault : Option Errno) → SubmitsOr (machine s) (known s) (known z) u.0 t fault r → Made s z (submit_of fault u.0 t (code_in r)) × IsFaultOf fault (code_in r)
          go (Some e) l = (record { host_so = (submit_is s u t r z k).same ∙ m; machine_so = ap machine_of ((submit_is s u t r z k).same ∙ m); number = l.1.grown.number ∙ n; grown = l.1.grown; sound = subst (λ f. Sound f (known z)) (ap machine_of m) l.1.sound }, ap code_in l.0)
          go None f = (fresh_so s z (λ n. submit_entries n u.0 t (code_in r)) m n (submit_is s u t r z k).same f, tt)

      -- what was submitted again, with the answer to that
      pub record Resent (u : UrbId) (t back : Transfer) (s : B) (o : Outcome) (z : B) : Type 0 where
        pub answer : Code
        pub is : outcome.Again answer ≡ o
        pub made : Made s z (handled_by g u.0 back t None o)
        pub faults : SaysFaults g u.0 t None o

      again_so : (s : B) (u : UrbId) (t : Transfer) (o : Outcome) (z : B) → host s ≡ here → (known s).number ≡ SERVER → Again rests submits u t s o z → (back : Transfer) → Resent u t back s o z
      again_so s u t _ z m n (Again.accepted _ k) back = let a = submitted s u t None z m n k in
          record { answer = Zero; is = refl; made = subst (λ xs. Made s z xs) (sym (append-nil (submit_of (fault_at (shape_of g u.0) t) u.0 t Zero))) a.0; faults = a.1 }
      again_so s u t _ z m n (Again.rejected errno c _ k r) back = let a = submitted s u t (Some errno) c m n k in
          record { answer = Fault errno; is = refl; made = then_so s c z (submit_of (fault_at (shape_of g u.0) t) u.0 t (Fault errno)) (rest_entry u.0 t ∷ []) a.0 (rested c u t z a.0.host_so a.0.number r); faults = a.1 }

      module _ {K : Type 0} (completes : K → UrbId → Code → Transfer → Result Action Memory → K → Type 0) (asks : K → Option (UrbId × Transfer) → K → Type 0) (unasks : K → Transfer → K → Type 0) where
        -- what the handler did before its end, with its entries
        pub record Acted (s m : B) (u : UrbId) (code : Code) (t : Transfer) (h : K) (o : Outcome) (k : K) : Type 0 where
          pub again : Transfer
          pub asking : Option (UrbId × Transfer)
          pub handles : Handles completes asks unasks h u code t asking again o k
          pub faults : SaysFaults g u.0 again asking o
          pub made : Made s m (handled_by g u.0 t again asking o)

        -- what was asked after the transfer rested
        asks_so : (r s z : B) (u : UrbId) (code : Code) (t : Transfer) (h i k : K) (o : Outcome) → Made r s (rest_entry u.0 t ∷ []) → completes h u code t (Ok action.Ask) i → Asks submits asks unasks s i o z k → Acted r z u code t h o k
        asks_so r s z u code t h i k _ made c (Asks.silent _ a) = record { again = t; asking = None; handles = Handles.silent i k c a; faults = tt; made = made }
        asks_so r s z u code t h i k _ made c (Asks.asked v q _ _ a sent) = let l = submitted s v q None z made.host_so made.number sent in
            record { again = t; asking = Some (v, q); handles = Handles.asked i k v q c a; faults = l.1; made = then_so r s z (rest_entry u.0 t ∷ []) (submit_of (fault_at (shape_of g v.0) q) v.0 q Zero) made l.0 }
        asks_so r s z u code t h i k _ made c (Asks.refused v q errno j _ _ a sent w) = let l = submitted s v q (Some errno) z made.host_so made.number sent in
            record { again = t; asking = Some (v, q); handles = Handles.refused i j k v q errno c a w; faults = l.1; made = then_so r s z (rest_entry u.0 t ∷ []) (submit_of (fault_at (shape_of g v.0) q) v.0 q (Fault errno)) made l.0 }

        -- what the handler did before its end, also where it lacks memory
        abbrev pub ActedBy : (s m : B) (u : UrbId) (code : Code) (t : Transfer) (h : K) (r : Result Outcome Memory) (k : K) → Type 0
        ActedBy s m u code t h (Ok o) k = Acted s m u code t h o k
        ActedBy s m u code t h (Err lack) k = completes h u code t (Err lack) k × Made s m (rest_entry u.0 t ∷ [])

        acts_so : (s m : B) (u : UrbId) (code : Code) (t : Transfer) (h k : K) (r : Result Outcome Memory) → host s ≡ here → (known s).number ≡ SERVER → Acts rests submits completes asks unasks u code t s h r m k → ActedBy s m u code t h r k
        acts_so s m u code t h k _ same server (Acts.rested _ _ c rest) = record { again = t; asking = None; handles = Handles.rested k c; faults = tt; made = rested s u t m same server rest }
        acts_so s m u code t h k _ same server (Acts.again from len _ _ p c again) = let w = again_so s u (windowed from len t) p m same server again t in
            record { again = windowed from len t; asking = None; handles = subst (λ o. Handles completes asks unasks h u code t None (windowed from len t) o k) w.is (Handles.again from len w.answer k c); faults = w.faults; made = w.made }
        acts_so s m u code t h k _ same server (Acts.asking i _ b _ p c rest question) = asks_so s b m u code t h i k p (rested s u t b same server rest) c question
        acts_so s m u code t h k _ same server (Acts.lacking lack _ _ c rest) = (c, rested s u t m same server rest)

        came_by : (s m z : B) (u : UrbId) (code : Code) (t : Transfer) (h k : K) (r : Result Outcome Memory) → ActedBy s m u code t h r k → ends m u z → Came g completes asks unasks (known s) (known z) u code t h r k × (host z ≡ here)
        came_by s m z u code t h k (Ok o) a e = let all = then_so s m z (handled_by g u.0 t a.again a.asking o) (plain_entry SERVER (End u) ∷ []) a.made (ended m u z a.made.host_so a.made.number e) in
            (record { again = a.again; asking = a.asking; handles = a.handles; faults = a.faults; grown = all.grown; sound = all.sound }, all.host_so)
        came_by s m z u code t h k (Err lack) a e = let all = then_so s m z (rest_entry u.0 t ∷ []) (plain_entry SERVER (End u) ∷ []) a.1 (ended m u z a.1.host_so a.1.number e) in
            (record { completed = a.0; grown = all.grown; sound = all.sound }, all.host_so)

        came_here : (s z : B) (u : UrbId) (code : Code) (t : Transfer) (h k : K) (r : Result Outcome Memory) → host s ≡ here → (known s).number ≡ SERVER → Completes rests submits ends completes asks unasks u code t s h r z k → Came g completes asks unasks (known s) (known z) u code t h r k × (host z ≡ here)
        came_here s z u code t h k r same server c = came_by s c.middle z u code t h k r (acts_so s c.middle u code t h k r same server c.acts) c.ended

        pub came_so : (s z : B) (u : UrbId) (code : Code) (t : Transfer) (h k : K) (r : Result Outcome Memory) → host s ≡ here → (known s).number ≡ SERVER → Completes rests submits ends completes asks unasks u code t s h r z k → Came g completes asks unasks (known s) (known z) u code t h r k
        came_so s z u code t h k r same server c = (came_here s z u code t h k r same server c).0

        pub host_stays : (s z : B) (u : UrbId) (code : Code) (t : Transfer) (h k : K) (r : Result Outcome Memory) → host s ≡ here → (known s).number ≡ SERVER → Completes rests submits ends completes asks unasks u code t s h r z k → host z ≡ here
        host_stays s z u code t h k r same server c = (came_here s z u code t h k r same server c).1

handlers_given : (xs : List Entry) → AllAre IsHandlers xs → of_givebacks xs ≡ xs
handlers_given [] a = refl
handlers_given (x ∷ xs) a = ap (λ b. cond (not b) (x ∷ of_givebacks xs) (of_givebacks xs)) (go x.event x.answer a.0) ∙ ap (λ l. x ∷ l) (handlers_given xs a.1)
  where
    go : (e : Event) (a : Answer) → IsHandlers e a → is_aside e a ≡ false
    go (Take v) a is = absurd is
    go (Finish v c) a is = absurd is
    go _ a is = refl

-- the entries that a completion adds, by what it comes to
pub came_more : {K : Type 0} (g : Machine) (completes : K → UrbId → Code → Transfer → Result Action Memory → K → Type 0) (asks : K → Option (UrbId × Transfer) → K → Type 0) (unasks : K → Transfer → K → Type 0) (p q : Known) (u : UrbId) (code : Code) (t : Transfer) (h : K) (r : Result Outcome Memory) (k : K)
    → Came g completes asks unasks p q u code t h r k → (more : List Entry) × Grown p q more × AllAre IsHandlers more × Sound g q
came_more g completes asks unasks p q u code t h (Ok o) k c =
    let hs : List Entry = handled_by g u.0 t c.again c.asking o in
    (hs ++ plain_entry SERVER (End u) ∷ [], c.grown, all_append IsHandlers hs (plain_entry SERVER (End u) ∷ []) (handled_all g u.0 t c.again c.asking o) (tt, tt), c.sound)
came_more g completes asks unasks p q u code t h (Err lack) k c = (rest_entry u.0 t ∷ plain_entry SERVER (End u) ∷ [], c.grown, (tt, (tt, tt)), c.sound)

-- with or without memory, a controller and the server agree as before, and the replies so far are the same
module _ {K D : Type 0} (g : Machine) (completes : K → UrbId → Code → Transfer → Result Action Memory → K → Type 0) (asks : K → Option (UrbId × Transfer) → K → Type 0) (unasks : K → Transfer → K → Type 0) (p q : Known) (u : UrbId) (code : Code) (t : Transfer) (h : K) (r : Result Outcome Memory) (k : K) (d : Controller D)
    (server : p.number ≡ SERVER) (sound : Sound g p) (came : Came g completes asks unasks p q u code t h r k) (n l : ℕ) (P Q : Type 0) (X Y : ℕ → Type 0) where
  pub came_agrees : Q → Agrees (side_knows g p n P X) d → Agrees (side_knows g q l Q Y) d
  came_agrees whole a = let w = came_more g completes asks unasks p q u code t h r k came in agrees_over g p q server sound w.3 w.0 w.1 w.2 n l P Q X Y d whole a

  pub came_replies : (so : ℕ → List Reply) → Agrees (side_knows g p n P X) d → IsSoFar (side_knows g p n P X) so d.ends.items → IsSoFar (side_knows g q l Q Y) so d.ends.items
  came_replies so a is = let w = came_more g completes asks unasks p q u code t h r k came in so_over g p q server sound w.3 w.0 w.1 w.2 n l P Q X Y d so a is

-- a giveback and its handler together
pub gave_of : {K : Type 0} (g : Machine) (completes : K → UrbId → Code → Transfer → Result Action Memory → K → Type 0) (asks : K → Option (UrbId × Transfer) → K → Type 0) (unasks : K → Transfer → K → Type 0) (p m q : Known) (u : UrbId) (status : Code) (t : Transfer) (h : K) (o : Outcome) (k : K)
    → GaveBack g p m u.0 status (Some t) → Handled g completes asks unasks m q u status t h o k → Gave g completes asks unasks p q u status h o k
gave_of g completes asks unasks p m q u status t h o k b d =
    let back : Transfer = moved b.shape b.sent b.replies in
    let both : Some t ≡ Some back = b.back in
    let is : t ≡ back = cc in
    let hs : List Entry = handled_by g u.0 t d.again d.asking o ++ plain_entry SERVER (End u) ∷ [] in
    let all : AllAre IsHandlers hs = all_append IsHandlers (handled_by g u.0 t d.again d.asking o) (plain_entry SERVER (End u) ∷ []) (handled_all g u.0 t d.again d.asking o) (tt, tt) in
    record {
      finished = b.finished;
      shape = b.shape;
      sent = b.sent;
      replies = b.replies;
      again = d.again;
      asking = d.asking;
      more = b.more ++ hs;
      grown = grown_more p m q b.more hs b.grown d.grown;
      sound = d.sound;
      entries = filter-append (λ (x : Entry). not (is_aside x.event x.answer)) b.more hs ∙ (ap (λ l. l ++ of_givebacks hs) b.entries ∙ (ap (λ l. given_entries u.0 status b.finished ++ l) (handlers_given hs all)
          ∙ ap (λ r. given_entries u.0 status b.finished ++ (handled_by g u.0 r d.again d.asking o ++ plain_entry SERVER (End u) ∷ [])) is));
      before = b.before;
      behind = d.grown.begins.more;
      late = b.late;
      split = d.grown.begins.is ∙ (ap (λ l. l ++ d.grown.begins.more) b.split ∙ append_assoc b.before (entry SERVER (Give u) (Status status) None ∷ []) d.grown.begins.more);
      was_sent = b.was_sent;
      first = b.first;
      state = b.state;
      whole = b.whole;
      handles = subst (λ r. Handles completes asks unasks h u status r d.asking d.again o k) is d.handles;
      faults = d.faults;
    }

-- pairs that are the same, part by part
pub first_same : {X Y : Type 0} {a c : X} {b d : Y} → ◌≡◌ {A = X × Y} (a, b) (c, d) → a ≡ c
first_same {X} {Y} is = ap (λ (p : X × Y). p.0) is

pub second_same : {X Y : Type 0} {a c : X} {b d : Y} → ◌≡◌ {A = X × Y} (a, b) (c, d) → b ≡ d
second_same {X} {Y} is = ap (λ (p : X × Y). p.1) is

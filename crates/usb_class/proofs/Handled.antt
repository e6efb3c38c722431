-- What the completion handlers need of the cores, and which URBs drivers ask with.
use Rattle.std.proofs.Common.{ℕ, zero, suc, ◌≡◌, ◌+◌, ◌<◌, Bool, true, false, cond, Option, Some, None, List, [], ◌∷◌, ◌++◌, length, get_or, refl, sym, ap, ◌∙◌, subst, arith, true≢false}
use Rattle.std.specs.List.{cons_option}
use Rattle.std.specs.Prelude.{slice_get, slice_set, filter_map, Contains, option_map, option_and_then}
use Rattle.usb_types.specs.declared.errno.Code.{Code}
use Rattle.usb_types.specs.declared.urb.Role.{Role}
use Rattle.usb_types.specs.declared.urb.Action.{Action}
use Rattle.usb_types.specs.declared.urb.Action.TheVariants.{Rest, Again, Ask}
use Rattle.usb_machine.specs.declared.transfer.Transfer.{Transfer}
use Rattle.usb_machine.specs.Shapes.{HasWindow}
use Rattle.usb_machine.specs.Completion.{Completion}
use Rattle.usb_serve.specs.Handlers.{FitsAgain}
use Rattle.usb_bind.specs.declared.row.Driver.{Driver}
use Rattle.usb_bind.specs.declared.row.Driver.TheVariants.{Keyboard, Acm, Printer}
use Rattle.usb_printer.specs.Requests.{question_of}
use Rattle.usb_class.specs.declared.class_core.Core.{Core}
use Rattle.usb_class.specs.declared.class_core.Core.TheVariants.{Keyboard as KeyboardCore, Acm as AcmCore, Printer as PrinterCore}
use Rattle.usb_class.specs.declared.owner.Owner.{Owner}
use Rattle.usb_class.specs.declared.handlers.HandledUrb.{HandledUrb}
use Rattle.usb_class.specs.declared.handlers.Asker.{Asker}
use Rattle.usb_class.specs.declared.handlers.Asker.TheVariants.{Nobody, MayAsk, Asked}
use Rattle.std.proofs.lemmas.Option.{slice_get-get_or}
use Rattle.usb_class.specs.declared.class_core.Told.{Told}
use Rattle.usb_class.specs.declared.handlers.Handlers.{Handlers}
use Rattle.usb_class.specs.Told.{told_of}
use Rattle.usb_class.specs.Handlers.{ctl_of, asking_urb, questioner, GaveQuestion, AsksBy, AsksAt, Asks, AreTold}
use Rattle.usb_class.specs.Handler.{action_of}
use Rattle.usb_types.specs.declared.urb.UrbId.{UrbId}
use Rattle.usb_class.specs.Origin.{Origin}
use Rattle.usb_class.specs.Core.{IsCore, driver_in, open_question, CanUnask}
use Rattle.usb_class.proofs.Facts.{is_write, again_within, question_is}

-- a core has one driver
pub driver_is : (driver : Driver) (o : Origin) (done : List Completion) (core : Core) → IsCore driver o done core → driver_in core ≡ driver
driver_is Keyboard o done (KeyboardCore kept) is = refl
driver_is Acm o done (AcmCore kept) is = refl
driver_is Printer o done (PrinterCore kept) is = refl
driver_is driver o done core is = absurd is

-- the window of a transfer that goes again lies in its buffer
pub fits : (driver : Driver) (role : Role) (status : Code) (t : Transfer) (a : Action) → a ≡ action_of driver role status t → FitsAgain t a
fits driver role status t Rest is = tt
fits driver role status t Ask is = tt
fits driver role status t (Again from len) is = again_within driver role status t from len (sym is) (is_write role) refl

-- the question that a core may take back is the one that is out
pub out_is : (core : Core) (t : Transfer) → CanUnask core t → open_question core ≡ Some t
out_is (PrinterCore kept) t is = ap (λ b. cond b (Some (question_of kept.number kept.interface)) None) is.0 ∙ ap Some (sym is.1)
out_is (KeyboardCore kept) t is = absurd is
out_is (AcmCore kept) t is = absurd is

pub can_unask : (core : Core) (t : Transfer) → open_question core ≡ Some t → CanUnask core t
can_unask (KeyboardCore kept) t is = cc
can_unask (AcmCore kept) t is = cc
can_unask (PrinterCore kept) t is = go kept.out refl is
  where
    go : (b : Bool) → kept.out ≡ b → cond b (Some (question_of kept.number kept.interface)) None ≡ Some t → (kept.out ≡ true) × (t ≡ question_of kept.number kept.interface)
    go true e f = let same : question_of kept.number kept.interface ≡ t = cc in (e, sym same)
    go false e f = cc

-- nothing of it is moved, and its window lies in its buffer
pub unmoved : (core : Core) (t : Transfer) → CanUnask core t → HasWindow t × (t.actual ≡ 0)
unmoved (PrinterCore kept) t is = let q = question_is kept.number kept.interface t (sym is.1) in (q.window, q.unmoved)
unmoved (KeyboardCore kept) t is = absurd is
unmoved (AcmCore kept) t is = absurd is

-- which URBs drivers ask with stays where an URB keeps its owner
pub kept_same : (rows : List HandledUrb) (k : ℕ) (x y : HandledUrb) → k < length rows → x ≡ get_or rows k x → y.owner ≡ x.owner → filter_map asking_urb (slice_set rows k y) ≡ filter_map asking_urb rows
kept_same [] k x y near at is = refl
kept_same (z ∷ rows) zero x y near at is = ap (λ o. cons_option o (filter_map asking_urb rows)) (ap asking_by is ∙ ap asking_urb at)
  where
    asking_by : Option Owner → Option ℕ
    asking_by o = asking_urb (record { owner = o; again = 0 })
kept_same (z ∷ rows) (suc k) x y near at is = ap (λ l. cons_option (asking_urb z) l) (kept_same rows k x y (omega arith) at is)

contains_kept : {X Y : Type 0} (f : X → Option Y) (xs : List X) (k : ℕ) (x : X) (y : Y) → slice_get xs k ≡ Some x → f x ≡ Some y → Contains (filter_map f xs) y
contains_kept f [] k x y at is = cc
contains_kept {X} {Y} f (z ∷ xs) zero x y at is =
    let same : z ≡ x = cc in
    subst (λ (o : Option Y). Contains (cons_option o (filter_map f xs)) y) (sym (ap f same ∙ is)) (0, omega arith, refl)
contains_kept {X} {Y} f (z ∷ xs) (suc k) x y at is = go (f z) (contains_kept f xs k x y at is)
  where
    go : (o : Option Y) → Contains (filter_map f xs) y → Contains (cons_option o (filter_map f xs)) y
    go None there = there
    go (Some w) there = let near = there.1 in (suc there.0, omega arith, there.2)

-- the URB that a driver asks with is one of those
pub asks_with_its : (rows : List HandledUrb) (asker : Asker) (place : ℕ) (urb : UrbId) → questioner rows asker ≡ Some (place, urb) → Contains (filter_map asking_urb rows) urb.0
asks_with_its rows Nobody place urb is = cc
asks_with_its rows (Asked p) place urb is = cc
asks_with_its rows (MayAsk u) place urb is = go (slice_get rows u.0) refl is
  where
    go : (o : Option HandledUrb) → slice_get rows u.0 ≡ o → option_and_then ctl_of o ≡ Some (place, urb) → Contains (filter_map asking_urb rows) urb.0
    go None at e = cc
    go (Some row) at e = contains_kept asking_urb rows u.0 row urb.0 at (ap (λ o. option_map (λ (c : ℕ × UrbId). c.1.0) o) e)

-- the core that was asked may take its question back
pub question_there : (cores : List Core) (place : ℕ) (after : Core) (t : Transfer) → place < length cores → CanUnask after t → option_and_then open_question (slice_get (slice_set cores place after) place) ≡ Some t
question_there [] place after t near can = absurd (omega arith)
question_there (c ∷ cores) zero after t near can = out_is after t can
question_there (c ∷ cores) (suc k) after t near can = question_there cores k after t (omega arith) can

-- an item that is put where it stood
set_same : {X : Type 0} (xs : List X) (k : ℕ) (x y : X) → x ≡ get_or xs k x → y ≡ x → k < length xs → slice_set xs k y ≡ xs
set_same [] k x y at is near = refl
set_same (z ∷ xs) zero x y at is near = ap (λ w. w ∷ xs) (is ∙ at)
set_same (z ∷ xs) (suc k) x y at is near = ap (λ l. z ∷ l) (set_same xs k x y at is (omega arith))

-- the driver that may ask has no question to ask
pub none_asked : (old new : Handlers) (place : ℕ) (urb : UrbId) (core after : Core) → questioner old.urbs.items old.asker ≡ Some (place, urb) → place < length old.cores.items → core ≡ get_or old.cores.items place core → after ≡ core
    → new.cores.items ≡ slice_set old.cores.items place after → new.urbs.items ≡ old.urbs.items → new.asker ≡ Nobody → GaveQuestion core core None → Asks old None new
none_asked old new place urb core after by near at kept cores urbs asker gave =
    subst (λ (a : Option (ℕ × UrbId)). AsksAt old a None new) (sym by)
    (subst (λ (o : Option Core). AsksBy old place urb o None new) (sym (slice_get-get_or old.cores.items place core near ∙ ap Some (sym at)))
    (gave, (cores ∙ set_same old.cores.items place core after at kept near, urbs, asker)))

-- what is told is told of one core more
pairs_longer : (cores : List Core) (list : List Told) (core : Core) (t : Told) → AreTold cores list → ((driver : Driver) (o : Origin) (done : List Completion) → IsCore driver o done core → t ≡ told_of driver o done) → AreTold (cores ++ core ∷ []) (list ++ t ∷ [])
pairs_longer [] [] core t are tells = record { all = refl; each = λ k c x at there. one k c x at there }
  where
    one : (k : ℕ) (c : Core) (x : Told) → slice_get (core ∷ []) k ≡ Some c → slice_get (t ∷ []) k ≡ Some x → (driver : Driver) (o : Origin) (done : List Completion) → IsCore driver o done c → x ≡ told_of driver o done
    one zero c x at there driver o done is = let same : core ≡ c = cc in let told : t ≡ x = cc in sym told ∙ tells driver o done (subst (IsCore driver o done) (sym same) is)
    one (suc k) c x at there driver o done is = cc
pairs_longer [] (x ∷ list) core t are tells = let a = are.all in absurd (omega arith)
pairs_longer (c ∷ cores) [] core t are tells = let a = are.all in absurd (omega arith)
pairs_longer (c ∷ cores) (x ∷ list) core t are tells =
    let rest = pairs_longer cores list core t record { all = (let a = are.all in omega arith); each = λ k c x at there. are.each (suc k) c x at there } tells in
    record { all = (let a = rest.all in omega arith); each = each rest }
  where
    each : AreTold (cores ++ core ∷ []) (list ++ t ∷ []) → (k : ℕ) (d : Core) (y : Told) → slice_get (c ∷ cores ++ core ∷ []) k ≡ Some d → slice_get (x ∷ list ++ t ∷ []) k ≡ Some y → (driver : Driver) (o : Origin) (done : List Completion) → IsCore driver o done d → y ≡ told_of driver o done
    each rest zero d y at there = are.each zero d y at there
    each rest (suc k) d y at there = rest.each k d y at there

pub told_longer : (cores : List Core) (old new : List Told) (core : Core) (t : Told) → AreTold cores old → ((driver : Driver) (o : Origin) (done : List Completion) → IsCore driver o done core → t ≡ told_of driver o done) → new ≡ old ++ t ∷ [] → AreTold (cores ++ core ∷ []) new
told_longer cores old new core t are tells is = subst (AreTold (cores ++ core ∷ [])) (sym is) (pairs_longer cores old core t are tells)

-- Handlers that have come as far as some givebacks of a scene come one giveback further.
use Rattle.std.proofs.Common.{ℕ, zero, suc, ◌≡◌, ◌≢◌, ◌<◌, ◌+◌, ◌-◌, ◌||◌, Bool, true, false, cond, eqb, Option, Some, None, List, [], ◌∷◌, ◌++◌, length, refl, sym, ap, ◌∙◌, subst, arith, eq-eqb, ne_eqb}
use Rattle.std.specs.Prelude.{slice_get, slice_set, nat_lt, option_map, option_and_then, Ok}
use Rattle.std.proofs.lemmas.List.{length-set}
use Rattle.usb_types.specs.declared.errno.Errno.{Errno}
use Rattle.usb_types.specs.declared.errno.Code.{Code}
use Rattle.usb_types.specs.declared.errno.Code.TheVariants.{Zero, Fault}
use Rattle.usb_types.specs.declared.urb.UrbId.{UrbId}
use Rattle.usb_types.specs.declared.urb.Role.TheVariants.{Write}
use Rattle.usb_types.specs.declared.urb.Action.{Action}
use Rattle.usb_types.specs.declared.urb.Action.TheVariants as action
use Rattle.usb_machine.specs.declared.transfer.Transfer.{Transfer}
use Rattle.usb_bind.specs.declared.bound.Bound.{Bound}
use Rattle.usb_bind.specs.declared.row.Driver.{Driver}
use Rattle.usb_class.specs.declared.class_core.Core.{Core}
use Rattle.usb_class.specs.declared.owner.Owner.{Owner}
use Rattle.usb_class.specs.declared.handlers.HandledUrb.{HandledUrb}
use Rattle.usb_class.specs.declared.handlers.Handlers.{Handlers}
use Rattle.usb_class.specs.declared.handlers.Asker.TheVariants.{Asked}
use Rattle.usb_class.specs.Roles.{role_in}
use Rattle.usb_class.specs.Questions.{question_by, is_answer}
use Rattle.usb_class.specs.Handler.{action_of, is_ctl}
use Rattle.usb_class.specs.Core.{is_asking}
use Rattle.usb_class.specs.Handlers.{action_by, Noted, GaveQuestion, ctl_of, questioner, IsSilent, CameBack, CompletesAt, Completes, AskedAt, AsksBy, AsksAt, Asks, Unasks}
use Rattle.usb_class.proofs.Facts.{asks_by}
use Rattle.usb_class.proofs.Handled.{driver_is}
use Rattle.usb_scene.specs.declared.scene.Scene.{Scene}
use Rattle.usb_prepare.specs.Prepared.{bindings_of}
use Rattle.usb_prepare.specs.Layout.{urb_count}
use Rattle.usb_prepare.proofs.Below.{length-map_below, is-map_below}
use Rattle.usb_trace.specs.declared.rows.Outcome.{Outcome}
use Rattle.usb_trace.specs.declared.rows.Outcome.TheVariants as outcome
use Rattle.usb_trace.specs.Plan.{owner_of, again_of, origin_of, DriverQuestion, question_with, owner_question, question_at}
use Rattle.usb_trace.specs.Run.{Giveback, moved_in, times_back, is_accepted, may_again, is_out, question_out, asks_or_rests, acts, IsHandled, done_at}
use Rattle.usb_trace.specs.Handlers.{ShowsCores, handled_urb, new_handled, AreNewHandlers, AreHandlersOf, asked_with, Handles, rested, again, silent, asked, refused, IsAskedAfter}
use Rattle.usb_trace.proofs.Owners.{owner_bound}
use Rattle.usb_trace.proofs.CoresSeen.{some_at, more_left, times_push, owner_core, write_unanswered, Now, noted_out, unowned, unasked, replaced, replaced_again, settled_cores, at_here, or_false, or_true, noted_action, noted_cores}
use Rattle.usb_device.proofs.Lookups.{each_set}

-- what stands where an item was put
there_set : {X : Type 0} (xs : List X) (k : ℕ) (x y : X) → slice_get xs k ≡ Some x → slice_get (slice_set xs k y) k ≡ Some y
there_set [] k x y at = cc
there_set (z ∷ xs) zero x y at = refl
there_set (z ∷ xs) (suc k) x y at = there_set xs k x y at

-- the handlers that a scene begins with
pub begins : (s : Scene) (h : Handlers) → AreNewHandlers s h → AreHandlersOf s [] h
begins s h new = record {
  cores = record { all = new.all; each = new.each; out = new.quiet };
  all = ap (λ l. length l) new.urbs ∙ length-map_below (new_handled s) (urb_count s);
  each = λ u row at. is-map_below (new_handled s) (urb_count s) u row (ap (λ l. slice_get l u) (sym new.urbs) ∙ at) ∙ (λ i. record { owner = owner_of s u; again = none_back (again_of s u) i });
}
  where
    none_back : (n : ℕ) → n ≡ n - 0
    none_back n = omega arith

module _ (s : Scene) (rounds : List Giveback) (h : Handlers) (stands : AreHandlersOf s rounds h) (u : ℕ) (near : u < urb_count s) where
  row_at : slice_get h.urbs.items u ≡ Some (handled_urb s rounds u)
  row_at = let l : u < length h.urbs.items = subst (λ n. u < n) (sym stands.all) near in let r = some_at h.urbs.items u l in r.1 ∙ ap Some (stands.each u r.0 r.1)

  abbrev may_go : Bool
  may_go = nat_lt 0 (again_of s u - times_back u rounds)

  module _ (new : Handlers) (status : Code) (t : Transfer) (act : Action) (done : Completes h (record { 0 = u }) status t (Ok act) new) where
    pub came : CameBack h (record { 0 = u }) status t act (handled_urb s rounds u) new
    came = subst (λ (o : Option HandledUrb). CompletesAt h (record { 0 = u }) status t act o new) row_at done

    pub noted : Noted h.cores.items new.cores.items (owner_of s u) may_go status t act
    noted = came.decides.noted (owner_core s rounds h.cores.items stands.cores u (owner_of s u) refl)

    -- the action is the one of the URB's driver, or of its count
    pub acts_as : act ≡ action_by (owner_of s u) (may_again s rounds u) status t
    acts_as = go (owner_of s u) refl noted
      where
        go : (o : Option Owner) → owner_of s u ≡ o → Noted h.cores.items new.cores.items o may_go status t act → act ≡ action_by o (may_again s rounds u) status t
        go None e n = n.0 ∙ ap (λ b. action_by None b status t) (sym (more_left (again_of s u) (times_back u rounds)))
        go (Some o) e n =
            let b = owner_bound s u o e in
            n.4.0 ∙ ap (λ (d : Driver). action_of d o.role status t) (driver_is b.0.driver (origin_of s o.place) (done_at s o.place rounds) n.0 (stands.cores.each o.place n.0 b.0 n.2 b.1) ∙ b.2)

    pub acts_so : (a : Action) → act ≡ a → acts s rounds u status t ≡ asks_or_rests (question_at s u) (question_out s rounds (owner_of s u)) a
    acts_so a e = ap (λ x. asks_or_rests (question_at s u) (question_out s rounds (owner_of s u)) x) (sym acts_as ∙ e)

-- what becomes of an action that asks nothing
rest_stays : (asking : Option DriverQuestion) (out : Bool) → asks_or_rests asking out action.Rest ≡ action.Rest
rest_stays None true = refl
rest_stays None false = refl
rest_stays (Some a) true = refl
rest_stays (Some a) false = refl

again_stays : (asking : Option DriverQuestion) (out : Bool) (from len : ℕ) → asks_or_rests asking out (action.Again from len) ≡ action.Again from len
again_stays None true from len = refl
again_stays None false from len = refl
again_stays (Some a) true from len = refl
again_stays (Some a) false from len = refl

none_rests : (out : Bool) → asks_or_rests None out action.Ask ≡ action.Rest
none_rests true = refl
none_rests false = refl

out_rests : (asking : Option DriverQuestion) → asks_or_rests asking true action.Ask ≡ action.Rest
out_rests None = refl
out_rests (Some a) = refl

-- the handlers did what the scene says, and have come one giveback further
pub record Further (s : Scene) (rounds : List Giveback) (r : Giveback) (question : Option DriverQuestion) (new : Handlers) : Type 0 where
  pub handled : IsHandled (acts s rounds r.urb r.status (moved_in s r)) r.outcome
  pub asks : IsAskedAfter s r.urb question
  pub stand : AreHandlersOf s (rounds ++ r ∷ []) new

module _ (s : Scene) (rounds : List Giveback) (h : Handlers) (stands : AreHandlersOf s rounds h) (r : Giveback) (near : r.urb < urb_count s) where
  abbrev u : ℕ
  u = r.urb

  abbrev t : Transfer
  t = moved_in s r

  abbrev acts_now : Action
  acts_now = acts s rounds u r.status t

  -- the counts after it came back
  count_own : (again_of s u - times_back u rounds) - 1 ≡ again_of s u - times_back u (rounds ++ r ∷ [])
  count_own = let same = times_push u rounds r in let one = ap (λ b. cond {A = ℕ} b 1 0) (eq-eqb r.urb r.urb refl) in omega arith

  count_else : (v : ℕ) → v ≢ u → again_of s v - times_back v rounds ≡ again_of s v - times_back v (rounds ++ r ∷ [])
  count_else v off = let same = times_push v rounds r in let none = ap (λ b. cond {A = ℕ} b 1 0) (ne_eqb r.urb v (λ i. off (sym i))) in omega arith

  module _ (mid : Handlers) (act : Action) (done : Completes h (record { 0 = r.urb }) r.status (moved_in s r) (Ok act) mid) where
    abbrev lowered : HandledUrb
    lowered = record (handled_urb s rounds u) { again = (again_of s u - times_back u rounds) - 1 }

    back : CameBack h (record { 0 = r.urb }) r.status (moved_in s r) act (handled_urb s rounds u) mid
    back = came s rounds h stands r.urb near mid r.status (moved_in s r) act done

    each_row : (v : ℕ) (x : HandledUrb) → slice_get mid.urbs.items v ≡ Some x → x ≡ handled_urb s (rounds ++ r ∷ []) v
    each_row = each_set (λ v (x : HandledUrb). x ≡ handled_urb s rounds v) (λ v (x : HandledUrb). x ≡ handled_urb s (rounds ++ r ∷ []) v) h.urbs.items mid.urbs.items r.urb lowered back.counted stands.each
        (λ i. record (handled_urb s rounds u) { again = count_own i })
        (λ v x off was. was ∙ (λ i. record (handled_urb s rounds v) { again = count_else v off i }))

    all_rows : length mid.urbs.items ≡ urb_count s
    all_rows = ap (λ l. length l) back.counted ∙ (length-set h.urbs.items r.urb lowered ∙ stands.all)

    -- with these counts and cores that show the giveback
    stand_by : (new : Handlers) → new.urbs.items ≡ mid.urbs.items → ShowsCores s (rounds ++ r ∷ []) new.cores.items → AreHandlersOf s (rounds ++ r ∷ []) new
    stand_by new same cores = record {
      cores = cores;
      all = ap (λ l. length l) same ∙ all_rows;
      each = λ v x at. each_row v x (ap (λ l. slice_get l v) (sym same) ∙ at);
    }

    -- without a question
    quiet_cores : (new : Handlers) → new.cores.items ≡ mid.cores.items → is_accepted r.outcome ≡ false → ShowsCores s (rounds ++ r ∷ []) new.cores.items
    quiet_cores new same none = go (owner_of s r.urb) refl (noted s rounds h stands r.urb near mid r.status (moved_in s r) act done)
      where
        go : (o : Option Owner) → owner_of s r.urb ≡ o → Noted h.cores.items mid.cores.items o (may_go s rounds h stands r.urb near) r.status (moved_in s r) act → ShowsCores s (rounds ++ r ∷ []) new.cores.items
        go None e n = unowned s rounds r e h.cores.items new.cores.items stands.cores (same ∙ n.1)
        go (Some o) e n = unasked s rounds r o e mid.cores.items new.cores.items (noted_cores s rounds r o e h.cores.items mid.cores.items stands.cores (may_go s rounds h stands r.urb near) act n) same none

    quiet : (new : Handlers) → new.cores.items ≡ mid.cores.items → new.urbs.items ≡ mid.urbs.items → is_accepted r.outcome ≡ false → IsHandled acts_now r.outcome → Further s rounds r None new
    quiet new cores urbs none handled = record { handled = handled; asks = tt; stand = stand_by new urbs (quiet_cores new cores none) }

  -- the driver that has the URB may ask
  module _ (mid : Handlers) (done : Completes h (record { 0 = r.urb }) r.status (moved_in s r) (Ok action.Ask) mid) where
    its_owner : (o : Owner) × (owner_of s r.urb ≡ Some o)
    its_owner = go (owner_of s r.urb) refl (acts_as s rounds h stands r.urb near mid r.status (moved_in s r) action.Ask done)
      where
        never : {X : Type 0} (b : Bool) → action.Ask ≡ action_by None b r.status (moved_in s r) → X
        never true is = cc
        never false is = cc

        go : (o : Option Owner) → owner_of s r.urb ≡ o → action.Ask ≡ action_by o (may_again s rounds r.urb) r.status (moved_in s r) → (o : Owner) × (owner_of s r.urb ≡ Some o)
        go None e is = never (may_again s rounds r.urb) is
        go (Some o) e is = (o, e)

    abbrev o : Owner
    o = its_owner.0

    abbrev is : owner_of s r.urb ≡ Some o
    is = its_owner.1

    n : Noted h.cores.items mid.cores.items (Some o) (may_go s rounds h stands r.urb near) r.status (moved_in s r) action.Ask
    n = subst (λ x. Noted h.cores.items mid.cores.items x (may_go s rounds h stands r.urb near) r.status (moved_in s r) action.Ask) is (noted s rounds h stands r.urb near mid r.status (moved_in s r) action.Ask done)

    has : Now s rounds r o is (noted_out s rounds r o is) mid.cores.items
    has = noted_cores s rounds r o is h.cores.items mid.cores.items stands.cores (may_go s rounds h stands r.urb near) action.Ask n

    its_action : action.Ask ≡ action_of o.driver o.role r.status (moved_in s r)
    its_action = noted_action s rounds r o is h.cores.items mid.cores.items stands.cores (may_go s rounds h stands r.urb near) action.Ask n

    write : o.role ≡ Write
    write = (asks_by o.driver o.role r.status (moved_in s r) (sym its_action)).1

    no_answer : is_answer o.driver (origin_of s o.place) o.role (moved_in s r) ≡ false
    no_answer = ap (λ role. is_answer o.driver (origin_of s o.place) role (moved_in s r)) write ∙ write_unanswered o.driver (origin_of s o.place) (moved_in s r)

    abbrev out : Bool
    out = is_out s o.place rounds

    abbrev b : (b : Bound) × (slice_get (bindings_of s) o.place ≡ Some b) × (b.driver ≡ o.driver) × (role_in r.urb b ≡ Some o.role)
    b = owner_bound s r.urb o is

    known : (core : Core) → slice_get mid.cores.items o.place ≡ Some core → is_asking core ≡ out
    known core at = has.out o.place core at ∙ (at_here s rounds r o is (cond (is_answer o.driver (origin_of s o.place) o.role (moved_in s r)) false out) (λ j. is_out s j rounds) ∙ ap (λ b. cond b false out) no_answer)

    asking_so : (ctl : Option UrbId) (q : Option Transfer) → o.ctl ≡ ctl → question_by o.driver (origin_of s o.place) ≡ q → question_at s r.urb ≡ question_with ctl q
    unfolding question_at
    asking_so ctl q e f = ap (owner_question s) is ∙ (ap (λ b. cond b None (question_with o.ctl (question_by o.driver (origin_of s o.place)))) (ap is_ctl write) ∙ (λ i. question_with (e i) (f i)))

    acts_by : (asking : Option DriverQuestion) → question_at s r.urb ≡ asking → (w : Bool) → out ≡ w → acts_now ≡ asks_or_rests asking w action.Ask
    acts_by asking e w f = acts_so s rounds h stands r.urb near mid r.status (moved_in s r) action.Ask done action.Ask refl
        ∙ ((λ i. asks_or_rests (question_at s r.urb) (question_out s rounds (is i)) action.Ask) ∙ (λ i. asks_or_rests (e i) (f i) action.Ask))

    -- it asks with its own URB, if it has one
    abbrev asker : Option (ℕ × UrbId)
    asker = option_map (λ (urb : UrbId). (o.place, urb)) o.ctl

    asker_is : questioner mid.urbs.items mid.asker ≡ asker
    asker_is = ap (questioner mid.urbs.items) (back mid action.Ask done).may
        ∙ (ap (λ x. option_and_then ctl_of x) (ap (λ l. slice_get l r.urb) (back mid action.Ask done).counted ∙ there_set h.urbs.items r.urb (handled_urb s rounds r.urb) (lowered mid action.Ask done) (row_at s rounds h stands r.urb near))
        ∙ ap (λ (w : Option Owner). option_and_then (λ (o : Owner). option_map (λ (urb : UrbId). (o.place, urb)) o.ctl) w) is)

    -- the core of its driver
    its_core : slice_get mid.cores.items o.place ≡ Some n.1
    its_core = ap (λ l. slice_get l o.place) n.3 ∙ there_set h.cores.items o.place n.0 n.1 n.2

    got : (after : Core) (q : Option Transfer) → GaveQuestion n.1 after q → q ≡ cond out None (question_by o.driver (origin_of s o.place))
    got after q gave = (gave b.0.driver (origin_of s o.place) (done_at s o.place (rounds ++ r ∷ [])) (has.each o.place n.1 b.0 its_core b.1)).0
        ∙ (λ i. cond (known n.1 its_core i) None (question_by (b.2 i) (origin_of s o.place)))

    -- no question: there is none, or it is out
    module _ (new : Handlers) (rests : r.outcome ≡ outcome.Rest) where
      quiet_as : acts_now ≡ action.Rest → IsSilent mid new → Further s rounds r None new
      quiet_as acts same = quiet mid action.Ask done new same.0 same.1 (ap is_accepted rests)
          (subst (λ x. IsHandled acts_now x) (sym rests) (subst (λ a. IsHandled a outcome.Rest) (sym acts) tt))

      no_question : (ctl : Option UrbId) → o.ctl ≡ ctl → AsksAt mid (option_map (λ (urb : UrbId). (o.place, urb)) ctl) None new → Further s rounds r None new
      no_question None ctl by = quiet_as (by_out out refl) by.1
        where
          by_out : (w : Bool) → out ≡ w → acts_now ≡ action.Rest
          by_out true e = acts_by (question_at s r.urb) refl true e ∙ out_rests (question_at s r.urb)
          by_out false e = acts_by None (asking_so None (question_by o.driver (origin_of s o.place)) ctl refl) false e
      no_question (Some urb) ctl by =
          let there : AsksBy mid o.place urb (Some n.1) None new = subst (λ x. AsksBy mid o.place urb x None new) its_core by in
          quiet_as (by_out out refl (got n.1 None there.0)) there.1
        where
          by_out : (w : Bool) → out ≡ w → None ≡ cond w None (question_by o.driver (origin_of s o.place)) → acts_now ≡ action.Rest
          by_out true e g = acts_by (question_at s r.urb) refl true e ∙ out_rests (question_at s r.urb)
          by_out false e g = acts_by None (asking_so (Some urb) None ctl (sym g)) false e

      silently : Asks mid None new → Further s rounds r None new
      silently by = no_question o.ctl refl (subst (λ x. AsksAt mid x None new) asker_is by)

    -- a question was asked
    module _ (v : UrbId) (q : Transfer) (asking : Handlers) where
      abbrev its : DriverQuestion
      its = asked_with v q

      asked_core : (ctl : Option UrbId) → o.ctl ≡ ctl → AsksAt mid (option_map (λ (urb : UrbId). (o.place, urb)) ctl) (Some (v, q)) asking → (o.ctl ≡ Some v) × AskedAt mid o.place v n.1 q asking
      asked_core None ctl by = let no_ = by.0 in cc
      asked_core (Some urb) ctl by =
          let there : AsksBy mid o.place urb (Some n.1) (Some (v, q)) asking = subst (λ x. AsksBy mid o.place urb x (Some (v, q)) asking) its_core by in
          (ctl ∙ ap Some (sym there.0), subst (λ (w : UrbId). AskedAt mid o.place w n.1 q asking) (sym there.0) there.1)

      module _ (by : Asks mid (Some (v, q)) asking) where
        core_asked : (o.ctl ≡ Some v) × AskedAt mid o.place v n.1 q asking
        core_asked = asked_core o.ctl refl (subst (λ x. AsksAt mid x (Some (v, q)) asking) asker_is by)

        idle : (w : Bool) → out ≡ w → Some q ≡ cond w None (question_by o.driver (origin_of s o.place)) → (out ≡ false) × (question_by o.driver (origin_of s o.place) ≡ Some q)
        idle true e g = cc
        idle false e g = (e, sym g)

        free : (out ≡ false) × (question_by o.driver (origin_of s o.place) ≡ Some q)
        free = idle out refl (got core_asked.1.after (Some q) core_asked.1.gave)

        one : question_at s r.urb ≡ Some its
        one = asking_so (Some v) (Some q) core_asked.0 free.1

        asks_now : acts_now ≡ action.Ask
        asks_now = acts_by (Some its) one false free.0

        seen_after : Now s rounds r o is (λ j. cond (eqb o.place j) true (is_out s j rounds)) asking.cores.items
        seen_after =
            let a = core_asked.1 in
            let g = a.gave b.0.driver (origin_of s o.place) (done_at s o.place (rounds ++ r ∷ [])) (has.each o.place n.1 b.0 its_core b.1) in
            replaced s rounds r o is mid.cores.items asking.cores.items n.1 a.after true has its_core a.cores_so (λ seen. g.1) g.2

        asked_so : r.outcome ≡ outcome.Asked Zero → Further s rounds r (Some its) asking
        asked_so did = record {
          handled = subst (λ x. IsHandled acts_now x) (sym did) (subst (λ a. IsHandled a (outcome.Asked Zero)) (sym asks_now) tt);
          asks = one;
          stand = stand_by mid action.Ask done asking core_asked.1.counts (settled_cores s rounds r o is asking.cores.items true seen_after
              (sym (ap (λ b. cond b false (out || is_accepted r.outcome)) no_answer ∙ (ap (λ y. out || is_accepted y) did ∙ or_true s rounds r out))));
        }

        refused_so : (errno : Errno) (new : Handlers) → r.outcome ≡ outcome.Asked (Fault errno) → Unasks asking q new → Further s rounds r (Some its) new
        refused_so errno new did un =
            let same : Asked un.place ≡ Asked o.place = sym un.was ∙ core_asked.1.asker_so in
            let place : un.place ≡ o.place = cc in
            record {
              handled = subst (λ x. IsHandled acts_now x) (sym did) (subst (λ a. IsHandled a (outcome.Asked (Fault errno))) (sym asks_now) tt);
              asks = one;
              stand = stand_by mid action.Ask done new (un.counts ∙ core_asked.1.counts) (settled_cores s rounds r o is new.cores.items false
                  (replaced_again s rounds r o is asking.cores.items new.cores.items un.core un.after true false seen_after (ap (λ k. slice_get asking.cores.items k) (sym place) ∙ un.at)
                  (un.cores_so ∙ ap (λ k. slice_set asking.cores.items k un.after) place) (un.took.0 b.0.driver (origin_of s o.place) (done_at s o.place (rounds ++ r ∷ []))) un.took.1)
                  (sym (ap (λ b. cond b false (out || is_accepted r.outcome)) no_answer ∙ (ap (λ y. out || is_accepted y) did ∙ (or_false s rounds r out ∙ free.0)))));
            }

  further_by : (question : Option DriverQuestion) (did : Outcome) (new : Handlers) → r.outcome ≡ did → Handles h (record { 0 = r.urb }) r.status (moved_in s r) question did new → Further s rounds r question new
  further_by _ _ new did (rested _ done) = quiet new action.Rest done new refl refl (ap is_accepted did)
      (subst (λ x. IsHandled acts_now x) (sym did) (subst (λ a. IsHandled a outcome.Rest)
      (sym (acts_so s rounds h stands r.urb near new r.status (moved_in s r) action.Rest done action.Rest refl ∙ rest_stays (question_at s r.urb) (question_out s rounds (owner_of s r.urb)))) tt))
  further_by _ _ new did (again from len code _ done) = quiet new (action.Again from len) done new refl refl (ap is_accepted did)
      (subst (λ x. IsHandled acts_now x) (sym did) (subst (λ a. IsHandled a (outcome.Again code))
      (sym (acts_so s rounds h stands r.urb near new r.status (moved_in s r) (action.Again from len) done (action.Again from len) refl ∙ again_stays (question_at s r.urb) (question_out s rounds (owner_of s r.urb)) from len)) tt))
  further_by _ _ new did (silent mid _ done by) = silently mid done new did by
  further_by _ _ new did (asked mid _ v q done by) = asked_so mid done v q new by did
  further_by _ _ new did (refused mid asking _ v q errno done by un) = refused_so mid done v q asking by errno new did un

  pub further : (question : Option DriverQuestion) (new : Handlers) → Handles h (record { 0 = r.urb }) r.status (moved_in s r) question r.outcome new → Further s rounds r question new
  further question new is = further_by question r.outcome new refl is

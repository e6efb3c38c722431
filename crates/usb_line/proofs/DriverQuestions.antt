-- What a driver's core knows of its question, and which question a giveback asks.
use Rattle.std.proofs.Common.{ℕ, zero, suc, ◌≡◌, ◌<◌, ◌||◌, Bool, true, false, cond, eqb, Option, Some, None, List, [], ◌∷◌, ◌++◌, length, refl, sym, ap, ◌∙◌, subst}
use Rattle.std.specs.Prelude.{slice_get, slice_set, is_some, IfSome}
use Rattle.std.proofs.lemmas.List.{length-set}
use Rattle.std.proofs.lemmas.Option.{slice_get_within}
use Rattle.usb_types.specs.declared.errno.Code.{Code}
use Rattle.usb_types.specs.declared.errno.Code.TheVariants.{Zero, Fault}
use Rattle.usb_types.specs.declared.urb.UrbId.{UrbId}
use Rattle.usb_types.specs.declared.urb.Role.TheVariants.{Write}
use Rattle.usb_types.specs.declared.urb.Action.{Action}
use Rattle.usb_types.specs.declared.urb.Action.TheVariants as action
use Rattle.usb_machine.specs.declared.transfer.Transfer.{Transfer}
use Rattle.usb_machine.specs.declared.entry.Entry.{Entry}
use Rattle.usb_machine.specs.State.{refusal}
use Rattle.usb_machine.specs.History.{state_of}
use Rattle.usb_machine.specs.declared.plain.Plain.{Plain}
use Rattle.usb_machine.specs.Plain.{urbs_of}
use Rattle.usb_machine.specs.Shapes.{shape_fault}
use Rattle.usb_bind.specs.declared.bound.Bound.{Bound}
use Rattle.usb_class.specs.declared.class_core.Core.{Core}
use Rattle.usb_class.specs.Roles.{role_in}
use Rattle.usb_class.specs.Questions.{question_by, is_answer}
use Rattle.usb_class.specs.Handler.{action_of, is_ctl}
use Rattle.usb_class.specs.Core.{IsCore, is_asking, CanUnask}
use Rattle.usb_class.proofs.Facts.{asks_by}
use Rattle.usb_scene.specs.declared.scene.Scene.{Scene}
use Rattle.usb_prepare.specs.Ends.{shape_at}
use Rattle.usb_prepare.specs.Layout.{home}
use Rattle.usb_prepare.specs.Prepared.{bindings_of}
use Rattle.usb_class.specs.declared.owner.Owner.{Owner}
use Rattle.usb_trace.specs.declared.rows.Outcome.TheVariants as outcome
use Rattle.usb_line.specs.declared.giveback.PosedQuestion.{PosedQuestion}
use Rattle.usb_line.specs.declared.run.UrbRow.{UrbRow}
use Rattle.usb_line.specs.declared.run.EndRow.{EndRow}
use Rattle.usb_line.specs.declared.run.LineRun.{LineRun}
use Rattle.usb_trace.specs.Plan.{owner_of, origin_of, DriverQuestion, question_with, owner_question, question_at}
use Rattle.usb_trace.specs.Run.{Giveback, moved_in, is_accepted, is_out, question_out, asks_or_rests, done_at}
use Rattle.usb_class.specs.Handlers.{action_by}
use Rattle.usb_line.specs.Line.{submit_answer, outcome_by}
use Rattle.usb_trace.specs.Handlers.{ShowsCores}
use Rattle.usb_line.specs.Back.{CanAsk, CanPoseQuestion, CanSettle, QuestionOf, QuestionWith, QuestionBy, Settled, IsPosedBy, ArePosed}
use Rattle.usb_class.specs.Handlers.{Noted, GaveQuestion}
use Rattle.usb_trace.proofs.Owners.{owner_bound}
use Rattle.usb_trace.proofs.CoresSeen.{write_unanswered, Now, noted_out, unowned, unasked, replaced, replaced_again, settled_cores, at_here, or_false, or_true}

-- what a giveback asks, and what its driver's core then knows
pub record IsQuestionPosed (s : Scene) (rounds : List Giveback) (r : Giveback) (asking : LineRun) (q : Option PosedQuestion) : Type 0 where
  pub posed : ArePosed s r q
  pub cores : (acted new : LineRun) → acted.cores ≡ asking.cores → Settled acted new q r.outcome → ShowsCores s (rounds ++ r ∷ []) new.cores.items

-- the URB of a question is there, with its endpoint
abbrev pub IsSeen : Scene → LineRun → UrbId → Type 0
IsSeen s run urb = (row : UrbRow) × (end : EndRow) × (slice_get run.urbs.items urb.0 ≡ Some row) × (slice_get run.ends.items row.home ≡ Some end) × (end.shape ≡ shape_at s (home s urb.0))

module _ (s : Scene) (rounds : List Giveback) (r : Giveback) (h : List Entry) where
  -- what the handler does, by what its driver says
  did_again : (asking : Option DriverQuestion) (out : Bool) (from len : ℕ) → outcome_by s h r.urb asking (asks_or_rests asking out (action.Again from len)) ≡ outcome.Again (refusal (state_of h r.urb))
  did_again None true from len = refl
  did_again None false from len = refl
  did_again (Some a) true from len = refl
  did_again (Some a) false from len = refl

  did_rest : (asking : Option DriverQuestion) (out : Bool) → outcome_by s h r.urb asking (asks_or_rests asking out action.Rest) ≡ outcome.Rest
  did_rest None true = refl
  did_rest None false = refl
  did_rest (Some a) true = refl
  did_rest (Some a) false = refl

  did_none : (out : Bool) → outcome_by s h r.urb None (asks_or_rests None out action.Ask) ≡ outcome.Rest
  did_none true = refl
  did_none false = refl

  did_out : (asking : Option DriverQuestion) → outcome_by s h r.urb asking (asks_or_rests asking true action.Ask) ≡ outcome.Rest
  did_out None = refl
  did_out (Some a) = refl

  -- where no driver has the URB, nothing is asked
  pub posed_none : (old : List Core) (decided asking : LineRun) (q : Option PosedQuestion) (may : Bool) (act : Action) → owner_of s r.urb ≡ None → ShowsCores s rounds old → decided.cores.items ≡ old
      → act ≡ action_by None may r.status (moved_in s r) → QuestionBy decided asking None act q
      → r.outcome ≡ outcome_by s h r.urb (question_at s r.urb) (asks_or_rests (question_at s r.urb) (question_out s rounds (owner_of s r.urb)) act) → IsQuestionPosed s rounds r asking q
  posed_none old decided asking q may act none shows same acts by did = record {
    posed = posed;
    cores = λ acted new cores settled. unowned s rounds r none old new.cores.items shows
        (settled_none acted new (subst (λ q. Settled acted new q r.outcome) by.0 settled) ∙ ((λ i. (cores i).items) ∙ ((λ i. (by.1 i).items) ∙ same)));
  }
    where
      settled_none : (acted new : LineRun) → Settled acted new None r.outcome → new.cores.items ≡ acted.cores.items
      settled_none acted new is = (λ i. (is i).cores.items)

      go : (b : Bool) → act ≡ action_by None b r.status (moved_in s r) → ArePosed s r q
      go true is = subst (λ o. IsPosedBy s (question_at s r.urb) o q)
          (sym (did ∙ (ap (λ a. outcome_by s h r.urb (question_at s r.urb) (asks_or_rests (question_at s r.urb) (question_out s rounds (owner_of s r.urb)) a)) is ∙ did_again (question_at s r.urb) (question_out s rounds (owner_of s r.urb)) (moved_in s r).from (moved_in s r).len))) tt
      go false is = subst (λ o. IsPosedBy s (question_at s r.urb) o q)
          (sym (did ∙ (ap (λ a. outcome_by s h r.urb (question_at s r.urb) (asks_or_rests (question_at s r.urb) (question_out s rounds (owner_of s r.urb)) a)) is ∙ did_rest (question_at s r.urb) (question_out s rounds (owner_of s r.urb))))) by.0

      posed : ArePosed s r q
      posed = go may acts

  -- where a driver has it
  module _ (o : Owner) (is : owner_of s r.urb ≡ Some o) (decided asking : LineRun) (q : Option PosedQuestion) (act : Action) (acts : act ≡ action_of o.driver o.role r.status (moved_in s r))
      (has : Now s rounds r o is (noted_out s rounds r o is) decided.cores.items)
      (did : r.outcome ≡ outcome_by s h r.urb (question_at s r.urb) (asks_or_rests (question_at s r.urb) (is_out s o.place rounds) act)) (sees : (urb : UrbId) → o.ctl ≡ Some urb → IsSeen s decided urb) where
    did_as : (a : Action) → act ≡ a → r.outcome ≡ outcome_by s h r.urb (question_at s r.urb) (asks_or_rests (question_at s r.urb) (is_out s o.place rounds) a)
    did_as a e = did ∙ ap (λ a. outcome_by s h r.urb (question_at s r.urb) (asks_or_rests (question_at s r.urb) (is_out s o.place rounds) a)) e

    -- nothing is asked
    quietly : (q ≡ None) × (asking.cores ≡ decided.cores) → ArePosed s r q → is_accepted r.outcome ≡ false → IsQuestionPosed s rounds r asking q
    quietly by posed none = record {
      posed = posed;
      cores = λ acted new cores settled. unasked s rounds r o is decided.cores.items new.cores.items has
          (settled_none acted new (subst (λ q. Settled acted new q r.outcome) by.0 settled) ∙ ((λ i. (cores i).items) ∙ (λ i. (by.1 i).items))) none;
    }
      where
        settled_none : (acted new : LineRun) → Settled acted new None r.outcome → new.cores.items ≡ acted.cores.items
        settled_none acted new is = (λ i. (is i).cores.items)

    rests_quietly : (q ≡ None) × (asking.cores ≡ decided.cores) → r.outcome ≡ outcome.Rest → IsQuestionPosed s rounds r asking q
    rests_quietly by rest = quietly by (subst (λ x. IsPosedBy s (question_at s r.urb) x q) (sym rest) by.0) (ap is_accepted rest)

    -- a driver that asks does so after a job
    module _ (asks : act ≡ action.Ask) where
      write : o.role ≡ Write
      write = (asks_by o.driver o.role r.status (moved_in s r) (sym acts ∙ asks)).1

      no_answer : is_answer o.driver (origin_of s o.place) o.role (moved_in s r) ≡ false
      no_answer = ap (λ role. is_answer o.driver (origin_of s o.place) role (moved_in s r)) write ∙ write_unanswered o.driver (origin_of s o.place) (moved_in s r)

      abbrev out : Bool
      out = is_out s o.place rounds

      known : (core : Core) → slice_get decided.cores.items o.place ≡ Some core → is_asking core ≡ out
      known core at = has.out o.place core at ∙ (at_here s rounds r o is (cond (is_answer o.driver (origin_of s o.place) o.role (moved_in s r)) false out) (λ j. is_out s j rounds) ∙ ap (λ b. cond b false out) no_answer)

      asking_so : (ctl : Option UrbId) (t : Option Transfer) → o.ctl ≡ ctl → question_by o.driver (origin_of s o.place) ≡ t → question_at s r.urb ≡ question_with ctl t
      unfolding question_at
      asking_so ctl t e f = ap (owner_question s) is ∙ (ap (λ b. cond b None (question_with o.ctl (question_by o.driver (origin_of s o.place)))) (ap is_ctl write) ∙ (λ i. question_with (e i) (f i)))

      did_by : (asking : Option DriverQuestion) → question_at s r.urb ≡ asking → (b : Bool) → out ≡ b → r.outcome ≡ outcome_by s h r.urb asking (asks_or_rests asking b action.Ask)
      did_by asking e b f = did_as action.Ask asks ∙ (λ i. outcome_by s h r.urb (e i) (asks_or_rests (e i) (f i) action.Ask))

      -- its core has seen as much, and its question stands so
      module _ (core after : Core) (t : Option Transfer) (at : slice_get decided.cores.items o.place ≡ Some core) (set : asking.cores.items ≡ slice_set decided.cores.items o.place after) (gave : GaveQuestion core after t) where
        abbrev b : (b : Bound) × (slice_get (bindings_of s) o.place ≡ Some b) × (b.driver ≡ o.driver) × (role_in r.urb b ≡ Some o.role)
        b = owner_bound s r.urb o is

        got : (t ≡ cond (is_asking core) None (question_by b.0.driver (origin_of s o.place))) × IsCore b.0.driver (origin_of s o.place) (done_at s o.place (rounds ++ r ∷ [])) after × (is_asking after ≡ cond (is_some t) true (is_asking core))
        got = gave b.0.driver (origin_of s o.place) (done_at s o.place (rounds ++ r ∷ [])) (has.each o.place core b.0 at b.1)

        given : t ≡ cond out None (question_by o.driver (origin_of s o.place))
        given = got.0 ∙ (λ i. cond (known core at i) None (question_by (b.2 i) (origin_of s o.place)))

        now : Now s rounds r o is (λ j. cond (eqb o.place j) (cond (is_some t) true out) (is_out s j rounds)) asking.cores.items
        now = replaced s rounds r o is decided.cores.items asking.cores.items core after (cond (is_some t) true out) has at set (λ seen. got.1) (got.2 ∙ ap (λ x. cond (is_some t) true x) (known core at))

      -- the core gave none
      none_given : (core after : Core) → slice_get decided.cores.items o.place ≡ Some core → asking.cores.items ≡ slice_set decided.cores.items o.place after → GaveQuestion core after None → (urb : UrbId) → o.ctl ≡ Some urb
          → q ≡ None → IsQuestionPosed s rounds r asking q
      none_given core after at set gave urb ctl none = record {
        posed = subst (λ x. IsPosedBy s (question_at s r.urb) x q) (sym rest) none;
        cores = λ acted new cores settled. settled_cores s rounds r o is new.cores.items out
            (subst (λ l. Now s rounds r o is (λ j. cond (eqb o.place j) out (is_out s j rounds)) l) (sym (settled_none acted new (subst (λ q. Settled acted new q r.outcome) none settled) ∙ (λ i. (cores i).items))) (now core after None at set gave))
            (sym (ap (λ b. cond b false (out || is_accepted r.outcome)) no_answer ∙ (ap (λ x. out || is_accepted x) rest ∙ or_false s rounds r out)));
      }
        where
          settled_none : (acted new : LineRun) → Settled acted new None r.outcome → new.cores.items ≡ acted.cores.items
          settled_none acted new is = (λ i. (is i).cores.items)

          by_out : (x : Bool) → out ≡ x → None ≡ cond x None (question_by o.driver (origin_of s o.place)) → r.outcome ≡ outcome.Rest
          by_out true e g = did_by (question_at s r.urb) refl true e ∙ did_out (question_at s r.urb)
          by_out false e g = did_by None (asking_so (Some urb) None ctl (sym g)) false e

          rest : r.outcome ≡ outcome.Rest
          rest = by_out out refl (given core after None at set gave)

      -- it gave this one
      abbrev asked_with : UrbId → PosedQuestion → DriverQuestion
      asked_with urb x = record { urb = urb.0; transfer = x.transfer }

      abbrev answer : UrbId → PosedQuestion → Code
      answer urb x = submit_answer (shape_fault (shape_at s (home s urb.0)) x.transfer) (refusal (state_of h urb.0))

      some_given : (core after : Core) (x : PosedQuestion) → slice_get decided.cores.items o.place ≡ Some core → asking.cores.items ≡ slice_set decided.cores.items o.place after → GaveQuestion core after (Some x.transfer)
          → (urb : UrbId) → o.ctl ≡ Some urb → q ≡ Some x → x.place ≡ o.place → x.urb ≡ urb
          → ((row : UrbRow) (end : EndRow) → slice_get decided.urbs.items urb.0 ≡ Some row → slice_get decided.ends.items row.home ≡ Some end → x.fault ≡ shape_fault end.shape x.transfer) → IsQuestionPosed s rounds r asking q
      some_given core after x at set gave urb ctl this place same fault = record {
        posed = subst (ArePosed s r) (sym this) (subst (λ y. IsPosedBy s (question_at s r.urb) y (Some x)) (sym asked) (subst (λ y. IsPosedBy s y (outcome.Asked (answer urb x)) (Some x)) (sym one) record {
          urb = ap (λ (u : UrbId). u.0) same;
          transfer = refl;
          fault = fault seen.0 seen.1 seen.2 seen.3 ∙ ap (λ shape. shape_fault shape x.transfer) seen.4;
        }));
        cores = λ acted new cores settled. by_code acted new cores (answer urb x) refl (subst (λ y. Settled acted new (Some x) y) asked (subst (λ q. Settled acted new q r.outcome) this settled));
      }
        where
          seen : IsSeen s decided urb
          seen = sees urb ctl

          idle : (y : Bool) → out ≡ y → Some x.transfer ≡ cond y None (question_by o.driver (origin_of s o.place)) → (out ≡ false) × (question_by o.driver (origin_of s o.place) ≡ Some x.transfer)
          idle true e g = cc
          idle false e g = (e, sym g)

          free : (out ≡ false) × (question_by o.driver (origin_of s o.place) ≡ Some x.transfer)
          free = idle out refl (given core after (Some x.transfer) at set gave)

          one : question_at s r.urb ≡ Some (asked_with urb x)
          one = asking_so (Some urb) (Some x.transfer) ctl free.1

          asked : r.outcome ≡ outcome.Asked (answer urb x)
          asked = did_by (Some (asked_with urb x)) one false free.0

          by_code : (acted new : LineRun) → acted.cores ≡ asking.cores → (c : Code) → answer urb x ≡ c → Settled acted new (Some x) (outcome.Asked (answer urb x)) → ShowsCores s (rounds ++ r ∷ []) new.cores.items
          by_code acted new cores Zero e settled =
              let done = subst (λ c. Settled acted new (Some x) (outcome.Asked c)) e settled in
              settled_cores s rounds r o is new.cores.items true
              (subst (λ l. Now s rounds r o is (λ j. cond (eqb o.place j) true (is_out s j rounds)) l) (sym ((λ i. (done.0.1 i).items) ∙ (λ i. (cores i).items))) (now core after (Some x.transfer) at set gave))
              (sym (ap (λ b. cond b false (out || is_accepted r.outcome)) no_answer ∙ (ap (λ y. out || is_accepted y) (asked ∙ ap outcome.Asked e) ∙ or_true s rounds r out)))
          by_code acted new cores (Fault f) e settled =
              let done = subst (λ c. Settled acted new (Some x) (outcome.Asked c)) e settled in
              let back = done.0.0 in
              let stood : slice_get asking.cores.items o.place ≡ Some back.0 = (λ i. slice_get (sym cores i).items (sym place i)) ∙ back.2 in
              settled_cores s rounds r o is new.cores.items false
              (replaced_again s rounds r o is asking.cores.items new.cores.items back.0 back.1 true false (now core after (Some x.transfer) at set gave) stood
              (back.3 ∙ (λ i. slice_set (cores i).items (place i) back.1)) (back.4.0 (b core after (Some x.transfer) at set gave).0.driver (origin_of s o.place) (done_at s o.place (rounds ++ r ∷ []))) back.4.1)
              (sym (ap (λ b. cond b false (out || is_accepted r.outcome)) no_answer ∙ (ap (λ y. out || is_accepted y) (asked ∙ ap outcome.Asked e) ∙ (or_false s rounds r out ∙ free.0))))

      by_given : (x : Option PosedQuestion) (urb : UrbId) → o.ctl ≡ Some urb → q ≡ x → QuestionOf decided asking o urb x → IsQuestionPosed s rounds r asking q
      by_given None urb ctl this by = none_given by.0 by.1 by.2 by.3 by.4 urb ctl this
      by_given (Some x) urb ctl this by = some_given by.0 by.1 x by.2 by.3 by.4 urb ctl this by.6 by.7 by.8

      asks_posed : (ctl : Option UrbId) → o.ctl ≡ ctl → QuestionWith decided asking o ctl q → IsQuestionPosed s rounds r asking q
      asks_posed None ctl by = rests_quietly by (by_out out refl)
        where
          by_out : (x : Bool) → out ≡ x → r.outcome ≡ outcome.Rest
          by_out true e = did_by (question_at s r.urb) refl true e ∙ did_out (question_at s r.urb)
          by_out false e = did_by None (asking_so None (question_by o.driver (origin_of s o.place)) ctl refl) false e
      asks_posed (Some urb) ctl by = by_given q urb ctl refl by

    pub posed_some : QuestionBy decided asking (Some o) act q → IsQuestionPosed s rounds r asking q
    posed_some by = go act refl by
      where
        go : (a : Action) → act ≡ a → QuestionBy decided asking (Some o) a q → IsQuestionPosed s rounds r asking q
        go action.Rest e by = rests_quietly by (did_as action.Rest e ∙ did_rest (question_at s r.urb) (is_out s o.place rounds))
        go (action.Again from len) e by =
            let again = did_as (action.Again from len) e ∙ did_again (question_at s r.urb) (is_out s o.place rounds) from len in
            quietly by (subst (λ x. IsPosedBy s (question_at s r.urb) x q) (sym again) tt) (ap is_accepted again)
        go action.Ask e by = asks_posed e o.ctl refl by

-- what stands where an item was put
put_there : {X : Type 0} (xs : List X) (i : ℕ) (x y : X) → slice_get xs i ≡ Some x → slice_get (slice_set xs i y) i ≡ Some y
put_there [] i x y at = cc
put_there (z ∷ xs) zero x y at = refl
put_there (z ∷ xs) (suc i) x y at = put_there xs i x y at

-- the URB of an posed_question is there, and its core may take the question back
module _ (old new : LineRun) where
  none_here : {X : Type 0} (q : Option PosedQuestion) → (q ≡ None) × (new.cores ≡ old.cores) → (x : PosedQuestion) → q ≡ Some x → X
  none_here q by x is = let no_ = sym by.0 ∙ is in cc

  near_by : (o : Owner) (ctl : Option UrbId) → o.ctl ≡ ctl → (q : Option PosedQuestion) → QuestionWith old new o ctl q → CanAsk old (Some o) → (x : PosedQuestion) → q ≡ Some x → (x.urb.0 < length old.urbs.items) × (x.urb.0 < urbs_of old.plain)
  near_by o None ctl q by can x is = none_here q by x is
  near_by o (Some urb) ctl None by can x is = cc
  near_by o (Some urb) ctl (Some y) by can x is =
      let same : y ≡ x = cc in let a = can urb ctl in
      subst (λ (x : PosedQuestion). (x.urb.0 < length old.urbs.items) × (x.urb.0 < urbs_of old.plain)) same
      (subst (λ (u : UrbId). (u.0 < length old.urbs.items) × (u.0 < urbs_of old.plain)) (sym by.7) (a.0, a.1))

  pub poses_near : (o : Option Owner) (act : Action) (q : Option PosedQuestion) → QuestionBy old new o act q → CanAsk old o → (x : PosedQuestion) → q ≡ Some x → (x.urb.0 < length old.urbs.items) × (x.urb.0 < urbs_of old.plain)
  poses_near None act q by can x is = none_here q by x is
  poses_near (Some o) action.Rest q by can x is = none_here q by x is
  poses_near (Some o) (action.Again from len) q by can x is = none_here q by x is
  poses_near (Some o) action.Ask q by can x is = near_by o o.ctl refl q by can x is

  back_by : (o : Owner) (ctl : Option UrbId) → (q : Option PosedQuestion) → QuestionWith old new o ctl q → (x : PosedQuestion) → q ≡ Some x → (core : Core) × (slice_get new.cores.items x.place ≡ Some core) × CanUnask core x.transfer
  back_by o None q by x is = none_here q by x is
  back_by o (Some urb) None by x is = cc
  back_by o (Some urb) (Some y) by x is =
      let same : y ≡ x = cc in
      subst (λ (x : PosedQuestion). (core : Core) × (slice_get new.cores.items x.place ≡ Some core) × CanUnask core x.transfer) same
      (by.1, (λ i. slice_get (by.3 i) (by.6 i)) ∙ put_there old.cores.items o.place by.0 by.1 by.2, by.5)

  pub poses_back : (o : Option Owner) (act : Action) (q : Option PosedQuestion) → QuestionBy old new o act q → (x : PosedQuestion) → q ≡ Some x → (core : Core) × (slice_get new.cores.items x.place ≡ Some core) × CanUnask core x.transfer
  poses_back None act q by x is = none_here q by x is
  poses_back (Some o) action.Rest q by x is = none_here q by x is
  poses_back (Some o) (action.Again from len) q by x is = none_here q by x is
  poses_back (Some o) action.Ask q by x is = back_by o o.ctl q by x is

  pub poses_settle : (o : Option Owner) (act : Action) (q : Option PosedQuestion) → QuestionBy old new o act q → CanAsk old o → (acted : LineRun) → acted.cores ≡ new.cores → length acted.urbs.items ≡ length old.urbs.items → CanSettle acted q
  poses_settle o act q by can acted cores count = go q refl
    where
      go : (x : Option PosedQuestion) → q ≡ x → CanSettle acted x
      go None is = tt
      go (Some x) is =
          let back = poses_back o act q by x is in
          (subst (λ n. x.urb.0 < n) (sym count) (poses_near o act q by can x is).0, back.0, (λ i. slice_get (cores i).items x.place) ∙ back.1, back.2)

  pub poses_within : (o : Option Owner) (act : Action) (q : Option PosedQuestion) → QuestionBy old new o act q → CanAsk old o → new.plain ≡ old.plain → IfSome q (λ x. x.urb.0 < urbs_of new.plain)
  poses_within o act q by can plain = go q refl
    where
      go : (x : Option PosedQuestion) → q ≡ x → IfSome x (λ x. x.urb.0 < urbs_of new.plain)
      go None is = tt
      go (Some x) is = subst (λ (p : Plain). x.urb.0 < urbs_of p) (sym plain) (poses_near o act q by can x is).1

-- what a driver's question needs stays
pub can_ask_kept : (old new : LineRun) (o : Option Owner) → new.urbs ≡ old.urbs → length new.ends.items ≡ length old.ends.items → urbs_of new.plain ≡ urbs_of old.plain → CanAsk old o → CanAsk new o
can_ask_kept old new o urbs ends count can urb is =
    let was = can urb is in (
      (subst (λ n. urb.0 < n) (λ i. length (sym urbs i).items) was.0),
      (subst (λ n. urb.0 < n) (sym count) was.1),
      (λ row at. subst (λ n. row.home < n) (sym ends) (was.2 row ((λ i. slice_get (sym urbs i).items urb.0) ∙ at))),
    )

-- after what a core took note of, it is there
pub noted_there : (old new : List Core) (o : Option Owner) (may : Bool) (status : Code) (t : Transfer) (act : Action) → Noted old new o may status t act → CanPoseQuestion new o
noted_there old new None may status t act noted = tt
noted_there old new (Some o) may status t act noted =
    let near = slice_get_within old o.place noted.0 noted.2 in
    subst (λ n. o.place < n) (sym (ap (λ l. length l) noted.3 ∙ length-set old o.place noted.1)) near

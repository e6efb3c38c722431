-- What the cores of drivers have seen after one giveback more, and whether their questions are out.
use Rattle.std.proofs.Common.{ℕ, zero, suc, ◌≡◌, ◌<◌, ◌≢◌, ◌+◌, ◌-◌, ◌&&◌, ◌||◌, Bool, true, false, cond, eqb, Option, Some, None, List, [], ◌∷◌, ◌++◌, length, refl, sym, ap, ◌∙◌, subst, arith, append-nil, eq-eqb, ne_eqb}
use Rattle.std.specs.Prelude.{slice_get, slice_set, nat_lt, filter_map, option_and_then}
use Rattle.std.specs.Option.{option_map_or}
use mathlib.Core.Logic.{dite}
use native.Mathlib.Decide.{ℕ_discrete}
use Rattle.std.proofs.lemmas.Bool.Decides.{nat_tests}
use Rattle.std.proofs.lemmas.List.{length-set}
use Rattle.std.proofs.lemmas.Option.{slice_get_within}
use Rattle.std.proofs.lemmas.List.Sums.{fold-append, sum_by-append}
use Rattle.std.proofs.lemmas.List.Elements.{filter_map-append}
use Rattle.usb_types.specs.declared.urb.Role.TheVariants.{Write}
use Rattle.usb_types.specs.declared.urb.Action.{Action}
use Rattle.usb_machine.specs.declared.transfer.Transfer.{Transfer}
use Rattle.usb_machine.specs.Completion.{Completion}
use Rattle.usb_bind.specs.declared.bound.Bound.{Bound}
use Rattle.usb_bind.specs.declared.row.Driver.{Driver}
use Rattle.usb_bind.specs.declared.row.Driver.TheVariants.{Keyboard, Acm, Printer}
use Rattle.usb_class.specs.declared.class_core.Core.{Core}
use Rattle.usb_class.specs.declared.owner.Owner.{Owner}
use Rattle.usb_class.specs.Origin.{Origin}
use Rattle.usb_class.specs.Roles.{role_in}
use Rattle.usb_class.specs.Questions.{is_answer, still_out}
use Rattle.usb_class.specs.Handler.{action_of}
use Rattle.usb_class.specs.Handlers.{action_by, CanNote, Noted}
use Rattle.usb_class.specs.Core.{IsCore, is_asking}
use Rattle.usb_class.proofs.Facts.{can_complete, role_is_of_driver}
use Rattle.usb_class.proofs.Handled.{driver_is}
use Rattle.usb_scene.specs.declared.scene.Scene.{Scene}
use Rattle.usb_prepare.specs.Prepared.{bindings_of}
use Rattle.usb_trace.specs.Plan.{owner_of, origin_of}
use Rattle.usb_trace.specs.Run.{Giveback, moved_in, times_back, is_accepted, out_after, is_out, done_in, done_at}
use Rattle.usb_trace.specs.Handlers.{ShowsCores}
use Rattle.usb_trace.proofs.Owners.{owner_bound}
use Rattle.usb_device.proofs.Lookups.{each_set}

-- what stands at a place of a list
pub some_at : {X : Type 0} (xs : List X) (k : ℕ) → k < length xs → (x : X) × (slice_get xs k ≡ Some x)
some_at [] k l = absurd (omega arith)
some_at (x ∷ xs) zero l = (x, refl)
some_at (x ∷ xs) (suc k) l = some_at xs k (omega arith)

-- an URB goes again while its count lasts
pub more_left : (a b : ℕ) → nat_lt b a ≡ nat_lt 0 (a - b)
more_left a b = grind (arith, nat_tests)

-- how often an URB came back, with one giveback more
pub times_push : (u : ℕ) (rounds : List Giveback) (r : Giveback) → times_back u (rounds ++ r ∷ []) ≡ times_back u rounds + cond (eqb r.urb u) 1 0
times_push u rounds r = sum_by-append (λ (q : Giveback). cond {A = ℕ} (eqb q.urb u) 1 0) rounds (r ∷ []) ∙ ap (λ n. times_back u rounds + n) (alone (cond {A = ℕ} (eqb r.urb u) 1 0))
  where
    alone : (n : ℕ) → 0 + n ≡ n
    alone n = omega arith

-- the owner of an URB has a core, to which the URB may come back
pub owner_core : (s : Scene) (rounds : List Giveback) (cores : List Core) → ShowsCores s rounds cores → (u : ℕ) (o : Option Owner) → owner_of s u ≡ o → CanNote cores o
owner_core s rounds cores old u None is = tt
owner_core s rounds cores old u (Some o) is =
    let b = owner_bound s u o is in
    let near : o.place < length cores = (let l = slice_get_within (bindings_of s) o.place b.0 b.1 in let all = old.all in omega arith) in
    let core = some_at cores o.place near in
    (core.0, core.1, can_complete b.0.driver (origin_of s o.place) (done_at s o.place rounds) core.0 o.role (old.each o.place core.0 b.0 core.1 b.1) (role_is_of_driver u b.0 o.role b.3))

-- the cores have seen so much each, and their questions are out or not
pub record HasCores (s : Scene) (done : ℕ → List Completion) (outs : ℕ → Bool) (cores : List Core) : Type 0 where
  pub all : length cores ≡ length (bindings_of s)
  pub each : (k : ℕ) (core : Core) (b : Bound) → slice_get cores k ≡ Some core → slice_get (bindings_of s) k ≡ Some b → IsCore b.driver (origin_of s k) (done k) core
  pub out : (k : ℕ) (core : Core) → slice_get cores k ≡ Some core → is_asking core ≡ outs k

-- with another core at one place
pub has_set : (s : Scene) (done more : ℕ → List Completion) (out now : ℕ → Bool) (old new : List Core) (p : ℕ) (core : Core) (b : Bound) → HasCores s done out old → new ≡ slice_set old p core
    → slice_get (bindings_of s) p ≡ Some b → IsCore b.driver (origin_of s p) (more p) core → is_asking core ≡ now p → ((j : ℕ) → j ≢ p → (more j ≡ done j) × (now j ≡ out j)) → HasCores s more now new
has_set s done more out now old new p core b has is bound seen asking others = record {
  all = ap (λ l. length l) is ∙ (length-set old p core ∙ has.all);
  each = λ k c d at held. each_set (λ j c. (d : Bound) → slice_get (bindings_of s) j ≡ Some d → IsCore d.driver (origin_of s j) (done j) c) (λ j c. (d : Bound) → slice_get (bindings_of s) j ≡ Some d → IsCore d.driver (origin_of s j) (more j) c)
      old new p core is (λ j c at d held. has.each j c d at held)
      (λ d held. let both : Some b ≡ Some d = sym bound ∙ held in let same : b ≡ d = cc in subst (λ (d : Bound). IsCore d.driver (origin_of s p) (more p) core) same seen)
      (λ j c off old d held. subst (λ l. IsCore d.driver (origin_of s j) l c) (sym (others j off).0) (old d held))
      k c at d held;
  out = each_set (λ j c. is_asking c ≡ out j) (λ j c. is_asking c ≡ now j) old new p core is has.out asking (λ j c off old. old ∙ sym (others j off).1);
}

pub has_same : (s : Scene) (done more : ℕ → List Completion) (out now : ℕ → Bool) (old new : List Core) → HasCores s done out old → new ≡ old → ((j : ℕ) → (more j ≡ done j) × (now j ≡ out j)) → HasCores s more now new
has_same s done more out now old new has is others = record {
  all = ap (λ l. length l) is ∙ has.all;
  each = λ k c b at held. subst (λ l. IsCore b.driver (origin_of s k) l c) (sym (others k).0) (has.each k c b (ap (λ l. slice_get l k) (sym is) ∙ at) held);
  out = λ k c at. has.out k c (ap (λ l. slice_get l k) (sym is) ∙ at) ∙ sym (others k).1;
}

-- a place is the owner's, or another one
module _ (s : Scene) (rounds : List Giveback) (r : Giveback) where
  abbrev pub before : ℕ → Bool
  before j = is_out s j rounds

  -- what the drivers hear of the giveback
  pub heard_none : (j : ℕ) → done_in s j r ≡ None → done_at s j (rounds ++ r ∷ []) ≡ done_at s j rounds
  heard_none j is = filter_map-append (done_in s j) rounds (r ∷ []) ∙ (ap (λ (o : Option Completion). done_at s j rounds ++ filter_map (λ (x : Giveback). o) (r ∷ [])) is ∙ append-nil (done_at s j rounds))

  pub heard_one : (j : ℕ) (d : Completion) → done_in s j r ≡ Some d → done_at s j (rounds ++ r ∷ []) ≡ done_at s j rounds ++ d ∷ []
  heard_one j d is = filter_map-append (done_in s j) rounds (r ∷ []) ∙ ap (λ (o : Option Completion). done_at s j rounds ++ filter_map (λ (x : Giveback). o) (r ∷ [])) is

  -- whether a question is out after it
  pub out_push : (j : ℕ) → is_out s j (rounds ++ r ∷ []) ≡ out_after s j (before j) r
  out_push j = fold-append (out_after s j) false rounds (r ∷ [])

  abbrev pub heard_as : Owner → Completion
  heard_as o = record { role = o.role; status = r.status; transfer = moved_in s r }

  abbrev pub heard_by : ℕ → Option Owner → Option Completion
  heard_by j o = option_and_then (λ (o : Owner). cond (eqb o.place j) (Some (heard_as o)) None) o

  abbrev pub answered_at : ℕ → Option Owner → Bool
  answered_at j o = option_map_or (λ (o : Owner). eqb o.place j && is_answer o.driver (origin_of s j) o.role (moved_in s r)) o false

  abbrev pub put_at : ℕ → Option Owner → Bool
  put_at j o = option_map_or (λ (o : Owner). eqb o.place j && is_accepted r.outcome) o false

  pub or_false : (b : Bool) → (b || false) ≡ b
  or_false true = refl
  or_false false = refl

  pub or_true : (b : Bool) → (b || true) ≡ true
  or_true true = refl
  or_true false = refl

  pub and_false : (b : Bool) → (b && false) ≡ false
  and_false true = refl
  and_false false = refl

  abbrev pub out_by : ℕ → Bool → Bool → Bool
  out_by j answered put = cond answered false (before j || put)

  -- where no driver has the URB, nothing changes
  pub unowned : owner_of s r.urb ≡ None → (old new : List Core) → ShowsCores s rounds old → new ≡ old → ShowsCores s (rounds ++ r ∷ []) new
  unowned none old new shows is =
      let has = has_same s (λ j. done_at s j rounds) (λ j. done_at s j (rounds ++ r ∷ [])) before (λ j. is_out s j (rounds ++ r ∷ [])) old new record { all = shows.all; each = shows.each; out = shows.out } is
      (λ j. (heard_none j (ap (heard_by j) none), out_push j ∙ ((λ i. out_by j (answered_at j (none i)) (put_at j (none i))) ∙ or_false (before j)))) in
      record { all = has.all; each = has.each; out = has.out }

  -- where a driver has it
  module _ (o : Owner) (is : owner_of s r.urb ≡ Some o) where
    abbrev pub bound : (b : Bound) × (slice_get (bindings_of s) o.place ≡ Some b) × (b.driver ≡ o.driver) × (role_in r.urb b ≡ Some o.role)
    bound = owner_bound s r.urb o is

    abbrev pub answered : Bool
    answered = is_answer o.driver (origin_of s o.place) o.role (moved_in s r)

    pub now_out : (j : ℕ) → is_out s j (rounds ++ r ∷ []) ≡ out_by j (eqb o.place j && is_answer o.driver (origin_of s j) o.role (moved_in s r)) (eqb o.place j && is_accepted r.outcome)
    now_out j = out_push j ∙ (λ i. out_by j (answered_at j (is i)) (put_at j (is i)))

    pub out_else : (j : ℕ) → j ≢ o.place → is_out s j (rounds ++ r ∷ []) ≡ before j
    out_else j off = now_out j ∙ (ap (λ w. out_by j (w && is_answer o.driver (origin_of s j) o.role (moved_in s r)) (w && is_accepted r.outcome)) (ne_eqb o.place j (λ e. off (sym e))) ∙ or_false (before j))

    pub out_here : is_out s o.place (rounds ++ r ∷ []) ≡ out_by o.place answered (is_accepted r.outcome)
    out_here = now_out o.place ∙ ap (λ w. out_by o.place (w && is_answer o.driver (origin_of s o.place) o.role (moved_in s r)) (w && is_accepted r.outcome)) (eq-eqb o.place o.place refl)

    pub heard_else : (j : ℕ) → j ≢ o.place → done_at s j (rounds ++ r ∷ []) ≡ done_at s j rounds
    heard_else j off = heard_none j (ap (heard_by j) is ∙ ap (λ w. cond w (Some (heard_as o)) None) (ne_eqb o.place j (λ e. off (sym e))))

    pub heard_here : done_at s o.place (rounds ++ r ∷ []) ≡ done_at s o.place rounds ++ heard_as o ∷ []
    heard_here = heard_one o.place (heard_as o) (ap (heard_by o.place) is ∙ ap (λ w. cond w (Some (heard_as o)) None) (eq-eqb o.place o.place refl))

    -- its core took note, and then its question stood so
    abbrev pub noted_out : ℕ → Bool
    noted_out j = cond (eqb o.place j) (cond answered false (before o.place)) (before j)

    abbrev pub Now : (ℕ → Bool) → List Core → Type 0
    Now out cores = HasCores s (λ j. done_at s j (rounds ++ r ∷ [])) out cores

    pub at_here : (b : Bool) (x : ℕ → Bool) → cond (eqb o.place o.place) b (x o.place) ≡ b
    at_here b x = ap (λ w. cond w b (x o.place)) (eq-eqb o.place o.place refl)

    pub at_else : (j : ℕ) → j ≢ o.place → (b : Bool) (x : ℕ → Bool) → cond (eqb o.place j) b (x j) ≡ x j
    at_else j off b x = ap (λ w. cond w b (x j)) (ne_eqb o.place j (λ e. off (sym e)))

    module _ (old new : List Core) (shows : ShowsCores s rounds old) (may : Bool) (act : Action) (noted : Noted old new (Some o) may r.status (moved_in s r) act) where
      abbrev stood : IsCore bound.0.driver (origin_of s o.place) (done_at s o.place rounds) noted.0
      stood = shows.each o.place noted.0 bound.0 noted.2 bound.1

      took : IsCore bound.0.driver (origin_of s o.place) (done_at s o.place rounds ++ heard_as o ∷ []) noted.1
          × (is_asking noted.1 ≡ still_out bound.0.driver (origin_of s o.place) o.role (moved_in s r) (is_asking noted.0))
      took = noted.4.1 bound.0.driver (origin_of s o.place) (done_at s o.place rounds) stood

      pub noted_action : act ≡ action_by (Some o) may r.status (moved_in s r)
      noted_action = noted.4.0 ∙ ap (λ (driver : Driver). action_of driver o.role r.status (moved_in s r)) (driver_is bound.0.driver (origin_of s o.place) (done_at s o.place rounds) noted.0 stood ∙ bound.2)

      pub noted_cores : Now noted_out new
      noted_cores = has_set s (λ j. done_at s j rounds) (λ j. done_at s j (rounds ++ r ∷ [])) before noted_out old new o.place noted.1 bound.0 record { all = shows.all; each = shows.each; out = shows.out } noted.3
          bound.1 (subst (λ l. IsCore bound.0.driver (origin_of s o.place) l noted.1) (sym heard_here) took.0)
          (took.1 ∙ ((λ i. still_out (bound.2 i) (origin_of s o.place) o.role (moved_in s r) (shows.out o.place noted.0 noted.2 i)) ∙ sym (at_here (cond answered false (before o.place)) before)))
          (λ j off. (heard_else j off, at_else j off (cond answered false (before o.place)) before))

    -- without a question that was accepted, that is how it stands
    pub unasked_out : is_accepted r.outcome ≡ false → (j : ℕ) → is_out s j (rounds ++ r ∷ []) ≡ noted_out j
    unasked_out none j = dite (ℕ_discrete j o.place)
        (λ same. subst (λ j. is_out s j (rounds ++ r ∷ []) ≡ noted_out j) (sym same)
        (out_here ∙ (ap (λ b. out_by o.place answered b) none ∙ (ap (λ b. cond answered false b) (or_false (before o.place)) ∙ sym (at_here (cond answered false (before o.place)) before)))))
        (λ off. out_else j off ∙ sym (at_else j off (cond answered false (before o.place)) before))

    pub unasked : (old new : List Core) → Now noted_out old → new ≡ old → is_accepted r.outcome ≡ false → ShowsCores s (rounds ++ r ∷ []) new
    unasked old new has same none =
        let now = has_same s (λ j. done_at s j (rounds ++ r ∷ [])) (λ j. done_at s j (rounds ++ r ∷ [])) noted_out (λ j. is_out s j (rounds ++ r ∷ [])) old new has same (λ j. (refl, unasked_out none j)) in
        record { all = now.all; each = now.each; out = now.out }

    -- another core at its place, which has seen the same
    pub replaced : (old new : List Core) (core after : Core) (x : Bool) → Now noted_out old → slice_get old o.place ≡ Some core → new ≡ slice_set old o.place after
        → (IsCore bound.0.driver (origin_of s o.place) (done_at s o.place (rounds ++ r ∷ [])) core → IsCore bound.0.driver (origin_of s o.place) (done_at s o.place (rounds ++ r ∷ [])) after)
        → is_asking after ≡ x → Now (λ j. cond (eqb o.place j) x (before j)) new
    replaced old new core after x has at set keeps asking = has_set s (λ j. done_at s j (rounds ++ r ∷ [])) (λ j. done_at s j (rounds ++ r ∷ [])) noted_out (λ j. cond (eqb o.place j) x (before j)) old new o.place after bound.0 has set
        bound.1 (keeps (has.each o.place core bound.0 at bound.1)) (asking ∙ sym (at_here x before)) (λ j off. (refl, at_else j off x before ∙ sym (at_else j off (cond answered false (before o.place)) before)))

    pub replaced_again : (old new : List Core) (core after : Core) (x y : Bool) → Now (λ j. cond (eqb o.place j) x (before j)) old → slice_get old o.place ≡ Some core → new ≡ slice_set old o.place after
        → (IsCore bound.0.driver (origin_of s o.place) (done_at s o.place (rounds ++ r ∷ [])) core → IsCore bound.0.driver (origin_of s o.place) (done_at s o.place (rounds ++ r ∷ [])) after)
        → is_asking after ≡ y → Now (λ j. cond (eqb o.place j) y (before j)) new
    replaced_again old new core after x y has at set keeps asking = has_set s (λ j. done_at s j (rounds ++ r ∷ [])) (λ j. done_at s j (rounds ++ r ∷ [])) (λ j. cond (eqb o.place j) x (before j)) (λ j. cond (eqb o.place j) y (before j)) old new o.place after bound.0 has set
        bound.1 (keeps (has.each o.place core bound.0 at bound.1)) (asking ∙ sym (at_here y before)) (λ j off. (refl, at_else j off y before ∙ sym (at_else j off x before)))

    -- so the cores show the run, where the question is as out as the giveback says
    pub settled_cores : (new : List Core) (x : Bool) → Now (λ j. cond (eqb o.place j) x (before j)) new → x ≡ out_by o.place answered (is_accepted r.outcome) → ShowsCores s (rounds ++ r ∷ []) new
    settled_cores new x has is =
        let now = has_same s (λ j. done_at s j (rounds ++ r ∷ [])) (λ j. done_at s j (rounds ++ r ∷ [])) (λ j. cond (eqb o.place j) x (before j)) (λ j. is_out s j (rounds ++ r ∷ [])) new new has refl
        (λ j. (
          refl,
          dite (ℕ_discrete j o.place)
              (λ same. subst (λ j. is_out s j (rounds ++ r ∷ []) ≡ cond (eqb o.place j) x (before j)) (sym same) (out_here ∙ (sym is ∙ sym (at_here x before))))
              (λ off. out_else j off ∙ sym (at_else j off x before)),
        )) in
        record { all = now.all; each = now.each; out = now.out }

-- a job's transfer is no question
pub write_unanswered : (driver : Driver) (origin : Origin) (t : Transfer) → is_answer driver origin Write t ≡ false
write_unanswered Keyboard origin t = refl
write_unanswered Acm origin t = refl
write_unanswered Printer origin t = refl

-- What a run leaves for its report.
use Rattle.std.proofs.Common.{ℕ, zero, suc, ◌≡◌, ◌+◌, ◌<◌, ◌≤◌, Some, get_or, take, List, [], ◌∷◌, ◌++◌, length, map, refl, sym, ap, ◌∙◌, subst, arith, length-append, add-one, add-zero, zero-add}
use Rattle.std.specs.Prelude.{slice_get}
use Rattle.std.proofs.lemmas.Grind.{common_steps}
use Rattle.std.proofs.lemmas.List.{map-append, take_more}
use Rattle.std.proofs.lemmas.Option.{slice_get-get_or, slice_get_within}
use Rattle.usb_bind.specs.declared.row.Driver.{Driver}
use Rattle.usb_bind.specs.declared.bound.Bound.{Bound}
use Rattle.usb_class.specs.declared.class_core.Core.{Core}
use Rattle.usb_class.specs.declared.class_core.Told.{Told}
use Rattle.usb_class.specs.Core.{IsCore}
use Rattle.usb_machine.specs.Completion.{Completion}
use Rattle.usb_class.specs.Origin.{Origin}
use Rattle.usb_class.specs.Told.{told_of}
use Rattle.usb_scene.specs.declared.scene.Scene.{Scene}
use Rattle.usb_line.specs.declared.run.EndRow.{EndRow}
use Rattle.usb_trace.specs.declared.received.EndReceived.{EndReceived}
use Rattle.usb_line.specs.declared.run.LineRun.{LineRun}
use Rattle.usb_trace.specs.declared.rows.RunOutcome.{RunOutcome}
use Rattle.usb_prepare.specs.Ends.{ends_of}
use Rattle.usb_prepare.specs.Below.{below}
use Rattle.usb_prepare.specs.Prepared.{bindings_of}
use Rattle.usb_trace.specs.Plan.{origin_of}
use Rattle.usb_trace.specs.Run.{Giveback, done_at, told_from, drivers_told}
use Rattle.usb_line.specs.Line.{Progress}
use Rattle.usb_line.specs.Shows.{Shows}
use Rattle.usb_trace.specs.Handlers.{ShowsCores}
use Rattle.usb_trace.specs.Rows.{end_of}
use Rattle.usb_line.specs.Outcome.{received_at}
use Rattle.usb_trace.proofs.CoresSeen.{some_at}
use Rattle.usb_trace.proofs.NewCoresShown.{pairs_longer}

-- a list of which each element is known by its place
by_place : (g : ℕ → EndReceived) (xs : List EndRow) → ((e : ℕ) (x : EndRow) → slice_get xs e ≡ Some x → received_at x ≡ g e)
    → (n : ℕ) → EndRow → n ≤ length xs → map received_at (take n xs) ≡ map g (below n)
by_place g xs each zero d l = refl
by_place g xs each (suc n) d l =
    let near : n < length xs = omega arith in
    let x : EndRow = get_or xs n d in
    ap (λ k. map received_at (take k xs)) (sym (add-one n))
    ∙ (ap (map received_at) (take_more xs n d near)
    ∙ (map-append received_at (take n xs) (x ∷ [])
    ∙ ((λ j. by_place g xs each n d (omega arith) j ++ each n x (slice_get-get_or xs n d near) j ∷ []) ∙ sym (map-append g (below n) (n ∷ [])))))

whole : (xs : List EndRow) → take (length xs) xs ≡ xs
whole xs = grind (arith, common_steps)

all_by_place : (g : ℕ → EndReceived) (xs : List EndRow) → ((e : ℕ) (x : EndRow) → slice_get xs e ≡ Some x → received_at x ≡ g e) → map received_at xs ≡ map g (below (length xs))
all_by_place g [] each = refl
all_by_place g (x ∷ xs) each = ap (map received_at) (sym (whole (x ∷ xs))) ∙ by_place g (x ∷ xs) each (length (x ∷ xs)) x (omega arith)

-- what the endpoints of the object received
pub ends_told : (s : Scene) (f : Progress) (run : LineRun) → Shows s f run → map received_at run.ends.items ≡ map (end_of s f.rounds) (below (ends_of s))
ends_told s f run shows =
    all_by_place (end_of s f.rounds) run.ends.items
    (λ e x at. (let is = shows.each_end e x at in (λ j. record { shape = is.is j; received = record { count = is.acked.count j; first = is.acked.first j } })))
    ∙ ap (λ n. map (end_of s f.rounds) (below n)) shows.all_ends

-- outcomes with the same parts are the same
pub same_outcome : (o p : RunOutcome) → o.found ≡ p.found → o.board ≡ p.board → o.made ≡ p.made → o.given ≡ p.given → o.told ≡ p.told → o.ends ≡ p.ends → o ≡ p
same_outcome o p found board made given told ends = λ i. record { found = found i; board = board i; made = made i; given = given i; told = told i; ends = ends i }

-- what a core reports, whatever it has seen
abbrev pub Tells : Core → Told → Type 0
Tells core t = (driver : Driver) (o : Origin) (done : List Completion) → IsCore driver o done core → t ≡ told_of driver o done

pub record AreTold (cores : List Core) (told : List Told) : Type 0 where
  pub count : length told ≡ length cores
  pub each : (k : ℕ) (core : Core) (t : Told) → slice_get cores k ≡ Some core → slice_get told k ≡ Some t → Tells core t

pub told_longer : (cores : List Core) (old new : List Told) (core : Core) (t : Told) → AreTold cores old → Tells core t → new ≡ old ++ t ∷ [] → AreTold (cores ++ core ∷ []) new
told_longer cores old new core t are is e = subst (AreTold (cores ++ core ∷ [])) (sym e) record {
  count = (let a = length-append cores (core ∷ []) in let b = length-append old (t ∷ []) in let c = are.count in omega arith);
  each = pairs_longer (λ k. Tells) cores old core t are.count are.each is;
}

-- what the drivers of these bindings report
told_list : (s : Scene) (rounds : List Giveback) (k : ℕ) (bindings : List Bound) (told : List Told) → length told ≡ length bindings
    → ((j : ℕ) (b : Bound) (t : Told) → slice_get bindings j ≡ Some b → slice_get told j ≡ Some t → t ≡ told_of b.driver (origin_of s (k + j)) (done_at s (k + j) rounds)) → told ≡ told_from s rounds k bindings
told_list s rounds k [] [] long each = refl
told_list s rounds k [] (t ∷ told) long each = absurd (omega arith)
told_list s rounds k (b ∷ bindings) [] long each = absurd (omega arith)
told_list s rounds k (b ∷ bindings) (t ∷ told) long each =
    let first : t ≡ told_of b.driver (origin_of s k) (done_at s k rounds) = each 0 b t refl refl ∙ ap (λ n. told_of b.driver (origin_of s n) (done_at s n rounds)) (add-zero k) in
    let others : told ≡ told_from s rounds (k + 1) bindings = told_list s rounds (k + 1) bindings told (omega arith) (λ j c x p q. each (suc j) c x p q
    ∙ (let next : k + suc j ≡ k + 1 + j = omega arith in ap (λ n. told_of c.driver (origin_of s n) (done_at s n rounds)) next)) in
    (λ i. first i ∷ others i)

pub drivers_tell : (s : Scene) (rounds : List Giveback) (cores : List Core) (told : List Told) → AreTold cores told → ShowsCores s rounds cores → told ≡ drivers_told s rounds
drivers_tell s rounds cores told are shows =
    let long = are.count in let all = shows.all in
    told_list s rounds 0 (bindings_of s) told (omega arith) (λ j b t at is.
    let near = slice_get_within told j t is in
    let core = some_at cores j (omega arith) in
    are.each j core.0 t core.1 is b.driver (origin_of s j) (done_at s j rounds) (shows.each j core.0 b core.1 at) ∙ ap (λ n. told_of b.driver (origin_of s n) (done_at s n rounds)) (sym (zero-add j)))

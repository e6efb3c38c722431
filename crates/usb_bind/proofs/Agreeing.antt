-- No URB occurs twice among the bindings.
use Rattle.std.proofs.Common.{◌≡◌, ◌≢◌, ℕ, ◌<◌, Bool, true, false, List, [], ◌∷◌, ◌++◌, length, get_or, set, Option, Some, None, Ok, Err, Result, refl, sym, ap, ◌∙◌, subst, append_assoc}
use Rattle.std.specs.Prelude.{◌==◌, is_none, is_some, option_map, All, AllPairs}
use Rattle.std.specs.Option.{option_map_or}
use Rattle.std.proofs.lemmas.Bool.{eqb-true, eqb-false, true≢false}
use Rattle.std.proofs.lemmas.List.{append-nil, get_or-set_same, get_or-set_other}
use Rattle.std.proofs.lemmas.List.Elements.{All-push}
use Rattle.std.proofs.lemmas.List.Quantifiers.{all_pairs_push, position-Some}
use Rattle.std.proofs.lemmas.Grind.{flat_map-append}
use Rattle.usb_bind.specs.declared.row.Driver.{Driver}
use Rattle.usb_bind.specs.declared.row.IdRow.{IdRow}
use Rattle.usb_bind.specs.declared.bound.Bound.{Bound}
use Rattle.usb_bind.specs.declared.fault.ProbeFault.{ProbeFault}
use Rattle.usb_bind.specs.Pool.{Homes, least_in, is_out, is_spare, urb}
use Rattle.usb_bind.specs.Board.{BoardValue, with_binding, claim_of}
use Rattle.usb_bind.specs.Probe.{all_next, all_taken, probed, filled, board_after, pool_after}
use Rattle.usb_bind.specs.Laws.{numbers_in, numbers_of, Agrees}
use Rattle.usb_bind.proofs.Spare.{out_not_spare, spare_below}
use Rattle.usb_bind.proofs.Probing.{plan_of, refused}

-- these numbers are out, and none occurs twice
record AreOut (numbers : List ℕ) (pool : Homes) : Type 0 where
  out : All (λ n. is_out pool n ≡ true) numbers
  apart : AllPairs (λ m n. m ≢ n) numbers

out_by : (pool : Homes) (n m home : ℕ) (t : Bool) → (n == m) ≡ t → n < length pool → is_out pool m ≡ true → is_out (set pool n (Some home)) m ≡ true
out_by pool n m home true e h out =
    ap (λ m. is_out (set pool n (Some home)) m) (sym (eqb-true n m e)) ∙ ap is_some (get_or-set_same pool n (Some home) None h)
out_by pool n m home false e h out =
    let other : m ≢ n = λ same. eqb-false n m e (sym same) in
    ap is_some (get_or-set_other pool n m (Some home) None other) ∙ out

one_more : (numbers : List ℕ) (pool : Homes) (n home : ℕ) → AreOut numbers pool → is_spare pool n ≡ true → AreOut (numbers ++ n ∷ []) (set pool n (Some home))
one_more numbers pool n home are spare =
    let below = spare_below pool n spare in
    record {
      out = All-push (λ m. is_out (set pool n (Some home)) m ≡ true) numbers n
          (λ k d h. out_by pool n (get_or numbers k d) home (n == get_or numbers k d) refl below (are.out k d h))
          (ap is_some (get_or-set_same pool n (Some home) None below));
      apart = all_pairs_push (λ m n. m ≢ n) numbers n are.apart
          (λ k d h same. true≢false (sym spare ∙ out_not_spare pool n (ap (is_out pool) (sym same) ∙ are.out k d h)));
    }

all_by : (numbers : List ℕ) (pool : Homes) (home : ℕ) (slots : List (Option ℕ)) (o : Option ℕ) → least_in pool ≡ o → AreOut numbers pool
    → ((numbers : List ℕ) (pool : Homes) → AreOut numbers pool → AreOut (numbers ++ numbers_in (all_next pool slots)) (all_taken pool slots))
    → let then_pool : Homes = option_map_or (λ n. set pool n (Some home)) o pool in
    AreOut (numbers ++ numbers_in (option_map urb o ∷ all_next then_pool slots)) (all_taken then_pool slots)
all_by numbers pool home slots None e are rest = rest numbers pool are
all_by numbers pool home slots (Some n) e are rest =
    let spare : is_spare pool n ≡ true = (position-Some is_none pool n (Some 0) e).1 in
    let then_pool : Homes = set pool n (Some home) in
    let P : List ℕ → Type 0 = λ ns. AreOut ns (all_taken then_pool slots) in
    subst P (append_assoc numbers (n ∷ []) (numbers_in (all_next then_pool slots))) (rest (numbers ++ n ∷ []) then_pool (one_more numbers pool n home are spare))

all_out_then : (slots : List (Option ℕ)) (numbers : List ℕ) (pool : Homes) → AreOut numbers pool
    → AreOut (numbers ++ numbers_in (all_next pool slots)) (all_taken pool slots)
all_out_then [] numbers pool are = let P : List ℕ → Type 0 = λ ns. AreOut ns pool in subst P (sym (append-nil numbers)) are
all_out_then (None ∷ slots) numbers pool are = all_out_then slots numbers pool are
all_out_then (Some home ∷ slots) numbers pool are = all_by numbers pool home slots (least_in pool) refl are (all_out_then slots)

numbers_push : (bindings : List Bound) (b : Bound) → numbers_of (bindings ++ b ∷ []) ≡ numbers_of bindings ++ numbers_in b.urbs
numbers_push bindings b =
    flat_map-append (λ (b : Bound). numbers_in b.urbs) bindings (b ∷ []) ∙ ap (λ t. numbers_of bindings ++ t) (append-nil (numbers_in b.urbs))

agrees_then : (bindings : List Bound) (pool : Homes) (slots : List (Option ℕ)) (b : Bound) → Agrees bindings pool → b.urbs ≡ all_next pool slots
    → Agrees (bindings ++ b ∷ []) (all_taken pool slots)
agrees_then bindings pool slots b agrees is =
    let are = all_out_then slots (numbers_of bindings) pool (record { out = agrees.out; apart = agrees.apart }) in
    let same : numbers_of (bindings ++ b ∷ []) ≡ numbers_of bindings ++ numbers_in (all_next pool slots) =
    numbers_push bindings b ∙ ap (λ urbs. numbers_of bindings ++ numbers_in urbs) is in
    record {
      out = let P : List ℕ → Type 0 = λ ns. All (λ n. is_out (all_taken pool slots) n ≡ true) ns in subst P (sym same) are.out;
      apart = let P : List ℕ → Type 0 = λ ns. AllPairs (λ m n. m ≢ n) ns in subst P (sym same) are.apart;
    }

probed_by : (board : BoardValue) (pool : Homes) (rows : List IdRow) (device interface : ℕ) (r : Result Bound ProbeFault)
    → probed board pool rows device interface ≡ r → Agrees board.bindings pool
    → Agrees (board_after board r).bindings (pool_after board pool rows device interface)
probed_by board pool rows device interface (Ok b) h agrees =
    let plan = plan_of board pool rows device interface b h in
    let made = agrees_then board.bindings pool plan.0.homes b agrees (ap (λ (b : Bound). b.urbs) plan.2) in
    subst (λ p. Agrees (board.bindings ++ b ∷ []) p) (sym (ap (filled pool) plan.1)) made
probed_by board pool rows device interface (Err fault) h agrees =
    subst (λ p. Agrees board.bindings p) (sym (refused board pool rows device interface fault h).1) agrees

pub probe_agrees : (board : BoardValue) (pool : Homes) (rows : List IdRow) (device interface : ℕ) → Agrees board.bindings pool
    → Agrees (board_after board (probed board pool rows device interface)).bindings (pool_after board pool rows device interface)
probe_agrees board pool rows device interface agrees = probed_by board pool rows device interface (probed board pool rows device interface) refl agrees

pub claim_agrees : (board : BoardValue) (pool : Homes) (by : Driver) (device interface : ℕ) → Agrees board.bindings pool
    → Agrees (with_binding board (claim_of by device interface)).bindings pool
claim_agrees board pool by device interface agrees =
    let same : numbers_of (board.bindings ++ claim_of by device interface ∷ []) ≡ numbers_of board.bindings =
    numbers_push board.bindings (claim_of by device interface) ∙ append-nil (numbers_of board.bindings) in
    record {
      out = let P : List ℕ → Type 0 = λ ns. All (λ n. is_out pool n ≡ true) ns in subst P (sym same) agrees.out;
      apart = let P : List ℕ → Type 0 = λ ns. AllPairs (λ m n. m ≢ n) ns in subst P (sym same) agrees.apart;
    }

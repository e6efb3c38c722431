-- What a run began with, and how the promises of all passes of one close are put together.
use Rattle.std.proofs.Common.{ℕ, zero, suc, ◌≡◌, ◌≢◌, ◌<◌, ◌≤◌, ◌⊎◌, ⊎_elim, Some, Result, Ok, Err, IfOk, List, [], ◌∷◌, ◌++◌, length, map, get_or, All, refl, sym, ap, ◌∙◌, subst, arith, append-nil, append_assoc, true}
use Rattle.std.specs.Prelude.{slice_get, Contains}
use Rattle.std.specs.List.{flat_map}
use Rattle.std.proofs.lemmas.Option.{slice_get_within, slice_get-get_or, get_or_from_slice_get}
use Rattle.std.proofs.lemmas.List.{length-map}
use Rattle.std.proofs.lemmas.List.Elements.{Contains-append_left, Contains-append_right, Contains-append_cases, All-contains}
use Rattle.usb_types.specs.declared.outside.Memory.{Memory}
use Rattle.usb_machine.specs.declared.entry.TheConstants.{SERVER}
use Rattle.usb_machine.specs.declared.entry.Entry.{Entry}
use Rattle.usb_machine.specs.History.{Machine}
use Rattle.usb_machine.specs.Parts.{keeps}
use Rattle.usb_machine.specs.Fresh.{Known}
use Rattle.usb_machine.specs.Tokens.{IsClosed}
use Rattle.usb_scene.specs.declared.scene.Scene.{Scene}
use Rattle.usb_scene.specs.WellFormed.{IsWellFormed}
use Rattle.usb_prepare.specs.Below.{below}
use Rattle.usb_prepare.specs.Layout.{urb_count}
use Rattle.usb_prepare.specs.Ends.{ends_of}
use Rattle.usb_prepare.proofs.Below.{length-map_below, is-map_below}
use Rattle.usb_trace.specs.declared.rows.GivebackRow.{GivebackRow}
use Rattle.usb_trace.specs.Plan.{machine_of, pass_of, main_pass}
use Rattle.usb_trace.specs.Claims.{numbers_of}
use Rattle.usb_trace.specs.Run.{Giveback, urbs_of, kills_of, seen_quiet, drivers_told}
use Rattle.usb_trace.specs.Rows.{made_of, end_of}
use Rattle.usb_threads.specs.declared.opened.Opened.{Opened}
use Rattle.usb_threads.specs.declared.ending.Ended.{Ended}
use Rattle.usb_threads.specs.declared.scene_host.Left.{Left}
use Rattle.usb_threads.specs.Promises.{IsPutTogether, all_made}
use Rattle.usb_threads.specs.MainPass.{HasRead}
use Rattle.usb_threads.specs.Controlling.{HasControlled, IsIdle}
use Rattle.usb_threads.specs.Jobs.{Each, IsSeatFor, IsDone}
use Rattle.usb_threads.specs.Wholes.{IsOpened, IsMains, HasStarted, HasEnded, IsAllIn, HasRun}
use Rattle.usb_threads.proofs.Quiet.{kept_all}
use Rattle.usb_threads.proofs.Together.{together_is_run}

module _ {X : Type 0} where
  all_at : (P : X → Type 0) (xs : List X) (k : ℕ) (x : X) → All P xs → slice_get xs k ≡ Some x → P x
  all_at P xs k x all at = subst P (get_or_from_slice_get xs k x x at) (all k x (slice_get_within xs k x at))

  at_place : (xs : List X) (k : ℕ) (x : X) → slice_get xs k ≡ Some x → Contains xs x
  at_place xs k x at = (k, slice_get_within xs k x at, get_or_from_slice_get xs k x x at)

  item_at : (xs : List X) (k : ℕ) → k < length xs → (x : X) × (slice_get xs k ≡ Some x)
  item_at [] k l = absurd (omega arith)
  item_at (x ∷ xs) zero l = (x, refl)
  item_at (x ∷ xs) (suc k) l = item_at xs k (omega arith)

  same_items : (xs ys : List X) → length xs ≡ length ys → ((k : ℕ) (x y : X) → slice_get xs k ≡ Some x → slice_get ys k ≡ Some y → x ≡ y) → xs ≡ ys
  same_items [] [] e same = refl
  same_items [] (y ∷ ys) e same = absurd (omega arith)
  same_items (x ∷ xs) [] e same = absurd (omega arith)
  same_items (x ∷ xs) (y ∷ ys) e same = let rest = same_items xs ys (omega arith) (λ k. same (suc k)) in λ i. same 0 x y refl refl i ∷ rest i

module _ {X Y : Type 0} (f : X → Y) where
  mapped : (xs : List X) (k : ℕ) (x : X) → slice_get xs k ≡ Some x → slice_get (map f xs) k ≡ Some (f x)
  mapped [] k x at = absurd (cc (at))
  mapped (y ∷ xs) zero x at = let same : y ≡ x = cc in ap (λ z. Some (f z)) same
  mapped (y ∷ xs) (suc k) x at = mapped xs k x at

  mapped_from : (xs : List X) (k : ℕ) (y : Y) → slice_get (map f xs) k ≡ Some y → (x : X) × (slice_get xs k ≡ Some x) × (f x ≡ y)
  mapped_from [] k y at = absurd (cc (at))
  mapped_from (x ∷ xs) zero y at = let same : f x ≡ y = cc in (x, refl, same)
  mapped_from (x ∷ xs) (suc k) y at = mapped_from xs k y at

  -- each item maps to what its place maps to
  mapped_below : (g : ℕ → Y) (xs : List X) → Each (λ k x. f x ≡ g k) xs → map f xs ≡ map g (below (length xs))
  mapped_below g xs each = same_items (map f xs) (map g (below (length xs))) (length-map xs f ∙ sym (length-map_below g (length xs)))
      (λ k a b at bt. let r = mapped_from xs k a at in sym r.2 ∙ (each k r.0 r.1 ∙ sym (is-map_below g (length xs) k b bt)))

-- what a run begins with
module _ {S P V : Type 0} (of : S → Type 0) (known : S → Known) (serves : V → Type 0) (own : V → Known) (is_spare : P → Type 0) (s : Scene) (opened : Opened S P V) (is : IsOpened of known serves own is_spare s opened) where
  abbrev seats : List S
  seats = opened.threads.items

  pub seat_count : length seats ≡ length s.threads
  seat_count = sym (length-map seats known) ∙ (sym (length-map (map known seats) (λ (p : Known). p.number)) ∙ (ap (λ (l : List ℕ). length l) is.numbers ∙ length-map_below (pass_of s) (length s.threads)))

  pub seats_few : IsWellFormed s → length seats ≤ 16
  seats_few good = let few = good.few_threads in let count = seat_count in omega arith

  pub seats_for : Each (IsSeatFor of known s) seats
  seats_for m seat at =
      let number : slice_get (map (λ (p : Known). p.number) (map known seats)) m ≡ Some (known seat).number = mapped (λ (p : Known). p.number) (map known seats) m (known seat) (mapped known seats m seat at) in
      let placed : slice_get (map (pass_of s) (below (length s.threads))) m ≡ Some (known seat).number = ap (λ (l : List ℕ). slice_get l m) (sym is.numbers) ∙ number in
      let near = slice_get_within seats m seat at in let count = seat_count in record {
        near = omega arith;
        here = all_at of seats m seat is.threads_here at;
        number = is-map_below (pass_of s) (length s.threads) m (known seat).number placed;
        new = all_at (λ (seat : S). (known seat).mine ≡ []) seats m seat is.threads_new at;
      }

  pub mains : IsMains s (known opened.main)
  mains = record { number = is.main_number; new = is.main_new; sound = is.main_sound }

-- what all parts came to, when the history is closed
module _ {S : Type 0} (of : S → Type 0) (known : S → Known) (s : Scene) (after : List Giveback → Type 0) (server : Known) (ended : Ended S) (given : List GivebackRow) (all : IsAllIn of known s after server ended given) where
  abbrev g : Machine
  g = machine_of s

  abbrev n : ℕ
  n = length s.threads

  abbrev ends : HasEnded of known s all.read n ended
  ends = all.ends

  abbrev last_seats : List S
  last_seats = ended.seats.items

  abbrev main : Known
  main = known ended.main

  done : (i : ℕ) (seat : S) → slice_get last_seats i ≡ Some seat → IsDone s all.read ends.met i (ends.collected.works i) (known seat)
  done i seat at = (ends.collected.each i seat at).1

  pub seats_here : All of last_seats
  seats_here k d near = (ends.collected.each k (get_or last_seats k d) (slice_get-get_or last_seats k d near)).0

  -- the seats have the numbers of their threads
  pub seat_numbers : map (λ p. p.number) (map known last_seats) ≡ map (pass_of s) (below n)
  seat_numbers = mapped_below (λ (p : Known). p.number) (pass_of s) (map known last_seats) (λ k p at. (let r = mapped_from known last_seats k p at in let d = done k r.0 r.1 in
      ap (λ (p : Known). p.number) (sym r.2) ∙ (d.ends.grown.number ∙ (d.worked.went.grown.number ∙ d.ready.number))))
      ∙ ap (λ k. map (pass_of s) (below k)) (length-map last_seats known ∙ ends.count)

  pub main_number : main.number ≡ main_pass s
  main_number = ends.went.grown.number ∙ (ends.meets.grown.number ∙ all.number)

  -- main keeps each URB quiet
  pub main_keeps : (u : ℕ) → u < urb_count s → keeps main.mine u ≡ true
  main_keeps u l =
      let closes = ends.closes in
      let kills = kills_of (main_pass s) (urbs_of s) closes.marks (numbers_of closes.rests) in
      let seen = flat_map (seen_quiet (main_pass s)) (urbs_of s) in
      let mine = ends.met.mine in
      ap (λ m. keeps m u) (ends.went.grown.mine ∙ (ap (λ m. mine ++ m) closes.entries ∙ sym (append_assoc mine kills seen))) ∙ kept_all (main_pass s) (mine ++ kills) (urb_count s) u l

  module _ (h : List Entry) (spares : List Known) (idle : All (λ p. p.mine ≡ []) spares) (closed : IsClosed g h (server ∷ main ∷ map known last_seats ++ spares)) where
    abbrev passes : List Known
    passes = server ∷ main ∷ map known last_seats ++ spares

    abbrev two : List Known
    two = server ∷ main ∷ []

    -- a thread's pass is there
    seat_there : (i : ℕ) (seat : S) → slice_get last_seats i ≡ Some seat → Contains passes (known seat)
    seat_there i seat at = Contains-append_right two (map known last_seats ++ spares) (known seat)
        (Contains-append_left (map known last_seats) spares (known seat) (at_place (map known last_seats) i (known seat) (mapped known last_seats i seat at)))

    -- a pass is the server's, main's or a thread's, or it made nothing
    others : (p : Known) → Contains passes p → p.number ≢ SERVER → p.number ≢ main_pass s → ((i : ℕ) → i < n → p.number ≢ pass_of s i) → p.mine ≡ []
    others p here off main_off none = ⊎_elim
        (λ (c : Contains two p). absurd (first c))
        (λ (c : Contains (map known last_seats ++ spares) p). ⊎_elim
        (λ (t : Contains (map known last_seats) p). absurd (thread t))
        (λ (x : Contains spares p). All-contains (λ (p : Known). p.mine ≡ []) spares p idle x)
        (Contains-append_cases (map known last_seats) spares p c))
        (Contains-append_cases two (map known last_seats ++ spares) p here)
      where
        number_server : server.number ≡ SERVER
        number_server = all.controlled.served.went.grown.number ∙ all.ready.number

        first : Contains two p → ⊥
        first (zero, l, e) = off (ap (λ (q : Known). q.number) (sym e) ∙ number_server)
        first (suc zero, l, e) = main_off (ap (λ (q : Known). q.number) (sym e) ∙ main_number)
        first (suc (suc k), l, e) = absurd (omega arith)

        thread : Contains (map known last_seats) p → ⊥
        thread (k, l, e) =
            let at : slice_get (map known last_seats) k ≡ Some p = slice_get-get_or (map known last_seats) k p l ∙ ap Some e in
            let r = mapped_from known last_seats k p at in let d = done k r.0 r.1 in
            let near = slice_get_within last_seats k r.0 r.1 in let count = ends.count in
            none k (omega arith) (ap (λ (q : Known). q.number) (sym r.2) ∙ (d.ends.grown.number ∙ (d.worked.went.grown.number ∙ d.ready.number)))

    together : IsPutTogether s h ends.collected.works all.controlled.rounds
    together = record {
      passes = passes;
      closed = closed;
      read = all.read;
      met = ends.met;
      last = main;
      main = record { number = all.number; sound = all.sound; reads = all.reads; meets = ends.meets; more = ends.more; went = ends.went; closes = ends.closes };
      main_closed = Contains-append_left two (map known last_seats ++ spares) main (1, omega arith, refl);
      threads = λ i l. let seat = item_at last_seats i (let count = ends.count in omega arith) in let d = done i seat.0 seat.1 in record {
        from = d.from;
        to = d.to;
        thread = d.thread;
        at = d.at;
        ready = d.ready;
        worked = d.worked;
        told = d.told;
        last = known seat.0;
        ends = d.ends;
        closed = seat_there i seat.0 seat.1;
      };
      server = record {
        from = all.from;
        to = server;
        ready = all.ready;
        served = all.controlled.served;
        closed = Contains-append_left two (map known last_seats ++ spares) server (0, omega arith, refl);
      };
      spare = others;
    }

    pub has_run : IsWellFormed s → (left : Left) → ((rounds : List Giveback) → after rounds → (left.told ≡ drivers_told s rounds) × (left.ends ≡ map (end_of s rounds) (below (ends_of s)))) → HasRun s h ended.made given left
    has_run good left said = let stands = said all.controlled.rounds all.controlled.stands in record {
      call_records = all_made s ends.collected.works;
      rounds = all.controlled.rounds;
      run = together_is_run s h ends.collected.works all.controlled.rounds good together;
      calls_told = ends.collected.kept ∙ ap (λ k. map made_of (flat_map ends.collected.works (below k))) ends.count;
      givebacks_told = all.controlled.told;
      drivers_say = stands.0;
      ends_say = stands.1;
    }

-- what holds of all givebacks where there was memory for them
pub if_given : (A B : List GivebackRow → Type 0) (given : Result (List GivebackRow) Memory) → IfOk given A → ((l : List GivebackRow) → A l → B l) → IfOk given B
if_given A B (Err e) a then_so = tt
if_given A B (Ok l) a then_so = then_so l a

-- what was opened and started is all in
module _ (s : Scene) (main read now before from : Known) (mains : IsMains s main) (started : HasStarted s main read now before from) where
  number_read : read.number ≡ main_pass s
  number_read = started.went.grown.number ∙ mains.number

  pub number_now : now.number ≡ main_pass s
  number_now = started.later.grown.number ∙ number_read

  pub idle_from : before.number ≡ SERVER → before.mine ≡ [] → IsIdle s from
  idle_from number new = record { number = started.met.grown.number ∙ number; new = started.met.grown.mine ∙ (append-nil before.mine ∙ new); sound = started.met.sound }

  pub all_in : {S : Type 0} (of : S → Type 0) (known : S → Known) (after : List Giveback → Type 0) (server : Known) (ended : Ended S) (given : List GivebackRow) (n : ℕ) → n ≡ length s.threads → IsIdle s from → HasControlled s after from server given
      → HasEnded of known s read n ended → IsAllIn of known s after server ended given
  all_in of known after server ended given n count idle controlled ends = record {
    read = read;
    number = number_read;
    sound = started.went.sound;
    reads = subst (HasRead s (urb_count s)) (sym (started.went.grown.mine ∙ ap (λ m. m ++ started.more) mains.new)) started.reads;
    from = from;
    ready = record { number = idle.number; new = idle.new; knows = started.knows; sound = idle.sound };
    controlled = controlled;
    ends = subst (λ k. HasEnded of known s read k ended) count ends;
  }

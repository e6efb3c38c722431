-- The devices are probed one after another, and each is found to be something.
use Rattle.std.proofs.Common.{ℕ, zero, suc, ◌≡◌, ◌≢◌, ◌+◌, ◌<◌, ◌≤◌, ⊎_elim, Bool, true, false, cond, Option, Some, None, Result, Ok, Err, List, [], ◌∷◌, ◌++◌, length, take, get_or, fold, refl, sym, ap, ◌∙◌, subst, arith, length-append, add-zero, zero-add}
use Rattle.std.specs.Prelude.{slice_get, slice_set, slice_index_or, IfSome}
use Rattle.std.specs.Option.{option_flatten}
use Rattle.std.proofs.lemmas.List.{take_more, length-take-le}
use Rattle.std.proofs.lemmas.Option.{slice_get_within, slice_get-get_or, get_or_from_slice_get}
use Rattle.usb_desc.specs.declared.tree.Alt.{Alt}
use Rattle.usb_ctrl.specs.declared.enumerator.Attached.{Attached}
use Rattle.usb_ctrl.specs.declared.fault.EnumFault.{EnumFault}
use Rattle.usb_ctrl.specs.declared.stage.Stage.{Stage}
use Rattle.usb_xfer.specs.declared.script.DeviceScript.{DeviceScript}
use Rattle.usb_device.specs.declared.scripted.Scripted.{Scripted}
use Rattle.usb_device.specs.Device.{Call, Stands}
use Rattle.usb_bind.specs.declared.bound.Bound.{Bound}
use Rattle.usb_bind.specs.declared.fault.ProbeFault.{ProbeFault}
use Rattle.usb_bind.specs.Interfaces.{interfaces_of}
use Rattle.usb_bind.specs.Pool.{Homes}
use Rattle.usb_bind.specs.Profile.{profile_rows}
use Rattle.usb_bind.specs.Board.{BoardValue, attached_at, with_binding}
use Rattle.usb_bind.specs.Probe.{probed, pool_after}
use Rattle.usb_scene.specs.declared.scene.Scene.{Scene}
use Rattle.usb_scene.specs.declared.scene.SceneDevice.{SceneDevice}
use Rattle.usb_scene.specs.WellFormed.{is_raw, IsWellFormed}
use Rattle.usb_prepare.specs.declared.found.Found.{Found}
use Rattle.usb_prepare.specs.declared.found.Found.TheVariants as found
use Rattle.usb_prepare.specs.declared.found.Probe.{Probe}
use Rattle.usb_prepare.specs.declared.found.Probe.TheVariants as probe
use Rattle.usb_prepare.specs.declared.probing.Bindings.{Bindings}
use Rattle.usb_prepare.specs.Enumerated.{enumerated, attached_in, fault_in}
use Rattle.usb_prepare.specs.Ends.{address_of, attached_as, first_end, firsts_of}
use Rattle.usb_prepare.specs.Probing.{Asked, Probing, ask_each, id_told, requests_of, FitsRoom, probed_by, with_probe}
use Rattle.usb_prepare.specs.Prepared.{Probes, with_device, probing_from, probed_device, probed_from, requests_heard, enumeration_of, attached_from, board_of, probes_of, found_attached, found_enumerated, found_as, found_from, found_of}
use Rattle.usb_prepare.specs.Bindings.{IsProbing, found_by, fault_as, faults_from, HaveHeard, enumerations_from, probes_before, front_probed, AreProbed}
use Rattle.usb_prepare.specs.Ready.{AreReady}
use Rattle.usb_prepare.proofs.Below.{length-map_below, get-map_below}
use Rattle.usb_prepare.proofs.Lists.{in_longer, take_all, set_here, set_elsewhere, set_long, is_there}
use Rattle.usb_prepare.proofs.Numbering.{few_ends, first_within}
use Rattle.usb_prepare.proofs.Taking.{attached_long}
use Rattle.usb_prepare.proofs.Boarded.{boarded_start, all_boarded}
use Rattle.usb_prepare.proofs.Ids.{fits_room}
use Rattle.usb_prepare.proofs.Bare.{AreBare, enumeration_bare, device_bare, bare_elsewhere, bare_halts}

some_same : {X : Type 0} {x y : X} → Some x ≡ Some y → x ≡ y
some_same e = cc

-- the first endpoints of the devices
pub firsts_long : (s : Scene) (firsts : List ℕ) (attached : List (Option Attached)) → firsts ≡ firsts_of s → attached ≡ attached_from 0 s.devices → length firsts ≡ length attached
firsts_long s firsts attached f a =
    ap (λ (l : List ℕ). length l) f ∙ (length-map_below (first_end s.devices) (length s.devices) ∙ (sym (attached_long 0 s.devices) ∙ sym (ap (λ (l : List (Option Attached)). length l) a)))

pub few_attached : (s : Scene) (attached : List (Option Attached)) → IsWellFormed s → attached ≡ attached_from 0 s.devices → length attached < 4294967296
few_attached s attached good a =
    let long = ap (λ (l : List (Option Attached)). length l) a ∙ attached_long 0 s.devices in let few = good.few_devices in omega arith

pub firsts_low : (s : Scene) → IsWellFormed s → (firsts : List ℕ) → firsts ≡ firsts_of s → (k d : ℕ) → k < length firsts → slice_index_or firsts k d < 2147483648
firsts_low s good firsts f k d near =
    let long = ap (λ (l : List ℕ). length l) f ∙ length-map_below (first_end s.devices) (length s.devices) in
    let at : slice_index_or firsts k d ≡ first_end s.devices k = ap (λ l. slice_index_or l k d) f ∙ get-map_below (first_end s.devices) (length s.devices) k d (omega arith) in
    let within = first_within s good k in
    let few = few_ends s good in
    omega arith

-- how the probes of one device more go
abbrev pub own_probing : ℕ → SceneDevice → Probes → Probing
own_probing d x w = probed_device d x.script (attached_as d x) (probing_from w (enumeration_of d x))

probed-snoc : (n : ℕ) (ds : List SceneDevice) (x : SceneDevice) (w : Probes) → probed_from n (ds ++ x ∷ []) w ≡ with_device (probed_from n ds w) (own_probing (n + length ds) x (probed_from n ds w))
probed-snoc n [] x w = ap (λ k. with_device w (own_probing k x w)) (sym (add-zero n))
probed-snoc n (y ∷ ds) x w =
    let same : n + 1 + length ds ≡ n + suc (length ds) = omega arith in
    let next = with_device w (own_probing n y w) in
    probed-snoc (n + 1) ds x next ∙ ap (λ k. with_device (probed_from (n + 1) ds next) (own_probing k x (probed_from (n + 1) ds next))) same

pub front_more : (s : Scene) (k : ℕ) (x : SceneDevice) → k < length s.devices → front_probed s (k + 1) ≡ with_device (front_probed s k) (own_probing k (get_or s.devices k x) (front_probed s k))
front_more s k x near =
    let y = get_or s.devices k x in
    let long : length (take k s.devices) ≡ k = length-take-le k s.devices (omega arith) in
    let place : 0 + length (take k s.devices) ≡ k = omega arith in
    ap (λ l. probed_from 0 l (probes_before s)) (take_more s.devices k x near)
    ∙ (probed-snoc 0 (take k s.devices) y (probes_before s) ∙ ap (λ n. with_device (front_probed s k) (own_probing n y (front_probed s k))) place)

pub front_all : (s : Scene) → front_probed s (length s.devices) ≡ probes_of s
unfolding probes_of
front_all s = ap (λ l. probed_from 0 l (probes_before s)) (take_all s.devices (length s.devices) (omega arith))

-- what is kept of each device
module _ {Y : Type 0} (s : Scene) (kept : Probes → List Y) (of : Probing → Y) (more : (w : Probes) (p : Probing) → kept (with_device w p) ≡ kept w ++ of p ∷ []) (none : kept (probes_before s) ≡ []) where
  kept_more : (k : ℕ) (x : SceneDevice) → k < length s.devices → kept (front_probed s (k + 1)) ≡ kept (front_probed s k) ++ of (own_probing k (get_or s.devices k x) (front_probed s k)) ∷ []
  kept_more k x near = ap kept (front_more s k x near) ∙ more (front_probed s k) (own_probing k (get_or s.devices k x) (front_probed s k))

  pub kept_long : (x : SceneDevice) (k : ℕ) → k ≤ length s.devices → length (kept (front_probed s k)) ≡ k
  kept_long x zero l = ap (λ (ys : List Y). length ys) none
  kept_long x (suc k) l =
      let next : suc k ≡ k + 1 = omega arith in
      let before = kept_long x k (omega arith) in
      let sum = length-append (kept (front_probed s k)) (of (own_probing k (get_or s.devices k x) (front_probed s k)) ∷ []) in
      ap (λ n. length (kept (front_probed s n))) next ∙ (ap (λ (ys : List Y). length ys) (kept_more k x (omega arith)) ∙ (omega arith))

  pub kept_each : (Q : ℕ → SceneDevice → Y → Type 0) → ((d : ℕ) (x : SceneDevice) (w : Probes) → Q d x (of (own_probing d x w)))
      → (k : ℕ) → k ≤ length s.devices → (d : ℕ) (x : SceneDevice) (y : Y) → slice_get s.devices d ≡ Some x → slice_get (kept (front_probed s k)) d ≡ Some y → Q d x y
  kept_each Q is zero l d x y at there = let e : slice_get {X = Y} [] d ≡ Some y = ap (λ ys. slice_get ys d) (sym none) ∙ there in cc
  kept_each Q is (suc k) l d x y at there =
      let next : suc k ≡ k + 1 = omega arith in
      let last = of (own_probing k (get_or s.devices k x) (front_probed s k)) in
      let long = kept_long x k (omega arith) in
      ⊎_elim
      (λ (e : slice_get (kept (front_probed s k)) d ≡ Some y). kept_each Q is k (omega arith) d x y at e)
      (λ (e : (d ≡ length (kept (front_probed s k))) × (y ≡ last)).
      let here : k ≡ d = sym (e.0 ∙ long) in
      let own : get_or s.devices k x ≡ x = ap (λ n. get_or s.devices n x) here ∙ get_or_from_slice_get s.devices d x x at in
      subst (Q d x) (sym e.1) (subst (λ n. Q n x last) here (subst (λ (z : SceneDevice). Q k z last) own (is k (get_or s.devices k x) (front_probed s k)))))
      (in_longer (kept (front_probed s k)) last y d (sym (ap (λ ys. slice_get ys d) (ap (λ n. kept (front_probed s n)) next ∙ kept_more k x (omega arith))) ∙ there))

pub heard_long : (s : Scene) (x : SceneDevice) (k : ℕ) → k ≤ length s.devices → length (front_probed s k).heard ≡ k
heard_long s = kept_long s (λ w. w.heard) (λ p. p.calls) (λ w p. refl) refl

pub probes_long : (s : Scene) (x : SceneDevice) (k : ℕ) → k ≤ length s.devices → length (front_probed s k).probes ≡ k
probes_long s = kept_long s (λ w. w.probes) (λ p. p.probes) (λ w p. refl) refl

-- a raw device is not asked
abbrev IsUnasked : ℕ → SceneDevice → List Call → Type 0
IsUnasked d x calls = is_raw x.script.kind ≡ true → calls ≡ []

own_unasked : (d : ℕ) (x : SceneDevice) (w : Probes) → IsUnasked d x (own_probing d x w).calls
unfolding attached_as
own_unasked d x w raw = (λ i. (probed_device d x.script (cond (raw i) None (attached_in (address_of d) (enumerated x.script (address_of d)))) (probing_from w (cond (raw i) [] (requests_heard x.script (address_of d) 6)))).calls)

-- and any device is asked at 00 alone, and no endpoint of it halted
abbrev IsBare : ℕ → SceneDevice → List Call → Type 0
IsBare d x calls = AreBare calls

own_bare : (d : ℕ) (x : SceneDevice) (w : Probes) → IsBare d x (own_probing d x w).calls
own_bare d x w = device_bare d x.script (attached_as d x) (probing_from w (enumeration_of d x)) (enumeration_bare d x)

front_bare : (s : Scene) (d : ℕ) (x : SceneDevice) (calls : List Call) → slice_get s.devices d ≡ Some x → slice_get (front_probed s (length s.devices)).heard d ≡ Some calls → AreBare calls
front_bare s = kept_each s (λ w. w.heard) (λ p. p.calls) (λ w p. refl) refl IsBare own_bare (length s.devices) (omega arith)

pub heard_bare : (s : Scene) (d : ℕ) (x : SceneDevice) (calls : List Call) → slice_get s.devices d ≡ Some x → slice_get (probes_of s).heard d ≡ Some calls → AreBare calls
heard_bare s d x calls at heard = front_bare s d x calls at (ap (λ w. slice_get w.heard d) (front_all s) ∙ heard)

-- each interface is probed once
one_probe : (script : DeviceScript) (d : ℕ) (p : Probing) (alt : Alt) → length (with_probe script d p alt).probes ≡ length p.probes + 1
one_probe script d p alt = go (probed p.board p.pool profile_rows d alt.number)
  where
    pool : Homes
    pool = pool_after p.board p.pool profile_rows d alt.number

    same : Probing → Asked → Probing
    same p asked = record p { calls = asked.calls; probes = p.probes ++ probe.Cancelled ∷ [] }

    settle : (b : Bound) (asked : Asked) (id : List ℕ) (x : Bool)
        → length (cond x (record { board = with_binding p.board b; pool = pool; calls = asked.calls; probes = p.probes ++ probe.Bound ∷ []; ids = p.ids ++ id ∷ [] }) (same p asked)).probes ≡ length p.probes + 1
    settle b asked id true = length-append p.probes (probe.Bound ∷ [])
    settle b asked id false = length-append p.probes (probe.Cancelled ∷ [])

    go : (r : Result Bound ProbeFault) → length (probed_by script p pool r).probes ≡ length p.probes + 1
    go (Ok b) = settle b (ask_each script p.calls (requests_of b.driver b.interface)) (id_told script p.calls b) (ask_each script p.calls (requests_of b.driver b.interface)).answered
    go (Err fault) = length-append p.probes (probe.Refused fault ∷ [])

each_probed : (script : DeviceScript) (d : ℕ) (alts : List Alt) (p : Probing) → length (fold (with_probe script d) p alts).probes ≡ length p.probes + length alts
each_probed script d [] p = sym (add-zero (length p.probes))
each_probed script d (x ∷ alts) p =
    let one = one_probe script d p x in
    let rest = each_probed script d alts (with_probe script d p x) in
    rest ∙ (omega arith)

abbrev HasProbes : ℕ → SceneDevice → List Probe → Type 0
HasProbes d x probes = IfSome (attached_as d x) (λ (a : Attached). length probes ≡ length (interfaces_of a.config))

own_probes : (d : ℕ) (x : SceneDevice) (w : Probes) → HasProbes d x (own_probing d x w).probes
own_probes d x w = go (attached_as d x)
  where
    go : (o : Option Attached) → IfSome o (λ (a : Attached). length (probed_device d x.script o (probing_from w (enumeration_of d x))).probes ≡ length (interfaces_of a.config))
    go None = tt
    go (Some a) = each_probed x.script d (interfaces_of a.config) (probing_from w (enumeration_of d x)) ∙ zero-add (length (interfaces_of a.config))

-- what a device was found to be by its fault is what it is found to be
found_same : (board : BoardValue) (d : ℕ) (x : SceneDevice) (probes : List Probe) → attached_at board d ≡ attached_as d x → found_by board d probes (fault_as d x) ≡ found_as board d x probes
unfolding attached_as
found_same board d x probes = go (is_raw x.script.kind) (enumerated x.script (address_of d))
  where
    go : (raw : Bool) (r : Result Stage EnumFault) → attached_at board d ≡ cond raw None (attached_in (address_of d) r)
        → found_by board d probes (cond raw None (fault_in r)) ≡ cond raw found.Raw (found_enumerated board d probes r)
    go true r at = ap (found_attached board d probes) at
    go false (Ok stage) at = ap (found_attached board d probes) at
    go false (Err fault) at = refl

attached_get : (n d : ℕ) (ds : List SceneDevice) (x : SceneDevice) → slice_get ds d ≡ Some x → option_flatten (slice_get (attached_from n ds) d) ≡ attached_as (n + d) x
attached_get n d [] x at = cc
attached_get n zero (y ∷ ds) x at = let same : y ≡ x = cc in (λ i. attached_as (sym (add-zero n) i) (same i))
attached_get n (suc d) (y ∷ ds) x at = let next : n + 1 + d ≡ n + suc d = omega arith in attached_get (n + 1) d ds x at ∙ ap (λ k. attached_as k x) next

faults_get : (n d : ℕ) (ds : List SceneDevice) (x : SceneDevice) (o : Option EnumFault) → slice_get ds d ≡ Some x → get_or (faults_from n ds) d o ≡ fault_as (n + d) x
faults_get n d [] x o at = cc
faults_get n zero (y ∷ ds) x o at = let same : y ≡ x = cc in (λ i. fault_as (sym (add-zero n) i) (same i))
faults_get n (suc d) (y ∷ ds) x o at = let next : n + 1 + d ≡ n + suc d = omega arith in faults_get (n + 1) d ds x o at ∙ ap (λ k. fault_as k x) next

pub faults_long : (n : ℕ) (ds : List SceneDevice) → length (faults_from n ds) ≡ length ds
faults_long n [] = refl
faults_long n (x ∷ ds) = ap (λ k. suc k) (faults_long (n + 1) ds)

enumerations_get : (n d : ℕ) (ds : List SceneDevice) (x : SceneDevice) → slice_get ds d ≡ Some x → slice_get (enumerations_from n ds) d ≡ Some (enumeration_of (n + d) x)
enumerations_get n d [] x at = cc
enumerations_get n zero (y ∷ ds) x at = let same : y ≡ x = cc in (λ i. Some (enumeration_of (sym (add-zero n) i) (same i)))
enumerations_get n (suc d) (y ∷ ds) x at = let next : n + 1 + d ≡ n + suc d = omega arith in enumerations_get (n + 1) d ds x at ∙ ap (λ k. Some (enumeration_of k x)) next

found-snoc : (board : BoardValue) (n : ℕ) (ds : List SceneDevice) (ps : List (List Probe)) (x : SceneDevice) (q : List Probe) → length ps ≡ length ds
    → found_from board n (ds ++ x ∷ []) (ps ++ q ∷ []) ≡ found_from board n ds ps ++ found_as board (n + length ds) x q ∷ []
found-snoc board n [] [] x q l = ap (λ k. found_as board k x q ∷ []) (sym (add-zero n))
found-snoc board n [] (p ∷ ps) x q l = absurd (omega arith)
found-snoc board n (y ∷ ds) [] x q l = absurd (omega arith)
found-snoc board n (y ∷ ds) (p ∷ ps) x q l =
    let same : n + 1 + length ds ≡ n + suc (length ds) = omega arith in
    ap (λ l. found_as board n y p ∷ l) (found-snoc board (n + 1) ds ps x q (omega arith) ∙ ap (λ k. found_from board (n + 1) ds ps ++ found_as board k x q ∷ []) same)

module _ (s : Scene) (good : IsWellFormed s) where
  -- the board has the devices all along
  front_attached : (k d : ℕ) (x : SceneDevice) → slice_get s.devices d ≡ Some x → attached_at (front_probed s k).board d ≡ attached_as d x
  front_attached k d x at =
      let is = all_boarded s good 0 (take k s.devices) (probes_before s) (boarded_start s good) in
      ap (λ l. option_flatten (slice_get l d)) is.devices ∙ attached_get 0 d s.devices x at ∙ ap (λ n. attached_as n x) (zero-add d)

  pub probed_start : (bindings : Bindings) (all : List Scripted) → bindings.board ≡ board_of s → bindings.pool ≡ (probes_before s).pool → bindings.ids ≡ [] → HaveHeard s.devices (enumerations_from 0 s.devices) all → AreProbed s 0 bindings all []
  probed_start bindings all board pool ids heard = record {
    board = board;
    pool = pool;
    went = refl;
    told = ids;
    count = heard.count;
    asked = λ d device calls one at asked there. cc;
    later = λ d device one l at there. heard.each d device (enumeration_of d device) one at (enumerations_get 0 d s.devices device at ∙ ap (λ n. Some (enumeration_of n device)) (zero-add d)) there;
  }

  -- one device more is probed
  pub probed_more : (k : ℕ) (old new : Bindings) (all : List Scripted) (entry after : Scripted) (probes : List (List Probe)) (went : List Probe) → k < length all → AreProbed s k old all probes
      → ((script : DeviceScript) (calls : List Call) → Stands (get_or all k entry) script calls → FitsRoom script
      → IsProbing (probed_device k script (attached_at old.board k) (record { board = old.board; pool = old.pool; calls = calls; probes = []; ids = old.ids })) script new after went)
      → AreProbed s (k + 1) new (slice_set all k after) (probes ++ went ∷ [])
  probed_more k old new all entry after probes went near are goes =
      let same_count = are.count in
      let close : k < length s.devices = omega arith in
      let x = (is_there s.devices k close).0 in
      let there : slice_get s.devices k ≡ Some x = (is_there s.devices k close).1 in
      let own : get_or s.devices k x ≡ x = get_or_from_slice_get s.devices k x x there in
      let w = front_probed s k in
      let p = own_probing k x w in
      let more : front_probed s (k + 1) ≡ with_device w p = front_more s k x close ∙ ap (λ y. with_device w (own_probing k y w)) own in
      let attached : attached_at old.board k ≡ attached_as k x = ap (λ b. attached_at b k) are.board ∙ front_attached k k x there in
      let stands : Stands (get_or all k entry) x.script (enumeration_of k x) = are.later k x (get_or all k entry) (omega arith) there (slice_get-get_or all k entry near) in
      let same : probed_device k x.script (attached_at old.board k) (record { board = old.board; pool = old.pool; calls = enumeration_of k x; probes = []; ids = old.ids }) ≡ p =
      (λ i. probed_device k x.script (attached i) (record { board = are.board i; pool = are.pool i; calls = enumeration_of k x; probes = []; ids = are.told i })) in
      let is : IsProbing p x.script new after went = subst (λ q. IsProbing q x.script new after went) same (goes x.script (enumeration_of k x) stands (fits_room k x (good.devices k x there))) in
      let long : length w.heard ≡ k = heard_long s x k (omega arith) in
      record {
        board = is.board ∙ sym (ap (λ w. w.board) more);
        pool = is.pool ∙ sym (ap (λ w. w.pool) more);
        went = (λ i. are.went i ++ is.went i ∷ []) ∙ sym (ap (λ w. w.probes) more);
        told = is.told ∙ sym (ap (λ w. w.ids) more);
        count = set_long all k after ∙ are.count;
        asked = λ d device calls one here heard made. ⊎_elim
            (λ (e : slice_get w.heard d ≡ Some calls).
            let below = slice_get_within w.heard d calls e in
            let off : d ≢ k = λ e. absurd (omega arith) in
            are.asked d device calls one here e (sym (set_elsewhere all k d after off) ∙ made))
            (λ (e : (d ≡ length w.heard) × (calls ≡ p.calls)).
            let place : d ≡ k = e.0 ∙ long in
            let itself : x ≡ device = some_same (sym there ∙ (ap (slice_get s.devices) (sym place) ∙ here)) in
            let last : after ≡ one = some_same (sym (set_here all k after near) ∙ (ap (slice_get (slice_set all k after)) (sym place) ∙ made)) in
            subst (λ (y : SceneDevice). Stands one y.script calls) itself (subst (Stands one x.script) (sym e.1) (subst (λ (o : Scripted). Stands o x.script p.calls) last is.heard)))
            (in_longer w.heard p.calls calls d (sym (ap (λ w. slice_get w.heard d) more) ∙ heard));
        later = λ d device one l here made. let off : d ≢ k = λ e. absurd (omega arith) in are.later d device one (omega arith) here (sym (set_elsewhere all k d after off) ∙ made);
      }

  -- all are
  pub probed_end : (k : ℕ) (bindings : Bindings) (all : List Scripted) (probes : List (List Probe)) → k ≡ length s.devices → AreProbed s k bindings all probes → AreProbed s (length s.devices) bindings all probes
  probed_end k bindings all probes e are = subst (λ n. AreProbed s n bindings all probes) e are

  module _ (bindings : Bindings) (all : List Scripted) (probes : List (List Probe)) (are : AreProbed s (length s.devices) bindings all probes) where
    pub devices_ready : AreReady s.devices all
    devices_ready = record {
      count = are.count;
      each = λ d device one at there. (
          let near = slice_get_within s.devices d device at in
          let long = heard_long s device (length s.devices) (omega arith) in
          let heard = is_there (front_probed s (length s.devices)).heard d (omega arith) in
          let bare = front_bare s d device heard.0 at heard.1 in
          record {
            calls = heard.0;
            stands = are.asked d device heard.0 one at heard.1 there;
            unasked = kept_each s (λ w. w.heard) (λ p. p.calls) (λ w p. refl) refl IsUnasked own_unasked (length s.devices) (omega arith) d device heard.0 at heard.1;
            at_00 = bare_elsewhere heard.0 bare;
            unhalted = bare_halts heard.0 bare;
          });
    }

    pub all_heard : HaveHeard s.devices (probes_of s).heard all
    all_heard = record {
      count = are.count;
      same = ap (λ w. length w.heard) (sym (front_all s)) ∙ any_long s.devices refl;
      each = λ d device calls one at heard there. are.asked d device calls one at (ap (λ w. slice_get w.heard d) (front_all s) ∙ heard) there;
    }
      where
        any_long : (ds : List SceneDevice) → s.devices ≡ ds → length (front_probed s (length s.devices)).heard ≡ length s.devices
        any_long [] e = let none : length s.devices ≡ 0 = ap (λ (l : List SceneDevice). length l) e in ap (λ n. length (front_probed s n).heard) none ∙ sym none
        any_long (x ∷ ds) e = heard_long s x (length s.devices) (omega arith)

    pub board_so : bindings.board ≡ (probes_of s).board
    board_so = are.board ∙ ap (λ w. w.board) (front_all s)

    pub pool_so : bindings.pool ≡ (probes_of s).pool
    pool_so = are.pool ∙ ap (λ w. w.pool) (front_all s)

    pub ids_so : bindings.ids ≡ (probes_of s).ids
    ids_so = are.told ∙ ap (λ w. w.ids) (front_all s)

    pub probes_so : probes ≡ (probes_of s).probes
    probes_so = are.went ∙ ap (λ w. w.probes) (front_all s)

  module _ (board : BoardValue) (faults : List (Option EnumFault)) (probes : List (List Probe)) (board_so : board ≡ (probes_of s).board) (faults_so : faults ≡ faults_from 0 s.devices) (probes_so : probes ≡ (probes_of s).probes)
      (k : ℕ) (close : k < length s.devices) where
    abbrev x : SceneDevice
    x = (is_there s.devices k close).0

    there : slice_get s.devices k ≡ Some x
    there = (is_there s.devices k close).1

    attached : attached_at board k ≡ attached_as k x
    attached = ap (λ b. attached_at b k) (board_so ∙ sym (ap (λ w. w.board) (front_all s))) ∙ front_attached (length s.devices) k x there

    long : length probes ≡ length s.devices
    long = ap (λ (l : List (List Probe)). length l) (probes_so ∙ sym (ap (λ w. w.probes) (front_all s))) ∙ probes_long s x (length s.devices) (omega arith)

    pub probe_near : k < length probes
    probe_near = let l = long in omega arith

    pub fault_near : k < length faults
    fault_near = let l = ap (λ (l : List (Option EnumFault)). length l) faults_so ∙ faults_long 0 s.devices in omega arith

    pub each_probe : (q : List Probe) → q ≡ get_or probes k q → IfSome (attached_at board k) (λ (a : Attached). length q ≡ length (interfaces_of a.config))
    each_probe q at =
        let stands : slice_get (front_probed s (length s.devices)).probes k ≡ Some q =
        ap (λ l. slice_get l k) (sym (probes_so ∙ sym (ap (λ w. w.probes) (front_all s)))) ∙ (slice_get-get_or probes k q probe_near ∙ ap Some (sym at)) in
        subst (λ o. IfSome o (λ (a : Attached). length q ≡ length (interfaces_of a.config))) (sym attached)
        (kept_each s (λ w. w.probes) (λ p. p.probes) (λ w p. refl) refl HasProbes own_probes (length s.devices) (omega arith) k x q there stands)

    pub found_more : (q : List Probe) (o : Option EnumFault) (f : Found) (old new : List Found) → q ≡ get_or probes k q → o ≡ get_or faults k o → f ≡ found_by board k q o
        → old ≡ found_from board 0 (take k s.devices) (take k probes) → new ≡ old ++ f ∷ [] → new ≡ found_from board 0 (take (k + 1) s.devices) (take (k + 1) probes)
    found_more q o f old new q_at o_at is o_so n_so =
        let zero_k : 0 + k ≡ k = omega arith in
        let own : get_or s.devices k x ≡ x = get_or_from_slice_get s.devices k x x there in
        let fault : o ≡ fault_as k x = o_at ∙ (ap (λ l. get_or l k o) faults_so ∙ (faults_get 0 k s.devices x o there ∙ ap (λ n. fault_as n x) zero_k)) in
        let due : f ≡ found_as board k x q = is ∙ (ap (found_by board k q) fault ∙ found_same board k x q attached) in
        let front : length (take k s.devices) ≡ k = length-take-le k s.devices (omega arith) in
        let front_probes : length (take k probes) ≡ k = (let l = long in length-take-le k probes (omega arith)) in
        let place : 0 + length (take k s.devices) ≡ k = omega arith in
        n_so ∙ ((λ i. o_so i ++ due i ∷ []) ∙ (sym (found-snoc board 0 (take k s.devices) (take k probes) x q (front_probes ∙ sym front) ∙ ap (λ n. found_from board 0 (take k s.devices) (take k probes) ++ found_as board n x q ∷ []) place)
        ∙ ((λ i. found_from board 0 (take k s.devices ++ sym own i ∷ []) (take k probes ++ q_at i ∷ []))
        ∙ (λ i. found_from board 0 (sym (take_more s.devices k x close) i) (sym (take_more probes k q probe_near) i)))))

  pub found_all : (board : BoardValue) (probes : List (List Probe)) (k : ℕ) (found : List Found) → board ≡ (probes_of s).board → probes ≡ (probes_of s).probes → k ≡ length s.devices → found ≡ found_from board 0 (take k s.devices) (take k probes) → found ≡ found_of s
  unfolding found_of
  found_all board probes k found board_so probes_so at is =
      let long : length probes ≤ k = all_long in
      is ∙ ((λ i. found_from (board_so i) 0 (take_all s.devices k (omega arith) i) (take_all probes k long i)) ∙ ap (λ l. found_from (probes_of s).board 0 s.devices l) probes_so)
    where
      all_long : length probes ≤ k
      all_long = go s.devices refl
        where
          go : (ds : List SceneDevice) → s.devices ≡ ds → length probes ≤ k
          go [] e =
              let none : length (front_probed s 0).probes ≡ 0 = refl in
              let zero_long : length s.devices ≡ 0 = ap (λ (l : List SceneDevice). length l) e in
              let same = ap (λ (l : List (List Probe)). length l) (probes_so ∙ sym (ap (λ w. w.probes) (front_all s)) ∙ ap (λ n. (front_probed s n).probes) zero_long) in
              omega arith
          go (x ∷ ds) e =
              let same = ap (λ (l : List (List Probe)). length l) (probes_so ∙ sym (ap (λ w. w.probes) (front_all s))) ∙ probes_long s x (length s.devices) (omega arith) in
              omega arith

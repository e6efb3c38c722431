-- A call without a cause against it leaves the scene well formed.
use Rattle.std.proofs.Common.{◌≡◌, ℕ, ◌<◌, ◌≤◌, ◌^◌, inl, inr, true, false, cond, List, [], ◌∷◌, ◌++◌, length, Option, Some, None, refl, sym, ap, ◌∙◌, arith, subst, lit≤}
use Rattle.std.specs.Prelude.{◌≢◌, ◌==◌, Bool, nat_le, nat_lt, slice_get, codes}
use Rattle.std.specs.List.{All}
use Rattle.std.specs.Str.{bytes_eq}
use Rattle.std.proofs.lemmas.Bool.{and_parts, leb-true, true≢false}
use Rattle.std.proofs.lemmas.List.Elements.{All-nil, All-push, All-weaker}
use Rattle.usb_scene.specs.declared.scene.Scene.{Scene}
use Rattle.usb_scene.specs.declared.scene.SceneDevice.{SceneDevice}
use Rattle.usb_scene.specs.declared.scene.SceneThread.{SceneThread}
use Rattle.usb_scene.specs.declared.scene.SceneUrb.{SceneUrb}
use Rattle.usb_scene.specs.declared.scene.Call.{Call}
use Rattle.usb_scene.specs.declared.scene.Target.{Target}
use Rattle.usb_scene.specs.declared.scene.Target.TheVariants as target
use Rattle.usb_statement.specs.declared.keyword.UrbCall.{UrbCall}
use Rattle.usb_statement.specs.declared.keyword.UrbCall.TheVariants as on
use Rattle.usb_statement.specs.declared.keyword.BareCall.{BareCall}
use Rattle.usb_statement.specs.declared.keyword.BareCall.TheVariants as bare
use Rattle.usb_statement.specs.declared.interface_call.InterfaceCall.{InterfaceCall}
use Rattle.usb_statement.specs.declared.interface_call.InterfaceCall.TheVariants as made
use Rattle.usb_statement.specs.declared.statement.Statement.TheVariants as say
use Rattle.usb_statement.specs.Sayable.{IsCarried}
use Rattle.usb_statement.specs.Statements.{is_empty}
use Rattle.usb_scene.specs.WellFormed.{IsDevice, HasEnd, HasDrivers, IsUrb, IsBuilt, IsBuffer, CarriesBytes, CarriesBuffer, IsCoding, IsBreak, IsCall, AreHeld, held_on, is_hub_call, IsThread}
use Rattle.usb_scene.specs.Rules.{given_len, carries_within, raises, withdraws, calls_of, last_thread, is_hub, may_call}
use Rattle.usb_scene.specs.Growth.{plain_call, urb_call_code, bare_call_code, interface_call_code, interface_call, with_call, scene_calls}
use Rattle.usb_scene.specs.Counts.{AreFair}
use Rattle.usb_scene.proofs.HeldCounts.{urb_call, quiet_submit, quiet_alone, quiet_interface, fair_quiet, fair_said}
use Rattle.usb_scene.proofs.Scripts.{held_calmly, held_said, held_none}
use Rattle.usb_scene.proofs.Scenes.{length-on_last}
use Rattle.usb_scene.proofs.Pushed.{Each, all_last, Once, once_last}

abbrev pub IsNotServer : SceneThread → Type 0
IsNotServer thread = bytes_eq thread.name (codes "server") ≡ false

-- all of `IsWellFormed` except the totals
pub record IsFormed (s : Scene) : Type 0 where
  pub few_devices : length s.devices ≤ 16
  pub few_urbs : length s.urbs ≤ 256
  pub few_threads : length s.threads ≤ 16
  pub devices : Each IsDevice s.devices
  pub urbs : All (IsUrb s) s.urbs
  pub threads : All (IsThread s) s.threads
  pub device_names : Once (λ (d : SceneDevice). d.name) s.devices
  pub urb_names : Once (λ (u : SceneUrb). u.name) s.urbs
  pub thread_names : Once (λ (t : SceneThread). t.name) s.threads
  pub not_server : All IsNotServer s.threads

-- such a scene whose scripts withdraw no more than they raise
pub record IsSound (s : Scene) : Type 0 where
  pub formed : IsFormed s
  pub fair : All (λ (t : SceneThread). AreFair t.calls) s.threads

pub urb_kept : (s t : Scene) → s.devices ≡ t.devices → (u : SceneUrb) → IsUrb s u → IsUrb t u
urb_kept s t same u h = record {
  home = subst (λ (ds : List SceneDevice). HasEnd u.address (slice_get ds u.device)) same h.home;
  len = h.len;
  again = h.again;
}

-- a scene with the same devices, and no fewer URBs
pub record Keeps (s t : Scene) : Type 0 where
  pub devices : s.devices ≡ t.devices
  pub urbs : length s.urbs ≤ length t.urbs

-- threads
built_kept : (s t : Scene) → Keeps s t → (code : ℕ) (at : Target) → IsBuilt s code at → IsBuilt t code at
built_kept s t more code (target.Urb u) h = (h.0, h.1, omega (arith, h.2, more.urbs))
built_kept s t more code target.Nothing h = h
built_kept s t more code (target.Role d interface role) h = (h.0, h.1, h.2, subst (λ (ds : List SceneDevice). HasDrivers (slice_get ds d)) more.devices h.3)
built_kept s t more code (target.Interface d interface) h = (h.0, h.1, h.2, subst (λ (ds : List SceneDevice). HasDrivers (slice_get ds d)) more.devices h.3)
built_kept s t more code (target.Anchor n) h = h
built_kept s t more code (target.Device n) h = h

call_kept : (s t : Scene) → Keeps s t → (c : Call) → IsCall s c → IsCall t c
call_kept s t more c h = record {
  line = h.line;
  built = built_kept s t more c.code c.target h.built;
  setup = h.setup;
  bytes = h.bytes;
  lights = h.lights;
  written = h.written;
  coding = h.coding;
  lines = h.lines;
  pause = h.pause;
  printed = h.printed;
  question = h.question;
  soft_reset = h.soft_reset;
}

thread_kept : (s t : Scene) → Keeps s t → (thread : SceneThread) → IsThread s thread → IsThread t thread
thread_kept s t more thread h = record { calls = All-weaker (IsCall s) (IsCall t) (call_kept s t more) thread.calls h.calls; held = h.held; hub = h.hub }

pub threads_kept : (s t : Scene) → Keeps s t → All (IsThread s) s.threads → All (IsThread t) s.threads
threads_kept s t more h = All-weaker (IsThread s) (IsThread t) (thread_kept s t more) s.threads h

thread_with : (s t : Scene) (c : Call) (thread : SceneThread) → Keeps s t → IsCall t c → AreHeld (thread.calls ++ c ∷ [])
    → (bytes_eq thread.name (codes "hub") ≡ false → is_hub_call c.code ≡ false) → IsThread s thread → IsThread t (with_call c thread)
thread_with s t c thread more new held hub h = record {
  calls = All-push (IsCall t) thread.calls c (thread_kept s t more thread h).calls new;
  held = held;
  hub = λ e. All-push (λ (c : Call). is_hub_call c.code ≡ false) thread.calls c (h.hub e) (hub e);
}

pub new_thread : (s : Scene) (name : List ℕ) → IsThread s (record { name = name; calls = [] })
new_thread s name = record { calls = All-nil (IsCall s); held = held_none; hub = λ e. All-nil (λ (c : Call). is_hub_call c.code ≡ false) }

-- what holds of the last script with one call more
record IsGrown (c : Call) (thread : SceneThread) : Type 0 where
  held : AreHeld (thread.calls ++ c ∷ [])
  fair : AreFair (thread.calls ++ c ∷ [])
  hub : bytes_eq thread.name (codes "hub") ≡ false → is_hub_call c.code ≡ false

abbrev BothOf : Scene → SceneThread → Type 0
BothOf s thread = IsThread s thread × AreFair thread.calls

call_sound : (s : Scene) (c : Call) → is_empty s.threads ≡ false → IsCall s c
    → ((thread : SceneThread) → last_thread s ≡ Some thread → BothOf s thread → IsGrown c thread) → IsSound s → IsSound (scene_calls s c)
call_sound s c some new grown h =
    let t = scene_calls s c in
    let both : All (BothOf s) s.threads = λ k d l. (h.formed.threads k d l, h.fair k d l) in
    let more : Keeps s t = record { devices = refl; urbs = omega arith } in
    let placed : IsCall t c = call_kept s t more c new in
    record {
      formed = record {
        few_devices = h.formed.few_devices;
        few_urbs = h.formed.few_urbs;
        few_threads = omega (arith, h.formed.few_threads, length-on_last (with_call c) s.threads);
        devices = h.formed.devices;
        urbs = All-weaker (IsUrb s) (IsUrb t) (urb_kept s t refl) s.urbs h.formed.urbs;
        threads = all_last (BothOf s) (IsThread t) (with_call c) s.threads some both (λ x p. thread_kept s t more x p.0)
            (λ x e p. let g = grown x e p in thread_with s t c x more placed g.held g.hub p.0);
        device_names = h.formed.device_names;
        urb_names = h.formed.urb_names;
        thread_names = once_last (λ (x : SceneThread). x.name) (with_call c) (λ x. refl) s.threads h.formed.thread_names;
        not_server = all_last IsNotServer IsNotServer (with_call c) s.threads some h.formed.not_server (λ x p. p) (λ x e p. p);
      };
      fair = all_last (BothOf s) (λ (x : SceneThread). AreFair x.calls) (with_call c) s.threads some both (λ x p. p.1) (λ x e p. (grown x e p).fair);
    }

pub urb_codes : (call : UrbCall) → (2 ≤ urb_call_code call) × (urb_call_code call ≤ 7)
urb_codes on.Unlink = (lit≤ tt, lit≤ tt)
urb_codes on.Kill = (lit≤ tt, lit≤ tt)
urb_codes on.Poison = (lit≤ tt, lit≤ tt)
urb_codes on.Unpoison = (lit≤ tt, lit≤ tt)
urb_codes on.Block = (lit≤ tt, lit≤ tt)
urb_codes on.Unblock = (lit≤ tt, lit≤ tt)

-- a call that is on no interface
other_call : (s : Scene) (c : Call) → c.code ≤ 22 → c.line < 2 ^ 31 → IsBuilt s c.code c.target → (c.code ≢ 1 → c.setup ≡ None) → IsBuffer c.bytes → IsCall s c
other_call s c few low there setup buffer = record {
  line = low;
  built = there;
  setup = setup;
  bytes = buffer;
  lights = λ e. absurd (omega arith);
  written = λ e. absurd (omega arith);
  coding = λ e. absurd (omega arith);
  lines = λ e. absurd (omega arith);
  pause = λ e. absurd (omega arith);
  printed = λ e. absurd (omega arith);
  question = λ e. absurd (omega arith);
  soft_reset = λ e. absurd (omega arith);
}

not_of_hub : (call : UrbCall) → is_hub_call (urb_call_code call) ≡ false
not_of_hub on.Unlink = refl
not_of_hub on.Kill = refl
not_of_hub on.Poison = refl
not_of_hub on.Unpoison = refl
not_of_hub on.Block = refl
not_of_hub on.Unblock = refl

bare_built : (s : Scene) (call : BareCall) → IsBuilt s (bare_call_code call) target.Nothing
bare_built s bare.Serve = inl refl
bare_built s bare.Down = inr (inl refl)
bare_built s bare.Up = inr (inr refl)

bare_codes : (call : BareCall) → bare_call_code call ≤ 22
bare_codes bare.Serve = lit≤ tt
bare_codes bare.Down = lit≤ tt
bare_codes bare.Up = lit≤ tt

-- a call of the host as a whole, as `down`, stands in the thread `hub`
hub_free : (s : Scene) (call : BareCall) (thread : SceneThread) → may_call s (say.Alone call) ≡ true → last_thread s ≡ Some thread
    → bytes_eq thread.name (codes "hub") ≡ false → is_hub_call (bare_call_code call) ≡ false
hub_free s bare.Serve thread h last other = refl
hub_free s bare.Down thread h last other = absurd (true≢false (sym h ∙ ap is_hub last ∙ other))
hub_free s bare.Up thread h last other = absurd (true≢false (sym h ∙ ap is_hub last ∙ other))

given_buffer : (bytes : Option (List ℕ)) → given_len bytes ≤ 16384 → IsBuffer bytes
given_buffer None h = tt
given_buffer (Some bytes) h = h

pub submit_sound : (s : Scene) (line : ℕ) (v : Target) (setup bytes : Option (List ℕ)) → is_empty s.threads ≡ false → IsBuilt s 1 v → given_len bytes ≤ 16384 → line < 2 ^ 31
    → IsSound s → IsSound (scene_calls s (plain_call line 1 v setup bytes))
submit_sound s line v setup bytes some there few low h =
    let c = plain_call line 1 v setup bytes in
    let quiet = quiet_submit line v setup bytes in
    call_sound s c some (other_call s c (lit≤ tt) low there (λ other. absurd (other refl)) (given_buffer bytes few))
    (λ x e p. record { held = held_calmly x.calls c quiet p.0.held; fair = fair_quiet x.calls c quiet p.1; hub = λ other. refl }) h

pub urb_sound : (s : Scene) (line : ℕ) (v : Target) (call : UrbCall) → is_empty s.threads ≡ false → IsBuilt s (urb_call_code call) v → line < 2 ^ 31
    → cond (raises call) (nat_lt (held_on v (calls_of (last_thread s))) 100) true ≡ true
    → cond (withdraws call) (nat_lt 0 (held_on v (calls_of (last_thread s)))) true ≡ true
    → IsSound s → IsSound (scene_calls s (urb_call line v call))
urb_sound s line v call some there low free held h =
    let c = urb_call line v call in
    call_sound s c some (other_call s c (let few = (urb_codes call).1 in omega arith) low there (λ other. refl) tt)
    (λ x e p.
    let same : calls_of (last_thread s) ≡ x.calls = ap calls_of e in
    let free_x = subst (λ (cs : List Call). cond (raises call) (nat_lt (held_on v cs) 100) true ≡ true) same free in
    let held_x = subst (λ (cs : List Call). cond (withdraws call) (nat_lt 0 (held_on v cs)) true ≡ true) same held in
    record { held = held_said call line v x.calls p.1 free_x held_x p.0.held; fair = fair_said call line v x.calls p.1 held_x; hub = λ other. not_of_hub call }) h

pub alone_sound : (s : Scene) (line : ℕ) (call : BareCall) → is_empty s.threads ≡ false → line < 2 ^ 31 → may_call s (say.Alone call) ≡ true
    → IsSound s → IsSound (scene_calls s (plain_call line (bare_call_code call) target.Nothing None None))
alone_sound s line call some low hub h =
    let c = plain_call line (bare_call_code call) target.Nothing None None in
    let quiet = quiet_alone line call in
    call_sound s c some (other_call s c (bare_codes call) low (bare_built s call) (λ other. refl) tt)
    (λ x e p. record { held = held_calmly x.calls c quiet p.0.held; fair = fair_quiet x.calls c quiet p.1; hub = hub_free s call x hub e }) h

-- calls on interfaces
pub interface_codes : (call : InterfaceCall) → (23 ≤ interface_call_code call) × (interface_call_code call ≤ 30)
interface_codes (made.Led lights) = (lit≤ tt, lit≤ tt)
interface_codes (made.Write bytes) = (lit≤ tt, lit≤ tt)
interface_codes (made.Coding rate stop parity bits) = (lit≤ tt, lit≤ tt)
interface_codes (made.Control lines) = (lit≤ tt, lit≤ tt)
interface_codes (made.SendBreak ms) = (lit≤ tt, lit≤ tt)
interface_codes (made.Print bytes) = (lit≤ tt, lit≤ tt)
interface_codes made.Status = (lit≤ tt, lit≤ tt)
interface_codes made.SoftReset = (lit≤ tt, lit≤ tt)

abbrev Where : Bool → Type 0 → Type 0
Where true P = P
Where false P = Unit

-- what a call with this number must carry
abbrev Carries : ℕ → Call → Type 0
Carries code c =
    Where (code == 23) (CarriesBytes 1 c.bytes) × Where (code == 24) (CarriesBuffer c.bytes) × Where (code == 25) (IsCoding c) × Where (code == 26) (CarriesBytes 1 c.bytes)
    × Where (code == 27) (IsBreak c) × Where (code == 28) (CarriesBuffer c.bytes) × Where (code == 29) (c.bytes ≡ None) × Where (code == 30) (c.bytes ≡ None)

carries : (line : ℕ) (v : Target) (call : InterfaceCall) → IsCarried call → carries_within call ≡ true
    → IsBuffer (interface_call line v call).bytes × Carries (interface_call_code call) (interface_call line v call)
carries line v (made.Led lights) said within = (lit≤ tt, (refl, tt, tt, tt, tt, tt, tt, tt))
carries line v (made.Write bytes) said within = let few = leb-true (length bytes) 16384 within in (few, (tt, few, tt, tt, tt, tt, tt, tt))
carries line v (made.Coding rate stop parity bits) said within =
    let most = and_parts (nat_le stop 2) (nat_le parity 4) within in
    let coding : IsCoding (interface_call line v (made.Coding rate stop parity bits)) = record { alone = refl; rate = said.rate_number; stop = leb-true stop 2 most.0; parity = leb-true parity 4 most.1; bits = said.bits_of_data } in
    (tt, (tt, tt, coding, tt, tt, tt, tt, tt))
carries line v (made.Control lines) said within = (lit≤ tt, (tt, tt, tt, refl, tt, tt, tt, tt))
carries line v (made.SendBreak ms) said within = (tt, (tt, tt, tt, tt, record { alone = refl; ms = leb-true ms 65535 within }, tt, tt, tt))
carries line v (made.Print bytes) said within = let few = leb-true (length bytes) 16384 within in (few, (tt, tt, tt, tt, tt, few, tt, tt))
carries line v made.Status said within = (tt, (tt, tt, tt, tt, tt, tt, refl, tt))
carries line v made.SoftReset said within = (tt, (tt, tt, tt, tt, tt, tt, tt, refl))

interface_is : (s : Scene) (line : ℕ) (v : Target) (call : InterfaceCall) → IsBuilt s (interface_call_code call) v → line < 2 ^ 31 → IsCarried call
    → carries_within call ≡ true → IsCall s (interface_call line v call)
interface_is s line v call there low said within =
    let c = carries line v call said within in
    let at : (code : ℕ) → interface_call_code call ≡ code → Carries code (interface_call line v call) = λ code e. subst (λ k. Carries k (interface_call line v call)) e c.1 in
    record {
      line = low;
      built = there;
      setup = λ other. refl;
      bytes = c.0;
      lights = λ e. (at 23 e).0;
      written = λ e. (at 24 e).1;
      coding = λ e. (at 25 e).2;
      lines = λ e. (at 26 e).3;
      pause = λ e. (at 27 e).4;
      printed = λ e. (at 28 e).5;
      question = λ e. (at 29 e).6;
      soft_reset = λ e. (at 30 e).7;
    }

no_hub_interface : (call : InterfaceCall) → is_hub_call (interface_call_code call) ≡ false
no_hub_interface (made.Led lights) = refl
no_hub_interface (made.Write bytes) = refl
no_hub_interface (made.Coding rate stop parity bits) = refl
no_hub_interface (made.Control lines) = refl
no_hub_interface (made.SendBreak ms) = refl
no_hub_interface (made.Print bytes) = refl
no_hub_interface made.Status = refl
no_hub_interface made.SoftReset = refl

pub interface_sound : (s : Scene) (line : ℕ) (v : Target) (call : InterfaceCall) → is_empty s.threads ≡ false → IsBuilt s (interface_call_code call) v → line < 2 ^ 31
    → IsCarried call → carries_within call ≡ true → IsSound s → IsSound (scene_calls s (interface_call line v call))
interface_sound s line v call some there low said within h =
    let c = interface_call line v call in
    let quiet = quiet_interface line v call in
    call_sound s c some (interface_is s line v call there low said within)
    (λ x e p. record { held = held_calmly x.calls c quiet p.0.held; fair = fair_quiet x.calls c quiet p.1; hub = λ other. no_hub_interface call }) h

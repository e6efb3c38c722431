-- The calls: each may come where it comes, and together they are the script.
use Rattle.std.proofs.Common.{◌≡◌, ℕ, zero, suc, ◌+◌, ◌<◌, ◌≤◌, Bool, true, false, cond, ◌==◌, nat_lt, List, [], ◌∷◌, ◌++◌, length, position, codes, Some, None, refl, sym, ap, ◌∙◌, subst, arith, lit<}
use Rattle.std.specs.Str.{bytes_eq}
use Rattle.std.proofs.lemmas.Bool.{lt-ltb}
use Rattle.std.proofs.lemmas.List.FromFn.{length-map-range_with_len}
use Rattle.usb_text.specs.Kinds.{is_name}
use Rattle.usb_statement.specs.declared.urb_name.UrbName.TheVariants.{Scripted}
use Rattle.usb_statement.specs.declared.keyword.UrbCall.TheVariants.{Unlink, Kill}
use Rattle.usb_statement.specs.declared.keyword.BareCall.TheVariants.{Serve}
use Rattle.usb_statement.specs.declared.statement.Statement.TheVariants as say
use Rattle.usb_scene.specs.declared.scene.SceneDevice.{SceneDevice}
use Rattle.usb_scene.specs.declared.scene.SceneUrb.{SceneUrb}
use Rattle.usb_scene.specs.declared.scene.Call.{Call}
use Rattle.usb_scene.specs.declared.scene.Target.TheVariants as target
use Rattle.usb_scene.specs.WellFormed.{all_calls}
use Rattle.usb_scene.specs.Rules.{SoFar}
use Rattle.usb_scene.specs.Growth.{grown_by, plain_call}
use Rattle.usb_scene.specs.PrintedScene.{IsAllowed, AllowedInTurn}
use Rattle.usb_generate.specs.Draws.{draw}
use Rattle.usb_generate.specs.Generator.{urb_name, call_place, call_at, calls}
use Rattle.usb_generate.proofs.Streams.{calls_next}
use Rattle.usb_generate.proofs.Answered.{draw_below}
use Rattle.usb_generate.proofs.Said.{call_line_at, call_lines}

-- where URBs with names u0 to u15 are found
pub record AreNamed (urbs : List SceneUrb) : Type 0 where
  pub names : (u : ℕ) → u < 16 → is_name (urb_name u) ≡ true
  pub found : (u : ℕ) → u < 16 → position (λ (urb : SceneUrb). bytes_eq urb.name (urb_name u)) urbs ≡ Some u

-- what is said up to some calls of the only thread
abbrev pub script_said : List SceneDevice → List SceneUrb → List Call → SoFar
script_said devices urbs said = record {
  scene = record { version = 1; devices = devices; urbs = urbs; anchors = []; threads = record { name = codes "t"; calls = said } ∷ [] };
  has_port = false;
}

-- there is room for one call more
has_left : (devices : List SceneDevice) (urbs : List SceneUrb) (said : List Call) → length said < 4096 → nat_lt (all_calls (script_said devices urbs said).scene) 4096 ≡ true
has_left devices urbs said few = lt-ltb (all_calls (script_said devices urbs said).scene) 4096 (omega arith)

submit_allowed : (devices : List SceneDevice) (urbs : List SceneUrb) (said : List Call) (u : ℕ) → AreNamed urbs → u < 16 → length said < 4096
    → IsAllowed (script_said devices urbs said) (say.Submit (Scripted (urb_name u)) None None)
submit_allowed devices urbs said u named low few =
    let left = has_left devices urbs said few in
    let found = named.found u low in
    record { sayable = (named.names u low, tt, tt); place = refl; no_cause = simp (found, left) }

unlink_allowed : (devices : List SceneDevice) (urbs : List SceneUrb) (said : List Call) (u : ℕ) → AreNamed urbs → u < 16 → length said < 4096
    → IsAllowed (script_said devices urbs said) (say.OnUrb Unlink (Scripted (urb_name u)))
unlink_allowed devices urbs said u named low few =
    let left = has_left devices urbs said few in
    let found = named.found u low in
    record { sayable = named.names u low; place = refl; no_cause = simp (found, left) }

kill_allowed : (devices : List SceneDevice) (urbs : List SceneUrb) (said : List Call) (u : ℕ) → AreNamed urbs → u < 16 → length said < 4096
    → IsAllowed (script_said devices urbs said) (say.OnUrb Kill (Scripted (urb_name u)))
kill_allowed devices urbs said u named low few =
    let left = has_left devices urbs said few in
    let found = named.found u low in
    record { sayable = named.names u low; place = refl; no_cause = simp (found, left) }

serve_allowed : (devices : List SceneDevice) (urbs : List SceneUrb) (said : List Call) → length said < 4096
    → IsAllowed (script_said devices urbs said) (say.Alone Serve)
serve_allowed devices urbs said few =
    let left = has_left devices urbs said few in
    record { sayable = tt; place = refl; no_cause = simp left }

-- a call, by what is said of the first number that is drawn for it
call_allowed_by : (s t f : Bool) (devices : List SceneDevice) (urbs : List SceneUrb) (said : List Call) (u : ℕ) → AreNamed urbs → u < 16 → length said < 4096
    → IsAllowed (script_said devices urbs said)
    (cond s (say.Submit (Scripted (urb_name u)) None None) (cond t (say.OnUrb Unlink (Scripted (urb_name u))) (cond f (say.OnUrb Kill (Scripted (urb_name u))) (say.Alone Serve))))
call_allowed_by true t f devices urbs said u named low few = submit_allowed devices urbs said u named low few
call_allowed_by false true f devices urbs said u named low few = unlink_allowed devices urbs said u named low few
call_allowed_by false false true devices urbs said u named low few = kill_allowed devices urbs said u named low few
call_allowed_by false false false devices urbs said u named low few = serve_allowed devices urbs said few

call_grown_by : (s t f : Bool) (devices : List SceneDevice) (urbs : List SceneUrb) (said : List Call) (line u : ℕ) → AreNamed urbs → u < 16
    → grown_by (script_said devices urbs said) line
    (cond s (say.Submit (Scripted (urb_name u)) None None) (cond t (say.OnUrb Unlink (Scripted (urb_name u))) (cond f (say.OnUrb Kill (Scripted (urb_name u))) (say.Alone Serve))))
    ≡ script_said devices urbs
    (said
    ++ cond s (plain_call line 1 (target.Urb u) None None)
    (cond t (plain_call line 2 (target.Urb u) None None) (cond f (plain_call line 3 (target.Urb u) None None) (plain_call line 8 target.Nothing None None)))
    ∷ [])
call_grown_by true t f devices urbs said line u named low = let found = named.found u low in simp found
call_grown_by false true f devices urbs said line u named low = let found = named.found u low in simp found
call_grown_by false false true devices urbs said line u named low = let found = named.found u low in simp found
call_grown_by false false false devices urbs said line u named low = refl

length-calls : (x n : ℕ) → length (calls x n) ≡ n
unfolding calls
length-calls x n = length-map-range_with_len (call_at x) 0 n

-- m calls, from call i on, after those before
pub calls_allowed : (devices : List SceneDevice) (urbs : List SceneUrb) (x i m : ℕ) → AreNamed urbs → i + m ≤ 4096
    → AllowedInTurn (script_said devices urbs (calls x i)) (30 + i) (call_lines x i m) (script_said devices urbs (calls x (i + m))).scene
unfolding call_lines
calls_allowed devices urbs x i zero named few = let e : i ≡ i + 0 = omega arith in ap (λ n. (script_said devices urbs (calls x n)).scene) e
calls_allowed devices urbs x i (suc m) named few =
    let c = draw x (call_place x i) 8 in
    let u = draw x (call_place x i + 1) 16 in
    let low : u < 16 = draw_below x (call_place x i + 1) 16 (lit< tt) in
    let short : length (calls x i) < 4096 = omega (arith, length-calls x i) in
    let here : IsAllowed (script_said devices urbs (calls x i)) (call_line_at x i) = call_allowed_by (nat_lt c 4) (c == 4) (c == 5) devices urbs (calls x i) u named low short in
    let line : 30 + i + 1 ≡ 31 + i = omega arith in
    let grown : grown_by (script_said devices urbs (calls x i)) (30 + i + 1) (call_line_at x i) ≡ script_said devices urbs (calls x (i + 1)) =
    ap (λ n. grown_by (script_said devices urbs (calls x i)) n (call_line_at x i)) line
    ∙ call_grown_by (nat_lt c 4) (c == 4) (c == 5) devices urbs (calls x i) (31 + i) u named low
    ∙ ap (script_said devices urbs) (sym (calls_next x i)) in
    let more : AllowedInTurn (script_said devices urbs (calls x (i + 1))) (30 + (i + 1)) (call_lines x (i + 1) m) (script_said devices urbs (calls x (i + 1 + m))).scene =
    calls_allowed devices urbs x (i + 1) m named (omega arith) in
    let behind_line : 30 + (i + 1) ≡ 30 + i + 1 = omega arith in
    let total : i + 1 + m ≡ i + suc m = omega arith in
    let at_line = subst (λ n. AllowedInTurn (script_said devices urbs (calls x (i + 1))) n (call_lines x (i + 1) m) (script_said devices urbs (calls x (i + 1 + m))).scene) behind_line more in
    let at_end = subst (λ n. AllowedInTurn (script_said devices urbs (calls x (i + 1))) (30 + i + 1) (call_lines x (i + 1) m) (script_said devices urbs (calls x n)).scene) total at_line in
    (here, subst (λ (s : SoFar). AllowedInTurn s (30 + i + 1) (call_lines x (i + 1) m) (script_said devices urbs (calls x (i + suc m))).scene) (sym grown) at_end)

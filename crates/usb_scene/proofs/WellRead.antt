-- Every scene that is read is well formed.
use Rattle.std.proofs.Common.{◌≡◌, ℕ, ◌+◌, ◌-◌, ◌<◌, ◌≤◌, ◌^◌, Bool, true, false, cond, List, [], ◌∷◌, length, Option, Some, None, Ok, Err, Result, refl, sym, ap, ◌∙◌, arith, subst, lit≤}
use Rattle.std.proofs.lemmas.List.Elements.{All-nil}
use Rattle.usb_text.specs.Lines.{raw_lines, without_return}
use Rattle.usb_text.proofs.Known.{length-raw_lines}
use Rattle.usb_scene.specs.declared.scene.Scene.{Scene}
use Rattle.usb_scene.specs.declared.scene.SceneThread.{SceneThread}
use Rattle.usb_statement.specs.declared.statement.Statement.{Statement}
use Rattle.usb_statement.specs.declared.keyword.Keyword.{Keyword}
use Rattle.usb_scene.specs.declared.cause.Cause.{Cause}
use Rattle.usb_scene.specs.declared.cause.Cause.TheVariants as cause
use Rattle.usb_scene.specs.WellFormed.{IsUrb, IsThread, all_replies, all_calls, IsWellFormed}
use Rattle.usb_statement.specs.Statements.{keyword_of, keyword_said, statement_of}
use Rattle.usb_scene.specs.Rules.{SoFar, may_stand, statement_cause}
use Rattle.usb_scene.specs.Growth.{empty_scene, scene_with, grown_by, nothing_said}
use Rattle.usb_scene.specs.Counts.{AreFair}
use Rattle.usb_statement.specs.Sayable.{IsSayable}
use Rattle.usb_scene.specs.Read.{Reading, allowed, formed, in_place, is_header, grown, line_words, plain_read, ended, then_on, lines_read, scene_of}
use Rattle.usb_scene.proofs.Placed.{place_said}
use Rattle.usb_scene.proofs.Allowed.{IsAllowed, allowed_said}
use Rattle.usb_statement.proofs.SaidLines.{said_sayable}
use Rattle.usb_scene.proofs.Sound.{sound_with}
use Rattle.usb_scene.proofs.SoundCalls.{IsNotServer, IsFormed, IsSound}
use Rattle.usb_scene.proofs.Drafts.{HasRoom, room_with}

-- the totals are within their limits
record HasTotals (s : Scene) : Type 0 where
  replies : all_replies s ≤ 65536
  calls : all_calls s ≤ 4096

abbrev IsGood : Reading → Type 0
IsGood None = Unit {0}
IsGood (Some so_far) = IsSound so_far.scene × HasTotals so_far.scene

-- what is known of the statement on a good line
record IsPlaced (so_far : SoFar) (said : Statement) : Type 0 where
  place : may_stand so_far.scene (keyword_said said) ≡ true
  sayable : IsSayable said
  allowed : IsAllowed so_far said

if_ok : {X : Type 0} (t : Bool) (x : Result X Cause) (c : Cause) (y : X) → cond t x (Err c) ≡ Ok y → (t ≡ true) × (x ≡ Ok y)
if_ok true x c y h = (refl, h)
if_ok false x c y h = cc

allowed_ok : (x : Statement) (o : Option Cause) (y : Statement) → allowed x o ≡ Ok y → (o ≡ None) × (x ≡ y)
allowed_ok x None y h = (refl, cc)
allowed_ok x (Some c) y h = cc

formed_ok : (so_far : SoFar) (o : Option Statement) (y : Statement) → formed so_far o ≡ Ok y → (o ≡ Some y) × (statement_cause so_far y ≡ None)
formed_ok so_far None y h = cc
formed_ok so_far (Some x) y h =
    let p = allowed_ok x (statement_cause so_far x) y h in
    (ap Some p.1, ap (statement_cause so_far) (sym p.1) ∙ p.0)

placed : (so_far : SoFar) (o : Option Keyword) (rest : List (List ℕ)) (said : Statement) → in_place so_far o rest ≡ Ok said → IsPlaced so_far said
placed so_far None rest said h = cc
placed so_far (Some k) rest said h =
    let a = if_ok (may_stand so_far.scene k) (formed so_far (statement_of k rest)) cause.Word said h in
    let b = formed_ok so_far (statement_of k rest) said a.1 in
    record { place = place_said so_far.scene k rest said a.0 b.0; sayable = said_sayable k rest said b.0; allowed = allowed_said so_far said b.1 }

empty_good : IsSound empty_scene
empty_good = record {
  formed = record {
    few_devices = lit≤ tt;
    few_urbs = lit≤ tt;
    few_threads = lit≤ tt;
    devices = λ d device e. cc;
    urbs = All-nil (IsUrb empty_scene);
    threads = All-nil (IsThread empty_scene);
    device_names = λ i j a b e g same. cc;
    urb_names = λ i j a b e g same. cc;
    thread_names = λ i j a b e g same. cc;
    not_server = All-nil IsNotServer;
  };
  fair = All-nil (λ (t : SceneThread). AreFair t.calls);
}

empty_totals : HasTotals empty_scene
empty_totals = record { replies = lit≤ tt; calls = lit≤ tt }

-- the totals after a line
totals_with : (so_far : SoFar) (n : ℕ) (said : Statement) → IsSound so_far.scene → HasTotals so_far.scene → IsPlaced so_far said → HasTotals (scene_with so_far.scene n said)
totals_with so_far n said sound totals p =
    let s = so_far.scene in
    let room : HasRoom s (65536 - all_replies s) (4096 - all_calls s) = record {
      devices = sound.formed.few_devices;
      urbs = sound.formed.few_urbs;
      replies = let few = totals.replies in omega arith;
      calls = let few = totals.calls in omega arith;
    } in
    let left = room_with so_far (65536 - all_replies s) (4096 - all_calls s) n said room p.place p.allowed in
    record { replies = omega (arith, left.replies); calls = omega (arith, left.calls) }

well_formed : (s : Scene) → IsFormed s → HasTotals s → IsWellFormed s
well_formed s h totals = record {
  few_devices = h.few_devices;
  few_urbs = h.few_urbs;
  few_threads = h.few_threads;
  few_replies = totals.replies;
  few_calls = totals.calls;
  devices = h.devices;
  urbs = h.urbs;
  threads = h.threads;
  device_names = h.device_names;
  urb_names = h.urb_names;
  thread_names = h.thread_names;
  not_server = h.not_server;
}

is_good : (a b : Reading) → IsGood a → a ≡ b → IsGood b
is_good a b h e = subst IsGood e h

grown_good : (so_far : SoFar) (n : ℕ) (read : Result Statement Cause) (next : Reading) → IsSound so_far.scene × HasTotals so_far.scene → n < 2 ^ 31
    → ((said : Statement) → read ≡ Ok said → IsPlaced so_far said) → grown so_far n read ≡ Ok next → IsGood next
grown_good so_far n (Err c) next good low placed h = cc
grown_good so_far n (Ok said) next good low placed h =
    let p = placed said refl in
    is_good (Some (grown_by so_far n said)) next (sound_with so_far n said good.0 p.place p.sayable p.allowed low, totals_with so_far n said good.0 good.1 p) (cc)

line_good : (reading : Reading) (n : ℕ) (texts : Option (List (List ℕ))) (next : Reading) → IsGood reading → n < 2 ^ 31 → plain_read reading n texts ≡ Ok next → IsGood next
line_good reading n None next good low h = cc
line_good reading n (Some []) next good low h = is_good reading next good (cc)
line_good None n (Some (first ∷ rest)) next good low h =
    let a = if_ok (is_header (first ∷ rest)) (Ok (Some nothing_said)) cause.Header next h in
    is_good (Some nothing_said) next (empty_good, empty_totals) (let e = a.1 in cc)
line_good (Some so_far) n (Some (first ∷ rest)) next good low h =
    grown_good so_far n (in_place so_far (keyword_of first) rest) next good low (placed so_far (keyword_of first) rest) h

ended_good : (reading : Reading) (n : ℕ) (scene : Scene) → IsGood reading → ended reading n ≡ Ok scene → IsWellFormed scene
ended_good None n scene good h = cc
ended_good (Some so_far) n scene good h = let e : so_far.scene ≡ scene = cc in subst IsWellFormed e (well_formed so_far.scene good.0.formed good.1)

then_good : (n : ℕ) (texts : List (List ℕ)) (read : Result Reading Cause) (scene : Scene)
    → ((next : Reading) → read ≡ Ok next → lines_read next n texts ≡ Ok scene → IsWellFormed scene)
    → then_on (λ next. lines_read next n texts) n read ≡ Ok scene → IsWellFormed scene
then_good n texts (Err c) scene on h = cc
then_good n texts (Ok next) scene on h = on next refl h

lines_good : (reading : Reading) (n : ℕ) (texts : List (List ℕ)) (scene : Scene) → IsGood reading → n + length texts < 2 ^ 31 → lines_read reading n texts ≡ Ok scene → IsWellFormed scene
lines_good reading n [] scene good low h = ended_good reading n scene good h
lines_good reading n (text ∷ texts) scene good low h =
    then_good (n + 1) texts (plain_read reading (n + 1) (line_words (without_return text))) scene
    (λ next e g. lines_good next (n + 1) texts scene (line_good reading (n + 1) (line_words (without_return text)) next good (omega arith) e) (omega arith) g) h

pub scene_of-IsWellFormed : (bytes : List ℕ) (scene : Scene) → length bytes ≤ 1048576 → scene_of bytes ≡ Ok scene → IsWellFormed scene
scene_of-IsWellFormed bytes scene few h =
    lines_good None 0 (raw_lines bytes) scene tt (omega (arith, length-raw_lines bytes)) h

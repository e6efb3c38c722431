-- The passes of a scene's threads and of main.
use Rattle.std.proofs.Common.{ℕ, zero, suc, ◌≡◌, ◌≢◌, ◌+◌, ◌<◌, ◌≤◌, Bool, true, false, cond, Option, Some, None, List, [], ◌∷◌, length, refl, sym, ap, ◌∙◌, subst, arith}
use Rattle.std.specs.Prelude.{slice_get, codes}
use Rattle.std.proofs.lemmas.Slice.Eq.{bytes_eq-Decides}
use Rattle.std.proofs.lemmas.Option.{slice_get_within, get_or_from_slice_get}
use Rattle.usb_machine.specs.declared.entry.TheConstants.{SERVER, HUB}
use Rattle.usb_scene.specs.declared.scene.Scene.{Scene}
use Rattle.usb_scene.specs.declared.scene.SceneThread.{SceneThread}
use Rattle.usb_scene.specs.WellFormed.{IsThread, IsWellFormed}
use Rattle.usb_trace.specs.Plan.{is_hub, pass_by, pass_of, main_pass}

pass_range : (i : ℕ) (o : Option SceneThread) → 0 < pass_by i o × pass_by i o ≤ 2 + i
pass_range i None = (omega arith, omega arith)
pass_range i (Some thread) = elim (is_hub thread) as (λ b. (0 < cond b HUB (2 + i)) × (cond b HUB (2 + i) ≤ 2 + i)) [ true ↦ (omega arith, omega arith) | false ↦ (omega arith, omega arith) ]

-- a thread is not the server, and its pass is one of the machine's, below main's
pub not_server : (s : Scene) (i : ℕ) → pass_of s i ≢ SERVER
not_server s i e = let n = pass_range i (slice_get s.threads i) in absurd (omega arith)

pub is_pass : (s : Scene) (i : ℕ) → i < length s.threads → pass_of s i < 2 + (length s.threads + 3)
is_pass s i l = let n = pass_range i (slice_get s.threads i) in omega arith

pub not_main : (s : Scene) (i : ℕ) → i < length s.threads → pass_of s i ≢ main_pass s
not_main s i l e = let n = pass_range i (slice_get s.threads i) in absurd (omega arith)

pub main_not_server : (s : Scene) → main_pass s ≢ SERVER
main_not_server s e = absurd (omega arith)

pub main_is_pass : (s : Scene) → main_pass s < 2 + (length s.threads + 3)
main_is_pass s = omega arith

-- a thread with a number of the scene
pub thread_at : (threads : List SceneThread) (i : ℕ) → i < length threads → (thread : SceneThread) × (slice_get threads i ≡ Some thread)
thread_at threads i l = go (slice_get threads i) refl
  where
    go : (o : Option SceneThread) → slice_get threads i ≡ o → (thread : SceneThread) × (slice_get threads i ≡ Some thread)
    go (Some thread) e = (thread, e)
    go None e = none threads i l e
      where
        none : (threads : List SceneThread) (i : ℕ) → i < length threads → slice_get threads i ≡ None → (thread : SceneThread) × (slice_get threads i ≡ Some thread)
        none [] i l e = absurd (omega arith)
        none (t ∷ threads) zero l e = cc
        none (t ∷ threads) (suc i) l e = none threads i (omega arith) e

pub is_thread : (s : Scene) → IsWellFormed s → (i : ℕ) (thread : SceneThread) → slice_get s.threads i ≡ Some thread → IsThread s thread
is_thread s good i thread at = subst (IsThread s) (get_or_from_slice_get s.threads i thread thread at) (good.threads i thread (slice_get_within s.threads i thread at))

hub_name : (thread : SceneThread) → is_hub thread ≡ true → thread.name ≡ codes "hub"
hub_name thread e = (bytes_eq-Decides thread.name (codes "hub")).0 e

abbrev number : ℕ → Bool → ℕ
number i b = cond b HUB (2 + i)

-- no two threads have one pass
pub other_threads : (s : Scene) → IsWellFormed s → (i j : ℕ) → i < length s.threads → j < length s.threads → i ≢ j → pass_of s i ≢ pass_of s j
other_threads s good i j l m off e =
    let a = thread_at s.threads i l in let b = thread_at s.threads j m in
    go a.0 b.0 a.1 b.1 (is_hub a.0) (is_hub b.0) refl refl (sym (ap (pass_by i) a.1) ∙ (e ∙ ap (pass_by j) b.1))
  where
    go : (t r : SceneThread) → slice_get s.threads i ≡ Some t → slice_get s.threads j ≡ Some r → (b c : Bool) → is_hub t ≡ b → is_hub r ≡ c → number i (is_hub t) ≡ number j (is_hub r) → ⊥
    go t r at bt true true p q e = off (good.thread_names i j t r at bt (hub_name t p ∙ sym (hub_name r q)))
    go t r at bt true false p q e = let x : HUB ≡ 2 + j = sym (ap (number i) p) ∙ (e ∙ ap (number j) q) in absurd (omega arith)
    go t r at bt false true p q e = let x : 2 + i ≡ HUB = sym (ap (number i) p) ∙ (e ∙ ap (number j) q) in absurd (omega arith)
    go t r at bt false false p q e = let x : 2 + i ≡ 2 + j = sym (ap (number i) p) ∙ (e ∙ ap (number j) q) in let same : i ≡ j = omega arith in off same

-- the hub's pass is that of the thread with its name
pub hub_pass : (s : Scene) (i : ℕ) (thread : SceneThread) → slice_get s.threads i ≡ Some thread → is_hub thread ≡ true → pass_of s i ≡ HUB
hub_pass s i thread at is = ap (pass_by i) at ∙ ap (number i) is

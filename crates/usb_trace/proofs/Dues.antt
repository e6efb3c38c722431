-- What is due at an endpoint, piece by piece.
use Rattle.std.proofs.Common.{ℕ, suc, ◌≡◌, ◌≢◌, ◌+◌, ◌-◌, ◌≤◌, Bool, true, false, cond, eqb, eq-eqb, ne_eqb, Option, List, [], ◌∷◌, ◌++◌, length, map, take, replicate, refl, sym, ap, ◌∙◌, subst, arith, append_assoc, append-nil, length-append}
use Rattle.std.specs.Prelude.{slice_get}
use Rattle.std.specs.List.{flat_map}
use Rattle.std.proofs.Math.Seq.{take-append_seam}
use Rattle.std.proofs.lemmas.List.{map-append, length-replicate, replicate-append-replicate}
use Rattle.std.proofs.lemmas.List.Elements.{filter-append}
use Rattle.std.proofs.lemmas.Grind.{flat_map-append}
use mathlib.Core.Logic.{dite}
use native.Mathlib.Decide.{ℕ_discrete}
use Rattle.usb_machine.specs.declared.transfer.Transfer.{Transfer}
use Rattle.usb_xfer.specs.Replies.{Reply, Question}
use Rattle.usb_xfer.specs.Moved.{question_of}
use Rattle.usb_device.specs.Device.{Call}
use Rattle.usb_device.specs.Replied.{call_of}
use Rattle.usb_scene.specs.declared.scene.Scene.{Scene}
use Rattle.usb_scene.specs.declared.scene.SceneDevice.{SceneDevice}
use Rattle.usb_prepare.specs.Ends.{shape_at}
use Rattle.usb_prepare.specs.Layout.{home}
use Rattle.usb_trace.specs.Script.{replies_from}
use Rattle.usb_trace.specs.Plan.{script_of}
use Rattle.usb_trace.specs.Run.{Giveback, rounds_at, replies_in, asked_in, asked_of}
use Rattle.usb_trace.specs.Due.{asks, is_ruled, heard_before, answer_to, answers_from, next_due}
use Rattle.usb_trace.proofs.Scripts.{replies-append, length-replies}

module _ (device : Option SceneDevice) where
  answers-append : (calls : List Call) (qs ps : List Question) → answers_from device calls (qs ++ ps) ≡ answers_from device calls qs ++ answers_from device (calls ++ map (call_of 0) qs) ps
  answers-append calls [] ps = ap (λ l. answers_from device l ps) (sym (append-nil calls))
  answers-append calls (q ∷ qs) ps = let next : List Call = calls ++ call_of 0 q ∷ [] in
      ap (λ l. answer_to device calls q ∷ l) (answers-append next qs ps
      ∙ ap (λ l. answers_from device next qs ++ answers_from device l ps) (append_assoc calls (call_of 0 q ∷ []) (map (call_of 0) qs)))

  length-answers : (calls : List Call) (qs : List Question) → length (answers_from device calls qs) ≡ length qs
  length-answers calls [] = refl
  length-answers calls (q ∷ qs) = ap (λ n. suc n) (length-answers (calls ++ call_of 0 q ∷ []) qs)

module _ (s : Scene) (e : ℕ) where
  abbrev device : Option SceneDevice
  device = slice_get s.devices (shape_at s e).device

  abbrev heard : List Call
  heard = heard_before s (shape_at s e).device

  abbrev due : Bool → List Question → List Question → List Reply
  due b asked qs = cond b (answers_from device (heard ++ map (call_of 0) asked) qs) (replies_from (script_of s e) (length asked) (length qs))

  pub due-append : (asked qs ps : List Question) → next_due s e asked (qs ++ ps) ≡ next_due s e asked qs ++ next_due s e (asked ++ qs) ps
  due-append asked qs ps = go (is_ruled s e)
    where
      go : (b : Bool) → due b asked (qs ++ ps) ≡ due b asked qs ++ due b (asked ++ qs) ps
      go true = let before : List Call = heard ++ map (call_of 0) asked in
          answers-append device before qs ps ∙ ap (λ l. answers_from device before qs ++ answers_from device l ps)
          (append_assoc heard (map (call_of 0) asked) (map (call_of 0) qs) ∙ ap (λ l. heard ++ l) (sym (map-append (call_of 0) asked qs)))
      go false = ap (replies_from (script_of s e) (length asked)) (length-append qs ps)
          ∙ (replies-append (script_of s e) (length asked) (length qs) (length ps)
          ∙ ap (λ m. replies_from (script_of s e) (length asked) (length qs) ++ replies_from (script_of s e) m (length ps)) (sym (length-append asked qs)))

  pub due-none : (asked : List Question) → next_due s e asked [] ≡ []
  due-none asked = go (is_ruled s e)
    where
      go : (b : Bool) → due b asked [] ≡ []
      go true = refl
      go false = refl

  pub length-due : (asked qs : List Question) → length (next_due s e asked qs) ≡ length qs
  length-due asked qs = go (is_ruled s e)
    where
      go : (b : Bool) → length (due b asked qs) ≡ length qs
      go true = length-answers device (heard ++ map (call_of 0) asked) qs
      go false = length-replies (script_of s e) (length asked) (length qs)

  -- the first k of the replies to n questions that are the same
  pub take-due : (asked : List Question) (q : Question) (k n : ℕ) → k ≤ n → take k (next_due s e asked (replicate n q)) ≡ next_due s e asked (replicate k q)
  take-due asked q k n l =
      let front : List Reply = next_due s e asked (replicate k q) in
      let back : List Reply = next_due s e (asked ++ replicate k q) (replicate (n - k) q) in
      let count : n ≡ k + (n - k) = omega arith in
      let split : replicate n q ≡ replicate k q ++ replicate (n - k) q = ap (λ m. replicate m q) count ∙ sym (replicate-append-replicate k (n - k) q) in
      let parts : next_due s e asked (replicate n q) ≡ front ++ back = ap (next_due s e asked) split ∙ due-append asked (replicate k q) (replicate (n - k) q) in
      let long : k ≡ length front = sym (length-due asked (replicate k q) ∙ length-replicate k q) in
      (λ i. take (long i) (parts i)) ∙ take-append_seam front back

-- and so are none, where a transfer has none
pub nothing_due : (s : Scene) (e : ℕ) (asked : List Question) (t : Transfer) (l : List Reply) → l ≡ [] → l ≡ next_due s e asked (asks s e t (length l))
nothing_due s e asked t l none = subst (λ (l : List Reply). l ≡ next_due s e asked (asks s e t (length l))) (sym none) (sym (due-none s e asked))

-- a transfer asks once more for each reply more
pub asks-append : (s : Scene) (e : ℕ) (t : Transfer) (old more : List Reply) → asks s e t (length (old ++ more)) ≡ asks s e t (length old) ++ asks s e t (length more)
asks-append s e t old more = ap (asks s e t) (length-append old more) ∙ sym (replicate-append-replicate (length old) (length more) (question_of (shape_at s e) t))

-- one giveback more is one of its own endpoint
module _ (s : Scene) (rounds : List Giveback) (r : Giveback) where
  abbrev longer : List Giveback
  longer = rounds ++ r ∷ []

  pub rounds-push : (e : ℕ) → rounds_at s e longer ≡ rounds_at s e rounds ++ cond (eqb (home s r.urb) e) (r ∷ []) []
  rounds-push e = filter-append (λ (r : Giveback). eqb (home s r.urb) e) rounds (r ∷ [])

  at_own : (e : ℕ) → home s r.urb ≡ e → rounds_at s e longer ≡ rounds_at s e rounds ++ r ∷ []
  at_own e is = rounds-push e ∙ ap (λ b. rounds_at s e rounds ++ cond b (r ∷ []) []) (eq-eqb (home s r.urb) e is)

  at_else : (e : ℕ) → home s r.urb ≢ e → rounds_at s e longer ≡ rounds_at s e rounds
  at_else e off = rounds-push e ∙ (ap (λ b. rounds_at s e rounds ++ cond b (r ∷ []) []) (ne_eqb (home s r.urb) e off) ∙ append-nil (rounds_at s e rounds))

  -- what its endpoint was asked is after it
  pub asked-push_own : (e : ℕ) → home s r.urb ≡ e → asked_of s e longer ≡ asked_of s e rounds ++ asked_in s r
  asked-push_own e is = ap (flat_map (asked_in s)) (at_own e is)
      ∙ (flat_map-append (asked_in s) (rounds_at s e rounds) (r ∷ []) ∙ ap (λ l. asked_of s e rounds ++ l) (append-nil (asked_in s r)))

  pub asked-push_else : (e : ℕ) → home s r.urb ≢ e → asked_of s e longer ≡ asked_of s e rounds
  asked-push_else e off = ap (flat_map (asked_in s)) (at_else e off)

  -- one without replies asked nothing
  pub asked-push_none : (e : ℕ) → r.replies ≡ [] → asked_of s e longer ≡ asked_of s e rounds
  asked-push_none e none = dite (ℕ_discrete (home s r.urb) e)
      (λ is. asked-push_own e is ∙ (ap (λ (l : List Reply). asked_of s e rounds ++ asks s (home s r.urb) r.sent (length l)) none ∙ append-nil (asked_of s e rounds)))
      (asked-push_else e)

  -- the replies of each endpoint are still those that were due first after one giveback more, whose replies are due next
  module _ (old : (e : ℕ) → replies_in (rounds_at s e rounds) ≡ next_due s e [] (asked_of s e rounds)) (due : r.replies ≡ next_due s (home s r.urb) (asked_of s (home s r.urb) rounds) (asked_in s r)) where
    pub replies-push : (e : ℕ) → replies_in (rounds_at s e longer) ≡ next_due s e [] (asked_of s e longer)
    replies-push e = dite (ℕ_discrete (home s r.urb) e)
        (λ is.
        let joined : replies_in (rounds_at s e longer) ≡ replies_in (rounds_at s e rounds) ++ r.replies
        = ap replies_in (at_own e is) ∙ (flat_map-append (λ (r : Giveback). r.replies) (rounds_at s e rounds) (r ∷ []) ∙ ap (λ l. replies_in (rounds_at s e rounds) ++ l) (append-nil r.replies)) in
        let here : r.replies ≡ next_due s e (asked_of s e rounds) (asked_in s r) = subst (λ (e : ℕ). r.replies ≡ next_due s e (asked_of s e rounds) (asked_in s r)) is due in
        joined ∙ ((λ i. old e i ++ here i) ∙ (sym (due-append s e [] (asked_of s e rounds) (asked_in s r)) ∙ ap (next_due s e []) (sym (asked-push_own e is)))))
        (λ off. ap replies_in (at_else e off) ∙ (old e ∙ ap (λ (l : List Giveback). next_due s e [] (flat_map (asked_in s) l)) (sym (at_else e off))))

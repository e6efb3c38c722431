-- What a device replies, as a transfer is moved on.
use Rattle.std.proofs.Common.{ℕ, suc, ◌≡◌, ◌≢◌, cond, eqb, false, Some, List, [], ◌∷◌, ◌++◌, length, map, filter, replicate, refl, sym, ap, ◌∙◌, subst, append_assoc, append-nil, add-one, eq-eqb, ne_eqb}
use Rattle.std.specs.List.{All}
use Rattle.std.proofs.lemmas.List.{map-append}
use Rattle.std.proofs.lemmas.List.Elements.{All-nil, All-head, All-tail, All-push, filter-append}
use Rattle.usb_machine.specs.declared.layout.Shape.{Shape}
use Rattle.usb_machine.specs.declared.transfer.Transfer.{Transfer}
use Rattle.usb_xfer.specs.Direction.{asked_at}
use Rattle.usb_xfer.specs.Replies.{Reply, Question}
use Rattle.usb_xfer.specs.declared.script.Kind.TheVariants.{Raw}
use Rattle.usb_xfer.specs.declared.script.DeviceScript.{DeviceScript}
use Rattle.usb_xfer.specs.Moved.{question_of, reply_moves}
use Rattle.usb_xfer.specs.On.{Gave, nothing, one_more}
use Rattle.usb_device.specs.declared.scripted.Scripted.{Scripted}
use Rattle.usb_device.specs.Items.{script_at}
use Rattle.usb_device.specs.Rules.{first_state}
use Rattle.usb_device.specs.Device.{Call, questions_at, at_00, state_from, reply_to, Stands}
use Rattle.usb_device.specs.Laws.{sets_halt, NoneHalts, CountsCalls}
use Rattle.usb_device.specs.Replied.{call_of, Replied}
use Rattle.usb_device.proofs.Calls.{questions-snoc_here, count-snoc_here}
use Rattle.usb_device.proofs.Counting.{raw_counts, unhalted_counts}
use Rattle.usb_scene.specs.declared.scene.SceneDevice.{SceneDevice}
use Rattle.usb_trace.specs.Script.{replies_from}
use Rattle.usb_trace.specs.Due.{answers_from}

-- these questions, asked at one address
abbrev pub calls_at : ℕ → List Question → List Call
calls_at a questions = map (call_of a) questions

module _ (a : ℕ) where
  questions-append : (calls more : List Call) → questions_at a (calls ++ more) ≡ questions_at a calls ++ questions_at a more
  questions-append calls more = ap (map (λ (c : Call). c.question)) (filter-append (λ (c : Call). eqb c.address a) calls more)
      ∙ map-append (λ (c : Call). c.question) (filter (λ (c : Call). eqb c.address a) calls) (filter (λ (c : Call). eqb c.address a) more)

  own_questions : (questions : List Question) → questions_at a (calls_at a questions) ≡ questions
  own_questions [] = refl
  own_questions (q ∷ questions) = ap (λ b. map (λ (c : Call). c.question) (cond b (call_of a q ∷ filter (λ (c : Call). eqb c.address a) (calls_at a questions)) (filter (λ (c : Call). eqb c.address a) (calls_at a questions)))) (eq-eqb a a refl)
      ∙ ap (λ l. q ∷ l) (own_questions questions)

  other_questions : (b : ℕ) → b ≢ a → (questions : List Question) → questions_at a (calls_at b questions) ≡ []
  other_questions b off [] = refl
  other_questions b off (q ∷ questions) = ap (λ w. map (λ (c : Call). c.question) (cond w (call_of b q ∷ filter (λ (c : Call). eqb c.address a) (calls_at b questions)) (filter (λ (c : Call). eqb c.address a) (calls_at b questions)))) (ne_eqb b a off)
      ∙ other_questions b off questions

  -- an address is asked its own questions, and no others
  pub asked_here : (calls : List Call) (questions : List Question) → questions_at a (calls ++ calls_at a questions) ≡ questions_at a calls ++ questions
  asked_here calls questions = questions-append calls (calls_at a questions) ∙ ap (λ l. questions_at a calls ++ l) (own_questions questions)

  pub asked_elsewhere : (b : ℕ) → b ≢ a → (calls : List Call) (questions : List Question) → questions_at a (calls ++ calls_at b questions) ≡ questions_at a calls
  asked_elsewhere b off calls questions = questions-append calls (calls_at b questions) ∙ (ap (λ l. questions_at a calls ++ l) (other_questions b off questions) ∙ append-nil (questions_at a calls))

module _ (script : DeviceScript) (a : ℕ) where
  -- the replies at an address to one question after another, after these calls
  abbrev pub answers : List Call → List Question → List Reply
  answers calls [] = []
  answers calls (q ∷ questions) = reply_to script calls (call_of a q) ∷ answers (calls ++ call_of a q ∷ []) questions

  answers-snoc : (calls : List Call) (questions : List Question) (q : Question) → answers calls (questions ++ q ∷ []) ≡ answers calls questions ++ reply_to script (calls ++ calls_at a questions) (call_of a q) ∷ []
  answers-snoc calls [] q = ap (λ l. reply_to script l (call_of a q) ∷ []) (sym (append-nil calls))
  answers-snoc calls (p ∷ questions) q = let next : List Call = calls ++ call_of a p ∷ [] in
      ap (λ l. reply_to script calls (call_of a p) ∷ l) (answers-snoc next questions q
      ∙ ap (λ l. answers next questions ++ reply_to script l (call_of a q) ∷ []) (append_assoc calls (call_of a p ∷ []) (calls_at a questions)))

  pub length-answers : (calls : List Call) (questions : List Question) → length (answers calls questions) ≡ length questions
  length-answers calls [] = refl
  length-answers calls (q ∷ questions) = ap (λ n. suc n) (length-answers (calls ++ call_of a q ∷ []) questions)

  -- where each call counts, they go by number
  module _ (C : List Call → Type 0) (Q : Question → Type 0) (counts : (l : List Call) (q : Question) → C l → CountsCalls script l (call_of a q)) (on : (l : List Call) (q : Question) → C l → Q q → C (l ++ call_of a q ∷ [])) where
    by_number : (calls : List Call) (questions : List Question) → C calls → All Q questions → answers calls questions ≡ replies_from (script_at script a) (length (questions_at a calls)) (length questions)
    by_number calls [] is all = refl
    by_number calls (q ∷ questions) is all =
        let next = by_number (calls ++ call_of a q ∷ []) questions (on calls q is (All-head Q q questions all)) (All-tail Q q questions all) in
        let one : length (questions_at a (calls ++ call_of a q ∷ [])) ≡ suc (length (questions_at a calls)) = count-snoc_here a calls (call_of a q) refl ∙ add-one (length (questions_at a calls)) in
        (λ i. counts calls q is i ∷ (next ∙ ap (λ n. replies_from (script_at script a) n (length questions)) one) i)

  -- as those of a raw device do
  pub raw_answers : script.kind ≡ Raw → (calls : List Call) (questions : List Question) → answers calls questions ≡ replies_from (script_at script a) (length (questions_at a calls)) (length questions)
  raw_answers raw calls questions = by_number (λ l. Unit {0}) (λ q. Unit {0}) (λ l q is. raw_counts script l (call_of a q) raw) (λ l q is tame. tt) calls questions tt (λ i d l. tt)

  -- and those of any device at an address other than 00, as long as no halt is set
  pub unhalted_answers : a ≢ 0 → (calls : List Call) (questions : List Question) → NoneHalts calls → All (λ q. sets_halt q ≡ false) questions
      → answers calls questions ≡ replies_from (script_at script a) (length (questions_at a calls)) (length questions)
  unhalted_answers off calls questions none tame = by_number NoneHalts (λ q. sets_halt q ≡ false) (λ l q is. unhalted_counts script l (call_of a q) off is)
      (λ l q is one. All-push (λ (c : Call). sets_halt c.question ≡ false) l (call_of a q) is one) calls questions none tame

-- the replies at 00 depend on what was asked there alone
pub ruled_answers : (device : SceneDevice) (calls heard : List Call) (questions : List Question) → questions_at 0 calls ≡ questions_at 0 heard → answers device.script 0 calls questions ≡ answers_from (Some device) heard questions
ruled_answers device calls heard [] same = refl
ruled_answers device calls heard (q ∷ questions) same =
    let one : reply_to device.script calls (call_of 0 q) ≡ reply_to device.script heard (call_of 0 q)
    = ap (λ l. (at_00 device.script (state_from device.script first_state 0 l) (length l) q).reply) same in
    let next : questions_at 0 (calls ++ call_of 0 q ∷ []) ≡ questions_at 0 (heard ++ call_of 0 q ∷ [])
    = questions-snoc_here 0 calls (call_of 0 q) refl ∙ (ap (λ l. l ++ q ∷ []) same ∙ sym (questions-snoc_here 0 heard (call_of 0 q) refl)) in
    (λ i. one i ∷ ruled_answers device (calls ++ call_of 0 q ∷ []) (heard ++ call_of 0 q ∷ []) questions next i)

-- questions that are all the same
pub all_same : (q : Question) (questions : List Question) → All (λ p. p ≡ q) questions → questions ≡ replicate (length questions) q
all_same q [] all = refl
all_same q (p ∷ questions) all = (λ i. All-head (λ p. p ≡ q) p questions all i ∷ all_same q questions (All-tail (λ p. p ≡ q) p questions all) i)

-- a device that had heard these calls was asked more at this address, all of it so, and gave these replies
pub record Heard (script : DeviceScript) (a : ℕ) (Q : Question → Type 0) (calls : List Call) (rs : List Reply) (d : Scripted) : Type 0 where
  pub questions : List Question
  pub stands : Stands d script (calls ++ calls_at a questions)
  pub replies : rs ≡ answers script a calls questions
  pub each : All Q questions

module _ (script : DeviceScript) (shape : Shape) (t : Transfer) (d : Scripted) (calls : List Call) (stands : Stands d script calls) (Q : Question → Type 0) (begin : Q (question_of shape t))
    (on : (r : Reply) (now : Transfer) → Q (question_of shape now) → Q (question_of shape (reply_moves shape r now))) where
  abbrev a : ℕ
  a = asked_at shape

  each_asked : (rs : List Reply) (now : Transfer) (e : Scripted) → Gave Replied shape t d rs now e → Q (question_of shape now)
  each_asked _ _ _ nothing = begin
  each_asked _ _ _ (one_more rs now mid r e g one) = on r now (each_asked rs now mid g)

  -- a chain of replies is what the device answers
  pub chain : (rs : List Reply) (now : Transfer) (e : Scripted) → Gave Replied shape t d rs now e → Heard script a Q calls rs e
  chain _ _ _ nothing = record { questions = []; stands = subst (Stands d script) (sym (append-nil calls)) stands; replies = refl; each = All-nil Q }
  chain _ _ _ (one_more rs now mid r e g one) =
      let old = chain rs now mid g in
      let q : Question = question_of shape now in
      let before : List Call = calls ++ calls_at a old.questions in
      let joined : before ++ call_of a q ∷ [] ≡ calls ++ calls_at a (old.questions ++ q ∷ [])
      = append_assoc calls (calls_at a old.questions) (call_of a q ∷ []) ∙ ap (λ l. calls ++ l) (sym (map-append (call_of a) old.questions (q ∷ []))) in
      record {
        questions = old.questions ++ q ∷ [];
        stands = subst (Stands e script) joined (one.heard script before old.stands);
        replies = (λ i. old.replies i ++ one.due script before old.stands i ∷ []) ∙ sym (answers-snoc script a calls old.questions q);
        each = All-push Q old.questions q old.each (each_asked rs now mid g);
      }

-- The calls of a scene in line order, one more of a thread, and one thread more.
use Rattle.std.proofs.Common.{ℕ, ◌≡◌, ◌+◌, ◌<◌, get_or, take, drop, List, [], ◌∷◌, ◌++◌, length, map, sym, ap, ◌∙◌, arith, add-zero, append_assoc, append-nil}
use Rattle.std.proofs.lemmas.Grind.{common_steps}
use Rattle.std.proofs.lemmas.List.{map-append, take_more}
use Rattle.usb_scene.specs.declared.scene.Scene.{Scene}
use Rattle.usb_scene.specs.declared.scene.SceneThread.{SceneThread}
use Rattle.usb_scene.specs.declared.scene.Call.{Call}
use Rattle.usb_scene.specs.Operation.{operation_of}
use Rattle.usb_scene.specs.WellFormed.{IsWellFormed}
use Rattle.usb_trace.specs.declared.rows.CallMade.{CallMade}
use Rattle.usb_trace.specs.declared.rows.CallAnswer.{CallAnswer}
use Rattle.usb_line.specs.declared.run.LineRun.{LineRun}
use Rattle.usb_trace.specs.Plan.{calls_from, calls_of}
use Rattle.usb_line.specs.Line.{call, with_call_record}
use Rattle.usb_line.specs.Calls.{Made, MayBeMade, IsUnderway}
use Rattle.usb_trace.specs.Rows.{made_of}
use Rattle.usb_line.proofs.Scripted.{placed}
use Rattle.usb_line.proofs.Calls.{makes_call_records}

calls_from-append : (n : ℕ) (xs ys : List SceneThread) → calls_from n (xs ++ ys) ≡ calls_from n xs ++ calls_from (n + length xs) ys
calls_from-append n [] ys = ap (λ k. calls_from k ys) (sym (add-zero n))
calls_from-append n (x ∷ xs) ys =
    let far : n + 1 + length xs ≡ n + length (x ∷ xs) = omega arith in
    ap (λ l. map (λ (c : Call). (n, c)) x.calls ++ l) (calls_from-append (n + 1) xs ys ∙ ap (λ k. calls_from (n + 1) xs ++ calls_from k ys) far)
    ∙ sym (append_assoc (map (λ (c : Call). (n, c)) x.calls) (calls_from (n + 1) xs) (calls_from (n + length (x ∷ xs)) ys))

-- the calls of one thread more
pub calls_longer : (threads : List SceneThread) (i : ℕ) (d : SceneThread) → i < length threads
    → calls_from 0 (take (i + 1) threads) ≡ calls_from 0 (take i threads) ++ map (λ (c : Call). (i, c)) (get_or threads i d).calls
calls_longer threads i d near =
    let x : SceneThread = get_or threads i d in
    let number : 0 + length (take i threads) ≡ i = grind (arith, common_steps) in
    ap (calls_from 0) (take_more threads i d near)
    ∙ (calls_from-append 0 (take i threads) (x ∷ [])
    ∙ (ap (λ k. calls_from 0 (take i threads) ++ calls_from k (x ∷ [])) number
    ∙ ap (λ l. calls_from 0 (take i threads) ++ l) (append-nil (map (λ (c : Call). (i, c)) x.calls))))

taken : {X : Type 0} (xs : List X) (n : ℕ) → take n xs ++ drop n xs ≡ xs
taken xs n = grind (arith, common_steps)

-- the calls of the scene are those of its first threads, and more
calls_split : (s : Scene) (n : ℕ) → (rest : List (ℕ × Call)) × (calls_from 0 (take n s.threads) ++ rest ≡ calls_of s)
calls_split s n = (
  calls_from (0 + length (take n s.threads)) (drop n s.threads),
  sym (calls_from-append 0 (take n s.threads) (drop n s.threads)) ∙ ap (calls_from 0) (taken s.threads n),
)

-- what is kept of this call of thread i
abbrev pub made_row : ℕ → Call → CallAnswer → CallMade
made_row i c answer = record { thread = i; line = c.line; operation = operation_of c; target = c.target; answer = answer }

module _ (s : Scene) (good : IsWellFormed s) (i : ℕ) (near : i < length s.threads) (calls : List Call)
    (script : calls_from 0 (take (i + 1) s.threads) ≡ calls_from 0 (take i s.threads) ++ map (λ (c : Call). (i, c)) calls) where
  abbrev before : List (ℕ × Call)
  before = calls_from 0 (take i s.threads)

  abbrev pair : Call → ℕ × Call
  pair c = (i, c)

  module _ (run : LineRun) (made : List CallMade) (k : ℕ) (d : Call) (here : k < length calls) (at : IsUnderway s (before ++ map pair (take k calls)) run made) where
    abbrev this : Call
    this = get_or calls k d

    more : before ++ map pair (take (k + 1) calls) ≡ (before ++ map pair (take k calls)) ++ (i, this) ∷ []
    more = ap (λ l. before ++ map pair l) (take_more calls k d here)
        ∙ (ap (λ l. before ++ l) (map-append pair (take k calls) (this ∷ [])) ∙ sym (append_assoc before (map pair (take k calls)) ((i, this) ∷ [])))

    -- this call is the next one
    pub next_here : MayBeMade s at.far i this run
    next_here =
        let split = calls_split s (i + 1) in
        let rest : List (ℕ × Call) = map pair (drop (k + 1) calls) ++ split.0 in
        let whole : map pair (take (k + 1) calls) ++ map pair (drop (k + 1) calls) ≡ map pair calls = sym (map-append pair (take (k + 1) calls) (drop (k + 1) calls)) ∙ ap (map pair) (taken calls (k + 1)) in
        record {
          good = good;
          next = record {
            in_line = at.in_line;
            near = near;
            rest = rest;
            all = ap (λ l. l ++ (i, this) ∷ rest) at.all
                ∙ (sym (append_assoc (before ++ map pair (take k calls)) ((i, this) ∷ []) rest)
                ∙ (ap (λ l. l ++ rest) (sym more)
                ∙ (append_assoc before (map pair (take (k + 1) calls)) rest
                ∙ (ap (λ l. before ++ l) (sym (append_assoc (map pair (take (k + 1) calls)) (map pair (drop (k + 1) calls)) split.0) ∙ ap (λ l. l ++ split.0) whole)
                ∙ (sym (append_assoc before (map pair calls) split.0) ∙ (ap (λ l. l ++ split.0) (sym script) ∙ split.1))))));
          };
          shows = at.shows;
        }

    -- and it was made
    pub one_made : (answer : CallAnswer) (after : LineRun) (longer : List CallMade) → Made s at.far i this answer after
        → longer ≡ made ++ made_row i this answer ∷ [] → IsUnderway s (before ++ map pair (take (k + 1) calls)) after longer
    one_made answer after longer done pushed =
        let same = makes_call_records s at.far i this done.did done.far done.makes in
        let row : CallMade = made_row i this answer in
        let told : made_of done.did ≡ row = (λ j. record { thread = (same.0 j).0; line = (same.0 j).1.line; operation = operation_of (same.0 j).1; target = (same.0 j).1.target; answer = done.told j }) in
        record {
          far = with_call_record s done.far done.did;
          in_line = call at.far done.far i this done.did at.in_line near done.makes;
          all = map-append placed done.far.call_records (done.did ∷ []) ∙ ((λ j. map placed (same.1 j) ++ same.0 j ∷ []) ∙ (ap (λ l. l ++ (i, this) ∷ []) at.all ∙ sym more));
          told = pushed ∙ ((λ j. at.told j ++ sym told j ∷ []) ∙ (sym (map-append made_of at.far.call_records (done.did ∷ [])) ∙ ap (λ ds. map made_of (ds ++ done.did ∷ [])) (sym same.1)));
          shows = done.shows;
        }

-- The calls of a scene in line order, thread by thread.
use Rattle.std.proofs.Common.{ℕ, zero, suc, ◌≡◌, ◌+◌, ◌<◌, true, false, cond, eqb, Some, List, [], ◌∷◌, ◌++◌, map, filter, refl, sym, ap, ◌∙◌, arith, append-nil, eq-eqb, ne_eqb}
use Rattle.std.specs.Prelude.{slice_get}
use Rattle.std.specs.List.{All}
use Rattle.std.proofs.lemmas.List.{map-append}
use Rattle.std.proofs.lemmas.List.Elements.{All-nil, All-cons, All-head, All-tail, filter-append}
use Rattle.usb_scene.specs.declared.scene.Scene.{Scene}
use Rattle.usb_scene.specs.declared.scene.SceneThread.{SceneThread}
use Rattle.usb_scene.specs.declared.scene.Call.{Call}
use Rattle.usb_trace.specs.Plan.{calls_from, calls_of}
use Rattle.usb_trace.specs.Run.{CallRecord, done_by}

-- the calls of the thread with this number
abbrev pub of_thread : ℕ → List (ℕ × Call) → List (ℕ × Call)
of_thread k calls = filter (λ c. eqb c.0 k) calls

abbrev pub only_calls : List (ℕ × Call) → List Call
only_calls calls = map (λ c. c.1) calls

abbrev numbered : ℕ → List Call → List (ℕ × Call)
numbered i calls = map (λ call. (i, call)) calls

own_calls : (i k : ℕ) (calls : List Call) → eqb i k ≡ true → only_calls (of_thread k (numbered i calls)) ≡ calls
own_calls i k [] e = refl
own_calls i k (c ∷ calls) e = ap (λ b. only_calls (cond b ((i, c) ∷ of_thread k (numbered i calls)) (of_thread k (numbered i calls)))) e ∙ ap (λ l. c ∷ l) (own_calls i k calls e)

other_calls : (i k : ℕ) (calls : List Call) → eqb i k ≡ false → of_thread k (numbered i calls) ≡ []
other_calls i k [] e = refl
other_calls i k (c ∷ calls) e = ap (λ b. cond b ((i, c) ∷ of_thread k (numbered i calls)) (of_thread k (numbered i calls))) e ∙ other_calls i k calls e

later_calls : (i k : ℕ) (threads : List SceneThread) → k < i → of_thread k (calls_from i threads) ≡ []
later_calls i k [] l = refl
later_calls i k (t ∷ threads) l =
    let off : i ≡ k → ⊥ = λ e. absurd (omega arith) in
    filter-append (λ c. eqb c.0 k) (numbered i t.calls) (calls_from (i + 1) threads)
    ∙ (λ j. other_calls i k t.calls (ne_eqb i k off) j ++ later_calls (i + 1) k threads (omega arith) j)

thread_calls : (i k n : ℕ) (threads : List SceneThread) (thread : SceneThread) → n ≡ i + k → slice_get threads k ≡ Some thread → only_calls (of_thread n (calls_from i threads)) ≡ thread.calls
thread_calls i k n [] thread e at = cc
thread_calls i zero n (t ∷ threads) thread e at =
    let here : i ≡ n = omega arith in
    let later : n < i + 1 = omega arith in
    let same : t ≡ thread = cc in
    ap only_calls (filter-append (λ c. eqb c.0 n) (numbered i t.calls) (calls_from (i + 1) threads))
    ∙ (map-append (λ (c : ℕ × Call). c.1) (of_thread n (numbered i t.calls)) (of_thread n (calls_from (i + 1) threads))
    ∙ ((λ j. own_calls i n t.calls (eq-eqb i n here) j ++ only_calls (later_calls (i + 1) n threads later j))
    ∙ (append-nil t.calls ∙ ap (λ (t : SceneThread). t.calls) same)))
thread_calls i (suc k) n (t ∷ threads) thread e at =
    let off : i ≡ n → ⊥ = λ o. absurd (omega arith) in
    let next : n ≡ i + 1 + k = omega arith in
    ap only_calls (filter-append (λ c. eqb c.0 n) (numbered i t.calls) (calls_from (i + 1) threads))
    ∙ (ap (λ l. only_calls (l ++ of_thread n (calls_from (i + 1) threads))) (other_calls i n t.calls (ne_eqb i n off))
    ∙ thread_calls (i + 1) k n threads thread next at)

-- a call with its thread's number
abbrev pub placed : CallRecord → ℕ × Call
placed d = (d.thread, d.call)

-- the calls that a thread made
abbrev pub calls_by : ℕ → List CallRecord → List Call
calls_by i call_records = map (λ d. d.call) (done_by i call_records)

made_calls : (k : ℕ) (call_records : List CallRecord) → calls_by k call_records ≡ only_calls (of_thread k (map placed call_records))
made_calls k [] = refl
made_calls k (d ∷ call_records) = elim (eqb d.thread k) as (λ b. map (λ (d : CallRecord). d.call) (cond b (d ∷ done_by k call_records) (done_by k call_records)) ≡ only_calls (cond b (placed d ∷ of_thread k (map placed call_records)) (of_thread k (map placed call_records))))
    [ true ↦ ap (λ l. d.call ∷ l) (made_calls k call_records) | false ↦ made_calls k call_records ]

-- where all calls were made in line order, each thread made its own
pub calls_made : (s : Scene) (call_records : List CallRecord) → map placed call_records ≡ calls_of s → (i : ℕ) (thread : SceneThread) → slice_get s.threads i ≡ Some thread → calls_by i call_records ≡ thread.calls
calls_made s call_records all i thread at = made_calls i call_records ∙ (ap (λ l. only_calls (of_thread i l)) all ∙ thread_calls 0 i i s.threads thread (omega arith) at)

-- where the calls made begin those of the scene, the next one is the next of its thread
pub next_call : (s : Scene) (call_records : List CallRecord) (i : ℕ) (c : Call) (rest : List (ℕ × Call)) → map placed call_records ++ (i, c) ∷ rest ≡ calls_of s
    → (thread : SceneThread) → slice_get s.threads i ≡ Some thread → thread.calls ≡ calls_by i call_records ++ c ∷ only_calls (of_thread i rest)
next_call s call_records i c rest all thread at =
    sym (thread_calls 0 i i s.threads thread (omega arith) at) ∙ (ap (λ l. only_calls (of_thread i l)) (sym all)
    ∙ (ap only_calls (filter-append (λ c. eqb c.0 i) (map placed call_records) ((i, c) ∷ rest))
    ∙ (map-append (λ (c : ℕ × Call). c.1) (of_thread i (map placed call_records)) (of_thread i ((i, c) ∷ rest))
    ∙ (λ j. sym (made_calls i call_records) j ++ only_calls (cond (eq-eqb i i refl j) ((i, c) ∷ of_thread i rest) (of_thread i rest))))))

-- something that holds of each element holds of one in the midst
pub All-middle : {X : Type 0} (P : X → Type 0) (before : List X) (x : X) (behind : List X) → All P (before ++ x ∷ behind) → P x
All-middle P [] x behind a = All-head P x behind a
All-middle P (y ∷ before) x behind a = All-middle P before x behind (All-tail P y (before ++ x ∷ behind) a)

-- and of each before it
pub All-front : {X : Type 0} (P : X → Type 0) (front back : List X) → All P (front ++ back) → All P front
All-front P [] back a = All-nil P
All-front P (y ∷ front) back a = All-cons P y front (All-head P y (front ++ back) a) (All-front P front back (All-tail P y (front ++ back) a))

-- The machine while the server takes from a line.
use Rattle.std.proofs.Common.{ℕ, suc, ◌≡◌, ◌+◌, ◌<◌, List, [], ◌∷◌, ◌++◌, length, refl, sym, ap, ◌∙◌, subst, arith, append_assoc, append-nil, length-append}
use Rattle.std.proofs.lemmas.List.{map-append}
use Rattle.usb_machine.specs.declared.entry.Entry.{Entry}
use Rattle.usb_machine.specs.declared.plain.Plain.{Plain}
use Rattle.usb_machine.specs.History.{line_of}
use Rattle.usb_machine.specs.Legal.{Follows}
use Rattle.usb_machine.specs.Plain.{Stands}
use Rattle.usb_scene.specs.declared.scene.Scene.{Scene}
use Rattle.usb_trace.specs.Plan.{machine_of}
use Rattle.usb_line.specs.Line.{takes, takes_below}
use Rattle.usb_line.proofs.MayFollow.{take_follows}
use Rattle.usb_line.proofs.Takes.{took, takes_rest, line_above}

-- n of the URBs in the line were taken, and the others stand in it
pub record HasTaken (s : Scene) (h : List Entry) (e n : ℕ) (plain : Plain) : Type 0 where
  pub taken : List ℕ
  pub left : List ℕ
  pub line : line_of (machine_of s) h e ≡ taken ++ left
  pub count : length taken ≡ n
  pub stands : Stands plain (machine_of s) (h ++ takes e taken)
  pub rest : line_of (machine_of s) (h ++ takes e taken) e ≡ left

pub taken_none : (s : Scene) (h : List Entry) (e : ℕ) (plain : Plain) → Stands plain (machine_of s) h → HasTaken s h e 0 plain
taken_none s h e plain stands = record {
  taken = [];
  left = line_of (machine_of s) h e;
  line = refl;
  count = refl;
  stands = subst (Stands plain (machine_of s)) (sym (append-nil h)) stands;
  rest = ap (λ l. line_of (machine_of s) l e) (append-nil h);
}

module _ (s : Scene) (h : List Entry) (e n : ℕ) (old : Plain) (is : HasTaken s h e n old) (more : n < length (line_of (machine_of s) h e)) where
  abbrev here : List Entry
  here = h ++ takes e is.taken

  some_left : 0 < length is.left
  some_left = let a = length-append is.taken is.left in let b = ap length is.line in let c = is.count in omega arith

  -- the first of the line
  pub record IsNextTaken : Type 0 where
    pub urb : ℕ
    pub others : List ℕ
    pub split : is.left ≡ urb ∷ others
    pub follows : Follows (machine_of s) here (took e urb)

  pub next_taken : IsNextTaken
  next_taken = go is.left refl some_left
    where
      go : (us : List ℕ) → is.left ≡ us → 0 < length us → IsNextTaken
      go [] e l = absurd (omega arith)
      go (u ∷ us) split l = record { urb = u; others = us; split = split; follows = take_follows s here e u us (is.rest ∙ split) }

  pub taken_more : (next : IsNextTaken) (new : Plain) → Stands new (machine_of s) (here ++ took e next.urb ∷ []) → HasTaken s h e (n + 1) new
  taken_more next new stands =
      let all : h ++ takes e (is.taken ++ next.urb ∷ []) ≡ here ++ took e next.urb ∷ []
      = ap (λ l. h ++ l) (map-append (λ u. took e u) is.taken (next.urb ∷ [])) ∙ sym (append_assoc h (takes e is.taken) (took e next.urb ∷ [])) in record {
        taken = is.taken ++ next.urb ∷ [];
        left = next.others;
        line = is.line ∙ (ap (λ l. is.taken ++ l) next.split ∙ sym (append_assoc is.taken (next.urb ∷ []) next.others));
        count = let a = length-append is.taken (next.urb ∷ []) in let c = is.count in omega arith;
        stands = subst (Stands new (machine_of s)) (sym all) stands;
        rest = ap (λ l. line_of (machine_of s) l e) all ∙ takes_rest e (machine_of s) next.urb next.others here (is.rest ∙ next.split);
      }

pub taken_all : (s : Scene) (h : List Entry) (e : ℕ) (plain : Plain) → HasTaken s h e (length (line_of (machine_of s) h e)) plain → Stands plain (machine_of s) (h ++ takes e (line_of (machine_of s) h e))
taken_all s h e plain is = subst (λ l. Stands plain (machine_of s) (h ++ takes e l)) (sym same) is.stands
  where
    none : (us : List ℕ) → length us ≡ 0 → us ≡ []
    none [] l = refl
    none (u ∷ us) l = absurd (omega arith)

    same : line_of (machine_of s) h e ≡ is.taken
    same = is.line ∙ (ap (λ l. is.taken ++ l) (none is.left (let a = length-append is.taken is.left in let b = ap length is.line in let c = is.count in omega arith)) ∙ append-nil is.taken)

-- and so on in the next endpoint
pub taken_next : (s : Scene) (h : List Entry) (n : ℕ) (old new : Plain) → Stands old (machine_of s) (h ++ takes_below s h n)
    → ((k : List Entry) → Stands old (machine_of s) k → Stands new (machine_of s) (k ++ takes n (line_of (machine_of s) k n))) → Stands new (machine_of s) (h ++ takes_below s h (suc n))
taken_next s h n old new stands step = subst (Stands new (machine_of s))
    (ap (λ l. (h ++ takes_below s h n) ++ takes n l) (line_above s h n n (omega arith)) ∙ append_assoc h (takes_below s h n) (takes n (line_of (machine_of s) h n)))
    (step (h ++ takes_below s h n) stands)

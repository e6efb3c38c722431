-- Main's close, one URB after another.
use Rattle.std.proofs.Common.{ℕ, suc, ◌≡◌, ◌+◌, Option, List, [], ◌∷◌, ◌++◌, length, map, refl, sym, ap, ◌∙◌, subst, arith, append_assoc, append-nil, length-append}
use Rattle.std.specs.List.{flat_map, zip}
use Rattle.std.proofs.lemmas.List.{map-append, length-map}
use Rattle.std.proofs.lemmas.Grind.{flat_map-append}
use Rattle.usb_types.specs.declared.errno.Code.{Code}
use Rattle.usb_machine.specs.declared.transfer.Transfer.{Transfer}
use Rattle.usb_machine.specs.declared.entry.Entry.{Entry}
use Rattle.usb_machine.specs.HostCalls.{number_of}
use Rattle.usb_machine.specs.Fresh.{Known}
use Rattle.usb_machine.specs.Calls.{kill_entries}
use Rattle.usb_scene.specs.declared.scene.Scene.{Scene}
use Rattle.usb_prepare.specs.Below.{below}
use Rattle.usb_prepare.specs.Layout.{urb_count}
use Rattle.usb_prepare.proofs.Below.{length-below}
use Rattle.usb_trace.specs.Plan.{machine_of, main_pass}
use Rattle.usb_trace.specs.Claims.{claimed_by, numbers_of}
use Rattle.usb_trace.specs.Run.{kills_of, seen_quiet}
use Rattle.usb_trace.proofs.Claims.{AreNoClaim, AreNoClaim-append}
use Rattle.usb_threads.specs.Passes.{WentOn}
use Rattle.usb_threads.specs.MainPass.{HasClosed}
use Rattle.usb_threads.proofs.Ongoing.{went_more, claims_stay}

kills_of-push : (p : ℕ) (us : List ℕ) (ms : List Code) (rs : List (Option ℕ)) (u : ℕ) (a : Code) (r : Option ℕ) → length ms ≡ length us → length rs ≡ length us
    → kills_of p (us ++ u ∷ []) (ms ++ a ∷ []) (rs ++ r ∷ []) ≡ kills_of p us ms rs ++ kill_entries p u a r
kills_of-push p [] [] [] u a r d e = append-nil (kill_entries p u a r)
kills_of-push p [] [] (q ∷ rs) u a r d e = absurd (omega arith)
kills_of-push p [] (b ∷ ms) rs u a r d e = absurd (omega arith)
kills_of-push p (v ∷ us) [] rs u a r d e = absurd (omega arith)
kills_of-push p (v ∷ us) (b ∷ ms) [] u a r d e = absurd (omega arith)
kills_of-push p (v ∷ us) (b ∷ ms) (q ∷ rs) u a r d e =
    ap (λ l. kill_entries p v b q ++ l) (kills_of-push p us ms rs u a r (omega arith) (omega arith)) ∙ sym (append_assoc (kill_entries p v b q) (kills_of p us ms rs) (kill_entries p u a r))

zip-push : {X : Type 0} (us : List ℕ) (xs : List X) (u : ℕ) (x : X) → length xs ≡ length us → zip (us ++ u ∷ []) (xs ++ x ∷ []) ≡ zip us xs ++ (u, x) ∷ []
zip-push [] [] u x e = refl
zip-push [] (y ∷ xs) u x e = absurd (omega arith)
zip-push (v ∷ us) [] u x e = absurd (omega arith)
zip-push (v ∷ us) (y ∷ xs) u x e = ap (λ l. (v, y) ∷ l) (zip-push us xs u x (omega arith))

-- these entries kill the URBs below n, and what main has claimed is what rested with each
pub record HasKilled (s : Scene) (n : ℕ) (seen xs : List Entry) : Type 0 where
  pub marks : List Code
  pub rests : List (Option Transfer)
  pub each : (length marks ≡ n) × (length rests ≡ n)
  pub entries : xs ≡ kills_of (main_pass s) (below n) marks (numbers_of rests)
  pub claims : claimed_by (main_pass s) seen ≡ zip (below n) rests

module _ (s : Scene) where
  pub killed_none : (p : Known) → p.number ≡ main_pass s → claimed_by p.number p.seen ≡ [] → HasKilled s 0 p.seen []
  killed_none p number none = record { marks = []; rests = []; each = (refl, refl); entries = refl; claims = subst (λ n. claimed_by n p.seen ≡ []) number none }

  next : (u : ℕ) → u + 1 ≡ suc u
  next u = omega arith

  pub killed_more : (p q r : Known) (u : ℕ) (xs : List Entry) (a : Code) (rest : Option Transfer) (number : Option ℕ) → p.number ≡ main_pass s → WentOn (machine_of s) p q xs → HasKilled s u q.seen xs
      → number ≡ number_of rest → WentOn (machine_of s) q r (kill_entries q.number u a number) → claimed_by q.number r.seen ≡ claimed_by q.number q.seen ++ (u, rest) ∷ []
      → (ys : List Entry) × WentOn (machine_of s) p r ys × HasKilled s (u + 1) r.seen ys
  killed_more p q r u xs a rest number own went old same more claimed =
      let is : q.number ≡ main_pass s = went.grown.number ∙ own in
      let e = kill_entries (main_pass s) u a (number_of rest) in
      let long = length-below u in
      let marked : length old.marks ≡ length (below u) = old.each.0 ∙ sym long in
      let rested : length old.rests ≡ length (below u) = old.each.1 ∙ sym long in
      let push = kills_of-push (main_pass s) (below u) old.marks (numbers_of old.rests) u a (number_of rest) marked (length-map old.rests number_of ∙ rested) in (
        xs ++ e,
        went_more (machine_of s) p q r xs e went (subst (λ k. WentOn (machine_of s) q r (kill_entries (main_pass s) u a k)) same (subst (λ n. WentOn (machine_of s) q r (kill_entries n u a number)) is more)),
        record {
          marks = old.marks ++ a ∷ [];
          rests = old.rests ++ rest ∷ [];
          each = (let l = length-append old.marks (a ∷ []) in let o = old.each in omega arith, let l = length-append old.rests (rest ∷ []) in let o = old.each in omega arith);
          entries = ap (λ l. l ++ e) old.entries ∙ (sym push ∙ (λ i. kills_of (main_pass s) (below (sym (next u) i)) (old.marks ++ a ∷ []) (sym (map-append number_of old.rests (rest ∷ [])) i)));
          claims = subst (λ n. claimed_by n r.seen ≡ claimed_by n q.seen ++ (u, rest) ∷ []) is claimed
              ∙ (ap (λ l. l ++ (u, rest) ∷ []) old.claims ∙ (sym (zip-push (below u) old.rests u rest rested) ∙ ap (λ n. zip (below n) (old.rests ++ rest ∷ [])) (sym (next u))));
        },
      )

  abbrev pub seen_below : ℕ → List Entry
  seen_below n = flat_map (seen_quiet (main_pass s)) (below n)

  seen-push : (n : ℕ) → seen_below (n + 1) ≡ seen_below n ++ seen_quiet (main_pass s) n
  seen-push n = ap seen_below (next n) ∙ (flat_map-append (seen_quiet (main_pass s)) (below n) (n ∷ []) ∙ ap (λ l. seen_below n ++ l) (append-nil (seen_quiet (main_pass s) n)))

  pub seen_more : (p q r : Known) (u : ℕ) → p.number ≡ main_pass s → WentOn (machine_of s) p q (seen_below u) → WentOn (machine_of s) q r (seen_quiet q.number u) → WentOn (machine_of s) p r (seen_below (u + 1))
  seen_more p q r u number went more =
      let is : q.number ≡ main_pass s = went.grown.number ∙ number in
      subst (λ l. WentOn (machine_of s) p r l) (sym (seen-push u))
      (went_more (machine_of s) p q r (seen_below u) (seen_quiet (main_pass s) u) went (subst (λ n. WentOn (machine_of s) q r (seen_quiet n u)) is more))

  seen_no_claim : (us : List ℕ) → AreNoClaim (flat_map (seen_quiet (main_pass s)) us)
  seen_no_claim [] = tt
  seen_no_claim (u ∷ us) = (tt, (tt, seen_no_claim us))

  pub all_closed : (p q r : Known) (n : ℕ) (xs : List Entry) → n ≡ urb_count s → p.number ≡ main_pass s → WentOn (machine_of s) p q xs → HasKilled s n q.seen xs → WentOn (machine_of s) q r (seen_below n)
      → (more : List Entry) × WentOn (machine_of s) p r more × HasClosed s r.seen more
  all_closed p q r n xs all number went kills quiet =
      let is : q.number ≡ main_pass s = went.grown.number ∙ number in (
        xs ++ seen_below n,
        went_more (machine_of s) p q r xs (seen_below n) went quiet,
        record {
          marks = kills.marks;
          rests = kills.rests;
          each = (kills.each.0 ∙ all, kills.each.1 ∙ all);
          entries = (λ i. kills.entries i ++ seen_below n) ∙ ap (λ n. kills_of (main_pass s) (below n) kills.marks (numbers_of kills.rests) ++ seen_below n) all;
          claims = subst (λ n. claimed_by n r.seen ≡ claimed_by n q.seen) is (claims_stay (machine_of s) q r (seen_below n) went.sound quiet (seen_no_claim (below n)))
              ∙ (kills.claims ∙ ap (λ n. zip (below n) kills.rests) all);
        },
      )

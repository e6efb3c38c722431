use Rattle.std.proofs.Common.{◌≡◌, ◌<◌, ◌++◌, ◌∷◌, [], List, All, map, length, get_or, append_assoc, sym, ap, ◌∙◌, subst, arith}
use Rattle.std.specs.List.{remove}
use Rattle.std.proofs.lemmas.List.{map-append}
use Rattle.std.proofs.lemmas.List.Elements.{All-push}
use Rattle.std.proofs.lemmas.Bool.{eqb-false}
use Rattle.usb_turn.specs.Pass.{Pass}
use Rattle.usb_anchor.specs.declared.log.LogRow.{LogRow}
use Rattle.usb_anchors.specs.declared.anchors.AnchorPass.{AnchorPass}
use Rattle.usb_anchors.specs.Opened.{turn_of, HasLeft}
use Rattle.usb_anchors.proofs.opens.with_left.Goals as goal

head_removed : {X : Type 0} (xs : List X) (x : X) → 0 < length xs → x ≡ get_or xs 0 x → x ∷ remove xs 0 ≡ xs
head_removed [] x l e = absurd (omega arith)
head_removed (y ∷ ys) x l e = ap (λ z. z ∷ ys) e

moved : {V R U : Type 0} (all now : List (AnchorPass V R U)) (p : AnchorPass V R U) (turns rest whole : List (Pass LogRow)) → now ≡ all ++ p ∷ [] → p.turn ∷ rest ≡ turns → map turn_of all ++ turns ≡ whole → map turn_of now ++ rest ≡ whole
moved {V} {R} {U} all now p turns rest whole e f g =
    ap (λ xs. map turn_of xs ++ rest) e ∙ (ap (λ xs. xs ++ rest) (map-append turn_of all (p ∷ [])) ∙ (append_assoc (map turn_of all) (p.turn ∷ []) rest ∙ (ap (λ xs. map turn_of all ++ xs) f ∙ g)))

pub loop-turns-preserved : goal.loop-turns-preserved
loop-turns-preserved g c =
    let l = c.loop-turns in let r = c.remove-turn.ensures in let i = l.invariant in let e = c.in_ok-push.ensures.items in
    let some : 0 < length l.turns.items = let z = eqb-false _ 0 (sym c.is_empty.ensures ∙ c.loop-turns-test.true) in omega (arith, l.turns.ok.0) in
    let head = head_removed l.turns.items c.remove-turn.result some r.value in
    let left : HasLeft {V = (denote.Param.param 0 g.row.H).Denot} {R = (denote.Param.param 1 g.row.H-Pass).Denot} {U = (denote.Param.param 2 g.row.H-Hub).Denot} c.args.calls.now (record { turn = c.remove-turn.result; left = c.calls_of-left.result }) = c.calls_of-left.ensures ∙ ap (λ k. get_or c.args.calls.now k 0) c.number.ensures in
    record {
      turns = moved l.all.items c.push.new.self.items _ l.turns.items c.remove-turn.new.self.items c.args.turns.items e (ap (λ xs. c.remove-turn.result ∷ xs) r.items ∙ head) i.turns;
      left = subst (All (HasLeft c.args.calls.now)) (sym e) (All-push (HasLeft c.args.calls.now) l.all.items _ i.left left);
    }

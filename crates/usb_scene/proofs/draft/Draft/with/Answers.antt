use Rattle.std.proofs.Common.{◌≡◌, true, None, ap, ◌∙◌, sym, subst}
use Rattle.std.specs.Prelude.{IsTrue}
use Rattle.usb_statement.specs.Statements.{keyword_said}
use Rattle.usb_scene.specs.Rules.{SoFar, may_stand, is_within, statement_cause}
use Rattle.usb_scene.specs.Counts.{count_in, counts_after}
use Rattle.usb_scene.specs.Named.{number_in, called_target}
use Rattle.usb_scene.proofs.Allowed.{allowed_said}
use Rattle.usb_scene.proofs.Drafts.{draft_with}
use Rattle.usb_scene.proofs.draft.Draft.with.Goals as goal

pub called_target-target-requires : goal.called_target-target-requires
called_target-target-requires c = let a = allowed_said c.args.self c.args.statement c.requires.allowed in record { named = a.named; within = a.within }

pub add-requires-clause-within : goal.add-requires-clause-within
add-requires-clause-within c =
    subst (λ (s : SoFar). IsTrue (is_within s.scene c.args.statement)) (sym c.self.view_is) (allowed_said c.args.self c.args.statement c.requires.allowed).within

pub invariant_of-result : goal.invariant_of-result
invariant_of-result c =
    let s : SoFar = record { scene = c.self.inside.scene; has_port = c.self.inside.has_port } in
    let said = c.args.statement in
    let same : c.args.self ≡ s = sym c.self.view_is in
    let place = subst (λ (t : SoFar). may_stand t.scene (keyword_said said) ≡ true) same c.requires.place in
    let allowed = subst (λ (t : SoFar). statement_cause t said ≡ None) same c.requires.allowed in
    let count = count_in c.self.inside.rejects.counts in
    let called = c.called_target-target.ensures ∙ ap (λ (t : SoFar). called_target t.scene said) same in
    let room = draft_with s c.self.inside.more_replies c.self.inside.more_calls c.args.line count (count_in c.in_ok-rejects.rejects.counts) (number_in c.self.inside.names.numbers) (number_in c.in_ok-names.names.numbers) said c.self.invariant
    (λ urb. c.in_ok-rejects.ensures urb ∙ ap (λ v. counts_after said v count urb) called) c.in_ok-names.ensures place (allowed_said s said allowed) in
    rw (c.in_ok-add.ensures, c.replies_after-more_replies.ensures, c.calls_after-more_calls.ensures) room

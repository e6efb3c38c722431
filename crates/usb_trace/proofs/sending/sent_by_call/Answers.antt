use Rattle.std.proofs.Common.{ℕ, ◌≡◌, List, length, ap, ◌∙◌, arith}
use Rattle.std.specs.Prelude.{slice_get}
use Rattle.usb_trace.specs.Plan.{len_in, short_in, buffer_of, setup_by, payload_by, window_by}
use Rattle.usb_trace.proofs.Homes.{fresh_long}
use Rattle.usb_trace.proofs.sending.sent_by_call.Goals as goal

pub transfer-requires : goal.transfer-requires
transfer-requires c =
    let s = c.args.scene.now in let u = c.args.urb in let call = c.args.call.now in
    let len = c.len_said.ensures ∙ ap (λ l. len_in (slice_get l u)) c.items-urbs.ensures in
    let same = ap (λ (l : List ℕ). length l) (c.in_ok-buf.ensures ∙ ap (λ n. buffer_of n (payload_by call.target call)) len) in
    let few = fresh_long s c.requires.good u call c.requires.bytes in
    omega arith

pub returns : goal.returns
returns c =
    let u = c.args.urb in let call = c.args.call.now in
    let len = c.len_said.ensures ∙ ap (λ l. len_in (slice_get l u)) c.items-urbs.ensures in
    let short = c.short_said.ensures ∙ ap (λ l. short_in (slice_get l u)) c.items-urbs.ensures in
    let buf = c.in_ok-buf.ensures ∙ ap (λ n. buffer_of n (payload_by call.target call)) len in
    c.transfer.ensures ∙ (λ j. record { setup = setup_by call.target call; buf = buf j; from = 0; len = window_by call.target call (length (buf j)); short_not_ok = short j; actual = 0; number = call.line })

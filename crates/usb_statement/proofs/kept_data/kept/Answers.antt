use Rattle.std.proofs.Common.{rules}
use Rattle.usb_text.specs.Words.{words}
use Rattle.usb_statement.proofs.Kept.{kept_next, kept_last, short_take}
use Rattle.usb_statement.proofs.kept_data.kept.Goals as goal

pub loop-word-preserved : goal.loop-word-preserved
loop-word-preserved c = record {
  so_far = kept_next 65536 c.loop-word.all c.in-Some-2.bytes _ c.in-Some.word.now (words c.loop-word.rest.now) (words c.in-Some.behind.now) _ c.loop-word.invariant.so_far (search rules) (search rules) (rw c.bytes-in-Some-2.ensures at c.in_ok-keep-in-Some-2.ensures);
  short = short_take 65536 _ _ c.in_ok-keep-in-Some-2.ensures;
}

pub returns : goal.returns
returns c = kept_last 65536 c.loop-word.all (words c.loop-word.rest.now) _ c.loop-word.invariant.so_far (search rules) c.loop-word.invariant.short

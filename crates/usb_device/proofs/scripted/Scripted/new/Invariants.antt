use Rattle.std.proofs.Common.{◌≡◌, vec_len, ℕ, Some}
use Rattle.std.specs.Prelude.{slice_get}
use Rattle.usb_device.specs.declared.scripted.ScriptedEnd.{ScriptedEnd}
use Rattle.usb_device.specs.Fresh.{IsFresh}
use Rattle.usb_device.proofs.scripted.Scripted.new.Given as goal

abbrev pub invariant-loop : goal.invariant-loop
invariant-loop l = record {
  many : vec_len l.ends ≡ l.counter;
  fresh : (a : ℕ) (end : ScriptedEnd) → slice_get l.ends.items a ≡ Some end → IsFresh l.script.answers end;
}

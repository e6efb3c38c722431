use Rattle.std.proofs.Common.{◌≡◌}
use Rattle.usb_turn.proofs.turns.Turns.fill_all.Given as goal

abbrev pub ghosts-fill : goal.ghosts-fill
ghosts-fill g a = record { is_key = λ k. k ≡ g.V.Kept.key a.self.now.table.shared.key.first.value; passes = a.self.now.table.shared.key.passes }

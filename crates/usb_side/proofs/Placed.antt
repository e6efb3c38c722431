-- What a controller holds at a place of an endpoint: only the first was moved.
use Rattle.std.proofs.Common.{◌≡◌, ℕ, ◌⊎◌, inl, inr, Some, List, [], ◌∷◌, ◌++◌, refl, subst}
use Rattle.std.specs.Prelude.{slice_get, All}
use Rattle.usb_machine.specs.declared.layout.Shape.{Shape}
use Rattle.usb_serve.specs.declared.controller.Held.{Held}
use Rattle.usb_serve.specs.declared.controller.EndRow.{EndRow}
use Rattle.usb_serve.specs.Knows.{Knows}
use Rattle.usb_serve.specs.Held.{Holds, IsHeld, IsNew, after_first}
use Rattle.usb_serve.proofs.SoFars.{new_moved, held_fits}
use Rattle.usb_serve.proofs.Settling.{held_window}
use Rattle.usb_side.proofs.Rows.{all_at}

-- a transfer behind the first was moved by no reply
pub later_held : (k : Knows) (ends : List EndRow) → Holds k ends → (e : ℕ) (row : EndRow) (b : Held) (before : List Held) (h : Held) (after : List Held) → slice_get ends e ≡ Some row → row.held.items ≡ (b ∷ before) ++ h ∷ after
    → (o : IsHeld k row.shape h) × (o.before ≡ [])
later_held k ends holds e row b before h after at parts =
    let o : IsHeld k row.shape h = all_at (IsHeld k row.shape) (b ∷ before) h after (subst (All (IsHeld k row.shape)) parts (holds.each e row at)) in
    let q : IsNew k h = all_at (IsNew k) before h after (subst (λ (l : List Held). All (IsNew k) (after_first l)) parts (holds.fresh e row at)) in
    let m = new_moved k row.shape h ⊥ q.0 (held_window k row.shape h o) (held_fits k row.shape h o) q.1 o.unfinished in
    (m.held, m.is)

pub placed_held : (k : Knows) (ends : List EndRow) → Holds k ends → (e : ℕ) (row : EndRow) (before : List Held) (h : Held) (after : List Held) → slice_get ends e ≡ Some row → row.held.items ≡ before ++ h ∷ after
    → (o : IsHeld k row.shape h) × ((before ≡ []) ⊎ (o.before ≡ []))
placed_held k ends holds e row [] h after at parts = (all_at (IsHeld k row.shape) [] h after (subst (All (IsHeld k row.shape)) parts (holds.each e row at)), inl refl)
placed_held k ends holds e row (b ∷ before) h after at parts = let w = later_held k ends holds e row b before h after at parts in (w.0, inr w.1)

-- A wait until an URB is quiet keeps what holds between blocks.
use Rattle.std.proofs.Common.{ℕ, ◌≡◌, Bool, true, false, not, ◌&&◌, eqb, refl, sym, eqb-true, true≢false}
use Rattle.usb_machine.specs.declared.state.UrbState.{UrbState}
use Rattle.usb_machine.specs.History.{state_of}
use Rattle.usb_scene.specs.declared.scene.Scene.{Scene}
use Rattle.usb_scene.specs.WellFormed.{IsWellFormed}
use Rattle.usb_line.specs.Line.{Progress, woken, is_quiet, StaysLoud, begins, goes_on, WaitsFor, already, turns}
use Rattle.usb_line.proofs.Serving.{Serves}
use Rattle.usb_line.proofs.Turns.{IsTurned, turned_none, turned_on, gives_serve, gives_turned}

pub woken_serves : (s : Scene) (f : Progress) → Serves s f → Serves s (woken f)
woken_serves s f old = record {
  legal = old.legal;
  calm = old.calm;
  server = old.server;
  gives = old.gives;
  firsts = old.firsts;
  replies = old.replies;
  moving = λ e. record { none = (old.moving e).none; whole = (old.moving e).whole; due = (old.moving e).due };
  moves = old.moves;
  handled = old.handled;
  bare = old.bare;
}

pub woken_turned : (f : Progress) → IsTurned f (woken f)
woken_turned f = record { parts = λ p off. refl; call_records = refl; down = refl }

-- an URB that is quiet is not queued, and no handler of it runs
pub quiet_state : (t : UrbState) → is_quiet t ≡ true → (t.queued ≡ false) × (t.handlers ≡ 0)
quiet_state t e = go t.queued (eqb t.handlers 0) refl refl e
  where
    go : (a b : Bool) → t.queued ≡ a → eqb t.handlers 0 ≡ b → (not a && b) ≡ true → (t.queued ≡ false) × (t.handlers ≡ 0)
    go true b p q e = absurd (true≢false (sym e))
    go false false p q e = absurd (true≢false (sym e))
    go false true p q e = (p, eqb-true t.handlers 0 q)

module _ (s : Scene) (good : IsWellFormed s) (u : ℕ) where
  loud_serves : (f m : Progress) → StaysLoud s u f m → Serves s f → Serves s m
  loud_serves f _ (begins loud) old = old
  loud_serves f _ (goes_on m k before turn loud) old = gives_serve s good m k turn (loud_serves f m before old)

  pub wait_serves : (f k : Progress) → WaitsFor s u f k → Serves s f → Serves s k
  wait_serves f _ (already quiet) old = old
  wait_serves f _ (turns m k before turn quiet) old = gives_serve s good m k turn (loud_serves (woken f) m before (woken_serves s f old))

module _ (s : Scene) (u : ℕ) where
  loud_turned : (f m : Progress) → StaysLoud s u f m → IsTurned f m
  loud_turned f _ (begins loud) = turned_none f
  loud_turned f _ (goes_on m k before turn loud) = turned_on f m k (loud_turned f m before) (gives_turned s m k turn)

  pub wait_turned : (f k : Progress) → WaitsFor s u f k → IsTurned f k
  wait_turned f _ (already quiet) = turned_none f
  wait_turned f _ (turns m k before turn quiet) = turned_on f (woken f) k (woken_turned f) (turned_on (woken f) m k (loud_turned (woken f) m before) (gives_turned s m k turn))

  -- and then the URB is quiet
  pub wait_quiet : (f k : Progress) → WaitsFor s u f k → ((state_of k.history u).queued ≡ false) × ((state_of k.history u).handlers ≡ 0)
  wait_quiet f _ (already quiet) = quiet_state (state_of f.history u) quiet
  wait_quiet f _ (turns m k before turn quiet) = quiet_state (state_of k.history u) quiet

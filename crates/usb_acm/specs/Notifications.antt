-- Notifications of a serial port, one after the other in a stream of bytes (CDC 1.2, section 6.3; PSTN 1.2, section 6.5).
use Rattle.std.specs.Prelude.{◌≡◌, ℕ, zero, suc, ◌+◌, Bool, ◌==◌, ◌&&◌, nat_le, nat_lt, if◌then◌else◌, List, [], ◌∷◌, ◌++◌, length, drop, slice_index}
use Rattle.usb_ctrl.specs.Setup.{word}
use Rattle.usb_acm.specs.declared.event.Event.{Event}
use Rattle.usb_acm.specs.declared.event.Event.TheVariants.{State, Note, BadNote}

-- how many bytes of data follow the eight of the notification at the front: its bytes 6 and 7, the low one first
abbrev pub data_length : List ℕ → ℕ
data_length stream = word (slice_index stream 6) (slice_index stream 7)

-- it names more data than any has
abbrev pub is_bad : List ℕ → Bool
is_bad stream = nat_lt 64 (data_length stream)

-- its length: a bad one has the eight bytes alone
abbrev pub note_length : List ℕ → ℕ
note_length stream = if is_bad stream then 8 else 8 + data_length stream

-- all of it is there
abbrev pub is_whole : List ℕ → Bool
is_whole stream = nat_le 8 (length stream) && nat_le (note_length stream) (length stream)

-- it is A1 20, SERIAL_STATE, with the two bytes of the lines (PSTN 1.2, section 6.5.4)
abbrev pub is_state : List ℕ → Bool
is_state stream = slice_index stream 0 == 0xA1 && slice_index stream 1 == 0x20 && data_length stream == 2

-- what it reports
abbrev pub event_of : List ℕ → Event
event_of stream =
    if is_bad stream then BadNote
    else if is_state stream then State (word (slice_index stream 8) (slice_index stream 9))
    else Note (slice_index stream 1)

-- the first notifications of a stream, at most so many: each begins where the one before ends
unfoldable pub notes_within : ℕ → List ℕ → List Event
notes_within zero stream = []
notes_within (suc n) stream = if is_whole stream then event_of stream ∷ notes_within n (drop (note_length stream) stream) else []

-- what follows them
unfoldable pub behind_within : ℕ → List ℕ → List ℕ
behind_within zero stream = stream
behind_within (suc n) stream = if is_whole stream then behind_within n (drop (note_length stream) stream) else stream

-- all notifications of a stream, which are no more than its bytes, and the unfinished one after them
unfoldable pub notes : List ℕ → List Event
notes stream = notes_within (length stream) stream

unfoldable pub unfinished : List ℕ → List ℕ
unfinished stream = behind_within (length stream) stream

-- items were added after the old ones
abbrev pub Grown : {X : Type 0} → List X → List X → Type 0
Grown {X} old new = (more : List X) × (new ≡ old ++ more)

-- DATA: the bytes that a word spells.
use Rattle.usb_types.specs.Limits.{most_buffer, most_packet}
use Rattle.std.specs.Prelude.{ℕ, ◌+◌, ◌==◌, ◌&&◌, nat_le, if◌then◌else◌, List, [], length, take, drop, replicate, Option, Some, None, position, option_and_then, codes}
use Rattle.std.specs.Result.{result_ok}
use Rattle.std.specs.Str.{bytes_eq}
use Rattle.hex.specs.Hex.{decode_of}
use Rattle.usb_text.specs.Kinds.{number_of, byte_of}

-- the parts of a word before and after the first byte b
abbrev pub cut_at : List ℕ → Option ℕ → Option (List ℕ × List ℕ)
cut_at word None = None
cut_at word (Some at) = Some (take at word, drop (at + 1) word)

abbrev pub cut : ℕ → List ℕ → Option (List ℕ × List ℕ)
cut b word = cut_at word (position (λ c. c == b) word)

-- 1 to `most_buffer` equal bytes
abbrev pub equal_bytes : Option ℕ → Option ℕ → Option (List ℕ)
equal_bytes (Some n) (Some b) = if nat_le 1 n && nat_le n most_buffer then Some (replicate n b) else None
equal_bytes _ _ = None

-- NUM:HH
abbrev pub filled_parts : Option (List ℕ × List ℕ) → Option (List ℕ)
filled_parts None = None
filled_parts (Some parts) = equal_bytes (number_of parts.0) (byte_of parts.1)

-- `fill:NUM:HH`, or an even number of hexadecimal digits
abbrev pub spelled_bytes : List ℕ → Option (List ℕ)
spelled_bytes word =
    if bytes_eq (take 5 word) (codes "fill:") then filled_parts (cut 58 (drop 5 word)) else result_ok (decode_of word)

-- DATA: `-` for no bytes, or bytes that are spelled
abbrev pub data_of : List ℕ → Option (List ℕ)
data_of word =
    if bytes_eq word (codes "-") then Some []
    else if length word == 0 then None
    else spelled_bytes word

-- the bytes of a packet, at most 1,024: `p:` and bytes that are spelled
abbrev pub payload_of : List ℕ → Option (List ℕ)
payload_of word =
    if bytes_eq (take 2 word) (codes "p:")
    then option_and_then (λ bytes. if nat_le (length bytes) most_packet then Some bytes else None) (spelled_bytes (drop 2 word))
    else None

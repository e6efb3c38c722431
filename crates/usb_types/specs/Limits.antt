-- The limits of a scene: the most of each that may stand in it.
use Rattle.std.specs.Prelude.{ℕ}

-- devices of a scene
abbrev pub most_devices : ℕ
most_devices = 16

-- URBs of a scene, and of a host: the scene's and those of drivers
abbrev pub most_urbs : ℕ
most_urbs = 256

-- threads of a scene
abbrev pub most_threads : ℕ
most_threads = 16

-- replies of all devices, after repeats
abbrev pub most_replies : ℕ
most_replies = 65536

-- calls of all scripts
abbrev pub most_calls : ℕ
most_calls = 4096

-- how often one item is repeated
abbrev pub most_times : ℕ
most_times = 4096

-- rejects of one script on one URB
abbrev pub most_rejects : ℕ
most_rejects = 100

-- how often a handler submits again
abbrev pub most_again : ℕ
most_again = 63

-- bytes of a buffer
abbrev pub most_buffer : ℕ
most_buffer = 16384

-- bytes of a packet
abbrev pub most_packet : ℕ
most_packet = 1024

-- the interval of an endpoint
abbrev pub most_interval : ℕ
most_interval = 255

-- the number of an interface
abbrev pub most_interface : ℕ
most_interface = 255

-- bytes of a device descriptor that a device is given
abbrev pub most_desc : ℕ
most_desc = 255

-- bytes of its configuration
abbrev pub most_config : ℕ
most_config = 65535

-- bytes of a printer's id
abbrev pub most_id : ℕ
most_id = 65535

-- bytes of data that are kept of a line: one above the most that any line may have
abbrev pub most_kept : ℕ
most_kept = 65536

-- milliseconds of a break (PSTN 1.2 §6.3.13)
abbrev pub most_break : ℕ
most_break = 65535

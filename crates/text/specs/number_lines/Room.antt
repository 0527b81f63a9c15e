-- Inner: the bytes that the line of the repeats takes at most.
use Rattle.std.specs.Prelude.{ℕ, ◌+◌}
use Rattle.text.specs.Room.{numbers_room}

-- the line of the repeats: its word has 8 bytes
abbrev pub repeats_room : ℕ
repeats_room = 8 + numbers_room

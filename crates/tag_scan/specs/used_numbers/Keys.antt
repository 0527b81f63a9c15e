-- Inner: where it is noted that a side used a number, in one bit set for both sides.
use Rattle.std.specs.Prelude.{ℕ, ◌+◌, ◌*◌, ◌/◌}
use Rattle.sets.specs.Limits.{half_words}
use Rattle.sets.specs.declared.Side.{Side}
use Rattle.sets.specs.declared.Side.TheVariants.{Left, Right}

-- the words of the bit set that notes them, with a member for each number of each side
abbrev pub used_words : ℕ
used_words = 2 * half_words / 64

-- where it is noted that a number was used by a side
abbrev pub key_of : Side → ℕ → ℕ
key_of Left number = number
key_of Right number = half_words + number

-- The round trip of tag files in calls, from lists that were loaded.
use Rattle.std.specs.Prelude.{ℕ, ◌≡◌, List, true, length, take, Result, Ok}
use Rattle.tag_file.specs.declared.Loaded.{Loaded}
use Rattle.tag_file.specs.Repeats.{no_repeats}
use Rattle.tag_file.specs.Loading.{Lists, room_for, LoadCall}
use Rattle.tag_writer_spec.specs.Writer.{file_bytes}
use Rattle.tag_round_trip.specs.Trips.{parts_of}
use Rattle.sets.specs.declared.Refusal.{Refusal}
use Rattle.tag_file.specs.declared.Repeats.{Repeats}

-- a write of lists that were loaded wrote the whole file, and every load of what it wrote into lists that are long
-- enough is accepted with the same counts and no repeats, and fills the same lists
pub record TripCalls (counts : Loaded) (parts : Lists) (wrote : List ℕ) (answer : Result ℕ Refusal) : Type 0 where
  pub written : answer ≡ Ok (length (file_bytes parts))
  pub again : (lent got : Lists) (next : Result (Loaded × Repeats) Refusal) → LoadCall (take (length (file_bytes parts)) wrote) lent got next
      → room_for parts lent ≡ true → (next ≡ Ok (counts, no_repeats)) × (parts_of counts got ≡ parts)

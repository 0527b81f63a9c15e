-- The round trip of a pooled load: the writer accepts what it filled, and loading the one file so written, with lists that are
-- long enough, gives the same counts, tag table, record numbers, ends and items, and no repeats. So two pads' files become one.
use mathlib.Core.Path.{◌≡◌}
use Prim.Native.Nat.{ℕ, ◌≤◌, ◌<◌}
use mathlib.Core.List.{List}
use mathlib.Core.Bool.{true}
use lib.ListN.{length, take, get_or}
use Rattle.std.specs.Prelude.{Result, Ok}
use Rattle.tag_file.specs.declared.Loaded.{Loaded}
use Rattle.tag_file.specs.declared.Repeats.{Repeats}
use Rattle.tag_file.specs.Repeats.{no_repeats}
use Rattle.tag_file.specs.Loading.{Lists, room_for, LoadCall}
use Rattle.tag_writer_spec.specs.Writer.{file_bytes, WriteCall}
use Rattle.pool_loader_spec.specs.Pooling.{pooled_records, PooledCall}
use Rattle.tag_round_trip.specs.Trips.{parts_of, Trip}
use Rattle.tag_round_trip.proofs.RoundTrip.{fills_trip, fills_again}
use Rattle.pool_loader_laws.proofs.AcceptedPair.{pair_fills, pair_loadable}
use Rattle.sets.specs.declared.Refusal.{Refusal}

-- a pooled load of two files of bytes that is accepted
module _ (first second : List ℕ) {lent got : Lists} {counts : Loaded} {repeats : Repeats} (low : (i : ℕ) → get_or first i 0 < 256)
    (low_second : (i : ℕ) → get_or second i 0 < 256) (pools : PooledCall first second lent got (Ok (counts, repeats))) where
  pub pooled_round_trip : (out : List ℕ) → length (file_bytes (parts_of counts got)) ≤ length out
      → Trip counts (parts_of counts got) out
  pooled_round_trip out enough =
      fills_trip (pooled_records first second) (pair_loadable first second pools low low_second) counts got
      (pair_fills first second pools) out enough

  -- the same of three calls: the pooled load, a write of what it filled that is accepted, and a load of what was written into
  -- lists that are long enough
  pub pooled_calls_round_trip : (out wrote : List ℕ) (n : ℕ) (again more : Lists) (answer : Result (Loaded × Repeats) Refusal)
      → WriteCall counts.tag_count (parts_of counts got) out wrote (Ok n)
      → LoadCall (take n wrote) again more answer → room_for (parts_of counts got) again ≡ true
      → (answer ≡ Ok (counts, no_repeats)) × (parts_of counts more ≡ parts_of counts got)
  pooled_calls_round_trip out wrote n again more answer writes loads room =
      fills_again (pooled_records first second) (pair_loadable first second pools low low_second) counts got
      (pair_fills first second pools) out wrote n again more answer writes loads room

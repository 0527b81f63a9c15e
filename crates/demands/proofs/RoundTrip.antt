-- The round trip in calls, of a load and of a pooled load: where the output has room for the file, the write of what was filled is
-- accepted, and loading what it wrote gives the same. Of files whose numbers are bytes.
use mathlib.Core.Path.{◌≡◌, sym, subst, ◌∙◌}
use Prim.Native.Nat.{ℕ, zero, suc, ◌<◌, ◌≤◌}
use mathlib.Core.List.{List, [], ◌∷◌}
use native.Mathlib.Omega.{arith}
use lib.ListN.{length, get_or}
use Rattle.std.specs.Prelude.{Result, Ok}
use Rattle.inputs.specs.Input.{Input}
use Rattle.inputs.specs.Tests.{items_test, sets_test}
use Rattle.tag_file.specs.declared.Loaded.{Loaded}
use Rattle.tag_file.specs.declared.Repeats.{Repeats}
use Rattle.tag_file.specs.Records.{TagRecord, records}
use Rattle.tag_file.specs.Loading.{Lists, LoadCall}
use Rattle.tag_file.proofs.AnswerLaws.{accepted}
use Rattle.tag_writer_spec.specs.Writer.{file_bytes, WriteCall}
use Rattle.tag_round_trip.specs.Trips.{parts_of, Fills}
use Rattle.tag_round_trip.proofs.FileRecords.{Loadable, file_loadable}
use Rattle.tag_round_trip.proofs.RoundTrip.{fills_trip, fills_again}
use Rattle.pool_loader_spec.specs.Pooling.{pooled_records, PooledCall}
use Rattle.tag_containment.proofs.ByteOrder.{AreBytes}
use Rattle.tag_containment.proofs.LoadedLists.{OverLoaded, load_fills}
use Rattle.pool_loader_laws.proofs.AcceptedPair.{pair_fills, pair_loadable}
use Rattle.demands.specs.Trips.{TripCalls}
use Rattle.demands.proofs.LoadedTests.{fills_tests}
use Rattle.sets.specs.declared.Refusal.{Refusal}

next_bytes : (b : ℕ) (bs : List ℕ) → AreBytes (b ∷ bs) → AreBytes bs
next_bytes b bs low i h = low (suc i) (omega arith)

-- what are bytes are so at every place: there is a 0 past the end
pub bytes_low : (bs : List ℕ) → AreBytes bs → (i : ℕ) → get_or bs i 0 < 256
bytes_low [] low i = omega arith
bytes_low (b ∷ bs) low zero = low 0 (omega arith)
bytes_low (b ∷ bs) low (suc i) = bytes_low bs (next_bytes b bs low) i

-- of any lists that hold what records give
module _ (rs : List TagRecord) (so : Loadable rs) (counts : Loaded) (got : Lists) (fills : Fills rs counts got) where
  pub fills_calls : (out wrote : List ℕ) (answer : Result ℕ Refusal)
      → WriteCall counts.tag_count (parts_of counts got) out wrote answer
      → length (file_bytes (parts_of counts got)) ≤ length out → TripCalls counts (parts_of counts got) wrote answer
  fills_calls out wrote answer writes enough =
      let written = writes.answered ∙ (fills_trip rs so counts got fills out enough).written in
      let accepted = subst (λ (a : Result ℕ Refusal). WriteCall counts.tag_count (parts_of counts got) out wrote a) written writes in
      record {
        written = written;
        again = λ lent more next loads room. fills_again rs so counts got fills out wrote _ lent more next accepted loads room;
      }

-- of a load that is accepted
pub calls_trip : (file : List ℕ) {lent got : Lists} {counts : Loaded} {repeats : Repeats} → ((i : ℕ) → get_or file i 0 < 256)
    → LoadCall file lent got (Ok (counts, repeats)) → (out wrote : List ℕ) (answer : Result ℕ Refusal)
    → WriteCall counts.tag_count (parts_of counts got) out wrote answer
    → length (file_bytes (parts_of counts got)) ≤ length out → TripCalls counts (parts_of counts got) wrote answer
calls_trip file {lent} {got} {counts} {repeats} low loads out wrote answer writes enough =
    fills_calls (records file) (file_loadable file low (accepted file lent counts repeats (sym loads.answered)).clear) counts got
    (load_fills file loads) out wrote answer writes enough

-- of a pooled load that is accepted: the round trip, and the tests that an input made of what it filled passes
module _ (first second : List ℕ) {lent got : Lists} {counts : Loaded} {repeats : Repeats} (low : (i : ℕ) → get_or first i 0 < 256)
    (low_second : (i : ℕ) → get_or second i 0 < 256) (pools : PooledCall first second lent got (Ok (counts, repeats))) where
  pub pooled_calls_trip : (out wrote : List ℕ) (answer : Result ℕ Refusal)
      → WriteCall counts.tag_count (parts_of counts got) out wrote answer
      → length (file_bytes (parts_of counts got)) ≤ length out → TripCalls counts (parts_of counts got) wrote answer
  pooled_calls_trip out wrote answer writes enough =
      fills_calls (pooled_records first second) (pair_loadable first second pools low low_second) counts got
      (pair_fills first second pools) out wrote answer writes enough

  pub pooled_filled_tests : (i : Input) → OverLoaded counts got i → i.T ≡ counts.tag_count
      → (items_test i.T ≡ Ok tt) × (sets_test i ≡ Ok tt)
  pooled_filled_tests = fills_tests (pair_fills first second pools) (pair_loadable first second pools low low_second)

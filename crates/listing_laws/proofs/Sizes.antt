-- What an input made of records has: its sets, its entries and its size, by the records.
use Prim.Native.Nat.{ℕ, ◌+◌, ◌*◌}
use mathlib.Core.Path.{◌≡◌, ◌∙◌}
use mathlib.Core.List.{List, [], ◌∷◌, flatten}
use native.Mathlib.Omega.{arith}
use lib.ListN.{length, length-append}
use Rattle.sets.specs.Collections.{last_end, entries}
use Rattle.sets.specs.declared.Side.{Side}
use Rattle.sets.specs.declared.Side.TheVariants.{Left, Right}
use Rattle.inputs.specs.Tests.{words_needed}
use Rattle.inputs.proofs.TestLaws.{words_for_lem}
use Rattle.tag_file.specs.Records.{TagRecord, of_side, tag_table, entries_of, sets_of_side}
use Rattle.tag_file.specs.Loading.{ends_from, ends_of}
use Rattle.tag_file.proofs.ItemCount.{length-ends_of, length-flat_items}
use Rattle.listing_spec.specs.Listing.{records_input}

last_joined : (start : ℕ) (sets : List (List ℕ)) → last_end start (ends_from start sets) ≡ start + length (flatten sets)
unfolding last_end ends_from flatten
last_joined start [] = omega arith
last_joined start (set ∷ sets) = omega (arith, last_joined (start + length set) sets, length-append set (flatten sets))

entries-records : (side : Side) (rs : List TagRecord) → entries (ends_of side rs) ≡ entries_of side rs
entries-records side rs =
    last_joined 0 (sets_of_side side (tag_table rs) rs) ∙ omega (arith, length-flat_items side rs)

-- n of document 01: sets and collapsed entries of both sides, and distinct tags
abbrev pub records_size : List TagRecord → ℕ
records_size rs =
    length (of_side Left rs) + length (of_side Right rs) + (entries_of Left rs + entries_of Right rs) + length (tag_table rs)

pub words_records : (rs : List TagRecord) → words_needed (records_input rs) ≡ 16 * records_size rs + 64
words_records rs =
    words_for_lem (records_input rs)
    ∙ omega (
      arith,
      length-ends_of Left rs,
      length-ends_of Right rs,
      entries-records Left rs,
      entries-records Right rs,
    )

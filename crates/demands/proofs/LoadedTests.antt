-- What records fill passes the tests of T and of the sets that operations over both collections share: so a run over what a load of a
-- file of bytes filled is refused neither for its T nor for a bad set.
use mathlib.Core.Path.{◌≡◌, sym, ap, ap₂, ◌∙◌}
use Prim.Native.Nat.{ℕ, ◌<◌}
use mathlib.Core.List.{List, ◌++◌}
use borrow.Author.Tests.{le-ltb}
use lib.ListN.{length, get_or, take, drop, take-append-drop}
use Rattle.std.specs.Prelude.{None, Ok}
use Rattle.sets.specs.Limits.{max_items}
use Rattle.sets.specs.Collections.{first_bad}
use Rattle.sets.specs.declared.Side.{Side}
use Rattle.sets.specs.declared.Side.TheVariants.{Left, Right}
use Rattle.demands.proofs.Good.{good_past}
use Rattle.inputs.specs.Input.{Input}
use Rattle.inputs.specs.Tests.{items_test, sets_test}
use Rattle.inputs.proofs.TestLaws.{good_sets}
use Rattle.tag_file.specs.declared.Loaded.{Loaded}
use Rattle.tag_file.specs.declared.Repeats.{Repeats}
use Rattle.tag_file.specs.Records.{TagRecord, tag_table}
use Rattle.tag_file.specs.Loading.{Lists, ends_of, flat_items, LoadCall}
use Rattle.tag_file.proofs.AnswerLaws.{accepted}
use Rattle.tag_round_trip.specs.Trips.{Fills}
use Rattle.tag_round_trip.proofs.Refilled.{sets_unbad}
use Rattle.tag_round_trip.proofs.FileRecords.{Loadable, file_loadable}
use Rattle.tag_containment.proofs.LoadedLists.{OverLoaded, load_fills}

-- of lists that hold what records give
module _ {rs : List TagRecord} {loaded : Loaded} {got : Lists} (fills : Fills rs loaded got) (so : Loadable rs) (i : Input)
    (over : OverLoaded loaded got i) (counted : i.T ≡ loaded.tag_count) where
  items_are : i.T ≡ length (tag_table rs)
  items_are = counted ∙ ap (λ (c : Loaded). c.tag_count) fills.counted

  -- the filled ends over items that begin with those filled
  side_good : (side : Side) (ends items : List ℕ) (n : ℕ) → ends ≡ ends_of side rs → take n items ≡ flat_items side rs
      → first_bad i.T ends items ≡ None
  side_good side ends items n ended begins =
      ap (λ (T : ℕ). first_bad T ends items) items_are
      ∙ ap₂ (first_bad (length (tag_table rs))) ended
      (sym (take-append-drop n items) ∙ ap (λ (l : List ℕ). l ++ drop n items) begins)
      ∙ good_past (length (tag_table rs)) (ends_of side rs) (flat_items side rs) (drop n items)
      (sets_unbad rs side so.few (so.free.places side) (so.free.entries side))

  pub fills_tests : (items_test i.T ≡ Ok tt) × (sets_test i ≡ Ok tt)
  fills_tests = (
    ap items_test items_are ∙ rw (le-ltb max_items (length (tag_table rs)) so.free.tags),
    good_sets i
        (record {
          left =
              side_good Left i.left.ends i.left.items loaded.left_entries
              (over.left_ends ∙ ap (λ (p : Lists). p.left_ends) fills.lists)
              (over.left_items ∙ ap (λ (p : Lists). p.left_items) fills.lists);
          right =
              side_good Right i.right.ends i.right.items loaded.right_entries
              (over.right_ends ∙ ap (λ (p : Lists). p.right_ends) fills.lists)
              (over.right_items ∙ ap (λ (p : Lists). p.right_items) fills.lists);
        }),
  )

-- of a load that is accepted
pub load_tests : (file : List ℕ) → ((k : ℕ) → get_or file k 0 < 256) → {lent got : Lists} {loaded : Loaded} {repeats : Repeats}
    → LoadCall file lent got (Ok (loaded, repeats)) → (i : Input) → OverLoaded loaded got i → i.T ≡ loaded.tag_count
    → (items_test i.T ≡ Ok tt) × (sets_test i ≡ Ok tt)
load_tests file low {lent} {got} {loaded} {repeats} loads =
    fills_tests (load_fills file loads)
    (file_loadable file low (accepted file lent loaded repeats (sym loads.answered)).clear)

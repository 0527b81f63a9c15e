-- A load and a run over what it filled, each by what its contract says of a call: a pair of places is in the pair list once if both
-- are places of records and the left record has at least one tag, each of them a tag of the right one; else it is not there.
use mathlib.Core.Path.{◌≡◌, refl, ap, ◌∙◌}
use Prim.Native.Nat.{ℕ, ◌*◌, ◌<◌}
use mathlib.Core.List.{List, []}
use mathlib.Core.Bool.{Bool, true, false, ◌&&◌}
use borrow.Author.Tests.{ltb-true}
use lib.Dec.{ltb}
use lib.ListN.{length, get_or, take, length-map}
use Rattle.std.specs.Prelude.{Ok}
use Rattle.lists.specs.Lists.{one}
use Rattle.lists.proofs.Mapping.{map_at}
use Rattle.sets.specs.Collections.{contained}
use Rattle.sets.specs.declared.Side.{Side}
use Rattle.sets.specs.declared.Side.TheVariants.{Left, Right}
use Rattle.inputs.specs.Input.{Input, left_sets, right_sets}
use Rattle.join_spec.specs.declared.Counts.{Counts}
use Rattle.join_spec.specs.Query.{Settings}
use Rattle.join_spec.specs.Answer.{RunCall}
use Rattle.join_spec.proofs.PairListLaws.{pair_occurs}
use Rattle.join_spec.proofs.Calls.{call_once}
use Rattle.tag_file.specs.declared.Loaded.{Loaded}
use Rattle.tag_file.specs.declared.Repeats.{Repeats}
use Rattle.tag_file.specs.Records.{TagRecord, records, of_side, tag_table, items_of, sets_of_side}
use Rattle.tag_file.specs.Loading.{Lists, LoadCall}
use Rattle.tag_round_trip.specs.Trips.{Fills}
use Rattle.tag_containment.proofs.LoadedLists.{OverLoaded, fills_left_sets, fills_right_sets, load_fills}
use Rattle.tag_containment.proofs.ItemTags.{no_record, record_of, contained-records}

-- what is asked of a pair of places: that they are places of records, and that the left record has a tag and all its tags are the
-- right one's too
abbrev pub tags_contained : List TagRecord → ℕ → ℕ → Bool
tags_contained rs l r =
    ltb l (length (of_side Left rs))
    && (ltb r (length (of_side Right rs)) && contained (record_of Left rs l).tags (record_of Right rs r).tags)

pub and_where : (a b c : Bool) → (a ≡ true → b ≡ c) → (a && b) ≡ (a && c)
and_where true b c same = same refl
and_where false b c same = refl

-- the set at a place is the items of the record there
set_of_record : (side : Side) (table : List ℕ) (rs : List TagRecord) (k : ℕ) → k < length (of_side side rs)
    → get_or (sets_of_side side table rs) k [] ≡ items_of table (record_of side rs k).tags
set_of_record side table rs k within = map_at (λ r. items_of table r.tags) (of_side side rs) k no_record [] within

-- the same asked of the sets
pub sets_tags : (rs : List TagRecord) (l r : ℕ) (lefts rights : List (List ℕ))
    → lefts ≡ sets_of_side Left (tag_table rs) rs → rights ≡ sets_of_side Right (tag_table rs) rs
    → (ltb l (length lefts) && (ltb r (length rights) && contained (get_or lefts l []) (get_or rights r []))) ≡ tags_contained rs l r
sets_tags rs l r lefts rights left right =
    let A = length (of_side Left rs) in
    let B = length (of_side Right rs) in
    rw (left, right, length-map (of_side Left rs), length-map (of_side Right rs))
    (and_where (ltb l A) _ _
    (λ in_left.
    and_where (ltb r B) _ _
    (λ in_right.
    rw (
      set_of_record Left (tag_table rs) rs l (ltb-true l A in_left),
      set_of_record Right (tag_table rs) rs r (ltb-true r B in_right),
    )
    (contained-records rs Left l (ltb-true l A in_left) (record_of Right rs r).tags))))

module _ {loaded : Loaded} {got : Lists} (i : Input) (over : OverLoaded loaded got i) (s : Settings) {counts : Counts}
    {work before work' after : List ℕ} (runs : RunCall i s work before work' after (Ok counts)) where
  -- over lists that hold what records give
  pub fills_pairs : {rs : List TagRecord} → Fills rs loaded got → (l r : ℕ)
      → pair_occurs l r (take (2 * counts.pairs) after) ≡ one (tags_contained rs l r)
  fills_pairs {rs} fills l r =
      call_once i s runs l r
      ∙ ap one (sets_tags rs l r (left_sets i) (right_sets i) (fills_left_sets fills i over) (fills_right_sets fills i over))

module _ (file : List ℕ) {lent got : Lists} {loaded : Loaded} {repeats : Repeats}
    (loads : LoadCall file lent got (Ok (loaded, repeats)))
    (i : Input) (over : OverLoaded loaded got i) (s : Settings) {counts : Counts} {work before work' after : List ℕ}
    (runs : RunCall i s work before work' after (Ok counts)) where
  -- a pair of places stands in the list once where the left record has a tag and all its tags are the right one's too, else not at all
  pub loaded_pairs : (l r : ℕ) → pair_occurs l r (take (2 * counts.pairs) after) ≡ one (tags_contained (records file) l r)
  loaded_pairs l r = fills_pairs i over s runs (load_fills file loads) l r

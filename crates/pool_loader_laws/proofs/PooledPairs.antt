-- A pooled load and a run over what it filled, each by what its contract says of a call: a pair of places is in the pair list once if
-- the left place is one of the first file's left sets, the right place that of a borrower, and the left record has at least one tag,
-- each of them a tag of that borrower's right set in the first file or in the second; else it is not there.
use mathlib.Core.Path.{◌≡◌, sym, ap, ◌∙◌}
use Prim.Native.Nat.{ℕ, ◌*◌, ◌<◌}
use mathlib.Core.List.{List}
use mathlib.Core.Bool.{Bool, true, ◌&&◌}
use borrow.Author.Tests.{ltb-true}
use native.Mathlib.Omega.{arith}
use lib.Dec.{ltb}
use lib.ListN.{length, get_or, take, length-map}
use Rattle.std.specs.Prelude.{Ok}
use Rattle.lists.specs.Lists.{one, distinct}
use Rattle.sets.specs.Collections.{contained}
use Rattle.sets.specs.declared.Side.TheVariants.{Left, Right}
use Rattle.inputs.specs.Input.{Input}
use Rattle.join_spec.specs.declared.Counts.{Counts}
use Rattle.join_spec.specs.Query.{Settings}
use Rattle.join_spec.specs.Answer.{RunCall}
use Rattle.join_spec.proofs.PairListLaws.{pair_occurs}
use Rattle.tag_file.specs.declared.Loaded.{Loaded}
use Rattle.tag_file.specs.declared.Repeats.{Repeats}
use Rattle.tag_file.specs.Records.{TagRecord, records, of_side}
use Rattle.tag_file.specs.Loading.{Lists, numbers_of}
use Rattle.pool_loader_spec.specs.Pooling.{pooled, pooled_records, PooledCall}
use Rattle.pool_loader_spec.proofs.Sides.{left_pooled}
use Rattle.tag_containment.proofs.ItemTags.{no_record, record_of}
use Rattle.tag_containment.proofs.LoadedLists.{OverLoaded, fills_left_number, fills_right_number}
use Rattle.tag_containment.proofs.LoadedPairs.{tags_contained, and_where, fills_pairs}
use Rattle.pool_loader_laws.specs.Borrowers.{borrower_tags, borrowers}
use Rattle.pool_loader_laws.proofs.ByNumber.{numbers_borrowers, number_pooled}
use Rattle.pool_loader_laws.proofs.BorrowerTags.{tags_pooled_lem}
use Rattle.pool_loader_laws.proofs.AcceptedPair.{pair_accepted, pair_fills, first_free, pair_second_free}

-- what is asked of a pair of places: that they are those of a left set of the first file and of a borrower, and that the left
-- record has a tag and all its tags are the borrower's in either file
abbrev pub tags_pooled : List TagRecord → List TagRecord → ℕ → ℕ → Bool
tags_pooled first second l r =
    ltb l (length (of_side Left first))
    && (ltb r (length (borrowers first second))
    && contained (record_of Left first l).tags (borrower_tags first second (get_or (borrowers first second) r 0)))

-- there are as many borrowers as pooled right sets
pub places_borrowers : (first second : List TagRecord)
    → length (borrowers first second) ≡ length (of_side Right (pooled first second))
places_borrowers first second =
    sym (ap length (numbers_borrowers first second)) ∙ length-map (of_side Right (pooled first second)) (λ r. r.number)

-- the same asked of the pooled records
pub contained-pooled : (first second : List TagRecord) → distinct (numbers_of Right first) ≡ true
    → distinct (numbers_of Right second) ≡ true → (l r : ℕ) → tags_contained (pooled first second) l r ≡ tags_pooled first second l r
contained-pooled first second once once_more l r =
    rw (left_pooled first second, places_borrowers first second)
    (ap (λ (b : Bool). ltb l (length (of_side Left first)) && b)
    (and_where (ltb r (length (of_side Right (pooled first second)))) _ _
    (λ within.
    ap (contained (record_of Left first l).tags)
    (tags_pooled_lem first second once once_more r (ltb-true r (length (of_side Right (pooled first second))) within)))))

module _ (first second : List ℕ) {lent got : Lists} {loaded : Loaded} {repeats : Repeats}
    (pools : PooledCall first second lent got (Ok (loaded, repeats))) where
  -- the numbers at a place: the first file's left record's, and the borrower's
  pub pair_left_number : (l : ℕ) → l < loaded.left_sets → get_or got.left_numbers l 0 ≡ (record_of Left (records first) l).number
  pair_left_number l within =
      fills_left_number (pair_fills first second pools) l within
      ∙ ap (λ (rs : List TagRecord). (get_or rs l no_record).number) (left_pooled (records first) (records second))

  pub pair_right_number : (r : ℕ) → r < loaded.right_sets
      → get_or got.right_numbers r 0 ≡ get_or (borrowers (records first) (records second)) r 0
  pair_right_number r within =
      let many : loaded.right_sets ≡ length (of_side Right (pooled_records first second)) =
      sym (ap (λ (c : Loaded). c.right_sets) (pair_accepted first second pools).counts) in
      fills_right_number (pair_fills first second pools) r within
      ∙ number_pooled (records first) (records second) r (omega arith)

  -- a pair of places stands in the list once where the left record has a tag and all its tags are the borrower's, else not at all
  module _ (i : Input) (over : OverLoaded loaded got i) (s : Settings) {counts : Counts} {work before work' after : List ℕ}
      (runs : RunCall i s work before work' after (Ok counts)) where
    pub pooled_pairs : (l r : ℕ)
        → pair_occurs l r (take (2 * counts.pairs) after) ≡ one (tags_pooled (records first) (records second) l r)
    pooled_pairs l r =
        fills_pairs i over s runs (pair_fills first second pools) l r
        ∙ ap one
        (contained-pooled (records first) (records second) ((first_free first second pools).numbers Right)
        (pair_second_free first second pools).numbers l r)

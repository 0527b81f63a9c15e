-- One left set: what an input that passed the tests gives it, within the limit and beyond it, and what it adds.
use Prim.Native.Nat.{ℕ, ◌+◌, ◌-◌, ◌*◌, ◌/◌, ◌<◌, ◌≤◌}
use mathlib.Core.Path.{◌≡◌, refl, sym, ap, subst, ◌∙◌}
use mathlib.Core.List.{List, [], ◌∷◌}
use mathlib.Core.Bool.{true, ◌&&◌}
use native.Mathlib.Nat.{mul-le-mul}
use native.Mathlib.Omega.{arith}
use borrow.Author.Tests.{leb-true, lt-ltb}
use lib.Dec.{ltb, leb}
use lib.ListN.{length, take, length-take}
use Rattle.lists.specs.Lists.{all, memb, rising}
use Rattle.lists.proofs.Bools.{and_left}
use Rattle.lists.proofs.Filtering.{memb-keep}
use Rattle.lists.proofs.Throughout.{all_at, all_intro}
use Rattle.sets.specs.Limits.{max_sets, max_set_length, full_words}
use Rattle.sets.specs.Collections.{good_items}
use Rattle.sets.specs.Ordered.{is_permutation}
use Rattle.sets.proofs.Between.{length-sets}
use Rattle.sets.proofs.Good.{good_places, all_good}
use Rattle.sets.proofs.Ordered.{below, items_below}
use Rattle.sets.proofs.Permutation.{permutation_length}
use Rattle.inputs.specs.Input.{Input}
use Rattle.join_spec.specs.Query.{Query}
use Rattle.join_spec.specs.Counting.{is_confirmed, is_dropped, is_false}
use Rattle.join_spec.proofs.Accepted.{Tests}
use Rattle.merge_rows.specs.declared.Met.{Met}
use Rattle.merge_rows.specs.declared.Regions.{Regions}
use Rattle.merge_rows.specs.FirstRanks.{path_of, on_path, PathRoom, PathTaken}
use Rattle.merge_rows.specs.ShortLists.{pairs_with, Listed}
use Rattle.merge_rows.specs.Yields.{Yield, yield_of, candidates_of, MetRoom, Yielded}
use Rattle.merge_rows.specs.Meeting.{PathThere, HintRoom, LeftsThere, Alike}
use Rattle.merge_rows.specs.Merging.{merge_query, MetAfter, MetFits, SetThere, LeftAdded}
use Rattle.merge_rows.proofs.ShortWriting.{listed_none, length_pairs}
use Rattle.merge_rows.proofs.RankCounts.{good_below, good_item}
use Rattle.merge_rows.proofs.YieldLaws.{yield_size, candidates_few}
use Rattle.merge_rows.proofs.LeftOutcomes.{LeftIs, Merges, nothing, left_empty, left_short, left_long, yield_members}
use Rattle.merge_rows.proofs.Totals.{total_few, pairs_few, confirmed_pairs, counters_held}

module _ {i : Input} {limit : ℕ} {ranks : List ℕ} {words : ℕ} (ok : Tests i limit ranks words) where
  pub merges : Merges (merge_query i limit ranks)
  merges =
      record {
        rule = refl;
        some = positive limit ok.settings.limit_above;
        permutation = ok.settings.permutation;
        lefts = all_good i.T i.left.ends i.left.items ok.good.left;
        rights = all_good i.T i.right.ends i.right.items ok.good.right;
      }
    where
      positive : (n : ℕ) → (n ≡ 0 → ⊥) → 0 < n
      positive n h = omega arith

  pub lefts_count : length (merge_query i limit ranks).lefts ≡ length i.left.ends
  lefts_count = length-sets 0 i.left.ends i.left.items

  pub rights_count : length (merge_query i limit ranks).rights ≡ length i.right.ends
  rights_count = length-sets 0 i.right.ends i.right.items

  pub lefts_few : length (merge_query i limit ranks).lefts ≤ max_sets
  lefts_few = omega (arith, lefts_count, good_places i.T i.left.ends i.left.items ok.good.left)

  pub rights_few : length (merge_query i limit ranks).rights ≤ max_sets
  rights_few = omega (arith, rights_count, good_places i.T i.right.ends i.right.items ok.good.right)

  -- the counters after some left sets have room for one more, and fit
  module _ {k : ℕ} {m : Met} (after : MetAfter (merge_query i limit ranks) k m) where
    pub met_room : k < length i.left.ends → MetRoom m (length i.right.ends)
    met_room place =
        let q = merge_query i limit ranks in
        let within : k ≤ length q.lefts = omega (arith, lefts_count) in
        let next : k + 1 ≤ max_sets = omega (arith, lefts_count, lefts_few) in
        let bound : (k + 1) * length q.rights ≤ max_sets * max_sets = mul-le-mul next rights_few in
        record {
          at = omega (arith, rights_count, after.at, pairs_few q k within);
          dropped = omega (arith, rights_count, after.dropped, total_few q k within is_dropped);
          falses = omega (arith, rights_count, after.falses, total_few q k within is_false);
        }

    pub met_confirmed : k < length i.left.ends → m.confirmed + length i.right.ends < full_words
    met_confirmed place =
        let q = merge_query i limit ranks in
        let within : k ≤ length q.lefts = omega (arith, lefts_count) in
        let next : k + 1 ≤ max_sets = omega (arith, lefts_count, lefts_few) in
        let bound : (k + 1) * length q.rights ≤ max_sets * max_sets = mul-le-mul next rights_few in
        omega (arith, rights_count, after.confirmed, total_few q k within is_confirmed)

    pub met_fits : k ≤ length i.left.ends → MetFits m
    met_fits place =
        let q = merge_query i limit ranks in
        let within : k ≤ length q.lefts = omega (arith, lefts_count) in
        let few : k ≤ max_sets = omega (arith, lefts_few) in
        let bound : k * length q.rights ≤ max_sets * max_sets = mul-le-mul few rights_few in
        let pairs =
        confirmed_pairs q ok.settings.permutation (items_below i.T i.right.ends i.right.items ok.good.right)
        (items_below i.T i.left.ends i.left.items ok.good.left) k
        in
        record {
          at = omega (arith, after.at, pairs_few q k within);
          confirmed = omega (arith, after.at, after.confirmed);
          dropped = omega (arith, after.dropped, total_few q k within is_dropped);
          falses = omega (arith, after.falses, total_few q k within is_false);
        }

-- what a left set comes to is added
added : {q : Query} {set : List ℕ} {y : Yield} {sure k : ℕ} {m m' : Met} {was is : List ℕ} → LeftIs q set y sure
    → Listed was m.at (pairs_with k y.places) m'.at is → m'.confirmed ≡ m.confirmed + sure
    → m'.dropped ≡ m.dropped + y.dropped → m'.falses ≡ m.falses + y.falses → LeftAdded q k set m m' was is
added {q} {set} {y} {sure} {k} {m} {m'} {was} {is} left listed confirmed dropped falses =
    record {
      listed = subst (λ (l : List ℕ). Listed was m.at l m'.at is) (sym (left.row k)) listed;
      confirmed = omega (arith, confirmed, left.confirmed);
      dropped = omega (arith, dropped, left.dropped);
      falses = omega (arith, falses, left.falses);
    }

module _ {r : Regions} {i : Input} {limit : ℕ} {ranks w : List ℕ} {k : ℕ} {set path pairs : List ℕ} {m : Met}
    (there : SetThere r i limit ranks w k set path pairs m) where
  abbrev q : Query
  q = merge_query i limit ranks

  place : k < length q.lefts
  place = omega (arith, lefts_count there.over.tests, there.place)

  good : good_items i.T set ≡ true
  good =
      ap (good_items i.T) there.is
      ∙ all_at (good_items i.T) [] q.lefts (merges there.over.tests).lefts k place

  short : length set ≤ max_set_length
  short = leb-true (length set) max_set_length (and_left (leb (length set) max_set_length) (below i.T set && rising set) good)

  -- with a path, and what candidates must hold besides
  along_path : (list more : List ℕ) → 0 < length list → below i.T list ≡ true → below i.T more ≡ true
      → PathThere r i.T i.right w k list more m
  along_path list more some low besides =
      record {
        ground = there.over.ground;
        left = omega (arith, lefts_few there.over.tests, place);
        along = low;
        some = some;
        besides = besides;
        room = met_room there.over.tests there.met there.place;
      }

  pub set_hint : 0 < length set → HintRoom r (length i.left.ends) k set w
  set_hint some =
      record {
        place = there.place;
        few = omega (arith, lefts_few there.over.tests, lefts_count there.over.tests);
        some = some;
        short = short;
        room = there.over.laid.end;
      }

  pub set_lefts : LeftsThere i.left k
  set_lefts = record { T = i.T; good = there.over.tests.good.left; place = there.place }

  -- an earlier left set with the same items came to the same
  alike : {y : Yield} {sure : ℕ} → LeftIs q set y sure → Alike r q.lefts w k m.at set pairs y
  alike {y} {sure} is j before same =
      counters_held there.counters there.met there.listed j before (omega (arith, place))
      (subst (λ (l : List ℕ). LeftIs q l y sure) (sym same) is)

  -- an empty set comes to nothing
  pub empty_added : length set ≡ 0 → LeftAdded q k set m m pairs pairs
  unfolding pairs_with
  empty_added none =
      added (subst (λ (l : List ℕ). LeftIs q l nothing 0) (sym (empty set none)) (left_empty (merges there.over.tests)))
      (listed_none pairs m.at) (omega arith) (omega arith) (omega arith)
    where
      empty : (l : List ℕ) → length l ≡ 0 → l ≡ []
      empty [] e = refl
      empty (x ∷ l) e = absurd (omega arith)

  -- one within the limit is its own path
  module _ (some : 0 < length set) (few : length set ≤ limit) where
    short_is : LeftIs q set (yield_of q.rights set []) 0
    short_is = left_short (merges there.over.tests) set good some few

    pub short_path : PathThere r i.T i.right w k set [] m
    unfolding all
    short_path = along_path set [] some (good_below i.T set good) refl

    pub short_alike : Alike r q.lefts w k m.at set pairs (yield_of q.rights set [])
    short_alike = alike short_is

    pub short_added : {m' : Met} {is : List ℕ} → Yielded k (yield_of q.rights set []) m m' pairs is → LeftAdded q k set m m' pairs is
    short_added yielded =
        added short_is yielded.listed (omega (arith, yielded.confirmed)) yielded.dropped yielded.falses

  -- a longer one has its first ranks as its path, and all of it is asked of the candidates
  module _ (many : limit < length set) where
    pub long_room : PathRoom limit ranks set path
    long_room =
        let ok = there.over.tests in
        let same = permutation_length i.T ranks ok.settings.permutation in
        record {
          ranked =
              record {
                few = omega (arith, ok.settings.few_items);
                permutation = subst (λ (n : ℕ). is_permutation n ranks ≡ true) (sym same) ok.settings.permutation;
                good = subst (λ (n : ℕ). good_items n set ≡ true) (sym same) good;
              };
          some = (merges ok).some;
          longer = many;
          room = omega (arith, short, there.longest);
        }

    module _ {n : ℕ} {taken : List ℕ} (first : PathTaken limit ranks set taken n) where
      same_yield : yield_of q.rights (take n taken) set ≡ yield_of q.rights (path_of limit ranks set) set
      same_yield = yield_members q.rights (take n taken) (path_of limit ranks set) set first.members

      long_is : LeftIs q set (yield_of q.rights (take n taken) set) (length (yield_of q.rights (take n taken) set).places)
      long_is =
          subst (λ (y : Yield). LeftIs q set y (length y.places)) (sym same_yield)
          (left_long (merges there.over.tests) set good many)

      pub long_path : PathThere r i.T i.right w k (take n taken) set m
      unfolding path_of
      long_path =
          along_path (take n taken) set (omega (arith, first.some, first.within, length-take n taken))
          (all_intro (λ x. ltb x i.T) (take n taken)
          (λ x in_path.
          lt-ltb x i.T
          (good_item i.T set good x
          (and_left (memb x set) (on_path limit ranks set x)
          (sym (memb-keep (on_path limit ranks set) set x) ∙ sym (first.members x) ∙ in_path)))))
          (good_below i.T set good)

      pub long_alike : Alike r q.lefts w k m.at set pairs (yield_of q.rights (take n taken) set)
      long_alike = alike long_is

      module _ {met : Met} {is : List ℕ} (yielded : Yielded k (yield_of q.rights (take n taken) set) m met pairs is) where
        grown : met.at ≡ m.at + 2 * length (yield_of q.rights (take n taken) set).places
        grown = omega (arith, yielded.listed.past, length_pairs k (yield_of q.rights (take n taken) set).places)

        pub long_order : m.at ≤ met.at
        long_order = omega (arith, grown)

        pub long_small : met.confirmed + (met.at - m.at) / 2 < full_words
        long_small =
            let ok = there.over.tests in
            let candidates = candidates_of q.rights (take n taken) in
            omega (
              arith,
              grown,
              yielded.confirmed,
              met_confirmed ok there.met there.place,
              yield_size q.rights set candidates,
              candidates_few q.rights (take n taken),
              rights_count ok,
            )

        pub long_added : {m' : Met}
            → m' ≡ record { at = met.at; confirmed = met.confirmed + (met.at - m.at) / 2; dropped = met.dropped; falses = met.falses }
            → LeftAdded q k set m m' pairs is
        long_added {m'} same =
            subst (λ (n : Met). LeftAdded q k set m n pairs is) (sym same)
            (added long_is yielded.listed (omega (arith, grown, yielded.confirmed)) yielded.dropped yielded.falses)

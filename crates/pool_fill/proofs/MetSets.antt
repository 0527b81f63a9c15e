-- The walk over the second file at a right set that the first file has: it is found, its slot tells where it stands, and the union
-- is written there.
use mathlib.Core.Path.{◌≡◌, refl, sym, ap, ap₂, subst, ◌∙◌}
use mathlib.Core.List.{List, [], ◌∷◌, ◌++◌, map, map-append, map-map, append-nil, append_assoc, flatten}
use mathlib.Core.Bool.{true, false, not}
use Prim.Native.Nat.{ℕ, ◌+◌, ◌/◌, ◌%◌, ◌≤◌}
use native.Mathlib.Omega.{arith}
use borrow.Author.Tests.{eq-eqb}
use lib.ListN.{length, get_or}
use lib.Seq as seq
use Rattle.lists.specs.Lists.{keep, slice}
use Rattle.lists.proofs.Bools.{and_both}
use Rattle.bit_sets.specs.BitSets.{member}
use Rattle.sets.specs.Limits.{max_items, half_words}
use Rattle.sets.specs.declared.Side.{Side}
use Rattle.sets.specs.declared.Side.TheVariants.{Left, Right}
use Rattle.tag_file.specs.Format.{tag_at}
use Rattle.tag_file.specs.Reading.{past_tags, tags_at}
use Rattle.tag_file.specs.Records.{TagRecord, records_at, records, same_side, of_side, items_of, sets_of_side}
use Rattle.tag_file.specs.Loading.{number_used, numbers_of}
use Rattle.tag_file.proofs.RecordLaws.{same_side_lem, memb-tags_at}
use Rattle.pool_loader_spec.specs.Pooling.{same_set, pooled}
use Rattle.pool_loader_spec.proofs.OneMore.{used_alike}
use Rattle.tag_index.specs.Index.{table_of}
use Rattle.tag_index.proofs.Ids.{sorted_size}
use Rattle.tag_loader.specs.declared.record_items.Filled.{Filled}
use Rattle.tag_loader.specs.record_items.Marks.{Marked, Unmarked, TagsKnown}
use Rattle.pool_scan.specs.right_slots.Slots.{number_slot, HasSlot}
use Rattle.pool_scan.proofs.right_slots.Counted.{slot_below}
use Rattle.pool_scan.proofs.right_slots.Found.{FoundRight, found_right, met_right}
use Rattle.pool_fill.specs.pooled.Standing.{standing, SomeStanding, PooledAt}
use Rattle.pool_fill.specs.own_sets.Own.{place_word}
use Rattle.pool_fill.specs.Pool.{PoolFillReady}
use Rattle.pool_fill.proofs.Laying.{Block, size, with_part, Laid, laid_at}
use Rattle.pool_fill.proofs.SetPlacing.{SetPlacing, placing_reach}
use Rattle.pool_fill.proofs.SetPlacing.{placing_again}
use Rattle.pool_fill.proofs.Unions.{keep_around, keep_without, part_of, part_alone, part_met}
use Rattle.pool_fill.proofs.Unions.{items_more, met_fits}
use Rattle.pool_fill.proofs.PooledSets.{is_new, united_held, met_held, none_before, none_after}
use Rattle.pool_fill.proofs.FirstWalk.{block_of, start_of}
use Rattle.pool_fill.proofs.SecondWalk.{new_block, blocks_other, SecondWalk, RightHere}
use Rattle.tag_index.specs.declared.TagIndex.{TagIndex}

module _ {first second : List ℕ} {index : TagIndex} {n : ℕ} {ranks used counts slots₀ numbers₁ ends₁ items₁ : List ℕ}
    (ready : PoolFillReady first second index n ranks used counts slots₀ numbers₁ ends₁ items₁)
    {numbers₀ ends₀ items₀ slots numbers ends items marks : List ℕ} {done : Filled} {at : ℕ}
    (w : SecondWalk first second (table_of index n) used numbers₀ ends₀ items₀ slots numbers ends items marks done at)
    {kind : Side} {x c p next : ℕ}
    (h : RightHere second w.seen at c p next (record { side = kind; number = x; tags = tags_at c second p }))
    (there : member used x ≡ true) where
  abbrev table : List ℕ
  table = table_of index n

  abbrev firsts : List TagRecord
  firsts = records first

  abbrev seconds : List TagRecord
  seconds = of_side Right (records second)

  abbrev news : List TagRecord → List TagRecord
  news l = keep (is_new firsts) l

  abbrev blocks : List TagRecord → List Block
  blocks l = map (block_of table seconds l) (of_side Right firsts) ++ map (new_block table) (news l)

  abbrev Placed : List ℕ → List ℕ → List ℕ → Filled → List Block → List TagRecord → Type 0
  Placed numbers' ends' items' r bs l =
      SetPlacing (numbers_of Right (pooled firsts (records second))) (sets_of_side Right table (pooled firsts (records second)))
      numbers₀ ends₀ items₀ numbers' ends' items' r bs
      (map (λ q. q.number) (news l)) (map (λ q. items_of table q.tags) (news l))

  abbrev this : TagRecord
  this = record { side = kind; number = x; tags = tags_at c second p }

  abbrev seen : List TagRecord
  seen = of_side Right w.seen

  abbrev rest : List TagRecord
  rest = of_side Right (records_at second next)

  found : FoundRight firsts x
  found = found_right ready.noted x h.small there

  abbrev r : TagRecord
  r = found.this

  abbrev below : List TagRecord
  below = of_side Right found.before

  abbrev above : List TagRecord
  above = of_side Right found.after

  one_side : r.side ≡ kind
  one_side = sym (same_side_lem Right r.side found.right) ∙ same_side_lem Right kind h.right

  same : same_set r this ≡ true
  same =
      and_both (ap (same_side r.side) (sym one_side) ∙ itself r.side) (eq-eqb r.number x found.number)
    where
      itself : (side : Side) → same_side side side ≡ true
      itself Left = refl
      itself Right = refl

  unseen_r : number_used seen r ≡ false
  unseen_r = used_alike seen r this one_side found.number ∙ h.unseen

  met : is_new firsts this ≡ false
  met = ap not (met_right ready.noted x h.small there this h.right refl)

  left_met : news (of_side Right (records_at second at)) ≡ news rest
  unfolding keep
  left_met = ap news h.left ∙ keep_without (is_new firsts) [] this rest met

  pub met_known : TagsKnown second index n ranks p c
  met_known =
      record {
        sorted = ready.sorted;
        ranked = ready.ranked;
        small = ready.small;
        inside = h.inside;
        known = λ k low. let y = tag_at second (past_tags p k) in
            ready.held y
            (united_held firsts (records second) found.before r found.after found.split y
            (met_held (records second) seen this rest r h.split same y (memb-tags_at c second p k low)));
      }

  pub met_slot : HasSlot used counts slots x
  met_slot =
      record {
        counted = ready.counted;
        within = omega (arith, slot_below used ready.noted x h.small there, w.long);
      }

  -- its place
  apart : of_side Right firsts ≡ below ++ (r ∷ above)
  apart =
      ap (of_side Right) found.split
      ∙ keep_around (λ q. same_side Right q.side) found.before r found.after found.right

  blocks_apart : (l : List TagRecord) → blocks l
      ≡ map (block_of table seconds l) below
      ++ (block_of table seconds l r ∷ (map (block_of table seconds l) above ++ map (new_block table) (news l)))
  blocks_apart l =
      ap (λ (q : List TagRecord). map (block_of table seconds l) q ++ map (new_block table) (news l)) apart
      ∙ ap (λ (q : List Block). q ++ map (new_block table) (news l)) (map-append (block_of table seconds l) below (r ∷ above))
      ∙ append_assoc (map (block_of table seconds l) below) (block_of table seconds l r ∷ map (block_of table seconds l) above)
      (map (new_block table) (news l))

  abbrev bs : List Block
  bs = map (block_of table seconds seen) below

  abbrev cs : List Block
  cs = map (block_of table seconds seen) above ++ map (new_block table) (news seen)

  abbrev old : List ℕ
  old = items_of table r.tags

  abbrev union : List ℕ
  union = items_of table (r.tags ++ tags_at c second p)

  begins : size bs ≡ start_of table seconds found.before
  begins =
      ap (λ (l : List (List ℕ)). length (flatten l)) (map-map (λ (b : Block). b.whole) (block_of table seconds seen) below)

  reach : size bs + length (part_of table seconds r) ≤ length (flatten (sets_of_side Right table (pooled firsts (records second))))
  reach = placing_reach w.placing bs (block_of table seconds seen r) cs (blocks_apart seen)

  alone : part_of table seen r ≡ old
  alone = part_alone table seen r unseen_r

  union_fits : length union ≤ length (part_of table seconds r)
  union_fits =
      omega (
        arith,
        met_fits table seen this rest r same unseen_r,
        ap (λ (l : List TagRecord). length (part_of table l r)) h.split,
      )

  old_fits : length old ≤ length union
  old_fits = items_more table r.tags (tags_at c second p)

  -- what its slot tells
  abbrev word : ℕ
  word = get_or slots (number_slot used x) 0

  told : word ≡ place_word (size bs) (length old)
  told =
      ap (λ (k : ℕ). get_or slots (number_slot used k) 0) (sym found.number)
      ∙ w.words found.before r found.after found.split found.right
      ∙ ap (λ (k : ℕ). place_word k (length old)) (sym begins)

  told_start : word / half_words ≡ size bs
  told_start = omega (arith, told, reach, union_fits, old_fits, ready.few)

  told_own : word % half_words ≡ length old
  told_own = omega (arith, told, reach, union_fits, old_fits, ready.few)

  stands : slice (size bs) (size bs + length old) items ≡ old
  stands =
      let s = laid_at items 0 bs (block_of table seconds seen r) cs
      (subst (λ (l : List Block). Laid items 0 l) (blocks_apart seen) w.placing.laid) in
      let zero : size bs ≡ 0 + size bs = omega arith in
      ap₂ (λ (k m : ℕ). slice k (k + m) items) zero (ap length (sym alone)) ∙ s.here ∙ alone

  standing_here : standing word items ≡ old
  standing_here = ap₂ (λ (k m : ℕ). slice k (k + m) items) told_start told_own ∙ stands

  few : length table ≤ max_items
  few = omega (arith, sorted_size ready.sorted, ready.small)

  pub met_standing : {marks' : List ℕ} → Marked table (tags_at c second p) marks' → SomeStanding marks' word items
  met_standing marked =
      record {
        table = table;
        new = tags_at c second p;
        old = r.tags;
        small = few;
        marked = marked;
        here = standing_here;
        within = omega (arith, told_start, told_own, reach, union_fits, old_fits, w.placing.room, w.placing.same);
        room = omega (arith, told_start, reach, union_fits, w.placing.room, w.placing.same);
      }

  -- the sets with the union in its place
  united : bs ++ (with_part (block_of table seconds seen r) union ∷ cs) ≡ blocks (of_side Right (w.seen ++ (this ∷ [])))
  unfolding keep
  united =
      let next = seen ++ (this ∷ []) in
      ap₂ (λ (a b : List Block). a ++ b)
      (blocks_other table seconds seen below this
      (none_before ready.once found.before r found.after found.split this one_side found.number))
      (ap₂ (λ (q : List ℕ) (l : List Block). record { whole = part_of table seconds r; part = q } ∷ l)
      (sym (part_met table seen this r same unseen_r))
      (ap₂ (λ (a b : List Block). a ++ b)
      (blocks_other table seconds seen above this
      (none_after ready.once found.before r found.after found.split this one_side
      found.number))
      (ap (map (new_block table)) (sym (keep_without (is_new firsts) seen this [] met ∙ append-nil (news seen))))))
      ∙ sym (blocks_apart next) ∙ ap blocks h.then_seen

  pub second_walk_met : {marked-now items' marks' : List ℕ} → Marked table (tags_at c second p) marked-now
      → PooledAt marked-now word items items' → Unmarked marks'
      → SecondWalk first second table used numbers₀ ends₀ items₀ slots numbers ends items' marks' done next
  second_walk_met {marked-now} {items'} {marks'} marked pooledAt none =
      record {
        seen = w.seen ++ (this ∷ []);
        split = h.next_split;
        placing =
            subst (λ (l : List Block). Placed numbers ends items' done l rest) united
            (subst (λ (l : List TagRecord). SetPlacing (numbers_of Right (pooled firsts (records second)))
            (sets_of_side Right table (pooled firsts (records second))) numbers₀ ends₀ items₀ numbers ends items' done
            (bs ++ (with_part (block_of table seconds seen r) union ∷ cs))
            (map (λ q. q.number) l) (map (λ q. items_of table q.tags) l)) left_met
            (placing_again w.placing bs (block_of table seconds seen r) cs union (blocks_apart seen) union_fits
            (pooledAt table (tags_at c second p) r.tags few marked standing_here ∙ ap (λ (k : ℕ). seq.sets items k union) told_start)));
        words = w.words;
        long = w.long;
        unmarked = none;
      }

-- The walk over the second file at a right set that the first file has not: what its writing asks, and the step.
use mathlib.Core.Path.{◌≡◌, refl, sym, ap, ap₂, subst, ◌∙◌}
use mathlib.Core.List.{List, [], ◌∷◌, ◌++◌, map, map-append, append_assoc}
use mathlib.Core.Bool.{false, not}
use Prim.Native.Nat.{ℕ}
use native.Mathlib.Omega.{arith}
use Rattle.lists.specs.Lists.{keep}
use Rattle.bit_sets.specs.BitSets.{member}
use Rattle.sets.specs.declared.Side.{Side}
use Rattle.sets.specs.declared.Side.TheVariants.{Right}
use Rattle.tag_file.specs.Format.{tag_at}
use Rattle.tag_file.specs.Reading.{past_tags, tags_at}
use Rattle.tag_file.specs.Records.{TagRecord, records_at, records, same_side, of_side, items_of, sets_of_side}
use Rattle.tag_file.specs.Loading.{number_used, numbers_of}
use Rattle.pool_loader_spec.specs.Pooling.{pooled}
use Rattle.pool_loader_spec.proofs.OneMore.{used_keep}
use Rattle.tag_index.specs.Index.{table_of}
use Rattle.tag_loader.specs.declared.record_items.Filled.{Filled}
use Rattle.tag_loader.specs.record_items.Marks.{Unmarked, TagsKnown, RoomForOne, OneFilled}
use Rattle.tag_file.proofs.RecordLaws.{memb-tags_at}
use Rattle.pool_scan.proofs.right_slots.Found.{missed_right}
use Rattle.pool_fill.specs.Pool.{PoolFillReady}
use Rattle.pool_fill.proofs.Laying.{Block}
use Rattle.pool_fill.proofs.SetPlacing.{SetPlacing, placing_bound, placing_room}
use Rattle.pool_fill.proofs.SetPlacing.{placing_number, placing_end}
use Rattle.pool_fill.proofs.SetPlacing.{placing_next}
use Rattle.pool_fill.proofs.Unions.{keep_around}
use Rattle.pool_fill.proofs.PooledSets.{is_new, new_held}
use Rattle.pool_fill.proofs.FirstWalk.{block_of}
use Rattle.pool_fill.proofs.SecondWalk.{new_block, blocks_other, SecondWalk, RightHere}
use Rattle.tag_index.specs.declared.TagIndex.{TagIndex}

module _ {first second : List ℕ} {index : TagIndex} {n : ℕ} {ranks used counts slots₀ numbers₁ ends₁ items₁ : List ℕ}
    (ready : PoolFillReady first second index n ranks used counts slots₀ numbers₁ ends₁ items₁)
    {numbers₀ ends₀ items₀ slots numbers ends items marks : List ℕ} {done : Filled} {at : ℕ}
    (w : SecondWalk first second (table_of index n) used numbers₀ ends₀ items₀ slots numbers ends items marks done at)
    {kind : Side} {x c p next : ℕ}
    (h : RightHere second w.seen at c p next (record { side = kind; number = x; tags = tags_at c second p }))
    (out : member used x ≡ false) where
  abbrev table : List ℕ
  table = table_of index n

  abbrev firsts : List TagRecord
  firsts = records first

  abbrev seconds : List TagRecord
  seconds = of_side Right (records second)

  abbrev news : List TagRecord → List TagRecord
  news l = keep (is_new firsts) l

  abbrev blocks : List TagRecord → List Block
  blocks l = map (block_of table seconds l) (of_side Right firsts) ++ map (new_block table) (news l)

  abbrev Placed : List ℕ → List ℕ → List ℕ → Filled → List Block → List TagRecord → Type 0
  Placed numbers' ends' items' r bs l =
      SetPlacing (numbers_of Right (pooled firsts (records second))) (sets_of_side Right table (pooled firsts (records second)))
      numbers₀ ends₀ items₀ numbers' ends' items' r bs
      (map (λ q. q.number) (news l)) (map (λ q. items_of table q.tags) (news l))

  abbrev this : TagRecord
  this = record { side = kind; number = x; tags = tags_at c second p }

  abbrev seen : List TagRecord
  seen = of_side Right w.seen

  abbrev rest : List TagRecord
  rest = of_side Right (records_at second next)

  abbrev own : List ℕ
  own = items_of table (tags_at c second p)

  missed : number_used firsts this ≡ false
  missed = missed_right ready.noted x h.small out this h.right refl

  left_new : news (of_side Right (records_at second at)) ≡ this ∷ news rest
  unfolding keep
  left_new = ap news h.left ∙ keep_around (is_new firsts) [] this rest (ap not missed)

  left_numbers_lem : map (λ q. q.number) (news (of_side Right (records_at second at)))
      ≡ x ∷ map (λ q. q.number) (news rest)
  left_numbers_lem = ap (map (λ (q : TagRecord). q.number)) left_new

  abbrev later : List (List ℕ)
  later = map (λ (q : TagRecord). items_of table q.tags) (news rest)

  left_sets : map (λ q. items_of table q.tags) (news (of_side Right (records_at second at))) ≡ own ∷ later
  left_sets = ap (map (λ (q : TagRecord). items_of table q.tags)) left_new

  pub new_known : TagsKnown second index n ranks p c
  new_known =
      record {
        sorted = ready.sorted;
        ranked = ready.ranked;
        small = ready.small;
        inside = h.inside;
        known = λ k low. let y = tag_at second (past_tags p k) in
            ready.held y
            (new_held firsts (records second) seen this rest h.split (ap not missed) y (memb-tags_at c second p k low));
      }

  pub new_room : RoomForOne done.sets done.entries own numbers ends items
  new_room =
      record {
        for_number =
            omega (arith, placing_number w.placing x (map (λ q. q.number) (news rest)) left_numbers_lem);
        for_end = omega (arith, placing_end w.placing own later left_sets);
        for_items = placing_room w.placing own later left_sets;
        few = omega (arith, placing_bound w.placing own later left_sets, ready.few);
      }

  -- the sets seen, with this
  grown : blocks seen ++ (new_block table this ∷ []) ≡ blocks (of_side Right (w.seen ++ (this ∷ [])))
  unfolding keep
  grown =
      append_assoc (map (block_of table seconds seen) (of_side Right firsts)) (map (new_block table) (news seen))
      (new_block table this ∷ [])
      ∙ ap₂ (λ (a b : List Block). a ++ b)
      (blocks_other table seconds seen (of_side Right firsts) this (used_keep (λ q. same_side Right q.side) firsts this missed))
      (sym (map-append (new_block table) (news seen) (this ∷ []))
      ∙ ap (map (new_block table)) (sym (keep_around (is_new firsts) seen this [] (ap not missed))))
      ∙ ap blocks h.then_seen

  pub second_walk_new : {r : Filled} {numbers' ends' items' marks' : List ℕ}
      → OneFilled done.sets done.entries x own numbers ends items r numbers' ends' items' → Unmarked marks'
      → SecondWalk first second table used numbers₀ ends₀ items₀ slots numbers' ends' items' marks' r next
  second_walk_new {r} {numbers'} {ends'} {items'} {marks'} o none =
      record {
        seen = w.seen ++ (this ∷ []);
        split = h.next_split;
        placing =
            subst (λ (l : List Block). Placed numbers' ends' items' r l rest) grown
            (placing_next w.placing x (map (λ q. q.number) (news rest)) (new_block table this) later
            left_numbers_lem left_sets (omega arith) o.put_number o.put_end o.put_items.written
            o.put_items.past);
        words = w.words;
        long = w.long;
        unmarked = none;
      }

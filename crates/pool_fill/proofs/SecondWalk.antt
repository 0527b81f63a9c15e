-- The walk over the second file: its invariant, with its start, its step over a left set, and its end. Each right set of the first
-- file stands with what the records seen add to it, and behind them stand the sets seen that the first file has not.
use mathlib.Core.Path.{◌≡◌, refl, sym, ap, ap₂, subst, ◌∙◌}
use mathlib.Core.List.{List, [], ◌∷◌, ◌++◌, map, map-append, append-nil, append_assoc, flatten}
use mathlib.Core.Bool.{Bool, true, false, cond}
use Prim.Native.Nat.{ℕ, ◌<◌, ◌≤◌}
use native.Mathlib.Omega.{arith}
use borrow.Author.Tests.{lt-ltb}
use lib.ListN.{length, get_or, length-append}
use Rattle.lists.specs.Lists.{keep, any}
use Rattle.lists.proofs.Bools.{or_left_false, or_right_false}
use Rattle.sets.specs.Limits.{max_sets, half_words}
use Rattle.sets.specs.Lent.{filled_over}
use Rattle.sets.specs.declared.Side.{Side}
use Rattle.sets.specs.declared.Side.TheVariants.{Right}
use Rattle.tag_file.specs.Reading.{read_at, past_tags, tags_at}
use Rattle.tag_file.specs.Records.{TagRecord, records_at, records, same_side, of_side, items_of, sets_of_side}
use Rattle.tag_file.specs.Loading.{number_used, numbers_of, ends_from}
use Rattle.tag_file.specs.declared.ReadAnswer.TheVariants.{Record}
use Rattle.tag_file.proofs.FaultFree.{side_own, side_other}
use Rattle.tag_file.proofs.RecordLaws.{read_past, read_within, read_number, records_next}
use Rattle.pool_loader_spec.specs.Pooling.{same_set, pooled}
use Rattle.tag_index.specs.Index.{table_of}
use Rattle.tag_loader.specs.declared.record_items.Filled.{Filled}
use Rattle.tag_loader.specs.record_items.Marks.{Unmarked}
use Rattle.pool_scan.specs.right_slots.Slots.{number_slot, AtSlots}
use Rattle.pool_fill.specs.own_sets.Own.{place_word}
use Rattle.pool_fill.specs.Pool.{PoolFillReady}
use Rattle.pool_fill.proofs.Laying.{Block, wholes, parts}
use Rattle.pool_fill.proofs.SetPlacing.{SetPlacing}
use Rattle.pool_fill.proofs.SetPlacing.{placed_numbers, placed_ends, placed_items}
use Rattle.pool_fill.proofs.Unions.{keep_around, keep_without, part_of, part_other}
use Rattle.pool_fill.proofs.PooledSets.{is_new}
use Rattle.pool_fill.proofs.FirstWalk.{block_of, start_of, FirstWalk}
use Rattle.tag_index.specs.declared.TagIndex.{TagIndex}

-- a set that the first file has not
abbrev pub new_block : List ℕ → TagRecord → Block
new_block table s = record { whole = items_of table s.tags; part = items_of table s.tags }

-- where each right set of the first file stands, and how many items it has by itself
abbrev pub stand_word : List ℕ → List TagRecord → List TagRecord → TagRecord → ℕ
stand_word table all before r = place_word (start_of table all before) (length (items_of table r.tags))

-- the sets of the first file after one more record of the second
pub blocks_other : (table : List ℕ) (all seen rs : List TagRecord) (s : TagRecord) → number_used rs s ≡ false
    → map (block_of table all seen) rs ≡ map (block_of table all (seen ++ (s ∷ []))) rs
unfolding any
blocks_other table all seen [] s h = refl
blocks_other table all seen (r ∷ rs) s h =
    ap₂ (λ (q : List ℕ) (l : List Block). record { whole = part_of table all r; part = q } ∷ l)
    (sym (part_other table seen s r (or_left_false (same_set r s) (number_used rs s) h)))
    (blocks_other table all seen rs s (or_right_false (same_set r s) (number_used rs s) h))

pub record SecondWalk (first second table used numbers₀ ends₀ items₀ slots numbers ends items marks : List ℕ) (done : Filled)
    (at : ℕ) : Type 0 where
  pub seen : List TagRecord
  pub split : records second ≡ seen ++ records_at second at
  pub placing : SetPlacing (numbers_of Right (pooled (records first) (records second)))
      (sets_of_side Right table (pooled (records first) (records second)))
      numbers₀ ends₀ items₀ numbers ends items done
      (map (block_of table (of_side Right (records second)) (of_side Right seen)) (of_side Right (records first))
      ++ map (new_block table) (keep (is_new (records first)) (of_side Right seen)))
      (map (λ r. r.number) (keep (is_new (records first)) (of_side Right (records_at second at))))
      (map (λ r. items_of table r.tags) (keep (is_new (records first)) (of_side Right (records_at second at))))
  pub words : AtSlots (stand_word table (of_side Right (records second))) (records first) used slots
  pub long : length slots ≡ max_sets
  pub unmarked : Unmarked marks

-- what is known at a right set of the second file, whose c tags begin at p, after the records seen
pub record RightHere (second : List ℕ) (seen : List TagRecord) (at c p next : ℕ) (this : TagRecord) : Type 0 where
  pub right : same_side Right this.side ≡ true
  pub small : this.number < half_words
  pub split : of_side Right (records second) ≡ of_side Right seen ++ (this ∷ of_side Right (records_at second next))
  pub left : of_side Right (records_at second at) ≡ this ∷ of_side Right (records_at second next)
  pub then_seen : of_side Right seen ++ (this ∷ []) ≡ of_side Right (seen ++ (this ∷ []))
  pub unseen : number_used (of_side Right seen) this ≡ false
  pub next_split : records second ≡ (seen ++ (this ∷ [])) ++ records_at second next
  pub inside : past_tags p c ≤ length second

-- where the first file ends
module _ {first second table used slots₀ numbers₀ ends₀ items₀ slots numbers ends items marks : List ℕ} {done : Filled} {at : ℕ}
    (w : FirstWalk first second table used slots₀ numbers₀ ends₀ items₀ slots numbers ends items marks done at) where
  pub second_walk_start : records_at first at ≡ []
      → SecondWalk first second table used numbers₀ ends₀ items₀ slots numbers ends items marks done 0
  unfolding keep
  second_walk_start stop =
      let whole : w.passed ≡ records first =
      sym (append-nil w.passed) ∙ ap (λ (l : List TagRecord). w.passed ++ l) (sym stop) ∙ sym w.split in
      let seconds = of_side Right (records second) in
      record {
        seen = [];
        split = refl;
        placing =
            subst (λ (l : List Block). SetPlacing (numbers_of Right (pooled (records first) (records second)))
            (sets_of_side Right table (pooled (records first) (records second)))
            numbers₀ ends₀ items₀ numbers ends items done l
            (map (λ r. r.number) (keep (is_new (records first)) seconds))
            (map (λ r. items_of table r.tags) (keep (is_new (records first)) seconds)))
            (ap (λ (l : List TagRecord). map (block_of table seconds []) (of_side Right l)) whole
            ∙ sym (append-nil (map (block_of table seconds []) (of_side Right (records first)))))
            (subst (λ (l : List TagRecord). SetPlacing (numbers_of Right (pooled (records first) (records second)))
            (sets_of_side Right table (pooled (records first) (records second)))
            numbers₀ ends₀ items₀ numbers ends items done (map (block_of table seconds []) (of_side Right w.passed))
            (map (λ r. r.number) (of_side Right l) ++ map (λ r. r.number) (keep (is_new (records first)) seconds))
            (map (part_of table seconds) (of_side Right l)
            ++ map (λ r. items_of table r.tags) (keep (is_new (records first)) seconds))) stop w.placing);
        words = λ b s a e right.
            w.words b s a e right
            ∙ ap (λ (c : Bool). cond c (stand_word table seconds b s) (get_or slots₀ (number_slot used s.number) 0))
            (lt-ltb (length b) (length w.passed) (omega (arith, ap length whole, ap length e, length-append b (s ∷ a))));
        long = w.long;
        unmarked = w.unmarked;
      }

module _ {first second : List ℕ} {index : TagIndex} {n : ℕ} {ranks used counts slots₀ numbers₁ ends₁ items₁ : List ℕ}
    (ready : PoolFillReady first second index n ranks used counts slots₀ numbers₁ ends₁ items₁) where
  abbrev table : List ℕ
  table = table_of index n

  abbrev firsts : List TagRecord
  firsts = records first

  abbrev seconds : List TagRecord
  seconds = of_side Right (records second)

  abbrev news : List TagRecord → List TagRecord
  news l = keep (is_new firsts) l

  abbrev blocks : List TagRecord → List Block
  blocks l = map (block_of table seconds l) (of_side Right firsts) ++ map (new_block table) (news l)

  module _ {numbers₀ ends₀ items₀ slots numbers ends items marks : List ℕ} {done : Filled} {at : ℕ}
      (w : SecondWalk first second table used numbers₀ ends₀ items₀ slots numbers ends items marks done at) where
    abbrev Placed : List ℕ → List ℕ → List ℕ → Filled → List Block → List TagRecord → Type 0
    Placed numbers' ends' items' r bs l =
        SetPlacing (numbers_of Right (pooled firsts (records second))) (sets_of_side Right table (pooled firsts (records second)))
        numbers₀ ends₀ items₀ numbers' ends' items' r bs
        (map (λ q. q.number) (news l)) (map (λ q. items_of table q.tags) (news l))

    -- ---- the end

    module _ (stop : records_at second at ≡ []) where
      none_left : news (of_side Right (records_at second at)) ≡ []
      unfolding keep
      none_left = ap (λ (l : List TagRecord). news (of_side Right l)) stop

      all_seen : of_side Right w.seen ≡ seconds
      all_seen =
          ap (of_side Right)
          (sym (append-nil w.seen) ∙ ap (λ (l : List TagRecord). w.seen ++ l) (sym stop) ∙ sym w.split)

      full : parts (blocks (of_side Right w.seen)) ≡ wholes (blocks (of_side Right w.seen))
      full =
          ap (λ (l : List TagRecord). parts (blocks l)) all_seen ∙ same
          ∙ sym (ap (λ (l : List TagRecord). wholes (blocks l)) all_seen)
        where
          met : (rs : List TagRecord)
              → map (λ (b : Block). b.part) (map (block_of table seconds seconds) rs)
              ≡ map (λ (b : Block). b.whole) (map (block_of table seconds seconds) rs)
          met [] = refl
          met (r ∷ rs) = ap (λ (l : List (List ℕ)). part_of table seconds r ∷ l) (met rs)

          new : (rs : List TagRecord)
              → map (λ (b : Block). b.part) (map (new_block table) rs) ≡ map (λ (b : Block). b.whole) (map (new_block table) rs)
          new [] = refl
          new (r ∷ rs) = ap (λ (l : List (List ℕ)). items_of table r.tags ∷ l) (new rs)

          same : parts (blocks seconds) ≡ wholes (blocks seconds)
          same =
              map-append (λ (b : Block). b.part) (map (block_of table seconds seconds) (of_side Right firsts))
              (map (new_block table) (news seconds))
              ∙ ap₂ (λ (a b : List (List ℕ)). a ++ b) (met (of_side Right firsts)) (new (news seconds))
              ∙ sym (map-append (λ (b : Block). b.whole) (map (block_of table seconds seconds) (of_side Right firsts))
              (map (new_block table) (news seconds)))

      no_numbers : map (λ q. q.number) (news (of_side Right (records_at second at))) ≡ []
      no_numbers = ap (map (λ (q : TagRecord). q.number)) none_left

      no_sets : map (λ q. items_of table q.tags) (news (of_side Right (records_at second at))) ≡ []
      no_sets = ap (map (λ (q : TagRecord). items_of table q.tags)) none_left

      pub walked_numbers : numbers ≡ filled_over (numbers_of Right (pooled firsts (records second))) numbers₀
      walked_numbers = placed_numbers w.placing no_numbers no_sets full

      pub walked_ends : ends ≡ filled_over (ends_from 0 (sets_of_side Right table (pooled firsts (records second)))) ends₀
      walked_ends = placed_ends w.placing no_numbers no_sets full

      pub walked_items : items ≡ filled_over (flatten (sets_of_side Right table (pooled firsts (records second)))) items₀
      walked_items = placed_items w.placing no_numbers no_sets full

    -- ---- a record

    module _ {kind : Side} {x c p next : ℕ} (e : read_at second at ≡ Record kind x c p next) where
      abbrev this : TagRecord
      this = record { side = kind; number = x; tags = tags_at c second p }

      abbrev rest : List TagRecord
      rest = records_at second next

      opened : records_at second at ≡ this ∷ rest
      opened = records_next second at kind x c p next e

      here : records second ≡ w.seen ++ (this ∷ rest)
      here = w.split ∙ ap (λ (l : List TagRecord). w.seen ++ l) opened

      here_next : records second ≡ (w.seen ++ (this ∷ [])) ++ rest
      here_next = here ∙ sym (append_assoc w.seen (this ∷ []) rest)

      -- a left set is passed over
      pub second_walk_skip : same_side Right kind ≡ false
          → SecondWalk first second table used numbers₀ ends₀ items₀ slots numbers ends items marks done next
      unfolding keep
      second_walk_skip left =
          let gone : of_side Right (records_at second at) ≡ of_side Right rest =
          ap (of_side Right) opened ∙ keep_without (λ r. same_side Right r.side) [] this rest left in
          let kept : of_side Right w.seen ≡ of_side Right (w.seen ++ (this ∷ [])) =
          sym (side_other Right w.seen this left) in
          record {
            seen = w.seen ++ (this ∷ []);
            split = here_next;
            placing =
                subst (λ (l : List TagRecord). Placed numbers ends items done (blocks l) (of_side Right rest)) kept
                (subst (λ (l : List TagRecord). Placed numbers ends items done (blocks (of_side Right w.seen)) l) gone
                w.placing);
            words = w.words;
            long = w.long;
            unmarked = w.unmarked;
          }

      -- at a right set
      pub right_here : same_side Right kind ≡ true → ((i : ℕ) → get_or second i 0 < 256)
          → RightHere second w.seen at c p next this
      unfolding keep
      right_here right byte =
          let apart = ap (of_side Right) here ∙ keep_around (λ r. same_side Right r.side) w.seen this rest right in
          record {
            right = right;
            small = read_number second at e byte;
            split = apart;
            left = ap (of_side Right) opened ∙ keep_around (λ r. same_side Right r.side) [] this rest right;
            then_seen = sym (side_own Right w.seen this right);
            unseen = ready.once_second (of_side Right w.seen) this (of_side Right rest) apart;
            next_split = here_next;
            inside = omega (arith, read_past second at e, read_within second at e);
          }

-- The walk over the first file: its invariant, with its start, and its step over a left set. The right sets that were passed are
-- written with room for their unions, and their slots tell where they stand; the slots of the others are as before.
use mathlib.Core.Path.{◌≡◌, refl, sym, ap, subst, ◌∙◌}
use mathlib.Core.List.{List, [], ◌∷◌, ◌++◌, map, append_assoc, flatten}
use mathlib.Core.Bool.{Bool, false, cond}
use Prim.Native.Nat.{ℕ, ◌+◌}
use native.Mathlib.Omega.{arith}
use borrow.Author.Tests.{lt-ltb, le-ltb}
use lib.Dec.{ltb}
use lib.ListN.{length, get_or, length-append, replicate}
use Rattle.lists.specs.Lists.{keep}
use Rattle.lists.proofs.Bools.{true-false}
use Rattle.sets.specs.Limits.{max_sets}
use Rattle.sets.specs.declared.Side.{Side}
use Rattle.sets.specs.declared.Side.TheVariants.{Right}
use Rattle.tag_file.specs.Reading.{read_at, tags_at}
use Rattle.tag_file.specs.Records.{TagRecord, records_at, records, same_side, of_side, items_of, sets_of_side}
use Rattle.tag_file.specs.Loading.{numbers_of}
use Rattle.tag_file.specs.declared.ReadAnswer.TheVariants.{Record}
use Rattle.tag_file.proofs.FaultFree.{side_other}
use Rattle.tag_file.proofs.RecordLaws.{records_next}
use Rattle.pool_loader_spec.specs.Pooling.{pooled}
use Rattle.pool_loader_spec.proofs.Sides.{numbers_pooled}
use Rattle.tag_index.specs.Index.{table_of}
use Rattle.tag_loader.specs.declared.record_items.Filled.{Filled}
use Rattle.tag_loader.specs.record_items.Marks.{mark_words, Unmarked}
use Rattle.tag_loader.proofs.record_items.Marks.{unmarked_zeros}
use Rattle.pool_scan.specs.right_slots.Slots.{number_slot, AtSlots}
use Rattle.pool_scan.proofs.right_slots.Splits.{two_splits}
use Rattle.pool_fill.specs.own_sets.Own.{place_word}
use Rattle.pool_fill.specs.Pool.{PoolFillReady}
use Rattle.pool_fill.proofs.Laying.{Block}
use Rattle.pool_fill.proofs.SetPlacing.{SetPlacing, placing_start}
use Rattle.pool_fill.proofs.Unions.{keep_without, part_of}
use Rattle.pool_fill.proofs.PooledSets.{is_new, pooled-sets}
use Rattle.tag_index.specs.declared.TagIndex.{TagIndex}

-- a set of the first file, after some records of the second
abbrev pub block_of : List ℕ → List TagRecord → List TagRecord → TagRecord → Block
block_of table all seen r = record { whole = part_of table all r; part = part_of table seen r }

-- where the right sets after some records begin
abbrev pub start_of : List ℕ → List TagRecord → List TagRecord → ℕ
start_of table all before = length (flatten (map (part_of table all) (of_side Right before)))

-- the word of a slot when k records were passed
abbrev pub walk_word : List ℕ → List TagRecord → List ℕ → List ℕ → ℕ → List TagRecord → TagRecord → ℕ
walk_word table all used slots k before r =
    cond (ltb (length before) k) (place_word (start_of table all before) (length (items_of table r.tags)))
    (get_or slots (number_slot used r.number) 0)

-- passing a record changes no other's
pub walk_same : (table : List ℕ) (all : List TagRecord) (used slots : List ℕ) (xs passed : List TagRecord) (r : TagRecord)
    (rest : List TagRecord) → xs ≡ passed ++ (r ∷ rest)
    → (b : List TagRecord) (s : TagRecord) (a : List TagRecord) → xs ≡ b ++ (s ∷ a) → (s ≡ r → ⊥)
    → walk_word table all used slots (length (passed ++ (r ∷ []))) b s ≡ walk_word table all used slots (length passed) b s
walk_same table all used slots xs passed r rest e b s a f never =
    two_splits passed r rest b s a (sym e ∙ f)
    (λ p q t. absurd (never (sym q)))
    (λ mid p. alike
    (lt-ltb (length b) (length (passed ++ (r ∷ []))) (omega (arith, more, ap length p, length-append b (s ∷ mid)))
    ∙ sym (lt-ltb (length b) (length passed) (omega (arith, ap length p, length-append b (s ∷ mid))))))
    (λ mid p. alike
    (le-ltb (length b) (length (passed ++ (r ∷ []))) (omega (arith, more, ap length p, length-append passed (r ∷ mid)))
    ∙ sym (le-ltb (length b) (length passed) (omega (arith, ap length p, length-append passed (r ∷ mid))))))
  where
    more : length (passed ++ (r ∷ [])) ≡ length passed + 1
    more = length-append passed (r ∷ [])

    alike : ltb (length b) (length (passed ++ (r ∷ []))) ≡ ltb (length b) (length passed)
        → walk_word table all used slots (length (passed ++ (r ∷ []))) b s ≡ walk_word table all used slots (length passed) b s
    alike same =
        ap (λ (c : Bool). cond c (place_word (start_of table all b) (length (items_of table s.tags)))
        (get_or slots (number_slot used s.number) 0)) same

pub record FirstWalk (first second table used slots₀ numbers₀ ends₀ items₀ slots numbers ends items marks : List ℕ) (done : Filled)
    (at : ℕ) : Type 0 where
  pub passed : List TagRecord
  pub split : records first ≡ passed ++ records_at first at
  pub placing : SetPlacing (numbers_of Right (pooled (records first) (records second)))
      (sets_of_side Right table (pooled (records first) (records second)))
      numbers₀ ends₀ items₀ numbers ends items done
      (map (block_of table (of_side Right (records second)) []) (of_side Right passed))
      (map (λ r. r.number) (of_side Right (records_at first at))
      ++ map (λ r. r.number) (keep (is_new (records first)) (of_side Right (records second))))
      (map (part_of table (of_side Right (records second))) (of_side Right (records_at first at))
      ++ map (λ r. items_of table r.tags) (keep (is_new (records first)) (of_side Right (records second))))
  pub words : AtSlots (walk_word table (of_side Right (records second)) used slots₀ (length passed)) (records first) used slots
  pub long : length slots ≡ max_sets
  pub unmarked : Unmarked marks

module _ {first second : List ℕ} {index : TagIndex} {n : ℕ} {ranks used counts slots₀ numbers₀ ends₀ items₀ : List ℕ}
    (ready : PoolFillReady first second index n ranks used counts slots₀ numbers₀ ends₀ items₀) where
  abbrev table : List ℕ
  table = table_of index n

  abbrev firsts : List TagRecord
  firsts = records first

  abbrev seconds : List TagRecord
  seconds = of_side Right (records second)

  abbrev new_numbers : List ℕ
  new_numbers = map (λ (r : TagRecord). r.number) (keep (is_new firsts) seconds)

  abbrev new_sets : List (List ℕ)
  new_sets = map (λ (r : TagRecord). items_of table r.tags) (keep (is_new firsts) seconds)

  pub first_walk_start : FirstWalk first second table used slots₀ numbers₀ ends₀ items₀ slots₀ numbers₀ ends₀ items₀
      (replicate mark_words 0) (record { sets = 0; entries = 0 }) 0
  unfolding keep
  first_walk_start =
      record {
        passed = [];
        split = refl;
        placing =
            subst (λ (l : List (List ℕ)). SetPlacing (numbers_of Right (pooled firsts (records second)))
            (sets_of_side Right table (pooled firsts (records second))) numbers₀ ends₀ items₀ numbers₀ ends₀ items₀
            (record { sets = 0; entries = 0 }) [] (map (λ r. r.number) (of_side Right firsts) ++ new_numbers) l)
            (pooled-sets firsts (records second) table)
            (subst (λ (l : List ℕ). SetPlacing (numbers_of Right (pooled firsts (records second)))
            (sets_of_side Right table (pooled firsts (records second))) numbers₀ ends₀ items₀ numbers₀ ends₀ items₀
            (record { sets = 0; entries = 0 }) [] l (sets_of_side Right table (pooled firsts (records second))))
            (numbers_pooled firsts (records second))
            (placing_start (numbers_of Right (pooled firsts (records second)))
            (sets_of_side Right table (pooled firsts (records second)))
            numbers₀ ends₀ items₀ ready.for_numbers ready.for_ends ready.for_items));
        words = λ b s a e right.
            sym (ap (λ (c : Bool). cond c (place_word (start_of table seconds b) (length (items_of table s.tags)))
            (get_or slots₀ (number_slot used s.number) 0)) (le-ltb (length b) 0 (omega arith)));
        long = ready.size;
        unmarked = unmarked_zeros mark_words refl;
      }

  module _ {slots numbers ends items marks : List ℕ} {done : Filled} {at : ℕ}
      (w : FirstWalk first second table used slots₀ numbers₀ ends₀ items₀ slots numbers ends items marks done at)
      {kind : Side} {x c p next : ℕ} (e : read_at first at ≡ Record kind x c p next) where
    abbrev this : TagRecord
    this = record { side = kind; number = x; tags = tags_at c first p }

    abbrev rest : List TagRecord
    rest = records_at first next

    opened : records_at first at ≡ this ∷ rest
    opened = records_next first at kind x c p next e

    here : firsts ≡ w.passed ++ (this ∷ rest)
    here = w.split ∙ ap (λ (l : List TagRecord). w.passed ++ l) opened

    here_next : firsts ≡ (w.passed ++ (this ∷ [])) ++ rest
    here_next = here ∙ sym (append_assoc w.passed (this ∷ []) rest)

    -- ---- a left set is passed over

    pub first_walk_skip : same_side Right kind ≡ false
        → FirstWalk first second table used slots₀ numbers₀ ends₀ items₀ slots numbers ends items marks done next
    unfolding keep
    first_walk_skip left =
        let gone : of_side Right (records_at first at) ≡ of_side Right rest =
        ap (of_side Right) opened ∙ keep_without (λ r. same_side Right r.side) [] this rest left in
        let kept : of_side Right w.passed ≡ of_side Right (w.passed ++ (this ∷ [])) =
        sym (side_other Right w.passed this left) in
        record {
          passed = w.passed ++ (this ∷ []);
          split = here_next;
          placing =
              subst (λ (l : List TagRecord). SetPlacing (numbers_of Right (pooled firsts (records second)))
              (sets_of_side Right table (pooled firsts (records second))) numbers₀ ends₀ items₀ numbers ends items done
              (map (block_of table seconds []) l) (map (λ r. r.number) (of_side Right rest) ++ new_numbers)
              (map (part_of table seconds) (of_side Right rest) ++ new_sets)) kept
              (subst (λ (l : List TagRecord). SetPlacing (numbers_of Right (pooled firsts (records second)))
              (sets_of_side Right table (pooled firsts (records second))) numbers₀ ends₀ items₀ numbers ends items done
              (map (block_of table seconds []) (of_side Right w.passed)) (map (λ r. r.number) l ++ new_numbers)
              (map (part_of table seconds) l ++ new_sets)) gone w.placing);
          words = λ b s a f right.
              w.words b s a f right
              ∙ sym (walk_same table seconds used slots₀ firsts w.passed this rest here b s a f
              (λ same. true-false (ap (λ (r : TagRecord). same_side Right r.side) (sym same) ∙ right) left));
          long = w.long;
          unmarked = w.unmarked;
        }

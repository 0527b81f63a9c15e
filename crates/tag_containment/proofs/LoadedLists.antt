-- What lists hold that records filled: each set is the items of the record at its place, each number that record's, and the tag
-- table rises as bytes. Then of a load that is accepted, by what its contract says of a call, with the counts, the repeats, and no
-- number twice on a side.
use mathlib.Core.Path.{◌≡◌, refl, sym, ap, ◌∙◌}
use Prim.Native.Nat.{ℕ, ◌+◌, ◌<◌}
use mathlib.Core.List.{List, [], ◌∷◌, ◌++◌, append_assoc, flatten}
use mathlib.Core.Bool.{true}
use native.Mathlib.Omega.{arith}
use lib.ListN.{length, get_or, take, drop, length-append, take-append-drop}
use lib.Seq.{get_or-take, take-take}
use Rattle.std.specs.Prelude.{Ok}
use Rattle.lists.specs.Lists.{distinct}
use Rattle.lists.proofs.Mapping.{map_at}
use Rattle.sets.specs.Collections.{sets_from, sets_of}
use Rattle.sets.specs.declared.Side.{Side}
use Rattle.sets.specs.declared.Side.TheVariants.{Left, Right}
use Rattle.inputs.specs.Input.{Input, input_of, left_sets, right_sets}
use Rattle.tag_file.specs.declared.Loaded.{Loaded}
use Rattle.tag_file.specs.declared.Repeats.{Repeats}
use Rattle.tag_file.specs.Records.{TagRecord, records, of_side, all_tags, tag_table, sets_of_side}
use Rattle.tag_file.specs.Repeats.{repeat_totals}
use Rattle.tag_file.specs.Loading.{Lists, numbers_of, ends_from, filled, totals_of, load_answer, LoadCall}
use Rattle.tag_file.proofs.AnswerLaws.{LoadAccepted, accepted, call_lists}
use Rattle.tag_file.proofs.FaultFree.{file_free}
use Rattle.tag_file.proofs.Tables.{rising-collapse}
use Rattle.tag_round_trip.specs.Trips.{parts_of, Fills}
use Rattle.tag_round_trip.proofs.Accepted.{lists_fill}
use Rattle.tag_round_trip.proofs.Decoding.{between_joined}
use Rattle.tag_round_trip.proofs.FileRecords.{table_fit, file_fit}
use Rattle.tag_round_trip.proofs.Printing.{records_fit}
use Rattle.tag_containment.proofs.ByteOrder.{bytes_below, tag_in, table_order}
use Rattle.tag_containment.proofs.ItemTags.{no_record, record_of}

-- an input made of loaded lists with these counts: the ends are those that were filled, and the items begin with those that were
-- filled; items past them do not count
pub record OverLoaded (loaded : Loaded) (got : Lists) (i : Input) : Type 0 where
  pub left_ends : i.left.ends ≡ take loaded.left_sets got.left_ends
  pub left_items : take loaded.left_entries i.left.items ≡ take loaded.left_entries got.left_items
  pub right_ends : i.right.ends ≡ take loaded.right_sets got.right_ends
  pub right_items : take loaded.right_entries i.right.items ≡ take loaded.right_entries got.right_items

-- the filled parts of the lists are such an input
pub over_parts : (loaded : Loaded) (got : Lists) (T : ℕ) → OverLoaded loaded got
    (input_of T (parts_of loaded got).left_ends (parts_of loaded got).left_items (parts_of loaded got).right_ends
    (parts_of loaded got).right_items)
over_parts loaded got T =
    record {
      left_ends = refl;
      left_items = take-take loaded.left_entries loaded.left_entries got.left_items (omega arith);
      right_ends = refl;
      right_items = take-take loaded.right_entries loaded.right_entries got.right_items (omega arith);
    }

-- and so are the filled ends with the whole lists of items
pub over_whole : (loaded : Loaded) (got : Lists) (T : ℕ)
    → OverLoaded loaded got
    (input_of T (parts_of loaded got).left_ends got.left_items (parts_of loaded got).right_ends got.right_items)
over_whole loaded got T = record { left_ends = refl; left_items = refl; right_ends = refl; right_items = refl }

-- sets that were joined, whatever stands after their items
sets_from_lem : (before : List ℕ) (start : ℕ) (sets : List (List ℕ)) (rest : List ℕ) → length before ≡ start
    → sets_from start (ends_from start sets) (before ++ (flatten sets ++ rest)) ≡ sets
unfolding sets_from ends_from flatten
sets_from_lem before start [] rest e = refl
sets_from_lem before start (set ∷ sets) rest e =
    let next : length (before ++ set) ≡ start + length set = rw (length-append, e) in
    let again : sets_from (start + length set) (ends_from (start + length set) sets) (before ++ (set ++ (flatten sets ++ rest))) ≡ sets =
    rw (append_assoc before set (flatten sets ++ rest)) at (sets_from_lem (before ++ set) (start + length set) sets rest next) in
    rw (append_assoc set (flatten sets) rest, between_joined before set (flatten sets ++ rest) start e, again)

sets_begin : (sets : List (List ℕ)) (items : List ℕ) (n : ℕ) → take n items ≡ flatten sets → sets_of (ends_from 0 sets) items ≡ sets
sets_begin sets items n begins =
    ap (λ (l : List ℕ). sets_of (ends_from 0 sets) l)
    (sym (take-append-drop n items) ∙ ap (λ (l : List ℕ). l ++ drop n items) begins)
    ∙ sets_from_lem [] 0 sets (drop n items) refl

-- ---- lists that hold what records give

module _ {rs : List TagRecord} {loaded : Loaded} {got : Lists} (fills : Fills rs loaded got) where
  -- the sets by place of an input made of them are the records' items
  module _ (i : Input) (over : OverLoaded loaded got i) where
    pub fills_left_sets : left_sets i ≡ sets_of_side Left (tag_table rs) rs
    fills_left_sets =
        ap (λ (ends : List ℕ). sets_of ends i.left.items) (over.left_ends ∙ ap (λ (p : Lists). p.left_ends) fills.lists)
        ∙ sets_begin (sets_of_side Left (tag_table rs) rs) i.left.items loaded.left_entries
        (over.left_items ∙ ap (λ (p : Lists). p.left_items) fills.lists)

    pub fills_right_sets : right_sets i ≡ sets_of_side Right (tag_table rs) rs
    fills_right_sets =
        ap (λ (ends : List ℕ). sets_of ends i.right.items) (over.right_ends ∙ ap (λ (p : Lists). p.right_ends) fills.lists)
        ∙ sets_begin (sets_of_side Right (tag_table rs) rs) i.right.items loaded.right_entries
        (over.right_items ∙ ap (λ (p : Lists). p.right_items) fills.lists)

  -- the number at a place is the record's
  number_at : (side : Side) (numbers : List ℕ) (n k : ℕ) → take n numbers ≡ numbers_of side rs
      → n ≡ length (of_side side rs) → k < n → get_or numbers k 0 ≡ (record_of side rs k).number
  number_at side numbers n k same many within =
      sym (get_or-take n numbers k 0 within) ∙ ap (λ (l : List ℕ). get_or l k 0) same
      ∙ map_at (λ r. r.number) (of_side side rs) k no_record 0 (omega arith)

  pub fills_left_number : (l : ℕ) → l < loaded.left_sets → get_or got.left_numbers l 0 ≡ (record_of Left rs l).number
  fills_left_number l within =
      number_at Left got.left_numbers loaded.left_sets l (ap (λ (p : Lists). p.left_numbers) fills.lists)
      (ap (λ (c : Loaded). c.left_sets) fills.counted) within

  pub fills_right_number : (r : ℕ) → r < loaded.right_sets → get_or got.right_numbers r 0 ≡ (record_of Right rs r).number
  fills_right_number r within =
      number_at Right got.right_numbers loaded.right_sets r (ap (λ (p : Lists). p.right_numbers) fills.lists)
      (ap (λ (c : Loaded). c.right_sets) fills.counted) within

  -- the tag of a lesser item is below that of a greater one, as unsigned bytes
  pub fills_tags_rise : records_fit rs ≡ true → (i j : ℕ) → i < j → j < loaded.tag_count
      → bytes_below (tag_in (parts_of loaded got).tags i) (tag_in (parts_of loaded got).tags j) ≡ true
  fills_tags_rise fit i j less within =
      let many : loaded.tag_count ≡ length (tag_table rs) = ap (λ (c : Loaded). c.tag_count) fills.counted in
      ap (λ (l : Lists). bytes_below (tag_in l.tags i) (tag_in l.tags j)) fills.lists
      ∙ table_order (tag_table rs) (rising-collapse (all_tags rs)) (table_fit rs fit) i j less (omega arith)

-- ---- after a load that is accepted

module _ (file : List ℕ) {lent got : Lists} {loaded : Loaded} {repeats : Repeats}
    (loads : LoadCall file lent got (Ok (loaded, repeats))) where
  load_accepted : LoadAccepted file lent loaded repeats
  load_accepted = accepted file lent loaded repeats (sym loads.answered)

  -- its counts are the records', and so are its repeats
  pub load_counts : loaded ≡ totals_of (records file)
  load_counts = sym load_accepted.counted

  pub load_repeats : repeats ≡ repeat_totals (records file)
  load_repeats = sym load_accepted.repeated

  -- its lists hold what the records give
  pub load_fills : Fills (records file) loaded got
  load_fills =
      lists_fill (records file) lent got (load_answer file lent) loaded repeats (sym loads.answered) load_counts
      (call_lists loads)

  pub load-filled : parts_of loaded got ≡ filled (records file)
  load-filled = load_fills.lists

  module _ (i : Input) (over : OverLoaded loaded got i) where
    pub load-left_sets : left_sets i ≡ sets_of_side Left (tag_table (records file)) (records file)
    load-left_sets = fills_left_sets load_fills i over

    pub load-right_sets : right_sets i ≡ sets_of_side Right (tag_table (records file)) (records file)
    load-right_sets = fills_right_sets load_fills i over

  pub load_left_number : (l : ℕ) → l < loaded.left_sets → get_or got.left_numbers l 0 ≡ (record_of Left (records file) l).number
  load_left_number l within = fills_left_number load_fills l within

  pub load_right_number : (r : ℕ) → r < loaded.right_sets
      → get_or got.right_numbers r 0 ≡ (record_of Right (records file) r).number
  load_right_number r within = fills_right_number load_fills r within

  -- no number stands twice on a side, so a number tells its record
  pub load_numbers_distinct : (side : Side) → distinct (numbers_of side (records file)) ≡ true
  load_numbers_distinct side = (file_free file load_accepted.clear).numbers side

  pub load_tags_rise : ((i : ℕ) → get_or file i 0 < 256) → (i j : ℕ) → i < j → j < loaded.tag_count
      → bytes_below (tag_in (parts_of loaded got).tags i) (tag_in (parts_of loaded got).tags j) ≡ true
  load_tags_rise low i j less within = fills_tags_rise load_fills (file_fit file low) i j less within

-- Inner: a right set of the first file is written where its union with the second file's has room; its slot then says where it is and
-- how many items it has by itself.
use Rattle.std.specs.Prelude.{ℕ, ◌+◌, ◌-◌, ◌*◌, ◌<◌, ◌≤◌, ◌≡◌, List, [], ◌∷◌, cond, ltb, length, get_or, set}
use Rattle.std.proofs.Math.Seq as seq
use Rattle.lists.specs.Writing.{Put}
use Rattle.sets.specs.Limits.{max_entries, half_words}
use Rattle.tag_loader.specs.declared.record_items.Filled.{Filled}
use Rattle.pool_scan.specs.right_slots.Slots.{pooled_mark}

-- the length that a right set of the first file takes, by the word of its slot and how many items it has by itself
abbrev pub length_by : ℕ → ℕ → ℕ
length_by word own = cond (ltb word pooled_mark) own (word - pooled_mark)

-- where a right set of the first file is and how many items it has by itself, as one word
abbrev pub place_word : ℕ → ℕ → ℕ
place_word start own = start * half_words + own

-- there is room for one more right set of the first file, as long as the word of its slot says: its number, its end, which fits,
-- and its own items
pub record RoomForOwn (place entries word : ℕ) (new numbers ends items : List ℕ) : Type 0 where
  pub for_number : place < length numbers
  pub for_end : place < length ends
  pub for_items : entries + length new ≤ length items
  pub small : length new < half_words
  pub few : entries + length_by word (length new) ≤ max_entries

-- one more right set of the first file was written
pub record OwnFilled (place entries number slot : ℕ) (new slots numbers ends items : List ℕ) (r : Filled)
    (now-slots now-numbers now-ends now-items : List ℕ) : Type 0 where
  pub put_slot : now-slots ≡ set slots slot (place_word entries (length new))
  pub put_number : Put numbers place (number ∷ []) r.sets now-numbers
  pub put_end : Put ends place ((entries + length_by (get_or slots slot 0) (length new)) ∷ []) r.sets now-ends
  pub put_items : now-items ≡ seq.sets items entries new
  pub past : r.entries ≡ entries + length_by (get_or slots slot 0) (length new)

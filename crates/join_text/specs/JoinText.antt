-- The text that the program kitlist prints for a join of two numbered collections, with the repeats that were read with them, and how
-- it joins. Document 01, "The program kitlist"; document 02, C-15. Kits are left sets here and stacks right sets. The text of an
-- answer is defined in `text`; the rank table and the join's answer are those of the operations.
use Rattle.std.specs.Prelude.{ℕ, ◌*◌, ◌-◌, ◌≤◌, ◌≡◌, List, false, length}
use Rattle.sets.specs.Limits.{full_words}
use Rattle.sets.specs.Lent.{filled_over}
use Rattle.inputs.specs.Input.{Input, left_sets, right_sets}
use Rattle.item_order_spec.specs.Order.{rank_table}
use Rattle.join_spec.specs.declared.Rule.TheVariants.{Merge}
use Rattle.join_spec.specs.PairList.{pair_list}
use Rattle.join_spec.specs.Query.{Settings, settings_of}
use Rattle.join_spec.specs.Answer.{Room, join_answer}
use Rattle.tag_file.specs.declared.Repeats.{Repeats}
use Rattle.text.specs.answer_text.AnswerText.{answer_text}

-- the words of the work list, and the places of the pair list: two for each of 8,192 pairs
abbrev pub work_words : ℕ
work_words = 16384

abbrev pub pair_places : ℕ
pair_places = 2 * 8192

abbrev pub program_room : Room
program_room = record { words = work_words; places = pair_places }

-- how it joins under a rank table: limit 2, the greatest allowance, Merge
abbrev pub settings_under : List ℕ → Settings
settings_under ranks = settings_of 2 ranks (full_words - 1) Merge

-- the same with ranks by rising frequency
abbrev pub program_settings : Input → Settings
program_settings i = settings_under (rank_table false i.T (left_sets i) (right_sets i))

-- the text of a join of two numbered collections
unfoldable pub join_text : Repeats → List ℕ → List ℕ → Input → Settings → List ℕ
join_text repeats left_numbers right_numbers i s =
    answer_text repeats left_numbers right_numbers (pair_list (left_sets i) (right_sets i)) (join_answer i s program_room)

-- a text fills a lent list from its beginning, which is as before beyond; r is the text's length, and the list has room for it
pub record FillsText (text was : List ℕ) (r : ℕ) (is : List ℕ) : Type 0 where
  pub long : r ≡ length text
  pub room : r ≤ length was
  pub list : is ≡ filled_over text was

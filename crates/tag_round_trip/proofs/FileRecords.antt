-- The records of a file of bytes: each has at most 255 tags, each tag is a number of 12 bytes, and each number one of two
-- bytes. So those of a file without a fault are such as the round trip needs.
use mathlib.Core.Path.{◌≡◌, refl, sym, ◌∙◌}
use Prim.Native.Nat.{ℕ, zero, suc, ◌+◌, ◌^◌, ◌≤◌, ◌<◌}
use mathlib.Core.List.{List, [], ◌∷◌}
use mathlib.Core.Bool.{true}
use native.Mathlib.Omega.{arith}
use borrow.Author.Tests.{lt-ltb, le-leb}
use lib.Dec.{ltb, leb}
use lib.ListN.{length, get_or}
use Rattle.std.specs.Prelude.{Ok}
use Rattle.lists.specs.Lists.{all}
use Rattle.lists.proofs.Bools.{and_both, and_left, and_right}
use Rattle.lists.proofs.Throughout.{all_append, all_intro, all_elim}
use Rattle.sets.specs.Limits.{max_set_length, half_words}
use Rattle.tag_file.specs.Format.{tag_length}
use Rattle.tag_file.specs.Reading.{read_at, tags_at}
use Rattle.tag_file.specs.Records.{TagRecord, onward, records_from, records, all_tags, tag_table}
use Rattle.tag_file.specs.Loading.{file_fault}
use Rattle.tag_file.specs.declared.ReadAnswer.{ReadAnswer}
use Rattle.tag_file.specs.declared.ReadAnswer.TheVariants.{Record, NoMore, Refused}
use Rattle.tag_file.proofs.FaultFree.{FaultFree, file_free}
use Rattle.tag_file.proofs.RecordLaws.{read_whole, read_number, length-tags_at}
use Rattle.tag_file.proofs.Tables.{memb-collapse}
use Rattle.tag_round_trip.proofs.Printing.{records_fit}
use Rattle.tag_round_trip.proofs.Refilled.{sets_few, sets_few_lem}
use Rattle.tag_round_trip.proofs.Values.{tags_fit, tag_at_bound}

-- the tags of fitting records fit, and so does their table
pub all_tags_fit : (rs : List TagRecord) → records_fit rs ≡ true → tags_fit (all_tags rs) ≡ true
unfolding all all_tags
all_tags_fit [] fit = refl
all_tags_fit (r ∷ rs) fit =
    all_append (λ t. ltb t (256 ^ tag_length)) r.tags (all_tags rs) (and_left (tags_fit r.tags) (records_fit rs) fit)
    (all_tags_fit rs (and_right (tags_fit r.tags) (records_fit rs) fit))

pub table_fit : (rs : List TagRecord) → records_fit rs ≡ true → tags_fit (tag_table rs) ≡ true
table_fit rs fit =
    all_intro (λ t. ltb t (256 ^ tag_length)) (tag_table rs)
    (λ x m. all_elim (λ t. ltb t (256 ^ tag_length)) (all_tags rs) (all_tags_fit rs fit) x (sym (memb-collapse x (all_tags rs)) ∙ m))

module _ (file : List ℕ) (low : (i : ℕ) → get_or file i 0 < 256) where
  tags_at_fit : (n at : ℕ) → tags_fit (tags_at n file at) ≡ true
  unfolding all tags_at
  tags_at_fit zero at = refl
  tags_at_fit (suc n) at = and_both (lt-ltb _ _ (tag_at_bound file at low)) (tags_at_fit n (at + tag_length))

  fit_from : (fuel at : ℕ) → records_fit (records_from fuel file at) ≡ true
  unfolding all records_from
  fit_from zero at = refl
  fit_from (suc fuel) at = here (λ next. fit_from fuel next) (read_at file at)
    where
      here : ((next : ℕ) → records_fit (records_from fuel file next) ≡ true) → (a : ReadAnswer)
          → records_fit (onward a file (λ next. records_from fuel file next)) ≡ true
      here again (Record s n c p next) = and_both (tags_at_fit c p) (again next)
      here again NoMore = refl
      here again (Refused why) = refl

  few_from : (fuel at : ℕ) → all (λ r. leb (length r.tags) max_set_length) (records_from fuel file at) ≡ true
  unfolding all records_from
  few_from zero at = refl
  few_from (suc fuel) at = here (λ next. few_from fuel next) (read_at file at) refl
    where
      here : ((next : ℕ) → all (λ r. leb (length r.tags) max_set_length) (records_from fuel file next) ≡ true) → (a : ReadAnswer)
          → read_at file at ≡ a
          → all (λ r. leb (length r.tags) max_set_length) (onward a file (λ next. records_from fuel file next)) ≡ true
      here again (Record s n c p next) e =
          let w = read_whole file at s n c p next e in
          let byte = low (at + 4) in
          let size = length-tags_at c file p in
          let few : length (tags_at c file p) ≤ max_set_length = omega (arith, w.count) in
          and_both (le-leb (length (tags_at c file p)) max_set_length few) (again next)
      here again NoMore e = refl
      here again (Refused why) e = refl

  numbers_from : (fuel at : ℕ) → all (λ r. ltb r.number half_words) (records_from fuel file at) ≡ true
  unfolding all records_from
  numbers_from zero at = refl
  numbers_from (suc fuel) at = here (λ next. numbers_from fuel next) (read_at file at) refl
    where
      here : ((next : ℕ) → all (λ r. ltb r.number half_words) (records_from fuel file next) ≡ true) → (a : ReadAnswer)
          → read_at file at ≡ a
          → all (λ r. ltb r.number half_words) (onward a file (λ next. records_from fuel file next)) ≡ true
      here again (Record s n c p next) e = and_both (lt-ltb n half_words (read_number file at e low)) (again next)
      here again NoMore e = refl
      here again (Refused why) e = refl

  pub file_numbers : all (λ r. ltb r.number half_words) (records file) ≡ true
  file_numbers = numbers_from (length file) 0

  pub file_fit : records_fit (records file) ≡ true
  file_fit = fit_from (length file) 0

  pub file_few : all (λ r. leb (length r.tags) max_set_length) (records file) ≡ true
  file_few = few_from (length file) 0

-- ---- what the round trip needs of records

-- no number twice on a side and the limits; tags of 12 bytes; no set longer than the greatest length
pub record Loadable (rs : List TagRecord) : Type 0 where
  pub free : FaultFree rs
  pub fit : records_fit rs ≡ true
  pub few : sets_few rs ≡ true

pub file_loadable : (file : List ℕ) → ((i : ℕ) → get_or file i 0 < 256) → file_fault file ≡ Ok tt → Loadable (records file)
file_loadable file low clear =
    record { free = file_free file clear; fit = file_fit file low; few = sets_few_lem (records file) (file_few file low) }

-- The records that a loaded file becomes: each side's, the tag table, the sets, numbers, entries and counts are as they were, and
-- there are no repeats.
use mathlib.Core.Path.{◌≡◌, refl, sym, ap, ◌∙◌}
use Prim.Native.Nat.{ℕ}
use mathlib.Core.List.{List, [], ◌∷◌, map, append-nil}
use mathlib.Core.Bool.{Bool, true, false, ◌||◌, or_assoc}
use native.Mathlib.Omega.{arith}
use lib.ListN.{length, length-map}
use Rattle.lists.specs.Lists.{keep, onto, memb, any, sum}
use Rattle.lists.proofs.Bools.{or_swap}
use Rattle.lists.proofs.Membership.{memb_append}
use Rattle.lists.proofs.Throughout.{any_append}
use Rattle.lists.proofs.Filtering.{keep_append}
use Rattle.lists.proofs.Rising.{rising_same}
use Rattle.sets.specs.declared.Side.{Side}
use Rattle.sets.specs.declared.Side.TheVariants.{Left, Right}
use Rattle.tag_file.specs.Records.{TagRecord, same_side, of_side, collapse, all_tags, tag_table, items_of, entries_of, sets_of_side}
use Rattle.tag_file.specs.Repeats.{repeats_in, repeats_of, repeat_totals, no_repeats}
use Rattle.tag_file.specs.Loading.{numbers_of, filled, totals_of}
use Rattle.tag_file.proofs.Tables.{rising-collapse, memb-collapse}
use Rattle.tag_file.proofs.RepeatLaws.{rising_repeats}
use Rattle.tag_round_trip.specs.Rewritten.{collapsed, collapsed_side, rewritten}
use Rattle.tag_round_trip.proofs.Items.{items_collapse}
use Rattle.tag_round_trip.proofs.Sorted.{collapse-collapse}

-- ---- maps and filters of records

module _ {A : Type 0} where
  keep_kept : (p : A → Bool) (f : A → A) → ((x : A) → p (f x) ≡ p x) → (xs : List A)
      → keep p (map f (keep p xs)) ≡ map f (keep p xs)
  unfolding keep
  keep_kept p f same [] = refl
  keep_kept p f same (x ∷ xs) = here (p x) refl (keep_kept p f same xs)
    where
      here : (b : Bool) → p x ≡ b → keep p (map f (keep p xs)) ≡ map f (keep p xs)
          → keep p (map f (onto b x (keep p xs))) ≡ map f (onto b x (keep p xs))
      here true t rest = rw (same x, t, rest)
      here false t rest = rest

  keep_other : (p q : A → Bool) (f : A → A) → ((x : A) → p x ≡ true → q (f x) ≡ false) → (xs : List A)
      → keep q (map f (keep p xs)) ≡ []
  unfolding keep
  keep_other p q f never [] = refl
  keep_other p q f never (x ∷ xs) = here (p x) refl (keep_other p q f never xs)
    where
      here : (b : Bool) → p x ≡ b → keep q (map f (keep p xs)) ≡ [] → keep q (map f (onto b x (keep p xs))) ≡ []
      here true t rest = rw (never x t, rest)
      here false t rest = rest

  map_after : {B : Type 0} (f : A → B) (g : A → A) → ((x : A) → f (g x) ≡ f x) → (xs : List A) → map f (map g xs) ≡ map f xs
  map_after f g same [] = refl
  map_after f g same (x ∷ xs) = rw (same x, map_after f g same xs)

  sum_after : (f : A → ℕ) (g : A → A) → ((x : A) → f (g x) ≡ f x) → (xs : List A) → sum f (map g xs) ≡ sum f xs
  unfolding sum
  sum_after f g same [] = refl
  sum_after f g same (x ∷ xs) = rw (same x, sum_after f g same xs)

  any_after : (p : A → Bool) (g : A → A) → ((x : A) → p (g x) ≡ p x) → (xs : List A) → any p (map g xs) ≡ any p xs
  unfolding any
  any_after p g same [] = refl
  any_after p g same (x ∷ xs) = rw (same x, any_after p g same xs)

-- ---- each side

pub other_left : (s : Side) → same_side Left s ≡ true → same_side Right s ≡ false
other_left Left e = refl
other_left Right e = sym e

pub other_right : (s : Side) → same_side Right s ≡ true → same_side Left s ≡ false
other_right Left e = sym e
other_right Right e = refl

-- the records of a side are, collapsed, those of the file
side_rewritten : (side : Side) (rs : List TagRecord) → of_side side (rewritten rs) ≡ collapsed_side side rs
unfolding rewritten
side_rewritten Left rs =
    keep_append (λ r. same_side Left r.side) (collapsed_side Left rs) (collapsed_side Right rs)
    ∙ rw (
      keep_kept (λ r. same_side Left r.side) collapsed (λ r. refl) rs,
      keep_other (λ r. same_side Right r.side) (λ r. same_side Left r.side) collapsed (λ r. other_right r.side) rs,
      append-nil,
    )
side_rewritten Right rs =
    keep_append (λ r. same_side Right r.side) (collapsed_side Left rs) (collapsed_side Right rs)
    ∙ rw (
      keep_kept (λ r. same_side Right r.side) collapsed (λ r. refl) rs,
      keep_other (λ r. same_side Left r.side) (λ r. same_side Right r.side) collapsed (λ r. other_left r.side) rs,
    )

module _ (side : Side) (rs : List TagRecord) where
  pub numbers_rewritten : numbers_of side (rewritten rs) ≡ numbers_of side rs
  numbers_rewritten =
      ap (map (λ r. r.number)) (side_rewritten side rs) ∙ map_after (λ r. r.number) collapsed (λ r. refl) (of_side side rs)

  sets-rewritten : (table : List ℕ) → sets_of_side side table (rewritten rs) ≡ sets_of_side side table rs
  sets-rewritten table =
      ap (map (λ r. items_of table r.tags)) (side_rewritten side rs)
      ∙ map_after (λ r. items_of table r.tags) collapsed (λ r. items_collapse table r.tags) (of_side side rs)

  pub entries-rewritten : entries_of side (rewritten rs) ≡ entries_of side rs
  entries-rewritten =
      ap (sum (λ r. length (collapse r.tags))) (side_rewritten side rs)
      ∙ sum_after (λ r. length (collapse r.tags)) collapsed (λ r. ap length (collapse-collapse r.tags)) (of_side side rs)

  pub places_rewritten : length (of_side side (rewritten rs)) ≡ length (of_side side rs)
  places_rewritten = ap length (side_rewritten side rs) ∙ length-map (of_side side rs) collapsed

-- ---- repeats: collapsed tags rise strictly, so there are none

collapsed_repeats : (rs : List TagRecord) → sum (λ r. repeats_in r.tags) (map collapsed rs) ≡ 0
unfolding sum
collapsed_repeats [] = refl
collapsed_repeats (r ∷ rs) =
    omega (arith, rising_repeats (collapse r.tags) (rising-collapse r.tags), collapsed_repeats rs)

pub repeats_rewritten : (rs : List TagRecord) → repeat_totals (rewritten rs) ≡ no_repeats
repeats_rewritten rs = rw (none Left, none Right)
  where
    none : (side : Side) → repeats_of side (rewritten rs) ≡ 0
    none side = ap (sum (λ r. repeats_in r.tags)) (side_rewritten side rs) ∙ collapsed_repeats (of_side side rs)

-- ---- the tag table

memb-all_tags : (x : ℕ) (rs : List TagRecord) → memb x (all_tags rs) ≡ any (λ r. memb x r.tags) rs
unfolding all_tags any memb
memb-all_tags x [] = refl
memb-all_tags x (r ∷ rs) = memb_append x r.tags (all_tags rs) ∙ ap (λ (b : Bool). memb x r.tags || b) (memb-all_tags x rs)

any_sides : (p : TagRecord → Bool) (rs : List TagRecord) → (any p (of_side Left rs) || any p (of_side Right rs)) ≡ any p rs
unfolding any keep
any_sides p [] = refl
any_sides p (r ∷ rs) =
    here r.side (of_side Left rs) (of_side Right rs) ∙ ap (λ (b : Bool). p r || b) (any_sides p rs)
  where
    here : (s : Side) (xs ys : List TagRecord)
        → (any p (onto (same_side Left s) r xs) || any p (onto (same_side Right s) r ys)) ≡ (p r || (any p xs || any p ys))
    here Left xs ys = or_assoc (p r) (any p xs) (any p ys)
    here Right xs ys = or_swap (any p xs) (p r) (any p ys)

pub table_rewritten : (rs : List TagRecord) → tag_table (rewritten rs) ≡ tag_table rs
unfolding rewritten
table_rewritten rs =
    rising_same (tag_table (rewritten rs)) (tag_table rs) (rising-collapse (all_tags (rewritten rs))) (rising-collapse (all_tags rs))
    (λ x. memb-collapse x (all_tags (rewritten rs)) ∙ memb-all_tags x (rewritten rs) ∙ sides x ∙ sym (memb-all_tags x rs)
    ∙ sym (memb-collapse x (all_tags rs)))
  where
    sides : (x : ℕ) → any (λ r. memb x r.tags) (rewritten rs) ≡ any (λ r. memb x r.tags) rs
    sides x =
        any_append (λ r. memb x r.tags) (collapsed_side Left rs) (collapsed_side Right rs)
        ∙ rw (
          any_after (λ r. memb x r.tags) collapsed (λ r. memb-collapse x r.tags) (of_side Left rs),
          any_after (λ r. memb x r.tags) collapsed (λ r. memb-collapse x r.tags) (of_side Right rs),
        )
        (any_sides (λ r. memb x r.tags) rs)

-- ---- what is filled, and the counts

pub filled-rewritten : (rs : List TagRecord) → filled (rewritten rs) ≡ filled rs
filled-rewritten rs =
    rw (
      table_rewritten rs,
      numbers_rewritten Left rs,
      numbers_rewritten Right rs,
      sets-rewritten Left rs (tag_table rs),
      sets-rewritten Right rs (tag_table rs),
    )

pub counts_rewritten : (rs : List TagRecord) → totals_of (rewritten rs) ≡ totals_of rs
counts_rewritten rs =
    rw (
      table_rewritten rs,
      places_rewritten Left rs,
      places_rewritten Right rs,
      entries-rewritten Left rs,
      entries-rewritten Right rs,
    )

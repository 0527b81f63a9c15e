-- Repeats: distinct tags and repeats are all tags of a record; so the entries of a side and its repeats are its reads. They are no more
-- than the file has room for, rising tags have none, and one more record adds its own.
use mathlib.Core.Path.{◌≡◌, refl, sym, ap, ◌∙◌}
use mathlib.Core.List.{List, [], ◌∷◌, ◌++◌, append-nil}
use mathlib.Core.Bool.{Bool, true, false, not}
use Prim.Native.Nat.{ℕ, ◌+◌, ◌*◌, ◌-◌, ◌≤◌}
use native.Mathlib.Nat.{add-zero}
use native.Mathlib.Omega.{arith}
use lib.ListN.{length, length-append}
use Rattle.std.specs.Prelude.{Ok}
use Rattle.lists.specs.Lists.{one, onto, keep, sum, memb, rising}
use Rattle.lists.proofs.Rising.{rising_same}
use Rattle.lists.proofs.Filtering.{keep_append}
use Rattle.lists.proofs.Summing.{sum_same, sum-add, sum_append}
use Rattle.sets.specs.declared.Side.{Side}
use Rattle.sets.specs.declared.Side.TheVariants.{Left, Right}
use Rattle.tag_file.specs.Format.{tag_length, record_length}
use Rattle.tag_file.specs.Records.{TagRecord, total_length, records, same_side, of_side, collapse, entries_of}
use Rattle.tag_file.specs.Repeats.{repeats_in, repeats_of, reads_of}
use Rattle.tag_file.specs.Loading.{Lists, load_answer}
use Rattle.tag_file.specs.declared.Loaded.{Loaded}
use Rattle.tag_file.specs.declared.Repeats.{Repeats}
use Rattle.tag_file.proofs.AnswerLaws.{accepted}
use Rattle.tag_file.proofs.Tables.{rising-collapse, memb-collapse, collapse_last, length-insert_all_bound}

-- ---- one record

pub distinct_and_repeats : (tags : List ℕ) → length (collapse tags) + repeats_in tags ≡ length tags
unfolding repeats_in
distinct_and_repeats tags = omega (arith, length-insert_all_bound [] tags)

-- by its count and its distinct tags
pub repeats_are : (tags : List ℕ) (count fresh : ℕ) → length tags ≡ count → fresh ≡ length (collapse tags)
    → count - fresh ≡ repeats_in tags
unfolding repeats_in
repeats_are tags count fresh c f = rw (c, f)

-- one tag more is a repeat where it is among those before it
pub repeats_in_last : (tags : List ℕ) (x : ℕ) → repeats_in (tags ++ (x ∷ [])) ≡ repeats_in tags + one (memb x tags)
repeats_in_last tags x =
    omega (
      arith,
      collapse_last tags x,
      either (memb x tags),
      distinct_and_repeats tags,
      distinct_and_repeats (tags ++ (x ∷ [])),
      length-append tags (x ∷ []),
    )
  where
    either : (b : Bool) → one b + one (not b) ≡ 1
    either true = refl
    either false = refl

-- tags that rise strictly have none
pub rising_repeats : (tags : List ℕ) → rising tags ≡ true → repeats_in tags ≡ 0
rising_repeats tags r =
    let same : collapse tags ≡ tags = rising_same (collapse tags) tags (rising-collapse tags) r (λ z. memb-collapse z tags) in
    omega (arith, distinct_and_repeats tags, ap length same)

-- ---- the records of a side

module _ (side : Side) where
  pub entries_and_repeats : (rs : List TagRecord) → entries_of side rs + repeats_of side rs ≡ reads_of side rs
  entries_and_repeats rs =
      sym (sum-add (λ (r : TagRecord). length (collapse r.tags)) (λ (r : TagRecord). repeats_in r.tags) (of_side side rs))
      ∙ sum_same (λ (r : TagRecord). length (collapse r.tags) + repeats_in r.tags) (λ (r : TagRecord). length r.tags)
      (of_side side rs) (λ r. distinct_and_repeats r.tags)

  -- they lie in the file: each takes the bytes of a tag
  pub repeats_bound : (rs : List TagRecord) → tag_length * repeats_of side rs ≤ total_length rs
  unfolding keep sum
  repeats_bound [] = omega arith
  repeats_bound (r ∷ rs) = by_mine (same_side side r.side) (repeats_bound rs)
    where
      by_mine : (b : Bool) → tag_length * repeats_of side rs ≤ total_length rs
          → tag_length * sum (λ (q : TagRecord). repeats_in q.tags) (onto b r (of_side side rs))
          ≤ record_length (length r.tags) + total_length rs
      by_mine true again = omega (arith, again, distinct_and_repeats r.tags)
      by_mine false again = omega (arith, again)

  module _ (rs : List TagRecord) (r : TagRecord) where
    last_of : of_side side (rs ++ (r ∷ [])) ≡ of_side side rs ++ of_side side (r ∷ [])
    last_of = keep_append (λ q. same_side side q.side) rs (r ∷ [])

    pub of_side_same : same_side side r.side ≡ true → of_side side (rs ++ (r ∷ [])) ≡ of_side side rs ++ (r ∷ [])
    unfolding keep
    of_side_same e = last_of ∙ rw e

    pub of_side_other : same_side side r.side ≡ false → of_side side (rs ++ (r ∷ [])) ≡ of_side side rs
    unfolding keep
    of_side_other e = last_of ∙ rw (e, append-nil)

    pub repeats_same : same_side side r.side ≡ true → repeats_of side (rs ++ (r ∷ [])) ≡ repeats_of side rs + repeats_in r.tags
    unfolding sum
    repeats_same e =
        ap (sum (λ q. repeats_in q.tags)) (of_side_same e)
        ∙ sum_append (λ (q : TagRecord). repeats_in q.tags) (of_side side rs) (r ∷ [])
        ∙ ap (λ (k : ℕ). repeats_of side rs + k) (add-zero (repeats_in r.tags))

    pub repeats_other : same_side side r.side ≡ false → repeats_of side (rs ++ (r ∷ [])) ≡ repeats_of side rs
    repeats_other e = ap (sum (λ q. repeats_in q.tags)) (of_side_other e)

-- ---- of a load that is accepted: for each side entries and repeats are the reads

pub loaded_reads : (file : List ℕ) (lent : Lists) (totals : Loaded) (repeats : Repeats)
    → load_answer file lent ≡ Ok (totals, repeats)
    → (totals.left_entries + repeats.left ≡ reads_of Left (records file))
    × (totals.right_entries + repeats.right ≡ reads_of Right (records file))
loaded_reads file lent totals repeats e =
    let a = accepted file lent totals repeats e in (
      rw (← a.counted, ← a.repeated) (entries_and_repeats Left (records file)),
      rw (← a.counted, ← a.repeated) (entries_and_repeats Right (records file)),
    )

-- The bucket of a tag, and the chains of a record's tags when there are none yet.
use mathlib.Core.Path.{◌≡◌, refl}
use mathlib.Core.List.{List}
use Prim.Native.Nat.{ℕ, ◌+◌, ◌*◌, ◌%◌, ◌<◌}
use native.Mathlib.Nat.{not-suc-le-zero}
use native.Mathlib.Omega.{arith}
use lib.Arith.{digits_div, digits_mod}
use lib.ListN.{replicate}
use Rattle.lists.proofs.Zeros.{get_d_zeros}
use Rattle.sets.specs.Limits.{max_set_length, full_words}
use Rattle.record_reader.specs.Chains.{buckets, bucket_of, LastIn, Chained}

-- by the two numbers of a tag
pub bucket_of_parts : (hi lo : ℕ) → lo < full_words → (hi % buckets + lo) % buckets ≡ bucket_of (hi * full_words + lo)
unfolding bucket_of
bucket_of_parts hi lo small = rw (digits_div hi small, digits_mod hi small)

-- ---- the last tag of a bucket

module _ (file : List ℕ) (start bucket : ℕ) where
  last_in_start : LastIn file start bucket 0 0
  last_in_start =
      record {
        within = omega arith;
        here = λ some. absurd (not-suc-le-zero some);
        none = λ m from below it. absurd (not-suc-le-zero below);
      }

-- ---- chains

pub chained_start : (file : List ℕ) (start : ℕ) → Chained file start 0 (replicate buckets 0) (replicate max_set_length 0)
chained_start file start =
    record {
      linked = record { full = refl; link = λ i below. absurd (not-suc-le-zero below) };
      full = refl;
      front = λ b fits. rw (get_d_zeros buckets b) (last_in_start file start b);
    }

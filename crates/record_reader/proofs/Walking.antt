-- The walk along the links from a tag: none of the tags that it has passed, nor of those between them, which are in other buckets, is
-- the same. So it ends where the tag is among those before it, or at 0.
use mathlib.Core.Path.{◌≡◌, refl, sym, ap, ◌∙◌}
use mathlib.Core.List.{List}
use mathlib.Core.Bool.{true, false}
use Prim.Native.Nat.{ℕ, zero, suc, ◌+◌, ◌-◌, ◌<◌, ◌≤◌}
use native.Mathlib.Omega.{arith}
use borrow.Author.Tests.{ne_eqb}
use lib.ListN.{get_or}
use Rattle.lists.specs.Lists.{memb}
use Rattle.tag_file.specs.Reading.{tags_at}
use Rattle.tag_file.proofs.RecordLaws.{tags_at_last, memb-tags_at}
use Rattle.tag_file.proofs.Tables.{three_ways, memb_last}
use Rattle.record_reader.specs.Chains.{bucket_of, tag_of, LastIn, Linked}

-- ---- whether x is among the first k tags of a record

module _ (file : List ℕ) (start x : ℕ) where
  absent : (k : ℕ) → ((m : ℕ) → m < k → tag_of file start m ≡ x → ⊥) → memb x (tags_at k file start) ≡ false
  unfolding memb tags_at
  absent zero never = refl
  absent (suc k) never =
      ap (memb x) (tags_at_last k file start) ∙ memb_last x (tags_at k file start) (tag_of file start k)
      ∙ rw (
        absent k (λ m below. never m (omega arith)),
        ne_eqb x (tag_of file start k) (λ e. never k (omega arith) (sym e)),
      )

-- ---- the walk

-- j links to a tag of the same bucket as tag k, and from there up to k no tag is the same as tag k
pub record Walked (file : List ℕ) (start k j : ℕ) : Type 0 where
  pub within : j ≤ k
  pub here : 0 < j → bucket_of (tag_of file start (j - 1)) ≡ bucket_of (tag_of file start k)
  pub none : (m : ℕ) → j ≤ m → m < k → tag_of file start m ≡ tag_of file start k → ⊥

module _ {file : List ℕ} {start k : ℕ} {links : List ℕ} (l : Linked file start (k + 1) links) where
  module _ {j : ℕ} (w : Walked file start k j) (some : 0 < j) {next : ℕ} (e : next ≡ get_or links (j - 1) 0) where
    linked : LastIn file start (bucket_of (tag_of file start (j - 1))) (j - 1) next
    linked = rw e (l.link (j - 1) (omega (arith, w.within)))

    pub walked_step : (tag_of file start (j - 1) ≡ tag_of file start k → ⊥) → Walked file start k next
    walked_step other =
        record {
          within = omega (arith, linked.within, w.within);
          here = λ more. linked.here more ∙ w.here some;
          none = λ m from below same.
              three_ways m (j - 1)
              (λ less. linked.none m from less (ap bucket_of same ∙ sym (w.here some)))
              (λ it. other (sym (ap (tag_of file start) it) ∙ same))
              (λ more. w.none m (omega arith) below same);
        }

module _ {file : List ℕ} {start k j : ℕ} (w : Walked file start k j) where
  pub walked_found : 0 < j → tag_of file start (j - 1) ≡ tag_of file start k
      → true ≡ memb (tag_of file start k) (tags_at k file start)
  walked_found some same =
      sym (ap (λ (x : ℕ). memb x (tags_at k file start)) (sym same) ∙ memb-tags_at k file start (j - 1) (omega (arith, w.within)))

  pub walked_end : j ≤ 0 → false ≡ memb (tag_of file start k) (tags_at k file start)
  walked_end done = sym (absent file start (tag_of file start k) k (λ m below same. w.none m (omega arith) below same))
